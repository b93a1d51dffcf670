use Rattle.std.proofs.Common.{rules, inl, inr}
use Rattle.is_agent.proofs.agent.Agent.sender_at.Goals as goal

pub returns-in_ok-peer_reflexive-in-Unknown : goal.returns-in_ok-peer_reflexive-in-Unknown
returns-in_ok-peer_reflexive-in-Unknown g c = elim c.in-Unknown.is [ inl unknown ↦ search rules | inr vacant ↦ search rules ]
