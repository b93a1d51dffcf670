-- A check that a `handle_timeout` call sends, its response, and what may come between: packets and polls do not remove the
-- pending transaction.
use Rattle.std.specs.Prelude.{◌≡◌, ℕ, true, not, List, [], ◌∷◌}
use Rattle.std.specs.List.{list_any}
use Rattle.rand_core.specs.Stream.{Stream}
use Rattle.is_proto.specs.Lists.{Has}
use Rattle.is_proto.specs.Packets.{Packet}
use Rattle.is_candidate.specs.Candidates.{CandidateRecord}
use Rattle.is_stun.specs.declared.header.Class.TheVariants.{Success}
use Rattle.is_rules.specs.declared.emitted.Path.{Path}
use Rattle.is_rules.specs.Agent.{AgentRecord}
use Rattle.is_rules.specs.Answers.{keeps_check_on}
use Rattle.is_theorems.specs.Delivery.{KnowEachOther, Delivered, IsTaken, SentCheck, ReceivedPacket, ServedCheck}
use Rattle.is_theorems.specs.Rounds.{is_between}
use Rattle.is_rules.specs.Sound.{IsSound, GivesBased}
use Rattle.is_rules.specs.Steps.{Call, Entry, Step}

-- only polls, and packets that are received
abbrev pub AreBetween : {P : Type 0} → List (Call P × Entry) → Type 0
AreBetween xs = (x : Call _ × Entry) → Has xs x → is_between x.0 ≡ true

module _ {H P : Type 0} (mac : H → List ℕ → List ℕ → List ℕ) (answers : P → CandidateRecord → ℕ → ℕ → Type 0) where
  -- An execution of one agent: calls with their recorded results, oldest first. The random words of each call may come from any
  -- stream, as they do when two agents share one source.
  abbrev pub Execution : List (Call P × Entry) → AgentRecord H P → AgentRecord H P → Type 0
  Execution [] old new = new ≡ old
  Execution (x ∷ rest) old new = (mid : AgentRecord H P) × (s t : Stream) × GivesBased x.0 × Step mac answers old s x.0 x.1 mid t × Execution rest mid new

  -- Polls and packets leave each pending transaction, on its path: a response only marks it, and is accepted if it is received
  -- again.
  abbrev pub ChecksStay : Type 0
  ChecksStay =
      (old new : AgentRecord H P) (xs : List (Call P × Entry)) (path : Path) (id : List ℕ) → IsSound old → AreBetween xs → Execution xs old new
      → list_any (keeps_check_on old path id) old.pairs ≡ true → list_any (keeps_check_on new path id) new.pairs ≡ true

  -- Between the two states the agent receives packets and is polled, without a `handle_timeout` call.
  pub record WithoutTimeout (old new : AgentRecord H P) : Type 0 where
    pub calls : List (Call P × Entry)
    pub between : AreBetween calls
    pub execution : Execution calls old new

  -- The check is received as it was sent, before its sender's next `handle_timeout` call. Then the two agents know each other.
  pub record ReceivedSoon (k : SentCheck mac answers) : Type 0 where
    pub near : AgentRecord H P
    pub soon : WithoutTimeout k.sent near
    pub receipt : ReceivedPacket mac answers k.check
    pub know : KnowEachOther mac near receipt.receiver

  -- The response is returned as it was sent, before the next `handle_timeout` call of the agent that receives it.
  pub record ReturnedSoon (near : AgentRecord H P) (response : Packet) : Type 0 where
    pub mid : AgentRecord H P
    pub soon : WithoutTimeout near mid
    pub taken : AgentRecord H P
    pub at : ℕ
    pub returned : Entry
    pub delivered : Delivered mac answers response at mid returned taken

  -- If a check is sent, and soon received in the other role than its sender's, it is served. If its success response is soon
  -- returned, it is accepted.
  abbrev pub ExchangesSucceed : Type 0
  ExchangesSucceed =
      (k : SentCheck mac answers) (c : ReceivedSoon k) → c.receipt.receiver.controlling ≡ not k.sender.controlling
      → (s : ServedCheck mac answers k k.check c.receipt)
      × ((r : ReturnedSoon c.near s.reply) → IsTaken mac answers s.reply r.at r.returned Success)
