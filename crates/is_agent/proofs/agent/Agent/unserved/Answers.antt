-- The request at any time is the one that was asked about, except for its time.
use Rattle.std.proofs.Common.{◌≡◌, ℕ, Option, Some, None, rules, subst, ap}
use Rattle.std.proofs.lemmas.Slice.Eq.{bytes_eq-Decides}
use Rattle.std.specs.Prelude.{IfSome, IsSomeAnd, List, [], bytes_eq, not, true, false}
use Rattle.std.specs.Option.{option_map_or}
use Rattle.is_stun.specs.declared.header.Class.{Class}
use Rattle.is_stun.specs.Message.{Message, split_username}
use Rattle.is_stun.specs.MessageView.{message_view}
use Rattle.is_rules.specs.declared.credentials.IceCreds.{IceCreds}
use Rattle.is_rules.specs.declared.emitted.Path.{Path}
use Rattle.is_rules.specs.Accepting.{IsAcceptedAs, IsAddressed}
use Rattle.is_rules.specs.Answers.{keeps_check_on}
use Rattle.is_rules.specs.Agent.{AgentRecord}
use Rattle.is_rules.specs.Request.{RequestRecord, request_in}
use Rattle.is_rules.specs.RequestView.{packet_path}
use Rattle.is_agent.specs.Ready.{NamesPeer}
use Rattle.is_agent.specs.Unserved.{IsUnserved, IsAcceptedRequest}
use Rattle.is_agent.specs.View.{record_of}
use Rattle.is_agent.proofs.AgentParts.RequestsWithoutResponse.{reports, unserved-later}
use Rattle.is_agent.proofs.agent.Agent.unserved.Goals as goal

-- an accepted request names the peer
names-peer : {H P : Type 0} (a : AgentRecord H P) (path : Path) (m : Message) (now : ℕ) → IsAddressed a m → NamesPeer a (request_in now path m)
names-peer a path m now is = by (split_username m.attributes) a.remote_creds is where
  by : (names : Option (List ℕ × List ℕ)) (creds : Option IceCreds)
      → IsSomeAnd names (λ name. (name.0 ≡ a.local_creds.ufrag) × IfSome creds (λ (peer : IceCreds). name.1 ≡ peer.ufrag))
      → IfSome creds (λ _. option_map_or (λ (peer : IceCreds). not (bytes_eq (option_map_or (λ (name : List ℕ × List ℕ). name.1) names []) peer.ufrag)) creds true ≡ false)
  by None creds is = absurd is
  by (Some name) None is = is.1
  by (Some name) (Some peer) is = ap not ((bytes_eq-Decides name.1 peer.ufrag).1 is.1)

pub returns-then-accepts_as_request : goal.returns-then-accepts_as_request
returns-then-accepts_as_request g c =
    let mac = g.H.Sha1HmacProvider.mac in let a = record_of c.args.self.now in let path = packet_path c.args.packet.now in
    let m = message_view c.args.packet.now.message in let why = c.unserved_request.result in
    let accepted : IsAcceptedRequest mac a path m = search rules in
    let addressed = (subst (λ (k : Class). IsAcceptedAs mac k (keeps_check_on a path m.id) a m) accepted.0 accepted.1.1).0 in
    let is : IsUnserved a (request_in 0 path m) why = subst (λ (q : RequestRecord). IsUnserved a q why) c.new.ensures c.unserved_request.ensures in
    record {
      reason = λ yes now. unserved-later a path m 0 now why is;
      response = λ yes now. reports mac a (request_in now path m) why (names-peer a path m now addressed) (unserved-later a path m 0 now why is);
      other = λ no. absurd (no accepted);
    }
