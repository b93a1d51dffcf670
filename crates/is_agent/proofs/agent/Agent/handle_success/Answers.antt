use Rattle.std.proofs.Common.{◌≡◌, ℕ, List, Option, IfSome, subst, sym, ap, ◌∙◌, true}
use Rattle.std.specs.declared.net.socket_addr.SocketAddr.{SocketAddr}
use Rattle.is_stun.specs.MessageView.{message_view}
use Rattle.is_pair.specs.Multiset.{keeps, keeps_check}
use Rattle.is_pair.specs.Pairs.{PairRecord}
use Rattle.is_rules.specs.Agent.{AgentRecord}
use Rattle.is_agent.specs.View.{record_of}
use Rattle.is_rules.specs.Due.{IsRecorded}
use Rattle.is_rules.specs.Answers.{is_reverse, joined_by, local_with, success_counted, Concludes}
use Rattle.is_rules.specs.Sending.{path_of}
use Rattle.is_agent.proofs.AgentParts.ReceivedResponses.{success-taken}
use Rattle.is_agent.proofs.AgentParts.PairsByNumber.{both, kept-at}
use Rattle.is_agent.proofs.AgentParts.PairsInLists.{numbered-has}
use Rattle.is_agent.proofs.agent.Agent.handle_success.Goals as goal

pub record-requires-clause-kept : goal.record-requires-clause-kept
record-requires-clause-kept g c =
    let old = record_of c.args.self.now in let m = message_view c.args.message.now in
    let (p, found, on) = c.requires.kept in
    let kept = kept-at m.id c.args.number old.pairs p found (both (keeps_check m.id p) (is_reverse c.args.path.now (path_of old p)) on).0 in
    let named = subst (λ (id : List ℕ). keeps id c.args.number old.pairs ≡ true) (sym c.trans_id.ensures) kept in
    subst (λ (a : AgentRecord g.row.H.Denot g.row.P.Denot). keeps c.trans_id.result.0 c.args.number a.pairs ≡ true) (sym c.reserve_success_room.ensures.record) named

pub returns-clause-taken : goal.returns-clause-taken
returns-clause-taken g c =
    let old = record_of c.args.self.now in let recorded = record_of c.record.new.self in let m = message_view c.args.message.now in
    let now = c.args.now.0 in let number = c.args.number in let mapped = c.in_ok-mapped.mapped in
    let (p, found, on) = c.requires.kept in
    let ready = subst (λ (s : AgentRecord g.row.H.Denot g.row.P.Denot). IsRecorded number now c.trans_id.result.0 (joined_by mapped s.local) s recorded)
    c.reserve_success_room.ensures.record c.record.ensures.records in
    let named = subst (λ (id : List ℕ). IsRecorded number now id (joined_by mapped old.local) old recorded) c.trans_id.ensures ready in
    let place = subst (λ (o : Option PairRecord). IfSome o (λ (q : PairRecord). c.local_place_of-l.result ≡ q.local)) found c.local_place_of-l.ensures.place in
    let new_mapped_candidate = c.in_ok-mapped.ensures.new_mapped_candidate p place ∙ ap (λ (a : Option SocketAddr). local_with p a (success_counted old)) c.mapped_address.ensures in
    success-taken now old recorded (record_of c.conclude.new.self) c.args.path.now m c.conclude.result number p (joined_by mapped old.local)
    c.numbers_rise.ensures found on new_mapped_candidate named
    (subst (λ (a : AgentRecord g.row.H.Denot g.row.P.Denot). Concludes now a c.conclude.result (record_of c.conclude.new.self)) c.form_again.ensures.formed c.conclude.ensures.concludes)

pub local_place_of-l-requires : goal.local_place_of-l-requires
local_place_of-l-requires g c = let (p, found, on) = c.requires.kept in numbered-has c.args.number (record_of c.args.self.now).pairs p found
