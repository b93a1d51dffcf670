use Rattle.is_candidate.proofs.Common.{◌<◌, ◌^◌, ap, arith, candidate_priority, CandidateRecord, IfSome, Option, PartsFit, SocketAddr}
use Rattle.is_candidate.proofs.Common.{subst}
use Rattle.is_candidate.proofs.AttributeTexts.PrintedAttributes.{reads_back}
use Rattle.is_candidate.proofs.candidate.round_trip.printed_line_round_trips.Goals as goal

pub returns : goal.returns
returns c =
    let reported : CandidateRecord = c.args.candidate.now in
    let view = c.candidate.view_is in
    let component : reported.component < 2 ^ 16 = omega (arith, ap (λ (v : CandidateRecord). v.component) view) in
    let priority : candidate_priority reported < 2 ^ 32 = omega (arith, c.prio-priority.ensures) in
    let addr : PartsFit reported.addr = subst (λ (v : CandidateRecord). PartsFit v.addr) view c.parts_fit.ensures in
    let raddr : IfSome reported.raddr PartsFit = subst (λ (v : Option SocketAddr). IfSome v PartsFit) c.raddr.ensures c.related_parts_fit.ensures in
    reads_back reported component priority addr raddr
