use Rattle.std.proofs.Common.{◌≡◌, List, length, Some, rules, subst, ◌∙◌}
use Rattle.is_candidate.specs.Candidates.{CandidateRecord}
use Rattle.is_rules.specs.Agent.{AgentRecord}
use Rattle.is_agent.specs.View.{record_of}
use Rattle.is_rules.specs.Forming.{Combination, FormsAll}
use Rattle.is_rules.specs.Local.{as_own, appended}
use Rattle.is_agent.proofs.agent.Agent.enter_last.Goals as goal

pub returns-clause-entered : goal.returns-clause-entered
returns-clause-entered g c =
    let old = record_of c.args.self.now in let new = record_of c.store_local.new.self in let all = c.deref.result.now in
    let stored = subst (λ (a : AgentRecord g.row.H.Denot g.row.P.Denot). FormsAll (appended c.in_ok-own.field-0.own a) all new) c.in_ok-own.ensures.record c.store_local.ensures.forms in
    let owned = subst (λ (own : CandidateRecord). FormsAll (appended own old) all new) c.in_ok-own.ensures.own stored in
    let formed = subst (λ (each : List Combination). FormsAll (appended (as_own old c.args.candidate) old) each new) (c.deref.ensures.value ∙ c.in_ok-own.ensures.all) owned in
    let place : Some c.store_local.result ≡ Some (length old.local) = search rules in
    (place, c.in_ok-own.ensures.numbers.0, formed)
