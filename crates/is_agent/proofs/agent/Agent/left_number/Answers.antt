use Rattle.std.proofs.Common.{◌≡◌, Bool, true, false, not, if◌then◌else◌, List, [], ◌∷◌, ap, refl, sym, ◌∙◌}
use Rattle.std.specs.List.{list_any}
use Rattle.std.specs.Option.{option_copied}
use Rattle.is_pair.specs.Multiset.{without}
use Rattle.is_pair.specs.Pairs.{PairRecord}
use Rattle.is_rules.specs.Leaving.{gives_way}
use Rattle.is_agent.specs.View.{record_of}
use Rattle.is_agent.proofs.AgentParts.DuePairsAfterRemoval.{selected-has}
use Rattle.is_agent.proofs.AgentParts.PairsByNumber.{has-any}
use Rattle.is_rules.proofs.PairLists.LeftPair.{found-else, found-none, found-one, none-left, one-left, stays-selected}
use Rattle.is_agent.proofs.agent.Agent.left_number.Goals as goal

none-stays : (gone : PairRecord → Bool) (ps : List PairRecord) → list_any gone (without gone ps) ≡ false
none-stays gone [] = refl
none-stays gone (p ∷ ps) = elim (gone p) as (λ b. gone p ≡ b → list_any gone (if not b then p ∷ without gone ps else without gone ps) ≡ false) [
  | true ↦ λ is. none-stays gone ps
  | false ↦ λ is. rw (is) (none-stays gone ps)
] refl

-- if all pairs stay, none is gone
none-gone : (gone : PairRecord → Bool) (ps : List PairRecord) → ps ≡ without gone ps → false ≡ list_any gone ps
none-gone gone ps same = sym (ap (list_any gone) same ∙ none-stays gone ps)

pub returns-in_default-clause-without : goal.returns-in_default-clause-without
returns-in_default-clause-without g c =
    none-left c.args.now.0 (record_of c.args.self.now) c.numbers_rise.ensures (sym c.pair_selected.ensures ∙ ap option_copied c.in_default.is)

pub returns-in_default-clause-left : goal.returns-in_default-clause-left
returns-in_default-clause-left g c =
    let a = record_of c.args.self.now in
    none-gone (gives_way c.args.now.0 a) a.pairs (none-left c.args.now.0 a c.numbers_rise.ensures (sym c.pair_selected.ensures ∙ ap option_copied c.in_default.is))

pub returns-then-not-gives_way-clause-without : goal.returns-then-not-gives_way-clause-without
returns-then-not-gives_way-clause-without g c =
    stays-selected c.args.now.0 (record_of c.args.self.now) c.numbers_rise.ensures c.in-Some.pair.now
    (sym c.pair_selected.ensures ∙ ap option_copied c.in-Some.is) (sym c.gives_way.ensures ∙ c.if-not-gives_way.true)

pub returns-then-not-gives_way-clause-left : goal.returns-then-not-gives_way-clause-left
returns-then-not-gives_way-clause-left g c =
    let a = record_of c.args.self.now in
    none-gone (gives_way c.args.now.0 a) a.pairs (stays-selected c.args.now.0 a c.numbers_rise.ensures c.in-Some.pair.now
    (sym c.pair_selected.ensures ∙ ap option_copied c.in-Some.is) (sym c.gives_way.ensures ∙ c.if-not-gives_way.true))

pub returns-clause-without : goal.returns-clause-without
returns-clause-without g c =
    rw (c.id.ensures) (one-left c.args.now.0 (record_of c.args.self.now) c.numbers_rise.ensures c.in-Some.pair.now
    (sym c.pair_selected.ensures ∙ ap option_copied c.in-Some.is) (sym c.gives_way.ensures ∙ c.if-not-gives_way.false))

pub returns-clause-left : goal.returns-clause-left
returns-clause-left g c =
    let a = record_of c.args.self.now in
    let has = selected-has a.selected_pair a.pairs c.in-Some.pair.now (sym (ap option_copied c.in-Some.is) ∙ c.pair_selected.ensures) in
    sym (has-any (gives_way c.args.now.0 a) a.pairs c.in-Some.pair.now has (sym c.gives_way.ensures ∙ c.if-not-gives_way.false))

pub returns-in_default-clause-found : goal.returns-in_default-clause-found
returns-in_default-clause-found g c =
    found-none c.args.now.0 (record_of c.args.self.now) c.numbers_rise.ensures (sym c.pair_selected.ensures ∙ ap option_copied c.in_default.is)

pub returns-then-not-gives_way-clause-found : goal.returns-then-not-gives_way-clause-found
returns-then-not-gives_way-clause-found g c =
    found-else c.args.now.0 (record_of c.args.self.now) c.numbers_rise.ensures c.in-Some.pair.now
    (sym c.pair_selected.ensures ∙ ap option_copied c.in-Some.is) (sym c.gives_way.ensures ∙ c.if-not-gives_way.true)

pub returns-clause-found : goal.returns-clause-found
returns-clause-found g c =
    rw (c.id.ensures) (found-one c.args.now.0 (record_of c.args.self.now) c.numbers_rise.ensures c.in-Some.pair.now
    (sym c.pair_selected.ensures ∙ ap option_copied c.in-Some.is) (sym c.gives_way.ensures ∙ c.if-not-gives_way.false))
