use Rattle.std.proofs.Common.{◌≡◌, ◌∙◌, true, false, Some, slice_get, sym}
use Rattle.is_agent.specs.View.{record_of}
use Rattle.is_pair.specs.Multiset.{is_named_by}
use Rattle.is_c.proofs.SelectedLemmas.{found_here, found_later}
use Rattle.is_c.proofs.questions.selected_pair.Goals as goal

-- the pair at the index is the one
pub returns-then-is_selected_pair : goal.returns-then-is_selected_pair
returns-then-is_selected_pair c =
    let a = record_of c.args.held.now.agent in
    let here : slice_get a.pairs c.loop-index.index ≡ Some c.in_ok-pair.pair.now = sym c.in_ok-pair.ensures in
    let chosen : is_named_by a.selected_pair c.in_ok-pair.pair.now ≡ true = sym c.is_selected_pair.ensures ∙ c.if-is_selected_pair.true in
    sym (found_here a.selected_pair a.pairs c.loop-index.index c.in_ok-pair.pair.now here chosen) ∙ c.loop-index.invariant

-- it is among those after the index
pub loop-index-preserved : goal.loop-index-preserved
loop-index-preserved c =
    let a = record_of c.args.held.now.agent in
    let here : slice_get a.pairs c.loop-index.index ≡ Some c.in_ok-pair.pair.now = sym c.in_ok-pair.ensures in
    let another : is_named_by a.selected_pair c.in_ok-pair.pair.now ≡ false = sym c.is_selected_pair.ensures ∙ c.if-is_selected_pair.false in
    found_later a.selected_pair a.pairs c.loop-index.index c.in_ok-pair.pair.now here another ∙ c.loop-index.invariant
