use Rattle.is_pair.proofs.Common.{◌∙◌, ◌≡◌, ap, check_of, checked, length, named_after, pair_numbered, PairRecord, refl, rules, slice_get}
use Rattle.is_pair.proofs.Common.{slice_get_read, Some}
use Rattle.is_pair.proofs.PairEntries.ChangedEntry.{found-number, writes}
use Rattle.is_pair.proofs.PairEntries.PlaceOfNumber.{place-found}
use Rattle.is_pair.proofs.ChecklistIndex.IndexAfterCut.{leaves}
use Rattle.is_pair.proofs.ChecklistIndex.IndexAfterCheck.{issued}
use Rattle.is_pair.proofs.PairEntries.WrittenPair.{written-below, written-ranking, written-rises}
use Rattle.is_pair.proofs.checklist.Checklist.new_attempt.Goals as goal

pub follow-requires-clause-left : goal.follow-requires-clause-left
follow-requires-clause-left g c =
    let list = c.args.self.now in
    let ps = list.pairs.items in
    let p = c.index_mut-pair.result.now in
    let id = c.new_attempt_reserved-id.result.0 in
    let after = c.new_attempt_reserved-id.new.self in
    let made : after ≡ checked c.args.now.0 c.args.timing_config.now c.args.controlling id p = c.new_attempt_reserved-id.ensures.sent in
    let at : slice_get ps c.in-Some.place ≡ Some p = slice_get_read _ _ _ _ (ap length c.deref.ensures.value) c.in-Some.ensures.within c.index_mut-pair.ensures.value in
    let found : pair_numbered c.args.number ps ≡ Some p = place-found c.args.number ps c.in-Some.place (search rules) ∙ at in
    leaves c.args.timing_config.now.max_retransmits list.index.items ps c.args.number p after (check_of c.args.now.0 c.args.controlling id p) c.cut_by_next-cut.result
    list.rising found list.indexed (ap (λ (q : PairRecord). q.number) made ∙ found-number c.args.number ps p found)
    (ap (λ (q : PairRecord). q.checks) made) c.cut_by_next-cut.ensures

pub invariant_of-self-clause-rising : goal.invariant_of-self-clause-rising
invariant_of-self-clause-rising g c =
    let list = c.args.self.now in
    let p = c.index_mut-pair.result.now in
    let after = c.new_attempt_reserved-id.new.self in
    let made : after ≡ checked c.args.now.0 c.args.timing_config.now c.args.controlling c.new_attempt_reserved-id.result.0 p = c.new_attempt_reserved-id.ensures.sent in
    let at : slice_get list.pairs.items c.in-Some.place ≡ Some p = slice_get_read _ _ _ _ (ap length c.deref.ensures.value) c.in-Some.ensures.within c.index_mut-pair.ensures.value in
    written-rises c.in-Some.place list.pairs.items _ p after at refl (ap (λ (q : PairRecord). q.number) made) list.rising

pub invariant_of-self-clause-indexed : goal.invariant_of-self-clause-indexed
invariant_of-self-clause-indexed g c =
    let list = c.args.self.now in
    let ps = list.pairs.items in
    let p = c.index_mut-pair.result.now in
    let id = c.new_attempt_reserved-id.result.0 in
    let after = c.new_attempt_reserved-id.new.self in
    let f = checked c.args.now.0 c.args.timing_config.now c.args.controlling id in
    let made : after ≡ f p = c.new_attempt_reserved-id.ensures.sent in
    let at : slice_get ps c.in-Some.place ≡ Some p = slice_get_read _ _ _ _ (ap length c.deref.ensures.value) c.in-Some.ensures.within c.index_mut-pair.ensures.value in
    let found : pair_numbered c.args.number ps ≡ Some p = place-found c.args.number ps c.in-Some.place (search rules) ∙ at in
    issued c.args.timing_config.now.max_retransmits ps _ list.index.items c.follow.new.index.items c.args.number f p id (check_of c.args.now.0 c.args.controlling id p)
    c.requires.retransmits list.rising list.indexed found (λ q. refl) refl refl
    (writes c.args.number f ps c.in-Some.place p after list.rising at (found-number c.args.number ps p found) made)
    (λ i k. c.follow.ensures.named i k ∙ ap (λ (q : PairRecord). named_after q id i k list.index.items) made)

pub invariant_of-self-clause-ranked : goal.invariant_of-self-clause-ranked
invariant_of-self-clause-ranked g c =
    let list = c.args.self.now in
    let p = c.index_mut-pair.result.now in
    let after = c.new_attempt_reserved-id.new.self in
    let made : after ≡ checked c.args.now.0 c.args.timing_config.now c.args.controlling c.new_attempt_reserved-id.result.0 p = c.new_attempt_reserved-id.ensures.sent in
    let at : slice_get list.pairs.items c.in-Some.place ≡ Some p = slice_get_read _ _ _ _ (ap length c.deref.ensures.value) c.in-Some.ensures.within c.index_mut-pair.ensures.value in
    written-ranking c.in-Some.place list.pairs.items _ p after at refl list.ranks.items (ap (λ (q : PairRecord). q.number) made) (ap (λ (q : PairRecord). q.priority) made) list.ranked

pub returns-clause-sent : goal.returns-clause-sent
returns-clause-sent g c =
    let list = c.args.self.now in
    let ps = list.pairs.items in
    let p = c.index_mut-pair.result.now in
    let after = c.new_attempt_reserved-id.new.self in
    let f = checked c.args.now.0 c.args.timing_config.now c.args.controlling c.new_attempt_reserved-id.result.0 in
    let made : after ≡ f p = c.new_attempt_reserved-id.ensures.sent in
    let at : slice_get ps c.in-Some.place ≡ Some p = slice_get_read _ _ _ _ (ap length c.deref.ensures.value) c.in-Some.ensures.within c.index_mut-pair.ensures.value in
    let found : pair_numbered c.args.number ps ≡ Some p = place-found c.args.number ps c.in-Some.place (search rules) ∙ at in
    writes c.args.number f ps c.in-Some.place p after list.rising at (found-number c.args.number ps p found) made

pub returns-clause-below : goal.returns-clause-below
returns-clause-below g c = λ n h.
    let list = c.args.self.now in
    let p = c.index_mut-pair.result.now in
    let after = c.new_attempt_reserved-id.new.self in
    let made : after ≡ checked c.args.now.0 c.args.timing_config.now c.args.controlling c.new_attempt_reserved-id.result.0 p = c.new_attempt_reserved-id.ensures.sent in
    let at : slice_get list.pairs.items c.in-Some.place ≡ Some p = slice_get_read _ _ _ _ (ap length c.deref.ensures.value) c.in-Some.ensures.within c.index_mut-pair.ensures.value in
    written-below c.in-Some.place list.pairs.items _ p after at refl n (ap (λ (q : PairRecord). q.number) made) h
