use Rattle.is_pair.proofs.Common.{◌∙◌, ◌≡◌, ap, change_pair, is_kept, length, pair_numbered, refl, rules, slice_get, slice_get_read, Some}
use Rattle.is_pair.proofs.Common.{sym}
use Rattle.is_pair.proofs.PairEntries.AnsweredPair.{answer-checks, answer-keeps, answer-number, answer-priority}
use Rattle.is_pair.proofs.PairEntries.ChangedEntry.{found-number, none-passes, one-passes, writes}
use Rattle.is_pair.proofs.PairEntries.PlaceOfNumber.{place-found, place-none}
use Rattle.is_pair.proofs.PairEntries.WrittenPair.{written-below, written-fewer, written-index, written-ranking, written-rises}
use Rattle.is_pair.proofs.checklist.Checklist.record_binding_response.Goals as goal

pub record_binding_response-requires : goal.record_binding_response-requires
record_binding_response-requires c =
    let list = c.args.self.now in
    let ps = list.pairs.items in
    let p = c.index_mut.result.now in
    let at : slice_get ps c.in-Some.place ≡ Some p = slice_get_read _ _ _ _ (ap length c.deref.ensures.value) c.in-Some.ensures.within c.index_mut.ensures.value in
    let found : pair_numbered c.args.number ps ≡ Some p = place-found c.args.number ps c.in-Some.place (search rules) ∙ at in
    sym (one-passes c.args.number (λ q. is_kept c.args.trans_id.0 q.checks) ps p list.rising found) ∙ c.requires.kept

pub unreachable-requires : goal.unreachable-requires
unreachable-requires c =
    let ps = c.args.self.now.pairs.items in
    let none = none-passes c.args.number (λ p. is_kept c.args.trans_id.0 p.checks) ps (place-none c.args.number ps (search rules)) in
    absurd (cc)

pub invariant_of-self-clause-rising : goal.invariant_of-self-clause-rising
invariant_of-self-clause-rising c =
    let list = c.args.self.now in
    let p = c.index_mut.result.now in
    let after = c.record_binding_response.new.self in
    let taken = c.record_binding_response.ensures in
    let at : slice_get list.pairs.items c.in-Some.place ≡ Some p = slice_get_read _ _ _ _ (ap length c.deref.ensures.value) c.in-Some.ensures.within c.index_mut.ensures.value in
    written-rises c.in-Some.place list.pairs.items _ p after at refl (answer-number p c.args.now.0 c.args.trans_id.0 after taken) list.rising

pub invariant_of-self-clause-indexed : goal.invariant_of-self-clause-indexed
invariant_of-self-clause-indexed c =
    let list = c.args.self.now in
    let p = c.index_mut.result.now in
    let after = c.record_binding_response.new.self in
    let taken = c.record_binding_response.ensures in
    let at : slice_get list.pairs.items c.in-Some.place ≡ Some p = slice_get_read _ _ _ _ (ap length c.deref.ensures.value) c.in-Some.ensures.within c.index_mut.ensures.value in
    written-index c.in-Some.place list.pairs.items _ p after at refl list.index.items (answer-number p c.args.now.0 c.args.trans_id.0 after taken) (answer-keeps p c.args.now.0 c.args.trans_id.0 after taken) list.indexed

pub invariant_of-self-clause-ranked : goal.invariant_of-self-clause-ranked
invariant_of-self-clause-ranked c =
    let list = c.args.self.now in
    let p = c.index_mut.result.now in
    let after = c.record_binding_response.new.self in
    let taken = c.record_binding_response.ensures in
    let at : slice_get list.pairs.items c.in-Some.place ≡ Some p = slice_get_read _ _ _ _ (ap length c.deref.ensures.value) c.in-Some.ensures.within c.index_mut.ensures.value in
    written-ranking c.in-Some.place list.pairs.items _ p after at refl list.ranks.items (answer-number p c.args.now.0 c.args.trans_id.0 after taken) (answer-priority p c.args.now.0 c.args.trans_id.0 after taken) list.ranked

pub returns-clause-check_room : goal.returns-clause-check_room
returns-clause-check_room c = λ limit h.
    let list = c.args.self.now in
    let p = c.index_mut.result.now in
    let after = c.record_binding_response.new.self in
    let taken = c.record_binding_response.ensures in
    let at : slice_get list.pairs.items c.in-Some.place ≡ Some p = slice_get_read _ _ _ _ (ap length c.deref.ensures.value) c.in-Some.ensures.within c.index_mut.ensures.value in
    (h.0, h.1, written-fewer c.in-Some.place list.pairs.items _ p after at refl limit _ (answer-checks p c.args.now.0 c.args.trans_id.0 after taken) h.2)

pub returns-clause-below : goal.returns-clause-below
returns-clause-below c = λ n h.
    let list = c.args.self.now in
    let p = c.index_mut.result.now in
    let after = c.record_binding_response.new.self in
    let taken = c.record_binding_response.ensures in
    let at : slice_get list.pairs.items c.in-Some.place ≡ Some p = slice_get_read _ _ _ _ (ap length c.deref.ensures.value) c.in-Some.ensures.within c.index_mut.ensures.value in
    written-below c.in-Some.place list.pairs.items _ p after at refl n (answer-number p c.args.now.0 c.args.trans_id.0 after taken) h

pub returns-clause-answered : goal.returns-clause-answered
returns-clause-answered c =
    let list = c.args.self.now in
    let ps = list.pairs.items in
    let p = c.index_mut.result.now in
    let after = c.record_binding_response.new.self in
    let taken = c.record_binding_response.ensures in
    let at : slice_get ps c.in-Some.place ≡ Some p = slice_get_read _ _ _ _ (ap length c.deref.ensures.value) c.in-Some.ensures.within c.index_mut.ensures.value in
    let found : pair_numbered c.args.number ps ≡ Some p = place-found c.args.number ps c.in-Some.place (search rules) ∙ at in
    let numbered = found-number c.args.number ps p found in
    let number = answer-number p c.args.now.0 c.args.trans_id.0 after taken ∙ numbered in
    let put = writes c.args.number (λ _. after) ps c.in-Some.place p after list.rising at numbered refl in
    (p, after, found, taken, put ∙ ap (λ m. change_pair m (λ _. after) ps) (sym number))
