use Rattle.is_pair.proofs.Common.{◌==◌, ◌∙◌, ◌≡◌, ap, arith, eqb-true, false, get_or, get_or_from_slice_get, is_numbered, is_some}
use Rattle.is_pair.proofs.Common.{IsPartitionPoint-from_clause, length, List, nat_lt, PairRecord, refl, rules, slice_get, slice_get_read}
use Rattle.is_pair.proofs.Common.{slice_get_within, Some, sym, tests, true, ℕ}
use Rattle.is_pair.proofs.PairEntries.PlaceOfNumber.{parted, place-here, place-none, place-nowhere}
use Rattle.is_pair.proofs.StoredChecks.LastChecks.{is_some-find}
use Rattle.is_pair.proofs.checklist.listed.search.Goals as goal
use Rattle.is_pair.proofs.checklist.listed.search.Goals.{else-place-pairs-via-then-place-pairs+else-id-number}
use Rattle.is_pair.proofs.checklist.listed.search.Goals.{else-place-pairs-via-else-place-pairs}

-- the pair at the index has another number
other-at : (n : ℕ) (ps : List PairRecord) (i : ℕ) (x : PairRecord) → x ≡ get_or ps i x → (x.number ≡ n → ⊥) → (q : PairRecord) → slice_get ps i ≡ Some q → q.number == n ≡ false
other-at n ps i x is other q at =
    let same : x ≡ q = is ∙ get_or_from_slice_get ps i q x at in
    elim (q.number == n) as (λ b. q.number == n ≡ b → b ≡ false) [
      | true ↦ λ e. absurd (other (ap (λ (p : PairRecord). p.number) same ∙ eqb-true q.number n e))
      | false ↦ λ e. refl
    ] refl

pub returns-then-id-number-clause-place : goal.returns-then-id-number-clause-place
returns-then-id-number-clause-place c =
    let n = c.args.number in let ps = c.args.pairs.now in let i = c.partition_point-place.result in
    let point = IsPartitionPoint-from_clause (λ (p : PairRecord). nat_lt p.number n) ps i c.partition_point-place.ensures.partitioned (parted n ps c.requires.rising) (λ a r f k. search (rules, tests)) in
    let at = slice_get_read ps (length ps) i c.index-pairs-place.result refl c.if-place-pairs.true c.index-pairs-place.is in
    sym (place-here n ps i c.index-pairs-place.result point at (sym c.id.ensures ∙ c.if-id-number.true))

pub returns-else-place-pairs-clause-place : goal.returns-else-place-pairs-clause-place
returns-else-place-pairs-clause-place c =
    let n = c.args.number in let ps = c.args.pairs.now in let i = c.partition_point-place.result in
    let point = IsPartitionPoint-from_clause (λ (p : PairRecord). nat_lt p.number n) ps i c.partition_point-place.ensures.partitioned (parted n ps c.requires.rising) (λ a r f k. search (rules, tests)) in
    sym (place-nowhere n ps i c.requires.rising point (elim c.else-place-pairs.branch [
      | else-place-pairs-via-then-place-pairs+else-id-number w ↦ other-at n ps i w.index-pairs-place.result w.index-pairs-place.is (λ is. w.if-id-number.false (w.id.ensures ∙ is))
      | else-place-pairs-via-else-place-pairs w ↦ λ q at. absurd (let within = slice_get_within ps i q at in omega (arith, within, w.if-place-pairs.false))
    ]))

pub returns-else-place-pairs-clause-has : goal.returns-else-place-pairs-clause-has
returns-else-place-pairs-clause-has c =
    let ps = c.args.pairs.now in
    let none = place-none c.args.number ps (sym (returns-else-place-pairs-clause-place c)) in
    sym (ap is_some none) ∙ is_some-find (is_numbered c.args.number) ps
