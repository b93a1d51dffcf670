use Rattle.is_rules.proofs.Common.{[], ◌+◌, ◌-◌, ◌<◌, ◌∷◌, ◌≡◌, arith, CandidateRecord, filter, filter-append, flat_map, flat_map-append}
use Rattle.is_rules.proofs.Common.{is_alive_at, length, length-append, List, live_row, range_with_len, refl, ℕ}
use Rattle.is_rules.proofs.FunctionProofs.IndexRanges.{places-from}
use Rattle.is_rules.proofs.forming.has_numbers_for_all.Goals as goal

many : List CandidateRecord → List CandidateRecord → List ℕ → ℕ
many local remote places = length (flat_map (live_row local remote) (filter (is_alive_at local) places))

-- the combinations from the index l on are those of the index l, and those after it
rest : (local remote : List CandidateRecord) (l n : ℕ) → l < n
    → many local remote (range_with_len l (n - l)) ≡ many local remote (l ∷ []) + many local remote (range_with_len (l + 1) (n - (l + 1)))
unfolding many
rest local remote l n within = rw (places-from l n within, filter-append, flat_map-append, length-append) refl

pub loop-l-preserved : goal.loop-l-preserved
unfolding many
loop-l-preserved c =
    omega (arith, rest c.args.local.now c.args.remote.now c.loop-l.l (length c.args.local.now) c.loop-l-test.true, c.loop-l.invariant, c.count_live_row-many.ensures)

pub returns-then-left-many : goal.returns-then-left-many
unfolding many
returns-then-left-many c =
    let e = rest c.args.local.now c.args.remote.now c.loop-l.l (length c.args.local.now) c.loop-l-test.true in
    ((λ no. cc), λ fits. absurd (omega (arith, e, c.loop-l.invariant, c.count_live_row-many.ensures, c.if-left-many.true, fits)))
