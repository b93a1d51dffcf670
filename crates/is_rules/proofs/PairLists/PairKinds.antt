-- There are nine kinds of pairs.
use Rattle.is_candidate.specs.Addresses.{is_v4}
use Rattle.is_candidate.specs.declared.candidate.kind.CandidateKind.{CandidateKind}
use Rattle.is_rules.proofs.Common.{◌<◌, ◌≤◌, arith, Bool, candidate_at, CandidateRecord, counted_kind, false, Host, if◌then◌else◌}
use Rattle.is_rules.proofs.Common.{INNER, is_inner, kind_of, kind_rank, KINDS, List, PairRecord, PeerReflexive, Relayed, remote_rank, ServerReflexive}
use Rattle.is_rules.proofs.Common.{reach_of, true, ℕ}

rank-most : (kind : CandidateKind) → kind_rank kind ≤ 3
rank-most PeerReflexive = omega arith
rank-most ServerReflexive = omega arith
rank-most Relayed = omega arith
rank-most Host = omega arith

one-most : (b : Bool) → (if b then 1 else 0) ≤ 1
one-most true = omega arith
one-most false = omega arith

pub remote-most : (r : CandidateRecord) → remote_rank r ≤ 7
remote-most r =
    let rank = rank-most (counted_kind r) in
    let version = one-most (is_v4 r.addr) in
    omega (arith, rank, version)

kind-by : (inner : Bool) (rank : ℕ) → rank ≤ 7 → (if inner then INNER else rank) < KINDS
kind-by true rank most = omega arith
kind-by false rank most = omega (arith, most)

pub kind-below : (local remote : List CandidateRecord) (p : PairRecord) → kind_of local remote p < KINDS
kind-below local remote p =
    let l = candidate_at local p.local in
    let r = candidate_at remote p.remote in
    kind-by (is_inner (reach_of local l) l r) (remote_rank r) (remote-most r)
