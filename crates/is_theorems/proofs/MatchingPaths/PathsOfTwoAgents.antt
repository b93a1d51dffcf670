-- Two agents that send on the same path by their priorities.
use Rattle.is_theorems.specs.Matching.{SelectedPathsAreSeen, PairsMayMatch}
use Rattle.is_theorems.proofs.Common.{[], ◌∙◌, ◌∷◌, ◌≡◌, ◌≤◌, AgentRecord, ap, arith, CandidateRecord, codes, fresh, Has, HasEligible}
use Rattle.is_theorems.proofs.Common.{host_candidate, IceCreds, inl, inr, IsAtNomination, IsTopPath, List, Logged, new_pair, None}
use Rattle.is_theorems.proofs.Common.{pair_priority, PairRecord, path_of, PointsAreTop, refl, SelectedPathsMatch, SocketAddr, Some, subst}
use Rattle.is_theorems.proofs.Common.{Succeeded, Success, sym, true, Udp, V4, ℕ}

module _ {H P : Type 0} (mac : H → List ℕ → List ℕ → List ℕ) (answers : P → CandidateRecord → ℕ → ℕ → Type 0) (tops : PointsAreTop {H = H} mac answers) where
  -- right after nomination was evaluated, the path selected last is that of a best pair
  top-path : (log : List (Logged P)) (a : AgentRecord H P) (p : PairRecord) → IsAtNomination mac answers log a → HasEligible a p → IsTopPath mac answers log a
  top-path log a p at (has, able) =
      subst (λ (l : List (Logged P)). IsTopPath mac answers l a) (sym at.log_is)
      (tops at.first at.s at.all at.fresh at.before at.mid a at.x at.point at.evaluates p has able)

  pub selected_paths-seen : SelectedPathsMatch mac answers → SelectedPathsAreSeen mac answers
  selected_paths-seen paths seen g d near far x y q p2 unled alike at at2 last last2 at_d same at_g same2 =
      paths seen g d near far x y q p2 unled alike (top-path near g q at at_g) (top-path far d p2 at2 at_d) last last2 at_d same at_g same2

-- ---- two agents with one host candidate each

abbrev address_1 : SocketAddr
address_1 = V4 record { ip = record { octets = 10 ∷ 0 ∷ 0 ∷ 1 ∷ [] }; port = 1000 }

abbrev address_2 : SocketAddr
address_2 = V4 record { ip = record { octets = 10 ∷ 0 ∷ 0 ∷ 2 ∷ [] }; port = 2000 }

abbrev creds : IceCreds
creds = record { ufrag = codes "aaaa"; pass = codes "p1" }

abbrev rank : ℕ
rank = pair_priority true 1 1

-- valid and nominated
abbrev only : PairRecord
only = record (new_pair 0 0 0 rank) { state = Succeeded; nomination = Success }

abbrev host : SocketAddr → CandidateRecord
host addr = host_candidate addr Udp None

is-only : (p : PairRecord) → Has (only ∷ []) p → p ≡ only
is-only p (inl is) = sym is
is-only p (inr none) = absurd none

at-most : (r : PairRecord) → Has (only ∷ []) r → r.priority ≤ rank
at-most r has = subst (λ (x : PairRecord). x.priority ≤ rank) (sym (is-only r has)) (omega arith)

module _ {H P : Type 0} (provider : H) where
  abbrev one : AgentRecord H P
  one = record (fresh provider creds 1) {
    controlling = true;
    local = host address_1 ∷ [];
    remote = host address_2 ∷ [];
    pairs = only ∷ [];
    selected_pair = Some 0;
  }

  abbrev two : AgentRecord H P
  two = record (fresh provider creds 2) {
    local = host address_2 ∷ [];
    remote = host address_1 ∷ [];
    pairs = only ∷ [];
    selected_pair = Some 0;
  }

pub may-match : (H P : Type 0) → PairsMayMatch H P
may-match H P provider = (
  one provider,
  two provider,
  only,
  only,
  only,
  only,
  (refl, refl),
  record {
    roles = refl;
    shared = λ p p2 ps. (
      1,
      1,
      ap (λ (x : PairRecord). x.priority) (is-only p ps.near.0),
      ap (λ (x : PairRecord). x.priority) (is-only p2 ps.far.0),
    );
    strict = λ p q near far _. ap (λ (x : PairRecord). path_of (one {H = H} {P = P} provider) x) (is-only p near.0 ∙ sym (is-only q far.0));
  },
  record { last = refl; top = (Some only, (inl refl, refl, λ r has _. at-most r has), refl) },
  record { last = refl; top = (Some only, (inl refl, refl, λ r has _. at-most r has), refl) },
  record { near = (inl refl, refl); far = (inl refl, refl); path = refl },
  record { near = (inl refl, refl); far = (inl refl, refl); path = refl },
)
