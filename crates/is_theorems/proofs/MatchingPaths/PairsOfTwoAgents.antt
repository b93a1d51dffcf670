-- Two agents send on the same path: the priorities of the four pairs leave no other possibility. The preconditions
-- that mutants/specifications changes are read by tactics where they are used: if one of them is weaker, that goal stays
-- unproved.
use Rattle.is_theorems.proofs.Common.{[], ◌<◌, ◌==◌, ◌∙◌, ◌∷◌, ◌≡◌, ◌≢◌, ◌≤◌, AgentRecord, ap, AreCounterparts, arith, Bool}
use Rattle.is_theorems.proofs.Common.{CandidateRecord, chosen-none, DisputesSplit, eq-eqb, eqb-true, false, followed, fresh, Has}
use Rattle.is_theorems.proofs.Common.{HasEligible, HasLastSelected, host_candidate, inl, inr, is_eligible, IsAtNomination, IsChosen}
use Rattle.is_theorems.proofs.Common.{IsGreatest, IsSamePath, IsTop, IsTopPath, IsTopSelected, IsUndisputed, List, Logged, new_pair, None}
use Rattle.is_theorems.proofs.Common.{not, Option, option_map_or, pair_priority, pair_selected, PairRecord, Path, path_of, persists_at}
use Rattle.is_theorems.proofs.Common.{PointsAreTop, RankAlike, RanksSettle, refl, remains, reverse_of, reversed, SelectedPairsMatch}
use Rattle.is_theorems.proofs.Common.{SelectedPathsAreReversed, SelectedPathsMatch, selection_of, slice_index, SocketAddr, Some, subst}
use Rattle.is_theorems.proofs.Common.{Succeeded, Success, sym, TopPathsMatch, true, Udp, V4, V6, ℕ}
use Rattle.is_theorems.proofs.WorkedExamples.ExampleAgents.{address_1, address_2, address_3, creds_1, creds_2, path_12}
use Rattle.is_theorems.proofs.BasicLemmas.MembersOfLists.{none-has}

some_is : {X : Type 0} (x y : X) → Some x ≡ Some y → x ≡ y
some_is x y is = cc

-- two numbers in order that differ are strictly so
below : (m n : ℕ) → m ≤ n → m ≢ n → m < n
below m n h differ = by (m == n) refl where
  by : (b : Bool) → (m == n) ≡ b → m < n
  by true is = absurd (differ (eqb-true m n is))
  by false is = let other : ¬ (m ≡ n) = differ in omega (arith, h, other)

-- no eligible pair has a higher priority
abbrev NoneAbove : {H P : Type 0} → AgentRecord H P → PairRecord → Type 0
NoneAbove a p = (r : PairRecord) → Has a.pairs r → is_eligible a.controlling r ≡ true → r.priority ≤ p.priority

module _ {H P : Type 0} (seen : Path → Option Path) (g d : AgentRecord H P) where
  module _ (p q p2 q2 : PairRecord) (top : IsTop g p) (top2 : IsTop d q2) (ps : AreCounterparts seen g d p p2) (qs : AreCounterparts seen g d q q2) where
    pub match : IsUndisputed seen g d p q p2 q2 → IsSamePath seen g d p q2
    match (inl same) = ps.path ∙ ap Some same
    match (inr calm) =
        let greatest : NoneAbove g p = search top in
        let greatest2 : NoneAbove d q2 = search top2 in
        let able : HasEligible g q = search qs in
        let able2 : HasEligible d p2 = search ps in
        let low : q.priority ≤ p.priority = greatest q able.0 able.1 in
        let low2 : p2.priority ≤ q2.priority = greatest2 p2 able2.0 able2.1 in
        let near : p.priority ≢ q.priority = search calm in
        let far : p2.priority ≢ q2.priority = search calm in
        let orders : ¬ ((q.priority < p.priority) × (p2.priority < q2.priority)) = search calm in
        absurd (orders (below q.priority p.priority low (λ e. near (sym e)), below p2.priority q2.priority low2 far))

  -- ---- agents that rank alike

  module _ (symmetric : (remote local : ℕ) → pair_priority true remote local ≡ pair_priority false local remote) (alike : RankAlike seen g d) where
    both_ways : (b c : Bool) (gs ds : ℕ) → c ≡ not b → pair_priority b ds gs ≡ pair_priority c gs ds
    both_ways true c gs ds is = symmetric ds gs ∙ ap (λ b. pair_priority b gs ds) (sym is)
    both_ways false c gs ds is = sym (symmetric gs ds) ∙ ap (λ b. pair_priority b gs ds) (sym is)

    equal_priorities : (p p2 : PairRecord) → AreCounterparts seen g d p p2 → p.priority ≡ p2.priority
    equal_priorities p p2 ps =
        let h = alike.shared p p2 ps in
        let roles : d.controlling ≡ not g.controlling = search alike in
        let near : p.priority ≡ pair_priority g.controlling h.1 h.0 = search h in
        let far : p2.priority ≡ pair_priority d.controlling h.0 h.1 = search h in
        near ∙ both_ways g.controlling d.controlling h.0 h.1 roles ∙ sym far

    pub settle : (p q p2 q2 : PairRecord) → AreCounterparts seen g d p p2 → AreCounterparts seen g d q q2 → IsUndisputed seen g d p q p2 q2
    settle p q p2 q2 ps qs = by (p.priority == q.priority) refl where
      by : (b : Bool) → (p.priority == q.priority) ≡ b → IsUndisputed seen g d p q p2 q2
      by true is =
          let same : path_of g p ≡ path_of g q = search (alike.strict p q ps.near qs.near (eqb-true p.priority q.priority is)) in
          inl (some_is (path_of d p2) (path_of d q2) (sym ps.path ∙ ap seen same ∙ qs.path))
      by false is =
          let left : p.priority ≡ p2.priority = equal_priorities p p2 ps in
          let right : q.priority ≡ q2.priority = equal_priorities q q2 qs in
          let differ : p.priority ≢ q.priority = λ e. (let yes : (p.priority == q.priority) ≡ true = eq-eqb p.priority q.priority e in cc) in
          inr record { orders = λ h. omega (arith, h.0, h.1, left, right); near = differ; far = λ e. differ (left ∙ e ∙ sym right) }

module _ {H P : Type 0} where
  -- the pair that was selected last is a greatest one, if it is eligible
  pub top_is : (a : AgentRecord H P) (p : PairRecord) → followed a ≡ None → HasLastSelected a p → HasEligible a p → IsTop a p
  top_is a p unled h (has, able) = by h.top where
    by : IsTopSelected a → IsTop a p
    by (None, none, persists) =
        absurd (none-has (is_eligible a.controlling) a.pairs (chosen-none a.controlling (followed a) (selection_of a) none) p has able)
    by (Some best, chosen, remaining) =
        let most : IsGreatest (is_eligible a.controlling) a.pairs (Some best) = subst (λ f. IsChosen a.controlling f (selection_of a) (Some best)) unled chosen in
        let persists : persists_at a.selected_pair best.priority a.pairs ≡ true = subst (λ f. remains f best (selection_of a) ≡ true) unled remaining in
        let last : pair_selected a.selected_pair a.pairs ≡ Some p = search h in
        let is : (p.priority == best.priority) ≡ true =
        subst (λ (o : Option PairRecord). option_map_or (λ (x : PairRecord). x.priority == best.priority) o false ≡ true) last persists in
        let same : p.priority ≡ best.priority = eqb-true p.priority best.priority is in
        (has, able, λ r in_it fit. (let low : r.priority ≤ best.priority = most.2 r in_it fit in omega (arith, low, same)))

  module _ (matches : TopPathsMatch H P) (settles : RanksSettle H P) where
    pub pairs_match : SelectedPairsMatch H P
    pairs_match seen g d p q p2 q2 unled alike last last2 ps qs =
        matches seen g d p q p2 q2 (top_is g p unled.0 last ps.near) (top_is d q2 unled.1 last2 qs.far) ps qs (settles seen g d p q p2 q2 alike ps qs)

    module _ (mac : H → List ℕ → List ℕ → List ℕ) (answers : P → CandidateRecord → ℕ → ℕ → Type 0) where
      pub paths_match : SelectedPathsMatch mac answers
      paths_match seen g d near far x y q p2 unled alike (p, has, able, is, top) (q2, has2, able2, is2, top2) last last2 at_d same at_g same2 =
          let from : path_of g p ≡ x = some_is (path_of g p) x (sym is ∙ last) in
          let to : path_of d q2 ≡ y = some_is (path_of d q2) y (sym is2 ∙ last2) in
          let ps : AreCounterparts seen g d p p2 = record { near = (has, able); far = at_d; path = ap seen from ∙ same } in
          let qs : AreCounterparts seen g d q q2 = record { near = at_g; far = (has2, able2); path = same2 ∙ ap Some (sym to) } in
          ap seen (sym from) ∙ matches seen g d p q p2 q2 (subst (λ f. IsChosen g.controlling f (selection_of g) (Some p)) unled.0 top)
          (subst (λ f. IsChosen d.controlling f (selection_of d) (Some q2)) unled.1 top2) ps qs (settles seen g d p q p2 q2 alike ps qs) ∙ ap Some to

      module _ (tops : PointsAreTop {H = H} mac answers) where
        -- at such a step the path selected last is that of a greatest pair, if a pair is eligible
        top_path : (log : List (Logged P)) (a : AgentRecord H P) (p : PairRecord) → IsAtNomination mac answers log a → HasEligible a p → IsTopPath mac answers log a
        top_path log a p at (has, able) =
            subst (λ (l : List (Logged P)). IsTopPath mac answers l a) (sym at.log_is)
            (tops at.first at.s at.all at.fresh at.before at.mid a at.x at.point at.evaluates p has able)

        pub reversed_match : SelectedPathsAreReversed mac answers
        reversed_match g d near far x y q p2 unled alike at at2 last last2 at_d same at_g same2 =
            sym (some_is (reversed x) y (paths_match reverse_of g d near far x y q p2 unled alike (top_path near g q at at_g) (top_path far d p2 at2 at_d) last last2
            at_d (ap Some (sym same)) at_g (ap Some (sym same2))))

-- ---- a dispute: g is at one address and d at two, and each prefers another one of these

-- valid and nominated: number, local index, remote index, priority
abbrev pair : ℕ → ℕ → ℕ → ℕ → PairRecord
pair number local remote priority = record (new_pair number local remote priority) { state = Succeeded; nomination = Success }

abbrev host : SocketAddr → CandidateRecord
host addr = host_candidate addr Udp None

-- one of two is at most the greater
at_most : (a b r : PairRecord) (n : ℕ) → a.priority ≤ n → b.priority ≤ n → Has (a ∷ b ∷ []) r → r.priority ≤ n
at_most a b r n la lb (inl is) = subst (λ (x : PairRecord). x.priority ≤ n) is la
at_most a b r n la lb (inr (inl is)) = subst (λ (x : PairRecord). x.priority ≤ n) is lb
at_most a b r n la lb (inr (inr none)) = absurd none

module _ {H P : Type 0} (provider : H) where
  abbrev one : AgentRecord H P
  one = record (fresh provider creds_1 1) {
    controlling = true;
    local = host address_1 ∷ [];
    remote = host address_2 ∷ host address_3 ∷ [];
    pairs = pair 0 0 0 2 ∷ pair 1 0 1 1 ∷ [];
  }

  abbrev two : AgentRecord H P
  two = record (fresh provider creds_2 2) {
    local = host address_2 ∷ host address_3 ∷ [];
    remote = host address_1 ∷ [];
    pairs = pair 0 0 0 1 ∷ pair 1 1 0 2 ∷ [];
  }

abbrev last_octet : SocketAddr → ℕ
last_octet (V4 a) = slice_index a.ip.octets 3
last_octet (V6 a) = 0

below_differs : (m n : ℕ) → m < n → m ≡ n → ⊥
below_differs m n h is = omega (arith, h, is)

abbrev path_31 : Path
path_31 = record { proto = Udp; source = address_3; destination = address_1 }

apart : reverse_of path_12 ≡ Some path_31 → ⊥
apart is = below_differs 2 3 (omega arith) (ap (λ (path : Path). last_octet path.source) (some_is (reversed path_12) path_31 is))

pub disputes_split : (H P : Type 0) → DisputesSplit H P
disputes_split H P provider = (
  one provider,
  two provider,
  pair 0 0 0 2,
  pair 1 0 1 1,
  pair 0 0 0 1,
  pair 1 1 0 2,
  refl,
  (inl refl, refl, λ r has _. at_most (pair 0 0 0 2) (pair 1 0 1 1) r 2 (omega arith) (omega arith) has),
  (inr (inl refl), refl, λ r has _. at_most (pair 0 0 0 1) (pair 1 1 0 2) r 2 (omega arith) (omega arith) has),
  record { near = (inl refl, refl); far = (inl refl, refl); path = refl },
  record { near = (inr (inl refl), refl); far = (inr (inl refl), refl); path = refl },
  (λ e. cc),
  (λ e. cc),
  apart,
)
