-- Checks that go ahead, in a worked example: two pairs are due. Whose turn it is decides which one is checked; but an urgent pair comes
-- before all turns. While the selected pair is silent, the other one is asked along.
use Rattle.is_theorems.proofs.Common.{[], ◌<◌, ◌≤◌, ◌∷◌, ◌≡◌, AgentRecord, all_scheduled, arith, scheduled, CandidateRecord, check_sent, codes}
use Rattle.is_theorems.proofs.Common.{Connected, default_timing, Disconnected, false, GoesBefore, Has, inl, inr, is_asked_along}
use Rattle.is_theorems.proofs.Common.{IsNextToCheck, kind_of, last_sent, List, Modern, new_pair, None, PairRecord, Precedence, refl, ServerReflexive}
use Rattle.is_theorems.proofs.Common.{signalled_candidate, SocketAddr, Some, Span, StunTiming, subst, Succeeded, Success, sym, true, TurnsBefore, Udp}
use Rattle.is_theorems.proofs.Common.{V4, ℕ}
use Rattle.is_theorems.proofs.WorkedExamples.ExampleAgents.{creds_2, host_2, own_1, with_host}

-- checks may go ahead
abbrev modern_timing : StunTiming
modern_timing = record default_timing { profile = Modern }

-- an address outside the subnet of the two hosts
abbrev outside_3 : SocketAddr
outside_3 = V4 record { ip = record { octets = 198 ∷ 51 ∷ 100 ∷ 3 ∷ [] }; port = 2000 }

abbrev reflexive_3 : CandidateRecord
reflexive_3 = signalled_candidate (codes "2") 1 Udp 1694498815 outside_3 ServerReflexive None None None

abbrev remote_candidates : List CandidateRecord
remote_candidates = host_2 2130706175 ∷ reflexive_3 ∷ []

abbrev host_pair : PairRecord
host_pair = new_pair 0 0 0 9151313343271665150

abbrev reflexive_pair : PairRecord
reflexive_pair = new_pair 1 0 1 7277816997797166591

-- Urgent pairs come before all kinds, and no path is selected.
abbrev urgent_ahead : Precedence
urgent_ahead = record { selected = None; urgent = true }

-- both pairs, which are due now
abbrev due_pairs : List PairRecord
due_pairs = scheduled 0 modern_timing host_pair ∷ scheduled 0 modern_timing reflexive_pair ∷ []

-- The pair of two hosts is within one subnet, and so an inner one. The other one has the kind of its remote candidate.
kinds_differ : (kind_of (own_1 ∷ []) remote_candidates host_pair ≡ 8) × (kind_of (own_1 ∷ []) remote_candidates reflexive_pair ≡ 3)
kinds_differ = (refl, refl)

host_first : (q : PairRecord) → Has due_pairs q → GoesBefore 0 modern_timing (scheduled 0 modern_timing host_pair) q
host_first q (inl same) = subst (λ x. GoesBefore 0 modern_timing (scheduled 0 modern_timing host_pair) x) same (inr (refl, omega arith))
host_first q (inr (inl same)) = subst (λ x. GoesBefore 0 modern_timing (scheduled 0 modern_timing host_pair) x) same (inr (refl, omega arith))
host_first q (inr (inr none)) = absurd none

host_first_by_original : (q : PairRecord) → Has (scheduled 0 default_timing host_pair ∷ scheduled 0 default_timing reflexive_pair ∷ []) q
    → GoesBefore 0 default_timing (scheduled 0 default_timing host_pair) q
host_first_by_original q (inl same) = subst (λ x. GoesBefore 0 default_timing (scheduled 0 default_timing host_pair) x) same (inr (refl, omega arith))
host_first_by_original q (inr (inl same)) = subst (λ x. GoesBefore 0 default_timing (scheduled 0 default_timing host_pair) x) same (inr (refl, omega arith))
host_first_by_original q (inr (inr none)) = absurd none

-- Kind 3 comes before kind 8 in a round that begins with kind 0.
reflexive_first : (q : PairRecord) → Has due_pairs q
    → TurnsBefore (own_1 ∷ []) remote_candidates urgent_ahead 0 0 modern_timing (scheduled 0 modern_timing reflexive_pair) q
reflexive_first q (inl same) =
    let earlier : 6 < 11 = omega arith in
    subst (λ x. TurnsBefore (own_1 ∷ []) remote_candidates urgent_ahead 0 0 modern_timing (scheduled 0 modern_timing reflexive_pair) x) same (inl earlier)
reflexive_first q (inr (inl same)) =
    subst (λ x. TurnsBefore (own_1 ∷ []) remote_candidates urgent_ahead 0 0 modern_timing (scheduled 0 modern_timing reflexive_pair) x) same
    (inr (refl, inr (refl, omega arith)))
reflexive_first q (inr (inr none)) = absurd none

-- After kind 3, the round goes on with kind 8.
host_next : (q : PairRecord) → Has due_pairs q → TurnsBefore (own_1 ∷ []) remote_candidates urgent_ahead 4 0 modern_timing (scheduled 0 modern_timing host_pair) q
host_next q (inl same) =
    subst (λ x. TurnsBefore (own_1 ∷ []) remote_candidates urgent_ahead 4 0 modern_timing (scheduled 0 modern_timing host_pair) x) same (inr (refl, inr (refl, omega arith)))
host_next q (inr (inl same)) =
    let earlier : 11 < 15 = omega arith in
    subst (λ x. TurnsBefore (own_1 ∷ []) remote_candidates urgent_ahead 4 0 modern_timing (scheduled 0 modern_timing host_pair) x) same (inl earlier)
host_next q (inr (inr none)) = absurd none

-- A request arrived on the pair, which is not valid: it is urgent, and comes before kind 8.
abbrev urgent_pair : PairRecord
urgent_pair = record reflexive_pair { requests = 1; last_request = Some 0 }

urgent_first : (q : PairRecord) → Has (scheduled 0 modern_timing host_pair ∷ scheduled 0 modern_timing urgent_pair ∷ []) q
    → TurnsBefore (own_1 ∷ []) remote_candidates urgent_ahead 4 0 modern_timing (scheduled 0 modern_timing urgent_pair) q
urgent_first q (inl same) =
    let earlier : 1 < 11 = omega arith in
    subst (λ x. TurnsBefore (own_1 ∷ []) remote_candidates urgent_ahead 4 0 modern_timing (scheduled 0 modern_timing urgent_pair) x) same (inl earlier)
urgent_first q (inr (inl same)) =
    subst (λ x. TurnsBefore (own_1 ∷ []) remote_candidates urgent_ahead 4 0 modern_timing (scheduled 0 modern_timing urgent_pair) x) same (inr (refl, inr (refl, omega arith)))
urgent_first q (inr (inr none)) = absurd none

-- ---- a pair that is asked along

-- The selected pair: its last check has no response, and the next one is due.
abbrev late_pair : PairRecord
late_pair = record host_pair {
  state = Succeeded;
  nomination = Success;
  checks = record { id = []; sent = 0; answered = None; nominated = true; controlling = true } ∷ [];
  due = Some 100;
}

-- Another valid pair, which is due later.
abbrev valid_pair : PairRecord
valid_pair = record reflexive_pair { state = Succeeded; due = Some 1000 }

abbrev late_pairs : List PairRecord
late_pairs = scheduled 100 modern_timing late_pair ∷ scheduled 100 modern_timing valid_pair ∷ []

-- the silence of the selected pair
abbrev silence : Span
silence = record { from = record { 0 = 0 }; to = record { 0 = 100 } }

valid_first : (q : PairRecord) → Has late_pairs q → is_asked_along 0 silence q ≡ true → last_sent (scheduled 100 modern_timing valid_pair).checks ≤ last_sent q.checks
valid_first q (inl same) along = absurd (let no : false ≡ true = subst (λ x. is_asked_along 0 silence x ≡ true) (sym same) along in cc)
valid_first q (inr (inl same)) along = subst (λ (x : PairRecord). last_sent (scheduled 100 modern_timing valid_pair).checks ≤ last_sent x.checks) same (omega arith)
valid_first q (inr (inr none)) along = absurd none

late_first : (q : PairRecord) → Has late_pairs q → GoesBefore 100 modern_timing (scheduled 100 modern_timing late_pair) q
late_first q (inl same) = subst (λ x. GoesBefore 100 modern_timing (scheduled 100 modern_timing late_pair) x) same (inr (refl, omega arith))
late_first q (inr (inl same)) =
    let earlier : 100 < 1000 = omega arith in
    subst (λ x. GoesBefore 100 modern_timing (scheduled 100 modern_timing late_pair) x) same (inl earlier)
late_first q (inr (inr none)) = absurd none

module _ {H : Type 0} (P : Type 0) (mac : H → List ℕ → List ℕ → List ℕ) (provider : H) where
  -- a kind's turn
  abbrev with_turn : AgentRecord H P
  with_turn = record (with_host mac provider) {
    timing = modern_timing;
    ahead_turn = true;
    remote = remote_candidates;
    pairs = host_pair ∷ reflexive_pair ∷ [];
    next_number = 2;
  }

  checks_reflexive : IsNextToCheck 0 (all_scheduled 0 with_turn) (Some (scheduled 0 modern_timing reflexive_pair))
  checks_reflexive = (None, refl, (inr (inl refl), refl, λ q has due. reflexive_first q has))

  abbrev after_turn : List ℕ → AgentRecord H P
  after_turn id = check_sent mac 0 creds_2 (scheduled 0 modern_timing reflexive_pair) id (all_scheduled 0 with_turn)

  -- The next check is of the pair that is due first, and the next turn begins with the kind after this one.
  turn_ends : (id : List ℕ) → ((after_turn id).ahead_turn ≡ false) × ((after_turn id).next_kind ≡ 4)
  turn_ends id = (refl, refl)

  checks_host : IsNextToCheck 0 (all_scheduled 0 (record with_turn { ahead_turn = false })) (Some (scheduled 0 modern_timing host_pair))
  checks_host = ((inl refl, λ q has. host_first q has), refl)

  checks_next_kind : IsNextToCheck 0 (all_scheduled 0 (record with_turn { next_kind = 4 })) (Some (scheduled 0 modern_timing host_pair))
  checks_next_kind = (None, refl, (inl refl, refl, λ q has due. host_next q has))

  -- No kind has a turn while a path is selected, or with the profile `Original`.
  checks_host_if_connected : IsNextToCheck 0 (all_scheduled 0 (record with_turn { state = Connected })) (Some (scheduled 0 modern_timing host_pair))
  checks_host_if_connected = ((inl refl, λ q has. host_first q has), refl)

  checks_host_by_original : IsNextToCheck 0 (all_scheduled 0 (record with_turn { timing = default_timing })) (Some (scheduled 0 default_timing host_pair))
  checks_host_by_original = ((inl refl, λ q has. host_first_by_original q has), refl)

  -- After the path is lost, kinds take turns again.
  checks_reflexive_if_disconnected : IsNextToCheck 0 (all_scheduled 0 (record with_turn { state = Disconnected })) (Some (scheduled 0 modern_timing reflexive_pair))
  checks_reflexive_if_disconnected = (None, refl, (inr (inl refl), refl, λ q has due. reflexive_first q has))

  -- ---- an urgent pair

  abbrev with_urgent : AgentRecord H P
  with_urgent = record with_turn { next_kind = 4; pairs = host_pair ∷ urgent_pair ∷ [] }

  -- It goes ahead of the kind whose turn it is, and also while a path is selected, but not in each check.
  checks_urgent : IsNextToCheck 0 (all_scheduled 0 with_urgent) (Some (scheduled 0 modern_timing urgent_pair))
  checks_urgent = (None, refl, (inr (inl refl), refl, λ q has due. urgent_first q has))

  checks_urgent_if_connected : IsNextToCheck 0 (all_scheduled 0 (record with_urgent { state = Connected })) (Some (scheduled 0 modern_timing urgent_pair))
  checks_urgent_if_connected = (None, refl, (inr (inl refl), refl, λ q has due. urgent_first q has))

  checks_host_after_urgent : IsNextToCheck 0 (all_scheduled 0 (record with_urgent { ahead_turn = false })) (Some (scheduled 0 modern_timing host_pair))
  checks_host_after_urgent = ((inl refl, λ q has. host_before q has), refl) where
    host_before : (q : PairRecord) → Has (scheduled 0 modern_timing host_pair ∷ scheduled 0 modern_timing urgent_pair ∷ []) q
        → GoesBefore 0 modern_timing (scheduled 0 modern_timing host_pair) q
    host_before q (inl same) = subst (λ x. GoesBefore 0 modern_timing (scheduled 0 modern_timing host_pair) x) same (inr (refl, omega arith))
    host_before q (inr (inl same)) = subst (λ x. GoesBefore 0 modern_timing (scheduled 0 modern_timing host_pair) x) same (inr (refl, omega arith))
    host_before q (inr (inr none)) = absurd none

  -- ---- a pair that is asked along

  abbrev with_late : AgentRecord H P
  with_late = record with_turn { state = Connected; selected_pair = Some 0; pairs = late_pair ∷ valid_pair ∷ [] }

  -- It goes before the selected pair, though it is not due, each second time.
  checks_along : IsNextToCheck 100 (all_scheduled 100 with_late) (Some (scheduled 100 modern_timing valid_pair))
  checks_along = (Some (scheduled 100 modern_timing valid_pair), (inr (inl refl), refl, λ q has along. valid_first q has along), refl)

  checks_late : IsNextToCheck 100 (all_scheduled 100 (record with_late { ahead_turn = false })) (Some (scheduled 100 modern_timing late_pair))
  checks_late = ((inl refl, λ q has. late_first q has), refl)
