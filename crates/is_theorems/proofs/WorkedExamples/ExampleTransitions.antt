-- The relations hold for worked examples, with whole abstract states compared.
use Rattle.is_stun.specs.declared.header.Class.TheVariants as class
use Rattle.is_rules.specs.declared.serving.Places.{Places}
use Rattle.is_theorems.proofs.Common.{[], ◌∷◌, ◌≡◌, ◌≤◌, Added, AddLocalCandidate, AddRemoteCandidate, AgentRecord, all_scheduled, answered}
use Rattle.is_theorems.proofs.Common.{arith, scheduled, at_timeout, binding_reply, binding_request, binding_role_conflict_reply, Call}
use Rattle.is_theorems.proofs.Common.{CandidateRecord, Check, Checking, codes, default_timing, delay_millis, Done, Entry, evaluated, false}
use Rattle.is_theorems.proofs.Common.{fill_bytes, Flag, fresh, GoesBefore, HandlesPacket, HandlesSuccess, HandleTimeout, Has}
use Rattle.is_theorems.proofs.Common.{IceConnectionStateChange, inl, InProgress, inr, Integrity, IsAcceptedOn, IsPut, IsSignedBy}
use Rattle.is_theorems.proofs.Common.{issued_only, List, Logged, mapped_added, Message, new_pair, Nominated, None, nothing_emitted, Ok}
use Rattle.is_theorems.proofs.Common.{PairRecord, PollsTimeout, quiet, Reads, ReceivePacket, RecreateCandidatePairs, refl, reversed, Run}
use Rattle.is_theorems.proofs.Common.{selected_only, Serves, SetControlling, SetRemoteCredentials, Some, Step, Stream, StunTiming, subst}
use Rattle.is_theorems.proofs.Common.{Succeeded, Success, success_counted, timeout_begun, TimesOut, true, Udp, Unknown, written, ℕ}
use Rattle.is_theorems.proofs.RuleEffects.NominatedPairs.{selected_paths}
use Rattle.is_theorems.proofs.WorkedExamples.ExampleAgents.{creds_1, creds_2, host_1, host_2, with_creds, with_host, with_both, with_check}
use Rattle.is_theorems.proofs.WorkedExamples.ExampleAgents.{with_answer, path_12, address_1, address_2, address_3, milliseconds, controlled}
use Rattle.is_theorems.proofs.WorkedExamples.ExampleAgents.{request, served, emitted_of_sender, lite_served, lite_started, lite_completed}
use Rattle.is_theorems.proofs.WorkedExamples.ExampleAgents.{lite_lost}

goes_before : (now : ℕ) (t : StunTiming) (p q : PairRecord) → Has (p ∷ []) q → GoesBefore now t p q
goes_before now t p q (inl same) = subst (λ x. GoesBefore now t p x) same (inr (refl, omega arith))
goes_before now t p q (inr none) = absurd none

only_greatest : (p q : PairRecord) → Has (p ∷ []) q → q.priority ≤ p.priority
only_greatest p q (inl same) = subst (λ (x : PairRecord). x.priority ≤ p.priority) same (omega arith)
only_greatest p q (inr none) = absurd none

-- a transaction id
abbrev zero_id : List ℕ
zero_id = 0 ∷ 0 ∷ 0 ∷ 0 ∷ 0 ∷ 0 ∷ 0 ∷ 0 ∷ 0 ∷ 0 ∷ 0 ∷ 0 ∷ []

module _ {H P : Type 0} (mac : H → List ℕ → List ℕ → List ℕ) (answers : P → CandidateRecord → ℕ → ℕ → Type 0) (provider : H) (s : Stream) where
  adds_local : Step mac answers (with_creds {P = P} mac provider) s (AddLocalCandidate host_1) (quiet Added) (with_host mac provider) s
  adds_local = (
    Ok (Some 0),
    nothing_emitted,
    refl,
    (
      None,
      with_host mac provider,
      (
        65534,
        refl,
        (refl, omega arith, (record { pairs = []; next_number = 0 }, (record { pairs = []; next_number = 0 }, refl, ([], (omega arith, refl)), refl), refl)),
      ),
      (refl, refl),
      refl,
    ),
    refl,
  )

  adds_remote : Step mac answers (with_host {P = P} mac provider) s (AddRemoteCandidate (host_2 2130706175)) (quiet Done) (with_both mac provider) s
  adds_remote = (
    Ok _,
    nothing_emitted,
    refl,
    (
      None,
      with_both mac provider,
      (
        omega arith,
        (
          record { pairs = new_pair 0 0 0 9151313343271665150 ∷ []; next_number = 1 },
          (
            record { pairs = new_pair 0 0 0 9151313343271665150 ∷ []; next_number = 1 },
            (_, (None, refl, refl), refl),
            ([], (omega arith, refl)),
            refl,
          ),
          refl,
        ),
      ),
      (refl, refl),
      refl,
    ),
    refl,
  )

  asked_pair : PairRecord
  asked_pair = scheduled 0 default_timing (new_pair 0 0 0 9151313343271665150)

  first_check : IsPut (written (mac provider) (Some (codes "p2")) (binding_request (codes "bbbb:aaaa") (fill_bytes 12 s).0 true 1 1862270719 false)) (binding_request (codes "bbbb:aaaa") (fill_bytes 12 s).0 true 1 1862270719 false)
      → Step mac answers (with_both {P = P} mac provider) s (HandleTimeout 0)
      (record { answer = Done; emitted = issued_only path_12 class.Request (fill_bytes 12 s).0 })
      (with_check mac provider (fill_bytes 12 s).0) (fill_bytes 12 s).1
  unfolding asked_pair
  first_check values = (
    Ok _,
    _,
    refl,
    (
      None,
      None,
      Some _,
      at_timeout 0 (timeout_begun 0 (with_both mac provider)),
      at_timeout 0 (timeout_begun 0 (with_both mac provider)),
      (_, (None, refl, (refl, refl)), refl),
      (refl, refl),
      (
        Some asked_pair,
        ((inl refl, λ q has. goes_before 0 default_timing _ q has), refl),
        ((fill_bytes 12 s).0, refl, values, refl, refl),
      ),
      refl,
    ),
  )

  -- ---- its response at 50 ms: the pair is valid, is nominated, and is selected

  checked_agent : AgentRecord H P
  checked_agent = with_check mac provider zero_id

  sent_check : Check
  sent_check = record { id = zero_id; sent = 0; answered = None; nominated = false; controlling = true }

  checked_pair : PairRecord
  checked_pair = record (new_pair 0 0 0 9151313343271665150) { checks = sent_check ∷ []; checks_sent = 1; first_sent = Some 0; state = InProgress }

  valid_pair : PairRecord
  valid_pair = answered (milliseconds 50) 0 sent_check checked_pair

  recorded : AgentRecord H P
  recorded = record (mapped_added checked_pair (Some address_1) (success_counted checked_agent)) { pairs = valid_pair ∷ [] }

  -- the response, with its MESSAGE-INTEGRITY
  abbrev answer : Integrity → Message
  answer integrity = record (binding_reply zero_id address_1) { integrity = Some integrity }

  takes : (integrity : Integrity) (mid : AgentRecord H P) → mid ≡ evaluated (milliseconds 50) (selected_paths valid_pair recorded)
      → HandlesSuccess (milliseconds 50) checked_agent (reversed path_12) (answer integrity) (selected_only (Some path_12)) mid
  unfolding checked_agent sent_check checked_pair valid_pair recorded
  takes integrity mid is = (
    recorded,
    (0, checked_pair, valid_pair, refl, refl, (0, sent_check, (refl, refl), refl), refl),
    (
      Some path_12,
      selected_paths valid_pair recorded,
      (_, (Some valid_pair, (inl refl, refl, λ q has _. only_greatest valid_pair q has), (refl, refl)), refl),
      refl,
      is,
    ),
  )

  first_answer : (integrity : Integrity) → IsSignedBy (mac provider) (answer integrity) (codes "p2")
      → HandlesPacket mac (milliseconds 50) (with_check {P = P} mac provider zero_id) (reversed path_12) (answer integrity) (Ok true)
      (selected_only (Some path_12)) (with_answer mac provider zero_id)
  unfolding checked_agent sent_check checked_pair valid_pair recorded
  first_answer integrity signed = ((refl, (refl, signed)), (evaluated (milliseconds 50) (selected_paths valid_pair recorded), takes integrity _ refl, refl))

  -- the response on another path than its check's is not accepted
  from_elsewhere : IsAcceptedOn mac (with_check {P = P} mac provider zero_id) (record { proto = Udp; source = address_3; destination = address_1 }) (binding_reply zero_id address_1) → ⊥
  from_elsewhere accepted = let no : false ≡ true = accepted.1.0 in cc

  to_elsewhere : IsAcceptedOn mac (with_check {P = P} mac provider zero_id) (record { proto = Udp; source = address_2; destination = address_3 }) (binding_reply zero_id address_1) → ⊥
  to_elsewhere accepted = let no : false ≡ true = accepted.1.0 in cc

  -- ---- all of it from a new agent: the execution selects a path

  abbrev entry_at : ℕ → Call P → Entry → Logged P
  entry_at number call entry = record { number = number; call = call; entry = entry }

  abbrev session : List ℕ → List (Logged P)
  session bytes =
      entry_at 5 (ReceivePacket (milliseconds 50) (reversed path_12) bytes) (record { answer = Flag true; emitted = selected_only (Some path_12) })
      ∷ entry_at 4 (HandleTimeout 0) (record { answer = Done; emitted = issued_only path_12 class.Request zero_id })
      ∷ entry_at 3 (AddRemoteCandidate (host_2 2130706175)) (quiet Done)
      ∷ entry_at 2 (AddLocalCandidate host_1) (quiet Added)
      ∷ entry_at 1 (SetRemoteCredentials creds_2) (quiet Done)
      ∷ entry_at 0 (SetControlling true) (quiet Done)
      ∷ []

  checks_at : (t : Stream) → (zero_id, t) ≡ fill_bytes 12 s
      → IsPut (written (mac provider) (Some (codes "p2")) (binding_request (codes "bbbb:aaaa") zero_id true 1 1862270719 false)) (binding_request (codes "bbbb:aaaa") zero_id true 1 1862270719 false)
      → Step mac answers (with_both {P = P} mac provider) s (HandleTimeout 0)
      (record { answer = Done; emitted = issued_only path_12 class.Request zero_id }) (with_check mac provider zero_id) t
  unfolding asked_pair
  checks_at t drawn put = (
    Ok _,
    _,
    refl,
    (
      None,
      None,
      Some _,
      at_timeout 0 (timeout_begun 0 (with_both mac provider)),
      at_timeout 0 (timeout_begun 0 (with_both mac provider)),
      (_, (None, refl, (refl, refl)), refl),
      (refl, refl),
      (
        Some asked_pair,
        ((inl refl, λ q has. goes_before 0 default_timing _ q has), refl),
        (zero_id, drawn, put, refl, refl),
      ),
      refl,
    ),
  )

  selects_path : (t : Stream) (bytes : List ℕ) (integrity : Integrity) → (zero_id, t) ≡ fill_bytes 12 s
      → IsPut (written (mac provider) (Some (codes "p2")) (binding_request (codes "bbbb:aaaa") zero_id true 1 1862270719 false)) (binding_request (codes "bbbb:aaaa") zero_id true 1 1862270719 false)
      → Reads bytes (answer integrity) → IsSignedBy (mac provider) (answer integrity) (codes "p2")
      → Run mac answers (fresh provider creds_1 1) s (session bytes) (with_answer mac provider zero_id) t
  selects_path t bytes integrity drawn put reads signed = (
    with_check mac provider zero_id,
    t,
    (
      with_both mac provider,
      s,
      (
        with_host mac provider,
        s,
        (
          with_creds mac provider,
          s,
          (
            record (fresh provider creds_1 1) { controlling = true },
            s,
            (fresh provider creds_1 1, s, (refl, refl), refl, tt, (refl, refl, refl)),
            refl,
            tt,
            (Ok _, refl, (refl, refl), refl),
          ),
          refl,
          λ _. refl,
          adds_local,
        ),
        refl,
        tt,
        adds_remote,
      ),
      refl,
      tt,
      checks_at t drawn put,
    ),
    refl,
    tt,
    (inr (answer integrity, reads, (Ok true, selected_only (Some path_12), refl, first_answer integrity signed)), refl),
  )

  -- ---- the next timeout after each, once the packet is polled

  abbrev polled : AgentRecord H P → AgentRecord H P
  polled a = record a { packets = [] }

  checked_timeouts : PollsTimeout (polled (with_check mac provider zero_id)) (Some (milliseconds 250)) (all_scheduled 0 (polled (with_check mac provider zero_id)))
  unfolding delay_millis
  checked_timeouts = (refl, refl)

  answered_timeouts : PollsTimeout (polled (with_answer mac provider zero_id)) (Some (milliseconds 50)) (all_scheduled 0 (polled (with_answer mac provider zero_id)))
  unfolding delay_millis
  answered_timeouts = (refl, refl)

  -- ---- requests

  -- an unknown sender, to the first local candidate
  abbrev unknown : Places
  unknown = record { local = 0; remote = Unknown; pair = None }

  -- the peer nominates: a peer-reflexive candidate, a nominated pair, and a response
  serves : IsPut (written (mac provider) (Some (codes "p1")) (binding_reply zero_id address_2)) (binding_reply zero_id address_2)
      → Serves mac (request zero_id) (controlled {P = P} mac provider) (issued_only path_12 class.Success zero_id) (served mac provider zero_id)
  serves values = (Some unknown, (refl, refl, (Unknown, (None, (λ k below. refl), refl), refl), refl), (refl, (None, _, (refl, refl), (values, refl, refl))))

  nominated_pair : PairRecord
  nominated_pair = record (new_pair 0 0 0 7962116751041232382) { nomination = Nominated; requests = 1; last_request = Some 0 }

  -- the sender is signaled as a host candidate: it overwrites the stored one, and the pair is replaced by one with
  -- the same nomination
  overwrites : Step mac answers (served {P = P} mac provider zero_id) s (AddRemoteCandidate (host_2 2130706175)) (quiet Done) (emitted_of_sender mac provider zero_id) s
  unfolding nominated_pair
  overwrites = (
    Ok _,
    nothing_emitted,
    refl,
    (
      None,
      emitted_of_sender mac provider zero_id,
      (
        omega arith,
        (
          record { pairs = record (new_pair 1 0 0 9151313343271665150) { nomination = Nominated } ∷ []; next_number = 2 },
          (
            record { pairs = record (new_pair 1 0 0 9151313343271665150) { nomination = Nominated } ∷ []; next_number = 2 },
            (_, (Some nominated_pair, (inl refl, refl, λ q has _. only_greatest nominated_pair q has), refl), refl),
            ([], (omega arith, refl)),
            refl,
          ),
          refl,
        ),
      ),
      (refl, refl),
      refl,
    ),
    refl,
  )

  -- a request that claims the agent's own role with a smaller tie-breaker: 487, on the reverse path
  conflict_sent : IsPut (written (mac provider) (Some (codes "p1")) (binding_role_conflict_reply zero_id)) (binding_role_conflict_reply zero_id)
      → Serves mac (record (request zero_id) { ice_controlling = Some 1 }) (with_host {P = P} mac provider)
      (issued_only path_12 class.Failure zero_id)
      (record (with_host mac provider) {
        packets = record { proto = Udp; source = address_1; destination = address_2; contents = written (mac provider) (Some (codes "p1")) (binding_role_conflict_reply zero_id) } ∷ [];
      })
  conflict_sent values = (Some unknown, (refl, refl, (Unknown, (None, (λ k below. refl), refl), refl), refl), (refl, (values, refl, refl)))

  -- with a greater one: the role switches, the request is served, and the pair is nominated
  yielded : IsPut (written (mac provider) (Some (codes "p1")) (binding_reply zero_id address_2)) (binding_reply zero_id address_2)
      → Serves mac (request zero_id) (with_host {P = P} mac provider) (issued_only path_12 class.Success zero_id) (served mac provider zero_id)
  yielded values = (Some unknown, (refl, refl, (Unknown, (None, (λ k below. refl), refl), refl), refl), (refl, (None, _, (refl, refl), (values, refl, refl))))

  -- a re-created agent in New goes to Checking, and has its pair again under a new number
  recreates : Step mac answers (with_both {P = P} mac provider) s RecreateCandidatePairs (quiet Done)
      (record (with_both mac provider) { pairs = new_pair 1 0 0 9151313343271665150 ∷ []; next_number = 2; state = Checking; events = IceConnectionStateChange Checking ∷ [] }) s
  recreates = (
    Ok _,
    refl,
    (
      omega arith,
      (
        record { pairs = new_pair 1 0 0 9151313343271665150 ∷ []; next_number = 2 },
        (
          record { pairs = new_pair 1 0 0 9151313343271665150 ∷ []; next_number = 2 },
          (_, (None, refl, refl), refl),
          ([], (omega arith, refl)),
          refl,
        ),
        refl,
      ),
    ),
    refl,
  )

  -- ---- ice-lite

  lite_serves : IsPut (written (mac provider) (Some (codes "p1")) (binding_reply zero_id address_2)) (binding_reply zero_id address_2)
      → Serves mac (request zero_id) (record (controlled {P = P} mac provider) { lite = true }) (issued_only path_12 class.Success zero_id) (lite_served mac provider zero_id)
  lite_serves values = (Some unknown, (refl, refl, (Unknown, (None, (λ k below. refl), refl), refl), refl), (refl, (None, _, (refl, refl), (values, refl, refl))))

  lite_pair : PairRecord
  lite_pair = record (new_pair 0 0 0 7962116751041232382) { nomination = Success; state = Succeeded; requests = 1; last_request = Some 0 }

  lite_starts : TimesOut mac 0 (lite_served {P = P} mac provider zero_id) s (Ok _) (selected_only (Some path_12)) (lite_started mac provider zero_id) s
  unfolding lite_pair
  lite_starts = (
    Some path_12,
    None,
    None,
    lite_started mac provider zero_id,
    lite_started mac provider zero_id,
    (_, (Some lite_pair, (inl refl, refl, λ q has _. only_greatest lite_pair q has), (refl, refl)), refl),
    (refl, refl),
    (refl, refl, refl),
    refl,
  )

  lite_timeouts : PollsTimeout (polled (lite_started mac provider zero_id)) (Some (milliseconds 3000)) (polled (lite_started mac provider zero_id))
  lite_timeouts = (refl, refl)

  lite_completes : TimesOut mac (milliseconds 50) (lite_started {P = P} mac provider zero_id) s (Ok _) nothing_emitted (lite_completed mac provider zero_id) s
  unfolding lite_pair
  lite_completes = (
    None,
    None,
    None,
    lite_completed mac provider zero_id,
    lite_completed mac provider zero_id,
    (_, (Some lite_pair, (inl refl, refl, λ q has _. only_greatest lite_pair q has), (refl, refl)), refl),
    (refl, refl),
    (refl, refl, refl),
    refl,
  )

  lite_stays : TimesOut mac (milliseconds 14999) (lite_completed {P = P} mac provider zero_id) s (Ok _) nothing_emitted
      (record (lite_completed mac provider zero_id) { last_time = Some (milliseconds 14999) }) s
  unfolding lite_pair
  lite_stays = (
    None,
    None,
    None,
    _,
    _,
    (_, (Some lite_pair, (inl refl, refl, λ q has _. only_greatest lite_pair q has), (refl, refl)), refl),
    (refl, refl),
    (refl, refl, refl),
    refl,
  )

  lite_loses : TimesOut mac (milliseconds 15000) (lite_completed {P = P} mac provider zero_id) s (Ok _) nothing_emitted (lite_lost mac provider zero_id) s
  unfolding lite_pair
  lite_loses = (
    None,
    None,
    None,
    _,
    lite_lost mac provider zero_id,
    (_, (Some lite_pair, (inl refl, refl, λ q has _. only_greatest lite_pair q has), (refl, refl)), refl),
    (_, (_, (None, refl, (refl, refl)), refl), refl),
    (refl, refl, refl),
    refl,
  )
