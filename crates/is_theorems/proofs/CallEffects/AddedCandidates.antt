-- What the calls change before pairs are formed, and what they form.
use Rattle.is_theorems.proofs.Common.{◌<◌, ◌≡◌, AddsLocal, AddsRemote, AgentRecord, appended, as_own, as_remote, scheduled, candidate_at}
use Rattle.is_theorems.proofs.Common.{candidate_priority, CandidateRecord, comes_again, enabled, enabled_again, EnrolsAt, Err, FormsAll}
use Rattle.is_theorems.proofs.Common.{IceError, is_idle, is_ignored, is_modern, is_placeholder, is_same_place, is_temporary, is_too_high}
use Rattle.is_theorems.proofs.Common.{is_unwanted, is_waiting, IsBased, length, local_combinations, local_discarded, map, nat_lt}
use Rattle.is_theorems.proofs.Common.{NextTimeoutFrom, NextTimeouts, None, Ok, Option, PollsTimeout, position, preferred, PriorityTooHigh}
use Rattle.is_theorems.proofs.Common.{refl, remote_combinations, same_address, Some, StoresAt, WaitingTimeout, with_remote, ℕ}
use Rattle.is_theorems.proofs.BasicLemmas.EqualAddresses.{both, same_address-sound}
use Rattle.is_theorems.proofs.RuleEffects.UnchangedSettings.{either}
use Rattle.is_theorems.proofs.BasicLemmas.CandidatesByIndex.{found-at}

no_error : {A R : Type 0} (x : A) (error : IceError) → Ok x ≡ Err error → R
no_error x error h = absurd (cc)

module _ {H P : Type 0} {R : Type 0} (old new : AgentRecord H P) where
  -- ---- a local candidate

  enrolled_by : (c : CandidateRecord) (at place : Option ℕ) → position (is_same_place c) old.local ≡ at → EnrolsAt old c at (Ok place) new
      → (new ≡ old → R)
      → (FormsAll (appended (as_own old c) old) (local_combinations (as_own old c) (length old.local) old.remote) new → R)
      → ((k : ℕ) → k < length old.local → FormsAll (enabled_again k old) (local_combinations (enabled (candidate_at old.local k)) k old.remote) new → R)
      → ((k : ℕ) → FormsAll (appended (as_own old c) (local_discarded k old)) (local_combinations (as_own old c) (length old.local) old.remote) new → R)
      → R
  enrolled_by c None place is h stays adds again supersedes = adds h.2
  enrolled_by c (Some k) place is h stays adds again supersedes = either (comes_again c (candidate_at old.local k)) h
      (λ _ e. again k (found-at (is_same_place c) old.local k is).0 e.2)
      (λ _ e. either (nat_lt (candidate_priority c) (candidate_priority (candidate_at old.local k))) e
      (λ _ n. stays n.1)
      (λ _ n. supersedes k n.2))

  -- it is ignored, appended, enabled again at its index, or appended when another one is discarded
  pub by_adding_local : (answers : P → CandidateRecord → ℕ → ℕ → Type 0) (c : CandidateRecord) (place : Option ℕ) → AddsLocal answers old c (Ok place) new
      → (new ≡ old → R)
      → ((x : CandidateRecord) → (IsBased c → IsBased x) → FormsAll (appended x old) (local_combinations x (length old.local) old.remote) new → R)
      → ((k : ℕ) → k < length old.local → FormsAll (enabled_again k old) (local_combinations (enabled (candidate_at old.local k)) k old.remote) new → R)
      → ((x : CandidateRecord) → (IsBased c → IsBased x) → (k : ℕ) → FormsAll (appended x (local_discarded k old)) (local_combinations x (length old.local) old.remote) new → R)
      → R
  by_adding_local answers c place h stays adds again supersedes = either (is_too_high c) h
      (λ _ e. no_error place PriorityTooHigh e.0)
      (λ _ e. either (is_unwanted old c) e
      (λ _ n. stays n.1)
      (λ _ n. enrolled_by (preferred n.0 c) (position (is_same_place (preferred n.0 c)) old.local) place refl n.2 stays
      (λ f. adds (as_own old (preferred n.0 c)) (λ is. is) f) again
      (λ k f. supersedes (as_own old (preferred n.0 c)) (λ is. is) k f)))

  -- ---- a remote one

  stored_by : (c : CandidateRecord) (at : Option ℕ) → position (is_placeholder c) old.remote ≡ at → StoresAt old c at new
      → (FormsAll (with_remote c None old) (remote_combinations c (length old.remote) old.local) new → R)
      → ((k : ℕ) → k < length old.remote → (candidate_at old.remote k).addr ≡ c.addr → FormsAll (with_remote c (Some k) old) (remote_combinations c k old.local) new → R)
      → R
  stored_by c None is h adds over = adds h
  stored_by c (Some k) is h adds over =
      let found = found-at (is_placeholder c) old.remote k is in
      let passes = both (is_temporary (candidate_at old.remote k)) (same_address (candidate_at old.remote k).addr c.addr) found.1 in
      over k found.0 (same_address-sound (candidate_at old.remote k).addr c.addr passes.1) h

  -- it is ignored, appended, or replaces one with the same address
  pub by_adding_remote : (c : CandidateRecord) → AddsRemote old c (Ok _) new
      → (new ≡ old → R)
      → (FormsAll (with_remote (as_remote c) None old) (remote_combinations (as_remote c) (length old.remote) old.local) new → R)
      → ((k : ℕ) → k < length old.remote → (candidate_at old.remote k).addr ≡ c.addr
      → FormsAll (with_remote (as_remote c) (Some k) old) (remote_combinations (as_remote c) k old.local) new → R)
      → R
  by_adding_remote c h stays adds over = either (is_ignored old c) h
      (λ _ same. stays same)
      (λ _ k. stored_by (as_remote c) (position (is_placeholder (as_remote c)) old.remote) refl k.1 adds over)

  -- ---- `poll_timeout`

  -- while something waits
  pub by_waiting : (last w : ℕ) → WaitingTimeout old last w new → (new ≡ old → R) → (new ≡ record old { pairs = map (scheduled last old.timing) old.pairs } → R) → R
  by_waiting last w h stays asks = either (is_modern old.timing) h.1 (λ _ made. asks made) (λ _ made. stays made)

  -- after a `handle_timeout` call at time `last`
  pub by_deadline : (last w : ℕ) → NextTimeouts old last w new → (new ≡ old → R) → (new ≡ record old { pairs = map (scheduled last old.timing) old.pairs } → R) → R
  by_deadline last w h stays asks = either (is_waiting old) h
      (λ _ k. by_waiting last w k stays asks)
      (λ _ k. either (is_idle old) k (λ _ n. stays n.1) (λ _ n. asks n.1))

  timeout_from : (last deadline : Option ℕ) → NextTimeoutFrom last old deadline new → (new ≡ old → R) → ((at : ℕ) → new ≡ record old { pairs = map (scheduled at old.timing) old.pairs } → R) → R
  timeout_from None deadline h stays asks = stays h.1
  timeout_from (Some last) None h stays asks = absurd h
  timeout_from (Some last) (Some w) h stays asks = by_deadline last w h stays (λ made. asks last made)

  -- nothing changes, or the due time of each pair is fixed
  pub by_waking : (deadline : Option ℕ) → PollsTimeout old deadline new → (new ≡ old → R) → ((at : ℕ) → new ≡ record old { pairs = map (scheduled at old.timing) old.pairs } → R) → R
  by_waking deadline h stays asks = timeout_from old.last_time deadline h stays asks
