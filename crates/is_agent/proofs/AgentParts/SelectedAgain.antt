-- Calls that add or invalidate a candidate: what they do, and whether another path is selected after it.
use Rattle.std.proofs.Common.{◌≡◌, ℕ, ◌&&◌, not, Bool, true, false, Option, Some, None, is_some, Result, Ok, Err, IsErrAnd, length, refl, sym, ap, subst, ◌∙◌}
use Rattle.std.proofs.Math.Bool.{and-true, and-false}
use Rattle.is_proto.specs.declared.error.IceError.{IceError}
use Rattle.is_proto.specs.declared.error.IceError.TheVariants.{OutOfMemory, PairIdsExhausted, BadCandidate, MtuTooSmall, CredentialsTooLong, PriorityTooHigh, LiteStaysControlled}
use Rattle.is_candidate.specs.Candidates.{CandidateRecord, candidate_at}
use Rattle.is_candidate.specs.Equality.{is_same_place}
use Rattle.is_candidate.specs.Priorities.{candidate_priority}
use Rattle.std.specs.Prelude.{⊤, nat_lt, position}
use Rattle.is_rules.specs.declared.emitted.Emitted.{Emitted}
use Rattle.is_rules.specs.declared.emitted.Path.{Path}
use Rattle.is_rules.specs.Agent.{AgentRecord}
use Rattle.is_rules.specs.Emitted.{nothing_emitted, selected_only}
use Rattle.is_rules.specs.Discarding.{local_discarded}
use Rattle.is_rules.specs.Local.{comes_again, enabled, enabled_again, as_own, appended, is_too_high, is_unwanted, preferred, Enters, IsNotAdded, EnrolsAt, AddsLocal}
use Rattle.is_rules.specs.Remote.{as_remote, is_ignored, AddsRemote, JoinsRemote}
use Rattle.is_rules.proofs.PollsAndResponses.NextTimeout.{either}
use Rattle.is_rules.specs.StateUpdates.{updates_late, has_selected, loses_selected, Reselects, ReselectsAfter}

-- a local candidate that gets no index
abbrev HasNoIndex : Result (Option ℕ) IceError → Type 0
HasNoIndex (Ok place) = place ≡ None
HasNoIndex (Err error) = ⊤

pub is-err : {X E : Type 0} (r : Result X E) (error : E) → IsErrAnd r (λ e. e ≡ error) → r ≡ Err error
is-err (Ok x) error h = absurd h
is-err (Err e) error h = ap Err h

module _ {H P : Type 0} where
  loses-none : (a : AgentRecord H P) → loses_selected a a ≡ false
  loses-none a = by (updates_late a) (has_selected a) where
    by : (s h : Bool) → s && h && not h ≡ false
    by true true = refl
    by true false = refl
    by false true = refl
    by false false = refl

  -- A call that changes nothing selects no path.
  pub changes-nothing : (Does : AgentRecord H P → Type 0) (old new : AgentRecord H P) (emitted : Emitted) → Does new → new ≡ old → emitted ≡ nothing_emitted
      → ReselectsAfter Does old emitted new
  changes-nothing Does old new emitted does same nothing =
      let none : loses_selected old new ≡ false = ap (λ (a : AgentRecord H P). loses_selected old a) same ∙ loses-none old in
      (None, new, does, subst (λ (b : Bool). Reselects b new None new) (sym none) (refl, refl), nothing)

  -- what was known before the call decides, with what is there after it
  pub selects-again : (Does : AgentRecord H P → Type 0) (old mid new : AgentRecord H P) (kept : Bool) (path : Option Path) (emitted : Emitted) → kept ≡ (updates_late old && has_selected old)
      → Does mid → Reselects (kept && not (has_selected mid)) mid path new → emitted ≡ selected_only path → ReselectsAfter Does old emitted new
  selects-again Does old mid new kept path emitted is does made emits =
      let loses : (kept && not (has_selected mid)) ≡ loses_selected old mid = ap (λ (k : Bool). k && not (has_selected mid)) is in
      (path, mid, does, subst (λ (b : Bool). Reselects b mid path new) loses made, emits)

  -- a call that failed, or added nothing, changed nothing
  pub unchanged : (Does : AgentRecord H P → Type 0) (old new : AgentRecord H P) (emitted : Emitted) → ((mid : AgentRecord H P) → Does mid → mid ≡ old)
      → ReselectsAfter Does old emitted new → Does new
  unchanged Does old new emitted same (path, mid, does, made, emits) =
      let is = same mid does in
      let none : loses_selected old mid ≡ false = ap (λ (a : AgentRecord H P). loses_selected old a) is ∙ loses-none old in
      let stays = subst (λ (b : Bool). Reselects b mid path new) none made in
      subst Does (sym stays.1) does

  pub failed-join : (old new : AgentRecord H P) (c : CandidateRecord) (error : IceError) → JoinsRemote old c (Err error) new → new ≡ old
  failed-join old new c PairIdsExhausted h = h.1
  failed-join old new c OutOfMemory h = h.1
  failed-join old new c (BadCandidate message) h = absurd h
  failed-join old new c MtuTooSmall h = absurd h
  failed-join old new c CredentialsTooLong h = absurd h
  failed-join old new c PriorityTooHigh h = absurd h
  failed-join old new c LiteStaysControlled h = absurd h

  -- an ignored candidate, and one that is not
  pub ignored-adds : (old : AgentRecord H P) (c : CandidateRecord) (emitted : Emitted) → is_ignored old c ≡ true → emitted ≡ nothing_emitted
      → ReselectsAfter (AddsRemote old c (Ok tt)) old emitted old
  ignored-adds old c emitted ignored nothing =
      let does : AddsRemote old c (Ok tt) old = rw (ignored) refl in
      changes-nothing (AddsRemote old c (Ok tt)) old old emitted does refl nothing

  pub joined-adds : (old new : AgentRecord H P) (c : CandidateRecord) (result : Result (Unit {0}) IceError) (emitted : Emitted) → is_ignored old c ≡ false
      → ReselectsAfter (JoinsRemote old (as_remote c) result) old emitted new → ReselectsAfter (AddsRemote old c result) old emitted new
  joined-adds old new c result emitted taken (path, mid, joins, made, emits) =
      let does : AddsRemote old c result mid = rw (taken) joins in
      (path, mid, does, made, emits)

  failed-entry : (old mid new : AgentRecord H P) (c : CandidateRecord) (place : ℕ) (error : IceError) → Enters old c place mid (Err error) new → new ≡ old
  failed-entry old mid new c place PairIdsExhausted h = h.1
  failed-entry old mid new c place OutOfMemory h = h.1
  failed-entry old mid new c place (BadCandidate message) h = absurd h
  failed-entry old mid new c place MtuTooSmall h = absurd h
  failed-entry old mid new c place CredentialsTooLong h = absurd h
  failed-entry old mid new c place PriorityTooHigh h = absurd h
  failed-entry old mid new c place LiteStaysControlled h = absurd h

  not-entered : (old mid new : AgentRecord H P) (c : CandidateRecord) (place : ℕ) (result : Result (Option ℕ) IceError) → HasNoIndex result → Enters old c place mid result new → new ≡ old
  not-entered old mid new c place (Ok at) none h = absurd (cc)
  not-entered old mid new c place (Err error) none h = failed-entry old mid new c place error h

  not-added : (old new : AgentRecord H P) (result : Result (Option ℕ) IceError) → IsNotAdded old result new → new ≡ old
  not-added old new (Ok place) h = h.1
  not-added old new (Err error) h = absurd h

  not-enrolled : (old new : AgentRecord H P) (c : CandidateRecord) (at : Option ℕ) (result : Result (Option ℕ) IceError) → HasNoIndex result → EnrolsAt old c at result new → new ≡ old
  not-enrolled old new c None result none h = not-entered old (appended (as_own old c) old) new (as_own old c) (length old.local) result none h
  not-enrolled old new c (Some place) result none h =
      let other = candidate_at old.local place in
      either (comes_again c other) h (λ _ again. not-entered old (enabled_again place old) new (enabled other) place result none again)
      (λ _ k. either (nat_lt (candidate_priority c) (candidate_priority other)) k (λ _ stays. not-added old new result stays)
      (λ _ enters. not-entered old (appended (as_own old c) (local_discarded place old)) new (as_own old c) (length old.local) result none enters))

  module _ (answers : P → CandidateRecord → ℕ → ℕ → Type 0) where
    not-listed : (old new : AgentRecord H P) (c : CandidateRecord) (result : Result (Option ℕ) IceError) → HasNoIndex result → AddsLocal answers old c result new → new ≡ old
    not-listed old new c result none h =
        either (is_too_high c) h (λ _ high. high.1)
        (λ _ k. either (is_unwanted old c) k (λ _ stays. not-added old new result stays)
        (λ _ enrols. not-enrolled old new (preferred enrols.0 c) (position (is_same_place (preferred enrols.0 c)) old.local) result none enrols.2))

    pub failed-addition : (old new : AgentRecord H P) (c : CandidateRecord) (error : IceError) → AddsLocal answers old c (Err error) new → new ≡ old
    failed-addition old new c error h = not-listed old new c (Err error) tt h

    -- whether it was added or not, its index says if pairs may be gone
    pub adds-and-selects : (old mid new : AgentRecord H P) (c : CandidateRecord) (kept : Bool) (place : Option ℕ) (path : Option Path) (emitted : Emitted)
        → kept ≡ (updates_late old && has_selected old) → AddsLocal answers old c (Ok place) mid
        → Reselects ((kept && is_some place) && not (has_selected mid)) mid path new → emitted ≡ selected_only path
        → ReselectsAfter (AddsLocal answers old c (Ok place)) old emitted new
    adds-and-selects old mid new c kept None path emitted is adds made emits =
        let same = not-listed old mid c (Ok None) refl adds in
        let stays = subst (λ (b : Bool). Reselects (b && not (has_selected mid)) mid path new) (and-false kept) made in
        let none : loses_selected old mid ≡ false = ap (λ (a : AgentRecord H P). loses_selected old a) same ∙ loses-none old in
        (path, mid, adds, subst (λ (b : Bool). Reselects b mid path new) (sym none) stays, emits)
    adds-and-selects old mid new c kept (Some place) path emitted is adds made emits =
        let lost = subst (λ (b : Bool). Reselects (b && not (has_selected mid)) mid path new) (and-true kept) made in
        selects-again (AddsLocal answers old c (Ok (Some place))) old mid new kept path emitted is adds lost emits
