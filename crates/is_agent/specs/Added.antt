-- Where an added candidate is listed: its index among the candidates that are not discarded.
use Rattle.std.specs.Prelude.{◌≡◌, ℕ, ◌==◌, ◌&&◌, Bool, not, List, take, count_by, position, Option, Some, None, option_map, Result, Ok, Err, if◌then◌else◌}
use Rattle.is_proto.specs.declared.error.IceError.{IceError}
use Rattle.is_candidate.specs.Candidates.{CandidateRecord}
use Rattle.is_candidate.specs.Equality.{is_same_place, is_equivalent}
use Rattle.is_agent.specs.declared.added.Addition.{Addition}
use Rattle.is_agent.specs.declared.added.Addition.TheVariants.{Added, Known, Ignored, TooMany, OtherComponent, OtherUfrag}
use Rattle.is_rules.specs.declared.emitted.Emitted.{Emitted}
use Rattle.is_rules.specs.Agent.{AgentRecord}
use Rattle.is_rules.specs.Forming.{is_alive}
use Rattle.is_rules.specs.Limit.{is_full}
use Rattle.is_rules.specs.Local.{AddsLocal}
use Rattle.is_rules.specs.StateUpdates.{ReselectsAfter}
use Rattle.is_rules.specs.Remote.{AddsRemote, is_ignored, has_other_ufrag, is_placeholder, place_or_end}

-- how many listed candidates come before the one at this place
abbrev pub listed_index : List CandidateRecord → ℕ → ℕ
listed_index cs place = count_by is_alive (take place cs)

-- the index of the first listed candidate that passes
abbrev pub first_listed : (CandidateRecord → Bool) → List CandidateRecord → Option ℕ
first_listed test cs = option_map (listed_index cs) (position (λ c. is_alive c && test c) cs)

-- a candidate that is not added, by the index of the one that equals it
abbrev pub not_added : Option ℕ → Addition
not_added None = Ignored
not_added (Some index) = Known index

abbrev pub reported : {A : Type 0} → (A → Addition) → Result A IceError → Result Addition IceError
reported report_on (Ok x) = Ok (report_on x)
reported report_on (Err e) = Err e

module _ {H P : Type 0} where
  -- why a local candidate is not added: for the limit, or for one that it equals; a lite agent may have neither reason
  abbrev pub unwanted_addition : AgentRecord H P → CandidateRecord → Addition
  unwanted_addition old c = if is_full old.max_candidates old.local then TooMany else not_added (first_listed (is_same_place c) old.local)

  -- what became of a local candidate, by the index that it got, if it was added
  abbrev pub local_addition : AgentRecord H P → CandidateRecord → AgentRecord H P → Option ℕ → Addition
  local_addition old c new None = unwanted_addition old c
  local_addition old c new (Some place) = Added (listed_index new.local place)

  -- `add_local_listed`
  abbrev pub AddsLocalListed : (P → CandidateRecord → ℕ → ℕ → Type 0) → AgentRecord H P → CandidateRecord → Result Addition IceError
      → AgentRecord H P → Type 0
  AddsLocalListed answers old c result new =
      (place : Result (Option ℕ) IceError) × (emitted : Emitted) × ReselectsAfter (AddsLocal answers old c place) old emitted new
      × (result ≡ reported (local_addition old c new) place)

  -- why a remote candidate is ignored: for the limit, for its component, for its username fragment, or for a pair whose remote
  -- candidate equals it
  abbrev pub ignored_addition : AgentRecord H P → CandidateRecord → Addition
  ignored_addition old c =
      if is_full old.max_candidates old.remote then TooMany
      else if not (c.component == 1) then OtherComponent
      else if has_other_ufrag old.remote_creds c.ufrag then OtherUfrag
      else not_added (first_listed (is_equivalent c) old.remote)

  -- A remote candidate takes the place of the one that a request from its address added, else the last one.
  abbrev pub remote_addition : AgentRecord H P → CandidateRecord → Addition
  remote_addition old c =
      if is_ignored old c then ignored_addition old c
      else Added (listed_index old.remote (place_or_end (position (is_placeholder c) old.remote) old.remote))

  -- `add_remote_listed`
  abbrev pub AddsRemoteListed : AgentRecord H P → CandidateRecord → Result Addition IceError → AgentRecord H P → Type 0
  AddsRemoteListed old c result new =
      (done : Result (Unit {0}) IceError) × (emitted : Emitted) × ReselectsAfter (AddsRemote old c done) old emitted new
      × (result ≡ reported (λ _. remote_addition old c) done)
