-- The settings of an agent: each changes only if the caller sets it.
use Rattle.std.specs.Prelude.{◌≡◌, ℕ, ◌<◌, Bool, List, [], ◌∷◌, map, Option, Some, if◌then◌else◌}
use Rattle.rand_core.specs.Stream.{Stream}
use Rattle.is_candidate.specs.Candidates.{CandidateRecord}
use Rattle.is_rules.specs.declared.settings.Settings.{Settings}
use Rattle.is_rules.specs.Agent.{AgentRecord}
use Rattle.is_rules.specs.Settings.{settings_of, with_settings}
use Rattle.is_rules.specs.Steps.{Call, SetMtu, SetControlTieBreaker, SetMaxCandidatePairs, SetMaxCandidates, SetMaxDiscovered, SetIceLite, SetRenomination, SetProfile, SetConsent, SetTimingAdvance}
use Rattle.is_rules.specs.Steps.{SetInitialStunRto, SetMaxStunRto, SetMaxStunRetransmits, SetLiteTimeout, SetLocalPreference, Answer, Done, is_done, Entry, quiet, Step}
use Rattle.is_theorems.specs.Exchange.{Execution}
use Rattle.is_theorems.specs.Logs.{Logged}

-- What the caller sets and nothing else changes: all that `set_settings` sets, as one value, and what only a setter of its own sets.
-- Credentials and the role are not among it: ICE restarts and role conflicts change them.
pub record SettingsRecord (P : Type 0) : Type 0 where
  pub settings : Settings
  pub lite : Bool
  pub tie_breaker : ℕ
  pub mtu : ℕ
  pub mtu_warn : ℕ
  pub preference : Option P

-- all that the caller sets: the settings of an agent, its tie-breaker, MTU and preference object, and whether it is lite
abbrev pub all_settings_of : {H P : Type 0} → AgentRecord H P → SettingsRecord P
all_settings_of a = record {
  settings = settings_of a;
  lite = a.lite;
  tie_breaker = a.tie_breaker;
  mtu = a.mtu;
  mtu_warn = a.mtu_warn;
  preference = a.preference;
}

-- A setter sets its own setting, and only if it returns Ok. Any other call leaves all.
abbrev pub settings_after : {P : Type 0} → Call P → Answer → SettingsRecord P → SettingsRecord P
settings_after (SetProfile profile) answer old = record old { settings = record old.settings { profile = profile } }
settings_after (SetTimingAdvance by) answer old = record old { settings = record old.settings { timing_advance = record { 0 = by } } }
settings_after (SetInitialStunRto rto) answer old = record old { settings = record old.settings { initial_rto = record { 0 = rto } } }
settings_after (SetMaxStunRto rto) answer old = record old { settings = record old.settings { max_rto = record { 0 = rto } } }
settings_after (SetMaxStunRetransmits n) answer old = if is_done answer then record old { settings = record old.settings { max_retransmits = n } } else old
settings_after (SetLiteTimeout by) answer old = record old { settings = record old.settings { lite_timeout = record { 0 = by } } }
settings_after (SetConsent consent) answer old = record old { settings = record old.settings { consent = consent } }
settings_after (SetMaxCandidatePairs limit) answer old = record old { settings = record old.settings { max_pairs = limit } }
settings_after (SetMaxDiscovered limit) answer old = record old { settings = record old.settings { max_discovered = limit } }
settings_after (SetMaxCandidates limit) answer old = record old { settings = record old.settings { max_candidates = limit } }
settings_after (SetRenomination renominates) answer old = record old { settings = record old.settings { renomination = renominates } }
settings_after (SetIceLite lite) answer old = record old { lite = lite }
settings_after (SetControlTieBreaker tie_breaker) answer old = record old { tie_breaker = tie_breaker }
settings_after (SetMtu mtu warn) answer old = if is_done answer then record old { mtu = mtu; mtu_warn = warn } else old
settings_after (SetLocalPreference object) answer old = record old { preference = Some object }
settings_after _ answer old = old

-- the settings after the calls of a log, newest entry first, if they were these before
abbrev pub settings_along : {P : Type 0} → SettingsRecord P → List (Logged P) → SettingsRecord P
settings_along first [] = first
settings_along first (x ∷ before) = settings_after x.call x.entry.answer (settings_along first before)

-- The theorem: a call changes the settings only as its setter says, whatever the agent receives.
abbrev pub SettingsAreSet : {H P : Type 0} → (H → List ℕ → List ℕ → List ℕ) → (P → CandidateRecord → ℕ → ℕ → Type 0) → Type 0
SettingsAreSet {H = H} {P = P} mac answers =
    (old new : AgentRecord H P) (s t : Stream) (call : Call P) (e : Entry) → Step mac answers old s call e new t
    → all_settings_of new ≡ settings_after call e.answer (all_settings_of old)

-- The theorem: `set_settings` sets all of its value, and leaves the others.
abbrev pub AllAreSet : Type 0 → Type 0 → Type 0
AllAreSet H P = (old : AgentRecord H P) (s : Settings) → all_settings_of (with_settings s old) ≡ record (all_settings_of old) { settings = s }

-- the setters of all that `set_settings` sets, in an order in which they may be called
abbrev pub setters_of : {P : Type 0} → Settings → List (Call P)
setters_of s =
    SetProfile s.profile ∷ SetConsent s.consent ∷ SetMaxStunRetransmits s.max_retransmits ∷ SetLiteTimeout s.lite_timeout.0
    ∷ SetInitialStunRto s.initial_rto.0 ∷ SetMaxStunRto s.max_rto.0 ∷ SetTimingAdvance s.timing_advance.0
    ∷ SetMaxCandidatePairs s.max_pairs ∷ SetMaxDiscovered s.max_discovered
    ∷ SetMaxCandidates s.max_candidates ∷ SetRenomination s.renomination ∷ []

-- The theorem: `set_settings` is an execution of these setters. So what holds of executions holds of agents whose settings are set at once.
abbrev pub AllAreSetInTurn : {H P : Type 0} → (H → List ℕ → List ℕ → List ℕ) → (P → CandidateRecord → ℕ → ℕ → Type 0) → Type 0
AllAreSetInTurn {H = H} {P = P} mac answers =
    (old : AgentRecord H P) (s : Settings) (random : Stream) → 0 < s.max_retransmits
    → Execution mac answers (map (λ call. (call, quiet Done)) (setters_of s)) old (with_settings s old)
