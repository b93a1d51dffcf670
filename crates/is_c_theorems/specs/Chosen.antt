-- What C chose: the settings that its calls set, and what it leaves as it was made.
use Rattle.std.specs.Prelude.{◌≡◌, ℕ, Bool, true, false, not, List, [], ◌∷◌, Some, if◌then◌else◌}
use Rattle.is_proto.specs.Lists.{Has}
use Rattle.is_rules.specs.declared.credentials.IceCreds.{IceCreds}
use Rattle.is_theorems.specs.Settings.{SettingsRecord, all_settings_of}
use Rattle.is_c_calls.specs.declared.preference.Preference.{Preference}
use Rattle.is_c_calls.specs.AgentSettings.{settings_of}
use Rattle.is_c_calls.specs.Held.{HeldRecord}
use Rattle.is_c_calls.specs.Limits.{limit_of}
use Rattle.is_c_calls.specs.Making.{fresh_held}
use Rattle.is_c_calls.specs.Sessions.{Used, Session, is_ok}
use Rattle.is_c_calls.specs.Uses.{Use, SetLite, SetRenomination, SetTieBreaker, SetMaxPairs, SetMaxDiscovered, SetMaxCandidates, SetTimingAdvance, SetInitialRto, SetMaxRto, SetLiteTimeout, SetMaxRetransmits, SetMtu, SetPreference, SetSettings}

-- ---- the settings

-- what a call sets, if it returns OK
abbrev pub sets : Use → SettingsRecord Preference → SettingsRecord Preference
sets (SetSettings s) old = record old { settings = settings_of s }
sets (SetTimingAdvance by) old = record old { settings = record old.settings { timing_advance = record { 0 = by } } }
sets (SetInitialRto rto) old = record old { settings = record old.settings { initial_rto = record { 0 = rto } } }
sets (SetMaxRto rto) old = record old { settings = record old.settings { max_rto = record { 0 = rto } } }
sets (SetMaxRetransmits limit) old = record old { settings = record old.settings { max_retransmits = limit } }
sets (SetLiteTimeout by) old = record old { settings = record old.settings { lite_timeout = record { 0 = by } } }
sets (SetMaxPairs limit) old = record old { settings = record old.settings { max_pairs = limit } }
sets (SetMaxDiscovered limit) old = record old { settings = record old.settings { max_discovered = limit_of limit } }
sets (SetMaxCandidates limit) old = record old { settings = record old.settings { max_candidates = limit_of limit } }
sets (SetRenomination enabled) old = record old { settings = record old.settings { renomination = enabled } }
sets (SetLite lite) old = record old { lite = lite }
sets (SetTieBreaker tie_breaker) old = record old { tie_breaker = tie_breaker }
sets (SetMtu mtu warn) old = record old { mtu = mtu; mtu_warn = warn }
sets (SetPreference preference) old = record old { preference = Some preference }
sets _ old = old

-- the settings after these calls, newest first, if they were these before
abbrev pub settings_by : SettingsRecord Preference → List Used → SettingsRecord Preference
settings_by first [] = first
settings_by first (u ∷ before) = if is_ok u.code then sets u.export (settings_by first before) else settings_by first before

-- The theorem: the agent's settings are those that C set last, whatever it received. Those of a new agent are `modern_settings`.
abbrev pub SettingsAreThoseSet : Type 0
SettingsAreThoseSet =
    (creds : IceCreds) (tie_breaker : ℕ) (uses : List Used) (held : HeldRecord) → Session (fresh_held creds tie_breaker) uses held
    → all_settings_of held.agent ≡ settings_by (all_settings_of (fresh_held creds tie_breaker).agent) uses

-- ---- what C leaves

abbrev pub EachKeeps : (Use → Bool) → List Used → Type 0
EachKeeps keeps uses = (u : Used) → Has uses u → keeps u.export ≡ true

-- C never makes the agent lite, and leaves the profile `Modern`.
abbrev pub keeps_modern : Use → Bool
keeps_modern (SetLite lite) = not lite
keeps_modern (SetSettings s) = s.modern
keeps_modern _ = true

-- C leaves the settings by which consent ends, too.
abbrev pub keeps_consent : Use → Bool
keeps_consent (SetLite lite) = not lite
keeps_consent (SetSettings s) = false
keeps_consent (SetInitialRto rto) = false
keeps_consent (SetMaxRto rto) = false
keeps_consent (SetMaxRetransmits limit) = false
keeps_consent _ = true

-- C leaves the limit on what packets bring.
abbrev pub keeps_limit : Use → Bool
keeps_limit (SetSettings s) = false
keeps_limit (SetMaxDiscovered limit) = false
keeps_limit _ = true
