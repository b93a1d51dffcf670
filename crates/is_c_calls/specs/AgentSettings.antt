-- All that a user may choose, as C sets and reads it.
use Rattle.std.specs.Prelude.{◌≡◌, ℕ, ℤ, ◌==◌, Bool, true, false, [], ◌∷◌, Option, Some, None, unwrap_or, MatchBool, if◌then◌else◌}
use Rattle.std.specs.Option.{option_map_or}
use Rattle.is_proto.specs.declared.Duration.{Duration}
use Rattle.is_stun.specs.declared.timing.Profile.{Profile}
use Rattle.is_stun.specs.declared.timing.Profile.TheVariants.{Original, Modern}
use Rattle.is_stun.specs.Timing.{is_modern_profile}
use Rattle.is_rules.specs.declared.settings.Settings.{Settings}
use Rattle.is_rules.specs.Settings as rules
use Rattle.is_rules.specs.Settings.{with_settings}
use Rattle.is_c_calls.specs.declared.agent_settings.AgentSettings.{AgentSettings}
use Rattle.is_c_calls.specs.Codes.{OK, BAD_LIMIT}
use Rattle.is_c_calls.specs.Held.{HeldRecord, AgentBecomes, Rejects}
use Rattle.is_c_calls.specs.Limits.{NO_LIMIT, limit_of}

abbrev pub profile_of : Bool → Profile
profile_of true = Modern
profile_of false = Original

-- C has no options: 0 says that the timing gives the time of consent
abbrev pub timeout_of : ℕ → Option Duration
timeout_of n = if n == 0 then None else Some (record { 0 = n })

-- the settings that a struct of C means
abbrev pub settings_of : AgentSettings → Settings
settings_of s = record {
  profile = profile_of s.modern;
  timing_advance = record { 0 = s.timing_advance };
  initial_rto = record { 0 = s.initial_rto };
  max_rto = record { 0 = s.max_rto };
  max_retransmits = s.max_retransmits;
  lite_timeout = record { 0 = s.lite_timeout };
  consent = record { timeout = timeout_of s.consent_timeout; strict = s.strict_consent };
  max_pairs = s.max_pairs;
  max_discovered = limit_of s.max_discovered;
  max_candidates = limit_of s.max_candidates;
  renomination = s.renomination;
}

-- the struct of C that is written for settings
abbrev pub reported_settings : Settings → AgentSettings
reported_settings s = record {
  timing_advance = s.timing_advance.0;
  initial_rto = s.initial_rto.0;
  max_rto = s.max_rto.0;
  lite_timeout = s.lite_timeout.0;
  consent_timeout = option_map_or (λ d. d.0) s.consent.timeout 0;
  max_retransmits = s.max_retransmits;
  max_pairs = s.max_pairs;
  max_discovered = unwrap_or s.max_discovered NO_LIMIT;
  max_candidates = unwrap_or s.max_candidates NO_LIMIT;
  room = 0 ∷ 0 ∷ 0 ∷ 0 ∷ [];
  modern = is_modern_profile s.profile;
  strict_consent = s.consent.strict;
  renomination = s.renomination;
}

-- `is_ice_original_settings` and `is_ice_modern_settings`: what is written means these settings
abbrev pub GivesSettings : Settings → AgentSettings → ℤ → Type 0
GivesSettings s given code = (code ≡ OK) × (given ≡ reported_settings s) × (settings_of given ≡ s)

-- `is_ice_set_settings`
abbrev pub SetsSettings : AgentSettings → HeldRecord → ℤ → HeldRecord → Type 0
SetsSettings s old code new =
    MatchBool (s.max_retransmits == 0) (Rejects BAD_LIMIT old code new) (AgentBecomes (with_settings (settings_of s)) old code new)

-- `is_ice_settings`
abbrev pub ReturnsSettings : AgentSettings → HeldRecord → ℤ → HeldRecord → Type 0
ReturnsSettings s old code new = (code ≡ OK) × (s ≡ reported_settings (rules.settings_of old.agent)) × (new ≡ old)
