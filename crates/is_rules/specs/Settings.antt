-- What the user of an agent may set.
use Rattle.std.specs.Prelude.{◌≡◌, ℕ, ◌*◌, ◌==◌, ◌&&◌, Bool, true, false, nat_lt, max, map, Some, None, Result, Ok, Err, if◌then◌else◌}
use Rattle.is_proto.specs.Times.{MILLISECOND}
use Rattle.is_proto.specs.declared.error.IceError.{IceError}
use Rattle.is_proto.specs.declared.error.IceError.TheVariants.{MtuTooSmall}
use Rattle.is_stun.specs.declared.timing.ConsentSetting.{ConsentSetting}
use Rattle.is_stun.specs.declared.timing.Profile.{Profile}
use Rattle.is_stun.specs.declared.timing.Profile.TheVariants.{Original, Modern}
use Rattle.is_pair.specs.Pairs.{undue}
use Rattle.is_rules.specs.declared.settings.Settings.{Settings}
use Rattle.is_rules.specs.Fitting.{MTU_FLOOR}
use Rattle.is_rules.specs.Agent.{AgentRecord, default_timing}
use Rattle.is_rules.specs.Roles.{keeps_role}

-- the behavior of the Rust crate `is` 0.12.0, with its numbers: those of the checks are in `default_timing`
abbrev pub original_settings : Settings
original_settings = record {
  profile = Original;
  timing_advance = record { 0 = 50 * MILLISECOND };
  initial_rto = default_timing.initial_rto;
  max_rto = default_timing.max_rto;
  max_retransmits = default_timing.max_retransmits;
  lite_timeout = default_timing.lite_timeout;
  consent = default_timing.consent;
  max_pairs = 100;
  max_discovered = None;
  max_candidates = None;
  renomination = false;
}

-- what agents connect soonest with. A path is left 29.6 s after its last answered check was sent: within the 30 s of RFC 7675, section 5.1.
abbrev pub modern_settings : Settings
modern_settings = record original_settings {
  profile = Modern;
  max_rto = record { 0 = 2900 * MILLISECOND };
  max_retransmits = 11;
  max_discovered = Some 32;
  max_candidates = Some 100;
}

module _ {H P : Type 0} where
  -- what is set
  abbrev pub settings_of : AgentRecord H P → Settings
  settings_of a = record {
    profile = a.timing.profile;
    timing_advance = record { 0 = a.timing_advance };
    initial_rto = a.timing.initial_rto;
    max_rto = a.timing.max_rto;
    max_retransmits = a.timing.max_retransmits;
    lite_timeout = a.timing.lite_timeout;
    consent = a.timing.consent;
    max_pairs = a.max_pairs;
    max_discovered = a.max_discovered;
    max_candidates = a.max_candidates;
    renomination = a.renominates;
  }

  -- `set_mtu`: the longest check must fit into the target MTU.
  abbrev pub SetsMtu : AgentRecord H P → ℕ → ℕ → Result (Unit {0}) IceError → AgentRecord H P → Type 0
  SetsMtu old target warn (Ok _) new = (nat_lt target MTU_FLOOR ≡ false) × (new ≡ record old { mtu = target; mtu_warn = warn })
  SetsMtu old target warn (Err MtuTooSmall) new = (nat_lt target MTU_FLOOR ≡ true) × (new ≡ old)
  SetsMtu old target warn (Err _) new = ⊥

  -- `set_controlling`: existing pairs keep their priorities. With the profile `Modern` a lite agent is not made controlling: it stays as it is.
  abbrev pub controlling_set : Bool → AgentRecord H P → AgentRecord H P
  controlling_set controlling a = record a { controlling = if keeps_role a && controlling then a.controlling else controlling }

  -- `set_initial_stun_rto` and `set_max_stun_rto`: if one of the two changes, the due time of each pair is computed again.
  abbrev pub with_rtos : ℕ → ℕ → AgentRecord H P → AgentRecord H P
  with_rtos initial greatest a = record a {
    timing = record a.timing { initial_rto = record { 0 = initial }; max_rto = record { 0 = greatest } };
    pairs = if a.timing.initial_rto.0 == initial && a.timing.max_rto.0 == greatest then a.pairs else map undue a.pairs;
  }

  -- `set_profile`: due times that are fixed stay.
  abbrev pub with_profile : Profile → AgentRecord H P → AgentRecord H P
  with_profile profile a = record a { timing = record a.timing { profile = profile } }

  -- `set_consent`: what `Modern` goes by
  abbrev pub with_consent : ConsentSetting → AgentRecord H P → AgentRecord H P
  with_consent consent a = record a { timing = record a.timing { consent = consent } }

  -- `set_max_stun_retransmits`: the list of pending transactions is cut when the next check is added.
  abbrev pub with_retransmits : ℕ → AgentRecord H P → AgentRecord H P
  with_retransmits n a = record a { timing = record a.timing { max_retransmits = n } }

  -- `set_lite_timeout`: how long an ICE-lite agent keeps a pair without a check from the peer
  abbrev pub with_lite_timeout : ℕ → AgentRecord H P → AgentRecord H P
  with_lite_timeout by a = record a { timing = record a.timing { lite_timeout = record { 0 = by } } }

  -- `set_settings`: what the setters of the fields do, one after another
  abbrev pub with_settings : Settings → AgentRecord H P → AgentRecord H P
  with_settings s a =
      record (with_rtos s.initial_rto.0 s.max_rto.0 (with_lite_timeout s.lite_timeout.0 (with_retransmits s.max_retransmits
      (with_consent s.consent (with_profile s.profile a))))) {
        timing_advance = s.timing_advance.0;
        max_pairs = s.max_pairs;
        max_discovered = s.max_discovered;
        max_candidates = s.max_candidates;
        renominates = s.renomination;
      }

  -- `skip_pair_ids`: the next number only increases, so no number is used twice.
  abbrev pub numbers_skipped : ℕ → AgentRecord H P → AgentRecord H P
  numbers_skipped n a = record a { next_number = max a.next_number n }
