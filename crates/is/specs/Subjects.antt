-- Which function of a run makes a call.
use Rattle.std.specs.Prelude.{Bool, true, false}
use Rattle.is_rules.specs.Steps.{Call, SetControlTieBreaker, SetMaxCandidatePairs, SetMaxCandidates, SetMaxDiscovered, SetIceLite, SetRenomination, SetConsent, SetProfile, SetTimingAdvance, AddLocalCandidate, AddRemoteCandidate, InvalidateCandidate}
use Rattle.is_rules.specs.Steps.{SetInitialStunRto, SetMaxStunRto, SetLiteTimeout, SetLocalPreference, SetControlling, SkipPairIds, ReceivePacket, HandleTimeout}

-- a setting that takes any value
abbrev pub is_plain_setting : {P : Type 0} → Call P → Bool
is_plain_setting (SetControlTieBreaker _) = true
is_plain_setting (SetMaxCandidatePairs _) = true
is_plain_setting (SetMaxDiscovered _) = true
is_plain_setting (SetMaxCandidates _) = true
is_plain_setting (SetIceLite _) = true
is_plain_setting (SetRenomination _) = true
is_plain_setting (SetProfile _) = true
is_plain_setting (SetConsent _) = true
is_plain_setting (SetTimingAdvance _) = true
is_plain_setting (SetInitialStunRto _) = true
is_plain_setting (SetMaxStunRto _) = true
is_plain_setting (SetLiteTimeout _) = true
is_plain_setting (SetLocalPreference _) = true
is_plain_setting (SetControlling _) = true
is_plain_setting (SkipPairIds _) = true
is_plain_setting _ = false

-- neither a packet nor a `handle_timeout` call
abbrev pub is_quiet : {P : Type 0} → Call P → Bool
is_quiet (ReceivePacket _ _ _) = false
is_quiet (HandleTimeout _) = false
is_quiet (AddLocalCandidate _) = false
is_quiet (AddRemoteCandidate _) = false
is_quiet (InvalidateCandidate _) = false
is_quiet _ = true
