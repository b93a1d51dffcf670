use Rattle.is_stun.proofs.Common.{◌≡◌, before_integrity, last_value, option_copied, tlvs_left, tlvs_of}
use Rattle.is_stun.proofs.MessageReading.FoundValues.{found_over}
use Rattle.is_stun.proofs.finding.value_in.Given as goal

-- what is left, over what was found so far, is the value
abbrev pub invariant-loop-tlv : goal.invariant-loop-tlv
invariant-loop-tlv l = last_value l.code (before_integrity (tlvs_of l.body)) ≡ found_over l.code (tlvs_left l.tlv-iterator) (option_copied l.found)
