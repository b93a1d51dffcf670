-- What the iterator over attributes has left, and what it returns.
use Rattle.std.specs.Prelude.{List}
use Rattle.is_stun.specs.declared.tlv.Tlv.{Tlv as RawTlv}
use Rattle.is_stun.specs.declared.tlv.Tlvs.{Tlvs}
use Rattle.is_stun.specs.Tlv.{Tlv, tlvs_after}

-- an attribute, without its memory layout
abbrev pub tlv_view : RawTlv → Tlv
tlv_view c = record { code = c.code; place = c.place; len = c.len; value = c.value.now }

abbrev pub tlvs_left : Tlvs → List Tlv
tlvs_left s = tlvs_after 0 s.place s.rest.now
