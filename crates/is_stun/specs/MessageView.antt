-- A message as stored in memory, and its abstract value.
use Rattle.std.specs.Option.{option_copied, option_map}
use Rattle.is_stun.specs.declared.attributes.Attributes.{Attributes}
use Rattle.is_stun.specs.declared.integrity.Integrity.{Integrity as RawIntegrity}
use Rattle.is_stun.specs.declared.message.StunMessage.{StunMessage}
use Rattle.is_stun.specs.Integrity.{signed_text}
use Rattle.is_stun.specs.ErrorCodeView.{error_view}
use Rattle.is_stun.specs.Message.{AttributesRecord, Integrity, Message}

abbrev pub attributes_view : Attributes → AttributesRecord
attributes_view a =
    record {
      username = option_copied a.username;
      error_code = error_view a.error_code;
      channel_number = a.channel_number;
      lifetime = a.lifetime;
      xor_peer_address = a.xor_peer_address;
      «data» = option_copied a.data;
      realm = option_copied a.realm;
      nonce = option_copied a.nonce;
      xor_relayed_address = a.xor_relayed_address;
      xor_mapped_address = a.xor_mapped_address;
      software = option_copied a.software;
      priority = a.priority;
      use_candidate = a.use_candidate;
      ice_controlled = a.ice_controlled;
      ice_controlling = a.ice_controlling;
      network_cost = a.network_cost;
      nomination = a.nomination;
      fingerprint = a.fingerprint;
    }

abbrev pub integrity_view : RawIntegrity → Integrity
integrity_view i = record { mac = i.mac.now; text = signed_text i.front.now i.len }

-- a message, without its memory layout
abbrev pub message_view : StunMessage → Message
message_view m =
    record {
      method = m.method;
      class = m.class;
      id = m.trans_id.0;
      attributes = attributes_view m.attrs;
      integrity = option_map integrity_view m.integrity;
    }
