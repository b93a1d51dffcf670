-- The attributes that `stun_fill` puts into a builder: each that is set replaces an earlier value.
use Rattle.std.specs.Prelude.{◌≡◌, ℕ, ◌||◌, List, Option, option_map}
use Rattle.std.specs.Option.{option_copied, option_or}
use Rattle.is_stun.specs.declared.builder.Builder.{Builder}
use Rattle.is_stun.specs.declared.builder.HasClass.{HasClass}
use Rattle.is_stun.specs.Builder.{attributes_so_far, kind_so_far}
use Rattle.is_stun.specs.Message.{AttributesRecord}
use Rattle.is_c.specs.declared.stun_message.Message.{Message as Flat}
use Rattle.is_c.specs.declared.stun_texts.Words.{Words}
use Rattle.is_c_calls.specs.Addresses.{socket_of}
use Rattle.is_c.specs.StunMessage.{number_in}
use Rattle.is_c.specs.StunWrite.{cost_in, reason_of}

-- only the attributes change, in this way
abbrev pub Sets : (AttributesRecord → AttributesRecord) → Builder HasClass → Builder HasClass → Type 0
Sets change before after =
    (kind_so_far after ≡ kind_so_far before) × (attributes_so_far after ≡ change (attributes_so_far before))

abbrev pub numbers_set : Flat → AttributesRecord → AttributesRecord
numbers_set f a =
    record a {
      priority = option_or (number_in f.priority) a.priority;
      ice_controlled = option_or (number_in f.controlled) a.ice_controlled;
      ice_controlling = option_or (number_in f.controlling) a.ice_controlling;
      lifetime = option_or (number_in f.lifetime) a.lifetime;
      channel_number = option_or (number_in f.channel_number) a.channel_number;
      network_cost = option_or (cost_in f) a.network_cost;
      nomination = option_or (number_in f.nomination) a.nomination;
      use_candidate = f.use_candidate || a.use_candidate;
    }

abbrev pub addresses_set : Flat → AttributesRecord → AttributesRecord
addresses_set f a =
    record a {
      xor_mapped_address = option_or (socket_of f.mapped) a.xor_mapped_address;
      xor_peer_address = option_or (socket_of f.peer) a.xor_peer_address;
      xor_relayed_address = option_or (socket_of f.relayed) a.xor_relayed_address;
    }

-- the code with its reason, which is empty if there is none
abbrev pub error_of : Option ℕ → Option (List ℕ) → Option (ℕ × List ℕ)
error_of code reason = option_map (λ c. (c, reason_of reason)) code

abbrev pub words_set : Flat → Words → AttributesRecord → AttributesRecord
words_set f w a =
    record a {
      username = option_or (option_copied w.username) a.username;
      error_code = option_or (error_of (number_in f.error_code) (option_copied w.reason)) a.error_code;
      «data» = option_or (option_copied w.data) a.«data»;
      realm = option_or (option_copied w.realm) a.realm;
      nonce = option_or (option_copied w.nonce) a.nonce;
      software = option_or (option_copied w.software) a.software;
    }
