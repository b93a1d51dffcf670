-- Rows as stored in memory, and their abstract values.
use Rattle.std.specs.Prelude.{ℕ, List, [], ◌∷◌, Option}
use Rattle.std.specs.Option.{option_copied, option_map}
use Rattle.is_stun.specs.declared.rows.Values.{Values}
use Rattle.is_stun.specs.declared.writing.Row.{Row as RawRow}
use Rattle.is_stun.specs.AddressView.{xor_bytes}
use Rattle.is_stun.specs.Message.{AttributesRecord}
use Rattle.is_stun.specs.Numbers.{USERNAME, ICE_CONTROLLED, ICE_CONTROLLING, PRIORITY, XOR_MAPPED_ADDRESS, USE_CANDIDATE, DATA}
use Rattle.is_stun.specs.Numbers.{XOR_RELAYED_ADDRESS, XOR_PEER_ADDRESS, CHANNEL_NUMBER, LIFETIME, REALM, NONCE, ERROR_CODE, SOFTWARE}
use Rattle.is_stun.specs.Numbers.{NETWORK_COST, NOMINATION}
use Rattle.is_stun.specs.Writing.{Row, row, if_set}

abbrev pub row_view : RawRow → Row
row_view r = record { code = r.code; value = option_copied r.value }

-- the rows of a message's attributes, given the values that were made of them and the value of ERROR-CODE
abbrev pub rows_in : AttributesRecord → Values → Option (List ℕ) → List Row
rows_in a values error =
    row USERNAME a.username
    ∷ row ICE_CONTROLLED values.controlled
    ∷ row ICE_CONTROLLING values.controlling
    ∷ row PRIORITY values.priority
    ∷ row XOR_MAPPED_ADDRESS (option_map xor_bytes values.mapped_address)
    ∷ row USE_CANDIDATE (if_set a.use_candidate)
    ∷ row DATA a.«data»
    ∷ row XOR_RELAYED_ADDRESS (option_map xor_bytes values.relayed_address)
    ∷ row XOR_PEER_ADDRESS (option_map xor_bytes values.peer_address)
    ∷ row CHANNEL_NUMBER values.channel_number
    ∷ row LIFETIME values.lifetime
    ∷ row REALM a.realm
    ∷ row NONCE a.nonce
    ∷ row ERROR_CODE error
    ∷ row SOFTWARE a.software
    ∷ row NETWORK_COST values.network_cost
    ∷ row NOMINATION values.nomination
    ∷ []
