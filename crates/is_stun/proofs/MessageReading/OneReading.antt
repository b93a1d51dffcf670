-- Bytes have one reading, and a message is authentic if and only if it is signed.
use Rattle.is_stun.proofs.Common.{◌↔◌, ◌∙◌, ◌≡◌, ◌⊎◌, body_of, Fault, fault_of, first_integrity, inl, inr, integrity_of, IsAuthentic}
use Rattle.is_stun.proofs.Common.{IsSignedBy, IsSomeAnd, List, Message, message_of, None, Option, option_map, ParseFault, ReadsOrFails}
use Rattle.is_stun.proofs.Common.{refl, SignedIffAuthentic, Some, Spells, subst, sym, Tlv, tlvs_of, ℕ}
use Rattle.is_stun.proofs.MessageReading.EncodedMessages.{reads_spells, spells_reads}

either_of : (bytes : List ℕ) (o : Option ParseFault) → fault_of bytes ≡ o → ((m : Message) × Spells bytes m) ⊎ ((f : ParseFault) × Fault bytes f)
either_of bytes None e = inl (message_of bytes, reads_spells bytes (message_of bytes) (record { faultless = e; spelled = refl }))
either_of bytes (Some f) e = inr (f, e)

some_is : {A : Type 0} (x y : A) → Some x ≡ Some y → x ≡ y
some_is x y e = cc

pub one_reading : (bytes : List ℕ) → ReadsOrFails bytes
one_reading bytes = record {
  either = either_of bytes (fault_of bytes) refl;
  not_both = λ m f spells fault. let both : None ≡ Some f = sym (spells_reads bytes m spells).faultless ∙ fault in cc both;
  one_message = λ m n p q. (spells_reads bytes m p).spelled ∙ sym (spells_reads bytes n q).spelled;
  one_fault = λ f g p q. some_is f g (sym p ∙ q);
}

-- the two statements by the integrity that was found
signed_by_tlv : (bytes : List ℕ) (found : Option Tlv) (mac : List ℕ → List ℕ → List ℕ) (key : List ℕ)
    → IsSomeAnd (option_map (integrity_of bytes) found) (λ s. s.mac ≡ mac key s.text) ↔ IsSomeAnd found (λ c. (integrity_of bytes c).mac ≡ mac key (integrity_of bytes c).text)
signed_by_tlv bytes None mac key = (λ h. h, λ h. h)
signed_by_tlv bytes (Some c) mac key = (λ h. h, λ h. h)

pub signed_where_authentic : (bytes : List ℕ) (m : Message) → SignedIffAuthentic bytes m
unfolding message_of
signed_where_authentic bytes m reads mac key =
    subst (λ (x : Message). IsSignedBy mac x key ↔ IsAuthentic mac bytes key) (sym reads.spelled) (signed_by_tlv bytes (first_integrity (tlvs_of (body_of bytes))) mac key)
