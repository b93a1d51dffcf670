-- What a message requests comes back, and nothing else of it changes.
use Rattle.is_stun.specs.declared.requested.AddressFamily.{AddressFamily}
use Rattle.is_stun.specs.declared.requested.AddressFamily.TheVariants.{Ipv4, Ipv6}
use Rattle.is_stun.proofs.Common.{[], ◌++◌, ◌+◌, ◌∙◌, ◌∷◌, ◌≡◌, ◌≤◌, AllByRecursion, arith, AttributesRecord, body_len, class_bits}
use Rattle.is_stun.proofs.Common.{family_in, family_value, IfSome, is_known, IsSignedBy, last_written, List, ltb-false, Message}
use Rattle.is_stun.proofs.Common.{method_bits, None, Option, option_map, refl, rejection_with, Requested, requested_rows, RequestIsRead}
use Rattle.is_stun.proofs.Common.{RequestIsSkipped, Row, rows_of, rows_rejection, rows_with, SameMessage, Some, subst, sym, transport_in}
use Rattle.is_stun.proofs.Common.{true, value_fault, value_rejection, with_reserved, written_with, ℕ}
use Rattle.is_stun.proofs.MessageReading.FirstAttribute.{none_parts, option_or-none}
use Rattle.is_stun.proofs.MessageReading.ReadMessages.{rejected_or, not_false}
use Rattle.is_stun.proofs.RoundTrips.Attributes.{HasShortValues, short_values, all_trip, rows_fit, attributes_back}
use Rattle.is_stun.proofs.RoundTrips.FoundRows.{written_is_found}
use Rattle.is_stun.proofs.RoundTrips.MessageParts.{row_attributes}
use Rattle.is_stun.proofs.RoundTrips.Rows.{FitsRow, GoodValue, all_plain, last_row}
use Rattle.is_stun.proofs.RoundTrips.SignedMessages.{rows_come_back, text_of_rows, type_back}

-- ---- the rows fit

all_append : (xs ys : List Row) → AllByRecursion FitsRow xs → AllByRecursion FitsRow ys → AllByRecursion FitsRow (xs ++ ys)
all_append [] ys p q = q
all_append (x ∷ xs) ys p q = (p.0, all_append xs ys p.1 q)

family_fits : (o : Option AddressFamily) → IfSome (option_map family_value o) (GoodValue 0x17)
unfolding value_fault
family_fits None = tt
family_fits (Some f) = record { short = omega arith; sound = refl; counted = refl }

transport_fits : (o : Option ℕ) → IfSome (option_map with_reserved o) (GoodValue 0x19)
unfolding value_fault
transport_fits None = tt
transport_fits (Some n) = record { short = omega arith; sound = refl; counted = refl }

requests_fit : (r : Requested) → AllByRecursion FitsRow (requested_rows r)
requests_fit r = (
  (omega arith, λ (e : 0x17 ≡ 8). absurd (omega (arith, e)), family_fits r.family),
  ((omega arith, λ (e : 0x19 ≡ 8). absurd (omega (arith, e)), transport_fits r.transport), tt),
)

-- what can be written with what it requests
record CanAsk (key : Option (List ℕ)) (m : Message) (r : Requested) : Type 0 where
  method : is_known m.method ≡ true
  values : HasShortValues m.attributes
  short : body_len key (rows_with m.id m.attributes r) ≤ 65535

can_ask : (key : Option (List ℕ)) (room : ℕ) (m : Message) (r : Requested) → rejection_with key room m r ≡ None → CanAsk key m r
unfolding rejection_with value_rejection
can_ask key room m r e =
    let parts = none_parts (value_rejection m) (rows_rejection key room (rows_with m.id m.attributes r)) e in
    let method = rejected_or _ _ _ parts.0 in
    let long = rejected_or _ _ _ method.1 in
    let code = rejected_or _ _ _ long.1 in
    let size = rejected_or _ _ _ parts.1 in
    record { method = not_false _ method.0; values = short_values m.attributes long.0 code.0; short = ltb-false 65535 _ size.0 }

-- ---- what it requests is found

transport_row : (id : List ℕ) (a : AttributesRecord) (r : Requested) → last_written 0x19 (rows_with id a r) ≡ option_map with_reserved r.transport
unfolding last_written
transport_row id a r = simp option_or-none

family_row : (id : List ℕ) (a : AttributesRecord) (r : Requested) → last_written 0x17 (rows_with id a r) ≡ option_map family_value r.family
unfolding last_written
family_row id a r = simp option_or-none

transport_back : (o : Option ℕ) → transport_in (option_map with_reserved o) ≡ o
transport_back None = refl
transport_back (Some n) = refl

family_back : (o : Option AddressFamily) → family_in (option_map family_value o) ≡ o
family_back None = refl
family_back (Some Ipv4) = refl
family_back (Some Ipv6) = refl

pub request_is_read : (mac : List ℕ → List ℕ → List ℕ) (key : Option (List ℕ)) (m : Message) (r : Requested) → RequestIsRead mac key m r
unfolding written_with
request_is_read mac key m r mac_len room not_refused ok =
    let fine = can_ask key room m r not_refused in
    let trips = all_trip m.id m.attributes ok.id fine.values ok.values in
    let plain = all_plain (rows_with m.id m.attributes r) (all_append (rows_of m.id m.attributes) (requested_rows r) (rows_fit m.id m.attributes trips) (requests_fit r)) in
    let typ : ℕ = class_bits m.class + method_bits m.method in
    let transport = written_is_found mac key typ m.id (rows_with m.id m.attributes r) 0x19 mac_len ok.id.0 plain (λ (e : 0x19 ≡ 0x8028). absurd (omega (arith, e))) ∙ transport_row m.id m.attributes r in
    let family = written_is_found mac key typ m.id (rows_with m.id m.attributes r) 0x17 mac_len ok.id.0 plain (λ (e : 0x17 ≡ 0x8028). absurd (omega (arith, e))) ∙ family_row m.id m.attributes r in
    rw (transport, family, transport_back r.transport, family_back r.family) refl

-- ---- nothing else changes

same_attributes : (id : List ℕ) (a : AttributesRecord) (r : Requested) → row_attributes id (rows_with id a r) ≡ row_attributes id (rows_of id a)
unfolding last_row
same_attributes id a r = refl

pub request_is_skipped : (mac : List ℕ → List ℕ → List ℕ) (key : List ℕ) (m : Message) (r : Requested) → RequestIsSkipped mac key m r
unfolding written_with
request_is_skipped mac key m r mac_len room not_refused ok n reads =
    let rows : List Row = rows_with m.id m.attributes r in
    let fine = can_ask (Some key) room m r not_refused in
    let trips = all_trip m.id m.attributes ok.id fine.values ok.values in
    let fits = all_append (rows_of m.id m.attributes) (requested_rows r) (rows_fit m.id m.attributes trips) (requests_fit r) in
    let back = rows_come_back mac key m rows (mac_len key (text_of_rows key m rows)) (type_back m.method m.class fine.method ok.class) ok.id (omega (arith, fine.short)) fits
    (same_attributes m.id m.attributes r ∙ attributes_back m.id m.attributes trips) in
    subst (λ (x : Message). SameMessage x m × IsSignedBy mac x key) (sym reads.spelled) (back.same, back.signed)
