-- Clients that differ in their secrets only, and whose MACs are the same, write the same packets.
use Rattle.std.proofs.Common.{◌≡◌, ◌⊎◌, ℕ, ◌+◌, ◌<◌, ◌≤◌, Bool, true, false, cond, List, [], ◌∷◌, ◌++◌, length, map, position, Option, Some, None, option_map, is_some, Result, Ok, Err, refl, sym, ap, subst, ◌∙◌, inl, inr}
use Rattle.is_turn_progress.proofs.Common.{alive_or_nothing, at_place, Attempt, cases_lt, Challenge, client_packet, Credentials, get_or-map, get_or_past, is_to_be_sent, key_now, keyless_attempt}
use Rattle.is_turn_progress.proofs.Common.{keyless_challenge, keyless_lease, keyless_operation, keyless_session, Lease, lease_packet_at, lease_packet_of, lease_request, length-map, LookAlike}
use Rattle.is_turn_progress.proofs.Common.{Operation, packet_after, packet_or, PollsPacket, PollsTurn, Request, request_or, SameMacs, Session, State, StunError, TransId, unused, waits_in}
use Rattle.is_turn_progress.proofs.Common.{without_secrets}
use Rattle.std.specs.List.{position_or_len}
use Rattle.is_stun.specs.Integrity.{signed_text}
use Rattle.is_stun.specs.Numbers.{USERNAME, REALM, NONCE, MESSAGE_INTEGRITY}
use Rattle.is_stun.specs.Writing.{Row, row, attribute, rows_text, fingerprint_text, front_of, sealed_of, written_rows, rows_rejection, WritesOr}
use Rattle.is_turn.specs.Requests.{Signer, signer_by, signer_of, key_of, own_rows, request_rows, type_of}
use Rattle.is_turn_progress.proofs.Packets.{packet_case}

-- ---- who signs

abbrev SameSigner : (List ℕ → List ℕ → List ℕ) → Option Signer → Option Signer → Type 0
SameSigner mac None None = Unit {0}
SameSigner mac None (Some b) = ⊥
SameSigner mac (Some a) None = ⊥
SameSigner mac (Some a) (Some b) =
    (a.username ≡ b.username) × (a.realm ≡ b.realm) × (a.nonce ≡ b.nonce) × ((text : List ℕ) → mac a.key text ≡ mac b.key text)

challenge_signs : (mac : List ℕ → List ℕ → List ℕ) (u v : List ℕ) (x y : Option Challenge) → u ≡ v
    → option_map keyless_challenge x ≡ option_map keyless_challenge y → SameMacs mac (key_of (signer_by u x)) (key_of (signer_by v y))
    → SameSigner mac (signer_by u x) (signer_by v y)
challenge_signs mac u v None None h e macs = tt
challenge_signs mac u v None (Some b) h e macs = absurd (cc e)
challenge_signs mac u v (Some a) None h e macs = absurd (cc e)
challenge_signs mac u v (Some a) (Some b) h e macs =
    let same : keyless_challenge a ≡ keyless_challenge b = cc e in
    let realm = ap (λ (c : Challenge). c.realm) same in
    let nonce = ap (λ (c : Challenge). c.nonce) same in
    (h, cc realm, cc nonce, λ text. search macs)

same_signer : (mac : List ℕ → List ℕ → List ℕ) (c d : Option Credentials) → option_map without_secrets c ≡ option_map without_secrets d
    → SameMacs mac (key_now c) (key_now d) → SameSigner mac (signer_of c) (signer_of d)
same_signer mac None None e macs = tt
same_signer mac None (Some b) e macs = absurd (cc e)
same_signer mac (Some a) None e macs = absurd (cc e)
same_signer mac (Some a) (Some b) e macs =
    let same : without_secrets a ≡ without_secrets b = cc e in
    let name = ap (λ (c : Credentials). c.username) same in
    challenge_signs mac a.username b.username a.challenge b.challenge (cc name) (ap (λ (c : Credentials). c.challenge) same) macs

-- ---- what is written

written_same : (mac : List ℕ → List ℕ → List ℕ) (key other : List ℕ) (typ : ℕ) (id : List ℕ) (rows : List Row)
    → ((text : List ℕ) → mac key text ≡ mac other text) → written_rows mac (Some key) typ id rows ≡ written_rows mac (Some other) typ id rows
unfolding written_rows sealed_of front_of
written_same mac key other typ id rows same =
    ap (λ (m : List ℕ). (front_of (Some key) typ id rows ++ attribute MESSAGE_INTEGRITY m)
    ++ fingerprint_text (front_of (Some key) typ id rows ++ attribute MESSAGE_INTEGRITY m))
    (same (signed_text (front_of (Some key) typ id rows) (length (rows_text rows) + 24)))

rows_same : (id : List ℕ) (r : Request) (a b : Signer) → a.username ≡ b.username → a.realm ≡ b.realm → a.nonce ≡ b.nonce
    → request_rows id r (Some a) ≡ request_rows id r (Some b)
rows_same id r a b u v w =
    ap (λ (x : List ℕ). own_rows id r ++ (row USERNAME (Some x) ∷ row REALM (Some a.realm) ∷ row NONCE (Some a.nonce) ∷ [])) u
    ∙ ap (λ (x : List ℕ). own_rows id r ++ (row USERNAME (Some b.username) ∷ row REALM (Some x) ∷ row NONCE (Some a.nonce) ∷ [])) v
    ∙ ap (λ (x : List ℕ). own_rows id r ++ (row USERNAME (Some b.username) ∷ row REALM (Some b.realm) ∷ row NONCE (Some x) ∷ [])) w

abbrev Writes : (List ℕ → List ℕ → List ℕ) → Option Signer → Request → TransId → List ℕ → Result ℕ StunError → List ℕ → Type 0
Writes mac signer r id old result new =
    WritesOr result old new (rows_rejection (key_of signer) (length old) (request_rows id.0 r signer))
    (written_rows mac (key_of signer) (type_of r) id.0 (request_rows id.0 r signer))

writes_same : (mac : List ℕ → List ℕ → List ℕ) (x y : Option Signer) (r : Request) (id : TransId) (old : List ℕ) (result : Result ℕ StunError) (new : List ℕ)
    → SameSigner mac x y → Writes mac x r id old result new → Writes mac y r id old result new
writes_same mac None None r id old result new same h = h
writes_same mac None (Some b) r id old result new same h = absurd same
writes_same mac (Some a) None r id old result new same h = absurd same
writes_same mac (Some a) (Some b) r id old result new same h =
    let rows = rows_same id.0 r a b same.0 same.1 same.2 in
    let rejected : rows_rejection (Some a.key) (length old) (request_rows id.0 r (Some a)) ≡ rows_rejection (Some b.key) (length old) (request_rows id.0 r (Some b)) =
    ap (λ (x : List Row). rows_rejection (Some b.key) (length old) x) rows in
    let written : written_rows mac (Some a.key) (type_of r) id.0 (request_rows id.0 r (Some a))
    ≡ written_rows mac (Some b.key) (type_of r) id.0 (request_rows id.0 r (Some b)) =
    ap (λ (x : List Row). written_rows mac (Some a.key) (type_of r) id.0 x) rows
    ∙ written_same mac a.key b.key (type_of r) id.0 (request_rows id.0 r (Some b)) same.3 in
    subst (λ (e : Option StunError). WritesOr result old new e (written_rows mac (Some b.key) (type_of r) id.0 (request_rows id.0 r (Some b)))) rejected
    (subst (λ (w : List ℕ). WritesOr result old new (rows_rejection (Some a.key) (length old) (request_rows id.0 r (Some a))) w) written h)

polls_request : (mac : List ℕ → List ℕ → List ℕ) (c d : Option Credentials) (r : Request) (a : Attempt) (old : List ℕ) (result : Result (Option ℕ) StunError)
    (new : List ℕ) → SameSigner mac (signer_of c) (signer_of d) → PollsPacket (request_or r (Some a) (alive_or_nothing None)) mac c old result new
    → PollsPacket (request_or r (Some a) (alive_or_nothing None)) mac d old result new
polls_request mac c d r a old (Ok None) new same h = h
polls_request mac c d r a old (Ok (Some n)) new same h = writes_same mac (signer_of c) (signer_of d) r a.id old (Ok n) new same h
polls_request mac c d r a old (Err e) new same h = writes_same mac (signer_of c) (signer_of d) r a.id old (Err e) new same h

polls_lease : (mac : List ℕ → List ℕ → List ℕ) (c d : Option Credentials) (place : ℕ) (r : Request) (a : Attempt) (old : List ℕ)
    (result : Result (Option ℕ) StunError) (new : List ℕ) → SameSigner mac (signer_of c) (signer_of d)
    → PollsPacket (lease_request place r (Some a) (alive_or_nothing None)) mac c old result new
    → PollsPacket (lease_request place r (Some a) (alive_or_nothing None)) mac d old result new
polls_lease mac c d place r a old (Ok None) new same h = h
polls_lease mac c d place r a old (Ok (Some n)) new same h = writes_same mac (signer_of c) (signer_of d) r a.id old (Ok n) new same h
polls_lease mac c d place r a old (Err e) new same h = writes_same mac (signer_of c) (signer_of d) r a.id old (Err e) new same h

polls_other : (mac : List ℕ → List ℕ → List ℕ) (c d : Option Credentials) (alive : Option TransId) (old : List ℕ) (result : Result (Option ℕ) StunError)
    (new : List ℕ) → PollsPacket (alive_or_nothing alive) mac c old result new → PollsPacket (alive_or_nothing alive) mac d old result new
polls_other mac c d None old result new h = h
polls_other mac c d (Some id) old (Ok None) new h = h
polls_other mac c d (Some id) old (Ok (Some n)) new h = h
polls_other mac c d (Some id) old (Err e) new h = h

-- ---- which packet it is

request_keyless : (r : Request) (last : Option Attempt) (alive : Option TransId)
    → request_or r (option_map keyless_attempt last) (alive_or_nothing alive) ≡ request_or r last (alive_or_nothing alive)
request_keyless r None alive = refl
request_keyless r (Some a) alive = refl

packet_keyless : (o : Option Operation) (alive : Option TransId)
    → packet_or (option_map keyless_operation o) (alive_or_nothing alive) ≡ packet_or o (alive_or_nothing alive)
packet_keyless None alive = refl
packet_keyless (Some o) alive = rw (request_keyless o.request o.attempts.last alive) refl

some_keyless : (last : Option Attempt) → is_some (option_map keyless_attempt last) ≡ is_some last
some_keyless None = refl
some_keyless (Some a) = refl

waits_keyless : (o : Option Operation) → waits_in (option_map keyless_operation o) ≡ waits_in o
waits_keyless None = refl
waits_keyless (Some o) = rw (some_keyless o.attempts.last) refl

first_map : (p : Lease → Bool) (f : Lease → Lease) (l : List Lease) → ((g : Lease) → p (f g) ≡ p g) → position_or_len p (map f l) ≡ position_or_len p l
first_map p f [] h = refl
first_map p f (g ∷ l) h = rw (h g, first_map p f l h) refl

position_keyless : (l : List Lease) → position is_to_be_sent (map keyless_lease l) ≡ position is_to_be_sent l
position_keyless l =
    rw (first_map is_to_be_sent keyless_lease l (λ g. waits_keyless g.operation), length-map l keyless_lease) refl

at_keyless_by : (l : List Lease) (k : ℕ) → (k < length l) ⊎ (length l ≤ k) → at_place k (map keyless_lease l) ≡ keyless_lease (at_place k l)
at_keyless_by l k (inl lt) = get_or-map keyless_lease l k unused unused lt
at_keyless_by l k (inr past) =
    get_or_past (map keyless_lease l) k unused (subst (λ (n : ℕ). n ≤ k) (sym (length-map l keyless_lease)) past)
    ∙ ap keyless_lease (sym (get_or_past l k unused past))

lease_keyless : (place : ℕ) (r : Request) (last : Option Attempt) (alive : Option TransId)
    → lease_request place r (option_map keyless_attempt last) (alive_or_nothing alive) ≡ lease_request place r last (alive_or_nothing alive)
lease_keyless place r None alive = refl
lease_keyless place r (Some a) alive = refl

operation_keyless : (place : ℕ) (o : Option Operation) (alive : Option TransId)
    → lease_packet_of place (option_map keyless_operation o) (alive_or_nothing alive) ≡ lease_packet_of place o (alive_or_nothing alive)
operation_keyless place None alive = refl
operation_keyless place (Some o) alive = lease_keyless place o.request o.attempts.last alive

place_keyless : (p : Option ℕ) (l : List Lease) (alive : Option TransId)
    → lease_packet_at p (map keyless_lease l) (alive_or_nothing alive) ≡ lease_packet_at p l (alive_or_nothing alive)
place_keyless None l alive = refl
place_keyless (Some place) l alive =
    ap (λ (g : Lease). lease_packet_of place g.operation (alive_or_nothing alive)) (at_keyless_by l place (cases_lt place (length l)))
    ∙ operation_keyless place (at_place place l).operation alive

other_keyless : (alive : Option TransId) (l : List Lease) → packet_after (alive_or_nothing alive) (map keyless_lease l) ≡ packet_after (alive_or_nothing alive) l
other_keyless None l =
    ap (λ (p : Option ℕ). lease_packet_at p (map keyless_lease l) (alive_or_nothing None)) (position_keyless l) ∙ place_keyless (position is_to_be_sent l) l None
other_keyless (Some id) l =
    ap (λ (p : Option ℕ). lease_packet_at p (map keyless_lease l) (alive_or_nothing (Some id))) (position_keyless l)
    ∙ place_keyless (position is_to_be_sent l) l (Some id)

waiting_keyless : (waits : Bool) (r : Request) (last : Option Attempt) (alive : Option TransId) (l : List Lease)
    → packet_after (cond waits (request_or r last (alive_or_nothing alive)) (alive_or_nothing alive)) (map keyless_lease l)
    ≡ packet_after (cond waits (request_or r last (alive_or_nothing alive)) (alive_or_nothing alive)) l
waiting_keyless false r last alive l = other_keyless alive l
waiting_keyless true r None alive l = other_keyless alive l
waiting_keyless true r (Some a) alive l = refl

after_keyless : (o : Option Operation) (alive : Option TransId) (l : List Lease)
    → packet_after (packet_or o (alive_or_nothing alive)) (map keyless_lease l) ≡ packet_after (packet_or o (alive_or_nothing alive)) l
after_keyless None alive l = other_keyless alive l
after_keyless (Some o) alive l = waiting_keyless o.is_waiting o.request o.attempts.last alive l

client_keyless : (s : Session) (l : List Lease) → client_packet (keyless_session s) (map keyless_lease l) ≡ client_packet s l
client_keyless s l = rw (packet_keyless s.operation s.alive) (after_keyless s.operation s.alive l)

-- ---- all

same_packet : (s t : Session) (l k : List Lease) → keyless_session s ≡ keyless_session t → map keyless_lease l ≡ map keyless_lease k
    → client_packet s l ≡ client_packet t k
same_packet s t l k h e =
    sym (client_keyless s l) ∙ ap (λ (x : Session). client_packet x (map keyless_lease l)) h
    ∙ ap (λ (x : List Lease). client_packet (keyless_session t) x) e ∙ client_keyless t k

pub polls_same : (mac : List ℕ → List ℕ → List ℕ) (x y : State) (old : List ℕ) (result : Result (Option ℕ) StunError) (new : List ℕ) → LookAlike mac x y
    → PollsTurn mac x.credentials x.session x.leases old result new → PollsTurn mac y.credentials y.session y.leases old result new
polls_same mac x y old result new h step =
    let signs = same_signer mac x.credentials y.credentials h.credentials h.macs in
    let same = subst (λ packet. PollsPacket packet mac x.credentials old result new) (same_packet x.session y.session x.leases y.leases h.session h.leases) step in
    packet_case (λ packet. PollsPacket packet mac x.credentials old result new → PollsPacket packet mac y.credentials old result new) y.session y.leases
    (λ alive. polls_other mac x.credentials y.credentials alive old result new) (λ r a. polls_request mac x.credentials y.credentials r a old result new signs)
    (λ place r a. polls_lease mac x.credentials y.credentials place r a old result new signs) same
