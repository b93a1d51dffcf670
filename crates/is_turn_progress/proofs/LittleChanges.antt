-- A datagram changes little, or it is a response with grounds.
use Rattle.std.proofs.Common.{◌≡◌, ◌⊎◌, ℕ, Bool, true, false, cond, not, List, Option, Some, None, is_some, map, set, position, refl, ap, subst, ◌∙◌, inl, inr}
use Rattle.is_turn_progress.proofs.Common.{alternate_in, answered_by, answered_in, at_place, Attempt, changed_by, channel_data, channel_peer, code_or_success, Credentials, Datagram, datagram_of}
use Rattle.is_turn_progress.proofs.Common.{doubted, heard_at, Instant, ip_of, is_answered_by, is_channel_of, is_open, is_permission_of, is_ready, is_unknown, IsAnswered, IsReceived, IsReceivedAs}
use Rattle.is_turn_progress.proofs.Common.{IsRespondedBy, IsSignedFor, kept_leases, key_in, Lease, malformed, Message, not-false, Operation, outcome_by, OutcomeApplies, peer_data, Receipt, response}
use Rattle.is_turn_progress.proofs.Common.{Session, SocketAddr, takes_challenge, unasked, unparsed, unused, used_at, used_in, Verdict}
use Rattle.std.proofs.Math.Seq.{map-set_same}
use Rattle.is_turn.specs.declared.verdict.Verdict.TheVariants as verdicts
use Rattle.is_turn.specs.LeaseResponses.{LeaseApplies, IsLeaseAnswered, heard_peer, heard_data}
use Rattle.is_turn_progress.specs.Authentic.{Grounds, IsPending, HasGrounds, unclocked, ChangesLittle}
use Rattle.is_turn_progress.proofs.Outcomes.{IsMeant, outcome_case}
use Rattle.is_turn_progress.proofs.Steps.{by_cond}

abbrev Little : (List ℕ → List ℕ → List ℕ) → List ℕ → Session → List Lease → Option Credentials → Session → List Lease → Option Credentials → Type 0
Little mac bytes s l c new l_new c_new = ChangesLittle s l c new l_new c_new ⊎ HasGrounds mac bytes s l c

-- ---- grounds

-- an attempt that the message answers, and whose key is that of its signature, if it has one
record Answered (mac : List ℕ → List ℕ → List ℕ) (bytes : List ℕ) (s : Session) (l : List Lease) (m : Message) (b : Bool) (o : Operation) (a : Attempt) : Type 0 where
  pub read : datagram_of bytes ≡ response m
  pub pending : IsPending o s l
  pub answers : answered_in m o ≡ Some a
  pub signed : b ≡ true → IsSignedFor mac m a.key

has_grounds : (mac : List ℕ → List ℕ → List ℕ) (bytes : List ℕ) (s : Session) (l : List Lease) (c : Option Credentials) (m : Message) (b : Bool)
    (o : Operation) (a : Attempt) → Answered mac bytes s l m b o a → Grounds mac m c o a → HasGrounds mac bytes s l c
has_grounds mac bytes s l c m b o a h g = record {
  message = m;
  read = h.read;
  request = o;
  pending = h.pending;
  attempt = a;
  answers = h.answers;
  grounds = g;
}

genuine_grounds : (mac : List ℕ → List ℕ → List ℕ) (m : Message) (c : Option Credentials) (o : Operation) (a : Attempt) (b : Bool)
    → (b ≡ true → IsSignedFor mac m a.key) → (c ≡ None) ⊎ (b ≡ true) → Grounds mac m c o a
genuine_grounds mac m c o a b signed (inl without) = inl without
genuine_grounds mac m c o a b signed (inr yes_signed) = inr (inl (signed yes_signed))

challenge_grounds : (mac : List ℕ → List ℕ → List ℕ) (m : Message) (c : Option Credentials) (o : Operation) (a : Attempt) (b : Bool)
    → (b ≡ true → IsSignedFor mac m a.key) → takes_challenge a.id (is_some a.key) (code_or_success m) o ≡ true → IsMeant b c m o a verdicts.Challenge
    → Grounds mac m c o a
challenge_grounds mac m c o a b signed allowed (is, inl yes_signed) = inr (inl (signed yes_signed))
challenge_grounds mac m c o a b signed allowed (is, inr unsigned) = inr (inr (unsigned, inr (inl (search is, search allowed))))

-- ---- a response to the request for the allocation

doubt_phase : (code : ℕ) (o : Option Operation) (s : Session) (l : List Lease) → kept_leases (changed_by (doubted code) o s) l ≡ kept_leases s l
doubt_phase code None s l = refl
doubt_phase code (Some o) s l = refl

session_verdict : (v : Verdict) (mac : List ℕ → List ℕ → List ℕ) (now : Instant) (bytes : List ℕ) (m : Message) (alternate : Option SocketAddr) (s : Session)
    (l : List Lease) (c : Option Credentials) (result : Receipt) (new : Session) (l_new : List Lease) (c_new : Option Credentials) (b : Bool) (o : Operation)
    (a : Attempt) → Answered mac bytes s l m b o a → IsMeant b c m o a v → l_new ≡ kept_leases new l
    → OutcomeApplies now (outcome_by v s.phase (is_unknown c) o a m alternate) m.attributes.realm m.attributes.nonce s c result new c_new
    → Little mac bytes s l c new l_new c_new
session_verdict verdicts.Malformed mac now bytes m alternate s l c result new l_new c_new b o a h means kept step =
    inl (step.2, inl (step.1, inr (kept ∙ ap (λ (x : Session). kept_leases x l) step.1)))
session_verdict verdicts.Unauthentic mac now bytes m alternate s l c result new l_new c_new b o a h means kept step =
    inl (
      step.2,
      inr (inl (
        code_or_success m,
        search (step.1),
        kept ∙ ap (λ (x : Session). kept_leases x l) step.1 ∙ doubt_phase (code_or_success m) s.operation s l,
      )),
    )
session_verdict verdicts.Hint mac now bytes m alternate s l c result new l_new c_new b o a h means kept step =
    inr (has_grounds mac bytes s l c m b o a h (inr (inr (means.0, inr (inr (search (means.1), search (means.2)))))))
session_verdict verdicts.Redirect mac now bytes m alternate s l c result new l_new c_new b o a h means kept step =
    inr (has_grounds mac bytes s l c m b o a h (inr (inr (means.0, inl (search (means.1), search (means.2))))))
session_verdict verdicts.Genuine mac now bytes m alternate s l c result new l_new c_new b o a h means kept step =
    inr (has_grounds mac bytes s l c m b o a h (genuine_grounds mac m c o a b h.signed means))
session_verdict verdicts.Challenge mac now bytes m alternate s l c result new l_new c_new b o a h means kept step =
    let realm = m.attributes.realm in
    let nonce = m.attributes.nonce in
    by_cond (λ outcome. OutcomeApplies now outcome realm nonce s c result new c_new → Little mac bytes s l c new l_new c_new)
    (not (takes_challenge a.id (is_some a.key) (code_or_success m) o)) _ _
    (λ refused. λ x. inl (x.2, inl (x.1, inr (kept ∙ ap (λ (y : Session). kept_leases y l) x.1))))
    (λ allowed. λ x. inr (has_grounds mac bytes s l c m b o a h
    (challenge_grounds mac m c o a b h.signed (not-false (takes_challenge a.id (is_some a.key) (code_or_success m) o) allowed) means))) step

session_little : (mac : List ℕ → List ℕ → List ℕ) (now : Instant) (bytes : List ℕ) (m : Message) (alternate : Option SocketAddr) (s : Session)
    (l : List Lease) (c : Option Credentials) (result : Receipt) (new : Session) (l_new : List Lease) (c_new : Option Credentials)
    → datagram_of bytes ≡ response m → IsAnswered mac now m alternate s c result new c_new → l_new ≡ kept_leases new l
    → Little mac bytes s l c new l_new c_new
session_little mac now bytes m alternate s l c result new l_new c_new read step kept =
    let realm = m.attributes.realm in
    let nonce = m.attributes.nonce in
    outcome_case (λ outcome. OutcomeApplies now outcome realm nonce s c result new c_new → Little mac bytes s l c new l_new c_new) step.0 s.phase c m
    alternate s.operation
    (λ x. inl (x.2, inl (x.1, inr (kept ∙ ap (λ (y : Session). kept_leases y l) x.1))))
    (λ v o a is answers means. session_verdict v mac now bytes m alternate s l c result new l_new c_new step.0 o a (record {
      read = read;
      pending = inl is;
      answers = answers;
      signed = λ b. subst (λ (x : Option Attempt). IsSignedFor mac m (key_in x)) answers
          (subst (λ (x : Option Operation). IsSignedFor mac m (key_in (answered_by m x))) is (step.1.0 b));
    }) means kept) step.2

-- ---- a response to the request for a lease

lease_verdict : (v : Verdict) (mac : List ℕ → List ℕ → List ℕ) (now : Instant) (bytes : List ℕ) (m : Message) (place : ℕ) (s : Session)
    (l : List Lease) (c : Option Credentials) (result : Receipt) (new : Session) (l_new : List Lease) (c_new : Option Credentials) (b : Bool) (o : Operation)
    (a : Attempt) → Answered mac bytes s l m b o a → IsMeant b c m o a v
    → LeaseApplies now place (outcome_by v s.phase (is_unknown c) o a m None) m.attributes.realm m.attributes.nonce s l c result new l_new c_new
    → Little mac bytes s l c new l_new c_new
lease_verdict verdicts.Malformed mac now bytes m place s l c result new l_new c_new b o a h means step = inl (step.3, inl (step.1, inl step.2))
lease_verdict verdicts.Unauthentic mac now bytes m place s l c result new l_new c_new b o a h means step =
    inl (step.3, inr (inr (inl (place, code_or_success m, step.1, search (step.2)))))
lease_verdict verdicts.Hint mac now bytes m place s l c result new l_new c_new b o a h means step =
    inr (has_grounds mac bytes s l c m b o a h (inr (inr (means.0, inr (inr (search (means.1), search (means.2)))))))
lease_verdict verdicts.Redirect mac now bytes m place s l c result new l_new c_new b o a h means step =
    inr (has_grounds mac bytes s l c m b o a h (inr (inr (means.0, inl (search (means.1), search (means.2))))))
lease_verdict verdicts.Genuine mac now bytes m place s l c result new l_new c_new b o a h means step =
    inr (has_grounds mac bytes s l c m b o a h (genuine_grounds mac m c o a b h.signed means))
lease_verdict verdicts.Challenge mac now bytes m place s l c result new l_new c_new b o a h means step =
    let realm = m.attributes.realm in
    let nonce = m.attributes.nonce in
    by_cond (λ outcome. LeaseApplies now place outcome realm nonce s l c result new l_new c_new → Little mac bytes s l c new l_new c_new)
    (not (takes_challenge a.id (is_some a.key) (code_or_success m) o)) _ _ (λ refused. λ x. inl (x.3, inl (x.1, inl x.2)))
    (λ allowed. λ x. inr (has_grounds mac bytes s l c m b o a h
    (challenge_grounds mac m c o a b h.signed (not-false (takes_challenge a.id (is_some a.key) (code_or_success m) o) allowed) means))) step

lease_little : (mac : List ℕ → List ℕ → List ℕ) (now : Instant) (bytes : List ℕ) (m : Message) (place : ℕ) (s : Session)
    (l : List Lease) (c : Option Credentials) (result : Receipt) (new : Session) (l_new : List Lease) (c_new : Option Credentials)
    → datagram_of bytes ≡ response m → IsLeaseAnswered mac now m place s l c result new l_new c_new → Little mac bytes s l c new l_new c_new
lease_little mac now bytes m place s l c result new l_new c_new read step =
    let realm = m.attributes.realm in
    let nonce = m.attributes.nonce in
    outcome_case (λ outcome. LeaseApplies now place outcome realm nonce s l c result new l_new c_new → Little mac bytes s l c new l_new c_new) step.0 s.phase c m
    None (at_place place l).operation (λ x. inl (x.3, inl (x.1, inl x.2)))
    (λ v o a is answers means. lease_verdict v mac now bytes m place s l c result new l_new c_new step.0 o a (record {
      read = read;
      pending = inr (place, is);
      answers = answers;
      signed = λ b. subst (λ (x : Option Attempt). IsSignedFor mac m (key_in x)) answers
          (subst (λ (x : Option Operation). IsSignedFor mac m (key_in (answered_by m x))) is (step.1.0 b));
    }) means) step.2

responded_little : (p : Option ℕ) (mac : List ℕ → List ℕ → List ℕ) (now : Instant) (bytes : List ℕ) (m : Message) (alternate : Option SocketAddr)
    (s : Session) (l : List Lease) (c : Option Credentials) (result : Receipt) (new : Session) (l_new : List Lease) (c_new : Option Credentials)
    → datagram_of bytes ≡ response m → IsRespondedBy p mac now m alternate s l c result new l_new c_new → Little mac bytes s l c new l_new c_new
responded_little None mac now bytes m alternate s l c result new l_new c_new read step =
    session_little mac now bytes m alternate s l c result new l_new c_new read step.0 step.1
responded_little (Some place) mac now bytes m alternate s l c result new l_new c_new read step =
    lease_little mac now bytes m place s l c result new l_new c_new read step

-- ---- data of a peer

abbrev SameUnclocked : List Lease → List Lease → Type 0
SameUnclocked l new = map unclocked new ≡ map unclocked l

used_set : (now : Instant) (i : ℕ) (l : List Lease) → SameUnclocked l (set l i (used_at now (at_place i l)))
used_set now i l = map-set_same unclocked l i (used_at now (at_place i l)) unused (cc)

used_place : (now : Instant) (p : Option ℕ) (l : List Lease) → SameUnclocked l (used_in now p l)
used_place now None l = refl
used_place now (Some place) l = used_set now place l

heard_cond : (b : Bool) (l : List Lease) (x y : List Lease × Bool) → SameUnclocked l x.0 → SameUnclocked l y.0 → SameUnclocked l (cond b x y).0
heard_cond true l x y h k = h
heard_cond false l x y h k = k

heard_place : (now : Instant) (peer : SocketAddr) (p : Option ℕ) (l : List Lease) → SameUnclocked l (heard_at now peer p l).0
heard_place now peer None l = refl
heard_place now peer (Some place) l =
    let m = set l place (used_at now (at_place place l)) in
    heard_cond (is_open (at_place place l)) l (used_in now (position (is_channel_of peer) m) m, true) (l, false)
    (used_place now (position (is_channel_of peer) m) m ∙ used_set now place l) refl

heard_by_peer : (now : Instant) (peer : Option SocketAddr) (contents : List ℕ) (l : List Lease) → SameUnclocked l (heard_peer now peer contents l).1
heard_by_peer now None contents l = refl
heard_by_peer now (Some peer) contents l = heard_place now peer (position (is_permission_of (ip_of peer)) l) l

data_cond : (b : Bool) (l : List Lease) (x y : Receipt × List Lease) → SameUnclocked l x.1 → SameUnclocked l y.1 → SameUnclocked l (cond b x y).1
data_cond true l x y h k = h
data_cond false l x y h k = k

data_little : (mac : List ℕ → List ℕ → List ℕ) (now : Instant) (bytes : List ℕ) (peer : Option SocketAddr) (contents : List ℕ) (s : Session) (l : List Lease)
    (c : Option Credentials) (result : Receipt) (new : Session) (l_new : List Lease) (c_new : Option Credentials)
    → (result, l_new) ≡ heard_data now peer contents s l → new ≡ s → c_new ≡ c → Little mac bytes s l c new l_new c_new
data_little mac now bytes peer contents s l c result new l_new c_new h same kept =
    inl (
      kept,
      inr (inr (inr (
        same,
        ap (λ (x : Receipt × List Lease). map unclocked x.1) h
            ∙ data_cond (is_ready s.phase) l (heard_peer now peer contents l) _ (heard_by_peer now peer contents l) refl,
      ))),
    )

-- ---- any datagram

pub received_little : (d : Datagram) (mac : List ℕ → List ℕ → List ℕ) (now : Instant) (bytes : List ℕ) (alternate : Option SocketAddr) (s : Session)
    (l : List Lease) (c : Option Credentials) (result : Receipt) (new : Session) (l_new : List Lease) (c_new : Option Credentials) → datagram_of bytes ≡ d
    → IsReceivedAs d mac now alternate s l c result new l_new c_new → Little mac bytes s l c new l_new c_new
received_little (response m) mac now bytes alternate s l c result new l_new c_new read step =
    responded_little (position (is_answered_by m) l) mac now bytes m alternate s l c result new l_new c_new read step
received_little (peer_data peer contents) mac now bytes alternate s l c result new l_new c_new read step =
    data_little mac now bytes (Some peer) contents s l c result new l_new c_new step.0 step.1 step.2
received_little (channel_data number contents) mac now bytes alternate s l c result new l_new c_new read step =
    data_little mac now bytes (channel_peer number l) contents s l c result new l_new c_new step.0 step.1 step.2
received_little malformed mac now bytes alternate s l c result new l_new c_new read step = inl (step.3, inl (step.1, inl step.2))
received_little unasked mac now bytes alternate s l c result new l_new c_new read step = inl (step.3, inl (step.1, inl step.2))
received_little unparsed mac now bytes alternate s l c result new l_new c_new read step = inl (step.3, inl (step.1, inl step.2))

pub changes_little : (mac : List ℕ → List ℕ → List ℕ) (now : Instant) (bytes : List ℕ) (s : Session) (l : List Lease) (c : Option Credentials)
    (result : Receipt) (new : Session) (l_new : List Lease) (c_new : Option Credentials) → IsReceived mac now bytes s l c result new l_new c_new
    → Little mac bytes s l c new l_new c_new
changes_little mac now bytes s l c result new l_new c_new step =
    received_little (datagram_of bytes) mac now bytes (alternate_in bytes) s l c result new l_new c_new refl step
