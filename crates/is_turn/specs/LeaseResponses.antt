-- What the response to the request for a lease does, and data of a peer (RFC 8656, sections 9.4, 11.4 and 12.3).
use Rattle.std.specs.Prelude.{◌≡◌, ◌↔◌, ℕ, Bool, List, IsTrue, slice_set, Option, Some, None, option_map, if◌then◌else◌}
use Rattle.std.specs.declared.net.socket_addr.SocketAddr.{SocketAddr}
use Rattle.is_proto.specs.declared.proto.Instant.{Instant}
use Rattle.is_stun.specs.Message.{Message}
use Rattle.is_turn.specs.declared.lease.Lease.{Lease}
use Rattle.is_turn.specs.declared.outcome.Outcome.{Outcome}
use Rattle.is_turn.specs.declared.outcome.Outcome.TheVariants.{Dropped, Doubted, Hinted, Challenged, Allocated, Refreshed, Lasting, Redirected, Failed}
use Rattle.is_turn.specs.declared.outcome.Reason.TheVariants as reasons
use Rattle.is_turn.specs.declared.session.Session.{Session}
use Rattle.is_turn.specs.Credentials.{Credentials, forgotten}
use Rattle.is_turn.specs.Leases.{changed, attempt_of, lasts_since, failed_at, ip_of}
use Rattle.is_turn.specs.Operations.{doubted, hinted, another}
use Rattle.is_turn.specs.Outcome.{key_in, outcome_with}
use Rattle.is_turn.specs.Places.{at_place, heard}
use Rattle.is_turn.specs.Receipts.{Receipt, own, dropped, peer_data}
use Rattle.is_turn.specs.Relaying.{kept_leases}
use Rattle.is_turn.specs.Session.{is_ready, lease_failed}
use Rattle.is_turn.specs.Turn.{challenge_taken, kept_credentials}
use Rattle.is_turn.specs.Verdict.{IsSignedFor}

-- ---- responses

abbrev pub with_changed : ℕ → (Lease → Lease) → List Lease → List Lease
with_changed place change l = slice_set l place (change (at_place place l))

abbrev pub LeaseIsChallengedBy : Instant → ℕ → Bool → ℕ → List Lease → Option Credentials × Bool → Receipt → List Lease → Option Credentials → Type 0
LeaseIsChallengedBy now place is_signed code l taken result l_new c_new =
    (result ≡ (if taken.1 then own else dropped reasons.Challenge))
    × (l_new ≡ (if taken.1 then with_changed place (changed (another now is_signed code)) l else with_changed place (changed (doubted code)) l))
    × (c_new ≡ taken.0)

-- the REALM and the NONCE are taken and another attempt is due, or only the code is kept
abbrev pub LeaseIsChallenged : Instant → ℕ → Bool → ℕ → Option (List ℕ) → Option (List ℕ) → List Lease → Option Credentials
    → Receipt → List Lease → Option Credentials → Type 0
LeaseIsChallenged now place is_signed code realm nonce l c result l_new c_new =
    LeaseIsChallengedBy now place is_signed code l (challenge_taken realm nonce c) result l_new c_new

abbrev pub LeaseIsKept : Receipt → Session → List Lease → Option Credentials → Receipt → Session → List Lease → Option Credentials → Type 0
LeaseIsKept why s l c result s_new l_new c_new = (result ≡ why) × (s_new ≡ s) × (l_new ≡ l) × (c_new ≡ c)

-- what each outcome does, given the place of the lease, and the REALM and the NONCE of the response
abbrev pub LeaseApplies : Instant → ℕ → Outcome → Option (List ℕ) → Option (List ℕ) → Session → List Lease → Option Credentials
    → Receipt → Session → List Lease → Option Credentials → Type 0
LeaseApplies now place (Dropped reason) realm _ s l c result s_new l_new c_new = LeaseIsKept (dropped reason) s l c result s_new l_new c_new
LeaseApplies now place (Doubted code) realm _ s l c result s_new l_new c_new =
    LeaseIsKept (dropped reasons.Unauthentic) s (with_changed place (changed (doubted code)) l) c result s_new l_new c_new
LeaseApplies now place (Hinted code) realm _ s l c result s_new l_new c_new =
    LeaseIsKept own s (with_changed place (changed (hinted now code s.timing)) l) c result s_new l_new c_new
LeaseApplies now place (Challenged is_signed code) realm nonce s l c result s_new l_new c_new =
    (s_new ≡ s) × LeaseIsChallenged now place is_signed code realm nonce l c result l_new c_new
LeaseApplies now place (Lasting since) realm _ s l c result s_new l_new c_new =
    LeaseIsKept own s (with_changed place (lasts_since since) l) (option_map forgotten c) result s_new l_new c_new
LeaseApplies now place (Failed code) realm _ s l c result s_new l_new c_new =
    (result ≡ own) × (s_new ≡ lease_failed now code s)
    × (l_new ≡ kept_leases s_new (with_changed place (failed_at now (Some code)) l))
    × (c_new ≡ kept_credentials s_new (option_map forgotten c))
LeaseApplies now place (Allocated since seconds allocation) realm _ s l c result s_new l_new c_new =
    LeaseIsKept (dropped reasons.Unasked) s l c result s_new l_new c_new
LeaseApplies now place (Refreshed since seconds) realm _ s l c result s_new l_new c_new =
    LeaseIsKept (dropped reasons.Unasked) s l c result s_new l_new c_new
LeaseApplies now place (Redirected server) realm _ s l c result s_new l_new c_new =
    LeaseIsKept (dropped reasons.Unasked) s l c result s_new l_new c_new

-- what is decided by the response's signature is done
abbrev pub IsLeaseAnswered : (List ℕ → List ℕ → List ℕ) → Instant → Message → ℕ → Session → List Lease → Option Credentials
    → Receipt → Session → List Lease → Option Credentials → Type 0
IsLeaseAnswered mac now m place s l c result s_new l_new c_new =
    (is_signed : Bool) × (IsTrue is_signed ↔ IsSignedFor mac m (key_in (attempt_of m (at_place place l))))
    × LeaseApplies now place (outcome_with is_signed s.phase c m None (at_place place l).operation) m.attributes.realm m.attributes.nonce
    s l c result s_new l_new c_new

-- ---- data

abbrev pub heard_if : SocketAddr → List ℕ → List Lease × Bool → Receipt × List Lease
heard_if peer contents answer = (if answer.1 then peer_data peer contents else dropped reasons.NotPermitted, answer.0)

abbrev pub heard_peer : Instant → Option SocketAddr → List ℕ → List Lease → Receipt × List Lease
heard_peer now None contents l = (dropped reasons.NotPermitted, l)
heard_peer now (Some peer) contents l = heard_if peer contents (heard now (ip_of peer) peer l)

-- data of a peer counts while there is an allocation, if the peer's IP address has an open permission
abbrev pub heard_data : Instant → Option SocketAddr → List ℕ → Session → List Lease → Receipt × List Lease
heard_data now peer contents s l = if is_ready s.phase then heard_peer now peer contents l else (dropped reasons.NotPermitted, l)
