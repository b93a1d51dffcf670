-- What C may rely on, in C's own words: calls, codes, bytes, packets and events. C made an agent by `is_ice_agent_new`, and then made any calls
-- on it, with any bytes, times and random bytes, whether or not memory could be allocated.
use Rattle.std.specs.Prelude.{◌≡◌, ◌⊎◌, ℕ, Bool, true, false, List, [], ◌∷◌, Option, Some, None, ℤ}
use Rattle.is_stun.specs.declared.header.Class.TheVariants as class
use Rattle.is_stun.specs.declared.header.Method.TheVariants.{Binding}
use Rattle.is_stun.specs.Integrity.{IsSignedBy}
use Rattle.is_stun.specs.Message.{Message}
use Rattle.is_rules.specs.declared.credentials.IceCreds.{IceCreds}
use Rattle.is_rules.specs.declared.emitted.Path.{Path}
use Rattle.is_rules.specs.Answers.{is_reverse}
use Rattle.is_rules.specs.Emitted.{reversed}
use Rattle.is_c_calls.specs.declared.address.Address.{Address}
use Rattle.is_c_calls.specs.Codes.{OK}
use Rattle.is_c_calls.specs.Held.{HeldRecord}
use Rattle.is_c_calls.specs.Making.{MakesAt, fresh_held}
use Rattle.is_c_calls.specs.Packets.{packet_path, AcceptsOn}
use Rattle.is_c_calls.specs.Sessions.{Used, Session}
use Rattle.is_c_calls.specs.Following.{Followed}
use Rattle.is_c_calls.specs.Uses.{Use, HandlePacket, FixTimes, Does, mac_of}
use Rattle.is_c_theorems.specs.Chosen.{EachKeeps, keeps_modern}
use Rattle.is_c_theorems.specs.Seen.{Accepts, Selects, nominates, is_restart, is_clear, peer_of, Since, IsChecked}

abbrev pub used : Use → ℤ → Used
used export code = record { export = export; code = code }

-- If `is_ice_agent_new` returns OK, the slot holds the agent in which the sessions below begin.
abbrev pub NewAgentsAreFresh : Type 0
NewAgentsAreFresh =
    (ufrag pass : List ℕ) (tie_breaker : ℕ) (new : Option HeldRecord) → MakesAt ufrag pass tie_breaker None OK new
    → new ≡ Some (fresh_held (record { ufrag = ufrag; pass = pass }) tie_breaker)

-- A call of C is one use more, or two: itself, and what follows it (`FixTimes`). So what is proved of lists of uses is proved of C's calls.
abbrev pub FollowedAreUses : Type 0
FollowedAreUses =
    (soon : HeldRecord → HeldRecord → Bool) (first old new : HeldRecord) (uses : List Used) (export : Use) (code : ℤ)
    → Session first uses old → Followed soon export old code new
    → (more : List Used) × Session first more new
    × ((more ≡ used export code ∷ uses) ⊎ ((fixes : Bool) × (more ≡ used (FixTimes fixes) OK ∷ used export code ∷ uses)))

-- A packet that the agent does not accept on its path changes nothing, and `is_ice_handle_packet` does not return OK (RFC 8445, section 7.3).
abbrev pub UnacceptedChangeNothing : Type 0
UnacceptedChangeNothing =
    (old new : HeldRecord) (code : ℤ) (now protocol : ℕ) (source destination : Address) (bytes : List ℕ)
    → Does (HandlePacket now protocol source destination bytes) old code new
    → ¬ AcceptsOn mac_of old.agent (packet_path protocol source destination) bytes → (new ≡ old) × ¬ (code ≡ OK)

-- This call passed a Binding success response, signed with the password that C had set last for the peer, received on the reverse of the path,
-- with the ID of a check of the path: one that C got from `is_ice_poll_transmit` since pairs were last cleared, or that is still to be polled.
abbrev pub Answers : List Used → HeldRecord → Path → Used → List Used → Type 0
Answers uses held path u before =
    (by : Path) × (m : Message) × (peer : IceCreds)
    × Accepts u by m × (m.method ≡ Binding) × (m.class ≡ class.Success) × (peer_of before ≡ Some peer) × IsSignedBy (mac_of (record {})) m peer.pass
    × (is_reverse by path ≡ true) × IsChecked uses held path m.id

-- Each path that C gets by a `NominatedSend` was answered since pairs were last cleared (RFC 8445, section 7.2.5.3).
abbrev pub SelectedAreAnswered : Type 0
SelectedAreAnswered =
    (creds : IceCreds) (tie_breaker : ℕ) (before : List Used) (held after : HeldRecord) (u : Used) (path : Path)
    → Session (fresh_held creds tie_breaker) before held → EachKeeps keeps_modern before
    → Does u.export held u.code after → Selects u path → Since is_clear (Answers before held path) before

-- This call passed a Binding request on the reverse of the path that nominates it.
abbrev pub Nominates : Path → Used → List Used → Type 0
Nominates path u before =
    (by : Path) × (m : Message) × (numbered : Bool)
    × Accepts u by m × (m.method ≡ Binding) × (m.class ≡ class.Request) × (nominates numbered m ≡ true) × (reversed by ≡ path)

-- The agent is controlled in each state since the last restart, or since it was made if there was none, as `is_ice_status` says.
abbrev pub StaysControlled : (first : HeldRecord) (uses : List Used) (last : HeldRecord) → Session first uses last → Type 0
StaysControlled first [] last session = last.agent.controlling ≡ false
StaysControlled first (u ∷ before) last session =
    (last.agent.controlling ≡ false) × ((is_restart u ≡ true) ⊎ StaysControlled first before session.0 session.1)

-- If the agent was controlled since the last restart, the peer nominated each such path since then (RFC 8445, section 7.3.1.5).
abbrev pub SelectedAreNominatedByPeer : Type 0
SelectedAreNominatedByPeer =
    (creds : IceCreds) (tie_breaker : ℕ) (before : List Used) (held after : HeldRecord) (u : Used) (path : Path)
    → (session : Session (fresh_held creds tie_breaker) before held) → EachKeeps keeps_modern before
    → StaysControlled (fresh_held creds tie_breaker) before held session
    → Does u.export held u.code after → Selects u path → Since is_restart (Nominates path) before
