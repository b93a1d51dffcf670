-- What holds along the log of C's calls, whatever C passes.
use Rattle.std.specs.Prelude.{◌≡◌, ℕ, ◌≤◌, ◌*◌, ◌⊎◌, Bool, true, false, List, ◌∷◌, suc, length, Some, ℤ}
use Rattle.is_proto.specs.Lists.{Has}
use Rattle.is_proto.specs.Times.{MILLISECOND}
use Rattle.is_pair.specs.Pairs.{PairRecord}
use Rattle.is_stun.specs.declared.timing.Consent.{Consent}
use Rattle.is_rules.specs.declared.emitted.Path.{Path}
use Rattle.is_rules.specs.Nominating.{is_eligible}
use Rattle.is_rules.specs.Points.{HasSelected, IsNominationPoint}
use Rattle.is_rules.specs.Sending.{path_of}
use Rattle.is_theorems.specs.Bounds.{IsBounded, gathered_count, signal_count}
use Rattle.is_theorems.specs.ConsentExecutions.{IsAliveBy}
use Rattle.is_theorems.specs.ConsentLogs.{IsConnectedAt}
use Rattle.is_theorems.specs.Logs.{Logged, last_selected, IsAnsweredBy}
use Rattle.is_theorems.specs.Polled.{NominatedSince}
use Rattle.is_theorems.specs.Settled.{IsAgreed}
use Rattle.is_theorems.specs.Shared.{IsControlledSince}
use Rattle.is_theorems.specs.Waiting.{IsShort, discovery_count}
use Rattle.is_c_calls.specs.declared.preference.Preference.{Preference}
use Rattle.is_c_calls.specs.Held.{HeldRecord}
use Rattle.is_c_calls.specs.Preferences.{answers}
use Rattle.is_c_calls.specs.Following.{Followed}
use Rattle.is_c_calls.specs.Sessions.{Used}
use Rattle.is_c_calls.specs.Uses.{Use, Does, mac_of}
use Rattle.is_c_theorems.specs.CallLogs.{IsUsed, newborn}
use Rattle.is_c_theorems.specs.Chosen.{EachKeeps, keeps_modern, keeps_consent, keeps_limit}

-- Each path that the agent selects was answered, at this call or before it, and since the last clear.
abbrev pub PathsAreAnswered : Type 0
PathsAreAnswered =
    (uses : List Used) (before : List (Logged Preference)) (x : Logged Preference) (held : HeldRecord)
    → IsUsed uses (x ∷ before) held → EachKeeps keeps_modern uses
    → (path : Path) → Has x.entry.emitted.selected_paths (Some path) → IsAnsweredBy mac_of (record {}) x before path

-- Each path that it selects while it was controlled since the last clear was nominated by the peer since the last restart.
abbrev pub PathsAreNominatedByPeer : Type 0
PathsAreNominatedByPeer =
    (uses : List Used) (before : List (Logged Preference)) (x : Logged Preference) (held : HeldRecord) (used : IsUsed uses (x ∷ before) held)
    → EachKeeps keeps_modern uses → IsControlledSince mac_of answers (newborn used.creds used.tie_breaker) (x ∷ before) held.agent used.run
    → (path : Path) → Has x.entry.emitted.selected_paths (Some path) → NominatedSince (x ∷ before) path

-- After an accepted success response, and after a timeout that serves no early request, if a pair is eligible, the path that was
-- selected last is the first choice.
abbrev pub PathsAreFirstChoice : Type 0
PathsAreFirstChoice =
    (uses : List Used) (before : List (Logged Preference)) (x : Logged Preference) (held : HeldRecord) (used : IsUsed uses (x ∷ before) held)
    → IsNominationPoint used.run.0 x.call x.entry → (p : PairRecord) → Has held.agent.pairs p → is_eligible held.agent.controlling p ≡ true
    → HasSelected (last_selected (x ∷ before)) held.agent

-- Each call of C queues at most one packet, with what follows it.
abbrev pub EachQueuesOne : Type 0
EachQueuesOne =
    (soon : HeldRecord → HeldRecord → Bool) (export : Use) (old new : HeldRecord) (code : ℤ)
    → Does export old code new ⊎ Followed soon export old code new → length new.agent.packets ≤ suc (length old.agent.packets)

-- by the settings that an agent of C begins with: 29.6 s, and the peer's checks keep consent, too
abbrev pub modern_consent : Consent
modern_consent = record { timeout = record { 0 = 29600 * MILLISECOND }; strict = false }

-- Consent by the clock: if the agent is connected after a timeout that serves no early request, the path that was selected last is that
-- of a pair whose last answered check was sent less than 29.6 s before, or on which a check of the peer arrived less than 15 s before.
abbrev pub ConnectedAreAlive : Type 0
ConnectedAreAlive =
    (uses : List Used) (before : List (Logged Preference)) (x : Logged Preference) (held : HeldRecord) (now : ℕ) (used : IsUsed uses (x ∷ before) held)
    → EachKeeps keeps_consent uses → IsConnectedAt now used.run.0 x held.agent
    → (p : PairRecord) × Has held.agent.pairs p × IsAliveBy modern_consent now p × (last_selected (x ∷ before) ≡ Some (path_of held.agent p))

-- The agent is Connected or Completed exactly if the path that it selected last since the last clear is that of a pair that can be used.
abbrev pub ConnectedHavePath : Type 0
ConnectedHavePath =
    (uses : List Used) (log : List (Logged Preference)) (held : HeldRecord) → IsUsed uses log held → EachKeeps keeps_modern uses
    → IsAgreed (last_selected log) held.agent

-- how many candidates of a side packets may bring, by the settings that an agent of C begins with
abbrev pub DISCOVERED_LIMIT : ℕ
DISCOVERED_LIMIT = 32

-- Whatever is received: at most 32 candidates of each side more than C added, at most 32 sources and 32 `DiscoveredRecv` events, and what
-- waits in the queues.
abbrev pub StaysBounded : Type 0
StaysBounded =
    (uses : List Used) (log : List (Logged Preference)) (held : HeldRecord) → IsUsed uses log held → EachKeeps keeps_limit uses
    → IsBounded DISCOVERED_LIMIT (gathered_count log) (signal_count log) held.agent × (discovery_count held.agent.events ≤ DISCOVERED_LIMIT)
    × IsShort log held.agent
