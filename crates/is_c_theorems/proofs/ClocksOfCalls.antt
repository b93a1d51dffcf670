-- What C's calls leave: the deadline that a slot keeps, the time at which its monitor saw the agent last, and the times by which the agent's checks
-- are counted. What mutants/specifications changes is read by tactics.
use Rattle.std.proofs.Common.{◌≡◌, ◌⊎◌, ◌&&◌, ℕ, ◌==◌, Bool, true, false, nat_lt, List, length, Option, Some, None, Result, Ok, Err, ℤ, inl, inr, refl, ap, sym, ◌∙◌, subst}
use Rattle.rand_core.specs.Stream.{Stream}
use Rattle.rand_core.specs.Steps.{stream_of}
use Rattle.is_proto.specs.declared.error.IceError.{IceError}
use Rattle.is_stun.specs.Timing.{is_modern}
use Rattle.is_rules.specs.declared.emitted.Emitted.{Emitted}
use Rattle.is_rules.specs.declared.emitted.Path.{Path}
use Rattle.is_rules.specs.declared.event.IceAgentEvent.{IceAgentEvent}
use Rattle.is_rules.specs.Roles.{keeps_role}
use Rattle.is_rules.specs.Steps as agent
use Rattle.is_rules.specs.Steps.{Call}
use Rattle.is_rules.specs.Timeouts.{TimesOut}
use Rattle.is_theorems.specs.NotStarved as logs
use Rattle.is_theorems.proofs.CheckCounts.LastTimes.{charges-stay, last-stays}
use Rattle.is_monitor.specs.declared.monitor.Monitor.{Monitor}
use Rattle.is_agent.specs.Added.{AddsLocalListed, AddsRemoteListed}
use Rattle.is_c_calls.specs.declared.preference.Preference.{Preference}
use Rattle.is_c_calls.specs.Adding.{AddsMade}
use Rattle.is_c_calls.specs.Candidates.{Made}
use Rattle.is_c_calls.specs.Clock.{agent_time}
use Rattle.is_c_calls.specs.Codes.{BAD_ADDRESS, NOT_UTF8, done_code, found_code}
use Rattle.is_c_calls.specs.Events.{monitor_polled}
use Rattle.is_c_calls.specs.Given.{CallsMade, Discards}
use Rattle.is_c_calls.specs.Held.{Held, HeldRecord, KeepsRest}
use Rattle.is_c_calls.specs.Monitoring.{NotesFailure, monitor_received, monitor_restarted}
use Rattle.is_c_calls.specs.Packets.{packet_path, HandlesDatagram}
use Rattle.is_c_calls.specs.Preferences.{answers}
use Rattle.is_c_calls.specs.Random.{given_steps}
use Rattle.is_c_calls.specs.Sessions.{is_ok}
use Rattle.is_c_calls.specs.Uses.{Use, Ask, SetControlling, SetLite, SetRenomination, SetTieBreaker, SetMaxPairs, SetMaxDiscovered, SetMaxCandidates, SetTimingAdvance, SetInitialRto, SetMaxRto, SetLiteTimeout, SetMaxRetransmits, SetMtu, SetPreference, SetSettings, SkipPairIds, SetSilence, SetLocalCredentials, SetRemoteCredentials, AddLocal, AddLocalLine, AddRemote, InvalidateLocal, Invalidate, Restart, RecreatePairs, HandlePacket, HandleTimeout, PollTransmit, PollTimeout, PollEvent, SendFailed, FixTimes, mac_of, Does}
use Rattle.is_c_theorems.specs.CallLogs.{Makes}
use Rattle.is_c_theorems.specs.FrugalCalls.{is_timeout, is_timed}
use Rattle.is_c_theorems.proofs.CallsAsSteps.{never, either, one}

-- ---- the deadline, and what the monitor saw

abbrev pub Leaves : HeldRecord → HeldRecord → Type 0
Leaves old new = (new.deadline ≡ old.deadline) × (new.monitor.seen.0 ≡ old.monitor.seen.0)

by_held : (old new needed : HeldRecord) → new ≡ needed → Leaves old needed → Leaves old new
by_held old new needed is left = subst (λ (h : HeldRecord). Leaves old h) (sym is) left

by_rest : (old new : HeldRecord) → KeepsRest old new → Leaves old new
by_rest old new kept = (kept.2, ap (λ (m : Monitor). m.seen.0) kept.1)

polled_seen : (given : Option IceAgentEvent) (m : Monitor) → (monitor_polled given m).seen.0 ≡ m.seen.0
polled_seen None m = refl
polled_seen (Some e) m = refl

restarted_seen : (r : Result (Unit {0}) IceError) (a : Held) (m : Monitor) → (monitor_restarted r a m).seen.0 ≡ m.seen.0
restarted_seen (Ok _) a m = refl
restarted_seen (Err e) a m = refl

-- the calls that may change them
abbrev pub is_clocked : Use → Bool
is_clocked (HandlePacket now protocol source destination bytes) = true
is_clocked (HandleTimeout now random) = true
is_clocked (FixTimes soon) = true
is_clocked _ = false

pub leaves : (export : Use) (code : ℤ) (old new : HeldRecord) → Does export old code new → is_clocked export ≡ false → Leaves old new
leaves Ask code old new h none = by_held old new old h (refl, refl)
leaves (SetControlling role) code old new h none =
    either (keeps_role old.agent && role) (λ k. by_held old new old k.1 (refl, refl)) (λ k. by_held old new _ k.1 (refl, refl)) h
leaves (SetMtu mtu warn) code old new (x, does, is, kept) none = by_rest old new kept
leaves RecreatePairs code old new (x, does, is, kept) none = by_rest old new kept
leaves (SetMaxRetransmits limit) code old new h none =
    either (limit == 0) (λ k. by_held old new old k.1 (refl, refl)) (λ k. by_held old new _ k.1 (refl, refl)) h
leaves (SetLocalCredentials u p) code old new (Ok creds, made, (x, does, is, kept)) none = by_rest old new kept
leaves (SetLocalCredentials u p) code old new (Err why, made, h) none = by_held old new old h.1 (refl, refl)
leaves (SetRemoteCredentials u p) code old new (Ok creds, made, (x, does, is, kept)) none = by_rest old new kept
leaves (SetRemoteCredentials u p) code old new (Err why, made, h) none = by_held old new old h.1 (refl, refl)
leaves (AddLocal c before after) code old new (made, makes, h) none = by made h where
  by : (made : Made) → AddsMade (AddsLocalListed answers) BAD_ADDRESS made before after old code new → Leaves old new
  by None k = by_held old new old k.0.1 (refl, refl)
  by (Some (Err e)) k = by_held old new old k.0.1 (refl, refl)
  by (Some (Ok made)) (x, does, puts, kept) = by_rest old new kept
leaves (AddLocalLine line before after) code old new (made, makes, h) none = by made h where
  by : (made : Made) → AddsMade (AddsLocalListed answers) NOT_UTF8 made before after old code new → Leaves old new
  by None k = by_held old new old k.0.1 (refl, refl)
  by (Some (Err e)) k = by_held old new old k.0.1 (refl, refl)
  by (Some (Ok made)) (x, does, puts, kept) = by_rest old new kept
leaves (AddRemote line before after) code old new (made, makes, h) none = by made h where
  by : (made : Made) → AddsMade AddsRemoteListed NOT_UTF8 made before after old code new → Leaves old new
  by None k = by_held old new old k.0.1 (refl, refl)
  by (Some (Err e)) k = by_held old new old k.0.1 (refl, refl)
  by (Some (Ok made)) (x, does, puts, kept) = by_rest old new kept
leaves (InvalidateLocal c) code old new (made, makes, h) none = by made h where
  by : (made : Made) → CallsMade Discards found_code BAD_ADDRESS made old code new → Leaves old new
  by None k = by_held old new old k.1 (refl, refl)
  by (Some (Err e)) k = by_held old new old k.1 (refl, refl)
  by (Some (Ok made)) (x, does, is, kept) = by_rest old new kept
leaves (Invalidate line) code old new (made, makes, h) none = by made h where
  by : (made : Made) → CallsMade Discards found_code NOT_UTF8 made old code new → Leaves old new
  by None k = by_held old new old k.1 (refl, refl)
  by (Some (Err e)) k = by_held old new old k.1 (refl, refl)
  by (Some (Ok made)) (x, does, is, kept) = by_rest old new kept
leaves (Restart u p keep) code old new (Ok creds, made, (r, restarted, is)) none =
    (restarted.4, ap (λ (m : Monitor). m.seen.0) restarted.2 ∙ restarted_seen r old.agent old.monitor)
leaves (Restart u p keep) code old new (Err why, made, h) none = by_held old new old h.1 (refl, refl)
leaves (HandlePacket now protocol source destination bytes) code old new h none = never (sym none)
leaves (HandleTimeout now random) code old new h none = never (sym none)
leaves (FixTimes soon) code old new h none = never (sym none)
leaves (PollTransmit before after known reported) code old new k none = (k.4, ap (λ (m : Monitor). m.seen.0) k.3)
leaves (PollTimeout before after) code old new h none =
    either (is_modern old.agent.timing) (λ k. by_held old new old k.1 (refl, refl)) (λ (deadline, polls, kept, writes). by_rest old new kept) h
leaves (PollEvent before after) code old new (given, polls, returns, kept) none =
    (kept.2, ap (λ (m : Monitor). m.seen.0) kept.1 ∙ polled_seen given old.monitor)
leaves (SetLite lite) code old new (coded, same) none = by_held old new _ same (refl, refl)
leaves (SetRenomination enabled) code old new (coded, same) none = by_held old new _ same (refl, refl)
leaves (SetTieBreaker n) code old new (coded, same) none = by_held old new _ same (refl, refl)
leaves (SetMaxPairs n) code old new (coded, same) none = by_held old new _ same (refl, refl)
leaves (SetMaxDiscovered n) code old new (coded, same) none = by_held old new _ same (refl, refl)
leaves (SetMaxCandidates n) code old new (coded, same) none = by_held old new _ same (refl, refl)
leaves (SetTimingAdvance n) code old new (coded, same) none = by_held old new _ same (refl, refl)
leaves (SetInitialRto n) code old new (coded, same) none = by_held old new _ same (refl, refl)
leaves (SetMaxRto n) code old new (coded, same) none = by_held old new _ same (refl, refl)
leaves (SetLiteTimeout n) code old new (coded, same) none = by_held old new _ same (refl, refl)
leaves (SetPreference p) code old new (coded, same) none = by_held old new _ same (refl, refl)
leaves (SetSettings s) code old new h none =
    either (s.max_retransmits == 0) (λ k. by_held old new old k.1 (refl, refl)) (λ k. by_held old new _ k.1 (refl, refl)) h
leaves (SkipPairIds n) code old new (coded, same) none = by_held old new _ same (refl, refl)
leaves (SetSilence n) code old new (coded, same) none = by_held old new _ same (refl, refl)
leaves (SendFailed p s d r) code old new h none = by (packet_path p s d) h where
  by : (path : Option Path) → NotesFailure path r old code new → Leaves old new
  by None k = by_held old new old k.1 (refl, refl)
  by (Some path) (inl k) = by_held old new old k.1 (refl, refl)
  by (Some path) (inr (is, notes, same)) = by_held old new _ same (refl, refl)

-- a packet leaves the deadline, and the monitor sees the agent at its time, if it sees it
abbrev pub SeenBy : ℕ → HeldRecord → HeldRecord → Type 0
SeenBy now old new = (new.deadline ≡ old.deadline) × ((new.monitor.seen.0 ≡ old.monitor.seen.0) ⊎ (new.monitor.seen.0 ≡ agent_time now))

seen_at : (now : ℕ) (r : Result Bool IceError) (old new : HeldRecord) → new.monitor ≡ monitor_received r (agent_time now) new.agent old.monitor
    → (new.monitor.seen.0 ≡ old.monitor.seen.0) ⊎ (new.monitor.seen.0 ≡ agent_time now)
seen_at now (Ok true) old new is = inr (ap (λ (m : Monitor). m.seen.0) is)
seen_at now (Ok false) old new is = inl (ap (λ (m : Monitor). m.seen.0) is)
seen_at now (Err e) old new is = inl (ap (λ (m : Monitor). m.seen.0) is)

pub received : (now : ℕ) (bytes : List ℕ) (path : Option Path) (code : ℤ) (old new : HeldRecord) → HandlesDatagram mac_of now path bytes old code new → SeenBy now old new
received now bytes None code old new h = (ap (λ (k : HeldRecord). k.deadline) h.1, inl (ap (λ (k : HeldRecord). k.monitor.seen.0) h.1))
received now bytes (Some path) code old new (inl (e, fails, h)) = (ap (λ (k : HeldRecord). k.deadline) h.1, inl (ap (λ (k : HeldRecord). k.monitor.seen.0) h.1))
received now bytes (Some path) code old new (inr (m, reads, (r, (emitted, handles, coded, kept)))) = (kept.2, seen_at now r old new kept.1)

-- ---- the times of the agent

abbrev pub Same : Held → Held → Type 0
Same old new = (new.last_time ≡ old.last_time) × (new.charged_until ≡ old.charged_until)

pub same_of : (old new : Held) → new ≡ old → Same old new
same_of old new is = (ap (λ (a : Held). a.last_time) is, ap (λ (a : Held). a.charged_until) is)

abbrev calls_timeout : Call Preference → Bool
calls_timeout call = logs.is_timeout call

-- the call of the agent is `handle_timeout` if and only if C's is
abbrev pub IsTimeoutOf : Use → Call Preference → Type 0
IsTimeoutOf export call =
    (now : ℕ) × (random : List ℕ) × (export ≡ HandleTimeout now random) × (call ≡ agent.HandleTimeout (agent_time now))

pub timed_by : (export : Use) (call : Call Preference) → Makes export call → (logs.is_timeout call ≡ false) ⊎ IsTimeoutOf export call
timed_by Ask call m = absurd m
timed_by (SetSilence n) call m = absurd m
timed_by (SendFailed p s d r) call m = absurd m
timed_by (SetSettings s) call m = absurd m
timed_by (SetControlling role) call m = inl (ap calls_timeout m)
timed_by (SetLite lite) call m = inl (ap calls_timeout m)
timed_by (SetRenomination enabled) call m = inl (ap calls_timeout m)
timed_by (SetTieBreaker n) call m = inl (ap calls_timeout m)
timed_by (SetMaxPairs n) call m = inl (ap calls_timeout m)
timed_by (SetMaxDiscovered n) call m = inl (ap calls_timeout m)
timed_by (SetMaxCandidates n) call m = inl (ap calls_timeout m)
timed_by (SetTimingAdvance n) call m = inl (ap calls_timeout m)
timed_by (SetInitialRto n) call m = inl (ap calls_timeout m)
timed_by (SetMaxRto n) call m = inl (ap calls_timeout m)
timed_by (SetLiteTimeout n) call m = inl (ap calls_timeout m)
timed_by (SetMaxRetransmits n) call m = inl (ap calls_timeout m)
timed_by (SetMtu mtu n) call m = inl (ap calls_timeout m)
timed_by (SetPreference p) call m = inl (ap calls_timeout m)
timed_by (SkipPairIds n) call m = inl (ap calls_timeout m)
timed_by (SetLocalCredentials u p) call m = inl (ap calls_timeout m)
timed_by (SetRemoteCredentials u p) call m = inl (ap calls_timeout m)
timed_by (AddLocal c b d) call m = inl (ap calls_timeout m.2)
timed_by (AddLocalLine l b d) call m = inl (ap calls_timeout m.2)
timed_by (AddRemote l b d) call m = inl (ap calls_timeout m.2)
timed_by (InvalidateLocal c) call m = inl (ap calls_timeout m.2)
timed_by (Invalidate l) call m = inl (ap calls_timeout m.2)
timed_by (Restart u p keep) call m = inl (ap calls_timeout m)
timed_by RecreatePairs call m = inl (ap calls_timeout m)
timed_by (HandlePacket n p s d b) call m = inl (ap calls_timeout m.2)
timed_by (HandleTimeout n r) call m = inr (n, r, refl, search m)
timed_by (PollTransmit b d known r) call m = inl (ap calls_timeout m)
timed_by (PollTimeout b d) call m = inl (ap calls_timeout m)
timed_by (FixTimes soon) call m = inl (ap calls_timeout m)
timed_by (PollEvent b d) call m = inl (ap calls_timeout m)

-- any call but `is_ice_handle_timeout`
pub same_clocks : (export : Use) (code : ℤ) (old new : HeldRecord) → Does export old code new → is_timeout export ≡ false → Same old.agent new.agent
same_clocks export code old new does none = elim (one 0 export code old new does) as (λ _. Same old.agent new.agent) [
  | inl (same, nothing) ↦ same_of old.agent new.agent same
  | inr (inl (x, s, t, is, given, step)) ↦ elim (timed_by export x.call is.makes) as (λ _. Same old.agent new.agent) [
    | inl other ↦ (
      last-stays mac_of answers x.call old.agent new.agent s t x.entry other step,
      charges-stay mac_of answers x.call old.agent new.agent s t x.entry other step,
    )
    | inr timed ↦ never (sym none ∙ ap (λ (e : Use). is_timeout e) timed.2)
  ]
  | inr (inr all) ↦ (ap (λ (a : Held). a.last_time) all.sets, ap (λ (a : Held). a.charged_until) all.sets)
]

-- and one that does not return OK
pub same_untimed : (export : Use) (code : ℤ) (old new : HeldRecord) → Does export old code new → is_timed (record { export = export; code = code }) ≡ false
    → Same old.agent new.agent
same_untimed (HandleTimeout now random) code old new h none =
    either (nat_lt (length random) 12) (λ k. same_of old.agent new.agent (ap (λ (h : HeldRecord). h.agent) k.1)) (λ (r, (emitted, k)). by r emitted k.0 k.1 k.2) h where
      by : (r : Result (Unit {0}) IceError) (emitted : Emitted) (left : Stream)
          → TimesOut mac_of (agent_time now) old.agent (stream_of given_steps random) r emitted new.agent left → code ≡ done_code r → Same old.agent new.agent
      by (Ok _) emitted left times is = let bad : is_ok code ≡ false = search none in never (sym bad ∙ ap is_ok is)
      by (Err e) emitted left times is = same_of old.agent new.agent times.2
same_untimed export code old new h none = same_clocks export code old new h refl
