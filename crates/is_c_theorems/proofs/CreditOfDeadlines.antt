-- The deadline that a slot keeps, and the time that `is_ice_poll_timeout` returns, are within the credit for checks. What mutants/specifications changes
-- is read by tactics.
use Rattle.std.proofs.Common.{◌≡◌, ℕ, ◌*◌, ◌≤◌, ◌&&◌, Bool, true, false, nat_le, nat_lt, min, max, List, [], ◌∷◌, length, Option, Some, None, Result, Ok, Err, MatchBool, IfSome, ℤ, inl, inr, refl, ap, sym, ◌∙◌, subst, arith}
use Rattle.std.proofs.lemmas.Bool.Decides.{nat_tests}
use Rattle.std.specs.Option.{option_map_or}
use Rattle.rand_core.specs.Stream.{Stream}
use Rattle.rand_core.specs.Steps.{stream_of}
use Rattle.is_proto.specs.Lists.{Has}
use Rattle.is_proto.specs.Times.{MAX, MILLISECOND, later}
use Rattle.is_proto.specs.declared.error.IceError.{IceError}
use Rattle.is_stun.specs.Timing.{is_modern, is_modern_profile}
use Rattle.is_rules.specs.declared.credentials.IceCreds.{IceCreds}
use Rattle.is_rules.specs.declared.emitted.Emitted.{Emitted}
use Rattle.is_rules.specs.Charging.{CHARGE}
use Rattle.is_rules.specs.Polls.{is_settled}
use Rattle.is_rules.specs.Steps.{answer_by, done}
use Rattle.is_rules.specs.Steps as agent
use Rattle.is_rules.specs.TimeoutTimes.{IsWithinCredit}
use Rattle.is_rules.specs.Timeouts.{TimesOut}
use Rattle.is_rules.proofs.PollsAndResponses.TimesWithinCredit.{Within, within-later}
use Rattle.is_theorems.specs.Settings.{AllAreSetInTurn, SettingsAreSet, all_settings_of}
use Rattle.is_theorems.proofs.CheckCounts.IssuedChecks.{timeout-timed}
use Rattle.is_agent.proofs.AgentParts.TimesWithinCredit.{next-keeps, next-soon-keeps}
use Rattle.is_monitor.specs.Monitors.{next_call, silence_deadline}
use Rattle.is_c_calls.specs.declared.preference.Preference.{Preference}
use Rattle.is_c_calls.specs.AgentSettings.{profile_of}
use Rattle.is_c_calls.specs.Clock.{agent_time, caller_time}
use Rattle.is_c_calls.specs.Codes.{OK, done_code}
use Rattle.is_c_calls.specs.Deadlines.{earlier, moved, time_to_call}
use Rattle.is_c_calls.specs.Held.{Held, HeldRecord}
use Rattle.is_c_calls.specs.Making.{fresh_held}
use Rattle.is_c_calls.specs.Monitoring.{monitor_timed}
use Rattle.is_c_calls.specs.Packets.{packet_path, unless_done, next_call_of, PollsAgent, WritesTime}
use Rattle.is_c_calls.specs.Preferences.{answers}
use Rattle.is_c_calls.specs.Random.{given_steps}
use Rattle.is_c_calls.specs.Sessions.{Used, Session, is_ok}
use Rattle.is_c_calls.specs.Uses.{Use, SetTimingAdvance, SetSettings, HandlePacket, HandleTimeout, PollTimeout, FixTimes, mac_of, Does}
use Rattle.is_c_theorems.specs.Chosen.{EachKeeps, sets}
use Rattle.is_c_theorems.specs.FrugalCalls.{AreInOrder, DeadlinesKeepCredit, IsTimedAt, LetsCall, ReturnedTimesKeepCredit, is_timed, keeps_pace, time_after, time_of}
use Rattle.is_c_theorems.specs.Seen.{Since}
use Rattle.is_c_theorems.proofs.CallsAsSteps.{either, never}
use Rattle.is_c_theorems.proofs.ClocksOfCalls.{Same, leaves, received, same_clocks, same_of, same_untimed}
use Rattle.is_c_theorems.proofs.SettingsOfCalls.{Chosen, kept_by, rest_of, those_set}

abbrev pub Turns : Type 0
Turns = AllAreSetInTurn {H = _} {P = Preference} mac_of answers

abbrev pub Set : Type 0
Set = SettingsAreSet {H = _} {P = Preference} mac_of answers

-- ---- times within credit

abbrev Keeps : Held → Option ℕ → Type 0
Keeps a o = IfSome o (λ at. IsWithinCredit a at)

transfer : (old new : Held) (at : ℕ) → Same old new → IsWithinCredit old at → IsWithinCredit new at
transfer old new at same within = λ last is. subst (λ (n : ℕ). Within last n at) (sym same.1) (within last (sym same.0 ∙ is))

transfers : (old new : Held) (o : Option ℕ) → Same old new → Keeps old o → Keeps new o
transfers old new None same within = tt
transfers old new (Some at) same within = transfer old new at same within

-- at the end of the clock, too
within_by : (last charged at now : ℕ) → min at MAX ≤ now → Within last charged at → Within last charged now
within_by last charged at now le (inl gone) = inl (omega (arith, le, gone))
within_by last charged at now le (inr (paced, ahead)) = inr (omega (arith, le, paced), omega (arith, le, ahead))

within_min : (last charged x y : ℕ) → Within last charged x → Within last charged y → Within last charged (min x y)
within_min last charged x y one other = by (nat_le x y) refl where
  by : (b : Bool) → nat_le x y ≡ b → Within last charged (min x y)
  by true is = let le : x ≤ y = grind (arith, nat_tests, is) in within-later last charged x (min x y) (omega (arith, le)) one
  by false is = let lt : y ≤ x = grind (arith, nat_tests, is) in within-later last charged y (min x y) (omega (arith, lt)) other

earlier_keeps : (a : Held) (kept next : Option ℕ) → Keeps a kept → Keeps a next → Keeps a (earlier kept next)
earlier_keeps a None None k n = tt
earlier_keeps a (Some x) None k n = tt
earlier_keeps a None (Some y) k n = n
earlier_keeps a (Some x) (Some y) k n = λ last is. within_min last a.charged_until x y (k last is) (n last is)

moved_keeps : (settled : Bool) (a : Held) (kept next : Option ℕ) → Keeps a kept → Keeps a next → Keeps a (moved settled kept next)
moved_keeps true a kept next k n = n
moved_keeps false a kept next k n = earlier_keeps a kept next k n

call_keeps : (soon : Bool) (a : Held) → is_modern a.timing ≡ true → CHARGE ≤ a.timing_advance → Keeps a (time_to_call soon a)
call_keeps true a modern slow = next-soon-keeps a modern slow
call_keeps false a modern slow = next-keeps a slow

-- ---- the deadline after each call

abbrev Kept : HeldRecord → Type 0
Kept h = Keeps h.agent h.deadline

kept_as : (old new : HeldRecord) → new.deadline ≡ old.deadline → Same old.agent new.agent → Kept old → Kept new
kept_as old new is same k = subst (λ (o : Option ℕ). Keeps new.agent o) (sym is) (transfers old.agent new.agent old.deadline same k)

deadline_after : (export : Use) (code : ℤ) (old new : HeldRecord) → Does export old code new → is_modern old.agent.timing ≡ true → CHARGE ≤ old.agent.timing_advance
    → Kept old → Kept new
deadline_after (HandleTimeout now random) code old new h modern slow k =
    either (nat_lt (length random) 12) (λ j. subst (λ (h : HeldRecord). Kept h) (sym j.1) k) (λ (r, (emitted, j)). by r emitted j.0 j.1 j.5) h where
      by : (r : Result (Unit {0}) IceError) (emitted : Emitted) (left : Stream)
          → TimesOut mac_of (agent_time now) old.agent (stream_of given_steps random) r emitted new.agent left → new.deadline ≡ unless_done r old.deadline → Kept new
      by (Ok _) emitted left times is = subst (λ (o : Option ℕ). Keeps new.agent o) (sym is) tt
      by (Err e) emitted left times is = kept_as old new is (same_of old.agent new.agent times.2) k
deadline_after (FixTimes soon) code old new (polled, polls, coded, is) modern slow k =
    subst (λ (o : Option ℕ). Keeps new.agent o) (sym (ap (λ (h : HeldRecord). h.deadline) is))
    (transfers old.agent new.agent (moved (is_settled old.agent) old.deadline (time_to_call soon old.agent))
    (same_clocks (FixTimes soon) code old new (polled, polls, coded, is) refl)
    (moved_keeps (is_settled old.agent) old.agent old.deadline (time_to_call soon old.agent) k (call_keeps soon old.agent modern slow)))
deadline_after (HandlePacket now protocol source destination bytes) code old new h modern slow k =
    kept_as old new (received now bytes (packet_path protocol source destination) code old new h).0
    (same_clocks (HandlePacket now protocol source destination bytes) code old new h refl) k
deadline_after export code old new h modern slow k = kept_as old new (leaves export code old new h refl).0 (same_clocks export code old new h refl) k

-- ---- the settings

abbrev IsPaced : Chosen → Type 0
IsPaced k = (is_modern_profile k.settings.profile ≡ true) × (50 * MILLISECOND ≤ k.settings.timing_advance.0)

both_true : (a b : Bool) → a && b ≡ true → (a ≡ true) × (b ≡ true)
both_true true b is = (refl, is)
both_true false b is = never is

stays_paced : (export : Use) (k : Chosen) → keeps_pace export ≡ true → IsPaced k → IsPaced (sets export k)
stays_paced (SetSettings s) k is paced =
    let so : s.modern && nat_le (50 * MILLISECOND) s.timing_advance ≡ true = search is in
    let two = both_true s.modern (nat_le (50 * MILLISECOND) s.timing_advance) so in
    let le = two.1 in
    (ap (λ (b : Bool). is_modern_profile (profile_of b)) two.0, grind (arith, nat_tests, le))
stays_paced (SetTimingAdvance by) k is paced = let le : nat_le (50 * MILLISECOND) by ≡ true = search is in (paced.0, grind (arith, nat_tests, le))
stays_paced _ k is paced = paced

module _ (turn : Turns) (law : Set) (creds : IceCreds) (tie_breaker : ℕ) where
  abbrev pub From : List Used → HeldRecord → Type 0
  From uses held = Session (fresh_held creds tie_breaker) uses held

  pub paced : (uses : List Used) (held : HeldRecord) → From uses held → EachKeeps keeps_pace uses
      → (is_modern held.agent.timing ≡ true) × (50 * MILLISECOND ≤ held.agent.timing_advance)
  paced uses held session each =
      subst (λ (k : Chosen). IsPaced k) (sym (those_set law turn creds tie_breaker uses held session))
      (kept_by (λ (k : Chosen). k) keeps_pace (λ (k : Chosen). IsPaced k) stays_paced uses (all_settings_of (fresh_held creds tie_breaker).agent) each (refl, omega arith))

  pub charged : (uses : List Used) (held : HeldRecord) → From uses held → EachKeeps keeps_pace uses → CHARGE ≤ held.agent.timing_advance
  charged uses held session each = let slow = (paced uses held session each).1 in omega (arith, slow)

  pub deadlines : (uses : List Used) (held : HeldRecord) → From uses held → EachKeeps keeps_pace uses → Kept held
  deadlines [] held is each = subst (λ (h : HeldRecord). Kept h) (sym is) tt
  deadlines (u ∷ before) held (mid, session, does) each =
      let others = rest_of keeps_pace u before each in
      deadline_after u.export u.code mid held does (paced before mid session others).0 (charged before mid session others) (deadlines before mid session others)

-- ---- what the monitor saw

-- a call that returned OK was at this time
abbrev pub IsNoted : ℕ → List Used → Type 0
IsNoted at uses = (u : Used) × Has uses u × (now : ℕ) × IsTimedAt now u × (at ≡ agent_time now)

pub record Seen (uses : List Used) (held : HeldRecord) : Type 0 where
  pub last : (at : ℕ) → held.agent.last_time ≡ Some at → (at ≤ held.monitor.seen.0) × IsNoted at uses
  pub clock : held.monitor.seen.0 ≤ agent_time (time_of uses)

no_time : {X : Type 0} (at : ℕ) → None ≡ Some at → X
no_time at h = absurd (cc)

time_is : (n m : ℕ) → Some n ≡ Some m → n ≡ m
time_is n m h = cc

seen_later : (u : Used) (before : List Used) (old new : HeldRecord) → Same old.agent new.agent → old.monitor.seen.0 ≤ new.monitor.seen.0
    → new.monitor.seen.0 ≤ agent_time (time_of (u ∷ before)) → Seen before old → Seen (u ∷ before) new
seen_later u before old new same grows clock s = record {
  last = λ at is. (let k = s.last at (sym same.0 ∙ is) in let le = k.0 in let noted = k.1 in
      (omega (arith, le, grows), (noted.0, inr noted.1, noted.2, noted.3, noted.4)));
  clock = clock;
}

seen_kept : (u : Used) (before : List Used) (old new : HeldRecord) → Same old.agent new.agent → new.monitor.seen.0 ≡ old.monitor.seen.0
    → time_of before ≤ time_of (u ∷ before) → Seen before old → Seen (u ∷ before) new
seen_kept u before old new same is forward s = let clock = s.clock in
    seen_later u before old new same (omega (arith, is)) (omega (arith, is, clock, forward)) s

abbrev used : Use → ℤ → Used
used export code = record { export = export; code = code }

seen_after : (export : Use) (code : ℤ) (before : List Used) (old new : HeldRecord) → Does export old code new → time_of before ≤ time_of (used export code ∷ before)
    → Seen before old → Seen (used export code ∷ before) new
seen_after (HandleTimeout now random) code before old new h forward s =
    either (nat_lt (length random) 12)
    (λ j. seen_kept (used (HandleTimeout now random) code) before old new (same_of old.agent new.agent (ap (λ (h : HeldRecord). h.agent) j.1)) (ap (λ (h : HeldRecord). h.monitor.seen.0) j.1) forward s)
    (λ (r, (emitted, j)). by r emitted j.0 j.1 j.2 j.4) h where
      by : (r : Result (Unit {0}) IceError) (emitted : Emitted) (left : Stream)
          → TimesOut mac_of (agent_time now) old.agent (stream_of given_steps random) r emitted new.agent left → code ≡ done_code r
          → new.monitor ≡ monitor_timed r (agent_time now) new.agent old.monitor → Seen (used (HandleTimeout now random) code ∷ before) new
      by (Err e) emitted left times coded is =
          seen_kept (used (HandleTimeout now random) code) before old new (same_of old.agent new.agent times.2) (ap (λ m. m.seen.0) is) forward s
      by (Ok o) emitted left times coded is =
          let seen : new.monitor.seen.0 ≡ agent_time now = ap (λ m. m.seen.0) is in
          let was = s.clock in
          let grows : old.monitor.seen.0 ≤ new.monitor.seen.0 = omega (arith, seen, was, forward) in
          record {
            last = λ at last_is. elim (timeout-timed mac_of answers (agent_time now) old.agent new.agent (stream_of given_steps random) left
                (record { answer = answer_by done (Ok o); emitted = emitted }) (Ok o, emitted, refl, times)) as (λ _. (at ≤ new.monitor.seen.0) × IsNoted at (used (HandleTimeout now random) code ∷ before)) [
                  | inl now_is ↦ (let same : agent_time now ≡ at = time_is (agent_time now) at (sym now_is ∙ last_is) in
                      (omega (arith, same, seen), (used (HandleTimeout now random) code, inl refl, now, (random, refl, coded), sym same)))
                  | inr stays ↦ (let k = s.last at (sym stays.1 ∙ last_is) in let le = k.0 in let noted = k.1 in
                      (omega (arith, le, grows), (noted.0, inr noted.1, noted.2, noted.3, noted.4)))
                ];
            clock = omega (arith, seen);
          }
seen_after (HandlePacket now protocol source destination bytes) code before old new h forward s =
    let same = same_clocks (HandlePacket now protocol source destination bytes) code old new h refl in
    let was = s.clock in
    elim (received now bytes (packet_path protocol source destination) code old new h).1 as (λ _. Seen (used (HandlePacket now protocol source destination bytes) code ∷ before) new) [
      | inl is ↦ seen_kept (used (HandlePacket now protocol source destination bytes) code) before old new same is forward s
      | inr is ↦ seen_later (used (HandlePacket now protocol source destination bytes) code) before old new same (omega (arith, is, was, forward)) (omega (arith, is)) s
    ]
seen_after (FixTimes soon) code before old new (polled, polls, coded, is) forward s =
    seen_kept (used (FixTimes soon) code) before old new (same_clocks (FixTimes soon) code old new (polled, polls, coded, is) refl) (ap (λ (h : HeldRecord). h.monitor.seen.0) is) forward s
seen_after export code before old new h forward s =
    seen_kept (used export code) before old new (same_clocks export code old new h refl) (leaves export code old new h refl).1 forward s

pub seen : (creds : IceCreds) (tie_breaker : ℕ) (uses : List Used) (held : HeldRecord) → Session (fresh_held creds tie_breaker) uses held → AreInOrder uses → Seen uses held
seen creds tie_breaker [] held is order = subst (λ (h : HeldRecord). Seen [] h) (sym is) (record { last = λ at none. no_time at none; clock = omega arith })
seen creds tie_breaker (u ∷ before) held (mid, session, does) (forward, order) =
    seen_after u.export u.code before mid held does (search forward) (seen creds tie_breaker before mid session order)

-- ---- the time that is returned

sooner_within : (a : Held) (advance seen at : ℕ) (silent : Option ℕ) → CHARGE ≤ advance → ((last : ℕ) → a.last_time ≡ Some last → last ≤ seen) → IsWithinCredit a at
    → IsWithinCredit a (option_map_or (λ s. min at (max s (later seen advance))) silent at)
sooner_within a advance seen at None slow known within = within
sooner_within a advance seen at (Some s) slow known within = λ last is. (let le = known last is in
    within_min last a.charged_until at (max s (later seen advance)) (within last is) (inl (omega (arith, le, slow))))

-- the caller's time of it, and the agent's time of that
there_and_back : (at : ℕ) → min at MAX ≤ agent_time (caller_time at)
there_and_back at = omega arith

returned_from : (held : HeldRecord) (before at : ℕ) (deadline : Option ℕ) → CHARGE ≤ held.agent.timing_advance
    → ((last : ℕ) → held.agent.last_time ≡ Some last → last ≤ held.monitor.seen.0) → Keeps held.agent deadline
    → WritesTime (next_call_of held deadline) before at OK → IsWithinCredit held.agent (agent_time at)
returned_from held before at None slow known within writes = never (sym (ap is_ok writes.0))
returned_from held before at (Some d) slow known within writes = λ last is.
    let called = next_call held.agent.timing_advance held.monitor d in
    let so = sooner_within held.agent held.agent.timing_advance held.monitor.seen.0 d (silence_deadline held.monitor) slow known within in
    subst (λ (n : ℕ). Within last held.agent.charged_until (agent_time n)) (sym writes.1)
    (within_by last held.agent.charged_until called (agent_time (caller_time called)) (there_and_back called) (so last is))

module _ (turn : Turns) (law : Set) (creds : IceCreds) (tie_breaker : ℕ) where
  pub returned : (uses : List Used) (held after : HeldRecord) (was at : ℕ) → From turn law creds tie_breaker uses held → EachKeeps keeps_pace uses → AreInOrder uses
      → Does (PollTimeout was at) held OK after → IsWithinCredit held.agent (agent_time at)
  returned uses held after was at session each order does =
      let s = seen creds tie_breaker uses held session order in
      let k : WritesTime (next_call_of held held.deadline) was at OK × (after ≡ held) =
      subst (λ (b : Bool). MatchBool b (WritesTime (next_call_of held held.deadline) was at OK × (after ≡ held)) (PollsAgent was at held OK after))
      (paced turn law creds tie_breaker uses held session each).0 does in
      returned_from held was at held.deadline (charged turn law creds tie_breaker uses held session each) (λ last is. (s.last last is).0)
      (deadlines turn law creds tie_breaker uses held session each) k.0

  -- a caller who goes by it
  pub credited : (uses : List Used) (held : HeldRecord) → From turn law creds tie_breaker uses held → EachKeeps keeps_pace uses → AreInOrder uses
      → (now : ℕ) → Since is_timed (λ v _. LetsCall now v) uses → IsWithinCredit held.agent (agent_time now)
  credited [] held session each order now since = absurd since
  credited (u ∷ before) held (mid, session, does) each (forward, order) now (inl (inl (was, at, export, ok, le))) =
      let asked : u.export ≡ PollTimeout was at = search export in
      let fine : u.code ≡ OK = search ok in
      let polls : Does (PollTimeout was at) mid OK held =
      subst (λ (c : ℤ). Does (PollTimeout was at) mid c held) fine (subst (λ (e : Use). Does e mid u.code held) asked does) in
      let within = returned before mid held was at session (rest_of keeps_pace u before each) order polls in
      let passed : at ≤ now = search le in
      transfer mid.agent held.agent (agent_time now) (same_clocks (PollTimeout was at) OK mid held polls refl)
      (λ last is. within-later last mid.agent.charged_until (agent_time at) (agent_time now) (omega (arith, passed)) (within last is))
  credited (u ∷ before) held (mid, session, does) each (forward, order) now (inl (inr (at, (random, export, ok), gone))) = λ last is.
      let s = seen creds tie_breaker (u ∷ before) held (mid, session, does) (forward, order) in
      let le = (s.last last is).0 in
      let clock = s.clock in
      let called : u.export ≡ HandleTimeout at random = search export in
      let at_is : time_of (u ∷ before) ≡ at = ap (λ (e : Use). time_after (time_of before) e) called in
      inl (omega (arith, le, clock, at_is, gone))
  credited (u ∷ before) held (mid, session, does) each (forward, order) now (inr (other, since)) =
      transfer mid.agent held.agent (agent_time now) (same_untimed u.export u.code mid held does (search other))
      (credited before mid session (rest_of keeps_pace u before each) order now since)

pub deadlines_keep : Turns → Set → DeadlinesKeepCredit
deadlines_keep turn law creds tie_breaker uses held session each = search (deadlines turn law creds tie_breaker uses held (search session) (search each))

pub returned_keep : Turns → Set → ReturnedTimesKeepCredit
returned_keep turn law creds tie_breaker uses held after was at session each order does =
    search (returned turn law creds tie_breaker uses held after was at (search session) (search each) (search order) (search does))
