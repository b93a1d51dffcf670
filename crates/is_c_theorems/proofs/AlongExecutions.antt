-- What the theorems on executions say of C's calls. What mutants/specifications changes is read by tactics.
use Rattle.std.proofs.lemmas.List.{length-append}
use Rattle.is_rules.specs.declared.event.IceConnectionState.TheVariants.{New}
use Rattle.is_rules.specs.Steps as agent
use Rattle.is_theorems.specs.Bounds.{IsWithin}
use Rattle.is_theorems.specs.ConsentExecutions.{AreNeverLite, ConnectedAreAnswered, IsAliveBy, IsConnectedAfter}
use Rattle.is_theorems.specs.ConsentLogs.{IsConnectedAt}
use Rattle.is_theorems.specs.Limited.{ListsStayBounded, DiscoveriesStayFew, IsLimitedAt}
use Rattle.is_theorems.specs.Runs.{IsFresh}
use Rattle.is_theorems.specs.Waiting.{QueuesAreShort}
use Rattle.is_c_theorems.specs.Headline.{UnacceptedChangeNothing}
use Rattle.is_c_theorems.proofs.Common.{[], ◌&&◌, ◌++◌, ◌+◌, ◌∙◌, ◌∷◌, ◌≡◌, ◌≤◌, ◌⊎◌, AcceptsOn, all_settings_of, answers, ap, arith}
use Rattle.is_c_theorems.proofs.Common.{BeforeEach, Bool, Call, calls_onto, ConnectedAreAlive, ConnectedHavePath, DISCOVERED_LIMIT, Does}
use Rattle.is_c_theorems.proofs.Common.{EachKeeps, EachQueuesOne, Entry, Err, Execution, false, Followed, Follows, HandlesDatagram, Has}
use Rattle.is_c_theorems.proofs.Common.{Held, HeldRecord, IceCreds, if◌then◌else◌, inl, inr, is_done, is_eligible, is_idle, is_modern}
use Rattle.is_c_theorems.proofs.Common.{is_modern_profile, is_ok, is_waiting, IsAgreed, IsControlledSince, IsLogOf, IsModernAlong}
use Rattle.is_c_theorems.proofs.Common.{IsNewlyCreated, IsNominationPoint, IsPolled, IsQueued, Issued, IsUsed, keeps_consent, keeps_limit}
use Rattle.is_c_theorems.proofs.Common.{keeps_modern, KeepsRest, last_selected, length, List, lite_set_by, Logged, mac_of, modern_consent}
use Rattle.is_c_theorems.proofs.Common.{modern_settings, NeverLite, newborn, NextTimeoutFrom, None, OK, Ok, onto_is, Option, Packet}
use Rattle.is_c_theorems.proofs.Common.{packet_path, PairRecord, Path, path_of, PathsAreAnswered, PathsAreFirstChoice}
use Rattle.is_c_theorems.proofs.Common.{PathsAreNominatedByPeer, Preference, profile_of, QueuesPackets, QueuesTheorem, refl, selected_along}
use Rattle.is_c_theorems.proofs.Common.{SelectionsAreAnswered, SelectionsAreNominatedSince, SelectionsAreTop, SetSettings, Settings}
use Rattle.is_c_theorems.proofs.Common.{settings_along, settings_of, settings_onto, SettingsAreSet, Some, StatesAgree, StaysBounded, Step}
use Rattle.is_c_theorems.proofs.Common.{subst, suc, sym, true, Use, Used, ℕ, ℤ}
use Rattle.is_c_theorems.proofs.CallsAsSteps.{never, either, one, error_bad}
use Rattle.is_c_theorems.proofs.LogsOfCalls.{Ran}
use Rattle.is_c_theorems.proofs.SettingsOfCalls.{Log, Chosen, IsModern, along, begins, settings_last, settings_now, modern_by, rest_of}
use Rattle.is_c_theorems.proofs.SettingsOfCalls.{new_settings, never_lite, modern_log, modern_full, consent_full, consent_by, limit_by}

abbrev pub Set : Type 0
Set = SettingsAreSet {H = _} {P = Preference} mac_of answers

pub full_log : (uses : List Used) (log : Log) → IsLogOf uses log → EachKeeps keeps_modern uses → NeverLite log
full_log uses log logs each = never_lite keeps_modern modern_full new_settings refl uses log logs each

-- ---- the profile `Modern` along a log

module _ (creds : IceCreds) (tie_breaker : ℕ) where
  abbrev pub born : Held
  born = newborn creds tie_breaker

  pub is_born : IsFresh born
  is_born = (creds, tie_breaker, refl)

  pub is_new : IsNewlyCreated born
  is_new = (creds, tie_breaker, false, refl)

  abbrev pub first_set : Chosen
  first_set = all_settings_of born

  -- the profile is `Modern` after the log, or the log is empty
  abbrev pub IsReady : Log → Type 0
  IsReady log = (log ≡ []) ⊎ IsModern (settings_along first_set log)

  abbrev pub ReadyAlong : Log → Type 0
  ReadyAlong [] = Unit {0}
  ReadyAlong (x ∷ before) = IsReady before × ReadyAlong before

  set_ready : (settings : Settings) (before : Log) → is_modern_profile settings.profile ≡ true → IsReady before → ReadyAlong before → ReadyAlong (settings_onto settings before)
  set_ready settings before is ready others =
      (inr is, (inr is, (inr is, (inr is, (inr is, (inr is, (inr is, (inr is, (inr is, (inr is, (ready, others)))))))))))

  modern_after : (uses : List Used) (log : Log) → IsLogOf uses log → EachKeeps keeps_modern uses → IsModern (settings_along first_set log)
  modern_after uses log logs each =
      subst (λ (k : Chosen). IsModern k) (sym (along uses log first_set logs)) (modern_by uses (begins first_set) each refl)

  pub ready_along : (uses : List Used) (log : Log) → IsLogOf uses log → EachKeeps keeps_modern uses → ReadyAlong log
  ready_along [] log is each = subst (λ (l : Log). ReadyAlong l) (sym is) (set_ready modern_settings [] refl (inl refl) tt)
  ready_along (u ∷ before) log (inl (none, logs)) each = ready_along before log logs (rest_of keeps_modern u before each)
  ready_along (u ∷ before) log (inr (rest, inl (x, is, of), logs)) each =
      let kept = rest_of keeps_modern u before each in
      subst (λ (l : Log). ReadyAlong l) (sym is) (inr (modern_after before rest logs kept), ready_along before rest logs kept)
  ready_along (u ∷ before) log (inr (rest, inr (s, export, ok, is), logs)) each =
      let kept = rest_of keeps_modern u before each in
      let export_is : u.export ≡ SetSettings s = search export in
      let chosen : s.modern ≡ true = subst (λ (e : Use). keeps_modern e ≡ true) export_is (each u (inl refl)) in
      subst (λ (l : Log). ReadyAlong l) (sym is)
      (set_ready (settings_of s) rest (ap (λ (b : Bool). is_modern_profile (profile_of b)) chosen) (inr (modern_after before rest logs kept)) (ready_along before rest logs kept))

  module _ (law : Set) where
    -- ---- as an execution, oldest call first, with the profile of each state

    abbrev Goes : List (Call Preference × Entry) → Held → Held → Type 0
    Goes xs old new = (execution : Execution mac_of answers xs old new) × IsModernAlong mac_of answers xs old new execution

    ready_state : (log : Log) (a : Held) → Ran born log a → IsReady log → (a.state ≡ New) ⊎ (is_modern a.timing ≡ true)
    ready_state log a run (inl none) = inl (ap (λ (b : Held). b.state) (subst (λ (l : Log). Ran born l a) none run))
    ready_state log a run (inr is) =
        inr (ap (λ (k : Chosen). is_modern_profile k.settings.profile) (settings_last law born a log run) ∙ is)

    goes_on : (log : Log) (last : Held) → Ran born log last → ReadyAlong log → (more : List (Call Preference × Entry)) (end : Held) → Goes more last end
        → Goes (calls_onto log more) born end
    goes_on [] last run ready more end goes = subst (λ (a : Held). Goes more a end) run goes
    goes_on (x ∷ before) last (mid, s, t, run, given, step) (here, others) more end (execution, modern) =
        goes_on before mid run others ((x.call, x.entry) ∷ more) end ((last, s, t, given, step, execution), (ready_state before mid run here, modern))

    pub gone : (uses : List Used) (log : Log) (last : Held) → IsLogOf uses log → EachKeeps keeps_modern uses → Ran born log last → Goes (calls_onto log []) born last
    gone uses log last logs each run = goes_on log last run (ready_along uses log logs each) [] last (refl, tt)

pub onto_selected : (xs : Log) (more : List (Call Preference × Entry)) → selected_along None (calls_onto xs more) ≡ selected_along (last_selected xs) more
onto_selected [] more = refl
onto_selected (x ∷ older) more = onto_selected older ((x.call, x.entry) ∷ more)

never_has : (xs : Log) (x : Logged Preference) → NeverLite xs → Has xs x → lite_set_by x.call false ≡ false
never_has [] x none has = absurd has
never_has (y ∷ older) x none (inl is) = subst (λ (z : Logged Preference). lite_set_by z.call false ≡ false) is none.0
never_has (y ∷ older) x none (inr has) = never_has older x none.1 has

onto_never : (xs : Log) → NeverLite xs → AreNeverLite (calls_onto xs [])
onto_never xs none y has = elim (onto_is xs [] y has) [
  | inl (x, there, is) ↦ subst (λ (z : Call Preference × Entry). lite_set_by z.0 false ≡ false) is (never_has xs x none there)
  | inr wrong_ ↦ absurd wrong_
]

-- ---- paths

pub answered : SelectionsAreAnswered {H = _} {P = Preference} mac_of answers → PathsAreAnswered
answered law uses before x held used each path has =
    let known : IsUsed uses (x ∷ before) held = search used in
    let kept : EachKeeps keeps_modern uses = search each in
    let selected : Has x.entry.emitted.selected_paths (Some path) = search has in
    search (law (newborn known.creds known.tie_breaker) held.agent x before (is_new known.creds known.tie_breaker) (full_log uses (x ∷ before) known.logs kept)
    known.run path selected)

pub asked : SelectionsAreNominatedSince {H = _} {P = Preference} mac_of answers → PathsAreNominatedByPeer
asked law uses before x held used each controlled path has =
    let kept : EachKeeps keeps_modern uses = search each in
    let calm : IsControlledSince mac_of answers (newborn used.creds used.tie_breaker) (x ∷ before) held.agent used.run = search controlled in
    let selected : Has x.entry.emitted.selected_paths (Some path) = search has in
    search (law (newborn used.creds used.tie_breaker) held.agent x before (is_new used.creds used.tie_breaker) (full_log uses (x ∷ before) used.logs kept)
    (modern_log uses (x ∷ before) used.logs kept) used.run calm path selected)

pub first_choice : SelectionsAreTop {H = _} {P = Preference} mac_of answers → PathsAreFirstChoice
first_choice law uses before x held used nominates p has is =
    let point : IsNominationPoint used.run.0 x.call x.entry = search nominates in
    let there : Has held.agent.pairs p = search has in
    let able : is_eligible held.agent.controlling p ≡ true = search is in
    search (law (newborn used.creds used.tie_breaker) held.agent x before (is_new used.creds used.tie_breaker) used.run point p there able)

pub connected_have_path : Set → StatesAgree {H = _} {P = Preference} mac_of answers → ConnectedHavePath
connected_have_path law agree uses log held used each =
    let known : IsUsed uses log held = search used in
    let kept : EachKeeps keeps_modern uses = search each in
    let k = gone known.creds known.tie_breaker law uses log held.agent known.logs kept known.run in
    search (subst (λ (path : Option Path). IsAgreed path held.agent) (onto_selected log [])
    (agree (newborn known.creds known.tie_breaker) held.agent (calls_onto log []) (is_born known.creds known.tie_breaker)
    (onto_never log (full_log uses log known.logs kept)) k.0 k.1))

-- ---- bounds

module _ (creds : IceCreds) (tie_breaker : ℕ) (law : Set) where
  abbrev Limited : (log : Log) (last : Held) → Ran (newborn creds tie_breaker) log last → Type 0
  Limited log last run = BeforeEach mac_of answers (IsLimitedAt DISCOVERED_LIMIT) (newborn creds tie_breaker) log last run

  within : DISCOVERED_LIMIT ≤ DISCOVERED_LIMIT
  within = omega arith

  limited : (uses : List Used) (log : Log) (last : Held) → IsLogOf uses log → EachKeeps keeps_limit uses → (run : Ran (newborn creds tie_breaker) log last) → Limited log last run
  limited [] log last is each run = subst (λ (l : Log). (r : Ran (newborn creds tie_breaker) l last) → Limited l last r) (sym is) first run where
    first : (r : Ran (newborn creds tie_breaker) (settings_onto modern_settings []) last) → Limited (settings_onto modern_settings []) last r
    first r = (λ w. never w, (λ w. never w, (λ w. never w, (λ w. never w, (λ w. never w, (λ w. never w, (λ w. never w, (λ w. never w, (λ w. never w, (λ w. never w, (λ w. never w, tt)))))))))))
  limited (u ∷ before) log last (inl (none, logs)) each run = limited before log last logs (rest_of keeps_limit u before each) run
  limited (u ∷ before) log last (inr (rest, inl (x, is, of), logs)) each run =
      subst (λ (l : Log). (r : Ran (newborn creds tie_breaker) l last) → Limited l last r) (sym is) (by (λ a r. limited before rest a logs (rest_of keeps_limit u before each) r)) run where
        by : ((a : Held) (r : Ran (newborn creds tie_breaker) rest a) → Limited rest a r) → (r : Ran (newborn creds tie_breaker) (x ∷ rest) last) → Limited (x ∷ rest) last r
        by on (mid, s, t, earlier, given, step) = (
          λ _. subst (λ (o : Option ℕ). IsWithin DISCOVERED_LIMIT o)
              (sym (limit_by before (all_settings_of (newborn creds tie_breaker)) mid (rest_of keeps_limit u before each) (settings_now law creds tie_breaker before rest mid logs earlier))) within,
          on mid earlier,
        )
  limited (u ∷ before) log last (inr (rest, inr (s, export, ok, is), logs)) each run =
      never (subst (λ (e : Use). keeps_limit e ≡ true) export (each u (inl refl)))

pub bounded : Set → ListsStayBounded {H = _} {P = Preference} mac_of answers → DiscoveriesStayFew {H = _} {P = Preference} mac_of answers
    → QueuesAreShort {H = _} {P = Preference} mac_of answers → StaysBounded
bounded law lists few short uses log held used each =
    let new = is_new used.creds used.tie_breaker in
    let within_limit = limited used.creds used.tie_breaker law uses log held.agent used.logs each used.run in (
      search (lists DISCOVERED_LIMIT (newborn used.creds used.tie_breaker) held.agent log new used.run within_limit),
      search (few DISCOVERED_LIMIT (newborn used.creds used.tie_breaker) held.agent log new used.run within_limit),
      search (short (newborn used.creds used.tie_breaker) held.agent log new used.run),
    )

-- ---- consent

execution_of : (log : Log) (first last : Held) → Ran first log last → (more : List (Call Preference × Entry)) (end : Held)
    → Execution mac_of answers more last end → Execution mac_of answers (calls_onto log more) first end
execution_of [] first last run more end execution = subst (λ (a : Held). Execution mac_of answers more a end) run execution
execution_of (x ∷ before) first last (mid, s, t, run, given, step) more end execution =
    execution_of before first mid run ((x.call, x.entry) ∷ more) end (last, s, t, given, step, execution)

onto_after : (xs : Log) (more ys : List (Call Preference × Entry)) → calls_onto xs more ++ ys ≡ calls_onto xs (more ++ ys)
onto_after [] more ys = refl
onto_after (x ∷ older) more ys = onto_after older ((x.call, x.entry) ∷ more) ys

same_path : (before : Log) (x : Logged Preference) (now : ℕ) → x.call ≡ agent.HandleTimeout now
    → selected_along None (calls_onto before [] ++ (agent.HandleTimeout now, x.entry) ∷ []) ≡ last_selected (x ∷ before)
same_path before x now is =
    subst (λ (c : Call Preference). selected_along None (calls_onto before [] ++ (c, x.entry) ∷ []) ≡ last_selected (x ∷ before)) is
    (ap (λ (ys : List (Call Preference × Entry)). selected_along None ys) (onto_after before [] ((x.call, x.entry) ∷ []))
    ∙ onto_selected before ((x.call, x.entry) ∷ []))

pub alive : Set → ConnectedAreAnswered {H = _} {P = Preference} mac_of answers → ConnectedAreAlive
alive law answered_by uses before x held now used each k = search (by used.run (search k)) where
  by : (run : Ran (newborn used.creds used.tie_breaker) (x ∷ before) held.agent) → IsConnectedAt now run.0 x held.agent
      → (p : PairRecord) × Has held.agent.pairs p × IsAliveBy modern_consent now p × (last_selected (x ∷ before) ≡ Some (path_of held.agent p))
  by (mid, s, t, earlier, given, step) is =
      let c : IsConnectedAfter mac_of answers (calls_onto before []) now x.entry held.agent = record {
        first = newborn used.creds used.tie_breaker;
        near = mid;
        fresh = is_born used.creds used.tie_breaker;
        execution = execution_of before (newborn used.creds used.tie_breaker) mid earlier [] mid refl;
        drawn = s;
        left = t;
        step = subst (λ (c : Call Preference). Step mac_of answers mid s c x.entry held.agent t) is.call step;
        done = is.done;
        unqueued = is.unqueued;
        full = is.full;
        connected = is.connected;
      } in
      let never_ = onto_never before (never_lite keeps_consent consent_full new_settings refl uses (x ∷ before) used.logs each).1 in
      let consent = consent_by uses (all_settings_of (newborn used.creds used.tie_breaker)) held.agent each
      (settings_now law used.creds used.tie_breaker uses (x ∷ before) held.agent used.logs (mid, s, t, earlier, given, step)) in
      let found = answered_by (calls_onto before []) now x.entry held.agent modern_consent c never_ consent in
      (found.0, found.1, found.2, sym (same_path before x now is.call) ∙ found.3)

-- ---- packets

same_held_agent : (old new : HeldRecord) → new.agent ≡ old.agent → KeepsRest old new → new ≡ old
same_held_agent old new a (w, m, d, f) =
    ap (λ (x : Held). record new { agent = x }) a
    ∙ (ap (λ x. record new { agent = old.agent; waiting = x }) w
    ∙ (ap (λ x. record old { deadline = x; monitor = new.monitor; failures = new.failures }) d
    ∙ (ap (λ x. record old { monitor = x; failures = new.failures }) m
    ∙ ap (λ x. record old { failures = x }) f)))

bad : (code why : ℤ) → code ≡ why → is_ok why ≡ false → ¬ (code ≡ OK)
bad code why is wrong_ ok = never (sym wrong_ ∙ (ap is_ok (sym is) ∙ ap is_ok ok))

pub unaccepted : UnacceptedChangeNothing
unaccepted old new code now protocol source destination bytes does not_accepted = search (by (packet_path protocol source destination) does none) where
  none : ¬ AcceptsOn mac_of old.agent (packet_path protocol source destination) bytes
  none = search not_accepted

  by : (path : Option Path) → HandlesDatagram mac_of now path bytes old code new → ¬ AcceptsOn mac_of old.agent path bytes → (new ≡ old) × ¬ (code ≡ OK)
  by None (is, same) wrong_ = (same, bad code _ is refl)
  by (Some path) (inl (fault, fails, (is, same))) wrong_ = (same, bad code _ is refl)
  by (Some path) (inr (m, reads, (Ok true, (emitted, (accepted, handles), coded, kept)))) wrong_ = absurd (wrong_ (m, reads, accepted))
  by (Some path) (inr (m, reads, (Ok false, (emitted, (no_one, nothing, made), coded, kept)))) wrong_ = (same_held_agent old new made kept, bad code _ coded refl)
  by (Some path) (inr (m, reads, (Err error, (emitted, (may, nothing, made), coded, kept)))) wrong_ = (same_held_agent old new made kept, bad code _ coded (error_bad error))

uses_one : QueuesTheorem {H = _} {P = Preference} mac_of answers → (export : Use) (old new : HeldRecord) (code : ℤ) → Does export old code new
    → length new.agent.packets ≤ suc (length old.agent.packets)
uses_one queues export old new code does = elim (one 0 export code old new does) as (λ _. length new.agent.packets ≤ suc (length old.agent.packets)) [
  | inl (same, none) ↦ stays (ap (λ (a : Held). length a.packets) same)
  | inr (inl (x, s, t, of, given, step)) ↦ by x.call x.entry (queues old.agent new.agent s t x.call x.entry step).0
  | inr (inr all) ↦ stays (ap (λ (a : Held). length a.packets) all.sets)
] where
  stays : length new.agent.packets ≡ length old.agent.packets → length new.agent.packets ≤ suc (length old.agent.packets)
  stays is = omega (arith, is)

  grows : (o : Option Issued) (a b : List Packet) → IsQueued o a b → length b ≤ suc (length a)
  grows None a b is = let k : length b ≡ length a = ap (λ (l : List Packet). length l) is in omega (arith, k)
  grows (Some issued) a b (p, via, is) =
      let k : length b ≡ length (a ++ p ∷ []) = ap (λ (l : List Packet). length l) is in
      let l : length (a ++ p ∷ []) ≡ length a + length (p ∷ []) = length-append a (p ∷ []) in omega (arith, k, l)

  polled : (given : Option Packet) (a b : List Packet) → IsPolled a given b → length b ≤ suc (length a)
  polled None a b (x, y) = let k : length b ≡ 0 = ap (λ (l : List Packet). length l) y in omega (arith, k)
  polled (Some p) a b is = let k : length a ≡ suc (length b) = ap (λ (l : List Packet). length l) is in omega (arith, k)

  emptied : (b : Bool) (a c : List Packet) → c ≡ (if b then [] else a) → length c ≤ suc (length a)
  emptied true a c is = let k : length c ≡ 0 = ap (λ (l : List Packet). length l) is in omega (arith, k)
  emptied false a c is = let k : length c ≡ length a = ap (λ (l : List Packet). length l) is in omega (arith, k)

  by : (call : Call Preference) (e : Entry) → QueuesPackets call e old.agent.packets new.agent.packets → length new.agent.packets ≤ suc (length old.agent.packets)
  by agent.PollTransmit e (given, is, h) = polled given old.agent.packets new.agent.packets h
  by (agent.RestartIce creds keep) e (none, h) = emptied (is_done e.answer) old.agent.packets new.agent.packets h
  by _ e h = grows e.emitted.issued old.agent.packets new.agent.packets h

-- what follows a call queues none
none_queued : (last : Option ℕ) (old new : Held) (deadline : Option ℕ) → NextTimeoutFrom last old deadline new → new.packets ≡ old.packets
none_queued None old new deadline (none, is) = ap (λ (a : Held). a.packets) is
none_queued (Some last) old new None h = absurd h
none_queued (Some last) old new (Some at) h = either (is_waiting old)
    (λ (soon, k). either (is_modern old.timing) (λ is. ap (λ (a : Held). a.packets) is) (λ is. ap (λ (a : Held). a.packets) is) k)
    (λ k. either (is_idle old) (λ l. ap (λ (a : Held). a.packets) l.1) (λ l. ap (λ (a : Held). a.packets) l.1) k) h

follows_none : (soon : Bool) (code : ℤ) (mid new : HeldRecord) → Follows soon code mid new → new.agent.packets ≡ mid.agent.packets
follows_none soon code mid new h = either (is_ok code && is_modern mid.agent.timing)
    (λ (deadline, polls, coded, is). none_queued mid.agent.last_time mid.agent new.agent deadline polls)
    (λ is. ap (λ (x : HeldRecord). x.agent.packets) is) h

followed_one : QueuesTheorem {H = _} {P = Preference} mac_of answers → (soon : HeldRecord → HeldRecord → Bool) (export : Use) (old new : HeldRecord) (code : ℤ)
    → Followed soon export old code new → length new.agent.packets ≤ suc (length old.agent.packets)
followed_one queues soon export old new code (mid, does, follows) =
    let one_more : length mid.agent.packets ≤ suc (length old.agent.packets) = uses_one queues export old mid code does in
    let same : length new.agent.packets ≡ length mid.agent.packets = ap (λ (ps : List Packet). length ps) (follows_none (soon old mid) code mid new follows) in
    subst (λ (n : ℕ). n ≤ suc (length old.agent.packets)) (sym same) one_more

pub queues_one : QueuesTheorem {H = _} {P = Preference} mac_of answers → EachQueuesOne
queues_one queues soon export old new code (inl does) = search (uses_one queues export old new code does)
queues_one queues soon export old new code (inr followed) = search (followed_one queues soon export old new code (search followed))
