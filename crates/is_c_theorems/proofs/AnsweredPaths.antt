-- Each path that C gets by a `NominatedSend` was answered, by bytes that C passed. What mutants/specifications changes is read by tactics.
use Rattle.is_proto.specs.Packets as packets
use Rattle.is_stun.specs.declared.header.Class.TheVariants as class
use Rattle.is_rules.specs.Steps as agent
use Rattle.is_theorems.specs.Polled as polled
use Rattle.is_c_theorems.specs.Headline.{Answers, SelectedAreAnswered}
use Rattle.is_c_theorems.proofs.Common.{[], ◌∙◌, ◌∷◌, ◌≡◌, AllAreSetInTurn, Answer, Answered, answers, ap, Bool, Brings, Call, Class}
use Rattle.is_c_theorems.proofs.Common.{clears, clears_at, DefaultSha1HmacProvider, Does, Done, EachKeeps, Entry, false, FreshIsSound, Gets}
use Rattle.is_c_theorems.proofs.Common.{Has, Held, HeldRecord, IceCreds, if◌then◌else◌, inl, inr, is_clear, IsAnsweredBy, IsChecked}
use Rattle.is_c_theorems.proofs.Common.{IsCheckIn, IsIssued, IsLogOf, IsSent, IsSound, Issued, issued_as, keeps_modern, length, List}
use Rattle.is_c_theorems.proofs.Common.{Logged, mac_of, Message, modern_settings, newborn, None, numbering-in, numbering_of, numbering_set}
use Rattle.is_c_theorems.proofs.Common.{numbering_set_by, Option, Path, PathTheorem, Preference, QueuesTheorem, quiet, refl}
use Rattle.is_c_theorems.proofs.Common.{removes_selections, Says, SelectedSince, setters_of, setters_onto, Settings, settings_along}
use Rattle.is_c_theorems.proofs.Common.{settings_of, settings_onto, Since, Some, Step, Stream, subst, sym, TradeTheorem, Used, via_out}
use Rattle.is_c_theorems.proofs.Common.{WaitingAreAnswered, ℕ}
use Rattle.is_c_theorems.proofs.AlongExecutions.{is_new, full_log, first_set, ReadyAlong, ready_along}
use Rattle.is_c_theorems.proofs.LogsOfCalls.{Ran, Walk, walk, log_is, run_is}
use Rattle.is_c_theorems.proofs.SeenCalls.{peers, not_cleared, idle_clear, set_clear, no_restart, accepts, none_brought}
use Rattle.is_c_theorems.proofs.SettingsOfCalls.{Log, Chosen, IsModern}
use Rattle.is_c_theorems.proofs.WaitingPackets.{is_polling, not_poll, kept_packets, carry_queue}
use Rattle.is_c_theorems.proofs.PolledPaths.{waited}

abbrev pub Turn : Type 0
Turn = AllAreSetInTurn {H = _} {P = Preference} mac_of answers

abbrev pub setter : Call Preference → Log → Logged Preference
setter call log = record { number = length log; call = call; entry = quiet Done }

-- ---- answered since the last clear

-- a clear is a restart, or it is none
not_restart : (call : Call Preference) (a : Answer) → clears call a ≡ false → polled.restarts call a ≡ false
not_restart (agent.RestartIce creds keep) a is = is
not_restart _ a is = refl

none_selected : {Z : Type 0} (e : Entry) (answer : Answer) (path : Path) → e ≡ quiet answer → Has e.emitted.selected_paths (Some path) → Z
none_selected e answer path is has = elim (subst (λ (x : Entry). Has x.emitted.selected_paths (Some path)) is has) [
  | inl none ↦ let wrong_ : None ≡ Some path = none in absurd (cc)
  | inr (inl none) ↦ let wrong_ : None ≡ Some path = none in absurd (cc)
  | inr (inr none) ↦ absurd none
]

-- a call that selects a path is no clear
not_clear : (old new : Held) (s t : Stream) (call : Call Preference) (e : Entry) (path : Path) → Step mac_of answers old s call e new t
    → Has e.emitted.selected_paths (Some path) → clears call e.answer ≡ false
not_clear old new s t (agent.RestartIce creds keep) e path (r, is, does, drawn) has = none_selected e _ path is has
not_clear old new s t agent.RecreateCandidatePairs e path (r, is, does, drawn) has = none_selected e _ path is has
not_clear old new s t _ e path step has = refl

-- the profile, as the log set it last
profile_is : (k : Chosen) (log : Log) → numbering-in k ≡ (false, false) → numbering_of log ≡ numbering-in (settings_along k log)
profile_is k [] new = sym new
profile_is k (x ∷ before) new =
    ap (λ (set : Bool × Bool). numbering_set_by x.call set) (profile_is k before new) ∙ sym (numbering_set x.call x.entry.answer (settings_along k before))

module _ (creds : IceCreds) (tie_breaker : ℕ) where
  abbrev Selected : Log → Path → Type 0
  Selected log path = SelectedSince (λ x before. IsAnsweredBy mac_of (record {}) x before path) log path

  -- with `Modern` what clears no pairs removes no event
  none_cleared : (x : Logged Preference) (before : Log) → IsModern (settings_along (first_set creds tie_breaker) before) → removes_selections x before ≡ false → clears_at x ≡ false
  none_cleared x before is none =
      subst (λ (modern : Bool). (if modern then clears_at x else polled.restarts x.call x.entry.answer) ≡ false)
      (ap (λ (set : Bool × Bool). set.1) (profile_is (first_set creds tie_breaker) before refl) ∙ is) none

  since : (last : Held) (log : Log) (path : Path) → Ran (newborn creds tie_breaker) log last → ReadyAlong creds tie_breaker log → Selected log path
      → Answered mac_of (record {}) log path
  since last [] path run ready none = none
  since last (x ∷ before) path (mid, s, t, run, given, step) ready (inl (now, inl here)) = inl here
  since last (x ∷ before) path (mid, s, t, run, given, step) ready (inl (now, inr earlier)) = inr (not_clear mid last s t x.call x.entry path step now, earlier)
  since last (x ∷ before) path (mid, s, t, run, given, step) (inl empty, others) (inr (none, was)) =
      absurd (subst (λ (l : Log). Selected l path) empty was)
  since last (x ∷ before) path (mid, s, t, run, given, step) (inr modern, others) (inr (none, was)) =
      inr (none_cleared x before modern none, since mid before path run others was)

-- ---- setters in turn

-- none of them answers a path, or sends a check
answered_before : (calls : List (Call Preference)) (log : Log) (path : Path) → Answered mac_of (record {}) (setters_onto calls log) path
    → Answered mac_of (record {}) log path
answered_before [] log path answered = answered
answered_before (call ∷ more) log path answered = by (answered_before more (setter call log ∷ log) path answered) where
  by : Answered mac_of (record {}) (setter call log ∷ log) path → Answered mac_of (record {}) log path
  by (inl (at, via, m, peer, brings, binding, success, known, signed, sent, back)) = absurd (none_brought call at via m brings)
  by (inr (none, was)) = was

sent_before : (calls : List (Call Preference)) (log : Log) (path : Path) (id : List ℕ) → IsSent (setters_onto calls log) path id → IsSent log path id
sent_before [] log path id sent = sent
sent_before (call ∷ more) log path id sent = by (sent_before more (setter call log ∷ log) path id sent) where
  by : IsSent (setter call log ∷ log) path id → IsSent log path id
  by (inl is) = let wrong_ : None ≡ Some (issued_as path class.Request id) = is in absurd (cc)
  by (inr (none, was)) = was

-- and none clears
sent_after : (settings : Settings) (log : Log) (path : Path) (id : List ℕ) → IsSent log path id → IsSent (settings_onto settings log) path id
sent_after settings log path id sent =
    inr (refl, inr (refl, inr (refl, inr (refl, inr (refl, inr (refl, inr (refl, inr (refl, inr (refl, inr (refl, inr (refl, sent)))))))))))

-- ---- checks that were sent are given to C, or wait

abbrev class_or : Option Issued → Class
class_or None = class.Request
class_or (Some i) = i.class

abbrev id_or : Option Issued → List ℕ
id_or None = []
id_or (Some i) = i.id.0

is_check : (old new : Held) (call : Call Preference) (e : Entry) (p : packets.Packet) (path : Path) (id : List ℕ) → e.emitted.issued ≡ Some (issued_as path class.Request id)
    → IsIssued mac_of old call e p new.controlling → IsCheckIn p.contents id
is_check old new call e p path id is (m, contents, issued, says) =
    let one_ : m.class ≡ class.Request = ap (λ o. class_or o) (sym issued ∙ is) in
    let two_ : m.id ≡ id = ap (λ o. id_or o) (sym issued ∙ is) in
    (m, (subst (λ (c : Class). Says c old call e p.contents m (via_out p) new.controlling) one_ says).7, one_, two_)

-- a packet is no clear
not_clear_brought : (call : Call Preference) (e : Entry) (at : ℕ) (by : Path) (m : Message) → Brings call e at by m → clears call e.answer ≡ false
not_clear_brought (agent.RestartIce creds keep) e at by m brings = absurd brings
not_clear_brought agent.RecreateCandidatePairs e at by m brings = absurd brings
not_clear_brought _ e at by m brings = refl

carried : (path : Path) (id : List ℕ) (u : Used) (before : List Used) (mid held : HeldRecord) → Does u.export mid u.code held → is_clear u ≡ false
    → (is_polling u.export ≡ false → (p : packets.Packet) → Has mid.agent.packets p → Has held.agent.packets p)
    → IsChecked before mid path id → IsChecked (u ∷ before) held path id
carried path id u before mid held does none on (inl was) = inl (inr (none, was))
carried path id u before mid held does none on (inr (p, has, via, check)) = elim (carry_queue u.export u.code mid held does (no_restart u.export u.code (search none)) on p has) [
  | inl there ↦ inr (p, there, via, check)
  | inr gets ↦ inl (inl (p.contents, subst (λ (to : Path). Gets u to p.contents) via gets, check))
]

abbrev Paths : Type 0
Paths = PathTheorem {H = DefaultSha1HmacProvider} {P = Preference} mac_of answers

abbrev Fresh : Type 0
Fresh = FreshIsSound DefaultSha1HmacProvider Preference

module _ (turn : Turn) (creds : IceCreds) (tie_breaker : ℕ) where
  abbrev Walked : List Used → Log → HeldRecord → Type 0
  Walked uses log held = Walk turn creds tie_breaker uses log held

  sound_run : Paths → Fresh → (log : Log) (last : Held) → Ran (newborn creds tie_breaker) log last → IsSound last
  sound_run law new [] last run = subst (λ (a : Held). IsSound a) (sym run) (new (record {}) creds tie_breaker)
  sound_run law new (x ∷ before) last (mid, s, t, run, given, step) = (law mid last s t x.call x.entry (sound_run law new before mid run) given step).1

  module _ (law : Paths) (new : Fresh) (trade : TradeTheorem {H = _} {P = Preference} mac_of answers) (queues : QueuesTheorem {H = _} {P = Preference} mac_of answers) where
    flow : (uses : List Used) (log : Log) (held : HeldRecord) → Walked uses log held → (path : Path) (id : List ℕ) → IsSent log path id → IsChecked uses held path id
    flow [] log held (is, same) path id sent =
        absurd (sent_before (setters_of modern_settings) [] path id (subst (λ (l : Log). IsSent l path id) is sent))
    flow (u ∷ before) log held (mid, does, inl (same, none, walked)) path id sent =
        carried path id u before mid held does (search (idle_clear u.export u.code none))
        (λ _ p has. subst (λ (a : Held). Has a.packets p) (sym same) has) (flow before log mid walked path id sent)
    flow (u ∷ before) log held (mid, does, inr (inl (x, rest, s, t, is, of, given, step, walked))) path id sent =
        by (λ was. flow before rest mid walked path id was) (subst (λ (l : Log). IsSent l path id) is sent) where
          by : (IsSent rest path id → IsChecked before mid path id) → IsSent (x ∷ rest) path id → IsChecked (u ∷ before) held path id
          by on (inl now) =
              let k = (trade mid.agent held.agent s t x.call x.entry (sound_run law new rest mid.agent (run_is turn creds tie_breaker before rest mid walked)) given step).issued (issued_as path class.Request id) now in
              inr (k.0, inr k.1, k.2, is_check mid.agent held.agent x.call x.entry k.0 path id now k.3)
          by on (inr (kept, was)) =
              carried path id u before mid held does (search (not_cleared u.export x.call x.entry.answer u.code of.makes of.answers kept))
              (λ other p has. kept_packets x.call x.entry mid.agent.packets held.agent.packets (queues mid.agent held.agent s t x.call x.entry step).0 (not_restart x.call x.entry.answer kept)
              (not_poll u.export x.call of.makes other) p has) (on was)
    flow (u ∷ before) log held (mid, does, inr (inr (all, rest, is, walked))) path id sent =
        carried path id u before mid held does (set_clear u all.settings all.export)
        (λ other p has. subst (λ (a : Held). Has a.packets p) (sym all.sets) has)
        (flow before rest mid walked path id (sent_before (setters_of (settings_of all.settings)) rest path id (subst (λ (l : Log). IsSent l path id) is sent)))

-- ---- the answer, in C's words

checked : (whole : List Used) (held : HeldRecord) (path : Path) (uses : List Used) (log : Log) → IsLogOf uses log
    → ((id : List ℕ) → IsSent log path id → IsChecked whole held path id) → Answered mac_of (record {}) log path → Since is_clear (Answers whole held path) uses
checked whole held path [] log is lift answered =
    absurd (answered_before (setters_of modern_settings) [] path (subst (λ (l : Log). Answered mac_of (record {}) l path) is answered))
checked whole held path (u ∷ before) log (inl (none, logs)) lift answered = inr (search (idle_clear u.export u.code none), checked whole held path before log logs lift answered)
checked whole held path (u ∷ before) log (inr (rest, inl (x, is, of), logs)) lift answered =
    by (λ l was. checked whole held path before rest logs l was) (subst (λ (l : Log). (id : List ℕ) → IsSent l path id → IsChecked whole held path id) is lift)
    (subst (λ (l : Log). Answered mac_of (record {}) l path) is answered) where
      by : (((id : List ℕ) → IsSent rest path id → IsChecked whole held path id) → Answered mac_of (record {}) rest path → Since is_clear (Answers whole held path) before)
          → ((id : List ℕ) → IsSent (x ∷ rest) path id → IsChecked whole held path id) → Answered mac_of (record {}) (x ∷ rest) path → Since is_clear (Answers whole held path) (u ∷ before)
      by on lift (inl (at, via, m, peer, brings, binding, success, known, signed, sent, back)) =
          inl (
            via,
            m,
            peer,
            accepts u.export x.call x.entry u.code at via m of.makes of.answers brings,
            binding,
            success,
            sym (peers before rest logs) ∙ known,
            signed,
            back,
            lift m.id (inr (not_clear_brought x.call x.entry at via m brings, sent)),
          )
      by on lift (inr (kept, was)) =
          inr (search (not_cleared u.export x.call x.entry.answer u.code of.makes of.answers kept), on (λ id sent. lift id (inr (kept, sent))) was)
checked whole held path (u ∷ before) log (inr (rest, inr (s, export, ok, is), logs)) lift answered =
    let here = subst (λ (l : Log). (id : List ℕ) → IsSent l path id → IsChecked whole held path id) is lift in
    inr (
      set_clear u s export,
      checked whole held path before rest logs (λ id sent. here id (sent_after (settings_of s) rest path id sent))
          (answered_before (setters_of (settings_of s)) rest path (subst (λ (l : Log). Answered mac_of (record {}) l path) is answered)),
    )

pub are_answered : Turn → Paths → Fresh → TradeTheorem {H = _} {P = Preference} mac_of answers → QueuesTheorem {H = _} {P = Preference} mac_of answers
    → WaitingAreAnswered {H = _} {P = Preference} mac_of answers → SelectedAreAnswered
are_answered turn paths new trade queues law creds tie_breaker before held after u path session each does selects =
    let k = walk turn creds tie_breaker before held session in
    let logs = log_is turn creds tie_breaker before k.0 held k.1 in
    let run = run_is turn creds tie_breaker before k.0 held k.1 in
    let kept : EachKeeps keeps_modern before = search each in
    let found = law (newborn creds tie_breaker) held.agent k.0 (is_new creds tie_breaker) (full_log before k.0 logs kept) run path (waited u held after path does selects) in
    search (checked before held path before k.0 logs (λ id sent. flow turn creds tie_breaker paths new trade queues before k.0 held k.1 path id sent)
    (since creds tie_breaker held.agent k.0 path run (ready_along creds tie_breaker before k.0 logs kept) found))
