-- What one agent of C selects, the other one answered: from the accepted response back to the check, through C's calls on both slots. What
-- mutants/specifications changes is read by tactics.
use Rattle.is_proto.specs.Packets as packets
use Rattle.is_stun.specs.declared.header.Class.TheVariants as class
use Rattle.is_c_theorems.specs.TwoAgents.{sets_role}
use Rattle.is_c_theorems.proofs.Common.{[], ◌<◌, ◌∙◌, ◌∷◌, ◌≡◌, ◌⊎◌, A, Accepts, Answered, answers, AnswersAt, ap, AreCarried, B, Before}
use Rattle.is_c_theorems.proofs.Common.{Bool, Call, Class, Does, Done, EachKeeps, false, FixTimes, Gave, Gets, GivesAnswer, GivesBased}
use Rattle.is_c_theorems.proofs.Common.{GivesCheck, Has, HaveFreshIds, Held, HeldRecord, inl, inr, is_reverse, IsAnsweredBy, IsBrought}
use Rattle.is_c_theorems.proofs.Common.{IsIssued, IsLogOf, IsOf, IsSent, IsServing, IsSound, IsToPoll, keeps_modern, length, List, Logged}
use Rattle.is_c_theorems.proofs.Common.{mac_of, Message, modern_settings, newborn, None, other, Path, PathEffect, Preference, quiet, Reads}
use Rattle.is_c_theorems.proofs.Common.{refl, RequestRecord, Says, SelectedAreTraced, SelectedSince, Sessions, SetControlling, setters_of}
use Rattle.is_c_theorems.proofs.Common.{setters_onto, Settings, settings_of, settings_onto, Side, SideCall, Some, Step, Stream, subst, sym}
use Rattle.is_c_theorems.proofs.Common.{TakesAnswer, TakesCheck, true, Use, Used, via_out, WaitingAreAnswered, ℕ}
use Rattle.is_c_theorems.proofs.AlongExecutions.{is_new, full_log}
use Rattle.is_c_theorems.proofs.CallsAsSteps.{never}
use Rattle.is_c_theorems.proofs.ClaimedRoles.{other_back, one_side, Note, note, Setting, Fact}
use Rattle.is_c_theorems.proofs.PacketsGiven.{waited_before, given_before, outcome}
use Rattle.is_c_theorems.proofs.PolledPaths.{waited}
use Rattle.is_c_theorems.proofs.RolesOfTwo.{Opening, calls, pick, same_side, Issued_in, Paths, Trades, Fresh, Turns, Known, known}
use Rattle.is_c_theorems.proofs.RolesOfTwo.{sound_run, distinct_notes}
use Rattle.is_c_theorems.proofs.SeenCalls.{accepts, none_brought}
use Rattle.is_c_theorems.proofs.SettledRoles.{opened, IsBegun, all_carried, all_fresh, setting, opening, creds_of, only, start}
use Rattle.is_c_theorems.proofs.SettingsOfCalls.{Log, rest_of}

-- ---- an answer in a log

abbrev AnsweredIn : Log → Path → Type 0
AnsweredIn [] path = ⊥
AnsweredIn (x ∷ before) path = AnswersAt mac_of (record {}) x before path ⊎ AnsweredIn before path

answered_in : (log : Log) (path : Path) → Answered mac_of (record {}) log path → AnsweredIn log path
answered_in [] path none = none
answered_in (x ∷ before) path (inl now) = inl now
answered_in (x ∷ before) path (inr (kept, was)) = inr (answered_in before path was)

selected_in : (log : Log) (path : Path) → SelectedSince (λ x before. IsAnsweredBy mac_of (record {}) x before path) log path → AnsweredIn log path
selected_in [] path none = none
selected_in (x ∷ before) path (inl (now, inl here)) = inl here
selected_in (x ∷ before) path (inl (now, inr earlier)) = inr (answered_in before path earlier)
selected_in (x ∷ before) path (inr (none, was)) = inr (selected_in before path was)

sent_in : (log : Log) (path : Path) (id : List ℕ) → IsSent log path id → Issued_in log path id
sent_in [] path id none = none
sent_in (x ∷ before) path id (inl is) = inl is
sent_in (x ∷ before) path id (inr (kept, was)) = inr (sent_in before path id was)

setters_answer : (more : List (Call Preference)) (log : Log) (path : Path) → AnsweredIn (setters_onto more log) path → AnsweredIn log path
setters_answer [] log path k = k
setters_answer (call ∷ more) log path k = by (setters_answer more (record { number = length log; call = call; entry = quiet Done } ∷ log) path k) where
  by : AnsweredIn (record { number = length log; call = call; entry = quiet Done } ∷ log) path → AnsweredIn log path
  by (inl (at, via, m, peer, brings, binding, success, known_peer, signed, sent, back)) = absurd (none_brought call at via m brings)
  by (inr was) = was

issued_after : (settings : Settings) (log : Log) (path : Path) (id : List ℕ) → Issued_in log path id → Issued_in (settings_onto settings log) path id
issued_after settings log path id sent = inr (inr (inr (inr (inr (inr (inr (inr (inr (inr (inr sent))))))))))

-- an agent of which only the role was set accepted none
open_unanswered : (path : Path) (uses : List Used) (log : Log) → IsLogOf uses log → EachKeeps sets_role uses → AnsweredIn log path → ⊥
open_unanswered path [] log is each k = setters_answer (setters_of modern_settings) [] path (subst (λ (l : Log). AnsweredIn l path) is k)
open_unanswered path (u ∷ before) log (inl (none, logs)) each k = open_unanswered path before log logs (rest_of sets_role u before each) k
open_unanswered path (u ∷ before) log (inr (rest, inl (x, is, of), logs)) each k =
    by (open_unanswered path before rest logs (rest_of sets_role u before each)) (subst (λ (l : Log). AnsweredIn l path) is k) where
      by : (AnsweredIn rest path → ⊥) → AnsweredIn (x ∷ rest) path → ⊥
      by on (inl (at, via, m, peer, brings, binding, success, known_peer, signed, sent, back)) =
          let (now, protocol, source, destination, bytes, export, path_is, reads, ok) = accepts u.export x.call x.entry u.code at via m of.makes of.answers brings in
          never (subst (λ (e : Use). sets_role e ≡ true) export (each u (inl refl)))
      by on (inr was) = on was
open_unanswered path (u ∷ before) log (inr (rest, inr (s, export, ok, is), logs)) each k =
    never (subst (λ (e : Use). sets_role e ≡ true) export (each u (inl refl)))

-- ---- the answer among C's calls

same_is : (s t : Side) → same_side s t ≡ true → s ≡ t
same_is A A is = refl
same_is B B is = refl
same_is A B is = never is
same_is B A is = never is

module _ (open_calls : Opening) (only_roles : (side : Side) → EachKeeps sets_role (open_calls side)) (side : Side) (path : Path) (ns : List Note) where
  abbrev IsNoted : List ℕ → Type 0
  IsNoted id = (role : Bool) × Has ns (note side id path role)

  abbrev Found : SideCall → List SideCall → Type 0
  Found z earlier =
      (back : Path) × (answer : Message) × (z.side ≡ side) × Accepts z.used back answer × (answer.class ≡ class.Success) × (is_reverse back path ≡ true) × IsNoted answer.id

  found : (made : List SideCall) (log : Log) → IsLogOf (calls open_calls side made) log → ((id : List ℕ) → Issued_in log path id → IsNoted id) → AnsweredIn log path
      → Before Found made
  found [] log logs lift k = absurd (open_unanswered path (open_calls side) log logs (only_roles side) k)
  found (x ∷ before) log logs lift k = by (λ l ls lf kk. found before l ls lf kk) (same_side x.side side) refl logs where
    by : ((l : Log) → IsLogOf (calls open_calls side before) l → ((id : List ℕ) → Issued_in l path id → IsNoted id) → AnsweredIn l path → Before Found before)
        → (b : Bool) → same_side x.side side ≡ b → IsLogOf (pick b x.used (calls open_calls side before)) log → Before Found (x ∷ before)
    by on false apart ls = inr (on log ls lift k)
    by on true is (inl (none, ls)) = inr (on log ls lift k)
    by on true is (inr (rest, inl (e, log_is, of), ls)) = here (subst (λ (l : Log). (id : List ℕ) → Issued_in l path id → IsNoted id) log_is lift) (subst (λ (l : Log). AnsweredIn l path) log_is k) where
      here : ((id : List ℕ) → Issued_in (e ∷ rest) path id → IsNoted id) → AnsweredIn (e ∷ rest) path → Before Found (x ∷ before)
      here lf (inl (at, via, m, peer, brings, binding, success, known_peer, signed, sent, back)) = inl (
        via,
        m,
        same_is x.side side is,
        accepts x.used.export e.call e.entry x.used.code at via m of.makes of.answers brings,
        success,
        back,
        lf m.id (inr (sent_in rest path m.id sent)),
      )
      here lf (inr was) = inr (on rest ls (λ id i. lf id (inr i)) was)
    by on true is (inr (rest, inr (s, export, ok, log_is), ls)) =
        let lf = subst (λ (l : Log). (id : List ℕ) → Issued_in l path id → IsNoted id) log_is lift in
        inr (on rest ls (λ id i. lf id (issued_after (settings_of s) rest path id i))
        (setters_answer (setters_of (settings_of s)) rest path (subst (λ (l : Log). AnsweredIn l path) log_is k)))

set_modern : (export : Use) → sets_role export ≡ true → keeps_modern export ≡ true
set_modern (SetControlling role) is = refl
set_modern (FixTimes soon) is = refl
set_modern _ is = never is

module _ (open_calls : Opening) (only_roles : (side : Side) → EachKeeps sets_role (open_calls side)) (side : Side) where
  modern_calls : (made : List SideCall) → ((x : SideCall) → Has made x → x.side ≡ side → keeps_modern x.used.export ≡ true) → EachKeeps keeps_modern (calls open_calls side made)
  modern_calls [] modern u has = set_modern u.export (only_roles side u has)
  modern_calls (x ∷ before) modern u has = by (λ there. modern_calls before (λ y h. modern y (inr h)) u there) (same_side x.side side) refl has where
    by : (Has (calls open_calls side before) u → keeps_modern u.export ≡ true) → (b : Bool) → same_side x.side side ≡ b → Has (pick b x.used (calls open_calls side before)) u
        → keeps_modern u.export ≡ true
    by on true is (inl here) = subst (λ (v : Used). keeps_modern v.export ≡ true) here (modern x (inl refl) (same_is x.side side is))
    by on true is (inr there) = on there
    by on false apart there = on there

-- ---- responses are to requests

-- C passed the side a request with this ID, and got OK.
abbrev AskedBy : Side → List ℕ → SideCall → List SideCall → Type 0
AskedBy side id x earlier = (via : Path) × (m : Message) × (x.side ≡ side) × Accepts x.used via m × (m.class ≡ class.Request) × (m.id ≡ id)

record Replies (made : List SideCall) (side : Side) (held : HeldRecord) : Type 0 where
  ready : (p : packets.Packet) → IsToPoll held p → (m : Message) → Reads p.contents m → m.class ≡ class.Success → Before (AskedBy side m.id) made
  queue : (q : RequestRecord) → Has held.agent.queue q → Before (AskedBy side q.id) made

-- a request that the call serves, or stores
module _ (paths : Paths) (trades : Trades) (x : SideCall) (before : List SideCall) (mid held : HeldRecord) (does : Does x.used.export mid x.used.code held)
    (sound : IsSound mid.agent) (k : Replies before x.side mid) where
  abbrev Now : Type 0
  Now = Replies (x ∷ before) x.side held

  ready_still : (p : packets.Packet) → IsToPoll mid p → (m : Message) → Reads p.contents m → m.class ≡ class.Success → Before (AskedBy x.side m.id) (x ∷ before)
  ready_still p waits m reads success = inr (k.ready p waits m reads success)

  -- the agent is as it was, or other settings are set
  unchanged : ((p : packets.Packet) → Has held.agent.packets p → Has mid.agent.packets p) → ((q : RequestRecord) → Has held.agent.queue q → Has mid.agent.queue q) → Now
  unchanged packets_were queue_was = record {
    ready = λ p waits m reads success. elim waits [
      | inl is ↦ ready_still p (waited_before x.used.export x.used.code mid held p does is) m reads success
      | inr has ↦ ready_still p (inr (packets_were p has)) m reads success
    ];
    queue = λ q has. inr (k.queue q (queue_was q has));
  }

  module _ (e : Logged Preference) (s t : Stream) (of : IsOf x.used e) (given : GivesBased e.call) (step : Step mac_of answers mid.agent s e.call e.entry held.agent t) where
    f : PathEffect mac_of mid.agent e.call e.entry held.agent
    f = (paths mid.agent held.agent s t e.call e.entry sound given step).0

    asked_now : (q : RequestRecord) → IsBrought e.call e.entry q → Before (AskedBy x.side q.id) (x ∷ before)
    asked_now q (at, by, m, brings, request, is) =
        inl (by, m, refl, accepts x.used.export e.call e.entry x.used.code at by m of.makes of.answers brings, request, sym (ap (λ (r : RequestRecord). r.id) is))

    served : (q : RequestRecord) → IsServing mid.agent e.call e.entry q → Before (AskedBy x.side q.id) (x ∷ before)
    served q serving = elim (f.serves q serving) [ inl was ↦ inr (k.queue q was) | inr now ↦ asked_now q now ]

    issued_now : (p : packets.Packet) (n : Message) → Reads p.contents n → n.class ≡ class.Success → IsIssued mac_of mid.agent e.call e.entry p held.agent.controlling
        → Before (AskedBy x.side n.id) (x ∷ before)
    issued_now p n reads success (m, contents, emitted, says) = by m.class says where
      by : (c : Class) → Says c mid.agent e.call e.entry p.contents m (via_out p) held.agent.controlling → Before (AskedBy x.side n.id) (x ∷ before)
      by class.Request (peer, cand, uses, number, known_peer, has, m_is, put, role, leads, its) =
          let wrong_ : class.Request ≡ class.Success = sym ((put.reads n reads).class ∙ ap (λ (y : Message). y.class) m_is) ∙ success in absurd (cc)
      by class.Success (q, serving, m_is, via, put) = subst (λ (id : List ℕ). Before (AskedBy x.side id) (x ∷ before)) (sym (put.reads n reads).id) (served q serving)
      by class.Failure (q, serving, m_is, via, put, conflict, role) =
          let wrong_ : class.Failure ≡ class.Success = sym ((put.reads n reads).class ∙ ap (λ (y : Message). y.class) m_is) ∙ success in absurd (cc)
      by class.Indication h = absurd h
      by class.Unknown h = absurd h

    stepped : Now
    stepped = record {
      ready = λ p waits m reads success. elim waits [
        | inl is ↦ ready_still p (waited_before x.used.export x.used.code mid held p does is) m reads success
        | inr has ↦ elim ((trades mid.agent held.agent s t e.call e.entry sound given step).packets p has) [
          | inl was ↦ ready_still p (inr was) m reads success
          | inr out ↦ issued_now p m reads success out
        ]
      ];
      queue = λ q has. elim (f.queue q has) [ inl was ↦ inr (k.queue q was) | inr now ↦ asked_now q now ];
    }

  replies_next : Now
  replies_next = elim (outcome 0 x.used.export x.used.code mid held does) as (λ _. Now) [
    | inl (same_agent, none) ↦ unchanged (λ p has. subst (λ (a : Held). Has a.packets p) same_agent has) (λ q has. subst (λ (a : Held). Has a.queue q) same_agent has)
    | inr (inl (e, s, t, of, given, step, draws)) ↦ stepped e s t of given step
    | inr (inr all) ↦ unchanged (λ p has. subst (λ (a : Held). Has a.packets p) all.sets has) (λ q has. subst (λ (a : Held). Has a.queue q) all.sets has)
  ]

-- ---- places among C's calls

module _ (first : Side → HeldRecord) (whole : List SideCall) where
  -- a call, with what both slots held before and after it
  record Place (x : SideCall) (earlier : List SideCall) : Type 0 where
    mid : Side → HeldRecord
    last : Side → HeldRecord
    session : Sessions first earlier mid
    does : Does x.used.export (mid x.side) x.used.code (last x.side)
    carried : AreCarried (x ∷ earlier)
    ids : HaveFreshIds (x ∷ earlier)
    has : Has whole x
    within : (y : SideCall) → Has earlier y → Has whole y

  placed : (P Q : SideCall → List SideCall → Type 0) → ((x : SideCall) (earlier : List SideCall) → Place x earlier → P x earlier → Q x earlier)
      → (made : List SideCall) (last : Side → HeldRecord) → Sessions first made last → AreCarried made → HaveFreshIds made
      → ((y : SideCall) → Has made y → Has whole y) → Before P made → Before Q made
  placed P Q f [] last session carried ids within none = absurd none
  placed P Q f (x ∷ before) last (mid, session, does, others) carried ids within (inl here) = inl (f x before (record {
    mid = mid;
    last = last;
    session = session;
    does = does;
    carried = carried;
    ids = ids;
    has = within x (inl refl);
    within = λ y h. within y (inr h);
  }) here)
  placed P Q f (x ∷ before) last (mid, session, does, others) carried ids within (inr there) =
      inr (placed P Q f before mid session carried.1 ids.1 (λ y h. within y (inr h)) there)

-- ---- the theorem

module _ (paths : Paths) (trades : Trades) (new : Fresh) (turn : Turns) where
  module _ (first : Side → HeldRecord) (made : List SideCall) (begun : IsBegun first made) where
    -- roles are not spoken of
    none_less : false ≡ true → begun.tie_breaker B < begun.tie_breaker A
    none_less is = never is

    abbrev unranked : Setting
    unranked = setting paths trades new turn first made begun false A none_less

    abbrev After : List SideCall → (Side → HeldRecord) → Type 0
    After some all_held = Known paths trades new turn unranked (opening paths trades new turn first made begun)
        (only paths trades new turn first made begun) (creds_of paths trades new turn first made begun) some all_held

    knows : (some : List SideCall) (last : Side → HeldRecord) → Sessions first some last → AreCarried some → HaveFreshIds some → After some last
    knows some last session carried ids =
        known paths trades new turn unranked (opening paths trades new turn first made begun)
        (only paths trades new turn first made begun) (creds_of paths trades new turn first made begun) first
        (start paths trades new turn first made begun false A none_less) some last session (λ is. never is) carried ids

    first_replies : (side : Side) (held : HeldRecord) → held ≡ first side → Replies [] side held
    first_replies side held is =
        let (creds, uses, session, each) = begun.begins side in
        let (role, agent_is, none) = opened creds (begun.tie_breaker side) uses (first side) session each in
        subst (λ (h : HeldRecord). Replies [] side h) (sym is) (record {
          ready = λ p waits m reads success. elim waits [
            | inl w ↦ let wrong_ : None ≡ Some p = sym none ∙ w in absurd (cc)
            | inr has ↦ absurd (subst (λ (a : Held). Has a.packets p) agent_is has)
          ];
          queue = λ q has. absurd (subst (λ (a : Held). Has a.queue q) agent_is has);
        })

    replies : (some : List SideCall) (last : Side → HeldRecord) → Sessions first some last → AreCarried some → HaveFreshIds some → (side : Side) → Replies some side (last side)
    replies [] last same_held carried ids side = first_replies side (last side) (same_held side)
    replies (x ∷ before) last (mid, session, does, others) carried ids side =
        let earlier = replies before mid session carried.1 ids.1 in
        let k = knows before mid session carried.1 ids.1 in
        let h = k.half x.side in
        let sound = sound_run paths trades new turn (creds_of paths trades new turn first made begun x.side) (begun.tie_breaker x.side) h.log (mid x.side).agent h.run in
        elim (one_side side x.side) [
          | inl is ↦ subst (λ (s : Side). Replies (x ∷ before) s (last s)) (sym is) (replies_next paths trades x before (mid x.side) (last x.side) does sound (earlier x.side))
          | inr is ↦ subst (λ (s : Side). Replies (x ∷ before) s (last s)) (sym is) (subst (λ (o : HeldRecord). Replies (x ∷ before) (other x.side) o) (sym others) (record {
            ready = λ p waits m reads success. inr ((earlier (other x.side)).ready p waits m reads success);
            queue = λ q has. inr ((earlier (other x.side)).queue q has);
          }))
        ]

    module _ (last : Side → HeldRecord) (session : Sessions first made last) (side : Side) (path : Path) where
      k : After made last
      k = knows made last session (all_carried paths trades new turn first made begun) (all_fresh paths trades new turn first made begun)

      -- the check that the other one accepted is the one of the path
      check_given : (id : List ℕ) → IsNoted (opening paths trades new turn first made begun) (only paths trades new turn first made begun) side path k.ns id
          → (x : SideCall) (earlier : List SideCall) → Place first made x earlier → AskedBy (other side) id x earlier → TakesCheck side path id x earlier
      check_given id (role, noted) x earlier at (via, check, x_side, (now, protocol, source, destination, bytes, export, path_is, reads, ok), request, id_is) = (
        via,
        check,
        search x_side,
        (now, protocol, source, destination, bytes, export, path_is, reads, ok),
        search request,
        search id_is,
        search (placed first made (Gave (other x.side) bytes) (GivesCheck side path check) gives earlier at.mid at.session at.carried.1 at.ids.1 at.within
            (search (at.carried.0 now protocol source destination bytes export ok))),
      )
        where
          gives : (w : SideCall) (yet : List SideCall) → Place first made w yet → Gave (other x.side) bytes w yet → GivesCheck side path check w yet
          gives w yet there (to, w_side, gets) =
              let mine : w.side ≡ side = w_side ∙ (ap other x_side ∙ other_back side) in
              let fact = (k.half side).got w to bytes check there.has mine gets reads in
              let (sent_role, has, claims) : Fact unranked k.ns side to class.Request check =
              subst (λ (c : Class). Fact unranked k.ns side to c check) request fact in
              let one_note : note side check.id to sent_role ≡ note side id path role = distinct_notes made k.ns k.notes (all_fresh paths trades new turn first made begun) _ _ has noted id_is in
              (bytes, search mine, search (subst (λ (p : Path). Gets w.used p bytes) (ap (λ (n : Note). n.path) one_note) gets), reads)

      answer_given : (answer : Message) → answer.class ≡ class.Success
          → IsNoted (opening paths trades new turn first made begun) (only paths trades new turn first made begun) side path k.ns answer.id
          → (bytes : List ℕ) → Reads bytes answer → (y : SideCall) (earlier : List SideCall) → Place first made y earlier → Gave (other side) bytes y earlier
          → GivesAnswer side path answer y earlier
      answer_given answer success noted bytes reads y earlier at (to, y_side, gets) =
          let (p, waits, via, contents) = given_before y.used (at.mid y.side) (at.last y.side) to bytes at.does gets in
          let asked = (replies earlier at.mid at.session at.carried.1 at.ids.1 y.side).ready p waits answer
          (subst (λ (bs : List ℕ). Reads bs answer) (sym contents) reads) success in (
            to,
            bytes,
            search y_side,
            gets,
            reads,
            placed first made (AskedBy (other side) answer.id) (TakesCheck side path answer.id) (check_given answer.id noted) earlier at.mid at.session at.carried.1 at.ids.1 at.within
                (subst (λ (s : Side). Before (AskedBy s answer.id) earlier) y_side asked),
          )

      answer_taken : (z : SideCall) (earlier : List SideCall) → Place first made z earlier
          → Found (opening paths trades new turn first made begun) (only paths trades new turn first made begun) side path k.ns z earlier → TakesAnswer side path z earlier
      answer_taken z earlier at (back, answer, z_side, (now, protocol, source, destination, bytes, export, path_is, reads, ok), success, goes, noted) = (
        back,
        answer,
        search z_side,
        (now, protocol, source, destination, bytes, export, path_is, reads, ok),
        search success,
        search goes,
        placed first made (Gave (other side) bytes) (GivesAnswer side path answer) (answer_given answer success noted bytes reads) earlier at.mid at.session at.carried.1 at.ids.1 at.within
            (search (subst (λ (s : Side). Before (Gave (other s) bytes) earlier) z_side (at.carried.0 now protocol source destination bytes export ok))),
      )

  pub selected_traced : WaitingAreAnswered {H = _} {P = Preference} mac_of answers → SelectedAreTraced
  unfolding knows k
  selected_traced law first last tie_breaker side made u held path begins carried fresh session modern does selects =
      let begun : IsBegun first made = record { tie_breaker = tie_breaker; begins = begins; carried = search carried; fresh = search fresh } in
      let known_all = knows first made begun made last session (all_carried paths trades new turn first made begun) (all_fresh paths trades new turn first made begun) in
      let h = known_all.half side in
      let open_calls = opening paths trades new turn first made begun in
      let roles_only = only paths trades new turn first made begun in
      let creds = creds_of paths trades new turn first made begun side in
      let always : (x : SideCall) → Has made x → x.side ≡ side → keeps_modern x.used.export ≡ true = search modern in
      let each = modern_calls open_calls roles_only side made always in
      let found_it = law (newborn creds (begun.tie_breaker side)) (last side).agent h.log (is_new creds (begun.tie_breaker side)) (full_log (calls open_calls side made) h.log h.logs each) h.run path
      (waited u (last side) held path does selects) in
      placed first made (Found open_calls roles_only side path known_all.ns) (TakesAnswer side path) (answer_taken first made begun last session side path) made last session (all_carried paths trades new turn first made begun) (all_fresh paths trades new turn first made begun)
      (λ y has. has) (found open_calls roles_only side path known_all.ns made h.log h.logs (λ id is. h.issued path id is) (selected_in h.log path found_it))
