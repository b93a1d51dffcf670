-- Two agents in turn: what each of them knows after C's calls, and what their roles are. What mutants/specifications changes is read by tactics.
use Rattle.is_proto.specs.Packets as packets
use Rattle.is_stun.specs.declared.header.Class.TheVariants as class
use Rattle.is_c_theorems.specs.TwoAgents as two
use Rattle.is_c_theorems.specs.TwoAgents.{keeps_role}
use Rattle.is_c_theorems.proofs.Common.{[], ◌++◌, ◌∙◌, ◌∷◌, ◌≡◌, ◌⊎◌, A, Accepts, AllAreSetInTurn, answers, ap, AreCarried, B, Before, Bool}
use Rattle.is_c_theorems.proofs.Common.{Brings, Call, Class, DefaultSha1HmacProvider, Does, Done, EachKeeps, Entry, Execution, false}
use Rattle.is_c_theorems.proofs.Common.{FreshIsSound, Gave, Gets, Has, HaveFreshIds, Held, HeldRecord, IceCreds, id_of, inl, inr, IsLogOf}
use Rattle.is_c_theorems.proofs.Common.{IsSound, Issued, issued_as, IsToPoll, length, List, lite_set_by, mac_of, map, Message, NeverLite}
use Rattle.is_c_theorems.proofs.Common.{newborn, None, not, Option, other, Path, PathTheorem, Preference, quiet, Reads, refl, role_at}
use Rattle.is_c_theorems.proofs.Common.{Sessions, SetControlling, SetLite, sets_role, setters_of, setters_onto, SetTieBreaker, Settings}
use Rattle.is_c_theorems.proofs.Common.{settings_of, settings_onto, Side, SideCall, Some, subst, sym, TradeTheorem, true, Use, Used}
use Rattle.is_c_theorems.proofs.Common.{via_out, ℕ}
use Rattle.is_c_theorems.proofs.CallsAsSteps.{never}
use Rattle.is_c_theorems.proofs.ClaimedRoles.{not_other, one_side, Note, note, Within, AreDistinct, add_by, add, add_within, add_has}
use Rattle.is_c_theorems.proofs.ClaimedRoles.{Setting, Fact, Mind, fact_on, mind_on, mind_next, lesser_now}
use Rattle.is_c_theorems.proofs.LogsOfCalls.{Ran, any, settings_ran}
use Rattle.is_c_theorems.proofs.PacketsGiven.{waited_before, given_before, use_marks, sets_as_marked, Draws, outcome}
use Rattle.is_c_theorems.proofs.SeenCalls.{accepts, none_brought}
use Rattle.is_c_theorems.proofs.SettingsOfCalls.{Log, new_settings, never_lite}

-- ---- the checks of both agents, by C's calls

-- each check was issued at one of these calls, in this order
abbrev pub NotesOf : List SideCall → List Note → Type 0
NotesOf [] ns = ns ≡ []
NotesOf (x ∷ before) ns =
    NotesOf before ns ⊎ ((n : Note) × (rest : List Note) × (ns ≡ n ∷ rest) × (id_of x.used ≡ Some n.id) × NotesOf before rest)

noted_by : (made : List SideCall) (ns : List Note) → NotesOf made ns → (n : Note) → Has ns n → (x : SideCall) × Has made x × (id_of x.used ≡ Some n.id)
noted_by [] ns is n has = absurd (subst (λ (l : List Note). Has l n) is has)
noted_by (x ∷ before) ns (inl notes) n has = let k = noted_by before ns notes n has in (k.0, inr k.1, k.2)
noted_by (x ∷ before) ns (inr (m, rest, is, drawn, notes)) n has = elim (subst (λ (l : List Note). Has l n) is has) [
  | inl here ↦ (x, inl refl, drawn ∙ ap (λ (y : Note). Some y.id) here)
  | inr there ↦ (let k = noted_by before rest notes n there in (k.0, inr k.1, k.2))
]

pub distinct_notes : (made : List SideCall) (ns : List Note) → NotesOf made ns → HaveFreshIds made → AreDistinct ns
distinct_notes [] ns is fresh a b has_a has_b same_id = absurd (subst (λ (l : List Note). Has l a) is has_a)
distinct_notes (x ∷ before) ns (inl notes) fresh a b has_a has_b same_id = distinct_notes before ns notes fresh.1 a b has_a has_b same_id
distinct_notes (x ∷ before) ns (inr (n, rest, is, drawn, notes)) fresh a b has_a has_b same_id =
    by (distinct_notes before rest notes fresh.1 a b) (subst (λ (l : List Note). Has l a) is has_a) (subst (λ (l : List Note). Has l b) is has_b) where
      old : (m : Note) → Has rest m → n.id ≡ m.id → ⊥
      old m has id_is = let k = noted_by before rest notes m has in fresh.0 k.0 m.id k.1 (drawn ∙ ap (λ (i : List ℕ). Some i) id_is) k.2

      by : (Has rest a → Has rest b → a.id ≡ b.id → a ≡ b) → Has (n ∷ rest) a → Has (n ∷ rest) b → a ≡ b
      by on (inl here) (inl there) = sym here ∙ there
      by on (inl here) (inr there) = absurd (old b there (ap (λ (y : Note). y.id) here ∙ same_id))
      by on (inr there) (inl here) = absurd (old a there (ap (λ (y : Note). y.id) here ∙ sym same_id))
      by on (inr one_) (inr two_) = on one_ two_ same_id

notes_next : (x : SideCall) (before : List SideCall) (ns : List Note) (side : Side) (role : Bool) (e : Entry) → Draws x.used e → NotesOf before ns
    → NotesOf (x ∷ before) (add side role e.emitted.issued ns)
notes_next x before ns side role e draws notes = by e.emitted.issued refl where
  by_class : (i : Issued) (c : Class) → i.class ≡ c → e.emitted.issued ≡ Some i → NotesOf (x ∷ before) (add_by c (note side i.id.0 i.path role) ns)
  by_class i class.Request is issued = inr (
    note side i.id.0 i.path role,
    ns,
    refl,
    draws i.path i.id.0 (issued ∙ ap (λ (c : Class). Some (issued_as i.path c i.id.0)) is),
    notes,
  )
  by_class i class.Success is issued = inl notes
  by_class i class.Failure is issued = inl notes
  by_class i class.Indication is issued = inl notes
  by_class i class.Unknown is issued = inl notes

  by : (o : Option Issued) → e.emitted.issued ≡ o → NotesOf (x ∷ before) (add side role o ns)
  by None issued = inl notes
  by (Some i) issued = by_class i i.class refl issued

-- ---- the calls on each slot

abbrev pub same_side : Side → Side → Bool
same_side A A = true
same_side B B = true
same_side A B = false
same_side B A = false

same_self : (s : Side) → same_side s s ≡ true
same_self A = refl
same_self B = refl

same_other : (s : Side) → same_side s (other s) ≡ false
same_other A = refl
same_other B = refl

abbrev pub pick : Bool → Used → List Used → List Used
pick true u uses = u ∷ uses
pick false u uses = uses

abbrev pub Opening : Type 0
Opening = Side → List Used

-- the calls on the slot of a side, after those that opened it
abbrev pub calls : Opening → Side → List SideCall → List Used
calls opening side [] = opening side
calls opening side (x ∷ before) = pick (same_side x.side side) x.used (calls opening side before)

-- ---- what C does

abbrev full_use : Use → Bool
full_use (SetLite lite) = not lite
full_use _ = true

full_lite : (lite : Bool) → full_use (SetLite lite) ≡ true → lite ≡ false
full_lite true is = never is
full_lite false is = refl

kept_full : (export : Use) → keeps_role export ≡ true → full_use export ≡ true
kept_full (SetLite lite) is = search is
kept_full _ is = refl

set_full : (export : Use) → two.sets_role export ≡ true → full_use export ≡ true
set_full (SetLite lite) is = never is
set_full _ is = refl

kept_marks : (export : Use) → keeps_role export ≡ true → (use_marks export).0 ≡ false
kept_marks (SetControlling role) is = let no : false ≡ true = search is in never no
kept_marks (SetTieBreaker n) is = let no : false ≡ true = search is in never no
kept_marks _ is = refl

-- C keeps the roles at all these calls.
abbrev pub AllKeep : List SideCall → Type 0
AllKeep made = (x : SideCall) → Has made x → keeps_role x.used.export ≡ true

module _ (opening : Opening) (only : (side : Side) → EachKeeps two.sets_role (opening side)) where
  full_calls : (side : Side) (made : List SideCall) → AllKeep made → EachKeeps full_use (calls opening side made)
  full_calls side [] keeps u has = set_full u.export (only side u has)
  full_calls side (x ∷ before) keeps u has = by (λ there. full_calls side before (λ y h. keeps y (inr h)) u there) (same_side x.side side) has where
    by : (Has (calls opening side before) u → full_use u.export ≡ true) → (b : Bool) → Has (pick b x.used (calls opening side before)) u → full_use u.export ≡ true
    by on true (inl is) = subst (λ (v : Used). full_use v.export ≡ true) is (kept_full x.used.export (keeps x (inl refl)))
    by on true (inr there) = on there
    by on false there = on there

-- ---- checks in a log

abbrev pub Issued_in : Log → Path → List ℕ → Type 0
Issued_in [] path id = ⊥
Issued_in (x ∷ before) path id = (x.entry.emitted.issued ≡ Some (issued_as path class.Request id)) ⊎ Issued_in before path id

pub setters_issue : (more : List (Call Preference)) (log : Log) (path : Path) (id : List ℕ) → Issued_in (setters_onto more log) path id → Issued_in log path id
setters_issue [] log path id k = k
setters_issue (call ∷ more) log path id k = by (setters_issue more (record { number = length log; call = call; entry = quiet Done } ∷ log) path id k) where
  by : Issued_in (record { number = length log; call = call; entry = quiet Done } ∷ log) path id → Issued_in log path id
  by (inl is) = let wrong_ : None ≡ Some (issued_as path class.Request id) = is in absurd (cc)
  by (inr was) = was

-- ---- setters in turn

abbrev pub Paths : Type 0
Paths = PathTheorem {H = DefaultSha1HmacProvider} {P = Preference} mac_of answers

abbrev pub Trades : Type 0
Trades = TradeTheorem {H = DefaultSha1HmacProvider} {P = Preference} mac_of answers

abbrev pub Fresh : Type 0
Fresh = FreshIsSound DefaultSha1HmacProvider Preference

abbrev pub Turns : Type 0
Turns = AllAreSetInTurn {H = DefaultSha1HmacProvider} {P = Preference} mac_of answers

-- a setter that leaves role, tie-breaker and lite
abbrev IsPlain : Call Preference → Type 0
IsPlain call = (sets_role call ≡ false) × (lite_set_by call false ≡ false)

abbrev ArePlain : List (Call Preference) → Type 0
ArePlain [] = Unit {0}
ArePlain (call ∷ more) = IsPlain call × ArePlain more

all_plain : (settings : Settings) → ArePlain (setters_of settings)
all_plain settings =
    ((refl, refl), ((refl, refl), ((refl, refl), ((refl, refl), ((refl, refl), ((refl, refl), ((refl, refl), ((refl, refl), ((refl, refl), ((refl, refl), ((refl, refl), tt)))))))))))

module _ (paths : Paths) (trades : Trades) (z : Setting) (ns : List Note) (side : Side) (distinct : AreDistinct ns) where
  setters_mind : (more : List (Call Preference)) → ArePlain more → (old last : Held) → IsSound old → (z.ranked ≡ true → old.lite ≡ false) → Mind z ns side old
      → Execution mac_of answers (map (λ call. (call, quiet Done)) more) old last → Mind z ns side last
  setters_mind [] plain old last sound full mind is = subst (λ (a : Held). Mind z ns side a) (sym is) mind
  setters_mind (call ∷ more) ((unset, lite), plain) old last sound full mind (mid, s, t, given, step, execution) =
      let (f, next_sound) = paths old mid s t call (quiet Done) sound given step in
      let next = mind_next mac_of z ns side old mid call (quiet Done) f (trades old mid s t call (quiet Done) sound given step) (λ ranked. unset) full distinct
      (λ at by m brings. absurd (none_brought call at by m brings)) mind in
      setters_mind more plain mid last next_sound (λ ranked. f.lite ∙ (ap (λ (b : Bool). lite_set_by call b) (full ranked) ∙ lite)) next execution

-- ---- one agent after C's calls

module _ (paths : Paths) (trades : Trades) (fresh : Fresh) (turn : Turns) (creds : IceCreds) where
  lite_run : (tie : ℕ) (log : Log) (last : Held) → Ran (newborn creds tie) log last → NeverLite log → IsSound last × (last.lite ≡ false)
  lite_run tie [] last run none = subst (λ (a : Held). IsSound a × (a.lite ≡ false)) (sym run) (fresh (record {}) creds tie, refl)
  lite_run tie (x ∷ before) last (mid, s, t, run, given, step) none =
      let (sound, full) = lite_run tie before mid run none.1 in
      let (f, next) = paths mid last s t x.call x.entry sound given step in
      (next, f.lite ∙ (ap (λ (b : Bool). lite_set_by x.call b) full ∙ none.0))

  pub sound_run : (tie : ℕ) (log : Log) (last : Held) → Ran (newborn creds tie) log last → IsSound last
  sound_run tie [] last run = subst (λ (a : Held). IsSound a) (sym run) (fresh (record {}) creds tie)
  sound_run tie (x ∷ before) last (mid, s, t, run, given, step) = (paths mid last s t x.call x.entry (sound_run tie before mid run) given step).1

-- what the agent of a side knows, and what C got from it
pub record Half (z : Setting) (ns : List Note) (made : List SideCall) (side : Side) (uses : List Used) (creds : IceCreds) (held : HeldRecord) : Type 0 where
  pub log : Log
  pub logs : IsLogOf uses log
  pub run : Ran (newborn creds (z.tie side)) log held.agent
  pub mind : Mind z ns side held.agent
  pub waiting : (p : packets.Packet) → held.waiting ≡ Some p → (m : Message) → Reads p.contents m → Fact z ns side (via_out p) m.class m
  pub got : (x : SideCall) (to : Path) (bytes : List ℕ) (m : Message) → Has made x → x.side ≡ side → Gets x.used to bytes → Reads bytes m → Fact z ns side to m.class m
  pub issued : (path : Path) (id : List ℕ) → Issued_in log path id → (role : Bool) × Has ns (note side id path role)

module _ (z : Setting) (ns more : List Note) (on : Within ns more) (x : SideCall) (before : List SideCall) (creds : IceCreds) where
  half_other : (side : Side) (uses : List Used) (held after : HeldRecord) → (x.side ≡ side → ⊥) → after ≡ held → Half z ns before side uses creds held
      → Half z more (x ∷ before) side uses creds after
  half_other side uses held after apart same_held_agent h = subst (λ (k : HeldRecord). Half z more (x ∷ before) side uses creds k) (sym same_held_agent) (record {
    log = h.log;
    logs = h.logs;
    run = h.run;
    mind = mind_on z ns more on side held.agent h.mind;
    waiting = λ p is m reads. fact_on z ns more on side (via_out p) m.class m (h.waiting p is m reads);
    got = λ y to bytes m has is gets reads. elim has [
      | inl here ↦ absurd (apart (ap (λ (t : SideCall). t.side) here ∙ is))
      | inr there ↦ fact_on z ns more on side to m.class m (h.got y to bytes m there is gets reads)
    ];
    issued = λ path id is. (let k = h.issued path id is in (k.0, on _ k.1));
  })

  module _ (uses : List Used) (mid held : HeldRecord) (does : Does x.used.export mid x.used.code held) (h : Half z ns before x.side uses creds mid) where
    -- a packet that was to be polled
    to_poll : (p : packets.Packet) → IsToPoll mid p → (m : Message) → Reads p.contents m → Fact z more x.side (via_out p) m.class m
    to_poll p (inl waits) m reads = fact_on z ns more on x.side (via_out p) m.class m (h.waiting p waits m reads)
    to_poll p (inr has) m reads = fact_on z ns more on x.side (via_out p) m.class m (h.mind.packets p has m reads)

    got_now : (to : Path) (bytes : List ℕ) (m : Message) → Gets x.used to bytes → Reads bytes m → Fact z more x.side to m.class m
    got_now to bytes m gets reads =
        let (p, waits, via, contents) = given_before x.used mid held to bytes does gets in
        subst (λ (w : Path). Fact z more x.side w m.class m) via (to_poll p waits m (subst (λ (bs : List ℕ). Reads bs m) (sym contents) reads))

    half_own : (log : Log) → IsLogOf (x.used ∷ uses) log → Ran (newborn creds (z.tie x.side)) log held.agent → Mind z more x.side held.agent
        → ((path : Path) (id : List ℕ) → Issued_in log path id → (role : Bool) × Has more (note x.side id path role))
        → Half z more (x ∷ before) x.side (x.used ∷ uses) creds held
    half_own log logs run mind issued = record {
      log = log;
      logs = logs;
      run = run;
      mind = mind;
      waiting = λ p is m reads. to_poll p (waited_before x.used.export x.used.code mid held p does is) m reads;
      got = λ y to bytes m has is gets reads. elim has [
        | inl here ↦ got_now to bytes m (subst (λ (t : SideCall). Gets t.used to bytes) (sym here) gets) reads
        | inr there ↦ fact_on z ns more on x.side to m.class m (h.got y to bytes m there is gets reads)
      ];
      issued = issued;
    }

-- ---- lists of calls on both slots

pub same_last : (first : Side → HeldRecord) (made : List SideCall) (a b : Side → HeldRecord) → ((side : Side) → b side ≡ a side) → Sessions first made a → Sessions first made b
same_last first [] a b is same_held = λ side. is side ∙ same_held side
same_last first (y ∷ made) a b is (m, s, d, o) =
    (m, s, subst (λ (k : HeldRecord). Does y.used.export (m y.side) y.used.code k) (sym (is y.side)) d, is (other y.side) ∙ o)

pub joined : (first : Side → HeldRecord) (before later : List SideCall) (mid last : Side → HeldRecord) → Sessions first before mid → Sessions mid later last → Sessions first (later ++ before) last
joined first before [] mid last session same_held = same_last first before mid last same_held session
joined first before (y ∷ later) mid last session (m, s, d, o) = (m, joined first before later mid m session s, d, o)

-- ---- a call

pub got_of : (P : SideCall → List SideCall → Type 0) (made : List SideCall) → Before P made → (x : SideCall) × (earlier : List SideCall) × Has made x × P x earlier
got_of P [] none = absurd none
got_of P (x ∷ before) (inl here) = (x, before, inl refl, here)
got_of P (x ∷ before) (inr there) = let (y, earlier, has, is) = got_of P before there in (y, earlier, inr has, is)

module _ (paths : Paths) (trades : Trades) (fresh : Fresh) (turn : Turns) (z : Setting) (opening : Opening) (only : (side : Side) → EachKeeps two.sets_role (opening side))
    (creds : Side → IceCreds) where
  -- what is known after C's calls
  pub record Known (made : List SideCall) (all_held : Side → HeldRecord) : Type 0 where
    pub ns : List Note
    pub notes : NotesOf made ns
    pub half : (side : Side) → Half z ns made side (calls opening side made) (creds side) (all_held side)

  -- after one more call on the slot of a side
  record Next (ns : List Note) (x : SideCall) (before : List SideCall) (mid held : HeldRecord) : Type 0 where
    more : List Note
    on : Within ns more
    notes : NotesOf (x ∷ before) more
    own : Half z more (x ∷ before) x.side (x.used ∷ calls opening x.side before) (creds x.side) held
    stays : z.ranked ≡ true → x.side ≡ other z.greater → mid.agent.controlling ≡ not z.role → held.agent.controlling ≡ not z.role

  module _ (x : SideCall) (before : List SideCall) (mid : Side → HeldRecord) (held : HeldRecord) (does : Does x.used.export (mid x.side) x.used.code held)
      (k : Known before mid) (keeps : z.ranked ≡ true → AllKeep (x ∷ before)) (carried : AreCarried (x ∷ before)) (ids : HaveFreshIds (x ∷ before)) where
    old : Held
    old = (mid x.side).agent

    h : Half z k.ns before x.side (calls opening x.side before) (creds x.side) (mid x.side)
    h = k.half x.side

    distinct : AreDistinct k.ns
    distinct = distinct_notes before k.ns k.notes ids.1

    sound : IsSound old
    unfolding old h
    sound = sound_run paths trades fresh turn (creds x.side) (z.tie x.side) h.log old h.run

    full : z.ranked ≡ true → old.lite ≡ false
    unfolding old h
    full ranked = (lite_run paths trades fresh turn (creds x.side) (z.tie x.side) h.log old h.run
        (never_lite full_use full_lite new_settings refl (calls opening x.side before) h.log h.logs (full_calls opening only x.side before (λ y has. keeps ranked y (inr has))))).1

    -- what the call brings, C got from the other agent
    brought : (by : Path) (m : Message) → Accepts x.used by m → (to : Path) × Fact z k.ns (other x.side) to m.class m
    brought by m (now, protocol, source, destination, bytes, export, path, reads, ok) =
        let gave : Before (Gave (other x.side) bytes) before = search (carried.0 now protocol source destination bytes export ok) in
        let (y, earlier, has, (to, side_is, gets)) = got_of (Gave (other x.side) bytes) before gave in
        (to, (k.half (other x.side)).got y to bytes m has side_is gets reads)

    next : Next k.ns x before (mid x.side) held
    unfolding old h
    next = elim (outcome 0 x.used.export x.used.code (mid x.side) held does) as (λ _. Next k.ns x before (mid x.side) held) [
      | inl (same_agent, none) ↦ record {
        more = k.ns;
        on = λ n has. has;
        notes = inl k.notes;
        own = half_own z k.ns k.ns (λ n has. has) x before (creds x.side) (calls opening x.side before) (mid x.side) held does h h.log
            (inl (none, h.logs)) (subst (λ (a : Held). Ran (newborn (creds x.side) (z.tie x.side)) h.log a) (sym same_agent) h.run)
            (subst (λ (a : Held). Mind z k.ns x.side a) (sym same_agent) h.mind) h.issued;
        stays = λ ranked lesser was. ap (λ (a : Held). a.controlling) same_agent ∙ was;
      }
      | inr (inl (e, s, t, of, given, step, draws)) ↦ (
          let (f, next_sound) = paths old held.agent s t e.call e.entry sound given step in
          let tr = trades old held.agent s t e.call e.entry sound given step in
          let unset : z.ranked ≡ true → sets_role e.call ≡ false = λ ranked. sets_as_marked x.used.export e.call of.makes ∙ kept_marks x.used.export (keeps ranked x (inl refl)) in
          let brings = λ (at : ℕ) (by : Path) (m : Message) (b : Brings e.call e.entry at by m).
          brought by m (accepts x.used.export e.call e.entry x.used.code at by m of.makes of.answers b) in
          let on = add_within x.side old.controlling e.entry.emitted.issued k.ns in
          record {
            more = add x.side old.controlling e.entry.emitted.issued k.ns;
            on = on;
            notes = notes_next x before k.ns x.side old.controlling e.entry draws k.notes;
            own = half_own z k.ns (add x.side old.controlling e.entry.emitted.issued k.ns) on x before (creds x.side) (calls opening x.side before) (mid x.side) held does h
                (e ∷ h.log) (inr (h.log, inl (e, refl, of), h.logs)) (old, s, t, h.run, given, step)
                (mind_next mac_of z k.ns x.side old held.agent e.call e.entry f tr unset full distinct brings h.mind)
                (λ path id is. elim is [
                  | inl now ↦ (old.controlling, add_has x.side old.controlling e.entry.emitted.issued k.ns path id now)
                  | inr was ↦ (let j = h.issued path id was in (j.0, on _ j.1))
                ]);
            stays = λ ranked lesser was. lesser_now mac_of z k.ns x.side old held.agent e.call e.entry f tr unset full distinct brings h.mind ranked lesser was;
          })
      | inr (inr all) ↦ record {
        more = k.ns;
        on = λ n has. has;
        notes = inl k.notes;
        own = half_own z k.ns k.ns (λ n has. has) x before (creds x.side) (calls opening x.side before) (mid x.side) held does h
            (settings_onto (settings_of all.settings) h.log) (inr (h.log, inr (all.settings, all.export, all.ok, refl), h.logs))
            (subst (λ (a : Held). Ran (newborn (creds x.side) (z.tie x.side)) (settings_onto (settings_of all.settings) h.log) a) (sym all.sets)
            (settings_ran turn (settings_of all.settings) (newborn (creds x.side) (z.tie x.side)) old h.log all.some h.run))
            (subst (λ (a : Held). Mind z k.ns x.side a) (sym all.sets)
            (setters_mind paths trades z k.ns x.side distinct (setters_of (settings_of all.settings)) (all_plain (settings_of all.settings)) old _ sound full h.mind
            (turn old (settings_of all.settings) any all.some)))
            (λ path id is. h.issued path id (setters_issue (setters_of (settings_of all.settings)) h.log path id is));
        stays = λ ranked lesser was. ap (λ (a : Held). a.controlling) all.sets ∙ was;
      }
    ]

    known_next : (last : Side → HeldRecord) → last x.side ≡ held → last (other x.side) ≡ mid (other x.side) → Known (x ∷ before) last
    known_next last mine others = record {
      ns = next.more;
      notes = next.notes;
      half = λ side. elim (one_side side x.side) [
        | inl is ↦ subst (λ (s : Side). Half z next.more (x ∷ before) s (calls opening s (x ∷ before)) (creds s) (last s)) (sym is)
            (subst (λ (b : Bool). Half z next.more (x ∷ before) x.side (pick b x.used (calls opening x.side before)) (creds x.side) (last x.side)) (sym (same_self x.side))
            (subst (λ (o : HeldRecord). Half z next.more (x ∷ before) x.side (x.used ∷ calls opening x.side before) (creds x.side) o) (sym mine) next.own))
        | inr is ↦ subst (λ (s : Side). Half z next.more (x ∷ before) s (calls opening s (x ∷ before)) (creds s) (last s)) (sym is)
            (subst (λ (b : Bool). Half z next.more (x ∷ before) (other x.side) (pick b x.used (calls opening (other x.side) before)) (creds (other x.side)) (last (other x.side))) (sym (same_other x.side))
            (half_other z k.ns next.more next.on x before (creds (other x.side)) (other x.side) (calls opening (other x.side) before) (mid (other x.side)) (last (other x.side))
            (λ wrong_. not_other x.side (sym wrong_)) others (k.half (other x.side))))
      ];
    }

    lesser_next : z.ranked ≡ true → (last : Side → HeldRecord) → last x.side ≡ held → last (other x.side) ≡ mid (other x.side) → role_at (other z.greater) mid ≡ not z.role
        → role_at (other z.greater) last ≡ not z.role
    lesser_next ranked last mine others was = elim (one_side (other z.greater) x.side) [
      | inl is ↦ ap (λ (s : Side). role_at s last) is ∙ (ap (λ (o : HeldRecord). o.agent.controlling) mine
          ∙ next.stays ranked (sym is) (ap (λ (s : Side). role_at s mid) (sym is) ∙ was))
      | inr is ↦ ap (λ (s : Side). role_at s last) is ∙ (ap (λ (o : HeldRecord). o.agent.controlling) others ∙ (ap (λ (s : Side). role_at s mid) (sym is) ∙ was))
    ]

  -- ---- all calls

  pub known : (first : Side → HeldRecord) → Known [] first → (made : List SideCall) (last : Side → HeldRecord) → Sessions first made last
      → (z.ranked ≡ true → AllKeep made) → AreCarried made → HaveFreshIds made → Known made last
  known first start [] last same_held keeps carried ids = record {
    ns = start.ns;
    notes = start.notes;
    half = λ side. subst (λ (o : HeldRecord). Half z start.ns [] side (opening side) (creds side) o) (sym (same_held side)) (start.half side);
  }
  known first start (x ∷ before) last (mid, session, does, others) keeps carried ids =
      known_next x before mid (last x.side) does (known first start before mid session (λ ranked y has. keeps ranked y (inr has)) carried.1 ids.1) keeps carried ids last refl others

  pub lesser_stays : z.ranked ≡ true → (first : Side → HeldRecord) → Known [] first → (before later : List SideCall) (mid last : Side → HeldRecord) → Sessions first before mid → Sessions mid later last
      → AllKeep (later ++ before) → AreCarried (later ++ before) → HaveFreshIds (later ++ before)
      → role_at (other z.greater) mid ≡ not z.role → role_at (other z.greater) last ≡ not z.role
  lesser_stays ranked first start before [] mid last session same_held keeps carried ids was = ap (λ (o : HeldRecord). o.agent.controlling) (same_held (other z.greater)) ∙ was
  lesser_stays ranked first start before (x ∷ later) mid last session (near, sessions, does, others) keeps carried ids was =
      lesser_next x (later ++ before) near (last x.side) does
      (known first start (later ++ before) near (joined first before later mid near session sessions) (λ ranked y has. keeps y (inr has)) carried.1 ids.1) (λ ranked. keeps) carried ids ranked last refl others
      (lesser_stays ranked first start before later mid near session sessions (λ y has. keeps y (inr has)) carried.1 ids.1 was)
