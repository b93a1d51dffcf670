-- The roles of two agents of C, from `is_ice_agent_new` on. What mutants/specifications changes is read by tactics.
use Rattle.std.specs.Prelude.{◌≢◌}
use Rattle.is_c_theorems.specs.TwoAgents.{sets_role}
use Rattle.is_c_theorems.proofs.Common.{[], ◌&&◌, ◌++◌, ◌<◌, ◌∙◌, ◌∷◌, ◌≡◌, ◌⊎◌, A, answers, ap, append-nil, AreCarried, B, Begins, Bool}
use Rattle.is_c_theorems.proofs.Common.{controlling_set, Does, EachKeeps, false, FixTimes, fresh_held, GreaterKeepsRole, HaveFreshIds, Held}
use Rattle.is_c_theorems.proofs.Common.{HeldRecord, IceCreds, inl, inr, IsFair, IsLogOf, keeps_role, LesserSwitchesOnce, List, mac_of}
use Rattle.is_c_theorems.proofs.Common.{modern_settings, newborn, NextTimeoutFrom, None, not, Option, other, Path, refl, role_at}
use Rattle.is_c_theorems.proofs.Common.{RolesStayOpposite, Session, Sessions, SetControlling, setters_of, Side, SideCall, Some, subst, sym}
use Rattle.is_c_theorems.proofs.Common.{true, Use, Used, ℕ, ℤ}
use Rattle.is_c_theorems.proofs.CallsAsSteps.{never, either}
use Rattle.is_c_theorems.proofs.ClaimedRoles.{not_self, Setting, Mind}
use Rattle.is_c_theorems.proofs.IssuedRequests.{checks_none, unless_timeout}
use Rattle.is_c_theorems.proofs.LogsOfCalls.{Ran, walk, log_is, run_is}
use Rattle.is_c_theorems.proofs.PacketsGiven.{use_marks, times_as_marked}
use Rattle.is_c_theorems.proofs.RolesOfTwo.{Opening, AllKeep, Issued_in, setters_issue, Paths, Trades, Fresh, Turns, Half, Known, joined}
use Rattle.is_c_theorems.proofs.RolesOfTwo.{known, lesser_stays}
use Rattle.is_c_theorems.proofs.SettingsOfCalls.{Log, rest_of}

-- ---- an agent whose role C may have set

module _ (creds : IceCreds) (tie : ℕ) where
  abbrev pub in_role : Bool → Held
  in_role role = record (fresh_held creds tie).agent { controlling = role }

  abbrev pub IsOpen : HeldRecord → Type 0
  IsOpen held = (role : Bool) × (held.agent ≡ in_role role) × (held.waiting ≡ None)

  -- the agent is not lite
  role_set : (role : Bool) (code : ℤ) (mid held : HeldRecord) → IsOpen mid → Does (SetControlling role) mid code held → IsOpen held
  role_set role code mid held (was, agent_is, none) h = either (keeps_role mid.agent && role)
      (λ k. (was, ap (λ (h : HeldRecord). h.agent) k.1 ∙ agent_is, ap (λ (h : HeldRecord). h.waiting) k.1 ∙ none))
      (λ k. (role, ap (λ (h : HeldRecord). h.agent) k.1 ∙ ap (λ (a : Held). controlling_set role a) agent_is, ap (λ (h : HeldRecord). h.waiting) k.1 ∙ none)) h

  -- an agent without a time of a last call is not changed by a poll for its next timeout
  fixed : (last : Option ℕ) (a b : Held) (deadline : Option ℕ) → last ≡ None → NextTimeoutFrom last a deadline b → b ≡ a
  fixed None a b deadline is k = k.1
  fixed (Some at) a b deadline is k = let wrong_ : Some at ≡ None = is in absurd (cc)

  times_fixed : (soon : Bool) (code : ℤ) (mid held : HeldRecord) → IsOpen mid → Does (FixTimes soon) mid code held → IsOpen held
  times_fixed soon code mid held (was, agent_is, none) (deadline, polls, coded, is) = (
    was,
    fixed mid.agent.last_time mid.agent held.agent deadline (ap (λ (a : Held). a.last_time) agent_is) polls ∙ agent_is,
    ap (λ (h : HeldRecord). h.waiting) is ∙ none,
  )

  pub opened : (uses : List Used) (held : HeldRecord) → Session (fresh_held creds tie) uses held → EachKeeps sets_role uses → IsOpen held
  opened [] held is each = ((fresh_held creds tie).agent.controlling, ap (λ (h : HeldRecord). h.agent) is, ap (λ (h : HeldRecord). h.waiting) is)
  opened (u ∷ before) held (mid, session, does) each = by (opened before mid session (rest_of sets_role u before each)) u.export (each u (inl refl)) does where
    by : IsOpen mid → (export : Use) → sets_role export ≡ true → Does export mid u.code held → IsOpen held
    by was (SetControlling role) is k = role_set role u.code mid held was k
    by was (FixTimes soon) is k = times_fixed soon u.code mid held was k
    by was _ is k = never is

  open_marks : (export : Use) → sets_role export ≡ true → (use_marks export).1 ≡ false
  open_marks (SetControlling role) is = refl
  open_marks (FixTimes soon) is = refl
  open_marks _ is = never is

  -- it sent no check
  open_silent : (uses : List Used) (log : Log) (last : Held) → IsLogOf uses log → EachKeeps sets_role uses → Ran (newborn creds tie) log last
      → (path : Path) (id : List ℕ) → Issued_in log path id → ⊥
  open_silent [] log last is each run path id sent = setters_issue (setters_of modern_settings) [] path id (subst (λ (l : Log). Issued_in l path id) is sent)
  open_silent (u ∷ before) log last (inl (none, logs)) each run path id sent = open_silent before log last logs (rest_of sets_role u before each) run path id sent
  open_silent (u ∷ before) log last (inr (rest, inl (x, is, of), logs)) each run path id sent =
      by (λ mid earlier was. open_silent before rest mid logs (rest_of sets_role u before each) earlier path id was)
      (subst (λ (l : Log). Ran (newborn creds tie) l last) is run) (subst (λ (l : Log). Issued_in l path id) is sent) where
        by : ((mid : Held) → Ran (newborn creds tie) rest mid → Issued_in rest path id → ⊥) → Ran (newborn creds tie) (x ∷ rest) last → Issued_in (x ∷ rest) path id → ⊥
        by on (mid, s, t, earlier, given, step) (inl now) = checks_none x.entry.emitted.issued path id
            (unless_timeout mac_of answers x.call mid last s t x.entry step (times_as_marked u.export x.call of.makes ∙ open_marks u.export (each u (inl refl)))) now
        by on (mid, s, t, earlier, given, step) (inr was) = on mid earlier was
  open_silent (u ∷ before) log last (inr (rest, inr (s, export, ok, is), logs)) each run path id sent =
      never (subst (λ (e : Use). sets_role e ≡ true) export (each u (inl refl)))

open_mind : (z : Setting) (side : Side) (creds : IceCreds) (role : Bool) → (z.ranked ≡ true → side ≡ z.greater → role ≡ z.role) → Mind z [] side (in_role creds (z.tie side) role)
open_mind z side creds role greater = record {
  tie = λ ranked. refl;
  greater = greater;
  packets = λ p has. absurd has;
  queue = λ q has. absurd has;
  kept = λ path id role (p, c, has, keeps, id_is, role_is, path_is). absurd has;
}

one_of : (b r : Bool) → (b ≡ r) ⊎ (b ≡ not r)
one_of true true = inl refl
one_of true false = inr refl
one_of false true = inr refl
one_of false false = inl refl

-- ---- parts of a list of calls

carried_rest : (later before : List SideCall) → AreCarried (later ++ before) → AreCarried before
carried_rest [] before all = all
carried_rest (x ∷ later) before all = carried_rest later before all.1

fresh_rest : (later before : List SideCall) → HaveFreshIds (later ++ before) → HaveFreshIds before
fresh_rest [] before all = all
fresh_rest (x ∷ later) before all = fresh_rest later before all.1

keep_rest : (later before : List SideCall) → AllKeep (later ++ before) → AllKeep before
keep_rest [] before all = all
keep_rest (x ∷ later) before all = keep_rest later before (λ y has. all y (inr has))

-- ---- the theorems

-- two new agents, and the network between them
pub record IsBegun (first : Side → HeldRecord) (made : List SideCall) : Type 0 where
  pub tie_breaker : Side → ℕ
  pub begins : (side : Side) → Begins (tie_breaker side) (first side)
  pub carried : AreCarried made
  pub fresh : HaveFreshIds made

carried_of : (first : Side → HeldRecord) (greater : Side) (made : List SideCall) → IsFair first greater made → AreCarried made
carried_of first greater made fair = search fair.carried

fresh_of : (first : Side → HeldRecord) (greater : Side) (made : List SideCall) → IsFair first greater made → HaveFreshIds made
fresh_of first greater made fair = search fair.fresh

abbrev begun_of : (first : Side → HeldRecord) (greater : Side) (made : List SideCall) → IsFair first greater made → IsBegun first made
begun_of first greater made fair =
    record { tie_breaker = fair.tie_breaker; begins = fair.begins; carried = carried_of first greater made fair; fresh = fresh_of first greater made fair }

module _ (paths : Paths) (trades : Trades) (new : Fresh) (turn : Turns) where
  -- two new agents
  module _ (first : Side → HeldRecord) (made : List SideCall) (begun : IsBegun first made) where
    pub all_carried : AreCarried made
    all_carried = begun.carried

    pub all_fresh : HaveFreshIds made
    all_fresh = begun.fresh

    abbrev pub opening : Opening
    opening = λ side. (begun.begins side).1

    abbrev pub creds_of : Side → IceCreds
    creds_of side = (begun.begins side).0

    pub only : (side : Side) → EachKeeps sets_role (opening side)
    only side = (begun.begins side).3

    -- of roles, or not
    abbrev pub setting : (ranked : Bool) (greater : Side) → (ranked ≡ true → begun.tie_breaker (other greater) < begun.tie_breaker greater) → Setting
    setting ranked greater less = record { tie = begun.tie_breaker; ranked = ranked; greater = greater; role = role_at greater first; greatest = less }

    module _ (ranked : Bool) (greater : Side) (less : ranked ≡ true → begun.tie_breaker (other greater) < begun.tie_breaker greater) where
      start_half : (side : Side) → Half (setting ranked greater less) [] [] side (opening side) (creds_of side) (first side)
      start_half side =
          let (creds, uses, session, each) = begun.begins side in
          let k = walk turn creds (begun.tie_breaker side) uses (first side) session in
          let logs = log_is turn creds (begun.tie_breaker side) uses k.0 (first side) k.1 in
          let run = run_is turn creds (begun.tie_breaker side) uses k.0 (first side) k.1 in
          let (role, agent_is, none) = opened creds (begun.tie_breaker side) uses (first side) session each in
          let mine : side ≡ greater → role ≡ role_at greater first = λ is. sym (ap (λ (a : Held). a.controlling) agent_is) ∙ ap (λ (s : Side). role_at s first) is in
          record {
            log = k.0;
            logs = logs;
            run = run;
            mind = subst (λ (a : Held). Mind (setting ranked greater less) [] side a) (sym agent_is) (open_mind (setting ranked greater less) side creds role (λ _. mine));
            waiting = λ p is. absurd (let wrong_ : None ≡ Some p = sym none ∙ is in cc);
            got = λ x to bytes m has. absurd has;
            issued = λ path id sent. absurd (open_silent creds (begun.tie_breaker side) uses k.0 (first side).agent logs each run path id sent);
          }

      pub start : Known paths trades new turn (setting ranked greater less) opening only creds_of [] first
      start = record { ns = []; notes = refl; half = start_half }

  module _ (first : Side → HeldRecord) (greater : Side) (made : List SideCall) (fair : IsFair first greater made) where
    abbrev begun : IsBegun first made
    begun = begun_of first greater made fair

    greatest_is : true ≡ true → fair.tie_breaker (other greater) < fair.tie_breaker greater
    greatest_is _ = search fair.tie

    all_keep : AllKeep made
    all_keep = search fair.keeps

    abbrev ranking : Setting
    ranking = setting first made begun true greater greatest_is

    stay : (before later : List SideCall) (mid last : Side → HeldRecord) → Sessions first before mid → Sessions mid later last
        → AllKeep (later ++ before) → AreCarried (later ++ before) → HaveFreshIds (later ++ before)
        → role_at (other greater) mid ≡ not (role_at greater first) → role_at (other greater) last ≡ not (role_at greater first)
    stay before later mid last session more keeps carried ids was =
        lesser_stays paths trades new turn ranking (opening first made begun) (only first made begun) (creds_of first made begun) refl first
        (start first made begun true greater greatest_is) before later mid last session more keeps carried ids was

    keeps_at : (some : List SideCall) (last : Side → HeldRecord) → Sessions first some last → AllKeep some → AreCarried some → HaveFreshIds some
        → role_at greater last ≡ role_at greater first
    keeps_at some last session keeps carried ids =
        ((known paths trades new turn ranking (opening first made begun) (only first made begun) (creds_of first made begun) first
        (start first made begun true greater greatest_is) some last session (λ ranked. keeps) carried ids).half greater).mind.greater refl refl

  pub greater_keeps : GreaterKeepsRole
  greater_keeps first last greater made fair session =
      search (keeps_at first greater made fair made last session (all_keep first greater made fair) (all_carried first made (begun_of first greater made fair)) (all_fresh first made (begun_of first greater made fair)))

  pub lesser_switches : LesserSwitchesOnce
  lesser_switches first mid last greater before later fair session more different =
      let keep = all_keep first greater (later ++ before) fair in
      let carry = all_carried first (later ++ before) (begun_of first greater (later ++ before) fair) in
      let fresh = all_fresh first (later ++ before) (begun_of first greater (later ++ before) fair) in
      let changed : role_at (other greater) mid ≢ role_at (other greater) first = search different in
      search (elim (one_of (role_at (other greater) mid) (role_at greater first)) as (λ _. role_at (other greater) last ≡ role_at (other greater) mid) [
        | inr differs ↦ stay first greater (later ++ before) fair before later mid last session more keep carry fresh differs ∙ sym differs
        | inl same ↦ elim (one_of (role_at (other greater) first) (role_at greater first)) [
          | inl was ↦ absurd (changed (same ∙ sym was))
          | inr was ↦ (
              let keeps : AllKeep (before ++ []) = subst (λ (l : List SideCall). AllKeep l) (sym (append-nil before)) (keep_rest later before keep) in
              let carried = subst (λ (l : List SideCall). AreCarried l) (sym (append-nil before)) (carried_rest later before carry) in
              let ids = subst (λ (l : List SideCall). HaveFreshIds l) (sym (append-nil before)) (fresh_rest later before fresh) in
              let stays = stay first greater (later ++ before) fair [] before first mid (λ side. refl) session keeps carried ids was in
              absurd (not_self (role_at greater first) (sym stays ∙ same)))
        ]
      ])

  apart : (greater : Side) (role : Bool) (all_held : Side → HeldRecord) → role_at greater all_held ≡ role → role_at (other greater) all_held ≡ not role
      → role_at A all_held ≢ role_at B all_held
  apart A role all_held is differs both = not_self role (sym differs ∙ (sym both ∙ is))
  apart B role all_held is differs both = not_self role (sym differs ∙ (both ∙ is))

  alike : (greater : Side) (role : Bool) (all_held : Side → HeldRecord) → role_at greater all_held ≡ role → role_at (other greater) all_held ≡ role
      → role_at A all_held ≡ role_at B all_held
  alike A role all_held is same = is ∙ sym same
  alike B role all_held is same = same ∙ sym is

  pub stay_opposite : RolesStayOpposite
  stay_opposite first mid last greater before later fair session more different =
      let keep = all_keep first greater (later ++ before) fair in
      let carry = all_carried first (later ++ before) (begun_of first greater (later ++ before) fair) in
      let fresh = all_fresh first (later ++ before) (begun_of first greater (later ++ before) fair) in
      let differ : role_at A mid ≢ role_at B mid = search different in
      let was = keeps_at first greater (later ++ before) fair before mid session (keep_rest later before keep) (carried_rest later before carry) (fresh_rest later before fresh) in
      let is = keeps_at first greater (later ++ before) fair (later ++ before) last (joined first before later mid last session more) keep carry fresh in
      search (elim (one_of (role_at (other greater) mid) (role_at greater first)) as (λ _. role_at A last ≢ role_at B last) [
        | inl same ↦ absurd (differ (alike greater (role_at greater first) mid was same))
        | inr differs ↦ apart greater (role_at greater first) last is (stay first greater (later ++ before) fair before later mid last session more keep carry fresh differs)
      ])
