-- A `handle_timeout` call that selects no path, at which an urgent pair is due, checks it, or goes to the pair that is due first and lets the next
-- check go ahead, or checks the selected pair or an urgent pair whose turn comes before.
use Rattle.is_stun.specs.declared.header.Class.TheVariants as class
use Rattle.is_theorems.proofs.Common.{◌&&◌, ◌+◌, ◌<◌, ◌==◌, ◌||◌, ◌∙◌, ◌≡◌, ◌≤◌, ◌⊎◌, AgentRecord, all_scheduled, ap, are_kinds_in_turn, arith}
use Rattle.is_theorems.proofs.Common.{scheduled, at_timeout, Bool, ChecksTop, due_time_of, Emitted, eq-eqb, eqb-true, expired_gone, false}
use Rattle.is_theorems.proofs.Common.{followed, found-in, gives_way, GoesAhead, Has, has-any, has_first, has_urgent, hastened, IceCreds}
use Rattle.is_theorems.proofs.Common.{if◌then◌else◌, inl, inr, is_ahead_turn, is_brought, is_due, is_expired, is_first_due, is_modern}
use Rattle.is_theorems.proofs.Common.{is_named_by, is_numbered, is_some, is_urgent, IsNextAhead, IsNextDue, IsNextInTurn, IsNextToCheck}
use Rattle.is_theorems.proofs.Common.{Issued, issued_as, kind_of, last_of, List, list_any, MaintainsPairs, map, MatchBool, MayCheck, nat_le}
use Rattle.is_theorems.proofs.Common.{nat_tests, Nominates, nominates_at_once, None, none_pass, not, Option, pair_selected, PairRecord}
use Rattle.is_theorems.proofs.Common.{Path, path_left, path_of, precedence, refl, remains, RemovesExpired, selected_in, selection_of, Some}
use Rattle.is_theorems.proofs.Common.{Stream, subst, sym, true, turn_of, TurnsBefore, ℕ}
use Rattle.is_theorems.proofs.BasicLemmas.PairsInTurn.{ahead-or-along, in-turn, next-has, none-is-due}
use Rattle.is_theorems.proofs.CallEffects.ServedRequests.{Has-mapped}
use Rattle.is_theorems.proofs.DuePairs.AfterNominationAndRemoval.{Distinct, Has-kept, leaves-thins}
use Rattle.is_theorems.proofs.DuePairs.FirstDuePair.{next-check}
use Rattle.is_theorems.proofs.KindTurns.ChecksByKind.{path_by, precedence_by, view_of, Checks, TurnView}
use Rattle.is_theorems.proofs.RuleEffects.ChangedPairs.{Has-map}
use Rattle.is_theorems.proofs.RuleEffects.EarlierAndNewPairs.{Has-filter}
use Rattle.is_theorems.proofs.RuleEffects.NominatedPairs.{selects_path, SelectsPath}
use Rattle.is_theorems.proofs.RuleEffects.UnchangedSettings.{either}
use Rattle.is_theorems.proofs.RuleEffects.HastenedPairs.{left-has, left-was, only-due, Hastens}
use Rattle.is_theorems.proofs.RuleEffects.UnhastenedPairs.{due-stays, urgent-stays}

le-is : (n m : ℕ) → n ≤ m → nat_le n m ≡ true
le-is n m h = grind (arith, nat_tests, h)

-- ---- the turn of a pair

abbrev place : Bool → Bool → Bool → ℕ → ℕ
place named first brought turn = if named then 0 else (if first then (if brought then 2 else 1) else 3 + turn)

brought-most : (b : Bool) (x : ℕ) → 3 + x ≤ (if b then 2 else 1) → ⊥
brought-most true x h = omega (arith, h)
brought-most false x h = omega (arith, h)

-- what comes before an urgent pair is urgent, or the selected pair
first-before : (named_q named_p first_q first_p brought_q brought_p : Bool) (turn_q turn_p : ℕ) (Before : Type 0) → named_q ≡ false → first_p ≡ true
    → (place named_q first_q brought_q turn_q < place named_p first_p brought_p turn_p)
    ⊎ ((place named_q first_q brought_q turn_q ≡ place named_p first_p brought_p turn_p) × Before)
    → first_q ≡ true
first-before true named_p first_q first_p brought_q brought_p turn_q turn_p Before off on h = absurd (cc)
first-before false named_p true first_p brought_q brought_p turn_q turn_p Before off on h = refl
first-before false named_p false false brought_q brought_p turn_q turn_p Before off on h = absurd (cc)
first-before false true false true brought_q brought_p turn_q turn_p Before off on (inl less) = absurd (none less) where
  none : 3 + turn_q < 0 → ⊥
  none h = omega (arith, h)
first-before false true false true brought_q brought_p turn_q turn_p Before off on (inr (same, before)) = absurd (none same) where
  none : 3 + turn_q ≡ 0 → ⊥
  none h = omega (arith, h)
first-before false false false true brought_q brought_p turn_q turn_p Before off on (inl less) = absurd (brought-most brought_p turn_q (omega (arith, less)))
first-before false false false true brought_q brought_p turn_q turn_p Before off on (inr (same, before)) = absurd (brought-most brought_p turn_q (omega (arith, same)))

both-are : (a b : Bool) → (a && b) ≡ true → b ≡ true
both-are true b h = h
both-are false b h = absurd (let no : false ≡ true = h in cc)

and-is : (a b : Bool) → a ≡ true → b ≡ true → (a && b) ≡ true
and-is true b h k = k
and-is false b h k = absurd (let no : false ≡ true = h in cc)

or-second : (a b : Bool) → b ≡ true → (a || b) ≡ true
or-second true b is = refl
or-second false b is = is

-- by either profile, no pair goes first that is not the selected one
still-unnamed : (b : Bool) (o : Option ℕ) (p : PairRecord) → is_named_by o p ≡ false → is_named_by (if b then o else None) p ≡ false
still-unnamed true o p off = off
still-unnamed false o p off = refl

turn-is : (modern ahead turns first : Bool) → modern ≡ true → first ≡ true → (modern && ahead && (turns || first)) ≡ ahead
turn-is true true true first on due = refl
turn-is true true false first on due = due
turn-is true false turns first on due = refl
turn-is false ahead turns first on due = absurd (let no : false ≡ true = on in cc)

selected-named : (number : Option ℕ) (ps : List PairRecord) (q : PairRecord) → Some q ≡ pair_selected number ps → is_named_by number q ≡ true
selected-named None ps q is = absurd (let no : Some q ≡ None = is in cc)
selected-named (Some n) ps q is = eq-eqb n q.number (sym (eqb-true q.number n (found-in (is_numbered n) ps q (sym is)).1))

-- neither evaluation of nomination selects a path
none-selected : (first second : Option Path) → is_some (last_of (selected_in first second)) ≡ false → (first ≡ None) × (second ≡ None)
none-selected None None h = (refl, refl)
none-selected None (Some q) h = absurd (let no : true ≡ false = h in cc)
none-selected (Some p) None h = absurd (let no : true ≡ false = h in cc)
none-selected (Some p) (Some q) h = absurd (let no : true ≡ false = h in cc)

-- The pair o is checked before p: it is the selected one, or urgent, and its turn comes before.
abbrev pub Precedes : TurnView → ℕ → PairRecord → PairRecord → Type 0
Precedes v now p o =
    (is_named_by v.selected_pair o ≡ true)
    ⊎ ((is_urgent o ≡ true) × TurnsBefore v.local v.remote (precedence_by v) v.next_kind now v.timing o p)

-- a pair that is hastened comes before only if it came before
precedes-as-was : {H P : Type 0} (a : AgentRecord H P) (v : TurnView) (now : ℕ) (p o : PairRecord) → a.selected_pair ≡ v.selected_pair
    → Precedes v now p (hastened (Hastens now a) now o) → Precedes v now p o
precedes-as-was a v now p o one (inl named) = inl (sym (ap (λ (x : PairRecord). is_named_by v.selected_pair x) (only-due (Hastens now a) now o)) ∙ named)
precedes-as-was a v now p o one (inr (urgent, before)) = by (urgent-stays now a o was) where
  was : is_urgent o ≡ true
  was = sym (ap (λ (x : PairRecord). is_urgent x) (only-due (Hastens now a) now o)) ∙ urgent

  by : (hastened (Hastens now a) now o ≡ o) ⊎ (is_named_by a.selected_pair o ≡ true) → Precedes v now p o
  by (inl stays) = inr (was, subst (λ (x : PairRecord). TurnsBefore v.local v.remote (precedence_by v) v.next_kind now v.timing x p) stays before)
  by (inr named) = inl (ap (λ s. is_named_by s o) (sym one) ∙ named)

module _ {H P : Type 0} where
  -- another pair o is checked, before p
  abbrev pub Overtakes : ℕ → AgentRecord H P → Option Issued → PairRecord → Type 0
  Overtakes now old issued p =
      (o : PairRecord) × Has old.pairs o × ((o.number ≡ p.number) → ⊥) × Checks old issued o × Precedes (view_of old) now p o

  -- each second check may go ahead
  pub record Alternates (now : ℕ) (old : AgentRecord H P) (issued : Option Issued) (new : AgentRecord H P) (p : PairRecord) : Type 0 where
    pub alternates : new.ahead_turn ≡ not old.ahead_turn
    pub overtakes : old.ahead_turn ≡ true → Overtakes now old issued p

  module _ (mac : H → List ℕ → List ℕ → List ℕ) (now : ℕ) where
    check-alternates : (old new : AgentRecord H P) (s u : Stream) (issued : Option Issued) → is_some old.remote_creds ≡ true → old.lite ≡ false → Distinct old.pairs
        → is_modern old.timing ≡ true → (p : PairRecord) → Has old.pairs p → is_urgent p ≡ true → due_time_of now old.timing p ≤ now
        → MayCheck mac now old.remote_creds old s issued new u → Checks old issued p ⊎ Alternates now old issued new p
    check-alternates old new s u issued known full distinct rule p has urgent due h =
        let k = next-check mac now old.remote_creds old new s u issued known full h in by-next k.0 k.1 k.2 k.3 where
          in_asked : Has (map (scheduled now old.timing) old.pairs) (scheduled now old.timing p)
          in_asked = Has-mapped (scheduled now old.timing) old.pairs p has

          p_due : is_due now old.timing (scheduled now old.timing p) ≡ true
          p_due = le-is (due_time_of now old.timing p) now (omega (arith, due))

          p_first : ((precedence old).urgent && is_urgent p) ≡ true
          p_first = and-is (precedence old).urgent (is_urgent p) rule urgent

          some_first : has_first now (all_scheduled now old) ≡ true
          some_first = has-any (is_first_due (precedence old) now old.timing) (map (scheduled now old.timing) old.pairs) (scheduled now old.timing p) in_asked
              (and-is (is_due now old.timing (scheduled now old.timing p)) _ p_due (or-second (is_named_by (precedence old).selected p) ((precedence old).urgent && is_urgent p) p_first))

          ahead : is_ahead_turn now (all_scheduled now old) ≡ old.ahead_turn
          ahead = turn-is (is_modern old.timing) old.ahead_turn (are_kinds_in_turn old) (has_first now (all_scheduled now old)) rule some_first

          -- a pair that is checked ahead
          by-turn : (o : PairRecord) → TurnsBefore old.local old.remote (precedence old) old.next_kind now old.timing o p → (b : Bool) → is_named_by old.selected_pair o ≡ b → Precedes (view_of old) now p o
          by-turn o h true named = inl named
          by-turn o h false off = inr (
            both-are (precedence old).urgent (is_urgent o) (first-before (is_named_by (precedence old).selected o) (is_named_by (precedence old).selected p) ((precedence old).urgent && is_urgent o)
                ((precedence old).urgent && is_urgent p) (is_brought old.remote o) (is_brought old.remote p) (turn_of old.next_kind (kind_of old.local old.remote o))
                (turn_of old.next_kind (kind_of old.local old.remote p)) _ (still-unnamed (is_modern old.timing) old.selected_pair o off) p_first h),
            h,
          )

          some_urgent : has_urgent now (all_scheduled now old) ≡ true
          some_urgent = has-any (is_first_due (record { selected = None; urgent = true }) now old.timing) (map (scheduled now old.timing) old.pairs) (scheduled now old.timing p) in_asked
              (and-is (is_due now old.timing (scheduled now old.timing p)) (is_urgent p) p_due urgent)

          -- the next pair, if the check may go ahead: none is asked along
          ahead-next : (q : PairRecord) → IsNextInTurn now (all_scheduled now old) (Some q) → old.ahead_turn ≡ true
              → IsNextAhead old.local old.remote (precedence old) old.next_kind now old.timing (map (scheduled now old.timing) old.pairs) (Some q)
          ahead-next q turn on = elim (ahead-or-along now (all_scheduled now old) q
              (subst (λ b. MatchBool b (GoesAhead now (all_scheduled now old) (Some q)) (IsNextDue now old.timing (map (scheduled now old.timing) old.pairs) (Some q))) (ahead ∙ on) turn)) [
                | inl next ↦ next
                | inr along ↦ absurd (let no : true ≡ false = sym some_urgent ∙ along.no_urgent in cc)
              ]

          precedes : (q o : PairRecord) → scheduled now old.timing o ≡ q → IsNextToCheck now (all_scheduled now old) (Some q) → old.ahead_turn ≡ true → (b : Bool) → nominates_at_once (all_scheduled now old) ≡ b
              → Precedes (view_of old) now p o
          precedes q o o_is chosen on true at_once =
              inl (subst (λ (x : PairRecord). is_named_by old.selected_pair x ≡ true) (sym o_is) (selected-named old.selected_pair (map (scheduled now old.timing) old.pairs) q
              (subst (λ b. MatchBool b (Some q ≡ pair_selected old.selected_pair (map (scheduled now old.timing) old.pairs)) (IsNextInTurn now (all_scheduled now old) (Some q))) at_once chosen)))
          precedes q o o_is chosen on false calm =
              by-turn o (subst (λ (x : PairRecord). TurnsBefore old.local old.remote (precedence old) old.next_kind now old.timing x (scheduled now old.timing p)) (sym o_is)
              ((ahead-next q (in-turn now (all_scheduled now old) (Some q) calm chosen) on).2 (scheduled now old.timing p) in_asked p_due)) (is_named_by old.selected_pair o) refl

          whose : (q : PairRecord) (id : List ℕ) → IsNextToCheck now (all_scheduled now old) (Some q) → issued ≡ Some (issued_as (path_of old q) class.Request id)
              → new.ahead_turn ≡ not (is_ahead_turn now (all_scheduled now old)) → (o : PairRecord) → Has old.pairs o → scheduled now old.timing o ≡ q → (b : Bool) → (o.number == p.number) ≡ b
              → Checks old issued p ⊎ Alternates now old issued new p
          whose q id chosen is alternates o o_has o_is true same =
              let one : o ≡ p = distinct o p o_has has (eqb-true o.number p.number same) in
              inl (id, is ∙ ap (λ (x : PairRecord). Some (issued_as (path_of old x) class.Request id)) (sym o_is ∙ ap (scheduled now old.timing) one))
          whose q id chosen is alternates o o_has o_is false apart = inr (record {
            alternates = alternates ∙ ap not ahead;
            overtakes = λ on. (
              o,
              o_has,
              (λ one. (let no : true ≡ false = sym (eq-eqb o.number p.number one) ∙ apart in cc)),
              (id, is ∙ ap (λ (x : PairRecord). Some (issued_as (path_of old x) class.Request id)) (sym o_is)),
              precedes q o o_is chosen on (nominates_at_once (all_scheduled now old)) refl,
            );
          })

          by-next : (peer : IceCreds) (next : Option PairRecord) → IsNextToCheck now (all_scheduled now old) next → ChecksTop mac now peer next (all_scheduled now old) s issued new u
              → Checks old issued p ⊎ Alternates now old issued new p
          by-next peer None chosen h = absurd (none_pass (is_due now old.timing) (map (scheduled now old.timing) old.pairs) (scheduled now old.timing p) (none-is-due now (all_scheduled now old) chosen) in_asked p_due)
          by-next peer (Some q) chosen (id, drawn, values, is, made) =
              let o = Has-map (scheduled now old.timing) old.pairs q (next-has now (all_scheduled now old) q chosen) in
              whose q id chosen is (ap (λ (a : AgentRecord H P). a.ahead_turn) made) o.0 o.1 o.2 (o.0.number == p.number) refl

    -- ---- nomination, and removed pairs

    -- nomination that selects no path changes nothing
    nominates-none : (old new : AgentRecord H P) (path : Option Path) → Nominates old path new → path ≡ None → new ≡ old
    nominates-none old new path h none = from (selects_path old new path h) where
      from : SelectsPath old path new → new ≡ old
      from (None, greatest, (is, made)) = made
      from (Some top, greatest, k) = either (remains (followed old) top (selection_of old)) k
          (λ _ l. l.1)
          (λ _ l. absurd (let no : Some (path_of old top) ≡ None = sym l.0 ∙ none in cc))

    -- the pairs that are left
    abbrev Leaves : AgentRecord H P → AgentRecord H P → Type 0
    Leaves old kept =
        (view_of kept ≡ view_of old) × ((q : PairRecord) → Has kept.pairs q → Has old.pairs q)
        × ((q : PairRecord) → Has old.pairs q → not (is_expired now old q) ≡ true → Has kept.pairs q)

    removes-none : (old kept : AgentRecord H P) (path : Option Path) → RemovesExpired now old path kept → path ≡ None → Leaves old kept
    removes-none old kept path h none = either (list_any (is_expired now old) old.pairs) h
        (λ _ k. (let same : k.0 ≡ expired_gone now old = nominates-none (expired_gone now old) k.0 path k.1 none in
        let pairs : kept.pairs ≡ (expired_gone now old).pairs = ap (λ (a : AgentRecord H P). a.pairs) k.2 ∙ ap (λ (a : AgentRecord H P). a.pairs) same in (
          ap (λ (a : AgentRecord H P). view_of a) k.2 ∙ ap (λ (a : AgentRecord H P). view_of a) same,
          (λ q there. Has-filter (λ x. not (is_expired now old x)) old.pairs q (subst (λ ps. Has ps q) pairs there)),
          (λ q there stays. subst (λ ps. Has ps q) (sym pairs) (Has-kept (λ x. not (is_expired now old x)) old.pairs q there stays)),
        )))
        (λ _ k. (
          ap (λ (a : AgentRecord H P). view_of a) k.1,
          (λ q there. subst (λ ps. Has ps q) (ap (λ (a : AgentRecord H P). a.pairs) k.1) there),
          (λ q there stays. subst (λ ps. Has ps q) (sym (ap (λ (a : AgentRecord H P). a.pairs) k.1)) there),
        ))

    -- ---- the `handle_timeout` call

    pub timeout-alternates : (old new : AgentRecord H P) (s u : Stream) (emitted : Emitted) → is_some old.remote_creds ≡ true → old.lite ≡ false → Distinct old.pairs
        → is_modern old.timing ≡ true → is_some (last_of emitted.selected_paths) ≡ false
        → (p : PairRecord) → Has old.pairs p → is_urgent p ≡ true → due_time_of now old.timing p ≤ now → not (is_expired now old p) ≡ true → gives_way now old p ≡ false
        → MaintainsPairs mac now old s emitted new u → Checks old emitted.issued p ⊎ Alternates now old emitted.issued new p
    timeout-alternates old new s u emitted known full distinct rule quiet p has urgent due stays keeps (first, second, issued, named, kept, nominating, giving, checking, is) =
        let none = none-selected first second (sym (ap (λ (x : Emitted). is_some (last_of x.selected_paths)) is) ∙ quiet) in
        let same : named ≡ path_left now (at_timeout now old) = nominates-none (path_left now (at_timeout now old)) named first nominating none.0 in
        let further : Leaves (path_left now (at_timeout now old)) kept = removes-none (path_left now (at_timeout now old)) kept second (subst (λ (x : AgentRecord H P). RemovesExpired now x second kept) same giving) none.1 in
        let there : Has kept.pairs p =
        further.2 p (subst (λ (x : PairRecord). Has (path_left now (at_timeout now old)).pairs x) (due-stays (Hastens now (at_timeout now old)) now old.timing p due) (left-has now (at_timeout now old) p has keeps)) stays in
        let view : view_of kept ≡ view_of old = further.0 in
        taken kept (λ q q_has. left-was now (at_timeout now old) q (further.1 q q_has)) view (ap (λ (x : Emitted). x.issued) is)
        (check-alternates kept new s u issued (ap (λ (v : TurnView). is_some v.remote_creds) view ∙ known) (ap (λ (v : TurnView). v.lite) view ∙ full)
        (λ x y x_has y_has one. (leaves-thins now (at_timeout now old)).1.distinct distinct x y (further.1 x x_has) (further.1 y y_has) one) (ap (λ (v : TurnView). is_modern v.timing) view ∙ rule) p there urgent
        (subst (λ (v : TurnView). due_time_of now v.timing p ≤ now) (sym view) due) checking) where
          on-path : (kept : AgentRecord H P) (issued : Option Issued) → view_of kept ≡ view_of old → emitted.issued ≡ issued → (q : PairRecord) → Checks kept issued q → Checks old emitted.issued q
          on-path kept issued view issues q (id, out) = (id, issues ∙ (out ∙ ap (λ (v : TurnView). Some (issued_as (path_by v q) class.Request id)) view))

          taken : (kept : AgentRecord H P) → ((q : PairRecord) → Has kept.pairs q → (o : PairRecord) × Has old.pairs o × (hastened (Hastens now (at_timeout now old)) now o ≡ q))
              → view_of kept ≡ view_of old → {issued : Option Issued} → emitted.issued ≡ issued
              → Checks kept issued p ⊎ Alternates now kept issued new p → Checks old emitted.issued p ⊎ Alternates now old emitted.issued new p
          taken kept back view {issued = issued} issues (inl checks) = inl (on-path kept issued view issues p checks)
          taken kept back view {issued = issued} issues (inr t) = inr (record {
            alternates = t.alternates ∙ ap (λ (v : TurnView). not v.ahead_turn) view;
            overtakes = λ on. (let (o, there, apart, (id, out), precedes) = t.overtakes (ap (λ (v : TurnView). v.ahead_turn) view ∙ on) in
                let (was, was_there, is) = back o there in
                let same : o ≡ record was { due = o.due } = sym is ∙ (only-due (Hastens now (at_timeout now old)) now was ∙ ap (λ (x : PairRecord). record was { due = x.due }) is) in (
                  was,
                  was_there,
                  (λ one. apart (ap (λ (x : PairRecord). x.number) same ∙ one)),
                  on-path kept issued view issues was (id, out ∙ ap (λ (x : PairRecord). Some (issued_as (path_of kept x) class.Request id)) same),
                  subst (λ (v : TurnView). Precedes v now p was) view
                      (precedes-as-was (at_timeout now old) (view_of kept) now p was (ap (λ (v : TurnView). v.selected_pair) (sym view)) (subst (λ (x : PairRecord). Precedes (view_of kept) now p x) (sym is) precedes)),
                ));
          })
