-- While kinds take turns, a `handle_timeout` call at which a pair is due checks it, or goes to the pair that is due first and gives the next
-- check to a kind, or checks another pair in the turn of a kind.
use Rattle.is_stun.specs.declared.header.Class.TheVariants as class
use Rattle.is_theorems.proofs.Common.{◌&&◌, ◌+◌, ◌<◌, ◌==◌, ◌||◌, ◌∙◌, ◌≡◌, ◌≤◌, ◌⊎◌, AgentRecord, all_scheduled, ap, are_kinds_in_turn, arith}
use Rattle.is_theorems.proofs.Common.{scheduled, at_timeout, base_of, Bool, candidate_at, CandidateRecord, change_pair, checked, ChecksTop}
use Rattle.is_theorems.proofs.Common.{due_time_of, Emitted, eq-eqb, eqb-true, expired_gone, false, followed, goes_first, GoesAhead}
use Rattle.is_theorems.proofs.Common.{GoesBefore, Has, has_first, IceCreds, if◌then◌else◌, inl, inr, is_ahead_turn, is_brought, is_due}
use Rattle.is_theorems.proofs.Common.{is_expired, is_modern, is_named_by, is_some, is_urgent, IsNextAhead, IsNextDue, IsNextToCheck, Issued}
use Rattle.is_theorems.proofs.Common.{issued_as, kind_in, kind_of, KINDS, List, list_any, MaintainsPairs, map, MatchBool, MAX, MayCheck}
use Rattle.is_theorems.proofs.Common.{nat_le, nat_tests, next_kind_after, Nominates, nominates_at_once, None, none_pass, not, numbers}
use Rattle.is_theorems.proofs.Common.{Option, pair_selected, PairRecord, Path, path_left, path_of, Precedence, precedence, refl, remains}
use Rattle.is_theorems.proofs.Common.{RemovesExpired, selection_of, Some, Stream, StunTiming, subst, sym, true, turn_of, TurnsBefore, ℕ}
use Rattle.is_theorems.proofs.BasicLemmas.PairsInTurn.{ahead-or-along, in-turn, next-has, none-is-due, pairs-sent, sent_at}
use Rattle.is_theorems.proofs.CallEffects.ServedRequests.{Has-mapped}
use Rattle.is_theorems.proofs.DuePairs.AfterNominationAndRemoval.{Base, Distinct, Has-kept, base_of as agent_base, expires-thins}
use Rattle.is_theorems.proofs.DuePairs.AfterNominationAndRemoval.{names-thins}
use Rattle.is_theorems.proofs.DuePairs.FirstDuePair.{next-check}
use Rattle.is_theorems.proofs.EarlierChecks.ChecksOfOtherPairs.{leads, Counts, Measure}
use Rattle.is_theorems.proofs.EarlierChecks.LeavingPaths.{leads-left}
use Rattle.is_theorems.proofs.EarlierChecks.OneCheckFewer.{after-check, given-less, named-less, one-fewer-left}
use Rattle.is_theorems.proofs.KindTurns.OrderOfKinds.{kind-within, same-kind}
use Rattle.is_theorems.proofs.RuleEffects.ChangedPairs.{Has-map}
use Rattle.is_theorems.proofs.RuleEffects.EarlierAndNewPairs.{Has-filter}
use Rattle.is_theorems.proofs.RuleEffects.NominatedPairs.{selects_path, SelectsPath}
use Rattle.is_theorems.proofs.RuleEffects.UnchangedSettings.{either}
use Rattle.is_theorems.proofs.RuleEffects.PathsThatAreLeft.{unselected-left}

le-is : (n m : ℕ) → n ≤ m → nat_le n m ≡ true
le-is n m h = grind (arith, nat_tests, h)

-- ---- the turn of a pair

abbrev place : Bool → Bool → Bool → ℕ → ℕ
place named first brought turn = if named then 0 else (if first then (if brought then 2 else 1) else 3 + turn)

brought-most : (b : Bool) (x : ℕ) → 3 + x ≤ (if b then 2 else 1) → ⊥
brought-most true x h = omega (arith, h)
brought-most false x h = omega (arith, h)

placed : (named_q named_p first_q first_p brought_q brought_p : Bool) (turn_q turn_p : ℕ) (Before : Type 0) → named_q ≡ false → named_p ≡ false
    → (place named_q first_q brought_q turn_q < place named_p first_p brought_p turn_p)
    ⊎ ((place named_q first_q brought_q turn_q ≡ place named_p first_p brought_p turn_p) × Before)
    → (first_q ≡ true) ⊎ (((turn_q ≡ turn_p) × Before) ⊎ (turn_q < turn_p))
placed true named_p first_q first_p brought_q brought_p turn_q turn_p Before off_q off_p h = absurd (cc)
placed false true first_q first_p brought_q brought_p turn_q turn_p Before off_q off_p h = absurd (cc)
placed false false true first_p brought_q brought_p turn_q turn_p Before off_q off_p h = inl refl
placed false false false true brought_q brought_p turn_q turn_p Before off_q off_p (inl less) = absurd (brought-most brought_p turn_q (omega (arith, less)))
placed false false false true brought_q brought_p turn_q turn_p Before off_q off_p (inr (same, before)) = absurd (brought-most brought_p turn_q (omega (arith, same)))
placed false false false false brought_q brought_p turn_q turn_p Before off_q off_p (inl less) = inr (inr (omega (arith, less)))
placed false false false false brought_q brought_p turn_q turn_p Before off_q off_p (inr (same, before)) = inr (inl (omega (arith, same), before))

or-second : (a b : Bool) → b ≡ true → (a || b) ≡ true
or-second true b is = refl
or-second false b is = is

-- no path is selected, so no pair goes first for that
none-named : (b : Bool) (o : Option ℕ) (p : PairRecord) → o ≡ None → is_named_by (if b then o else None) p ≡ false
none-named true o p none = ap (λ x. is_named_by x p) none
none-named false o p none = refl

-- ---- what the turns depend on

pub record TurnView : Type 0 where
  pub local : List CandidateRecord
  pub remote : List CandidateRecord
  pub timing : StunTiming
  pub selected_pair : Option ℕ
  pub next_kind : ℕ
  pub ahead_turn : Bool
  pub lite : Bool
  pub remote_creds : Option IceCreds

abbrev pub precedence_by : TurnView → Precedence
precedence_by v = record { selected = if is_modern v.timing then v.selected_pair else None; urgent = is_modern v.timing }

abbrev pub kind_by : TurnView → PairRecord → ℕ
kind_by v p = kind_of v.local v.remote p

abbrev pub path_by : TurnView → PairRecord → Path
path_by v p = record {
  proto = (candidate_at v.local p.local).proto;
  source = base_of (candidate_at v.local p.local);
  destination = (candidate_at v.remote p.remote).addr;
}

some-not-none : (n : ℕ) → Some n ≡ None → ⊥
some-not-none n h = cc

none-some : (p : PairRecord) → None ≡ Some p → ⊥
none-some p h = cc

-- In the turn of a kind the pair o is checked before p: it goes before all kinds, or it is one of the same kind that goes before p, or its
-- kind comes before.
abbrev pub Precedes : TurnView → ℕ → PairRecord → PairRecord → Type 0
Precedes v now p o =
    (goes_first (precedence_by v) o ≡ true)
    ⊎ (((kind_by v o ≡ kind_by v p) × GoesBefore now v.timing o p) ⊎ (turn_of v.next_kind (kind_by v o) < turn_of v.next_kind (kind_by v p)))

none-at : (a b c d e : Bool) → e ≡ false → (a && b && c && d && e) ≡ false
none-at true true true true e is = is
none-at true true true false e is = refl
none-at true true false d e is = refl
none-at true false c d e is = refl
none-at false b c d e is = refl

turn-is : (modern ahead kinds first : Bool) → modern ≡ true → kinds ≡ true → (modern && ahead && (kinds || first)) ≡ ahead
turn-is true true true first on kinds_on = refl
turn-is true false kinds first on kinds_on = refl
turn-is true true false first on kinds_on = absurd (cc)
turn-is false ahead kinds first on kinds_on = absurd (cc)

both-first : (a b : Bool) → (a && b) ≡ true → a ≡ true
both-first true b is = refl
both-first false b is = absurd (cc)

module _ {H P : Type 0} where
  abbrev pub view_of : AgentRecord H P → TurnView
  view_of a = record {
    local = a.local;
    remote = a.remote;
    timing = a.timing;
    selected_pair = a.selected_pair;
    next_kind = a.next_kind;
    ahead_turn = a.ahead_turn;
    lite = a.lite;
    remote_creds = a.remote_creds;
  }

  pub kind-in-range : (a : AgentRecord H P) (p : PairRecord) → kind_in a p < KINDS
  kind-in-range a p = kind-within a.local (candidate_at a.local p.local) (candidate_at a.remote p.remote)

  -- without a selected path none is nominated at once
  unselected-calm : (now : ℕ) (a : AgentRecord H P) → a.selected_pair ≡ None → nominates_at_once (all_scheduled now a) ≡ false
  unselected-calm now a none =
      none-at a.controlling (not a.lite) (numbers a) a.nomination_due (is_some (pair_selected a.selected_pair (all_scheduled now a).pairs))
      (ap (λ o. is_some (pair_selected o (all_scheduled now a).pairs)) none)

  -- while kinds take turns, each second check goes ahead
  ahead-is : (now : ℕ) (a : AgentRecord H P) → are_kinds_in_turn a ≡ true → is_ahead_turn now a ≡ a.ahead_turn
  ahead-is now a turns =
      turn-is (is_modern a.timing) a.ahead_turn (are_kinds_in_turn a) (has_first now a) (both-first (is_modern a.timing) _ turns) turns

  -- ---- the check

  -- the check uses up one of those that are left, if the pair counts and is due by the time
  abbrev pub UsesUp : ℕ → ℕ → AgentRecord H P → AgentRecord H P → PairRecord → Type 0
  UsesUp by now old new o =
      (w : Measure) → w.skips o.number ≡ false → due_time_of now old.timing o ≤ by → Counts w.both o.nomination → leads w by new.pairs + 1 ≤ leads w by old.pairs

  -- a pair o is checked, which precedes p in the turn of a kind; after it the turn is that of the next kind
  abbrev pub TakesTurn : ℕ → ℕ → AgentRecord H P → Option Issued → AgentRecord H P → PairRecord → Type 0
  TakesTurn by now old issued new p =
      (o : PairRecord) × Has old.pairs o × ((o.number ≡ p.number) → ⊥) × ((id : List ℕ) × (issued ≡ Some (issued_as (path_of old o) class.Request id)))
      × (new.next_kind ≡ kind_in old o + 1) × Precedes (view_of old) now p o × UsesUp by now old new o

  -- each second check is in the turn of a kind; the others leave the turn
  pub record Turns (by now : ℕ) (old : AgentRecord H P) (issued : Option Issued) (new : AgentRecord H P) (p : PairRecord) : Type 0 where
    pub alternates : new.ahead_turn ≡ not old.ahead_turn
    pub waits : old.ahead_turn ≡ false → new.next_kind ≡ old.next_kind
    pub takes : old.ahead_turn ≡ true → TakesTurn by now old issued new p
    pub lessens : (w : Measure) → leads w by new.pairs ≤ leads w by old.pairs

  abbrev pub Checks : AgentRecord H P → Option Issued → PairRecord → Type 0
  Checks old issued p = (id : List ℕ) × (issued ≡ Some (issued_as (path_of old p) class.Request id))

  module _ (mac : H → List ℕ → List ℕ → List ℕ) (now by : ℕ) (late : by < now) (early : now < MAX) where
    -- a check leaves whether kinds take turns, and the selected pair
    check-keeps : (old new : AgentRecord H P) (s u : Stream) (issued : Option Issued) → is_some old.remote_creds ≡ true → old.lite ≡ false
        → MayCheck mac now old.remote_creds old s issued new u → (are_kinds_in_turn new ≡ are_kinds_in_turn old) × (new.selected_pair ≡ old.selected_pair)
    check-keeps old new s u issued known full h = let k = next-check mac now old.remote_creds old new s u issued known full h in by-next k.0 k.1 k.3 where
      by-next : (peer : IceCreds) (next : Option PairRecord) → ChecksTop mac now peer next (all_scheduled now old) s issued new u
          → (are_kinds_in_turn new ≡ are_kinds_in_turn old) × (new.selected_pair ≡ old.selected_pair)
      by-next peer None (is, made, drawn) = (ap (λ (a : AgentRecord H P). are_kinds_in_turn a) made, ap (λ (a : AgentRecord H P). a.selected_pair) made)
      by-next peer (Some q) (id, drawn, values, is, made) = (ap (λ (a : AgentRecord H P). are_kinds_in_turn a) made, ap (λ (a : AgentRecord H P). a.selected_pair) made)

    check-takes : (old new : AgentRecord H P) (s u : Stream) (issued : Option Issued) → is_some old.remote_creds ≡ true → old.lite ≡ false → Distinct old.pairs
        → 0 < old.timing.max_retransmits → are_kinds_in_turn old ≡ true → old.selected_pair ≡ None → (p : PairRecord) → Has old.pairs p → due_time_of now old.timing p ≤ by
        → MayCheck mac now old.remote_creds old s issued new u → Checks old issued p ⊎ Turns by now old issued new p
    check-takes old new s u issued known full distinct some turns none p has due h =
        let k = next-check mac now old.remote_creds old new s u issued known full h in by-next k.0 k.1 k.2 k.3 where
          in_asked : Has (map (scheduled now old.timing) old.pairs) (scheduled now old.timing p)
          in_asked = Has-mapped (scheduled now old.timing) old.pairs p has

          p_due : is_due now old.timing (scheduled now old.timing p) ≡ true
          p_due = le-is (due_time_of now old.timing p) now (omega (arith, due, late))

          calm : nominates_at_once (all_scheduled now old) ≡ false
          calm = unselected-calm now old none

          ahead : is_ahead_turn now (all_scheduled now old) ≡ old.ahead_turn
          ahead = ahead-is now (all_scheduled now old) turns

          kind_p : kind_in old p < KINDS
          kind_p = kind-in-range old p

          -- which pair is chosen in the turn of a kind
          precedes : (o : PairRecord) → TurnsBefore old.local old.remote (precedence old) old.next_kind now old.timing (scheduled now old.timing o) (scheduled now old.timing p)
              → Precedes (view_of old) now p o
          precedes o h = elim (placed (is_named_by (precedence old).selected o) (is_named_by (precedence old).selected p) ((precedence old).urgent && is_urgent o) ((precedence old).urgent && is_urgent p)
              (is_brought old.remote o) (is_brought old.remote p) (turn_of old.next_kind (kind_in old o)) (turn_of old.next_kind (kind_in old p)) (GoesBefore now old.timing o p)
              (none-named (is_modern old.timing) old.selected_pair o none) (none-named (is_modern old.timing) old.selected_pair p none) h) [
                | inl first ↦ inl (or-second (is_named_by (precedence old).selected o) ((precedence old).urgent && is_urgent o) first)
                | inr (inl (same, before)) ↦ inr (inl (same-kind old.next_kind (kind_in old o) (kind_in old p) (kind-in-range old o) kind_p same, before))
                | inr (inr less) ↦ inr (inr less)
              ]

          -- no pair is selected, so none is asked along
          in-kind-turn : (q : PairRecord) → IsNextToCheck now (all_scheduled now old) (Some q) → old.ahead_turn ≡ true
              → IsNextAhead old.local old.remote (precedence old) old.next_kind now old.timing (map (scheduled now old.timing) old.pairs) (Some q)
          in-kind-turn q chosen on = elim (ahead-or-along now (all_scheduled now old) q
              (subst (λ b. MatchBool b (GoesAhead now (all_scheduled now old) (Some q)) (IsNextDue now old.timing (map (scheduled now old.timing) old.pairs) (Some q))) (ahead ∙ on)
              (in-turn now (all_scheduled now old) (Some q) calm chosen))) [
                | inl next ↦ next
                | inr along ↦ absurd (none-some along.selected (sym (ap (λ o. pair_selected o (map (scheduled now old.timing) old.pairs)) none) ∙ along.chosen))
              ]

          kind-next : (q : PairRecord) → new.next_kind ≡ next_kind_after now q (all_scheduled now old) → (b : Bool) → is_ahead_turn now (all_scheduled now old) ≡ b
              → new.next_kind ≡ (if b then kind_of old.local old.remote q + 1 else old.next_kind)
          kind-next q is b same = is ∙ ap (λ c. if c then kind_of old.local old.remote q + 1 else old.next_kind) same

          plain : (q : PairRecord) (id : List ℕ)
              → new.pairs ≡ change_pair q.number (sent_at (nominates_at_once (all_scheduled now old)) now old.timing old.controlling id) (map (scheduled now old.timing) old.pairs)
              → new.pairs ≡ change_pair q.number (checked now old.timing old.controlling id) (map (scheduled now old.timing) old.pairs)
          plain q id sent = sent ∙ ap (λ b. change_pair q.number (sent_at b now old.timing old.controlling id) (map (scheduled now old.timing) old.pairs)) calm

          whose : (q : PairRecord) (id : List ℕ) → IsNextToCheck now (all_scheduled now old) (Some q) → issued ≡ Some (issued_as (path_of old q) class.Request id)
              → new.ahead_turn ≡ not (is_ahead_turn now (all_scheduled now old)) → new.next_kind ≡ next_kind_after now q (all_scheduled now old)
              → new.pairs ≡ change_pair q.number (sent_at (nominates_at_once (all_scheduled now old)) now old.timing old.controlling id) (map (scheduled now old.timing) old.pairs)
              → Has (map (scheduled now old.timing) old.pairs) q
              → (o : PairRecord) → Has old.pairs o → scheduled now old.timing o ≡ q → (b : Bool) → (o.number == p.number) ≡ b
              → Checks old issued p ⊎ Turns by now old issued new p
          whose q id chosen is alternates kinds sent there o o_has o_is true same =
              let one : o ≡ p = distinct o p o_has has (eqb-true o.number p.number same) in
              inl (id, is ∙ ap (λ (x : PairRecord). Some (issued_as (path_of old x) class.Request id)) (sym o_is ∙ ap (scheduled now old.timing) one))
          whose q id chosen is alternates kinds sent there o o_has o_is false apart = inr (record {
            alternates = alternates ∙ ap not ahead;
            waits = λ off. kind-next q kinds false (ahead ∙ off);
            takes = λ on. (
              o,
              o_has,
              (λ one. (let no : true ≡ false = sym (eq-eqb o.number p.number one) ∙ apart in cc)),
              (id, is ∙ ap (λ (x : PairRecord). Some (issued_as (path_of old x) class.Request id)) (sym o_is)),
              kind-next q kinds true (ahead ∙ on) ∙ ap (λ (x : PairRecord). kind_of old.local old.remote x + 1) (sym o_is),
              precedes o (subst (λ (x : PairRecord). TurnsBefore old.local old.remote (precedence old) old.next_kind now old.timing x (scheduled now old.timing p)) (sym o_is)
                  ((in-kind-turn q chosen on).2 (scheduled now old.timing p) in_asked p_due)),
              λ w counted o_due counts. subst (λ ps. leads w by ps + 1 ≤ leads w by old.pairs) (sym (plain q id sent))
                  (one-fewer-left now by late early old.timing old.controlling id some w old.pairs q there (due_time_of now old.timing o) (ap (λ (x : PairRecord). x.due) (sym o_is)) o_due
                  (subst (λ (x : PairRecord). w.skips x.number ≡ false) o_is counted) (subst (λ (x : PairRecord). Counts w.both x.nomination) o_is counts)),
            );
            lessens = λ w. subst (λ ps. leads w by ps ≤ leads w by old.pairs) (sym sent)
                (after-check now by late early old.timing old.controlling id some w (nominates_at_once (all_scheduled now old)) q.number old.pairs);
          })

          by-next : (peer : IceCreds) (next : Option PairRecord) → IsNextToCheck now (all_scheduled now old) next → ChecksTop mac now peer next (all_scheduled now old) s issued new u
              → Checks old issued p ⊎ Turns by now old issued new p
          by-next peer None chosen h = absurd (none_pass (is_due now old.timing) (map (scheduled now old.timing) old.pairs) (scheduled now old.timing p) (none-is-due now (all_scheduled now old) chosen) in_asked p_due)
          by-next peer (Some q) chosen (id, drawn, values, is, made) =
              let o = Has-map (scheduled now old.timing) old.pairs q (next-has now (all_scheduled now old) q chosen) in
              whose q id chosen is (ap (λ (a : AgentRecord H P). a.ahead_turn) made) (ap (λ (a : AgentRecord H P). a.next_kind) made)
              (pairs-sent mac now peer q id (all_scheduled now old) new made) (next-has now (all_scheduled now old) q chosen) o.0 o.1 o.2 (o.0.number == p.number) refl

    -- ---- nomination, and removed pairs

    -- where no path is selected after it, nomination changes nothing
    nominates-none : (old new : AgentRecord H P) (path : Option Path) → Nominates old path new → new.selected_pair ≡ None → new ≡ old
    nominates-none old new path h none = from (selects_path old new path h) where
      from : SelectsPath old path new → new ≡ old
      from (None, greatest, (is, made)) = made
      from (Some top, greatest, k) = either (remains (followed old) top (selection_of old)) k
          (λ _ l. l.1)
          (λ _ l. absurd (some-not-none top.number (sym (ap (λ (a : AgentRecord H P). a.selected_pair) l.1) ∙ none)))

    -- the pairs that are left
    abbrev Leaves : AgentRecord H P → AgentRecord H P → Type 0
    Leaves old kept =
        (view_of kept ≡ view_of old) × ((q : PairRecord) → Has kept.pairs q → Has old.pairs q)
        × ((q : PairRecord) → Has old.pairs q → not (is_expired now old q) ≡ true → Has kept.pairs q)

    removes-none : (old kept : AgentRecord H P) (path : Option Path) → RemovesExpired now old path kept → kept.selected_pair ≡ None → Leaves old kept
    removes-none old kept path h none = either (list_any (is_expired now old) old.pairs) h
        (λ _ k. (let same : k.0 ≡ expired_gone now old = nominates-none (expired_gone now old) k.0 path k.1 (sym (ap (λ (a : AgentRecord H P). a.selected_pair) k.2) ∙ none) in
        let pairs : kept.pairs ≡ (expired_gone now old).pairs = ap (λ (a : AgentRecord H P). a.pairs) k.2 ∙ ap (λ (a : AgentRecord H P). a.pairs) same in (
          ap (λ (a : AgentRecord H P). view_of a) k.2 ∙ ap (λ (a : AgentRecord H P). view_of a) same,
          (λ q there. Has-filter (λ x. not (is_expired now old x)) old.pairs q (subst (λ ps. Has ps q) pairs there)),
          (λ q there stays. subst (λ ps. Has ps q) (sym pairs) (Has-kept (λ x. not (is_expired now old x)) old.pairs q there stays)),
        )))
        (λ _ k. (
          ap (λ (a : AgentRecord H P). view_of a) k.1,
          (λ q there. subst (λ ps. Has ps q) (ap (λ (a : AgentRecord H P). a.pairs) k.1) there),
          (λ q there stays. subst (λ ps. Has ps q) (sym (ap (λ (a : AgentRecord H P). a.pairs) k.1)) there),
        ))

    -- ---- the `handle_timeout` call

    pub timeout-takes : (old new : AgentRecord H P) (s u : Stream) (emitted : Emitted) → is_some old.remote_creds ≡ true → old.lite ≡ false → Distinct old.pairs
        → 0 < old.timing.max_retransmits → are_kinds_in_turn new ≡ true → new.selected_pair ≡ None → (p : PairRecord) → Has old.pairs p → due_time_of now old.timing p ≤ by
        → not (is_expired now old p) ≡ true
        → (h : MaintainsPairs mac now old s emitted new u)
        → (nominates_at_once (all_scheduled now h.4) ≡ false) × (Checks old emitted.issued p ⊎ Turns by now old emitted.issued new p)
    timeout-takes old new s u emitted known full distinct some turns none p has due stays (first, second, issued, named, kept, nominating, giving, checking, is) =
        let a = names-thins now (at_timeout now old) named first nominating in
        let b = expires-thins 0 now named kept second giving in
        let base : agent_base kept ≡ agent_base (at_timeout now old) = b.0 ∙ a.0 in
        let known_kept : is_some kept.remote_creds ≡ true = ap (λ (x : Base). is_some x.remote_creds) base ∙ known in
        let full_kept : kept.lite ≡ false = ap (λ (x : Base). x.lite) base ∙ full in
        let keeps = check-keeps kept new s u issued known_kept full_kept checking in
        let none_kept : kept.selected_pair ≡ None = sym keeps.1 ∙ none in
        let none_named : named.selected_pair ≡ None = sym (ap (λ (v : TurnView). v.selected_pair) (removes-none named kept second giving none_kept).0) ∙ none_kept in
        let through : named ≡ path_left now (at_timeout now old) = nominates-none (path_left now (at_timeout now old)) named first nominating none_named in
        let same : named ≡ at_timeout now old = through ∙ unselected-left now (at_timeout now old) (sym (ap (λ (a : AgentRecord H P). a.selected_pair) through) ∙ none_named) in
        let left : Leaves (at_timeout now old) kept = removes-none (at_timeout now old) kept second (subst (λ (x : AgentRecord H P). RemovesExpired now x second kept) same giving) none_kept in
        let view : view_of kept ≡ view_of old = left.0 in
        let issues : emitted.issued ≡ issued = ap (λ (x : Emitted). x.issued) is in
        let fewer : (w : Measure) → leads w by kept.pairs ≤ leads w by old.pairs =
        (λ w. (let k : leads w by (path_left now (at_timeout now old)).pairs ≤ leads w by old.pairs = leads-left now (at_timeout now old) by late w in
        let l : leads w by named.pairs ≤ leads w by (path_left now (at_timeout now old)).pairs = named-less now by late early w (path_left now (at_timeout now old)) named first nominating in
        let m : leads w by kept.pairs ≤ leads w by named.pairs = given-less now by late early w named kept second giving in
        omega (arith, k, l, m))) in (
          unselected-calm now kept none_kept,
          taken kept left.1 view issues fewer
              (check-takes kept new s u issued known_kept full_kept (λ x y x_has y_has one. distinct x y (left.1 x x_has) (left.1 y y_has) one)
              (subst (λ (v : TurnView). 0 < v.timing.max_retransmits) (sym view) some) (sym keeps.0 ∙ turns) none_kept p (left.2 p has stays)
              (subst (λ (v : TurnView). due_time_of now v.timing p ≤ by) (sym view) due) checking),
        ) where
          on-path : (kept : AgentRecord H P) (issued : Option Issued) → view_of kept ≡ view_of old → emitted.issued ≡ issued → (q : PairRecord) → Checks kept issued q → Checks old emitted.issued q
          on-path kept issued view issues q (id, out) = (id, issues ∙ (out ∙ ap (λ (v : TurnView). Some (issued_as (path_by v q) class.Request id)) view))

          taken : (kept : AgentRecord H P) → ((q : PairRecord) → Has kept.pairs q → Has old.pairs q) → view_of kept ≡ view_of old → emitted.issued ≡ issued
              → ((w : Measure) → leads w by kept.pairs ≤ leads w by old.pairs) → Checks kept issued p ⊎ Turns by now kept issued new p → Checks old emitted.issued p ⊎ Turns by now old emitted.issued new p
          taken kept back view issues fewer (inl checks) = inl (on-path kept issued view issues p checks)
          taken kept back view issues fewer (inr t) = inr (record {
            alternates = t.alternates ∙ ap (λ (v : TurnView). not v.ahead_turn) view;
            waits = λ off. t.waits (ap (λ (v : TurnView). v.ahead_turn) view ∙ off) ∙ ap (λ (v : TurnView). v.next_kind) view;
            takes = λ on. (let (o, there, apart, sent, next, precedes, uses) = t.takes (ap (λ (v : TurnView). v.ahead_turn) view ∙ on) in (
              o,
              back o there,
              apart,
              on-path kept issued view issues o sent,
              next ∙ ap (λ (v : TurnView). kind_by v o + 1) view,
              subst (λ (v : TurnView). Precedes v now p o) view precedes,
              λ w counted due counts. (let less = uses w counted (subst (λ (v : TurnView). due_time_of now v.timing o ≤ by) (sym view) due) counts in let l = fewer w in omega (arith, less, l)),
            ));
            lessens = λ w. (let less = t.lessens w in let l = fewer w in omega (arith, less, l));
          })
