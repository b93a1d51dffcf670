-- A `handle_timeout` call leaves pairs on schedule: it removes those that are no longer possible, and then checks one that is due or has a response.
use Rattle.is_pair.specs.Due as due
use Rattle.is_theorems.proofs.Common.{◌&&◌, ◌<◌, ◌||◌, ◌∙◌, ◌≡◌, ◌≤◌, ◌⊎◌, AgentRecord, all_scheduled, ap, arith, scheduled, Bool, Call, change_at}
use Rattle.is_theorems.proofs.Common.{change_pair, checked, CheckState, ChecksTop, consent_of, due_time_of, eq-eqb, eqb-true, expired_gone}
use Rattle.is_theorems.proofs.Common.{false, followed, found-in, Has, heard, heard_at, IceCreds, if◌then◌else◌, inl, InProgress, inr}
use Rattle.is_theorems.proofs.Common.{is_due, is_expired, is_lite_alive, is_nominated, is_numbered, is_possible, is_valid, is_valid_state}
use Rattle.is_theorems.proofs.Common.{IsNextInTurn, IsNextToCheck, Issued, List, list_any, MatchBool, MAX, MayCheck, nat_le, nat_tests}
use Rattle.is_theorems.proofs.Common.{nominated, nominated_by_self, Nominates, nominates_at_once, None, not, Option, outlives}
use Rattle.is_theorems.proofs.Common.{pair_selected, PairRecord, Path, PollTimeout, refl, remains, RemovesExpired, selection_of, Some}
use Rattle.is_theorems.proofs.Common.{state_once_sent, Stream, StunTiming, subst, Succeeded, sym, true, unwrap_or, Waiting, with_request, ℕ}
use Rattle.is_theorems.proofs.BasicLemmas.PairsInTurn.{due-or-along, in-turn, pairs-sent, sent-number, sent_at, AskedAlong}
use Rattle.is_theorems.proofs.BasicLemmas.UsernamesAndFirstMatches.{any_has}
use Rattle.is_theorems.proofs.CallEffects.ServedRequests.{Has-mapped}
use Rattle.is_theorems.proofs.CheckCounts.Bounds.{Bound, Ends, IsPastRequest}
use Rattle.is_theorems.proofs.CheckCounts.KeptPairs.{IsKept, IsOfSilent, kept-change, kept-map}
use Rattle.is_theorems.proofs.CheckCounts.FollowedPairs.{IsOnSchedule, scheduled-on, checked-on, of-silent}
use Rattle.is_theorems.proofs.CheckCounts.PastTimes.{Watch}
use Rattle.is_theorems.proofs.DuePairs.AfterNominationAndRemoval.{passed}
use Rattle.is_theorems.proofs.RuleEffects.ChangedPairs.{Has-map}
use Rattle.is_theorems.proofs.RuleEffects.NominatedPairs.{SelectsPath, selects_path}
use Rattle.is_theorems.proofs.RuleEffects.SelectedPaths.{one_pair}
use Rattle.is_theorems.proofs.RuleEffects.UnchangedSettings.{either}

pub no-case : {X : Type 0} → false ≡ true → X
no-case h = absurd (cc)

le-of : (n m : ℕ) → nat_le n m ≡ true → n ≤ m
le-of n m h = grind (arith, nat_tests, h)

-- ---- pairs that stay after timeouts

stays-possible : (l a b c : Bool) → l ≡ false → not (if l then a else b && c) ≡ false → c ≡ true
stays-possible true a b c full h = no-case (sym full)
stays-possible false a true true full h = refl
stays-possible false a true false full h = no-case (sym h)
stays-possible false a false c full h = no-case (sym h)

not-true : (b : Bool) → not b ≡ true → b ≡ false
not-true true h = no-case h
not-true false h = refl

possible-nominated : (now : ℕ) (t : StunTiming) (b l : Bool) (p : PairRecord) → is_possible now t (if b then nominated l p else p) ≡ is_possible now t p
possible-nominated now t true true p = refl
possible-nominated now t true false p = refl
possible-nominated now t false l p = refl

possible-changed : (now : ℕ) (t : StunTiming) (n : ℕ) (c l : Bool) (p : PairRecord) → is_possible now t (change_at n (nominated_by_self c l) p) ≡ is_possible now t p
possible-changed now t n c l p = by (is_numbered n p) where
  by : (b : Bool) → is_possible now t (if b then nominated_by_self c l p else p) ≡ is_possible now t p
  by true = possible-nominated now t (not (is_nominated p) && (c || l)) l p
  by false = refl

-- a check leaves whether the pair is valid
stays-valid : (begins : Bool) (now : ℕ) (t : StunTiming) (c : Bool) (id : List ℕ) (p : PairRecord) → is_valid (sent_at begins now t c id p) ≡ is_valid p
stays-valid begins now t c id p = by begins where
  once : (s : CheckState) → is_valid_state (state_once_sent s) ≡ is_valid_state s
  once Waiting = refl
  once InProgress = refl
  once Succeeded = refl

  by : (b : Bool) → is_valid (sent_at b now t c id p) ≡ is_valid p
  by true = once p.state
  by false = once p.state

middle : (a b c : Bool) → (a && b && c) ≡ true → b ≡ true
middle true true c h = refl
middle true false c h = h
middle false b c h = no-case h

-- the number of the selected pair
selected-number : (number : Option ℕ) (ps : List PairRecord) (p : PairRecord) → Some p ≡ pair_selected number ps → number ≡ Some p.number
selected-number None ps p is = let no : Some p ≡ None = is in absurd (cc)
selected-number (Some n) ps p is = ap Some (sym (eqb-true p.number n (found-in (is_numbered n) ps p (sym is)).1))

-- the pair that is changed
changed-is : (n : ℕ) (f : PairRecord → PairRecord) (p : PairRecord) → p.number ≡ n → change_at n f p ≡ f p
changed-is n f p same = ap (λ b. if b then f p else p) (eq-eqb p.number n same)

abbrev pub is_poll : {P : Type 0} → Call P → Bool
is_poll PollTimeout = true
is_poll _ = false

module _ {H P : Type 0} where
  abbrev pub latest : AgentRecord H P → ℕ
  latest a = unwrap_or a.last_time 0

  possible-left : (now : ℕ) (old : AgentRecord H P) (p : PairRecord) → old.lite ≡ false → is_expired now old p ≡ false → is_possible now old.timing p ≡ true
  possible-left now old p full h =
      stays-possible old.lite (is_lite_alive now old.timing p) (due.has_consent (consent_of old.timing) now p) (is_possible now old.timing p) full h

  named-possible : (now : ℕ) (t : StunTiming) (old new : AgentRecord H P) (path : Option Path) → Nominates old path new → ((p : PairRecord) → Has old.pairs p → is_possible now t p ≡ true)
      → (p : PairRecord) → Has new.pairs p → is_possible now t p ≡ true
  named-possible now t old new path h all = from (selects_path old new path h) where
    same : new ≡ old → (p : PairRecord) → Has new.pairs p → is_possible now t p ≡ true
    same made p has = all p (subst (λ (a : AgentRecord H P). Has a.pairs p) made has)

    from : SelectsPath old path new → (p : PairRecord) → Has new.pairs p → is_possible now t p ≡ true
    from (None, none, (is, made)) = same made
    from (Some top, chosen, k) = either (remains (followed old) top (selection_of old)) k
        (λ _ l. same l.1)
        (λ _ l p has. (let o = Has-map (change_at top.number (nominated_by_self old.controlling old.lite)) old.pairs p (subst (λ (a : AgentRecord H P). Has a.pairs p) l.1 has) in
        ap (λ x. is_possible now t x) (sym o.2) ∙ (possible-changed now t top.number old.controlling old.lite o.0 ∙ all o.0 o.1)))

  -- a pair that is not removed is possible
  pub left-possible : (now : ℕ) (old new : AgentRecord H P) (path : Option Path) → old.lite ≡ false → RemovesExpired now old path new → (p : PairRecord) → Has new.pairs p → is_possible now old.timing p ≡ true
  left-possible now old new path full h = either (list_any (is_expired now old) old.pairs) h
      (λ _ k p has. named-possible now old.timing (expired_gone now old) k.0 path k.1
      (λ q there. possible-left now old q full (not-true (is_expired now old q) (passed (λ x. not (is_expired now old x)) old.pairs q there)))
      p (subst (λ (a : AgentRecord H P). Has a.pairs p) k.2 has))
      (λ none k p has. possible-left now old p full (no-expired p (subst (λ (a : AgentRecord H P). Has a.pairs p) k.1 has) none)) where
        no-expired : (p : PairRecord) → Has old.pairs p → list_any (is_expired now old) old.pairs ≡ false → is_expired now old p ≡ false
        no-expired p has none = by (is_expired now old p) refl where
          by : (b : Bool) → is_expired now old p ≡ b → is_expired now old p ≡ false
          by true is = no-case (sym none ∙ any_has (is_expired now old) old.pairs p has is)
          by false is = is

  -- ---- a check

  module _ (mac : H → List ℕ → List ℕ → List ℕ) (bound : Bound) (o : Option Watch) (floor now : ℕ) (apart : (w : Watch) → o ≡ Some w → (w.number < floor) × (w.requests < MAX)) (old new : AgentRecord H P) where
    abbrev OnTime : PairRecord → Type 0
    OnTime = IsOnSchedule old.timing bound o now now

    abbrev Keeps : AgentRecord H P → Type 0
    Keeps a = IsKept floor now OnTime a.next_number a.pairs

    abbrev ruled : IsOfSilent floor now OnTime
    ruled = of-silent old.timing bound o floor now now apart

    abbrev asking : AgentRecord H P
    asking = all_scheduled now old

    module _ (ends : Ends old.timing bound) (limit : 0 < old.timing.max_retransmits) (fits : (w : Watch) → o ≡ Some w → (w.requests ≡ 0) ⊎ IsPastRequest old.timing bound) (goes_on : now < MAX) (possible : old.lite ≡ false → (p : PairRecord) → Has old.pairs p → is_possible now old.timing p ≡ true)
        (named : (p : PairRecord) → Has new.pairs p → new.selected_pair ≡ Some p.number → is_valid p ≡ true) (k : Keeps old) where
      made-on : (needed : AgentRecord H P) → new ≡ needed → Keeps needed → Keeps new
      made-on needed made h = subst (λ (a : AgentRecord H P). Keeps a) (sym made) h

      asks-on : Keeps asking
      asks-on = kept-map floor now OnTime old.next_number (scheduled now old.timing) old.pairs (λ p. refl) (λ p has q. scheduled-on old.timing bound o now now now p (omega arith) (omega arith) q) k

      heard-on : (p : PairRecord) → OnTime p → OnTime (heard now p)
      heard-on p q = by p.last_request where
        by : (o : Option ℕ) → OnTime (heard_at now o p)
        by None = ruled.requested p (with_request now p) now (record { number = refl; requests = refl; last = refl; checks = refl; count = refl; first = refl; again = refl; answers = refl; state = inl refl }) (omega arith) q
        by (Some at) = q

      module _ (peer : IceCreds) (p : PairRecord) (id : List ℕ) (next : IsNextToCheck now asking (Some p)) (full : old.lite ≡ false)
          (pairs : new.pairs ≡ change_pair p.number (sent_at (nominates_at_once asking) now old.timing old.controlling id) asking.pairs) (selects : new.selected_pair ≡ old.selected_pair) where
        abbrev change : PairRecord → PairRecord
        change = sent_at (nominates_at_once asking) now old.timing old.controlling id

        number-kept : (q : PairRecord) → (change q).number ≡ q.number
        number-kept q = sent-number (nominates_at_once asking) now old.timing old.controlling id q

        -- a nomination is sent at once, of a valid pair
        at-once : nominates_at_once asking ≡ true → (q : PairRecord) → Has asking.pairs q → q.number ≡ p.number → OnTime (change q)
        at-once begins q has same =
            let selected = selected-number old.selected_pair asking.pairs p
            (subst (λ b. MatchBool b (Some p ≡ pair_selected asking.selected_pair asking.pairs) (IsNextInTurn now asking (Some p))) begins next) in
            let there : Has new.pairs (change q) = subst (λ (ps : List PairRecord). Has ps (change q)) (sym pairs)
            (subst (λ (x : PairRecord). Has (change_pair p.number change asking.pairs) x) (changed-is p.number change q same) (Has-mapped (change_at p.number change) asking.pairs q has)) in
            ruled.valid (change q) (named (change q) there (selects ∙ (selected ∙ ap Some (sym (number-kept q ∙ same)))))

        -- the pair is due
        due-on : nominates_at_once asking ≡ false → Has asking.pairs p × (is_due now old.timing p ≡ true) → (q : PairRecord) → Has asking.pairs q → q.number ≡ p.number → OnTime (change q)
        due-on calm due_now q has same =
            let one : q ≡ p = one_pair asking.pairs q p asks-on.rising has due_now.0 same in
            let was = Has-map (scheduled now old.timing) old.pairs q has in
            let is_due_now : is_due now old.timing (scheduled now old.timing was.0) ≡ true = ap (λ x. is_due now old.timing x) (was.2 ∙ one) ∙ due_now.1 in
            let sent : OnTime (checked now old.timing old.controlling id (scheduled now old.timing was.0)) =
            checked-on old.timing bound ends limit o fits now old.controlling id was.0 goes_on (k.each was.0 was.1) (le-of (due_time_of now old.timing was.0) now is_due_now) (possible full was.0 was.1) in
            subst (λ b. OnTime (sent_at b now old.timing old.controlling id q)) (sym calm) (subst (λ (x : PairRecord). OnTime (checked now old.timing old.controlling id x)) was.2 sent)

        -- or it is asked along, and valid
        along-on : AskedAlong now asking p → (q : PairRecord) → Has asking.pairs q → q.number ≡ p.number → OnTime (change q)
        along-on along q has same =
            let one : q ≡ p = one_pair asking.pairs q p asks-on.rising has along.there same in
            let valid : is_valid p ≡ true = middle (not (is_numbered along.selected.number p)) (is_valid p) (not (outlives along.silence p)) along.asked in
            ruled.valid (change q) (stays-valid (nominates_at_once asking) now old.timing old.controlling id q ∙ (ap (λ (x : PairRecord). is_valid x) one ∙ valid))

        -- it is the pair's turn
        turn : nominates_at_once asking ≡ false → (q : PairRecord) → Has asking.pairs q → q.number ≡ p.number → OnTime (change q)
        turn calm q has same = elim (due-or-along now asking p (in-turn now asking (Some p) calm next)) [
          | inl due_now ↦ due-on calm due_now q has same
          | inr along ↦ along-on along q has same
        ]

        each : (q : PairRecord) → Has asking.pairs q → q.number ≡ p.number → OnTime q → OnTime (change q)
        each q has same _ = by (nominates_at_once asking) refl where
          by : (b : Bool) → nominates_at_once asking ≡ b → OnTime (change q)
          by true begins = at-once begins q has same
          by false calm = turn calm q has same

        pub sends-on : new.next_number ≡ old.next_number → Keeps new
        sends-on numbers =
            subst (λ n. IsKept floor now OnTime n new.pairs) (sym numbers) (subst (λ (ps : List PairRecord). IsKept floor now OnTime old.next_number ps) (sym pairs)
            (kept-change floor now OnTime old.next_number p.number change asking.pairs (λ q _. number-kept q) each asks-on))

      tops-on : (peer : IceCreds) (next : Option PairRecord) (s u : Stream) (issued : Option Issued) → old.lite ≡ false → IsNextToCheck now asking next → ChecksTop mac now peer next asking s issued new u → Keeps new
      tops-on peer None s u issued full is (none, made, drawn) = made-on asking made asks-on
      tops-on peer (Some p) s u issued full is (id, drawn, values, out, made) =
          sends-on peer p id is full (pairs-sent mac now peer p id asking new made) (ap (λ (a : AgentRecord H P). a.selected_pair) made) (ap (λ (a : AgentRecord H P). a.next_number) made)

      pub checks-on : (remote : Option IceCreds) (s u : Stream) (issued : Option Issued) → MayCheck mac now remote old s issued new u → Keeps new
      checks-on None s u issued (is, made, drawn) = made-on old made k
      checks-on (Some remote) s u issued h = either old.lite h
          (λ _ j. made-on _ j.1 (kept-map floor now OnTime old.next_number (heard now) old.pairs (λ p. heard-number p p.last_request) (λ p has q. heard-on p q) k))
          (λ full j. tops-on remote j.0 s u issued full j.1 j.2) where
            heard-number : (p : PairRecord) (o : Option ℕ) → (heard_at now o p).number ≡ p.number
            heard-number p None = refl
            heard-number p (Some at) = refl
