-- The pair that is checked next, whether it goes ahead or not, and what its check leaves of the pairs.
use Rattle.is_pair.specs.declared.pair.states.NominationState.TheVariants.{None as Unnominated}
use Rattle.is_theorems.proofs.Common.{[], ◌&&◌, ◌∙◌, ◌∷◌, ◌≡◌, ◌⊎◌, AgentRecord, ap, Attempt, Bool, change_at, change_pair, check_sent}
use Rattle.is_theorems.proofs.Common.{checked, false, found-in, GoesAhead, Has, has_urgent, IceCreds, if◌then◌else◌, inl, inr}
use Rattle.is_theorems.proofs.Common.{is_ahead_turn, is_asked_along, is_connected, is_due, is_nominated, is_nominated_state, is_numbered}
use Rattle.is_theorems.proofs.Common.{is_some, IsAskedAlong, IsAskedNext, IsNextAhead, IsNextDue, IsNextInTurn, IsNextToCheck, late_since}
use Rattle.is_theorems.proofs.Common.{List, MatchBool, MatchOption, Nominated, nominates_at_once, nomination_again, nomination_once_sent}
use Rattle.is_theorems.proofs.Common.{NominationState, None, NonePass, not, numbers, Option, pair_selected, PairRecord, precedence, refl}
use Rattle.is_theorems.proofs.Common.{renominated, silence_until, Some, Span, StunTiming, subst, Success, sym, true, ℕ}

-- ---- which pair

-- the pair with the selected number is in the list
selected-has : (number : Option ℕ) (ps : List PairRecord) (p : PairRecord) → Some p ≡ pair_selected number ps → Has ps p
selected-has None ps p is = absurd (let no : Some p ≡ None = is in cc)
selected-has (Some n) ps p is = (found-in (is_numbered n) ps p (sym is)).0

last-fact : (a b c d e : Bool) → (a && b && c && d && e) ≡ true → e ≡ true
last-fact true true true true e h = h
last-fact true true true false e h = absurd (let no : false ≡ true = h in cc)
last-fact true true false d e h = absurd (let no : false ≡ true = h in cc)
last-fact true false c d e h = absurd (let no : false ≡ true = h in cc)
last-fact false b c d e h = absurd (let no : false ≡ true = h in cc)

none-selected : (o : Option PairRecord) → None ≡ o → is_some o ≡ true → ⊥
none-selected None is some = let no : false ≡ true = some in cc
none-selected (Some p) is some = let no : None ≡ Some p = is in cc

first-fact : (a b c d e : Bool) → (a && b && c && d && e) ≡ true → a ≡ true
first-fact true b c d e h = refl
first-fact false b c d e h = absurd (let no : false ≡ true = h in cc)

both-facts : (a b c d e : Bool) → (a && c) ≡ false → (a && b && c && d && e) ≡ false
both-facts true true true d e h = absurd (let no : true ≡ false = h in cc)
both-facts true true false d e h = refl
both-facts true false c d e h = refl
both-facts false b c d e h = refl

late-facts : {X : Type 0} (a b c : Bool) (o : Option X) (x : X) → (if a && b && not c then o else None) ≡ Some x → (a ≡ true) × (b ≡ true) × (c ≡ false)
late-facts true true false o x h = (refl, refl, refl)
late-facts true true true o x h = absurd (let no : None ≡ Some x = h in cc)
late-facts true false c o x h = absurd (let no : None ≡ Some x = h in cc)
late-facts false b c o x h = absurd (let no : None ≡ Some x = h in cc)

module _ {H P : Type 0} (now : ℕ) (a : AgentRecord H P) where
  -- the pair is asked along with the selected one, which is silent
  pub record AskedAlong (p : PairRecord) : Type 0 where
    pub selected : PairRecord
    pub chosen : pair_selected a.selected_pair a.pairs ≡ Some selected
    pub connected : is_connected a.state ≡ true
    pub due : is_due now a.timing selected ≡ true
    pub no_urgent : has_urgent now a ≡ false
    pub there : Has a.pairs p
    pub silence : Span
    pub asked : is_asked_along selected.number silence p ≡ true

  pub asked-why : (p : PairRecord) → IsAskedAlong now a (Some p) → AskedAlong p
  asked-why p h = by-selected (pair_selected a.selected_pair a.pairs) refl h where
    Since : PairRecord → Option Span → Type 0
    Since q o = MatchOption o (Some p ≡ None) (λ silence. IsAskedNext q.number silence a.pairs (Some p))

    by-silence : (q : PairRecord) → pair_selected a.selected_pair a.pairs ≡ Some q → (o : Option Span) → late_since now a q ≡ o → Since q o → AskedAlong p
    by-silence q chosen None is none = absurd (cc)
    by-silence q chosen (Some silence) is (has, asked, first) =
        let facts = late-facts (is_connected a.state) (is_due now a.timing q) (has_urgent now a) (silence_until now q.checks) silence is in record {
          selected = q;
          chosen = chosen;
          connected = facts.0;
          due = facts.1;
          no_urgent = facts.2;
          there = has;
          silence = silence;
          asked = asked;
        }

    by-selected : (o : Option PairRecord) → pair_selected a.selected_pair a.pairs ≡ o
        → MatchOption o (Some p ≡ None) (λ q. MatchOption (late_since now a q) (Some p ≡ None) (λ silence. IsAskedNext q.number silence a.pairs (Some p))) → AskedAlong p
    by-selected None is none = absurd (cc)
    by-selected (Some q) is k = by-silence q is (late_since now a q) refl k

  -- the pair whose check goes ahead is the next one that is due, or one that is asked along
  pub ahead-or-along : (p : PairRecord) → GoesAhead now a (Some p)
      → IsNextAhead a.local a.remote (precedence a) a.next_kind now a.timing a.pairs (Some p) ⊎ AskedAlong p
  ahead-or-along p (None, along, next) = inl next
  ahead-or-along p (Some q, along, same) = inr (asked-why p (subst (λ o. IsAskedAlong now a o) (sym same) along))

  none-ahead : GoesAhead now a None → NonePass (is_due now a.timing) a.pairs
  none-ahead (None, along, none) = none
  none-ahead (Some q, along, same) = absurd (let no : None ≡ Some q = same in cc)

  -- a controlled agent, and one without numbers, nominates no path at once
  pub none-at-once : (a.controlling && numbers a) ≡ false → nominates_at_once a ≡ false
  none-at-once h = both-facts a.controlling (not a.lite) (numbers a) a.nomination_due (is_some (pair_selected a.selected_pair a.pairs)) h

  -- only a controlling agent does
  pub at-once-controls : nominates_at_once a ≡ true → a.controlling ≡ true
  at-once-controls h = first-fact a.controlling (not a.lite) (numbers a) a.nomination_due (is_some (pair_selected a.selected_pair a.pairs)) h

  -- then the next pair is the one whose turn it is
  pub in-turn : (next : Option PairRecord) → nominates_at_once a ≡ false → IsNextToCheck now a next → IsNextInTurn now a next
  in-turn next calm h = subst (λ b. MatchBool b (next ≡ pair_selected a.selected_pair a.pairs) (IsNextInTurn now a next)) calm h

  -- if there is none, no pair is due
  pub none-is-due : IsNextToCheck now a None → NonePass (is_due now a.timing) a.pairs
  none-is-due h = at-once (nominates_at_once a) refl h where
    by : (b : Bool) → MatchBool b (GoesAhead now a None) (IsNextDue now a.timing a.pairs None) → NonePass (is_due now a.timing) a.pairs
    by true none = none-ahead none
    by false none = none

    at-once : (b : Bool) → nominates_at_once a ≡ b → MatchBool b (None ≡ pair_selected a.selected_pair a.pairs) (IsNextInTurn now a None) → NonePass (is_due now a.timing) a.pairs
    at-once true is none = absurd (none-selected (pair_selected a.selected_pair a.pairs) none
        (last-fact a.controlling (not a.lite) (numbers a) a.nomination_due (is_some (pair_selected a.selected_pair a.pairs)) is))
    at-once false is turn = by (is_ahead_turn now a) turn

  -- nor is a nomination to be sent at once
  pub none-to-send : IsNextToCheck now a None → nominates_at_once a ≡ true → ⊥
  none-to-send h due = none-selected (pair_selected a.selected_pair a.pairs)
      (subst (λ b. MatchBool b (None ≡ pair_selected a.selected_pair a.pairs) (IsNextInTurn now a None)) due h)
      (last-fact a.controlling (not a.lite) (numbers a) a.nomination_due (is_some (pair_selected a.selected_pair a.pairs)) due)

  -- the pair whose turn it is, is due, or asked along
  pub due-or-along : (p : PairRecord) → IsNextInTurn now a (Some p) → (Has a.pairs p × (is_due now a.timing p ≡ true)) ⊎ AskedAlong p
  due-or-along p h = by (is_ahead_turn now a) h where
    either-ahead : IsNextAhead a.local a.remote (precedence a) a.next_kind now a.timing a.pairs (Some p) ⊎ AskedAlong p
        → (Has a.pairs p × (is_due now a.timing p ≡ true)) ⊎ AskedAlong p
    either-ahead (inl (has, due, first)) = inl (has, due)
    either-ahead (inr along) = inr along

    by : (b : Bool) → MatchBool b (GoesAhead now a (Some p)) (IsNextDue now a.timing a.pairs (Some p)) → (Has a.pairs p × (is_due now a.timing p ≡ true)) ⊎ AskedAlong p
    by true goes = either-ahead (ahead-or-along p goes)
    by false ((has, first), due) = inl (has, due)

  pub turn-has : (p : PairRecord) → IsNextInTurn now a (Some p) → Has a.pairs p
  turn-has p h = by (due-or-along p h) where
    by : (Has a.pairs p × (is_due now a.timing p ≡ true)) ⊎ AskedAlong p → Has a.pairs p
    by (inl due) = due.0
    by (inr along) = along.there

  -- otherwise it is one of the pairs
  pub next-has : (p : PairRecord) → IsNextToCheck now a (Some p) → Has a.pairs p
  next-has p h = by (nominates_at_once a) h where
    by : (b : Bool) → MatchBool b (Some p ≡ pair_selected a.selected_pair a.pairs) (IsNextInTurn now a (Some p)) → Has a.pairs p
    by true selected = selected-has a.selected_pair a.pairs p selected
    by false turn = turn-has p turn

  -- unless the check goes ahead, it is the pair that is due first
  pub next-in-turn : (next : Option PairRecord) → nominates_at_once a ≡ false → is_ahead_turn now a ≡ false → IsNextToCheck now a next → IsNextDue now a.timing a.pairs next
  next-in-turn next calm off h =
      subst (λ b. MatchBool b (GoesAhead now a next) (IsNextDue now a.timing a.pairs next)) off (in-turn next calm h)

-- ---- the pairs after the check

-- the pair that is checked; if its nomination begins, it is nominated again before
abbrev pub sent_at : Bool → ℕ → StunTiming → Bool → List ℕ → PairRecord → PairRecord
sent_at begins now t c id p = checked now t c id (if begins then renominated p else p)

once : (n : NominationState) → is_nominated_state (nomination_once_sent n) ≡ is_nominated_state n
once Unnominated = refl
once Nominated = refl
once Attempt = refl
once Success = refl

-- what holds of it in both cases
pub by-begins : (begins : Bool) (Holds : PairRecord → Type 0) (now : ℕ) (t : StunTiming) (c : Bool) (id : List ℕ) (p : PairRecord)
    → Holds (checked now t c id (renominated p)) → Holds (checked now t c id p) → Holds (sent_at begins now t c id p)
by-begins true Holds now t c id p again plain = again
by-begins false Holds now t c id p again plain = plain

pub sent-number : (begins : Bool) (now : ℕ) (t : StunTiming) (c : Bool) (id : List ℕ) (p : PairRecord) → (sent_at begins now t c id p).number ≡ p.number
sent-number true now t c id p = refl
sent-number false now t c id p = refl

-- two changes of one pair are one
fused-at : (n : ℕ) (g : PairRecord → PairRecord) (p : PairRecord) → change_at n g (change_at n renominated p) ≡ change_at n (λ x. g (renominated x)) p
fused-at n g p =
    ap (λ c. if c then g (change_at n renominated p) else change_at n renominated p) (numbered (is_numbered n p)) ∙ at (is_numbered n p) where
      numbered : (b : Bool) → is_numbered n (if b then renominated p else p) ≡ is_numbered n p
      numbered true = refl
      numbered false = refl

      at : (b : Bool) → (if b then g (if b then renominated p else p) else (if b then renominated p else p)) ≡ (if b then g (renominated p) else p)
      at true = refl
      at false = refl

fused : (n : ℕ) (g : PairRecord → PairRecord) (ps : List PairRecord) → change_pair n g (change_pair n renominated ps) ≡ change_pair n (λ x. g (renominated x)) ps
fused n g [] = refl
fused n g (p ∷ ps) =
    ap (λ x. x ∷ change_pair n g (change_pair n renominated ps)) (fused-at n g p)
    ∙ ap (λ xs. change_at n (λ x. g (renominated x)) p ∷ xs) (fused n g ps)

-- A pair that is nominated after its check was before.
pub nominated-before : (begins : Bool) (now : ℕ) (t : StunTiming) (c : Bool) (id : List ℕ) (p : PairRecord) → is_nominated (sent_at begins now t c id p) ≡ is_nominated p
nominated-before true now t c id p = once (nomination_again p.nomination) ∙ again p.nomination where
  again : (n : NominationState) → is_nominated_state (nomination_again n) ≡ is_nominated_state n
  again Unnominated = refl
  again Nominated = refl
  again Attempt = refl
  again Success = refl
nominated-before false now t c id p = once p.nomination

pub sent-pairs : (begins : Bool) (n now : ℕ) (t : StunTiming) (c : Bool) (id : List ℕ) (ps : List PairRecord)
    → change_pair n (checked now t c id) (if begins then change_pair n renominated ps else ps) ≡ change_pair n (sent_at begins now t c id) ps
sent-pairs true n now t c id ps = fused n (checked now t c id) ps
sent-pairs false n now t c id ps = refl

module _ {H P : Type 0} (mac : H → List ℕ → List ℕ → List ℕ) (now : ℕ) (peer : IceCreds) (p : PairRecord) (id : List ℕ) (a new : AgentRecord H P) where
  -- one pair is changed
  pub pairs-sent : new ≡ check_sent mac now peer p id a → new.pairs ≡ change_pair p.number (sent_at (nominates_at_once a) now a.timing a.controlling id) a.pairs
  pairs-sent made = ap (λ (x : AgentRecord H P). x.pairs) made ∙ sent-pairs (nominates_at_once a) p.number now a.timing a.controlling id a.pairs

  pub pairs-checked : nominates_at_once a ≡ false → new ≡ check_sent mac now peer p id a → new.pairs ≡ change_pair p.number (checked now a.timing a.controlling id) a.pairs
  pairs-checked calm made = pairs-sent made ∙ ap (λ b. change_pair p.number (sent_at b now a.timing a.controlling id) a.pairs) calm
