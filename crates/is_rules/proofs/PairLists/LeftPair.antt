-- The pairs without the one that gives way are those without its number, and the one that needs a check is the one with its number.
use Rattle.is_pair.specs.Due.{moved_up}
use Rattle.is_pair.specs.Multiset.{change_pair}
use Rattle.is_pair.specs.Silence.{silence_of}
use Rattle.is_pair.specs.declared.pair.silence.Span.{Span}
use Rattle.is_pair.specs.Due.{is_urgent}
use Rattle.is_rules.specs.Leaving.{hastened, is_alternative, is_choice_at, is_contested, is_doubted, is_lossy, is_new_choice, is_overruled, needs_check}
use Rattle.is_rules.specs.Nominating.{numbers}
use Rattle.is_rules.proofs.Common.{[], ◌&&◌, ◌+◌, ◌∙◌, ◌∷◌, ◌≡◌, AgentRecord, ap, Bool, eq-eqb, eqb-true, false, find, gives_way, Has, if◌then◌else◌}
use Rattle.is_rules.proofs.Common.{inl, inr, is_eligible, is_modern, is_named_by, is_numbered, is_silent_enough, List, list_any, map, may_replace}
use Rattle.is_rules.proofs.Common.{nat_le, None, not, Option, option_map_or, pair_numbered, pair_selected, PairRecord, refl}
use Rattle.is_rules.proofs.Common.{rises, silent_gone, Some, subst, sym, true, unanswered_count, unwrap_or, without, ℕ, ◌||◌}
use Rattle.is_rules.proofs.PairLists.ChosenPair.{found-in}
use Rattle.is_rules.proofs.PairLists.PairsByNumber.{numbered-found}

kept-all : (f : PairRecord → Bool) (ps : List PairRecord) → ((p : PairRecord) → Has ps p → f p ≡ false) → without f ps ≡ ps
kept-all f [] none = refl
kept-all f (p ∷ ps) none = rw (none p (inl refl)) (ap (λ qs. p ∷ qs) (kept-all f ps (λ q has. none q (inr has))))

same-without : (f g : PairRecord → Bool) (ps : List PairRecord) → ((p : PairRecord) → Has ps p → f p ≡ g p) → without f ps ≡ without g ps
same-without f g [] same = refl
same-without f g (p ∷ ps) same = rw (same p (inl refl)) (by (g p) (same-without f g ps (λ q has. same q (inr has)))) where
  by : (b : Bool) → without f ps ≡ without g ps → (if not b then p ∷ without f ps else without f ps) ≡ (if not b then p ∷ without g ps else without g ps)
  by true rest = rest
  by false rest = ap (λ qs. p ∷ qs) rest

-- the pair with the number of the selected one is the selected one
named-selected : (s : Option ℕ) (ps : List PairRecord) (p : PairRecord) → rises ps ≡ true → Has ps p → is_named_by s p ≡ true → pair_selected s ps ≡ Some p
named-selected None ps p rising has named = absurd (cc)
named-selected (Some n) ps p rising has named = subst (λ m. pair_numbered m ps ≡ Some p) (sym (eqb-true n p.number named)) (numbered-found ps p rising has)

selected-in : (s : Option ℕ) (ps : List PairRecord) (q : PairRecord) → pair_selected s ps ≡ Some q → Has ps q
selected-in None ps q is = absurd (cc)
selected-in (Some n) ps q is = (found-in (is_numbered n) ps q is).0

third : (a b c d e f : Bool) → (a && b && c && d && e && f) ≡ true → c ≡ true
third true true true d e f h = refl
third true true false d e f h = absurd (cc)
third true false c d e f h = absurd (cc)
third false b c d e f h = absurd (cc)

fourth : (a b c d e f : Bool) → (a && b && c && d && e && f) ≡ true → d ≡ true
fourth true true true true e f h = refl
fourth true true true false e f h = absurd (cc)
fourth true true false d e f h = absurd (cc)
fourth true false c d e f h = absurd (cc)
fourth false b c d e f h = absurd (cc)

sixth : (a b c d e f : Bool) → (a && b && c && d && e && f) ≡ true → f ≡ true
sixth true true true true true f h = h
sixth true true true true false f h = absurd (cc)
sixth true true true false e f h = absurd (cc)
sixth true true false d e f h = absurd (cc)
sixth true false c d e f h = absurd (cc)
sixth false b c d e f h = absurd (cc)

-- the selected pair has the number
selected-named : (s : Option ℕ) (ps : List PairRecord) (p : PairRecord) → pair_selected s ps ≡ Some p → is_named_by s p ≡ true
selected-named None ps p is = absurd (cc)
selected-named (Some n) ps p is = eq-eqb n p.number (sym (eqb-true p.number n (found-in (is_numbered n) ps p is).1))

off : (b : Bool) → (b ≡ true → ⊥) → b ≡ false
off true wrong = absurd (wrong refl)
off false wrong = refl

-- none passes, so none is found
none-found : (f : PairRecord → Bool) (ps : List PairRecord) → ((p : PairRecord) → Has ps p → f p ≡ false) → None ≡ find f ps
none-found f [] none = refl
none-found f (p ∷ ps) none = rw (none p (inl refl)) (none-found f ps (λ q has. none q (inr has)))

same-found : (f g : PairRecord → Bool) (ps : List PairRecord) → ((p : PairRecord) → Has ps p → f p ≡ g p) → find f ps ≡ find g ps
same-found f g [] same = refl
same-found f g (p ∷ ps) same = rw (same p (inl refl)) (by (g p) (same-found f g ps (λ q has. same q (inr has)))) where
  by : (b : Bool) → find f ps ≡ find g ps → (if b then Some p else find f ps) ≡ (if b then Some p else find g ps)
  by true rest = refl
  by false rest = rest

-- ---- a test that only the selected pair may pass

module _ {H P : Type 0} (a : AgentRecord H P) (rising : rises a.pairs ≡ true) (f : PairRecord → Bool)
    (names : (p : PairRecord) → f p ≡ true → is_named_by a.selected_pair p ≡ true) where
  passes-selected : (p : PairRecord) → Has a.pairs p → f p ≡ true → pair_selected a.selected_pair a.pairs ≡ Some p
  passes-selected p has passes = named-selected a.selected_pair a.pairs p rising has (names p passes)

  -- without a selected pair none passes it
  pub none-passes : pair_selected a.selected_pair a.pairs ≡ None → (p : PairRecord) → Has a.pairs p → f p ≡ false
  none-passes none p has = off (f p) (λ passes. let no : None ≡ Some p = sym none ∙ passes-selected p has passes in absurd (cc))

  -- nor does one if the selected one does not
  pub none-else : (q : PairRecord) → pair_selected a.selected_pair a.pairs ≡ Some q → f q ≡ false → (p : PairRecord) → Has a.pairs p → f p ≡ false
  none-else q is stays p has = off (f p) (λ passes.
      let same : q ≡ p = ap (λ o. unwrap_or o q) (sym is ∙ passes-selected p has passes) in
      let no : false ≡ true = sym stays ∙ subst (λ (x : PairRecord). f x ≡ true) (sym same) passes in absurd (cc))

  -- the pair that passes it is the one with the number of the selected one
  pub alike : (q : PairRecord) → pair_selected a.selected_pair a.pairs ≡ Some q → f q ≡ true → (p : PairRecord) → Has a.pairs p → is_numbered q.number p ≡ f p
  alike q is passes p has = elim (is_numbered q.number p) as (λ b. is_numbered q.number p ≡ b → b ≡ f p) [
    | true ↦ λ number.
        let of_p : pair_numbered p.number a.pairs ≡ Some p = numbered-found a.pairs p rising has in
        let of_q : pair_numbered q.number a.pairs ≡ Some q = numbered-found a.pairs q rising (selected-in a.selected_pair a.pairs q is) in
        let same : q ≡ p = ap (λ o. unwrap_or o q) (sym (subst (λ n. pair_numbered n a.pairs ≡ Some q) (sym (eqb-true p.number q.number number)) of_q) ∙ of_p) in
        sym (subst (λ (x : PairRecord). f x ≡ true) same passes)
    | false ↦ λ number. sym (off (f p) (λ own.
        let same : q ≡ p = ap (λ o. unwrap_or o q) (sym is ∙ passes-selected p has own) in
        let no : false ≡ true = sym number ∙ eq-eqb p.number q.number (ap (λ (x : PairRecord). x.number) (sym same)) in absurd (cc)))
  ] refl

-- ---- the pair that needs a check

-- what is made of no pair leaves all
none-moved : (f : PairRecord → Bool) (now : ℕ) (ps : List PairRecord) → ((p : PairRecord) → Has ps p → f p ≡ false) → ps ≡ map (hastened f now) ps
none-moved f now [] none = refl
none-moved f now (p ∷ ps) none = rw (none p (inl refl)) (ap (λ qs. p ∷ qs) (none-moved f now ps (λ q has. none q (inr has))))

one-moved : (f : PairRecord → Bool) (now n : ℕ) (ps : List PairRecord) → ((p : PairRecord) → Has ps p → is_numbered n p ≡ f p)
    → change_pair n (moved_up (now + 1)) ps ≡ map (hastened f now) ps
one-moved f now n [] same = refl
one-moved f now n (p ∷ ps) same =
    ap (λ b. (if b then moved_up (now + 1) p else p) ∷ change_pair n (moved_up (now + 1)) ps) (same p (inl refl))
    ∙ ap (λ qs. hastened f now p ∷ qs) (one-moved f now n ps (λ q has. same q (inr has)))

module _ {H P : Type 0} (a : AgentRecord H P) (rising : rises a.pairs ≡ true) where
  needs-named : (p : PairRecord) → needs_check a p ≡ true → is_named_by a.selected_pair p ≡ true
  needs-named p needs = fourth (is_modern a.timing) (not a.lite) (not (numbers a)) (is_named_by a.selected_pair p) (is_eligible a.controlling p)
      (if a.controlling then a.nomination_due else is_doubted a p) needs

  -- no pair is selected
  pub none-needs : (now : ℕ) → pair_selected a.selected_pair a.pairs ≡ None → a.pairs ≡ map (hastened (needs_check a) now) a.pairs
  none-needs now none = none-moved (needs_check a) now a.pairs (none-passes a rising (needs_check a) needs-named none)

  -- the selected one needs none
  pub stays-unmoved : (now : ℕ) (q : PairRecord) → pair_selected a.selected_pair a.pairs ≡ Some q → needs_check a q ≡ false
      → a.pairs ≡ map (hastened (needs_check a) now) a.pairs
  stays-unmoved now q is stays = none-moved (needs_check a) now a.pairs (none-else a rising (needs_check a) needs-named q is stays)

  -- it needs one
  pub one-needs : (now : ℕ) (q : PairRecord) → pair_selected a.selected_pair a.pairs ≡ Some q → needs_check a q ≡ true
      → change_pair q.number (moved_up (now + 1)) a.pairs ≡ map (hastened (needs_check a) now) a.pairs
  one-needs now q is needs = one-moved (needs_check a) now q.number a.pairs (alike a rising (needs_check a) needs-named q is needs)

-- ---- the peer nominated the selected pair last

module _ {H P : Type 0} (a : AgentRecord H P) (one : a.last_nominated ≡ a.selected_pair) where
  -- no alternative is the pair that it nominated last
  no-alternative : (p : PairRecord) → is_named_by a.selected_pair p ≡ true → (f : PairRecord → Bool) → ((q : PairRecord) → is_alternative p q ≡ false → f q ≡ false)
      → option_map_or f (pair_selected a.last_nominated a.pairs) false ≡ false
  no-alternative p named f needs = subst (λ o. option_map_or f (pair_selected o a.pairs) false ≡ false) (sym one) (by a.selected_pair named) where
    found : (o : Option PairRecord) (n : ℕ) → find (is_numbered n) a.pairs ≡ o → n ≡ p.number → option_map_or f o false ≡ false
    found None n is own = refl
    found (Some q) n is own = needs q (
        let numbered : is_numbered n q ≡ true = (found-in (is_numbered n) a.pairs q is).1 in
        let same : is_numbered p.number q ≡ true = subst (λ m. is_numbered m q ≡ true) own numbered in
        ap (λ b. not b && is_eligible false q) same)

    by : (s : Option ℕ) → is_named_by s p ≡ true → option_map_or f (pair_selected s a.pairs) false ≡ false
    by None h = absurd (cc)
    by (Some n) h = found (find (is_numbered n) a.pairs) n refl (eqb-true n p.number h)

  off-and : (x y : Bool) → x ≡ false → (x && y) ≡ false
  off-and true y is = absurd (cc)
  off-and false y is = refl

  doubts-none : (p : PairRecord) → is_named_by a.selected_pair p ≡ true → is_doubted a p ≡ false
  doubts-none p named = last-off (is_urgent p) (no-alternative p named (is_new_choice p) (λ q none. two-off (is_alternative p q) (is_urgent q) _ none)) where
    last-off : (u : Bool) {x : Bool} → x ≡ false → (not u && x) ≡ false
    last-off true is = refl
    last-off false is = is

    two-off : (x y z : Bool) → x ≡ false → (x && y && z) ≡ false
    two-off true y z is = absurd (cc)
    two-off false y z is = refl

  pub same-unneeded : a.controlling ≡ false → (p : PairRecord) → needs_check a p ≡ false
  same-unneeded controlled p = off (needs_check a p) (λ needs.
      let named : is_named_by a.selected_pair p ≡ true =
      fourth (is_modern a.timing) (not a.lite) (not (numbers a)) (is_named_by a.selected_pair p) (is_eligible a.controlling p) (if a.controlling then a.nomination_due else is_doubted a p) needs in
      let doubted : is_doubted a p ≡ true =
      ap (λ b. if b then a.nomination_due else is_doubted a p) (sym controlled)
      ∙ sixth (is_modern a.timing) (not a.lite) (not (numbers a)) (is_named_by a.selected_pair p) (is_eligible a.controlling p) (if a.controlling then a.nomination_due else is_doubted a p) needs in
      let no : false ≡ true = sym (doubts-none p named) ∙ doubted in absurd (cc))

  pub same-undisputed : a.controlling ≡ false → option_map_or (is_contested a) (pair_selected a.selected_pair a.pairs) false ≡ false
  same-undisputed controlled = by (pair_selected a.selected_pair a.pairs) refl where
    overruled : (p : PairRecord) → is_named_by a.selected_pair p ≡ true → (o : Option Span) → option_map_or (is_overruled a p) o false ≡ false
    overruled p named None = refl
    overruled p named (Some silence) =
        three-off (not a.controlling) (not (is_lossy p)) (no-alternative p named (is_choice_at silence.from.0 p) (λ q none. off-and (is_alternative p q) _ none)) where
          three-off : (x y : Bool) {z : Bool} → z ≡ false → (x && y && z) ≡ false
          three-off true true is = is
          three-off true false is = refl
          three-off false y is = refl

    by : (o : Option PairRecord) → pair_selected a.selected_pair a.pairs ≡ o → option_map_or (is_contested a) o false ≡ false
    by None is = refl
    by (Some p) is = neither (needs_check a p) _ (same-unneeded controlled p) (overruled p (selected-named a.selected_pair a.pairs p is) (silence_of p.checks)) where
      neither : (x y : Bool) → x ≡ false → y ≡ false → (x || y) ≡ false
      neither true y is also = absurd (cc)
      neither false y is also = also

-- none of the pairs needs one
pub unless-needs : {H P : Type 0} (a : AgentRecord H P) (now : ℕ) → ((p : PairRecord) → needs_check a p ≡ false)
    → a.pairs ≡ map (hastened (needs_check a) now) a.pairs
unless-needs a now none = none-moved (needs_check a) now a.pairs (λ p has. none p)

-- ---- the pair that gives way

module _ {H P : Type 0} (now : ℕ) (a : AgentRecord H P) (rising : rises a.pairs ≡ true) where
  gives-named : (p : PairRecord) → gives_way now a p ≡ true → is_named_by a.selected_pair p ≡ true
  gives-named p gives = third (is_modern a.timing) (not a.lite) (is_named_by a.selected_pair p) (is_eligible a.controlling p)
      (nat_le a.timing.max_retransmits (unanswered_count p.checks))
      (option_map_or (λ silence. (is_silent_enough now a.timing p || is_overruled a p silence) && list_any (may_replace now a p.number silence) a.pairs)
      (silence_of p.checks) false) gives

  pub none-left : pair_selected a.selected_pair a.pairs ≡ None → a.pairs ≡ (silent_gone now a).pairs
  none-left none = sym (kept-all (gives_way now a) a.pairs (none-passes a rising (gives_way now a) gives-named none))

  pub found-none : pair_selected a.selected_pair a.pairs ≡ None → None ≡ find (gives_way now a) a.pairs
  found-none none = none-found (gives_way now a) a.pairs (none-passes a rising (gives_way now a) gives-named none)

  pub stays-selected : (q : PairRecord) → pair_selected a.selected_pair a.pairs ≡ Some q → gives_way now a q ≡ false → a.pairs ≡ (silent_gone now a).pairs
  stays-selected q is stays = sym (kept-all (gives_way now a) a.pairs (none-else a rising (gives_way now a) gives-named q is stays))

  pub found-else : (q : PairRecord) → pair_selected a.selected_pair a.pairs ≡ Some q → gives_way now a q ≡ false → None ≡ find (gives_way now a) a.pairs
  found-else q is stays = none-found (gives_way now a) a.pairs (none-else a rising (gives_way now a) gives-named q is stays)

  pub one-left : (q : PairRecord) → pair_selected a.selected_pair a.pairs ≡ Some q → gives_way now a q ≡ true
      → without (is_numbered q.number) a.pairs ≡ (silent_gone now a).pairs
  one-left q is gives = same-without (is_numbered q.number) (gives_way now a) a.pairs (alike a rising (gives_way now a) gives-named q is gives)

  pub found-one : (q : PairRecord) → pair_selected a.selected_pair a.pairs ≡ Some q → gives_way now a q ≡ true
      → pair_numbered q.number a.pairs ≡ find (gives_way now a) a.pairs
  found-one q is gives = same-found (is_numbered q.number) (gives_way now a) a.pairs (alike a rising (gives_way now a) gives-named q is gives)
