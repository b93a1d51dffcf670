-- A `handle_timeout` call while a path is to be selected or nominated at once: a check is sent, a pair is removed, or a path is selected.
use Rattle.is_stun.specs.declared.header.Class.TheVariants as class
use Rattle.is_theorems.proofs.Common.{[], ◌&&◌, ◌==◌, ◌||◌, ◌∙◌, ◌∷◌, ◌≡◌, ◌⊎◌, AgentRecord, all_scheduled, ap, scheduled, at_timeout, Bool}
use Rattle.is_theorems.proofs.Common.{ChecksOn, ChecksTop, chosen-able, chosen-none, Emitted, eq-eqb, expired_gone, false, find, followed}
use Rattle.is_theorems.proofs.Common.{gives_way, Has, hastened, IceCreds, if◌then◌else◌, inl, inr, is_eligible, is_expired, is_numbered}
use Rattle.is_theorems.proofs.Common.{is_pressing, is_some, IsGone, IsNextToCheck, Issued, issued_as, List, list_any, MaintainsPairs, map}
use Rattle.is_theorems.proofs.Common.{MayCheck, named-by, Nominates, nominates_at_once, None, none_pass, not, numbers, Option}
use Rattle.is_theorems.proofs.Common.{option_map_or, pair_selected, PairRecord, Path, path_left, path_of, refl, remains, RemovesExpired}
use Rattle.is_theorems.proofs.Common.{selected_in, selection_of, state_updated, silent_gone, Some, Stream, StunTiming, subst, sym, true, ℕ}
use Rattle.is_theorems.proofs.DuePairs.AfterNominationAndRemoval.{Base, Distinct, Thins, base_of, hastened-akin, nominates-thins, passed}
use Rattle.is_theorems.proofs.DuePairs.AfterNominationAndRemoval.{expires-thins}
use Rattle.is_theorems.proofs.BasicLemmas.PairsInTurn.{next-has, none-to-send}
use Rattle.is_theorems.proofs.DuePairs.FirstDuePair.{check-follows, gone-follows, next-check}
use Rattle.is_theorems.proofs.RuleEffects.ChangedPairs.{Has-map}
use Rattle.is_theorems.proofs.RuleEffects.EarlierAndNewPairs.{Has-filter}
use Rattle.is_theorems.proofs.RuleEffects.HastenedPairs.{Hastens}
use Rattle.is_theorems.proofs.RuleEffects.NominatedPairs.{SelectsPath, selects_path}
use Rattle.is_theorems.proofs.RuleEffects.UnchangedSettings.{either}
use Rattle.is_theorems.proofs.DuePairs.ConsentAfterTimeouts.{any-none}
use Rattle.is_theorems.proofs.RuleEffects.PathsThatAreLeft.{none-left}
use Rattle.is_theorems.proofs.RuleEffects.UnhastenedPairs.{numbered-unneeded}

-- ---- the selected pair

scheduled-found : (n now : ℕ) (t : StunTiming) (ps : List PairRecord) → is_some (find (is_numbered n) (map (scheduled now t) ps)) ≡ is_some (find (is_numbered n) ps)
scheduled-found n now t [] = refl
scheduled-found n now t (p ∷ ps) =
    elim (is_numbered n p) as (λ b. is_some (if b then Some (scheduled now t p) else find (is_numbered n) (map (scheduled now t) ps)) ≡ is_some (if b then Some p else find (is_numbered n) ps)) [
      | true ↦ refl
      | false ↦ scheduled-found n now t ps
    ]

scheduled-selected : (o : Option ℕ) (now : ℕ) (t : StunTiming) (ps : List PairRecord) → is_some (pair_selected o (map (scheduled now t) ps)) ≡ is_some (pair_selected o ps)
scheduled-selected None now t ps = refl
scheduled-selected (Some n) now t ps = scheduled-found n now t ps

found-some : (ps : List PairRecord) (p : PairRecord) → Has ps p → is_some (find (is_numbered p.number) ps) ≡ true
found-some [] p has = absurd has
found-some (q ∷ ps) p has = by (is_numbered p.number q) refl (λ rest. found-some ps p rest) has where
  by : (b : Bool) → is_numbered p.number q ≡ b → (Has ps p → is_some (find (is_numbered p.number) ps) ≡ true) → Has (q ∷ ps) p → is_some (if b then Some q else find (is_numbered p.number) ps) ≡ true
  by true is later has = refl
  by false is later (inl same) = absurd (let no : true ≡ false = sym (ap (λ (x : PairRecord). is_numbered p.number x) same ∙ own) ∙ is in cc) where
    own : is_numbered p.number p ≡ true
    own = eq-eqb p.number p.number refl
  by false is later (inr rest) = later rest

any-scheduled : (now : ℕ) (t : StunTiming) (c : Bool) (ps : List PairRecord) → list_any (is_eligible c) (map (scheduled now t) ps) ≡ list_any (is_eligible c) ps
any-scheduled now t c [] = refl
any-scheduled now t c (p ∷ ps) = ap (λ b. is_eligible c p || b) (any-scheduled now t c ps)

-- fixed due times leave what presses
pub scheduled-presses : {H P : Type 0} (at : ℕ) (a : AgentRecord H P) → is_pressing (all_scheduled at a) ≡ is_pressing a
scheduled-presses at a =
    ap (λ b. numbers a && (if b then a.controlling && not a.lite && a.nomination_due else list_any (is_eligible a.controlling) (map (scheduled at a.timing) a.pairs)))
    (scheduled-selected a.selected_pair at a.timing a.pairs)
    ∙ ap (λ b. numbers a && (if is_some (pair_selected a.selected_pair a.pairs) then a.controlling && not a.lite && a.nomination_due else b))
    (any-scheduled at a.timing a.controlling a.pairs)

-- what presses
presses-why : (n e c l d x : Bool) → (n && (if e then c && not l && d else x)) ≡ true → ((c && not l && n && d && e) ≡ true) ⊎ ((e ≡ false) × (x ≡ true))
presses-why true false c l d x h = inr (refl, h)
presses-why true true true false true x h = inl refl
presses-why true true true false false x h = absurd (let no : false ≡ true = h in cc)
presses-why true true true true d x h = absurd (let no : false ≡ true = h in cc)
presses-why true true false l d x h = absurd (let no : false ≡ true = h in cc)
presses-why false e c l d x h = absurd (let no : false ≡ true = h in cc)

left-on : (n rest : Bool) → (n && rest) ≡ true → n ≡ true
left-on true rest h = refl
left-on false rest h = absurd (let no : false ≡ true = h in cc)

some-priority : (k : ℕ) (o : Option PairRecord) → option_map_or (λ (p : PairRecord). p.priority == k) o false ≡ true → is_some o ≡ true
some-priority k None h = h
some-priority k (Some p) h = refl

all-facts : (c l n d e f : Bool) → f ≡ e → (c && not l && n && d && e) ≡ true → (c && not l && n && d && f) ≡ true
all-facts c l n d e f same h = ap (λ b. c && not l && n && d && b) same ∙ h

passes-any : (test : PairRecord → Bool) (ps : List PairRecord) → list_any test ps ≡ true → (p : PairRecord) × Has ps p × (test p ≡ true)
passes-any test [] h = absurd (let no : false ≡ true = h in cc)
passes-any test (p ∷ ps) h = by (test p) refl (λ rest. passes-any test ps rest) h where
  by : (b : Bool) → test p ≡ b → (list_any test ps ≡ true → (q : PairRecord) × Has ps q × (test q ≡ true)) → (b || list_any test ps) ≡ true → (q : PairRecord) × Has (p ∷ ps) q × (test q ≡ true)
  by true is later h = (p, inl refl, is)
  by false is later h = let k = later h in (k.0, inr k.1, k.2)

module _ {H P : Type 0} where
  -- a chosen pair that stays selected is there
  remains-some : (a : AgentRecord H P) (by : Option ℕ) (top : PairRecord) → Has a.pairs top → remains by top (selection_of a) ≡ true → is_some (pair_selected a.selected_pair a.pairs) ≡ true
  remains-some a None top has persists = some-priority top.priority (pair_selected a.selected_pair a.pairs) persists
  remains-some a (Some n) top has named =
      ap (λ o. is_some (pair_selected o a.pairs)) (named-by a.selected_pair top named) ∙ found-some a.pairs top has

  -- if the selected pair is gone and another one may be selected, it is
  selects-some : (old new : AgentRecord H P) → SelectsPath old None new → is_some (pair_selected old.selected_pair old.pairs) ≡ false
      → list_any (is_eligible old.controlling) old.pairs ≡ true → ⊥
  selects-some old new (None, chosen, k) gone able =
      let o = passes-any (is_eligible old.controlling) old.pairs able in
      none_pass (is_eligible old.controlling) old.pairs o.0 (chosen-none old.controlling (followed old) (selection_of old) chosen) o.1 o.2
  selects-some old new (Some top, chosen, k) gone able =
      let has = (chosen-able old.controlling (followed old) (selection_of old) top chosen).0 in
      either (remains (followed old) top (selection_of old)) k
      (λ stays _. (let no : true ≡ false = sym (remains-some old (followed old) top has stays) ∙ gone in cc))
      (λ _ l. (let no : None ≡ Some (path_of old top) = l.0 in cc))

  -- and nothing changes if no path is selected
  selects-none : (old new : AgentRecord H P) → SelectsPath old None new → new ≡ old
  selects-none old new (None, chosen, k) = k.1
  selects-none old new (Some top, chosen, k) = either (remains (followed old) top (selection_of old)) k
      (λ _ l. l.1)
      (λ _ l. absurd (let no : None ≡ Some (path_of old top) = l.0 in cc))

  module _ (mac : H → List ℕ → List ℕ → List ℕ) (now : ℕ) (old new : AgentRecord H P) (s t : Stream) (emitted : Emitted)
      (known : is_some old.remote_creds ≡ true) (full : old.lite ≡ false) (distinct : Distinct old.pairs) (presses : is_pressing old ≡ true) where
    abbrev OfUse : Type 0
    OfUse =
        ((p : PairRecord) × Has old.pairs p × (ChecksOn old emitted p ⊎ IsGone p.number new.pairs))
        ⊎ ((path : Path) × Has emitted.selected_paths (Some path))

    -- no path is selected, and no pair is removed: a check is sent
    sends : (kept : AgentRecord H P) (issued : Option Issued) → kept ≡ state_updated true now (at_timeout now old) → SelectsPath (at_timeout now old) None (at_timeout now old)
        → emitted.issued ≡ issued → (peer : IceCreds) (next : Option PairRecord) → IsNextToCheck now (all_scheduled now kept) next → ChecksTop mac now peer next (all_scheduled now kept) s issued new t → OfUse
    sends kept issued same named out peer (Some q) chosen (id, drawn, values, is, made) =
        let has : Has (map (scheduled now kept.timing) kept.pairs) q = next-has now (all_scheduled now kept) q chosen in
        let o = Has-map (scheduled now kept.timing) kept.pairs q has in
        inl (
          o.0,
          subst (λ (a : AgentRecord H P). Has a.pairs o.0) same o.1,
          inl (id, out ∙ (is ∙ (ap (λ (x : PairRecord). Some (issued_as (path_of kept x) class.Request id)) (sym o.2) ∙ ap (λ (a : AgentRecord H P). Some (issued_as (path_of a o.0) class.Request id)) same))),
        )
    sends kept issued same named out peer None chosen h =
        absurd (elim (presses-why (numbers old) (is_some (pair_selected old.selected_pair old.pairs)) old.controlling old.lite old.nomination_due (list_any (is_eligible old.controlling) old.pairs) presses) [
          | inl due ↦ none-once (subst (λ (a : AgentRecord H P). nominates_at_once (all_scheduled now a) ≡ true) (sym same)
              (all-facts old.controlling old.lite (numbers old) old.nomination_due (is_some (pair_selected old.selected_pair old.pairs))
              (is_some (pair_selected old.selected_pair (map (scheduled now old.timing) old.pairs))) (scheduled-selected old.selected_pair now old.timing old.pairs) due))
          | inr (gone, able) ↦ selects-some (at_timeout now old) (at_timeout now old) named gone able
        ]) where
          none-once : nominates_at_once (all_scheduled now kept) ≡ true → ⊥
          none-once due = none-to-send now (all_scheduled now kept) chosen due

    on-removed : (first second : Option Path) (issued : Option Issued) (named kept : AgentRecord H P) → first ≡ None → second ≡ None
        → SelectsPath (at_timeout now old) first named → RemovesExpired now named second kept → MayCheck mac now kept.remote_creds kept s issued new t → emitted.issued ≡ issued → OfUse
    on-removed first second issued named kept none_first none_second names gives checking out =
        let named_none : SelectsPath (at_timeout now old) None named = subst (λ o. SelectsPath (at_timeout now old) o named) none_first names in
        let same : named ≡ at_timeout now old = selects-none (at_timeout now old) named named_none in
        either (list_any (is_expired now named) named.pairs) gives
        (λ some k. removed same k.0 (ap (λ (a : AgentRecord H P). a.pairs) k.2) (nominates-thins 0 (expired_gone now named) k.0 second k.1) (passes-any (is_expired now named) named.pairs some)
        (ap (λ (a : AgentRecord H P). base_of a) k.2))
        (λ _ k. (
        let stays : kept ≡ state_updated true now (at_timeout now old) = k.1 ∙ ap (λ (a : AgentRecord H P). state_updated true now a) same in
        let n = next-check mac now kept.remote_creds kept new s t issued (ap (λ (a : AgentRecord H P). is_some a.remote_creds) stays ∙ known) (ap (λ (a : AgentRecord H P). a.lite) stays ∙ full) checking in
        sends kept issued stays (subst (λ (a : AgentRecord H P). SelectsPath (at_timeout now old) None a) same named_none) out n.0 n.1 n.2 n.3)) where
          removed : named ≡ at_timeout now old → (mid : AgentRecord H P) → kept.pairs ≡ mid.pairs → Thins 0 (expired_gone now named) mid
              → (p : PairRecord) × Has named.pairs p × (is_expired now named p ≡ true) → base_of kept ≡ base_of mid → OfUse
          removed same mid pairs thins (p, has, is) base =
              let there : Has old.pairs p = subst (λ (a : AgentRecord H P). Has a.pairs p) same has in
              let all : base_of kept ≡ base_of (at_timeout now old) = base ∙ (thins.0 ∙ ap (λ (a : AgentRecord H P). base_of a) same) in
              let gone : IsGone p.number kept.pairs = (λ q q_has number.
              (let o = thins.1.back q (subst (λ ps. Has ps q) pairs q_has) in
              let was : Has named.pairs o.0 = Has-filter (λ x. not (is_expired now named x)) named.pairs o.0 o.1 in
              let one : o.0 ≡ p = distinct o.0 p (subst (λ (a : AgentRecord H P). Has a.pairs o.0) same was) there (sym o.2.number ∙ number) in
              let no : false ≡ true =
              ap not (sym is) ∙ (ap (λ (x : PairRecord). not (is_expired now named x)) (sym one) ∙ passed (λ x. not (is_expired now named x)) named.pairs o.0 o.1) in
              cc)) in
              let d = check-follows mac now kept.remote_creds kept new s t issued (ap (λ (x : Base). is_some x.remote_creds) all ∙ known) (ap (λ (x : Base). x.lite) all ∙ full) checking in
              inl (p, there, inr (gone-follows kept.pairs new.pairs p.number d.1 gone))

    pub pressing-goes : MaintainsPairs mac now old s emitted new t → OfUse
    pressing-goes (first, second, issued, named, kept, names, gives, checking, is) = by first second refl refl where
      paths : emitted.selected_paths ≡ selected_in first second
      paths = ap (λ (x : Emitted). x.selected_paths) is

      -- a pair that gives way is removed
      left-gone : (p : PairRecord) → Has old.pairs p → gives_way now old p ≡ true → OfUse
      left-gone p has gives_p =
          let a = nominates-thins 0 (path_left now (at_timeout now old)) named first names in
          let b = expires-thins 0 now named kept second gives in
          let base : base_of kept ≡ base_of (at_timeout now old) = b.0 ∙ a.0 in
          let gone : IsGone p.number kept.pairs = (λ q q_has number.
          (let n = b.1.back q q_has in let o = a.1.back n.0 n.1 in
          let c = Hastens now (at_timeout now old) in
          let m = Has-map (hastened c now) (silent_gone now (at_timeout now old)).pairs o.0 o.1 in
          let there = Has-filter (λ x. not (gives_way now (at_timeout now old) x)) old.pairs m.0 m.1 in
          let same : m.0.number ≡ o.0.number = sym (hastened-akin c now m.0).number ∙ ap (λ (x : PairRecord). x.number) m.2 in
          let one : m.0 ≡ p = distinct m.0 p there has (same ∙ (sym o.2.number ∙ (sym n.2.number ∙ number))) in
          let no : false ≡ true = ap not (sym gives_p)
          ∙ (ap (λ (x : PairRecord). not (gives_way now (at_timeout now old) x)) (sym one) ∙ passed (λ x. not (gives_way now (at_timeout now old) x)) old.pairs m.0 m.1) in
          cc)) in
          let d = check-follows mac now kept.remote_creds kept new s t issued (ap (λ (x : Base). is_some x.remote_creds) base ∙ known) (ap (λ (x : Base). x.lite) base ∙ full) checking in
          inl (p, has, inr (gone-follows kept.pairs new.pairs p.number d.1 gone))

      by : (a b : Option Path) → first ≡ a → second ≡ b → OfUse
      by (Some path) b is_a is_b =
          inr (path, subst (λ ps. Has ps (Some path)) (sym paths) (subst (λ o. Has (selected_in o second) (Some path)) (sym is_a) (inl refl)))
      by None (Some path) is_a is_b =
          inr (
            path,
            subst (λ ps. Has ps (Some path)) (sym paths) (subst (λ o. Has (selected_in o second) (Some path)) (sym is_a)
                (subst (λ o. Has (selected_in None o) (Some path)) (sym is_b) (inl refl))),
          )
      by None None is_a is_b = elim (list_any (gives_way now old) old.pairs) as (λ b. list_any (gives_way now old) old.pairs ≡ b → OfUse) [
        | true ↦ λ some. (let k = passes-any (gives_way now old) old.pairs some in left-gone k.0 k.1 k.2)
        | false ↦ λ none.
            (let even : path_left now (at_timeout now old) ≡ at_timeout now old = none-left now (at_timeout now old) (λ p has. any-none (gives_way now old) old.pairs p none has)
            (λ p has. numbered-unneeded (at_timeout now old) p (left-on (numbers old) _ presses)) in
            on-removed first second issued named kept is_a is_b
            (selects_path (at_timeout now old) named first (subst (λ (a : AgentRecord H P). Nominates a first named) even names)) gives checking (ap (λ (x : Emitted). x.issued) is))
      ] refl
