-- The effects of nomination, removal of pairs, checks and responses on pairs.
use Rattle.is_theorems.proofs.Common.{[], ◌&&◌, ◌<◌, ◌||◌, ◌∙◌, ◌∷◌, ◌≡◌, ◌≤◌, ◌⊎◌, AgentRecord, ap, AreRising, arith, Bool, change_at}
use Rattle.is_theorems.proofs.Common.{change_pair, Check, chosen-able, each-way, eq-eqb, expired_gone, false, followed, formed, formed_again, get_or}
use Rattle.is_theorems.proofs.Common.{gives_way, Has}
use Rattle.is_theorems.proofs.Common.{hastened, if◌then◌else◌, inl, inr, is_eligible, is_expired, is_nominated, is_numbered, is_valid}
use Rattle.is_theorems.proofs.Common.{length, List, list_any, map, moved_up, nominated, nominated_by_self, Nominates, None, not, Option}
use Rattle.is_theorems.proofs.Common.{PairRecord, Path, path_left, path_of, refl, remains, RemovesExpired, selection_of, silent_gone, Some}
use Rattle.is_theorems.proofs.Common.{subst, suc, sym, true, zero, ℕ}
use Rattle.is_theorems.proofs.RuleEffects.UnchangedSettings.{either}
use Rattle.is_theorems.proofs.RuleEffects.SelectedPaths.{Evaluates, evaluates_none, one_pair, some_is, none_is}
use Rattle.is_theorems.proofs.RuleEffects.EarlierAndNewPairs.{Parts, path_in, Fit, IsConsented, IsStarted, IsNominatedIn, Persisted, Onward}
use Rattle.is_theorems.proofs.RuleEffects.EarlierAndNewPairs.{here, not_below, onward, pushed, thinned, Has-filter}
use Rattle.is_theorems.proofs.RuleEffects.NominatedPairs.{selected_paths, SelectsPath, selects_path}
use Rattle.is_theorems.proofs.RuleEffects.HastenedPairs.{by-hastened, left-held, Hastens}

pub Has-map : {X Y : Type 0} (f : X → Y) (xs : List X) (y : Y) → Has (map f xs) y → (x : X) × Has xs x × (f x ≡ y)
Has-map f [] y h = absurd h
Has-map f (x ∷ xs) y (inl e) = (x, inl refl, e)
Has-map f (x ∷ xs) y (inr h) = let r = Has-map f xs y h in (r.0, inr r.1, r.2)

pub Has-at : {X : Type 0} (xs : List X) (i : ℕ) (d : X) → i < length xs → Has xs (get_or xs i d)
Has-at [] i d lt = let at_least : 0 ≤ i = omega arith in absurd (let none : ⊥ = omega (arith, lt) in none)
Has-at (x ∷ xs) zero d lt = inl refl
Has-at (x ∷ xs) (suc i) d lt = inr (Has-at xs i d (omega (arith, lt)))

rising-map : (f : PairRecord → PairRecord) (ps : List PairRecord) → ((p : PairRecord) → Has ps p → (f p).number ≡ p.number) → AreRising ps → AreRising (map f ps)
rising-map f [] same rising = tt
rising-map f (p ∷ ps) same rising = (
  (λ q has.
      let o = Has-map f ps q has in
      let lt : p.number < o.0.number = rising.0 o.0 o.1 in
      let its : q.number ≡ o.0.number = ap (λ (x : PairRecord). x.number) (sym o.2) ∙ same o.0 (inr o.1) in
      let own : (f p).number ≡ p.number = same p (inl refl) in
      subst (λ n. (f p).number < n) (sym its) (subst (λ n. n < o.0.number) (sym own) lt)),
  rising-map f ps (λ q has. same q (inr has)) rising.1,
)

-- the path of an eligible pair was that of a valid one
pub eligible_valid : (controlling : Bool) (p : PairRecord) → is_eligible controlling p ≡ true → is_valid p ≡ true
eligible_valid controlling p is = left (is_valid p) (controlling || is_nominated p) is where
  left : (a b : Bool) → (a && b) ≡ true → a ≡ true
  left true b h = refl
  left false b h = h

right : (a b : Bool) → (a && b) ≡ true → b ≡ true
right true b h = h
right false b h = let no : false ≡ true = h in cc

-- what nomination leaves of a pair
pub record Kept_by_self (p q : PairRecord) : Type 0 where
  pub number : q.number ≡ p.number
  pub priority : q.priority ≡ p.priority
  pub local : q.local ≡ p.local
  pub remote : q.remote ≡ p.remote
  pub valid : is_valid q ≡ is_valid p
  pub checks : q.checks ≡ p.checks

pub self_kept : (b l : Bool) (p : PairRecord) → Kept_by_self p (if b then nominated l p else p)
self_kept true true p = record { number = refl; priority = refl; local = refl; remote = refl; valid = refl; checks = refl }
self_kept true false p = record { number = refl; priority = refl; local = refl; remote = refl; valid = refl; checks = refl }
self_kept false l p = record { number = refl; priority = refl; local = refl; remote = refl; valid = refl; checks = refl }

number_kept : (b c l : Bool) (p : PairRecord) → (if b then nominated_by_self c l p else p).number ≡ p.number
number_kept true c l p = (self_kept (not (is_nominated p) && (c || l)) l p).number
number_kept false c l p = refl

self_nominated : (n c l : Bool) (p : PairRecord) → is_nominated p ≡ n → (c || n) ≡ true → is_nominated (if not n && (c || l) then nominated l p else p) ≡ true
self_nominated true c l p is h = is
self_nominated false true true p is h = refl
self_nominated false true false p is h = refl
self_nominated false false l p is h = let no : false ≡ true = h in cc

module _ (asks : Path → ℕ → Type 0) (met : Path → Type 0) (sent : Path → List ℕ → Bool → Type 0) where
  -- the possible changes of one pair
  pub record Changed (path : Path) (was now : PairRecord) : Type 0 where
    pub number : now.number ≡ was.number
    pub local : now.local ≡ was.local
    pub remote : now.remote ≡ was.remote
    pub checks : (c : Check) → Has now.checks c → ((d : Check) × Has was.checks d × (d.id ≡ c.id) × (d.controlling ≡ c.controlling)) ⊎ sent path c.id c.controlling
    pub valid : is_valid now ≡ true → (is_valid was ≡ true) ⊎ met path
    pub asked : is_nominated now ≡ true → (is_nominated was ≡ true) ⊎ asks path 0
    pub numbered : (m : ℕ) → m ≤ now.greatest_number → (m ≤ was.greatest_number) ⊎ asks path m
    pub still_valid : is_valid was ≡ true → is_valid now ≡ true
    pub still_nominated : is_nominated was ≡ true → is_nominated now ≡ true
    pub started : IsStarted was → IsStarted now
    pub consented : IsStarted was → IsConsented was → IsConsented now

  pub unchanged : (path : Path) (p : PairRecord) → Changed path p p
  unchanged path p = record {
    number = refl;
    local = refl;
    remote = refl;
    checks = λ c keeps. inl (c, keeps, refl, refl);
    valid = λ is. inl is;
    asked = λ is. inl is;
    numbered = λ m le. inl le;
    still_valid = λ is. is;
    still_nominated = λ is. is;
    started = λ s. s;
    consented = λ _ had. had;
  }

  -- its due time is moved up
  sooner : (path : Path) (at : ℕ) (p : PairRecord) → Changed path p (moved_up at p)
  sooner path at p = record {
    number = refl;
    local = refl;
    remote = refl;
    checks = λ c keeps. inl (c, keeps, refl, refl);
    valid = λ is. inl is;
    asked = λ is. inl is;
    numbered = λ m le. inl le;
    still_valid = λ is. is;
    still_nominated = λ is. is;
    started = λ s. s;
    consented = λ _ had. had;
  }

  -- each pair changes so
  pub mapped : (x : Parts) (f : PairRecord → PairRecord) → Fit x → ((p : PairRecord) → Has x.pairs p → Changed (path_in x p) p (f p))
      → Onward asks met sent x (record x { pairs = map f x.pairs })
  mapped x f fit changes = record {
    counter = omega arith;
    pairs = λ p has. (
        let y : Parts = record x { pairs = map f x.pairs } in
        let o = Has-map f x.pairs p has in
        let c = changes o.0 o.1 in
        let path : path_in x o.0 ≡ path_in y (f o.0) =
        ap (λ l. path_in x (record o.0 { local = l })) (sym c.local) ∙ ap (λ r. path_in x (record o.0 { local = (f o.0).local; remote = r })) (sym c.remote) in
        inl (subst (λ (q : PairRecord). Persisted asks met sent x y q) o.2 (record {
          was = o.0;
          there = o.1;
          number = sym c.number;
          path = path;
          checks = λ k keeps. elim (c.checks k keeps) [ inl d ↦ inl d | inr out ↦ inr (subst (λ z. sent z k.id k.controlling) path out) ];
          valid = λ is. elim (c.valid is) [ inl v ↦ inl v | inr m ↦ inr (subst met path m) ];
          asked = λ is. elim (c.asked is) [ inl v ↦ inl v | inr m ↦ inr (subst (λ z. asks z 0) path m) ];
          numbered = λ m le. elim (c.numbered m le) [ inl v ↦ inl v | inr a ↦ inr (subst (λ z. asks z m) path a) ];
          still_valid = c.still_valid;
          still_nominated = c.still_nominated;
        })));
    fit = record {
      placed = λ p has. (
          let o = Has-map f x.pairs p has in let c = changes o.0 o.1 in let k = fit.placed o.0 o.1 in
          subst (λ (q : PairRecord). (q.local < length x.local) × (q.remote < length x.remote)) o.2
          (subst (λ l. l < length x.local) (sym c.local) k.0, subst (λ r. r < length x.remote) (sym c.remote) k.1));
      rising = rising-map f x.pairs (λ p has. (changes p has).number) fit.rising;
      below = λ p has. (
          let o = Has-map f x.pairs p has in
          subst (λ (q : PairRecord). q.number < x.next_number) o.2 (subst (λ n. n < x.next_number) (sym (changes o.0 o.1).number) (fit.below o.0 o.1)));
      started = λ p has. (
          let o = Has-map f x.pairs p has in
          subst (λ (q : PairRecord). IsStarted q) o.2 ((changes o.0 o.1).started (fit.started o.0 o.1)));
      consented = λ p has. (
          let o = Has-map f x.pairs p has in
          subst (λ (q : PairRecord). IsConsented q) o.2 ((changes o.0 o.1).consented (fit.started o.0 o.1) (fit.consented o.0 o.1)));
    };
  }

  -- the pair with the number changes
  if_numbered : (b : Bool) (path : Path) (g : PairRecord → PairRecord) (p : PairRecord) → (b ≡ true → Changed path p (g p)) → Changed path p (if b then g p else p)
  if_numbered true path g p h = h refl
  if_numbered false path g p h = unchanged path p

  pub one_changed : (x : Parts) (n : ℕ) (g : PairRecord → PairRecord) → Fit x
      → ((p : PairRecord) → Has x.pairs p → is_numbered n p ≡ true → Changed (path_in x p) p (g p))
      → Onward asks met sent x (record x { pairs = change_pair n g x.pairs })
  one_changed x n g fit changes = mapped x (change_at n g) fit (λ p has. if_numbered (is_numbered n p) (path_in x p) g p (λ is. changes p has is))

  -- ---- nomination

  nominates_now : (path : Path) (lite : Bool) (p : PairRecord) → asks path 0 → Changed path p (nominated lite p)
  nominates_now path true p asking = record {
    number = refl;
    local = refl;
    remote = refl;
    checks = λ c keeps. inl (c, keeps, refl, refl);
    valid = λ is. inl is;
    asked = λ is. inr asking;
    numbered = λ m le. inl le;
    still_valid = λ is. is;
    still_nominated = λ is. refl;
    started = λ s. s;
    consented = λ _ had. had;
  }
  nominates_now path false p asking = record {
    number = refl;
    local = refl;
    remote = refl;
    checks = λ c keeps. inl (c, keeps, refl, refl);
    valid = λ is. inl is;
    asked = λ is. inr asking;
    numbered = λ m le. inl le;
    still_valid = λ is. is;
    still_nominated = λ is. refl;
    started = λ s. s;
    consented = λ _ had. had;
  }

  by_self : (fresh free : Bool) (path : Path) (lite : Bool) (p : PairRecord) → (free ≡ true → asks path 0) → Changed path p (if fresh && free then nominated lite p else p)
  by_self true true path lite p asking = nominates_now path lite p (asking refl)
  by_self true false path lite p asking = unchanged path p
  by_self false free path lite p asking = unchanged path p

  module _ {H P : Type 0} where
    abbrev pub parts_of : AgentRecord H P → Parts
    parts_of a = record { local = a.local; remote = a.remote; pairs = a.pairs; next_number = a.next_number }

    -- the pair of the path that was left is formed again
    pub forms_again : (s : AgentRecord H P) → Fit (parts_of s) → Onward asks met sent (parts_of s) (parts_of (formed_again s))
    forms_again s fit = each-way (λ a. Onward asks met sent (parts_of s) (parts_of a)) s (here asks met sent (parts_of s) fit)
        (λ i j may. pushed asks met sent (parts_of s) s.pairs (formed s i j) fit (λ q has. has) fit.rising refl (may.in_local, may.in_remote) refl
        (λ (is : false ≡ true). cc) (λ (is : false ≡ true). cc) (λ (is : false ≡ true). cc) (λ m pos le. not_below m pos le))

    -- nomination leaves everything except nominations, and selects a valid path
    selects_one : (old new : AgentRecord H P) (path : Option Path) → ((old.controlling || old.lite) ≡ true → (p : Path) (m : ℕ) → asks p m) → Fit (parts_of old) → SelectsPath old path new
        → Onward asks met sent (parts_of old) (parts_of new) × Evaluates asks met sent (parts_of old) (parts_of new) old.selected_pair new.selected_pair path
    selects_one old new path free fit (None, none, (is, same)) = (
      subst (λ (a : AgentRecord H P). Onward asks met sent (parts_of old) (parts_of a)) (sym same) (here asks met sent (parts_of old) fit),
      evaluates_none asks met sent (parts_of old) (parts_of new) old.selected_pair new.selected_pair path is (ap (λ (a : AgentRecord H P). a.selected_pair) same),
    )
    selects_one old new path free fit (Some top, chosen, h) = either (remains (followed old) top (selection_of old)) h
        (λ _ k. (
          subst (λ (a : AgentRecord H P). Onward asks met sent (parts_of old) (parts_of a)) (sym k.1) (here asks met sent (parts_of old) fit),
          evaluates_none asks met sent (parts_of old) (parts_of new) old.selected_pair new.selected_pair path k.0 (ap (λ (a : AgentRecord H P). a.selected_pair) k.1),
        ))
        (λ _ k. (
          subst (λ (a : AgentRecord H P). Onward asks met sent (parts_of old) (parts_of a)) (sym k.1)
              (one_changed (parts_of old) top.number g fit
              (λ p there is. by_self (not (is_nominated p)) (old.controlling || old.lite) (path_of old p) old.lite p (λ allowed. free allowed (path_of old p) 0))),
          subst (λ (a : AgentRecord H P). Evaluates asks met sent (parts_of old) (parts_of a) old.selected_pair a.selected_pair path) (sym k.1)
              (subst (λ (o : Option Path). Evaluates asks met sent (parts_of old) (parts_of (selected_paths top old)) old.selected_pair (Some top.number) o) (sym k.0) evaluates),
        )) where
          g : PairRecord → PairRecord
          g = nominated_by_self old.controlling old.lite

          has : Has old.pairs top
          has = (chosen-able old.controlling (followed old) (selection_of old) top chosen).0

          eligible : is_eligible old.controlling top ≡ true
          eligible = (chosen-able old.controlling (followed old) (selection_of old) top chosen).1

          facts : Kept_by_self top (nominated_by_self old.controlling old.lite top)
          facts = self_kept (not (is_nominated top) && (old.controlling || old.lite)) old.lite top

          asking : (c : Bool) → old.controlling ≡ c → is_eligible c top ≡ true → (path : Path) → path_of old top ≡ path → IsNominatedIn (parts_of old) path ⊎ asks path 0
          asking true role able path is = inr (free (ap (λ b. b || old.lite) role) path 0)
          asking false role able path is = inl (top, has, right (is_valid top) (is_nominated top) able, is)

          is_top : (p : PairRecord) → Has (change_pair top.number (nominated_by_self old.controlling old.lite) old.pairs) p → Some top.number ≡ Some p.number
              → nominated_by_self old.controlling old.lite top ≡ p
          is_top p there is =
              let o = Has-map (change_at top.number (nominated_by_self old.controlling old.lite)) old.pairs p there in
              let own : o.0.number ≡ top.number = sym (number_kept (is_numbered top.number o.0) old.controlling old.lite o.0) ∙ ap (λ (x : PairRecord). x.number) o.2 ∙ sym (some_is top.number p.number is) in
              let same : o.0 ≡ top = one_pair old.pairs o.0 top fit.rising o.1 has own in
              sym (ap (λ b. if b then nominated_by_self old.controlling old.lite top else top) (eq-eqb top.number top.number refl))
              ∙ ap (change_at top.number (nominated_by_self old.controlling old.lite)) (sym same) ∙ o.2

          own_path : path_of old (nominated_by_self old.controlling old.lite top) ≡ path_of old top
          own_path = ap (λ l. path_of old (record (nominated_by_self old.controlling old.lite top) { local = l })) facts.local
              ∙ ap (λ r. path_of old (record (nominated_by_self old.controlling old.lite top) { local = top.local; remote = r })) facts.remote

          evaluates : Evaluates asks met sent (parts_of old) (parts_of (selected_paths top old)) old.selected_pair (Some top.number) (Some (path_of old top))
          evaluates = record {
            valid = λ p is. (top, has, eligible_valid old.controlling top eligible, some_is (path_of old top) p is);
            asked = λ p is. asking old.controlling refl eligible p (some_is (path_of old top) p is);
            stays = λ none. none_is (path_of old top) (sym none);
            names = λ path is. record {
              below = λ n is_n. subst (λ k. k < old.next_number) (some_is top.number n is_n) (fit.below top has);
              is = λ p there is_p. subst (λ (x : PairRecord). (path_of old x ≡ path) × (is_valid x ≡ true) × (is_nominated x ≡ true)) (is_top p there is_p) (
                own_path ∙ some_is (path_of old top) path is,
                facts.valid ∙ eligible_valid old.controlling top eligible,
                self_nominated (is_nominated top) old.controlling old.lite top refl (right (is_valid top) (old.controlling || is_nominated top) eligible),
              );
            };
          }

    pub nominates : (old new : AgentRecord H P) (path : Option Path) → ((old.controlling || old.lite) ≡ true → (p : Path) (m : ℕ) → asks p m) → Fit (parts_of old) → Nominates old path new
        → Onward asks met sent (parts_of old) (parts_of new) × Evaluates asks met sent (parts_of old) (parts_of new) old.selected_pair new.selected_pair path
    nominates old new path free fit h = selects_one old new path free fit (selects_path old new path h)

    -- the selected pair may have given way, and others may be hastened
    pub left_moves : (now : ℕ) (old : AgentRecord H P) → Fit (parts_of old) → Onward asks met sent (parts_of old) (parts_of (path_left now old))
    left_moves now old fit =
        let gone = thinned asks met sent (parts_of old) (λ p. not (gives_way now old p)) fit in
        onward asks met sent (parts_of old) (parts_of (silent_gone now old)) (parts_of (path_left now old)) gone
        (mapped (parts_of (silent_gone now old)) (hastened (Hastens now old) now) gone.fit
        (λ p has. by-hastened (λ q. Changed (path_of old p) p q) (Hastens now old) now p (λ at. sooner (path_of old p) at p) (unchanged (path_of old p) p)))

    -- nomination after that
    pub names_moves : (now : ℕ) (old new : AgentRecord H P) (path : Option Path) → ((old.controlling || old.lite) ≡ true → (p : Path) (m : ℕ) → asks p m) → Fit (parts_of old) → Nominates (path_left now old) path new
        → Onward asks met sent (parts_of old) (parts_of new) × Evaluates asks met sent (parts_of old) (parts_of new) old.selected_pair new.selected_pair path
    names_moves now old new path free fit h =
        let first = left_moves now old fit in
        let second = nominates (path_left now old) new path free first.fit h in (
          onward asks met sent (parts_of old) (parts_of (path_left now old)) (parts_of new) first second.0,
          record {
            valid = λ p is.
                let v = second.1.valid p is in
                let o = left-held now old (λ q. (is_valid q ≡ true) × (path_of old q ≡ p)) (λ at q held. held) (v.0, v.1, (v.2, v.3)) in
                (o.0, o.1, o.2.0, o.2.1);
            asked = λ p is. elim (second.1.asked p is) [
              | inl v ↦
                  let o = left-held now old (λ q. (is_nominated q ≡ true) × (path_of old q ≡ p)) (λ at q held. held) (v.0, v.1, (v.2, v.3)) in
                  inl (o.0, o.1, o.2.0, o.2.1)
              | inr m ↦ inr m
            ];
            stays = second.1.stays;
            names = second.1.names;
          },
        )

    -- pairs that are removed after timeout
    pub removes_expired_moves : (now : ℕ) (old new : AgentRecord H P) (path : Option Path) → ((old.controlling || old.lite) ≡ true → (p : Path) (m : ℕ) → asks p m) → Fit (parts_of old) → RemovesExpired now old path new
        → Onward asks met sent (parts_of old) (parts_of new) × Evaluates asks met sent (parts_of old) (parts_of new) old.selected_pair new.selected_pair path
    removes_expired_moves now old new path free fit h = either (list_any (is_expired now old) old.pairs) h
        (λ _ k. (
        let first = thinned asks met sent (parts_of old) (λ p. not (is_expired now old p)) fit in
        let second = nominates (expired_gone now old) k.0 path free first.fit k.1 in (
          subst (λ (a : AgentRecord H P). Onward asks met sent (parts_of old) (parts_of a)) (sym k.2)
              (onward asks met sent (parts_of old) (parts_of (expired_gone now old)) (parts_of k.0) first second.0),
          subst (λ (a : AgentRecord H P). Evaluates asks met sent (parts_of old) (parts_of a) old.selected_pair a.selected_pair path) (sym k.2) (record {
            valid = λ p is. (let v = second.1.valid p is in (v.0, Has-filter (λ q. not (is_expired now old q)) old.pairs v.0 v.1, v.2, v.3));
            asked = λ p is. elim (second.1.asked p is) [ inl v ↦ inl (v.0, Has-filter (λ q. not (is_expired now old q)) old.pairs v.0 v.1, v.2, v.3) | inr m ↦ inr m ];
            stays = second.1.stays;
            names = second.1.names;
          }),
        )))
        (λ _ k. (
          subst (λ (a : AgentRecord H P). Onward asks met sent (parts_of old) (parts_of a)) (sym k.1) (here asks met sent (parts_of old) fit),
          evaluates_none asks met sent (parts_of old) (parts_of new) old.selected_pair new.selected_pair path k.0 (ap (λ (a : AgentRecord H P). a.selected_pair) k.1),
        ))
