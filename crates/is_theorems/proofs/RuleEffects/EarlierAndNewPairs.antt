-- The effect of each change on pairs: a pair existed before, or is added.
use Rattle.is_pair.specs.Pairs.{last_of}
use Rattle.is_pair.specs.declared.pair.states.NominationState.TheVariants.{None as Unnominated}
use Rattle.is_theorems.proofs.Common.{[], ◌++◌, ◌+◌, ◌<◌, ◌∙◌, ◌∷◌, ◌≡◌, ◌≤◌, ◌⊎◌, AllBelow, ap, ArePlaced, AreRising, arith, Attempt}
use Rattle.is_theorems.proofs.Common.{base_of, Bool, candidate_at, CandidateRecord, Check, CheckState, Combination, combined_priority, Each}
use Rattle.is_theorems.proofs.Common.{false, filter, Formed, FormsEach, Has, if◌then◌else◌, inl, InProgress, inr, is_nominated}
use Rattle.is_theorems.proofs.Common.{is_nominated_state, is_numbered, is_redundant, is_some, is_started_state, is_valid, is_valid_state}
use Rattle.is_theorems.proofs.Common.{IsPlaced, length, less-or, List, max, nat_lt, Nominated, nomination_from, NominationState, None, not}
use Rattle.is_theorems.proofs.Common.{Option, pair_of, PairRecord, Path, refl, removes, RemovesInTurn, SidesRecord, Some, state_from, subst}
use Rattle.is_theorems.proofs.Common.{Succeeded, Success, sym, taking_over, Tries, true, Waiting, without, ℕ}
use Rattle.is_rules.specs.Sending.{path_at}
use Rattle.is_theorems.proofs.BasicLemmas.EqualAddresses.{both, same_address-sound, same_protocol-sound}

-- ---- lists

pub Has-push : {X : Type 0} (xs : List X) (y x : X) → Has (xs ++ y ∷ []) x → Has xs x ⊎ (y ≡ x)
Has-push [] y x (inl e) = inr e
Has-push [] y x (inr h) = absurd h
Has-push (z ∷ zs) y x (inl e) = inl (inl e)
Has-push (z ∷ zs) y x (inr h) = elim (Has-push zs y x h) [ inl k ↦ inl (inr k) | inr e ↦ inr e ]

filtered : {X : Type 0} (b : Bool) (y x : X) (ys zs : List X) → (Has zs x → Has ys x) → Has (if b then y ∷ zs else zs) x → Has (y ∷ ys) x
filtered true y x ys zs f (inl e) = inl e
filtered true y x ys zs f (inr k) = inr (f k)
filtered false y x ys zs f k = inr (f k)

pub Has-filter : {X : Type 0} (keep : X → Bool) (xs : List X) (x : X) → Has (filter keep xs) x → Has xs x
Has-filter keep [] x h = absurd h
Has-filter keep (y ∷ ys) x h = filtered (keep y) y x ys (filter keep ys) (λ k. Has-filter keep ys x k) h

rising-if : (b : Bool) (p : PairRecord) (ps qs : List PairRecord) → ((q : PairRecord) → Has qs q → Has ps q) → ((q : PairRecord) → Has ps q → p.number < q.number)
    → AreRising qs → AreRising (if b then p ∷ qs else qs)
rising-if true p ps qs among least rising = ((λ q has. least q (among q has)), rising)
rising-if false p ps qs among least rising = rising

pub rising-filter : (keep : PairRecord → Bool) (ps : List PairRecord) → AreRising ps → AreRising (filter keep ps)
rising-filter keep [] rising = tt
rising-filter keep (p ∷ ps) rising = rising-if (keep p) p ps (filter keep ps) (λ q has. Has-filter keep ps q has) rising.0 (rising-filter keep ps rising.1)

pub choose : (b : Bool) {X R : Type 0} (P : X → Type 0) (x y : X) → P (if b then x else y) → (P x → R) → (P y → R) → R
choose true P x y h f g = f h
choose false P x y h f g = g h

pub rising-push : (ps : List PairRecord) (x : PairRecord) → AreRising ps → ((p : PairRecord) → Has ps p → p.number < x.number) → AreRising (ps ++ x ∷ [])
rising-push [] x rising below = ((λ q none. absurd none), tt)
rising-push (p ∷ ps) x rising below = (
  (λ q has. elim (Has-push ps x q has) [
    | inl was ↦ rising.0 q was
    | inr now ↦ subst (λ (y : PairRecord). p.number < y.number) now (below p (inl refl))
  ]),
  rising-push ps x rising.1 (λ q has. below q (inr has)),
)

-- ---- parts of an agent

-- the paths of pairs, and the pairs
pub record Parts : Type 0 where
  pub local : List CandidateRecord
  pub remote : List CandidateRecord
  pub pairs : List PairRecord
  pub next_number : ℕ

abbrev pub path_in : Parts → PairRecord → Path
path_in x p = path_at x.local x.remote p.local p.remote

abbrev pub IsStarted : PairRecord → Type 0
IsStarted p = (c : Check) → Has p.checks c → is_started_state p.state ≡ true

abbrev pub IsConsented : PairRecord → Type 0
IsConsented p = is_some p.consented ≡ true → is_valid p ≡ true

pub record Fit (x : Parts) : Type 0 where
  pub placed : ArePlaced x.local x.remote x.pairs
  pub rising : AreRising x.pairs
  pub below : AllBelow x.next_number x.pairs
  pub started : (p : PairRecord) → Has x.pairs p → IsStarted p
  pub consented : (p : PairRecord) → Has x.pairs p → IsConsented p

abbrev pub IsValidIn : Parts → Path → Type 0
IsValidIn x path = (p : PairRecord) × Has x.pairs p × (is_valid p ≡ true) × (path_in x p ≡ path)

abbrev pub IsNominatedIn : Parts → Path → Type 0
IsNominatedIn x path = (p : PairRecord) × Has x.pairs p × (is_nominated p ≡ true) × (path_in x p ≡ path)

-- a pair on the path was nominated by m at least
abbrev pub IsNumberedIn : Parts → Path → ℕ → Type 0
IsNumberedIn x path m = (p : PairRecord) × Has x.pairs p × (m ≤ p.greatest_number) × (path_in x p ≡ path)

pub below_max : (m a b : ℕ) → m ≤ max a b → (m ≤ a) ⊎ (m ≤ b)
below_max m a b le = elim (less-or a m) [ inl lt ↦ inr (omega (arith, le, lt)) | inr ge ↦ inl ge ]

pub not_below : {R : Type 0} (m : ℕ) → 0 < m → m ≤ 0 → R
not_below m pos le = absurd (let none : ⊥ = omega (arith, pos, le) in none)

-- `asks`: the peer nominates a path, by this number at least; `met`: a path is answered; `sent`: a check is sent on a path
module _ (asks : Path → ℕ → Type 0) (met : Path → Type 0) (sent : Path → List ℕ → Bool → Type 0) where
  abbrev pub WasKept : PairRecord → Path → Check → Type 0
  WasKept was path c = ((d : Check) × Has was.checks d × (d.id ≡ c.id) × (d.controlling ≡ c.controlling)) ⊎ sent path c.id c.controlling

  pub record Persisted (x y : Parts) (p : PairRecord) : Type 0 where
    pub was : PairRecord
    pub there : Has x.pairs was
    pub number : was.number ≡ p.number
    pub path : path_in x was ≡ path_in y p
    pub checks : (c : Check) → Has p.checks c → WasKept was (path_in y p) c
    pub valid : is_valid p ≡ true → (is_valid was ≡ true) ⊎ met (path_in y p)
    pub asked : is_nominated p ≡ true → (is_nominated was ≡ true) ⊎ asks (path_in y p) 0
    pub numbered : (m : ℕ) → m ≤ p.greatest_number → (m ≤ was.greatest_number) ⊎ asks (path_in y p) m
    pub still_valid : is_valid was ≡ true → is_valid p ≡ true
    pub still_nominated : is_nominated was ≡ true → is_nominated p ≡ true

  pub record Joined (x y : Parts) (p : PairRecord) : Type 0 where
    pub above : x.next_number ≤ p.number
    pub below : p.number < y.next_number
    pub checks : (c : Check) → Has p.checks c → sent (path_in y p) c.id c.controlling
    pub valid : is_valid p ≡ true → IsValidIn x (path_in y p) ⊎ met (path_in y p)
    pub asked : is_nominated p ≡ true → IsNominatedIn x (path_in y p) ⊎ asks (path_in y p) 0
    pub numbered : (m : ℕ) → 0 < m → m ≤ p.greatest_number → IsNumberedIn x (path_in y p) m ⊎ asks (path_in y p) m

  pub record Onward (x y : Parts) : Type 0 where
    pub counter : x.next_number ≤ y.next_number
    pub pairs : (p : PairRecord) → Has y.pairs p → Persisted x y p ⊎ Joined x y p
    pub fit : Fit y

  -- ---- one change after another

  pub valid_before : (x y : Parts) → Onward x y → (path : Path) → IsValidIn y path → IsValidIn x path ⊎ met path
  valid_before x y o path (p, has, is, same) = elim (o.pairs p has) [
    | inl s ↦ elim (s.valid is) [ inl v ↦ inl (s.was, s.there, v, s.path ∙ same) | inr m ↦ inr (subst met same m) ]
    | inr j ↦ elim (j.valid is) [ inl v ↦ inl (subst (λ z. IsValidIn x z) same v) | inr m ↦ inr (subst met same m) ]
  ]

  pub nominated_before : (x y : Parts) → Onward x y → (path : Path) → IsNominatedIn y path → IsNominatedIn x path ⊎ asks path 0
  nominated_before x y o path (p, has, is, same) = elim (o.pairs p has) [
    | inl s ↦ elim (s.asked is) [ inl v ↦ inl (s.was, s.there, v, s.path ∙ same) | inr m ↦ inr (subst (λ z. asks z 0) same m) ]
    | inr j ↦ elim (j.asked is) [ inl v ↦ inl (subst (λ z. IsNominatedIn x z) same v) | inr m ↦ inr (subst (λ z. asks z 0) same m) ]
  ]

  pub numbered_before : (x y : Parts) → Onward x y → (path : Path) (m : ℕ) → 0 < m → IsNumberedIn y path m → IsNumberedIn x path m ⊎ asks path m
  numbered_before x y o path m pos (p, has, le, same) = elim (o.pairs p has) [
    | inl s ↦ elim (s.numbered m le) [ inl v ↦ inl (s.was, s.there, v, s.path ∙ same) | inr a ↦ inr (subst (λ z. asks z m) same a) ]
    | inr j ↦ elim (j.numbered m pos le) [ inl v ↦ inl (subst (λ z. IsNumberedIn x z m) same v) | inr a ↦ inr (subst (λ z. asks z m) same a) ]
  ]

  persisted : (x y z : Parts) (p : PairRecord) (k : Persisted y z p) → Persisted x y k.was → Persisted x z p
  persisted x y z p k h = record {
    was = h.was;
    there = h.there;
    number = h.number ∙ k.number;
    path = h.path ∙ k.path;
    checks = λ c has. elim (k.checks c has) [
      | inl (d, keeps, id, role) ↦ elim (h.checks d keeps) [
        | inl (b, kept, id_was, role_was) ↦ inl (b, kept, id_was ∙ id, role_was ∙ role)
        | inr out ↦ inr (subst (λ r. sent (path_in z p) c.id r) role (subst (λ i. sent (path_in z p) i d.controlling) id (subst (λ w. sent w d.id d.controlling) k.path out)))
      ]
      | inr out ↦ inr out
    ];
    valid = λ is. elim (k.valid is) [ inl v ↦ elim (h.valid v) [ inl w ↦ inl w | inr m ↦ inr (subst met k.path m) ] | inr m ↦ inr m ];
    asked = λ is. elim (k.asked is) [ inl v ↦ elim (h.asked v) [ inl w ↦ inl w | inr m ↦ inr (subst (λ z. asks z 0) k.path m) ] | inr m ↦ inr m ];
    numbered = λ m le. elim (k.numbered m le) [ inl v ↦ elim (h.numbered m v) [ inl w ↦ inl w | inr a ↦ inr (subst (λ z. asks z m) k.path a) ] | inr a ↦ inr a ];
    still_valid = λ v. k.still_valid (h.still_valid v);
    still_nominated = λ v. k.still_nominated (h.still_nominated v);
  }

  joined : (x y z : Parts) (p : PairRecord) (k : Persisted y z p) → y.next_number ≤ z.next_number → Joined x y k.was → Joined x z p
  joined x y z p k le h = record {
    above = subst (λ n. x.next_number ≤ n) k.number h.above;
    below = subst (λ n. n < z.next_number) k.number (let lt = h.below in omega (arith, lt, le));
    checks = λ c has. elim (k.checks c has) [
      | inl (d, keeps, id, role) ↦ subst (λ r. sent (path_in z p) c.id r) role (subst (λ i. sent (path_in z p) i d.controlling) id (subst (λ w. sent w d.id d.controlling) k.path (h.checks d keeps)))
      | inr out ↦ out
    ];
    valid = λ is. elim (k.valid is) [
      | inl v ↦ elim (h.valid v) [ inl w ↦ inl (subst (λ z. IsValidIn x z) k.path w) | inr m ↦ inr (subst met k.path m) ]
      | inr m ↦ inr m
    ];
    asked = λ is. elim (k.asked is) [
      | inl v ↦ elim (h.asked v) [ inl w ↦ inl (subst (λ z. IsNominatedIn x z) k.path w) | inr m ↦ inr (subst (λ z. asks z 0) k.path m) ]
      | inr m ↦ inr m
    ];
    numbered = λ m pos le. elim (k.numbered m le) [
      | inl v ↦ elim (h.numbered m pos v) [ inl w ↦ inl (subst (λ z. IsNumberedIn x z m) k.path w) | inr a ↦ inr (subst (λ z. asks z m) k.path a) ]
      | inr a ↦ inr a
    ];
  }

  joined_later : (x y z : Parts) (p : PairRecord) → Onward x y → Joined y z p → Joined x z p
  joined_later x y z p o j = record {
    above = (let one = o.counter in let two = j.above in omega (arith, one, two));
    below = j.below;
    checks = j.checks;
    valid = λ is. elim (j.valid is) [ inl v ↦ valid_before x y o (path_in z p) v | inr m ↦ inr m ];
    asked = λ is. elim (j.asked is) [ inl v ↦ nominated_before x y o (path_in z p) v | inr m ↦ inr m ];
    numbered = λ m pos le. elim (j.numbered m pos le) [ inl v ↦ numbered_before x y o (path_in z p) m pos v | inr a ↦ inr a ];
  }

  pub onward : (x y z : Parts) → Onward x y → Onward y z → Onward x z
  onward x y z h k = record {
    counter = (let one = h.counter in let two = k.counter in omega (arith, one, two));
    pairs = λ p has. elim (k.pairs p has) [
      | inl s ↦ elim (h.pairs s.was s.there) [ inl t ↦ inl (persisted x y z p s t) | inr j ↦ inr (joined x y z p s k.counter j) ]
      | inr j ↦ inr (joined_later x y z p h j)
    ];
    fit = k.fit;
  }

  -- ---- single changes

  pub stays : (x y : Parts) (p : PairRecord) → Has x.pairs p → path_in x p ≡ path_in y p → Persisted x y p
  stays x y p has same = record {
    was = p;
    there = has;
    number = refl;
    path = same;
    checks = λ c keeps. inl (c, keeps, refl, refl);
    valid = λ is. inl is;
    asked = λ is. inl is;
    numbered = λ m le. inl le;
    still_valid = λ is. is;
    still_nominated = λ is. is;
  }

  pub here : (x : Parts) → Fit x → Onward x x
  here x fit = record { counter = omega arith; pairs = λ p has. inl (stays x x p has refl); fit = fit }

  -- some pairs are removed
  pub thinned : (x : Parts) (keep : PairRecord → Bool) → Fit x → Onward x (record x { pairs = filter keep x.pairs })
  thinned x keep fit = record {
    counter = omega arith;
    pairs = λ p has. inl (stays x _ p (Has-filter keep x.pairs p has) refl);
    fit = record {
      placed = λ p has. fit.placed p (Has-filter keep x.pairs p has);
      rising = rising-filter keep x.pairs fit.rising;
      below = λ p has. fit.below p (Has-filter keep x.pairs p has);
      started = λ p has. fit.started p (Has-filter keep x.pairs p has);
      consented = λ p has. fit.consented p (Has-filter keep x.pairs p has);
    };
  }

  -- a pair is added after some of the pairs, without checks
  pub pushed : (x : Parts) (ps : List PairRecord) (p : PairRecord) → Fit x → ((q : PairRecord) → Has ps q → Has x.pairs q) → AreRising ps
      → p.number ≡ x.next_number → IsPlaced x.local x.remote p → p.checks ≡ [] → IsConsented p
      → (is_valid p ≡ true → IsValidIn x (path_in x p) ⊎ met (path_in x p))
      → (is_nominated p ≡ true → IsNominatedIn x (path_in x p) ⊎ asks (path_in x p) 0)
      → ((m : ℕ) → 0 < m → m ≤ p.greatest_number → IsNumberedIn x (path_in x p) m ⊎ asks (path_in x p) m)
      → Onward x (record x { pairs = ps ++ p ∷ []; next_number = x.next_number + 1 })
  pushed x ps p fit among rising number placed unchecked consented valid asked with_numbers = record {
    counter = omega arith;
    pairs = λ q has. elim (Has-push ps p q has) [
      | inl was ↦ inl (stays x _ q (among q was) refl)
      | inr now ↦ inr (subst (λ (r : PairRecord). Joined x (record x { pairs = ps ++ p ∷ []; next_number = x.next_number + 1 }) r) now (record {
        above = subst (λ n. x.next_number ≤ n) (sym number) (omega arith);
        below = subst (λ n. n < x.next_number + 1) (sym number) (omega arith);
        checks = λ c keeps. absurd (subst (λ cs. Has cs c) unchecked keeps);
        valid = valid;
        asked = asked;
        numbered = with_numbers;
      }))
    ];
    fit = record {
      placed = λ q has. elim (Has-push ps p q has) [ inl was ↦ fit.placed q (among q was) | inr now ↦ subst (λ (r : PairRecord). IsPlaced x.local x.remote r) now placed ];
      rising = rising-push ps p rising (λ q was. subst (λ n. q.number < n) (sym number) (fit.below q (among q was)));
      below = λ q has. elim (Has-push ps p q has) [
        | inl was ↦ (let lt = fit.below q (among q was) in omega (arith, lt))
        | inr now ↦ subst (λ (r : PairRecord). r.number < x.next_number + 1) now (subst (λ n. n < x.next_number + 1) (sym number) (omega arith))
      ];
      started = λ q has. elim (Has-push ps p q has) [
        | inl was ↦ fit.started q (among q was)
        | inr now ↦ subst (λ (r : PairRecord). IsStarted r) now (λ c keeps. absurd (subst (λ cs. Has cs c) unchecked keeps))
      ];
      consented = λ q has. elim (Has-push ps p q has) [
        | inl was ↦ fit.consented q (among q was)
        | inr now ↦ subst (λ (r : PairRecord). IsConsented r) now consented
      ];
    };
  }

  -- ---- forming

  abbrev pub parts_with : SidesRecord → Formed → Parts
  parts_with s f = record { local = s.local; remote = s.remote; pairs = f.pairs; next_number = f.next_number }

  -- redundant pairs have one path
  pub redundant_path : (s : SidesRecord) (at : Combination) (f : Formed) (p q : PairRecord) → is_redundant s at p ≡ true → q.local ≡ at.0 → q.remote ≡ at.1
      → path_in (parts_with s f) p ≡ path_in (parts_with s f) q
  redundant_path s at f p q h l r =
      let d = both _ _ h in let c = both _ _ d.0 in let b = both _ _ c.0 in
      let base : base_of (candidate_at s.local p.local) ≡ base_of (candidate_at s.local q.local) =
      same_address-sound _ _ b.0 ∙ ap (λ k. base_of (candidate_at s.local k)) (sym l) in
      let proto : (candidate_at s.local p.local).proto ≡ (candidate_at s.local q.local).proto =
      same_protocol-sound _ _ b.1 ∙ ap (λ k. (candidate_at s.local k).proto) (sym l) in
      let addr : (candidate_at s.remote p.remote).addr ≡ (candidate_at s.remote q.remote).addr =
      same_address-sound _ _ c.1 ∙ ap (λ k. (candidate_at s.remote k).addr) (sym r) in
      ap (λ x. let path : Path = record { proto = x; source = base_of (candidate_at s.local p.local); destination = (candidate_at s.remote p.remote).addr } in path) proto
      ∙ (ap (λ x. let path : Path = record { proto = (candidate_at s.local q.local).proto; source = x; destination = (candidate_at s.remote p.remote).addr } in path) base
      ∙ ap (λ x. let path : Path = record { proto = (candidate_at s.local q.local).proto; source = base_of (candidate_at s.local q.local); destination = x } in path) addr)

  valid-from : (other : CheckState) → is_valid_state (state_from other Waiting) ≡ true → is_valid_state other ≡ true
  valid-from Waiting h = h
  valid-from InProgress h = h
  valid-from Succeeded h = refl

  nominated-from : (other : NominationState) → is_nominated_state (nomination_from other Unnominated) ≡ true → is_nominated_state other ≡ true
  nominated-from Unnominated h = h
  nominated-from Nominated h = refl
  nominated-from Attempt h = refl
  nominated-from Success h = refl

  -- what the pair that replaces another has
  taken_state : (lite : Bool) (other p : PairRecord) → (taking_over lite other p).state ≡ state_from other.state p.state
  taken_state true other p = refl
  taken_state false other p = refl

  pub taken_consent : (lite : Bool) (other p : PairRecord) → (taking_over lite other p).consented ≡ last_of other.consented p.consented
  taken_consent true other p = refl
  taken_consent false other p = refl

  taken_nomination : (lite : Bool) (other p : PairRecord) → (taking_over lite other p).nomination ≡ nomination_from other.nomination p.nomination
  taken_nomination true other p = refl
  taken_nomination false other p = refl

  taken_number : (lite : Bool) (other p : PairRecord) → (taking_over lite other p).greatest_number ≡ max other.greatest_number p.greatest_number
  taken_number true other p = refl
  taken_number false other p = refl

  pub taken_rest : (lite : Bool) (other p : PairRecord) → ((taking_over lite other p).checks ≡ p.checks) × ((taking_over lite other p).number ≡ p.number)
      × ((taking_over lite other p).local ≡ p.local) × ((taking_over lite other p).remote ≡ p.remote)
  taken_rest true other p = (refl, refl, refl, refl)
  taken_rest false other p = (refl, refl, refl, refl)

  consented_from : (had : Option ℕ) (state : CheckState) → (is_some had ≡ true → is_valid_state state ≡ true) → is_some (last_of had None) ≡ true
      → is_valid_state (state_from state Waiting) ≡ true
  consented_from None state valid is = let no : false ≡ true = is in absurd (cc)
  consented_from (Some at) state valid is = by state (valid refl) where
    by : (s : CheckState) → is_valid_state s ≡ true → is_valid_state (state_from s Waiting) ≡ true
    by Waiting same = same
    by InProgress same = same
    by Succeeded same = refl

  taken_consented : (lite : Bool) (other p : PairRecord) → (p.state ≡ Waiting) × (p.consented ≡ None) → IsConsented other → IsConsented (taking_over lite other p)
  taken_consented lite other p blank had is = ap (λ k. is_valid_state k) (taken_state lite other p)
      ∙ (ap (λ k. is_valid_state (state_from other.state k)) blank.0
      ∙ consented_from other.consented other.state had (ap (λ k. is_some (last_of other.consented k)) (sym blank.1) ∙ ap (λ k. is_some k) (sym (taken_consent lite other p)) ∙ is))

  abbrev IsIn : SidesRecord → Combination → Type 0
  IsIn s at = (at.0 < length s.local) × (at.1 < length s.remote)

  tries_one : (s : SidesRecord) (at : Combination) (old new : Formed) → IsIn s at → Fit (parts_with s old) → Tries s at old new → Onward (parts_with s old) (parts_with s new)
  tries_one s at old new placed fit (None, none, made) =
      let p : PairRecord = pair_of s at old.next_number in
      subst (λ (f : Formed). Onward (parts_with s old) (parts_with s f)) (sym made)
      (pushed (parts_with s old) old.pairs p fit (λ q has. has) fit.rising refl placed refl (λ (is : false ≡ true). cc)
      (λ (is : false ≡ true). cc) (λ (is : false ≡ true). cc) (λ m pos le. not_below m pos le))
  tries_one s at old new placed fit (Some found, (has, redundant, greatest), made) =
      choose (nat_lt found.priority (combined_priority s at)) (λ f. new ≡ f) _ old made
      (λ replaced. (
      let x : Parts = parts_with s old in
      let own : PairRecord = pair_of s at old.next_number in
      let p : PairRecord = taking_over s.lite found own in
      let rest = taken_rest s.lite found own in
      let same_path : path_in x found ≡ path_in x p = redundant_path s at old found p redundant rest.2 rest.3 in
      subst (λ (f : Formed). Onward x (parts_with s f)) (sym replaced)
      (pushed x (without (is_numbered found.number) old.pairs) p fit (λ q in_rest. Has-filter _ old.pairs q in_rest) (rising-filter _ old.pairs fit.rising)
      rest.1
      (subst (λ l. l < length s.local) (sym rest.2) placed.0, subst (λ r. r < length s.remote) (sym rest.3) placed.1)
      rest.0
      (taken_consented s.lite found own (refl, refl) (fit.consented found has))
      (λ is. inl (found, has, valid-from found.state (ap is_valid_state (sym (taken_state s.lite found own)) ∙ is), same_path))
      (λ is. inl (found, has, nominated-from found.nomination (ap is_nominated_state (sym (taken_nomination s.lite found own)) ∙ is), same_path))
      (λ m pos le. elim (below_max m found.greatest_number 0 (subst (λ k. m ≤ k) (taken_number s.lite found own) le)) [
        | inl few ↦ inl (found, has, few, same_path)
        | inr none ↦ not_below m pos none
      ]))))
      (λ dropped. subst (λ (f : Formed). Onward (parts_with s old) (parts_with s f)) (sym dropped) (here (parts_with s old) fit))

  tries_each : (s : SidesRecord) (all : List Combination) (old new : Formed) → ((at : Combination) → Has all at → IsIn s at) → Fit (parts_with s old) → Each (Tries s) all old new
      → Onward (parts_with s old) (parts_with s new)
  tries_each s [] old new placed fit same = subst (λ (f : Formed). Onward (parts_with s old) (parts_with s f)) (sym same) (here (parts_with s old) fit)
  tries_each s (at ∷ all) old new placed fit (mid, one, others) =
      let first = tries_one s at old mid (placed at (inl refl)) fit one in
      onward (parts_with s old) (parts_with s mid) (parts_with s new) first
      (tries_each s all mid new (λ x has. placed x (inr has)) first.fit others)

  drops_each : (limit : ℕ) (gone : List PairRecord) (x : Parts) (new : List PairRecord) → Fit x → RemovesInTurn limit gone x.pairs new → Onward x (record x { pairs = new })
  drops_each limit [] x new fit (within, same) = subst (λ ps. Onward x (record x { pairs = ps })) (sym same) (here x fit)
  drops_each limit (p ∷ gone) x new fit (over, has, others) =
      let first = thinned x (λ q. not (is_numbered p.number q)) fit in
      onward x _ _ first (drops_each limit gone (record x { pairs = without (is_numbered p.number) x.pairs }) new first.fit others)

  pub forms : (s : SidesRecord) (limit : ℕ) (all : List Combination) (old new : Formed) → ((at : Combination) → Has all at → IsIn s at) → Fit (parts_with s old)
      → FormsEach s limit all old new → Onward (parts_with s old) (parts_with s new)
  forms s limit all old new placed fit (mid, each, evicts, counter) =
      let first = tries_each s all old mid placed fit each in
      let all_gone = removes s limit mid.pairs new.pairs evicts in
      let second = drops_each limit all_gone.0 (parts_with s mid) new.pairs first.fit all_gone.1 in
      subst (λ n. Onward (parts_with s old) (record (parts_with s new) { next_number = n })) (sym counter)
      (onward (parts_with s old) (parts_with s mid) (record (parts_with s mid) { pairs = new.pairs }) first second)
