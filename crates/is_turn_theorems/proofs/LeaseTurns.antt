-- The turn of a request for a lease: of the requests that are due before it each is sent once.
use Rattle.std.proofs.Common.{◌≡◌, ◌⊎◌, inl, inr, ℕ, ◌+◌, ◌*◌, ◌≤◌, ◌<◌, nat_le, Bool, true, false, cond, max, map, set, length, List, [], ◌∷◌, Option, Some, None, arith, refl, sym, ap, subst, ◌∙◌}
use Rattle.is_turn_theorems.proofs.Common.{at_place, cases_lt, due_of, due_or_never, get_or_past, is_due_by, is_due_in, is_given, is_in_line, Lease, Limits, nat_tests, Operation, PACE, set_past}
use Rattle.is_turn_theorems.proofs.Common.{unused}
use Rattle.std.proofs.lemmas.List.Sums.{sum_by-cons, sum_by-set, get_or-le-sum_by, count_by-le-length}
use Rattle.std.specs.List.{count_by}
use Rattle.is_turn_theorems.proofs.Standing.{times_more, times_le}
use Rattle.is_turn_theorems.proofs.LeaseLists.{AtSet, at_set}
use Rattle.is_turn_theorems.proofs.LeaseStanding.{IsInTurn}

-- ---- how many requests are due by a time

abbrev pub one_if : Bool → ℕ
one_if b = cond b 1 0

abbrev pub weight : ℕ → Lease → ℕ
weight d g = one_if (is_due_by d g)

abbrev pub due_count : ℕ → List Lease → ℕ
due_count d l = count_by (is_due_by d) l

set_in : (d : ℕ) (l : List Lease) (q : ℕ) (x : Lease) → q < length l → due_count d (set l q x) + weight d (at_place q l) ≡ due_count d l + weight d x
set_in d l q x lt = sum_by-set (weight d) l q x unused lt

-- a lease that is put counts no more than the one before
pub set_lighter : (d : ℕ) (l : List Lease) (q : ℕ) (x : Lease) → weight d x ≤ weight d (at_place q l) → due_count d (set l q x) ≤ due_count d l
set_lighter d l q x le = by_place (cases_lt q (length l))
  where
    by_place : (q < length l) ⊎ (length l ≤ q) → due_count d (set l q x) ≤ due_count d l
    by_place (inl lt) = let e = set_in d l q x lt in omega (arith, e, le)
    by_place (inr past) = subst (λ (y : List Lease). due_count d y ≤ due_count d l) (sym (set_past l q x past)) (omega arith)

pub set_sent : (d : ℕ) (l : List Lease) (q : ℕ) (x : Lease) → q < length l → weight d (at_place q l) ≡ 1 → weight d x ≡ 0
    → due_count d (set l q x) + 1 ≤ due_count d l
set_sent d l q x lt one none = let e = set_in d l q x lt in omega (arith, e, one, none)

pub map_lighter : (d : ℕ) (f : Lease → Lease) (l : List Lease) → ((g : Lease) → weight d (f g) ≤ weight d g) → due_count d (map f l) ≤ due_count d l
map_lighter d f [] h = omega arith
map_lighter d f (x ∷ l) h =
    let a = sum_by-cons (weight d) (f x) (map f l) in
    let b = sum_by-cons (weight d) x l in
    let c = map_lighter d f l h in
    let e = h x in
    omega (arith, a, b, c, e)

weight_of : (b : Bool) → b ≡ true → one_if b ≡ 1
weight_of true e = refl
weight_of false e = absurd (cc e)

pub due_weight : (d : ℕ) (g : Lease) (o : Operation) → g.operation ≡ Some o → o.due.0 ≤ d → weight d g ≡ 1
due_weight d g o e le =
    let test : nat_le o.due.0 d ≡ true = grind (arith, nat_tests) in
    weight_of (is_due_in d g.operation) (subst (λ (x : Option Operation). is_due_in d x ≡ true) (sym e) test)

-- ---- what waits for its turn

abbrev pub turn_time : Limits → ℕ
turn_time k = PACE + k.late

-- The request was due at this time; given how often the allocation went first, since when `handle_timeout` is due, and the pace
pub record Queued (k : Limits) (taken d p due : ℕ) (l : List Lease) : Type 0 where
  pub turns : ℕ
  pub left : turns + due_count due l ≤ k.places + taken
  pub soon : d ≤ due + PACE + turns * turn_time k
  pub paced : p ≤ due + PACE + turns * turn_time k

-- between two calls
abbrev pub LinedIn : Limits → ℕ → ℕ → ℕ → ℕ → List Lease → Bool → Option Operation → Type 0
LinedIn k taken d p now l b None = Unit {0}
LinedIn k taken d p now l b (Some o) = b ≡ true → o.is_fresh ≡ true → (o.due.0 ≤ now) × Queued k taken d p o.due.0 l

abbrev pub Lined : Limits → ℕ → ℕ → ℕ → ℕ → ℕ → List Lease → Type 0
Lined k taken d p now place l = LinedIn k taken d p now l (is_given (at_place place l)) (at_place place l).operation

-- in a call: it is due since now, or since before
abbrev pub WaitsIn : Limits → ℕ → ℕ → ℕ → ℕ → Bool → List Lease → Bool → Option Operation → Type 0
WaitsIn k taken d p now was l b None = Unit {0}
WaitsIn k taken d p now was l b (Some o) =
    b ≡ true → o.is_fresh ≡ true → (o.due.0 ≡ now) ⊎ ((was ≡ true) × (o.due.0 ≤ now) × Queued k taken d p o.due.0 l)

abbrev pub Waits : Limits → ℕ → ℕ → ℕ → ℕ → Bool → ℕ → List Lease → Type 0
Waits k taken d p now was place l = WaitsIn k taken d p now was l (is_given (at_place place l)) (at_place place l).operation

queued_sooner : (k : Limits) (taken d e p due : ℕ) (l : List Lease) → e ≤ d → Queued k taken d p due l → Queued k taken e p due l
queued_sooner k taken d e p due l le h =
    record { turns = h.turns; left = h.left; soon = let a = h.soon in omega (arith, a, le); paced = h.paced }

lined_waits_in : (k : Limits) (taken d e p clock now : ℕ) (l : List Lease) (b : Bool) (o : Option Operation) → clock ≤ now → e ≤ d
    → LinedIn k taken d p clock l b o → WaitsIn k taken e p now (is_in_line o) l b o
lined_waits_in k taken d e p clock now l b None past sooner h = tt
lined_waits_in k taken d e p clock now l b (Some o) past sooner h = λ s f.
    let x = h s f in
    let begun : o.due.0 ≤ clock = x.0 in
    inr (f, omega (arith, begun, past), queued_sooner k taken d e p o.due.0 l sooner x.1)

pub lined_waits : (k : Limits) (taken d e p clock now place : ℕ) (l : List Lease) → clock ≤ now → e ≤ d → Lined k taken d p clock place l
    → Waits k taken e p now (is_in_line (at_place place l).operation) place l
lined_waits k taken d e p clock now place l past sooner h =
    lined_waits_in k taken d e p clock now l (is_given (at_place place l)) (at_place place l).operation past sooner h

-- ---- its turn comes

turn_comes : (now due pace late turns counted places taken others d : ℕ) → now ≤ d + late → d ≤ due + pace + turns * (pace + late)
    → turns + counted ≤ places + taken → 1 ≤ counted → taken ≤ others → now ≤ due + (places + others) * (pace + late)
turn_comes now due pace late turns counted places taken others d a b c e f =
    let more : (turns + 1) * (pace + late) ≡ turns * (pace + late) + (pace + late) = times_more turns (pace + late) in
    let le : (turns + 1) * (pace + late) ≤ (places + others) * (pace + late) = times_le (turns + 1) (places + others) (pace + late) (omega (arith, c, e, f)) in
    omega (arith, a, b, more, le)

counts_itself : (l : List Lease) (p : ℕ) (o : Operation) → (p < length l) ⊎ (length l ≤ p) → (at_place p l).operation ≡ Some o → 1 ≤ due_count o.due.0 l
counts_itself l p o (inl lt) e =
    let a : weight o.due.0 (at_place p l) ≤ due_count o.due.0 l = get_or-le-sum_by (weight o.due.0) l p unused lt in
    let b : weight o.due.0 (at_place p l) ≡ 1 = due_weight o.due.0 (at_place p l) o e (omega arith) in
    omega (arith, a, b)
counts_itself l p o (inr past) e =
    let none : (at_place p l).operation ≡ None = ap (λ (g : Lease). g.operation) (get_or_past l p unused past) in
    absurd (cc (e, none))

in_turn_by : (k : Limits) (taken d p clock now place : ℕ) (l : List Lease) (o : Option Operation) → (at_place place l).operation ≡ o
    → now ≤ d + k.late → taken ≤ k.others → LinedIn k taken d p clock l (is_given (at_place place l)) o → is_given (at_place place l) ≡ true → IsInTurn k now o
in_turn_by k taken d p clock now place l None e le few h s = tt
in_turn_by k taken d p clock now place l (Some o) e le few h s = λ f.
    let x = (h s f).1 in
    let comes = turn_comes now o.due.0 PACE k.late x.turns (due_count o.due.0 l) k.places taken k.others d le x.soon x.left
    (counts_itself l place o (cases_lt place (length l)) e) few in
    omega (arith, comes)

pub in_turn : (k : Limits) (taken d p clock now place : ℕ) (l : List Lease) → now ≤ d + k.late → taken ≤ k.others → Lined k taken d p clock place l
    → is_given (at_place place l) ≡ true → IsInTurn k now (at_place place l).operation
in_turn k taken d p clock now place l le few h s = in_turn_by k taken d p clock now place l (at_place place l).operation refl le few h s

-- ---- changes of a lease

-- what may become of a request in this place: it ends, stays as it is, or is due since now
abbrev pub Keeps : ℕ → Bool → Option Operation → Bool → Option Operation → Type 0
Keeps now b o c None = Unit {0}
Keeps now b None c (Some x) = c ≡ true → x.is_fresh ≡ true → x.due.0 ≡ now
Keeps now b (Some o) c (Some x) = c ≡ true → x.is_fresh ≡ true → (x.due.0 ≡ now) ⊎ ((b ≡ true) × (o.is_fresh ≡ true) × (o.due.0 ≡ x.due.0))

pub keeps_self : (now : ℕ) (b : Bool) (o : Option Operation) → Keeps now b o b o
keeps_self now b None = tt
keeps_self now b (Some o) = λ s f. inr (s, f, refl)

queued_lighter : (k : Limits) (taken d p due : ℕ) (l m : List Lease) → due_count due m ≤ due_count due l → Queued k taken d p due l → Queued k taken d p due m
queued_lighter k taken d p due l m le h =
    record { turns = h.turns; left = let a = h.left in omega (arith, a, le); soon = h.soon; paced = h.paced }

-- those due before now are no more than before
abbrev pub Lighter : ℕ → List Lease → List Lease → Type 0
Lighter now l m = (d : ℕ) → d < now → due_count d m ≤ due_count d l

still_waits : (k : Limits) (taken d p now : ℕ) (was : Bool) (l m : List Lease) (x : Operation) (due : ℕ) → due ≡ x.due.0 → Lighter now l m
    → (due < now) ⊎ (now ≤ due) → (due ≡ now) ⊎ ((was ≡ true) × (due ≤ now) × Queued k taken d p due l)
    → (x.due.0 ≡ now) ⊎ ((was ≡ true) × (x.due.0 ≤ now) × Queued k taken d p x.due.0 m)
still_waits k taken d p now was l m x due e lighter at (inl h) = inl (sym e ∙ h)
still_waits k taken d p now was l m x due e lighter (inl lt) (inr h) =
    inr (h.0, subst (λ (n : ℕ). n ≤ now) e h.1, subst (λ (n : ℕ). Queued k taken d p n m) e (queued_lighter k taken d p due l m (lighter due lt) h.2))
still_waits k taken d p now was l m x due e lighter (inr ge) (inr h) =
    let le : due ≤ now = h.1 in
    let same : due ≡ now = omega (arith, le, ge) in
    inl (sym e ∙ same)

waits_keeps : (k : Limits) (taken d p now : ℕ) (was : Bool) (l m : List Lease) (b c : Bool) (o x : Option Operation) → Lighter now l m
    → Keeps now b o c x → WaitsIn k taken d p now was l b o → WaitsIn k taken d p now was m c x
waits_keeps k taken d p now was l m b c o None lighter keeps h = tt
waits_keeps k taken d p now was l m b c None (Some x) lighter keeps h = λ s f. inl (keeps s f)
waits_keeps k taken d p now was l m b c (Some o) (Some x) lighter keeps h = λ s f. by_case (keeps s f)
  where
    by_case : (x.due.0 ≡ now) ⊎ ((b ≡ true) × (o.is_fresh ≡ true) × (o.due.0 ≡ x.due.0))
        → (x.due.0 ≡ now) ⊎ ((was ≡ true) × (x.due.0 ≤ now) × Queued k taken d p x.due.0 m)
    by_case (inl e) = inl e
    by_case (inr y) = still_waits k taken d p now was l m x o.due.0 y.2 lighter (cases_lt o.due.0 now) (h y.0 y.1)

-- the lease in this place waits for its turn, by what becomes of it and of the others
pub waits_become : (k : Limits) (taken d p now : ℕ) (was : Bool) (l m : List Lease) (g x : Lease) → Lighter now l m
    → Keeps now (is_given g) g.operation (is_given x) x.operation → WaitsIn k taken d p now was l (is_given g) g.operation
    → WaitsIn k taken d p now was m (is_given x) x.operation
waits_become k taken d p now was l m g x lighter keeps h =
    waits_keeps k taken d p now was l m (is_given g) (is_given x) g.operation x.operation lighter keeps h

pub waits_set : (k : Limits) (taken d p now : ℕ) (was : Bool) (place q : ℕ) (l : List Lease) (x : Lease)
    → ((n : ℕ) → n < now → weight n x ≤ weight n (at_place q l))
    → (place ≡ q → Keeps now (is_given (at_place q l)) (at_place q l).operation (is_given x) x.operation)
    → Waits k taken d p now was place l → Waits k taken d p now was place (set l q x)
waits_set k taken d p now was place q l x weighs keeps h = by_place (at_set l q place x)
  where
    lighter : Lighter now l (set l q x)
    lighter n lt = set_lighter n l q x (weighs n lt)

    by_place : AtSet l q x place → Waits k taken d p now was place (set l q x)
    by_place (inl (e, put)) =
        subst (λ (y : Lease). WaitsIn k taken d p now was (set l q x) (is_given y) y.operation) (sym put)
        (waits_become k taken d p now was l (set l q x) (at_place q l) x lighter (keeps e)
        (subst (λ (j : ℕ). WaitsIn k taken d p now was l (is_given (at_place j l)) (at_place j l).operation) e h))
    by_place (inr kept) =
        subst (λ (y : Lease). WaitsIn k taken d p now was (set l q x) (is_given y) y.operation) (sym kept)
        (waits_become k taken d p now was l (set l q x) (at_place place l) (at_place place l) lighter
        (keeps_self now (is_given (at_place place l)) (at_place place l).operation) h)

-- ---- after a call

-- it is due since this call
pub queued_now : (k : Limits) (taken d p now due : ℕ) (l : List Lease) → due ≡ now → d ≤ now + PACE → p ≤ now + PACE → length l ≤ k.places
    → Queued k taken d p due l
queued_now k taken d p now due l e soon paced few =
    let all : due_count due l ≤ length l = count_by-le-length (is_due_by due) l in
    record { turns = 0; left = omega (arith, all, few); soon = omega (arith, e, soon); paced = omega (arith, e, paced) }

-- no packet left, and the pace is the same or sooner
pub queued_same : (k : Limits) (taken more d e p next due : ℕ) (l : List Lease) → taken ≤ more → e ≤ d → next ≤ p → Queued k taken d p due l
    → Queued k more e next due l
queued_same k taken more d e p next due l a b c h = record {
  turns = h.turns;
  left = let x = h.left in omega (arith, x, a);
  soon = at_most e d (due + PACE + h.turns * turn_time k) b h.soon;
  paced = at_most next p (due + PACE + h.turns * turn_time k) c h.paced;
}
  where
    at_most : (a b c : ℕ) → a ≤ b → b ≤ c → a ≤ c
    at_most a b c x y = omega (arith, x, y)

-- no packet left, since the pace allows none
pub queued_paced : (k : Limits) (taken more d now p next due : ℕ) (l : List Lease) → taken ≤ more → now < p → next ≤ p → Queued k taken d p due l
    → Queued k more now next due l
queued_paced k taken more d now p next due l a b c h = record {
  turns = h.turns;
  left = let x = h.left in omega (arith, x, a);
  soon = before now p (due + PACE + h.turns * turn_time k) b h.paced;
  paced = at_most next p (due + PACE + h.turns * turn_time k) c h.paced;
}
  where
    at_most : (a b c : ℕ) → a ≤ b → b ≤ c → a ≤ c
    at_most a b c x y = omega (arith, x, y)

    before : (a b c : ℕ) → a < b → b ≤ c → a ≤ c
    before a b c x y = omega (arith, x, y)

-- another one had its turn
pub queued_next : (k : Limits) (taken more d e now p next due : ℕ) (l m : List Lease) → due_count due m + taken + 1 ≤ due_count due l + more
    → now ≤ d + k.late → e ≤ now → next ≤ now + PACE → Queued k taken d p due l → Queued k more e next due m
queued_next k taken more d e now p next due l m count le past pace h =
    let step : (h.turns + 1) * turn_time k ≡ h.turns * turn_time k + turn_time k = times_more h.turns (turn_time k) in
    record {
      turns = h.turns + 1;
      left = let x = h.left in omega (arith, x, count);
      soon = next_soon due PACE k.late (h.turns * turn_time k) ((h.turns + 1) * turn_time k) d e now step le past h.soon;
      paced = next_paced due PACE k.late (h.turns * turn_time k) ((h.turns + 1) * turn_time k) d now next step le pace h.soon;
    }
  where
    next_soon : (due pace late used more d e now : ℕ) → more ≡ used + (pace + late) → now ≤ d + late → e ≤ now → d ≤ due + pace + used
        → e ≤ due + pace + more
    next_soon due pace late used more d e now s a b x = omega (arith, s, a, b, x)

    next_paced : (due pace late used more d now next : ℕ) → more ≡ used + (pace + late) → now ≤ d + late → next ≤ now + pace → d ≤ due + pace + used
        → next ≤ due + pace + more
    next_paced due pace late used more d now next s a c x = omega (arith, s, a, c, x)

-- `handle_timeout` is due once the pace allows it
queued_ring : (k : Limits) (taken e ring p due : ℕ) (l : List Lease) → ring ≤ max due p → Queued k taken e p due l → Queued k taken (max ring e) p due l
queued_ring k taken e ring p due l r h = record {
  turns = h.turns;
  left = h.left;
  soon = ring_soon due PACE (h.turns * turn_time k) e ring p r h.soon h.paced;
  paced = h.paced;
}
  where
    ring_soon : (due pace used e ring p : ℕ) → ring ≤ max due p → e ≤ due + pace + used → p ≤ due + pace + used → max ring e ≤ due + pace + used
    ring_soon due pace used e ring p r x y = omega (arith, r, x, y)

-- what a call makes of what was due before it
waits_pass_in : (k : Limits) (taken more d e p next now : ℕ) (was : Bool) (l m : List Lease) (b : Bool) (o : Option Operation)
    → ((x : Operation) → o ≡ Some x → x.due.0 < now → was ≡ true → Queued k taken d p x.due.0 l → Queued k more e next x.due.0 m)
    → WaitsIn k taken d p now was l b o → WaitsIn k more e next now was m b o
waits_pass_in k taken more d e p next now was l m b None f h = tt
waits_pass_in k taken more d e p next now was l m b (Some x) f h = λ s fresh. by_case (cases_lt x.due.0 now) (h s fresh)
  where
    by_case : (x.due.0 < now) ⊎ (now ≤ x.due.0) → (x.due.0 ≡ now) ⊎ ((was ≡ true) × (x.due.0 ≤ now) × Queued k taken d p x.due.0 l)
        → (x.due.0 ≡ now) ⊎ ((was ≡ true) × (x.due.0 ≤ now) × Queued k more e next x.due.0 m)
    by_case at (inl same) = inl same
    by_case (inl lt) (inr y) = inr (y.0, y.1, f x refl lt y.0 y.2)
    by_case (inr ge) (inr y) = let le : x.due.0 ≤ now = y.1 in inl (omega (arith, le, ge))

pub waits_pass : (k : Limits) (taken more d e p next now : ℕ) (was : Bool) (place : ℕ) (l m : List Lease) → at_place place m ≡ at_place place l
    → ((x : Operation) → (at_place place l).operation ≡ Some x → x.due.0 < now → was ≡ true → Queued k taken d p x.due.0 l → Queued k more e next x.due.0 m)
    → Waits k taken d p now was place l → Waits k more e next now was place m
waits_pass k taken more d e p next now was place l m same f h =
    subst (λ (g : Lease). WaitsIn k more e next now was m (is_given g) g.operation) (sym same)
    (waits_pass_in k taken more d e p next now was l m (is_given (at_place place l)) (at_place place l).operation f h)

-- after it
waits_lined_in : (k : Limits) (taken e ring p now : ℕ) (was : Bool) (l : List Lease) (b : Bool) (o : Option Operation) → e ≤ now → p ≤ now + PACE
    → length l ≤ k.places → ((x : Operation) → o ≡ Some x → ring ≤ max x.due.0 p) → WaitsIn k taken e p now was l b o
    → LinedIn k taken (max ring e) p now l b o
waits_lined_in k taken e ring p now was l b None past pace few r h = tt
waits_lined_in k taken e ring p now was l b (Some x) past pace few r h = λ s f. by_case (h s f)
  where
    by_case : (x.due.0 ≡ now) ⊎ ((was ≡ true) × (x.due.0 ≤ now) × Queued k taken e p x.due.0 l)
        → (x.due.0 ≤ now) × Queued k taken (max ring e) p x.due.0 l
    by_case (inl same) =
        (omega (arith, same), queued_ring k taken e ring p x.due.0 l (r x refl) (queued_now k taken e p now x.due.0 l same (omega (arith, past)) pace few))
    by_case (inr y) = (y.1, queued_ring k taken e ring p x.due.0 l (r x refl) y.2)

pub waits_lined : (k : Limits) (taken e ring p now : ℕ) (was : Bool) (place : ℕ) (l : List Lease) → e ≤ now → p ≤ now + PACE → length l ≤ k.places
    → ring ≤ max (due_of (at_place place l)) p → Waits k taken e p now was place l → Lined k taken (max ring e) p now place l
waits_lined k taken e ring p now was place l past pace few r h =
    waits_lined_in k taken e ring p now was l (is_given (at_place place l)) (at_place place l).operation past pace few
    (λ x same. due_ring (at_place place l) x same r) h
  where
    due_ring : (g : Lease) (x : Operation) → g.operation ≡ Some x → ring ≤ max (due_of g) p → ring ≤ max x.due.0 p
    due_ring g x same le = let e : due_of g ≡ x.due.0 = ap (λ (o : Option Operation). due_or_never o) same in omega (arith, e, le)
