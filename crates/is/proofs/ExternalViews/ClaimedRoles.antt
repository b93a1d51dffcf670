-- The effect of a claimed role at its receiver.
use Rattle.std.proofs.lemmas.Bool.Decides.{nat_tests}
use Rattle.is.proofs.Common.{◌&&◌, ◌<◌, ◌||◌, ◌∙◌, ◌≡◌, ◌≤◌, ap, arith, Bool, Claims, false, if◌then◌else◌, nat_le, nat_lt, None, not}
use Rattle.is.proofs.Common.{Option, option_map_or, refl, RequestRecord, rival_in, RoleState, sends_487, Some, switches_role, sym, true, ℕ}

-- the rival's tie-breaker is the claimed one if the claimed role is the receiver's own role, and otherwise there is
-- none
abbrev Rivals : Bool → Bool → ℕ → Option ℕ → Type 0
Rivals true true tie r = r ≡ Some tie
Rivals false false tie r = r ≡ Some tie
Rivals true false tie r = r ≡ None
Rivals false true tie r = r ≡ None

rivals : (own role : Bool) (tie : ℕ) (q : RequestRecord) → Claims q.ice_controlling q.ice_controlled role tie → Rivals own role tie (rival_in own q)
rivals true true tie q c = c.0
rivals true false tie q c = c.0
rivals false true tie q c = c.1
rivals false false tie q c = c.1

-- for the receiver's own role
tested : (test : ℕ → Bool) (own role : Bool) (tie : ℕ) (r : Option ℕ) → Rivals own role tie r → option_map_or test r false ≡ true → (own ≡ role) × (test tie ≡ true)
tested test true true tie r is h = (refl, sym (ap (λ x. option_map_or test x false) is) ∙ h)
tested test false false tie r is h = (refl, sym (ap (λ x. option_map_or test x false) is) ∙ h)
tested test true false tie r is h = (let k = sym (ap (λ x. option_map_or test x false) is) ∙ h in cc)
tested test false true tie r is h = (let k = sym (ap (λ x. option_map_or test x false) is) ∙ h in cc)

-- a 487 goes to a claim of the receiver's own role without a greater tie-breaker
pub sends_487-claims : (s : RoleState) (q : RequestRecord) (role : Bool) (tie : ℕ) → s.keeps ≡ false → Claims q.ice_controlling q.ice_controlled role tie → sends_487 s q ≡ true
    → (s.controlling ≡ role) × (tie ≤ s.tie_breaker)
sends_487-claims s q role tie compares c h =
    let k = tested (λ t. nat_le t s.tie_breaker) s.controlling role tie (rival_in s.controlling q) (rivals s.controlling role tie q c)
    (sym (ap (λ b. option_map_or (λ t. b || nat_le t s.tie_breaker) (rival_in s.controlling q) false) compares) ∙ h) in
    let le : nat_le tie s.tie_breaker ≡ true = k.1 in
    (k.0, grind (arith, nat_tests))

-- the receiver switches its role at a claim of it with a greater one
pub switches_role-claims : (s : RoleState) (q : RequestRecord) (role : Bool) (tie : ℕ) → s.keeps ≡ false → Claims q.ice_controlling q.ice_controlled role tie → switches_role s q ≡ true
    → (s.controlling ≡ role) × (s.tie_breaker < tie)
switches_role-claims s q role tie compares c h =
    let k = tested (λ t. nat_lt s.tie_breaker t) s.controlling role tie (rival_in s.controlling q) (rivals s.controlling role tie q c)
    (sym (ap (λ b. option_map_or (λ t. not b && nat_lt s.tie_breaker t) (rival_in s.controlling q) false) compares) ∙ h) in
    let lt : nat_lt s.tie_breaker tie ≡ true = k.1 in
    (k.0, grind (arith, nat_tests))

switched : (test : ℕ → Bool) (own role : Bool) (tie : ℕ) (r : Option ℕ) → Rivals own role tie r → test tie ≡ true
    → (if option_map_or test r false then not own else own) ≡ not role
switched test true true tie r is h = ap (λ x. if option_map_or test x false then false else true) is ∙ ap (λ b. if b then false else true) h
switched test false false tie r is h = ap (λ x. if option_map_or test x false then true else false) is ∙ ap (λ b. if b then true else false) h
switched test true false tie r is h = ap (λ x. if option_map_or test x false then false else true) is
switched test false true tie r is h = ap (λ x. if option_map_or test x false then true else false) is

-- once such a conflict was resolved the roles differ
pub settled-claims : (s : RoleState) (q : RequestRecord) (role : Bool) (tie : ℕ) → s.keeps ≡ false → Claims q.ice_controlling q.ice_controlled role tie → s.tie_breaker < tie
    → (if switches_role s q then not s.controlling else s.controlling) ≡ not role
settled-claims s q role tie compares c less =
    let lt : nat_lt s.tie_breaker tie ≡ true = grind (arith, nat_tests) in
    ap (λ b. if option_map_or (λ t. not b && nat_lt s.tie_breaker t) (rival_in s.controlling q) false then not s.controlling else s.controlling) compares
    ∙ switched (λ t. nat_lt s.tie_breaker t) s.controlling role tie (rival_in s.controlling q) (rivals s.controlling role tie q c) lt
