-- What an agent does with a response is its rule, from what the pair of its transaction stores.
use Rattle.std.proofs.Common.{◌≡◌, ℕ, ◌==◌, Bool, true, false, List, [], ◌∷◌, find, Option, Some, None, IfSome, unwrap_or, refl, sym, ap, subst, ◌∙◌, if◌then◌else◌}
use Rattle.std.specs.Prelude.{◌&&◌, not, slice_set, IsTrue, MatchBool, Result, Ok, Err}
use Rattle.std.specs.Option.{option_map_or}
use Rattle.std.proofs.lemmas.Bool.{eqb-true}
use Rattle.is_candidate.specs.Candidates.{CandidateRecord}
use Rattle.is_pair.specs.Checks.{Check, is_kept}
use Rattle.is_pair.specs.Multiset.{change_pair, is_numbered, keeps_check, pair_numbered, rises}
use Rattle.is_pair.specs.Pairs.{PairRecord, TakesAnswer, with_error}
use Rattle.is_proto.specs.Lists.{same, Has}
use Rattle.is_proto.specs.declared.error.IceError.{IceError}
use Rattle.is_stun.specs.declared.header.Class.{Class}
use Rattle.is_stun.specs.declared.header.Class.TheVariants.{Failure}
use Rattle.is_stun.specs.declared.header.Method.TheVariants.{Binding}
use Rattle.is_stun.specs.Message.{Message}
use Rattle.is_agent.proofs.AgentParts.PairsByNumber.{both, find-Some, put-place}
use Rattle.is_rules.specs.declared.emitted.Path.{Path}
use Rattle.is_rules.specs.declared.emitted.Emitted.{Emitted}
use Rattle.is_rules.specs.Again.{formed_again}
use Rattle.is_rules.specs.Agent.{AgentRecord}
use Rattle.is_rules.specs.Emitted.{nothing_emitted}
use Rattle.is_rules.specs.Due.{IsRecorded, IsSentUnder, KeepsCheckOn}
use Rattle.is_rules.specs.Roles.{keeps_role, switched}
use Rattle.is_rules.specs.Sending.{path_of}
use Rattle.is_rules.specs.Serving.{Drops}
use Rattle.is_rules.specs.Accepting.{IsAcceptedAs, IsAcceptedOn, Arrives}
use Rattle.is_rules.specs.Answers.{after_error, error_noted, is_reverse, is_role_conflict, keeps_check_on, local_with, success_counted}
use Rattle.is_rules.specs.Answers.{Concludes, LeavesRole, HandlesFailure, HandlesSuccess}

-- a 487 to a check that the pair stores switches the role or not
role-left : {H P : Type 0} (old new : AgentRecord H P) (m : Message) (p : PairRecord) (present keeps : Bool)
    → IsSentUnder p m.id old.controlling present → keeps ≡ keeps_role old → MatchBool (present && not keeps) (new ≡ switched old) (new ≡ old)
    → LeavesRole p m old nothing_emitted new
role-left old new m p present keeps w is becomes =
    let drops : MatchBool (present && not keeps) (Drops (switched old) nothing_emitted new) (Drops old nothing_emitted new) = dropped (present && not keeps) becomes in
    let by_role = subst (λ b. MatchBool (b && not keeps) (Drops (switched old) nothing_emitted new) (Drops old nothing_emitted new)) w.3 drops in (
      w.0,
      w.1,
      w.2,
      subst (λ b. MatchBool (same w.0.controlling old.controlling && not b) (Drops (switched old) nothing_emitted new) (Drops old nothing_emitted new)) is by_role,
    ) where
      dropped : (b : Bool) → MatchBool b (new ≡ switched old) (new ≡ old) → MatchBool b (Drops (switched old) nothing_emitted new) (Drops old nothing_emitted new)
      dropped true h = (refl, h)
      dropped false h = (refl, h)

pub role-expired : {H P : Type 0} (old new : AgentRecord H P) (m : Message) (o : Option PairRecord) (present keeps : Bool)
    → IfSome o (λ (p : PairRecord). IsSentUnder p m.id old.controlling present) → keeps ≡ keeps_role old → MatchBool (present && not keeps) (new ≡ switched old) (new ≡ old)
    → IfSome o (λ (p : PairRecord). LeavesRole p m old nothing_emitted new)
role-expired old new m None present keeps w is becomes = w
role-expired old new m (Some p) present keeps w is becomes = role-left old new m p present keeps w is becomes

-- an error response without a code
pub no-code-kept : {H P : Type 0} (old : AgentRecord H P) (m : Message) (number : ℕ) → None ≡ m.attributes.error_code → old ≡ error_noted number m old
no-code-kept old m number is =
    ap (λ (ps : List PairRecord). record old { pairs = ps })
    (sym (rests old.pairs) ∙ ap (λ (o : Option (ℕ × List ℕ)). change_pair number (λ (p : PairRecord). option_map_or (λ (e : ℕ × List ℕ). with_error e.0 p) o p) old.pairs) is) where
      rests : (ps : List PairRecord) → change_pair number (λ (p : PairRecord). p) ps ≡ ps
      rests [] = refl
      rests (p ∷ ps) = ap (λ (x : PairRecord). x ∷ change_pair number (λ (p : PairRecord). p) ps) (by (is_numbered number p)) ∙ ap (λ (xs : List PairRecord). p ∷ xs) (rests ps) where
        by : (b : Bool) → (if b then p else p) ≡ p
        by true = refl
        by false = refl

-- that leaves the number and the checks of a pair
error-number : (m : Message) (p : PairRecord) → (after_error m p).number ≡ p.number
error-number m p = by m.attributes.error_code where
  by : (o : Option (ℕ × List ℕ)) → (option_map_or (λ (e : ℕ × List ℕ). with_error e.0 p) o p).number ≡ p.number
  by None = refl
  by (Some e) = refl

error-checks : (m : Message) (p : PairRecord) → (after_error m p).checks ≡ p.checks
error-checks m p = by m.attributes.error_code where
  by : (o : Option (ℕ × List ℕ)) → (option_map_or (λ (e : ℕ × List ℕ). with_error e.0 p) o p).checks ≡ p.checks
  by None = refl
  by (Some e) = refl

error-found : (number : ℕ) (m : Message) (ps : List PairRecord) (p : PairRecord) → pair_numbered number ps ≡ Some p
    → pair_numbered number (change_pair number (after_error m) ps) ≡ Some (after_error m p)
error-found number m [] p found = absurd (cc)
error-found number m (q ∷ qs) p found =
    elim (is_numbered number q) as (λ b. is_numbered number q ≡ b → (if b then Some q else find (is_numbered number) qs) ≡ Some p
    → (if is_numbered number (if b then after_error m q else q) then Some (if b then after_error m q else q) else find (is_numbered number) (change_pair number (after_error m) qs)) ≡ Some (after_error m p)) [
      | true ↦ λ is h.
          let same : q ≡ p = ap (λ o. unwrap_or o q) h in
          let still : is_numbered number (after_error m q) ≡ true = ap (λ n. n == number) (error-number m q) ∙ is in
          rw still (ap (λ (x : PairRecord). Some (after_error m x)) same)
      | false ↦ λ is h. rw is (error-found number m qs p h)
    ] refl found

-- the pair still has its pending transaction
pub error-awaited : {H P : Type 0} (old noted : AgentRecord H P) (via : Path) (m : Message) (number : ℕ) → KeepsCheckOn old via m.id number → noted ≡ error_noted number m old
    → IfSome (pair_numbered number noted.pairs) (λ (p : PairRecord). IsTrue (is_kept m.id p.checks))
error-awaited {H = H} {P = P} old noted via m number (p, found, on) is =
    let at : pair_numbered number noted.pairs ≡ Some (after_error m p) = ap (λ (a : AgentRecord H P). pair_numbered number a.pairs) is ∙ error-found number m old.pairs p found in
    let kept : is_kept m.id p.checks ≡ true = (both (keeps_check m.id p) (is_reverse via (path_of old p)) on).0 in
    subst (λ (o : Option PairRecord). IfSome o (λ (x : PairRecord). IsTrue (is_kept m.id x.checks))) (sym at)
    (subst (λ (cs : List Check). IsTrue (is_kept m.id cs)) (sym (error-checks m p)) kept)

-- it takes the error response
pub failure-taken : {H P : Type 0} (old noted new : AgentRecord H P) (via : Path) (m : Message) (number : ℕ) → KeepsCheckOn old via m.id number → noted ≡ error_noted number m old
    → MatchBool (is_role_conflict m) (IfSome (pair_numbered number noted.pairs) (λ (p : PairRecord). LeavesRole p m noted nothing_emitted new)) (new ≡ noted)
    → HandlesFailure old via m nothing_emitted new
failure-taken {H = H} {P = P} old noted new via m number (p, found, on) is h =
    let at : pair_numbered number noted.pairs ≡ Some (after_error m p) = ap (λ (a : AgentRecord H P). pair_numbered number a.pairs) is ∙ error-found number m old.pairs p found in
    let has = find-Some (is_numbered number) old.pairs p found in
    let made : noted ≡ error_noted p.number m old = subst (λ n. noted ≡ error_noted n m old) (sym (eqb-true p.number number has.1)) is in
    (p, has.0, on, subst (λ (s : AgentRecord H P). MatchBool (is_role_conflict m) (LeavesRole p m s nothing_emitted new) (Drops s nothing_emitted new)) made (by (is_role_conflict m) at h)) where
      by : (b : Bool) → pair_numbered number noted.pairs ≡ Some (after_error m p) → MatchBool b (IfSome (pair_numbered number noted.pairs) (λ (p : PairRecord). LeavesRole p m noted nothing_emitted new)) (new ≡ noted)
          → MatchBool b (LeavesRole p m noted nothing_emitted new) (Drops noted nothing_emitted new)
      by true at k =
          let left : LeavesRole (after_error m p) m noted nothing_emitted new =
          subst (λ (o : Option PairRecord). IfSome o (λ (x : PairRecord). LeavesRole x m noted nothing_emitted new)) at k in
          subst (λ (cs : List Check). (c : Check) × Has cs c × (c.id ≡ m.id) × MatchBool (same c.controlling noted.controlling && not (keeps_role noted)) (Drops (switched noted) nothing_emitted new) (Drops noted nothing_emitted new)) (error-checks m p) left
      by false at k = (refl, k)

-- whether the role is switched, by both conditions
pub role-switches : {A : Type 0} (old new next : A) (present keeps : Bool) → present ≡ true → keeps ≡ false → new ≡ next → MatchBool (present && not keeps) (new ≡ next) (new ≡ old)
role-switches old new next present keeps p k is = rw (p, k) is

pub role-kept : {A : Type 0} (old next : A) (present keeps : Bool) → keeps ≡ true → MatchBool (present && not keeps) (old ≡ next) (old ≡ old)
role-kept old next true keeps k = rw k refl
role-kept old next false keeps k = refl

pub role-stays : {A : Type 0} (old next : A) (present keeps : Bool) → present ≡ false → MatchBool (present && not keeps) (old ≡ next) (old ≡ old)
role-stays old next present keeps p = rw p refl

same-pair : (number : ℕ) (ps : List PairRecord) (p q : PairRecord) → pair_numbered number ps ≡ Some p → pair_numbered number ps ≡ Some q → q ≡ p
same-pair number ps p q one other = ap (λ o. unwrap_or o p) (sym other ∙ one)

pub success-taken : {H P : Type 0} (now : ℕ) (old recorded new : AgentRecord H P) (path : Path) (m : Message) (emitted : Emitted) (number : ℕ) (p : PairRecord) (local : List CandidateRecord)
    → rises old.pairs ≡ true → pair_numbered number old.pairs ≡ Some p → keeps_check_on old path m.id p ≡ true
    → local ≡ local_with p m.attributes.xor_mapped_address (success_counted old)
    → IsRecorded number now m.id local old recorded → Concludes now (formed_again recorded) emitted new → HandlesSuccess now old path m emitted new
success-taken now old recorded new path m emitted number p local rising found kept new_mapped_candidate (pairs, (q, after, there, takes, put), is) concludes =
    let same = same-pair number old.pairs p q found there in
    let taken = subst (λ (x : PairRecord). TakesAnswer x now m.id after) same takes in
    let its : after.number ≡ number = ap (λ (x : PairRecord). x.number) taken.3 ∙ eqb-true p.number number (find-Some (is_numbered number) old.pairs p found).1 in
    let at = put-place old.pairs number p after rising found its in
    let all : pairs ≡ slice_set old.pairs at.0 after = put ∙ at.2 in
    let made : recorded ≡ record (success_counted old) { local = local; pairs = slice_set old.pairs at.0 after } =
    subst (λ (ps : List PairRecord). recorded ≡ record (success_counted old) { local = local; pairs = ps }) all is in (
      recorded,
      (
        at.0,
        p,
        after,
        at.1,
        kept,
        taken,
        subst (λ (cs : List CandidateRecord). recorded ≡ record (success_counted old) { local = cs; pairs = slice_set old.pairs at.0 after }) new_mapped_candidate made,
      ),
      concludes,
    )

-- an error response that arrives, by its method and its class
pub failure-arrives : {H P : Type 0} (mac : H → List ℕ → List ℕ → List ℕ) (now : ℕ) (old new : AgentRecord H P) (path : Path) (m : Message) (result : Result (Option Emitted) IceError)
    → m.method ≡ Binding → m.class ≡ Failure
    → Arrives (IsAcceptedAs mac Failure (keeps_check_on old path m.id) old m) mac Failure now old path m result new
    → Arrives (IsAcceptedOn mac old path m) mac m.class now old path m result new
failure-arrives mac now old new path m result method class arrives =
    subst (λ (k : Class). Arrives ((m.method ≡ Binding) × IsAcceptedAs mac k (keeps_check_on old path m.id) old m) mac k now old path m result new) (sym class) (of_binding result arrives) where
      of_binding : (r : Result (Option Emitted) IceError) → Arrives (IsAcceptedAs mac Failure (keeps_check_on old path m.id) old m) mac Failure now old path m r new
          → Arrives ((m.method ≡ Binding) × IsAcceptedAs mac Failure (keeps_check_on old path m.id) old m) mac Failure now old path m r new
      of_binding (Ok None) (foreign, stays) = (λ accepted. foreign accepted.1, stays)
      of_binding (Ok (Some emitted)) (accepted, takes) = ((method, accepted), takes)
      of_binding (Err error) (accepted, may, stays) = ((method, accepted), may, stays)
