-- The effects of checks and responses on pairs, and the effects of `handle_timeout` calls and success responses.
use Rattle.is_pair.specs.declared.pair.states.NominationState.TheVariants.{None as Unnominated}
use Rattle.is_stun.specs.declared.header.Class.TheVariants as class
use Rattle.is_theorems.proofs.Common.{[], ◌++◌, ◌+◌, ◌<◌, ◌||◌, ◌∙◌, ◌∷◌, ◌≡◌, ◌⊎◌, AgentRecord, all_scheduled, answered, answered_at, ap}
use Rattle.is_theorems.proofs.Common.{AreRising, arith, scheduled, Attempt, base_of, Bool, candidate_at, CandidateRecord, change_pair, Check}
use Rattle.is_theorems.proofs.Common.{check_of, checked, CheckState, ChecksTop, drop, eq-eqb, eqb-true, false, Has, heard, heard_at}
use Rattle.is_theorems.proofs.Common.{IceCreds, if◌then◌else◌, inl, InProgress, inr, is_left_out, is_nominated_state, is_numbered}
use Rattle.is_theorems.proofs.Common.{is_started_state, is_valid_state, IsCheckAt, IsNextToCheck, Issued, issued_as, keeps_check_on, length}
use Rattle.is_theorems.proofs.Common.{length-append, List, mapped_added, mapped_candidate, MayCheck, Message, Nominated, nominates_at_once}
use Rattle.is_theorems.proofs.Common.{nomination_again, nomination_once_answered, nomination_once_sent, NominationState, None, Option}
use Rattle.is_theorems.proofs.Common.{PairRecord, Path, path_of, Records, refl, renominated, slice_get, slice_set, SocketAddr, Some}
use Rattle.is_theorems.proofs.Common.{state_once_answered, state_once_sent, Stream, StunTiming, subst, suc, Succeeded, Success}
use Rattle.is_theorems.proofs.Common.{success_counted, sym, true, Waiting, zero, ℕ}
use Rattle.is_theorems.proofs.RuleEffects.UnchangedSettings.{either}
use Rattle.is_theorems.proofs.RuleEffects.SelectedPaths.{one_pair, some_is}
use Rattle.is_theorems.proofs.RuleEffects.EarlierAndNewPairs.{Parts, path_in, Fit, Onward, here, onward, Has-push}
use Rattle.is_theorems.proofs.RuleEffects.ChangedPairs.{Changed, unchanged, mapped, one_changed, parts_of}
use Rattle.is_theorems.proofs.BasicLemmas.CandidatesByIndex.{at-append}
use Rattle.is_theorems.proofs.BasicLemmas.PairsInTurn.{at-once-controls, next-has, sent_at, sent-pairs}

pub Has-drop : {X : Type 0} (n : ℕ) (xs : List X) (x : X) → Has (drop n xs) x → Has xs x
Has-drop zero xs x h = h
Has-drop (suc n) [] x h = absurd h
Has-drop (suc n) (y ∷ ys) x h = inr (Has-drop n ys x h)

-- the number is the pair's
pub numbered : (n : ℕ) (p : PairRecord) → is_numbered n p ≡ true → p.number ≡ n
numbered n p is = eqb-true p.number n is

sent_valid : (s : CheckState) → is_valid_state (state_once_sent s) ≡ true → is_valid_state s ≡ true
sent_valid Waiting h = h
sent_valid InProgress h = h
sent_valid Succeeded h = refl

sent_still : (s : CheckState) → is_valid_state s ≡ true → is_valid_state (state_once_sent s) ≡ true
sent_still Waiting h = h
sent_still InProgress h = h
sent_still Succeeded h = refl

sent_started : (s : CheckState) → is_started_state (state_once_sent s) ≡ true
sent_started Waiting = refl
sent_started InProgress = refl
sent_started Succeeded = refl

pub sent_nominated : (n : NominationState) → is_nominated_state (nomination_once_sent n) ≡ is_nominated_state n
sent_nominated Unnominated = refl
sent_nominated Nominated = refl
sent_nominated Attempt = refl
sent_nominated Success = refl

-- also if its nomination begins again
pub again_nominated : (n : NominationState) → is_nominated_state (nomination_again n) ≡ is_nominated_state n
again_nominated Unnominated = refl
again_nominated Nominated = refl
again_nominated Attempt = refl
again_nominated Success = refl

answered_still : (s : CheckState) → is_valid_state s ≡ true → is_valid_state (state_once_answered s) ≡ true
answered_still Waiting h = h
answered_still InProgress h = refl
answered_still Succeeded h = refl

answered_started : (s : CheckState) → is_started_state s ≡ true → is_started_state (state_once_answered s) ≡ true
answered_started Waiting h = h
answered_started InProgress h = refl
answered_started Succeeded h = refl

answered_valid : (s : CheckState) → is_started_state s ≡ true → is_valid_state (state_once_answered s) ≡ true
answered_valid Waiting h = h
answered_valid InProgress h = refl
answered_valid Succeeded h = refl

answered_nominated : (b : Bool) (n : NominationState) → is_nominated_state (nomination_once_answered b n) ≡ is_nominated_state n
answered_nominated true Unnominated = refl
answered_nominated true Nominated = refl
answered_nominated true Attempt = refl
answered_nominated true Success = refl
answered_nominated false n = refl

pub Has-set : {X : Type 0} (xs : List X) (i : ℕ) (y x : X) → Has (slice_set xs i y) x → Has xs x ⊎ (y ≡ x)
Has-set [] i y x h = absurd h
Has-set (z ∷ zs) zero y x (inl e) = inr e
Has-set (z ∷ zs) zero y x (inr h) = inl (inr h)
Has-set (z ∷ zs) (suc i) y x (inl e) = inl (inl e)
Has-set (z ∷ zs) (suc i) y x (inr h) = elim (Has-set zs i y x h) [ inl k ↦ inl (inr k) | inr e ↦ inr e ]

pub Has-get : {X : Type 0} (xs : List X) (i : ℕ) (x : X) → slice_get xs i ≡ Some x → Has xs x
Has-get [] i x h = cc
Has-get (y ∷ ys) zero x h = inl (let same : Some y ≡ Some x = h in cc)
Has-get (y ∷ ys) (suc i) x h = inr (Has-get ys i x h)

-- numbers rise, so the pair at an index is the one with its number
is_no : (b : Bool) → (b ≡ true → ⊥) → b ≡ false
is_no true f = absurd (f refl)
is_no false f = refl

not_numbered : (n : ℕ) (q : PairRecord) → (q.number ≡ n → ⊥) → is_numbered n q ≡ false
not_numbered n q other = is_no (is_numbered n q) (λ is. other (eqb-true q.number n is))

all_stay : (n : ℕ) (after : PairRecord) (ps : List PairRecord) → ((q : PairRecord) → Has ps q → n < q.number) → change_pair n (λ _. after) ps ≡ ps
all_stay n after [] above = refl
all_stay n after (q ∷ qs) above =
    ap (λ b. (if b then after else q) ∷ change_pair n (λ _. after) qs) (not_numbered n q (λ same. let lt = above q (inl refl) in (let none : ⊥ = omega (arith, lt, same) in none)))
    ∙ ap (λ rest. q ∷ rest) (all_stay n after qs (λ r has. above r (inr has)))

pub put_at : (ps : List PairRecord) (i : ℕ) (p after : PairRecord) → AreRising ps → slice_get ps i ≡ Some p → after.number ≡ p.number
    → slice_set ps i after ≡ change_pair after.number (λ _. after) ps
put_at [] i p after rising at same = let no : None ≡ Some p = at in absurd (cc)
put_at (q ∷ qs) zero p after rising at same =
    let is : Some q ≡ Some p = at in
    let own : q.number ≡ after.number = ap (λ (x : PairRecord). x.number) (some_is q p is) ∙ sym same in
    sym (ap (λ b. (if b then after else q) ∷ change_pair after.number (λ _. after) qs) (eq-eqb q.number after.number own)
    ∙ ap (λ rest. after ∷ rest) (all_stay after.number after qs (λ r has. subst (λ n. n < r.number) own (rising.0 r has))))
put_at (q ∷ qs) (suc i) p after rising at same =
    let lt : q.number < p.number = rising.0 p (Has-get qs i p at) in
    ap (λ rest. q ∷ rest) (put_at qs i p after rising.1 at same)
    ∙ sym (ap (λ b. (if b then after else q) ∷ change_pair after.number (λ _. after) qs)
    (not_numbered after.number q (λ is. (let none : ⊥ = omega (arith, lt, is, same) in none))))

module _ (asks : Path → ℕ → Type 0) (met : Path → Type 0) (sent : Path → List ℕ → Bool → Type 0) where
  -- a check is sent
  pub check_changes : (path : Path) (now : ℕ) (t : StunTiming) (controlling : Bool) (id : List ℕ) (p : PairRecord) → sent path id controlling
      → Changed asks met sent path p (checked now t controlling id p)
  check_changes path now t controlling id p out = record {
    number = refl;
    local = refl;
    remote = refl;
    checks = λ c keeps. elim (Has-push p.checks (check_of now controlling id p) c (Has-drop _ (p.checks ++ check_of now controlling id p ∷ []) c keeps)) [
      | inl was ↦ inl (c, was, refl, refl)
      | inr same ↦ inr (subst (λ (k : Check). sent path k.id k.controlling) same out)
    ];
    valid = λ is. inl (sent_valid p.state is);
    asked = λ is. inl (sym (sent_nominated p.nomination) ∙ is);
    numbered = λ m le. inl le;
    still_valid = λ is. sent_still p.state is;
    still_nominated = λ is. sent_nominated p.nomination ∙ is;
    started = λ _ c keeps. sent_started p.state;
    consented = λ _ had is. sent_still p.state (had is);
  }

  -- its nomination begins again before
  check_again : (path : Path) (now : ℕ) (t : StunTiming) (controlling : Bool) (id : List ℕ) (p : PairRecord) → asks path 0 → sent path id controlling
      → Changed asks met sent path p (checked now t controlling id (renominated p))
  check_again path now t controlling id p asking out = record {
    number = refl;
    local = refl;
    remote = refl;
    checks = λ c keeps.
        elim (Has-push p.checks (check_of now controlling id (renominated p)) c (Has-drop _ (p.checks ++ check_of now controlling id (renominated p) ∷ []) c keeps)) [
          | inl was ↦ inl (c, was, refl, refl)
          | inr same ↦ inr (subst (λ (k : Check). sent path k.id k.controlling) same out)
        ];
    valid = λ is. inl (sent_valid p.state is);
    asked = λ _. inr asking;
    numbered = λ m le. inl le;
    still_valid = λ is. sent_still p.state is;
    still_nominated = λ is. sent_nominated (nomination_again p.nomination) ∙ (again_nominated p.nomination ∙ is);
    started = λ _ c keeps. sent_started p.state;
    consented = λ _ had is. sent_still p.state (had is);
  }

  sent_changes : (begins : Bool) (path : Path) (now : ℕ) (t : StunTiming) (controlling : Bool) (id : List ℕ) (p : PairRecord) → (begins ≡ true → asks path 0) → sent path id controlling
      → Changed asks met sent path p (sent_at begins now t controlling id p)
  sent_changes true path now t controlling id p asking out = check_again path now t controlling id p (asking refl) out
  sent_changes false path now t controlling id p asking out = check_changes path now t controlling id p out

  -- a pending transaction is answered
  pub answer_changes : (path : Path) (now place : ℕ) (c : Check) (p : PairRecord) → IsCheckAt p.checks c.id place c → met path
      → Changed asks met sent path p (answered now place c p)
  answer_changes path now place c p at answers = record {
    number = refl;
    local = refl;
    remote = refl;
    checks = λ k keeps. elim (Has-set p.checks place (answered_at now c) k keeps) [
      | inl was ↦ inl (k, was, refl, refl)
      | inr same ↦ inl (c, Has-get p.checks place c at.0, ap (λ (x : Check). x.id) same, ap (λ (x : Check). x.controlling) same)
    ];
    valid = λ is. inr answers;
    asked = λ is. inl (sym (answered_nominated c.nominated p.nomination) ∙ is);
    numbered = λ m le. inl le;
    still_valid = λ is. answered_still p.state is;
    still_nominated = λ is. answered_nominated c.nominated p.nomination ∙ is;
    started = λ was k keeps. answered_started p.state (was c (Has-get p.checks place c at.0));
    consented = λ was had is. answered_valid p.state (was c (Has-get p.checks place c at.0));
  }

  heard_changes : (path : Path) (now : ℕ) (o : Option ℕ) (p : PairRecord) → Changed asks met sent path p (heard_at now o p)
  heard_changes path now None p = record {
    number = refl;
    local = refl;
    remote = refl;
    checks = λ c keeps. inl (c, keeps, refl, refl);
    valid = λ is. inl is;
    asked = λ is. inl is;
    numbered = λ m le. inl le;
    still_valid = λ is. is;
    still_nominated = λ is. is;
    started = λ s. s;
    consented = λ _ had. had;
  }
  heard_changes path now (Some at) p = unchanged asks met sent path p

  pub asked_changes : (path : Path) (now : ℕ) (t : StunTiming) (p : PairRecord) → Changed asks met sent path p (scheduled now t p)
  asked_changes path now t p = record {
    number = refl;
    local = refl;
    remote = refl;
    checks = λ c keeps. inl (c, keeps, refl, refl);
    valid = λ is. inl is;
    asked = λ is. inl is;
    numbered = λ m le. inl le;
    still_valid = λ is. is;
    still_nominated = λ is. is;
    started = λ s. s;
    consented = λ _ had. had;
  }

  -- a local candidate is appended
  pub local_joins : (x : Parts) (c : CandidateRecord) → Fit x → Onward asks met sent x (record x { local = x.local ++ c ∷ [] })
  local_joins x c fit =
      let longer : length (x.local ++ c ∷ []) ≡ length x.local + 1 = length-append x.local (c ∷ []) in record {
        counter = omega arith;
        pairs = λ p has. inl (record {
          was = p;
          there = has;
          number = refl;
          path = ap (λ (y : CandidateRecord). let path : Path = record { proto = y.proto; source = base_of y; destination = (candidate_at x.remote p.remote).addr } in path)
              (sym (at-append x.local (c ∷ []) p.local (fit.placed p has).0));
          checks = λ k keeps. inl (k, keeps, refl, refl);
          valid = λ is. inl is;
          asked = λ is. inl is;
          numbered = λ m le. inl le;
          still_valid = λ is. is;
          still_nominated = λ is. is;
        });
        fit = record {
          placed = λ p has. (let w = fit.placed p has in let lt = w.0 in (omega (arith, lt, longer), w.1));
          rising = fit.rising;
          below = fit.below;
          started = fit.started;
          consented = fit.consented;
        };
      }

  new_mapped_candidate : (b : Bool) (x : Parts) (c : CandidateRecord) → Fit x → Onward asks met sent x (record x { local = if b then x.local else x.local ++ c ∷ [] })
  new_mapped_candidate true x c fit = here asks met sent x fit
  new_mapped_candidate false x c fit = local_joins x c fit

  module _ {H P : Type 0} where
    learns : (ps : List PairRecord) (old : AgentRecord H P) (p : PairRecord) (mapped_address : Option SocketAddr) → Fit (record (parts_of asks met sent old) { pairs = ps })
        → Onward asks met sent (record (parts_of asks met sent old) { pairs = ps }) (record (parts_of asks met sent (mapped_added p mapped_address (success_counted old))) { pairs = ps })
    learns ps old p None fit = here asks met sent (record (parts_of asks met sent old) { pairs = ps }) fit
    learns ps old p (Some address) fit =
        new_mapped_candidate (is_left_out old.max_discovered old.local address) (record (parts_of asks met sent old) { pairs = ps }) (mapped_candidate (success_counted old) p address) fit

    -- a response is recorded on its path
    pub records : (now : ℕ) (old new : AgentRecord H P) (path : Path) (m : Message) → Fit (parts_of asks met sent old)
        → ((p : PairRecord) (c : Check) → Has old.pairs p → keeps_check_on old path m.id p ≡ true → Has p.checks c → c.id ≡ m.id → met (path_of old p))
        → Records now old path m new → Onward asks met sent (parts_of asks met sent old) (parts_of asks met sent new)
    records now old new path m fit answers (i, p, after, there, on, (place, c, at, is), made) =
        let x : Parts = parts_of asks met sent old in
        let has : Has old.pairs p = Has-get old.pairs i p there in
        let here_met : met (path_of old p) = answers p c has on (Has-get p.checks place c at.0) at.1 in
        let number : after.number ≡ p.number = ap (λ (q : PairRecord). q.number) is in
        let changes : Onward asks met sent x (record x { pairs = change_pair after.number (λ _. after) old.pairs }) = one_changed asks met sent x after.number (λ _. after) fit
        (λ q there same. (
        let equal : p ≡ q = one_pair old.pairs p q fit.rising has there (sym number ∙ sym (numbered after.number q same)) in
        subst (λ (r : PairRecord). Changed asks met sent (path_in x r) r after) equal
        (subst (λ (r : PairRecord). Changed asks met sent (path_in x p) p r) (sym is) (answer_changes (path_in x p) now place c p (at.0, refl) here_met)))) in
        let by_number : new ≡ record (mapped_added p m.attributes.xor_mapped_address (success_counted old)) { pairs = change_pair after.number (λ _. after) old.pairs } =
        made ∙ ap (λ (ps : List PairRecord). record (mapped_added p m.attributes.xor_mapped_address (success_counted old)) { pairs = ps }) (put_at old.pairs i p after fit.rising there number) in
        let more = learns (change_pair after.number (λ _. after) old.pairs) old p m.attributes.xor_mapped_address changes.fit in
        subst (λ (a : AgentRecord H P). Onward asks met sent x (parts_of asks met sent a)) (sym by_number) (onward asks met sent x (record x { pairs = change_pair after.number (λ _. after) old.pairs }) (parts_of asks met sent (record (mapped_added p m.attributes.xor_mapped_address (success_counted old)) { pairs = change_pair after.number (λ _. after) old.pairs })) changes more)

    -- a `handle_timeout` call may send a check on its path
    pub check_moves : (mac : H → List ℕ → List ℕ → List ℕ) (now : ℕ) (remote : Option IceCreds) (old new : AgentRecord H P) (s t : Stream) (issued : Option Issued)
        → ((old.controlling || old.lite) ≡ true → (p : Path) (m : ℕ) → asks p m)
        → ((path : Path) (id : List ℕ) → issued ≡ Some (issued_as path class.Request id) → sent path id old.controlling) → Fit (parts_of asks met sent old)
        → MayCheck mac now remote old s issued new t → Onward asks met sent (parts_of asks met sent old) (parts_of asks met sent new)
    check_moves mac now None old new s t issued free sends fit (is, made, drawn) =
        subst (λ (a : AgentRecord H P). Onward asks met sent (parts_of asks met sent old) (parts_of asks met sent a)) (sym made) (here asks met sent (parts_of asks met sent old) fit)
    check_moves mac now (Some remote) old new s t issued free sends fit h = either old.lite h
        (λ _ k. subst (λ (a : AgentRecord H P). Onward asks met sent (parts_of asks met sent old) (parts_of asks met sent a)) (sym k.1)
        (mapped asks met sent (parts_of asks met sent old) (heard now) fit (λ p has. heard_changes (path_of old p) now p.last_request p)))
        (λ _ k. next k.0 k.1 k.2) where
          x : Parts
          x = parts_of asks met sent old

          asks_all : Onward asks met sent (parts_of asks met sent old) (parts_of asks met sent (all_scheduled now old))
          asks_all = mapped asks met sent (parts_of asks met sent old) (scheduled now old.timing) fit (λ p has. asked_changes (path_of old p) now old.timing p)

          next : (top : Option PairRecord) → IsNextToCheck now (all_scheduled now old) top → ChecksTop mac now remote top (all_scheduled now old) s issued new t
              → Onward asks met sent (parts_of asks met sent old) (parts_of asks met sent new)
          next None none (is, made, drawn) =
              subst (λ (a : AgentRecord H P). Onward asks met sent (parts_of asks met sent old) (parts_of asks met sent a)) (sym made) asks_all
          next (Some p) chosen (id, drawn, values, is, made) =
              let all : AgentRecord H P = all_scheduled now old in
              let has : Has all.pairs p = next-has now all p chosen in
              let begins : Bool = nominates_at_once all in
              let change : PairRecord → PairRecord = sent_at begins now old.timing old.controlling id in
              let asking : begins ≡ true → (path : Path) → asks path 0 = λ at path. free (ap (λ c. c || old.lite) (at-once-controls now all at)) path 0 in
              let y : Parts = parts_of asks met sent all in
              let check : Onward asks met sent y (record y { pairs = change_pair p.number change all.pairs }) =
              one_changed asks met sent y p.number change asks_all.fit
              (λ q there same. (
              let equal : p ≡ q = one_pair all.pairs p q asks_all.fit.rising has there (sym (numbered p.number q same)) in
              subst (λ (r : PairRecord). Changed asks met sent (path_in y r) r (change r)) equal
              (sent_changes begins (path_in y p) now old.timing old.controlling id p (λ at. asking at (path_in y p)) (sends (path_in y p) id is)))) in
              subst (λ (a : AgentRecord H P). Onward asks met sent (parts_of asks met sent old) (parts_of asks met sent a)) (sym made)
              (subst (λ (ps : List PairRecord). Onward asks met sent (parts_of asks met sent old) (record y { pairs = ps }))
              (sym (sent-pairs begins p.number now old.timing old.controlling id all.pairs))
              (onward asks met sent (parts_of asks met sent old) y (record y { pairs = change_pair p.number change all.pairs }) asks_all check))
