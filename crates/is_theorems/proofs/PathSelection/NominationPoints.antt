-- If nomination is evaluated at the end of a step, the selected pair is a greatest one, and the pair that takes a
-- response is valid.
use Rattle.is_stun.specs.declared.header.Class.TheVariants as class
use Rattle.is_theorems.proofs.Common.{each-way, formed, formed_again}
use Rattle.is_theorems.proofs.Common.{[], ◌&&◌, ◌<◌, ◌==◌, ◌||◌, ◌∙◌, ◌∷◌, ◌≡◌, ◌≤◌, AgentRecord, all_scheduled, answer_by, answered_at}
use Rattle.is_theorems.proofs.Common.{AnswersAreValid, ap, arith, scheduled, at_request, at_timeout, below-each, Bool, Brings, Call}
use Rattle.is_theorems.proofs.Common.{CandidateRecord, change_at, Check, checked, CheckState, ChecksTop, cond, Done, done}
use Rattle.is_theorems.proofs.Common.{eligible_numbered, Emitted, Entry, eq-eqb, Err, expired_gone, false, favored, filter, find, Flag}
use Rattle.is_theorems.proofs.Common.{followed, followed_by_number, HandlesSuccess, HandleTimeout, Has, has_id, heard, heard_at, IceCreds}
use Rattle.is_theorems.proofs.Common.{IceError, if_eligible, IfSome, if◌then◌else◌, inl, InProgress, inr, is_eligible, is_expired}
use Rattle.is_theorems.proofs.Common.{is_nominated, is_numbered, is_reverse, is_started_state, is_valid, is_valid_state, IsChosen}
use Rattle.is_theorems.proofs.Common.{IsGreatest, IsNominationPoint, IsSound, Issued, IsTopSelected, keeps_check, keeps_check_on, List}
use Rattle.is_theorems.proofs.Common.{list_any, MaintainsPairs, map, MatchOption, MayCheck, Message, nominated_by_self, Nominates}
use Rattle.is_theorems.proofs.Common.{nominates_at_once, None, none_pass, NonePass, not, numbers, Ok, Option, option_and_then, option_map}
use Rattle.is_theorems.proofs.Common.{option_map_or, option_or, pair_numbered, PairRecord, Path, path_left, path_of, ReceivePacket, refl}
use Rattle.is_theorems.proofs.Common.{Rejected, remains, RemovesExpired, renominated, request_at, RequestRecord, Result, rising-each}
use Rattle.is_theorems.proofs.Common.{selection, selection_of, ServesQueued, slice_get, slice_set, Some, state_once_answered}
use Rattle.is_theorems.proofs.Common.{state_once_sent, Step, Stream, StunTiming, subst, suc, Succeeded, sym, Takes, timeout_begun, TimesOut}
use Rattle.is_theorems.proofs.Common.{true, Unparsed, Waiting, zero, ℕ}
use Rattle.is_theorems.proofs.BasicLemmas.EqualAddresses.{both}
use Rattle.is_theorems.proofs.RuleEffects.UnchangedSettings.{either}
use Rattle.is_theorems.proofs.RuleEffects.SelectedPaths.{one_pair, some_is}
use Rattle.is_theorems.proofs.RuleEffects.EarlierAndNewPairs.{Fit, thinned}
use Rattle.is_theorems.proofs.BasicLemmas.MembersOfLists.{has-front}
use Rattle.is_theorems.proofs.RuleEffects.ChangedPairs.{forms_again, Kept_by_self, self_kept, Has-map, parts_of, left_moves, names_moves}
use Rattle.is_theorems.proofs.CallEffects.ChecksAndResponses.{Has-get, again_nominated, sent_nominated, records, put_at}
use Rattle.is_theorems.proofs.CallEffects.ServedRequests.{Has-mapped}
use Rattle.is_theorems.proofs.PathSelection.FirstNumbered.{SameOrder, number-mapped}
use Rattle.is_theorems.proofs.PathSelection.GreatestEligiblePair.{followed-on, nominates_top}
use Rattle.is_theorems.proofs.BasicLemmas.PairsInTurn.{by-begins, sent_at, sent-pairs}
use Rattle.is_theorems.proofs.RuleEffects.NominatedPairs.{SelectsPath, selects_path}

-- ---- lists

kept_if : {X : Type 0} (b : Bool) (x : X) (xs : List X) → (b ≡ true → ⊥) → xs ≡ [] → (if b then x ∷ xs else xs) ≡ []
kept_if true x xs fails none = absurd (fails refl)
kept_if false x xs fails none = none

all_fail : {X : Type 0} (test : X → Bool) (xs : List X) → ((x : X) → Has xs x → test x ≡ true → ⊥) → NonePass test xs
all_fail test [] fails = refl
all_fail test (x ∷ xs) fails = kept_if (test x) x (filter test xs) (λ is. fails x (inl refl) is) (all_fail test xs (λ y has is. fails y (inr has) is))

any_set : (test : Check → Bool) (xs : List Check) (i : ℕ) (c d : Check) → slice_get xs i ≡ Some c → test d ≡ test c → list_any test (slice_set xs i d) ≡ list_any test xs
any_set test [] i c d is same = refl
any_set test (x ∷ xs) zero c d is same =
    let here : x ≡ c = some_is x c is in ap (λ b. b || list_any test xs) (same ∙ ap test (sym here))
any_set test (x ∷ xs) (suc i) c d is same = ap (λ b. test x || b) (any_set test xs i c d is same)

-- ---- a change of each pair that leaves eligibility and order

pub record Alike (c : Bool) (p q : PairRecord) : Type 0 where
  pub number : q.number ≡ p.number
  pub priority : q.priority ≡ p.priority
  pub greatest : q.greatest_number ≡ p.greatest_number
  pub eligible : is_eligible c q ≡ is_eligible c p

pub alike_if : (b c : Bool) (p q : PairRecord) → Alike c p q → Alike c p (if b then q else p)
alike_if true c p q h = h
alike_if false c p q h = record { number = refl; priority = refl; greatest = refl; eligible = refl }

pub alike-order : (c : Bool) (p q : PairRecord) → Alike c p q → SameOrder c p q
alike-order c p q a = record { number = a.number; priority = a.priority; greatest = a.greatest; eligible = a.eligible }

find_by : (n : ℕ) (f : PairRecord → PairRecord) (x : PairRecord) (b d : Bool) (o r : Option PairRecord) (g : PairRecord → Bool) → b ≡ d → option_map_or (λ p. g (f p)) o false ≡ option_map_or g r false
    → option_map_or (λ p. g (f p)) (cond b (Some x) o) false ≡ option_map_or g (cond d (Some (f x)) r) false
find_by n f x true d o r g same rest = subst (λ k. g (f x) ≡ option_map_or g (cond k (Some (f x)) r) false) same refl
find_by n f x false d o r g same rest = subst (λ k. option_map_or (λ p. g (f p)) o false ≡ option_map_or g (cond k (Some (f x)) r) false) same rest

find_mapped : (n : ℕ) (f : PairRecord → PairRecord) (ps : List PairRecord) (g : PairRecord → Bool) → ((p : PairRecord) → (f p).number ≡ p.number)
    → option_map_or (λ p. g (f p)) (find (is_numbered n) ps) false ≡ option_map_or g (find (is_numbered n) (map f ps)) false
find_mapped n f [] g number = refl
find_mapped n f (x ∷ xs) g number =
    find_by n f x (is_numbered n x) (is_numbered n (f x)) (find (is_numbered n) xs) (find (is_numbered n) (map f xs)) g
    (ap (λ k. k == n) (sym (number x))) (find_mapped n f xs g number)

abbrev Persists : ℕ → List PairRecord → Option ℕ → Type 0
Persists priority ps number =
    option_map_or (λ (p : PairRecord). p.priority == priority) (option_and_then (λ n. pair_numbered n ps) number) false ≡ true

abbrev TopIn : Bool → Option ℕ → List PairRecord → Option ℕ → Type 0
TopIn c followed ps number =
    (top : Option PairRecord) × IsChosen c followed (selection ps number) top × IfSome top (λ best. remains followed best (selection ps number) ≡ true)

priority_same : (a b k : ℕ) (o : Option PairRecord) (f : PairRecord → PairRecord) → ((p : PairRecord) → (f p).priority ≡ p.priority) → b ≡ a
    → option_map_or (λ (p : PairRecord). (f p).priority == b) o false ≡ option_map_or (λ (p : PairRecord). p.priority == a) o false
priority_same a b k None f same is = refl
priority_same a b k (Some p) f same is = ap (λ x. x == b) (same p) ∙ ap (λ x. p.priority == x) is

persists_mapped : (c : Bool) (f : PairRecord → PairRecord) (ps : List PairRecord) (number : Option ℕ) (best : PairRecord) → ((p : PairRecord) → Alike c p (f p))
    → Persists best.priority ps number → Persists (f best).priority (map f ps) number
persists_mapped c f ps None best alike h = h
persists_mapped c f ps (Some n) best alike h =
    sym (find_mapped n f ps (λ (p : PairRecord). p.priority == (f best).priority) (λ p. (alike p).number))
    ∙ priority_same best.priority (f best).priority n (find (is_numbered n) ps) f (λ p. (alike p).priority) (alike best).priority ∙ h

greatest_mapped : (c : Bool) (f : PairRecord → PairRecord) (ps : List PairRecord) (top : Option PairRecord) → ((p : PairRecord) → Alike c p (f p))
    → IsGreatest (is_eligible c) ps top → IsGreatest (is_eligible c) (map f ps) (option_map f top)
greatest_mapped c f ps None alike none =
    all_fail (is_eligible c) (map f ps) (λ p has is. (
    let o = Has-map f ps p has in
    none_pass (is_eligible c) ps o.0 none o.1 (sym (alike o.0).eligible ∙ ap (λ (x : PairRecord). is_eligible c x) o.2 ∙ is)))
greatest_mapped c f ps (Some best) alike (has, able, greatest) = (
  Has-mapped f ps best has,
  (alike best).eligible ∙ able,
  λ p in_new is. (
      let o = Has-map f ps p in_new in
      let le : o.0.priority ≤ best.priority = greatest o.0 o.1 (sym (alike o.0).eligible ∙ ap (λ (x : PairRecord). is_eligible c x) o.2 ∙ is) in
      let its : p.priority ≡ o.0.priority = ap (λ (x : PairRecord). x.priority) (sym o.2) ∙ (alike o.0).priority in
      subst (λ n. n ≤ (f best).priority) (sym its) (subst (λ n. o.0.priority ≤ n) (sym (alike best).priority) le)),
)

-- ---- the favored pair

numbered_mapped : (n : ℕ) (f : PairRecord → PairRecord) (ps : List PairRecord) → ((p : PairRecord) → (f p).number ≡ p.number)
    → pair_numbered n (map f ps) ≡ option_map f (pair_numbered n ps)
numbered_mapped n f [] number = refl
numbered_mapped n f (x ∷ xs) number =
    ap (λ b. cond b (Some (f x)) (find (is_numbered n) (map f xs))) (ap (λ k. k == n) (number x)) ∙ by (is_numbered n x) (numbered_mapped n f xs number) where
      by : (b : Bool) → find (is_numbered n) (map f xs) ≡ option_map f (find (is_numbered n) xs)
          → cond b (Some (f x)) (find (is_numbered n) (map f xs)) ≡ option_map f (cond b (Some x) (find (is_numbered n) xs))
      by true rest = refl
      by false rest = rest

able_mapped : (c : Bool) (f : PairRecord → PairRecord) (o : Option PairRecord) → ((p : PairRecord) → Alike c p (f p))
    → option_and_then (if_eligible c) (option_map f o) ≡ option_map f (option_and_then (if_eligible c) o)
able_mapped c f None alike = refl
able_mapped c f (Some p) alike = ap (λ b. if b then Some (f p) else None) (alike p).eligible ∙ by (is_eligible c p) where
  by : (b : Bool) → (if b then Some (f p) else None) ≡ option_map f (if b then Some p else None)
  by true = refl
  by false = refl

eligible_mapped : (c : Bool) (n : ℕ) (f : PairRecord → PairRecord) (ps : List PairRecord) → ((p : PairRecord) → Alike c p (f p))
    → eligible_numbered c (map f ps) n ≡ option_map f (eligible_numbered c ps n)
eligible_mapped c n f ps alike =
    ap (λ (o : Option PairRecord). option_and_then (if_eligible c) o) (numbered_mapped n f ps (λ p. (alike p).number)) ∙ able_mapped c f (pair_numbered n ps) alike

or_mapped : (f : PairRecord → PairRecord) (a b : Option PairRecord) → option_or (option_map f a) (option_map f b) ≡ option_map f (option_or a b)
or_mapped f None b = refl
or_mapped f (Some a) b = refl

favored_mapped : (c : Bool) (followed : Option ℕ) (f : PairRecord → PairRecord) (ps : List PairRecord) (number : Option ℕ) → ((p : PairRecord) → Alike c p (f p))
    → favored c followed (selection (map f ps) number) ≡ option_map f (favored c followed (selection ps number))
favored_mapped c None f ps number alike = refl
favored_mapped c (Some n) f ps number alike =
    ap (λ (o : Option PairRecord). option_or o (option_and_then (eligible_numbered c (map f ps)) number)) (eligible_mapped c n f ps alike)
    ∙ ap (λ (o : Option PairRecord). option_or (option_map f (eligible_numbered c ps n)) o) (selected number)
    ∙ or_mapped f (eligible_numbered c ps n) (option_and_then (eligible_numbered c ps) number) where
      selected : (m : Option ℕ) → option_and_then (eligible_numbered c (map f ps)) m ≡ option_map f (option_and_then (eligible_numbered c ps) m)
      selected None = refl
      selected (Some m) = eligible_mapped c m f ps alike

chosen_mapped : (c : Bool) (followed : Option ℕ) (f : PairRecord → PairRecord) (ps : List PairRecord) (number : Option ℕ) (top : Option PairRecord)
    → ((p : PairRecord) → Alike c p (f p)) → IsChosen c followed (selection ps number) top → IsChosen c followed (selection (map f ps) number) (option_map f top)
chosen_mapped c followed f ps number top alike h =
    subst (λ o. MatchOption o (IsGreatest (is_eligible c) (map f ps) (option_map f top)) (λ p. option_map f top ≡ Some p)) (sym (favored_mapped c followed f ps number alike))
    (by (favored c followed (selection ps number)) h) where
      by : (o : Option PairRecord) → MatchOption o (IsGreatest (is_eligible c) ps top) (λ p. top ≡ Some p)
          → MatchOption (option_map f o) (IsGreatest (is_eligible c) (map f ps) (option_map f top)) (λ p. option_map f top ≡ Some p)
      by None k = greatest_mapped c f ps top alike k
      by (Some p) k = ap (λ (o : Option PairRecord). option_map f o) k

remains_mapped : (c : Bool) (followed : Option ℕ) (f : PairRecord → PairRecord) (ps : List PairRecord) (number : Option ℕ) (best : PairRecord) → ((p : PairRecord) → Alike c p (f p))
    → remains followed best (selection ps number) ≡ true → remains followed (f best) (selection (map f ps) number) ≡ true
remains_mapped c None f ps number best alike h = persists_mapped c f ps number best alike h
remains_mapped c (Some n) f ps number best alike h = ap (λ k. option_map_or (λ m. m == k) number false) (alike best).number ∙ h

top_mapped : (c : Bool) (followed : Option ℕ) (f : PairRecord → PairRecord) (ps : List PairRecord) (number : Option ℕ) → ((p : PairRecord) → Alike c p (f p))
    → TopIn c followed ps number → TopIn c followed (map f ps) number
top_mapped c followed f ps number alike (None, none, _) = (None, chosen_mapped c followed f ps number None alike none, tt)
top_mapped c followed f ps number alike (Some best, chosen, persists) =
    (Some (f best), chosen_mapped c followed f ps number (Some best) alike chosen, remains_mapped c followed f ps number best alike persists)

-- ---- checks leave it

sent_alike : (s : CheckState) → is_valid_state (state_once_sent s) ≡ is_valid_state s
sent_alike Waiting = refl
sent_alike InProgress = refl
sent_alike Succeeded = refl

pub checked_alike : (c : Bool) (now : ℕ) (t : StunTiming) (role : Bool) (id : List ℕ) (p : PairRecord) → Alike c p (checked now t role id p)
checked_alike c now t role id p = record {
  number = refl;
  priority = refl;
  greatest = refl;
  eligible = ap (λ b. b && (c || is_nominated (checked now t role id p))) (sent_alike p.state) ∙ ap (λ b. is_valid p && (c || b)) (sent_nominated p.nomination);
}

pub heard_alike : (c : Bool) (now : ℕ) (o : Option ℕ) (p : PairRecord) → Alike c p (heard_at now o p)
heard_alike c now None p = record { number = refl; priority = refl; greatest = refl; eligible = refl }
heard_alike c now (Some at) p = record { number = refl; priority = refl; greatest = refl; eligible = refl }

valid_once_answered : (s : CheckState) → is_started_state s ≡ true → is_valid_state (state_once_answered s) ≡ true
valid_once_answered Waiting h = let no : false ≡ true = h in cc
valid_once_answered InProgress h = refl
valid_once_answered Succeeded h = refl

abbrev pub AllNumbers : Path → ℕ → Type 0
AllNumbers path m = Unit {0}

abbrev pub All1 : Path → Type 0
All1 path = Unit {0}

abbrev pub All3 : Path → List ℕ → Bool → Type 0
All3 path id role = Unit {0}

kept_if_numbered : (b c l : Bool) (p : PairRecord) → Kept_by_self p (if b then nominated_by_self c l p else p)
kept_if_numbered true c l p = self_kept (not (is_nominated p) && (c || l)) l p
kept_if_numbered false c l p = self_kept false l p

-- also if its nomination begins again
pub sent-alike : (begins c : Bool) (now : ℕ) (t : StunTiming) (role : Bool) (id : List ℕ) (p : PairRecord) → Alike c p (sent_at begins now t role id p)
sent-alike begins c now t role id p = by-begins begins (λ q. Alike c p q) now t role id p again (checked_alike c now t role id p) where
  again : Alike c p (checked now t role id (renominated p))
  again = record {
    number = refl;
    priority = refl;
    greatest = refl;
    eligible = (checked_alike c now t role id (renominated p)).eligible ∙ ap (λ b. is_valid p && (c || b)) (again_nominated p.nomination);
  }

module _ {H P : Type 0} where
  -- each pair changes so, and nothing else that nomination depends on
  pub mapped-top : (old : AgentRecord H P) (f : PairRecord → PairRecord) → ((p : PairRecord) → Alike old.controlling p (f p))
      → IsTopSelected old → IsTopSelected (record old { pairs = map f old.pairs })
  mapped-top old f alike top =
      let same : followed (record old { pairs = map f old.pairs }) ≡ followed old =
      followed-on (old.renominates && not old.controlling) (numbers old && old.numbers_seen) (followed_by_number old) (followed_by_number (record old { pairs = map f old.pairs })) old.last_nominated (followed old)
      (λ is. number-mapped old.controlling old.selected_pair f (λ p. alike-order old.controlling p (f p) (alike p)) old.pairs ∙ is) refl in
      subst (λ o. TopIn old.controlling o (map f old.pairs) old.selected_pair) (sym same)
      (top_mapped old.controlling (followed old) f old.pairs old.selected_pair alike top)

  checks_top : (mac : H → List ℕ → List ℕ → List ℕ) (now : ℕ) (remote : Option IceCreds) (old new : AgentRecord H P) (s t : Stream) (issued : Option Issued)
      → MayCheck mac now remote old s issued new t → IsTopSelected old → IsTopSelected new
  checks_top mac now None old new s t issued (is, made, drawn) top = subst (λ (a : AgentRecord H P). IsTopSelected a) (sym made) top
  checks_top mac now (Some remote) old new s t issued h top = either old.lite h
      (λ _ k. subst (λ (a : AgentRecord H P). IsTopSelected a) (sym k.1)
      (mapped-top old (heard now) (λ p. heard_alike old.controlling now p.last_request p) top))
      (λ _ k. next k.0 k.2) where
        all_top : IsTopSelected (all_scheduled now old)
        all_top = mapped-top old (scheduled now old.timing) (λ p. record { number = refl; priority = refl; greatest = refl; eligible = refl }) top

        next : (due : Option PairRecord) → ChecksTop mac now remote due (all_scheduled now old) s issued new t → IsTopSelected new
        next None (is, made, drawn) = subst (λ (a : AgentRecord H P). IsTopSelected a) (sym made) all_top
        next (Some p) (id, drawn, values, is, made) =
            let begins : Bool = nominates_at_once (all_scheduled now old) in
            let change : PairRecord → PairRecord = sent_at begins now old.timing old.controlling id in
            subst (λ (a : AgentRecord H P). IsTopSelected a) (sym made)
            (subst (λ (ps : List PairRecord). IsTopSelected (record (all_scheduled now old) { pairs = ps })) (sym (sent-pairs begins p.number now old.timing old.controlling id (map (scheduled now old.timing) old.pairs)))
            (mapped-top (all_scheduled now old) (change_at p.number change)
            (λ q. alike_if (is_numbered p.number q) old.controlling q (change q) (sent-alike begins old.controlling now old.timing old.controlling id q)) all_top))

  abbrev pub FitOf : AgentRecord H P → Type 0
  FitOf a = Fit (parts_of AllNumbers All1 All3 a)

  pub fit_of : (a : AgentRecord H P) → IsSound a → FitOf a
  fit_of a sound = record {
    placed = sound.placed;
    rising = rising-each a.pairs sound.rising;
    below = below-each a.next_number a.pairs sound.below;
    started = λ p has c keeps. sound.started p c has keeps;
    consented = sound.consented;
  }

  removes_expired_top : (now : ℕ) (old new : AgentRecord H P) (path : Option Path) → FitOf old → RemovesExpired now old path new → IsTopSelected old → IsTopSelected new
  removes_expired_top now old new path fit h top = either (list_any (is_expired now old) old.pairs) h
      (λ _ k. (
      let left = thinned AllNumbers All1 All3 (parts_of AllNumbers All1 All3 old) (λ p. not (is_expired now old p)) fit in
      let mid : IsTopSelected k.0 = nominates_top (expired_gone now old) k.0 path left.fit.rising k.1 in
      subst (λ (a : AgentRecord H P). IsTopSelected a) (sym k.2) mid))
      (λ _ k. subst (λ (a : AgentRecord H P). IsTopSelected a) (sym k.1) top)

  pub maintains_pairs_top : (mac : H → List ℕ → List ℕ → List ℕ) (now : ℕ) (old new : AgentRecord H P) (s t : Stream) (emitted : Emitted) → FitOf old → MaintainsPairs mac now old s emitted new t → IsTopSelected new
  maintains_pairs_top mac now old new s t emitted fit (first, second, issued, named, kept, nominating, giving, checking, is) =
      let left = left_moves AllNumbers All1 All3 now (at_timeout now old) fit in
      let a = nominates_top (path_left now (at_timeout now old)) named first left.fit.rising nominating in
      let named_fit = (names_moves AllNumbers All1 All3 now (at_timeout now old) named first (λ _ _ _. tt) fit nominating).0.fit in
      let b = removes_expired_top now named kept second named_fit giving a in
      checks_top mac now kept.remote_creds kept new s t issued checking b

  -- the pair stays through nomination
  pub record Still (p : PairRecord) (a b : AgentRecord H P) : Type 0 where
    pub now : PairRecord
    pub there : Has b.pairs now
    pub number : now.number ≡ p.number
    pub checks : now.checks ≡ p.checks
    pub valid : is_valid now ≡ is_valid p
    pub path : path_of b now ≡ path_of a p

  pub stays_still : (p : PairRecord) (a b : AgentRecord H P) → Has a.pairs p → b ≡ a → Still p a b
  stays_still p a b has same = subst (λ (x : AgentRecord H P). Still p a x) (sym same) (record { now = p; there = has; number = refl; checks = refl; valid = refl; path = refl })

  selects_still : (old new : AgentRecord H P) (path : Option Path) (p : PairRecord) → Has old.pairs p → SelectsPath old path new → Still p old new
  selects_still old new path p has (None, none, (is, same)) = stays_still p old new has same
  selects_still old new path p has (Some top, chosen, h) = either (remains (followed old) top (selection_of old)) h
      (λ _ k. stays_still p old new has k.1)
      (λ _ k. (
      let q : PairRecord = change_at top.number (nominated_by_self old.controlling old.lite) p in
      let kept = kept_if_numbered (is_numbered top.number p) old.controlling old.lite p in
      subst (λ (x : AgentRecord H P). Still p old x) (sym k.1) (record {
        now = q;
        there = Has-mapped (change_at top.number (nominated_by_self old.controlling old.lite)) old.pairs p has;
        number = kept.number;
        checks = kept.checks;
        valid = kept.valid;
        path = ap (λ l. path_of old (record q { local = l })) kept.local ∙ ap (λ r. path_of old (record q { local = p.local; remote = r })) kept.remote;
      })))

  pub nominates_still : (old new : AgentRecord H P) (path : Option Path) (p : PairRecord) → Has old.pairs p → Nominates old path new → Still p old new
  nominates_still old new path p has h = selects_still old new path p has (selects_path old new path h)

  -- the pair that takes the response is valid, and stores the check on its path
  taken_by : (now : ℕ) (old new : AgentRecord H P) (via : Path) (m : Message) (emitted : Emitted) → IsSound old → FitOf old → HandlesSuccess now old via m emitted new
      → (p : PairRecord) × Has new.pairs p × (keeps_check_on new via m.id p ≡ true) × (is_valid p ≡ true)
  taken_by now old new via m emitted sound fit (recorded, (i, p, after, found, on, (place, c, at, is), made), (path, mid, nominating, is_emitted, done)) =
      let o = records AllNumbers All1 All3 now old recorded via m fit (λ q d has_q on_q keeps same. tt) (i, p, after, found, on, (place, c, at, is), made) in
      let has : Has old.pairs p = Has-get old.pairs i p found in
      let number : after.number ≡ p.number = ap (λ (q : PairRecord). q.number) is in
      let put : PairRecord → PairRecord = change_at after.number (λ _. after) in
      let placed : put p ≡ after = ap (λ b. if b then after else p) (eq-eqb p.number after.number (sym number)) in
      let there : Has recorded.pairs after =
      subst (λ (a : AgentRecord H P). Has a.pairs after) (sym made) (subst (λ (ps : List PairRecord). Has ps after) (sym (put_at old.pairs i p after fit.rising found number))
      (subst (λ (x : PairRecord). Has (map put old.pairs) x) placed (Has-mapped put old.pairs p has))) in
      let started : is_started_state p.state ≡ true = sound.started p c has (Has-get p.checks place c at.0) in
      let valid : is_valid after ≡ true = ap (λ (x : PairRecord). is_valid x) is ∙ valid_once_answered p.state started in
      let two = both (keeps_check m.id p) (is_reverse via (path_of old p)) on in
      let keeps : keeps_check m.id after ≡ true =
      ap (λ (x : PairRecord). keeps_check m.id x) is ∙ any_set (has_id m.id) p.checks place c (answered_at now c) at.0 refl ∙ two.0 in
      let there_again : Has (formed_again recorded).pairs after =
      each-way (λ (a : AgentRecord H P). Has a.pairs after) recorded there (λ i j may. has-front recorded.pairs (formed recorded i j) after there) in
      let still = nominates_still (formed_again recorded) mid path after there_again nominating in
      let same_path : path_of old p ≡ path_of recorded after = elim (o.pairs after there) [
        | inl k ↦ (let same : k.was ≡ p = one_pair old.pairs k.was p fit.rising k.there has (k.number ∙ number) in ap (λ (x : PairRecord). path_of old x) (sym same) ∙ k.path)
        | inr j ↦ (let lt : p.number < old.next_number = fit.below p has in let le : old.next_number ≤ after.number = j.above in absurd (let none : ⊥ = omega (arith, lt, le, number) in none))
      ] in
      let back : is_reverse via (path_of mid still.now) ≡ true = ap (is_reverse via) (still.path ∙ sym same_path) ∙ two.1 in
      let on_mid : keeps_check_on mid via m.id still.now ≡ true =
      ap (λ cs. list_any (has_id m.id) cs && is_reverse via (path_of mid still.now)) still.checks
      ∙ ap (λ b. b && is_reverse via (path_of mid still.now)) keeps ∙ back in
      subst (λ (a : AgentRecord H P). (p : PairRecord) × Has a.pairs p × (keeps_check_on a via m.id p ≡ true) × (is_valid p ≡ true)) (sym done)
      (still.now, still.there, on_mid, still.valid ∙ valid)

  pub success_top : (now : ℕ) (old new : AgentRecord H P) (via : Path) (m : Message) (emitted : Emitted) → FitOf old → HandlesSuccess now old via m emitted new → IsTopSelected new
  success_top now old new via m emitted fit (recorded, records_it, (path, mid, nominating, is_emitted, done)) =
      let o = records AllNumbers All1 All3 now old recorded via m fit (λ q d has_q on_q keeps same. tt) records_it in
      let again = forms_again AllNumbers All1 All3 recorded o.fit in
      let top : IsTopSelected mid = nominates_top (formed_again recorded) mid path again.fit.rising nominating in
      subst (λ (a : AgentRecord H P). IsTopSelected a) (sym done) top

  module _ (mac : H → List ℕ → List ℕ → List ℕ) (answers : P → CandidateRecord → ℕ → ℕ → Type 0) (old new : AgentRecord H P) (s t : Stream) (e : Entry) (sound : IsSound old) where
    fit : FitOf old
    fit = fit_of old sound

    -- the success response of a packet
    abbrev Succeeds : ℕ → Path → Message → Type 0
    Succeeds now via m = IsTopSelected new × ((p : PairRecord) × Has new.pairs p × (keeps_check_on new via m.id p ≡ true) × (is_valid p ≡ true))

    success : (now : ℕ) (via : Path) (bytes : List ℕ) → Step mac answers old s (ReceivePacket now via bytes) e new t
        → (at : ℕ) (by : Path) (m : Message) → Brings {P = P} (ReceivePacket now via bytes) e at by m → m.class ≡ class.Success → Succeeds now by m
    success now via bytes (inl (fault, has, is, made), drawn) at by m (at_is, by_is, reads, flag) ok =
        absurd (let no : Unparsed fault ≡ Flag true = sym (ap (λ (x : Entry). x.answer) is) ∙ flag in cc)
    success now via bytes (inr (n, reads_n, (Ok false, emitted, is, h)), drawn) at by m (at_is, by_is, reads, flag) ok =
        absurd (let no : Flag false ≡ Flag true = sym (ap (λ (x : Entry). x.answer) is) ∙ flag in cc)
    success now via bytes (inr (n, reads_n, (Err error, emitted, is, h)), drawn) at by m (at_is, by_is, reads, flag) ok =
        absurd (let no : Rejected error ≡ Flag true = sym (ap (λ (x : Entry). x.answer) is) ∙ flag in cc)
    success now via bytes (inr (n, reads_n, (Ok true, emitted, is, (accepted, (mid, takes, made)))), drawn) at by m (at_is, by_is, reads, flag) ok =
        let same : n ≡ m = reads_n.spelled ∙ sym reads.spelled in
        let k : HandlesSuccess now old via m emitted mid = subst (λ c. Takes mac c now old via m emitted mid) ok
        (subst (λ (x : Message). Takes mac x.class now old via x emitted mid) same takes) in
        let top : IsTopSelected mid = success_top now old mid via m emitted fit k in
        let taken = taken_by now old mid via m emitted sound fit k in (
          subst (λ (a : AgentRecord H P). IsTopSelected a) (sym made) top,
          subst (λ w. (p : PairRecord) × Has new.pairs p × (keeps_check_on new w m.id p ≡ true) × (is_valid p ≡ true)) by_is
              (subst (λ (a : AgentRecord H P). (p : PairRecord) × Has a.pairs p × (keeps_check_on a via m.id p ≡ true) × (is_valid p ≡ true)) (sym made)
              (taken.0, taken.1, taken.2, taken.3)),
        )

    pub takes_valid : (call : Call P) → Step mac answers old s call e new t → AnswersAreValid call e new
    takes_valid (ReceivePacket now via bytes) h at by m brings is = (success now via bytes h at by m brings is).1
    takes_valid _ h at by m brings is = absurd brings

    timeout_top : (now : ℕ) (emitted : Emitted) (o : Option RequestRecord) → request_at now old ≡ o → request_at now old ≡ None
        → MatchOption o (MaintainsPairs mac now (timeout_begun now old) s emitted new t) (λ q. ServesQueued mac q (at_request now (timeout_begun now old)) s emitted new t) → IsTopSelected new
    timeout_top now emitted None is none h = maintains_pairs_top mac now (timeout_begun now old) new s t emitted fit h
    timeout_top now emitted (Some q) is none h = absurd (let no : Some q ≡ None = sym is ∙ none in cc)

    timeout_point : (now : ℕ) (r : Result (Unit {0}) IceError) (emitted : Emitted) → e ≡ record { answer = answer_by done r; emitted = emitted } → TimesOut mac now old s r emitted new t
        → (e.answer ≡ Done) × (request_at now old ≡ None) → IsTopSelected new
    timeout_point now (Ok u) emitted is h (flag, none) = timeout_top now emitted (request_at now old) refl none h
    timeout_point now (Err error) emitted is h (flag, none) =
        absurd (let no : Rejected error ≡ Done = sym (ap (λ (x : Entry). x.answer) is) ∙ flag in cc)

    pub points_top : (call : Call P) → Step mac answers old s call e new t → IsNominationPoint old call e → IsTopSelected new
    points_top (ReceivePacket now via bytes) h (at, by, m, brings, is) = (success now via bytes h at by m brings is).0
    points_top (HandleTimeout now) (r, emitted, is, h) point = timeout_point now r emitted is h point
    points_top call h point = absurd point.3
