-- A `handle_timeout` call checks the pair that is due first, or another one that is due and goes ahead, and leaves the others due as
-- they were.
use Rattle.is_stun.specs.declared.header.Class.TheVariants as class
use Rattle.is_theorems.proofs.Common.{◌<◌, ◌||◌, ◌∙◌, ◌≡◌, ◌≤◌, ◌⊎◌, AgentRecord, all_scheduled, all_heard, ap, are_kinds_in_turn, arith, scheduled}
use Rattle.is_theorems.proofs.Common.{at_timeout, base_of, Bool, candidate_at, CandidateRecord, change_at, change_pair, check_sent, checked}
use Rattle.is_theorems.proofs.Common.{ChecksInTurn, ChecksNext, ChecksOn, CheckState, ChecksTop, computed_due_time, due_by, due_time_of}
use Rattle.is_theorems.proofs.Common.{Emitted, eqb-true, false, fewer-due, filter, GoesBefore, Has, has_first, IceCreds, if◌then◌else◌, inl}
use Rattle.is_theorems.proofs.Common.{InProgress, inr, is_ahead_turn, is_due, is_due_by, is_modern, is_numbered, is_some, is_valid}
use Rattle.is_theorems.proofs.Common.{is_valid_state, IsGone, IsNextToCheck, IsPaced, Issued, issued_as, later, length, List}
use Rattle.is_theorems.proofs.Common.{MaintainsPairs, map, MatchBool, MAX, MayCheck, min, nat_le, nat_tests, no-more, Nominates}
use Rattle.is_theorems.proofs.Common.{nominates_at_once, None, none_pass, not, Option, PairRecord, Path, path_left, path_of, refl}
use Rattle.is_theorems.proofs.Common.{RemovesExpired, Some, state_once_sent, Stream, StunTiming, subst, Succeeded, sym, true, unwrap_or}
use Rattle.is_theorems.proofs.Common.{Waiting, ℕ}
use Rattle.is_theorems.proofs.RuleEffects.ChangedPairs.{Has-map}
use Rattle.is_theorems.proofs.RuleEffects.HastenedPairs.{due_next}
use Rattle.is_theorems.proofs.CallEffects.ServedRequests.{Has-mapped}
use Rattle.is_theorems.proofs.BasicLemmas.PairsInTurn.{by-begins, next-has, none-is-due, none-at-once, next-in-turn, pairs-checked}
use Rattle.is_theorems.proofs.BasicLemmas.PairsInTurn.{pairs-sent, sent_at}
use Rattle.is_theorems.proofs.DuePairs.ChecksAhead.{Falls, falls-from, is-turn, no-more-due}
use Rattle.is_theorems.proofs.DuePairs.AfterNominationAndRemoval.{Distinct, Akin, Thinned, is_fixed_by, Base, Thins, base_of as agent_base}
use Rattle.is_theorems.proofs.DuePairs.AfterNominationAndRemoval.{turns-by, thins-on, names-thins, expires-thins}

-- ---- pairs

-- with the same indices
pub record Matches (p q : PairRecord) : Type 0 where
  pub number : q.number ≡ p.number
  pub local : q.local ≡ p.local
  pub remote : q.remote ≡ p.remote
  pub valid : is_valid q ≡ is_valid p

pub matches-on : (p q r : PairRecord) → Matches p q → Matches q r → Matches p r
matches-on p q r a b = record { number = b.number ∙ a.number; local = b.local ∙ a.local; remote = b.remote ∙ a.remote; valid = b.valid ∙ a.valid }

akin-matches : (to : ℕ) (p q : PairRecord) → Akin to p q → Matches p q
akin-matches to p q a = record { number = a.number; local = a.local; remote = a.remote; valid = a.valid }

-- all due times are fixed
abbrev pub AllAsked : List PairRecord → Type 0
AllAsked ps = (p : PairRecord) → Has ps p → is_some p.due ≡ true

scheduled-on : (to : ℕ) (xs ys : List PairRecord) → Thinned to xs ys → AllAsked xs → AllAsked ys
scheduled-on to xs ys t all q has = let o = t.back q has in o.2.fixed ∙ all o.0 o.1

pub fixed-is : (o : Option ℕ) (x : ℕ) → is_some o ≡ true → unwrap_or o x ≡ unwrap_or o 0
fixed-is None x is = absurd (cc)
fixed-is (Some e) x is = refl

-- a pair is due at the time that is fixed
pub due-at : (now d : ℕ) (t : StunTiming) (p : PairRecord) → p.due ≡ Some d → due_time_of now t p ≡ d
due-at now d t p is = ap (λ o. unwrap_or o (min (computed_due_time p.nomination now t p) (later now t.max_rto.0))) is

pub le-is : (n m : ℕ) → n ≤ m → nat_le n m ≡ true
le-is n m h = grind (arith, nat_tests, h)

pub le-from : (n m : ℕ) → nat_le n m ≡ true → n ≤ m
le-from n m h = grind (arith, nat_tests, h)

sent-valid : (state : CheckState) → is_valid_state (state_once_sent state) ≡ is_valid_state state
sent-valid Waiting = refl
sent-valid InProgress = refl
sent-valid Succeeded = refl

-- the pairs of a list that matches another one
pub record Follows (old new : List PairRecord) : Type 0 where
  pub distinct : Distinct old → Distinct new
  pub back : (q : PairRecord) → Has new q → (p : PairRecord) × Has old p × Matches p q

pub follows-on : (xs ys zs : List PairRecord) → Follows xs ys → Follows ys zs → Follows xs zs
follows-on xs ys zs a b = record {
  distinct = λ d. b.distinct (a.distinct d);
  back = λ r has. (let o = b.back r has in let n = a.back o.0 o.1 in (n.0, n.1, matches-on n.0 o.0 r n.2 o.2));
}

pub follows-same : (ps : List PairRecord) → Follows ps ps
follows-same ps = record { distinct = λ d. d; back = λ q has. (q, has, record { number = refl; local = refl; remote = refl; valid = refl }) }

pub follows-map : (f : PairRecord → PairRecord) (ps : List PairRecord) → ((p : PairRecord) → Matches p (f p)) → Follows ps (map f ps)
follows-map f ps matches = record {
  distinct = λ d x y has_x has_y same.
      (let a = Has-map f ps x has_x in let b = Has-map f ps y has_y in
      let one : a.0 ≡ b.0 = d a.0 b.0 a.1 b.1 (sym (matches a.0).number ∙ (ap (λ (p : PairRecord). p.number) a.2 ∙ (same ∙ (ap (λ (p : PairRecord). p.number) (sym b.2) ∙ (matches b.0).number)))) in
      sym a.2 ∙ (ap f one ∙ b.2));
  back = λ q has. (let o = Has-map f ps q has in (o.0, o.1, subst (λ (x : PairRecord). Matches o.0 x) o.2 (matches o.0)));
}

pub thinned-follows : (to : ℕ) (xs ys : List PairRecord) → Thinned to xs ys → Follows xs ys
thinned-follows to xs ys t = record {
  distinct = t.distinct;
  back = λ q has. (let o = t.back q has in (o.0, o.1, akin-matches to o.0 q o.2));
}

pub gone-follows : (xs ys : List PairRecord) (n : ℕ) → Follows xs ys → IsGone n xs → IsGone n ys
gone-follows xs ys n f gone q has = let o = f.back q has in let apart = gone o.0 o.1 in λ same. apart (sym o.2.number ∙ same)

-- ---- paths

abbrev via : List CandidateRecord → List CandidateRecord → ℕ → ℕ → Path
via local remote l r = record {
  proto = (candidate_at local l).proto;
  source = base_of (candidate_at local l);
  destination = (candidate_at remote r).addr;
}

module _ {H P : Type 0} where
  -- at a check no nomination is to be sent at once
  abbrev pub NoneAtCheck : ℕ → AgentRecord H P → Type 0
  NoneAtCheck now a = nominates_at_once (all_scheduled now a) ≡ false

  -- at the check of a `handle_timeout` call, once nomination was evaluated
  abbrev pub NoneAtOnce : ℕ → AgentRecord H P → Type 0
  NoneAtOnce now old =
      (first second : Option Path) (named kept : AgentRecord H P) → Nominates (path_left now (at_timeout now old)) first named → RemovesExpired now named second kept → NoneAtCheck now kept

  pub same-path : (a b : AgentRecord H P) (p q : PairRecord) → b.local ≡ a.local → b.remote ≡ a.remote → Matches p q → path_of b q ≡ path_of a p
  same-path a b p q locals remotes m =
      ap (λ cs. via cs b.remote q.local q.remote) locals
      ∙ (ap (λ cs. via a.local cs q.local q.remote) remotes
      ∙ (ap (λ i. via a.local a.remote i q.remote) m.local ∙ ap (λ i. via a.local a.remote p.local i) m.remote))

  module _ (mac : H → List ℕ → List ℕ → List ℕ) where
    -- ---- the check

    pub next-check : (now : ℕ) (remote : Option IceCreds) (old new : AgentRecord H P) (s t : Stream) (issued : Option Issued) → is_some remote ≡ true → old.lite ≡ false
        → MayCheck mac now remote old s issued new t
        → (peer : IceCreds) × (next : Option PairRecord) × IsNextToCheck now (all_scheduled now old) next × ChecksTop mac now peer next (all_scheduled now old) s issued new t
    next-check now None old new s t issued known full h = absurd (cc)
    next-check now (Some peer) old new s t issued known full h =
        let k : ChecksNext mac now peer (all_scheduled now old) s issued new t =
        subst (λ b. MatchBool b ((issued ≡ None) × (new ≡ all_heard now old) × (t ≡ s)) (ChecksNext mac now peer (all_scheduled now old) s issued new t)) full h in
        (peer, k.0, k.1, k.2)

    pub check-follows : (now : ℕ) (remote : Option IceCreds) (old new : AgentRecord H P) (s t : Stream) (issued : Option Issued) → is_some remote ≡ true → old.lite ≡ false
        → MayCheck mac now remote old s issued new t → (agent_base new ≡ record (agent_base old) { ahead_turn = new.ahead_turn }) × Follows old.pairs new.pairs
    check-follows now remote old new s t issued known full h = let k = next-check now remote old new s t issued known full h in by-next k.0 k.1 k.3 where
      by-next : (peer : IceCreds) (next : Option PairRecord) → ChecksTop mac now peer next (all_scheduled now old) s issued new t
          → (agent_base new ≡ record (agent_base old) { ahead_turn = new.ahead_turn }) × Follows old.pairs new.pairs
      by-next peer None (is, made, drawn) = (
        subst (λ (a : AgentRecord H P). agent_base a ≡ record (agent_base old) { ahead_turn = a.ahead_turn }) (sym made) refl,
        subst (λ ps. Follows old.pairs ps) (sym (ap (λ (a : AgentRecord H P). a.pairs) made))
            (follows-map (scheduled now old.timing) old.pairs (λ p. record { number = refl; local = refl; remote = refl; valid = refl })),
      )
      by-next peer (Some q) (id, drawn, values, is, made) = (
        subst (λ (a : AgentRecord H P). agent_base a ≡ record (agent_base old) { ahead_turn = a.ahead_turn }) (sym made) refl,
        subst (λ ps. Follows old.pairs ps) (sym (pairs-sent mac now peer q id (all_scheduled now old) new made))
            (follows-on old.pairs (map (scheduled now old.timing) old.pairs) (change_pair q.number (sent_at begins now old.timing old.controlling id) (map (scheduled now old.timing) old.pairs))
            (follows-map (scheduled now old.timing) old.pairs (λ p. record { number = refl; local = refl; remote = refl; valid = refl }))
            (follows-map (change_at q.number (sent_at begins now old.timing old.controlling id)) (map (scheduled now old.timing) old.pairs) (λ p. once p (is_numbered q.number p)))),
      ) where
        begins : Bool
        begins = nominates_at_once (all_scheduled now old)

        once : (p : PairRecord) (b : Bool) → Matches p (if b then sent_at begins now old.timing old.controlling id p else p)
        once p true = by-begins begins (λ x. Matches p x) now old.timing old.controlling id p
            (record { number = refl; local = refl; remote = refl; valid = sent-valid p.state }) (record { number = refl; local = refl; remote = refl; valid = sent-valid p.state })
        once p false = record { number = refl; local = refl; remote = refl; valid = refl }

    -- a pair still waits, due as it was, and fewer than n go before it, or a check went ahead, if the check is in turn
    abbrev pub WaitsOn : Type 0 → ℕ → ℕ → ℕ → AgentRecord H P → AgentRecord H P → PairRecord → Type 0
    WaitsOn InTurn now by n old new p =
        (q : PairRecord) × Has new.pairs q × Matches p q × (q.checks ≡ p.checks) × ((at : ℕ) → due_time_of at old.timing q ≤ by)
        × (InTurn → IsPaced old.timing → now < MAX → Falls (is_modern old.timing) old.ahead_turn new.ahead_turn n (length (due_by by now old.timing new.pairs)))

    -- a pair is checked: this one, or one before it, or another one that goes ahead
    abbrev pub Checked : ℕ → ℕ → ℕ → AgentRecord H P → Option Issued → AgentRecord H P → PairRecord → Type 0
    Checked now by n old issued new p =
        (o : PairRecord) × Has old.pairs o × ((id : List ℕ) × (issued ≡ Some (issued_as (path_of old o) class.Request id)))
        × ((o ≡ p) ⊎ WaitsOn (NoneAtCheck now old) now by n old new p)

    module _ (now by n : ℕ) (old : AgentRecord H P) (distinct : Distinct old.pairs) (from : by ≤ now)
        (p : PairRecord) (has : Has old.pairs p) (own-due : due_time_of now old.timing p ≤ by)
        (count-asked : length (due_by by now old.timing (map (scheduled now old.timing) old.pairs)) ≤ n) where
      first-due : (x y : ℕ) (q : PairRecord) → (x < y) ⊎ ((x ≡ y) × (p.priority ≤ q.priority)) → y ≤ by → x ≤ by
      first-due x y q (inl less) le = omega (arith, less, le)
      first-due x y q (inr same) le = let e = same.0 in omega (arith, e, le)

      -- the pair itself is checked, or it stays as it is
      by-number : (new : AgentRecord H P) (s t : Stream) (issued : Option Issued) (peer : IceCreds) (q : PairRecord) (id : List ℕ)
          → new ≡ check_sent mac now peer q id (all_scheduled now old) → (o : PairRecord) → Has old.pairs o → o.number ≡ q.number
          → (b : Bool) → is_numbered q.number (scheduled now old.timing p) ≡ b
          → (NoneAtCheck now old → IsPaced old.timing → now < MAX
          → Falls (is_modern old.timing) old.ahead_turn new.ahead_turn n
          (length (due_by by now old.timing (change_pair q.number (checked now old.timing old.controlling id) (map (scheduled now old.timing) old.pairs)))))
          → (o ≡ p) ⊎ WaitsOn (NoneAtCheck now old) now by n old new p
      by-number new s t issued peer q id made o there same true is fewer =
          inl (distinct o p there has (same ∙ sym (eqb-true p.number q.number is)))
      by-number new s t issued peer q id made o there same false is fewer =
          let change : PairRecord → PairRecord = sent_at (nominates_at_once (all_scheduled now old)) now old.timing old.controlling id in
          let in_new : Has new.pairs (change_at q.number change (scheduled now old.timing p)) =
          subst (λ ps. Has ps (change_at q.number change (scheduled now old.timing p))) (sym (pairs-sent mac now peer q id (all_scheduled now old) new made))
          (Has-mapped (change_at q.number change) (map (scheduled now old.timing) old.pairs) (scheduled now old.timing p)
          (Has-mapped (scheduled now old.timing) old.pairs p has)) in
          inr (
            scheduled now old.timing p,
            subst (λ b. Has new.pairs (if b then change (scheduled now old.timing p) else scheduled now old.timing p)) is in_new,
            record { number = refl; local = refl; remote = refl; valid = refl },
            refl,
            (λ at. own-due),
            (λ turn paced early. subst (λ ps. Falls (is_modern old.timing) old.ahead_turn new.ahead_turn n (length (due_by by now old.timing ps)))
                (sym (pairs-checked mac now peer q id (all_scheduled now old) new turn made)) (fewer turn paced early)),
          )

      by-next : (new : AgentRecord H P) (s t : Stream) (issued : Option Issued) (peer : IceCreds) (next : Option PairRecord)
          → IsNextToCheck now (all_scheduled now old) next → ChecksTop mac now peer next (all_scheduled now old) s issued new t → Checked now by n old issued new p
      by-next new s t issued peer None chosen h =
          let it : is_due now old.timing (scheduled now old.timing p) ≡ true = le-is (due_time_of now old.timing p) now (let d = own-due in omega (arith, d, from)) in
          absurd (none_pass (is_due now old.timing) (map (scheduled now old.timing) old.pairs) (scheduled now old.timing p) (none-is-due now (all_scheduled now old) chosen)
          (Has-mapped (scheduled now old.timing) old.pairs p has) it)
      by-next new s t issued peer (Some q) chosen (id, drawn, values, is, made) =
          let there : Has (map (scheduled now old.timing) old.pairs) q = next-has now (all_scheduled now old) q chosen in
          let o = Has-map (scheduled now old.timing) old.pairs q there in (
            o.0,
            o.1,
            (id, is ∙ ap (λ (x : PairRecord). Some (issued_as (path_of old x) class.Request id)) (sym o.2)),
            by-number new s t issued peer q id made o.0 o.1 (ap (λ (x : PairRecord). x.number) o.2) (is_numbered q.number (scheduled now old.timing p)) refl
                (λ turn paced early. fewer there turn paced early (is_ahead_turn now (all_scheduled now old)) refl),
          ) where
            fewer : Has (map (scheduled now old.timing) old.pairs) q → NoneAtCheck now old → IsPaced old.timing → now < MAX → (b : Bool) → is_ahead_turn now (all_scheduled now old) ≡ b
                → Falls (is_modern old.timing) old.ahead_turn new.ahead_turn n
                (length (due_by by now old.timing (change_pair q.number (checked now old.timing old.controlling id) (map (scheduled now old.timing) old.pairs))))
            fewer there calm paced early true on =
                let turn = is-turn (is_modern old.timing) old.ahead_turn (are_kinds_in_turn (all_scheduled now old) || has_first now (all_scheduled now old)) on in
                let le = no-more-due now by old.timing old.controlling id paced early from q.number (map (scheduled now old.timing) old.pairs) in
                let counted = count-asked in
                inr (omega (arith, le, counted), turn.0, turn.1, ap (λ (a : AgentRecord H P). a.ahead_turn) made ∙ ap not on)
            fewer there calm paced early false off =
                let next = next-in-turn now (all_scheduled now old) (Some q) calm off chosen in
                let before : GoesBefore now old.timing q (scheduled now old.timing p) = next.0.1 (scheduled now old.timing p) (Has-mapped (scheduled now old.timing) old.pairs p has) in
                let q_due : due_time_of now old.timing q ≤ by = first-due (due_time_of now old.timing q) (due_time_of now old.timing p) q before own-due in
                let drop = fewer-due now by old.timing old.controlling id paced early from (map (scheduled now old.timing) old.pairs) q there (le-is (due_time_of now old.timing q) by q_due) in
                let counted = count-asked in
                inl (omega (arith, drop, counted))

      pub check-moves : (new : AgentRecord H P) (s t : Stream) (issued : Option Issued) (remote : Option IceCreds) → is_some remote ≡ true → old.lite ≡ false
          → MayCheck mac now remote old s issued new t → Checked now by n old issued new p
      check-moves new s t issued remote known full h = let k = next-check now remote old new s t issued known full h in by-next new s t issued k.0 k.1 k.2 k.3

    -- ---- the `handle_timeout` call

    -- it removes the pair, or checks one
    pub record Moved (now by : ℕ) (old : AgentRecord H P) (emitted : Emitted) (new : AgentRecord H P) (p : PairRecord) : Type 0 where
      pub base : agent_base new ≡ record (agent_base old) { last_time = Some now; ahead_turn = new.ahead_turn }
      pub follows : Follows old.pairs new.pairs
      pub does : IsGone p.number new.pairs ⊎ ((o : PairRecord) × Has old.pairs o × ChecksOn old emitted o × ((o ≡ p) ⊎ WaitsOn (ChecksInTurn old) now by (length (filter (is_fixed_by by) old.pairs)) old new p))

    -- what it leaves, for any pair
    pub timeout-follows : (now : ℕ) (old new : AgentRecord H P) (s t : Stream) (emitted : Emitted) → is_some old.remote_creds ≡ true → old.lite ≡ false
        → MaintainsPairs mac now old s emitted new t → (agent_base new ≡ record (agent_base old) { last_time = Some now; ahead_turn = new.ahead_turn }) × Follows old.pairs new.pairs
    timeout-follows now old new s t emitted known full (first, second, issued, named, kept, nominating, giving, checking, is) =
        let a = names-thins now (at_timeout now old) named first nominating in
        let b = expires-thins (due_next now) now named kept second giving in
        let c = thins-on (due_next now) (at_timeout now old) named kept a b in
        let known_kept : is_some kept.remote_creds ≡ true = ap (λ (x : Base). is_some x.remote_creds) c.0 ∙ known in
        let full_kept : kept.lite ≡ false = ap (λ (x : Base). x.lite) c.0 ∙ full in
        let d = check-follows now kept.remote_creds kept new s t issued known_kept full_kept checking in
        (d.0 ∙ ap (λ (x : Base). record x { ahead_turn = new.ahead_turn }) c.0, follows-on old.pairs kept.pairs new.pairs (thinned-follows (due_next now) old.pairs kept.pairs c.1) d.1)

    fixed-due : (now by : ℕ) (a : AgentRecord H P) (p : PairRecord) → is_some p.due ≡ true → unwrap_or p.due 0 ≤ by → due_time_of now a.timing p ≤ by
    fixed-due now by a p fixed due = subst (λ n. n ≤ by) (sym (fixed-is p.due _ fixed)) due

    fixed-count : (now by : ℕ) (a : AgentRecord H P) → AllAsked a.pairs → length (due_by by now a.timing (map (scheduled now a.timing) a.pairs)) ≤ length (filter (is_fixed_by by) a.pairs)
    fixed-count now by a all = no-more (is_fixed_by by) (is_due_by by now a.timing) (scheduled now a.timing) a.pairs
        (λ q there is. ap (λ n. nat_le n by) (sym (fixed-is q.due _ (all q there))) ∙ is)

    pub timeout-moves : (now by : ℕ) (old new : AgentRecord H P) (s t : Stream) (emitted : Emitted) → is_some old.remote_creds ≡ true → old.lite ≡ false
        → Distinct old.pairs → AllAsked old.pairs → by ≤ now → (p : PairRecord) → Has old.pairs p → unwrap_or p.due 0 ≤ by
        → MaintainsPairs mac now old s emitted new t → Moved now by old emitted new p
    timeout-moves now by old new s t emitted known full distinct all from p has due (first, second, issued, named, kept, nominating, giving, checking, is) =
        let a = names-thins now (at_timeout now old) named first nominating in
        let b = expires-thins (due_next now) now named kept second giving in
        let c = thins-on (due_next now) (at_timeout now old) named kept a b in
        let known_kept : is_some kept.remote_creds ≡ true = ap (λ (x : Base). is_some x.remote_creds) c.0 ∙ known in
        let full_kept : kept.lite ≡ false = ap (λ (x : Base). x.lite) c.0 ∙ full in
        let timing : kept.timing ≡ old.timing = ap (λ (x : Base). x.timing) c.0 in
        let d = check-follows now kept.remote_creds kept new s t issued known_kept full_kept checking in
        record {
          base = d.0 ∙ ap (λ (x : Base). record x { ahead_turn = new.ahead_turn }) c.0;
          follows = follows-on old.pairs kept.pairs new.pairs (thinned-follows (due_next now) old.pairs kept.pairs c.1) d.1;
          does = elim (c.1.forth distinct p has) [
            | inr gone ↦ inl (gone-follows kept.pairs new.pairs p.number d.1 gone)
            | inl k ↦
                inr (on-kept now by old kept new s t emitted issued c timing from distinct p has k
                (check-moves now by (length (filter (is_fixed_by by) kept.pairs)) kept (c.1.distinct distinct) from k.0 k.1
                (fixed-due now by kept k.0 (scheduled-on (due_next now) old.pairs kept.pairs c.1 all k.0 k.1) (let sooner = k.2.sooner in omega (arith, sooner, due)))
                (fixed-count now by kept (scheduled-on (due_next now) old.pairs kept.pairs c.1 all)) new s t issued kept.remote_creds known_kept full_kept checking)
                (ap (λ (x : Emitted). x.issued) is))
          ];
        } where
          on-kept : (now by : ℕ) (old kept new : AgentRecord H P) (s t : Stream) (emitted : Emitted) (issued : Option Issued) → Thins (due_next now) (at_timeout now old) kept → kept.timing ≡ old.timing
              → by ≤ now → Distinct old.pairs → (p : PairRecord) → Has old.pairs p → (k : (q : PairRecord) × Has kept.pairs q × Akin (due_next now) p q) → Checked now by (length (filter (is_fixed_by by) kept.pairs)) kept issued new k.0 → emitted.issued ≡ issued
              → (o : PairRecord) × Has old.pairs o × ChecksOn old emitted o × ((o ≡ p) ⊎ WaitsOn (ChecksInTurn old) now by (length (filter (is_fixed_by by) old.pairs)) old new p)
          on-kept now by old kept new s t emitted issued c timing from distinct p has (q, there, akin) (n, n_there, (id, out), which) issues =
              let o = c.1.back n n_there in (
                o.0,
                o.1,
                (
                  id,
                  issues ∙ (out ∙ ap (λ w. Some (issued_as w class.Request id))
                      (same-path old kept o.0 n (ap (λ (x : Base). x.local) c.0) (ap (λ (x : Base). x.remote) c.0) (akin-matches (due_next now) o.0 n o.2))),
                ),
                elim which [
                  | inl same ↦ inl (distinct o.0 p o.1 has (sym o.2.number ∙ (ap (λ (x : PairRecord). x.number) same ∙ akin.number)))
                  | inr (r, r_there, matches, checks, r_due, fewer) ↦
                      (let fewer_old : ChecksInTurn old → IsPaced kept.timing → now < MAX
                      → Falls (is_modern old.timing) old.ahead_turn new.ahead_turn (length (filter (is_fixed_by by) old.pairs)) (length (due_by by now kept.timing new.pairs)) =
                      λ turn paced early. falls-from (is_modern kept.timing) (is_modern old.timing) kept.ahead_turn old.ahead_turn new.ahead_turn
                      (length (filter (is_fixed_by by) kept.pairs)) (length (filter (is_fixed_by by) old.pairs)) (length (due_by by now kept.timing new.pairs))
                      (ap (λ (x : Base). is_modern x.timing) (sym c.0)) (ap (λ (x : Base). x.ahead_turn) (sym c.0)) (c.1.fewer by (omega (arith, from))) (fewer (none-at-once now (all_scheduled now kept) (turns-by (agent_base (at_timeout now old)) kept c.0 turn)) paced early) in
                      inr (
                        r,
                        r_there,
                        matches-on p q r (akin-matches (due_next now) p q akin) matches,
                        checks ∙ akin.checks,
                        (λ at. subst (λ (x : StunTiming). due_time_of at x r ≤ by) timing (r_due at)),
                        subst (λ (x : StunTiming). ChecksInTurn old → IsPaced x → now < MAX
                            → Falls (is_modern old.timing) old.ahead_turn new.ahead_turn (length (filter (is_fixed_by by) old.pairs)) (length (due_by by now x new.pairs))) timing fewer_old,
                      ))
                ],
              )
