-- Pairs that become due at a time: removing pairs, hastening others then, and fixing due times add none.
use Rattle.std.proofs.Common.{ap, if◌then◌else◌, ◌≡◌, ℕ, ◌+◌, ◌&&◌, ◌||◌, Bool, true, false, not, nat_le, min, List, [], ◌∷◌, map, Option, Some, None, is_some, unwrap_or, option_map, MatchBool, subst, sym, refl, arith}
use Rattle.std.specs.Prelude.{MatchOption}
use Rattle.std.specs.List.{list_any}
use Rattle.std.proofs.lemmas.Bool.{eq-eqb}
use Rattle.std.proofs.lemmas.Bool.Decides.{nat_tests}
use Rattle.is_proto.specs.Lists.{Has}
use Rattle.is_stun.specs.declared.timing.StunTiming.{StunTiming}
use Rattle.is_pair.specs.declared.pair.silence.Span.{Span}
use Rattle.is_pair.specs.Pairs.{PairRecord}
use Rattle.is_pair.specs.Due.{scheduled, is_due, moved_up, IsNextDue}
use Rattle.is_pair.specs.Silence.{silence_until}
use Rattle.is_pair.specs.Multiset.{without, has_number, is_numbered, pair_numbered, rises}
use Rattle.rand_core.specs.Stream.{Stream}
use Rattle.is_rules.specs.declared.credentials.IceCreds.{IceCreds}
use Rattle.is_rules.specs.declared.emitted.Issued.{Issued}
use Rattle.is_rules.specs.Agent.{AgentRecord}
use Rattle.is_rules.specs.Checking.{all_scheduled, all_heard, is_ahead_turn, GoesAhead, IsNextInTurn, IsNextToCheck, ChecksNext, MayCheck}
use Rattle.is_rules.specs.Connecting.{is_connected}
use Rattle.is_rules.specs.Due.{awaits_nomination, falls_due, may_nominate}
use Rattle.is_rules.specs.Leaving.{has_urgent, hastened, late_since, IsAskedAlong, IsAskedNext}
use Rattle.is_rules.specs.Nominating.{nominates_at_once, numbers, pair_selected}
use Rattle.is_rules.proofs.PairLists.PairsByNumber.{numbered-found}
use Rattle.is_agent.proofs.AgentParts.PairsByNumber.{find-Some, has-any}

or-right : (a b : Bool) → b ≡ true → a || b ≡ true
or-right true b h = refl
or-right false b h = h

pub falls-left : (test gone : PairRecord → Bool) (ps : List PairRecord) → list_any test (without gone ps) ≡ true → list_any test ps ≡ true
falls-left test gone [] none = none
falls-left test gone (p ∷ ps) h =
    elim (gone p) as (λ b. list_any test (if not b then p ∷ without gone ps else without gone ps) ≡ true → (test p || list_any test ps) ≡ true) [
      | true ↦ λ k. or-right (test p) (list_any test ps) (falls-left test gone ps k)
      | false ↦ λ k. elim (test p) as (λ b. (b || list_any test (without gone ps)) ≡ true → (b || list_any test ps) ≡ true) [
        | true ↦ λ _. refl
        | false ↦ λ l. falls-left test gone ps l
      ] k
    ] h

pub falls-scheduled : (controlling : Bool) (now : ℕ) (t : StunTiming) (ps : List PairRecord) → list_any (is_due now t) (map (scheduled now t) ps) ≡ true
    → list_any (falls_due controlling now t) ps ≡ true
falls-scheduled controlling now t [] none = none
falls-scheduled controlling now t (p ∷ ps) h =
    elim (is_due now t p) as (λ b. (b || list_any (is_due now t) (map (scheduled now t) ps)) ≡ true
    → ((b || (not (is_some p.due) && awaits_nomination controlling p)) || list_any (falls_due controlling now t) ps) ≡ true) [
      | true ↦ λ _. refl
      | false ↦ λ k. or-right (not (is_some p.due) && awaits_nomination controlling p) (list_any (falls_due controlling now t) ps) (falls-scheduled controlling now t ps k)
    ] h

-- the facts are replaced by weaker ones
pub or-both : (a b c d : Bool) → (a ≡ true → c ≡ true) → (b ≡ true → d ≡ true) → a || b ≡ true → c || d ≡ true
or-both true b c d one other h = rw (one refl) refl
or-both false b c d one other h = or-right c d (other h)

-- A pair that is hastened at a time falls due at that time only if it did before.
pub falls-hastened : (test : PairRecord → Bool) (controlling : Bool) (now : ℕ) (t : StunTiming) (ps : List PairRecord)
    → list_any (falls_due controlling now t) (map (hastened test now) ps) ≡ true → list_any (falls_due controlling now t) ps ≡ true
falls-hastened test controlling now t [] none = none
falls-hastened test controlling now t (p ∷ ps) h =
    or-both (falls_due controlling now t (hastened test now p)) (list_any (falls_due controlling now t) (map (hastened test now) ps))
    (falls_due controlling now t p) (list_any (falls_due controlling now t) ps) (by (test p)) (falls-hastened test controlling now t ps) h where
      later-still : (d : ℕ) → nat_le (min (now + 1) d) now ≡ nat_le d now
      later-still d = grind (arith, nat_tests)

      either : (due : Option ℕ) (x y : ℕ) (a b : Bool) → is_some due ≡ true
          → nat_le (unwrap_or (option_map (min (now + 1)) due) x) now || (not (is_some (option_map (min (now + 1)) due)) && a) ≡ true
          → nat_le (unwrap_or due y) now || (not (is_some due) && b) ≡ true
      either None x y a b some falls = absurd (cc)
      either (Some d) x y a b some falls = subst (λ due. due || false ≡ true) (later-still d) falls

      unmoved : (due : Option ℕ) → is_some due ≡ false → option_map (min (now + 1)) due ≡ due
      unmoved None none = refl
      unmoved (Some d) none = absurd (cc)

      moved : (fixed : Bool) → is_some p.due ≡ fixed → falls_due controlling now t (moved_up (now + 1) p) ≡ true → falls_due controlling now t p ≡ true
      moved true is falls = either p.due _ _ _ _ is falls
      moved false is falls = subst (λ (x : PairRecord). falls_due controlling now t x ≡ true) (ap (λ (o : Option ℕ). record p { due = o }) (unmoved p.due is)) falls

      by : (b : Bool) → falls_due controlling now t (if b then moved_up (now + 1) p else p) ≡ true → falls_due controlling now t p ≡ true
      by true falls = moved (is_some p.due) refl falls
      by false falls = falls

-- a nomination that is due at once may be due
pub nominates-may : {H P : Type 0} (a : AgentRecord H P) → nominates_at_once a ≡ true → may_nominate a ≡ true
nominates-may a h = by a.controlling (not a.lite) (numbers a) h where
  by : (c l n : Bool) → c && l && n && a.nomination_due && is_some (pair_selected a.selected_pair a.pairs) ≡ true → c && l && n ≡ true
  by true true true h = refl
  by true true false h = h
  by true false n h = h
  by false l n h = h

-- the second of two facts is replaced by a weaker one
pub or-second : (a b c : Bool) → (c ≡ true → b ≡ true) → a || c ≡ true → a || b ≡ true
or-second true b c weaker h = refl
or-second false b c weaker h = weaker h

-- the last of three facts is replaced by a weaker one
pub and-third : (a b c d : Bool) → (d ≡ true → c ≡ true) → a && b && d ≡ true → a && b && c ≡ true
and-third true true c d weaker h = weaker h
and-third true false c d weaker h = h
and-third false b c d weaker h = h

pub all-three : (a b c : Bool) → a ≡ true → b ≡ true → c ≡ true → a && b && c ≡ true
all-three a b c x y z = rw (x, y) z

-- the pair with the selected number is in the list
pub selected-has : (number : Option ℕ) (ps : List PairRecord) (p : PairRecord) → Some p ≡ pair_selected number ps → Has ps p
selected-has None ps p is = absurd (cc)
selected-has (Some n) ps p is = (find-Some (is_numbered n) ps p (sym is)).0

module _ {H P : Type 0} (a : AgentRecord H P) (now : ℕ) (p : PairRecord) where
  -- the pair is in the list, and there is one that is due
  abbrev IsThere : Type 0
  IsThere = Has a.pairs p × (list_any (is_due now a.timing) a.pairs ≡ true)

  since-due : (a b c : Bool) (o : Option Span) (silence : Span) → (if a && b && not c then o else None) ≡ Some silence → b ≡ true
  since-due a true c o silence is = refl
  since-due true false c o silence is = absurd (cc)
  since-due false false c o silence is = absurd (cc)

  -- A pair that is asked along is in the list, and the selected one is due.
  along-is-there : IsAskedAlong now a (Some p) → IsThere
  along-is-there along = by-selected (pair_selected a.selected_pair a.pairs) refl along where
    by-silence : (q : PairRecord) → Has a.pairs q → (o : Option Span) → late_since now a q ≡ o
        → MatchOption o (Some p ≡ None) (λ silence. IsAskedNext q.number silence a.pairs (Some p)) → IsThere
    by-silence q has None since is = absurd (cc)
    by-silence q has (Some silence) since (there, asked, first) = (
      there,
      has-any (is_due now a.timing) a.pairs q has
          (since-due (is_connected a.state) (is_due now a.timing q) (has_urgent now a) (silence_until now q.checks) silence since),
    )

    by-selected : (o : Option PairRecord) → o ≡ pair_selected a.selected_pair a.pairs
        → MatchOption o (Some p ≡ None) (λ q. MatchOption (late_since now a q) (Some p ≡ None) (λ silence. IsAskedNext q.number silence a.pairs (Some p))) → IsThere
    by-selected None is none = absurd (cc)
    by-selected (Some q) is asked = by-silence q (selected-has a.selected_pair a.pairs q is) (late_since now a q) refl asked

  ahead-is-there : GoesAhead now a (Some p) → IsThere
  ahead-is-there (None, along, (has, due, first)) = (has, has-any (is_due now a.timing) a.pairs p has due)
  ahead-is-there (Some q, along, same) = along-is-there (subst (λ o. IsAskedAlong now a o) (sym same) along)

  -- so is the pair that is checked in its turn
  turn-is-there : IsNextInTurn now a (Some p) → IsThere
  turn-is-there turn = by (is_ahead_turn now a) turn where
    by : (b : Bool) → MatchBool b (GoesAhead now a (Some p)) (IsNextDue now a.timing a.pairs (Some p)) → IsThere
    by true ahead = ahead-is-there ahead
    by false ((has, first), due) = (has, has-any (is_due now a.timing) a.pairs p has due)

-- the pair that is checked next is in the list
next-is-there : {H P : Type 0} (a : AgentRecord H P) (now : ℕ) (p : PairRecord) → IsNextToCheck now a (Some p) → Has a.pairs p
next-is-there a now p is =
    elim (nominates_at_once a) as (λ b. MatchBool b (Some p ≡ pair_selected a.selected_pair a.pairs) (IsNextInTurn now a (Some p)) → Has a.pairs p) [
      | true ↦ λ selected. selected-has a.selected_pair a.pairs p selected
      | false ↦ λ turn. (turn-is-there a now p turn).0
    ] is

-- if a pair is checked next that has a number, one is due, or its nomination is
pub due-there : {H P : Type 0} (a : AgentRecord H P) (now : ℕ) (next : Option PairRecord) (n : ℕ) → IsNextToCheck now a next
    → option_map (λ p. p.number) next ≡ Some n → nominates_at_once a || list_any (is_due now a.timing) a.pairs ≡ true
due-there a now None n is numbered = absurd (cc)
due-there a now (Some p) n is numbered =
    elim (nominates_at_once a) as (λ b. MatchBool b (Some p ≡ pair_selected a.selected_pair a.pairs) (IsNextInTurn now a (Some p)) → b || list_any (is_due now a.timing) a.pairs ≡ true) [
      | true ↦ λ _. refl
      | false ↦ λ turn. (turn-is-there a now p turn).1
    ] is

-- and it is found by that number
pub next-found : {H P : Type 0} (a : AgentRecord H P) (now : ℕ) (next : Option PairRecord) (n : ℕ) → rises a.pairs ≡ true → IsNextToCheck now a next
    → option_map (λ p. p.number) next ≡ Some n → (p : PairRecord) × (next ≡ Some p) × (p.number ≡ n) × (pair_numbered n a.pairs ≡ Some p)
next-found a now None n rising is numbered = absurd (cc)
next-found a now (Some p) n rising is numbered =
    let same : p.number ≡ n = cc in
    (p, refl, same, subst (λ m. pair_numbered m a.pairs ≡ Some p) same (numbered-found a.pairs p rising (next-is-there a now p is)))

-- it is there, also if the numbers do not rise
pub next-has : {H P : Type 0} (a : AgentRecord H P) (now : ℕ) (p : PairRecord) → IsNextToCheck now a (Some p) → has_number p.number a.pairs ≡ true
next-has a now p is = has-any (is_numbered p.number) a.pairs p (next-is-there a now p is) (eq-eqb p.number p.number refl)

-- with the peer's credentials, and if the agent is not ICE-lite, the next pair is checked once all due times are
-- fixed
pub may-check : {H P : Type 0} (mac : H → List ℕ → List ℕ → List ℕ) (now : ℕ) (creds : Option IceCreds) (peer : IceCreds) (old all new : AgentRecord H P)
    (s : Stream) (issued : Option Issued) (t : Stream) → creds ≡ Some peer → old.lite ≡ false → all ≡ all_scheduled now old
    → ChecksNext mac now peer all s issued new t → MayCheck mac now creds old s issued new t
may-check mac now creds peer old all new s issued t known full same checked =
    subst (λ c. MayCheck mac now c old s issued new t) (sym known)
    (subst (λ b. MatchBool b ((issued ≡ None) × (new ≡ all_heard now old) × (t ≡ s)) (ChecksNext mac now peer (all_scheduled now old) s issued new t)) (sym full)
    (subst (λ a. ChecksNext mac now peer a s issued new t) same checked))
