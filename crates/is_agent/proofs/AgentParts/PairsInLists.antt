-- The indices of pairs and senders are in the lists of candidates: what the calls of the agent keep.
use Rattle.std.proofs.Common.{if◌then◌else◌, ◌≡◌, ℕ, ◌+◌, ◌<◌, ◌++◌, ◌≤◌, nat_lt, Result, Ok, Err, IfOk, IfSome, arith, Bool, true, false, List, [], ◌∷◌, Option, Some, None, length, map, ap, refl, sym, subst, ◌∙◌}
use Rattle.std.proofs.lemmas.List.{length-append}
use Rattle.std.proofs.Math.ListN.{length-set}
use Rattle.std.specs.Prelude.{slice_set}
use Rattle.std.specs.List.{list_all}
use Rattle.is_stun.specs.declared.timing.StunTiming.{StunTiming}
use Rattle.is_candidate.specs.Candidates.{CandidateRecord}
use Rattle.is_pair.specs.Multiset.{change_at, is_numbered, has_number, pair_numbered, put_pair, KeepsKeys, RecordsAnswer}
use Rattle.is_pair.specs.Due.{scheduled, moved_up}
use Rattle.is_pair.specs.Pairs.{PairRecord, checked, heard, heard_at, undue}
use Rattle.is_rules.specs.Answers.{joined_by}
use Rattle.is_rules.specs.Leaving.{hastened}
use Rattle.is_rules.specs.Remote.{stored, place_or_end}
use Rattle.is_rules.specs.Kept.{is_placed, are_placed}
use Rattle.is_rules.proofs.PairLists.PairsInLists.{in-lists, in-is, placed-mapped, KeepsPlaces}
use Rattle.is_agent.proofs.AgentParts.PairsByNumber.{both, find-Some, has-any}

-- what follows of what was made
pub also : {X E : Type 0} {P Q : X → Type 0} (r : Result X E) → ((x : X) → P x → Q x) → IfOk r P → IfOk r Q
also (Ok x) to p = to x p
also (Err e) to p = p

-- ---- lists of candidates

pub one-longer : (new cs : List CandidateRecord) (c : CandidateRecord) → new ≡ cs ++ c ∷ [] → length new ≡ length cs + 1
one-longer new cs c is = ap length is ∙ length-append cs (c ∷ [])

pub as-long : (new cs : List CandidateRecord) (k : ℕ) (c : CandidateRecord) → new ≡ slice_set cs k c → length new ≡ length cs
as-long new cs k c is = ap length is ∙ length-set cs k c

pub joined-longer : (c : Option CandidateRecord) (cs : List CandidateRecord) → length cs ≤ length (joined_by c cs)
joined-longer None cs = omega arith
joined-longer (Some c) cs = omega (arith, length-append cs (c ∷ []))

pub stored-longer : (c : CandidateRecord) (place : Option ℕ) (cs : List CandidateRecord) → length cs ≤ length (stored c place cs)
stored-longer c None cs = omega (arith, length-append cs (c ∷ []))
stored-longer c (Some place) cs = omega (arith, length-set cs place c)

pub place-stored : (c : CandidateRecord) (place : Option ℕ) (cs : List CandidateRecord) → IfSome place (λ k. k < length cs)
    → place_or_end place cs < length (stored c place cs)
place-stored c None cs within = omega (arith, length-append cs (c ∷ []))
place-stored c (Some place) cs within = omega (arith, within, length-set cs place c)

-- ---- one pair

pub remotes-in : (local remote : List CandidateRecord) (ps : List PairRecord) → are_placed local remote ps ≡ true
    → list_all (λ (p : PairRecord). nat_lt p.remote (length remote)) ps ≡ true
remotes-in local remote [] all = refl
remotes-in local remote (p ∷ ps) all =
    let b = both (is_placed local remote p) (are_placed local remote ps) all in
    let its = both (nat_lt p.local (length local)) (nat_lt p.remote (length remote)) b.0 in
    rw (its.1, remotes-in local remote ps b.1) refl

pub numbered-in : (local remote : List CandidateRecord) (n : ℕ) (ps : List PairRecord) (p : PairRecord) → are_placed local remote ps ≡ true → pair_numbered n ps ≡ Some p
    → (p.local < length local) × (p.remote < length remote)
numbered-in local remote n ps p all found = in-lists local remote ps p all (find-Some (is_numbered n) ps p found).0

pub numbered-has : (n : ℕ) (ps : List PairRecord) (p : PairRecord) → pair_numbered n ps ≡ Some p → has_number n ps ≡ true
numbered-has n ps p found = let is = find-Some (is_numbered n) ps p found in has-any (is_numbered n) ps p is.0 is.1

-- ---- changes of pairs

heard-places : (now : ℕ) (last : Option ℕ) (p : PairRecord) → ((heard_at now last p).local ≡ p.local) × ((heard_at now last p).remote ≡ p.remote)
heard-places now None p = (refl, refl)
heard-places now (Some at) p = (refl, refl)

pub placed-heard : (local remote : List CandidateRecord) (now : ℕ) (ps : List PairRecord) → are_placed local remote ps ≡ true → are_placed local remote (map (heard now) ps) ≡ true
placed-heard local remote now ps all =
    placed-mapped local remote (heard now) ps (record { local = λ p. (heard-places now p.last_request p).0; remote = λ p. (heard-places now p.last_request p).1 }) all

pub placed-scheduled : (local remote : List CandidateRecord) (now : ℕ) (t : StunTiming) (ps : List PairRecord) → are_placed local remote ps ≡ true
    → are_placed local remote (map (scheduled now t) ps) ≡ true
placed-scheduled local remote now t ps all = placed-mapped local remote (scheduled now t) ps (record { local = λ p. refl; remote = λ p. refl }) all

pub placed-undue : (local remote : List CandidateRecord) (ps : List PairRecord) → are_placed local remote ps ≡ true → are_placed local remote (map undue ps) ≡ true
placed-undue local remote ps all = placed-mapped local remote undue ps (record { local = λ p. refl; remote = λ p. refl }) all

-- a pair that is hastened, or not
hastened-if : {A : Type 0} (f : PairRecord → A) (now : ℕ) (p : PairRecord) → f (moved_up (now + 1) p) ≡ f p → (b : Bool) → f (if b then moved_up (now + 1) p else p) ≡ f p
hastened-if f now p same true = same
hastened-if f now p same false = refl

pub hastened-keys : (test : PairRecord → Bool) (now : ℕ) → KeepsKeys (hastened test now)
hastened-keys test now = λ p. let awaits = test p in (
  hastened-if (λ (x : PairRecord). x.number) now p refl awaits,
  hastened-if (λ (x : PairRecord). x.priority) now p refl awaits,
  hastened-if (λ (x : PairRecord). x.checks) now p refl awaits,
)

pub placed-hastened : (local remote : List CandidateRecord) (test : PairRecord → Bool) (now : ℕ) (ps : List PairRecord) → are_placed local remote ps ≡ true
    → are_placed local remote (map (hastened test now) ps) ≡ true
placed-hastened local remote test now ps all = placed-mapped local remote (hastened test now) ps (record {
  local = λ p. hastened-if (λ (x : PairRecord). x.local) now p refl (test p);
  remote = λ p. hastened-if (λ (x : PairRecord). x.remote) now p refl (test p);
}) all

pub checked-places : (now : ℕ) (t : StunTiming) (controlling : Bool) (id : List ℕ) → KeepsPlaces (checked now t controlling id)
checked-places now t controlling id = record { local = λ p. refl; remote = λ p. refl }

all-kept : {X : Type 0} (q : X → Bool) (f : X → X) → ((x : X) → q x ≡ true → q (f x) ≡ true) → (xs : List X) → list_all q xs ≡ true → list_all q (map f xs) ≡ true
all-kept q f keeps [] all = refl
all-kept q f keeps (x ∷ xs) all = let b = both (q x) (list_all q xs) all in rw (keeps x b.0, all-kept q f keeps xs b.1) refl

-- a pair replaces the one with its number, at the same indices
pub placed-answered : (local remote : List CandidateRecord) (n now : ℕ) (id : List ℕ) (ps after : List PairRecord) → RecordsAnswer n now id ps after
    → are_placed local remote ps ≡ true → are_placed local remote after ≡ true
placed-answered local remote n now id ps after (p, new, found, (place, c, at, is), made) all =
    let its = numbered-in local remote n ps p all found in
    let l : new.local ≡ p.local = ap (λ (x : PairRecord). x.local) is in
    let r : new.remote ≡ p.remote = ap (λ (x : PairRecord). x.remote) is in
    rw (made) (placed-put local remote new ps all (subst (λ k. k < length local) (sym l) its.0) (subst (λ k. k < length remote) (sym r) its.1)) where
      placed-put : (local remote : List CandidateRecord) (p : PairRecord) (ps : List PairRecord) → are_placed local remote ps ≡ true → p.local < length local
          → p.remote < length remote → are_placed local remote (put_pair p ps) ≡ true
      placed-put local remote p ps all l r = all-kept (is_placed local remote) (change_at p.number (λ _. p))
          (λ x its. elim (is_numbered p.number x) as (λ b. is_placed local remote (if b then p else x) ≡ true) [ true ↦ in-is local remote p l r | false ↦ its ]) ps all
