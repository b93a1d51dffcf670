use Rattle.std.proofs.Common.{◌≡◌, ℕ, ◌+◌, ◌||◌, Bool, true, false, is_some, not, List, map, find, Option, Some, None, option_map, ap, refl, sym, ◌∙◌, length, arith, if◌then◌else◌}
use Rattle.std.specs.List.{list_any}
use Rattle.std.specs.Option.{option_map_or, option_or}
use Rattle.is_pair.specs.Checklists.{multiset_of}
use Rattle.is_pair.specs.Due.{moved_up}
use Rattle.is_pair.specs.Multiset.{change_pair, is_numbered, pair_numbered, without}
use Rattle.is_pair.specs.Pairs.{PairRecord}
use Rattle.is_rules.specs.Again.{candidates_of}
use Rattle.is_rules.specs.Agent.{AgentRecord}
use Rattle.is_rules.specs.Due.{awaits_nomination, falls_due, may_nominate}
use Rattle.is_rules.specs.Leaving.{gives_way, hastened, is_due_next, left_after, path_left, needs_check}
use Rattle.is_agent.specs.View.{record_of}
use Rattle.is_agent.proofs.AgentParts.DuePairsAfterRemoval.{and-third, falls-hastened, falls-left, or-second}
use Rattle.is_agent.proofs.AgentParts.PairsInLists.{hastened-keys, placed-hastened}
use Rattle.is_rules.proofs.PairLists.PairsInLists.{placed-without}
use Rattle.std.proofs.lemmas.List.{length-map}
use Rattle.is_agent.proofs.AgentParts.PairCounts.{few-left}
use Rattle.is_agent.proofs.agent.Agent.leave_path.Goals as goal

or-none : (o : Option (ℕ × ℕ)) → option_or o None ≡ o
or-none None = refl
or-none (Some at) = refl

module _ {H P : Type 0} (now : ℕ) (a : AgentRecord H P) where
  abbrev gone : Bool
  gone = list_any (gives_way now a) a.pairs

  abbrev left : List PairRecord
  left = without (gives_way now a) a.pairs

  abbrev next : Bool → PairRecord → Bool
  next b p = if b then awaits_nomination a.controlling p else needs_check a p

  -- no pair gives way, and these are the pairs after the one that needs a check is due next
  path-stays : (pairs : List PairRecord) → pairs ≡ map (hastened (needs_check a) now) a.pairs → a.pairs ≡ left → false ≡ gone
      → None ≡ find (gives_way now a) a.pairs → record a { pairs = pairs } ≡ path_left now a
  path-stays pairs due same none no-pair =
      let moved : pairs ≡ map (hastened (is_due_next now a) now) left =
      due ∙ (ap (map (hastened (needs_check a) now)) same ∙ ap (λ b. map (hastened (next b) now) left) none) in
      let kept : a.left ≡ left_after now a = sym (or-none a.left) ∙ ap (λ (o : Option PairRecord). option_or a.left (option_map candidates_of o)) no-pair in
      ap (λ (ps : List PairRecord). record a { pairs = ps }) moved
      ∙ ap (λ (l : Option (ℕ × ℕ)). record a { pairs = (path_left now a).pairs; left = l }) kept

pub returns-in_default-needing_number-clause-left : goal.returns-in_default-needing_number-clause-left
returns-in_default-needing_number-clause-left g c =
    let a = record_of c.args.self.now in let now = c.args.now.0 in
    path-stays now a a.pairs (sym (ap (λ o. option_map_or (λ n. change_pair n (moved_up (now + 1)) a.pairs) o a.pairs) c.in_default-needing_number.is) ∙ c.needing_number.ensures now)
    (sym (ap (λ o. option_map_or (λ n. without (is_numbered n) a.pairs) o a.pairs) c.in_default.is) ∙ c.left_number.ensures.without)
    (sym (ap is_some c.in_default.is) ∙ c.left_number.ensures.left)
    (sym (ap (λ o. option_map_or (λ n. pair_numbered n a.pairs) o None) c.in_default.is) ∙ c.left_number.ensures.found)

pub returns-in-Some-needing_number-clause-left : goal.returns-in-Some-needing_number-clause-left
returns-in-Some-needing_number-clause-left g c =
    let a = record_of c.args.self.now in let now = c.args.now.0 in
    let pairs = multiset_of c.change.new.self in
    let moved : pairs ≡ map (hastened (needs_check a) now) a.pairs =
    c.change.ensures.changed ∙ (sym (ap (λ o. option_map_or (λ n. change_pair n (moved_up (now + 1)) a.pairs) o a.pairs) c.in-Some-needing_number.is) ∙ c.needing_number.ensures now) in
    path-stays now a pairs moved
    (sym (ap (λ o. option_map_or (λ n. without (is_numbered n) a.pairs) o a.pairs) c.in_default.is) ∙ c.left_number.ensures.without)
    (sym (ap is_some c.in_default.is) ∙ c.left_number.ensures.left)
    (sym (ap (λ o. option_map_or (λ n. pair_numbered n a.pairs) o None) c.in_default.is) ∙ c.left_number.ensures.found)

pub returns-in-Some-clause-left : goal.returns-in-Some-clause-left
returns-in-Some-clause-left g c =
    let a = record_of c.args.self.now in let now = c.args.now.0 in let number = c.in-Some.number in
    let gone : true ≡ list_any (gives_way now a) a.pairs = sym (ap is_some c.in-Some.is) ∙ c.left_number.ensures.left in
    let found : pair_numbered number a.pairs ≡ find (gives_way now a) a.pairs =
    sym (ap (λ o. option_map_or (λ n. pair_numbered n a.pairs) o None) c.in-Some.is) ∙ c.left_number.ensures.found in
    let others : without (is_numbered number) a.pairs ≡ without (gives_way now a) a.pairs =
    sym (ap (λ o. option_map_or (λ n. without (is_numbered n) a.pairs) o a.pairs) c.in-Some.is) ∙ c.left_number.ensures.without in
    let pairs : multiset_of c.change_all.new.self ≡ (path_left now a).pairs =
    c.change_all.ensures.changed ∙ ap (map (hastened (awaits_nomination a.controlling) now)) (c.remove.ensures.left ∙ others)
    ∙ ap (λ (b : Bool). map (hastened (next now a b) now) (without (gives_way now a) a.pairs)) gone in
    let left : c.left_after-self.result ≡ left_after now a =
    c.left_after-self.ensures ∙ ap (λ (o : Option PairRecord). option_or a.left (option_map candidates_of o)) found in
    cc (pairs, left)

pub returns-in-Some-clause-checks : goal.returns-in-Some-clause-checks
returns-in-Some-clause-checks g c = λ room falls.
    let self = c.args.self.now in let now = c.args.now.0 in let due = falls_due self.controlling now self.timing in
    let left = without (is_numbered c.in-Some.number) (multiset_of self.pairs) in
    let new = multiset_of c.change_all.new.self in
    let fewer : list_any due new ≡ true → list_any due (multiset_of self.pairs) ≡ true =
    λ h. falls-left due (is_numbered c.in-Some.number) (multiset_of self.pairs)
    (falls-hastened (awaits_nomination self.controlling) self.controlling now self.timing left (rw (c.change_all.ensures.changed, c.remove.ensures.left) at h)) in
    let nominates = may_nominate (record_of self) in
    let before = and-third (not self.lite) (is_some self.remote_creds) (nominates || list_any due (multiset_of self.pairs)) (nominates || list_any due new)
    (or-second nominates (list_any due (multiset_of self.pairs)) (list_any due new) fewer) falls in
    let old = room before in
    (old.0, c.change_all.ensures.check_room _ (c.remove.ensures.check_room _ old.1), old.2)

pub returns-in-Some-needing_number-clause-checks : goal.returns-in-Some-needing_number-clause-checks
returns-in-Some-needing_number-clause-checks g c = λ room falls.
    let self = c.args.self.now in let now = c.args.now.0 in let due = falls_due self.controlling now self.timing in
    let new = multiset_of c.change.new.self in
    let fewer : list_any due new ≡ true → list_any due (multiset_of self.pairs) ≡ true =
    λ h. falls-hastened (is_numbered c.in-Some-needing_number.number) self.controlling now self.timing (multiset_of self.pairs) (rw (c.change.ensures.changed) at h) in
    let nominates = may_nominate (record_of self) in
    let before = and-third (not self.lite) (is_some self.remote_creds) (nominates || list_any due (multiset_of self.pairs)) (nominates || list_any due new)
    (or-second nominates (list_any due (multiset_of self.pairs)) (list_any due new) fewer) falls in
    let old = room before in
    (old.0, c.change.ensures.check_room _ old.1, old.2)

pub invariant_of-self-clause-placed : goal.invariant_of-self-clause-placed
invariant_of-self-clause-placed g c =
    let self = c.args.self.now in
    rw (c.change_all.ensures.changed, c.remove.ensures.left)
    (placed-hastened self.local.items self.remote.items (awaits_nomination self.controlling) c.args.now.0 _
    (placed-without self.local.items self.remote.items _ (multiset_of self.pairs) self.placed))

pub invariant_of-self-in-Some-needing_number-clause-placed : goal.invariant_of-self-in-Some-needing_number-clause-placed
invariant_of-self-in-Some-needing_number-clause-placed g c =
    let self = c.args.self.now in
    rw (c.change.ensures.changed)
    (placed-hastened self.local.items self.remote.items (is_numbered c.in-Some-needing_number.number) c.args.now.0 (multiset_of self.pairs) self.placed)

pub change_all-requires : goal.change_all-requires
change_all-requires g c = record { keys = hastened-keys (awaits_nomination c.args.self.now.controlling) c.args.now.0 }

pub invariant_of-self-clause-room_suffices : goal.invariant_of-self-clause-room_suffices
invariant_of-self-clause-room_suffices g c =
    let self = c.args.self.now in
    let left = multiset_of c.remove.new.self in
    let fewer = few-left (λ p. not (is_numbered c.in-Some.number p)) (multiset_of self.pairs) in
    omega (arith, ap length c.change_all.ensures.changed, length-map left (hastened (awaits_nomination self.controlling) c.args.now.0), ap length c.remove.ensures.left, fewer, self.room_suffices)

pub invariant_of-self-in-Some-needing_number-clause-room_suffices : goal.invariant_of-self-in-Some-needing_number-clause-room_suffices
invariant_of-self-in-Some-needing_number-clause-room_suffices g c =
    let self = c.args.self.now in
    omega (arith, ap length c.change.ensures.changed, length-map (multiset_of self.pairs) (hastened (is_numbered c.in-Some-needing_number.number) c.args.now.0), self.room_suffices)
