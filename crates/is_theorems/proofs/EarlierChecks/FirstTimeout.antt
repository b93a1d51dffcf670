-- A `handle_timeout` call checks a pair that is due by its time, or another one, and fixes its due time.
use Rattle.is_stun.specs.declared.header.Class.TheVariants as class
use Rattle.is_theorems.proofs.Common.{◌&&◌, ◌==◌, ◌||◌, ◌∙◌, ◌≡◌, ◌≤◌, ◌⊎◌, AgentRecord, all_scheduled, ap, arith, scheduled, at_timeout, Bool}
use Rattle.is_theorems.proofs.Common.{change_at, change_pair, ChecksOn, ChecksTop, chosen-able, consent_of, due_time_of, Emitted, eqb-true}
use Rattle.is_theorems.proofs.Common.{expired_gone, false, followed, Has, IceCreds, if◌then◌else◌, inl, inr, is_due, is_eligible}
use Rattle.is_theorems.proofs.Common.{is_expired, is_nominated, is_numbered, is_some, is_valid, IsNextToCheck, Issued, issued_as, List}
use Rattle.is_theorems.proofs.Common.{list_any, MaintainsPairs, map, MayCheck, nat_le, nat_lt, nat_tests, nominated_by_self, Nominates}
use Rattle.is_theorems.proofs.Common.{nominates_at_once, None, none_pass, not, Option, PairRecord, Path, path_left, path_of, refl, remains}
use Rattle.is_theorems.proofs.Common.{RemovesExpired, selection_of, Some, stays_answered, Stream, StunTiming, subst, sym, true}
use Rattle.is_theorems.proofs.Common.{unanswered_count, unwrap_or, ℕ}
use Rattle.is_theorems.proofs.BasicLemmas.PairsInTurn.{next-has, none-is-due, pairs-sent, sent_at}
use Rattle.is_theorems.proofs.RuleEffects.UnchangedSettings.{either}
use Rattle.is_theorems.proofs.EarlierChecks.ChangedPairs.{Fixed}
use Rattle.is_theorems.proofs.RuleEffects.ChangedPairs.{Has-map}
use Rattle.is_theorems.proofs.DuePairs.FirstDuePair.{fixed-is, same-path, next-check}
use Rattle.is_theorems.proofs.RuleEffects.NominatedPairs.{SelectsPath, selects_path}
use Rattle.is_theorems.proofs.CallEffects.ServedRequests.{Has-mapped}
use Rattle.is_theorems.proofs.DuePairs.AfterNominationAndRemoval.{kept_of, alike-kept, answered-on, Distinct, Alike, Base}
use Rattle.is_theorems.proofs.DuePairs.AfterNominationAndRemoval.{base_of as agent_base, Has-kept, stays-young, thinned-filter, keeps-young}
use Rattle.is_theorems.proofs.DuePairs.AfterNominationAndRemoval.{names-thins, expires-thins, nominates-has, leaves-thins}
use Rattle.is_theorems.proofs.EarlierChecks.LeavingPaths.{as-left, ready-left, there-left}

le-is : (n m : ℕ) → n ≤ m → nat_le n m ≡ true
le-is n m h = grind (arith, nat_tests, h)

and-left : (a b : Bool) → a ≡ false → (a && b) ≡ true → ⊥
and-left true b h k = cc
and-left false b h k = cc

alike-none : (p : PairRecord) → Alike p p
alike-none p = record { number = refl; local = refl; remote = refl; due = refl; checks = refl; valid = refl; consented = refl; heard = refl }

joins : (p q r : PairRecord) → Alike p q → Alike q r → Alike p r
joins p q r a b = record {
  number = b.number ∙ a.number;
  local = b.local ∙ a.local;
  remote = b.remote ∙ a.remote;
  due = b.due ∙ a.due;
  checks = b.checks ∙ a.checks;
  valid = b.valid ∙ a.valid;
  consented = b.consented ∙ a.consented;
  heard = b.heard ∙ a.heard;
}

-- another pair
abbrev pub Other : {H P : Type 0} → AgentRecord H P → PairRecord → Type 0
Other a p = (o : PairRecord) × Has a.pairs o × ((p.number == o.number) ≡ false)

module _ (now by : ℕ) (begun : by ≤ now) where
  -- due by then, and not valid unless its due time is fixed
  abbrev pub Ready : StunTiming → PairRecord → Type 0
  Ready t p = (due_time_of now t p ≤ by) × ((is_valid p ≡ false) ⊎ (is_some p.due ≡ true))

  ready-fixed : (t : StunTiming) (p q : PairRecord) → Alike p q → due_time_of now t p ≤ by → is_some p.due ≡ true → Ready t q
  ready-fixed t p q a due fixed =
      let same : due_time_of now t q ≡ due_time_of now t p =
      fixed-is q.due _ (ap is_some a.due ∙ fixed) ∙ (ap (λ o. unwrap_or o 0) a.due ∙ sym (fixed-is p.due _ fixed)) in
      (subst (λ d. d ≤ by) (sym same) due, inr (ap is_some a.due ∙ fixed))

  module _ {H P : Type 0} where
    -- ---- nomination, and removed pairs

    named-ready : (t : StunTiming) (old new : AgentRecord H P) (path : Option Path) → Nominates old path new → Distinct old.pairs → (p : PairRecord) → Has old.pairs p → Ready t p
        → (q : PairRecord) × Has new.pairs q × Alike p q × Ready t q
    named-ready t old new path h distinct p has (due, inr fixed) =
        let k = nominates-has old new path h p has in (k.0, k.1, k.2, ready-fixed t p k.0 k.2 due fixed)
    named-ready t old new path h distinct p has (due, inl invalid) = (p, from (selects_path old new path h), alike-none p, (due, inl invalid)) where
      from : SelectsPath old path new → Has new.pairs p
      from (None, greatest, (is, made)) = subst (λ (a : AgentRecord H P). Has a.pairs p) (sym made) has
      from (Some top, chosen, k) = either (remains (followed old) top (selection_of old)) k
          (λ _ l. subst (λ (a : AgentRecord H P). Has a.pairs p) (sym l.1) has)
          (λ _ l. subst (λ (a : AgentRecord H P). Has a.pairs p) (sym l.1) (still (is_numbered top.number p) refl
          (Has-mapped (change_at top.number (nominated_by_self old.controlling old.lite)) old.pairs p has))) where
            able : Has old.pairs top × (is_eligible old.controlling top ≡ true)
            able = chosen-able old.controlling (followed old) (selection_of old) top chosen

            still : (b : Bool) → is_numbered top.number p ≡ b
                → Has (map (change_at top.number (nominated_by_self old.controlling old.lite)) old.pairs) (if b then nominated_by_self old.controlling old.lite p else p)
                → Has (map (change_at top.number (nominated_by_self old.controlling old.lite)) old.pairs) p
            still true is there =
                let one : p ≡ top = distinct p top has able.0 (eqb-true p.number top.number is) in
                absurd (and-left (is_valid top) (old.controlling || is_nominated top) (ap (λ (x : PairRecord). is_valid x) (sym one) ∙ invalid) able.1)
            still false is there = there

    given-ready : (old new : AgentRecord H P) (path : Option Path) → RemovesExpired now old path new → old.lite ≡ false → Distinct old.pairs → (p : PairRecord) → Has old.pairs p
        → stays_answered (consent_of old.timing) now p ≡ true → nat_lt (unanswered_count p.checks) old.timing.max_retransmits ≡ true → Ready old.timing p
        → (q : PairRecord) × Has new.pairs q × Alike p q × Ready old.timing q
    given-ready old new path h full distinct p has answered young ready = either (list_any (is_expired now old) old.pairs) h
        (λ _ k. (
        let there : Has (expired_gone now old).pairs p = Has-kept (λ q. not (is_expired now old q)) old.pairs p has (stays-young old.lite now old.timing p full answered young) in
        let q = named-ready old.timing (expired_gone now old) k.0 path k.1 ((thinned-filter 0 (λ q. not (is_expired now old q)) old.pairs).distinct distinct) p there ready in
        subst (λ (a : AgentRecord H P). (q : PairRecord) × Has a.pairs q × Alike p q × Ready old.timing q) (sym k.2) (q.0, q.1, q.2, q.3)))
        (λ _ k. subst (λ (a : AgentRecord H P). (q : PairRecord) × Has a.pairs q × Alike p q × Ready old.timing q) (sym k.1) (p, has, alike-none p, ready))

    -- ---- the check

    -- its due time is fixed, and another pair exists
    abbrev pub WaitsOn : AgentRecord H P → AgentRecord H P → PairRecord → Type 0
    WaitsOn old new p = Other old p × ((d : ℕ) × (d ≤ by) × Fixed p.number d (kept_of p) new.pairs)

    module _ (mac : H → List ℕ → List ℕ → List ℕ) where
      check-goes : (old new : AgentRecord H P) (s u : Stream) (issued : Option Issued) (remote : Option IceCreds) → is_some remote ≡ true → old.lite ≡ false
          → Distinct old.pairs → (p : PairRecord) → Has old.pairs p → due_time_of now old.timing p ≤ by
          → MayCheck mac now remote old s issued new u
          → ((id : List ℕ) × (issued ≡ Some (issued_as (path_of old p) class.Request id))) ⊎ WaitsOn old new p
      check-goes old new s u issued remote known full distinct p has due h =
          let k = next-check mac now remote old new s u issued known full h in by-next k.0 k.1 k.2 k.3 where
            in_asked : Has (map (scheduled now old.timing) old.pairs) (scheduled now old.timing p)
            in_asked = Has-mapped (scheduled now old.timing) old.pairs p has

            begins : Bool
            begins = nominates_at_once (all_scheduled now old)

            whose : (q : PairRecord) (id : List ℕ) → new.pairs ≡ change_pair q.number (sent_at begins now old.timing old.controlling id) (map (scheduled now old.timing) old.pairs)
                → issued ≡ Some (issued_as (path_of old q) class.Request id)
                → (o : PairRecord) × Has old.pairs o × (scheduled now old.timing o ≡ q)
                → (b : Bool) → (p.number == q.number) ≡ b
                → ((id : List ℕ) × (issued ≡ Some (issued_as (path_of old p) class.Request id))) ⊎ WaitsOn old new p
            whose q id made is (o, o_has, o_is) true same =
                let one : o ≡ p = distinct o p o_has has (ap (λ (x : PairRecord). x.number) o_is ∙ sym (eqb-true p.number q.number same)) in
                inl (id, is ∙ ap (λ (x : PairRecord). Some (issued_as (path_of old x) class.Request id)) (sym o_is ∙ ap (scheduled now old.timing) one))
            whose q id made is (o, o_has, o_is) false apart =
                inr (
                  (o, o_has, ap (λ (x : PairRecord). p.number == x.number) o_is ∙ apart),
                  (
                    due_time_of now old.timing p,
                    due,
                    subst (λ ps. Fixed p.number (due_time_of now old.timing p) (kept_of p) ps) (sym made) (scheduled now old.timing p, stays, refl, refl, refl),
                  ),
                ) where
                  change : PairRecord → PairRecord
                  change x = sent_at begins now old.timing old.controlling id x

                  stays : Has (change_pair q.number change (map (scheduled now old.timing) old.pairs)) (scheduled now old.timing p)
                  stays = subst (λ b. Has (change_pair q.number change (map (scheduled now old.timing) old.pairs))
                      (if b then change (scheduled now old.timing p) else scheduled now old.timing p)) apart
                      (Has-mapped (change_at q.number change) (map (scheduled now old.timing) old.pairs) (scheduled now old.timing p) in_asked)

            by-next : (peer : IceCreds) (next : Option PairRecord) → IsNextToCheck now (all_scheduled now old) next → ChecksTop mac now peer next (all_scheduled now old) s issued new u
                → ((id : List ℕ) × (issued ≡ Some (issued_as (path_of old p) class.Request id))) ⊎ WaitsOn old new p
            by-next peer None chosen h =
                let it : is_due now old.timing (scheduled now old.timing p) ≡ true = le-is (due_time_of now old.timing p) now (let d = due in omega (arith, d, begun)) in
                absurd (none_pass (is_due now old.timing) (map (scheduled now old.timing) old.pairs) (scheduled now old.timing p) (none-is-due now (all_scheduled now old) chosen) in_asked it)
            by-next peer (Some q) chosen (id, drawn, values, is, made) =
                whose q id (pairs-sent mac now peer q id (all_scheduled now old) new made) is (Has-map (scheduled now old.timing) old.pairs q (next-has now (all_scheduled now old) q chosen)) (p.number == q.number) refl

      -- ---- the `handle_timeout` call

      pub timeout-goes : (old new : AgentRecord H P) (s u : Stream) (emitted : Emitted) → is_some old.remote_creds ≡ true → old.lite ≡ false
          → Distinct old.pairs → (p : PairRecord) → Has old.pairs p
          → stays_answered (consent_of old.timing) now p ≡ true → nat_lt (unanswered_count p.checks) old.timing.max_retransmits ≡ true → Ready old.timing p
          → MaintainsPairs mac now old s emitted new u → ChecksOn old emitted p ⊎ WaitsOn old new p
      timeout-goes old new s u emitted known full distinct p has answered young ready (first, second, issued, named, kept, nominating, giving, checking, is) =
          let left = leaves-thins now (at_timeout now old) in
          let a = names-thins now (at_timeout now old) named first nominating in
          let b = expires-thins 0 now named kept second giving in
          let p_left = as-left now (at_timeout now old) p in
          let x = named-ready old.timing (path_left now (at_timeout now old)) named first nominating (left.1.distinct distinct) p_left
          (there-left now (at_timeout now old) p has (keeps-young now (at_timeout now old) p young)) (ready-left now (at_timeout now old) by old.timing p ready) in
          let timing : named.timing ≡ old.timing = ap (λ (y : Base). y.timing) a.0 in
          let y = given-ready named kept second giving (ap (λ (y : Base). y.lite) a.0 ∙ full) (a.1.distinct distinct) x.0 x.1 (answered-on old.timing named.timing now p x.0 timing x.2.consented answered)
          (ap (λ cs. nat_lt (unanswered_count cs) named.timing.max_retransmits) x.2.checks ∙ (ap (λ (z : StunTiming). nat_lt (unanswered_count p.checks) z.max_retransmits) timing ∙ young))
          (subst (λ z. Ready z x.0) (sym timing) x.3) in
          let base : agent_base kept ≡ agent_base (at_timeout now old) = b.0 ∙ a.0 in
          let alike = joins p_left x.0 y.0 x.2 y.2 in
          let same : kept.timing ≡ named.timing = ap (λ (z : Base). z.timing) b.0 in
          elim (check-goes kept new s u issued kept.remote_creds (ap (λ (z : Base). is_some z.remote_creds) base ∙ known) (ap (λ (z : Base). z.lite) base ∙ full)
          (b.1.distinct (a.1.distinct distinct)) y.0 y.1 (subst (λ (z : StunTiming). due_time_of now z y.0 ≤ by) (sym same) y.3.0) checking) [
            | inl (id, out) ↦
                inl (
                  id,
                  ap (λ (z : Emitted). z.issued) is ∙ (out ∙ ap (λ w. Some (issued_as w class.Request id))
                      (same-path old kept p_left y.0 (ap (λ (z : Base). z.local) base) (ap (λ (z : Base). z.remote) base)
                      (record { number = alike.number; local = alike.local; remote = alike.remote; valid = alike.valid }))),
                )
            | inr ((o, o_has, apart), (d, due, fixed)) ↦
                (let n = b.1.back o o_has in let m = a.1.back n.0 n.1 in
                inr (
                  (m.0, m.1, ap (λ k. k == m.0.number) (sym alike.number) ∙ (ap (λ k. y.0.number == k) (sym (n.2.number ∙ m.2.number)) ∙ apart)),
                  (d, due, subst (λ k. Fixed p.number d k new.pairs) (alike-kept p_left y.0 alike) (subst (λ k. Fixed k d (kept_of y.0) new.pairs) alike.number fixed)),
                ))
          ]
