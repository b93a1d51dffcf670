-- A `handle_timeout` call checks a pair that is due, or another one before it, and then one check fewer goes before
-- it; or a check goes ahead, and then no more checks go before it and the next check may not go ahead; or a nomination is sent at once,
-- and then no more checks go before it.
use Rattle.is_stun.specs.declared.header.Class.TheVariants as class
use Rattle.is_theorems.proofs.Common.{◌&&◌, ◌+◌, ◌<◌, ◌==◌, ◌||◌, ◌∙◌, ◌≡◌, ◌≤◌, ◌⊎◌, AgentRecord, all_scheduled, ap, are_kinds_in_turn, arith}
use Rattle.is_theorems.proofs.Common.{scheduled, at_timeout, Bool, change_at, change_pair, checked, ChecksOn, ChecksTop, chosen-able}
use Rattle.is_theorems.proofs.Common.{consent_of, due_time_of, Emitted, eq-eqb, eqb-true, expired_gone, false, followed, GoesBefore, Has}
use Rattle.is_theorems.proofs.Common.{has_first, IceCreds, if◌then◌else◌, inl, inr, is_ahead_turn, is_due, is_eligible, is_expired}
use Rattle.is_theorems.proofs.Common.{is_modern, is_nominated, is_numbered, is_some, is_valid, IsNextToCheck, Issued, issued_as, List}
use Rattle.is_theorems.proofs.Common.{list_any, MaintainsPairs, map, MAX, MayCheck, nat_le, nat_lt, nat_tests, nominated_by_self, Nominates}
use Rattle.is_theorems.proofs.Common.{nominates_at_once, nomination_once_sent, None, none_pass, not, Option, PairRecord, Path, path_left}
use Rattle.is_theorems.proofs.Common.{path_of, refl, remains, RemovesExpired, renominated, selection_of, Some, stays_answered, Stream}
use Rattle.is_theorems.proofs.Common.{StunTiming, subst, suc, sym, true, unanswered_count, unwrap_or, ℕ}
use Rattle.is_theorems.proofs.RuleEffects.UnchangedSettings.{either}
use Rattle.is_theorems.proofs.EarlierChecks.ChecksOfOtherPairs.{all-but, formed_by, Counts, Measure, lead, leads, own, own-le, weight}
use Rattle.is_theorems.proofs.EarlierChecks.ChecksOfOtherPairs.{weight-again-no-more, weight-sent, weight-sent-no-more, lead-scheduled}
use Rattle.is_theorems.proofs.EarlierChecks.ChecksOfOtherPairs.{lead-checked-is, leads-map, leads-less, leads-filter, is_early, sent_by}
use Rattle.is_theorems.proofs.EarlierChecks.ChangedPairs.{Fixed}
use Rattle.is_theorems.proofs.EarlierChecks.BetweenTimeouts.{nominates-onward}
use Rattle.is_theorems.proofs.RuleEffects.ChangedPairs.{Has-map}
use Rattle.is_theorems.proofs.BasicLemmas.PairsInTurn.{next-has, none-is-due, next-in-turn, pairs-sent, sent_at}
use Rattle.is_theorems.proofs.DuePairs.FirstDuePair.{fixed-is, same-path, NoneAtCheck, next-check}
use Rattle.is_theorems.proofs.DuePairs.ChecksAhead.{Falls, falls-from, is-turn}
use Rattle.is_theorems.proofs.RuleEffects.NominatedPairs.{SelectsPath, selects_path}
use Rattle.is_theorems.proofs.CallEffects.ServedRequests.{Has-mapped}
use Rattle.is_theorems.proofs.DuePairs.AfterNominationAndRemoval.{kept_of, alike-kept, answered-on, Distinct, Alike, Base}
use Rattle.is_theorems.proofs.DuePairs.AfterNominationAndRemoval.{base_of as agent_base, Has-kept, stays-young, thinned-filter, keeps-young}
use Rattle.is_theorems.proofs.DuePairs.AfterNominationAndRemoval.{nominates-thins, names-thins, expires-thins, nominates-has, leaves-thins}
use Rattle.is_theorems.proofs.EarlierChecks.LeavingPaths.{as-left, leads-left, ready-left, there-left}

le-is : (n m : ℕ) → n ≤ m → nat_le n m ≡ true
le-is n m h = grind (arith, nat_tests, h)

and-left : (a b : Bool) → a ≡ false → (a && b) ≡ true → ⊥
and-left true b h k = cc
and-left false b h k = cc

alike-none : (p : PairRecord) → Alike p p
alike-none p = record { number = refl; local = refl; remote = refl; due = refl; checks = refl; valid = refl; consented = refl; heard = refl }

joins : (p q r : PairRecord) → Alike p q → Alike q r → Alike p r
joins p q r a b = record {
  number = b.number ∙ a.number;
  local = b.local ∙ a.local;
  remote = b.remote ∙ a.remote;
  due = b.due ∙ a.due;
  checks = b.checks ∙ a.checks;
  valid = b.valid ∙ a.valid;
  consented = b.consented ∙ a.consented;
  heard = b.heard ∙ a.heard;
}

module _ (now by : ℕ) (late : by < now) (early : now < MAX) where
  -- due by then, and not valid unless its due time is fixed
  abbrev pub Ready : StunTiming → PairRecord → Type 0
  Ready t p = (due_time_of now t p ≤ by) × ((is_valid p ≡ false) ⊎ (is_some p.due ≡ true))

  ready-fixed : (t : StunTiming) (p q : PairRecord) → Alike p q → due_time_of now t p ≤ by → is_some p.due ≡ true → Ready t q
  ready-fixed t p q a due fixed =
      let same : due_time_of now t q ≡ due_time_of now t p =
      fixed-is q.due _ (ap is_some a.due ∙ fixed) ∙ (ap (λ o. unwrap_or o 0) a.due ∙ sym (fixed-is p.due _ fixed)) in
      (subst (λ d. d ≤ by) (sym same) due, inr (ap is_some a.due ∙ fixed))

  -- ---- a check

  first-due : (x y : ℕ) (p q : PairRecord) → (x < y) ⊎ ((x ≡ y) × (p.priority ≤ q.priority)) → y ≤ by → x ≤ by
  first-due x y p q (inl less) le = omega (arith, less, le)
  first-due x y p q (inr same) le = let e = same.0 in omega (arith, e, le)

  module _ (t : StunTiming) (c : Bool) (id : List ℕ) (some : 0 < t.max_retransmits) (w : Measure) where
    checked-no-more : (y : PairRecord) → own w by (checked now t c id y) ≤ own w by y
    checked-no-more y =
        own-le w by y (checked now t c id y) refl
        (subst (λ k. k ≤ lead w.both by y) (sym (lead-checked-is w.both by now t c id y late some)) (weight-sent-no-more w.both y.nomination (is_early by y.due y.checks)))

    change-no-more : (m : ℕ) (y : PairRecord) → own w by (change_at m (checked now t c id) y) ≤ own w by y
    change-no-more m y = at (is_numbered m y) where
      at : (b : Bool) → own w by (if b then checked now t c id y else y) ≤ own w by y
      at true = checked-no-more y
      at false = omega arith

    -- whether its nomination begins again or not
    sent-no-more : (begins : Bool) (m : ℕ) (y : PairRecord) → own w by (change_at m (sent_at begins now t c id) y) ≤ own w by y
    sent-no-more true m y = at (is_numbered m y) where
      again : own w by (checked now t c id (renominated y)) ≤ own w by y
      again =
          own-le w by y (checked now t c id (renominated y)) refl
          (subst (λ k. k ≤ lead w.both by y) (sym (lead-checked-is w.both by now t c id (renominated y) late some)) (weight-again-no-more w.both y.nomination (is_early by y.due y.checks)))

      at : (b : Bool) → own w by (if b then checked now t c id (renominated y) else y) ≤ own w by y
      at true = again
      at false = omega arith
    sent-no-more false m y = change-no-more m y

    scheduled-no-more : (ps : List PairRecord) → leads w by (map (scheduled now t) ps) ≤ leads w by ps
    scheduled-no-more ps = leads-map w by (scheduled now t) ps (λ y. own-le w by y (scheduled now t y) refl (lead-scheduled w.both by now t y late early))

    -- no more checks are left after a check
    pub after-check : (begins : Bool) (m : ℕ) (ps : List PairRecord) → leads w by (change_pair m (sent_at begins now t c id) (map (scheduled now t) ps)) ≤ leads w by ps
    after-check begins m ps =
        let a : leads w by (change_pair m (sent_at begins now t c id) (map (scheduled now t) ps)) ≤ leads w by (map (scheduled now t) ps) =
        leads-map w by (change_at m (sent_at begins now t c id)) (map (scheduled now t) ps) (sent-no-more begins m) in
        let b : leads w by (map (scheduled now t) ps) ≤ leads w by ps = scheduled-no-more ps in
        omega (arith, a, b)

    -- the one that is checked
    change-less : (d : ℕ) (q : PairRecord) → q.due ≡ Some d → d ≤ by → w.skips q.number ≡ false → Counts w.both q.nomination → own w by (change_at q.number (checked now t c id) q) + 1 ≤ own w by q
    change-less d q fixed due other counts = at (is_numbered q.number q) (eq-eqb q.number q.number refl) where
      fixed-early : is_early by q.due q.checks ≡ true
      fixed-early = ap (λ o. is_early by o q.checks) fixed ∙ ap (λ b. b || sent_by by q.checks) (le-is d by due)

      less : lead w.both by (checked now t c id q) + 1 ≤ lead w.both by q
      less = subst (λ k. k + 1 ≤ lead w.both by q) (sym (lead-checked-is w.both by now t c id q late some))
          (subst (λ e. weight w.both (nomination_once_sent q.nomination) false + 1 ≤ weight w.both q.nomination e) (sym fixed-early) (weight-sent w.both q.nomination counts))

      unless : (b : Bool) → b ≡ false → (if b then 0 else lead w.both by (checked now t c id q)) + 1 ≤ (if b then 0 else lead w.both by q)
      unless true is = absurd (cc)
      unless false is = less

      at : (b : Bool) → b ≡ true → own w by (if b then checked now t c id q else q) + 1 ≤ own w by q
      at true is = unless (w.skips q.number) other
      at false is = absurd (cc)

    -- of a pair that counts and is due by the time, one check fewer is left after its check
    pub one-fewer-left : (ps : List PairRecord) (q : PairRecord) → Has (map (scheduled now t) ps) q → (d : ℕ) → q.due ≡ Some d → d ≤ by → w.skips q.number ≡ false → Counts w.both q.nomination
        → leads w by (change_pair q.number (checked now t c id) (map (scheduled now t) ps)) + 1 ≤ leads w by ps
    one-fewer-left ps q there d fixed due other counts =
        let a : leads w by (change_pair q.number (checked now t c id) (map (scheduled now t) ps)) + 1 ≤ leads w by (map (scheduled now t) ps) =
        leads-less w by (change_at q.number (checked now t c id)) (map (scheduled now t) ps) q (change-no-more q.number) there (change-less d q fixed due other counts) in
        let b : leads w by (map (scheduled now t) ps) ≤ leads w by ps = scheduled-no-more ps in
        omega (arith, a, b)

  module _ {H P : Type 0} where
    -- ---- nomination, and removed pairs

    named-ready : (t : StunTiming) (old new : AgentRecord H P) (path : Option Path) → Nominates old path new → Distinct old.pairs → (p : PairRecord) → Has old.pairs p → Ready t p
        → (q : PairRecord) × Has new.pairs q × Alike p q × Ready t q
    named-ready t old new path h distinct p has (due, inr fixed) =
        let k = nominates-has old new path h p has in (k.0, k.1, k.2, ready-fixed t p k.0 k.2 due fixed)
    named-ready t old new path h distinct p has (due, inl invalid) = (p, from (selects_path old new path h), alike-none p, (due, inl invalid)) where
      from : SelectsPath old path new → Has new.pairs p
      from (None, greatest, (is, made)) = subst (λ (a : AgentRecord H P). Has a.pairs p) (sym made) has
      from (Some top, chosen, k) = either (remains (followed old) top (selection_of old)) k
          (λ _ l. subst (λ (a : AgentRecord H P). Has a.pairs p) (sym l.1) has)
          (λ _ l. subst (λ (a : AgentRecord H P). Has a.pairs p) (sym l.1) (still (is_numbered top.number p) refl
          (Has-mapped (change_at top.number (nominated_by_self old.controlling old.lite)) old.pairs p has))) where
            able : Has old.pairs top × (is_eligible old.controlling top ≡ true)
            able = chosen-able old.controlling (followed old) (selection_of old) top chosen

            still : (b : Bool) → is_numbered top.number p ≡ b
                → Has (map (change_at top.number (nominated_by_self old.controlling old.lite)) old.pairs) (if b then nominated_by_self old.controlling old.lite p else p)
                → Has (map (change_at top.number (nominated_by_self old.controlling old.lite)) old.pairs) p
            still true is there =
                let one : p ≡ top = distinct p top has able.0 (eqb-true p.number top.number is) in
                absurd (and-left (is_valid top) (old.controlling || is_nominated top) (ap (λ (x : PairRecord). is_valid x) (sym one) ∙ invalid) able.1)
            still false is there = there

    given-ready : (old new : AgentRecord H P) (path : Option Path) → RemovesExpired now old path new → old.lite ≡ false → Distinct old.pairs → (p : PairRecord) → Has old.pairs p
        → stays_answered (consent_of old.timing) now p ≡ true → nat_lt (unanswered_count p.checks) old.timing.max_retransmits ≡ true → Ready old.timing p
        → (q : PairRecord) × Has new.pairs q × Alike p q × Ready old.timing q
    given-ready old new path h full distinct p has answered young ready = either (list_any (is_expired now old) old.pairs) h
        (λ _ k. (
        let there : Has (expired_gone now old).pairs p = Has-kept (λ q. not (is_expired now old q)) old.pairs p has (stays-young old.lite now old.timing p full answered young) in
        let q = named-ready old.timing (expired_gone now old) k.0 path k.1 ((thinned-filter 0 (λ q. not (is_expired now old q)) old.pairs).distinct distinct) p there ready in
        subst (λ (a : AgentRecord H P). (q : PairRecord) × Has a.pairs q × Alike p q × Ready old.timing q) (sym k.2) (q.0, q.1, q.2, q.3)))
        (λ _ k. subst (λ (a : AgentRecord H P). (q : PairRecord) × Has a.pairs q × Alike p q × Ready old.timing q) (sym k.1) (p, has, alike-none p, ready))

    module _ (w : Measure) where
      pub named-less : (old new : AgentRecord H P) (path : Option Path) → Nominates old path new → leads w by new.pairs ≤ leads w by old.pairs
      named-less old new path h =
          let le : leads w by new.pairs + formed_by w old.next_number ≤ leads w by old.pairs + formed_by w new.next_number = (nominates-onward 0 by (suc by) old new path h).1.less w (omega arith) in
          let same : formed_by w new.next_number ≡ formed_by w old.next_number = ap (λ (b : Base). formed_by w b.next_number) (nominates-thins 0 old new path h).0 in
          omega (arith, le, same)

      pub given-less : (old new : AgentRecord H P) (path : Option Path) → RemovesExpired now old path new → leads w by new.pairs ≤ leads w by old.pairs
      given-less old new path h = either (list_any (is_expired now old) old.pairs) h
          (λ _ k. subst (λ (a : AgentRecord H P). leads w by a.pairs ≤ leads w by old.pairs) (sym k.2)
          (let a : leads w by k.0.pairs ≤ leads w by (expired_gone now old).pairs = named-less (expired_gone now old) k.0 path k.1 in
          let b : leads w by (expired_gone now old).pairs ≤ leads w by old.pairs = leads-filter w by (λ q. not (is_expired now old q)) old.pairs in
          omega (arith, a, b)))
          (λ _ k. subst (λ (a : AgentRecord H P). leads w by a.pairs ≤ leads w by old.pairs) (sym k.1) (omega arith))

    -- ---- the check

    -- its due time is fixed, and no more checks go before it; one check fewer does, or a check went ahead, if the check is in turn
    abbrev pub WaitsOn : Type 0 → AgentRecord H P → AgentRecord H P → PairRecord → Type 0
    WaitsOn InTurn old new p =
        (d : ℕ) × (d ≤ by) × Fixed p.number d (kept_of p) new.pairs × ((w : Measure) → leads w by new.pairs ≤ leads w by old.pairs)
        × (InTurn → Falls (is_modern old.timing) old.ahead_turn new.ahead_turn (leads (all-but p.number) by old.pairs) (leads (all-but p.number) by new.pairs))

    -- the check goes ahead, or the pair is due by the time
    abbrev Chosen : AgentRecord H P → PairRecord → Type 0
    Chosen old q = (is_ahead_turn now (all_scheduled now old) ≡ true) ⊎ (due_time_of now old.timing q ≤ by)

    module _ (mac : H → List ℕ → List ℕ → List ℕ) where
      check-goes : (old new : AgentRecord H P) (s u : Stream) (issued : Option Issued) (remote : Option IceCreds) → is_some remote ≡ true → old.lite ≡ false
          → Distinct old.pairs → 0 < old.timing.max_retransmits → (p : PairRecord) → Has old.pairs p → due_time_of now old.timing p ≤ by
          → MayCheck mac now remote old s issued new u
          → ((id : List ℕ) × (issued ≡ Some (issued_as (path_of old p) class.Request id))) ⊎ WaitsOn (NoneAtCheck now old) old new p
      check-goes old new s u issued remote known full distinct some p has due h =
          let k = next-check mac now remote old new s u issued known full h in by-next k.0 k.1 k.2 k.3 where
            in_asked : Has (map (scheduled now old.timing) old.pairs) (scheduled now old.timing p)
            in_asked = Has-mapped (scheduled now old.timing) old.pairs p has

            begins : Bool
            begins = nominates_at_once (all_scheduled now old)

            whose : (peer : IceCreds) (q : PairRecord) (id : List ℕ) → new.ahead_turn ≡ not (is_ahead_turn now (all_scheduled now old))
                → new.pairs ≡ change_pair q.number (sent_at begins now old.timing old.controlling id) (map (scheduled now old.timing) old.pairs)
                → issued ≡ Some (issued_as (path_of old q) class.Request id) → Has (map (scheduled now old.timing) old.pairs) q
                → (o : PairRecord) × Has old.pairs o × (scheduled now old.timing o ≡ q) → (NoneAtCheck now old → Chosen old q)
                → (b : Bool) → (p.number == q.number) ≡ b
                → ((id : List ℕ) × (issued ≡ Some (issued_as (path_of old p) class.Request id))) ⊎ WaitsOn (NoneAtCheck now old) old new p
            whose peer q id turned sent is there (o, o_has, o_is) chosen true same =
                let one : o ≡ p = distinct o p o_has has (ap (λ (x : PairRecord). x.number) o_is ∙ sym (eqb-true p.number q.number same)) in
                inl (id, is ∙ ap (λ (x : PairRecord). Some (issued_as (path_of old x) class.Request id)) (sym o_is ∙ ap (scheduled now old.timing) one))
            whose peer q id turned sent is there (o, o_has, o_is) chosen false apart =
                inr (
                  due_time_of now old.timing p,
                  due,
                  subst (λ ps. Fixed p.number (due_time_of now old.timing p) (kept_of p) ps) (sym sent) (scheduled now old.timing p, stays, refl, refl, refl),
                  no-more,
                  λ turn. falls (plain turn) (chosen turn),
                ) where
                  change : PairRecord → PairRecord
                  change x = sent_at begins now old.timing old.controlling id x

                  stays : Has (change_pair q.number change (map (scheduled now old.timing) old.pairs)) (scheduled now old.timing p)
                  stays = subst (λ b. Has (change_pair q.number change (map (scheduled now old.timing) old.pairs))
                      (if b then change (scheduled now old.timing p) else scheduled now old.timing p)) apart
                      (Has-mapped (change_at q.number change) (map (scheduled now old.timing) old.pairs) (scheduled now old.timing p) in_asked)

                  -- no nomination begins
                  plain : NoneAtCheck now old → new.pairs ≡ change_pair q.number (checked now old.timing old.controlling id) (map (scheduled now old.timing) old.pairs)
                  plain turn = sent ∙ ap (λ b. change_pair q.number (sent_at b now old.timing old.controlling id) (map (scheduled now old.timing) old.pairs))
                      turn

                  q_fixed : q.due ≡ Some (due_time_of now old.timing o)
                  q_fixed = ap (λ (x : PairRecord). x.due) (sym o_is)

                  o_due : due_time_of now old.timing q ≤ by → due_time_of now old.timing o ≤ by
                  o_due q_due = subst (λ d. d ≤ by) (ap (λ (x : PairRecord). due_time_of now old.timing x) (sym o_is)) q_due

                  other : (q.number == p.number) ≡ false
                  other = not-same (q.number == p.number) refl where
                    not-same : (b : Bool) → (q.number == p.number) ≡ b → (q.number == p.number) ≡ false
                    not-same true same = (let no : true ≡ false = sym (eq-eqb p.number q.number (sym (eqb-true q.number p.number same))) ∙ apart in absurd (cc))
                    not-same false same = same

                  no-more : (w : Measure) → leads w by new.pairs ≤ leads w by old.pairs
                  no-more w = subst (λ ps. leads w by ps ≤ leads w by old.pairs) (sym sent) (after-check old.timing old.controlling id some w begins q.number old.pairs)

                  one-fewer : new.pairs ≡ change_pair q.number (checked now old.timing old.controlling id) (map (scheduled now old.timing) old.pairs) → due_time_of now old.timing q ≤ by
                      → leads (all-but p.number) by new.pairs < leads (all-but p.number) by old.pairs
                  one-fewer made q_due =
                      let a = one-fewer-left old.timing old.controlling id some (all-but p.number) old.pairs q there (due_time_of now old.timing o) q_fixed (o_due q_due) other (inl refl) in
                      subst (λ ps. leads (all-but p.number) by ps < leads (all-but p.number) by old.pairs) (sym made) (omega (arith, a))

                  falls : new.pairs ≡ change_pair q.number (checked now old.timing old.controlling id) (map (scheduled now old.timing) old.pairs) → Chosen old q
                      → Falls (is_modern old.timing) old.ahead_turn new.ahead_turn (leads (all-but p.number) by old.pairs) (leads (all-but p.number) by new.pairs)
                  falls made which = elim which [
                    | inl on ↦
                        (let turn = is-turn (is_modern old.timing) old.ahead_turn (are_kinds_in_turn (all_scheduled now old) || has_first now (all_scheduled now old)) on in
                        inr (no-more (all-but p.number), turn.0, turn.1, turned ∙ ap not on))
                    | inr q_due ↦ inl (one-fewer made q_due)
                  ]

            by-next : (peer : IceCreds) (next : Option PairRecord) → IsNextToCheck now (all_scheduled now old) next → ChecksTop mac now peer next (all_scheduled now old) s issued new u
                → ((id : List ℕ) × (issued ≡ Some (issued_as (path_of old p) class.Request id))) ⊎ WaitsOn (NoneAtCheck now old) old new p
            by-next peer None chosen h =
                let it : is_due now old.timing (scheduled now old.timing p) ≡ true = le-is (due_time_of now old.timing p) now (let d = due in omega (arith, d, late)) in
                absurd (none_pass (is_due now old.timing) (map (scheduled now old.timing) old.pairs) (scheduled now old.timing p) (none-is-due now (all_scheduled now old) chosen) in_asked it)
            by-next peer (Some q) chosen (id, drawn, values, is, made) =
                let there : Has (map (scheduled now old.timing) old.pairs) q = next-has now (all_scheduled now old) q chosen in
                whose peer q id (ap (λ (a : AgentRecord H P). a.ahead_turn) made) (pairs-sent mac now peer q id (all_scheduled now old) new made) is there (Has-map (scheduled now old.timing) old.pairs q there)
                (λ turn. in-turn turn (is_ahead_turn now (all_scheduled now old)) refl) (p.number == q.number) refl where
                  in-turn : nominates_at_once (all_scheduled now old) ≡ false → (b : Bool) → is_ahead_turn now (all_scheduled now old) ≡ b → Chosen old q
                  in-turn calm true on = inl on
                  in-turn calm false off =
                      let next = next-in-turn now (all_scheduled now old) (Some q) calm off chosen in
                      let before : GoesBefore now old.timing q (scheduled now old.timing p) = next.0.1 (scheduled now old.timing p) in_asked in
                      inr (first-due (due_time_of now old.timing q) (due_time_of now old.timing p) p q before due)

      -- ---- the `handle_timeout` call

      pub timeout-goes : (old new : AgentRecord H P) (s u : Stream) (emitted : Emitted) → is_some old.remote_creds ≡ true → old.lite ≡ false
          → Distinct old.pairs → 0 < old.timing.max_retransmits → (p : PairRecord) → Has old.pairs p
          → stays_answered (consent_of old.timing) now p ≡ true → nat_lt (unanswered_count p.checks) old.timing.max_retransmits ≡ true → Ready old.timing p
          → (h : MaintainsPairs mac now old s emitted new u) → ChecksOn old emitted p ⊎ WaitsOn (NoneAtCheck now h.4) old new p
      timeout-goes old new s u emitted known full distinct some p has answered young ready (first, second, issued, named, kept, nominating, giving, checking, is) =
          let left = leaves-thins now (at_timeout now old) in
          let a = names-thins now (at_timeout now old) named first nominating in
          let b = expires-thins 0 now named kept second giving in
          let p_left = as-left now (at_timeout now old) p in
          let x = named-ready old.timing (path_left now (at_timeout now old)) named first nominating (left.1.distinct distinct) p_left
          (there-left now (at_timeout now old) p has (keeps-young now (at_timeout now old) p young)) (ready-left now (at_timeout now old) by old.timing p ready) in
          let timing : named.timing ≡ old.timing = ap (λ (y : Base). y.timing) a.0 in
          let y = given-ready named kept second giving (ap (λ (y : Base). y.lite) a.0 ∙ full) (a.1.distinct distinct) x.0 x.1 (answered-on old.timing named.timing now p x.0 timing x.2.consented answered)
          (ap (λ cs. nat_lt (unanswered_count cs) named.timing.max_retransmits) x.2.checks ∙ (ap (λ (z : StunTiming). nat_lt (unanswered_count p.checks) z.max_retransmits) timing ∙ young))
          (subst (λ z. Ready z x.0) (sym timing) x.3) in
          let base : agent_base kept ≡ agent_base (at_timeout now old) = b.0 ∙ a.0 in
          let alike = joins p_left x.0 y.0 x.2 y.2 in
          let same : kept.timing ≡ named.timing = ap (λ (z : Base). z.timing) b.0 in
          let lessened : (w : Measure) → leads w by kept.pairs ≤ leads w by old.pairs =
          (λ w. (let k : leads w by (path_left now (at_timeout now old)).pairs ≤ leads w by old.pairs = leads-left now (at_timeout now old) by late w in
          let l : leads w by named.pairs ≤ leads w by (path_left now (at_timeout now old)).pairs = named-less w (path_left now (at_timeout now old)) named first nominating in
          let m : leads w by kept.pairs ≤ leads w by named.pairs = given-less w named kept second giving in
          omega (arith, k, l, m))) in
          elim (check-goes kept new s u issued kept.remote_creds (ap (λ (z : Base). is_some z.remote_creds) base ∙ known) (ap (λ (z : Base). z.lite) base ∙ full)
          (b.1.distinct (a.1.distinct distinct)) (subst (λ (z : StunTiming). 0 < z.max_retransmits) (sym (same ∙ timing)) some) y.0 y.1
          (subst (λ (z : StunTiming). due_time_of now z y.0 ≤ by) (sym same) y.3.0) checking) [
            | inl (id, out) ↦
                inl (
                  id,
                  ap (λ (z : Emitted). z.issued) is ∙ (out ∙ ap (λ w. Some (issued_as w class.Request id))
                      (same-path old kept p_left y.0 (ap (λ (z : Base). z.local) base) (ap (λ (z : Base). z.remote) base)
                      (record { number = alike.number; local = alike.local; remote = alike.remote; valid = alike.valid }))),
                )
            | inr (d, due, fixed, fewer, falls) ↦
                (let falls_for : NoneAtCheck now kept → Falls (is_modern kept.timing) kept.ahead_turn new.ahead_turn (leads (all-but p.number) by kept.pairs) (leads (all-but p.number) by new.pairs) =
                λ turn. subst (λ k. Falls (is_modern kept.timing) kept.ahead_turn new.ahead_turn (leads (all-but k) by kept.pairs) (leads (all-but k) by new.pairs)) alike.number
                (falls turn) in
                inr (
                  d,
                  due,
                  subst (λ k. Fixed p.number d k new.pairs) (alike-kept p_left y.0 alike) (subst (λ k. Fixed k d (kept_of y.0) new.pairs) alike.number fixed),
                  λ w. (let few = fewer w in let l = lessened w in omega (arith, few, l)),
                  λ turn. falls-from (is_modern kept.timing) (is_modern old.timing) kept.ahead_turn old.ahead_turn new.ahead_turn
                      (leads (all-but p.number) by kept.pairs) (leads (all-but p.number) by old.pairs) (leads (all-but p.number) by new.pairs)
                      (ap (λ (z : Base). is_modern z.timing) (sym base)) (ap (λ (z : Base). z.ahead_turn) (sym base)) (lessened (all-but p.number)) (falls_for turn),
                ))
          ]
