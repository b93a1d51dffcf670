use Rattle.std.proofs.Common.{◌≡◌, ℕ, Bool, true, false, Option, Some, None, subst, sym, ◌&&◌, not, refl, ap, ◌∙◌}
use Rattle.is_rules.specs.Agent.{AgentRecord}
use Rattle.is_rules.specs.Discarding.{local_to_discard, remote_to_discard, Invalidates, InvalidatesAt}
use Rattle.is_agent.specs.View.{record_of, emitted_of}
use Rattle.is_agent.proofs.AgentParts.SelectedAgain.{changes-nothing, selects-again}
use Rattle.is_agent.proofs.AgentParts.PairCounts.{fewer-if-lost}
use Rattle.is_rules.specs.StateUpdates.{has_selected, updates_late}
use Rattle.is_agent.proofs.agent.Agent.invalidate_candidate.Goals as goal

-- without a candidate nothing changes
none-found : {H P : Type 0} (l r : Option ℕ) (old new : AgentRecord H P) → InvalidatesAt l r old false new → new ≡ old
none-found (Some place) r old new h = absurd (cc)
none-found None (Some place) old new h = absurd (cc)
none-found None None old new h = h.1

pub returns-then-not-found : goal.returns-then-not-found
returns-then-not-found g c =
    let old = record_of c.args.self.now in let new = record_of c.discard-found.new.self in let candidate = c.args.candidate.now in
    let does : Invalidates old candidate false new = subst (λ (b : Bool). Invalidates old candidate b new) c.if-not-found.true c.discard-found.ensures.discarded in
    changes-nothing (Invalidates old candidate false) old new c.nothing-self.result does
    (none-found (local_to_discard candidate old) (remote_to_discard candidate old) old new does) c.nothing-self.ensures

-- what was kept before is gone
lost-of : (k : Bool) (s there : Bool) → k ≡ (s && there) → (after : Bool) → (k && not after) ≡ true → (there ≡ true) × (after ≡ false)
lost-of k true true is true h = absurd (cc)
lost-of k true true is false h = (refl, refl)
lost-of k true false is after h = absurd (cc)
lost-of k false there is after h = absurd (cc)

pub release_room-requires : goal.release_room-requires
release_room-requires g c =
    let old = record_of c.args.self.now in let mid = record_of c.discard-found.new.self in let candidate = c.args.candidate.now in
    let found : Invalidates old candidate true mid = subst (λ (b : Bool). Invalidates old candidate b mid) c.if-not-found.false c.discard-found.ensures.discarded in
    let lost : (c.keeps_selected-kept.result && not (has_selected mid)) ≡ true = sym c.is_lost.ensures ∙ c.if-not-is_lost.false in
    let its = lost-of c.keeps_selected-kept.result (updates_late old) (has_selected old) c.keeps_selected-kept.ensures (has_selected mid) lost in
    c.discard-found.ensures.room c.if-not-found.false (fewer-if-lost (local_to_discard candidate old) (remote_to_discard candidate old) old mid found its.0 its.1)

pub returns-then-not-is_lost : goal.returns-then-not-is_lost
returns-then-not-is_lost g c =
    let old = record_of c.args.self.now in let mid = record_of c.discard-found.new.self in let candidate = c.args.candidate.now in
    let found : Invalidates old candidate true mid = subst (λ (b : Bool). Invalidates old candidate b mid) c.if-not-found.false c.discard-found.ensures.discarded in
    let kept : (c.keeps_selected-kept.result && not (has_selected mid)) ≡ false = sym c.is_lost.ensures ∙ c.if-not-is_lost.true in
    selects-again (Invalidates old candidate true) old mid mid c.keeps_selected-kept.result None c.nothing-self-then-not-is_lost.result c.keeps_selected-kept.ensures found
    (rw (kept) (refl, refl)) c.nothing-self-then-not-is_lost.ensures

pub returns : goal.returns
returns g c =
    let old = record_of c.args.self.now in let mid = record_of c.discard-found.new.self in let kept = record_of c.release_room.new.self in let new = c.select_again.new.self in
    let candidate = c.args.candidate.now in
    let found : Invalidates old candidate true mid = subst (λ (b : Bool). Invalidates old candidate b mid) c.if-not-found.false c.discard-found.ensures.discarded in
    let does : Invalidates old candidate true kept = subst (λ (a : AgentRecord g.row.H.Denot g.row.P.Denot). Invalidates old candidate true a) (sym c.release_room.ensures.record) found in
    let (path, after, named, made, emits) = c.select_again.ensures in
    let same : has_selected kept ≡ has_selected mid = ap (λ (a : AgentRecord g.row.H.Denot g.row.P.Denot). has_selected a) c.release_room.ensures.record in
    let lost : (c.keeps_selected-kept.result && not (has_selected kept)) ≡ true = ap (λ (b : Bool). c.keeps_selected-kept.result && not b) same ∙ (sym c.is_lost.ensures ∙ c.if-not-is_lost.false) in
    selects-again (Invalidates old candidate true) old kept (record_of new) c.keeps_selected-kept.result path (emitted_of new) c.keeps_selected-kept.ensures does
    (rw (lost) (after, named, made)) emits
