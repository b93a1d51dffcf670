-- A call of C is one use, or two. What mutants/specifications changes is read by tactics.
use Rattle.is_c_theorems.specs.Headline.{used, FollowedAreUses}
use Rattle.is_c_theorems.proofs.Common.{◌&&◌, ◌∷◌, ◌≡◌, ◌⊎◌, Bool, Does, FixTimes, Followed, HeldRecord, inl, inr, is_modern, is_ok, List}
use Rattle.is_c_theorems.proofs.Common.{OK, refl, Session, subst, sym, Use, Used, ℤ}
use Rattle.is_c_theorems.proofs.CallsAsSteps.{either}

abbrev Goes : HeldRecord → HeldRecord → List Used → Use → ℤ → Type 0
Goes first new uses export code =
    (more : List Used) × Session first more new
    × ((more ≡ used export code ∷ uses) ⊎ ((fixes : Bool) × (more ≡ used (FixTimes fixes) OK ∷ used export code ∷ uses)))

one_or_two : (soon : HeldRecord → HeldRecord → Bool) (first old new : HeldRecord) (uses : List Used) (export : Use) (code : ℤ)
    → Session first uses old → Followed soon export old code new → Goes first new uses export code
one_or_two soon first old new uses export code session (mid, does, follows) = either (is_ok code && is_modern mid.agent.timing) fixed same follows where
  before : Session first (used export code ∷ uses) mid
  before = (old, session, does)

  fixed : Does (FixTimes (soon old mid)) mid OK new → Goes first new uses export code
  fixed fixes = (used (FixTimes (soon old mid)) OK ∷ used export code ∷ uses, (mid, before, fixes), inr (soon old mid, refl))

  same : new ≡ mid → Goes first new uses export code
  same is = (used export code ∷ uses, subst (λ (h : HeldRecord). Session first (used export code ∷ uses) h) (sym is) before, inl refl)

pub are_uses : FollowedAreUses
are_uses soon first old new uses export code session followed =
    search (one_or_two soon first old new uses export code (search session) (search followed))
