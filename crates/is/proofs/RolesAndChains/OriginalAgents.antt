-- The headline of two agents that keep the profile `Original`, from the theorems about roles. What mutants/specifications changes is read by
-- tactics.
use Rattle.is_rules.specs.Steps as agent
use Rattle.is.specs.Headline.{LeavesOriginal, IsOriginalWorld, RolesHeadline}
use Rattle.is.specs.World.{Call}
use Rattle.is.proofs.Common.{[], ◌∷◌, ◌≡◌, AllByRecursion, ap, CandidateRecord, Event, GreaterKeeps, inr, is_modern_profile, IsFairWorld}
use Rattle.is.proofs.Common.{LesserSwitchesOnce, List, LoggedEvent, Original, RolesDifferOnceMet, Side, StaysOriginal, Streams, WorldRecord}
use Rattle.is.proofs.Common.{ℕ}

original_at : {P : Type 0} (side : Side) (event : Event P) → LeavesOriginal side event → StaysOriginal side event
original_at side (Call s (agent.SetProfile profile)) original = λ is. (
    let profile_is : profile ≡ Original = search (original is) in
    ap is_modern_profile profile_is)
original_at side _ original = tt

original_along : {P : Type 0} (side : Side) (log : List (LoggedEvent P)) → AllByRecursion (λ x. LeavesOriginal side x.event) log → AllByRecursion (λ x. StaysOriginal side x.event) log
original_along side [] original = tt
original_along side (x ∷ log) (now, later) = (original_at side x.event now, original_along side log later)

module _ {H P : Type 0} where
  is_fair : (first : WorldRecord H P) (greater : Side) (log : List (LoggedEvent P)) → IsOriginalWorld first greater log → IsFairWorld first greater log
  is_fair first greater log w = record {
    start = w.start;
    tie = search w.tie;
    compares = λ side. inr (original_along side log (search (w.original side)));
  }

  pub roles_headline : (mac : H → List ℕ → List ℕ → List ℕ) (answers : P → CandidateRecord → ℕ → ℕ → Type 0) (first : WorldRecord H P) (s : Streams) (log : List (LoggedEvent P))
      → GreaterKeeps first log → LesserSwitchesOnce first log → RolesDifferOnceMet mac answers first s log → RolesHeadline mac answers first s log
  roles_headline mac answers first s log keeps once differ greater original =
      let fair = is_fair first greater log original in
      record {
        keeps = search (keeps greater fair);
        switches_once = search (once greater fair);
        opposite = λ mid x rest point met. search (differ greater fair mid x rest point met);
      }
