-- Nomination points, at which the selected pair is one of the greatest: after an accepted success response, and after a
-- `handle_timeout` call that serves no early request.
use Rattle.std.specs.Prelude.{◌≡◌, ℕ, true, Option, Some, None, IfSome}
use Rattle.is_proto.specs.Lists.{Has}
use Rattle.is_pair.specs.Pairs.{PairRecord, is_valid}
use Rattle.is_stun.specs.declared.header.Class.TheVariants as class
use Rattle.is_stun.specs.Message.{Message}
use Rattle.is_rules.specs.declared.emitted.Path.{Path}
use Rattle.is_rules.specs.Steps.{Done, Entry}
use Rattle.is_rules.specs.Agent.{AgentRecord}
use Rattle.is_rules.specs.Nominating.{followed, is_eligible, remains, selection_of, IsChosen}
use Rattle.is_rules.specs.Sending.{path_of}
use Rattle.is_rules.specs.Queue.{request_at}
use Rattle.is_rules.specs.Answers.{keeps_check_on}
use Rattle.is_rules.specs.Steps.{Call, HandleTimeout}
use Rattle.is_rules.specs.Brought.{Brings}

module _ {H P : Type 0} where
  -- If a pair is eligible, the selected pair exists, with the greatest priority of the eligible ones. If the agent follows its
  -- peer, it is the favored pair, if there is one.
  abbrev pub IsTopSelected : AgentRecord H P → Type 0
  IsTopSelected a =
      (top : Option PairRecord) × IsChosen a.controlling (followed a) (selection_of a) top
      × IfSome top (λ best. remains (followed a) best (selection_of a) ≡ true)

  -- The path is that of an eligible pair with the greatest stored priority. If the agent follows its peer, it is that of the favored
  -- pair, if there is one.
  abbrev pub HasSelected : Option Path → AgentRecord H P → Type 0
  HasSelected path a =
      (top : PairRecord) × Has a.pairs top × (is_eligible a.controlling top ≡ true) × (path ≡ Some (path_of a top))
      × IsChosen a.controlling (followed a) (selection_of a) (Some top)

  -- an accepted success response, or a `handle_timeout` call that succeeds and serves no early request
  abbrev pub IsNominationPoint : AgentRecord H P → Call P → Entry → Type 0
  IsNominationPoint old (HandleTimeout now) e = (e.answer ≡ Done) × (request_at now old ≡ None)
  IsNominationPoint old call e = (at : ℕ) × (by : Path) × (m : Message) × Brings call e at by m × (m.class ≡ class.Success)

  -- A pair that has the transaction that a success response completes is valid.
  abbrev pub AnswersAreValid : Call P → Entry → AgentRecord H P → Type 0
  AnswersAreValid call e new =
      (at : ℕ) (by : Path) (m : Message) → Brings call e at by m → m.class ≡ class.Success
      → (p : PairRecord) × Has new.pairs p × (keeps_check_on new by m.id p ≡ true) × (is_valid p ≡ true)
