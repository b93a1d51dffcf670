-- Renomination in executions of one agent that may share its random source, as each of two agents does: what the controlling agent
-- nominated last is what it selected last, and so it is with what the controlled agent was nominated last.
use Rattle.std.specs.Prelude.{◌≡◌, ℕ, ◌⊎◌, true, false, List, [], ◌∷◌, ◌++◌, None, Some}
use Rattle.rand_core.specs.Stream.{Stream}
use Rattle.is_proto.specs.Packets.{Packet}
use Rattle.is_candidate.specs.Candidates.{CandidateRecord}
use Rattle.is_stun.specs.declared.header.Class.TheVariants.{Request}
use Rattle.is_rules.specs.declared.emitted.Path.{Path}
use Rattle.is_rules.specs.Agent.{AgentRecord}
use Rattle.is_theorems.specs.Asked.{IsOnlyPair}
use Rattle.is_theorems.specs.AskedExecutions.{selected_along, Ends, EndsAlong, IsAnsweredAlong}
use Rattle.is_theorems.specs.Asking.{AreNominatedOn, AcceptsNomination}
use Rattle.is_theorems.specs.Delivery.{Sends}
use Rattle.is_theorems.specs.Exchange.{Execution}
use Rattle.is_rules.specs.Issuing.{via_out}
use Rattle.is_rules.specs.Nominating.{numbers}
use Rattle.is_rules.specs.Queue.{request_at}
use Rattle.is_rules.specs.Steps.{Call, Entry, HandleTimeout, Done, Step}
use Rattle.is_theorems.specs.Shared.{IsNewlyCreated}

module _ {H P : Type 0} (mac : H → List ℕ → List ℕ → List ℕ) (answers : P → CandidateRecord → ℕ → ℕ → Type 0) where
  -- ---- the controlling agent

  -- In a `handle_timeout` call the agent sends a check on a path whose pairs are nominated, while nominations replace earlier ones.
  -- Then this path is the one that it selected last.
  abbrev pub NominatedAreLast : Type 0
  NominatedAreLast =
      (first old sent : AgentRecord H P) (before : List (Call P × Entry)) (s t : Stream) (now : ℕ) (timeout : Entry) (check : Packet) (id : List ℕ)
      → IsNewlyCreated first → Execution mac answers before first old → Step mac answers old s (HandleTimeout now) timeout sent t → Sends old timeout Request id check sent
      → sent.renominates ≡ true → AreNominatedOn sent (via_out check)
      → selected_along None (before ++ (HandleTimeout now, timeout) ∷ []) ≡ Some (via_out check)

  -- ---- the controlled agent

  -- Each nomination that the agent accepts in the segment is of this path.
  abbrev pub AcceptsNominationOnlyAlong : (xs : List (Call P × Entry)) (old new : AgentRecord H P) → Execution mac answers xs old new → Path → Type 0
  AcceptsNominationOnlyAlong [] old new execution path = Unit {0}
  AcceptsNominationOnlyAlong (x ∷ rest) old new execution path = ((one : Path) → AcceptsNomination old x.0 x.1 one → one ≡ path) × AcceptsNominationOnlyAlong rest execution.0 new execution.5 path

  -- A call accepts the nomination of this path, and the agent is controlled afterwards. It accepts no other nomination after that.
  abbrev pub AcceptsNominationLastAlong : (xs : List (Call P × Entry)) (old new : AgentRecord H P) → Execution mac answers xs old new → Path → Type 0
  AcceptsNominationLastAlong [] old new execution path = ⊥
  AcceptsNominationLastAlong (x ∷ rest) old new execution path =
      (AcceptsNomination old x.0 x.1 path × (execution.0.controlling ≡ false) × AcceptsNominationOnlyAlong rest execution.0 new execution.5 path) ⊎ AcceptsNominationLastAlong rest execution.0 new execution.5 path

  -- In a segment of an execution the agent accepted the nomination of a path last, and received a success response on it, in either
  -- order. A `handle_timeout` call that serves no early request follows, while the agent is controlled and nominations replace earlier
  -- ones, without numbers. If only one pair uses the path's addresses then, the path is the one that it selected last, unless a pair that uses them may
  -- have been removed.
  abbrev pub LastAcceptedNominationsAreLast : Type 0
  LastAcceptedNominationsAreLast =
      (first start near last : AgentRecord H P) (before xs : List (Call P × Entry)) (s t : Stream) (now : ℕ) (timeout : Entry) (path : Path)
      → IsNewlyCreated first → Execution mac answers before first start → (execution : Execution mac answers xs start near)
      → Step mac answers near s (HandleTimeout now) timeout last t → timeout.answer ≡ Done → request_at now near ≡ None
      → last.renominates ≡ true → numbers last ≡ false → near.controlling ≡ false
      → AcceptsNominationLastAlong xs start near execution path → IsAnsweredAlong xs path → IsOnlyPair last path
      → (selected_along None (before ++ (xs ++ (HandleTimeout now, timeout) ∷ [])) ≡ Some path)
      ⊎ (EndsAlong mac answers xs start near execution path ⊎ Ends answers near (HandleTimeout now) timeout path)
