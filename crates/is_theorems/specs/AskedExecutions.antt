-- When an agent selects a path in an execution. A controlled agent: if it accepted the peer's nomination of a path, and a success
-- response was received on the path, by the end of the next `handle_timeout` call. A controlling agent: by its first accepted
-- success response.
use Rattle.std.specs.Prelude.{◌≡◌, ℕ, ◌⊎◌, true, false, List, [], ◌∷◌, ◌++◌, Option, None, is_some, if◌then◌else◌}
use Rattle.std.specs.Option.{option_or}
use Rattle.rand_core.specs.Stream.{Stream}
use Rattle.is_proto.specs.Lists.{Has}
use Rattle.is_candidate.specs.Candidates.{CandidateRecord}
use Rattle.is_pair.specs.Pairs.{PairRecord, is_valid}
use Rattle.is_stun.specs.declared.header.Class.TheVariants as class
use Rattle.is_stun.specs.Message.{Message}
use Rattle.is_rules.specs.declared.emitted.Path.{Path}
use Rattle.is_rules.specs.Agent.{AgentRecord}
use Rattle.is_rules.specs.Answers.{is_reverse}
use Rattle.is_theorems.specs.Asked.{UsesAddressesOf, IsOnlyPair}
use Rattle.is_theorems.specs.Asking.{AcceptsNomination}
use Rattle.is_rules.specs.Brought.{Brings}
use Rattle.is_rules.specs.Effects.{clears, last_of}
use Rattle.is_theorems.specs.Exchange.{Execution}
use Rattle.is_rules.specs.Points.{HasSelected}
use Rattle.is_rules.specs.Queue.{request_at}
use Rattle.is_theorems.specs.Runs.{IsFresh}
use Rattle.is_theorems.specs.Staying.{MayEnd}
use Rattle.is_rules.specs.Steps.{Call, Entry, ReceivePacket, HandleTimeout, Done, Step}

-- An accepted success response was received on the reverse path.
abbrev pub AcceptsSuccessOn : {P : Type 0} → Call P → Entry → Path → Type 0
AcceptsSuccessOn call e path =
    (at : ℕ) × (by : Path) × (m : Message) × Brings call e at by m × (m.class ≡ class.Success) × (is_reverse by path ≡ true)

abbrev pub IsAnsweredAlong : {P : Type 0} → List (Call P × Entry) → Path → Type 0
IsAnsweredAlong xs path = (x : Call _ × Entry) × Has xs x × AcceptsSuccessOn x.0 x.1 path

abbrev pub SelectsAlong : {P : Type 0} → List (Call P × Entry) → Type 0
SelectsAlong xs = (x : Call _ × Entry) × Has xs x × (is_some (last_of x.1.emitted.selected_paths) ≡ true)

-- the path that was selected last since the last clear, if it was this one before these calls
abbrev pub selected_along : {P : Type 0} → Option Path → List (Call P × Entry) → Option Path
selected_along path [] = path
selected_along path (x ∷ rest) = selected_along (option_or (last_of x.1.emitted.selected_paths) (if clears x.0 x.1.answer then None else path)) rest

module _ {H P : Type 0} where
  -- The transition may remove a pair that uses the path's addresses.
  abbrev pub Ends : (P → CandidateRecord → ℕ → ℕ → Type 0) → AgentRecord H P → Call P → Entry → Path → Type 0
  Ends answers a call e path = (p : PairRecord) × Has a.pairs p × UsesAddressesOf a path p × MayEnd answers a call e p

  module _ (mac : H → List ℕ → List ℕ → List ℕ) (answers : P → CandidateRecord → ℕ → ℕ → Type 0) where
    -- One of these calls may remove a pair that uses the path's addresses.
    abbrev pub EndsAlong : (xs : List (Call P × Entry)) (old new : AgentRecord H P) → Execution mac answers xs old new → Path → Type 0
    EndsAlong [] old new execution path = ⊥
    EndsAlong (x ∷ rest) old new execution path = Ends answers old x.0 x.1 path ⊎ EndsAlong rest execution.0 new execution.5 path

    -- A call accepts the nomination of the path, and the agent is controlled afterwards.
    abbrev pub AcceptsNominationAlong : (xs : List (Call P × Entry)) (old new : AgentRecord H P) → Execution mac answers xs old new → Path → Type 0
    AcceptsNominationAlong [] old new execution path = ⊥
    AcceptsNominationAlong (x ∷ rest) old new execution path =
        (AcceptsNomination old x.0 x.1 path × (execution.0.controlling ≡ false)) ⊎ AcceptsNominationAlong rest execution.0 new execution.5 path

    -- In a segment of an execution the agent accepted the nomination of a path and received a success response on it, in either
    -- order. A `handle_timeout` call that serves no early request follows. If only one pair uses the path's addresses then, the
    -- agent has selected a path by the end of this call, and the last one is that of an eligible pair with the greatest stored
    -- priority, unless a pair that uses them may have been removed.
    abbrev pub AcceptedNominationsAreSelected : Type 0
    AcceptedNominationsAreSelected =
        (first start near last : AgentRecord H P) (before xs : List (Call P × Entry)) (s t : Stream) (now : ℕ) (timeout : Entry) (path : Path)
        → IsFresh first → Execution mac answers before first start → (execution : Execution mac answers xs start near)
        → Step mac answers near s (HandleTimeout now) timeout last t → timeout.answer ≡ Done → request_at now near ≡ None
        → AcceptsNominationAlong xs start near execution path → IsAnsweredAlong xs path → IsOnlyPair last path
        → (SelectsAlong (before ++ (xs ++ (HandleTimeout now, timeout) ∷ []))
        × HasSelected (selected_along None (before ++ (xs ++ (HandleTimeout now, timeout) ∷ []))) last)
        ⊎ (EndsAlong xs start near execution path ⊎ Ends answers near (HandleTimeout now) timeout path)

    -- A controlling agent: no pair is valid when a segment of an execution begins. An accepted success response ends the segment,
    -- and the agent is controlling afterwards. Then a path was selected in the segment, and the last one is that of an eligible
    -- pair with the greatest stored priority.
    abbrev pub SuccessesSelect : Type 0
    SuccessesSelect =
        (first start near last : AgentRecord H P) (before xs : List (Call P × Entry)) (s t : Stream) (now : ℕ) (via : Path) (bytes : List ℕ) (e : Entry) (m : Message)
        → IsFresh first → Execution mac answers before first start → ((p : PairRecord) → Has start.pairs p → is_valid p ≡ false)
        → Execution mac answers xs start near → Step mac answers near s (ReceivePacket now via bytes) e last t
        → Brings {P = P} (ReceivePacket now via bytes) e now via m → m.class ≡ class.Success → last.controlling ≡ true
        → SelectsAlong (xs ++ (ReceivePacket now via bytes, e) ∷ [])
        × HasSelected (selected_along None (before ++ (xs ++ (ReceivePacket now via bytes, e) ∷ []))) last
