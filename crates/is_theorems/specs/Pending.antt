-- How long a transaction is pending: until its pair is removed, or until as many later checks were sent as a pair has pending
-- transactions at most. So its response may be received at any time until then.
use Rattle.std.specs.Prelude.{◌≡◌, ℕ, suc, ◌+◌, ◌<◌, ◌≤◌, ◌&&◌, ◌⊎◌, Bool, true, false, not, List, [], ◌∷◌, ◌++◌, length, map, Option, Some, None, if◌then◌else◌}
use Rattle.rand_core.specs.Stream.{Stream}
use Rattle.is_proto.specs.Lists.{Has}
use Rattle.is_proto.specs.Packets.{Packet}
use Rattle.is_candidate.specs.Addresses.{same_address, same_protocol}
use Rattle.is_candidate.specs.Candidates.{CandidateRecord}
use Rattle.is_pair.specs.Checks.{Check, last_checks}
use Rattle.is_pair.specs.Pairs.{PairRecord, is_valid}
use Rattle.is_stun.specs.declared.header.Class.{Class}
use Rattle.is_stun.specs.declared.header.Class.TheVariants.{Request, Success}
use Rattle.is_rules.specs.declared.emitted.Issued.{Issued}
use Rattle.is_rules.specs.declared.emitted.Path.{Path}
use Rattle.is_rules.specs.Agent.{AgentRecord}
use Rattle.is_rules.specs.Answers.{is_reverse}
use Rattle.is_theorems.specs.AskedExecutions.{EndsAlong}
use Rattle.is_theorems.specs.Delivery.{KnowEachOther, Delivered, IsTaken, SentCheck, ReceivedPacket, ServedCheck}
use Rattle.is_theorems.specs.Exchange.{Execution}
use Rattle.is_rules.specs.Issuing.{via_out}
use Rattle.is_rules.specs.Sending.{path_of}
use Rattle.is_rules.specs.Sound.{IsSound, GivesBased}
use Rattle.is_theorems.specs.Staying.{MayEnd}
use Rattle.is_rules.specs.Steps.{Call, Entry, Step}
use Rattle.is_rules.specs.Emitted.{issued_as}

-- the check as it was sent: without the time of a response
abbrev pub as_sent : Check → Check
as_sent c = record c { answered = None }

abbrev pub sent_of : PairRecord → List Check
sent_of p = map as_sent p.checks

abbrev pub is_request : Class → Bool
is_request Request = true
is_request _ = false

abbrev pub is_same_path : Path → Path → Bool
is_same_path a b = same_protocol a.proto b.proto && (same_address a.source b.source && same_address a.destination b.destination)

-- A check is sent on the path.
abbrev pub is_check_on : Path → Option Issued → Bool
is_check_on path None = false
is_check_on path (Some issued) = is_request issued.class && is_same_path issued.path path

-- how many checks are sent on the path
abbrev pub checks_on : {P : Type 0} → Path → List (Call P × Entry) → ℕ
checks_on path [] = 0
checks_on path (x ∷ rest) = if is_check_on path x.1.emitted.issued then suc (checks_on path rest) else checks_on path rest

module _ {H P : Type 0} where
  -- A check of the pair is sent: it is appended to the pending transactions, of which only the last ones stay pending.
  abbrev pub SendsLater : AgentRecord H P → Entry → PairRecord → PairRecord → Type 0
  SendsLater old e p pair =
      (c : Check) × (e.emitted.issued ≡ Some (issued_as (path_of old p) Request c.id))
      × (sent_of pair ≡ last_checks old.timing.max_retransmits (sent_of p ++ c ∷ []))

  -- The pair still exists, on its path, and has the same pending transactions, except for such an addition.
  pub record Follows (old : AgentRecord H P) (e : Entry) (p : PairRecord) (new : AgentRecord H P) : Type 0 where
    pub pair : PairRecord
    pub there : Has new.pairs pair
    pub number : pair.number ≡ p.number
    pub path : path_of new pair ≡ path_of old p
    pub checks : (sent_of pair ≡ sent_of p) ⊎ SendsLater old e p pair

  -- The pair with this number, which is on the path, has the check as a pending transaction, and this many later ones.
  pub record Pends (a : AgentRecord H P) (number : ℕ) (path : Path) (check : Check) (later : ℕ) : Type 0 where
    pub pair : PairRecord
    pub there : Has a.pairs pair
    pub numbered : pair.number ≡ number
    pub on : path_of a pair ≡ path
    pub before : List Check
    pub following : List Check
    pub split : sent_of pair ≡ before ++ check ∷ following
    pub count : length following ≡ later

  -- A later check is sent on the path. Then the transaction is still pending, or there are `max_retransmits` later checks.
  abbrev pub PendsAfter : AgentRecord H P → Entry → ℕ → Path → Check → ℕ → AgentRecord H P → Type 0
  PendsAfter old e number path check later new =
      (id : List ℕ) × (e.emitted.issued ≡ Some (issued_as path Request id))
      × (Pends new number path check (suc later) ⊎ (old.timing.max_retransmits ≤ suc later))

  -- The transition may remove the pair.
  abbrev pub EndsOf : (P → CandidateRecord → ℕ → ℕ → Type 0) → AgentRecord H P → Call P → Entry → ℕ → Path → Type 0
  EndsOf answers old call e number path =
      (p : PairRecord) × Has old.pairs p × (p.number ≡ number) × (path_of old p ≡ path) × MayEnd answers old call e p

  module _ (mac : H → List ℕ → List ℕ → List ℕ) (answers : P → CandidateRecord → ℕ → ℕ → Type 0) where
    -- Each transition, including a `handle_timeout` call, leaves each pair its pending transactions and adds at most one, unless
    -- it may remove the pair. A response removes none.
    abbrev pub PairsKeepChecks : Type 0
    PairsKeepChecks =
        (old new : AgentRecord H P) (s t : Stream) (call : Call P) (e : Entry) (p : PairRecord)
        → IsSound old → GivesBased call → Step mac answers old s call e new t → Has old.pairs p → Follows old e p new ⊎ MayEnd answers old call e p

    -- Each transition leaves one pending transaction as it is, or sends a later check on its path, unless it may remove the pair.
    abbrev pub ChecksPend : Type 0
    ChecksPend =
        (old new : AgentRecord H P) (s t : Stream) (call : Call P) (e : Entry) (number : ℕ) (path : Path) (check : Check) (later : ℕ)
        → IsSound old → GivesBased call → Step mac answers old s call e new t → Pends old number path check later
        → Pends new number path check later ⊎ (PendsAfter old e number path check later new ⊎ EndsOf answers old call e number path)

    -- ---- in an execution

    -- At each of its calls the agent's `max_retransmits` is at least this limit.
    abbrev pub KeepsAlong : (limit : ℕ) (xs : List (Call P × Entry)) (old new : AgentRecord H P) → Execution mac answers xs old new → Type 0
    KeepsAlong limit [] old new execution = Unit {0}
    KeepsAlong limit (x ∷ rest) old new execution = (limit ≤ old.timing.max_retransmits) × KeepsAlong limit rest execution.0 new execution.5

    -- A transaction is pending over any calls, while it and the later checks on its path are no more than the limit, unless a
    -- pair on the path may have been removed.
    abbrev pub ChecksPendAlong : Type 0
    ChecksPendAlong =
        (old new : AgentRecord H P) (xs : List (Call P × Entry)) (number : ℕ) (path : Path) (check : Check) (later limit : ℕ)
        → IsSound old → (execution : Execution mac answers xs old new) → KeepsAlong limit xs old new execution → Pends old number path check later
        → later + checks_on path xs < limit
        → ((n : ℕ) × (n ≤ later + checks_on path xs) × Pends new number path check n) ⊎ EndsAlong mac answers xs old new execution path

    -- A pair on the reverse of the packet's path is valid.
    abbrev pub IsValidBy : AgentRecord H P → Path → Type 0
    IsValidBy a path = (p : PairRecord) × Has a.pairs p × (is_reverse path (path_of a p) ≡ true) × (is_valid p ≡ true)

    -- The response is returned while the check is pending: after any calls of the check's sender, of which fewer send a later
    -- check on the path than a pair stores. Then the sender and the agent that sent the response know each other.
    pub record ReturnedWhilePending (k : SentCheck mac answers) (b : AgentRecord H P) (response : Packet) : Type 0 where
      pub mid : AgentRecord H P
      pub calls : List (Call P × Entry)
      pub execution : Execution mac answers calls k.sent mid
      pub limit : ℕ
      pub keeps : KeepsAlong limit calls k.sent mid execution
      pub few : checks_on (via_out k.check) calls < limit
      pub know : KnowEachOther mac mid b
      pub taken : AgentRecord H P
      pub at : ℕ
      pub returned : Entry
      pub delivered : Delivered mac answers response at mid returned taken

    -- The response is accepted, and a pair on its path is valid, unless a pair on the check's path may have been removed before.
    abbrev pub SucceedsOrEnds : (k : SentCheck mac answers) (b : AgentRecord H P) (response : Packet) → ReturnedWhilePending k b response → Type 0
    SucceedsOrEnds k b response r =
        (IsTaken mac answers response r.at r.returned Success × IsValidBy r.taken (via_out response))
        ⊎ EndsAlong mac answers r.calls k.sent r.mid r.execution (via_out k.check)

    -- If a check is sent, and received at any time as it was sent, by an agent that knew its sender then and has the other role,
    -- it is served. If its success response is returned while the check is pending, the exchange succeeds.
    abbrev pub ExchangesSucceedLater : Type 0
    ExchangesSucceedLater =
        (k : SentCheck mac answers) (c : ReceivedPacket mac answers k.check) → KnowEachOther mac k.sender c.receiver
        → c.receiver.controlling ≡ not k.sender.controlling
        → (s : ServedCheck mac answers k k.check c)
        × ((r : ReturnedWhilePending k c.receiver s.reply) → SucceedsOrEnds k c.receiver s.reply r)
