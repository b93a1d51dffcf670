-- The invariant of abstract states on which the effect lemmas rest.
use Rattle.std.specs.Prelude.{◌≡◌, ℕ, ◌<◌, ◌≤◌, Bool, true, false, List, length, Option, is_some, IfSome}
use Rattle.is_proto.specs.Lists.{Has}
use Rattle.is_stun.specs.declared.timing.StunTiming.{StunTiming}
use Rattle.is_candidate.specs.Candidates.{CandidateRecord, IsBased}
use Rattle.is_pair.specs.declared.pair.states.CheckState.{CheckState}
use Rattle.is_pair.specs.declared.pair.states.CheckState.TheVariants.{Waiting, InProgress, Succeeded}
use Rattle.is_pair.specs.Checks.{Check}
use Rattle.is_pair.specs.Multiset.{are_below, rises}
use Rattle.is_pair.specs.Pairs.{PairRecord, is_valid}
use Rattle.is_rules.specs.declared.credentials.IceCreds.{IceCreds}
use Rattle.is_rules.specs.Agent.{AgentRecord, fresh}
use Rattle.is_rules.specs.Queue.{QUEUE_LIMIT}
use Rattle.is_rules.specs.Steps.{Call, AddLocalCandidate}

-- The selected number is below the next number, as all numbers are. So it never becomes the number of another pair.
abbrev pub IsBelow : ℕ → Option ℕ → Type 0
IsBelow next_number number = IfSome number (λ n. n < next_number)

-- The indices of a pair are within the candidate lists.
abbrev pub IsPlaced : List CandidateRecord → List CandidateRecord → PairRecord → Type 0
IsPlaced local remote p = (p.local < length local) × (p.remote < length remote)

abbrev pub ArePlaced : List CandidateRecord → List CandidateRecord → List PairRecord → Type 0
ArePlaced local remote pairs = (p : PairRecord) → Has pairs p → IsPlaced local remote p

-- A pair stores at least its last check.
abbrev pub KeepsChecks : StunTiming → Type 0
KeepsChecks timing = 0 < timing.max_retransmits

abbrev pub is_started_state : CheckState → Bool
is_started_state Waiting = false
is_started_state InProgress = true
is_started_state Succeeded = true

-- The state satisfies the invariant. Without it, a new candidate could give another path to a pair whose index is past the end, and a
-- change of the pair with a given number could change two pairs.
pub record IsSound {H P : Type 0} (a : AgentRecord H P) : Type 0 where
  pub placed : ArePlaced a.local a.remote a.pairs
  pub rising : rises a.pairs ≡ true
  pub below : are_below a.next_number a.pairs ≡ true
  -- The selected number never becomes the number of another pair.
  pub selected_paths : IsBelow a.next_number a.selected_pair
  -- A pair with a pending transaction is no longer Waiting, so a success response makes it valid.
  pub started : (p : PairRecord) (c : Check) → Has a.pairs p → Has p.checks c → is_started_state p.state ≡ true
  -- Only the response to a check gives consent, and it makes the pair valid.
  pub consented : (p : PairRecord) → Has a.pairs p → is_some p.consented ≡ true → is_valid p ≡ true
  -- A check that is sent stays as a pending transaction.
  pub checks : KeepsChecks a.timing
  -- There are at most `QUEUE_LIMIT` early requests.
  pub queued : length a.queue ≤ QUEUE_LIMIT
  -- Host and relayed local candidates are their own base.
  pub based : (c : CandidateRecord) → Has a.local c → IsBased c

-- A local candidate that the call adds is its own base, if its kind requires it.
abbrev pub GivesBased : {P : Type 0} → Call P → Type 0
GivesBased (AddLocalCandidate c) = IsBased c
GivesBased _ = Unit {0}

-- A newly created agent satisfies the invariant.
abbrev pub FreshIsSound : Type 0 → Type 0 → Type 0
FreshIsSound H P = (provider : H) (creds : IceCreds) (tie_breaker : ℕ) → IsSound {P = P} (fresh provider creds tie_breaker)
