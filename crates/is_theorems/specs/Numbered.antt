-- Nominations with numbers (draft-thatcher-ice-renomination): the path that was nominated by the greatest number is selected for good,
-- whatever is lost, late or replayed.
use Rattle.std.specs.Prelude.{◌≡◌, ◌≢◌, ℕ, ◌<◌, ◌≤◌, true, false, List, [], ◌∷◌, ◌++◌, Option, None, Some}
use Rattle.std.specs.Option.{option_map_or}
use Rattle.rand_core.specs.Stream.{Stream}
use Rattle.is_proto.specs.Lists.{Has}
use Rattle.is_candidate.specs.Candidates.{CandidateRecord}
use Rattle.is_pair.specs.Pairs.{PairRecord, is_nominated}
use Rattle.is_rules.specs.declared.emitted.Path.{Path}
use Rattle.is_rules.specs.Agent.{AgentRecord}
use Rattle.is_rules.specs.Brought.{IsServing}
use Rattle.is_rules.specs.Emitted.{reversed}
use Rattle.is_rules.specs.Nominating.{eligible_numbered, is_eligible, number_of, numbers}
use Rattle.is_rules.specs.Points.{IsNominationPoint}
use Rattle.is_rules.specs.Queue.{request_at}
use Rattle.is_rules.specs.Request.{RequestRecord}
use Rattle.is_rules.specs.Sending.{path_of}
use Rattle.is_rules.specs.Serving.{as_taken, nominates}
use Rattle.is_rules.specs.Steps.{Call, Done, Entry, HandleTimeout, Step}
use Rattle.is_theorems.specs.AskedExecutions.{selected_along}
use Rattle.is_theorems.specs.Exchange.{Execution}
use Rattle.is_theorems.specs.Shared.{IsNewlyCreated}
use Rattle.is_theorems.specs.Logs.{Logged, last_selected}
use Rattle.is_theorems.specs.Rounds.{Part, RunsOn}
use Rattle.is_theorems.specs.Runs.{AtEach, IsFresh}

-- the number of NOMINATION; 0 without one
abbrev pub given : Option ℕ → ℕ
given o = option_map_or (λ n. n) o 0

module _ {H P : Type 0} where
  -- the number by which the agent takes the request to nominate
  abbrev pub number_taken : AgentRecord H P → RequestRecord → ℕ
  number_taken a q = given (as_taken (numbers a) q).nomination

  -- The peer nominates the path, by m at least.
  abbrev pub IsNumberedByPeer : AgentRecord H P → Call P → Entry → Path → ℕ → Type 0
  IsNumberedByPeer old call e path m =
      (q : RequestRecord) × IsServing old call e q × (nominates old q ≡ true) × (reversed q.path ≡ path) × (m ≤ number_taken old q)

  -- The agent is controlled, and goes by numbers.
  pub record GoesByNumbers (a : AgentRecord H P) : Type 0 where
    pub numbers : numbers a ≡ true
    pub seen : a.numbers_seen ≡ true
    pub controlled : a.controlling ≡ false

  -- The pair with this number is eligible, on the path, and was nominated by n at least. All others were nominated by less, or not.
  pub record IsGreatest (a : AgentRecord H P) (number n : ℕ) (path : Path) : Type 0 where
    pub pair : PairRecord
    pub eligible : eligible_numbered a.controlling a.pairs number ≡ Some pair
    pub on : path_of a pair ≡ path
    pub by : n ≤ number_of pair
    pub others : (q : PairRecord) → Has a.pairs q → q.number ≢ number → is_nominated q ≡ true → number_of q < n

  -- The agent goes by numbers, and the pair with this number is the greatest one in this sense.
  abbrev pub LeadsByNumber : AgentRecord H P → ℕ → Path → Type 0
  LeadsByNumber a number path = GoesByNumbers a × ((n : ℕ) × IsGreatest a number n path)

  -- The agent goes by numbers, and an eligible pair on the path was nominated by n at least.
  pub record LeadsWith (a : AgentRecord H P) (n : ℕ) (path : Path) : Type 0 where
    pub goes : GoesByNumbers a
    pub plain : a.lite ≡ false
    pub pair : PairRecord
    pub among : Has a.pairs pair
    pub eligible : is_eligible a.controlling pair ≡ true
    pub on : path_of a pair ≡ path
    pub by : n ≤ pair.greatest_number

  module _ (mac : H → List ℕ → List ℕ → List ℕ) (answers : P → CandidateRecord → ℕ → ℕ → Type 0) where
    -- At each nomination point an agent that goes by numbers selects the pair that was nominated by the greatest one, if it is
    -- eligible.
    abbrev pub GreatestAreSelected : Type 0
    GreatestAreSelected =
        (first : AgentRecord H P) (s : Stream) (log : List (Logged P)) → IsFresh first
        → AtEach mac answers first s log (λ before mid x after. IsNominationPoint mid x.call x.entry → GoesByNumbers after
        → (number n : ℕ) (path : Path) → IsGreatest after number n path
        → (after.selected_pair ≡ Some number) × (last_selected (x ∷ before) ≡ Some path))

    -- In each state of the segment the pair with this number leads by its number.
    abbrev pub StaysGreatest : (before : List (Logged P)) (start : AgentRecord H P) (s : Stream) (part : List (Logged P)) (last : AgentRecord H P) (t : Stream)
        → RunsOn mac answers before start s part last t → (number : ℕ) → Path → Type 0
    StaysGreatest before start s [] last t run number path = LeadsByNumber last number path
    StaysGreatest before start s (x ∷ part) last t run number path =
        LeadsByNumber last number path × StaysGreatest before start s part run.0 run.1 run.2 number path

    -- A pair was selected, and leads by its number. It stays selected as long as it does so, whatever arrives meanwhile: success responses,
    -- early requests, and lesser numbers, late or replayed, on any paths.
    abbrev pub GreatestAreKept : Type 0
    GreatestAreKept =
        (first : AgentRecord H P) (s : Stream) (log before part : List (Logged P)) (start last : AgentRecord H P) (number : ℕ) (path : Path) → IsFresh first
        → (found : Part mac answers first s log before start part last) → start.selected_pair ≡ Some number
        → StaysGreatest before start found.at part last found.following found.run number path
        → (last.selected_pair ≡ Some number) × (last_selected (part ++ before) ≡ Some path)

    -- In each state of the segment an eligible pair on the path was nominated by n at least, and no request nominates another path by n or
    -- more.
    abbrev pub StaysAhead : (before : List (Logged P)) (start : AgentRecord H P) (s : Stream) (part : List (Logged P)) (last : AgentRecord H P) (t : Stream)
        → RunsOn mac answers before start s part last t → ℕ → Path → Type 0
    StaysAhead before start s [] last t run n path = LeadsWith last n path
    StaysAhead before start s (x ∷ part) last t run n path =
        LeadsWith last n path × ((other : Path) → IsNumberedByPeer run.0 x.call x.entry other n → other ≡ path)
        × StaysAhead before start s part run.0 run.1 run.2 n path

    -- The nomination by n has arrived, the only one by so much, and its path is selected. While a pair on it is eligible, it stays the path
    -- that was selected last, whatever is lost, late or replayed: requests that nominate other paths by less, at any time and any number
    -- of times, move the selection nowhere.
    abbrev pub GreatestStay : Type 0
    GreatestStay =
        (first : AgentRecord H P) (s : Stream) (log before part : List (Logged P)) (start last : AgentRecord H P) (n : ℕ) (path : Path) → IsFresh first
        → (found : Part mac answers first s log before start part last) → 1 < n
        → ((q : PairRecord) → Has start.pairs q → n ≤ q.greatest_number → path_of start q ≡ path)
        → last_selected before ≡ Some path
        → StaysAhead before start found.at part last found.following found.run n path
        → last_selected (part ++ before) ≡ Some path

    -- If a pair leads by its number after a `handle_timeout` call that serves no early request, the path that the agent selected last is
    -- that of this pair. The agent may share its random source.
    abbrev pub GreatestAreLast : Type 0
    GreatestAreLast =
        (first near last : AgentRecord H P) (before : List (Call P × Entry)) (s t : Stream) (now : ℕ) (timeout : Entry) (number : ℕ) (path : Path)
        → IsNewlyCreated first → Execution mac answers before first near → Step mac answers near s (HandleTimeout now) timeout last t
        → timeout.answer ≡ Done → request_at now near ≡ None → LeadsByNumber last number path
        → selected_along None (before ++ (HandleTimeout now, timeout) ∷ []) ≡ Some path
