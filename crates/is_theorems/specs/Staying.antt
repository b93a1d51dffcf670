-- How long a pair exists: a valid pair stays valid, a nominated pair stays nominated, and one that a request came to keeps it, until it is
-- removed.
use Rattle.std.specs.Prelude.{◌≡◌, ℕ, ◌||◌, ◌⊎◌, true, nat_lt, List, Some, None}
use Rattle.rand_core.specs.Stream.{Stream}
use Rattle.is_proto.specs.Lists.{Has}
use Rattle.is_candidate.specs.Candidates.{CandidateRecord}
use Rattle.is_pair.specs.Pairs.{PairRecord, is_valid, is_nominated}
use Rattle.is_rules.specs.Agent.{AgentRecord}
use Rattle.is_rules.specs.declared.emitted.Path.{Path}
use Rattle.is_rules.specs.Discarding.{local_to_discard, remote_to_discard}
use Rattle.is_theorems.specs.Logs.{Logged}
use Rattle.is_rules.specs.Queue.{request_at}
use Rattle.is_theorems.specs.Removing.{MayEndByLocal, MayEndByRemote}
use Rattle.is_theorems.specs.Rounds.{Part}
use Rattle.is_theorems.specs.Runs.{IsFresh, Point}
use Rattle.is_rules.specs.Sending.{path_of}
use Rattle.is_rules.specs.Sound.{IsSound, GivesBased}
use Rattle.is_rules.specs.Steps.{Call, AddLocalCandidate, AddRemoteCandidate, InvalidateCandidate, RestartIce, RecreateCandidatePairs, HandleTimeout, Added, Done, Flag, Entry, Step}
use Rattle.is_rules.specs.Leaving.{gives_way}
use Rattle.is_rules.specs.Timeouts.{is_expired}

module _ {H P : Type 0} where
  -- The pair still exists, on its path. It is valid if it was valid, nominated if it was nominated, and a request came to it if one had come.
  pub record Stays (old : AgentRecord H P) (p : PairRecord) (new : AgentRecord H P) : Type 0 where
    pub pair : PairRecord
    pub there : Has new.pairs pair
    pub number : pair.number ≡ p.number
    pub path : path_of new pair ≡ path_of old p
    pub valid : is_valid p ≡ true → is_valid pair ≡ true
    pub nominated : is_nominated p ≡ true → is_nominated pair ≡ true
    pub requested : nat_lt 0 p.requests ≡ true → nat_lt 0 pair.requests ≡ true

  -- The pair's local candidate is discarded, or its remote one.
  abbrev pub IsOfDiscarded : AgentRecord H P → CandidateRecord → PairRecord → Type 0
  IsOfDiscarded old c p =
      (local_to_discard c old ≡ Some p.local) ⊎ ((local_to_discard c old ≡ None) × (remote_to_discard c old ≡ Some p.remote))

  -- The transition may remove the pair: a pair of an added candidate replaces or evicts it; its candidate is discarded; the pairs
  -- are cleared; its checks were not answered in time (RFC 7675); or it gives way to a pair that is answered.
  abbrev pub MayEnd : (P → CandidateRecord → ℕ → ℕ → Type 0) → AgentRecord H P → Call P → Entry → PairRecord → Type 0
  MayEnd answers old (AddLocalCandidate c) e p = (e.answer ≡ Added) × MayEndByLocal answers old c p
  MayEnd answers old (AddRemoteCandidate c) e p = (e.answer ≡ Done) × MayEndByRemote old c p
  MayEnd answers old (InvalidateCandidate c) e p = (e.answer ≡ Flag true) × IsOfDiscarded old c p
  MayEnd answers old (RestartIce creds keep) e p = e.answer ≡ Done
  MayEnd answers old RecreateCandidatePairs e p = e.answer ≡ Done
  MayEnd answers old (HandleTimeout now) e p = (e.answer ≡ Done) × (request_at now old ≡ None) × ((is_expired now old p || gives_way now old p) ≡ true)
  MayEnd answers old _ e p = ⊥

  module _ (mac : H → List ℕ → List ℕ → List ℕ) (answers : P → CandidateRecord → ℕ → ℕ → Type 0) where
    -- All other transitions leave each pair: requests, responses, role conflicts, and settings.
    abbrev pub PairsStay : Type 0
    PairsStay =
        (old new : AgentRecord H P) (s t : Stream) (call : Call P) (e : Entry) (p : PairRecord)
        → IsSound old → GivesBased call → Step mac answers old s call e new t → Has old.pairs p → Stays old p new ⊎ MayEnd answers old call e p

    -- ---- in a log

    -- At an entry of the segment the pair with this number, which is on the path, may be removed.
    abbrev pub EndsIn : AgentRecord H P → Stream → List (Logged P) → List (Logged P) → ℕ → Path → Type 0
    EndsIn first s log part number path =
        (before : List (Logged P)) × (mid after : AgentRecord H P) × (x : Logged P) × (p : PairRecord)
        × Point mac answers first s log before mid x after × Has part x × Has mid.pairs p × (p.number ≡ number) × (path_of mid p ≡ path)
        × MayEnd answers mid x.call x.entry p

    -- Over each segment of the log a pair stays (`Stays`), unless it may be removed at an entry of the segment.
    abbrev pub PairsStayIn : AgentRecord H P → Stream → List (Logged P) → Type 0
    PairsStayIn first s log =
        (before : List (Logged P)) (start last : AgentRecord H P) (part : List (Logged P)) (p : PairRecord)
        → Part mac answers first s log before start part last → Has start.pairs p → Stays start p last ⊎ EndsIn first s log part p.number (path_of start p)

    abbrev pub PairsStayOn : Type 0
    PairsStayOn = (first : AgentRecord H P) (s : Stream) (log : List (Logged P)) → IsFresh first → PairsStayIn first s log
