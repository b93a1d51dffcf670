-- With limits on pairs and on what packets bring, a pair that is due is checked within a number of rounds that depends on nothing
-- that the agent receives in them. If nominations have numbers, each path that is selected in the rounds may take one more.
use Rattle.std.specs.Prelude.{◌≡◌, ℕ, ◌+◌, ◌*◌, ◌≤◌, ◌⊎◌, Bool, true, false, List, [], ◌∷◌, length, count_by, Some}
use Rattle.rand_core.specs.Stream.{Stream}
use Rattle.is_proto.specs.Lists.{Has}
use Rattle.is_stun.specs.Timing.{is_modern, consent_of}
use Rattle.is_candidate.specs.Candidates.{CandidateRecord}
use Rattle.is_pair.specs.Due.{has_consent}
use Rattle.is_pair.specs.Pairs.{PairRecord}
use Rattle.is_rules.specs.Agent.{AgentRecord}
use Rattle.is_theorems.specs.Asked.{IsAnsweredIn}
use Rattle.is_theorems.specs.Bounds.{FormsFew, IsLimited, gathered_count, pair_bound, signal_count}
use Rattle.is_theorems.specs.Logs.{Logged}
use Rattle.is_theorems.specs.Progress.{checks_for}
use Rattle.is_theorems.specs.Reached.{ChecksIn, IsInLine, IsLasting, IsPassing, is_in_round, nominations_ahead, selection_count}
use Rattle.is_theorems.specs.Rounds.{LoggedRound, Part, RunsOn, began_at, entries_of}
use Rattle.is_theorems.specs.Runs.{IsFresh}
use Rattle.is_rules.specs.Sending.{path_of}
use Rattle.is_rules.specs.Steps.{Call, AddLocalCandidate, AddRemoteCandidate, HandleTimeout}

-- ---- segments in which no candidate is added

-- Packets, timeouts, polls, and settings that change neither pairs nor the timing of their checks.
abbrev pub is_steady : {P : Type 0} → (modern : Bool) → Call P → Bool
is_steady modern (AddLocalCandidate c) = false
is_steady modern (AddRemoteCandidate c) = false
is_steady modern (HandleTimeout now) = true
is_steady modern call = is_in_round modern call

abbrev pub AreSteady : {P : Type 0} → (modern : Bool) → List (Logged P) → Type 0
AreSteady modern part = (x : Logged _) → Has part x → is_steady modern x.call ≡ true

abbrev pub is_timeout : {P : Type 0} → Call P → Bool
is_timeout (HandleTimeout now) = true
is_timeout _ = false

abbrev pub timeout_count : {P : Type 0} → List (Logged P) → ℕ
timeout_count part = count_by (λ (x : Logged _). is_timeout x.call) part

module _ {H P : Type 0} where
  -- All pairs that are stored have consent at this time.
  abbrev pub HaveConsent : ℕ → AgentRecord H P → Type 0
  HaveConsent now a = (p : PairRecord) → Has a.pairs p → has_consent (consent_of a.timing) now p ≡ true

  -- So many rounds are enough, whatever pairs packets add in them. For p pairs when they begin, at most n when they end, and m retransmits,
  -- m at least 2, k rounds are enough if k is at least (2p + n - 1) * m / (m - 1). If checks may go ahead, m is at least 3, and k at least
  -- (4p + 2n - 1) * m / (m - 2). If s nominations may be sent at once, read n + s for n: each takes one of the rounds, and nothing that the
  -- caller chooses bounds how many paths are selected in them.
  abbrev pub AreEnough : (rounds pairs bound selections : ℕ) → AgentRecord H P → Type 0
  AreEnough rounds pairs bound selections a =
      checks_for (is_modern a.timing) (2 * pairs + bound + nominations_ahead a selections) * a.timing.max_retransmits + checks_for (is_modern a.timing) rounds
      ≤ (rounds + 1) * a.timing.max_retransmits

  -- The rounds suffice for a pair that is due by the time `by` when they begin, whatever pairs packets add in them.
  pub record SufficeSteady (bound by : ℕ) (start : AgentRecord H P) (rounds : List (LoggedRound P)) (p : PairRecord) : Type 0 where
    pub at : ℕ
    pub began : began_at rounds ≡ Some at
    pub line : IsInLine at by start p
    pub passing : (r : LoggedRound P) → Has rounds r → IsPassing (is_modern start.timing) by r
    pub lasting : (r : LoggedRound P) → Has rounds r → IsLasting r.now start p
    pub steady : AreSteady (is_modern start.timing) (entries_of rounds)
    pub enough : AreEnough (length rounds) (length start.pairs) bound (selection_count (entries_of rounds)) start

  module _ (mac : H → List ℕ → List ℕ → List ℕ) (answers : P → CandidateRecord → ℕ → ℕ → Type 0) where
    -- At each `handle_timeout` call of a segment all pairs that are stored then have consent, or consent does not end by a clock.
    abbrev pub ConsentLastsIn : (before : List (Logged P)) (start : AgentRecord H P) (s : Stream) (part : List (Logged P)) (last : AgentRecord H P) (t : Stream)
        → RunsOn mac answers before start s part last t → Type 0
    ConsentLastsIn before start s [] last t run = Unit {0}
    ConsentLastsIn before start s (x ∷ part) last t run =
        ((now : ℕ) → x.call ≡ HandleTimeout now → HaveConsent now run.0) × ConsentLastsIn before start s part run.0 run.1 run.2

    -- A pair with consent is removed after timeout only after m checks, and a `handle_timeout` call sends one check. So in a segment with
    -- k of these calls, in which consent lasts, packets add at most k / m pairs, and one for each pair that exists afterwards. With either
    -- profile renomination may be switched on in it.
    abbrev pub PacketsAddFewIn : AgentRecord H P → Stream → List (Logged P) → Type 0
    PacketsAddFewIn first s log =
        (before part : List (Logged P)) (start last : AgentRecord H P) → (found : Part mac answers first s log before start part last)
        → start.lite ≡ false → AreSteady false part → ConsentLastsIn before start found.at part last found.following found.run
        → last.next_number * start.timing.max_retransmits
        ≤ (start.next_number + length last.pairs) * start.timing.max_retransmits + timeout_count part

    abbrev pub PacketsAddFew : Type 0
    PacketsAddFew = (first : AgentRecord H P) (s : Stream) (log : List (Logged P)) → IsFresh first → PacketsAddFewIn first s log

    -- If consent lasts in the rounds, a check is sent on the pair's path in one of them, unless a success response is received on it in
    -- one of them. Besides the caller's choices the bound depends only on how many paths are selected, if nominations have numbers.
    abbrev pub SteadyRoundsReach : AgentRecord H P → Stream → List (Logged P) → Type 0
    SteadyRoundsReach first s log =
        (most limit : ℕ) → IsLimited mac answers most first s log → FormsFew mac answers limit first s log
        → (before : List (Logged P)) (start last : AgentRecord H P) (rounds : List (LoggedRound P)) (p : PairRecord) (by : ℕ)
        → (found : Part mac answers first s log before start (entries_of rounds) last)
        → ConsentLastsIn before start found.at (entries_of rounds) last found.following found.run
        → SufficeSteady (pair_bound limit most (gathered_count before) (signal_count before)) by start rounds p
        → ChecksIn rounds (path_of start p) ⊎ IsAnsweredIn (entries_of rounds) (path_of start p)

    abbrev pub NoneIsStarved : Type 0
    NoneIsStarved = (first : AgentRecord H P) (s : Stream) (log : List (Logged P)) → IsFresh first → SteadyRoundsReach first s log
