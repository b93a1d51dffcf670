-- How many checks a pair gets from which nothing arrives (RFC 8445, section 19.5.1).
use Rattle.std.specs.Prelude.{◌≡◌, ℕ, zero, suc, ◌+◌, ◌*◌, ◌<◌, ◌≤◌, ◌⊎◌, ◌&&◌, min, true, false, nat_lt, List, [], ◌∷◌, if◌then◌else◌}
use Rattle.is_proto.specs.Lists.{Has}
use Rattle.is_proto.specs.Times.{MAX, SECOND}
use Rattle.is_candidate.specs.Candidates.{CandidateRecord}
use Rattle.is_stun.specs.declared.timing.StunTiming.{StunTiming}
use Rattle.is_stun.specs.Timing.{early_delay, is_modern, resend_delay, timeout_of}
use Rattle.is_pair.specs.Due.{ASKED_TIME, early_time, is_asked_first}
use Rattle.is_pair.specs.Pairs.{PairRecord, is_valid}
use Rattle.is_rules.specs.Agent.{AgentRecord}
use Rattle.is_rules.specs.declared.settings.Settings.{Settings}
use Rattle.is_rules.specs.Settings.{modern_settings, original_settings}
use Rattle.is_rules.specs.Steps.{Call, HandleTimeout, PollTimeout, ReceivePacket}
use Rattle.is_theorems.specs.Logs.{Logged}
use Rattle.is_theorems.specs.Shared.{BeforeEach, IsNewlyCreated, SharedRun}

-- ---- the earliest times of checks

-- the RTO after the n-th check
abbrev pub rto_after : StunTiming → ℕ → ℕ
rto_after t n = resend_delay t (min n t.max_retransmits)

-- How long the next check comes after the n-th one at least, if that is sent so long after the first. With the profile `Modern` checks
-- are repeated early within this span after the first one.
abbrev pub least_delay : StunTiming → (span after n : ℕ) → ℕ
least_delay t span after n = if is_modern t && nat_lt after span then min (early_delay n) (rto_after t n) else rto_after t n

-- how long the n-th check comes after the first at least
unfoldable pub check_time : StunTiming → (span : ℕ) → ℕ → ℕ
check_time t span zero = 0
check_time t span (suc zero) = 0
check_time t span (suc (suc n)) = check_time t span (suc n) + least_delay t span (check_time t span (suc n)) (suc n)

-- No check follows the n-th one: these are as many as the limit, and with the profile `Modern` the time of a series of checks is over when the
-- next one would come, and early repetition ends before the n-th one.
pub record EndsWith (t : StunTiming) (n : ℕ) : Type 0 where
  pub counted : t.max_retransmits ≤ n
  pub over : is_modern t ≡ true → timeout_of t ≤ check_time t (early_time t) (suc n)
  pub rare : is_modern t ≡ true → early_time t ≤ check_time t (early_time t) n

-- Nor does one if a check of the peer arrived before the first of them: such a check keeps a pair for 15 s.
abbrev pub IsPastRequests : StunTiming → ℕ → Type 0
IsPastRequests t n = 15 * SECOND ≤ check_time t (early_time t) (suc n)

-- how long a pair is checked early whose first check followed a request
abbrev pub asked_time : StunTiming → ℕ
asked_time t = min ASKED_TIME (early_time t)

-- No check of such a pair follows the n-th one: these are as many as the limit, the request is too old to keep the pair when the next one would
-- come, and early repetition ends before the n-th one.
pub record EndsAsked (t : StunTiming) (n : ℕ) : Type 0 where
  pub enough : t.max_retransmits ≤ n
  pub past : 15 * SECOND ≤ check_time t (asked_time t) (suc n)
  pub rare : is_modern t ≡ true → asked_time t ≤ check_time t (asked_time t) n

-- the timing of these settings
abbrev pub timing_of : Settings → StunTiming
timing_of s = record {
  initial_rto = s.initial_rto;
  max_retransmits = s.max_retransmits;
  max_rto = s.max_rto;
  lite_timeout = s.lite_timeout;
  profile = s.profile;
  consent = s.consent;
}

-- ---- times in order

-- the time of a call after one at `earlier`
abbrev pub time_after : {P : Type 0} → (earlier : ℕ) → Call P → ℕ
time_after earlier (ReceivePacket now path bytes) = now
time_after earlier (HandleTimeout now) = now
time_after earlier _ = earlier

-- the time of the last call of a log
abbrev pub time_of : {P : Type 0} → (earlier : ℕ) → List (Logged P) → ℕ
time_of earlier [] = earlier
time_of earlier (x ∷ before) = time_after (time_of earlier before) x.call

-- Time does not run back along a log.
abbrev pub AreInOrder : {P : Type 0} → (earlier : ℕ) → List (Logged P) → Type 0
AreInOrder earlier [] = Unit {0}
AreInOrder earlier (x ∷ before) = (time_of earlier before ≤ time_after (time_of earlier before) x.call) × AreInOrder earlier before

-- ---- pairs from which nothing arrives

-- No response was recorded on the pair, nor on one that it replaces, and no request of the peer.
pub record IsSilent (p : PairRecord) : Type 0 where
  pub unanswered : is_valid p ≡ false
  pub unheard : p.requests ≡ 0

-- The pair is the same as before, no response was recorded on it, and no request since.
pub record StaysSilent (before after : PairRecord) : Type 0 where
  pub number : after.number ≡ before.number
  pub unanswered : is_valid after ≡ false
  pub unheard : after.requests ≡ before.requests
  pub counted : before.requests < MAX

-- Requests before that may keep it longer.
pub record IsSilentSince (t : StunTiming) (n : ℕ) (before after : PairRecord) : Type 0 where
  pub silent : StaysSilent before after
  pub kept : (before.requests ≡ 0) ⊎ IsPastRequests t n

module _ {H P : Type 0} where
  -- When `handle_timeout` or `poll_timeout` is called, the timing is this. The clock does not end.
  pub record IsTimedBy (t : StunTiming) (a : AgentRecord H P) (x : Logged P) : Type 0 where
    pub called : (now : ℕ) → x.call ≡ HandleTimeout now → a.timing ≡ t
    pub early : (now : ℕ) → x.call ≡ HandleTimeout now → now < MAX
    pub polled : x.call ≡ PollTimeout → a.timing ≡ t

  module _ (mac : H → List ℕ → List ℕ → List ℕ) (answers : P → CandidateRecord → ℕ → ℕ → Type 0) where
    -- If no check follows the n-th one with the timing of an execution, a pair from which nothing arrives gets at most n checks in its life.
    -- So it is whatever else is received, in either role, whether the agent is lite at times or not, and whenever the caller calls.
    abbrev pub SilentPairsGetFew : Type 0
    SilentPairsGetFew =
        (t : StunTiming) (n : ℕ) (first last : AgentRecord H P) (log : List (Logged P)) → EndsWith t n → IsNewlyCreated first
        → (run : SharedRun mac answers first log last) → AreInOrder 0 log → BeforeEach mac answers (IsTimedBy t) first log last run
        → (p : PairRecord) → Has last.pairs p → IsSilent p → p.checks_sent ≤ n

    -- From any point on a pair gets at most n checks while no response and no request arrives on it. A pair that a request brings has no
    -- check then: so with k requests it gets at most k times n.
    abbrev pub SilencesHaveFewChecks : Type 0
    SilencesHaveFewChecks =
        (t : StunTiming) (n : ℕ) (first start last : AgentRecord H P) (before part : List (Logged P)) → EndsWith t n → IsNewlyCreated first
        → (earlier : SharedRun mac answers first before start) → AreInOrder 0 before → BeforeEach mac answers (IsTimedBy t) first before start earlier
        → (run : SharedRun mac answers start part last) → AreInOrder (time_of 0 before) part → BeforeEach mac answers (IsTimedBy t) start part last run
        → (p q : PairRecord) → Has start.pairs p → Has last.pairs q → IsSilentSince t n p q → q.checks_sent ≤ p.checks_sent + n

    -- From any point on a pair whose first check followed a request gets at most so many checks as suffice for such pairs, while no
    -- response and no further request arrives on it. So with k requests, the first of which brought it, it gets at most k times n.
    abbrev pub AskedPairsGetFew : Type 0
    AskedPairsGetFew =
        (t : StunTiming) (n : ℕ) (first start last : AgentRecord H P) (before part : List (Logged P)) → EndsAsked t n → IsNewlyCreated first
        → (earlier : SharedRun mac answers first before start) → AreInOrder 0 before → BeforeEach mac answers (IsTimedBy t) first before start earlier
        → (run : SharedRun mac answers start part last) → AreInOrder (time_of 0 before) part → BeforeEach mac answers (IsTimedBy t) start part last run
        → (p q : PairRecord) → Has start.pairs p → Has last.pairs q → StaysSilent p q → is_asked_first q ≡ true → q.checks_sent ≤ p.checks_sent + n

-- With `Original` n is the number of retransmits for pairs without a request, whatever the other settings. By default it is 9 for all pairs.
-- With the settings of `Modern` it is 17, and 11 for pairs whose first check followed a request.
abbrev pub NumbersOfChecks : Type 0
NumbersOfChecks =
    ((t : StunTiming) → is_modern t ≡ false → EndsWith t t.max_retransmits)
    × (EndsWith (timing_of original_settings) 9 × IsPastRequests (timing_of original_settings) 9)
    × (EndsWith (timing_of modern_settings) 17 × IsPastRequests (timing_of modern_settings) 17)
    × EndsAsked (timing_of modern_settings) 11
