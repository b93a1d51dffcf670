-- With the profile `Modern` an agent leaves a silent path only for another one.
use Rattle.std.specs.Prelude.{◌≡◌, ℕ, ◌<◌, ◌≤◌, true, false, List, ◌∷◌, Some, None}
use Rattle.rand_core.specs.Stream.{Stream}
use Rattle.is_proto.specs.Lists.{Has}
use Rattle.is_stun.specs.Timing.{is_modern}
use Rattle.is_candidate.specs.Candidates.{CandidateRecord}
use Rattle.is_pair.specs.Checks.{Check, first_unanswered, is_answered, unanswered_count}
use Rattle.is_pair.specs.Multiset.{is_named_by}
use Rattle.is_pair.specs.Pairs.{PairRecord}
use Rattle.is_pair.specs.Silence.{FOLLOWING, first_of_last}
use Rattle.is_rules.specs.Agent.{AgentRecord}
use Rattle.is_rules.specs.Nominating.{is_eligible}
use Rattle.is_rules.specs.Queue.{request_at}
use Rattle.is_rules.specs.Steps.{HandleTimeout, Done}
use Rattle.is_rules.specs.Timeouts.{is_expired}
use Rattle.is_theorems.specs.Logs.{Logged}
use Rattle.is_theorems.specs.Progress.{IsGone}
use Rattle.is_theorems.specs.Runs.{AtEach, IsFresh, IsTopPath}
use Rattle.is_theorems.specs.Staying.{Stays}

module _ {H P : Type 0} where
  -- A `handle_timeout` call at this time, which serves no early request, removes the pair, although it did not expire: it has consent, and
  -- its path may still work.
  pub record IsLeft (now : ℕ) (mid : AgentRecord H P) (x : Logged P) (after : AgentRecord H P) (p : PairRecord) : Type 0 where
    pub call : x.call ≡ HandleTimeout now
    pub done : x.entry.answer ≡ Done
    pub unqueued : request_at now mid ≡ None
    pub there : Has mid.pairs p
    pub unexpired : is_expired now mid p ≡ false
    pub gone : IsGone p.number after.pairs

  -- The profile is `Modern`. The pair was the selected one, and none of its last `max_retransmits` checks had a response. Another pair had
  -- one to a check that was sent after the first check of this silence, and before the last four. It is still there after the call, and may
  -- be selected.
  pub record IsReplaced (mid after : AgentRecord H P) (p : PairRecord) : Type 0 where
    pub rule : is_modern mid.timing ≡ true
    pub selected : is_named_by mid.selected_pair p ≡ true
    pub silent : mid.timing.max_retransmits ≤ unanswered_count p.checks
    pub first : Check
    pub begins : first_unanswered p.checks ≡ Some first
    pub following : Check
    pub follows : first_of_last FOLLOWING p.checks ≡ Some following
    pub other : PairRecord
    pub there : Has mid.pairs other
    pub answered : Check
    pub had : Has other.checks answered × (is_answered answered ≡ true)
    pub meanwhile : (first.sent < answered.sent) × (answered.sent < following.sent)
    pub stays : Stays mid other after
    pub eligible : is_eligible after.controlling stays.pair ≡ true

  module _ (mac : H → List ℕ → List ℕ → List ℕ) (answers : P → CandidateRecord → ℕ → ℕ → Type 0) where
    -- If a `handle_timeout` call that serves no early request removes a pair that did not expire, another one replaces it (`IsReplaced`).
    -- Then the path that was selected last is that of an eligible pair with the greatest stored priority.
    abbrev pub LeftAreReplaced : AgentRecord H P → Stream → List (Logged P) → Type 0
    LeftAreReplaced first s log =
        AtEach mac answers first s log (λ before mid x after. (now : ℕ) (p : PairRecord) → IsLeft now mid x after p
        → IsReplaced mid after p × IsTopPath mac answers (x ∷ before) after)

    abbrev pub PathsAreReplaced : Type 0
    PathsAreReplaced = (first : AgentRecord H P) (s : Stream) (log : List (Logged P)) → IsFresh first → LeftAreReplaced first s log
