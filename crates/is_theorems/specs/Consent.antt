-- Consent (RFC 7675) with the profile `Modern`: which pairs have it, and when it ends.
use Rattle.std.specs.Prelude.{◌≡◌, ℕ, ◌+◌, ◌≤◌, ◌⊎◌, max, true, false, List, [], ◌∷◌, Some, None, Ok}
use Rattle.rand_core.specs.Stream.{Stream}
use Rattle.is_proto.specs.Lists.{Has}
use Rattle.is_candidate.specs.Candidates.{CandidateRecord}
use Rattle.is_pair.specs.Due.{consent_end, has_consent}
use Rattle.is_pair.specs.Pairs.{PairRecord}
use Rattle.is_stun.specs.declared.timing.Consent.{Consent}
use Rattle.is_stun.specs.Timing.{consent_of}
use Rattle.is_rules.specs.Agent.{AgentRecord}
use Rattle.is_rules.specs.declared.emitted.Emitted.{Emitted}
use Rattle.is_rules.specs.Queue.{request_at}
use Rattle.is_rules.specs.Steps.{Call, Entry, NextTimeout, PollTimeout}
use Rattle.is_rules.specs.Timeouts.{TimesOut}
use Rattle.is_theorems.specs.Exchange.{Execution}
use Rattle.is_theorems.specs.FirstTimeouts.{AreInRound}
use Rattle.is_theorems.specs.InTime.{KeepsPace}

module _ {H P : Type 0} (mac : H → List ℕ → List ℕ → List ℕ) where
  -- A `handle_timeout` call of a full agent that serves no early request.
  pub record IsMaintained (old : AgentRecord H P) (now : ℕ) (s : Stream) (emitted : Emitted) (new : AgentRecord H P) (t : Stream) : Type 0 where
    pub full : old.lite ≡ false
    pub unqueued : request_at now old ≡ None
    pub call : TimesOut mac now old s (Ok tt) emitted new t

  module _ (answers : P → CandidateRecord → ℕ → ℕ → Type 0) where
    -- One of these calls is `poll_timeout`, the agent is in this state when it is called, and `next` is at most `delay` later than the
    -- time that it returned.
    abbrev pub IsPolledIn : (delay next : ℕ) (polled : AgentRecord H P) (xs : List (Call P × Entry)) (old new : AgentRecord H P) → Execution mac answers xs old new → Type 0
    IsPolledIn delay next polled [] old new execution = ⊥
    IsPolledIn delay next polled (x ∷ rest) old new execution =
        ((polled ≡ old) × (x.0 ≡ PollTimeout) × ((deadline : ℕ) × (x.1.answer ≡ NextTimeout (Some deadline)) × (next ≤ deadline + delay)))
        ⊎ IsPolledIn delay next polled rest execution.0 new execution.5

    -- The caller is punctual after a `handle_timeout` call at time `now`: in these calls it calls `poll_timeout`, and makes the next
    -- `handle_timeout` call at time `next`. Nothing in them sets a longer pacing interval than `pace`, or changes the profile.
    pub record IsFollowed (pace delay now next : ℕ) (first : AgentRecord H P) (xs : List (Call P × Entry)) (last : AgentRecord H P) (polled : AgentRecord H P) : Type 0 where
      pub begins : first.timing_advance ≤ pace
      pub keeps : KeepsPace pace xs
      pub between : AreInRound true xs
      pub execution : Execution mac answers xs first last
      pub prompt : IsPolledIn delay next polled xs first last execution

    -- A pair of a full agent that is stored when a punctual caller calls `poll_timeout`: the next `handle_timeout` call comes by the end of
    -- the pair's consent, or by a pacing interval after the call before, and `delay`. It removes the pair if it has no consent then.
    abbrev pub ConsentEndsInTime : Type 0
    ConsentEndsInTime =
        (old first last polled : AgentRecord H P) (s t : Stream) (emitted : Emitted) (xs : List (Call P × Entry)) (c : Consent) (p : PairRecord) (pace delay now next : ℕ)
        → IsMaintained old now s emitted first t → consent_of old.timing ≡ Some c → IsFollowed pace delay now next first xs last polled
        → Has polled.pairs p → next ≤ max (consent_end c p) (now + pace) + delay

-- After a `handle_timeout` call of a full agent that serves no early request each pair has consent. There is no count of pairs, no RTO and
-- no caller in it.
abbrev pub ConsentHolds : {H : Type 0} (P : Type 0) → (H → List ℕ → List ℕ → List ℕ) → Type 0
ConsentHolds {H = H} P mac =
    (old new : AgentRecord H P) (now : ℕ) (s t : Stream) (emitted : Emitted) → IsMaintained mac old now s emitted new t
    → (p : PairRecord) → Has new.pairs p → has_consent (consent_of new.timing) now p ≡ true
