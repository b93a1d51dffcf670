-- Consent over an execution of one agent: it is connected only on a path with consent.
use Rattle.std.specs.Prelude.{◌≡◌, ℕ, ◌<◌, ◌-◌, ◌*◌, ◌⊎◌, true, false, List, [], ◌∷◌, ◌++◌, Option, Some, None, is_some}
use Rattle.rand_core.specs.Stream.{Stream}
use Rattle.is_proto.specs.Lists.{Has}
use Rattle.is_proto.specs.Times.{SECOND, later}
use Rattle.is_candidate.specs.Candidates.{CandidateRecord}
use Rattle.is_pair.specs.Due.{has_consent}
use Rattle.is_pair.specs.Pairs.{PairRecord, is_valid}
use Rattle.is_stun.specs.declared.timing.Consent.{Consent}
use Rattle.is_stun.specs.Timing.{consent_of}
use Rattle.is_rules.specs.Agent.{AgentRecord}
use Rattle.is_rules.specs.Connecting.{is_connected}
use Rattle.is_rules.specs.declared.emitted.Path.{Path}
use Rattle.is_rules.specs.Effects.{lite_set_by}
use Rattle.is_rules.specs.Nominating.{is_eligible}
use Rattle.is_rules.specs.Queue.{request_at}
use Rattle.is_rules.specs.Sending.{path_of}
use Rattle.is_rules.specs.Steps.{Call, Done, Entry, HandleTimeout, Step}
use Rattle.is_theorems.specs.AskedExecutions.{selected_along}
use Rattle.is_theorems.specs.Exchange.{Execution}
use Rattle.is_theorems.specs.Runs.{IsFresh}

-- The agent is full in each of these calls of a new agent: none makes it lite.
abbrev pub AreNeverLite : {P : Type 0} → List (Call P × Entry) → Type 0
AreNeverLite xs = (x : Call _ × Entry) → Has xs x → lite_set_by x.0 false ≡ false

-- A check of the pair got a response, and the last such check was sent less than the timeout before. Or, if consent is not strict,
-- a check of the peer is recorded that arrived less than 15 s before.
abbrev pub IsAliveBy : Consent → ℕ → PairRecord → Type 0
IsAliveBy c now p =
    (sent : ℕ) × (p.consented ≡ Some sent)
    × ((now < later sent c.timeout.0) ⊎ ((c.strict ≡ false) × ((at : ℕ) × (p.last_request ≡ Some at) × (now - at < 15 * SECOND))))

module _ {H P : Type 0} where
  -- The path is that of an eligible pair that has consent at this time.
  abbrev pub HasConsentOn : ℕ → Option Path → AgentRecord H P → Type 0
  HasConsentOn now path a =
      (p : PairRecord) × Has a.pairs p × (is_eligible a.controlling p ≡ true) × (path ≡ Some (path_of a p))
      × (has_consent (consent_of a.timing) now p ≡ true)

  module _ (mac : H → List ℕ → List ℕ → List ℕ) (answers : P → CandidateRecord → ℕ → ℕ → Type 0) where
    -- These calls of a newly created agent end with a `handle_timeout` call that serves no early request. The agent is full, and
    -- connected afterwards.
    pub record IsConnectedAfter (before : List (Call P × Entry)) (now : ℕ) (timeout : Entry) (last : AgentRecord H P) : Type 0 where
      pub first : AgentRecord H P
      pub near : AgentRecord H P
      pub fresh : IsFresh first
      pub execution : Execution mac answers before first near
      pub drawn : Stream
      pub left : Stream
      pub step : Step mac answers near drawn (HandleTimeout now) timeout last left
      pub done : timeout.answer ≡ Done
      pub unqueued : request_at now near ≡ None
      pub full : near.lite ≡ false
      pub connected : is_connected last.state ≡ true

    -- If a full agent is connected after a `handle_timeout` call that serves no early request, the path that was selected last has
    -- consent, whatever profile is set.
    abbrev pub ConnectedHaveConsent : Type 0
    ConnectedHaveConsent =
        (before : List (Call P × Entry)) (now : ℕ) (timeout : Entry) (last : AgentRecord H P) → IsConnectedAfter before now timeout last
        → HasConsentOn now (selected_along None (before ++ (HandleTimeout now, timeout) ∷ [])) last

    -- After any calls of a newly created agent that is never lite: each valid pair has the time at which its last check that got a
    -- response was sent.
    abbrev pub ValidHaveConsented : Type 0
    ValidHaveConsented =
        (first last : AgentRecord H P) (xs : List (Call P × Entry)) → IsFresh first → AreNeverLite xs → Execution mac answers xs first last
        → (p : PairRecord) → Has last.pairs p → is_valid p ≡ true → is_some p.consented ≡ true

    -- An agent that is never lite, with the profile `Modern`: if it is connected after such a call, the path that was selected last is that
    -- of a pair that is alive by these responses and checks.
    abbrev pub ConnectedAreAnswered : Type 0
    ConnectedAreAnswered =
        (before : List (Call P × Entry)) (now : ℕ) (timeout : Entry) (last : AgentRecord H P) (c : Consent)
        → IsConnectedAfter before now timeout last → AreNeverLite before → consent_of last.timing ≡ Some c
        → (p : PairRecord) × Has last.pairs p × IsAliveBy c now p
        × (selected_along None (before ++ (HandleTimeout now, timeout) ∷ []) ≡ Some (path_of last p))
