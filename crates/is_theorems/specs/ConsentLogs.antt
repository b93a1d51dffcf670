-- Consent at each entry of the log of an execution: an agent is connected only on a path with consent.
use Rattle.std.specs.Prelude.{◌≡◌, ℕ, true, false, List, ◌∷◌, Some, None}
use Rattle.rand_core.specs.Stream.{Stream}
use Rattle.is_proto.specs.Lists.{Has}
use Rattle.is_candidate.specs.Candidates.{CandidateRecord}
use Rattle.is_pair.specs.Pairs.{PairRecord}
use Rattle.is_stun.specs.declared.timing.Consent.{Consent}
use Rattle.is_stun.specs.Timing.{consent_of}
use Rattle.is_rules.specs.Agent.{AgentRecord}
use Rattle.is_rules.specs.Connecting.{is_connected}
use Rattle.is_rules.specs.Queue.{request_at}
use Rattle.is_rules.specs.Sending.{path_of}
use Rattle.is_rules.specs.Steps.{Done, HandleTimeout}
use Rattle.is_theorems.specs.ConsentExecutions.{HasConsentOn, IsAliveBy}
use Rattle.is_theorems.specs.Logs.{last_selected, Logged, NeverLite}
use Rattle.is_theorems.specs.Runs.{AtEach, IsFresh}

module _ {H P : Type 0} where
  -- A `handle_timeout` call at this time that serves no early request. The agent is full, and connected afterwards.
  pub record IsConnectedAt (now : ℕ) (mid : AgentRecord H P) (x : Logged P) (after : AgentRecord H P) : Type 0 where
    pub call : x.call ≡ HandleTimeout now
    pub done : x.entry.answer ≡ Done
    pub unqueued : request_at now mid ≡ None
    pub full : mid.lite ≡ false
    pub connected : is_connected after.state ≡ true

  module _ (mac : H → List ℕ → List ℕ → List ℕ) (answers : P → CandidateRecord → ℕ → ℕ → Type 0) where
    -- At each `handle_timeout` call that serves no early request, after which a full agent is connected: the path that was selected last
    -- since the last clear has consent, whatever profile is set.
    abbrev pub PathsHaveConsent : AgentRecord H P → Stream → List (Logged P) → Type 0
    PathsHaveConsent first s log =
        AtEach mac answers first s log (λ before mid x after. (now : ℕ) → IsConnectedAt now mid x after
        → HasConsentOn now (last_selected (x ∷ before)) after)

    -- At each `handle_timeout` call that serves no early request, after which an agent is connected that was never lite, with the profile
    -- `Modern`: the path that was selected last since the last clear is alive. Its pair had responses, or checks of the peer, recently
    -- enough.
    abbrev pub PathsAreAlive : AgentRecord H P → Stream → List (Logged P) → Type 0
    PathsAreAlive first s log =
        AtEach mac answers first s log (λ before mid x after. (now : ℕ) (c : Consent) → IsConnectedAt now mid x after
        → NeverLite before → consent_of after.timing ≡ Some c
        → (p : PairRecord) × Has after.pairs p × IsAliveBy c now p × (last_selected (x ∷ before) ≡ Some (path_of after p)))

    abbrev pub SelectedHaveConsent : Type 0
    SelectedHaveConsent = (first : AgentRecord H P) (s : Stream) (log : List (Logged P)) → IsFresh first → PathsHaveConsent first s log

    abbrev pub SelectedAreAlive : Type 0
    SelectedAreAlive = (first : AgentRecord H P) (s : Stream) (log : List (Logged P)) → IsFresh first → PathsAreAlive first s log
