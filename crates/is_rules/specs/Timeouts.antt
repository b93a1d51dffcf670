-- What a `handle_timeout` call does. It evaluates the state. Then it serves an early request, if there is one; otherwise it
-- nominates, removes failed pairs and sends a check. With the profile `Modern` the state is evaluated after nomination.
use Rattle.std.specs.Prelude.{◌≡◌, ℕ, Bool, true, List, [], ◌∷◌, ◌++◌, Option, Some, None, MatchBool, MatchOption, Result, Ok, Err, unwrap_or, if◌then◌else◌}
use Rattle.std.specs.List.{list_any}
use Rattle.rand_core.specs.Stream.{Stream}
use Rattle.is_proto.specs.declared.error.IceError.{IceError}
use Rattle.is_proto.specs.declared.error.IceError.TheVariants.{OutOfMemory}
use Rattle.is_stun.specs.Timing.{is_modern}
use Rattle.is_pair.specs.Pairs.{PairRecord}
use Rattle.is_pair.specs.Due as due
use Rattle.is_rules.specs.declared.event.IceAgentEvent.TheVariants.{IceRestart}
use Rattle.is_rules.specs.declared.event.IceConnectionState.TheVariants.{New}
use Rattle.is_rules.specs.declared.emitted.Issued.{Issued}
use Rattle.is_rules.specs.declared.emitted.Path.{Path}
use Rattle.is_rules.specs.declared.emitted.Emitted.{Emitted}
use Rattle.is_rules.specs.Request.{RequestRecord}
use Rattle.is_rules.specs.Emitted.{nothing_emitted, emitted_by}
use Rattle.is_pair.specs.Multiset.{without}
use Rattle.is_rules.specs.Agent.{AgentRecord}
use Rattle.is_rules.specs.Leaving.{path_left}
use Rattle.is_rules.specs.Nominating.{Nominates}
use Rattle.is_rules.specs.States.{same_state, evaluated}
use Rattle.is_rules.specs.StateUpdates.{started, state_updated}
use Rattle.is_rules.specs.Serving.{Serves, MayFailAtRequest}
use Rattle.is_rules.specs.Queue.{queue_cleared, first_taken, request_at}
use Rattle.is_rules.specs.Checking.{MayCheck}

module _ {H P : Type 0} where
  -- ---- the start of the call

  -- In the state New, the start event is emitted.
  abbrev pub start_emitted : AgentRecord H P → AgentRecord H P
  start_emitted a = record a { events = if same_state a.state New then a.events ++ IceRestart a.local_creds ∷ [] else a.events }

  -- A `handle_timeout` call starts: after the start event the state is evaluated, unless it is after nomination, and outdated early
  -- requests are removed.
  abbrev pub timeout_begun : ℕ → AgentRecord H P → AgentRecord H P
  timeout_begun now a = queue_cleared now (started now (start_emitted a))

  -- ---- pairs that are removed after timeout

  -- The consent of the pair expired (RFC 7675). Of a lite agent: the last request on the pair is too old.
  abbrev pub is_expired : ℕ → AgentRecord H P → PairRecord → Bool
  is_expired now a p = due.is_pair_expired a.lite now a.timing p

  abbrev pub expired_gone : ℕ → AgentRecord H P → AgentRecord H P
  expired_gone now a = record a { pairs = without (is_expired now a) a.pairs }

  -- If a pair is removed, nomination and state are evaluated. Otherwise the state is, with `Modern`.
  abbrev pub RemovesExpired : ℕ → AgentRecord H P → Option Path → AgentRecord H P → Type 0
  RemovesExpired now old path new =
      MatchBool (list_any (is_expired now old) old.pairs)
      ((mid : AgentRecord H P) × Nominates (expired_gone now old) path mid × (new ≡ evaluated now mid))
      ((path ≡ None) × (new ≡ state_updated true now old))

  -- ---- the call

  abbrev pub at_timeout : ℕ → AgentRecord H P → AgentRecord H P
  at_timeout now a = record a { last_time = Some now }

  -- With the profile `Modern` a call that serves an early request counts as the last one, if there was none before.
  abbrev pub at_request : ℕ → AgentRecord H P → AgentRecord H P
  at_request now a = record a { last_time = if is_modern a.timing then Some (unwrap_or a.last_time now) else a.last_time }

  -- Why a `handle_timeout` call may fail: for a reason for which the early request that it serves may fail, and without one only
  -- for an allocation failure.
  abbrev pub MayFailAtTimeout : ℕ → AgentRecord H P → IceError → Type 0
  MayFailAtTimeout now a error =
      MatchOption (request_at now a) (error ≡ OutOfMemory) (λ q. MayFailAtRequest (first_taken (timeout_begun now a)) q error)

  module _ (mac : H → List ℕ → List ℕ → List ℕ) where
    -- An early request is served, and the call ends.
    abbrev pub ServesQueued : RequestRecord → AgentRecord H P → Stream → Emitted → AgentRecord H P → Stream → Type 0
    ServesQueued q old s emitted new t = Serves mac q (first_taken old) emitted new × (t ≡ s)

    -- The selected pair may give way to another one. Then nomination, removal of failed pairs, and a check.
    abbrev pub MaintainsPairs : ℕ → AgentRecord H P → Stream → Emitted → AgentRecord H P → Stream → Type 0
    MaintainsPairs now old s emitted new t =
        (first second : Option Path) × (issued : Option Issued) × (named kept : AgentRecord H P)
        × Nominates (path_left now (at_timeout now old)) first named
        × RemovesExpired now named second kept
        × MayCheck mac now kept.remote_creds kept s issued new t
        × (emitted ≡ emitted_by issued first second)

    -- `handle_timeout`
    abbrev pub TimesOut : ℕ → AgentRecord H P → Stream → Result (Unit {0}) IceError → Emitted → AgentRecord H P → Stream → Type 0
    TimesOut now old s (Ok _) emitted new t =
        MatchOption (request_at now old)
        (MaintainsPairs now (timeout_begun now old) s emitted new t)
        (λ q. ServesQueued q (at_request now (timeout_begun now old)) s emitted new t)
    TimesOut now old s (Err error) emitted new t = MayFailAtTimeout now old error × (emitted ≡ nothing_emitted) × (new ≡ old) × (t ≡ s)
