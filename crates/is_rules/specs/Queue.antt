-- Early requests: received before the remote credentials, and served after them.
use Rattle.std.specs.Prelude.{ℕ, ◌-◌, Bool, nat_le, List, [], ◌∷◌, ◌++◌, length, drop, Option, Some, None}
use Rattle.is_proto.specs.Lists.{drop_while, head}
use Rattle.is_stun.specs.declared.timing.StunTiming.{StunTiming}
use Rattle.is_stun.specs.Timing.{timeout_of}
use Rattle.is_rules.specs.declared.credentials.IceCreds.{IceCreds}
use Rattle.is_rules.specs.Request.{RequestRecord}
use Rattle.is_rules.specs.Agent.{AgentRecord}

abbrev pub QUEUE_LIMIT : ℕ
QUEUE_LIMIT = 100

-- the last requests, within the limit
abbrev pub queued_last : List RequestRecord → List RequestRecord
queued_last queue = drop (length queue - QUEUE_LIMIT) queue

-- The request is as old as a whole series of unanswered checks takes.
abbrev pub is_outdated : ℕ → StunTiming → RequestRecord → Bool
is_outdated now t q = nat_le (timeout_of t) (now - q.time)

-- the queue without the outdated requests at its front, once the remote credentials are known
abbrev pub queue_left : ℕ → StunTiming → Option IceCreds → List RequestRecord → List RequestRecord
queue_left now t None queue = queue
queue_left now t (Some peer) queue = drop_while (is_outdated now t) queue

-- the first request, once the remote credentials are known
abbrev pub next_request : Option IceCreds → List RequestRecord → Option RequestRecord
next_request None queue = None
next_request (Some peer) queue = head queue

module _ {H P : Type 0} where
  -- A request is appended. Beyond the limit the oldest one is dropped.
  abbrev pub queued : RequestRecord → AgentRecord H P → AgentRecord H P
  queued q a = record a { queue = queued_last (a.queue ++ q ∷ []) }

  abbrev pub queue_cleared : ℕ → AgentRecord H P → AgentRecord H P
  queue_cleared now a = record a { queue = queue_left now a.timing a.remote_creds a.queue }

  abbrev pub first_taken : AgentRecord H P → AgentRecord H P
  first_taken a = record a { queue = drop 1 a.queue }

  -- the early request that a `handle_timeout` call serves, if there is one
  abbrev pub request_at : ℕ → AgentRecord H P → Option RequestRecord
  request_at now a = next_request a.remote_creds (queue_left now a.timing a.remote_creds a.queue)
