-- What a slot of C holds, and what the relations of the calls have in common.
use Rattle.std.specs.Prelude.{◌≡◌, ℕ, List, Option, Some, None, ℤ}
use Rattle.is_proto.specs.declared.hmac_provider.DefaultSha1HmacProvider.{DefaultSha1HmacProvider}
use Rattle.is_proto.specs.Packets.{Packet}
use Rattle.is_rules.specs.Agent.{AgentRecord}
use Rattle.is_monitor.specs.declared.failures.FailedSend.{FailedSend}
use Rattle.is_monitor.specs.declared.monitor.Monitor.{Monitor}
use Rattle.is_c_calls.specs.Codes.{OK, NO_AGENT}
use Rattle.is_c_calls.specs.declared.preference.Preference.{Preference}

abbrev pub Held : Type 0
Held = AgentRecord DefaultSha1HmacProvider Preference

-- the agent, a packet that waits for a longer buffer, the time of the agent at which `is_ice_handle_timeout` is to be called, the monitor of the
-- agent's paths, and packets that C could not send
pub record HeldRecord : Type 0 where
  pub agent : Held
  pub waiting : Option Packet
  pub deadline : Option ℕ
  pub monitor : Monitor
  pub failures : List FailedSend

-- what an export returns and does: without an agent nothing, and it returns `NO_AGENT`
abbrev pub At : (HeldRecord → ℤ → HeldRecord → Type 0) → Option HeldRecord → ℤ → Option HeldRecord → Type 0
At Does None code new = (code ≡ NO_AGENT) × (new ≡ None)
At Does (Some old) code None = ⊥
At Does (Some old) code (Some new) = Does old code new

-- a call that always succeeds
abbrev pub AgentBecomes : (Held → Held) → HeldRecord → ℤ → HeldRecord → Type 0
AgentBecomes change old code new = (code ≡ OK) × (new ≡ record old { agent = change old.agent })

-- only the agent may change, and the monitor becomes this one
abbrev pub KeepsRestWith : Monitor → HeldRecord → HeldRecord → Type 0
KeepsRestWith monitor old new =
    (new.waiting ≡ old.waiting) × (new.monitor ≡ monitor) × (new.deadline ≡ old.deadline) × (new.failures ≡ old.failures)

-- only the agent may change
abbrev pub KeepsRest : HeldRecord → HeldRecord → Type 0
KeepsRest old new = KeepsRestWith old.monitor old new

-- a call of the library, whose result the code contains
abbrev pub Calls : {R : Type 0} → (Held → R → Held → Type 0) → (R → ℤ) → HeldRecord → ℤ → HeldRecord → Type 0
Calls {R} Does to_code old code new =
    (r : R) × Does old.agent r new.agent × (code ≡ to_code r) × KeepsRest old new

-- a call that fails before the library is called
abbrev pub Rejects : ℤ → HeldRecord → ℤ → HeldRecord → Type 0
Rejects why old code new = (code ≡ why) × (new ≡ old)
