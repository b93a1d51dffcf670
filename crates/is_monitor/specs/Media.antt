-- Which path media takes, also across an ICE restart, and from where it is taken.
use Rattle.std.specs.Prelude.{◌≡◌, ℕ, ◌&&◌, ◌||◌, Bool, false, not, nat_lt, Option, Some, None, MatchOption, if◌then◌else◌}
use Rattle.std.specs.Option.{option_and_then, option_map_or}
use Rattle.std.specs.declared.net.socket_addr.SocketAddr.{SocketAddr}
use Rattle.is_candidate.specs.Addresses.{same_address}
use Rattle.is_rules.specs.declared.emitted.Path.{Path}
use Rattle.is_rules.specs.Agent.{AgentRecord}
use Rattle.is_rules.specs.Questions.{FindsValidPath, has_viable_remote}
use Rattle.is_agent.specs.Media.{selected_path}
use Rattle.is_monitor.specs.declared.monitor.Monitor.{Monitor}

-- the path before the last restart, until consent to it ends (RFC 7675)
abbrev pub previous_path : ℕ → Monitor → Option Path
previous_path now m = option_and_then (λ p. if nat_lt now p.end.0 then Some p.path else None) m.previous

-- the previous path while the new session has selected none
abbrev pub kept_path : ℕ → Monitor → Option Path
kept_path now m = if m.is_restarted then previous_path now m else None

-- media to this path goes to that address
abbrev pub leads_to : SocketAddr → Option Path → Bool
leads_to address path = option_map_or (λ p. same_address p.destination address) path false

module _ {H P : Type 0} where
  -- The path for media: the selected one; after a restart the previous one (RFC 8445, section 12.1); before one is selected that of a valid pair.
  abbrev pub FindsMediaPath : ℕ → AgentRecord H P → Monitor → Option Path → Type 0
  FindsMediaPath now a m path =
      MatchOption (selected_path a)
      (MatchOption (kept_path now m) (FindsValidPath a path) (λ kept. path ≡ Some kept))
      (λ selected. path ≡ Some selected)

  -- Media is taken from where the selected or the previous path leads; on a full agent also from an address with a valid pair. A lite agent
  -- has no check of its own that was answered: there a valid pair shows less.
  abbrev pub takes_media_from : ℕ → AgentRecord H P → Monitor → SocketAddr → Bool
  takes_media_from now a m source =
      leads_to source (selected_path a) || leads_to source (previous_path now m) || (not a.lite && has_viable_remote a source)
