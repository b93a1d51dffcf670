use Rattle.std.proofs.Common.{◌≡◌, fold, drop, Some}
use Rattle.is_servers.specs.Hosts.{name_step}
use Rattle.is_servers.proofs.url_host.is_name.Given as goal

-- what is due after what was visited, and then what is left, is due after all
abbrev pub invariant-loop-byte : goal.invariant-loop-byte
invariant-loop-byte l = fold name_step l.due (drop l.byte-index l.bytes) ≡ fold name_step (Some 0) l.bytes
