use Rattle.std.proofs.Common.{◌≡◌, fold, drop, Some}
use Rattle.is_servers.specs.Hosts.{port_step}
use Rattle.is_servers.proofs.url_host.port_of.Given as goal

-- the number of the digits that were visited, and then of those that are left, is that of all
abbrev pub invariant-loop-byte : goal.invariant-loop-byte
invariant-loop-byte l = fold port_step l.number (drop l.byte-index l.digits) ≡ fold port_step (Some 0) l.digits
