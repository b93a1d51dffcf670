use Rattle.std.proofs.Common.{◌≡◌, ◌++◌, map, take, drop, vec_len}
use Rattle.is_servers.specs.Mapping.{closed}
use Rattle.is_servers.proofs.mappings.Mappings.close.Given as goal

-- the clients before this place have ended
abbrev pub invariant-loop-place : goal.invariant-loop-place
invariant-loop-place l = record {
  items : l.self.all.items ≡ map (closed) (take l.place l.fn.self.all.items) ++ drop l.place l.fn.self.all.items;
  len : vec_len l.self.all ≡ vec_len l.fn.self.all;
}
