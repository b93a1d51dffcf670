use Rattle.is_turn.proofs.Common.{◌++◌, ◌≡◌, advanced, drop, map, take, vec_len}
use Rattle.is_turn.proofs.places.advance_all.Given as goal

abbrev pub invariant-loop-place : goal.invariant-loop-place
invariant-loop-place l = record {
  items : l.leases.items ≡ map (advanced l.now) (take l.place l.fn.leases.items) ++ drop l.place l.fn.leases.items;
  len : vec_len l.leases ≡ vec_len l.fn.leases;
}
