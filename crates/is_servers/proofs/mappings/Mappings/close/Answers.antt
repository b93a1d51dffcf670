use Rattle.std.proofs.Common.{arith}
use Rattle.std.proofs.lemmas.List.Edits.{map_over_more}
use Rattle.is_servers.specs.Mapping.{closed}
use Rattle.is_servers.proofs.mappings.Mappings.close.Goals as goal

pub loop-place-preserved : goal.loop-place-preserved
loop-place-preserved c =
    let done = c.loop-place.invariant in
    record {
      items = rw c.close.ensures (map_over_more closed c.args.self.now.all.items c.loop-place.self.all.items c.loop-place.place _ (omega arith) done.items c.index_mut.ensures.value);
      len = done.len;
    }
