use Rattle.std.proofs.Common.{arith}
use Rattle.std.proofs.lemmas.List.Edits.{map_over_more}
use Rattle.is_servers.specs.Mapping.{lost_at}
use Rattle.is_servers.proofs.mappings.Mappings.lose.Goals as goal

pub loop-place-preserved : goal.loop-place-preserved
loop-place-preserved c =
    let done = c.loop-place.invariant in
    record {
      items = rw c.lose_of.ensures (map_over_more (lost_at c.args.local) c.args.self.now.all.items c.loop-place.self.all.items c.loop-place.place _ (omega arith) done.items c.index_mut.ensures.value);
      len = done.len;
    }
