-- Any JSON text may fail for lack of memory.
use Rattle.std.proofs.Common.{Option, Some, None, Err}
use Rattle.serde_json.specs.Data.{Data}
use Rattle.is_proto.specs.declared.error.IceError.TheVariants.{OutOfMemory}
use Rattle.is_candidate.specs.Infos.{ReadsValue}

pub no_memory : (d : Option Data) → ReadsValue d (Err OutOfMemory)
no_memory None = tt
no_memory (Some d) = tt
