-- The input of pair forming, without its layout in memory.
use Rattle.is_rules.specs.declared.sides.Sides.{Sides}
use Rattle.is_rules.specs.Forming.{SidesRecord}

abbrev pub sides_view : Sides → SidesRecord
sides_view s = record { local = s.local.now; remote = s.remote.now; controlling = s.controlling; lite = s.lite; modern = s.modern }
