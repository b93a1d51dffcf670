use Rattle.std.proofs.Common.{rules}
use Rattle.is_rules.specs.Local.{widened}
use Rattle.is_agent.specs.View.{emitted_of}
use Rattle.is_agent.proofs.added.add_local_listed.Goals as goal

pub returns-in-Some : goal.returns-in-Some
returns-in-Some g c = (
  widened c.add_local.result,
  emitted_of c.add_local.new.self,
  c.add_local.ensures,
  rw (c.in_ok-place.was) (search (c.in-Some.is, c.listed_index.ensures, c.deref.ensures.value)),
)

pub returns-in-None : goal.returns-in-None
returns-in-None g c = (
  widened c.add_local.result,
  emitted_of c.add_local.new.self,
  c.add_local.ensures,
  rw (c.in_ok-place.was) (search (c.in-None.is, c.unwanted_addition-otherwise.ensures)),
)

pub returns-in_err-place : goal.returns-in_err-place
returns-in_err-place g c = (
  widened c.add_local.result,
  emitted_of c.add_local.new.self,
  c.add_local.ensures,
  rw (c.in_err-place.was) (search (c.from_residual.ensures, c.in_err-place.is, rules)),
)
