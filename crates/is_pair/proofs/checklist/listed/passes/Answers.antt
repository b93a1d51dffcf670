use Rattle.std.proofs.Common.{rules, sym, ◌∙◌}
use Rattle.is_pair.proofs.PairEntries.ChangedEntry.{none-passes, one-passes}
use Rattle.is_pair.proofs.checklist.listed.passes.Goals as goal

pub returns-in-Some : goal.returns-in-Some
returns-in-Some g c = c.passes.ensures ∙ sym (one-passes c.args.number (g.T.PairTest.passes c.args.test.now) c.args.pairs.now c.in-Some.pair.now c.requires.rising (search rules))

pub returns-in-None : goal.returns-in-None
returns-in-None g c = sym (none-passes c.args.number (g.T.PairTest.passes c.args.test.now) c.args.pairs.now (search rules))
