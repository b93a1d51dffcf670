use Rattle.is_pair.proofs.Common.{Cut, is_current, LeavesCurrent, subst, sym}
use Rattle.is_pair.proofs.PairEntries.ChangedEntry.{filter-whole}
use Rattle.is_pair.proofs.checklist.index.forget.Goals as goal

pub returns-in-Nothing-clause-items : goal.returns-in-Nothing-clause-items
returns-in-Nothing-clause-items c =
    let p = c.args.pair.now in let items = c.args.index.now.items in
    sym (filter-whole (is_current p) items (subst (λ (cut : Cut). LeavesCurrent p items cut) c.in-Nothing.is c.requires.left))
