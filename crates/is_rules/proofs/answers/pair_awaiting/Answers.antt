use Rattle.is_rules.specs.Answers.{is_reverse}
use Rattle.is_rules.proofs.Common.{◌∙◌, ap, is_awaiting, is_placed, multiset_of, None, pair_numbered, PairRecord, Some}
use Rattle.is_rules.specs.Sending.{path_at}
use Rattle.is_rules.proofs.PairLists.PairsByNumber.{has-any, none-any, numbered-found}
use Rattle.is_rules.proofs.PairLists.PairsInLists.{awaiting-there}
use Rattle.is_rules.proofs.answers.pair_awaiting.Goals as goal

pub returns-in-Some-clause-any : goal.returns-in-Some-clause-any
returns-in-Some-clause-any c =
    let s = c.args.sides in let multiset = multiset_of c.args.pairs.now in
    let back = λ (p : PairRecord). is_reverse c.args.via.now (path_at s.local.now s.remote.now p.local p.remote) in
    let found = awaiting-there c.args.id.0 (is_placed s.local.now s.remote.now) back multiset (Some c.in-Some.pair.now) c.requires c.in-Some.ensures.awaiting in
    has-any (is_awaiting c.args.id.0 back) multiset c.in-Some.pair.now found.0 found.1

pub returns-in-Some-clause-kept : goal.returns-in-Some-clause-kept
returns-in-Some-clause-kept c =
    let s = c.args.sides in let multiset = multiset_of c.args.pairs.now in let p = c.in-Some.pair.now in
    let back = λ (p : PairRecord). is_reverse c.args.via.now (path_at s.local.now s.remote.now p.local p.remote) in
    let found = awaiting-there c.args.id.0 (is_placed s.local.now s.remote.now) back multiset (Some p) c.requires c.in-Some.ensures.awaiting in (
      p,
      ap (λ n. pair_numbered n multiset) c.id.ensures ∙ numbered-found multiset p c.numbers_rise.ensures found.0,
      found.1,
    )

pub returns-in-None-clause-any : goal.returns-in-None-clause-any
returns-in-None-clause-any c =
    let s = c.args.sides in let multiset = multiset_of c.args.pairs.now in
    let back = λ (p : PairRecord). is_reverse c.args.via.now (path_at s.local.now s.remote.now p.local p.remote) in
    none-any (is_awaiting c.args.id.0 back) multiset
    (awaiting-there c.args.id.0 (is_placed s.local.now s.remote.now) back multiset None c.requires c.in-None.ensures.awaiting)
