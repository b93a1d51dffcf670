use Rattle.is_pair.specs.Multiset.{KeepsKeys}
use Rattle.is_pair.proofs.PairEntries.ChangedPairs.{changed-below, changed-fewer, changed-index, changed-ranking, changed-rises}
use Rattle.is_pair.proofs.checklist.Checklist.change_all.Goals as goal

pub invariant_of-self-clause-rising : goal.invariant_of-self-clause-rising
invariant_of-self-clause-rising g c =
    let f = g.C.PairChange.makes c.args.change.now in
    let keys : KeepsKeys f = c.requires.keys in
    let is = c.change_all.ensures.changed in
    changed-rises f (λ p. (keys p).0) c.args.self.now.pairs.items _ is c.args.self.now.rising

pub invariant_of-self-clause-indexed : goal.invariant_of-self-clause-indexed
invariant_of-self-clause-indexed g c =
    let f = g.C.PairChange.makes c.args.change.now in
    let keys : KeepsKeys f = c.requires.keys in
    let is = c.change_all.ensures.changed in
    changed-index f (λ p. (keys p).0) c.args.self.now.pairs.items _ is (λ p. (keys p).2) c.args.self.now.index.items c.args.self.now.indexed

pub invariant_of-self-clause-ranked : goal.invariant_of-self-clause-ranked
invariant_of-self-clause-ranked g c =
    let f = g.C.PairChange.makes c.args.change.now in
    let keys : KeepsKeys f = c.requires.keys in
    let is = c.change_all.ensures.changed in
    changed-ranking f (λ p. (keys p).0) c.args.self.now.pairs.items _ is (λ p. (keys p).1) c.args.self.now.ranks.items c.args.self.now.ranked

pub returns-clause-check_room : goal.returns-clause-check_room
returns-clause-check_room g c =
    let f = g.C.PairChange.makes c.args.change.now in
    let keys : KeepsKeys f = c.requires.keys in
    let is = c.change_all.ensures.changed in
    λ limit h. (h.0, h.1, changed-fewer f (λ p. (keys p).0) c.args.self.now.pairs.items _ is (λ p. (keys p).2) limit _ h.2)

pub returns-clause-below : goal.returns-clause-below
returns-clause-below g c =
    let f = g.C.PairChange.makes c.args.change.now in
    let keys : KeepsKeys f = c.requires.keys in
    let is = c.change_all.ensures.changed in
    λ n h. changed-below f (λ p. (keys p).0) c.args.self.now.pairs.items _ is n h
