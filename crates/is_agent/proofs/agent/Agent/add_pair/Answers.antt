use Rattle.std.proofs.Common.{◌<◌, length, ap, sym, subst, [], ◌∷◌, arith}
use Rattle.is_pair.specs.Checklists.{multiset_of}
use Rattle.is_pair.specs.Pairs.{PairRecord}
use Rattle.is_rules.proofs.PairLists.PairsInLists.{placed-push}
use Rattle.std.proofs.Common.{◌≡◌, ◌+◌, true}
use Rattle.is_pair.specs.Multiset.{are_below}
use Rattle.std.proofs.lemmas.List.{length-append}
use Rattle.is_agent.proofs.agent.Agent.add_pair.Goals as goal

pub invariant_of-self-clause-placed : goal.invariant_of-self-clause-placed
invariant_of-self-clause-placed g c =
    let self = c.args.self.now in let p = c.formed-pair.result in
    rw (c.add.ensures.added)
    (placed-push self.local.items self.remote.items (multiset_of self.pairs) p self.placed
    (subst (λ k. k < length self.local.items) (sym (ap (λ (x : PairRecord). x.local) c.formed-pair.ensures)) c.requires.local)
    (subst (λ k. k < length self.remote.items) (sym (ap (λ (x : PairRecord). x.remote) c.formed-pair.ensures)) c.requires.remote))

pub invariant_of-self-clause-numbered : goal.invariant_of-self-clause-numbered
invariant_of-self-clause-numbered g c =
    subst (λ n. are_below (n + 1) (multiset_of c.add.new.self) ≡ true) (ap (λ (x : PairRecord). x.number) c.formed-pair.ensures) c.add.ensures.below

pub invariant_of-self-clause-room_suffices : goal.invariant_of-self-clause-room_suffices
invariant_of-self-clause-room_suffices g c =
    let self = c.args.self.now in omega (arith, ap length c.add.ensures.added, length-append (multiset_of self.pairs) (c.formed-pair.result ∷ []), c.requires.pairs.1)
