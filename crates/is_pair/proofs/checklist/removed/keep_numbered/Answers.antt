use Rattle.is_pair.proofs.Common.{[], ◌++◌, ◌+◌, ◌∙◌, ◌∷◌, ◌≡◌, ap, arith, filter, is_numbered, last_removed, length, List, option_to_list}
use Rattle.is_pair.proofs.Common.{pair_numbered, PairRecord, records_of, removed_after, RemovedPair, sym}
use Rattle.is_pair.proofs.RemovedPairs.{after-none, few-pass, few-records, filter-one, fits-fewer}
use Rattle.is_pair.proofs.checklist.removed.keep_numbered.Goals as goal

pub push-requires : goal.push-requires
push-requires c =
    let one : filter (is_numbered c.args.number) c.args.pairs.now ≡ c.in-Some.pair.now ∷ [] =
    filter-one c.args.number c.args.pairs.now c.requires.rising ∙ ap option_to_list (sym c.in-Some.ensures.found) in
    let many = few-pass (is_numbered c.args.number) c.args.pairs.now in
    record { room = fits-fewer 1 (length c.args.pairs.now) c.args.records.now (omega (arith, many, ap length one)) c.requires.room }

pub returns-in-Some : goal.returns-in-Some
returns-in-Some c =
    let one : filter (is_numbered c.args.number) c.args.pairs.now ≡ c.in-Some.pair.now ∷ [] =
    filter-one c.args.number c.args.pairs.now c.requires.rising ∙ ap option_to_list (sym c.in-Some.ensures.found) in
    let old = records_of c.args.records.now in
    record {
      removed = c.push.ensures.pushed ∙ ap (λ (r : RemovedPair). last_removed (old ++ r ∷ [])) c.of.ensures
          ∙ ap (λ (ps : List PairRecord). removed_after (λ p. c.args.why) ps old) (sym one);
      room = λ n h. c.push.ensures.room n
          (fits-fewer (n + 1) (length (filter (is_numbered c.args.number) c.args.pairs.now) + n) c.args.records.now (omega (arith, ap length one)) h);
    }

pub returns-in-None : goal.returns-in-None
returns-in-None c =
    let none : option_to_list (pair_numbered c.args.number c.args.pairs.now) ≡ [] = ap option_to_list (sym c.in-None.ensures.found) in
    let old = records_of c.args.records.now in
    record {
      removed = after-none (λ p. c.args.why) old (few-records c.args.records.now)
          ∙ ap (λ (ps : List PairRecord). removed_after (λ p. c.args.why) ps old)
          (sym (filter-one c.args.number c.args.pairs.now c.requires.rising ∙ none));
      room = λ n h. fits-fewer n (length (filter (is_numbered c.args.number) c.args.pairs.now) + n) c.args.records.now (omega arith) h;
    }
