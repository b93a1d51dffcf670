use Rattle.is_pair.proofs.Common.{◌++◌, ◌+◌, ◌≡◌, arith, filter, get_or_from_slice_get, length, length-append, length-reverse, option_to_list}
use Rattle.is_pair.proofs.Common.{pair_numbered, pairs_of, Rank, records_of, reverse, rules, slice_get, slice_get-get_or, slice_get_within, Some, sym, take}
use Rattle.is_pair.proofs.RemovedPairs.{after-none, after-some, few-records, few-so-far, fits-fewer, pairs-more}
use Rattle.is_pair.proofs.checklist.removed.keep_ranked.Goals as goal
use Rattle.is_pair.proofs.checklist.removed.keep_ranked.Goals.{in-Some, in_default}

abbrev zero : Rank
zero = record { priority = 0; number = 0 }

pub loop-place-init : goal.loop-place-init
loop-place-init g c = record {
  removed = after-none (g.T.PairRemoval.reason c.args.test.now) (records_of c.args.records.now) (few-records c.args.records.now);
  room = λ n h. fits-fewer n (0 + n) c.args.records.now (omega arith) h;
}

pub keep_if-requires-clause-room : goal.keep_if-requires-clause-room
keep_if-requires-clause-room g c =
    let rs = reverse c.args.ranks.now in
    let i = c.loop-place.place in
    let r = c.in-Some.rank in
    let test = g.T.PairTest.passes c.args.test.now in
    let at : slice_get rs i ≡ Some r = search rules in
    let few = few-so-far test rs c.args.pairs.now i r zero (slice_get_within rs i r at) (sym (get_or_from_slice_get rs i r zero at)) in
    let so-far = length (filter test (pairs_of (take i rs) c.args.pairs.now)) in
    let next = length (filter test (option_to_list (pair_numbered r.number c.args.pairs.now))) in
    c.loop-place.invariant.room next
    (fits-fewer (so-far + next) (length (filter test (pairs_of rs c.args.pairs.now))) c.args.records.now (omega (arith, few)) c.requires.room)

pub loop-place-preserved : goal.loop-place-preserved
loop-place-preserved g c =
    let rs = reverse c.args.ranks.now in
    let i = c.loop-place.place in
    let ps = c.args.pairs.now in
    let test = g.T.PairTest.passes c.args.test.now in
    let reason = g.T.PairRemoval.reason c.args.test.now in
    elim c.match-at.branch [
      | in-Some w ↦
          let r = w.in-Some.rank in
          let at : slice_get rs i ≡ Some r = search rules in
          let so-far = filter test (pairs_of (take i rs) ps) in
          let next = filter test (option_to_list (pair_numbered r.number ps)) in
          let is = pairs-more test rs ps i r zero (slice_get_within rs i r at) (sym (get_or_from_slice_get rs i r zero at)) in
          let more = length-append so-far next in
          rw (w.records-is, is) (record {
            removed = after-some reason so-far next (records_of c.args.records.now) (records_of c.loop-place.records) (records_of w.keep_if.new.records)
                c.loop-place.invariant.removed w.keep_if.ensures.removed;
            room = λ n h. w.keep_if.ensures.room n (c.loop-place.invariant.room (length next + n)
                (fits-fewer (length so-far + (length next + n)) (length (so-far ++ next) + n) c.args.records.now (omega (arith, more)) h));
          })
      | in_default w ↦
          let some = slice_get-get_or rs i zero (omega (arith, length-reverse c.args.ranks.now, c.loop-place-test.true)) in
          absurd (search rules)
    ]
