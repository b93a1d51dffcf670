use Rattle.is.proofs.Common.{[], ◌<◌, arith, length, record_of}
use Rattle.is.proofs.AgentLogs.GrowingLog.{logged-push, length-logged, fewer, still_left, still_one_each}
use Rattle.is.proofs.runs.run_calls.Goals as goal

-- there is capacity for the entry of each call that is left
pub push_reserved-requires : goal.push_reserved-requires
push_reserved-requires g c =
    let i = c.loop-call.invariant in
    let lt : length c.loop-call.yielded < length c.args.calls.items = fewer _ _ _ _ _ i.left c.in-Some.ensures.steps.0 in
    let len = c.loop-call.entries.ok.0 in
    omega (arith, i.one_each, i.room)

-- one more call
pub loop-call-preserved : goal.loop-call-preserved
loop-call-preserved g c =
    let i = c.loop-call.invariant in
    let next = c.in-Some.ensures.steps.0 in
    let len = c.loop-call.entries.ok.0 in
    let logs = length-logged [] c.loop-call.yielded c.loop-call.entries.items i.one_each in
    record {
      left = still_left _ _ _ _ _ i.left next;
      one_each = rw c.push_reserved.ensures.items (still_one_each _ _ _ _ i.one_each);
      room = omega (arith, i.room, c.push_reserved.ensures.capacity);
      run = rw (c.push_reserved.ensures.items, logged-push [] _ _ c.in-Some.call c.step-entry.result i.one_each)
          (record_of c.loop-call.agent, g.R.Rng.stream c.loop-call.rng, i.run, omega (arith, i.one_each, c.step-entry.ensures.numbered), c.step-entry.ensures.given, c.step-entry.ensures.did);
    }
