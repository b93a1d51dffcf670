use Rattle.is.specs.Log.{logged}
use Rattle.is.proofs.Common.{[], ◌++◌, ◌≡◌, ◌≤◌, into_iter_items, length, record_of, Run, vec_capacity}
use Rattle.is.proofs.runs.run_calls.Given as goal

-- the calls that were made have their entries, and there is capacity for the rest
abbrev pub invariant-loop-call : goal.invariant-loop-call
invariant-loop-call g l = record {
  left : l.yielded ++ into_iter_items l.call-iterator ≡ l.fn.calls.items;
  one_each : length l.entries.items ≡ length l.yielded;
  room : length l.fn.calls.items ≤ vec_capacity l.entries;
  run : Run g.H.Sha1HmacProvider.mac g.P.LocalPreference.answers (record_of l.fn.agent) (g.R.Rng.stream l.fn.rng) (logged [] l.yielded l.entries.items) (record_of l.agent) (g.R.Rng.stream l.rng);
}
