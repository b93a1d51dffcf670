use Rattle.std.proofs.Common.{rules, ◌≡◌, ◌∙◌, ℕ, refl, w32, to_z, of_z, subst, ap, sym}
use Rattle.rand_core.specs.Steps.{stream_of}
use Rattle.is_rules.specs.Timeouts.{TimesOut}
use Rattle.is_proto.specs.contracts.hmac_provider.DefaultSha1HmacProviderSha1HmacProvider.TheImpl.{mac-value}
use Rattle.is_agent.specs.View.{emitted_of, record_of}
use Rattle.is_c_calls.specs.Clock.{agent_time}
use Rattle.is_c_calls.specs.Held.{HeldRecord}
use Rattle.is_c_calls.specs.Monitoring.{monitor_timed}
use Rattle.is_c_calls.specs.Packets.{RunsTimers}
use Rattle.is_c_calls.specs.Random.{given_steps}
use Rattle.is_c.specs.Slots.{held_record}
use Rattle.is_c.proofs.packets.run_timers.Goals as goal

-- the agent runs its timers at its own time; then the monitor sees the agent
pub returns : goal.returns
returns c =
    let old = held_record c.args.held.now in
    let r = c.handle_timeout-outcome.result in
    let emitted = emitted_of c.handle_timeout-outcome.new.self in
    let after = record_of c.handle_timeout-outcome.new.self in
    let left = stream_of given_steps c.handle_timeout-outcome.new.rng.rest.now in
    let timed : c.agent_time-now.result.0 ≡ agent_time c.args.now = search c.agent_time-now.ensures in
    let handled = subst
    (λ (now : ℕ). TimesOut mac-value.it now old.agent (stream_of given_steps c.args.random.now) r emitted after left)
    timed c.handle_timeout-outcome.ensures.timed_out in
    let seen = ap (λ (now : ℕ). monitor_timed r now after old.monitor) timed in
    let back : to_z w32 (of_z w32 c.done_code.result) ≡ c.done_code.result = search rules in
    subst
    (λ (new : HeldRecord). RunsTimers mac-value.it c.args.now c.args.random.now old (to_z w32 (of_z w32 c.done_code.result)) new)
    (sym c.see_timeout.ensures)
    (r, (emitted, (left, handled, back ∙ c.done_code.ensures, refl, seen, refl, refl)))
