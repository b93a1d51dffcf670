use Rattle.std.proofs.Common.{ℕ, Some, Option, option_map, refl, subst}
use Rattle.is_monitor.specs.Media.{FindsMediaPath}
use Rattle.is_c_calls.specs.Codes.{OK}
use Rattle.is_c_calls.specs.Held.{At}
use Rattle.is_c.specs.declared.held.HeldAgent.{HeldAgent}
use Rattle.is_c.specs.Monitoring.{ReturnsMediaPath}
use Rattle.is_c.specs.Slots.{held_record}
use Rattle.is_c.proofs.monitoring.is_ice_path_for_media.Goals as goal

pub returns-in-Some-media_path-clause-returned : goal.returns-in-Some-media_path-clause-returned
returns-in-Some-media_path-clause-returned c =
    let held = held_record c.in-Some.held.now in let found = c.in-Some-media_path.found in
    subst (λ (h : Option HeldAgent). At (ReturnsMediaPath c.args.now c.args.path.now c.reported_path.result) (option_map held_record h) OK (Some held)) c.in-Some.ensures.value
    (Some found, subst (λ (at : ℕ). FindsMediaPath at held.agent held.monitor (Some found)) c.agent_time.ensures c.in-Some-media_path.ensures, (refl, c.reported_path.ensures), refl)
