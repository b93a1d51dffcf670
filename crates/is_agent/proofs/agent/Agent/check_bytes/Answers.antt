use Rattle.std.proofs.Common.{◌≡◌, ◌∙◌, ap, false, Some, length, string_bytes, arith}
use Rattle.is_stun.specs.Checks.{with_nomination}
use Rattle.is_rules.specs.Fitting.{are_too_long, CHECK_ROOM}
use Rattle.is_rules.specs.Checking.{username_between}
use Rattle.is_agent.proofs.AgentParts.UsernameLength.{username-short}
use Rattle.is_agent.proofs.agent.Agent.check_bytes.Goals as goal

pub write_check-requires-clause-fits : goal.write_check-requires-clause-fits
write_check-requires-clause-fits g c =
    let self = c.args.self.now in
    let fits : are_too_long self.local_creds (Some c.in-Some.peer) ≡ false = rw c.in-Some.is at self.credentials_fit in
    let is : string_bytes self.username ≡ username_between c.in-Some.peer self.local_creds = rw c.in-Some.is at c.requires.username in
    let room : length c.args.contents.items ≡ CHECK_ROOM = rw c.in-Some.is at c.requires.contents in
    let said = c.with_nomination-request.ensures ∙ ap (with_nomination _) c.binding_request.ensures in
    rw (said, room, c.as_str-username.ensures.value, is)
    (c.checks_fit.ensures.numbered_fits _ _ _ _ _ _ _ _ (username-short self.local_creds c.in-Some.peer fits) CHECK_ROOM (omega arith))
