use Rattle.std.proofs.Common.{rules, ◌≡◌, ◌∙◌, inr, w32, to_z, of_z}
use Rattle.is_stun.specs.MessageView.{message_view}
use Rattle.is_c_calls.specs.Codes.{rejection_code}
use Rattle.is_c.proofs.accepting.bytes_rejection.Goals as goal

-- the bytes read as the message that the agent accepts, or rejects for this reason
pub returns-in-Ok : goal.returns-in-Ok
returns-in-Ok c =
    let back : to_z w32 (of_z w32 c.rejection_code.result) ≡ c.rejection_code.result = search rules in
    let coded : c.rejection_code.result ≡ rejection_code c.rejection.result = search c.rejection_code.ensures in
    inr (message_view c.in-Ok.message, c.in-Ok.ensures.reads, (c.rejection.result, c.rejection.ensures.rejects, c.rejection.ensures.accepted, back ∙ coded))
