use Rattle.std.proofs.Common.{rules, ◌≡◌, ◌∙◌, inr, w32, to_z, of_z}
use Rattle.is_stun.specs.MessageView.{message_view}
use Rattle.is_c.specs.Unserved.{unserved_code}
use Rattle.is_c.proofs.unserved.bytes_unserved.Goals as goal

-- the bytes read as the message to which the agent sends no response for this reason, if there is one
pub returns-in-Ok : goal.returns-in-Ok
returns-in-Ok c =
    let back : to_z w32 (of_z w32 c.unserved_code.result) ≡ c.unserved_code.result = search rules in
    let coded : c.unserved_code.result ≡ unserved_code c.unserved.result = search c.unserved_code.ensures in
    inr (message_view c.in-Ok.message, c.in-Ok.ensures.reads, (c.unserved.result, c.unserved.ensures, back ∙ coded))
