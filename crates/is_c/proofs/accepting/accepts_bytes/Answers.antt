use Rattle.std.proofs.Common.{rules, ◌≡◌, ◌∙◌, inr, w32, to_z, of_z}
use Rattle.is_stun.specs.MessageView.{message_view}
use Rattle.is_c_calls.specs.Codes.{found_code}
use Rattle.is_c.proofs.accepting.accepts_bytes.Goals as goal

-- the bytes read as the message that the agent is to accept or not
pub returns-in-Ok : goal.returns-in-Ok
returns-in-Ok c =
    let back : to_z w32 (of_z w32 c.found_code.result) ≡ c.found_code.result = search rules in
    let coded : c.found_code.result ≡ found_code c.accepts_packet.result = search c.found_code.ensures in
    inr (message_view c.in-Ok.message, c.in-Ok.ensures.reads, (c.accepts_packet.result, c.accepts_packet.ensures, back ∙ coded))
