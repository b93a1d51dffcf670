use Rattle.is_stun.proofs.Common.{◌+◌, map, message_view, option_copied, refl, row_view, sym}
use Rattle.is_stun.proofs.WrittenMessages.RequestingMessages.{writes_request}
use Rattle.is_stun.proofs.message_writing.write_requesting.Goals as goal

pub returns : goal.returns
returns g c =
    let v = c.of-values.ensures in
    let asked = c.of-asked.ensures in
    writes_request c.write_draft.result c.args.buf.now c.write_draft.new.buf (g.H.Sha1HmacProvider.mac c.args.provider.now) (option_copied c.args.password) (message_view c.args.message.now) c.args.requested.now
    (c.to_u16.result + c.to_u16-2.result) (map row_view c.rows_with-rows.result) (sym c.requires.writable)
    (rw (c.rows_with-rows.ensures, v.controlled, v.controlling, v.priority, v.mapped, v.relayed, v.peer, v.channel, v.lifetime, c.requires.error, v.cost, v.nomination, asked.family, asked.transport) refl)
    (rw (c.to_u16.ensures, c.to_u16-2.ensures) refl) c.write_draft.ensures.written
