use Rattle.is_stun.proofs.Common.{◌+◌, map, message_view, option_copied, refl, row_view, sym}
use Rattle.is_stun.proofs.WrittenMessages.MessagesByParts.{writes_message}
use Rattle.is_stun.proofs.RoundTrips.SignedMessages.{bytes_round_trip}
use Rattle.is_stun.proofs.message_writing.write_message.Goals as goal

pub returns-clause-written : goal.returns-clause-written
returns-clause-written g c =
    let v = c.of-values.ensures in
    writes_message c.write_draft.result c.args.buf.now c.write_draft.new.buf (g.H.Sha1HmacProvider.mac c.args.provider.now) (option_copied c.args.password) (message_view c.args.message.now)
    (c.to_u16.result + c.to_u16-2.result) (map row_view c.rows_of-rows.result) (sym c.requires.writable)
    (rw (c.rows_of-rows.ensures, v.controlled, v.controlling, v.priority, v.mapped, v.relayed, v.peer, v.channel, v.lifetime, c.requires.error, v.cost, v.nomination) refl)
    (rw (c.to_u16.ensures, c.to_u16-2.ensures) refl) c.write_draft.ensures.written

pub returns-clause-round_trip : goal.returns-clause-round_trip
returns-clause-round_trip g c =
    let v = c.of-values.ensures in
    let mac = g.H.Sha1HmacProvider.mac c.args.provider.now in
    bytes_round_trip c.write_draft.result c.args.buf.now c.write_draft.new.buf mac (option_copied c.args.password) (message_view c.args.message.now)
    (c.to_u16.result + c.to_u16-2.result) (map row_view c.rows_of-rows.result) (sym c.requires.writable)
    (rw (c.rows_of-rows.ensures, v.controlled, v.controlling, v.priority, v.mapped, v.relayed, v.peer, v.channel, v.lifetime, c.requires.error, v.cost, v.nomination) refl)
    (rw (c.to_u16.ensures, c.to_u16-2.ensures) refl) c.write_draft.ensures.written c.write_draft.ensures.mac c.id_fits.ensures c.values_fit.ensures
