use Rattle.is_turn.proofs.Common.{◌∙◌, ◌≡◌, ap, datagram_of, incoming_view, is_answered_by, known, message_view, position, received_view}
use Rattle.is_turn.proofs.Common.{refl, response, rules, sym}
use Rattle.is_turn.proofs.RequestedData.{asked_responded}
use Rattle.is_turn.proofs.Receiving.{responded_answers, responded_genuine, responded_pin}
use Rattle.is_turn.proofs.turn.TurnClient.receive.Goals as goal

pub returns-in-Response-clause-pinned : goal.returns-in-Response-clause-pinned
returns-in-Response-clause-pinned g c =
    let self = c.args.self.now in
    let after = c.respond.new.self in
    let m = message_view c.in-Response.message in
    responded_pin (position (is_answered_by m) self.leases.items) (g.H.Sha1HmacProvider.mac self.provider) c.args.now m c.alternate_in-alternate.result
    self.session self.leases.items (known self.credentials) (received_view c.respond.result) after.session after.leases.items (known after.credentials)
    c.respond.ensures.step

pub returns-in-Response-clause-unauthentic : goal.returns-in-Response-clause-unauthentic
returns-in-Response-clause-unauthentic g c =
    let self = c.args.self.now in
    let after = c.respond.new.self in
    let m = message_view c.in-Response.message in
    let read : datagram_of c.args.bytes.now ≡ response m = sym c.read_incoming.ensures ∙ ap incoming_view c.in-Response.is in
    responded_genuine (position (is_answered_by m) self.leases.items) (g.H.Sha1HmacProvider.mac self.provider) c.args.now m c.alternate_in-alternate.result
    self.session self.leases.items (known self.credentials) (received_view c.respond.result) after.session after.leases.items (known after.credentials)
    c.args.bytes.now read c.respond.ensures.step

pub returns-in-Response-clause-only : goal.returns-in-Response-clause-only
returns-in-Response-clause-only g c =
    let self = c.args.self.now in
    let after = c.respond.new.self in
    let m = message_view c.in-Response.message in
    let read : datagram_of c.args.bytes.now ≡ response m = sym c.read_incoming.ensures ∙ ap incoming_view c.in-Response.is in
    let server : c.args.source ≡ self.session.server = search rules in
    responded_answers (position (is_answered_by m) self.leases.items) (g.H.Sha1HmacProvider.mac self.provider) c.args.now m c.alternate_in-alternate.result
    self.session self.leases.items (known self.credentials) (received_view c.respond.result) after.session after.leases.items (known after.credentials)
    c.args.source c.args.bytes.now server read refl c.respond.ensures.step

pub returns-in-Response-clause-asked : goal.returns-in-Response-clause-asked
returns-in-Response-clause-asked g c =
    let self = c.args.self.now in
    let after = c.respond.new.self in
    let m = message_view c.in-Response.message in
    asked_responded (position (is_answered_by m) self.leases.items) (g.H.Sha1HmacProvider.mac self.provider) c.args.now m c.alternate_in-alternate.result
    self.session self.leases.items (known self.credentials) (received_view c.respond.result) after.session after.leases.items (known after.credentials)
    c.respond.ensures.step
