use Rattle.std.proofs.Common.{rules, ◌∙◌, sym, arith}
use Rattle.std.specs.Net.Addr.{IsIpv4Addr, IsIpv6Addr}
use Rattle.is_proto.proofs.Addresses.{fits_v4, fits_v6, writes_plainly}
use Rattle.is_proto.proofs.theorems.socket_text_round_trips.Goals as goal

pub returns-in-V4 : goal.returns-in-V4
returns-in-V4 c plain =
    let fits : IsIpv4Addr c.in-V4.ip = rw (← c.octets-octets.ensures) (search rules) in
    writes_plainly c.args.address.0 (fits_v4 c.args.address.0 c.in-V4.ip (sym c.in-V4.is ∙ c.ip.ensures) fits (omega arith)) plain

pub returns-in-V6 : goal.returns-in-V6
returns-in-V6 c plain =
    let fits : IsIpv6Addr c.in-V6.ip = rw (← c.segments-segments.ensures) (search rules) in
    writes_plainly c.args.address.0 (fits_v6 c.args.address.0 c.in-V6.ip (sym c.in-V6.is ∙ c.ip.ensures) fits (omega arith) plain) plain
