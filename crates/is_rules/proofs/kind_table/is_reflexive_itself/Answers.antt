use Rattle.std.proofs.lemmas.List.Folds.{list_any_at}
use Rattle.std.specs.Net.Addr.{ipv4_octets, ipv6_segments}
use Rattle.std.specs.Net.Socket.{v4_ip, v4_port, v6_flowinfo, v6_ip, v6_port, v6_scope_id}
use Rattle.is_candidate.specs.Addresses.{same_address}
use Rattle.is_rules.proofs.Common.{◌∙◌, ◌≡◌, ap, base_of, bytes_eq-Decides, candidate_at, eq-eqb, is_reflexive, is_reflexive_of, nowhere}
use Rattle.is_rules.proofs.Common.{refl, SocketAddr, sym, true, V4, V6}
use Rattle.is_rules.proofs.kind_table.is_reflexive_itself.Goals as goal

same-itself : (a : SocketAddr) → same_address a a ≡ true
same-itself (V4 a) =
    let octets = (bytes_eq-Decides (ipv4_octets (v4_ip a)) (ipv4_octets (v4_ip a))).1 refl in
    let port = eq-eqb (v4_port a) (v4_port a) refl in
    rw (octets, port)
same-itself (V6 a) =
    let segments = (bytes_eq-Decides (ipv6_segments (v6_ip a)) (ipv6_segments (v6_ip a))).1 refl in
    let port = eq-eqb (v6_port a) (v6_port a) refl in
    let flow = eq-eqb (v6_flowinfo a) (v6_flowinfo a) refl in
    let scope = eq-eqb (v6_scope_id a) (v6_scope_id a) refl in
    rw (segments, port, flow, scope)

pub returns : goal.returns
returns c = λ is.
    let its = candidate_at c.args.local.now c.args.place in
    let counts : is_reflexive its ≡ true = ap is_reflexive (sym c.candidate_at.ensures) ∙ sym c.is_reflexive.ensures ∙ is in
    list_any_at (is_reflexive_of (base_of its)) c.args.local.now c.args.place nowhere c.requires (rw counts (same-itself (base_of its)))
