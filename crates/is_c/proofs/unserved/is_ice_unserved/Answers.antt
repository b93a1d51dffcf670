use Rattle.std.proofs.Common.{rules, ◌≡◌, ◌∙◌, Some, Option, ℤ, option_map, refl, w32, to_z, of_z, subst, sym}
use Rattle.is_proto.specs.contracts.hmac_provider.DefaultSha1HmacProviderSha1HmacProvider.TheImpl.{mac-value}
use Rattle.is_rules.specs.declared.emitted.Path.{Path}
use Rattle.is_c.specs.declared.held.HeldAgent.{HeldAgent}
use Rattle.is_c.specs.Slots.{held_record}
use Rattle.is_c.specs.Unserved.{AsksUnserved, AsksUnservedOn}
use Rattle.is_c_calls.specs.Held.{HeldRecord, At}
use Rattle.is_c_calls.specs.Packets.{packet_path}
use Rattle.is_c.proofs.unserved.is_ice_unserved.Goals as goal

-- what was borrowed is what is held
pub returns-in-Some-packet_path-clause-returned : goal.returns-in-Some-packet_path-clause-returned
returns-in-Some-packet_path-clause-returned c =
    let way = packet_path c.args.protocol c.args.source.now c.args.destination.now in let bytes = c.args.bytes.now in
    let Does : HeldRecord → ℤ → HeldRecord → Type 0 = AsksUnserved mac-value.it way bytes in
    let held = held_record c.in-Some.held.now in let code = c.bytes_unserved.result in
    let back : to_z w32 (of_z w32 code) ≡ code = search rules in
    let asked = subst (λ (path : Option Path). AsksUnservedOn mac-value.it held.agent path bytes code) (sym c.in-Some-packet_path.is ∙ c.packet_path.ensures) c.bytes_unserved.ensures in
    let does = subst (λ (code : ℤ). Does held code held) (sym back) (asked, refl) in
    subst (λ (h : Option HeldAgent). At Does (option_map held_record h) (to_z w32 (of_z w32 code)) (Some held)) c.in-Some.ensures.value does
