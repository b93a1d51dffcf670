use Rattle.std.proofs.Common.{rules, ◌≡◌, ◌≢◌, ◌∙◌, Bool, not, Some, Option, ℤ, option_map, w32, to_z, of_z, subst, sym, ap}
use Rattle.is_proto.specs.contracts.hmac_provider.DefaultSha1HmacProviderSha1HmacProvider.TheImpl.{mac-value}
use Rattle.is_c.specs.declared.held.HeldAgent.{HeldAgent}
use Rattle.is_c.specs.Slots.{held_record}
use Rattle.is_c_calls.specs.Codes.{OK}
use Rattle.is_c_calls.specs.Following.{Follows, Followed, unless_settled}
use Rattle.is_c_calls.specs.Held.{HeldRecord, At}
use Rattle.is_c_calls.specs.Packets.{packet_path, IsHandled}
use Rattle.is_c_calls.specs.Uses.{Use, HandlePacket, Does}
use Rattle.is_c.proofs.packets.is_ice_handle_packet.Goals as goal

-- Whether the session is settled is asked after the call. What was borrowed is what is held.
pub returns-clause-step : goal.returns-clause-step
returns-clause-step c =
    let export : Use = HandlePacket c.args.now c.args.protocol c.args.source.now c.args.destination.now c.args.bytes.now in
    let before = held_record c.in-Some.held.now in let mid = held_record c.receive-code.new.held in let after = held_record c.followed.new.held in
    let code = c.followed.result in
    let same : code ≡ c.receive-code.result = c.followed.ensures.code ∙ (search rules) in
    let does : Does export before code mid = subst (λ (z : ℤ). Does export before z mid) (sym same) c.receive-code.ensures.step in
    let soon : not c.is_settled-soon.result ≡ unless_settled before mid = ap (λ (b : Bool). not b) c.is_settled-soon.ensures in
    let fixed : Follows (unless_settled before mid) code mid after = subst (λ (b : Bool). Follows b code mid after) soon
    (subst (λ (z : ℤ). Follows (not c.is_settled-soon.result) z mid after) (sym c.followed.ensures.code) c.followed.ensures.fixed) in
    let back : to_z w32 (of_z w32 code) ≡ code = search rules in
    let coded : Followed unless_settled export before (to_z w32 (of_z w32 code)) after =
    subst (λ (z : ℤ). Followed unless_settled export before z after) (sym back) (mid, does, fixed) in
    subst (λ (h : Option HeldAgent). At (Followed unless_settled export) (option_map held_record h) (to_z w32 (of_z w32 code)) (Some after)) c.in-Some.ensures.value coded

-- What was borrowed is what is held, and what follows changes nothing unless the code is OK.
pub returns-clause-settled : goal.returns-clause-settled
returns-clause-settled c =
    let Does : HeldRecord → ℤ → HeldRecord → Type 0 =
    IsHandled mac-value.it (packet_path c.args.protocol c.args.source.now c.args.destination.now) c.args.bytes.now in
    let before = held_record c.in-Some.held.now in let mid = held_record c.receive-code.new.held in let after = held_record c.followed.new.held in
    let code = c.followed.result in
    let same : code ≡ c.receive-code.result = c.followed.ensures.code ∙ (search rules) in
    let received : Does before code mid = subst (λ (z : ℤ). Does before z mid) (sym same) c.receive-code.ensures.settled in
    let settled : Does before code after = (received.0, λ (not_ok : code ≢ OK). c.followed.ensures.others not_ok ∙ received.1 not_ok) in
    let back : to_z w32 (of_z w32 code) ≡ code = search rules in
    let coded = subst (λ (z : ℤ). Does before z after) (sym back) settled in
    subst (λ (h : Option HeldAgent). At Does (option_map held_record h) (to_z w32 (of_z w32 code)) (Some after)) c.in-Some.ensures.value coded
