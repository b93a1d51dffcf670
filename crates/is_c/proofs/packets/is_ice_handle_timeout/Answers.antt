use Rattle.std.proofs.Common.{rules, ◌≡◌, ◌∙◌, ℕ, Bool, Some, Option, ℤ, option_map, nat_lt, length, w32, to_z, of_z, subst, sym, ap}
use Rattle.is_c.specs.declared.held.HeldAgent.{HeldAgent}
use Rattle.is_c.specs.Slots.{held_record}
use Rattle.is_c_calls.specs.Following.{Follows, Followed, if_served}
use Rattle.is_c_calls.specs.Held.{At}
use Rattle.is_c_calls.specs.Uses.{Use, HandleTimeout, Does}
use Rattle.is_c.proofs.packets.is_ice_handle_timeout.Goals as goal

-- The early requests are counted before and after the call. What was borrowed is what is held.
pub returns : goal.returns
returns c =
    let export : Use = HandleTimeout c.args.now c.args.random.now in
    let before = held_record c.in-Some.held.now in let mid = held_record c.time_out-code.new.held in let after = held_record c.followed.new.held in
    let code = c.followed.result in
    let same : code ≡ c.time_out-code.result = c.followed.ensures.code ∙ (search rules) in
    let does : Does export before code mid = subst (λ (z : ℤ). Does export before z mid) (sym same) c.time_out-code.ensures in
    let soon : nat_lt c.early_request_count.result c.early_request_count-early.result ≡ if_served before mid =
    ap (λ (n : ℕ). nat_lt n c.early_request_count-early.result) c.early_request_count.ensures
    ∙ ap (λ (n : ℕ). nat_lt (length mid.agent.queue) n) c.early_request_count-early.ensures in
    let fixed : Follows (if_served before mid) code mid after = subst (λ (b : Bool). Follows b code mid after) soon
    (subst (λ (z : ℤ). Follows (nat_lt c.early_request_count.result c.early_request_count-early.result) z mid after) (sym c.followed.ensures.code) c.followed.ensures.fixed) in
    let back : to_z w32 (of_z w32 code) ≡ code = search rules in
    let coded : Followed if_served export before (to_z w32 (of_z w32 code)) after =
    subst (λ (z : ℤ). Followed if_served export before z after) (sym back) (mid, does, fixed) in
    subst (λ (h : Option HeldAgent). At (Followed if_served export) (option_map held_record h) (to_z w32 (of_z w32 code)) (Some after)) c.in-Some.ensures.value coded
