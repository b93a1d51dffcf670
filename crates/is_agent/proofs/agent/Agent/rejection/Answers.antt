use Rattle.std.proofs.Common.{◌≡◌, ◌↔◌, ◌⊎◌, inl, inr, ℕ, Bool, true, false, List, [], ◌∷◌, Option, Some, None, rules, refl, sym, subst}
use Rattle.std.specs.Prelude.{◌&&◌, ◌||◌}
use Rattle.std.specs.List.{list_any}
use Rattle.is_pair.specs.Multiset.{keeps_check}
use Rattle.is_pair.specs.Pairs.{PairRecord}
use Rattle.is_stun.specs.declared.header.Class.{Class}
use Rattle.is_stun.specs.declared.header.Class.TheVariants.{Success, Failure}
use Rattle.is_stun.specs.declared.header.Method.TheVariants.{Binding}
use Rattle.is_stun.specs.Message.{Message}
use Rattle.is_stun.specs.MessageView.{message_view}
use Rattle.is_rules.specs.declared.emitted.Path.{Path}
use Rattle.is_rules.specs.Accepting.{IsAcceptedAs, IsAwaited}
use Rattle.is_rules.specs.Agent.{AgentRecord}
use Rattle.is_rules.specs.Answers.{is_reverse, keeps_check_on}
use Rattle.is_rules.specs.RequestView.{packet_path}
use Rattle.is_rules.specs.Sending.{path_of}
use Rattle.is_agent.specs.declared.rejecting.Rejection.{Rejection}
use Rattle.is_agent.specs.declared.rejecting.Rejection.TheVariants.{OtherMethod, OtherClass, OtherLocalUfrag, OtherRemoteUfrag}
use Rattle.is_agent.specs.declared.rejecting.Rejection.TheVariants.{OtherLocalPassword, NoPendingCheck, OtherPath, OtherRemotePassword}
use Rattle.is_agent.specs.Rejecting.{IsResponseRejection}
use Rattle.is_agent.specs.View.{record_of}
use Rattle.is_agent.proofs.agent.Agent.rejection.Goals as goal

any-left-step : (a b c d : Bool) → ((a && b) || c) ≡ true → (c ≡ true → d ≡ true) → (a || d) ≡ true
any-left-step true b c d h f = refl
any-left-step false b c d h f = f h

-- an element that passes two tests passes the first one
any-left : {X : Type 0} (p q : X → Bool) (xs : List X) → list_any (λ x. p x && q x) xs ≡ true → list_any p xs ≡ true
any-left p q [] h = h
any-left p q (x ∷ xs) h = any-left-step (p x) (q x) (list_any (λ x. p x && q x) xs) (list_any p xs) h (any-left p q xs)

-- a response has no reason to be rejected if and only if it is awaited
response-none : {H P : Type 0} (mac : H → List ℕ → List ℕ → List ℕ) (a : AgentRecord H P) (path : Path) (m : Message) (why : Option Rejection)
    → IsResponseRejection mac a path m why → ((why ≡ None) ↔ IsAwaited mac (keeps_check_on a path m.id) a m)
response-none mac a path m None is = (λ _. is, λ _. refl)
response-none mac a path m (Some NoPendingCheck) is =
    (λ (e : Some NoPendingCheck ≡ None). (cc), λ yes. let kept = any-left (keeps_check m.id) (λ p. is_reverse path (path_of a p)) a.pairs yes.0 in (cc))
response-none mac a path m (Some OtherPath) is = (λ (e : Some OtherPath ≡ None). (cc), λ yes. let no = is.1 in let any = yes.0 in (cc))
response-none mac a path m (Some OtherRemotePassword) is = (λ (e : Some OtherRemotePassword ≡ None). (cc), λ yes. absurd (is.1 yes.1))
response-none mac a path m (Some OtherMethod) is = absurd is
response-none mac a path m (Some OtherClass) is = absurd is
response-none mac a path m (Some OtherLocalUfrag) is = absurd is
response-none mac a path m (Some OtherRemoteUfrag) is = absurd is
response-none mac a path m (Some OtherLocalPassword) is = absurd is

-- a response of either class is accepted if and only if it is awaited
awaited-as : {H P : Type 0} (mac : H → List ℕ → List ℕ → List ℕ) (keeps : PairRecord → Bool) (a : AgentRecord H P) (m : Message) (class : Class)
    → (class ≡ Success) ⊎ (class ≡ Failure) → (IsAcceptedAs mac class keeps a m ↔ IsAwaited mac keeps a m)
awaited-as mac keeps a m class (inl is) = subst (λ (k : Class). IsAcceptedAs mac k keeps a m ↔ IsAwaited mac keeps a m) (sym is) (λ h. h, λ h. h)
awaited-as mac keeps a m class (inr is) = subst (λ (k : Class). IsAcceptedAs mac k keeps a m ↔ IsAwaited mac keeps a m) (sym is) (λ h. h, λ h. h)

pub returns-in-Success-clause-accepted : goal.returns-in-Success-clause-accepted
returns-in-Success-clause-accepted g c =
    let mac = g.H.Sha1HmacProvider.mac in let a = record_of c.args.self.now in let path = packet_path c.args.packet.now in
    let m = message_view c.args.packet.now.message in let why = c.response_rejection.result in
    let method : m.method ≡ Binding = search rules in
    let class = subst (λ (k : Class). (k ≡ Success) ⊎ (k ≡ Failure)) c.class.ensures c.in-Success.is in
    let none = response-none mac a path m why (subst (λ (w : Path). IsResponseRejection mac a w m why) c.packet_path.ensures c.response_rejection.ensures) in
    let awaited = awaited-as mac (keeps_check_on a path m.id) a m m.class class in
    (λ e. (method, awaited.1 (none.0 e)), λ yes. none.1 (awaited.0 yes.1))
