-- Both agents become connected: the controlling one by the response to its check, the controlled one by a nomination and a response. What
-- mutants/specifications changes is read by tactics.
use Rattle.is_pair.specs.Multiset.{keeps_check}
use Rattle.is_stun.specs.declared.header.Class.TheVariants as class
use Rattle.is_rules.specs.Serving.{nominates}
use Rattle.is_rules.specs.Steps as agent
use Rattle.is_theorems.specs.Carried.{CarriedAsk}
use Rattle.is_theorems.proofs.BasicLemmas.EqualAddresses.{both, same_address-sound}
use Rattle.is_c_theorems.proofs.Common.{◌&&◌, ◌||◌, ◌∙◌, ◌≡◌, AcceptsNomination, agent_time, AnsweredCheck, answers, ap, Bool}
use Rattle.is_c_theorems.proofs.Common.{BothBecomeConnected, Entry, Evaluates, false, HandlePacket, Has, Held, HeldRecord, inl, inr}
use Rattle.is_c_theorems.proofs.Common.{is_eligible, is_nominated, is_reverse, is_valid, IsConnected, IsInSlot, IsOnlyPair, IsServing}
use Rattle.is_c_theorems.proofs.Common.{Issued, issued_as, IsTopSelected, KeepsPairs, Leads, List, mac_of, Message, NominatedConnect}
use Rattle.is_c_theorems.proofs.Common.{NominatingCheck, OK, PairRecord, PassesPacket, Path, path_of, Preference, Reads, refl, request_in}
use Rattle.is_c_theorems.proofs.Common.{RequestRecord, ResponsesConnect, subst, sym, true, UsesAddressesOf, ℕ, ℤ}
use Rattle.is_c_theorems.proofs.AlongExecutions.{Set}
use Rattle.is_c_theorems.proofs.DeliveredChecks.{Trades, Serves, Accepts, Twenty, sent_check, got, carried_check, accepted, is_accepted}
use Rattle.is_c_theorems.proofs.DeliveredChecks.{held_mid}
use Rattle.is_c_theorems.proofs.HeldAgents.{Turns, Paths, Agree, After, Continued, continued, received, timed, held_after, sound_held}
use Rattle.is_c_theorems.proofs.HeldAgents.{after_packet, after_timeout}

abbrev pub Asks : Type 0
Asks = CarriedAsk {H = _} {P = Preference} mac_of answers

-- ---- which pairs may be selected

steering_able : (c : Bool) (p : PairRecord) → c ≡ true → is_valid p ≡ true → is_eligible c p ≡ true
steering_able c p role valid = ap (λ (b : Bool). is_valid p && (b || is_nominated p)) role ∙ ap (λ (b : Bool). b && true) valid

nominated_able : (c : Bool) (p : PairRecord) → is_valid p ≡ true → is_nominated p ≡ true → is_eligible c p ≡ true
nominated_able true p valid nominated = ap (λ (b : Bool). b && true) valid
nominated_able false p valid nominated = ap (λ (b : Bool). b && is_nominated p) valid ∙ nominated

-- a call serves one request
one_served : (old : Held) (at : ℕ) (path : Path) (bytes : List ℕ) (e : Entry) (q r : RequestRecord) → IsServing {P = Preference} old (agent.ReceivePacket at path bytes) e q
    → IsServing {P = Preference} old (agent.ReceivePacket at path bytes) e r → r ≡ q
one_served old at path bytes e q r (when, by, m, brings, request, known, is) (when2, by2, n, brings2, request2, known2, is2) =
    is2 ∙ (ap (λ t. request_in t by2 n) (sym brings2.0 ∙ brings.0) ∙ (ap (λ w. request_in when w n) (sym brings2.1 ∙ brings.1)
    ∙ (ap (λ x. request_in when by x) (brings2.2.spelled ∙ sym brings.2.spelled) ∙ sym is)))

-- what a response comes back on has one pair of addresses
back_on : (by a b : Path) → is_reverse by a ≡ true → is_reverse by b ≡ true → (a.source ≡ b.source) × (a.destination ≡ b.destination)
back_on by a b on_a on_b =
    let x = both _ _ on_a in
    let y = both _ _ on_b in
    (sym (same_address-sound _ _ x.1) ∙ same_address-sound _ _ y.1, sym (same_address-sound _ _ x.0) ∙ same_address-sound _ _ y.0)

module _ (turn : Turns) (paths : Paths) (law : Set) (agree : Agree) where
  -- ---- an accepted response

  taken_top : (old new : HeldRecord) → IsInSlot old → (via : Path) (bytes : List ℕ) → PassesPacket via bytes old OK new → (m : Message) → Reads bytes m → m.class ≡ class.Success
      → (call : agent.Call Preference) × (e : Entry) × After old new call e × IsTopSelected new.agent × ((p : PairRecord) × Has new.agent.pairs p × (is_valid p ≡ true))
  taken_top old new held via bytes passes m reads success =
      let g = received via bytes OK old new passes refl in
      let a = after_packet turn paths law agree old new held via bytes OK passes refl in
      let t = a.effect.taken (agent_time passes.now) via m (refl, refl, reads, g.accepted refl) success in
      (agent.ReceivePacket (agent_time passes.now) via bytes, g.entry, a, a.effect.points (agent_time passes.now, via, m, (refl, refl, reads, g.accepted refl), success), (t.0, t.1, t.3))

  pub responses_connect : ResponsesConnect
  responses_connect old new via bytes m held passes reads success role =
      let k = taken_top old new (search held) via bytes (search passes) m (search reads) (search success) in
      search (k.2.connects k.3 k.4.0 k.4.1 (steering_able new.agent.controlling k.4.0 (search role) k.4.2))

  -- ---- an evaluation

  evaluated : (near last : HeldRecord) → IsInSlot near → Evaluates near last → (p : PairRecord) → Has last.agent.pairs p → is_valid p ≡ true → is_nominated p ≡ true → IsConnected last
  evaluated near last held (inl (now, random, does, none)) p has valid nominated =
      let a = after_timeout turn paths law agree near last held now random does in
      a.connects (a.effect.points ((timed now random near last does).ok, none)) p has (nominated_able last.agent.controlling p valid nominated)
  evaluated near last held (inr (via, bytes, m, passes, reads, success)) p has valid nominated =
      let k = taken_top near last held via bytes passes m reads success in
      k.2.connects k.3 p has (nominated_able last.agent.controlling p valid nominated)

  module _ (trades : Trades) (twenty : Twenty) (serves : Serves) (accepts : Accepts) (asks : Asks) where
    -- ---- the nomination, and the response

    abbrev pub On : Path → HeldRecord → (PairRecord → Bool) → Type 0
    On path held test = (p : PairRecord) × Has held.agent.pairs p × (test p ≡ true) × UsesAddressesOf held.agent path p

    pub asked_on : (path : Path) (k : NominatingCheck path)
        → AcceptsNomination k.check.receiver.agent (agent.ReceivePacket (agent_time k.check.passes.now) k.check.over k.check.check.contents) (got turn paths trades k.check).entry path
    asked_on path k =
        let d = k.check in
        let asked = asks (sent_check turn paths trades d) (carried_check turn paths trades twenty d) (search k.steers) (search k.follows) (search k.nominated) in
        subst (λ (w : Path). AcceptsNomination d.receiver.agent (agent.ReceivePacket (agent_time d.passes.now) d.over d.check.contents) (got turn paths trades d).entry w) k.on asked

    nominated_on : (path : Path) (k : NominatingCheck path) → On path k.check.served (λ p. is_nominated p)
    nominated_on path k =
        let d = k.check in
        let a = after_packet turn paths law agree d.receiver d.served d.other_held d.over d.check.contents d.code d.passes d.no_error in
        let asked = asked_on path k in
        let rep = a.effect.replied (issued_as path class.Success asked.1) asked.4 refl in
        let q_is : rep.0 ≡ asked.0 = one_served d.receiver.agent (agent_time d.passes.now) d.over d.check.contents (got turn paths trades d).entry asked.0 rep.0 asked.2 rep.1 in
        let on = rep.3 (ap (λ (q : RequestRecord). nominates d.receiver.agent q) q_is ∙ asked.3) (search k.still) in
        let same : path_of d.served.agent on.0 ≡ path = on.3 ∙ sym (ap (λ (i : Issued). i.path) rep.2) in
        (on.0, on.1, on.2, (ap (λ (w : Path). w.source) same, ap (λ (w : Path). w.destination) same))

    pub valid_on : (path : Path) (k : AnsweredCheck path) → On path k.back.taken (λ p. is_valid p)
    valid_on path k =
        let r = k.back in
        let a = after_packet turn paths law agree r.mid r.taken (held_mid turn paths trades k.check r) r.via r.reply.contents r.code r.passes r.no_error in
        let it = accepted turn paths trades twenty serves accepts k.check r in
        let t = a.effect.taken (agent_time r.passes.now) r.via it.0 it.1 it.2 in
        let on = both (keeps_check it.0.id t.0) (is_reverse r.via (path_of r.taken.agent t.0)) t.2 in
        (t.0, t.1, t.3, back_on r.via (path_of r.taken.agent t.0) path on.1 (search k.comes))

    pub held_taken : (path : Path) (k : AnsweredCheck path) → IsInSlot k.back.taken
    held_taken path k =
        let r = k.back in
        held_after r.mid r.taken (held_mid turn paths trades k.check r) (HandlePacket r.passes.now r.passes.protocol r.passes.source r.passes.destination r.reply.contents) r.code r.passes.does refl

    -- the pair that is there after further calls
    pub later_on : (path : Path) (from to : HeldRecord) (test : PairRecord → Bool) → IsInSlot from → Leads from to → KeepsPairs path from to
        → ((p q : PairRecord) → Continued from.agent to.agent p q → test p ≡ true → test q ≡ true) → On path from test → On path to test
    later_on path from to test held leads keeps carries (p, has, is, uses) =
        let q = keeps p has uses in
        let c = continued paths turn from to (sound_held turn paths from held) leads p q.0 has q.1 q.2 in
        (q.0, q.1, carries p q.0 c is, (ap (λ (w : Path). w.source) (sym c.path) ∙ uses.0, ap (λ (w : Path). w.destination) (sym c.path) ∙ uses.1))

    pub nominated_connect : NominatedConnect
    nominated_connect k =
        let d = k.asks.check in
        let held_served : IsInSlot d.served =
        held_after d.receiver d.served d.other_held (HandlePacket d.passes.now d.passes.protocol d.passes.source d.passes.destination d.check.contents) d.code d.passes.does refl in
        let n = later_on k.path d.served k.last (λ p. is_nominated p) held_served (search k.after_request) (search k.kept) (λ p q c. c.nominated) (nominated_on k.path k.asks) in
        let v = later_on k.path k.own.back.taken k.last (λ p. is_valid p) (held_taken k.path k.own) (search k.after_response) (search k.kept_since) (λ p q c. c.valid) (valid_on k.path k.own) in
        let only : IsOnlyPair k.last.agent k.path = search k.only in
        let one_ : v.0 ≡ n.0 = only v.0 n.0 v.1 n.1 v.3 n.3 in
        evaluated k.near k.last (search k.held) (search k.evaluates) n.0 n.1 (ap (λ (p : PairRecord). is_valid p) (sym one_) ∙ v.2) n.2

    pub both_become_connected : BothBecomeConnected
    both_become_connected k =
        let r = k.response in
        let code_is : r.code ≡ OK = is_accepted turn paths trades twenty serves accepts k.opening r in
        let it = accepted turn paths trades twenty serves accepts k.opening r in
        let passes : PassesPacket r.via r.reply.contents r.mid OK r.taken = subst (λ (c : ℤ). PassesPacket r.via r.reply.contents r.mid c r.taken) code_is r.passes in
        (search (responses_connect r.mid r.taken r.via r.reply.contents it.0 (held_mid turn paths trades k.opening r) passes it.1.2 it.2 (search k.controlling)), nominated_connect k.nomination)
