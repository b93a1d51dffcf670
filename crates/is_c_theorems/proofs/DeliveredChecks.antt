-- A check that the network delivers is served, and its response is accepted: what the theorems on two agents say of C's calls. What
-- mutants/specifications changes is read by tactics.
use Rattle.is_stun.specs.declared.header.Class.TheVariants as class
use Rattle.is_proto.specs.Hmac.{hmac_sha1}
use Rattle.is_rules.specs.Steps as agent
use Rattle.is_theorems.specs.Carried.{CarriedAreServed, CarriedAreAccepted, CarriedCheck}
use Rattle.is_theorems.specs.Delivery as delivery
use Rattle.is_theorems.specs.Delivery.{Delivered, IsReachedBy, IsTaken, ReceivedPacket, SentCheck, Sends}
use Rattle.is_c_theorems.proofs.Common.{[], ◌++◌, ◌∙◌, ◌∷◌, ◌≡◌, ◌⊎◌, agent_time, answers, ap, CheckIsServed, Class, code_by}
use Rattle.is_c_theorems.proofs.Common.{DeliveredAreAccepted, DeliveredCheck, HandleTimeout, Has, HaveExchanged, HeldRecord, inl, inr}
use Rattle.is_c_theorems.proofs.Common.{IsInSlot, IsIssued, issued_as, length, List, mac_of, Message, OK, Packet, Path, Preference, refl}
use Rattle.is_c_theorems.proofs.Common.{ReturnedReply, reversed, Says, SendsCheck, Some, subst, sym, TradeEffect, TradeTheorem, via_out, ℕ}
use Rattle.is_c_theorems.proofs.Common.{ℤ}
use Rattle.is_c_theorems.proofs.HeldAgents.{Turns, Paths, Received, received, Timed, timed, held_after, held_later, sound_held}
use Rattle.is_c_theorems.proofs.LogsOfCalls.{any}

abbrev pub Trades : Type 0
Trades = TradeTheorem {H = _} {P = Preference} mac_of answers

abbrev pub Serves : Type 0
Serves = CarriedAreServed {H = _} {P = Preference} mac_of answers

abbrev pub Accepts : Type 0
Accepts = CarriedAreAccepted {H = _} {P = Preference} mac_of answers

abbrev pub Twenty : Type 0
Twenty = (key text : List ℕ) → length (hmac_sha1 key text) ≡ 20

pub know_as : Twenty → (one other : HeldRecord) → HaveExchanged one other → delivery.KnowEachOther mac_of one.agent other.agent
know_as twenty one other k = record {
  mine = k.at_one;
  its = search k.at_other;
  own = k.fragment;
  other = k.other_fragment;
  fit = k.fit;
  alike = refl;
  twenty = twenty;
}

pub reached_of : (d : DeliveredCheck) → IsReachedBy d.receiver.agent d.over
reached_of d = search d.reached

last_same : (xs : List Packet) (x y : Packet) → xs ++ x ∷ [] ≡ xs ++ y ∷ [] → x ≡ y
last_same [] x y is = let k : x ∷ [] ≡ y ∷ [] = is in let same : x ≡ y = cc in same
last_same (z ∷ zs) x y is =
    let k : z ∷ (zs ++ x ∷ []) ≡ z ∷ (zs ++ y ∷ []) = is in
    let rest : zs ++ x ∷ [] ≡ zs ++ y ∷ [] = cc in last_same zs x y rest

-- a packet as it is received
abbrev pub came_on : Path → List ℕ → Packet
came_on path bytes = record { proto = path.proto; source = path.source; destination = path.destination; contents = bytes }

-- ---- the check

module _ (turn : Turns) (paths : Paths) (trades : Trades) where
  -- what is to be polled after the timeout, and was not before, is the check that the call issued
  pub sends_of : (old new : HeldRecord) (check : Packet) (m : Message) → IsInSlot old → (k : SendsCheck old check m new)
      → Sends old.agent (timed k.now k.random old new k.does).entry class.Request m.id check new.agent
  sends_of old new check m held k = by (issued (trade.packets check (subst (λ (ps : List Packet). Has ps check) (sym k.waits) (inl refl)))) where
    out : Timed (agent_time k.now) old new
    out = timed k.now k.random old new k.does

    trade : TradeEffect mac_of old.agent (agent.HandleTimeout (agent_time k.now)) out.entry new.agent
    trade = trades old.agent new.agent out.s out.t (agent.HandleTimeout (agent_time k.now)) out.entry (sound_held turn paths old held) tt out.step

    issued : Has old.agent.packets check ⊎ IsIssued mac_of old.agent (agent.HandleTimeout (agent_time k.now)) out.entry check new.agent.controlling
        → IsIssued mac_of old.agent (agent.HandleTimeout (agent_time k.now)) out.entry check new.agent.controlling
    issued (inl was) = absurd (subst (λ (ps : List Packet). Has ps check) k.polled was)
    issued (inr now) = now

    facts : (n : Message) (c : Class) → n.class ≡ c → Says c old.agent (agent.HandleTimeout (agent_time k.now)) out.entry check.contents n (via_out check) new.agent.controlling
        → (n.class ≡ class.Request) × (n.id ≡ m.id)
    facts n class.Request is (peer, cand, uses, number, known_peer, has, n_is, put, role, leads, its) = (is, sym (put.reads m k.reads).id)
    facts n class.Success is (q, serving, n_is, via, put) = let wrong_ : class.Request ≡ class.Success = sym k.request ∙ (put.reads m k.reads).class in absurd (cc)
    facts n class.Failure is (q, serving, n_is, via, put, conflict, role) =
        let wrong_ : class.Request ≡ class.Failure = sym k.request ∙ ((put.reads m k.reads).class ∙ is) in absurd (cc)
    facts n class.Indication is h = absurd h
    facts n class.Unknown is h = absurd h

    by : IsIssued mac_of old.agent (agent.HandleTimeout (agent_time k.now)) out.entry check new.agent.controlling
        → Sends old.agent out.entry class.Request m.id check new.agent
    by (n, contents, emitted, says) =
        let f = facts n n.class refl says in
        record {
          emitted = emitted ∙ (ap (λ (c : Class). Some (issued_as (via_out check) c n.id)) f.0 ∙ ap (λ (id : List ℕ). Some (issued_as (via_out check) class.Request id)) f.1);
          put = k.waits ∙ sym (ap (λ (ps : List Packet). ps ++ check ∷ []) k.polled);
        }

  abbrev pub sent_check : (d : DeliveredCheck) → SentCheck mac_of answers
  sent_check d =
      let k = d.sends in
      let out = timed k.now k.random d.sender d.sent k.does in
      record {
        sender = d.sender.agent;
        sent = d.sent.agent;
        now = agent_time k.now;
        timeout = out.entry;
        before = out.s;
        following = out.t;
        check = d.check;
        id = d.message.id;
        sound = sound_held turn paths d.sender d.held;
        step = out.step;
        sends = sends_of d.sender d.sent d.check d.message d.held k;
      }

  abbrev pub got : (d : DeliveredCheck) → Received (agent_time d.passes.now) d.over d.check.contents d.code d.receiver d.served
  got d = received d.over d.check.contents d.code d.receiver d.served d.passes d.no_error

  abbrev pub delivered : (path : Path) (bytes : List ℕ) (at : ℕ) (code : ℤ) (old new : HeldRecord) → (k : Received at path bytes code old new)
      → Delivered mac_of answers (came_on path bytes) at old.agent k.entry new.agent
  delivered path bytes at code old new k = record { before = any; following = any; step = k.step; nomination_accepted = k.fine }

  abbrev pub receipt : (d : DeliveredCheck) → ReceivedPacket mac_of answers (came_on d.over d.check.contents)
  receipt d = record {
    receiver = d.receiver.agent;
    served = d.served.agent;
    at = agent_time d.passes.now;
    handed = (got d).entry;
    sound = sound_held turn paths d.receiver d.other_held;
    reached = reached_of d;
    delivered = delivered d.over d.check.contents (agent_time d.passes.now) d.code d.receiver d.served (got d);
  }

  abbrev pub carried_check : Twenty → (d : DeliveredCheck) → CarriedCheck mac_of answers (sent_check d)
  carried_check twenty d = record {
    came = came_on d.over d.check.contents;
    unaltered = refl;
    receipt = receipt d;
    know = know_as twenty d.sender d.receiver d.know;
  }

  -- ---- it is served

  module _ (twenty : Twenty) (serves : Serves) where
    pub served : (d : DeliveredCheck) → IsTaken mac_of answers (came_on d.over d.check.contents) (agent_time d.passes.now) (got d).entry class.Request
        × ((reply : Packet) × (via_out reply ≡ reversed d.over) × Sends d.receiver.agent (got d).entry class.Success d.message.id reply d.served.agent)
    served d =
        let k = sent_check d in
        let r = receipt d in
        serves d.sender.agent d.sent.agent d.receiver.agent d.served.agent d.check (came_on d.over d.check.contents) d.message.id r.at r.handed k.sound r.sound
        (know_as twenty d.sender d.receiver d.know) (search d.apart) (reached_of d)
        (record { call = agent.HandleTimeout k.now; entry = k.timeout; before = k.before; following = k.following; step = k.step; sends = k.sends }) refl r.delivered

    -- OK is returned for a packet that is accepted
    coded : (path : Path) (bytes : List ℕ) (at : ℕ) (code : ℤ) (old new : HeldRecord) (k : Received at path bytes code old new) (c : Class)
        → IsTaken mac_of answers (came_on path bytes) at k.entry c → code ≡ OK
    coded path bytes at code old new k c (m, (when, on, reads, flag), is) = k.coded ∙ ap code_by flag

    pub is_served : (d : DeliveredCheck) → CheckIsServed d
    is_served d =
        let s = served d in (
          coded d.over d.check.contents (agent_time d.passes.now) d.code d.receiver d.served (got d) class.Request s.0,
          s.1.0,
          search s.1.2.put,
          search s.1.1,
        )

    -- ---- its response is accepted

    abbrev pub back : (d : DeliveredCheck) (r : ReturnedReply d) → Received (agent_time r.passes.now) r.via r.reply.contents r.code r.mid r.taken
    back d r = received r.via r.reply.contents r.code r.mid r.taken r.passes r.no_error

    module _ (accepts : Accepts) where
      pub accepted : (d : DeliveredCheck) (r : ReturnedReply d)
          → IsTaken mac_of answers (came_on r.via r.reply.contents) (agent_time r.passes.now) (back d r).entry class.Success
      accepted d r =
          let s = served d in
          let same : s.1.0 ≡ r.reply = last_same d.receiver.agent.packets s.1.0 r.reply (sym s.1.2.put ∙ r.added) in
          let sends : Sends d.receiver.agent (got d).entry class.Success d.message.id r.reply d.served.agent =
          subst (λ (p : Packet). Sends d.receiver.agent (got d).entry class.Success d.message.id p d.served.agent) same s.1.2 in
          accepts r.mid.agent r.taken.agent d.receiver.agent d.served.agent r.reply (came_on r.via r.reply.contents) d.message.id (agent_time r.passes.now) (back d r).entry
          (sound_held turn paths d.receiver d.other_held) (know_as twenty r.mid d.receiver r.know)
          (record {
            call = agent.ReceivePacket (agent_time d.passes.now) d.over d.check.contents;
            entry = (got d).entry;
            before = any;
            following = any;
            step = (got d).step;
            sends = sends;
          }) refl (search r.pending) (delivered r.via r.reply.contents (agent_time r.passes.now) r.code r.mid r.taken (back d r))

      pub is_accepted : (d : DeliveredCheck) (r : ReturnedReply d) → r.code ≡ OK
      is_accepted d r = coded r.via r.reply.contents (agent_time r.passes.now) r.code r.mid r.taken (back d r) class.Success (accepted d r)

      pub are_accepted : DeliveredAreAccepted
      are_accepted d = (is_served d, λ r. is_accepted d r)

  -- ---- the agent that sent the check, later

  pub held_mid : (d : DeliveredCheck) (r : ReturnedReply d) → IsInSlot r.mid
  held_mid d r = held_later d.sent r.mid (held_after d.sender d.sent d.held (HandleTimeout d.sends.now d.sends.random) OK d.sends.does refl) r.later
