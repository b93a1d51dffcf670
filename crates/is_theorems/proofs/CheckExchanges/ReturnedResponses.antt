-- A check that is delivered, and its response that comes back.
use Rattle.is_stun.specs.declared.header.Class.TheVariants as class
use Rattle.is_theorems.specs.Delivery.{Issued}
use Rattle.is_theorems.proofs.Common.{[], ◌∙◌, ◌∷◌, ◌≡◌, AgentRecord, ap, are_too_long, AreBetween, Bool, Call, CandidateRecord}
use Rattle.is_theorems.proofs.Common.{ChecksAreKept, ChecksAreServed, Entry, ExchangesSucceed, Execution, false, GivesBased, HandleTimeout}
use Rattle.is_theorems.proofs.Common.{IceCreds, if◌then◌else◌, inl, inr, is_between, is_done, IsFragment, IsSound, IsTaken, keeps_check_on}
use Rattle.is_theorems.proofs.Common.{KnowEachOther, length, List, list_any, local_after, Option, Packet, PollEvent, PollTimeout}
use Rattle.is_theorems.proofs.Common.{PollTransmit, ReceivedPacket, ReceivedSoon, ReceivePacket, refl, remote_after, RepliesAreAccepted}
use Rattle.is_theorems.proofs.Common.{ReturnedSoon, SentCheck, ServedCheck, Some, Step, Stream, subst, sym, true, via_out, ℕ}
use Rattle.is_theorems.proofs.CallEffects.PathAndTradeEffects.{path_theorem, trade_theorem}
use Rattle.is_theorems.proofs.ExecutionLogs.LogSegments.{no-case}
use Rattle.is_theorems.proofs.StoredPairs.TransactionsOverPackets.{sound-execution, checks-stay}

-- the key that an agent signs with, and both passwords
pub record Keys (H : Type 0) : Type 0 where
  pub provider : H
  pub local : IceCreds
  pub remote : Option IceCreds

module _ {H P : Type 0} where
  abbrev pub keys_of : AgentRecord H P → Keys H
  keys_of a = record { provider = a.provider; local = a.local_creds; remote = a.remote_creds }

  -- an agent with the same keys is known as well
  pub known-on : (mac : H → List ℕ → List ℕ → List ℕ) (a c b : AgentRecord H P) → keys_of c ≡ keys_of a → KnowEachOther mac a b → KnowEachOther mac c b
  known-on mac a c b is know = record {
    mine = ap (λ (k : Keys H). k.remote) is ∙ know.mine;
    its = know.its ∙ ap (λ (k : Keys H). Some k.local) (sym is);
    own = subst (λ (k : Keys H). IsFragment k.local.ufrag) (sym is) know.own;
    other = know.other;
    fit = ap (λ (k : Keys H). are_too_long k.local (Some b.local_creds)) is ∙ know.fit;
    alike = ap (λ (k : Keys H). mac k.provider) is ∙ know.alike;
    twenty = subst (λ (k : Keys H). (key text : List ℕ) → length (mac k.provider key text) ≡ 20) (sym is) know.twenty;
  }

  module _ (mac : H → List ℕ → List ℕ → List ℕ) (answers : P → CandidateRecord → ℕ → ℕ → Type 0) where
    -- a step whose call sets no credentials keeps the keys
    keys_step : (call : Call P) (e : Entry) (old new : AgentRecord H P) (s t : Stream) → IsSound old → GivesBased call
        → remote_after call e.answer old.remote_creds ≡ old.remote_creds → local_after call e.answer old.local_creds ≡ old.local_creds
        → Step mac answers old s call e new t → keys_of new ≡ keys_of old
    keys_step call e old new s t sound based remote local step =
        let p = (path_theorem mac answers old new s t call e sound based step).0 in
        let q = trade_theorem mac answers old new s t call e sound based step in
        ap (λ h. record { provider = h; local = new.local_creds; remote = new.remote_creds }) p.provider
        ∙ (ap (λ c. record { provider = old.provider; local = c; remote = new.remote_creds }) (q.local_creds ∙ local)
        ∙ ap (λ c. record { provider = old.provider; local = old.local_creds; remote = c }) (p.remote_creds ∙ remote))

    same_if : {A : Type 0} (b : Bool) (x : A) → (if b then x else x) ≡ x
    same_if true x = refl
    same_if false x = refl

    pub keys-timeout : (now : ℕ) (e : Entry) (old new : AgentRecord H P) (s t : Stream) → IsSound old → Step mac answers old s (HandleTimeout now) e new t → keys_of new ≡ keys_of old
    keys-timeout now e old new s t sound step =
        keys_step (HandleTimeout now) e old new s t sound tt (same_if (is_done e.answer) old.remote_creds) (same_if (is_done e.answer) old.local_creds) step

    keys_one : (call : Call P) (e : Entry) (old new : AgentRecord H P) (s t : Stream) → IsSound old → is_between call ≡ true → Step mac answers old s call e new t → keys_of new ≡ keys_of old
    keys_one (ReceivePacket now path bytes) e old new s t sound is step =
        keys_step (ReceivePacket now path bytes) e old new s t sound tt (same_if (is_done e.answer) old.remote_creds) (same_if (is_done e.answer) old.local_creds) step
    keys_one PollTransmit e old new s t sound is step =
        keys_step PollTransmit e old new s t sound tt (same_if (is_done e.answer) old.remote_creds) (same_if (is_done e.answer) old.local_creds) step
    keys_one PollTimeout e old new s t sound is step =
        keys_step PollTimeout e old new s t sound tt (same_if (is_done e.answer) old.remote_creds) (same_if (is_done e.answer) old.local_creds) step
    keys_one PollEvent e old new s t sound is step =
        keys_step PollEvent e old new s t sound tt (same_if (is_done e.answer) old.remote_creds) (same_if (is_done e.answer) old.local_creds) step
    keys_one _ e old new s t sound is step = no-case is

    pub keys-between : (xs : List (Call P × Entry)) (old new : AgentRecord H P) → IsSound old → AreBetween xs → Execution mac answers xs old new → keys_of new ≡ keys_of old
    keys-between [] old new sound fits is = ap (λ (a : AgentRecord H P). keys_of a) is
    keys-between (x ∷ rest) old new sound fits (mid, s, t, based, step, more) =
        let on = (path_theorem mac answers old mid s t x.0 x.1 sound based step).1 in
        keys-between rest mid new on (λ y has. fits y (inr has)) more ∙ keys_one x.0 x.1 old mid s t sound (fits x (inl refl)) step

    -- the `handle_timeout` call issues the check
    abbrev pub issued-check : (k : SentCheck mac answers) → Issued mac answers class.Request k.id k.check k.sender k.sent
    issued-check k = record { call = HandleTimeout k.now; entry = k.timeout; before = k.before; following = k.following; step = k.step; sends = k.sends }

    -- the call that receives the check issues the response
    abbrev pub issued-reply : (k : SentCheck mac answers) (came : Packet) (c : ReceivedPacket mac answers came) (s : ServedCheck mac answers k came c)
        → Issued mac answers class.Success k.id s.reply c.receiver c.served
    issued-reply k came c s = record {
      call = ReceivePacket c.at (via_out came) came.contents;
      entry = c.handed;
      before = c.delivered.before;
      following = c.delivered.following;
      step = c.delivered.step;
      sends = s.sends;
    }

    -- the state after the `handle_timeout` call
    pub sound-sent : (k : SentCheck mac answers) → IsSound k.sent
    sound-sent k = (path_theorem mac answers k.sender k.sent k.before k.following (HandleTimeout k.now) k.timeout k.sound tt k.step).1

    -- who knows the sender before its next `handle_timeout` call knew it when it sent the check
    pub known-sender : (k : SentCheck mac answers) (c : ReceivedSoon mac answers k) → KnowEachOther mac k.sender c.receipt.receiver
    known-sender k c =
        known-on mac c.near k.sender c.receipt.receiver
        (sym (keys-between c.soon.calls k.sent c.near (sound-sent k) (search c.soon.between) c.soon.execution ∙ keys-timeout k.now k.timeout k.sender k.sent k.before k.following k.sound k.step))
        (search c.know)

    pub exchanges-succeed : ChecksAreServed mac answers → ChecksAreKept mac answers → RepliesAreAccepted mac answers → ExchangesSucceed mac answers
    exchanges-succeed served_law kept_law accepted_law k c apart = (s, accepted) where
      got : ReceivedPacket mac answers k.check
      got = c.receipt

      s : ServedCheck mac answers k k.check got
      s =
          let taken = served_law k.sender k.sent got.receiver got.served k.check k.id got.at got.handed (search k.sound) (search got.sound) (known-sender k c) (search apart) (search got.reached)
          (issued-check k) (search got.delivered) in
          record { taken = taken.0; reply = taken.1.0; via_back = taken.1.1; sends = taken.1.2 }

      sound_near : IsSound c.near
      sound_near = sound-execution mac answers c.soon.calls k.sent c.near (sound-sent k) c.soon.execution

      kept : list_any (keeps_check_on c.near (via_out s.reply) k.id) c.near.pairs ≡ true
      kept =
          checks-stay mac answers k.sent c.near c.soon.calls (via_out s.reply) k.id (sound-sent k) (search c.soon.between) c.soon.execution
          (subst (λ w. list_any (keeps_check_on k.sent w k.id) k.sent.pairs ≡ true) (sym s.via_back)
          (kept_law k.sender k.sent k.before k.following k.now k.check k.id k.timeout k.sound k.step k.sends))

      accepted : (r : ReturnedSoon mac answers c.near s.reply) → IsTaken mac answers s.reply r.at r.returned class.Success
      accepted r =
          accepted_law r.mid r.taken got.receiver got.served s.reply k.id r.at r.returned got.sound
          (known-on mac c.near r.mid got.receiver (keys-between r.soon.calls c.near r.mid sound_near (search r.soon.between) r.soon.execution) (search c.know))
          (issued-reply k k.check got s) (checks-stay mac answers c.near r.mid r.soon.calls (via_out s.reply) k.id sound_near (search r.soon.between) r.soon.execution kept) (search r.delivered)
