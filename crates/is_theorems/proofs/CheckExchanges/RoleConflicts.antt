-- One check resolves a role conflict.
use Rattle.is_stun.specs.declared.header.Class.TheVariants as class
use Rattle.is_theorems.specs.Conflicts.{AreSentUnder, ServesPastTests, ConflictsResolve, IsConflictSent, handing}
use Rattle.is_theorems.specs.Delivery.{IsReachedBy, Issued}
use Rattle.is_theorems.proofs.Common.{◌<◌, ◌==◌, ◌||◌, ◌∙◌, ◌≡◌, ◌≤◌, ◌⊎◌, AgentRecord, ap, arith, AttributesRecord, binding_request}
use Rattle.is_theorems.proofs.Common.{binding_role_conflict_reply, Bool, Brings, CandidateRecord, CarriedCheck, CarriedResolve}
use Rattle.is_theorems.proofs.Common.{ChecksAreKept, conflict_by, conflict_of, Delivered, Emitted, Entry, false, FitsInto, HandleTimeout}
use Rattle.is_theorems.proofs.Common.{IceCreds, if◌then◌else◌, inl, inr, is_for_other_peer, is_role_conflict, is_some, IsAcceptedAs}
use Rattle.is_theorems.proofs.Common.{IsAcceptedOn, IsConflictCarried, IsKept, IsPut, IsRejectedBy, IsServedPastTests, IsServing}
use Rattle.is_theorems.proofs.Common.{IsSignedBy, IsSomeAnd, IsSound, issued_as, keeps_check_on, keeps_role, key_for, KnowEachOther}
use Rattle.is_theorems.proofs.Common.{leb_tells, length, List, list_any, local_place, LONGEST_NUMBERED_CHECK, LONGEST_REPLY, Message}
use Rattle.is_theorems.proofs.Common.{nat_le, None, not, Option, option_map_or, Packet, Path, Reads, ReadsBack, refl, request_in}
use Rattle.is_theorems.proofs.Common.{RequestRecord, resolved_in_turn, ResolvesRoleConflictBy, reversed, rival_in, ROLE_CONFLICT, role_once}
use Rattle.is_theorems.proofs.Common.{SameMessage, Says, Send487, Sends, SendsRoleConflict, SentCheck, Serves, Some, Step, Stream, subst}
use Rattle.is_theorems.proofs.Common.{SwitchRole, sym, true, USERNAME_LIMIT, via_out, with_nomination, written, WrittenIsRead, ℕ}
use Rattle.is_theorems.proofs.CheckExchanges.DeliveredChecks.{Comes, same_reading, took, check-comes, emitted_as, issued_packet, live_place}
use Rattle.is_theorems.proofs.CheckExchanges.DeliveredChecks.{goes-back, brought-by}
use Rattle.is_theorems.proofs.CallEffects.PathAndTradeEffects.{trade_theorem}
use Rattle.is_theorems.proofs.CheckExchanges.ReturnedResponses.{known-on, keys-between, sound-sent, known-sender}
use Rattle.is_theorems.proofs.StoredPairs.TransactionsThatStay.{still-kept}
use Rattle.is_theorems.proofs.StoredPairs.TransactionsOverPackets.{sound-execution, checks-stay}

-- a claim of the agent's own role
same_claim : (c : Bool) (q : RequestRecord) (tie : ℕ) → q.ice_controlling ≡ (if c then Some tie else None) → q.ice_controlled ≡ (if c then None else Some tie) → rival_in c q ≡ Some tie
same_claim true q tie one other = one
same_claim false q tie one other = other

module _ {H P : Type 0} (mac : H → List ℕ → List ℕ → List ℕ) (answers : P → CandidateRecord → ℕ → ℕ → Type 0) where
  -- ---- the 487

  -- it is sent instead of everything else
  conflict_sent : (q : RequestRecord) (s new : AgentRecord H P) (emitted : Emitted) (l : ℕ) → is_for_other_peer s q ≡ false → local_place s.local q ≡ Some l
      → conflict_of s q ≡ Send487 → Serves mac q s emitted new → emitted.issued ≡ Some (issued_as (reversed q.path) class.Failure q.id)
  conflict_sent q s new emitted l named place is h =
      let n : SendsRoleConflict mac q s emitted new =
      subst (λ c. ResolvesRoleConflictBy mac c q l s emitted new) is (resolved_in_turn mac q s new emitted l named place h) in
      ap (λ (t : Emitted). t.issued) n.1

  module _ (read : (m : List ℕ → List ℕ → List ℕ) (key : List ℕ) (x : Message) → WrittenIsRead m key x)
      (fits : (key id : List ℕ) → FitsInto key LONGEST_REPLY (binding_role_conflict_reply id)) where
    -- it arrives at a sender that stores the check, and is accepted as a 487
    rejection-comes : (a taken b served : AgentRecord H P) (rejection answer : Packet) (id : List ℕ) (at : ℕ) (e : Entry) → IsSound b → KnowEachOther mac a b
        → Issued mac answers class.Failure id rejection b served → answer.contents ≡ rejection.contents → list_any (keeps_check_on a (via_out answer) id) a.pairs ≡ true
        → Delivered mac answers answer at a e taken
        → (m : Message) × Brings {P = P} (handing answer at) e at (via_out answer) m × (m.class ≡ class.Failure) × (is_role_conflict m ≡ true) × (m.id ≡ id)
    rejection-comes a taken b served rejection answer id at e sound_b know issued unaltered kept delivered =
        let i = issued_packet mac answers b served class.Failure id rejection sound_b issued in
        let same = emitted_as (via_out rejection) (via_out rejection) class.Failure i.0.class id i.0.id (sym issued.sends.emitted ∙ i.2) in
        emitted i.0 (i.1 ∙ ap (λ c. written (mac b.provider) (Some (key_for c b.local_creds b.remote_creds)) i.0) (sym same.1)) (sym same.2)
        (subst (λ c. Says c b issued.call issued.entry rejection.contents i.0 (via_out rejection) served.controlling) (sym same.1) i.3) where
          path : Path
          path = via_out answer

          emitted : (m : Message) → rejection.contents ≡ written (mac b.provider) (Some b.local_creds.pass) m → m.id ≡ id
              → Says class.Failure b issued.call issued.entry rejection.contents m (via_out rejection) served.controlling
              → (n : Message) × Brings {P = P} (handing answer at) e at path n × (n.class ≡ class.Failure) × (is_role_conflict n ≡ true) × (n.id ≡ id)
          emitted m contents id_is (q, serving, m_is, path_is, said, sends_487, stays) =
              let key : List ℕ = b.local_creds.pass in
              let x : Message = binding_role_conflict_reply q.id in
              let put : IsPut rejection.contents x = subst (λ (y : Message). IsPut rejection.contents y) m_is said in
              let bytes : rejection.contents ≡ written (mac b.provider) (Some key) x = contents ∙ ap (λ (y : Message). written (mac b.provider) (Some key) y) m_is in
              let twenty : (k text : List ℕ) → length (mac b.provider k text) ≡ 20 = subst (λ (f : List ℕ → List ℕ → List ℕ). (k text : List ℕ) → length (f k text) ≡ 20) know.alike know.twenty in
              let back : ReadsBack (mac b.provider) key (written (mac b.provider) (Some key) x) x =
              read (mac b.provider) key x twenty LONGEST_REPLY (fits key q.id LONGEST_REPLY (omega arith))
              (record { class = tt; id = put.values.id; values = put.values.values; demands = refl }) in
              let n : Message = back.read in
              let same : SameMessage n x = back.same in
              let own : n.id ≡ id = same.id ∙ sym (ap (λ (y : Message). y.id) m_is) ∙ id_is in
              let signed : IsSomeAnd a.remote_creds (λ peer. IsSignedBy (mac a.provider) n peer.pass) =
              subst (λ o. IsSomeAnd o (λ (peer : IceCreds). IsSignedBy (mac a.provider) n peer.pass)) (sym know.mine) (subst (λ k. IsSignedBy k n key) (sym know.alike) back.signed) in
              let awaited : list_any (keeps_check_on a path n.id) a.pairs ≡ true = subst (λ k. list_any (keeps_check_on a path k) a.pairs ≡ true) (sym own) kept in
              let accepted : IsAcceptedOn mac a path n =
              (same.method, subst (λ k. IsAcceptedAs mac k (keeps_check_on a path n.id) a n) (sym same.class) (awaited, signed)) in
              let reads : Reads answer.contents n = subst (λ bs. Reads bs n) (sym (unaltered ∙ bytes)) back.reads in
              let t = took mac answers answer at a e taken n reads accepted delivered in
              let conflict : is_role_conflict n ≡ true = ap (λ (r : AttributesRecord). option_map_or (λ (k : ℕ × List ℕ). k.0 == ROLE_CONFLICT) r.error_code false) same.attributes in
              (n, (refl, refl, reads, t.0), same.class, conflict, own)

    -- the sender accepts it, and takes the other role
    gives-way : (role : Bool) (mid taken b served : AgentRecord H P) (rejection answer : Packet) (id : List ℕ) (at : ℕ) (e : Entry) → IsSound mid → IsSound b → KnowEachOther mac mid b
        → Issued mac answers class.Failure id rejection b served → answer.contents ≡ rejection.contents → list_any (keeps_check_on mid (via_out answer) id) mid.pairs ≡ true
        → keeps_role mid ≡ false → Delivered mac answers answer at mid e taken
        → IsRejectedBy mid (handing answer at) e taken × (AreSentUnder role mid id → taken.controlling ≡ not role)
    gives-way role mid taken b served rejection answer id at e sound_mid sound_b know issued unaltered kept unkept came =
        let r = rejection-comes mid taken b served rejection answer id at e sound_b know issued unaltered kept came in
        let by = (trade_theorem mac answers mid taken came.before came.following (handing answer at) e sound_mid tt came.step).expired unkept at (via_out answer) r.0 r.1 r.2 r.3 in
        (by, λ under. switched_role r.0 r.1.2 r.4 under by) where
          switched_role : (n : Message) → Reads answer.contents n → n.id ≡ id → AreSentUnder role mid id → IsRejectedBy mid (handing answer at) e taken → taken.controlling ≡ not role
          switched_role n reads own under (moment_of, by, path, m, c, brings, failure, says, kept, is) =
              let m_is : m ≡ n = same_reading answer.contents n m reads brings.2 in
              let under_id : IsKept mid path id c = subst (λ i. IsKept mid path i c) (ap (λ (y : Message). y.id) m_is ∙ own) kept in
              is ∙ ap not (under path c under_id)

    -- ---- the check

    -- the agent has its sender's role, keeps it, and sends a 487
    record Sent487 (a b served : AgentRecord H P) (came : Packet) (id : List ℕ) (handed : Entry) : Type 0 where
      no_smaller : keeps_role b ≡ false → a.tie_breaker ≤ b.tie_breaker
      stays : served.controlling ≡ b.controlling
      rejection : Packet
      via_back : via_out rejection ≡ reversed (via_out came)
      sends : Sends b handed class.Failure id rejection served

    module _ (checks : (key id username : List ℕ) (controlling : Bool) (tie_breaker priority : ℕ) (nominates : Bool) (number : Option ℕ)
        → length username ≤ USERNAME_LIMIT → FitsInto key LONGEST_NUMBERED_CHECK (with_nomination number (binding_request username id controlling tie_breaker priority nominates))) where
      -- it is served, and one of the two takes the other role
      meets : (a sent b served : AgentRecord H P) (s t : Stream) (now at : ℕ) (check came : Packet) (id : List ℕ) (timeout handed : Entry) → IsSound a → IsSound b
          → Step mac answers a s (HandleTimeout now) timeout sent t → Sends a timeout class.Request id check sent → KnowEachOther mac a b → came.contents ≡ check.contents
          → IsReachedBy b (via_out came) → Delivered mac answers came at b handed served
          → ServesPastTests b (handing came at) handed
          × (b.controlling ≡ a.controlling → ((b.tie_breaker < a.tie_breaker) × (served.controlling ≡ not a.controlling)) ⊎ Sent487 a b served came id handed)
      meets a sent b served s t now at check came id timeout handed sound_a sound_b step sends known unaltered reached delivered =
          ((q, serving, tests), λ alike. resolves alike (keeps_role b) refl (leb_tells a.tie_breaker b.tie_breaker)) where
            k : Comes mac a b came id at handed
            k = check-comes mac answers read checks a sent b served check came id at handed sound_a known
                (record { call = HandleTimeout now; entry = timeout; before = s; following = t; step = step; sends = sends }) unaltered delivered

            q : RequestRecord
            q = request_in at (via_out came) k.message

            place : (l : ℕ) × (local_place b.local q ≡ Some l)
            place = let p = live_place mac answers b q reached.there in (p.0, p.1)

            serving : IsServing b (handing {P = P} came at) handed q
            serving = (at, via_out came, k.message, (refl, refl, k.reads, k.accepted), k.request, ap (λ o. is_some o) known.its, refl)

            tests : IsServedPastTests b q
            tests = (k.named, place)

            conflict_if : (keeps : Bool) → b.controlling ≡ a.controlling → keeps_role b ≡ keeps
                → conflict_of b q ≡ (if keeps || nat_le a.tie_breaker b.tie_breaker then Send487 else SwitchRole)
            conflict_if keeps alike is =
                ap (λ o. conflict_by (keeps_role b) b.tie_breaker o) (subst (λ r. rival_in r q ≡ Some a.tie_breaker) (sym alike) (same_claim a.controlling q a.tie_breaker k.controlling k.controlled))
                ∙ ap (λ x. if x || nat_le a.tie_breaker b.tie_breaker then Send487 else SwitchRole) is

            conflict : (c : Bool) → b.controlling ≡ a.controlling → keeps_role b ≡ false → nat_le a.tie_breaker b.tie_breaker ≡ c → conflict_of b q ≡ (if c then Send487 else SwitchRole)
            conflict c alike unkept is = conflict_if false alike unkept ∙ ap (λ x. if x then Send487 else SwitchRole) is

            role : served.controlling ≡ role_once (conflict_of b q) b.controlling
            role = (trade_theorem mac answers b served delivered.before delivered.following (handing came at) handed sound_b tt delivered.step).settled q serving tests

            sends_487 : (keeps_role b ≡ false → a.tie_breaker ≤ b.tie_breaker) → conflict_of b q ≡ Send487 → Sent487 a b served came id handed
            sends_487 le is =
                let out : handed.emitted.issued ≡ Some (issued_as (reversed (via_out came)) class.Failure id) =
                conflict_sent q b k.mid handed.emitted place.0 k.named place.1 is k.serves ∙ ap (λ i. Some (issued_as (reversed (via_out came)) class.Failure i)) k.id_is in
                let back = goes-back mac answers class.Failure b served came id at handed sound_b delivered
                (λ packet m says. says.3 ∙ ap reversed (brought-by mac answers b came at handed says.0 says.1)) (reversed (via_out came)) out in
                record { no_smaller = le; stays = role ∙ ap (λ c. role_once c b.controlling) is; rejection = back.0; via_back = back.1; sends = back.2 }

            resolves : b.controlling ≡ a.controlling → (keeps : Bool) → keeps_role b ≡ keeps → (((nat_le a.tie_breaker b.tie_breaker ≡ true) × (a.tie_breaker ≤ b.tie_breaker)) ⊎ ((nat_le a.tie_breaker b.tie_breaker ≡ false) × (b.tie_breaker < a.tie_breaker)))
                → ((b.tie_breaker < a.tie_breaker) × (served.controlling ≡ not a.controlling)) ⊎ Sent487 a b served came id handed
            resolves alike true kept _ = inr (sends_487 (λ unkept. absurd (let no : true ≡ false = sym kept ∙ unkept in cc)) (conflict_if true alike kept))
            resolves alike false unkept (inl (is, le)) = inr (sends_487 (λ _. omega (arith, le)) (conflict true alike unkept is))
            resolves alike false unkept (inr (is, lt)) = inl (omega (arith, lt), role ∙ ap (λ c. role_once c b.controlling) (conflict false alike unkept is) ∙ ap not alike)

      -- the delivered check issues the 487
      issues : (b served : AgentRecord H P) (came rejection : Packet) (id : List ℕ) (at : ℕ) (handed : Entry) → Delivered mac answers came at b handed served
          → Sends b handed class.Failure id rejection served → Issued mac answers class.Failure id rejection b served
      issues b served came rejection id at handed delivered sends =
          record { call = handing came at; entry = handed; before = delivered.before; following = delivered.following; step = delivered.step; sends = sends }

      -- the check that is received: served, and if the roles are equal, its receiver switches or sends a 487
      settles : (k : SentCheck mac answers) (c : CarriedCheck mac answers k) → ServesPastTests c.receipt.receiver (handing c.came c.receipt.at) c.receipt.handed
          × (c.receipt.receiver.controlling ≡ k.sender.controlling
          → ((c.receipt.receiver.tie_breaker < k.sender.tie_breaker) × (c.receipt.served.controlling ≡ not k.sender.controlling))
          ⊎ Sent487 k.sender c.receipt.receiver c.receipt.served c.came k.id c.receipt.handed)
      settles k c =
          let got = c.receipt in
          meets k.sender k.sent got.receiver got.served k.before k.following k.now got.at k.check c.came k.id k.timeout got.handed (search k.sound) (search got.sound) k.step k.sends (search c.know) (search c.unaltered)
          (search got.reached) got.delivered

      pub conflicts-settle : ChecksAreKept mac answers → ConflictsResolve mac answers
      conflicts-settle kept_law k c = (there.0, λ alike. elim (there.1 alike) [ inl lesser ↦ inl lesser | inr i ↦ inr (sent_487 alike i) ]) where
        there : ServesPastTests c.receipt.receiver (handing k.check c.receipt.at) c.receipt.handed
            × (c.receipt.receiver.controlling ≡ k.sender.controlling
            → ((c.receipt.receiver.tie_breaker < k.sender.tie_breaker) × (c.receipt.served.controlling ≡ not k.sender.controlling))
            ⊎ Sent487 k.sender c.receipt.receiver c.receipt.served k.check k.id c.receipt.handed)
        there = settles k (record { came = k.check; unaltered = refl; receipt = c.receipt; know = known-sender mac answers k c })

        sound_near : IsSound c.near
        sound_near = sound-execution mac answers c.soon.calls k.sent c.near (sound-sent mac answers k) c.soon.execution

        sent_487 : c.receipt.receiver.controlling ≡ k.sender.controlling → Sent487 k.sender c.receipt.receiver c.receipt.served k.check k.id c.receipt.handed → IsConflictSent mac answers k c
        sent_487 alike i =
            let via_back : list_any (keeps_check_on k.sent (via_out i.rejection) k.id) k.sent.pairs ≡ true =
            subst (λ w. list_any (keeps_check_on k.sent w k.id) k.sent.pairs ≡ true) (sym i.via_back)
            (kept_law k.sender k.sent k.before k.following k.now k.check k.id k.timeout k.sound k.step k.sends) in
            let kept = checks-stay mac answers k.sent c.near c.soon.calls (via_out i.rejection) k.id (sound-sent mac answers k) (search c.soon.between) c.soon.execution via_back in record {
              no_smaller = λ unkept. (let le = i.no_smaller unkept in omega (arith, le));
              stays = i.stays;
              rejection = i.rejection;
              via_back = i.via_back;
              sends = i.sends;
              returns = λ r unkept. (
                  let gives = gives-way k.sender.controlling r.mid r.taken c.receipt.receiver c.receipt.served i.rejection i.rejection k.id r.at r.returned
                  (sound-execution mac answers r.soon.calls c.near r.mid sound_near r.soon.execution) c.receipt.sound
                  (known-on mac c.near r.mid c.receipt.receiver (keys-between mac answers r.soon.calls c.near r.mid sound_near (search r.soon.between) r.soon.execution) (search c.know))
                  (issues c.receipt.receiver c.receipt.served k.check i.rejection k.id c.receipt.at c.receipt.handed c.receipt.delivered i.sends) refl
                  (checks-stay mac answers c.near r.mid r.soon.calls (via_out i.rejection) k.id sound_near (search r.soon.between) r.soon.execution kept) unkept (search r.delivered) in
                  (gives.0, λ under. gives.1 under ∙ ap not (sym alike)));
            }

      pub carried-settle : CarriedResolve mac answers
      carried-settle k c = (there.0, λ alike. elim (there.1 alike) [ inl lesser ↦ inl lesser | inr i ↦ inr (sent_487 alike i) ]) where
        there : ServesPastTests c.receipt.receiver (handing c.came c.receipt.at) c.receipt.handed
            × (c.receipt.receiver.controlling ≡ k.sender.controlling
            → ((c.receipt.receiver.tie_breaker < k.sender.tie_breaker) × (c.receipt.served.controlling ≡ not k.sender.controlling))
            ⊎ Sent487 k.sender c.receipt.receiver c.receipt.served c.came k.id c.receipt.handed)
        there = settles k c

        sent_487 : c.receipt.receiver.controlling ≡ k.sender.controlling → Sent487 k.sender c.receipt.receiver c.receipt.served c.came k.id c.receipt.handed → IsConflictCarried mac answers k c
        sent_487 alike i = record {
          no_smaller = i.no_smaller;
          stays = i.stays;
          rejection = i.rejection;
          via_back = i.via_back;
          sends = i.sends;
          returns = λ r unkept.
              elim (still-kept mac answers k c.receipt.receiver r.answer r.receipt (search r.back)) [
                | inl kept ↦
                    (let e = r.receipt in
                    let sound_mid = sound-execution mac answers e.calls k.sent e.mid (sound-sent mac answers k) e.execution in
                    let gives = gives-way k.sender.controlling e.mid e.taken c.receipt.receiver c.receipt.served i.rejection r.answer k.id e.at e.returned sound_mid c.receipt.sound (search e.know)
                    (issues c.receipt.receiver c.receipt.served c.came i.rejection k.id c.receipt.at c.receipt.handed c.receipt.delivered i.sends) (search r.unaltered) kept unkept e.delivered in
                    inl (gives.0, λ under. gives.1 under ∙ ap not (sym alike)))
                | inr ends ↦ inr ends
              ];
        }
