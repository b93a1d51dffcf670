-- A check on a nominated path has USE-CANDIDATE.
use Rattle.is_stun.specs.declared.header.Class.TheVariants as class
use Rattle.is_theorems.proofs.Common.{[], ◌&&◌, ◌++◌, ◌==◌, ◌||◌, ◌∙◌, ◌∷◌, ◌≡◌, ◌≤◌, AgentRecord, ap, are_too_long, AreNominatedOn, arith}
use Rattle.is_theorems.proofs.Common.{AttributesRecord, binding_request, Bool, candidate_at, CandidateRecord, CarriedAreServed, CarriedAsk}
use Rattle.is_theorems.proofs.Common.{change_at, change_pair, check_message, check_priority, ChecksAsk, false, FitsInto, HandleTimeout, Has}
use Rattle.is_theorems.proofs.Common.{IceCreds, if◌then◌else◌, inl, is_named_by, is_nominated, is_some, IsFragment, issued_as}
use Rattle.is_theorems.proofs.Common.{KnowEachOther, length, List, LONGEST_NUMBERED_CHECK, max, Message, nominates, nominates_at_once}
use Rattle.is_theorems.proofs.Common.{nomination_of, None, not, numbers, Option, option_map_or, Packet, PairRecord, Path, path_of, Reads}
use Rattle.is_theorems.proofs.Common.{ReadsBack, ReceivedPacket, refl, request_in, Says, Some, stays_nominated, subst, sym, true, unwrap_or}
use Rattle.is_theorems.proofs.Common.{USERNAME_LIMIT, via_out, with_nomination, written, WrittenIsRead, ℕ}
use Rattle.is_theorems.proofs.BasicLemmas.PairsInTurn.{nominated-before, pairs-sent, sent_at, sent-number}
use Rattle.is_theorems.proofs.BasicLemmas.ServedPairs.{asks-taken}
use Rattle.is_theorems.proofs.CheckExchanges.DeliveredChecks.{same_reading, emitted_as, issued_packet, check_reads}
use Rattle.is_theorems.proofs.CheckExchanges.ReturnedResponses.{keys_of, known-on, keys-timeout, issued-check, known-sender}
use Rattle.is_theorems.proofs.StoredPairs.StoredChecks.{Checks, checks-as, number_same}
use Rattle.is_theorems.proofs.CallEffects.ServedRequests.{Has-mapped}
use Rattle.is_theorems.proofs.RuleEffects.SelectedPaths.{some_is}

-- the last elements of two equal lists
pub last_alike : {X : Type 0} (xs ys : List X) (x y : X) → xs ++ x ∷ [] ≡ ys ++ y ∷ [] → x ≡ y
last_alike [] [] x y h = cc
last_alike [] (z ∷ []) x y h = cc
last_alike [] (z ∷ w ∷ ys) x y h = cc
last_alike (z ∷ []) [] x y h = cc
last_alike (z ∷ w ∷ xs) [] x y h = cc
last_alike (z ∷ xs) (w ∷ ys) x y h = last_alike xs ys x y (let same : z ∷ (xs ++ x ∷ []) ≡ w ∷ (ys ++ y ∷ []) = h in cc)

-- a check has no nomination of number 0
never-zero : (b : Bool) (n : ℕ) → (if b then Some (max 1 n) else None) ≡ Some 0 → ⊥
never-zero false n is = let no : None ≡ Some 0 = is in cc
never-zero true n is = let zero : max 1 n ≡ 0 = ap (λ o. unwrap_or o 0) is in omega (arith, zero)

module _ {H P : Type 0} (mac : H → List ℕ → List ℕ → List ℕ) (answers : P → CandidateRecord → ℕ → ℕ → Type 0) where
  -- the check nominates its path
  leads : (now : ℕ) (path : Path) (id : List ℕ) (sent : AgentRecord H P) → (c : Checks mac answers now path id sent) → sent.controlling ≡ true → AreNominatedOn sent path
      → (c.old.controlling && stays_nominated c.old c.pair) ≡ true
  leads now path id sent c role nominated =
      let begins : Bool = nominates_at_once c.old in
      let change : PairRecord → PairRecord = sent_at begins now c.old.timing c.old.controlling id in
      let after : PairRecord = change c.pair in
      let own : change_at c.pair.number change c.pair ≡ after = ap (λ b. if b then after else c.pair) (number_same c.pair.number) in
      let there : Has sent.pairs after =
      subst (λ ps. Has ps after) (sym (pairs-sent mac now c.remote c.pair id c.old sent c.made))
      (subst (λ (x : PairRecord). Has (change_pair c.pair.number change c.old.pairs) x) own (Has-mapped (change_at c.pair.number change) c.old.pairs c.pair c.has)) in
      let on : path_of sent after ≡ path = ap (λ (a : AgentRecord H P). path_of a after) c.made ∙ (path-sent begins c ∙ c.path) in
      let asks : stays_nominated c.old c.pair ≡ true =
      ap (λ n. n && (not c.old.renominates || is_named_by c.old.selected_pair c.pair)) (sym (nominated-before begins now c.old.timing c.old.controlling id c.pair))
      ∙ (ap (λ m. is_nominated after && (not c.old.renominates || option_map_or (λ n. n == m) c.old.selected_pair false))
      (sym (sent-number begins now c.old.timing c.old.controlling id c.pair))
      ∙ (ap (λ (a : AgentRecord H P). stays_nominated a after) (sym c.made) ∙ nominated after there on)) in
      ap (λ b. b && stays_nominated c.old c.pair) (ap (λ (a : AgentRecord H P). a.controlling) (sym c.made) ∙ role) ∙ asks where
        path-sent : (begins : Bool) → (c : Checks mac answers now path id sent)
            → path_of c.old (sent_at begins now c.old.timing c.old.controlling id c.pair) ≡ path_of c.old c.pair
        path-sent true c = refl
        path-sent false c = refl

  module _ (read : (m : List ℕ → List ℕ → List ℕ) (key : List ℕ) (x : Message) → WrittenIsRead m key x)
      (fits : (key id username : List ℕ) (controlling : Bool) (tie_breaker priority : ℕ) (nominates : Bool) (number : Option ℕ)
      → length username ≤ USERNAME_LIMIT → FitsInto key LONGEST_NUMBERED_CHECK (with_nomination number (binding_request username id controlling tie_breaker priority nominates))) where
    pub carried-ask : CarriedAreServed mac answers → CarriedAsk mac answers
    carried-ask served_law k c role other nominated =
        let taken = served_law k.sender k.sent b got.served k.check c.came k.id got.at got.handed (search k.sound) (search got.sound) (search c.know) (inl (search other ∙ ap not (sym role))) (search got.reached)
        (issued-check mac answers k) (search c.unaltered) (search got.delivered) in
        let x = checks-as mac answers k.sender k.sent k.before k.following k.now (via_out k.check) k.id k.timeout k.sends.emitted k.step in
        let know_old : KnowEachOther mac x.old b =
        known-on mac k.sender x.old b
        (ap (λ (y : AgentRecord H P). keys_of y) (sym x.made) ∙ keys-timeout mac answers k.now k.timeout k.sender k.sent k.before k.following k.sound k.step) c.know in (
          (request_in got.at (via_out c.came) taken.0.0),
          k.id,
          (got.at, via_out c.came, taken.0.0, taken.0.1, taken.0.2, ap (λ o. is_some o) c.know.its, refl),
          asks x know_old taken.0.0 (subst (λ bs. Reads bs taken.0.0) c.unaltered taken.0.1.2),
          taken.1.2.emitted ∙ ap (λ w. Some (issued_as w class.Success k.id)) taken.1.1,
        ) where
          got : ReceivedPacket mac answers c.came
          got = c.receipt

          b : AgentRecord H P
          b = c.receipt.receiver

          stays : k.sent.controlling ≡ k.sender.controlling
          stays =
              let i = issued_packet mac answers k.sender k.sent class.Request k.id k.check k.sound (issued-check mac answers k) in
              let same = emitted_as (via_out k.check) (via_out k.check) class.Request i.0.class k.id i.0.id (sym k.sends.emitted ∙ i.2) in
              let says : Says class.Request k.sender (HandleTimeout k.now) k.timeout k.check.contents i.0 (via_out k.check) k.sent.controlling =
              subst (λ y. Says y k.sender (HandleTimeout k.now) k.timeout k.check.contents i.0 (via_out k.check) k.sent.controlling) (sym same.1) i.3 in
              says.8

          asks : (x : Checks mac answers k.now (via_out k.check) k.id k.sent) → KnowEachOther mac x.old b → (m : Message) → Reads k.check.contents m
              → nominates b (request_in got.at (via_out c.came) m) ≡ true
          asks x know_old m reads =
              let msg : Message = check_message x.old x.remote x.pair k.id in
              let it : x.remote ≡ b.local_creds = some_is x.remote b.local_creds (sym x.known ∙ know_old.mine) in
              let back : ReadsBack (mac x.old.provider) x.remote.pass (written (mac x.old.provider) (Some x.remote.pass) msg) msg =
              check_reads mac answers read fits x.remote.pass x.old.local_creds x.remote k.id x.old.controlling (x.old.controlling && stays_nominated x.old x.pair) (nomination_of x.old x.pair) x.old.tie_breaker
              (check_priority (candidate_at x.old.local x.pair.local)) (mac x.old.provider) (written (mac x.old.provider) (Some x.remote.pass) msg) know_old.twenty
              (subst (λ (y : IceCreds). are_too_long x.old.local_creds (Some y) ≡ false) (sym it) know_old.fit) know_old.own
              (subst (λ (y : IceCreds). IsFragment y.ufrag) (sym it) know_old.other) x.put in
              let packet : Packet = record {
                proto = (path_of x.old x.pair).proto;
                source = (path_of x.old x.pair).source;
                destination = (path_of x.old x.pair).destination;
                contents = written (mac x.old.provider) (Some x.remote.pass) msg;
              } in
              let same : k.check ≡ packet = last_alike k.sender.packets x.old.packets k.check packet (sym k.sends.put ∙ ap (λ (y : AgentRecord H P). y.packets) x.made) in
              let bytes : Reads (written (mac x.old.provider) (Some x.remote.pass) msg) m = subst (λ (y : Packet). Reads y.contents m) same reads in
              let is : m ≡ back.read = same_reading (written (mac x.old.provider) (Some x.remote.pass) msg) back.read m back.reads bytes in
              asks-taken (numbers b) (request_in got.at (via_out c.came) m)
              (ap (λ (y : Message). y.attributes.use_candidate) is ∙ (ap (λ (r : AttributesRecord). r.use_candidate) back.same.attributes
              ∙ leads k.now (via_out k.check) k.id k.sent x (stays ∙ search role) (search nominated)))
              (λ none. never-zero (x.old.controlling && numbers x.old && stays_nominated x.old x.pair) x.old.nominations
              (sym (ap (λ (r : AttributesRecord). r.nomination) back.same.attributes) ∙ (sym (ap (λ (y : Message). y.attributes.nomination) is) ∙ none)))

    pub checks-ask : CarriedAsk mac answers → ChecksAsk mac answers
    checks-ask law k c role other nominated =
        law k (record { came = k.check; unaltered = refl; receipt = c.receipt; know = known-sender mac answers k c }) (search role) (search other) (search nominated)
