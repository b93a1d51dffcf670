-- For each call: what it received was accepted; which early requests are stored; what it owes; what a clear leaves.
use Rattle.is_stun.specs.declared.header.Class.TheVariants as class
use Rattle.is_stun.specs.declared.header.Method.{Method}
use Rattle.is_stun.specs.declared.header.Method.TheVariants.{Binding}
use Rattle.is_theorems.proofs.Common.{[], ◌&&◌, ◌++◌, ◌+◌, ◌-◌, ◌∙◌, ◌∷◌, ◌≡◌, ◌≤◌, ◌⊎◌, AddLocalCandidate, AddRemoteCandidate, AgentRecord}
use Rattle.is_theorems.proofs.Common.{Answer, ap, arith, Bool, Brings, Call, CandidateRecord, Check, Class, clears, count, Done, drop}
use Rattle.is_theorems.proofs.Common.{early_kept, Entry, Err, false, Flag, HandleTimeout, Has, head, IceCreds, IceError, if◌then◌else◌, inl}
use Rattle.is_theorems.proofs.Common.{inr, InvalidateCandidate, is_clearing, is_done, is_modern, is_nominated, is_not_accepted}
use Rattle.is_theorems.proofs.Common.{is_rejection, is_some, is_valid, IsAcceptedOn, IsBrought, IsNotAccepted, IsServing, Issued, length}
use Rattle.is_theorems.proofs.Common.{length-append, length-drop, List, Message, next_request, None, nothing_emitted, Ok, one_if, Option}
use Rattle.is_theorems.proofs.Common.{owed, PairRecord, Path, queue_left, QUEUE_LIMIT, queued_last, quiet, ReceivePacket}
use Rattle.is_theorems.proofs.Common.{RecreateCandidatePairs, Recreates, refl, Rejected, reply_of, request_at, request_in, request_of}
use Rattle.is_theorems.proofs.Common.{requested_as, RequestRecord, RestartIce, Some, Step, Stream, subst, suc, sym, Transaction}
use Rattle.is_theorems.proofs.Common.{transaction_of, true, Unparsed, Waits, WaitsPast, WaitsWith, zero, ℕ}
use Rattle.is_theorems.proofs.RuleEffects.SelectedPaths.{some_is}
use Rattle.is_theorems.proofs.CallEffects.SettingsRoleAndQueues.{left_after}
use Rattle.is_theorems.proofs.RuleEffects.EarlierAndNewPairs.{Has-push}
use Rattle.is_theorems.proofs.CallEffects.ChecksAndResponses.{Has-drop}
use Rattle.is_theorems.proofs.CallEffects.FailedCallsAndNewAgents.{selects_local, selects_remote, selects_without}
use Rattle.is_theorems.proofs.CallEffects.CallsThatEmitNothing.{silent}
use Rattle.is_theorems.proofs.CallEffects.ChangedCandidates.{recreates_goes}
use Rattle.is_theorems.proofs.CallEffects.PairsAndSelectedPaths.{Posted}

no_flag : {A : Type 0} → Flag false ≡ Flag true → A
no_flag h = absurd (cc)

Has-back : {X : Type 0} (xs ys : List X) (x : X) → Has ys x → Has (xs ++ ys) x
Has-back [] ys x h = h
Has-back (y ∷ xs) ys x h = inr (Has-back xs ys x h)

module _ {H P : Type 0} (mac : H → List ℕ → List ℕ → List ℕ) (answers : P → CandidateRecord → ℕ → ℕ → Type 0) (old new : AgentRecord H P) (s t : Stream) (e : Entry) where
  -- ---- accepted packets, failed calls, and packets that are not accepted

  pub accepts : (call : Call P) → Step mac answers old s call e new t → (at : ℕ) (by : Path) (m : Message) → Brings call e at by m → IsAcceptedOn mac old by m
  accepts (ReceivePacket now path bytes) (inl (fault, has, is, made), drawn) at by m (at_is, by_is, reads, flag) =
      absurd (let no : Unparsed fault ≡ Flag true = sym (ap (λ (x : Entry). x.answer) is) ∙ flag in cc)
  accepts (ReceivePacket now path bytes) (inr (n, reads_n, (Ok false, emitted, is, h)), drawn) at by m (at_is, by_is, reads, flag) =
      no_flag (sym (ap (λ (x : Entry). x.answer) is) ∙ flag)
  accepts (ReceivePacket now path bytes) (inr (n, reads_n, (Ok true, emitted, is, (accepted, h))), drawn) at by m (at_is, by_is, reads, flag) =
      subst (λ w. IsAcceptedOn mac old w m) by_is (subst (λ (x : Message). IsAcceptedOn mac old path x) (reads_n.spelled ∙ sym reads.spelled) accepted)
  accepts (ReceivePacket now path bytes) (inr (n, reads_n, (Err error, emitted, is, h)), drawn) at by m (at_is, by_is, reads, flag) =
      absurd (let no : Rejected error ≡ Flag true = sym (ap (λ (x : Entry). x.answer) is) ∙ flag in cc)
  accepts _ h at by m brings = absurd brings

  pub leaves_unaccepted : (call : Call P) → Step mac answers old s call e new t → IsNotAccepted mac old call → (new ≡ old) × (e.emitted ≡ nothing_emitted) × (is_not_accepted e.answer ≡ true)
  leaves_unaccepted (ReceivePacket now path bytes) (inl (fault, has, is, made), drawn) down = (made, ap (λ (x : Entry). x.emitted) is, ap (λ (x : Entry). is_not_accepted x.answer) is)
  leaves_unaccepted (ReceivePacket now path bytes) (inr (n, reads_n, (Ok false, emitted, is, (unaccepted, nothing, made))), drawn) down =
      (made, ap (λ (x : Entry). x.emitted) is ∙ nothing, ap (λ (x : Entry). is_not_accepted x.answer) is)
  leaves_unaccepted (ReceivePacket now path bytes) (inr (n, reads_n, (Ok true, emitted, is, (accepted, h))), drawn) down = absurd (down (n, reads_n, accepted))
  leaves_unaccepted (ReceivePacket now path bytes) (inr (n, reads_n, (Err error, emitted, is, (may, nothing, made))), drawn) down = absurd (down (n, reads_n, may.0))
  leaves_unaccepted _ h down = absurd down

  pub rejects : (call : Call P) → Step mac answers old s call e new t → is_rejection e.answer ≡ true → e.emitted ≡ nothing_emitted
  rejects (ReceivePacket now path bytes) (inl (fault, has, is, made), drawn) r = ap (λ (x : Entry). x.emitted) is
  rejects (ReceivePacket now path bytes) (inr (n, reads_n, (Ok b, emitted, is, h)), drawn) r =
      absurd (let no : false ≡ true = sym (ap (λ (x : Entry). is_rejection x.answer) is) ∙ r in cc)
  rejects (ReceivePacket now path bytes) (inr (n, reads_n, (Err error, emitted, is, (may, nothing, made))), drawn) r = ap (λ (x : Entry). x.emitted) is ∙ nothing
  rejects (HandleTimeout now) (Ok u, emitted, is, h) r = absurd (let no : false ≡ true = sym (ap (λ (x : Entry). is_rejection x.answer) is) ∙ r in cc)
  rejects (HandleTimeout now) (Err error, emitted, is, (may, nothing, made, drawn)) r = ap (λ (x : Entry). x.emitted) is ∙ nothing
  rejects (AddLocalCandidate c) h r = (selects_local mac answers old new s t e c h r).1
  rejects (AddRemoteCandidate c) h r = (selects_remote mac answers old new s t e c h r).1
  rejects (InvalidateCandidate c) h r = (selects_without mac answers old new s t e c h r).1
  rejects call h r = (silent mac answers old new s t e call refl refl h).emitted

  -- ---- early requests that are stored

  past_has : (o : Option RequestRecord) (a : Answer) (before following : List RequestRecord) (q : RequestRecord) → WaitsPast o a before following → Has following q → Has before q
  past_has None a before following q (gone, is) has = subst (λ (qs : List RequestRecord). Has qs q) (sym is) (Has-back gone following q has)
  past_has (Some r) Done before following q (gone, is) has = subst (λ (qs : List RequestRecord). Has qs q) (sym is) (Has-back gone (r ∷ following) q (inr has))
  past_has (Some r) a before following q same has = subst (λ (qs : List RequestRecord). Has qs q) same has

  with_has : (call : Call P) (q : RequestRecord) → WaitsWith old call e new → Has new.queue q → Has old.queue q ⊎ IsBrought call e q
  with_has call q (inl same) has = inl (subst (λ (qs : List RequestRecord). Has qs q) same has)
  with_has call q (inr (at, by, m, brings, request, none, is)) has =
      elim (Has-push old.queue (request_in at by m) q (Has-drop _ (old.queue ++ request_in at by m ∷ []) q (subst (λ (qs : List RequestRecord). Has qs q) is has))) [
        | inl was ↦ inl was
        | inr now ↦ inr (at, by, m, brings, request, sym now)
      ]

  -- those that a restart keeps
  early_had : (modern : Bool) (qs : List RequestRecord) (q : RequestRecord) → Has (early_kept modern qs) q → Has qs q
  early_had true qs q has = absurd has
  early_had false qs q has = has

  early_short : (modern : Bool) (qs : List RequestRecord) → length (early_kept modern qs) ≤ length qs
  early_short true qs = omega arith
  early_short false qs = omega arith

  pub waits_has : (call : Call P) (q : RequestRecord) → Waits old call e new → Has new.queue q → Has old.queue q ⊎ IsBrought call e q
  waits_has (HandleTimeout now) q h has = inl (past_has (request_at now old) e.answer old.queue new.queue q h has)
  waits_has (RestartIce creds keep) q h has =
      inl (early_had (is_done e.answer && is_modern old.timing) old.queue q (subst (λ (qs : List RequestRecord). Has qs q) h has))
  waits_has call q h has = with_has call q h has

  -- no more are stored than the limit allows
  past_short : (o : Option RequestRecord) (a : Answer) (before following : List RequestRecord) → WaitsPast o a before following → length before ≤ QUEUE_LIMIT → length following ≤ QUEUE_LIMIT
  past_short None a before following (gone, is) short =
      let long : length before ≡ length gone + length following = ap length is ∙ length-append gone following in omega (arith, short, long)
  past_short (Some r) Done before following (gone, is) short =
      let long : length before ≡ length gone + length (r ∷ following) = ap length is ∙ length-append gone (r ∷ following) in omega (arith, short, long)
  past_short (Some r) a before following same short = subst (λ (qs : List RequestRecord). length qs ≤ QUEUE_LIMIT) (sym same) short

  last_short : (qs : List RequestRecord) → length (queued_last qs) ≤ QUEUE_LIMIT
  last_short qs = let k : length (drop (length qs - QUEUE_LIMIT) qs) ≡ length qs - (length qs - QUEUE_LIMIT) = length-drop (length qs - QUEUE_LIMIT) qs in omega (arith, k)

  with_short : (call : Call P) → WaitsWith old call e new → length old.queue ≤ QUEUE_LIMIT → length new.queue ≤ QUEUE_LIMIT
  with_short call (inl same) short = subst (λ (qs : List RequestRecord). length qs ≤ QUEUE_LIMIT) (sym same) short
  with_short call (inr (at, by, m, brings, request, none, is)) short =
      subst (λ (qs : List RequestRecord). length qs ≤ QUEUE_LIMIT) (sym is) (last_short (old.queue ++ request_in at by m ∷ []))

  pub waits_short : (call : Call P) → Waits old call e new → length old.queue ≤ QUEUE_LIMIT → length new.queue ≤ QUEUE_LIMIT
  waits_short (HandleTimeout now) h short = past_short (request_at now old) e.answer old.queue new.queue h short
  waits_short (RestartIce creds keep) h short =
      let few = early_short (is_done e.answer && is_modern old.timing) old.queue in
      subst (λ (qs : List RequestRecord). length qs ≤ QUEUE_LIMIT) (sym h) (omega (arith, few, short))
  waits_short call h short = with_short call h short

  -- a request that is served arrived now, or was stored
  from_head : (qs : List RequestRecord) (q : RequestRecord) → head qs ≡ Some q → Has qs q
  from_head [] q is = let no : None ≡ Some q = is in absurd (cc)
  from_head (y ∷ ys) q is = inl (some y q is) where
    some : (y q : RequestRecord) → Some y ≡ Some q → y ≡ q
    some y q is = cc

  next_has : (peer : Option IceCreds) (qs : List RequestRecord) (q : RequestRecord) → next_request peer qs ≡ Some q → Has qs q
  next_has None qs q is = let no : None ≡ Some q = is in absurd (cc)
  next_has (Some peer) qs q is = from_head qs q is

  pub brought_or_waited : (call : Call P) (entry : Entry) (q : RequestRecord) → IsServing old call entry q → Has old.queue q ⊎ IsBrought call entry q
  brought_or_waited (HandleTimeout now) entry q serving =
      let left = left_after now old.timing old.remote_creds old.queue in
      inl (subst (λ (qs : List RequestRecord). Has qs q) (sym left.1)
      (Has-back left.0 (queue_left now old.timing old.remote_creds old.queue) q (next_has old.remote_creds (queue_left now old.timing old.remote_creds old.queue) q serving.0)))
  brought_or_waited (ReceivePacket now path bytes) entry q (at, by, m, brings, request, known, is) = inr (at, by, m, brings, request, is)
  brought_or_waited _ entry q serving = absurd serving.3

  -- ---- responses that are owed

  module _ (test : Transaction → Bool) where
    owed-append : (xs ys : List RequestRecord) → owed test (xs ++ ys) ≡ owed test xs + owed test ys
    owed-append [] ys = omega arith
    owed-append (x ∷ xs) ys = let k : owed test (xs ++ ys) ≡ owed test xs + owed test ys = owed-append xs ys in omega (arith, k)

    owed-drop : (n : ℕ) (qs : List RequestRecord) → owed test (drop n qs) ≤ owed test qs
    owed-drop zero qs = omega arith
    owed-drop (suc n) [] = omega arith
    owed-drop (suc n) (x ∷ xs) = let k : owed test (drop n xs) ≤ owed test xs = owed-drop n xs in omega (arith, k)

    abbrev Counted : Call P → Type 0
    Counted call =
        (count test (reply_of e.emitted.issued) ≡ 0)
        ⊎ ((q : RequestRecord) × IsServing old call e q × (count test (reply_of e.emitted.issued) ≡ one_if (test (transaction_of q))))

    counts_reply : (issued : Option Issued) (q : RequestRecord) → count test (reply_of issued) ≡ count test (transaction_of q ∷ []) → count test (reply_of issued) ≡ one_if (test (transaction_of q))
    counts_reply issued q is = omega (arith, is)

    counted : (call : Call P) → Posted mac answers old new s t e call → Counted call
    counted call (inl none) = inl (ap (λ i. count test (reply_of i)) none)
    counted call (inr (inl (role, inl none))) = inl (ap (λ i. count test (reply_of i)) none)
    counted call (inr (inl (role, inr (path, id, peer, c, names, number, out, known, has, values, put, leads, with_number)))) = inl (ap (λ i. count test (reply_of i)) out)
    counted call (inr (inr (q, serves, inl (inl none)))) = inl (ap (λ i. count test (reply_of i)) none.0)
    counted call (inr (inr (q, serves, inl (inr (out, values, put, nominates))))) = inr (q, serves, counts_reply e.emitted.issued q (ap (λ i. count test (reply_of i)) out))
    counted call (inr (inr (q, serves, inr (out, values, put, sends_487, stays)))) = inr (q, serves, counts_reply e.emitted.issued q (ap (λ i. count test (reply_of i)) out))

    past_owes : (now : ℕ) (o : Option RequestRecord) (a : Answer) → request_at now old ≡ o → e.answer ≡ a → Counted (HandleTimeout now) → WaitsPast o a old.queue new.queue
        → count test (reply_of e.emitted.issued) + owed test new.queue ≤ owed test old.queue + 0
    past_owes now None a at is (inl none) (gone, left) =
        let all : owed test old.queue ≡ owed test gone + owed test new.queue = ap (λ qs. owed test qs) left ∙ owed-append gone new.queue in omega (arith, none, all)
    past_owes now None a at is (inr (q, serving, one)) h = let no : None ≡ Some q = sym at ∙ serving.0 in absurd (cc)
    past_owes now (Some r) Done at is (inl none) (gone, left) =
        let all : owed test old.queue ≡ owed test gone + owed test (r ∷ new.queue) = ap (λ qs. owed test qs) left ∙ owed-append gone (r ∷ new.queue) in omega (arith, none, all)
    past_owes now (Some r) Done at is (inr (q, serving, one)) (gone, left) =
        let all : owed test old.queue ≡ owed test gone + owed test (r ∷ new.queue) = ap (λ qs. owed test qs) left ∙ owed-append gone (r ∷ new.queue) in
        let both : Some r ≡ Some q = sym at ∙ serving.0 in
        let same : r ≡ q = some_is r q both in
        let its : one_if (test (transaction_of r)) ≡ one_if (test (transaction_of q)) = ap (λ (x : RequestRecord). one_if (test (transaction_of x))) same in
        omega (arith, one, all, its)
    past_owes now (Some r) a at is (inl none) same =
        let all : owed test new.queue ≡ owed test old.queue = ap (λ qs. owed test qs) same in omega (arith, none, all)
    past_owes now (Some r) a at is (inr (q, serving, one)) same = absurd (let no : a ≡ Done = sym is ∙ serving.1 in cc)

    requested_once : (method : Method) (c : Class) (path : Path) (id : List ℕ) → method ≡ Binding → c ≡ class.Request
        → count test (requested_as path id method c) ≡ one_if (test (record { via = path; id = id }))
    requested_once method c path id binding request =
        let one : count test (requested_as path id Binding class.Request) ≡ one_if (test (record { via = path; id = id })) = omega arith in
        ap (λ x. count test (requested_as path id x c)) binding ∙ ap (λ x. count test (requested_as path id Binding x)) request ∙ one

    brought_once : (call : Call P) → ((at : ℕ) (by : Path) (m : Message) → Brings call e at by m → IsAcceptedOn mac old by m)
        → (q : RequestRecord) → IsBrought call e q → count test (request_of call e.answer) ≡ one_if (test (transaction_of q))
    brought_once (ReceivePacket now path bytes) accepted q (at, by, m, (at_is, by_is, reads, flag), request, is) =
        let call_of : Call P = ReceivePacket now path bytes in
        let binding : m.method ≡ Binding = (accepted at by m (at_is, by_is, reads, flag)).0 in
        ap (λ a. count test (request_of call_of a)) flag
        ∙ ap (λ (x : Message). count test (requested_as path x.id x.method x.class)) (sym reads.spelled)
        ∙ requested_once m.method m.class path m.id binding request
        ∙ ap (λ w. one_if (test (record { via = w; id = m.id }))) by_is
        ∙ ap (λ (x : RequestRecord). one_if (test (transaction_of x))) (sym is)
    brought_once _ accepted q (at, by, m, brings, request, is) = absurd brings

    with_owes : (call : Call P) → ((at : ℕ) (by : Path) (m : Message) → Brings call e at by m → IsAcceptedOn mac old by m)
        → ((q : RequestRecord) → IsServing old call e q → IsBrought call e q × (is_some old.remote_creds ≡ true)) → Counted call → WaitsWith old call e new
        → count test (reply_of e.emitted.issued) + owed test new.queue ≤ owed test old.queue + count test (request_of call e.answer)
    with_owes call accepted served (inl none) (inl same) =
        let all : owed test new.queue ≡ owed test old.queue = ap (λ qs. owed test qs) same in omega (arith, none, all)
    with_owes call accepted served (inr (q, serving, one)) (inl same) =
        let all : owed test new.queue ≡ owed test old.queue = ap (λ qs. owed test qs) same in
        let came : count test (request_of call e.answer) ≡ one_if (test (transaction_of q)) = brought_once call accepted q (served q serving).0 in
        omega (arith, one, all, came)
    with_owes call accepted served (inl none) (inr (at, by, m, brings, request, unknown, is)) =
        let q : RequestRecord = request_in at by m in
        let all : owed test new.queue ≡ owed test (queued_last (old.queue ++ q ∷ [])) = ap (λ qs. owed test qs) is in
        let less : owed test (queued_last (old.queue ++ q ∷ [])) ≤ owed test (old.queue ++ q ∷ []) = owed-drop _ (old.queue ++ q ∷ []) in
        let more : owed test (old.queue ++ q ∷ []) ≡ owed test old.queue + owed test (q ∷ []) = owed-append old.queue (q ∷ []) in
        let came : count test (request_of call e.answer) ≡ one_if (test (transaction_of q)) = brought_once call accepted q (at, by, m, brings, request, refl) in
        omega (arith, none, all, less, more, came)
    with_owes call accepted served (inr (q, serving, one)) (inr (at, by, m, brings, request, unknown, is)) =
        absurd (let no : false ≡ true = sym (ap is_some unknown) ∙ (served q serving).1 in cc)

    pub owes : (call : Call P) → Step mac answers old s call e new t → Posted mac answers old new s t e call → Waits old call e new
        → count test (reply_of e.emitted.issued) + owed test new.queue ≤ owed test old.queue + count test (request_of call e.answer)
    owes (HandleTimeout now) h posted waits = past_owes now (request_at now old) e.answer refl refl (counted (HandleTimeout now) posted) waits
    owes (ReceivePacket now path bytes) h posted waits =
        with_owes (ReceivePacket now path bytes) (accepts (ReceivePacket now path bytes) h)
        (λ q (at, by, m, brings, request, known, is). ((at, by, m, brings, request, is), known)) (counted (ReceivePacket now path bytes) posted) waits
    owes (RestartIce creds keep) h posted waits = restart_owes (counted (RestartIce creds keep) posted) where
      early_owed : (modern : Bool) → owed test (early_kept modern old.queue) ≤ owed test old.queue
      early_owed true = omega arith
      early_owed false = omega arith

      restart_owes : Counted (RestartIce creds keep) → count test (reply_of e.emitted.issued) + owed test new.queue ≤ owed test old.queue + 0
      restart_owes (inl none) =
          let left = ap (λ (qs : List RequestRecord). owed test qs) waits in
          let few = early_owed (is_done e.answer && is_modern old.timing) in
          omega (arith, none, left, few)
      restart_owes (inr (q, serving, one)) = absurd serving.3
    owes call h posted waits = with_owes call (accepts call h) (λ q serving. absurd serving.3) (counted call posted) waits

  -- ---- clears

  abbrev NeverBy : Path → ℕ → Type 0
  NeverBy path m = ⊥

  abbrev Never : Path → Type 0
  Never path = ⊥

  abbrev NeverSent : Path → List ℕ → Bool → Type 0
  NeverSent path id role = ⊥

  no_check : (cs : List Check) → ((c : Check) → Has cs c → ⊥) → cs ≡ []
  no_check [] none = refl
  no_check (c ∷ cs) none = absurd (none c (inl refl))

  not_true : (b : Bool) → (b ≡ true → ⊥) → b ≡ false
  not_true true no_it = absurd (no_it refl)
  not_true false no_it = refl

  abbrev IsNewPair : PairRecord → Type 0
  IsNewPair p = (old.next_number ≤ p.number) × (is_valid p ≡ false) × (is_nominated p ≡ false) × (p.checks ≡ [])

  recreated : Recreates old (Ok _) new → (p : PairRecord) → Has new.pairs p → IsNewPair p
  recreated h p has =
      let bare : AgentRecord H P = record old { pairs = [] } in
      let o = recreates_goes NeverBy Never NeverSent bare new (record { placed = λ p none. absurd none; rising = tt; below = λ p none. absurd none; started = λ p none. absurd none; consented = λ p none. absurd none }) h in
      elim (o.pairs p has) [
        | inl k ↦ absurd k.there
        | inr j ↦ (
          j.above,
          not_true (is_valid p) (λ is. elim (j.valid is) [ inl v ↦ absurd v.1 | inr m ↦ absurd m ]),
          not_true (is_nominated p) (λ is. elim (j.asked is) [ inl v ↦ absurd v.1 | inr m ↦ absurd m ]),
          no_check p.checks j.checks,
        )
      ]

  no_clear : {A : Type 0} (call : Call P) (error : IceError) → e ≡ quiet (Rejected error) → clears call e.answer ≡ true → is_clearing call ≡ true → A
  no_clear call error is clear clearing =
      absurd (let no : false ≡ true = sym (ap (λ (x : Entry). clears call x.answer) is ∙ ap (λ b. if b then false else false) clearing) ∙ clear in cc)

  pub clears_pairs : (call : Call P) → Step mac answers old s call e new t → clears call e.answer ≡ true → (p : PairRecord) → Has new.pairs p → IsNewPair p
  clears_pairs (RestartIce creds keep) (Ok _, is, (short, made), drawn) clear p has = absurd (subst (λ (a : AgentRecord H P). Has a.pairs p) made has)
  clears_pairs (RestartIce creds keep) (Err error, is, h, drawn) clear p has = no_clear (RestartIce creds keep) error is clear refl
  clears_pairs RecreateCandidatePairs (Ok _, is, h, drawn) clear p has = recreated h p has
  clears_pairs RecreateCandidatePairs (Err error, is, h, drawn) clear p has = no_clear RecreateCandidatePairs error is clear refl
  clears_pairs call h clear p has = absurd (let no : false ≡ true = clear in cc)

  pub clears_quiet : (call : Call P) → Step mac answers old s call e new t → clears call e.answer ≡ true → e.emitted ≡ nothing_emitted
  clears_quiet (RestartIce creds keep) h clear = (silent mac answers old new s t e (RestartIce creds keep) refl refl h).emitted
  clears_quiet RecreateCandidatePairs h clear = (silent mac answers old new s t e RecreateCandidatePairs refl refl h).emitted
  clears_quiet call h clear = absurd (let no : false ≡ true = clear in cc)
