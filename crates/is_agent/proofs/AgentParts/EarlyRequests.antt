-- The first early request, those that remain, and the call that serves one are as in the model.
use Rattle.std.proofs.Common.{◌≡◌, ℕ, Bool, true, false, List, [], ◌∷◌, map, length, drop, take_while, slice_get, Option, Some, None, IsSome, IsSomeAnd, IfSome, IsErrAnd, IfErr, MatchOption, MatchBool, Result, Ok, Err, ◌≤◌, subst, refl, sym, ap, ◌∙◌, inl, inr, zero, suc, arith, cond, ◌++◌, if◌then◌else◌}
use Rattle.std.proofs.lemmas.List.Sums.{take_while-cons}
use Rattle.std.proofs.lemmas.Option.{slice_get_cases}
use Rattle.is_proto.specs.Lists.{head}
use Rattle.is_stun.specs.declared.timing.StunTiming.{StunTiming}
use Rattle.is_rules.specs.declared.credentials.IceCreds.{IceCreds}
use Rattle.is_rules.specs.declared.request.Waiting.{Waiting as Waiter}
use Rattle.is_rules.specs.Request.{RequestRecord}
use Rattle.is_rules.specs.RequestView.{waiting_view}
use Rattle.is_rules.specs.Agent.{AgentRecord}
use Rattle.is_rules.specs.Queue.{is_outdated, queue_left, next_request, first_taken, request_at}
use Rattle.is_rules.specs.States.{same_state}
use Rattle.is_rules.specs.StateUpdates as updates
use Rattle.is_rules.specs.declared.event.IceAgentEvent.TheVariants.{IceRestart}
use Rattle.is_rules.specs.declared.event.IceConnectionState.TheVariants.{New}
use Rattle.is_rules.specs.TimeoutStart.{with_start, start_event, outdated}
use Rattle.is_rules.specs.Timeouts.{at_request, timeout_begun, start_emitted, MayFailAtTimeout}
use Rattle.is_rules.specs.declared.serving.Places.{Places}
use Rattle.is_rules.specs.declared.serving.Supplies.{Supplies}
use Rattle.is_agent.specs.Ready.{IsPlan}
use Rattle.is_rules.specs.Places.{local_place}
use Rattle.is_rules.specs.Serving.{lacks_number, AlwaysLacksNumber, MayFailAtRequest}
use Rattle.is_proto.specs.declared.error.IceError.{IceError}
use Rattle.is_proto.specs.declared.error.IceError.TheVariants.{BadCandidate, OutOfMemory, PairIdsExhausted, MtuTooSmall, CredentialsTooLong, PriorityTooHigh, LiteStaysControlled}

-- as many models pass at the front
pub front-views : {X Y : Type 0} (view : X → Y) (test : Y → Bool) (xs : List X) → length (take_while (λ x. test (view x)) xs) ≡ length (take_while test (map view xs))
front-views view test [] = refl
front-views view test (x ∷ xs) =
    rw (take_while-cons, take_while-cons)
    (elim (test (view x)) as (λ b. length (cond b (x ∷ take_while (λ y. test (view y)) xs) []) ≡ length (cond b (view x ∷ take_while test (map view xs)) [])) [
      | true ↦ ap suc (front-views view test xs)
      | false ↦ refl
    ])

pub head-following : {X : Type 0} (xs : List X) (k : ℕ) → head (drop k xs) ≡ slice_get xs k
head-following [] zero = refl
head-following [] (suc k) = refl
head-following (x ∷ xs) zero = refl
head-following (x ∷ xs) (suc k) = head-following xs k

pub not-some : {X : Type 0} (o : Option X) → o ≡ None → IsSome o → ⊥
not-some None is some = absurd (cc)
not-some (Some x) is some = absurd (cc)

pub none-following : {X : Type 0} (xs : List X) (k : ℕ) → length xs ≤ k → slice_get xs k ≡ None
none-following xs k beyond = elim (slice_get_cases xs k).1 [ inl there ↦ absurd (omega arith) | inr none ↦ none.1 ]

-- what holds of the request at one place holds where it is found
pub found-there : {X : Type 0} (o there : Option X) (A E : Type 0) (P Q : X → Type 0) → o ≡ there → IsSomeAnd o Q → IfSome o P → E → MatchOption there A (λ x. P x × E)
found-there None there A E P Q is some p e = absurd some
found-there (Some x) there A E P Q is some p e = subst (λ o. MatchOption o A (λ x. P x × E)) is (p, e)

-- the error of a call is this one
pub err-as : {X : Type 0} (r : Result X IceError) (P : IceError → Type 0) (e : IceError) → IsErrAnd r (λ x. x ≡ e) → P e → IfErr r P
err-as (Ok x) P e is p = absurd is
err-as (Err x) P e is p = subst P (sym is) p

-- a planned request does not lack a number
planned-numbers : {H P : Type 0} (a : AgentRecord H P) (q : RequestRecord) (plan : Option (Places × Supplies)) → IsPlan a q plan → ¬ AlwaysLacksNumber a q
planned-numbers a q None plan lacks =
    let (at, chosen, without) = lacks.0 in
    let none : local_place a.local q ≡ None = subst (λ b. MatchBool b (Unit {0}) (local_place a.local q ≡ None)) chosen.0 plan in
    let some : Some at.local ≡ None = sym chosen.1 ∙ none in
    absurd (cc)
planned-numbers a q (Some plan) is lacks =
    let all : lacks_number a q plan.0 ≡ true = lacks.1 plan.0 is.0 in
    let left : lacks_number a q plan.0 ≡ false = is.1 in
    absurd (cc)

-- a list that is its own tail
pub own-tail : {X : Type 0} (xs : List X) → xs ≡ drop 1 xs → xs ≡ []
own-tail [] h = refl
own-tail (x ∷ xs) h = let more : suc (length xs) ≡ length xs = ap length h in absurd (omega arith)

module _ {H P : Type 0} where
  pub outdated-left : (now : ℕ) (t : StunTiming) (creds : Option IceCreds) (a : AgentRecord H P) → drop (outdated now t creds a) a.queue ≡ queue_left now t creds a.queue
  outdated-left now t None a = refl
  outdated-left now t (Some peer) a = refl

  -- the start is emitted only in New
  pub start-emitted : (a : AgentRecord H P) → with_start (start_event a.state a.local_creds) a.events ≡ (start_emitted a).events
  start-emitted a = emitted (same_state a.state New) where
    emitted : (b : Bool) → with_start (if b then Some (IceRestart a.local_creds) else None) a.events ≡ (if b then a.events ++ IceRestart a.local_creds ∷ [] else a.events)
    emitted true = refl
    emitted false = refl

  -- after New it is not emitted again
  pub started : (a : AgentRecord H P) → same_state a.state New ≡ false → start_emitted a ≡ a
  started a following = rw (following) refl

  -- the state after the start of a call
  pub begun : (now : ℕ) (a mid : AgentRecord H P) (queue : List RequestRecord) (many : ℕ) → mid ≡ updates.started now (start_emitted a) → queue ≡ drop many a.queue
      → many ≡ outdated now a.timing a.remote_creds a → record mid { queue = queue } ≡ timeout_begun now a
  begun now a mid queue many m q is = rw (m, q, is, outdated-left now a.timing a.remote_creds a) refl

  -- as many early requests are outdated as models of the front
  pub counted : (now : ℕ) (a : AgentRecord H P) (items : List Waiter) (k : ℕ) → a.queue ≡ map waiting_view items → IsSome a.remote_creds
      → k ≡ length (take_while (λ q. is_outdated now a.timing (waiting_view q)) items) → k ≡ outdated now a.timing a.remote_creds a
  counted now a items k views known many = counts a.remote_creds known where
    counts : (creds : Option IceCreds) → IsSome creds → k ≡ outdated now a.timing creds a
    counts None known = absurd (cc)
    counts (Some peer) known = rw (views) (many ∙ front-views waiting_view (is_outdated now a.timing) items)

  -- the request after the outdated ones is the one that the call serves
  pub left-at : (now : ℕ) (a : AgentRecord H P) (k : ℕ) → IsSome a.remote_creds → k ≡ outdated now a.timing a.remote_creds a → slice_get a.queue k ≡ request_at now a
  left-at now a k known many = lefts a.remote_creds known many where
    lefts : (creds : Option IceCreds) → IsSome creds → k ≡ outdated now a.timing creds a → slice_get a.queue k ≡ next_request creds (queue_left now a.timing creds a.queue)
    lefts None known many = absurd (cc)
    lefts (Some peer) known many = rw (many) (sym (head-following a.queue (length (take_while (is_outdated now a.timing) a.queue))))

  -- what is left in the queue begins with that request
  pub first-left : (now : ℕ) (a : AgentRecord H P) (items : List Waiter) (k : ℕ) → map waiting_view items ≡ (timeout_begun now a).queue
      → k ≡ outdated now a.timing a.remote_creds a → head (map waiting_view items) ≡ slice_get a.queue k
  first-left now a items k views many =
      ap head (views ∙ sym (outdated-left now a.timing a.remote_creds a)) ∙ head-following a.queue (outdated now a.timing a.remote_creds a) ∙ ap (slice_get a.queue) (sym many)

  -- this removal changes nothing that an error depends on
  pub rejected-timeout_begun : (now : ℕ) (a : AgentRecord H P) (q : RequestRecord) (error : IceError) → MayFailAtRequest a q error → MayFailAtRequest (first_taken (timeout_begun now a)) q error
  rejected-timeout_begun now a q PairIdsExhausted may = may
  rejected-timeout_begun now a q OutOfMemory may = may
  rejected-timeout_begun now a q (BadCandidate message) may = may
  rejected-timeout_begun now a q MtuTooSmall may = may
  rejected-timeout_begun now a q CredentialsTooLong may = may
  rejected-timeout_begun now a q PriorityTooHigh may = may
  rejected-timeout_begun now a q LiteStaysControlled may = may

  -- nor anything that a plan depends on
  pub planned-still : (now : ℕ) (a : AgentRecord H P) (q : RequestRecord) (plan : Option (Places × Supplies)) → IsPlan a q plan
      → IsPlan (first_taken (at_request now (timeout_begun now a))) q plan
  planned-still now a q None is = is
  planned-still now a q (Some plan) is = is

  -- why the call that serves this request fails
  pub rejected-late : (now : ℕ) (a : AgentRecord H P) (o : Option RequestRecord) (error : IceError) → o ≡ request_at now a
      → IsSomeAnd o (λ q. MayFailAtRequest a q error) → MayFailAtTimeout now a error
  rejected-late now a None error is may = absurd may
  rejected-late now a (Some q) error is may = rw (← is) (rejected-timeout_begun now a q error may)

  -- once it is planned, only for an allocation failure
  pub planned-late : (now : ℕ) (a : AgentRecord H P) (o : Option RequestRecord) (plan : Option (Places × Supplies)) → o ≡ request_at now a
      → IsSomeAnd o (λ q. IsPlan a q plan) → MayFailAtTimeout now a OutOfMemory
  planned-late now a None plan is planned = absurd planned
  planned-late now a (Some q) plan is planned = rw (← is) (rejected-timeout_begun now a q OutOfMemory (planned-numbers a q plan planned))
