-- What a side selected last, by its own log: that of the controlling side is what it nominated last. The preconditions that
-- mutants/specifications changes are read by tactics where they are used: if one of them is weaker, that goal stays unproved.
use Rattle.is_theorems.specs.Logs as agent_log
use Rattle.is_rules.specs.Steps as agent
use Rattle.is.specs.World as world
use Rattle.is.proofs.Common.{[], ◌++◌, ◌∙◌, ◌∷◌, ◌≡◌, A, acts, Answer, ap, append_assoc, AreNominatedOn, at, B, Bool, CandidateRecord}
use Rattle.is.proofs.Common.{clears, Entry, Event, false, HandedCheck, Happens, Has, if◌then◌else◌, in_world, InFlightRecord, inl, inr}
use Rattle.is.proofs.Common.{IsNewlyCreated, KeepsSelected, last_of, last_selected, List, map, MatchBool, NominatedAreLast, None}
use Rattle.is.proofs.Common.{Occurrence, only, Option, option_or, other, Outcome, own_at, own_log, Packet, Path, PathTheorem, Persists}
use Rattle.is.proofs.Common.{polled_as, received_as, refl, Rejected, selected_along, Side, slice_get, Some, Streams, subst, sym, TakesTurn}
use Rattle.is.proofs.Common.{true, via_out, WorldRecord, ℕ}
use Rattle.is.proofs.ExternalViews.ViewsOfExecutions.{AreSound}
use Rattle.is.proofs.TwoAgentEvents.OwnExecutions.{execution_on, only_none}
use Rattle.is.proofs.TwoAgentEvents.EventsOfSegments.{Follow, meet, acts_at, own, own_execution, checked}
use Rattle.is.proofs.TwoAgentEvents.OwnLogs.{AtMostOne, acts_once}

-- ---- the path that was selected last

selected_both : {P : Type 0} (path : Option Path) (xs ys : List (agent.Call P × Entry)) → selected_along path (xs ++ ys) ≡ selected_along (selected_along path xs) ys
selected_both path [] ys = refl
selected_both path (x ∷ xs) ys = selected_both (option_or (last_of x.1.emitted.selected_paths) (if clears x.0 x.1.answer then None else path)) xs ys

selected_once : {P : Type 0} (n : ℕ) (xs : List (agent.Call P × Entry)) (log : List (agent_log.Logged P)) → AtMostOne xs
    → last_selected (map (λ (y : agent.Call P × Entry). record { number = n; call = y.0; entry = y.1 }) xs ++ log) ≡ selected_along (last_selected log) xs
selected_once n [] log one = refl
selected_once n (x ∷ []) log one = refl
selected_once n (x ∷ y ∷ rest) log one = absurd one

only_same : {X : Type 0} (side : Side) (xs : List X) → only side side xs ≡ xs
only_same A xs = refl
only_same B xs = refl

only_other : {X : Type 0} (side : Side) (xs : List X) → only (other side) side xs ≡ []
only_other A xs = refl
only_other B xs = refl

-- if nothing is selected nor cleared, the path that was selected last is the same
selected_still : {P : Type 0} (path : Option Path) (c : agent.Call P) (e : Entry) → last_of e.emitted.selected_paths ≡ None → clears c e.answer ≡ false
    → selected_along path ((c, e) ∷ []) ≡ path
selected_still path c e none kept =
    ap (λ o. option_or o (if clears c e.answer then None else path)) none ∙ ap (λ b. if b then None else path) kept

module _ {H P : Type 0} (mac : H → List ℕ → List ℕ → List ℕ) (answers : P → CandidateRecord → ℕ → ℕ → Type 0) where
  own_both : (side : Side) (xs ys : List (Occurrence H P)) → own mac answers side (xs ++ ys) ≡ own mac answers side xs ++ own mac answers side ys
  own_both side [] ys = refl
  own_both side (x ∷ xs) ys =
      ap (λ zs. acts_at mac answers side x ++ zs) (own_both side xs ys) ∙ sym (append_assoc (acts_at mac answers side x) (own mac answers side xs) (own mac answers side ys))

  -- the log of a side is that of its calls
  selected_own : (side : Side) (xs : List (Occurrence H P)) (log : List (agent_log.Logged P))
      → last_selected (own_log side log xs) ≡ selected_along (last_selected log) (own mac answers side xs)
  selected_own side [] log = refl
  selected_own side (x ∷ rest) log =
      selected_own side rest (own_at side x ++ log)
      ∙ (ap (λ o. selected_along o (own mac answers side rest))
      (selected_once x.entry.number (acts_at mac answers side x) log (acts_once side x.before x.entry.event x.entry.outcome.entry))
      ∙ sym (selected_both (last_selected log) (acts_at mac answers side x) (own mac answers side rest)))

  -- a `handle_timeout` call is one of its side
  called_is : (side : Side) (x : Occurrence H P) (now : ℕ) → x.entry.event ≡ world.Call side (agent.HandleTimeout now)
      → acts_at mac answers side x ≡ (agent.HandleTimeout now, x.entry.outcome.entry) ∷ []
  called_is side x now is =
      subst (λ (v : Event P). acts side x.before v x.entry.outcome.entry ≡ (agent.HandleTimeout now, x.entry.outcome.entry) ∷ []) (sym is)
      (only_same side ((agent.HandleTimeout now, x.entry.outcome.entry) ∷ []))

  pub called_not : (side : Side) (x : Occurrence H P) (now : ℕ) → x.entry.event ≡ world.Call side (agent.HandleTimeout now) → acts_at mac answers (other side) x ≡ []
  called_not side x now is =
      subst (λ (v : Event P). acts (other side) x.before v x.entry.outcome.entry ≡ []) (sym is)
      (only_other side ((agent.HandleTimeout now, x.entry.outcome.entry) ∷ []))

  -- the log of a side, part by part
  pub selected_parts : (side : Side) (before part : List (Occurrence H P)) (timeout : Occurrence H P)
      → last_selected (own_log side [] (before ++ (part ++ timeout ∷ [])))
      ≡ selected_along (selected_along (selected_along None (own mac answers side before)) (own mac answers side part)) (acts_at mac answers side timeout)
  selected_parts side before part timeout =
      let start : Option Path = selected_along None (own mac answers side before) in
      let near : Option Path = selected_along start (own mac answers side part) in
      selected_own side (before ++ (part ++ timeout ∷ [])) []
      ∙ (ap (λ ys. selected_along None ys) (own_both side before (part ++ timeout ∷ []))
      ∙ (selected_both None (own mac answers side before) (own mac answers side (part ++ timeout ∷ []))
      ∙ (ap (λ ys. selected_along start ys) (own_both side part (timeout ∷ []))
      ∙ (selected_both start (own mac answers side part) (own mac answers side (timeout ∷ []))
      ∙ selected_both near (acts_at mac answers side timeout) []))))

  -- if the last entry is a `handle_timeout` call of the side
  pub selected_call : (side : Side) (before part : List (Occurrence H P)) (timeout : Occurrence H P) (now : ℕ) → timeout.entry.event ≡ world.Call side (agent.HandleTimeout now)
      → last_selected (own_log side [] (before ++ (part ++ timeout ∷ [])))
      ≡ selected_along None (own mac answers side before ++ (own mac answers side part ++ (agent.HandleTimeout now, timeout.entry.outcome.entry) ∷ []))
  selected_call side before part timeout now comes =
      let earlier : List (agent.Call P × Entry) = own mac answers side before in
      let here : List (agent.Call P × Entry) = own mac answers side part in
      let call : agent.Call P × Entry = (agent.HandleTimeout now, timeout.entry.outcome.entry) in
      selected_parts side before part timeout
      ∙ (ap (λ xs. selected_along (selected_along (selected_along None earlier) here) xs) (called_is side timeout now comes)
      ∙ (sym (selected_both (selected_along None earlier) here (call ∷ [])) ∙ sym (selected_both None earlier (here ++ call ∷ []))))

  -- ---- the controlling side selects no path

  still_reversed : (side z : Side) (w w' : WorldRecord H P) (s t : Streams) (c : agent.Call P) (e : Outcome) (path : Option Path) → TakesTurn mac answers w s z c e w' t
      → (e.side ≡ Some side → (last_of e.entry.emitted.selected_paths ≡ None) × (e.clear ≡ false))
      → selected_along path (only side z ((c, e.entry) ∷ [])) ≡ path
  still_reversed side z w w' s t c e path k keeps = by side z k.side_is keeps where
    one : (last_of e.entry.emitted.selected_paths ≡ None) × (e.clear ≡ false) → selected_along path ((c, e.entry) ∷ []) ≡ path
    one (none, kept) = selected_still path c e.entry none (sym k.clear ∙ kept)

    by : (x y : Side) → e.side ≡ Some y → (e.side ≡ Some x → (last_of e.entry.emitted.selected_paths ≡ None) × (e.clear ≡ false))
        → selected_along path (only x y ((c, e.entry) ∷ [])) ≡ path
    by A A is still = one (still is)
    by B B is still = one (still is)
    by A B is still = refl
    by B A is still = refl

  still_none : (side z : Side) (path : Option Path) → selected_along {P = P} path (only side z []) ≡ path
  still_none side z path = ap (λ xs. selected_along {P = P} path xs) (only_none side z)

  still_polled : (side z : Side) (answer : Answer) (ps : List Packet) (path : Option Path) → selected_along {P = P} path (only side z (polled_as answer ps)) ≡ path
  still_polled side z (Rejected error) ps path = still_none side z path
  still_polled A A _ ps path = refl
  still_polled B B _ ps path = refl
  still_polled A B _ ps path = refl
  still_polled B A _ ps path = refl

  still_at : (side : Side) (w w' : WorldRecord H P) (s t : Streams) (v : Event P) (e : Outcome) (path : Option Path) → Happens mac answers w s v e w' t
      → (e.side ≡ Some side → (last_of e.entry.emitted.selected_paths ≡ None) × (e.clear ≡ false)) → selected_along path (acts side w v e.entry) ≡ path
  still_at side w w' s t (world.Call z c) e path h keeps = by (in_world c) h where
    by : (b : Bool) → MatchBool b (TakesTurn mac answers w s z c e w' t) (Persists mac answers w s agent.NotInWorld (Some z) e w' t)
        → selected_along {P = P} path (only side z (if b then (c, e.entry) ∷ [] else [])) ≡ path
    by true k = still_reversed side z w w' s t c e path k keeps
    by false k = still_none side z path
  still_at side w w' s t (world.Poll z) e path k keeps = still_polled side z e.entry.answer (at side w).packets path
  still_at side w w' s t (world.Deliver place now via) e path h keeps = by (slice_get w.network place) h where
    by : (o : Option InFlightRecord) → world.Delivers mac answers w s o now via e w' t → selected_along {P = P} path (received_as side now via e.entry o) ≡ path
    by None k = refl
    by (Some l) k = still_reversed side (other l.sender) w w' s t (agent.ReceivePacket now via l.packet.contents) e path k keeps
  still_at side w w' s t (world.Stray z now via bytes) e path h keeps = refl

  still_along : (side : Side) (xs : List (Occurrence H P)) (w last : WorldRecord H P) (path : Option Path) → Follow mac answers w xs last
      → ((x : Occurrence H P) → Has xs x → KeepsSelected side x) → selected_along path (own mac answers side xs) ≡ path
  still_along side [] w last path is keeps = refl
  still_along side (x ∷ rest) w last path (from, s, t, happens, more) keeps =
      selected_both path (acts_at mac answers side x) (own mac answers side rest)
      ∙ (ap (λ o. selected_along o (own mac answers side rest)) (still_at side x.before x.following s t x.entry.event x.entry.outcome path happens (λ is. search (keeps x (inl refl) is)))
      ∙ still_along side rest x.following last path more (λ y has. keeps y (inr has)))

  -- ---- the controlling side selected what it nominated last

  module _ (paths : PathTheorem {H = H} {P = P} mac answers) (nominates : NominatedAreLast {H = H} {P = P} mac answers) where
    pub nominated_selected : (from : Side) (its over : Path) (before part : List (Occurrence H P)) (first start last : WorldRecord H P) → IsNewlyCreated (at from first)
        → Follow mac answers first before start → AreSound start → Follow mac answers start part last → (k : HandedCheck mac from its over part)
        → (at from k.sent.following).renominates ≡ true → AreNominatedOn (at from k.sent.following) its → ((x : Occurrence H P) → Has k.following x → KeepsSelected from x)
        → selected_along (selected_along None (own mac answers from before)) (own mac answers from part) ≡ Some its
    nominated_selected from its over before part first start last new led sound follow k set nominated keeps =
        let c = checked mac answers paths from its over part start last k sound follow in
        let m = meet mac answers k.before k.following k.sent start last (subst (λ xs. Follow mac answers start xs last) k.split follow) in
        let earlier : List (agent.Call P × Entry) = own mac answers from before in
        let up_to : List (agent.Call P × Entry) = own mac answers from k.before in
        let call : agent.Call P × Entry = (agent.HandleTimeout k.now, k.sent.entry.outcome.entry) in
        let named : AreNominatedOn (at from k.sent.following) (via_out k.check) = subst (λ w. AreNominatedOn (at from k.sent.following) w) (sym k.on) nominated in
        let is : selected_along None ((earlier ++ up_to) ++ call ∷ []) ≡ Some (via_out k.check) =
        nominates (at from first) (at from k.sent.before) (at from k.sent.following) (earlier ++ up_to) c.s c.t k.now k.sent.entry.outcome.entry k.check k.id new
        (execution_on mac answers earlier up_to (at from first) (at from start) (at from k.sent.before) (own_execution mac answers from before first start led)
        (own_execution mac answers from k.before start k.sent.before m.led)) c.step k.sends set named in
        let reached : selected_along (selected_along (selected_along None earlier) up_to) (call ∷ []) ≡ Some its =
        ap (λ o. selected_along o (call ∷ [])) (sym (selected_both None earlier up_to)) ∙ (sym (selected_both None (earlier ++ up_to) (call ∷ [])) ∙ (is ∙ ap Some k.on)) in
        ap (λ xs. selected_along (selected_along None earlier) (own mac answers from xs)) k.split
        ∙ (ap (λ ys. selected_along (selected_along None earlier) ys) (own_both from k.before (k.sent ∷ k.following))
        ∙ (selected_both (selected_along None earlier) up_to (own mac answers from (k.sent ∷ k.following))
        ∙ (selected_both (selected_along (selected_along None earlier) up_to) (acts_at mac answers from k.sent) (own mac answers from k.following)
        ∙ (still_along from k.following k.sent.following last (selected_along (selected_along (selected_along None earlier) up_to) (acts_at mac answers from k.sent)) c.onward keeps
        ∙ (ap (λ ys. selected_along (selected_along (selected_along None earlier) up_to) ys) (called_is from k.sent k.now k.timeout) ∙ reached)))))
