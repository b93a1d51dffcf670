-- One delivered check, and its 487 if there is one, make roles opposite. The preconditions that mutants/specifications changes
-- are read by tactics where they are used: if one of them is weaker, that goal stays unproved.
use Rattle.is_theorems.specs.Conflicts.{AreSentUnder, ServesPastTests, handing}
use Rattle.is_rules.specs.Steps as agent
use Rattle.is.specs.Connects.{AgreeOnRoles}
use Rattle.is.specs.Meetings.{AreOpposite, StayOpposite, RolesMeet}
use Rattle.is.proofs.Common.{[], ◌++◌, ◌<◌, ◌∙◌, ◌∷◌, ◌≡◌, ◌≢◌, ◌⊎◌, A, ap, append-nil, append_assoc, arith, at, B, Bool, CandidateRecord}
use Rattle.is.proofs.Common.{CarriedResolve, EndsAlong, Event, Failure, false, FreshIsSound, HandedCheck, Hands, Happens, Has, inl, inr}
use Rattle.is.proofs.Common.{IsConflictCarried, IsFairWorld, IsRejectedBy, IsReturned, IsReturnedInTime, keeps_role, List, LoggedEvent}
use Rattle.is.proofs.Common.{Makes, map, Meets, not, Occurrence, occurrences_in, other, Packet, Path, PathTheorem, refl, role_in}
use Rattle.is.proofs.Common.{RoleTheorem, Sends, Side, state_after, Streams, subst, suc, sym, true, via_out, WorldRecord, WorldRun, ℕ}
use Rattle.is.proofs.TwoAgentEvents.DeliveredPackets.{rewritten}
use Rattle.is.proofs.TwoAgentEvents.EventsOfSegments.{Follow, follows, cut, state_is, meet, own, Checked, checked, Awaited, awaits, removed}
use Rattle.is.proofs.TwoAgentEvents.ExchangedChecks.{sent-check, carried-check, carried-back}
use Rattle.is.proofs.ExternalViews.ViewsOfExecutions.{seen_of, emitted_at, AreSound, BothCompare, event, none_keeps, compares_on}
use Rattle.is.proofs.TwoAgentEvents.OwnExecutions.{twice, role_after}
use Rattle.is.proofs.ExternalViews.NetworkModel as seen
use Rattle.is.proofs.ExternalViews.NetworkModel.{Seen, Happening, Compares, AllCompare, emitted_of}
use Rattle.is.proofs.ExternalViews.ImpliedByTheLog.{sides}
use Rattle.is.proofs.ExternalViews.PreservedByEvents.{reaches, event_apart}
use Rattle.is.proofs.RolesAndChains.RolesAndChainsOfViews.{LeaveAll, how_of, leaves_all, preconditions_seen, sound_first, role_of, met_seen}
use Rattle.is.proofs.RolesAndChains.RolesAndChainsOfViews.{map-append, compares_first}

run_on : (first mid last : Seen) (log : List Happening) (x : Happening) → seen.Run first log mid → seen.Happens mid x.kind x.emitted last → seen.Run first (log ++ x ∷ []) last
run_on first mid last [] x is happens = (last, subst (λ (v : Seen). seen.Happens v x.kind x.emitted last) is happens, refl)
run_on first mid last (y ∷ log) x (next, there, more) happens = (next, there, run_on next mid last log x more happens)

all_compare_on : (log : List Happening) (x : Happening) → AllCompare log → Compares x.kind → AllCompare (log ++ x ∷ [])
all_compare_on [] x all now = (now, tt)
all_compare_on (y ∷ log) x all now = (all.0, all_compare_on log x all.1 now)

one_or_other : (b c : Bool) → (b ≡ c) ⊎ (b ≡ not c)
one_or_other true true = inl refl
one_or_other true false = inr refl
one_or_other false true = inr refl
one_or_other false false = inl refl

not_same : (b : Bool) → not b ≡ b → ⊥
not_same true h = cc
not_same false h = cc

module _ {H P : Type 0} where
  abbrev entries : List (Occurrence H P) → List (LoggedEvent P)
  entries xs = map (λ (x : Occurrence H P). x.entry) xs

  -- one agent is controlling, and the other is not
  abbrev Apart : WorldRecord H P → Type 0
  Apart w = w.a.controlling ≢ w.b.controlling

  apart_if : (side : Side) (w : WorldRecord H P) → (at (other side) w).controlling ≡ not (at side w).controlling → Apart w
  apart_if A w is both = not_same w.a.controlling (sym is ∙ sym both)
  apart_if B w is both = not_same w.b.controlling (sym is ∙ both)

  apart_of : (side : Side) (w : WorldRecord H P) → Apart w → (at (other side) w).controlling ≡ not (at side w).controlling
  apart_of A w apart = elim (one_or_other w.b.controlling w.a.controlling) [ inl same ↦ absurd (apart (sym same)) | inr is ↦ is ]
  apart_of B w apart = elim (one_or_other w.a.controlling w.b.controlling) [ inl same ↦ absurd (apart same) | inr is ↦ is ]

  tie_of : (side : Side) (w : WorldRecord H P) → (seen.at side (seen_of w)).tie_breaker ≡ (at side w).tie_breaker
  tie_of A w = refl
  tie_of B w = refl

  -- the event delivers the packet to the side
  handed_makes : (side : Side) (via : Path) (packet : Packet) (w : WorldRecord H P) (x : LoggedEvent P) → (h : Hands side via packet w x)
      → Makes w x.event side (agent.ReceivePacket h.now via packet.contents)
  handed_makes side via packet w x h = subst (λ (v : Event P). Makes w v side (agent.ReceivePacket h.now via packet.contents)) (sym h.event) (record { sender = other side; packet = packet }, h.sent, twice side, refl)

  module _ (first : WorldRecord H P) (greater : Side) (how : Side → Bool) where
    -- a network model that an execution leads to, with the entries of the log that are left
    record Comes (w : WorldRecord H P) (left : List (LoggedEvent P)) : Type 0 where
      front : List Happening
      led : seen.Run (seen_of first) front (seen_of w)
      fair : seen.Preconditions (seen_of first) greater (emitted_of front ++ map emitted_at left)
      compared : AllCompare front
      sound : AreSound w
      compares : BothCompare how w
      leaves : LeaveAll how left

    role_kept : (w : WorldRecord H P) (left : List (LoggedEvent P)) → Comes w left → (at greater w).controlling ≡ (at greater first).controlling
    role_kept w left k = sym (role_of greater w) ∙ (reaches (seen_of first) (seen_of w) k.front (map emitted_at left) greater k.fair k.compared k.led).role ∙ role_of greater first

    tie_kept : (w : WorldRecord H P) (left : List (LoggedEvent P)) (side : Side) → Comes w left → (at side w).tie_breaker ≡ (at side first).tie_breaker
    tie_kept w left side k = sym (tie_of side w) ∙ (reaches (seen_of first) (seen_of w) k.front (map emitted_at left) greater k.fair k.compared k.led).tie side ∙ tie_of side first

    module _ (mac : H → List ℕ → List ℕ → List ℕ) (answers : P → CandidateRecord → ℕ → ℕ → Type 0) (paths : PathTheorem {H = H} {P = P} mac answers) (roles : RoleTheorem {H = H} {P = P} mac answers) where
      -- ---- one event

      comes_on : (w w' : WorldRecord H P) (s t : Streams) (x : LoggedEvent P) (left : List (LoggedEvent P)) → Comes w (x ∷ left) → Happens mac answers w s x.event x.outcome w' t → Comes w' left
      comes_on w w' s t x left k happens =
          let c = event mac answers paths roles w w' s t x k.sound happens in
          let h : Happening = record { kind = c.kind; emitted = emitted_at x } in record {
            front = k.front ++ h ∷ [];
            led = run_on (seen_of first) (seen_of w) (seen_of w') k.front h k.led c.happens;
            fair = subst (λ es. seen.Preconditions (seen_of first) greater es)
                (sym (ap (λ es. es ++ map emitted_at left) (map-append (λ (y : Happening). y.emitted) k.front (h ∷ [])) ∙ append_assoc (emitted_of k.front) (emitted_at x ∷ []) (map emitted_at left))) k.fair;
            compared = all_compare_on k.front h k.compared (c.compares (none_keeps how w k.compares));
            sound = c.sound;
            compares = compares_on mac answers paths roles how w w' s t x k.sound k.compares (λ side. (let l = k.leaves side in l.0)) happens;
            leaves = λ side. (let l = k.leaves side in l.1);
          }

      apart_on : (w w' : WorldRecord H P) (s t : Streams) (x : LoggedEvent P) (left : List (LoggedEvent P)) → Comes w (x ∷ left) → Happens mac answers w s x.event x.outcome w' t → Apart w → Apart w'
      apart_on w w' s t x left k happens differs =
          let c = event mac answers paths roles w w' s t x k.sound happens in
          event_apart (seen_of first) (seen_of w) (seen_of w') k.front (map emitted_at left) c.kind (emitted_at x) greater k.fair k.compared (c.compares (none_keeps how w k.compares))
          k.led c.happens (inr differs)

      met_on : (w w' : WorldRecord H P) (s t : Streams) (x : LoggedEvent P) (left : List (LoggedEvent P)) → Comes w (x ∷ left) → Happens mac answers w s x.event x.outcome w' t → Meets (other greater) w x → Apart w'
      met_on w w' s t x left k happens (c, makes, met) =
          let e = event mac answers paths roles w w' s t x k.sound happens in
          event_apart (seen_of first) (seen_of w) (seen_of w') k.front (map emitted_at left) e.kind (emitted_at x) greater k.fair k.compared (e.compares (none_keeps how w k.compares))
          k.led e.happens
          (inl (met_seen (other greater) w c x.outcome.entry e.kind (e.made (other greater) c makes) met))

      -- ---- events

      comes_first : (x : Occurrence H P) (left : List (LoggedEvent P)) (w : WorldRecord H P) → x.before ≡ w → Comes w (x.entry ∷ left) → Comes x.before (x.entry ∷ left)
      comes_first x left w from k = subst (λ (v : WorldRecord H P). Comes v (x.entry ∷ left)) (sym from) k

      comes_at : (xs ys : List (Occurrence H P)) (x : Occurrence H P) (left : List (LoggedEvent P)) (w last : WorldRecord H P) → Comes w (entries (xs ++ x ∷ ys) ++ left)
          → Follow mac answers w (xs ++ x ∷ ys) last → Comes x.before (x.entry ∷ (entries ys ++ left))
      comes_at [] ys x left w last k (from, s, t, happens, more) = comes_first x (entries ys ++ left) w from k
      comes_at (y ∷ xs) ys x left w last k (from, s, t, happens, more) =
          comes_at xs ys x left y.following last
          (comes_on y.before y.following s t y.entry (entries (xs ++ x ∷ ys) ++ left) (comes_first y (entries (xs ++ x ∷ ys) ++ left) w from k) happens) more

      comes_after : (xs : List (Occurrence H P)) (left : List (LoggedEvent P)) (w last : WorldRecord H P) → Comes w (entries xs ++ left) → Follow mac answers w xs last → Comes last left
      comes_after [] left w last k is = subst (λ (v : WorldRecord H P). Comes v left) (sym is) k
      comes_after (x ∷ xs) left w last k (from, s, t, happens, more) =
          comes_after xs left x.following last (comes_on x.before x.following s t x.entry (entries xs ++ left) (comes_first x (entries xs ++ left) w from k) happens) more

      apart_along : (xs : List (Occurrence H P)) (left : List (LoggedEvent P)) (w last : WorldRecord H P) → Comes w (entries xs ++ left) → Follow mac answers w xs last → Apart w
          → Apart last × ((x : Occurrence H P) → Has xs x → StayOpposite x)
      apart_along [] left w last k is differs = (subst (λ (v : WorldRecord H P). Apart v) (sym is) differs, λ x none. absurd none)
      apart_along (x ∷ xs) left w last k (from, s, t, happens, more) differs =
          let k_x = comes_first x (entries xs ++ left) w from k in
          let here : Apart x.before = subst (λ (v : WorldRecord H P). Apart v) (sym from) differs in
          let now : Apart x.following = apart_on x.before x.following s t x.entry (entries xs ++ left) k_x happens here in
          let later = apart_along xs left x.following last (comes_on x.before x.following s t x.entry (entries xs ++ left) k_x happens) more now in
          let opposite : AreOpposite x.entry =
          λ both. now (role_after mac answers x.before x.following s t A x.entry (role_in A x.entry) happens refl ∙ both ∙ sym (role_after mac answers x.before x.following s t B x.entry (role_in B x.entry) happens refl)) in
          (later.0, λ y has. elim has [ inl is ↦ subst (λ (z : Occurrence H P). StayOpposite z) is (here, opposite) | inr h ↦ later.1 y h ])

      -- roles that are different after one of them are different after all
      apart_from : (xs ys : List (Occurrence H P)) (x : Occurrence H P) (left : List (LoggedEvent P)) (w last : WorldRecord H P) → Comes w (entries (xs ++ x ∷ ys) ++ left)
          → Follow mac answers w (xs ++ x ∷ ys) last
          → (Comes x.before (x.entry ∷ (entries ys ++ left)) → (s t : Streams) → Happens mac answers x.before s x.entry.event x.entry.outcome x.following t → Apart x.following) → Apart last
      apart_from xs ys x left w last k follow differs =
          let m = meet mac answers xs ys x w last follow in
          let k_x = comes_at xs ys x left w last k follow in
          (apart_along ys left x.following last (comes_on x.before x.following m.s m.t x.entry (entries ys ++ left) k_x m.happens) m.rest (differs k_x m.s m.t m.happens)).0

      -- ---- the roles of both, once they are different

      abbrev Settled : WorldRecord H P → Type 0
      Settled w = ((at greater w).controlling ≡ (at greater first).controlling) × ((at (other greater) w).controlling ≡ not (at greater first).controlling)

      settled : (w : WorldRecord H P) (left : List (LoggedEvent P)) → Comes w left → Apart w → Settled w
      settled w left k differs = let role = role_kept w left k in (role, apart_of greater w differs ∙ ap not role)

      settled_along : (xs : List (Occurrence H P)) (left : List (LoggedEvent P)) (w last : WorldRecord H P) → Comes w (entries xs ++ left) → Follow mac answers w xs last → Apart w
          → (x : Occurrence H P) → Has xs x → Settled x.before × Settled x.following
      settled_along [] left w last k is differs x has = absurd has
      settled_along (y ∷ xs) left w last k (from, s, t, happens, more) differs x has =
          let k_y = comes_first y (entries xs ++ left) w from k in
          let here : Apart y.before = subst (λ (v : WorldRecord H P). Apart v) (sym from) differs in
          let now : Apart y.following = apart_on y.before y.following s t y.entry (entries xs ++ left) k_y happens here in
          let next = comes_on y.before y.following s t y.entry (entries xs ++ left) k_y happens in
          elim has [
            | inl is ↦ subst (λ (z : Occurrence H P). Settled z.before × Settled z.following) is (settled y.before (y.entry ∷ (entries xs ++ left)) k_y here, settled y.following (entries xs ++ left) next now)
            | inr there ↦ settled_along xs left y.following last next more now x there
          ]

      -- so each agent keeps its role
      same_role : (side : Side) (v w : WorldRecord H P) → Settled v → Settled w → (at side v).controlling ≡ (at side w).controlling
      same_role side v w one two = elim (sides side greater) [
        | inl is ↦ subst (λ y. (at y v).controlling ≡ (at y w).controlling) (sym is) (one.0 ∙ sym two.0)
        | inr is ↦ subst (λ y. (at y v).controlling ≡ (at y w).controlling) (sym is) (one.1 ∙ sym two.1)
      ]

      -- ---- the check of a side, and its 487

      module _ (resolves : CarriedResolve {H = H} {P = P} mac answers) (side : Side) (path over : Path) (part : List (Occurrence H P)) (left : List (LoggedEvent P)) (last : WorldRecord H P)
          (less : (at (other greater) first).tie_breaker < (at greater first).tie_breaker) (from : Comes first (entries part ++ left)) (follow : Follow mac answers first part last)
          (k : HandedCheck mac side path over part) (c : Checked mac answers side path over part last k) where
        abbrev handed : Occurrence H P
        handed = k.comes.handed

        split_sent : part ≡ k.before ++ k.sent ∷ k.following
        split_sent = k.split

        split_handed : part ≡ (k.before ++ k.sent ∷ k.comes.between) ++ handed ∷ k.comes.rest
        split_handed = k.split ∙ (ap (λ xs. k.before ++ k.sent ∷ xs) k.comes.split ∙ sym (append_assoc k.before (k.sent ∷ k.comes.between) (handed ∷ k.comes.rest)))

        abbrev came : Packet
        came = rewritten over k.check

        comes_here : (xs ys : List (Occurrence H P)) (x : Occurrence H P) → part ≡ xs ++ x ∷ ys → Comes x.before (x.entry ∷ (entries ys ++ left))
        comes_here xs ys x split =
            comes_at xs ys x left first last (subst (λ zs. Comes first (entries zs ++ left)) split from) (subst (λ zs. Follow mac answers first zs last) split follow)

        -- an event after which the roles are different
        so : (xs ys : List (Occurrence H P)) (x : Occurrence H P) → part ≡ xs ++ x ∷ ys
            → (Comes x.before (x.entry ∷ (entries ys ++ left)) → (s t : Streams) → Happens mac answers x.before s x.entry.event x.entry.outcome x.following t → Apart x.following) → Apart last
        so xs ys x split differs =
            apart_from xs ys x left first last (subst (λ zs. Comes first (entries zs ++ left)) split from) (subst (λ zs. Follow mac answers first zs last) split follow) differs

        -- the 487 comes back to the agent with the lesser tie-breaker
        rejected : side ≡ other greater
            → (i : IsConflictCarried mac answers (sent-check mac answers side path over part last k c) (carried-check mac answers side path over part last k c))
            → IsReturnedInTime mac answers side path over part k i.rejection → Apart last
        rejected lesser i e = by (i.returns (carried-back mac answers side path over part last k c between i.rejection r z) free) where
          r : IsReturned mac side path over part k i.rejection
          r = e.returned

          again : Occurrence H P
          again = r.comes.handed

          between : List (Occurrence H P)
          between = k.comes.between ++ handed ∷ r.comes.between

          z : Awaited mac answers side path between over part last k i.rejection r
          z = awaits mac answers side path between over part last k i.rejection r c.onward (λ x has. has)

          split : part ≡ (k.before ++ k.sent ∷ between) ++ again ∷ r.comes.rest
          split =
              k.split ∙ (ap (λ xs. k.before ++ k.sent ∷ xs) (k.comes.split ∙ (ap (λ xs. k.comes.between ++ handed ∷ xs) r.comes.split
              ∙ sym (append_assoc k.comes.between (handed ∷ r.comes.between) (again ∷ r.comes.rest))))
              ∙ sym (append_assoc k.before (k.sent ∷ between) (again ∷ r.comes.rest)))

          -- it is no lite agent that keeps its role
          free : keeps_role (at side again.before) ≡ false
          free =
              let k_again = comes_here (k.before ++ k.sent ∷ between) r.comes.rest again split in
              none_keeps how again.before k_again.compares side

          by : (IsRejectedBy (at side again.before) (handing (rewritten r.via i.rejection) r.comes.hands.now) again.entry.outcome.entry (at side again.following)
              × (AreSentUnder (at side k.sent.before).controlling (at side again.before) k.id → (at side again.following).controlling ≡ not (at (other side) handed.before).controlling))
              ⊎ EndsAlong mac answers (own mac answers side between) (at side k.sent.following) (at side again.before) z.execution.0 (via_out k.check) → Apart last
          by (inl ((now, via, way, m, role, brings, failure, conflict, kept, gives), under)) =
              let met : Meets side again.before again.entry =
              (agent.ReceivePacket r.comes.hands.now r.via i.rejection.contents, handed_makes side r.via i.rejection again.before again.entry r.comes.hands, inr (now, via, m, brings, failure, conflict)) in
              so (k.before ++ k.sent ∷ between) r.comes.rest again split
              (λ k_x s t happens. met_on again.before again.following s t again.entry (entries r.comes.rest ++ left) k_x happens (subst (λ y. Meets y again.before again.entry) lesser met))
          by (inr ends) =
              let f = removed mac answers side path between over part last k i.rejection r z ends in
              absurd (let none : ⊥ = search (e.stays f.0 f.1 f.2) in none)

        -- equal roles when the check is sent
        alike : (at side k.sent.before).controlling ≡ (at greater first).controlling
            → ((error : Packet) → Sends (at (other side) handed.before) handed.entry.outcome.entry Failure k.id error (at (other side) handed.following) → IsReturnedInTime mac answers side path over part k error)
            → Apart last
        alike role back = by (sides side greater) where
          k_sent : Comes k.sent.before (k.sent.entry ∷ (entries k.following ++ left))
          k_sent = comes_here k.before k.following k.sent split_sent

          k_handed : Comes handed.before (handed.entry ∷ (entries k.comes.rest ++ left))
          k_handed = comes_here (k.before ++ k.sent ∷ k.comes.between) k.comes.rest handed split_handed

          there : ServesPastTests (at (other side) handed.before) (handing came k.comes.hands.now) handed.entry.outcome.entry
              × ((at (other side) handed.before).controlling ≡ (at side k.sent.before).controlling
              → (((at (other side) handed.before).tie_breaker < (at side k.sent.before).tie_breaker) × ((at (other side) handed.following).controlling ≡ not (at side k.sent.before).controlling))
              ⊎ IsConflictCarried mac answers (sent-check mac answers side path over part last k c) (carried-check mac answers side path over part last k c))
          there = resolves (sent-check mac answers side path over part last k c) (carried-check mac answers side path over part last k c)

          by : (side ≡ greater) ⊎ (side ≡ other greater) → Apart last
          by (inl is) =
              let met : Meets (other side) handed.before handed.entry =
              (agent.ReceivePacket k.comes.hands.now over k.check.contents, handed_makes (other side) over k.check handed.before handed.entry k.comes.hands, inl there.0) in
              so (k.before ++ k.sent ∷ k.comes.between) k.comes.rest handed split_handed
              (λ k_x s t happens. met_on handed.before handed.following s t handed.entry (entries k.comes.rest ++ left) k_x happens (subst (λ y. Meets (other y) handed.before handed.entry) is met))
          by (inr lesser) =
              let there_is : other side ≡ greater = ap other lesser ∙ twice greater in
              let same : (at (other side) handed.before).controlling ≡ (at side k.sent.before).controlling =
              subst (λ y. (at y handed.before).controlling ≡ (at side k.sent.before).controlling) (sym there_is)
              (role_kept handed.before (handed.entry ∷ (entries k.comes.rest ++ left)) k_handed ∙ sym role) in
              let tie_a : (at side k.sent.before).tie_breaker ≡ (at side first).tie_breaker = tie_kept k.sent.before (k.sent.entry ∷ (entries k.following ++ left)) side k_sent in
              let tie_b : (at (other side) handed.before).tie_breaker ≡ (at (other side) first).tie_breaker =
              tie_kept handed.before (handed.entry ∷ (entries k.comes.rest ++ left)) (other side) k_handed in
              let above : (at side first).tie_breaker < (at (other side) first).tie_breaker =
              subst (λ y. (at y first).tie_breaker < (at (other side) first).tie_breaker) (sym lesser)
              (subst (λ y. (at (other greater) first).tie_breaker < (at y first).tie_breaker) (sym there_is) less) in
              elim (there.1 same) [
                | inl (below, _) ↦ absurd (let none : ⊥ = omega (arith, below, above, tie_a, tie_b) in none)
                | inr i ↦ rejected lesser i (search (back i.rejection i.sends))
              ]

        -- in any roles
        differs : ((error : Packet) → Sends (at (other side) handed.before) handed.entry.outcome.entry Failure k.id error (at (other side) handed.following) → IsReturnedInTime mac answers side path over part k error)
            → Apart last
        differs back = by (one_or_other (at (other greater) start).controlling (at greater start).controlling) where
          start : WorldRecord H P
          start = k.sent.before

          role_greater : (at greater start).controlling ≡ (at greater first).controlling
          role_greater = role_kept start (k.sent.entry ∷ (entries k.following ++ left)) (comes_here k.before k.following k.sent split_sent)

          by : ((at (other greater) start).controlling ≡ (at greater start).controlling) ⊎ ((at (other greater) start).controlling ≡ not (at greater start).controlling) → Apart last
          by (inl same) = elim (sides side greater) [
            | inl is ↦ alike (subst (λ y. (at y start).controlling ≡ (at greater first).controlling) (sym is) role_greater) back
            | inr is ↦ alike (subst (λ y. (at y start).controlling ≡ (at greater first).controlling) (sym is) (same ∙ role_greater)) back
          ]
          by (inr apart) =
              so k.before k.following k.sent split_sent
              (λ k_x s t happens. apart_on start k.sent.following s t k.sent.entry (entries k.following ++ left) k_x happens (apart_if greater start apart))

module _ {H P : Type 0} (mac : H → List ℕ → List ℕ → List ℕ) (answers : P → CandidateRecord → ℕ → ℕ → Type 0) (paths : PathTheorem {H = H} {P = P} mac answers) (roles : RoleTheorem {H = H} {P = P} mac answers)
    (new_sound : FreshIsSound H P) (resolves : CarriedResolve {H = H} {P = P} mac answers) where
  entries_in : (w last : WorldRecord H P) (s t : Streams) (n : ℕ) (log : List (LoggedEvent P)) → (run : WorldRun mac answers w s n log last t) → entries (occurrences_in mac answers w s n log last t run) ≡ log
  entries_in w last s t n [] run = refl
  entries_in w last s t n (x ∷ rest) (mid, u, number, happens, run) = ap (λ (l : List (LoggedEvent P)). x ∷ l) (entries_in mid last u t (suc n) rest run)

  pub roles_meet : (first : WorldRecord H P) (s : Streams) (log : List (LoggedEvent P)) → RolesMeet mac answers first s log
  roles_meet first s log greater side last t run part rest path fair split (over, k, back) =
      let whole : List (LoggedEvent P) = entries part ++ entries rest in
      let is : log ≡ whole = sym (entries_in first last s t 0 log run) ∙ (ap (λ (xs : List (Occurrence H P)). entries xs) split ∙ map-append (λ (x : Occurrence H P). x.entry) part rest) in
      let fair_whole : IsFairWorld first greater whole = subst (λ (l : List (LoggedEvent P)). IsFairWorld first greater l) is fair in
      let sound = sound_first new_sound first whole fair_whole.start in
      let how : Side → Bool = how_of first greater whole fair_whole in
      let from : Comes first greater how first whole = record {
        front = [];
        led = refl;
        fair = preconditions_seen first greater whole (map emitted_at whole) refl fair_whole;
        compared = tt;
        sound = sound;
        compares = compares_first first greater whole fair_whole;
        leaves = leaves_all first greater whole fair_whole;
      } in
      let on = cut mac answers part rest first last (subst (λ xs. Follow mac answers first xs last) split (follows mac answers first last s t 0 log run)) in
      let differ : Apart on.0 =
      differs first greater how mac answers paths roles resolves side path over part (entries rest) on.0 fair_whole.tie from on.1 k
      (checked mac answers paths side path over part first on.0 k sound on.1) (λ error sends. search (back error sends)) in
      let following : Comes first greater how on.0 (entries rest) = comes_after first greater how mac answers paths roles part (entries rest) first on.0 from on.1 in
      let after = apart_along first greater how mac answers paths roles rest [] on.0 last (subst (λ (l : List (LoggedEvent P)). Comes first greater how on.0 l) (sym (append-nil (entries rest))) following) on.2 differ in
      let stays : (x : Occurrence H P) → Has rest x → StayOpposite x = after.1 in (after.0, search stays)

  -- once the roles are different, each agent keeps its role
  pub roles_stay : (first : WorldRecord H P) (s : Streams) (log : List (LoggedEvent P)) (greater side : Side) (last : WorldRecord H P) (t : Streams) (run : WorldRun mac answers first s 0 log last t)
      (part rest : List (Occurrence H P)) → IsFairWorld first greater log → occurrences_in mac answers first s 0 log last t run ≡ part ++ rest → AgreeOnRoles mac answers first part
      → (at side (state_after first part)).controlling ≡ false → (x : Occurrence H P) → Has rest x
      → (((at side x.before).controlling ≡ false) × ((at (other side) x.before).controlling ≡ true))
      × (((at side x.following).controlling ≡ false) × ((at (other side) x.following).controlling ≡ true))
  roles_stay first s log greater side last t run part rest fair split agree controlled x has = (roles_in x.before k.0, roles_in x.following k.1) where
    whole : List (LoggedEvent P)
    whole = entries part ++ entries rest

    fair_whole : IsFairWorld first greater whole
    fair_whole = subst (λ (l : List (LoggedEvent P)). IsFairWorld first greater l)
        (sym (entries_in first last s t 0 log run) ∙ (ap (λ (xs : List (Occurrence H P)). entries xs) split ∙ map-append (λ (x : Occurrence H P). x.entry) part rest)) fair

    how : Side → Bool
    how = how_of first greater whole fair_whole

    from : Comes first greater how first whole
    from = record {
      front = [];
      led = refl;
      fair = preconditions_seen first greater whole (map emitted_at whole) refl fair_whole;
      compared = tt;
      sound = sound_first new_sound first whole fair_whole.start;
      compares = compares_first first greater whole fair_whole;
      leaves = leaves_all first greater whole fair_whole;
    }

    on : (mid : WorldRecord H P) × Follow mac answers first part mid × Follow mac answers mid rest last
    on = cut mac answers part rest first last (subst (λ xs. Follow mac answers first xs last) split (follows mac answers first last s t 0 log run))

    differ : Apart on.0
    differ = elim agree [
      | inl apart ↦ (apart_along first greater how mac answers paths roles part (entries rest) first on.0 from on.1 apart).0
      | inr (z, path, (over, h, back)) ↦
          differs first greater how mac answers paths roles resolves z path over part (entries rest) on.0 fair_whole.tie from on.1 h
          (checked mac answers paths z path over part first on.0 h from.sound on.1) (λ error sends. search (back error sends))
    ]

    following : Comes first greater how on.0 (entries rest)
    following = comes_after first greater how mac answers paths roles part (entries rest) first on.0 from on.1

    k : Settled first greater how mac answers paths roles x.before × Settled first greater how mac answers paths roles x.following
    k = settled_along first greater how mac answers paths roles rest [] on.0 last (subst (λ (l : List (LoggedEvent P)). Comes first greater how on.0 l) (sym (append-nil (entries rest))) following) on.2 differ x has

    begins : (at side on.0).controlling ≡ false
    begins = subst (λ (w : WorldRecord H P). (at side w).controlling ≡ false) (state_is mac answers part first on.0 on.1) controlled

    roles_in : (w : WorldRecord H P) → Settled first greater how mac answers paths roles w → ((at side w).controlling ≡ false) × ((at (other side) w).controlling ≡ true)
    roles_in w is =
        let now = settled first greater how mac answers paths roles on.0 (entries rest) following differ in (
          same_role first greater how mac answers paths roles side w on.0 is now ∙ begins,
          same_role first greater how mac answers paths roles (other side) w on.0 is now ∙ (apart_of side on.0 differ ∙ ap not begins),
        )
