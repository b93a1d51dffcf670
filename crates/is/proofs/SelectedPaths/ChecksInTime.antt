-- A side of two agents checks a path in time, if its caller is punctual. What mutants/specifications changes is read by tactics.
use Rattle.is_rules.specs.Steps as agent
use Rattle.is_theorems.specs.InTime as law
use Rattle.is_theorems.specs.InTime.{ExecutionsReachInTime}
use Rattle.is.specs.World as world
use Rattle.is.proofs.Common.{[], ◌*◌, ◌++◌, ◌+◌, ◌∙◌, ◌∷◌, ◌≡◌, ◌≤◌, ◌⊎◌, A, acts, AgentRecord, all_of, Answer, ap, AreKept, arith, at, B}
use Rattle.is.proofs.Common.{begins_modern, Bool, CandidateRecord, ChecksBy, ChecksComeInTime, Entry, Event, Execution, ExecutionRound}
use Rattle.is.proofs.Common.{false, fresh, Has, if◌then◌else◌, in_world, InFlightRecord, inl, inr, IsAnsweredAlong, IsInLine, IsKept}
use Rattle.is.proofs.Common.{IsLasting, IsNewlyCreated, IsPrompt, IsPunctual, IsTimed, length, List, LoggedEvent, MayEndInRounds, None}
use Rattle.is.proofs.Common.{Occurrence, only, Option, other, OvertakeIn, Packet, PairRecord, PassRounds, Path, path_of, polled_as, quiet}
use Rattle.is.proofs.Common.{received_as, refl, Rejected, selects, ServedExecutionsReachInTime, ServedRoundsReach, Side, SideRound}
use Rattle.is.proofs.Common.{SideRoundsReach, slice_get, Some, source_of, state_after, Streams, subst, Succeeds, sym, true, WorldRecord, ℕ}
use Rattle.is.proofs.TwoAgentEvents.OwnExecutions.{only_own, execution_on}
use Rattle.is.proofs.TwoAgentEvents.EventsOfSegments.{Follow, follows, cut, state_is, acts_at, own, own_execution, own_from, own_has, owned}
use Rattle.is.proofs.SelectedPaths.BothSelectInRounds.{round_of, rounds_of, as_many, moved, passes, each_round, is_open, are_all_open}
use Rattle.is.proofs.SelectedPaths.BothSelectInRounds.{are_open, back, lasts_all, overtakes_all, rounds_suffice, succeeds_in}

module _ {H P : Type 0} (mac : H → List ℕ → List ℕ → List ℕ) (answers : P → CandidateRecord → ℕ → ℕ → Type 0) where
  -- ---- what a punctual caller does

  self : {X : Type 0} (side : Side) (x : X) → Has (only side side (x ∷ [])) x
  self A x = inl refl
  self B x = inl refl

  prompt : (side : Side) (delay next : ℕ) (xs : List (Occurrence H P)) → IsPrompt side delay next xs → law.IsPrompt delay next (own mac answers side xs)
  prompt side delay next xs k =
      let call : agent.Call P × Entry = (agent.PollTimeout, k.poll.entry.outcome.entry) in
      let is : k.poll.entry.event ≡ world.Call side agent.PollTimeout = search k.event in
      let there : Has (acts_at mac answers side k.poll) call =
      subst (λ (v : Event P). Has (acts side k.poll.before v k.poll.entry.outcome.entry) call) (sym is) (self side call) in
      (call, k.deadline, own_has mac answers side xs k.poll call k.polled there, refl, search k.answer, search k.soon)

  punctual : (side : Side) (delay : ℕ) (r : SideRound H P) (later : List (SideRound H P)) → IsPunctual side delay r later
      → law.IsPunctual delay (round_of mac answers side r) (rounds_of mac answers side later)
  punctual side delay r [] k = tt
  punctual side delay r (x ∷ later) (now, more) = (prompt side delay x.now r.following now, punctual side delay x later more)

  -- ---- who sets the pacing interval

  polls_no_pace : (answer : Answer) (ps : List Packet) (y : agent.Call P × Entry) (by : ℕ) → Has (polled_as answer ps) y → y.0 ≡ agent.SetTimingAdvance by → ⊥
  polls_no_pace (Rejected error) ps y by has is = has
  polls_no_pace _ ps y by (inl same) is =
      let wrong : agent.PollTransmit ≡ agent.SetTimingAdvance by = ap (λ (z : agent.Call P × Entry). z.0) same ∙ is in cc
  polls_no_pace _ ps y by (inr none) is = none

  abbrev Sets : Side → Event P → ℕ → Type 0
  Sets side v by = v ≡ world.Call side (agent.SetTimingAdvance by)

  sets : (side : Side) (w : WorldRecord H P) (v : Event P) (e : Entry) (y : agent.Call P × Entry) (by : ℕ) → Has (acts side w v e) y → y.0 ≡ agent.SetTimingAdvance by → Sets side v by
  sets side w (world.Call s c) e y by has is = within (in_world c) has where
    within : (b : Bool) → Has (only side s (if b then (c, e) ∷ [] else [])) y → Sets side (world.Call s c) by
    within true here = let o = only_own side s ((c, e) ∷ []) y here in elim o.0 [
      | inl same ↦ ap (λ z. world.Call z c) o.1 ∙ ap (λ d. world.Call side d) (ap (λ (z : agent.Call P × Entry). z.0) same ∙ is)
      | inr none ↦ absurd none
    ]
    within false here = absurd (only_own side s [] y here).0
  sets side w (world.Poll s) e y by has is = absurd (polls_no_pace e.answer (at side w).packets y by (only_own side s (polled_as e.answer (at side w).packets) y has).0 is)
  sets side w (world.Deliver place now via) e y by has is = comes (slice_get w.network place) has where
    comes : (o : Option InFlightRecord) → Has (received_as {P = P} side now via e o) y → Sets side (world.Deliver place now via) by
    comes None here = absurd here
    comes (Some l) here = elim (only_own side (other l.sender) ((agent.ReceivePacket now via l.packet.contents, e) ∷ []) y here).0 [
      | inl same ↦ absurd (let wrong : agent.ReceivePacket now via l.packet.contents ≡ agent.SetTimingAdvance by = ap (λ (z : agent.Call P × Entry). z.0) same ∙ is in cc)
      | inr none ↦ absurd none
    ]
  sets side w (world.Stray s now via bytes) e y by has is = absurd has

  pub timed : (side : Side) (pace delay : ℕ) (r : SideRound H P) (later : List (SideRound H P)) → IsTimed side pace delay r later
      → law.IsTimed pace delay (at side r.timeout.before) (round_of mac answers side r) (rounds_of mac answers side later)
  timed side pace delay r later k = record {
    begins = search k.begins;
    keeps = λ c has y by there is. (
        let z = back mac answers side (r ∷ later) c has in
        let o = own_from mac answers side z.0.following y (subst (λ (x : ExecutionRound P). Has x.following y) (sym z.2) there) in
        search (k.keeps z.0 z.1 o.0 o.1 by (sets side o.0.before o.0.entry.event o.0.entry.outcome.entry y by o.2 is)));
    punctual = punctual side delay r later k.punctual;
  }

  -- ---- the rounds

  abbrev Comes : Side → Path → ℕ → List (SideRound H P) → Type 0
  Comes side path limit rounds =
      ChecksBy path limit rounds
      ⊎ (((r : SideRound H P) × Has rounds r × ((x : Occurrence H P) × Has r.following x × Succeeds side path x)) ⊎ MayEndInRounds answers side path rounds)

  reached : ExecutionsReachInTime {H = H} {P = P} mac answers → ServedExecutionsReachInTime {H = H} {P = P} mac answers → (side : Side) (first last : WorldRecord H P) (s : Streams) (xs : List (agent.Call P × Entry)) (r : SideRound H P) (later : List (SideRound H P))
      (p : PairRecord) (by pace delay : ℕ) → IsNewlyCreated (at side first) → Execution mac answers xs (at side first) (at side r.timeout.before)
      → Follow mac answers r.timeout.before (all_of (r ∷ later)) last → IsInLine r.now by (at side r.timeout.before) p → AreKept side by r later
      → ((x : SideRound H P) → Has later x → IsLasting x.now (at side r.timeout.before) p) → SideRoundsReach side by r later last ⊎ ServedRoundsReach side by p r later → IsTimed side pace delay r later
      → Comes side (path_of (at side r.timeout.before) p) (r.now + length later * (pace + delay)) (r ∷ later)
  reached reach serve side first last s xs r later p by pace delay n led (same, u, v, happens, more) line kept lasting enough in_time =
      let path : Path = path_of (at side r.timeout.before) p in
      let own_first : IsKept (begins_modern side r) side r = kept.kept r (inl refl) in
      let c = cut mac answers r.following (all_of later) r.timeout.following last more in
      let o = owned mac answers side path r.following r.following r.timeout.following c.0 c.1 (λ x has. has) in
      let k = passes mac answers side path later c.0 last c.2 (λ x has. (kept.kept x (inr has)).comes) in
      let moves = moved mac answers side r u v own_first.comes happens in
      let many = as_many mac answers side later in
      let second : state_after r.timeout.following r.following ≡ c.0 = state_is mac answers r.following r.timeout.following c.0 c.1 in
      let agent_first : AgentRecord H P = fresh (at side first).provider n.0 n.1 in
      let to : Execution mac answers ((agent.SetControlling n.2, quiet agent.Done) ∷ xs) agent_first (at side r.timeout.before) = (at side first, source_of side s, source_of side s, tt, (refl, n.3, refl), led) in
      let pass : PassRounds mac answers (rounds_of mac answers side (r ∷ later)) (at side r.timeout.before) (at side last) = (at side r.timeout.following, at side c.0, source_of side u, moves.0, moves.1, o.0, k.0) in
      let found : law.IsReachedBy mac answers (r.now + length later * (pace + delay)) (rounds_of mac answers side (r ∷ later)) (at side r.timeout.before) (at side last) pass path = elim enough [
        | inl suffices ↦
            (let so_many = rounds_suffice mac answers side by r later c.0 last (same, u, v, happens, more) c.2 (λ x has. (kept.kept x has).comes) second suffices in
            reach agent_first (at side r.timeout.before) (at side last) ((agent.SetControlling n.2, quiet agent.Done) ∷ xs) (round_of mac answers side r)
            (rounds_of mac answers side later) p by pace delay (length later) (n.0, n.1, refl) to line
            (let from = kept.from in omega (arith, from)) own_first.done own_first.early (is_open mac answers (begins_modern side r) side r own_first) pass (are_open mac answers side by r later kept)
            (each_round mac answers (λ c. IsLasting c.now (at side r.timeout.before) p) side later (λ x has. lasting x has)) so_many (omega (arith, many))
            (timed side pace delay r later in_time))
        | inr served ↦ elim (serve agent_first (at side r.timeout.before) (at side last) ((agent.SetControlling n.2, quiet agent.Done) ∷ xs) (round_of mac answers side r)
            (rounds_of mac answers side later) p by served.m pace delay (n.0, n.1, refl) to line (search (served.served)) pass
            (are_all_open mac answers side by r later (let late = served.late in omega (arith, late)) kept) (lasts_all mac answers side p r later line.lasting (λ x has. lasting x has))
            (each_round mac answers (λ c. selects c.timeout ≡ false) side (r ∷ later) (λ x has. search (served.quiet x has))) (let some = served.enough in omega (arith, many, some))
            (timed side pace delay r later in_time)) [
              | inl is ↦ subst (λ i. law.IsReachedBy mac answers (r.now + i * (pace + delay)) (rounds_of mac answers side (r ∷ later)) (at side r.timeout.before) (at side last) pass path) many is
              | inr overtaken ↦ absurd (let few = served.few in
                  let o : OvertakeIn side p.number served.m (r ∷ later) = overtakes_all mac answers side r later (at side c.0) (at side last) pass (λ i j o. k.2 i j o) p.number served.m overtaken in search (few, o))
            ]
      ] in
      elim found [
        | inl (x, has, (id, sent), soon) ↦ (let z = back mac answers side (r ∷ later) x has in
            inl (z.0, z.1, (id, ap (λ (y : ExecutionRound P). y.timeout.emitted.issued) z.2 ∙ sent), search (subst (λ (y : ExecutionRound P). y.now ≤ r.now + length later * (pace + delay)) (sym z.2) soon)))
        | inr (inl (x, has, is)) ↦ (let z = back mac answers side (r ∷ later) x has in
            let y = succeeds_in mac answers side path z.0.following (subst (λ (u : ExecutionRound P). IsAnsweredAlong u.following path) (sym z.2) is) in
            inr (inl (z.0, z.1, y)))
        | inr (inr (inl here)) ↦ inr (inr (r, inl refl, o.1 here))
        | inr (inr (inr others)) ↦ inr (inr (let m = k.1 others in (m.0, inr m.1, m.2)))
      ]

  pub checks_in_time : ExecutionsReachInTime {H = H} {P = P} mac answers → ServedExecutionsReachInTime {H = H} {P = P} mac answers → (first : WorldRecord H P) (s : Streams) (log : List (LoggedEvent P)) → ChecksComeInTime mac answers first s log
  checks_in_time reach serve first s log last t run before part rest side path pace delay new split k in_time =
      let rounds : List (SideRound H P) = k.first ∷ k.later in
      let all = subst (λ xs. Follow mac answers first xs last) split (follows mac answers first last s t 0 log run) in
      let led = cut mac answers before (part ++ rest) first last all in
      let on = cut mac answers part rest led.0 last led.2 in
      let ends : state_after first (before ++ part) ≡ on.0 = after_both before part first led.0 on.0 led.1 on.1 in
      let c = cut mac answers k.ahead (all_of rounds) led.0 on.0 (subst (λ xs. Follow mac answers led.0 xs on.0) k.split on.1) in
      let begin : WorldRecord H P = k.first.timeout.before in
      let to : Follow mac answers led.0 k.ahead begin = subst (λ (w : WorldRecord H P). Follow mac answers led.0 k.ahead w) (sym c.2.0) c.1 in
      let rest_of : Follow mac answers begin (all_of rounds) on.0 = subst (λ (w : WorldRecord H P). Follow mac answers w (all_of rounds) on.0) (sym c.2.0) c.2 in
      subst (λ via. Comes side via (k.first.now + length k.later * (pace + delay)) rounds) k.on
      (reached reach serve side first on.0 s (own mac answers side before ++ own mac answers side k.ahead) k.first k.later k.pair k.by pace delay (new side)
      (execution_on mac answers (own mac answers side before) (own mac answers side k.ahead) (at side first) (at side led.0) (at side begin)
      (own_execution mac answers side before first led.0 led.1) (own_execution mac answers side k.ahead led.0 begin to))
      rest_of k.line k.kept (λ x has. k.lasting x has) (subst (λ (w : WorldRecord H P). SideRoundsReach side k.by k.first k.later w ⊎ ServedRoundsReach side k.by k.pair k.first k.later) ends (search k.enough)) in_time)
    where
      after_both : (xs ys : List (Occurrence H P)) (w mid end : WorldRecord H P) → Follow mac answers w xs mid → Follow mac answers mid ys end → state_after w (xs ++ ys) ≡ end
      after_both [] ys w mid end is more = ap (λ v. state_after v ys) (sym is) ∙ state_is mac answers ys mid end more
      after_both (x ∷ xs) ys w mid end (from, u, v, happens, rest_follows) more = after_both xs ys x.following mid end rest_follows more
