-- Both of two agents select a path in rounds in which the network delivers. The preconditions that mutants/specifications
-- changes are read by tactics.
use Rattle.is_theorems.proofs.BasicLemmas.EqualAddresses.{same_address-same}
use Rattle.is_rules.specs.Steps as agent
use Rattle.is.specs.World as world
use Rattle.is.proofs.Common.{[], ◌&&◌, ◌++◌, ◌+◌, ◌<◌, ◌∙◌, ◌∷◌, ◌≡◌, ◌≤◌, ◌⊎◌, AcceptedNominationsAreSelected, AcceptsSuccess}
use Rattle.is.proofs.Common.{AcceptsSuccessOn, acts, AgentRecord, all_of, Answer, ap, AreBetween, AreEachPolled, AreInRound, AreKept, arith}
use Rattle.is.proofs.Common.{AsksInRounds, at, Awaits, begins_modern, Bool, BothConnect, CandidateRecord, CarriedAsk, CarriedSucceedLater}
use Rattle.is.proofs.Common.{cond, Done, EndsAmong, Entry, Event, Execution, ExecutionRound, ExecutionsReachFromDue, ExecutionsReachServed}
use Rattle.is.proofs.Common.{ExecutionsReachUnanswered, false, fresh, FreshIsSound, Happens, Has, HasRounds, if◌then◌else◌, in_world}
use Rattle.is.proofs.Common.{InFlightRecord, inl, inr, is_of, IsAnsweredAlong, IsAnsweredInRounds, IsAskedOver, IsControlledSegment}
use Rattle.is.proofs.Common.{IsExchangedOver, IsInLine, IsKept, IsLasting, IsNewlyCreated, IsOnlyPair, IsOpenRound, IsOvertakenAmong}
use Rattle.is.proofs.Common.{IsPassed, IsReached, IsUnanswered, length, List, LoggedEvent, MakesPolls, MayEndIn, MayEndInRounds}
use Rattle.is.proofs.Common.{nominations_ahead, None, Occurrence, occurrences_in, only, Option, other, OvertakeIn, Packet, PairRecord}
use Rattle.is.proofs.Common.{PassRounds, Path, path_of, PathTheorem, polled_as, quiet, received_as, refl, Rejected, request_at, reversed}
use Rattle.is.proofs.Common.{RoundChecks, RoundsSuffice, same_address, selections_among, selections_of, selects, SelectsTop}
use Rattle.is.proofs.Common.{ServedExecutionsReach, ServedRoundsReach, ServedRoundsSuffice, Side, SideRound, SideRoundsReach}
use Rattle.is.proofs.Common.{SideRoundsSuffice, slice_get, Some, source_of, state_after, Step, Stream, Streams, subst, suc, Succeeds}
use Rattle.is.proofs.Common.{Suffices, SufficesForServed, sum_by-append, sum_by-cons, sym, TakesTurn, times_in, times_of, true, WorldRecord}
use Rattle.is.proofs.Common.{WorldRun, ℕ}
use Rattle.is.proofs.ExternalViews.ViewsOfExecutions.{Has-front, Has-rear, AreSound}
use Rattle.is.proofs.TwoAgentEvents.OwnExecutions.{only_own, execution_on, turn_step}
use Rattle.is.proofs.TwoAgentEvents.EventsOfSegments.{Follow, follows, cut, state_is, meet, acts_at, own, own_execution, own_from}
use Rattle.is.proofs.TwoAgentEvents.EventsOfSegments.{own_between, own_in_round, own_has, owned, Found}
use Rattle.is.proofs.TwoAgentEvents.SelectionsOfSegments.{ahead-fewer, chosen-along, is-own, one-counted, suffice-fewer}
use Rattle.is.proofs.SelectedPaths.SelectedAfterNomination.{apart_at, answered, selected_where}

module _ {H P : Type 0} (mac : H → List ℕ → List ℕ → List ℕ) (answers : P → CandidateRecord → ℕ → ℕ → Type 0) where
  -- ---- what a side does in its rounds

  abbrev pub round_of : Side → SideRound H P → ExecutionRound P
  round_of side r = record { now = r.now; timeout = r.timeout.entry.outcome.entry; following = own mac answers side r.following }

  abbrev pub rounds_of : Side → List (SideRound H P) → List (ExecutionRound P)
  rounds_of side [] = []
  rounds_of side (r ∷ later) = round_of side r ∷ rounds_of side later

  pub as_many : (side : Side) (rounds : List (SideRound H P)) → length (rounds_of side rounds) ≡ length rounds
  as_many side [] = refl
  as_many side (r ∷ later) = ap suc (as_many side later)

  abbrev pub Moves : Side → SideRound H P → Type 0
  Moves side r = r.timeout.entry.event ≡ world.Call side (agent.HandleTimeout r.now)

  pub moved : (side : Side) (r : SideRound H P) (s t : Streams) → Moves side r → Happens mac answers r.timeout.before s r.timeout.entry.event r.timeout.entry.outcome r.timeout.following t
      → (left : Stream) × Step mac answers (at side r.timeout.before) (source_of side s) (agent.HandleTimeout r.now) r.timeout.entry.outcome.entry (at side r.timeout.following) left
  moved side r s t comes happens =
      let turn : TakesTurn mac answers r.timeout.before s side (agent.HandleTimeout r.now) r.timeout.entry.outcome r.timeout.following t =
      subst (λ (v : Event P). Happens mac answers r.timeout.before s v r.timeout.entry.outcome r.timeout.following t) comes happens in
      (turn.left, turn_step mac answers r.timeout.before r.timeout.following s t side (agent.HandleTimeout r.now) r.timeout.entry.outcome turn)

  -- the rounds of the side as those of a per-agent execution: what may remove a pair of the path there may do so here
  abbrev pub Passing : Side → Path → List (SideRound H P) → AgentRecord H P → AgentRecord H P → Type 0
  Passing side path rounds a b =
      (run : PassRounds mac answers (rounds_of side rounds) a b) × (EndsAmong mac answers (rounds_of side rounds) a b run path → MayEndInRounds answers side path rounds)
      × ((n k : ℕ) → IsOvertakenAmong mac answers n k (rounds_of side rounds) a b run → OvertakeIn side n k rounds)

  pub passes : (side : Side) (path : Path) (rounds : List (SideRound H P)) (w last : WorldRecord H P) → Follow mac answers w (all_of rounds) last → ((r : SideRound H P) → Has rounds r → Moves side r)
      → Passing side path rounds (at side w) (at side last)
  passes side path [] w last is comes = (ap (λ (v : WorldRecord H P). at side v) is, (λ none. absurd none), λ n k none. none)
  passes side path (r ∷ later) w last (from, s, t, happens, more) comes =
      let c = cut mac answers r.following (all_of later) r.timeout.following last more in
      let o = owned mac answers side path r.following r.following r.timeout.following c.0 c.1 (λ x has. has) in
      let k = passes side path later c.0 last c.2 (λ y has. comes y (inr has)) in
      let moves = moved side r s t (comes r (inl refl)) happens in
      subst (λ (v : WorldRecord H P). Passing side path (r ∷ later) (at side v) (at side last)) from (
        (at side r.timeout.following, at side c.0, source_of side s, moves.0, moves.1, o.0, k.0),
        (λ ends. elim ends [ inl here ↦ (r, inl refl, o.1 here) | inr others ↦ (let m = k.1 others in (m.0, inr m.1, m.2)) ]),
        λ n i overtaken. elim overtaken [ inl others ↦ inl (k.2 n i others) | inr (j, is, here, others) ↦ inr (j, is, search (here), k.2 n j others) ],
      )

  -- so rounds that suffice for a pair on which a request was served suffice there
  pub suffices_served : (side : Side) (p : PairRecord) (r : SideRound H P) (later : List (SideRound H P)) (second last : AgentRecord H P) (run : PassRounds mac answers (rounds_of side later) second last)
      → ((n k : ℕ) → IsOvertakenAmong mac answers n k (rounds_of side later) second last run → OvertakeIn side n k later) → ServedRoundsSuffice side p r later
      → SufficesForServed mac answers (at side r.timeout.before) p (rounds_of side later) second last run
  suffices_served side p r later second last run overtakes s = record {
    served = search (s.served);
    m = s.m;
    enough = (let count = as_many side later in let few = s.enough in omega (arith, count, few));
    few = λ overtaken. (let few = s.few in let o : OvertakeIn side p.number s.m later = overtakes p.number s.m overtaken in search (few, o));
  }

  -- no more of its calls select a path there
  chosen_among : (side : Side) (rounds : List (SideRound H P)) (w last : WorldRecord H P) → Follow mac answers w (all_of rounds) last → ((r : SideRound H P) → Has rounds r → Moves side r)
      → selections_among (rounds_of side rounds) ≤ selections_of side (all_of rounds)
  chosen_among side [] w last is comes = omega arith
  chosen_among side (r ∷ later) w last (from, s, t, happens, more) comes =
      let c = cut mac answers r.following (all_of later) r.timeout.following last more in
      let turn : TakesTurn mac answers r.timeout.before s side (agent.HandleTimeout r.now) r.timeout.entry.outcome r.timeout.following t =
      subst (λ (v : Event P). Happens mac answers r.timeout.before s v r.timeout.entry.outcome r.timeout.following t) (comes r (inl refl)) happens in
      let first = one-counted (selects r.timeout.entry.outcome.entry) (is_of side r.timeout.entry.outcome.side) (ap (λ o. is_of side o) turn.side_is ∙ is-own side) in
      let inside = chosen-along mac answers side r.following r.timeout.following c.0 c.1 in
      let others = chosen_among side later c.0 last c.2 (λ y has. comes y (inr has)) in
      let all = sum_by-cons (λ (y : Occurrence H P). cond (is_of side y.entry.outcome.side && selects y.entry.outcome.entry) 1 0) r.timeout (r.following ++ all_of later) in
      let both = sum_by-append (λ (y : Occurrence H P). cond (is_of side y.entry.outcome.side && selects y.entry.outcome.entry) 1 0) r.following (all_of later) in
      omega (arith, first, inside, others, all, both)

  -- so rounds that suffice here suffice there
  pub rounds_suffice : (side : Side) (by : ℕ) (r : SideRound H P) (later : List (SideRound H P)) (mid last : WorldRecord H P) → Follow mac answers r.timeout.before (all_of (r ∷ later)) last
      → Follow mac answers mid (all_of later) last → ((x : SideRound H P) → Has (r ∷ later) x → Moves side x) → state_after r.timeout.following r.following ≡ mid → SideRoundsReach side by r later last
      → RoundsSuffice by (at side r.timeout.before) (at side mid) (at side last) (round_of side r) (rounds_of side later) (length later)
  rounds_suffice side by r later mid last all rest comes second enough =
      suffice-fewer by r.now (at side r.timeout.before) (at side mid) (at side last) (length later)
      (nominations_ahead (at side r.timeout.before) (selections_among (rounds_of side (r ∷ later)))) (nominations_ahead (at side r.timeout.before) (selections_of side (all_of (r ∷ later))))
      (nominations_ahead (at side mid) (selections_among (rounds_of side later))) (nominations_ahead (at side mid) (selections_of side (all_of later)))
      (ahead-fewer (at side r.timeout.before) (selections_among (rounds_of side (r ∷ later))) (selections_of side (all_of (r ∷ later))) (chosen_among side (r ∷ later) r.timeout.before last all comes))
      (ahead-fewer (at side mid) (selections_among (rounds_of side later)) (selections_of side (all_of later)) (chosen_among side later mid last rest (λ x has. comes x (inr has))))
      (subst (λ (w : WorldRecord H P). Suffices by r.now (at side r.timeout.before) (at side w) (at side last) (length later)
      (nominations_ahead (at side r.timeout.before) (selections_of side (all_of (r ∷ later)))) (nominations_ahead (at side w) (selections_of side (all_of later)))) second (search enough))

  abbrev pub are_all : (ExecutionRound P → Type 0) → Side → List (SideRound H P) → Type 0
  are_all Q side rounds = (c : ExecutionRound P) → Has (rounds_of side rounds) c → Q c

  pub each_round : (Q : ExecutionRound P → Type 0) (side : Side) (rounds : List (SideRound H P)) → ((r : SideRound H P) → Has rounds r → Q (round_of side r)) → are_all Q side rounds
  each_round Q side [] each c has = absurd has
  each_round Q side (r ∷ later) each c (inl is) = subst (λ (z : ExecutionRound P). Q z) is (each r (inl refl))
  each_round Q side (r ∷ later) each c (inr has) = each_round Q side later (λ y there. each y (inr there)) c has

  is_passed : (modern : Bool) (side : Side) (by : ℕ) (r : SideRound H P) → by < r.now → IsKept modern side r → ((x : Occurrence H P) → Has r.following x → MakesPolls side x.entry.event) → IsPassed by (round_of side r)
  is_passed modern side by r later kept polls = record {
    done = kept.done;
    late = omega (arith, later);
    early = kept.early;
    between = own_between mac answers side r.following (λ x has. search (polls x has));
  }

  pub are_passed : (side : Side) (by : ℕ) (r : SideRound H P) (later : List (SideRound H P)) → AreKept side by r later → AreEachPolled side by r later → are_all (λ c. IsPassed by c) side later
  are_passed side by r later kept each =
      each_round (λ c. IsPassed by c) side later (λ x has. is_passed (begins_modern side r) side by x (let late = kept.late x has in omega (arith, late)) (kept.kept x (inr has)) (each.polls x (inr has)))

  pub only_polls : (side : Side) (by : ℕ) (r : SideRound H P) (later : List (SideRound H P)) → AreEachPolled side by r later → AreBetween (own mac answers side r.following)
  only_polls side by r later each = own_between mac answers side r.following (λ x has. search (each.polls r (inl refl) x has))

  pub same_times : (side : Side) (rounds : List (SideRound H P)) → times_of (rounds_of side rounds) ≡ times_in rounds
  same_times side [] = refl
  same_times side (r ∷ later) = ap (λ ns. r.now ∷ ns) (same_times side later)

  pub is_open : (modern : Bool) (side : Side) (r : SideRound H P) → IsKept modern side r → AreInRound modern (own mac answers side r.following)
  is_open modern side r kept = own_in_round mac answers modern side r.following (λ x has. search (kept.between x has))

  pub are_open : (side : Side) (by : ℕ) (r : SideRound H P) (later : List (SideRound H P)) → AreKept side by r later → are_all (λ c. IsOpenRound (begins_modern side r) by c) side later
  are_open side by r later kept = each_round (λ c. IsOpenRound (begins_modern side r) by c) side later (λ x has. (let k = kept.kept x (inr has) in record {
    done = k.done;
    late = (let late = kept.late x has in omega (arith, late));
    early = k.early;
    between = is_open (begins_modern side r) side x k;
  }))

  -- a round of the per-agent execution is one of the two-agent network model
  pub back : (side : Side) (rounds : List (SideRound H P)) (c : ExecutionRound P) → Has (rounds_of side rounds) c → (r : SideRound H P) × Has rounds r × (round_of side r ≡ c)
  back side [] c has = absurd has
  back side (r ∷ later) c (inl is) = (r, inl refl, is)
  back side (r ∷ later) c (inr has) = let k = back side later c has in (k.0, inr k.1, k.2)

  -- ---- a check is sent in one of them, or the path is answered in one

  abbrev pub SomeChecks : Path → List (SideRound H P) → Type 0
  SomeChecks path rounds = (r : SideRound H P) × Has rounds r × RoundChecks path r

  abbrev Answers : Side → Path → List (SideRound H P) → Type 0
  Answers side path rounds = (r : SideRound H P) × Has rounds r × IsAnsweredAlong (own mac answers side r.following) path

  -- a check is sent on the path in the rounds, or it is answered in one, or a candidate that is added in one may remove a pair of it
  abbrev pub Reaches : Side → Path → List (SideRound H P) → Type 0
  Reaches side path rounds = SomeChecks path rounds ⊎ (Answers side path rounds ⊎ MayEndInRounds answers side path rounds)

  pub are_all_open : (side : Side) (by : ℕ) (r : SideRound H P) (later : List (SideRound H P)) → by < r.now → AreKept side by r later → are_all (λ c. IsOpenRound (begins_modern side r) by c) side (r ∷ later)
  are_all_open side by r later late kept c (inl is) =
      let k = kept.kept r (inl refl) in
      subst (λ (z : ExecutionRound P). IsOpenRound (begins_modern side r) by z) is (record { done = k.done; late = omega (arith, late); early = k.early; between = is_open (begins_modern side r) side r k })
  are_all_open side by r later late kept c (inr has) = are_open side by r later kept c has

  pub lasts_all : (side : Side) (p : PairRecord) (r : SideRound H P) (later : List (SideRound H P)) → IsLasting r.now (at side r.timeout.before) p
      → ((x : SideRound H P) → Has later x → IsLasting x.now (at side r.timeout.before) p) → are_all (λ c. IsLasting c.now (at side r.timeout.before) p) side (r ∷ later)
  lasts_all side p r later here lasting = each_round (λ c. IsLasting c.now (at side r.timeout.before) p) side (r ∷ later)
      (λ x has. elim has [ inl is ↦ subst (λ (z : SideRound H P). IsLasting z.now (at side r.timeout.before) p) is here | inr there ↦ lasting x there ])

  -- what checks other pairs before it in the per-agent execution does so in the network model
  pub overtakes_all : (side : Side) (r : SideRound H P) (later : List (SideRound H P)) (second last : AgentRecord H P)
      → (run : (mid next : AgentRecord H P) × (s t : Stream) × Step mac answers (at side r.timeout.before) s (agent.HandleTimeout r.now) r.timeout.entry.outcome.entry mid t
      × Execution mac answers (own mac answers side r.following) mid next × PassRounds mac answers (rounds_of side later) next last)
      → ((n k : ℕ) → IsOvertakenAmong mac answers n k (rounds_of side later) run.1 last run.6 → OvertakeIn side n k later) → (n k : ℕ)
      → IsOvertakenAmong mac answers n k (rounds_of side (r ∷ later)) (at side r.timeout.before) last run → OvertakeIn side n k (r ∷ later)
  overtakes_all side r later second last run overtakes n k overtaken = elim overtaken [ inl others ↦ inl (overtakes n k others) | inr (j, is, here, others) ↦ inr (j, is, here, overtakes n j others) ]

  pub reached : ExecutionsReachFromDue {H = H} {P = P} mac answers → ServedExecutionsReach {H = H} {P = P} mac answers → (side : Side) (first last : WorldRecord H P) (s : Streams) (xs : List (agent.Call P × Entry)) (r : SideRound H P) (later : List (SideRound H P)) (p : PairRecord) (by : ℕ)
      → IsNewlyCreated (at side first) → Execution mac answers xs (at side first) (at side r.timeout.before) → Follow mac answers r.timeout.before (all_of (r ∷ later)) last
      → IsInLine r.now by (at side r.timeout.before) p → AreKept side by r later
      → ((x : SideRound H P) → Has later x → IsLasting x.now (at side r.timeout.before) p) → SideRoundsReach side by r later last ⊎ ServedRoundsReach side by p r later
      → Reaches side (path_of (at side r.timeout.before) p) (r ∷ later)
  reached reach serve side first last s xs r later p by n led (same, u, v, happens, more) line kept lasting enough =
      let path : Path = path_of (at side r.timeout.before) p in
      let own_first : IsKept (begins_modern side r) side r = kept.kept r (inl refl) in
      let c = cut mac answers r.following (all_of later) r.timeout.following last more in
      let o = owned mac answers side path r.following r.following r.timeout.following c.0 c.1 (λ x has. has) in
      let k = passes side path later c.0 last c.2 (λ x has. (kept.kept x (inr has)).comes) in
      let moves = moved side r u v own_first.comes happens in
      let many = as_many side later in
      let second : state_after r.timeout.following r.following ≡ c.0 = state_is mac answers r.following r.timeout.following c.0 c.1 in
      let agent_first : AgentRecord H P = fresh (at side first).provider n.0 n.1 in
      let to : Execution mac answers ((agent.SetControlling n.2, quiet Done) ∷ xs) agent_first (at side r.timeout.before) = (at side first, source_of side s, source_of side s, tt, (refl, n.3, refl), led) in
      let pass : PassRounds mac answers (rounds_of side (r ∷ later)) (at side r.timeout.before) (at side last) = (at side r.timeout.following, at side c.0, source_of side u, moves.0, moves.1, o.0, k.0) in
      let found : IsReached mac answers (rounds_of side (r ∷ later)) (at side r.timeout.before) (at side last) pass path = elim enough [
        | inl suffices ↦
            (let so_many : RoundsSuffice by (at side r.timeout.before) (at side c.0) (at side last) (round_of side r) (rounds_of side later) (length (rounds_of side later)) =
            subst (λ i. RoundsSuffice by (at side r.timeout.before) (at side c.0) (at side last) (round_of side r) (rounds_of side later) i) (sym many)
            (rounds_suffice side by r later c.0 last (same, u, v, happens, more) c.2 (λ x has. (kept.kept x has).comes) second suffices) in
            reach agent_first (at side r.timeout.before) (at side last) ((agent.SetControlling n.2, quiet Done) ∷ xs) (round_of side r) (rounds_of side later) p by
            (n.0, n.1, refl) to line (let from = kept.from in omega (arith, from)) own_first.done own_first.early (is_open (begins_modern side r) side r own_first) pass (are_open side by r later kept)
            (each_round (λ c. IsLasting c.now (at side r.timeout.before) p) side later (λ x has. lasting x has)) so_many)
        | inr served ↦ elim (serve agent_first (at side r.timeout.before) (at side last) ((agent.SetControlling n.2, quiet Done) ∷ xs) (round_of side r) (rounds_of side later) p by served.m
            (n.0, n.1, refl) to line (search (served.served)) pass (are_all_open side by r later (let late = served.late in omega (arith, late)) kept) (lasts_all side p r later line.lasting (λ x has. lasting x has))
            (each_round (λ c. selects c.timeout ≡ false) side (r ∷ later) (λ x has. search (served.quiet x has))) (let some = served.enough in omega (arith, many, some))) [
              | inl is ↦ is
              | inr overtaken ↦ absurd (let few = served.few in let o : OvertakeIn side p.number served.m (r ∷ later) = overtakes_all side r later (at side c.0) (at side last) pass (λ i j o. k.2 i j o) p.number served.m overtaken in search (few, o))
            ]
      ] in
      elim found [
        | inl (x, id, has, out) ↦ (let z = back side (r ∷ later) x has in inl (z.0, z.1, (id, ap (λ (y : ExecutionRound P). y.timeout.emitted.issued) z.2 ∙ out)))
        | inr (inl (x, has, is)) ↦ (let z = back side (r ∷ later) x has in inr (inl (z.0, z.1, subst (λ (y : ExecutionRound P). IsAnsweredAlong y.following path) (sym z.2) is)))
        | inr (inr (inl here)) ↦ inr (inr (r, inl refl, o.1 here))
        | inr (inr (inr others)) ↦ inr (inr (let m = k.1 others in (m.0, inr m.1, m.2)))
      ]

  -- one of the success responses that the side receives in the rounds is accepted
  abbrev pub Accepts : Side → List (SideRound H P) → Type 0
  Accepts side rounds = (r : SideRound H P) × Has rounds r × ((path : Path) × IsAnsweredAlong (own mac answers side r.following) path)

  -- the reverse of the path that a response came on
  on_reverse : (call : agent.Call P) (e : Entry) → AcceptsSuccess call e → (path : Path) × AcceptsSuccessOn call e path
  on_reverse call e (now, via, m, brings, success) =
      (reversed via, (now, via, m, brings, success, both_hold (same_address via.source via.source) (same_address via.destination via.destination) (same_address-same via.source) (same_address-same via.destination))) where
        both_hold : (a b : Bool) → a ≡ true → b ≡ true → (a && b) ≡ true
        both_hold true b one two = two
        both_hold false b one two = cc

  -- The path of a pair is reached in the rounds while no pair is valid, unless a success response is accepted.
  pub reached_unanswered : ExecutionsReachUnanswered {H = H} {P = P} mac answers → ExecutionsReachServed {H = H} {P = P} mac answers → (side : Side) (first last : WorldRecord H P) (s : Streams) (xs : List (agent.Call P × Entry)) (r : SideRound H P) (later : List (SideRound H P)) (p : PairRecord) (by : ℕ)
      → IsNewlyCreated (at side first) → Execution mac answers xs (at side first) (at side r.timeout.before) → Follow mac answers r.timeout.before (all_of (r ∷ later)) last
      → (at side r.timeout.before).controlling ≡ true → Awaits r.now by (at side r.timeout.before) p → IsUnanswered (at side r.timeout.before) p → AreKept side by r later
      → SideRoundsSuffice side by r later last ⊎ ServedRoundsSuffice side p r later → Accepts side (r ∷ later) ⊎ Reaches side (path_of (at side r.timeout.before) p) (r ∷ later)
  reached_unanswered reach serve side first last s xs r later p by n led (same, u, v, happens, more) role waits unanswered kept enough =
      let path : Path = path_of (at side r.timeout.before) p in
      let own_first : IsKept (begins_modern side r) side r = kept.kept r (inl refl) in
      let c = cut mac answers r.following (all_of later) r.timeout.following last more in
      let o = owned mac answers side path r.following r.following r.timeout.following c.0 c.1 (λ x has. has) in
      let k = passes side path later c.0 last c.2 (λ x has. (kept.kept x (inr has)).comes) in
      let moves = moved side r u v own_first.comes happens in
      let many = as_many side later in
      let second : state_after r.timeout.following r.following ≡ c.0 = state_is mac answers r.following r.timeout.following c.0 c.1 in
      let agent_first : AgentRecord H P = fresh (at side first).provider n.0 n.1 in
      let to : Execution mac answers ((agent.SetControlling n.2, quiet Done) ∷ xs) agent_first (at side r.timeout.before) = (at side first, source_of side s, source_of side s, tt, (refl, n.3, refl), led) in
      let pass : PassRounds mac answers (rounds_of side (r ∷ later)) (at side r.timeout.before) (at side last) = (at side r.timeout.following, at side c.0, source_of side u, moves.0, moves.1, o.0, k.0) in
      let found : ((x : ExecutionRound P) × Has (rounds_of side (r ∷ later)) x × ((y : agent.Call P × Entry) × Has x.following y × AcceptsSuccess y.0 y.1))
      ⊎ IsReached mac answers (rounds_of side (r ∷ later)) (at side r.timeout.before) (at side last) pass path = elim enough [
        | inl suffices ↦
            (let so_many : Suffices by r.now (at side r.timeout.before) (at side c.0) (at side last) (length (rounds_of side later)) 0 0 =
            subst (λ i. Suffices by r.now (at side r.timeout.before) (at side c.0) (at side last) i 0 0) (sym many)
            (subst (λ (w : WorldRecord H P). Suffices by r.now (at side r.timeout.before) (at side w) (at side last) (length later) 0 0) second (search suffices)) in
            reach agent_first (at side r.timeout.before) (at side last) ((agent.SetControlling n.2, quiet Done) ∷ xs) (round_of side r) (rounds_of side later) p by
            (n.0, n.1, refl) to role waits unanswered (let from = kept.from in omega (arith, from)) own_first.done own_first.early (is_open (begins_modern side r) side r own_first) pass (are_open side by r later kept) so_many)
        | inr served ↦
            serve agent_first (at side r.timeout.before) (at side last) ((agent.SetControlling n.2, quiet Done) ∷ xs) (round_of side r) (rounds_of side later) p by
            (n.0, n.1, refl) to role waits unanswered (let from = kept.from in omega (arith, from)) own_first.done (is_open (begins_modern side r) side r own_first) pass (are_open side by r later kept)
            (suffices_served side p r later (at side c.0) (at side last) k.0 (λ n i overtaken. k.2 n i overtaken) served)
      ] in
      elim found [
        | inl (x, has, (y, there, accepts)) ↦
            (let z = back side (r ∷ later) x has in let on = on_reverse y.0 y.1 accepts in
            inl (z.0, z.1, (on.0, subst (λ (q : ExecutionRound P). IsAnsweredAlong q.following on.0) (sym z.2) (y, there, on.1))))
        | inr (inl (x, id, has, out)) ↦ (let z = back side (r ∷ later) x has in inr (inl (z.0, z.1, (id, ap (λ (y : ExecutionRound P). y.timeout.emitted.issued) z.2 ∙ out))))
        | inr (inr (inl (x, has, is))) ↦ (let z = back side (r ∷ later) x has in inr (inr (inl (z.0, z.1, subst (λ (y : ExecutionRound P). IsAnsweredAlong y.following path) (sym z.2) is))))
        | inr (inr (inr (inl here))) ↦ inr (inr (inr (r, inl refl, o.1 here)))
        | inr (inr (inr (inr others))) ↦ inr (inr (inr (let m = k.1 others in (m.0, inr m.1, m.2))))
      ]

  -- the rounds of a segment
  reached_in : ExecutionsReachFromDue {H = H} {P = P} mac answers → ServedExecutionsReach {H = H} {P = P} mac answers → (side : Side) (path : Path) (first start last : WorldRecord H P) (s : Streams) (before part : List (Occurrence H P))
      → IsNewlyCreated (at side first) → Follow mac answers first before start → Follow mac answers start part last → (k : HasRounds side path part last) → Reaches side path (k.first ∷ k.later)
  reached_in reach serve side path first start last s before part n led on k =
      let rounds : List (SideRound H P) = k.first ∷ k.later in
      let c = cut mac answers k.ahead (all_of rounds) start last (subst (λ xs. Follow mac answers start xs last) k.split on) in
      let begin : WorldRecord H P = k.first.timeout.before in
      let to : Follow mac answers start k.ahead begin = subst (λ (w : WorldRecord H P). Follow mac answers start k.ahead w) (sym c.2.0) c.1 in
      let rest : Follow mac answers begin (all_of rounds) last = subst (λ (w : WorldRecord H P). Follow mac answers w (all_of rounds) last) (sym c.2.0) c.2 in
      subst (λ via. Reaches side via rounds) k.on
      (reached reach serve side first last s (own mac answers side before ++ own mac answers side k.ahead) k.first k.later k.pair k.by n
      (execution_on mac answers (own mac answers side before) (own mac answers side k.ahead) (at side first) (at side start) (at side begin)
      (own_execution mac answers side before first start led) (own_execution mac answers side k.ahead start begin to))
      rest k.line k.kept (λ x has. k.lasting x has) (search k.enough))

  -- what follows a `handle_timeout` call is in the rounds
  pub in_rounds : (rounds : List (SideRound H P)) (r : SideRound H P) (x : Occurrence H P) → Has rounds r → Has r.following x → Has (all_of rounds) x
  in_rounds [] r x has there = absurd has
  in_rounds (z ∷ later) r x (inl is) there = inr (Has-front z.following (all_of later) x (subst (λ (y : SideRound H P). Has y.following x) (sym is) there))
  in_rounds (z ∷ later) r x (inr has) there = inr (Has-rear z.following (all_of later) x (in_rounds later r x has there))

  -- ---- a success response in the rounds

  poll_accepts : (answer : Answer) (ps : List Packet) (path : Path) (y : agent.Call P × Entry) → Has (polled_as answer ps) y → AcceptsSuccessOn y.0 y.1 path → ⊥
  poll_accepts (Rejected error) ps path y has accepts = has
  poll_accepts _ ps path y (inl is) accepts = (subst (λ (z : agent.Call P × Entry). AcceptsSuccessOn z.0 z.1 path) (sym is) accepts).3
  poll_accepts _ ps path y (inr none) accepts = none

  call_accepts : (c : agent.Call P) (e : Entry) (path : Path) → in_world c ≡ true → AcceptsSuccessOn c e path → ⊥
  call_accepts (agent.ReceivePacket now via bytes) e path is accepts = cc
  call_accepts _ e path is accepts = accepts.3

  succeeds_at : (side : Side) (path : Path) (x : Occurrence H P) (y : agent.Call P × Entry) → Has (acts_at mac answers side x) y → AcceptsSuccessOn y.0 y.1 path → Succeeds side path x
  succeeds_at side path x y has accepts = by x.entry.event refl has where
    by : (v : Event P) → x.entry.event ≡ v → Has (acts side x.before v x.entry.outcome.entry) y → Succeeds side path x
    by (world.Call s c) is there = absurd (within (in_world c) refl there) where
      within : (b : Bool) → in_world c ≡ b → Has (only side s (if b then (c, x.entry.outcome.entry) ∷ [] else [])) y → ⊥
      within true inside here = elim (only_own side s ((c, x.entry.outcome.entry) ∷ []) y here).0 [
        | inl same ↦ call_accepts c x.entry.outcome.entry path inside (subst (λ (z : agent.Call P × Entry). AcceptsSuccessOn z.0 z.1 path) (sym same) accepts)
        | inr none ↦ none
      ]
      within false outside here = (only_own side s [] y here).0
    by (world.Poll s) is there =
        absurd (poll_accepts x.entry.outcome.entry.answer (at side x.before).packets path y
        (only_own side s (polled_as x.entry.outcome.entry.answer (at side x.before).packets) y there).0 accepts)
    by (world.Deliver n now via) is there = in_flight (slice_get x.before.network n) refl there where
      in_flight : (o : Option InFlightRecord) → slice_get x.before.network n ≡ o → Has (received_as side now via x.entry.outcome.entry o) y → Succeeds side path x
      in_flight None sent here = absurd here
      in_flight (Some l) sent here = let o = only_own side (other l.sender) ((agent.ReceivePacket now via l.packet.contents, x.entry.outcome.entry) ∷ []) y here in elim o.0 [
        | inl same ↦ record {
          place = n;
          now = now;
          via = via;
          in_flight = l;
          event = is;
          sent = sent;
          its = o.1;
          accepts = subst (λ (z : agent.Call P × Entry). AcceptsSuccessOn z.0 z.1 path) (sym same) accepts;
        }
        | inr none ↦ absurd none
      ]
    by (world.Stray s now via bytes) is there = absurd there

  pub succeeds_in : (side : Side) (path : Path) (xs : List (Occurrence H P)) → IsAnsweredAlong (own mac answers side xs) path → (x : Occurrence H P) × Has xs x × Succeeds side path x
  succeeds_in side path xs (y, has, accepts) = let o = own_from mac answers side xs y has in (o.0, o.1, succeeds_at side path o.0 y o.2 accepts)

  -- ---- both

  -- the rounds in which the other side comes to ask
  abbrev pub rounds_asked : {side : Side} {path its : Path} {part : List (Occurrence H P)} {last : WorldRecord H P} → AsksInRounds mac side path its part last ⊎ IsAskedOver mac side path part
      → List (SideRound H P)
  rounds_asked (inl asking) = asking.rounds.first ∷ asking.rounds.later
  rounds_asked (inr asked) = []

  -- each side comes to its check in rounds, or sent one
  pub both_connect_by : PathTheorem {H = H} {P = P} mac answers → FreshIsSound H P → CarriedAsk {H = H} {P = P} mac answers → CarriedSucceedLater {H = H} {P = P} mac answers
      → AcceptedNominationsAreSelected {H = H} {P = P} mac answers → ExecutionsReachFromDue {H = H} {P = P} mac answers → ServedExecutionsReach {H = H} {P = P} mac answers → (first : WorldRecord H P) (s : Streams) (log : List (LoggedEvent P)) (last : WorldRecord H P) (t : Streams)
      → (run : WorldRun mac answers first s 0 log last t) (before part rest : List (Occurrence H P)) (timeout : Occurrence H P) (side : Side) (path its : Path)
      → IsControlledSegment first (occurrences_in mac answers first s 0 log last t run) before part rest timeout side path
      → (asking : AsksInRounds mac side path its part timeout.before ⊎ IsAskedOver mac side path part)
      → IsAnsweredInRounds mac side path part timeout.before ⊎ IsExchangedOver mac side path part
      → SelectsTop mac answers side (before ++ (part ++ timeout ∷ [])) timeout
      ⊎ (MayEndIn answers side path (part ++ timeout ∷ []) ⊎ MayEndInRounds answers (other side) its (rounds_asked asking))
  both_connect_by paths new_sound asks succeeds announce reach serve first s log last t run before part rest timeout side path its segment asking answers_in =
      elim (ask asking) [
        | inl over ↦
            elim (selected_where mac answers paths new_sound asks succeeds announce first last s before part rest timeout segment.plain.now side path segment.new follow (λ x has. apart_at mac answers side (part ++ timeout ∷ []) x segment.controlled has)
            (λ start led sound on. (over, answer answers_in start led sound on)) segment.plain.event segment.plain.done idle lone) [
              | inl selected_paths ↦ inl selected_paths
              | inr found ↦ inr (inl found)
            ]
        | inr ended ↦ inr (inr (search ended))
      ] where
        idle : request_at segment.plain.now (at side timeout.before) ≡ None
        idle = search segment.plain.serves_none

        lone : IsOnlyPair (at side timeout.following) path
        lone = search segment.only_pair

        follow : Follow mac answers first (before ++ ((part ++ timeout ∷ []) ++ rest)) last
        follow = subst (λ xs. Follow mac answers first xs last) segment.split (follows mac answers first last s t 0 log run)

        part_roles : (x : Occurrence H P) → Has part x → ((at side x.before).controlling ≡ false) × ((at (other side) x.before).controlling ≡ true)
        part_roles x has = apart_at mac answers side (part ++ timeout ∷ []) x segment.controlled (Has-front part (timeout ∷ []) x has)

        ask : (asking : AsksInRounds mac side path its part timeout.before ⊎ IsAskedOver mac side path part) → IsAskedOver mac side path part ⊎ MayEndInRounds answers (other side) its (rounds_asked asking)
        ask (inr asked) = inl asked
        ask (inl asking) =
            let led = cut mac answers before ((part ++ timeout ∷ []) ++ rest) first last follow in
            let on = cut mac answers (part ++ timeout ∷ []) rest led.0 last led.2 in
            by (reached_in reach serve (other side) its first led.0 timeout.before s before part (segment.new (other side)) led.1 (meet mac answers part [] timeout led.0 on.0 on.1).led asking.rounds) where
              by : Reaches (other side) its (asking.rounds.first ∷ asking.rounds.later) → IsAskedOver mac side path part ⊎ MayEndInRounds answers (other side) its (asking.rounds.first ∷ asking.rounds.later)
              by (inl (r, has, sent)) = inl (let so = asking.asks r has in search (so.asked sent))
              by (inr (inl (r, has, is))) = inl (let x = succeeds_in (other side) its r.following is in let so = asking.asks r has in search (so.early x.0 x.1 x.2))
              by (inr (inr ended)) = inr ended

        within : (answers_in : IsAnsweredInRounds mac side path part timeout.before) → (x : Occurrence H P) → Has (all_of (answers_in.rounds.first ∷ answers_in.rounds.later)) x → Has part x
        within answers_in x has = subst (λ xs. Has xs x) (sym answers_in.rounds.split) (Has-rear answers_in.rounds.ahead (all_of (answers_in.rounds.first ∷ answers_in.rounds.later)) x has)

        answer : IsAnsweredInRounds mac side path part timeout.before ⊎ IsExchangedOver mac side path part → (start : WorldRecord H P) → Follow mac answers first before start → AreSound start → Follow mac answers start part timeout.before
            → IsAnsweredAlong (own mac answers side part) path ⊎ Found mac answers side path (part ++ timeout ∷ [])
        answer (inr exchanged) start led sound on =
            answered mac answers paths asks succeeds part (part ++ timeout ∷ []) start timeout.before sound on (λ x there. Has-front part (timeout ∷ []) x there) side path part_roles exchanged
        answer (inl answers_in) start led sound on = by (reached_in reach serve side path first start timeout.before s before part (segment.new side) led on answers_in.rounds) where
          by : Reaches side path (answers_in.rounds.first ∷ answers_in.rounds.later) → IsAnsweredAlong (own mac answers side part) path ⊎ Found mac answers side path (part ++ timeout ∷ [])
          by (inl (r, has, sent)) =
              answered mac answers paths asks succeeds part (part ++ timeout ∷ []) start timeout.before sound on (λ x there. Has-front part (timeout ∷ []) x there) side path part_roles
              (search (answers_in.answered r has sent))
          by (inr (inl (r, has, (y, in_round, accepts)))) =
              let o = own_from mac answers side r.following y in_round in
              inl (y, own_has mac answers side part o.0 y (within answers_in o.0 (in_rounds (answers_in.rounds.first ∷ answers_in.rounds.later) r o.0 has o.1)) o.2, accepts)
          by (inr (inr (r, has, (x, in_round, ends)))) =
              inr (x, Has-front part (timeout ∷ []) x (within answers_in x (in_rounds (answers_in.rounds.first ∷ answers_in.rounds.later) r x has in_round)), ends)

  pub both_connect : PathTheorem {H = H} {P = P} mac answers → FreshIsSound H P → CarriedAsk {H = H} {P = P} mac answers → CarriedSucceedLater {H = H} {P = P} mac answers
      → AcceptedNominationsAreSelected {H = H} {P = P} mac answers → ExecutionsReachFromDue {H = H} {P = P} mac answers → ServedExecutionsReach {H = H} {P = P} mac answers → (first : WorldRecord H P) (s : Streams) (log : List (LoggedEvent P)) → BothConnect mac answers first s log
  both_connect paths new_sound asks succeeds announce reach serve first s log last t run before part rest timeout side path its segment asking answers_in =
      both_connect_by paths new_sound asks succeeds announce reach serve first s log last t run before part rest timeout side path its segment (inl asking) (inl answers_in)
