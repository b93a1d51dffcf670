-- What an agent stores, and what waits in it, along a log. The preconditions that mutants/specifications changes are read by tactics where they
-- are used: if one of them is weaker, that goal stays unproved.
use Rattle.is_theorems.specs.Bounds.{IsLimited}
use Rattle.is_theorems.specs.Logs as agent
use Rattle.is_theorems.specs.Runs as runs
use Rattle.is_theorems.specs.Limited.{DiscoveriesStayFew, FormsFewAt, IsLimitedAt, ListsStayBounded, PairsStayFew}
use Rattle.is_theorems.specs.Waiting.{IsShort, QueuesAreShort, discovery_count}
use Rattle.is.specs.Floods.{QueuesStayShort, DiscoveriesAreFew, IsLimitedFor, BothAreBounded, BothHaveFewPairs, BothAreShort}
use Rattle.is.specs.Floods.{BothDiscoverFew}
use Rattle.is.proofs.Common.{[], ◌++◌, ◌∷◌, ◌≡◌, ◌≤◌, AgentRecord, at, BeforeEach, CandidateRecord, deeper, false, Has, IsFresh}
use Rattle.is.proofs.Common.{IsNewlyCreated, later_point, List, LoggedEvent, Occurrence, occurrences_in, own_at, own_log, refl, run_to}
use Rattle.is.proofs.Common.{shared_run, Side, Stream, Streams, subst, WorldRecord, WorldRun, ℕ}
use Rattle.is.proofs.TwoAgentEvents.EventsOfSegments.{Follow, follows, cut}
use Rattle.is.proofs.TwoAgentEvents.OwnLogs.{Led, along, ends}

module _ {H P : Type 0} (mac : H → List ℕ → List ℕ → List ℕ) (answers : P → CandidateRecord → ℕ → ℕ → Type 0) where
  -- ---- one agent

  pub new_first : (a : AgentRecord H P) → IsFresh a → IsNewlyCreated a
  new_first a (creds, tie, is) = (creds, tie, false, is)

  pub queues_stay_short : QueuesAreShort {H = H} mac answers → (first : AgentRecord H P) (s : Stream) (log : List (agent.Logged P)) → IsFresh first → QueuesStayShort mac answers first s log
  queues_stay_short law first s log fresh before mid after x point =
      let short : IsShort (x ∷ before) after =
      law first after (x ∷ before) (new_first first fresh) (shared_run mac answers first s (x ∷ before) after point.following (run_to mac answers first s log before mid x after point)) in
      search short

  -- what holds of each entry of a log holds along the execution
  before_each : (most : ℕ) (first last : AgentRecord H P) (s t : Stream) (log : List (agent.Logged P)) → (run : runs.Run mac answers first s log last t) → IsLimited mac answers most first s log
      → BeforeEach mac answers (IsLimitedAt most) first log last (shared_run mac answers first s log last t run)
  before_each most first last s t [] run limited = tt
  before_each most first last s t (x ∷ before) (mid, u, run, number, based, step) limited = (
    limited before mid last x (record { rest = []; split = refl; at = u; led = run; number = number; given = based; following = t; step = step }),
    before_each most first mid s u before run (λ b m a y p. limited b m a y (later_point mac answers first s x before b m y a p)),
  )

  pub discoveries_are_few : DiscoveriesStayFew {H = H} mac answers → (first : AgentRecord H P) (s : Stream) (log : List (agent.Logged P)) → IsFresh first
      → DiscoveriesAreFew mac answers first s log
  discoveries_are_few law first s log fresh most limited before mid after x point =
      let run = run_to mac answers first s log before mid x after point in
      let limits : IsLimited mac answers most first s log = search limited in
      let few : discovery_count after.events ≤ most =
      law most first after (x ∷ before) (new_first first fresh) (shared_run mac answers first s (x ∷ before) after point.following run)
      (before_each most first after s point.following (x ∷ before) run (λ b m a y p. limits b m a y (deeper mac answers first s log (x ∷ before) point.rest b m y a point.split p))) in
      search few

  -- ---- two agents

  -- the side's own execution up to an entry
  pub own_run : (Fits : AgentRecord H P → agent.Logged P → Type 0) (first : WorldRecord H P) (s : Streams) (log : List (LoggedEvent P)) (last : WorldRecord H P) (t : Streams)
      (run : WorldRun mac answers first s 0 log last t) (before rest : List (Occurrence H P)) (x : Occurrence H P) (side : Side)
      → occurrences_in mac answers first s 0 log last t run ≡ (before ++ x ∷ []) ++ rest
      → ((z : Occurrence H P) → Has (before ++ x ∷ []) z → (y : agent.Logged P) → Has (own_at side z) y → Fits (at side z.before) y)
      → Led mac answers Fits (at side first) (own_log side [] (before ++ x ∷ [])) (at side x.following)
  own_run Fits first s log last t run before rest x side split fits =
      let k = cut mac answers (before ++ x ∷ []) rest first last (subst (λ xs. Follow mac answers first xs last) split (follows mac answers first last s t 0 log run)) in
      subst (λ (w : WorldRecord H P). Led mac answers Fits (at side first) (own_log side [] (before ++ x ∷ [])) (at side w)) (ends mac answers before x first k.0 k.1)
      (along mac answers Fits (at side first) side (before ++ x ∷ []) first k.0 [] k.1 fits (refl, tt))

  pub both_are_bounded : ListsStayBounded {H = H} mac answers → (first : WorldRecord H P) (s : Streams) (log : List (LoggedEvent P)) → BothAreBounded mac answers first s log
  both_are_bounded law first s log last t run before rest x side new split most limited =
      let k = own_run (IsLimitedAt most) first s log last t run before rest x side split (λ z has y own. search (limited z has y own)) in
      law most (at side first) (at side x.following) (own_log side [] (before ++ x ∷ [])) (new side) k.0 k.1

  pub both_have_few_pairs : PairsStayFew {H = H} mac answers → (first : WorldRecord H P) (s : Streams) (log : List (LoggedEvent P)) → BothHaveFewPairs mac answers first s log
  both_have_few_pairs law first s log last t run before rest x side new split limit few =
      let k = own_run (FormsFewAt limit) first s log last t run before rest x side split (λ z has y own. search (few z has y own)) in
      law limit (at side first) (at side x.following) (own_log side [] (before ++ x ∷ [])) (new side) k.0 k.1

  pub both_are_short : QueuesAreShort {H = H} mac answers → (first : WorldRecord H P) (s : Streams) (log : List (LoggedEvent P)) → BothAreShort mac answers first s log
  both_are_short law first s log last t run before rest x side new split =
      let k = own_run (λ a y. Unit {0}) first s log last t run before rest x side split (λ z has y own. tt) in
      let short : IsShort (own_log side [] (before ++ x ∷ [])) (at side x.following) = law (at side first) (at side x.following) (own_log side [] (before ++ x ∷ [])) (new side) k.0 in
      search short

  pub both_discover_few : DiscoveriesStayFew {H = H} mac answers → (first : WorldRecord H P) (s : Streams) (log : List (LoggedEvent P)) → BothDiscoverFew mac answers first s log
  both_discover_few law first s log last t run before rest x side new split most limited =
      let limits : IsLimitedFor side most (before ++ x ∷ []) = search limited in
      let k = own_run (IsLimitedAt most) first s log last t run before rest x side split (λ z has y own. search (limits z has y own)) in
      let few : discovery_count (at side x.following).events ≤ most = law most (at side first) (at side x.following) (own_log side [] (before ++ x ∷ [])) (new side) k.0 k.1 in
      search few
