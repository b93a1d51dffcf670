-- Renomination (`set_renomination`): each nomination replaces the ones before. If both agents have this setting, both select one
-- path, whatever priorities each has.
use Rattle.std.specs.Prelude.{◌≡◌, ℕ, ◌⊎◌, true, false, List, [], ◌∷◌, ◌++◌, Option, Some, None}
use Rattle.rand_core.specs.Stream.{Stream}
use Rattle.is_proto.specs.Packets.{Packet}
use Rattle.is_candidate.specs.Candidates.{CandidateRecord}
use Rattle.is_pair.specs.Pairs.{PairRecord}
use Rattle.is_stun.specs.declared.header.Class.TheVariants.{Request}
use Rattle.is_stun.specs.Message.{Message}
use Rattle.is_stun.specs.Reading.{Reads}
use Rattle.is_rules.specs.declared.emitted.Path.{Path}
use Rattle.is_rules.specs.Agent.{AgentRecord}
use Rattle.is_theorems.specs.Asked.{IsOnlyPair, IsAnsweredIn, IsAskedOn, MayEndIn}
use Rattle.is_theorems.specs.Delivery.{Sends}
use Rattle.is_rules.specs.Issuing.{via_out}
use Rattle.is_theorems.specs.Logs.{Logged, last_selected}
use Rattle.is_rules.specs.Nominating.{eligible_numbered, followed, numbers}
use Rattle.is_rules.specs.Points.{IsNominationPoint}
use Rattle.is_rules.specs.Queue.{request_at}
use Rattle.is_theorems.specs.Rounds.{Part, RunsOn}
use Rattle.is_theorems.specs.Runs.{AtEach, IsFresh, Point}
use Rattle.is_rules.specs.Sending.{path_of}
use Rattle.is_rules.specs.Steps.{Done, HandleTimeout}

module _ {H P : Type 0} where
  -- The peer nominates no path.
  abbrev pub NominatesNone : AgentRecord H P → Logged P → AgentRecord H P → Type 0
  NominatesNone old x new = (path : Path) → ¬ IsAskedOn old x new path

  module _ (mac : H → List ℕ → List ℕ → List ℕ) (answers : P → CandidateRecord → ℕ → ℕ → Type 0) where
    -- ---- the controlling agent

    -- This entry sends a check with USE-CANDIDATE, while nominations replace earlier ones.
    pub record SendsNomination (first : AgentRecord H P) (s : Stream) (log before : List (Logged P)) (x : Logged P) (check : Packet) : Type 0 where
      pub mid : AgentRecord H P
      pub after : AgentRecord H P
      pub point : Point mac answers first s log before mid x after
      pub now : ℕ
      pub comes : x.call ≡ HandleTimeout now
      pub id : List ℕ
      pub sends : Sends mid x.entry Request id check after
      pub message : Message
      pub reads : Reads check.contents message
      pub asks : message.attributes.use_candidate ≡ true
      pub renominates : after.renominates ≡ true

    -- While nominations replace earlier ones, a check with USE-CANDIDATE is sent on the path that was selected last.
    abbrev pub OnlySelectedAreNominated : Type 0
    OnlySelectedAreNominated =
        (first : AgentRecord H P) (s : Stream) (log before : List (Logged P)) (x : Logged P) (check : Packet) → IsFresh first
        → SendsNomination first s log before x check → last_selected (x ∷ before) ≡ Some (via_out check)

    -- ---- the controlled agent

    -- At each nomination point the agent selects the pair that it follows, if that one is eligible.
    abbrev pub FollowedAreSelected : Type 0
    FollowedAreSelected =
        (first : AgentRecord H P) (s : Stream) (log : List (Logged P)) → IsFresh first
        → AtEach mac answers first s log (λ before mid x after. IsNominationPoint mid x.call x.entry → (number : ℕ) (p : PairRecord)
        → followed after ≡ Some number → eligible_numbered after.controlling after.pairs number ≡ Some p
        → (after.selected_pair ≡ Some number) × (last_selected (x ∷ before) ≡ Some (path_of after p)))

    -- The last path that the peer nominates in the segment is this one.
    abbrev pub IsAskedLast : (before : List (Logged P)) (start : AgentRecord H P) (s : Stream) (part : List (Logged P)) (last : AgentRecord H P) (t : Stream)
        → RunsOn mac answers before start s part last t → Path → Type 0
    IsAskedLast before start s [] last t run path = ⊥
    IsAskedLast before start s (x ∷ part) last t run path =
        IsAskedOn run.0 x last path
        ⊎ (NominatesNone run.0 x last × IsAskedLast before start s part run.0 run.1 run.2 path)

    -- In a segment of the log the peer nominated this path last, and a success response was received on it, in either order. A
    -- `handle_timeout` call that serves no early request follows, after which the agent is controlled and only one pair uses the
    -- path's addresses.
    pub record IsToFollow (first : AgentRecord H P) (s : Stream) (log before part : List (Logged P)) (timeout : Logged P) (path : Path) : Type 0 where
      pub start : AgentRecord H P
      pub last : AgentRecord H P
      pub found : Part mac answers first s log before start (timeout ∷ part) last
      pub now : ℕ
      pub comes : timeout.call ≡ HandleTimeout now
      pub done : timeout.entry.answer ≡ Done
      pub none : request_at now found.run.0 ≡ None
      pub renominates : last.renominates ≡ true
      pub unnumbered : numbers last ≡ false
      pub controlled : last.controlling ≡ false
      pub asked : IsAskedLast before start found.at part found.run.0 found.run.1 found.run.2 path
      pub answered : IsAnsweredIn part path
      pub only_pair : IsOnlyPair last path

    -- The peer nominated this path last, and a success response was received on it (`IsToFollow`). Then the agent selects it by the end of
    -- the call, unless a pair that uses its addresses may have been removed. No priorities are compared.
    abbrev pub LastAskedAreSelected : Type 0
    LastAskedAreSelected =
        (first : AgentRecord H P) (s : Stream) (log before part : List (Logged P)) (timeout : Logged P) (path : Path) → IsFresh first
        → IsToFollow first s log before part timeout path
        → (last_selected (timeout ∷ (part ++ before)) ≡ Some path) ⊎ MayEndIn mac answers first s log (timeout ∷ part) path

    -- ---- both agents

    -- The agent nominated the path by this check, and selected no other path since then.
    pub record HasNominated (first : AgentRecord H P) (s : Stream) (log : List (Logged P)) (path : Path) : Type 0 where
      pub before : List (Logged P)
      pub x : Logged P
      pub check : Packet
      pub sends : SendsNomination first s log before x check
      pub on : via_out check ≡ path
      pub stays : last_selected log ≡ last_selected (x ∷ before)

    -- `seen` maps a path of the controlling agent to the one that the controlled agent sees. Both selected the same path last.
    abbrev pub AreOnOnePath : (Path → Option Path) → List (Logged P) → List (Logged P) → Type 0
    AreOnOnePath seen near far = (path its : Path) × (last_selected near ≡ Some path) × (last_selected far ≡ Some its) × (seen path ≡ Some its)

    -- The controlling agent nominated a path, and selected no other one since. The controlled agent was nominated this path last, as
    -- it sees it, and received a success response on it. Then both are on one path, whatever priorities each has.
    abbrev pub BothSelectOnePath : Type 0
    BothSelectOnePath =
        (seen : Path → Option Path) (first second : AgentRecord H P) (s t : Stream) (near before part : List (Logged P)) (timeout : Logged P) (path its : Path)
        → IsFresh first → IsFresh second → HasNominated first s near path → IsToFollow second t (timeout ∷ (part ++ before)) before part timeout its
        → seen path ≡ Some its
        → AreOnOnePath seen near (timeout ∷ (part ++ before)) ⊎ MayEndIn mac answers second t (timeout ∷ (part ++ before)) (timeout ∷ part) its
