-- Executions of one agent from an abstract state, and what holds at each entry of their logs.
use Rattle.std.specs.Prelude.{◌≡◌, ℕ, true, false, List, [], ◌∷◌, ◌++◌, length, Some}
use Rattle.rand_core.specs.Stream.{Stream}
use Rattle.is_proto.specs.Lists.{Has}
use Rattle.is_candidate.specs.Candidates.{CandidateRecord}
use Rattle.is_pair.specs.Pairs.{PairRecord, is_valid}
use Rattle.is_stun.specs.declared.header.Class.TheVariants as class
use Rattle.is_stun.specs.Message.{Message}
use Rattle.is_rules.specs.declared.credentials.IceCreds.{IceCreds}
use Rattle.is_rules.specs.declared.emitted.Issued.{Issued}
use Rattle.is_rules.specs.declared.emitted.Path.{Path}
use Rattle.is_rules.specs.Emitted.{nothing_emitted}
use Rattle.is_rules.specs.Request.{request_in}
use Rattle.is_rules.specs.Serving.{nominates}
use Rattle.is_rules.specs.Agent.{AgentRecord, fresh}
use Rattle.is_rules.specs.Nominating.{is_eligible}
use Rattle.is_rules.specs.Answers.{keeps_check_on}
use Rattle.is_rules.specs.Steps.{Call, Entry, is_not_accepted, Step}
use Rattle.is_rules.specs.Sound.{IsSound, GivesBased}
use Rattle.is_rules.specs.Brought.{Brings, IsNominatedOn}
use Rattle.is_rules.specs.Owed.{AreAmong}
use Rattle.is_rules.specs.Points.{HasSelected, IsNominationPoint}
use Rattle.is_rules.specs.Effects.{IsNotAccepted}
use Rattle.is_theorems.specs.Logs.{Logged, NeverLite, last_selected, requests, replies, IsAnsweredBy, NominatedByPeer}
use Rattle.is_theorems.specs.Shared.{IsControlledSince, SharedRun}

-- The agent is newly created.
abbrev pub IsFresh : {H P : Type 0} → AgentRecord H P → Type 0
IsFresh a = (creds : IceCreds) × (tie_breaker : ℕ) × (a ≡ fresh a.provider creds tie_breaker)

module _ {H P : Type 0} (mac : H → List ℕ → List ℕ → List ℕ) (answers : P → CandidateRecord → ℕ → ℕ → Type 0) where
  -- The log may be that of an execution from the first state to the last: each call is a transition. Entries are numbered from 0.
  abbrev pub Run : AgentRecord H P → Stream → List (Logged P) → AgentRecord H P → Stream → Type 0
  Run first s [] last t = (last ≡ first) × (t ≡ s)
  Run first s (x ∷ before) last t =
      (mid : AgentRecord H P) × (u : Stream) × Run first s before mid u
      × (x.number ≡ length before) × GivesBased x.call × Step mac answers mid u x.call x.entry last t

  -- An execution with one random source is one with shared random words, which come from one stream.
  abbrev pub shared_run : (first : AgentRecord H P) (s : Stream) (log : List (Logged P)) (last : AgentRecord H P) (t : Stream)
      → Run first s log last t → SharedRun mac answers first log last
  shared_run first s [] last t run = run.0
  shared_run first s (x ∷ before) last t run = (run.0, run.1, t, shared_run first s before run.0 run.1 run.2, run.4, run.5)

  -- ---- log entries

  -- x is in the log: the log before it led to the state mid, and x leads from mid to after.
  pub record Point (first : AgentRecord H P) (s : Stream) (log before : List (Logged P)) (mid : AgentRecord H P) (x : Logged P)
      (after : AgentRecord H P) : Type 0 where
    pub rest : List (Logged P)
    pub split : log ≡ rest ++ x ∷ before
    pub at : Stream
    pub led : Run first s before mid at
    pub number : x.number ≡ length before
    pub given : GivesBased x.call
    pub following : Stream
    pub step : Step mac answers mid at x.call x.entry after following

  -- the execution up to and including an entry
  abbrev pub run_to : (first : AgentRecord H P) (s : Stream) (log before : List (Logged P)) (mid : AgentRecord H P) (x : Logged P)
      (after : AgentRecord H P)
      → (point : Point first s log before mid x after) → Run first s (x ∷ before) after point.following
  run_to first s log before mid x after point = (mid, point.at, point.led, point.number, point.given, point.step)

  -- The property holds at each entry of the log.
  abbrev pub AtEach : AgentRecord H P → Stream → List (Logged P) → (List (Logged P) → AgentRecord H P → Logged P → AgentRecord H P → Type 0) → Type 0
  AtEach first s log Holds =
      (before : List (Logged P)) (mid after : AgentRecord H P) (x : Logged P) → Point first s log before mid x after → Holds before mid x after

  -- ---- properties at each entry

  -- Each selected path is answered.
  abbrev pub PathsAreAnswered : AgentRecord H P → Stream → List (Logged P) → Type 0
  PathsAreAnswered first s log =
      AtEach first s log (λ before mid x after. (path : Path) → Has x.entry.emitted.selected_paths (Some path)
      → IsAnsweredBy mac first.provider x before path)

  -- Each path that is selected while the agent was controlled since the last clear was nominated by the peer.
  abbrev pub PathsAreNominatedByPeer : AgentRecord H P → Stream → List (Logged P) → Type 0
  PathsAreNominatedByPeer first s log =
      (before : List (Logged P)) (mid after : AgentRecord H P) (x : Logged P) (point : Point first s log before mid x after)
      → IsControlledSince mac answers first (x ∷ before) after
      (mid, point.at, point.following, shared_run first s before mid point.at point.led, point.given, point.step)
      → (path : Path) → Has x.entry.emitted.selected_paths (Some path) → NominatedByPeer (x ∷ before) path

  -- The path that was selected last is that of an eligible pair with the greatest stored priority. If the agent follows its peer,
  -- it is that of the favored pair, if there is one.
  abbrev pub IsTopPath : List (Logged P) → AgentRecord H P → Type 0
  IsTopPath log a = HasSelected (last_selected log) a

  -- This holds at each nomination point at which a pair is eligible.
  abbrev pub LastPathsAreTop : AgentRecord H P → Stream → List (Logged P) → Type 0
  LastPathsAreTop first s log =
      AtEach first s log (λ before mid x after. IsNominationPoint mid x.call x.entry
      → (p : PairRecord) → Has after.pairs p → is_eligible after.controlling p ≡ true → IsTopPath (x ∷ before) after)

  -- After an accepted success response, a pair that has the pending transaction with its ID, on its path, is valid.
  abbrev pub SuccessesMakeValid : AgentRecord H P → Stream → List (Logged P) → Type 0
  SuccessesMakeValid first s log =
      AtEach first s log (λ before mid x after. (at : ℕ) (by : Path) (m : Message) → Brings x.call x.entry at by m → m.class ≡ class.Success
      → (p : PairRecord) × Has after.pairs p × (keeps_check_on after by m.id p ≡ true) × (is_valid p ≡ true))

  -- If a request that nominates its pair is received and gets a success response, and the agent is controlled afterwards, a pair on the path
  -- of the response is nominated. Requests nominate by USE-CANDIDATE, or if nominations have numbers, by NOMINATION (`nominates`).
  abbrev pub RequestsNominate : AgentRecord H P → Stream → List (Logged P) → Type 0
  RequestsNominate first s log =
      AtEach first s log (λ before mid x after. (at : ℕ) (by : Path) (m : Message) (issued : Issued) → Brings x.call x.entry at by m
      → nominates mid (request_in at by m) ≡ true → x.entry.emitted.issued ≡ Some issued → issued.class ≡ class.Success → after.controlling ≡ false
      → IsNominatedOn after issued.path)

  -- ---- the theorems

  -- Each entry of an execution's log is a point of it.
  abbrev pub EntriesArePoints : Type 0
  EntriesArePoints =
      (first last : AgentRecord H P) (s t : Stream) (rest before : List (Logged P)) (x : Logged P) → Run first s (rest ++ x ∷ before) last t
      → (mid after : AgentRecord H P) × Point first s (rest ++ x ∷ before) before mid x after

  -- An execution from a newly created agent ends in a state that satisfies the invariant. So the effect lemmas apply at each
  -- entry.
  abbrev pub RunsAreSound : Type 0
  RunsAreSound = (first last : AgentRecord H P) (s t : Stream) (log : List (Logged P)) → IsFresh first → Run first s log last t → IsSound last

  abbrev pub SelectedAreAnswered : Type 0
  SelectedAreAnswered = (first : AgentRecord H P) (s : Stream) (log : List (Logged P)) → IsFresh first → NeverLite log → PathsAreAnswered first s log

  abbrev pub SelectedAreNominatedByPeer : Type 0
  SelectedAreNominatedByPeer = (first : AgentRecord H P) (s : Stream) (log : List (Logged P)) → IsFresh first → NeverLite log → PathsAreNominatedByPeer first s log

  -- Whether the agent is lite or not.
  abbrev pub PointsAreTop : Type 0
  PointsAreTop = (first : AgentRecord H P) (s : Stream) (log : List (Logged P)) → IsFresh first → LastPathsAreTop first s log

  abbrev pub TakersAreValid : Type 0
  TakersAreValid = (first : AgentRecord H P) (s : Stream) (log : List (Logged P)) → IsFresh first → SuccessesMakeValid first s log

  abbrev pub AskedAreNominated : Type 0
  AskedAreNominated = (first : AgentRecord H P) (s : Stream) (log : List (Logged P)) → IsFresh first → RequestsNominate first s log

  -- The responses are, as a multiset, among the accepted Binding requests.
  abbrev pub RepliesAreAmong : Type 0
  RepliesAreAmong =
      (first last : AgentRecord H P) (s t : Stream) (log : List (Logged P)) → IsFresh first → Run first s log last t
      → AreAmong (replies log) (requests log)

  -- Bytes that do not encode an accepted message change nothing and emit nothing. The call returns false or the parse fault.
  abbrev pub UnacceptedChangeNothing : Type 0
  UnacceptedChangeNothing =
      (old new : AgentRecord H P) (s t : Stream) (call : Call P) (e : Entry) → Step mac answers old s call e new t → IsNotAccepted mac old call
      → (new ≡ old) × (e.emitted ≡ nothing_emitted) × (is_not_accepted e.answer ≡ true)
