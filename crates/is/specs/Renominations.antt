-- How two agents with renomination come to be on one path: both select the path that the controlling one nominated last.
use Rattle.std.specs.Prelude.{◌≡◌, ℕ, ◌||◌, true, false, List, [], ◌∷◌, ◌++◌, None, Some, is_some, ◌⊎◌, slice_get}
use Rattle.is_proto.specs.Lists.{Has}
use Rattle.is_candidate.specs.Candidates.{CandidateRecord}
use Rattle.is_stun.specs.declared.header.Class.TheVariants.{Request}
use Rattle.is_stun.specs.Message.{Message}
use Rattle.is_stun.specs.Reading.{Reads}
use Rattle.is_rules.specs.declared.emitted.Path.{Path}
use Rattle.is_theorems.specs.Asking.{AreNominatedOn}
use Rattle.is_rules.specs.Effects.{last_of}
use Rattle.is_rules.specs.Emitted.{reversed}
use Rattle.is_theorems.specs.Logs.{last_selected}
use Rattle.is_theorems.specs.Numbered.{LeadsByNumber}
use Rattle.is_rules.specs.Nominating.{numbers}
use Rattle.is_rules.specs.Queue.{request_at}
use Rattle.is_rules.specs.Steps as agent
use Rattle.is.specs.declared.world_events.Side.{Side}
use Rattle.is.specs.AcceptedNominationsIn.{Occurrence, HandedCheck, IsExchangedOver, occurrences_in}
use Rattle.is.specs.AcceptedNominations.{IsControlledSegment, MayEndIn}
use Rattle.is.specs.Sides.{own_log}
use Rattle.is.specs.World.{WorldRecord, InFlightRecord, Call, Deliver, LoggedEvent, WorldRun, at, other, Streams}

module _ {H P : Type 0} where
  -- Both agents have renomination after each of these entries.
  abbrev pub Renominate : List (Occurrence H P) → Type 0
  Renominate all = (x : Occurrence H P) → Has all x → (side : Side) → (at side x.following).renominates ≡ true

  -- At this entry the side selects no path, and does not clear its pairs.
  abbrev pub KeepsSelected : Side → Occurrence H P → Type 0
  KeepsSelected side x =
      x.entry.outcome.side ≡ Some side → (last_of x.entry.outcome.entry.emitted.selected_paths ≡ None) × (x.entry.outcome.clear ≡ false)

  -- The side is nominated no other path at this entry: each request with USE-CANDIDATE or NOMINATION that is delivered to it comes on
  -- the reverse path, and it serves no early request.
  pub record NominatesNoOther (side : Side) (path : Path) (x : Occurrence H P) : Type 0 where
    pub comes : (place now : ℕ) (via : Path) (sent : InFlightRecord) (m : Message) → x.entry.event ≡ Deliver place now via → slice_get x.before.network place ≡ Some sent
        → sent.sender ≡ other side → Reads sent.packet.contents m → m.class ≡ Request
        → (m.attributes.use_candidate || is_some m.attributes.nomination) ≡ true → via ≡ reversed path
    pub early : (now : ℕ) → x.entry.event ≡ Call side (agent.HandleTimeout now) → request_at now (at side x.before) ≡ None

  -- The other side nominates the path: it sends a check on a path of its own, `its`, whose pairs are nominated, and after that it
  -- selects no path. The check is delivered on the reverse path.
  pub record IsNominated (mac : H → List ℕ → List ℕ → List ℕ) (side : Side) (its path : Path) (all : List (Occurrence H P)) : Type 0 where
    pub check : HandedCheck mac (other side) its (reversed path) all
    pub nominated : AreNominatedOn (at (other side) check.sent.following) its
    pub stays : (x : Occurrence H P) → Has check.following x → KeepsSelected (other side) x

  -- The other side nominates the path last: no other path is nominated to the side after that.
  pub record IsNominatedLast (mac : H → List ℕ → List ℕ → List ℕ) (side : Side) (its path : Path) (all : List (Occurrence H P)) : Type 0 where
    pub here : IsNominated mac side its path all
    pub last : (x : Occurrence H P) → Has here.check.comes.rest x → NominatesNoOther side path x

  -- In these entries, which are a log from the start, the side selected this path last.
  abbrev pub IsSelectedLast : Side → Path → List (Occurrence H P) → Type 0
  IsSelectedLast side path all = last_selected (own_log side [] all) ≡ Some path

  module _ (mac : H → List ℕ → List ℕ → List ℕ) (answers : P → CandidateRecord → ℕ → ℕ → Type 0) where
    -- In a segment as that of `AcceptedNominationsSelect` both have renomination, and at its end the nominations of the controlled side
    -- have no numbers. In it the controlling side nominates a path last, and
    -- the controlled side's own check on it is answered, in either order and at any time, also through NATs. By its end both selected
    -- this path last, each as it sees it: the controlling side `its`, on which it sent the nomination, and the controlled side `path`,
    -- on whose reverse that arrived. For the controlled side none of its calls may have removed a pair of the path.
    abbrev pub OnePathIsSelected : WorldRecord H P → Streams → List (LoggedEvent P) → Type 0
    OnePathIsSelected first s log =
        (last : WorldRecord H P) (t : Streams) (run : WorldRun mac answers first s 0 log last t) (before part rest : List (Occurrence H P)) (timeout : Occurrence H P)
        (side : Side) (its path : Path)
        → IsControlledSegment first (occurrences_in mac answers first s 0 log last t run) before part rest timeout side path
        → Renominate (part ++ timeout ∷ []) → numbers (at side timeout.following) ≡ false → IsNominatedLast mac side its path part → IsExchangedOver mac side path part
        → IsSelectedLast (other side) its (before ++ (part ++ timeout ∷ []))
        × (IsSelectedLast side path (before ++ (part ++ timeout ∷ [])) ⊎ MayEndIn answers side path (part ++ timeout ∷ []))

    -- In a segment as that of `AcceptedNominationsSelect` both have renomination, and the controlling side nominates a path and selects no
    -- other one after that. At its end the controlled side goes by numbers, and a pair on the path is eligible and was nominated by a
    -- greater number than all others. Then both selected this path last, whatever other nominations were delivered, and when.
    abbrev pub LeadingPathIsSelected : WorldRecord H P → Streams → List (LoggedEvent P) → Type 0
    LeadingPathIsSelected first s log =
        (last : WorldRecord H P) (t : Streams) (run : WorldRun mac answers first s 0 log last t) (before part rest : List (Occurrence H P)) (timeout : Occurrence H P)
        (side : Side) (its path : Path) (number : ℕ)
        → IsControlledSegment first (occurrences_in mac answers first s 0 log last t run) before part rest timeout side path
        → Renominate (part ++ timeout ∷ []) → IsNominated mac side its path part → LeadsByNumber (at side timeout.following) number path
        → IsSelectedLast (other side) its (before ++ (part ++ timeout ∷ []))
        × IsSelectedLast side path (before ++ (part ++ timeout ∷ []))
