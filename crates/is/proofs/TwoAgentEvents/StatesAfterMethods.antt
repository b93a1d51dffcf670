-- The state after a method is the one that its event describes.
use Rattle.is_rules.specs.Steps as agent
use Rattle.is.proofs.Common.{[], ◌∙◌, ◌∷◌, ◌≡◌, A, AgentRecord, Answer, ap, at, B, Bool, CandidateRecord, Class, clears, Deliver, Delivers}
use Rattle.is.proofs.Common.{drawn_by, false, fault_of, GivesBased, Happens, in_world, InFlightRecord, LeavesOut, List, map, message_of}
use Rattle.is.proofs.Common.{moved_by, None, NoSuchPacket, Option, option_map, other, Outcome, Path, plain, Poll, PolledInto, put, quiet}
use Rattle.is.proofs.Common.{read_unless, Receives, refl, roles_of, Side, slice_get, Some, source_of, Step, Stray, Stream, Streams, subst}
use Rattle.is.proofs.Common.{suc, sym, TakesTurn, TransId, true, WorldRecord, zero, ℕ}

pub get-map : {X Y : Type 0} (f : X → Y) (xs : List X) (n : ℕ) (o : Option X) → slice_get xs n ≡ o → slice_get (map f xs) n ≡ option_map f o
get-map f [] n o is = ap (option_map f) is
get-map f (x ∷ xs) zero o is = ap (option_map f) is
get-map f (x ∷ xs) (suc n) o is = get-map f xs n o is

other-other : (s : Side) → other (other s) ≡ s
other-other A = refl
other-other B = refl

undrawn : (side : Side) (s : Streams) → s ≡ drawn_by side (source_of side s) s
undrawn A s = refl
undrawn B s = refl

module _ {H P : Type 0} (mac : H → List ℕ → List ℕ → List ℕ) (answers : P → CandidateRecord → ℕ → ℕ → Type 0) where
  pub reversed : (side : Side) (w : WorldRecord H P) (s t : Streams) (left : Stream) (c : agent.Call P) (new : AgentRecord H P) (entry : agent.Entry) (e : Outcome) (clear : Bool) (moved : Option (Class × TransId))
      → Step mac answers (at side w) (source_of side s) c entry new left → t ≡ drawn_by side left s → GivesBased c → clear ≡ clears c entry.answer → moved ≡ moved_by c
      → e ≡ record { entry = entry; controlling = roles_of (put side new w); side = Some side; clear = clear; moved = moved }
      → TakesTurn mac answers w s side c e (put side new w) t
  reversed side w s t left c new entry e clear moved step drawn given clear_is moved_is is = subst (λ x. TakesTurn mac answers w s side c x (put side new w) t) (sym is)
      (record { new = new; left = left; step = step; drawn = drawn; given = given; world = refl; roles = refl; side_is = refl; clear = clear_is; moved = moved_is })

  pub polled : (side : Side) (w : WorldRecord H P) (s : Streams) (answer : Answer) (new : AgentRecord H P) (network : List InFlightRecord) (e : Outcome)
      → PolledInto (at side w) w.network side answer new network
      → e ≡ plain answer (Some side) (roles_of (record (put side new w) { network = network }))
      → Happens mac answers w s (Poll side) e (record (put side new w) { network = network }) s
  polled side w s answer new network e into is =
      record { answer = answer; new = new; network = network; polled = into; world = refl; emitted = is; stream = refl }

  -- a delivery to the side that did not send the packet
  pub delivered : (side : Side) (w : WorldRecord H P) (s : Streams) (place now : ℕ) (path : Path) (l : InFlightRecord) (new : AgentRecord H P) (entry : agent.Entry) (e : Outcome) (moved : Option (Class × TransId))
      → slice_get w.network place ≡ Some l → l.sender ≡ other side → Receives mac answers now (at side w) path l.packet.contents entry new
      → moved ≡ read_unless (fault_of l.packet.contents) (message_of l.packet.contents)
      → e ≡ record { entry = entry; controlling = roles_of (put side new w); side = Some side; clear = false; moved = moved }
      → Happens mac answers w s (Deliver place now path) e (put side new w) s
  delivered side w s place now path l new entry e moved found sender received moved_is is =
      subst (λ o. Delivers mac answers w s o now path e (put side new w) s) (sym found)
      (subst (λ r. TakesTurn mac answers w s r (agent.ReceivePacket now path l.packet.contents) e (put side new w) s) (sym (ap other sender ∙ other-other side))
      (reversed side w s s (source_of side s) (agent.ReceivePacket now path l.packet.contents) new entry e false moved (received, refl) (undrawn side s) tt refl moved_is is))

  pub not_found : (w : WorldRecord H P) (s : Streams) (place now : ℕ) (path : Path) (e : Outcome)
      → slice_get w.network place ≡ None → e ≡ plain NoSuchPacket None (roles_of w) → Happens mac answers w s (Deliver place now path) e w s
  not_found w s place now path e found is = subst (λ o. Delivers mac answers w s o now path e w s) (sym found) (refl, refl, is)

  -- put back as it was
  put_same : (side : Side) (w : WorldRecord H P) (new : AgentRecord H P) → new ≡ at side w → put side new w ≡ w
  put_same A w new is = ap (λ (r : AgentRecord H P). put A r w) is
  put_same B w new is = ap (λ (r : AgentRecord H P). put B r w) is

  pub strayed : (side : Side) (w : WorldRecord H P) (s : Streams) (now : ℕ) (path : Path) (bytes : List ℕ) (new : AgentRecord H P) (answer : Answer) (entry : agent.Entry) (e : Outcome)
      → new ≡ at side w → LeavesOut mac answers now (at side w) path bytes answer → entry ≡ quiet answer
      → e ≡ record { entry = entry; controlling = roles_of (put side new w); side = Some side; clear = false; moved = None }
      → Happens mac answers w s (Stray side now path bytes) e (put side new w) s
  strayed side w s now path bytes new answer entry e same left quiet_is is =
      let persisted = put_same side w new same in (
        answer,
        left,
        (
          persisted,
          refl,
          is ∙ (ap (λ (v : WorldRecord H P). let o : Outcome = record { entry = entry; controlling = roles_of v; side = Some side; clear = false; moved = None } in o) persisted
              ∙ ap (λ (y : agent.Entry). let o : Outcome = record { entry = y; controlling = roles_of w; side = Some side; clear = false; moved = None } in o) quiet_is),
        ),
      )

pub unmoving : {P : Type 0} (c : agent.Call P) → in_world c ≡ true → None ≡ moved_by c
unmoving (agent.ReceivePacket now path bytes) h = absurd (let wrong : false ≡ true = h in cc)
unmoving c h = refl
