-- An execution of the two-agent network model is one of the model with external views.
use Rattle.std.proofs.lemmas.Slice.Eq.{bytes_eq-Decides}
use Rattle.is_pair.specs.Checks.{Check, has_id, is_kept}
use Rattle.is_stun.specs.declared.header.Class.TheVariants as class
use Rattle.is_theorems.proofs.BasicLemmas.EqualAddresses.{both, same_address-sound}
use Rattle.is_rules.specs.Steps as agent
use Rattle.is_rules.specs.Accepting.{IsAcceptedAs}
use Rattle.is.specs.World as world
use Rattle.is.proofs.Common.{[], ◌&&◌, ◌++◌, ◌||◌, ◌∙◌, ◌∷◌, ◌≡◌, A, accepted_by, AgentRecord, all_kept, AllByRecursion, Answer, ap}
use Rattle.is.proofs.Common.{append-nil, B, Bool, Brings, CandidateRecord, Class, Delivers, Entry, Event, false, fault_of, Flag, Happens}
use Rattle.is.proofs.Common.{Has, in_world, InFlightRecord, inl, inr, is_modern, is_reverse, IsNeverLite, IsSound, keeping_set_by}
use Rattle.is.proofs.Common.{keeps_check_on, keeps_role, kept_as, List, list_any, lite_set_by, LoggedEvent, Mail, mail_in, mail_of}
use Rattle.is.proofs.Common.{mail_read, mail_unless, Makes, map, MatchBool, Message, message_of, moved_by, None, Option, option_map, other}
use Rattle.is.proofs.Common.{Outcome, Packet, packet_path, PairRecord, ParseFault, Path, path_of, PathTheorem, Persists, plain, PolledInto}
use Rattle.is.proofs.Common.{Polls, PollsTransmit, read_unless, refl, role_event_of, role_state_of, RoleEffect, RoleEvent, RoleTheorem}
use Rattle.is.proofs.Common.{same_address, sent_as, sets_lite, sets_role, Side, slice_get, Some, some_paths, StaysFull, StaysOriginal, Step}
use Rattle.is.proofs.Common.{Streams, subst, suc, sym, TakesTurn, TransId, true, when_accepted, WorldRecord, zero, ℕ}
use Rattle.is.proofs.ExternalViews.NetworkModel as seen
use Rattle.is.proofs.ExternalViews.NetworkModel.{InFlight, Seen, Roles, Moved, Emitted, Kind, Still, Move, Moves, IsAwaited, Happening}
use Rattle.is.proofs.ExternalViews.NetworkModel.{emitted_of, NeverLite}

-- ---- lists

pub Has-get : {X : Type 0} (xs : List X) (n : ℕ) (x : X) → slice_get xs n ≡ Some x → Has xs x
Has-get [] n x h = cc
Has-get (y ∷ ys) zero x h = inl cc
Has-get (y ∷ ys) (suc n) x h = inr (Has-get ys n x h)

Has-mapped : {X Y : Type 0} (f : X → Y) (xs : List X) (x : X) → Has xs x → Has (map f xs) (f x)
Has-mapped f [] x h = absurd h
Has-mapped f (y ∷ xs) x (inl e) = inl (ap f e)
Has-mapped f (y ∷ xs) x (inr h) = inr (Has-mapped f xs x h)

pub Has-front : {X : Type 0} (xs ys : List X) (x : X) → Has xs x → Has (xs ++ ys) x
Has-front [] ys x h = absurd h
Has-front (y ∷ xs) ys x (inl e) = inl e
Has-front (y ∷ xs) ys x (inr h) = inr (Has-front xs ys x h)

pub Has-rear : {X : Type 0} (xs ys : List X) (x : X) → Has ys x → Has (xs ++ ys) x
Has-rear [] ys x h = h
Has-rear (y ∷ xs) ys x h = inr (Has-rear xs ys x h)

passing : {X : Type 0} (test : X → Bool) (xs : List X) → list_any test xs ≡ true → (x : X) × Has xs x × (test x ≡ true)
passing test [] h = absurd (let wrong : false ≡ true = h in cc)
passing test (x ∷ xs) h = elim (test x) as (λ b. test x ≡ b → b || list_any test xs ≡ true → (y : _) × Has (x ∷ xs) y × (test y ≡ true)) [
  | true ↦ λ is k. (x, inl refl, is)
  | false ↦ λ is k. (let more = passing test xs k in (more.0, inr more.1, more.2))
] refl h

-- ---- what is observed of a network model

abbrev pub in_flight_as : InFlightRecord → InFlight
in_flight_as l = record { sender = l.sender; mail = mail_in l.packet }

abbrev pub seen_of : {H P : Type 0} → WorldRecord H P → Seen
seen_of w = record { a = role_state_of w.a; b = role_state_of w.b; network = map in_flight_as w.network }

abbrev pub roles_as : List Bool → Roles
roles_as (a ∷ b ∷ rest) = record { a = a; b = b }
roles_as (a ∷ []) = record { a = a; b = false }
roles_as [] = record { a = false; b = false }

abbrev pub moved_as : Class × TransId → Moved
moved_as m = record { class = m.0; id = m.1.0 }

abbrev pub is_yes : Answer → Bool
is_yes (Flag true) = true
is_yes _ = false

abbrev pub via_in : {P : Type 0} → Event P → Option Path
via_in (world.Deliver place now via) = Some via
via_in _ = None

abbrev pub emitted_at : {P : Type 0} → LoggedEvent P → Emitted
emitted_at x = record {
  side = x.outcome.side;
  accepted = is_yes x.outcome.entry.answer;
  via = via_in x.event;
  moved = option_map moved_as x.outcome.moved;
  issued = option_map sent_as x.outcome.entry.emitted.issued;
  selected_paths = some_paths x.outcome.entry.emitted.selected_paths;
  clear = x.outcome.clear;
  roles = roles_as x.outcome.controlling;
}

-- ---- what was accepted

pub yes_is : (a : Answer) → is_yes a ≡ true → a ≡ Flag true
yes_is (Flag true) h = refl
yes_is a h = absurd (let wrong : false ≡ true = h in cc)

when_is : {X : Type 0} (a : Answer) (x : Option X) (y : X) → when_accepted a x ≡ Some y → (a ≡ Flag true) × (x ≡ Some y)
when_is (Flag true) x y h = (refl, h)
when_is a x y h = absurd (let wrong : None ≡ Some y = h in cc)

mail_moved : (f : Option ParseFault) (m : Message) (x : Mail) → mail_unless f m ≡ Some x → option_map moved_as (read_unless f m) ≡ Some record { class = x.class; id = x.id }
mail_moved None m x h = ap (λ o. option_map (λ (y : Mail). let z : Moved = record { class = y.class; id = y.id } in z) o) h
mail_moved (Some fault) m x h = absurd (let wrong : None ≡ Some x = h in cc)

moved_mail : (f : Option ParseFault) (m : Message) (x : Moved) → option_map moved_as (read_unless f m) ≡ Some x → (mail : Mail) × (mail_unless f m ≡ Some mail) × (mail.class ≡ x.class) × (mail.id ≡ x.id)
moved_mail None m x h =
    let same : ◌≡◌ {A = Moved} (record { class = m.class; id = m.id }) x = cc in
    (mail_of m, refl, ap (λ (y : Moved). y.class) same, ap (λ (y : Moved). y.id) same)
moved_mail (Some fault) m x h = absurd (let wrong : None ≡ Some x = h in cc)

-- calls of a network model except deliveries
module _ {P : Type 0} where
  unaccepting : (c : agent.Call P) (answer : Answer) → in_world c ≡ true → accepted_by c answer ≡ None
  unaccepting (agent.ReceivePacket now via bytes) answer h = absurd (let wrong : false ≡ true = h in cc)
  unaccepting c answer h = refl

  unmoving : (c : agent.Call P) → in_world c ≡ true → moved_by c ≡ None
  unmoving (agent.ReceivePacket now via bytes) h = absurd (let wrong : false ≡ true = h in cc)
  unmoving c h = refl

  wayless : (c : agent.Call P) → in_world c ≡ true → packet_path c ≡ None
  wayless (agent.ReceivePacket now via bytes) h = absurd (let wrong : false ≡ true = h in cc)
  wayless c h = refl

  unset : (c : agent.Call P) → in_world c ≡ true → sets_role c ≡ false
  unset (agent.SetControlling controlling) h = absurd (let wrong : false ≡ true = h in cc)
  unset (agent.SetControlTieBreaker tie_breaker) h = absurd (let wrong : false ≡ true = h in cc)
  unset c h = refl

  stays : (c : agent.Call P) (s side : Side) → StaysFull side (world.Call s c) → s ≡ side → sets_lite c ≡ false
  stays (agent.SetIceLite lite) s side full is = full is
  stays c s side full is = refl

module _ {H P : Type 0} where
  kept_to : (a : AgentRecord H P) (ps : List PairRecord) (p : PairRecord) (c : Check) → Has ps p → Has p.checks c → Has (all_kept a ps) (kept_as (path_of a p) c)
  kept_to a [] p c h keeps = absurd h
  kept_to a (q ∷ ps) p c (inl e) keeps =
      Has-front (map (kept_as (path_of a q)) q.checks) (all_kept a ps) (kept_as (path_of a p) c)
      (subst (λ (x : PairRecord). Has (map (kept_as (path_of a x)) x.checks) (kept_as (path_of a p) c)) (sym e) (Has-mapped (kept_as (path_of a p)) p.checks c keeps))
  kept_to a (q ∷ ps) p c (inr h) keeps = Has-rear (map (kept_as (path_of a q)) q.checks) (all_kept a ps) (kept_as (path_of a p) c) (kept_to a ps p c h keeps)

  -- an accepted success response has the id of a check that is stored on the reverse path
  awaits : (a : AgentRecord H P) (d : RoleEvent) (via : Path) (id : List ℕ) → list_any (keeps_check_on a via id) a.pairs ≡ true → d.via ≡ Some via → IsAwaited (role_state_of a) d id
  awaits a d via id keeps came =
      let p = passing (keeps_check_on a via id) a.pairs keeps in
      let two = both (is_kept id p.0.checks) (is_reverse via (path_of a p.0)) p.2 in
      let c = passing (has_id id) p.0.checks two.0 in
      let ends = both (same_address via.source (path_of a p.0).destination) (same_address via.destination (path_of a p.0).source) two.1 in
      record {
        path = path_of a p.0;
        role = c.0.controlling;
        kept = subst (λ i. Has (all_kept a a.pairs) (record { path = path_of a p.0; id = i; controlling = c.0.controlling })) ((bytes_eq-Decides c.0.id id).0 c.2) (kept_to a a.pairs p.0 c.0 p.1 c.1);
        via = via;
        came = came;
        back = (same_address-sound via.source (path_of a p.0).destination ends.0, same_address-sound via.destination (path_of a p.0).source ends.1);
      }

  at_side : (s : Side) (w : WorldRecord H P) → seen.at s (seen_of w) ≡ role_state_of (world.at s w)
  at_side A w = refl
  at_side B w = refl

  put_side : (s : Side) (r : AgentRecord H P) (w : WorldRecord H P) (network : List InFlightRecord)
      → seen_of (record (world.put s r w) { network = network }) ≡ record (seen.put s (role_state_of r) (seen_of w)) { network = map in_flight_as network }
  put_side A r w network = refl
  put_side B r w network = refl

  put_back : (s : Side) (v : WorldRecord H P) (new : AgentRecord H P) (network : List InFlightRecord) → new ≡ world.at s v → network ≡ v.network
      → ◌≡◌ {A = WorldRecord H P} (record (world.put s new v) { network = network }) v
  put_back A v new network p q = ap (λ r. let x : WorldRecord H P = record { a = r; b = v.b; network = network } in x) p ∙ ap (λ b. let x : WorldRecord H P = record { a = v.a; b = v.b; network = b } in x) q
  put_back B v new network p q = ap (λ r. let x : WorldRecord H P = record { a = v.a; b = r; network = network } in x) p ∙ ap (λ b. let x : WorldRecord H P = record { a = v.a; b = v.b; network = b } in x) q

  same_multiset : (side : Side) (new : AgentRecord H P) (w : WorldRecord H P) → record (world.put side new w) { network = w.network } ≡ world.put side new w
  same_multiset A new w = refl
  same_multiset B new w = refl

  abbrev pub AreSound : WorldRecord H P → Type 0
  AreSound w = (side : Side) → IsSound (world.at side w)

  sound_put : (side : Side) (new : AgentRecord H P) (w : WorldRecord H P) (network : List InFlightRecord) → AreSound w → IsSound new → AreSound (record (world.put side new w) { network = network })
  sound_put A new w network h is A = is
  sound_put A new w network h is B = h B
  sound_put B new w network h is A = h A
  sound_put B new w network h is B = is

-- ---- an agent that keeps its role only by its tie-breaker

-- it is not lite, or does not have the profile `Modern`
abbrev pub Compares : {H P : Type 0} → Bool → AgentRecord H P → Type 0
Compares true a = a.lite ≡ false
Compares false a = is_modern a.timing ≡ false

-- an event that leaves it so
abbrev pub Leaves : {P : Type 0} → Bool → Side → Event P → Type 0
Leaves true side event = StaysFull side event
Leaves false side event = StaysOriginal side event

abbrev pub BothCompare : {H P : Type 0} → (Side → Bool) → WorldRecord H P → Type 0
BothCompare how w = (side : Side) → Compares (how side) (world.at side w)

-- neither keeps it whatever its peer claims
abbrev pub NoneKeeps : {H P : Type 0} → WorldRecord H P → Type 0
NoneKeeps w = (side : Side) → keeps_role (world.at side w) ≡ false

neither : (b : Bool) → (b && false) ≡ false
neither true = refl
neither false = refl

pub none_keeps : {H P : Type 0} (how : Side → Bool) (w : WorldRecord H P) → BothCompare how w → NoneKeeps w
none_keeps how w compares side = by (how side) (compares side) where
  by : (b : Bool) → Compares b (world.at side w) → keeps_role (world.at side w) ≡ false
  by true full = ap (λ l. l && is_modern (world.at side w).timing) full
  by false off = ap (λ r. (world.at side w).lite && r) off ∙ neither (world.at side w).lite

called_full : {P : Type 0} (side : Side) (c : agent.Call P) → StaysFull side (world.Call side c) → lite_set_by c false ≡ false
called_full side (agent.SetIceLite lite) full = full refl
called_full side c full = refl

called_off : {P : Type 0} (side : Side) (c : agent.Call P) → StaysOriginal side (world.Call side c) → keeping_set_by c false ≡ false
called_off side (agent.SetProfile profile) off = off refl
called_off side c off = refl

module _ {H P : Type 0} where
  compares_put : (how : Side → Bool) (side : Side) (new : AgentRecord H P) (w : WorldRecord H P) (network : List InFlightRecord) → BothCompare how w → Compares (how side) new
      → BothCompare how (record (world.put side new w) { network = network })
  compares_put how A new w network h is A = is
  compares_put how A new w network h is B = h B
  compares_put how B new w network h is A = h A
  compares_put how B new w network h is B = is

  -- a call
  compares_called : (b : Bool) (side : Side) (c : agent.Call P) (old new : AgentRecord H P) → Leaves b side (world.Call side c) → new.lite ≡ lite_set_by c old.lite
      → is_modern new.timing ≡ keeping_set_by c (is_modern old.timing) → Compares b old → Compares b new
  compares_called true side c old new leaves lite keeping full = lite ∙ (ap (λ l. lite_set_by c l) full ∙ called_full side c leaves)
  compares_called false side c old new leaves lite keeping off = keeping ∙ (ap (λ r. keeping_set_by c r) off ∙ called_off side c leaves)

  -- what sets neither
  compares_still : (b : Bool) (old new : AgentRecord H P) → new.lite ≡ old.lite → is_modern new.timing ≡ is_modern old.timing → Compares b old → Compares b new
  compares_still true old new lite keeping full = lite ∙ full
  compares_still false old new lite keeping off = keeping ∙ off

-- ---- events

-- the result of an event
pub record Comes {H P : Type 0} (w w' : WorldRecord H P) (x : LoggedEvent P) : Type 0 where
  pub kind : Kind
  pub happens : seen.Happens (seen_of w) kind (emitted_at x) (seen_of w')
  pub made : (side : Side) (c : agent.Call P) → Makes w x.event side c → kind ≡ Move side (role_event_of (world.at side w) c x.outcome.entry) (keeps_role (world.at side w))
  pub full : (side : Side) → StaysFull side x.event → seen.StaysFull side kind
  pub compares : NoneKeeps w → seen.Compares kind
  pub sound : AreSound w'

-- what a side does, and the in-flight packets that are added to the multiset
record Did {H P : Type 0} (w : WorldRecord H P) (side : Side) (d : RoleEvent) (e : Emitted) (new : AgentRecord H P) (network posted : List InFlightRecord) : Type 0 where
  effect : RoleEffect (role_state_of (world.at side w)) d (role_state_of new)
  multiset_is : network ≡ w.network ++ posted
  from : (l : InFlight) → Has (map in_flight_as posted) l → (l.sender ≡ side) × Has (role_state_of (world.at side w)).packets l.mail
  delivered : (m : Mail) → d.accepts ≡ Some m → (l : InFlightRecord) × Has w.network l × (l.sender ≡ other side) × (mail_in l.packet ≡ Some m) × (e.accepted ≡ true) × (e.moved ≡ Some record { class = m.class; id = m.id })
  accepts : (x : Moved) → e.accepted ≡ true → e.moved ≡ Some x → (m : Mail) × (d.accepts ≡ Some m) × (m.class ≡ x.class) × (m.id ≡ x.id)
  awaited : (m : Mail) → d.accepts ≡ Some m → m.class ≡ class.Success → IsAwaited (role_state_of (world.at side w)) d m.id
  unset_is : d.sets ≡ false
  side_is : e.side ≡ Some side
  via_is : e.via ≡ d.via
  issued_is : e.issued ≡ d.issued
  selected_is : e.selected_paths ≡ d.selected_paths
  clear_is : e.clear ≡ d.clears
  roles_are : e.roles ≡ seen.roles_of (seen_of (record (world.put side new w) { network = network }))

map-append : {X Y : Type 0} (f : X → Y) (xs ys : List X) → map f (xs ++ ys) ≡ map f xs ++ map f ys
map-append f [] ys = refl
map-append f (x ∷ xs) ys = ap (λ zs. f x ∷ zs) (map-append f xs ys)

module _ {H P : Type 0} where
  moves_so : (w : WorldRecord H P) (side : Side) (d : RoleEvent) (e : Emitted) (new : AgentRecord H P) (network posted : List InFlightRecord) → Did w side d e new network posted
      → Moves (seen_of w) side d (keeps_role (world.at side w)) e (seen_of (record (world.put side new w) { network = network }))
  moves_so w side d e new network posted k = record {
    new = role_state_of new;
    effect = subst (λ s. RoleEffect s d (role_state_of new)) (sym (at_side side w)) k.effect;
    keeps_is = ap (λ s. s.keeps) (at_side side w);
    posted = map in_flight_as posted;
    world = put_side side new w network ∙ ap (λ b. record (seen.put side (role_state_of new) (seen_of w)) { network = b }) (ap (map in_flight_as) k.multiset_is ∙ map-append in_flight_as w.network posted);
    from_queue = λ l has. (let o = k.from l has in (o.0, subst (λ s. Has s.packets l.mail) (sym (at_side side w)) o.1));
    delivered = λ m accepted. (let o = k.delivered m accepted in record {
      in_flight = in_flight_as o.0;
      there = Has-mapped in_flight_as w.network o.0 o.1;
      sender = o.2;
      mail = o.3;
      accepted = o.4;
      moved = o.5;
    });
    accepts = k.accepts;
    awaited = λ m accepted success. subst (λ s. IsAwaited s d m.id) (sym (at_side side w)) (k.awaited m accepted success);
    not_set = k.unset_is;
    side_is = k.side_is;
    via_is = k.via_is;
    issued_is = k.issued_is;
    selected_is = k.selected_is;
    clear_is = k.clear_is;
    roles_are = k.roles_are;
  }

  -- nothing happens
  persists_still : (w w' : WorldRecord H P) (x : LoggedEvent P) (answer : Answer) (side : Option Side) → AreSound w → x.outcome ≡ plain answer side (world.roles_of w) → w' ≡ w
      → ((s : Side) (c : agent.Call P) → Makes w x.event s c → ⊥) → Comes w w' x
  persists_still w w' x answer side sound is same no_one = subst (λ v. Comes w v x) (sym same) (record {
    kind = Still;
    happens = record {
      world = refl;
      moved_is = ap (λ (o : Outcome). option_map moved_as o.moved) is;
      issued_is = ap (λ (o : Outcome). option_map sent_as o.entry.emitted.issued) is;
      selected_is = ap (λ (o : Outcome). some_paths o.entry.emitted.selected_paths) is;
      clear_is = ap (λ (o : Outcome). o.clear) is;
      roles_are = ap (λ (o : Outcome). roles_as o.controlling) is;
    };
    made = λ s c made. absurd (no_one s c made);
    full = λ s h. tt;
    compares = λ none. tt;
    sound = sound;
  })

  module _ (mac : H → List ℕ → List ℕ → List ℕ) (answers : P → CandidateRecord → ℕ → ℕ → Type 0) (paths : PathTheorem {H = H} {P = P} mac answers) (roles : RoleTheorem {H = H} {P = P} mac answers) where
    -- ---- a call, and a delivery

    -- what the call implies for the event's packet
    record Packets (w : WorldRecord H P) (side : Side) (c : agent.Call P) (x : LoggedEvent P) : Type 0 where
      delivered : (m : Mail) → accepted_by c x.outcome.entry.answer ≡ Some m → (l : InFlightRecord) × Has w.network l × (l.sender ≡ other side) × (mail_in l.packet ≡ Some m) × (is_yes x.outcome.entry.answer ≡ true)
          × (option_map moved_as x.outcome.moved ≡ Some record { class = m.class; id = m.id })
      accepts : (y : Moved) → is_yes x.outcome.entry.answer ≡ true → option_map moved_as x.outcome.moved ≡ Some y → (m : Mail) × (accepted_by c x.outcome.entry.answer ≡ Some m) × (m.class ≡ y.class) × (m.id ≡ y.id)
      awaited : (m : Mail) → accepted_by c x.outcome.entry.answer ≡ Some m → m.class ≡ class.Success → IsAwaited (role_state_of (world.at side w)) (role_event_of (world.at side w) c x.outcome.entry) m.id
      unset_is : sets_role c ≡ false
      via_is : via_in x.event ≡ packet_path c
      made : (s : Side) (d : agent.Call P) → Makes w x.event s d → (side ≡ s) × (c ≡ d)
      full : (s : Side) → StaysFull s x.event → side ≡ s → sets_lite c ≡ false

    turns : (w w' : WorldRecord H P) (s t : Streams) (side : Side) (c : agent.Call P) (x : LoggedEvent P) → AreSound w → TakesTurn mac answers w s side c x.outcome w' t → Packets w side c x → Comes w w' x
    turns w w' s t side c x sound k p =
        let old = world.at side w in
        let d = role_event_of old c x.outcome.entry in
        let path = paths old k.new (world.source_of side s) k.left c x.outcome.entry (sound side) k.given k.step in
        let role = roles old k.new (world.source_of side s) k.left c x.outcome.entry (sound side) k.given k.step in
        let did : Did w side d (emitted_at x) k.new w.network [] = record {
          effect = role;
          multiset_is = sym (append-nil w.network);
          from = λ l none. absurd none;
          delivered = p.delivered;
          accepts = p.accepts;
          awaited = p.awaited;
          unset_is = p.unset_is;
          side_is = k.side_is;
          via_is = p.via_is;
          issued_is = refl;
          selected_is = refl;
          clear_is = k.clear;
          roles_are = ap roles_as (k.roles ∙ ap world.roles_of (k.world ∙ sym (same_multiset side k.new w)));
        } in
        subst (λ v. Comes w v x) (sym (k.world ∙ sym (same_multiset side k.new w))) (record {
          kind = Move side d (keeps_role old);
          happens = moves_so w side d (emitted_at x) k.new w.network [] did;
          made = λ s' c' made.
              let is = p.made s' c' made in
              ap (λ y. Move y (role_event_of (world.at y w) c x.outcome.entry) (keeps_role (world.at y w))) is.0
              ∙ ap (λ y. Move s' (role_event_of (world.at s' w) y x.outcome.entry) (keeps_role (world.at s' w))) is.1;
          full = p.full;
          compares = λ none. none side;
          sound = sound_put side k.new w w.network sound path.1;
        })

    called : (w w' : WorldRecord H P) (s t : Streams) (side : Side) (c : agent.Call P) (x : LoggedEvent P) → AreSound w → x.event ≡ world.Call side c → in_world c ≡ true
        → TakesTurn mac answers w s side c x.outcome w' t → Comes w w' x
    called w w' s t side c x sound event_is is k = turns w w' s t side c x sound k (record {
      delivered = λ m accepted. absurd (let none = unaccepting c x.outcome.entry.answer is in cc);
      accepts = λ y yes moved. absurd (let none = ap (option_map moved_as) (k.moved ∙ unmoving c is) in cc);
      awaited = λ m accepted success. absurd (let none = unaccepting c x.outcome.entry.answer is in cc);
      unset_is = unset c is;
      via_is = ap via_in event_is ∙ sym (wayless c is);
      made = λ s' d made. (let m : Makes w (world.Call side c) s' d = subst (λ v. Makes w v s' d) event_is made in (m.0, sym m.1));
      full = λ s' full same. stays c side s' (subst (λ v. StaysFull s' v) event_is full) same;
    })

    other-other : (s : Side) → s ≡ other (other s)
    other-other A = refl
    other-other B = refl

    delivers : (o : Option InFlightRecord) (w w' : WorldRecord H P) (s t : Streams) (place now : ℕ) (via : Path) (x : LoggedEvent P) → x.event ≡ world.Deliver place now via → slice_get w.network place ≡ o
        → AreSound w → Delivers mac answers w s o now via x.outcome w' t → Comes w w' x
    delivers None w w' s t place now via x event_is found sound k =
        persists_still w w' x agent.NoSuchPacket None sound k.2 k.0
        (λ s' c made. (let m : Makes w (world.Deliver place now via) s' c = subst (λ v. Makes w v s' c) event_is made in let found_one = m.1 in cc))
    delivers (Some l) w w' s t place now via x event_is found sound k =
        let side = other l.sender in
        let bytes = l.packet.contents in
        let c : agent.Call P = agent.ReceivePacket now via bytes in
        let old = world.at side w in
        turns w w' s t side c x sound k (record {
          delivered = λ m accepted. (
              let is = when_is x.outcome.entry.answer (mail_read bytes) m accepted in
              (l, Has-get w.network place l found, other-other l.sender, is.1, ap is_yes is.0, ap (option_map moved_as) k.moved ∙ mail_moved (fault_of bytes) (message_of bytes) m is.1));
          accepts = λ y yes moved. (
              let mail = moved_mail (fault_of bytes) (message_of bytes) y (ap (option_map moved_as) (sym k.moved) ∙ moved) in
              (mail.0, ap (λ a. when_accepted a (mail_read bytes)) (yes_is x.outcome.entry.answer yes) ∙ mail.1, mail.2, mail.3));
          awaited = λ m accepted success. received w s t side now via bytes x sound k m accepted success;
          unset_is = refl;
          via_is = ap via_in event_is;
          made = λ s' d made. (
              let m : Makes w (world.Deliver place now via) s' d = subst (λ v. Makes w v s' d) event_is made in
              let same_in_flight : l ≡ m.0 = (let found_one = m.1 in cc) in
              (ap (λ (y : InFlightRecord). other y.sender) same_in_flight ∙ m.2, ap (λ (y : InFlightRecord). agent.ReceivePacket now via y.packet.contents) same_in_flight ∙ sym m.3));
          full = λ s' full same. refl;
        })
      where
        received : (w : WorldRecord H P) (s t : Streams) (side : Side) (now : ℕ) (via : Path) (bytes : List ℕ) (x : LoggedEvent P) → AreSound w
            → TakesTurn mac answers w s side (agent.ReceivePacket now via bytes) x.outcome w' t → (m : Mail) → when_accepted x.outcome.entry.answer (mail_read bytes) ≡ Some m → m.class ≡ class.Success
            → IsAwaited (role_state_of (world.at side w)) (role_event_of (world.at side w) (agent.ReceivePacket now via bytes) x.outcome.entry) m.id
        received w s t side now via bytes x sound k m accepted success =
            let old = world.at side w in
            let c : agent.Call P = agent.ReceivePacket now via bytes in
            let is = when_is x.outcome.entry.answer (mail_read bytes) m accepted in
            let r = reads_so (fault_of bytes) (message_of bytes) m is.1 in
            let brings : Brings c x.outcome.entry now via (message_of bytes) = (refl, refl, record { faultless = r.0; spelled = refl }, is.0) in
            let path = paths old k.new (world.source_of side s) k.left c x.outcome.entry (sound side) k.given k.step in
            let taken = path.0.accepted now via (message_of bytes) brings in
            let as_success : IsAcceptedAs mac class.Success (keeps_check_on old via (message_of bytes).id) old (message_of bytes) =
            subst (λ y. IsAcceptedAs mac y (keeps_check_on old via (message_of bytes).id) old (message_of bytes)) (ap (λ (y : Mail). y.class) r.1 ∙ success) taken.1 in
            subst (λ i. IsAwaited (role_state_of old) (role_event_of old c x.outcome.entry) i) (ap (λ (y : Mail). y.id) r.1)
            (awaits old (role_event_of old c x.outcome.entry) via (message_of bytes).id as_success.0 refl)
          where
            reads_so : (f : Option ParseFault) (n : Message) (y : Mail) → mail_unless f n ≡ Some y → (f ≡ None) × (mail_of n ≡ y)
            reads_so None n y h = (refl, cc)
            reads_so (Some fault) n y h = absurd (let wrong : None ≡ Some y = h in cc)

    -- ---- a poll

    polls : (w w' : WorldRecord H P) (s t : Streams) (side : Side) (x : LoggedEvent P) → AreSound w → x.event ≡ world.Poll side → Polls mac answers w s side x.outcome w' t → Comes w w' x
    polls w w' s t side x sound event_is k = subst (λ v. Comes w v x) (sym k.world) (by k.new k.network k.answer k.polled (k.emitted ∙ ap (λ v. plain k.answer (Some side) (world.roles_of v)) k.world)) where
      no_one : (s' : Side) (c : agent.Call P) → Makes w x.event s' c → ⊥
      no_one s' c made = subst (λ v. Makes w v s' c) event_is made

      -- what the agent did, whatever it returned
      polled_so : (new : AgentRecord H P) (network posted : List InFlightRecord) (answer : Answer) (given : Option Packet) → PollsTransmit (world.at side w) given new
          → x.outcome ≡ plain answer (Some side) (world.roles_of (record (world.put side new w) { network = network })) → network ≡ w.network ++ posted
          → ((l : InFlight) → Has (map in_flight_as posted) l → (l.sender ≡ side) × Has (role_state_of (world.at side w)).packets l.mail)
          → Comes w (record (world.put side new w) { network = network }) x
      polled_so new network posted answer given polled is multiset_is from =
          let old = world.at side w in
          let e : Entry = agent.quiet (agent.Polled given) in
          let d = role_event_of old agent.PollTransmit e in
          let source = world.source_of side s in
          let step : Step mac answers old source agent.PollTransmit e new source = (given, refl, polled, refl) in
          let path = paths old new source source agent.PollTransmit e (sound side) tt step in
          let role = roles old new source source agent.PollTransmit e (sound side) tt step in
          let did : Did w side d (emitted_at x) new network posted = record {
            effect = role;
            multiset_is = multiset_is;
            from = from;
            delivered = λ m accepted. absurd (let wrong : None ≡ Some m = accepted in cc);
            accepts = λ y yes moved. absurd (let none = ap (λ (o : Outcome). option_map moved_as o.moved) is in cc);
            awaited = λ m accepted success. absurd (let wrong : None ≡ Some m = accepted in cc);
            unset_is = refl;
            side_is = ap (λ (o : Outcome). o.side) is;
            via_is = ap via_in event_is;
            issued_is = ap (λ (o : Outcome). option_map sent_as o.entry.emitted.issued) is;
            selected_is = ap (λ (o : Outcome). some_paths o.entry.emitted.selected_paths) is;
            clear_is = ap (λ (o : Outcome). o.clear) is;
            roles_are = ap (λ (o : Outcome). roles_as o.controlling) is;
          } in
          record {
            kind = Move side d (keeps_role old);
            happens = moves_so w side d (emitted_at x) new network posted did;
            made = λ s' c made. absurd (no_one s' c made);
            full = λ s' full same. refl;
            compares = λ none. none side;
            sound = sound_put side new w network sound path.1;
          }

      by : (new : AgentRecord H P) (network : List InFlightRecord) (answer : Answer) → PolledInto (world.at side w) w.network side answer new network
          → x.outcome ≡ plain answer (Some side) (world.roles_of (record (world.put side new w) { network = network })) → Comes w (record (world.put side new w) { network = network }) x
      by new network answer (inl (_, new_is, multiset_is)) is =
          let same_world = put_back side w new network new_is multiset_is in
          persists_still w (record (world.put side new w) { network = network }) x answer (Some side) sound (is ∙ ap (λ v. plain answer (Some side) (world.roles_of v)) same_world) same_world no_one
      by new network answer (inr (inl (_, polled, multiset_is))) is = polled_so new network [] answer None polled is (multiset_is ∙ sym (append-nil w.network)) (λ l none. absurd none)
      by new network answer (inr (inr (p, polled, _, multiset_is))) is =
          let l : InFlightRecord = record { sender = side; packet = p } in
          polled_so new network (l ∷ []) answer (Some p) polled is multiset_is
          (λ y has. elim has [
            | inl same ↦ subst (λ (z : InFlight). (z.sender ≡ side) × Has (role_state_of (world.at side w)).packets z.mail) same
                (refl, subst (λ ps. Has (map mail_in ps) (mail_in p)) (sym polled.0) (inl refl))
            | inr none ↦ absurd none
          ])

    -- ---- executions

    pub event : (w w' : WorldRecord H P) (s t : Streams) (x : LoggedEvent P) → AreSound w → Happens mac answers w s x.event x.outcome w' t → Comes w w' x
    event w w' s t x sound h = by x.event refl h where
      by : (v : Event P) → x.event ≡ v → Happens mac answers w s v x.outcome w' t → Comes w w' x
      by (world.Call side c) is k =
          elim (in_world c) as (λ b. in_world c ≡ b → MatchBool b (TakesTurn mac answers w s side c x.outcome w' t) (Persists mac answers w s agent.NotInWorld (Some side) x.outcome w' t) → Comes w w' x) [
            | true ↦ λ within turn. called w w' s t side c x sound is within turn
            | false ↦ λ without persisted. persists_still w w' x agent.NotInWorld (Some side) sound persisted.2 persisted.0
                (λ s' d made. (let m : Makes w (world.Call side c) s' d = subst (λ v. Makes w v s' d) is made in let no = m.2 in cc))
          ] refl k
      by (world.Poll side) is k = polls w w' s t side x sound is k
      by (world.Deliver place now via) is k = delivers (slice_get w.network place) w w' s t place now via x is refl sound k
      by (world.Stray side now via bytes) is (answer, left, (same, kept, was)) = persists_still w w' x answer (Some side) sound was same
          (λ s' d made. subst (λ v. Makes w v s' d) is made)

    -- it leaves both so
    pub compares_on : (how : Side → Bool) (w w' : WorldRecord H P) (s t : Streams) (x : LoggedEvent P) → AreSound w → BothCompare how w → ((side : Side) → Leaves (how side) side x.event)
        → Happens mac answers w s x.event x.outcome w' t → BothCompare how w'
    compares_on how w w' s t x sound compares leaves h = by x.event leaves h where
      same : w' ≡ w → BothCompare how w'
      same is = subst (λ v. BothCompare how v) (sym is) compares

      acted : (side : Side) (c : agent.Call P) → (k : TakesTurn mac answers w s side c x.outcome w' t) → Compares (how side) k.new → BothCompare how w'
      acted side c k is = subst (λ v. BothCompare how v) (sym (k.world ∙ sym (same_multiset side k.new w))) (compares_put how side k.new w w.network compares is)

      effect : (side : Side) (c : agent.Call P) → (k : TakesTurn mac answers w s side c x.outcome w' t)
          → (k.new.lite ≡ lite_set_by c (world.at side w).lite) × (is_modern k.new.timing ≡ keeping_set_by c (is_modern (world.at side w).timing))
      effect side c k = let path = paths (world.at side w) k.new (world.source_of side s) k.left c x.outcome.entry (sound side) k.given k.step in (path.0.lite, path.0.keeping)

      delivered : (o : Option InFlightRecord) (now : ℕ) (via : Path) → Delivers mac answers w s o now via x.outcome w' t → BothCompare how w'
      delivered None now via k = same k.0
      delivered (Some l) now via k =
          let side = other l.sender in
          let f = effect side (agent.ReceivePacket now via l.packet.contents) k in
          acted side (agent.ReceivePacket now via l.packet.contents) k (compares_still (how side) (world.at side w) k.new f.0 f.1 (compares side))

      polled : (side : Side) (k : Polls mac answers w s side x.outcome w' t) → BothCompare how w'
      polled side k = subst (λ v. BothCompare how v) (sym k.world) (compares_put how side k.new w k.network compares (elim k.polled [
        | inl (_, is, multiset_is) ↦ subst (λ a. Compares (how side) a) (sym is) (compares side)
        | inr (inl (_, given, multiset_is)) ↦ compares_still (how side) (world.at side w) k.new (ap (λ (a : AgentRecord H P). a.lite) given.1) (ap (λ (a : AgentRecord H P). is_modern a.timing) given.1) (compares side)
        | inr (inr (p, given, _, multiset_is)) ↦ compares_still (how side) (world.at side w) k.new (ap (λ (a : AgentRecord H P). a.lite) given.1) (ap (λ (a : AgentRecord H P). is_modern a.timing) given.1) (compares side)
      ]))

      by : (v : Event P) → ((side : Side) → Leaves (how side) side v) → Happens mac answers w s v x.outcome w' t → BothCompare how w'
      by (world.Call side c) leaves k =
          elim (in_world c) as (λ b. MatchBool b (TakesTurn mac answers w s side c x.outcome w' t) (Persists mac answers w s agent.NotInWorld (Some side) x.outcome w' t) → BothCompare how w') [
            | true ↦ λ turn. (let f = effect side c turn in acted side c turn (compares_called (how side) side c (world.at side w) turn.new (leaves side) f.0 f.1 (compares side)))
            | false ↦ λ persisted. same persisted.0
          ] k
      by (world.Poll side) leaves k = polled side k
      by (world.Deliver place now via) leaves k = delivered (slice_get w.network place) now via k
      by (world.Stray side now via bytes) leaves (answer, left, (still, kept, was)) = same still

    -- an execution, as it is observed
    pub record Follows (first : WorldRecord H P) (log : List (LoggedEvent P)) (last : WorldRecord H P) : Type 0 where
      pub seen_log : List Happening
      pub ran : seen.Run (seen_of first) seen_log (seen_of last)
      pub emitted : emitted_of seen_log ≡ map emitted_at log
      pub full : (side : Side) → IsNeverLite side log → NeverLite side seen_log
      pub sound : AreSound last
      pub compares : (how : Side → Bool) → BothCompare how first → ((side : Side) → AllByRecursion (λ x. Leaves (how side) side x.event) log)
          → seen.AllCompare seen_log × BothCompare how last

    pub follow : (log : List (LoggedEvent P)) (first last : WorldRecord H P) (s t : Streams) (n : ℕ) → AreSound first → world.WorldRun mac answers first s n log last t
        → Follows first log last
    follow [] first last s t n sound (is, _) = record {
      seen_log = [];
      ran = ap seen_of is;
      emitted = refl;
      full = λ side h. tt;
      sound = subst AreSound (sym is) sound;
      compares = λ how compare leaves. (tt, subst (λ v. BothCompare how v) (sym is) compare);
    }
    follow (x ∷ log) first last s t n sound (mid, u, number, happens, ran) =
        let c = event first mid s u x sound happens in
        let more = follow log mid last u t (suc n) c.sound ran in
        record {
          seen_log = record { kind = c.kind; emitted = emitted_at x } ∷ more.seen_log;
          ran = (seen_of mid, c.happens, more.ran);
          emitted = ap (λ es. emitted_at x ∷ es) more.emitted;
          full = λ side never. (c.full side never.0, more.full side never.1);
          sound = more.sound;
          compares = λ how compare leaves. (
              let next = compares_on how first mid s u x sound compare (λ side. (let k = leaves side in k.0)) happens in
              let later = more.compares how next (λ side. (let k = leaves side in k.1)) in
              ((c.compares (none_keeps how first compare), later.0), later.1));
        }
