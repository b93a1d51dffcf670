-- Which rules leave no more pairs at local candidates of responses, or of repeated cells, than there were: all but forming, after which
-- the limit on pairs holds.
use Rattle.is_pair.specs.Multiset.{is_between}
use Rattle.is_stun.specs.declared.header.Class.TheVariants as class
use Rattle.is_theorems.proofs.Common.{each-way, formed_again}
use Rattle.is_theorems.proofs.Common.{[], ◌&&◌, ◌++◌, ◌<◌, ◌==◌, ◌||◌, ◌∙◌, ◌∷◌, ◌≡◌, ◌≤◌, Absent, AddsUnknownSender, after_request}
use Rattle.is_theorems.proofs.Common.{AgentRecord, all_scheduled, ap, arith, as_taken, scheduled, at_request, at_timeout, Barred, Bool}
use Rattle.is_theorems.proofs.Common.{candidate_at, CandidateKind, CandidateRecord, change_at, ChecksTop, Class, Combination, Conflict}
use Rattle.is_theorems.proofs.Common.{conflict_of, CountsAndServes, discovered_emitted, Drops, Emitted, Entry, Err, evaluated, expired_gone}
use Rattle.is_theorems.proofs.Common.{false, FindsOrAddsPair, first_taken, followed, formed, FormsAll, Full, gives_way, HandlesFailure}
use Rattle.is_theorems.proofs.Common.{HandlesPacket, HandlesSuccess, Has, hastened, heard, heard_at, Host, IceCreds, IceError}
use Rattle.is_theorems.proofs.Common.{if◌then◌else◌, in_turn, inl, inr, is_at, is_direct, is_expired, is_for_other_peer, is_left_out}
use Rattle.is_theorems.proofs.Common.{is_live, is_misled, is_nominated, is_numbered, is_reached, is_valid_at, IsPairBetween, Issued, Known}
use Rattle.is_theorems.proofs.Common.{length, List, list_any, local_place, local_with, MaintainsPairs, map, mapped_candidate, MatchOption}
use Rattle.is_theorems.proofs.Common.{MayCheck, Message, NamesTop, nominated, nominated_by_peer, nominated_by_self, nominated_emitted}
use Rattle.is_theorems.proofs.Common.{Nominates, nominates_at_once, NominatesWhere, None, none-any, not, numbers, Ok, Option, option_or}
use Rattle.is_theorems.proofs.Common.{pair_served, PairRecord, Path, path_left, PeerReflexive, position, Queues, Receives}
use Rattle.is_theorems.proofs.Common.{RecordsAndResponds, refl, Relayed, remains, RemotePlace, removes, RemovesExpired, RemovesInTurn}
use Rattle.is_theorems.proofs.Common.{request_at, request_counted, request_in, RequestRecord, Reselects, ResolvesRoleConflict}
use Rattle.is_theorems.proofs.Common.{ResolvesRoleConflictBy, Result, same_kind, Selection, selection_of, selects_at_requests, Send487}
use Rattle.is_theorems.proofs.Common.{served, ServerReflexive, Serves, state_updated, sides_of, SidesRecord, silent_gone, slice_set, SocketAddr}
use Rattle.is_theorems.proofs.Common.{Some, Stream, StunTiming, subst, success_counted, switched, switched_sides, SwitchRole, sym, Takes}
use Rattle.is_theorems.proofs.Common.{timeout_begun, TimesOut, true, Unknown, Vacant, validated, validated_by_peer, with_pair}
use Rattle.is_theorems.proofs.Common.{with_priority_in, with_request, with_selection, with_sender, with_sender_at, without, ℕ}
use Rattle.is_theorems.proofs.BasicLemmas.EqualAddresses.{both}
use Rattle.is_theorems.proofs.StorageBounds.BoundedLists.{is_own}
use Rattle.is_theorems.proofs.StorageBounds.PairsByCell.{cell_of, cells, cells-map, cells-set, extras, extras-agree, extras-filter}
use Rattle.is_theorems.proofs.StorageBounds.PairsByCell.{extras-new, is_cell}
use Rattle.is_theorems.proofs.RuleEffects.Reselection.{by-reselecting}
use Rattle.is_theorems.proofs.RuleEffects.UnchangedSettings.{either}
use Rattle.is_theorems.proofs.RuleEffects.ChangedPairs.{Has-map}
use Rattle.is_theorems.proofs.BasicLemmas.UsernamesAndFirstMatches.{neither}
use Rattle.is_theorems.proofs.RuleEffects.SelectedPaths.{some_is}
use Rattle.is_theorems.proofs.BasicLemmas.CandidatesByIndex.{at-append, found-at}
use Rattle.is_theorems.proofs.RuleEffects.TriggeredPairs.{triggered_by, by_trigger}
use Rattle.is_theorems.proofs.BasicLemmas.PairsInTurn.{sent-pairs, sent_at}
use Rattle.is_theorems.proofs.BasicLemmas.ServedPairs.{numbered-by}
use Rattle.is_theorems.proofs.RuleEffects.NotedErrors.{coded, recoded, by_failure}
use Rattle.is_theorems.proofs.RuleEffects.HastenedPairs.{by-hastened, Hastens}

-- the local candidate at the index was not brought by a response
abbrev pub own_at : List CandidateRecord → ℕ → Bool
own_at local l = is_own (candidate_at local l)

-- ---- one pair

nominated-cell : (l : Bool) (p : PairRecord) → cell_of (nominated l p) ≡ cell_of p
nominated-cell true p = refl
nominated-cell false p = refl

unless-cell : (b l : Bool) (p : PairRecord) → cell_of (if b then nominated l p else p) ≡ cell_of p
unless-cell true l p = nominated-cell l p
unless-cell false l p = refl

validated-cell : (b : Bool) (p : PairRecord) → cell_of (if b then validated p else p) ≡ cell_of p
validated-cell true p = refl
validated-cell false p = refl

served-cell : (c l : Bool) (q : RequestRecord) (p : PairRecord) → cell_of (served c l q p) ≡ cell_of p
served-cell c l q p =
    let x : PairRecord = validated_by_peer c l (with_request q.time p) in
    let same : cell_of (nominated_by_peer c l q x) ≡ cell_of p =
    unless-cell (not c && q.use_candidate && not (is_nominated x)) l x ∙ validated-cell (l && not c) (with_request q.time p) in
    numbered-by (λ y. cell_of y ≡ cell_of p) c q.nomination (nominated_by_peer c l q x) same (λ n. same)

request-cell : {H P : Type 0} (q : RequestRecord) (s : AgentRecord H P) (p : PairRecord) → cell_of (after_request q s p) ≡ cell_of p
request-cell q s p = served-cell s.controlling s.lite (as_taken (numbers s) q) (triggered_by q s p) ∙ by_trigger (λ (x : PairRecord). cell_of x ≡ cell_of p) q s p (λ due. refl)

heard-cell : (now : ℕ) (last : Option ℕ) (p : PairRecord) → cell_of (heard_at now last p) ≡ cell_of p
heard-cell now None p = refl
heard-cell now (Some at) p = refl

sent-cell : (begins : Bool) (now : ℕ) (t : StunTiming) (c : Bool) (id : List ℕ) (p : PairRecord) → cell_of (sent_at begins now t c id p) ≡ cell_of p
sent-cell true now t c id p = refl
sent-cell false now t c id p = refl

at-cell : (n : ℕ) (f : PairRecord → PairRecord) (p : PairRecord) → cell_of (f p) ≡ cell_of p → cell_of (change_at n f p) ≡ cell_of p
at-cell n f p h = by (p.number == n) where
  by : (b : Bool) → cell_of (if b then f p else p) ≡ cell_of p
  by true = h
  by false = refl

-- the pair is between the two of its cell
none-between : (l r : ℕ) (ps : List PairRecord) → list_any (is_between l r) ps ≡ false → list_any (is_cell (l, r)) (cells ps) ≡ false
none-between l r [] none = refl
none-between l r (p ∷ ps) none =
    let k = neither (is_between l r p) (list_any (is_between l r) ps) none in
    ap (λ (b : Bool). b || list_any (is_cell (l, r)) (cells ps)) k.0 ∙ none-between l r ps k.1

-- a local candidate that received a request is none that a response brought
direct-own : (kind : CandidateKind) → is_direct kind ≡ true → not (same_kind kind PeerReflexive) ≡ true
direct-own Host is = refl
direct-own PeerReflexive is = absurd (cc)
direct-own ServerReflexive is = refl
direct-own Relayed is = refl

passing-own : (q : RequestRecord) (c : CandidateRecord) → is_reached q c ≡ true → is_own c ≡ true
passing-own q c is = direct-own c.kind (both (is_direct c.kind) (is_at q.path.destination q.path.proto c) is).0

reached-own : (local : List CandidateRecord) (q : RequestRecord) (l : ℕ) → local_place local q ≡ Some l → own_at local l ≡ true
reached-own local q l is = by (position (is_live (is_reached q)) local) refl is where
  by : (o : Option ℕ) → position (is_live (is_reached q)) local ≡ o → option_or o (position (is_reached q) local) ≡ Some l → own_at local l ≡ true
  by None none found = passing-own q (candidate_at local l) (found-at (is_reached q) local l found).1
  by (Some k) live same =
      let one : k ≡ l = some_is k l same in
      let passes = (found-at (is_live (is_reached q)) local k live).1 in
      subst (λ (n : ℕ). own_at local n ≡ true) one (passing-own q (candidate_at local k) (both (is_reached q (candidate_at local k)) (not (candidate_at local k).discarded) passes).0)

-- after forming the limit holds
evicted-most : (limit : ℕ) (gone old new : List PairRecord) → RemovesInTurn limit gone old new → length new ≤ limit
evicted-most limit [] old new (fits, same) = subst (λ (ps : List PairRecord). length ps ≤ limit) (sym same) fits
evicted-most limit (p ∷ gone) old new (over, has, more) = evicted-most limit gone (without (is_numbered p.number) old) new more

names-cells : (s : SidesRecord) (followed : Option ℕ) (top : Option PairRecord) (old : Selection) (path : Option Path) (new : Selection) → NamesTop s followed top old path new → cells new.pairs ≡ cells old.pairs
names-cells s followed None old path new (is, same) = ap (λ (x : Selection). cells x.pairs) same
names-cells s followed (Some top) old path new h = either (remains followed top old) h
    (λ _ k. ap (λ (x : Selection). cells x.pairs) k.1)
    (λ _ k. ap (λ (x : Selection). cells x.pairs) k.1
    ∙ cells-map (change_at top.number (nominated_by_self s.controlling s.lite))
    (λ p. at-cell top.number (nominated_by_self s.controlling s.lite) p (unless-cell (not (is_nominated p) && (s.controlling || s.lite)) s.lite p)) old.pairs)

-- a local candidate is appended, and the pairs are at the others
appended_fewer : (cs : List CandidateRecord) (c : CandidateRecord) (ps : List PairRecord) → ((p : PairRecord) → Has ps p → p.local < length cs)
    → extras (own_at (cs ++ c ∷ [])) (cells ps) ≡ extras (own_at cs) (cells ps)
appended_fewer cs c ps inside = extras-agree (own_at (cs ++ c ∷ [])) (own_at cs) (cells ps) (λ d has. same d (Has-map cell_of ps d has)) where
  same : (d : Combination) → ((p : PairRecord) × Has ps p × (cell_of p ≡ d)) → own_at (cs ++ c ∷ []) d.0 ≡ own_at cs d.0
  same d (p, has, is) =
      let lt : d.0 < length cs = subst (λ (x : Combination). x.0 < length cs) is (inside p has) in
      ap is_own (at-append cs (c ∷ []) d.0 lt)

module _ {H P : Type 0} where
  -- what counts of a state: its local candidates, and the cells of its pairs
  abbrev pub grid_of : AgentRecord H P → List CandidateRecord × List Combination
  grid_of a = (a.local, cells a.pairs)

  abbrev pub surplus : AgentRecord H P → ℕ
  surplus a = extras (own_at a.local) (cells a.pairs)

  abbrev pub Fewer : AgentRecord H P → AgentRecord H P → Type 0
  Fewer old new = surplus new ≤ surplus old

  pub alike : (old new : AgentRecord H P) → grid_of new ≡ grid_of old → Fewer old new
  alike old new e =
      let le : surplus old ≤ surplus old = omega arith in
      subst (λ (g : List CandidateRecord × List Combination). extras (own_at g.0) g.1 ≤ surplus old) (sym e) le

  -- the local candidates stay, and so do the cells
  pub recast : (old : AgentRecord H P) (ps : List PairRecord) → cells ps ≡ cells old.pairs → (old.local, cells ps) ≡ grid_of old
  recast old ps e = ap (λ (cs : List Combination). (old.local, cs)) e

  pub made-as : (old needed new : AgentRecord H P) → new ≡ needed → Fewer old needed → Fewer old new
  made-as old needed new e f = subst (λ (a : AgentRecord H P). surplus a ≤ surplus old) (sym e) f

  pub unchanged : (old new : AgentRecord H P) → new ≡ old → Fewer old new
  unchanged old new e = alike old new (ap (λ (a : AgentRecord H P). grid_of a) e)

  pub on : (x y z : AgentRecord H P) → Fewer x y → Fewer y z → Fewer x z
  on x y z f g = omega (arith, f, g)

  -- ---- nomination and removal

  nominates_alike : (old new : AgentRecord H P) (path : Option Path) → Nominates old path new → grid_of new ≡ grid_of old
  nominates_alike old new path (chosen, (top, greatest, names), made) =
      ap (λ (a : AgentRecord H P). grid_of a) made
      ∙ (emitted path (with_selection chosen old) ∙ recast old chosen.pairs (names-cells (sides_of old) (followed old) top (selection_of old) path chosen names)) where
        emitted : (path : Option Path) (a : AgentRecord H P) → grid_of (nominated_emitted path a) ≡ grid_of a
        emitted None a = refl
        emitted (Some path) a = refl

  nominates_fewer : (old new : AgentRecord H P) (path : Option Path) → Nominates old path new → Fewer old new
  nominates_fewer old new path h = alike old new (nominates_alike old new path h)

  pub reselects_alike : (loses : Bool) (old new : AgentRecord H P) (path : Option Path) → Reselects loses old path new → grid_of new ≡ grid_of old
  reselects_alike loses old new path h =
      by-reselecting (λ (a : AgentRecord H P). grid_of a ≡ grid_of old) loses old new path h refl (λ mid nominates. nominates_alike old mid path nominates)

  where_fewer : (b : Bool) (old new : AgentRecord H P) (path : Option Path) → NominatesWhere b old path new → Fewer old new
  where_fewer true old new path h = nominates_fewer old new path h
  where_fewer false old new path h = unchanged old new h.1

  evaluated_fewer : (now : ℕ) (old mid new : AgentRecord H P) → new ≡ evaluated now mid → Fewer old mid → Fewer old new
  evaluated_fewer now old mid new e f = made-as old (evaluated now mid) new e f

  removes_expired_fewer : (now : ℕ) (old new : AgentRecord H P) (path : Option Path) → RemovesExpired now old path new → Fewer old new
  removes_expired_fewer now old new path h = either (list_any (is_expired now old) old.pairs) h
      (λ _ k. evaluated_fewer now old k.0 new k.2
      (on old (expired_gone now old) k.0 (extras-filter (own_at old.local) (λ p. not (is_expired now old p)) old.pairs) (nominates_fewer (expired_gone now old) k.0 path k.1)))
      (λ _ k. made-as old (state_updated true now old) new k.1 (unchanged old old refl))

  leaves_fewer : (now : ℕ) (old : AgentRecord H P) → Fewer old (path_left now old)
  leaves_fewer now old =
      on old (silent_gone now old) (path_left now old) (extras-filter (own_at old.local) (λ p. not (gives_way now old p)) old.pairs)
      (alike (silent_gone now old) (path_left now old) (recast (silent_gone now old) (path_left now old).pairs
      (cells-map (hastened (Hastens now old) now) (λ p. by-hastened (λ x. cell_of x ≡ cell_of p) (Hastens now old) now p (λ at. refl) refl) (silent_gone now old).pairs)))

  -- ---- checks

  asked_cells : (now : ℕ) (old : AgentRecord H P) → grid_of (all_scheduled now old) ≡ grid_of old
  asked_cells now old = recast old (all_scheduled now old).pairs (cells-map (scheduled now old.timing) (λ p. refl) old.pairs)

  check_fewer : (mac : H → List ℕ → List ℕ → List ℕ) (now : ℕ) (remote : Option IceCreds) (old new : AgentRecord H P) (s t : Stream) (issued : Option Issued)
      → MayCheck mac now remote old s issued new t → Fewer old new
  check_fewer mac now None old new s t issued (is, made, drawn) = unchanged old new made
  check_fewer mac now (Some remote) old new s t issued h = either old.lite h
      (λ _ k. alike old new (ap (λ (a : AgentRecord H P). grid_of a) k.1 ∙ recast old (map (heard now) old.pairs) (cells-map (heard now) (λ p. heard-cell now p.last_request p) old.pairs)))
      (λ _ k. next k.0 k.2) where
        next : (top : Option PairRecord) → ChecksTop mac now remote top (all_scheduled now old) s issued new t → Fewer old new
        next None (is, made, drawn) = alike old new (ap (λ (a : AgentRecord H P). grid_of a) made ∙ asked_cells now old)
        next (Some p) (id, drawn, values, is, made) = alike old new (
            let begins : Bool = nominates_at_once (all_scheduled now old) in
            let change : PairRecord → PairRecord = sent_at begins now old.timing old.controlling id in
            ap (λ (a : AgentRecord H P). grid_of a) made
            ∙ (ap (λ ps. grid_of (record (all_scheduled now old) { pairs = ps })) (sent-pairs begins p.number now old.timing old.controlling id (all_scheduled now old).pairs)
            ∙ (recast (all_scheduled now old) (map (change_at p.number change) (all_scheduled now old).pairs)
            (cells-map (change_at p.number change) (λ x. at-cell p.number change x (sent-cell begins now old.timing old.controlling id x)) (all_scheduled now old).pairs)
            ∙ asked_cells now old))
            )

  maintains_pairs_fewer : (mac : H → List ℕ → List ℕ → List ℕ) (now : ℕ) (old new : AgentRecord H P) (s t : Stream) (emitted : Emitted) → MaintainsPairs mac now old s emitted new t → Fewer old new
  maintains_pairs_fewer mac now old new s t emitted (first, second, issued, named, kept, nominating, giving, checking, is) =
      on old named new
      (on old (path_left now (at_timeout now old)) named (leaves_fewer now (at_timeout now old))
      (nominates_fewer (path_left now (at_timeout now old)) named first nominating))
      (on named kept new (removes_expired_fewer now named kept second giving) (check_fewer mac now kept.remote_creds kept new s t issued checking))

  -- ---- responses

  mapped_fewer : (old : AgentRecord H P) (p : PairRecord) (mapped : Option SocketAddr) → ((q : PairRecord) → Has old.pairs q → q.local < length old.local)
      → extras (own_at (local_with p mapped (success_counted old))) (cells old.pairs) ≤ surplus old
  mapped_fewer old p None inside = omega arith
  mapped_fewer old p (Some mapped) inside = by (is_left_out old.max_discovered old.local mapped) where
    by : (b : Bool) → extras (own_at (if b then old.local else old.local ++ mapped_candidate (success_counted old) p mapped ∷ [])) (cells old.pairs) ≤ surplus old
    by true = omega arith
    by false = let e = appended_fewer old.local (mapped_candidate (success_counted old) p mapped) old.pairs inside in omega (arith, e)

  -- a new pair has a cell of its own
  added_fewer : (s : AgentRecord H P) (l r : ℕ) → own_at s.local l ≡ true → list_any (is_between l r) s.pairs ≡ false → Fewer s (with_pair (formed s l r) s)
  added_fewer s l r its none =
      let e : extras (own_at s.local) (cells (s.pairs ++ formed s l r ∷ [])) ≡ surplus s = extras-new (own_at s.local) s.pairs (formed s l r) its (none-between l r s.pairs none) in
      omega (arith, e)

  again : (s : AgentRecord H P) → Fewer s (formed_again s)
  again s = each-way (λ a. Fewer s a) s (unchanged s s refl) (λ i j may. added_fewer s i j (ap not may.own) may.unmatched)

  success_fewer : (now : ℕ) (old new : AgentRecord H P) (via : Path) (m : Message) (emitted : Emitted) → ((q : PairRecord) → Has old.pairs q → q.local < length old.local)
      → HandlesSuccess now old via m emitted new → Fewer old new
  success_fewer now old new via m emitted inside (recorded, (i, p, after, found, keeps, (place, c, at, took), made), (path, mid, nominates, is, done)) =
      evaluated_fewer now old mid new done (on old (formed_again recorded) mid (on old recorded (formed_again recorded) (made-as old _ recorded made counts) (again recorded))
      (nominates_fewer (formed_again recorded) mid path nominates)) where
        counts : extras (own_at (local_with p m.attributes.xor_mapped_address (success_counted old))) (cells (slice_set old.pairs i after)) ≤ surplus old
        counts =
            subst (λ (cs : List Combination). extras (own_at (local_with p m.attributes.xor_mapped_address (success_counted old))) cs ≤ surplus old)
            (sym (cells-set old.pairs i p after found (ap (λ (y : PairRecord). cell_of y) took)))
            (mapped_fewer old p m.attributes.xor_mapped_address inside)

  switched_fewer : (a : AgentRecord H P) → Fewer a (switched a)
  switched_fewer a = alike a (switched a) (recast a (switched a).pairs (cells-map (with_priority_in (switched_sides a)) (λ p. refl) a.pairs))

  failure_fewer : (old new : AgentRecord H P) (via : Path) (m : Message) (emitted : Emitted) → HandlesFailure old via m emitted new → Fewer old new
  failure_fewer old new via m emitted h =
      by_failure (λ _ a. Fewer old a) old new via m emitted notes
      (λ code. on old (recoded code old) (switched (recoded code old)) (notes code) (switched_fewer (recoded code old))) h where
        notes : (code : PairRecord → Option ℕ) → Fewer old (recoded code old)
        notes code = alike old (recoded code old) (recast old (recoded code old).pairs (cells-map (coded code) (λ p. refl) old.pairs))

  -- ---- forming

  pub forms_few : (old new : AgentRecord H P) (all : List Combination) → FormsAll old all new → length new.pairs ≤ old.max_pairs
  forms_few old new all (f, (mid, each, evicts, number), made) =
      let all_gone = removes (sides_of old) old.max_pairs mid.pairs f.pairs evicts in
      subst (λ (a : AgentRecord H P). length a.pairs ≤ old.max_pairs) (sym made) (evicted-most old.max_pairs all_gone.0 mid.pairs f.pairs all_gone.1)

  -- ---- requests

  module _ (mac : H → List ℕ → List ℕ → List ℕ) (q : RequestRecord) where
    pair : (l r number : ℕ) (s new : AgentRecord H P) (emitted : Emitted) → RecordsAndResponds mac q l r number s emitted new → Fewer s new
    pair l r number s new emitted (path, mid, nominates, (values, is, made)) =
        let f = where_fewer (selects_at_requests s && is_valid_at number s.pairs) (pair_served q number s) mid path nominates in
        let e : grid_of (pair_served q number s) ≡ grid_of s =
        recast s (pair_served q number s).pairs (cells-map (change_at number (after_request q s)) (λ p. at-cell number (after_request q s) p (request-cell q s p)) s.pairs) in
        on s (pair_served q number s) new (alike s (pair_served q number s) e)
        (on (pair_served q number s) mid new f (alike mid new (ap (λ (a : AgentRecord H P). grid_of a) made)))

    takes : (l r : ℕ) (number : Option ℕ) (s new : AgentRecord H P) (emitted : Emitted) → own_at s.local l ≡ true → IsPairBetween s.pairs l r number → FindsOrAddsPair mac q l r number s emitted new → Fewer s new
    takes l r (Some number) s new emitted its between h = pair l r number s new emitted h
    takes l r None s new emitted its between h = either (candidate_at s.local l).discarded h (λ _ k. unchanged s new k.1)
        (λ _ k. on s (with_pair (formed s l r) s) new (added_fewer s l r its (none-any (is_between l r) s.pairs between))
        (pair l r s.next_number (with_pair (formed s l r) s) new emitted k.1))

    joins_at : (l : ℕ) (place : RemotePlace) (s new : AgentRecord H P) (emitted : Emitted) → own_at s.local l ≡ true → AddsUnknownSender mac q l place s emitted new → Fewer s new
    joins_at l (Known r) s new emitted its (number, between, h) = takes l r number s new emitted its between h
    joins_at l Barred s new emitted its h = unchanged s new h.1
    joins_at l Full s new emitted its h = unchanged s new h.1
    joins_at l Unknown s new emitted its (number, between, h) = takes l (length s.remote) number (with_sender q s) new emitted its between h
    joins_at l (Vacant r) s new emitted its (number, between, h) = takes l r number (with_sender_at r q s) new emitted its between h

    admitted : (l : ℕ) (s new : AgentRecord H P) (emitted : Emitted) → own_at s.local l ≡ true → CountsAndServes mac q l s emitted new → Fewer s new
    admitted l s new emitted its h = either (is_misled s.controlling q) h (λ _ k. unchanged s new k.1)
        (λ _ k. joins_at l k.0 (request_counted s) new emitted its k.2)

    resolves_by : (conflict : Conflict) (l : ℕ) (s new : AgentRecord H P) (emitted : Emitted) → own_at s.local l ≡ true → ResolvesRoleConflictBy mac conflict q l s emitted new → Fewer s new
    resolves_by Absent l s new emitted its h = admitted l s new emitted its h
    resolves_by Send487 l s new emitted its (values, is, made) = alike s new (ap (λ (a : AgentRecord H P). grid_of a) made)
    resolves_by SwitchRole l s new emitted its h = on s (switched s) new (switched_fewer s) (admitted l (switched s) new emitted its h)

    here : (place : Option ℕ) (s new : AgentRecord H P) (emitted : Emitted) → local_place s.local q ≡ place → MatchOption place (Drops s emitted new) (λ l. ResolvesRoleConflict mac q l s emitted new) → Fewer s new
    here None s new emitted is h = unchanged s new h.1
    here (Some l) s new emitted is h = resolves_by (conflict_of s q) l s new emitted (reached-own s.local q l is) h

    serves : (s new : AgentRecord H P) (emitted : Emitted) → Serves mac q s emitted new → Fewer s new
    serves s new emitted h = either (is_for_other_peer s q) (in_turn mac q s new emitted h) (λ _ k. unchanged s new k.1) (λ _ k. here (local_place s.local q) s new emitted refl k)

    requested : (remote : Option IceCreds) (s new : AgentRecord H P) (emitted : Emitted) → MatchOption remote (Queues q s emitted new) (λ _. Serves mac q s emitted new) → Fewer s new
    requested None s new emitted h = alike s new (ap (λ (a : AgentRecord H P). grid_of a) h.1)
    requested (Some peer) s new emitted h = serves s new emitted h

  -- ---- packets and timeouts

  module _ (mac : H → List ℕ → List ℕ → List ℕ) where
    by_class : (c : Class) (now : ℕ) (old mid : AgentRecord H P) (via : Path) (m : Message) (emitted : Emitted) → ((q : PairRecord) → Has old.pairs q → q.local < length old.local) → Takes mac c now old via m emitted mid → Fewer old mid
    by_class class.Request now old mid via m emitted inside h = requested mac (request_in now via m) old.remote_creds old mid emitted h
    by_class class.Success now old mid via m emitted inside h = success_fewer now old mid via m emitted inside h
    by_class class.Failure now old mid via m emitted inside h = failure_fewer old mid via m emitted h
    by_class class.Indication now old mid via m emitted inside h = absurd h
    by_class class.Unknown now old mid via m emitted inside h = absurd h

    handled : (now : ℕ) (old new : AgentRecord H P) (via : Path) (m : Message) (r : Result Bool IceError) (emitted : Emitted) → ((q : PairRecord) → Has old.pairs q → q.local < length old.local) → HandlesPacket mac now old via m r emitted new → Fewer old new
    handled now old new via m (Ok false) emitted inside (rejected, is, made) = unchanged old new made
    handled now old new via m (Ok true) emitted inside (accepted, (mid, takes_it, made)) =
        made-as old (discovered_emitted m.class emitted via mid) new made (by_class m.class now old mid via m emitted inside takes_it)
    handled now old new via m (Err error) emitted inside (may, is, made) = unchanged old new made

    pub received : (answers : P → CandidateRecord → ℕ → ℕ → Type 0) (now : ℕ) (old new : AgentRecord H P) (via : Path) (bytes : List ℕ) (e : Entry)
        → ((q : PairRecord) → Has old.pairs q → q.local < length old.local) → Receives mac answers now old via bytes e new → Fewer old new
    received answers now old new via bytes e inside (inl (fault, has, is, made)) = unchanged old new made
    received answers now old new via bytes e inside (inr (m, reads, (r, emitted, is, handles))) = handled now old new via m r emitted inside handles

    pub timed : (now : ℕ) (old new : AgentRecord H P) (s t : Stream) (r : Result (Unit {0}) IceError) (emitted : Emitted) → TimesOut mac now old s r emitted new t → Fewer old new
    timed now old new s t (Ok _) emitted h = by (request_at now old) h where
      by : (q : Option RequestRecord) → MatchOption q (MaintainsPairs mac now (timeout_begun now old) s emitted new t) (λ q. Serves mac q (first_taken (at_request now (timeout_begun now old))) emitted new × (t ≡ s)) → Fewer old new
      by None k = maintains_pairs_fewer mac now (timeout_begun now old) new s t emitted k
      by (Some q) (k, drawn) = serves mac q (first_taken (at_request now (timeout_begun now old))) new emitted k
    timed now old new s t (Err error) emitted (may, is, made, drawn) = unchanged old new made
