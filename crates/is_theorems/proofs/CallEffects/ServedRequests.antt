-- The effects of serving a request on pairs, and which path it selects.
use Rattle.is_pair.specs.Pairs.{numbered as with_number}
use Rattle.is_theorems.proofs.Common.{[], ◌&&◌, ◌++◌, ◌+◌, ◌<◌, ◌||◌, ◌∙◌, ◌∷◌, ◌≡◌, ◌≢◌, ◌≤◌, ◌⊎◌, Absent, AddsUnknownSender}
use Rattle.is_theorems.proofs.Common.{after_request, AgentRecord, ap, arith, as_taken, Barred, base_of, binding_reply}
use Rattle.is_theorems.proofs.Common.{binding_role_conflict_reply, Bool, candidate_at, CandidateRecord, carried, change_at, Conflict}
use Rattle.is_theorems.proofs.Common.{conflict_of, CountsAndServes, Drops, Emitted, eq-eqb, eqb-true, false, FindsOrAddsPair, followed}
use Rattle.is_theorems.proofs.Common.{formed, Full, given, Has, if◌then◌else◌, in_turn, inl, inr, is_at, is_direct, is_for_other_peer}
use Rattle.is_theorems.proofs.Common.{is_live, is_misled, is_nominated, is_numbered, is_reached, is_sender, is_vacant, is_valid_at, IsBased}
use Rattle.is_theorems.proofs.Common.{IsPairBetween, IsPut, IsRemotePlace, IsSenderPlace, issued_as, Known, length, length-append, less-or}
use Rattle.is_theorems.proofs.Common.{List, list_any, local_place, map, MatchOption, nominated, nominated_by_peer, nominated_by_self}
use Rattle.is_theorems.proofs.Common.{NominatesWhere, None, not, number_taken, numbered_by_peer, numbers, Option, option_or, Packet}
use Rattle.is_theorems.proofs.Common.{pair_served, PairRecord, Path, path_between, path_of, place_by, position, Protocol}
use Rattle.is_theorems.proofs.Common.{RecordsAndResponds, refl, remains, RemotePlace, request_counted, RequestRecord, ResolvesRoleConflict}
use Rattle.is_theorems.proofs.Common.{ResolvesRoleConflictBy, reversed, selected_in, selection_of, selects_at_requests, Send487}
use Rattle.is_theorems.proofs.Common.{sender_candidate, served, Serves, slice_set, SocketAddr, Some, subst, switched, switched_sides}
use Rattle.is_theorems.proofs.Common.{SwitchRole, sym, true, Unknown, Vacant, validated, validated_by_peer, with_pair, with_priority_in}
use Rattle.is_theorems.proofs.Common.{with_request, with_sender, with_sender_at, written, ℕ}
use Rattle.is_theorems.proofs.BasicLemmas.EqualAddresses.{both, same_address-sound, same_protocol-sound}
use Rattle.is_stun.specs.declared.header.Class.TheVariants.{Success, Failure}
use Rattle.is_pair.specs.Multiset.{is_between}
use Rattle.is_theorems.proofs.BasicLemmas.VacantIndices.{known-in, vacant-at, off-vacant, length-put, put-here, put-elsewhere}
use Rattle.is_theorems.proofs.RuleEffects.UnchangedSettings.{Frame, either, admits, where_frame, packet_along}
use Rattle.is_theorems.proofs.RuleEffects.EarlierAndNewPairs.{Parts, path_in, Fit, IsNominatedIn, Onward, below_max, here, not_below}
use Rattle.is_theorems.proofs.RuleEffects.EarlierAndNewPairs.{onward, pushed, Has-push}
use Rattle.is_theorems.proofs.RuleEffects.TriggeredPairs.{triggered_by, by_trigger}
use Rattle.is_theorems.proofs.RuleEffects.NominatedPairs.{SelectsPath, selects_path}
use Rattle.is_theorems.proofs.RuleEffects.ChangedPairs.{Kept_by_self, self_kept, Changed, unchanged, mapped, one_changed, parts_of}
use Rattle.is_theorems.proofs.RuleEffects.ChangedPairs.{nominates}
use Rattle.is_theorems.proofs.RuleEffects.SelectedPaths.{Evaluates, evaluates_none, Returns, returns_none, returns_one, returns_after}
use Rattle.is_theorems.proofs.RuleEffects.SelectedPaths.{one_pair}
use Rattle.is_theorems.proofs.CallEffects.ChecksAndResponses.{numbered}
use Rattle.is_theorems.proofs.BasicLemmas.CandidatesByIndex.{at-append, at-end, found-at, is-listed}
use Rattle.is_theorems.proofs.BasicLemmas.ServedPairs.{numbered-by, uses-taken}
use Rattle.is_theorems.proofs.RuleEffects.NotedErrors.{coded, recoded}

pub is_at_places : (l r : ℕ) (p : PairRecord) → is_between l r p ≡ true → (p.local ≡ l) × (p.remote ≡ r)
is_at_places l r p is = let k = both _ _ is in (eqb-true p.local l k.0, eqb-true p.remote r k.1)

false_true : false ≡ true → ⊥
false_true h = cc

no_less : {A : Type 0} (m n : ℕ) → m < n → m ≡ n → A
no_less m n lt same = let differ : m ≢ n = omega (arith, lt) in absurd (differ same)

is_at-sound : (address : SocketAddr) (proto : Protocol) (c : CandidateRecord) → is_at address proto c ≡ true → (c.addr ≡ address) × (c.proto ≡ proto)
is_at-sound address proto c h = let k = both _ _ h in (same_address-sound c.addr address k.0, same_protocol-sound c.proto proto k.1)

first_at : (test : CandidateRecord → Bool) (cs : List CandidateRecord) (l : ℕ) (live : Option ℕ) → position (is_live test) cs ≡ live
    → option_or live (position test cs) ≡ Some l → (l < length cs) × (test (candidate_at cs l) ≡ true)
first_at test cs l (Some k) is h =
    let found = found-at (is_live test) cs l (is ∙ h) in
    (found.0, (both (test (candidate_at cs l)) (not (candidate_at cs l).discarded) found.1).0)
first_at test cs l None is h = let found = found-at test cs l h in (found.0, found.1)

-- the candidate that received the request sends from the destination address
pub reached : (local : List CandidateRecord) (q : RequestRecord) (l : ℕ) → ((c : CandidateRecord) → Has local c → IsBased c) → local_place local q ≡ Some l
    → (l < length local) × ((base_of (candidate_at local l) ≡ q.path.destination) × ((candidate_at local l).proto ≡ q.path.proto))
reached local q l based h =
    let found = first_at (is_reached q) local l (position (is_live (is_reached q)) local) refl h in
    let c = candidate_at local l in
    let k = both (is_direct c.kind) (is_at q.path.destination q.path.proto c) found.1 in
    let at = is_at-sound q.path.destination q.path.proto c k.1 in
    let base : IsBased c = based c (is-listed local l found.0) in
    (found.0, (base k.0 ∙ at.0, at.1))

-- the sender of a request has the address that it came from
pub known_at : (remote : List CandidateRecord) (q : RequestRecord) (r : ℕ) → IsRemotePlace remote q (Known r) → (r < length remote) × ((candidate_at remote r).addr ≡ q.path.source)
known_at remote q r (Some k, greatest, is) =
    let same : r ≡ k = cc in
    let c = candidate_at remote k in
    let passes = both (is_sender q c) (not c.discarded) greatest.1 in
    rw same (greatest.0, (is_at-sound q.path.source q.path.proto c passes.0).0)
known_at remote q r (None, greatest, is) = absurd (none (list_any (is_sender q) remote) is) where
  none : (knows : Bool) → Known r ≡ place_by None knows → ⊥
  none true e = cc
  none false e = cc

pub Has-last : {X : Type 0} (xs : List X) (x : X) → Has (xs ++ x ∷ []) x
Has-last [] x = inl refl
Has-last (y ∷ ys) x = inr (Has-last ys x)

pub Has-mapped : {X Y : Type 0} (f : X → Y) (xs : List X) (x : X) → Has xs x → Has (map f xs) (f x)
Has-mapped f [] x h = absurd h
Has-mapped f (y ∷ xs) x (inl e) = inl (ap f e)
Has-mapped f (y ∷ xs) x (inr h) = inr (Has-mapped f xs x h)

-- a request leaves the indices of its pair
served_at : (c l : Bool) (q : RequestRecord) (p : PairRecord) → ((served c l q p).local ≡ p.local) × ((served c l q p).remote ≡ p.remote)
served_at c l q p =
    let w : PairRecord = with_request q.time p in
    let v : PairRecord = validated_by_peer c l w in
    let a = (self_kept (not c && q.use_candidate && not (is_nominated v)) l v) in
    let b = validated_kept (l && not c) w in
    numbered-by (λ x. (x.local ≡ p.local) × (x.remote ≡ p.remote)) c q.nomination (nominated_by_peer c l q v)
    (a.local ∙ b.0, a.remote ∙ b.1) (λ n. (a.local ∙ b.0, a.remote ∙ b.1)) where
      validated_kept : (b : Bool) (p : PairRecord) → ((if b then validated p else p).local ≡ p.local) × ((if b then validated p else p).remote ≡ p.remote)
      validated_kept true p = (refl, refl)
      validated_kept false p = (refl, refl)

-- also if it triggers a check
pub request_at_places : {H P : Type 0} (q : RequestRecord) (s : AgentRecord H P) (p : PairRecord)
    → ((after_request q s p).local ≡ p.local) × ((after_request q s p).remote ≡ p.remote)
request_at_places q s p =
    let k = served_at s.controlling s.lite (as_taken (numbers s) q) (triggered_by q s p) in (
      k.0 ∙ by_trigger (λ (x : PairRecord). x.local ≡ p.local) q s p (λ due. refl),
      k.1 ∙ by_trigger (λ (x : PairRecord). x.remote ≡ p.remote) q s p (λ due. refl),
    )

-- and nominates it if the request does
pub served_nominated : (c l : Bool) (q : RequestRecord) (p : PairRecord) → c ≡ false → q.use_candidate ≡ true → is_nominated (served c l q p) ≡ true
served_nominated c l q p role uses =
    let v : PairRecord = validated_by_peer c l (with_request q.time p) in
    let is = by c q.use_candidate (is_nominated v) l v role uses refl in
    numbered-by (λ x. is_nominated x ≡ true) c q.nomination (nominated_by_peer c l q v) is (λ n. is) where
      by : (c u n l : Bool) (v : PairRecord) → c ≡ false → u ≡ true → is_nominated v ≡ n → is_nominated (if not c && u && not n then nominated l v else v) ≡ true
      by true u n l v role uses is = let no : true ≡ false = role in cc
      by false false n l v role uses is = let no : false ≡ true = uses in cc
      by false true true l v role uses is = is
      by false true false true v role uses is = refl
      by false true false false v role uses is = refl

-- ---- nomination

-- it leaves a nominated pair nominated
self_keeps : (b n l : Bool) (p : PairRecord) → is_nominated p ≡ true → is_nominated (if b then (if n then nominated l p else p) else p) ≡ true
self_keeps true true true p is = refl
self_keeps true true false p is = refl
self_keeps true false l p is = is
self_keeps false n l p is = is

module _ {H P : Type 0} where
  -- the pair with the number is on the path, and nominated
  abbrev pub HasNominated : AgentRecord H P → ℕ → Path → Type 0
  HasNominated a number path = (p : PairRecord) × Has a.pairs p × (p.number ≡ number) × (is_nominated p ≡ true) × (path_of a p ≡ path)

  nominates_keeps : (old new : AgentRecord H P) (path : Option Path) (number : ℕ) (on : Path) → SelectsPath old path new → HasNominated old number on → HasNominated new number on
  nominates_keeps old new path number on (None, chosen, (is, made)) k = subst (λ (a : AgentRecord H P). HasNominated a number on) (sym made) k
  nominates_keeps old new path number on (Some top, chosen, h) (p, has, numbers, names, via) = either (remains (followed old) top (selection_of old)) h
      (λ _ k. subst (λ (a : AgentRecord H P). HasNominated a number on) (sym k.1) (p, has, numbers, names, via))
      (λ _ k. subst (λ (a : AgentRecord H P). HasNominated a number on) (sym k.1) (
        f p,
        Has-mapped f old.pairs p has,
        same.number ∙ numbers,
        self_keeps (is_numbered top.number p) (not (is_nominated p) && (old.controlling || old.lite)) old.lite p names,
        ap (λ n. path_between old n (f p).remote) same.local ∙ ap (λ n. path_between old p.local n) same.remote ∙ via,
      )) where
        f : PairRecord → PairRecord
        f = change_at top.number (nominated_by_self old.controlling old.lite)

        same_if : (b : Bool) → Kept_by_self p (if b then nominated_by_self old.controlling old.lite p else p)
        same_if true = self_kept (not (is_nominated p) && (old.controlling || old.lite)) old.lite p
        same_if false = record { number = refl; priority = refl; local = refl; remote = refl; valid = refl; checks = refl }

        same : Kept_by_self p (f p)
        same = same_if (is_numbered top.number p)

  pub where_nominated : (b : Bool) (old new : AgentRecord H P) (path : Option Path) (number : ℕ) (on : Path) → NominatesWhere b old path new → HasNominated old number on
      → HasNominated new number on
  where_nominated true old new path number on h k = nominates_keeps old new path number on (selects_path old new path h) k
  where_nominated false old new path number on h k = subst (λ (a : AgentRecord H P). HasNominated a number on) (sym h.1) k

module _ (asks : Path → ℕ → Type 0) (met : Path → Type 0) (sent : Path → List ℕ → Bool → Type 0) where
  -- ---- one pair

  pub changed_again : (path : Path) (a b c : PairRecord) → Changed asks met sent path a b → Changed asks met sent path b c → Changed asks met sent path a c
  changed_again path a b c h k = record {
    number = k.number ∙ h.number;
    local = k.local ∙ h.local;
    remote = k.remote ∙ h.remote;
    checks = λ x keeps. elim (k.checks x keeps) [
      | inl (d, there, id, role) ↦ elim (h.checks d there) [
        | inl (f, first, id_was, role_was) ↦ inl (f, first, id_was ∙ id, role_was ∙ role)
        | inr out ↦ inr (subst (λ r. sent path x.id r) role (subst (λ i. sent path i d.controlling) id out))
      ]
      | inr out ↦ inr out
    ];
    valid = λ is. elim (k.valid is) [ inl v ↦ h.valid v | inr m ↦ inr m ];
    asked = λ is. elim (k.asked is) [ inl v ↦ h.asked v | inr m ↦ inr m ];
    numbered = λ m le. elim (k.numbered m le) [ inl v ↦ h.numbered m v | inr a ↦ inr a ];
    still_valid = λ is. k.still_valid (h.still_valid is);
    still_nominated = λ is. k.still_nominated (h.still_nominated is);
    started = λ s. k.started (h.started s);
    consented = λ s had. k.consented (h.started s) (h.consented s had);
  }

  requested : (path : Path) (now : ℕ) (p : PairRecord) → Changed asks met sent path p (with_request now p)
  requested path now p = record {
    number = refl;
    local = refl;
    remote = refl;
    checks = λ c keeps. inl (c, keeps, refl, refl);
    valid = λ is. inl is;
    asked = λ is. inl is;
    numbered = λ m le. inl le;
    still_valid = λ is. is;
    still_nominated = λ is. is;
    started = λ s. s;
    consented = λ _ had. had;
  }

  validates : (b : Bool) (path : Path) (p : PairRecord) → (b ≡ true → met path) → Changed asks met sent path p (if b then validated p else p)
  validates true path p is_met = record {
    number = refl;
    local = refl;
    remote = refl;
    checks = λ c keeps. inl (c, keeps, refl, refl);
    valid = λ is. inr (is_met refl);
    asked = λ is. inl is;
    numbered = λ m le. inl le;
    still_valid = λ is. refl;
    still_nominated = λ is. is;
    started = λ s c keeps. refl;
    consented = λ _ had is. refl;
  }
  validates false path p is_met = unchanged asks met sent path p

  nominates_if : (b lite : Bool) (path : Path) (p : PairRecord) → (b ≡ true → asks path 0) → Changed asks met sent path p (if b then nominated lite p else p)
  nominates_if true true path p asking = record {
    number = refl;
    local = refl;
    remote = refl;
    checks = λ c keeps. inl (c, keeps, refl, refl);
    valid = λ is. inl is;
    asked = λ is. inr (asking refl);
    numbered = λ m le. inl le;
    still_valid = λ is. is;
    still_nominated = λ is. refl;
    started = λ s. s;
    consented = λ _ had. had;
  }
  nominates_if true false path p asking = record {
    number = refl;
    local = refl;
    remote = refl;
    checks = λ c keeps. inl (c, keeps, refl, refl);
    valid = λ is. inl is;
    asked = λ is. inr (asking refl);
    numbered = λ m le. inl le;
    still_valid = λ is. is;
    still_nominated = λ is. refl;
    started = λ s. s;
    consented = λ _ had. had;
  }
  nominates_if false lite path p asking = unchanged asks met sent path p

  asked_by : (c u n : Bool) → (not c && u && not n) ≡ true → (c ≡ false) × (u ≡ true)
  asked_by true u n h = let no : false ≡ true = h in cc
  asked_by false true n h = (refl, refl)
  asked_by false false n h = let no : false ≡ true = h in cc

  -- the number of a nomination changes nothing else
  numbers_it : (path : Path) (n : ℕ) (p : PairRecord) → ((m : ℕ) → 0 < m → m ≤ n → asks path m) → Changed asks met sent path p (with_number n p)
  numbers_it path n p rises = record {
    number = refl;
    local = refl;
    remote = refl;
    checks = λ c keeps. inl (c, keeps, refl, refl);
    valid = λ is. inl is;
    asked = λ is. inl is;
    numbered = λ m le. elim (less-or 0 m) [
      | inl pos ↦ elim (below_max m p.greatest_number n le) [ inl few ↦ inl few | inr most ↦ inr (rises m pos most) ]
      | inr none ↦ inl (omega (arith, none))
    ];
    still_valid = λ is. is;
    still_nominated = λ is. is;
    started = λ k. k;
    consented = λ _ had. had;
  }

  pub served_changes : (path : Path) (controlling lite : Bool) (q : RequestRecord) (p : PairRecord) → ((lite && not controlling) ≡ true → met path)
      → (controlling ≡ false → q.use_candidate ≡ true → (m : ℕ) → m ≤ given q.nomination → asks path m)
      → ((n : ℕ) → q.nomination ≡ Some n → 0 < n → q.use_candidate ≡ true) → Changed asks met sent path p (served controlling lite q p)
  served_changes path controlling lite q p is_met asking uses =
      let w : PairRecord = with_request q.time p in
      let v : PairRecord = validated_by_peer controlling lite w in
      let peer_named : PairRecord = nominated_by_peer controlling lite q v in
      let all : Changed asks met sent path p peer_named =
      changed_again path p v peer_named
      (changed_again path p w v (requested path q.time p) (validates (lite && not controlling) path w is_met))
      (nominates_if (not controlling && q.use_candidate && not (is_nominated v)) lite path v
      (λ is. let k = asked_by controlling q.use_candidate (is_nominated v) is in asking k.0 k.1 0 (omega arith))) in
      by_number controlling q.nomination refl refl peer_named all where
        by_number : (c : Bool) (o : Option ℕ) → controlling ≡ c → q.nomination ≡ o → (x : PairRecord) → Changed asks met sent path p x → Changed asks met sent path p (numbered_by_peer c o x)
        by_number c None role is x all = all
        by_number true (Some n) role is x all = all
        by_number false (Some n) role is x all = changed_again path p x (with_number n x) all (numbers_it path n x (λ m pos le.
            asking role (uses n is (omega (arith, pos, le))) m (subst (λ o. m ≤ given o) (sym is) le)))

  -- first the request may trigger a check
  triggers : {H P : Type 0} (path : Path) (q : RequestRecord) (s : AgentRecord H P) (p : PairRecord) → Changed asks met sent path p (triggered_by q s p)
  triggers path q s p = by_trigger (λ (x : PairRecord). Changed asks met sent path p x) q s p (λ due. record {
    number = refl;
    local = refl;
    remote = refl;
    checks = λ c keeps. inl (c, keeps, refl, refl);
    valid = λ is. inl is;
    asked = λ is. inl is;
    numbered = λ m le. inl le;
    still_valid = λ is. is;
    still_nominated = λ is. is;
    started = λ k. k;
    consented = λ _ had. had;
  })

  pub request_changes : {H P : Type 0} (path : Path) (q : RequestRecord) (s : AgentRecord H P) (p : PairRecord) → ((s.lite && not s.controlling) ≡ true → met path)
      → (s.controlling ≡ false → (as_taken (numbers s) q).use_candidate ≡ true → (m : ℕ) → m ≤ number_taken s q → asks path m) → Changed asks met sent path p (after_request q s p)
  request_changes path q s p is_met asking =
      changed_again path p (triggered_by q s p) (after_request q s p) (triggers path q s p)
      (served_changes path s.controlling s.lite (as_taken (numbers s) q) (triggered_by q s p) is_met asking (uses-taken (numbers s) q))

  -- ---- the rules

  -- a remote candidate is appended
  pub remote_puts : (x : Parts) (r : ℕ) (c : CandidateRecord) → Fit x → is_vacant x.remote x.pairs r ≡ true → Onward asks met sent x (record x { remote = slice_set x.remote r c })
  remote_puts x r c fit vacant = record {
    counter = omega arith;
    pairs = λ p has. inl (record {
      was = p;
      there = has;
      number = refl;
      path = ap (λ (y : CandidateRecord). let path : Path = record { proto = (candidate_at x.local p.local).proto; source = base_of (candidate_at x.local p.local); destination = y.addr } in path)
          (sym (put-elsewhere x.remote r p.remote c (off-vacant x.remote x.pairs r vacant p has)));
      checks = λ k keeps. inl (k, keeps, refl, refl);
      valid = λ is. inl is;
      asked = λ is. inl is;
      numbered = λ m le. inl le;
      still_valid = λ is. is;
      still_nominated = λ is. is;
    });
    fit = record {
      placed = λ p has. (let w = fit.placed p has in (w.0, subst (λ n. p.remote < n) (sym (length-put x.remote r c)) w.1));
      rising = fit.rising;
      below = fit.below;
      started = fit.started;
      consented = fit.consented;
    };
  }

  pub remote_joins : (x : Parts) (c : CandidateRecord) → Fit x → Onward asks met sent x (record x { remote = x.remote ++ c ∷ [] })
  remote_joins x c fit =
      let longer : length (x.remote ++ c ∷ []) ≡ length x.remote + 1 = length-append x.remote (c ∷ []) in record {
        counter = omega arith;
        pairs = λ p has. inl (record {
          was = p;
          there = has;
          number = refl;
          path = ap (λ (y : CandidateRecord). let path : Path = record { proto = (candidate_at x.local p.local).proto; source = base_of (candidate_at x.local p.local); destination = y.addr } in path)
              (sym (at-append x.remote (c ∷ []) p.remote (fit.placed p has).1));
          checks = λ k keeps. inl (k, keeps, refl, refl);
          valid = λ is. inl is;
          asked = λ is. inl is;
          numbered = λ m le. inl le;
          still_valid = λ is. is;
          still_nominated = λ is. is;
        });
        fit = record {
          placed = λ p has. (let w = fit.placed p has in let lt = w.1 in (w.0, omega (arith, lt, longer)));
          rising = fit.rising;
          below = fit.below;
          started = fit.started;
          consented = fit.consented;
        };
      }

  module _ {H P : Type 0} where
    -- the role switches
    pub switches : (s : AgentRecord H P) → Fit (parts_of asks met sent s) → Onward asks met sent (parts_of asks met sent s) (parts_of asks met sent (switched s))
    switches s fit = mapped asks met sent (parts_of asks met sent s) (with_priority_in (switched_sides s)) fit (λ p has. record {
      number = refl;
      local = refl;
      remote = refl;
      checks = λ c keeps. inl (c, keeps, refl, refl);
      valid = λ is. inl is;
      asked = λ is. inl is;
      numbered = λ m le. inl le;
      still_valid = λ is. is;
      still_nominated = λ is. is;
      started = λ t. t;
      consented = λ _ had. had;
    })

    -- a pair keeps the code of an error response
    pub notes : (code : PairRecord → Option ℕ) (s : AgentRecord H P) → Fit (parts_of asks met sent s) → Onward asks met sent (parts_of asks met sent s) (parts_of asks met sent (recoded code s))
    notes code s fit = mapped asks met sent (parts_of asks met sent s) (coded code) fit (λ p has. record {
      number = refl;
      local = refl;
      remote = refl;
      checks = λ c keeps. inl (c, keeps, refl, refl);
      valid = λ is. inl is;
      asked = λ is. inl is;
      numbered = λ m le. inl le;
      still_valid = λ is. is;
      still_nominated = λ is. is;
      started = λ t. t;
      consented = λ _ had. had;
    })

    -- and the role switches then
    pub notes_and_switches : (code : PairRecord → Option ℕ) (s : AgentRecord H P) → Fit (parts_of asks met sent s)
        → Onward asks met sent (parts_of asks met sent s) (parts_of asks met sent (switched (recoded code s)))
    notes_and_switches code s fit =
        let first = notes code s fit in
        onward asks met sent (parts_of asks met sent s) (parts_of asks met sent (recoded code s)) (parts_of asks met sent (switched (recoded code s))) first (switches (recoded code s) first.fit)

    module _ (mac : H → List ℕ → List ℕ → List ℕ) (q : RequestRecord) where
      abbrev pub reply_bytes : AgentRecord H P → List ℕ
      reply_bytes s = written (mac s.provider) (Some s.local_creds.pass) (binding_reply q.id q.path.source)

      abbrev pub conflict_bytes : AgentRecord H P → List ℕ
      conflict_bytes s = written (mac s.provider) (Some s.local_creds.pass) (binding_role_conflict_reply q.id)

      -- nothing is sent, or the response on the reverse path; and the pair is nominated if the peer nominates it
      abbrev pub Replied : AgentRecord H P → Emitted → AgentRecord H P → Type 0
      Replied s emitted new =
          ((emitted.issued ≡ None) × (new.packets ≡ s.packets))
          ⊎ ((emitted.issued ≡ Some (issued_as (reversed q.path) Success q.id)) × IsPut (reply_bytes s) (binding_reply q.id (carried q.path.source))
          × (new.packets ≡ s.packets ++ packet_along (reversed q.path) (reply_bytes s) ∷ [])
          × ((as_taken (numbers s) q).use_candidate ≡ true → new.controlling ≡ false → IsNominatedIn (parts_of asks met sent new) (reversed q.path)))

      -- the 487 is sent
      abbrev pub ConflictSent : AgentRecord H P → Emitted → AgentRecord H P → Type 0
      ConflictSent s emitted new =
          (emitted.issued ≡ Some (issued_as (reversed q.path) Failure q.id)) × IsPut (conflict_bytes s) (binding_role_conflict_reply q.id)
          × (new.packets ≡ s.packets ++ packet_along (reversed q.path) (conflict_bytes s) ∷ []) × (conflict_of s q ≡ Send487) × (new.controlling ≡ s.controlling)

      -- what serving does, from a state that satisfies the invariant
      abbrev pub Does : AgentRecord H P → Emitted → AgentRecord H P → Type 0
      Does s emitted new =
          Onward asks met sent (parts_of asks met sent s) (parts_of asks met sent new)
          × Returns asks met sent (parts_of asks met sent s) (parts_of asks met sent new) s.selected_pair new.selected_pair emitted.selected_paths
          × Replied s emitted new

      abbrev pub DoesOrSends487 : AgentRecord H P → Emitted → AgentRecord H P → Type 0
      DoesOrSends487 s emitted new =
          Onward asks met sent (parts_of asks met sent s) (parts_of asks met sent new)
          × Returns asks met sent (parts_of asks met sent s) (parts_of asks met sent new) s.selected_pair new.selected_pair emitted.selected_paths
          × (Replied s emitted new ⊎ ConflictSent s emitted new)

      pub or_sends_487 : (s new : AgentRecord H P) (emitted : Emitted) → Does s emitted new → DoesOrSends487 s emitted new
      or_sends_487 s new emitted (o, reports, posts) = (o, reports, inl posts)

      quiet_returns : (s new : AgentRecord H P) (emitted : Emitted) → emitted.selected_paths ≡ selected_in None None → new.selected_pair ≡ s.selected_pair
          → Returns asks met sent (parts_of asks met sent s) (parts_of asks met sent new) s.selected_pair new.selected_pair emitted.selected_paths
      quiet_returns s new emitted is same =
          subst (λ (ps : List (Option Path)). Returns asks met sent (parts_of asks met sent s) (parts_of asks met sent new) s.selected_pair new.selected_pair ps) (sym is)
          (returns_none asks met sent (parts_of asks met sent s) (parts_of asks met sent new) s.selected_pair new.selected_pair same)

      drops_does : (s new : AgentRecord H P) (emitted : Emitted) → Fit (parts_of asks met sent s) → Drops s emitted new → Does s emitted new
      drops_does s new emitted fit (is, same) = (
        subst (λ (a : AgentRecord H P). Onward asks met sent (parts_of asks met sent s) (parts_of asks met sent a)) (sym same) (here asks met sent (parts_of asks met sent s) fit),
        quiet_returns s new emitted (ap (λ (x : Emitted). x.selected_paths) is) (ap (λ (a : AgentRecord H P). a.selected_pair) same),
        inl (ap (λ (x : Emitted). x.issued) is, ap (λ (a : AgentRecord H P). a.packets) same),
      )

      -- what serving at this pair may assume, by the role that it finds
      pub record AcceptsNomination (s : AgentRecord H P) (l r : ℕ) : Type 0 where
        pub via : path_between s l r ≡ reversed q.path
        pub valid : (s.lite && not s.controlling) ≡ true → met (path_between s l r)
        pub asking : s.controlling ≡ false → (as_taken (numbers s) q).use_candidate ≡ true → (m : ℕ) → m ≤ number_taken s q → asks (path_between s l r) m
        pub free : (s.controlling || s.lite) ≡ true → (p : Path) (m : ℕ) → asks p m

      pair_does : (l r number : ℕ) (s new : AgentRecord H P) (emitted : Emitted) → Fit (parts_of asks met sent s) → AcceptsNomination s l r
          → ((p : PairRecord) → Has s.pairs p → p.number ≡ number → (p.local ≡ l) × (p.remote ≡ r))
          → ((p : PairRecord) × Has s.pairs p × (p.number ≡ number)) → RecordsAndResponds mac q l r number s emitted new → Does s emitted new
      pair_does l r number s new emitted fit accepts_nomination at there (path, mid, nominating, (values, is, made)) =
          let x : Parts = parts_of asks met sent s in
          let y : AgentRecord H P = pair_served q number s in
          let z : Parts = parts_of asks met sent mid in
          let changes : Onward asks met sent x (parts_of asks met sent y) =
          one_changed asks met sent x number (after_request q s) fit
          (λ p has same. (
          let place = at p has (numbered number p same) in
          let path_is : path_between s l r ≡ path_in x p =
          ap (λ k. path_between s k r) (sym place.0) ∙ ap (λ k. path_between s p.local k) (sym place.1) in
          request_changes (path_in x p) q s p
          (λ v. subst met path_is (accepts_nomination.valid v))
          (λ c u m le. subst (λ z. asks z m) path_is (accepts_nomination.asking c u m le)))) in
          let n = where_does (selects_at_requests s && is_valid_at number s.pairs) y mid path changes.fit accepts_nomination.free nominating in
          let frame = where_frame (selects_at_requests s && is_valid_at number s.pairs) y mid path nominating in
          let via : path_between s l r ≡ reversed q.path = accepts_nomination.via in
          let bytes : reply_bytes mid ≡ reply_bytes s =
          ap (λ (f : Frame H). written (mac f.provider) (Some f.local_creds.pass) (binding_reply q.id q.path.source)) frame.0 in
          let out : packet_along (path_between s l r) (reply_bytes mid) ≡ packet_along (reversed q.path) (reply_bytes s) =
          ap (λ w. packet_along w (reply_bytes mid)) via ∙ ap (λ b. packet_along (reversed q.path) b) bytes in (
            subst (λ (a : AgentRecord H P). Onward asks met sent x (parts_of asks met sent a)) (sym made)
                (onward asks met sent x (parts_of asks met sent y) z changes n.0),
            subst (λ (ps : List (Option Path)). Returns asks met sent x (parts_of asks met sent new) s.selected_pair new.selected_pair ps) (sym (ap (λ (x : Emitted). x.selected_paths) is))
                (subst (λ (a : AgentRecord H P). Returns asks met sent x (parts_of asks met sent a) s.selected_pair a.selected_pair (selected_in path None)) (sym made)
                (returns_after asks met sent x (parts_of asks met sent y) z s.selected_pair mid.selected_pair (selected_in path None) changes
                (returns_one asks met sent (parts_of asks met sent y) z s.selected_pair mid.selected_pair path n.1))),
            inr (
              ap (λ (x : Emitted). x.issued) is ∙ ap (λ w. Some (issued_as w Success q.id)) via,
              subst (λ b. IsPut b (binding_reply q.id (carried q.path.source))) bytes values,
              ap (λ (a : AgentRecord H P). a.packets) made ∙ ap (λ (ps : List Packet). ps ++ packet_along (path_between s l r) (reply_bytes mid) ∷ []) frame.1
                  ∙ ap (λ o. s.packets ++ o ∷ []) out,
              λ uses controlled. (
                  let role : s.controlling ≡ false = sym (ap (λ (f : Frame H). f.controlling) frame.0) ∙ sym (ap (λ (a : AgentRecord H P). a.controlling) made) ∙ controlled in
                  let g : PairRecord → PairRecord = change_at number (after_request q s) in
                  let p : PairRecord = there.0 in
                  let place = at p there.1 there.2 in
                  let v : PairRecord = after_request q s p in
                  let is_served : g p ≡ v = ap (λ b. if b then v else p) (eq-eqb p.number number there.2) in
                  let kept = request_at_places q s p in
                  let own : path_between s v.local v.remote ≡ reversed q.path =
                  ap (λ k. path_between s k v.remote) (kept.0 ∙ place.0) ∙ ap (λ k. path_between s l k) (kept.1 ∙ place.1) ∙ via in
                  let on = where_nominated (selects_at_requests s && is_valid_at number s.pairs) y mid path v.number (reversed q.path) nominating (
                    v,
                    subst (λ (o : PairRecord). Has (map g s.pairs) o) is_served (Has-mapped g s.pairs p there.1),
                    refl,
                    served_nominated s.controlling s.lite (as_taken (numbers s) q) (triggered_by q s p) role uses,
                    own,
                  ) in
                  subst (λ (a : AgentRecord H P). IsNominatedIn (parts_of asks met sent a) (reversed q.path)) (sym made) (on.0, on.1, on.3, on.4)),
            ),
          ) where
            where_does : (b : Bool) (old mid : AgentRecord H P) (path : Option Path) → Fit (parts_of asks met sent old)
                → ((old.controlling || old.lite) ≡ true → (p : Path) (m : ℕ) → asks p m) → NominatesWhere b old path mid
                → Onward asks met sent (parts_of asks met sent old) (parts_of asks met sent mid) × Evaluates asks met sent (parts_of asks met sent old) (parts_of asks met sent mid) old.selected_pair mid.selected_pair path
            where_does true old mid path fit free h = nominates asks met sent old mid path free fit h
            where_does false old mid path fit free (is, same) = (
              subst (λ (a : AgentRecord H P). Onward asks met sent (parts_of asks met sent old) (parts_of asks met sent a)) (sym same) (here asks met sent (parts_of asks met sent old) fit),
              evaluates_none asks met sent (parts_of asks met sent old) (parts_of asks met sent mid) old.selected_pair mid.selected_pair path is (ap (λ (a : AgentRecord H P). a.selected_pair) same),
            )

      -- what a request implies, by its reverse path
      pub record AcceptedNominations (s : AgentRecord H P) : Type 0 where
        pub valid : (s.lite && not s.controlling) ≡ true → met (reversed q.path)
        pub asking : s.controlling ≡ false → (as_taken (numbers s) q).use_candidate ≡ true → (m : ℕ) → m ≤ number_taken s q → asks (reversed q.path) m
        pub free : (s.controlling || s.lite) ≡ true → (p : Path) (m : ℕ) → asks p m

      accepts_nomination_at : (s : AgentRecord H P) (l r : ℕ) → path_between s l r ≡ reversed q.path → AcceptedNominations s → AcceptsNomination s l r
      accepts_nomination_at s l r via g = record {
        via = via;
        valid = λ h. subst met (sym via) (g.valid h);
        asking = λ c u m le. subst (λ z. asks z m) (sym via) (g.asking c u m le);
        free = g.free;
      }

      abbrev IsHere : AgentRecord H P → ℕ → Type 0
      IsHere s l = (base_of (candidate_at s.local l) ≡ q.path.destination) × ((candidate_at s.local l).proto ≡ q.path.proto)

      via_back : (s : AgentRecord H P) (l r : ℕ) → IsHere s l → (candidate_at s.remote r).addr ≡ q.path.source → path_between s l r ≡ reversed q.path
      via_back s l r (base, proto) source = rw (base, proto, source) refl

      adds_does : (l r : ℕ) (s new : AgentRecord H P) (emitted : Emitted) → l < length s.local → r < length s.remote → Fit (parts_of asks met sent s) → AcceptsNomination s l r
          → RecordsAndResponds mac q l r s.next_number (with_pair (formed s l r) s) emitted new → Does s emitted new
      adds_does l r s new emitted in_local in_remote fit accepts_nomination h =
          let x : Parts = parts_of asks met sent s in
          let p : PairRecord = formed s l r in
          let y : AgentRecord H P = with_pair p s in
          let joins : Onward asks met sent x (parts_of asks met sent y) =
          pushed asks met sent x x.pairs p fit (λ k has. has) fit.rising refl (in_local, in_remote) refl (λ (is : false ≡ true). absurd (false_true is)) (λ (is : false ≡ true). absurd (false_true is)) (λ (is : false ≡ true). absurd (false_true is)) (λ m pos le. not_below m pos le) in
          let k = pair_does l r s.next_number y new emitted joins.fit (record { via = accepts_nomination.via; valid = accepts_nomination.valid; asking = accepts_nomination.asking; free = accepts_nomination.free })
          (λ o has same. elim (Has-push s.pairs p o has) [
            | inl was ↦ absurd (no_less o.number s.next_number (fit.below o was) same)
            | inr now ↦ subst (λ (z : PairRecord). (z.local ≡ l) × (z.remote ≡ r)) now (refl, refl)
          ]) (p, Has-last s.pairs p, refl) h in (
            onward asks met sent x (parts_of asks met sent y) (parts_of asks met sent new) joins k.0,
            returns_after asks met sent x (parts_of asks met sent y) (parts_of asks met sent new) s.selected_pair new.selected_pair emitted.selected_paths joins k.1,
            k.2,
          )

      takes_does : (l r : ℕ) (number : Option ℕ) (s new : AgentRecord H P) (emitted : Emitted) → l < length s.local → r < length s.remote → Fit (parts_of asks met sent s)
          → AcceptsNomination s l r → IsPairBetween s.pairs l r number → FindsOrAddsPair mac q l r number s emitted new → Does s emitted new
      takes_does l r (Some number) s new emitted in_local in_remote fit accepts_nomination (p, has, between, is) h =
          let place = is_at_places l r p between in
          pair_does l r number s new emitted fit accepts_nomination
          (λ o there same. subst (λ (z : PairRecord). (z.local ≡ l) × (z.remote ≡ r)) (one_pair s.pairs p o fit.rising has there (is ∙ sym same)) place) (p, has, is) h
      takes_does l r None s new emitted in_local in_remote fit accepts_nomination none h = either (candidate_at s.local l).discarded h
          (λ _ k. drops_does s new emitted fit k)
          (λ _ k. adds_does l r s new emitted in_local in_remote fit accepts_nomination k.1)

      joins_does : (l : ℕ) (place : RemotePlace) (s new : AgentRecord H P) (emitted : Emitted) → l < length s.local → IsHere s l → Fit (parts_of asks met sent s) → AcceptedNominations s
          → IsSenderPlace s q place → AddsUnknownSender mac q l place s emitted new → Does s emitted new
      joins_does l (Known r) s new emitted in_local is_here fit nomination_accepted remote (number, between, h) =
          let k = known_at s.remote q r (known-in s.max_discovered s.remote s.pairs q r remote) in
          takes_does l r number s new emitted in_local k.0 fit (accepts_nomination_at s l r (via_back s l r is_here k.1) nomination_accepted) between h
      joins_does l Barred s new emitted in_local is_here fit nomination_accepted remote h = drops_does s new emitted fit h
      joins_does l Full s new emitted in_local is_here fit nomination_accepted remote h = drops_does s new emitted fit h
      joins_does l (Vacant r) s new emitted in_local is_here fit nomination_accepted remote (number, between, h) =
          let x : Parts = parts_of asks met sent s in
          let y : AgentRecord H P = with_sender_at r q s in
          let c : CandidateRecord = sender_candidate s q in
          let v = vacant-at s.max_discovered s.remote s.pairs q r remote in
          let joins = remote_puts x r c fit v.1 in
          let at : (candidate_at (slice_set s.remote r c) r).addr ≡ q.path.source = ap (λ (z : CandidateRecord). z.addr) (put-here s.remote r c v.0) in
          let k = takes_does l r number y new emitted in_local (subst (λ n. r < n) (sym (length-put s.remote r c)) v.0) joins.fit
          (accepts_nomination_at y l r (via_back y l r is_here at) (record { valid = nomination_accepted.valid; asking = nomination_accepted.asking; free = nomination_accepted.free })) between h in (
            onward asks met sent x (parts_of asks met sent y) (parts_of asks met sent new) joins k.0,
            returns_after asks met sent x (parts_of asks met sent y) (parts_of asks met sent new) s.selected_pair new.selected_pair emitted.selected_paths joins k.1,
            k.2,
          )
      joins_does l Unknown s new emitted in_local is_here fit nomination_accepted remote (number, between, h) =
          let x : Parts = parts_of asks met sent s in
          let y : AgentRecord H P = with_sender q s in
          let c : CandidateRecord = sender_candidate s q in
          let r : ℕ = length s.remote in
          let longer : length (s.remote ++ c ∷ []) ≡ r + 1 = length-append s.remote (c ∷ []) in
          let joins = remote_joins x c fit in
          let at : (candidate_at (s.remote ++ c ∷ []) r).addr ≡ q.path.source = ap (λ (z : CandidateRecord). z.addr) (at-end s.remote c) in
          let k = takes_does l r number y new emitted in_local (omega (arith, longer)) joins.fit
          (accepts_nomination_at y l r (via_back y l r is_here at) (record { valid = nomination_accepted.valid; asking = nomination_accepted.asking; free = nomination_accepted.free })) between h in (
            onward asks met sent x (parts_of asks met sent y) (parts_of asks met sent new) joins k.0,
            returns_after asks met sent x (parts_of asks met sent y) (parts_of asks met sent new) s.selected_pair new.selected_pair emitted.selected_paths joins k.1,
            k.2,
          )

      pub admits_does : (l : ℕ) (s new : AgentRecord H P) (emitted : Emitted) → l < length s.local → IsHere s l → Fit (parts_of asks met sent s) → AcceptedNominations s
          → CountsAndServes mac q l s emitted new → Does s emitted new
      admits_does l s new emitted in_local is_here fit nomination_accepted h = either (is_misled s.controlling q) h
          (λ _ k. drops_does s new emitted fit k)
          (λ _ k. joins_does l k.0 (request_counted s) new emitted in_local is_here fit (record { valid = nomination_accepted.valid; asking = nomination_accepted.asking; free = nomination_accepted.free }) k.1 k.2)

      resolves_does : (conflict : Conflict) (l : ℕ) (s new : AgentRecord H P) (emitted : Emitted) → conflict_of s q ≡ conflict → l < length s.local → IsHere s l → Fit (parts_of asks met sent s)
          → (conflict ≡ Absent → AcceptedNominations s) → (conflict ≡ SwitchRole → new.controlling ≡ not s.controlling → AcceptedNominations (switched s)) → ResolvesRoleConflictBy mac conflict q l s emitted new → DoesOrSends487 s emitted new
      resolves_does Absent l s new emitted by in_local is_here fit stays turns h = or_sends_487 s new emitted (admits_does l s new emitted in_local is_here fit (stays refl) h)
      resolves_does Send487 l s new emitted by in_local is_here fit stays turns (values, is, made) = (
        subst (λ (a : AgentRecord H P). Onward asks met sent (parts_of asks met sent s) (parts_of asks met sent a)) (sym made) (here asks met sent (parts_of asks met sent s) fit),
        quiet_returns s new emitted (ap (λ (x : Emitted). x.selected_paths) is) (ap (λ (a : AgentRecord H P). a.selected_pair) made),
        inr (
          ap (λ (x : Emitted). x.issued) is,
          values,
          ap (λ (a : AgentRecord H P). a.packets) made,
          by,
          ap (λ (a : AgentRecord H P). a.controlling) made,
        ),
      )
      resolves_does SwitchRole l s new emitted by in_local is_here fit stays turns h =
          let x : Parts = parts_of asks met sent s in
          let first = switches s fit in
          let k = admits_does l (switched s) new emitted in_local is_here first.fit (turns refl (ap (λ (f : Frame H). f.controlling) (admits mac q l (switched s) new emitted h).0)) h in (
            onward asks met sent x (parts_of asks met sent (switched s)) (parts_of asks met sent new) first k.0,
            returns_after asks met sent x (parts_of asks met sent (switched s)) (parts_of asks met sent new) s.selected_pair new.selected_pair emitted.selected_paths first k.1,
            inl k.2,
          )

      here_does : (place : Option ℕ) (s new : AgentRecord H P) (emitted : Emitted) → local_place s.local q ≡ place → ((c : CandidateRecord) → Has s.local c → IsBased c) → Fit (parts_of asks met sent s)
          → (conflict_of s q ≡ Absent → AcceptedNominations s) → (conflict_of s q ≡ SwitchRole → new.controlling ≡ not s.controlling → AcceptedNominations (switched s))
          → MatchOption place (Drops s emitted new) (λ l. ResolvesRoleConflict mac q l s emitted new) → DoesOrSends487 s emitted new
      here_does None s new emitted is based fit stays turns h = or_sends_487 s new emitted (drops_does s new emitted fit h)
      here_does (Some l) s new emitted is based fit stays turns h =
          let k = reached s.local q l based is in
          resolves_does (conflict_of s q) l s new emitted refl k.0 k.1 fit stays turns h

      -- a request that is served: its effect on the pairs, and each selected path was valid before
      pub serves_does : (s new : AgentRecord H P) (emitted : Emitted) → ((c : CandidateRecord) → Has s.local c → IsBased c) → Fit (parts_of asks met sent s)
          → (conflict_of s q ≡ Absent → AcceptedNominations s) → (conflict_of s q ≡ SwitchRole → new.controlling ≡ not s.controlling → AcceptedNominations (switched s)) → Serves mac q s emitted new → DoesOrSends487 s emitted new
      serves_does s new emitted based fit stays turns h = either (is_for_other_peer s q) (in_turn mac q s new emitted h)
          (λ _ k. or_sends_487 s new emitted (drops_does s new emitted fit k))
          (λ _ k. here_does (local_place s.local q) s new emitted refl based fit stays turns k)
