-- A `handle_timeout` call that serves no early request, and a success response: their effects on pairs, and which
-- paths they select.
use Rattle.is_stun.specs.declared.header.Class.TheVariants as class
use Rattle.is_theorems.proofs.Common.{formed_again}
use Rattle.is_theorems.proofs.Common.{[], ◌&&◌, ◌++◌, ◌<◌, ◌||◌, ◌∙◌, ◌∷◌, ◌≡◌, ◌⊎◌, AgentRecord, all_scheduled, ap, scheduled, at_timeout}
use Rattle.is_theorems.proofs.Common.{binding_request, Bool, candidate_at, CandidateRecord, Check, check_priority, ChecksTop, Emitted}
use Rattle.is_theorems.proofs.Common.{false, HandlesSuccess, Has, IceCreds, if◌then◌else◌, inl, inr, is_some, IsNextToCheck, IsPut, Issued}
use Rattle.is_theorems.proofs.Common.{issued_as, keeps_check_on, length, List, MaintainsPairs, MayCheck, Message, nomination_number}
use Rattle.is_theorems.proofs.Common.{nomination_of, None, numbers, Option, Packet, PairRecord, Path, path_left, path_of, Records, refl}
use Rattle.is_theorems.proofs.Common.{selected_in, selected_only, Some, stays_nominated, Stream, subst, sym, true, username_between}
use Rattle.is_theorems.proofs.Common.{with_nomination, written, ℕ}
use Rattle.is_theorems.proofs.RuleEffects.UnchangedSettings.{Frame, frame_of, packet_along, either, nominates_frame, removes_expired}
use Rattle.is_theorems.proofs.CallEffects.UnchangedTimingAndBases.{Rest, nominates_rest, removes_expired_rest}
use Rattle.is_theorems.proofs.RuleEffects.SelectedPaths.{Returns, returns_one, returns_two, returns_after, returns_before}
use Rattle.is_theorems.proofs.RuleEffects.EarlierAndNewPairs.{Parts, Fit, Onward, onward}
use Rattle.is_theorems.proofs.RuleEffects.ChangedPairs.{forms_again, Has-map, parts_of, nominates, removes_expired_moves, names_moves}
use Rattle.is_theorems.proofs.CallEffects.ChecksAndResponses.{records, check_moves}
use Rattle.is_theorems.proofs.BasicLemmas.EqualAddresses.{both}
use Rattle.is_theorems.proofs.BasicLemmas.CandidatesByIndex.{is-listed}
use Rattle.is_theorems.proofs.BasicLemmas.PairsInTurn.{next-has}

pub only_pair : (path : Option Path) → (selected_only path).selected_paths ≡ selected_in path None
only_pair None = refl
only_pair (Some path) = refl

-- ---- the check that is sent

-- what a check is built from
abbrev pub asks_with : {H : Type 0} → Frame H → IceCreds → List ℕ → CandidateRecord → Bool → Option ℕ → Message
asks_with f peer id c uses number =
    with_nomination number (binding_request (username_between peer f.local_creds) id f.controlling f.tie_breaker (check_priority c) uses)

abbrev pub CheckOut : {H : Type 0} → (H → List ℕ → List ℕ → List ℕ) → Frame H → List CandidateRecord → List Packet → Option Issued → List Packet → Type 0
CheckOut mac f local before issued following =
    (issued ≡ None)
    ⊎ ((path : Path) × (id : List ℕ) × (peer : IceCreds) × (c : CandidateRecord) × (uses : Bool) × (number : Option ℕ)
    × (issued ≡ Some (issued_as path class.Request id)) × (f.remote_creds ≡ Some peer) × Has local c × IsPut (written (mac f.provider) (Some peer.pass) (asks_with f peer id c uses number)) (asks_with f peer id c uses number)
    × (following ≡ before ++ packet_along path (written (mac f.provider) (Some peer.pass) (asks_with f peer id c uses number)) ∷ [])
    × (uses ≡ true → f.controlling ≡ true) × (is_some number ≡ true → uses ≡ true))

-- only a check with USE-CANDIDATE has a number
numbered_uses : (c n s : Bool) (k : ℕ) → is_some (if c && n && s then Some k else None) ≡ true → (c && s) ≡ true
numbered_uses true true true k h = refl
numbered_uses true true false k h = h
numbered_uses true false s k h = absurd (let no : false ≡ true = h in cc)
numbered_uses false n s k h = absurd (let no : false ≡ true = h in cc)

module _ (asks : Path → ℕ → Type 0) (met : Path → Type 0) (sent : Path → List ℕ → Bool → Type 0) {H P : Type 0} where
  abbrev Goes : AgentRecord H P → AgentRecord H P → Type 0
  Goes old new = Onward asks met sent (parts_of asks met sent old) (parts_of asks met sent new)

  abbrev Telling : AgentRecord H P → Emitted → AgentRecord H P → Type 0
  Telling old emitted new = Returns asks met sent (parts_of asks met sent old) (parts_of asks met sent new) old.selected_pair new.selected_pair emitted.selected_paths

  check_out : (mac : H → List ℕ → List ℕ → List ℕ) (now : ℕ) (remote : Option IceCreds) (old new : AgentRecord H P) (s t : Stream) (issued : Option Issued)
      → old.remote_creds ≡ remote → Fit (parts_of asks met sent old) → MayCheck mac now remote old s issued new t
      → CheckOut mac (frame_of old) old.local old.packets issued new.packets
  check_out mac now None old new s t issued known fit (is, made, drawn) = inl is
  check_out mac now (Some remote) old new s t issued known fit h = either old.lite h
      (λ _ k. inl k.0)
      (λ _ k. next k.0 k.1 k.2) where
        next : (top : Option PairRecord) → IsNextToCheck now (all_scheduled now old) top → ChecksTop mac now remote top (all_scheduled now old) s issued new t
            → CheckOut mac (frame_of old) old.local old.packets issued new.packets
        next None none (is, made, drawn) = inl is
        next (Some p) chosen (id, drawn, values, is, made) =
            let o = Has-map (scheduled now old.timing) old.pairs p (next-has now (all_scheduled now old) p chosen) in
            let at : p.local < length old.local = subst (λ (q : PairRecord). q.local < length old.local) o.2 (fit.placed o.0 o.1).0 in
            inr (
              path_of old p,
              id,
              remote,
              candidate_at old.local p.local,
              old.controlling && stays_nominated old p,
              nomination_of old p,
              is,
              known,
              is-listed old.local p.local at,
              values,
              ap (λ (a : AgentRecord H P). a.packets) made,
              (λ uses. (both old.controlling (stays_nominated old p) uses).0),
              λ some. numbered_uses old.controlling (numbers old) (stays_nominated old p) (nomination_number old) some,
            )

  check_number : (mac : H → List ℕ → List ℕ → List ℕ) (now : ℕ) (remote : Option IceCreds) (old new : AgentRecord H P) (s t : Stream) (issued : Option Issued)
      → MayCheck mac now remote old s issued new t → new.selected_pair ≡ old.selected_pair
  check_number mac now None old new s t issued (is, made, drawn) = ap (λ (a : AgentRecord H P). a.selected_pair) made
  check_number mac now (Some remote) old new s t issued h = either old.lite h
      (λ _ k. ap (λ (a : AgentRecord H P). a.selected_pair) k.1)
      (λ _ k. next k.0 k.2) where
        next : (top : Option PairRecord) → ChecksTop mac now remote top (all_scheduled now old) s issued new t → new.selected_pair ≡ old.selected_pair
        next None (is, made, drawn) = ap (λ (a : AgentRecord H P). a.selected_pair) made
        next (Some p) (id, drawn, values, is, made) = ap (λ (a : AgentRecord H P). a.selected_pair) made

  -- each selected path was valid before
  pub maintains_pairs : (mac : H → List ℕ → List ℕ → List ℕ) (now : ℕ) (old new : AgentRecord H P) (s t : Stream) (emitted : Emitted)
      → ((old.controlling || old.lite) ≡ true → (p : Path) (m : ℕ) → asks p m)
      → ((path : Path) (id : List ℕ) → emitted.issued ≡ Some (issued_as path class.Request id) → sent path id old.controlling)
      → Fit (parts_of asks met sent old) → MaintainsPairs mac now old s emitted new t
      → Goes old new × Telling old emitted new × CheckOut mac (frame_of old) old.local old.packets emitted.issued new.packets
  maintains_pairs mac now old new s t emitted free sends fit (first, second, issued, named, kept, nominating, giving, checking, is) =
      let a = names_moves asks met sent now (at_timeout now old) named first free fit nominating in
      let f = nominates_frame (path_left now (at_timeout now old)) named first nominating in
      let same_role : named.controlling ≡ old.controlling = ap (λ (x : Frame H). x.controlling) f.0 in
      let same_lite : named.lite ≡ old.lite = ap (λ (x : Frame H). x.lite) f.0 in
      let b = removes_expired_moves asks met sent now named kept second
      (λ allowed. free (subst (λ l. (old.controlling || l) ≡ true) same_lite (subst (λ c. (c || named.lite) ≡ true) same_role allowed))) a.0.fit giving in
      let g = removes_expired now named kept second giving in
      let kept_role : kept.controlling ≡ old.controlling = ap (λ (x : Frame H). x.controlling) g.0 ∙ same_role in
      let free_kept : (kept.controlling || kept.lite) ≡ true → (p : Path) (m : ℕ) → asks p m =
      (λ allowed. free (subst (λ l. (old.controlling || l) ≡ true) (ap (λ (x : Frame H). x.lite) g.0 ∙ same_lite) (subst (λ c. (c || kept.lite) ≡ true) kept_role allowed))) in
      let c = check_moves asks met sent mac now kept.remote_creds kept new s t issued free_kept
      (λ path id out. subst (λ r. sent path id r) (sym kept_role) (sends path id (ap (λ (x : Emitted). x.issued) is ∙ out))) b.0.fit checking in
      let x : Parts = parts_of asks met sent old in
      let y : Parts = parts_of asks met sent named in
      let z : Parts = parts_of asks met sent kept in
      let ab = onward asks met sent x y z a.0 b.0 in
      let emitted_two = returns_two asks met sent x y z old.selected_pair named.selected_pair kept.selected_pair first second a.0 b.0 a.1 b.1 in
      let emitted_all = returns_before asks met sent x z (parts_of asks met sent new) old.selected_pair kept.selected_pair (selected_in first second) emitted_two c in (
        onward asks met sent x z (parts_of asks met sent new) ab c,
        subst (λ (ps : List (Option Path)). Returns asks met sent x (parts_of asks met sent new) old.selected_pair new.selected_pair ps) (sym (ap (λ (x : Emitted). x.selected_paths) is))
            (subst (λ n. Returns asks met sent x (parts_of asks met sent new) old.selected_pair n (selected_in first second))
            (sym (check_number mac now kept.remote_creds kept new s t issued checking)) emitted_all),
        subst (λ i. CheckOut mac (frame_of old) old.local old.packets i new.packets) (sym (ap (λ (x : Emitted). x.issued) is))
            (subst (λ (f : Frame H). CheckOut mac f old.local old.packets issued new.packets) (g.0 ∙ f.0)
            (subst (λ cs. CheckOut mac (frame_of kept) cs old.packets issued new.packets)
            (ap (λ (x : Rest). x.local) (removes_expired_rest now named kept second giving ∙ nominates_rest (path_left now (at_timeout now old)) named first nominating))
            (subst (λ (ps : List Packet). CheckOut mac (frame_of kept) kept.local ps issued new.packets) (g.1 ∙ f.1)
            (check_out mac now kept.remote_creds kept new s t issued refl b.0.fit checking)))),
      )

  record_number : (now : ℕ) (old recorded : AgentRecord H P) (via : Path) (m : Message) → Records now old via m recorded → recorded.selected_pair ≡ old.selected_pair
  record_number now old recorded via m (i, p, after, found, on, takes, made) = ap (λ (a : AgentRecord H P). a.selected_pair) made

  -- a selected path was valid before, or is answered now
  pub succeeds : (now : ℕ) (old new : AgentRecord H P) (via : Path) (m : Message) (emitted : Emitted)
      → ((old.controlling || old.lite) ≡ true → (p : Path) (m : ℕ) → asks p m)
      → ((p : PairRecord) (c : Check) → Has old.pairs p → keeps_check_on old via m.id p ≡ true → Has p.checks c → c.id ≡ m.id → met (path_of old p))
      → Fit (parts_of asks met sent old) → HandlesSuccess now old via m emitted new
      → Goes old new × Telling old emitted new
  succeeds now old new via m emitted free answers fit (recorded, records_it, (path, mid, nominating, is, done)) =
      let again : AgentRecord H P = formed_again recorded in
      let recording = records asks met sent now old recorded via m fit answers records_it in
      let r : Goes old again = onward asks met sent (parts_of asks met sent old) (parts_of asks met sent recorded) (parts_of asks met sent again) recording
      (forms_again asks met sent recorded recording.fit) in
      let made = records_it.6 in
      let same_role : recorded.controlling ≡ old.controlling = ap (λ (a : AgentRecord H P). a.controlling) made in
      let same_lite : recorded.lite ≡ old.lite = ap (λ (a : AgentRecord H P). a.lite) made in
      let n = nominates asks met sent again mid path
      (λ allowed. free (subst (λ l. (old.controlling || l) ≡ true) same_lite (subst (λ c. (c || recorded.lite) ≡ true) same_role allowed))) r.fit nominating in
      let x : Parts = parts_of asks met sent old in
      let y : Parts = parts_of asks met sent again in
      let z : Parts = parts_of asks met sent mid in
      let one : Returns asks met sent y z recorded.selected_pair mid.selected_pair (selected_in path None) =
      returns_one asks met sent y z recorded.selected_pair mid.selected_pair path n.1 in
      let all : Returns asks met sent x z recorded.selected_pair mid.selected_pair (selected_in path None) =
      returns_after asks met sent x y z recorded.selected_pair mid.selected_pair (selected_in path None) r one in (
        subst (λ (a : AgentRecord H P). Goes old a) (sym done) (onward asks met sent x y z r n.0),
        subst (λ (ps : List (Option Path)). Returns asks met sent x (parts_of asks met sent new) old.selected_pair new.selected_pair ps) (sym (ap (λ (x : Emitted). x.selected_paths) is ∙ only_pair path))
            (subst (λ (a : AgentRecord H P). Returns asks met sent x (parts_of asks met sent a) old.selected_pair a.selected_pair (selected_in path None)) (sym done)
            (subst (λ k. Returns asks met sent x z k mid.selected_pair (selected_in path None)) (record_number now old recorded via m records_it) all)),
      )
