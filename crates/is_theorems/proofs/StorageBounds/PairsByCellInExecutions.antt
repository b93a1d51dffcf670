-- How calls and executions change the number of pairs that requests do not bring, and so how many pairs there are.
use Rattle.is_theorems.proofs.Common.{[], ◌&&◌, ◌*◌, ◌+◌, ◌==◌, ◌∙◌, ◌∷◌, ◌≡◌, ◌≤◌, ◌⊎◌, AddLocalCandidate, AddRemoteCandidate, AddsLocal}
use Rattle.is_theorems.proofs.Common.{AddsRemote, AgentRecord, ap, arith, scheduled, Bool, Call, candidate_at, CandidateKind, CandidateRecord}
use Rattle.is_theorems.proofs.Common.{Combination, cond, count_by, discarded, emptied, Entry, Err, false, FormsFew, HandleTimeout, IceCreds}
use Rattle.is_theorems.proofs.Common.{IceError, if◌then◌else◌, inl, inr, InvalidateCandidate, InvalidatesAt, is_local_at, is_remote_at}
use Rattle.is_theorems.proofs.Common.{IsFresh, IsSound, length, length-map, LimitsPairs, List, local_discarded, local_to_discard, Logged}
use Rattle.is_theorems.proofs.Common.{loses_selected, map, may_form, MayDo, mul-le-mul_right, None, not, Ok, Option, PairRecord, Path}
use Rattle.is_theorems.proofs.Common.{PeerReflexive, PollEvent, PollTimeout, PollTransmit, ReceivePacket, RecreateCandidatePairs, Recreates}
use Rattle.is_theorems.proofs.Common.{refl, remote_discarded, remote_to_discard, Reselects, RestartIce, Restarts, Result, Run, run_to}
use Rattle.is_theorems.proofs.Common.{same_kind, SetConsent, SetControlling, SetControlTieBreaker, SetIceLite, SetInitialStunRto}
use Rattle.is_theorems.proofs.Common.{SetLiteTimeout, SetLocalCredentials, SetLocalPreference, SetMaxCandidatePairs, SetMaxCandidates, SetMaxDiscovered}
use Rattle.is_theorems.proofs.Common.{SetMaxStunRetransmits, SetMaxStunRto, SetMtu, SetProfile, SetRemoteCredentials, SetRenomination}
use Rattle.is_theorems.proofs.Common.{SetsLocal, SetsMtu, SetsRemote, SetTimingAdvance, SkipPairIds, slice_set, Some, Step, Stream, subst}
use Rattle.is_theorems.proofs.Common.{suc, sum_by-cons, sym, true, undue, zero, ℕ}
use Rattle.is_theorems.proofs.StorageBounds.BoundedLists.{is_own}
use Rattle.is_theorems.proofs.StorageBounds.PairsByCell.{cell_of, cells, cells-map, extras, extras-agree, extras-filter, extras-length}
use Rattle.is_theorems.proofs.StorageBounds.PairsByCell.{owned, pairs-in-grid, total-first}
use Rattle.is_theorems.proofs.StorageBounds.PairsByCellAfterRules.{Fewer, alike, forms_few, grid_of, made-as, on, own_at, recast, received}
use Rattle.is_theorems.proofs.StorageBounds.PairsByCellAfterRules.{reselects_alike, surplus, timed, unchanged}
use Rattle.is_theorems.proofs.CallEffects.PathAndTradeEffects.{path_theorem}
use Rattle.is_theorems.proofs.CallEffects.AddedCandidates.{by_adding_local, by_adding_remote, by_waking}
use Rattle.is_theorems.proofs.RuleEffects.UnchangedSettings.{either}
use Rattle.is_theorems.proofs.ExecutionLogs.LogTheorems.{runs_sound}
use Rattle.is_theorems.proofs.ExecutionLogs.PointsOfSegments.{deeper, later_point}
use Rattle.is_theorems.proofs.CallEffects.FailedCallsAndNewAgents.{mtu_kept, local_kept, remote_kept, restart_kept, recreation_kept}
use Rattle.is_theorems.proofs.CallEffects.FailedCallsAndNewAgents.{enrolment_kept, storing_kept}

-- a changed candidate of the same kind leaves all kinds
kinds-put : (cs : List CandidateRecord) (r k : ℕ) (c : CandidateRecord) → c.kind ≡ (candidate_at cs r).kind → (candidate_at (slice_set cs r c) k).kind ≡ (candidate_at cs k).kind
kinds-put [] r k c same = refl
kinds-put (x ∷ xs) zero zero c same = same
kinds-put (x ∷ xs) zero (suc k) c same = refl
kinds-put (x ∷ xs) (suc r) zero c same = refl
kinds-put (x ∷ xs) (suc r) (suc k) c same = kinds-put xs r k c same

count-most : (test : CandidateRecord → Bool) (cs : List CandidateRecord) → count_by test cs ≤ length cs
count-most test [] = omega arith
count-most test (c ∷ cs) = by (test c) (sum_by-cons (λ y. cond (test y) 1 0) c cs) (count-most test cs) where
  by : (b : Bool) → count_by test (c ∷ cs) ≡ cond b 1 0 + count_by test cs → count_by test cs ≤ length cs → count_by test (c ∷ cs) ≤ length (c ∷ cs)
  by true e le = omega (arith, e, le)
  by false e le = omega (arith, e, le)

-- counted by their indices
owned-count : (cs : List CandidateRecord) → owned (own_at cs) (length cs) ≡ count_by is_own cs
owned-count [] = refl
owned-count (c ∷ cs) =
    let first : owned (own_at (c ∷ cs)) (length (c ∷ cs)) ≡ cond (is_own c) 1 0 + owned (own_at cs) (length cs) =
    total-first (λ l. cond (own_at (c ∷ cs) l) 1 0) (length cs) in
    let all : count_by is_own (c ∷ cs) ≡ cond (is_own c) 1 0 + count_by is_own cs = sum_by-cons (λ y. cond (is_own y) 1 0) c cs in
    let rest = owned-count cs in
    omega (arith, first, all, rest)

unless_undue : (b : Bool) (ps : List PairRecord) → cells (if b then ps else map undue ps) ≡ cells ps
unless_undue true ps = refl
unless_undue false ps = cells-map undue (λ p. refl) ps

module _ {H P : Type 0} where
  -- no more of them, or the call forms pairs and the limit holds
  abbrev pub Stays : Call P → AgentRecord H P → AgentRecord H P → Type 0
  Stays call old new = Fewer old new ⊎ ((may_form call ≡ true) × (length new.pairs ≤ old.max_pairs))

  -- ---- candidates

  module _ (old new : AgentRecord H P) where
    discards : (l r : Option ℕ) (found : Bool) → InvalidatesAt l r old found new → Fewer old new
    discards (Some place) r found (is, made) =
        made-as old (local_discarded place old) new made (
        let gone = extras-filter (own_at (local_discarded place old).local) (λ p. not (is_local_at place p)) old.pairs in
        let same = extras-agree (own_at (local_discarded place old).local) (own_at old.local) (cells old.pairs)
        (λ c has. ap (λ (kind : CandidateKind). not (same_kind kind PeerReflexive)) (kinds-put old.local place c.0 (discarded (candidate_at old.local place)) refl)) in
        omega (arith, gone, same))
    discards None (Some place) found (is, made) =
        made-as old (remote_discarded place old) new made (extras-filter (own_at old.local) (λ p. not (is_remote_at place p)) old.pairs)
    discards None None found (is, made) = unchanged old new made

    signals : (c : CandidateRecord) (r : Result (Unit {0}) IceError) → AddsRemote old c r new → Stays (AddRemoteCandidate c) old new
    signals c (Ok _) h = by_adding_remote old new c h
        (λ made. inl (unchanged old new made))
        (λ f. inr (refl, forms_few _ new _ f))
        (λ k lt addr f. inr (refl, forms_few _ new _ f))
    signals c (Err error) h = inl (unchanged old new (storing_kept old new c error h))

    adds_local : (answers : P → CandidateRecord → ℕ → ℕ → Type 0) (c : CandidateRecord) (r : Result (Option ℕ) IceError) → AddsLocal answers old c r new
        → Stays (AddLocalCandidate c) old new
    adds_local answers c (Ok place) h = by_adding_local old new answers c place h
        (λ made. inl (unchanged old new made))
        (λ x based f. inr (refl, forms_few _ new _ f))
        (λ k lt f. inr (refl, forms_few _ new _ f))
        (λ x based k f. inr (refl, forms_few _ new _ f))
    adds_local answers c (Err error) h = inl (unchanged old new (enrolment_kept answers old new c error h))

  -- ---- calls

  module _ (mac : H → List ℕ → List ℕ → List ℕ) (answers : P → CandidateRecord → ℕ → ℕ → Type 0) (old new : AgentRecord H P) (s t : Stream) (e : Entry) where
    kept : new ≡ old → Fewer old new
    kept made = unchanged old new made

    placed : grid_of new ≡ grid_of old → Fewer old new
    placed is = alike old new is

    cells_in : (needed : AgentRecord H P) → new ≡ needed → grid_of new ≡ grid_of needed
    cells_in needed made = ap (λ (a : AgentRecord H P). grid_of a) made

    may : (Does : Result (Unit {0}) IceError → AgentRecord H P → Type 0) → (Does (Ok _) new → Fewer old new) → ((error : IceError) → Does (Err error) new → new ≡ old) → MayDo Does s e new t → Fewer old new
    may Does done failed (Ok _, is, h, drawn) = done h
    may Does done failed (Err error, is, h, drawn) = kept (failed error h)

    restarts : (creds : IceCreds) (keep : Bool) → MayDo (Restarts old creds keep) s e new t → Fewer old new
    restarts creds keep (Ok _, is, (fits, made), drawn) =
        let none : cells new.pairs ≡ [] = ap (λ (a : AgentRecord H P). cells a.pairs) made in
        subst (λ (cs : List Combination). extras (own_at new.local) cs ≤ surplus old) (sym none) (omega arith)
    restarts creds keep (Err error, is, h, drawn) = kept (restart_kept old new creds keep error h)

    recreates : MayDo (Recreates old) s e new t → Stays RecreateCandidatePairs old new
    recreates (Ok _, is, (enough, f), drawn) = let forms : may_form {P = P} RecreateCandidatePairs ≡ true = cc in inr (forms, forms_few (emptied old) new _ f)
    recreates (Err error, is, h, drawn) = inl (kept (recreation_kept old new error h))

    -- a path may be selected after it
    selects : (call : Call P) (mid : AgentRecord H P) (path : Option Path) → Reselects (loses_selected old mid) mid path new → Stays call old mid
        → Stays call old new
    selects call mid path h = by (reselects_alike (loses_selected old mid) mid new path h) where
      by : grid_of new ≡ grid_of mid → Stays call old mid → Stays call old new
      by is (inl fewer) = inl (on old mid new fewer (alike mid new is))
      by is (inr (forms, few)) =
          let same : length mid.pairs ≡ length new.pairs = sym (length-map mid.pairs cell_of)
          ∙ (ap (λ (x : List CandidateRecord × List Combination). length x.1) (sym is) ∙ length-map new.pairs cell_of) in
          inr (forms, subst (λ (n : ℕ). n ≤ old.max_pairs) same few)

    pub steps : IsSound old → (call : Call P) → Step mac answers old s call e new t → Stays call old new
    steps sound (SetMtu target warn) h = inl (may (SetsMtu old target warn) (λ k. placed (cells_in _ k.1)) (mtu_kept old new target warn) h)
    steps sound (SetControlTieBreaker tie) (is, made, drawn) = inl (placed (cells_in _ made))
    steps sound (SetMaxCandidatePairs k) (is, made, drawn) = inl (placed (cells_in _ made))
    steps sound (SetMaxDiscovered limit) (is, made, drawn) = inl (placed (cells_in _ made))
    steps sound (SetMaxCandidates limit) (is, made, drawn) = inl (placed (cells_in _ made))
    steps sound (SetIceLite lite) (is, made, drawn) = inl (placed (cells_in _ made))
    steps sound (SetRenomination on) (is, made, drawn) = inl (placed (cells_in _ made))
    steps sound (SetProfile profile) (is, made, drawn) = inl (placed (cells_in _ made))
    steps sound (SetConsent consent) (is, made, drawn) = inl (placed (cells_in _ made))
    steps sound (SetTimingAdvance by) (is, made, drawn) = inl (placed (cells_in _ made))
    steps sound (SetInitialStunRto rto) (is, made, drawn) = inl (placed (cells_in _ made ∙ recast old _ (unless_undue (old.timing.initial_rto.0 == rto && old.timing.max_rto.0 == old.timing.max_rto.0) old.pairs)))
    steps sound (SetMaxStunRto rto) (is, made, drawn) = inl (placed (cells_in _ made ∙ recast old _ (unless_undue (old.timing.initial_rto.0 == old.timing.initial_rto.0 && old.timing.max_rto.0 == rto) old.pairs)))
    steps sound (SetMaxStunRetransmits k) h = inl (either (k == 0) h (λ _ x. kept x.1) (λ _ x. placed (cells_in _ x.1)))
    steps sound (SetLiteTimeout timeout) (is, made, drawn) = inl (placed (cells_in _ made))
    steps sound (SetLocalPreference object) (is, made, drawn) = inl (placed (cells_in _ made))
    steps sound (SetControlling controlling) (is, made, drawn) = inl (placed (cells_in _ made))
    steps sound (SetLocalCredentials creds) h = inl (may (SetsLocal old creds) (λ k. placed (cells_in _ k.1)) (local_kept old new creds) h)
    steps sound (SetRemoteCredentials creds) h = inl (may (SetsRemote old creds) (λ k. placed (cells_in _ k.1)) (remote_kept old new creds) h)
    steps sound (SkipPairIds k) (is, made, drawn) = inl (placed (cells_in _ made))
    steps sound (AddLocalCandidate c) (r, emitted, is, (path, mid, h, again, emits), drawn) =
        selects (AddLocalCandidate c) mid path again (adds_local old mid answers c r h)
    steps sound (AddRemoteCandidate c) (r, emitted, is, (path, mid, h, again, emits), drawn) =
        selects (AddRemoteCandidate c) mid path again (signals old mid c r h)
    steps sound (InvalidateCandidate c) (found, emitted, is, (path, mid, h, again, emits), drawn) =
        selects (InvalidateCandidate c) mid path again (inl (discards old mid (local_to_discard c old) (remote_to_discard c old) found h))
    steps sound (RestartIce creds keep) h = inl (restarts creds keep h)
    steps sound RecreateCandidatePairs h = recreates h
    steps sound (ReceivePacket now via bytes) (h, drawn) = inl (received mac answers now old new via bytes e (λ p has. (sound.placed p has).0) h)
    steps sound (HandleTimeout now) (r, emitted, is, h) = inl (timed mac now old new s t r emitted h)
    steps sound PollTransmit (given, is, (polled, made), drawn) = inl (placed (cells_in _ made))
    steps sound PollTimeout (deadline, is, h, drawn) = inl (by_waking old new deadline h
        (λ made. kept made)
        (λ at made. made-as old (record old { pairs = map (scheduled at old.timing) old.pairs }) new made
        (alike old (record old { pairs = map (scheduled at old.timing) old.pairs }) (recast old (map (scheduled at old.timing) old.pairs) (cells-map (scheduled at old.timing) (λ p. refl) old.pairs)))))
    steps sound PollEvent (given, is, (polled, made), drawn) = inl (placed (cells_in _ made))

  -- ---- executions

  module _ (mac : H → List ℕ → List ℕ → List ℕ) (answers : P → CandidateRecord → ℕ → ℕ → Type 0) where
    few_extras : (limit : ℕ) (first : AgentRecord H P) (s : Stream) (log : List (Logged P)) (last : AgentRecord H P) (t : Stream) → IsFresh first → FormsFew mac answers limit first s log
        → Run mac answers first s log last t → surplus last ≤ limit
    few_extras limit first s [] last t (creds, tie, is) few (same, drawn) =
        subst (λ (a : AgentRecord H P). surplus a ≤ limit) (sym same) (subst (λ (a : AgentRecord H P). surplus a ≤ limit) (sym is) (omega arith))
    few_extras limit first s (x ∷ before) last t is_fresh few (mid, u, led, number, given, step) =
        by (steps mac answers mid last u t x.entry (runs_sound mac answers (path_theorem mac answers) first mid s u before is_fresh led) x.call step)
        (few_extras limit first s before mid u is_fresh (λ b m a y p. few b m a y (later_point mac answers first s x before b m y a p)) led)
        (few before mid last x (record { rest = []; split = refl; at = u; led = led; number = number; given = given; following = t; step = step })) where
          by : Stays x.call mid last → surplus mid ≤ limit → (may_form x.call ≡ true → mid.max_pairs ≤ limit) → surplus last ≤ limit
          by (inl fewer) was few_at = omega (arith, fewer, was)
          by (inr (forms, formed)) was few_at =
              let most = few_at forms in
              let all : length (cells last.pairs) ≡ length last.pairs = length-map last.pairs cell_of in
              let some = extras-length (own_at last.local) (cells last.pairs) in
              omega (arith, formed, most, all, some)

    -- packets add pairs only at local candidates that no response brought
    pub few_pairs : (limit : ℕ) (first : AgentRecord H P) (s : Stream) (log : List (Logged P)) (last : AgentRecord H P) (t : Stream) → IsFresh first → FormsFew mac answers limit first s log
        → Run mac answers first s log last t → length last.pairs ≤ limit + count_by is_own last.local * length last.remote
    few_pairs limit first s log last t is_fresh few run =
        let le = few_extras limit first s log last t is_fresh few run in
        let sound : IsSound last = runs_sound mac answers (path_theorem mac answers) first last s t log is_fresh run in
        let k = pairs-in-grid (own_at last.local) last.pairs (length last.local) (length last.remote) sound.placed in
        let grid : owned (own_at last.local) (length last.local) * length last.remote ≡ count_by is_own last.local * length last.remote =
        ap (λ (m : ℕ). m * length last.remote) (owned-count last.local) in
        along (length last.pairs) (surplus last) (owned (own_at last.local) (length last.local) * length last.remote) (count_by is_own last.local * length last.remote) limit k le grid where
          along : (a r g h k : ℕ) → a ≤ r + g → r ≤ k → g ≡ h → a ≤ k + h
          along a r g h k p q e = omega (arith, p, q, e)

    pub limits_pairs : LimitsPairs {H = H} mac answers
    limits_pairs first s log is_fresh limit few before mid after x point =
        let few_own : count_by is_own after.local * length after.remote ≤ length after.local * length after.remote = mul-le-mul_right (length after.remote) (count-most is_own after.local) in
        let most : length after.pairs ≤ limit + count_by is_own after.local * length after.remote =
        few_pairs limit first s (x ∷ before) after point.following is_fresh
        (λ b m a y p. few b m a y (deeper mac answers first s log (x ∷ before) point.rest b m y a point.split p))
        (run_to mac answers first s log before mid x after point) in
        omega (arith, most, few_own)
