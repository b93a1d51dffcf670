-- The theorems about one agent's log, whose random words may come from any streams, from the theorem about paths only. The preconditions that
-- mutants/specifications changes are read by tactics.
use Rattle.is_theorems.proofs.Common.{[], ◌&&◌, ◌∙◌, ◌∷◌, ◌≡◌, ◌⊎◌, AgentRecord, all_settings_of, Answer, Answered, AnswersAt, ap, as_taken}
use Rattle.is_theorems.proofs.Common.{AskedBy, AsksAt, Bool, Call, CandidateRecord, Check, clears_at, false, Has, has_numbers, HasSelected}
use Rattle.is_theorems.proofs.Common.{if◌then◌else◌, inl, inr, is_done, is_eligible, is_modern, is_modern_profile, is_nominated, is_valid}
use Rattle.is_theorems.proofs.Common.{IsAnswered, IsAnsweredBy, IsBrought, IsControlledSince, IsKept, IsNewlyCreated, IsNominatedByPeer}
use Rattle.is_theorems.proofs.Common.{IsNominatedOn, IsNominationPoint, IsSent, IsSignedBy, IsSound, IsValidOn, last_selected, List}
use Rattle.is_theorems.proofs.Common.{lite_set_by, Logged, NeverLite, NominatedByPeer, None, numbering_of, numbering_set_by, numbers}
use Rattle.is_theorems.proofs.Common.{PairRecord, Path, PathEffect, PathTheorem, refl, remote_after, remote_of, request_in, RequestRecord}
use Rattle.is_theorems.proofs.Common.{reversed, SelectionsAreAnswered, SelectionsAreNominatedByPeer, SelectionsAreTop}
use Rattle.is_theorems.proofs.Common.{SetMaxStunRetransmits, SetMtu, settings_after, SettingsRecord, SharedRun, Some, subst, sym, true, ℕ}
use Rattle.is_theorems.proofs.PathSelection.SelectedPairIsNominated.{IsNamed, names-best, names-next}
use Rattle.is_theorems.proofs.CallEffects.FailedCallsAndNewAgents.{fresh_sound}
use Rattle.is_theorems.proofs.CallEffects.KeptSettings.{settings-are-set}

-- a Boolean, with what it implies
emitted_apart : {A : Type 0} (b : Bool) → (b ≡ true → A) → (b ≡ false → A) → A
emitted_apart true f g = f refl
emitted_apart false f g = g refl

pub true_false : {A : Type 0} (b : Bool) → b ≡ true → b ≡ false → A
true_false b h k = let wrong : true ≡ false = sym h ∙ k in absurd (cc)

-- ---- whether nominations have numbers, by the calls

abbrev pub numbering-in : {P : Type 0} → SettingsRecord P → Bool × Bool
numbering-in s = (s.settings.renomination, is_modern_profile s.settings.profile)

pub numbering_set : {P : Type 0} (call : Call P) (answer : Answer) (s : SettingsRecord P)
    → numbering-in (settings_after call answer s) ≡ numbering_set_by call (numbering-in s)
numbering_set (SetMtu mtu warn) answer s = by (is_done answer) where
  by : (b : Bool) → numbering-in (if b then record s { mtu = mtu; mtu_warn = warn } else s) ≡ numbering-in s
  by true = refl
  by false = refl
numbering_set (SetMaxStunRetransmits limit) answer s = by (is_done answer) where
  by : (b : Bool) → numbering-in (if b then record s { settings = record s.settings { max_retransmits = limit } } else s) ≡ numbering-in s
  by true = refl
  by false = refl
numbering_set _ answer s = refl

module _ {H P : Type 0} where
  -- a newly created agent, in either role, satisfies the invariant
  pub new_sound : (a : AgentRecord H P) → IsNewlyCreated a → IsSound a
  new_sound a (creds, tie, role, is) =
      let s = fresh_sound H P a.provider creds tie in
      subst (λ (x : AgentRecord H P). IsSound x) (sym is) (record {
        placed = s.placed;
        rising = s.rising;
        below = s.below;
        selected_paths = s.selected_paths;
        started = s.started;
        consented = s.consented;
        checks = s.checks;
        queued = s.queued;
        based = s.based;
      })

  pub numbering-next : (call : Call P) (answer : Answer) (old new : AgentRecord H P) → all_settings_of new ≡ settings_after call answer (all_settings_of old)
      → (new.renominates, is_modern new.timing) ≡ numbering_set_by call (old.renominates, is_modern old.timing)
  numbering-next call answer old new is = ap (λ (s : SettingsRecord P). numbering-in s) is ∙ numbering_set call answer (all_settings_of old)

module _ {H P : Type 0} (mac : H → List ℕ → List ℕ → List ℕ) (answers : P → CandidateRecord → ℕ → ℕ → Type 0) (law : PathTheorem {H = H} {P = P} mac answers) where
  -- what the abstract state implies about the log
  pub record Holds (provider : H) (log : List (Logged P)) (a : AgentRecord H P) : Type 0 where
    pub sound : IsSound a
    pub provider_is : a.provider ≡ provider
    pub remote_is : a.remote_creds ≡ remote_of log
    pub lite_is : NeverLite log → a.lite ≡ false
    pub sent : (path : Path) (id : List ℕ) (controlling : Bool) → IsKept a path id controlling → IsSent log path id
    pub valid : NeverLite log → (path : Path) → IsValidOn a path → Answered mac provider log path
    pub numbering_is : (a.renominates, is_modern a.timing) ≡ numbering_of log
    pub queued : (numbered : Bool) (q : RequestRecord) → Has a.queue q → (as_taken numbered q).use_candidate ≡ true → AskedBy numbered log (reversed q.path)
    -- `selected_pair` names the pair that was selected last
    pub named : IsNamed (last_selected log) a

  new_holds : (first : AgentRecord H P) → IsNewlyCreated first → Holds first.provider [] first
  new_holds first (creds, tie, role, is) = subst (λ (a : AgentRecord H P). Holds first.provider [] a) (sym is) (record {
    sound = subst (λ (a : AgentRecord H P). IsSound a) is (new_sound first (creds, tie, role, is));
    provider_is = refl;
    remote_is = refl;
    lite_is = λ _. refl;
    sent = λ path id role k. absurd k.2;
    valid = λ _ path k. absurd k.1;
    numbering_is = refl;
    queued = λ numbered q has. absurd has;
    named = λ p has. absurd has;
  })

  -- ---- one more entry

  module _ (provider : H) (x : Logged P) (before : List (Logged P)) (old new : AgentRecord H P) (h : Holds provider before old) (f : PathEffect mac old x.call x.entry new) where
    answers_at : (path : Path) → IsAnswered mac old x.call x.entry path → AnswersAt mac provider x before path
    answers_at path (at, by, m, role, peer, brings, success, kept, known, signed, back) = (
      at,
      by,
      m,
      peer,
      brings,
      (f.accepted at by m brings).0,
      success,
      search (sym h.remote_is ∙ known),
      subst (λ p. IsSignedBy (mac p) m peer.pass) h.provider_is signed,
      h.sent path m.id role kept,
      search back,
    )

    queued_asks : (numbered : Bool) (q : RequestRecord) → Has old.queue q ⊎ IsBrought x.call x.entry q → (as_taken numbered q).use_candidate ≡ true
        → AskedBy numbered (x ∷ before) (reversed q.path)
    queued_asks numbered q (inl was) uses = inr (h.queued numbered q was uses)
    queued_asks numbered q (inr (at, by, m, brings, request, is)) uses =
        let asked : (as_taken numbered (request_in at by m)).use_candidate ≡ true = subst (λ (y : RequestRecord). (as_taken numbered y).use_candidate ≡ true) is uses in
        inl (subst (λ (y : RequestRecord). AsksAt numbered x (reversed y.path)) (sym is) (at, by, m, brings, (f.accepted at by m brings).0, request, asked, search))

    numbers_is : numbers old ≡ has_numbers before
    numbers_is = ap (λ (set : Bool × Bool). set.0 && set.1) h.numbering_is

    asked_now : (path : Path) → IsNominatedByPeer old x.call x.entry path → NominatedByPeer (x ∷ before) path
    asked_now path (q, serving, uses, on) =
        let taken : (as_taken (has_numbers before) q).use_candidate ≡ true = subst (λ b. (as_taken b q).use_candidate ≡ true) numbers_is uses in
        inl (search (subst (λ p. AskedBy (has_numbers before) (x ∷ before) p) on (queued_asks (has_numbers before) q (f.serves q serving) taken)))

    lite_before : NeverLite (x ∷ before) → old.lite ≡ false
    lite_before never_lite = h.lite_is never_lite.1

    no_checks : (cs : List Check) (c : Check) → Has cs c → cs ≡ [] → ⊥
    no_checks cs c has none = subst (λ (ks : List Check). Has ks c) none has

    holds_next : all_settings_of new ≡ settings_after x.call x.entry.answer (all_settings_of old) → IsSound new → Holds provider (x ∷ before) new
    holds_next set sound = record {
      sound = sound;
      provider_is = f.provider ∙ h.provider_is;
      remote_is = f.remote_creds ∙ ap (λ r. remote_after x.call x.entry.answer r) h.remote_is;
      lite_is = λ never_lite. f.lite ∙ ap (λ l. lite_set_by x.call l) (lite_before never_lite) ∙ never_lite.0;
      sent = λ path id role k. emitted_apart (clears_at x)
          (λ clear. absurd (no_checks k.0.checks k.1 k.3 (f.cleared_pairs clear k.0 k.2).3))
          (λ kept. elim (f.checks path id role k) [ inl was ↦ inr (kept, h.sent path id role was) | inr out ↦ inl out.0 ]);
      valid = λ never_lite path k. emitted_apart (clears_at x)
          (λ clear. true_false (is_valid k.0) k.2 (f.cleared_pairs clear k.0 k.1).1)
          (λ kept. elim (f.valid (lite_before never_lite) path k) [ inl was ↦ inr (kept, h.valid never_lite.1 path was) | inr now ↦ inl (answers_at path now) ]);
      numbering_is = numbering-next x.call x.entry.answer old new set ∙ ap (λ (s : Bool × Bool). numbering_set_by x.call s) h.numbering_is;
      queued = λ numbered q has uses. queued_asks numbered q (f.queue q has) uses;
      named = names-next mac old new x.call x.entry (last_selected before) f h.sound h.named;
    }

  -- ---- executions

  pub no_paths : (path : Path) → Has (None ∷ None ∷ []) (Some path) → ⊥
  no_paths path (inl is) = let no : None ≡ Some path = is in cc
  no_paths path (inr (inl is)) = let no : None ≡ Some path = is in cc
  no_paths path (inr (inr h)) = absurd h

  module _ (first : AgentRecord H P) (new : IsNewlyCreated first) where
    pub holds : (log : List (Logged P)) (last : AgentRecord H P) → SharedRun mac answers first log last → Holds first.provider log last
    holds [] last run = subst (λ (a : AgentRecord H P). Holds first.provider [] a) (sym run) (new_holds first new)
    holds (x ∷ before) last (mid, s, t, run, based, step) =
        let h = holds before mid run in
        let k = law mid last s t x.call x.entry h.sound based step in
        holds_next first.provider x before mid last h k.0 (settings-are-set mac answers mid last s t x.call x.entry step) k.1

    pub now_controlled : (log : List (Logged P)) (a : AgentRecord H P) (r : SharedRun mac answers first log a) → IsControlledSince mac answers first log a r → a.controlling ≡ false
    now_controlled [] a r c = c
    now_controlled (y ∷ ys) a r c = c.0

    -- while the agent is controlled since the last clear, a nominated path was nominated by the peer
    nominated_asked : (log : List (Logged P)) (last : AgentRecord H P) → NeverLite log
        → (run : SharedRun mac answers first log last) → IsControlledSince mac answers first log last run
        → (path : Path) → IsNominatedOn last path → NominatedByPeer log path
    nominated_asked [] last never_lite run controlled path k =
        absurd (subst (λ (a : AgentRecord H P). Has a.pairs k.0) (run ∙ new.3) k.1)
    nominated_asked (x ∷ before) last never_lite (mid, s, t, run, based, step) controlled path k =
        let h = holds before mid run in
        let f = (law mid last s t x.call x.entry h.sound based step).0 in
        elim controlled.1 [
          | inl clear ↦ true_false (is_nominated k.0) k.2 (f.cleared_pairs clear k.0 k.1).2
          | inr since ↦ elim (f.nominated (h.lite_is never_lite.1) (now_controlled before mid run since) controlled.0 path k) [
            | inl was ↦ inr (nominated_asked before mid never_lite.1 run since path was)
            | inr now ↦ asked_now first.provider x before mid last h f path now
          ]
        ]

    -- ---- the last call of an execution

    answered : (x : Logged P) (before : List (Logged P)) (last : AgentRecord H P) → SharedRun mac answers first (x ∷ before) last → NeverLite (x ∷ before)
        → (path : Path) → Has x.entry.emitted.selected_paths (Some path) → IsAnsweredBy mac first.provider x before path
    answered x before last (mid, s, t, run, based, step) never_lite path has =
        let h = holds before mid run in
        let f = (law mid last s t x.call x.entry h.sound based step).0 in
        elim (f.selected_paths (h.lite_is never_lite.1) path has) [
          | inl was ↦ inr (h.valid never_lite.1 path was)
          | inr now ↦ inl (answers_at first.provider x before mid last h f path now)
        ]

    peer_nominated : (x : Logged P) (before : List (Logged P)) (last : AgentRecord H P) (run : SharedRun mac answers first (x ∷ before) last) → NeverLite (x ∷ before)
        → IsControlledSince mac answers first (x ∷ before) last run
        → (path : Path) → Has x.entry.emitted.selected_paths (Some path) → NominatedByPeer (x ∷ before) path
    peer_nominated x before last (mid, s, t, run, based, step) never_lite controlled path has =
        let h = holds before mid run in
        let f = (law mid last s t x.call x.entry h.sound based step).0 in
        elim controlled.1 [
          | inl clear ↦ absurd (no_paths path (subst (λ emitted. Has emitted.selected_paths (Some path)) (f.cleared clear) has))
          | inr since ↦ elim (f.selected_asked (h.lite_is never_lite.1) (now_controlled before mid run since) controlled.0 path has) [
            | inl was ↦ inr (nominated_asked before mid never_lite.1 run since path was)
            | inr now ↦ asked_now first.provider x before mid last h f path now
          ]
        ]

    top : (x : Logged P) (before : List (Logged P)) (last : AgentRecord H P) (run : SharedRun mac answers first (x ∷ before) last)
        → IsNominationPoint run.0 x.call x.entry → (p : PairRecord) → Has last.pairs p → is_eligible last.controlling p ≡ true
        → HasSelected (last_selected (x ∷ before)) last
    top x before last (mid, s, t, run, based, step) nominates p has is =
        let h = holds before mid run in
        let f = (law mid last s t x.call x.entry h.sound based step).0 in
        names-best last (last_selected (x ∷ before)) p has is
        (holds (x ∷ before) last (mid, s, t, run, based, step)).named (f.points nominates)

  -- ---- the theorems

  pub selections_are_answered : SelectionsAreAnswered {H = H} mac answers
  selections_are_answered first last x before new never_lite run path has =
      let created : IsNewlyCreated first = search new in
      let never : NeverLite (x ∷ before) = search never_lite in
      search (answered first created x before last run never path has)

  pub selections_are_nominated_by_peer : SelectionsAreNominatedByPeer {H = H} mac answers
  selections_are_nominated_by_peer first last x before new never_lite run controlled path has =
      let created : IsNewlyCreated first = search new in
      let never : NeverLite (x ∷ before) = search never_lite in
      let since : IsControlledSince mac answers first (x ∷ before) last run = search controlled in
      search (peer_nominated first created x before last run never since path has)

  pub selections_are_top : SelectionsAreTop {H = H} mac answers
  selections_are_top first last x before new run nominates p has is =
      let created : IsNewlyCreated first = search new in
      let at_point : IsNominationPoint run.0 x.call x.entry = search nominates in
      let among : Has last.pairs p = search has in
      let able : is_eligible last.controlling p ≡ true = search is in
      search (top first created x before last run at_point p among able)
