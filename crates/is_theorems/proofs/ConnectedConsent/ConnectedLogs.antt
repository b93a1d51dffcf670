-- An entry of a log ends an execution, oldest call first: so what holds of a connected agent after an execution holds at each entry.
use Rattle.is_theorems.specs.ConsentLogs.{IsConnectedAt, SelectedAreAlive, SelectedHaveConsent}
use Rattle.is_theorems.proofs.Common.{[], ◌++◌, ◌∙◌, ◌∷◌, ◌≡◌, AgentRecord, ap, AreNeverLite, Call, CandidateRecord, ConnectedAreAnswered}
use Rattle.is_theorems.proofs.Common.{ConnectedHaveConsent, consent_of, Done, Entry, false, HandleTimeout, Has, HasConsentOn, inl, inr}
use Rattle.is_theorems.proofs.Common.{is_connected, IsConnectedAfter, IsFresh, last_selected, List, lite_set_by, Logged, NeverLite, None}
use Rattle.is_theorems.proofs.Common.{Option, Path, Point, refl, request_at, selected_along, Some, Step, Stream, subst, sym, true, ℕ}
use Rattle.is_theorems.proofs.ExecutionLogs.SegmentsAsExecutions.{calls_onto, execution_to, onto_is}

module _ {P : Type 0} where
  -- the call of an entry, after those of the log before it
  onto_after : (xs : List (Logged P)) (more ys : List (Call P × Entry)) → calls_onto xs more ++ ys ≡ calls_onto xs (more ++ ys)
  onto_after [] more ys = refl
  onto_after (x ∷ older) more ys = onto_after older ((x.call, x.entry) ∷ more) ys

  onto_selected : (xs : List (Logged P)) (more : List (Call P × Entry)) → selected_along None (calls_onto xs more) ≡ selected_along (last_selected xs) more
  onto_selected [] more = refl
  onto_selected (x ∷ older) more = onto_selected older ((x.call, x.entry) ∷ more)

  -- the path that was selected last
  same-path : (before : List (Logged P)) (x : Logged P) (now : ℕ) → x.call ≡ HandleTimeout now
      → selected_along None (calls_onto before [] ++ (HandleTimeout now, x.entry) ∷ []) ≡ last_selected (x ∷ before)
  same-path before x now is =
      subst (λ (c : Call P). selected_along None (calls_onto before [] ++ (c, x.entry) ∷ []) ≡ last_selected (x ∷ before)) is
      (ap (λ (ys : List (Call P × Entry)). selected_along None ys) (onto_after before [] ((x.call, x.entry) ∷ []))
      ∙ onto_selected before ((x.call, x.entry) ∷ []))

  never_has : (xs : List (Logged P)) (x : Logged P) → NeverLite xs → Has xs x → lite_set_by x.call false ≡ false
  never_has [] x never none = absurd none
  never_has (y ∷ older) x never (inl is) = subst (λ (z : Logged P). lite_set_by z.call false ≡ false) is never.0
  never_has (y ∷ older) x never (inr has) = never_has older x never.1 has

  onto_never : (xs : List (Logged P)) → NeverLite xs → AreNeverLite (calls_onto xs [])
  onto_never xs never y has = elim (onto_is xs [] y has) [
    | inl (x, there, is) ↦ subst (λ (z : Call P × Entry). lite_set_by z.0 false ≡ false) is (never_has xs x never there)
    | inr none ↦ absurd none
  ]

module _ {H P : Type 0} (mac : H → List ℕ → List ℕ → List ℕ) (answers : P → CandidateRecord → ℕ → ℕ → Type 0) where
  -- the execution up to an entry
  ended : (first : AgentRecord H P) (s : Stream) (log before : List (Logged P)) (mid after : AgentRecord H P) (x : Logged P) (now : ℕ) → IsFresh first
      → Point mac answers first s log before mid x after → IsConnectedAt now mid x after → IsConnectedAfter mac answers (calls_onto before []) now x.entry after
  ended first s log before mid after x now fresh point k =
      let done : x.entry.answer ≡ Done = search k.done in
      let unqueued : request_at now mid ≡ None = search k.unqueued in
      let full : mid.lite ≡ false = search k.full in
      let connected : is_connected after.state ≡ true = search k.connected in
      record {
        first = first;
        near = mid;
        fresh = fresh;
        execution = execution_to mac answers before first mid mid [] s point.at point.led refl;
        drawn = point.at;
        left = point.following;
        step = subst (λ (c : Call P). Step mac answers mid point.at c x.entry after point.following) k.call point.step;
        done = done;
        unqueued = unqueued;
        full = full;
        connected = connected;
      }

  pub selected-have-consent : ConnectedHaveConsent mac answers → SelectedHaveConsent mac answers
  selected-have-consent consents first s log fresh before mid after x point now k =
      subst (λ (o : Option Path). HasConsentOn now o after) (same-path before x now k.call)
      (consents (calls_onto before []) now x.entry after (ended first s log before mid after x now fresh point k))

  pub selected-are-alive : ConnectedAreAnswered mac answers → SelectedAreAlive mac answers
  selected-are-alive are first s log fresh before mid after x point now c k full rule =
      let never : NeverLite before = search full in
      let ruled : consent_of after.timing ≡ Some c = search rule in
      let p = are (calls_onto before []) now x.entry after c (ended first s log before mid after x now fresh point k) (onto_never before never) ruled in
      (p.0, p.1, p.2, sym (same-path before x now k.call) ∙ p.3)
