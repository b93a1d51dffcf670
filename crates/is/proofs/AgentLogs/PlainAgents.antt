-- The headline of a plain agent, from the theorems about any agent. What mutants/specifications changes is read by tactics.
use Rattle.is_stun.specs.declared.timing.Profile.{Profile}
use Rattle.is_theorems.proofs.ExecutionLogs.SharedLogTheorems.{numbering-in, numbering_set}
use Rattle.is.specs.Headline.{LeavesPlain, StaysPlain, IsAsked, IsGreatestSelected, Headline}
use Rattle.is.proofs.Common.{[], ◌&&◌, ◌++◌, ◌∙◌, ◌∷◌, ◌≡◌, AgentRecord, all_settings_of, ap, AskedBy, Bool, Call, CandidateRecord, false}
use Rattle.is.proofs.Common.{followed, followed_by_number, has_numbers, HasSelected, if◌then◌else◌, inl, inr, is_modern, is_modern_profile}
use Rattle.is.proofs.Common.{IsChosen, IsFresh, last_selected, LastPathsAreTop, List, lite_set_by, Logged, NeverLite, NominatedByPeer, None}
use Rattle.is.proofs.Common.{not, numbering_of, numbering_set_by, numbers, Original, PacketsAreHandled, Path, PathsAreAnswered}
use Rattle.is.proofs.Common.{PathsAreNominatedByPeer, Point, refl, Run, run_to, selection_of, SetIceLite, SetProfile, SetRenomination}
use Rattle.is.proofs.Common.{SettingsAreSet, SettingsRecord, Some, Stream, subst, ℕ}

module _ {P : Type 0} where
  -- ---- the log of a plain agent

  plain_call : (call : Call P) → LeavesPlain call → (lite_set_by call false ≡ false) × (numbering_set_by call (false, false) ≡ (false, false))
  plain_call (SetProfile profile) plain =
      let is : profile ≡ Original = search plain in
      (refl, ap (λ (p : Profile). (false, is_modern_profile p)) is)
  plain_call (SetRenomination renominates) plain =
      let is : renominates ≡ false = search plain in
      (refl, ap (λ (b : Bool). (b, false)) is)
  plain_call (SetIceLite lite) plain = (search plain, refl)
  plain_call _ plain = (refl, refl)

  pub plain_never_lite : (log : List (Logged P)) → StaysPlain log → NeverLite log
  plain_never_lite [] plain = tt
  plain_never_lite (x ∷ before) (now, was) = ((plain_call x.call now).0, plain_never_lite before was)

  plain_numbering : (log : List (Logged P)) → StaysPlain log → numbering_of log ≡ (false, false)
  plain_numbering [] plain = refl
  plain_numbering (x ∷ before) (now, was) = ap (λ (set : Bool × Bool). numbering_set_by x.call set) (plain_numbering before was) ∙ (plain_call x.call now).1

  plain_before : (rest before : List (Logged P)) → StaysPlain (rest ++ before) → StaysPlain before
  plain_before [] before plain = plain
  plain_before (x ∷ rest) before plain = plain_before rest before plain.1

  -- ---- what the peer nominated

  asked_later : (x : Logged P) (before : List (Logged P)) (path : Path) → IsAsked before path → IsAsked (x ∷ before) path
  asked_later x before path (y, has, at, by, m, brings, binding, request, uses, back) = (y, inr has, at, by, m, brings, binding, request, uses, back)

  asked_by : (log : List (Logged P)) (path : Path) → AskedBy false log path → IsAsked log path
  asked_by [] path none = absurd none
  asked_by (x ∷ before) path (inl (at, by, m, brings, binding, request, uses, back)) = (x, inl refl, at, by, m, brings, binding, request, search uses, search back)
  asked_by (x ∷ before) path (inr was) = asked_later x before path (asked_by before path was)

  asked_plainly : (log : List (Logged P)) (path : Path) → StaysPlain log → NominatedByPeer log path → IsAsked log path
  asked_plainly [] path plain none = absurd none
  asked_plainly (x ∷ before) path plain (inl now) =
      let none : has_numbers before ≡ false = ap (λ (set : Bool × Bool). set.0 && set.1) (plain_numbering before plain.1) in
      asked_by (x ∷ before) path (subst (λ (b : Bool). AskedBy b (x ∷ before) path) none now)
  asked_plainly (x ∷ before) path plain (inr was) = asked_later x before path (asked_plainly before path plain.1 was)

module _ {H P : Type 0} where
  -- an agent without renomination does not follow its peer
  follows_none : (a : AgentRecord H P) → a.renominates ≡ false → followed a ≡ None
  follows_none a none = ap (λ (b : Bool). if b && not a.controlling then (if numbers a && a.numbers_seen then followed_by_number a else a.last_nominated) else None) none

  greatest_so : (log : List (Logged P)) (a : AgentRecord H P) → a.renominates ≡ false → HasSelected (last_selected log) a → IsGreatestSelected log a
  greatest_so log a none (top, has, eligible, path, chosen) =
      let greatest : IsChosen a.controlling None (selection_of a) (Some top) = subst (λ n. IsChosen a.controlling n (selection_of a) (Some top)) (follows_none a none) chosen in
      (top, has, eligible, path, λ p among can. search (greatest.2 p among can))

  module _ (mac : H → List ℕ → List ℕ → List ℕ) (answers : P → CandidateRecord → ℕ → ℕ → Type 0) (law : SettingsAreSet {H = H} {P = P} mac answers) where
    numbering_is : (first last : AgentRecord H P) (s t : Stream) (log : List (Logged P)) → IsFresh first → Run mac answers first s log last t
        → (last.renominates, is_modern last.timing) ≡ numbering_of log
    numbering_is first last s t [] (creds, tie, fresh) run = ap (λ (a : AgentRecord H P). (a.renominates, is_modern a.timing)) (run.0 ∙ fresh)
    numbering_is first last s t (x ∷ before) fresh (mid, u, led, number, given, step) =
        ap (λ (set : SettingsRecord P). numbering-in set) (law mid last u t x.call x.entry step) ∙ numbering_set x.call x.entry.answer (all_settings_of mid)
        ∙ ap (λ (set : Bool × Bool). numbering_set_by x.call set) (numbering_is first mid s u before fresh led)

    pub headline : (first : AgentRecord H P) (s : Stream) (log : List (Logged P)) → IsFresh first → StaysPlain log
        → PacketsAreHandled mac answers first s log
        → PathsAreAnswered mac answers first s log
        → LastPathsAreTop mac answers first s log
        → PathsAreNominatedByPeer mac answers first s log
        → Headline mac answers first s log
    headline first s log fresh plain settled answered tops asked = record {
      unaccepted = λ before mid after x point now path bytes receives no. (settled before mid after x point now path bytes receives).unaccepted (search no);
      answered = answered;
      greatest = λ before mid after x point here p has eligible. (
          let so_far = plain_to before mid after x point in
          let none = ap (λ (set : Bool × Bool). set.0)
          (numbering_is first after s point.following (x ∷ before) fresh (run_to mac answers first s log before mid x after point) ∙ plain_numbering (x ∷ before) so_far) in
          greatest_so (x ∷ before) after none (tops before mid after x point (search here) p has eligible));
      asked = λ before mid after x point controlled path has.
          asked_plainly (x ∷ before) path (plain_to before mid after x point) (asked before mid after x point (search controlled) path has);
    }
      where
        plain_to : (before : List (Logged P)) (mid after : AgentRecord H P) (x : Logged P) → Point mac answers first s log before mid x after → StaysPlain (x ∷ before)
        plain_to before mid after x point = plain_before point.rest (x ∷ before) (subst (λ (l : List (Logged P)). StaysPlain l) point.split plain)
