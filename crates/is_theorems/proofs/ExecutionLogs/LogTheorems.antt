-- The theorems about one agent's log whose random words come from one stream, from those of `SharedLogTheorems` and the theorem about paths only.
use Rattle.is_stun.specs.declared.header.Class.TheVariants as class
use Rattle.is_theorems.proofs.Common.{[], ◌++◌, ◌+◌, ◌∙◌, ◌∷◌, ◌≡◌, ◌≤◌, AgentRecord, ap, append_assoc, arith, AskedAreNominated, Bool}
use Rattle.is_theorems.proofs.Common.{Brings, Call, CandidateRecord, count, EntriesArePoints, Entry, false, is_eligible, IsFresh}
use Rattle.is_theorems.proofs.Common.{IsNewlyCreated, IsNominatedOn, IsNominationPoint, IsServing, Issued, List, Logged, Message, NeverLite}
use Rattle.is_theorems.proofs.Common.{nominates, owed, Path, PathEffect, PathTheorem, Point, PointsAreTop, ReceivePacket, refl, replies}
use Rattle.is_theorems.proofs.Common.{RepliesAreAmong, reply_of, request_in, request_of, RequestRecord, requests, Run, run_to, RunsAreSound}
use Rattle.is_theorems.proofs.Common.{SelectedAreAnswered, SelectedAreNominatedByPeer, shared_run, Some, Stream, subst, sym, TakersAreValid}
use Rattle.is_theorems.proofs.Common.{Transaction, true, ℕ}
use Rattle.is_theorems.proofs.ExecutionLogs.SharedLogTheorems as any
use Rattle.is_theorems.proofs.ExecutionLogs.SharedLogTheorems.{Holds}
use Rattle.is_theorems.proofs.BasicLemmas.MultisetInclusion.{among_by_counts}

count-append : (test : Transaction → Bool) (xs ys : List Transaction) → count test (xs ++ ys) ≡ count test xs + count test ys
count-append test [] ys = omega arith
count-append test (x ∷ xs) ys = let k : count test (xs ++ ys) ≡ count test xs + count test ys = count-append test xs ys in omega (arith, k)

module _ {H P : Type 0} (mac : H → List ℕ → List ℕ → List ℕ) (answers : P → CandidateRecord → ℕ → ℕ → Type 0) (law : PathTheorem {H = H} {P = P} mac answers) where
  newly : (a : AgentRecord H P) → IsFresh a → IsNewlyCreated a
  newly a (creds, tie, is) = (creds, tie, false, is)

  never_lite_to : (rest before : List (Logged P)) (x : Logged P) → NeverLite (rest ++ x ∷ before) → NeverLite (x ∷ before)
  never_lite_to [] before x h = h
  never_lite_to (y ∷ rest) before x h = never_lite_to rest before x h.1

  -- the request that is served is the one that was received
  asking : (mid : AgentRecord H P) (call : Call P) (entry : Entry) (at : ℕ) (by : Path) (m : Message) → Brings call entry at by m → nominates mid (request_in at by m) ≡ true
      → (q : RequestRecord) → IsServing mid call entry q → nominates mid q ≡ true
  asking mid (ReceivePacket now path bytes) entry at by m brings asks q (at2, by2, m2, brings2, request, known, is) =
      let time : at2 ≡ at = sym brings2.0 ∙ brings.0 in
      let way : by2 ≡ by = sym brings2.1 ∙ brings.1 in
      let same : m2 ≡ m = brings2.2.spelled ∙ sym brings.2.spelled in
      let equal : q ≡ request_in at by m =
      is ∙ (ap (λ (t : ℕ). request_in t by2 m2) time ∙ (ap (λ (v : Path). request_in at v m2) way ∙ ap (λ (n : Message). request_in at by n) same)) in
      subst (λ (y : RequestRecord). nominates mid y ≡ true) (sym equal) asks
  asking mid _ entry at by m brings asks q serving = absurd brings

  module _ (first : AgentRecord H P) (s : Stream) (is_fresh : IsFresh first) where
    pub holds : (log : List (Logged P)) (last : AgentRecord H P) (t : Stream) → Run mac answers first s log last t → Holds mac answers law first.provider log last
    holds log last t run = any.holds mac answers law first (newly first is_fresh) log last (shared_run mac answers first s log last t run)

    -- responses and early requests are owed
    pub replies_owed : (log : List (Logged P)) (last : AgentRecord H P) (t : Stream) → Run mac answers first s log last t
        → (test : Transaction → Bool) → count test (replies log) + owed test last.queue ≤ count test (requests log)
    replies_owed [] last t run test =
        let none : owed test last.queue ≡ 0 = ap (λ (a : AgentRecord H P). owed test a.queue) (run.0 ∙ is_fresh.2) in omega (arith, none)
    replies_owed (x ∷ before) last t (mid, u, run, number, based, step) test =
        let h = holds before mid u run in
        let f = (law mid last u t x.call x.entry h.sound based step).0 in
        let past : count test (replies before) + owed test mid.queue ≤ count test (requests before) = replies_owed before mid u run test in
        let now : count test (reply_of x.entry.emitted.issued) + owed test last.queue ≤ owed test mid.queue + count test (request_of x.call x.entry.answer) = f.owed test in
        let a : count test (reply_of x.entry.emitted.issued ++ replies before) ≡ count test (reply_of x.entry.emitted.issued) + count test (replies before) = count-append test _ (replies before) in
        let b : count test (request_of x.call x.entry.answer ++ requests before) ≡ count test (request_of x.call x.entry.answer) + count test (requests before) = count-append test _ (requests before) in
        omega (arith, past, now, a, b)

    -- ---- at each entry

    module _ (log before : List (Logged P)) (mid after : AgentRecord H P) (x : Logged P) (point : Point mac answers first s log before mid x after) where
      effect : PathEffect mac mid x.call x.entry after
      effect = (law mid after point.at point.following x.call x.entry (holds before mid point.at point.led).sound point.given point.step).0

      never_lite_before : NeverLite log → NeverLite (x ∷ before)
      never_lite_before never_lite = never_lite_to point.rest before x (subst (λ (l : List (Logged P)). NeverLite l) point.split never_lite)

      nominated : (at : ℕ) (by : Path) (m : Message) (issued : Issued) → Brings x.call x.entry at by m → nominates mid (request_in at by m) ≡ true
          → x.entry.emitted.issued ≡ Some issued → issued.class ≡ class.Success → after.controlling ≡ false → IsNominatedOn after issued.path
      nominated at by m issued brings asks is success controlled =
          let k = effect.replied issued is success in
          subst (λ (i : Issued). IsNominatedOn after i.path) (sym k.2) (k.3 (asking mid x.call x.entry at by m brings asks k.0 k.1) controlled)

  -- ---- the theorems

  pub runs_sound : RunsAreSound {H = H} mac answers
  runs_sound first last s t log is_fresh run = (holds first s is_fresh log last t run).sound

  pub all_answered : SelectedAreAnswered {H = H} mac answers
  all_answered first s log is_fresh never_lite before mid after x point path has =
      any.selections_are_answered mac answers law first after x before (newly first is_fresh) (never_lite_before first s is_fresh log before mid after x point never_lite)
      (shared_run mac answers first s (x ∷ before) after point.following (run_to mac answers first s log before mid x after point)) path has

  pub all_scheduled : SelectedAreNominatedByPeer {H = H} mac answers
  all_scheduled first s log is_fresh never_lite before mid after x point controlled path has =
      any.selections_are_nominated_by_peer mac answers law first after x before (newly first is_fresh) (never_lite_before first s is_fresh log before mid after x point never_lite)
      (shared_run mac answers first s (x ∷ before) after point.following (run_to mac answers first s log before mid x after point)) controlled path has

  pub points_are_top : PointsAreTop {H = H} mac answers
  points_are_top first s log is_fresh before mid after x point nominates p has is =
      let at_point : IsNominationPoint mid x.call x.entry = search nominates in
      let able : is_eligible after.controlling p ≡ true = search is in
      search (any.selections_are_top mac answers law first after x before (newly first is_fresh)
      (shared_run mac answers first s (x ∷ before) after point.following (run_to mac answers first s log before mid x after point)) at_point p has able)

  pub takers_are_valid : TakersAreValid {H = H} mac answers
  takers_are_valid first s log is_fresh before mid after x point at by m brings success =
      (effect first s is_fresh log before mid after x point).taken at by m brings success

  pub asked_are_nominated : AskedAreNominated {H = H} mac answers
  asked_are_nominated first s log is_fresh before mid after x point at by m issued brings asks is success controlled =
      nominated first s is_fresh log before mid after x point at by m issued brings asks is success controlled

  pub replies_among : RepliesAreAmong {H = H} mac answers
  replies_among first last s t log is_fresh run =
      among_by_counts (replies log) (requests log)
      (λ test. (let k : count test (replies log) + owed test last.queue ≤ count test (requests log) = replies_owed first s is_fresh log last t run test in omega (arith, k)))

-- an execution up to an entry is an execution
module _ {H P : Type 0} (mac : H → List ℕ → List ℕ → List ℕ) (answers : P → CandidateRecord → ℕ → ℕ → Type 0) where
  points : (first last : AgentRecord H P) (s t : Stream) (all done rest before : List (Logged P)) (x : Logged P) → all ≡ done ++ (rest ++ x ∷ before)
      → Run mac answers first s (rest ++ x ∷ before) last t → (mid after : AgentRecord H P) × Point mac answers first s all before mid x after
  points first last s t all done [] before x is (mid, u, run, number, based, step) =
      (mid, last, record { rest = done; split = is; at = u; led = run; number = number; given = based; following = t; step = step })
  points first last s t all done (y ∷ rest) before x is (mid, u, run, number, based, step) =
      points first mid s u all (done ++ y ∷ []) rest before x (is ∙ sym (append_assoc done (y ∷ []) (rest ++ x ∷ before))) run

  pub entries_are_points : EntriesArePoints {H = H} mac answers
  entries_are_points first last s t rest before x run = points first last s t (rest ++ x ∷ before) [] rest before x refl run
