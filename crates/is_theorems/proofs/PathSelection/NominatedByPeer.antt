-- If a path was nominated by the peer and answered, the next `handle_timeout` call selects it. The preconditions that
-- mutants/specifications changes are read by tactics.
use Rattle.is_stun.specs.declared.header.Class.TheVariants as class
use Rattle.is_theorems.proofs.Common.{[], ◌++◌, ◌∙◌, ◌∷◌, ◌≡◌, ◌⊎◌, AgentRecord, ap, append_assoc, AskedAreSelected, Bool, Call}
use Rattle.is_theorems.proofs.Common.{CandidateRecord, Entry, GivesBased, HandleTimeout, Has, inl, inr, is_nominated, is_reverse, is_valid}
use Rattle.is_theorems.proofs.Common.{IsAnsweredIn, IsAnsweredOn, IsAskedIn, IsAskedOn, IsFresh, IsNominatedOn, IsOnlyPair, IsServing}
use Rattle.is_theorems.proofs.Common.{IsSound, Issued, issued_as, IsTopPath, keeps_check, length, List, Logged, MayEndIn, nominates, None}
use Rattle.is_theorems.proofs.Common.{PairRecord, Path, path_of, PathEffect, Point, ReceivePacket, refl, request_at, request_in}
use Rattle.is_theorems.proofs.Common.{RequestRecord, Run, RunsOn, Stays, Step, Stream, subst, sym, true, UsesAddressesOf, ℕ}
use Rattle.is_theorems.proofs.BasicLemmas.EqualAddresses.{both, same_address-sound}
use Rattle.is_theorems.proofs.PathSelection.SelectedAfterResponse.{timeouts-select}
use Rattle.is_theorems.proofs.CallEffects.PathAndTradeEffects.{path_theorem}
use Rattle.is_theorems.proofs.ExecutionLogs.LogTheorems.{runs_sound}
use Rattle.is_theorems.proofs.ExecutionLogs.LogSegments.{run-on}
use Rattle.is_theorems.proofs.StoredPairs.PairsThatStay.{pairs-stay}
use Rattle.is_theorems.proofs.RuleEffects.SelectedPaths.{some_is}

-- a packet on the reverse path goes between the addresses of the path
pub back-on : (by a b : Path) → is_reverse by a ≡ true → is_reverse by b ≡ true → (a.source ≡ b.source) × (a.destination ≡ b.destination)
back-on by a b on_a on_b =
    let x = both _ _ on_a in
    let y = both _ _ on_b in
    (sym (same_address-sound _ _ x.1) ∙ same_address-sound _ _ y.1, sym (same_address-sound _ _ x.0) ∙ same_address-sound _ _ y.0)

module _ {H P : Type 0} where
  -- a step serves one request
  pub one-served : (old : AgentRecord H P) (call : Call P) (e : Entry) (q r : RequestRecord) → IsServing old call e q → IsServing old call e r → r ≡ q
  one-served old (HandleTimeout now) e q r (is_q, done_q) (is_r, done_r) = some_is r q (sym is_r ∙ is_q)
  one-served old (ReceivePacket now path bytes) e q r (at, by, m, brings, request, known, is) (at2, by2, n, brings2, request2, known2, is2) =
      is2 ∙ (ap (λ t. request_in t by2 n) (sym brings2.0 ∙ brings.0) ∙ (ap (λ w. request_in at w n) (sym brings2.1 ∙ brings.1)
      ∙ (ap (λ x. request_in at by x) (brings2.2.spelled ∙ sym brings.2.spelled) ∙ sym is)))
  one-served old _ e q r serving_q serving_r = absurd serving_q.3

  pub uses-too : (old : AgentRecord H P) (call : Call P) (e : Entry) (q r : RequestRecord) → IsServing old call e q → IsServing old call e r → nominates old q ≡ true → nominates old r ≡ true
  uses-too old call e q r serving_q serving_r uses = ap (λ x. nominates old x) (one-served old call e q r serving_q serving_r) ∙ uses

  module _ (mac : H → List ℕ → List ℕ → List ℕ) (answers : P → CandidateRecord → ℕ → ℕ → Type 0) where
    pub nominated-on : (old new : AgentRecord H P) (x : Logged P) (path : Path) → PathEffect mac old x.call x.entry new → IsAskedOn old x new path → IsNominatedOn new path
    nominated-on old new x path f (q, id, serving, uses, out, controlled) =
        let k = f.replied (issued_as path class.Success id) out refl in
        let on = k.3 (uses-too old x.call x.entry q k.0 serving k.1 uses) controlled in
        subst (λ (w : Path). IsNominatedOn new w) (sym (ap (λ (i : Issued). i.path) k.2)) on

    -- the pair that takes the response
    abbrev Taken : AgentRecord H P → Path → Type 0
    Taken new path = (p : PairRecord) × Has new.pairs p × (is_valid p ≡ true) × UsesAddressesOf new path p

    valid-on : (old new : AgentRecord H P) (x : Logged P) (path : Path) → PathEffect mac old x.call x.entry new → IsAnsweredOn x path → Taken new path
    valid-on old new x path f (at, by, m, brings, success, back) =
        let k = f.taken at by m brings success in
        let on = both (keeps_check m.id k.0) (is_reverse by (path_of new k.0)) k.2 in
        (k.0, k.1, k.3, back-on by (path_of new k.0) path on.1 back)

    module _ (first : AgentRecord H P) (s : Stream) (log : List (Logged P)) (fresh : IsFresh first) (path : Path) (before : List (Logged P)) (start : AgentRecord H P) (u : Stream)
        (led : Run mac answers first s before start u) (part : List (Logged P)) where
      -- a pair of the path passes
      abbrev pub Marked : (PairRecord → Bool) → AgentRecord H P → Type 0
      Marked test a = (p : PairRecord) × Has a.pairs p × (test p ≡ true) × UsesAddressesOf a path p

      abbrev pub Goes : Type 0
      Goes = MayEndIn mac answers first s log part path

      -- one more entry
      module _ (over xs : List (Logged P)) (mid last : AgentRecord H P) (v t : Stream) (x : Logged P) (split : log ≡ over ++ ((x ∷ xs) ++ before)) (within : Has part x)
          (run : RunsOn mac answers before start u xs mid v) (number : x.number ≡ length (xs ++ before)) (given : GivesBased x.call)
          (step : Step mac answers mid v x.call x.entry last t) where
        here : Run mac answers first s (xs ++ before) mid v
        here = run-on mac answers first start mid s u v before xs led run

        pub sound : IsSound mid
        sound = runs_sound mac answers (path_theorem mac answers) first mid s v (xs ++ before) fresh here

        pub effect : PathEffect mac mid x.call x.entry last
        effect = (path_theorem mac answers mid last v t x.call x.entry sound given step).0

        pub point : Point mac answers first s log (xs ++ before) mid x last
        point = record { rest = over; split = split; at = v; led = here; number = number; given = given; following = t; step = step }

        pub next : (test : PairRecord → Bool) → ((p : PairRecord) (k : Stays mid p last) → test p ≡ true → test k.pair ≡ true) → Marked test mid → Marked test last ⊎ Goes
        next test keeps (p, has, is, joins) = elim (pairs-stay mac answers mid last v t x.call x.entry p sound given step has) [
          | inl k ↦ inl (k.pair, k.there, keeps p k is, (ap (λ (w : Path). w.source) k.path ∙ joins.0, ap (λ (w : Path). w.destination) k.path ∙ joins.1))
          | inr ends ↦ inr (xs ++ before, mid, last, x, p, point, within, has, joins, ends)
        ]

        asked-now : IsAskedOn mid x last path → Marked is_nominated last
        asked-now asks =
            let k = nominated-on mid last x path effect asks in
            (k.0, k.1, k.2, (ap (λ (w : Path). w.source) k.3, ap (λ (w : Path). w.destination) k.3))

        answered-now : IsAnsweredOn x path → Marked is_valid last
        answered-now is = valid-on mid last x path effect is

      asked : (over xs : List (Logged P)) (last : AgentRecord H P) (t : Stream) → log ≡ over ++ (xs ++ before) → ((x : Logged P) → Has xs x → Has part x)
          → (run : RunsOn mac answers before start u xs last t) → IsAskedIn mac answers before start u xs last t run path → Marked is_nominated last ⊎ Goes
      asked over [] last t split within run asks = absurd asks
      asked over (x ∷ xs) last t split within (mid, v, run, number, given, step) (inl asks) =
          inl (asked-now over xs mid last v t x split (within x (inl refl)) run number given step asks)
      asked over (x ∷ xs) last t split within (mid, v, run, number, given, step) (inr asks) =
          elim (asked (over ++ x ∷ []) xs mid v (split ∙ sym (append_assoc over (x ∷ []) (xs ++ before))) (λ y has. within y (inr has)) run asks) [
            | inl marked ↦ next over xs mid last v t x split (within x (inl refl)) run number given step is_nominated (λ p k is. k.nominated is) marked
            | inr goes ↦ inr goes
          ]

      pub answered : (over xs : List (Logged P)) (last : AgentRecord H P) (t : Stream) → log ≡ over ++ (xs ++ before) → ((x : Logged P) → Has xs x → Has part x)
          → (run : RunsOn mac answers before start u xs last t) → (y : Logged P) → Has xs y → IsAnsweredOn y path → Marked is_valid last ⊎ Goes
      answered over [] last t split within run y has is = absurd has
      answered over (x ∷ xs) last t split within (mid, v, run, number, given, step) y (inl same) is =
          inl (answered-now over xs mid last v t x split (within x (inl refl)) run number given step (subst (λ (z : Logged P). IsAnsweredOn z path) (sym same) is))
      answered over (x ∷ xs) last t split within (mid, v, run, number, given, step) y (inr has) is =
          elim (answered (over ++ x ∷ []) xs mid v (split ∙ sym (append_assoc over (x ∷ []) (xs ++ before))) (λ z there. within z (inr there)) run y has is) [
            | inl marked ↦ next over xs mid last v t x split (within x (inl refl)) run number given step is_valid (λ p k valid. k.valid valid) marked
            | inr goes ↦ inr goes
          ]

    pub asked-are-selected_paths : AskedAreSelected {H = H} {P = P} mac answers
    asked-are-selected_paths first s log fresh before part start last timeout now path found comes is_done none asks replied only_pair = by found.run (search none) asks where
      by : (run : RunsOn mac answers before start found.at (timeout ∷ part) last found.following) → request_at now run.0 ≡ None
          → IsAskedIn mac answers before start found.at part run.0 run.1 run.2 path
          → IsTopPath mac answers (timeout ∷ (part ++ before)) last ⊎ MayEndIn mac answers first s log (timeout ∷ part) path
      by (mid, v, run, number, given, step) none asks =
          let heard : IsAnsweredIn part path = search replied in
          let lone : IsOnlyPair last path = search only_pair in
          let line : log ≡ (found.rest ++ timeout ∷ []) ++ (part ++ before) = found.split ∙ sym (append_assoc found.rest (timeout ∷ []) (part ++ before)) in
          elim (asked first s log fresh path before start found.at found.led (timeout ∷ part) (found.rest ++ timeout ∷ []) part mid v line (λ x there. inr there) run asks) [
            | inr goes ↦ inr goes
            | inl nominated ↦ elim (answered first s log fresh path before start found.at found.led (timeout ∷ part) (found.rest ++ timeout ∷ []) part mid v line (λ x there. inr there) run heard.0 heard.1 heard.2) [
              | inr goes ↦ inr goes
              | inl valid ↦ elim (next first s log fresh path before start found.at found.led (timeout ∷ part) found.rest part mid last v found.following timeout found.split (inl refl) run number given step
                  is_nominated (λ p k is. k.nominated is) nominated) [
                    | inr goes ↦ inr goes
                    | inl n ↦ elim (next first s log fresh path before start found.at found.led (timeout ∷ part) found.rest part mid last v found.following timeout found.split (inl refl) run number given step
                        is_valid (λ p k is. k.valid is) valid) [
                          | inr goes ↦ inr goes
                          | inl w ↦
                              (let one : w.0 ≡ n.0 = lone w.0 n.0 w.1 n.1 w.3 n.3 in
                              inl (timeouts-select mac answers first s log fresh (part ++ before) mid last timeout
                              (point first s log fresh path before start found.at found.led (timeout ∷ part) found.rest part mid last v found.following timeout found.split (inl refl) run number given step)
                              now comes is_done none n.0 n.1 (subst (λ (p : PairRecord). is_valid p ≡ true) one w.2) n.2))
                        ]
                  ]
            ]
          ]
