-- Renomination in executions of one agent that may share its random source. The preconditions that mutants/specifications changes are read by
-- tactics where they are used: if one of them is weaker, that goal stays unproved.
use Rattle.is_theorems.proofs.Common.{[], ◌++◌, ◌||◌, ◌∙◌, ◌∷◌, ◌≡◌, ◌⊎◌, AcceptsNomination, AcceptsSuccessOn, AgentRecord, ap}
use Rattle.is_theorems.proofs.Common.{AreNominatedOn, Bool, Call, CandidateRecord, change_at, change_pair, eligible_numbered, Ends}
use Rattle.is_theorems.proofs.Common.{EndsAlong, Entry, Execution, false, followed, GivesBased, HandleTimeout, Has, if_eligible}
use Rattle.is_theorems.proofs.Common.{if◌then◌else◌, inl, inr, is_named_by, is_nominated, is_reverse, is_valid, IsAnsweredAlong}
use Rattle.is_theorems.proofs.Common.{IsNewlyCreated, IsOnlyPair, IsSound, IsTopSelected, keeps_check, List, Logged, named-by, no-some}
use Rattle.is_theorems.proofs.Common.{nominates_at_once, None, not, numbered-found, numbers, Option, option_and_then, PairRecord, Path}
use Rattle.is_theorems.proofs.Common.{path_of, PathEffect, refl, request_at, selected_along, Some, stays_nominated, Step, Stream, subst}
use Rattle.is_theorems.proofs.Common.{sym, true, UsesAddressesOf, via_out, ℕ}
use Rattle.is_theorems.proofs.BasicLemmas.EqualAddresses.{both}
use Rattle.is_theorems.proofs.PathSelection.SelectedAfterResponse.{nominated-eligible}
use Rattle.is_theorems.proofs.PathSelection.NominatedByPeerPerAgent.{execution_on, names-from}
use Rattle.is_theorems.proofs.PathSelection.NominatedByPeer.{back-on}
use Rattle.is_theorems.proofs.CallEffects.PathAndTradeEffects.{path_theorem, trade_theorem}
use Rattle.is_theorems.proofs.StoredPairs.StoredChecks.{Checks, checks-as, number_same}
use Rattle.is_theorems.proofs.PathSelection.SelectedPairIsNominated.{IsNamed}
use Rattle.is_theorems.proofs.CallEffects.ServedRequests.{Has-mapped}
use Rattle.is_theorems.proofs.StoredPairs.PairsThatStay.{pairs-stay}
use Rattle.is_theorems.proofs.StoredPairs.TransactionsOverPackets.{sound-execution}
use Rattle.is_theorems.specs.RenominatingExecutions.{AcceptsNominationLastAlong, AcceptsNominationOnlyAlong, LastAcceptedNominationsAreLast}
use Rattle.is_theorems.specs.RenominatingExecutions.{NominatedAreLast}
use Rattle.is_theorems.proofs.RenominatedPaths.LastNominatedPair.{IsRecordedOn, Records, records-by}
use Rattle.is_theorems.proofs.RenominatedPaths.OnePathAtBothAgents.{follows-last, path-sent, selects-followed}
use Rattle.is_theorems.proofs.ExecutionLogs.SharedRandomSource.{sound_run}
use Rattle.is_theorems.proofs.BasicLemmas.PairsInTurn.{sent_at, pairs-sent}

abbrev logged_once : {P : Type 0} → Call P → Entry → Logged P
logged_once call e = record { number = 0; call = call; entry = e }

module _ {H P : Type 0} where
  -- a pair of the path's addresses is valid
  abbrev IsValidAt : Path → AgentRecord H P → Type 0
  IsValidAt path a = (p : PairRecord) × Has a.pairs p × (is_valid p ≡ true) × UsesAddressesOf a path p

  module _ (mac : H → List ℕ → List ℕ → List ℕ) (answers : P → CandidateRecord → ℕ → ℕ → Type 0) where
    pub new-sound : (a : AgentRecord H P) → IsNewlyCreated a → IsSound a
    new-sound a new = sound_run mac answers a a [] new refl

    -- ---- the path that was selected last

    pub names : (xs : List (Call P × Entry)) (first last : AgentRecord H P) → IsNewlyCreated first → Execution mac answers xs first last → IsNamed (selected_along None xs) last
    names xs first last new execution = names-from mac answers xs first last (new-sound first new) (ap (λ (a : AgentRecord H P). a.pairs) new.3) execution

    -- ---- the controlling agent

    pub nominated-last : NominatedAreLast mac answers
    nominated-last first old sent before s t now timeout check id new led step sends set nominated =
        by (checks-as mac answers old sent s t now (via_out check) id timeout sends.emitted step) where
          whole : Execution mac answers (before ++ (HandleTimeout now, timeout) ∷ []) first sent
          whole = execution_on mac answers before ((HandleTimeout now, timeout) ∷ []) first old sent led (sent, s, t, tt, step, refl)

          by : Checks mac answers now (via_out check) id sent → selected_along None (before ++ (HandleTimeout now, timeout) ∷ []) ≡ Some (via_out check)
          by c =
              let begins : Bool = nominates_at_once c.old in
              let change : PairRecord → PairRecord = sent_at begins now c.old.timing c.old.controlling id in
              let after : PairRecord = change c.pair in
              let own : change_at c.pair.number change c.pair ≡ after = ap (λ b. if b then after else c.pair) (number_same c.pair.number) in
              let there : Has sent.pairs after =
              subst (λ ps. Has ps after) (sym (pairs-sent mac now c.remote c.pair id c.old sent c.made))
              (subst (λ (z : PairRecord). Has (change_pair c.pair.number change c.old.pairs) z) own (Has-mapped (change_at c.pair.number change) c.old.pairs c.pair c.has)) in
              let on : path_of sent after ≡ via_out check = ap (λ (a : AgentRecord H P). path_of a after) c.made ∙ (path-sent mac answers begins now c.old id c.pair ∙ c.path) in
              let renominates : sent.renominates ≡ true = search set in
              let each : AreNominatedOn sent (via_out check) = search nominated in
              let stays : stays_nominated sent after ≡ true = each after there on in
              let named : is_named_by sent.selected_pair after ≡ true =
              subst (λ r. (not r || is_named_by sent.selected_pair after) ≡ true) renominates
              (both (is_nominated after) (not sent.renominates || is_named_by sent.selected_pair after) stays).1 in
              (names (before ++ (HandleTimeout now, timeout) ∷ []) first sent new whole after there (named-by sent.selected_pair after named)).2 ∙ ap Some on

    -- ---- the controlled agent

    module _ (path : Path) where
      -- a valid pair stays, or may end
      valid-next : (old new : AgentRecord H P) (s t : Stream) (call : Call P) (e : Entry) → IsSound old → GivesBased call → Step mac answers old s call e new t
          → IsValidAt path old → IsValidAt path new ⊎ Ends answers old call e path
      valid-next old new s t call e sound based step (p, has, valid, joins) = elim (pairs-stay mac answers old new s t call e p sound based step has) [
        | inl k ↦ inl (k.pair, k.there, k.valid valid, (ap (λ (w : Path). w.source) k.path ∙ joins.0, ap (λ (w : Path). w.destination) k.path ∙ joins.1))
        | inr ends ↦ inr (p, has, joins, ends)
      ]

      valid-along : (xs : List (Call P × Entry)) (old new : AgentRecord H P) → IsSound old → (execution : Execution mac answers xs old new) → IsValidAt path old
          → IsValidAt path new ⊎ EndsAlong mac answers xs old new execution path
      valid-along [] old new sound is valid = inl (subst (λ (a : AgentRecord H P). IsValidAt path a) (sym is) valid)
      valid-along (x ∷ rest) old new sound (mid, s, t, based, step, more) valid =
          elim (valid-next old mid s t x.0 x.1 sound based step valid) [
            | inl k ↦ elim (valid-along rest mid new (path_theorem mac answers old mid s t x.0 x.1 sound based step).1 more k) [ inl m ↦ inl m | inr ends ↦ inr (inr ends) ]
            | inr ends ↦ inr (inl ends)
          ]

      valid-now : (old new : AgentRecord H P) (call : Call P) (e : Entry) → PathEffect mac old call e new → AcceptsSuccessOn call e path → IsValidAt path new
      valid-now old new call e f (at, by, m, brings, success, back) =
          let k = f.taken at by m brings success in
          let on = both (keeps_check m.id k.0) (is_reverse by (path_of new k.0)) k.2 in
          (k.0, k.1, k.3, back-on by (path_of new k.0) path on.1 back)

      answered-valid : (xs : List (Call P × Entry)) (old new : AgentRecord H P) → IsSound old → (execution : Execution mac answers xs old new)
          → (y : Call P × Entry) → Has xs y → AcceptsSuccessOn y.0 y.1 path → IsValidAt path new ⊎ EndsAlong mac answers xs old new execution path
      answered-valid [] old new sound execution y has is = absurd has
      answered-valid (x ∷ rest) old new sound (mid, s, t, based, step, more) y (inl same) is =
          let law = path_theorem mac answers old mid s t x.0 x.1 sound based step in
          let now : AcceptsSuccessOn x.0 x.1 path = subst (λ (z : Call P × Entry). AcceptsSuccessOn z.0 z.1 path) (sym same) is in
          elim (valid-along rest mid new law.1 more (valid-now old mid x.0 x.1 law.0 now)) [ inl m ↦ inl m | inr ends ↦ inr (inr ends) ]
      answered-valid (x ∷ rest) old new sound (mid, s, t, based, step, more) y (inr has) is =
          elim (answered-valid rest mid new (path_theorem mac answers old mid s t x.0 x.1 sound based step).1 more y has is) [ inl m ↦ inl m | inr ends ↦ inr (inr ends) ]

      -- ---- the pair that the peer nominated last

      module _ (old new : AgentRecord H P) (s t : Stream) (call : Call P) (e : Entry) (sound : IsSound old) (based : GivesBased call) (step : Step mac answers old s call e new t) where
        records : Records old (logged_once call e) new
        records = records-by mac answers old new s t (logged_once call e) sound call refl step

        recorded-on : new.last_nominated ≡ old.last_nominated → IsRecordedOn old path → IsRecordedOn new path ⊎ Ends answers old call e path
        recorded-on kept (p, has, last_is, on, nominated) = elim (pairs-stay mac answers old new s t call e p sound based step has) [
          | inl k ↦ inl (k.pair, k.there, kept ∙ last_is ∙ ap Some (sym k.number), k.path ∙ on, k.nominated nominated)
          | inr ends ↦ inr (p, has, (ap (λ (w : Path). w.source) on, ap (λ (w : Path). w.destination) on), ends)
        ]

        -- a nomination that is accepted here is of the path
        recorded-next : ((one : Path) → AcceptsNomination old call e one → one ≡ path) → IsRecordedOn old path → IsRecordedOn new path ⊎ Ends answers old call e path
        recorded-next only was = by records where
          by : Records old (logged_once call e) new → IsRecordedOn new path ⊎ Ends answers old call e path
          by (inl (kept, none)) = recorded-on kept was
          by (inr (one, recorded, rest, (q, id, serving, uses, out, controlled))) =
              inl (subst (λ w. IsRecordedOn new w) (only one (q, id, serving, uses, out)) recorded)

        recorded-now : AcceptsNomination old call e path → new.controlling ≡ false → IsRecordedOn new path
        recorded-now (q, id, serving, uses, out) controlled = by records where
          by : Records old (logged_once call e) new → IsRecordedOn new path
          by (inl (kept, none)) = absurd (none path (q, id, serving, uses, out, controlled))
          by (inr (one, recorded, only, asked)) = subst (λ w. IsRecordedOn new w) (sym (only path (q, id, serving, uses, out, controlled))) recorded

      recorded-along : (xs : List (Call P × Entry)) (old new : AgentRecord H P) → IsSound old → (execution : Execution mac answers xs old new) → AcceptsNominationOnlyAlong mac answers xs old new execution path
          → IsRecordedOn old path → IsRecordedOn new path ⊎ EndsAlong mac answers xs old new execution path
      recorded-along [] old new sound is only was = inl (subst (λ (a : AgentRecord H P). IsRecordedOn a path) (sym is) was)
      recorded-along (x ∷ rest) old new sound (mid, s, t, based, step, more) (only, later) was =
          let here : (one : Path) → AcceptsNomination old x.0 x.1 one → one ≡ path = λ one accepts_nomination. search (only one accepts_nomination) in
          elim (recorded-next old mid s t x.0 x.1 sound based step here was) [
            | inl k ↦ elim (recorded-along rest mid new (path_theorem mac answers old mid s t x.0 x.1 sound based step).1 more later k) [ inl m ↦ inl m | inr ends ↦ inr (inr ends) ]
            | inr ends ↦ inr (inl ends)
          ]

      recorded-last : (xs : List (Call P × Entry)) (old new : AgentRecord H P) → IsSound old → (execution : Execution mac answers xs old new) → AcceptsNominationLastAlong mac answers xs old new execution path
          → IsRecordedOn new path ⊎ EndsAlong mac answers xs old new execution path
      recorded-last [] old new sound execution asks = absurd asks
      recorded-last (x ∷ rest) old new sound (mid, s, t, based, step, more) (inl (accepts_nomination, controlled, later)) =
          let role : mid.controlling ≡ false = search controlled in
          elim (recorded-along rest mid new (path_theorem mac answers old mid s t x.0 x.1 sound based step).1 more later (recorded-now old mid s t x.0 x.1 sound based step accepts_nomination role)) [
            | inl m ↦ inl m
            | inr ends ↦ inr (inr ends)
          ]
      recorded-last (x ∷ rest) old new sound (mid, s, t, based, step, more) (inr asks) =
          elim (recorded-last rest mid new (path_theorem mac answers old mid s t x.0 x.1 sound based step).1 more asks) [ inl m ↦ inl m | inr ends ↦ inr (inr ends) ]

      -- ---- it is selected

      -- the recorded pair is followed, and eligible
      selected-is : (a : AgentRecord H P) (p : PairRecord) → IsSound a → a.renominates ≡ true → numbers a ≡ false → a.controlling ≡ false → Has a.pairs p → a.last_nominated ≡ Some p.number → is_valid p ≡ true → is_nominated p ≡ true
          → IsTopSelected a → a.selected_pair ≡ Some p.number
      selected-is a p sound set plain role has last_is valid nominated top =
          let follows : followed a ≡ Some p.number = follows-last mac answers a p.number set plain role last_is in
          let able : eligible_numbered a.controlling a.pairs p.number ≡ Some p =
          ap (λ (o : Option PairRecord). option_and_then (if_eligible a.controlling) o) (numbered-found a.pairs p sound.rising has)
          ∙ ap (λ b. if b then Some p else None) (nominated-eligible a.controlling p valid nominated) in
          selects-followed mac answers a p.number p follows able top

    -- without an early request a `handle_timeout` call accepts no nomination
    none-nomination_accepted : (a : AgentRecord H P) (now : ℕ) (e : Entry) (path one : Path) → request_at now a ≡ None → AcceptsNomination a (HandleTimeout now) e one → one ≡ path
    none-nomination_accepted a now e path one none (q, id, serving, uses, out) = absurd (no-some q (sym none ∙ serving.0))

    -- nor does it change the role
    role-stays : (a b : AgentRecord H P) (s t : Stream) (now : ℕ) (e : Entry) → IsSound a → Step mac answers a s (HandleTimeout now) e b t → request_at now a ≡ None
        → b.controlling ≡ a.controlling
    role-stays a b s t now e sound step none = elim (trade_theorem mac answers a b s t (HandleTimeout now) e sound tt step).role [
      | inl same ↦ same
      | inr (inl (q, serving, switches_role, is)) ↦ absurd (no-some q (sym none ∙ serving.0))
      | inr (inr (inl rejected)) ↦ absurd rejected.5
      | inr (inr (inr set)) ↦ absurd set
    ]

    pub last-nomination_accepted : LastAcceptedNominationsAreLast mac answers
    last-nomination_accepted first start near last before xs s t now timeout path new led execution step done none set plain controlled asks replied only_pair =
        by (sound-execution mac answers before first start (new-sound first new) led) where
          Said : Type 0
          Said = (selected_along None (before ++ (xs ++ (HandleTimeout now, timeout) ∷ [])) ≡ Some path)
              ⊎ (EndsAlong mac answers xs start near execution path ⊎ Ends answers near (HandleTimeout now) timeout path)

          whole : Execution mac answers (before ++ (xs ++ (HandleTimeout now, timeout) ∷ [])) first last
          whole = execution_on mac answers before (xs ++ (HandleTimeout now, timeout) ∷ []) first start last led
              (execution_on mac answers xs ((HandleTimeout now, timeout) ∷ []) start near last execution (last, s, t, tt, step, refl))

          at_last : IsSound near → IsRecordedOn last path → IsValidAt path last → Said
          at_last sound r w =
              let law = path_theorem mac answers near last s t (HandleTimeout now) timeout sound tt step in
              let one_pair : IsOnlyPair last path = search only_pair in
              let idle : request_at now near ≡ None = search none in
              let renominates : last.renominates ≡ true = search set in
              let unnumbered : numbers last ≡ false = search plain in
              let role : last.controlling ≡ false = role-stays near last s t now timeout sound step idle ∙ search controlled in
              let one : w.0 ≡ r.0 = one_pair w.0 r.0 w.1 r.1 w.3 (ap (λ (z : Path). z.source) r.3, ap (λ (z : Path). z.destination) r.3) in
              let valid : is_valid r.0 ≡ true = subst (λ (p : PairRecord). is_valid p ≡ true) one w.2 in
              let selected = selected-is path last r.0 law.1 renominates unnumbered role r.1 r.2 valid r.4 (law.0.points (done, idle)) in
              inl ((names (before ++ (xs ++ (HandleTimeout now, timeout) ∷ [])) first last new whole r.0 r.1 selected).2 ∙ ap Some r.3)

          at_timeout : IsSound near → IsRecordedOn near path → IsValidAt path near → Said
          at_timeout sound r w =
              let idle : request_at now near ≡ None = search none in
              elim (recorded-next path near last s t (HandleTimeout now) timeout sound tt step (λ one. none-nomination_accepted near now timeout path one idle) r) [
                | inr ends ↦ inr (inr ends)
                | inl m ↦ elim (valid-next path near last s t (HandleTimeout now) timeout sound tt step w) [
                  | inr ends ↦ inr (inr ends)
                  | inl u ↦ at_last sound m u
                ]
              ]

          by : IsSound start → Said
          by sound =
              let sound_near = sound-execution mac answers xs start near sound execution in
              let heard : IsAnsweredAlong xs path = search replied in
              elim (recorded-last path xs start near sound execution asks) [
                | inr ends ↦ inr (inl ends)
                | inl r ↦ elim (answered-valid path xs start near sound execution heard.0 heard.1 heard.2) [
                  | inr ends ↦ inr (inl ends)
                  | inl w ↦ at_timeout sound_near r w
                ]
              ]
