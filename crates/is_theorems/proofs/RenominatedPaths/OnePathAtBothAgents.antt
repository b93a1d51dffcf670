-- With renomination at both agents, both select one path.
use Rattle.is_theorems.proofs.Common.{[], ◌&&◌, ◌++◌, ◌||◌, ◌∙◌, ◌∷◌, ◌≡◌, ◌⊎◌, AgentRecord, ap, append_assoc, AttributesRecord, Bool, Call}
use Rattle.is_theorems.proofs.Common.{CandidateRecord, change_at, change_pair, check_message, eligible_numbered, eqb-true, false, favored}
use Rattle.is_theorems.proofs.Common.{followed, followed_by_number, found-in, GivesBased, HandleTimeout, Has, if_eligible, if◌then◌else◌}
use Rattle.is_theorems.proofs.Common.{inl, inr, is_eligible, is_named_by, is_nominated, is_numbered, is_valid, IsAnsweredIn, IsAskedOn}
use Rattle.is_theorems.proofs.Common.{IsChosen, IsFresh, IsGreatest, IsNominationPoint, IsOnlyPair, IsServing, IsSound, IsTopSelected}
use Rattle.is_theorems.proofs.Common.{last_selected, length, List, Logged, MatchOption, MayEndIn, Message, named-by, no-some}
use Rattle.is_theorems.proofs.Common.{nominates_at_once, None, not, numbered-found, numbers, Option, option_and_then, option_or, Packet}
use Rattle.is_theorems.proofs.Common.{pair_numbered, PairRecord, Path, path_of, Point, Reads, refl, remains, request_at, Run, run_to}
use Rattle.is_theorems.proofs.Common.{RunsOn, same-some, selection_of, Some, stays_nominated, Step, Stream, subst, sym, true, via_out}
use Rattle.is_theorems.proofs.Common.{written, ℕ}
use Rattle.is_theorems.proofs.BasicLemmas.EqualAddresses.{both}
use Rattle.is_theorems.proofs.PathSelection.SelectedAfterResponse.{nominated-eligible}
use Rattle.is_theorems.proofs.PathSelection.NominatedByPeer.{answered, next, point, sound}
use Rattle.is_theorems.proofs.CheckExchanges.UseCandidateChecks.{last_alike}
use Rattle.is_theorems.proofs.CallEffects.PathAndTradeEffects.{path_theorem}
use Rattle.is_theorems.proofs.StoredPairs.StoredChecks.{Checks, checks-as, number_same}
use Rattle.is_theorems.proofs.ExecutionLogs.LogTheorems.{holds, runs_sound}
use Rattle.is_theorems.proofs.CallEffects.ServedRequests.{Has-mapped}
use Rattle.is_theorems.proofs.StoredPairs.PairsThatStay.{pairs-stay}
use Rattle.is_theorems.specs.Renominating.{BothSelectOnePath, FollowedAreSelected, IsAskedLast, IsToFollow, LastAskedAreSelected}
use Rattle.is_theorems.specs.Renominating.{NominatesNone, OnlySelectedAreNominated}
use Rattle.is_theorems.proofs.RenominatedPaths.LastNominatedPair.{IsRecordedOn, Records, records-by}
use Rattle.is_theorems.proofs.BasicLemmas.PairsInTurn.{sent-number, sent_at, pairs-sent}

-- ---- a pair that is found by its number

if-same : (b : Bool) (q p : PairRecord) → (if b then Some q else None) ≡ Some p → q ≡ p
if-same true q p h = same-some q p h
if-same false q p h = absurd (no-some p h)

pub numbered-is : (c : Bool) (ps : List PairRecord) (n : ℕ) (p : PairRecord) → eligible_numbered c ps n ≡ Some p → Has ps p × (p.number ≡ n)
numbered-is c ps n p h = by (pair_numbered n ps) refl h where
  by : (o : Option PairRecord) → pair_numbered n ps ≡ o → option_and_then (if_eligible c) o ≡ Some p → Has ps p × (p.number ≡ n)
  by None is k = absurd (no-some p k)
  by (Some q) is k =
      let found = found-in (is_numbered n) ps q is in
      subst (λ (x : PairRecord). Has ps x × (x.number ≡ n)) (if-same (is_eligible c q) q p k) (found.0, eqb-true q.number n found.1)

module _ {H P : Type 0} (mac : H → List ℕ → List ℕ → List ℕ) (answers : P → CandidateRecord → ℕ → ℕ → Type 0) where
  -- the path of the pair that `selected_pair` names is the one that was selected last
  path-named : (first : AgentRecord H P) (s : Stream) (log before : List (Logged P)) (mid : AgentRecord H P) (x : Logged P) (after : AgentRecord H P) → IsFresh first
      → Point mac answers first s log before mid x after → (p : PairRecord) → Has after.pairs p → after.selected_pair ≡ Some p.number
      → last_selected (x ∷ before) ≡ Some (path_of after p)
  path-named first s log before mid x after fresh at p has named =
      ((holds mac answers (path_theorem mac answers) first s fresh (x ∷ before) after at.following (run_to mac answers first s log before mid x after at)).named p has named).2

  -- ---- the controlling agent

  -- a check leaves the pair's path
  pub path-sent : (begins : Bool) (now : ℕ) (a : AgentRecord H P) (id : List ℕ) (p : PairRecord) → path_of a (sent_at begins now a.timing a.controlling id p) ≡ path_of a p
  path-sent true now a id p = refl
  path-sent false now a id p = refl

  pub only-selected : OnlySelectedAreNominated mac answers
  only-selected first s log before x check fresh h = by (checks-as mac answers h.mid h.after h.point.at h.point.following h.now (via_out check) h.id x.entry h.sends.emitted step) where
    step : Step mac answers h.mid h.point.at (HandleTimeout h.now) x.entry h.after h.point.following
    step = subst (λ (c : Call P). Step mac answers h.mid h.point.at c x.entry h.after h.point.following) h.comes h.point.step

    by : Checks mac answers h.now (via_out check) h.id h.after → last_selected (x ∷ before) ≡ Some (via_out check)
    by c =
        let m : Message = check_message c.old c.remote c.pair h.id in
        let bytes : List ℕ = written (mac c.old.provider) (Some c.remote.pass) m in
        let packet : Packet = record {
          proto = (path_of c.old c.pair).proto;
          source = (path_of c.old c.pair).source;
          destination = (path_of c.old c.pair).destination;
          contents = bytes;
        } in
        let same : check ≡ packet = last_alike h.mid.packets c.old.packets check packet (sym h.sends.put ∙ ap (λ (y : AgentRecord H P). y.packets) c.made) in
        let alike = c.put.reads h.message (subst (λ (y : Packet). Reads y.contents h.message) same h.reads) in
        let asks : h.message.attributes.use_candidate ≡ true = search h.asks in
        let set : h.after.renominates ≡ true = search h.renominates in
        let uses : (c.old.controlling && stays_nominated c.old c.pair) ≡ true = sym (ap (λ (r : AttributesRecord). r.use_candidate) alike.attributes) ∙ asks in
        let stays : stays_nominated c.old c.pair ≡ true = (both c.old.controlling (stays_nominated c.old c.pair) uses).1 in
        let on : c.old.renominates ≡ true = sym (ap (λ (a : AgentRecord H P). a.renominates) c.made) ∙ set in
        let named : is_named_by c.old.selected_pair c.pair ≡ true =
        subst (λ r. (not r || is_named_by c.old.selected_pair c.pair) ≡ true) on
        (both (is_nominated c.pair) (not c.old.renominates || is_named_by c.old.selected_pair c.pair) stays).1 in
        let begins : Bool = nominates_at_once c.old in
        let change : PairRecord → PairRecord = sent_at begins h.now c.old.timing c.old.controlling h.id in
        let after : PairRecord = change c.pair in
        let own : change_at c.pair.number change c.pair ≡ after = ap (λ b. if b then after else c.pair) (number_same c.pair.number) in
        let there : Has h.after.pairs after =
        subst (λ ps. Has ps after) (sym (pairs-sent mac h.now c.remote c.pair h.id c.old h.after c.made))
        (subst (λ (z : PairRecord). Has (change_pair c.pair.number change c.old.pairs) z) own (Has-mapped (change_at c.pair.number change) c.old.pairs c.pair c.has)) in
        path-named first s log before h.mid x h.after fresh h.point after there
        (ap (λ (a : AgentRecord H P). a.selected_pair) c.made ∙ (named-by c.old.selected_pair c.pair named
        ∙ ap Some (sym (sent-number begins h.now c.old.timing c.old.controlling h.id c.pair))))
        ∙ ap Some (ap (λ (a : AgentRecord H P). path_of a after) c.made ∙ (path-sent begins h.now c.old h.id c.pair ∙ c.path))

  -- ---- the controlled agent

  -- without numbers it is the pair that was nominated last
  pub follows-last : (a : AgentRecord H P) (number : ℕ) → a.renominates ≡ true → numbers a ≡ false → a.controlling ≡ false → a.last_nominated ≡ Some number → followed a ≡ Some number
  follows-last a number set plain role is =
      ap (λ b. if b && not a.controlling then (if numbers a && a.numbers_seen then followed_by_number a else a.last_nominated) else None) set
      ∙ (ap (λ c. if not c then (if numbers a && a.numbers_seen then followed_by_number a else a.last_nominated) else None) role
      ∙ (ap (λ b. if b && a.numbers_seen then followed_by_number a else a.last_nominated) plain ∙ is))

  -- the favored pair is chosen
  chosen-is : (a : AgentRecord H P) (number : ℕ) (p : PairRecord) (top : Option PairRecord) → followed a ≡ Some number → eligible_numbered a.controlling a.pairs number ≡ Some p
      → IsChosen a.controlling (followed a) (selection_of a) top → top ≡ Some p
  chosen-is a number p top follows able chosen =
      let is : favored a.controlling (followed a) (selection_of a) ≡ Some p =
      ap (λ f. favored a.controlling f (selection_of a)) follows
      ∙ ap (λ (o : Option PairRecord). option_or o (option_and_then (eligible_numbered a.controlling a.pairs) a.selected_pair)) able in
      subst (λ (o : Option PairRecord). MatchOption o (IsGreatest (is_eligible a.controlling) a.pairs top) (λ q. top ≡ Some q)) is chosen

  pub selects-followed : (a : AgentRecord H P) (number : ℕ) (p : PairRecord) → followed a ≡ Some number → eligible_numbered a.controlling a.pairs number ≡ Some p → IsTopSelected a
      → a.selected_pair ≡ Some number
  selects-followed a number p follows able (None, chosen, persists) = absurd (no-some p (chosen-is a number p None follows able chosen))
  selects-followed a number p follows able (Some best, chosen, persists) =
      let is : best ≡ p = same-some best p (chosen-is a number p (Some best) follows able chosen) in
      named-by a.selected_pair best (subst (λ f. remains f best (selection_of a) ≡ true) follows persists)
      ∙ ap Some (ap (λ (q : PairRecord). q.number) is ∙ (numbered-is a.controlling a.pairs number p able).1)

  pub followed-selected : FollowedAreSelected mac answers
  followed-selected first s log fresh before mid after x at evaluates number p follows found =
      let able : eligible_numbered after.controlling after.pairs number ≡ Some p = search found in
      let fit : IsSound mid = runs_sound mac answers (path_theorem mac answers) first mid s at.at before fresh at.led in
      let f = (path_theorem mac answers mid after at.at at.following x.call x.entry fit at.given at.step).0 in
      let selected : after.selected_pair ≡ Some number = selects-followed after number p follows able (f.points evaluates) in
      let k = numbered-is after.controlling after.pairs number p able in
      (selected, path-named first s log before mid x after fresh at p k.0 (selected ∙ ap Some (sym k.1)))

  -- ---- the pair that the peer nominated last

  module _ (first : AgentRecord H P) (s : Stream) (log : List (Logged P)) (fresh : IsFresh first) (path : Path) (before : List (Logged P)) (start : AgentRecord H P) (u : Stream)
      (led : Run mac answers first s before start u) (part : List (Logged P)) where
    -- a pair that uses the path's addresses may be removed
    abbrev Leaves : Type 0
    Leaves = MayEndIn mac answers first s log part path

    -- one more entry
    module _ (over xs : List (Logged P)) (mid last : AgentRecord H P) (v t : Stream) (x : Logged P) (split : log ≡ over ++ ((x ∷ xs) ++ before)) (within : Has part x)
        (run : RunsOn mac answers before start u xs mid v) (number : x.number ≡ length (xs ++ before)) (given : GivesBased x.call)
        (step : Step mac answers mid v x.call x.entry last t) where
      fits : IsSound mid
      fits = sound mac answers first s log fresh path before start u led part over xs mid last v t x split within run number given step

      records : Records mid x last
      records = records-by mac answers mid last v t x fits x.call refl step

      stays-on : last.last_nominated ≡ mid.last_nominated → IsRecordedOn mid path → IsRecordedOn last path ⊎ Leaves
      stays-on kept (p, has, last_is, on, nominated) = elim (pairs-stay mac answers mid last v t x.call x.entry p fits given step has) [
        | inl k ↦ inl (k.pair, k.there, kept ∙ last_is ∙ ap Some (sym k.number), k.path ∙ on, k.nominated nominated)
        | inr ends ↦ inr (
          xs ++ before,
          mid,
          last,
          x,
          p,
          point mac answers first s log fresh path before start u led part over xs mid last v t x split within run number given step,
          within,
          has,
          (ap (λ (w : Path). w.source) on, ap (λ (w : Path). w.destination) on),
          ends,
        )
      ]

      -- if the peer nominates no path here, the record stays
      asks-none : NominatesNone mid x last → IsRecordedOn mid path → IsRecordedOn last path ⊎ Leaves
      asks-none none was = by records where
        by : Records mid x last → IsRecordedOn last path ⊎ Leaves
        by (inl (kept, _)) = stays-on kept was
        by (inr (other, recorded, only, asked)) = let not : ¬ IsAskedOn mid x last other = search (none other) in absurd (not asked)

      asks-now : IsAskedOn mid x last path → IsRecordedOn last path
      asks-now asks = by records where
        by : Records mid x last → IsRecordedOn last path
        by (inl (kept, none)) = absurd (none path asks)
        by (inr (other, recorded, only, asked)) = subst (λ w. IsRecordedOn last w) (sym (only path asks)) recorded

    asked-last : (over xs : List (Logged P)) (last : AgentRecord H P) (t : Stream) → log ≡ over ++ (xs ++ before) → ((x : Logged P) → Has xs x → Has part x)
        → (run : RunsOn mac answers before start u xs last t) → IsAskedLast mac answers before start u xs last t run path → IsRecordedOn last path ⊎ Leaves
    asked-last over [] last t split within run asks = absurd asks
    asked-last over (x ∷ xs) last t split within (mid, v, run, number, given, step) (inl asks) =
        inl (asks-now over xs mid last v t x split (within x (inl refl)) run number given step asks)
    asked-last over (x ∷ xs) last t split within (mid, v, run, number, given, step) (inr (none, asks)) =
        elim (asked-last (over ++ x ∷ []) xs mid v (split ∙ sym (append_assoc over (x ∷ []) (xs ++ before))) (λ y has. within y (inr has)) run asks) [
          | inl was ↦ asks-none over xs mid last v t x split (within x (inl refl)) run number given step none was
          | inr leaves ↦ inr leaves
        ]

  -- the request that a `handle_timeout` call serves is an early one, so without one the peer nominates no path
  none-served : (old new : AgentRecord H P) (x : Logged P) (now : ℕ) → x.call ≡ HandleTimeout now → request_at now old ≡ None → NominatesNone old x new
  none-served old new x now comes none path (q, id, serving, uses, out, controlled) =
      no-some q (sym none ∙ (subst (λ (c : Call P). IsServing old c x.entry q) comes serving).0)

  module _ (first : AgentRecord H P) (s : Stream) (log before part : List (Logged P)) (timeout : Logged P) (path : Path) (fresh : IsFresh first)
      (h : IsToFollow mac answers first s log before part timeout path) where
    -- the recorded pair is followed
    follows : (p : PairRecord) → h.last.last_nominated ≡ Some p.number → followed h.last ≡ Some p.number
    follows p is =
        let set : h.last.renominates ≡ true = search h.renominates in
        let role : h.last.controlling ≡ false = search h.controlled in
        let plain : numbers h.last ≡ false = search h.unnumbered in
        follows-last h.last p.number set plain role is

    -- and eligible, if the pair that is answered is the only one on the path
    able : IsSound h.last → (p : PairRecord) → Has h.last.pairs p → is_valid p ≡ true → is_nominated p ≡ true → eligible_numbered h.last.controlling h.last.pairs p.number ≡ Some p
    able fit p has valid nominated =
        ap (λ (o : Option PairRecord). option_and_then (if_eligible h.last.controlling) o) (numbered-found h.last.pairs p fit.rising has)
        ∙ ap (λ b. if b then Some p else None) (nominated-eligible h.last.controlling p valid nominated)

    selects : (mid : AgentRecord H P) → Point mac answers first s log (part ++ before) mid timeout h.last → request_at h.now mid ≡ None → (p : PairRecord) → Has h.last.pairs p
        → h.last.last_nominated ≡ Some p.number → path_of h.last p ≡ path → is_valid p ≡ true → is_nominated p ≡ true → last_selected (timeout ∷ (part ++ before)) ≡ Some path
    selects mid at none p has recorded on valid nominated =
        let fit_mid : IsSound mid = runs_sound mac answers (path_theorem mac answers) first mid s at.at (part ++ before) fresh at.led in
        let fit : IsSound h.last = (path_theorem mac answers mid h.last at.at at.following timeout.call timeout.entry fit_mid at.given at.step).1 in
        let evaluates : IsNominationPoint mid timeout.call timeout.entry = subst (λ (c : Call P). IsNominationPoint mid c timeout.entry) (sym h.comes) (h.done, none) in
        (followed-selected first s log fresh (part ++ before) mid h.last timeout at evaluates p.number p (follows p recorded) (able fit p has valid nominated)).1 ∙ ap Some on

    pub last-asked : (last_selected (timeout ∷ (part ++ before)) ≡ Some path) ⊎ MayEndIn mac answers first s log (timeout ∷ part) path
    last-asked = by h.found.run h.none h.asked where
      by : (run : RunsOn mac answers before h.start h.found.at (timeout ∷ part) h.last h.found.following) → request_at h.now run.0 ≡ None
          → IsAskedLast mac answers before h.start h.found.at part run.0 run.1 run.2 path
          → (last_selected (timeout ∷ (part ++ before)) ≡ Some path) ⊎ MayEndIn mac answers first s log (timeout ∷ part) path
      by (mid, v, run, number, given, step) none asks =
          let heard : IsAnsweredIn part path = search h.answered in
          let only_pair : IsOnlyPair h.last path = search h.only_pair in
          let line : log ≡ (h.found.rest ++ timeout ∷ []) ++ (part ++ before) = h.found.split ∙ sym (append_assoc h.found.rest (timeout ∷ []) (part ++ before)) in
          elim (asked-last first s log fresh path before h.start h.found.at h.found.led (timeout ∷ part) (h.found.rest ++ timeout ∷ []) part mid v line (λ x there. inr there) run asks) [
            | inr leaves ↦ inr leaves
            | inl recorded ↦ elim (answered mac answers first s log fresh path before h.start h.found.at h.found.led (timeout ∷ part) (h.found.rest ++ timeout ∷ []) part mid v line
                (λ x there. inr there) run heard.0 heard.1 heard.2) [
                  | inr leaves ↦ inr leaves
                  | inl valid ↦ elim (asks-none first s log fresh path before h.start h.found.at h.found.led (timeout ∷ part) h.found.rest part mid h.last v h.found.following timeout h.found.split (inl refl)
                      run number given step (none-served mid h.last timeout h.now h.comes none) recorded) [
                        | inr leaves ↦ inr leaves
                        | inl r ↦ elim (next mac answers first s log fresh path before h.start h.found.at h.found.led (timeout ∷ part) h.found.rest part mid h.last v h.found.following timeout h.found.split (inl refl)
                            run number given step is_valid (λ p k is. k.valid is) valid) [
                              | inr leaves ↦ inr leaves
                              | inl w ↦ (
                                  let one : w.0 ≡ r.0 = only_pair w.0 r.0 w.1 r.1 w.3 (ap (λ (y : Path). y.source) r.3, ap (λ (y : Path). y.destination) r.3) in
                                  inl (selects mid
                                  (point mac answers first s log fresh path before h.start h.found.at h.found.led (timeout ∷ part) h.found.rest part mid h.last v h.found.following timeout h.found.split (inl refl)
                                  run number given step) none r.0 r.1 r.2 r.3 (subst (λ (q : PairRecord). is_valid q ≡ true) one w.2) r.4))
                            ]
                      ]
                ]
          ]

  pub last-asked-selected : LastAskedAreSelected mac answers
  last-asked-selected first s log before part timeout path fresh h = last-asked first s log before part timeout path fresh h

  -- ---- both agents

  pub both-select : OnlySelectedAreNominated mac answers → LastAskedAreSelected mac answers → BothSelectOnePath mac answers
  both-select only last_is seen first second s t near before part timeout path its fresh fresh2 g d sees =
      let same : seen path ≡ Some its = search sees in
      let stays : last_selected near ≡ last_selected (g.x ∷ g.before) = search g.stays in
      elim (last_is second t (timeout ∷ (part ++ before)) before part timeout its fresh2 d) [
        | inr leaves ↦ inr leaves
        | inl is ↦ inl (path, its, stays ∙ only first s near g.before g.x g.check fresh g.sends ∙ ap Some g.on, is, same)
      ]
