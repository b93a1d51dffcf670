-- A `handle_timeout` call without an early request selects a path if one may be selected, and sends the nomination that is due.
use Rattle.is_pair.specs.declared.pair.states.CheckState.{CheckState}
use Rattle.is_pair.specs.declared.pair.states.CheckState.TheVariants.{Waiting, InProgress, Succeeded}
use Rattle.is_pair.specs.declared.pair.states.NominationState.{NominationState}
use Rattle.is_pair.specs.declared.pair.states.NominationState.TheVariants.{None as Unnominated, Nominated, Attempt, Success}
use Rattle.is_pair.specs.States.{is_nominated_state, is_valid_state, nomination_once_sent, state_once_sent}
use Rattle.is_rules.specs.TimeoutTimes.{NominationsAreSent}
use Rattle.is_rules.proofs.Common.{[], ◌&&◌, ◌==◌, ◌||◌, ◌∙◌, ◌∷◌, ◌≡◌, ◌⊎◌, AgentRecord, all_scheduled, ap, scheduled, at_request, at_timeout}
use Rattle.is_rules.proofs.Common.{Bool, change_pair, check_sent, checked, ChecksTop, Emitted, eq-eqb, eqb-true, expired_gone, false, find}
use Rattle.is_rules.proofs.Common.{followed, Has, has_number, IceCreds, if◌then◌else◌, inl, inr, is_eligible, is_expired, is_numbered}
use Rattle.is_rules.proofs.Common.{is_pressing, is_selected_number, is_some, IsChosen, IsNextToCheck, Issued, List, list_any}
use Rattle.is_rules.proofs.Common.{MaintainsPairs, map, MatchOption, MayCheck, NamesTop, nominated, nominated_by_self, nominated_emitted}
use Rattle.is_rules.proofs.Common.{Nominates, nominates_at_once, None, not, numbers, Option, option_map_or, pair_selected, PairRecord, Path}
use Rattle.is_rules.proofs.Common.{path_left, refl, remains, RemovesExpired, renominated, RequestRecord, Selection, selection_of}
use Rattle.is_rules.proofs.Common.{ServesQueued, sides_of, Some, Stream, StunTiming, subst, sym, timeout_begun, true, with_selection, ℕ}
use Rattle.is_rules.proofs.PairLists.ChosenPair.{chosen-able, chosen-none, found-in, named-by, no-some}
use Rattle.is_rules.proofs.PairLists.PairsByNumber.{has-any, none-any}
use Rattle.is_rules.proofs.PollsAndResponses.NextTimeout.{either}

-- ---- the selected pair is in the list

any-found : {X : Type 0} (test : X → Bool) (xs : List X) → is_some (find test xs) ≡ list_any test xs
any-found test [] = refl
any-found test (y ∷ ys) = elim (test y) as (λ b. is_some (if b then Some y else find test ys) ≡ b || list_any test ys) [ true ↦ refl | false ↦ any-found test ys ]

-- some pair has the number, if there is one
abbrev names_one : Option ℕ → List PairRecord → Bool
names_one number ps = option_map_or (λ n. has_number n ps) number false

selected-there : (number : Option ℕ) (ps : List PairRecord) → is_some (pair_selected number ps) ≡ names_one number ps
selected-there None ps = refl
selected-there (Some n) ps = any-found (is_numbered n) ps

names-has : (ps : List PairRecord) (p : PairRecord) → Has ps p → names_one (Some p.number) ps ≡ true
names-has ps p has = has-any (is_numbered p.number) ps p has (eq-eqb p.number p.number refl)

-- the number of the pair that is found
selected-number : (number : Option ℕ) (ps : List PairRecord) (p : PairRecord) → Some p ≡ pair_selected number ps → option_map_or (λ n. n == p.number) number false ≡ true
selected-number None ps p is = absurd (no-some p (sym is))
selected-number (Some n) ps p is = eq-eqb n p.number (sym (eqb-true p.number n (found-in (is_numbered n) ps p (sym is)).1))

-- ---- changes that keep numbers, and whether a pair may be selected

changed-number : (m n : ℕ) (f : PairRecord → PairRecord) → ((p : PairRecord) → (f p).number ≡ p.number) → (ps : List PairRecord) → has_number m (change_pair n f ps) ≡ has_number m ps
changed-number m n f keeps [] = refl
changed-number m n f keeps (p ∷ ps) =
    let rest = changed-number m n f keeps ps in
    elim (is_numbered n p) as (λ b. is_numbered m (if b then f p else p) || has_number m (change_pair n f ps) ≡ is_numbered m p || has_number m ps) [
      | true ↦ ap (λ k. k == m || has_number m (change_pair n f ps)) (keeps p) ∙ ap (λ b. is_numbered m p || b) rest
      | false ↦ ap (λ b. is_numbered m p || b) rest
    ]

changed-names : (number : Option ℕ) (n : ℕ) (f : PairRecord → PairRecord) → ((p : PairRecord) → (f p).number ≡ p.number) → (ps : List PairRecord)
    → names_one number (change_pair n f ps) ≡ names_one number ps
changed-names None n f keeps ps = refl
changed-names (Some m) n f keeps ps = changed-number m n f keeps ps

changed-able : (c : Bool) (n : ℕ) (f : PairRecord → PairRecord) → ((p : PairRecord) → is_eligible c (f p) ≡ is_eligible c p) → (ps : List PairRecord)
    → list_any (is_eligible c) (change_pair n f ps) ≡ list_any (is_eligible c) ps
changed-able c n f keeps [] = refl
changed-able c n f keeps (p ∷ ps) =
    let rest = changed-able c n f keeps ps in
    elim (is_numbered n p) as (λ b. is_eligible c (if b then f p else p) || list_any (is_eligible c) (change_pair n f ps) ≡ is_eligible c p || list_any (is_eligible c) ps) [
      | true ↦ ap (λ b. b || list_any (is_eligible c) (change_pair n f ps)) (keeps p) ∙ ap (λ b. is_eligible c p || b) rest
      | false ↦ ap (λ b. is_eligible c p || b) rest
    ]

scheduled-names : (number : Option ℕ) (now : ℕ) (t : StunTiming) (ps : List PairRecord) → names_one number (map (scheduled now t) ps) ≡ names_one number ps
scheduled-names None now t ps = refl
scheduled-names (Some n) now t ps = over ps where
  over : (ps : List PairRecord) → has_number n (map (scheduled now t) ps) ≡ has_number n ps
  over [] = refl
  over (p ∷ ps) = ap (λ b. is_numbered n p || b) (over ps)

scheduled-able : (c : Bool) (now : ℕ) (t : StunTiming) (ps : List PairRecord) → list_any (is_eligible c) (map (scheduled now t) ps) ≡ list_any (is_eligible c) ps
scheduled-able c now t [] = refl
scheduled-able c now t (p ∷ ps) = ap (λ b. is_eligible c p || b) (scheduled-able c now t ps)

valid-sent : (state : CheckState) → is_valid_state (state_once_sent state) ≡ is_valid_state state
valid-sent Waiting = refl
valid-sent InProgress = refl
valid-sent Succeeded = refl

nominated-sent : (nomination : NominationState) → is_nominated_state (nomination_once_sent nomination) ≡ is_nominated_state nomination
nominated-sent Unnominated = refl
nominated-sent Nominated = refl
nominated-sent Attempt = refl
nominated-sent Success = refl

checked-able : (c : Bool) (now : ℕ) (t : StunTiming) (controlling : Bool) (id : List ℕ) (p : PairRecord) → is_eligible c (checked now t controlling id p) ≡ is_eligible c p
checked-able c now t controlling id p =
    ap (λ v. v && (c || is_nominated_state (nomination_once_sent p.nomination))) (valid-sent p.state)
    ∙ ap (λ n. is_valid_state p.state && (c || n)) (nominated-sent p.nomination)

self-number : (controlling lite : Bool) (p : PairRecord) → (nominated_by_self controlling lite p).number ≡ p.number
self-number controlling lite p = by (not (is_nominated_state p.nomination) && (controlling || lite)) lite where
  by : (b lite : Bool) → (if b then nominated lite p else p).number ≡ p.number
  by true true = refl
  by true false = refl
  by false lite = refl

-- ---- facts of truth values

none-due : (c l n d x e : Bool) → x ≡ true → c && l && n && (d && not x) && e ≡ false
none-due false l n d x e is = refl
none-due true false n d x e is = refl
none-due true true false d x e is = refl
none-due true true true false x e is = refl
none-due true true true true x e is = rw (is) refl

stays-undue : (c l n d x e f : Bool) → f ≡ e → c && l && n && d && e ≡ false → c && l && n && (d && x) && f ≡ false
stays-undue false l n d x e f same h = refl
stays-undue true false n d x e f same h = refl
stays-undue true true false d x e f same h = refl
stays-undue true true true false x e f same h = refl
stays-undue true true true true false e f same h = refl
stays-undue true true true true true e f same h = same ∙ h

last-fact : (c l n d e : Bool) → c && l && n && d && e ≡ true → e ≡ true
last-fact true true true true e h = h
last-fact true true true false e h = absurd (cc)
last-fact true true false d e h = absurd (cc)
last-fact true false n d e h = absurd (cc)
last-fact false l n d e h = absurd (cc)

none-presses : (n e c l d x : Bool) → (e ≡ true) ⊎ (x ≡ false) → c && l && n && d && e ≡ false → n && (if e then c && l && d else x) ≡ false
none-presses false e c l d x s h = refl
none-presses true false c l d x (inl there) h = absurd (cc)
none-presses true false c l d x (inr none) h = none
none-presses true true false l d x s h = refl
none-presses true true true false d x s h = refl
none-presses true true true true false x s h = refl
none-presses true true true true true x s h = absurd (cc)

-- ICE-lite and the remote credentials
abbrev Base : Type 0
Base = Bool × Option IceCreds

module _ {H P : Type 0} where
  -- the selected pair is there, or no pair may be selected
  abbrev Settled : AgentRecord H P → Type 0
  Settled a = (is_some (pair_selected a.selected_pair a.pairs) ≡ true) ⊎ (list_any (is_eligible a.controlling) a.pairs ≡ false)

  calm-of : (a : AgentRecord H P) → Settled a → nominates_at_once a ≡ false → is_pressing a ≡ false
  calm-of a settled off =
      none-presses (numbers a) (is_some (pair_selected a.selected_pair a.pairs)) a.controlling (not a.lite) a.nomination_due (list_any (is_eligible a.controlling) a.pairs) settled off

  -- ---- what stays

  abbrev base : AgentRecord H P → Base
  base a = (a.lite, a.remote_creds)

  nominates-base : (old new : AgentRecord H P) (path : Option Path) → Nominates old path new → base new ≡ base old
  nominates-base old new path (chosen, names, made) = ap (λ (a : AgentRecord H P). base a) made ∙ emits path (with_selection chosen old) where
    emits : (path : Option Path) (a : AgentRecord H P) → base (nominated_emitted path a) ≡ base a
    emits None a = refl
    emits (Some path) a = refl

  removes-base : (now : ℕ) (old new : AgentRecord H P) (path : Option Path) → RemovesExpired now old path new → base new ≡ base old
  removes-base now old new path h = either (list_any (is_expired now old) old.pairs) h
      (λ _ k. ap (λ (a : AgentRecord H P). base a) k.2 ∙ nominates-base (expired_gone now old) k.0 path k.1)
      (λ _ k. ap (λ (a : AgentRecord H P). base a) k.1)

  -- ---- after nomination is evaluated

  emitted-settled : (path : Option Path) (a : AgentRecord H P) → Settled a → Settled (nominated_emitted path a)
  emitted-settled None a settled = settled
  emitted-settled (Some path) a settled = settled

  abbrev Chosen : AgentRecord H P → Selection → Type 0
  Chosen old s = Settled (with_selection s old)

  stays-chosen : (old : AgentRecord H P) (s : Selection) → s ≡ selection_of old → Settled old → Chosen old s
  stays-chosen old s same settled = subst (λ (x : Selection). Settled (with_selection x old)) (sym same) settled

  there : (old : AgentRecord H P) → names_one old.selected_pair old.pairs ≡ true → Settled old
  there old names = inl (selected-there old.selected_pair old.pairs ∙ names)

  remains-there : (old : AgentRecord H P) (by : Option ℕ) (top : PairRecord) → Has old.pairs top → remains by top (selection_of old) ≡ true → Settled old
  remains-there old None top has persists = inl (by (pair_selected old.selected_pair old.pairs) persists) where
    by : (o : Option PairRecord) → option_map_or (λ (p : PairRecord). p.priority == top.priority) o false ≡ true → is_some o ≡ true
    by None h = h
    by (Some p) h = refl
  remains-there old (Some n) top has named =
      there old (ap (λ o. names_one o old.pairs) (named-by old.selected_pair top named) ∙ names-has old.pairs top has)

  names-settled : (old : AgentRecord H P) (path : Option Path) (s : Selection) (top : Option PairRecord) → IsChosen old.controlling (followed old) (selection_of old) top
      → NamesTop (sides_of old) (followed old) top (selection_of old) path s → Chosen old s
  names-settled old path s None is names =
      stays-chosen old s names.1 (inr (none-any (is_eligible old.controlling) old.pairs (chosen-none old.controlling (followed old) (selection_of old) is)))
  names-settled old path s (Some top) is names =
      let has = (chosen-able old.controlling (followed old) (selection_of old) top is).0 in
      either (remains (followed old) top (selection_of old)) names
      (λ stays k. stays-chosen old s k.1 (remains-there old (followed old) top has stays))
      (λ _ k. subst (λ (x : Selection). Settled (with_selection x old)) (sym k.1) (inl (
      selected-there (Some top.number) (change_pair top.number (nominated_by_self old.controlling old.lite) old.pairs)
      ∙ changed-names (Some top.number) top.number (nominated_by_self old.controlling old.lite) (self-number old.controlling old.lite) old.pairs
      ∙ names-has old.pairs top has)))

  nominates-settled : (old new : AgentRecord H P) (path : Option Path) → Nominates old path new → Settled new
  nominates-settled old new path (chosen, (top, is, names), made) =
      subst (λ (a : AgentRecord H P). Settled a) (sym made) (emitted-settled path (with_selection chosen old) (names-settled old path chosen top is names))

  removes-settled : (now : ℕ) (old new : AgentRecord H P) (path : Option Path) → Settled old → RemovesExpired now old path new → Settled new
  removes-settled now old new path settled h = either (list_any (is_expired now old) old.pairs) h
      (λ _ k. subst (λ (a : AgentRecord H P). Settled a) (sym k.2) (nominates-settled (expired_gone now old) k.0 path k.1))
      (λ _ k. subst (λ (a : AgentRecord H P). Settled a) (sym k.1) settled)

  scheduled-settled : (now : ℕ) (a : AgentRecord H P) → Settled a → Settled (all_scheduled now a)
  scheduled-settled now a (inl h) =
      inl (selected-there a.selected_pair (map (scheduled now a.timing) a.pairs) ∙ scheduled-names a.selected_pair now a.timing a.pairs ∙ sym (selected-there a.selected_pair a.pairs) ∙ h)
  scheduled-settled now a (inr none) = inr (scheduled-able a.controlling now a.timing a.pairs ∙ none)

  module _ (mac : H → List ℕ → List ℕ → List ℕ) where
    -- ---- after the check of a pair

    module _ (now : ℕ) (remote : IceCreds) (p : PairRecord) (id : List ℕ) (a : AgentRecord H P) where
      abbrev sent : AgentRecord H P
      sent = check_sent mac now remote p id a

      abbrev change : PairRecord → PairRecord
      change = checked now a.timing a.controlling id

      abbrev begun : Bool → List PairRecord
      begun b = if b then change_pair p.number renominated a.pairs else a.pairs

      begun-names : (b : Bool) → names_one a.selected_pair (begun b) ≡ names_one a.selected_pair a.pairs
      begun-names true = changed-names a.selected_pair p.number renominated (λ q. refl) a.pairs
      begun-names false = refl

      sent-there : (b : Bool) → is_some (pair_selected a.selected_pair (change_pair p.number change (begun b))) ≡ is_some (pair_selected a.selected_pair a.pairs)
      sent-there b =
          selected-there a.selected_pair (change_pair p.number change (begun b)) ∙ changed-names a.selected_pair p.number change (λ q. refl) (begun b)
          ∙ begun-names b ∙ sym (selected-there a.selected_pair a.pairs)

      sent-by : (b : Bool) → nominates_at_once a ≡ b → Settled a
          → (is_some (pair_selected a.selected_pair (change_pair p.number change (begun b))) ≡ true) ⊎ (list_any (is_eligible a.controlling) (change_pair p.number change (begun b)) ≡ false)
      sent-by true due settled =
          inl (sent-there true ∙ last-fact a.controlling (not a.lite) (numbers a) a.nomination_due (is_some (pair_selected a.selected_pair a.pairs)) due)
      sent-by false off (inl h) = inl (sent-there false ∙ h)
      sent-by false off (inr none) = inr (changed-able a.controlling p.number change (checked-able a.controlling now a.timing a.controlling id) a.pairs ∙ none)

      sent-settled : Settled a → Settled sent
      sent-settled settled = sent-by (nominates_at_once a) refl settled

      sent-undue : nominates_at_once a ≡ false → nominates_at_once sent ≡ false
      sent-undue off =
          stays-undue a.controlling (not a.lite) (numbers a) a.nomination_due (not (is_selected_number a p.number)) (is_some (pair_selected a.selected_pair a.pairs))
          (is_some (pair_selected sent.selected_pair sent.pairs)) (sent-there (nominates_at_once a)) off

      sent-done : is_selected_number a p.number ≡ true → nominates_at_once sent ≡ false
      sent-done is =
          none-due a.controlling (not a.lite) (numbers a) a.nomination_due (is_selected_number a p.number) (is_some (pair_selected sent.selected_pair sent.pairs)) is

    -- ---- the check

    module _ (now : ℕ) (remote : IceCreds) (a new : AgentRecord H P) (s t : Stream) (issued : Option Issued) where
      in-turn : (next : Option PairRecord) → Settled a → nominates_at_once a ≡ false → ChecksTop mac now remote next a s issued new t → is_pressing new ≡ false
      in-turn None settled off top = subst (λ (x : AgentRecord H P). is_pressing x ≡ false) (sym top.1) (calm-of a settled off)
      in-turn (Some p) settled off (id, drawn, put, is, made) =
          subst (λ (x : AgentRecord H P). is_pressing x ≡ false) (sym made)
          (calm-of (check_sent mac now remote p id a) (sent-settled now remote p id a settled) (sent-undue now remote p id a off))

      at-once : (next : Option PairRecord) → Settled a → nominates_at_once a ≡ true → next ≡ pair_selected a.selected_pair a.pairs → ChecksTop mac now remote next a s issued new t
          → is_pressing new ≡ false
      at-once None settled due same top =
          let some = last-fact a.controlling (not a.lite) (numbers a) a.nomination_due (is_some (pair_selected a.selected_pair a.pairs)) due in
          let wrong : false ≡ true = ap (λ (o : Option PairRecord). is_some o) same ∙ some in absurd (cc)
      at-once (Some p) settled due same (id, drawn, put, is, made) =
          subst (λ (x : AgentRecord H P). is_pressing x ≡ false) (sym made)
          (calm-of (check_sent mac now remote p id a) (sent-settled now remote p id a settled) (sent-done now remote p id a (selected-number a.selected_pair a.pairs p same)))

    checks-calm : (now : ℕ) (remote : Option IceCreds) (old new : AgentRecord H P) (s t : Stream) (issued : Option Issued) → old.lite ≡ false → is_some remote ≡ true → Settled old
        → MayCheck mac now remote old s issued new t → is_pressing new ≡ false
    checks-calm now None old new s t issued full known settled h = absurd (cc)
    checks-calm now (Some remote) old new s t issued full known settled h = either old.lite h
        (λ lite _. (let wrong : true ≡ false = sym lite ∙ full in absurd (cc)))
        (λ _ k. next k.0 k.1 k.2) where
          next : (pair : Option PairRecord) → IsNextToCheck now (all_scheduled now old) pair → ChecksTop mac now remote pair (all_scheduled now old) s issued new t → is_pressing new ≡ false
          next pair is top = either (nominates_at_once (all_scheduled now old)) is
              (λ due same. at-once now remote (all_scheduled now old) new s t issued pair (scheduled-settled now old settled) due same top)
              (λ off _. in-turn now remote (all_scheduled now old) new s t issued pair (scheduled-settled now old settled) off top)

    -- nomination, removal of failed pairs, and a check: nothing is left to be selected or nominated
    pub calm-after : (now : ℕ) (old new : AgentRecord H P) (s t : Stream) (emitted : Emitted) → old.lite ≡ false → is_some old.remote_creds ≡ true
        → MaintainsPairs mac now old s emitted new t → is_pressing new ≡ false
    calm-after now old new s t emitted full known (first, second, issued, named, kept, names, gone, sends, is) =
        let stays : base kept ≡ base old = removes-base now named kept second gone ∙ nominates-base (path_left now (at_timeout now old)) named first names in
        let settled = removes-settled now named kept second (nominates-settled (path_left now (at_timeout now old)) named first names) gone in
        checks-calm now kept.remote_creds kept new s t issued (ap (λ (b : Base). b.0) stays ∙ full) (ap (λ (b : Base). is_some b.1) stays ∙ known) settled sends

    pub nominations-sent : NominationsAreSent P mac
    nominations-sent old new now s t emitted full =
        let maintains = subst (λ (o : Option RequestRecord).
        MatchOption o (MaintainsPairs mac now (timeout_begun now old) s emitted new t) (λ q. ServesQueued mac q (at_request now (timeout_begun now old)) s emitted new t))
        full.no_request full.call in
        calm-after now (timeout_begun now old) new s t emitted full.full full.known maintains
