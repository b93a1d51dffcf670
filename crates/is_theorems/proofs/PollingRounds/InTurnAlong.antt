-- Along a segment each check is in turn, or sends a nomination at once, which is counted. While no pair is valid, until a success response
-- is accepted, and without numbers, none is sent at once.
use Rattle.is_theorems.proofs.Common.{[], ◌*◌, ◌++◌, ◌+◌, ◌<◌, ◌∙◌, ◌∷◌, ◌≡◌, ◌≤◌, ◌⊎◌, AcceptsSuccess, AgentRecord, all_scheduled, ap, arith}
use Rattle.is_theorems.proofs.Common.{Awaits, began_at, Bool, Call, CandidateRecord, checks_for, due_time_of, entries_of, Entry, false}
use Rattle.is_theorems.proofs.Common.{GivesBased, HandleTimeout, Has, inl, inr, is_in_round, is_modern, is_some, is_valid, IsChecking}
use Rattle.is_theorems.proofs.Common.{IsFresh, IsInLine, IsLasting, IsPassing, IsSound, IsUnanswered, length, List, Logged, LoggedRound}
use Rattle.is_theorems.proofs.Common.{MaintainsPairs, nominates_at_once, nominations_ahead, numbers, PairRecord, refl, Run, RunsOn}
use Rattle.is_theorems.proofs.Common.{selection_count, selects, Some, Step, Stream, subst, Suffice, sym, timeout_begun, true}
use Rattle.is_theorems.proofs.Common.{unanswered_count, ℕ}
use Rattle.is_theorems.proofs.CallEffects.PathAndTradeEffects.{path_theorem}
use Rattle.is_theorems.proofs.DuePairs.NominationsAhead.{at-once-ends, calls-due, sends-less, sends-more, timeouts-due, to_select, to_send}
use Rattle.is_theorems.proofs.DuePairs.NoNominationDue.{Quiet, as-is, modern-stays, modern-stays-timeout, none-at-check, quiet-call}
use Rattle.is_theorems.proofs.DuePairs.NoNominationDue.{quiet-timeout}
use Rattle.is_theorems.proofs.ExecutionLogs.LogSegments.{no-case, run-on}
use Rattle.is_theorems.proofs.ExecutionLogs.LogTheorems.{runs_sound}
use Rattle.is_theorems.proofs.ExecutionLogs.PerAgentExecutions.{either_has}
use Rattle.is_theorems.proofs.PollingRounds.CountedSelections.{paid, paid-nothing}

module _ {P : Type 0} where
  -- a call of the segment turns it off
  abbrev pub OffIn : (Call P → Entry → Type 0) → List (Logged P) → Type 0
  OffIn Off xs = (x : Logged P) × Has xs x × Off x.call x.entry

  -- a `handle_timeout` call, or one that may come between two of them
  abbrev pub IsOfRound : (modern : Bool) → Logged P → Type 0
  IsOfRound modern x = (is_in_round modern x.call ≡ true) ⊎ ((now : ℕ) × (x.call ≡ HandleTimeout now))

  pub of_rounds : (m : Bool) (by : ℕ) (rounds : List (LoggedRound P)) → ((r : LoggedRound P) → Has rounds r → IsPassing m by r) → (x : Logged P) → Has (entries_of rounds) x → IsOfRound m x
  of_rounds m by [] passing x has = absurd has
  of_rounds m by (r ∷ older) passing x has = elim (either_has r.following (r.timeout ∷ entries_of older) x has) [
    | inl following ↦ inl ((passing r (inl refl)).between x following)
    | inr (inl is) ↦ inr (r.now, ap (λ (y : Logged P). y.call) (sym is) ∙ (passing r (inl refl)).comes)
    | inr (inr was) ↦ of_rounds m by older (λ y there. passing y (inr there)) x was
  ]

module _ {H P : Type 0} where
  -- a pair that waits for its check (`IsInLine`), whether or not nominations have numbers
  pub record Lined (at by : ℕ) (a : AgentRecord H P) (p : PairRecord) : Type 0 where
    pub checking : IsChecking a
    pub queue : a.queue ≡ []
    pub there : Has a.pairs p
    pub due : due_time_of at a.timing p ≤ by
    pub settled : (is_valid p ≡ false) ⊎ (is_some p.due ≡ true)
    pub young : unanswered_count p.checks < a.timing.max_retransmits
    pub lasting : IsLasting at a p

  pub lined : (at by : ℕ) (a : AgentRecord H P) (p : PairRecord) → IsInLine at by a p → Lined at by a p
  lined at by a p line = record {
    checking = line.checking;
    queue = line.queue;
    there = line.there;
    due = (let due = line.due in omega (arith, due));
    settled = line.settled;
    young = (let young = line.young in omega (arith, young));
    lasting = line.lasting;
  }

  -- no pair is valid yet, so one that is due waits for its check
  pub lined-unanswered : (now by : ℕ) (a : AgentRecord H P) (p : PairRecord) → Awaits now by a p → IsUnanswered a p → Lined now by a p
  lined-unanswered now by a p waits unanswered = record {
    checking = waits.checking;
    queue = waits.queue;
    there = waits.there;
    due = (let due = waits.due in omega (arith, due));
    settled = inl (let none = unanswered.invalid in none p waits.there);
    young = (let young = unanswered.young in omega (arith, young));
    lasting = λ valid. (let no : true ≡ false = sym valid ∙ (let none = unanswered.invalid in none p waits.there) in absurd (cc));
  }

  -- the rounds suffice for it (`Suffice`), if so many nominations may be sent at once in them
  pub record Sufficing (by ahead : ℕ) (start : AgentRecord H P) (rounds : List (LoggedRound P)) (last : AgentRecord H P) (p : PairRecord) : Type 0 where
    pub at : ℕ
    pub began : began_at rounds ≡ Some at
    pub line : Lined at by start p
    pub passing : (r : LoggedRound P) → Has rounds r → IsPassing (is_modern start.timing) by r
    pub lasting : (r : LoggedRound P) → Has rounds r → IsLasting r.now start p
    pub enough : checks_for (is_modern start.timing) (2 * length start.pairs + last.next_number + ahead) ≤ length rounds + 1 + checks_for (is_modern start.timing) start.next_number

  pub sufficing : (by : ℕ) (start : AgentRecord H P) (rounds : List (LoggedRound P)) (last : AgentRecord H P) (p : PairRecord) → Suffice by start rounds last p
      → Sufficing by (nominations_ahead start (selection_count (entries_of rounds))) start rounds last p
  sufficing by start rounds last p f = record {
    at = f.at;
    began = f.began;
    line = lined f.at by start p f.line;
    passing = f.passing;
    lasting = f.lasting;
    enough = (let enough = f.enough in omega (arith, enough));
  }

module _ {H P : Type 0} (mac : H → List ℕ → List ℕ → List ℕ) (answers : P → CandidateRecord → ℕ → ℕ → Type 0) where
  -- ---- what stays, until a call turns it off

  -- A check is sent at once only if one more nomination is to be sent before the call, or counted in it, than after it.
  pub record InTurn (Stays : AgentRecord H P → Type 0) (Off : Call P → Entry → Type 0) (owes : AgentRecord H P → ℕ) (pays : Entry → ℕ) : Type 0 where
    pub call : (call : Call P) (e : Entry) (old new : AgentRecord H P) (s t : Stream) → is_in_round (is_modern old.timing) call ≡ true → IsSound old → GivesBased call → Stays old → Step mac answers old s call e new t
        → Off call e ⊎ Stays new
    pub timeout : (now : ℕ) (e : Entry) (old new : AgentRecord H P) (s t : Stream) → IsSound old → Stays old → Step mac answers old s (HandleTimeout now) e new t → Stays new
    pub owing : (call : Call P) (e : Entry) (old new : AgentRecord H P) (s t : Stream) → is_in_round (is_modern old.timing) call ≡ true → Step mac answers old s call e new t → owes new ≤ owes old + pays e
    pub owing_timeout : (now : ℕ) (e : Entry) (old new : AgentRecord H P) (s t : Stream) → Step mac answers old s (HandleTimeout now) e new t → owes new ≤ owes old + pays e
    pub at_once : (now : ℕ) (e : Entry) (old new : AgentRecord H P) (s t : Stream) → is_some old.remote_creds ≡ true → old.lite ≡ false → Stays old
        → (h : MaintainsPairs mac now (timeout_begun now old) s e.emitted new t) → nominates_at_once (all_scheduled now h.4) ≡ true → owes new + 1 ≤ owes old + pays e
    -- no `handle_timeout` call turns it off
    pub apart : (now : ℕ) (e : Entry) → Off (HandleTimeout now) e → ⊥

  -- the profile stays in rounds
  pub profile-along : (m : Bool) (before : List (Logged P)) (start last : AgentRecord H P) (u t : Stream) (xs : List (Logged P)) → ((x : Logged P) → Has xs x → IsOfRound m x)
      → RunsOn mac answers before start u xs last t → is_modern last.timing ≡ is_modern start.timing
  profile-along m before start last u t [] fits (is, same) = ap (λ (a : AgentRecord H P). is_modern a.timing) is
  profile-along m before start last u t (x ∷ xs) fits (mid, v, run, number, given, step) =
      let so_far = profile-along m before start mid u v xs (λ y has. fits y (inr has)) run in
      elim (fits x (inl refl)) [
        | inl in_round ↦ modern-stays mac answers m x.call x.entry mid last v t in_round step ∙ so_far
        | inr (now, comes) ↦ modern-stays-timeout mac answers now x.entry mid last v t (subst (λ (c : Call P). Step mac answers mid v c x.entry last t) comes step) ∙ so_far
      ]

  module _ (Stays : AgentRecord H P → Type 0) (Off : Call P → Entry → Type 0) (owes : AgentRecord H P → ℕ) (pays : Entry → ℕ) (turns : InTurn Stays Off owes pays) (first : AgentRecord H P) (s : Stream) (fresh : IsFresh first) where
    pub turn-along : (before : List (Logged P)) (start last : AgentRecord H P) (u t : Stream) (xs : List (Logged P)) → ((x : Logged P) → Has xs x → IsOfRound (is_modern start.timing) x)
        → Run mac answers first s before start u → RunsOn mac answers before start u xs last t → Stays start → OffIn Off xs ⊎ Stays last
    turn-along before start last u t [] fits led (is, same) stays = inr (subst (λ (a : AgentRecord H P). Stays a) (sym is) stays)
    turn-along before start last u t (x ∷ xs) fits led (mid, v, run, number, given, step) stays =
        elim (turn-along before start mid u v xs (λ y has. fits y (inr has)) led run stays) [
          | inl (y, has, off) ↦ inl (y, inr has, off)
          | inr still ↦
              (let sound : IsSound mid = runs_sound mac answers (path_theorem mac answers) first mid s v (xs ++ before) fresh (run-on mac answers first start mid s u v before xs led run) in
              elim (fits x (inl refl)) [
                | inl in_round ↦ elim (turns.call x.call x.entry mid last v t (as-is (is_modern start.timing) (is_modern mid.timing) x.call (profile-along (is_modern start.timing) before start mid u v xs (λ y has. fits y (inr has)) run) in_round) sound given still step) [
                  | inl off ↦ inl (x, inl refl, off)
                  | inr after ↦ inr after
                ]
                | inr (now, comes) ↦ inr (turns.timeout now x.entry mid last v t sound still (subst (λ (c : Call P). Step mac answers mid v c x.entry last t) comes step))
              ])
        ]

  -- ---- nominations may have numbers: if they do at first, those that are sent at once are counted

  abbrev pub IsNumbered : Bool → AgentRecord H P → Type 0
  IsNumbered c a = c ≡ false → numbers a ≡ false

  abbrev pub Never : Call P → Entry → Type 0
  Never call e = ⊥

  numbered-at-once : (c : Bool) (now : ℕ) (e : Entry) (old new : AgentRecord H P) (s t : Stream) → is_some old.remote_creds ≡ true → old.lite ≡ false → IsNumbered c old
      → (h : MaintainsPairs mac now (timeout_begun now old) s e.emitted new t) → nominates_at_once (all_scheduled now h.4) ≡ true → to_send c new + 1 ≤ to_send c old + to_select c e
  numbered-at-once c now e old new s t known full stays h due = by-count c refl where
    k : (new.nomination_due ≡ false) × (numbers old ≡ true) × ((old.nomination_due ≡ true) ⊎ (selects e ≡ true))
    k = (let l = at-once-ends mac now (timeout_begun now old) new s t e.emitted known full h due in (l.0, l.1, l.2))

    by-count : (b : Bool) → c ≡ b → to_send c new + 1 ≤ to_send c old + to_select c e
    by-count true is = sends-less c e old new is k.1 k.0 k.2
    by-count false is = no-case (sym (stays is) ∙ k.1)

  pub numbered-in-turn : (c : Bool) → InTurn (IsNumbered c) Never (to_send c) (to_select c)
  numbered-in-turn c = record {
    call = λ call e old new s t is sound given stays step. inr (λ off. (let d = calls-due mac answers call e old new s t is step in d.0 (stays off)));
    timeout = λ now e old new s t sound stays step. λ off. (let d = timeouts-due mac answers now e old new s t step in d.0 (stays off));
    owing = λ call e old new s t is step. sends-more c e old new (calls-due mac answers call e old new s t is step);
    owing_timeout = λ now e old new s t step. sends-more c e old new (timeouts-due mac answers now e old new s t step);
    at_once = λ now e old new s t known full stays h due. numbered-at-once c now e old new s t known full stays h due;
    apart = λ now e never. never;
  }

  -- ---- no pair is valid, and no nomination is to be sent at once

  abbrev pub IsQuiet : AgentRecord H P → Type 0
  IsQuiet a = Quiet a

  abbrev pub Accepts : Call P → Entry → Type 0
  Accepts call e = AcceptsSuccess call e

  -- nothing is counted
  abbrev pub no_agent : AgentRecord H P → ℕ
  no_agent a = 0

  abbrev pub no_call : Entry → ℕ
  no_call e = 0

  pub paid-none : (xs : List (Logged P)) → 0 + paid no_call xs ≤ 0
  paid-none xs = let k : paid (λ e. 0) xs ≡ 0 = paid-nothing xs in omega (arith, k)

  pub quiet-in-turn : InTurn IsQuiet Accepts no_agent no_call
  quiet-in-turn = record {
    call = λ call e old new s t is sound given q step. quiet-call mac answers call e old new s t is sound given q step;
    timeout = λ now e old new s t sound q step. quiet-timeout mac answers now e old new s t sound q step;
    owing = λ call e old new s t is step. omega arith;
    owing_timeout = λ now e old new s t step. omega arith;
    at_once = λ now e old new s t known full q h due. no-case (sym (none-at-check mac now (timeout_begun now old) q.invalid q.quiet h.0 h.1 h.3 h.4 h.5 h.6) ∙ due);
    apart = λ now e off. off.3;
  }
