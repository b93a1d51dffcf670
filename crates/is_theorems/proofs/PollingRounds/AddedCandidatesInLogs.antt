-- In rounds in which candidates may be added a pair is checked, or its path answered. Until a success response is accepted no pair is
-- valid, so the first one selects a path.
use Rattle.is_theorems.specs.DueRounds.{AnsweredDueRoundsSelect}
use Rattle.is_theorems.specs.OpenRounds.{AnsweredOpenRoundsSelect}
use Rattle.is_theorems.proofs.Common.{[], ◌*◌, ◌++◌, ◌+◌, ◌∙◌, ◌∷◌, ◌≡◌, ◌≤◌, ◌⊎◌, AgentRecord, AnsweredRoundsSelect, ap, append_assoc}
use Rattle.is_theorems.proofs.Common.{arith, Awaits, Bool, BringsSuccess, Call, CandidateRecord, checks_for, entries_of, false, Has, inl}
use Rattle.is_theorems.proofs.Common.{inr, is_modern, is_valid, IsAnsweredIn, IsControllingIn, IsFresh, IsLasting, IsUnanswered, length}
use Rattle.is_theorems.proofs.Common.{List, lite_set_by, Logged, LoggedRound, PairRecord, Path, path_of, PathEffect, Point, refl, Run}
use Rattle.is_theorems.proofs.Common.{RunsOn, SegmentSelects, Stream, subst, SufficesFromDue, sym, true, ℕ}
use Rattle.is_theorems.proofs.PathSelection.SelectedAfterFirstResponse.{selects_path-at}
use Rattle.is_theorems.proofs.DuePairs.AfterPackets.{NoneValid}
use Rattle.is_theorems.proofs.ExecutionLogs.PerAgentExecutions.{either_has}
use Rattle.is_theorems.proofs.CallEffects.PathAndTradeEffects.{path_theorem}
use Rattle.is_theorems.proofs.ExecutionLogs.LogTheorems.{runs_sound}
use Rattle.is_theorems.proofs.ExecutionLogs.LogSegments.{run-on, starts-controlling}
use Rattle.is_theorems.proofs.DuePairs.NoNominationDue.{Quiet, due-none, lite_stays}
use Rattle.is_theorems.proofs.PollingRounds.DuePairsInLogs.{reached-unless}
use Rattle.is_theorems.proofs.PollingRounds.FirstRound.{due-unless}
use Rattle.is_theorems.proofs.PollingRounds.InTurnAlong.{Accepts, IsOfRound, IsQuiet, lined-unanswered, no_agent, no_call, of_rounds}
use Rattle.is_theorems.proofs.PollingRounds.InTurnAlong.{paid-none, quiet-in-turn}

module _ {P : Type 0} where
  lite_kept : (m : Bool) (x : Logged P) (l : Bool) → IsOfRound m x → lite_set_by x.call l ≡ l
  lite_kept m x l (inl is) = lite_stays m x.call l is
  lite_kept m x l (inr (now, is)) = ap (λ (c : Call P). lite_set_by c l) is

  -- what is received in a round is received in the segment
  pub in_entries : (rounds : List (LoggedRound P)) (r : LoggedRound P) (x : Logged P) → Has rounds r → Has r.following x → Has (entries_of rounds) x
  in_entries [] r x has there = absurd has
  in_entries (z ∷ older) r x (inl is) there = front z.following (z.timeout ∷ entries_of older) x (subst (λ (y : LoggedRound P). Has y.following x) (sym is) there) where
    front : (xs ys : List (Logged P)) (x : Logged P) → Has xs x → Has (xs ++ ys) x
    front [] ys x h = absurd h
    front (y ∷ xs) ys x (inl e) = inl e
    front (y ∷ xs) ys x (inr h) = inr (front xs ys x h)
  in_entries (z ∷ older) r x (inr has) there = rear z.following (z.timeout ∷ entries_of older) x (inr (in_entries older r x has there)) where
    rear : (xs ys : List (Logged P)) (x : Logged P) → Has ys x → Has (xs ++ ys) x
    rear [] ys x h = h
    rear (y ∷ xs) ys x h = inr (rear xs ys x h)

  success-is : (part : List (Logged P)) (path : Path) → IsAnsweredIn part path → (x : Logged P) × Has part x × BringsSuccess x
  success-is part path (x, has, (at, by, m, brings, success, back)) = (x, has, (at, by, m, brings, success))

some-or-none : (ps : List PairRecord) → ((p : PairRecord) × Has ps p × (is_valid p ≡ true)) ⊎ NoneValid ps
some-or-none [] = inr (λ p has. absurd has)
some-or-none (p ∷ ps) = by (is_valid p) refl (some-or-none ps) where
  by : (b : Bool) → is_valid p ≡ b → ((q : PairRecord) × Has ps q × (is_valid q ≡ true)) ⊎ NoneValid ps → ((q : PairRecord) × Has (p ∷ ps) q × (is_valid q ≡ true)) ⊎ NoneValid (p ∷ ps)
  by true is rest = inl (p, inl refl, is)
  by false is (inl (q, has, valid)) = inl (q, inr has, valid)
  by false is (inr none) = inr (λ q has. elim has [ inl same ↦ ap (λ (x : PairRecord). is_valid x) (sym same) ∙ is | inr there ↦ none q there ])

none-more : (n : ℕ) → n ≡ n + 0
none-more n = omega arith

module _ {H P : Type 0} (mac : H → List ℕ → List ℕ → List ℕ) (answers : P → CandidateRecord → ℕ → ℕ → Type 0) where
  -- no pair is valid, and no success response was accepted in the segment
  record Waits (xs : List (Logged P)) (a : AgentRecord H P) : Type 0 where
    full : a.lite ≡ false
    invalid : NoneValid a.pairs
    unanswered : (x : Logged P) → Has xs x → BringsSuccess x → ⊥

  module _ (first : AgentRecord H P) (s : Stream) (log : List (Logged P)) (fresh : IsFresh first) (part : List (Logged P)) where
    waits-on : (m : Bool) (before xs : List (Logged P)) (mid last : AgentRecord H P) (x : Logged P) → Point mac answers first s log before mid x last → Has part x → last.controlling ≡ true → IsOfRound m x
        → Waits xs mid → SegmentSelects mac answers first s log part ⊎ Waits (x ∷ xs) last
    waits-on m before xs mid last x point within role of_round w = by (some-or-none last.pairs) where
      f : PathEffect mac mid x.call x.entry last
      f = (path_theorem mac answers mid last point.at point.following x.call x.entry (runs_sound mac answers (path_theorem mac answers) first mid s point.at before fresh point.led) point.given point.step).0

      still : NoneValid last.pairs → BringsSuccess x → ⊥
      still none (at, via, m, brings, success) =
          let taken = f.taken at via m brings success in
          let wrong : false ≡ true = sym (none taken.0 taken.1) ∙ taken.3 in cc

      by : ((p : PairRecord) × Has last.pairs p × (is_valid p ≡ true)) ⊎ NoneValid last.pairs → SegmentSelects mac answers first s log part ⊎ Waits (x ∷ xs) last
      by (inl (p, has, valid)) = elim (f.valid w.full (path_of last p) (p, has, valid, refl)) [
        | inl (q, there, was, on) ↦ absurd (let wrong : false ≡ true = sym (w.invalid q there) ∙ was in cc)
        | inr a ↦ inl (selects_path-at mac answers first s log fresh before part mid last x point w.invalid role (a.0, a.1, a.2, a.5, a.6) within)
      ]
      by (inr none) = inr (record {
        full = f.lite ∙ (lite_kept m x mid.lite of_round ∙ w.full);
        invalid = none;
        unanswered = λ y has success. elim has [
          | inl is ↦ still none (subst (λ (z : Logged P). BringsSuccess z) (sym is) success)
          | inr there ↦ w.unanswered y there success
        ];
      })

    walk : (m : Bool) (before : List (Logged P)) (start last : AgentRecord H P) (u t : Stream) (over xs : List (Logged P)) → log ≡ over ++ (xs ++ before)
        → ((x : Logged P) → Has xs x → Has part x) → ((x : Logged P) → Has xs x → IsOfRound m x)
        → Run mac answers first s before start u → (run : RunsOn mac answers before start u xs last t) → IsControllingIn mac answers before start u xs last t run
        → Waits [] start → SegmentSelects mac answers first s log part ⊎ Waits xs last
    walk m before start last u t over [] split within fits led (is, same) role w = inr (subst (λ (a : AgentRecord H P). Waits [] a) (sym is) w)
    walk m before start last u t over (x ∷ xs) split within fits led (mid, v, run, number, based, step) role w =
        elim (walk m before start mid u v (over ++ x ∷ []) xs (split ∙ sym (append_assoc over (x ∷ []) (xs ++ before))) (λ y has. within y (inr has)) (λ y has. fits y (inr has)) led run role.1 w) [
          | inl selected_paths ↦ inl selected_paths
          | inr k ↦
              waits-on m (xs ++ before) xs mid last x
              (record { rest = over; split = split; at = v; led = run-on mac answers first start mid s u v before xs led run; number = number; given = based; following = t; step = step })
              (within x (inl refl)) role.0 (fits x (inl refl)) k
        ]

  quiet-at : (first : AgentRecord H P) (s u : Stream) (before : List (Logged P)) (start : AgentRecord H P) (p : PairRecord) (at by : ℕ) → IsFresh first → Run mac answers first s before start u
      → start.controlling ≡ true → Awaits at by start p → IsUnanswered start p → Quiet start
  quiet-at first s u before start p at by fresh led role waits unanswered = record {
    full = waits.checking.full;
    invalid = unanswered.invalid;
    quiet = due-none start (runs_sound mac answers (path_theorem mac answers) first start s u before fresh led) role waits.checking.full unanswered.calm;
  }

  pub open-rounds-select : AnsweredRoundsSelect {H = H} {P = P} mac answers → AnsweredOpenRoundsSelect mac answers
  open-rounds-select plain first s log fresh before start last rounds p at by part began waits unanswered passing answered role enough =
      elim enough [
        | inl (few, polls) ↦ inl (plain first s log fresh before start last rounds p at by part began waits unanswered
            (λ r has. (let k = passing r has in record {
              comes = k.comes;
              done = k.done;
              late = (let late = k.late in omega (arith, late));
              early = (let early = k.early in omega (arith, early));
              between = λ x there. search (polls r has x there);
              met = λ id out. search (answered r has id out);
            }))
            role (omega (arith, few)))
        | inr many ↦ elim (reached-unless mac answers (IsQuiet mac answers) (Accepts mac answers) (no_agent mac answers) (no_call mac answers) (quiet-in-turn mac answers) first s log fresh before start last rounds p by 0 part (record {
          at = at;
          began = began;
          line = lined-unanswered at by start p waits unanswered;
          passing = passing;
          lasting = λ r has. lasts r.now;
          enough = subst (λ n. checks_for (is_modern start.timing) n ≤ length rounds + 1 + checks_for (is_modern start.timing) start.next_number) (none-more (2 * length start.pairs + last.next_number)) (omega (arith, many));
        }) (paid-none mac answers (entries_of rounds)) (quiet-at first s part.at before start p at by fresh part.led (starts-controlling mac answers before start last part.at part.following (entries_of rounds) part.run role) waits unanswered)) [
          | inl (x, has, success) ↦ inl (selects (x, has, success))
          | inr (inl (r, id, has, out)) ↦ inl (let x = answered r has id out in selects (x.0, in_entries rounds r x.0 has x.1, x.2))
          | inr (inr (inl is)) ↦ inl (selects (success-is (entries_of rounds) (path_of start p) is))
          | inr (inr (inr ended)) ↦ inr ended
        ]
      ] where
        lasts : (m : ℕ) → IsLasting m start p
        lasts m valid = let no : true ≡ false = sym valid ∙ search (unanswered.invalid p waits.there) in absurd (cc)

        selects : (x : Logged P) × Has (entries_of rounds) x × BringsSuccess x → SegmentSelects mac answers first s log (entries_of rounds)
        selects (x, has, success) =
            elim (walk first s log fresh (entries_of rounds) (is_modern start.timing) before start last part.at part.following part.rest (entries_of rounds) part.split (λ y there. there) (of_rounds (is_modern start.timing) by rounds passing) part.led part.run role
            (record { full = waits.checking.full; invalid = unanswered.invalid; unanswered = λ y none success. none })) [
              | inl selected_paths ↦ selected_paths
              | inr w ↦ absurd (w.unanswered x has success)
            ]

  -- ---- from the first `handle_timeout` call on by which the pair is due

  pub due-rounds-select : AnsweredDueRoundsSelect mac answers
  due-rounds-select first s log fresh before start second last r later p by one others waits unanswered from comes done between passing answered role role_later enough =
      elim (due-unless mac answers (Accepts mac answers) (IsQuiet mac answers) (no_agent mac answers) (no_call mac answers) (quiet-in-turn mac answers)
      (IsQuiet mac answers) (no_agent mac answers) (no_call mac answers) (quiet-in-turn mac answers) first s log fresh before start second last r later p by 0 one others
      (lined-unanswered r.now by start p waits unanswered)
      (quiet-at first s one.at before start p r.now by fresh one.led (starts-controlling mac answers before start second one.at one.following (entries_of (r ∷ [])) one.run role) waits unanswered) (λ still. still)
      (omega (arith, from)) comes done (λ x has. between x has) (λ x has. passing x has) (λ x has. lasts x.now) (of_enough enough) (paid-none mac answers (entries_of later))) [
        | inl (inl (x, has, success)) ↦ inl (in-first (x, has, success))
        | inl (inr (x, has, success)) ↦ inl (in-later (x, has, success))
        | inr (inl (inl (x, id, inl is, out))) ↦ inl (in-first (in-round (r ∷ []) r (inl refl) (search (answered r (inl refl) id (ap (λ (z : LoggedRound P). z.timeout.entry.emitted.issued) is ∙ out)))))
        | inr (inl (inl (x, id, inr none, out))) ↦ absurd none
        | inr (inl (inr (inl is))) ↦ inl (in-first (success-is (entries_of (r ∷ [])) (path_of start p) is))
        | inr (inl (inr (inr ended))) ↦ inr (inl ended)
        | inr (inr (inl (x, id, has, out))) ↦ inl (in-later (in-round later x has (search (answered x (inr has) id out))))
        | inr (inr (inr (inl is))) ↦ inl (in-later (success-is (entries_of later) (path_of start p) is))
        | inr (inr (inr (inr ended))) ↦ inr (inr ended)
      ] where
        lasts : (m : ℕ) → IsLasting m start p
        lasts m valid = let no : true ≡ false = sym valid ∙ search (unanswered.invalid p waits.there) in absurd (cc)

        all : List (Logged P)
        all = entries_of later ++ entries_of (r ∷ [])

        of_enough : SufficesFromDue start second last (length later) 0 → SufficesFromDue start second last (length later) 0
        of_enough (inl few) = inl (omega (arith, few))
        of_enough (inr many) = inr (omega (arith, many))

        front : (xs ys : List (Logged P)) (x : Logged P) → Has xs x → Has (xs ++ ys) x
        front [] ys x h = absurd h
        front (y ∷ xs) ys x (inl e) = inl e
        front (y ∷ xs) ys x (inr h) = inr (front xs ys x h)

        rear : (xs ys : List (Logged P)) (x : Logged P) → Has ys x → Has (xs ++ ys) x
        rear [] ys x h = h
        rear (y ∷ xs) ys x h = inr (rear xs ys x h)

        of_first : (x : Logged P) → Has (entries_of (r ∷ [])) x → IsOfRound (is_modern start.timing) x
        of_first x has = elim (either_has r.following (r.timeout ∷ []) x has) [
          | inl following ↦ inl (between x following)
          | inr (inl is) ↦ inr (r.now, ap (λ (y : Logged P). y.call) (sym is) ∙ comes)
          | inr (inr none) ↦ absurd none
        ]

        begin : Waits [] start
        begin = record { full = waits.checking.full; invalid = unanswered.invalid; unanswered = λ y none success. none }

        -- after the first round no pair is valid, or a path is selected in it
        after-first : SegmentSelects mac answers first s log all ⊎ Waits (entries_of (r ∷ [])) second
        after-first = walk first s log fresh all (is_modern start.timing) before start second one.at one.following one.rest (entries_of (r ∷ [])) one.split (λ y there. rear (entries_of later) (entries_of (r ∷ [])) y there) of_first one.led one.run role begin

        in-round : (rounds : List (LoggedRound P)) (x : LoggedRound P) → Has rounds x → (y : Logged P) × Has x.following y × BringsSuccess y → (y : Logged P) × Has (entries_of rounds) y × BringsSuccess y
        in-round rounds x has (y, there, success) = (y, in_entries rounds x y has there, success)

        in-first : (x : Logged P) × Has (entries_of (r ∷ [])) x × BringsSuccess x → SegmentSelects mac answers first s log all
        in-first (x, has, success) = elim after-first [
          | inl selected_paths ↦ selected_paths
          | inr w ↦ absurd (w.unanswered x has success)
        ]

        in-later : (x : Logged P) × Has (entries_of later) x × BringsSuccess x → SegmentSelects mac answers first s log all
        in-later (x, has, success) = elim after-first [
          | inl selected_paths ↦ selected_paths
          | inr w ↦
              elim (walk first s log fresh all (is_modern start.timing) (entries_of (r ∷ []) ++ before) second last others.at others.following others.rest (entries_of later) others.split (λ y there. front (entries_of later) (entries_of (r ∷ [])) y there)
              (of_rounds (is_modern start.timing) by later passing) others.led others.run role_later (record { full = w.full; invalid = w.invalid; unanswered = λ y none success. none })) [
                | inl selected_paths ↦ selected_paths
                | inr v ↦ absurd (v.unanswered x has success)
              ]
        ]
