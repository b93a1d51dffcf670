-- A `handle_timeout` call of a controlling agent without a valid pair, with or without `poll_timeout` before it: the
-- pair that is due first is checked, or another one that goes ahead, and a waiting pair is due as it was.
use Rattle.is_stun.specs.declared.header.Class.TheVariants as class
use Rattle.is_theorems.proofs.Common.{[], ◌+◌, ◌<◌, ◌∙◌, ◌≡◌, ◌≤◌, ◌⊎◌, AgentRecord, all_scheduled, AllBelow, ap, arith, scheduled, at_timeout}
use Rattle.is_theorems.proofs.Common.{Awaits, below-each, Bool, CandidateRecord, change_at, change_pair, checked, checked-later, ChecksOn}
use Rattle.is_theorems.proofs.Common.{ChecksTop, Done, due_by, due_time_of, Emitted, evaluated, expired_gone, false, filter, HandleTimeout}
use Rattle.is_theorems.proofs.Common.{Has, IceAgentEvent, IceCreds, if◌then◌else◌, inl, inr, is_due_by, is_expired, is_modern, is_numbered}
use Rattle.is_theorems.proofs.Common.{is_some, IsChecking, IsPaced, IsSound, Issued, issued_as, IsUnanswered, length, List, list_any}
use Rattle.is_theorems.proofs.Common.{MaintainsPairs, map, MAX, MayCheck, min, nat_lt, nat_tests, NextTimeout, no-more, no-more-pass}
use Rattle.is_theorems.proofs.Common.{Nominates, nominates_at_once, None, not, Ok, Option, Packet, PairRecord, Passes, Path, path_of}
use Rattle.is_theorems.proofs.Common.{PollsTimeout, PollTimeout, quiet, refl, RemovesExpired, renominated, Some, some-pass, Stream}
use Rattle.is_theorems.proofs.Common.{StunTiming, subst, suc, sym, thinner, timeout_begun, true, unanswered_count, ℕ}
use Rattle.is_theorems.proofs.CallEffects.PathAndTradeEffects.{path_theorem}
use Rattle.is_theorems.proofs.RuleEffects.UnchangedSettings.{either}
use Rattle.is_theorems.proofs.RuleEffects.ChangedPairs.{Has-map}
use Rattle.is_theorems.proofs.RuleEffects.EarlierAndNewPairs.{Has-filter}
use Rattle.is_theorems.proofs.DuePairs.AfterNominationAndRemoval.{Distinct, Base, base_of as agent_base, expires-has, answered-if}
use Rattle.is_theorems.proofs.DuePairs.AfterNominationAndRemoval.{answered_at}
use Rattle.is_theorems.proofs.DuePairs.ChecksAhead.{calls_left, Falls, falls-from, calls-kept, calls-go-on, calls-some}
use Rattle.is_theorems.proofs.DuePairs.FirstDuePair.{Follows, le-from, le-is, same-path, WaitsOn, NoneAtCheck, NoneAtOnce, next-check}
use Rattle.is_theorems.proofs.DuePairs.FirstDuePair.{check-moves, timeout-follows}
use Rattle.is_theorems.proofs.DuePairs.PollingCycles.{none-left, maintains_pairs-from, distinct-sound}
use Rattle.is_theorems.proofs.DuePairs.AfterPackets.{NoneValid, Held}
use Rattle.is_theorems.proofs.DuePairs.NoNominationDue.{NoneIsDue, Quiet, due-none, nominates-nothing, none-at-check, quiet-call}
use Rattle.is_theorems.proofs.DuePairs.NoNominationDue.{quiet-timeout}
use Rattle.is_theorems.proofs.BasicLemmas.PairsInTurn.{by-begins, sent_at, pairs-sent}
use Rattle.is_theorems.proofs.RuleEffects.PathsThatAreLeft.{none-valid-left}

lt-is : (n m : ℕ) → n < m → nat_lt n m ≡ true
lt-is n m h = grind (arith, nat_tests, h)

-- a stream of zeros
undrawn : Stream
undrawn = record { u32_after = λ calls. 0; u64_after = λ calls. 0; bytes_after = λ calls n. [] }

none-over : (x : ℕ) → x + 0 ≤ x
none-over x = omega arith

-- a sublist
record Sifted (xs ys : List PairRecord) : Type 0 where
  sub : (p : PairRecord) → Has ys p → Has xs p
  fewer : (test : PairRecord → Bool) → length (filter test ys) ≤ length (filter test xs)

module _ {H P : Type 0} where
  -- ---- nothing is nominated

  expires-sifts : (now : ℕ) (old new : AgentRecord H P) (path : Option Path) → NoneValid old.pairs → RemovesExpired now old path new
      → (agent_base new ≡ agent_base old) × Sifted old.pairs new.pairs
  expires-sifts now old new path none h = either (list_any (is_expired now old) old.pairs) h
      (λ _ k. (
      let same : k.0 ≡ expired_gone now old = nominates-nothing (expired_gone now old) k.0 path (λ p has. none p (Has-filter (λ q. not (is_expired now old q)) old.pairs p has)) k.1 in
      subst (λ (a : AgentRecord H P). (agent_base a ≡ agent_base old) × Sifted old.pairs a.pairs) (sym (k.2 ∙ ap (λ (a : AgentRecord H P). evaluated now a) same)) (
        refl,
        record {
          sub = λ p has. Has-filter (λ q. not (is_expired now old q)) old.pairs p has;
          fewer = λ test. thinner test (λ q. not (is_expired now old q)) old.pairs;
        },
      )))
      (λ _ k. subst (λ (a : AgentRecord H P). (agent_base a ≡ agent_base old) × Sifted old.pairs a.pairs) (sym k.1) (
        refl,
        record { sub = λ p has. has; fewer = λ test. omega arith },
      ))

  module _ (mac : H → List ℕ → List ℕ → List ℕ) where
    -- ---- the check

    check-held : (now by : ℕ) (remote : Option IceCreds) (old new : AgentRecord H P) (s t : Stream) (issued : Option Issued) → is_some remote ≡ true → old.lite ≡ false
        → IsPaced old.timing → by ≤ now → now < MAX → MayCheck mac now remote old s issued new t → Held by now old.timing new.pairs
    check-held now by remote old new s t issued known full paced from early h = let k = next-check mac now remote old new s t issued known full h in by-next k.0 k.1 k.3 where
      fixed : Held by now old.timing (map (scheduled now old.timing) old.pairs)
      fixed q has m above le =
          let o = Has-map (scheduled now old.timing) old.pairs q has in
          subst (λ (x : PairRecord). due_time_of now old.timing x ≤ by) o.2 (subst (λ (x : PairRecord). due_time_of m old.timing x ≤ by) (sym o.2) le)

      begins : Bool
      begins = nominates_at_once (all_scheduled now old)

      change : List ℕ → PairRecord → PairRecord
      change id x = sent_at begins now old.timing old.controlling id x

      follows-check : (id : List ℕ) (x : PairRecord) (m : ℕ) → by < m → due_time_of m old.timing (checked now old.timing old.controlling id x) ≤ by → ⊥
      follows-check id x m above le =
          let least : min now m < due_time_of m old.timing (checked now old.timing old.controlling id x) = checked-later now m old.timing old.controlling id x paced early in
          later (due_time_of m old.timing (checked now old.timing old.controlling id x)) least le where
            later : (d : ℕ) → min now m < d → d ≤ by → ⊥
            later d least le = omega (arith, least, le, from, above)

      following : (id : List ℕ) (x : PairRecord) (m : ℕ) → by < m → due_time_of m old.timing (change id x) ≤ by → ⊥
      following id x m above = by-begins begins (λ y. due_time_of m old.timing y ≤ by → ⊥) now old.timing old.controlling id x
          (follows-check id (renominated x) m above) (follows-check id x m above)

      once : (n : ℕ) (id : List ℕ) (x : PairRecord) → Has (map (scheduled now old.timing) old.pairs) x → (m : ℕ) → by < m → (b : Bool)
          → due_time_of m old.timing (if b then change id x else x) ≤ by
          → due_time_of now old.timing (if b then change id x else x) ≤ by
      once n id x has m above true le = absurd (following id x m above le)
      once n id x has m above false le = fixed x has m above le

      by-next : (peer : IceCreds) (next : Option PairRecord) → ChecksTop mac now peer next (all_scheduled now old) s issued new t → Held by now old.timing new.pairs
      by-next peer None (is, made, drawn) = subst (λ ps. Held by now old.timing ps) (sym (ap (λ (a : AgentRecord H P). a.pairs) made)) fixed
      by-next peer (Some q) (id, drawn, values, is, made) =
          subst (λ ps. Held by now old.timing ps) (sym (pairs-sent mac now peer q id (all_scheduled now old) new made)) changed where
            changed : Held by now old.timing (change_pair q.number (change id) (map (scheduled now old.timing) old.pairs))
            changed r has m above le =
                let o = Has-map (change_at q.number (change id)) (map (scheduled now old.timing) old.pairs) r has in
                subst (λ (x : PairRecord). due_time_of now old.timing x ≤ by) o.2
                (once q.number id o.0 o.1 m above (is_numbered q.number o.0) (subst (λ (x : PairRecord). due_time_of m old.timing x ≤ by) (sym o.2) le))

    -- ---- the `handle_timeout` call

    -- what it leaves of the pairs: due as computed at it, and the waiting pair is due whenever its due time is
    -- computed
    abbrev ChecksFirst : ℕ → ℕ → AgentRecord H P → Emitted → AgentRecord H P → PairRecord → Type 0
    ChecksFirst now by old emitted new p =
        (o : PairRecord) × Has old.pairs o × ChecksOn old emitted o
        × ((o ≡ p) ⊎ WaitsOn mac (NoneAtOnce now old) now by (length (due_by by now old.timing old.pairs)) old new p)

    checks-first : (now by : ℕ) (old new : AgentRecord H P) (s t : Stream) (emitted : Emitted) → is_some old.remote_creds ≡ true → old.lite ≡ false → Distinct old.pairs → NoneValid old.pairs
        → by ≤ now → (p : PairRecord) → Has old.pairs p → answered_at old p now ≡ true → nat_lt (unanswered_count p.checks) old.timing.max_retransmits ≡ true → due_time_of now old.timing p ≤ by
        → IsPaced old.timing → now < MAX → MaintainsPairs mac now old s emitted new t → ChecksFirst now by old emitted new p × Held by now old.timing new.pairs
    checks-first now by old new s t emitted known full distinct none from p has answered young due paced early (first, second, issued, named, kept, nominating, giving, checking, is) =
        let same : named ≡ at_timeout now old = nominates-nothing (at_timeout now old) named first none
        (subst (λ (a : AgentRecord H P). Nominates a first named) (none-valid-left now (at_timeout now old) none) nominating) in
        let gives : RemovesExpired now (at_timeout now old) second kept = subst (λ (a : AgentRecord H P). RemovesExpired now a second kept) same giving in
        let g = expires-sifts now (at_timeout now old) kept second none gives in
        let k = expires-has now (at_timeout now old) kept second full gives p has answered young in
        let one : k.0 ≡ p = distinct k.0 p (g.1.sub k.0 k.1) has k.2.number in
        let timing : kept.timing ≡ old.timing = ap (λ (x : Base). x.timing) g.0 in
        let known_kept : is_some kept.remote_creds ≡ true = ap (λ (x : Base). is_some x.remote_creds) g.0 ∙ known in
        let full_kept : kept.lite ≡ false = ap (λ (x : Base). x.lite) g.0 ∙ full in (
          on-kept kept issued (λ turn. turn first second named kept nominating giving) g.0 g.1 (ap (λ (x : Emitted). x.issued) is)
              (check-moves mac now by (length (due_by by now old.timing old.pairs)) kept (λ x y has_x has_y. distinct x y (g.1.sub x has_x) (g.1.sub y has_y)) from
              p (subst (λ (q : PairRecord). Has kept.pairs q) one k.1) (subst (λ (x : StunTiming). due_time_of now x p ≤ by) (sym timing) due) (counted kept timing g.1)
              new s t issued kept.remote_creds known_kept full_kept checking),
          subst (λ (x : StunTiming). Held by now x new.pairs) timing
              (check-held now by kept.remote_creds kept new s t issued known_kept full_kept (subst (λ (x : StunTiming). IsPaced x) (sym timing) paced) from early checking),
        ) where
          counted : (kept : AgentRecord H P) → kept.timing ≡ old.timing → Sifted old.pairs kept.pairs
              → length (due_by by now kept.timing (map (scheduled now kept.timing) kept.pairs)) ≤ length (due_by by now old.timing old.pairs)
          counted kept timing sifted =
              let all : length (due_by by now kept.timing (map (scheduled now kept.timing) kept.pairs)) ≤ length (due_by by now kept.timing kept.pairs) =
              no-more (is_due_by by now kept.timing) (is_due_by by now kept.timing) (scheduled now kept.timing) kept.pairs (λ q there is. is) in
              let less : length (due_by by now kept.timing kept.pairs) ≤ length (due_by by now old.timing old.pairs) =
              subst (λ (x : StunTiming). length (due_by by now x kept.pairs) ≤ length (due_by by now old.timing old.pairs)) (sym timing) (sifted.fewer (is_due_by by now old.timing)) in
              omega (arith, all, less)

          on-kept : (kept : AgentRecord H P) (issued : Option Issued) → (NoneAtOnce now old → NoneAtCheck now kept) → agent_base kept ≡ agent_base (at_timeout now old) → Sifted old.pairs kept.pairs → emitted.issued ≡ issued
              → (o : PairRecord) × Has kept.pairs o × ((id : List ℕ) × (issued ≡ Some (issued_as (path_of kept o) class.Request id)))
              × ((o ≡ p) ⊎ WaitsOn mac (NoneAtCheck now kept) now by (length (due_by by now old.timing old.pairs)) kept new p)
              → ChecksFirst now by old emitted new p
          on-kept kept issued none-now base sifted issues (o, there, (id, out), which) = (
            o,
            sifted.sub o there,
            (
              id,
              issues ∙ (out ∙ ap (λ w. Some (issued_as w class.Request id))
                  (same-path old kept o o (ap (λ (x : Base). x.local) base) (ap (λ (x : Base). x.remote) base) (record { number = refl; local = refl; remote = refl; valid = refl }))),
            ),
            elim which [
              | inl one ↦ inl one
              | inr (r, r_there, matches, checks, r_due, fewer) ↦
                  (let timing : kept.timing ≡ old.timing = ap (λ (x : Base). x.timing) base in
                  inr (
                    r,
                    r_there,
                    matches,
                    checks,
                    (λ at. subst (λ (x : StunTiming). due_time_of at x r ≤ by) timing (r_due at)),
                    subst (λ (x : StunTiming). NoneAtOnce now old → IsPaced x → now < MAX
                        → Falls (is_modern old.timing) old.ahead_turn new.ahead_turn (length (due_by by now old.timing old.pairs)) (length (due_by by now x new.pairs))) timing
                        (λ turn is_paced is_early. falls-from (is_modern kept.timing) (is_modern old.timing) kept.ahead_turn old.ahead_turn new.ahead_turn
                        (length (due_by by now old.timing old.pairs)) (length (due_by by now old.timing old.pairs)) (length (due_by by now kept.timing new.pairs))
                        (ap (λ (x : Base). is_modern x.timing) (sym base)) (ap (λ (x : Base). x.ahead_turn) (sym base)) (omega arith) (fewer (none-now turn) is_paced is_early)),
                  ))
            ],
          )

  pub polled-sound : (a : AgentRecord H P) (waiting : List Packet) (left : List IceAgentEvent) → IsSound a → IsSound (record a { packets = waiting; events = left })
  polled-sound a waiting left s = record {
    placed = s.placed;
    rising = s.rising;
    below = s.below;
    selected_paths = s.selected_paths;
    started = s.started;
    consented = s.consented;
    checks = s.checks;
    queued = s.queued;
    based = s.based;
  }

  -- a controlling agent that checks pairs, and has no valid one
  pub record Calm (a : AgentRecord H P) : Type 0 where
    pub sound : IsSound a
    pub distinct : Distinct a.pairs
    pub checking : IsChecking a
    pub queue : a.queue ≡ []
    pub below : AllBelow a.next_number a.pairs
    pub invalid : NoneValid a.pairs
    pub role : a.controlling ≡ true
    pub quiet : NoneIsDue a

  pub calm-quiet : (a : AgentRecord H P) → Calm a → Quiet a
  calm-quiet a calm = record { full = calm.checking.full; invalid = calm.invalid; quiet = calm.quiet }

  -- A pair of the path is due by a time, computed now, and k rounds are over. One fewer than n suffice.
  pub record Persists (by n : ℕ) (path : Path) (now k : ℕ) (a : AgentRecord H P) : Type 0 where
    pub calm : Calm a
    pub paced : IsPaced a.timing
    pub pair : PairRecord
    pub there : Has a.pairs pair
    pub young : nat_lt (unanswered_count pair.checks) a.timing.max_retransmits ≡ true
    pub due : due_time_of now a.timing pair ≤ by
    pub placed : pair.remote < length a.remote
    pub on : path_of a pair ≡ path
    pub count : calls_left (is_modern a.timing) a.ahead_turn (length (due_by by now a.timing a.pairs)) + k ≤ n

  -- A pair of the path is due by a time, after a `handle_timeout` call and whenever this is computed, and k rounds are over.
  pub record Waits (by n : ℕ) (path : Path) (at k : ℕ) (a : AgentRecord H P) : Type 0 where
    pub calm : Calm a
    pub last : a.last_time ≡ Some at
    pub paced : IsPaced a.timing
    pub pair : PairRecord
    pub there : Has a.pairs pair
    pub young : nat_lt (unanswered_count pair.checks) a.timing.max_retransmits ≡ true
    pub due : (m : ℕ) → by < m → due_time_of m a.timing pair ≤ by
    pub held : Held by at a.timing a.pairs
    pub placed : pair.remote < length a.remote
    pub on : path_of a pair ≡ path
    pub count : calls_left (is_modern a.timing) a.ahead_turn (length (due_by by at a.timing a.pairs)) + k ≤ n

  pub persists : (by n : ℕ) (path : Path) (at k now : ℕ) (a : AgentRecord H P) → by < now → Waits by n path at k a → Persists by n path now k a
  persists by n path at k now a late w = record {
    calm = w.calm;
    paced = w.paced;
    pair = w.pair;
    there = w.there;
    young = w.young;
    due = w.due now late;
    placed = w.placed;
    on = w.on;
    count = (let less = no-more-pass (is_due_by by at a.timing) (is_due_by by now a.timing) a.pairs
        (λ q has is. le-is (due_time_of at a.timing q) by (w.held q has now late (le-from (due_time_of now a.timing q) by is))) in
        calls-kept (is_modern a.timing) a.ahead_turn (length (due_by by at a.timing a.pairs)) (length (due_by by now a.timing a.pairs)) k n less w.count);
  }

  -- once all rounds are over, no pair waits
  pub never : (by n : ℕ) (path : Path) (at k : ℕ) (a : AgentRecord H P) → by < at → Waits by n path at k a → n ≤ k + 1 → ⊥
  never by n path at k a following w enough =
      let some : 0 < length (due_by by at a.timing a.pairs) = some-pass (is_due_by by at a.timing) a.pairs w.pair w.there (le-is (due_time_of at a.timing w.pair) by (w.due at following)) in
      over (calls_left (is_modern a.timing) a.ahead_turn (length (due_by by at a.timing a.pairs)))
      (calls-some (is_modern a.timing) a.ahead_turn (length (due_by by at a.timing a.pairs)) some) w.count enough where
        over : (left : ℕ) → 2 ≤ left → left + k ≤ n → n ≤ k + 1 → ⊥
        over left some counted enough = omega (arith, some, counted, enough)

  module _ (mac : H → List ℕ → List ℕ → List ℕ) (answers : P → CandidateRecord → ℕ → ℕ → Type 0) where
    pub begins : (now by : ℕ) (a : AgentRecord H P) (p : PairRecord) → IsSound a → a.controlling ≡ true → Awaits now by a p → IsUnanswered a p
        → Persists by (calls_left (is_modern a.timing) a.ahead_turn (length (due_by by now a.timing a.pairs))) (path_of a p) now 0 a
    begins now by a p sound role waits unanswered = record {
      calm = record {
        sound = sound;
        distinct = distinct-sound mac a sound;
        checking = waits.checking;
        queue = waits.queue;
        below = below-each a.next_number a.pairs sound.below;
        invalid = unanswered.invalid;
        role = role;
        quiet = due-none a sound role waits.checking.full unanswered.calm;
      };
      paced = waits.paced;
      pair = p;
      there = waits.there;
      young = lt-is (unanswered_count p.checks) a.timing.max_retransmits (let young = unanswered.young in omega (arith, young));
      due = (let due = waits.due in omega (arith, due));
      placed = (sound.placed p waits.there).1;
      on = refl;
      count = none-over (calls_left (is_modern a.timing) a.ahead_turn (length (due_by by now a.timing a.pairs)));
    }

    pub asked-sound : (old new : AgentRecord H P) (deadline : Option ℕ) → IsSound old → PollsTimeout old deadline new → IsSound new
    asked-sound old new deadline sound polls = (path_theorem mac answers old new undrawn undrawn PollTimeout (quiet (NextTimeout deadline)) sound tt (deadline, refl, polls, refl)).1

    pub asked-quiet : (old new : AgentRecord H P) (deadline : Option ℕ) → IsSound old → Quiet old → PollsTimeout old deadline new → NoneIsDue new
    asked-quiet old new deadline sound q polls = elim (quiet-call mac answers PollTimeout (quiet (NextTimeout deadline)) old new undrawn undrawn refl sound tt q (deadline, refl, polls, refl)) [
      | inl (at, via, m, none, success) ↦ absurd none
      | inr after ↦ after.quiet
    ]

    -- what stays of the agent
    pub record Passed (now : ℕ) (old new : AgentRecord H P) : Type 0 where
      pub calm : Calm new
      pub last : new.last_time ≡ Some now
      pub timing : new.timing ≡ old.timing
      pub local : new.local ≡ old.local
      pub remote : new.remote ≡ old.remote
      pub rules : is_modern new.timing ≡ is_modern old.timing

    pub passed : (now : ℕ) (emitted : Emitted) (old new : AgentRecord H P) → Calm old → Passes mac old now emitted new → Passed now old new
    passed now emitted old new calm pass =
        let m = timeout-follows mac now (timeout_begun now old) pass.after pass.before pass.following emitted calm.checking.peer calm.checking.full
        (maintains_pairs-from mac now old pass.before pass.following emitted pass.after calm.queue pass.timeout) in
        let taken : agent_base new ≡ agent_base pass.after = ap (λ (a : AgentRecord H P). agent_base a) pass.taken in
        let follows : Follows old.pairs new.pairs = subst (λ ps. Follows old.pairs ps) (sym (ap (λ (a : AgentRecord H P). a.pairs) pass.taken)) m.1 in
        let after : IsSound pass.after = (path_theorem mac answers old pass.after pass.before pass.following (HandleTimeout now) (record { answer = Done; emitted = emitted }) calm.sound tt
        (Ok tt, emitted, refl, pass.timeout)).1 in
        let past : Quiet pass.after = quiet-timeout mac answers now (record { answer = Done; emitted = emitted }) old pass.after pass.before pass.following calm.sound (calm-quiet old calm)
        (Ok tt, emitted, refl, pass.timeout) in
        let quiet : NoneIsDue new = subst (λ (a : AgentRecord H P). NoneIsDue a) (sym pass.taken) past.quiet in
        record {
          calm = record {
            sound = subst (λ (a : AgentRecord H P). IsSound a) (sym pass.taken) (polled-sound pass.after pass.waiting pass.left after);
            distinct = follows.distinct calm.distinct;
            checking = record {
              full = ap (λ (x : Base). x.lite) taken ∙ (ap (λ (x : Base). x.lite) m.0 ∙ calm.checking.full);
              peer = ap (λ (x : Base). is_some x.remote_creds) taken ∙ (ap (λ (x : Base). is_some x.remote_creds) m.0 ∙ calm.checking.peer);
            };
            queue = ap (λ (x : Base). x.queue) taken ∙ (ap (λ (x : Base). x.queue) m.0 ∙ none-left now old.timing old.remote_creds old.queue calm.queue);
            below = λ q has. (let o = follows.back q has in
                let was : o.0.number < old.next_number = calm.below o.0 o.1 in
                let same : q.number ≡ o.0.number = o.2.number in
                let next : new.next_number ≡ old.next_number = ap (λ (x : Base). x.next_number) taken ∙ ap (λ (x : Base). x.next_number) m.0 in
                omega (arith, was, same, next));
            invalid = λ q has. (let o = follows.back q has in o.2.valid ∙ calm.invalid o.0 o.1);
            role = ap (λ (x : Base). x.controlling) taken ∙ (ap (λ (x : Base). x.controlling) m.0 ∙ calm.role);
            quiet = quiet;
          };
          last = ap (λ (x : Base). x.last_time) taken ∙ ap (λ (x : Base). x.last_time) m.0;
          timing = ap (λ (x : Base). x.timing) taken ∙ ap (λ (x : Base). x.timing) m.0;
          local = ap (λ (x : Base). x.local) taken ∙ ap (λ (x : Base). x.local) m.0;
          remote = ap (λ (x : Base). x.remote) taken ∙ ap (λ (x : Base). x.remote) m.0;
          rules = ap (λ (x : Base). is_modern x.timing) taken ∙ ap (λ (x : Base). is_modern x.timing) m.0;
        }

    -- a check is sent on the path, or the pair still waits, with one fewer before it, or after a check that went ahead
    pub pass-on : (by n : ℕ) (path : Path) (now k : ℕ) (emitted : Emitted) (old new : AgentRecord H P) → Persists by n path now k old → by < now → now < MAX → Passes mac old now emitted new
        → ((id : List ℕ) × (emitted.issued ≡ Some (issued_as path class.Request id))) ⊎ Waits by n path now (suc k) new
    pass-on by n path now k emitted old new st late early pass =
        let x = passed now emitted old new st.calm pass in
        let m = checks-first mac now by (timeout_begun now old) pass.after pass.before pass.following emitted st.calm.checking.peer st.calm.checking.full st.calm.distinct st.calm.invalid (omega (arith, late))
        st.pair st.there (answered-if old st.pair now st.calm.sound st.there (λ valid. (let no : true ≡ false = sym valid ∙ st.calm.invalid st.pair st.there in absurd (cc)))) st.young st.due st.paced early (maintains_pairs-from mac now old pass.before pass.following emitted pass.after st.calm.queue pass.timeout) in
        by-check x m.0 (subst (λ ps. Held by now old.timing ps) (sym pairs) m.1) where
          pairs : new.pairs ≡ pass.after.pairs
          pairs = ap (λ (a : AgentRecord H P). a.pairs) pass.taken

          by-check : Passed now old new → ChecksFirst mac now by (timeout_begun now old) emitted pass.after st.pair → Held by now old.timing new.pairs
              → ((id : List ℕ) × (emitted.issued ≡ Some (issued_as path class.Request id))) ⊎ Waits by n path now (suc k) new
          by-check x (o, there, (id, out), inl one) held =
              inl (id, out ∙ ap (λ p. Some (issued_as p class.Request id)) (ap (λ (y : PairRecord). path_of old y) one ∙ st.on))
          by-check x (o, there, out, inr (q, q_there, matches, checks, q_due, fewer)) held =
              let falls : Falls (is_modern old.timing) old.ahead_turn new.ahead_turn (length (due_by by now old.timing old.pairs)) (length (due_by by now old.timing new.pairs)) =
              subst (λ (b : Bool). Falls (is_modern old.timing) old.ahead_turn b (length (due_by by now old.timing old.pairs)) (length (due_by by now old.timing new.pairs)))
              (sym (ap (λ (a : AgentRecord H P). a.ahead_turn) pass.taken))
              (subst (λ ps. Falls (is_modern old.timing) old.ahead_turn pass.after.ahead_turn (length (due_by by now old.timing old.pairs)) (length (due_by by now old.timing ps)))
              (sym pairs) (fewer (none-at-check mac now (timeout_begun now old) st.calm.invalid st.calm.quiet) st.paced early)) in
              inr (record {
                calm = x.calm;
                last = x.last;
                paced = subst (λ (t : StunTiming). IsPaced t) (sym x.timing) st.paced;
                pair = q;
                there = subst (λ ps. Has ps q) (sym pairs) q_there;
                young = ap (λ cs. nat_lt (unanswered_count cs) new.timing.max_retransmits) checks
                    ∙ (ap (λ (t : StunTiming). nat_lt (unanswered_count st.pair.checks) t.max_retransmits) x.timing ∙ st.young);
                due = λ at above. subst (λ (t : StunTiming). due_time_of at t q ≤ by) (sym x.timing) (q_due at);
                held = subst (λ (t : StunTiming). Held by now t new.pairs) (sym x.timing) held;
                placed = subst (λ (cs : List CandidateRecord). q.remote < length cs) (sym x.remote) (subst (λ j. j < length old.remote) (sym matches.remote) st.placed);
                on = same-path old new st.pair q x.local x.remote matches ∙ st.on;
                count = subst (λ (t : StunTiming). calls_left (is_modern new.timing) new.ahead_turn (length (due_by by now t new.pairs)) + suc k ≤ n) (sym x.timing)
                    (subst (λ (r : Bool). calls_left r new.ahead_turn (length (due_by by now old.timing new.pairs)) + suc k ≤ n) (sym x.rules)
                    (calls-go-on (is_modern old.timing) old.ahead_turn new.ahead_turn (length (due_by by now old.timing old.pairs)) (length (due_by by now old.timing new.pairs)) k n falls st.count));
              })
