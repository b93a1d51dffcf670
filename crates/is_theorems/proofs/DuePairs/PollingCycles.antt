-- Starvation freedom: a pair that is due is checked within as many polling cycles as there are pairs that are due no
-- later, or within twice as many if checks may go ahead.
use Rattle.is_stun.specs.declared.header.Class.TheVariants as class
use Rattle.is_theorems.proofs.Common.{[], ◌&&◌, ◌+◌, ◌<◌, ◌∙◌, ◌∷◌, ◌≡◌, ◌≤◌, ◌⊎◌, AgentRecord, all-are-scheduled, all_scheduled, ap, arith}
use Rattle.is_theorems.proofs.Common.{Cycle, Cycles, scheduled, at_request, Bool, call_time_of, call_time_with, ChecksInTurn, ChecksOn}
use Rattle.is_theorems.proofs.Common.{Consent, consent_end, consent_of, drop, drop_while, due_by, due_time_of, earliest_call, Emitted}
use Rattle.is_theorems.proofs.Common.{false, filter, first_taken, Has, has_consent, head, IceCreds, inl, inr, is_due_by, is_empty}
use Rattle.is_theorems.proofs.Common.{is_modern, is_outdated, is_pressing, is_some, IsChecking, IsGone, IsIdle, IsOfUse, IsPaced, IsSound}
use Rattle.is_theorems.proofs.Common.{issued_as, least-is, length, length-drop, List, MaintainsPairs, map, MatchOption, MAX, max, min}
use Rattle.is_theorems.proofs.Common.{nat_le, nat_tests, next_request, NextTimeoutFrom, no-more, None, NoPairIsStarved, Ok, Option}
use Rattle.is_theorems.proofs.Common.{PairRecord, path_of, PollsTimeout, queue_left, refl, request_at, RequestRecord, rising-each}
use Rattle.is_theorems.proofs.Common.{ServesQueued, Some, some-pass, soon, Stream, StunTiming, subst, suc, sym, take_while, timeout_begun}
use Rattle.is_theorems.proofs.Common.{timeouts-from, TimeoutsAreOfUse, TimesOut, true, ℕ}
use Rattle.is_theorems.proofs.RuleEffects.UnchangedSettings.{Frame, Turns as SwitchRole, serves}
use Rattle.is_theorems.proofs.RuleEffects.ChangedPairs.{Has-map}
use Rattle.is_theorems.proofs.CallEffects.AddedCandidates.{by_deadline}
use Rattle.is_theorems.proofs.CallEffects.ServedRequests.{Has-mapped}
use Rattle.is_theorems.proofs.RuleEffects.SelectedPaths.{one_pair}
use Rattle.is_rules.proofs.PollsAndResponses.CalmTimeouts.{calm-after}
use Rattle.is_theorems.proofs.DuePairs.AfterNominationAndRemoval.{Distinct, is_fixed_by, Base, base_of, consent-same}
use Rattle.is_theorems.proofs.DuePairs.ConsentAfterTimeouts.{consent-ended, maintains-consents}
use Rattle.is_theorems.proofs.DuePairs.PressingTimeouts.{scheduled-presses, pressing-goes}
use Rattle.is_theorems.proofs.DuePairs.ChecksAhead.{calls_left, Falls, falls-from, calls-fall, calls-some, calls-from}
use Rattle.is_theorems.proofs.DuePairs.FirstDuePair.{Matches, Follows, follows-on, follows-same, follows-map, gone-follows, same-path}
use Rattle.is_theorems.proofs.DuePairs.FirstDuePair.{Moved, timeout-follows, timeout-moves}

le-is : (n m : ℕ) → n ≤ m → nat_le n m ≡ true
le-is n m h = grind (arith, nat_tests, h)

le-from : (n m : ℕ) → nat_le n m ≡ true → n ≤ m
le-from n m h = grind (arith, nat_tests, h)

le-over : (n m : ℕ) → nat_le n m ≡ false → m < n
le-over n m h = grind (arith, nat_tests, h)

some-pairs : (ps : List PairRecord) (p : PairRecord) → Has ps p → is_empty ps ≡ false
some-pairs [] p has = absurd has
some-pairs (q ∷ qs) p has = refl

-- ---- the queue of early requests

none-waits : (now : ℕ) (t : StunTiming) (remote : Option IceCreds) (queue : List RequestRecord) → queue ≡ [] → next_request remote (queue_left now t remote queue) ≡ None
none-waits now t remote queue none = subst (λ q. next_request remote (queue_left now t remote q) ≡ None) (sym none) (by remote) where
  by : (remote : Option IceCreds) → next_request remote (queue_left now t remote []) ≡ None
  by None = refl
  by (Some peer) = refl

pub none-left : (now : ℕ) (t : StunTiming) (remote : Option IceCreds) (queue : List RequestRecord) → queue ≡ [] → queue_left now t remote queue ≡ []
none-left now t remote queue none = subst (λ q. queue_left now t remote q ≡ []) (sym none) (by remote) where
  by : (remote : Option IceCreds) → queue_left now t remote [] ≡ []
  by None = refl
  by (Some peer) = refl

shorter : (xs : List RequestRecord) (q : RequestRecord) → head xs ≡ Some q → length (drop 1 xs) < length xs
shorter [] q is = absurd (cc)
shorter (x ∷ xs) q is = omega arith

front-gone : (test : RequestRecord → Bool) (xs : List RequestRecord) → length (drop_while test xs) ≤ length xs
front-gone test xs = omega (arith, length-drop (length (take_while test xs)) xs)

queue-shorter : (now : ℕ) (t : StunTiming) (remote : Option IceCreds) (queue : List RequestRecord) (q : RequestRecord) → next_request remote (queue_left now t remote queue) ≡ Some q
    → length (drop 1 (queue_left now t remote queue)) < length queue
queue-shorter now t None queue q is = absurd (cc)
queue-shorter now t (Some peer) queue q is =
    let a = shorter (drop_while (is_outdated now t) queue) q is in
    let b = front-gone (is_outdated now t) queue in
    omega (arith, a, b)

none-head : (xs : List RequestRecord) → head xs ≡ None → xs ≡ []
none-head [] is = refl
none-head (x ∷ xs) is = absurd (cc)

queue-gone : (now : ℕ) (t : StunTiming) (remote : Option IceCreds) (queue : List RequestRecord) → is_some remote ≡ true → next_request remote (queue_left now t remote queue) ≡ None
    → queue_left now t remote queue ≡ []
queue-gone now t None queue known is = absurd (cc)
queue-gone now t (Some peer) queue known is = none-head (drop_while (is_outdated now t) queue) is

module _ {H P : Type 0} where
  module _ (mac : H → List ℕ → List ℕ → List ℕ) where
    -- ---- a polling cycle

    -- the state at the beginning of a polling cycle
    pub record Fits (at : ℕ) (a : AgentRecord H P) : Type 0 where
      pub distinct : Distinct a.pairs
      pub checking : IsChecking a
      pub idle : IsIdle a
      pub calm : is_pressing a ≡ false
      pub last : a.last_time ≡ Some at

    -- `poll_timeout` leaves pairs with the same indices
    asks-follow : (at deadline : ℕ) (old new : AgentRecord H P) → old.last_time ≡ Some at → PollsTimeout old (Some deadline) new → (base_of new ≡ base_of old) × Follows old.pairs new.pairs
    asks-follow at deadline old new is h = by_deadline old new at deadline (timeouts-from old new at deadline is h) (λ made. same made) (λ made. changed made) where
      same : new ≡ old → (base_of new ≡ base_of old) × Follows old.pairs new.pairs
      same e = (ap (λ (a : AgentRecord H P). base_of a) e, subst (λ (a : AgentRecord H P). Follows old.pairs a.pairs) (sym e) (follows-same old.pairs))

      changed : new ≡ record old { pairs = map (scheduled at old.timing) old.pairs } → (base_of new ≡ base_of old) × Follows old.pairs new.pairs
      changed e = (
        ap (λ (a : AgentRecord H P). base_of a) e,
        subst (λ (a : AgentRecord H P). Follows old.pairs a.pairs) (sym e)
            (follows-map (scheduled at old.timing) old.pairs (λ p. record { number = refl; local = refl; remote = refl; valid = refl })),
      )

    pub maintains_pairs-from : (now : ℕ) (a : AgentRecord H P) (s t : Stream) (emitted : Emitted) (new : AgentRecord H P) → a.queue ≡ [] → TimesOut mac now a s (Ok tt) emitted new t
        → MaintainsPairs mac now (timeout_begun now a) s emitted new t
    maintains_pairs-from now a s t emitted new none h =
        subst (λ o. MatchOption o (MaintainsPairs mac now (timeout_begun now a) s emitted new t) (λ q. ServesQueued mac q (at_request now (timeout_begun now a)) s emitted new t))
        (none-waits now a.timing a.remote_creds a.queue none) h

    pub cycle-fits : (old new : AgentRecord H P) (at now : ℕ) (emitted : Emitted) → Fits at old → Cycle mac old now emitted new
        → Fits now new × Follows old.pairs new.pairs × (new.timing ≡ old.timing) × (new.local ≡ old.local) × (new.remote ≡ old.remote)
        × (new.controlling ≡ old.controlling) × (new.next_number ≡ old.next_number) × (is_modern new.timing ≡ is_modern old.timing) × (ChecksInTurn old → ChecksInTurn new)
    cycle-fits old new at now emitted f cycle =
        let a = asks-follow at cycle.deadline old cycle.asked f.last cycle.polled in
        let queue : cycle.asked.queue ≡ [] = ap (λ (x : Base). x.queue) a.0 ∙ f.idle.queue in
        let known : is_some cycle.asked.remote_creds ≡ true = ap (λ (x : Base). is_some x.remote_creds) a.0 ∙ f.checking.peer in
        let full : cycle.asked.lite ≡ false = ap (λ (x : Base). x.lite) a.0 ∙ f.checking.full in
        let maintained = maintains_pairs-from now cycle.asked cycle.before cycle.following emitted cycle.after queue cycle.timeout in
        let m = timeout-follows mac now (timeout_begun now cycle.asked) cycle.after cycle.before cycle.following emitted known full maintained in
        let taken : base_of new ≡ base_of cycle.after = ap (λ (a : AgentRecord H P). base_of a) cycle.taken in
        let all = follows-on old.pairs cycle.asked.pairs cycle.after.pairs a.1 m.1 in
        let follows : Follows old.pairs new.pairs = subst (λ ps. Follows old.pairs ps) (sym (ap (λ (a : AgentRecord H P). a.pairs) cycle.taken)) all in (
          record {
            distinct = follows.distinct f.distinct;
            checking = record {
              full = ap (λ (x : Base). x.lite) taken ∙ (ap (λ (x : Base). x.lite) m.0 ∙ full);
              peer = ap (λ (x : Base). is_some x.remote_creds) taken ∙ (ap (λ (x : Base). is_some x.remote_creds) m.0 ∙ known);
            };
            idle = record {
              packets = ap (λ (a : AgentRecord H P). a.packets) cycle.taken;
              queue = ap (λ (x : Base). x.queue) taken ∙ (ap (λ (x : Base). x.queue) m.0 ∙ none-left now cycle.asked.timing cycle.asked.remote_creds cycle.asked.queue queue);
            };
            calm = ap (λ (a : AgentRecord H P). is_pressing a) cycle.taken
                ∙ calm-after mac now (timeout_begun now cycle.asked) cycle.after cycle.before cycle.following emitted full known maintained;
            last = ap (λ (x : Base). x.last_time) taken ∙ ap (λ (x : Base). x.last_time) m.0;
          },
          follows,
          ap (λ (x : Base). x.timing) taken ∙ (ap (λ (x : Base). x.timing) m.0 ∙ ap (λ (x : Base). x.timing) a.0),
          ap (λ (x : Base). x.local) taken ∙ (ap (λ (x : Base). x.local) m.0 ∙ ap (λ (x : Base). x.local) a.0),
          ap (λ (x : Base). x.remote) taken ∙ (ap (λ (x : Base). x.remote) m.0 ∙ ap (λ (x : Base). x.remote) a.0),
          ap (λ (x : Base). x.controlling) taken ∙ (ap (λ (x : Base). x.controlling) m.0 ∙ ap (λ (x : Base). x.controlling) a.0),
          ap (λ (x : Base). x.next_number) taken ∙ (ap (λ (x : Base). x.next_number) m.0 ∙ ap (λ (x : Base). x.next_number) a.0),
          ap (λ (x : Base). is_modern x.timing) taken ∙ (ap (λ (x : Base). is_modern x.timing) m.0 ∙ ap (λ (x : Base). is_modern x.timing) a.0),
          (λ in_turn. ap (λ (x : Base). x.controlling && (x.renominates && is_modern x.timing)) taken
              ∙ (ap (λ (x : Base). x.controlling && (x.renominates && is_modern x.timing)) m.0
              ∙ (ap (λ (x : Base). x.controlling && (x.renominates && is_modern x.timing)) a.0 ∙ in_turn))),
        )

    -- a pair that is due still waits, and one fewer goes before it, or a check went ahead
    abbrev pub StillWaits : ℕ → ℕ → ℕ → AgentRecord H P → AgentRecord H P → PairRecord → Type 0
    StillWaits at now by old new p =
        (q : PairRecord) × Has new.pairs q × Matches p q × (q.checks ≡ p.checks) × (due_time_of now new.timing q ≤ by)
        × (ChecksInTurn old → IsPaced old.timing → now < MAX
        → Falls (is_modern old.timing) old.ahead_turn new.ahead_turn (length (due_by by at old.timing old.pairs)) (length (due_by by now new.timing new.pairs)))

    abbrev pub Does : ℕ → ℕ → ℕ → AgentRecord H P → Emitted → AgentRecord H P → PairRecord → Type 0
    Does at now by old emitted new p =
        IsGone p.number new.pairs ⊎ ((o : PairRecord) × Has old.pairs o × ChecksOn old emitted o × ((o.number ≡ p.number) ⊎ StillWaits at now by old new p))

    -- the `handle_timeout` call after `poll_timeout`
    scheduled-moves : (old new : AgentRecord H P) (s t : Stream) (at now by : ℕ) (emitted : Emitted) → Distinct old.pairs → IsChecking old → old.queue ≡ [] → by ≤ now
        → (p : PairRecord) → Has old.pairs p → due_time_of at old.timing p ≤ by
        → TimesOut mac now (record old { pairs = map (scheduled at old.timing) old.pairs }) s (Ok tt) emitted new t
        → Does at now by old emitted new p
    scheduled-moves old new s t at now by emitted distinct checking queue from p has due h =
        let a : AgentRecord H P = record old { pairs = map (scheduled at old.timing) old.pairs } in
        let f = follows-map (scheduled at old.timing) old.pairs (λ q. record { number = refl; local = refl; remote = refl; valid = refl }) in
        let m = timeout-moves mac now by (timeout_begun now a) new s t emitted checking.peer checking.full (f.distinct distinct)
        (λ q there. (let o = Has-map (scheduled at old.timing) old.pairs q there in ap (λ (x : PairRecord). is_some x.due) (sym o.2)))
        from (scheduled at old.timing p) (Has-mapped (scheduled at old.timing) old.pairs p has) due
        (maintains_pairs-from now a s t emitted new queue h) in
        on-does at now by old new emitted p m where
          counted : (at by : ℕ) (old : AgentRecord H P) → length (filter (is_fixed_by by) (map (scheduled at old.timing) old.pairs)) ≤ length (due_by by at old.timing old.pairs)
          counted at by old = no-more (is_due_by by at old.timing) (is_fixed_by by) (scheduled at old.timing) old.pairs (λ q there is. is)

          on-does : (at now by : ℕ) (old new : AgentRecord H P) (emitted : Emitted) (p : PairRecord)
              → Moved mac now by (timeout_begun now (record old { pairs = map (scheduled at old.timing) old.pairs })) emitted new (scheduled at old.timing p) → Does at now by old emitted new p
          on-does at now by old new emitted p m = elim m.does [
            | inl gone ↦ inl gone
            | inr (o, there, out, which) ↦
                (let x = Has-map (scheduled at old.timing) old.pairs o there in
                let timing : new.timing ≡ old.timing = ap (λ (b : Base). b.timing) m.base in
                inr (
                  x.0,
                  x.1,
                  (out.0, out.1 ∙ ap (λ w. Some (issued_as w class.Request out.0)) (ap (λ (y : PairRecord). path_of old y) (sym x.2))),
                  elim which [
                    | inl same ↦ inl (ap (λ (y : PairRecord). y.number) x.2 ∙ ap (λ (y : PairRecord). y.number) same)
                    | inr (q, q_there, matches, checks, q_due, fewer) ↦
                        (let fewer_old : ChecksInTurn old → IsPaced old.timing → now < MAX
                        → Falls (is_modern old.timing) old.ahead_turn new.ahead_turn (length (due_by by at old.timing old.pairs)) (length (due_by by now old.timing new.pairs)) =
                        λ turn paced early. falls-from (is_modern old.timing) (is_modern old.timing) old.ahead_turn old.ahead_turn new.ahead_turn
                        (length (filter (is_fixed_by by) (map (scheduled at old.timing) old.pairs))) (length (due_by by at old.timing old.pairs))
                        (length (due_by by now old.timing new.pairs)) refl refl (counted at by old) (fewer turn paced early) in
                        inr (
                          q,
                          q_there,
                          record { number = matches.number; local = matches.local; remote = matches.remote; valid = matches.valid },
                          checks,
                          subst (λ (y : StunTiming). due_time_of now y q ≤ by) (sym timing) (q_due now),
                          subst (λ (y : StunTiming). ChecksInTurn old → IsPaced old.timing → now < MAX
                              → Falls (is_modern old.timing) old.ahead_turn new.ahead_turn (length (due_by by at old.timing old.pairs)) (length (due_by by now y new.pairs)))
                              (sym timing) fewer_old,
                        ))
                  ],
                ))
          ]

    pub cycle-moves : (old new : AgentRecord H P) (at now by : ℕ) (emitted : Emitted) → Fits at old → by ≤ now
        → (p : PairRecord) → Has old.pairs p → due_time_of at old.timing p ≤ by → Cycle mac old now emitted new → Does at now by old emitted new p
    cycle-moves old new at now by emitted f from p has due cycle =
        let a = all-are-scheduled old cycle.asked at cycle.deadline f.last f.checking.full f.idle.packets f.idle.queue f.calm (some-pairs old.pairs p has) cycle.polled in
        let m : TimesOut mac now (record old { pairs = map (scheduled at old.timing) old.pairs }) cycle.before (Ok tt) emitted cycle.after cycle.following =
        subst (λ (x : AgentRecord H P). TimesOut mac now x cycle.before (Ok tt) emitted cycle.after cycle.following) a.1 cycle.timeout in
        let d = scheduled-moves old cycle.after cycle.before cycle.following at now by emitted f.distinct f.checking f.idle.queue from p has due m in
        subst (λ (x : AgentRecord H P). Does at now by old emitted x p) (sym cycle.taken) d

    -- ---- one polling cycle after another

    gone-through : (cycles : List (ℕ × Emitted)) (first last : AgentRecord H P) (at n : ℕ) → Fits at first → Cycles mac cycles first last → IsGone n first.pairs → IsGone n last.pairs
    gone-through [] first last at n f is gone = subst (λ (a : AgentRecord H P). IsGone n a.pairs) (sym is) gone
    gone-through (x ∷ rest) first last at n f (mid, cycle, more) gone =
        let k = cycle-fits first mid at x.0 x.1 f cycle in
        gone-through rest mid last x.0 n k.0 more (gone-follows first.pairs mid.pairs n k.1 gone)

    abbrev Reached : List (ℕ × Emitted) → AgentRecord H P → AgentRecord H P → PairRecord → Type 0
    Reached cycles first last p = ((x : ℕ × Emitted) × Has cycles x × ChecksOn first x.1 p) ⊎ IsGone p.number last.pairs

    not-starved : (cycles : List (ℕ × Emitted)) (first last : AgentRecord H P) (p : PairRecord) (at by : ℕ) → Fits at first → ChecksInTurn first → IsPaced first.timing → Has first.pairs p
        → due_time_of at first.timing p ≤ by → ((x : ℕ × Emitted) → Has cycles x → (by ≤ x.0) × (x.0 < MAX)) → Cycles mac cycles first last
        → calls_left (is_modern first.timing) first.ahead_turn (length (due_by by at first.timing first.pairs)) ≤ length cycles + 1 → Reached cycles first last p
    not-starved [] first last p at by f in_turn paced has due timeouts is enough =
        let some : 0 < length (due_by by at first.timing first.pairs) = some-pass (is_due_by by at first.timing) first.pairs p has (le-is (due_time_of at first.timing p) by due) in
        absurd (none-left-over (calls_left (is_modern first.timing) first.ahead_turn (length (due_by by at first.timing first.pairs)))
        (calls-some (is_modern first.timing) first.ahead_turn (length (due_by by at first.timing first.pairs)) some) enough) where
          none-left-over : (n : ℕ) → 2 ≤ n → n ≤ 0 + 1 → ⊥
          none-left-over n some enough = omega (arith, some, enough)
    not-starved (x ∷ rest) first last p at by f in_turn paced has due timeouts (mid, cycle, more) enough =
        let k = cycle-fits first mid at x.0 x.1 f cycle in
        let times_of_call = timeouts x (inl refl) in
        elim (cycle-moves first mid at x.0 by x.1 f times_of_call.0 p has due cycle) [
          | inl gone ↦ inr (gone-through rest mid last x.0 p.number k.0 more gone)
          | inr (o, there, out, inl same) ↦
              (let one : o ≡ p = f.distinct o p there has same in
              inl (x, inl refl, subst (λ (y : PairRecord). ChecksOn first x.1 y) one out))
          | inr (o, there, out, inr (q, q_there, matches, checks, q_due, fewer)) ↦
              onward matches (not-starved rest mid last q x.0 by k.0 (k.8 in_turn) (subst (λ (t : StunTiming). IsPaced t) (sym k.2) paced) q_there q_due (λ y has_y. timeouts y (inr has_y)) more
              (one-call (calls_left (is_modern mid.timing) mid.ahead_turn (length (due_by by x.0 mid.timing mid.pairs)))
              (calls_left (is_modern first.timing) first.ahead_turn (length (due_by by at first.timing first.pairs))) (length rest)
              (subst (λ (r : Bool). calls_left r mid.ahead_turn (length (due_by by x.0 mid.timing mid.pairs)) + 1
              ≤ calls_left (is_modern first.timing) first.ahead_turn (length (due_by by at first.timing first.pairs))) (sym k.7)
              (calls-fall (is_modern first.timing) first.ahead_turn mid.ahead_turn (length (due_by by at first.timing first.pairs)) (length (due_by by x.0 mid.timing mid.pairs))
              (fewer in_turn paced times_of_call.1))) enough))
              (same-path first mid p q k.3 k.4 matches)
        ] where
          one-call : (m n k : ℕ) → m + 1 ≤ n → n ≤ suc k + 1 → m ≤ k + 1
          one-call m n k falls enough = omega (arith, falls, enough)

          onward : {q : PairRecord} → Matches p q → Reached rest mid last q → path_of mid q ≡ path_of first p → Reached (x ∷ rest) first last p
          onward {q = q} matches (inl (y, has_y, (id, out))) path = inl (y, inr has_y, (id, out ∙ ap (λ w. Some (issued_as w class.Request id)) path))
          onward {q = q} matches (inr gone) path = inr (subst (λ n. IsGone n last.pairs) matches.number gone)

    pub distinct-sound : (a : AgentRecord H P) → IsSound a → Distinct a.pairs
    distinct-sound a sound p q has_p has_q same = one_pair a.pairs p q (rising-each a.pairs sound.rising) has_p has_q same

    -- ---- every timeout makes progress

    -- an early request is served, or outdated ones are removed
    queue-of-use : (old asked_old new : AgentRecord H P) (s t : Stream) (now : ℕ) (emitted : Emitted) (first : RequestRecord) (following : List RequestRecord) → base_of asked_old ≡ base_of old → is_some old.remote_creds ≡ true → old.lite ≡ false
        → old.queue ≡ first ∷ following → TimesOut mac now asked_old s (Ok tt) emitted new t → length new.queue < length old.queue
    queue-of-use old asked_old new s t now emitted first following base known full waits h =
        by (request_at now asked_old) refl (let long : length old.queue ≡ suc (length following) = ap length waits in omega (arith, long)) h where
          queue_is : asked_old.queue ≡ old.queue
          queue_is = ap (λ (x : Base). x.queue) base

          by : (o : Option RequestRecord) → request_at now asked_old ≡ o → 0 < length old.queue
              → MatchOption o (MaintainsPairs mac now (timeout_begun now asked_old) s emitted new t) (λ q. ServesQueued mac q (at_request now (timeout_begun now asked_old)) s emitted new t) → length new.queue < length old.queue
          by None is some k =
              let m = timeout-follows mac now (timeout_begun now asked_old) new s t emitted (ap (λ (x : Base). is_some x.remote_creds) base ∙ known) (ap (λ (x : Base). x.lite) base ∙ full) k in
              let none : new.queue ≡ [] = ap (λ (x : Base). x.queue) m.0
              ∙ queue-gone now asked_old.timing asked_old.remote_creds asked_old.queue (ap (λ (x : Base). is_some x.remote_creds) base ∙ known) is in
              subst (λ qs. length qs < length old.queue) (sym none) some
          by (Some q) is some (k, drawn) =
              let less = queue-shorter now asked_old.timing asked_old.remote_creds asked_old.queue q is in
              let kept : new.queue ≡ drop 1 (queue_left now asked_old.timing asked_old.remote_creds asked_old.queue) = switches_role (serves mac q (first_taken (at_request now (timeout_begun now asked_old))) new emitted k) in
              subst (λ n. length new.queue < n) (ap length queue_is) (subst (λ qs. length qs < length asked_old.queue) (sym kept) less) where
                switches_role : SwitchRole mac q (first_taken (at_request now (timeout_begun now asked_old))) emitted new → new.queue ≡ drop 1 (queue_left now asked_old.timing asked_old.remote_creds asked_old.queue)
                switches_role (inl stays) = ap (λ (f : Frame H). f.queue) stays.0
                switches_role (inr (conflict, (frame, out))) = ap (λ (f : Frame H). f.queue) frame

    pub timeouts-are-of-use : TimeoutsAreOfUse P mac
    timeouts-are-of-use old asked_old new s t deadline now emitted sound checking packets some early polls kept h = by-last old.last_time refl polls where
      by-last : (o : Option ℕ) → old.last_time ≡ o → NextTimeoutFrom o old (Some deadline) asked_old → IsOfUse old emitted new
      by-last None is (nothing, same) = absurd (cc)
      by-last (Some at) is k = by-queue old.queue refl where
        polled : PollsTimeout old (Some deadline) asked_old
        polled = polls

        idle : old.queue ≡ [] → is_pressing old ≡ false → IsOfUse old emitted new
        idle none calm =
            let a = all-are-scheduled old asked_old at deadline is checking.full packets none calm some polled in
            let low : earliest_call old at ≤ deadline = below (earliest_call old at) (soon old at) a.0 in
            let p = least-is (call_time_of at old.timing) MAX deadline old.pairs low early in
            let m : TimesOut mac now (record old { pairs = map (scheduled at old.timing) old.pairs }) s (Ok tt) emitted new t =
            subst (λ (x : AgentRecord H P). TimesOut mac now x s (Ok tt) emitted new t) a.1 h in
            elim (woken (consent_of old.timing) refl p.0 p.2) [
              | inl due ↦ use_of p.0 p.1 (scheduled-moves old new s t at now now emitted (distinct-sound old sound) checking none (omega arith) p.0 p.1 (omega (arith, due, kept)) m)
              | inr (c, is_c, ended) ↦ inl (p.0, p.1, inr (ended-goes c is_c p.0 p.1 ended m))
            ] where
              below : (x y : ℕ) → deadline ≡ max x y → x ≤ deadline
              below x y e = omega (arith, e)

              -- the pair is due, or its consent ends
              woken : (o : Option Consent) → consent_of old.timing ≡ o → (p : PairRecord) → call_time_of at old.timing p ≤ deadline
                  → (due_time_of at old.timing p ≤ deadline) ⊎ ((c : Consent) × (consent_of old.timing ≡ Some c) × (consent_end c p ≤ deadline))
              woken None is p le = inl (subst (λ (o : Option Consent). call_time_with o at old.timing p ≤ deadline) is le)
              woken (Some c) is p le = elim (least-of (due_time_of at old.timing p) (consent_end c p) (subst (λ (o : Option Consent). call_time_with o at old.timing p ≤ deadline) is le)) [
                | inl due ↦ inl due
                | inr ends ↦ inr (c, is, ends)
              ] where
                least-of : (x y : ℕ) → min x y ≤ deadline → (x ≤ deadline) ⊎ (y ≤ deadline)
                least-of x y le = by (nat_le x deadline) refl where
                  by : (b : Bool) → nat_le x deadline ≡ b → (x ≤ deadline) ⊎ (y ≤ deadline)
                  by true is = inl (le-from x deadline is)
                  by false is = inr (let over : deadline < x = le-over x deadline is in omega (arith, le, over))

              -- then the call removes it
              ended-goes : (c : Consent) → consent_of old.timing ≡ Some c → (p : PairRecord) → Has old.pairs p → consent_end c p ≤ deadline
                  → TimesOut mac now (record old { pairs = map (scheduled at old.timing) old.pairs }) s (Ok tt) emitted new t → IsGone p.number new.pairs
              ended-goes c is_c p has ended m q there same =
                  let asking : AgentRecord H P = record old { pairs = map (scheduled at old.timing) old.pairs } in
                  let k = maintains-consents mac now (timeout_begun now asking) new s t emitted checking.full (maintains_pairs-from now asking s t emitted new none m) in
                  let o = k.1 q there in
                  let was = Has-map (scheduled at old.timing) old.pairs o.0 o.1 in
                  let one : was.0 ≡ p = distinct-sound old sound was.0 p was.1 has (ap (λ (x : PairRecord). x.number) was.2 ∙ (sym o.2.number ∙ same)) in
                  let has_it : has_consent (consent_of old.timing) now q ≡ true = ap (λ (x : StunTiming). has_consent (consent_of x) now q) (sym k.0) ∙ k.2 q there in
                  let asked_it : has_consent (Some c) now (scheduled at old.timing p) ≡ false = consent-ended c (scheduled at old.timing p) deadline now ended early kept in
                  let same_pair : scheduled at old.timing p ≡ o.0 = ap (scheduled at old.timing) (sym one) ∙ was.2 in
                  let no : true ≡ false =
                  sym has_it ∙ (consent-same (consent_of old.timing) now o.0 q o.2.consented o.2.heard
                  ∙ (ap (λ (r : Option Consent). has_consent r now o.0) is_c ∙ (ap (λ (x : PairRecord). has_consent (Some c) now x) (sym same_pair) ∙ asked_it))) in
                  cc

              use_of : (p : PairRecord) → Has old.pairs p → Does at now now old emitted new p → IsOfUse old emitted new
              use_of p has (inl gone) = inl (p, has, inr gone)
              use_of p has (inr (o, there, out, which)) = inl (o, there, inl out)

        -- a path is to be selected or nominated at once
        pressed : old.queue ≡ [] → is_pressing old ≡ true → IsOfUse old emitted new
        pressed none presses = by_deadline old asked_old at deadline (timeouts-from old asked_old at deadline is polled) (λ made. unfixed made) (λ made. fixed made) where
          unfixed : asked_old ≡ old → IsOfUse old emitted new
          unfixed made =
              let m = maintains_pairs-from now old s t emitted new none (subst (λ (x : AgentRecord H P). TimesOut mac now x s (Ok tt) emitted new t) made h) in
              elim (pressing-goes mac now (timeout_begun now old) new s t emitted checking.peer checking.full (distinct-sound old sound) presses m) [
                | inl goes ↦ inl goes
                | inr selects ↦ inr (inr (presses, selects))
              ]

          fixed : asked_old ≡ all_scheduled at old → IsOfUse old emitted new
          fixed made =
              let follows = follows-map (scheduled at old.timing) old.pairs (λ q. record { number = refl; local = refl; remote = refl; valid = refl }) in
              let m = maintains_pairs-from now (all_scheduled at old) s t emitted new none (subst (λ (x : AgentRecord H P). TimesOut mac now x s (Ok tt) emitted new t) made h) in
              elim (pressing-goes mac now (timeout_begun now (all_scheduled at old)) new s t emitted checking.peer checking.full (follows.distinct (distinct-sound old sound))
              (scheduled-presses at old ∙ presses) m) [
                | inl (q, has, inl (id, out)) ↦
                    (let x = Has-map (scheduled at old.timing) old.pairs q has in
                    inl (x.0, x.1, inl (id, out ∙ ap (λ (y : PairRecord). Some (issued_as (path_of old y) class.Request id)) (sym x.2))))
                | inl (q, has, inr gone) ↦
                    (let x = Has-map (scheduled at old.timing) old.pairs q has in
                    inl (x.0, x.1, inr (subst (λ n. IsGone n new.pairs) (sym (ap (λ (y : PairRecord). y.number) x.2)) gone)))
                | inr selects ↦ inr (inr (presses, selects))
              ]

        by-queue : (queue : List RequestRecord) → old.queue ≡ queue → IsOfUse old emitted new
        by-queue (first ∷ following) waits =
            inr (inl (let fewer = queue-of-use old asked_old new s t now emitted first following (asks-follow at deadline old asked_old is polled).0 checking.peer checking.full waits h in omega (arith, fewer)))
        by-queue [] none = by (is_pressing old) refl where
          by : (b : Bool) → is_pressing old ≡ b → IsOfUse old emitted new
          by true presses = pressed none presses
          by false calm = idle none calm

    pub no-pair-starved : NoPairIsStarved P mac
    no-pair-starved first last cycles p at by sound packets last_is calm in_turn waits timeouts cycled enough =
        not-starved cycles first last p at by
        (record {
          distinct = distinct-sound first sound;
          checking = waits.checking;
          idle = record { packets = packets; queue = waits.queue };
          calm = calm;
          last = last_is;
        })
        in_turn waits.paced waits.there (let due = waits.due in omega (arith, due))
        (λ x has. (let from = (timeouts x has).0 in let early = (timeouts x has).1 in (omega (arith, from), omega (arith, early)))) cycled
        (calls-from (is_modern first.timing) first.ahead_turn (length (due_by by at first.timing first.pairs)) (length cycles) (omega (arith, enough)))
