-- Each pair without a response is on schedule, and one that is followed from some time on: what the rules and checks leave of that.
use Rattle.is_theorems.proofs.Common.{◌+◌, ◌<◌, ◌∙◌, ◌≡◌, ◌≤◌, ◌⊎◌, ap, arith, scheduled, Bool, Check, checked, due_time_of, false, Has, inl}
use Rattle.is_theorems.proofs.Common.{inr, is_due, is_possible, is_started_state, is_valid, is_valid_state, List, MAX, new_pair, None}
use Rattle.is_theorems.proofs.Common.{Option, PairRecord, refl, Some, StunTiming, subst, sym, TakesAnswer, taking_over, true, ℕ}
use Rattle.is_theorems.proofs.CallEffects.ChecksAndResponses.{Has-get}
use Rattle.is_theorems.proofs.CheckCounts.Bounds.{Bound, Covers, Ends, IsPastRequest, covered-before}
use Rattle.is_theorems.proofs.CheckCounts.PastTimes.{IsPast, Watch, new-past, past-on}
use Rattle.is_theorems.proofs.CheckCounts.KeptPairs.{IsOfSilent, IsRequested}
use Rattle.is_theorems.proofs.CheckCounts.SentChecks.{no-case, none-some, some-is, sent-valid, answered-valid, answered-invalid}
use Rattle.is_theorems.proofs.CheckCounts.SentChecks.{from-invalid, AreOpen}
use Rattle.is_theorems.proofs.CheckCounts.OnSchedule.{Keeps, few-of, run-as, scheduled-run, sent-past, sent-keeps}

module _ (t : StunTiming) (bound : Bound) where
  -- ---- each pair

  -- Without a response: nothing is later, and without a request it is on schedule from its beginning. If it is the one that is followed, it is so
  -- since then, while no further request arrives, and if the bound covers it.
  pub record IsFollowed (w : Watch) (by : ℕ) (p : PairRecord) : Type 0 where
    pub more : w.requests ≤ p.requests
    pub keeps : p.requests ≡ w.requests → Covers bound p → Keeps t bound w.count by p

  pub record IsOn (o : Option Watch) (by clock : ℕ) (p : PairRecord) : Type 0 where
    pub past : IsPast clock p
    pub unrequested : bound.asked ≡ false → p.requests ≡ 0 → Keeps t bound 0 by p
    pub followed : (w : Watch) → o ≡ Some w → p.number ≡ w.number → IsFollowed w by p

  abbrev pub IsOnSchedule : Option Watch → ℕ → ℕ → PairRecord → Type 0
  IsOnSchedule o by clock p = is_valid p ≡ false → IsOn o by clock p

  keeps-on : (base by at : ℕ) (p : PairRecord) → by ≤ at → Keeps t bound base by p → Keeps t bound base at p
  keeps-on base by at p le (inl same) = inl same
  keeps-on base by at p le (inr h) = inr (run-as t bound base by at p p.due p.last_error p.priority le h h.planned)

  pub later-on : (o : Option Watch) (by clock at after : ℕ) (p : PairRecord) → by ≤ at → clock ≤ after → IsOnSchedule o by clock p → IsOnSchedule o at after p
  later-on o by clock at after p le less on invalid = let k = on invalid in record {
    past = past-on clock after p less k.past;
    unrequested = λ any none. keeps-on 0 by at p le (k.unrequested any none);
    followed = λ w is same. (let f = k.followed w is same in record { more = f.more; keeps = λ still covers. keeps-on w.count by at p le (f.keeps still covers) });
  }

  -- the same pair with another due time, priority or error
  again-on : (o : Option Watch) (by clock : ℕ) (p : PairRecord) (due error : Option ℕ) (priority : ℕ) → ((due ≡ None) ⊎ (due ≡ p.due)) → IsOnSchedule o by clock p
      → IsOnSchedule o by clock (record p { due = due; last_error = error; priority = priority })
  again-on o by clock p due error priority kind on invalid = let k = on invalid in record {
    past = record {
      answers = k.past.answers;
      quiet = k.past.quiet;
      heard = k.past.heard;
      first = k.past.first;
      again = k.past.again;
      unasked = k.past.unasked;
      unanswered = k.past.unanswered;
      started = k.past.started;
    };
    unrequested = λ any none. keeps 0 (k.unrequested any none);
    followed = λ w is same. (let f = k.followed w is same in record { more = f.more; keeps = λ still covers. keeps w.count (f.keeps still covers) });
  } where
    keeps : (base : ℕ) → Keeps t bound base by p → Keeps t bound base by (record p { due = due; last_error = error; priority = priority })
    keeps base (inl same) = inl same
    keeps base (inr h) = inr (run-as t bound base by by p due error priority (omega arith) h (λ n is. elim kind [
      | inl none ↦ none-some n (sym none ∙ is)
      | inr same ↦ h.planned n (sym same ∙ is)
    ]))

  module _ (o : Option Watch) (floor by clock : ℕ) (apart : (w : Watch) → o ≡ Some w → (w.number < floor) × (w.requests < MAX)) where
    new-on : (number local remote priority : ℕ) → floor ≤ number → IsOnSchedule o by clock (new_pair number local remote priority)
    new-on number local remote priority above invalid = record {
      past = new-past clock number local remote priority;
      unrequested = λ any none. inl refl;
      followed = λ w is same. absurd (let lt = (apart w is).0 in (let no : ⊥ = omega (arith, lt, above, same) in no));
    }

    taken-on : (lite : Bool) (other : PairRecord) (number local remote priority : ℕ) → floor ≤ number → IsOnSchedule o by clock other
        → IsOnSchedule o by clock (taking_over lite other (new_pair number local remote priority))
    taken-on true other number local remote priority above on invalid =
        let k = on (from-invalid other.state invalid) in record {
          past = record {
            answers = refl;
            quiet = k.past.quiet;
            heard = k.past.heard;
            first = λ at is. none-some at is;
            again = λ at is. none-some at is;
            unasked = λ _. refl;
            unanswered = λ c has. absurd has;
            started = λ c has. absurd has;
          };
          unrequested = λ any none. inl refl;
          followed = λ w is same. absurd (let lt = (apart w is).0 in (let no : ⊥ = omega (arith, lt, above, same) in no));
        }
    taken-on false other number local remote priority above on invalid = record {
      past = record {
        answers = refl;
        quiet = λ _. refl;
        heard = λ at is. none-some at is;
        first = λ at is. none-some at is;
        again = λ at is. none-some at is;
        unasked = λ _. refl;
        unanswered = λ c has. absurd has;
        started = λ c has. absurd has;
      };
      unrequested = λ any none. inl refl;
      followed = λ w is same. absurd (let lt = (apart w is).0 in (let no : ⊥ = omega (arith, lt, above, same) in no));
    }

    takes-answer : (p after : PairRecord) (now : ℕ) (id : List ℕ) → TakesAnswer p now id after → IsOnSchedule o by clock p → IsOnSchedule o by clock after
    takes-answer p after now id (place, c, at, took) on = subst (λ (x : PairRecord). IsOnSchedule o by clock x) (sym took) (λ invalid.
        (let k = on (answered-invalid p.state invalid) in
        no-case (sym invalid ∙ answered-valid p.state (k.past.started c (Has-get p.checks place c at.0)))))

    -- a request
    takes-request : (p after : PairRecord) (time : ℕ) → IsRequested p time after → time ≤ clock → IsOnSchedule o by clock p → IsOnSchedule o by clock after
    takes-request p after time r early on invalid = elim r.state [
      | inr valid ↦ no-case (sym invalid ∙ valid)
      | inl same ↦ from same (on (sym (ap (λ s. is_valid_state s) same) ∙ invalid))
    ] where
      some : after.requests ≡ 0 → ⊥
      some none = let is = r.requests in (let no : ⊥ = omega (arith, none, is) in no)

      from : after.state ≡ p.state → IsOn o by clock p → IsOn o by clock after
      from same k = record {
        past = record {
          answers = r.answers ∙ k.past.answers;
          quiet = λ none. absurd (some none);
          heard = λ at is. (let it : time ≡ at = some-is time at (sym r.last ∙ is) in omega (arith, it, early));
          first = λ at is. k.past.first at (sym r.first ∙ is);
          again = λ at is. k.past.again at (sym r.again ∙ is);
          unasked = λ none. absurd (some none);
          unanswered = subst (λ (cs : List Check). AreOpen cs) (sym r.checks) k.past.unanswered;
          started = λ c has. ap (λ s. is_started_state s) same ∙ k.past.started c (subst (λ (cs : List Check). Has cs c) r.checks has);
        };
        unrequested = λ any none. absurd (some none);
        followed = λ w is number. (let f = k.followed w is (sym r.number ∙ number) in let more = f.more in let count = r.requests in let below = (apart w is).1 in record {
          more = omega (arith, more, count, below);
          keeps = λ still covers. absurd (let no : ⊥ = omega (arith, more, count, below, still) in no);
        });
      }

    pub of-silent : IsOfSilent floor clock (IsOnSchedule o by clock)
    of-silent = record {
      valid = λ p valid invalid. no-case (sym invalid ∙ valid);
      fresh = λ number local remote priority above. new-on number local remote priority above;
      taken = λ lite other number local remote priority above on. taken-on lite other number local remote priority above on;
      fixed = λ p due none on. again-on o by clock p due p.last_error p.priority (inl none) on;
      noted = λ p code on. again-on o by clock p p.due code p.priority (inr refl) on;
      ranked = λ p priority on. again-on o by clock p p.due p.last_error priority (inr refl) on;
      answered = λ p after now id takes on. takes-answer p after now id takes on;
      requested = λ p after time r early on. takes-request p after time r early on;
    }

  -- ---- due times and checks

  pub scheduled-on : (o : Option Watch) (by clock now : ℕ) (p : PairRecord) → by ≤ now → clock ≤ now → IsOnSchedule o by clock p → IsOnSchedule o now now (scheduled now t p)
  scheduled-on o by clock now p passes less on invalid =
      let k = on invalid in
      let clean = past-on clock now p less k.past in record {
        past = record {
          answers = clean.answers;
          quiet = clean.quiet;
          heard = clean.heard;
          first = clean.first;
          again = clean.again;
          unasked = clean.unasked;
          unanswered = clean.unanswered;
          started = clean.started;
        };
        unrequested = λ any none. scheduled-run t bound 0 by now now p passes invalid clean (λ asked. no-case (sym any ∙ asked)) (k.unrequested any none);
        followed = λ w is same. (let f = k.followed w is same in record { more = f.more; keeps = λ still covers. scheduled-run t bound w.count by now now p passes invalid clean covers (f.keeps still covers) });
      }

  -- a check of a pair that is due and possible leaves it on schedule
  pub checked-on : Ends t bound → 0 < t.max_retransmits → (o : Option Watch) → ((w : Watch) → o ≡ Some w → (w.requests ≡ 0) ⊎ IsPastRequest t bound) → (now : ℕ) (c : Bool) (id : List ℕ) (p : PairRecord)
      → now < MAX → IsOnSchedule o now now p → due_time_of now t p ≤ now → is_possible now t p ≡ true → IsOnSchedule o now now (checked now t c id (scheduled now t p))
  checked-on ends limit o fits now c id p goes_on on is_due possible invalid =
      let k = on (sent-valid p.state invalid) in record {
        past = sent-past t bound ends limit now c id p k.past;
        unrequested = λ any none. sent-keeps t bound ends limit now c id p 0 now (omega arith) goes_on (sent-valid p.state invalid) k.past (λ asked. no-case (sym any ∙ asked)) (inl none) is_due possible
            (k.unrequested any none);
        followed = λ w is same. (let f = k.followed w is same in record {
          more = f.more;
          keeps = λ still covers. (let was : Covers bound p = covered-before bound now p (checked now t c id (scheduled now t p)) refl refl refl covers in
              sent-keeps t bound ends limit now c id p w.count now (omega arith) goes_on (sent-valid p.state invalid) k.past was
              (elim (fits w is) [ inl none ↦ inl (still ∙ none) | inr long ↦ inr long ]) is_due possible (f.keeps still was));
        });
      }

  -- due times that are fixed at the time of the last check leave it on schedule
  pub scheduled-at : (o : Option Watch) (by clock : ℕ) (p : PairRecord) → IsOnSchedule o by clock p → IsOnSchedule o by clock (scheduled by t p)
  scheduled-at o by clock p on invalid =
      let k = on invalid in record {
        past = record {
          answers = k.past.answers;
          quiet = k.past.quiet;
          heard = k.past.heard;
          first = k.past.first;
          again = k.past.again;
          unasked = k.past.unasked;
          unanswered = k.past.unanswered;
          started = k.past.started;
        };
        unrequested = λ any none. scheduled-run t bound 0 by by clock p (omega arith) invalid k.past (λ asked. no-case (sym any ∙ asked)) (k.unrequested any none);
        followed = λ w is same. (let f = k.followed w is same in record { more = f.more; keeps = λ still covers. scheduled-run t bound w.count by by clock p (omega arith) invalid k.past covers (f.keeps still covers) });
      }

  -- ---- a pair that is followed from here on

  pub watched : (w : Watch) (by clock : ℕ) (p : PairRecord) → IsOnSchedule None by clock p → (p.number ≡ w.number → (p.requests ≡ w.requests) × (p.checks_sent ≡ w.count)) → IsOnSchedule (Some w) by clock p
  watched w by clock p on its invalid = let k = on invalid in record {
    past = k.past;
    unrequested = k.unrequested;
    followed = λ v is same. subst (λ (x : Watch). IsFollowed x by p) (one v is) (let now = its (same ∙ ap (λ (x : Watch). x.number) (sym (one v is))) in let requests = now.0 in record { more = omega (arith, requests); keeps = λ _ _. inl now.1 });
  } where
    one : (v : Watch) → Some w ≡ Some v → w ≡ v
    one v is = cc

  pub followed-few : (w : Watch) (by clock : ℕ) (p : PairRecord) → IsOn (Some w) by clock p → Covers bound p → p.number ≡ w.number → p.requests ≡ w.requests → p.checks_sent ≤ w.count + bound.checks
  followed-few w by clock p k covers number requests = few-of t bound w.count by p ((k.followed w refl number).keeps requests covers)
