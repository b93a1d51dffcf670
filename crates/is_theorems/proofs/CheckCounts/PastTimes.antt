-- Nothing in a pair is later than a time.
use Rattle.is_theorems.proofs.Common.{◌≡◌, ◌≤◌, arith, Check, Has, is_started_state, new_pair, None, PairRecord, refl, Some, true, ℕ}
use Rattle.is_theorems.proofs.CheckCounts.SentChecks.{AreOpen, none-some}

-- a pair, with the requests and the checks that it had
pub record Watch : Type 0 where
  pub number : ℕ
  pub requests : ℕ
  pub count : ℕ

-- nothing in the pair is later than this, and no check got a response
pub record IsPast (by : ℕ) (p : PairRecord) : Type 0 where
  pub answers : p.answers ≡ 0
  pub quiet : p.requests ≡ 0 → p.last_request ≡ None
  pub heard : (at : ℕ) → p.last_request ≡ Some at → at ≤ by
  pub first : (at : ℕ) → p.first_sent ≡ Some at → at ≤ by
  pub again : (at : ℕ) → p.first_after_request ≡ Some at → at ≤ by
  pub unasked : p.requests ≡ 0 → p.first_after_request ≡ None
  pub unanswered : AreOpen p.checks
  pub started : (c : Check) → Has p.checks c → is_started_state p.state ≡ true

pub past-on : (by at : ℕ) (p : PairRecord) → by ≤ at → IsPast by p → IsPast at p
past-on by at p le h = record {
  answers = h.answers;
  quiet = h.quiet;
  heard = λ k is. (let below = h.heard k is in omega (arith, below, le));
  first = λ k is. (let below = h.first k is in omega (arith, below, le));
  again = λ k is. (let below = h.again k is in omega (arith, below, le));
  unasked = h.unasked;
  unanswered = h.unanswered;
  started = h.started;
}

pub new-past : (by number local remote priority : ℕ) → IsPast by (new_pair number local remote priority)
new-past by number local remote priority = record {
  answers = refl;
  quiet = λ _. refl;
  heard = λ at is. none-some at is;
  first = λ at is. none-some at is;
  again = λ at is. none-some at is;
  unasked = λ _. refl;
  unanswered = λ c has. absurd has;
  started = λ c has. absurd has;
}
