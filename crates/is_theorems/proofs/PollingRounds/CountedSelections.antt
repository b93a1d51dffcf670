-- What the calls of a segment, or of rounds of an execution, count for: how many select a path.
use Rattle.is_theorems.proofs.Common.{[], ◌&&◌, ◌++◌, ◌+◌, ◌∷◌, ◌≡◌, ◌≤◌, AgentRecord, all_entries, arith, Bool, Call, cond, count_by}
use Rattle.is_theorems.proofs.Common.{entries_of, Entry, ExecutionRound, false, HandleTimeout, if◌then◌else◌, List, Logged, LoggedRound}
use Rattle.is_theorems.proofs.Common.{nominations_ahead, numbers, one_if, refl, selection_count, selections_among, selects, sum_by-cons}
use Rattle.is_theorems.proofs.Common.{true, ℕ}
use Rattle.is_theorems.proofs.DuePairs.NominationsAhead.{to_select, to_send}
use Rattle.is_theorems.proofs.ExecutionLogs.PerAgentExecutions.{entry_of, part_of, round_of, rounds_of}
use Rattle.is_theorems.proofs.ExecutionLogs.SegmentsAsExecutions.{calls_onto, round_from, rounds_onto}

counts-one : (b : Bool) → one_if b ≡ cond b 1 0
counts-one true = refl
counts-one false = refl

module _ {P : Type 0} where
  -- what the calls of a segment count for
  abbrev pub paid : (Entry → ℕ) → List (Logged P) → ℕ
  paid pays [] = 0
  paid pays (x ∷ xs) = pays x.entry + paid pays xs

  pub paid-join : (pays : Entry → ℕ) (xs ys : List (Logged P)) → paid pays (xs ++ ys) ≡ paid pays xs + paid pays ys
  paid-join pays [] ys = omega arith
  paid-join pays (x ∷ xs) ys = let k : paid pays (xs ++ ys) ≡ paid pays xs + paid pays ys = paid-join pays xs ys in omega (arith, k)

  -- nothing is counted
  pub paid-nothing : (xs : List (Logged P)) → paid (λ e. 0) xs ≡ 0
  paid-nothing [] = refl
  paid-nothing (x ∷ xs) = let k : paid (λ e. 0) xs ≡ 0 = paid-nothing xs in omega (arith, k)

  paid-selections : (xs : List (Logged P)) → paid (to_select true) xs ≡ selection_count xs
  paid-selections [] = refl
  paid-selections (x ∷ xs) =
      let k = paid-selections xs in
      let all = sum_by-cons (λ (y : Logged P). cond (selects y.entry) 1 0) x xs in
      let one : one_if (selects x.entry) ≡ cond (selects x.entry) 1 0 = counts-one (selects x.entry) in
      omega (arith, k, all, one)

  -- what the calls of rounds count for
  abbrev pub paid_calls : (Entry → ℕ) → List (Call P × Entry) → ℕ
  paid_calls pays [] = 0
  paid_calls pays (x ∷ rest) = pays x.1 + paid_calls pays rest

  abbrev pub paid_among : (Entry → ℕ) → List (ExecutionRound P) → ℕ
  paid_among pays [] = 0
  paid_among pays (r ∷ later) = pays r.timeout + (paid_calls pays r.following + paid_among pays later)

  paid-part : (pays : Entry → ℕ) (before : List (Logged P)) (xs : List (Call P × Entry)) → paid pays (part_of before xs) ≡ paid_calls pays xs
  paid-part pays before [] = refl
  paid-part pays before (x ∷ rest) =
      let k : paid pays (part_of (entry_of before x.0 x.1 ∷ before) rest) ≡ paid_calls pays rest = paid-part pays (entry_of before x.0 x.1 ∷ before) rest in
      let all : paid pays (part_of before (x ∷ rest)) ≡ paid pays (part_of (entry_of before x.0 x.1 ∷ before) rest) + (pays x.1 + 0) =
      paid-join pays (part_of (entry_of before x.0 x.1 ∷ before) rest) (entry_of before x.0 x.1 ∷ []) in
      omega (arith, k, all)

  pub paid-rounds : (pays : Entry → ℕ) (before : List (Logged P)) (older : List (LoggedRound P)) (rounds : List (ExecutionRound P))
      → paid pays (entries_of (rounds_of before older rounds)) ≡ paid pays (entries_of older) + paid_among pays rounds
  paid-rounds pays before older [] = omega arith
  paid-rounds pays before older (r ∷ later) =
      let first : LoggedRound P = round_of (entries_of older ++ before) r in
      let k : paid pays (entries_of (rounds_of before (first ∷ older) later)) ≡ paid pays (entries_of (first ∷ older)) + paid_among pays later = paid-rounds pays before (first ∷ older) later in
      let all : paid pays (entries_of (first ∷ older)) ≡ paid pays first.following + (pays r.timeout + paid pays (entries_of older)) = paid-join pays first.following (first.timeout ∷ entries_of older) in
      let part : paid pays first.following ≡ paid_calls pays r.following = paid-part pays (entry_of (entries_of older ++ before) (HandleTimeout r.now) r.timeout ∷ (entries_of older ++ before)) r.following in
      omega (arith, k, all, part)

  calls-selections : (xs : List (Call P × Entry)) → paid_calls (to_select true) xs ≡ count_by (λ (x : Call P × Entry). selects x.1) xs
  calls-selections [] = refl
  calls-selections (x ∷ rest) =
      let k = calls-selections rest in
      let all = sum_by-cons (λ (y : Call P × Entry). cond (selects y.1) 1 0) x rest in
      let one : one_if (selects x.1) ≡ cond (selects x.1) 1 0 = counts-one (selects x.1) in
      omega (arith, k, all, one)

  among-selections : (rounds : List (ExecutionRound P)) → paid_among (to_select true) rounds ≡ selections_among rounds
  among-selections [] = refl
  among-selections (r ∷ later) =
      let k = among-selections later in
      let here = calls-selections r.following in
      omega (arith, k, here)

  calls-nothing : (xs : List (Call P × Entry)) → paid_calls (λ e. 0) xs ≡ 0
  calls-nothing [] = refl
  calls-nothing (x ∷ rest) = let k : paid_calls (λ e. 0) rest ≡ 0 = calls-nothing rest in omega (arith, k)

  pub among-nothing : (rounds : List (ExecutionRound P)) → paid_among (λ e. 0) rounds ≡ 0
  among-nothing [] = refl
  among-nothing (r ∷ later) =
      let k = among-nothing later in
      let here = calls-nothing r.following in
      omega (arith, k, here)

  -- as many in a log of the rounds
  pub selections-same : (before : List (Logged P)) (rounds : List (ExecutionRound P)) → selection_count (entries_of (rounds_of before [] rounds)) ≡ selections_among rounds
  selections-same before rounds =
      let all : paid (to_select true) (entries_of (rounds_of before [] rounds)) ≡ 0 + paid_among (to_select true) rounds = paid-rounds (to_select true) before [] rounds in
      let log = paid-selections (entries_of (rounds_of before [] rounds)) in
      let execution = among-selections rounds in
      omega (arith, all, log, execution)

  -- as many in the execution of a segment
  paid-onto : (pays : Entry → ℕ) (xs : List (Logged P)) (more : List (Call P × Entry)) → paid_calls pays (calls_onto xs more) ≡ paid pays xs + paid_calls pays more
  paid-onto pays [] more = omega arith
  paid-onto pays (x ∷ older) more =
      let k : paid_calls pays (calls_onto older ((x.call, x.entry) ∷ more)) ≡ paid pays older + (pays x.entry + paid_calls pays more) = paid-onto pays older ((x.call, x.entry) ∷ more) in
      omega (arith, k)

  paid-rounds-onto : (pays : Entry → ℕ) (rounds : List (LoggedRound P)) (more : List (ExecutionRound P)) → paid_among pays (rounds_onto rounds more) ≡ paid pays (entries_of rounds) + paid_among pays more
  paid-rounds-onto pays [] more = omega arith
  paid-rounds-onto pays (r ∷ older) more =
      let k : paid_among pays (rounds_onto older (round_from r ∷ more)) ≡ paid pays (entries_of older) + (pays r.timeout.entry + (paid_calls pays (calls_onto r.following []) + paid_among pays more)) =
      paid-rounds-onto pays older (round_from r ∷ more) in
      let here : paid_calls pays (calls_onto r.following []) ≡ paid pays r.following + 0 = paid-onto pays r.following [] in
      let all : paid pays (entries_of (r ∷ older)) ≡ paid pays r.following + (pays r.timeout.entry + paid pays (entries_of older)) = paid-join pays r.following (r.timeout ∷ entries_of older) in
      omega (arith, k, here, all)

  pub selections-onto : (rounds : List (LoggedRound P)) → selections_among (rounds_onto rounds []) ≡ selection_count (entries_of rounds)
  selections-onto rounds =
      let all : paid_among (to_select true) (rounds_onto rounds []) ≡ paid (to_select true) (entries_of rounds) + 0 = paid-rounds-onto (to_select true) rounds [] in
      let log = paid-selections (entries_of rounds) in
      let execution = among-selections (rounds_onto rounds []) in
      omega (arith, all, log, execution)

  pub selections-all : (r : LoggedRound P) (later : List (LoggedRound P)) → selections_among (round_from r ∷ rounds_onto later []) ≡ selection_count (all_entries r later)
  selections-all r later =
      let front : paid_among (to_select true) (rounds_onto later []) ≡ paid (to_select true) (entries_of later) + 0 = paid-rounds-onto (to_select true) later [] in
      let first : paid_among (to_select true) (round_from r ∷ rounds_onto later []) ≡ paid (to_select true) (entries_of (r ∷ [])) + paid_among (to_select true) (rounds_onto later []) =
      paid-rounds-onto (to_select true) (r ∷ []) (rounds_onto later []) in
      let all = paid-join (to_select true) (entries_of later) (entries_of (r ∷ [])) in
      let log = paid-selections (all_entries r later) in
      let execution = among-selections (round_from r ∷ rounds_onto later []) in
      omega (arith, front, first, all, log, execution)

module _ {H P : Type 0} where
  -- the calls of a segment count for no more nominations than the bounds say
  pub paid-within : (a : AgentRecord H P) (xs : List (Logged P)) → to_send (numbers a) a + paid (to_select (numbers a)) xs ≤ nominations_ahead a (selection_count xs)
  paid-within a xs = (let k = by-count (numbers a) in omega (arith, k)) where
    by-count : (c : Bool) → (if c && c then one_if a.nomination_due else 0) + paid (to_select c) xs ≤ (if c then one_if a.nomination_due + selection_count xs else 0)
    by-count true = let k = paid-selections xs in omega (arith, k)
    by-count false = let k : paid (λ e. 0) xs ≡ 0 = paid-nothing xs in omega (arith, k)

  -- the calls of rounds count for no more nominations than the bounds say
  pub among-within : (a : AgentRecord H P) (rounds : List (ExecutionRound P)) → to_send (numbers a) a + paid_among (to_select (numbers a)) rounds ≤ nominations_ahead a (selections_among rounds)
  among-within a rounds = (let k = by-count (numbers a) in omega (arith, k)) where
    by-count : (c : Bool) → (if c && c then one_if a.nomination_due else 0) + paid_among (to_select c) rounds ≤ (if c then one_if a.nomination_due + selections_among rounds else 0)
    by-count true = let k = among-selections rounds in omega (arith, k)
    by-count false = let k : paid_among (λ e. 0) rounds ≡ 0 = among-nothing rounds in omega (arith, k)

  -- of fewer selections
  pub ahead-fewer : (a : AgentRecord H P) (n m : ℕ) → n ≤ m → nominations_ahead a n ≤ nominations_ahead a m
  ahead-fewer a n m le = by-count (numbers a) where
    by-count : (c : Bool) → (if c then one_if a.nomination_due + n else 0) ≤ (if c then one_if a.nomination_due + m else 0)
    by-count true = omega (arith, le)
    by-count false = omega arith
