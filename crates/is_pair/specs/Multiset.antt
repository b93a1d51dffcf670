-- The abstract state of a checklist: its pairs, listed in the order of their numbers.
use Rattle.std.specs.Prelude.{◌≡◌, ℕ, ◌<◌, ◌≤◌, ◌==◌, ◌&&◌, ◌||◌, Bool, true, false, not, nat_lt, nat_le, List, [], ◌∷◌, length, map, filter, find, Option, Some}
use Rattle.std.specs.Prelude.{None, if◌then◌else◌}
use Rattle.std.specs.List.{list_any, list_all}
use Rattle.std.specs.Option.{option_map_or}
use Rattle.is_proto.specs.Lists.{Has, NonePass}
use Rattle.is_pair.specs.Checks.{is_kept}
use Rattle.is_pair.specs.Pairs.{PairRecord, TakesAnswer, is_valid}

-- ---- one pair

abbrev pub is_numbered : ℕ → PairRecord → Bool
is_numbered number p = p.number == number

-- the pair has this number, if there is one
abbrev pub is_named_by : Option ℕ → PairRecord → Bool
is_named_by number p = option_map_or (λ n. n == p.number) number false

-- some pair has the number
abbrev pub has_number : ℕ → List PairRecord → Bool
has_number number pairs = list_any (is_numbered number) pairs

abbrev pub pair_numbered : ℕ → List PairRecord → Option PairRecord
pair_numbered number pairs = find (is_numbered number) pairs

-- the pair has the number and passes the test
abbrev pub passes_at : ℕ → (PairRecord → Bool) → PairRecord → Bool
passes_at number test p = is_numbered number p && test p

abbrev pub is_valid_at : ℕ → List PairRecord → Bool
is_valid_at number pairs = list_any (passes_at number is_valid) pairs

abbrev pub is_between : ℕ → ℕ → PairRecord → Bool
is_between l r p = p.local == l && p.remote == r

-- the number of a pair of the two candidates; if several pairs have the same two, it may be any of them
abbrev pub IsPairBetween : List PairRecord → ℕ → ℕ → Option ℕ → Type 0
IsPairBetween pairs l r None = NonePass (is_between l r) pairs
IsPairBetween pairs l r (Some number) = (p : PairRecord) × Has pairs p × (is_between l r p ≡ true) × (p.number ≡ number)

-- ---- changes

-- changes the pair if it has the number
abbrev pub change_at : ℕ → (PairRecord → PairRecord) → PairRecord → PairRecord
change_at number change p = if is_numbered number p then change p else p

abbrev pub change_pair : ℕ → (PairRecord → PairRecord) → List PairRecord → List PairRecord
change_pair number change pairs = map (change_at number change) pairs

-- replaces the pair with the same number by this one
abbrev pub put_pair : PairRecord → List PairRecord → List PairRecord
put_pair p pairs = change_pair p.number (λ _. p) pairs

-- the pairs except those that pass
abbrev pub without : (PairRecord → Bool) → List PairRecord → List PairRecord
without gone pairs = filter (λ p. not (gone p)) pairs

-- the priority by a rule
abbrev pub with_priority : (PairRecord → ℕ) → PairRecord → PairRecord
with_priority gives p = record p { priority = gives p }

-- the change keeps everything by which a checklist finds its pairs: number, priority and checks
abbrev pub KeepsKeys : (PairRecord → PairRecord) → Type 0
KeepsKeys change =
    (p : PairRecord) → ((change p).number ≡ p.number) × ((change p).priority ≡ p.priority) × ((change p).checks ≡ p.checks)

-- ---- the order of the numbers

-- the numbers rise along the list, so no two pairs have the same number
abbrev pub rises : List PairRecord → Bool
rises [] = true
rises (p ∷ ps) = list_all (λ q. nat_lt p.number q.number) ps && rises ps

-- all numbers are below this one
abbrev pub are_below : ℕ → List PairRecord → Bool
are_below number pairs = list_all (λ p. nat_lt p.number number) pairs

-- ---- pending transactions

abbrev pub keeps_check : List ℕ → PairRecord → Bool
keeps_check id p = is_kept id p.checks

-- the pair with the number has a pending transaction with the ID
abbrev pub keeps : List ℕ → ℕ → List PairRecord → Bool
keeps id number pairs = list_any (passes_at number (keeps_check id)) pairs

-- the pair has a pending transaction with the ID and passes the test
abbrev pub is_awaiting : List ℕ → (PairRecord → Bool) → PairRecord → Bool
is_awaiting id test p = keeps_check id p && test p

-- a pair that has a pending transaction with the ID and passes the test, or none if there is none; any of several may be taken
abbrev pub IsAwaiting : List ℕ → (PairRecord → Bool) → List PairRecord → Option PairRecord → Type 0
IsAwaiting id test pairs None = NonePass (is_awaiting id test) pairs
IsAwaiting id test pairs (Some p) = Has pairs p × (is_awaiting id test p ≡ true)

-- the pair with the number records the response
abbrev pub RecordsAnswer : ℕ → ℕ → List ℕ → List PairRecord → List PairRecord → Type 0
RecordsAnswer number now id old new =
    (p after : PairRecord) × (pair_numbered number old ≡ Some p) × TakesAnswer p now id after × (new ≡ put_pair after old)

-- so many checks are as many as the limit or more, or fewer than n
abbrev pub are_fewer : (limit n count : ℕ) → Bool
are_fewer limit n count = nat_le limit count || nat_lt count n

-- each pair that stores fewer checks than the limit stores fewer than n
abbrev pub keep_fewer : (limit n : ℕ) → List PairRecord → Bool
keep_fewer limit n pairs = list_all (λ p. are_fewer limit n (length p.checks)) pairs

-- ---- priorities

-- some pair has the number and this priority
abbrev pub ranks : ℕ → ℕ → List PairRecord → Bool
ranks priority number pairs = list_any (passes_at number (λ p. p.priority == priority)) pairs

-- a pair of greatest priority among those that pass, or none if none passes; ties may be broken in any way
abbrev pub IsGreatest : (PairRecord → Bool) → List PairRecord → Option PairRecord → Type 0
IsGreatest test pairs None = NonePass test pairs
IsGreatest test pairs (Some top) =
    Has pairs top × (test top ≡ true) × ((p : PairRecord) → Has pairs p → test p ≡ true → p.priority ≤ top.priority)

-- a pair of lowest priority among those that pass, or none if none passes; ties may be broken in any way
abbrev pub IsLeastPassing : (PairRecord → Bool) → List PairRecord → Option PairRecord → Type 0
IsLeastPassing test pairs None = NonePass test pairs
IsLeastPassing test pairs (Some least) =
    Has pairs least × (test least ≡ true) × ((p : PairRecord) → Has pairs p → test p ≡ true → least.priority ≤ p.priority)

-- a pair of lowest priority; ties may be broken in any way
abbrev pub IsLeast : List PairRecord → PairRecord → Type 0
IsLeast pairs least = Has pairs least × ((p : PairRecord) → Has pairs p → least.priority ≤ p.priority)

-- a pair of lowest priority, or none if there is no pair
abbrev pub IsLowest : List PairRecord → Option PairRecord → Type 0
IsLowest pairs None = pairs ≡ []
IsLowest pairs (Some least) = IsLeast pairs least

-- these pairs are removed one after another: each has lowest priority when it is removed, and the list is over the limit
-- until then
abbrev pub EvictsInTurn : ℕ → List PairRecord → List PairRecord → List PairRecord → Type 0
EvictsInTurn limit [] old new = (length old ≤ limit) × (new ≡ old)
EvictsInTurn limit (p ∷ gone) old new = (limit < length old) × IsLeast old p × EvictsInTurn limit gone (without (is_numbered p.number) old) new

-- pairs of lowest priority are removed until the limit holds (RFC 8445, section 6.1.2.5)
abbrev pub Evicts : ℕ → List PairRecord → List PairRecord → Type 0
Evicts limit old new = (gone : List PairRecord) × EvictsInTurn limit gone old new
