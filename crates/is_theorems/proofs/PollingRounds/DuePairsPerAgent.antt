-- A pair that waits in a per-agent execution is checked, or answered, as soon as one that waits in a log. If a controlling agent has
-- no valid pair, a check is sent on the path, or a path is selected: else each check on the path is answered, as there is none.
use Rattle.is_stun.specs.declared.header.Class.TheVariants as class
use Rattle.is_theorems.proofs.Common.{[], ◌&&◌, ◌*◌, ◌++◌, ◌+◌, ◌∙◌, ◌∷◌, ◌≡◌, ◌≤◌, ◌⊎◌, AddLocalCandidate, AddRemoteCandidate, AgentRecord}
use Rattle.is_theorems.proofs.Common.{ap, append_assoc, arith, Bool, Call, CandidateRecord, checks_for, ChecksAmong, ChecksIn, Class}
use Rattle.is_theorems.proofs.Common.{entries_of, Entry, Execution, ExecutionRound, ExecutionsCheck, ExecutionsReach, false, HandleTimeout}
use Rattle.is_theorems.proofs.Common.{Has, inl, inr, is_between, is_check_on, is_in_round, is_modern, is_request, is_same_path}
use Rattle.is_theorems.proofs.Common.{IsAnsweredAmong, IsAnsweredIn, IsAnsweredOn, IsEndedIn, IsLasting, IsPassed, IsPassing, Issued}
use Rattle.is_theorems.proofs.Common.{issued_as, length, List, Logged, LoggedRound, MayEnd, nominations_ahead, None, Option, PairRecord}
use Rattle.is_theorems.proofs.Common.{PassRounds, Path, path_of, PollEvent, PollTimeout, PollTransmit, ReceivePacket, refl, RunsOn}
use Rattle.is_theorems.proofs.Common.{same_address, same_protocol, SetControlling, SetControlTieBreaker, SetLocalCredentials}
use Rattle.is_theorems.proofs.Common.{SetLocalPreference, SetMaxCandidatePairs, SetMaxCandidates, SetMaxDiscovered, SetMtu, SetRenomination, SetTimingAdvance}
use Rattle.is_theorems.proofs.Common.{Some, Stream, subst, sym, true, ℕ}
use Rattle.is_theorems.proofs.BasicLemmas.EqualAddresses.{both, same_address-sound, same_protocol-sound}
use Rattle.is_theorems.proofs.ExecutionLogs.PerAgentExecutions.{entry_of, part_of, pushed, part_is, round_of, rounds_of, begun, as_many}
use Rattle.is_theorems.proofs.ExecutionLogs.PerAgentExecutions.{either_has, recomputed, leads_on, executions-select}
use Rattle.is_theorems.proofs.ExecutionLogs.LogSegments.{no-case}
use Rattle.is_theorems.proofs.StoredPairs.TransactionsThatStay.{is-on}
use Rattle.is_theorems.proofs.PollingRounds.CountedSelections.{selections-same}
use Rattle.is_theorems.proofs.PollingRounds.DuePairsInLogs.{pairs-are-reached}

-- ---- a check that is reported was sent on the path

request-is : (c : Class) → is_request c ≡ true → c ≡ class.Request
request-is class.Request h = refl
request-is _ h = no-case h

path-is : (a b : Path) → is_same_path a b ≡ true → a ≡ b
path-is a b h =
    let k = both (same_protocol a.proto b.proto) (same_address a.source b.source && same_address a.destination b.destination) h in
    let l = both (same_address a.source b.source) (same_address a.destination b.destination) k.1 in
    ap (λ p. let x : Path = record { proto = p; source = a.source; destination = a.destination } in x) (same_protocol-sound a.proto b.proto k.0)
    ∙ (ap (λ s. let x : Path = record { proto = b.proto; source = s; destination = a.destination } in x) (same_address-sound a.source b.source l.0)
    ∙ ap (λ d. let x : Path = record { proto = b.proto; source = b.source; destination = d } in x) (same_address-sound a.destination b.destination l.1))

is-sent : (path : Path) (issued : Issued) → is_check_on path (Some issued) ≡ true → issued ≡ issued_as path class.Request issued.id.0
is-sent path issued h =
    let k = both (is_request issued.class) (is_same_path issued.path path) h in
    ap (λ c. let x : Issued = record { path = issued.path; class = c; id = issued.id } in x) (request-is issued.class k.0)
    ∙ ap (λ w. let x : Issued = record { path = w; class = class.Request; id = issued.id } in x) (path-is issued.path path k.1)

module _ {P : Type 0} where
  -- ---- rounds of a per-agent execution, as those of a log

  -- a packet or a poll may come between two `handle_timeout` calls
  pub between_in : (m : Bool) (c : Call P) → is_between c ≡ true → is_in_round m c ≡ true
  between_in m (SetMtu target warn) is = refl
  between_in m (SetControlTieBreaker tie_breaker) is = refl
  between_in m (SetMaxCandidatePairs n) is = refl
  between_in m (SetMaxDiscovered limit) is = refl
  between_in m (SetMaxCandidates limit) is = refl
  between_in m (SetRenomination renominates) is = no-case is
  between_in m (SetTimingAdvance by) is = refl
  between_in m (SetLocalPreference object) is = refl
  between_in m (SetControlling controlling) is = refl
  between_in m (SetLocalCredentials creds) is = refl
  between_in m (AddLocalCandidate c) is = refl
  between_in m (AddRemoteCandidate c) is = refl
  between_in m _ is = is

  -- a `handle_timeout` call, and then only packets and polls
  abbrev IsPlain : LoggedRound P → Type 0
  IsPlain r = (r.timeout.call ≡ HandleTimeout r.now) × ((x : Logged P) → Has r.following x → is_between x.call ≡ true)

  is_plain : (by : ℕ) (before : List (Logged P)) (r : ExecutionRound P) → IsPassed by r → IsPlain (round_of before r)
  is_plain by before r round = (refl, λ x has. round.between (x.call, x.entry) (part_is (entry_of before (HandleTimeout r.now) r.timeout ∷ before) r.following x has))

  is_passing : (m : Bool) (by : ℕ) (before : List (Logged P)) (r : ExecutionRound P) → IsPassed by r → IsPassing m by (round_of before r)
  is_passing m by before r round = record {
    comes = refl;
    done = round.done;
    late = round.late;
    early = round.early;
    between = λ x has. between_in m x.call ((is_plain by before r round).1 x has);
  }

  are_all : (Q : LoggedRound P → Type 0) (before : List (Logged P)) (older : List (LoggedRound P)) (rounds : List (ExecutionRound P)) → ((r : LoggedRound P) → Has older r → Q r)
      → ((front : List (Logged P)) (r : ExecutionRound P) → Has rounds r → Q (round_of front r)) → (r : LoggedRound P) → Has (rounds_of before older rounds) r → Q r
  are_all Q before older [] were are r has = were r has
  are_all Q before older (x ∷ later) were are r has =
      are_all Q before (round_of (entries_of older ++ before) x ∷ older) later
      (λ y there. elim there [
        | inl is ↦ subst (λ (z : LoggedRound P). Q z) is (are (entries_of older ++ before) x (inl refl))
        | inr k ↦ were y k
      ])
      (λ front y there. are front y (inr there)) r has

  entries_plain : (rounds : List (LoggedRound P)) → ((r : LoggedRound P) → Has rounds r → IsPlain r) → (x : Logged P) → Has (entries_of rounds) x → (is_in_round true x.call ≡ false) ⊎ (is_between x.call ≡ true)
  entries_plain [] are x has = absurd has
  entries_plain (r ∷ older) are x has = elim (either_has r.following (r.timeout ∷ entries_of older) x has) [
    | inl following ↦ inr ((are r (inl refl)).1 x following)
    | inr (inl is) ↦ inl (ap (λ (y : Logged P). is_in_round true y.call) (sym is) ∙ ap (λ (c : Call P). is_in_round true c) (are r (inl refl)).0)
    | inr (inr was) ↦ entries_plain older (λ y there. are y (inr there)) x was
  ]

  checks_later : (x : ExecutionRound P) (rounds : List (ExecutionRound P)) (path : Path) → ChecksAmong rounds path → ChecksAmong (x ∷ rounds) path
  checks_later x rounds path (r, id, has, out) = (r, id, inr has, out)

  answered_later : (x : ExecutionRound P) (rounds : List (ExecutionRound P)) (path : Path) → IsAnsweredAmong rounds path → IsAnsweredAmong (x ∷ rounds) path
  answered_later x rounds path (r, has, is) = (r, inr has, is)

  -- what is checked in the rounds of the log is checked in those of the per-agent execution
  checks_among : (before : List (Logged P)) (older : List (LoggedRound P)) (rounds : List (ExecutionRound P)) (path : Path) → ChecksIn (rounds_of before older rounds) path
      → ChecksAmong rounds path ⊎ ChecksIn older path
  checks_among before older [] path checks = inr checks
  checks_among before older (r ∷ later) path checks =
      elim (checks_among before (round_of (entries_of older ++ before) r ∷ older) later path checks) [
        | inl k ↦ inl (checks_later r later path k)
        | inr (x, id, inl is, out) ↦ inl (r, id, inl refl, ap (λ (y : LoggedRound P). y.timeout.entry.emitted.issued) is ∙ out)
        | inr (x, id, inr has, out) ↦ inr (x, id, has, out)
      ]

  -- and likewise what is answered
  answered_among : (before : List (Logged P)) (older : List (LoggedRound P)) (rounds : List (ExecutionRound P)) (path : Path) → IsAnsweredIn (entries_of (rounds_of before older rounds)) path
      → IsAnsweredAmong rounds path ⊎ IsAnsweredIn (entries_of older) path
  answered_among before older [] path answered = inr answered
  answered_among before older (r ∷ later) path answered =
      elim (answered_among before (round_of (entries_of older ++ before) r ∷ older) later path answered) [
        | inl k ↦ inl (answered_later r later path k)
        | inr (x, has, is) ↦ elim (either_has (round_of (entries_of older ++ before) r).following (entry_of (entries_of older ++ before) (HandleTimeout r.now) r.timeout ∷ entries_of older) x has) [
          | inl following ↦
              inl (r, inl refl, ((x.call, x.entry), part_is (entry_of (entries_of older ++ before) (HandleTimeout r.now) r.timeout ∷ (entries_of older ++ before)) r.following x following, is))
          | inr (inl same) ↦ absurd (subst (λ (y : Logged P). IsAnsweredOn y path) (sym same) is).3
          | inr (inr was) ↦ inr (x, was, is)
        ]
      ]

module _ {H P : Type 0} (mac : H → List ℕ → List ℕ → List ℕ) (answers : P → CandidateRecord → ℕ → ℕ → Type 0) where
  -- ---- packets and polls remove no pair

  plain_stays : (old : AgentRecord H P) (c : Call P) (e : Entry) (p : PairRecord) → is_between c ≡ true → MayEnd answers old c e p → ⊥
  plain_stays old (ReceivePacket now via bytes) e p is ends = ends
  plain_stays old PollTransmit e p is ends = ends
  plain_stays old PollTimeout e p is ends = ends
  plain_stays old PollEvent e p is ends = ends
  plain_stays old _ e p is ends = no-case is

  none_ended : (before : List (Logged P)) (start last : AgentRecord H P) (s t : Stream) (part : List (Logged P)) (path : Path) → ((x : Logged P) → Has part x → (is_in_round true x.call ≡ false) ⊎ (is_between x.call ≡ true))
      → (run : RunsOn mac answers before start s part last t) → IsEndedIn mac answers before start s part last t run path → ⊥
  none_ended before start last s t [] path each run none = none
  none_ended before start last s t (x ∷ part) path each (mid, u, run, number, given, step) (inr ended) = none_ended before start mid s u part path (λ y has. each y (inr has)) run ended
  none_ended before start last s t (x ∷ part) path each (mid, u, run, number, given, step) (inl (called, (q, has, joins, ends))) = elim (each x (inl refl)) [
    | inl never ↦ no-case (sym never ∙ called)
    | inr is ↦ plain_stays mid x.call x.entry q is ends
  ]

  -- ---- segments of an execution, from the end backwards

  abbrev Runs : List (Logged P) → AgentRecord H P → List (Logged P) → AgentRecord H P → Type 0
  Runs before start part last = (t : Stream) → (s : Stream) × RunsOn mac answers before start s part last t

  runs_both : (before one two : List (Logged P)) (start mid last : AgentRecord H P) (s u t : Stream) → RunsOn mac answers before start s one mid u
      → RunsOn mac answers (one ++ before) mid u two last t → RunsOn mac answers before start s (two ++ one) last t
  runs_both before one [] start mid last s u t h (is, same) =
      subst (λ (a : AgentRecord H P). RunsOn mac answers before start s one a t) (sym is) (subst (λ v. RunsOn mac answers before start s one mid v) (sym same) h)
  runs_both before one (x ∷ two) start mid last s u t h (m, v, run, number, based, step) =
      (m, v, runs_both before one two start mid m s u v h run, number ∙ ap length (sym (append_assoc two one before)), based, step)

  runs_execution : (xs : List (Call P × Entry)) (before : List (Logged P)) (old new : AgentRecord H P) → Execution mac answers xs old new → Runs before old (part_of before xs) new
  runs_execution [] before old new is t = (t, (is, refl))
  runs_execution (x ∷ rest) before old new (mid, s, t, based, step, more) u =
      let k = runs_execution rest (entry_of before x.0 x.1 ∷ before) mid new more u in
      let a = recomputed mac answers x.0 x.1 old mid s t k.0 step in (
        a.0,
        runs_both before (entry_of before x.0 x.1 ∷ []) (part_of (entry_of before x.0 x.1 ∷ before) rest) old mid new a.0 k.0 u
            (old, a.0, (refl, refl), refl, based, a.1) k.1,
      )

  runs_rounds : (rounds : List (ExecutionRound P)) (before : List (Logged P)) (older : List (LoggedRound P)) (start old new : AgentRecord H P) → Runs before start (entries_of older) old
      → PassRounds mac answers rounds old new → Runs before start (entries_of (rounds_of before older rounds)) new
  runs_rounds [] before older start old new ran is = subst (λ (a : AgentRecord H P). Runs before start (entries_of older) a) (sym is) ran
  runs_rounds (r ∷ later) before older start old new ran (mid, next, s, t, step, execution, more) =
      runs_rounds later before (round_of (entries_of older ++ before) r ∷ older) start next new one more where
        timeout : Logged P
        timeout = entry_of (entries_of older ++ before) (HandleTimeout r.now) r.timeout

        one : Runs before start (entries_of (round_of (entries_of older ++ before) r ∷ older)) next
        one u =
            let k = runs_execution r.following (timeout ∷ (entries_of older ++ before)) mid next execution u in
            let a = recomputed mac answers (HandleTimeout r.now) r.timeout old mid s t k.0 step in
            let h = ran a.0 in (
              h.0,
              runs_both before (timeout ∷ entries_of older) (part_of (timeout ∷ (entries_of older ++ before)) r.following) start mid next h.0 k.0 u
                  (old, a.0, h.1, refl, tt, a.1) k.1,
            )

  pub executions-reach : ExecutionsReach mac answers
  executions-reach first start last xs r rounds p by fresh execution line chain are lasting enough =
      let before : List (Logged P) = pushed [] xs in
      let all : List (LoggedRound P) = rounds_of before [] (r ∷ rounds) in
      let any : Stream = record { u32_after = λ cs. 0; u64_after = λ cs. 0; bytes_after = λ cs n. [] } in
      let ran = runs_rounds (r ∷ rounds) before [] start start last (λ t. (t, (refl, refl))) chain any in
      let led = leads_on mac answers first xs [] first start (λ t. (t, (refl, refl))) execution ran.0 in
      let many = as_many before [] (r ∷ rounds) in
      elim (pairs-are-reached mac answers first led.0 (entries_of all ++ before) fresh before start last all p by
      (record { rest = []; split = refl; at = ran.0; led = led.1; following = any; run = ran.1 })
      (record {
        at = r.now;
        began = begun before (round_of ([] ++ before) r) [] rounds;
        line = line;
        passing = are_all (λ x. IsPassing (is_modern start.timing) by x) before [] (r ∷ rounds) (λ x none. absurd none) (λ front x has. is_passing (is_modern start.timing) by front x (are x has));
        lasting = are_all (λ x. IsLasting x.now start p) before [] (r ∷ rounds) (λ x none. absurd none) (λ front x has. lasting x has);
        enough = subst (λ k. checks_for (is_modern start.timing) (2 * length start.pairs + last.next_number + nominations_ahead start k) ≤ length all + 1 + checks_for (is_modern start.timing) start.next_number)
            (sym (selections-same before (r ∷ rounds))) (omega (arith, many, enough));
      })) [
        | inl checks ↦ elim (checks_among before [] (r ∷ rounds) (path_of start p) checks) [
          | inl k ↦ inl k
          | inr none ↦ absurd none.2
        ]
        | inr (inl answered) ↦ elim (answered_among before [] (r ∷ rounds) (path_of start p) answered) [
          | inl k ↦ inr k
          | inr none ↦ absurd none.1
        ]
        | inr (inr ended) ↦
            absurd (none_ended before start last ran.0 any (entries_of all) (path_of start p)
            (entries_plain all (are_all (λ x. IsPlain x) before [] (r ∷ rounds) (λ x none. absurd none) (λ front x has. is_plain by front x (are x has)))) ran.1 ended)
      ]

  -- ---- a smaller bound for a controlling agent

  -- a check is sent on the path, or it is not
  checks-or-not : (path : Path) (issued : Option Issued) → ((id : List ℕ) × (issued ≡ Some (issued_as path class.Request id))) ⊎ ((id : List ℕ) → issued ≡ Some (issued_as path class.Request id) → ⊥)
  checks-or-not path None = inr (λ id out. cc)
  checks-or-not path (Some issued) = by (is_check_on path (Some issued)) refl where
    by : (b : Bool) → is_check_on path (Some issued) ≡ b → ((id : List ℕ) × (Some issued ≡ Some (issued_as path class.Request id))) ⊎ ((id : List ℕ) → Some issued ≡ Some (issued_as path class.Request id) → ⊥)
    by true is = inl (issued.id.0, ap Some (is-sent path issued is))
    by false isnt = inr (λ id out. (let no : false ≡ true = sym isnt ∙ is-on path (Some issued) id out in cc))

  some-check : (path : Path) (rounds : List (ExecutionRound P)) → ChecksAmong rounds path
      ⊎ ((x : ExecutionRound P) (id : List ℕ) → Has rounds x → x.timeout.emitted.issued ≡ Some (issued_as path class.Request id) → ⊥)
  some-check path [] = inr (λ x id has out. absurd has)
  some-check path (r ∷ later) = elim (checks-or-not path r.timeout.emitted.issued) [
    | inl (id, out) ↦ inl (r, id, inl refl, out)
    | inr none ↦ elim (some-check path later) [
      | inl k ↦ inl (checks_later r later path k)
      | inr others ↦ inr (λ x id has out. elim has [
        | inl is ↦ none id (ap (λ (y : ExecutionRound P). y.timeout.emitted.issued) is ∙ out)
        | inr there ↦ others x id there out
      ])
    ]
  ]

  pub executions-check : ExecutionsCheck mac answers
  executions-check first start last xs r rounds p by fresh execution role waits unanswered chain are enough =
      elim (some-check (path_of start p) (r ∷ rounds)) [
        | inl checks ↦ inl checks
        | inr none ↦
            inr (executions-select mac answers first start last xs r rounds p by fresh execution role waits unanswered chain
            (λ x has. (let passed = are x has in
            record { done = passed.done; late = (let late = passed.late in omega (arith, late)); early = passed.early; between = passed.between; met = λ id out. absurd (none x id has out) })) (omega (arith, enough)))
      ]
