-- What a slot of C holds, as the last state of an execution: one call more, further calls, and when the agent is connected.
use Rattle.std.proofs.lemmas.Bool.{eqb-true}
use Rattle.is_proto.specs.declared.error.IceError.TheVariants as errors
use Rattle.is_pair.specs.Multiset.{is_numbered, pair_numbered}
use Rattle.is_rules.specs.Steps as agent
use Rattle.is_rules.proofs.PairLists.ChosenPair.{chosen-able, chosen-none, found-in, named-by, none_pass}
use Rattle.is_rules.proofs.PairLists.RisingNumbers.{AreRising, below-each, rising-each}
use Rattle.is_c_theorems.proofs.Common.{[], ◌&&◌, ◌++◌, ◌<◌, ◌==◌, ◌∙◌, ◌∷◌, ◌≡◌, ◌≤◌, agent_time, AllAreSetInTurn, answer_by, Answers}
use Rattle.is_c_theorems.proofs.Common.{answers, ap, arith, Bool, Call, code_by, code_of, Continues, Does, Done, done, done_code, EachKeeps}
use Rattle.is_c_theorems.proofs.Common.{Emitted, Entry, Err, false, Flag, flag_code, followed, fresh_held, given_steps, GivesBased}
use Rattle.is_c_theorems.proofs.Common.{HandlePacket, HandlesDatagram, HandleTimeout, Has, Held, HeldRecord, IceError, inl, inr, is_done}
use Rattle.is_c_theorems.proofs.Common.{is_eligible, is_error, is_nominated, is_nominated_and_valid, is_rejection, is_valid, IsConnected}
use Rattle.is_c_theorems.proofs.Common.{IsInSlot, IsSound, IsTopSelected, IsUsed, keeps_modern, Leads, length, List, Logged, mac_of, Makes}
use Rattle.is_c_theorems.proofs.Common.{nat_lt, newborn, None, OK, Ok, Option, option_and_then, option_map_or, PairRecord, PassesPacket}
use Rattle.is_c_theorems.proofs.Common.{Path, path_of, PathEffect, PathTheorem, persists_at, pos, Preference, refl, remains, Result}
use Rattle.is_c_theorems.proofs.Common.{selection_of, Session, settings_of, settings_onto, Some, StatesAgree, Step, Stream, stream_of}
use Rattle.is_c_theorems.proofs.Common.{subst, sym, TimesOut, true, Use, Used, ℕ, ℤ}
use Rattle.is_c_theorems.proofs.AlongExecutions.{Set, connected_have_path}
use Rattle.is_c_theorems.proofs.CallsAsSteps.{either, never, one}
use Rattle.is_c_theorems.proofs.KnownAgents.{known}
use Rattle.is_c_theorems.proofs.LogsOfCalls.{Ran, any, settings_ran, walk, log_is, run_is}
use Rattle.is_c_theorems.proofs.SettingsOfCalls.{Log}

abbrev pub Turns : Type 0
Turns = AllAreSetInTurn {H = _} {P = Preference} mac_of answers

abbrev pub Paths : Type 0
Paths = PathTheorem {H = _} {P = Preference} mac_of answers

abbrev pub Agree : Type 0
Agree = StatesAgree {H = _} {P = Preference} mac_of answers

-- ---- codes

error_is : (e : IceError) → is_error (code_of e) ≡ true
error_is errors.OutOfMemory = refl
error_is (errors.BadCandidate message) = refl
error_is errors.PairIdsExhausted = refl
error_is errors.MtuTooSmall = refl
error_is errors.CredentialsTooLong = refl
error_is errors.PriorityTooHigh = refl
error_is errors.LiteStaysControlled = refl

flag_coded : (r : Result Bool IceError) → flag_code r ≡ code_by (answer_by Flag r)
flag_coded (Ok true) = refl
flag_coded (Ok false) = refl
flag_coded (Err e) = refl

accepted_by : (r : Result Bool IceError) → flag_code r ≡ OK → answer_by Flag r ≡ Flag true
accepted_by (Ok true) is = refl
accepted_by (Ok false) is = let wrong_ : pos 1 ≡ pos 0 = is in absurd (cc)
accepted_by (Err e) is = never (sym (ap is_error is) ∙ error_is e)

unrejected : (r : Result Bool IceError) (code : ℤ) → code ≡ flag_code r → is_error code ≡ false → is_rejection (answer_by Flag r) ≡ false
unrejected (Ok true) code is fine = refl
unrejected (Ok false) code is fine = refl
unrejected (Err e) code is fine = never (sym fine ∙ (ap is_error is ∙ error_is e))

done_by : (r : Result (Unit {0}) IceError) → done_code r ≡ OK → answer_by done r ≡ Done
done_by (Ok x) is = refl
done_by (Err e) is = never (sym (ap is_error is) ∙ error_is e)

-- ---- one call

-- a packet for which no error is returned
pub record Received (at : ℕ) (path : Path) (bytes : List ℕ) (code : ℤ) (old new : HeldRecord) : Type 0 where
  pub entry : Entry
  pub coded : code ≡ code_by entry.answer
  pub fine : is_rejection entry.answer ≡ false
  pub accepted : code ≡ OK → entry.answer ≡ Flag true
  pub step : Step mac_of answers old.agent any (agent.ReceivePacket at path bytes) entry new.agent any

receives : (now : ℕ) (path : Path) (bytes : List ℕ) (code : ℤ) (old new : HeldRecord) → HandlesDatagram mac_of now (Some path) bytes old code new
    → is_error code ≡ false → Received (agent_time now) path bytes code old new
receives now path bytes code old new (inl (fault, fails, (is, same))) fine = never (sym fine ∙ ap is_error is)
receives now path bytes code old new (inr (m, reads, (r, (emitted, handles, coded, kept)))) fine = record {
  entry = record { answer = answer_by Flag r; emitted = emitted };
  coded = coded ∙ flag_coded r;
  fine = unrejected r code coded fine;
  accepted = λ ok. accepted_by r (sym coded ∙ ok);
  step = (inr (m, reads, (r, emitted, refl, handles)), refl);
}

pub received : (path : Path) (bytes : List ℕ) (code : ℤ) (old new : HeldRecord) → (k : PassesPacket path bytes old code new) → is_error code ≡ false
    → Received (agent_time k.now) path bytes code old new
received path bytes code old new k fine =
    receives k.now path bytes code old new (subst (λ (o : Option Path). HandlesDatagram mac_of k.now o bytes old code new) k.on k.does) fine

-- an `is_ice_handle_timeout` that returns OK
pub record Timed (at : ℕ) (old new : HeldRecord) : Type 0 where
  pub entry : Entry
  pub s : Stream
  pub t : Stream
  pub ok : entry.answer ≡ Done
  pub step : Step mac_of answers old.agent s (agent.HandleTimeout at) entry new.agent t

timed_by : (now : ℕ) (random : List ℕ) (old new : HeldRecord) (r : Result (Unit {0}) IceError) (emitted : Emitted) (left : Stream)
    → TimesOut mac_of (agent_time now) old.agent (stream_of given_steps random) r emitted new.agent left → OK ≡ done_code r → Timed (agent_time now) old new
timed_by now random old new r emitted left times coded = record {
  entry = record { answer = answer_by done r; emitted = emitted };
  s = stream_of given_steps random;
  t = left;
  ok = done_by r (sym coded);
  step = (r, emitted, refl, times);
}

pub timed : (now : ℕ) (random : List ℕ) (old new : HeldRecord) → Does (HandleTimeout now random) old OK new → Timed (agent_time now) old new
timed now random old new h = either (nat_lt (length random) 12)
    (λ k. never (ap is_error k.0))
    (λ (r, (emitted, k)). timed_by now random old new r emitted k.0 k.1 k.2) h

-- ---- further calls

pub more_modern : (u : Used) (uses : List Used) → keeps_modern u.export ≡ true → EachKeeps keeps_modern uses → EachKeeps keeps_modern (u ∷ uses)
more_modern u uses is each v (inl same) = subst (λ (w : Used). keeps_modern w.export ≡ true) same is
more_modern u uses is each v (inr has) = each v has

joined_modern : (more uses : List Used) → EachKeeps keeps_modern more → EachKeeps keeps_modern uses → EachKeeps keeps_modern (more ++ uses)
joined_modern [] uses new old v has = old v has
joined_modern (u ∷ more) uses new old v (inl same) = new v (inl same)
joined_modern (u ∷ more) uses new old v (inr has) = joined_modern more uses (λ w h. new w (inr h)) old v has

joined : (first mid last : HeldRecord) (uses more : List Used) → Session first uses mid → Session mid more last → Session first (more ++ uses) last
joined first mid last uses [] session is = subst (λ (h : HeldRecord). Session first uses h) (sym is) session
joined first mid last uses (u ∷ more) session (near, others, does) = (near, joined first mid near uses more session others, does)

pub held_after : (old new : HeldRecord) → IsInSlot old → (export : Use) (code : ℤ) → Does export old code new → keeps_modern export ≡ true → IsInSlot new
held_after old new k export code does is = record {
  creds = k.creds;
  tie_breaker = k.tie_breaker;
  uses = record { export = export; code = code } ∷ k.uses;
  session = (old, k.session, does);
  modern = more_modern (record { export = export; code = code }) k.uses is k.modern;
}

pub held_later : (from to : HeldRecord) → IsInSlot from → Leads from to → IsInSlot to
held_later from to k l = record {
  creds = k.creds;
  tie_breaker = k.tie_breaker;
  uses = l.uses ++ k.uses;
  session = joined (fresh_held k.creds k.tie_breaker) from to k.uses l.uses k.session l.session;
  modern = joined_modern l.uses k.uses l.modern k.modern;
}

ran_on : Turns → (from to : HeldRecord) (uses : List Used) → Session from uses to → (log : Log) × Ran from.agent log to.agent
ran_on turn from to [] is = ([], ap (λ (h : HeldRecord). h.agent) is)
ran_on turn from to (u ∷ before) (mid, session, does) = next (ran_on turn from mid before session) where
  next : (log : Log) × Ran from.agent log mid.agent → (log : Log) × Ran from.agent log to.agent
  next (log, run) = elim (one 0 u.export u.code mid to does) as (λ _. (log : Log) × Ran from.agent log to.agent) [
    | inl (same, none) ↦ (log, subst (λ (a : Held). Ran from.agent log a) (sym same) run)
    | inr (inl (x, s, t, is, given, step)) ↦ (x ∷ log, (mid.agent, s, t, run, given, step))
    | inr (inr all) ↦ (
      settings_onto (settings_of all.settings) log,
      subst (λ (a : Held). Ran from.agent (settings_onto (settings_of all.settings) log) a) (sym all.sets)
          (settings_ran turn (settings_of all.settings) from.agent mid.agent log all.some run),
    )
  ]

-- ---- pairs over further calls

one_pair : (ps : List PairRecord) (p q : PairRecord) → AreRising ps → Has ps p → Has ps q → p.number ≡ q.number → p ≡ q
one_pair [] p q rising has_p has_q same = absurd has_p
one_pair (x ∷ xs) p q rising (inl e) (inl f) same = sym e ∙ f
one_pair (x ∷ xs) p q rising (inl e) (inr has_q) same =
    let lt : x.number < q.number = rising.0 q has_q in
    let is : x.number ≡ q.number = ap (λ (y : PairRecord). y.number) e ∙ same in absurd (let no : ⊥ = omega (arith, lt, is) in no)
one_pair (x ∷ xs) p q rising (inr has_p) (inl f) same =
    let lt : x.number < p.number = rising.0 p has_p in
    let is : x.number ≡ p.number = ap (λ (y : PairRecord). y.number) f ∙ sym same in absurd (let no : ⊥ = omega (arith, lt, is) in no)
one_pair (x ∷ xs) p q rising (inr has_p) (inr has_q) same = one_pair xs p q rising.1 has_p has_q same

-- each pair that was there before continues
record Kept (a last : Held) : Type 0 where
  sound : IsSound last
  counter : a.next_number ≤ last.next_number
  back : (q : PairRecord) → Has last.pairs q → q.number < a.next_number → Continues a last q

-- a pair, and the pair with its number after the calls
pub record Continued (a last : Held) (p q : PairRecord) : Type 0 where
  pub path : path_of a p ≡ path_of last q
  pub valid : is_valid p ≡ true → is_valid q ≡ true
  pub nominated : is_nominated p ≡ true → is_nominated q ≡ true

module _ (paths : Paths) where
  kept : (a last : Held) (log : Log) → IsSound a → Ran a log last → Kept a last
  kept a last [] sound is = subst (λ (b : Held). Kept a b) (sym is) (record {
    sound = sound;
    counter = omega arith;
    back = λ q has lt. (q, has, refl, refl, (λ v. v), (λ n. n));
  })
  kept a last (x ∷ before) sound (mid, s, t, run, given, step) =
      let k = kept a mid before sound run in
      let law = paths mid last s t x.call x.entry k.sound given step in
      let one_ : a.next_number ≤ mid.next_number = k.counter in
      let two_ : mid.next_number ≤ last.next_number = law.0.counter in
      record {
        sound = law.1;
        counter = omega (arith, one_, two_);
        back = λ q has lt. elim (law.0.numbers q has) [
          | inl c ↦ (let b = k.back c.0 c.1 (subst (λ (n : ℕ). n < a.next_number) (sym c.2) lt) in
              (b.0, b.1, b.2 ∙ c.2, b.3 ∙ c.3, (λ v. c.4 (b.4 v)), (λ n. c.5 (b.5 n))))
          | inr n ↦ (let less : q.number < a.next_number = lt in let more : mid.next_number ≤ q.number = n.0 in
              absurd (let no : ⊥ = omega (arith, less, one_, more) in no))
        ];
      }

  pub continued : Turns → (from to : HeldRecord) → IsSound from.agent → Leads from to → (p q : PairRecord) → Has from.agent.pairs p → Has to.agent.pairs q
      → q.number ≡ p.number → Continued from.agent to.agent p q
  continued turn from to sound l p q has_p has_q same =
      let r = ran_on turn from to l.uses l.session in
      let below : p.number < from.agent.next_number = below-each from.agent.next_number from.agent.pairs sound.below p has_p in
      let b = (kept from.agent to.agent r.0 sound r.1).back q has_q (subst (λ (n : ℕ). n < from.agent.next_number) (sym same) below) in
      let is : b.0 ≡ p = one_pair from.agent.pairs b.0 p (rising-each from.agent.pairs sound.rising) b.1 has_p (b.2 ∙ same) in
      record {
        path = ap (λ (y : PairRecord). path_of from.agent y) (sym is) ∙ b.3;
        valid = λ v. b.4 (ap (λ (y : PairRecord). is_valid y) is ∙ v);
        nominated = λ n. b.5 (ap (λ (y : PairRecord). is_nominated y) is ∙ n);
      }

-- ---- after one call more

-- if a pair may be selected, the number names one
persisting : (priority : ℕ) (a : Held) → persists_at a.selected_pair priority a.pairs ≡ true → (p : PairRecord) × Has a.pairs p × (a.selected_pair ≡ Some p.number)
persisting priority a h = by a.selected_pair refl h where
  at : (n : ℕ) (o : Option PairRecord) → pair_numbered n a.pairs ≡ o → a.selected_pair ≡ Some n → option_map_or (λ (p : PairRecord). p.priority == priority) o false ≡ true
      → (p : PairRecord) × Has a.pairs p × (a.selected_pair ≡ Some p.number)
  at n None is named k = never k
  at n (Some p) is named k = let f = found-in (is_numbered n) a.pairs p is in (p, f.0, named ∙ ap Some (sym (eqb-true p.number n f.1)))

  by : (o : Option ℕ) → a.selected_pair ≡ o → option_map_or (λ (p : PairRecord). p.priority == priority) (option_and_then (λ number. pair_numbered number a.pairs) o) false ≡ true
      → (p : PairRecord) × Has a.pairs p × (a.selected_pair ≡ Some p.number)
  by None is k = never k
  by (Some n) is k = at n (pair_numbered n a.pairs) refl is k

names_one : (a : Held) (q : PairRecord) → Has a.pairs q → is_eligible a.controlling q ≡ true → IsTopSelected a → (p : PairRecord) × Has a.pairs p × (a.selected_pair ≡ Some p.number)
names_one a q has able (None, none, persists) =
    absurd (none_pass (is_eligible a.controlling) a.pairs q (chosen-none a.controlling (followed a) (selection_of a) none) has able)
names_one a q has able (Some best, chosen, persists) = by (followed a) refl where
  by : (o : Option ℕ) → followed a ≡ o → (p : PairRecord) × Has a.pairs p × (a.selected_pair ≡ Some p.number)
  by None none = persisting best.priority a (subst (λ f. remains f best (selection_of a) ≡ true) none persists)
  by (Some n) follows = (
    best,
    (chosen-able a.controlling (followed a) (selection_of a) best chosen).0,
    named-by a.selected_pair best (subst (λ f. remains f best (selection_of a) ≡ true) follows persists),
  )

-- the agent after one call more
pub record After (old new : HeldRecord) (call : Call Preference) (e : Entry) : Type 0 where
  pub sound : IsSound old.agent
  pub effect : PathEffect mac_of old.agent call e new.agent
  -- if nomination was evaluated, and a pair may be selected
  pub connects : IsTopSelected new.agent → (p : PairRecord) → Has new.agent.pairs p → is_eligible new.agent.controlling p ≡ true → IsConnected new

module _ (turn : Turns) (paths : Paths) where
  pub sound_held : (held : HeldRecord) → IsInSlot held → IsSound held.agent
  sound_held held k =
      let w = walk turn k.creds k.tie_breaker k.uses held k.session in
      (known paths k.creds k.tie_breaker w.0 held.agent (run_is turn k.creds k.tie_breaker k.uses w.0 held w.1)).sound

  module _ (law : Set) (agree : Agree) where
    pub after : (old new : HeldRecord) → IsInSlot old → (export : Use) (code : ℤ) (call : Call Preference) (e : Entry) (s t : Stream) → Makes export call
        → Answers export e.answer code → keeps_modern export ≡ true → GivesBased call → Step mac_of answers old.agent s call e new.agent t → After old new call e
    after old new k export code call e s t makes answered modern given step =
        let w = walk turn k.creds k.tie_breaker k.uses old k.session in
        let x : Logged Preference = record { number = length w.0; call = call; entry = e } in
        let u : Used = record { export = export; code = code } in
        let run : Ran (newborn k.creds k.tie_breaker) w.0 old.agent = run_is turn k.creds k.tie_breaker k.uses w.0 old w.1 in
        let sound = (known paths k.creds k.tie_breaker w.0 old.agent run).sound in
        let used : IsUsed (u ∷ k.uses) (x ∷ w.0) new = record {
          creds = k.creds;
          tie_breaker = k.tie_breaker;
          logs = inr (w.0, inl (x, refl, record { makes = makes; answers = answered }), log_is turn k.creds k.tie_breaker k.uses w.0 old w.1);
          run = (old.agent, s, t, run, given, step);
        } in
        record {
          sound = sound;
          effect = (paths old.agent new.agent s t call e sound given step).0;
          connects = λ top p has able. (
              let n = names_one new.agent p has able top in
              let is = (known paths k.creds k.tie_breaker (x ∷ w.0) new.agent used.run).named n.0 n.1 n.2 in
              let live : is_nominated_and_valid n.0 ≡ true = ap (λ (b : Bool). b && is_nominated n.0) is.0 ∙ is.1 in
              (connected_have_path law agree (u ∷ k.uses) (x ∷ w.0) new used (more_modern u k.uses modern k.modern)).1 (n.0, n.1, live, is.2));
        }

    pub after_packet : (old new : HeldRecord) → IsInSlot old → (path : Path) (bytes : List ℕ) (code : ℤ) → (k : PassesPacket path bytes old code new) (fine : is_error code ≡ false)
        → After old new (agent.ReceivePacket (agent_time k.now) path bytes) (received path bytes code old new k fine).entry
    after_packet old new held path bytes code k fine =
        let got = received path bytes code old new k fine in
        after old new held (HandlePacket k.now k.protocol k.source k.destination bytes) code (agent.ReceivePacket (agent_time k.now) path bytes) got.entry any any
        (path, k.on, refl) got.coded refl tt got.step

    pub after_timeout : (old new : HeldRecord) → IsInSlot old → (now : ℕ) (random : List ℕ) (does : Does (HandleTimeout now random) old OK new)
        → After old new (agent.HandleTimeout (agent_time now)) (timed now random old new does).entry
    after_timeout old new held now random does =
        let k = timed now random old new does in
        after old new held (HandleTimeout now random) OK (agent.HandleTimeout (agent_time now)) k.entry k.s k.t refl
        (sym (ap code_by k.ok), ap is_done k.ok) refl tt k.step
