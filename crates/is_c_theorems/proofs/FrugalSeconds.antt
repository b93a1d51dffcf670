-- A caller who goes by the time that `is_ice_poll_timeout` returns is frugal, so at most 49 checks leave in a second. What mutants/specifications changes
-- is read by tactics.
use Rattle.std.proofs.Common.{◌≡◌, ◌⊎◌, ℕ, ◌+◌, ◌*◌, ◌<◌, ◌≤◌, Bool, true, false, List, [], ◌∷◌, length, map, inl, inr, refl, ap, sym, ◌∙◌, subst, arith}
use Rattle.rand_core.specs.Stream.{Stream}
use Rattle.is_proto.specs.Times.{MAX, MILLISECOND, SECOND, later}
use Rattle.is_rules.specs.declared.credentials.IceCreds.{IceCreds}
use Rattle.is_rules.specs.declared.settings.Settings.{Settings}
use Rattle.is_rules.specs.Settings.{modern_settings, with_settings}
use Rattle.is_rules.specs.Sound.{GivesBased}
use Rattle.is_rules.specs.Steps as agent
use Rattle.is_rules.specs.Steps.{Call, Done, quiet, Step}
use Rattle.is_theorems.specs.CheckRate as rate
use Rattle.is_theorems.specs.CheckRate.{IsSlowAt, SecondsHaveFewChecks}
use Rattle.is_theorems.specs.Exchange.{Execution}
use Rattle.is_theorems.specs.Logs.{Logged}
use Rattle.is_theorems.specs.NotStarved as logs
use Rattle.is_theorems.specs.Settings.{setters_of}
use Rattle.is_theorems.specs.Shared.{BeforeEach}
use Rattle.is_theorems.proofs.CheckCounts.CallsWithinCredit.{frugal-at}
use Rattle.is_c_calls.specs.declared.preference.Preference.{Preference}
use Rattle.is_c_calls.specs.AgentSettings.{settings_of}
use Rattle.is_c_calls.specs.Clock.{agent_time}
use Rattle.is_c_calls.specs.Held.{Held, HeldRecord}
use Rattle.is_c_calls.specs.Preferences.{answers}
use Rattle.is_c_calls.specs.Sessions.{Used}
use Rattle.is_c_calls.specs.Uses.{HandleTimeout, mac_of}
use Rattle.is_c_theorems.specs.CallLogs.{Makes, IsLogOf, newborn, setters_onto, settings_onto}
use Rattle.is_c_theorems.specs.Chosen.{EachKeeps}
use Rattle.is_c_theorems.specs.FrugalCalls.{AreInOrder, FrugalSecondsHaveFewChecks, HasCalled, IsFrugal, IsFrugalAt, keeps_pace}
use Rattle.is_c_theorems.proofs.AlongExecutions.{is_new}
use Rattle.is_c_theorems.proofs.CallsAsSteps.{never, one}
use Rattle.is_c_theorems.proofs.ClocksOfCalls.{timed_by}
use Rattle.is_c_theorems.proofs.CreditOfDeadlines.{From, Set, Turns, credited, paced, seen}
use Rattle.is_c_theorems.proofs.LogsOfCalls.{Ran, any}
use Rattle.is_c_theorems.proofs.SettingsOfCalls.{rest_of}

-- neither `handle_timeout` nor `poll_timeout`
abbrev is_other : Call Preference → Bool
is_other (agent.HandleTimeout now) = false
is_other agent.PollTimeout = false
is_other _ = true

abbrev AreOther : List (Call Preference) → Type 0
AreOther [] = Unit {0}
AreOther (call ∷ more) = (is_other call ≡ true) × AreOther more

abbrev calls_timeout : Call Preference → Bool
calls_timeout call = logs.is_timeout call

abbrev time_in : Call Preference → ℕ
time_in (agent.HandleTimeout now) = now
time_in _ = 0

module _ (turn : Turns) (law : Set) (creds : IceCreds) (tie_breaker from : ℕ) (ends : from + 62 * SECOND ≤ MAX) where
  abbrev start : ℕ
  start = agent_time from

  abbrev born : Held
  born = newborn creds tie_breaker

  -- the agent's log, with what the theorem on its checks needs
  record Paced (log : List (Logged Preference)) (last : Held) : Type 0 where
    pub run : Ran born log last
    pub frugal : rate.IsFrugal mac_of answers start born log last run
    pub slow : BeforeEach mac_of answers (IsSlowAt start) born log last run

  one_more : (log : List (Logged Preference)) (mid last : Held) (x : Logged Preference) (s t : Stream) → Paced log mid → GivesBased x.call
      → Step mac_of answers mid s x.call x.entry last t → rate.IsFrugalAt start log mid x → IsSlowAt start mid x → Paced (x ∷ log) last
  one_more log mid last x s t p given step frugal slow = record { run = (mid, s, t, p.run, given, step); frugal = (frugal, p.frugal); slow = (slow, p.slow) }

  -- ---- settings

  setters_paced : (calls : List (Call Preference)) (mid last : Held) (log : List (Logged Preference)) → AreOther calls → Paced log mid
      → Execution mac_of answers (map (λ call. (call, quiet Done)) calls) mid last → Paced (setters_onto calls log) last
  setters_paced [] mid last log others p execution = subst (λ (a : Held). Paced log a) (sym execution) p
  setters_paced (call ∷ more) mid last log (other, others) p (next, s, t, given, step, execution) =
      setters_paced more next last (record { number = length log; call = call; entry = quiet Done } ∷ log) others
      (one_more log mid next (record { number = length log; call = call; entry = quiet Done }) s t p given step
      (λ now is. never (sym (ap is_other is) ∙ other)) (λ is. never (sym (ap is_other is) ∙ other))) execution

  settings_paced : (settings : Settings) (mid : Held) (log : List (Logged Preference)) → 0 < settings.max_retransmits → Paced log mid
      → Paced (settings_onto settings log) (with_settings settings mid)
  settings_paced settings mid log some p =
      setters_paced (setters_of settings) mid (with_settings settings mid) log
      (refl, (refl, (refl, (refl, (refl, (refl, (refl, (refl, (refl, (refl, (refl, tt))))))))))) p (turn mid settings any some)

  -- ---- each call

  frugal_entry : (u : Used) (before : List Used) (mid : HeldRecord) (log : List (Logged Preference)) (x : Logged Preference) → Makes u.export x.call
      → From turn law creds tie_breaker before mid → EachKeeps keeps_pace before → AreInOrder before → IsFrugalAt from u before → rate.IsFrugalAt start log mid.agent x
  frugal_entry u before mid log x makes session each order here = elim (timed_by u.export x.call makes) as (λ _. rate.IsFrugalAt start log mid.agent x) [
    | inl other ↦ λ now call early called. never (sym other ∙ ap calls_timeout call)
    | inr (at, random, export, made) ↦ λ now call early called. inr (λ last last_is le.
        let same : agent_time at ≡ now = sym (ap time_in made) ∙ ap time_in call in
        let noted = ((seen creds tie_breaker before mid session order).last last last_is).1 in
        let time = noted.4 in
        let called_at : HasCalled from before = (noted.0, noted.1, noted.2, noted.3, omega (arith, time, le, ends)) in
        let in_second : at < from + SECOND = omega (arith, same, early, ends) in
        let exported : u.export ≡ HandleTimeout at random = search export in
        let within = credited turn law creds tie_breaker before mid session each order at (search (here at random exported in_second called_at)) in
        search (subst (λ (n : ℕ). (later last (25 * MILLISECOND) ≤ n) ⊎ ((start ≤ n) × (mid.agent.charged_until ≤ n + 225 * MILLISECOND))) same
        (frugal-at start last mid.agent.charged_until mid.agent.charged_until (agent_time at) refl le (omega (arith, ends)) (within last last_is))))
  ]

  abbrev Along : List Used → HeldRecord → Type 0
  Along uses held = (log : List (Logged Preference)) × Paced log held.agent × IsLogOf uses log

  played : (uses : List Used) (held : HeldRecord) → From turn law creds tie_breaker uses held → EachKeeps keeps_pace uses → AreInOrder uses → IsFrugal from uses
      → Along uses held
  played [] held is each order frugal = (
    settings_onto modern_settings [],
    subst (λ (h : HeldRecord). Paced (settings_onto modern_settings []) h.agent) (sym is)
        (settings_paced modern_settings born [] (omega arith) (record { run = refl; frugal = tt; slow = tt })),
    refl,
  )
  played (u ∷ before) held (mid, session, does) each (forward, order) (here, frugal) = next (played before mid session others order frugal) where
    others : EachKeeps keeps_pace before
    others = rest_of keeps_pace u before each

    next : Along before mid → Along (u ∷ before) held
    next (log, p, all_logs) = elim (one (length log) u.export u.code mid held does) as (λ _. Along (u ∷ before) held) [
      | inl (same, none) ↦ (log, subst (λ (a : Held). Paced log a) (sym same) p, inl (none, all_logs))
      | inr (inl (x, s, t, is, given, step)) ↦ (
        x ∷ log,
        one_more log mid.agent held.agent x s t p given step (frugal_entry u before mid log x is.makes session others order here)
            (λ call last last_is le lt. (let slow = (paced turn law creds tie_breaker before mid session others).1 in omega (arith, slow))),
        inr (log, inl (x, refl, is), all_logs),
      )
      | inr (inr all) ↦ (
        settings_onto (settings_of all.settings) log,
        subst (λ (a : Held). Paced (settings_onto (settings_of all.settings) log) a) (sym all.sets) (settings_paced (settings_of all.settings) mid.agent log all.some p),
        inr (log, inr (all.settings, search (all.export), all.ok, refl), all_logs),
      )
    ]

pub few_checks : Turns → Set → SecondsHaveFewChecks {H = _} {P = Preference} mac_of answers → FrugalSecondsHaveFewChecks
few_checks turn law counts creds tie_breaker uses held from session each order frugal ends =
    let room : from + 62 * SECOND ≤ MAX = search ends in
    let k = played turn law creds tie_breaker from room uses held (search session) (search each) (search order) (search frugal) in
    let p = k.1 in
    let few = (counts (newborn creds tie_breaker) held.agent k.0 (agent_time from) (is_new creds tie_breaker) p.run p.slow (omega (arith, room))).2 p.frugal (omega (arith, room)) in
    (k.0, record { creds = creds; tie_breaker = tie_breaker; logs = k.2; run = p.run }, search few)
