-- A list of C's calls is an execution: the states of C's agent, and those of the log, are the same. What mutants/specifications changes is read by
-- tactics.
use Rattle.is_c_theorems.proofs.Common.{[], ◌<◌, ◌∷◌, ◌≡◌, ◌⊎◌, AllAreSetInTurn, answers, arith, Call, Does, Done, Execution, fresh_held}
use Rattle.is_c_theorems.proofs.Common.{given_steps, GivesBased, Held, HeldRecord, IceCreds, inl, inr, IsLogOf, IsNone, IsOf, IsUsed}
use Rattle.is_c_theorems.proofs.Common.{length, List, Logged, mac_of, map, modern_settings, newborn, Preference, quiet, refl, Session}
use Rattle.is_c_theorems.proofs.Common.{SessionsAreRuns, setters_of, setters_onto, Settings, settings_of, settings_onto, SharedRun, Step}
use Rattle.is_c_theorems.proofs.Common.{Stream, stream_of, subst, sym, Used, with_settings, ℕ}
use Rattle.is_c_theorems.proofs.CallsAsSteps.{SetsAll, one}

pub any : Stream
any = stream_of given_steps []

abbrev pub Ran : Held → List (Logged Preference) → Held → Type 0
Ran first log last = SharedRun mac_of answers first log last

-- setters that are called in turn are entries of a log
setters_ran : (calls : List (Call Preference)) (first mid last : Held) (log : List (Logged Preference)) → Ran first log mid
    → Execution mac_of answers (map (λ call. (call, quiet Done)) calls) mid last → Ran first (setters_onto calls log) last
setters_ran [] first mid last log run execution = subst (λ (a : Held). Ran first log a) (sym execution) run
setters_ran (call ∷ more) first mid last log run (next, s, t, given, step, execution) =
    setters_ran more first next last (record { number = length log; call = call; entry = quiet Done } ∷ log) (mid, s, t, run, given, step) execution

module _ (law : AllAreSetInTurn {H = _} {P = Preference} mac_of answers) where
  -- all settings at once
  pub settings_ran : (settings : Settings) (first mid : Held) (log : List (Logged Preference)) → 0 < settings.max_retransmits → Ran first log mid
      → Ran first (settings_onto settings log) (with_settings settings mid)
  settings_ran settings first mid log some run =
      setters_ran (setters_of settings) first mid (with_settings settings mid) log run (law mid settings any some)

  pub new_agent : (creds : IceCreds) (tie_breaker : ℕ)
      → Ran (newborn creds tie_breaker) (settings_onto modern_settings []) (fresh_held creds tie_breaker).agent
  new_agent creds tie_breaker = settings_ran modern_settings (newborn creds tie_breaker) (newborn creds tie_breaker) [] (omega arith) refl

  module _ (creds : IceCreds) (tie_breaker : ℕ) where
    -- C's calls, and the log of them, with the same states
    abbrev pub Walk : List Used → List (Logged Preference) → HeldRecord → Type 0
    Walk [] log held = (log ≡ settings_onto modern_settings []) × (held ≡ fresh_held creds tie_breaker)
    Walk (u ∷ before) log held =
        (mid : HeldRecord) × Does u.export mid u.code held
        × (((held.agent ≡ mid.agent) × IsNone u × Walk before log mid)
        ⊎ (((x : Logged Preference) × (rest : List (Logged Preference)) × (s t : Stream) × (log ≡ x ∷ rest) × IsOf u x × GivesBased x.call
        × Step mac_of answers mid.agent s x.call x.entry held.agent t × Walk before rest mid)
        ⊎ ((all : SetsAll u mid held) × (rest : List (Logged Preference)) × (log ≡ settings_onto (settings_of all.settings) rest) × Walk before rest mid)))

    pub walk : (uses : List Used) (held : HeldRecord) → Session (fresh_held creds tie_breaker) uses held → (log : List (Logged Preference)) × Walk uses log held
    walk [] held is = (settings_onto modern_settings [], (refl, is))
    walk (u ∷ before) held (mid, session, does) = next (walk before mid session) where
      next : (log : List (Logged Preference)) × Walk before log mid → (log : List (Logged Preference)) × Walk (u ∷ before) log held
      next (log, walked) = elim (one (length log) u.export u.code mid held does) as (λ _. (log : List (Logged Preference)) × Walk (u ∷ before) log held) [
        | inl (same, none) ↦ (log, (mid, does, inl (same, none, walked)))
        | inr (inl (x, s, t, is, given, step)) ↦ (x ∷ log, (mid, does, inr (inl (x, log, s, t, refl, is, given, step, walked))))
        | inr (inr all) ↦ (settings_onto (settings_of all.settings) log, (mid, does, inr (inr (all, log, refl, walked))))
      ]

    pub log_is : (uses : List Used) (log : List (Logged Preference)) (held : HeldRecord) → Walk uses log held → IsLogOf uses log
    log_is [] log held walked = search (walked.0)
    log_is (u ∷ before) log held (mid, does, inl (same, none, walked)) = inl (none, log_is before log mid walked)
    log_is (u ∷ before) log held (mid, does, inr (inl (x, rest, s, t, is, of, given, step, walked))) =
        inr (rest, inl (x, is, of), log_is before rest mid walked)
    log_is (u ∷ before) log held (mid, does, inr (inr (all, rest, is, walked))) =
        inr (rest, inr (all.settings, search (all.export), all.ok, search is), log_is before rest mid walked)

    pub run_is : (uses : List Used) (log : List (Logged Preference)) (held : HeldRecord) → Walk uses log held → Ran (newborn creds tie_breaker) log held.agent
    run_is [] log held (is, same) =
        subst (λ (l : List (Logged Preference)). Ran (newborn creds tie_breaker) l held.agent) (sym is)
        (subst (λ (h : HeldRecord). Ran (newborn creds tie_breaker) (settings_onto modern_settings []) h.agent) (sym same) (new_agent creds tie_breaker))
    run_is (u ∷ before) log held (mid, does, inl (same, none, walked)) =
        subst (λ (a : Held). Ran (newborn creds tie_breaker) log a) (sym same) (run_is before log mid walked)
    run_is (u ∷ before) log held (mid, does, inr (inl (x, rest, s, t, is, of, given, step, walked))) =
        subst (λ (l : List (Logged Preference)). Ran (newborn creds tie_breaker) l held.agent) (sym is)
        (mid.agent, s, t, run_is before rest mid walked, given, step)
    run_is (u ∷ before) log held (mid, does, inr (inr (all, rest, is, walked))) =
        subst (λ (l : List (Logged Preference)). Ran (newborn creds tie_breaker) l held.agent) (sym is)
        (subst (λ (a : Held). Ran (newborn creds tie_breaker) (settings_onto (settings_of all.settings) rest) a) (sym all.sets)
        (settings_ran (settings_of all.settings) (newborn creds tie_breaker) mid.agent rest all.some (run_is before rest mid walked)))

    abbrev pub used_of : (uses : List Used) (log : List (Logged Preference)) (held : HeldRecord) → Walk uses log held → IsUsed uses log held
    used_of uses log held walked = record { creds = creds; tie_breaker = tie_breaker; logs = log_is uses log held walked; run = run_is uses log held walked }

  pub sessions_are_runs : SessionsAreRuns
  sessions_are_runs creds tie_breaker uses held session =
      let calls : Session (fresh_held creds tie_breaker) uses held = search session in
      let k = walk creds tie_breaker uses held calls in (k.0, used_of creds tie_breaker uses k.0 held k.1, (search), (search))
