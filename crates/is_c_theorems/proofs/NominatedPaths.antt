-- Each path that C gets by a `NominatedSend` from an agent that was controlled since the last restart was nominated by the peer since then. What
-- mutants/specifications changes is read by tactics.
use Rattle.is_rules.specs.Serving.{as_taken}
use Rattle.is_rules.specs.Steps as agent
use Rattle.is_theorems.specs.Polled as polled
use Rattle.is_c_theorems.specs.Seen.{nominates}
use Rattle.is_c_theorems.specs.Headline.{Nominates, StaysControlled, SelectedAreNominatedByPeer}
use Rattle.is_c_theorems.proofs.Common.{[], ◌<◌, ◌==◌, ◌∙◌, ◌∷◌, ◌≡◌, ◌⊎◌, answers, ap, arith, AskedSince, AsksAt, Bool, Call, Done}
use Rattle.is_c_theorems.proofs.Common.{EachKeeps, Entry, Execution, false, fresh_held, has_numbers, Held, HeldRecord, IceCreds, inl, inr}
use Rattle.is_c_theorems.proofs.Common.{is_restart, IsControlledSinceRestart, IsLogOf, keeps_modern, length, List, mac_of, map, Message}
use Rattle.is_c_theorems.proofs.Common.{modern_settings, newborn, NominatedSince, Path, Preference, quiet, refl, request_in, Session}
use Rattle.is_c_theorems.proofs.Common.{setters_of, setters_onto, Settings, settings_of, settings_onto, Since, Step, Stream, subst, sym}
use Rattle.is_c_theorems.proofs.Common.{true, Used, WaitingAreNominatedSince, with_settings, ℕ}
use Rattle.is_c_theorems.proofs.AlongExecutions.{is_new, full_log}
use Rattle.is_c_theorems.proofs.CallsAsSteps.{never, either, one}
use Rattle.is_c_theorems.proofs.LogsOfCalls.{Ran, any}
use Rattle.is_c_theorems.proofs.SeenCalls.{restarted, not_restarted, idle_restart, set_restart, accepts, none_brought}
use Rattle.is_c_theorems.proofs.SettingsOfCalls.{Log, modern_log}
use Rattle.is_c_theorems.proofs.AnsweredPaths.{Turn, setter}
use Rattle.is_c_theorems.proofs.PolledPaths.{waited}

-- The path was nominated since the last restart, whether nominations have numbers or not.
abbrev AskedSome : Log → Path → Type 0
AskedSome [] path = ⊥
AskedSome (x ∷ before) path =
    ((numbered : Bool) × AsksAt numbered x path) ⊎ ((polled.restarts x.call x.entry.answer ≡ false) × AskedSome before path)

asked_some : (numbered : Bool) (log : Log) (path : Path) → AskedSince numbered log path → AskedSome log path
asked_some numbered [] path none = none
asked_some numbered (x ∷ before) path (inl now) = inl (numbered, now)
asked_some numbered (x ∷ before) path (inr (none, was)) = inr (none, asked_some numbered before path was)

nominated_some : (log : Log) (path : Path) → NominatedSince log path → AskedSome log path
nominated_some [] path none = none
nominated_some (x ∷ before) path (inl now) = asked_some (has_numbers before) (x ∷ before) path now
nominated_some (x ∷ before) path (inr (none, was)) = inr (none, nominated_some before path was)

asked_before : (calls : List (Call Preference)) (log : Log) (path : Path) → AskedSome (setters_onto calls log) path → AskedSome log path
asked_before [] log path asked = asked
asked_before (call ∷ more) log path asked = by (asked_before more (setter call log ∷ log) path asked) where
  by : AskedSome (setter call log ∷ log) path → AskedSome log path
  by (inl (numbered, (at, via, m, brings, binding, request, asks_it, to))) = absurd (none_brought call at via m brings)
  by (inr (none, was)) = was

taken : (numbered : Bool) (at : ℕ) (by : Path) (m : Message) → (as_taken numbered (request_in at by m)).use_candidate ≡ true → nominates numbered m ≡ true
taken true at by m is = search is
taken false at by m is = search is

asked : (uses : List Used) (log : Log) (path : Path) → IsLogOf uses log → AskedSome log path → Since is_restart (Nominates path) uses
asked [] log path is k = absurd (asked_before (setters_of modern_settings) [] path (subst (λ (l : Log). AskedSome l path) is k))
asked (u ∷ before) log path (inl (none, logs)) k = inr (idle_restart u.export u.code none, asked before log path logs k)
asked (u ∷ before) log path (inr (rest, inl (x, is, of), logs)) k = by (λ was. asked before rest path logs was) (subst (λ (l : Log). AskedSome l path) is k) where
  by : (AskedSome rest path → Since is_restart (Nominates path) before) → AskedSome (x ∷ rest) path → Since is_restart (Nominates path) (u ∷ before)
  by on (inl (numbered, (at, via, m, brings, binding, request, asks_it, to))) =
      inl (via, m, numbered, accepts u.export x.call x.entry u.code at via m of.makes of.answers brings, binding, request, taken numbered at via m asks_it, to)
  by on (inr (kept, was)) = inr (not_restarted u.export x.call x.entry.answer u.code of.makes of.answers kept, on was)
asked (u ∷ before) log path (inr (rest, inr (s, export, ok, is), logs)) k =
    inr (set_restart u s export, asked before rest path logs (asked_before (setters_of (settings_of s)) rest path (subst (λ (l : Log). AskedSome l path) is k)))

-- ---- controlled in each state of the log

-- a setter that leaves the role
abbrev leaves_role : Call Preference → Bool
leaves_role (agent.SetProfile profile) = true
leaves_role (agent.SetConsent consent) = true
leaves_role (agent.SetMaxStunRetransmits n) = true
leaves_role (agent.SetLiteTimeout by) = true
leaves_role (agent.SetInitialStunRto rto) = true
leaves_role (agent.SetMaxStunRto rto) = true
leaves_role (agent.SetTimingAdvance by) = true
leaves_role (agent.SetMaxCandidatePairs n) = true
leaves_role (agent.SetMaxDiscovered limit) = true
leaves_role (agent.SetMaxCandidates limit) = true
leaves_role (agent.SetRenomination renominates) = true
leaves_role _ = false

role_kept : (call : Call Preference) → leaves_role call ≡ true → (old new : Held) (s t : Stream) (e : Entry) → Step mac_of answers old s call e new t
    → new.controlling ≡ old.controlling
role_kept (agent.SetProfile profile) is old new s t e step = ap (λ (a : Held). a.controlling) step.1
role_kept (agent.SetConsent consent) is old new s t e step = ap (λ (a : Held). a.controlling) step.1
role_kept (agent.SetMaxStunRetransmits n) is old new s t e step =
    either (n == 0) (λ k. ap (λ (a : Held). a.controlling) k.1) (λ k. ap (λ (a : Held). a.controlling) k.1) step
role_kept (agent.SetLiteTimeout by) is old new s t e step = ap (λ (a : Held). a.controlling) step.1
role_kept (agent.SetInitialStunRto rto) is old new s t e step = ap (λ (a : Held). a.controlling) step.1
role_kept (agent.SetMaxStunRto rto) is old new s t e step = ap (λ (a : Held). a.controlling) step.1
role_kept (agent.SetTimingAdvance by) is old new s t e step = ap (λ (a : Held). a.controlling) step.1
role_kept (agent.SetMaxCandidatePairs n) is old new s t e step = ap (λ (a : Held). a.controlling) step.1
role_kept (agent.SetMaxDiscovered limit) is old new s t e step = ap (λ (a : Held). a.controlling) step.1
role_kept (agent.SetMaxCandidates limit) is old new s t e step = ap (λ (a : Held). a.controlling) step.1
role_kept (agent.SetRenomination renominates) is old new s t e step = ap (λ (a : Held). a.controlling) step.1
role_kept _ is old new s t e step = never is

abbrev AllLeave : List (Call Preference) → Type 0
AllLeave [] = Unit {0}
AllLeave (call ∷ more) = (leaves_role call ≡ true) × AllLeave more

all_leave : (settings : Settings) → AllLeave (setters_of settings)
all_leave settings = (refl, (refl, (refl, (refl, (refl, (refl, (refl, (refl, (refl, (refl, (refl, tt)))))))))))

-- an execution in which the agent is controlled in each state since the last restart, if this is so
abbrev Calm : Type 0 → Held → Log → Held → Type 0
Calm Is first log last = (run : Ran first log last) × (Is → IsControlledSinceRestart mac_of answers first log last run)

calm_setters : {Is : Type 0} (calls : List (Call Preference)) → AllLeave calls → (first mid last : Held) (log : Log) → Calm Is first log mid
    → (Is → mid.controlling ≡ false) → Execution mac_of answers (map (λ call. (call, quiet Done)) calls) mid last → Calm Is first (setters_onto calls log) last
calm_setters {Is = Is} [] leave first mid last log calm role execution = subst (λ (a : Held). Calm Is first log a) (sym execution) calm
calm_setters {Is = Is} (call ∷ more) (here, leave) first mid last log (run, since_it) role (next, s, t, given, step, execution) =
    let kept : (is : Is) → next.controlling ≡ false = λ is. role_kept call here mid next s t (quiet Done) step ∙ role is in
    calm_setters more leave first next last (setter call log ∷ log) ((mid, s, t, run, given, step), λ is. (kept is, inr (since_it is))) kept execution

module _ (turn : Turn) (creds : IceCreds) (tie_breaker : ℕ) where
  calm_all : (Is : Type 0) (settings : Settings) (mid last : Held) (log : Log) → 0 < settings.max_retransmits → last ≡ with_settings settings mid
      → Calm Is (newborn creds tie_breaker) log mid → (Is → mid.controlling ≡ false) → Calm Is (newborn creds tie_breaker) (settings_onto settings log) last
  calm_all Is settings mid last log some is calm role =
      subst (λ (a : Held). Calm Is (newborn creds tie_breaker) (settings_onto settings log) a) (sym is)
      (calm_setters (setters_of settings) (all_leave settings) (newborn creds tie_breaker) mid (with_settings settings mid) log calm role (turn mid settings any some))

  abbrev Stays : (uses : List Used) (held : HeldRecord) → Session (fresh_held creds tie_breaker) uses held → Type 0
  Stays uses held session = StaysControlled (fresh_held creds tie_breaker) uses held session

  -- after a call that is no restart
  stayed : (u : Used) (before : List Used) (held : HeldRecord) (session : Session (fresh_held creds tie_breaker) (u ∷ before) held) → is_restart u ≡ false
      → Stays (u ∷ before) held session → Stays before session.0 session.1
  stayed u before held session none (role, inl restart) = let so : is_restart u ≡ true = search restart in never (sym none ∙ so)
  stayed u before held session none (role, inr was) = was

  -- with the log of C's calls
  calm_of : (uses : List Used) (held : HeldRecord) (session : Session (fresh_held creds tie_breaker) uses held)
      → (log : Log) × IsLogOf uses log × Calm (Stays uses held session) (newborn creds tie_breaker) log held.agent
  calm_of [] held is = (
    settings_onto modern_settings [],
    refl,
    calm_all (held.agent.controlling ≡ false) modern_settings (newborn creds tie_breaker) held.agent [] (omega arith) (ap (λ (h : HeldRecord). h.agent) is)
        (refl, λ _. refl) (λ _. refl),
  )
  calm_of (u ∷ before) held (mid, session, does) = next (calm_of before mid session) where
    Now : Type 0
    Now = Stays (u ∷ before) held (mid, session, does)

    next : (log : Log) × IsLogOf before log × Calm (Stays before mid session) (newborn creds tie_breaker) log mid.agent
        → (log : Log) × IsLogOf (u ∷ before) log × Calm Now (newborn creds tie_breaker) log held.agent
    next (log, logs, (run, since_it)) = elim (one (length log) u.export u.code mid held does)
        as (λ _. (log : Log) × IsLogOf (u ∷ before) log × Calm Now (newborn creds tie_breaker) log held.agent) [
          | inl (same, none) ↦ (
            log,
            inl (none, logs),
            subst (λ (a : Held). Calm Now (newborn creds tie_breaker) log a) (sym same)
                (run, λ is. since_it (stayed u before held (mid, session, does) (idle_restart u.export u.code none) is)),
          )
          | inr (inl (x, s, t, is, given, step)) ↦ (
            x ∷ log,
            inr (log, inl (x, refl, is), logs),
            (
              (mid.agent, s, t, run, given, step),
              λ stays. (
                stays.0,
                elim stays.1 [
                  | inl restart ↦ inl (restarted u.export x.call x.entry.answer u.code is.makes is.answers (search restart))
                  | inr was ↦ inr (since_it was)
                ],
              ),
            ),
          )
          | inr (inr all) ↦ (
            settings_onto (settings_of all.settings) log,
            inr (log, inr (all.settings, all.export, all.ok, refl), logs),
            calm_all Now (settings_of all.settings) mid.agent held.agent log all.some all.sets
                (run, λ is. since_it (stayed u before held (mid, session, does) (set_restart u all.settings all.export) is))
                (λ is. sym (ap (λ (a : Held). a.controlling) all.sets) ∙ is.0),
          )
        ]

pub are_nominated_by_peer : Turn → WaitingAreNominatedSince {H = _} {P = Preference} mac_of answers → SelectedAreNominatedByPeer
are_nominated_by_peer turn law creds tie_breaker before held after u path session each controlled does selects =
    let stays : StaysControlled (fresh_held creds tie_breaker) before held session = search controlled in
    let k = calm_of turn creds tie_breaker before held session in
    let kept : EachKeeps keeps_modern before = search each in
    let found = law (newborn creds tie_breaker) held.agent k.0 (is_new creds tie_breaker) (full_log before k.0 k.1 kept) (modern_log before k.0 k.1 kept)
    k.2.0 (k.2.1 stays) path (waited u held after path does selects) in
    search (asked before k.0 path k.1 (nominated_some k.0 path found))
