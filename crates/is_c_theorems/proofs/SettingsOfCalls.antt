-- The settings along C's calls are those that C set. What mutants/specifications changes is read by tactics.
use Rattle.is_proto.specs.Times.{MILLISECOND}
use Rattle.is_stun.specs.declared.timing.StunTiming.{StunTiming}
use Rattle.is_rules.specs.Steps as agent
use Rattle.is_theorems.specs.Polled.{restarts}
use Rattle.is_c_theorems.proofs.Common.{[], ◌*◌, ◌∙◌, ◌∷◌, ◌≡◌, AddLocal, AddLocalLine, AddRemote, AddsTo, all_settings_of, AllAreSetInTurn}
use Rattle.is_c_theorems.proofs.Common.{Answer, Answers, answers, ap, Ask, Bool, Call, consent_of, counts, delay_millis, DISCOVERED_LIMIT}
use Rattle.is_c_theorems.proofs.Common.{EachKeeps, false, FixTimes, fresh_held, HandlePacket, HandleTimeout, Held, IceCreds, if◌then◌else◌}
use Rattle.is_c_theorems.proofs.Common.{inl, inr, Invalidate, InvalidateLocal, is_done, is_modern_profile, is_ok, IsLogOf}
use Rattle.is_c_theorems.proofs.Common.{IsModernAtRestart, IsOf, keeps_consent, keeps_limit, keeps_modern, List, lite_set_by, Logged}
use Rattle.is_c_theorems.proofs.Common.{mac_of, Makes, modern_consent, modern_settings, NeverLite, newborn, not, numbering_of}
use Rattle.is_c_theorems.proofs.Common.{numbering_set, numbering_set_by, Option, PollEvent, PollTimeout, PollTransmit, Preference}
use Rattle.is_c_theorems.proofs.Common.{profile_of, RecreatePairs, refl, Restart, SendFailed, Session, SetControlling, SetInitialRto}
use Rattle.is_c_theorems.proofs.Common.{SetLite, SetLiteTimeout, SetLocalCredentials, SetMaxCandidates, SetMaxDiscovered, SetMaxPairs}
use Rattle.is_c_theorems.proofs.Common.{SetMaxRetransmits, SetMaxRto, SetMtu, SetPreference, SetRemoteCredentials, SetRenomination, sets}
use Rattle.is_c_theorems.proofs.Common.{SetSettings, SetSilence, SetTieBreaker, SetTimingAdvance, Settings, settings_after, settings_along}
use Rattle.is_c_theorems.proofs.Common.{settings_by, settings_of, settings_onto, SettingsAreSet, SettingsAreThoseSet, SettingsRecord}
use Rattle.is_c_theorems.proofs.Common.{SharedRun, SkipPairIds, Some, subst, sym, timeout_of, true, Use, Used, ℕ, ℤ}
use Rattle.is_c_theorems.proofs.CallsAsSteps.{never}
use Rattle.is_c_theorems.proofs.LogsOfCalls.{walk, log_is, run_is}

abbrev pub Chosen : Type 0
Chosen = SettingsRecord Preference

-- ---- one call

if_same : {A : Type 0} (b : Bool) (x : A) → (if b then x else x) ≡ x
if_same true x = refl
if_same false x = refl

-- what its call of the agent sets is what it sets
abbrev SetsAs : Use → Call Preference → Answer → ℤ → Chosen → Type 0
SetsAs export call answer code k = settings_after call answer k ≡ (if is_ok code then sets export k else k)

as_made : (export : Use) (call made : Call Preference) (answer : Answer) (code : ℤ) (k : Chosen) → call ≡ made → SetsAs export made answer code k
    → SetsAs export call answer code k
as_made export call made answer code k is h = subst (λ (c : Call Preference). SetsAs export c answer code k) (sym is) h

-- a setter that always succeeds
sure : (export : Use) (call made : Call Preference) (answer : Answer) (code : ℤ) (k : Chosen) → call ≡ made → is_ok code ≡ true
    → settings_after made answer k ≡ sets export k → SetsAs export call answer code k
sure export call made answer code k is ok h =
    as_made export call made answer code k is (h ∙ sym (ap (λ (b : Bool). if b then sets export k else k) ok))

-- one that may fail
may : (export : Use) (call made : Call Preference) (answer : Answer) (code : ℤ) (k : Chosen) → call ≡ made → is_done answer ≡ is_ok code
    → settings_after made answer k ≡ (if is_done answer then sets export k else k) → SetsAs export call answer code k
may export call made answer code k is same h =
    as_made export call made answer code k is (h ∙ ap (λ (b : Bool). if b then sets export k else k) same)

-- any other call
other : (export : Use) (call made : Call Preference) (answer : Answer) (code : ℤ) (k : Chosen) → call ≡ made → settings_after made answer k ≡ k
    → sets export k ≡ k → SetsAs export call answer code k
other export call made answer code k is same none =
    as_made export call made answer code k is (same ∙ sym (ap (λ (x : Chosen). if is_ok code then x else k) none ∙ if_same (is_ok code) k))

sets_as : (export : Use) (call : Call Preference) (answer : Answer) (code : ℤ) (k : Chosen) → Makes export call → Answers export answer code → SetsAs export call answer code k
sets_as Ask call answer code k m a = absurd m
sets_as (SetSilence n) call answer code k m a = absurd m
sets_as (SendFailed p s d r) call answer code k m a = absurd m
sets_as (SetSettings s) call answer code k m a = absurd m
sets_as (SetControlling role) call answer code k m a = other (SetControlling role) call _ answer code k m refl refl
sets_as (SetLite lite) call answer code k m a = sure (SetLite lite) call _ answer code k m (ap is_ok a.1) refl
sets_as (SetRenomination enabled) call answer code k m a = sure (SetRenomination enabled) call _ answer code k m (ap is_ok a.1) refl
sets_as (SetTieBreaker n) call answer code k m a = sure (SetTieBreaker n) call _ answer code k m (ap is_ok a.1) refl
sets_as (SetMaxPairs n) call answer code k m a = sure (SetMaxPairs n) call _ answer code k m (ap is_ok a.1) refl
sets_as (SetMaxDiscovered n) call answer code k m a = sure (SetMaxDiscovered n) call _ answer code k m (ap is_ok a.1) (search)
sets_as (SetMaxCandidates n) call answer code k m a = sure (SetMaxCandidates n) call _ answer code k m (ap is_ok a.1) (search)
sets_as (SetTimingAdvance n) call answer code k m a = sure (SetTimingAdvance n) call _ answer code k m (ap is_ok a.1) refl
sets_as (SetInitialRto n) call answer code k m a = sure (SetInitialRto n) call _ answer code k m (ap is_ok a.1) refl
sets_as (SetMaxRto n) call answer code k m a = sure (SetMaxRto n) call _ answer code k m (ap is_ok a.1) (search)
sets_as (SetLiteTimeout n) call answer code k m a = sure (SetLiteTimeout n) call _ answer code k m (ap is_ok a.1) refl
sets_as (SetPreference p) call answer code k m a = sure (SetPreference p) call _ answer code k m (ap is_ok a.1) refl
sets_as (SetMaxRetransmits n) call answer code k m a = may (SetMaxRetransmits n) call _ answer code k m (ap is_done a.0 ∙ sym (ap is_ok a.1)) refl
sets_as (SetMtu mtu warn) call answer code k m a = may (SetMtu mtu warn) call _ answer code k m a.1 (search)
sets_as (SkipPairIds n) call answer code k m a = other (SkipPairIds n) call _ answer code k m refl refl
sets_as (SetLocalCredentials u p) call answer code k m a = other (SetLocalCredentials u p) call _ answer code k m refl refl
sets_as (SetRemoteCredentials u p) call answer code k m a = other (SetRemoteCredentials u p) call _ answer code k m refl refl
sets_as (AddLocal c b d) call answer code k m a = other (AddLocal c b d) call _ answer code k m.2 refl refl
sets_as (AddLocalLine l b d) call answer code k m a = other (AddLocalLine l b d) call _ answer code k m.2 refl refl
sets_as (AddRemote l b d) call answer code k m a = other (AddRemote l b d) call _ answer code k m.2 refl refl
sets_as (InvalidateLocal c) call answer code k m a = other (InvalidateLocal c) call _ answer code k m.2 refl refl
sets_as (Invalidate l) call answer code k m a = other (Invalidate l) call _ answer code k m.2 refl refl
sets_as (Restart u p keep) call answer code k m a = other (Restart u p keep) call _ answer code k m refl refl
sets_as RecreatePairs call answer code k m a = other RecreatePairs call _ answer code k m refl refl
sets_as (HandlePacket n p s d b) call answer code k m a = other (HandlePacket n p s d b) call _ answer code k m.2 refl refl
sets_as (HandleTimeout n r) call answer code k m a = other (HandleTimeout n r) call _ answer code k m refl refl
sets_as (PollTransmit b d known r) call answer code k m a = other (PollTransmit b d known r) call _ answer code k m refl refl
sets_as (PollTimeout b d) call answer code k m a = other (PollTimeout b d) call _ answer code k m refl refl
sets_as (FixTimes soon) call answer code k m a = other (FixTimes soon) call _ answer code k m refl refl
sets_as (PollEvent b d) call answer code k m a = other (PollEvent b d) call _ answer code k m refl refl

-- what is none of the agent's calls sets nothing
unset : (b : Bool) (x k : Chosen) → b ≡ false → (if b then x else k) ≡ k
unset true x k is = never (sym is)
unset false x k is = refl

keeps_none : (export : Use) (code : ℤ) (k : Chosen) → (counts export ≡ true → is_ok code ≡ false) → (if is_ok code then sets export k else k) ≡ k
keeps_none (SetSettings s) code k none = unset (is_ok code) _ k (none refl)
keeps_none (SetLite x) code k none = unset (is_ok code) _ k (none refl)
keeps_none (SetRenomination x) code k none = unset (is_ok code) _ k (none refl)
keeps_none (SetTieBreaker x) code k none = unset (is_ok code) _ k (none refl)
keeps_none (SetMaxPairs x) code k none = unset (is_ok code) _ k (none refl)
keeps_none (SetMaxDiscovered x) code k none = unset (is_ok code) _ k (none refl)
keeps_none (SetMaxCandidates x) code k none = unset (is_ok code) _ k (none refl)
keeps_none (SetTimingAdvance x) code k none = unset (is_ok code) _ k (none refl)
keeps_none (SetInitialRto x) code k none = unset (is_ok code) _ k (none refl)
keeps_none (SetMaxRto x) code k none = unset (is_ok code) _ k (none refl)
keeps_none (SetLiteTimeout x) code k none = unset (is_ok code) _ k (none refl)
keeps_none (SetMaxRetransmits x) code k none = unset (is_ok code) _ k (none refl)
keeps_none (SetMtu x y) code k none = unset (is_ok code) _ k (none refl)
keeps_none (SetPreference x) code k none = unset (is_ok code) _ k (none refl)
keeps_none _ code k none = if_same (is_ok code) k

-- ---- all calls

abbrev pub Log : Type 0
Log = List (Logged Preference)

-- all settings at once set their value
pub all_along : (settings : Settings) (k : Chosen) (log : Log) → settings_along k (settings_onto settings log) ≡ record (settings_along k log) { settings = settings }
all_along settings k log = refl

abbrev pub begins : Chosen → Chosen
begins k = record k { settings = modern_settings }

added_along : (u : Used) (before log : Log) (k : Chosen) → AddsTo before u log
    → settings_along k log ≡ (if is_ok u.code then sets u.export (settings_along k before) else settings_along k before)
added_along u before log k (inl (x, is, of)) =
    ap (λ (l : Log). settings_along k l) is ∙ sets_as u.export x.call x.entry.answer u.code (settings_along k before) of.makes of.answers
added_along u before log k (inr (s, export, ok, is)) =
    let export_is : u.export ≡ SetSettings s = search export in
    ap (λ (l : Log). settings_along k l) is ∙ (all_along (settings_of s) k before
    ∙ sym (ap (λ (b : Bool). if b then sets u.export (settings_along k before) else settings_along k before) ok
    ∙ ap (λ (e : Use). sets e (settings_along k before)) export_is))

-- The settings along the log are those that C set.
pub along : (uses : List Used) (log : Log) (k : Chosen) → IsLogOf uses log → settings_along k log ≡ settings_by (begins k) uses
along [] log k is = ap (λ (l : Log). settings_along k l) is ∙ all_along modern_settings k []
along (u ∷ before) log k (inl (none, logs)) =
    search (along before log k logs ∙ sym (keeps_none u.export u.code (settings_by (begins k) before) none))
along (u ∷ before) log k (inr (rest, adds, logs)) =
    added_along u rest log k adds ∙ ap (λ (s : Chosen). if is_ok u.code then sets u.export s else s) (along before rest k logs)

module _ (law : SettingsAreSet {H = _} {P = Preference} mac_of answers) where
  pub settings_last : (first last : Held) (log : Log) → SharedRun mac_of answers first log last → all_settings_of last ≡ settings_along (all_settings_of first) log
  settings_last first last [] run = ap (λ (a : Held). all_settings_of a) run
  settings_last first last (x ∷ before) (mid, s, t, run, given, step) =
      law mid last s t x.call x.entry step ∙ ap (λ (k : Chosen). settings_after x.call x.entry.answer k) (settings_last first mid before run)

  -- the settings of the agent that C holds
  pub settings_now : (creds : IceCreds) (tie_breaker : ℕ) (uses : List Used) (log : Log) (last : Held) → IsLogOf uses log
      → SharedRun mac_of answers (newborn creds tie_breaker) log last
      → all_settings_of last ≡ settings_by (begins (all_settings_of (newborn creds tie_breaker))) uses
  settings_now creds tie_breaker uses log last logs run =
      settings_last (newborn creds tie_breaker) last log run ∙ along uses log (all_settings_of (newborn creds tie_breaker)) logs

  pub those_set : AllAreSetInTurn {H = _} {P = Preference} mac_of answers → SettingsAreThoseSet
  those_set turn creds tie_breaker uses held session =
      let calls : Session (fresh_held creds tie_breaker) uses held = search session in
      let k = walk turn creds tie_breaker uses held calls in
      search (settings_now creds tie_breaker uses k.0 held.agent (log_is turn creds tie_breaker uses k.0 held k.1) (run_is turn creds tie_breaker uses k.0 held k.1))

-- ---- what C leaves

pub rest_of : (keeps : Use → Bool) (u : Used) (before : List Used) → EachKeeps keeps (u ∷ before) → EachKeeps keeps before
rest_of keeps u before each v has = each v (inr has)

-- what each call leaves, all leave
pub kept_by : {A : Type 0} (part : Chosen → A) (keeps : Use → Bool) (Fits : A → Type 0)
    → ((export : Use) (k : Chosen) → keeps export ≡ true → Fits (part k) → Fits (part (sets export k)))
    → (uses : List Used) (k : Chosen) → EachKeeps keeps uses → Fits (part k) → Fits (part (settings_by k uses))
kept_by part keeps Fits leaves [] k each fits = fits
kept_by part keeps Fits leaves (u ∷ before) k each fits = by (is_ok u.code) (kept_by part keeps Fits leaves before k (rest_of keeps u before each) fits) where
  by : (b : Bool) → Fits (part (settings_by k before)) → Fits (part (if b then sets u.export (settings_by k before) else settings_by k before))
  by true were = leaves u.export (settings_by k before) (each u (inl refl)) were
  by false were = were

not_lite : (b : Bool) → not b ≡ true → b ≡ false
not_lite true is = never is
not_lite false is = refl

-- the profile `Modern`
abbrev pub IsModern : Chosen → Type 0
IsModern k = is_modern_profile k.settings.profile ≡ true

stays_modern : (export : Use) (k : Chosen) → keeps_modern export ≡ true → IsModern k → IsModern (sets export k)
stays_modern (SetSettings s) k is m = let on : s.modern ≡ true = search is in ap (λ (b : Bool). is_modern_profile (profile_of b)) on
stays_modern _ k is m = m

pub modern_by : (uses : List Used) (k : Chosen) → EachKeeps keeps_modern uses → IsModern k → IsModern (settings_by k uses)
modern_by uses k each is = kept_by (λ (s : Chosen). s) keeps_modern (λ s. IsModern s) stays_modern uses k each is

-- ---- the profile at restarts

numbering_along : (first : Chosen) (log : Log) → first.settings.renomination ≡ false → is_modern_profile first.settings.profile ≡ false
    → is_modern_profile (settings_along first log).settings.profile ≡ (numbering_of log).1
numbering_along first log none plain = ap (λ (set : Bool × Bool). set.1) (both log) where
  both : (log : Log) → ((settings_along first log).settings.renomination, is_modern_profile (settings_along first log).settings.profile) ≡ numbering_of log
  both [] = ap (λ (b : Bool). (b, is_modern_profile first.settings.profile)) none ∙ ap (λ (b : Bool). (false, b)) plain
  both (x ∷ before) =
      numbering_set x.call x.entry.answer (settings_along first before) ∙ ap (λ (set : Bool × Bool). numbering_set_by x.call set) (both before)

-- no setter restarts
set_modern : (settings : Settings) (log : Log) → IsModernAtRestart log → IsModernAtRestart (settings_onto settings log)
set_modern settings log was =
    inr (refl, inr (refl, inr (refl, inr (refl, inr (refl, inr (refl, inr (refl, inr (refl, inr (refl, inr (refl, inr (refl, was)))))))))))

-- the settings of a new agent, before it gets those of `Modern`
abbrev pub new_settings : Chosen
new_settings = all_settings_of (newborn (record { ufrag = []; pass = [] }) 0)

pub modern_log : (uses : List Used) (log : Log) → IsLogOf uses log → EachKeeps keeps_modern uses → IsModernAtRestart log
modern_log [] log is each = subst (λ (l : Log). IsModernAtRestart l) (sym is) (set_modern modern_settings [] tt)
modern_log (u ∷ before) log (inl (none, logs)) each = modern_log before log logs (rest_of keeps_modern u before each)
modern_log (u ∷ before) log (inr (rest, inl (x, is, of), logs)) each =
    subst (λ (l : Log). IsModernAtRestart l) (sym is)
    (by (restarts x.call x.entry.answer) (modern_log before rest logs (rest_of keeps_modern u before each)) refl) where
      by : (b : Bool) → IsModernAtRestart rest → restarts x.call x.entry.answer ≡ b → IsModernAtRestart (x ∷ rest)
      by true were restart =
          inl (
            restart,
            sym (numbering_along new_settings rest refl refl)
                ∙ subst (λ (k : Chosen). IsModern k) (sym (along before rest new_settings logs))
                (modern_by before (begins new_settings) (rest_of keeps_modern u before each) refl),
          )
      by false were none = inr (none, were)
modern_log (u ∷ before) log (inr (rest, inr (s, export, ok, is), logs)) each =
    subst (λ (l : Log). IsModernAtRestart l) (sym is) (set_modern (settings_of s) rest (modern_log before rest logs (rest_of keeps_modern u before each)))

-- ---- a full agent

lite_same : (call : Call Preference) (answer : Answer) (k : Chosen) → (settings_after call answer k).lite ≡ lite_set_by call k.lite
lite_same (agent.SetMtu mtu warn) answer k = by (is_done answer) where
  by : (b : Bool) → (if b then record k { mtu = mtu; mtu_warn = warn } else k).lite ≡ k.lite
  by true = refl
  by false = refl
lite_same (agent.SetMaxStunRetransmits n) answer k = by (is_done answer) where
  by : (b : Bool) → (if b then record k { settings = record k.settings { max_retransmits = n } } else k).lite ≡ k.lite
  by true = refl
  by false = refl
lite_same _ answer k = refl

stays_full : (keeps : Use → Bool) → ((lite : Bool) → keeps (SetLite lite) ≡ true → lite ≡ false)
    → (export : Use) (k : Chosen) → keeps export ≡ true → k.lite ≡ false → (sets export k).lite ≡ false
stays_full keeps full (SetLite lite) k is m = full lite is
stays_full keeps full _ k is m = m

module _ (keeps : Use → Bool) (full : (lite : Bool) → keeps (SetLite lite) ≡ true → lite ≡ false) (some : Chosen) (begins_full : some.lite ≡ false) where
  -- what a call makes of a full agent
  leaves_full : (export : Use) (code : ℤ) → keeps export ≡ true → (if is_ok code then sets export some else some).lite ≡ false
  leaves_full export code is = by (is_ok code) where
    by : (b : Bool) → (if b then sets export some else some).lite ≡ false
    by true = stays_full keeps full export some is begins_full
    by false = begins_full

  entry_full : (u : Used) (x : Logged Preference) → IsOf u x → keeps u.export ≡ true → lite_set_by x.call false ≡ false
  entry_full u x of is =
      sym (ap (λ (b : Bool). lite_set_by x.call b) begins_full) ∙ (sym (lite_same x.call x.entry.answer some)
      ∙ (ap (λ (k : Chosen). k.lite) (sets_as u.export x.call x.entry.answer u.code some of.makes of.answers) ∙ leaves_full u.export u.code is))

  all_full : (settings : Settings) (log : Log) → NeverLite log → NeverLite (settings_onto settings log)
  all_full settings log full = (refl, (refl, (refl, (refl, (refl, (refl, (refl, (refl, (refl, (refl, (refl, full)))))))))))

  pub never_lite : (uses : List Used) (log : Log) → IsLogOf uses log → EachKeeps keeps uses → NeverLite log
  never_lite [] log is each = subst (λ (l : Log). NeverLite l) (sym is) (all_full modern_settings [] tt)
  never_lite (u ∷ before) log (inl (none, logs)) each = never_lite before log logs (rest_of keeps u before each)
  never_lite (u ∷ before) log (inr (rest, inl (x, is, of), logs)) each =
      subst (λ (l : Log). NeverLite l) (sym is) (entry_full u x of (each u (inl refl)), never_lite before rest logs (rest_of keeps u before each))
  never_lite (u ∷ before) log (inr (rest, inr (s, export, ok, is), logs)) each =
      subst (λ (l : Log). NeverLite l) (sym is) (all_full (settings_of s) rest (never_lite before rest logs (rest_of keeps u before each)))

pub modern_full : (lite : Bool) → keeps_modern (SetLite lite) ≡ true → lite ≡ false
modern_full lite is = not_lite lite (search is)

pub consent_full : (lite : Bool) → keeps_consent (SetLite lite) ≡ true → lite ≡ false
consent_full lite is = not_lite lite (search is)

-- ---- consent

-- the timing, without what only a lite agent uses
abbrev pub times : Chosen → StunTiming
times k = record {
  initial_rto = k.settings.initial_rto;
  max_retransmits = k.settings.max_retransmits;
  max_rto = k.settings.max_rto;
  lite_timeout = record { 0 = 0 };
  profile = k.settings.profile;
  consent = k.settings.consent;
}

without_lite : (t : StunTiming) → consent_of t ≡ consent_of (record t { lite_timeout = record { 0 = 0 } })
unfolding timeout_of delay_millis
without_lite t = refl

default_is : (k : Chosen) → consent_of (times (begins k)) ≡ Some modern_consent
unfolding timeout_of delay_millis
default_is k =
    let so : consent_of (times (begins k)) ≡ Some (record { timeout = record { 0 = 29600 * MILLISECOND }; strict = false }) = refl in search so

by_default : (k first : Chosen) → times k ≡ times (begins first) → consent_of (times k) ≡ Some modern_consent
by_default k first is = ap (λ (t : StunTiming). consent_of t) is ∙ default_is first

stays_timed : (first : StunTiming) (export : Use) (k : Chosen) → keeps_consent export ≡ true → times k ≡ first → times (sets export k) ≡ first
stays_timed first (SetSettings s) k is m = let no : false ≡ true = search is in never no
stays_timed first (SetInitialRto x) k is m = let no : false ≡ true = search is in never no
stays_timed first (SetMaxRto x) k is m = let no : false ≡ true = search is in never no
stays_timed first (SetMaxRetransmits x) k is m = let no : false ≡ true = search is in never no
stays_timed first _ k is m = m

pub consent_by : (uses : List Used) (k : Chosen) (last : Held) → EachKeeps keeps_consent uses → all_settings_of last ≡ settings_by (begins k) uses
    → consent_of last.timing ≡ Some modern_consent
consent_by uses k last each is =
    let fits : times (settings_by (begins k) uses) ≡ times (begins k) = kept_by times keeps_consent (λ (t : StunTiming). t ≡ times (begins k))
    (stays_timed (times (begins k))) uses (begins k) each refl in
    without_lite last.timing ∙ (ap (λ (s : Chosen). consent_of (times s)) is ∙ by_default (settings_by (begins k) uses) k fits)

-- ---- the limit on what packets bring

stays_limited : (export : Use) (k : Chosen) → keeps_limit export ≡ true → k.settings.max_discovered ≡ Some DISCOVERED_LIMIT
    → (sets export k).settings.max_discovered ≡ Some DISCOVERED_LIMIT
stays_limited (SetSettings s) k is m = let no : false ≡ true = search is in never no
stays_limited (SetMaxDiscovered x) k is m = let no : false ≡ true = search is in never no
stays_limited _ k is m = m

pub limit_by : (uses : List Used) (k : Chosen) (last : Held) → EachKeeps keeps_limit uses → all_settings_of last ≡ settings_by (begins k) uses
    → last.max_discovered ≡ Some DISCOVERED_LIMIT
limit_by uses k last each is =
    let first : (begins k).settings.max_discovered ≡ Some 32 = refl in
    let limit : (begins k).settings.max_discovered ≡ Some DISCOVERED_LIMIT = search first in
    ap (λ (s : Chosen). s.settings.max_discovered) is
    ∙ kept_by (λ (s : Chosen). s.settings.max_discovered) keeps_limit (λ (o : Option ℕ). o ≡ Some DISCOVERED_LIMIT) stays_limited uses (begins k) each limit
