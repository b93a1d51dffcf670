-- What C saw of each entry of the log: the bytes that it passed, the password that it set, and when it cleared the pairs.
use Rattle.is_rules.specs.Effects as effects
use Rattle.is_rules.specs.Steps as agent
use Rattle.is_theorems.specs.Polled as polled
use Rattle.is_c_theorems.specs.Seen.{clears}
use Rattle.is_c_theorems.proofs.Common.{[], ◌∙◌, ◌∷◌, ◌≡◌, Accepts, AddLocal, AddLocalLine, AddRemote, agent_time, AgentSettings, Answer}
use Rattle.is_c_theorems.proofs.Common.{Answers, ap, Ask, Bool, Brings, Call, code_by, counts, Done, Entry, false, FixTimes, Flag}
use Rattle.is_c_theorems.proofs.Common.{HandlePacket, HandleTimeout, IceCreds, if◌then◌else◌, inl, inr, Invalidate, InvalidateLocal}
use Rattle.is_c_theorems.proofs.Common.{is_clear, is_done, is_ok, is_restart, IsLogOf, List, Makes, Message, None, Option, Path, peer_by}
use Rattle.is_c_theorems.proofs.Common.{peer_of, PollEvent, PollTimeout, PollTransmit, Preference, quiet, RecreatePairs, refl, remote_after}
use Rattle.is_c_theorems.proofs.Common.{remote_of, remote_set_by, Restart, restarts, SendFailed, SetControlling, SetInitialRto, SetLite}
use Rattle.is_c_theorems.proofs.Common.{SetLiteTimeout, SetLocalCredentials, SetMaxCandidates, SetMaxDiscovered, SetMaxPairs}
use Rattle.is_c_theorems.proofs.Common.{SetMaxRetransmits, SetMaxRto, SetMtu, SetPreference, SetRemoteCredentials, SetRenomination}
use Rattle.is_c_theorems.proofs.Common.{SetSettings, SetSilence, SetTieBreaker, SetTimingAdvance, Settings, settings_of, settings_onto}
use Rattle.is_c_theorems.proofs.Common.{SkipPairIds, Some, subst, sym, true, Use, Used, ℕ, ℤ}
use Rattle.is_c_theorems.proofs.CallsAsSteps.{never}
use Rattle.is_c_theorems.proofs.SettingsOfCalls.{Log}

if_same : {A : Type 0} (b : Bool) (x : A) → (if b then x else x) ≡ x
if_same true x = refl
if_same false x = refl

abbrev pub used : Use → ℤ → Used
used export code = record { export = export; code = code }

-- ---- the password of the peer

other_call : (call made : Call Preference) (answer : Answer) (old : Option IceCreds) (code : ℤ) → call ≡ made → remote_set_by made old ≡ old
    → remote_after call answer old ≡ (if is_ok code then old else old)
other_call call made answer old code is same =
    ap (λ (c : Call Preference). remote_after c answer old) is ∙ (ap (λ (o : Option IceCreds). if is_done answer then o else old) same ∙ (if_same (is_done answer) old ∙ sym (if_same (is_ok code) old)))

peer_step : (export : Use) (call : Call Preference) (answer : Answer) (code : ℤ) (old : Option IceCreds) → Makes export call → Answers export answer code
    → remote_after call answer old ≡ (if is_ok code then peer_by export old else old)
peer_step Ask call answer code old m a = absurd m
peer_step (SetSilence n) call answer code old m a = absurd m
peer_step (SendFailed p s d r) call answer code old m a = absurd m
peer_step (SetControlling role) call answer code old m a = other_call call _ answer old code m refl
peer_step (SetLite lite) call answer code old m a = other_call call _ answer old code m refl
peer_step (SetRenomination enabled) call answer code old m a = other_call call _ answer old code m refl
peer_step (SetTieBreaker n) call answer code old m a = other_call call _ answer old code m refl
peer_step (SetMaxPairs n) call answer code old m a = other_call call _ answer old code m refl
peer_step (SetMaxDiscovered n) call answer code old m a = other_call call _ answer old code m refl
peer_step (SetMaxCandidates n) call answer code old m a = other_call call _ answer old code m refl
peer_step (SetTimingAdvance n) call answer code old m a = other_call call _ answer old code m refl
peer_step (SetInitialRto n) call answer code old m a = other_call call _ answer old code m refl
peer_step (SetMaxRto n) call answer code old m a = other_call call _ answer old code m refl
peer_step (SetLiteTimeout n) call answer code old m a = other_call call _ answer old code m refl
peer_step (SetMaxRetransmits n) call answer code old m a = other_call call _ answer old code m refl
peer_step (SetMtu mtu n) call answer code old m a = other_call call _ answer old code m refl
peer_step (SetPreference p) call answer code old m a = other_call call _ answer old code m refl
peer_step (SetSettings s) call answer code old m a = absurd m
peer_step (SkipPairIds n) call answer code old m a = other_call call _ answer old code m refl
peer_step (SetLocalCredentials u p) call answer code old m a = other_call call _ answer old code m refl
peer_step (SetRemoteCredentials u p) call answer code old m a = ap (λ (c : Call Preference). remote_after c answer old) m ∙ ap (λ (b : Bool). if b then Some (record { ufrag = u; pass = p }) else old) a.1
peer_step (AddLocal c b a2) call answer code old m a = other_call call _ answer old code m.2 refl
peer_step (AddLocalLine l b a2) call answer code old m a = other_call call _ answer old code m.2 refl
peer_step (AddRemote l b a2) call answer code old m a = other_call call _ answer old code m.2 refl
peer_step (InvalidateLocal c) call answer code old m a = other_call call _ answer old code m.2 refl
peer_step (Invalidate l) call answer code old m a = other_call call _ answer old code m.2 refl
peer_step (Restart u p keep) call answer code old m a = ap (λ (c : Call Preference). remote_after c answer old) m ∙ ap (λ (b : Bool). if b then None else old) a.1
peer_step RecreatePairs call answer code old m a = other_call call _ answer old code m refl
peer_step (HandlePacket n p s d bs) call answer code old m a = other_call call _ answer old code m.2 refl
peer_step (HandleTimeout n r) call answer code old m a = other_call call _ answer old code m refl
peer_step (PollTransmit b a2 known r) call answer code old m a = other_call call _ answer old code m refl
peer_step (PollTimeout b a2) call answer code old m a = other_call call _ answer old code m refl
peer_step (FixTimes soon) call answer code old m a = other_call call _ answer old code m refl
peer_step (PollEvent b a2) call answer code old m a = other_call call _ answer old code m refl

idle_peer : (export : Use) (code : ℤ) (old : Option IceCreds) → (counts export ≡ true → is_ok code ≡ false) → (if is_ok code then peer_by export old else old) ≡ old
idle_peer (SetRemoteCredentials u p) code old none = ap (λ (b : Bool). if b then Some (record { ufrag = u; pass = p }) else old) (none refl)
idle_peer (Restart u p keep) code old none = ap (λ (b : Bool). if b then None else old) (none refl)
idle_peer _ code old none = if_same (is_ok code) old

all_peers : (settings : Settings) (log : Log) → remote_of (settings_onto settings log) ≡ remote_of log
all_peers settings log = refl

set_peer : (u : Used) (s : AgentSettings) (old : Option IceCreds) → u.export ≡ SetSettings s → (if is_ok u.code then peer_by u.export old else old) ≡ old
set_peer u s old is = ap (λ (e : Use). if is_ok u.code then peer_by e old else old) is ∙ if_same (is_ok u.code) old

pub peers : (uses : List Used) (log : Log) → IsLogOf uses log → remote_of log ≡ peer_of uses
peers [] log is = ap (λ (l : Log). remote_of l) is
peers (u ∷ before) log (inl (none, logs)) = peers before log logs ∙ sym (idle_peer u.export u.code (peer_of before) none)
peers (u ∷ before) log (inr (rest, inl (x, is, of), logs)) =
    ap (λ (l : Log). remote_of l) is
    ∙ (ap (λ (r : Option IceCreds). remote_after x.call x.entry.answer r) (peers before rest logs)
    ∙ peer_step u.export x.call x.entry.answer u.code (peer_of before) of.makes of.answers)
peers (u ∷ before) log (inr (rest, inr (s, export, ok, is), logs)) =
    ap (λ (l : Log). remote_of l) is ∙ (all_peers (settings_of s) rest ∙ (peers before rest logs ∙ sym (set_peer u s (peer_of before) export)))

-- ---- restarts

pub not_restarted : (export : Use) (call : Call Preference) (answer : Answer) (code : ℤ) → Makes export call → Answers export answer code
    → polled.restarts call answer ≡ false → (if restarts export then is_ok code else false) ≡ false
not_restarted (Restart u p keep) call answer code m a is = sym a.1 ∙ subst (λ (c : Call Preference). polled.restarts c answer ≡ false) m is
not_restarted _ call answer code m a is = refl

pub idle_restart : (export : Use) (code : ℤ) → (counts export ≡ true → is_ok code ≡ false) → (if restarts export then is_ok code else false) ≡ false
idle_restart (Restart u p keep) code none = none refl
idle_restart _ code none = refl

pub set_restart : (u : Used) (s : AgentSettings) → u.export ≡ SetSettings s → is_restart u ≡ false
set_restart u s is = ap (λ (e : Use). if restarts e then is_ok u.code else false) is

-- a restart of C is one of the agent
pub restarted : (export : Use) (call : Call Preference) (answer : Answer) (code : ℤ) → Makes export call → Answers export answer code
    → (if restarts export then is_ok code else false) ≡ true → polled.restarts call answer ≡ true
restarted (Restart u p keep) call answer code m a is = subst (λ (c : Call Preference). polled.restarts c answer ≡ true) (sym m) (a.1 ∙ is)
restarted _ call answer code m a is = never is

-- ---- clears

pub not_cleared : (export : Use) (call : Call Preference) (answer : Answer) (code : ℤ) → Makes export call → Answers export answer code
    → effects.clears call answer ≡ false → (if clears export then is_ok code else false) ≡ false
not_cleared (Restart u p keep) call answer code m a is = sym a.1 ∙ subst (λ (c : Call Preference). effects.clears c answer ≡ false) m is
not_cleared RecreatePairs call answer code m a is = sym a.1 ∙ subst (λ (c : Call Preference). effects.clears c answer ≡ false) m is
not_cleared _ call answer code m a is = search

pub idle_clear : (export : Use) (code : ℤ) → (counts export ≡ true → is_ok code ≡ false) → (if clears export then is_ok code else false) ≡ false
idle_clear (Restart u p keep) code none = none refl
idle_clear RecreatePairs code none = none refl
idle_clear _ code none = search

pub set_clear : (u : Used) (s : AgentSettings) → u.export ≡ SetSettings s → is_clear u ≡ false
set_clear u s is = search (ap (λ (e : Use). if clears e then is_ok u.code else false) is)

-- what clears nothing is no restart
pub no_restart : (export : Use) (code : ℤ) → (if clears export then is_ok code else false) ≡ false → (if restarts export then is_ok code else false) ≡ false
no_restart (Restart u p keep) code none = none
no_restart _ code none = refl

-- ---- the packet

-- a setter brings none
pub none_brought : (call : Call Preference) (at : ℕ) (by : Path) (m : Message) → Brings call (quiet Done) at by m → ⊥
none_brought (agent.ReceivePacket now path bytes) at by m (when, on, reads, flag) = let wrong_ : Done ≡ Flag true = flag in absurd (cc)
none_brought _ at by m brings = brings

not_brought : {Z : Type 0} (call made : Call Preference) (e : Entry) (at : ℕ) (by : Path) (m : Message) → call ≡ made → (Brings made e at by m → ⊥) → Brings call e at by m → Z
not_brought call made e at by m is none brings = absurd (none (subst (λ (c : Call Preference). Brings c e at by m) is brings))

pub accepts : (export : Use) (call : Call Preference) (e : Entry) (code : ℤ) (at : ℕ) (by : Path) (m : Message) → Makes export call → Answers export e.answer code
    → Brings call e at by m → Accepts (used export code) by m
accepts Ask call e code at by msg m a brings = absurd m
accepts (SetSilence n) call e code at by msg m a brings = absurd m
accepts (SendFailed p s d r) call e code at by msg m a brings = absurd m
accepts (HandlePacket now protocol source destination bytes) call e code at by msg (path, to, is) a brings = go (subst (λ (c : Call Preference). Brings c e at by msg) is brings) where
  go : Brings {P = Preference} (agent.ReceivePacket (agent_time now) path bytes) e at by msg → Accepts (used (HandlePacket now protocol source destination bytes) code) by msg
  go (t, on, reads, flag) = (now, protocol, source, destination, bytes, refl, to ∙ ap (λ (p : Path). Some p) on, reads, a ∙ ap (λ (x : Answer). code_by x) flag)
accepts (SetControlling role) call e code at by msg m a brings = not_brought call _ e at by msg m (λ h. h) brings
accepts (SetLite lite) call e code at by msg m a brings = not_brought call _ e at by msg m (λ h. h) brings
accepts (SetRenomination enabled) call e code at by msg m a brings = not_brought call _ e at by msg m (λ h. h) brings
accepts (SetTieBreaker n) call e code at by msg m a brings = not_brought call _ e at by msg m (λ h. h) brings
accepts (SetMaxPairs n) call e code at by msg m a brings = not_brought call _ e at by msg m (λ h. h) brings
accepts (SetMaxDiscovered n) call e code at by msg m a brings = not_brought call _ e at by msg m (λ h. h) brings
accepts (SetMaxCandidates n) call e code at by msg m a brings = not_brought call _ e at by msg m (λ h. h) brings
accepts (SetTimingAdvance n) call e code at by msg m a brings = not_brought call _ e at by msg m (λ h. h) brings
accepts (SetInitialRto n) call e code at by msg m a brings = not_brought call _ e at by msg m (λ h. h) brings
accepts (SetMaxRto n) call e code at by msg m a brings = not_brought call _ e at by msg m (λ h. h) brings
accepts (SetLiteTimeout n) call e code at by msg m a brings = not_brought call _ e at by msg m (λ h. h) brings
accepts (SetMaxRetransmits n) call e code at by msg m a brings = not_brought call _ e at by msg m (λ h. h) brings
accepts (SetMtu mtu n) call e code at by msg m a brings = not_brought call _ e at by msg m (λ h. h) brings
accepts (SetPreference p) call e code at by msg m a brings = not_brought call _ e at by msg m (λ h. h) brings
accepts (SetSettings s) call e code at by msg m a brings = absurd m
accepts (SkipPairIds n) call e code at by msg m a brings = not_brought call _ e at by msg m (λ h. h) brings
accepts (SetLocalCredentials u p) call e code at by msg m a brings = not_brought call _ e at by msg m (λ h. h) brings
accepts (SetRemoteCredentials u p) call e code at by msg m a brings = not_brought call _ e at by msg m (λ h. h) brings
accepts (AddLocal c b a2) call e code at by msg m a brings = not_brought call _ e at by msg m.2 (λ h. h) brings
accepts (AddLocalLine l b a2) call e code at by msg m a brings = not_brought call _ e at by msg m.2 (λ h. h) brings
accepts (AddRemote l b a2) call e code at by msg m a brings = not_brought call _ e at by msg m.2 (λ h. h) brings
accepts (InvalidateLocal c) call e code at by msg m a brings = not_brought call _ e at by msg m.2 (λ h. h) brings
accepts (Invalidate l) call e code at by msg m a brings = not_brought call _ e at by msg m.2 (λ h. h) brings
accepts (Restart u p keep) call e code at by msg m a brings = not_brought call _ e at by msg m (λ h. h) brings
accepts RecreatePairs call e code at by msg m a brings = not_brought call _ e at by msg m (λ h. h) brings
accepts (HandleTimeout n r) call e code at by msg m a brings = not_brought call _ e at by msg m (λ h. h) brings
accepts (PollTransmit b a2 known r) call e code at by msg m a brings = not_brought call _ e at by msg m (λ h. h) brings
accepts (PollTimeout b a2) call e code at by msg m a brings = not_brought call _ e at by msg m (λ h. h) brings
accepts (FixTimes soon) call e code at by msg m a brings = not_brought call _ e at by msg m (λ h. h) brings
accepts (PollEvent b a2) call e code at by msg m a brings = not_brought call _ e at by msg m (λ h. h) brings
