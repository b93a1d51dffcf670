-- Each call of C on an agent is one transition of it, or none, or sets all settings. What mutants/specifications changes is read by tactics.
use Rattle.std.specs.Net.Socket.{socket_ip}
use Rattle.is_proto.specs.declared.error.IceError.TheVariants as errors
use Rattle.is_proto.specs.declared.proto.TcpType.{TcpType}
use Rattle.is_proto.specs.Packets as packets
use Rattle.is_candidate.specs.declared.candidate.builder.Route.{Route}
use Rattle.is_candidate.specs.declared.candidate.builder.Route.TheVariants.{Host, ServerReflexive, Relayed}
use Rattle.is_candidate.specs.Building.{route_fault, built_candidate}
use Rattle.is_candidate.specs.Making.{ip_fault, reflexive_fault, host_candidate, server_reflexive_candidate, relayed_candidate}
use Rattle.is_candidate.specs.Rejections.{Makes as Builds_}
use Rattle.is_rules.specs.Credentials.{SetsLocal, SetsRemote}
use Rattle.is_rules.specs.Restarting.{Restarts}
use Rattle.is_rules.specs.Steps as agent
use Rattle.is_c_calls.specs.declared.address.Address.{Address}
use Rattle.is_c_calls.specs.declared.candidate.LocalCandidate.{LocalCandidate}
use Rattle.is_c_calls.specs.Credentials.{MakesCreds, CallsWith}
use Rattle.is_c_calls.specs.Limits.{limit_of}
use Rattle.is_c_theorems.proofs.Common.{[], ◌&&◌, ◌<◌, ◌==◌, ◌∙◌, ◌≡◌, ◌⊎◌, added, AddLocal, AddLocalLine, AddRemote, AddsLocalListed}
use Rattle.is_c_theorems.proofs.Common.{AddsMade, AddsRemoteListed, agent_time, AgentBecomes, AgentSettings, Answer, answer_by, Answers}
use Rattle.is_c_theorems.proofs.Common.{answers, ap, arith, Ask, BAD_ADDRESS, BAD_LIMIT, Becomes, Bool, Builds, Call, CallsMade}
use Rattle.is_c_theorems.proofs.Common.{CandidateRecord, code_by, code_of, Constructs, controlling_set, counts, Discards, Does, Done, done}
use Rattle.is_c_theorems.proofs.Common.{done_code, Entry, Err, Event, false, FixTimes, Flag, flag_code, found_code, given_steps, GivesBased}
use Rattle.is_c_theorems.proofs.Common.{GivesEvent, HandlePacket, HandlesDatagram, HandleTimeout, Happened, Held, HeldRecord}
use Rattle.is_c_theorems.proofs.Common.{IceAgentEvent, IceCreds, IceError, inl, inr, Invalidate, InvalidateLocal, is_done, is_modern, is_ok}
use Rattle.is_c_theorems.proofs.Common.{is_over_tcp, IsBased, IsNone, IsOf, keeps_role, length, List, Logged, mac_of, Made, Makes}
use Rattle.is_c_theorems.proofs.Common.{MakesCandidate, MatchBool, MatchOption, Monitor, nat_lt, next_silence, NextTimeout, None, NOT_UTF8}
use Rattle.is_c_theorems.proofs.Common.{NotesFailure, numbers_skipped, Ok, Option, packet_path, Path, Polled, PollEvent, PollTimeout}
use Rattle.is_c_theorems.proofs.Common.{PollTransmit, Preference, Protocol, protocol_of, quiet, ReadsBytes, RecreatePairs, refl, Rejects}
use Rattle.is_c_theorems.proofs.Common.{Restart, Result, ReturnsFirst, role_of, route_for, SendFailed, SetControlling, SetInitialRto}
use Rattle.is_c_theorems.proofs.Common.{SetLite, SetLiteTimeout, SetLocalCredentials, SetMaxCandidates, SetMaxDiscovered, SetMaxPairs}
use Rattle.is_c_theorems.proofs.Common.{SetMaxRetransmits, SetMaxRto, SetMtu, SetPreference, SetRemoteCredentials, SetRenomination}
use Rattle.is_c_theorems.proofs.Common.{SetSettings, SetSilence, SetTieBreaker, SetTimingAdvance, settings_of, SkipPairIds, socket_of}
use Rattle.is_c_theorems.proofs.Common.{SocketAddr, Some, Step, Stream, stream_of, subst, suc, sym, TakesNext, TOO_FEW_RANDOM_BYTES, true}
use Rattle.is_c_theorems.proofs.Common.{Use, Used, with_lite_timeout, with_retransmits, with_rtos, with_settings, zero, ℕ, ℤ}
use Rattle.is_c_theorems.proofs.LinesWithoutBase.{based_line}

-- ---- choices

pub either : (b : Bool) {X Y Z : Type 0} → (X → Z) → (Y → Z) → MatchBool b X Y → Z
either true f g h = f h
either false f g h = g h

optional : {A : Type 0} (o : Option A) {N Z : Type 0} (S : A → Type 0) → (N → Z) → ((x : A) → S x → Z) → MatchOption o N S → Z
optional None S f g h = f h
optional (Some x) S f g h = g x h

pub never : {A : Type 0} → false ≡ true → A
never wrong_ = let wrong : false ≡ true = wrong_ in absurd (cc)

not_none : {A Z : Type 0} (x : A) → Some x ≡ None → Z
not_none x wrong_ = let wrong : Some x ≡ None = wrong_ in absurd (cc)

pub error_bad : (e : IceError) → is_ok (done_code (Err e)) ≡ false
error_bad errors.OutOfMemory = refl
error_bad (errors.BadCandidate message) = refl
error_bad errors.PairIdsExhausted = refl
error_bad errors.MtuTooSmall = refl
error_bad errors.CredentialsTooLong = refl
error_bad errors.PriorityTooHigh = refl
error_bad errors.LiteStaysControlled = refl

pub why_bad : (ufrag pass : List ℕ) (why : ℤ) → MakesCreds ufrag pass (Err why) → is_ok why ≡ false
why_bad ufrag pass why (inl is) = ap is_ok is
why_bad ufrag pass why (inr (is, wrong_)) = ap is_ok is

-- ---- a local candidate that C passes is its own base, if its kind requires it

abbrev ok_or : {A : Type 0} → A → Result A IceError → A
ok_or x (Ok y) = y
ok_or x (Err e) = x

abbrev ok_in : {A : Type 0} → A → Result A IceError
ok_in x = Ok x

ok_same : {A : Type 0} (x y : A) → ok_in x ≡ ok_in y → x ≡ y
ok_same x y is = ap (λ r. ok_or x r) is

-- what a constructor made
constructed : (fault : Option (List ℕ)) (c made : CandidateRecord) → Builds_ fault c (Ok made) → made ≡ c
constructed None c made is = ok_same made c is
constructed (Some message) c made h = absurd h

based_as : (fault : Option (List ℕ)) (c made : CandidateRecord) → IsBased c → Builds_ fault c (Ok made) → IsBased made
based_as fault c made b h = subst (λ (x : CandidateRecord). IsBased x) (sym (constructed fault c made h)) b

-- the candidate that C passes
based_constructed : (kind : ℕ) (addr : SocketAddr) (base : Option SocketAddr) (proto : Protocol) (made : CandidateRecord)
    → Constructs kind addr base proto (Some (Ok made)) → IsBased made
based_constructed kind addr base proto made h = either (kind == 0)
    (λ k. based_as (ip_fault (socket_ip addr)) (host_candidate addr proto None) made (λ _. refl) k)
    (λ k. optional base _ (λ wrong_. not_none (Ok made) wrong_)
    (λ b l. either (kind == 1)
    (λ m. based_as (reflexive_fault addr b) (server_reflexive_candidate addr b proto None) made (λ wrong_. never wrong_) m)
    (λ m. either (kind == 2)
    (λ o. based_as (ip_fault (socket_ip addr)) (relayed_candidate addr b proto None) made (λ _. refl) o)
    (λ wrong_. not_none (Ok made) wrong_) m) l) k) h

based_route : (route : Route) (proto : Protocol) (tcptype : Option TcpType) → IsBased (built_candidate proto route tcptype)
based_route (Host addr) proto tcptype = λ _. refl
based_route (ServerReflexive addr base) proto tcptype = λ wrong_. never wrong_
based_route (Relayed addr local) proto tcptype = λ _. refl

based_built : (kind : ℕ) (addr : SocketAddr) (base : Option SocketAddr) (proto : Protocol) (role : TcpType) (made : CandidateRecord)
    → Builds kind addr base proto role (Some (Ok made)) → IsBased made
based_built kind addr base proto role made h = either (is_over_tcp proto)
    (λ k. optional (route_for kind addr base) _ (λ wrong_. not_none (Ok made) wrong_)
    (λ route l. based_as (route_fault route) (built_candidate proto route (Some role)) made (based_route route proto (Some role)) l) k)
    (λ wrong_. not_none (Ok made) wrong_) h

based : (c : LocalCandidate) (made : CandidateRecord) → MakesCandidate c (Some (Ok made)) → IsBased made
based c made h = optional (socket_of c.address) _ (λ wrong_. not_none (Ok made) wrong_)
    (λ addr k. optional (protocol_of c.protocol) _ (λ wrong_. not_none (Ok made) wrong_)
    (λ proto l. either (c.tcptype == 0) (λ m. based_constructed c.kind addr (socket_of c.base) proto made m)
    (λ m. optional (role_of c.tcptype) _ (λ wrong_. not_none (Ok made) wrong_) (λ role o. based_built c.kind addr (socket_of c.base) proto role made o) m) l) k) h

-- C's call sets all settings
pub record SetsAll (u : Used) (old new : HeldRecord) : Type 0 where
  pub settings : AgentSettings
  pub export : u.export ≡ SetSettings settings
  pub ok : is_ok u.code ≡ true
  pub sets : new.agent ≡ with_settings (settings_of settings) old.agent
  pub some : 0 < settings.max_retransmits

module _ (n : ℕ) where
  -- the transition of the agent that is C's call
  abbrev pub IsStep : Used → HeldRecord → HeldRecord → Type 0
  IsStep u old new =
      (x : Logged Preference) × (s t : Stream) × IsOf u x × GivesBased x.call × Step mac_of answers old.agent s x.call x.entry new.agent t

  abbrev pub IsAtMostOne : Used → HeldRecord → HeldRecord → Type 0
  IsAtMostOne u old new = ((new.agent ≡ old.agent) × IsNone u) ⊎ (IsStep u old new ⊎ SetsAll u old new)

  abbrev used : Use → ℤ → Used
  used export code = record { export = export; code = code }

  any : Stream
  any = stream_of given_steps []

  by_step : (export : Use) (code : ℤ) (call : Call Preference) (e : Entry) (old new : HeldRecord) → Makes export call → Answers export e.answer code → GivesBased call
      → (s t : Stream) → Step mac_of answers old.agent s call e new.agent t → IsAtMostOne (used export code) old new
  by_step export code call e old new m a g s t step = inr (inl (record { number = n; call = call; entry = e }, s, t, record { makes = m; answers = a }, g, step))

  agent_is : (old new : HeldRecord) → new ≡ old → new.agent ≡ old.agent
  agent_is old new is = ap (λ (h : HeldRecord). h.agent) is

  -- the call leaves all as it was
  idle : (export : Use) (code : ℤ) (old new : HeldRecord) → new ≡ old → (counts export ≡ true → is_ok code ≡ false) → IsAtMostOne (used export code) old new
  idle export code old new is none = inl (agent_is old new is, none)

  rejects : (export : Use) (why code : ℤ) (old new : HeldRecord) → is_ok why ≡ false → Rejects why old code new → IsAtMostOne (used export code) old new
  rejects export why code old new bad (is, same) = idle export code old new same (λ _. ap is_ok is ∙ bad)

  -- ---- settings

  becomes : (export : Use) (code : ℤ) (call : Call Preference) (change : Held → Held) (old new : HeldRecord) → Makes export call → Answers export Done code → GivesBased call
      → Step mac_of answers old.agent any call (quiet Done) (change old.agent) any
      → new ≡ record old { agent = change old.agent } → IsAtMostOne (used export code) old new
  becomes export code call change old new m a g step is =
      by_step export code call (quiet Done) old new m a g any any
      (subst (λ (b : Held). Step mac_of answers old.agent any call (quiet Done) b any) (sym (ap (λ (h : HeldRecord). h.agent) is)) step)

  done_coded : (r : Result (Unit {0}) IceError) → done_code r ≡ code_by (answer_by done r)
  done_coded (Ok x) = refl
  done_coded (Err e) = refl

  done_ok : (r : Result (Unit {0}) IceError) (code : ℤ) → code ≡ done_code r → is_done (answer_by done r) ≡ is_ok code
  done_ok (Ok x) code is = sym (ap is_ok is)
  done_ok (Err e) code is = sym (ap is_ok is ∙ error_bad e)

  flag_coded : (r : Result Bool IceError) → flag_code r ≡ code_by (answer_by Flag r)
  flag_coded (Ok true) = refl
  flag_coded (Ok false) = refl
  flag_coded (Err e) = refl

  -- ---- credentials

  with_creds : (export : Use) (SetsThem : Held → IceCreds → Result (Unit {0}) IceError → Held → Type 0) (call : IceCreds → Call Preference) (ufrag pass : List ℕ)
      → ((r : Result (Unit {0}) IceError) (code : ℤ) → code ≡ done_code r → Answers export (answer_by done r) code) → Makes export (call (record { ufrag = ufrag; pass = pass }))
      → ((c : IceCreds) → GivesBased (call c))
      → ((old new : Held) (c : IceCreds) (r : Result (Unit {0}) IceError) → SetsThem old c r new → Step mac_of answers old any (call c) (quiet (answer_by done r)) new any)
      → (code : ℤ) (old new : HeldRecord) → CallsWith SetsThem ufrag pass old code new → IsAtMostOne (used export code) old new
  with_creds export SetsThem call ufrag pass a m g steps code old new (Ok creds, made, (r, sets, is, kept)) =
      let here : SetsThem old.agent (record { ufrag = ufrag; pass = pass }) r new.agent = subst (λ (c : IceCreds). SetsThem old.agent c r new.agent) made sets in
      by_step export code (call (record { ufrag = ufrag; pass = pass })) (quiet (answer_by done r)) old new m
      (a r code is) (g (record { ufrag = ufrag; pass = pass })) any any
      (steps old.agent new.agent (record { ufrag = ufrag; pass = pass }) r here)
  with_creds export SetsThem call ufrag pass a m g steps code old new (Err why, made, h) = rejects export why code old new (why_bad ufrag pass why made) h

  -- ---- candidates

  adds_local : (c : LocalCandidate) (before after : ℕ) (code : ℤ) (old new : HeldRecord) (made : Made) → MakesCandidate c made
      → AddsMade (AddsLocalListed answers) BAD_ADDRESS made before after old code new → IsAtMostOne (used (AddLocal c before after) code) old new
  adds_local c before after code old new None makes h = idle (AddLocal c before after) code old new h.0.1 never
  adds_local c before after code old new (Some (Err e)) makes h = idle (AddLocal c before after) code old new h.0.1 never
  adds_local c before after code old new (Some (Ok made)) makes (r, (place, emitted, does, is), puts, kept) =
      by_step (AddLocal c before after) code (agent.AddLocalCandidate made) (record { answer = answer_by added place; emitted = emitted }) old new
      (made, makes, refl) tt (based c made makes) any any (place, emitted, refl, does, refl)

  adds_local_line : (line : List ℕ) (before after : ℕ) (code : ℤ) (old new : HeldRecord) (made : Made) → ReadsBytes line made
      → AddsMade (AddsLocalListed answers) NOT_UTF8 made before after old code new → IsAtMostOne (used (AddLocalLine line before after) code) old new
  adds_local_line line before after code old new None reads h = idle (AddLocalLine line before after) code old new h.0.1 never
  adds_local_line line before after code old new (Some (Err e)) reads h = idle (AddLocalLine line before after) code old new h.0.1 never
  adds_local_line line before after code old new (Some (Ok made)) reads (r, (place, emitted, does, is), puts, kept) =
      by_step (AddLocalLine line before after) code (agent.AddLocalCandidate made) (record { answer = answer_by added place; emitted = emitted }) old new
      (made, reads, refl) tt (based_line line made reads) any any (place, emitted, refl, does, refl)

  adds_remote : (line : List ℕ) (before after : ℕ) (code : ℤ) (old new : HeldRecord) (made : Made) → ReadsBytes line made
      → AddsMade AddsRemoteListed NOT_UTF8 made before after old code new → IsAtMostOne (used (AddRemote line before after) code) old new
  adds_remote line before after code old new None reads h = idle (AddRemote line before after) code old new h.0.1 never
  adds_remote line before after code old new (Some (Err e)) reads h = idle (AddRemote line before after) code old new h.0.1 never
  adds_remote line before after code old new (Some (Ok made)) reads (r, (place, emitted, does, is), puts, kept) =
      by_step (AddRemote line before after) code (agent.AddRemoteCandidate made) (record { answer = answer_by done place; emitted = emitted }) old new
      (made, reads, refl) tt tt any any (place, emitted, refl, does, refl)

  discards : (export : Use) (why : ℤ) (made : Made) → ((c : CandidateRecord) → made ≡ Some (Ok c) → Makes export (agent.InvalidateCandidate c))
      → ((answer : Answer) (code : ℤ) → code ≡ code_by answer → Answers export answer code) → counts export ≡ false
      → (code : ℤ) (old new : HeldRecord) → CallsMade Discards found_code why made old code new → IsAtMostOne (used export code) old new
  discards export why None m a quiet_ code old new h = idle export code old new h.1 (λ is. never (sym quiet_ ∙ is))
  discards export why (Some (Err e)) m a quiet_ code old new h = idle export code old new h.1 (λ is. never (sym quiet_ ∙ is))
  discards export why (Some (Ok c)) m a quiet_ code old new (found, (emitted, does), is, kept) =
      by_step export code (agent.InvalidateCandidate c) (record { answer = Flag found; emitted = emitted }) old new
      (m c refl) (a (Flag found) code is) tt any any (found, emitted, refl, does, refl)

  -- ---- packets

  receives : (now protocol : ℕ) (source destination : Address) (bytes : List ℕ) (code : ℤ) (old new : HeldRecord) (path : Option Path)
      → packet_path protocol source destination ≡ path → HandlesDatagram mac_of now path bytes old code new
      → IsAtMostOne (used (HandlePacket now protocol source destination bytes) code) old new
  receives now protocol source destination bytes code old new None is h = idle (HandlePacket now protocol source destination bytes) code old new h.1 never
  receives now protocol source destination bytes code old new (Some path) is (inl (fault, fails, h)) =
      idle (HandlePacket now protocol source destination bytes) code old new h.1 never
  receives now protocol source destination bytes code old new (Some path) is (inr (m, reads, (r, (emitted, handles, coded, kept)))) =
      by_step (HandlePacket now protocol source destination bytes) code (agent.ReceivePacket (agent_time now) path bytes)
      (record { answer = answer_by Flag r; emitted = emitted }) old new
      (path, search is, refl) (coded ∙ flag_coded r) tt any any (inr (m, reads, (r, emitted, refl, handles)), refl)

  gives : (export : Use) (code : ℤ) (waiting given : Option packets.Packet) (old new : HeldRecord) → Makes export agent.PollTransmit
      → Answers export (Polled given) code → counts export ≡ false → TakesNext waiting old.agent given new.agent → IsAtMostOne (used export code) old new
  gives export code None given old new m a quiet_ polls =
      by_step export code agent.PollTransmit (quiet (Polled given)) old new m a tt any any (given, refl, polls, refl)
  gives export code (Some p) given old new m a quiet_ (is, same) = inl (same, λ was_true. never (sym quiet_ ∙ was_true))

  agent_is_of : (old new needed : HeldRecord) → new ≡ needed → needed.agent ≡ old.agent → new.agent ≡ old.agent
  agent_is_of old new needed is same = ap (λ (h : HeldRecord). h.agent) is ∙ same

  -- what the monitor reports is no event of the agent
  reports : (given : Option IceAgentEvent) (m : Monitor) (before after : Event) (code : ℤ) → ReturnsFirst given m before after code → GivesEvent given before after code
  reports None m before after code h = (next_silence m, h)
  reports (Some e) m before after code h = h

  fails : (protocol : ℕ) (source destination : Address) (reason : ℕ) (path : Option Path) (code : ℤ) (old new : HeldRecord) → NotesFailure path reason old code new
      → IsAtMostOne (used (SendFailed protocol source destination reason) code) old new
  fails protocol source destination reason None code old new h = idle (SendFailed protocol source destination reason) code old new h.1 never
  fails protocol source destination reason (Some path) code old new (inl h) = idle (SendFailed protocol source destination reason) code old new h.1 never
  fails protocol source destination reason (Some path) code old new (inr (is, notes, same)) = inl (agent_is_of old new _ same refl, never)

  -- ---- each call

  limits : (limit : ℕ) (code : ℤ) (old new : HeldRecord) (b : Bool)
      → MatchBool b (Rejects BAD_LIMIT old code new) (AgentBecomes (with_retransmits limit) old code new)
      → (limit == 0) ≡ b → IsAtMostOne (used (SetMaxRetransmits limit) code) old new
  limits limit code old new true h is = rejects (SetMaxRetransmits limit) BAD_LIMIT code old new refl h
  limits limit code old new false (coded, same) is =
      becomes (SetMaxRetransmits limit) code (agent.SetMaxStunRetransmits limit) (with_retransmits limit) old new refl (refl, coded) tt
      (subst (λ (b : Bool). MatchBool b ((quiet Done ≡ quiet agent.NotCalled) × (with_retransmits limit old.agent ≡ old.agent) × (any ≡ any))
      (Becomes (with_retransmits limit old.agent) any (quiet Done) (with_retransmits limit old.agent) any)) (sym is) (refl, refl, refl)) same

  positive : (n : ℕ) → (n == 0) ≡ false → 0 < n
  positive zero is = never (sym is)
  positive (suc n) is = omega arith

  all_set : (settings : AgentSettings) (code : ℤ) (old new : HeldRecord) (b : Bool)
      → MatchBool b (Rejects BAD_LIMIT old code new) (AgentBecomes (with_settings (settings_of settings)) old code new)
      → (settings.max_retransmits == 0) ≡ b → IsAtMostOne (used (SetSettings settings) code) old new
  all_set settings code old new true h is = rejects (SetSettings settings) BAD_LIMIT code old new refl h
  all_set settings code old new false (coded, same) is = inr (inr (record {
    settings = settings;
    export = refl;
    ok = ap is_ok coded;
    sets = ap (λ (h : HeldRecord). h.agent) same;
    some = positive settings.max_retransmits is;
  }))

  pub one : (export : Use) (code : ℤ) (old new : HeldRecord) → Does export old code new → IsAtMostOne (used export code) old new
  one Ask code old new same = idle Ask code old new same never
  one (SetControlling role) code old new h = either (keeps_role old.agent && role)
      (λ k. rejects (SetControlling role) (code_of errors.LiteStaysControlled) code old new refl k)
      (λ k. becomes (SetControlling role) code (agent.SetControlling role) (controlling_set role) old new refl (k.0, sym (ap is_ok k.0)) tt (refl, refl, refl) k.1) h
  one (SetLite lite) code old new (is, same) =
      becomes (SetLite lite) code (agent.SetIceLite lite) (λ a. record a { lite = lite }) old new refl (refl, is) tt (refl, refl, refl) same
  one (SetRenomination enabled) code old new (is, same) =
      becomes (SetRenomination enabled) code (agent.SetRenomination enabled) (λ a. record a { renominates = enabled }) old new refl (refl, is) tt (refl, refl, refl) same
  one (SetTieBreaker tie_breaker) code old new (is, same) =
      becomes (SetTieBreaker tie_breaker) code (agent.SetControlTieBreaker tie_breaker) (λ a. record a { tie_breaker = tie_breaker }) old new refl (refl, is) tt (refl, refl, refl) same
  one (SetMaxPairs limit) code old new (is, same) =
      becomes (SetMaxPairs limit) code (agent.SetMaxCandidatePairs limit) (λ a. record a { max_pairs = limit }) old new refl (refl, is) tt (refl, refl, refl) same
  one (SetMaxDiscovered limit) code old new (is, same) =
      becomes (SetMaxDiscovered limit) code (agent.SetMaxDiscovered (limit_of limit)) (λ a. record a { max_discovered = limit_of limit }) old new refl (refl, is) tt (refl, refl, refl) same
  one (SetMaxCandidates limit) code old new (is, same) =
      becomes (SetMaxCandidates limit) code (agent.SetMaxCandidates (limit_of limit)) (λ a. record a { max_candidates = limit_of limit }) old new refl (refl, is) tt (refl, refl, refl) same
  one (SetTimingAdvance by) code old new (is, same) =
      becomes (SetTimingAdvance by) code (agent.SetTimingAdvance by) (λ a. record a { timing_advance = by }) old new refl (refl, is) tt (refl, refl, refl) same
  one (SetInitialRto rto) code old new (is, same) =
      becomes (SetInitialRto rto) code (agent.SetInitialStunRto rto) (λ a. with_rtos rto a.timing.max_rto.0 a) old new refl (refl, is) tt (refl, refl, refl) same
  one (SetMaxRto rto) code old new (is, same) =
      becomes (SetMaxRto rto) code (agent.SetMaxStunRto rto) (λ a. with_rtos a.timing.initial_rto.0 rto a) old new refl (refl, is) tt (refl, refl, refl) same
  one (SetLiteTimeout by) code old new (is, same) =
      becomes (SetLiteTimeout by) code (agent.SetLiteTimeout by) (with_lite_timeout by) old new refl (refl, is) tt (refl, refl, refl) same
  one (SetMaxRetransmits limit) code old new h = limits limit code old new (limit == 0) h refl
  one (SetMtu mtu warn) code old new (r, sets, is, kept) =
      by_step (SetMtu mtu warn) code (agent.SetMtu mtu warn) (quiet (answer_by done r)) old new refl (is ∙ done_coded r, done_ok r code is) tt any any (r, refl, sets, refl)
  one (SetPreference preference) code old new (is, same) =
      becomes (SetPreference preference) code (agent.SetLocalPreference preference) (λ a. record a { preference = Some preference }) old new refl (refl, is) tt (refl, refl, refl) same
  one (SetSettings settings) code old new h = all_set settings code old new (settings.max_retransmits == 0) h refl
  one (SkipPairIds number) code old new (is, same) =
      becomes (SkipPairIds number) code (agent.SkipPairIds number) (numbers_skipped number) old new refl (refl, is) tt (refl, refl, refl) same
  one (SetSilence n) code old new (is, same) = inl (agent_is_of old new _ same refl, never)
  one (SetLocalCredentials ufrag pass) code old new h =
      with_creds (SetLocalCredentials ufrag pass) SetsLocal (λ c. agent.SetLocalCredentials c) ufrag pass (λ r code is. (is ∙ done_coded r, done_ok r code is)) refl (λ c. tt)
      (λ a b c r sets. (r, refl, sets, refl)) code old new h
  one (SetRemoteCredentials ufrag pass) code old new h =
      with_creds (SetRemoteCredentials ufrag pass) SetsRemote (λ c. agent.SetRemoteCredentials c) ufrag pass (λ r code is. (is ∙ done_coded r, done_ok r code is)) refl (λ c. tt)
      (λ a b c r sets. (r, refl, sets, refl)) code old new h
  one (AddLocal c before after) code old new (made, makes, h) = adds_local c before after code old new made makes h
  one (AddLocalLine line before after) code old new (made, reads, h) = adds_local_line line before after code old new made reads h
  one (AddRemote line before after) code old new (made, reads, h) = adds_remote line before after code old new made reads h
  one (InvalidateLocal c) code old new (made, makes, h) =
      discards (InvalidateLocal c) BAD_ADDRESS made (λ x is. (x, subst (λ (o : Made). MakesCandidate c o) is makes, refl)) (λ answer code is. is) refl code old new h
  one (Invalidate line) code old new (made, reads, h) =
      discards (Invalidate line) NOT_UTF8 made (λ x is. (x, subst (λ (o : Made). ReadsBytes line o) is reads, refl)) (λ answer code is. is) refl code old new h
  one (Restart ufrag pass keep) code old new (Ok creds, made, (r, restarted, is)) =
      let here : Restarts old.agent (record { ufrag = ufrag; pass = pass }) keep r new.agent = subst (λ (c : IceCreds). Restarts old.agent c keep r new.agent) made restarted.0 in
      by_step (Restart ufrag pass keep) code (agent.RestartIce (record { ufrag = ufrag; pass = pass }) keep) (quiet (answer_by done r)) old new
      (search) (is ∙ done_coded r, done_ok r code is) tt any any (r, refl, here, refl)
  one (Restart ufrag pass keep) code old new (Err why, made, h) = rejects (Restart ufrag pass keep) why code old new (why_bad ufrag pass why made) h
  one RecreatePairs code old new (r, does, is, kept) =
      by_step RecreatePairs code agent.RecreateCandidatePairs (quiet (answer_by done r)) old new refl (is ∙ done_coded r, done_ok r code is) tt any any (r, refl, does, refl)
  one (HandlePacket now protocol source destination bytes) code old new h =
      receives now protocol source destination bytes code old new (packet_path protocol source destination) refl h
  one (HandleTimeout now random) code old new h =
      either (nat_lt (length random) 12) (λ k. rejects (HandleTimeout now random) TOO_FEW_RANDOM_BYTES code old new refl k)
      (λ (r, (emitted, k)). by_step (HandleTimeout now random) code (agent.HandleTimeout (agent_time now))
      (record { answer = answer_by done r; emitted = emitted }) old new (search) (k.2 ∙ done_coded r, done_ok r code k.2) tt (stream_of given_steps random) k.0 (r, emitted, refl, k.1)) h
  one (PollTransmit before after known reported) code old new k =
      gives (PollTransmit before after known reported) code old.waiting k.0 old new refl (k.0, refl) (search) k.1
  one (PollTimeout before after) code old new h =
      either (is_modern old.agent.timing) (λ k. idle (PollTimeout before after) code old new k.1 never)
      (λ (deadline, polls, kept, writes). by_step (PollTimeout before after) code agent.PollTimeout (quiet (NextTimeout deadline)) old new
      refl (deadline, refl) tt any any (deadline, refl, polls, refl)) h
  one (FixTimes soon) code old new (deadline, polls, coded, is) =
      by_step (FixTimes soon) code agent.PollTimeout (quiet (NextTimeout deadline)) old new refl (deadline, refl) tt any any (deadline, refl, polls, refl)
  one (PollEvent before after) code old new (given, polls, returns, kept) =
      by_step (PollEvent before after) code agent.PollEvent (quiet (Happened given)) old new refl (given, refl, reports given old.monitor before after code returns) tt any any
      (given, refl, polls, refl)
  one (SendFailed protocol source destination reason) code old new h =
      fails protocol source destination reason (packet_path protocol source destination) code old new h
