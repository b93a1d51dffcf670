-- What C gets from `is_ice_poll_transmit`, and what waits after a call, was to be polled before it. And each call that issues a check is
-- `is_ice_handle_timeout`, which takes the transaction ID from C's random bytes.
use Rattle.is_proto.specs.Packets as packets
use Rattle.is_stun.specs.declared.header.Class.TheVariants as class
use Rattle.is_rules.specs.Steps as agent
use Rattle.is_c_calls.specs.declared.packets.Packet.{Packet}
use Rattle.is_c_theorems.proofs.Common.{◌++◌, ◌-◌, ◌∙◌, ◌≡◌, ◌⊎◌, AddLocal, AddLocalLine, AddRemote, agent_time, answer_by, answers, ap}
use Rattle.is_c_theorems.proofs.Common.{append-nil, arith, Ask, Bool, Call, code_by, Does, done, done_code, drop, Emitted, Entry, Err}
use Rattle.is_c_theorems.proofs.Common.{false, fill_bytes, FixTimes, Gets, given_steps, GivesBased, GivesOf, HandlePacket, HandleTimeout}
use Rattle.is_c_theorems.proofs.Common.{Has, HeldRecord, IceError, id_of, if◌then◌else◌, inl, inr, Invalidate, InvalidateLocal, is_done}
use Rattle.is_c_theorems.proofs.Common.{is_ok, IsNone, IsOf, issued_as, IsToPoll, length, List, Logged, mac_of, Makes, MatchBool, nat_lt}
use Rattle.is_c_theorems.proofs.Common.{nat_tests, None, OK, Ok, Option, packet_path, Path, PollEvent, PollTimeout, PollTransmit}
use Rattle.is_c_theorems.proofs.Common.{Preference, RecreatePairs, refl, replicate, Restart, Result, SendFailed, SetControlling}
use Rattle.is_c_theorems.proofs.Common.{SetInitialRto, SetLite, SetLiteTimeout, SetLocalCredentials, SetMaxCandidates, SetMaxDiscovered}
use Rattle.is_c_theorems.proofs.Common.{SetMaxPairs, SetMaxRetransmits, SetMaxRto, SetMtu, SetPreference, SetRemoteCredentials}
use Rattle.is_c_theorems.proofs.Common.{SetRenomination, sets_role, SetSettings, SetSilence, SetTieBreaker, SetTimingAdvance, SkipPairIds}
use Rattle.is_c_theorems.proofs.Common.{Some, Step, Stream, stream_of, subst, sym, take, take-append_seam, TakesNext, TimesOut, true, Use}
use Rattle.is_c_theorems.proofs.Common.{Used, via_out, ℕ, ℤ}
use Rattle.is_c_theorems.proofs.CallsAsSteps.{never, either, error_bad, one, SetsAll}
use Rattle.is_c_theorems.proofs.IssuedRequests.{checks_none, is_timeout, unless_timeout, drawn_at}
use Rattle.is_c_theorems.proofs.WaitingPackets.{waits, reported_path}

-- ---- the packet that is given, or waits, was to be polled

polled_from : (mid held : HeldRecord) (waiting : Option packets.Packet) (p : packets.Packet) → TakesNext waiting mid.agent (Some p) held.agent
    → (waiting ≡ Some p) ⊎ Has mid.agent.packets p
polled_from mid held (Some w) p (is, same) = inl (sym is)
polled_from mid held None p (is, rest) = inr (subst (λ (ps : List packets.Packet). Has ps p) (sym is) (inl refl))

kept_first : (before after : List ℕ) (known r : Packet) (code : ℤ) (mid held : HeldRecord) (first : Option packets.Packet) (p : packets.Packet)
    → TakesNext mid.waiting mid.agent first held.agent → GivesOf first before after known r code held.waiting → held.waiting ≡ Some p → IsToPoll mid p
kept_first before after known r code mid held None p takes (nothing, same, is, waiting) here = let wrong_ : None ≡ Some p = sym waiting ∙ here in absurd (cc)
kept_first before after known r code mid held (Some q) p takes (reported, gives) here = either (nat_lt (length before) (length q.contents))
    (λ k. let same_one : Some q ≡ Some p = sym k.2 ∙ here in let is : q ≡ p = cc in
    subst (λ (x : packets.Packet). IsToPoll mid x) is (polled_from mid held mid.waiting q takes))
    (λ k. let wrong_ : None ≡ Some p = sym k.2 ∙ here in absurd (cc)) gives

pub waited_before : (export : Use) (code : ℤ) (mid held : HeldRecord) (p : packets.Packet) → Does export mid code held → held.waiting ≡ Some p → IsToPoll mid p
waited_before (PollTransmit before after known r) code mid held p does here = kept_first before after known r code mid held does.0 p does.1 does.2 here
waited_before (Restart u pass keep) code mid held p (Ok creds, made, (Ok _, k, is)) here = let wrong_ : None ≡ Some p = sym k.1 ∙ here in absurd (cc)
waited_before (Restart u pass keep) code mid held p (Ok creds, made, (Err e, k, is)) here = inl (sym k.1 ∙ here)
waited_before (Restart u pass keep) code mid held p (Err why, made, (is, same)) here = inl (sym (ap (λ (h : HeldRecord). h.waiting) same) ∙ here)
waited_before export code mid held p does here = inl (sym (waits export code mid held does refl refl) ∙ here)

-- what C gets
abbrev Given : HeldRecord → Path → List ℕ → Type 0
Given mid to bytes = (p : packets.Packet) × IsToPoll mid p × (via_out p ≡ to) × (p.contents ≡ bytes)

not_ok : {Z : Type 0} (why : ℤ) → OK ≡ why → is_ok why ≡ false → Z
not_ok why is bad = never (sym bad ∙ sym (ap is_ok is))

given_first : (before after bytes : List ℕ) (known r : Packet) (to : Path) (mid held : HeldRecord) (first : Option packets.Packet)
    → TakesNext mid.waiting mid.agent first held.agent → GivesOf first before after known r OK held.waiting
    → packet_path r.protocol r.source r.destination ≡ Some to → take r.length after ≡ bytes → Given mid to bytes
given_first before after bytes known r to mid held None takes (nothing, same, reports, waiting) path is = not_ok _ nothing refl
given_first before after bytes known r to mid held (Some p) takes (reported, gives) path is = either (nat_lt (length before) (length p.contents))
    (λ k. not_ok _ k.0 refl)
    (λ k. (
      p,
      polled_from mid held mid.waiting p takes,
      same_path (via_out p) to (sym (reported_path r p reported) ∙ path),
      sym (ap (λ n. take n after) reported.0 ∙ (ap (λ bs. take (length p.contents) bs) k.1 ∙ take-append_seam p.contents (drop (length p.contents) before))) ∙ is,
    )) gives where
      same_path : (x y : Path) → Some x ≡ Some y → x ≡ y
      same_path x y same = let k : x ≡ y = cc in k

pub given_before : (u : Used) (mid held : HeldRecord) (to : Path) (bytes : List ℕ) → Does u.export mid u.code held → Gets u to bytes → Given mid to bytes
given_before u mid held to bytes does (before, after, known, r, export, path, is, ok) =
    let d : Does (PollTransmit before after known r) mid OK held =
    subst (λ (e : Use). Does e mid OK held) export (subst (λ (c : ℤ). Does u.export mid c held) ok does) in
    given_first before after bytes known r to mid held d.0 d.1 d.2 path is

-- ---- the calls that set a role or a tie-breaker, and `handle_timeout`

abbrev marks : Call Preference → Bool × Bool
marks call = (sets_role call, is_timeout call)

abbrev pub use_marks : Use → Bool × Bool
use_marks (SetControlling role) = (true, false)
use_marks (SetTieBreaker n) = (true, false)
use_marks (HandleTimeout now random) = (false, true)
use_marks _ = (false, false)

marked : (export : Use) (call : Call Preference) → Makes export call → marks call ≡ use_marks export
marked Ask call m = absurd m
marked (SetSettings s) call m = absurd m
marked (SetControlling role) call m = ap marks m
marked (SetLite lite) call m = ap marks m
marked (SetRenomination enabled) call m = ap marks m
marked (SetTieBreaker n) call m = ap marks m
marked (SetMaxPairs n) call m = ap marks m
marked (SetMaxDiscovered n) call m = ap marks m
marked (SetMaxCandidates n) call m = ap marks m
marked (SetTimingAdvance n) call m = ap marks m
marked (SetInitialRto n) call m = ap marks m
marked (SetMaxRto n) call m = ap marks m
marked (SetLiteTimeout n) call m = ap marks m
marked (SetMaxRetransmits n) call m = ap marks m
marked (SetMtu mtu n) call m = ap marks m
marked (SetPreference p) call m = ap marks m
marked (SkipPairIds n) call m = ap marks m
marked (SetLocalCredentials u p) call m = ap marks m
marked (SetRemoteCredentials u p) call m = ap marks m
marked (AddLocal c b a) call m = ap marks m.2
marked (AddRemote l b a) call m = ap marks m.2
marked (InvalidateLocal c) call m = ap marks m.2
marked (Invalidate l) call m = ap marks m.2
marked (Restart u p keep) call m = ap marks m
marked RecreatePairs call m = ap marks m
marked (HandlePacket n p s d bs) call m = ap marks m.2
marked (HandleTimeout n r) call m = ap marks m
marked (PollTransmit b a known r) call m = ap marks m
marked (PollTimeout b a) call m = ap marks m
marked (FixTimes soon) call m = ap marks m
marked (SetSilence n) call m = absurd m
marked (SendFailed p s d r) call m = absurd m
marked (AddLocalLine l b a) call m = ap marks m.2
marked (PollEvent b a) call m = ap marks m

pub sets_as_marked : (export : Use) (call : Call Preference) → Makes export call → sets_role call ≡ (use_marks export).0
sets_as_marked export call m = ap (λ (x : Bool × Bool). x.0) (marked export call m)

pub times_as_marked : (export : Use) (call : Call Preference) → Makes export call → is_timeout call ≡ (use_marks export).1
times_as_marked export call m = ap (λ (x : Bool × Bool). x.1) (marked export call m)

-- ---- the transition, with the transaction ID of its check

abbrev used : Use → ℤ → Used
used export code = record { export = export; code = code }

-- a check that the entry issues has the ID that C passed
abbrev pub Draws : Used → Entry → Type 0
Draws u e = (path : Path) (id : List ℕ) → e.emitted.issued ≡ Some (issued_as path class.Request id) → id_of u ≡ Some id

abbrev pub Outcome : Used → HeldRecord → HeldRecord → Type 0
Outcome u old new =
    ((new.agent ≡ old.agent) × IsNone u)
    ⊎ (((x : Logged Preference) × (s t : Stream) × IsOf u x × GivesBased x.call × Step mac_of answers old.agent s x.call x.entry new.agent t × Draws u x.entry)
    ⊎ SetsAll u old new)

done_coded : (r : Result (Unit {0}) IceError) → done_code r ≡ code_by (answer_by done r)
done_coded (Ok x) = refl
done_coded (Err e) = refl

done_ok : (r : Result (Unit {0}) IceError) (code : ℤ) → code ≡ done_code r → is_done (answer_by done r) ≡ is_ok code
done_ok (Ok x) code is = sym (ap is_ok is)
done_ok (Err e) code is = sym (ap is_ok is ∙ error_bad e)

twelve : (random : List ℕ) → nat_lt (length random) 12 ≡ false → take 12 random ++ replicate (12 - length random) 0 ≡ take 12 random
twelve random enough =
    let none : 12 - length random ≡ 0 = grind (arith, nat_tests) in
    ap (λ n. take 12 random ++ replicate n 0) none ∙ append-nil (take 12 random)

first_bytes : (random : List ℕ) → nat_lt (length random) 12 ≡ false → (fill_bytes 12 (stream_of given_steps random)).0 ≡ take 12 random
unfolding fill_bytes stream_of
first_bytes random enough = twelve random enough

split : (b : Bool) {X Y Z : Type 0} → (b ≡ true → X → Z) → (b ≡ false → Y → Z) → MatchBool b X Y → Z
split true f g h = f refl h
split false f g h = g refl h

module _ (n : ℕ) where
  timed_out : (now : ℕ) (random : List ℕ) (code : ℤ) (old new : HeldRecord) → nat_lt (length random) 12 ≡ false
      → (r : Result (Unit {0}) IceError) (emitted : Emitted) (left : Stream) → TimesOut mac_of (agent_time now) old.agent (stream_of given_steps random) r emitted new.agent left
      → code ≡ done_code r → Outcome (used (HandleTimeout now random) code) old new
  timed_out now random code old new enough r emitted left times is = inr (inl (
    record { number = n; call = agent.HandleTimeout (agent_time now); entry = record { answer = answer_by done r; emitted = emitted } },
    stream_of given_steps random,
    left,
    record { makes = refl; answers = (is ∙ done_coded r, done_ok r code is) },
    tt,
    (r, emitted, refl, times),
    draws r times is,
  )) where
    draws : (r : Result (Unit {0}) IceError) → TimesOut mac_of (agent_time now) old.agent (stream_of given_steps random) r emitted new.agent left → code ≡ done_code r
        → (path : Path) (id : List ℕ) → emitted.issued ≡ Some (issued_as path class.Request id) → id_of (used (HandleTimeout now random) code) ≡ Some id
    draws (Ok x) times is path id issued =
        ap (λ (b : Bool). if b then Some (take 12 random) else None) (ap is_ok is)
        ∙ ap (λ (bs : List ℕ). Some bs) (sym (drawn_at mac_of (agent_time now) old.agent new.agent (stream_of given_steps random) left (Ok x) emitted times path id issued ∙ first_bytes random enough))
    draws (Err e) (may, nothing, made, left_is) is path id issued =
        let wrong_ : None ≡ Some (issued_as path class.Request id) = sym (ap (λ (x : Emitted). x.issued) nothing) ∙ issued in absurd (cc)

  pub outcome : (export : Use) (code : ℤ) (old new : HeldRecord) → Does export old code new → Outcome (used export code) old new
  outcome (HandleTimeout now random) code old new h = split (nat_lt (length random) 12)
      (λ short (is, same). inl (ap (λ (x : HeldRecord). x.agent) same, λ _. ap is_ok is))
      (λ enough k. timed_out now random code old new enough k.0 k.1.0 k.1.1.0 k.1.1.1 k.1.1.2) h
  outcome export code old new h = elim (one n export code old new h) as (λ _. Outcome (used export code) old new) [
    | inl none ↦ inl none
    | inr (inl (x, s, t, of, given, step)) ↦ inr (inl (
      x,
      s,
      t,
      of,
      given,
      step,
      λ path id issued. absurd (checks_none x.entry.emitted.issued path id
          (unless_timeout mac_of answers x.call old.agent new.agent s t x.entry step (times_as_marked export x.call of.makes)) issued),
    ))
    | inr (inr all) ↦ inr (inr all)
  ]
