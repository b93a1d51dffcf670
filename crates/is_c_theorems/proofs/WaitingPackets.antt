-- A packet that waits in the agent or in what the slot holds: it stays until C gets it, or until a restart.
use Rattle.is_proto.specs.Packets as packets
use Rattle.is_rules.specs.Steps as agent
use Rattle.is_theorems.specs.Polled as polled
use Rattle.is_c_calls.specs.declared.packets.Packet.{Packet}
use Rattle.is_c_theorems.proofs.Common.{[], ◌&&◌, ◌++◌, ◌==◌, ◌∙◌, ◌∷◌, ◌≡◌, ◌⊎◌, AddLocal, AddLocalLine, AddRemote, AddsLocalListed}
use Rattle.is_c_theorems.proofs.Common.{AddsMade, AddsRemoteListed, answers, ap, Ask, BAD_ADDRESS, Bool, Call, CallsMade, Discards, Does}
use Rattle.is_c_theorems.proofs.Common.{drop, Entry, Err, false, FixTimes, found_code, Gets, GivesOf, HandlePacket, HandlesDatagram}
use Rattle.is_c_theorems.proofs.Common.{HandleTimeout, Has, Held, HeldRecord, if◌then◌else◌, inl, inr, Invalidate}
use Rattle.is_c_theorems.proofs.Common.{InvalidateLocal, is_modern, is_ok, IsQueued, IsReported, Issued, IsToPoll, keeps_role, length, List}
use Rattle.is_c_theorems.proofs.Common.{mac_of, Made, Makes, nat_lt, None, NOT_UTF8, NotesFailure, Ok, Option, option_and_then, option_map}
use Rattle.is_c_theorems.proofs.Common.{packet_path, Path, PollEvent, PollTimeout, PollTransmit, Preference, QueuesPackets, RecreatePairs}
use Rattle.is_c_theorems.proofs.Common.{refl, Restart, restarts, SendFailed, SetControlling, SetInitialRto, SetLite, SetLiteTimeout}
use Rattle.is_c_theorems.proofs.Common.{SetLocalCredentials, SetMaxCandidates, SetMaxDiscovered, SetMaxPairs, SetMaxRetransmits, SetMaxRto}
use Rattle.is_c_theorems.proofs.Common.{SetMtu, SetPreference, SetRemoteCredentials, SetRenomination, SetSettings, SetSilence}
use Rattle.is_c_theorems.proofs.Common.{SetTieBreaker, SetTimingAdvance, SkipPairIds, socket_of, Some, subst, sym, take, take-append_seam}
use Rattle.is_c_theorems.proofs.Common.{TakesNext, true, Use, via_out, ℕ, ℤ}
use Rattle.is_c_theorems.proofs.CallsAsSteps.{never, either}

appended : {X : Type 0} (xs ys : List X) (x : X) → Has xs x → Has (xs ++ ys) x
appended [] ys x has = absurd has
appended (y ∷ xs) ys x (inl is) = inl is
appended (y ∷ xs) ys x (inr has) = inr (appended xs ys x has)

-- ---- what C gets

pub reported_path : (r : Packet) (p : packets.Packet) → IsReported p r → packet_path r.protocol r.source r.destination ≡ Some (via_out p)
reported_path r p (long, proto, from, to) =
    ap (λ o. option_and_then (λ proto. option_and_then (λ source. option_map (λ to. record { proto = proto; source = source; destination = to }) (socket_of r.destination)) (socket_of r.source)) o) proto
    ∙ (ap (λ o. option_and_then (λ source. option_map (λ to. record { proto = p.proto; source = source; destination = to }) (socket_of r.destination)) o) from
    ∙ ap (λ o. option_map (λ to. record { proto = p.proto; source = p.source; destination = to }) o) to)

handed : (before after : List ℕ) (known r : Packet) (code : ℤ) (p : packets.Packet) (h : HeldRecord) → GivesOf (Some p) before after known r code h.waiting
    → IsToPoll h p ⊎ Gets (record { export = PollTransmit before after known r; code = code }) (via_out p) p.contents
handed before after known r code p h (reported, gives) = either (nat_lt (length before) (length p.contents))
    (λ k. inl (inl k.2))
    (λ k. inr (
      before,
      after,
      known,
      r,
      refl,
      reported_path r p reported,
      ap (λ n. take n after) reported.0 ∙ (ap (λ bs. take (length p.contents) bs) k.1 ∙ take-append_seam p.contents (drop (length p.contents) before)),
      k.0,
    )) gives

next_polled : (before after : List ℕ) (known r : Packet) (code : ℤ) (mid held : HeldRecord) (p : packets.Packet) (waiting first : Option packets.Packet)
    → TakesNext waiting mid.agent first held.agent → GivesOf first before after known r code held.waiting → (waiting ≡ Some p) ⊎ Has mid.agent.packets p
    → IsToPoll held p ⊎ Gets (record { export = PollTransmit before after known r; code = code }) (via_out p) p.contents
next_polled before after known r code mid held p (Some w) first (is, same) gives (inl here) =
    handed before after known r code p held (subst (λ (o : Option packets.Packet). GivesOf o before after known r code held.waiting) (is ∙ here) gives)
next_polled before after known r code mid held p (Some w) first (is, same) gives (inr has) = inl (inr (subst (λ (a : Held). Has a.packets p) (sym same) has))
next_polled before after known r code mid held p None None takes gives (inl here) = let wrong_ : None ≡ Some p = here in absurd (cc)
next_polled before after known r code mid held p None (Some q) takes gives (inl here) = let wrong_ : None ≡ Some p = here in absurd (cc)
next_polled before after known r code mid held p None None ((none, left), rest) gives (inr has) = absurd (subst (λ (ps : List packets.Packet). Has ps p) none has)
next_polled before after known r code mid held p None (Some q) (is, rest) gives (inr has) = elim (subst (λ (ps : List packets.Packet). Has ps p) is has) [
  | inl here ↦ handed before after known r code p held (subst (λ (x : packets.Packet). GivesOf (Some x) before after known r code held.waiting) here gives)
  | inr there ↦ inl (inr there)
]

-- ---- the packet that waits

abbrev pub is_polling : Use → Bool
is_polling (PollTransmit before after known r) = true
is_polling _ = false

by_held : (old new needed : HeldRecord) → new ≡ needed → needed.waiting ≡ old.waiting → new.waiting ≡ old.waiting
by_held old new needed is same = ap (λ (h : HeldRecord). h.waiting) is ∙ same

received : (now : ℕ) (bytes : List ℕ) (path : Option Path) (code : ℤ) (old new : HeldRecord) → HandlesDatagram mac_of now path bytes old code new → new.waiting ≡ old.waiting
received now bytes None code old new h = by_held old new old h.1 refl
received now bytes (Some path) code old new (inl (e, fails, h)) = by_held old new old h.1 refl
received now bytes (Some path) code old new (inr (m, reads, (r, (emitted, handles, coded, kept)))) = kept.0

pub waits : (export : Use) (code : ℤ) (old new : HeldRecord) → Does export old code new → is_polling export ≡ false → (if restarts export then is_ok code else false) ≡ false
    → new.waiting ≡ old.waiting
waits Ask code old new h np nr = by_held old new old h refl
waits (SetControlling role) code old new h np nr = either (keeps_role old.agent && role) (λ k. by_held old new old k.1 refl) (λ k. by_held old new _ k.1 refl) h
waits (SetMtu mtu warn) code old new (x, does, is, kept) np nr = kept.0
waits RecreatePairs code old new (x, does, is, kept) np nr = kept.0
waits (SetMaxRetransmits limit) code old new h np nr = either (limit == 0) (λ k. by_held old new old k.1 refl) (λ k. by_held old new _ k.1 refl) h
waits (SetLocalCredentials u p) code old new (Ok creds, made, (x, does, is, kept)) np nr = kept.0
waits (SetLocalCredentials u p) code old new (Err why, made, h) np nr = by_held old new old h.1 refl
waits (SetRemoteCredentials u p) code old new (Ok creds, made, (x, does, is, kept)) np nr = kept.0
waits (SetRemoteCredentials u p) code old new (Err why, made, h) np nr = by_held old new old h.1 refl
waits (AddLocal c before after) code old new (made, makes, h) np nr = by made h where
  by : (made : Made) → AddsMade (AddsLocalListed answers) BAD_ADDRESS made before after old code new → new.waiting ≡ old.waiting
  by None k = by_held old new old k.0.1 refl
  by (Some (Err e)) k = by_held old new old k.0.1 refl
  by (Some (Ok made)) (x, does, puts, kept) = kept.0
waits (AddLocalLine line before after) code old new (made, makes, h) np nr = by made h where
  by : (made : Made) → AddsMade (AddsLocalListed answers) NOT_UTF8 made before after old code new → new.waiting ≡ old.waiting
  by None k = by_held old new old k.0.1 refl
  by (Some (Err e)) k = by_held old new old k.0.1 refl
  by (Some (Ok made)) (x, does, puts, kept) = kept.0
waits (AddRemote line before after) code old new (made, makes, h) np nr = by made h where
  by : (made : Made) → AddsMade AddsRemoteListed NOT_UTF8 made before after old code new → new.waiting ≡ old.waiting
  by None k = by_held old new old k.0.1 refl
  by (Some (Err e)) k = by_held old new old k.0.1 refl
  by (Some (Ok made)) (x, does, puts, kept) = kept.0
waits (InvalidateLocal c) code old new (made, makes, h) np nr = by made h where
  by : (made : Made) → CallsMade Discards found_code BAD_ADDRESS made old code new → new.waiting ≡ old.waiting
  by None k = by_held old new old k.1 refl
  by (Some (Err e)) k = by_held old new old k.1 refl
  by (Some (Ok made)) (x, does, is, kept) = kept.0
waits (Invalidate line) code old new (made, makes, h) np nr = by made h where
  by : (made : Made) → CallsMade Discards found_code NOT_UTF8 made old code new → new.waiting ≡ old.waiting
  by None k = by_held old new old k.1 refl
  by (Some (Err e)) k = by_held old new old k.1 refl
  by (Some (Ok made)) (x, does, is, kept) = kept.0
waits (Restart u p keep) code old new (Ok creds, made, (Ok _, restarted, is)) np nr = never (sym nr ∙ ap is_ok is)
waits (Restart u p keep) code old new (Ok creds, made, (Err e, restarted, is)) np nr = restarted.1
waits (Restart u p keep) code old new (Err why, made, h) np nr = by_held old new old h.1 refl
waits (HandlePacket now protocol source destination bytes) code old new h np nr = received now bytes (packet_path protocol source destination) code old new h
waits (HandleTimeout now random) code old new h np nr = either (nat_lt (length random) 12) (λ k. by_held old new old k.1 refl) (λ (x, (emitted, k)). k.3) h
waits (PollTransmit before after known reported) code old new h np nr = never (sym np)
waits (PollTimeout before after) code old new h np nr =
    either (is_modern old.agent.timing) (λ k. by_held old new old k.1 refl) (λ (deadline, polls, kept, writes). kept.0) h
waits (FixTimes soon) code old new (deadline, polls, coded, is) np nr = by_held old new _ is refl
waits (PollEvent before after) code old new (given, polls, returns, kept) np nr = kept.0
waits (SetLite lite) code old new (coded, same) np nr = by_held old new _ same refl
waits (SetRenomination enabled) code old new (coded, same) np nr = by_held old new _ same refl
waits (SetTieBreaker n) code old new (coded, same) np nr = by_held old new _ same refl
waits (SetMaxPairs n) code old new (coded, same) np nr = by_held old new _ same refl
waits (SetMaxDiscovered n) code old new (coded, same) np nr = by_held old new _ same refl
waits (SetMaxCandidates n) code old new (coded, same) np nr = by_held old new _ same refl
waits (SetTimingAdvance n) code old new (coded, same) np nr = by_held old new _ same refl
waits (SetInitialRto n) code old new (coded, same) np nr = by_held old new _ same refl
waits (SetMaxRto n) code old new (coded, same) np nr = by_held old new _ same refl
waits (SetLiteTimeout n) code old new (coded, same) np nr = by_held old new _ same refl
waits (SetPreference p) code old new (coded, same) np nr = by_held old new _ same refl
waits (SetSettings s) code old new h np nr = either (s.max_retransmits == 0) (λ k. by_held old new old k.1 refl) (λ k. by_held old new _ k.1 refl) h
waits (SkipPairIds n) code old new (coded, same) np nr = by_held old new _ same refl
waits (SetSilence n) code old new (coded, same) np nr = by_held old new _ same refl
waits (SendFailed p s d r) code old new h np nr = by (packet_path p s d) h where
  by : (path : Option Path) → NotesFailure path r old code new → new.waiting ≡ old.waiting
  by None k = by_held old new old k.1 refl
  by (Some path) (inl k) = by_held old new old k.1 refl
  by (Some path) (inr (is, notes, same)) = by_held old new _ same refl

-- ---- the packets of the agent

abbrev is_poll : Call Preference → Bool
is_poll agent.PollTransmit = true
is_poll _ = false

pub not_poll : (export : Use) (call : Call Preference) → Makes export call → is_polling export ≡ false → is_poll call ≡ false
not_poll Ask call m none = absurd m
not_poll (SetSilence n) call m none = absurd m
not_poll (SendFailed p s d r) call m none = absurd m
not_poll (SetControlling role) call m none = ap is_poll m
not_poll (SetLite lite) call m none = ap is_poll m
not_poll (SetRenomination enabled) call m none = ap is_poll m
not_poll (SetTieBreaker n) call m none = ap is_poll m
not_poll (SetMaxPairs n) call m none = ap is_poll m
not_poll (SetMaxDiscovered n) call m none = ap is_poll m
not_poll (SetMaxCandidates n) call m none = ap is_poll m
not_poll (SetTimingAdvance n) call m none = ap is_poll m
not_poll (SetInitialRto n) call m none = ap is_poll m
not_poll (SetMaxRto n) call m none = ap is_poll m
not_poll (SetLiteTimeout n) call m none = ap is_poll m
not_poll (SetMaxRetransmits n) call m none = ap is_poll m
not_poll (SetMtu mtu n) call m none = ap is_poll m
not_poll (SetPreference p) call m none = ap is_poll m
not_poll (SetSettings s) call m none = absurd m
not_poll (SkipPairIds n) call m none = ap is_poll m
not_poll (SetLocalCredentials u p) call m none = ap is_poll m
not_poll (SetRemoteCredentials u p) call m none = ap is_poll m
not_poll (AddLocal c b a2) call m none = ap is_poll m.2
not_poll (AddLocalLine l b a2) call m none = ap is_poll m.2
not_poll (AddRemote l b a2) call m none = ap is_poll m.2
not_poll (InvalidateLocal c) call m none = ap is_poll m.2
not_poll (Invalidate l) call m none = ap is_poll m.2
not_poll (Restart u p keep) call m none = ap is_poll m
not_poll RecreatePairs call m none = ap is_poll m
not_poll (HandlePacket n p s d bs) call m none = ap is_poll m.2
not_poll (HandleTimeout n r) call m none = ap is_poll m
not_poll (PollTransmit b a2 known r) call m none = never (sym none)
not_poll (PollTimeout b a2) call m none = ap is_poll m
not_poll (FixTimes soon) call m none = ap is_poll m
not_poll (PollEvent b a2) call m none = ap is_poll m

pub kept_packets : (call : Call Preference) (e : Entry) (a b : List packets.Packet) → QueuesPackets call e a b → polled.restarts call e.answer ≡ false → is_poll call ≡ false
    → (p : packets.Packet) → Has a p → Has b p
kept_packets agent.PollTransmit e a b h none other p has = never (sym other)
kept_packets (agent.RestartIce creds keep) e a b (nothing, h) none other p has =
    subst (λ (ps : List packets.Packet). Has ps p) (sym (h ∙ ap (λ (c : Bool). if c then [] else a) none)) has
kept_packets _ e a b h none other p has = by e.emitted.issued h where
  by : (o : Option Issued) → IsQueued o a b → Has b p
  by None is = subst (λ (ps : List packets.Packet). Has ps p) (sym is) has
  by (Some i) (q, via, is) = subst (λ (ps : List packets.Packet). Has ps p) (sym is) (appended a (q ∷ []) p has)

pub carry_queue : (export : Use) (code : ℤ) (mid held : HeldRecord) → Does export mid code held → (if restarts export then is_ok code else false) ≡ false
    → (is_polling export ≡ false → (p : packets.Packet) → Has mid.agent.packets p → Has held.agent.packets p)
    → (p : packets.Packet) → IsToPoll mid p → IsToPoll held p ⊎ Gets (record { export = export; code = code }) (via_out p) p.contents
carry_queue (PollTransmit before after known r) code mid held k none on p has =
    next_polled before after known r code mid held p mid.waiting k.0 k.1 k.2 has
carry_queue export code mid held does none on p (inl waiting) = inl (inl (waits export code mid held does refl none ∙ waiting))
carry_queue export code mid held does none on p (inr has) = inl (inr (on refl p has))
