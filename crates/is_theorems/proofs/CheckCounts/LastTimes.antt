-- Calls that are not `handle_timeout` leave the time of the last one, and that up to which checks are charged.
use Rattle.is_theorems.proofs.Common.{◌==◌, ◌∙◌, ◌≡◌, AddLocalCandidate, AddRemoteCandidate, AgentRecord, ap, Becomes, Bool, Call}
use Rattle.is_theorems.proofs.Common.{CandidateRecord, Combination, Entry, Err, false, FormsAll, HandleTimeout, InvalidateCandidate}
use Rattle.is_theorems.proofs.Common.{InvalidatesAt, is_timeout, List, local_to_discard, loses_selected, MatchBool, None, NotCalled, Ok}
use Rattle.is_theorems.proofs.Common.{Option, Path, PollEvent, PollTimeout, PollTransmit, quiet, ReceivePacket, RecreateCandidatePairs}
use Rattle.is_theorems.proofs.Common.{remote_to_discard, Reselects, RestartIce, SetConsent, SetControlling, SetControlTieBreaker}
use Rattle.is_theorems.proofs.Common.{SetIceLite, SetInitialStunRto, SetLiteTimeout, SetLocalCredentials, SetLocalPreference}
use Rattle.is_theorems.proofs.Common.{SetMaxCandidatePairs, SetMaxCandidates, SetMaxDiscovered, SetMaxStunRetransmits, SetMaxStunRto, SetMtu, SetProfile}
use Rattle.is_theorems.proofs.Common.{SetRemoteCredentials, SetRenomination, SetTimingAdvance, SkipPairIds, Some, Step, Stream, true}
use Rattle.is_theorems.proofs.Common.{with_retransmits, ℕ}
use Rattle.is_theorems.proofs.CallEffects.AddedCandidates.{by_adding_local, by_adding_remote, by_waking}
use Rattle.is_theorems.proofs.CallEffects.FailedCallsAndNewAgents.{mtu_kept, local_kept, remote_kept, restart_kept, recreation_kept}
use Rattle.is_theorems.proofs.CallEffects.FailedCallsAndNewAgents.{enrolment_kept, storing_kept}
use Rattle.is_theorems.proofs.PunctualTimeouts.UnchangedPacing.{Pace, receives, reselects-same}

-- both times
record Clocks : Type 0 where
  last_time : Option ℕ
  charged_until : ℕ

abbrev clocks_in : Pace → Clocks
clocks_in p = record { last_time = p.clock.last_time; charged_until = p.charged_until }

module _ {H P : Type 0} where
  abbrev clocks_of : AgentRecord H P → Clocks
  clocks_of a = record { last_time = a.last_time; charged_until = a.charged_until }

  abbrev Same : AgentRecord H P → AgentRecord H P → Type 0
  Same old new = clocks_of new ≡ clocks_of old

  made-of : (old new : AgentRecord H P) → new ≡ old → Same old new
  made-of old new made = ap (λ (a : AgentRecord H P). clocks_of a) made

  reselected : (old mid new : AgentRecord H P) (path : Option Path) → Reselects (loses_selected old mid) mid path new → Same old mid → Same old new
  reselected old mid new path again set = ap clocks_in (reselects-same (loses_selected old mid) mid new path again) ∙ set

  forms : (mid new : AgentRecord H P) (all : List Combination) → FormsAll mid all new → Same mid new
  forms mid new all (f, each, made) = made-of _ new made

  invalidates : (old new : AgentRecord H P) (l r : Option ℕ) (found : Bool) → InvalidatesAt l r old found new → Same old new
  invalidates old new (Some place) r found h = made-of _ new h.1
  invalidates old new None (Some place) found h = made-of _ new h.1
  invalidates old new None None found h = made-of old new h.1

  retransmits : (b : Bool) (n : ℕ) (old new : AgentRecord H P) (s t : Stream) (e : Entry)
      → MatchBool b ((e ≡ quiet NotCalled) × (new ≡ old) × (t ≡ s)) (Becomes (with_retransmits n old) s e new t) → Same old new
  retransmits true n old new s t e h = made-of old new h.1
  retransmits false n old new s t e h = made-of _ new h.1

  module _ (mac : H → List ℕ → List ℕ → List ℕ) (answers : P → CandidateRecord → ℕ → ℕ → Type 0) where
    both-stay : (call : Call P) (old new : AgentRecord H P) (s t : Stream) (e : Entry) → is_timeout call ≡ false → Step mac answers old s call e new t → Same old new
    both-stay (HandleTimeout now) old new s t e is h = let no : true ≡ false = is in absurd (cc)
    both-stay (SetMtu target warn) old new s t e is (Ok _, reported, h, drawn) = made-of _ new h.1
    both-stay (SetMtu target warn) old new s t e is (Err error, reported, h, drawn) = made-of old new (mtu_kept old new target warn error h)
    both-stay (SetControlTieBreaker tie) old new s t e is h = made-of _ new h.1
    both-stay (SetMaxCandidatePairs n) old new s t e is h = made-of _ new h.1
    both-stay (SetMaxDiscovered limit) old new s t e is h = made-of _ new h.1
    both-stay (SetMaxCandidates limit) old new s t e is h = made-of _ new h.1
    both-stay (SetIceLite lite) old new s t e is h = made-of _ new h.1
    both-stay (SetRenomination renominates) old new s t e is h = made-of _ new h.1
    both-stay (SetProfile profile) old new s t e is h = made-of _ new h.1
    both-stay (SetConsent consent) old new s t e is h = made-of _ new h.1
    both-stay (SetTimingAdvance by) old new s t e is h = made-of _ new h.1
    both-stay (SetInitialStunRto rto) old new s t e is h = made-of _ new h.1
    both-stay (SetMaxStunRto rto) old new s t e is h = made-of _ new h.1
    both-stay (SetMaxStunRetransmits n) old new s t e is h = retransmits (n == 0) n old new s t e h
    both-stay (SetLiteTimeout by) old new s t e is h = made-of _ new h.1
    both-stay (SetLocalPreference object) old new s t e is h = made-of _ new h.1
    both-stay (SetControlling controlling) old new s t e is h = made-of _ new h.1
    both-stay (SetLocalCredentials creds) old new s t e is (Ok _, reported, h, drawn) = made-of _ new h.1
    both-stay (SetLocalCredentials creds) old new s t e is (Err error, reported, h, drawn) = made-of old new (local_kept old new creds error h)
    both-stay (SetRemoteCredentials creds) old new s t e is (Ok _, reported, h, drawn) = made-of _ new h.1
    both-stay (SetRemoteCredentials creds) old new s t e is (Err error, reported, h, drawn) = made-of old new (remote_kept old new creds error h)
    both-stay (SkipPairIds n) old new s t e is h = made-of _ new h.1
    both-stay (AddLocalCandidate c) old new s t e is (Ok place, emitted, reported, (path, mid, h, again, out), drawn) =
        reselected old mid new path again (by_adding_local old mid answers c place h
        (λ made. made-of old mid made) (λ x _ f. forms _ mid _ f) (λ k _ f. forms _ mid _ f) (λ x _ k f. forms _ mid _ f))
    both-stay (AddLocalCandidate c) old new s t e is (Err error, emitted, reported, (path, mid, h, again, out), drawn) =
        reselected old mid new path again (made-of old mid (enrolment_kept answers old mid c error h))
    both-stay (AddRemoteCandidate c) old new s t e is (Ok _, emitted, reported, (path, mid, h, again, out), drawn) =
        reselected old mid new path again (by_adding_remote old mid c h
        (λ made. made-of old mid made) (λ f. forms _ mid _ f) (λ k _ addr f. forms _ mid _ f))
    both-stay (AddRemoteCandidate c) old new s t e is (Err error, emitted, reported, (path, mid, h, again, out), drawn) =
        reselected old mid new path again (made-of old mid (storing_kept old mid c error h))
    both-stay (InvalidateCandidate c) old new s t e is (found, emitted, reported, (path, mid, h, again, out), drawn) =
        reselected old mid new path again (invalidates old mid (local_to_discard c old) (remote_to_discard c old) found h)
    both-stay (RestartIce creds keep) old new s t e is (Ok _, reported, h, drawn) = made-of _ new h.1
    both-stay (RestartIce creds keep) old new s t e is (Err error, reported, h, drawn) = made-of old new (restart_kept old new creds keep error h)
    both-stay RecreateCandidatePairs old new s t e is (Ok _, reported, (some, h), drawn) = forms _ new _ h
    both-stay RecreateCandidatePairs old new s t e is (Err error, reported, h, drawn) = made-of old new (recreation_kept old new error h)
    both-stay (ReceivePacket now via bytes) old new s t e is (h, drawn) = ap clocks_in (receives mac answers now old new via bytes e h)
    both-stay PollTransmit old new s t e is (given, reported, (polled, made), drawn) = made-of _ new made
    both-stay PollTimeout old new s t e is (deadline, reported, h, drawn) = by_waking old new deadline h (λ made. made-of old new made) (λ at made. made-of _ new made)
    both-stay PollEvent old new s t e is (given, reported, (polled, made), drawn) = made-of _ new made

    pub last-stays : (call : Call P) (old new : AgentRecord H P) (s t : Stream) (e : Entry) → is_timeout call ≡ false → Step mac answers old s call e new t → new.last_time ≡ old.last_time
    last-stays call old new s t e is step = ap (λ (c : Clocks). c.last_time) (both-stay call old new s t e is step)

    pub charges-stay : (call : Call P) (old new : AgentRecord H P) (s t : Stream) (e : Entry) → is_timeout call ≡ false → Step mac answers old s call e new t → new.charged_until ≡ old.charged_until
    charges-stay call old new s t e is step = ap (λ (c : Clocks). c.charged_until) (both-stay call old new s t e is step)
