-- What calls issue, and in which order it is polled.
use Rattle.is_theorems.specs.Reporting.{QueuesTheorem}
use Rattle.is.specs.Queues.{IssuesNone, OthersIssueNone, QueuesAreKept}
use Rattle.is.proofs.Common.{◌==◌, ◌∙◌, ◌≡◌, AddLocalCandidate, AddRemoteCandidate, AgentRecord, Answer, ap, Bool, Call, CandidateRecord}
use Rattle.is.proofs.Common.{Emitted, Entry, false, HandleTimeout, InvalidateCandidate, List, Logged, MatchBool, None, Option, Path}
use Rattle.is.proofs.Common.{PollEvent, PollTimeout, PollTransmit, quiet, ReceivePacket, RecreateCandidatePairs, RestartIce, selected_only}
use Rattle.is.proofs.Common.{SetConsent, SetControlling, SetControlTieBreaker, SetIceLite, SetInitialStunRto, SetLiteTimeout}
use Rattle.is.proofs.Common.{SetLocalCredentials, SetLocalPreference, SetMaxCandidatePairs, SetMaxCandidates, SetMaxDiscovered, SetMaxStunRetransmits}
use Rattle.is.proofs.Common.{SetMaxStunRto, SetMtu, SetProfile, SetRemoteCredentials, SetRenomination, SetTimingAdvance, SkipPairIds, Step}
use Rattle.is.proofs.Common.{Stream, true, ℕ}

-- a quiet entry records no packet
silent : (e : Entry) (answer : Answer) → e ≡ quiet answer → e.emitted.issued ≡ None
silent e answer is = ap (λ (x : Entry). x.emitted.issued) is

-- nor does one of a call that may select a path
selects : {e : Entry} {answer : Answer} (emitted : Emitted) (path : Option Path) → e ≡ record { answer = answer; emitted = emitted } → emitted ≡ selected_only path
    → e.emitted.issued ≡ None
selects emitted path is emits = ap (λ (x : Entry). x.emitted.issued) is ∙ ap (λ (x : Emitted). x.issued) emits

either : (b : Bool) {P Q R : Type 0} → MatchBool b P Q → (P → R) → (Q → R) → R
either true h f g = f h
either false h f g = g h

module _ {H P : Type 0} (mac : H → List ℕ → List ℕ → List ℕ) (answers : P → CandidateRecord → ℕ → ℕ → Type 0) where
  issues_none : (old new : AgentRecord H P) (s t : Stream) (call : Call P) (e : Entry) → Step mac answers old s call e new t → IssuesNone call e
  issues_none old new s t (SetMtu target warn) e h _ = silent e _ h.1
  issues_none old new s t (SetControlTieBreaker tie_breaker) e h _ = silent e _ h.0
  issues_none old new s t (SetMaxCandidatePairs n) e h _ = silent e _ h.0
  issues_none old new s t (SetMaxDiscovered n) e h _ = silent e _ h.0
  issues_none old new s t (SetMaxCandidates n) e h _ = silent e _ h.0
  issues_none old new s t (SetIceLite lite) e h _ = silent e _ h.0
  issues_none old new s t (SetRenomination on) e h _ = silent e _ h.0
  issues_none old new s t (SetProfile profile) e h _ = silent e _ h.0
  issues_none old new s t (SetConsent consent) e h _ = silent e _ h.0
  issues_none old new s t (SetTimingAdvance by) e h _ = silent e _ h.0
  issues_none old new s t (SetInitialStunRto rto) e h _ = silent e _ h.0
  issues_none old new s t (SetMaxStunRto rto) e h _ = silent e _ h.0
  issues_none old new s t (SetMaxStunRetransmits n) e did _ = either (n == 0) did (λ h. silent e _ h.0) (λ h. silent e _ h.0)
  issues_none old new s t (SetLiteTimeout by) e h _ = silent e _ h.0
  issues_none old new s t (SetLocalPreference object) e h _ = silent e _ h.0
  issues_none old new s t (SetControlling controlling) e h _ = silent e _ h.0
  issues_none old new s t (SetLocalCredentials creds) e h _ = silent e _ h.1
  issues_none old new s t (SetRemoteCredentials creds) e h _ = silent e _ h.1
  issues_none old new s t (SkipPairIds n) e h _ = silent e _ h.0
  issues_none old new s t (AddLocalCandidate c) e (r, emitted, is, (path, mid, does, made, emits), drawn) _ = selects emitted path is emits
  issues_none old new s t (AddRemoteCandidate c) e (r, emitted, is, (path, mid, does, made, emits), drawn) _ = selects emitted path is emits
  issues_none old new s t (InvalidateCandidate c) e (r, emitted, is, (path, mid, does, made, emits), drawn) _ = selects emitted path is emits
  issues_none old new s t (RestartIce creds keep) e h _ = silent e _ h.1
  issues_none old new s t RecreateCandidatePairs e h _ = silent e _ h.1
  issues_none old new s t (ReceivePacket now path bytes) e did h = cc
  issues_none old new s t (HandleTimeout now) e did h = cc
  issues_none old new s t PollTransmit e h _ = silent e _ h.1
  issues_none old new s t PollTimeout e h _ = silent e _ h.1
  issues_none old new s t PollEvent e h _ = silent e _ h.1

  pub others_issue_none : (first : AgentRecord H P) (s : Stream) (log : List (Logged P)) → OthersIssueNone mac answers first s log
  others_issue_none first s log before mid after x point = issues_none mid after _ _ x.call x.entry point.step

  -- the order of each entry is that of its step
  pub queues_are_kept : QueuesTheorem mac answers → (first : AgentRecord H P) (s : Stream) (log : List (Logged P)) → QueuesAreKept mac answers first s log
  queues_are_kept law first s log before mid after x point = law mid after _ _ x.call x.entry point.step
