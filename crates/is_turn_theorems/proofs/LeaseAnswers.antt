-- What the response to the request for a lease does to a session keeps how far its renewal is.
use Rattle.std.proofs.Common.{◌≡◌, ℕ, ◌==◌, ◌&&◌, not, Bool, List, Option, Some, None, is_some}
use Rattle.is_turn_theorems.proofs.Common.{answered_in, at_time, Attempt, code_of, code_or_success, Credentials, is_last_sent, is_unknown, lasts, Lease, lease_failed, LeaseApplies, Limits, Message}
use Rattle.is_turn_theorems.proofs.Common.{on_alternate, on_challenge, on_code, on_success, Operation, outcome_by, outcome_or, outcome_with, Phase, Receipt, relays, Request, Session, SocketAddr}
use Rattle.is_turn_theorems.proofs.Common.{takes_challenge, Verdict, verdict_of}
use Rattle.is_turn.specs.declared.requests.Request.TheVariants as requests
use Rattle.is_turn.specs.declared.session.Phase.TheVariants as phases
use Rattle.is_turn.specs.declared.verdict.Verdict.TheVariants as verdicts
use Rattle.is_turn_theorems.proofs.Standing.{Holds}
use Rattle.is_turn_theorems.proofs.OtherCalls.{through, holds_is, holds_lease_failed}
use Rattle.is_turn_theorems.proofs.Responses.{Called}

module _ (k : Limits) (now d place : ℕ) (realm nonce : Option (List ℕ)) (s : Session) (l : List Lease) (c : Option Credentials) (result : Receipt) (new : Session)
    (l_new : List Lease) (c_new : Option Credentials) (called : Called k now d s) where
  keeps : new ≡ s → Holds k now d new
  keeps e = holds_is k now d s new e called.holds

  fails : (code : ℕ) → new ≡ lease_failed (at_time now) code s → Holds k now d new
  fails code e = holds_is k now d (lease_failed (at_time now) code s) new e (holds_lease_failed k now d code s called.past called.holds called.soon)

  lasts_kept : (a : Attempt) (m : Message) (relayed : SocketAddr) (life : Option ℕ)
      → LeaseApplies (at_time now) place (lasts a m relayed life) realm nonce s l c result new l_new c_new → Holds k now d new
  lasts_kept a m relayed None step = keeps step.1
  lasts_kept a m relayed (Some seconds) step =
      through (lasts a m relayed None) (λ x. LeaseApplies (at_time now) place x realm nonce s l c result new l_new c_new → Holds k now d new) (seconds == 0) _ _
      (λ e step. keeps step.1) (λ e step. keeps step.1) step

  relays_kept : (a : Attempt) (m : Message) (relayed : Option SocketAddr)
      → LeaseApplies (at_time now) place (relays a m relayed) realm nonce s l c result new l_new c_new → Holds k now d new
  relays_kept a m None step = keeps step.1
  relays_kept a m (Some relayed) step = lasts_kept a m relayed m.attributes.lifetime step

  success_kept : (r : Request) (a : Attempt) (m : Message)
      → LeaseApplies (at_time now) place (on_success r a m) realm nonce s l c result new l_new c_new → Holds k now d new
  success_kept (requests.Allocate seconds family) a m step = relays_kept a m m.attributes.xor_relayed_address step
  success_kept (requests.Refresh seconds) a m step = keeps step.1
  success_kept (requests.CreatePermission peer) a m step = keeps step.1
  success_kept (requests.ChannelBind number peer) a m step = keeps step.1

  alternate_kept : (phase : Phase) (alternate : Option SocketAddr)
      → LeaseApplies (at_time now) place (on_alternate phase alternate) realm nonce s l c result new l_new c_new → Holds k now d new
  alternate_kept phases.Asking None step = fails 300 step.1
  alternate_kept phases.Asking (Some server) step = keeps step.1
  alternate_kept phases.New alternate step = fails 300 step.1
  alternate_kept phases.Leaving alternate step = fails 300 step.1
  alternate_kept phases.Ready alternate step = fails 300 step.1
  alternate_kept phases.Closing alternate step = fails 300 step.1
  alternate_kept phases.Ended alternate step = fails 300 step.1

  code_kept : (phase : Phase) (r : Request) (a : Attempt) (m : Message) (alternate : Option SocketAddr) (code : Option ℕ)
      → LeaseApplies (at_time now) place (on_code phase r a m alternate code) realm nonce s l c result new l_new c_new → Holds k now d new
  code_kept phase r a m alternate None step = success_kept r a m step
  code_kept phase r a m alternate (Some code) step =
      through (on_alternate phase alternate) (λ x. LeaseApplies (at_time now) place x realm nonce s l c result new l_new c_new → Holds k now d new) (code == 300) _ _
      (λ e step. alternate_kept phase alternate step) (λ e step. fails code step.1) step

  challenge_kept : (o : Operation) (a : Attempt) (code : ℕ) (unknown : Bool)
      → LeaseApplies (at_time now) place (on_challenge o a code unknown) realm nonce s l c result new l_new c_new → Holds k now d new
  challenge_kept o a code unknown step =
      through (on_challenge o a code unknown) (λ x. LeaseApplies (at_time now) place x realm nonce s l c result new l_new c_new → Holds k now d new)
      (not (takes_challenge a.id (is_some a.key) code o)) _ _ (λ e step. keeps step.1)
      (λ e step. through (on_challenge o a code unknown) (λ x. LeaseApplies (at_time now) place x realm nonce s l c result new l_new c_new → Holds k now d new)
      (code == 401 && is_some a.key && unknown) _ _ (λ e step. keeps step.1) (λ e step. keeps step.0) step) step

  verdict_kept : (v : Verdict) (phase : Phase) (unknown : Bool) (o : Operation) (a : Attempt) (m : Message) (alternate : Option SocketAddr)
      → LeaseApplies (at_time now) place (outcome_by v phase unknown o a m alternate) realm nonce s l c result new l_new c_new → Holds k now d new
  verdict_kept verdicts.Malformed phase unknown o a m alternate step = keeps step.1
  verdict_kept verdicts.Unauthentic phase unknown o a m alternate step = keeps step.1
  verdict_kept verdicts.Hint phase unknown o a m alternate step = keeps step.1
  verdict_kept verdicts.Challenge phase unknown o a m alternate step = challenge_kept o a (code_or_success m) unknown step
  verdict_kept verdicts.Redirect phase unknown o a m alternate step = alternate_kept phase alternate step
  verdict_kept verdicts.Genuine phase unknown o a m alternate step = code_kept phase o.request a m alternate (code_of m) step

  answer_kept : (b : Bool) (phase : Phase) (o : Operation) (a : Option Attempt) (m : Message) (alternate : Option SocketAddr)
      → LeaseApplies (at_time now) place (outcome_or b phase c m alternate o a) realm nonce s l c result new l_new c_new → Holds k now d new
  answer_kept b phase o None m alternate step = keeps step.1
  answer_kept b phase o (Some a) m alternate step = verdict_kept (verdict_of b (is_last_sent a o) a.key c m) phase (is_unknown c) o a m alternate step

  pub lease_answer_holds : (b : Bool) (phase : Phase) (o : Option Operation) (m : Message) (alternate : Option SocketAddr)
      → LeaseApplies (at_time now) place (outcome_with b phase c m alternate o) realm nonce s l c result new l_new c_new → Holds k now d new
  lease_answer_holds b phase None m alternate step = keeps step.1
  lease_answer_holds b phase (Some o) m alternate step = answer_kept b phase o (answered_in m o) m alternate step
