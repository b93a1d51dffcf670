-- A response is no data, and data is taken only of a peer that was requested.
use Rattle.is_turn.specs.declared.outcome.Reason.TheVariants as reasons
use Rattle.is_turn.specs.Peers.{DataIsRequested}
use Rattle.is_turn.proofs.Common.{◌≡◌, Allocated, at_place, Bool, challenge_taken, Challenged, cond, Credentials, Doubted, Dropped, dropped}
use Rattle.is_turn.proofs.Common.{Failed, false, Hinted, Instant, IsRespondedBy, Lasting, Lease, LeaseApplies, List, Message, None, Option}
use Rattle.is_turn.proofs.Common.{Outcome, outcome_for, outcome_with, OutcomeApplies, own, Reason, Receipt, Redirected, Refreshed, Session}
use Rattle.is_turn.proofs.Common.{SocketAddr, Some, subst, sym, true, ℕ}

-- ---- responses

asked_own : (s : Session) (l : List Lease) (result : Receipt) → result ≡ own → DataIsRequested result s l
asked_own s l result h = subst (λ (r : Receipt). DataIsRequested r s l) (sym h) tt

pub asked_dropped : (reason : Reason) (s : Session) (l : List Lease) (result : Receipt) → result ≡ dropped reason → DataIsRequested result s l
asked_dropped reason s l result h = subst (λ (r : Receipt). DataIsRequested r s l) (sym h) tt

asked_either : (b : Bool) (reason : Reason) (s : Session) (l : List Lease) (result : Receipt) → result ≡ cond b own (dropped reason) → DataIsRequested result s l
asked_either true reason s l result h = asked_own s l result h
asked_either false reason s l result h = asked_dropped reason s l result h

asked_outcome : (now : Instant) (outcome : Outcome) (realm nonce : Option (List ℕ)) (s : Session) (l : List Lease) (c : Option Credentials) (result : Receipt)
    (new : Session) (c_new : Option Credentials) → OutcomeApplies now outcome realm nonce s c result new c_new → DataIsRequested result s l
asked_outcome now (Dropped reason) realm _ s l c result new c_new step = asked_dropped reason s l result step.0
asked_outcome now (Doubted code) realm _ s l c result new c_new step = asked_dropped reasons.Unauthentic s l result step.0
asked_outcome now (Hinted code) realm _ s l c result new c_new step = asked_own s l result step.0
asked_outcome now (Challenged b code) realm nonce s l c result new c_new step =
    asked_either (challenge_taken realm nonce c).1 reasons.Challenge s l result step.0
asked_outcome now (Allocated since seconds allocation) realm _ s l c result new c_new step = asked_own s l result step.0
asked_outcome now (Refreshed since seconds) realm _ s l c result new c_new step = asked_own s l result step.0
asked_outcome now (Lasting since) realm _ s l c result new c_new step = asked_dropped reasons.Unasked s l result step.0
asked_outcome now (Redirected server) realm _ s l c result new c_new step = asked_own s l result step.0
asked_outcome now (Failed code) realm _ s l c result new c_new step = asked_own s l result step.0

asked_lease : (now : Instant) (place : ℕ) (outcome : Outcome) (realm nonce : Option (List ℕ)) (s : Session) (l : List Lease) (c : Option Credentials)
    (result : Receipt) (new : Session) (l_new : List Lease) (c_new : Option Credentials)
    → LeaseApplies now place outcome realm nonce s l c result new l_new c_new → DataIsRequested result s l
asked_lease now place (Dropped reason) realm _ s l c result new l_new c_new step = asked_dropped reason s l result step.0
asked_lease now place (Doubted code) realm _ s l c result new l_new c_new step = asked_dropped reasons.Unauthentic s l result step.0
asked_lease now place (Hinted code) realm _ s l c result new l_new c_new step = asked_own s l result step.0
asked_lease now place (Challenged b code) realm nonce s l c result new l_new c_new step =
    asked_either (challenge_taken realm nonce c).1 reasons.Challenge s l result step.1.0
asked_lease now place (Lasting since) realm _ s l c result new l_new c_new step = asked_own s l result step.0
asked_lease now place (Failed code) realm _ s l c result new l_new c_new step = asked_own s l result step.0
asked_lease now place (Allocated since seconds allocation) realm _ s l c result new l_new c_new step = asked_dropped reasons.Unasked s l result step.0
asked_lease now place (Refreshed since seconds) realm _ s l c result new l_new c_new step = asked_dropped reasons.Unasked s l result step.0
asked_lease now place (Redirected server) realm _ s l c result new l_new c_new step = asked_dropped reasons.Unasked s l result step.0

pub asked_responded : (p : Option ℕ) (mac : List ℕ → List ℕ → List ℕ) (now : Instant) (m : Message) (alternate : Option SocketAddr) (s : Session)
    (l : List Lease) (c : Option Credentials) (result : Receipt) (new : Session) (l_new : List Lease) (c_new : Option Credentials)
    → IsRespondedBy p mac now m alternate s l c result new l_new c_new → DataIsRequested result s l
asked_responded None mac now m alternate s l c result new l_new c_new step =
    asked_outcome now (outcome_for step.0.0 s c m alternate) m.attributes.realm m.attributes.nonce s l c result new c_new step.0.2
asked_responded (Some place) mac now m alternate s l c result new l_new c_new step =
    asked_lease now place (outcome_with step.0 s.phase c m None (at_place place l).operation) m.attributes.realm m.attributes.nonce
    s l c result new l_new c_new step.2
