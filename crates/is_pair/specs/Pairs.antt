-- A candidate pair (RFC 8445, section 6.1.2), and its state after each operation. Times and durations are in
-- nanoseconds.
use Rattle.std.specs.Prelude.{◌≡◌, ℕ, ◌+◌, ◌-◌, ◌==◌, Bool, true, false, length, nat_lt, max, min, List, [], ◌∷◌, ◌++◌, slice_set, Option, Some, None, unwrap_or, if◌then◌else◌}
use Rattle.std.specs.Option.{option_map_or}
use Rattle.is_proto.specs.Times.{counted, later}
use Rattle.is_stun.specs.declared.timing.StunTiming.{StunTiming}
use Rattle.is_pair.specs.declared.pair.states.CheckState.{CheckState}
use Rattle.is_pair.specs.declared.pair.states.CheckState.TheVariants.{Waiting, Succeeded}
use Rattle.is_pair.specs.declared.pair.states.NominationState.{NominationState}
use Rattle.is_pair.specs.declared.pair.states.NominationState.TheVariants.{None as Unnominated, Nominated, Success}
use Rattle.is_pair.specs.States.{is_valid_state, is_nominated_state, state_once_sent, state_once_answered, state_from, nomination_once_sent, nomination_again}
use Rattle.is_pair.specs.States.{nomination_once_answered, nomination_from}
use Rattle.is_pair.specs.Checks.{Check, IsCheckAt, answered_at, last_checks, unanswered_count}

-- a pair: the indices of its candidates, its priority, its checks, its states, and what the peer sent on it
pub record PairRecord : Type 0 where
  pub number : ℕ
  -- the indices of its candidates in their lists
  pub local : ℕ
  pub remote : ℕ
  -- the priority when the pair was formed, or the one that was set since
  pub priority : ℕ
  pub checks : List Check
  -- how many checks were sent, also those that it no longer stores
  pub checks_sent : ℕ
  -- when the first one was sent, and the first one after a request of the peer
  pub first_sent : Option ℕ
  pub first_after_request : Option ℕ
  pub nomination : NominationState
  -- the greatest number by which the peer nominated it (NOMINATION); 0: none
  pub greatest_number : ℕ
  pub state : CheckState
  -- the checks from the peer: how many arrived, and when the last one did
  pub requests : ℕ
  pub last_request : Option ℕ
  -- how many responses arrived, including repeated ones, and the sum of their round-trip times
  pub answers : ℕ
  pub total_round_trip : ℕ
  -- how many checks were lost: they had no response yet when a later one had its first
  pub lost : ℕ
  -- when the last check that got a response was sent, on this pair or on one that it replaces
  pub consented : Option ℕ
  -- the due time of the next check, if it is fixed
  pub due : Option ℕ
  -- the code of the last error response to one of its checks
  pub last_error : Option ℕ

-- a new pair; arguments: number, local index, remote index, priority
abbrev pub new_pair : ℕ → ℕ → ℕ → ℕ → PairRecord
new_pair number local remote priority = record {
  number = number;
  local = local;
  remote = remote;
  priority = priority;
  checks = [];
  checks_sent = 0;
  first_sent = None;
  first_after_request = None;
  nomination = Unnominated;
  greatest_number = 0;
  state = Waiting;
  requests = 0;
  last_request = None;
  answers = 0;
  total_round_trip = 0;
  lost = 0;
  consented = None;
  due = None;
  last_error = None;
}

abbrev pub is_valid : PairRecord → Bool
is_valid p = is_valid_state p.state

abbrev pub is_nominated : PairRecord → Bool
is_nominated p = is_nominated_state p.nomination

-- after a check from the peer arrived
abbrev pub with_request : ℕ → PairRecord → PairRecord
with_request now p = record p { requests = counted p.requests; last_request = Some now }

-- after a nomination (RFC 8445, section 8.1.1), which succeeds at once if this is forced
abbrev pub nominated : Bool → PairRecord → PairRecord
nominated true p = record p { nomination = Success }
nominated false p = record p { nomination = Nominated }

-- the nomination of the pair begins again: no check was sent since, so early retransmissions begin again
abbrev pub renominated : PairRecord → PairRecord
renominated p = record p { nomination = nomination_again p.nomination }

-- after a nomination by the peer with this number: only the greatest one is kept
abbrev pub numbered : ℕ → PairRecord → PairRecord
numbered n p = record p { greatest_number = max p.greatest_number n }

-- valid without a check of its own, on an ICE-lite agent
abbrev pub validated : PairRecord → PairRecord
validated p = record p { state = Succeeded }

-- the later of two times, if there is one
abbrev pub last_of : Option ℕ → Option ℕ → Option ℕ
last_of None b = b
last_of (Some a) b = Some (option_map_or (max a) b a)

-- what a pair copies from the one that it replaces
abbrev pub with_success_of : PairRecord → PairRecord → PairRecord
with_success_of other p = record p {
  nomination = nomination_from other.nomination p.nomination;
  greatest_number = max other.greatest_number p.greatest_number;
  state = state_from other.state p.state;
  consented = last_of other.consented p.consented;
}

abbrev pub with_requests_of : PairRecord → PairRecord → PairRecord
with_requests_of other p = record p { requests = other.requests; last_request = other.last_request }

-- all that a pair copies from the one that it replaces; on an ICE-lite agent the peer's checks too
abbrev pub taking_over : Bool → PairRecord → PairRecord → PairRecord
taking_over lite other p = if lite then with_requests_of other (with_success_of other p) else with_success_of other p

-- on an ICE-lite agent: if no request arrived yet, one counts as received now
abbrev pub heard_at : ℕ → Option ℕ → PairRecord → PairRecord
heard_at now None p = with_request now p
heard_at now (Some at) p = p

abbrev pub heard : ℕ → PairRecord → PairRecord
heard now p = heard_at now p.last_request p

-- after an error response with this code to one of its checks
abbrev pub with_error : ℕ → PairRecord → PairRecord
with_error code p = record p { last_error = Some code }

-- the due time of the next check is no longer fixed
abbrev pub undue : PairRecord → PairRecord
undue p = record p { due = None }

-- after a check is sent (RFC 8445, section 7.2.4): only the last ones are stored

abbrev pub check_of : ℕ → Bool → List ℕ → PairRecord → Check
check_of now controlling id p = record {
  id = id;
  sent = now;
  answered = None;
  nominated = is_nominated p;
  controlling = controlling;
}

abbrev pub once_sent : ℕ → ℕ → PairRecord → PairRecord
once_sent now kept p = record p {
  checks = last_checks kept p.checks;
  checks_sent = counted p.checks_sent;
  first_sent = Some (unwrap_or p.first_sent now);
  first_after_request = if p.requests == 0 then None else Some (unwrap_or p.first_after_request now);
  nomination = nomination_once_sent p.nomination;
  state = state_once_sent p.state;
  due = None;
}

-- after a check was sent: it is stored, with the last ones, and no due time is fixed
abbrev pub checked : ℕ → StunTiming → Bool → List ℕ → PairRecord → PairRecord
checked now t controlling id p = once_sent now t.max_retransmits (record p { checks = p.checks ++ check_of now controlling id p ∷ [] })

-- after a response to a pending transaction, also a repeated one (RFC 8445, section 7.2.5.3)

abbrev pub once_answered : ℕ → Check → PairRecord → PairRecord
once_answered now c p = record p {
  answers = counted p.answers;
  total_round_trip = later p.total_round_trip (now - c.sent);
  consented = last_of (Some c.sent) p.consented;
  nomination = nomination_once_answered c.nominated p.nomination;
  state = state_once_answered p.state;
  due = None;
}

-- the greatest number of lost checks
abbrev pub MOST_LOST : ℕ
MOST_LOST = 0xffff_ffff

-- how many checks of the pair's silence came before the one at this index
abbrev pub passed_over : ℕ → List Check → ℕ
passed_over place checks = unanswered_count checks - (length checks - place)

-- These are lost once that check has a response. Before the first response of the pair none is: until then a NAT may let nothing through.
abbrev pub lost_by : ℕ → PairRecord → ℕ
lost_by place p = if p.answers == 0 then p.lost else min (p.lost + passed_over place p.checks) MOST_LOST

abbrev pub answered : ℕ → ℕ → Check → PairRecord → PairRecord
answered now place c p = once_answered now c (record p { checks = slice_set p.checks place (answered_at now c); lost = lost_by place p })

-- if several pending transactions have the ID, the response may go to any of them
abbrev pub TakesAnswer : PairRecord → ℕ → List ℕ → PairRecord → Type 0
TakesAnswer old now id new =
    (place : ℕ) × (c : Check) × IsCheckAt old.checks id place c × (new ≡ answered now place c old)

-- on an ICE-lite agent, a pair fails if a check from the peer arrived, but none within the timeout
abbrev pub is_lite_alive : ℕ → StunTiming → PairRecord → Bool
is_lite_alive now t p = option_map_or (λ at. nat_lt (now - at) t.lite_timeout.0) p.last_request true
