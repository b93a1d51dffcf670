-- The states of a pair and of its nomination, and their transitions (RFC 8445, sections 6.1.2.6, 7.2.5.3 and 8.1.1).
use Rattle.std.specs.Prelude.{Bool, true, false}
use Rattle.is_pair.specs.declared.pair.states.CheckState.{CheckState}
use Rattle.is_pair.specs.declared.pair.states.CheckState.TheVariants.{Waiting, InProgress, Succeeded}
use Rattle.is_pair.specs.declared.pair.states.NominationState.{NominationState}
use Rattle.is_pair.specs.declared.pair.states.NominationState.TheVariants.{None as Unnominated, Nominated, Attempt, Success}

-- the pair is valid (RFC 8445, section 7.2.5.3.2)
abbrev pub is_valid_state : CheckState → Bool
is_valid_state Waiting = false
is_valid_state InProgress = false
is_valid_state Succeeded = true

abbrev pub is_nominated_state : NominationState → Bool
is_nominated_state Unnominated = false
is_nominated_state Nominated = true
is_nominated_state Attempt = true
is_nominated_state Success = true

-- the pair is nominated, and no response arrived to a check that nominates it
abbrev pub is_nominating : NominationState → Bool
is_nominating Unnominated = false
is_nominating Nominated = true
is_nominating Attempt = true
is_nominating Success = false

-- A nominated pair comes before others with its first check that nominates it, and with the next ones while few checks have no response.
abbrev pub nominates_first : NominationState → Bool → Bool
nominates_first Unnominated few = false
nominates_first Nominated few = true
nominates_first Attempt few = few
nominates_first Success few = false

-- after a check was sent

abbrev pub state_once_sent : CheckState → CheckState
state_once_sent Waiting = InProgress
state_once_sent InProgress = InProgress
state_once_sent Succeeded = Succeeded

abbrev pub nomination_once_sent : NominationState → NominationState
nomination_once_sent Unnominated = Unnominated
nomination_once_sent Nominated = Attempt
nomination_once_sent Attempt = Attempt
nomination_once_sent Success = Success

-- after a nomination that begins again: no check was sent since
abbrev pub nomination_again : NominationState → NominationState
nomination_again Unnominated = Unnominated
nomination_again Nominated = Nominated
nomination_again Attempt = Nominated
nomination_again Success = Nominated

-- after a response, depending on whether the check was sent nominated

abbrev pub state_once_answered : CheckState → CheckState
state_once_answered Waiting = Waiting
state_once_answered InProgress = Succeeded
state_once_answered Succeeded = Succeeded

abbrev pub nomination_once_answered : Bool → NominationState → NominationState
nomination_once_answered true Unnominated = Unnominated
nomination_once_answered true Nominated = Nominated
nomination_once_answered true Attempt = Success
nomination_once_answered true Success = Success
nomination_once_answered false own = own

-- after a pair copied from the one that it replaces: arguments are the other's state, then its own

abbrev pub state_from : CheckState → CheckState → CheckState
state_from Waiting own = own
state_from InProgress own = own
state_from Succeeded own = Succeeded

-- the nominating check in flight was the other's, so another one has to be sent
abbrev pub nomination_from : NominationState → NominationState → NominationState
nomination_from Unnominated own = own
nomination_from Nominated own = Nominated
nomination_from Attempt own = Nominated
nomination_from Success own = Success
