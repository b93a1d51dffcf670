-- What a line of a session's log says, and its text.
use Rattle.std.specs.Prelude.{ℕ, List, [], ◌++◌, codes, decimal, Option, Some, None}
use Rattle.std.specs.declared.net.socket_addr.SocketAddr.{SocketAddr}
use Rattle.std.specs.Net.Text.{socket_text}
use Rattle.is_pair.specs.declared.checklist.removed.Removal.{Removal}
use Rattle.is_pair.specs.declared.checklist.removed.Removal.TheVariants.{NoResponse, ConsentLost, PeerSilent, Evicted, Replaced, Invalidated}
use Rattle.is_pair.specs.declared.checklist.removed.RemovedPair.{RemovedPair}
use Rattle.is_pair.specs.declared.pair.states.CheckState.{CheckState}
use Rattle.is_pair.specs.declared.pair.states.CheckState.TheVariants.{Waiting, InProgress, Succeeded}
use Rattle.is_stun.specs.declared.header.Class.{Class}
use Rattle.is_stun.specs.declared.header.Class.TheVariants.{Request, Indication, Success, Failure}
use Rattle.is_stun.specs.declared.header.Method.{Method}
use Rattle.is_stun.specs.declared.header.Method.TheVariants as methods
use Rattle.is_rules.specs.declared.emitted.Path.{Path}
use Rattle.is_rules.specs.declared.event.IceConnectionState.{IceConnectionState}
use Rattle.is_rules.specs.declared.event.IceConnectionState.TheVariants.{New, Checking, Connected, Completed, Disconnected}
use Rattle.is_agent.specs.Rejecting.{rejection_text}
use Rattle.is_agent.specs.Unserved.{unserved_text}
use Rattle.is_c.specs.declared.log_texts.Kind.{Kind}
use Rattle.is_c.specs.declared.log_texts.Reason.{Reason}
use Rattle.is_c.specs.declared.log_texts.Reason.TheVariants.{Rejected, Unanswered}
use Rattle.is_c.specs.declared.log_texts.Said.{Said}
use Rattle.is_c.specs.declared.log_texts.Said.TheVariants.{Begins, Enters, Discovers, Selects, Silent, Heard, Loses, Leaves}

-- ---- the words

abbrev pub state_word : IceConnectionState → List ℕ
state_word New = codes "New"
state_word Checking = codes "Checking"
state_word Connected = codes "Connected"
state_word Completed = codes "Completed"
state_word Disconnected = codes "Disconnected"

abbrev pub check_word : CheckState → List ℕ
check_word Waiting = codes "waiting"
check_word InProgress = codes "in progress"
check_word Succeeded = codes "succeeded"

abbrev pub removal_word : Removal → List ℕ
removal_word NoResponse = codes "no response"
removal_word ConsentLost = codes "consent lost"
removal_word PeerSilent = codes "peer silent"
removal_word Evicted = codes "evicted"
removal_word Replaced = codes "replaced"
removal_word Invalidated = codes "invalidated"

abbrev pub method_word : Method → List ℕ
method_word methods.Binding = codes "Binding"
method_word methods.Allocate = codes "Allocate"
method_word methods.Refresh = codes "Refresh"
method_word methods.Send = codes "Send"
method_word methods.Data = codes "Data"
method_word methods.CreatePermission = codes "Create permission"
method_word methods.ChannelBind = codes "Channel bind"
method_word methods.Unknown = codes "Other"

abbrev pub class_word : Class → List ℕ
class_word Request = codes "request"
class_word Indication = codes "indication"
class_word Success = codes "success response"
class_word Failure = codes "error response"
class_word _ = codes "message"

-- ---- the texts

unfoldable pub way_text : SocketAddr → SocketAddr → List ℕ
way_text source destination = socket_text source ++ codes " -> " ++ socket_text destination

unfoldable pub path_text : Option Path → List ℕ
path_text None = codes "unknown path"
path_text (Some path) = way_text path.source path.destination

unfoldable pub error_text : Option ℕ → List ℕ
error_text None = []
error_text (Some code) = codes ", error response " ++ decimal code

unfoldable pub sent_text : ℕ → List ℕ
sent_text n = codes ", " ++ decimal n ++ codes " checks sent"

unfoldable pub answered_text : ℕ → List ℕ
answered_text n = codes ", " ++ decimal n ++ codes " answered"

unfoldable pub counts_text : ℕ → ℕ → List ℕ
counts_text sent responses = sent_text sent ++ answered_text responses

-- as `10.0.0.1:1000 -> 10.0.0.2:2000 in progress, 15 checks sent, 0 answered: no response`
unfoldable pub pair_text : RemovedPair → Option Path → List ℕ
pair_text p path =
    path_text path ++ codes " " ++ check_word p.state ++ counts_text p.checks_sent p.responses_received ++ error_text p.error ++ codes ": "
    ++ removal_word p.why

unfoldable pub code_text : Option ℕ → List ℕ
code_text None = []
code_text (Some code) = codes " " ++ decimal code

-- the method, the class and the error code, as `Binding error response 401`
unfoldable pub kind_text : Option Kind → List ℕ
kind_text None = codes "malformed STUN message"
kind_text (Some k) = method_word k.method ++ codes " " ++ class_word k.class ++ code_text k.error

-- why a datagram was discarded, or has no response, in parentheses
unfoldable pub reason_text : Option Reason → List ℕ
reason_text None = []
reason_text (Some (Rejected why)) = codes " (" ++ rejection_text why ++ codes ")"
reason_text (Some (Unanswered why)) = codes " (" ++ unserved_text why ++ codes ")"

-- A request that is accepted is not discarded.
unfoldable pub fate_text : Option Reason → List ℕ
fate_text None = codes "discarded "
fate_text (Some (Rejected why)) = codes "discarded "
fate_text (Some (Unanswered why)) = codes "no response to "

-- what a line of the log says after the username fragment
unfoldable pub said_text : Said → List ℕ
said_text Begins = codes "session begins"
said_text (Enters state) = codes "state " ++ state_word state
said_text (Discovers source) = codes "discovered " ++ socket_text source
said_text (Selects source destination) = codes "selected " ++ way_text source destination
said_text (Silent source destination) = codes "silent " ++ way_text source destination
said_text (Heard source destination) = codes "heard again " ++ way_text source destination
said_text (Loses p path) = codes "removed " ++ pair_text p path
said_text (Leaves kind why path) =
    fate_text why ++ kind_text kind ++ reason_text why ++ codes " from " ++ socket_text path.source ++ codes " at " ++ socket_text path.destination

-- A line begins with the local username fragment.
abbrev pub line_text : List ℕ → Said → List ℕ
line_text ufrag said = ufrag ++ codes ": " ++ said_text said
