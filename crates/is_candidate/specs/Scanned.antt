-- The parts of a line: the values of the code as values of the definitions.
use Rattle.std.specs.Prelude.{ℕ, List, map, Result, Ok, Err}
use Rattle.std.specs.Borrow.{Bor}
use Rattle.std.specs.Option.{option_copied}
use Rattle.is_candidate.specs.declared.parse.fault.Fault.{Fault}
use Rattle.is_candidate.specs.declared.parse.head.Head as head
use Rattle.is_candidate.specs.declared.parse.place.Place as place
use Rattle.is_candidate.specs.declared.parse.keys.Keys as keys
use Rattle.is_candidate.specs.declared.parse.line.Line as line
use Rattle.is_candidate.specs.Candidates.{CandidateRecord}
use Rattle.is_candidate.specs.Faults.{fault_text}
use Rattle.is_candidate.specs.Lines.{Answer, Head, Place, Keys, line_candidate}

abbrev pub texts : List (Bor (List ℕ)) → List (List ℕ)
texts words = map (λ w. w.now) words

abbrev pub head_of : head.Head → Head
head_of h = record { foundation = h.foundation.now; component = h.component; proto = h.proto; priority = h.priority }

abbrev pub head_answer : Result head.Head Fault → Answer Head
head_answer (Ok h) = Ok (head_of h)
head_answer (Err fault) = Err (fault_text fault)

abbrev pub place_of : place.Place → Place
place_of p = record { ip = p.ip; port = p.port; kind = p.kind }

abbrev pub place_answer : Result place.Place Fault → Answer Place
place_answer (Ok p) = Ok (place_of p)
place_answer (Err fault) = Err (fault_text fault)

abbrev pub keys_of : keys.Keys → Keys
keys_of k = record { raddr = k.raddr; rport = k.rport; tcptype = k.tcptype; ufrag = option_copied k.ufrag }

abbrev pub keys_answer : Result keys.Keys Fault → Answer Keys
keys_answer (Ok k) = Ok (keys_of k)
keys_answer (Err fault) = Err (fault_text fault)

abbrev pub candidate_of : line.Line → CandidateRecord
candidate_of l = line_candidate (head_of l.head) (place_of l.place) (keys_of l.keys)

abbrev pub line_answer : Result line.Line Fault → Answer CandidateRecord
line_answer (Ok l) = Ok (candidate_of l)
line_answer (Err fault) = Err (fault_text fault)
