use Rattle.is_candidate.proofs.Common.{◌-◌, Answer, drop, Keys, length, no_keys, option_copied, ReadsKeys, texts}
use Rattle.is_candidate.proofs.parse.keys.read_keys.Given as goal

-- what the rest answers from the keys so far is the answer of all
abbrev pub invariant-loop-at : goal.invariant-loop-at
invariant-loop-at l =
    (r : Answer Keys) → ReadsKeys (record { raddr = l.keys.0; rport = l.keys.1.0; tcptype = l.keys.1.1.0; ufrag = option_copied l.keys.1.1.1.0 }) (texts (drop l.at l.words)) r → ReadsKeys no_keys (texts l.words) r

abbrev pub decreases-loop-at : goal.decreases-loop-at
decreases-loop-at l = length l.words - l.at
