use Rattle.std.proofs.Common.{◌≡◌, ℕ, List, ◌++◌, codes, string_bytes}
use Rattle.std.specs.Str.Iter.{split_whitespace_rest}
use Rattle.std.specs.Net.Text.{ip_text}
use Rattle.is_candidate.specs.Words.{HasWords}
use Rattle.is_c.specs.Mdns.{spaced, with_nth}
use Rattle.is_c.proofs.mdns.with_ip.Given as goal

-- the text so far, and what the words of the rest add to it
abbrev pub invariant-loop-word : goal.invariant-loop-word
invariant-loop-word l =
    (rest : List (List ℕ)) → HasWords (split_whitespace_rest l.word-iterator) rest
    → (ws : List (List ℕ)) × HasWords l.words ws
    × (string_bytes l.text ++ spaced (with_nth l.left (ip_text l.ip) rest) ≡ codes "candidate:" ++ spaced (with_nth 5 (ip_text l.ip) ws))
