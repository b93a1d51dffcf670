use denote.Text.{Utf8}
use denote.Shadow.{shadow}
use Rattle.is_candidate.proofs.Common.{◌++◌, ◌≡◌, ◌≤◌, HasWords, length, List, take, texts, ℕ}
use Rattle.is_candidate.proofs.parse.words.place_words.Given as goal

-- the words so far and those of the rest are the words of the text
abbrev pub invariant-loop-rest : goal.invariant-loop-rest
invariant-loop-rest l =
    shadow (Utf8 l.rest) × (l.count ≤ 20) × (length l.room ≡ 20)
    × ((ws : List (List ℕ)) → HasWords l.rest ws → HasWords l.text (texts (take l.count l.room) ++ ws))

abbrev pub decreases-loop-rest : goal.decreases-loop-rest
decreases-loop-rest l = length l.rest
