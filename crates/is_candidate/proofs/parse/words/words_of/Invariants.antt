use Rattle.is_candidate.proofs.Common.{◌++◌, HasWords, List, split_whitespace_rest, texts, ℕ}
use Rattle.is_candidate.proofs.parse.words.words_of.Given as goal

-- the words so far and those of the rest are the words of the text
abbrev pub invariant-loop-word : goal.invariant-loop-word
invariant-loop-word l =
    (ws : List (List ℕ)) → HasWords (split_whitespace_rest l.word-iterator) ws → HasWords l.text (texts l.words.items ++ ws)
