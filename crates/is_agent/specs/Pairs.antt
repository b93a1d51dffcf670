-- What an agent returns of its pairs.
use Rattle.std.specs.Prelude.{ℕ, Bool, Option, option_map}
use Rattle.is_pair.specs.Due.{due_time_of}
use Rattle.is_pair.specs.Pairs.{PairRecord}
use Rattle.is_rules.specs.Agent.{AgentRecord}
use Rattle.is_pair.specs.Multiset.{is_named_by}

module _ {H P : Type 0} where
  -- the pair that was selected last
  abbrev pub is_selected : AgentRecord H P → PairRecord → Bool
  is_selected a p = is_named_by a.selected_pair p

  -- when the next check of the pair is due, as of the last `handle_timeout` call
  abbrev pub next_due : AgentRecord H P → PairRecord → Option ℕ
  next_due a p = option_map (λ now. due_time_of now a.timing p) a.last_time
