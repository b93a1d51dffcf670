-- The selected path, as it is watched: when it was last heard, and when consent was given to it.
use Rattle.std.specs.Prelude.{ℕ, ◌==◌, ◌&&◌, Bool, false, Option, Some, None, option_map, if◌then◌else◌}
use Rattle.is_pair.specs.Pairs.{PairRecord}
use Rattle.is_rules.specs.declared.emitted.Path.{Path}
use Rattle.is_rules.specs.Agent.{AgentRecord}
use Rattle.is_rules.specs.Questions.{nominated_pair}
use Rattle.is_rules.specs.Sending.{path_of}
use Rattle.is_monitor.specs.declared.watching.Watched.{Watched}

-- a path that is watched from now on: when it is selected, it counts as heard
abbrev pub newly_watched : ℕ → Path → PairRecord → Watched
newly_watched now path p = record {
  path = path;
  pair = p.number;
  responses = p.answers;
  requests = p.requests;
  heard = record { 0 = now };
  consented = record { 0 = now };
  is_reported = false;
}

-- the selected path of an agent, watched from now on
abbrev pub selected_now : {H P : Type 0} → ℕ → AgentRecord H P → Option Watched
selected_now now a = option_map (λ p. newly_watched now (path_of a p) p) (nominated_pair a)

-- no response and no check of the peer arrived between the two
abbrev pub is_unheard : Watched → Watched → Bool
is_unheard new old = new.responses == old.responses && new.requests == old.requests

-- nothing arrived that gives consent: a response, or on a lite agent, which sends no checks, a check of the peer
abbrev pub is_unanswered : Bool → Watched → Watched → Bool
is_unanswered lite new old = if lite then new.requests == old.requests else new.responses == old.responses

-- a path that was watched before: each time stays the old one, unless something arrived on the path meanwhile
abbrev pub watched_on : Bool → Watched → Watched → Watched
watched_on lite new old = record new {
  heard = if is_unheard new old then old.heard else new.heard;
  consented = if is_unanswered lite new old then old.consented else new.consented;
  is_reported = old.is_reported;
}

-- what is watched, if this is the selected path now, and that one was watched before
abbrev pub watched_after : Bool → Option Watched → Option Watched → Option Watched
watched_after lite None old = None
watched_after lite (Some new) None = Some new
watched_after lite (Some new) (Some old) = Some (if new.pair == old.pair then watched_on lite new old else new)
