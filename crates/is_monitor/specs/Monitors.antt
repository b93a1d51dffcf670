-- The monitor of an agent: whether the selected path is silent, and what it reports.
use Rattle.std.specs.Prelude.{ℕ, ◌&&◌, Bool, true, false, not, nat_le, min, max, is_some, Option, Some, None, option_map, if◌then◌else◌}
use Rattle.std.specs.Option.{option_and_then, option_map_or}
use Rattle.is_proto.specs.Times.{later}
use Rattle.is_proto.specs.declared.Duration.{Duration}
use Rattle.is_rules.specs.declared.emitted.Path.{Path}
use Rattle.is_rules.specs.Agent.{AgentRecord}
use Rattle.is_agent.specs.Media.{consent_time}
use Rattle.is_monitor.specs.declared.monitor.Monitor.{Monitor}
use Rattle.is_monitor.specs.declared.monitor.Previous.{Previous}
use Rattle.is_monitor.specs.declared.monitor.Silence.{Silence}
use Rattle.is_monitor.specs.declared.monitor.Silence.TheVariants.{Silent, Heard}
use Rattle.is_monitor.specs.declared.watching.Watched.{Watched}
use Rattle.is_monitor.specs.Watching.{selected_now, watched_after}

-- nothing was seen yet
abbrev pub fresh_monitor : Option Duration → Monitor
fresh_monitor threshold = record { threshold = threshold; watched = None; seen = record { 0 = 0 }; previous = None; is_restarted = false }

module _ {H P : Type 0} where
  -- the monitor after it saw the agent now: once a path is selected, the restart is over for media
  abbrev pub observed : ℕ → AgentRecord H P → Monitor → Monitor
  observed now a m = record m {
    watched = watched_after a.lite (selected_now now a) m.watched;
    seen = record { 0 = now };
    is_restarted = m.is_restarted && not (is_some (selected_now now a));
  }

-- ---- silence

-- when the path counts as silent: that long after it was heard
abbrev pub silent_at : Duration → Watched → ℕ
silent_at threshold w = later w.heard.0 threshold.0

-- the watched path is silent, as of the last time
abbrev pub is_silent : Monitor → Bool
is_silent m = option_map_or (λ w. option_map_or (λ t. nat_le (silent_at t w) m.seen.0) m.threshold false) m.watched false

-- when silence is to be reported, if nothing arrives: not if it was reported
abbrev pub silence_deadline : Monitor → Option ℕ
silence_deadline m = option_and_then (λ w. option_and_then (λ t. if w.is_reported then None else Some (silent_at t w)) m.threshold) m.watched

-- when to call next, if the agent is to be called at a time: sooner if silence is to be reported before, but one pacing interval after the
-- last time at least
abbrev pub next_call : ℕ → Monitor → ℕ → ℕ
next_call advance m at = option_map_or (λ silent. min at (max silent (later m.seen.0 advance))) (silence_deadline m) at

-- since when the selected path is silent: since it was heard
abbrev pub silent_since : Monitor → Option ℕ
silent_since m = option_map (λ w. w.heard.0) m.watched

-- by whether its silence was reported, and whether it is silent
abbrev pub to_report : Bool → Bool → Path → Option Silence
to_report false true path = Some (Silent path)
to_report true false path = Some (Heard path)
to_report false false path = None
to_report true true path = None

-- what is to be reported: that the path is silent, or that it is heard again
abbrev pub next_silence : Monitor → Option Silence
next_silence m = option_and_then (λ w. to_report w.is_reported (is_silent m) w.path) m.watched

-- the monitor after it reported whether the path is silent: each change is reported once
abbrev pub once_reported : Monitor → Monitor
once_reported m = record m { watched = option_map (λ (w : Watched). record w { is_reported = is_silent m }) m.watched }

-- another time, or none; silence that lasts is reported again
abbrev pub with_threshold : Option Duration → Monitor → Monitor
with_threshold threshold m = record m { threshold = threshold; watched = option_map (λ (w : Watched). record w { is_reported = false }) m.watched }

-- ---- ICE restarts

-- the watched path is the previous one after a restart, until consent to it ends
abbrev pub previous_of : ℕ → Watched → Previous
previous_of consent w = record { path = w.path; end = record { 0 = later w.consented.0 consent } }

-- the previous path after a restart: the watched one, or the one before if no path was selected since the last restart
abbrev pub previous_after : ℕ → Option Watched → Monitor → Option Previous
previous_after consent (Some w) m = Some (previous_of consent w)
previous_after consent None m = if m.is_restarted then m.previous else None

abbrev pub left : ℕ → Monitor → Monitor
left consent m = record m {
  previous = previous_after consent m.watched m;
  is_restarted = true;
  watched = None;
}

-- the monitor after a restart of the agent that was in this state
abbrev pub restarted : {H P : Type 0} → AgentRecord H P → Monitor → Monitor
restarted a m = left (consent_time a) (observed m.seen.0 a m)
