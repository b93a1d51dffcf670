-- With the profile `Modern` a selected path that falls silent is left for another one that works, long before its consent ends. If the peer
-- nominates another one, the selected path is checked at once, and left sooner.
use Rattle.std.specs.Prelude.{◌≡◌, ℕ, ◌≤◌, ◌+◌, ◌-◌, ◌*◌, ◌&&◌, ◌||◌, Bool, true, false, not, nat_le, nat_lt, List, find, map, Option, Some, None, MatchOption}
use Rattle.std.specs.Prelude.{option_map, if◌then◌else◌}
use Rattle.std.specs.List.{list_any}
use Rattle.std.specs.Option.{option_map_or, option_or}
use Rattle.is_proto.specs.Lists.{Has, NonePass}
use Rattle.is_proto.specs.Times.{MILLISECOND, later}
use Rattle.is_stun.specs.declared.timing.StunTiming.{StunTiming}
use Rattle.is_stun.specs.Timing.{is_modern}
use Rattle.is_pair.specs.declared.pair.silence.Span.{Span}
use Rattle.is_pair.specs.Checks.{unanswered_count}
use Rattle.is_pair.specs.Due.{is_due, is_pair_expired, is_urgent, moved_up}
use Rattle.is_pair.specs.Multiset.{is_named_by, is_numbered, without}
use Rattle.is_pair.specs.Pairs.{PairRecord, is_valid}
use Rattle.is_pair.specs.Silence.{is_long_silent, last_sent, outlives, silence_of, silence_until}
use Rattle.is_rules.specs.Again.{candidates_of}
use Rattle.is_rules.specs.Agent.{AgentRecord}
use Rattle.is_rules.specs.Connecting.{is_connected}
use Rattle.is_rules.specs.Due.{awaits_nomination}
use Rattle.is_rules.specs.Kinds.{is_first_due}
use Rattle.is_rules.specs.Nominating.{is_eligible, numbers, pair_selected}

-- ---- other pairs are asked along

-- Another valid pair than the one with this number: it had no response meanwhile.
abbrev pub is_asked_along : ℕ → Span → PairRecord → Bool
is_asked_along number silence p = not (is_numbered number p) && is_valid p && not (outlives silence p)

-- Of these pairs, the one whose last check was sent first.
abbrev pub IsAskedNext : ℕ → Span → List PairRecord → Option PairRecord → Type 0
IsAskedNext number silence pairs None = NonePass (is_asked_along number silence) pairs
IsAskedNext number silence pairs (Some p) =
    Has pairs p × (is_asked_along number silence p ≡ true)
    × ((q : PairRecord) → Has pairs q → is_asked_along number silence q ≡ true → last_sent p.checks ≤ last_sent q.checks)

-- ---- the silent pair is left

-- how much longer a pair is kept of which many checks were lost before
abbrev pub LOSSY_TIME : ℕ
LOSSY_TIME = 2200 * MILLISECOND

-- More than a third of its checks were lost, from its first response to its last one.
abbrev pub is_lossy : PairRecord → Bool
is_lossy p = nat_lt p.answers (2 * p.lost)

-- It was silent for long, for longer if it is lossy.
abbrev pub is_silent_enough : ℕ → StunTiming → PairRecord → Bool
is_silent_enough now t p = is_long_silent (if is_lossy p then now - LOSSY_TIME else now) t p

-- due a nanosecond from now, after all pairs that are due now, if it passes the test
abbrev pub hastened : (PairRecord → Bool) → ℕ → PairRecord → PairRecord
hastened test now p = if test p then moved_up (now + 1) p else p

-- ---- the peer nominates another pair

-- so soon after the peer's check of the pair that it nominates the selected one is checked, or so soon before
abbrev pub CHOICE_TIME : ℕ
CHOICE_TIME = 200 * MILLISECOND

-- It is another pair than p, and may be selected at a controlled agent.
abbrev pub is_alternative : PairRecord → PairRecord → Bool
is_alternative p q = not (is_numbered p.number q) && is_eligible false q

-- Its nomination had no response yet, and the peer checked it after the last check of p.
abbrev pub is_new_choice : PairRecord → PairRecord → Bool
is_new_choice p q = is_alternative p q && is_urgent q && option_map_or (nat_lt (last_sent p.checks)) q.last_request false

-- The peer checked it at about the time at which the silence of p began.
abbrev pub is_choice_at : ℕ → PairRecord → PairRecord → Bool
is_choice_at first p q =
    is_alternative p q && option_map_or (λ at. nat_lt first (later at CHOICE_TIME) && nat_lt at (later first CHOICE_TIME)) q.last_request false

module _ {H P : Type 0} where
  -- An urgent pair is due.
  abbrev pub has_urgent : ℕ → AgentRecord H P → Bool
  has_urgent now a = list_any (is_first_due (record { selected = None; urgent = true }) now a.timing) a.pairs

  -- since when the pair is silent, if the agent is connected, the pair is due once more, and no urgent one is
  abbrev pub late_since : ℕ → AgentRecord H P → PairRecord → Option Span
  late_since now a p = if is_connected a.state && is_due now a.timing p && not (has_urgent now a) then silence_until now p.checks else None

  -- While the selected pair is silent, another valid pair goes before it, each second time at most.
  abbrev pub IsAskedAlong : ℕ → AgentRecord H P → Option PairRecord → Type 0
  IsAskedAlong now a next =
      MatchOption (pair_selected a.selected_pair a.pairs) (next ≡ None) (λ p. MatchOption (late_since now a p) (next ≡ None)
      (λ silence. IsAskedNext p.number silence a.pairs next))

  -- Another pair than the one with this number: it may be selected, did not expire, and had a response meanwhile.
  abbrev pub may_replace : ℕ → AgentRecord H P → ℕ → Span → PairRecord → Bool
  may_replace now a number silence q =
      not (is_numbered number q) && is_eligible a.controlling q && not (is_pair_expired a.lite now a.timing q) && outlives silence q

  -- The agent is controlled, and few checks of the pair were lost. Its silence began when the peer checked another pair, which the peer
  -- nominated last.
  abbrev pub is_overruled : AgentRecord H P → PairRecord → Span → Bool
  is_overruled a p silence =
      not a.controlling && not (is_lossy p) && option_map_or (is_choice_at silence.from.0 p) (pair_selected a.last_nominated a.pairs) false

  -- The pair is selected, and had no response to its last `max_retransmits` checks, nor for long, unless it is overruled; and another pair had
  -- one before the last four of these, to a check that was sent after the first.
  abbrev pub gives_way : ℕ → AgentRecord H P → PairRecord → Bool
  gives_way now a p =
      is_modern a.timing && not a.lite && is_named_by a.selected_pair p && is_eligible a.controlling p
      && nat_le a.timing.max_retransmits (unanswered_count p.checks)
      && option_map_or (λ silence. (is_silent_enough now a.timing p || is_overruled a p silence) && list_any (may_replace now a p.number silence) a.pairs)
      (silence_of p.checks) false

  -- the agent without it
  abbrev pub silent_gone : ℕ → AgentRecord H P → AgentRecord H P
  silent_gone now a = record a { pairs = without (gives_way now a) a.pairs }

  -- the candidates of the path that was left before, until their pair is formed again, or else of the pair that gives way
  abbrev pub left_after : ℕ → AgentRecord H P → Option (ℕ × ℕ)
  left_after now a = option_or a.left (option_map candidates_of (find (gives_way now a) a.pairs))

  -- The peer of a controlled agent nominates another pair than this one, whose own nomination had a response.
  abbrev pub is_doubted : AgentRecord H P → PairRecord → Bool
  is_doubted a p = not (is_urgent p) && option_map_or (is_new_choice p) (pair_selected a.last_nominated a.pairs) false

  -- The selected pair needs a check soon: the agent's own nomination of it is still to be sent, or the pair is doubted. If nominations have
  -- numbers, the agent sends its own at once, and follows the peer's.
  abbrev pub needs_check : AgentRecord H P → PairRecord → Bool
  needs_check a p =
      is_modern a.timing && not a.lite && not (numbers a) && is_named_by a.selected_pair p && is_eligible a.controlling p
      && (if a.controlling then a.nomination_due else is_doubted a p)

  -- The selected pair needs a check, or it is silent and overruled.
  abbrev pub is_contested : AgentRecord H P → PairRecord → Bool
  is_contested a p = needs_check a p || option_map_or (is_overruled a p) (silence_of p.checks) false

  -- With `Modern`, the selected pair of a full agent is contested.
  abbrev pub is_in_doubt : AgentRecord H P → Bool
  is_in_doubt a =
      is_modern a.timing && not a.lite && not (numbers a) && option_map_or (is_contested a) (pair_selected a.selected_pair a.pairs) false

  -- the pairs that are due next: if the selected one gives way, those that the agent may nominate; else the selected one, if it needs a check
  abbrev pub is_due_next : ℕ → AgentRecord H P → PairRecord → Bool
  is_due_next now a p = if list_any (gives_way now a) a.pairs then awaits_nomination a.controlling p else needs_check a p

  -- The pair that gives way is removed, its candidates are kept if none are, and others are due next.
  abbrev pub path_left : ℕ → AgentRecord H P → AgentRecord H P
  path_left now a = record a {
    pairs = map (hastened (is_due_next now a) now) (silent_gone now a).pairs;
    left = left_after now a;
  }
