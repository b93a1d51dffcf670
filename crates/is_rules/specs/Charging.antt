-- How checks are charged, so that an agent with the profile `Modern` sends at most 49 in a second, whatever signaling names and whoever asks.
use Rattle.std.specs.Prelude.{ℕ, ◌*◌, ◌&&◌, ◌||◌, max, not, Bool, nat_le}
use Rattle.std.specs.List.{list_any}
use Rattle.is_proto.specs.Times.{MILLISECOND, later}
use Rattle.is_pair.specs.Due.{is_urgent_by}
use Rattle.is_stun.specs.Timing.{is_modern}
use Rattle.is_rules.specs.Agent.{AgentRecord}

-- early on, the pacing interval with credit
abbrev pub EARLY_TA : ℕ
EARLY_TA = 10 * MILLISECOND

-- and without: each check is charged with so much
abbrev pub CHARGE : ℕ
CHARGE = 25 * MILLISECOND

-- the credit: so far the charges may be ahead of the clock, by seven checks
abbrev pub CREDIT : ℕ
CREDIT = 7 * CHARGE

-- and by nine, if an urgent pair is due soon
abbrev pub URGENT_CREDIT : ℕ
URGENT_CREDIT = 9 * CHARGE

module _ {H P : Type 0} where
  -- the time up to which checks are charged, after one more
  abbrev pub charged_after : ℕ → AgentRecord H P → ℕ
  charged_after now a = later (max now a.charged_until) CHARGE

  -- An urgent pair is due by the end of a short interval.
  abbrev pub is_urged : ℕ → AgentRecord H P → Bool
  is_urged last a = list_any (is_urgent_by last (later last EARLY_TA) a.timing) a.pairs

  -- The charges are at most the credit ahead of the last call. With `Original` there is always credit.
  abbrev pub has_credit : ℕ → AgentRecord H P → Bool
  has_credit last a =
      not (is_modern a.timing) || nat_le a.charged_until (later last CREDIT) || (nat_le a.charged_until (later last URGENT_CREDIT) && is_urged last a)
