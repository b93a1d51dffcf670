-- The deadline that a slot keeps with the profile `Modern`: the time at which `is_ice_handle_timeout` is to be called.
use Rattle.std.specs.Prelude.{◌≡◌, ℕ, Bool, min, Option, Some, None, ℤ, if◌then◌else◌}
use Rattle.is_rules.specs.Polls.{is_settled, PollsTimeout}
use Rattle.is_agent.specs.Polls.{next_call, next_call_soon}
use Rattle.is_c_calls.specs.Codes.{OK}
use Rattle.is_c_calls.specs.Held.{Held, HeldRecord}

-- when the agent has something to do next; soon: with credit 5 ms after its last call at the latest
abbrev pub time_to_call : Bool → Held → Option ℕ
time_to_call soon a = if soon then next_call_soon a else next_call a

-- the earlier one of the deadline and a new time; without one there is nothing to do
abbrev pub earlier : Option ℕ → Option ℕ → Option ℕ
earlier kept None = None
earlier None (Some at) = Some at
earlier (Some kept) (Some at) = Some (min kept at)

-- The deadline moves up. That of a settled agent moves back, too: after a response, what was due is due later.
abbrev pub moved : (settled : Bool) → Option ℕ → Option ℕ → Option ℕ
moved settled kept next = if settled then next else earlier kept next

abbrev pub with_deadline : Bool → HeldRecord → HeldRecord
with_deadline soon held = record held { deadline = moved (is_settled held.agent) held.deadline (time_to_call soon held.agent) }

-- The agent is polled for its next timeout, which fixes the due times of its pairs, and the deadline is moved.
abbrev pub FixesTimes : Bool → HeldRecord → ℤ → HeldRecord → Type 0
FixesTimes soon old code new =
    (polled : Option ℕ) × PollsTimeout old.agent polled new.agent × (code ≡ OK) × (new ≡ record (with_deadline soon old) { agent = new.agent })
