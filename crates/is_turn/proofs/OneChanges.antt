-- A call at one place of the relays, and at each.
use Rattle.std.proofs.lemmas.Option.{slice_get_read}
use Rattle.is_turn.specs.declared.relay.Relay.{Relay}
use Rattle.is_turn.specs.Relays.{ChangesAt}
use Rattle.is_turn.proofs.Common.{◌+◌, ◌<◌, ◌∙◌, ◌≡◌, add-one, ChangesFirst, get_or, length, length-set, List, refl, slice_set, ℕ}

pub changes_at : {H : Type 0} (place : ℕ) (Changes : Relay H → Relay H → Type 0) (old : List (Relay H)) (before after : Relay H)
    → place < length old → before ≡ get_or old place before → Changes before after → ChangesAt place Changes old (slice_set old place after)
changes_at place Changes old before after within read changes = record {
  before = before;
  after = after;
  there = slice_get_read old (length old) place before refl within read;
  changed = refl;
  changes = changes;
}

-- ---- calls at each place

pub one_more : {H : Type 0} (n : ℕ) (Changes : Relay H → Relay H → Type 0) (old mid new : List (Relay H))
    → ChangesFirst n Changes old mid → ChangesAt n Changes mid new → ChangesFirst (n + 1) Changes old new
one_more n Changes old mid new done change = rw add-one (mid, done, change)

pub length_kept : {H : Type 0} (n : ℕ) (Changes : Relay H → Relay H → Type 0) (old mid new : List (Relay H))
    → ChangesAt n Changes mid new → length mid ≡ length old → length new ≡ length old
length_kept n Changes old mid new change same = rw change.changed (length-set mid n change.after ∙ same)

-- the one client that changes does so, and less is said of the change
pub changes_so : {H : Type 0} (n : ℕ) (Changes Weaker : Relay H → Relay H → Type 0) (old new : List (Relay H))
    → ((before after : Relay H) → Changes before after → Weaker before after) → ChangesAt n Changes old new → ChangesAt n Weaker old new
changes_so n Changes Weaker old new weaken change = record {
  before = change.before;
  after = change.after;
  there = change.there;
  changed = change.changed;
  changes = weaken change.before change.after change.changes;
}
