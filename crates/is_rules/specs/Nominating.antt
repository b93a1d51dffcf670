-- Nomination, which is not final (RFC 8445, section 8.1.1).
use Rattle.std.specs.Prelude.{◌≡◌, ℕ, ◌+◌, ◌==◌, ◌&&◌, ◌||◌, Bool, true, false, not, nat_lt, min, max, List, [], ◌∷◌, ◌++◌, Option, Some, None, is_some, option_map, MatchBool, MatchOption, if◌then◌else◌}
use Rattle.std.specs.Option.{option_map_or, option_and_then, option_or}
use Rattle.std.specs.List.{list_any}
use Rattle.is_proto.specs.Times.{counted}
use Rattle.is_stun.specs.Timing.{is_modern}
use Rattle.is_pair.specs.Pairs.{PairRecord, is_valid, is_nominated, nominated}
use Rattle.is_rules.specs.declared.event.IceAgentEvent.TheVariants.{NominatedSend}
use Rattle.is_rules.specs.declared.emitted.Path.{Path}
use Rattle.is_rules.specs.Agent.{AgentRecord}
use Rattle.is_pair.specs.Multiset.{change_pair, is_named_by, IsGreatest, pair_numbered}
use Rattle.is_rules.specs.Forming.{SidesRecord, sides_of}
use Rattle.is_rules.specs.Sending.{path_at}

-- valid and, if the agent is controlled, nominated
abbrev pub is_eligible : Bool → PairRecord → Bool
is_eligible controlling p = is_valid p && (controlling || is_nominated p)

-- The agent nominates the pair itself: only if it is controlling or lite. Under lite the nomination succeeds at once.
abbrev pub nominated_by_self : Bool → Bool → PairRecord → PairRecord
nominated_by_self controlling lite p = if not (is_nominated p) && (controlling || lite) then nominated lite p else p

-- the pair that was selected last, if it still exists
abbrev pub pair_selected : Option ℕ → List PairRecord → Option PairRecord
pair_selected number pairs = option_and_then (λ n. pair_numbered n pairs) number

-- The pair that was selected last still exists, with this priority.
abbrev pub persists_at : Option ℕ → ℕ → List PairRecord → Bool
persists_at number priority pairs = option_map_or (λ (p : PairRecord). p.priority == priority) (pair_selected number pairs) false

-- the pair, if it is eligible
abbrev pub if_eligible : Bool → PairRecord → Option PairRecord
if_eligible controlling p = if is_eligible controlling p then Some p else None

-- the pair with this number, if it is eligible
abbrev pub eligible_numbered : Bool → List PairRecord → ℕ → Option PairRecord
eligible_numbered controlling pairs number = option_and_then (if_eligible controlling) (pair_numbered number pairs)

-- ---- nominations with numbers (draft-thatcher-ice-renomination)

-- the greatest number: 32 bits
abbrev pub LAST_NUMBER : ℕ
LAST_NUMBER = 4294967295

-- the number of a nominated pair: USE-CANDIDATE without NOMINATION counts as 1
abbrev pub number_of : PairRecord → ℕ
number_of p = max 1 p.greatest_number

-- The pair p goes before q, which comes before it in the list: its number is greater. Of equal numbers the pair that was selected last
-- comes first, then the greater priority. So a lesser or equal number never moves the selection.
abbrev pub outnumbers : Option ℕ → PairRecord → PairRecord → Bool
outnumbers selected p q =
    nat_lt (number_of q) (number_of p)
    || (number_of p == number_of q && not (is_named_by selected q) && (is_named_by selected p || nat_lt q.priority p.priority))

-- the first one so far, or the next pair, if it may be selected and goes before
abbrev pub first_with : Bool → Option ℕ → Option PairRecord → PairRecord → Option PairRecord
first_with controlling selected None p = if_eligible controlling p
first_with controlling selected (Some q) p = if is_eligible controlling p && outnumbers selected p q then Some p else Some q

-- of the eligible pairs the one with the greatest number, after the first one so far
abbrev pub first_after : Bool → Option ℕ → Option PairRecord → List PairRecord → Option PairRecord
first_after controlling selected so_far [] = so_far
first_after controlling selected so_far (p ∷ ps) = first_after controlling selected (first_with controlling selected so_far p) ps

abbrev pub first_numbered : Bool → Option ℕ → List PairRecord → Option PairRecord
first_numbered controlling selected pairs = first_after controlling selected None pairs

-- one selection more
abbrev pub one_more : ℕ → ℕ
one_more n = min (n + 1) LAST_NUMBER

-- the pairs, and the number of the pair that was selected last
pub record Selection : Type 0 where
  pub pairs : List PairRecord
  pub selected_pair : Option ℕ

abbrev pub selection : List PairRecord → Option ℕ → Selection
selection pairs number = record { pairs = pairs; selected_pair = number }

-- An agent that follows its peer: the pair that the peer nominated last, once it is eligible. Until then it is the pair that was
-- selected last, if that one is eligible.
abbrev pub favored : Bool → Option ℕ → Selection → Option PairRecord
favored controlling None old = None
favored controlling (Some number) old =
    option_or (eligible_numbered controlling old.pairs number) (option_and_then (eligible_numbered controlling old.pairs) old.selected_pair)

-- The favored pair is chosen. If there is none, an eligible pair with the greatest priority is.
abbrev pub IsChosen : Bool → Option ℕ → Selection → Option PairRecord → Type 0
IsChosen controlling followed old top =
    MatchOption (favored controlling followed old) (IsGreatest (is_eligible controlling) old.pairs top) (λ p. top ≡ Some p)

-- The pair that was selected last stays selected: it has the priority of the chosen one. If the agent follows its peer, it is the
-- chosen one.
abbrev pub remains : Option ℕ → PairRecord → Selection → Bool
remains None top old = persists_at old.selected_pair top.priority old.pairs
remains (Some number) top old = is_named_by old.selected_pair top

-- The chosen pair is selected, unless the pair that was selected last stays selected.
abbrev pub NamesTop : SidesRecord → Option ℕ → Option PairRecord → Selection → Option Path → Selection → Type 0
NamesTop s followed None old emitted new = (emitted ≡ None) × (new ≡ old)
NamesTop s followed (Some top) old emitted new =
    MatchBool (remains followed top old)
    ((emitted ≡ None) × (new ≡ old))
    ((emitted ≡ Some (path_at s.local s.remote top.local top.remote)) × (new ≡ selection (change_pair top.number (nominated_by_self s.controlling s.lite) old.pairs) (Some top.number)))

abbrev pub Names : SidesRecord → Option ℕ → Selection → Option Path → Selection → Type 0
Names s followed old emitted new = (top : Option PairRecord) × IsChosen s.controlling followed old top × NamesTop s followed top old emitted new

module _ {H P : Type 0} where
  -- Nominations have numbers: with renomination and the profile `Modern`.
  abbrev pub numbers : AgentRecord H P → Bool
  numbers a = a.renominates && is_modern a.timing

  -- the number of the pair that is selected by the numbers of the peer's nominations
  abbrev pub followed_by_number : AgentRecord H P → Option ℕ
  followed_by_number a = option_map (λ (p : PairRecord). p.number) (first_numbered a.controlling a.selected_pair a.pairs)

  -- The agent follows its peer if it is controlled and nominations replace earlier ones: the number of the pair that the peer
  -- nominated last. Once it served a nomination with a number, it goes by numbers.
  abbrev pub followed : AgentRecord H P → Option ℕ
  followed a =
      if a.renominates && not a.controlling
      then (if numbers a && a.numbers_seen then followed_by_number a else a.last_nominated)
      else None

  -- the number of the present nomination, which is never 0
  abbrev pub nomination_number : AgentRecord H P → ℕ
  nomination_number a = max 1 a.nominations

  -- The pair is nominated. If nominations replace earlier ones, it is also the one that was selected last.
  abbrev pub stays_nominated : AgentRecord H P → PairRecord → Bool
  stays_nominated a p = is_nominated p && (not a.renominates || is_named_by a.selected_pair p)

  -- NOMINATION of a check of the pair: the agent is controlling, and the pair is the one that was selected last.
  abbrev pub nomination_of : AgentRecord H P → PairRecord → Option ℕ
  nomination_of a p = if a.controlling && numbers a && stays_nominated a p then Some (nomination_number a) else None

  -- A path was selected, and its nomination is still to be sent: the pair is checked before all others.
  abbrev pub nominates_at_once : AgentRecord H P → Bool
  nominates_at_once a = a.controlling && not a.lite && numbers a && a.nomination_due && is_some (pair_selected a.selected_pair a.pairs)

  -- `handle_timeout` is to be called soon, if nominations have numbers: to nominate the path that was selected, or to select an eligible
  -- pair if the selected one is gone.
  abbrev pub is_pressing : AgentRecord H P → Bool
  is_pressing a =
      numbers a
      && (if is_some (pair_selected a.selected_pair a.pairs) then a.controlling && not a.lite && a.nomination_due
      else list_any (is_eligible a.controlling) a.pairs)

  -- the pairs, and the number of the pair that was selected last
  abbrev pub selection_of : AgentRecord H P → Selection
  selection_of a = selection a.pairs a.selected_pair

  -- the agent with these pairs and this selected number
  abbrev pub with_selection : Selection → AgentRecord H P → AgentRecord H P
  with_selection s a = record a { pairs = s.pairs; selected_pair = s.selected_pair }

  -- A path was selected: its event is emitted, and counted.
  abbrev pub nominated_emitted : Option Path → AgentRecord H P → AgentRecord H P
  nominated_emitted None a = a
  nominated_emitted (Some path) a = record a {
    events = a.events ++ NominatedSend path.proto path.source path.destination ∷ [];
    stats = record a.stats { nomination_send_count = counted a.stats.nomination_send_count };
    nominations = one_more a.nominations;
    nomination_due = true;
  }

  -- The selection, and the event for its path.
  abbrev pub Nominates : AgentRecord H P → Option Path → AgentRecord H P → Type 0
  Nominates old emitted new =
      (chosen : Selection) × Names (sides_of old) (followed old) (selection_of old) emitted chosen × (new ≡ nominated_emitted emitted (with_selection chosen old))

  -- Nomination is evaluated only if `evaluates` is true.
  abbrev pub NominatesWhere : Bool → AgentRecord H P → Option Path → AgentRecord H P → Type 0
  NominatesWhere evaluates old emitted new = MatchBool evaluates (Nominates old emitted new) ((emitted ≡ None) × (new ≡ old))
