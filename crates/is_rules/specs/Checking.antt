-- Which pair is checked next, and its check (RFC 8445, sections 6.1.4.2 and 7.2.4).
use Rattle.std.specs.Prelude.{◌≡◌, ℕ, ◌+◌, ◌&&◌, ◌||◌, Bool, false, not, List, ◌∷◌, ◌++◌, map, Option, Some, None, MatchBool, MatchOption, ◌==◌, if◌then◌else◌}
use Rattle.std.specs.List.{list_any}
use Rattle.std.specs.Option.{option_map_or}
use Rattle.rand_core.specs.Stream.{Stream, fill_bytes}
use Rattle.is_proto.specs.Times.{counted}
use Rattle.is_candidate.specs.Candidates.{candidate_at}
use Rattle.is_candidate.specs.Priorities.{check_priority}
use Rattle.is_pair.specs.Pairs.{PairRecord, heard, checked, renominated}
use Rattle.is_pair.specs.Due.{scheduled, IsNextDue}
use Rattle.is_stun.specs.declared.header.Class.TheVariants.{Request}
use Rattle.is_stun.specs.Message.{Message}
use Rattle.is_stun.specs.Checks.{binding_request, with_nomination}
use Rattle.is_stun.specs.Theorems.{IsPut}
use Rattle.is_stun.specs.Writing.{written}
use Rattle.is_stun.specs.Timing.{is_modern}
use Rattle.is_rules.specs.declared.credentials.IceCreds.{IceCreds}
use Rattle.is_rules.specs.declared.emitted.Issued.{Issued}
use Rattle.is_rules.specs.declared.kinds.Precedence.{Precedence}
use Rattle.is_rules.specs.Emitted.{issued_as}
use Rattle.is_pair.specs.Multiset.{change_pair}
use Rattle.is_rules.specs.Agent.{AgentRecord}
use Rattle.is_rules.specs.Connecting.{is_connected}
use Rattle.is_rules.specs.Charging.{charged_after}
use Rattle.is_rules.specs.Kinds.{is_first_due, kind_of, IsNextAhead}
use Rattle.is_rules.specs.Leaving.{IsAskedAlong}
use Rattle.is_rules.specs.Nominating.{nominates_at_once, nomination_of, pair_selected, stays_nominated}
use Rattle.is_rules.specs.Sending.{with_packet, path_of}

-- the peer's username fragment, a colon, and the agent's own username fragment (RFC 8445, section 7.2.2)
abbrev pub username_between : IceCreds → IceCreds → List ℕ
username_between remote local = remote.ufrag ++ 58 ∷ local.ufrag

module _ {H P : Type 0} where
  abbrev pub all_scheduled : ℕ → AgentRecord H P → AgentRecord H P
  all_scheduled now a = record a { pairs = map (scheduled now a.timing) a.pairs }

  abbrev pub all_heard : ℕ → AgentRecord H P → AgentRecord H P
  all_heard now a = record a { pairs = map (heard now) a.pairs }

  -- The check has USE-CANDIDATE if the agent is controlling and the pair is nominated (RFC 8445, section 7.1), and its nomination
  -- is not replaced by a later one. With the profile `Modern` it has the number of the nomination, too.
  abbrev pub check_message : AgentRecord H P → IceCreds → PairRecord → List ℕ → Message
  check_message a remote p id =
      with_nomination (nomination_of a p) (binding_request (username_between remote a.local_creds) id a.controlling a.tie_breaker
      (check_priority (candidate_at a.local p.local)) (a.controlling && stays_nominated a p))

  -- Kinds of pairs take turns: with the profile `Modern`, until a path is selected.
  abbrev pub are_kinds_in_turn : AgentRecord H P → Bool
  are_kinds_in_turn a = is_modern a.timing && not (is_connected a.state)

  -- the pairs that come before all kinds: the one that was selected last, and urgent ones, each with the profile `Modern`
  abbrev pub precedence : AgentRecord H P → Precedence
  precedence a = record {
    selected = if is_modern a.timing then a.selected_pair else None;
    urgent = is_modern a.timing;
  }

  -- A pair that comes before all kinds is due.
  abbrev pub has_first : ℕ → AgentRecord H P → Bool
  has_first now a = list_any (is_first_due (precedence a) now a.timing) a.pairs

  -- The next check goes ahead of pairs that are due earlier: every second one may.
  abbrev pub is_ahead_turn : ℕ → AgentRecord H P → Bool
  is_ahead_turn now a = is_modern a.timing && a.ahead_turn && (are_kinds_in_turn a || has_first now a)

  -- The pair that is checked ahead of those that are due earlier: the one that is asked along with the selected one, if any.
  abbrev pub GoesAhead : ℕ → AgentRecord H P → Option PairRecord → Type 0
  GoesAhead now a next =
      (along : Option PairRecord) × IsAskedAlong now a along
      × MatchOption along (IsNextAhead a.local a.remote (precedence a) a.next_kind now a.timing a.pairs next) (λ p. next ≡ Some p)

  -- The pair that is checked next, if no nomination is due: the one that is due first, unless the check goes ahead.
  abbrev pub IsNextInTurn : ℕ → AgentRecord H P → Option PairRecord → Type 0
  IsNextInTurn now a next = MatchBool (is_ahead_turn now a) (GoesAhead now a next) (IsNextDue now a.timing a.pairs next)

  -- A selected path whose nomination is still to be sent is checked at once, before all others.
  abbrev pub IsNextToCheck : ℕ → AgentRecord H P → Option PairRecord → Type 0
  IsNextToCheck now a next = MatchBool (nominates_at_once a) (next ≡ pair_selected a.selected_pair a.pairs) (IsNextInTurn now a next)

  -- the kind from which on the next turn is, after a check of the pair
  abbrev pub next_kind_after : ℕ → PairRecord → AgentRecord H P → ℕ
  next_kind_after now p a = if is_ahead_turn now a then kind_of a.local a.remote p + 1 else a.next_kind

  -- the number of the pair that was selected last
  abbrev pub is_selected_number : AgentRecord H P → ℕ → Bool
  is_selected_number a number = option_map_or (λ n. n == number) a.selected_pair false

  -- Before the check of the pair with this number: if its nomination is due, a new one begins.
  abbrev pub nomination_begun : ℕ → AgentRecord H P → AgentRecord H P
  nomination_begun number a = record a {
    pairs = if nominates_at_once a then change_pair number renominated a.pairs else a.pairs;
    nomination_due = a.nomination_due && not (is_selected_number a number);
  }

  module _ (mac : H → List ℕ → List ℕ → List ℕ) where
    -- The check is sent on the pair's path, signed with the remote password, and becomes a pending transaction.
    abbrev pub check_sent : ℕ → IceCreds → PairRecord → List ℕ → AgentRecord H P → AgentRecord H P
    check_sent now remote p id a =
        with_packet (path_of a p) (written (mac a.provider) (Some remote.pass) (check_message a remote p id)) (record (nomination_begun p.number a) {
          pairs = change_pair p.number (checked now a.timing a.controlling id) (nomination_begun p.number a).pairs;
          ahead_turn = not (is_ahead_turn now a);
          next_kind = next_kind_after now p a;
          charged_until = charged_after now a;
          stats = record a.stats { bind_request_sent = counted a.stats.bind_request_sent };
        })

    -- The transaction ID is twelve bytes of the random stream.
    abbrev pub ChecksPair : ℕ → IceCreds → PairRecord → AgentRecord H P → Stream → Option Issued → AgentRecord H P → Stream → Type 0
    ChecksPair now remote p old s issued new t =
        (id : List ℕ) × ((id, t) ≡ fill_bytes 12 s)
        × IsPut (written (mac old.provider) (Some remote.pass) (check_message old remote p id)) (check_message old remote p id)
        × (issued ≡ Some (issued_as (path_of old p) Request id)) × (new ≡ check_sent now remote p id old)

    abbrev pub ChecksTop : ℕ → IceCreds → Option PairRecord → AgentRecord H P → Stream → Option Issued → AgentRecord H P → Stream → Type 0
    ChecksTop now remote None old s issued new t = (issued ≡ None) × (new ≡ old) × (t ≡ s)
    ChecksTop now remote (Some p) old s issued new t = ChecksPair now remote p old s issued new t

    -- one pair is checked, if any is due
    abbrev pub ChecksNext : ℕ → IceCreds → AgentRecord H P → Stream → Option Issued → AgentRecord H P → Stream → Type 0
    ChecksNext now remote old s issued new t =
        (next : Option PairRecord) × IsNextToCheck now old next × ChecksTop now remote next old s issued new t

    -- Without remote credentials no check is sent, and under lite none is.
    abbrev pub MayCheck : ℕ → Option IceCreds → AgentRecord H P → Stream → Option Issued → AgentRecord H P → Stream → Type 0
    MayCheck now None old s issued new t = (issued ≡ None) × (new ≡ old) × (t ≡ s)
    MayCheck now (Some remote) old s issued new t =
        MatchBool old.lite
        ((issued ≡ None) × (new ≡ all_heard now old) × (t ≡ s))
        (ChecksNext now remote (all_scheduled now old) s issued new t)
