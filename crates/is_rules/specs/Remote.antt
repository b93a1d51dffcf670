-- Remote candidates (RFC 8445, section 5.4; RFC 8838, section 11).
use Rattle.std.specs.Prelude.{◌≡◌, ℕ, ◌==◌, ◌&&◌, ◌||◌, Bool, false, not, List, [], ◌∷◌, ◌++◌, length, position, slice_get, slice_set}
use Rattle.std.specs.Prelude.{bytes_eq, Option, Some, None, Result, Ok, Err, IsOkAnd, MatchBool}
use Rattle.std.specs.List.{list_any}
use Rattle.std.specs.Option.{option_map_or}
use Rattle.is_proto.specs.declared.error.IceError.{IceError}
use Rattle.is_proto.specs.declared.error.IceError.TheVariants.{OutOfMemory, PairIdsExhausted}
use Rattle.is_candidate.specs.Addresses.{same_address}
use Rattle.is_candidate.specs.Candidates.{CandidateRecord}
use Rattle.is_candidate.specs.Equality.{is_equivalent, is_temporary}
use Rattle.is_pair.specs.Pairs.{PairRecord}
use Rattle.is_rules.specs.declared.credentials.IceCreds.{IceCreds}
use Rattle.is_rules.specs.Agent.{AgentRecord}
use Rattle.is_rules.specs.Forming.{HasNumbers, partners, remote_combinations, FormsAll}
use Rattle.is_rules.specs.Limit.{is_full}

-- The candidate has another username fragment than the peer.
abbrev pub has_other_ufrag : Option IceCreds → Option (List ℕ) → Bool
has_other_ufrag None ufrag = false
has_other_ufrag (Some creds) None = false
has_other_ufrag (Some creds) (Some ufrag) = not (bytes_eq ufrag creds.ufrag)

-- The pair's remote candidate is equal to this one.
abbrev pub has_equivalent : List CandidateRecord → CandidateRecord → PairRecord → Bool
has_equivalent remote c p = option_map_or (is_equivalent c) (slice_get remote p.remote) false

-- a peer-reflexive candidate that a request added, at the address of the new candidate
abbrev pub is_placeholder : CandidateRecord → CandidateRecord → Bool
is_placeholder c other = is_temporary other && same_address other.addr c.addr

abbrev pub as_remote : CandidateRecord → CandidateRecord
as_remote c = record c { ufrag = None; discarded = false }

-- The candidate overwrites the one at the index; without an index it is appended.
abbrev pub stored : CandidateRecord → Option ℕ → List CandidateRecord → List CandidateRecord
stored c None cs = cs ++ c ∷ []
stored c (Some place) cs = slice_set cs place c

abbrev pub place_or_end : Option ℕ → List CandidateRecord → ℕ
place_or_end None cs = length cs
place_or_end (Some place) cs = place

module _ {H P : Type 0} where
  abbrev pub is_ignored : AgentRecord H P → CandidateRecord → Bool
  is_ignored a c =
      is_full a.max_candidates a.remote || not (c.component == 1) || has_other_ufrag a.remote_creds c.ufrag
      || list_any (has_equivalent a.remote c) a.pairs

  abbrev pub with_remote : CandidateRecord → Option ℕ → AgentRecord H P → AgentRecord H P
  with_remote c place a = record a { remote = stored c place a.remote }

  -- There is a number for each pair that the candidate may form.
  abbrev pub HasNumbersFor : AgentRecord H P → CandidateRecord → Type 0
  HasNumbersFor a c = HasNumbers a.next_number (length (partners c a.local))

  -- The candidate is stored at the index, and paired with the local ones.
  abbrev pub StoresAt : AgentRecord H P → CandidateRecord → Option ℕ → AgentRecord H P → Type 0
  StoresAt old c place new =
      FormsAll (with_remote c place old) (remote_combinations c (place_or_end place old.remote) old.local) new

  -- The candidate is stored and paired, or the call fails: numbers are checked before memory.
  abbrev pub JoinsRemote : AgentRecord H P → CandidateRecord → Result (Unit {0}) IceError → AgentRecord H P → Type 0
  JoinsRemote old c (Ok _) new = HasNumbersFor old c × StoresAt old c (position (is_placeholder c) old.remote) new
  JoinsRemote old c (Err PairIdsExhausted) new = (¬ HasNumbersFor old c) × (new ≡ old)
  JoinsRemote old c (Err OutOfMemory) new = HasNumbersFor old c × (new ≡ old)
  JoinsRemote old c (Err _) new = ⊥

  -- `add_remote_candidate`
  abbrev pub AddsRemote : AgentRecord H P → CandidateRecord → Result (Unit {0}) IceError → AgentRecord H P → Type 0
  AddsRemote old c result new =
      MatchBool (is_ignored old c) (IsOkAnd result (λ _. new ≡ old)) (JoinsRemote old (as_remote c) result new)
