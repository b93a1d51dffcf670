-- How calls and executions change what waits in the queues.
use Rattle.is_stun.specs.declared.header.Class.TheVariants as class
use Rattle.is_theorems.proofs.Common.{[], ◌++◌, ◌+◌, ◌<◌, ◌==◌, ◌||◌, ◌∙◌, ◌∷◌, ◌≡◌, ◌≤◌, ◌⊎◌, added, AddLocalCandidate, AddRemoteCandidate}
use Rattle.is_theorems.proofs.Common.{AddsLocal, AddsRemote, AgentRecord, Answer, answer_by, ap, arith, at_request, Bool, Call}
use Rattle.is_theorems.proofs.Common.{CandidateRecord, Checking, Class, cleared, cond, discovered_emitted, DiscoveredRecv, discovery_count}
use Rattle.is_theorems.proofs.Common.{done, Emitted, emptied, Entry, Err, events_of, false, finds_no_event, finds_no_packet, first_taken}
use Rattle.is_theorems.proofs.Common.{Flag, HandleTimeout, Happened, IceAgentEvent, IceCreds, IceError, IceRestart, if◌then◌else◌, inl, inr}
use Rattle.is_theorems.proofs.Common.{InvalidateCandidate, InvalidatesAt, is_below, is_discovered, is_discovery, is_modern, is_passed_over}
use Rattle.is_theorems.proofs.Common.{is_taken, IsNewlyCreated, IsPolled, IsWithin, leaves_no_event, leaves_no_packet, length, List}
use Rattle.is_theorems.proofs.Common.{local_to_discard, Logged, loses_selected, ltb-true, MaintainsPairs, MatchOption, may_serve, MayDo}
use Rattle.is_theorems.proofs.Common.{Message, most_events, most_packets, None, not, Ok, Option, other_count, Packet, packets_of, Path}
use Rattle.is_theorems.proofs.Common.{Polled, PollEvent, PollTimeout, PollTransmit, QueuesAreShort, quiet, ReceivePacket, Receives}
use Rattle.is_theorems.proofs.Common.{RecreateCandidatePairs, Recreates, refl, remote_to_discard, reports_none, request_at, request_in}
use Rattle.is_theorems.proofs.Common.{RequestRecord, Reselects, RestartIce, Restarts, Result, Serves, SetConsent, SetControlling}
use Rattle.is_theorems.proofs.Common.{SetControlTieBreaker, SetIceLite, SetInitialStunRto, SetLiteTimeout, SetLocalCredentials}
use Rattle.is_theorems.proofs.Common.{SetLocalPreference, SetMaxCandidatePairs, SetMaxCandidates, SetMaxDiscovered, SetMaxStunRetransmits, SetMaxStunRto}
use Rattle.is_theorems.proofs.Common.{SetMtu, SetProfile, SetRemoteCredentials, SetRenomination, SetsLocal, SetsMtu, SetsRemote}
use Rattle.is_theorems.proofs.Common.{SetTimingAdvance, SharedRun, SkipPairIds, Some, Step, Stream, subst, suc, sum_by-cons, sym, Takes}
use Rattle.is_theorems.proofs.Common.{timeout_begun, TimesOut, true, unpaired, ℕ}
use Rattle.is_theorems.proofs.CallEffects.AddedCandidates.{by_adding_local, by_adding_remote, by_waking}
use Rattle.is_theorems.proofs.RuleEffects.Reselection.{reselects-none, reselects-original}
use Rattle.is_theorems.proofs.CallEffects.PathAndTradeEffects.{path_theorem}
use Rattle.is_theorems.proofs.ExecutionLogs.SharedLogTheorems as shared
use Rattle.is_theorems.proofs.RuleEffects.UnchangedSettings.{either}
use Rattle.is_theorems.proofs.CallEffects.FailedCallsAndNewAgents.{mtu_kept, local_kept, remote_kept, restart_kept, recreation_kept}
use Rattle.is_theorems.proofs.CallEffects.FailedCallsAndNewAgents.{enrolment_kept, storing_kept}
use Rattle.is_theorems.specs.Limited.{DiscoveriesStayFew}
use Rattle.is_theorems.proofs.ExecutionLogs.SharedRandomSource.{sound_run}
use Rattle.is_theorems.proofs.StoredPairs.PairsThatStay.{none-entered}
use Rattle.is_theorems.proofs.StorageBounds.QueuesAfterRules.{Lines, Grows, count-more, counts-all, lines_of, Adds, same, kept, more, most}
use Rattle.is_theorems.proofs.StorageBounds.QueuesAfterRules.{state_adds, unpaired_adds, begun_adds, maintains_adds, success_adds}
use Rattle.is_theorems.proofs.StorageBounds.QueuesAfterRules.{failure_adds, forms_adds, reselects_adds, serves_adds, requested_adds}

-- ---- what waits

-- the bounds before a call, and those after it by what it adds and whether it empties a queue
abbrev pub after : Bool → ℕ → Bool → ℕ → ℕ
after taken adds empties n = (if taken then adds else 0) + (if empties then 0 else n)

pub record Waits (m n : ℕ) (l : Lines) : Type 0 where
  pub packets : length l.packets ≤ m
  pub others : other_count l.events ≤ n

-- what the call adds is at most its part of the bounds
grown : (p k a b m n : ℕ) (old new : Lines) → p ≤ a → k ≤ b → Grows p k old new → Waits m n old → Waits (a + m) (b + n) new
grown p k a b m n old new one two g w =
    let c = g.packets in let d = g.others in let e = w.packets in let f = w.others in
    record { packets = omega (arith, one, c, e); others = omega (arith, two, d, f) }

-- whatever the call may add
loose : (a b m n : ℕ) (old new : Lines) → Grows 0 0 old new → Waits m n old → Waits (a + m) (b + n) new
loose a b m n old new g w =
    let c = g.packets in let d = g.others in let e = w.packets in let f = w.others in
    record { packets = omega (arith, c, e); others = omega (arith, d, f) }

below-limit : (b c : Bool) (limit : Option ℕ) (most k : ℕ) → (b || not (is_below limit k) || c) ≡ false → IsWithin most limit → k < most
below-limit true c limit most k is limited = let no : true ≡ false = is in absurd (cc)
below-limit false c None most k is limited = absurd limited
below-limit false c (Some l) most k is limited = by (is_below (Some l) k) refl is where
  by : (b : Bool) → is_below (Some l) k ≡ b → (not b || c) ≡ false → k < most
  by true e h = let lt : k < l = ltb-true k l e in omega (arith, lt, limited)
  by false e h = let no : true ≡ false = h in absurd (cc)

module _ {H P : Type 0} where
  -- the `DiscoveredRecv` events stay within the limit
  abbrev pub Holds : ℕ → AgentRecord H P → AgentRecord H P → Type 0
  Holds limit old new = discovery_count old.events ≤ limit → discovery_count new.events ≤ limit

  holds : (limit p k : ℕ) (old new : AgentRecord H P) → Adds p k old new → Holds limit old new
  holds limit p k old new g was = let d = g.discoveries in omega (arith, d, was)

  module _ (mac : H → List ℕ → List ℕ → List ℕ) (answers : P → CandidateRecord → ℕ → ℕ → Type 0) where
    -- ---- packets

    class_adds : (c : Class) (now : ℕ) (old mid : AgentRecord H P) (via : Path) (m : Message) (emitted : Emitted) → Takes mac c now old via m emitted mid → Adds 1 2 old mid
    class_adds class.Request now old mid via m emitted h = most 1 2 1 2 old mid (omega arith) (omega arith) (requested_adds mac (request_in now via m) old.remote_creds old mid emitted h)
    class_adds class.Success now old mid via m emitted h = most 0 2 1 2 old mid (omega arith) (omega arith) (success_adds now old mid via m emitted h)
    class_adds class.Failure now old mid via m emitted h = most 0 0 1 2 old mid (omega arith) (omega arith) (failure_adds old mid via m emitted h)
    class_adds class.Indication now old mid via m emitted h = absurd h
    class_adds class.Unknown now old mid via m emitted h = absurd h

    -- the source of an accepted packet
    record Discovers (old new : AgentRecord H P) : Type 0 where
      packets : length new.packets ≤ length old.packets
      others : other_count new.events ≤ other_count old.events
      discoveries : (limit : ℕ) → IsWithin limit old.max_discovered → Holds limit old new

    discovers : (c : Class) (emitted : Emitted) (via : Path) (a : AgentRecord H P) → Discovers a (discovered_emitted c emitted via a)
    discovers c emitted via a = record {
      packets = omega arith;
      others = others (is_passed_over c emitted via a);
      discoveries = λ limit limited was. found limit limited was (is_passed_over c emitted via a) refl;
    } where
      e : IceAgentEvent
      e = DiscoveredRecv via.proto via.source

      others : (b : Bool) → other_count (if b then a.events else a.events ++ e ∷ []) ≤ other_count a.events
      others true = omega arith
      others false =
          let one : other_count (a.events ++ e ∷ []) ≡ other_count a.events + 0 = count-more (λ x. not (is_discovery x)) a.events e in
          omega (arith, one)

      found : (limit : ℕ) → IsWithin limit a.max_discovered → discovery_count a.events ≤ limit → (b : Bool) → is_passed_over c emitted via a ≡ b
          → discovery_count (if b then a.events else a.events ++ e ∷ []) ≤ limit
      found limit limited was true is = was
      found limit limited was false is =
          let one : discovery_count (a.events ++ e ∷ []) ≡ discovery_count a.events + 1 = count-more is_discovery a.events e in
          let all = counts-all a.events in
          let lt : length a.events < limit = below-limit (is_discovered via a) (reports_none c emitted a) a.max_discovered limit (length a.events) is limited in
          omega (arith, one, all, lt)

    -- what a packet does to the queues
    record Receiving (p k : ℕ) (e : Entry) (old new : AgentRecord H P) : Type 0 where
      waits : (m n : ℕ) → Waits m n (lines_of old) → Waits (after (is_taken e.answer) p false m) (after (is_taken e.answer) k false n) (lines_of new)
      discoveries : (limit : ℕ) → IsWithin limit old.max_discovered → Holds limit old new

    unmoved : (p k : ℕ) (e : Entry) (old new : AgentRecord H P) → new ≡ old → Receiving p k e old new
    unmoved p k e old new made = record {
      waits = λ m n w. loose (if is_taken e.answer then p else 0) (if is_taken e.answer then k else 0) m n (lines_of old) (lines_of new) (kept old new made) w;
      discoveries = λ limit limited. holds limit 0 0 old new (kept old new made);
    }

    received : (now : ℕ) (old new : AgentRecord H P) (via : Path) (bytes : List ℕ) (e : Entry) → Receives mac answers now old via bytes e new
        → Receiving (packets_of {P = P} (ReceivePacket now via bytes)) (events_of {P = P} (is_modern old.timing) (ReceivePacket now via bytes)) e old new
    received now old new via bytes e (inl (fault, has, is, made)) = unmoved _ _ e old new made
    received now old new via bytes e (inr (m, reads, (Ok false, emitted, is, (rejected, none, made)))) = unmoved _ _ e old new made
    received now old new via bytes e (inr (m, reads, (Err error, emitted, is, (may, none, made)))) = unmoved _ _ e old new made
    received now old new via bytes e (inr (m, reads, (Ok true, emitted, is, (accepted, (mid, takes, made))))) =
        let g : Adds 1 2 old mid = class_adds m.class now old mid via m emitted takes in
        let d : Discovers mid (discovered_emitted m.class emitted via mid) = discovers m.class emitted via mid in
        let one : 1 ≤ packets_of {P = P} (ReceivePacket now via bytes) = omega arith in
        let two : 2 ≤ events_of {P = P} (is_modern old.timing) (ReceivePacket now via bytes) = omega arith in
        subst (λ (a : AgentRecord H P). Receiving (packets_of {P = P} (ReceivePacket now via bytes)) (events_of {P = P} (is_modern old.timing) (ReceivePacket now via bytes)) e old a) (sym made) (record {
          waits = λ i j w. subst (λ (b : Bool). Waits (after b (packets_of {P = P} (ReceivePacket now via bytes)) false i) (after b (events_of {P = P} (is_modern old.timing) (ReceivePacket now via bytes)) false j) (lines_of (discovered_emitted m.class emitted via mid)))
              (sym (ap (λ (x : Entry). is_taken x.answer) is)) (
              let a1 = g.packets in let a2 = g.others in let b1 = d.packets in let b2 = d.others in let c1 = w.packets in let c2 = w.others in
              record { packets = omega (arith, one, a1, b1, c1); others = omega (arith, two, a2, b2, c2) });
          discoveries = λ limit limited was. d.discoveries limit (subst (λ (o : Option ℕ). IsWithin limit o) (sym g.limit) limited) (holds limit 1 2 old mid g was);
        })

    -- ---- candidates

    module _ (old new : AgentRecord H P) where
      discards : (l r : Option ℕ) (found : Bool) → InvalidatesAt l r old found new → Adds 0 0 old new
      discards (Some place) r found (is, made) = same old new (ap (λ (a : AgentRecord H P). lines_of a) made)
      discards None (Some place) found (is, made) = same old new (ap (λ (a : AgentRecord H P). lines_of a) made)
      discards None None found (is, made) = kept old new made

      signals : (c : CandidateRecord) (r : Result (Unit {0}) IceError) → AddsRemote old c r new → Adds 0 0 old new
      signals c (Ok _) h = by_adding_remote old new c h
          (λ made. kept old new made)
          (λ f. forms_adds _ new _ f)
          (λ k lt addr f. forms_adds _ new _ f)
      signals c (Err error) h = kept old new (storing_kept old new c error h)

      adds_local : (c : CandidateRecord) (r : Result (Option ℕ) IceError) → AddsLocal answers old c r new → Adds 0 0 old new
      adds_local c (Ok place) h = by_adding_local old new answers c place h
          (λ made. kept old new made)
          (λ x based f. forms_adds _ new _ f)
          (λ k lt f. forms_adds _ new _ f)
          (λ x based k f. forms_adds _ new _ f)
      adds_local c (Err error) h = kept old new (enrolment_kept answers old new c error h)

      -- what is ignored, or rejected, changes nothing
      adds_none : (c : CandidateRecord) (r : Result (Option ℕ) IceError) → AddsLocal answers old c r new → (is_taken (answer_by added r) ≡ true) ⊎ (new ≡ old)
      adds_none c (Ok (Some place)) h = inl refl
      adds_none c (Ok None) h = inr (none-entered answers old new c h)
      adds_none c (Err error) h = inr (enrolment_kept answers old new c error h)

      signals_none : (c : CandidateRecord) (r : Result (Unit {0}) IceError) → AddsRemote old c r new → (is_taken (answer_by done r) ≡ true) ⊎ (new ≡ old)
      signals_none c (Ok _) h = inl refl
      signals_none c (Err error) h = inr (storing_kept old new c error h)

      discards_none : (l r : Option ℕ) (found : Bool) → InvalidatesAt l r old found new → (found ≡ true) ⊎ (new ≡ old)
      discards_none (Some place) r found (is, made) = inl is
      discards_none None (Some place) found (is, made) = inl is
      discards_none None None found (is, made) = inr made

    -- ---- calls

    module _ (old new : AgentRecord H P) (s t : Stream) (e : Entry) where
      abbrev Moves : Call P → Type 0
      Moves call =
          ((m n : ℕ) → Waits m n (lines_of old)
          → Waits (after (is_taken e.answer) (packets_of call) (leaves_no_packet call e.answer) m) (after (is_taken e.answer) (events_of (is_modern old.timing) call) (leaves_no_event call e.answer) n) (lines_of new))
          × ((limit : ℕ) → (may_serve call ≡ true → IsWithin limit old.max_discovered) → Holds limit old new)

      -- a call that neither fills nor empties a queue
      abbrev Rests : Type 0
      Rests = (a b m n : ℕ) → Waits m n (lines_of old) → Waits (a + m) (b + n) (lines_of new)

      rests : Adds 0 0 old new → Rests
      rests g a b m n w = loose a b m n (lines_of old) (lines_of new) g w

      still : {X : ℕ → Type 0} → Adds 0 0 old new
          → ((m n : ℕ) → Waits m n (lines_of old) → Waits (after (is_taken e.answer) 0 false m) (after (is_taken e.answer) 0 false n) (lines_of new))
          × ((limit : ℕ) → X limit → Holds limit old new)
      still g = (λ m n w. rests g (if is_taken e.answer then 0 else 0) (if is_taken e.answer then 0 else 0) m n w, λ limit limited. holds limit 0 0 old new g)

      may : (Does : Result (Unit {0}) IceError → AgentRecord H P → Type 0) → (Does (Ok _) new → lines_of new ≡ lines_of old) → ((error : IceError) → Does (Err error) new → new ≡ old) → MayDo Does s e new t → Adds 0 0 old new
      may Does done failed (Ok _, is, h, drawn) = same old new (done h)
      may Does done failed (Err error, is, h, drawn) = kept old new (failed error h)

      -- a candidate that takes the selected pair away, or leaves all
      reselecting : {X : ℕ → Type 0} (mid : AgentRecord H P) (path : Option Path) → Reselects (loses_selected old mid) mid path new → Adds 0 0 old mid
          → (is_taken e.answer ≡ true) ⊎ (mid ≡ old)
          → ((m n : ℕ) → Waits m n (lines_of old) → Waits (after (is_taken e.answer) 0 false m) (after (is_taken e.answer) 2 false n) (lines_of new))
          × ((limit : ℕ) → X limit → Holds limit old new)
      reselecting mid path h adds (inl goes) =
          let g : Adds 0 2 old new = more 0 0 0 2 old mid new adds (reselects_adds (loses_selected old mid) mid new path h) in (
            λ m n w. subst (λ (b : Bool). Waits (after b 0 false m) (after b 2 false n) (lines_of new)) (sym goes)
                (grown 0 2 0 2 m n (lines_of old) (lines_of new) (omega arith) (omega arith) g w),
            λ limit limited. holds limit 0 2 old new g,
          )
      reselecting mid path h adds (inr same) =
          let g : Adds 0 0 old new = kept old new ((reselects-none old mid new path same h).1 ∙ same) in
          (λ m n w. rests g (if is_taken e.answer then 0 else 0) (if is_taken e.answer then 2 else 0) m n w, λ limit limited. holds limit 0 0 old new g)

      -- with `Original` it takes no selected pair away
      selects : {X : ℕ → Type 0} (mid : AgentRecord H P) (path : Option Path) → Reselects (loses_selected old mid) mid path new → Adds 0 0 old mid
          → (is_taken e.answer ≡ true) ⊎ (mid ≡ old)
          → ((m n : ℕ) → Waits m n (lines_of old)
          → Waits (after (is_taken e.answer) 0 false m) (after (is_taken e.answer) (if is_modern old.timing then 2 else 0) false n) (lines_of new))
          × ((limit : ℕ) → X limit → Holds limit old new)
      selects {X = X} mid path h adds which = by (is_modern old.timing) refl where
        by : (b : Bool) → is_modern old.timing ≡ b
            → ((m n : ℕ) → Waits m n (lines_of old) → Waits (after (is_taken e.answer) 0 false m) (after (is_taken e.answer) (if b then 2 else 0) false n) (lines_of new))
            × ((limit : ℕ) → X limit → Holds limit old new)
        by true rule = reselecting mid path h adds which
        by false rule =
            let g : Adds 0 0 old new = subst (λ (a : AgentRecord H P). Adds 0 0 old a) (sym (reselects-original old mid new path rule h).1) adds in
            (λ m n w. rests g (if is_taken e.answer then 0 else 0) (if is_taken e.answer then 0 else 0) m n w, λ limit limited. holds limit 0 0 old new g)

      taken : (answer : Answer) (emitted : Emitted) (mid : AgentRecord H P) → e ≡ record { answer = answer; emitted = emitted }
          → (is_taken answer ≡ true) ⊎ (mid ≡ old)
          → (is_taken e.answer ≡ true) ⊎ (mid ≡ old)
      taken answer emitted mid is (inl goes) = inl (ap (λ (x : Entry). is_taken x.answer) is ∙ goes)
      taken answer emitted mid is (inr same) = inr same

      -- the counts of a restarted agent
      restarts : (creds : IceCreds) (keep : Bool) → MayDo (Restarts old creds keep) s e new t → Moves (RestartIce creds keep)
      restarts creds keep (Err error, is, h, drawn) =
          let g : Adds 0 0 old new = kept old new (restart_kept old new creds keep error h) in (
            λ m n w. subst (λ (x : Entry). Waits (after (is_taken x.answer) 0 (leaves_no_packet {P = P} (RestartIce creds keep) x.answer) m) (after (is_taken x.answer) (events_of {P = P} (is_modern old.timing) (RestartIce creds keep)) (leaves_no_event {P = P} (RestartIce creds keep) x.answer) n) (lines_of new))
                (sym is) (rests g 0 0 m n w),
            λ limit limited. holds limit 0 0 old new g,
          )
      restarts creds keep (Ok _, is, (fits, made), drawn) =
          let g = state_adds Checking (record (cleared creds keep old) { events = (cleared creds keep old).events ++ IceRestart creds ∷ [] }) in (
            λ m n w. subst (λ (x : Entry). Waits (after (is_taken x.answer) 0 (leaves_no_packet {P = P} (RestartIce creds keep) x.answer) m) (after (is_taken x.answer) (events_of {P = P} (is_modern old.timing) (RestartIce creds keep)) (leaves_no_event {P = P} (RestartIce creds keep) x.answer) n) (lines_of new))
                (sym is) (subst (λ (a : AgentRecord H P). Waits 0 2 (lines_of a)) (sym made)
                (let b = g.others in let one : other_count (IceRestart creds ∷ []) ≡ 1 = refl in record { packets = omega arith; others = omega (arith, b, one) })),
            λ limit limited was. subst (λ (a : AgentRecord H P). discovery_count a.events ≤ limit) (sym made)
                (let b = g.discoveries in let none : discovery_count (IceRestart creds ∷ []) ≡ 0 = refl in omega (arith, b, none)),
          )

      recreates : MayDo (Recreates old) s e new t → Moves RecreateCandidatePairs
      recreates (Err error, is, h, drawn) =
          let g : Adds 0 0 old new = kept old new (recreation_kept old new error h) in
          (λ m n w. rests g (if is_taken e.answer then 0 else 0) (if is_taken e.answer then events_of {P = P} (is_modern old.timing) RecreateCandidatePairs else 0) m n w, λ limit limited. holds limit 0 0 old new g)
      recreates (Ok _, is, (enough, f), drawn) =
          let g : Adds 0 1 old new = more 0 0 0 1 old (unpaired old) new (unpaired_adds old)
          (more 0 1 0 0 (unpaired old) (emptied old) new (state_adds Checking (unpaired old)) (forms_adds (emptied old) new _ f)) in (
            λ m n w. subst (λ (x : Entry). Waits (after (is_taken x.answer) 0 false m) (after (is_taken x.answer) (events_of {P = P} (is_modern old.timing) RecreateCandidatePairs) false n) (lines_of new)) (sym is)
                (grown 0 1 0 (events_of {P = P} (is_modern old.timing) RecreateCandidatePairs) m n (lines_of old) (lines_of new) (omega arith) (omega arith) g w),
            λ limit limited. holds limit 0 1 old new g,
          )

      times_out : (now : ℕ) (r : Result (Unit {0}) IceError) (emitted : Emitted) → TimesOut mac now old s r emitted new t → is_taken e.answer ≡ is_taken (answer_by done r) → Moves (HandleTimeout now)
      times_out now (Err error) emitted (may, none, made, drawn) taken =
          let g : Adds 0 0 old new = kept old new made in
          (λ m n w. rests g (if is_taken e.answer then packets_of {P = P} (HandleTimeout now) else 0) (if is_taken e.answer then events_of {P = P} (is_modern old.timing) (HandleTimeout now) else 0) m n w, λ limit limited. holds limit 0 0 old new g)
      times_out now (Ok _) emitted h taken =
          let g : Adds 1 5 old new = by (request_at now old) h in (
            λ m n w. subst (λ (b : Bool). Waits (after b (packets_of {P = P} (HandleTimeout now)) false m) (after b (events_of {P = P} (is_modern old.timing) (HandleTimeout now)) false n) (lines_of new)) (sym taken)
                (grown 1 5 (packets_of {P = P} (HandleTimeout now)) (events_of {P = P} (is_modern old.timing) (HandleTimeout now)) m n (lines_of old) (lines_of new) (omega arith) (omega arith) g w),
            λ limit limited. holds limit 1 5 old new g,
          ) where
            by : (q : Option RequestRecord) → MatchOption q (MaintainsPairs mac now (timeout_begun now old) s emitted new t) (λ q. Serves mac q (first_taken (at_request now (timeout_begun now old))) emitted new × (t ≡ s)) → Adds 1 5 old new
            by None k = more 0 2 1 3 old (timeout_begun now old) new (begun_adds now old) (maintains_adds mac now (timeout_begun now old) new s t emitted k)
            by (Some q) (k, drawn) =
                most 1 4 1 5 old new (omega arith) (omega arith)
                (more 0 2 1 2 old (timeout_begun now old) new (begun_adds now old) (serves_adds mac q (first_taken (at_request now (timeout_begun now old))) new emitted k))

      polls_packet : (given : Option Packet) → e ≡ quiet (Polled given) → IsPolled old.packets given new.packets → new ≡ record old { packets = new.packets } → Moves PollTransmit
      polls_packet None is polled made =
          let same_events : new.events ≡ old.events = ap (λ (a : AgentRecord H P). a.events) made in (
            λ m n w. subst (λ (x : Entry). Waits (after (is_taken x.answer) 0 (finds_no_packet x.answer) m) (after (is_taken x.answer) 0 false n) (lines_of new)) (sym is) (record {
              packets = (let gone : length new.packets ≡ 0 = ap length polled.1 in omega (arith, gone));
              others = (let stays : other_count new.events ≡ other_count old.events = ap other_count same_events in let was = w.others in omega (arith, stays, was));
            }),
            λ limit limited was. subst (λ (es : List IceAgentEvent). discovery_count es ≤ limit) (sym same_events) was,
          )
      polls_packet (Some p) is polled made =
          let same_events : new.events ≡ old.events = ap (λ (a : AgentRecord H P). a.events) made in
          let long : length old.packets ≡ suc (length new.packets) = ap length polled in (
            λ m n w. subst (λ (x : Entry). Waits (after (is_taken x.answer) 0 (finds_no_packet x.answer) m) (after (is_taken x.answer) 0 false n) (lines_of new)) (sym is) (record {
              packets = (let was = w.packets in omega (arith, long, was));
              others = (let stays : other_count new.events ≡ other_count old.events = ap other_count same_events in let was = w.others in omega (arith, stays, was));
            }),
            λ limit limited was. subst (λ (es : List IceAgentEvent). discovery_count es ≤ limit) (sym same_events) was,
          )

      polls_event : (given : Option IceAgentEvent) → e ≡ quiet (Happened given) → IsPolled old.events given new.events → new ≡ record old { events = new.events } → Moves PollEvent
      polls_event None is polled made =
          let same_packets : new.packets ≡ old.packets = ap (λ (a : AgentRecord H P). a.packets) made in (
            λ m n w. subst (λ (x : Entry). Waits (after (is_taken x.answer) 0 false m) (after (is_taken x.answer) 0 (finds_no_event x.answer) n) (lines_of new)) (sym is) (record {
              packets = (let stays : length new.packets ≡ length old.packets = ap length same_packets in let was = w.packets in omega (arith, stays, was));
              others = (let gone : other_count new.events ≡ 0 = ap other_count polled.1 in omega (arith, gone));
            }),
            λ limit limited was. subst (λ (es : List IceAgentEvent). discovery_count es ≤ limit) (sym polled.1) (omega arith),
          )
      polls_event (Some event) is polled made =
          let same_packets : new.packets ≡ old.packets = ap (λ (a : AgentRecord H P). a.packets) made in
          let others : other_count old.events ≡ cond (not (is_discovery event)) 1 0 + other_count new.events =
          ap other_count polled ∙ sum_by-cons (λ (x : IceAgentEvent). cond (not (is_discovery x)) 1 0) event new.events in
          let found : discovery_count old.events ≡ cond (is_discovery event) 1 0 + discovery_count new.events =
          ap discovery_count polled ∙ sum_by-cons (λ (x : IceAgentEvent). cond (is_discovery x) 1 0) event new.events in (
            λ m n w. subst (λ (x : Entry). Waits (after (is_taken x.answer) 0 false m) (after (is_taken x.answer) 0 (finds_no_event x.answer) n) (lines_of new)) (sym is) (record {
              packets = (let stays : length new.packets ≡ length old.packets = ap length same_packets in let was = w.packets in omega (arith, stays, was));
              others = (let was = w.others in omega (arith, others, was));
            }),
            λ limit limited was. omega (arith, found, was),
          )

      relimited : (limit : Option ℕ) → new ≡ record old { max_discovered = limit } → Moves (SetMaxDiscovered limit)
      relimited limit made = (
        λ m n w. rests_on (if is_taken e.answer then 0 else 0) (if is_taken e.answer then 0 else 0) m n w,
        λ most limited was. subst (λ (es : List IceAgentEvent). discovery_count es ≤ most) (sym (ap (λ (a : AgentRecord H P). a.events) made)) was,
      ) where
        rests_on : (a b m n : ℕ) → Waits m n (lines_of old) → Waits (a + m) (b + n) (lines_of new)
        rests_on a b m n w = subst (λ (x : AgentRecord H P). Waits (a + m) (b + n) (lines_of x)) (sym made)
            (let c = w.packets in let d = w.others in record { packets = omega (arith, c); others = omega (arith, d) })

      moves : (call : Call P) → Step mac answers old s call e new t → Moves call
      moves (SetMtu target warn) h = still (may (SetsMtu old target warn) (λ k. ap (λ (a : AgentRecord H P). lines_of a) k.1) (mtu_kept old new target warn) h)
      moves (SetControlTieBreaker tie) (is, made, drawn) = still (same old new (ap (λ (a : AgentRecord H P). lines_of a) made))
      moves (SetMaxCandidatePairs k) (is, made, drawn) = still (same old new (ap (λ (a : AgentRecord H P). lines_of a) made))
      moves (SetMaxDiscovered limit) (is, made, drawn) = relimited limit made
      moves (SetMaxCandidates limit) (is, made, drawn) = still (same old new (ap (λ (a : AgentRecord H P). lines_of a) made))
      moves (SetIceLite lite) (is, made, drawn) = still (same old new (ap (λ (a : AgentRecord H P). lines_of a) made))
      moves (SetRenomination on) (is, made, drawn) = still (same old new (ap (λ (a : AgentRecord H P). lines_of a) made))
      moves (SetProfile profile) (is, made, drawn) = still (same old new (ap (λ (a : AgentRecord H P). lines_of a) made))
      moves (SetConsent consent) (is, made, drawn) = still (same old new (ap (λ (a : AgentRecord H P). lines_of a) made))
      moves (SetTimingAdvance by) (is, made, drawn) = still (same old new (ap (λ (a : AgentRecord H P). lines_of a) made))
      moves (SetInitialStunRto rto) (is, made, drawn) = still (same old new (ap (λ (a : AgentRecord H P). lines_of a) made))
      moves (SetMaxStunRto rto) (is, made, drawn) = still (same old new (ap (λ (a : AgentRecord H P). lines_of a) made))
      moves (SetMaxStunRetransmits k) h = still (either (k == 0) h (λ _ x. kept old new x.1) (λ _ x. same old new (ap (λ (a : AgentRecord H P). lines_of a) x.1)))
      moves (SetLiteTimeout timeout) (is, made, drawn) = still (same old new (ap (λ (a : AgentRecord H P). lines_of a) made))
      moves (SetLocalPreference object) (is, made, drawn) = still (same old new (ap (λ (a : AgentRecord H P). lines_of a) made))
      moves (SetControlling controlling) (is, made, drawn) = still (same old new (ap (λ (a : AgentRecord H P). lines_of a) made))
      moves (SetLocalCredentials creds) h = still (may (SetsLocal old creds) (λ k. ap (λ (a : AgentRecord H P). lines_of a) k.1) (local_kept old new creds) h)
      moves (SetRemoteCredentials creds) h = still (may (SetsRemote old creds) (λ k. ap (λ (a : AgentRecord H P). lines_of a) k.1) (remote_kept old new creds) h)
      moves (SkipPairIds k) (is, made, drawn) = still (same old new (ap (λ (a : AgentRecord H P). lines_of a) made))
      moves (AddLocalCandidate c) (r, emitted, is, (path, mid, h, again, emits), drawn) =
          selects mid path again (adds_local old mid c r h) (taken (answer_by added r) emitted mid is (adds_none old mid c r h))
      moves (AddRemoteCandidate c) (r, emitted, is, (path, mid, h, again, emits), drawn) =
          selects mid path again (signals old mid c r h) (taken (answer_by done r) emitted mid is (signals_none old mid c r h))
      moves (InvalidateCandidate c) (found, emitted, is, (path, mid, h, again, emits), drawn) =
          selects mid path again (discards old mid (local_to_discard c old) (remote_to_discard c old) found h)
          (taken (Flag found) emitted mid is (discards_none old mid (local_to_discard c old) (remote_to_discard c old) found h))
      moves (RestartIce creds keep) h = restarts creds keep h
      moves RecreateCandidatePairs h = recreates h
      moves (ReceivePacket now via bytes) (h, drawn) = let r = received now old new via bytes e h in (r.waits, λ limit limited. r.discoveries limit (limited refl))
      moves (HandleTimeout now) (r, emitted, is, h) = times_out now r emitted h (ap (λ (x : Entry). is_taken x.answer) is)
      moves PollTransmit (given, is, (polled, made), drawn) = polls_packet given is polled made
      moves PollTimeout (deadline, is, h, drawn) = still (by_waking old new deadline h (λ made. kept old new made) (λ at made. same old new (ap (λ (a : AgentRecord H P). lines_of a) made)))
      moves PollEvent (given, is, (polled, made), drawn) = polls_event given is polled made

    -- ---- executions

    waited : (first last : AgentRecord H P) (log : List (Logged P)) → IsNewlyCreated first → SharedRun mac answers first log last → Waits (most_packets log) (most_events log) (lines_of last)
    waited first last [] (creds, tie, role, is) run =
        subst (λ (a : AgentRecord H P). Waits 0 0 (lines_of a)) (sym (run ∙ is)) (record { packets = omega arith; others = omega arith })
    waited first last (x ∷ before) new (mid, s, t, run, based, step) =
        subst (λ (b : Bool). Waits (most_packets (x ∷ before)) (after (is_taken x.entry.answer) (events_of b x.call) (leaves_no_event x.call x.entry.answer) (most_events before)) (lines_of last))
        (ap (λ (set : Bool × Bool). set.1) (shared.holds mac answers (path_theorem mac answers) first new before mid run).numbering_is)
        ((moves mid last s t x.entry x.call step).0 (most_packets before) (most_events before) (waited first mid before new run))

    pub queues_are_short : QueuesAreShort {H = H} mac answers
    queues_are_short first last log new run =
        let w = waited first last log new run in
        let queued = (sound_run mac answers first last log new run).queued in
        record { packets = w.packets; others = w.others; requests = omega (arith, queued) }

    pub discoveries_stay_few : DiscoveriesStayFew {H = H} mac answers
    discoveries_stay_few most first last [] (creds, tie, role, is) run limited =
        subst (λ (a : AgentRecord H P). discovery_count a.events ≤ most) (sym (run ∙ is)) (omega arith)
    discoveries_stay_few most first last (x ∷ before) new (mid, s, t, run, based, step) (here, earlier) =
        (moves mid last s t x.entry x.call step).1 most (λ is. search (here is)) (discoveries_stay_few most first mid before new run earlier)
