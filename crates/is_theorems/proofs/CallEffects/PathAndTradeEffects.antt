-- The two theorems about effects, for every call.
use Rattle.is_stun.specs.declared.header.Class.TheVariants as class
use Rattle.is_theorems.proofs.Common.{formed_again}
use Rattle.is_theorems.proofs.Common.{[], ◌++◌, ◌∙◌, ◌∷◌, ◌≡◌, ◌⊎◌, AgentRecord, ap, at_request, binding_reply, binding_role_conflict_reply}
use Rattle.is_theorems.proofs.Common.{Bool, Call, CandidateRecord, Class, each-below, each-rising, Emitted, Entry, Err, false, first_taken}
use Rattle.is_theorems.proofs.Common.{GivesBased, HandlesFailure, HandlesSuccess, HandleTimeout, Has, IceCreds, if◌then◌else◌, inl, inr}
use Rattle.is_theorems.proofs.Common.{is_done, is_left_out, IsBased, IsIssued, IsPolled, IsQueued, Issued, KeepsChecks, key_for, List}
use Rattle.is_theorems.proofs.Common.{local_with, MaintainsPairs, mapped_candidate, MatchOption, Message, None, nothing_emitted, Ok, Option}
use Rattle.is_theorems.proofs.Common.{Packet, Path, PathTheorem, PollTransmit, queued, QueuesPackets, ReceivePacket, refl, request_at}
use Rattle.is_theorems.proofs.Common.{request_in, RequestRecord, RestartIce, reversed, same, Serves, ServesQueued, Some, Step, Stream}
use Rattle.is_theorems.proofs.Common.{subst, success_counted, switched, sym, Takes, timeout_begun, TradeTheorem, true, via_out, written, ℕ}
use Rattle.is_theorems.proofs.CallEffects.FailedCallsAndNewAgents.{rejection_keeps}
use Rattle.is_theorems.proofs.RuleEffects.UnchangedSettings.{frame_of, packet_along}
use Rattle.is_theorems.proofs.CallEffects.SettingsRoleAndQueues.{framed}
use Rattle.is_theorems.proofs.RuleEffects.SelectedPaths.{some_is}
use Rattle.is_theorems.proofs.RuleEffects.EarlierAndNewPairs.{Has-push}
use Rattle.is_theorems.proofs.CallEffects.TimeoutsAndSuccesses.{asks_with}
use Rattle.is_theorems.proofs.CallEffects.UnchangedTimingAndBases.{Rest, rest_of, AllBased, nominates_rest, maintains_pairs_rest}
use Rattle.is_theorems.proofs.CallEffects.UnchangedTimingAndBases.{serves_rest}
use Rattle.is_theorems.proofs.CallEffects.CallsThatEmitNothing.{Calm, calm, pushed_based}
use Rattle.is_theorems.proofs.CallEffects.PairsAndSelectedPaths.{Posted}
use Rattle.is_theorems.proofs.CallEffects.PathEffects.{path_effect}
use Rattle.is_theorems.proofs.CallEffects.ReceivedAndOwed.{accepts, leaves_unaccepted, rejects, waits_has, waits_short, brought_or_waited}
use Rattle.is_theorems.proofs.CallEffects.ReceivedAndOwed.{owes, clears_pairs, clears_quiet}
use Rattle.is_theorems.proofs.PathSelection.NominationPoints.{takes_valid, points_top}
use Rattle.is_theorems.proofs.RuleEffects.NotedErrors.{recoded, by_failure}

module _ {H P : Type 0} (mac : H → List ℕ → List ℕ → List ℕ) (answers : P → CandidateRecord → ℕ → ℕ → Type 0) where
  -- ---- limits and bases

  -- the limits stay, and local candidates are their own base if they have to be
  pub record Persists (old new : AgentRecord H P) : Type 0 where
    pub checks : KeepsChecks old.timing → KeepsChecks new.timing
    pub based : AllBased old.local → AllBased new.local

  rests : (old new : AgentRecord H P) → rest_of new ≡ rest_of old → Persists old new
  rests old new same = record {
    checks = λ h. subst (λ (r : Rest). KeepsChecks r.timing) (sym same) h;
    based = λ h. subst (λ (r : Rest). AllBased r.local) (sym same) h;
  }

  by_made : (old mid new : AgentRecord H P) → Persists old mid → rest_of new ≡ rest_of mid → Persists old new
  by_made old mid new h same = record {
    checks = λ k. subst (λ (r : Rest). KeepsChecks r.timing) (sym same) (h.checks k);
    based = λ k. subst (λ (r : Rest). AllBased r.local) (sym same) (h.based k);
  }

  new_mapped_candidate : (known : Bool) (cs : List CandidateRecord) (c : CandidateRecord) → IsBased c → AllBased cs → AllBased (if known then cs else cs ++ c ∷ [])
  new_mapped_candidate true cs c own h = h
  new_mapped_candidate false cs c own h = pushed_based cs c own h

  success_persists : (now : ℕ) (old new : AgentRecord H P) (via : Path) (m : Message) (emitted : Emitted) → HandlesSuccess now old via m emitted new → Persists old new
  success_persists now old new via m emitted (recorded, (i, p, after, found, on, takes, made), (path, mid, nominating, is, done)) =
      by_made old mid new (by_made old (formed_again recorded) mid again_persists (nominates_rest (formed_again recorded) mid path nominating)) (ap (λ (a : AgentRecord H P). rest_of a) done) where
        by_address : (address : Option _) → m.attributes.xor_mapped_address ≡ address → Persists old recorded
        by_address None is = record {
          checks = λ h. subst (λ (a : AgentRecord H P). KeepsChecks a.timing) (sym made) h;
          based = λ h. subst (λ (a : AgentRecord H P). AllBased a.local) (sym made) (subst (λ o. AllBased (local_with p o (success_counted old))) (sym is) h);
        }
        by_address (Some address) is = record {
          checks = λ h. subst (λ (a : AgentRecord H P). KeepsChecks a.timing) (sym made) h;
          based = λ h. subst (λ (a : AgentRecord H P). AllBased a.local) (sym made) (subst (λ o. AllBased (local_with p o (success_counted old))) (sym is)
              (new_mapped_candidate (is_left_out old.max_discovered old.local address) old.local (mapped_candidate (success_counted old) p address) (λ no. let wrong : false ≡ true = no in absurd (cc)) h));
        }

        recorded_persists : Persists old recorded
        recorded_persists = by_address m.attributes.xor_mapped_address refl

        again_persists : Persists old (formed_again recorded)
        again_persists = record { checks = recorded_persists.checks; based = recorded_persists.based }

  failure_persists : (old new : AgentRecord H P) (via : Path) (m : Message) (emitted : Emitted) → HandlesFailure old via m emitted new → Persists old new
  failure_persists old new via m emitted h =
      by_failure (λ _ a. Persists old a) old new via m emitted (λ code. rests old (recoded code old) refl) (λ code. rests old (switched (recoded code old)) refl) h

  request_persists : (peer : Option IceCreds) (q : RequestRecord) (old new : AgentRecord H P) (emitted : Emitted)
      → MatchOption peer ((emitted ≡ nothing_emitted) × (new ≡ queued q old)) (λ peer. Serves mac q old emitted new) → Persists old new
  request_persists None q old new emitted h = rests old new (ap (λ (a : AgentRecord H P). rest_of a) h.1)
  request_persists (Some peer) q old new emitted h = rests old new (serves_rest mac q old new emitted h)

  taken_persists : (c : Class) (now : ℕ) (old new : AgentRecord H P) (via : Path) (m : Message) (emitted : Emitted) → Takes mac c now old via m emitted new → Persists old new
  taken_persists class.Request now old new via m emitted h = request_persists old.remote_creds (request_in now via m) old new emitted h
  taken_persists class.Success now old new via m emitted h = success_persists now old new via m emitted h
  taken_persists class.Failure now old new via m emitted h = failure_persists old new via m emitted h
  taken_persists class.Indication now old new via m emitted h = absurd h
  taken_persists class.Unknown now old new via m emitted h = absurd h

  timeout_persists : (now : ℕ) (old new : AgentRecord H P) (s t : Stream) (emitted : Emitted) (o : Option RequestRecord)
      → MatchOption o (MaintainsPairs mac now (timeout_begun now old) s emitted new t) (λ q. ServesQueued mac q (at_request now (timeout_begun now old)) s emitted new t) → Persists old new
  timeout_persists now old new s t emitted None h = rests old new (maintains_pairs_rest mac now (timeout_begun now old) new s t emitted h)
  timeout_persists now old new s t emitted (Some q) (h, drawn) = rests old new (serves_rest mac q (first_taken (at_request now (timeout_begun now old))) new emitted h)

  same_persists : (old new : AgentRecord H P) → new ≡ old → Persists old new
  same_persists old new made = rests old new (ap (λ (a : AgentRecord H P). rest_of a) made)

  calm_persists : (old new : AgentRecord H P) (e : Entry) (call : Call P) → GivesBased call → Calm call old e new → Persists old new
  calm_persists old new e call given c = record { checks = c.checks; based = λ h. c.based given h }

  persists : (old new : AgentRecord H P) (s t : Stream) (e : Entry) (call : Call P) → GivesBased call → Step mac answers old s call e new t → Persists old new
  persists old new s t e (ReceivePacket now via bytes) given (inl (fault, has, is, made), drawn) = same_persists old new made
  persists old new s t e (ReceivePacket now via bytes) given (inr (m, reads, (Ok false, emitted, is, (unaccepted, nothing, made))), drawn) = same_persists old new made
  persists old new s t e (ReceivePacket now via bytes) given (inr (m, reads, (Err error, emitted, is, (may, nothing, made))), drawn) = same_persists old new made
  persists old new s t e (ReceivePacket now via bytes) given (inr (m, reads, (Ok true, emitted, is, (accepted, (mid, takes, made)))), drawn) =
      by_made old mid new (taken_persists m.class now old mid via m emitted takes) (ap (λ (a : AgentRecord H P). rest_of a) made)
  persists old new s t e (HandleTimeout now) given (Ok u, emitted, is, h) = timeout_persists now old new s t emitted (request_at now old) h
  persists old new s t e (HandleTimeout now) given (Err error, emitted, is, (may, nothing, made, drawn)) = same_persists old new made
  persists old new s t e call given h = calm_persists old new e call given (calm mac answers old new s t e call refl h)

  -- ---- the theorem about paths

  pub path_theorem : PathTheorem {H = H} {P = P} mac answers
  path_theorem old new s t call e sound given h =
      let k = path_effect mac answers old new s t e call sound h in
      let p = k.0 in
      let f = framed mac answers old new s t e call h in
      let st = persists old new s t e call given h in (
        record {
          provider = f.provider;
          lite = f.lite;
          keeping = f.keeping;
          remote_creds = f.remote_creds;
          accepted = accepts mac answers old new s t e call h;
          queue = λ q has. waits_has mac answers old new s t e call q f.waits has;
          owed = λ test. owes mac answers old new s t e test call h k.2 f.waits;
          serves = λ q serving. brought_or_waited mac answers old new s t e call e q serving;
          checks = p.checks;
          valid = p.valid;
          nominated = p.nominated;
          replied = p.replied;
          selected_paths = p.selected_paths;
          selected_asked = p.selected_asked;
          number_stays = p.number_stays;
          number_names = p.number_names;
          cleared = clears_quiet mac answers old new s t e call h;
          cleared_pairs = clears_pairs mac answers old new s t e call h;
          counter = p.counter;
          numbers = p.numbers;
          taken = takes_valid mac answers old new s t e sound call h;
          points = points_top mac answers old new s t e sound call h;
        },
        record {
          placed = k.1.placed;
          rising = each-rising new.pairs k.1.rising;
          below = each-below new.next_number new.pairs k.1.below;
          selected_paths = p.number_below sound.selected_paths;
          started = λ q c has keeps. k.1.started q has c keeps;
          consented = k.1.consented;
          checks = st.checks sound.checks;
          queued = waits_short mac answers old new s t e call f.waits sound.queued;
          based = st.based sound.based;
        },
      )

  -- ---- the theorem about packets and roles

  polled_has : (given : Option Packet) (before following : List Packet) (x : Packet) → IsPolled before given following → Has following x → Has before x
  polled_has None before following x (none, empty) has = absurd (subst (λ (ps : List Packet). Has ps x) empty has)
  polled_has (Some y) before following x is has = subst (λ (ps : List Packet). Has ps x) (sym is) (inr has)

  emptied_has : (b : Bool) (before following : List Packet) (x : Packet) → following ≡ (if b then [] else before) → Has following x → Has before x
  emptied_has true before following x is has = absurd (subst (λ (ps : List Packet). Has ps x) is has)
  emptied_has false before following x is has = subst (λ (ps : List Packet). Has ps x) is has

  queued_has : (issued : Option Issued) (before following : List Packet) (x : Packet) → issued ≡ None → IsQueued issued before following → Has following x → Has before x
  queued_has None before following x none is has = subst (λ (ps : List Packet). Has ps x) is has
  queued_has (Some i) before following x none is has = absurd (let no : Some i ≡ None = none in cc)

  sends_has : (call : Call P) (e : Entry) (before following : List Packet) → e.emitted.issued ≡ None → QueuesPackets call e before following → (x : Packet) → Has following x → Has before x
  sends_has PollTransmit e before following none (given, is, polled) x has = polled_has given before following x polled has
  sends_has (RestartIce creds keep) e before following none (nothing, emptied) x has = emptied_has (is_done e.answer) before following x emptied has
  sends_has call e before following none is x has = queued_has e.emitted.issued before following x none is has

  module _ (old new : AgentRecord H P) (s t : Stream) (e : Entry) (call : Call P) where
    -- the packet that the step issues
    abbrev pub Issues : Type 0
    Issues = (packet : Packet) × (new.packets ≡ old.packets ++ packet ∷ []) × IsIssued mac old call e packet new.controlling

    pub issues : Posted mac answers old new s t e call → (e.emitted.issued ≡ None) ⊎ Issues
    issues (inl none) = inl none
    issues (inr (inl (role, inl none))) = inl none
    issues (inr (inl (role, inr (path, id, peer, c, names, number, out, known, has, values, put, leads, with_number)))) =
        let m : Message = asks_with (frame_of old) peer id c names number in
        let packet : Packet = packet_along path (written (mac old.provider) (Some peer.pass) m) in
        inr (
          packet,
          put,
          (
            m,
            ap (λ o. written (mac old.provider) (Some (key_for class.Request old.local_creds o)) m) (sym known),
            out,
            (peer, c, names, number, known, has, refl, values, role, leads, with_number),
          ),
        )
    issues (inr (inr (q, serves, inl (inl none)))) = inl none.0
    issues (inr (inr (q, serves, inl (inr (out, values, put, nominates))))) =
        let m : Message = binding_reply q.id q.path.source in
        let packet : Packet = packet_along (reversed q.path) (written (mac old.provider) (Some old.local_creds.pass) m) in
        inr (packet, put, (m, refl, out, (q, serves, refl, refl, values)))
    issues (inr (inr (q, serves, inr (out, values, put, sends_487, stays)))) =
        let m : Message = binding_role_conflict_reply q.id in
        let packet : Packet = packet_along (reversed q.path) (written (mac old.provider) (Some old.local_creds.pass) m) in
        inr (packet, put, (m, refl, out, (q, serves, refl, refl, values, sends_487, stays)))

    Has-end : (xs : List Packet) (x : Packet) → Has (xs ++ x ∷ []) x
    Has-end [] x = inl refl
    Has-end (y ∷ xs) x = inr (Has-end xs x)

    all_issued : Posted mac answers old new s t e call → QueuesPackets call e old.packets new.packets → (packet : Packet) → Has new.packets packet
        → Has old.packets packet ⊎ IsIssued mac old call e packet new.controlling
    all_issued posted sends packet has = elim (issues posted) [
      | inl none ↦ inl (sends_has call e old.packets new.packets none sends packet has)
      | inr (sent, put, issued) ↦ elim (Has-push old.packets sent packet (subst (λ (ps : List Packet). Has ps packet) put has)) [
        | inl was ↦ inl was
        | inr now ↦ inr (subst (λ (p : Packet). IsIssued mac old call e p new.controlling) now issued)
      ]
    ]

    emitted_issued : Posted mac answers old new s t e call → (issued : Issued) → e.emitted.issued ≡ Some issued
        → (packet : Packet) × Has new.packets packet × (via_out packet ≡ issued.path) × IsIssued mac old call e packet new.controlling
    emitted_issued posted issued is = elim (issues posted) [
      | inl none ↦ absurd (let no : None ≡ Some issued = sym none ∙ is in cc)
      | inr (sent, put, issues_it) ↦ (
        sent,
        subst (λ (ps : List Packet). Has ps sent) (sym put) (Has-end old.packets sent),
        ap (λ (i : Issued). i.path) (some_is _ issued (sym issues_it.2 ∙ is)),
        issues_it,
      )
    ]

  pub trade_theorem : TradeTheorem {H = H} {P = P} mac answers
  trade_theorem old new s t call e sound given h =
      let k = path_effect mac answers old new s t e call sound h in
      let f = framed mac answers old new s t e call h in record {
        tie_breaker = f.tie_breaker;
        local_creds = f.local_creds;
        rejected = λ r. ((rejection_keeps mac answers old new s t call e h r).0, rejects mac answers old new s t e call h r);
        not_accepted = leaves_unaccepted mac answers old new s t e call h;
        packets = all_issued old new s t e call k.2 f.sends;
        issued = emitted_issued old new s t e call k.2;
        sends = f.sends;
        waits = f.waits;
        role = f.role;
        settled = f.settled;
        keeps = f.keeps;
        expired = f.expired;
      }
