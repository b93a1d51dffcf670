-- A `handle_timeout` call that sends a check stores it.
use Rattle.is_stun.specs.declared.header.Class.TheVariants as class
use Rattle.is_rules.specs.declared.emitted.Issued as code
use Rattle.is_theorems.proofs.Common.{[], ◌++◌, ◌+◌, ◌-◌, ◌<◌, ◌==◌, ◌∙◌, ◌∷◌, ◌≡◌, ◌≤◌, Absent, AddsUnknownSender, AgentRecord, all_scheduled}
use Rattle.is_theorems.proofs.Common.{ap, arith, at_request, Barred, Bool, bytes_eq, bytes_eq-Decides, candidate_at, CandidateRecord}
use Rattle.is_theorems.proofs.Common.{change_at, change_pair, Check, check_message, check_of, check_sent, ChecksAreKept, ChecksPair}
use Rattle.is_theorems.proofs.Common.{ChecksTop, Class, Conflict, conflict_of, CountsAndServes, drop, drop-append-le, Drops, Emitted, Entry}
use Rattle.is_theorems.proofs.Common.{eq-eqb, Err, false, FindsOrAddsPair, first_taken, formed, Full, HandleTimeout, Has, has_id, IceCreds}
use Rattle.is_theorems.proofs.Common.{IceError, if◌then◌else◌, in_turn, inl, inr, ipv4_octets, ipv6_segments, is_for_other_peer, is_kept}
use Rattle.is_theorems.proofs.Common.{is_misled, is_reverse, IsNextToCheck, IsPut, issued_as, issued_only, keeps_check_on, Known, length}
use Rattle.is_theorems.proofs.Common.{length-append, List, list_any, local_place, MaintainsPairs, MatchOption, MayCheck, nominates_at_once}
use Rattle.is_theorems.proofs.Common.{None, Ok, Option, PairRecord, Path, path_of, RecordsAndResponds, refl, RemotePlace, renominated}
use Rattle.is_theorems.proofs.Common.{request_at, request_counted, RequestRecord, ResolvesRoleConflict, ResolvesRoleConflictBy, Result}
use Rattle.is_theorems.proofs.Common.{reversed, same_address, Send487, Serves, ServesQueued, SocketAddr, Some, Step, Stream, subst}
use Rattle.is_theorems.proofs.Common.{switched, SwitchRole, sym, timeout_begun, TimesOut, true, Unknown, V4, v4_ip, v4_port, V6}
use Rattle.is_theorems.proofs.Common.{v6_flowinfo, v6_ip, v6_port, v6_scope_id, Vacant, via_out, with_pair, with_sender, with_sender_at}
use Rattle.is_theorems.proofs.Common.{written, ℕ}
use Rattle.is_theorems.proofs.CallEffects.PathAndTradeEffects.{path_theorem}
use Rattle.is_theorems.proofs.RuleEffects.UnchangedSettings.{either}
use Rattle.is_theorems.proofs.BasicLemmas.UsernamesAndFirstMatches.{any_has}
use Rattle.is_theorems.proofs.BasicLemmas.PairsInTurn.{next-has, sent_at, sent-pairs}
use Rattle.is_theorems.proofs.CallEffects.ServedRequests.{Has-mapped}
use Rattle.is_theorems.proofs.RuleEffects.SelectedPaths.{some_is}

pub bytes_same : (a : List ℕ) → bytes_eq a a ≡ true
bytes_same a = (bytes_eq-Decides a a).1 refl

pub number_same : (n : ℕ) → (n == n) ≡ true
number_same n = eq-eqb n n refl

-- an address equals itself
pub same_self : (a : SocketAddr) → same_address a a ≡ true
same_self (V4 a) = rw (bytes_same (ipv4_octets (v4_ip a)), number_same (v4_port a)) refl
same_self (V6 a) = rw (bytes_same (ipv6_segments (v6_ip a)), number_same (v6_port a), number_same (v6_flowinfo a), number_same (v6_scope_id a)) refl

pub back_again : (via : Path) → is_reverse (reversed via) via ≡ true
back_again via = rw (same_self via.destination, same_self via.source) refl

pub Has-rear : (cs ds : List Check) (c : Check) → Has ds c → Has (cs ++ ds) c
Has-rear [] ds c h = h
Has-rear (x ∷ cs) ds c h = inr (Has-rear cs ds c h)

among_last : (n : ℕ) (cs : List Check) (c : Check) → 0 < n → Has (drop (length (cs ++ c ∷ []) - n) (cs ++ c ∷ [])) c
among_last n cs c some =
    let long : length (cs ++ c ∷ []) ≡ length cs + 1 = length-append cs (c ∷ []) in
    let k = length (cs ++ c ∷ []) - n in
    let within : k ≤ length cs = omega (arith, long, some) in
    subst (λ l. Has l c) (sym (drop-append-le k cs (c ∷ []) within)) (Has-rear (drop k cs) (c ∷ []) c (inl refl))

emitted_as : (via path : Path) (i j : List ℕ) → Some (issued_as via class.Request i) ≡ Some (issued_as path class.Request j) → (via ≡ path) × (i ≡ j)
emitted_as via path i j h =
    let same : issued_as via class.Request i ≡ issued_as path class.Request j = some_is _ _ h in
    (ap (λ (x : code.Issued). x.path) same, ap (λ (x : code.Issued). x.id.0) same)

-- the pair that was checked stores the check
keeps_now : (now : ℕ) (kept : ℕ) (p : PairRecord) (id : List ℕ) (controlling : Bool) → 0 < kept
    → is_kept id (drop (length (p.checks ++ check_of now controlling id p ∷ []) - kept) (p.checks ++ check_of now controlling id p ∷ [])) ≡ true
keeps_now now kept p id controlling some =
    any_has (has_id id) (drop (length (p.checks ++ check_of now controlling id p ∷ []) - kept) (p.checks ++ check_of now controlling id p ∷ []))
    (check_of now controlling id p) (among_last kept p.checks (check_of now controlling id p) some) (bytes_same id)

module _ {H P : Type 0} (mac : H → List ℕ → List ℕ → List ℕ) (answers : P → CandidateRecord → ℕ → ℕ → Type 0) where
  -- ---- serving issues no check

  module _ (q : RequestRecord) where
    abbrev NoCheck : Emitted → Type 0
    NoCheck emitted = (via : Path) (id : List ℕ) → emitted.issued ≡ Some (issued_as via class.Request id) → ⊥

    dropped : (s new : AgentRecord H P) (emitted : Emitted) → Drops s emitted new → NoCheck emitted
    dropped s new emitted (is, kept) via id out = let no : None ≡ Some (issued_as via class.Request id) = sym (ap (λ (t : Emitted). t.issued) is) ∙ out in cc

    other_class : (c : Class) (path via : Path) (i id : List ℕ) → Some (issued_as path c i) ≡ Some (issued_as via class.Request id) → c ≡ class.Request
    other_class c path via i id h = ap (λ (x : code.Issued). x.class) (some_is _ _ h)

    at_pair : (l r number : ℕ) (s new : AgentRecord H P) (emitted : Emitted) → RecordsAndResponds mac q l r number s emitted new → NoCheck emitted
    at_pair l r number s new emitted (path, mid, nominates, (values, is, made)) via id out =
        let wrong : class.Success ≡ class.Request = other_class _ _ via _ id (sym (ap (λ (t : Emitted). t.issued) is) ∙ out) in cc

    takes_at : (l r : ℕ) (number : Option ℕ) (s new : AgentRecord H P) (emitted : Emitted) → FindsOrAddsPair mac q l r number s emitted new → NoCheck emitted
    takes_at l r (Some number) s new emitted h = at_pair l r number s new emitted h
    takes_at l r None s new emitted h = either (candidate_at s.local l).discarded h (λ _ k. dropped s new emitted k) (λ _ k. at_pair l r s.next_number (with_pair (formed s l r) s) new emitted k.1)

    joins_at : (l : ℕ) (place : RemotePlace) (s new : AgentRecord H P) (emitted : Emitted) → AddsUnknownSender mac q l place s emitted new → NoCheck emitted
    joins_at l (Known r) s new emitted (number, between, h) = takes_at l r number s new emitted h
    joins_at l Barred s new emitted h = dropped s new emitted h
    joins_at l Unknown s new emitted (number, between, h) = takes_at l _ number (with_sender q s) new emitted h
    joins_at l (Vacant r) s new emitted (number, between, h) = takes_at l r number (with_sender_at r q s) new emitted h
    joins_at l Full s new emitted h = dropped s new emitted h

    admits : (l : ℕ) (s new : AgentRecord H P) (emitted : Emitted) → CountsAndServes mac q l s emitted new → NoCheck emitted
    admits l s new emitted h = either (is_misled s.controlling q) h (λ _ k. dropped s new emitted k) (λ _ k. joins_at l k.0 (request_counted s) new emitted k.2)

    conflict_sent : (emitted : Emitted) → emitted ≡ issued_only (reversed q.path) class.Failure q.id → NoCheck emitted
    conflict_sent emitted is via id out =
        let wrong : class.Failure ≡ class.Request = other_class class.Failure (reversed q.path) via q.id id (sym (ap (λ (t : Emitted). t.issued) is) ∙ out) in cc

    resolves_by : (conflict : Conflict) (l : ℕ) (s new : AgentRecord H P) (emitted : Emitted) → ResolvesRoleConflictBy mac conflict q l s emitted new → NoCheck emitted
    resolves_by Absent l s new emitted h = admits l s new emitted h
    resolves_by Send487 l s new emitted (values, is, made) = conflict_sent emitted is
    resolves_by SwitchRole l s new emitted h = admits l (switched s) new emitted h

    here : (place : Option ℕ) (s new : AgentRecord H P) (emitted : Emitted) → MatchOption place (Drops s emitted new) (λ l. ResolvesRoleConflict mac q l s emitted new) → NoCheck emitted
    here None s new emitted h = dropped s new emitted h
    here (Some l) s new emitted h = resolves_by (conflict_of s q) l s new emitted h

    serves : (s new : AgentRecord H P) (emitted : Emitted) → Serves mac q s emitted new → NoCheck emitted
    serves s new emitted h = either (is_for_other_peer s q) (in_turn mac q s new emitted h) (λ _ k. dropped s new emitted k) (λ _ k. here (local_place s.local q) s new emitted k)

  -- ---- the check that is sent

  keeps_sent : (begins : Bool) (now : ℕ) (old : AgentRecord H P) (p : PairRecord) (own : List ℕ) → 0 < old.timing.max_retransmits
      → keeps_check_on old (reversed (path_of old p)) own (sent_at begins now old.timing old.controlling own p) ≡ true
  keeps_sent true now old p own some =
      rw (keeps_now now old.timing.max_retransmits (renominated p) own old.controlling some, back_again (path_of old p)) refl
  keeps_sent false now old p own some = rw (keeps_now now old.timing.max_retransmits p own old.controlling some, back_again (path_of old p)) refl

  checked_pair : (now : ℕ) (remote : IceCreds) (p : PairRecord) (old sent : AgentRecord H P) (s t : Stream) (issued : Option code.Issued) (via : Path) (id : List ℕ)
      → Has old.pairs p → 0 < sent.timing.max_retransmits → issued ≡ Some (issued_as via class.Request id)
      → ChecksPair mac now remote p old s issued sent t → list_any (keeps_check_on sent (reversed via) id) sent.pairs ≡ true
  checked_pair now remote p old sent s t issued via id has some out (own, drawn, values, is, made) =
      let same = emitted_as via (path_of old p) id own (sym out ∙ is) in
      let begins : Bool = nominates_at_once old in
      let change : PairRecord → PairRecord = sent_at begins now old.timing old.controlling own in
      let after : PairRecord = change p in
      let some_old : 0 < old.timing.max_retransmits = subst (λ (a : AgentRecord H P). 0 < a.timing.max_retransmits) made some in
      let own_change : change_at p.number change p ≡ after =
      ap (λ b. if b then after else p) (number_same p.number) in
      let persists : Has (change_pair p.number change old.pairs) after =
      subst (λ (x : PairRecord). Has (change_pair p.number change old.pairs) x) own_change (Has-mapped (change_at p.number change) old.pairs p has) in
      let passes : keeps_check_on old (reversed (path_of old p)) own after ≡ true = keeps_sent begins now old p own some_old in
      let there : list_any (keeps_check_on (check_sent mac now remote p own old) (reversed (path_of old p)) own) (check_sent mac now remote p own old).pairs ≡ true =
      subst (λ ps. list_any (keeps_check_on old (reversed (path_of old p)) own) ps ≡ true) (sym (sent-pairs begins p.number now old.timing old.controlling own old.pairs))
      (any_has (keeps_check_on old (reversed (path_of old p)) own) (change_pair p.number change old.pairs) after persists passes) in
      subst (λ (a : AgentRecord H P). list_any (keeps_check_on a (reversed via) id) a.pairs ≡ true) (sym made)
      (subst (λ w. list_any (keeps_check_on (check_sent mac now remote p own old) (reversed w) id) (check_sent mac now remote p own old).pairs ≡ true) (sym same.0)
      (subst (λ i. list_any (keeps_check_on (check_sent mac now remote p own old) (reversed (path_of old p)) i) (check_sent mac now remote p own old).pairs ≡ true) (sym same.1) there))

  none_out : {A : Type 0} (issued : Option code.Issued) (via : Path) (id : List ℕ) → issued ≡ None → issued ≡ Some (issued_as via class.Request id) → A
  none_out issued via id none out = absurd (let no : None ≡ Some (issued_as via class.Request id) = sym none ∙ out in cc)

  may_check : (now : ℕ) (remote : Option IceCreds) (old sent : AgentRecord H P) (s t : Stream) (issued : Option code.Issued) (via : Path) (id : List ℕ)
      → 0 < sent.timing.max_retransmits → issued ≡ Some (issued_as via class.Request id)
      → MayCheck mac now remote old s issued sent t → list_any (keeps_check_on sent (reversed via) id) sent.pairs ≡ true
  may_check now None old sent s t issued via id some out h = none_out issued via id h.0 out
  may_check now (Some remote) old sent s t issued via id some out h = either old.lite h
      (λ _ k. none_out issued via id k.0 out)
      (λ _ k. next k.0 k.1 k.2) where
        next : (top : Option PairRecord) → IsNextToCheck now (all_scheduled now old) top → ChecksTop mac now remote top (all_scheduled now old) s issued sent t
            → list_any (keeps_check_on sent (reversed via) id) sent.pairs ≡ true
        next None chosen h = none_out issued via id h.0 out
        next (Some p) chosen h = checked_pair now remote p (all_scheduled now old) sent s t issued via id (next-has now (all_scheduled now old) p chosen) some out h

  pub checks-are-kept : ChecksAreKept mac answers
  checks-are-kept a sent s t now check id e sound step sends =
      let some : 0 < sent.timing.max_retransmits = (path_theorem mac answers a sent s t (HandleTimeout now) e sound tt step).1.checks in
      by some step.0 step.1 (ap (λ (x : Entry). x.emitted) step.2) step.3 where
        Kept : Type 0
        Kept = list_any (keeps_check_on sent (reversed (via_out check)) id) sent.pairs ≡ true

        timeout : (some : 0 < sent.timing.max_retransmits) (emitted : Emitted) → e.emitted ≡ emitted → (o : Option RequestRecord)
            → MatchOption o (MaintainsPairs mac now (timeout_begun now a) s emitted sent t) (λ q. ServesQueued mac q (at_request now (timeout_begun now a)) s emitted sent t) → Kept
        timeout some emitted is None (first, second, issued, named, kept, nominating, giving, checking, emitted_is) =
            may_check now kept.remote_creds kept sent s t issued (via_out check) id some
            (sym (ap (λ (x : Emitted). x.issued) emitted_is) ∙ sym (ap (λ (x : Emitted). x.issued) is) ∙ sends.emitted) checking
        timeout some emitted is (Some q) (serving, drawn) =
            absurd (serves q (first_taken (at_request now (timeout_begun now a))) sent emitted serving (via_out check) id (sym (ap (λ (x : Emitted). x.issued) is) ∙ sends.emitted))

        by : (some : 0 < sent.timing.max_retransmits) (r : Result (Unit {0}) IceError) (emitted : Emitted) → e.emitted ≡ emitted → TimesOut mac now a s r emitted sent t → Kept
        by some (Ok done) emitted is h = timeout some emitted is (request_at now a) h
        by some (Err error) emitted is h =
            none_out e.emitted.issued (via_out check) id (ap (λ (x : Emitted). x.issued) (is ∙ h.1)) sends.emitted

  -- its contents
  pub record Checks (now : ℕ) (via : Path) (id : List ℕ) (sent : AgentRecord H P) : Type 0 where
    pub old : AgentRecord H P
    pub remote : IceCreds
    pub pair : PairRecord
    pub has : Has old.pairs pair
    pub known : old.remote_creds ≡ Some remote
    pub path : path_of old pair ≡ via
    pub put : IsPut (written (mac old.provider) (Some remote.pass) (check_message old remote pair id)) (check_message old remote pair id)
    pub made : sent ≡ check_sent mac now remote pair id old

  pub checks-as : (a sent : AgentRecord H P) (s t : Stream) (now : ℕ) (via : Path) (id : List ℕ) (e : Entry) → e.emitted.issued ≡ Some (issued_as via class.Request id)
      → Step mac answers a s (HandleTimeout now) e sent t → Checks now via id sent
  checks-as a sent s t now via id e out step = by step.0 step.1 (ap (λ (x : Entry). x.emitted) step.2) step.3 where
    pair_checked : (remote : IceCreds) (p : PairRecord) (old : AgentRecord H P) (issued : Option code.Issued) → Has old.pairs p → old.remote_creds ≡ Some remote
        → issued ≡ Some (issued_as via class.Request id) → ChecksPair mac now remote p old s issued sent t → Checks now via id sent
    pair_checked remote p old issued has known emitted (own, drawn, put, is, made) =
        let same = emitted_as via (path_of old p) id own (sym emitted ∙ is) in
        record {
          old = old;
          remote = remote;
          pair = p;
          has = has;
          known = known;
          path = sym same.0;
          put = subst (λ i. IsPut (written (mac old.provider) (Some remote.pass) (check_message old remote p i)) (check_message old remote p i)) (sym same.1) put;
          made = made ∙ ap (λ i. check_sent mac now remote p i old) (sym same.1);
        }

    checked : (remote : Option IceCreds) (old : AgentRecord H P) (issued : Option code.Issued) → old.remote_creds ≡ remote → issued ≡ Some (issued_as via class.Request id)
        → MayCheck mac now remote old s issued sent t → Checks now via id sent
    checked None old issued known emitted h = none_out issued via id h.0 emitted
    checked (Some remote) old issued known emitted h = either old.lite h
        (λ _ k. none_out issued via id k.0 emitted)
        (λ _ k. next k.0 k.1 k.2) where
          next : (top : Option PairRecord) → IsNextToCheck now (all_scheduled now old) top → ChecksTop mac now remote top (all_scheduled now old) s issued sent t → Checks now via id sent
          next None chosen k = none_out issued via id k.0 emitted
          next (Some p) chosen k = pair_checked remote p (all_scheduled now old) issued (next-has now (all_scheduled now old) p chosen) known emitted k

    timeout : (emitted : Emitted) → e.emitted ≡ emitted → (o : Option RequestRecord)
        → MatchOption o (MaintainsPairs mac now (timeout_begun now a) s emitted sent t) (λ q. ServesQueued mac q (at_request now (timeout_begun now a)) s emitted sent t) → Checks now via id sent
    timeout emitted is None (first, second, issued, named, kept, nominating, giving, checking, emitted_is) =
        checked kept.remote_creds kept issued refl (sym (ap (λ (x : Emitted). x.issued) emitted_is) ∙ sym (ap (λ (x : Emitted). x.issued) is) ∙ out) checking
    timeout emitted is (Some q) (serving, drawn) =
        absurd (serves q (first_taken (at_request now (timeout_begun now a))) sent emitted serving via id (sym (ap (λ (x : Emitted). x.issued) is) ∙ out))

    by : (r : Result (Unit {0}) IceError) (emitted : Emitted) → e.emitted ≡ emitted → TimesOut mac now a s r emitted sent t → Checks now via id sent
    by (Ok done) emitted is h = timeout emitted is (request_at now a) h
    by (Err error) emitted is h = none_out e.emitted.issued via id (ap (λ (x : Emitted). x.issued) (is ∙ h.1)) out
