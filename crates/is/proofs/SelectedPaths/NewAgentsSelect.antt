-- Both of two new agents select a path. The preconditions that mutants/specifications changes are read by tactics.
use Rattle.is.specs.Connects.{ByDelivery, ByRounds, ChecksAreDelivered, ComesToCheck, IsDelivered, rounds_needed, StartsToSelect, InRounds}
use Rattle.is.specs.Connects.{Already, SelectsByOpening, BothSelect}
use Rattle.is.proofs.Common.{[], ◌++◌, ◌∙◌, ◌∷◌, ◌≡◌, ◌⊎◌, AcceptedNominationsAreSelected, ap, append_assoc, AreNominatedOn, Asks}
use Rattle.is.proofs.Common.{AsksInRounds, at, CandidateRecord, CarriedAsk, CarriedResolve, CarriedSucceedLater, ExecutionsCheckFromDue}
use Rattle.is.proofs.Common.{ExecutionsReachFromDue, ExecutionsReachServed, ExecutionsReachUnanswered, false, FreshIsSound, HandedCheck}
use Rattle.is.proofs.Common.{Has, inl, inr, IsAnsweredInRounds, IsAnsweredInTime, IsAskedOver, IsControlled, IsControlling}
use Rattle.is.proofs.Common.{IsControllingSegment, IsExchangedOver, IsPlainTimeout, List, LoggedEvent, MayEndIn, MayEndInRounds, Occurrence}
use Rattle.is.proofs.Common.{occurrences_in, other, Path, path_of, PathTheorem, refl, reversed, RoleTheorem, RoundChecks, RoundIsAnswered}
use Rattle.is.proofs.Common.{SelectsTop, ServedExecutionsReach, Side, SideRound, Streams, subst, Success, SuccessesSelect, sym, true}
use Rattle.is.proofs.Common.{WorldRecord, ℕ}
use Rattle.is.proofs.SelectedPaths.BothSelectInRounds.{both_connect_by, rounds_asked}
use Rattle.is.proofs.ExternalViews.ViewsOfExecutions.{Has-front, Has-rear}
use Rattle.is.proofs.RolesAndChains.RolesBecomeOpposite.{roles_stay}
use Rattle.is.proofs.TwoAgentEvents.EventsOfSegments.{sent_in}
use Rattle.is.proofs.TwoAgentEvents.OwnExecutions.{twice}
use Rattle.is.proofs.SelectedPaths.SelectedInRounds.{rounds_select}

module _ {H P : Type 0} (mac : H → List ℕ → List ℕ → List ℕ) (answers : P → CandidateRecord → ℕ → ℕ → Type 0) where
  -- ---- what the network delivers

  asks_in : (side : Side) (path its : Path) (rounds : List (SideRound H P)) (part : List (Occurrence H P)) → ChecksAreDelivered mac answers (other side) its (reversed path) rounds part
      → ((x : Occurrence H P) → Has part x → AreNominatedOn (at (other side) x.following) its) → (r : SideRound H P) → Has rounds r → Asks mac side path its part r
  asks_in side path its rounds part delivers nominated r has = record {
    asked = λ checks. over (delivers r has (inl checks)).0;
    early = λ x there success. over (delivers r has (inr (x, there, success))).0;
  } where
    over : HandedCheck mac (other side) its (reversed path) part → IsAskedOver mac side path part
    over k = (its, k, search (nominated k.sent (sent_in mac answers (other side) its (reversed path) part k)))

  answered_in : (side : Side) (path over : Path) (rounds : List (SideRound H P)) (part : List (Occurrence H P)) → ChecksAreDelivered mac answers side path over rounds part
      → (r : SideRound H P) → Has rounds r → RoundIsAnswered mac side path part r
  answered_in side path over rounds part delivers r has checks =
      let d = delivers r has (inl checks) in (over, d.0, λ reply sends. (d.1 Success reply sends).returned)

  in_time : (side : Side) (path over : Path) (rounds : List (SideRound H P)) (part : List (Occurrence H P)) → ChecksAreDelivered mac answers side path over rounds part
      → (r : SideRound H P) → Has rounds r → RoundChecks path r → IsAnsweredInTime mac answers side path part
  in_time side path over rounds part delivers r has checks =
      let d = delivers r has (inl checks) in (over, d.0, λ reply sends. search (d.1 Success reply sends))

  -- ---- both

  pub both_select : PathTheorem {H = H} {P = P} mac answers → RoleTheorem {H = H} {P = P} mac answers → FreshIsSound H P → CarriedResolve {H = H} {P = P} mac answers
      → CarriedAsk {H = H} {P = P} mac answers → CarriedSucceedLater {H = H} {P = P} mac answers → AcceptedNominationsAreSelected {H = H} {P = P} mac answers → ExecutionsCheckFromDue {H = H} {P = P} mac answers
      → ExecutionsReachFromDue {H = H} {P = P} mac answers → ServedExecutionsReach {H = H} {P = P} mac answers → ExecutionsReachUnanswered {H = H} {P = P} mac answers → ExecutionsReachServed {H = H} {P = P} mac answers → SuccessesSelect {H = H} {P = P} mac answers → (first : WorldRecord H P) (s : Streams) (log : List (LoggedEvent P)) → BothSelect mac answers first s log
  both_select paths roles new_sound resolves asks succeeds announce checks reach served unanswered serves selects first s log last t run meeting opening part rest timeout side path its is = (opened is.starts, connected) where
    following : List (Occurrence H P)
    following = opening ++ ((part ++ timeout ∷ []) ++ rest)

    role : (x : Occurrence H P) → Has following x
        → (((at side x.before).controlling ≡ false) × ((at (other side) x.before).controlling ≡ true))
        × (((at side x.following).controlling ≡ false) × ((at (other side) x.following).controlling ≡ true))
    role = roles_stay mac answers paths roles new_sound resolves first s log is.greater side last t run meeting following is.fair is.split (search is.agree) (search is.controlled)

    in_opening : (x : Occurrence H P) → Has opening x → Has following x
    in_opening x has = Has-front opening ((part ++ timeout ∷ []) ++ rest) x has

    steers : IsControlling (other side) opening
    steers x has = let r = role x (in_opening x has) in (r.1.1, subst (λ z. (at z x.following).controlling ≡ false) (sym (twice side)) r.1.0)

    obeys : IsControlled side (part ++ timeout ∷ [])
    obeys x has = (role x (Has-rear opening ((part ++ timeout ∷ []) ++ rest) x (Has-front (part ++ timeout ∷ []) rest x has))).0

    all : List (Occurrence H P)
    all = occurrences_in mac answers first s 0 log last t run

    split_part : all ≡ (meeting ++ opening) ++ ((part ++ timeout ∷ []) ++ rest)
    split_part = is.split ∙ sym (append_assoc meeting opening ((part ++ timeout ∷ []) ++ rest))

    plain : IsPlainTimeout side timeout
    plain = record { now = is.plain.now; event = is.plain.event; done = is.plain.done; serves_none = search is.plain.serves_none }

    opened : (o : StartsToSelect mac answers (other side) its (reversed path) meeting opening) → SelectsByOpening mac answers (other side) its (reversed path) meeting opening o
    opened (Already selected) = search selected
    opened (InRounds opens) =
        elim (rounds_select mac answers paths new_sound succeeds checks unanswered serves selects first s log last t run meeting opens.more ((part ++ timeout ∷ []) ++ rest) (other side)
        opens.first opens.later opens.pair opens.by begins
        (λ r has sent. subst (λ xs. IsAnsweredInTime mac answers (other side) (path_of (at (other side) opens.first.timeout.before) opens.pair) xs) opens.split
        (subst (λ via. IsAnsweredInTime mac answers (other side) via opening) (sym opens.on)
        (in_time (other side) its (reversed path) (opens.first ∷ opens.later) opening opens.delivers r has (subst (λ via. RoundChecks via r) opens.on sent))))) [
          | inl (x, has, said) ↦ inl (x, subst (λ xs. Has xs x) (sym opens.split) has, search said)
          | inr ended ↦ inr (subst (λ via. MayEndInRounds answers (other side) via (opens.first ∷ opens.later)) opens.on ended)
        ] where
          begins : IsControllingSegment first all meeting opens.more ((part ++ timeout ∷ []) ++ rest) (other side) opens.first opens.later opens.pair opens.by
          begins = record {
            new = is.fair.start.new;
            split = is.split ∙ ap (λ xs. meeting ++ (xs ++ ((part ++ timeout ∷ []) ++ rest))) opens.split;
            role = (role opens.first.timeout (in_opening opens.first.timeout (subst (λ xs. Has xs opens.first.timeout) (sym opens.split) (inl refl)))).0.1;
            controlling = subst (λ xs. IsControlling (other side) xs) opens.split steers;
            waits = search opens.waits;
            unanswered = search opens.unanswered;
            kept = search opens.kept;
            enough = search opens.enough;
          }

    whole : List (Occurrence H P)
    whole = meeting ++ (opening ++ (part ++ timeout ∷ []))

    asking : ComesToCheck mac answers (other side) its (reversed path) part timeout.before → AsksInRounds mac side path its part timeout.before ⊎ IsAskedOver mac side path part
    asking (ByRounds goes) = inl (record { rounds = goes.rounds; asks = asks_in side path its (goes.rounds.first ∷ goes.rounds.later) part goes.delivers is.nominated })
    asking (ByDelivery comes) =
        let delivered : IsDelivered mac answers (other side) its (reversed path) part = search (comes) in
        inr (its, delivered.0, search (is.nominated delivered.0.sent (sent_in mac answers (other side) its (reversed path) part delivered.0)))

    answering : ComesToCheck mac answers side path (reversed its) part timeout.before → IsAnsweredInRounds mac side path part timeout.before ⊎ IsExchangedOver mac side path part
    answering (ByRounds goes) = inl (record { rounds = goes.rounds; answered = answered_in side path (reversed its) (goes.rounds.first ∷ goes.rounds.later) part goes.delivers })
    answering (ByDelivery comes) =
        let delivered : IsDelivered mac answers side path (reversed its) part = search (comes) in inr (reversed its, delivered.0, λ reply sends. search ((delivered.1 Success reply sends).returned))

    needed : (leads : ComesToCheck mac answers (other side) its (reversed path) part timeout.before) → MayEndInRounds answers (other side) its (rounds_asked mac answers (asking leads))
        → MayEndInRounds answers (other side) its (rounds_needed leads)
    needed (ByRounds goes) ended = ended
    needed (ByDelivery delivered) ended = ended

    connected : SelectsTop mac answers side whole timeout
        ⊎ (MayEndIn answers side path (part ++ timeout ∷ []) ⊎ MayEndInRounds answers (other side) its (rounds_needed is.leads))
    connected =
        elim (both_connect_by mac answers paths new_sound asks succeeds announce reach served first s log last t run (meeting ++ opening) part rest timeout side path its
        (record { new = is.fair.start.new; split = split_part; controlled = obeys; plain = plain; only_pair = search is.only_pair })
        (asking is.leads) (answering is.follows)) [
          | inl best ↦ inl (subst (λ xs. SelectsTop mac answers side xs timeout) (append_assoc meeting opening (part ++ timeout ∷ [])) best)
          | inr (inl ended) ↦ inr (inl ended)
          | inr (inr ended) ↦ inr (inr (needed is.leads ended))
        ]
