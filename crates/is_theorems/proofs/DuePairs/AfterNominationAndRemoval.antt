-- What nomination and removal leave of a list of pairs: fewer of them, each due as it was. As a silent path is left, pairs may become due
-- sooner, but only after the call.
use Rattle.is_pair.specs.Due as due
use Rattle.is_theorems.proofs.Common.{[], ◌&&◌, ◌*◌, ◌+◌, ◌<◌, ◌||◌, ◌∙◌, ◌∷◌, ◌≡◌, ◌≤◌, ◌⊎◌, AgentRecord, ap, arith, Bool}
use Rattle.is_theorems.proofs.Common.{CandidateRecord, change_at, Check, ChecksInTurn, Consent, consent_of, expired_gone, false, filter}
use Rattle.is_theorems.proofs.Common.{followed, gives_way, Has, hastened, IceCreds, if◌then◌else◌, inl, inr, is_eligible, is_expired}
use Rattle.is_theorems.proofs.Common.{is_modern, is_named_by, is_nominated, is_numbered, is_overruled, is_silent_enough, is_some, is_valid}
use Rattle.is_theorems.proofs.Common.{IsGone, IsLasting, IsSound, later, length, List, list_any, map, may_replace, min, nat_le, nat_lt}
use Rattle.is_theorems.proofs.Common.{nat_tests, no-more, nominated, nominated_by_self, Nominates, None, not, Option, option_map}
use Rattle.is_theorems.proofs.Common.{option_map_or, PairRecord, Path, path_left, refl, remains, RemovesExpired, RequestRecord, SECOND}
use Rattle.is_theorems.proofs.Common.{selection_of, silence_of, silent_gone, Some, StunTiming, subst, sym, thinner, true, unanswered_count}
use Rattle.is_theorems.proofs.Common.{unwrap_or, ℕ}
use Rattle.is_theorems.proofs.RuleEffects.UnchangedSettings.{either}
use Rattle.is_theorems.proofs.RuleEffects.ChangedPairs.{Has-map}
use Rattle.is_theorems.proofs.RuleEffects.EarlierAndNewPairs.{Has-filter}
use Rattle.is_theorems.proofs.CallEffects.ServedRequests.{Has-mapped}
use Rattle.is_theorems.proofs.RuleEffects.NominatedPairs.{SelectsPath, selects_path}
use Rattle.is_theorems.proofs.RuleEffects.HastenedPairs.{due_next, Hastens}
use Rattle.is_theorems.proofs.RuleEffects.UnhastenedPairs.{fifth-off}

-- ---- lists

-- a number has one pair
abbrev pub Distinct : List PairRecord → Type 0
Distinct ps = (p q : PairRecord) → Has ps p → Has ps q → p.number ≡ q.number → p ≡ q

-- q is the pair p, due as it was
pub record Alike (p q : PairRecord) : Type 0 where
  pub number : q.number ≡ p.number
  pub local : q.local ≡ p.local
  pub remote : q.remote ≡ p.remote
  pub due : q.due ≡ p.due
  pub checks : q.checks ≡ p.checks
  pub valid : is_valid q ≡ is_valid p
  pub consented : q.consented ≡ p.consented
  pub heard : q.last_request ≡ p.last_request

-- the pending transactions, and when the last check that got a response was sent
abbrev pub Kept : Type 0
Kept = List Check × Option ℕ

abbrev pub kept_of : PairRecord → Kept
kept_of p = (p.checks, p.consented)

pub alike-kept : (p q : PairRecord) → Alike p q → kept_of q ≡ kept_of p
alike-kept p q a = ap (λ cs. let k : Kept = (cs, q.consented) in k) a.checks ∙ ap (λ had. let k : Kept = (p.checks, had) in k) a.consented

alike-same : (p : PairRecord) → Alike p p
alike-same p = record { number = refl; local = refl; remote = refl; due = refl; checks = refl; valid = refl; consented = refl; heard = refl }

-- its due time, if it is fixed, is at most this time
abbrev pub is_fixed_by : ℕ → PairRecord → Bool
is_fixed_by by p = nat_le (unwrap_or p.due 0) by

-- q is the pair p; it may be due sooner, but not before this time
pub record Akin (to : ℕ) (p q : PairRecord) : Type 0 where
  pub number : q.number ≡ p.number
  pub local : q.local ≡ p.local
  pub remote : q.remote ≡ p.remote
  pub fixed : is_some q.due ≡ is_some p.due
  pub sooner : unwrap_or q.due 0 ≤ unwrap_or p.due 0
  pub early : (by : ℕ) → by < to → is_fixed_by by q ≡ true → is_fixed_by by p ≡ true
  pub checks : q.checks ≡ p.checks
  pub valid : is_valid q ≡ is_valid p
  pub consented : q.consented ≡ p.consented
  pub heard : q.last_request ≡ p.last_request

pub alike-akin : (to : ℕ) (p q : PairRecord) → Alike p q → Akin to p q
alike-akin to p q a = record {
  number = a.number;
  local = a.local;
  remote = a.remote;
  fixed = ap is_some a.due;
  sooner = subst (λ o. unwrap_or o 0 ≤ unwrap_or p.due 0) (sym a.due) (omega arith);
  early = λ by late is. ap (λ o. nat_le (unwrap_or o 0) by) (sym a.due) ∙ is;
  checks = a.checks;
  valid = a.valid;
  consented = a.consented;
  heard = a.heard;
}

akin-same : (to : ℕ) (p : PairRecord) → Akin to p p
akin-same to p = alike-akin to p p (alike-same p)

akin-on : (to : ℕ) (p q r : PairRecord) → Akin to p q → Akin to q r → Akin to p r
akin-on to p q r a b = record {
  number = b.number ∙ a.number;
  local = b.local ∙ a.local;
  remote = b.remote ∙ a.remote;
  fixed = b.fixed ∙ a.fixed;
  sooner = (let first = a.sooner in let second = b.sooner in omega (arith, first, second));
  early = λ by late is. a.early by late (b.early by late is);
  checks = b.checks ∙ a.checks;
  valid = b.valid ∙ a.valid;
  consented = b.consented ∙ a.consented;
  heard = b.heard ∙ a.heard;
}

le-after : (by to d : ℕ) → by < to → nat_le (min to d) by ≡ true → nat_le d by ≡ true
le-after by to d late is = grind (arith, nat_tests, late, is)

-- a pair whose due time is moved up
moved-akin : (to : ℕ) (p : PairRecord) → Akin to p (due.moved_up to p)
moved-akin to p = record {
  number = refl;
  local = refl;
  remote = refl;
  fixed = fixed p.due;
  sooner = sooner p.due;
  early = λ by late. early by late p.due;
  checks = refl;
  valid = refl;
  consented = refl;
  heard = refl;
} where
  fixed : (o : Option ℕ) → is_some (option_map (min to) o) ≡ is_some o
  fixed None = refl
  fixed (Some d) = refl

  sooner : (o : Option ℕ) → unwrap_or (option_map (min to) o) 0 ≤ unwrap_or o 0
  sooner None = omega arith
  sooner (Some d) = omega arith

  early : (by : ℕ) → by < to → (o : Option ℕ) → nat_le (unwrap_or (option_map (min to) o) 0) by ≡ true → nat_le (unwrap_or o 0) by ≡ true
  early by late None is = is
  early by late (Some d) is = le-after by to d late is

pub hastened-akin : (test : PairRecord → Bool) (now : ℕ) (p : PairRecord) → Akin (due_next now) p (hastened test now p)
hastened-akin test now p = by (test p) where
  by : (b : Bool) → Akin (due_next now) p (if b then due.moved_up (due_next now) p else p)
  by true = moved-akin (due_next now) p
  by false = akin-same (due_next now) p

-- Fewer pairs, some of which may be due sooner: none of them before this time.
pub record Thinned (to : ℕ) (old new : List PairRecord) : Type 0 where
  pub distinct : Distinct old → Distinct new
  pub back : (q : PairRecord) → Has new q → (p : PairRecord) × Has old p × Akin to p q
  pub forth : Distinct old → (p : PairRecord) → Has old p → ((q : PairRecord) × Has new q × Akin to p q) ⊎ IsGone p.number new
  pub fewer : (by : ℕ) → by < to → length (filter (is_fixed_by by) new) ≤ length (filter (is_fixed_by by) old)

pub thinned-same : (to : ℕ) (ps : List PairRecord) → Thinned to ps ps
thinned-same to ps = record {
  distinct = λ d. d;
  back = λ q has. (q, has, akin-same to q);
  forth = λ d p has. inl (p, has, akin-same to p);
  fewer = λ by late. omega arith;
}

gone-on : (to : ℕ) (xs ys : List PairRecord) (n : ℕ) → Thinned to xs ys → IsGone n xs → IsGone n ys
gone-on to xs ys n t gone q has same = let o = t.back q has in gone o.0 o.1 (sym o.2.number ∙ same)

pub thinned-on : (to : ℕ) (xs ys zs : List PairRecord) → Thinned to xs ys → Thinned to ys zs → Thinned to xs zs
thinned-on to xs ys zs a b = record {
  distinct = λ d. b.distinct (a.distinct d);
  back = λ r has. (let o = b.back r has in let n = a.back o.0 o.1 in (n.0, n.1, akin-on to n.0 o.0 r n.2 o.2));
  forth = λ d p has. elim (a.forth d p has) [
    | inl k ↦ elim (b.forth (a.distinct d) k.0 k.1) [
      | inl l ↦ inl (l.0, l.1, akin-on to p k.0 l.0 k.2 l.2)
      | inr gone ↦ inr (λ q there. (let apart = gone q there in λ same. apart (same ∙ sym k.2.number)))
    ]
    | inr gone ↦ inr (gone-on to ys zs p.number b gone)
  ];
  fewer = λ by late. (let f = a.fewer by late in let g = b.fewer by late in omega (arith, f, g));
}

pub thinned-map : (to : ℕ) (f : PairRecord → PairRecord) (ps : List PairRecord) → ((p : PairRecord) → Akin to p (f p)) → Thinned to ps (map f ps)
thinned-map to f ps alike = record {
  distinct = λ d x y has_x has_y same.
      (let a = Has-map f ps x has_x in let b = Has-map f ps y has_y in
      let one : a.0 ≡ b.0 = d a.0 b.0 a.1 b.1 (sym (alike a.0).number ∙ (ap (λ (p : PairRecord). p.number) a.2 ∙ (same ∙ (ap (λ (p : PairRecord). p.number) (sym b.2) ∙ (alike b.0).number)))) in
      sym a.2 ∙ (ap f one ∙ b.2));
  back = λ q has. (let o = Has-map f ps q has in (o.0, o.1, subst (λ (x : PairRecord). Akin to o.0 x) o.2 (alike o.0)));
  forth = λ d p has. inl (f p, Has-mapped f ps p has, alike p);
  fewer = λ by late. no-more (is_fixed_by by) (is_fixed_by by) f ps (λ p has is. (alike p).early by late is);
}

pub Has-kept : {X : Type 0} (keep : X → Bool) (xs : List X) (x : X) → Has xs x → keep x ≡ true → Has (filter keep xs) x
Has-kept keep [] x has is = absurd has
Has-kept keep (y ∷ ys) x (inl e) is = first (keep y) (ap keep e ∙ is) where
  first : (b : Bool) → b ≡ true → Has (if b then y ∷ filter keep ys else filter keep ys) x
  first true h = inl e
  first false h = absurd (cc)
Has-kept keep (y ∷ ys) x (inr has) is = following (keep y) (Has-kept keep ys x has is) where
  following : (b : Bool) → Has (filter keep ys) x → Has (if b then y ∷ filter keep ys else filter keep ys) x
  following true h = inr h
  following false h = h

pub passed : {X : Type 0} (keep : X → Bool) (xs : List X) (x : X) → Has (filter keep xs) x → keep x ≡ true
passed keep [] x has = absurd has
passed keep (y ∷ ys) x has =
    elim (keep y) as (λ b. keep y ≡ b → Has (if b then y ∷ filter keep ys else filter keep ys) x → keep x ≡ true) [
      | true ↦ λ is h. (elim h [ inl e ↦ ap keep (sym e) ∙ is | inr k ↦ passed keep ys x k ])
      | false ↦ λ is h. passed keep ys x h
    ] refl has

pub thinned-filter : (to : ℕ) (keep : PairRecord → Bool) (ps : List PairRecord) → Thinned to ps (filter keep ps)
thinned-filter to keep ps = record {
  distinct = λ d x y has_x has_y same. d x y (Has-filter keep ps x has_x) (Has-filter keep ps y has_y) same;
  back = λ q has. (q, Has-filter keep ps q has, akin-same to q);
  forth = λ d p has. apart d p has (keep p) refl;
  fewer = λ by late. thinner (is_fixed_by by) keep ps;
} where
  apart : Distinct ps → (p : PairRecord) → Has ps p → (b : Bool) → keep p ≡ b → ((q : PairRecord) × Has (filter keep ps) q × Akin to p q) ⊎ IsGone p.number (filter keep ps)
  apart d p has true is = inl (p, Has-kept keep ps p has is, akin-same to p)
  apart d p has false is = inr (λ q there same.
      (let one : q ≡ p = d q p (Has-filter keep ps q there) has same in
      let no : true ≡ false = sym (passed keep ps q there) ∙ (ap keep one ∙ is) in cc))

-- ---- what stays of the agent

pub record Base : Type 0 where
  pub lite : Bool
  pub remote_creds : Option IceCreds
  pub timing : StunTiming
  pub local : List CandidateRecord
  pub remote : List CandidateRecord
  pub queue : List RequestRecord
  pub last_time : Option ℕ
  pub controlling : Bool
  pub next_number : ℕ
  pub renominates : Bool
  pub ahead_turn : Bool

self-alike : (c l : Bool) (p : PairRecord) → Alike p (nominated_by_self c l p)
self-alike c l p = apart (not (is_nominated p) && (c || l)) l where
  apart : (b l : Bool) → Alike p (if b then nominated l p else p)
  apart true true = record { number = refl; local = refl; remote = refl; due = refl; checks = refl; valid = refl; consented = refl; heard = refl }
  apart true false = record { number = refl; local = refl; remote = refl; due = refl; checks = refl; valid = refl; consented = refl; heard = refl }
  apart false l = alike-same p

at-alike : (n : ℕ) (c l : Bool) (p : PairRecord) → Alike p (change_at n (nominated_by_self c l) p)
at-alike n c l p = apart (is_numbered n p) where
  apart : (b : Bool) → Alike p (if b then nominated_by_self c l p else p)
  apart true = self-alike c l p
  apart false = alike-same p

not-under : (n m : ℕ) → nat_lt n m ≡ true → nat_le m n ≡ false
not-under n m h = grind (arith, nat_tests, h)

-- ---- consent

either-way : (b c : Bool) → b ≡ true → (b || c) ≡ true
either-way true c is = refl
either-way false c is = absurd (cc)

pub answered-consents : (o : Option Consent) (now : ℕ) (p : PairRecord) → due.stays_answered o now p ≡ true → due.has_consent o now p ≡ true
answered-consents None now p is = refl
answered-consents (Some c) now p is = either-way (due.is_answered_lately c now p) (not c.strict && due.is_heard now p) is

pub answered-same : (o : Option Consent) (now : ℕ) (p q : PairRecord) → q.consented ≡ p.consented → due.stays_answered o now q ≡ due.stays_answered o now p
answered-same None now p q same = refl
answered-same (Some c) now p q same = ap (λ had. option_map_or (λ at. nat_lt now (later at c.timeout.0)) had true) same

-- as long as the pair with the same responses
pub answered-on : (t u : StunTiming) (now : ℕ) (p q : PairRecord) → u ≡ t → q.consented ≡ p.consented → due.stays_answered (consent_of t) now p ≡ true → due.stays_answered (consent_of u) now q ≡ true
answered-on t u now p q timing same is = answered-same (consent_of u) now p q same ∙ (ap (λ (z : StunTiming). due.stays_answered (consent_of z) now p) timing ∙ is)

pub consent-same : (o : Option Consent) (now : ℕ) (p q : PairRecord) → q.consented ≡ p.consented → q.last_request ≡ p.last_request → due.has_consent o now q ≡ due.has_consent o now p
consent-same None now p q same heard = refl
consent-same (Some c) now p q same heard =
    ap (λ had. option_map_or (λ at. nat_lt now (later at c.timeout.0)) had true || (not c.strict && due.is_heard now q)) same
    ∙ ap (λ was. due.is_answered_lately c now p || (not c.strict && nat_lt now (option_map_or (λ at. at + 15 * SECOND) was 0))) heard

-- A pair that is not valid never had a response.
pub answered-invalid : (o : Option Consent) (now : ℕ) (p : PairRecord) → (is_some p.consented ≡ true → is_valid p ≡ true) → is_valid p ≡ false → due.stays_answered o now p ≡ true
answered-invalid o now p had invalid = from p.consented refl where
  from : (k : Option ℕ) → p.consented ≡ k → due.stays_answered o now p ≡ true
  from None is = answered-same o now (record p { consented = None }) p is ∙ never o where
    never : (o : Option Consent) → due.stays_answered o now (record p { consented = None }) ≡ true
    never None = refl
    never (Some c) = refl
  from (Some at) is = (let no : true ≡ false = sym (had (ap is_some is)) ∙ invalid in absurd (cc))

pub stays-young : (lite : Bool) (now : ℕ) (t : StunTiming) (p : PairRecord) → lite ≡ false → due.stays_answered (consent_of t) now p ≡ true → nat_lt (unanswered_count p.checks) t.max_retransmits ≡ true → not (due.is_pair_expired lite now t p) ≡ true
stays-young true now t p full answered young = absurd (cc)
stays-young false now t p full answered young =
    ap (λ b. not (not b)) (ap (λ b. b && due.is_possible now t p) (answered-consents (consent_of t) now p answered) ∙ either-way (due.has_checks_left t p) (nat_lt now (due.possible_until t p)) young)

module _ {H P : Type 0} where
  -- the time of the last `handle_timeout` call
  abbrev pub last_time_of : AgentRecord H P → ℕ
  last_time_of a = unwrap_or a.last_time 0

  abbrev pub base_of : AgentRecord H P → Base
  base_of a = record {
    lite = a.lite;
    remote_creds = a.remote_creds;
    timing = a.timing;
    local = a.local;
    remote = a.remote;
    queue = a.queue;
    last_time = a.last_time;
    controlling = a.controlling;
    next_number = a.next_number;
    renominates = a.renominates;
    ahead_turn = a.ahead_turn;
  }

  -- whether nominations are sent at once depends on it, pairs aside
  pub turns-by : (x : Base) (a : AgentRecord H P) → base_of a ≡ x → (x.controlling && (x.renominates && is_modern x.timing)) ≡ false → ChecksInTurn a
  turns-by x a same turn = ap (λ (y : Base). y.controlling && (y.renominates && is_modern y.timing)) same ∙ turn

  -- pairs aside the same, and these are fewer
  abbrev pub Thins : ℕ → AgentRecord H P → AgentRecord H P → Type 0
  Thins to old new = (base_of new ≡ base_of old) × Thinned to old.pairs new.pairs

  pub thins-same : (to : ℕ) (old new : AgentRecord H P) → new ≡ old → Thins to old new
  thins-same to old new is = subst (λ (a : AgentRecord H P). Thins to old a) (sym is) (refl, thinned-same to old.pairs)

  pub thins-on : (to : ℕ) (x y z : AgentRecord H P) → Thins to x y → Thins to y z → Thins to x z
  thins-on to x y z a b = (b.0 ∙ a.0, thinned-on to x.pairs y.pairs z.pairs a.1 b.1)

  pub nominates-thins : (to : ℕ) (old new : AgentRecord H P) (path : Option Path) → Nominates old path new → Thins to old new
  nominates-thins to old new path h = from (selects_path old new path h) where
    from : SelectsPath old path new → Thins to old new
    from (None, none, (is, same)) = thins-same to old new same
    from (Some top, greatest, k) = either (remains (followed old) top (selection_of old)) k
        (λ _ l. thins-same to old new l.1)
        (λ _ l. subst (λ (a : AgentRecord H P). Thins to old a) (sym l.1) (
          refl,
          thinned-map to (change_at top.number (nominated_by_self old.controlling old.lite)) old.pairs
              (λ p. alike-akin to p (change_at top.number (nominated_by_self old.controlling old.lite) p) (at-alike top.number old.controlling old.lite p)),
        ))

  pub expires-thins : (to now : ℕ) (old new : AgentRecord H P) (path : Option Path) → RemovesExpired now old path new → Thins to old new
  expires-thins to now old new path h = either (list_any (is_expired now old) old.pairs) h
      (λ _ k. (
      let a : Thins to old (expired_gone now old) = (refl, thinned-filter to (λ p. not (is_expired now old p)) old.pairs) in
      let b : Thins to (expired_gone now old) k.0 = nominates-thins to (expired_gone now old) k.0 path k.1 in
      let c : Thins to k.0 new = subst (λ (a : AgentRecord H P). Thins to k.0 a) (sym k.2) (refl, thinned-same to k.0.pairs) in
      thins-on to old k.0 new (thins-on to old (expired_gone now old) k.0 a b) c))
      (λ _ k. subst (λ (a : AgentRecord H P). Thins to old a) (sym k.1) (refl, thinned-same to old.pairs))

  -- ---- a path that is left before nomination

  pub leaves-thins : (now : ℕ) (a : AgentRecord H P) → Thins (due_next now) a (path_left now a)
  leaves-thins now a = (
    refl,
    thinned-on (due_next now) a.pairs (silent_gone now a).pairs (path_left now a).pairs (thinned-filter (due_next now) (λ p. not (gives_way now a p)) a.pairs)
        (thinned-map (due_next now) (hastened (Hastens now a) now) (silent_gone now a).pairs (hastened-akin (Hastens now a) now)),
  )

  pub names-thins : (now : ℕ) (old named : AgentRecord H P) (path : Option Path) → Nominates (path_left now old) path named → Thins (due_next now) old named
  names-thins now old named path h = thins-on (due_next now) old (path_left now old) named (leaves-thins now old) (nominates-thins (due_next now) (path_left now old) named path h)

  -- ---- a pair that was checked less often than the limit stays

  pub keeps-young : (now : ℕ) (a : AgentRecord H P) (p : PairRecord) → nat_lt (unanswered_count p.checks) a.timing.max_retransmits ≡ true → gives_way now a p ≡ false
  keeps-young now a p young =
      fifth-off (is_modern a.timing) (not a.lite) (is_named_by a.selected_pair p) (is_eligible a.controlling p) (nat_le a.timing.max_retransmits (unanswered_count p.checks))
      (option_map_or (λ silence. (is_silent_enough now a.timing p || is_overruled a p silence) && list_any (may_replace now a p.number silence) a.pairs)
      (silence_of p.checks) false) (not-under (unanswered_count p.checks) a.timing.max_retransmits young)

  pub lasts-young : (now : ℕ) (a : AgentRecord H P) (p : PairRecord) → a.lite ≡ false → due.stays_answered (consent_of a.timing) now p ≡ true
      → nat_lt (unanswered_count p.checks) a.timing.max_retransmits ≡ true → not (is_expired now a p || gives_way now a p) ≡ true
  lasts-young now a p full answered young =
      ap (λ b. not (is_expired now a p || b)) (keeps-young now a p young) ∙ neither (is_expired now a p) (stays-young a.lite now a.timing p full answered young) where
        neither : (b : Bool) → not b ≡ true → not (b || false) ≡ true
        neither true h = h
        neither false h = refl

  pub nominates-has : (old new : AgentRecord H P) (path : Option Path) → Nominates old path new → (p : PairRecord) → Has old.pairs p → (q : PairRecord) × Has new.pairs q × Alike p q
  nominates-has old new path h p has = from (selects_path old new path h) where
    same : new ≡ old → (q : PairRecord) × Has new.pairs q × Alike p q
    same e = subst (λ (a : AgentRecord H P). (q : PairRecord) × Has a.pairs q × Alike p q) (sym e) (p, has, alike-same p)

    from : SelectsPath old path new → (q : PairRecord) × Has new.pairs q × Alike p q
    from (None, none, (is, e)) = same e
    from (Some top, greatest, k) = either (remains (followed old) top (selection_of old)) k
        (λ _ l. same l.1)
        (λ _ l. subst (λ (a : AgentRecord H P). (q : PairRecord) × Has a.pairs q × Alike p q) (sym l.1) (
          change_at top.number (nominated_by_self old.controlling old.lite) p,
          Has-mapped (change_at top.number (nominated_by_self old.controlling old.lite)) old.pairs p has,
          at-alike top.number old.controlling old.lite p,
        ))

  pub expires-has : (now : ℕ) (old new : AgentRecord H P) (path : Option Path) → old.lite ≡ false → RemovesExpired now old path new → (p : PairRecord) → Has old.pairs p
      → due.stays_answered (consent_of old.timing) now p ≡ true → nat_lt (unanswered_count p.checks) old.timing.max_retransmits ≡ true → (q : PairRecord) × Has new.pairs q × Alike p q
  expires-has now old new path full h p has answered young = either (list_any (is_expired now old) old.pairs) h
      (λ _ k. (
      let there : Has (expired_gone now old).pairs p = Has-kept (λ q. not (is_expired now old q)) old.pairs p has (stays-young old.lite now old.timing p full answered young) in
      let n = nominates-has (expired_gone now old) k.0 path k.1 p there in
      subst (λ (a : AgentRecord H P). (q : PairRecord) × Has a.pairs q × Alike p q) (sym k.2) (n.0, n.1, n.2)))
      (λ _ k. subst (λ (a : AgentRecord H P). (q : PairRecord) × Has a.pairs q × Alike p q) (sym k.1) (p, has, alike-same p))

  -- ---- consent

  abbrev pub answered_at : AgentRecord H P → PairRecord → ℕ → Bool
  answered_at a p m = due.stays_answered (consent_of a.timing) m p

  -- a pair that is not valid never got a response
  pub answered-if : (a : AgentRecord H P) (p : PairRecord) (m : ℕ) → IsSound a → Has a.pairs p → IsLasting m a p → answered_at a p m ≡ true
  answered-if a p m sound has lasting = by (is_valid p) refl where
    by : (b : Bool) → is_valid p ≡ b → answered_at a p m ≡ true
    by true is = lasting (search is)
    by false is = answered-invalid (consent_of a.timing) m p (sound.consented p has) is
