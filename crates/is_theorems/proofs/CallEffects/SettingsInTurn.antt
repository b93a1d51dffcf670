-- `set_settings` sets its value, and does what the setters of the fields do, one after another.
use native.Mathlib.Omega.{arith}
use Rattle.is_rules.specs.declared.settings.Settings.{Settings}
use Rattle.is_theorems.proofs.Common.{[], ◌&&◌, ◌<◌, ◌==◌, ◌∙◌, ◌∷◌, ◌≡◌, AgentRecord, AllAreSet, AllAreSetInTurn, ap, Becomes, Bool}
use Rattle.is_theorems.proofs.Common.{CandidateRecord, Done, eqb-true, false, if◌then◌else◌, List, map, MatchBool, NotCalled, PairRecord}
use Rattle.is_theorems.proofs.Common.{quiet, refl, Stream, subst, sym, true, undue, with_consent, with_lite_timeout, with_profile}
use Rattle.is_theorems.proofs.Common.{with_retransmits, with_rtos, ℕ}
use Rattle.is_theorems.proofs.StoredPairs.StoredChecks.{number_same}

pub all-are-set : (H P : Type 0) → AllAreSet H P
all-are-set H P old s = search

-- ---- due times, if both RTOs are set

undue-twice : (ps : List PairRecord) → map undue (map undue ps) ≡ map undue ps
undue-twice [] = refl
undue-twice (p ∷ ps) = ap (λ (qs : List PairRecord). undue p ∷ qs) (undue-twice ps)

-- the pairs after the second of two setters, of which the first changes its RTO or not, and the second, too
after-both : (first second : Bool) (ps : List PairRecord)
    → (if true && second then (if first && true then ps else map undue ps) else map undue (if first && true then ps else map undue ps))
    ≡ (if first && second then ps else map undue ps)
after-both true true ps = refl
after-both true false ps = refl
after-both false true ps = refl
after-both false false ps = undue-twice ps

not-zero : (n : ℕ) → 0 < n → (n == 0) ≡ false
not-zero n some = by (n == 0) refl where
  by : (b : Bool) → (n == 0) ≡ b → (n == 0) ≡ false
  by true is = let none = eqb-true n 0 is in absurd (omega (arith, some, none))
  by false is = is

module _ {H P : Type 0} where
  pairs-after : (initial greatest : ℕ) (a : AgentRecord H P)
      → (with_rtos initial greatest (with_rtos initial a.timing.max_rto.0 a)).pairs ≡ (with_rtos initial greatest a).pairs
  pairs-after initial greatest a =
      ap (λ (same : Bool). if same && a.timing.max_rto.0 == greatest
      then (if a.timing.initial_rto.0 == initial && a.timing.max_rto.0 == a.timing.max_rto.0 then a.pairs else map undue a.pairs)
      else map undue (if a.timing.initial_rto.0 == initial && a.timing.max_rto.0 == a.timing.max_rto.0 then a.pairs else map undue a.pairs)) (number_same initial)
      ∙ ap (λ (same : Bool). if true && a.timing.max_rto.0 == greatest
      then (if a.timing.initial_rto.0 == initial && same then a.pairs else map undue a.pairs)
      else map undue (if a.timing.initial_rto.0 == initial && same then a.pairs else map undue a.pairs)) (number_same a.timing.max_rto.0)
      ∙ after-both (a.timing.initial_rto.0 == initial) (a.timing.max_rto.0 == greatest) a.pairs

  rtos-in-turn : (initial greatest : ℕ) (a : AgentRecord H P)
      → with_rtos initial greatest (with_rtos initial a.timing.max_rto.0 a) ≡ with_rtos initial greatest a
  rtos-in-turn initial greatest a = ap (λ (ps : List PairRecord). record (with_rtos initial greatest a) { pairs = ps }) (pairs-after initial greatest a)

  -- the setters before those of the RTOs
  abbrev begun : Settings → AgentRecord H P → AgentRecord H P
  begun s a = with_lite_timeout s.lite_timeout.0 (with_retransmits s.max_retransmits (with_consent s.consent (with_profile s.profile a)))

  -- those after them
  abbrev ended : Settings → AgentRecord H P → AgentRecord H P
  ended s a = record a {
    timing_advance = s.timing_advance.0;
    max_pairs = s.max_pairs;
    max_discovered = s.max_discovered;
    max_candidates = s.max_candidates;
    renominates = s.renomination;
  }

  retransmits : (n : ℕ) (a : AgentRecord H P) (r : Stream) → (n == 0) ≡ false
      → MatchBool (n == 0) ((quiet Done ≡ quiet NotCalled) × (with_retransmits n a ≡ a) × (r ≡ r)) (Becomes (with_retransmits n a) r (quiet Done) (with_retransmits n a) r)
  retransmits n a r some =
      subst (λ (zero : Bool). MatchBool zero ((quiet Done ≡ quiet NotCalled) × (with_retransmits n a ≡ a) × (r ≡ r)) (Becomes (with_retransmits n a) r (quiet Done) (with_retransmits n a) r))
      (sym some) (refl, refl, refl)

  module _ (mac : H → List ℕ → List ℕ → List ℕ) (answers : P → CandidateRecord → ℕ → ℕ → Type 0) where
    pub all-are-set-in-turn : AllAreSetInTurn {H = H} {P = P} mac answers
    all-are-set-in-turn old s r some =
        let profiled : AgentRecord H P = with_profile s.profile old in
        let consented : AgentRecord H P = with_consent s.consent profiled in
        let limited : AgentRecord H P = with_retransmits s.max_retransmits consented in
        let timed : AgentRecord H P = begun s old in
        let first : AgentRecord H P = with_rtos s.initial_rto.0 timed.timing.max_rto.0 timed in
        let both : AgentRecord H P = with_rtos s.initial_rto.0 s.max_rto.0 first in
        let paced : AgentRecord H P = record both { timing_advance = s.timing_advance.0 } in
        let paired : AgentRecord H P = record paced { max_pairs = s.max_pairs } in
        let found : AgentRecord H P = record paired { max_discovered = s.max_discovered } in
        let listed : AgentRecord H P = record found { max_candidates = s.max_candidates } in
        let positive : 0 < s.max_retransmits = search some in (
          profiled,
          r,
          r,
          tt,
          (refl, refl, refl),
          (
            consented,
            r,
            r,
            tt,
            (refl, refl, refl),
            (
              limited,
              r,
              r,
              tt,
              retransmits s.max_retransmits consented r (not-zero s.max_retransmits positive),
              (
                timed,
                r,
                r,
                tt,
                (refl, refl, refl),
                (
                  first,
                  r,
                  r,
                  tt,
                  (refl, refl, refl),
                  (
                    both,
                    r,
                    r,
                    tt,
                    (refl, refl, refl),
                    (
                      paced,
                      r,
                      r,
                      tt,
                      (refl, refl, refl),
                      (
                        paired,
                        r,
                        r,
                        tt,
                        (refl, refl, refl),
                        (
                          found,
                          r,
                          r,
                          tt,
                          (refl, refl, refl),
                          (
                            listed,
                            r,
                            r,
                            tt,
                            (refl, refl, refl),
                            (
                              record listed { renominates = s.renomination },
                              r,
                              r,
                              tt,
                              (refl, refl, refl),
                              sym (ap (λ (a : AgentRecord H P). ended s a) (rtos-in-turn s.initial_rto.0 s.max_rto.0 timed)),
                            ),
                          ),
                        ),
                      ),
                    ),
                  ),
                ),
              ),
            ),
          ),
        )
