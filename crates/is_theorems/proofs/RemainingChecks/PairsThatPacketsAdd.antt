-- How many pairs packets add in a segment of a log in which no candidate is added.
use Rattle.is_theorems.proofs.Common.{[], ◌++◌, ◌∙◌, ◌∷◌, ◌≡◌, add-mul, AgentRecord, ap, AreSteady, arith, scheduled, Call, CandidateRecord}
use Rattle.is_theorems.proofs.Common.{cond, ConsentLastsIn, Entry, Err, false, HandleTimeout, HaveConsent, inl, inr, is_steady, is_timeout}
use Rattle.is_theorems.proofs.Common.{IsFresh, IsSound, length, List, Logged, map, Ok, PollEvent, PollTimeout, PollTransmit, ReceivePacket}
use Rattle.is_theorems.proofs.Common.{refl, PacketsAddFew, Run, RunsOn, SetControlling, SetControlTieBreaker, SetLocalCredentials}
use Rattle.is_theorems.proofs.Common.{SetLocalPreference, SetMaxCandidatePairs, SetMaxCandidates, SetMaxDiscovered, SetMtu, SetRenomination, SetTimingAdvance}
use Rattle.is_theorems.proofs.Common.{Step, Stream, subst, sum_by-cons, sym, timeout_count, true, ℕ}
use Rattle.is_theorems.proofs.CallEffects.PathAndTradeEffects.{path_theorem}
use Rattle.is_theorems.proofs.CallEffects.AddedCandidates.{by_waking}
use Rattle.is_theorems.proofs.ExecutionLogs.LogTheorems.{runs_sound}
use Rattle.is_theorems.proofs.ExecutionLogs.LogSegments.{no-case, run-on}
use Rattle.is_theorems.proofs.CallEffects.FailedCallsAndNewAgents.{mtu_kept, local_kept}
use Rattle.is_theorems.proofs.RemainingChecks.RemainingAfterRules.{Held, Spends, spends-to, spends-none, spends-on, receives-spends}
use Rattle.is_theorems.proofs.RemainingChecks.RemainingAfterRules.{times-out-spends}
use Rattle.is_theorems.proofs.RemainingChecks.RemainingOfPairs.{unspent-alike, unspents-map, unspents-most}

module _ {H P : Type 0} (mac : H → List ℕ → List ℕ → List ℕ) (answers : P → CandidateRecord → ℕ → ℕ → Type 0) (m : ℕ) where
  asks-spends : (at : ℕ) (old new : AgentRecord H P) → new ≡ record old { pairs = map (scheduled at old.timing) old.pairs } → Spends m 0 old new
  asks-spends at old new made =
      let le = unspents-map m (scheduled at old.timing) old.pairs (λ p. unspent-alike m p (scheduled at old.timing p) refl) in
      spends-to m 0 old _ new (refl, omega arith, omega (arith, le)) made

  kept : (old needed new : AgentRecord H P) → Spends m 0 old needed → new ≡ needed → Spends m 0 old new
  kept old needed new h made = spends-to m 0 old needed new h made

  -- a call of such a segment
  call-spends : (call : Call P) (old new : AgentRecord H P) (s t : Stream) (e : Entry) → IsSound old → old.lite ≡ false → old.timing.max_retransmits ≡ m → is_steady false call ≡ true
      → ((now : ℕ) → call ≡ HandleTimeout now → HaveConsent now old) → Step mac answers old s call e new t → Spends m (cond (is_timeout call) 1 0) old new
  call-spends (ReceivePacket now via bytes) old new s t e sound full most is consents (h, drawn) = receives-spends m mac answers now old new via bytes e h
  call-spends (HandleTimeout now) old new s t e sound full most is consents (r, emitted, reported, h) = times-out-spends m mac now old new s t r emitted full most sound.rising (consents now refl) h
  call-spends PollTransmit old new s t e sound full most is consents (given, reported, (polled, made), drawn) = kept old _ new (refl, omega arith, omega arith) made
  call-spends PollTimeout old new s t e sound full most is consents (deadline, reported, h, drawn) = by_waking old new deadline h (λ made. spends-none m old new made) (λ at made. asks-spends at old new made)
  call-spends PollEvent old new s t e sound full most is consents (given, reported, (polled, made), drawn) = kept old _ new (refl, omega arith, omega arith) made
  call-spends (SetMtu target warn) old new s t e sound full most is consents (Ok _, reported, h, drawn) = kept old _ new (refl, omega arith, omega arith) h.1
  call-spends (SetMtu target warn) old new s t e sound full most is consents (Err error, reported, h, drawn) = spends-none m old new (mtu_kept old new target warn error h)
  call-spends (SetLocalCredentials creds) old new s t e sound full most is consents (Ok _, reported, h, drawn) = kept old _ new (refl, omega arith, omega arith) h.1
  call-spends (SetLocalCredentials creds) old new s t e sound full most is consents (Err error, reported, h, drawn) = spends-none m old new (local_kept old new creds error h)
  call-spends (SetControlTieBreaker tie) old new s t e sound full most is consents (reported, made, drawn) = kept old _ new (refl, omega arith, omega arith) made
  call-spends (SetMaxCandidatePairs k) old new s t e sound full most is consents (reported, made, drawn) = kept old _ new (refl, omega arith, omega arith) made
  call-spends (SetMaxDiscovered limit) old new s t e sound full most is consents (reported, made, drawn) = kept old _ new (refl, omega arith, omega arith) made
  call-spends (SetMaxCandidates limit) old new s t e sound full most is consents (reported, made, drawn) = kept old _ new (refl, omega arith, omega arith) made
  call-spends (SetRenomination renominates) old new s t e sound full most is consents (reported, made, drawn) = kept old _ new (refl, omega arith, omega arith) made
  call-spends (SetTimingAdvance advance) old new s t e sound full most is consents (reported, made, drawn) = kept old _ new (refl, omega arith, omega arith) made
  call-spends (SetLocalPreference object) old new s t e sound full most is consents (reported, made, drawn) = kept old _ new (refl, omega arith, omega arith) made
  call-spends (SetControlling controlling) old new s t e sound full most is consents (reported, made, drawn) = kept old _ new (refl, omega arith, omega arith) made
  call-spends _ old new s t e sound full most is consents step = no-case is

  module _ (first : AgentRecord H P) (s : Stream) (fresh : IsFresh first) (before : List (Logged P)) (start : AgentRecord H P) (u : Stream) (led : Run mac answers first s before start u)
      (full : start.lite ≡ false) (most : start.timing.max_retransmits ≡ m) where
    pub part-spends : (part : List (Logged P)) (last : AgentRecord H P) (t : Stream) → AreSteady false part → (run : RunsOn mac answers before start u part last t)
        → ConsentLastsIn mac answers before start u part last t run → Spends m (timeout_count part) start last
    part-spends [] last t steady (is, drawn) consents = spends-none m start last is
    part-spends (x ∷ part) last t steady (mid, v, run, number, given, step) consents =
        let so_far = part-spends part mid v (λ y has. steady y (inr has)) run consents.1 in
        let sound : IsSound mid = runs_sound mac answers (path_theorem mac answers) first mid s v (part ++ before) fresh (run-on mac answers first start mid s u v before part led run) in
        let one = call-spends x.call mid last v t x.entry sound (ap (λ (a : Held). a.lite) so_far.0 ∙ full) (ap (λ (a : Held). a.timing.max_retransmits) so_far.0 ∙ most) (steady x (inl refl)) (λ now is. search (consents.0 now is)) step in
        subst (λ k. Spends m k start last) (sym (sum_by-cons (λ (y : Logged P). cond (is_timeout y.call) 1 0) x part))
        (spends-on m (timeout_count part) (cond (is_timeout x.call) 1 0) start mid last so_far one)

module _ {H P : Type 0} (mac : H → List ℕ → List ℕ → List ℕ) (answers : P → CandidateRecord → ℕ → ℕ → Type 0) where
  pub packets-add-few : PacketsAddFew {H = H} {P = P} mac answers
  packets-add-few first s log fresh before part start last found full steady consents =
      let k = part-spends mac answers start.timing.max_retransmits first s fresh before start found.at found.led full refl part last found.following steady found.run consents in
      let less = k.2 in
      let most = unspents-most start.timing.max_retransmits last.pairs in
      let sum = add-mul start.next_number (length last.pairs) start.timing.max_retransmits in
      omega (arith, less, most, sum)
