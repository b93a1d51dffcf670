-- Bytes that are not accepted change nothing, and the result for accepted bytes is `true`.
use Rattle.is_proto.specs.declared.error.IceError.{IceError}
use Rattle.is_rules.specs.Accepting.{IsAcceptedOn, HandlesPacket}
use Rattle.is.proofs.Common.{◌↔◌, ◌∙◌, ◌≡◌, AcceptsOnPath, AgentRecord, Answer, answer_by, ap, Bool, CandidateRecord, Emitted, Entry, Err}
use Rattle.is.proofs.Common.{false, Flag, inl, inr, IsHandled, LeavesOut, List, Logged, Message, Ok, PacketsAreHandled, Path, quiet, Reads}
use Rattle.is.proofs.Common.{ReceivePacket, Receives, Result, Step, Stream, subst, sym, true, ℕ}

module _ {H P : Type 0} (mac : H → List ℕ → List ℕ → List ℕ) where
  handled : (old new : AgentRecord H P) (now : ℕ) (path : Path) (bytes : List ℕ) (m : Message) (r : Result Bool IceError) (emitted : Emitted) (e : Entry)
      → Reads bytes m → e ≡ record { answer = answer_by Flag r; emitted = emitted } → HandlesPacket mac now old path m r emitted new → IsHandled mac old path bytes e new
  handled old new now path bytes m (Ok true) emitted e reads is did = record {
    unaccepted = λ no. absurd (no (m, reads, did.0));
    accepted = λ _. inl (ap (λ (x : Entry). x.answer) is);
  }
  handled old new now path bytes m (Ok false) emitted e reads is (unaccepted, nothing, same) = record {
    unaccepted = λ _. record {
      same = same;
      emitted = ap (λ (x : Entry). x.emitted) is ∙ nothing;
      answer = inl (ap (λ (x : Entry). x.answer) is);
    };
    accepted = λ (n, other, accepted).
        absurd (unaccepted (subst (λ (k : Message). IsAcceptedOn mac old path k) (other.spelled ∙ sym reads.spelled) accepted));
  }
  handled old new now path bytes m (Err error) emitted e reads is (may, nothing, same) = record {
    unaccepted = λ no. absurd (no (m, reads, may.0));
    accepted = λ _. inr (error, ap (λ (x : Entry). x.answer) is);
  }

  -- whether bytes are accepted, by the message that they encode
  pub accepted_if : (a : AgentRecord H P) (path : Path) (bytes : List ℕ) (m : Message) (Says : Type 0) → Reads bytes m → (Says ↔ IsAcceptedOn mac a path m)
      → (Says ↔ AcceptsOnPath mac a path bytes)
  accepted_if a path bytes m Says reads by =
      (λ is. (m, reads, by.0 is), λ (n, other, accepted). by.1 (subst (λ (k : Message). IsAcceptedOn mac a path k) (other.spelled ∙ sym reads.spelled) accepted))

module _ {H P : Type 0} (mac : H → List ℕ → List ℕ → List ℕ) (answers : P → CandidateRecord → ℕ → ℕ → Type 0) where
  pub settled : (old new : AgentRecord H P) (now : ℕ) (path : Path) (bytes : List ℕ) (e : Entry)
      → Receives mac answers now old path bytes e new → IsHandled mac old path bytes e new
  settled old new now path bytes e (inl (fault, fails, is, same)) = record {
    unaccepted = λ _. record {
      same = same;
      emitted = ap (λ (x : Entry). x.emitted) is;
      answer = inr (fault, ap (λ (x : Entry). x.answer) is);
    };
    accepted = λ (m, reads, accepted). (let none = reads.faultless in cc);
  }
  settled old new now path bytes e (inr (m, reads, (r, emitted, is, did))) = handled mac old new now path bytes m r emitted e reads is did

  -- the answer to bytes that are not accepted
  pub left_out : (old new : AgentRecord H P) (now : ℕ) (path : Path) (bytes : List ℕ) (e : Entry) → ¬ AcceptsOnPath mac old path bytes
      → Receives mac answers now old path bytes e new → (answer : Answer) × LeavesOut mac answers now old path bytes answer × (e ≡ quiet answer)
  left_out old new now path bytes e unaccepted received =
      let unchanged = (settled old new now path bytes e received).unaccepted unaccepted in
      let nothing : e ≡ quiet e.answer = ap (λ o. let x : Entry = record { answer = e.answer; emitted = o } in x) unchanged.emitted in (
        e.answer,
        inl (
          subst (λ (a : AgentRecord H P). Receives mac answers now old path bytes (quiet e.answer) a) unchanged.same
              (subst (λ (x : Entry). Receives mac answers now old path bytes x new) nothing received),
          unaccepted,
        ),
        nothing,
      )

  pub packets_are_handled : (first : AgentRecord H P) (s : Stream) (log : List (Logged P)) → PacketsAreHandled mac answers first s log
  packets_are_handled first s log before mid after x point now path bytes is =
      let received : Step mac answers mid point.at (ReceivePacket now path bytes) x.entry after point.following = rw is at point.step in
      settled mid after now path bytes x.entry received.0
