-- What bytes say, by the result of parsing them; only a response to the pending request changes a client.
use Rattle.is_proto.specs.declared.error.StunError.TheVariants as errors
use Rattle.is_stun.specs.Form.{form_fault, ReadsAny, FailsAnyBy}
use Rattle.is_turn.specs.declared.answer.Answer.TheVariants.{Unparsed, Unasked}
use Rattle.is_turn.specs.Answer.{is_answer, said_in, answer_by, answer_in}
use Rattle.is_turn.proofs.Common.{◌∙◌, ◌≡◌, ap, Bool, cond, false, is_some, List, Message, Option, refl, StunError, sym, TransId, true, ℕ}

-- ---- what bytes say

faulty : (bytes : List ℕ) (e : StunError) → FailsAnyBy bytes e → is_some (form_fault bytes) ≡ true
faulty bytes (errors.Parse f) h = ap is_some h
faulty bytes errors.UnknownMethod h = absurd h
faulty bytes errors.ValueTooLong h = absurd h
faulty bytes errors.BadErrorCode h = absurd h
faulty bytes errors.MessageTooLong h = absurd h
faulty bytes errors.BufferTooShort h = absurd h

pub unparsed : (pending : Option TransId) (bytes : List ℕ) (e : StunError) → FailsAnyBy bytes e → Unparsed ≡ answer_in pending bytes
unfolding answer_in
unparsed pending bytes e h = rw (faulty bytes e h) refl

pub parsed : (pending : Option TransId) (bytes : List ℕ) (m : Message) → ReadsAny bytes m → answer_by pending m ≡ answer_in pending bytes
unfolding answer_in
parsed pending bytes m h = rw (h.faultless) (ap (answer_by pending) h.spelled)

pub asked : (pending : Option TransId) (bytes : List ℕ) (m : Message) (b : Bool) → ReadsAny bytes m → b ≡ is_answer pending m → b ≡ true → said_in m ≡ answer_in pending bytes
asked pending bytes m b h is holds = ap (λ (x : Bool). cond x (said_in m) Unasked) (sym (sym is ∙ holds)) ∙ parsed pending bytes m h

pub unasked : (pending : Option TransId) (bytes : List ℕ) (m : Message) (b : Bool) → ReadsAny bytes m → b ≡ is_answer pending m → b ≡ false → Unasked ≡ answer_in pending bytes
unasked pending bytes m b h is fails = ap (λ (x : Bool). cond x (said_in m) Unasked) (sym (sym is ∙ fails)) ∙ parsed pending bytes m h
