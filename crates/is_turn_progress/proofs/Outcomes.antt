-- What is decided of a response, by the verdict on it, and what each verdict means.
use Rattle.std.proofs.Common.{◌≡◌, ◌⊎◌, ℕ, ◌&&◌, ◌||◌, Bool, true, false, Option, Some, None, is_some, is_none, arith, refl, inl, inr}
use Rattle.is_turn_progress.proofs.Common.{and_parts, answered_in, Attempt, code_of, Credentials, Integrity, is_challenge, is_code, is_last_sent, is_malformed, is_unknown, Message, Operation}
use Rattle.is_turn_progress.proofs.Common.{or_cases, outcome_by, outcome_or, outcome_with, Phase, SocketAddr, Verdict, verdict_of}
use Rattle.is_turn.specs.declared.verdict.Verdict.TheVariants as verdicts
use Rattle.is_turn_progress.proofs.Steps.{by_cond}

-- ---- what each verdict means

abbrev pub IsMeant : Bool → Option Credentials → Message → Operation → Attempt → Verdict → Type 0
IsMeant b c m o a verdicts.Malformed = Unit {0}
IsMeant b c m o a verdicts.Unauthentic = Unit {0}
IsMeant b c m o a verdicts.Genuine = (c ≡ None) ⊎ (b ≡ true)
IsMeant b c m o a verdicts.Redirect = (m.integrity ≡ None) × (code_of m ≡ Some 300) × (a.key ≡ None)
IsMeant b c m o a verdicts.Hint = (m.integrity ≡ None) × (is_unknown c ≡ true) × (is_last_sent a o ≡ true)
IsMeant b c m o a verdicts.Challenge = (is_challenge (code_of m) ≡ true) × ((b ≡ true) ⊎ (m.integrity ≡ None))

none_is : {A : Type 0} (x : Option A) → is_none x ≡ true → x ≡ None
none_is None h = refl
none_is (Some x) h = absurd (cc h)

no_some : {A : Type 0} (x : Option A) → is_some x ≡ false → x ≡ None
no_some None h = refl
no_some (Some x) h = absurd (cc h)

code_is : (code : Option ℕ) → is_code 300 code ≡ true → code ≡ Some 300
code_is None h = absurd (cc h)
code_is (Some code) h = grind arith

unsigned_or : (b : Bool) (i : Option Integrity) → (b ≡ true) ⊎ (is_none i ≡ true) → (b ≡ true) ⊎ (i ≡ None)
unsigned_or b i (inl h) = inl h
unsigned_or b i (inr h) = inr (none_is i h)

meant : (b : Bool) (c : Option Credentials) (m : Message) (o : Operation) (a : Attempt) → IsMeant b c m o a (verdict_of b (is_last_sent a o) a.key c m)
meant b None m o a = by_cond (IsMeant b None m o a) (is_malformed m) verdicts.Malformed verdicts.Genuine (λ h. tt) (λ h. inl refl)
meant b (Some k) m o a =
    by_cond (IsMeant b (Some k) m o a) (is_malformed m) verdicts.Malformed _ (λ h. tt)
    (λ h. by_cond (IsMeant b (Some k) m o a) (is_challenge (code_of m) && (b || is_none m.integrity)) verdicts.Challenge _
    (λ e. let x = and_parts (is_challenge (code_of m)) (b || is_none m.integrity) e in
    (x.0, unsigned_or b m.integrity (or_cases b (is_none m.integrity) x.1)))
    (λ e. by_cond (IsMeant b (Some k) m o a) b verdicts.Genuine _ (λ signed. inr signed)
    (λ f. by_cond (IsMeant b (Some k) m o a) (is_some m.integrity) verdicts.Unauthentic _ (λ g. tt)
    (λ unsigned. by_cond (IsMeant b (Some k) m o a) (is_code 300 (code_of m) && is_none a.key) verdicts.Redirect _
    (λ x. let y = and_parts (is_code 300 (code_of m)) (is_none a.key) x in (no_some m.integrity unsigned, code_is (code_of m) y.0, none_is a.key y.1))
    (λ x. by_cond (IsMeant b (Some k) m o a) (is_last_sent a o && is_some k.password) verdicts.Hint verdicts.Unauthentic
    (λ y. let z = and_parts (is_last_sent a o) (is_some k.password) y in (no_some m.integrity unsigned, z.1, z.0)) (λ y. tt))))))

-- ---- a response to no attempt, or one with a verdict

attempt_case : (F : _ → Type 0) (b : Bool) (phase : Phase) (c : Option Credentials) (m : Message) (alternate : Option SocketAddr) (o : Operation)
    (x : Option Attempt) → answered_in m o ≡ x → F (outcome_or b phase c m alternate o None)
    → ((v : Verdict) (a : Attempt) → answered_in m o ≡ Some a → IsMeant b c m o a v → F (outcome_by v phase (is_unknown c) o a m alternate))
    → F (outcome_or b phase c m alternate o x)
attempt_case F b phase c m alternate o None e unasked judged = unasked
attempt_case F b phase c m alternate o (Some a) e unasked judged = judged (verdict_of b (is_last_sent a o) a.key c m) a e (meant b c m o a)

operation_case : (F : _ → Type 0) (b : Bool) (phase : Phase) (c : Option Credentials) (m : Message) (alternate : Option SocketAddr) (r x : Option Operation)
    → r ≡ x → F (outcome_with b phase c m alternate None)
    → ((v : Verdict) (o : Operation) (a : Attempt) → r ≡ Some o → answered_in m o ≡ Some a → IsMeant b c m o a v
    → F (outcome_by v phase (is_unknown c) o a m alternate))
    → F (outcome_with b phase c m alternate x)
operation_case F b phase c m alternate r None e unasked judged = unasked
operation_case F b phase c m alternate r (Some o) e unasked judged =
    attempt_case F b phase c m alternate o (answered_in m o) refl unasked (λ v a answers means. judged v o a e answers means)

pub outcome_case : (F : _ → Type 0) (b : Bool) (phase : Phase) (c : Option Credentials) (m : Message) (alternate : Option SocketAddr) (r : Option Operation)
    → F (outcome_with b phase c m alternate None)
    → ((v : Verdict) (o : Operation) (a : Attempt) → r ≡ Some o → answered_in m o ≡ Some a → IsMeant b c m o a v
    → F (outcome_by v phase (is_unknown c) o a m alternate))
    → F (outcome_with b phase c m alternate r)
outcome_case F b phase c m alternate r unasked judged = operation_case F b phase c m alternate r r refl unasked judged
