-- A foundation that is read is one word.
use Rattle.std.proofs.Common.{drop, ◌≡◌, ℕ, List, [], ◌∷◌, Option, Some, None, Ok, Err, IfSome, refl, sym, ap, ◌∙◌, subst, inl, inr}
use Rattle.is_proto.specs.declared.proto.Protocol.{Protocol}
use Rattle.is_candidate.specs.Candidates.{CandidateRecord}
use Rattle.is_candidate.specs.Infos.{with_ufrag}
use Rattle.is_candidate.specs.Lines.{IsLineOf, Answer, Head, Place, Keys, Then, ReadsHead, ReadsComponent, ReadsTransport, ReadsPriority, ReadsPlace, ReadsKeys, no_keys, line_candidate}
use Rattle.is_candidate.specs.Words.{IsWord, HasWords}
use Rattle.is_c.proofs.lines.kept_line_round_trips.Goals as goal

no_fault : (A : Type 0) (a : A) (message : List ℕ) → ◌≡◌ {A = Answer A} (Ok a) (Err message) → ⊥
no_fault A a message e = cc e

abbrev foundation_or_none : Answer Head → List ℕ
foundation_or_none (Ok h) = h.foundation
foundation_or_none (Err message) = []

with_priority : (f : List ℕ) (n : ℕ) (p : Protocol) (ws : List (List ℕ)) (h : Head) → ReadsPriority f n p ws (Ok h) → h.foundation ≡ f
with_priority f n p [] h e = absurd (no_fault Head h _ e)
with_priority f n p (w ∷ ws) h (inl (q, is, e)) = ap foundation_or_none e
with_priority f n p (w ∷ ws) h (inr (other, e)) = absurd (no_fault Head h _ e)

with_protocol : (f : List ℕ) (n : ℕ) (ws : List (List ℕ)) (h : Head) → ReadsTransport f n ws (Ok h) → h.foundation ≡ f
with_protocol f n [] h e = absurd (no_fault Head h _ e)
with_protocol f n (w ∷ ws) h (inl (p, is, next)) = with_priority f n p ws h next
with_protocol f n (w ∷ ws) h (inr (other, e)) = absurd (no_fault Head h _ e)

with_component : (f : List ℕ) (ws : List (List ℕ)) (h : Head) → ReadsComponent f ws (Ok h) → h.foundation ≡ f
with_component f [] h e = absurd (no_fault Head h _ e)
with_component f (w ∷ ws) h (inl (n, is, next)) = with_protocol f n ws h next
with_component f (w ∷ ws) h (inr (other, e)) = absurd (no_fault Head h _ e)

first_word : (rest : List ℕ) (ws : List (List ℕ)) (h : Head) → HasWords rest ws → ReadsHead ws (Ok h) → IsWord h.foundation
first_word rest [] h split e = absurd (no_fault Head h _ e)
first_word rest (w ∷ ws) h (gap, after, is, empty, word, ends, more) reads = subst IsWord (sym (with_component w ws h reads)) word

abbrev given : Answer CandidateRecord → Option (List ℕ)
given (Ok c) = c.foundation
given (Err message) = None

by_keys : (c : CandidateRecord) (h : Head) (p : Place) (keys : Answer Keys)
    → Then keys (Ok c) (λ k. ◌≡◌ {A = Answer CandidateRecord} (Ok c) (Ok (line_candidate h p k))) → c.foundation ≡ Some h.foundation
by_keys c h p (Ok k) e = ap given e
by_keys c h p (Err message) e = absurd (no_fault CandidateRecord c _ e)

by_place : (ws : List (List ℕ)) (c : CandidateRecord) (h : Head) (place : Answer Place)
    → Then place (Ok c) (λ p. (keys : Answer Keys) × ReadsKeys no_keys (drop 8 ws) keys
    × Then keys (Ok c) (λ k. ◌≡◌ {A = Answer CandidateRecord} (Ok c) (Ok (line_candidate h p k))))
    → c.foundation ≡ Some h.foundation
by_place ws c h (Ok p) (keys, read, e) = by_keys c h p keys e
by_place ws c h (Err message) e = absurd (no_fault CandidateRecord c _ e)

by_head : (rest : List ℕ) (ws : List (List ℕ)) (c : CandidateRecord) (head : Answer Head) → HasWords rest ws → ReadsHead ws head
    → Then head (Ok c) (λ h. (place : Answer Place) × ReadsPlace (drop 4 ws) place
    × Then place (Ok c) (λ p. (keys : Answer Keys) × ReadsKeys no_keys (drop 8 ws) keys
    × Then keys (Ok c) (λ k. ◌≡◌ {A = Answer CandidateRecord} (Ok c) (Ok (line_candidate h p k)))))
    → IfSome c.foundation IsWord
by_head rest ws c (Ok h) split head (place, read, e) =
    let P : Option (List ℕ) → Type 0 = λ f. IfSome f IsWord in
    subst P (sym (by_place ws c h place e)) (first_word rest ws h split head)
by_head rest ws c (Err message) split head e = absurd (no_fault CandidateRecord c _ e)

foundation_is_word : (text : List ℕ) (c : CandidateRecord) → IsLineOf text c → IfSome c.foundation IsWord
foundation_is_word text c (inl (other, e)) = absurd (no_fault CandidateRecord c _ e)
foundation_is_word text c (inr (rest, ws, has, split, reads)) = by_head rest ws c reads.0 split reads.1 reads.2

kept : (u : Option (List ℕ)) (c : CandidateRecord) → (with_ufrag u c).foundation ≡ c.foundation
kept None c = refl
kept (Some u) c = refl

pub returns : goal.returns
returns c = λ text read ufrag is made word.
    let P : Option (List ℕ) → Type 0 = λ f. IfSome f IsWord in
    let same : c.args.candidate.now.foundation ≡ read.foundation = ap (λ (x : CandidateRecord). x.foundation) made ∙ kept ufrag read in
    c.printed_line_round_trips.ensures (subst P (sym same) (foundation_is_word text read is), word)
