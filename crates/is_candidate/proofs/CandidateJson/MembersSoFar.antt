-- What the members of candidate JSON say so far, as they are put in one after another.
use Rattle.std.specs.Ordering.{nat_cmp, match_ordering}
use Rattle.std.specs.Cmp.Lexicographic.{slice_cmp}
use Rattle.json.specs.Json as json
use Rattle.serde_json.specs.Find.{get_member, as_str}
use Rattle.is_candidate.specs.Infos.{given_line, given_ufrag, line_in, ufrag_in}
use Rattle.is_candidate.proofs.Common.{◌-◌, ◌||◌, ◌∙◌, ◌∷◌, ◌≡◌, ◌≤◌, ap, arith, BeginsWith, Bool, codes, Data, Equal, false}
use Rattle.is_candidate.proofs.Common.{get_member-put, get_member-put_other, Greater, has_float, length, Less, List, member, Members}
use Rattle.is_candidate.proofs.Common.{members, members_end, members_have_float, members_more, no_members, None, object, of_members, Ok}
use Rattle.is_candidate.proofs.Common.{Option, option_and_then, option_map, Ordering, parse_map, put, read_key, read_key-shorter, refl}
use Rattle.is_candidate.proofs.Common.{Some, string, sym, Token, true, value, value-begin_object, ℕ}

neither : (a b : Bool) → a ≡ false → b ≡ false → (a || b) ≡ false
neither a b e f = rw (e, f)

first_false : (a b : Bool) → (a || b) ≡ false → a ≡ false
first_false true b e = e
first_false false b e = refl

second_false : (a b : Bool) → (a || b) ≡ false → b ≡ false
second_false true b e = absurd (cc)
second_false false b e = e

one_of : (o : Ordering) (a b c : Members) → members_have_float a ≡ false → members_have_float b ≡ false → members_have_float c ≡ false → members_have_float (match_ordering o a b c) ≡ false
one_of Less a b c e f g = e
one_of Equal a b c e f g = f
one_of Greater a b c e f g = g

put_whole : (k : List ℕ) (d : Data) (ms : Members) → has_float d ≡ false → members_have_float ms ≡ false → members_have_float (put k d ms) ≡ false
put_whole k d no_members e h = rw e
put_whole k d (member l x ms) e h =
    let head = first_false (has_float x) (members_have_float ms) h in
    let tail = second_false (has_float x) (members_have_float ms) h in
    one_of (slice_cmp nat_cmp k l) _ _ _ (neither _ _ e h) (neither _ _ e tail) (neither _ _ head (put_whole k d ms e tail))

abbrev pub candidate_key : List ℕ
candidate_key = codes "candidate"

abbrev pub ufrag_key : List ℕ
ufrag_key = codes "usernameFragment"

-- the members so far hold no fraction, and this line and this ufrag
pub record Kept (found : Members) (line ufrag : Option (List ℕ)) : Type 0 where
  pub whole : members_have_float found ≡ false
  pub has_line : option_and_then as_str (get_member candidate_key found) ≡ line
  pub has_ufrag : given_ufrag (get_member ufrag_key found) ≡ Ok ufrag

apart : candidate_key ≡ ufrag_key → ⊥
apart e = let lengths : length candidate_key ≡ length ufrag_key = ap length e in omega (arith, lengths)

pub kept_none : Kept no_members None None
kept_none = record { whole = refl; has_line = refl; has_ufrag = refl }

module _ (found : Members) (line ufrag : Option (List ℕ)) (h : Kept found line ufrag) (d : Data) (whole : has_float d ≡ false) where
  pub kept_line : (k s : List ℕ) → k ≡ candidate_key → d ≡ string s → Kept (put k d found) (Some s) ufrag
  kept_line k s key is = record {
    whole = put_whole k d found whole h.whole;
    has_line = rw (key, get_member-put candidate_key d found, is);
    has_ufrag = ap given_ufrag (get_member-put_other ufrag_key k d found (λ e. apart (sym (e ∙ key)))) ∙ h.has_ufrag;
  }

  pub kept_ufrag : (k : List ℕ) (u : Option (List ℕ)) → k ≡ ufrag_key → given_ufrag (Some d) ≡ Ok u → Kept (put k d found) line u
  kept_ufrag k u key is = record {
    whole = put_whole k d found whole h.whole;
    has_line = ap (option_and_then as_str) (get_member-put_other candidate_key k d found (λ e. apart (e ∙ key))) ∙ h.has_line;
    has_ufrag = rw (key, get_member-put ufrag_key d found) is;
  }

  pub kept_other : (k : List ℕ) → (k ≡ candidate_key → ⊥) → (k ≡ ufrag_key → ⊥) → Kept (put k d found) line ufrag
  kept_other k no_line no_ufrag = record {
    whole = put_whole k d found whole h.whole;
    has_line = ap (option_and_then as_str) (get_member-put_other candidate_key k d found (λ e. no_line (sym e))) ∙ h.has_line;
    has_ufrag = ap given_ufrag (get_member-put_other ufrag_key k d found (λ e. no_ufrag (sym e))) ∙ h.has_ufrag;
  }

-- so the object says
pub reported : (found : Members) (line : List ℕ) (ufrag : Option (List ℕ)) → Kept found (Some line) ufrag → (line_in (object found) ≡ Ok line) × (ufrag_in (object found) ≡ Ok ufrag)
reported found line ufrag h = (rw h.whole (ap given_line h.has_line), h.has_ufrag)

-- where n members of what is left are read, those of the whole object are, which make what these make of the ones so far
abbrev pub Goes : List Token → List Token → ℕ → Members → Type 0
Goes object_tokens left n found =
    (ms : json.Members) (rest : List Token) → members (value 126) n left ≡ Some (ms, rest)
    → (all : json.Members) × (members (value 126) (length object_tokens) object_tokens ≡ Some (all, rest)) × (of_members all no_members ≡ of_members ms found)

-- past one member more
pub goes_on : (object_tokens left after_key rest : List Token) (n : ℕ) (found : Members) (k : List ℕ) (d : Data) → length left ≤ n → Goes object_tokens left n found
    → read_key left ≡ Some (Some k, after_key) → BeginsWith 126 after_key d rest → Goes object_tokens rest (n - 1) (put k d found)
goes_on object_tokens left after_key rest n found k d enough goes named begins = λ ms end e.
    let shorter = read_key-shorter left (Some k) after_key named in
    let turn = members_more (value 126) n k left after_key rest begins.0 (omega (arith, enough)) named begins.1 in
    let all = goes (json.member k begins.0 ms) end (turn ∙ ap (parse_map (json.member k begins.0)) e) in
    (all.0, all.1, all.2 ∙ ap (option_and_then (λ x. of_members ms (put k x found))) begins.2)

pub goes_to_the_end : (object_tokens left rest : List Token) (n : ℕ) (found : Members) → length left ≤ n → Goes object_tokens left n found → read_key left ≡ Some (None, rest)
    → BeginsWith 127 (Token.begin_object ∷ object_tokens) (object found) rest
goes_to_the_end object_tokens left rest n found enough goes ends =
    let all = goes json.no_members rest (members_end (value 126) n left rest enough ends) in
    (json.object all.0, value-begin_object 127 object_tokens (omega arith) ∙ ap (parse_map json.object) all.1, ap (option_map object) all.2)
