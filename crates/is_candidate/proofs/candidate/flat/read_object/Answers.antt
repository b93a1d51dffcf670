use Rattle.std.proofs.Common.{option_copied}
use Rattle.is_candidate.proofs.Common.{◌-◌, ◌∷◌, ◌≡◌, arith, BeginsWith, length, no_members, object, put, read_key, read_key-shorter, refl}
use Rattle.is_candidate.proofs.Common.{rules, Some, subst, sym, Token}
use Rattle.is_candidate.proofs.CandidateJson.MembersSoFar.{Kept, kept_none, kept_line, kept_ufrag, kept_other, reported, goes_on}
use Rattle.is_candidate.proofs.CandidateJson.MembersSoFar.{goes_to_the_end}
use Rattle.is_candidate.proofs.candidate.flat.read_object.Goals as goal

pub members-init : goal.members-init
members-init c = (length c.next.new.self, no_members, omega arith, λ ms rest e. (ms, e, refl), kept_none)

pub members-preserved-then-eq : goal.members-preserved-then-eq
members-preserved-then-eq c =
    let l = c.members in
    let n = l.invariant.0 in
    let found = l.invariant.1 in
    let k = c.in-Some.key.now in
    let named : read_key l.reader ≡ Some (Some k, c.next_key.new.self) = grind arith in
    let less = read_key-shorter l.reader (Some k) c.next_key.new.self named in
    let read = c.in_ok-member.ensures in
    let d = read.plain.0 in
    let shorter = read.shorter in
    let on = goes_on c.next.new.self l.reader c.next_key.new.self c.read_plain.new.reader n found k d l.invariant.2 l.invariant.3 named (read.plain.3 126) in
    let kept = kept_line found (option_copied l.line) (option_copied l.ufrag) l.invariant.4 d read.plain.2 k in
    (n - 1, put k d found, omega (arith, l.invariant.2), on, kept _ (search rules) (c.in_ok-text_of.ensures d read.plain.1))

pub members-preserved-then-eq-2 : goal.members-preserved-then-eq-2
members-preserved-then-eq-2 c =
    let l = c.members in
    let n = l.invariant.0 in
    let found = l.invariant.1 in
    let k = c.in-Some.key.now in
    let named : read_key l.reader ≡ Some (Some k, c.next_key.new.self) = grind arith in
    let less = read_key-shorter l.reader (Some k) c.next_key.new.self named in
    let read = c.in_ok-member.ensures in
    let d = read.plain.0 in
    let shorter = read.shorter in
    let on = goes_on c.next.new.self l.reader c.next_key.new.self c.read_plain.new.reader n found k d l.invariant.2 l.invariant.3 named (read.plain.3 126) in
    let kept = kept_ufrag found (option_copied l.line) (option_copied l.ufrag) l.invariant.4 d read.plain.2 k in
    (n - 1, put k d found, omega (arith, l.invariant.2), on, kept _ (search rules) (c.in_ok-ufrag.ensures d read.plain.1))

pub members-preserved : goal.members-preserved
members-preserved c =
    let l = c.members in
    let n = l.invariant.0 in
    let found = l.invariant.1 in
    let k = c.in-Some.key.now in
    let named : read_key l.reader ≡ Some (Some k, c.next_key.new.self) = grind arith in
    let less = read_key-shorter l.reader (Some k) c.next_key.new.self named in
    let read = c.in_ok-member.ensures in
    let d = read.plain.0 in
    let shorter = read.shorter in
    let on = goes_on c.next.new.self l.reader c.next_key.new.self c.read_plain.new.reader n found k d l.invariant.2 l.invariant.3 named (read.plain.3 126) in
    let kept = kept_other found (option_copied l.line) (option_copied l.ufrag) l.invariant.4 d read.plain.2 k in
    (n - 1, put k d found, omega (arith, l.invariant.2), on, kept (search rules) (search rules))

pub returns : goal.returns
returns c =
    let l = c.members in
    let found = l.invariant.1 in
    let first : c.args.reader.now ≡ Token.begin_object ∷ c.next.new.self = grind arith in
    let line : option_copied l.line ≡ Some c.in_ok-ok_or.field-0.now = search rules in
    let begins = goes_to_the_end c.next.new.self l.reader c.next_key.new.self l.invariant.0 found l.invariant.2 l.invariant.3 (grind arith) in
    let kept : Kept found (Some c.in_ok-ok_or.field-0.now) (option_copied l.ufrag) = subst (λ o. Kept found o (option_copied l.ufrag)) line l.invariant.4 in
    (object found, subst (λ ts. BeginsWith 127 ts (object found) c.next_key.new.self) (sym first) begins, reported found c.in_ok-ok_or.field-0.now (option_copied l.ufrag) kept)
