use Rattle.json.specs.Json as Json
use Rattle.json.specs.Reads.{token_of}
use Rattle.is_candidate.proofs.Common.{◌∙◌, ◌∷◌, ◌≡◌, ap, arith, boolean, null, number, refl, string, Token, unsigned, value, value_is}
use Rattle.is_candidate.proofs.candidate.flat.read_plain.Goals as goal

pub returns-in-String-clause-plain : goal.returns-in-String-clause-plain
returns-in-String-clause-plain c =
    let first : c.args.reader.now ≡ token_of c.in_ok-text.field-0 ∷ c.next.new.self = grind arith in
    let is : c.args.reader.now ≡ Token.string c.in-String.text.now ∷ c.next.new.self = grind (arith, first) in
    (string c.in-String.text.now, refl, refl, λ depth. (Json.string c.in-String.text.now, ap (value depth) is ∙ value_is depth _, refl))

pub returns-in-Null-clause-plain : goal.returns-in-Null-clause-plain
returns-in-Null-clause-plain c =
    let first : c.args.reader.now ≡ token_of c.in_ok-text.field-0 ∷ c.next.new.self = grind arith in
    let is : c.args.reader.now ≡ Token.null ∷ c.next.new.self = grind (arith, first) in
    (null, refl, refl, λ depth. (Json.null, ap (value depth) is ∙ value_is depth _, refl))

pub returns-in-Bool-clause-plain : goal.returns-in-Bool-clause-plain
returns-in-Bool-clause-plain c =
    let first : c.args.reader.now ≡ token_of c.in_ok-text.field-0 ∷ c.next.new.self = grind arith in
    let is : c.args.reader.now ≡ Token.boolean c.in-Bool.field-0 ∷ c.next.new.self = grind (arith, first) in
    (boolean c.in-Bool.field-0, tt, refl, λ depth. (Json.boolean c.in-Bool.field-0, ap (value depth) is ∙ value_is depth _, refl))

pub returns-else-not-is_unsigned-clause-plain : goal.returns-else-not-is_unsigned-clause-plain
returns-else-not-is_unsigned-clause-plain c =
    let first : c.args.reader.now ≡ token_of c.in_ok-text.field-0 ∷ c.next.new.self = grind arith in
    let is : c.args.reader.now ≡ Token.number c.in-Number.text.now ∷ c.next.new.self = grind (arith, first) in
    let whole = c.if-not-is_unsigned.ensures refl in
    (number (unsigned whole.0), tt, refl, λ depth. (Json.number c.in-Number.text.now, ap (value depth) is ∙ value_is depth _, rw whole.1))
