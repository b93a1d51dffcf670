use Rattle.is_turn.proofs.Common.{◌∙◌, message_view, sym}
use Rattle.is_turn.proofs.Answers.{unparsed, asked, unasked}
use Rattle.is_turn.proofs.answer.answer_in.Goals as goal

pub returns-in_default-clause-answer : goal.returns-in_default-clause-answer
returns-in_default-clause-answer c = unparsed c.args.pending c.args.bytes.now _ c.in_default.ensures

pub returns-then-is_answer-clause-answer : goal.returns-then-is_answer-clause-answer
returns-then-is_answer-clause-answer c =
    c.said_in.ensures ∙ asked c.args.pending c.args.bytes.now (message_view c.in-Ok.message) c.is_answer.result c.in-Ok.ensures c.is_answer.ensures c.if-is_answer.true

pub returns-then-is_answer-clause-own : goal.returns-then-is_answer-clause-own
returns-then-is_answer-clause-own c = λ own. (message_view c.in-Ok.message, c.in-Ok.ensures, sym c.is_answer.ensures ∙ c.if-is_answer.true)

pub returns-else-is_answer-clause-answer : goal.returns-else-is_answer-clause-answer
returns-else-is_answer-clause-answer c =
    unasked c.args.pending c.args.bytes.now (message_view c.in-Ok.message) c.is_answer.result c.in-Ok.ensures c.is_answer.ensures c.if-is_answer.false
