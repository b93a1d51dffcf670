use Rattle.is_turn.proofs.turn.TurnClient.take_response.Goals as goal

pub returns-clause-step : goal.returns-clause-step
returns-clause-step g c = rw c.clear_if_ended.ensures.session (rw c.clear_if_ended.ensures.credentials c.answer-received.ensures.step)
