use Rattle.is_rules.proofs.Common.{is_live, is_sender, IsGreatestBelow, request_view}
use Rattle.is_rules.proofs.places.live_remote_place.Given as goal

abbrev pub invariant-loop-place : goal.invariant-loop-place
invariant-loop-place l = IsGreatestBelow l.place (is_live (is_sender (request_view l.request))) l.remote l.best
