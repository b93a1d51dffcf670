use Rattle.is.proofs.AgentLogs.GrowingLog.{run_of, entries_persist}
use Rattle.is.proofs.AgentLogs.UnacceptedBytes.{packets_are_handled}
use Rattle.is.proofs.AgentLogs.PollingOrder.{others_issue_none, queues_are_kept}
use Rattle.is.proofs.AgentLogs.PlainAgents.{plain_never_lite, headline}
use Rattle.is.proofs.AgentLogs.StoredAndQueued.{queues_stay_short, discoveries_are_few}
use Rattle.is.proofs.AgentLogs.SentChecks.{asked_pairs_stay_few, checks_stay_paced, seconds_stay_short, silent_pairs_stay_few}
use Rattle.is.proofs.AgentLogs.ReportedPaths.{queued_are_selected, polled_are_selected, polled_are_answered, polled_are_nominated_by_peer, settings_are_those_set}
use Rattle.is.proofs.runs.run.Goals as goal

pub returns-clause-entries : goal.returns-clause-entries
returns-clause-entries g c = entries_persist _ _ c.entries_are_points.ensures _ _ _ _ _ (run_of _ _ _ _ _ _ c.args.calls.items c.run_calls.result c.run_calls.ensures)

pub returns-clause-headline : goal.returns-clause-headline
returns-clause-headline g c = λ fresh plain. (
    let never = plain_never_lite _ plain in
    headline _ _ c.settings_are_set.ensures _ _ _ fresh plain (packets_are_handled _ _ _ _ _) (c.selected_are_answered.ensures _ _ _ fresh never)
    (c.points_are_top.ensures _ _ _ fresh) (c.selected_are_nominated_by_peer.ensures _ _ _ fresh never))

pub returns-clause-unaccepted : goal.returns-clause-unaccepted
returns-clause-unaccepted g c = packets_are_handled _ _ _ _ _

pub returns-clause-answered : goal.returns-clause-answered
returns-clause-answered g c = c.selected_are_answered.ensures _ _ _

pub returns-clause-peer_nominated : goal.returns-clause-peer_nominated
returns-clause-peer_nominated g c = c.selected_are_nominated_by_peer.ensures _ _ _

pub returns-clause-nomination : goal.returns-clause-nomination
returns-clause-nomination g c = c.points_are_top.ensures _ _ _

pub returns-clause-successes : goal.returns-clause-successes
returns-clause-successes g c = c.answers_select.ensures _ _ _

pub returns-clause-nominations : goal.returns-clause-nominations
returns-clause-nominations g c = c.timeouts_select.ensures _ _ _

pub returns-clause-connected : goal.returns-clause-connected
returns-clause-connected g c = c.selected_have_consent.ensures _ _ _

pub returns-clause-connected_answered : goal.returns-clause-connected_answered
returns-clause-connected_answered g c = c.selected_are_alive.ensures _ _ _

pub returns-clause-replaced : goal.returns-clause-replaced
returns-clause-replaced g c = c.paths_are_replaced.ensures _ _ _

pub returns-clause-parts : goal.returns-clause-parts
returns-clause-parts g c = c.parts_are_runs.ensures _ _ _ _ _ (run_of _ _ _ _ _ _ c.args.calls.items c.run_calls.result c.run_calls.ensures)

pub returns-clause-of_use : goal.returns-clause-of_use
returns-clause-of_use g c = c.cycles_are_of_use.ensures _ _ _

pub returns-clause-rounds : goal.returns-clause-rounds
returns-clause-rounds g c = c.open_rounds_select.ensures _ _ _

pub returns-clause-due_rounds : goal.returns-clause-due_rounds
returns-clause-due_rounds g c = c.due_rounds_select.ensures _ _ _

pub returns-clause-in_time : goal.returns-clause-in_time
returns-clause-in_time g c = c.reached_in_time.ensures _ _ _

pub returns-clause-selects_in_time : goal.returns-clause-selects_in_time
returns-clause-selects_in_time g c = c.selected_in_time.ensures _ _ _

pub returns-clause-none_starved_in_time : goal.returns-clause-none_starved_in_time
returns-clause-none_starved_in_time g c = c.none_is_starved_in_time.ensures _ _ _

pub returns-clause-takers : goal.returns-clause-takers
returns-clause-takers g c = c.takers_are_valid.ensures _ _ _

pub returns-clause-nominated : goal.returns-clause-nominated
returns-clause-nominated g c = c.asked_are_nominated.ensures _ _ _

pub returns-clause-issues : goal.returns-clause-issues
returns-clause-issues g c = others_issue_none _ _ _ _ _

pub returns-clause-replies : goal.returns-clause-replies
returns-clause-replies g c = λ fresh. c.replies_are_among.ensures _ _ _ _ _ fresh (run_of _ _ _ _ _ _ c.args.calls.items c.run_calls.result c.run_calls.ensures)

pub returns-clause-bounded : goal.returns-clause-bounded
returns-clause-bounded g c = c.limits_bound.ensures _ _ _

pub returns-clause-few : goal.returns-clause-few
returns-clause-few g c = c.limits_pairs.ensures.few _ _ _

pub returns-clause-limited : goal.returns-clause-limited
returns-clause-limited g c = c.limits_pairs.ensures.bounded _ _ _

pub returns-clause-waiting : goal.returns-clause-waiting
returns-clause-waiting g c = queues_stay_short _ _ c.queues_are_short.ensures _ _ _

pub returns-clause-discovered : goal.returns-clause-discovered
returns-clause-discovered g c = discoveries_are_few _ _ c.discoveries_stay_few.ensures _ _ _

pub returns-clause-order : goal.returns-clause-order
returns-clause-order g c = queues_are_kept _ _ c.queues_are_kept.ensures _ _ _

pub returns-clause-polled : goal.returns-clause-polled
returns-clause-polled g c = polled_are_selected _ _ c.waiting_are_selected.ensures _ _ _

pub returns-clause-polled_answered : goal.returns-clause-polled_answered
returns-clause-polled_answered g c = polled_are_answered _ _ c.waiting_are_answered.ensures _ _ _

pub returns-clause-polled_nominated : goal.returns-clause-polled_nominated
returns-clause-polled_nominated g c = polled_are_nominated_by_peer _ _ c.waiting_are_nominated_by_peer.ensures _ _ _

pub returns-clause-events : goal.returns-clause-events
returns-clause-events g c = queued_are_selected _ _ c.events_are_selected.ensures _ _ _

pub returns-clause-settings : goal.returns-clause-settings
returns-clause-settings g c = settings_are_those_set _ _ c.settings_are_set.ensures _ _ _

pub returns-clause-paced : goal.returns-clause-paced
returns-clause-paced g c fresh = checks_stay_paced _ _ _ _ _ fresh c.checks_are_paced.ensures.paced

pub returns-clause-seconds : goal.returns-clause-seconds
returns-clause-seconds g c fresh = seconds_stay_short _ _ _ _ _ fresh c.checks_are_paced.ensures.seconds

pub returns-clause-silent : goal.returns-clause-silent
returns-clause-silent g c fresh = silent_pairs_stay_few _ _ _ _ _ fresh c.silent_pairs_get_few.ensures.few

pub returns-clause-asked : goal.returns-clause-asked
returns-clause-asked g c fresh = asked_pairs_stay_few _ _ _ _ _ fresh c.silent_pairs_get_few.ensures.asked
