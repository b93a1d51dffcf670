use Rattle.is.proofs.AgentLogs.StoredAndQueued.{both_are_bounded, both_have_few_pairs, both_are_short, both_discover_few}
use Rattle.is.proofs.AgentLogs.ReportedPaths.{both_report_selected, both_report_answered, both_keep_settings}
use Rattle.is.proofs.RolesAndChains.OriginalAgents.{roles_headline}
use Rattle.is.proofs.world.TwoAgents.run.Goals as goal

pub returns-clause-headline : goal.returns-clause-headline
returns-clause-headline g c = roles_headline _ _ _ _ _ (c.greater_keeps.ensures _ _ _ _ _ c.run_events.result c.run_events.ensures)
    (c.lesser_switches_once.ensures _ _ _ _ _ c.run_events.result c.run_events.ensures) (c.roles_differ_once_met.ensures _ _ _)

pub returns-clause-keeps : goal.returns-clause-keeps
returns-clause-keeps g c = c.greater_keeps.ensures _ _ _ _ _ c.run_events.result c.run_events.ensures

pub returns-clause-switches_role : goal.returns-clause-switches_role
returns-clause-switches_role g c = c.lesser_switches_once.ensures _ _ _ _ _ c.run_events.result c.run_events.ensures

pub returns-clause-differ : goal.returns-clause-differ
returns-clause-differ g c = c.roles_differ_once_met.ensures _ _ _

pub returns-clause-traced : goal.returns-clause-traced
returns-clause-traced g c = c.selected_are_traced.ensures _ _ _ _ _ c.run_events.result c.run_events.ensures

pub returns-clause-rounds : goal.returns-clause-rounds
returns-clause-rounds g c = c.delivered_rounds_select.ensures _ _ _

pub returns-clause-nomination_accepted : goal.returns-clause-nomination_accepted
returns-clause-nomination_accepted g c = c.accepted_nominations_select.ensures _ _ _

pub returns-clause-meet : goal.returns-clause-meet
returns-clause-meet g c = c.roles_meet.ensures _ _ _

pub returns-clause-connect : goal.returns-clause-connect
returns-clause-connect g c = c.both_connect.ensures _ _ _

pub returns-clause-in_time : goal.returns-clause-in_time
returns-clause-in_time g c = c.checks_come_in_time.ensures _ _ _

pub returns-clause-selects_in_time : goal.returns-clause-selects_in_time
returns-clause-selects_in_time g c = c.selections_come_in_time.ensures _ _ _

pub returns-clause-mirror : goal.returns-clause-mirror
returns-clause-mirror g c = c.lone_paths_mirror.ensures _ _ _

pub returns-clause-one_path : goal.returns-clause-one_path
returns-clause-one_path g c = c.one_path_is_selected.ensures _ _ _

pub returns-clause-by_number : goal.returns-clause-by_number
returns-clause-by_number g c = c.leading_path_is_selected.ensures _ _ _

pub returns-clause-both : goal.returns-clause-both
returns-clause-both g c = c.both_select.ensures _ _ _

pub returns-clause-bounded : goal.returns-clause-bounded
returns-clause-bounded g c = both_are_bounded _ _ c.lists_stay_bounded.ensures _ _ _

pub returns-clause-few : goal.returns-clause-few
returns-clause-few g c = both_have_few_pairs _ _ c.pairs_stay_few.ensures _ _ _

pub returns-clause-waiting : goal.returns-clause-waiting
returns-clause-waiting g c = both_are_short _ _ c.queues_are_short.ensures _ _ _

pub returns-clause-discovered : goal.returns-clause-discovered
returns-clause-discovered g c = both_discover_few _ _ c.discoveries_stay_few.ensures _ _ _

pub returns-clause-events : goal.returns-clause-events
returns-clause-events g c = both_report_selected _ _ c.waiting_are_selected.ensures _ _ _

pub returns-clause-events_answered : goal.returns-clause-events_answered
returns-clause-events_answered g c = both_report_answered _ _ c.waiting_are_answered.ensures _ _ _

pub returns-clause-settings : goal.returns-clause-settings
returns-clause-settings g c = both_keep_settings _ _ c.settings_are_set.ensures _ _ _
