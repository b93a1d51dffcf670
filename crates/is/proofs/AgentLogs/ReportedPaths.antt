-- What events report along a log, and what the settings are. What mutants/specifications changes is read by tactics.
use Rattle.is_rules.specs.declared.event.IceAgentEvent.{IceAgentEvent}
use Rattle.is_theorems.specs.Logs as agent
use Rattle.is_theorems.specs.Polled.{IsControlledSinceRestart, WaitingAreSelected, WaitingAreAnswered, WaitingAreNominatedByPeer}
use Rattle.is_theorems.specs.Reporting.{EventsAreSelected, selecting}
use Rattle.is.specs.Reported.{ReportsPath, QueuedAreSelected, PolledAreSelected, PolledAreAnswered, PolledAreNominatedByPeer}
use Rattle.is.specs.Reported.{SettingsAreThoseSet, BothReportSelected, BothReportAnswered, BothKeepSettings}
use Rattle.is.proofs.Common.{[], ◌++◌, ◌∙◌, ◌∷◌, ◌≡◌, AgentRecord, all_settings_of, Answer, ap, at, Call, CandidateRecord, Entry, Happened}
use Rattle.is.proofs.Common.{Has, inl, IsFresh, IsPolled, List, LoggedEvent, NeverLite, None, Option, own_log, Path, Point, refl}
use Rattle.is.proofs.Common.{settings_after, settings_along, SettingsAreSet, SettingsRecord, shared_run, SharedRun, Some, Step, Stream}
use Rattle.is.proofs.Common.{Streams, subst, sym, WorldRecord, ℕ}
use Rattle.is.proofs.AgentLogs.StoredAndQueued.{new_first, own_run}

abbrev happened-in : Answer → Option IceAgentEvent
happened-in (Happened given) = given
happened-in _ = None

-- the event that a poll returns was the first one
first-polled : (given : Option IceAgentEvent) (e : IceAgentEvent) (old new : List IceAgentEvent) → given ≡ Some e → IsPolled old given new → Has old e
first-polled given e old new is polled =
    let begins : old ≡ e ∷ new = subst (λ (o : Option IceAgentEvent). IsPolled old o new) is polled in
    subst (λ (es : List IceAgentEvent). Has es e) (sym begins) (inl refl)

module _ {H P : Type 0} (mac : H → List ℕ → List ℕ → List ℕ) (answers : P → CandidateRecord → ℕ → ℕ → Type 0) where
  -- ---- one agent

  -- what `poll_event` returns waited before it
  waited : (old new : AgentRecord H P) (s t : Stream) (x : agent.Logged P) (path : Path) → Step mac answers old s x.call x.entry new t → ReportsPath x path
      → Has old.events (selecting path)
  waited old new s t x path step (polls, returns) =
      let k = subst (λ (c : Call P). Step mac answers old s c x.entry new t) polls step in
      let returned : x.entry.answer ≡ Happened (Some (selecting path)) = search returns in
      let given_is : k.0 ≡ Some (selecting path) = ap (λ (a : Answer). happened-in a) (sym (ap (λ (e : Entry). e.answer) k.1) ∙ returned) in
      first-polled k.0 (selecting path) old.events new.events given_is k.2.0

  pub queued_are_selected : EventsAreSelected {H = H} mac answers → (first : AgentRecord H P) (s : Stream) (log : List (agent.Logged P)) → QueuedAreSelected mac answers first s log
  queued_are_selected law first s log before mid after x point path has =
      let waits : Has after.events (selecting path) = search has in
      search (law mid after point.at point.following x.call x.entry point.step path waits)

  pub polled_are_selected : WaitingAreSelected {H = H} mac answers → (first : AgentRecord H P) (s : Stream) (log : List (agent.Logged P)) → IsFresh first
      → PolledAreSelected mac answers first s log
  polled_are_selected law first s log fresh before mid after x point path reports =
      let polled : ReportsPath x path = search reports in
      search (law first mid before (new_first mac answers first fresh) (shared_run mac answers first s before mid point.at point.led) path
      (waited mid after point.at point.following x path point.step polled))

  never_lite_before : (rest before : List (agent.Logged P)) (x : agent.Logged P) → NeverLite (rest ++ x ∷ before) → NeverLite before
  never_lite_before [] before x h = h.1
  never_lite_before (y ∷ rest) before x h = never_lite_before rest before x h.1

  never_lite_at : (first : AgentRecord H P) (s : Stream) (log before : List (agent.Logged P)) (mid : AgentRecord H P) (x : agent.Logged P) (after : AgentRecord H P)
      → Point mac answers first s log before mid x after → NeverLite log → NeverLite before
  never_lite_at first s log before mid x after point never_lite =
      never_lite_before point.rest before x (subst (λ (l : List (agent.Logged P)). NeverLite l) point.split never_lite)

  pub polled_are_answered : WaitingAreAnswered {H = H} mac answers → (first : AgentRecord H P) (s : Stream) (log : List (agent.Logged P)) → IsFresh first → NeverLite log
      → PolledAreAnswered mac answers first s log
  polled_are_answered law first s log fresh never_lite before mid after x point path reports =
      let polled : ReportsPath x path = search reports in
      search (law first mid before (new_first mac answers first fresh) (never_lite_at first s log before mid x after point never_lite)
      (shared_run mac answers first s before mid point.at point.led) path (waited mid after point.at point.following x path point.step polled))

  pub polled_are_nominated_by_peer : WaitingAreNominatedByPeer {H = H} mac answers → (first : AgentRecord H P) (s : Stream) (log : List (agent.Logged P)) → IsFresh first
      → NeverLite log → PolledAreNominatedByPeer mac answers first s log
  polled_are_nominated_by_peer law first s log fresh never_lite before mid after x point controlled path reports =
      let polled : ReportsPath x path = search reports in
      let since : IsControlledSinceRestart mac answers first before mid (shared_run mac answers first s before mid point.at point.led) = search controlled in
      search (law first mid before (new_first mac answers first fresh) (never_lite_at first s log before mid x after point never_lite)
      (shared_run mac answers first s before mid point.at point.led) since path (waited mid after point.at point.following x path point.step polled))

  -- ---- settings

  settings_last : SettingsAreSet {H = H} {P = P} mac answers → (first last : AgentRecord H P) (log : List (agent.Logged P)) → SharedRun mac answers first log last
      → all_settings_of last ≡ settings_along (all_settings_of first) log
  settings_last law first last [] run = ap (λ (a : AgentRecord H P). all_settings_of a) run
  settings_last law first last (x ∷ before) (mid, s, t, run, given, step) =
      law mid last s t x.call x.entry step
      ∙ ap (λ (k : SettingsRecord P). settings_after x.call x.entry.answer k) (settings_last law first mid before run)

  pub settings_are_those_set : SettingsAreSet {H = H} {P = P} mac answers → (first : AgentRecord H P) (s : Stream) (log : List (agent.Logged P)) → SettingsAreThoseSet mac answers first s log
  settings_are_those_set law first s log before mid after x point =
      search (law mid after point.at point.following x.call x.entry point.step
      ∙ ap (λ (k : SettingsRecord P). settings_after x.call x.entry.answer k)
      (settings_last law first mid before (shared_run mac answers first s before mid point.at point.led)))

  -- ---- two agents

  pub both_report_selected : WaitingAreSelected {H = H} mac answers → (first : WorldRecord H P) (s : Streams) (log : List (LoggedEvent P)) → BothReportSelected mac answers first s log
  both_report_selected law first s log last t run before rest x side new split path has =
      let k = own_run mac answers (λ a y. Unit {0}) first s log last t run before rest x side split (λ z has y own. tt) in
      let waits : Has (at side x.following).events (selecting path) = search has in
      search (law (at side first) (at side x.following) (own_log side [] (before ++ x ∷ [])) (new side) k.0 path waits)

  pub both_report_answered : WaitingAreAnswered {H = H} mac answers → (first : WorldRecord H P) (s : Streams) (log : List (LoggedEvent P)) → BothReportAnswered mac answers first s log
  both_report_answered law first s log last t run before rest x side new split never_lite path has =
      let k = own_run mac answers (λ a y. Unit {0}) first s log last t run before rest x side split (λ z has y own. tt) in
      let never : NeverLite (own_log side [] (before ++ x ∷ [])) = search never_lite in
      let waits : Has (at side x.following).events (selecting path) = search has in
      search (law (at side first) (at side x.following) (own_log side [] (before ++ x ∷ [])) (new side) never k.0 path waits)

  pub both_keep_settings : SettingsAreSet {H = H} {P = P} mac answers → (first : WorldRecord H P) (s : Streams) (log : List (LoggedEvent P)) → BothKeepSettings mac answers first s log
  both_keep_settings law first s log last t run before rest x side new split =
      let k = own_run mac answers (λ a y. Unit {0}) first s log last t run before rest x side split (λ z has y own. tt) in
      search (settings_last law (at side first) (at side x.following) (own_log side [] (before ++ x ∷ [])) k.0)
