-- A controlled agent whose response came first is connected by the call that passes the nomination. What mutants/specifications changes is read by
-- tactics.
use Rattle.is_rules.specs.Steps as agent
use Rattle.is_theorems.specs.AtOnce.{NominationsSelectAtOnce, WereValidOn}
use Rattle.is_theorems.specs.Runs.{Point}
use Rattle.is_theorems.specs.Staying.{PairsStay, Stays}
use Rattle.is_theorems.proofs.ExecutionLogs.PerAgentExecutions.{entry_of, leads_on, pushed}
use Rattle.is_c_theorems.proofs.Common.{[], ◌&&◌, ◌||◌, ◌∙◌, ◌∷◌, ◌≡◌, AcceptsNomination, agent_time, all_settings_of, answers, ap, Bool}
use Rattle.is_c_theorems.proofs.Common.{Call, calls_onto, Entry, false, HandlePacket, Has, HeldRecord, inl, inr, is_error, is_modern}
use Rattle.is_c_theorems.proofs.Common.{is_modern_profile, is_nominated, is_nominated_and_valid, is_valid, IsConnected, IsInSlot, IsLogOf}
use Rattle.is_c_theorems.proofs.Common.{IsOnlyPair, IsUsed, last_of, last_selected, length, List, Logged, mac_of, newborn}
use Rattle.is_c_theorems.proofs.Common.{NominationsConnect, Option, option_or, PairRecord, PassesPacket, Path, Preference, refl}
use Rattle.is_c_theorems.proofs.Common.{selected_along, sym, true, Used, UsesAddressesOf, ℕ, ℤ}
use Rattle.is_c_theorems.proofs.AlongExecutions.{Set, connected_have_path, gone, is_born, onto_selected}
use Rattle.is_c_theorems.proofs.ConnectedAgents.{Asks, asked_on, held_taken, later_on, valid_on}
use Rattle.is_c_theorems.proofs.DeliveredChecks.{Accepts, Serves, Trades, Twenty, got}
use Rattle.is_c_theorems.proofs.HeldAgents.{Agree, Paths, Turns, more_modern, received, sound_held}
use Rattle.is_c_theorems.proofs.LogsOfCalls.{Ran, any, log_is, run_is, walk}
use Rattle.is_c_theorems.proofs.SettingsOfCalls.{Chosen, Log, begins, modern_by, settings_now}

abbrev pub Once : Type 0
Once = NominationsSelectAtOnce {H = _} {P = Preference} mac_of answers

abbrev pub Stay : Type 0
Stay = PairsStay {H = _} {P = Preference} mac_of answers

-- calls in a log that is numbered from 0 select the path that they select one after another
pushed_along : (xs : List (Call Preference × Entry)) (before : Log) → last_selected (pushed before xs) ≡ selected_along (last_selected before) xs
pushed_along [] before = refl
pushed_along (x ∷ rest) before = pushed_along rest (entry_of before x.0 x.1 ∷ before)

pushed_selected : (log : Log) → last_selected (pushed [] (calls_onto log [])) ≡ last_selected log
pushed_selected log = pushed_along (calls_onto log []) [] ∙ onto_selected log []

module _ (turn : Turns) (paths : Paths) (law : Set) (agree : Agree) (once : Once) where
  at_once : (old new : HeldRecord) → IsInSlot old → (path : Path) (bytes : List ℕ) (code : ℤ) → (p : PassesPacket path bytes old code new) (fine : is_error code ≡ false)
      → (on : Path) → AcceptsNomination old.agent (agent.ReceivePacket (agent_time p.now) path bytes) (received path bytes code old new p fine).entry on
      → new.agent.controlling ≡ false → WereValidOn old.agent new.agent on → IsConnected new
  at_once old new k path bytes code p fine on asked controlled valid =
      let g = received path bytes code old new p fine in
      let call : Call Preference = agent.ReceivePacket (agent_time p.now) path bytes in
      let w = walk turn k.creds k.tie_breaker k.uses old k.session in
      let logs : IsLogOf k.uses w.0 = log_is turn k.creds k.tie_breaker k.uses w.0 old w.1 in
      let run : Ran (newborn k.creds k.tie_breaker) w.0 old.agent = run_is turn k.creds k.tie_breaker k.uses w.0 old w.1 in
      let goes = gone k.creds k.tie_breaker law k.uses w.0 old.agent logs k.modern run in
      let led = leads_on mac_of answers (newborn k.creds k.tie_breaker) (calls_onto w.0 []) [] (newborn k.creds k.tie_breaker) old.agent (λ t. (t, (refl, refl))) goes.0 any in
      let before : Log = pushed [] (calls_onto w.0 []) in
      let x : Logged Preference = entry_of before call g.entry in
      let point : Point mac_of answers (newborn k.creds k.tie_breaker) led.0 (x ∷ before) before old.agent x new.agent = record {
        rest = [];
        split = refl;
        at = any;
        led = led.1;
        number = refl;
        given = tt;
        following = any;
        step = g.step;
      } in
      let modern : is_modern old.agent.timing ≡ true =
      ap (λ (c : Chosen). is_modern_profile c.settings.profile) (settings_now law k.creds k.tie_breaker k.uses w.0 old.agent logs run)
      ∙ modern_by k.uses (begins (all_settings_of (newborn k.creds k.tie_breaker))) k.modern refl in
      let top = once (newborn k.creds k.tie_breaker) led.0 (x ∷ before) (is_born k.creds k.tie_breaker) before old.agent new.agent x point on
      (asked.0, asked.1, asked.2, asked.3, asked.4, controlled) modern valid in
      let u : Used = record { export = HandlePacket p.now p.protocol p.source p.destination bytes; code = code } in
      let y : Logged Preference = record { number = length w.0; call = call; entry = g.entry } in
      let used : IsUsed (u ∷ k.uses) (y ∷ w.0) new = record {
        creds = k.creds;
        tie_breaker = k.tie_breaker;
        logs = inr (w.0, inl (y, refl, record { makes = (path, p.on, refl); answers = g.coded }), logs);
        run = (old.agent, any, any, run, tt, g.step);
      } in
      let same : last_selected (y ∷ w.0) ≡ last_selected (x ∷ before) =
      ap (λ (o : Option Path). option_or (last_of g.entry.emitted.selected_paths) o) (sym (pushed_selected w.0)) in
      let live : is_nominated_and_valid top.0 ≡ true = sym (ap (λ (c : Bool). is_valid top.0 && (c || is_nominated top.0)) controlled) ∙ top.2 in
      (connected_have_path law agree (u ∷ k.uses) (y ∷ w.0) new used (more_modern u k.uses refl k.modern)).1 (top.0, top.1, live, same ∙ top.3)

  module _ (trades : Trades) (twenty : Twenty) (serves : Serves) (accepts : Accepts) (asks : Asks) (stay : Stay) where
    pub nominations_connect : NominationsConnect
    nominations_connect k =
        elim (stay k.asks.check.receiver.agent k.asks.check.served.agent any any
        (agent.ReceivePacket (agent_time k.asks.check.passes.now) k.asks.check.over k.asks.check.check.contents) (got turn paths trades k.asks.check).entry w.0
        (sound_held turn paths k.asks.check.receiver k.asks.check.other_held) tt (got turn paths trades k.asks.check).step w.1) [
          | inl s ↦ at_once k.asks.check.receiver k.asks.check.served k.asks.check.other_held k.asks.check.over k.asks.check.check.contents k.asks.check.code
              k.asks.check.passes k.asks.check.no_error k.path (asked_on turn paths law agree trades twenty serves accepts asks k.path k.asks)
              (search k.asks.still) (were s)
          | inr none ↦ absurd none
        ] where
          w : (p : PairRecord) × Has k.asks.check.receiver.agent.pairs p × (is_valid p ≡ true) × UsesAddressesOf k.asks.check.receiver.agent k.path p
          w =
              later_on turn paths law agree trades twenty serves accepts asks k.path k.own.back.taken k.asks.check.receiver (λ p. is_valid p)
              (held_taken turn paths law agree trades twenty serves accepts asks k.path k.own) (search k.earlier) (search k.there) (λ p q c. c.valid)
              (valid_on turn paths law agree trades twenty serves accepts asks k.path k.own)

          were : Stays k.asks.check.receiver.agent w.0 k.asks.check.served.agent → WereValidOn k.asks.check.receiver.agent k.asks.check.served.agent k.path
          were s p there on =
              let only : IsOnlyPair k.asks.check.served.agent k.path = search k.only_one in
              let one_ : s.pair ≡ p = only s.pair p s.there there
              (ap (λ (v : Path). v.source) s.path ∙ w.3.0, ap (λ (v : Path). v.destination) s.path ∙ w.3.1)
              (ap (λ (v : Path). v.source) on, ap (λ (v : Path). v.destination) on) in
              (w.0, w.1, sym s.number ∙ ap (λ (r : PairRecord). r.number) one_, w.2)
