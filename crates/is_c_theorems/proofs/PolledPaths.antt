-- The path that C gets by a `NominatedSend` waited before. What mutants/specifications changes is read by tactics.
use Rattle.is_rules.specs.declared.event.IceAgentEvent.TheVariants.{IceRestart, IceConnectionStateChange, DiscoveredRecv, NominatedSend}
use Rattle.is_monitor.specs.declared.monitor.Silence.{Silence}
use Rattle.is_monitor.specs.declared.monitor.Silence.TheVariants.{Silent, Heard}
use Rattle.is_c_theorems.proofs.Common.{◌∙◌, ◌≡◌, ap, Does, Event, Has, HeldRecord, IceAgentEvent, inl, IsEvent, IsPolled, List, Monitor}
use Rattle.is_c_theorems.proofs.Common.{next_silence, None, OK, Option, option_and_then, option_map, packet_path, Path, PollEvent, pos}
use Rattle.is_c_theorems.proofs.Common.{Protocol, protocol_of, ReturnsFirst, ReturnsSilence, selecting, Selects, socket_of, SocketAddr}
use Rattle.is_c_theorems.proofs.Common.{Some, subst, sym, Use, Used, ℤ}

whole : (after : Event) (proto : Protocol) (source destination : SocketAddr) → protocol_of after.protocol ≡ Some proto → socket_of after.source ≡ Some source
    → socket_of after.destination ≡ Some destination
    → packet_path after.protocol after.source after.destination ≡ Some (record { proto = proto; source = source; destination = destination })
whole after proto source destination p s d =
    ap (λ o. option_and_then (λ proto. option_and_then (λ source. option_map (λ to. record { proto = proto; source = source; destination = to }) (socket_of after.destination)) (socket_of after.source)) o) p
    ∙ (ap (λ o. option_and_then (λ source. option_map (λ to. record { proto = proto; source = source; destination = to }) (socket_of after.destination)) o) s
    ∙ ap (λ o. option_map (λ to. record { proto = proto; source = source; destination = to }) o) d)

event_path : (e : IceAgentEvent) (before after : Event) (path : Path) → IsEvent e before after → after.kind ≡ pos 4
    → packet_path after.protocol after.source after.destination ≡ Some path → e ≡ selecting path
event_path (IceRestart creds) before after path is kind to =
    let wrong_ : pos 1 ≡ pos 4 = sym (ap (λ (x : Event). x.kind) is) ∙ kind in absurd (cc)
event_path (IceConnectionStateChange state) before after path is kind to =
    let wrong_ : pos 2 ≡ pos 4 = sym (ap (λ (x : Event). x.kind) is) ∙ kind in absurd (cc)
event_path (DiscoveredRecv proto source) before after path (is, p, s) kind to =
    let wrong_ : pos 3 ≡ pos 4 = sym (ap (λ (x : Event). x.kind) is) ∙ kind in absurd (cc)
event_path (NominatedSend proto source destination) before after path (is, p, s, d) kind to =
    ap (λ (o : Path). selecting o) (some_path (record { proto = proto; source = source; destination = destination }) path (sym (whole after proto source destination p s d) ∙ to)) where
      some_path : (x y : Path) → Some x ≡ Some y → x ≡ y
      some_path x y same = let k : x ≡ y = cc in k

-- what the monitor reports is no such event
not_reported : {Z : Type 0} (silence : Option Silence) (before after : Event) → ReturnsSilence silence before after OK → after.kind ≡ pos 4 → Z
not_reported None before after (coded, same) kind = let wrong_ : pos 0 ≡ pos 1 = coded in absurd (cc)
not_reported (Some (Silent path)) before after (coded, (is, p, s, d)) kind =
    let wrong_ : pos 5 ≡ pos 4 = sym (ap (λ (x : Event). x.kind) is) ∙ kind in absurd (cc)
not_reported (Some (Heard path)) before after (coded, (is, p, s, d)) kind =
    let wrong_ : pos 6 ≡ pos 4 = sym (ap (λ (x : Event). x.kind) is) ∙ kind in absurd (cc)

-- the path that C gets waited before
poll : (given : Option IceAgentEvent) (m : Monitor) (before after : Event) (path : Path) (old new : List IceAgentEvent) → ReturnsFirst given m before after OK
    → IsPolled old given new
    → after.kind ≡ pos 4 → packet_path after.protocol after.source after.destination ≡ Some path → Has old (selecting path)
poll None m before after path old new returns polls kind to = not_reported (next_silence m) before after returns kind
poll (Some e) m before after path old new (coded, is) polls kind to =
    subst (λ (es : List IceAgentEvent). Has es (selecting path)) (sym polls) (inl (event_path e before after path is kind to))

pub waited : (u : Used) (held after : HeldRecord) (path : Path) → Does u.export held u.code after → Selects u path → Has held.agent.events (selecting path)
waited u held after path does (b, a, is, kind, to, ok) =
    let d : Does (PollEvent b a) held OK after = subst (λ (e : Use). Does e held OK after) is (subst (λ (c : ℤ). Does u.export held c after) ok does) in
    poll d.0 held.monitor b a path held.agent.events after.agent.events d.2 d.1.0 (search kind) to
