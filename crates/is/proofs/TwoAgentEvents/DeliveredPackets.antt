-- A packet that is delivered to a side is a call of it.
use Rattle.is_rules.specs.Steps as agent
use Rattle.is.specs.World as world
use Rattle.is.proofs.Common.{[], ◌∷◌, A, acts, at, B, CandidateRecord, Delivered, Event, Hands, Happens, Has, inl, List, LoggedEvent, only}
use Rattle.is.proofs.Common.{other, Packet, Path, received_as, refl, Side, source_of, Streams, subst, sym, TakesTurn, WorldRecord, ℕ}
use Rattle.is.proofs.TwoAgentEvents.OwnExecutions.{twice, turn_step}

only_self : {X : Type 0} (side : Side) (x : X) → Has (only side (other (other side)) (x ∷ [])) x
only_self A x = inl refl
only_self B x = inl refl

-- the packet on another path
abbrev pub rewritten : Path → Packet → Packet
rewritten via packet = record { proto = via.proto; source = via.source; destination = via.destination; contents = packet.contents }

module _ {H P : Type 0} (mac : H → List ℕ → List ℕ → List ℕ) (answers : P → CandidateRecord → ℕ → ℕ → Type 0) where
  -- ---- a packet that is delivered

  pub handed : (side : Side) (via : Path) (packet : Packet) (w w' : WorldRecord H P) (s t : Streams) (x : LoggedEvent P) → (h : Hands side via packet w x) → Happens mac answers w s x.event x.outcome w' t
      → TakesTurn mac answers w s side (agent.ReceivePacket h.now via packet.contents) x.outcome w' t
  handed side via packet w w' s t x h happens =
      subst (λ z. TakesTurn mac answers w s z (agent.ReceivePacket h.now via packet.contents) x.outcome w' t) (twice side)
      (subst (λ o. world.Delivers mac answers w s o h.now via x.outcome w' t) h.sent
      (subst (λ (v : Event P). Happens mac answers w s v x.outcome w' t) h.event happens))

  pub handed_has : (side : Side) (via : Path) (packet : Packet) (w : WorldRecord H P) (x : LoggedEvent P) → (h : Hands side via packet w x)
      → Has (acts side w x.event x.outcome.entry) (agent.ReceivePacket h.now via packet.contents, x.outcome.entry)
  handed_has side via packet w x h =
      subst (λ (v : Event P). Has (acts side w v x.outcome.entry) (agent.ReceivePacket h.now via packet.contents, x.outcome.entry)) (sym h.event)
      (subst (λ o. Has (received_as {P = P} side h.now via x.outcome.entry o) (agent.ReceivePacket h.now via packet.contents, x.outcome.entry)) (sym h.sent)
      (only_self side (agent.ReceivePacket h.now via packet.contents, x.outcome.entry)))

  pub delivered : (side : Side) (via : Path) (packet : Packet) (w w' : WorldRecord H P) (s t : Streams) (x : LoggedEvent P) → (h : Hands side via packet w x) → Happens mac answers w s x.event x.outcome w' t
      → Delivered mac answers (rewritten via packet) h.now (at side w) x.outcome.entry (at side w')
  delivered side via packet w w' s t x h happens = record {
    before = source_of side s;
    following = (handed side via packet w w' s t x h happens).left;
    step = turn_step mac answers w w' s t side (agent.ReceivePacket h.now via packet.contents) x.outcome (handed side via packet w w' s t x h happens);
    nomination_accepted = h.nomination_accepted;
  }
