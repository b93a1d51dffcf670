use Rattle.std.proofs.Common.{◌≤◌, rules}
use Rattle.is_pair.specs.Checklists.{multiset_of}
use Rattle.is_agent.proofs.AgentParts.PairsByNumber.{below-grown}
use Rattle.is_agent.proofs.agent.Agent.skip_pair_ids.Goals as goal

pub invariant_of-self : goal.invariant_of-self
invariant_of-self g c =
    let self = c.args.self.now in
    let more : self.next_number ≤ c.max-self.result = search rules in
    record {
      credentials_fit = self.credentials_fit;
      none_too_high = self.none_too_high;
      retransmits = self.retransmits;
      consent_kept = self.consent_kept;
      local_key_kept = self.local_key_kept;
      remote_key_kept = self.remote_key_kept;
      numbered = below-grown self.next_number c.max-self.result (multiset_of self.pairs) more self.numbered;
      placed = self.placed;
      room_kept = self.room_kept;
      room_suffices = self.room_suffices;
    }
