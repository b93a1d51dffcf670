-- A check of a side that is delivered in a log, and a response that is returned to it, in the words of the theorems about two agents
-- without a network.
use Rattle.is.proofs.Common.{at, CandidateRecord, CarriedBack, CarriedCheck, HandedCheck, IsReturned, List, Occurrence, other, Packet, Path}
use Rattle.is.proofs.Common.{refl, SentCheck, Side, WorldRecord, ℕ}
use Rattle.is.proofs.TwoAgentEvents.DeliveredPackets.{rewritten, delivered}
use Rattle.is.proofs.TwoAgentEvents.EventsOfSegments.{own, Checked, Awaited, awaited}

module _ {H P : Type 0} (mac : H → List ℕ → List ℕ → List ℕ) (answers : P → CandidateRecord → ℕ → ℕ → Type 0) (side : Side) (path over : Path)
    (all : List (Occurrence H P)) (last : WorldRecord H P) (k : HandedCheck mac side path over all) (c : Checked mac answers side path over all last k) where
  -- the check is sent
  abbrev pub sent-check : SentCheck mac answers
  sent-check = record {
    sender = at side k.sent.before;
    sent = at side k.sent.following;
    now = k.now;
    timeout = k.sent.entry.outcome.entry;
    before = c.s;
    following = c.t;
    check = k.check;
    id = k.id;
    sound = c.sound_sent side;
    step = c.step;
    sends = k.sends;
  }

  -- and received by the other side
  abbrev pub carried-check : CarriedCheck mac answers sent-check
  carried-check = record {
    came = rewritten over k.check;
    unaltered = refl;
    receipt = record {
      receiver = at (other side) k.comes.handed.before;
      served = at (other side) k.comes.handed.following;
      at = k.comes.hands.now;
      handed = k.comes.handed.entry.outcome.entry;
      sound = c.sound (other side);
      reached = c.reached;
      delivered = delivered mac answers (other side) over k.check k.comes.handed.before k.comes.handed.following c.u c.v k.comes.handed.entry k.comes.hands c.happens;
    };
    know = c.know;
  }

  -- a response is returned
  abbrev pub carried-back : (whole : List (Occurrence H P)) (reply : Packet) (r : IsReturned mac side path over all k reply) → Awaited mac answers side path whole over all last k reply r
      → CarriedBack mac answers sent-check carried-check reply
  carried-back whole reply r z = record {
    answer = rewritten r.via reply;
    unaltered = refl;
    back = z.goes;
    receipt = record {
      mid = at side r.comes.handed.before;
      calls = own mac answers side (awaited mac answers side path whole over all k reply r);
      execution = z.execution.0;
      limit = r.pending.limit;
      keeps = z.execution.2;
      few = z.few;
      know = z.know;
      taken = at side r.comes.handed.following;
      at = r.comes.hands.now;
      returned = r.comes.handed.entry.outcome.entry;
      delivered = z.comes;
    };
  }
