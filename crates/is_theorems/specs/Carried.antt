-- Exchanges through a network that changes addresses (NAT): a packet is received with the bytes that were sent, and possibly with
-- other addresses.
use Rattle.std.specs.Prelude.{◌≡◌, ℕ, ◌<◌, ◌≤◌, ◌⊎◌, true, false, not, List}
use Rattle.std.specs.List.{list_any}
use Rattle.is_proto.specs.Packets.{Packet}
use Rattle.is_candidate.specs.Candidates.{CandidateRecord}
use Rattle.is_stun.specs.declared.header.Class.TheVariants.{Request, Success, Failure}
use Rattle.is_rules.specs.Agent.{AgentRecord}
use Rattle.is_rules.specs.Answers.{is_reverse, keeps_check_on}
use Rattle.is_theorems.specs.AskedExecutions.{EndsAlong}
use Rattle.is_theorems.specs.Asking.{AreNominatedOn, AcceptsNomination}
use Rattle.is_rules.specs.Brought.{IsRejectedBy}
use Rattle.is_theorems.specs.Conflicts.{AreSentUnder, ServesPastTests, handing}
use Rattle.is_theorems.specs.Delivery.{KnowEachOther, IsReachedBy, Sends, Delivered, IsTaken, Issued, SentCheck, ReceivedPacket, ServedCheck}
use Rattle.is_rules.specs.Issuing.{via_out}
use Rattle.is_rules.specs.Roles.{keeps_role}
use Rattle.is_theorems.specs.Pending.{ReturnedWhilePending, SucceedsOrEnds}
use Rattle.is_rules.specs.Sound.{IsSound}
use Rattle.is_rules.specs.Steps.{Entry, ReceivePacket}
use Rattle.is_rules.specs.Emitted.{reversed}

module _ {H P : Type 0} (mac : H → List ℕ → List ℕ → List ℕ) (answers : P → CandidateRecord → ℕ → ℕ → Type 0) where
  -- The receiver of a check has the other role than its sender when it receives the check, or afterwards: then it switched, since its
  -- tie-breaker is the smaller one.
  abbrev pub AreApart : (sender receiver served : AgentRecord H P) → Type 0
  AreApart a b served = (b.controlling ≡ not a.controlling) ⊎ (served.controlling ≡ not a.controlling)

  -- A check is served on the path on which it is received, and its success response is sent on the reverse of this path.
  abbrev pub CarriedAreServed : Type 0
  CarriedAreServed =
      (a sent b served : AgentRecord H P) (check came : Packet) (id : List ℕ) (at : ℕ) (e : Entry)
      → IsSound a → IsSound b → KnowEachOther mac a b → AreApart a b served → IsReachedBy b (via_out came)
      → Issued mac answers Request id check a sent → came.contents ≡ check.contents → Delivered mac answers came at b e served
      → IsTaken mac answers came at e Request
      × ((reply : Packet) × (via_out reply ≡ reversed (via_out came)) × Sends b e Success id reply served)

  -- A success response is accepted if it is received on the reverse of the check's path.
  abbrev pub CarriedAreAccepted : Type 0
  CarriedAreAccepted =
      (a taken b served : AgentRecord H P) (reply came : Packet) (id : List ℕ) (at : ℕ) (e : Entry)
      → IsSound b → KnowEachOther mac a b → Issued mac answers Success id reply b served → came.contents ≡ reply.contents
      → list_any (keeps_check_on a (via_out came) id) a.pairs ≡ true → Delivered mac answers came at a e taken
      → IsTaken mac answers came at e Success

  -- The check is received at any time, with the bytes that were sent, on any path that reaches the receiver. The sender, when it
  -- sent the check, and the receiver know each other.
  pub record CarriedCheck (k : SentCheck mac answers) : Type 0 where
    pub came : Packet
    pub unaltered : came.contents ≡ k.check.contents
    pub receipt : ReceivedPacket mac answers came
    pub know : KnowEachOther mac k.sender receipt.receiver

  -- The response is returned while the check is pending, with the bytes that were sent, on the reverse of the check's path.
  pub record CarriedBack (k : SentCheck mac answers) (c : CarriedCheck k) (response : Packet) : Type 0 where
    pub answer : Packet
    pub unaltered : answer.contents ≡ response.contents
    pub back : is_reverse (via_out answer) (via_out k.check) ≡ true
    pub receipt : ReturnedWhilePending mac answers k c.receipt.receiver answer

  -- If a check is sent, and received at any time in the other role than its sender's, or its receiver switches to that, it is served. If
  -- its success response is returned while the check is pending, the exchange succeeds.
  abbrev pub CarriedSucceedLater : Type 0
  CarriedSucceedLater =
      (k : SentCheck mac answers) (c : CarriedCheck k) → AreApart k.sender c.receipt.receiver c.receipt.served
      → (s : ServedCheck mac answers k c.came c.receipt)
      × ((r : CarriedBack k c s.reply) → SucceedsOrEnds mac answers k c.receipt.receiver r.answer r.receipt)

  -- If a controlling agent sends a check on a path whose pairs are nominated afterwards, and a controlled agent receives it at any
  -- time, the controlled agent accepts the nomination of the reverse of the path on which it received the check.
  abbrev pub CarriedAsk : Type 0
  CarriedAsk =
      (k : SentCheck mac answers) (c : CarriedCheck k) → k.sender.controlling ≡ true → c.receipt.receiver.controlling ≡ false
      → AreNominatedOn k.sent (via_out k.check)
      → AcceptsNomination c.receipt.receiver (ReceivePacket c.receipt.at (via_out c.came) c.came.contents) c.receipt.handed (reversed (via_out c.came))

  -- The check reached an agent that has its sender's role, and no smaller tie-breaker, or that keeps its role whatever the tie-breakers
  -- are. It sends a 487 on the reverse path. If this is returned while the check is pending, the sender accepts it, if it does not
  -- keep its own role. Afterwards it has the other role, if all its pending transactions with this ID were sent in its role.
  pub record IsConflictCarried (k : SentCheck mac answers) (c : CarriedCheck k) : Type 0 where
    pub no_smaller : keeps_role c.receipt.receiver ≡ false → k.sender.tie_breaker ≤ c.receipt.receiver.tie_breaker
    pub stays : c.receipt.served.controlling ≡ c.receipt.receiver.controlling
    pub rejection : Packet
    pub via_back : via_out rejection ≡ reversed (via_out c.came)
    pub sends : Sends c.receipt.receiver c.receipt.handed Failure k.id rejection c.receipt.served
    pub returns : (r : CarriedBack k c rejection) → keeps_role r.receipt.mid ≡ false
        → (IsRejectedBy r.receipt.mid (handing r.answer r.receipt.at) r.receipt.returned r.receipt.taken
        × (AreSentUnder k.sender.controlling r.receipt.mid k.id → r.receipt.taken.controlling ≡ not c.receipt.receiver.controlling))
        ⊎ EndsAlong mac answers r.receipt.calls k.sent r.receipt.mid r.receipt.execution (via_out k.check)

  -- A role conflict at any time: if a check is sent, and received, it is served. If its receiver has the role that the check was
  -- sent in, either it has the smaller tie-breaker and takes the other role, or it keeps its role and sends a 487.
  abbrev pub CarriedResolve : Type 0
  CarriedResolve =
      (k : SentCheck mac answers) (c : CarriedCheck k)
      → ServesPastTests c.receipt.receiver (handing c.came c.receipt.at) c.receipt.handed
      × (c.receipt.receiver.controlling ≡ k.sender.controlling
      → ((c.receipt.receiver.tie_breaker < k.sender.tie_breaker) × (c.receipt.served.controlling ≡ not k.sender.controlling)) ⊎ IsConflictCarried k c)
