-- Transactions: of accepted Binding requests, of responses, and of early requests in the queue.
use Rattle.std.specs.Prelude.{◌≡◌, ℕ, ◌+◌, ◌≤◌, Bool, true, false, List, [], ◌∷◌, ◌++◌, Option, Some, None}
use Rattle.is_stun.specs.declared.header.Class.{Class}
use Rattle.is_stun.specs.declared.header.Class.TheVariants.{Request, Success, Failure}
use Rattle.is_stun.specs.declared.header.Method.{Method}
use Rattle.is_stun.specs.declared.header.Method.TheVariants.{Binding}
use Rattle.is_stun.specs.Message.{Message}
use Rattle.is_stun.specs.Reading.{message_of}
use Rattle.is_rules.specs.declared.emitted.Path.{Path}
use Rattle.is_rules.specs.declared.emitted.Issued.{Issued}
use Rattle.is_rules.specs.Request.{RequestRecord}
use Rattle.is_rules.specs.Steps.{Answer, Flag, Entry}
use Rattle.is_rules.specs.Emitted.{reversed}
use Rattle.is_rules.specs.Agent.{AgentRecord}
use Rattle.is_rules.specs.Steps.{Call, ReceivePacket}

-- a transaction ID, and the path on which its request was received
pub record Transaction : Type 0 where
  pub via : Path
  pub id : List ℕ

-- 1 if the test passes, else 0; and how many transactions pass a test
abbrev pub one_if : Bool → ℕ
one_if true = 1
one_if false = 0

abbrev pub count : (Transaction → Bool) → List Transaction → ℕ
count test [] = 0
count test (x ∷ xs) = one_if (test x) + count test xs

-- the transaction of a Binding request that was received on this path
abbrev pub requested_as : Path → List ℕ → Method → Class → List Transaction
requested_as via id Binding Request = record { via = via; id = id } ∷ []
requested_as via id _ _ = []

abbrev pub requested_by : Path → Message → List Transaction
requested_by via m = requested_as via m.id m.method m.class

-- the transaction of the Binding request in a packet, if it was accepted
abbrev pub requested_in : Path → List ℕ → Answer → List Transaction
requested_in via bytes (Flag true) = requested_by via (message_of bytes)
requested_in via bytes _ = []

abbrev pub request_of : {P : Type 0} → Call P → Answer → List Transaction
request_of (ReceivePacket now via bytes) answer = requested_in via bytes answer
request_of _ answer = []

-- the transaction of a response, which is sent on the reverse path of its request
abbrev pub replied_as : Path → List ℕ → Class → List Transaction
replied_as path id Success = record { via = reversed path; id = id } ∷ []
replied_as path id Failure = record { via = reversed path; id = id } ∷ []
replied_as path id _ = []

abbrev pub reply_of : Option Issued → List Transaction
reply_of None = []
reply_of (Some issued) = replied_as issued.path issued.id.0 issued.class

-- the transaction of an early request, and how many early requests pass a test
abbrev pub transaction_of : RequestRecord → Transaction
transaction_of q = record { via = q.path; id = q.id }

abbrev pub owed : (Transaction → Bool) → List RequestRecord → ℕ
owed test [] = 0
owed test (q ∷ qs) = one_if (test (transaction_of q)) + owed test qs

-- The responses that a transition sends and the early requests after it are, as multisets, among the early requests before it and
-- the requests received now: counted by any test.
abbrev pub Owes : {H P : Type 0} → AgentRecord H P → Call P → Entry → AgentRecord H P → Type 0
Owes old call e new =
    (test : Transaction → Bool)
    → count test (reply_of e.emitted.issued) + owed test new.queue ≤ owed test old.queue + count test (request_of call e.answer)

-- xs is among ys as a multiset: each element of xs is in ys, and no two of them at the same index.
abbrev pub AreAmong : {X : Type 0} → List X → List X → Type 0
AreAmong [] ys = Unit {0}
AreAmong (x ∷ xs) ys = (front : List _) × (back : List _) × (ys ≡ front ++ x ∷ back) × AreAmong xs (front ++ back)
