-- Why an agent does not accept a packet: the first reason that applies, in the order in which they are written here.
use Rattle.std.specs.Prelude.{◌≡◌, ◌≢◌, ℕ, true, false, List, IsSomeAnd, Option, Some, None, codes}
use Rattle.std.specs.List.{list_any}
use Rattle.is_pair.specs.Multiset.{keeps_check}
use Rattle.is_stun.specs.declared.header.Class.{Class}
use Rattle.is_stun.specs.declared.header.Class.TheVariants.{Request, Success, Failure}
use Rattle.is_stun.specs.declared.header.Method.TheVariants.{Binding}
use Rattle.is_stun.specs.Integrity.{IsSignedBy}
use Rattle.is_stun.specs.Message.{Message, split_username}
use Rattle.is_rules.specs.declared.emitted.Path.{Path}
use Rattle.is_rules.specs.Accepting.{IsAddressed, IsAwaited}
use Rattle.is_rules.specs.Agent.{AgentRecord}
use Rattle.is_rules.specs.Answers.{keeps_check_on}
use Rattle.is_agent.specs.declared.rejecting.Rejection.{Rejection}
use Rattle.is_agent.specs.declared.rejecting.Rejection.TheVariants.{OtherMethod, OtherClass, OtherLocalUfrag, OtherRemoteUfrag}
use Rattle.is_agent.specs.declared.rejecting.Rejection.TheVariants.{OtherLocalPassword, NoPendingCheck, OtherPath, OtherRemotePassword}

module _ {H P : Type 0} where
  -- USERNAME begins with the agent's own username fragment and a colon.
  abbrev pub NamesLocal : AgentRecord H P → Message → Type 0
  NamesLocal a m = IsSomeAnd (split_username m.attributes) (λ name. name.0 ≡ a.local_creds.ufrag)

  -- Why a request is rejected; None: it is accepted.
  abbrev pub IsRequestRejection : (H → List ℕ → List ℕ → List ℕ) → AgentRecord H P → Message → Option Rejection → Type 0
  IsRequestRejection mac a m (Some OtherLocalUfrag) = ¬ NamesLocal a m
  IsRequestRejection mac a m (Some OtherRemoteUfrag) = NamesLocal a m × ¬ IsAddressed a m
  IsRequestRejection mac a m (Some OtherLocalPassword) = IsAddressed a m × ¬ IsSignedBy (mac a.provider) m a.local_creds.pass
  IsRequestRejection mac a m None = IsAddressed a m × IsSignedBy (mac a.provider) m a.local_creds.pass
  IsRequestRejection mac a m _ = ⊥

  -- Why a response is rejected. A pending check is one whose transaction a pair stores; it was sent on the reverse of this path, or not.
  abbrev pub IsResponseRejection : (H → List ℕ → List ℕ → List ℕ) → AgentRecord H P → Path → Message → Option Rejection → Type 0
  IsResponseRejection mac a path m (Some NoPendingCheck) = list_any (keeps_check m.id) a.pairs ≡ false
  IsResponseRejection mac a path m (Some OtherPath) =
      (list_any (keeps_check m.id) a.pairs ≡ true) × (list_any (keeps_check_on a path m.id) a.pairs ≡ false)
  IsResponseRejection mac a path m (Some OtherRemotePassword) =
      (list_any (keeps_check_on a path m.id) a.pairs ≡ true) × ¬ IsSomeAnd a.remote_creds (λ peer. IsSignedBy (mac a.provider) m peer.pass)
  IsResponseRejection mac a path m None = IsAwaited mac (keeps_check_on a path m.id) a m
  IsResponseRejection mac a path m _ = ⊥

  -- why a Binding message is rejected, by its class
  abbrev pub IsRejectionAs : (H → List ℕ → List ℕ → List ℕ) → Class → AgentRecord H P → Path → Message → Option Rejection → Type 0
  IsRejectionAs mac Request a path m why = IsRequestRejection mac a m why
  IsRejectionAs mac Success a path m why = IsResponseRejection mac a path m why
  IsRejectionAs mac Failure a path m why = IsResponseRejection mac a path m why
  IsRejectionAs mac _ a path m why = why ≡ Some OtherClass

  -- `rejection`
  abbrev pub IsRejection : (H → List ℕ → List ℕ → List ℕ) → AgentRecord H P → Path → Message → Option Rejection → Type 0
  IsRejection mac a path m why = (m.method ≢ Binding → why ≡ Some OtherMethod) × (m.method ≡ Binding → IsRejectionAs mac m.class a path m why)

-- the texts of the reasons
abbrev pub rejection_text : Rejection → List ℕ
rejection_text OtherMethod = codes "not a Binding message"
rejection_text OtherClass = codes "neither a request nor a response"
rejection_text OtherLocalUfrag = codes "request to another username fragment than the agent's"
rejection_text OtherRemoteUfrag = codes "request from another username fragment than the peer's"
rejection_text OtherLocalPassword = codes "request signed with another password than the agent's"
rejection_text NoPendingCheck = codes "response to no pending check"
rejection_text OtherPath = codes "response on another path than that of its check"
rejection_text OtherRemotePassword = codes "response signed with another password than the peer's"
