-- A response contains an address without its flow information and scope.
use Rattle.is_stun.specs.Checks.{binding_reply}
use Rattle.is_rules.specs.Sending.{carried}
use Rattle.is_rules.proofs.Common.{◌≡◌, List, plain, refl, SocketAddr, V4, V6, ℕ}

pub plain-reply : (id : List ℕ) (a : SocketAddr) → plain (binding_reply id a) ≡ binding_reply id (carried a)
plain-reply id (V4 a) = refl
plain-reply id (V6 a) = refl
