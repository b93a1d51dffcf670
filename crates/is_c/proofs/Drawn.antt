-- Credentials that are drawn from the bytes that a caller hands in.
use Rattle.std.proofs.Common.{◌≡◌, ℕ, List, refl}
use Rattle.rand_core.specs.Steps.{stream_of}
use Rattle.rand_core.proofs.StepsLemmas.{fill_bytes-stream_of}
use Rattle.is_rules.specs.Credentials.{drawn_creds}
use Rattle.is_c_calls.specs.Random.{given, given_steps}
use Rattle.is_c_calls.specs.Credentials.{drawn}

pub drawn_again : (bytes : List ℕ) → (drawn_creds (stream_of given_steps bytes)).0 ≡ drawn bytes
drawn_again bytes =
    rw (fill_bytes-stream_of given_steps 16 bytes, fill_bytes-stream_of given_steps 22 (given 16 bytes).1) refl
