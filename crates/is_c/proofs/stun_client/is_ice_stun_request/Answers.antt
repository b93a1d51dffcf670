use Rattle.is_proto.specs.Hmac.{hmac_sha1}
use Rattle.is_c.proofs.StunLemmas.{query_written, query_unwritten}
use Rattle.is_c.proofs.stun_client.is_ice_stun_request.Goals as goal

pub returns-in-Ok : goal.returns-in-Ok
returns-in-Ok c =
    query_written hmac_sha1 c.args.id.now.bytes c.args.buffer.now c.to_bytes.new.buf _ _ c.request_of.ensures.id c.request_of.ensures.message c.in-Ok.ensures.written

pub returns-in-Err : goal.returns-in-Err
returns-in-Err c =
    query_unwritten hmac_sha1 c.args.id.now.bytes c.args.buffer.now c.to_bytes.new.buf _ _ c.request_of.ensures.id c.request_of.ensures.message c.in-Err.ensures.written
