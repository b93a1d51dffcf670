use Rattle.is_stun.proofs.RoundTrips.WrittenChannelData.{channel_data_is_read}
use Rattle.is_stun.proofs.theorems.channel_data_round_trips.Goals as goal

pub returns : goal.returns
returns c = channel_data_is_read
