use Rattle.is_stun.proofs.values.values_fit.Goals as goal

pub returns : goal.returns
returns c = λ channel. record {
  username = c.text_fits.ensures;
  error_code = c.reason_fits.ensures;
  channel_number = channel;
  lifetime = c.number32_fits.ensures;
  xor_peer_address = c.address_fits.ensures;
  realm = c.text_fits-2.ensures;
  nonce = c.text_fits-3.ensures;
  xor_relayed_address = c.address_fits-2.ensures;
  xor_mapped_address = c.address_fits-3.ensures;
  software = c.text_fits-4.ensures;
  priority = c.number32_fits-2.ensures;
  ice_controlled = c.number64_fits.ensures;
  ice_controlling = c.number64_fits-2.ensures;
  network_cost = c.cost_fits.ensures;
  nomination = c.number32_fits-3.ensures;
}
