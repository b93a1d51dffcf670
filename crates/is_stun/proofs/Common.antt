-- The names that most proofs of this crate cite, passed on from one place. Declares nothing.
pub use Rattle.std.proofs.Common.{[], ◌%◌, ◌&&◌, ◌*◌, ◌++◌, ◌+◌, ◌-◌, ◌/◌, ◌<◌, ◌==◌, ◌^◌, ◌||◌, ◌↔◌, ◌∙◌, ◌∷◌, ◌≡◌, ◌≤◌, ◌⊎◌, add-zero}
pub use Rattle.std.proofs.Common.{add_comm, ap, append_assoc, arith, bit_or, Bool, Bor, cond, drop, eqb, Err, false, get_or, inl, inr}
pub use Rattle.std.proofs.Common.{length, length-append, length-drop, length-take, List, ltb, map, max, min, mod-lt, mul_assoc, None, not}
pub use Rattle.std.proofs.Common.{Ok, Option, pow-suc, pow_pos, refl, replicate, Result, rules, Some, subst, suc, suc-add, sum_by, sym}
pub use Rattle.std.proofs.Common.{take, true, zero, zero-add, zero-mul, ℕ}
pub use Rattle.std.proofs.lemmas.Bool.{cases_lt, eq-eqb, eqb-true, false_from_ne_true, le-leb, le-ltb, leb-true, lt-ltb, ltb-false, ne_eqb}
pub use Rattle.std.proofs.lemmas.List.{append-nil, drop-drop, drop_all, drop_at, drop_more, get_or-take, length-replicate, map-append}
pub use Rattle.std.proofs.lemmas.List.{take-append-drop, take-replicate, take-take, take_all, take_at, take_more, take_rest}
pub use Rattle.std.proofs.lemmas.List.Concat.{flat_map-append}
pub use Rattle.std.proofs.lemmas.Nat.{and_le_l, and_le_r, be_bytes_4, be_bytes_8, from_be_bytes-to_be_bytes_2, from_be_bytes-to_be_bytes_4}
pub use Rattle.std.proofs.lemmas.Nat.{from_be_bytes-to_be_bytes_8, le_or_l, le_or_r, leading_length, shl_whole, xor_comm, xor_lt, xor_mod}
pub use Rattle.std.proofs.lemmas.Nat.{xor_shr}
pub use Rattle.std.specs.Int.{byte_at, from_be_bytes, from_le_bytes, to_be_bytes, w128, w16, w32, w64}
pub use Rattle.std.specs.List.{AllByRecursion, flat_map, range_with_len}
pub use Rattle.std.specs.Net.Addr.{ipv4_octets, ipv6_segments, octets_of, segments_of}
unfoldable pub use Rattle.std.specs.Net.Addr.{ipv4_bits, ipv6_bits, IsIpv4OfBits, IsIpv6OfBits}
pub use Rattle.std.specs.Net.Socket.{IsSocketAddrV4, IsSocketAddrV6, v4_ip, v4_port, v6_flowinfo, v6_ip, v6_port, v6_scope_id}
pub use Rattle.std.specs.Option.{option_copied, option_map, option_or}
pub use Rattle.std.specs.Prelude.{bit_xor, IfOk, IfSome, is_none, is_some, IsSome, IsSomeAnd, MatchOption, nat_le, OnOk, option_and_then}
pub use Rattle.std.specs.Prelude.{position, slice_index}
pub use Rattle.std.specs.Result.{result_ok}
pub use Rattle.std.specs.Str.{is_utf8, IsCharBoundary, IsUtf8}
pub use Rattle.std.specs.declared.net.socket_addr.SocketAddr.{SocketAddr}
pub use Rattle.std.specs.declared.net.socket_addr.SocketAddr.TheVariants.{V4, V6}
pub use Rattle.std.specs.declared.net.socket_addr.SocketAddrV4.{SocketAddrV4}
pub use Rattle.std.specs.declared.net.socket_addr.SocketAddrV6.{SocketAddrV6}
pub use Rattle.is_proto.specs.Times.{later, MAX, MILLISECOND}
pub use Rattle.is_proto.specs.declared.error.ParseFault.{ParseFault}
pub use Rattle.is_proto.specs.declared.error.ParseFault.TheVariants.{AttributeLength, ChannelRange, ControlledLength, ControllingLength}
pub use Rattle.is_proto.specs.declared.error.ParseFault.TheVariants.{FingerprintLength, IntegrityLength, LifetimeLength, PriorityLength}
pub use Rattle.is_proto.specs.declared.error.ParseFault.TheVariants.{TextNotUtf8, UseCandidateLength, XorAddress}
pub use Rattle.is_proto.specs.declared.error.StunError.{StunError}
pub use Rattle.is_stun.specs.Address.{ipv4_socket, ipv6_socket, is_ipv4_value, is_ipv6_value, mask_of}
unfoldable pub use Rattle.is_stun.specs.Address.{address_in, xor_address}
pub use Rattle.is_stun.specs.Crc.{bits_of, crc_bit, shifted}
unfoldable pub use Rattle.is_stun.specs.Crc.{crc32, crc_bits, low_bits, stepped}
pub use Rattle.is_stun.specs.ErrorCode.{error_value}
pub use Rattle.is_stun.specs.Finding.{IsPlainRow, value_of, WrittenIsFound}
unfoldable pub use Rattle.is_stun.specs.Finding.{last_value, last_written}
pub use Rattle.is_stun.specs.Header.{body_of, class_bits, class_of, length_field, magic_of, method_bits, method_of, type_of}
unfoldable pub use Rattle.is_stun.specs.Header.{header, header_fault}
pub use Rattle.is_stun.specs.Integrity.{integrity_of, is_integrity, IsAuthentic, IsSignedBy, signed_text}
unfoldable pub use Rattle.is_stun.specs.Integrity.{after_integrity, before_integrity, first_integrity, up_to_integrity}
pub use Rattle.is_stun.specs.Kinds.{bytes_of_len, fault_in, number, text}
unfoldable pub use Rattle.is_stun.specs.Kinds.{address_fault, channel_number, error_code, network_cost, nomination, value_fault}
pub use Rattle.is_stun.specs.Message.{AttributesRecord, Integrity, Message, no_attributes, split_username}
pub use Rattle.is_stun.specs.MessageView.{attributes_view, message_view}
pub use Rattle.is_stun.specs.Numbers.{CHANNEL_NUMBER, DATA, DATA_LIMIT, ERROR_CODE, FINGERPRINT, FINGERPRINT_MASK, HEADER_LEN}
pub use Rattle.is_stun.specs.Numbers.{ICE_CONTROLLED, ICE_CONTROLLING, LIFETIME, MAGIC, NETWORK_COST, NOMINATION, NONCE, PORT_MASK}
pub use Rattle.is_stun.specs.Numbers.{PRIORITY, REALM, SOFTWARE, TEXT_LIMIT, USE_CANDIDATE, USERNAME, USERNAME_LIMIT, WRITTEN_TEXT_LIMIT}
pub use Rattle.is_stun.specs.Numbers.{WRITTEN_USERNAME_LIMIT, XOR_MAPPED_ADDRESS, XOR_PEER_ADDRESS, XOR_RELAYED_ADDRESS}
pub use Rattle.is_stun.specs.Reading.{counts, demand_fault, demand_fault_of, Fault, fault_at, id_of, is_skipped, Reads, value_in}
unfoldable pub use Rattle.is_stun.specs.Reading.{attributes_fault, attributes_of, fault_of, first_fault, last_of, message_of}
pub use Rattle.is_stun.specs.Requested.{family_in, family_value, nothing_requested, requested_rows, RequestIsRead, RequestIsSkipped}
pub use Rattle.is_stun.specs.Requested.{RequestsNothing, rows_with, transport_in, with_reserved}
unfoldable pub use Rattle.is_stun.specs.Requested.{rejection_with, written_with}
pub use Rattle.is_stun.specs.RowView.{row_view}
pub use Rattle.is_stun.specs.Spells.{AreSpelled, HasDemanded, HasHeader, IsReading, IsWellFormed, Spells}
pub use Rattle.is_stun.specs.Theorems.{check_len, CheckTakes, FitsInto, HasReadableValues, IsCarried, IsChannelNumber, IsClass, IsId}
pub use Rattle.is_stun.specs.Theorems.{IsPlainAddress, IsWrittenPlain, LONGEST_CHECK, LONGEST_NUMBERED_CHECK, LONGEST_REPLY, plain}
pub use Rattle.is_stun.specs.Theorems.{plain_address, PlainReply, ReadsBack, ReadsOrFails, reply_len, RoundTripsAs, SameMessage, sealed}
pub use Rattle.is_stun.specs.Theorems.{SignedIffAuthentic, TakesBytes, WrittenIsRead, WrittenIsReadAlike}
pub use Rattle.is_stun.specs.Timing.{last_resend_delay, resend_delay}
unfoldable pub use Rattle.is_stun.specs.Timing.{delay_millis, timeout_of}
pub use Rattle.is_stun.specs.Tlv.{attribute_len, padded_len, Tlv, tlv_at, tlvs_of, u16_of}
unfoldable pub use Rattle.is_stun.specs.Tlv.{tlvs_after}
pub use Rattle.is_stun.specs.TlvView.{tlv_view, tlvs_left}
pub use Rattle.is_stun.specs.Writing.{body_len, channel_value, fingerprint_text, has_long_value, HasMacOf, HasMacOfRows, if_set}
pub use Rattle.is_stun.specs.Writing.{integrity_text, is_bad_code, is_known, is_longer, network_cost_value, optional_attribute, Puts, Row}
pub use Rattle.is_stun.specs.Writing.{row, row_text, rows_of, rows_rejection, WritesOr}
unfoldable pub use Rattle.is_stun.specs.Writing.{attribute, front_of, rejection, rows_text, sealed_of, splice, value_rejection, written}
unfoldable pub use Rattle.is_stun.specs.Writing.{written_rows}
pub use Rattle.is_stun.specs.declared.header.Class.{Class}
pub use Rattle.is_stun.specs.declared.header.Method.{Method}
pub use Rattle.is_stun.specs.declared.requested.Requested.{Requested}
