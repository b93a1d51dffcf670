-- The names that most proofs of this crate cite, passed on from one place. Declares nothing.
pub use Rattle.std.proofs.Common.{[], ◌%◌, ◌++◌, ◌+◌, ◌-◌, ◌/◌, ◌<◌, ◌==◌, ◌^◌, ◌||◌, ◌∙◌, ◌∷◌, ◌≡◌, ◌≤◌, ◌⊎◌, All, ap, append_assoc, arith}
pub use Rattle.std.proofs.Common.{Bool, bytes_eq, codes, cond, decimal, drop, Equal, Err, false, get_or, Greater, IfSome, if◌then◌else◌}
pub use Rattle.std.proofs.Common.{inl, inr, length, length-append, Less, List, lt-ltb, min, ne_eqb, None, not, Ok, OnOk, Option}
pub use Rattle.std.proofs.Common.{option_and_then, option_map, Ordering, refl, replicate, Result, rules, slice_get, Some, subst, suc, sym}
pub use Rattle.std.proofs.Common.{take, true, unwrap_or, zero, ℕ}
pub use Rattle.std.proofs.lemmas.Bool.Decides.{nat_tests}
pub use Rattle.std.proofs.lemmas.Fmt.{decimal_is_IsNumeral}
pub use Rattle.std.proofs.lemmas.List.{append-nil, drop-map, drop_min, drop_more, length-drop, length-set, length-take-le, take-append-drop}
pub use Rattle.std.proofs.lemmas.List.{take_all, take_more, take_more_set}
pub use Rattle.std.specs.Bool.{MatchBool}
pub use Rattle.std.specs.Borrow.{Bor}
pub use Rattle.std.specs.Char.{digit_value, encode_utf8, is_not_whitespace, is_whitespace}
pub use Rattle.std.specs.Net.Grammar.{IsColonHex, IsDotted, IsGroups, IsGroupsAfter, IsIpText}
pub use Rattle.std.specs.Option.{MatchOption, option_copied, SomeIff}
pub use Rattle.std.specs.Prelude.{is_some, IsTrue}
pub use Rattle.std.specs.Str.{encode_utf8_all, IsAscii, NoCharPasses, NonePass}
pub use Rattle.std.specs.Str.Iter.{split_whitespace_rest}
pub use Rattle.std.specs.declared.net.ip_addr.IpAddr.{IpAddr}
pub use Rattle.std.specs.declared.net.socket_addr.SocketAddr.{SocketAddr}
pub use Rattle.fast_float.specs.Text.{digits_of, IsInteger, Parts, scan}
pub use Rattle.json.proofs.Grammar.{members_end, members_more, read_key-shorter, value-begin_object, value_is}
pub use Rattle.json.specs.Json.{parse_map, read_key}
unfoldable pub use Rattle.json.specs.Json.{members, value}
pub use Rattle.json.specs.Token.{Token}
pub use Rattle.serde_json.proofs.Views.{Entry, get_member-put, get_member-put_other}
pub use Rattle.serde_json.specs.Data.{boolean, Data, member, Members, no_members, null, number, object, put, string, unsigned}
pub use Rattle.serde_json.specs.Read.{is_integer, of_members}
unfoldable pub use Rattle.serde_json.specs.Read.{number_of}
pub use Rattle.serde_json.specs.View.{items_view, members_view, view}
pub use Rattle.serde_json.specs.Written.{compact_text, has_float, items_have_float, members_have_float}
pub use Rattle.is_proto.specs.Words.{protocol_word, Spells, tcp_type_word}
pub use Rattle.is_proto.specs.declared.proto.Protocol.{Protocol}
pub use Rattle.is_proto.specs.declared.proto.Protocol.TheVariants.{SslTcp, Tcp, Tls, Udp}
pub use Rattle.is_proto.specs.declared.proto.TcpType.{TcpType}
pub use Rattle.is_proto.specs.declared.proto.TcpType.TheVariants.{Active, Passive, So}
pub use Rattle.is_candidate.specs.Candidates.{CandidateRecord}
pub use Rattle.is_candidate.specs.Flat.{BeginsWith}
pub use Rattle.is_candidate.specs.Foundations.{fnv_from, foundation_of}
unfoldable pub use Rattle.is_candidate.specs.Foundations.{computed_foundation}
pub use Rattle.is_candidate.specs.Kinds.{kind_word}
pub use Rattle.is_candidate.specs.Lines.{Answer, HasRest, Head, IsNumberBelow, Keys, no_keys, Place, ReadsAs, ReadsComponent, ReadsHead}
pub use Rattle.is_candidate.specs.Lines.{ReadsKey, ReadsKeys, ReadsKind, ReadsPlace, ReadsPort, ReadsPriority, ReadsText, ReadsTransport}
pub use Rattle.is_candidate.specs.Lines.{ReadsTyp, ReadsWords, related_address, TakesValue, Then}
pub use Rattle.is_candidate.specs.Priorities.{candidate_priority}
pub use Rattle.is_candidate.specs.RoundTrips.{as_signalled, HasPlainTexts, LineRoundTrips, PartsFit, reported_address, reported_related}
pub use Rattle.is_candidate.specs.Scanned.{keys_of, place_of, texts}
pub use Rattle.is_candidate.specs.Words.{BeginsWithWord, EndsWord, HasWords, IsGap, IsVisible, IsWord}
pub use Rattle.is_candidate.specs.declared.candidate.kind.CandidateKind.{CandidateKind}
pub use Rattle.is_candidate.specs.declared.candidate.kind.CandidateKind.TheVariants.{Host, PeerReflexive, Relayed, ServerReflexive}
