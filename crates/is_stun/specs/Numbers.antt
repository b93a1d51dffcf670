-- The constants of the message format (RFC 8489, sections 5, 14 and 18; RFC 8656, section 18; RFC 8445, section 16.1).
use Rattle.std.specs.Prelude.{ℕ}

-- the header: its length, and the magic cookie with its high half
abbrev pub HEADER_LEN : ℕ
HEADER_LEN = 20

abbrev pub MAGIC : ℕ
MAGIC = 0x2112_A442

abbrev pub PORT_MASK : ℕ
PORT_MASK = 0x2112

-- the mask for the CRC of FINGERPRINT, and the polynomial of CRC-32 with its bits reversed
abbrev pub FINGERPRINT_MASK : ℕ
FINGERPRINT_MASK = 0x5354_554E

abbrev pub CRC_POLYNOMIAL : ℕ
CRC_POLYNOMIAL = 0xEDB8_8320

-- the attribute types
abbrev pub USERNAME : ℕ
USERNAME = 0x0006

abbrev pub MESSAGE_INTEGRITY : ℕ
MESSAGE_INTEGRITY = 0x0008

abbrev pub ERROR_CODE : ℕ
ERROR_CODE = 0x0009

abbrev pub CHANNEL_NUMBER : ℕ
CHANNEL_NUMBER = 0x000C

abbrev pub LIFETIME : ℕ
LIFETIME = 0x000D

abbrev pub XOR_PEER_ADDRESS : ℕ
XOR_PEER_ADDRESS = 0x0012

abbrev pub DATA : ℕ
DATA = 0x0013

abbrev pub REALM : ℕ
REALM = 0x0014

abbrev pub NONCE : ℕ
NONCE = 0x0015

abbrev pub XOR_RELAYED_ADDRESS : ℕ
XOR_RELAYED_ADDRESS = 0x0016

abbrev pub REQUESTED_ADDRESS_FAMILY : ℕ
REQUESTED_ADDRESS_FAMILY = 0x0017

abbrev pub REQUESTED_TRANSPORT : ℕ
REQUESTED_TRANSPORT = 0x0019

abbrev pub XOR_MAPPED_ADDRESS : ℕ
XOR_MAPPED_ADDRESS = 0x0020

-- SOFTWARE is read and written with this type; the type of RFC 8489, 0x8022, is skipped as unknown types are
abbrev pub SOFTWARE : ℕ
SOFTWARE = 0x0022

abbrev pub PRIORITY : ℕ
PRIORITY = 0x0024

abbrev pub USE_CANDIDATE : ℕ
USE_CANDIDATE = 0x0025

abbrev pub FINGERPRINT : ℕ
FINGERPRINT = 0x8028

abbrev pub ICE_CONTROLLED : ℕ
ICE_CONTROLLED = 0x8029

abbrev pub ICE_CONTROLLING : ℕ
ICE_CONTROLLING = 0x802A

-- the cost of the sender's network, as WebRTC sends it
abbrev pub NETWORK_COST : ℕ
NETWORK_COST = 0xC057

-- the number of a nomination, as WebRTC sends it (draft-thatcher-ice-renomination)
abbrev pub NOMINATION : ℕ
NOMINATION = 0xC001

-- the longest USERNAME and the longest other text that are read, in bytes
abbrev pub USERNAME_LIMIT : ℕ
USERNAME_LIMIT = 513

abbrev pub TEXT_LIMIT : ℕ
TEXT_LIMIT = 763

-- the longest USERNAME (RFC 8489, section 14.3), the longest other text and the longest data that are written, in bytes
abbrev pub WRITTEN_USERNAME_LIMIT : ℕ
WRITTEN_USERNAME_LIMIT = 508

abbrev pub WRITTEN_TEXT_LIMIT : ℕ
WRITTEN_TEXT_LIMIT = 128

abbrev pub DATA_LIMIT : ℕ
DATA_LIMIT = 65535

-- the length of a MAC
abbrev pub INTEGRITY_LEN : ℕ
INTEGRITY_LEN = 20
