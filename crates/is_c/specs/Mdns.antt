-- mDNS names in place of the address of a candidate (draft-ietf-mmusic-mdns-ice-candidates).
use Rattle.std.specs.Prelude.{◌≡◌, ℕ, zero, suc, ◌-◌, ◌==◌, ◌⊎◌, List, [], ◌∷◌, ◌++◌, codes, drop, length, Option, Some, None, MatchOption, Result, Err, if◌then◌else◌, ℤ}
use Rattle.std.specs.Str.{IsUtf8}
use Rattle.std.specs.declared.net.ip_addr.IpAddr.{IpAddr}
use Rattle.std.specs.Net.Socket.{socket_ip}
use Rattle.std.specs.Net.Text.{ip_text}
use Rattle.is_proto.specs.declared.error.IceError.{IceError}
use Rattle.is_proto.specs.declared.error.IceError.TheVariants.{OutOfMemory}
use Rattle.is_proto.specs.Words.{Spells}
use Rattle.is_candidate.specs.Candidates.{CandidateRecord}
use Rattle.is_candidate.specs.Faults.{ReadsLine}
use Rattle.is_candidate.specs.Lines.{HasRest}
use Rattle.is_candidate.specs.Words.{IsGap, BeginsWithWord, HasWords}
use Rattle.is_c_calls.specs.declared.address.Address.{Address}
use Rattle.is_c.specs.declared.fields.Fields.{Fields}
use Rattle.is_c_calls.specs.Addresses.{socket_of}
use Rattle.is_c_calls.specs.Candidates.{Made}
use Rattle.is_c_calls.specs.Codes.{NOTHING, NOT_UTF8, BAD_ADDRESS}
use Rattle.is_c.specs.Fields.{PutsMadeFields}
use Rattle.is_c.specs.Lines.{PutsMade}
use Rattle.is_c_calls.specs.Texts.{Puts, PutsNone}

-- this is the word after n others, if there are so many
abbrev pub HasNth : ℕ → List ℕ → Option (List ℕ) → Type 0
HasNth zero text r =
    (IsGap text × (r ≡ None)) ⊎ ((word rest : List ℕ) × BeginsWithWord text word rest × (r ≡ Some word))
HasNth (suc n) text r =
    (IsGap text × (r ≡ None)) ⊎ ((word rest : List ℕ) × BeginsWithWord text word rest × HasNth n rest r)

-- the word ends with `.local`, in any case
abbrev pub IsLocalName : List ℕ → Type 0
IsLocalName word = Spells (drop (length word - 6) word) (codes ".local")

-- the word, if it is such a name
abbrev pub NameOf : Option (List ℕ) → Option (List ℕ) → Type 0
NameOf None r = r ≡ None
NameOf (Some word) r = (IsLocalName word × (r ≡ Some word)) ⊎ (¬ IsLocalName word × (r ≡ None))

-- the name that a text has as its fifth word after the prefix, if it has one
abbrev pub HasName : List ℕ → Option (List ℕ) → Type 0
HasName text r =
    (((rest : List ℕ) → ¬ HasRest text rest) × (r ≡ None))
    ⊎ ((rest : List ℕ) × (word : Option (List ℕ)) × HasRest text rest × HasNth 4 rest word × NameOf word r)

abbrev pub PutsName : Option (List ℕ) → List ℕ → ℕ → ℤ → List ℕ → ℕ → Type 0
PutsName None before was code after count = PutsNone NOTHING before was code after count
PutsName (Some name) before was code after count = Puts name before code after count

-- `is_ice_line_name`
abbrev pub ReturnsName : List ℕ → List ℕ → ℕ → ℤ → List ℕ → ℕ → Type 0
ReturnsName line before was code after count =
    (¬ IsUtf8 line × PutsNone NOT_UTF8 before was code after count)
    ⊎ (IsUtf8 line × ((name : Option (List ℕ)) × HasName line name × PutsName name before was code after count))

-- ---- an address in place of the name

-- the words with this one in place of the n-th, counted from 1
abbrev pub with_nth : ℕ → List ℕ → List (List ℕ) → List (List ℕ)
with_nth n given [] = []
with_nth n given (word ∷ words) = (if n == 1 then given else word) ∷ with_nth (n - 1) given words

-- the words, a space before each
abbrev pub spaced : List (List ℕ) → List ℕ
spaced [] = []
spaced (word ∷ words) = codes " " ++ word ++ spaced words

-- the candidate of a text with this address as its fifth word after the prefix
abbrev pub Addresses : List ℕ → IpAddr → Result CandidateRecord IceError → Type 0
Addresses text ip r =
    (((rest : List ℕ) → ¬ HasRest text rest) × ReadsLine text r)
    ⊎ ((r ≡ Err OutOfMemory)
    ⊎ ((rest : List ℕ) × (words : List (List ℕ)) × HasRest text rest × HasWords rest words
    × ReadsLine (codes "candidate:" ++ spaced (with_nth 5 (ip_text ip) words)) r))

abbrev pub AddressesBytes : List ℕ → IpAddr → Made → Type 0
AddressesBytes line ip made = MatchOption made (¬ IsUtf8 line) (λ r. Addresses line ip r)

-- `is_ice_line_with_address`
abbrev pub ReturnsAddressed : List ℕ → Address → List ℕ → ℕ → ℤ → List ℕ → ℕ → Type 0
ReturnsAddressed line address before was code after count =
    MatchOption (socket_of address)
    (PutsNone BAD_ADDRESS before was code after count)
    (λ socket. (made : Made) × AddressesBytes line (socket_ip socket) made × PutsMade NOT_UTF8 made before was code after count)

-- `is_ice_line_with_address_fields`
abbrev pub ReturnsAddressedFields : List ℕ → Address → List ℕ → ℕ → Fields → ℤ → List ℕ → ℕ → Fields → Type 0
ReturnsAddressedFields line address before was old code after count new =
    MatchOption (socket_of address)
    (PutsNone BAD_ADDRESS before was code after count × (new ≡ old))
    (λ socket. (made : Made) × AddressesBytes line (socket_ip socket) made
    × PutsMadeFields NOT_UTF8 made before was old code after count new)
