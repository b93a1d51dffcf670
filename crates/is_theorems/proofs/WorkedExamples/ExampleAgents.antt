-- The agents of a worked example.
use Rattle.is_theorems.proofs.Common.{[], ◌*◌, ◌∷◌, AgentRecord, binding_reply, binding_request, CandidateRecord, Checking, codes}
use Rattle.is_theorems.proofs.Common.{Completed, Disconnected, DiscoveredRecv, false, fresh, Host, host_candidate, IceConnectionStateChange}
use Rattle.is_theorems.proofs.Common.{IceCreds, IceRestart, InProgress, List, MILLISECOND, new_pair, no_stats, Nominated, NominatedSend}
use Rattle.is_theorems.proofs.Common.{None, Path, peer_reflexive_candidate, RequestRecord, reversed, signalled_candidate, SocketAddr, Some}
use Rattle.is_theorems.proofs.Common.{Succeeded, Success, TEMPORARY, true, Udp, V4, written, ℕ}

abbrev pub milliseconds : ℕ → ℕ
milliseconds n = n * MILLISECOND

abbrev pub address_1 : SocketAddr
address_1 = V4 record { ip = record { octets = 10 ∷ 0 ∷ 0 ∷ 1 ∷ [] }; port = 1000 }

abbrev pub address_2 : SocketAddr
address_2 = V4 record { ip = record { octets = 10 ∷ 0 ∷ 0 ∷ 2 ∷ [] }; port = 2000 }

abbrev pub address_3 : SocketAddr
address_3 = V4 record { ip = record { octets = 10 ∷ 0 ∷ 0 ∷ 3 ∷ [] }; port = 2000 }

abbrev pub host_1 : CandidateRecord
host_1 = host_candidate address_1 Udp None

abbrev pub own_1 : CandidateRecord
own_1 = record host_1 { local_preference = Some 65534; ufrag = Some (codes "aaaa") }

abbrev pub host_2 : ℕ → CandidateRecord
host_2 priority = signalled_candidate (codes "1") 1 Udp priority address_2 Host None None None

abbrev pub creds_1 : IceCreds
creds_1 = record { ufrag = codes "aaaa"; pass = codes "p1" }

abbrev pub creds_2 : IceCreds
creds_2 = record { ufrag = codes "bbbb"; pass = codes "p2" }

abbrev pub path_12 : Path
path_12 = record { proto = Udp; source = address_1; destination = address_2 }

module _ {H P : Type 0} (mac : H → List ℕ → List ℕ → List ℕ) (provider : H) where
  abbrev pub with_creds : AgentRecord H P
  with_creds = record (fresh provider creds_1 1) { controlling = true; remote_creds = Some creds_2 }

  abbrev pub with_host : AgentRecord H P
  with_host = record with_creds { local = own_1 ∷ [] }

  abbrev pub with_both : AgentRecord H P
  with_both = record with_host {
    remote = host_2 2130706175 ∷ [];
    pairs = new_pair 0 0 0 9151313343271665150 ∷ [];
    next_number = 1;
  }

  -- after the first `handle_timeout` call
  abbrev pub with_check : List ℕ → AgentRecord H P
  with_check id = record with_both {
    state = Checking;
    events = IceRestart creds_1 ∷ IceConnectionStateChange Checking ∷ [];
    last_time = Some 0;
    ahead_turn = true;
    charged_until = milliseconds 25;
    pairs = record (new_pair 0 0 0 9151313343271665150) {
      checks = record { id = id; sent = 0; answered = None; nominated = false; controlling = true } ∷ [];
      checks_sent = 1;
      first_sent = Some 0;
      state = InProgress;
    } ∷ [];
    packets = record {
      proto = Udp;
      source = address_1;
      destination = address_2;
      contents = written (mac provider) (Some (codes "p2")) (binding_request (codes "bbbb:aaaa") id true 1 1862270719 false);
    } ∷ [];
    stats = record no_stats { bind_request_sent = 1 };
  }

  -- after the response at 50 ms
  abbrev pub with_answer : List ℕ → AgentRecord H P
  with_answer id = record (with_check id) {
    state = Completed;
    events =
        IceRestart creds_1 ∷ IceConnectionStateChange Checking ∷ NominatedSend Udp address_1 address_2
        ∷ IceConnectionStateChange Completed ∷ DiscoveredRecv Udp address_2 ∷ [];
    discovered_sources = record { proto = Udp; address = address_2 } ∷ [];
    selected_pair = Some 0;
    nominations = 1;
    nomination_due = true;
    pairs = record (new_pair 0 0 0 9151313343271665150) {
      checks = record { id = id; sent = 0; answered = Some (milliseconds 50); nominated = false; controlling = true } ∷ [];
      checks_sent = 1;
      first_sent = Some 0;
      state = Succeeded;
      nomination = Nominated;
      answers = 1;
      total_round_trip = milliseconds 50;
      consented = Some 0;
    } ∷ [];
    stats = record no_stats { bind_request_sent = 1; bind_success_recv = 1; discovered_recv_count = 1; nomination_send_count = 1 };
  }

  -- a controlled agent that serves a request with USE-CANDIDATE, and then gets the sender as a candidate
  abbrev pub controlled : AgentRecord H P
  controlled = record with_host { controlling = false }

  abbrev pub served : List ℕ → AgentRecord H P
  served id = record controlled {
    remote = peer_reflexive_candidate (Some TEMPORARY) Udp 1853824767 address_2 address_2 (codes "aaaa") ∷ [];
    pairs = record (new_pair 0 0 0 7962116751041232382) { nomination = Nominated; requests = 1; last_request = Some 0 } ∷ [];
    next_number = 1;
    last_nominated = Some 0;
    packets = record {
      proto = Udp;
      source = address_1;
      destination = address_2;
      contents = written (mac provider) (Some (codes "p1")) (binding_reply id address_2);
    } ∷ [];
    stats = record no_stats { bind_request_recv = 1 };
  }

  abbrev pub emitted_of_sender : List ℕ → AgentRecord H P
  emitted_of_sender id = record (served id) {
    remote = host_2 2130706175 ∷ [];
    pairs = record (new_pair 1 0 0 9151313343271665150) { nomination = Nominated } ∷ [];
    next_number = 2;
  }

  -- ---- a lite agent that served the same request

  abbrev pub lite_served : List ℕ → AgentRecord H P
  lite_served id = record (served id) {
    lite = true;
    pairs = record (new_pair 0 0 0 7962116751041232382) { nomination = Success; state = Succeeded; requests = 1; last_request = Some 0 } ∷ [];
  }

  abbrev pub lite_started : List ℕ → AgentRecord H P
  lite_started id = record (lite_served id) {
    state = Checking;
    events = IceRestart creds_1 ∷ IceConnectionStateChange Checking ∷ NominatedSend Udp address_1 address_2 ∷ [];
    last_time = Some 0;
    selected_pair = Some 0;
    nominations = 1;
    nomination_due = true;
    stats = record no_stats { bind_request_recv = 1; nomination_send_count = 1 };
  }

  abbrev pub lite_completed : List ℕ → AgentRecord H P
  lite_completed id = record (lite_started id) {
    state = Completed;
    events =
        IceRestart creds_1 ∷ IceConnectionStateChange Checking ∷ NominatedSend Udp address_1 address_2
        ∷ IceConnectionStateChange Completed ∷ [];
    last_time = Some (milliseconds 50);
  }

  -- the peer was silent for 15 s
  abbrev pub lite_lost : List ℕ → AgentRecord H P
  lite_lost id = record (lite_completed id) {
    state = Disconnected;
    pairs = [];
    events =
        IceRestart creds_1 ∷ IceConnectionStateChange Checking ∷ NominatedSend Udp address_1 address_2
        ∷ IceConnectionStateChange Completed ∷ IceConnectionStateChange Disconnected ∷ [];
    last_time = Some (milliseconds 15000);
  }

-- a request with USE-CANDIDATE
abbrev pub request : List ℕ → RequestRecord
request id = record {
  time = 0;
  path = reversed path_12;
  id = id;
  priority = 1853824767;
  use_candidate = true;
  nomination = None;
  ufrag = codes "bbbb";
  ice_controlling = Some 7960;
  ice_controlled = None;
}
