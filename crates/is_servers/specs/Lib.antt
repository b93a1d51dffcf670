-- The clients of STUN and TURN servers of a program.
pub mod Frames
pub mod Events
pub mod Packets
pub mod Mapping
pub mod Mappings
pub mod Servers
pub mod Calls
pub mod Hosts
pub mod Urls
