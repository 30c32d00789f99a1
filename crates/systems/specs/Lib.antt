pub mod Capacities
pub mod Edges
pub mod NewPorts
pub mod Polled
pub mod Rooms
pub mod Sockets
