pub mod Cells
pub mod Codes
pub mod RoomLaws
pub mod Rooms
pub mod StatusLaws
pub mod Statuses
pub mod Totals
pub mod Visits
