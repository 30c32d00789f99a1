mod CountLemmas
mod SeatLemmas
mod SlotLemmas
