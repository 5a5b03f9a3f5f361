pub mod Carried
pub mod Trails
pub mod Pieces
pub mod Cuts
pub mod Rests
pub mod AnyCut
pub mod Promise
