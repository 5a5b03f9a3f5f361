pub mod Readings
pub mod Demand1
pub mod Demand2
pub mod Serving
pub mod Frame
pub mod Unimplemented
pub mod Determined
