pub mod TakenOut
pub mod Pigeonhole
pub mod Paired
pub mod Carried
