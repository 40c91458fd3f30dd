pub mod Complete
pub mod Due
pub mod Laws
pub mod Tell
pub mod Told
