pub mod Pieces
pub mod Cuts
