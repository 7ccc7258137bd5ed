pub mod Xor
pub mod Even
pub mod Pieces
pub mod Joined
