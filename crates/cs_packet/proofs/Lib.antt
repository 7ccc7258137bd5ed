mod OneField
mod KindLaws
mod PieceLaws
mod BodyLaws
pub mod PacketLaws
mod SlicesLaws
mod RowsLaws
mod BootLaws
pub mod EntryLaws
