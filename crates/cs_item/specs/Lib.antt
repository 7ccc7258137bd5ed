pub mod ByRegion
pub mod Picture
pub mod RollField
pub mod SummaryField
pub mod Beside
pub mod RegionsField
pub mod PictureField
pub mod SliceField
