pub mod RegionSearch
pub mod RollLaws
pub mod SummaryLaws
pub mod RegionLaws
pub mod PictureLaws
pub mod SliceLaws
