pub mod Ascents
pub mod SameHeads
pub mod Used
pub mod Needed
pub mod Made
pub mod Reasons
pub mod Readers
pub mod Gains
pub mod HeldReasons
pub mod SlicesRead
mod OwnPlans
mod Reportable
mod Reports
mod Soundness
mod Tellable
pub mod Refusals
pub mod StepParts
pub mod Logged
pub mod Unlogged
pub mod Complete
pub mod ResumedSlices
pub mod Colours
pub mod GainPlans
pub mod Progress
pub mod NextPlans
