pub mod Offers
pub mod Reportable
pub mod Table
