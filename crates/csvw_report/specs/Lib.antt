pub mod ReportLaws
pub mod Order
pub mod Records
pub mod Report
pub mod Stops
