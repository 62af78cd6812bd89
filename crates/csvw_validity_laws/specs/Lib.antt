pub mod ValidityLaws
pub mod Validity
