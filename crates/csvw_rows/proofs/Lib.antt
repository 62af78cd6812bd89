mod Bodies
mod ByteLens
mod CutTakes
mod DraftRows
mod GivenLaws
mod NextLemmas
mod IgnoredLemmas
mod OpenFronts
mod Readings
mod RowSteps
mod ShownBytes
mod SourceSteps
mod Sources
mod States
mod TextLemmas
pub mod Skips
pub mod RowEnds
