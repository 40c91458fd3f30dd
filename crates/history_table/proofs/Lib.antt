mod Decodes
mod Spellings
pub mod LineRuns
pub mod LineSteps
mod Arguments
mod RowNumbers
pub mod RowPlaces
pub mod Fits
pub mod Answered
pub mod Faults
mod PrintedLines
mod PrintedValues
mod Whole
pub mod Tables
