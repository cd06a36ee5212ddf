pub mod Telling
pub mod NameRuns
pub mod Keeping
pub mod WriterLaws
pub mod ImageWriting
pub mod ImageChecks
pub mod ImagePassed
pub mod ImageLaws
