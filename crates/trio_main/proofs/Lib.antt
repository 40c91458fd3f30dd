pub mod Chained
pub mod CompleteOne
pub mod CompleteTold
pub mod Completes
pub mod Completions
pub mod Jobs
pub mod Tellings
pub mod Told
