pub mod Packed
pub mod PackedSteps
pub mod Prefixes
pub mod Numbers
pub mod ByNumber
pub mod Positions
pub mod CallerLemmas
