pub mod Counting
pub mod Endings
pub mod Faults
pub mod OneDue
pub mod WordsAre
pub mod Numbers
pub mod Asked
pub mod JudgedLines
