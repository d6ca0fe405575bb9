pub mod MemorySink
pub mod MemorySource
pub mod Outside
pub mod ReaderSource
pub mod Tries
pub mod WriterSink
