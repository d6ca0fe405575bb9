pub mod Courses
pub mod Answering
