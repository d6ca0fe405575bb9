mod Runs
mod Written
