mod Entries
mod Measured
mod Stored
