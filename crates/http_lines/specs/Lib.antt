-- HTTP: the lines that requests begin with.
pub mod Requests
