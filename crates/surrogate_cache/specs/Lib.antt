-- What a session is shown of a message, and the cache of surrogates.
pub mod Caching
pub mod Served
pub mod private
