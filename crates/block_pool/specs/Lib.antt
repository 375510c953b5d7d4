-- Memory that is reserved at once, in blocks.
pub mod Pool
pub mod private
