-- The store of a journal: what opening, catching up and each change do to it and to its keeper.
pub mod Opening
pub mod Answers
pub mod Queue
pub mod StoreState
pub mod Changing
pub mod Following
pub mod Catching
pub mod private
