-- The client of a next server: how a message may go to it, and what the client says to its replies.
pub mod Plans
pub mod Replies
pub mod Pieces
pub mod Offers
pub mod Said
pub mod MailObjects
pub mod Relay
pub mod Within
pub mod Standing
pub mod Settling
pub mod private
