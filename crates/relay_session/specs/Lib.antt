-- The queue on its way to a next server.
pub mod MailObjects
pub mod Reporting
pub mod Carrying
pub mod Streams
pub mod Relaying
pub mod Dialling
pub mod private
