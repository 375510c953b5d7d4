-- The commands of IMAP, and how they are found in a stream.
pub mod Flags
pub mod Fetching
pub mod Commands
pub mod Awaiting
pub mod FetchParts
pub mod Events
pub mod Standing
pub mod FirstDue
pub mod MailboxNames
