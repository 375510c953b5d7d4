pub mod FormLemmas
pub mod HostNameLemmas
