-- How a pool keeps what it holds, and what private functions answer.
pub mod Chains
pub mod Kept
