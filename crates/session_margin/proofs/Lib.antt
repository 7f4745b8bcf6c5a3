-- What the proofs of this crate, and of the sessions above it, share.
pub mod EachSeries
