-- Laws of line numbers as bytes, and of a host's calls.
pub mod HostCalls
pub mod PointCalls
pub mod PointWriting
pub mod HostWriting
pub mod StretchLines
