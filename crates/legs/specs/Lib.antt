-- What the verdicts on a leg say.
pub mod Verdict
