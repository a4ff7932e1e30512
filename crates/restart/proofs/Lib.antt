-- What Crash, Recover, Ask and Commit rest on.
pub mod FitsLaws
pub mod StateLaws
pub mod SweepLaws
pub mod AnswerLaws
pub mod BesideLaws
pub mod CrashLaws
pub mod TargetLaws
pub mod KeptLaws
pub mod RecoverLaws
