pub mod IsRun
