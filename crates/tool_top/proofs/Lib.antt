pub mod Words
pub mod Unsound
pub mod LoweredPrograms
pub mod Programs
pub mod Stopping
pub mod OneFault
pub mod Settled
pub mod Stepped
pub mod OneCompile
pub mod SessionsRun
pub mod OneSession
pub mod ReadPrograms
pub mod OneProgram
pub mod OneExecution
mod OneDemo
pub mod OneMigration
pub mod OneOutcome
