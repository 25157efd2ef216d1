pub mod Requirements
