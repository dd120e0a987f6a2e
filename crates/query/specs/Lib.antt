pub mod ParseSteps
