pub mod CompareSteps
pub mod QuietSteps
pub mod ChangeSteps
pub mod NotedSteps
pub mod RecordSteps
