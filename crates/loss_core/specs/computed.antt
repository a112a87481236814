pub mod SenderSteps
pub mod SenderTotalSteps
pub mod AdvanceSteps
pub mod StreamSteps
pub mod StreamTotalSteps
pub mod Given
