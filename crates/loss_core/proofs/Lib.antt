pub mod Places
mod Order
pub mod Known
mod Losses
mod Nearest
pub mod Samples
pub mod AddUp
pub mod Totals
pub mod SampleTotals
pub mod Once
pub mod PeriodLemmas
