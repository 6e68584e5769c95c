pub mod Semaphores
pub mod ControlFacts
pub mod StoreFacts
pub mod FreshLaws
pub mod Refusals
pub mod Checks
