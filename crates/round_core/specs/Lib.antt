pub mod Plateaus
pub mod Spans
pub mod Together
pub mod Twos
pub mod TwoLaws
pub mod ClassLists
pub mod Rounds
pub mod Closing
