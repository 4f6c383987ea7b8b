mod CallSteps
mod Dealt
mod EntryLemmas
mod RoundLemmas
mod SeatSteps
mod Served
mod ViewSums
