mod Gathering
mod Deciding
mod TestLaws
mod Decided
mod Saturating
mod Running
mod Cases
