pub mod TypeLaws
pub mod DayLaws
pub mod TwosLaws
pub mod Cases
