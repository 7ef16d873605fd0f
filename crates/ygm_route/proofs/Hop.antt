pub mod AtMostThree
pub mod Cases
pub mod Within
