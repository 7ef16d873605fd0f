pub mod OneControl
pub mod HonestCount
pub mod HonestTotal
pub mod Log
pub mod Agrees
pub mod Due
pub mod Moved
pub mod Totals
