pub mod AlongPath
pub mod FromHonest
pub mod OnPath
pub mod OverLink
