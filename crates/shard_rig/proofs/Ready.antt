pub mod EachStep
