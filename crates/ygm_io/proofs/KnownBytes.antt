pub mod AfterKept
