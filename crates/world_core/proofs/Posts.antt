pub mod CountsNeverFall
