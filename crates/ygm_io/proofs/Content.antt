pub mod AppendedInTurn
