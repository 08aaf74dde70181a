pub mod StatementTellings
