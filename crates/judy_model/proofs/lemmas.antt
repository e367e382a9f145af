pub mod orders
pub mod maps
pub mod queries
pub mod forms
pub mod commands
pub mod runs
pub mod dumps
