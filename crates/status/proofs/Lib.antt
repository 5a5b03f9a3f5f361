pub mod AsInTheStore
