pub mod Budgets
mod Conflicts
