pub mod Firsts
mod Counted
mod Rows
