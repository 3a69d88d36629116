pub mod Rows
pub mod Splitting
pub mod Answering
pub mod Written
pub mod Heard
pub mod ShortMessages
pub mod GoodOpens
pub mod Texts
