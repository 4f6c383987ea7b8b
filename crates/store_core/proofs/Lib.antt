pub mod Alone
mod Posting
mod Refusing
