pub mod Tables
pub mod Direct
pub mod Marks
pub mod Closing
pub mod Lists
