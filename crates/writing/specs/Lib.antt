pub mod Words
pub mod Texts
pub mod Marks
pub mod Spelling
pub mod Forms
pub mod Laws
pub mod Written
