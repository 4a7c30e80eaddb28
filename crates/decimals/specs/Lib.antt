pub mod Words
pub mod Laws
pub mod Claims
pub mod Rows
pub mod Places
pub mod RowLaws
