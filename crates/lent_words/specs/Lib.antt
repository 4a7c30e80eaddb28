-- lent space before and after a call
pub mod Lent
-- its words one by one; no second outcome; examples
pub mod LentLaws
