-- a word of 32 bits, as many as are owed, a list
pub mod Entries
-- words one by one, as a loop goes through them; that reading gets on; examples
pub mod EntryLaws
