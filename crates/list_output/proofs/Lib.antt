-- the words of a node, stored one by one
pub mod NodeWords
