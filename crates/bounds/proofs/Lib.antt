-- a variable outside is found, or none at all
pub mod Outside
