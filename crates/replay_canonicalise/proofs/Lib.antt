-- reading the expected list gets on from an earlier offset too
pub mod Earlier
