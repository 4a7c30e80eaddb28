-- how much room there is
pub mod Room
-- how much there is for a list that a person writes down
pub mod Written
