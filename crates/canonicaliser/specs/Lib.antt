-- the call, way by way
pub mod Outcome
-- a list past 14: the work space is ready for the forms
pub mod Accepted
-- demand 3's last sentence, of the calls
pub mod Demand
