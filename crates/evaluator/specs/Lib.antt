-- the pairs of the rows, written one after another
pub mod Output
-- the call, way by way
pub mod Outcome
-- the call that nothing refuses
pub mod Done
