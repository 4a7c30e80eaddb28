-- the arms of a match that no single number stands for
pub mod Cases
