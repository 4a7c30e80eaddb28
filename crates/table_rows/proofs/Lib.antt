-- there is room for one row more, and what fits has six operands at most
pub mod Room
