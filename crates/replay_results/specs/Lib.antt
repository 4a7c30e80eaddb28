-- whether two rows of words are the same
pub mod Alike
-- what a case expects of a result, and whether what was seen differs
pub mod Results
