-- where a column of a row stands, and a column written row by row
pub mod Columns
-- what is read from a column that was written, and what stays
pub mod ColumnLaws
