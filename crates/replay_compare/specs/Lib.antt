-- which words may stand in a case's row
pub mod Cases
-- that reading its lists gets on in the text
pub mod Lists
