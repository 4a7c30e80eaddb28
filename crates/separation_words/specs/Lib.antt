-- the words of a separation
pub mod Words
