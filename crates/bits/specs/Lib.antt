-- what each operation on words does to bit j
pub mod Bit
