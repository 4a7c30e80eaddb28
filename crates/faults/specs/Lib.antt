-- children as far as verification looks at them, and a node's fault by them
pub mod Leaves
