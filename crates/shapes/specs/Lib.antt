-- shapes as code keeps them, by code in a column; a node's shape and its fault by its children's
pub mod Shapes
