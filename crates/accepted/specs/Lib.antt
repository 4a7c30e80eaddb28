-- what number 8 passed says of each node
pub mod Nodes
-- a node's answer is as wide as its shape
pub mod AnswerWidths
-- what an evaluator asks at each kind
pub mod Operands
-- the root has an answer
pub mod Root
