-- the class of a tree and of a node, and what two equal classes say
pub mod Classes
-- the work space at each step: the marks, and the classes written so far
pub mod Ready
-- two nodes by their words and their children's classes
pub mod Alike
-- both lists' classes, and what the roots' tell
pub mod Both
-- the classes of two lists, written out
pub mod Examples
