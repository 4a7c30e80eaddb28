-- two lists in one work space, and what one assignment leaves of it
pub mod Trial
