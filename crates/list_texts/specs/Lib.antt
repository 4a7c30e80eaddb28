-- lists in a text, each with its two counts
pub mod Counted
-- their steps, that the counts are within the places, no second outcome, examples
pub mod CountedLaws
