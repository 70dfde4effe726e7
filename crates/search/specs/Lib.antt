-- the definitions, in reading order
pub mod Coded
pub mod Keys
pub mod Partitions
pub mod Sequences
pub mod Following
pub mod Classes
pub mod Searches
pub mod Maps
pub mod Theorems
pub mod Worked
-- what the definitions come to, in the subject's own words
pub mod Members
pub mod KeyLaws
pub mod PartitionLaws
pub mod SequenceLaws
pub mod FollowingLaws
pub mod ClassLaws
-- what the code stands for
pub mod Sets
pub mod CellSets
pub mod Arrays
pub mod Meanings
pub mod Pieces
pub mod Allowance
pub mod Answers
