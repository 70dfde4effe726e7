-- lists of stations
pub mod Lists
pub mod Members
pub mod Filters
pub mod Perms
pub mod Distinct
pub mod Sameness
-- keys, ranks and parts
pub mod Ranks
pub mod Parts
pub mod Bonds
pub mod Tallies
pub mod Divisions
-- partitions and their refinements
pub mod Agreeing
pub mod Refined
pub mod Carried
pub mod Starts
pub mod Together
pub mod Ordered
-- sequences
pub mod Stages
pub mod Reasons
pub mod Chosen
pub mod Weights
pub mod Walks
pub mod Rises
pub mod Sequenced
-- a found map is a map
pub mod Twins
pub mod Comparing
pub mod Loose
pub mod Without
pub mod Parents
pub mod Sides
pub mod Extending
pub mod Sounds
-- a map that exists is found
pub mod Compositions
pub mod Keeping
pub mod Finding
-- classes
pub mod Moving
pub mod Autos
pub mod Orbits
pub mod Representatives
pub mod Masks
-- the search
pub mod Matches
-- the code meets the definitions
pub mod Bitsets
pub mod Keyed
pub mod Made
pub mod Networked
pub mod Paired
pub mod Dropped
pub mod Celled
pub mod Places
pub mod Trailed
pub mod Trails
pub mod Followed
pub mod Advancing
pub mod Classed
pub mod ClassSteps
pub mod Answered
pub mod Rowed
