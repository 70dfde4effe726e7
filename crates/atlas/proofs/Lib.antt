-- numbers of labels, and the legend in its lent places
pub mod Membership
pub mod Senses
pub mod Numbers
pub mod Lending
-- reading a network, and noting its missing labels
pub mod Loops
pub mod Reading
pub mod Stepwise
pub mod NotingLegs
pub mod Joining
pub mod Drafting
-- coding a network
pub mod InArrays
-- blocks of lent bytes
pub mod InBlocks
pub mod KeptBlocks
-- what an atlas holds
pub mod Holding
-- the law over any list of calls
pub mod Mapping
pub mod Codings
pub mod Positions
pub mod Searching
pub mod Allowances
pub mod CallCases
pub mod AfterCalls
pub mod Invariant
pub mod NextCall
pub mod AnyCalls
-- the calls
pub mod FormByForm
pub mod Answered
pub mod LawfulCalls
pub mod ClassBits
-- a season
pub mod AnswerCases
pub mod Requests
