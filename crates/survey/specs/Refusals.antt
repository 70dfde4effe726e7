-- The refusals of the library: their numbers, and what they print.
use Rattle.std.specs.Prelude.{ℕ, List, ◌++◌, codes, decimal}
use Rattle.survey.specs.declared.refusal.Refusal.{Refusal}
use Rattle.survey.specs.declared.refusal.Refusal.TheVariants.{OutOfRange, NoStations, TooManyStations, LegToItself, LegendFull, AtlasFull, NoSuchForm, NoSuchStation, CountsDiffer}

-- the number of each refusal
abbrev pub number_of : Refusal → ℕ
number_of OutOfRange = 1
number_of NoStations = 2
number_of TooManyStations = 3
number_of (LegToItself station) = 4
number_of LegendFull = 5
number_of AtlasFull = 6
number_of NoSuchForm = 7
number_of NoSuchStation = 8
number_of CountsDiffer = 9

-- the sentence that each refusal prints
abbrev pub sentence : Refusal → List ℕ
sentence OutOfRange = codes "a label is outside its ranges"
sentence NoStations = codes "the network has no stations"
sentence TooManyStations = codes "there are more than 64 stations"
sentence (LegToItself station) = codes "station " ++ (decimal station ++ codes " has a leg to itself")
sentence LegendFull = codes "the legend has too few free places for the new labels"
sentence AtlasFull = codes "the atlas has no free block"
sentence NoSuchForm = codes "there is no such form"
sentence NoSuchStation = codes "there is no such station"
sentence CountsDiffer = codes "the pairings have different counts"
