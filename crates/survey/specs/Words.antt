-- The words of the kinds of stations.
use Rattle.std.specs.Prelude.{ℕ, List, [], ◌∷◌, codes, slice_index_or}

-- the words of the kinds that have one of their own, by number
abbrev pub words : List (List ℕ)
words =
    codes "plain" ∷ codes "entrance" ∷ codes "junction" ∷ codes "end" ∷ codes "sump" ∷ codes "pitch" ∷ codes "choke" ∷ codes "lead" ∷ []

-- the word of a kind; any other kind is "other"
abbrev pub word_of : ℕ → List ℕ
word_of kind = slice_index_or words kind (codes "other")
