-- The legend: labels of different senses, whose places number them; and networks coded by it.
use Rattle.std.specs.Prelude.{ℕ, suc, Bool, true, false, List, [], ◌∷◌, ◌++◌, ℤ, Some, None, Option, ◌==◌}
use Rattle.std.specs.List.{range_with_len}
use Rattle.atlas.specs.Senses.{same_sense}
use Rattle.search.specs.Coded.{Coded}
use Rattle.survey.specs.Networks.{Net}

module _ {L : Type 0} (sense : L → List ℤ) where
  -- whether a leg has a label of the sense of x
  abbrev pub has_sense : L → Option L → Bool
  has_sense x None = false
  has_sense x (Some y) = same_sense (sense x) (sense y)

  -- the number of a label: the place of its sense in the legend, from 1; 0 where it is lacking
  abbrev pub number_of : List L → L → ℕ
  number_of [] x = 0
  number_of (y ∷ ys) x =
      let r = number_of ys x in
      elim (same_sense (sense x) (sense y)) [ true ↦ 1 | false ↦ elim (r == 0) [ true ↦ 0 | false ↦ suc r ] ]

  -- the legend after a leg was seen: a label of a lacking sense joins at the end
  abbrev pub noted : List L → Option L → List L
  noted ls None = ls
  noted ls (Some x) = elim (number_of ls x == 0) [ true ↦ ls ++ x ∷ [] | false ↦ ls ]

  -- the legend after the legs to the stations of a list were seen
  abbrev pub noted_row : (ℕ → Option L) → List ℕ → List L → List L
  noted_row leg [] ls = ls
  noted_row leg (v ∷ vs) ls = noted_row leg vs (noted ls (leg v))

  -- the legend after the legs from some stations to some stations were seen
  abbrev pub noted_rows : (ℕ → ℕ → Option L) → List ℕ → List ℕ → List L → List L
  noted_rows leg [] vs ls = ls
  noted_rows leg (u ∷ us) vs ls = noted_rows leg us vs (noted_row (leg u) vs ls)

  -- the legend with the network's missing senses, in order of u, then v, each by the first label that has it
  abbrev pub full_legend : Net L → List L → List L
  full_legend n ls = let us = range_with_len 0 n.count in noted_rows n.leg us us ls

  -- the code of a leg: its label's number, 0 for no leg
  abbrev pub code_of : List L → Option L → ℕ
  code_of ls None = 0
  code_of ls (Some x) = number_of ls x

  -- a network coded by a legend
  abbrev pub coded_by : List L → Net L → Coded
  coded_by ls n = record { count = n.count; kind = n.kind; code = λ u v. code_of ls (n.leg u v) }
