-- Networks that can be worked by hand, put to an atlas of grades.
use Rattle.std.specs.Prelude.{◌≡◌, ℕ, true, false, cond, ◌&&◌, List, [], ◌∷◌, map, pos, negsuc, Some, None, Option, ◌==◌}
use Rattle.atlas.specs.Calls.{Call, Reply, history, opened}
use Rattle.atlas.specs.Calls.Ask.{enters, finds}
use Rattle.atlas.specs.Calls.Reply.{new, known, unknown, spent}
use Rattle.search.specs.Classes.{class_of, mask}
use Rattle.search.specs.Searches.{classes}
use Rattle.atlas.specs.Legends.{coded_by}
use Rattle.survey.specs.Grades.{grade_sense}
use Rattle.survey.specs.Networks.{Net}
use Rattle.survey.specs.Readings.{reading_turned}
use Rattle.survey.specs.declared.grade.Grade.{Grade}

-- grade 1
abbrev first_grade : Grade
first_grade = record { value = 1 }

-- a leg of grade 1 both ways between the two stations of each pair
abbrev drawn_leg : List (ℕ × ℕ) → ℕ → ℕ → Option Grade
drawn_leg [] u v = None
drawn_leg (e ∷ es) u v =
    let r = drawn_leg es u v in
    elim (e.0 == u && e.1 == v) [
      | true ↦ Some first_grade
      | false ↦ elim (e.1 == u && e.0 == v) [ true ↦ Some first_grade | false ↦ r ]
    ]

-- stations of kind 0 with legs both ways
abbrev drawn : ℕ → List (ℕ × ℕ) → Net Grade
drawn n es = record { count = n; kind = λ _. 0; leg = drawn_leg es }

-- stations 0 1 2 in a triangle
abbrev triangle : Net Grade
triangle = drawn 3 ((0, 1) ∷ (1, 2) ∷ (2, 0) ∷ [])

-- the triangle with kind 1 at station 2
abbrev marked_triangle : Net Grade
marked_triangle = record { count = 3; kind = λ u. cond (u == 2) 1 0; leg = triangle.leg }

-- one leg, from a to b
abbrev one_leg : ℕ → ℕ → Net Grade
one_leg a b =
    record { count = 2; kind = λ _. 0; leg = λ u v. elim (u == a && v == b) [ true ↦ Some first_grade | false ↦ None ] }

-- a ring of six stations
abbrev ring_of_six : Net Grade
ring_of_six = drawn 6 ((0, 1) ∷ (1, 2) ∷ (2, 3) ∷ (3, 4) ∷ (4, 5) ∷ (5, 0) ∷ [])

-- two triangles side by side
abbrev two_triangles : Net Grade
two_triangles = drawn 6 ((0, 1) ∷ (1, 2) ∷ (2, 0) ∷ (3, 4) ∷ (4, 5) ∷ (5, 3) ∷ [])

-- a triangle 0 1 2 and a ring 3 4 5 6
abbrev triangle_and_ring : Net Grade
triangle_and_ring = drawn 7 ((0, 1) ∷ (1, 2) ∷ (2, 0) ∷ (3, 4) ∷ (4, 5) ∷ (5, 6) ∷ (6, 3) ∷ [])

-- a ring 0 1 2 3 and a triangle 4 5 6
abbrev ring_and_triangle : Net Grade
ring_and_triangle = drawn 7 ((0, 1) ∷ (1, 2) ∷ (2, 3) ∷ (3, 0) ∷ (4, 5) ∷ (5, 6) ∷ (6, 4) ∷ [])

-- a network entered with an allowance
abbrev enter : Net Grade → ℕ → Call Grade
enter n a = record { ask = enters; net = n; allowance = a }

-- a network looked for with an allowance
abbrev find : Net Grade → ℕ → Call Grade
find n a = record { ask = finds; net = n; allowance = a }

-- the answers to calls put to a newly opened atlas
abbrev replies : List (Call Grade) → List Reply
replies cs = map (λ p. p.reply) (history grade_sense (opened 8 250) cs)

-- the class of a station of a network, as bits
abbrev class_bits : Net Grade → ℕ → ℕ
class_bits n u = let g = coded_by grade_sense (first_grade ∷ []) n in mask (class_of (classes g).reps g.count u)

-- what the rules give for them, each by computation
abbrev pub Worked : Type 0
Worked =
    (replies (enter triangle 0 ∷ find triangle 0 ∷ []) ≡ new 1 0 ∷ known 1 0 (0 ∷ 1 ∷ 2 ∷ []) ∷ [])
    × (replies (enter (one_leg 0 1) 0 ∷ find (one_leg 1 0) 0 ∷ []) ≡ new 1 0 ∷ known 1 0 (1 ∷ 0 ∷ []) ∷ [])
    × (replies (enter ring_of_six 0 ∷ find two_triangles 0 ∷ []) ≡ new 1 0 ∷ unknown 0 ∷ [])
    × (replies (enter triangle_and_ring 0 ∷ find ring_and_triangle 5 ∷ []) ≡ new 1 0 ∷ known 1 5 (4 ∷ 5 ∷ 6 ∷ 0 ∷ 1 ∷ 2 ∷ 3 ∷ []) ∷ [])
    × (replies (enter triangle_and_ring 0 ∷ find ring_and_triangle 4 ∷ []) ≡ new 1 0 ∷ spent 4 ∷ [])
    × ((class_bits triangle_and_ring 0 ≡ 7) × (class_bits triangle_and_ring 3 ≡ 120))
    × ((reading_turned (record { length = 1234; bearing = 905; gradient = negsuc 119 }) ≡ record { length = 1234; bearing = 2705; gradient = pos 120 })
    × (reading_turned (record { length = 0; bearing = 1800; gradient = pos 0 }) ≡ record { length = 0; bearing = 0; gradient = pos 0 }))
    × (replies (enter triangle 0 ∷ find marked_triangle 0 ∷ []) ≡ new 1 0 ∷ unknown 0 ∷ [])
