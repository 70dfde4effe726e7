-- The class of a station of a form.
use Rattle.std.specs.Prelude.{◌≡◌, ℕ, ◌-◌, ◌<◌, cond, ◌&&◌, List, length, Some, None, Ok, Err, Option, Result, nat_le, nat_lt, slice_index_or}
use Rattle.atlas.specs.Blocks.{no_form}
use Rattle.search.specs.ClassLaws.{BitSet}
use Rattle.search.specs.Classes.{class_of, mask}
use Rattle.search.specs.Coded.{Coded}
use Rattle.search.specs.Maps.{Map}
use Rattle.search.specs.Searches.{classes}
use Rattle.survey.specs.declared.refusal.Refusal.{Refusal}
use Rattle.survey.specs.declared.refusal.Refusal.TheVariants.{NoSuchForm, NoSuchStation}

-- the form with a number, counted from 1
abbrev pub form_numbered : List Coded → ℕ → Option Coded
form_numbered forms f = cond (nat_lt 0 f && nat_le f (length forms)) (Some (slice_index_or forms (f - 1) no_form)) None

-- the bits of the class of a station, where there is such a station
unfoldable pub class_in : Coded → ℕ → Result ℕ Refusal
class_in g u = cond (nat_lt u g.count) (Ok (mask (class_of (classes g).reps g.count u))) (Err NoSuchStation)

-- what is told of a station of the form with a number
abbrev pub told_in : Option Coded → ℕ → Result ℕ Refusal
told_in None u = Err NoSuchForm
told_in (Some g) u = class_in g u

-- the same, where the form is looked up by its number
unfoldable pub class_told : List Coded → ℕ → ℕ → Result ℕ Refusal
class_told forms f u = told_in (form_numbered forms f) u

-- each station whose bit is set is carried onto station u by a map of the form to itself
abbrev pub CarriedOnto : List Coded → ℕ → ℕ → Result ℕ Refusal → Type 0
CarriedOnto forms f u r =
    (g : Coded) (bits v : ℕ) → form_numbered forms f ≡ Some g → r ≡ Ok bits → BitSet bits v →
    (v < g.count) × ((φ : Map g g) × (φ.to v ≡ u))
