-- What an atlas holds, and the lent memory that it lies in.
use Rattle.std.specs.Prelude.{ℕ, min, List, [], ◌∷◌, ◌++◌, map}
use Rattle.std.specs.List.{range_with_len}
use Rattle.atlas.specs.Blocks.{form_in, blocks_in}
use Rattle.atlas.specs.Calls.{Held}
use Rattle.atlas.specs.Lent.{labels_of, room_of}
use Rattle.atlas.specs.declared.Atlas.{Atlas}
use Rattle.search.specs.Coded.{Coded}

-- the forms in the first n blocks of some bytes
abbrev pub forms_in : List ℕ → ℕ → List Coded
forms_in bytes n = map (form_in bytes) (range_with_len 0 n)

-- what an atlas holds
unfoldable pub held_of : {L : Type 0} → Atlas L → Held L
held_of a = record {
  blocks = blocks_in a.bytes.now;
  places = room_of a.legend;
  forms = forms_in a.bytes.now (min a.forms (blocks_in a.bytes.now));
  legend = labels_of a.legend;
}

-- its lent bytes
unfoldable pub bytes_of : {L : Type 0} → Atlas L → List ℕ
bytes_of a = a.bytes.now

-- its lent label places
unfoldable pub places_of : {L : Type 0} → Atlas L → List L
places_of a = a.legend.places.now

-- an atlas with one form more
abbrev pub with_coded : {L : Type 0} → Held L → Coded → Held L
with_coded s g = record { blocks = s.blocks; places = s.places; forms = s.forms ++ g ∷ []; legend = s.legend }
