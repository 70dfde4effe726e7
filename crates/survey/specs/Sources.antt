-- Sources of networks: what lent kinds, records and tables mean.
use Rattle.std.specs.Prelude.{ℕ, ◌+◌, ◌*◌, min, cond, ◌&&◌, List, [], ◌∷◌, length, Some, None, Option, ◌==◌, nat_lt, slice_index}
use Rattle.survey.specs.declared.grade.Grade.{Grade}
use Rattle.survey.specs.declared.leg_list.Leg.{Leg}
use Rattle.survey.specs.Networks.{Net}

-- as many stations as kinds; kinds after the first 65,535 are left out
abbrev pub kinds_counted : List ℕ → ℕ
kinds_counted kinds = min (length kinds) 65535

-- the kind of a station, a byte; 0 for a station that is not there
abbrev pub kind_listed : List ℕ → ℕ → ℕ
kind_listed kinds u = cond (nat_lt u (kinds_counted kinds)) (min (slice_index kinds u) 255) 0

-- the label of the first record from u to v
abbrev pub first_record : {L : Type 0} → List (Leg L) → ℕ → ℕ → Option L
first_record [] u v = None
first_record (r ∷ rs) u v = cond (r.from == u && r.to == v) (Some r.label) (first_record rs u v)

-- a leg list means its kinds, and for a pair of stations the first record that joins them
abbrev pub list_means : {L : Type 0} → List ℕ → List (Leg L) → Net L
list_means kinds legs =
    record {
      count = kinds_counted kinds;
      kind = kind_listed kinds;
      leg = λ u v. cond (nat_lt u (kinds_counted kinds) && nat_lt v (kinds_counted kinds)) (first_record legs u v) None;
    }

-- a byte of a grade table: 0 stands for no leg
abbrev pub grade_in_byte : ℕ → Option Grade
grade_in_byte b = cond (b == 0) None (Some (record { value = b }))

-- a grade table means its kinds, and for stations u and v below 64 the grade in byte 64u+v, none past the end
abbrev pub table_means : List ℕ → List ℕ → Net Grade
table_means kinds bytes =
    record {
      count = kinds_counted kinds;
      kind = kind_listed kinds;
      leg =
          λ u v.
          cond
          ((nat_lt u (kinds_counted kinds) && nat_lt v (kinds_counted kinds)) && (nat_lt u 64 && nat_lt v 64))
          (grade_in_byte (slice_index bytes (64 * u + v)))
          None;
    }
