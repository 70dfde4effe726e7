-- Every source keeps the bounds of a network.
use Rattle.std.specs.Prelude.{◌≡◌, ℕ, ◌+◌, ◌*◌, ◌≤◌, min, Bool, true, false, cond, ◌&&◌, List, None, Option, nat_lt, slice_index, refl}
use Rattle.std.proofs.Common.{ap, ◌∙◌, arith, le-ltb}
use Rattle.survey.specs.declared.leg_list.Leg.{Leg}
use Rattle.survey.specs.Networks.{Bounded}
use Rattle.survey.specs.Sources.{kinds_counted, kind_listed, first_record, list_means, grade_in_byte, table_means}

-- the second part of a test fails it
pub second_fails : {X : Type 0} (a b : Bool) (x : Option X) → b ≡ false → cond (a && b) x None ≡ None
second_fails a b x e =
    ap (λ (t : Bool). cond (a && t) x None) e ∙ elim a as (λ s. cond (s && false) x None ≡ None) [ true ↦ refl | false ↦ refl ]

-- a listed kind is a byte
pub kind_fits_byte : (kinds : List ℕ) (u : ℕ) → kind_listed kinds u ≤ 255
kind_fits_byte kinds u =
    elim (nat_lt u (kinds_counted kinds)) as (λ b. cond b (min (slice_index kinds u) 255) 0 ≤ 255) [ true ↦ omega arith | false ↦ omega arith ]

-- a station past the last has kind 0
pub no_kind_past : (kinds : List ℕ) (u : ℕ) → kinds_counted kinds ≤ u → kind_listed kinds u ≡ 0
no_kind_past kinds u h = ap (λ (b : Bool). cond b (min (slice_index kinds u) 255) 0) (le-ltb u (kinds_counted kinds) h)

-- a leg list keeps the bounds
pub list_bounded : {L : Type 0} (kinds : List ℕ) (legs : List (Leg L)) → Bounded (list_means kinds legs)
list_bounded kinds legs =
    record {
      count_fits = omega arith;
      kind_fits = kind_fits_byte kinds;
      no_kind = no_kind_past kinds;
      no_leg_from =
          λ u v h.
          ap (λ (b : Bool). cond (b && nat_lt v (kinds_counted kinds)) (first_record legs u v) None) (le-ltb u (kinds_counted kinds) h);
      no_leg_to =
          λ u v h.
          second_fails (nat_lt u (kinds_counted kinds)) (nat_lt v (kinds_counted kinds)) (first_record legs u v) (le-ltb v (kinds_counted kinds) h);
    }

-- a grade table keeps the bounds
pub table_bounded : (kinds bytes : List ℕ) → Bounded (table_means kinds bytes)
table_bounded kinds bytes =
    record {
      count_fits = omega arith;
      kind_fits = kind_fits_byte kinds;
      no_kind = no_kind_past kinds;
      no_leg_from =
          λ u v h.
          ap
          (λ (b : Bool). cond ((b && nat_lt v (kinds_counted kinds)) && (nat_lt u 64 && nat_lt v 64)) (grade_in_byte (slice_index bytes (64 * u + v))) None)
          (le-ltb u (kinds_counted kinds) h);
      no_leg_to =
          λ u v h.
          ap
          (λ (b : Bool). cond ((nat_lt u (kinds_counted kinds) && b) && (nat_lt u 64 && nat_lt v 64)) (grade_in_byte (slice_index bytes (64 * u + v))) None)
          (le-ltb v (kinds_counted kinds) h)
          ∙ elim (nat_lt u (kinds_counted kinds)) as (λ s. cond ((s && false) && (nat_lt u 64 && nat_lt v 64)) (grade_in_byte (slice_index bytes (64 * u + v))) None ≡ None) [ true ↦ refl | false ↦ refl ];
    }
