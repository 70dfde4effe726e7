-- Reading a network, check by check.
use Rattle.std.proofs.Common.{◌≡◌, ℕ, ◌<◌, ◌≤◌, Bool, true, false, eqb, ltb, List, ℤ, Some, None, Ok, Err, Option, Result, refl, ap, ◌∙◌, arith, le-ltb, lt-ltb, eq-eqb, ne_eqb}
use Rattle.std.proofs.lemmas.Bool.{eqb-false, ltb-false}
use Rattle.std.specs.List.{range_with_len}
use Rattle.atlas.specs.Calls.{first_loop}
use Rattle.atlas.specs.Readings.{stations_read}
use Rattle.survey.specs.Networks.{Net}
use Rattle.survey.specs.declared.refusal.Refusal.{Refusal}
use Rattle.survey.specs.declared.refusal.Refusal.TheVariants.{NoStations, TooManyStations, LegToItself}

-- what the three checks come to
abbrev checked : Bool → Bool → Option ℕ → ℕ → Result ℕ Refusal
checked none many loop count =
    elim none as (λ _. Result ℕ Refusal) [
      | true ↦ Err NoStations
      | false ↦ elim many as (λ _. Result ℕ Refusal) [
        | true ↦ Err TooManyStations
        | false ↦ elim loop as (λ _. Result ℕ Refusal) [ Some u ↦ Err (LegToItself u) | None ↦ Ok count ]
      ]
    ]

module _ {L : Type 0} (sense : L → List ℤ) (n : Net L) where
  read_by :
      (a b : Bool) (o : Option ℕ) → eqb n.count 0 ≡ a → ltb 64 n.count ≡ b → first_loop sense n (range_with_len 0 n.count) ≡ o → stations_read sense n ≡ checked a b o n.count
  unfolding stations_read
  read_by a b o e f h =
      ap (λ (x : Bool). checked x (ltb 64 n.count) (first_loop sense n (range_with_len 0 n.count)) n.count) e
      ∙ ap (λ (y : Bool). checked a y (first_loop sense n (range_with_len 0 n.count)) n.count) f
      ∙ ap (λ (z : Option ℕ). checked a b z n.count) h

  pub read_none : n.count ≡ 0 → stations_read sense n ≡ Err NoStations
  read_none e = read_by true (ltb 64 n.count) (first_loop sense n (range_with_len 0 n.count)) (eq-eqb n.count 0 e) refl refl

  pub read_many : 64 < n.count → stations_read sense n ≡ Err TooManyStations
  read_many h =
      read_by false true (first_loop sense n (range_with_len 0 n.count)) (ne_eqb n.count 0 (λ e. omega arith)) (lt-ltb 64 n.count h) refl

  pub read_loop : (u : ℕ) → 0 < n.count → n.count ≤ 64 → first_loop sense n (range_with_len 0 n.count) ≡ Some u → stations_read sense n ≡ Err (LegToItself u)
  read_loop u a b e = read_by false false (Some u) (ne_eqb n.count 0 (λ e. omega arith)) (le-ltb 64 n.count b) e

  pub read_whole : 0 < n.count → n.count ≤ 64 → first_loop sense n (range_with_len 0 n.count) ≡ None → stations_read sense n ≡ Ok n.count
  read_whole a b e = read_by false false None (ne_eqb n.count 0 (λ e. omega arith)) (le-ltb 64 n.count b) e

  -- a network that can be read has some stations, at most 64, and none with a leg to itself
  pub record Readable : Type 0 where
    pub some : 0 < n.count
    pub few : n.count ≤ 64
    pub loopless : first_loop sense n (range_with_len 0 n.count) ≡ None

  pub read_ok : (k : ℕ) → Ok k ≡ stations_read sense n → (k ≡ n.count) × Readable
  read_ok k e =
      go (eqb n.count 0) (ltb 64 n.count) (first_loop sense n (range_with_len 0 n.count)) refl refl refl
      (e ∙ read_by (eqb n.count 0) (ltb 64 n.count) (first_loop sense n (range_with_len 0 n.count)) refl refl refl)
    where
      go :
          (a b : Bool) (o : Option ℕ) → eqb n.count 0 ≡ a → ltb 64 n.count ≡ b → first_loop sense n (range_with_len 0 n.count) ≡ o →
          Ok k ≡ checked a b o n.count → (k ≡ n.count) × Readable
      go true b o p q r e = let z : ◌≡◌ {A = ℕ} 0 1 = cc in absurd (omega arith)
      go false true o p q r e = let z : ◌≡◌ {A = ℕ} 0 1 = cc in absurd (omega arith)
      go false false (Some u) p q r e = let z : ◌≡◌ {A = ℕ} 0 1 = cc in absurd (omega arith)
      go false false None p q r e =
          ((cc), record { some = omega (arith, eqb-false n.count 0 p); few = ltb-false 64 n.count q; loopless = r })
