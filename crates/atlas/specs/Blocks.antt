-- Blocks of lent bytes: which coded network a block holds.
use Rattle.std.specs.Prelude.{◌≡◌, ℕ, ◌+◌, ◌*◌, ◌/◌, ◌%◌, min, false, cond, ◌&&◌, List, length, nat_le, nat_lt, slice_index}
use Rattle.search.specs.Arrays.{searchable}
use Rattle.search.specs.Coded.{Coded}

-- how many blocks some bytes have: each whole 4,161 bytes, at most the first 200
abbrev pub blocks_in : List ℕ → ℕ
blocks_in bytes = min (length bytes / 4161) 200

-- the coded network in block k of some bytes: its count, then 64 kinds, then 64 codes for each of 64 stations
abbrev pub block_coded : List ℕ → ℕ → Coded
block_coded bytes k = record {
  count = slice_index bytes (4161 * k);
  kind = λ u. cond (nat_lt u 64) (slice_index bytes (4161 * k + 1 + u)) 0;
  code = λ u v. cond (nat_lt u 64 && nat_lt v 64) (slice_index bytes (4161 * k + 65 + 64 * u + v)) 0;
}

-- a coded network of no stations
abbrev pub no_form : Coded
no_form = record { count = 0; kind = λ _. 0; code = λ _ _. 0 }

-- the form in block k: the coded network there, or one of no stations where that cannot be searched
abbrev pub form_in : List ℕ → ℕ → Coded
form_in bytes k = cond (searchable (block_coded bytes k)) (block_coded bytes k) no_form

-- a coded network without what stands past its last station
abbrev pub trimmed : Coded → Coded
trimmed g = record {
  count = g.count;
  kind = λ u. cond (nat_lt u g.count) (g.kind u) 0;
  code = λ u v. cond (nat_lt u g.count && nat_lt v g.count) (g.code u v) 0;
}

-- the codes in the order in which they stand: those of station u from 64 u on
abbrev pub code_in_order : Coded → ℕ → ℕ
code_in_order g i = g.code (i / 64) (i % 64)

-- every place but the n from `at` on holds what it held
abbrev pub Kept : ℕ → ℕ → List ℕ → List ℕ → Type 0
Kept at n before after = (i : ℕ) → (nat_le at i && nat_lt i (at + n)) ≡ false → slice_index after i ≡ slice_index before i
