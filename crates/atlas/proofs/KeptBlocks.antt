-- Blocks of forms: a coded network is written whole, and writing one block leaves the others.
use Rattle.std.proofs.Common.{◌≡◌, ℕ, ◌+◌, ◌*◌, ◌<◌, ◌≤◌, Bool, false, cond, ◌&&◌, ltb, leb, ◌⊎◌, List, get_or, ℤ, sym, ap, ◌∙◌, inl, inr, arith, le-ltb, lt-ltb}
use Rattle.std.proofs.lemmas.Bool.{cases_lt}
use Rattle.std.proofs.lemmas.Bool.Decides.{nat_tests}
use Rattle.atlas.specs.Blocks.{block_coded, trimmed, Kept}
use Rattle.atlas.specs.Legends.{code_of, coded_by}
use Rattle.survey.specs.Networks.{Net, Bounded}

module _ {L : Type 0} (sense : L → List ℤ) (ls : List L) (n : Net L) (bounds : Bounded n) where
  kind_trimmed : (u : ℕ) → (trimmed (coded_by sense ls n)).kind u ≡ n.kind u
  kind_trimmed u = go (cases_lt u n.count)
    where
      go : (u < n.count) ⊎ (n.count ≤ u) → (trimmed (coded_by sense ls n)).kind u ≡ n.kind u
      go (inl l) = ap (λ (b : Bool). cond b (n.kind u) 0) (lt-ltb u n.count l)
      go (inr l) = ap (λ (b : Bool). cond b (n.kind u) 0) (le-ltb u n.count l) ∙ sym (bounds.no_kind u l)

  code_trimmed : (u v : ℕ) → (trimmed (coded_by sense ls n)).code u v ≡ code_of sense ls (n.leg u v)
  code_trimmed u v = go (cases_lt u n.count) (cases_lt v n.count)
    where
      both : u < n.count → v < n.count → (a : ℕ) → cond (ltb u n.count && ltb v n.count) a 0 ≡ a
      both l m a = grind (arith, nat_tests)

      past : (n.count ≤ u) ⊎ (n.count ≤ v) → (a : ℕ) → cond (ltb u n.count && ltb v n.count) a 0 ≡ 0
      past (inl l) a = grind (arith, nat_tests)
      past (inr l) a = grind (arith, nat_tests)

      go :
          (u < n.count) ⊎ (n.count ≤ u) → (v < n.count) ⊎ (n.count ≤ v) → (trimmed (coded_by sense ls n)).code u v ≡ code_of sense ls (n.leg u v)
      go (inl l) (inl m) = both l m (code_of sense ls (n.leg u v))
      go (inl l) (inr m) = past (inr m) (code_of sense ls (n.leg u v)) ∙ sym (ap (code_of sense ls) (bounds.no_leg_to u v m))
      go (inr l) m = past (inl l) (code_of sense ls (n.leg u v)) ∙ sym (ap (code_of sense ls) (bounds.no_leg_from u v l))

  -- a network that keeps its bounds has nothing past its last station when it is coded
  pub trimmed_coded : trimmed (coded_by sense ls n) ≡ coded_by sense ls n
  trimmed_coded =
      λ i. record { count = n.count; kind = λ u. kind_trimmed u i; code = λ u v. code_trimmed u v i }

  -- and its kinds are bytes
  pub kinds_coded : (u : ℕ) → (coded_by sense ls n).kind u < 256
  kinds_coded u = omega (arith, bounds.kind_fits u)

module _ (old new : List ℕ) (k j : ℕ) (apart : j ≡ k → ⊥) (kept : Kept (4161 * k) 4161 old new) where
  -- a byte of another block
  byte_kept : (i : ℕ) → 4161 * j ≤ i → i < 4161 * j + 4161 → get_or new i 0 ≡ get_or old i 0
  byte_kept i a b = kept i (go (λ l m. apart (omega arith)))
    where
      go : (4161 * k ≤ i → i < 4161 * k + 4161 → ⊥) → (leb (4161 * k) i && ltb i (4161 * k + 4161)) ≡ false
      go h = grind (arith, nat_tests)

  kind_kept : (u : ℕ) → (block_coded new j).kind u ≡ (block_coded old j).kind u
  kind_kept u = go (cases_lt u 64)
    where
      go : (u < 64) ⊎ (64 ≤ u) → (block_coded new j).kind u ≡ (block_coded old j).kind u
      go (inl l) = ap (λ (x : ℕ). cond (ltb u 64) x 0) (byte_kept (4161 * j + 1 + u) (omega arith) (omega arith))
      go (inr l) = past (get_or new (4161 * j + 1 + u) 0) (get_or old (4161 * j + 1 + u) 0)
        where
          past : (a b : ℕ) → cond (ltb u 64) a 0 ≡ cond (ltb u 64) b 0
          past a b = grind (arith, nat_tests)

  code_kept : (u v : ℕ) → (block_coded new j).code u v ≡ (block_coded old j).code u v
  code_kept u v = go (cases_lt u 64) (cases_lt v 64)
    where
      past : (64 ≤ u) ⊎ (64 ≤ v) → (a b : ℕ) → cond (ltb u 64 && ltb v 64) a 0 ≡ cond (ltb u 64 && ltb v 64) b 0
      past (inl l) a b = grind (arith, nat_tests)
      past (inr l) a b = grind (arith, nat_tests)

      go : (u < 64) ⊎ (64 ≤ u) → (v < 64) ⊎ (64 ≤ v) → (block_coded new j).code u v ≡ (block_coded old j).code u v
      go (inl l) (inl m) =
          ap (λ (x : ℕ). cond (ltb u 64 && ltb v 64) x 0) (byte_kept (4161 * j + 65 + 64 * u + v) (omega arith) (omega arith))
      go (inl l) (inr m) = past (inr m) (get_or new (4161 * j + 65 + 64 * u + v) 0) (get_or old (4161 * j + 65 + 64 * u + v) 0)
      go (inr l) m = past (inl l) (get_or new (4161 * j + 65 + 64 * u + v) 0) (get_or old (4161 * j + 65 + 64 * u + v) 0)

  -- another block holds what it held
  pub block_other : block_coded new j ≡ block_coded old j
  block_other =
      λ i.
      record {
        count = byte_kept (4161 * j) (omega arith) (omega arith) i;
        kind = λ u. kind_kept u i;
        code = λ u v. code_kept u v i;
      }
