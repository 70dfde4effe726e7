-- The coded network that stands in arrays, where the kinds and codes of a network were written into zeros.
use Rattle.std.proofs.Common.{◌≡◌, ℕ, zero, suc, ◌+◌, ◌-◌, ◌*◌, ◌/◌, ◌%◌, ◌<◌, ◌≤◌, Bool, true, false, cond, ◌&&◌, ltb, ◌⊎◌, List, ◌++◌, length, get_or, take, drop, replicate, ℤ, Some, None, Option, sym, refl, ap, ap₂, ◌∙◌, inl, inr, arith, length-append, length-drop, length-take, get_or-take, le-ltb, lt-ltb, le-leb}
use lib.ListN.{length-replicate, get_or-replicate}
use Rattle.std.specs.List.{range_with_len}
use Rattle.std.specs.Option.{option_map, IsSome}
use Rattle.std.proofs.lemmas.List.{get_or-append_right, get_or-drop, get_or_past, take_at}
use Rattle.std.proofs.lemmas.Bool.{eq-eqb, cases_lt}
use Rattle.atlas.specs.Blocks.{no_form}
use Rattle.atlas.specs.Calls.{first_loop}
use Rattle.atlas.specs.Legends.{code_of, coded_by}
use Rattle.atlas.proofs.CallCases.{loops_none}
use Rattle.atlas.proofs.Membership.{in_counting}
use Rattle.search.proofs.Networked.{few_loopless}
use Rattle.search.specs.Arrays.{in_arrays, loopless_below, searchable}
use Rattle.search.specs.Coded.{Coded}
use Rattle.search.specs.Meanings.{coded}
use Rattle.search.specs.declared.coded.CodedNetwork.{CodedNetwork}
use Rattle.survey.specs.Networks.{Net, Bounded}

-- zeros hold 0 at each place, and past them
pub zeros_at : (n i : ℕ) → ◌≡◌ {A = ℕ} (get_or (replicate n 0) i 0) 0
zeros_at n i = go (cases_lt i n)
  where
    go : (i < n) ⊎ (n ≤ i) → ◌≡◌ {A = ℕ} (get_or (replicate n 0) i 0) 0
    go (inl l) = get_or-replicate n i 0 0 l
    go (inr l) = get_or_past (replicate n 0) i 0 (omega (arith, length-replicate {A = ℕ} n 0))

-- a network of which each of the first n stations has no leg to itself
loopless_each : (g : Coded) (n : ℕ) → ((u : ℕ) → u < n → g.code u u ≡ 0) → loopless_below g n ≡ true
loopless_each g zero h = refl
loopless_each g (suc n) h =
    ap (λ (t : Bool). t && loopless_below g n) (eq-eqb (g.code n n) 0 (h n (omega arith))) ∙ loopless_each g n (λ u l. h u (omega arith))

module _ {L : Type 0} (sense : L → List ℤ) (ls : List L) (n : Net L) (small : n.count ≤ 64) where
  -- a network that can be read can be searched when it is coded
  pub coded_searchable : first_loop sense n (range_with_len 0 n.count) ≡ None → searchable (coded_by sense ls n) ≡ true
  coded_searchable e =
      few_loopless (coded_by sense ls n) small
      (loopless_each (coded_by sense ls n) n.count (λ u l. ap (code_of sense ls) (loops_none sense n (range_with_len 0 n.count) e u (in_counting u 0 n.count (omega arith) (omega arith)))))

  module _ (bounds : Bounded n) (count : ℕ) (same : count ≡ n.count) (kinds codes : List ℕ) (k64 : length kinds ≡ 64) (c4096 : length codes ≡ 4096) (ks : (u : ℕ) → u < 64 → get_or kinds u 0 ≡ n.kind u) (cs : (i : ℕ) → i < 4096 → get_or codes i 0 ≡ code_of sense ls (n.leg (i / 64) (i % 64))) where
    -- the kinds
    kind_is : (u : ℕ) → get_or kinds u 0 ≡ n.kind u
    kind_is u = go (cases_lt u 64)
      where
        go : (u < 64) ⊎ (64 ≤ u) → get_or kinds u 0 ≡ n.kind u
        go (inl l) = ks u l
        go (inr l) = get_or_past kinds u 0 (omega arith) ∙ sym (bounds.no_kind u (omega arith))

    -- the codes
    code_is : (u v : ℕ) → cond (ltb v 64) (get_or codes (64 * u + v) 0) 0 ≡ code_of sense ls (n.leg u v)
    code_is u v = go (cases_lt u 64) (cases_lt v 64)
      where
        go : (u < 64) ⊎ (64 ≤ u) → (v < 64) ⊎ (64 ≤ v) → cond (ltb v 64) (get_or codes (64 * u + v) 0) 0 ≡ code_of sense ls (n.leg u v)
        go (inl l) (inl k) =
            ap (λ (b : Bool). cond b (get_or codes (64 * u + v) 0) 0) (lt-ltb v 64 k)
            ∙ cs (64 * u + v) (omega arith)
            ∙ ap₂ (λ (x y : ℕ). code_of sense ls (n.leg x y)) {x = (64 * u + v) / 64} {y = u} (omega arith) (omega arith)
        go (inr l) (inl k) =
            ap (λ (b : Bool). cond b (get_or codes (64 * u + v) 0) 0) (lt-ltb v 64 k)
            ∙ get_or_past codes (64 * u + v) 0 (omega arith)
            ∙ sym (ap (code_of sense ls) (bounds.no_leg_from u v (omega arith)))
        go l (inr k) =
            ap (λ (b : Bool). cond b (get_or codes (64 * u + v) 0) 0) (le-ltb v 64 k)
            ∙ sym (ap (code_of sense ls) (bounds.no_leg_to u v (omega arith)))

    -- what stands in the arrays is the coded network
    pub arrays_coded : in_arrays count kinds codes ≡ coded_by sense ls n
    arrays_coded = λ i. record { count = same i; kind = λ u. kind_is u i; code = λ u v. code_is u v i }

-- some rows of zeros
pub rows_wide : (count : ℕ) → 64 * count ≤ 4096 → 64 * count ≡ length (take (64 * count) (replicate {A = ℕ} 4096 0))
rows_wide count few =
    omega (arith, length-take (64 * count) (replicate {A = ℕ} 4096 0), length-replicate {A = ℕ} 4096 0)

-- codes that are zeros but for the rows of the first stations, where those of the legs were written
module _ {L : Type 0} (sense : L → List ℤ) (ls : List L) (n : Net L) (bounds : Bounded n) (count : ℕ) (same : count ≡ n.count) (few : 64 * count ≤ 4096) (rows : List ℕ) (long : length rows ≡ length (take (64 * count) (replicate {A = ℕ} 4096 0))) where
  wide : length (take (64 * count) (replicate {A = ℕ} 4096 0)) ≡ 64 * count
  wide = sym (rows_wide count few)

  pub rows_length : length (rows ++ drop (64 * count) (replicate 4096 0)) ≡ 4096
  rows_length =
      length-append rows (drop (64 * count) (replicate 4096 0))
      ∙ omega (arith, long, wide, length-drop (64 * count) (replicate {A = ℕ} 4096 0), length-replicate {A = ℕ} 4096 0)

  pub rows_hold :
      ((i : ℕ) → i < length (take (64 * count) (replicate {A = ℕ} 4096 0)) → get_or rows i 0 ≡ code_of sense ls (n.leg (i / 64) (i % 64))) →
      (i : ℕ) → i < 4096 → get_or (rows ++ drop (64 * count) (replicate 4096 0)) i 0 ≡ code_of sense ls (n.leg (i / 64) (i % 64))
  rows_hold each i h = go (cases_lt i (64 * count))
    where
      rest : List ℕ
      rest = drop (64 * count) (replicate 4096 0)

      go : (i < 64 * count) ⊎ (64 * count ≤ i) → get_or (rows ++ rest) i 0 ≡ code_of sense ls (n.leg (i / 64) (i % 64))
      go (inl l) =
          sym (get_or-take (64 * count) (rows ++ rest) i 0 l)
          ∙ ap (λ (xs : List ℕ). get_or xs i 0) (take_at rows rest (64 * count) (long ∙ wide))
          ∙ each i (omega (arith, wide))
      go (inr l) =
          get_or-append_right rows rest (64 * count) i 0 (long ∙ wide) l
          ∙ get_or-drop (64 * count) (replicate 4096 0) (i - 64 * count) 0
          ∙ zeros_at 4096 (64 * count + (i - 64 * count))
          ∙ sym (ap (code_of sense ls) (bounds.no_leg_from (i / 64) (i % 64) (omega arith)))

module _ {X : Type 0} (means : X → Coded) (g h : Coded) (same : g ≡ h) (s : searchable h ≡ true) where
  -- a coded network that can be searched is there
  there : (o : Option X) → option_map means o ≡ cond (searchable g) (Some g) None → option_map means o ≡ Some h
  there o e =
      e
      ∙ ap {B = Option Coded} (λ (k : Coded). cond (searchable k) (Some k) None) same
      ∙ ap {B = Option Coded} (λ (b : Bool). cond b (Some h) None) s

  -- what there is stands for it
  pub there_is : (o : Option X) (x : X) → option_map means o ≡ cond (searchable g) (Some g) None → o ≡ Some x → means x ≡ h
  there_is o x e i = let r = ap (option_map means) (sym i) ∙ there o e in cc

  -- there is something
  pub there_some : (o : Option X) → option_map means o ≡ cond (searchable g) (Some g) None → IsSome o
  there_some None e = let r = there None e in let z : ◌≡◌ {A = ℕ} 0 1 = cc in absurd (omega arith)
  there_some (Some x) e = refl

-- arrays of zeros hold the form of no stations
pub no_arrays : in_arrays 0 (replicate 64 0) (replicate 4096 0) ≡ no_form
no_arrays = λ i. record { count = 0; kind = λ u. zeros_at 64 u i; code = λ u v. (ap (λ (x : ℕ). cond (ltb v 64) x 0) (zeros_at 4096 (64 * u + v)) ∙ same (ltb v 64)) i }
  where
    same : (b : Bool) → ◌≡◌ {A = ℕ} (cond b 0 0) 0
    same true = refl
    same false = refl

-- what a network of the code stands for can be searched
pub code_searchable : (n : CodedNetwork) → searchable (coded n) ≡ true
unfolding coded
code_searchable n = go (le-leb n.count 64 n.small) n.loopless
  where
    go : {a b : Bool} → a ≡ true → b ≡ true → (a && b) ≡ true
    go {a} {b} p q = ap (λ (x : Bool). x && b) p ∙ q
