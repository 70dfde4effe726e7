-- Senses as a test, the numbers of labels, and how a legend grows by the labels of a network.
use Rattle.std.proofs.Common.{◌≡◌, ℕ, suc, ◌<◌, ◌≤◌, Bool, true, false, eqb, ltb, ◌⊎◌, List, [], ◌∷◌, ◌++◌, length, ℤ, pos, negsuc, Some, None, Option, sym, refl, ap, ◌∙◌, subst, inl, inr, arith}
use Rattle.std.specs.List.{range_with_len}
use Rattle.std.proofs.lemmas.List.{length_push}
use Rattle.std.proofs.lemmas.Bool.{eqb-true, ltb-true, ltb-false, false≢true}
use Rattle.std.proofs.lemmas.Bool.Decides.{nat_tests}
use Rattle.survey.specs.Networks.{Net}
use Rattle.atlas.proofs.Membership.{In, in_counting, counting_in}
use Rattle.atlas.specs.Legends.{number_of, noted, noted_row, noted_rows, full_legend}
use Rattle.atlas.specs.Senses.{same_int, same_sense}

-- ---- equal senses

-- the test for whole numbers says yes exactly when they are equal
int_same : (x y : ℤ) → same_int x y ≡ true → x ≡ y
int_same (pos m) (pos n) e = ap pos (eqb-true m n e)
int_same (pos m) (negsuc n) e = absurd (false≢true e)
int_same (negsuc m) (pos n) e = absurd (false≢true e)
int_same (negsuc m) (negsuc n) e = ap negsuc (eqb-true m n e)

int_refl : (x : ℤ) → same_int x x ≡ true
int_refl (pos n) = grind (arith, nat_tests)
int_refl (negsuc n) = grind (arith, nat_tests)

-- and that for senses exactly when the senses are equal
pub sense_same : (xs ys : List ℤ) → same_sense xs ys ≡ true → xs ≡ ys
sense_same [] [] e = refl
sense_same [] (y ∷ ys) e = absurd (false≢true e)
sense_same (x ∷ xs) [] e = absurd (false≢true e)
sense_same (x ∷ xs) (y ∷ ys) e = go (same_int x y) refl e (sense_same xs ys)
  where
    go :
        (t : Bool) → same_int x y ≡ t → elim t [ true ↦ same_sense xs ys | false ↦ false ] ≡ true →
        (same_sense xs ys ≡ true → xs ≡ ys) → x ∷ xs ≡ y ∷ ys
    go true p e i = let a = int_same x y p in let b = i e in cc
    go false p e i = absurd (false≢true e)

pub sense_refl : (xs : List ℤ) → same_sense xs xs ≡ true
sense_refl [] = refl
sense_refl (x ∷ xs) = grind (arith, int_refl x, sense_refl xs)

-- ---- the numbers of a legend

module _ {L : Type 0} (sense : L → List ℤ) where
  -- equal senses have equal numbers
  pub number_same : (ls : List L) (x y : L) → sense x ≡ sense y → number_of sense ls x ≡ number_of sense ls y
  number_same [] x y e = refl
  number_same (z ∷ zs) x y e = grind (arith, number_same zs x y e)

  -- and equal numbers that are not 0 come from equal senses
  pub same_number :
      (ls : List L) (x y : L) → number_of sense ls x ≡ number_of sense ls y → 0 < number_of sense ls x →
      sense x ≡ sense y
  same_number [] x y e h = absurd (omega arith)
  same_number (z ∷ zs) x y e h =
      go (same_sense (sense x) (sense z)) (same_sense (sense y) (sense z)) refl refl e h (same_number zs x y)
    where
      -- the number where the first label of the legend has the sense or not
      at : Bool → ℕ → ℕ
      at first r = elim first [ true ↦ 1 | false ↦ elim (eqb r 0) [ true ↦ 0 | false ↦ suc r ] ]

      after_first : (m n : ℕ) → at false m ≡ at false n → 0 < at false m → (m ≡ n) × (0 < m)
      after_first m n e h = (grind (arith, nat_tests), grind (arith, nat_tests))

      not_first : (m : ℕ) → at false m ≡ 1 → ⊥
      not_first m e = grind (arith, nat_tests)

      go :
          (s t : Bool) → same_sense (sense x) (sense z) ≡ s → same_sense (sense y) (sense z) ≡ t →
          at s (number_of sense zs x) ≡ at t (number_of sense zs y) → 0 < at s (number_of sense zs x) →
          (number_of sense zs x ≡ number_of sense zs y → 0 < number_of sense zs x → sense x ≡ sense y) →
          sense x ≡ sense y
      go true true p q e h i = sense_same (sense x) (sense z) p ∙ sym (sense_same (sense y) (sense z) q)
      go true false p q e h i = absurd (not_first (number_of sense zs y) (sym e))
      go false true p q e h i = absurd (not_first (number_of sense zs x) e)
      go false false p q e h i =
          let k = after_first (number_of sense zs x) (number_of sense zs y) e h in
          i k.0 k.1

  -- numbers are those of places
  pub number_low : (ls : List L) (x : L) → number_of sense ls x ≤ length ls
  number_low [] x = omega arith
  number_low (z ∷ zs) x = grind (arith, nat_tests, number_low zs x)

  -- one more label at the end changes no number
  number_push :
      (ls : List L) (x y : L) → 0 < number_of sense ls x → number_of sense (ls ++ y ∷ []) x ≡ number_of sense ls x
  number_push [] x y h = absurd (omega arith)
  number_push (z ∷ zs) x y h = grind (arith, nat_tests, number_push zs x y)

  -- and has one
  number_last : (ls : List L) (x : L) → 0 < number_of sense (ls ++ x ∷ []) x
  number_last [] x = grind (arith, nat_tests, sense_refl (sense x))
  number_last (z ∷ zs) x = grind (arith, nat_tests, number_last zs x)

  -- ---- a legend that grows

  -- ms has what ls has, under the same numbers
  pub record Grown (ls ms : List L) : Type 0 where
    pub longer : length ls ≤ length ms
    pub kept : (x : L) → 0 < number_of sense ls x → number_of sense ms x ≡ number_of sense ls x

  pub grown_refl : (ls : List L) → Grown ls ls
  grown_refl ls = record { longer = omega arith; kept = λ x h. refl }

  pub grown_trans : (ls ms ns : List L) → Grown ls ms → Grown ms ns → Grown ls ns
  grown_trans ls ms ns g h = record {
    longer = omega arith;
    kept = λ x k. let a = g.kept x k in h.kept x (omega arith) ∙ a;
  }

  -- it grows by a leg that is seen
  pub noted_grown : (ls : List L) (o : Option L) → Grown ls (noted sense ls o)
  noted_grown ls None = grown_refl ls
  noted_grown ls (Some x) = go (eqb (number_of sense ls x) 0)
    where
      go : (t : Bool) → Grown ls (elim t as (λ _. List L) [ true ↦ ls ++ x ∷ [] | false ↦ ls ])
      go true = record { longer = omega (arith, length_push ls x); kept = λ y h. number_push ls y x h }
      go false = grown_refl ls

  -- and then has the sense of its label
  noted_has : (ls : List L) (x : L) → 0 < number_of sense (noted sense ls (Some x)) x
  noted_has ls x = go (eqb (number_of sense ls x) 0) refl
    where
      go :
          (t : Bool) → eqb (number_of sense ls x) 0 ≡ t →
          0 < number_of sense (elim t as (λ _. List L) [ true ↦ ls ++ x ∷ [] | false ↦ ls ]) x
      go true e = number_last ls x
      go false e = grind (arith, nat_tests)

  -- so by the legs from one station
  pub noted_row_grown : (f : ℕ → Option L) (vs : List ℕ) (ls : List L) → Grown ls (noted_row sense f vs ls)
  noted_row_grown f [] ls = grown_refl ls
  noted_row_grown f (v ∷ vs) ls =
      let ms = noted sense ls (f v) in
      grown_trans ls ms (noted_row sense f vs ms) (noted_grown ls (f v)) (noted_row_grown f vs ms)

  noted_row_has :
      (f : ℕ → Option L) (vs : List ℕ) (ls : List L) (v : ℕ) (x : L) → In v vs → f v ≡ Some x →
      0 < number_of sense (noted_row sense f vs ls) x
  noted_row_has f [] ls v x m e = absurd m
  noted_row_has f (w ∷ ws) ls v x (inl p) e =
      let h : 0 < number_of sense (noted sense ls (f w)) x =
      subst (λ (o : Option L). 0 < number_of sense (noted sense ls o) x) (sym (ap f p ∙ e)) (noted_has ls x) in
      omega (arith, (noted_row_grown f ws (noted sense ls (f w))).kept x h)
  noted_row_has f (w ∷ ws) ls v x (inr m) e = noted_row_has f ws (noted sense ls (f w)) v x m e

  -- and by those from several
  pub noted_rows_grown : (f : ℕ → ℕ → Option L) (us vs : List ℕ) (ls : List L) → Grown ls (noted_rows sense f us vs ls)
  noted_rows_grown f [] vs ls = grown_refl ls
  noted_rows_grown f (u ∷ us) vs ls =
      let ms = noted_row sense (f u) vs ls in
      grown_trans ls ms (noted_rows sense f us vs ms) (noted_row_grown (f u) vs ls) (noted_rows_grown f us vs ms)

  noted_rows_has :
      (f : ℕ → ℕ → Option L) (us vs : List ℕ) (ls : List L) (u v : ℕ) (x : L) → In u us → In v vs →
      f u v ≡ Some x → 0 < number_of sense (noted_rows sense f us vs ls) x
  noted_rows_has f [] vs ls u v x m n e = absurd m
  noted_rows_has f (w ∷ ws) vs ls u v x (inl p) n e =
      let ms = noted_row sense (f w) vs ls in
      let h = noted_row_has (f w) vs ls v x n (ap (λ y. f y v) p ∙ e) in
      omega (arith, (noted_rows_grown f ws vs ms).kept x h)
  noted_rows_has f (w ∷ ws) vs ls u v x (inr m) n e = noted_rows_has f ws vs (noted_row sense (f w) vs ls) u v x m n e

  -- ---- a legend that grows lacks a sense

  -- the sense of a leg from one station is lacking in ls
  abbrev LacksIn : (ℕ → Option L) → List ℕ → List L → Type 0
  LacksIn f vs ls = (v : ℕ) × (x : L) × In v vs × (f v ≡ Some x) × (number_of sense ls x ≡ 0)

  -- ms is ls, or is longer since ls lacks some sense
  abbrev CaseIn : (ℕ → Option L) → List ℕ → List L → List L → Type 0
  CaseIn f vs ls ms = (ms ≡ ls) ⊎ (LacksIn f vs ls × (length ls < length ms))

  noted_row_case : (f : ℕ → Option L) (vs : List ℕ) (ls : List L) → CaseIn f vs ls (noted_row sense f vs ls)
  noted_row_case f [] ls = inl refl
  noted_row_case f (v ∷ vs) ls = go (f v) refl (noted_row_case f vs ls)
    where
      same : CaseIn f vs ls (noted_row sense f vs ls) → CaseIn f (v ∷ vs) ls (noted_row sense f vs ls)
      same (inl e) = inl e
      same (inr r) = let k = r.0 in inr ((k.0, k.1, inr k.2, k.3, k.4), r.1)

      at :
          (x : L) → f v ≡ Some x → (t : Bool) → eqb (number_of sense ls x) 0 ≡ t →
          CaseIn f vs ls (noted_row sense f vs ls) →
          CaseIn f (v ∷ vs) ls (noted_row sense f vs (elim t as (λ _. List L) [ true ↦ ls ++ x ∷ [] | false ↦ ls ]))
      at x e true p i =
          inr (
            (v, x, inl refl, e, eqb-true (number_of sense ls x) 0 p),
            omega (arith, length_push ls x, (noted_row_grown f vs (ls ++ x ∷ [])).longer),
          )
      at x e false p i = same i

      go :
          (o : Option L) → f v ≡ o → CaseIn f vs ls (noted_row sense f vs ls) →
          CaseIn f (v ∷ vs) ls (noted_row sense f vs (noted sense ls o))
      go None e i = same i
      go (Some x) e i = at x e (eqb (number_of sense ls x) 0) refl i

  -- the sense of a leg from one of several is lacking in ls
  abbrev LacksRows : (ℕ → ℕ → Option L) → List ℕ → List ℕ → List L → Type 0
  LacksRows f us vs ls =
      (u v : ℕ) × (x : L) × In u us × In v vs × (f u v ≡ Some x) × (number_of sense ls x ≡ 0)

  abbrev CaseRows : (ℕ → ℕ → Option L) → List ℕ → List ℕ → List L → List L → Type 0
  CaseRows f us vs ls ms = (ms ≡ ls) ⊎ (LacksRows f us vs ls × (length ls < length ms))

  noted_rows_case :
      (f : ℕ → ℕ → Option L) (us vs : List ℕ) (ls : List L) → CaseRows f us vs ls (noted_rows sense f us vs ls)
  noted_rows_case f [] vs ls = inl refl
  noted_rows_case f (u ∷ us) vs ls = go (noted_row_case (f u) vs ls) (noted_rows_case f us vs ls)
    where
      go :
          CaseIn (f u) vs ls (noted_row sense (f u) vs ls) → CaseRows f us vs ls (noted_rows sense f us vs ls) →
          CaseRows f (u ∷ us) vs ls (noted_rows sense f us vs (noted_row sense (f u) vs ls))
      go (inl e) (inl i) = inl (ap (noted_rows sense f us vs) e ∙ i)
      go (inl e) (inr r) =
          let k = r.0 in
          inr (
            (k.0, k.1, k.2, inr k.3, k.4, k.5, k.6),
            subst (λ (ms : List L). length ls < length (noted_rows sense f us vs ms)) (sym e) r.1,
          )
      go (inr r) i =
          let k = r.0 in
          inr (
            (u, k.0, k.1, inl refl, k.2, k.3, k.4),
            omega (arith, r.1, (noted_rows_grown f us vs (noted_row sense (f u) vs ls)).longer),
          )

  -- ---- the full legend of a network

  -- it has what the legend has, under the same numbers
  pub full_grown : (n : Net L) (ls : List L) → Grown ls (full_legend sense n ls)
  full_grown n ls = noted_rows_grown n.leg (range_with_len 0 n.count) (range_with_len 0 n.count) ls

  -- and the sense of every leg
  pub full_has :
      (n : Net L) (ls : List L) (u v : ℕ) (x : L) → u < n.count → v < n.count → n.leg u v ≡ Some x →
      0 < number_of sense (full_legend sense n ls) x
  full_has n ls u v x a b e =
      let us = range_with_len 0 n.count in
      noted_rows_has n.leg us us ls u v x
      (in_counting u 0 n.count (omega arith) (omega arith))
      (in_counting v 0 n.count (omega arith) (omega arith)) e

  -- a leg of n has a sense that ls lacks
  abbrev pub Lacks : Net L → List L → Type 0
  Lacks n ls =
      (u v : ℕ) × (x : L) × (u < n.count) × (v < n.count) × (n.leg u v ≡ Some x) × (number_of sense ls x ≡ 0)

  -- the full legend is the legend, or is longer since the legend lacks some sense
  full_case :
      (n : Net L) (ls : List L) →
      CaseRows n.leg (range_with_len 0 n.count) (range_with_len 0 n.count) ls (full_legend sense n ls)
  full_case n ls = noted_rows_case n.leg (range_with_len 0 n.count) (range_with_len 0 n.count) ls

  -- no longer than the legend, it is the legend
  pub full_same :
      (n : Net L) (ls : List L) → ltb (length ls) (length (full_legend sense n ls)) ≡ false → full_legend sense n ls ≡ ls
  full_same n ls e =
      elim (full_case n ls) [
        | inl p ↦ p
        | inr r ↦ absurd (omega (arith, r.1, ltb-false (length ls) (length (full_legend sense n ls)) e))
      ]

  -- and longer, it shows that the legend lacks some sense
  pub full_lacks :
      (n : Net L) (ls : List L) → ltb (length ls) (length (full_legend sense n ls)) ≡ true → Lacks n ls
  full_lacks n ls e =
      elim (full_case n ls) [
        | inl p ↦ absurd (omega (arith, ap length p, ltb-true (length ls) (length (full_legend sense n ls)) e))
        | inr r ↦
            let k = r.0 in
            let u-in = counting_in k.0 0 n.count k.3 in
            let v-in = counting_in k.1 0 n.count k.4 in
            (k.0, k.1, k.2, omega (arith, u-in), omega (arith, v-in), k.5, k.6)
      ]
