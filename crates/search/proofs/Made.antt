-- an array made from a function of the index
use Rattle.std.proofs.Common.{◌≡◌, ℕ, zero, suc, ◌+◌, ◌<◌, List, map, get_or, subst, ◌∙◌, ap, arith}
use denote.Param.Members.{Mut}
use Rattle.std.specs.Fn.{Called}
use Rattle.std.specs.List.{range_with_len}
use Rattle.std.specs.Array.{IsFromFnResult, IsFromFnResultFrom}
use Rattle.std.proofs.lemmas.List.FromFn.{fill_by_all}

module _ {F B : Type 0} (g : Mut F (ℕ × Unit {0}) B) (f : F) (value : ℕ → B) (one : (i : ℕ) (y : B) (q : F) → Called g f (i, tt) y q → (y ≡ value i) × (q ≡ f)) where
  made_on : (ys : List B) (n i : ℕ) → IsFromFnResultFrom g f ys i n → (k j : ℕ) (d : B) → k < n → i + k ≡ j → get_or ys j d ≡ value j
  made_on ys zero i made k j d h e = absurd (omega arith)
  made_on ys (suc n) i made zero j d h e =
      let is = one i made.1 made.0 made.3 in
      ap (λ (m : ℕ). get_or ys m d) (omega arith) ∙ made.2.1 d ∙ is.0 ∙ ap value (omega arith)
  made_on ys (suc n) i made (suc k) j d h e =
      let is = one i made.1 made.0 made.3 in
      made_on ys n (i + 1) (subst (λ (q : F). IsFromFnResultFrom g q ys (i + 1) n) is.1 made.4) k j d (omega arith) (omega arith)

  -- it holds the value at each place
  pub made_at : (ys : List B) (n k : ℕ) (d : B) → IsFromFnResult g f ys n → k < n → get_or ys k d ≡ value k
  made_at ys n k d made h = made_on ys n 0 made.each k k d h (omega arith)

  -- and is the list of the values
  pub made_same : (ys : List B) (n : ℕ) (d : B) → IsFromFnResult g f ys n → ys ≡ map value (range_with_len 0 n)
  made_same ys n d made = fill_by_all value ys n d made.long (λ k h. made_at ys n k d made h)
