-- The labels of noted legs join a legend one by one.
use Rattle.std.proofs.Common.{◌≡◌, ℕ, ◌+◌, ◌-◌, ◌<◌, ◌≤◌, Bool, true, ltb, List, ◌∷◌, ◌++◌, length, get_or, drop, Some, None, Option, sym, ap, ◌∙◌, arith, length-append, lt-ltb}
use Rattle.std.proofs.lemmas.List.{at_drop_more, drop-drop}
use Rattle.atlas.specs.FirstLegs.{labels_on, Behind}

-- what lies behind one more place
pub behind_more : {A : Type 0} (n m : ℕ) (before after : List A) → n ≤ m → Behind n before after → Behind m before after
behind_more {A} n m before after h b = (b.0, back after ∙ ap (drop (m - n)) b.1 ∙ sym (back before))
  where
    back : (xs : List A) → drop m xs ≡ drop (m - n) (drop n xs)
    back xs = ap (λ (k : ℕ). drop k xs) {x = m} {y = n + (m - n)} (omega arith) ∙ sym (drop-drop (m - n) n xs)

-- the labels of the legs from i on, where the leg at i is there
pub left_some :
    {L : Type 0} (leg : ℕ → ℕ → Option L) (ps : List (ℕ × ℕ)) (i : ℕ) (p : ℕ × ℕ) (x : L) → i < length ps → p ≡ get_or ps i p → leg p.0 p.1 ≡ Some x → labels_on leg (drop i ps) ≡ x ∷ labels_on leg (drop (i + 1) ps)
left_some {L} leg ps i p x low at e =
    at_drop_more (labels_on leg) ps i p low
    ∙ ap (λ (q : ℕ × ℕ). labels_on leg (q ∷ drop (i + 1) ps)) (sym at)
    ∙ ap (λ (o : Option L). elim o as (λ _. List L) [ None ↦ labels_on leg (drop (i + 1) ps) | Some y ↦ y ∷ labels_on leg (drop (i + 1) ps) ]) e

-- a label finds a place, where there is one for all
pub placed : {L : Type 0} (ls rest all : List L) (x : L) (room : ℕ) (r : Bool) → ls ++ x ∷ rest ≡ all → length all ≤ room → r ≡ ltb (length ls) room → r ≡ true
placed ls rest all x room r whole fits place =
    place ∙ lt-ltb (length ls) room (omega (arith, ap length whole, length-append ls (x ∷ rest)))
