-- What a search through the forms of an atlas tells of the networks that they stand for.
use Rattle.std.proofs.Common.{◌≡◌, ℕ, suc, ◌+◌, ◌≤◌, List, [], ◌∷◌, ◌++◌, map, length, get_or, ℤ, Some, None, Option, sym, refl, ap, ◌∙◌, subst, inl, inr, arith}
use Rattle.std.specs.List.{range_with_len}
use Rattle.std.proofs.lemmas.List.FromFn.{get_or-map-range_with_len}
use Rattle.atlas.proofs.Codings.{Codes, codes_grown, plain, to_coded, from_coded}
use Rattle.atlas.proofs.Mapping.{like}
use Rattle.atlas.proofs.Positions.{Placed}
use Rattle.atlas.proofs.Senses.{Grown}
use Rattle.atlas.specs.Calls.{Sought, sought_in}
use Rattle.search.proofs.Matches.{soundness, completeness}
use Rattle.search.specs.Coded.{Coded}
use Rattle.search.specs.Following.{image}
use Rattle.search.specs.Searches.{searched}
use Rattle.survey.specs.Maps.{Map, Mapped}
use Rattle.survey.specs.Networks.{Net}

module _ {L : Type 0} (sense : L → List ℤ) where
  -- ---- the networks of the forms

  -- each form is its network, coded by ls
  abbrev pub Kept : List L → List (Net L) → List Coded → Type 0
  Kept ls [] [] = Unit {0}
  Kept ls [] (g ∷ gs) = ⊥
  Kept ls (n ∷ ns) [] = ⊥
  Kept ls (n ∷ ns) (g ∷ gs) = Codes sense ls n g × Kept ls ns gs

  -- there are as many networks as forms
  pub kept_length : (ls : List L) (ns : List (Net L)) (gs : List Coded) → Kept ls ns gs → length ns ≡ length gs
  kept_length ls [] [] k = refl
  kept_length ls [] (g ∷ gs) k = absurd k
  kept_length ls (n ∷ ns) [] k = absurd k
  kept_length ls (n ∷ ns) (g ∷ gs) k = ap suc (kept_length ls ns gs k.1)

  -- a legend that grows leaves the forms right
  pub kept_grown :
      (ls ms : List L) (ns : List (Net L)) (gs : List Coded) → Grown sense ls ms → Kept ls ns gs → Kept ms ns gs
  kept_grown ls ms [] [] w k = tt
  kept_grown ls ms [] (g ∷ gs) w k = k
  kept_grown ls ms (n ∷ ns) [] w k = k
  kept_grown ls ms (n ∷ ns) (g ∷ gs) w k = (codes_grown sense ls ms n g w k.0, kept_grown ls ms ns gs w k.1)

  -- one form more
  pub kept_push :
      (ls : List L) (ns : List (Net L)) (gs : List Coded) (n : Net L) (g : Coded) →
      Kept ls ns gs → Codes sense ls n g → Kept ls (ns ++ n ∷ []) (gs ++ g ∷ [])
  kept_push ls [] [] n g k c = (c, tt)
  kept_push ls [] (h ∷ hs) n g k c = absurd k
  kept_push ls (m ∷ ms) [] n g k c = absurd k
  kept_push ls (m ∷ ms) (h ∷ hs) n g k c = (k.0, kept_push ls ms hs n g k.1 c)

  -- a numbered network has a form
  pub kept_placed :
      (ls : List L) (b : ℕ) (ns : List (Net L)) (gs : List Coded) (f : ℕ) (n : Net L) →
      Kept ls ns gs → Placed b ns f n → (g : Coded) × Codes sense ls n g
  kept_placed ls b [] gs f n k p = absurd p
  kept_placed ls b (m ∷ ms) [] f n k p = absurd k
  kept_placed ls b (m ∷ ms) (g ∷ gs) f n k (inl e) = (g, subst (λ (x : Net L). Codes sense ls x g) e.1 k.0)
  kept_placed ls b (m ∷ ms) (g ∷ gs) f n k (inr p) = kept_placed ls (suc b) ms gs f n k.1 p

  -- ---- what a search finds

  -- the images give a map to n from the network numbered f
  abbrev pub Shown : ℕ → List (Net L) → Net L → ℕ → List ℕ → Type 0
  Shown b ns n f images = (m : Net L) × Placed b ns f m × Map sense m n (λ u. get_or images u 0)

  -- no numbered network has a map to n
  abbrev pub Missed : ℕ → List (Net L) → Net L → Type 0
  Missed b ns n = (f : ℕ) (m : Net L) → Placed b ns f m → Mapped sense m n → ⊥

  -- what is found tells which of the two
  abbrev pub Tells : ℕ → List (Net L) → Net L → Option (ℕ × List ℕ) → Type 0
  Tells b ns n None = Missed b ns n
  Tells b ns n (Some r) = Shown b ns n r.0 r.1

  module _
      (ls : List L) (short : length ls ≤ 250)
      (n : Net L) (h : Coded) (cn : Codes sense ls n h) where
    -- the images that a form's search finds are a map from its network
    found_here :
        (m : Net L) (g : Coded) → Codes sense ls m g → (ps : List (ℕ × ℕ)) → (searched g h).map ≡ Some ps →
        Map sense m n (λ u. get_or (map (image ps) (range_with_len 0 g.count)) u 0)
    found_here m g cm ps e =
        let r = soundness g h (plain sense ls m g short cm) (plain sense ls n h short cn) ps e in
        like sense m n r.0.to (λ u. get_or (map (image ps) (range_with_len 0 g.count)) u 0)
        (λ u l.
        get_or-map-range_with_len (image ps) 0 g.count u u 0 (omega (arith, cm.counts)) (omega arith)
        ∙ sym (r.1 u))
        (from_coded sense ls m n g h cm cn r.0)

    -- where it finds none, its network has no map
    none_here : (m : Net L) (g : Coded) → Codes sense ls m g → (searched g h).map ≡ None → Mapped sense m n → ⊥
    none_here m g cm e r = clash (searched g h).map c.0 e c.1
      where
        c : (ps : List (ℕ × ℕ)) × ((searched g h).map ≡ Some ps)
        c =
            completeness g h (plain sense ls m g short cm) (plain sense ls n h short cn)
            (to_coded sense ls m n g h cm cn r)

        clash : (o : Option (List (ℕ × ℕ))) (ps : List (ℕ × ℕ)) → o ≡ None → o ≡ Some ps → ⊥
        clash o ps p q = let z : ◌≡◌ {A = ℕ} 0 1 = cc in omega arith

    -- a search through the forms tells of all their networks
    pub sought_tells :
        (b : ℕ) (ns : List (Net L)) (gs : List Coded) → Kept ls ns gs → Tells b ns n (sought_in h b gs).found
    sought_tells b [] [] k = λ f m p r. p
    sought_tells b [] (g ∷ gs) k = absurd k
    sought_tells b (m ∷ ms) [] k = absurd k
    sought_tells b (m ∷ ms) (g ∷ gs) k =
        go (searched g h).map refl (sought_in h (suc b) gs).found (sought_tells (suc b) ms gs k.1)
      where
        missed : (searched g h).map ≡ None → Missed (suc b) ms n → Missed b (m ∷ ms) n
        missed e t f x (inl p) r = none_here m g k.0 e (subst (λ (y : Net L). Mapped sense y n) (sym p.1) r)
        missed e t f x (inr p) r = t f x p r

        later :
            (o : Option (ℕ × List ℕ)) → (searched g h).map ≡ None → Tells (suc b) ms n o → Tells b (m ∷ ms) n o
        later None e t = λ f x p r. missed e t f x p r
        later (Some s) e t = (t.0, inr t.1, t.2)

        first : Option (List (ℕ × ℕ)) → Option (ℕ × List ℕ) → Sought
        first o s =
            elim o [
              | Some ps ↦ record {
                found = Some (b, map (image ps) (range_with_len 0 g.count));
                trials = (searched g h).trials;
              }
              | None ↦ record { found = s; trials = (searched g h).trials + (sought_in h (suc b) gs).trials }
            ]

        go :
            (o : Option (List (ℕ × ℕ))) → (searched g h).map ≡ o →
            (s : Option (ℕ × List ℕ)) → Tells (suc b) ms n s →
            Tells b (m ∷ ms) n (first o s).found
        go (Some ps) e s t = (m, inl (refl, refl), found_here m g k.0 ps e)
        go None e s t = later s e t
