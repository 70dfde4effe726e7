-- The class of a station of a form, told and carried.
use Rattle.std.proofs.Common.{◌≡◌, ℕ, zero, suc, ◌+◌, ◌-◌, ◌<◌, ◌≤◌, Bool, true, false, cond, ◌&&◌, ltb, leb, List, map, length, get_or, Some, None, Ok, Err, Option, Result, ok_or, sym, refl, ap, ◌∙◌, subst, arith, eq-eqb}
use Rattle.std.specs.List.{range_with_len}
use Rattle.std.specs.Result.{result_ok}
use Rattle.std.proofs.lemmas.Bool.{eqb-true, ltb-true}
use Rattle.std.proofs.lemmas.Bool.Decides.{nat_tests}
use Rattle.search.proofs.Masks.{class_bits}
use Rattle.search.proofs.Representatives.{classed_lowest}
use Rattle.search.specs.Answers.{Symmetries}
use Rattle.search.specs.ClassLaws.{BitSet}
use Rattle.search.specs.Classes.{class_of, mask, same_class}
use Rattle.search.specs.Coded.{Coded}
use Rattle.search.specs.Maps.{Map}
use Rattle.search.specs.Searches.{classes}
use Rattle.search.specs.Sequences.{sequence}
use Rattle.survey.specs.declared.refusal.Refusal.{Refusal}
use Rattle.survey.specs.declared.refusal.Refusal.TheVariants.{NoSuchForm, NoSuchStation}
use Rattle.atlas.specs.Blocks.{no_form}
use Rattle.atlas.specs.Classing.{form_numbered, class_in, told_in, class_told, CarriedOnto}

-- the form at a place
pub forms_at : (f : ℕ → Coded) (a k i : ℕ) (d : Coded) → i < k → get_or (map f (range_with_len a k)) i d ≡ f (a + i)
forms_at f a zero i d l = absurd (omega arith)
forms_at f a (suc k) zero d l = ap f (omega arith)
forms_at f a (suc k) (suc i) d l = forms_at f (a + 1) k i d (omega arith) ∙ ap f (omega arith)

-- a number that no form has
pub numbered_none : (forms : List Coded) (f : ℕ) → (0 < f → length forms < f) → form_numbered forms f ≡ None
numbered_none forms f h = go (ltb 0 f && leb f (length forms)) (none h)
  where
    none : (0 < f → length forms < f) → (ltb 0 f && leb f (length forms)) ≡ false
    none h = grind (arith, nat_tests)

    go : (b : Bool) → b ≡ false → ◌≡◌ {A = Option Coded} (cond b (Some (get_or forms (f - 1) no_form)) None) None
    go true e = let z : ◌≡◌ {A = ℕ} 0 1 = cc in absurd (omega arith)
    go false e = refl

-- a number that one has
pub numbered_some : (forms : List Coded) (f : ℕ) → 0 < f → f ≤ length forms → form_numbered forms f ≡ Some (get_or forms (f - 1) no_form)
numbered_some forms f a b = go (ltb 0 f && leb f (length forms)) some
  where
    some : (ltb 0 f && leb f (length forms)) ≡ true
    some = grind (arith, nat_tests)

    go : (b : Bool) → b ≡ true → ◌≡◌ {A = Option Coded} (cond b (Some (get_or forms (f - 1) no_form)) None) (Some (get_or forms (f - 1) no_form))
    go true e = refl
    go false e = let z : ◌≡◌ {A = ℕ} 0 1 = cc in absurd (omega arith)

-- where no form has the number, nothing is told
pub told_none : (forms : List Coded) (f u : ℕ) → form_numbered forms f ≡ None → Err NoSuchForm ≡ class_told forms f u
unfolding class_told
told_none forms f u e = ap (λ (o : Option Coded). told_in o u) (sym e)

-- a refusal carries nothing
pub nothing_carried : (forms : List Coded) (f u : ℕ) (e : Refusal) → CarriedOnto forms f u (Err e)
nothing_carried forms f u e g bits v is r b = let z : ◌≡◌ {A = ℕ} 0 1 = cc in absurd (omega arith)

module _ (forms : List Coded) (f u : ℕ) (g : Coded) (is : form_numbered forms f ≡ Some g) (reps : List ℕ) (same : reps ≡ (classes g).reps) where
  size : length reps ≡ g.count
  size = ap length same ∙ (classed_lowest g (sequence g)).size

  abbrev bits_of : List ℕ → ℕ → Option ℕ
  bits_of rs n = cond (ltb u n) (Some (mask (class_of rs n u))) None

  -- what is answered, by the classes of the form
  answer : bits_of reps (length reps) ≡ bits_of (classes g).reps g.count
  answer = ap (bits_of reps) size ∙ ap (λ (rs : List ℕ). bits_of rs g.count) same

  told : class_told forms f u ≡ class_in g u
  unfolding class_told
  told = ap (λ (o : Option Coded). told_in o u) is

  pub told_class : (o : Option ℕ) (r : Result ℕ Refusal) → o ≡ bits_of reps (length reps) → r ≡ ok_or o NoSuchStation → r ≡ class_told forms f u
  unfolding class_in
  told_class o r e v =
      v ∙ ap (λ (m : Option ℕ). ok_or m NoSuchStation) (e ∙ answer) ∙ go (ltb u g.count) ∙ sym told
    where
      go :
          (b : Bool) →
          ◌≡◌ {A = Result ℕ Refusal} (ok_or (cond b (Some (mask (class_of (classes g).reps g.count u))) None) NoSuchStation) (cond b (Ok (mask (class_of (classes g).reps g.count u))) (Err NoSuchStation))
      go true = refl
      go false = refl

  -- each station of the class is carried onto u
  module _ (joined : Symmetries g reps) (bits : ℕ) (e : Some bits ≡ bits_of reps (length reps)) where
    there : (u < g.count) × (bits ≡ mask (class_of (classes g).reps g.count u))
    there = go (ltb u g.count) refl (e ∙ answer)
      where
        go :
            (b : Bool) → ltb u g.count ≡ b → Some bits ≡ cond b (Some (mask (class_of (classes g).reps g.count u))) None →
            (u < g.count) × (bits ≡ mask (class_of (classes g).reps g.count u))
        go true t e = (ltb-true u g.count t, (cc))
        go false t e = let z : ◌≡◌ {A = ℕ} 0 1 = cc in absurd (omega arith)

    bits_carried : CarriedOnto forms f u (Ok bits)
    bits_carried h ones v at r b =
        let one : g ≡ h = cc in
        let bit : bits ≡ ones = cc in
        subst (λ (k : Coded). (v < k.count) × ((φ : Map k k) × (φ.to v ≡ u))) one (own (subst (λ (k : ℕ). BitSet k v) (sym bit ∙ there.1) b))
      where
        turn : same_class reps u v ≡ true → same_class reps v u ≡ true
        turn t = eq-eqb (get_or reps v 0) (get_or reps u 0) (sym (eqb-true (get_or reps u 0) (get_or reps v 0) t))

        own : BitSet (mask (class_of (classes g).reps g.count u)) v → (v < g.count) × ((φ : Map g g) × (φ.to v ≡ u))
        own b =
            let c = (class_bits g u v).0 b in
            (c.0, joined v u c.0 there.0 (turn (ap (λ (rs : List ℕ). same_class rs u v) same ∙ c.1)))

  pub carries_onto : (joined : Symmetries g reps) (o : Option ℕ) (r : Result ℕ Refusal) → o ≡ bits_of reps (length reps) → o ≡ result_ok r → CarriedOnto forms f u r
  carries_onto joined o r e p h ones v at k b =
      bits_carried joined ones (sym (ap result_ok k) ∙ sym p ∙ e) h ones v at refl b
