-- The search through the forms of an atlas, form by form.
use Rattle.std.proofs.Common.{◌≡◌, ℕ, suc, ◌+◌, ◌-◌, ◌<◌, ◌≤◌, Bool, true, false, cond, leb, List, [], ◌∷◌, map, Some, None, Option, sym, refl, ap, ◌∙◌, arith, le-leb}
use borrow.Author.Tests.{lt-leb}
use Rattle.std.specs.List.{range_with_len}
use Rattle.std.proofs.lemmas.Bool.{leb-true, leb-false}
use Rattle.search.specs.Coded.{Coded}
use Rattle.search.specs.Following.{Outcome, image}
use Rattle.search.specs.Searches.{searched}
use Rattle.search.specs.Allowance.{pairs_in}
use Rattle.search.specs.Answers.{answered, told}
use Rattle.search.specs.declared.answer.Answer.TheVariants.{Map, NoMap, Spent as Overspent}
use Rattle.atlas.specs.Calls.{Sought, sought_in}
use Rattle.atlas.specs.Seeking.{found_in, told_sought, images_in}
use Rattle.atlas.specs.declared.seeking.Sought.{Sought as CodeSought}
use Rattle.atlas.specs.declared.seeking.Sought.TheVariants.{Found, Nowhere, Spent}
use Rattle.atlas.proofs.Loops.{counting_on}

-- a search after so many trials
abbrev pub tried : ℕ → Sought → Sought
tried t o = record { found = o.found; trials = t + o.trials }

-- of the forms from k on, the first
pub forms_on :
    (h : Coded) (f : ℕ → Coded) (k m : ℕ) → 0 < m → sought_in h (k + 1) (map f (range_with_len k m)) ≡ sought_in h (k + 1) (f k ∷ map f (range_with_len (k + 1) (m - 1)))
forms_on h f k m l = ap (λ (ks : List ℕ). sought_in h (k + 1) (map f ks)) (counting_on k m l)

-- what the search of one form and then of others comes to
abbrev pub put : ℕ → Coded → Outcome → Sought → Option (List (ℕ × ℕ)) → Sought
put f g o r m =
    elim m as (λ _. Sought) [
      | Some ps ↦ record { found = Some (f, map (image ps) (range_with_len 0 g.count)); trials = o.trials }
      | None ↦ record { found = r.found; trials = o.trials + r.trials }
    ]

-- before the first trial, all forms are left
pub begun : (h : Coded) (f : ℕ → Coded) (n : ℕ) → tried 0 (sought_in h 1 (map f (range_with_len 0 (n - 0)))) ≡ sought_in h 1 (map f (range_with_len 0 n))
begun h f n =
    ap (λ (k : ℕ). tried 0 (sought_in h 1 (map f (range_with_len 0 k)))) {x = n - 0} {y = n} (omega arith)
    ∙ (let o = sought_in h 1 (map f (range_with_len 0 n)) in ap {B = Sought} (λ (k : ℕ). record { found = o.found; trials = k }) {x = 0 + o.trials} {y = o.trials} (omega arith))

-- a search through form g, numbered f, and then others, after t of n trials, is the whole
pub record Turn (f : ℕ) (g : Coded) (o : Outcome) (r : Sought) (n t : ℕ) (whole : Sought) : Type 0 where
  pub within : t ≤ n
  pub is : tried t (put f g o r o.map) ≡ whole

-- the search of form k of m, and of the forms behind it, is that of the forms from k on
pub from_form :
    (h : Coded) (f : ℕ → Coded) (k m n t : ℕ) (g : Coded) (whole : Sought) → k < m → g ≡ f k → t ≤ n →
    tried t (sought_in h (k + 1) (map f (range_with_len k (m - k)))) ≡ whole →
    Turn (k + 1) g (searched g h) (sought_in h (k + 1 + 1) (map f (range_with_len (k + 1) (m - (k + 1))))) n t whole
from_form h f k m n t g whole l same le e = record {
  within = le;
  is =
      ap (λ (x : Coded). tried t (put (k + 1) x (searched x h) (sought_in h (k + 1 + 1) (map f (range_with_len (k + 1) (m - (k + 1))))) (searched x h).map)) same
      ∙ ap (λ (j : ℕ). tried t (put (k + 1) (f k) (searched (f k) h) (sought_in h j (map f (range_with_len (k + 1) (m - (k + 1))))) (searched (f k) h).map)) {x = k + 1 + 1} {y = suc (k + 1)} (omega arith)
      ∙ ap (λ (j : ℕ). tried t (sought_in h (k + 1) (f k ∷ map f (range_with_len (k + 1) j)))) {x = m - (k + 1)} {y = m - k - 1} (omega arith)
      ∙ ap (tried t) (sym (forms_on h f k (m - k) (omega arith)))
      ∙ e;
}

-- what an answer with a map says of the outcome
with_map :
    (b : Bool) (m : Option (List (ℕ × ℕ))) (tr more : ℕ) → Map more ≡ cond b (told m tr) Overspent → (b ≡ true) × (tr ≡ more) × ((ps : List (ℕ × ℕ)) × (m ≡ Some ps))
with_map true (Some ps) tr more e = (refl, (cc), (ps, refl))
with_map true None tr more e = let z : ◌≡◌ {A = ℕ} 0 1 = cc in absurd (omega arith)
with_map false m tr more e = let z : ◌≡◌ {A = ℕ} 0 1 = cc in absurd (omega arith)

-- what an answer with none says
without_map :
    (b : Bool) (m : Option (List (ℕ × ℕ))) (tr more : ℕ) → NoMap more ≡ cond b (told m tr) Overspent → (b ≡ true) × (tr ≡ more) × (m ≡ None)
without_map true (Some ps) tr more e = let z : ◌≡◌ {A = ℕ} 0 1 = cc in absurd (omega arith)
without_map true None tr more e = (refl, (cc), refl)
without_map false m tr more e = let z : ◌≡◌ {A = ℕ} 0 1 = cc in absurd (omega arith)

-- what a spent answer says
overspent : (b : Bool) (m : Option (List (ℕ × ℕ))) (tr : ℕ) → Overspent ≡ cond b (told m tr) Overspent → b ≡ false
overspent true (Some ps) tr e = let z : ◌≡◌ {A = ℕ} 0 1 = cc in absurd (omega arith)
overspent true None tr e = let z : ◌≡◌ {A = ℕ} 0 1 = cc in absurd (omega arith)
overspent false m tr e = refl

-- what such a turn tells
module _ {f : ℕ} {g : Coded} {o : Outcome} {r : Sought} {n t : ℕ} {whole : Sought} (turn : Turn f g o r n t whole) where
  -- the form has a map
  module _ (more : ℕ) (a : Map more ≡ answered (n - t) o) where
    facts : (leb o.trials (n - t) ≡ true) × (o.trials ≡ more) × ((ps : List (ℕ × ℕ)) × (o.map ≡ Some ps))
    unfolding answered
    facts = with_map (leb o.trials (n - t)) o.map o.trials more a

    is_whole : tried t (put f g o r (Some facts.2.0)) ≡ whole
    is_whole = ap (λ (m : Option (List (ℕ × ℕ))). tried t (put f g o r m)) (sym facts.2.1) ∙ turn.is

    pub here_within : t + more ≤ n
    here_within = omega (arith, facts.1, turn.within, leb-true o.trials (n - t) facts.0)

    pub here_told : Found f (t + more) ≡ told_sought n whole
    unfolding told_sought
    here_told =
        ap {B = CodeSought} (λ (k : ℕ). Found f (t + k)) (sym facts.1)
        ∙ ap {B = CodeSought} (λ (b : Bool). cond b (Found f (t + o.trials)) Spent) (sym (le-leb (t + o.trials) n (omega (arith, facts.1, here_within))))
        ∙ ap (told_sought n) is_whole

    pub here_images : map (image (pairs_in o.map)) (range_with_len 0 g.count) ≡ images_in whole.found
    here_images =
        ap (λ (m : Option (List (ℕ × ℕ))). map (image (pairs_in m)) (range_with_len 0 g.count)) facts.2.1
        ∙ ap (λ (w : Sought). images_in w.found) is_whole

  -- it has none
  module _ (more : ℕ) (a : NoMap more ≡ answered (n - t) o) where
    no_facts : (leb o.trials (n - t) ≡ true) × (o.trials ≡ more) × (o.map ≡ None)
    unfolding answered
    no_facts = without_map (leb o.trials (n - t)) o.map o.trials more a

    pub later_within : t + more ≤ n
    later_within = omega (arith, no_facts.1, turn.within, leb-true o.trials (n - t) no_facts.0)

    pub later : tried (t + more) r ≡ whole
    later =
        ap {B = Sought} (λ (k : ℕ). record { found = r.found; trials = k }) {x = t + more + r.trials} {y = t + (o.trials + r.trials)} (omega (arith, no_facts.1))
        ∙ ap (λ (m : Option (List (ℕ × ℕ))). tried t (put f g o r m)) (sym no_facts.2)
        ∙ turn.is

  -- the trials are spent
  module _ (a : Overspent ≡ answered (n - t) o) where
    many : n - t < o.trials
    unfolding answered
    many = leb-false o.trials (n - t) (overspent (leb o.trials (n - t)) o.map o.trials a)

    at_least : (m : Option (List (ℕ × ℕ))) → o.trials ≤ (put f g o r m).trials
    at_least (Some ps) = omega arith
    at_least None = omega arith

    pub spent_told : Spent ≡ told_sought n whole
    unfolding told_sought
    spent_told =
        ap {B = CodeSought} (λ (b : Bool). cond b (found_in whole.found whole.trials) Spent) (sym (lt-leb whole.trials n (omega (arith, many, at_least o.map, ap (λ (w : Sought). w.trials) turn.is))))

-- no form is left
pub none_left : (h : Coded) (f t n : ℕ) (whole : Sought) → t ≤ n → tried t (sought_in h f []) ≡ whole → Nowhere t ≡ told_sought n whole
unfolding told_sought
none_left h f t n whole le e =
    ap {B = CodeSought} (λ (b : Bool). cond b (Nowhere t) Spent) (sym (le-leb t n le))
    ∙ ap {B = CodeSought} (λ (k : ℕ). cond (leb k n) (Nowhere k) Spent) {x = t} {y = t + 0} (omega arith)
    ∙ ap (told_sought n) e
