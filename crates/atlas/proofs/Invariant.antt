-- What holds of an atlas after any calls, and what the law says of the call that comes next.
use Rattle.std.proofs.Common.{◌≡◌, ℕ, suc, ◌+◌, ◌≤◌, List, [], ◌∷◌, ◌++◌, length, get_or, ℤ, Some, None, Option, refl, arith}
use Rattle.atlas.proofs.Membership.{In}
use Rattle.atlas.proofs.Positions.{Placed}
use Rattle.atlas.proofs.Searching.{Kept}
use Rattle.atlas.specs.Calls.{Call, Held, Reply, Past, After, opened}
use Rattle.atlas.specs.Calls.Reply.{new, known, unknown, spent, no_stations, too_many, leg_to_itself, legend_full, atlas_full}
use Rattle.atlas.specs.Law.{number, SaysNew, Settled, newly, news}
use Rattle.survey.specs.Maps.{Map, Mapped}
use Rattle.survey.specs.Networks.{Net}

-- nothing and something differ
pub none_some : {A : Type 0} (a : A) (o : Option A) → o ≡ None → o ≡ Some a → ⊥
none_some a o p q = let z : ◌≡◌ {A = ℕ} 0 1 = cc in omega arith

-- an answer without a number is not new
pub unnumbered_old : (r : Reply) → number r ≡ None → newly r ≡ 0
unnumbered_old (new f t) e = absurd (none_some f (Some f) e refl)
unnumbered_old (known f t m) e = refl
unnumbered_old (unknown t) e = refl
unnumbered_old (spent t) e = refl
unnumbered_old no_stations e = refl
unnumbered_old too_many e = refl
unnumbered_old (leg_to_itself u) e = refl
unnumbered_old legend_full e = refl
unnumbered_old atlas_full e = refl

module _ {L : Type 0} (sense : L → List ℤ) where
  -- one call more, counted where it is new
  pub news_push : (ps : List (Past sense)) (q : Past sense) → news sense (ps ++ q ∷ []) ≡ news sense ps + newly q.reply
  news_push [] q = omega arith
  news_push (p ∷ ps) q = omega (arith, news_push ps q)

  -- n has a map from the network numbered f
  abbrev pub Numbered : List (Net L) → ℕ → Net L → Type 0
  Numbered nets f n = (m : Net L) × Placed 1 nets f m × Mapped sense m n

  -- a past call of ps was answered new f for n
  abbrev pub WasNew : List (Past sense) → ℕ → Net L → Type 0
  WasNew ps f n = (p : Past sense) × (t : ℕ) × In p ps × (p.reply ≡ new f t) × (p.call.net ≡ n)

  -- after the calls of ps the atlas holds s, and nets are the networks that were new, in the order of their numbers:
  -- the legend has room, each form is its network coded, no two networks are joined by a map, each numbered network has
  -- a map from the one of its number, and each was new in a call
  pub record Holds (s : Held L) (ps : List (Past sense)) (nets : List (Net L)) : Type 0 where
    pub few : s.places ≤ 250
    pub fits : length s.legend ≤ s.places
    pub kept : Kept sense s.legend nets s.forms
    pub apart : (f k : ℕ) (m n : Net L) → Placed 1 nets f m → Placed 1 nets k n → Mapped sense m n → f ≡ k
    pub numbered : (p : Past sense) (f : ℕ) → In p ps → number p.reply ≡ Some f → Numbered nets f p.call.net
    pub made : (f : ℕ) (n : Net L) → Placed 1 nets f n → WasNew ps f n
    pub counted : news sense ps ≡ length nets

  -- so it is with an atlas just opened
  pub opened_holds : (blocks places : ℕ) → places ≤ 250 → Holds (opened blocks places) [] []
  opened_holds blocks places l = record {
    few = l;
    fits = omega arith;
    kept = tt;
    apart = λ f k m n p. absurd p;
    numbered = λ p f i. absurd i;
    made = λ f n p. absurd p;
    counted = refl;
  }

  -- no network numbered in ps has a map to n
  abbrev pub NewTo : List (Past sense) → Net L → Type 0
  NewTo ps n =
      (p : Past sense) (f : ℕ) → In p ps → number p.reply ≡ Some f → Mapped sense p.call.net n → ⊥

  -- what the law says of q, which came after ps
  pub record LawfulNext (ps : List (Past sense)) (q : Past sense) : Type 0 where
    pub one_number :
        (p : Past sense) (f k : ℕ) → In p ps → number p.reply ≡ Some f → number q.reply ≡ Some k →
        (f ≡ k → Mapped sense p.call.net q.call.net) × (Mapped sense p.call.net q.call.net → f ≡ k)
    pub says_new : Settled q.reply → SaysNew q.reply → NewTo ps q.call.net
    pub new_said : Settled q.reply → NewTo ps q.call.net → SaysNew q.reply
    pub rooted :
        (f t : ℕ) (m : List ℕ) → q.reply ≡ known f t m →
        (p : Past sense) × (v : ℕ) × In p ps × (p.reply ≡ new f v)
        × Map sense p.call.net q.call.net (λ u. get_or m u 0)
    pub in_order : (f t : ℕ) → q.reply ≡ new f t → f ≡ suc (news sense ps)

  -- the networks after one more call, answered by a, and what the law says of it
  abbrev pub Next : Held L → Call L → List (Past sense) → After sense → Type 0
  Next s c ps a =
      let q : Past sense = record { before = s; call = c; reply = a.reply } in
      (nets : List (Net L)) × Holds a.held (ps ++ q ∷ []) nets × LawfulNext ps q
