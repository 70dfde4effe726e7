-- Calls put one after another: what some and then others leave, their histories, and each call answered as defined.
use Rattle.std.proofs.Common.{◌≡◌, ℕ, List, [], ◌∷◌, ◌++◌, map, ℤ, refl, ap, subst, arith}
use Rattle.atlas.specs.Calls.{Call, Held, Past, answered, left_by, history}

pub head_same : {A : Type 0} (x y : A) (xs ys : List A) → x ∷ xs ≡ y ∷ ys → x ≡ y
head_same x y xs ys e = cc

pub tail_same : {A : Type 0} (x y : A) (xs ys : List A) → x ∷ xs ≡ y ∷ ys → xs ≡ ys
tail_same x y xs ys e = cc

module _ {L : Type 0} (sense : L → List ℤ) where
  -- what some calls and then others leave is what the others leave of what the some left
  pub left_by_append :
      (s : Held L) (cs ds : List (Call L)) → left_by sense s (cs ++ ds) ≡ left_by sense (left_by sense s cs) ds
  left_by_append s [] ds = refl
  left_by_append s (c ∷ cs) ds = left_by_append (answered sense s c).held cs ds

  -- the history of some calls and then others
  pub history_append :
      (s : Held L) (cs ds : List (Call L)) →
      history sense s (cs ++ ds) ≡ history sense s cs ++ history sense (left_by sense s cs) ds
  history_append s [] ds = refl
  history_append s (c ∷ cs) ds =
      ap (λ (h : List (Past sense)). record { before = s; call = c; reply = (answered sense s c).reply } ∷ h)
      (history_append (answered sense s c).held cs ds)

  -- the calls of a history are those that were put
  pub history_calls : (s : Held L) (cs : List (Call L)) → map (λ p. p.call) (history sense s cs) ≡ cs
  history_calls s [] = refl
  history_calls s (c ∷ cs) = ap (λ (l : List (Call L)). c ∷ l) (history_calls (answered sense s c).held cs)

  -- q is answered as defined, from what the calls of xs left of s
  abbrev Defined : Held L → List (Past sense) → Past sense → Type 0
  Defined s xs q =
      (q.before ≡ left_by sense s (map (λ p. p.call) xs)) × (q.reply ≡ (answered sense q.before q.call).reply)

  -- so is each call of a history
  pub history_defined :
      (s : Held L) (cs : List (Call L)) (xs zs : List (Past sense)) (q : Past sense) →
      history sense s cs ≡ xs ++ q ∷ zs → Defined s xs q
  history_defined s [] [] zs q e = let z : ◌≡◌ {A = ℕ} 0 1 = cc in absurd (omega arith)
  history_defined s [] (x ∷ xs) zs q e = let z : ◌≡◌ {A = ℕ} 0 1 = cc in absurd (omega arith)
  history_defined s (c ∷ cs) [] zs q e =
      let p : Past sense = record { before = s; call = c; reply = (answered sense s c).reply } in
      let same : p ≡ q = head_same p q (history sense (answered sense s c).held cs) zs e in
      subst (λ (y : Past sense). Defined s [] y) same (refl, refl)
  history_defined s (c ∷ cs) (x ∷ xs) zs q e =
      let t = (answered sense s c).held in
      let p : Past sense = record { before = s; call = c; reply = (answered sense s c).reply } in
      let same : p ≡ x = head_same p x (history sense t cs) (xs ++ q ∷ zs) e in
      let rest = tail_same p x (history sense t cs) (xs ++ q ∷ zs) e in
      subst (λ (y : Past sense). Defined s (y ∷ xs) q) same (history_defined t cs xs zs q rest)
