-- The law: any list of calls, put to a newly opened atlas, has a lawful history.
use Rattle.std.proofs.Common.{◌≡◌, ℕ, ◌≤◌, List, [], ◌∷◌, ◌++◌, ℤ, sym, subst, arith}
use Rattle.std.proofs.lemmas.List.{append-nil, append_assoc}
use Rattle.atlas.proofs.AfterCalls.{head_same, tail_same, history_defined}
use Rattle.atlas.proofs.Allowances.{answered_more}
use Rattle.atlas.proofs.Invariant.{Holds, opened_holds, LawfulNext}
use Rattle.atlas.proofs.Membership.{In, in_middle, in_split}
use Rattle.atlas.proofs.NextCall.{next}
use Rattle.atlas.specs.Calls.{Call, Held, Past, answered, history, opened}
use Rattle.atlas.specs.Law.{Settled, allowing, SeasonLaw}
use Rattle.survey.specs.Networks.{Net}

module _ {L : Type 0} (sense : L → List ℤ) where
  -- q is lawful after ps, and a larger allowance would have changed nothing
  record Stands (ps : List (Past sense)) (q : Past sense) : Type 0 where
    lawful : LawfulNext sense ps q
    larger :
        (more : ℕ) → Settled q.reply → q.call.allowance ≤ more →
        answered sense q.before (allowing sense q more) ≡ answered sense q.before q.call

  -- so does each call of a history, after those before it
  stands :
      (cs : List (Call L)) (s : Held L) (ps : List (Past sense)) (nets : List (Net L)) →
      Holds sense s ps nets → (xs zs : List (Past sense)) (q : Past sense) →
      history sense s cs ≡ xs ++ q ∷ zs → Stands (ps ++ xs) q
  stands [] s ps nets w [] zs q e = let z : ◌≡◌ {A = ℕ} 0 1 = cc in absurd (omega arith)
  stands [] s ps nets w (x ∷ xs) zs q e = let z : ◌≡◌ {A = ℕ} 0 1 = cc in absurd (omega arith)
  stands (c ∷ cs) s ps nets w [] zs q e =
      let p : Past sense = record { before = s; call = c; reply = (answered sense s c).reply } in
      let same : p ≡ q = head_same p q (history sense (answered sense s c).held cs) zs e in
      let here : Stands ps p = record {
        lawful = (next sense s c ps nets w).2;
        larger = λ more h l. answered_more sense s c more l h;
      } in
      subst (λ (l : List (Past sense)). Stands l q) (sym (append-nil ps))
      (subst (λ (y : Past sense). Stands ps y) same here)
  stands (c ∷ cs) s ps nets w (x ∷ xs) zs q e =
      let t = (answered sense s c).held in
      let p : Past sense = record { before = s; call = c; reply = (answered sense s c).reply } in
      let r = next sense s c ps nets w in
      let same : p ≡ x = head_same p x (history sense t cs) (xs ++ q ∷ zs) e in
      let rest = tail_same p x (history sense t cs) (xs ++ q ∷ zs) e in
      subst (λ (l : List (Past sense)). Stands l q) (append_assoc ps (x ∷ []) xs)
      (subst (λ (y : Past sense). Stands (ps ++ y ∷ [] ++ xs) q) same
      (stands cs t (ps ++ p ∷ []) r.0 r.1 xs zs q rest))

-- for every kind of label
pub season_law : {L : Type 0} (sense : L → List ℤ) → SeasonLaw sense
season_law {L} sense blocks places calls small = record {
  as_defined = λ xs zs q e. history_defined sense (opened blocks places) calls xs zs q e;
  one_number =
      λ xs ys zs p q f k e a b.
      (each (xs ++ p ∷ ys) zs q e).lawful.one_number p f k (in_middle p xs ys) a b;
  new_to_all =
      λ xs zs q e h. (
        λ y ws bs p f i a r. (each xs zs q e).lawful.says_new h y p f (before xs ws bs p i) a r,
        λ y.
            (each xs zs q e).lawful.new_said h
            (λ p f i a r. let k = in_split p xs i in y k.0 k.1 p f k.2 a r),
      );
  known_rooted =
      λ xs zs q f t m e k.
      let r = (each xs zs q e).lawful.rooted f t m k in
      let i = in_split r.0 xs r.2 in
      (i.0, i.1, r.0, r.1, i.2, r.3, r.4);
  in_order = λ xs zs q f t e k. (each xs zs q e).lawful.in_order f t k;
  larger = λ xs zs q more e h l. (each xs zs q e).larger more h l;
}
  where
    each :
        (xs zs : List (Past sense)) (q : Past sense) → history sense (opened blocks places) calls ≡ xs ++ q ∷ zs →
        Stands sense xs q
    each = stands sense calls (opened blocks places) [] [] (opened_holds sense blocks places small)

    before :
        (xs ws bs : List (Past sense)) (p : Past sense) → xs ≡ ws ++ p ∷ bs → In p xs
    before xs ws bs p i = subst (λ (l : List (Past sense)). In p l) (sym i) (in_middle p ws bs)
