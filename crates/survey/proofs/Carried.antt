-- Pairings that carry one network onto another: how a loop decides it, and that maps go back and compose.
use Rattle.std.proofs.Common.{◌≡◌, ℕ, ◌+◌, ◌<◌, ◌≤◌, true, false, ◌⊎◌, List, length, get_or, ℤ, Decides, sym, refl, ap, ◌∙◌, ap₂, subst, inl, inr, arith, below_more}
use Rattle.std.specs.Option.{option_map}
use Rattle.std.proofs.lemmas.Bool.{cases_lt}
use Rattle.survey.specs.Carrying.{Carries, GoesBack, MapsBack, MapsCompose}
use Rattle.survey.specs.Maps.{Map}
use Rattle.survey.specs.Networks.{Net}
use Rattle.survey.specs.Pairings.{size_of, image_of, images_of}
use Rattle.survey.specs.declared.pairing.Pairing.{Pairing}
use Rattle.survey.proofs.Paired.{images_length, images_at, image_below, pairing_stands}

-- a loop over the images of a pairing, which are read in place
module _ (p : Pairing) {xs : List ℕ} (listed : xs ≡ images_of p) where
  -- they are as many as the stations
  listed_size : length xs ≡ size_of p
  listed_size = ap length listed ∙ images_length p

  -- the image of a station stands at its place
  listed_image : (k : ℕ) → k < length xs → get_or xs k 0 ≡ image_of p k
  listed_image k h = ap (λ (l : List ℕ). get_or l k 0) listed ∙ images_at p k (omega (arith, listed_size))

  -- whether Q holds of every station and its image
  module _ (Q : ℕ → ℕ → Type 0) {k : ℕ} where
    -- one station for which it fails decides that it does not
    pub one_fails : k < length xs → (Q k (get_or xs k 0) → ⊥) → Decides false ((u : ℕ) → u < size_of p → Q u (image_of p u))
    one_fails h fails = (
      (λ e. let z : ◌≡◌ {A = ℕ} 0 1 = cc in absurd (omega arith)),
      (λ all. absurd (fails (subst (Q k) (sym (listed_image k h)) (all k (omega (arith, listed_size)))))),
    )

    -- one station more for which it holds
    pub one_holds :
        k < length xs → ((u : ℕ) → u < k → Q u (image_of p u)) → Q k (get_or xs k 0) → (u : ℕ) → u < k + 1 → Q u (image_of p u)
    one_holds h before here = below_more (λ u. Q u (image_of p u)) k before (subst (Q k) (listed_image k h) here)

    -- up to the end it holds of all
    pub all_hold : length xs ≤ k → ((u : ℕ) → u < k → Q u (image_of p u)) → Decides true ((u : ℕ) → u < size_of p → Q u (image_of p u))
    all_hold h before = ((λ e u l. before u (omega (arith, listed_size))), (λ _. refl))

module _ {L : Type 0} (sense : L → List ℤ) where
  -- a pairing of the stations that keeps kinds and legs is a map
  pub carries_by :
      (p : Pairing) (g h : Net L) → size_of p ≡ g.count → size_of p ≡ h.count
      → ((u : ℕ) → u < size_of p → h.kind (image_of p u) ≡ g.kind u)
      → ((u : ℕ) → u < size_of p → (v : ℕ) → v < size_of p → option_map sense (h.leg (image_of p u) (image_of p v)) ≡ option_map sense (g.leg u v))
      → Carries sense p g h
  carries_by p g h a b kinds legs = (
    a,
    record {
      same_count = sym a ∙ b;
      within = λ u l. let k = image_below p u (omega arith) in omega arith;
      one_to_one = λ u v l m e. (pairing_stands p).one_to_one u v (omega (arith, images_length p)) (omega (arith, images_length p)) (images_at p u (omega arith) ∙ e ∙ sym (images_at p v (omega arith)));
      onto = λ w l. let o = (pairing_stands p).onto w (omega (arith, images_length p)) in let k : o.0 < size_of p = omega (arith, images_length p, o.1) in (o.0, omega arith, sym (images_at p o.0 k) ∙ o.2);
      kinds = λ u l. kinds u (omega arith);
      legs = λ u v l m. legs u (omega arith) v (omega arith);
    },
  )

  -- the station that a map brings to w, or 0 where there is none
  abbrev origin : (g h : Net L) (to : ℕ → ℕ) → Map sense g h to → ℕ → ℕ
  origin g h to m w = elim (cases_lt w h.count) [ inl l ↦ (m.onto w l).0 | inr l ↦ 0 ]

  origin_of :
      (g h : Net L) (to : ℕ → ℕ) (m : Map sense g h to) (w : ℕ) → w < h.count → (origin g h to m w < g.count) × (to (origin g h to m w) ≡ w)
  origin_of g h to m w l = go (cases_lt w h.count)
    where
      go :
          (c : (w < h.count) ⊎ (h.count ≤ w)) → ((elim c as (λ _. ℕ) [ inl l ↦ (m.onto w l).0 | inr l ↦ 0 ]) < g.count) × (to (elim c as (λ _. ℕ) [ inl l ↦ (m.onto w l).0 | inr l ↦ 0 ]) ≡ w)
      go (inl k) = ((m.onto w k).1, (m.onto w k).2)
      go (inr k) = absurd (omega arith)

  -- a map the other way, that undoes this one, is a map
  pub map_undone :
      (g h : Net L) (to from : ℕ → ℕ) → Map sense g h to → ((w : ℕ) → w < h.count → (from w < g.count) × (to (from w) ≡ w)) → Map sense h g from
  map_undone g h to from m back =
      record {
        same_count = sym m.same_count;
        within = λ u l. (back u l).0;
        one_to_one = λ u v a b e. sym (back u a).1 ∙ ap to e ∙ (back v b).1;
        onto = λ w l. let k = m.within w l in (to w, k, m.one_to_one (from (to w)) w (back (to w) k).0 l (back (to w) k).1);
        kinds = λ u l. sym (m.kinds (from u) (back u l).0) ∙ ap h.kind (back u l).1;
        legs = λ u v a b. sym (m.legs (from u) (from v) (back u a).0 (back v b).0) ∙ ap (option_map sense) (ap₂ h.leg (back u a).1 (back v b).1);
      }

  pub maps_back : (g h : Net L) → MapsBack sense g h
  maps_back g h r =
      (origin g h r.0 r.1, map_undone g h r.0 (origin g h r.0 r.1) r.1 (origin_of g h r.0 r.1))

  pub goes_back : (p : Pairing) (g h : Net L) → GoesBack sense p g h
  goes_back p g h q rev c =
      let m = c.1 in
      let size = rev.0 in
      (size ∙ c.0 ∙ m.same_count, map_undone g h (image_of p) (image_of q) m (λ w l. (let k = image_below q w (omega (arith, c.0, m.same_count)) in omega (arith, c.0), rev.2 w (omega (arith, c.0, m.same_count)))))

  pub maps_compose : (g h : Net L) → MapsCompose sense g h
  maps_compose g h k to on m n =
      record {
        same_count = m.same_count ∙ n.same_count;
        within = λ u l. n.within (to u) (m.within u l);
        one_to_one = λ u v a b e. m.one_to_one u v a b (n.one_to_one (to u) (to v) (m.within u a) (m.within v b) e);
        onto = λ w l. let x = n.onto w l in let y = m.onto x.0 x.1 in (y.0, y.1, ap on y.2 ∙ x.2);
        kinds = λ u l. n.kinds (to u) (m.within u l) ∙ m.kinds u l;
        legs = λ u v a b. n.legs (to u) (to v) (m.within u a) (m.within v b) ∙ m.legs u v a b;
      }
