-- Maps between networks turn round and follow one another, and a map is what it does below the count.
use Rattle.std.proofs.Common.{◌≡◌, ℕ, ◌<◌, ◌≤◌, ◌⊎◌, List, ℤ, sym, refl, ap, ◌∙◌, subst, ap₂, inl, inr, arith}
use Rattle.std.specs.Option.{option_map}
use Rattle.std.proofs.lemmas.Bool.{cases_lt}
use Rattle.survey.specs.Maps.{Map, Mapped}
use Rattle.survey.specs.Networks.{Net}

module _ {L : Type 0} (sense : L → List ℤ) where
  -- the station that a map brings to w, or 0 past the count
  abbrev pub origin : (g h : Net L) (to : ℕ → ℕ) → Map sense g h to → ℕ → ℕ
  origin g h to m w = elim (cases_lt w h.count) [ inl l ↦ (m.onto w l).0 | inr l ↦ 0 ]

  -- it is a station, and is brought to w
  pub origin_of :
      (g h : Net L) (to : ℕ → ℕ) (m : Map sense g h to) (w : ℕ) → w < h.count →
      (origin g h to m w < g.count) × (to (origin g h to m w) ≡ w)
  origin_of g h to m w l = go (cases_lt w h.count)
    where
      from : (w < h.count) ⊎ (h.count ≤ w) → ℕ
      from c = elim c [ inl l ↦ (m.onto w l).0 | inr l ↦ 0 ]

      go : (c : (w < h.count) ⊎ (h.count ≤ w)) → (from c < g.count) × (to (from c) ≡ w)
      go (inl k) = ((m.onto w k).1, (m.onto w k).2)
      go (inr k) = absurd (omega arith)

  -- a map turns round
  pub turned : (g h : Net L) → Mapped sense g h → Mapped sense h g
  turned g h r =
      let to = r.0 in
      let m = r.1 in
      let from = origin g h to m in
      let is = origin_of g h to m in (
        from,
        record {
          same_count = sym m.same_count;
          within = λ u l. (is u l).0;
          one_to_one = λ u v a b e. sym (is u a).1 ∙ ap to e ∙ (is v b).1;
          onto =
              λ w l.
              let k = m.within w l in
              (to w, k, m.one_to_one (from (to w)) w (is (to w) k).0 l (is (to w) k).1);
          kinds = λ u l. sym (m.kinds (from u) (is u l).0) ∙ ap h.kind (is u l).1;
          legs =
              λ u v a b.
              sym (m.legs (from u) (from v) (is u a).0 (is v b).0)
              ∙ ap (option_map sense) (ap₂ h.leg (is u a).1 (is v b).1);
        },
      )

  -- one map follows another
  pub after : (g h k : Net L) → Mapped sense g h → Mapped sense h k → Mapped sense g k
  after g h k r s =
      let to = r.0 in
      let m = r.1 in
      let on = s.0 in
      let n = s.1 in (
        (λ u. on (to u)),
        record {
          same_count = m.same_count ∙ n.same_count;
          within = λ u l. n.within (to u) (m.within u l);
          one_to_one =
              λ u v a b e. m.one_to_one u v a b (n.one_to_one (to u) (to v) (m.within u a) (m.within v b) e);
          onto =
              λ w l.
              let x = n.onto w l in
              let y = m.onto x.0 x.1 in
              (y.0, y.1, ap on y.2 ∙ x.2);
          kinds = λ u l. n.kinds (to u) (m.within u l) ∙ m.kinds u l;
          legs = λ u v a b. n.legs (to u) (to v) (m.within u a) (m.within v b) ∙ m.legs u v a b;
        },
      )

  -- each network has a map to itself
  pub itself : (g : Net L) → Mapped sense g g
  itself g = (
    (λ u. u),
    record {
      same_count = refl;
      within = λ u l. l;
      one_to_one = λ u v a b e. e;
      onto = λ w l. (w, l, refl);
      kinds = λ u l. refl;
      legs = λ u v a b. refl;
    },
  )

  -- a map is what it does below the count
  pub like :
      (g h : Net L) (to on : ℕ → ℕ) → ((u : ℕ) → u < g.count → on u ≡ to u) →
      Map sense g h to → Map sense g h on
  like g h to on e m = record {
    same_count = m.same_count;
    within = λ u l. subst (λ (x : ℕ). x < h.count) (sym (e u l)) (m.within u l);
    one_to_one = λ u v a b p. m.one_to_one u v a b (sym (e u a) ∙ p ∙ e v b);
    onto = λ w l. let x = m.onto w l in (x.0, x.1, e x.0 x.1 ∙ x.2);
    kinds = λ u l. ap h.kind (e u l) ∙ m.kinds u l;
    legs = λ u v a b. ap (option_map sense) (ap₂ h.leg (e u a) (e v b)) ∙ m.legs u v a b;
  }
