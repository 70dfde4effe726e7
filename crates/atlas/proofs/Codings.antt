-- Networks coded by a legend: between coded networks there are the maps that there are between the networks.
use Rattle.std.proofs.Common.{◌≡◌, ℕ, ◌<◌, ◌≤◌, List, length, ℤ, Some, None, Option, sym, refl, ap, ◌∙◌, arith}
use Rattle.std.specs.Option.{option_map}
use Rattle.atlas.proofs.Mapping.{origin, origin_of, turned}
use Rattle.atlas.proofs.Senses.{number_same, same_number, number_low, Grown, full_has, Lacks}
use Rattle.atlas.specs.Legends.{number_of, code_of, coded_by, full_legend}
use Rattle.search.specs.Coded.{Coded, Plain}
use Rattle.search.specs.Maps.{Map as CodedMap}
use Rattle.survey.specs.Maps.{Map, Mapped}
use Rattle.survey.specs.Networks.{Net}

module _ {L : Type 0} (sense : L → List ℤ) where
  -- g is n with the codes that the legend ls gives it; ls lacks no sense of n, and n has no leg to itself
  pub record Codes (ls : List L) (n : Net L) (g : Coded) : Type 0 where
    pub counts : g.count ≡ n.count
    pub kinds : (u : ℕ) → u < n.count → g.kind u ≡ n.kind u
    pub codes : (u v : ℕ) → u < n.count → v < n.count → g.code u v ≡ code_of sense ls (n.leg u v)
    pub has : (u v : ℕ) (x : L) → u < n.count → v < n.count → n.leg u v ≡ Some x → 0 < number_of sense ls x
    pub loopless : (u : ℕ) → u < n.count → n.leg u u ≡ None

  -- a legend that grows leaves the codes right
  pub codes_grown :
      (ls ms : List L) (n : Net L) (g : Coded) → Grown sense ls ms → Codes ls n g → Codes ms n g
  codes_grown ls ms n g w c = record {
    counts = c.counts;
    kinds = c.kinds;
    codes = λ u v a b. c.codes u v a b ∙ go u v a b (n.leg u v) refl;
    has = λ u v x a b e. let h = c.has u v x a b e in omega (arith, w.kept x h);
    loopless = c.loopless;
  }
    where
      go :
          (u v : ℕ) → u < n.count → v < n.count → (o : Option L) → n.leg u v ≡ o →
          code_of sense ls o ≡ code_of sense ms o
      go u v a b None e = refl
      go u v a b (Some x) e = sym (w.kept x (c.has u v x a b e))

  -- a network is coded by its full legend
  pub codes_full :
      (n : Net L) (ls : List L) → ((u : ℕ) → u < n.count → n.leg u u ≡ None) →
      Codes (full_legend sense n ls) n (coded_by sense (full_legend sense n ls) n)
  codes_full n ls loopless = record {
    counts = refl;
    kinds = λ u l. refl;
    codes = λ u v a b. refl;
    has = λ u v x a b e. full_has sense n ls u v x a b e;
    loopless = loopless;
  }

  -- a code is at most the length of the legend
  code_low : (ls : List L) (o : Option L) → code_of sense ls o ≤ length ls
  code_low ls None = omega arith
  code_low ls (Some x) = number_low sense ls x

  -- with at most 250 labels, codes fit in a byte
  pub plain : (ls : List L) (n : Net L) (g : Coded) → length ls ≤ 250 → Codes ls n g → Plain g
  plain ls n g l c = record {
    small =
        λ u v a b.
        let i : u < n.count = omega (arith, c.counts) in
        let j : v < n.count = omega (arith, c.counts) in
        omega (arith, c.codes u v i j, code_low ls (n.leg u v));
    loopless =
        λ u a.
        let k : u < n.count = omega (arith, c.counts) in
        c.codes u u k k ∙ ap (code_of sense ls) (c.loopless u k);
  }

  -- legs of equal sense have equal codes
  code_same :
      (ls : List L) (o p : Option L) → option_map sense o ≡ option_map sense p → code_of sense ls o ≡ code_of sense ls p
  code_same ls None None e = refl
  code_same ls None (Some y) e = let z : ◌≡◌ {A = ℕ} 0 1 = cc in absurd (omega arith)
  code_same ls (Some x) None e = let z : ◌≡◌ {A = ℕ} 0 1 = cc in absurd (omega arith)
  code_same ls (Some x) (Some y) e = let z : sense x ≡ sense y = cc in number_same sense ls x y z

  -- ls does not lack the sense of a leg
  abbrev Has : List L → Option L → Type 0
  Has ls o = (x : L) → o ≡ Some x → 0 < number_of sense ls x

  -- legs of equal code have equal senses, where ls does not lack them
  same_code :
      (ls : List L) (o p : Option L) → Has ls o → Has ls p →
      code_of sense ls o ≡ code_of sense ls p → option_map sense o ≡ option_map sense p
  same_code ls None None a b e = refl
  same_code ls None (Some y) a b e = absurd (omega (arith, b y refl))
  same_code ls (Some x) None a b e = absurd (omega (arith, a x refl))
  same_code ls (Some x) (Some y) a b e = ap Some (same_number sense ls x y e (a x refl))

  module _ (ls : List L) (m n : Net L) (g h : Coded) (cm : Codes ls m g) (cn : Codes ls n h) where
    -- a map between two networks is one between their codings
    pub to_coded : Mapped sense m n → CodedMap g h
    to_coded r =
        let to = r.0 in
        let p = r.1 in
        let from = origin sense m n to p in
        let is = origin_of sense m n to p in
        let dg : (u : ℕ) → u < g.count → u < m.count = λ u l. omega (arith, cm.counts) in
        let dh : (u : ℕ) → u < h.count → u < n.count = λ u l. omega (arith, cn.counts) in
        record {
          counts = cm.counts ∙ p.same_count ∙ sym cn.counts;
          to = to;
          from = from;
          to_in = λ u l. omega (arith, p.within u (dg u l), cn.counts);
          from_in = λ v l. omega (arith, (is v (dh v l)).0, cm.counts);
          from_to =
              λ u l.
              let k = p.within u (dg u l) in
              p.one_to_one (from (to u)) u (is (to u) k).0 (dg u l) (is (to u) k).1;
          to_from = λ v l. (is v (dh v l)).1;
          kinds =
              λ u l.
              cm.kinds u (dg u l)
              ∙ sym (p.kinds u (dg u l))
              ∙ sym (cn.kinds (to u) (p.within u (dg u l)));
          codes =
              λ u v a b.
              cm.codes u v (dg u a) (dg v b)
              ∙ code_same ls (m.leg u v) (n.leg (to u) (to v)) (sym (p.legs u v (dg u a) (dg v b)))
              ∙ sym (cn.codes (to u) (to v) (p.within u (dg u a)) (p.within v (dg v b)));
        }

    -- and a map between the codings is one between the networks
    pub from_coded : (φ : CodedMap g h) → Map sense m n φ.to
    from_coded φ =
        let to = φ.to in
        let from = φ.from in
        let dg : (u : ℕ) → u < m.count → u < g.count = λ u l. omega (arith, cm.counts) in
        let dh : (u : ℕ) → u < n.count → u < h.count = λ u l. omega (arith, cn.counts) in
        let on : (u : ℕ) → u < m.count → to u < n.count = λ u l. omega (arith, φ.to_in u (dg u l), cn.counts) in
        record {
          same_count = sym cm.counts ∙ φ.counts ∙ cn.counts;
          within = on;
          one_to_one = λ u v a b e. sym (φ.from_to u (dg u a)) ∙ ap from e ∙ φ.from_to v (dg v b);
          onto = λ w l. (from w, omega (arith, φ.from_in w (dh w l), cm.counts), φ.to_from w (dh w l));
          kinds = λ u l. sym (cn.kinds (to u) (on u l)) ∙ sym (φ.kinds u (dg u l)) ∙ cm.kinds u l;
          legs =
              λ u v a b.
              same_code ls (n.leg (to u) (to v)) (m.leg u v)
              (λ x e. cn.has (to u) (to v) x (on u a) (on v b) e)
              (λ x e. cm.has u v x a b e)
              (sym (cn.codes (to u) (to v) (on u a) (on v b))
              ∙ sym (φ.codes u v (dg u a) (dg v b))
              ∙ cm.codes u v a b);
        }

  -- a leg whose sense ls has is not of a sense that ls lacks
  lacks_leg :
      (ls : List L) (o : Option L) (x : L) → option_map sense o ≡ Some (sense x) → Has ls o →
      number_of sense ls x ≡ 0 → ⊥
  lacks_leg ls None x e b z = let q : ◌≡◌ {A = ℕ} 0 1 = cc in omega arith
  lacks_leg ls (Some y) x e b z = let p : sense y ≡ sense x = cc in omega (arith, number_same sense ls y x p, b y refl)

  -- no map leads from a network whose senses ls has to one with a sense that ls lacks
  pub lacks_map :
      (ls : List L) (m n : Net L) (g : Coded) → Codes ls m g → Lacks sense n ls → Mapped sense m n → ⊥
  lacks_map ls m n g c k r =
      let t = turned sense m n r in
      let from = t.0 in
      let p = t.1 in
      let u = k.0 in
      let v = k.1 in
      lacks_leg ls (m.leg (from u) (from v)) k.2
      (p.legs u v k.3 k.4 ∙ ap (option_map sense) k.5)
      (λ y e. c.has (from u) (from v) y (p.within u k.3) (p.within v k.4) e)
      k.6
