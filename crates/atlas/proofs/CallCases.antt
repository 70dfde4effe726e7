-- The four ways in which a call is answered: refused or spent, known, unknown, and new. What holds in each holds of
-- the answer.
use Rattle.std.proofs.Common.{◌≡◌, ℕ, suc, ◌<◌, ◌≤◌, Bool, true, false, eqb, ltb, leb, List, [], ◌∷◌, length, ℤ, Some, None, Option, refl, ◌∙◌, subst, inl, inr, arith}
use Rattle.std.specs.List.{range_with_len}
use Rattle.std.proofs.lemmas.Bool.{leb-true}
use Rattle.atlas.proofs.Codings.{Codes, codes_full, lacks_map}
use Rattle.atlas.proofs.Membership.{In, in_counting}
use Rattle.atlas.proofs.Searching.{Kept, kept_placed, Shown, Missed, Tells, sought_tells}
use Rattle.atlas.proofs.Senses.{Grown, full_grown, full_same, full_lacks}
use Rattle.atlas.specs.Calls.{Ask, Call, Held, Reply, After, Sought, nothing_sought, sought_in, first_loop, unchanged, with_form, sought, unmatched, settled, read_and_settled, answered}
use Rattle.atlas.specs.Calls.Ask.{enters, finds}
use Rattle.atlas.specs.Calls.Reply.{new, known, unknown, spent, no_stations, too_many, leg_to_itself, legend_full, atlas_full}
use Rattle.atlas.specs.Law.{number, Settled}
use Rattle.atlas.specs.Legends.{coded_by, full_legend}
use Rattle.survey.specs.Networks.{Net}

module _ {L : Type 0} (sense : L → List ℤ) where
  -- where none is found among the stations of a list, none of them has a leg to itself
  pub loops_none : (n : Net L) (us : List ℕ) → first_loop sense n us ≡ None → (u : ℕ) → In u us → n.leg u u ≡ None
  loops_none n [] e u m = absurd m
  loops_none n (w ∷ ws) e u m = go (n.leg w w) refl e m (loops_none n ws)
    where
      found : Option L → Option ℕ
      found o = elim o [ None ↦ first_loop sense n ws | Some x ↦ Some w ]

      go :
          (o : Option L) → n.leg w w ≡ o → found o ≡ None → In u (w ∷ ws) →
          (first_loop sense n ws ≡ None → (v : ℕ) → In v ws → n.leg v v ≡ None) → n.leg u u ≡ None
      go None p e (inl q) i = subst (λ (x : ℕ). n.leg x x ≡ None) q p
      go None p e (inr m) i = i e u m
      go (Some x) p e m i = let z : ◌≡◌ {A = ℕ} 0 1 = cc in absurd (omega arith)

  module _
      (s : Held L) (c : Call L) (nets : List (Net L))
      (kept : Kept sense s.legend nets s.forms) (fits : length s.legend ≤ 250)
      (P : After sense → Type 0)
      (refused : (r : Reply) → number r ≡ None → (Settled r → ⊥) → P (unchanged sense s r))
      (knew : (f t : ℕ) (m : List ℕ) → Shown sense 1 nets c.net f m → P (unchanged sense s (known f t m)))
      (missed : (t : ℕ) → Missed sense 1 nets c.net → P (unchanged sense s (unknown t)))
      (entered :
      (t : ℕ) (ls : List L) → Missed sense 1 nets c.net → Grown sense s.legend ls → length ls ≤ s.places →
      Codes sense ls c.net (coded_by sense ls c.net) →
      P (record { reply = new (suc (length s.forms)) t; held = with_form sense s c.net ls })) where
    -- no form has a map
    unmatched_case :
        (a : Ask) (ls : List L) (t : ℕ) → Missed sense 1 nets c.net → Grown sense s.legend ls →
        (a ≡ enters → length ls ≤ s.places) → Codes sense ls c.net (coded_by sense ls c.net) →
        P (unmatched sense s a c.net ls t)
    unmatched_case finds ls t m g l k = missed t m
    unmatched_case enters ls t m g l k = go (ltb (length s.forms) s.blocks)
      where
        way : Bool → After sense
        way x =
            elim x [
              | true ↦ record { reply = new (suc (length s.forms)) t; held = with_form sense s c.net ls }
              | false ↦ unchanged sense s atlas_full
            ]

        go : (x : Bool) → P (way x)
        go true = entered t ls m g (l refl) k
        go false = refused atlas_full refl (λ h. h)

    -- after the search
    settled_case :
        (ls : List L) (o : Sought) → Tells sense 1 nets c.net o.found → Grown sense s.legend ls →
        (c.ask ≡ enters → length ls ≤ s.places) → Codes sense ls c.net (coded_by sense ls c.net) →
        P (settled sense s c ls o)
    settled_case ls o k g l cn = go (ltb c.allowance o.trials) o.found k
      where
        none : After sense
        none = unmatched sense s c.ask c.net ls o.trials

        way : Bool → Option (ℕ × List ℕ) → After sense
        way x m =
            elim x [
              | true ↦ unchanged sense s (spent c.allowance)
              | false ↦ elim m [ Some m ↦ unchanged sense s (known m.0 o.trials m.1) | None ↦ none ]
            ]

        go : (x : Bool) (m : Option (ℕ × List ℕ)) → Tells sense 1 nets c.net m → P (way x m)
        go true m k = refused (spent c.allowance) refl (λ h. h)
        go false (Some m) k = knew m.0 o.trials m.1 k
        go false None k = unmatched_case c.ask ls o.trials k g l cn

    -- a lacking sense means no map, else the forms are searched
    sought_case :
        (ls : List L) → ls ≡ full_legend sense c.net s.legend →
        Codes sense ls c.net (coded_by sense ls c.net) →
        Tells sense 1 nets c.net (sought sense s c.net ls).found
    sought_case ls is cn = go (ltb (length s.legend) (length ls)) refl
      where
        way : Bool → Sought
        way x = elim x [ true ↦ nothing_sought | false ↦ sought_in (coded_by sense ls c.net) 1 s.forms ]

        go : (x : Bool) → ltb (length s.legend) (length ls) ≡ x → Tells sense 1 nets c.net (way x).found
        go true e = λ f m p r.
            let k = kept_placed sense s.legend 1 nets s.forms f m kept p in
            let longer = subst (λ (ms : List L). ltb (length s.legend) (length ms) ≡ true) is e in
            lacks_map sense s.legend m c.net k.0 k.1 (full_lacks sense c.net s.legend longer) r
        go false e =
            let no_longer = subst (λ (ms : List L). ltb (length s.legend) (length ms) ≡ false) is e in
            let same : ls ≡ s.legend = is ∙ full_same sense c.net s.legend no_longer in
            sought_tells sense s.legend fits c.net (coded_by sense ls c.net)
            (subst (λ (ms : List L). Codes sense ms c.net (coded_by sense ls c.net)) same cn)
            1 nets s.forms kept

    -- the network can be read
    read_case : ((u : ℕ) → u < c.net.count → c.net.leg u u ≡ None) → P (read_and_settled sense s c)
    read_case loopless = go c.ask refl (leb (length ls) s.places) refl
      where
        ls : List L
        ls = full_legend sense c.net s.legend

        o : Sought
        o = sought sense s c.net ls

        cn : Codes sense ls c.net (coded_by sense ls c.net)
        cn = codes_full sense c.net s.legend loopless

        done : (c.ask ≡ enters → length ls ≤ s.places) → P (settled sense s c ls o)
        done l = settled_case ls o (sought_case ls refl cn) (full_grown sense c.net s.legend) l cn

        way : Ask → Bool → After sense
        way a x =
            elim a [
              | finds ↦ settled sense s c ls o
              | enters ↦ elim x [ true ↦ settled sense s c ls o | false ↦ unchanged sense s legend_full ]
            ]

        go : (a : Ask) → c.ask ≡ a → (x : Bool) → leb (length ls) s.places ≡ x → P (way a x)
        go finds e x l = done (λ k. let z : ◌≡◌ {A = ℕ} 0 1 = cc in absurd (omega arith))
        go enters e true l = done (λ k. leb-true (length ls) s.places l)
        go enters e false l = refused legend_full refl (λ h. h)

    -- whatever the call
    pub answered_case : P (answered sense s c)
    answered_case = go (eqb c.net.count 0) (ltb 64 c.net.count) (first_loop sense c.net us) refl
      where
        us : List ℕ
        us = range_with_len 0 c.net.count

        way : Bool → Bool → Option ℕ → After sense
        way x y z =
            elim x [
              | true ↦ unchanged sense s no_stations
              | false ↦ elim y [
                | true ↦ unchanged sense s too_many
                | false ↦ elim z [ Some u ↦ unchanged sense s (leg_to_itself u) | None ↦ read_and_settled sense s c ]
              ]
            ]

        go : (x y : Bool) (z : Option ℕ) → first_loop sense c.net us ≡ z → P (way x y z)
        go true y z e = refused no_stations refl (λ h. h)
        go false true z e = refused too_many refl (λ h. h)
        go false false (Some u) e = refused (leg_to_itself u) refl (λ h. h)
        go false false None e =
            read_case (λ u l. loops_none c.net us e u (in_counting u 0 c.net.count (omega arith) (omega arith)))
