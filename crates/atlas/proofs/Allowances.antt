-- A larger allowance changes no settled answer.
use Rattle.std.proofs.Common.{◌≡◌, ℕ, ◌≤◌, Bool, true, false, eqb, ltb, leb, List, length, ℤ, Some, None, Option, refl, arith}
use Rattle.std.specs.List.{range_with_len}
use Rattle.std.proofs.lemmas.Bool.{ltb-true, ltb-false}
use Rattle.atlas.specs.Calls.{Ask, Call, Held, After, Sought, first_loop, unchanged, sought, unmatched, settled, read_and_settled, answered}
use Rattle.atlas.specs.Calls.Ask.{enters, finds}
use Rattle.atlas.specs.Calls.Reply.{known, spent, no_stations, too_many, leg_to_itself, legend_full}
use Rattle.atlas.specs.Law.{Settled}
use Rattle.atlas.specs.Legends.{full_legend}

module _ {L : Type 0} (sense : L → List ℤ) where
  -- the call with another allowance
  abbrev with_more : Call L → ℕ → Call L
  with_more c more = record { ask = c.ask; net = c.net; allowance = more }

  -- so after the search
  settled_more :
      (s : Held L) (c : Call L) (ls : List L) (o : Sought) (more : ℕ) → c.allowance ≤ more →
      Settled (settled sense s c ls o).reply → settled sense s (with_more c more) ls o ≡ settled sense s c ls o
  settled_more s c ls o more l h = go (ltb c.allowance o.trials) (ltb more o.trials) refl refl o.found h
    where
      none : After sense
      none = unmatched sense s c.ask c.net ls o.trials

      way : ℕ → Bool → Option (ℕ × List ℕ) → After sense
      way allowance over m =
          elim over [
            | true ↦ unchanged sense s (spent allowance)
            | false ↦ elim m [ Some m ↦ unchanged sense s (known m.0 o.trials m.1) | None ↦ none ]
          ]

      go :
          (t v : Bool) → ltb c.allowance o.trials ≡ t → ltb more o.trials ≡ v →
          (m : Option (ℕ × List ℕ)) → Settled (way c.allowance t m).reply →
          way more v m ≡ way c.allowance t m
      go true v p q m h = absurd h
      go false true p q m h =
          absurd (omega (arith, ltb-false c.allowance o.trials p, ltb-true more o.trials q))
      go false false p q m h = refl

  -- and before it
  read_more :
      (s : Held L) (c : Call L) (more : ℕ) → c.allowance ≤ more → Settled (read_and_settled sense s c).reply →
      read_and_settled sense s (with_more c more) ≡ read_and_settled sense s c
  read_more s c more l h = go c.ask (leb (length ls) s.places) h
    where
      ls : List L
      ls = full_legend sense c.net s.legend

      o : Sought
      o = sought sense s c.net ls

      way : Ask → Bool → After sense → After sense
      way a t go = elim a [ finds ↦ go | enters ↦ elim t [ true ↦ go | false ↦ unchanged sense s legend_full ] ]

      go :
          (a : Ask) (t : Bool) → Settled (way a t (settled sense s c ls o)).reply →
          way a t (settled sense s (with_more c more) ls o) ≡ way a t (settled sense s c ls o)
      go finds t h = settled_more s c ls o more l h
      go enters true h = settled_more s c ls o more l h
      go enters false h = refl

  -- put to the same atlas with a larger allowance, a settled call is answered the same and leaves the same
  pub answered_more :
      (s : Held L) (c : Call L) (more : ℕ) → c.allowance ≤ more → Settled (answered sense s c).reply →
      answered sense s (with_more c more) ≡ answered sense s c
  answered_more s c more l h =
      go (eqb c.net.count 0) (ltb 64 c.net.count) (first_loop sense c.net (range_with_len 0 c.net.count)) h
    where
      way : Bool → Bool → Option ℕ → After sense → After sense
      way x y z go =
          elim x [
            | true ↦ unchanged sense s no_stations
            | false ↦ elim y [
              | true ↦ unchanged sense s too_many
              | false ↦ elim z [ Some u ↦ unchanged sense s (leg_to_itself u) | None ↦ go ]
            ]
          ]

      go :
          (x y : Bool) (z : Option ℕ) → Settled (way x y z (read_and_settled sense s c)).reply →
          way x y z (read_and_settled sense s (with_more c more)) ≡ way x y z (read_and_settled sense s c)
      go true y z h = refl
      go false true z h = refl
      go false false (Some u) h = refl
      go false false None h = read_more s c more l h
