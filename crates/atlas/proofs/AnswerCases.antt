-- The two ways in which a call ends: nothing is written, or a network is entered.
use Rattle.std.proofs.Common.{◌≡◌, ℕ, suc, Bool, true, false, eqb, ltb, leb, List, length, ℤ, Some, None, Option, refl}
use Rattle.std.specs.List.{range_with_len}
use Rattle.atlas.proofs.Senses.{Grown, full_grown}
use Rattle.atlas.specs.Answering.{WrittenFor}
use Rattle.atlas.specs.Calls.{Ask, Call, Held, Reply, After, Sought, first_loop, unchanged, with_form, sought, unmatched, settled, read_and_settled, answered}
use Rattle.atlas.specs.Calls.Ask.{enters, finds}
use Rattle.atlas.specs.Calls.Reply.{new, known, unknown, spent, no_stations, too_many, leg_to_itself, legend_full, atlas_full}
use Rattle.atlas.specs.Legends.{full_legend}

module _ {L : Type 0} (sense : L → List ℤ) (s : Held L) where
  -- a reply with which nothing is written
  pub record Silent (reply : Reply) : Type 0 where
    pub same : (bytes : List ℕ) (places : List L) → WrittenFor reply s bytes bytes places places
    pub only :
        (bytes bytes' : List ℕ) (places places' : List L) → WrittenFor reply s bytes bytes' places places' →
        (bytes' ≡ bytes) × (places' ≡ places)

  -- what holds in both ways holds of the answer
  module _ (c : Call L) (P : After sense → Type 0) (still : (reply : Reply) → Silent reply → P (unchanged sense s reply)) (entered : (t : ℕ) (ls : List L) → c.ask ≡ enters → Grown sense s.legend ls → P (record { reply = new (suc (length s.forms)) t; held = with_form sense s c.net ls })) where
    unmatched_case : (a : Ask) (ls : List L) (t : ℕ) → c.ask ≡ a → Grown sense s.legend ls → P (unmatched sense s a c.net ls t)
    unmatched_case finds ls t e g = still (unknown t) (record { same = λ b p. (refl, refl); only = λ b b' p p' w. w })
    unmatched_case enters ls t e g = go (ltb (length s.forms) s.blocks)
      where
        way : Bool → After sense
        way x =
            elim x [
              | true ↦ record { reply = new (suc (length s.forms)) t; held = with_form sense s c.net ls }
              | false ↦ unchanged sense s atlas_full
            ]

        go : (x : Bool) → P (way x)
        go true = entered t ls e g
        go false = still atlas_full (record { same = λ b p. (refl, refl); only = λ b b' p p' w. w })

    settled_case : (ls : List L) (o : Sought) → Grown sense s.legend ls → P (settled sense s c ls o)
    settled_case ls o g = go (ltb c.allowance o.trials) o.found
      where
        none : After sense
        none = unmatched sense s c.ask c.net ls o.trials

        way : Bool → Option (ℕ × List ℕ) → After sense
        way x m =
            elim x [
              | true ↦ unchanged sense s (spent c.allowance)
              | false ↦ elim m [ Some m ↦ unchanged sense s (known m.0 o.trials m.1) | None ↦ none ]
            ]

        go : (x : Bool) (m : Option (ℕ × List ℕ)) → P (way x m)
        go true m = still (spent c.allowance) (record { same = λ b p. (refl, refl); only = λ b b' p p' w. w })
        go false (Some m) =
            still (known m.0 o.trials m.1) (record { same = λ b p. (refl, refl); only = λ b b' p p' w. w })
        go false None = unmatched_case c.ask ls o.trials refl g

    read_case : P (read_and_settled sense s c)
    read_case = go c.ask (leb (length ls) s.places)
      where
        ls : List L
        ls = full_legend sense c.net s.legend

        done : P (settled sense s c ls (sought sense s c.net ls))
        done = settled_case ls (sought sense s c.net ls) (full_grown sense c.net s.legend)

        way : Ask → Bool → After sense
        way a x =
            elim a [
              | finds ↦ settled sense s c ls (sought sense s c.net ls)
              | enters ↦ elim x [ true ↦ settled sense s c ls (sought sense s c.net ls) | false ↦ unchanged sense s legend_full ]
            ]

        go : (a : Ask) (x : Bool) → P (way a x)
        go finds x = done
        go enters true = done
        go enters false = still legend_full (record { same = λ b p. (refl, refl); only = λ b b' p p' w. w })

    pub answer_case : P (answered sense s c)
    answer_case = go (eqb c.net.count 0) (ltb 64 c.net.count) (first_loop sense c.net us)
      where
        us : List ℕ
        us = range_with_len 0 c.net.count

        way : Bool → Bool → Option ℕ → After sense
        way x y z =
            elim x [
              | true ↦ unchanged sense s no_stations
              | false ↦ elim y [
                | true ↦ unchanged sense s too_many
                | false ↦ elim z [ Some u ↦ unchanged sense s (leg_to_itself u) | None ↦ read_and_settled sense s c ]
              ]
            ]

        go : (x y : Bool) (z : Option ℕ) → P (way x y z)
        go true y z = still no_stations (record { same = λ b p. (refl, refl); only = λ b b' p p' w. w })
        go false true z = still too_many (record { same = λ b p. (refl, refl); only = λ b b' p p' w. w })
        go false false (Some u) = still (leg_to_itself u) (record { same = λ b p. (refl, refl); only = λ b b' p p' w. w })
        go false false None = read_case
