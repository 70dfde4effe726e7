-- The calls of an atlas: what each is answered, and what the atlas holds after it.
use Rattle.std.specs.Prelude.{ℕ, suc, ◌+◌, true, false, List, [], ◌∷◌, ◌++◌, map, length, ℤ, Some, None, Option, ◌==◌, nat_le, nat_lt}
use Rattle.std.specs.List.{range_with_len}
use Rattle.atlas.specs.Legends.{full_legend, coded_by}
use Rattle.search.specs.Coded.{Coded}
use Rattle.search.specs.Following.{image}
use Rattle.search.specs.Searches.{searched}
use Rattle.survey.specs.Networks.{Net}

-- what is asked: to number a network, or only to look for it
pub data Ask : Type 0 where
  enters : Ask
  finds : Ask

-- a call: what is asked, of which network, and how many trials are allowed
pub record Call (L : Type 0) : Type 0 where
  pub ask : Ask
  pub net : Net L
  pub allowance : ℕ

-- the answers: new and known with the form's number and the trials, known with the images of the form's stations too;
-- unknown and spent with the trials; and the refusals, one of them with the lowest station that has a leg to itself
pub data Reply : Type 0 where
  new : ℕ → ℕ → Reply
  known : ℕ → ℕ → List ℕ → Reply
  unknown : ℕ → Reply
  spent : ℕ → Reply
  no_stations : Reply
  too_many : Reply
  leg_to_itself : ℕ → Reply
  legend_full : Reply
  atlas_full : Reply

-- what an atlas holds: how many blocks and label places it has, its forms in order, and its legend
pub record Held (L : Type 0) : Type 0 where
  pub blocks : ℕ
  pub places : ℕ
  pub forms : List Coded
  pub legend : List L

-- a newly opened atlas
abbrev pub opened : {L : Type 0} → ℕ → ℕ → Held L
opened blocks places = record { blocks = blocks; places = places; forms = []; legend = [] }

-- what a search through forms gives: the first with a map, by number and images, and the trials of all that were searched
pub record Sought : Type 0 where
  pub found : Option (ℕ × List ℕ)
  pub trials : ℕ

-- nothing found, and nothing tried
abbrev pub nothing_sought : Sought
nothing_sought = record { found = None; trials = 0 }

-- the forms, numbered from f on, are searched for a map to h up to the first that has one
abbrev pub sought_in : Coded → ℕ → List Coded → Sought
sought_in h f [] = nothing_sought
sought_in h f (g ∷ gs) =
    let o = searched g h in
    let r = sought_in h (suc f) gs in
    elim o.map [
      | Some ps ↦ record { found = Some (f, map (image ps) (range_with_len 0 g.count)); trials = o.trials }
      | None ↦ record { found = r.found; trials = o.trials + r.trials }
    ]

module _ {L : Type 0} (sense : L → List ℤ) where
  -- the lowest station of a list that has a leg to itself
  abbrev pub first_loop : Net L → List ℕ → Option ℕ
  first_loop n [] = None
  first_loop n (u ∷ us) = let r = first_loop n us in elim (n.leg u u) [ None ↦ r | Some x ↦ Some u ]

  -- an answer, and what the atlas holds after it
  pub record After : Type 0 where
    pub reply : Reply
    pub held : Held L

  -- an answer that changes nothing
  abbrev pub unchanged : Held L → Reply → After
  unchanged s r = record { reply = r; held = s }

  -- what the forms have for a network whose full legend is ls: a lacking sense means no map and no trials
  abbrev pub sought : Held L → Net L → List L → Sought
  sought s n ls =
      elim (nat_lt (length s.legend) (length ls)) [
        | true ↦ nothing_sought
        | false ↦ sought_in (coded_by sense ls n) 1 s.forms
      ]

  -- the atlas with one form more, and the legend that it is coded by
  abbrev pub with_form : Held L → Net L → List L → Held L
  with_form s n ls =
      record { blocks = s.blocks; places = s.places; forms = s.forms ++ coded_by sense ls n ∷ []; legend = ls }

  -- no form has a map to the network, as t trials showed
  abbrev pub unmatched : Held L → Ask → Net L → List L → ℕ → After
  unmatched s finds n ls t = unchanged s (unknown t)
  unmatched s enters n ls t =
      elim (nat_lt (length s.forms) s.blocks) [
        | true ↦ record { reply = new (suc (length s.forms)) t; held = with_form s n ls }
        | false ↦ unchanged s atlas_full
      ]

  -- the answer after the search: spent where the trials exceed the allowance, else known or not
  abbrev pub settled : Held L → Call L → List L → Sought → After
  settled s c ls o =
      let none = unmatched s c.ask c.net ls o.trials in
      elim (nat_lt c.allowance o.trials) [
        | true ↦ unchanged s (spent c.allowance)
        | false ↦ elim o.found [ Some m ↦ unchanged s (known m.0 o.trials m.1) | None ↦ none ]
      ]

  -- the answer to a network that can be read: to enter it, its missing senses must find places
  abbrev pub read_and_settled : Held L → Call L → After
  read_and_settled s c =
      let ls = full_legend sense c.net s.legend in
      let o = sought s c.net ls in
      let go = settled s c ls o in
      elim c.ask [
        | finds ↦ go
        | enters ↦ elim (nat_le (length ls) s.places) [ true ↦ go | false ↦ unchanged s legend_full ]
      ]

  -- the answer to a call, and what the atlas holds after it
  abbrev pub answered : Held L → Call L → After
  answered s c =
      let n = c.net.count in
      elim (n == 0) [
        | true ↦ unchanged s no_stations
        | false ↦ elim (nat_lt 64 n) [
          | true ↦ unchanged s too_many
          | false ↦ elim (first_loop c.net (range_with_len 0 n)) [
            | Some u ↦ unchanged s (leg_to_itself u)
            | None ↦ read_and_settled s c
          ]
        ]
      ]

  -- what the atlas holds after some calls
  abbrev pub left_by : Held L → List (Call L) → Held L
  left_by s [] = s
  left_by s (c ∷ cs) = left_by (answered s c).held cs

  -- a call in a history: what the atlas held before it, the call, and its answer
  pub record Past : Type 0 where
    pub before : Held L
    pub call : Call L
    pub reply : Reply

  -- the calls put to an atlas one after another, with their answers
  abbrev pub history : Held L → List (Call L) → List Past
  history s [] = []
  history s (c ∷ cs) =
      let a = answered s c in
      record { before = s; call = c; reply = a.reply } ∷ history a.held cs
