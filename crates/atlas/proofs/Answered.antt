-- What a call is answered, in the cases in which the code answers it.
use Rattle.std.proofs.Common.{◌≡◌, ℕ, suc, ◌<◌, ◌≤◌, Bool, true, false, cond, eqb, ltb, leb, List, length, ℤ, Some, None, Ok, Err, Option, Result, sym, refl, ap, ◌∙◌, subst, arith, le-ltb, lt-ltb, ne_eqb, le-leb}
use borrow.Author.Tests.{lt-leb}
use Rattle.std.specs.List.{range_with_len}
use Rattle.std.specs.Result.{IsErrAnd}
use Rattle.search.specs.Coded.{Coded}
use Rattle.std.proofs.lemmas.Bool.{leb-true, leb-false}
use Rattle.std.proofs.lemmas.Result.{err_from_is_err_and}
use Rattle.atlas.proofs.Reading.{read_ok}
use Rattle.atlas.proofs.Senses.{full_same}
use Rattle.atlas.specs.Answering.{Says, WrittenFor, entering, finding}
use Rattle.atlas.specs.Calls.{Call, Held, Reply, After, Sought, nothing_sought, sought_in, first_loop, unchanged, with_form, sought, unmatched, settled, read_and_settled, answered}
use Rattle.atlas.specs.Calls.Ask.{enters}
use Rattle.atlas.specs.Calls.Reply.{new, known, spent, no_stations, too_many, leg_to_itself, legend_full, atlas_full}
use Rattle.atlas.specs.Legends.{coded_by, full_legend}
use Rattle.atlas.specs.Readings.{stations_read}
use Rattle.atlas.specs.Seeking.{found_in, told_sought, images_in}
use Rattle.atlas.specs.declared.answer.Answer.{Answer}
use Rattle.atlas.specs.declared.seeking.Sought.TheVariants.{Found, Nowhere, Spent as Overspent}
use Rattle.survey.specs.Networks.{Net}
use Rattle.survey.specs.declared.pairing.Pairing.{Pairing}
use Rattle.survey.specs.declared.refusal.Refusal.{Refusal}
use Rattle.survey.specs.declared.refusal.Refusal.TheVariants.{NoStations, TooManyStations, LegToItself}

module _ {L : Type 0} (sense : L → List ℤ) (s : Held L) where
  -- a reply that changes neither the place nor the lent memory, told as r
  pub record Quiet (reply : Reply) (r : Result Answer Refusal) : Type 0 where
    pub says : (p : Pairing) → Says reply r p p
    pub same_memory : (bytes : List ℕ) (places : List L) → WrittenFor reply s bytes bytes places places

  -- the call is answered by such a reply
  abbrev pub Quietly : After sense → Result Answer Refusal → Type 0
  Quietly a r = (reply : Reply) × (a ≡ unchanged sense s reply) × Quiet reply r

  -- the checks of reading a network
  abbrev way : Call L → Bool → Bool → Option ℕ → After sense
  way c x y z =
      elim x as (λ _. After sense) [
        | true ↦ unchanged sense s no_stations
        | false ↦ elim y as (λ _. After sense) [
          | true ↦ unchanged sense s too_many
          | false ↦ elim z as (λ _. After sense) [ Some u ↦ unchanged sense s (leg_to_itself u) | None ↦ read_and_settled sense s c ]
        ]
      ]

  -- a network that cannot be read is refused, and a `?` hands that on
  pub refused_read :
      (c : Call L) (e : Refusal) (r : Result Answer Refusal) → stations_read sense c.net ≡ Err e → IsErrAnd r (λ y. y ≡ e) → Quietly (answered sense s c) r
  unfolding stations_read
  refused_read c e r read on =
      let p = err_from_is_err_and r on in
      subst (Quietly (answered sense s c)) (sym (p.1 ∙ ap {B = Result Answer Refusal} Err p.2))
      (go (eqb c.net.count 0) (ltb 64 c.net.count) (first_loop sense c.net (range_with_len 0 c.net.count)) read)
    where
      checked : Bool → Bool → Option ℕ → Result ℕ Refusal
      checked x y z =
          elim x [
            | true ↦ Err NoStations
            | false ↦ elim y [
              | true ↦ Err TooManyStations
              | false ↦ elim z [ Some u ↦ Err (LegToItself u) | None ↦ Ok c.net.count ]
            ]
          ]

      go : (x y : Bool) (z : Option ℕ) → checked x y z ≡ Err e → Quietly (way c x y z) (Err e)
      go true y z r = (no_stations, refl, record { says = λ p. record { answer = (cc); place = refl }; same_memory = λ b p. (refl, refl) })
      go false true z r = (too_many, refl, record { says = λ p. record { answer = (cc); place = refl }; same_memory = λ b p. (refl, refl) })
      go false false (Some u) r =
          (leg_to_itself u, refl, record { says = λ p. record { answer = (cc); place = refl }; same_memory = λ b p. (refl, refl) })
      go false false None r = let z : ◌≡◌ {A = ℕ} 0 1 = cc in absurd (omega arith)

  -- one that can be read is searched for
  pub read_on : (c : Call L) (k : ℕ) → stations_read sense c.net ≡ Ok k → answered sense s c ≡ read_and_settled sense s c
  read_on c k r =
      let f = (read_ok sense c.net k (sym r)).1 in
      ap (λ (x : Bool). way c x (ltb 64 c.net.count) (first_loop sense c.net (range_with_len 0 c.net.count))) (ne_eqb c.net.count 0 (λ e. omega (arith, f.some)))
      ∙ ap (λ (y : Bool). way c false y (first_loop sense c.net (range_with_len 0 c.net.count))) (le-ltb 64 c.net.count f.few)
      ∙ ap (way c false false) f.loopless

  -- a call that the outcome of a search settles
  pub record Settles (c : Call L) (o : Sought) : Type 0 where
    pub is : answered sense s c ≡ settled sense s c (full_legend sense c.net s.legend) o

  module _ (n : Net L) where
    abbrev ls : List L
    ls = full_legend sense n s.legend

    -- a sense that the legend lacks means no search
    pub sought_lacking : length s.legend < length ls → sought sense s n ls ≡ nothing_sought
    sought_lacking l =
        ap (λ (b : Bool). elim b as (λ _. Sought) [ true ↦ nothing_sought | false ↦ sought_in (coded_by sense ls n) 1 s.forms ]) (lt-ltb (length s.legend) (length ls) l)

    -- with no lacking sense the full legend is the legend
    pub full_is : length ls ≤ length s.legend → ls ≡ s.legend
    full_is l = full_same sense n s.legend (le-ltb (length s.legend) (length ls) l)

    -- and the forms are searched for h, if it is how a network k that is n is coded
    pub sought_known :
        (h : Coded) (k : Net L) → h ≡ coded_by sense s.legend k → k ≡ n → length ls ≤ length s.legend → sought sense s n ls ≡ sought_in h 1 s.forms
    sought_known h k code same l =
        ap (λ (b : Bool). elim b as (λ _. Sought) [ true ↦ nothing_sought | false ↦ sought_in (coded_by sense ls n) 1 s.forms ]) (le-ltb (length s.legend) (length ls) l)
        ∙ ap (λ (ms : List L). sought_in (coded_by sense ms n) 1 s.forms) (full_is l)
        ∙ ap (λ (x : Coded). sought_in x 1 s.forms) (sym (code ∙ ap (coded_by sense s.legend) same))

    -- finding: the search settles it
    pub find_settles : (a k : ℕ) (o : Sought) → stations_read sense n ≡ Ok k → sought sense s n ls ≡ o → Settles (finding n a) o
    find_settles a k o r e = record { is = read_on (finding n a) k r ∙ ap (settled sense s (finding n a) ls) e }

    -- entering: so it does where the missing senses find places
    abbrev placing : ℕ → Bool → After sense
    placing a b =
        elim b as (λ _. After sense) [
          | true ↦ settled sense s (entering n a) ls (sought sense s n ls)
          | false ↦ unchanged sense s legend_full
        ]

    pub enter_settles :
        (a k : ℕ) (o : Sought) → stations_read sense n ≡ Ok k → length ls ≤ s.places → sought sense s n ls ≡ o → Settles (entering n a) o
    enter_settles a k o r l e = record {
      is = read_on (entering n a) k r ∙ ap (placing a) (le-leb (length ls) s.places l) ∙ ap (settled sense s (entering n a) ls) e;
    }

    pub enter_full : (a k : ℕ) → stations_read sense n ≡ Ok k → s.places < length ls → answered sense s (entering n a) ≡ unchanged sense s legend_full
    enter_full a k r l = read_on (entering n a) k r ∙ ap (placing a) (lt-leb (length ls) s.places l)

    -- no form has a map: the network is new where a block is free
    abbrev numbering : List L → ℕ → Bool → After sense
    numbering ms t b =
        elim b as (λ _. After sense) [
          | true ↦ record { reply = new (suc (length s.forms)) t; held = with_form sense s n ms }
          | false ↦ unchanged sense s atlas_full
        ]

    pub unmatched_new :
        (ms : List L) (t : ℕ) → length s.forms < s.blocks → unmatched sense s enters n ms t ≡ record { reply = new (suc (length s.forms)) t; held = with_form sense s n ms }
    unmatched_new ms t l = ap (numbering ms t) (lt-ltb (length s.forms) s.blocks l)

    pub unmatched_full : (ms : List L) (t : ℕ) → s.blocks ≤ length s.forms → unmatched sense s enters n ms t ≡ unchanged sense s atlas_full
    unmatched_full ms t l = ap (numbering ms t) (le-ltb (length s.forms) s.blocks l)

-- after the search
module _ {L : Type 0} {sense : L → List ℤ} {s : Held L} {c : Call L} {o : Sought} (by : Settles sense s c o) where
  abbrev ms : List L
  ms = full_legend sense c.net s.legend

  abbrev settling : Bool → Option (ℕ × List ℕ) → After sense
  settling x m =
      elim x as (λ _. After sense) [
        | true ↦ unchanged sense s (spent c.allowance)
        | false ↦ elim m as (λ _. After sense) [
          | Some m ↦ unchanged sense s (known m.0 o.trials m.1)
          | None ↦ unmatched sense s c.ask c.net ms o.trials
        ]
      ]

  -- within the allowance
  within : leb o.trials c.allowance ≡ true → settled sense s c ms o ≡ settling false o.found
  within b =
      ap (λ (x : Bool). settling x o.found) (le-ltb c.allowance o.trials (leb-true o.trials c.allowance b))

  pub settled_spent : Overspent ≡ told_sought c.allowance o → answered sense s c ≡ unchanged sense s (spent c.allowance)
  unfolding told_sought
  settled_spent e = by.is ∙ go (leb o.trials c.allowance) refl o.found e
    where
      go :
          (b : Bool) → leb o.trials c.allowance ≡ b → (m : Option (ℕ × List ℕ)) → Overspent ≡ cond b (found_in m o.trials) Overspent →
          settled sense s c ms o ≡ unchanged sense s (spent c.allowance)
      go true t (Some m) e = let z : ◌≡◌ {A = ℕ} 0 1 = cc in absurd (omega arith)
      go true t None e = let z : ◌≡◌ {A = ℕ} 0 1 = cc in absurd (omega arith)
      go false t m e =
          ap (λ (x : Bool). settling x o.found) (lt-ltb c.allowance o.trials (leb-false o.trials c.allowance t))

  pub settled_found :
      {f t : ℕ} → Found f t ≡ told_sought c.allowance o → answered sense s c ≡ unchanged sense s (known f t (images_in o.found))
  unfolding told_sought
  settled_found {f} {t} e = by.is ∙ go (leb o.trials c.allowance) refl o.found refl e
    where
      go :
          (b : Bool) → leb o.trials c.allowance ≡ b → (m : Option (ℕ × List ℕ)) → o.found ≡ m → Found f t ≡ cond b (found_in m o.trials) Overspent →
          settled sense s c ms o ≡ unchanged sense s (known f t (images_in o.found))
      go true b (Some m) k e =
          let same : f ≡ m.0 = cc in
          let count : t ≡ o.trials = cc in
          within b
          ∙ ap (settling false) k
          ∙ ap (λ (j : ℕ). unchanged sense s (known j o.trials m.1)) (sym same)
          ∙ ap (λ (j : ℕ). unchanged sense s (known f j m.1)) (sym count)
          ∙ ap (λ (x : Option (ℕ × List ℕ)). unchanged sense s (known f t (images_in x))) (sym k)
      go true b None k e = let z : ◌≡◌ {A = ℕ} 0 1 = cc in absurd (omega arith)
      go false b m k e = let z : ◌≡◌ {A = ℕ} 0 1 = cc in absurd (omega arith)

  pub settled_nowhere :
      {t : ℕ} → Nowhere t ≡ told_sought c.allowance o → answered sense s c ≡ unmatched sense s c.ask c.net ms t
  unfolding told_sought
  settled_nowhere {t} e = by.is ∙ go (leb o.trials c.allowance) refl o.found refl e
    where
      go :
          (b : Bool) → leb o.trials c.allowance ≡ b → (m : Option (ℕ × List ℕ)) → o.found ≡ m → Nowhere t ≡ cond b (found_in m o.trials) Overspent →
          settled sense s c ms o ≡ unmatched sense s c.ask c.net ms t
      go true b None k e =
          let count : t ≡ o.trials = cc in
          within b ∙ ap (settling false) k ∙ ap (unmatched sense s c.ask c.net ms) (sym count)
      go true b (Some m) k e = let z : ◌≡◌ {A = ℕ} 0 1 = cc in absurd (omega arith)
      go false b m k e = let z : ◌≡◌ {A = ℕ} 0 1 = cc in absurd (omega arith)

-- a search that was not made takes no trials
pub settled_unsought :
    {L : Type 0} {sense : L → List ℤ} {s : Held L} {c : Call L} → Settles sense s c nothing_sought →
    answered sense s c ≡ unmatched sense s c.ask c.net (full_legend sense c.net s.legend) 0
settled_unsought {c = c} by = by.is ∙ ap (λ (x : Bool). settling by x None) (le-ltb c.allowance 0 (omega arith))
