-- What the calls of an atlas answer, in the words of the code, and what they leave in lent memory.
use Rattle.std.specs.Prelude.{◌≡◌, ℕ, ◌-◌, ◌*◌, ◌≤◌, List, [], ◌∷◌, ◌++◌, length, ℤ, Ok, Err, Result, slice_index_or}
use Rattle.atlas.specs.Blocks.{block_coded, no_form, Kept}
use Rattle.atlas.specs.Calls.{Call, Held, Reply, After, answered, unmatched, opened, history, left_by}
use Rattle.atlas.specs.Calls.Ask.{enters, finds}
use Rattle.atlas.specs.Calls.Reply.{new, known, unknown, spent, no_stations, too_many, leg_to_itself, legend_full, atlas_full}
use Rattle.atlas.specs.Holding.{held_of, bytes_of, places_of}
use Rattle.atlas.specs.Law.{Lawful}
use Rattle.atlas.specs.Legends.{full_legend}
use Rattle.atlas.specs.FirstLegs.{Behind}
use Rattle.atlas.specs.declared.Atlas.{Atlas}
use Rattle.atlas.specs.declared.answer.Answer.{Answer}
use Rattle.atlas.specs.declared.answer.Answer.TheVariants.{New, Known, Unknown, Spent}
use Rattle.survey.specs.Networks.{Net}
use Rattle.survey.specs.Pairings.{images_of}
use Rattle.survey.specs.declared.pairing.Pairing.{Pairing}
use Rattle.survey.specs.declared.refusal.Refusal.{Refusal}
use Rattle.survey.specs.declared.refusal.Refusal.TheVariants.{NoStations, TooManyStations, LegToItself, LegendFull, AtlasFull}

-- how each reply is told: the form's number and the trials, or the trials, or why the call is refused
abbrev pub told : Reply → Result Answer Refusal
told (new f t) = Ok (New f t)
told (known f t m) = Ok (Known f t)
told (unknown t) = Ok (Unknown t)
told (spent t) = Ok (Spent t)
told no_stations = Err NoStations
told too_many = Err TooManyStations
told (leg_to_itself u) = Err (LegToItself u)
told legend_full = Err LegendFull
told atlas_full = Err AtlasFull

-- the place afterwards: the map from form to network where the network is known, else what it held
abbrev pub Placed : Reply → Pairing → Pairing → Type 0
Placed (new f t) before after = after ≡ before
Placed (known f t m) before after = images_of after ≡ m
Placed (unknown t) before after = after ≡ before
Placed (spent t) before after = after ≡ before
Placed no_stations before after = after ≡ before
Placed too_many before after = after ≡ before
Placed (leg_to_itself u) before after = after ≡ before
Placed legend_full before after = after ≡ before
Placed atlas_full before after = after ≡ before

-- an answer and the place afterwards say a reply
pub record Says (reply : Reply) (r : Result Answer Refusal) (before after : Pairing) : Type 0 where
  pub answer : r ≡ told reply
  pub place : Placed reply before after

-- the lent memory after a reply, where the atlas then holds s: a new form is written into its block and its missing
-- labels behind those that were held, and no other byte or label; else nothing is written
abbrev pub WrittenFor : {L : Type 0} → Reply → Held L → List ℕ → List ℕ → List L → List L → Type 0
WrittenFor (new f t) s bytes bytes' places places' =
    (length bytes' ≡ length bytes)
    × (block_coded bytes' (f - 1) ≡ slice_index_or s.forms (f - 1) no_form)
    × Kept (4161 * (f - 1)) 4161 bytes bytes'
    × Behind (length s.legend) places places'
WrittenFor (known f t m) s bytes bytes' places places' = (bytes' ≡ bytes) × (places' ≡ places)
WrittenFor (unknown t) s bytes bytes' places places' = (bytes' ≡ bytes) × (places' ≡ places)
WrittenFor (spent t) s bytes bytes' places places' = (bytes' ≡ bytes) × (places' ≡ places)
WrittenFor no_stations s bytes bytes' places places' = (bytes' ≡ bytes) × (places' ≡ places)
WrittenFor too_many s bytes bytes' places places' = (bytes' ≡ bytes) × (places' ≡ places)
WrittenFor (leg_to_itself u) s bytes bytes' places places' = (bytes' ≡ bytes) × (places' ≡ places)
WrittenFor legend_full s bytes bytes' places places' = (bytes' ≡ bytes) × (places' ≡ places)
WrittenFor atlas_full s bytes bytes' places places' = (bytes' ≡ bytes) × (places' ≡ places)

-- a network to be numbered, and one to be looked for
abbrev pub entering : {L : Type 0} → Net L → ℕ → Call L
entering n a = record { ask = enters; net = n; allowance = a }

abbrev pub finding : {L : Type 0} → Net L → ℕ → Call L
finding n a = record { ask = finds; net = n; allowance = a }

module _ {L : Type 0} (sense : L → List ℤ) where
  -- what a call is answered that is put to an atlas which holds s, and what the atlas holds after it
  unfoldable pub put_to : Held L → Call L → After sense
  put_to s c = answered sense s c

  -- what entering a network comes to, to which no form has a map, as t trials showed
  unfoldable pub unmet : Held L → Net L → ℕ → After sense
  unmet s n t = unmatched sense s enters n (full_legend sense n s.legend) t

  -- a call that may write is carried out: the answer and the place say its reply, and the atlas holds what it leaves
  pub record Carried (a : After sense) (r : Result Answer Refusal) (before after : Pairing) (atlas atlas' : Atlas L) : Type 0 where
    pub says : Says a.reply r before after
    pub held : held_of atlas' ≡ a.held
    pub written : WrittenFor a.reply a.held (bytes_of atlas) (bytes_of atlas') (places_of atlas) (places_of atlas')

  -- whatever calls led from a newly opened atlas to s, the history with the call c and this reply added is lawful
  abbrev pub LawfulAfter : Held L → Call L → Reply → Type 0
  LawfulAfter s c reply =
      (blocks places : ℕ) (calls : List (Call L)) → places ≤ 250 → left_by sense (opened blocks places) calls ≡ s →
      Lawful sense (opened blocks places)
      (history sense (opened blocks places) calls ++ record { before = s; call = c; reply = reply } ∷ [])

  -- an answer and a place that say a lawful reply to the call c put to an atlas that holds s
  abbrev pub KeepsLaw : Held L → Call L → Result Answer Refusal → Pairing → Pairing → Type 0
  KeepsLaw s c r before after = (reply : Reply) × Says reply r before after × LawfulAfter s c reply
