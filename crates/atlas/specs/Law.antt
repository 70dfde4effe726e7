-- The law over any list of calls put to a newly opened atlas, in the words of networks and maps between them.
use Rattle.std.specs.Prelude.{◌≡◌, ℕ, suc, ◌+◌, ◌≤◌, List, [], ◌∷◌, ◌++◌, map, ℤ, Some, None, Option, slice_index}
use Rattle.atlas.specs.Calls.{Call, Held, Reply, Past, history, opened, answered, left_by}
use Rattle.atlas.specs.Calls.Reply.{new, known, unknown, spent, no_stations, too_many, leg_to_itself, legend_full, atlas_full}
use Rattle.survey.specs.Maps.{Map, Mapped}

-- a network is numbered when it is answered new or known
abbrev pub number : Reply → Option ℕ
number (new f t) = Some f
number (known f t m) = Some f
number (unknown t) = None
number (spent t) = None
number no_stations = None
number too_many = None
number (leg_to_itself u) = None
number legend_full = None
number atlas_full = None

-- the answer says that the network was not met before
abbrev pub SaysNew : Reply → Type 0
SaysNew (new f t) = Unit {0}
SaysNew (known f t m) = ⊥
SaysNew (unknown t) = Unit {0}
SaysNew (spent t) = ⊥
SaysNew no_stations = ⊥
SaysNew too_many = ⊥
SaysNew (leg_to_itself u) = ⊥
SaysNew legend_full = ⊥
SaysNew atlas_full = ⊥

-- the answer is neither a refusal nor spent
abbrev pub Settled : Reply → Type 0
Settled (new f t) = Unit {0}
Settled (known f t m) = Unit {0}
Settled (unknown t) = Unit {0}
Settled (spent t) = ⊥
Settled no_stations = ⊥
Settled too_many = ⊥
Settled (leg_to_itself u) = ⊥
Settled legend_full = ⊥
Settled atlas_full = ⊥

-- 1 for an answer of a new number
abbrev pub newly : Reply → ℕ
newly (new f t) = 1
newly (known f t m) = 0
newly (unknown t) = 0
newly (spent t) = 0
newly no_stations = 0
newly too_many = 0
newly (leg_to_itself u) = 0
newly legend_full = 0
newly atlas_full = 0

module _ {L : Type 0} (sense : L → List ℤ) where
  -- how many calls of a history were answered with a new number
  abbrev pub news : List (Past sense) → ℕ
  news [] = 0
  news (p ∷ ps) = newly p.reply + news ps

  -- no network numbered in these calls has a map to the network of q
  abbrev pub Unmet : List (Past sense) → Past sense → Type 0
  Unmet xs q =
      (ws bs : List (Past sense)) (p : Past sense) (f : ℕ) →
      xs ≡ ws ++ p ∷ bs → number p.reply ≡ Some f →
      Mapped sense p.call.net q.call.net → ⊥

  -- the call q with another allowance
  abbrev pub allowing : Past sense → ℕ → Call L
  allowing q more = record { ask = q.call.ask; net = q.call.net; allowance = more }

  -- what holds of every list of calls put to the atlas s, and their answers: h is the history
  pub record Lawful (s : Held L) (h : List (Past sense)) : Type 0 where
    -- each call is answered as defined, from what the calls before it left
    pub as_defined :
        (xs zs : List (Past sense)) (q : Past sense) → h ≡ xs ++ q ∷ zs →
        (q.before ≡ left_by sense s (map (λ p. p.call) xs)) × (q.reply ≡ (answered sense q.before q.call).reply)
    -- two numbered networks have one number exactly when a map joins them
    pub one_number :
        (xs ys zs : List (Past sense)) (p q : Past sense) (f k : ℕ) →
        h ≡ xs ++ p ∷ ys ++ q ∷ zs → number p.reply ≡ Some f → number q.reply ≡ Some k →
        (f ≡ k → Mapped sense p.call.net q.call.net) × (Mapped sense p.call.net q.call.net → f ≡ k)
    -- a settled call says new or unknown exactly when no network numbered before has a map to its network
    pub new_to_all :
        (xs zs : List (Past sense)) (q : Past sense) → h ≡ xs ++ q ∷ zs → Settled q.reply →
        (SaysNew q.reply → Unmet xs q) × (Unmet xs q → SaysNew q.reply)
    -- a known answer has an earlier call that was new under its number, and shows a map from that very network
    pub known_rooted :
        (xs zs : List (Past sense)) (q : Past sense) (f t : ℕ) (m : List ℕ) → h ≡ xs ++ q ∷ zs → q.reply ≡ known f t m →
        (ws bs : List (Past sense)) × (p : Past sense) × (v : ℕ) × (xs ≡ ws ++ p ∷ bs) × (p.reply ≡ new f v)
        × Map sense p.call.net q.call.net (λ u. slice_index m u)
    -- numbers are given in order, 1, 2, and on, so no two calls are new under one number
    pub in_order :
        (xs zs : List (Past sense)) (q : Past sense) (f t : ℕ) → h ≡ xs ++ q ∷ zs → q.reply ≡ new f t → f ≡ suc (news xs)
    -- put to the same atlas with a larger allowance, a settled call is answered the same and leaves the same
    pub larger :
        (xs zs : List (Past sense)) (q : Past sense) (more : ℕ) → h ≡ xs ++ q ∷ zs → Settled q.reply → q.call.allowance ≤ more →
        answered sense q.before (allowing q more) ≡ answered sense q.before q.call

  -- the law: any list of calls, put to a newly opened atlas, has a lawful history
  abbrev pub SeasonLaw : Type 0
  SeasonLaw =
      (blocks places : ℕ) (calls : List (Call L)) → places ≤ 250 →
      Lawful (opened blocks places) (history sense (opened blocks places) calls)
