-- A season: requests put one after another to a newly opened atlas.
use Rattle.std.specs.Prelude.{◌≡◌, ℕ, ◌*◌, ◌<◌, List, [], ◌∷◌, map, length, take, ℤ, Some, slice_index_or}
use Rattle.atlas.specs.Answering.{told, Placed}
use Rattle.atlas.specs.Blocks.{block_coded, no_form}
use Rattle.atlas.specs.Calls.{Ask, Call, Held, Reply, Past}
use Rattle.atlas.specs.Calls.Ask.{enters, finds}
use Rattle.atlas.specs.Law.{Lawful}
use Rattle.atlas.specs.FirstLegs.{Behind}
use Rattle.atlas.specs.declared.request.Ask.{Ask as CodeAsk}
use Rattle.atlas.specs.declared.request.Ask.TheVariants.{Enter, Find}
use Rattle.atlas.specs.declared.request.Request.{Request}
use Rattle.survey.specs.Networks.{Net}

-- what is asked
abbrev pub ask_of : CodeAsk → Ask
ask_of Enter = enters
ask_of Find = finds

-- the call that a request makes, where `means` tells what its network means
abbrev pub call_of : {L N : Type 0} → (N → Net L) → Request N → Call L
call_of means q = record { ask = ask_of q.ask; net = means q.network; allowance = q.allowance }

-- a request after it was put: its answer and its place say the reply, and all else is as it was
pub record Fulfilled {N : Type 0} (reply : Reply) (before after : Request N) : Type 0 where
  pub answer :
      after
      ≡ record {
        ask = before.ask;
        network = before.network;
        allowance = before.allowance;
        place = after.place;
        answer = Some (told reply);
      }
  pub place : Placed reply before.place after.place

-- the lent memory over which an atlas holds s: its forms in the first blocks, its labels in the first places, and
-- behind them what lay there before
pub record Lies {L : Type 0} (s : Held L) (bytes bytes' : List ℕ) (places places' : List L) : Type 0 where
  pub forms : (k : ℕ) → k < length s.forms → block_coded bytes' k ≡ slice_index_or s.forms k no_form
  pub free : Behind (4161 * length s.forms) bytes bytes'
  pub labels : take (length s.legend) places' ≡ s.legend
  pub unused : Behind (length s.legend) places places'

module _ {L : Type 0} (sense : L → List ℤ) where
  -- each request was fulfilled with its reply in a history
  abbrev pub AllFulfilled : {N : Type 0} → List (Past sense) → List (Request N) → List (Request N) → Type 0
  AllFulfilled [] [] [] = Unit {0}
  AllFulfilled [] [] (r ∷ rs) = ⊥
  AllFulfilled [] (q ∷ qs) rs = ⊥
  AllFulfilled (p ∷ ps) [] rs = ⊥
  AllFulfilled (p ∷ ps) (q ∷ qs) [] = ⊥
  AllFulfilled (p ∷ ps) (q ∷ qs) (r ∷ rs) = Fulfilled p.reply q r × AllFulfilled ps qs rs

  -- requests put to an atlas that held s: a lawful history of their calls, with whose replies they were fulfilled
  pub record Lawfully {N : Type 0} (means : N → Net L) (s : Held L) (before after : List (Request N)) : Type 0 where
    pub past : List (Past sense)
    pub calls : map (λ p. p.call) past ≡ map (call_of means) before
    pub fulfilled : AllFulfilled past before after
    pub lawful : Lawful sense s past
