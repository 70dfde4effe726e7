-- The law on each call: the history with the call and its answer added is lawful.
use Rattle.std.proofs.Common.{◌≡◌, ℕ, List, [], ◌∷◌, ◌++◌, ℤ, Result, sym, refl, subst}
use Rattle.atlas.proofs.AfterCalls.{history_append}
use Rattle.atlas.proofs.AnyCalls.{season_law}
use Rattle.atlas.specs.Answering.{Says, KeepsLaw, LawfulAfter, WrittenFor, Carried, put_to}
use Rattle.atlas.specs.Calls.{Call, Held, Reply, After, answered, unchanged, opened, history}
use Rattle.atlas.specs.Holding.{held_of, bytes_of, places_of}
use Rattle.atlas.specs.Law.{Lawful}
use Rattle.atlas.specs.declared.Atlas.{Atlas}
use Rattle.atlas.specs.declared.answer.Answer.{Answer}
use Rattle.survey.specs.declared.pairing.Pairing.{Pairing}
use Rattle.survey.specs.declared.refusal.Refusal.{Refusal}

module _ {L : Type 0} (sense : L → List ℤ) where
  -- the call that is answered as defined keeps the law
  pub lawful_after : (s : Held L) (c : Call L) → LawfulAfter sense s c (put_to sense s c).reply
  unfolding put_to
  lawful_after s c blocks places calls small e =
      subst (λ (t : Held L). Lawful sense (opened blocks places) (history sense (opened blocks places) calls ++ record { before = t; call = c; reply = (answered sense t c).reply } ∷ [])) e
      (subst (Lawful sense (opened blocks places)) (history_append sense (opened blocks places) calls (c ∷ [])) (season_law sense blocks places (calls ++ c ∷ []) small))

-- a call that is answered by a, told as r
module _ {L : Type 0} {sense : L → List ℤ} {c : Call L} {a : After sense} {r : Result Answer Refusal} {before after : Pairing} where
  -- what was answered is what is defined, and keeps the law
  pub said_lawfully :
      {s : Held L} → answered sense s c ≡ a → Says a.reply r before after →
      record { answer : Says (put_to sense s c).reply r before after; law : KeepsLaw sense s c r before after }
  unfolding put_to
  said_lawfully {s} e h =
      let said = subst (λ (b : After sense). Says b.reply r before after) (sym e) h in
      record { answer = said; law = ((put_to sense s c).reply, said, lawful_after sense s c) }

  -- what was carried out is what is defined, and keeps the law
  pub done_lawfully :
      {atlas atlas' : Atlas L} → answered sense (held_of atlas) c ≡ a → Carried sense a r before after atlas atlas' →
      record { carried : Carried sense (put_to sense (held_of atlas) c) r before after atlas atlas'; law : KeepsLaw sense (held_of atlas) c r before after }
  unfolding put_to
  done_lawfully {atlas} {atlas'} e h =
      record {
        carried = subst (λ (b : After sense). Carried sense b r before after atlas atlas') (sym e) h;
        law = (said_lawfully {s = held_of atlas} e h.says).law;
      }

-- an answer that writes nothing
pub quiet :
    {L : Type 0} {sense : L → List ℤ} {atlas : Atlas L} {reply : Reply} {r : Result Answer Refusal} {before after : Pairing} → Says reply r before after →
    ((bytes : List ℕ) (places : List L) → WrittenFor reply (held_of atlas) bytes bytes places places) →
    Carried sense (unchanged sense (held_of atlas) reply) r before after atlas atlas
quiet {atlas = atlas} s w = record { says = s; held = refl; written = w (bytes_of atlas) (places_of atlas) }
