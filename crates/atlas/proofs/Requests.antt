-- Requests put one after another: each is fulfilled, and the lent memory holds what they left.
use Rattle.std.proofs.Common.{◌≡◌, ℕ, suc, ◌+◌, ◌-◌, ◌*◌, ◌<◌, ◌≤◌, false, ◌&&◌, ltb, leb, ◌⊎◌, List, [], ◌∷◌, ◌++◌, map, length, get_or, drop, ℤ, Some, Result, sym, refl, ap, ◌∙◌, subst, inl, inr, arith, length-append, length-drop}
use Rattle.std.proofs.lemmas.List.{append_assoc, ext_get_or, get_or-drop, get_or_append_left}
use Rattle.std.proofs.lemmas.Bool.{cases_lt}
use Rattle.std.proofs.lemmas.Bool.Decides.{nat_tests}
use Rattle.search.specs.Coded.{Coded}
use Rattle.atlas.proofs.AnswerCases.{answer_case}
use Rattle.atlas.proofs.Joining.{behind_more}
use Rattle.atlas.proofs.KeptBlocks.{block_other}
use Rattle.atlas.specs.Answering.{told, Placed, WrittenFor, put_to}
use Rattle.atlas.specs.Blocks.{block_coded, no_form, Kept}
use Rattle.atlas.specs.Calls.{Call, Held, Reply, After, with_form, history, left_by}
use Rattle.atlas.specs.Calls.Ask.{finds}
use Rattle.atlas.specs.Calls.Reply.{new}
use Rattle.atlas.specs.Legends.{coded_by}
use Rattle.atlas.specs.FirstLegs.{Behind}
use Rattle.atlas.specs.Seasons.{call_of, Fulfilled, AllFulfilled}
use Rattle.atlas.specs.declared.answer.Answer.{Answer}
use Rattle.atlas.specs.declared.request.Request.{Request}
use Rattle.survey.specs.Networks.{Net}
use Rattle.survey.specs.declared.refusal.Refusal.{Refusal}
use Rattle.survey.specs.declared.pairing.Pairing.{Pairing}

-- a request whose place and answer were filled in
pub fulfil :
    {N : Type 0} (q r : Request N) (a : Result Answer Refusal) (p : Pairing) (reply : Reply) →
    r ≡ record { ask = q.ask; network = q.network; allowance = q.allowance; place = p; answer = q.answer } →
    a ≡ told reply → Placed reply q.place p →
    Fulfilled reply q (record { ask = r.ask; network = r.network; allowance = r.allowance; place = r.place; answer = Some a })
fulfil {N} q r a p reply e t h = record {
  answer =
      ap {B = Request N} (λ (x : Request N). record { ask = x.ask; network = x.network; allowance = x.allowance; place = x.place; answer = Some a }) e
      ∙ ap {B = Request N} (λ (b : Result Answer Refusal). record { ask = q.ask; network = q.network; allowance = q.allowance; place = p; answer = Some b }) t
      ∙ ap {B = Request N} (λ (x : Request N). record { ask = q.ask; network = q.network; allowance = q.allowance; place = x.place; answer = Some (told reply) }) (sym e);
  place = subst (λ (x : Request N). Placed reply q.place x.place) (sym e) h;
}

-- what a call that only looks for a network leaves
pub find_still :
    {L : Type 0} (sense : L → List ℤ) (s : Held L) (c : Call L) → c.ask ≡ finds →
    ((put_to sense s c).held ≡ s)
    × ((bytes : List ℕ) (places : List L) → WrittenFor (put_to sense s c).reply (put_to sense s c).held bytes bytes places places)
unfolding put_to
find_still {L} sense s c f =
    answer_case sense s c
    (λ (a : After sense). (a.held ≡ s) × ((bytes : List ℕ) (places : List L) → WrittenFor a.reply a.held bytes bytes places places))
    (λ reply q. (refl, q.same))
    (λ t ls e g. let z : ◌≡◌ {A = ℕ} 0 1 = cc in absurd (omega arith))

-- what lies behind stays behind
pub behind_trans : {A : Type 0} (n : ℕ) (xs ys zs : List A) → Behind n xs ys → Behind n ys zs → Behind n xs zs
behind_trans n xs ys zs a b = (b.0 ∙ a.0, b.1 ∙ a.1)

-- nothing changed behind a block that was written
written_behind :
    (old after : List ℕ) (k : ℕ) → Kept (4161 * k) 4161 old after → length after ≡ length old → Behind (4161 * (k + 1)) old after
written_behind old after k kept same =
    (same, ext_get_or 0 (drop n after) (drop n old) (length-drop n after ∙ ap (λ (m : ℕ). m - n) same ∙ sym (length-drop n old)) (λ i l. get_or-drop n after i 0 ∙ kept (n + i) (outside i) ∙ sym (get_or-drop n old i 0)))
  where
    n : ℕ
    n = 4161 * (k + 1)

    outside : (i : ℕ) → (leb (4161 * k) (n + i) && ltb (n + i) (4161 * k + 4161)) ≡ false
    outside i = grind (arith, nat_tests)

-- the lent memory so far: the forms in the first blocks, and nothing changed behind forms and labels
pub record KeptSo {L : Type 0} (s : Held L) (bytes bytes' : List ℕ) (places places' : List L) : Type 0 where
  pub forms : (k : ℕ) → k < length s.forms → block_coded bytes' k ≡ get_or s.forms k no_form
  pub free : Behind (4161 * length s.forms) bytes bytes'
  pub unused : Behind (length s.legend) places places'

module _ {L : Type 0} (sense : L → List ℤ) (s : Held L) (b₀ b b' : List ℕ) (p₀ p p' : List L) (so : KeptSo s b₀ b p₀ p) where
  -- one form more
  entered :
      (n : Net L) (t : ℕ) (ls : List L) → length s.legend ≤ length ls →
      WrittenFor (new (suc (length s.forms)) t) (with_form sense s n ls) b b' p p' → KeptSo (with_form sense s n ls) b₀ b' p₀ p'
  entered n t ls longer w = record {
    forms = λ k l. at k l (cases_lt k (length s.forms));
    free =
        behind_trans (4161 * length (s.forms ++ g ∷ [])) b₀ b b'
        (behind_more (4161 * length s.forms) (4161 * length (s.forms ++ g ∷ [])) b₀ b (omega (arith, size)) so.free)
        (subst (λ (m : ℕ). Behind m b b') {x = 4161 * (length s.forms + 1)} {y = 4161 * length (s.forms ++ g ∷ [])} (omega (arith, size)) (written_behind b b' (length s.forms) kept w.0));
    unused = behind_trans (length ls) p₀ p p' (behind_more (length s.legend) (length ls) p₀ p longer so.unused) w.3;
  }
    where
      g : Coded
      g = coded_by sense ls n

      size : length (s.forms ++ g ∷ []) ≡ length s.forms + 1
      size = length-append s.forms (g ∷ [])

      kept : Kept (4161 * length s.forms) 4161 b b'
      kept = subst (λ (m : ℕ). Kept (4161 * m) 4161 b b') {x = suc (length s.forms) - 1} {y = length s.forms} (omega arith) w.2

      at :
          (k : ℕ) → k < length (s.forms ++ g ∷ []) → (k < length s.forms) ⊎ (length s.forms ≤ k) →
          block_coded b' k ≡ get_or (s.forms ++ g ∷ []) k no_form
      at k l (inl m) =
          block_other b b' (length s.forms) k (λ e. omega arith) kept
          ∙ so.forms k m
          ∙ sym (get_or_append_left s.forms (g ∷ []) no_form k m)
      at k l (inr m) =
          ap (block_coded b') {x = k} {y = suc (length s.forms) - 1} (omega (arith, size))
          ∙ w.1
          ∙ ap (λ (j : ℕ). get_or (s.forms ++ g ∷ []) j no_form) {x = suc (length s.forms) - 1} {y = k} (omega (arith, size))

  -- whatever the call
  pub kept_on :
      (c : Call L) → WrittenFor (put_to sense s c).reply (put_to sense s c).held b b' p p' → KeptSo (put_to sense s c).held b₀ b' p₀ p'
  unfolding put_to
  kept_on c =
      answer_case sense s c (λ (a : After sense). WrittenFor a.reply a.held b b' p p' → KeptSo a.held b₀ b' p₀ p')
      (λ reply q w. let o = q.only b b' p p' w in subst (λ (x : List ℕ). KeptSo s b₀ x p₀ p') (sym o.0) (subst (λ (x : List L). KeptSo s b₀ b p₀ x) (sym o.1) so))
      (λ t ls e g w. entered c.net t ls g.longer w)

-- what a call makes of the requests: the history of the calls that are left, with whose replies they are fulfilled
module _ {L N : Type 0} (sense : L → List ℤ) (means : N → Net L) where
  -- the requests so far were fulfilled: with those that are left, all will be
  abbrev pub Leaves : Held L → List (Request N) → Held L → List (Request N) → List (Request N) → Type 0
  Leaves s₀ before s left done =
      (rest : List (Request N)) → AllFulfilled sense (history sense s (map (call_of means) left)) left rest →
      AllFulfilled sense (history sense s₀ (map (call_of means) before)) before (done ++ rest)

  -- one request more
  pub leaves_on :
      (s₀ s s' : Held L) (before left left' done done' : List (Request N)) (q r : Request N) →
      Leaves s₀ before s left done → left ≡ q ∷ left' → done' ≡ done ++ r ∷ [] →
      Fulfilled (put_to sense s (call_of means q)).reply q r → s' ≡ (put_to sense s (call_of means q)).held →
      Leaves s₀ before s' left' done'
  unfolding put_to
  leaves_on s₀ s s' before left left' done done' q r h e d f k rest all =
      subst (λ (x : List (Request N)). AllFulfilled sense (history sense s₀ (map (call_of means) before)) before x) (sym (append_assoc done (r ∷ []) rest) ∙ ap (λ (x : List (Request N)). x ++ rest) (sym d))
      (h (r ∷ rest) (subst (λ (x : List (Request N)). AllFulfilled sense (history sense s (map (call_of means) x)) x (r ∷ rest)) (sym e) (f, subst (λ (t : Held L). AllFulfilled sense (history sense t (map (call_of means) left')) left' rest) k all)))

  -- and what is left gives what all leave
  pub left_on :
      (s s' t : Held L) (left left' : List (Request N)) (q : Request N) →
      left_by sense s (map (call_of means) left) ≡ t → left ≡ q ∷ left' → s' ≡ (put_to sense s (call_of means q)).held →
      left_by sense s' (map (call_of means) left') ≡ t
  unfolding put_to
  left_on s s' t left left' q h e k =
      ap (λ (x : Held L). left_by sense x (map (call_of means) left')) k
      ∙ ap (λ (x : List (Request N)). left_by sense s (map (call_of means) x)) (sym e)
      ∙ h

-- the memory of an atlas just opened
pub kept_first : {L : Type 0} (s : Held L) (bytes : List ℕ) (places : List L) → length s.forms ≡ 0 → KeptSo s bytes bytes places places
kept_first s bytes places e = record { forms = λ k l. absurd (omega arith); free = (refl, refl); unused = (refl, refl) }
