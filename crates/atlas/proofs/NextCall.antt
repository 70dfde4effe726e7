-- However the next call is answered, it is lawful, and what holds of the atlas holds after it.
use Rattle.std.proofs.Common.{◌≡◌, ℕ, suc, ◌+◌, ◌≤◌, ◌⊎◌, List, [], ◌∷◌, ◌++◌, length, get_or, ℤ, Some, None, Option, sym, refl, ap, ◌∙◌, subst, inl, inr, arith}
use Rattle.std.proofs.lemmas.List.{length_push}
use Rattle.atlas.proofs.CallCases.{answered_case}
use Rattle.atlas.proofs.Codings.{Codes}
use Rattle.atlas.proofs.Invariant.{none_some, unnumbered_old, news_push, Numbered, WasNew, Holds, NewTo, Next}
use Rattle.atlas.proofs.Mapping.{turned, after, itself}
use Rattle.atlas.proofs.Membership.{In, in_middle, in_left, in_each}
use Rattle.atlas.proofs.Positions.{Placed, placed_low, placed_one, placed_left, placed_last, placed_push}
use Rattle.atlas.proofs.Searching.{kept_length, kept_grown, kept_push, Shown, Missed}
use Rattle.atlas.proofs.Senses.{Grown}
use Rattle.atlas.specs.Calls.{Call, Held, Reply, Past, unchanged, with_form, answered}
use Rattle.atlas.specs.Calls.Reply.{new, known, unknown}
use Rattle.atlas.specs.Law.{number, Settled, newly}
use Rattle.atlas.specs.Legends.{coded_by}
use Rattle.survey.specs.Maps.{Map, Mapped}
use Rattle.survey.specs.Networks.{Net}

same_some : {A : Type 0} (a b : A) (o : Option A) → o ≡ Some a → o ≡ Some b → a ≡ b
same_some a b o p q = cc

module _ {L : Type 0} (sense : L → List ℤ) where
  module _ (s : Held L) (c : Call L) (ps : List (Past sense)) (nets : List (Net L)) (w : Holds sense s ps nets) where
    -- the call, answered by r
    abbrev now : Reply → Past sense
    now r = record { before = s; call = c; reply = r }

    -- where an earlier numbered network has a map to n, so has the one that was new under its number
    back_to :
        (p : Past sense) (f : ℕ) (n : Net L) → In p ps → number p.reply ≡ Some f →
        Mapped sense p.call.net n → Numbered sense nets f n
    back_to p f n i e r = let b = w.numbered p f i e in (b.0, b.1, after sense b.0 p.call.net n b.2 r)

    -- where no network that was new has a map, no numbered one has
    missed_new : Missed sense 1 nets c.net → NewTo sense ps c.net
    missed_new m p f i e r = let b = back_to p f c.net i e r in m f b.0 b.1 b.2

    -- after an answer that is not new, the networks are the same
    stays :
        (r : Reply) → ((f : ℕ) → number r ≡ Some f → Numbered sense nets f c.net) → newly r ≡ 0 →
        Holds sense s (ps ++ now r ∷ []) nets
    stays r h z = record {
      few = w.few;
      fits = w.fits;
      kept = w.kept;
      apart = w.apart;
      numbered =
          λ p f i e.
          in_each (λ p. (f : ℕ) → number p.reply ≡ Some f → Numbered sense nets f p.call.net) (now r) ps
          (λ p i f e. w.numbered p f i e) h p i f e;
      made = λ f n p. let m = w.made f n p in (m.0, m.1, in_left m.0 (now r) ps m.2, m.3, m.4);
      counted = omega (arith, news_push sense ps (now r), z, w.counted);
    }

    -- so after an answer without a number
    unnumbered : (r : Reply) → number r ≡ None → Holds sense s (ps ++ now r ∷ []) nets
    unnumbered r e = stays r (λ f k. absurd (none_some f (number r) e k)) (unnumbered_old r e)

    -- refused or spent
    next_refused : (r : Reply) → number r ≡ None → (Settled r → ⊥) → Next sense s c ps (unchanged sense s r)
    next_refused r e h = (
      nets,
      unnumbered r e,
      record {
        one_number = λ p f k i a b. absurd (none_some k (number r) e b);
        says_new = λ z. absurd (h z);
        new_said = λ z. absurd (h z);
        rooted = λ f t m k. absurd (none_some f (number r) e (ap number k));
        in_order = λ f t k. absurd (none_some f (number r) e (ap number k));
      },
    )

    -- unknown
    next_missed : (t : ℕ) → Missed sense 1 nets c.net → Next sense s c ps (unchanged sense s (unknown t))
    next_missed t m = (
      nets,
      unnumbered (unknown t) refl,
      record {
        one_number = λ p f k i a b. absurd (none_some k None refl b);
        says_new = λ z y. missed_new m;
        new_said = λ z y. tt;
        rooted = λ f v x k. absurd (none_some f None refl (ap number k));
        in_order = λ f v k. absurd (none_some f None refl (ap number k));
      },
    )

    -- known
    next_knew :
        (f t : ℕ) (m : List ℕ) → Shown sense 1 nets c.net f m → Next sense s c ps (unchanged sense s (known f t m))
    next_knew f t m sh = (
      nets,
      stays (known f t m) (λ k e. numbers k (same_some f k (Some f) refl e)) refl,
      record {
        one_number =
            λ p k j i a b.
            let z : f ≡ j = same_some f j (Some f) refl b in
            (λ e. joins p k i a (e ∙ sym z), λ r. tells_one p k i a r ∙ z);
        says_new = λ z y. absurd y;
        new_said =
            λ z y.
            y root.0 f root.2 (ap number root.3)
            (subst (λ (n : Net L). Mapped sense n c.net) (sym root.4) map_x);
        rooted = rooted;
        in_order = λ k v e. absurd (omega (arith, ap newly e));
      },
    )
      where
        -- the network that was new under this number
        x : Net L
        x = sh.0

        map_x : Mapped sense x c.net
        map_x = ((λ u. get_or m u 0), sh.2)

        root : WasNew sense ps f x
        root = w.made f x sh.1

        numbers : (k : ℕ) → f ≡ k → Numbered sense nets k c.net
        numbers k e = (x, subst (λ (j : ℕ). Placed 1 nets j x) e sh.1, map_x)

        joins :
            (p : Past sense) (k : ℕ) → In p ps → number p.reply ≡ Some k → k ≡ f →
            Mapped sense p.call.net c.net
        joins p k i a e =
            let b = w.numbered p k i a in
            let at_f = subst (λ (j : ℕ). Placed 1 nets j b.0) e b.1 in
            let same : b.0 ≡ x = placed_one 1 nets f b.0 x at_f sh.1 in
            let back = turned sense b.0 p.call.net b.2 in
            after sense p.call.net x c.net
            (subst (λ (n : Net L). Mapped sense p.call.net n) same back) map_x

        tells_one :
            (p : Past sense) (k : ℕ) → In p ps → number p.reply ≡ Some k →
            Mapped sense p.call.net c.net → k ≡ f
        tells_one p k i a r =
            let b = back_to p k c.net i a r in
            w.apart k f b.0 x b.1 sh.1
            (after sense b.0 c.net x b.2 (turned sense x c.net map_x))

        rooted :
            (k v : ℕ) (y : List ℕ) → known f t m ≡ known k v y →
            (p : Past sense) × (v : ℕ) × In p ps × (p.reply ≡ new k v)
            × Map sense p.call.net c.net (λ u. get_or y u 0)
        rooted k v y e =
            let ek : f ≡ k = cc in
            let ey : m ≡ y = cc in
            let from-root = subst (λ (n : Net L). Map sense n c.net (λ u. get_or m u 0)) (sym root.4) sh.2 in (
              root.0,
              root.1,
              root.2,
              root.3 ∙ ap (λ j. new j root.1) ek,
              subst (λ (z : List ℕ). Map sense root.0.call.net c.net (λ u. get_or z u 0)) ey from-root,
            )

    -- new: the network joins the others
    next_entered :
        (t : ℕ) (ls : List L) → Missed sense 1 nets c.net → Grown sense s.legend ls → length ls ≤ s.places →
        Codes sense ls c.net (coded_by sense ls c.net) →
        Next sense s c ps (record { reply = new (suc (length s.forms)) t; held = with_form sense s c.net ls })
    next_entered t ls m g l cn = (
      nets ++ c.net ∷ [],
      record {
        few = w.few;
        fits = l;
        kept =
            kept_push sense ls nets s.forms c.net (coded_by sense ls c.net)
            (kept_grown sense s.legend ls nets s.forms g w.kept) cn;
        apart =
            λ f k x y p r e.
            apart f k x y (placed_push 1 nets c.net f x p) (placed_push 1 nets c.net k y r) e;
        numbered =
            λ p f i e.
            in_each
            (λ p. (f : ℕ) → number p.reply ≡ Some f → Numbered sense (nets ++ c.net ∷ []) f p.call.net) q ps
            (λ p i f e. let b = w.numbered p f i e in (b.0, placed_left 1 nets c.net f b.0 b.1, b.2))
            (λ f e. (c.net, placed_last 1 nets c.net f (sym (now_is f e) ∙ last), itself sense c.net))
            p i f e;
        made = λ f n p. made f n (placed_push 1 nets c.net f n p);
        counted = omega (arith, news_push sense ps q, length_push nets c.net, w.counted);
      },
      record {
        one_number =
            λ p f k i a b.
            let j = now_is k b in
            let x = w.numbered p f i a in (
              λ e. absurd (omega (arith, e, j, last, placed_low 1 nets f x.0 x.1)),
              λ r. absurd (missed_new m p f i a r),
            );
        says_new = λ z y. missed_new m;
        new_said = λ z y. tt;
        rooted = λ f v y e. absurd (omega (arith, ap newly e));
        in_order = λ f v e. sym (now_is f (ap number e)) ∙ last ∙ omega (arith, w.counted);
      },
    )
      where
        number_now : ℕ
        number_now = suc (length s.forms)

        q : Past sense
        q = now (new number_now t)

        now_is : (f : ℕ) → number q.reply ≡ Some f → number_now ≡ f
        now_is f e = same_some number_now f (Some number_now) refl e

        last : number_now ≡ 1 + length nets
        last = omega (arith, kept_length sense s.legend nets s.forms w.kept)

        apart :
            (f k : ℕ) (x y : Net L) → Placed 1 nets f x ⊎ ((f ≡ 1 + length nets) × (c.net ≡ x)) →
            Placed 1 nets k y ⊎ ((k ≡ 1 + length nets) × (c.net ≡ y)) → Mapped sense x y → f ≡ k
        apart f k x y (inl p) (inl r) e = w.apart f k x y p r e
        apart f k x y (inl p) (inr r) e =
            absurd (m f x p (subst (λ (n : Net L). Mapped sense x n) (sym r.1) e))
        apart f k x y (inr p) (inl r) e =
            absurd (m k y r (subst (λ (n : Net L). Mapped sense y n) (sym p.1) (turned sense x y e)))
        apart f k x y (inr p) (inr r) e = p.0 ∙ sym r.0

        made :
            (f : ℕ) (n : Net L) → Placed 1 nets f n ⊎ ((f ≡ 1 + length nets) × (c.net ≡ n)) →
            WasNew sense (ps ++ q ∷ []) f n
        made f n (inl p) = let r = w.made f n p in (r.0, r.1, in_left r.0 q ps r.2, r.3, r.4)
        made f n (inr e) = (q, t, in_middle q ps [], ap (λ j. new j t) (last ∙ sym e.0), e.1)

  -- whatever the call
  pub next :
      (s : Held L) (c : Call L) (ps : List (Past sense)) (nets : List (Net L)) → Holds sense s ps nets →
      Next sense s c ps (answered sense s c)
  next s c ps nets w =
      answered_case sense s c nets w.kept (omega (arith, w.few, w.fits)) (Next sense s c ps)
      (next_refused s c ps nets w) (next_knew s c ps nets w) (next_missed s c ps nets w) (next_entered s c ps nets w)
