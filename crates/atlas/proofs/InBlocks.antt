-- The coded network in a block of bytes, read from it and written into it.
use Rattle.std.proofs.Common.{◌≡◌, ℕ, ◌+◌, ◌-◌, ◌*◌, ◌/◌, ◌<◌, ◌≤◌, Bool, true, false, cond, ◌&&◌, ltb, leb, ◌⊎◌, List, ◌++◌, length, get_or, set, take, drop, refl, sym, ap, ◌∙◌, ap₂, inl, inr, arith, length-drop, length-take, get_or-take, le-ltb, lt-ltb}
use Rattle.std.proofs.lemmas.List.{get_or-append_right, get_or-drop, get_or-set_same, get_or-set_other, get_or_past, take_at}
use Rattle.std.proofs.lemmas.Slice.{take-put_mid_below, drop-put_mid}
use borrow.Rule.Slice.PartMut.{put_mid, post_of}
use Rattle.std.proofs.lemmas.Bool.{cases_lt}
use Rattle.std.proofs.lemmas.Bool.Decides.{nat_tests}
use Rattle.atlas.specs.Blocks.{block_coded, trimmed, code_in_order, Kept}
use Rattle.search.specs.Arrays.{in_arrays}
use Rattle.search.specs.Coded.{Coded}
use Rattle.search.specs.Meanings.{coded}
use Rattle.search.specs.declared.coded.CodedNetwork.{CodedNetwork}

-- a network of the code has at most 64 stations
pub few_stations : (n : CodedNetwork) → (coded n).count ≤ 64
unfolding coded
few_stations n = n.small

-- a test of two parts by its parts
both : (a b : Bool) {x y : Bool} (f : Bool → ℕ) → x ≡ a → y ≡ b → f (x && y) ≡ f (a && b)
both a b f p q = ap₂ (λ (s t : Bool). f (s && t)) p q

-- the n places from `at` on hold the values of f, and every other place what it held
abbrev pub Written : ℕ → ℕ → (ℕ → ℕ) → List ℕ → List ℕ → Type 0
Written at n f before after =
    (i : ℕ) → get_or after i 0 ≡ cond (leb at i && ltb i (at + n)) (f (i - at)) (get_or before i 0)

module _ (at n : ℕ) (f : ℕ → ℕ) (before : List ℕ) where
  -- a part whose places hold the values of f is put into its place
  pub part_written :
      (k : ℕ) (part : List ℕ) → k ≡ n → at + n ≤ length before → length part ≡ length (take k (drop at before)) → ((i : ℕ) → i < length (take k (drop at before)) → get_or part i 0 ≡ f i) → Written at n f before (put_mid at k before part)
  part_written k part same room as_long each i = go (cases_lt i at) (cases_lt i (at + n))
    where
      wide : length (take k (drop at before)) ≡ k
      wide = omega (arith, length-take k (drop at before), length-drop at before)

      long : length part ≡ k
      long = as_long ∙ wide

      all : List ℕ
      all = put_mid at k before part

      low : i < at → (a b : ℕ) → b ≡ cond (leb at i && ltb i (at + n)) a b
      low l a b = grind (arith, nat_tests)

      mid : at ≤ i → i < at + n → (a b : ℕ) → a ≡ cond (leb at i && ltb i (at + n)) a b
      mid l m a b = grind (arith, nat_tests)

      high : at + n ≤ i → (a b : ℕ) → b ≡ cond (leb at i && ltb i (at + n)) a b
      high l a b = grind (arith, nat_tests)

      go : (i < at) ⊎ (at ≤ i) → (i < at + n) ⊎ (at + n ≤ i) → get_or all i 0 ≡ cond (leb at i && ltb i (at + n)) (f (i - at)) (get_or before i 0)
      go (inl l) m =
          sym (get_or-take at all i 0 l)
          ∙ ap (λ (xs : List ℕ). get_or xs i 0) (take-put_mid_below at k before part at (omega arith) (omega arith))
          ∙ get_or-take at before i 0 l
          ∙ low l (f (i - at)) (get_or before i 0)
      go (inr l) (inl m) =
          get_or-append_right (take at before) (part ++ post_of at k before) at i 0 (length-take at before ∙ omega arith) l
          ∙ sym (get_or-take k (part ++ post_of at k before) (i - at) 0 (omega arith))
          ∙ ap (λ (xs : List ℕ). get_or xs (i - at) 0) (take_at part (post_of at k before) k long)
          ∙ each (i - at) (omega (arith, wide))
          ∙ mid l m (f (i - at)) (get_or before i 0)
      go (inr l) (inr m) =
          ap (λ (j : ℕ). get_or all j 0) {x = i} {y = at + k + (i - (at + k))} (omega arith)
          ∙ sym (get_or-drop (at + k) all (i - (at + k)) 0)
          ∙ ap (λ (xs : List ℕ). get_or xs (i - (at + k)) 0) (drop-put_mid at k before part (at + k) (omega arith) (omega arith) long)
          ∙ get_or-drop (at + k) before (i - (at + k)) 0
          ∙ ap (λ (j : ℕ). get_or before j 0) {x = at + k + (i - (at + k))} {y = i} (omega arith)
          ∙ high m (f (i - at)) (get_or before i 0)

  module _ (after : List ℕ) (w : Written at n f before after) where
    -- what was written stands there
    pub written_at : (j i : ℕ) → j < n → i ≡ at + j → get_or after i 0 ≡ f j
    written_at j i l e = w i ∙ go (f (i - at)) (get_or before i 0) ∙ ap f {x = i - at} {y = j} (omega arith)
      where
        go : (a b : ℕ) → cond (leb at i && ltb i (at + n)) a b ≡ a
        go a b = grind (arith, nat_tests)

    -- elsewhere nothing changed
    pub written_else : (i : ℕ) → (at ≤ i → at + n ≤ i) → get_or after i 0 ≡ get_or before i 0
    written_else i l = w i ∙ go (f (i - at)) (get_or before i 0)
      where
        go : (a b : ℕ) → cond (leb at i && ltb i (at + n)) a b ≡ b
        go a b = grind (arith, nat_tests)

-- the kinds and codes read from a block are those of its network
module _ (bytes kinds codes : List ℕ) (k n : ℕ) (room : 4161 * k + 4161 ≤ length bytes) (k64 : length kinds ≡ 64) (ks : (u : ℕ) → u < 64 → get_or kinds u 0 ≡ get_or bytes (4161 * k + 1 + u) 0) (n4096 : n ≡ 4096) (cs : codes ≡ take n (drop (4161 * k + 65) bytes)) where
  read_kind : (u : ℕ) → get_or kinds u 0 ≡ (block_coded bytes k).kind u
  read_kind u = go (cases_lt u 64)
    where
      go : (u < 64) ⊎ (64 ≤ u) → get_or kinds u 0 ≡ cond (ltb u 64) (get_or bytes (4161 * k + 1 + u) 0) 0
      go (inl l) = ks u l ∙ sym (ap (λ (b : Bool). cond b (get_or bytes (4161 * k + 1 + u) 0) 0) (lt-ltb u 64 l))
      go (inr l) =
          get_or_past kinds u 0 (omega arith)
          ∙ sym (ap (λ (b : Bool). cond b (get_or bytes (4161 * k + 1 + u) 0) 0) (le-ltb u 64 l))

  -- the code at a place, and past the last
  code_at : (i : ℕ) → i < 4096 → get_or codes i 0 ≡ get_or bytes (4161 * k + 65 + i) 0
  code_at i l =
      ap (λ (xs : List ℕ). get_or xs i 0) cs
      ∙ get_or-take n (drop (4161 * k + 65) bytes) i 0 (omega arith)
      ∙ get_or-drop (4161 * k + 65) bytes i 0

  code_past : (i : ℕ) → 4096 ≤ i → get_or codes i 0 ≡ 0
  code_past i l =
      get_or_past codes i 0 (omega (arith, ap length cs, length-take n (drop (4161 * k + 65) bytes)))

  read_code : (u v : ℕ) → cond (ltb v 64) (get_or codes (64 * u + v) 0) 0 ≡ (block_coded bytes k).code u v
  read_code u v = go (cases_lt u 64) (cases_lt v 64)
    where
      by : (a b : Bool) (x y : ℕ) → ltb u 64 ≡ a → ltb v 64 ≡ b → cond b x 0 ≡ cond (a && b) y 0 → cond (ltb v 64) x 0 ≡ cond (ltb u 64 && ltb v 64) y 0
      by a b x y p q e =
          ap (λ (t : Bool). cond t x 0) q ∙ e ∙ sym (both a b (λ (t : Bool). cond t y 0) p q)

      go : (u < 64) ⊎ (64 ≤ u) → (v < 64) ⊎ (64 ≤ v) → cond (ltb v 64) (get_or codes (64 * u + v) 0) 0 ≡ (block_coded bytes k).code u v
      go (inl l) (inl m) =
          by true true _ _ (lt-ltb u 64 l) (lt-ltb v 64 m)
          (code_at (64 * u + v) (omega arith)
          ∙ ap (λ (j : ℕ). get_or bytes j 0) {x = 4161 * k + 65 + (64 * u + v)} {y = 4161 * k + 65 + 64 * u + v} (omega arith))
      go (inl l) (inr m) = by true false _ _ (lt-ltb u 64 l) (le-ltb v 64 m) refl
      go (inr l) (inl m) = by false true _ _ (le-ltb u 64 l) (lt-ltb v 64 m) (code_past (64 * u + v) (omega arith))
      go (inr l) (inr m) = by false false _ _ (le-ltb u 64 l) (le-ltb v 64 m) refl

  pub block_read : (count : ℕ) → count ≡ get_or bytes (4161 * k) 0 → in_arrays count kinds codes ≡ block_coded bytes k
  block_read count e =
      λ i. record { count = e i; kind = λ u. read_kind u i; code = λ u v. read_code u v i }

-- after count, kinds and codes of a network were written into a block, it holds the network, and no other byte changed
module _ (g : Coded) (small : g.count ≤ 64) (k : ℕ) (old one two new : List ℕ) (room : 4161 * k + 4161 ≤ length old) (first : one ≡ set old (4161 * k) g.count) (ks : Written (4161 * k + 1) 64 (trimmed g).kind one two) (cs : Written (4161 * k + 65) 4096 (code_in_order (trimmed g)) two new) where
  -- a byte before the codes
  early : (i : ℕ) → i < 4161 * k + 65 → get_or new i 0 ≡ get_or two i 0
  early i l = written_else (4161 * k + 65) 4096 (code_in_order (trimmed g)) two new cs i (λ h. absurd (omega arith))

  count_put : get_or new (4161 * k) 0 ≡ g.count
  count_put =
      early (4161 * k) (omega arith)
      ∙ written_else (4161 * k + 1) 64 (trimmed g).kind one two ks (4161 * k) (λ h. absurd (omega arith))
      ∙ ap (λ (xs : List ℕ). get_or xs (4161 * k) 0) first
      ∙ get_or-set_same old (4161 * k) g.count 0 (omega arith)

  kind_put : (u : ℕ) → (block_coded new k).kind u ≡ (trimmed g).kind u
  kind_put u = go (cases_lt u 64)
    where
      past : 64 ≤ u → (a b : ℕ) → cond (ltb u 64) a 0 ≡ cond (ltb u g.count) b 0
      past l a b = grind (arith, nat_tests)

      go : (u < 64) ⊎ (64 ≤ u) → (block_coded new k).kind u ≡ (trimmed g).kind u
      go (inl l) =
          ap (λ (b : Bool). cond b (get_or new (4161 * k + 1 + u) 0) 0) (lt-ltb u 64 l)
          ∙ early (4161 * k + 1 + u) (omega arith)
          ∙ written_at (4161 * k + 1) 64 (trimmed g).kind one two ks u (4161 * k + 1 + u) l refl
      go (inr l) = past l (get_or new (4161 * k + 1 + u) 0) (g.kind u)

  code_put : (u v : ℕ) → (block_coded new k).code u v ≡ (trimmed g).code u v
  code_put u v = go (cases_lt u 64) (cases_lt v 64)
    where
      past_from : 64 ≤ u → (a b : ℕ) → cond (ltb u 64 && ltb v 64) a 0 ≡ cond (ltb u g.count && ltb v g.count) b 0
      past_from l a b = grind (arith, nat_tests)

      past_to : 64 ≤ v → (a b : ℕ) → cond (ltb u 64 && ltb v 64) a 0 ≡ cond (ltb u g.count && ltb v g.count) b 0
      past_to l a b = grind (arith, nat_tests)

      go : (u < 64) ⊎ (64 ≤ u) → (v < 64) ⊎ (64 ≤ v) → (block_coded new k).code u v ≡ (trimmed g).code u v
      go (inl l) (inl m) =
          both true true (λ (b : Bool). cond b (get_or new (4161 * k + 65 + 64 * u + v) 0) 0) (lt-ltb u 64 l) (lt-ltb v 64 m)
          ∙ written_at (4161 * k + 65) 4096 (code_in_order (trimmed g)) two new cs (64 * u + v) (4161 * k + 65 + 64 * u + v) (omega arith) (omega arith)
          ∙ ap₂ (trimmed g).code {x = (64 * u + v) / 64} {y = u} (omega arith) (omega arith)
      go (inl l) (inr m) = past_to m (get_or new (4161 * k + 65 + 64 * u + v) 0) (g.code u v)
      go (inr l) m = past_from l (get_or new (4161 * k + 65 + 64 * u + v) 0) (g.code u v)

  pub block_put : block_coded new k ≡ trimmed g
  block_put = λ i. record { count = count_put i; kind = λ u. kind_put u i; code = λ u v. code_put u v i }

  pub block_kept : Kept (4161 * k) 4161 old new
  block_kept i t =
      let out : 4161 * k ≤ i → 4161 * k + 4161 ≤ i = λ l. outside l in
      written_else (4161 * k + 65) 4096 (code_in_order (trimmed g)) two new cs i (λ h. let o = out (omega arith) in omega arith)
      ∙ written_else (4161 * k + 1) 64 (trimmed g).kind one two ks i (λ h. let o = out (omega arith) in omega arith)
      ∙ ap (λ (xs : List ℕ). get_or xs i 0) first
      ∙ get_or-set_other old (4161 * k) i g.count 0 (λ e. let o = out (omega arith) in omega arith)
    where
      outside : 4161 * k ≤ i → 4161 * k + 4161 ≤ i
      outside l = grind (arith, nat_tests)
