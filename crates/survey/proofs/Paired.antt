-- Every pairing is one-to-one and onto below its count, and images that are one-to-one make a pairing.
use Rattle.std.proofs.Common.{◌≡◌, ℕ, ◌<◌, ◌≤◌, List, length, get_or, sym, ap, ◌∙◌, arith, length-take, get_or-take}
use Rattle.survey.proofs.Pigeonhole.{Parts, Reached, onto_below}
use Rattle.survey.specs.Pairings.{size_of, image_of, images_of, Within, OneToOne, Onto, OneToOneOnto}
use Rattle.survey.specs.declared.pairing.Pairing.{Pairing}

-- the images are as many as the count
pub images_length : (p : Pairing) → length (images_of p) ≡ size_of p
unfolding images_of size_of
images_length p = let h : p.count ≤ length p.images = omega (arith, p.small, p.paired) in simp length-take (omega arith)

-- the image of a station stands at its place
pub images_at : (p : Pairing) (u : ℕ) → u < size_of p → get_or (images_of p) u 0 ≡ image_of p u
unfolding images_of size_of image_of
images_at p u h = rw get_or-take

-- the station of which v is the image
abbrev source : Pairing → ℕ → ℕ
source p v = get_or p.sources v 0

-- the image of a station is a station
pub image_below : (p : Pairing) (u : ℕ) → u < size_of p → image_of p u < size_of p
unfolding size_of image_of
image_below p u h = (p.onward u h).0

-- each station is the source of its image
image_back : (p : Pairing) (u : ℕ) → u < size_of p → source p (image_of p u) ≡ u
unfolding size_of image_of
image_back p u h = (p.onward u h).1

-- each source is a station
source_below : (p : Pairing) (v : ℕ) → v < size_of p → source p v < size_of p
unfolding size_of image_of
source_below p v h = (p.backward v h).0

-- each station is the image of its source
source_back : (p : Pairing) (v : ℕ) → v < size_of p → image_of p (source p v) ≡ v
unfolding size_of image_of
source_back p v h = (p.backward v h).1

-- the images are those of a pairing
pub pairing_stands : (p : Pairing) → OneToOneOnto (images_of p)
pairing_stands p = record { within = within; one_to_one = one; onto = onto }
  where
    below : (u : ℕ) → u < length (images_of p) → u < size_of p
    below u h = omega (arith, images_length p)

    within : Within (images_of p)
    within u h = omega (arith, images_length p, images_at p u (below u h), image_below p u (below u h))

    one : OneToOne (images_of p)
    one u v h k e =
        sym (image_back p u (below u h)) ∙ ap (source p) (sym (images_at p u (below u h)) ∙ e ∙ images_at p v (below v k)) ∙ image_back p v (below v k)

    onto : Onto (images_of p)
    onto v h =
        let s : source p v < size_of p = source_below p v (below v h) in
        (source p v, omega (arith, images_length p), images_at p (source p v) s ∙ source_back p v (below v h))

-- images that are one-to-one below n, with the source of each, lead back from every source too
pub traced_back : (n : ℕ) (images sources : List ℕ) → ((u : ℕ) → u < n → (get_or images u 0 < n) × (get_or sources (get_or images u 0) 0 ≡ u)) → (v : ℕ) → v < n → (get_or sources v 0 < n) × (get_or images (get_or sources v 0) 0 ≡ v)
traced_back n images sources paired v h = from (onto_below n (λ u. get_or images u 0) (λ u k. (paired u k).0) parts v h)
  where
    parts : Parts n (λ u. get_or images u 0)
    parts u w k l e = sym (paired u k).1 ∙ ap (λ (x : ℕ). get_or sources x 0) e ∙ (paired w l).1

    from : Reached n (λ u. get_or images u 0) v → (get_or sources v 0 < n) × (get_or images (get_or sources v 0) 0 ≡ v)
    from (u, k, e) =
        let s : get_or sources v 0 ≡ u = ap (λ (x : ℕ). get_or sources x 0) (sym e) ∙ (paired u k).1 in
        (omega arith, ap (λ (x : ℕ). get_or images x 0) s ∙ e)
