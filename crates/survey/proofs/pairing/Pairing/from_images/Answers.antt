use Rattle.std.proofs.Common.{◌≡◌, ℕ, ◌<◌, length, get_or, take, refl, ◌∙◌, inl, arith, length-take, get_or-take}
use Rattle.std.proofs.lemmas.List.{get_or-replicate, get_or_default, same_lists}
use Rattle.survey.specs.Pairings.{images_of}
use Rattle.survey.proofs.Paired.{traced_back}
use Rattle.survey.proofs.pairing.Pairing.from_images.Goals as goal

pub loop-u-init : goal.loop-u-init
loop-u-init c = (refl, refl, λ k h. absurd (omega arith), λ k h. absurd (omega arith), λ v h. inl (get_or-replicate 64 v 255 0 (omega arith)))

-- the images are below the count, and each has its source
onward : (c : goal.After-loop-u) → (u : ℕ) → u < length c.args.images.now → (get_or c.loop-u.paired u 0 < length c.args.images.now) × (get_or c.loop-u.sources (get_or c.loop-u.paired u 0) 0 ≡ u)
onward c u h =
    let k : u < c.loop-u.u = omega arith in
    let e : get_or c.loop-u.paired u 0 ≡ get_or c.args.images.now u 0 = c.loop-u.invariant.2 u k in
    rw e (c.loop-u.invariant.3 u k)

pub invariant_of-result : goal.invariant_of-result
invariant_of-result c = record {
  small = omega arith;
  paired = c.loop-u.invariant.0;
  traced = c.loop-u.invariant.1;
  onward = onward c;
  backward = traced_back (length c.args.images.now) c.loop-u.paired c.loop-u.sources (onward c);
}

pub returns : goal.returns
unfolding images_of
returns c =
    let n : length (take (length c.args.images.now) c.loop-u.paired) ≡ length c.args.images.now = simp length-take (omega (arith, c.loop-u.invariant.0)) in
    same_lists
    (take (length c.args.images.now) c.loop-u.paired)
    c.args.images.now
    n
    (λ k d h.
    let b : k < length c.args.images.now = omega arith in
    let l : k < length c.loop-u.paired = omega (arith, c.loop-u.invariant.0) in
    get_or-take (length c.args.images.now) c.loop-u.paired k d b ∙ get_or_default c.loop-u.paired k d 0 l ∙ c.loop-u.invariant.2 k (omega arith) ∙ get_or_default c.args.images.now k 0 d b)
