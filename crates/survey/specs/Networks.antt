-- Networks: what any source or layer means.
use Rattle.std.specs.Prelude.{◌≡◌, ℕ, ◌≤◌, None, Option}

-- a network by its meaning: how many stations, a kind for each, and for each ordered pair no leg or one labelled leg
pub record Net (L : Type 0) : Type 0 where
  pub count : ℕ
  pub kind : ℕ → ℕ
  pub leg : ℕ → ℕ → Option L

-- the bounds of every network: counts and kinds fit, and a station not below the count has kind 0 and no leg
pub record Bounded {L : Type 0} (n : Net L) : Type 0 where
  pub count_fits : n.count ≤ 65535
  pub kind_fits : (u : ℕ) → n.kind u ≤ 255
  pub no_kind : (u : ℕ) → n.count ≤ u → n.kind u ≡ 0
  pub no_leg_from : (u v : ℕ) → n.count ≤ u → n.leg u v ≡ None
  pub no_leg_to : (u v : ℕ) → n.count ≤ v → n.leg u v ≡ None
