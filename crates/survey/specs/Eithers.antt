-- Either of two networks.
use Rattle.survey.specs.Networks.{Net, Bounded}
use Rattle.survey.specs.declared.either.Either.{Either}
use Rattle.survey.specs.declared.either.Either.TheVariants.{Left, Right}

-- it means what the one that is there means
abbrev pub either_means : {L A B : Type 0} → (A → Net L) → (B → Net L) → Either A B → Net L
either_means a b (Left x) = a x
either_means a b (Right x) = b x

-- and has its bounds
pub either_bounded :
    {L A B : Type 0} (a : A → Net L) (b : B → Net L) → ((x : A) → Bounded (a x)) → ((x : B) → Bounded (b x)) →
    (e : Either A B) → Bounded (either_means a b e)
either_bounded a b f g (Left x) = f x
either_bounded a b f g (Right x) = g x
