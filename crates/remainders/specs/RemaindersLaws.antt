-- Laws of the remainders.
use Rattle.std.specs.Prelude.{ℤ, pos, replicate}
use Rattle.std.proofs.lemmas.List.{length-replicate, get_or-replicate}
use Rattle.limits.specs.Sizes as sizes
use Rattle.remainders.specs.Remainders.{AllZero}

pub zeros : AllZero (replicate sizes.remainders (pos 0))
zeros =
    record { size = length-replicate {A = ℤ} sizes.remainders (pos 0); zero = λ i h. get_or-replicate {A = ℤ} sizes.remainders i (pos 0) (pos 0) h }
