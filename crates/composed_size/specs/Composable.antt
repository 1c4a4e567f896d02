-- Two sides whose composition is sound, too.
use Rattle.rules.specs.definitions.Limits.{limits}
use Rattle.rules.specs.definitions.SoundModel.{SoundModel}
use Rattle.composed_size.specs.declared.Side.{Side}
use Rattle.composed_size.specs.Sides.{composed_in}

pub record CanCompose (left right : Side) : Type 0 where
  pub sound : SoundModel limits (composed_in left.file.now right.file.now)
