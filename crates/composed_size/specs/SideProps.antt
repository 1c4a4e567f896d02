-- That two models are sides has one proof at most, so that a ghost field may say it.
use Rattle.std.specs.Prelude.{ℕ, List}
use Rattle.std.proofs.Props.{props}
use Rattle.model.specs.declared.Model.{Model as Found}
use Rattle.sound_model.specs.KnownProps.{known-prop}
use Rattle.composed_size.specs.Sides.{Side}

pub side-prop : (s : List ℕ) (m : Found) (table : List ℕ) → IsProp (Side s m table)
side-prop s m table = Prim.hlevel (props, known-prop)
