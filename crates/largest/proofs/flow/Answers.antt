-- `flow` meets its contract: the bytes are those of the record.
use mathlib.Core.Path.{refl}
use Rattle.rules.specs.definitions.Bytes.{two_bytes}
use Rattle.rules.specs.definitions.Encoding.{four_bytes, list_bytes, w_bytes, flow_bytes}
use Rattle.largest.proofs.flow.Goals as goal

pub returns : goal.returns
unfolding flow_bytes list_bytes w_bytes four_bytes two_bytes
returns c = refl
