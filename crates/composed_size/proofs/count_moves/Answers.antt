-- `count_moves` meets its contract.
use native.Mathlib.Omega.{arith}
use Rattle.transition.specs.KnownLaws.{few-transitions}
use Rattle.composed_size.specs.Sides.{two-sides}
use Rattle.composed_size.specs.CountedLaws.{wider, moves-counted}
use Rattle.composed_size.proofs.count_moves.Goals as goal

pub add-requires : goal.add-requires
add-requires c = (
  wider c.count_left-moves.ensures.few (omega (arith, few-transitions c.args.left.known.known)),
  wider c.count_right-own.ensures.few (omega (arith, few-transitions c.args.right.known.known)),
)

pub returns : goal.returns
returns c =
    moves-counted (two-sides c.args.left.known c.args.right.known) c.count_left-moves.ensures c.count_right-own.ensures c.add.ensures
