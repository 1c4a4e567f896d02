-- `count_right_move` meets its contract: a shared action, or the right's own.
use native.Mathlib.Omega.{arith}
use Rattle.transition.specs.KnownLaws.{known-transition, few-states, fields-small}
use Rattle.composed_size.specs.CountedLaws.{right-shared, right-own}
use Rattle.composed_size.proofs.count_right_move.Goals as goal

pub fields_of-u-requires : goal.fields_of-u-requires
fields_of-u-requires c = known-transition c.args.right.known.known c.requires

pub returns-then-is_shared : goal.returns-then-is_shared
returns-then-is_shared c =
    right-shared c.args.left.model c.args.right.known c.fields_of-u.ensures c.is_shared.ensures c.if-is_shared.true (omega arith)

pub count_alone-requires : goal.count_alone-requires
count_alone-requires c =
    (few-states c.args.left.known.known, (fields-small (known-transition c.args.right.known.known c.requires) c.fields_of-u.ensures).1)

pub returns : goal.returns
returns c =
    right-own c.args.left.model c.args.right.known c.fields_of-u.ensures c.is_shared.ensures c.if-is_shared.false c.count_alone.ensures
