-- `count_left_move` meets its contract: with partners, or alone.
use Rattle.transition.specs.KnownLaws.{known-transition, few-states, fields-small}
use Rattle.composed_size.specs.Sides.{two-sides}
use Rattle.composed_size.specs.CountedLaws.{small-fields, left-together, left-own}
use Rattle.composed_size.proofs.count_left_move.Goals as goal

pub fields_of-t-requires : goal.fields_of-t-requires
fields_of-t-requires c = known-transition c.args.left.known.known c.requires

pub count_partners-requires : goal.count_partners-requires
count_partners-requires c =
    small-fields (known-transition c.args.left.known.known c.requires) c.fields_of-t.ensures

pub returns-then-is_shared : goal.returns-then-is_shared
returns-then-is_shared c =
    left-together (two-sides c.args.left.known c.args.right.known) c.fields_of-t.ensures c.is_shared.ensures c.if-is_shared.true c.count_partners.ensures

pub count_alone-requires : goal.count_alone-requires
count_alone-requires c =
    (few-states c.args.right.known.known, (fields-small (known-transition c.args.left.known.known c.requires) c.fields_of-t.ensures).1)

pub returns : goal.returns
returns c =
    left-own (two-sides c.args.left.known c.args.right.known) c.fields_of-t.ensures c.is_shared.ensures c.if-is_shared.false c.count_alone.ensures
