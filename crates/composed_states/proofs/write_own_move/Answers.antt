-- `write_own_move` meets its contract: nothing where the action is shared.
use Rattle.composed_states.specs.OwnLaws.{own-known, own-skipped, own-called, own-written}
use Rattle.composed_states.proofs.write_own_move.Goals as goal

pub fields_of-action-requires : goal.fields_of-action-requires
fields_of-action-requires c = own-known c.requires

pub returns-then-is_shared : goal.returns-then-is_shared
returns-then-is_shared c =
    own-skipped c.requires c.fields_of-action.ensures c.is_shared.ensures c.if-is_shared.true

pub write_right-requires : goal.write_right-requires
write_right-requires c =
    own-called c.requires c.fields_of-action.ensures c.is_shared.ensures c.if-is_shared.false

pub returns : goal.returns
returns c =
    own-written c.requires c.fields_of-action.ensures
    c.is_shared.ensures c.if-is_shared.false c.write_right.ensures
