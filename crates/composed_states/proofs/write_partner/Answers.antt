-- `write_partner` meets its contract: nothing where the actions differ.
use Rattle.composed_states.specs.MovesLaws.{partner-known, partner-other, together-asks, partner-written}
use Rattle.composed_states.proofs.write_partner.Goals as goal

pub fields_of-requires : goal.fields_of-requires
fields_of-requires c = partner-known c.requires

pub returns-then-fields_of-action : goal.returns-then-fields_of-action
returns-then-fields_of-action c =
    partner-other c.requires c.fields_of.ensures c.if-fields_of-action.true

pub write_together-requires : goal.write_together-requires
write_together-requires c =
    together-asks c.requires c.fields_of.ensures c.if-fields_of-action.false

pub returns : goal.returns
returns c =
    partner-written c.requires c.fields_of.ensures
    c.if-fields_of-action.false c.write_together.ensures
