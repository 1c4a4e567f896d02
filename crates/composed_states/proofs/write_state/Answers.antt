-- `write_state` meets its contract: the right's own moves stand behind the left's.
use Rattle.composed_states.specs.StateLaws.{left-called, owns-called, state-written}
use Rattle.composed_states.proofs.write_state.Goals as goal

pub write_left_moves-own-requires : goal.write_left_moves-own-requires
write_left_moves-own-requires c = left-called c.requires

pub write_own_moves-requires : goal.write_own_moves-requires
write_own_moves-requires c =
    owns-called c.requires c.write_left_moves-own.ensures

pub returns : goal.returns
returns c =
    state-written c.requires c.write_left_moves-own.ensures c.write_own_moves.ensures
