-- `write_file` meets its contract: the length is known before the first byte is written.
use native.Mathlib.Omega.{arith}
use mathlib.Core.Path.{refl}
use Rattle.merged_model.specs.FileLaws.{blocks-known, small, can-write-parts, file-written, file-short}
use Rattle.merged_model.proofs.write_file.Goals as goal

pub write_transitions-kept-requires : goal.write_transitions-kept-requires
write_transitions-kept-requires c = (blocks-known c.args.model.known c.requires c.block_count-k.ensures, omega arith)

pub overflow_add-size : goal.overflow_add-size
overflow_add-size c = omega (arith, (blocks-known c.args.model.known c.requires c.block_count-k.ensures).few)

pub overflow_add-size-2 : goal.overflow_add-size-2
overflow_add-size-2 c =
    omega (arith, small c.args.model.known c.requires c.block_count-k.ensures c.write_transitions-kept.ensures refl)

pub write_parts-requires : goal.write_parts-requires
write_parts-requires c =
    can-write-parts c.args.model.known c.requires c.block_count-k.ensures c.write_transitions-kept.ensures (omega arith)

pub returns-then-size-out : goal.returns-then-size-out
returns-then-size-out c =
    file-written c.args.model.known c.requires c.block_count-k.ensures c.write_transitions-kept.ensures refl (omega arith) c.write_parts.ensures

pub returns-else-size-out : goal.returns-else-size-out
returns-else-size-out c =
    file-short c.args.model.known c.requires c.block_count-k.ensures c.write_transitions-kept.ensures refl (omega arith)
