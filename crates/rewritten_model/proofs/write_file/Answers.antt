-- `write_file` meets its contract: the head and the labels, the records in lowest terms and the file's tail stand one behind the other.
use mathlib.Core.Path.{sym}
use native.Mathlib.Omega.{arith}
use Rattle.rewritten_model.specs.WritingLaws.{front_length, records-fit, tail-inside, tail-fits, file-written}
use Rattle.rewritten_model.proofs.write_file.Goals as goal

pub slice_bounds-part-end : goal.slice_bounds-part-end
slice_bounds-part-end c = sym (front_length c.args.model.known)

pub part-at-requires : goal.part-at-requires
part-at-requires c = omega (arith, front_length c.args.model.known)

pub write_transitions-next-requires : goal.write_transitions-next-requires
write_transitions-next-requires c =
    let p = c.requires in
    records-fit c.args.model.known p.0 c.part-at.ensures p.1

pub slice_bounds-part-count : goal.slice_bounds-part-count
slice_bounds-part-count c = tail-inside c.args.model.known

pub slice_bounds-part-start : goal.slice_bounds-part-start
slice_bounds-part-start c = tail-inside c.args.model.known

pub part-requires : goal.part-requires
part-requires c =
    let p = c.requires in
    tail-fits c.args.model.known p.0 c.part-at.ensures p.1 c.write_transitions-next.ensures

pub returns : goal.returns
returns c =
    let p = c.requires in
    file-written c.args.model.known p.0 c.part-at.ensures p.1 c.write_transitions-next.ensures c.part.ensures
