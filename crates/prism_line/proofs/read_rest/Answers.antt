-- `read_rest` meets its contract: one field, two, or more.
use Rattle.prism_line.specs.LineLaws.{three-fields, no-parts, four-fields, five-fields, no-name}
use Rattle.prism_line.proofs.read_rest.Goals as goal

pub returns-then-third-s : goal.returns-then-third-s
returns-then-third-s c = three-fields c.piece_end-third.ensures c.if-third-s.true

pub returns-in_err-parts : goal.returns-in_err-parts
returns-in_err-parts c =
    rw c.from_residual.ensures (no-parts c.piece_end-third.ensures c.if-third-s.false c.piece_end-fourth.ensures c.in_err-parts.ensures)

pub returns-then-fourth-s : goal.returns-then-fourth-s
returns-then-fourth-s c =
    four-fields c.piece_end-third.ensures c.if-third-s.false c.piece_end-fourth.ensures c.number-target.ensures c.in_ok-parts.ensures c.if-fourth-s.true

pub returns-then-not-is_name : goal.returns-then-not-is_name
returns-then-not-is_name c =
    no-name c.piece_end-third.ensures c.if-third-s.false c.piece_end-fourth.ensures c.if-fourth-s.false c.is_name.ensures c.if-not-is_name.true

pub returns : goal.returns
returns c =
    five-fields c.piece_end-third.ensures c.if-third-s.false c.piece_end-fourth.ensures c.if-fourth-s.false c.is_name.ensures c.number-target.ensures c.in_ok-parts.ensures c.if-not-is_name.false
