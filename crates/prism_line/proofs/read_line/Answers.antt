-- `read_line` meets its contract: one field, two, or more.
use Rattle.prism_line.specs.LineLaws.{one-broken, one_field, two-broken, two_fields, fields-two, line-told, line-read}
use Rattle.prism_line.proofs.read_line.Goals as goal

pub returns-then-first-s : goal.returns-then-first-s
returns-then-first-s c =
    record { read = one_field _ _ c.piece_end-first.ensures c.if-first-s.true; told = one-broken _ _ c.piece_end-first.ensures c.if-first-s.true }

pub returns-then-second-s : goal.returns-then-second-s
returns-then-second-s c =
    record {
      read = two_fields _ _ c.piece_end-first.ensures c.if-first-s.false _ c.piece_end-second.ensures c.if-second-s.true;
      told = two-broken _ _ c.piece_end-first.ensures c.if-first-s.false _ c.piece_end-second.ensures c.if-second-s.true;
    }

pub returns : goal.returns
returns c =
    let two = fields-two _ _ c.piece_end-first.ensures c.if-first-s.false _ c.piece_end-second.ensures c.if-second-s.false in
    record {
      read = line-read two c.number-source.ensures c.number-choice.ensures c.read_rest-rest.ensures;
      told = line-told two _ c.number-source.ensures c.number-choice.ensures c.read_rest-rest.ensures;
    }
