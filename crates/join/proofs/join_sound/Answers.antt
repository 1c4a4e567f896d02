-- `join_sound` meets its contract: 25, 26, or the joined file.
use mathlib.Core.Path.{refl, sym, ◌∙◌}
use native.Mathlib.Omega.{arith}
use Rattle.joined_file.specs.JoinedFileLaws.{sums}
use Rattle.join.specs.JoinLaws.{over-limit, in-limit, file-joined}
use Rattle.join.proofs.join_sound.Goals as goal

pub overflow_sub-records : goal.overflow_sub-records
overflow_sub-records c = omega (arith, sums c.requires)

pub overflow_sub-records-2 : goal.overflow_sub-records-2
overflow_sub-records-2 c = omega (arith, sums c.requires)

pub overflow_sub-records-3 : goal.overflow_sub-records-3
overflow_sub-records-3 c = omega (arith, sums c.requires)

pub returns-then-passes_limit : goal.returns-then-passes_limit
returns-then-passes_limit c =
    over-limit c.requires refl refl refl _ (sym c.if-passes_limit.true ∙ c.passes_limit.ensures) c.refused.ensures

pub write_file-size-requires : goal.write_file-size-requires
write_file-size-requires c =
    in-limit c.requires refl refl refl (sym c.if-passes_limit.false ∙ c.passes_limit.ensures)

pub returns : goal.returns
returns c =
    file-joined c.requires refl refl refl _ (sym c.if-passes_limit.false ∙ c.passes_limit.ensures) c.write_file-size.ensures c.of_file.ensures
