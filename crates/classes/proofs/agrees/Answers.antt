-- `agrees` meets its contract: every row is told to have the bits of that of its state's block, or one is told not to.
use Rattle.std.proofs.Common.{rules, true, false, refl, arith}
use Rattle.std.proofs.lemmas.Iterator.{cases_from_all, YieldsList-from_range}
use borrow.Author.Tests.{tests}
use Rattle.classes.specs.ClassesLaws.{RowTold, agrees-told}
use Rattle.classes.proofs.agrees.Goals as goal

pub returns : goal.returns
returns c =
    let a = c.args in
    let members = c.classes.new.rows in
    let n = a.n in
    agrees-told c.classes.ensures c.requires.2
    (cases_from_all _ _ _ (RowTold a.blocks.now members a.rows.now true) (RowTold a.blocks.now members a.rows.now false) c.all.ensures.ran
    (YieldsList-from_range 0 n n refl (omega arith)) (λ x q k. search (rules, tests)) (λ x q k. search (rules, tests)))
