-- `next` meets its contract: it gives the first of the entries left.
use Rattle.std.proofs.Common.{length, ap, arith, rules}
use Rattle.transition.specs.EntriesLaws.{entries-none, entries-first}
use Rattle.transition.proofs.walk.EntriesIterator.next.Goals as goal

pub returns-then-self-eq0-clause-steps : goal.returns-then-self-eq0-clause-steps
returns-then-self-eq0-clause-steps c = let none = entries-none _ _ _ (omega arith) in (none, none)

pub returns-clause-steps : goal.returns-clause-steps
returns-clause-steps c = entries-first _ (omega arith) c.entry_at-entry.ensures

pub returns-clause-goes : goal.returns-clause-goes
returns-clause-goes c =
    let s = c.args.self.now in
    let shorter = ap length (entries-first {s = s.file.now} s.left (omega arith) c.entry_at-entry.ensures) in
    search rules
