-- `fixed_fault` meets its contract: each return is one way out of `fixed_fault`, of the fields read so far.
use Rattle.transition_record.specs.FixedLaws.{descends, source-absent, action-absent, d-zero, no-entries, too_many, limit-passed, stand}
use native.Mathlib.Omega.{arith}
use mathlib.Core.Path.{refl}
use Rattle.transition_record.proofs.fixed_fault.Goals as goal

pub returns-then-source-last : goal.returns-then-source-last
returns-then-source-last c =
    descends _ _ _ _ _ _ _ c.new.ensures c.byte-first.ensures c.if-source-last.true c.fault.ensures

pub returns-then-n-source : goal.returns-then-n-source
returns-then-n-source c =
    source-absent _ _ _ _ _ _ _ c.new.ensures c.byte-first.ensures c.if-source-last.false c.if-n-source.true c.fault-then-n-source.ensures

pub returns-then-m-action : goal.returns-then-m-action
returns-then-m-action c =
    action-absent _ _ _ _ _ _ _ c.new.ensures c.byte-first.ensures c.if-source-last.false c.if-n-source.false c.byte-second.ensures c.if-m-action.true c.fault-then-m-action.ensures

pub returns-then-denominator-eq0 : goal.returns-then-denominator-eq0
returns-then-denominator-eq0 c =
    d-zero _ _ _ _ _ _ _ c.new.ensures c.byte-first.ensures c.if-source-last.false c.if-n-source.false c.byte-second.ensures c.if-m-action.false c.pair-third.ensures c.if-denominator-eq0.true c.fault-then-denominator-eq0.ensures

pub returns-then-count-eq0 : goal.returns-then-count-eq0
returns-then-count-eq0 c =
    no-entries _ _ _ _ _ _ _ c.new.ensures c.byte-first.ensures c.if-source-last.false c.if-n-source.false c.byte-second.ensures c.if-m-action.false c.pair-third.ensures c.if-denominator-eq0.false c.byte-fourth.ensures c.if-count-eq0.true c.fault-then-count-eq0.ensures

pub returns-then-n-count : goal.returns-then-n-count
returns-then-n-count c =
    too_many _ _ _ _ _ _ _ c.new.ensures c.byte-first.ensures c.if-source-last.false c.if-n-source.false c.byte-second.ensures c.if-m-action.false c.pair-third.ensures c.if-denominator-eq0.false c.byte-fourth.ensures c.if-count-eq0.false c.if-n-count.true c.fault-then-n-count.ensures

pub returns-then-entries-count-gt-ENTRIES : goal.returns-then-entries-count-gt-ENTRIES
returns-then-entries-count-gt-ENTRIES c =
    limit-passed _ _ _ _ _ _ _ c.new.ensures c.byte-first.ensures c.if-source-last.false c.if-n-source.false c.byte-second.ensures c.if-m-action.false c.pair-third.ensures c.if-denominator-eq0.false c.byte-fourth.ensures c.if-count-eq0.false c.if-n-count.false (omega arith) c.fault-then-entries-count-gt-ENTRIES.ensures

pub returns : goal.returns
returns c =
    stand _ _ _ _ _ _ _ c.new.ensures c.byte-first.ensures c.if-source-last.false c.if-n-source.false c.byte-second.ensures c.if-m-action.false c.pair-third.ensures c.if-denominator-eq0.false c.byte-fourth.ensures c.if-count-eq0.false c.if-n-count.false c.if-entries-count-gt-ENTRIES.false refl
