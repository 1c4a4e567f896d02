-- `scan_costs` meets its contract: the record is opened, then each cost is judged, then what is left of the file.
use Prim.Native.Nat.{ℕ, ◌+◌, ◌-◌, ◌≤◌}
use mathlib.Core.List.{List}
use mathlib.Core.Path.{◌≡◌, ◌∙◌, ap, ap₂}
use lib.ListN.{length}
use native.Mathlib.Omega.{arith}
use Rattle.std.specs.Prelude.{Result, Ok}
use Rattle.std.proofs.lemmas.Result.{err_from_is_err_and}
use Rattle.rules.specs.definitions.Faults.{model_record, open_fault}
use Rattle.rules.specs.definitions.Reading.{refused}
use Rattle.rules.proofs.argument.FaultLaws.{model-refuses, opened}
use Rattle.fault.specs.Faults.{fault_of, fault_in}
use Rattle.fault.specs.FaultsLaws.{refuses, nothing, found_passes}
use Rattle.fault.specs.declared.Fault.{Fault}
use Rattle.cost_model.specs.CostsRead.{CostsLeft, costs-start, costs-refused, costs-turn, costs-end, record-stops, record-high, record-whole}
use Rattle.cost_model.proofs.scan_costs.Goals as goal

-- the record lies in the file
inside : (s : List ℕ) (count at : ℕ) {o : Result (Unit {0}) Fault} {u : Unit {0}} → fault_in o ≡ open_fault model_record 0x434F (2 + count) s at → o ≡ Ok u → at + (2 + count) ≤ length s
inside s count at e z = (opened model_record 0x434F (2 + count) s at model-refuses (found_passes e z)).whole

-- as many costs left
as_many : {s : List ℕ} {count start left rest at : ℕ} → rest ≡ left → CostsLeft s count start left at → CostsLeft s count start rest at
as_many e h = rw e h

pub overflow_add-count : goal.overflow_add-count
overflow_add-count c = omega (arith, c.requires.1)

pub returns-in_err-open_model : goal.returns-in_err-open_model
returns-in_err-open_model c =
    let p = err_from_is_err_and c.from_residual.result c.from_residual.ensures.1 in
    let wrong = c.in_err-open_model.ensures in
    rw (p.1, p.2) (ap (refused (fault_of c.in_err-open_model.field-0.0)) wrong.at ∙ record-stops _ _ _ _ _ wrong.is (refuses _))

pub overflow_add-m : goal.overflow_add-m
overflow_add-m c = omega (arith, c.well_formed.0.0, inside _ _ _ c.open_model.ensures.is c.in_ok-open_model.was)

pub loop-init : goal.loop-init
loop-init c = as_many (omega arith) (costs-start (omega (arith, inside _ _ _ c.open_model.ensures.is c.in_ok-open_model.was)) c.new-place.ensures)

pub byte-cost-requires : goal.byte-cost-requires
byte-cost-requires c = omega (arith, c.loop.invariant.ends, c.loop.invariant.inside)

pub returns-then-cost-gt-COST : goal.returns-then-cost-gt-COST
returns-then-cost-gt-COST c =
    let l = c.loop in
    ap₂ refused (c.at.ensures.is ∙ c.fault.ensures) c.at.ensures.at
    ∙ record-high _ _ _ _ _ c.open_model.ensures.is (nothing c.in_ok-open_model.was)
    (costs-refused (c.args.m.transitions - l.counter) l.invariant (omega arith) c.byte-cost.ensures.value (omega arith))

pub loop-preserved : goal.loop-preserved
loop-preserved c =
    let l = c.loop in
    as_many (omega arith) (costs-turn (c.args.m.transitions - l.counter) l.invariant (omega arith) c.byte-cost.ensures.value (omega arith) c.byte-cost.ensures.next)

pub returns : goal.returns
returns c =
    let l = c.loop in
    c.whole.ensures
    ∙ record-whole _ _ _ _ _ c.open_model.ensures.is (nothing c.in_ok-open_model.was) (omega (arith, l.invariant.ends)) (costs-end (c.args.m.transitions - l.counter) l.invariant (omega arith))
