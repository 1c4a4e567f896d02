-- The ways out of the fixed fields' faults, in the order in which the fields are read, each past the tests before it.
use Rattle.std.specs.Prelude.{ℕ, ◌+◌, ◌≤◌, ◌<◌, ◌≡◌, List}
use Rattle.std.proofs.Common.{arith}
use Rattle.bisimulation.specs.definitions.Choice.{if_less, unless_less}
use Rattle.bisimulation.proofs.argument.ChoiceLaws.{less, not_less}
use Rattle.rules.specs.definitions.Limits.{limits}
use Rattle.rules.specs.definitions.Bytes.{byte_at, two_at}
use Rattle.rules.specs.definitions.Faults.{Fault, fault, no_fault}
use Rattle.rules.specs.definitions.Reading.{source_at, action_at, denominator_at, entry_count_at, fixed_fault_at, fixed_fault}
use Rattle.field.specs.Taken.{Taken, taken_at}
use Rattle.field.specs.declared.Field.{Field}

module _ (s : List ℕ) (n m last entries at : ℕ) (z : Fault) {start : ℕ} (begins : start ≡ at + 2) {source : Field} (first : Taken s byte_at start 1 256 source) where
  source_is : source.value ≡ source_at s at
  unfolding source_at
  source_is = taken_at first _ begins

  pub descends : source.value < last → z ≡ fault 5 → z ≡ fixed_fault_at limits s n m last entries at
  unfolding fixed_fault_at fixed_fault
  descends h = less _ (omega (arith, source_is))

  module _ (ordered : last ≤ source.value) where
    past-order : {y : Fault} → z ≡ y → z ≡ if_less (source_at s at) last (fault 5) y
    past-order = not_less _ (omega (arith, source_is))

    pub source-absent : n ≤ source.value → z ≡ fault 5 → z ≡ fixed_fault_at limits s n m last entries at
    unfolding fixed_fault_at fixed_fault
    source-absent h e = past-order (not_less _ (omega (arith, source_is)) e)

    module _ (there : source.value < n) {action : Field} (second : Taken s byte_at source.next.at 1 256 action) where
      past-source : {y : Fault} → z ≡ y → z ≡ unless_less (source_at s at) n (fault 5) y
      past-source = less _ (omega (arith, source_is))

      action-is : action.value ≡ action_at s at
      unfolding action_at
      action-is = taken_at second _ (omega arith)

      pub action-absent : m ≤ action.value → z ≡ fault 5 → z ≡ fixed_fault_at limits s n m last entries at
      unfolding fixed_fault_at fixed_fault
      action-absent h e = past-order (past-source (not_less _ (omega (arith, action-is)) e))

      module _ (acts : action.value < m) {d : Field} (third : Taken s two_at action.next.at 2 65536 d) where
        past-action : {y : Fault} → z ≡ y → z ≡ unless_less (action_at s at) m (fault 5) y
        past-action = less _ (omega (arith, action-is))

        d-is : d.value ≡ denominator_at s at
        unfolding denominator_at
        d-is = taken_at third _ (omega arith)

        pub d-zero : d.value ≡ 0 → z ≡ fault 5 → z ≡ fixed_fault_at limits s n m last entries at
        unfolding fixed_fault_at fixed_fault
        d-zero h e = past-order (past-source (past-action (not_less _ (omega (arith, d-is)) e)))

        module _ (divides : d.value ≡ 0 → ⊥) {count : Field} (fourth : Taken s byte_at d.next.at 1 256 count) where
          past-d : {y : Fault} → z ≡ y → z ≡ unless_less 0 (denominator_at s at) (fault 5) y
          past-d = less _ (omega (arith, d-is))

          count-is : count.value ≡ entry_count_at s at
          unfolding entry_count_at
          count-is = taken_at fourth _ (omega arith)

          pub no-entries : count.value ≡ 0 → z ≡ fault 5 → z ≡ fixed_fault_at limits s n m last entries at
          unfolding fixed_fault_at fixed_fault
          no-entries h e = past-order (past-source (past-action (past-d (not_less _ (omega (arith, count-is)) e))))

          module _ (some : count.value ≡ 0 → ⊥) where
            past-none : {y : Fault} → z ≡ y → z ≡ unless_less 0 (entry_count_at s at) (fault 5) y
            past-none = less _ (omega (arith, count-is))

            pub too_many : n < count.value → z ≡ fault 5 → z ≡ fixed_fault_at limits s n m last entries at
            unfolding fixed_fault_at fixed_fault
            too_many h e = past-order (past-source (past-action (past-d (past-none (less _ (omega (arith, count-is)) e)))))

            module _ (few : count.value ≤ n) where
              past-count : {y : Fault} → z ≡ y → z ≡ if_less n (entry_count_at s at) (fault 5) y
              past-count = not_less _ (omega (arith, count-is))

              pub limit-passed : limits.entries < entries + count.value → z ≡ fault 8 → z ≡ fixed_fault_at limits s n m last entries at
              unfolding fixed_fault_at fixed_fault
              limit-passed h e = past-order (past-source (past-action (past-d (past-none (past-count (less _ (omega (arith, count-is)) e))))))

              pub stand : entries + count.value ≤ limits.entries → z ≡ no_fault → z ≡ fixed_fault_at limits s n m last entries at
              unfolding fixed_fault_at fixed_fault
              stand h e = past-order (past-source (past-action (past-d (past-none (past-count (not_less _ (omega (arith, count-is)) e))))))
