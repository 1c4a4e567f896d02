-- Which faults a record of a certificate can have: a property of each of them is one of the record's.
use Prim.Native.Nat.{ℕ, zero, suc, ◌+◌}
use Rattle.std.specs.Prelude.{List}
use Rattle.bisimulation.specs.definitions.Choice.{if_same}
use Rattle.bisimulation.proofs.argument.ChoiceLaws.{either_less, either_same, either_true}
use Rattle.bisimulation.specs.definitions.Automaton.{Automaton}
use Rattle.bisimulation.specs.definitions.Pairs.{Pairs}
use Rattle.rules.specs.definitions.Limits.{Limits}
use Rattle.rules.specs.definitions.Bytes.{byte_at, two_at, three_at}
use Rattle.rules.specs.definitions.Faults.{Fault, fault, no_fault, certificate_record, open_fault}
use Rattle.rules.specs.definitions.Certificate.{FileRule, certificate_head_fault, challenger_at, defender_at, prices_at, pair_fault, refutation_fault, numbered_fault, pairs_fault, blocks_fault, k_fault, w_fault, flow_at, flow_fault}
use Rattle.rules.proofs.argument.FaultLaws.{either_first, either-open}

module _ {κ} (P : Fault → Type κ) (none : P no_fault) (C : List ℕ) where
  -- the entries of a flow: 19
  module _ (entry : P (fault 19)) (A : Automaton) where
    pub k-either : (file : FileRule) (q t left at lowest : ℕ) → P (k_fault file A C q t left at lowest)
    unfolding k_fault
    k-either file q t zero at lowest = none
    k-either file q t (suc left) at lowest =
        either_less P _ _ entry
        (either_less P _ _ (either_true P _ (either_less P _ _ (k-either file q t left (at + 7) (three_at C at + 1)) entry) entry) entry)

    pub w-either : (R : Pairs) (left at lowest : ℕ) → P (w_fault A C R left at lowest)
    unfolding w_fault
    w-either R zero at lowest = none
    w-either R (suc left) at lowest =
        either_less P _ _ entry
        (either_less P _ _
        (either_less P _ _ (either_true P _ (either_less P _ _ (w-either R left (at + 6) (two_at C at + 1)) entry) entry) entry)
        entry)

  -- every record: 11, 12
  module _ (short : P (fault 11)) (mark : P (fault 12)) where
    pub open-either : (m size at : ℕ) → P (open_fault certificate_record m size C at)
    open-either m size at = either-open certificate_record m size C at P short mark none

    -- the head: 13
    pub head-either : (L : Limits) (file : FileRule) → P (fault 13) → P (certificate_head_fault L file C)
    unfolding certificate_head_fault
    head-either L file many = either_first P _ _ (open-either file.mark 4 0) (either_less P _ _ many none)

    -- a refutation: 14, and what the rule finds in its prices
    pub refutation-either : (file : FileRule) (A : Automaton) (R : Pairs) (at : ℕ) → P (fault 14) → P (file.prices_fault A R (challenger_at C at) (defender_at C at) (prices_at C at)) → P (refutation_fault file A C R at)
    unfolding refutation_fault pair_fault
    refutation-either file A R at pair prices =
        either_first P _ _ (open-either 0x5058 5 at)
        (either_first P _ _
        (either_less P _ _ (either_less P _ _ (either_same P _ _ pair (either_true P _ none pair)) pair) pair)
        (either_less P _ _ short prices))

    -- the blocks: 17, 18
    numbered-either : P (fault 17) → (left at seen : ℕ) → P (numbered_fault C left at seen)
    unfolding numbered_fault
    numbered-either order zero at seen = none
    numbered-either order (suc left) at seen =
        either_less P _ _ order (numbered-either order left (at + 1) (if_same (byte_at C at) seen (seen + 1) seen))

    pub blocks-either : (A : Automaton) (R : Pairs) (at : ℕ) → P (fault 17) → P (fault 18) → P (blocks_fault A C R at)
    unfolding blocks_fault pairs_fault
    blocks-either A R at order differs =
        either_first P _ _ (open-either 0x424B (2 + A.states) at)
        (either_first P _ _ (numbered-either order A.states (at + 2) 0) (either_true P _ none differs))

    -- a flow: 19, and what the rule finds in its equations
    pub flow-either : (file : FileRule) (A : Automaton) (R : Pairs) (q t at : ℕ) → P (fault 19) → P (file.equations_fault A q t (flow_at C at)) → P (flow_fault file A C R q t at)
    unfolding flow_fault
    flow-either file A R q t at entry equations =
        either_first P _ _ (open-either 0x464C 8 at)
        (either_same P _ _ entry
        (either_less P _ _ short
        (either_first P _ _ (k-either entry A file q t _ (at + 8) 0)
        (either_less P _ _ short
        (either_less P _ _ short
        (either_first P _ _ (w-either entry A R _ _ 0) equations))))))
