-- The flows that stand in a certificate file to its end, one after the other: `certificate-stands` has them of an accepted file.
use Rattle.std.specs.Prelude.{ℕ, zero, suc, ◌+◌, ◌-◌, ◌≤◌, ◌<◌, ◌≡◌, List, length}
use Rattle.std.proofs.Common.{subst}
use Rattle.std.proofs.Math.ListN.{length-append}
use native.Mathlib.Omega.{arith}
use Rattle.rules.specs.definitions.Certificate.{after_flow}
use Rattle.rules.specs.definitions.Encoding.{list_bytes, flow_bytes}
use Rattle.rules.specs.definitions.CertificateAt.{flow_record_at, flows_from}
use Rattle.rules.proofs.argument.FlowRecords.{flow-after}

-- so many flows from a place on fill the file
unfoldable pub FlowsFill : List ℕ → (left at : ℕ) → Type 0
FlowsFill C left at = at + length (list_bytes flow_bytes (flows_from C left at)) ≡ length C

module _ (C : List ℕ) where
  fill-turn : (left at : ℕ) → FlowsFill C (suc left) at → FlowsFill C left (after_flow C at)
  unfolding FlowsFill flows_from list_bytes
  fill-turn left at h = omega (arith, flow-after C at, length-append (flow_bytes (flow_record_at C at)) (list_bytes flow_bytes (flows_from C left (after_flow C at))))

  -- after one of them, so do the others
  pub fill-next : (left at : ℕ) → 0 < left → FlowsFill C left at → FlowsFill C (left - 1) (after_flow C at)
  fill-next zero at some h = absurd (omega arith)
  fill-next (suc left) at some h =
      let e : left ≡ suc left - 1 = omega arith in
      subst (λ (n : ℕ). FlowsFill C n (after_flow C at)) e (fill-turn left at h)

  -- each begins and ends inside
  pub fill_begins : (left at : ℕ) → FlowsFill C left at → at ≤ length C
  unfolding FlowsFill
  fill_begins left at h = omega arith

  pub fill-ends : (left at : ℕ) → 0 < left → FlowsFill C left at → after_flow C at ≤ length C
  fill-ends left at some h = fill_begins (left - 1) (after_flow C at) (fill-next left at some h)

  -- and the last at the end
  pub fill-last : (at : ℕ) → FlowsFill C 0 at → at ≡ length C
  unfolding FlowsFill flows_from list_bytes
  fill-last at h = omega arith
