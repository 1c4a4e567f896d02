-- `numbered_fault` meets its contract. The invariant: the blocks left have the fault of all.
use native.Mathlib.Omega.{arith}
use Prim.Native.Nat.{ℕ, ◌+◌, ◌-◌, ◌≤◌}
use mathlib.Core.Path.{◌≡◌, refl, ◌∙◌, ap}
use Rattle.std.proofs.Math.Path.{ap₂}
use Rattle.rules.specs.definitions.Bytes.{byte_at}
use Rattle.rules.specs.definitions.Certificate.{numbered_fault}
use Rattle.bisimulation.specs.definitions.Choice.{if_same}
use Rattle.bisimulation.proofs.argument.ChoiceLaws.{via, less, not_less, either_same}
use Rattle.field.specs.Parts.{byte-of-part}
use Rattle.blocks.specs.BlocksLaws.{numbered-turn, numbered-end}
use Rattle.blocks.proofs.numbered_fault.Goals as goal

pub loop-byte-init : goal.loop-byte-init
loop-byte-init c =
    let left : c.args.n - 0 ≡ c.args.n = omega arith in
    let at : c.args.at + 0 ≡ c.args.at = omega arith in
    (omega arith, ap₂ (λ (k p : ℕ). numbered_fault c.args.cert.now k p 0) left at)

pub returns-then-seen-block : goal.returns-then-seen-block
returns-then-seen-block c =
    let a = c.args in
    let l = c.loop-byte in
    let is = byte-of-part a.cert.now a.at (a.at + a.n) l.byte-index (omega arith) in
    via (numbered-turn _ (a.n - l.byte-index) (a.at + l.byte-index) l.seen (omega arith))
    (less _ (omega (arith, is)) c.fault.ensures)
    ∙ l.invariant.1

pub seen_after-seen-requires : goal.seen_after-seen-requires
seen_after-seen-requires c = omega (arith, c.loop-byte.invariant.0)

pub loop-byte-preserved : goal.loop-byte-preserved
loop-byte-preserved c =
    let a = c.args in
    let l = c.loop-byte in
    let i = l.byte-index in
    let is = byte-of-part a.cert.now a.at (a.at + a.n) i (omega arith) in
    let left : a.n - (i + 1) ≡ a.n - i - 1 = omega arith in
    let at : a.at + (i + 1) ≡ a.at + i + 1 = omega arith in
    let seen = c.seen_after-seen.ensures ∙ ap (λ (k : ℕ). if_same k l.seen (l.seen + 1) l.seen) is in
    let most : if_same (byte_at a.cert.now (a.at + i)) l.seen (l.seen + 1) l.seen ≤ l.seen + 1 =
    either_same (λ (k : ℕ). k ≤ l.seen + 1) (byte_at a.cert.now (a.at + i)) l.seen (omega arith) (omega arith)
    in (
      omega (arith, most, seen),
      via (numbered-turn _ (a.n - i) (a.at + i) l.seen (omega arith))
          (not_less _ (omega (arith, is)) (rw (left, at, seen) refl))
          ∙ l.invariant.1,
    )

pub returns : goal.returns
returns c =
    let a = c.args in
    let l = c.loop-byte in
    via (numbered-end _ (a.n - l.byte-index) (a.at + l.byte-index) l.seen (omega arith)) refl ∙ l.invariant.1
