-- `blocks_fault` meets its contract: each return is one way out of `blocks_fault`.
use native.Mathlib.Omega.{arith}
use Prim.Native.Nat.{◌+◌, ◌-◌}
use mathlib.Core.Path.{◌≡◌, refl, ◌∙◌}
use lib.ListN.{drop, length-drop}
use lib.Seq.{length-take-le}
use Rattle.std.proofs.lemmas.Result.{err_from_is_err_and}
use Rattle.bisimulation.proofs.argument.ChoiceLaws.{is_true, is_false}
use Rattle.rules.proofs.argument.FaultLaws.{pass_on}
use Rattle.fault.specs.FaultsLaws.{at-place}
use Rattle.blocks.specs.BlocksLaws.{small-part, not_opened, whole, not-numbered, compared}
use Rattle.blocks.proofs.blocks_fault.Goals as goal

pub returns-in_err-open_certificate : goal.returns-in_err-open_certificate
returns-in_err-open_certificate c =
    let p = err_from_is_err_and c.from_residual.result c.from_residual.ensures.1 in
    rw (p.1, p.2) (not_opened _ _ _ c.in_err-open_certificate.ensures)

pub numbered_fault-requires : goal.numbered_fault-requires
numbered_fault-requires c =
    (whole _ _ _ c.in_ok-open_certificate.ensures.is, omega arith)

pub returns-in_err-at_place : goal.returns-in_err-at_place
returns-in_err-at_place c =
    let p = err_from_is_err_and c.from_residual-in_err-at_place.result c.from_residual-in_err-at_place.ensures.1 in
    rw (p.1, p.2) (not-numbered _ _ _ c.in_ok-open_certificate.ensures.is (at-place _ _ c.in_err-at_place.ensures c.numbered_fault.ensures))

pub slice_bounds-agrees-end : goal.slice_bounds-agrees-end
slice_bounds-agrees-end c =
    omega (arith, whole _ _ _ c.in_ok-open_certificate.ensures.is)

pub agrees-requires : goal.agrees-requires
agrees-requires c =
    let a = c.args in
    let part : a.at + 2 + a.n - (a.at + 2) ≡ a.n = omega arith in
    let inside = whole _ _ _ c.in_ok-open_certificate.ensures.is in
    let numbered = at-place _ _ c.in_ok-at_place.ensures c.numbered_fault.ensures in (
      omega arith,
      omega (arith, length-take-le (a.at + 2 + a.n - (a.at + 2)) (drop (a.at + 2) a.cert.now) (omega (arith, length-drop (a.at + 2) a.cert.now)), part),
      small-part a.cert.now (a.at + 2) a.n _ _ (omega arith) (omega arith) part (pass_on numbered.is refl),
    )

pub returns-then-not-agrees : goal.returns-then-not-agrees
returns-then-not-agrees c =
    let a = c.args in
    let part : a.at + 2 + a.n - (a.at + 2) ≡ a.n = omega arith in
    let numbered = at-place _ _ c.in_ok-at_place.ensures c.numbered_fault.ensures in
    record {
      is = compared _ _ _ c.in_ok-open_certificate.ensures.is numbered.is
          c.agrees.ensures part refl (is_false _ c.if-not-agrees.true (c.at.ensures.is ∙ c.fault.ensures));
      place = c.at.ensures.at;
      inside = tt;
    }

pub returns : goal.returns
returns c =
    let a = c.args in
    let part : a.at + 2 + a.n - (a.at + 2) ≡ a.n = omega arith in
    let numbered = at-place _ _ c.in_ok-at_place.ensures c.numbered_fault.ensures in
    record {
      is = compared _ _ _ c.in_ok-open_certificate.ensures.is numbered.is
          c.agrees.ensures part refl (is_true _ c.if-not-agrees.false refl);
      place = tt;
      inside = whole _ _ _ c.in_ok-open_certificate.ensures.is;
    }
