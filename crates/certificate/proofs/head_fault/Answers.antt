-- `head_fault` meets its contract: each return is one way out of `certificate_head_fault`.
use native.Mathlib.Omega.{arith}
use mathlib.Core.Path.{◌∙◌}
use mathlib.Core.List.{[]}
use Rattle.std.proofs.lemmas.Result.{err_from_is_err_and}
use Rattle.rules.specs.definitions.Certificate.{refutation_count}
use Rattle.field.specs.Taken.{taken_at}
use Rattle.certificate.specs.HeadLaws.{not_opened, fixed-whole, too_many, stands}
use Rattle.certificate.proofs.head_fault.Goals as goal

pub returns-in_err-open_certificate : goal.returns-in_err-open_certificate
returns-in_err-open_certificate c =
    let p = err_from_is_err_and c.from_residual.result c.from_residual.ensures.1 in
    rw (p.1, p.2) (record { is = λ s. not_opened c.args.kind s _ c.mark.ensures c.in_err-open_certificate.ensures })

pub pair-count-requires : goal.pair-count-requires
pair-count-requires c =
    omega (arith, c.new.ensures, fixed-whole c.args.kind [] _ c.mark.ensures c.in_ok-open_certificate.ensures.is)

pub returns-then-count-gt-REFUTATIONS : goal.returns-then-count-gt-REFUTATIONS
unfolding refutation_count
returns-then-count-gt-REFUTATIONS c =
    record {
      is = λ s.
          too_many c.args.kind s _ c.mark.ensures c.in_ok-open_certificate.ensures.is c.pair-count.result.value (taken_at c.pair-count.ensures _ c.new.ensures)
          c.if-count-gt-REFUTATIONS.true (record { is = c.at.ensures.is ∙ c.fault.ensures; at = c.at.ensures.at });
    }

pub returns : goal.returns
unfolding refutation_count
returns c =
    record {
      is = λ s.
          stands c.args.kind s _ c.mark.ensures c.in_ok-open_certificate.ensures.is c.pair-count.result.value (taken_at c.pair-count.ensures _ c.new.ensures)
          c.if-count-gt-REFUTATIONS.false;
    }
