-- `write_pair` meets its contract: 41, or both files.
use mathlib.Core.Path.{refl}
use Rattle.answer.specs.AnsweredLaws.{without-as}
use Rattle.largest_pair.proofs.argument.LargestLaws.{model-length, certificate-length}
use native.Mathlib.Omega.{arith}
use Rattle.largest.specs.LargestLaws.{flows-fit, model-short, certificate-short, pair-written}
use Rattle.largest.proofs.write_pair.Goals as goal

pub overflow_mul-certificate_size : goal.overflow_mul-certificate_size
overflow_mul-certificate_size c = omega (arith, flows-fit c.requires)

pub overflow_mul-certificate_size-2 : goal.overflow_mul-certificate_size-2
overflow_mul-certificate_size-2 c = omega (arith, flows-fit c.requires)

pub overflow_add-certificate_size-2 : goal.overflow_add-certificate_size-2
overflow_add-certificate_size-2 c = let w = c.requires in omega (arith, w.states, flows-fit w)

pub returns-then-model_out-model_size : goal.returns-then-model_out-model_size
returns-then-model_out-model_size c =
    model-short _ _ _ _ c.requires c.if-model_out-model_size.true c.refused.ensures c.unwritten.ensures

pub returns-then-certificate_out-certificate_size : goal.returns-then-certificate_out-certificate_size
returns-then-certificate_out-certificate_size c =
    certificate-short _ _ _ _ c.requires c.if-model_out-model_size.false c.if-certificate_out-certificate_size.true c.refused-then-certificate_out-certificate_size.ensures c.unwritten-then-certificate_out-certificate_size.ensures

pub returns : goal.returns
returns c =
    let p = c.write_model-model_written.ensures in
    let q = c.write_certificate-certificate_written.ensures in
    pair-written _ _ _ _ c.requires p q (without-as 0 _ c.written.ensures refl (omega (arith, p.place, model-length c.args.n c.args.count))) (omega (arith, q.place, certificate-length c.args.n c.args.count))
