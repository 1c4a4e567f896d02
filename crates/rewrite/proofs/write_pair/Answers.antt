-- `write_pair` meets its contract: 35, 36, or both files.
use mathlib.Core.Path.{refl}
use Rattle.rewrite.specs.RewriteLaws.{pair-ready, large-refused, model-short, certificate-short, pair-written}
use Rattle.rewrite.proofs.write_pair.Goals as goal

pub invariant_of-sound : goal.invariant_of-sound
invariant_of-sound c = record { known = c.places_of-places.ensures }

pub first_large-requires : goal.first_large-requires
first_large-requires c = (pair-ready c.places_of-places.ensures c.divisors_of-divisors.ensures c.requires).stand

pub returns-in-Some : goal.returns-in-Some
returns-in-Some c =
    large-refused _ _ (pair-ready c.places_of-places.ensures c.divisors_of-divisors.ensures c.requires)
    c.in-Some.ensures c.fault.ensures c.at-wrong.ensures c.refused_in.ensures c.unwritten.ensures

pub returns-then-model_out-model : goal.returns-then-model_out-model
returns-then-model_out-model c =
    model-short _ _ (pair-ready c.places_of-places.ensures c.divisors_of-divisors.ensures c.requires)
    c.in_default.ensures c.if-model_out-model.true c.refused.ensures c.unwritten-then-model_out-model.ensures

pub returns-then-certificate_out-certificate : goal.returns-then-certificate_out-certificate
returns-then-certificate_out-certificate c =
    certificate-short _ _ (pair-ready c.places_of-places.ensures c.divisors_of-divisors.ensures c.requires)
    c.in_default.ensures c.if-model_out-model.false c.if-certificate_out-certificate.true c.refused-then-certificate_out-certificate.ensures c.unwritten-then-certificate_out-certificate.ensures

pub write_file-requires-2 : goal.write_file-requires-2
write_file-requires-2 c =
    let ready = pair-ready c.places_of-places.ensures c.divisors_of-divisors.ensures c.requires in
    (ready.fit c.in_default.ensures, c.if-certificate_out-certificate.false)

pub returns : goal.returns
returns c =
    pair-written _ _ (pair-ready c.places_of-places.ensures c.divisors_of-divisors.ensures c.requires)
    c.in_default.ensures c.if-model_out-model.false c.if-certificate_out-certificate.false c.write_file.ensures c.write_file-2.ensures c.written.ensures refl
