-- `with_term` meets its contract: the term and the sum fit.
use mir.Facts.{to_z-of_z}
use Rattle.signed.specs.TermsLaws.{term_is, term_fits, with-term-fits, with-term}
use Rattle.signed.proofs.with_term.Goals as goal

pub overflow_mul-result : goal.overflow_mul-result
overflow_mul-result c = rw (to_z-of_z c.ranges.factor, term_is c.requires) (term_fits c.requires)

pub overflow_add-result : goal.overflow_add-result
overflow_add-result c =
    rw (to_z-of_z (overflow_mul-result c), to_z-of_z c.ranges.sum, to_z-of_z c.ranges.factor, term_is c.requires) (with-term-fits c.requires)

pub returns : goal.returns
returns c =
    rw (to_z-of_z (overflow_add-result c), to_z-of_z (overflow_mul-result c), to_z-of_z c.ranges.sum, to_z-of_z c.ranges.factor, term_is c.requires)
    (with-term c.requires)
