-- The terms of a model, in the papers' terms.
use Rattle.rules.specs.definitions.Limits.{any_terms, lowest_terms, Limits, limits, with_terms}
use Rattle.rules.specs.definitions.Limits as rules
use Rattle.limits.specs.declared.Terms.{Terms}
use Rattle.limits.specs.declared.Terms.TheVariants.{Any, Lowest}

abbrev pub terms_of : Terms → rules.Terms
terms_of Any = any_terms
terms_of Lowest = lowest_terms

-- those of the calls
abbrev pub current_terms : Terms
current_terms = Lowest

-- the limits, with these terms
abbrev pub limits_by : Terms → Limits
limits_by terms = with_terms (terms_of terms) limits
