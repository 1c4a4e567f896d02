-- Document 02, K10: 'A stored pair goes through a rewriting: weights and d are divided by their greatest common divisor g, and each flow's k for that
-- transition is multiplied by g.' A model and a certificate as values.
use Rattle.std.specs.Prelude.{ℕ, ◌*◌, List, map, get_or}
use Rattle.rules.specs.definitions.Model.{Model, no_transition}
use Rattle.rules.specs.definitions.LowestTerms.{divisor_in, in_lowest}
use Rattle.rules.specs.definitions.Encoding.{KEntry, FlowRecord, Certificate}

-- 'weights and d are divided by their greatest common divisor g', of each transition; all else stays
unfoldable pub rewritten_model : Model → Model
rewritten_model M = record { actions = M.actions; labels = M.labels; transitions = map in_lowest M.transitions }

-- the g of the transition r
unfoldable pub divisor_at : Model → (r : ℕ) → ℕ
divisor_at M r = divisor_in (get_or M.transitions r no_transition)

-- 'each flow's k for that transition is multiplied by g'
unfoldable pub rewritten_k : Model → KEntry → KEntry
rewritten_k M e = record { layer = e.layer; transition = e.transition; k = e.k * divisor_at M e.transition }

-- a flow: D and w stay
unfoldable pub rewritten_flow : Model → FlowRecord → FlowRecord
rewritten_flow M f = record { D = f.D; ks = map (rewritten_k M) f.ks; ws = f.ws }

-- the certificate: refutations, so prices too, and blocks stay
unfoldable pub rewritten_certificate : Model → Certificate → Certificate
rewritten_certificate M K = record { refutations = K.refutations; blocks = K.blocks; flows = map (rewritten_flow M) K.flows }
