-- `rewrite_by` meets its contract: the head is refused, or the rest of the pair is rewritten.
use native.Mathlib.Omega.{arith}
use Rattle.rules.specs.definitions.Bytes.{byte_at}
use Rattle.rules.specs.definitions.SoundModel.{Bytes}
use Rattle.rewrite.specs.RewriteLaws.{pair-refused}
use Rattle.rewrite.proofs.rewrite_by.Goals as goal

pub returns-in-Err : goal.returns-in-Err
unfolding Bytes byte_at
returns-in-Err c =
    pair-refused c.args.kind c.requires (λ i h. omega (arith, c.shared_slice_known-1.given i)) (λ i h. omega (arith, c.shared_slice_known-2-1.given i)) _ _
    (c.in-Err.ensures.refused c.args.kind _ _ _) c.unwritten.ensures
