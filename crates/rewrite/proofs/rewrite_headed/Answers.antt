-- `rewrite_headed` meets its contract: the pair is refused, or both files are written.
use mathlib.Core.Path.{refl}
use native.Mathlib.Omega.{arith}
use Rattle.rules.specs.definitions.Bytes.{byte_at}
use Rattle.rules.specs.definitions.SoundModel.{Bytes}
use Rattle.judgement.specs.VerdictLaws.{found-accepted, found-refused}
use Rattle.rewrite.specs.RewriteLaws.{pair-refused}
use Rattle.rewrite.proofs.rewrite_headed.Goals as goal

pub overflow_add-flows : goal.overflow_add-flows
overflow_add-flows c =
    omega (arith, (found-accepted c.judge_files.ensures c.in-Ok.is).inside, c.well_formed.1.1.0.0)

pub write_pair-requires : goal.write_pair-requires
unfolding Bytes byte_at
write_pair-requires c =
    record {
      weak = c.requires.1;
      is_model = λ i h. omega (arith, c.shared_slice_known-1.given i);
      is_certificate = λ i h. omega (arith, c.shared_slice_known-2-1.given i);
      blocks = _;
      accepted = found-accepted c.judge_files.ensures c.in-Ok.is;
      place = refl;
    }

pub returns-in-Err : goal.returns-in-Err
unfolding Bytes byte_at
returns-in-Err c =
    pair-refused _ c.requires.1 (λ i h. omega (arith, c.shared_slice_known-1.given i)) (λ i h. omega (arith, c.shared_slice_known-2-1.given i)) _ _
    (found-refused c.judge_files.ensures c.in-Err.is) c.unwritten.ensures
