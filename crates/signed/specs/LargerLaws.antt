-- Laws of the order of numbers with a sign.
use Rattle.std.specs.Prelude.{ℤ, ◌≤ℤ◌}
use Rattle.std.specs.Int.Signed.{<ℤ-≤ℤ_trans, clash_ℤ}
use Rattle.std.proofs.lemmas.Int.{by_lt_z}

pub ≤ℤ-trans : {a b c : ℤ} → a ≤ℤ b → b ≤ℤ c → a ≤ℤ c
≤ℤ-trans {a} {b} {c} h k = by_lt_z c a (λ l. clash_ℤ (<ℤ-≤ℤ_trans l h) k) (λ l. l)
