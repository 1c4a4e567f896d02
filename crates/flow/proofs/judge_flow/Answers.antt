-- `judge_flow` meets its contract: each return is one way out of `flow_fault`.
use native.Mathlib.Omega.{arith}
use Rattle.std.proofs.Common.{◌+◌, ◌≡◌}
use Rattle.std.proofs.lemmas.Result.{err_from_is_err_and}
use Rattle.rules.specs.definitions.Bytes.{four_at}
use Rattle.fault.specs.FaultsLaws.{found_passes}
use Rattle.flow.specs.FlowLaws.{head-whole, head-ends, d-missing, ks-missing, not_opened, refused}
use Rattle.flow.proofs.judge_flow.Goals as goal

pub returns-in_err-open_certificate : goal.returns-in_err-open_certificate
returns-in_err-open_certificate c =
    let p = err_from_is_err_and c.from_residual.result c.from_residual.ensures.1 in
    rw (p.1, p.2) (not_opened c.in_err-open_certificate.ensures)

pub head_at-head-requires : goal.head_at-head-requires
head_at-head-requires c = head-whole _ _ (found_passes c.open_certificate.ensures.is c.in_ok-open_certificate.was)

pub returns-then-head-eq0 : goal.returns-then-head-eq0
returns-then-head-eq0 c =
    let opens = found_passes c.open_certificate.ensures.is c.in_ok-open_certificate.was in
    refused c.fault.ensures c.at.ensures (λ R h. d-missing _ _ _ R _ _ _ opens (omega (arith, c.head_at-head.ensures.d, c.if-head-eq0.true)))

pub overflow_sub-cert : goal.overflow_sub-cert
overflow_sub-cert c =
    let opens = found_passes c.open_certificate.ensures.is c.in_ok-open_certificate.was in
    omega (arith, c.head_at-head.ensures.first, head-whole c.args.cert.now c.args.place.at opens)

pub returns-then-cert-head : goal.returns-then-cert-head
returns-then-cert-head c =
    let opens = found_passes c.open_certificate.ensures.is c.in_ok-open_certificate.was in
    let some : (four_at c.args.cert.now (c.args.place.at + 2) ≡ 0 → ⊥) = λ z. omega (arith, z, c.head_at-head.ensures.d, c.if-head-eq0.false) in
    refused c.fault-then-cert-head.ensures c.at-then-cert-head.ensures
    (λ R h. ks-missing _ _ _ R _ _ _ opens some (omega (arith, c.if-cert-head.true, head-ends c.head_at-head.ensures)))

pub judge_entries-requires : goal.judge_entries-requires
judge_entries-requires c =
    let opens = found_passes c.open_certificate.ensures.is c.in_ok-open_certificate.was in
    let head = c.head_at-head.ensures in
    record {
      rule = c.requires.5;
      challenger = c.requires.0;
      defender = c.requires.1;
      stands =
          record {
            opens = opens;
            some = λ z. omega (arith, z, head.d, c.if-head-eq0.false);
            whole = omega (arith, c.if-cert-head.false, head-ends head, head.first, head-whole c.args.cert.now c.args.place.at opens);
          };
      read = head;
      zeros = c.requires.3;
      target_zeros = c.requires.4;
    }
