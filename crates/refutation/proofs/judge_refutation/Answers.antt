-- `judge_refutation` meets its contract: each return is one way out of `refutation_fault`.
use native.Mathlib.Omega.{arith}
use mathlib.Core.Path.{refl, ◌∙◌}
use Rattle.std.proofs.lemmas.Result.{err_from_is_err_and}
use Rattle.fault.specs.FaultsLaws.{value-found}
use Rattle.transition.specs.KnownLaws.{few-states, known-states}
use Rattle.refutation.specs.RefutationLaws.{fixed-whole, not_opened, pair-passed, not-related, cut, priced, stands}
use Rattle.rule_kind.specs.StepsLaws.{prices-most, prices-of}
use Rattle.refutation.proofs.judge_refutation.Goals as goal

pub returns-in_err-open_certificate : goal.returns-in_err-open_certificate
returns-in_err-open_certificate c =
    let p = err_from_is_err_and c.from_residual.result c.from_residual.ensures.1 in
    rw (p.1, p.2) (not_opened _ _ _ _ _ _ c.requires.1 c.in_err-open_certificate.ensures)

pub head_at-head-requires : goal.head_at-head-requires
head_at-head-requires c = fixed-whole _ _ c.in_ok-open_certificate.ensures.is

pub returns-in_err-at_place : goal.returns-in_err-at_place
returns-in_err-at_place c =
    let p = err_from_is_err_and c.from_residual-in_err-at_place.result c.from_residual-in_err-at_place.ensures.1 in
    let head = c.head_at-head in
    rw (p.1, p.2)
    (not-related _ _ _ _ _ _ c.in_ok-open_certificate.ensures.is head.result head.ensures _ _ c.pair_fault-pair.ensures
    c.requires.1 c.in_err-at_place.ensures)

pub price_count-size-requires : goal.price_count-size-requires
price_count-size-requires c = few-states c.args.model.known

pub overflow_mul-size : goal.overflow_mul-size
overflow_mul-size c =
    record { fits = omega (arith, c.price_count-size.ensures, prices-most c.args.kind c.args.model.states c.fields-challenger.result.action, few-states c.args.model.known) }

pub overflow_sub-cert : goal.overflow_sub-cert
overflow_sub-cert c =
    omega (arith, c.head_at-head.ensures.prices, fixed-whole _ _ c.in_ok-open_certificate.ensures.is)

pub returns-then-cert-start : goal.returns-then-cert-start
returns-then-cert-start c =
    let head = c.head_at-head in
    let pair = pair-passed _ _ c.in_ok-at_place.ensures c.pair_fault-pair.ensures in
    cut _ _ _ _ _ _ c.in_ok-open_certificate.ensures.is head.result head.ensures _ pair
    _ (c.price_count-size.ensures ∙ prices-of c.args.kind c.args.model.file.now _ head.result.challenger (known-states c.args.model.known) c.fields-challenger.ensures.action)
    c.requires.1 (record { is = c.at.ensures.is ∙ c.fault.ensures; at = c.at.ensures.at }) (omega (arith, c.if-cert-start.true))

pub prices_fault-prices-requires : goal.prices_fault-prices-requires
prices_fault-prices-requires c =
    let head = c.head_at-head in
    let pair = pair-passed _ _ c.in_ok-at_place.ensures c.pair_fault-pair.ensures in
    let whole = fixed-whole _ _ c.in_ok-open_certificate.ensures.is in (
      record { challenger = pair.challenger; defender = pair.defender; stands = c.requires.2 },
      c.fields-challenger.ensures.action,
      omega (arith, c.price_count-size.ensures, c.if-cert-start.false, head.ensures.prices, whole),
      c.requires.1,
    )

pub returns-in_err-at_place-2 : goal.returns-in_err-at_place-2
returns-in_err-at_place-2 c =
    let p = err_from_is_err_and c.from_residual-in_err-at_place-2.result c.from_residual-in_err-at_place-2.ensures.1 in
    let head = c.head_at-head in
    let pair = pair-passed _ _ c.in_ok-at_place.ensures c.pair_fault-pair.ensures in
    let whole = fixed-whole _ _ c.in_ok-open_certificate.ensures.is in
    rw (p.1, p.2)
    (priced _ _ _ _ _ _ c.in_ok-open_certificate.ensures.is head.result head.ensures _ pair
    _ (c.price_count-size.ensures ∙ prices-of c.args.kind c.args.model.file.now _ head.result.challenger (known-states c.args.model.known) c.fields-challenger.ensures.action)
    _ c.prices_fault-prices.ensures (omega (arith, c.if-cert-start.false, head.ensures.prices, whole))
    c.in_err-at_place-2.ensures)

pub returns : goal.returns
returns c =
    let head = c.head_at-head in
    let pair = pair-passed _ _ c.in_ok-at_place.ensures c.pair_fault-pair.ensures in
    let whole = fixed-whole _ _ c.in_ok-open_certificate.ensures.is in
    let fields = c.fields-challenger.ensures in
    stands _ _ _ _ _ _ c.in_ok-open_certificate.ensures.is head.result head.ensures _ pair
    _ (c.price_count-size.ensures ∙ prices-of c.args.kind c.args.model.file.now _ head.result.challenger (known-states c.args.model.known) fields.action)
    _ c.prices_fault-prices.ensures (omega (arith, c.if-cert-start.false, head.ensures.prices, whole))
    (value-found _ _ _ c.at_place-2.ensures c.in_ok-at_place-2.was) _ fields refl (omega (arith, fields.from, c.args.model.known.states)) refl c.new.ensures
