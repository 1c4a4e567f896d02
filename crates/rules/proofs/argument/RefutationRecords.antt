-- A refutation record without fault is the encoding of a refutation that keeps document 01's rules, and the other way round.
use Rattle.std.specs.Prelude.{ℕ, zero, suc, ◌+◌, ◌*◌, ◌^◌, ◌≤◌, ◌<◌, ◌≡◌, ◌≢◌, true, List, [], ◌∷◌, ◌++◌, length, get_or, pos}
use Rattle.std.proofs.Math.Path.{refl, sym, ap}
use Rattle.std.proofs.Common.{◌∙◌, ap₂, subst, subst₂, length-append, arith}
use Rattle.std.proofs.Math.IntN.{ℤ}
use Rattle.std.specs.Int.Signed.{mag}
use Rattle.bisimulation.proofs.argument.ChoiceLaws.{less, not_less, not_same, is_true}
use Rattle.bisimulation.specs.definitions.Automaton.{Automaton}
use Rattle.bisimulation.specs.definitions.Pairs.{Pairs}
use Rattle.rules.proofs.argument.AnyRule.{Decides, Narrow}
use Rattle.rules.specs.definitions.Bytes.{two_at, signed_at, two_bytes}
use Rattle.rules.proofs.argument.Standing.{Stands, IsBytes, stands-first, stands-cons, stands-byte, stands-rest, stands_at, mark-stands, after_two, rest-of-two, two_is, two-stands, length_two, length-four, signed_is, signed-stands, signed-small}
use Rattle.rules.specs.definitions.Certificate.{FileRule, challenger_at, defender_at, prices_at, after_refutation, pair_fault, refutation_fault}
use Rattle.rules.specs.definitions.Faults.{Passes, certificate_record}
use Rattle.rules.proofs.argument.FaultLaws.{none_first, first-none, certificate-refuses, opened, opens, pass_on, pass-if_less, pass-unless_less, pass-if_same, pass-unless_true}
use Rattle.rules.specs.definitions.Encoding.{Refutation, complement, price_bytes, prices_bytes, refutation_bytes, prices_of}
use Rattle.rules.specs.definitions.CertificateAt.{entries_from, refutation_at}
use Rattle.rules.specs.definitions.Accepted.{RuleSays, GoodRefutation}
use Rattle.rules.proofs.argument.EntryLists.{length-entries_from, length-list_bytes, entries-stand, entries-read}
use Rattle.rules.specs.definitions.SoundModel.{Each}

-- the prices that stand from a place on
abbrev pub prices_from : List ℕ → ℕ → ℕ → List ℤ
prices_from C n at = entries_from 4 (signed_at C) n at

length-price : (z : ℤ) → length (price_bytes z) ≡ 4
unfolding price_bytes
length-price z = length-four (complement z)

price-stands : (C : List ℕ) → IsBytes C → (at : ℕ) → at + 4 ≤ length C → Stands C at (price_bytes (signed_at C at))
unfolding price_bytes
price-stands C b at h = signed-stands C at b h

price-read : (C : List ℕ) (at : ℕ) (z : ℤ) → mag z < 2 ^ 31 → Stands C at (price_bytes z) → signed_at C at ≡ z
unfolding price_bytes
price-read C at z = signed_is C at z

prices_from-fit : (C : List ℕ) (n at : ℕ) → IsBytes C → Each (λ z. mag z < 2 ^ 31) (prices_from C n at)
unfolding entries_from Each
prices_from-fit C zero at b = tt
prices_from-fit C (suc n) at b = (signed-small C at b, prices_from-fit C n (at + 4) b)

-- a price by its number
prices_from-get : (C : List ℕ) (n at i : ℕ) → i < n → get_or (prices_from C n at) i (pos 0) ≡ signed_at C (at + 4 * i)
unfolding entries_from
prices_from-get C zero at i h = absurd (omega arith)
prices_from-get C (suc n) at zero h = let e : at ≡ at + 4 * 0 = omega arith in ap (signed_at C) e
prices_from-get C (suc n) at (suc i) h =
    let e : at + 4 + 4 * i ≡ at + 4 * suc i = omega arith in prices_from-get C n (at + 4) i (omega arith) ∙ ap (signed_at C) e

prices-read : (C : List ℕ) (zs : List ℤ) (at : ℕ) → Each (λ z. mag z < 2 ^ 31) zs → Stands C at (prices_bytes zs) → (i : ℕ) → i < length zs → signed_at C (at + 4 * i) ≡ get_or zs i (pos 0)
prices-read C zs at g h i less =
    sym (prices_from-get C (length zs) at i less)
    ∙ ap (λ (l : List ℤ). get_or l i (pos 0)) (entries-read ℤ 4 price_bytes length-price C (signed_at C) (λ z. mag z < 2 ^ 31) (price-read C) zs at g h)

pub length-refutation : (x : Refutation) → length (refutation_bytes x) ≡ 5 + 4 * length x.prices
unfolding refutation_bytes
length-refutation x =
    omega (
      arith,
      length-append (two_bytes x.challenger) (x.defender ∷ prices_bytes x.prices),
      length_two x.challenger,
      length-list_bytes ℤ 4 price_bytes length-price x.prices,
    )

module _ (file : FileRule) (A : Automaton) (C : List ℕ) (R : Pairs) (at : ℕ) where
  -- what a refutation record without fault tells
  pub record Passed : Type 0 where
    pub mark : two_at C at ≡ 0x5058
    pub transition : challenger_at C at < A.transitions
    pub state : defender_at C at < A.states
    pub different : defender_at C at ≢ A.source (challenger_at C at)
    pub related : R (A.source (challenger_at C at)) (defender_at C at) ≡ true
    pub whole : after_refutation file A C at ≤ length C
    pub prices : Passes (file.prices_fault A R (challenger_at C at) (defender_at C at) (prices_at C at))

  pub passed : Passes (refutation_fault file A C R at) → Passed
  unfolding refutation_fault pair_fault
  passed e =
      let a = none_first _ _ e in
      let b = opened certificate_record 0x5058 5 C at certificate-refuses a.0 in
      let d = none_first _ _ a.1 in
      let f = pass-unless_less _ _ _ _ d.0 (omega arith) in
      let g = pass-unless_less _ _ _ _ f.1 (omega arith) in
      let h = pass-if_same _ _ _ _ g.1 (omega arith) in
      let i = pass-unless_true _ _ _ h.1 (omega arith) in
      let j = pass-if_less _ _ _ _ d.1 (omega arith) in
      record {
        mark = b.marked;
        transition = f.0;
        state = g.0;
        different = h.0;
        related = i.0;
        whole = j.0;
        prices = j.1;
      }

module _ (file : FileRule) (says : RuleSays) (decides : Decides file says) (A : Automaton) (narrow : Narrow A) (C : List ℕ) (R : Pairs) (at : ℕ) where
  -- it is good, and its encoding stands there
  pub refutation-good : Passes (refutation_fault file A C R at) → IsBytes C → GoodRefutation says A R (refutation_at file A C at)
  unfolding refutation_at prices_of prices_at
  refutation-good e b =
      let p = passed file A C R at e in
      record {
        transition = p.transition;
        state = p.state;
        different = p.different;
        related = p.related;
        whole = length-entries_from 4 (signed_at C) _ _ ∙ decides.price_count A (challenger_at C at);
        fits = prices_from-fit C _ _ b;
        refutes =
            decides.only_prices A narrow.sound R (challenger_at C at) (defender_at C at) (prices_at C at) _ p.state
            (λ i less. sym (prices_from-get C _ (at + 5) i (subst (λ (k : ℕ). i < k) (sym (decides.price_count A (challenger_at C at))) less)))
            ((decides.refutes A R _ _ _).0 p.prices);
      }

  pub refutation-stands : Passes (refutation_fault file A C R at) → IsBytes C → Stands C at (refutation_bytes (refutation_at file A C at))
  unfolding refutation_at refutation_bytes challenger_at defender_at after_refutation two_bytes
  refutation-stands e b =
      let p = passed file A C R at e in
      let w = p.whole in
      after_two C at 0x5058 _ (mark-stands C at 0x5058 b (omega arith) p.mark)
      (after_two C (at + 2) (two_at C (at + 2)) _ (two-stands C (at + 2) b (omega arith))
      (stands_at
      (stands-cons C (at + 4) _ _ (omega arith) refl
      (stands_at (entries-stand ℤ 4 price_bytes length-price C (signed_at C) (price-stands C b) _ (at + 5) (omega arith)) (omega arith)))
      (omega arith)))

  pub refutation-after : Passes (refutation_fault file A C R at) → after_refutation file A C at ≡ at + length (refutation_bytes (refutation_at file A C at))
  unfolding refutation_at after_refutation
  refutation-after e =
      omega (arith, length-refutation (refutation_at file A C at), length-entries_from 4 (signed_at C) (file.price_count A (challenger_at C at)) (at + 5))

  -- where the encoding of a good refutation stands, there is no fault
  module _ (x : Refutation) (good : GoodRefutation says A R x) (stands : Stands C at (refutation_bytes x)) where
    after-mark : Stands C (at + 2) (two_bytes x.challenger ++ (x.defender ∷ prices_bytes x.prices))
    unfolding refutation_bytes two_bytes
    after-mark = rest-of-two C at 0x5058 _ stands

    after-challenger : Stands C (at + 4) (x.defender ∷ prices_bytes x.prices)
    after-challenger = stands_at (rest-of-two C (at + 2) x.challenger _ after-mark) (omega arith)

    pub challenger-read : challenger_at C at ≡ x.challenger
    unfolding challenger_at
    challenger-read =
        two_is C (at + 2) x.challenger (omega (arith, good.transition, narrow.transitions)) (stands-first C (at + 2) (two_bytes x.challenger) _ after-mark)

    pub defender-read : defender_at C at ≡ x.defender
    unfolding defender_at
    defender-read = stands-byte C (at + 4) x.defender _ after-challenger

    prices-there : Stands C (at + 5) (prices_bytes x.prices)
    prices-there = stands_at (stands-rest C (at + 4) x.defender _ after-challenger) (omega arith)

    count-read : file.price_count A (challenger_at C at) ≡ length x.prices
    count-read = ap (file.price_count A) challenger-read ∙ decides.price_count A x.challenger ∙ sym good.whole

    pub after_read : after_refutation file A C at ≡ at + length (refutation_bytes x)
    unfolding after_refutation
    after_read = omega (arith, count-read, length-refutation x)

    mark-read : two_at C at ≡ 0x5058
    unfolding refutation_bytes two_bytes
    mark-read = two_is C at 0x5058 (omega arith) (stands-first C at (0x50 ∷ 0x58 ∷ []) _ stands)

    prices-good : Passes (file.prices_fault A R (challenger_at C at) (defender_at C at) (prices_at C at))
    unfolding prices_at prices_of
    prices-good =
        (decides.refutes A R (challenger_at C at) (defender_at C at) (prices_at C at)).1
        (decides.only_prices A narrow.sound R (challenger_at C at) (defender_at C at) (prices_of x) (prices_at C at) (omega (arith, defender-read, good.state))
        (λ i less. sym (prices-read C x.prices (at + 5) good.fits prices-there i (subst (λ (k : ℕ). i < k) (sym (decides.price_count A (challenger_at C at)) ∙ count-read) less)))
        (subst₂ (λ (q u : ℕ). says.refutes A R q u (prices_of x)) (sym challenger-read) (sym defender-read) good.refutes))

    pub refutation-passes : Passes (refutation_fault file A C R at)
    unfolding refutation_fault pair_fault
    refutation-passes =
        let l = length-refutation x in
        let i = stands.inside in
        pass_on
        (first-none _ _ (opens certificate_record 0x5058 5 C at (omega arith) mark-read (omega arith))
        (first-none _ _
        (pass_on
        (less _ (omega (arith, challenger-read, good.transition))
        (less _ (omega (arith, defender-read, good.state))
        (not_same _ (λ e. good.different (sym defender-read ∙ e ∙ ap A.source challenger-read))
        (is_true _ (ap₂ (λ (q u : ℕ). R (A.source q) u) challenger-read defender-read ∙ good.related) refl))))
        refl)
        (not_less _ (omega (arith, after_read)) refl)))
        prices-good
