-- Laws of the head line: the bytes that are read as a head are those of a head line with the same numbers, and the other way round.
use Rattle.std.specs.Prelude.{ℕ, ◌≤◌, ◌≡◌, ◌↔◌}
use Rattle.std.proofs.Math.Path.{sym, ap, subst}
use Rattle.std.proofs.Common.{◌∙◌, arith}
use mathlib.Core.List.{List, [], ◌∷◌, ◌++◌, append_assoc}
use Rattle.bisimulation.proofs.argument.ChoiceLaws.{not_less, not_same, is_true, past_less, kept_true, past_same}
use Rattle.numbers.specs.definitions.Decimal.{value_of, is_number, decimal}
use Rattle.numbers.proofs.argument.DecimalLaws.{number-decimal, value-decimal, decimal-value}
use Rattle.rules.specs.definitions.Limits.{Limits}
use Rattle.rules.specs.definitions.SoundModel.{Each}
use Rattle.rules.proofs.argument.SoundModelLaws.{each_append}
use Rattle.prism.specs.definitions.Lines.{pieces, Head, head, no_head, head_by, fields_head, read_head}
use Rattle.prism.specs.definitions.AllowedText.{head_line}
use Rattle.prism.proofs.argument.PieceLaws.{Without, decimal-without, pieces-parted, pieces-one, joined, joined-pieces}

-- the rules of a head: one state or more, and its numbers within the limits
pub record HeadRules (L : Limits) (h : Head) : Type 0 where
  pub some_state : 1 ≤ h.states
  pub states : h.states ≤ L.states
  pub choices : h.choices ≤ L.transitions
  pub transitions : h.transitions ≤ L.entries

-- the head line without its 0A
unfoldable pub head_of : Head → List ℕ
head_of h = decimal h.states ++ (0x20 ∷ (decimal h.choices ++ (0x20 ∷ decimal h.transitions)))

-- with its 0A it is the head line of the definition
pub head-ended : (h : Head) → head_line h ≡ head_of h ++ (0x0A ∷ [])
unfolding head_line head_of
head-ended h = simp append_assoc

-- it has no 0A in it
pub head-without : (h : Head) → Without 0x0A (head_of h)
unfolding head_of Each
head-without h =
    each_append _ (decimal h.states) _ (decimal-without 0x0A (omega arith) h.states) (
      (λ e. omega arith),
      each_append _ (decimal h.choices) _ (decimal-without 0x0A (omega arith) h.choices)
          ((λ e. omega arith), decimal-without 0x0A (omega arith) h.transitions),
    )

pub head-not : (h : Head) → head h ≡ no_head → ⊥
head-not h e = let z : ◌≡◌ {A = ℕ} 0 1 = cc in omega arith

module _ (L : Limits) where
  -- a head line is read as its numbers
  pub head_read : (h : Head) → HeadRules L h → read_head L (head_of h) ≡ head h
  unfolding read_head head_of fields_head head_by
  head_read h rules =
      let n = value-decimal h.states in
      let c = value-decimal h.choices in
      let t = value-decimal h.transitions in
      ap (fields_head L)
      (pieces-parted 0x20 (decimal h.states) _ (decimal-without 0x20 (omega arith) h.states)
      ∙ ap (λ (l : List (List ℕ)). decimal h.states ∷ l)
      (pieces-parted 0x20 (decimal h.choices) _ (decimal-without 0x20 (omega arith) h.choices)
      ∙ ap (λ (l : List (List ℕ)). decimal h.choices ∷ l) (pieces-one 0x20 (decimal h.transitions) (decimal-without 0x20 (omega arith) h.transitions))))
      ∙ sym (is_true no_head (number-decimal h.states)
      (is_true no_head (number-decimal h.choices)
      (is_true no_head (number-decimal h.transitions)
      (not_same no_head (λ e. omega (arith, rules.some_state))
      (not_less no_head (omega (arith, rules.states))
      (not_less no_head (omega (arith, rules.choices))
      (not_less no_head (omega (arith, rules.transitions))
      (λ i. head (record { states = sym n i; choices = sym c i; transitions = sym t i })))))))))

  -- three fields that are read as h
  by-head : (n c t : List ℕ) (h : Head) → head_by L n c t ≡ head h → HeadRules L h × (n ++ (0x20 ∷ (c ++ (0x20 ∷ t))) ≡ head_of h)
  unfolding head_by head_of
  by-head n c t h e =
      let n1 = kept_true _ no_head (is_number n) (head-not h) (sym e) in
      let n2 = kept_true _ no_head (is_number c) (head-not h) n1.1 in
      let n3 = kept_true _ no_head (is_number t) (head-not h) n2.1 in
      let n4 = past_same no_head _ (value_of n) 0 (head-not h) n3.1 in
      let n5 = past_less no_head _ L.states (value_of n) (head-not h) n4.1 in
      let n6 = past_less no_head _ L.transitions (value_of c) (head-not h) n5.1 in
      let n7 = past_less no_head _ L.entries (value_of t) (head-not h) n6.1 in
      let whole : h ≡ record { states = value_of n; choices = value_of c; transitions = value_of t } = cc n7.1 in
      subst (λ (k : Head). HeadRules L k × (n ++ (0x20 ∷ (c ++ (0x20 ∷ t))) ≡ head_of k)) (sym whole) (
        record { some_state = omega (arith, n4.0); states = n5.0; choices = n6.0; transitions = n7.0 },
        (λ i. sym (decimal-value n n1.0) i ++ (0x20 ∷ (sym (decimal-value c n2.0) i ++ (0x20 ∷ sym (decimal-value t n3.0) i)))),
      )

  -- bytes that are read as a head are a head line with its numbers
  pub head-good : (bytes : List ℕ) (h : Head) → read_head L bytes ≡ head h → HeadRules L h × (bytes ≡ head_of h)
  unfolding read_head fields_head joined
  head-good bytes h e = subst (λ (l : List ℕ). HeadRules L h × (l ≡ head_of h)) (joined-pieces 0x20 bytes) (go (pieces 0x20 bytes) e)
    where
      go : (ps : List (List ℕ)) → fields_head L ps ≡ head h → HeadRules L h × (joined 0x20 ps ≡ head_of h)
      go [] e = absurd (head-not h (sym e))
      go (n ∷ []) e = absurd (head-not h (sym e))
      go (n ∷ c ∷ []) e = absurd (head-not h (sym e))
      go (n ∷ c ∷ t ∷ []) e = by-head n c t h e
      go (n ∷ c ∷ t ∷ more ∷ fields) e = absurd (head-not h (sym e))

  -- bytes are read as h exactly when they are its head line, and it keeps the rules
  pub head-exactly : (bytes : List ℕ) (h : Head) → (read_head L bytes ≡ head h) ↔ (HeadRules L h × (bytes ≡ head_of h))
  head-exactly bytes h = (head-good bytes h, λ g. ap (read_head L) g.1 ∙ head_read h g.0)
