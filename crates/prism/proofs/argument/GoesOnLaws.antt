-- When a line goes on with the pending choice: 'begin with its source and choice, each followed by a space'.
use Prim.Native.Nat.{ℕ}
use Rattle.std.proofs.Math.Path.{◌≡◌, refl, sym, ap}
use Rattle.std.proofs.Common.{◌∙◌, ap₂}
use Rattle.std.specs.Prelude.{true, false, ◌↔◌}
use mathlib.Core.List.{List, [], ◌∷◌, ◌++◌, append_assoc}
use native.Mathlib.Omega.{arith}
use Rattle.bisimulation.proofs.argument.ChoiceLaws.{same, kept_same, false-not}
use Rattle.numbers.specs.definitions.Decimal.{value_of, is_number, decimal}
use Rattle.numbers.proofs.argument.DecimalLaws.{number-decimal, value-decimal, decimal-value}
use Rattle.prism.specs.definitions.Lines.{pieces}
use Rattle.prism.specs.definitions.Reading.{begins_with, Choice, begun, goes_on}
use Rattle.prism.specs.definitions.AllowedText.{Target, probability_bytes, name_bytes}
use Rattle.prism.proofs.argument.PieceLaws.{decimal-without, pieces-parted, pieces-some, piece-next}
use Rattle.prism.proofs.argument.LineLaws.{line_of, line-pieces}

-- bytes begin with others exactly when they are these and a rest
begins-rest : (front bs : List ℕ) → begins_with front bs ≡ true → (rest : List ℕ) × (bs ≡ front ++ rest)
unfolding begins_with
begins-rest [] bs e = (bs, refl)
begins-rest (a ∷ front) [] e = absurd (false-not e)
begins-rest (a ∷ front) (b ∷ bs) e =
    let k = kept_same _ false a b (λ z. false-not (sym z)) (sym e) in
    let r = begins-rest front bs (sym k.1) in
    (r.0, ap₂ (λ (c : ℕ) (l : List ℕ). c ∷ l) (sym k.0) r.1)

rest-begins : (front rest : List ℕ) → begins_with front (front ++ rest) ≡ true
unfolding begins_with
rest-begins [] rest = refl
rest-begins (a ∷ front) rest = sym (same false refl (sym (rest-begins front rest)))

-- three pieces or more, of which the first is the number of the choice's source and the second its number
pub record GoesOn (c : Choice) (ps : List (List ℕ)) : Type 0 where
  pub first : List ℕ
  pub second : List ℕ
  pub third : List ℕ
  pub more : List (List ℕ)
  pub whole : ps ≡ first ∷ second ∷ third ∷ more
  pub is_source : is_number first ≡ true
  pub source : value_of first ≡ c.source
  pub is_choice : is_number second ≡ true
  pub number : value_of second ≡ c.number

module _ (c : Choice) where
  abbrev front : List ℕ → List ℕ
  front rest = decimal c.source ++ (0x20 ∷ (decimal c.number ++ (0x20 ∷ rest)))

  front_rest : (rest : List ℕ) → decimal c.source ++ (0x20 ∷ (decimal c.number ++ (0x20 ∷ []))) ++ rest ≡ front rest
  front_rest rest = simp append_assoc

  goes_on_lem : (bytes : List ℕ) → goes_on (begun c) bytes ≡ true → GoesOn c (pieces 0x20 bytes)
  unfolding goes_on
  goes_on_lem bytes e =
      let r = begins-rest _ bytes e in
      let ps : pieces 0x20 bytes ≡ decimal c.source ∷ decimal c.number ∷ pieces 0x20 r.0 =
      ap (pieces 0x20) (r.1 ∙ front_rest r.0)
      ∙ pieces-parted 0x20 (decimal c.source) _ (decimal-without 0x20 (omega arith) c.source)
      ∙ ap (λ (l : List (List ℕ)). decimal c.source ∷ l) (pieces-parted 0x20 (decimal c.number) _ (decimal-without 0x20 (omega arith) c.number)) in
      go r.0 (pieces 0x20 r.0) refl ps
    where
      go : (rest : List ℕ) (ps : List (List ℕ)) → pieces 0x20 rest ≡ ps → pieces 0x20 bytes ≡ decimal c.source ∷ decimal c.number ∷ pieces 0x20 rest → GoesOn c (pieces 0x20 bytes)
      go rest [] q e = absurd (pieces-some 0x20 rest q)
      go rest (x ∷ xs) q e =
          record {
            first = decimal c.source;
            second = decimal c.number;
            third = x;
            more = xs;
            whole = e ∙ ap (λ (l : List (List ℕ)). decimal c.source ∷ decimal c.number ∷ l) q;
            is_source = number-decimal c.source;
            source = value-decimal c.source;
            is_choice = number-decimal c.number;
            number = value-decimal c.number;
          }

  on-goes : (bytes : List ℕ) → GoesOn c (pieces 0x20 bytes) → goes_on (begun c) bytes ≡ true
  unfolding goes_on
  on-goes bytes g =
      let a = piece-next 0x20 bytes g.first g.second (g.third ∷ g.more) g.whole in
      let b = piece-next 0x20 a.1.0 g.second g.third g.more a.1.2 in
      let s : g.first ≡ decimal c.source = sym (decimal-value g.first g.is_source) ∙ ap decimal g.source in
      let n : g.second ≡ decimal c.number = sym (decimal-value g.second g.is_choice) ∙ ap decimal g.number in
      let rest = b.1.0 in
      let whole : bytes ≡ decimal c.source ++ (0x20 ∷ (decimal c.number ++ (0x20 ∷ []))) ++ rest =
      a.1.1 ∙ ap (λ (l : List ℕ). g.first ++ (0x20 ∷ l)) b.1.1
      ∙ (λ i. s i ++ (0x20 ∷ (n i ++ (0x20 ∷ rest))))
      ∙ sym (front_rest rest) in
      ap (begins_with (decimal c.source ++ (0x20 ∷ (decimal c.number ++ (0x20 ∷ []))))) whole ∙ rest-begins _ rest

  -- a line goes on with the pending choice exactly when its pieces say so
  pub goes-on-pieces : (bytes : List ℕ) → (goes_on (begun c) bytes ≡ true) ↔ GoesOn c (pieces 0x20 bytes)
  goes-on-pieces bytes = (goes_on_lem bytes, on-goes bytes)

  -- the empty line does not
  pub nothing-goes-on : goes_on (begun c) [] ≡ true → ⊥
  unfolding pieces
  nothing-goes-on e = let g = goes_on_lem [] e in let z : ◌≡◌ {A = ℕ} 0 1 = cc g.whole in omega arith

  -- a line does where its source and its number are those of the choice
  pub line-goes-on : (s n : ℕ) (name : List ℕ) (x : Target) → (goes_on (begun c) (line_of s n name x) ≡ true) ↔ ((s ≡ c.source) × (n ≡ c.number))
  unfolding line_of
  line-goes-on s n name x = (there, back)
    where
      last : List ℕ
      last = probability_bytes x.probability ++ name_bytes name

      there : goes_on (begun c) (line_of s n name x) ≡ true → (s ≡ c.source) × (n ≡ c.number)
      there e =
          let g = goes_on_lem (line_of s n name x) e in
          let ps = line-pieces s n x last in
          let a : decimal s ≡ g.first = cc (ps, g.whole) in
          let b : decimal n ≡ g.second = cc (ps, g.whole) in
          (sym (value-decimal s) ∙ ap value_of a ∙ g.source, sym (value-decimal n) ∙ ap value_of b ∙ g.number)

      back : (s ≡ c.source) × (n ≡ c.number) → goes_on (begun c) (line_of s n name x) ≡ true
      back h =
          on-goes (line_of s n name x)
          (record {
            first = decimal s;
            second = decimal n;
            third = decimal x.state;
            more = pieces 0x20 last;
            whole = line-pieces s n x last;
            is_source = number-decimal s;
            source = value-decimal s ∙ h.0;
            is_choice = number-decimal n;
            number = value-decimal n ∙ h.1;
          })
