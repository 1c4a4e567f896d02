-- Laws of the lines: the bytes that are read as a line are those of a line with the same values, and the other way round.
use Rattle.std.specs.Prelude.{ℕ, ◌*◌, ◌-◌, ◌^◌, ◌≤◌, ◌<◌, ◌≡◌, refl, true, false, List, [], ◌∷◌, ◌++◌, ◌↔◌, length}
use Rattle.std.proofs.Common.{sym, ◌∙◌, ap, ap₂, subst, append_assoc, append-nil, mul-pos, zero-mul}
use native.Mathlib.Omega.{arith}
use Rattle.std.proofs.Math.Nat.{one-le-pow}
use Rattle.std.proofs.Math.Decide.{dec_lt}
use Rattle.bisimulation.proofs.argument.ChoiceLaws.{not_less, same, not_same, is_true, past_less, kept_same, kept_true, past_same, false-not}
use Rattle.numbers.specs.definitions.Decimal.{all_digits, value_from, value_of, is_number, decimal}
use Rattle.numbers.proofs.argument.DecimalLaws.{number-decimal, value-decimal, decimal-value}
use Rattle.rules.specs.definitions.SoundModel.{Each}
use Rattle.rules.proofs.argument.SoundModelLaws.{each_append, each_map}
use Rattle.prism.specs.definitions.Lines.{pieces, fraction, ten_thousandths, all_shown, is_name, Line, good, broken, line_by, fields_line, read_line}
use Rattle.prism.specs.definitions.AllowedText.{Probability, one, point, Target, WrittenChoice, ProbabilityRules, parts_of, probability_bytes, name_bytes, line_bytes}
use Rattle.prism.proofs.argument.PieceLaws.{Without, Digit, all_digits_lem, digits-all, decimal-without, pieces-parted, pieces-one, joined, joined-pieces}

-- a probability is read as its ten-thousandths
pub parts-read : (q : Probability) → ProbabilityRules q → ten_thousandths (probability_bytes q) ≡ parts_of q
unfolding ten_thousandths probability_bytes parts_of ProbabilityRules fraction
parts-read one rules = sym (same 0 refl refl)
parts-read (point ds) rules =
    sym (same 0 refl (same 0 refl (not_less 0 rules.1 (is_true 0 (digits-all ds rules.2) refl))))

-- which are some
pub parts-some : (q : Probability) → ProbabilityRules q → 0 < parts_of q
unfolding parts_of ProbabilityRules
parts-some one rules = omega arith
parts-some (point ds) rules = mul-pos rules.3 (one-le-pow (4 - length ds) 10 (omega arith))

-- bytes that are read as some ten-thousandths are a probability
pub read-parts : (bytes : List ℕ) → (ten_thousandths bytes ≡ 0 → ⊥) → (q : Probability) × ProbabilityRules q × (probability_bytes q ≡ bytes)
unfolding ten_thousandths probability_bytes ProbabilityRules fraction
read-parts [] n = absurd (n refl)
read-parts (b ∷ []) n =
    let a = kept_same 10000 0 b 0x31 n refl in
    (one, tt, ap (λ (c : ℕ). c ∷ []) (sym a.0))
read-parts (b ∷ c ∷ ds) n =
    let x = kept_same _ 0 b 0x30 n refl in
    let y = kept_same _ 0 c 0x2E n x.1 in
    let z = past_less 0 _ 4 (length ds) n y.1 in
    let w = kept_true _ 0 (all_digits ds) n z.1 in
    (point ds, (nonempty ds (λ e. n (w.1 ∙ e)), z.0, all_digits_lem ds w.0, positive (λ e. n (w.1 ∙ e))), ap₂ (λ (s t : ℕ). s ∷ t ∷ ds) (sym x.0) (sym y.0))
  where
    positive : (value_of ds * 10 ^ (4 - length ds) ≡ 0 → ⊥) → 1 ≤ value_of ds
    positive some = go (dec_lt 0 (value_of ds))
      where
        go : Dec (0 < value_of ds) → 1 ≤ value_of ds
        go (yes h) = h
        go (no h) =
            let z : value_of ds ≡ 0 = omega arith in
            absurd (some (ap (λ (k : ℕ). k * 10 ^ (4 - length ds)) z ∙ zero-mul (10 ^ (4 - length ds))))

    nonempty : (l : List ℕ) → (value_of l * 10 ^ (4 - length l) ≡ 0 → ⊥) → 1 ≤ length l
    nonempty [] some = absurd (some (unfold value_of value_from in refl))
    nonempty (d ∷ l) some = omega arith

-- a name's bytes, 'one or more bytes 21 to 7E hexadecimal', or none
abbrev pub Shown : List ℕ → Type 0
Shown = Each (λ (b : ℕ). (0x21 ≤ b) × (b ≤ 0x7E))

shown-all : (bs : List ℕ) → Shown bs → all_shown bs ≡ true
unfolding Each all_shown
shown-all [] h = refl
shown-all (b ∷ bs) h = sym (not_less false h.0.0 (not_less false h.0.1 (sym (shown-all bs h.1))))

all_shown_lem : (bs : List ℕ) → all_shown bs ≡ true → Shown bs
unfolding Each all_shown
all_shown_lem [] e = tt
all_shown_lem (b ∷ bs) e =
    let low = past_less false _ b 0x21 (λ z. false-not (sym z)) (sym e) in
    let high = past_less false _ 0x7E b (λ z. false-not (sym z)) low.1 in
    ((low.0, high.0), all_shown_lem bs (sym high.1))

pub name-shown : (bs : List ℕ) → is_name bs ≡ true → Shown bs
unfolding is_name
name-shown [] e = absurd (false-not e)
name-shown (b ∷ bs) e = all_shown_lem (b ∷ bs) e

shown-name : (b : ℕ) (bs : List ℕ) → Shown (b ∷ bs) → is_name (b ∷ bs) ≡ true
unfolding is_name
shown-name b bs h = shown-all (b ∷ bs) h

-- a line without its 0A, of a choice with this source, number and name
unfoldable pub line_of : (source number : ℕ) (name : List ℕ) → Target → List ℕ
line_of s n name x = decimal s ++ (0x20 ∷ (decimal n ++ (0x20 ∷ (decimal x.state ++ (0x20 ∷ (probability_bytes x.probability ++ name_bytes name))))))

-- and its values
unfoldable pub line_value : (source number : ℕ) (name : List ℕ) → Target → Line
line_value s n name x = record { source = s; choice = n; target = x.state; parts = parts_of x.probability; name = name }

-- with its 0A it is the line of the definition
pub line-ended : (c : WrittenChoice) (x : Target) → line_bytes c x ≡ line_of c.source c.number c.name x ++ (0x0A ∷ [])
unfolding line_bytes line_of
line-ended c x = simp append_assoc

-- bytes of digits, a point and names
probability-without : (p : ℕ) → p < 0x2E → (q : Probability) → ProbabilityRules q → Without p (probability_bytes q)
unfolding Each probability_bytes ProbabilityRules
probability-without p low one rules = ((λ e. omega arith), tt)
probability-without p low (point ds) rules =
    ((λ e. omega arith), ((λ e. omega arith), each_map Digit _ (λ b h e. omega arith) ds rules.2))

pub shown-without : (p : ℕ) → p < 0x21 → (bs : List ℕ) → Shown bs → Without p bs
shown-without p low bs = each_map (λ (b : ℕ). (0x21 ≤ b) × (b ≤ 0x7E)) (λ (b : ℕ). b ≡ p → ⊥) (λ b h e. omega arith) bs

then-without : (p b : ℕ) (bs : List ℕ) → (b ≡ p → ⊥) → Without p bs → Without p (b ∷ bs)
unfolding Each
then-without p b bs n h = (n, h)

-- a line has no 0A in it
pub line-without : (s n : ℕ) (name : List ℕ) (x : Target) → Shown name → ProbabilityRules x.probability → Without 0x0A (line_of s n name x)
unfolding line_of
line-without s n name x shown rules =
    each_append _ (decimal s) _ (decimal-without 0x0A (omega arith) s)
    (then-without _ _ _ (λ e. omega arith)
    (each_append _ (decimal n) _ (decimal-without 0x0A (omega arith) n)
    (then-without _ _ _ (λ e. omega arith)
    (each_append _ (decimal x.state) _ (decimal-without 0x0A (omega arith) x.state)
    (then-without _ _ _ (λ e. omega arith)
    (each_append _ (probability_bytes x.probability) _ (probability-without 0x0A (omega arith) x.probability rules)
    (named name shown)))))))
  where
    named : (bs : List ℕ) → Shown bs → Without 0x0A (name_bytes bs)
    named [] h = unfold name_bytes Each in tt
    named (b ∷ bs) h = unfold name_bytes Each in ((λ e. omega arith), shown-without 0x0A (omega arith) (b ∷ bs) h)

-- four fields
line-by : (s n : ℕ) (name : List ℕ) (x : Target) → ProbabilityRules x.probability → line_by (decimal s) (decimal n) (decimal x.state) (probability_bytes x.probability) name ≡ good (line_value s n name x)
unfolding line_by line_value
line-by s n name x rules =
    let parts = parts-read x.probability rules in
    let some = parts-some x.probability rules in
    sym (is_true broken (number-decimal s)
    (is_true broken (number-decimal n)
    (is_true broken (number-decimal x.state)
    (not_same broken (λ e. omega arith)
    (λ i. good (record { source = sym (value-decimal s) i; choice = sym (value-decimal n) i; target = sym (value-decimal x.state) i; parts = sym parts i; name = name }))))))

-- the pieces of a line are its fields
pub line-pieces : (s n : ℕ) (x : Target) (last : List ℕ) → pieces 0x20 (decimal s ++ (0x20 ∷ (decimal n ++ (0x20 ∷ (decimal x.state ++ (0x20 ∷ last)))))) ≡ decimal s ∷ decimal n ∷ decimal x.state ∷ pieces 0x20 last
line-pieces s n x last =
    pieces-parted 0x20 (decimal s) _ (decimal-without 0x20 (omega arith) s)
    ∙ ap (λ (l : List (List ℕ)). decimal s ∷ l)
    (pieces-parted 0x20 (decimal n) _ (decimal-without 0x20 (omega arith) n)
    ∙ ap (λ (l : List (List ℕ)). decimal n ∷ l) (pieces-parted 0x20 (decimal x.state) _ (decimal-without 0x20 (omega arith) x.state)))

-- a line is read as its values
pub line_read : (s n : ℕ) (name : List ℕ) (x : Target) → Shown name → ProbabilityRules x.probability → read_line (line_of s n name x) ≡ good (line_value s n name x)
unfolding read_line line_of fields_line name_bytes
line_read s n [] x shown rules =
    ap fields_line (line-pieces s n x _ ∙ ap (λ (l : List (List ℕ)). decimal s ∷ decimal n ∷ decimal x.state ∷ l)
    (ap (pieces 0x20) (append-nil (probability_bytes x.probability)) ∙ pieces-one 0x20 (probability_bytes x.probability) (probability-without 0x20 (omega arith) x.probability rules)))
    ∙ line-by s n [] x rules
line_read s n (b ∷ bs) x shown rules =
    ap fields_line (line-pieces s n x _ ∙ ap (λ (l : List (List ℕ)). decimal s ∷ decimal n ∷ decimal x.state ∷ l)
    (pieces-parted 0x20 (probability_bytes x.probability) (b ∷ bs) (probability-without 0x20 (omega arith) x.probability rules)
    ∙ ap (λ (l : List (List ℕ)). probability_bytes x.probability ∷ l) (pieces-one 0x20 (b ∷ bs) (shown-without 0x20 (omega arith) (b ∷ bs) shown))))
    ∙ sym (is_true broken (shown-name b bs shown) (sym (line-by s n (b ∷ bs) x rules)))

-- bytes that are read as y are a line with its values
pub record GoodLine (bytes : List ℕ) (y : Line) : Type 0 where
  pub line : Target
  pub rules : ProbabilityRules line.probability
  pub shown : Shown y.name
  pub written : bytes ≡ line_of y.source y.choice y.name line
  pub value : y ≡ line_value y.source y.choice y.name line

pub good-not : (y : Line) → good y ≡ broken → ⊥
good-not y e = let z : ◌≡◌ {A = ℕ} 0 1 = cc in omega arith

-- four fields that are read as y
by-good : (s c t p name : List ℕ) (y : Line) → Shown name → line_by s c t p name ≡ good y → GoodLine (s ++ (0x20 ∷ (c ++ (0x20 ∷ (t ++ (0x20 ∷ (p ++ name_bytes name))))))) y
unfolding line_by line_of line_value
by-good s c t p name y shown e =
    let n1 = kept_true _ broken (is_number s) (good-not y) (sym e) in
    let n2 = kept_true _ broken (is_number c) (good-not y) n1.1 in
    let n3 = kept_true _ broken (is_number t) (good-not y) n2.1 in
    let n4 = past_same broken _ (ten_thousandths p) 0 (good-not y) n3.1 in
    let q = read-parts p n4.0 in
    let whole : y ≡ record { source = value_of s; choice = value_of c; target = value_of t; parts = ten_thousandths p; name = name } = cc n4.1 in
    let parts : ten_thousandths p ≡ parts_of q.0 = ap ten_thousandths (sym q.2) ∙ parts-read q.0 q.1 in
    let line : Target = record { state = value_of t; probability = q.0 } in
    subst (GoodLine _) (sym whole)
    (record {
      line = line;
      rules = q.1;
      shown = shown;
      written = λ i. sym (decimal-value s n1.0) i ++ (0x20 ∷ (sym (decimal-value c n2.0) i ++ (0x20 ∷ (sym (decimal-value t n3.0) i ++ (0x20 ∷ (sym q.2 i ++ name_bytes name))))));
      value = λ i. record { source = value_of s; choice = value_of c; target = value_of t; parts = parts i; name = name };
    })

-- bytes that are read as y are a line with its values
pub line-good : (bytes : List ℕ) (y : Line) → read_line bytes ≡ good y → GoodLine bytes y
unfolding read_line fields_line joined name_bytes is_name Each
line-good bytes y e = subst (λ (l : List ℕ). GoodLine l y) (joined-pieces 0x20 bytes) (go (pieces 0x20 bytes) e)
  where
    go : (ps : List (List ℕ)) → fields_line ps ≡ good y → GoodLine (joined 0x20 ps) y
    go [] e = absurd (good-not y (sym e))
    go (s ∷ []) e = absurd (good-not y (sym e))
    go (s ∷ c ∷ []) e = absurd (good-not y (sym e))
    go (s ∷ c ∷ t ∷ []) e = absurd (good-not y (sym e))
    go (s ∷ c ∷ t ∷ p ∷ []) e =
        subst (λ (l : List ℕ). GoodLine (s ++ (0x20 ∷ (c ++ (0x20 ∷ (t ++ (0x20 ∷ l)))))) y) (append-nil p) (by-good s c t p [] y tt e)
    go (s ∷ c ∷ t ∷ p ∷ (b ∷ bs) ∷ []) e =
        let k = kept_true _ broken (is_name (b ∷ bs)) (good-not y) (sym e) in
        by-good s c t p (b ∷ bs) y (name-shown (b ∷ bs) k.0) (sym k.1)
    go (s ∷ c ∷ t ∷ p ∷ [] ∷ []) e =
        let k = kept_true _ broken (is_name []) (good-not y) (sym e) in absurd (false-not k.0)
    go (s ∷ c ∷ t ∷ p ∷ name ∷ more ∷ fields) e = absurd (good-not y (sym e))

-- bytes are read as y exactly when they are a line with its values
pub line-exactly : (bytes : List ℕ) (y : Line) → (read_line bytes ≡ good y) ↔ GoodLine bytes y
line-exactly bytes y = (
  line-good bytes y,
  λ g. ap read_line g.written ∙ line_read y.source y.choice y.name g.line g.shown g.rules ∙ ap good (sym g.value),
)
