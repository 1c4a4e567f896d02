-- A sentence is read back, so that answers which differ never give the same one; and it is ASCII.
use Rattle.std.specs.Prelude.{ℕ, suc, ◌≡◌, refl, true, false, List, [], ◌∷◌, ◌++◌, drop, ℤ, pos, negsuc}
use Prim.Native.String.{String}
use Rattle.std.proofs.Common.{sym, ◌∙◌, ap, arith}
use Rattle.std.proofs.lemmas.List.{append_cancel_left}
use Rattle.std.proofs.Math.Nat.{suc_inj}
use Rattle.bisimulation.specs.definitions.Choice.{if_less, both}
use Rattle.bisimulation.proofs.argument.ChoiceLaws.{both_true}
use Rattle.numbers.specs.definitions.Decimal.{is_digit, all_digits, decimal}
use Rattle.numbers.proofs.argument.DecimalLaws.{digit-bounds, decimal-digits, decimal-some, digits-then, decimal-then}
use Rattle.rules.specs.definitions.SoundModel.{Each}
use Rattle.rules.proofs.argument.SoundModelLaws.{each_map, each_append}
use Rattle.sentences.specs.definitions.Phrases.{bytes_of, phrase_of}
use Rattle.sentences.specs.definitions.Sentence.{Told, signed_decimal, sentence}
use Rattle.sentences.proofs.argument.PhraseLaws.{Shown, Plain, all_plain, plain-each, phrase-plain}

-- the minus is no digit
minus : is_digit 0x2D ≡ false
unfolding is_digit if_less
minus = refl

-- a number with a sign is read back: it begins with a digit, or with a minus
pub signed-then : (a b : ℤ) (c d : ℕ) (rest more : List ℕ) → is_digit c ≡ false → is_digit d ≡ false → signed_decimal a ++ (c ∷ rest) ≡ signed_decimal b ++ (d ∷ more) → (a ≡ b) × (c ∷ rest ≡ d ∷ more)
unfolding signed_decimal all_digits
signed-then (pos n) (pos m) c d rest more f g e = let r = decimal-then n m c d rest more f g e in (ap pos r.0, r.1)
signed-then (pos n) (negsuc m) c d rest more f g e =
    absurd (decimal-some n (digits-then (decimal n) [] c 0x2D rest _ (decimal-digits n) refl f minus e).0)
signed-then (negsuc n) (pos m) c d rest more f g e =
    absurd (decimal-some m (digits-then (decimal m) [] d 0x2D more _ (decimal-digits m) refl g minus (sym e)).0)
signed-then (negsuc n) (negsuc m) c d rest more f g e =
    let r = decimal-then (suc n) (suc m) c d rest more f g (ap (drop 1) e) in
    (ap negsuc (suc_inj r.0), r.1)

-- what follows the phrases of one number
behind : {a b : ℕ} → a ≡ b → (rest more : List ℕ) → phrase_of a ++ rest ≡ phrase_of b ++ more → rest ≡ more
behind {a} same rest more e = append_cancel_left (phrase_of a) rest more (e ∙ ap (λ (n : ℕ). phrase_of n ++ more) (sym same))

-- document 02, K12: 'Answers that differ in any of these five never give the same sentence'
pub told-apart : (x y : Told) → sentence x ≡ sentence y → x ≡ y
unfolding sentence bytes_of is_digit if_less
told-apart x y e =
    let number = decimal-then x.number y.number _ _ _ _ refl refl (ap (drop 7) e) in
    let told = behind number.0 _ _ (ap (drop 2) number.1) in
    let file = decimal-then x.file y.file _ _ _ _ refl refl (ap (drop 7) told) in
    let place = decimal-then x.place y.place _ _ _ _ refl refl (ap (drop 8) file.1) in
    let state = decimal-then x.state y.state _ _ _ _ refl refl (ap (drop 8) place.1) in
    let remainder = signed-then x.remainder y.remainder _ _ _ _ refl refl (ap (drop 12) state.1) in
    λ i. record { number = number.0 i; file = file.0 i; place = place.0 i; state = state.0 i; remainder = remainder.0 i }

-- digits, and so numbers in decimal, are ASCII
plain-shown : (bs : List ℕ) → Each Plain bs → Each Shown bs
plain-shown = each_map Plain Shown (λ b h. h.0)

digits-shown : (bs : List ℕ) → all_digits bs ≡ true → Each Shown bs
unfolding all_digits Each
digits-shown [] e = tt
digits-shown (b ∷ bs) e =
    let d = both_true (is_digit b) (all_digits bs) e in
    let r = digit-bounds b d.0 in
    (omega arith, digits-shown bs d.1)

decimal-shown : (n : ℕ) → Each Shown (decimal n)
decimal-shown n = digits-shown (decimal n) (decimal-digits n)

signed-shown : (z : ℤ) → Each Shown (signed_decimal z)
unfolding signed_decimal Each
signed-shown (pos n) = decimal-shown n
signed-shown (negsuc n) = (omega arith, decimal-shown (suc n))

-- a fixed text, by the test
text-then : (text : String) → all_plain (bytes_of text) ≡ true → (rest : List ℕ) → Each Shown rest → Each Shown (bytes_of text ++ rest)
text-then text plain rest h = each_append Shown (bytes_of text) rest (plain-shown (bytes_of text) (plain-each (bytes_of text) plain)) h

pub sentence-ascii : (x : Told) → Each Shown (sentence x)
unfolding sentence bytes_of all_plain is_digit if_less both
sentence-ascii x =
    text-then "Answer " refl _ (each_append Shown _ _ (decimal-shown x.number)
    (text-then ": " refl _ (each_append Shown _ _ (plain-shown (phrase_of x.number) (phrase-plain x.number))
    (text-then " (file " refl _ (each_append Shown _ _ (decimal-shown x.file)
    (text-then ", place " refl _ (each_append Shown _ _ (decimal-shown x.place)
    (text-then ", state " refl _ (each_append Shown _ _ (decimal-shown x.state)
    (text-then ", remainder " refl _ (each_append Shown _ _ (signed-shown x.remainder) (plain-shown _ (plain-each (bytes_of ").") refl)))))))))))))
