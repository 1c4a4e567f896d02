-- The longest sentence, for values of the widths that the call takes.
use Rattle.std.specs.Prelude.{ℕ, suc, ◌+◌, ◌^◌, ◌≤◌, ◌<◌, ◌≡◌, refl, true, false, length, ℤ, pos, negsuc}
use Rattle.std.proofs.Common.{sym, ap, length-append, arith}
use Rattle.std.specs.Int.Signed.{mag}
use Rattle.std.proofs.Math.Decide.{dec_lt}
use Rattle.bisimulation.specs.definitions.Choice.{if_less, if_same, both, all_below}
use Rattle.bisimulation.proofs.argument.ChoiceLaws.{kept_less, false-not, all-below}
use Rattle.numbers.specs.definitions.Decimal.{is_digit, all_digits, value_from, value_of, is_number, digits_before, decimal}
use Rattle.numbers.proofs.argument.DecimalLaws.{decimal-is, decimal-length}
use Rattle.sentences.specs.definitions.Phrases.{bytes_of, phrases, other_phrase, phrase_of}
use Rattle.sentences.specs.definitions.Sentence.{Told, signed_decimal, sentence}
use Rattle.sentences.proofs.argument.PhraseLaws.{other-phrase}

-- the values that the call takes: words of 32 bits, a place and a remainder of 64
pub record FitsWords (x : Told) : Type 0 where
  pub number : x.number < 2 ^ 32
  pub file : x.file < 2 ^ 32
  pub place : x.place < 2 ^ 64
  pub state : x.state < 2 ^ 32
  pub remainder : mag x.remainder < 2 ^ 63

-- how long it is
abbrev pub longest_sentence : ℕ
longest_sentence = 201

-- a minus and 19 digits
signed-length : (z : ℤ) → mag z < 2 ^ 63 → length (signed_decimal z) ≤ 20
unfolding signed_decimal
signed-length (pos n) h = omega (arith, decimal-length 18 n (omega arith))
signed-length (negsuc n) h = omega (arith, decimal-length 18 (suc n) (omega arith))

-- the test: no number that has a phrase of its own is longer with it
rows_short : all_below (length phrases) (λ k. if_less (length (decimal k) + length (phrase_of k)) 96 true false) ≡ true
unfolding all_below if_less digits_before decimal bytes_of phrases other_phrase phrase_of
rows_short = refl

other-short : length other_phrase ≡ 41
unfolding bytes_of other_phrase
other-short = refl

number_short : (number : ℕ) → number < 2 ^ 32 → length (decimal number) + length (phrase_of number) ≤ 95
number_short number h = go (dec_lt number (length phrases))
  where
    go : Dec (number < length phrases) → length (decimal number) + length (phrase_of number) ≤ 95
    go (yes less) = omega (arith, (kept_less true false _ 96 (λ z. false-not (sym z)) (sym (all-below (length phrases) _ rows_short number less))).0)
    go (no more) =
        omega (arith, decimal-length 9 number (omega arith), ap length (other-phrase number (omega arith)), other-short)

-- its fixed texts, and what they stand between
pub sentence-length : (x : Told) → length (sentence x) ≡ 46 + (length (decimal x.number) + length (phrase_of x.number)) + length (decimal x.file) + length (decimal x.place) + length (decimal x.state) + length (signed_decimal x.remainder)
unfolding sentence bytes_of
sentence-length x = simp length-append (omega arith)

pub longest-sentence : (x : Told) → FitsWords x → length (sentence x) ≤ longest_sentence
longest-sentence x w =
    omega (arith, sentence-length x, number_short x.number w.number, decimal-length 9 x.file (omega (arith, w.file)), decimal-length 19 x.place (omega (arith, w.place)), decimal-length 9 x.state (omega (arith, w.state)), signed-length x.remainder w.remainder)

-- the greatest words, and the magnitudes of the greatest and the least remainder
pub word-decimal : decimal 4294967295 ≡ bytes_of "4294967295"
unfolding if_less if_same both is_digit all_digits value_from value_of is_number bytes_of
word-decimal = decimal-is (bytes_of "4294967295") 4294967295 refl refl

pub place-decimal : decimal 18446744073709551615 ≡ bytes_of "18446744073709551615"
unfolding if_less if_same both is_digit all_digits value_from value_of is_number bytes_of
place-decimal = decimal-is (bytes_of "18446744073709551615") 18446744073709551615 refl refl

pub most-decimal : decimal 9223372036854775807 ≡ bytes_of "9223372036854775807"
unfolding if_less if_same both is_digit all_digits value_from value_of is_number bytes_of
most-decimal = decimal-is (bytes_of "9223372036854775807") 9223372036854775807 refl refl

pub least-decimal : decimal 9223372036854775808 ≡ bytes_of "9223372036854775808"
unfolding if_less if_same both is_digit all_digits value_from value_of is_number bytes_of
least-decimal = decimal-is (bytes_of "9223372036854775808") 9223372036854775808 refl refl

-- the sentence that is as long
abbrev pub longest_told : Told
longest_told = record { number = 5; file = 4294967295; place = 18446744073709551615; state = 4294967295; remainder = negsuc 9223372036854775807 }

pub longest-fits : FitsWords longest_told
longest-fits = omega arith

five-long : length (decimal 5) + length (phrase_of 5) ≡ 95
unfolding if_less digits_before decimal bytes_of phrases other_phrase phrase_of
five-long = refl

pub longest-reached : length (sentence longest_told) ≡ longest_sentence
unfolding bytes_of signed_decimal
longest-reached = omega (arith, sentence-length longest_told, five-long, ap length word-decimal, ap length place-decimal, ap length least-decimal)
