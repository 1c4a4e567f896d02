-- Laws of a sentence's parts: how long they are, and that one behind the other they are the sentence.
use Rattle.std.specs.Prelude.{ℕ, ◌+◌, ◌≡◌, refl, ◌++◌, length, ℤ}
use Rattle.std.proofs.Common.{ap, append_assoc, length-append, arith}
use Rattle.numbers.specs.definitions.Decimal.{decimal}
use Rattle.sentences.specs.definitions.Phrases.{bytes_of, phrase_of}
use Rattle.sentences.specs.definitions.Sentence.{Told, signed_decimal, sentence}
use Rattle.sentence.specs.Parts.{opening, fields, closing}

pub opening-length : (number : ℕ) → length (opening number) ≡ 9 + length (decimal number) + length (phrase_of number)
unfolding opening bytes_of
opening-length number = simp length-append (omega arith)

pub fields-length : (file place state : ℕ) → length (fields file place state) ≡ 23 + length (decimal file) + length (decimal place) + length (decimal state)
unfolding fields bytes_of
fields-length file place state = simp length-append (omega arith)

pub closing-length : (z : ℤ) → length (closing z) ≡ 14 + length (signed_decimal z)
unfolding closing bytes_of
closing-length z = simp length-append (omega arith)

pub sentence-parts : (x : Told) → sentence x ≡ opening x.number ++ (fields x.file x.place x.state ++ closing x.remainder)
unfolding sentence opening fields closing bytes_of
sentence-parts x = simp append_assoc refl

pub parts-length : (x : Told) → length (sentence x) ≡ length (opening x.number) + length (fields x.file x.place x.state) + length (closing x.remainder)
parts-length x =
    let middle = fields x.file x.place x.state in
    let last = closing x.remainder in
    omega (arith, ap length (sentence-parts x), length-append (opening x.number) (middle ++ last), length-append middle last)
