-- A sentence in the parts that it is composed of.
use Rattle.std.specs.Prelude.{ℕ, List, ◌++◌, ℤ}
use Rattle.numbers.specs.definitions.Decimal.{decimal}
use Rattle.sentences.specs.definitions.Phrases.{bytes_of, phrase_of}
use Rattle.sentences.specs.definitions.Sentence.{signed_decimal}

unfoldable pub opening : (number : ℕ) → List ℕ
opening number = bytes_of "Answer " ++ (decimal number ++ (bytes_of ": " ++ phrase_of number))

unfoldable pub fields : (file place state : ℕ) → List ℕ
fields file place state =
    bytes_of " (file " ++ (decimal file ++ (bytes_of ", place " ++ (decimal place ++ (bytes_of ", state " ++ decimal state))))

unfoldable pub closing : (remainder : ℤ) → List ℕ
closing remainder = bytes_of ", remainder " ++ (signed_decimal remainder ++ bytes_of ").")
