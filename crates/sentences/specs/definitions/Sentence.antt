-- Document 02, K12: 'Compose an English sentence that gives number, file, place, state and remainder in decimal, in this order'.
use Rattle.std.specs.Prelude.{ℕ, suc, List, ◌∷◌, ◌++◌, ℤ, pos, negsuc}
use Rattle.numbers.specs.definitions.Decimal.{decimal}
use Rattle.sentences.specs.definitions.Phrases.{bytes_of, phrase_of}

-- what a sentence tells
pub record Told : Type 0 where
  pub number : ℕ
  pub file : ℕ
  pub place : ℕ
  pub state : ℕ
  pub remainder : ℤ

-- a number with a sign in decimal: the byte 2D (hexadecimal) before those below 0
unfoldable pub signed_decimal : ℤ → List ℕ
signed_decimal (pos n) = decimal n
signed_decimal (negsuc n) = 0x2D ∷ decimal (suc n)

-- the sentence, with the phrase behind the number
unfoldable pub sentence : Told → List ℕ
sentence x =
    bytes_of "Answer " ++ (decimal x.number ++ (bytes_of ": " ++ (phrase_of x.number
    ++ (bytes_of " (file " ++ (decimal x.file
    ++ (bytes_of ", place " ++ (decimal x.place
    ++ (bytes_of ", state " ++ (decimal x.state
    ++ (bytes_of ", remainder " ++ (signed_decimal x.remainder
    ++ bytes_of ").")))))))))))
