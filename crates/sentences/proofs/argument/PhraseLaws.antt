-- No two phrases are alike, none has a digit, and all are ASCII: each by one computed test over all rows.
use Rattle.std.specs.Prelude.{ℕ, suc, ◌+◌, ◌*◌, ◌≤◌, ◌<◌, ◌≡◌, refl, Bool, true, false, not, List, [], ◌∷◌, length, eqb}
use Rattle.std.proofs.Common.{sym, ◌∙◌, ap, subst, eqb-true, arith}
use Rattle.std.proofs.Math.ListN.{get_or-eq_default}
use Rattle.std.proofs.Math.Decide.{dec_lt}
use Rattle.bisimulation.specs.definitions.Choice.{if_less, if_same, both, all_below}
use Rattle.bisimulation.proofs.argument.ChoiceLaws.{past_less, false-not, both_true, all-below}
use Rattle.numbers.specs.definitions.Decimal.{is_digit}
use Rattle.rules.specs.definitions.SoundModel.{Each}
use Rattle.sentences.specs.definitions.Phrases.{bytes_of, phrases, other_phrase, phrase_of}

-- one phrase for each number below 42, and one for all others
pub phrases-count : length phrases ≡ 42
unfolding phrases
phrases-count = refl

pub other-phrase : (number : ℕ) → length phrases ≤ number → phrase_of number ≡ other_phrase
unfolding phrase_of
other-phrase number h = get_or-eq_default phrases other_phrase h

-- the rows, the one for all others last
abbrev rows : ℕ
rows = suc (length phrases)

last_row : (number : ℕ) → rows ≤ number → phrase_of number ≡ phrase_of (length phrases)
last_row number h = other-phrase number (omega arith) ∙ sym (other-phrase (length phrases) (omega arith))

-- the bytes of a phrase as one number, and the first row that comes to a number; where none does, how many rows there are
unfoldable as_number : List ℕ → ℕ
as_number [] = 0
as_number (b ∷ bs) = b + 256 * as_number bs

unfoldable first_row : List (List ℕ) → ℕ → ℕ
first_row [] n = 0
first_row (x ∷ xs) n = if_same (as_number x) n 0 (suc (first_row xs n))

-- the test: each phrase is found in its own row first, and the one for all others in none
rows_apart : all_below rows (λ k. eqb (first_row phrases (as_number (phrase_of k))) k) ≡ true
unfolding all_below if_same bytes_of phrases other_phrase phrase_of as_number first_row
rows_apart = refl

found : (k : ℕ) → k < rows → first_row phrases (as_number (phrase_of k)) ≡ k
found k less = eqb-true _ k (all-below rows _ rows_apart k less)

-- document 02, K12: 'no two alike'
pub phrases-apart : (a b : ℕ) → a < length phrases → phrase_of a ≡ phrase_of b → a ≡ b
phrases-apart a b less e = go (dec_lt b rows)
  where
    one : (k : ℕ) → k < rows → phrase_of a ≡ phrase_of k → a ≡ k
    one k h q = sym (found a (omega arith)) ∙ ap (λ (p : List ℕ). first_row phrases (as_number p)) q ∙ found k h

    go : Dec (b < rows) → a ≡ b
    go (yes h) = one b h e
    go (no h) = let last = one (length phrases) (omega arith) (e ∙ last_row b (omega arith)) in absurd (omega arith)

-- 'and one more for all unknown ones'
pub phrase-known : (number : ℕ) → number < length phrases → phrase_of number ≡ other_phrase → ⊥
phrase-known number less e =
    let same = phrases-apart number (length phrases) less (e ∙ sym (other-phrase (length phrases) (omega arith))) in omega arith

-- bytes of ASCII that are shown, a space included
abbrev pub Shown : ℕ → Type 0
Shown b = (0x20 ≤ b) × (b ≤ 0x7E)

-- and are no digits
abbrev pub Plain : ℕ → Type 0
Plain b = Shown b × (is_digit b ≡ false)

unfoldable pub all_plain : List ℕ → Bool
all_plain [] = true
all_plain (b ∷ bs) = if_less b 0x20 false (if_less 0x7E b false (both (not (is_digit b)) (all_plain bs)))

pub plain-each : (bs : List ℕ) → all_plain bs ≡ true → Each Plain bs
unfolding all_plain Each
plain-each [] e = tt
plain-each (b ∷ bs) e =
    let low = past_less false _ b 0x20 (λ z. false-not (sym z)) (sym e) in
    let high = past_less false _ 0x7E b (λ z. false-not (sym z)) low.1 in
    let rest = both_true (not (is_digit b)) (all_plain bs) (sym high.1) in
    (((low.0, high.0), go (is_digit b) rest.0), plain-each bs rest.1)
  where
    go : (t : Bool) → not t ≡ true → t ≡ false
    go true q = absurd (false-not q)
    go false q = refl

-- the test: no phrase has another byte
rows-plain : all_below rows (λ k. all_plain (phrase_of k)) ≡ true
unfolding all_below if_less both is_digit bytes_of phrases other_phrase phrase_of all_plain
rows-plain = refl

pub phrase-plain : (number : ℕ) → Each Plain (phrase_of number)
phrase-plain number = go (dec_lt number rows)
  where
    row : (k : ℕ) → k < rows → Each Plain (phrase_of k)
    row k less = plain-each (phrase_of k) (all-below rows (λ k. all_plain (phrase_of k)) rows-plain k less)

    go : Dec (number < rows) → Each Plain (phrase_of number)
    go (yes less) = row number less
    go (no more) = subst (Each Plain) (sym (last_row number (omega arith))) (row (length phrases) (omega arith))
