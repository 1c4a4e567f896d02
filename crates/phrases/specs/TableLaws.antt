-- Laws of a table of phrases: the entry of a number is its phrase, and a number past them has the other one.
use Rattle.std.specs.Prelude.{ℕ, ◌≤◌, ◌<◌, ◌≡◌, List, map, length, get_or}
use Rattle.std.proofs.Common.{Bor, sym, ◌∙◌, ap, arith}
use Rattle.std.proofs.lemmas.List.{get_or-map, length-map}
use Rattle.sentences.specs.definitions.Phrases.{phrases, other_phrase, phrase_of}
use Rattle.sentences.proofs.argument.PhraseLaws.{other-phrase}

module _ (table : List (Bor (List ℕ))) (e : map (λ (p : Bor (List ℕ)). p.now) table ≡ phrases) {number : ℕ} where
  pub phrase-at : (past : Bor (List ℕ)) → number < length table → (get_or table number past).now ≡ phrase_of number
  unfolding phrase_of
  phrase-at past inside =
      sym (get_or-map (λ (p : Bor (List ℕ)). p.now) table number past other_phrase inside) ∙ ap (λ (l : List (List ℕ)). get_or l number other_phrase) e

  pub phrase-past : length table ≤ number → other_phrase ≡ phrase_of number
  phrase-past h = sym (other-phrase number (omega (arith, h, ap length e, length-map table (λ (p : Bor (List ℕ)). p.now))))
