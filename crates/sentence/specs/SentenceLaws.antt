-- What the call answers once the sentence is composed.
use Rattle.std.specs.Prelude.{ℕ, ◌≡◌, List, take}
use Rattle.std.proofs.Common.{◌∙◌, ap, subst}
use Rattle.rules.specs.definitions.Answers as rules
use Rattle.sentences.specs.definitions.Sentence.{Told, sentence}
use Rattle.sentences.proofs.argument.SentenceAnswerLaws.{sentence-demands}
use Rattle.writer.specs.Appends.{Appends}
use Rattle.writer.specs.AppendsLaws.{appended-front}
use Rattle.answer.specs.declared.Answer.{Answer}
use Rattle.sentence.specs.Sentence.{SentenceAnswered, Hands}

-- the text that stands in a table is handed over
pub sentence-handed : {x y : Told} {blank composed before after : List ℕ} {size : ℕ} {r : Answer} → y ≡ x → Appends (sentence y) 0 blank composed size → Hands (take size composed) before after r → SentenceAnswered x before after r
sentence-handed {x} {before = before} {after} {r = r} same a h =
    let o = subst (λ (t : List ℕ). Hands t before after r) (appended-front a ∙ ap sentence same) h in
    record { outcome = o; demands = sentence-demands x before after r.number (ap (λ (k : rules.Answer). k.number) o.gives.answer) o.gives.buffers }

-- the values told, by other names
pub sentence-as : {x y : Told} {before after : List ℕ} {r : Answer} → y ≡ x → SentenceAnswered y before after r → SentenceAnswered x before after r
sentence-as {before = before} {after} {r} same = subst (λ (z : Told). SentenceAnswered z before after r) same
