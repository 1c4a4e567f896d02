-- Answers without a place, and refusals at a place of a file.
use Rattle.std.specs.Prelude.{ℕ, ◌≤◌, ◌<◌, ◌≡◌, refl, List, [], ◌∷◌, ◌++◌, length, drop}
use Rattle.std.proofs.Common.{sym, ◌∙◌, ap, subst, arith}
use Rattle.std.proofs.Math.Decide.{dec_lt}
use Rattle.rules.specs.definitions.Faults as rules-faults
use Rattle.rules.specs.definitions.Answers as rules
use Rattle.rules.specs.definitions.Answers.{Outcome, left_in, first_written, refusal_in, answer_without_place, file_of, unwritten, filled_with, filled_each, filled, files_outcome}
use Rattle.rules.proofs.argument.AnswerLaws.{left-unwritten, file-short, file-whole, files-without}
use Rattle.answer.specs.declared.Answer.{Answer}
use Rattle.answer.specs.Answered.{answered, Says, FileAnswered, FileWritten, StretchInside, Gives, OutcomeIs}

-- an answer whose number and length are known by other names
pub without-as : (number written : ℕ) {k w : ℕ} {r : Answer} → Says (answer_without_place k) w r → k ≡ number → w ≡ written → Says (answer_without_place number) written r
without-as number written s f g = record { answer = s.answer ∙ ap answer_without_place f; wrote = s.wrote ∙ g }

pub refusal-as : (f : rules-faults.Fault) (file place size : ℕ) {k z : ℕ} {r : Answer} → Says (refusal_in f k place z) 0 r → k ≡ file → z ≡ size → Says (refusal_in f file place size) 0 r
refusal-as f file place size {z = z} s g h = record { answer = s.answer ∙ ap (λ (x : ℕ). refusal_in f x place z) g ∙ ap (refusal_in f file place) h; wrote = s.wrote }

-- a stretch that is empty and has no file
pub without-inside : {files : List (List ℕ)} {r : Answer} (number : ℕ) → answered r ≡ answer_without_place number → StretchInside files r
unfolding answer_without_place
without-inside number e =
    record {
      named = omega (arith, ap (λ (x : rules.Answer). x.file) e);
      fits = omega (arith, ap (λ (x : rules.Answer). x.stretch_start) e, ap (λ (x : rules.Answer). x.stretch_length) e);
    }

-- an outcome in other words
pub gives_as : {o given : Outcome} {after : List (List ℕ)} {r : Answer} → given ≡ o → Gives given after r → Gives o after r
gives_as e g = record { answer = g.answer ∙ ap (λ (x : Outcome). x.answer) e; buffers = g.buffers ∙ ap left_in e; wrote = g.wrote ∙ ap first_written e }

-- nothing is written
none_written : (a : rules.Answer) (before : List (List ℕ)) → first_written (unwritten a before) ≡ 0
unfolding unwritten
none_written a [] = refl
none_written a (buffer ∷ before) = refl

pub gives-unwritten : (before : List (List ℕ)) (a : rules.Answer) {o : Outcome} {r : Answer} → Says a 0 r → unwritten a before ≡ o → Gives o before r
unfolding unwritten
gives-unwritten before a s e = gives_as e (record { answer = s.answer; buffers = sym (left-unwritten a before); wrote = s.wrote ∙ sym (none_written a before) })

-- bytes are written into the one buffer
pub gives-filled : (bytes before : List ℕ) {after : List ℕ} {o : Outcome} {r : Answer} → Says (answer_without_place 0) (length bytes) r → after ≡ bytes ++ drop (length bytes) before → filled (bytes ∷ []) (before ∷ []) ≡ o → Gives o (after ∷ []) r
unfolding filled filled_each filled_with
gives-filled bytes before s e f = gives_as f (record { answer = s.answer; buffers = ap (λ (l : List ℕ). l ∷ []) e; wrote = s.wrote })

-- a writer that has no room for its file, and one that has
module _ (file : List ℕ) {before : List ℕ} {size : ℕ} (e : size ≡ length file) where
  pub written-short : length before < size → FileWritten file before before size
  written-short h = record { says = e; short = λ l. refl; whole = λ l. absurd (omega arith) }

  pub written-whole : {after : List ℕ} → size ≤ length before → after ≡ file ++ drop (length file) before → FileWritten file before after size
  written-whole h w = record { says = e; short = λ l. absurd (omega arith); whole = λ l. w }

-- a file is written where there is room
module _ (short : ℕ) (file before : List ℕ) {after : List ℕ} {size : ℕ} {r : Answer} (w : FileWritten file before after size) (a : FileAnswered short size (length before) r) where
  pub gives-file : Gives (files_outcome short (file ∷ []) (before ∷ [])) (after ∷ []) r
  gives-file = go (dec_lt (length before) (length file))
    where
      go : Dec (length before < length file) → Gives (files_outcome short (file ∷ []) (before ∷ [])) (after ∷ []) r
      go (yes h) =
          subst (λ (l : List ℕ). Gives (files_outcome short (file ∷ []) (before ∷ [])) (l ∷ []) r) (sym (w.short h))
          (gives-unwritten (before ∷ []) _ (a.few (omega (arith, h, w.says))) (file-short short file before h))
      go (no n) =
          let fits : length file ≤ length before = omega arith in
          gives-filled file before (without-as 0 _ (a.enough (omega (arith, fits, w.says))) refl w.says) (w.whole fits) (file-whole short file before fits)

  pub file-stretch : {files : List (List ℕ)} → OutcomeIs (files_outcome short (file ∷ []) (before ∷ [])) files (after ∷ []) r
  file-stretch {files} =
      let g = gives-file in
      record {
        gives = g;
        inside = files-without short (file ∷ []) (before ∷ []) (λ (x : rules.Answer). answered r ≡ x → StretchInside files r) (λ number e. without-inside number e) g.answer;
      }

-- an outcome without a place
pub without-stretch : {files after : List (List ℕ)} {o : Outcome} {r : Answer} (number : ℕ) → answered r ≡ answer_without_place number → Gives o after r → OutcomeIs o files after r
without-stretch number e g = record { gives = g; inside = without-inside number e }

-- a refusal at a place of a file
pub with-stretch : (files before : List (List ℕ)) {o : Outcome} (f : rules-faults.Fault) (file place : ℕ) {r : Answer} → Says (refusal_in f file place (length (file_of files file))) 0 r → unwritten (refusal_in f file place (length (file_of files file))) before ≡ o → file ≤ length files → place ≤ length (file_of files file) → OutcomeIs o files before r
unfolding refusal_in
with-stretch files before f file place {r} s g h l =
    let e = s.answer in
    record {
      gives = gives-unwritten before _ s g;
      inside =
          record {
            named = omega (arith, ap (λ (x : rules.Answer). x.file) e);
            fits = omega (arith, ap (λ (x : rules.Answer). x.stretch_start) e, ap (λ (x : rules.Answer). x.stretch_length) e, ap (λ (x : rules.Answer). length (file_of files x.file)) e, l);
          };
    }
