-- The bytes that a call wrote are the file that it made, and a file holds one model.
use Rattle.std.specs.Prelude.{ℕ, ◌≡◌, List, [], ◌∷◌, length, take}
use Rattle.std.proofs.Common.{sym, ◌∙◌, ap}
use Rattle.std.proofs.Math.Seq.{take-append_seam}
use Rattle.rules.specs.definitions.Limits.{Limits}
use Rattle.rules.specs.definitions.Model.{Model, model_bytes}
use Rattle.rules.specs.definitions.Reading.{model, read_whole}
use Rattle.rules.specs.definitions.SoundModel.{FitsWidths}
use Rattle.rules.specs.definitions.Accepted.{FileOf}
use Rattle.rules.specs.definitions.Answers.{Outcome, left_in, first_written, first_lent, filled_with, filled_each, filled, files_outcome}
use Rattle.rules.proofs.argument.ReadBack.{read-back-whole}
use Rattle.rules.proofs.argument.AnswerLaws.{file-whole, file-fits}

-- the bytes that were written into the first lent buffer
abbrev pub wrote_first : Outcome → List ℕ
wrote_first o = take (first_written o) (first_lent (left_in o))

pub file-written : (short : ℕ) (file buffer : List ℕ) → (short ≡ 0 → ⊥) → (files_outcome short (file ∷ []) (buffer ∷ [])).answer.number ≡ 0 → wrote_first (files_outcome short (file ∷ []) (buffer ∷ [])) ≡ file
unfolding filled filled_each filled_with
file-written short file buffer some z =
    ap wrote_first (sym (file-whole short file buffer (file-fits short file buffer some z))) ∙ take-append_seam file _

module _ (L : Limits) (widths : FitsWidths L) (bytes : List ℕ) where
  -- a file is read as its model
  pub file-read : (M : Model) → FileOf L bytes M → read_whole L bytes ≡ model M (length (model_bytes M))
  file-read M f = ap (read_whole L) f.encoded ∙ read-back-whole L M widths f.sound

  pub one-file : (M N : Model) → FileOf L bytes M → FileOf L bytes N → M ≡ N
  one-file M N f g = let e = sym (file-read M f) ∙ file-read N g in cc
