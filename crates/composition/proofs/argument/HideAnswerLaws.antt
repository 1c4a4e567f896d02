-- The call that hides actions keeps its demands.
use Rattle.std.specs.Prelude.{ℕ, ◌≤◌, ◌<◌, ◌≡◌, refl}
use Rattle.std.proofs.Common.{sym, ◌∙◌, inr, ⊎_elim, arith}
use Rattle.std.proofs.Math.Path.{ap, subst}
use Rattle.std.proofs.Math.Logic.{inl}
use mathlib.Core.List.{List, [], ◌∷◌}
use Rattle.std.proofs.Math.ListN.{length, take}
use Rattle.bisimulation.specs.definitions.StepRule.{Met}
use Rattle.bisimulation.specs.definitions.Largest.{Bisimulation, Links}
use Rattle.bisimulation.proofs.argument.HiddenLaws.{hidden_bisimulation}
use Rattle.rules.specs.definitions.Limits.{Limits, current, longest_model}
use Rattle.rules.specs.definitions.Model.{Model, automaton_of}
use Rattle.rules.specs.definitions.Faults.{Fault}
use Rattle.rules.specs.definitions.Reading.{ReadNumber, Reading, model, no_model, read_whole}
use Rattle.rules.specs.definitions.SoundModel.{Bytes, FitsWidths}
use Rattle.rules.specs.definitions.Judging.{Reader}
use Rattle.rules.specs.definitions.Accepted.{FileOf}
use Rattle.rules.specs.definitions.Answers.{Outcome, left_in, refusal_in, answer_without_place, unwritten, first_written, filled_with, filled_each, filled, first_lent, files_outcome}
use Rattle.rules.proofs.argument.FaultLaws.{Told}
use Rattle.rules.proofs.argument.SoundModelLaws.{current-fit}
use Rattle.rules.proofs.argument.ReadingLaws.{read_low, read_number, read-otherwise}
use Rattle.rules.proofs.argument.LengthLaws.{sound-within, longest-file}
use Rattle.rules.proofs.argument.AnswerLaws.{NoState, left-unwritten, file-short, file-whole, file-fits, file-lacks, files-number, files-zero, files-unwritten}
use Rattle.rules.proofs.argument.PlainRules.{ModelNumber, refusal-told, whole_files}
use Rattle.composition.specs.definitions.Hiding.{member_of, hidden, hidden_file}
use Rattle.composition.specs.definitions.HideAnswer.{hide_reading, hide_outcome, HideNumber, HideDemands}
use Rattle.composition.proofs.argument.HidingLaws.{hidden-sound, hidden-automaton}
use Rattle.composition.proofs.argument.WrittenLaws.{wrote_first, file-written, file-read, one-file}

-- what the call answers, by what reading the model gives
module _ (read : Reader) (bytes set before : List ℕ) where
  pub hide-refused : (f : Fault) (place : ℕ) → read bytes ≡ no_model f place → unwritten (refusal_in f 1 place (length bytes)) (before ∷ []) ≡ hide_outcome read bytes set before
  unfolding hide_outcome hide_reading
  hide-refused f place e = ap (hide_reading bytes set (before ∷ [])) (sym e)

  pub hide-read : {M : Model} {end : ℕ} → read bytes ≡ model M end → files_outcome 38 (hidden_file set M ∷ []) (before ∷ []) ≡ hide_outcome read bytes set before
  unfolding hide_outcome hide_reading
  hide-read e = ap (hide_reading bytes set (before ∷ [])) (sym e)

-- 'and the relation itself does so after hiding', for relations of any kind on models of any size
pub hidden-bisimulation : (set : List ℕ) (M : Model) (W : ℕ → ℕ → Type 0) → Bisimulation Met (automaton_of M) W → Bisimulation Met (automaton_of (hidden set M)) W
hidden-bisimulation set M = hidden_bisimulation (member_of set) (automaton_of M) (automaton_of (hidden set M)) (hidden-automaton set M)

module _ (L : Limits) (widths : FitsWidths L) (bytes set before : List ℕ) (b : Bytes bytes) where
  abbrev number_of : Outcome → ℕ
  number_of o = o.answer.number

  abbrev outcome : Outcome
  outcome = hide_outcome (read_whole L) bytes set before

  -- the cases: the model is refused, or its file with the set hidden
  hide-cases {κ} : (P : Outcome → Type κ)
      → ((f : Fault) (place : ℕ) → (f.number ≡ 0 → ⊥) → ReadNumber L.terms f.number → Told f → P (unwritten (refusal_in f 1 place (length bytes)) (before ∷ [])))
      → ((M : Model) → FileOf L bytes M → P (files_outcome 38 (hidden_file set M ∷ []) (before ∷ [])))
      → P outcome
  hide-cases P refuses read = go (read_whole L bytes) refl
    where
      go : (r : Reading) → read_whole L bytes ≡ r → P outcome
      go (model M end) r =
          let files = whole_files L widths in
          subst P (hide-read (read_whole L) bytes set before r) (read M ((files.exactly bytes M b).0 (r ∙ ap (model M) (files.whole bytes M end b r))))
      go (no_model f place) r =
          let t = refusal-told L bytes f place r in
          subst P (hide-refused (read_whole L) bytes set before f place r) (refuses f place t.0 (unfold ModelNumber in t.1.1) t.3)

  pub hide-number : HideNumber L.terms (number_of outcome)
  unfolding HideNumber unwritten refusal_in
  hide-number =
      hide-cases (λ o. HideNumber L.terms (number_of o))
      (λ f place n h t. inl h)
      (λ M f. files-number 38 (hidden_file set M ∷ []) (before ∷ []) (HideNumber L.terms) (inl (read_low L.terms 0 (omega arith))) (inr refl))

  -- document 02, K2
  pub hide-zero : NoState outcome.answer
  unfolding unwritten refusal_in
  hide-zero =
      hide-cases (λ o. NoState o.answer)
      (λ f place n h t. t.otherwise (read-otherwise L.terms _ h))
      (λ M f. files-zero 38 (hidden_file set M ∷ []) (before ∷ []))

  -- a sound model comes to its hidden file
  module _ (M : Model) (f : FileOf L bytes M) where
    is_hidden : files_outcome 38 (hidden_file set M ∷ []) (before ∷ []) ≡ outcome
    is_hidden = hide-read (read_whole L) bytes set before (file-read L widths bytes M f)

    is-written : length (hidden_file set M) ≤ length before → filled (hidden_file set M ∷ []) (before ∷ []) ≡ outcome
    is-written h = file-whole 38 (hidden_file set M) before h ∙ is_hidden

    is-short : length before < length (hidden_file set M) → unwritten (answer_without_place 38) (before ∷ []) ≡ outcome
    is-short h = file-short 38 (hidden_file set M) before h ∙ is_hidden

    has_room : number_of outcome ≡ 0 → length (hidden_file set M) ≤ length before
    has_room z = file-fits 38 (hidden_file set M) before (λ w. omega (arith, w)) (ap number_of is_hidden ∙ z)

    -- the bytes written are it
    wrote : number_of outcome ≡ 0 → wrote_first outcome ≡ hidden_file set M
    wrote z = ap wrote_first (sym is_hidden) ∙ file-written 38 (hidden_file set M) before (λ w. omega (arith, w)) (ap number_of is_hidden ∙ z)

    hidden-file : FileOf L (hidden_file set M) (hidden set M)
    hidden-file = record { sound = hidden-sound L set M f.sound; encoded = refl }

  -- 0 and 38 tell that the model is sound
  found : number_of outcome ≡ 0 → (M : Model) × FileOf L bytes M × (length (hidden_file set M) ≤ length before)
  unfolding unwritten refusal_in
  found =
      hide-cases (λ o. number_of o ≡ 0 → (M : Model) × FileOf L bytes M × (length (hidden_file set M) ≤ length before))
      (λ f place n h t z. absurd (n z))
      (λ M f z. (M, f, file-fits 38 (hidden_file set M) before (λ w. omega (arith, w)) z))

  lacks : number_of outcome ≡ 38 → (M : Model) × FileOf L bytes M × (length before < length (hidden_file set M))
  unfolding unwritten refusal_in
  lacks =
      hide-cases (λ o. number_of o ≡ 38 → (M : Model) × FileOf L bytes M × (length before < length (hidden_file set M)))
      (λ f place n h t z. absurd (⊎_elim (λ x. omega (arith, x, z)) (λ x. omega (arith, x, z)) (read_number L.terms _ h)))
      (λ M f z. (M, f, file-lacks 38 (hidden_file set M) before (λ w. omega (arith, w)) z))

  -- 38 only for a buffer shorter than the longest model
  pub hide-short : number_of outcome ≡ 38 → length before < longest_model L
  hide-short z =
      let x = lacks z in
      omega (arith, x.2, longest-file L (hidden set x.0) (sound-within L _ (hidden-sound L set x.0 x.1.sound)))

  hide-unwritten : (number_of outcome ≡ 0 → ⊥) → left_in outcome ≡ before ∷ []
  hide-unwritten =
      hide-cases (λ o. (number_of o ≡ 0 → ⊥) → left_in o ≡ before ∷ [])
      (λ f place n h t z. left-unwritten _ (before ∷ []))
      (λ M f. files-unwritten 38 (hidden_file set M ∷ []) (before ∷ []))

  pub hide-demands : (after : List ℕ) (number : ℕ) → number ≡ number_of outcome → after ∷ [] ≡ left_in outcome → HideDemands L (read_whole L) (FileOf L) bytes set before after number
  unfolding filled filled_each filled_with unwritten answer_without_place
  hide-demands after number e left =
      record {
        known = subst (HideNumber L.terms) (sym e) hide-number;
        hides = (λ z. found (sym e ∙ z), λ x. e ∙ ap number_of (sym (is-written x.0 x.1 x.2)));
        short = (λ z. lacks (sym e ∙ z), λ x. e ∙ ap number_of (sym (is-short x.0 x.1 x.2)));
        written = λ z M f. ap first_lent left ∙ ap (λ (o : Outcome). first_lent (left_in o)) (sym (is-written M f (has_room M f (sym e ∙ z))));
        holds = hidden-file;
        reads = λ M f. file-read L widths (hidden_file set M) (hidden set M) (hidden-file M f);
        links = λ z M H f h W.
            let same : take (first_written outcome) after ≡ hidden_file set M =
            ap (λ (l : List (List ℕ)). take (first_written outcome) (first_lent l)) left ∙ wrote M f (sym e ∙ z) in
            let one = one-file L widths (hidden_file set M) (hidden set M) H (hidden-file M f) (subst (λ (s : List ℕ). FileOf L s H) same h) in
            λ w. subst (λ (X : Model). Bisimulation Met (automaton_of X) (Links W)) one (hidden-bisimulation set M (Links W) w);
        unwritten = λ n. ap first_lent (left ∙ hide-unwritten (λ z. n (e ∙ z)));
      }

-- of less than 8,072 bytes
pub hide-short-today : (bytes set before : List ℕ) → Bytes bytes → (hide_outcome (read_whole current) bytes set before).answer.number ≡ 38 → length before < 8072
hide-short-today = hide-short current current-fit
