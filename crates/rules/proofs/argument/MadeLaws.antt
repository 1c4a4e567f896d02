-- Laws of the calls that write a model made of their files.
use Rattle.std.specs.Prelude.{ℕ, ◌≤◌, ◌<◌, ◌≡◌, Bool, false, List, [], ◌∷◌}
use Rattle.std.proofs.Math.Path.{refl, sym, ap}
use Rattle.std.proofs.Common.{◌∙◌, ap₂, subst, ⊎_elim, arith}
use Rattle.std.proofs.Math.Bool.{true}
use Rattle.std.proofs.Math.ListN.{length}
use Rattle.std.proofs.Math.Decide.{dec_lt}
use Rattle.bisimulation.proofs.argument.ChoiceLaws.{less, not_less, is_true, is_false}
use Rattle.rules.specs.definitions.Limits.{Limits}
use Rattle.rules.specs.definitions.Model.{Model, model_bytes}
use Rattle.rules.specs.definitions.Faults.{Fault}
use Rattle.rules.specs.definitions.Reading.{ReadNumber, Reading, model, no_model, read_whole}
use Rattle.rules.specs.definitions.SoundModel.{Bytes, SoundModel, FitsWidths, entry_count}
use Rattle.rules.specs.definitions.Judging.{Reader}
use Rattle.rules.specs.definitions.Accepted.{FileOf}
use Rattle.rules.specs.definitions.Answers.{Outcome, left_in, refusal_in, answer_without_place, unwritten, filled_with, filled_each, filled, first_lent, files_outcome}
use Rattle.rules.specs.definitions.Made.{passes_limit, made_outcome, OfTwo, readings_outcome, two_outcome, MakesModel}
use Rattle.rules.proofs.argument.FaultLaws.{Told}
use Rattle.rules.proofs.argument.ReadingLaws.{read_low, read_number, read-otherwise}
use Rattle.rules.proofs.argument.ReadBack.{read-back-whole}
use Rattle.rules.proofs.argument.LengthLaws.{Within}
use Rattle.rules.proofs.argument.AnswerLaws.{NoState, left-unwritten, file-whole, files-number, files-zero, files-unwritten, file-fits, file-lacks}
use Rattle.rules.proofs.argument.PlainRules.{ModelNumber, refusal-told, whole_files}

module _ (L : Limits) (M : Model) where
  pub within-passes : Within L M → false ≡ passes_limit L M
  unfolding passes_limit
  within-passes w = not_less _ w.states (not_less _ w.transitions (not_less _ w.entries refl))

  pub many-states : L.states < length M.labels → true ≡ passes_limit L M
  unfolding passes_limit
  many-states h = less _ h refl

  pub many-transitions : L.transitions < length M.transitions → true ≡ passes_limit L M
  unfolding passes_limit
  many-transitions h = go (dec_lt L.states (length M.labels))
    where
      go : Dec (L.states < length M.labels) → true ≡ passes_limit L M
      go (yes s) = many-states s
      go (no s) = not_less _ (omega arith) (less _ h refl)

  pub many-entries : L.entries < entry_count M → true ≡ passes_limit L M
  unfolding passes_limit
  many-entries h = go (dec_lt L.states (length M.labels)) (dec_lt L.transitions (length M.transitions))
    where
      go : Dec (L.states < length M.labels) → Dec (L.transitions < length M.transitions) → true ≡ passes_limit L M
      go (yes s) t = many-states s
      go (no s) (yes t) = many-transitions t
      go (no s) (no t) = not_less _ (omega arith) (not_less _ (omega arith) (less _ h refl))

  pub passes-within : passes_limit L M ≡ false → Within L M
  passes-within e = go (dec_lt L.states (length M.labels)) (dec_lt L.transitions (length M.transitions)) (dec_lt L.entries (entry_count M))
    where
      not-both : true ≡ passes_limit L M → ⊥
      not-both t = let z : ◌≡◌ {A = ℕ} 0 1 = cc in omega (arith, z)

      go : Dec (L.states < length M.labels) → Dec (L.transitions < length M.transitions) → Dec (L.entries < entry_count M) → Within L M
      go (yes s) t n = absurd (not-both (many-states s))
      go (no s) (yes t) n = absurd (not-both (many-transitions t))
      go (no s) (no t) (yes n) = absurd (not-both (many-entries n))
      go (no s) (no t) (no n) = record { states = omega arith; transitions = omega arith; entries = omega arith }

-- a model that was made, by whether it passes a limit
module _ (over short : ℕ) (passes : Bool) (M : Model) (before : List (List ℕ)) where
  pub made-over : passes ≡ true → unwritten (answer_without_place over) before ≡ made_outcome over short passes M before
  unfolding made_outcome
  made-over e = is_true _ e refl

  pub made-within : passes ≡ false → files_outcome short (model_bytes M ∷ []) before ≡ made_outcome over short passes M before
  unfolding made_outcome
  made-within e = is_false _ e refl

  pub made-cases {κ} : (P : Outcome → Type κ) → (passes ≡ true → P (unwritten (answer_without_place over) before)) → (passes ≡ false → P (files_outcome short (model_bytes M ∷ []) before)) → P (made_outcome over short passes M before)
  made-cases P many few = go passes refl
    where
      go : (b : Bool) → passes ≡ b → P (made_outcome over short passes M before)
      go true e = subst P (made-over e) (many e)
      go false e = subst P (made-within e) (few e)

-- a call that reads two models, by what reading them gave
module _ (read : Reader) (made : OfTwo) (first second : List ℕ) (before : List (List ℕ)) where
  by-readings : {r q : Reading} → read first ≡ r → read second ≡ q → readings_outcome made first second before r q ≡ two_outcome read made first second before
  unfolding two_outcome
  by-readings e f = sym (ap₂ (readings_outcome made first second before) e f)

  pub first-refused : (f : Fault) (place : ℕ) → read first ≡ no_model f place → unwritten (refusal_in f 1 place (length first)) before ≡ two_outcome read made first second before
  unfolding readings_outcome
  first-refused f place e = by-readings e refl

  pub second-refused : {M : Model} {end : ℕ} (f : Fault) (place : ℕ) → read first ≡ model M end → read second ≡ no_model f place → unwritten (refusal_in f 3 place (length second)) before ≡ two_outcome read made first second before
  unfolding readings_outcome
  second-refused f place e q = by-readings e q

  pub both_read : {M N : Model} {end last : ℕ} → read first ≡ model M end → read second ≡ model N last → made M N before ≡ two_outcome read made first second before
  unfolding readings_outcome
  both_read e q = by-readings e q

-- what is made of two sound models passes no limit exactly where it is sound
pub record Making (L : Limits) (make : Model → Model → Model) (passes : Model → Model → Bool) : Type 0 where
  pub sound : (M N : Model) → SoundModel L M → SoundModel L N → passes M N ≡ false → SoundModel L (make M N)
  pub within : (M N : Model) → SoundModel L M → SoundModel L N → SoundModel L (make M N) → passes M N ≡ false

-- the demands of a call that makes one model of two, with a number where it passes a limit and one where its buffer is too short
module _ (L : Limits) (widths : FitsWidths L) (make : Model → Model → Model) (passes : Model → Model → Bool) (making : Making L make passes) (over short : ℕ) (some_over : over ≡ 0 → ⊥) (some_short : short ≡ 0 → ⊥) (first second before : List ℕ) (b : Bytes first) (c : Bytes second) where
  abbrev made : OfTwo
  made M N = made_outcome over short (passes M N) (make M N)

  abbrev outcome : Outcome
  outcome = two_outcome (read_whole L) made first second (before ∷ [])

  abbrev number_of : Outcome → ℕ
  number_of o = o.answer.number

  abbrev file : Model → Model → List ℕ
  file M N = model_bytes (make M N)

  -- the cases: a file is refused; a limit is passed; or the file that is made
  two_cases {κ} : (P : Outcome → Type κ)
      → ((f : Fault) (which place size : ℕ) → (f.number ≡ 0 → ⊥) → ReadNumber L.terms f.number → Told f → P (unwritten (refusal_in f which place size) (before ∷ [])))
      → ((M N : Model) → FileOf L first M → FileOf L second N → passes M N ≡ true → P (unwritten (answer_without_place over) (before ∷ [])))
      → ((M N : Model) → FileOf L first M → FileOf L second N → passes M N ≡ false → P (files_outcome short (file M N ∷ []) (before ∷ [])))
      → P outcome
  two_cases P refuses many few = by_first (read_whole L first) refl
    where
      file-of : (s : List ℕ) (M : Model) (end : ℕ) → Bytes s → read_whole L s ≡ model M end → FileOf L s M
      file-of s M end bytes r =
          let files = whole_files L widths in
          (files.exactly s M bytes).0 (r ∙ ap (model M) (files.whole s M end bytes r))

      by-second : (M : Model) (end : ℕ) → read_whole L first ≡ model M end → (q : Reading) → read_whole L second ≡ q → P outcome
      by-second M end r (model N last) q =
          let f = file-of first M end b r in
          let g = file-of second N last c q in
          subst P (both_read (read_whole L) made first second (before ∷ []) r q)
          (made-cases over short (passes M N) (make M N) (before ∷ []) P (many M N f g) (few M N f g))
      by-second M end r (no_model f place) q =
          let t = refusal-told L second f place q in
          subst P (second-refused (read_whole L) made first second (before ∷ []) f place r q) (refuses f 3 place (length second) t.0 (unfold ModelNumber in t.1.1) t.3)

      by_first : (r : Reading) → read_whole L first ≡ r → P outcome
      by_first (model M end) r = by-second M end r (read_whole L second) refl
      by_first (no_model f place) r =
          let t = refusal-told L first f place r in
          subst P (first-refused (read_whole L) made first second (before ∷ []) f place r) (refuses f 1 place (length first) t.0 (unfold ModelNumber in t.1.1) t.3)

  pub two-number : (P : ℕ → Type 0) → ((k : ℕ) → ReadNumber L.terms k → P k) → P over → P short → P (number_of outcome)
  unfolding unwritten refusal_in answer_without_place
  two-number P refused o s =
      two_cases (λ x. P (number_of x))
      (λ f which place size n h t. refused f.number h)
      (λ M N f g p. o)
      (λ M N f g p. files-number short (file M N ∷ []) (before ∷ []) P (refused 0 (read_low L.terms 0 (omega arith))) s)

  -- the number for a short buffer only where it is shorter than the longest file that is made
  pub two-short : (most : ℕ) → 9 < short → (short ≡ 34 → ⊥) → (over ≡ short → ⊥) → ((M N : Model) → FileOf L first M → FileOf L second N → passes M N ≡ false → length (file M N) ≤ most) → number_of outcome ≡ short → length before < most
  unfolding unwritten refusal_in answer_without_place
  two-short most late unlike other longest =
      two_cases (λ o. number_of o ≡ short → length before < most)
      (λ f which place size n h t z. absurd (⊎_elim (λ x. omega (arith, late, x, z)) (λ x. unlike (sym z ∙ x)) (read_number L.terms _ h)))
      (λ M N f g p z. absurd (other z))
      (λ M N f g p z. omega (arith, file-lacks short (file M N) before some_short z, longest M N f g p))

  -- document 02, K2
  pub two-zero : NoState outcome.answer
  unfolding unwritten refusal_in answer_without_place
  two-zero =
      two_cases (λ o. NoState o.answer)
      (λ f which place size n h t. t.otherwise (read-otherwise L.terms _ h))
      (λ M N f g p. (refl, refl))
      (λ M N f g p. files-zero short (file M N ∷ []) (before ∷ []))

  two-unwritten : (number_of outcome ≡ 0 → ⊥) → left_in outcome ≡ before ∷ []
  two-unwritten =
      two_cases (λ o. (number_of o ≡ 0 → ⊥) → left_in o ≡ before ∷ [])
      (λ f which place size n h t z. left-unwritten _ (before ∷ []))
      (λ M N f g p z. left-unwritten _ (before ∷ []))
      (λ M N f g p. files-unwritten short (file M N ∷ []) (before ∷ []))

  -- two sound models, by what the call answers for them
  module _ (M N : Model) (f : FileOf L first M) (g : FileOf L second N) where
    is_made : made M N (before ∷ []) ≡ outcome
    is_made =
        both_read (read_whole L) made first second (before ∷ []) (((whole_files L widths).exactly first M b).1 f) (((whole_files L widths).exactly second N c).1 g)

    -- 0 tells that what is made of them passes no limit and fits the buffer
    made-fits : number_of outcome ≡ 0 → (passes M N ≡ false) × (length (file M N) ≤ length before)
    unfolding unwritten answer_without_place
    made-fits z =
        made-cases over short (passes M N) (make M N) (before ∷ []) (λ o. number_of o ≡ 0 → (passes M N ≡ false) × (length (file M N) ≤ length before))
        (λ p n. absurd (some_over n))
        (λ p n. (p, file-fits short (file M N) before some_short n))
        (ap number_of is_made ∙ z)

    -- and then it is written
    made-written : passes M N ≡ false → length (file M N) ≤ length before → filled (file M N ∷ []) (before ∷ []) ≡ outcome
    made-written p h = file-whole short (file M N) before h ∙ made-within over short (passes M N) (make M N) (before ∷ []) p ∙ is_made

  found : number_of outcome ≡ 0 → (M : Model) × (N : Model) × FileOf L first M × FileOf L second N × SoundModel L (make M N) × (length (file M N) ≤ length before)
  unfolding unwritten refusal_in answer_without_place
  found =
      two_cases (λ o. number_of o ≡ 0 → (M : Model) × (N : Model) × FileOf L first M × FileOf L second N × SoundModel L (make M N) × (length (file M N) ≤ length before))
      (λ x which place size n h t z. absurd (n z))
      (λ M N f g p z. absurd (some_over z))
      (λ M N f g p z. (M, N, f, g, making.sound M N f.sound g.sound p, file-fits short (file M N) before some_short z))

  pub makes-model : (after : List ℕ) (number : ℕ) → number ≡ number_of outcome → after ∷ [] ≡ left_in outcome → (numbers : ℕ → Type 0) → numbers number → MakesModel L (read_whole L) (FileOf L) make numbers first second before after number
  unfolding filled filled_each filled_with answer_without_place
  makes-model after number e left numbers known =
      record {
        known = known;
        makes = (
          λ z. found (sym e ∙ z),
          λ x. e ∙ ap number_of (sym (made-written x.0 x.1 x.2 x.3 (making.within x.0 x.1 x.2.sound x.3.sound x.4) x.5)),
        );
        written = λ z M N f g.
            let t = made-fits M N f g (sym e ∙ z) in
            ap first_lent left ∙ ap (λ (o : Outcome). first_lent (left_in o)) (sym (made-written M N f g t.0 t.1));
        holds = λ z M N f g. record { sound = making.sound M N f.sound g.sound (made-fits M N f g (sym e ∙ z)).0; encoded = refl };
        reads = λ z M N f g. read-back-whole L (make M N) widths (making.sound M N f.sound g.sound (made-fits M N f g (sym e ∙ z)).0);
        unwritten = λ n. ap first_lent (left ∙ two-unwritten (λ z. n (e ∙ z)));
      }
