-- Laws of the call that joins: what each way out answers.
use Rattle.std.specs.Prelude.{ℕ, ◌+◌, ◌*◌, ◌-◌, ◌≤◌, ◌<◌, ◌≡◌, refl, Bool, true, false, List, [], ◌∷◌, length}
use Rattle.std.proofs.Common.{sym, ◌∙◌, ap, subst, arith}
use Rattle.std.proofs.Math.Decide.{dec_lt}
use Rattle.bisimulation.proofs.argument.ChoiceLaws.{less, not_less}
use Rattle.rules.specs.definitions.Limits.{current}
use Rattle.rules.specs.definitions.Model.{Model}
use Rattle.rules.specs.definitions.Reading.{model_at, read_whole}
use Rattle.rules.specs.definitions.SoundModel.{Bytes, entry_count}
use Rattle.rules.specs.definitions.Answers as rules
use Rattle.rules.specs.definitions.Answers.{Outcome, answer_without_place}
use Rattle.rules.specs.definitions.Made.{passes_limit, made_outcome, OfTwo, two_files}
use Rattle.rules.proofs.argument.SoundModelLaws.{current-fit}
use Rattle.rules.proofs.argument.MadeLaws.{within-passes, many-states, many-transitions, many-entries, passes-within, made-over, made-within, both_read}
use Rattle.joined.specs.definitions.Joined.{joined, joined_file}
use Rattle.joined.specs.definitions.JoinAnswer.{passes_joined, join_outcome}
use Rattle.joined.proofs.argument.JoinAnswerLaws.{join-demands}
use Rattle.model.specs.declared.Model.{Model as Found}
use Rattle.two_models.specs.TwoModels.{BothSound, RefusesTwo}
use Rattle.answer.specs.declared.Answer.{Answer}
use Rattle.answer.specs.Answered.{Says, FileAnswered, FileWritten, OutcomeIs}
use Rattle.answer.specs.AnsweredLaws.{gives-unwritten, without-stretch, file-stretch}
use Rattle.joined_file.specs.JoinedFile.{joined_in, CanJoin}
use Rattle.joined_file.specs.JoinedFileLaws.{sums}
use Rattle.join.specs.Join.{JoinAnswered, JoinsSound, passes_sizes}

-- the test of the sizes is that of the model
sizes-pass : (J : Model) (states transitions entry_bytes : ℕ) → states ≡ length J.labels → transitions ≡ length J.transitions → entry_bytes ≡ 3 * entry_count J → passes_sizes states transitions entry_bytes ≡ passes_limit current J
unfolding passes_sizes
sizes-pass J states transitions entry_bytes s t b = go (dec_lt current.states states) (dec_lt current.transitions transitions) (dec_lt (3 * current.entries) entry_bytes)
  where
    go : Dec (current.states < states) → Dec (current.transitions < transitions) → Dec (3 * current.entries < entry_bytes) → passes_sizes states transitions entry_bytes ≡ passes_limit current J
    go (yes h) q p = sym (less _ h refl) ∙ many-states current J (omega (arith, h, s))
    go (no l) (yes h) p = sym (not_less _ (omega arith) (less _ h refl)) ∙ many-transitions current J (omega (arith, h, t))
    go (no l) (no k) (yes h) = sym (not_less _ (omega arith) (not_less _ (omega arith) (less _ h refl))) ∙ many-entries current J (omega (arith, h, b))
    go (no l) (no k) (no h) =
        sym (not_less _ (omega arith) (not_less _ (omega arith) (not_less _ (omega arith) refl)))
        ∙ within-passes current J (record { states = omega (arith, l, s); transitions = omega (arith, k, t); entries = omega (arith, h, b) })

-- each way out for two sound models
module _ {first second table : List ℕ} {m n : Found} (j : BothSound first m second n table) {states transitions entry_bytes : ℕ} (s : states ≡ m.states + n.states) (t : transitions ≡ m.transitions + n.transitions) (b : entry_bytes ≡ length first + length second - 16 - states - 7 * transitions) where
  pass : {p : Bool} → p ≡ passes_sizes states transitions entry_bytes → passes_limit current (joined_in first second) ≡ p
  pass e =
      sym (e ∙ sizes-pass (joined_in first second) states transitions entry_bytes (s ∙ sym (sums j).states) (t ∙ sym (sums j).transitions) (omega (arith, b, s, t, (sums j).size, (sums j).bytes)))

  pub over-limit : (before : List ℕ) {r : Answer} → true ≡ passes_sizes states transitions entry_bytes → Says (answer_without_place 25) 0 r → JoinsSound first second before before r
  over-limit before e a =
      without-stretch 25 a.answer (gives-unwritten (before ∷ []) _ a (made-over 25 26 _ (joined_in first second) (before ∷ []) (pass e)))

  pub in-limit : false ≡ passes_sizes states transitions entry_bytes → CanJoin first m second n table
  in-limit e = record { models = j; within = passes-within current (joined_in first second) (pass e) }

  pub file-joined : (before : List ℕ) {after : List ℕ} {size : ℕ} {r : Answer} → false ≡ passes_sizes states transitions entry_bytes → FileWritten (joined_file (model_at first) (model_at second)) before after size → FileAnswered 26 size (length before) r → JoinsSound first second before after r
  file-joined before {after} {size} {r} e w a =
      subst (λ (o : Outcome). OutcomeIs o (two_files first second) (after ∷ []) r) (made-within 25 26 _ (joined_in first second) (before ∷ []) (pass e))
      (file-stretch 26 (joined_file (model_at first) (model_at second)) before w a)

-- what is made of the two
abbrev joins : OfTwo
joins M N = made_outcome 25 26 (passes_joined current M N) (joined M N)

module _ {first second : List ℕ} (b : Bytes first) (c : Bytes second) (before : List ℕ) where
  -- an outcome with its demands
  with-demands : {after : List ℕ} {r : Answer} → OutcomeIs (join_outcome current (read_whole current) first second before) (two_files first second) (after ∷ []) r → JoinAnswered first second before after r
  with-demands {after} {r} o =
      record { outcome = o; demands = join-demands current current-fit first second before b c after r.number (ap (λ (x : rules.Answer). x.number) o.gives.answer) o.gives.buffers }

  pub two-sound : {table : List ℕ} {m n : Found} {after : List ℕ} {r : Answer} → BothSound first m second n table → JoinsSound first second before after r → JoinAnswered first second before after r
  two-sound {after = after} {r} j o =
      with-demands
      (subst (λ (x : Outcome). OutcomeIs x (two_files first second) (after ∷ []) r)
      (both_read (read_whole current) joins first second (before ∷ []) j.one.model.reads j.other.model.reads) o)

  pub two-refused : {r : Answer} → RefusesTwo first second r → JoinAnswered first second before before r
  two-refused a = with-demands (a.refuses joins (before ∷ []))
