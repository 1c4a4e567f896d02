-- Laws of reading: line by line, and what every answer is.
use Rattle.std.specs.Prelude.{ℕ, ◌+◌, ◌-◌, ◌≤◌, ◌<◌, ◌≡◌, ◌⊎◌, get_or, take, drop}
use Rattle.std.proofs.Math.Path.{refl, ap}
use Rattle.std.proofs.Common.{◌∙◌, subst, inl, inr, arith}
use mathlib.Core.List.{List, [], ◌∷◌, ◌++◌}
use Rattle.std.proofs.Math.ListN.{length, length-append}
use Rattle.bisimulation.proofs.argument.ChoiceLaws.{either_same, either_true}
use Rattle.rules.specs.definitions.Limits.{Limits}
use Rattle.prism.specs.definitions.Lines.{pieces, Line, ReadLine, good, broken, read_line, Head, ReadHead, head, no_head, read_head}
use Rattle.prism.specs.definitions.Reading.{Choice, total_of, Pending, none, begun, Progress, nothing_read, choices_of, goes_on, begins, extends, with_begun, with_extended, ReadText, holds, refused_at, unless_total, at_end, last_piece, Step, read, fault, step_on, step_begins, step_by, step_read, step, after_step, read_lines, read_headed, read_pieces, read_prism}
use Rattle.prism.proofs.argument.PieceLaws.{Without, pieces-some, pieces-parted, pieces-one, joined, joined-pieces, stretch-without, stretch-parted, stretch-length, last-without}

-- reading the pieces from a place on
unfoldable pub read_from : Limits → Head → Progress → (place : ℕ) → List (List ℕ) → ReadText
read_from L h r place [] = refused_at 31 place
read_from L h r place (bytes ∷ more) = read_lines L h r place bytes more

-- reading the bytes from a place on
abbrev pub read_rest : Limits → Head → Progress → (place : ℕ) → List ℕ → ReadText
read_rest L h r place rest = read_from L h r place (pieces 0x0A rest)

module _ (L : Limits) (h : Head) (r : Progress) (place : ℕ) where
  -- a line that is ended: the pending total, the line, and what follows
  pub rest-line : (bytes rest : List ℕ) → Without 0x0A bytes → read_rest L h r place (bytes ++ (0x0A ∷ rest)) ≡ unless_total r.pending bytes (after_step (step L h r place bytes) place (λ next. read_rest L h next (place + length bytes + 1) rest))
  unfolding read_from read_lines
  rest-line bytes rest free = ap (read_from L h r place) (pieces-parted 0x0A bytes rest free) ∙ go (pieces 0x0A rest) (pieces-some 0x0A rest)
    where
      go : (ps : List (List ℕ)) → (ps ≡ [] → ⊥) → read_lines L h r place bytes ps ≡ unless_total r.pending bytes (after_step (step L h r place bytes) place (λ next. read_from L h next (place + length bytes + 1) ps))
      go [] some = absurd (some refl)
      go (p ∷ ps) some = refl

  -- bytes behind the last 0A
  pub rest-last : (bytes : List ℕ) → Without 0x0A bytes → read_rest L h r place bytes ≡ unless_total r.pending bytes (last_piece h r place bytes)
  unfolding read_from read_lines
  rest-last bytes free = ap (read_from L h r place) (pieces-one 0x0A bytes free)

-- by position: the text from a place on, which has no 0A up to another place
module _ (L : Limits) (h : Head) (r : Progress) (text : List ℕ) (place end : ℕ) (order : place ≤ end) (none : (i : ℕ) → place ≤ i → i < end → get_or text i 0 ≡ 0x0A → ⊥) where
  abbrev stretch : List ℕ
  stretch = take (end - place) (drop place text)

  -- and one there
  pub rest_at : end < length text → get_or text end 0 ≡ 0x0A → read_rest L h r place (drop place text) ≡ unless_total r.pending stretch (after_step (step L h r place stretch) place (λ next. read_rest L h next (end + 1) (drop (end + 1) text)))
  rest_at inside there =
      let size = stretch-length 0x0A text place end order none (omega arith) in
      let after : place + length stretch + 1 ≡ end + 1 = omega arith in
      ap (read_rest L h r place) (stretch-parted 0x0A text place end order none inside there)
      ∙ rest-line L h r place stretch (drop (end + 1) text) (stretch-without 0x0A text place end order none (omega arith))
      ∙ ap (λ (k : ℕ). unless_total r.pending stretch (after_step (step L h r place stretch) place (λ next. read_rest L h next k (drop (end + 1) text)))) after

  -- or the text's end
  pub rest_end : end ≡ length text → read_rest L h r place (drop place text) ≡ unless_total r.pending (drop place text) (last_piece h r place (drop place text))
  rest_end e = rest-last L h r place (drop place text) (last-without 0x0A text place end order none e)

-- a head line that is ended, and one that is not
module _ (L : Limits) (first : List ℕ) (free : Without 0x0A first) where
  read-headed : (rest : List ℕ) → read_prism L (first ++ (0x0A ∷ rest)) ≡ read_pieces L (first ∷ pieces 0x0A rest)
  unfolding read_prism
  read-headed rest = ap (read_pieces L) (pieces-parted 0x0A first rest free)

  -- a head line that is read
  pub read-head : (h : Head) (rest : List ℕ) → read_head L first ≡ head h → read_prism L (first ++ (0x0A ∷ rest)) ≡ read_rest L h nothing_read (length first + 1) rest
  unfolding read_pieces read_headed read_from
  read-head h rest e = read-headed rest ∙ go (pieces 0x0A rest) (pieces-some 0x0A rest)
    where
      go : (ps : List (List ℕ)) → (ps ≡ [] → ⊥) → read_pieces L (first ∷ ps) ≡ read_from L h nothing_read (length first + 1) ps
      go [] some = absurd (some refl)
      go (p ∷ ps) some = ap (λ (x : ReadHead). read_headed L x (length first + 1) p ps) e

  -- one that is not read
  pub read-no-head : (rest : List ℕ) → read_head L first ≡ no_head → read_prism L (first ++ (0x0A ∷ rest)) ≡ refused_at 31 0
  unfolding read_pieces read_headed
  read-no-head rest e = read-headed rest ∙ go (pieces 0x0A rest)
    where
      go : (ps : List (List ℕ)) → read_pieces L (first ∷ ps) ≡ refused_at 31 0
      go [] = refl
      go (p ∷ ps) = ap (λ (x : ReadHead). read_headed L x (length first + 1) p ps) e

  -- one that is not ended
  pub read-unended : read_prism L first ≡ refused_at 31 0
  unfolding read_prism read_pieces
  read-unended = ap (read_pieces L) (pieces-one 0x0A first free)

-- an answer: a head of which H holds, or 31 or 32 at a place that is not above `most`
unfoldable pub Answer : (Head → Type 0) → (most : ℕ) → ReadText → Type 0
Answer H most (holds h names choices) = H h
Answer H most (refused_at number place) = ((number ≡ 31) ⊎ (number ≡ 32)) × (place ≤ most)

-- the pending choice begins there too
unfoldable PlaceBelow : (most : ℕ) → Pending → Type 0
PlaceBelow most none = Unit
PlaceBelow most (begun c) = c.place ≤ most

unfoldable StepBelow : (most : ℕ) → Step → Type 0
StepBelow most fault = Unit
StepBelow most (read r) = PlaceBelow most r.pending

module _ (L : Limits) (h : Head) (most : ℕ) where
  step-below : (r : Progress) (place : ℕ) (bytes : List ℕ) → place ≤ most → PlaceBelow most r.pending → StepBelow most (step L h r place bytes)
  unfolding StepBelow PlaceBelow step step_read step_by step_on step_begins with_begun with_extended
  step-below r place bytes inside below = line (read_line bytes)
    where
      by : (x : Line) (p : Pending) → PlaceBelow most p → StepBelow most (step_by L h r place bytes p x)
      by x none k = either_true (StepBelow most) (begins L h r x) inside tt
      by x (begun c) k =
          either_true (StepBelow most) (goes_on (begun c) bytes)
          (either_true (StepBelow most) (extends L h r c x) k tt)
          (either_true (StepBelow most) (begins L h r x) inside tt)

      line : (x : ReadLine) → StepBelow most (step_read L h r place bytes x)
      line broken = tt
      line (good x) = by x r.pending below

  module _ (H : Head → Type 0) (here : H h) where
    total-answer : (p : Pending) (bytes : List ℕ) (next : ReadText) → PlaceBelow most p → Answer H most next → Answer H most (unless_total p bytes next)
    unfolding PlaceBelow Answer unless_total
    total-answer none bytes next below a = a
    total-answer (begun c) bytes next below a =
        either_true (Answer H most) (goes_on (begun c) bytes) a (either_same (Answer H most) (total_of c) 10000 a (inr refl, below))

    last-answer : (r : Progress) (place : ℕ) (bytes : List ℕ) → place ≤ most → Answer H most (last_piece h r place bytes)
    unfolding Answer last_piece at_end
    last-answer r place [] inside =
        either_same (Answer H most) (length (choices_of r)) h.choices (either_same (Answer H most) r.lines h.transitions here (inl refl, inside)) (inl refl, inside)
    last-answer r place (b ∷ bs) inside = (inl refl, inside)

    step-answer : (s : Step) (place : ℕ) (next : Progress → ReadText) → place ≤ most → StepBelow most s → ((r : Progress) → PlaceBelow most r.pending → Answer H most (next r)) → Answer H most (after_step s place next)
    unfolding Answer after_step StepBelow
    step-answer fault place next inside below a = (inl refl, inside)
    step-answer (read r) place next inside below a = a r below

    -- what reading lines answers
    lines-answer : (more : List (List ℕ)) (r : Progress) (place : ℕ) (bytes : List ℕ) → place + length (joined 0x0A (bytes ∷ more)) ≤ most → PlaceBelow most r.pending → Answer H most (read_lines L h r place bytes more)
    unfolding read_lines joined
    lines-answer [] r place bytes inside below = total-answer r.pending bytes _ below (last-answer r place bytes (omega arith))
    lines-answer (following ∷ more) r place bytes inside below =
        total-answer r.pending bytes _ below
        (step-answer (step L h r place bytes) place _ (omega arith) (step-below r place bytes (omega arith) below)
        (λ next k. lines-answer more next (place + length bytes + 1) following (omega (arith, length-append bytes (0x0A ∷ joined 0x0A (following ∷ more)))) k))

-- lines are held with their head
pub lines-head : (L : Limits) (h k : Head) (place : ℕ) (bytes : List ℕ) (more names : List (List ℕ)) (choices : List Choice) → read_lines L h nothing_read place bytes more ≡ holds k names choices → h ≡ k
unfolding Answer PlaceBelow
lines-head L h k place bytes more names choices e =
    subst (Answer (λ (x : Head). h ≡ x) (place + length (joined 0x0A (bytes ∷ more)))) e
    (lines-answer L h (place + length (joined 0x0A (bytes ∷ more))) (λ (x : Head). h ≡ x) refl more nothing_read place bytes (omega arith) tt)

-- reading answers what a text holds, or 31 or 32 at a place in it or at its end
pub read_answer : (L : Limits) (text : List ℕ) → Answer (λ h. Unit) (length text) (read_prism L text)
unfolding read_prism
read_answer L text = subst (λ (l : List ℕ). Answer (λ h. Unit) (length l) (read_pieces L (pieces 0x0A text))) (joined-pieces 0x0A text) (go (pieces 0x0A text))
  where
    headed : (x : ReadHead) (first bytes : List ℕ) (more : List (List ℕ)) → Answer (λ h. Unit) (length (first ++ (0x0A ∷ joined 0x0A (bytes ∷ more)))) (read_headed L x (length first + 1) bytes more)
    headed no_head first bytes more = unfold read_headed Answer in (inl refl, omega arith)
    headed (head h) first bytes more =
        unfold read_headed in lines-answer L h (length (first ++ (0x0A ∷ joined 0x0A (bytes ∷ more)))) (λ h. Unit) tt more nothing_read (length first + 1) bytes (omega (arith, length-append first (0x0A ∷ joined 0x0A (bytes ∷ more)))) (unfold PlaceBelow in tt)

    go : (ps : List (List ℕ)) → Answer (λ h. Unit) (length (joined 0x0A ps)) (read_pieces L ps)
    go [] = unfold read_pieces Answer in (inl refl, omega arith)
    go (first ∷ []) = unfold read_pieces Answer in (inl refl, omega arith)
    go (first ∷ bytes ∷ more) = unfold read_pieces joined in headed (read_head L first) first bytes more

-- a refusal is 31 or 32
pub read_number : (L : Limits) (text : List ℕ) (number place : ℕ) → read_prism L text ≡ refused_at number place → (number ≡ 31) ⊎ (number ≡ 32)
unfolding Answer
read_number L text number place e = (subst (Answer (λ h. Unit) (length text)) e (read_answer L text)).0

-- its place is in the text, or its end
pub read-place : (L : Limits) (text : List ℕ) (number place : ℕ) → read_prism L text ≡ refused_at number place → place ≤ length text
unfolding Answer
read-place L text number place e = (subst (Answer (λ h. Unit) (length text)) e (read_answer L text)).1
