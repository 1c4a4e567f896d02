-- An allowed text is read, as holding its model.
use Prim.Native.Nat.{ℕ, suc, ◌+◌, ◌≤◌, ◌<◌}
use Rattle.std.specs.Prelude.{◌≡◌, ◌↔◌, replicate}
use Rattle.std.proofs.Math.Path.{refl, sym, ap, subst}
use Rattle.std.proofs.Common.{◌∙◌, inl, inr}
use mathlib.Core.List.{List, [], ◌∷◌, ◌++◌, map, append_assoc, append-nil}
use Rattle.std.proofs.Math.ListN.{length}
use native.Mathlib.Omega.{arith}
use Rattle.bisimulation.proofs.argument.ChoiceLaws.{same, is_true, not_true, either_true}
use Rattle.rules.specs.definitions.Limits.{Limits}
use Rattle.rules.specs.definitions.Model.{Transition, Model}
use Rattle.rules.specs.definitions.SoundModel.{Each, sum_over}
use Rattle.rules.proofs.argument.SoundModelLaws.{From}
use Rattle.prism.specs.definitions.Lines.{Head}
use Rattle.prism.specs.definitions.Reading.{action_of, with_name, Choice, total_of, last_target, Pending, none, begun, Progress, nothing_read, choices_with, choices_of, goes_on, with_begun, with_extended, ReadText, holds, refused_at, unless_total, at_end, last_piece, Step, read, fault, step_on, step_begins, step_by, step_read, step, after_step, read_prism}
use Rattle.prism.specs.definitions.HeldModel.{transition_of, held_model}
use Rattle.prism.specs.definitions.AllowedText.{Target, WrittenChoice, ProbabilityRules, names_from, names_of, lines_bytes, choices_bytes, text_bytes, read_choice, AllowedText}
use Rattle.prism.proofs.argument.LineLaws.{Shown, line_of, line_value, line-without, line_read}
use Rattle.prism.proofs.argument.HeadLaws.{HeadRules, head_of, head-ended, head-without, head_read}
use Rattle.prism.proofs.argument.GoesOnLaws.{line-goes-on}
use Rattle.prism.proofs.argument.NameLaws.{with-seen}
use Rattle.prism.proofs.argument.ReadingLaws.{read_rest, rest-line, rest-last, read-head}
use Rattle.prism.proofs.argument.ChoiceLines.{Follows, Begins, begins-exactly, Extends, extends-exactly, at, entry_for, longer, grown, on, on-grown, last-longer, total-grown, written, begun_by, line-then}
use Rattle.prism.proofs.argument.Followed.{first-none, TargetRules, later-targets, Follow, reached, held_next, follow-begins, follow-next}
use Rattle.prism.proofs.argument.ReadAllowed.{read-allowed}

-- the pending choice adds up to 1
unfoldable Whole : Pending → Type 0
Whole none = Unit
Whole (begun c) = total_of c ≡ 10000

total-whole : (p : Pending) (bytes : List ℕ) (next : ReadText) → Whole p → unless_total p bytes next ≡ next
unfolding Whole unless_total
total-whole none bytes next whole = refl
total-whole (begun c) bytes next whole = either_true (λ (z : ReadText). z ≡ next) (goes_on (begun c) bytes) refl (sym (same (refused_at 32 c.place) whole refl))

-- a choice that follows is another
follows-not : (c : Choice) (s n : ℕ) → Follows (begun c) s n → (s ≡ c.source) × (n ≡ c.number) → ⊥
unfolding Follows
follows-not c s n (inl k) e = omega (arith, k.1, e.1)
follows-not c s n (inr k) e = omega (arith, k.0, e.0)

module _ (L : Limits) (h : Head) where
  -- a line that goes on with the pending choice
  line-extends : (lines : ℕ) (names : List (List ℕ)) (ended : List Choice) (c : Choice) (place : ℕ) (name : List ℕ) (x : Target) (rest : List ℕ) → Shown name → ProbabilityRules x.probability → Extends L h (at lines names ended c) (line_value c.source c.number name x) c → read_rest L h (at lines names ended c) place (line_of c.source c.number name x ++ (0x0A ∷ rest)) ≡ read_rest L h (at (lines + 1) names ended (longer c x)) (place + length (line_of c.source c.number name x) + 1) rest
  unfolding unless_total after_step step step_read step_by step_on with_extended line_value
  line-extends lines names ended c place name x rest shown rules k =
      let r = at lines names ended c in
      let line = line_of c.source c.number name x in
      let on = (line-goes-on c c.source c.number name x).1 (refl, refl) in
      let stepped : step L h r place line ≡ read (at (lines + 1) names ended (longer c x)) =
      ap (step_read L h r place line) (line_read c.source c.number name x shown rules)
      ∙ sym (is_true _ on (is_true fault ((extends-exactly L h r (line_value c.source c.number name x) c).1 k) refl)) in
      rest-line L h r place line rest (line-without c.source c.number name x shown rules)
      ∙ sym (is_true _ on refl)
      ∙ ap (λ (s : Step). after_step s place (λ next. read_rest L h next (place + length line + 1) rest)) stepped

  -- a line that begins a choice
  line-begins : (r : Progress) (place s n : ℕ) (name : List ℕ) (x : Target) (rest : List ℕ) → Shown name → ProbabilityRules x.probability → Whole r.pending → Begins L h r (line_value s n name x) → read_rest L h r place (line_of s n name x ++ (0x0A ∷ rest)) ≡ read_rest L h (at (r.lines + 1) (with_name r.names name) (choices_of r) (begun_by place r.names s n name x)) (place + length (line_of s n name x) + 1) rest
  unfolding after_step step step_read step_begins with_begun line_value
  line-begins r place s n name x rest shown rules whole k =
      let line = line_of s n name x in
      let stepped : step L h r place line ≡ read (at (r.lines + 1) (with_name r.names name) (choices_of r) (begun_by place r.names s n name x)) =
      ap (step_read L h r place line) (line_read s n name x shown rules)
      ∙ begin r.pending k.next
      ∙ sym (is_true fault ((begins-exactly L h r (line_value s n name x)).1 k) refl) in
      rest-line L h r place line rest (line-without s n name x shown rules)
      ∙ total-whole r.pending line _ whole
      ∙ ap (λ (s : Step). after_step s place (λ next. read_rest L h next (place + length line + 1) rest)) stepped
    where
      begin : (p : Pending) → Follows p s n → step_by L h r place (line_of s n name x) p (line_value s n name x) ≡ step_begins L h r place (line_value s n name x)
      begin none f = unfold step_by in refl
      begin (begun c) f = unfold step_by in sym (not_true _ (λ e. follows-not c s n f ((line-goes-on c s n name x).0 e)) refl)

  -- further lines of the pending choice
  lines-read : (xs ys : List Target) (lines : ℕ) (names : List (List ℕ)) (ended : List Choice) (c : Choice) (place : ℕ) (name rest : List ℕ) → Shown name → c.source < h.states → action_of names name ≡ c.action → lines + length xs ≤ L.entries → TargetRules h.states (suc (last_target c.entries)) xs → (next : ℕ) × (read_rest L h (at lines names ended c) place (lines_bytes (written c.source c.number name ys) xs ++ rest) ≡ read_rest L h (on lines names ended c xs) next rest)
  unfolding lines_bytes Each From on line_value
  lines-read [] ys lines names ended c place name rest shown source action few rules = (place, refl)
  lines-read (x ∷ xs) ys lines names ended c place name rest shown source action few rules =
      let w = written c.source c.number name ys in
      let last = last-longer c.entries (entry_for x) in
      let k : Extends L h (at lines names ended c) (line_value c.source c.number name x) c = record { inside = record { source = source; target = rules.states.0; few = omega arith }; ascends = rules.ascend.0; action = action } in
      let later =
      lines-read xs ys (lines + 1) names ended (longer c x) (place + length (line_of c.source c.number name x) + 1) name rest shown source action (omega arith)
      (record { states = rules.states.1; ascend = subst (λ (k : ℕ). From (λ (x : Target). x.state) (λ (x : Target). suc x.state) (suc k) xs) (sym last) rules.ascend.1; probabilities = rules.probabilities.1 }) in (
        later.0,
        ap (read_rest L h (at lines names ended c) place) (line-then w x (lines_bytes w xs) rest)
            ∙ line-extends lines names ended c place name x (lines_bytes w xs ++ rest) shown rules.probabilities.0 k
            ∙ later.1,
      )

  -- what a text is read as, where choices follow what has been read
  record Held (r : Progress) (cs : List WrittenChoice) (place : ℕ) : Type 0 where
    choices : List Choice
    reads : read_rest L h r place (choices_bytes cs) ≡ holds h (names_from r.names cs) choices
    model : map transition_of choices ≡ map transition_of (choices_of r) ++ map transition_of (map (read_choice (names_from r.names cs)) cs)

  module _ (most_lines : h.transitions ≤ L.entries) (most_choices : h.choices ≤ L.transitions) where
    -- one choice, and those behind it
    module _ (s n : ℕ) (name : List ℕ) (x : Target) (xs : List Target) (cs : List WrittenChoice) (r : Progress) (place : ℕ) (whole : Whole r.pending) (f : Follow L h r (written s n name (x ∷ xs) ∷ cs)) where
      choice-lines : (next : ℕ) × (read_rest L h r place (choices_bytes (written s n name (x ∷ xs) ∷ cs)) ≡ read_rest L h (reached r place s n name x xs) next (choices_bytes cs))
      unfolding Each From sum_over last_target choices_bytes lines_bytes
      choice-lines =
          let w = written s n name (x ∷ xs) in
          let c = begun_by place r.names s n name x in
          let known = with_name r.names name in
          let rules = f.each.0 in
          let more =
          lines-read xs (x ∷ xs) (r.lines + 1) known (choices_of r) c (place + length (line_of s n name x) + 1) name (choices_bytes cs) rules.name rules.source (with-seen r.names name).action
          (omega (arith, f.lines)) (later-targets h.states s n name x xs rules) in (
            more.0,
            ap (read_rest L h r place) (line-then w x (lines_bytes w xs) (choices_bytes cs))
                ∙ line-begins r place s n name x (lines_bytes w xs ++ choices_bytes cs) rules.name rules.probabilities.0 whole (follow-begins r place s n name x xs L h cs most_lines most_choices f)
                ∙ more.1
                ∙ ap (λ (q : Progress). read_rest L h q more.0 (choices_bytes cs)) (on-grown (r.lines + 1) known (choices_of r) c xs),
          )

      choice-whole : total_of (grown (begun_by place r.names s n name x) xs) ≡ 10000
      unfolding Each sum_over total_of
      choice-whole = total-grown (begun_by place r.names s n name x) xs ∙ omega (arith, f.each.0.whole)

      choice-held : ((r : Progress) (place : ℕ) → Whole r.pending → Follow L h r cs → Held r cs place) → Held r (written s n name (x ∷ xs) ∷ cs) place
      unfolding Whole names_from
      choice-held later =
          let start = choice-lines in
          let rest = later (reached r place s n name x xs) start.0 choice-whole (follow-next r place s n name x xs L h cs f) in
          record {
            choices = rest.choices;
            reads = start.1 ∙ rest.reads;
            model = held_next r place s n name x xs cs _ rest.choices refl rest.model;
          }

    choice-read : (s n : ℕ) (name : List ℕ) (xs : List Target) (cs : List WrittenChoice) (r : Progress) (place : ℕ) → Whole r.pending → Follow L h r (written s n name xs ∷ cs) → ((r : Progress) (place : ℕ) → Whole r.pending → Follow L h r cs → Held r cs place) → Held r (written s n name xs ∷ cs) place
    unfolding Each
    choice-read s n name [] cs r place whole f later = let e = f.each.0.some in absurd (omega arith)
    choice-read s n name (x ∷ xs) cs r place whole f later = choice-held s n name x xs cs r place whole f later

    -- all choices
    choices-read : (cs : List WrittenChoice) (r : Progress) (place : ℕ) → Whole r.pending → Follow L h r cs → Held r cs place
    unfolding Each choices_bytes sum_over names_from last_piece at_end
    choices-read [] r place whole f =
        record {
          choices = choices_of r;
          reads =
              rest-last L h r place [] tt
              ∙ total-whole r.pending [] _ whole
              ∙ sym (same _ (omega (arith, f.count)) (same _ (omega (arith, f.lines)) refl));
          model = sym (append-nil _);
        }
    choices-read (c ∷ cs) r place whole f = choice-read c.source c.number c.name c.targets cs r place whole f (choices-read cs)

-- the text is read as holding choices, whose model is M
pub record Reads (L : Limits) (text : List ℕ) (M : Model) : Type 0 where
  pub head : Head
  pub names : List (List ℕ)
  pub choices : List Choice
  pub reads : read_prism L text ≡ holds head names choices
  pub model : held_model head names choices ≡ M

-- an allowed text is read, as holding its model
pub allowed-read : (L : Limits) (text : List ℕ) (M : Model) → AllowedText L text M → Reads L text M
unfolding text_bytes held_model choices_of choices_with Whole
allowed-read L text M a =
    let h = a.head in
    let cs = a.choices in
    let rules = a.rules in
    let head_rules : HeadRules L h = record { some_state = rules.some_state; states = rules.states; choices = rules.most_choices; transitions = rules.most_lines } in
    let held =
    choices-read L h rules.most_lines rules.most_choices cs nothing_read (length (head_of h) + 1) tt
    (record {
      first = first-none cs rules.first;
      each = rules.each;
      order = rules.order;
      lines = omega (arith, rules.lines);
      count = omega (arith, rules.choices);
      names = rules.names;
    }) in
    let whole : text ≡ head_of h ++ (0x0A ∷ choices_bytes cs) =
    a.bytes ∙ ap (λ (l : List ℕ). l ++ choices_bytes cs) (head-ended h) ∙ append_assoc (head_of h) (0x0A ∷ []) (choices_bytes cs) in
    record {
      head = h;
      names = names_of cs;
      choices = held.choices;
      reads = ap (read_prism L) whole ∙ read-head L (head_of h) (head-without h) h (choices_bytes cs) (head_read L h head_rules) ∙ held.reads;
      model =
          ap (λ (ts : List Transition). record { actions = length (names_of cs) + 1; labels = replicate h.states 0; transitions = ts }) held.model
          ∙ sym a.model;
    }

-- a text holds one model
pub one-model : (L : Limits) (text : List ℕ) (M N : Model) → AllowedText L text M → AllowedText L text N → M ≡ N
one-model L text M N a b =
    let x = allowed-read L text M a in
    let y = allowed-read L text N b in
    let e : holds x.head x.names x.choices ≡ holds y.head y.names y.choices = sym x.reads ∙ y.reads in
    let h : x.head ≡ y.head = cc in
    let ns : x.names ≡ y.names = cc in
    let cs : x.choices ≡ y.choices = cc in
    sym x.model ∙ (λ i. held_model (h i) (ns i) (cs i)) ∙ y.model

-- a text is allowed and holds M exactly when it is read as holding M
pub read-exactly : (L : Limits) (text : List ℕ) (M : Model) → 0 < L.actions → AllowedText L text M ↔ Reads L text M
read-exactly L text M some = (
  allowed-read L text M,
  λ r. subst (AllowedText L text) r.model (read-allowed L text r.head r.names r.choices some r.reads),
)
