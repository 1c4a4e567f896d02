-- What is read is an allowed text: the lines read are those of choices that keep the rules.
use Prim.Native.Nat.{ℕ, suc, ◌+◌, ◌<◌}
use Rattle.std.specs.Prelude.{◌≡◌, Bool, ◌⊎◌, replicate}
use Rattle.std.proofs.Math.Path.{refl, sym, ap, ap₂, subst}
use Rattle.std.proofs.Common.{◌∙◌, inl, inr}
use Rattle.std.proofs.Math.Bool.{true, false}
use mathlib.Core.List.{List, [], ◌∷◌, ◌++◌, map, append_assoc, append-nil}
use Rattle.std.proofs.Math.ListN.{length}
use native.Mathlib.Omega.{arith}
use Rattle.bisimulation.proofs.argument.ChoiceLaws.{is_true, is_false, kept_same, kept_true}
use Rattle.rules.specs.definitions.Limits.{Limits}
use Rattle.rules.specs.definitions.Model.{Transition}
use Rattle.rules.specs.definitions.SoundModel.{Each, Along, sum_over}
use Rattle.rules.proofs.argument.SoundModelLaws.{From, along-from}
use Rattle.prism.specs.definitions.Lines.{pieces, Line, ReadLine, good, broken, read_line, Head, ReadHead, head, no_head, read_head}
use Rattle.prism.specs.definitions.Reading.{with_name, Choice, total_of, last_target, begun, Progress, nothing_read, choices_with, choices_of, goes_on, begins, extends, with_begun, with_extended, ReadText, holds, refused_at, unless_total, at_end, last_piece, Step, read, fault, step_on, step_begins, step_by, step_read, step, after_step, read_lines, read_headed, read_pieces, read_prism}
use Rattle.prism.specs.definitions.HeldModel.{transition_of, held_model}
use Rattle.prism.specs.definitions.AllowedText.{Target, WrittenChoice, ProbabilityRules, parts_of, ChoiceRules, names_from, lines_bytes, choices_bytes, text_bytes, read_choice, AllowedText}
use Rattle.prism.proofs.argument.PieceLaws.{joined, joined-pieces}
use Rattle.prism.proofs.argument.LineLaws.{Shown, line_of, line_value, GoodLine, line-good}
use Rattle.prism.proofs.argument.HeadLaws.{HeadRules, head_of, head-ended, head-good}
use Rattle.prism.proofs.argument.GoesOnLaws.{nothing-goes-on, line-goes-on}
use Rattle.prism.proofs.argument.NameLaws.{Seen, with-seen, seen_one}
use Rattle.prism.proofs.argument.ReadingLaws.{lines-head}
use Rattle.prism.proofs.argument.Followed.{FollowsFirst, none_first, TargetRules, Follow, reached, held_next, next-follow}
use Rattle.prism.proofs.argument.ChoiceLines.{Begins, begins-exactly, Extends, extends-exactly, at, entry_for, longer, on, on-grown, last-longer, total-grown, written, begun_by, lines_same, line-then}

module _ (L : Limits) (h : Head) (names : List (List ℕ)) (choices : List Choice) where
  -- the bytes left are those of choices that keep the rules, and the text holds them
  record Later (r : Progress) (text : List ℕ) : Type 0 where
    writes : List WrittenChoice
    bytes : text ≡ choices_bytes writes
    rules : Follow L h r writes
    seen : names_from r.names writes ≡ names
    model : map transition_of choices ≡ map transition_of (choices_of r) ++ map transition_of (map (read_choice names) writes)

  -- and before them come further lines of the pending choice
  record Rest (lines : ℕ) (known : List (List ℕ)) (ended : List Choice) (c : Choice) (name : List ℕ) (text : List ℕ) : Type 0 where
    targets : List Target
    after : List ℕ
    bytes : text ≡ lines_bytes (written c.source c.number name []) targets ++ after
    rules : TargetRules h.states (suc (last_target c.entries)) targets
    whole : total_of c + sum_over (λ (x : Target). parts_of x.probability) targets ≡ 10000
    later : Later (on lines known ended c targets) after

  holds_not : (number place : ℕ) → holds h names choices ≡ refused_at number place → ⊥
  holds_not number place e = let z : ◌≡◌ {A = ℕ} 0 1 = cc in omega arith

  -- at the text's end nothing is left
  end_later : (r : Progress) (place : ℕ) → length r.names < L.actions → holds h names choices ≡ at_end h r place → Later r []
  unfolding at_end choices_bytes Each Along FollowsFirst sum_over names_from
  end_later r place few e =
      let a = kept_same _ (refused_at 31 place) (length (choices_of r)) h.choices (holds_not 31 place) e in
      let b = kept_same _ (refused_at 31 place) r.lines h.transitions (holds_not 31 place) a.1 in
      let ns : r.names ≡ names = cc b.1 in
      let cs : choices ≡ choices_of r = cc b.1 in
      record {
        writes = [];
        bytes = refl;
        rules = record { first = tt; each = tt; order = tt; lines = omega (arith, b.0); count = omega (arith, a.0); names = few };
        seen = ns;
        model = ap (map transition_of) cs ∙ sym (append-nil _);
      }

  last-later : (r : Progress) (place : ℕ) (bytes : List ℕ) → length r.names < L.actions → holds h names choices ≡ last_piece h r place bytes → Later r bytes
  unfolding last_piece
  last-later r place [] few e = end_later r place few e
  last-later r place (b ∷ bs) few e = absurd (holds_not 31 place e)

  -- a line that begins a choice, with its further lines and what follows them
  module _ (r : Progress) (place s n : ℕ) (name : List ℕ) (x : Target) where
    abbrev begins-as : Choice
    begins-as = begun_by place r.names s n name x

    begun-later : (xs : List Target) (after : List ℕ) → ChoiceRules h.states (written s n name (x ∷ xs)) → Begins L h r (line_value s n name x) → Later (reached r place s n name x xs) after → Later r (line_of s n name x ++ (0x0A ∷ (lines_bytes (written s n name []) xs ++ after)))
    unfolding choices_bytes lines_bytes names_from
    begun-later xs after rules k d =
        let w = written s n name (x ∷ xs) in
        record {
          writes = w ∷ d.writes;
          bytes =
              ap₂ (λ (l : List ℕ) (m : List ℕ). line_of s n name x ++ (0x0A ∷ (l ++ m))) (lines_same s n name [] (x ∷ xs) xs) d.bytes
              ∙ sym (line-then w x (lines_bytes w xs) (choices_bytes d.writes));
          rules = next-follow r place s n name x xs L h d.writes rules k d.rules;
          seen = d.seen;
          model = held_next r place s n name x xs d.writes names choices d.seen d.model;
        }

    begin-later : (text : List ℕ) → Shown name → ProbabilityRules x.probability → Begins L h r (line_value s n name x) → Rest (r.lines + 1) (with_name r.names name) (choices_of r) begins-as name text → Later r (line_of s n name x ++ (0x0A ∷ text))
    unfolding line_value Each From total_of sum_over last_target
    begin-later text shown rules k t =
        subst (λ (l : List ℕ). Later r (line_of s n name x ++ (0x0A ∷ l))) (sym t.bytes)
        (begun-later t.targets t.after
        (record {
          source = k.inside.source;
          some = omega arith;
          states = (k.inside.target, t.rules.states);
          ascend = along-from (λ (y : Target). y.state) (λ (y : Target). suc y.state) (x ∷ t.targets) 0 (omega arith, t.rules.ascend);
          name = shown;
          probabilities = (rules, t.rules.probabilities);
          whole = omega (arith, t.whole);
        })
        k
        (subst (λ (q : Progress). Later q t.after) (on-grown (r.lines + 1) (with_name r.names name) (choices_of r) begins-as t.targets) t.later))

  -- a total that is passed: the line goes on with the choice, or the choice adds up to 1
  total-past : (c : Choice) (bytes : List ℕ) (next : ReadText) → holds h names choices ≡ unless_total (begun c) bytes next → ((goes_on (begun c) bytes ≡ true) ⊎ ((goes_on (begun c) bytes ≡ false) × (total_of c ≡ 10000))) × (holds h names choices ≡ next)
  unfolding unless_total
  total-past c bytes next e = go (goes_on (begun c) bytes) refl
    where
      go : (t : Bool) → goes_on (begun c) bytes ≡ t → ((goes_on (begun c) bytes ≡ true) ⊎ ((goes_on (begun c) bytes ≡ false) × (total_of c ≡ 10000))) × (holds h names choices ≡ next)
      go true q = (inl q, e ∙ sym (is_true _ q refl))
      go false q =
          let a = kept_same next (refused_at 32 c.place) (total_of c) 10000 (holds_not 32 c.place) (e ∙ sym (is_false _ q refl)) in
          (inr (q, a.0), a.1)

  -- a line that is read: as values, and with what is read then
  record Stepped (r : Progress) (place : ℕ) (bytes : List ℕ) (next : Progress → ReadText) : Type 0 where
    line : Line
    parsed : GoodLine bytes line
    reached : Progress
    step-to : step_by L h r place bytes r.pending line ≡ read reached
    goes : holds h names choices ≡ next reached

  stepped : (r : Progress) (place : ℕ) (bytes : List ℕ) (next : Progress → ReadText) → holds h names choices ≡ after_step (step L h r place bytes) place next → Stepped r place bytes next
  unfolding step
  stepped r place bytes next e = line (read_line bytes) refl e
    where
      by : (x : Line) → GoodLine bytes x → (s : Step) → step_by L h r place bytes r.pending x ≡ s → holds h names choices ≡ after_step s place next → Stepped r place bytes next
      by x g fault q e = absurd (holds_not 31 place (unfold after_step in e))
      by x g (read r') q e = record { line = x; parsed = g; reached = r'; step-to = q; goes = unfold after_step in e }

      line : (y : ReadLine) → read_line bytes ≡ y → holds h names choices ≡ after_step (step_read L h r place bytes y) place next → Stepped r place bytes next
      line broken q e = absurd (holds_not 31 place (unfold step_read after_step in e))
      line (good x) q e = by x (line-good bytes x q) (step_by L h r place bytes r.pending x) refl (unfold step_read in e)

  read-not : (r : Progress) → read r ≡ fault → ⊥
  read-not r e = let z : ◌≡◌ {A = ℕ} 0 1 = cc in omega arith

  step-begins : (r reached : Progress) (place : ℕ) (x : Line) → step_begins L h r place x ≡ read reached → Begins L h r x × (reached ≡ with_begun r place x)
  unfolding step_begins
  step-begins r reached place x e =
      let a = kept_true _ fault (begins L h r x) (read-not reached) (sym e) in
      ((begins-exactly L h r x).0 a.0, cc a.1)

  step-on : (r reached : Progress) (c : Choice) (x : Line) → step_on L h r c x ≡ read reached → Extends L h r x c × (reached ≡ with_extended r c x)
  unfolding step_on
  step-on r reached c x e =
      let a = kept_true _ fault (extends L h r c x) (read-not reached) (sym e) in
      ((extends-exactly L h r x c).0 a.0, cc a.1)

  -- nothing stands behind the last 0A
  last_empty : (r : Progress) (place : ℕ) (bytes : List ℕ) → holds h names choices ≡ last_piece h r place bytes → bytes ≡ []
  unfolding last_piece
  last_empty r place [] e = refl
  last_empty r place (b ∷ bs) e = absurd (holds_not 31 place e)

  -- no further line of a choice that adds up to 1
  rest-none : (lines : ℕ) (known : List (List ℕ)) (ended : List Choice) (c : Choice) (name text : List ℕ) → total_of c ≡ 10000 → Later (at lines known ended c) text → Rest lines known ended c name text
  unfolding lines_bytes Each From sum_over on
  rest-none lines known ended c name text whole later =
      record { targets = []; after = text; bytes = refl; rules = record { states = tt; ascend = tt; probabilities = tt }; whole = omega arith; later = later }

  -- one further line
  rest-one : (lines : ℕ) (known : List (List ℕ)) (ended : List Choice) (c : Choice) (name : List ℕ) (s n : ℕ) (called : List ℕ) (x : Target) (text : List ℕ) → Seen known name c.action → (s ≡ c.source) × (n ≡ c.number) → ProbabilityRules x.probability → Extends L h (at lines known ended c) (line_value s n called x) c → Rest (lines + 1) known ended (longer c x) name text → Rest lines known ended c name (line_of s n called x ++ (0x0A ∷ text))
  unfolding line_value lines_bytes Each From sum_over on
  rest-one lines known ended c name s n called x text seen one rules k t =
      let w = written c.source c.number name [] in
      let same : called ≡ name = seen_one known name called c.action seen k.action in
      let last = last-longer c.entries (entry_for x) in
      let total : total_of (longer c x) ≡ total_of c + (parts_of x.probability + 0) = total-grown c (x ∷ []) in
      record {
        targets = x ∷ t.targets;
        after = t.after;
        bytes =
            (λ i. line_of (one.0 i) (one.1 i) (same i) x ++ (0x0A ∷ t.bytes i))
            ∙ sym (line-then w x (lines_bytes w t.targets) t.after);
        rules =
            record {
              states = (k.inside.target, t.rules.states);
              ascend = (k.ascends, subst (λ (k : ℕ). From (λ (y : Target). y.state) (λ (y : Target). suc y.state) (suc k) t.targets) last t.rules.ascend);
              probabilities = (rules, t.rules.probabilities);
            };
        whole = omega (arith, t.whole, total);
        later = t.later;
      }

  -- reading goes on behind a line: what is known of what is left
  module _ (text : List ℕ) (next : Progress → ReadText) (going : (lines : ℕ) (known : List (List ℕ)) (ended : List Choice) (c : Choice) (name : List ℕ) → Seen known name c.action → length known < L.actions → holds h names choices ≡ next (at lines known ended c) → Rest lines known ended c name text) where
    line-begins : (r : Progress) (place : ℕ) (bytes : List ℕ) (x : Line) (reached : Progress) → GoodLine bytes x → step_begins L h r place x ≡ read reached → holds h names choices ≡ next reached → Later r (bytes ++ (0x0A ∷ text))
    unfolding line_value with_begun
    line-begins r place bytes x reached g e goes =
        let k = step-begins r reached place x e in
        let t = g.line in
        let v = g.value in
        let there : reached ≡ at (r.lines + 1) (with_name r.names x.name) (choices_of r) (begun_by place r.names x.source x.choice x.name t) =
        k.1 ∙ ap (with_begun r place) v in
        subst (λ (l : List ℕ). Later r (l ++ (0x0A ∷ text))) (sym g.written)
        (begin-later r place x.source x.choice x.name t text g.shown g.rules (subst (Begins L h r) v k.0)
        (going _ _ _ _ x.name (with-seen r.names x.name) k.0.names (goes ∙ ap next there)))

    line_on : (lines : ℕ) (known : List (List ℕ)) (ended : List Choice) (c : Choice) (name bytes : List ℕ) (x : Line) (reached : Progress) → Seen known name c.action → length known < L.actions → goes_on (begun c) bytes ≡ true → GoodLine bytes x → step_on L h (at lines known ended c) c x ≡ read reached → holds h names choices ≡ next reached → Rest lines known ended c name (bytes ++ (0x0A ∷ text))
    unfolding line_value with_extended
    line_on lines known ended c name bytes x reached seen few q g e goes =
        let r = at lines known ended c in
        let k = step-on r reached c x e in
        let t = g.line in
        let v = g.value in
        let there : reached ≡ at (lines + 1) known ended (longer c t) = k.1 ∙ ap (with_extended r c) v in
        let one = (line-goes-on c x.source x.choice x.name t).0 (ap (goes_on (begun c)) (sym g.written) ∙ q) in
        subst (λ (l : List ℕ). Rest lines known ended c name (l ++ (0x0A ∷ text))) (sym g.written)
        (rest-one lines known ended c name x.source x.choice x.name t text seen one g.rules (subst (λ (y : Line). Extends L h r y c) v k.0)
        (going (lines + 1) known ended (longer c t) name seen few (goes ∙ ap next there)))

    line-rest : (lines : ℕ) (known : List (List ℕ)) (ended : List Choice) (c : Choice) (name : List ℕ) (place : ℕ) (bytes : List ℕ) → Seen known name c.action → length known < L.actions → holds h names choices ≡ unless_total (begun c) bytes (after_step (step L h (at lines known ended c) place bytes) place next) → Rest lines known ended c name (bytes ++ (0x0A ∷ text))
    unfolding step_by
    line-rest lines known ended c name place bytes seen few e =
        let a = total-past c bytes _ e in
        go a.0 (stepped (at lines known ended c) place bytes next a.1)
      where
        go : ((goes_on (begun c) bytes ≡ true) ⊎ ((goes_on (begun c) bytes ≡ false) × (total_of c ≡ 10000))) → Stepped (at lines known ended c) place bytes next → Rest lines known ended c name (bytes ++ (0x0A ∷ text))
        go (inl q) s = line_on lines known ended c name bytes s.line s.reached seen few q s.parsed (is_true _ q refl ∙ s.step-to) s.goes
        go (inr q) s = rest-none lines known ended c name (bytes ++ (0x0A ∷ text)) q.1 (line-begins (at lines known ended c) place bytes s.line s.reached s.parsed (is_false _ q.0 refl ∙ s.step-to) s.goes)

  -- the lines left, where a choice has begun
  read-rest : (more : List (List ℕ)) (place : ℕ) (bytes : List ℕ) (lines : ℕ) (known : List (List ℕ)) (ended : List Choice) (c : Choice) (name : List ℕ) → Seen known name c.action → length known < L.actions → holds h names choices ≡ read_lines L h (at lines known ended c) place bytes more → Rest lines known ended c name (joined 0x0A (bytes ∷ more))
  unfolding read_lines joined
  read-rest [] place bytes lines known ended c name seen few e =
      let a = total-past c bytes _ e in
      rest-none lines known ended c name bytes (whole a.0 (last_empty _ place bytes a.1)) (last-later (at lines known ended c) place bytes few a.1)
    where
      whole : ((goes_on (begun c) bytes ≡ true) ⊎ ((goes_on (begun c) bytes ≡ false) × (total_of c ≡ 10000))) → bytes ≡ [] → total_of c ≡ 10000
      whole (inl q) empty = absurd (nothing-goes-on c (ap (goes_on (begun c)) (sym empty) ∙ q))
      whole (inr q) empty = q.1
  read-rest (following ∷ more) place bytes lines known ended c name seen few e =
      line-rest (joined 0x0A (following ∷ more)) (λ next. read_lines L h next (place + length bytes + 1) following more) (read-rest more (place + length bytes + 1) following) lines known ended c name place bytes seen few e

  -- all lines behind the head
  read-later : (place : ℕ) (bytes : List ℕ) (more : List (List ℕ)) → 0 < L.actions → holds h names choices ≡ read_lines L h nothing_read place bytes more → Later nothing_read (joined 0x0A (bytes ∷ more))
  unfolding read_lines joined unless_total
  read-later place bytes [] some e = last-later nothing_read place bytes some e
  read-later place bytes (following ∷ more) some e =
      let s = stepped nothing_read place bytes _ e in
      line-begins (joined 0x0A (following ∷ more)) (λ next. read_lines L h next (place + length bytes + 1) following more) (read-rest more (place + length bytes + 1) following) nothing_read place bytes s.line s.reached s.parsed (unfold step_by in s.step-to) s.goes

-- the head line, and the lines behind it
head-allowed : (L : Limits) (h : Head) (names : List (List ℕ)) (choices : List Choice) (first bytes : List ℕ) (more : List (List ℕ)) → 0 < L.actions → HeadRules L h → first ≡ head_of h → read_lines L h nothing_read (length first + 1) bytes more ≡ holds h names choices → AllowedText L (first ++ (0x0A ∷ joined 0x0A (bytes ∷ more))) (held_model h names choices)
unfolding text_bytes held_model choices_of choices_with
head-allowed L h names choices first bytes more some rules is_head q =
    let d = read-later L h names choices (length first + 1) bytes more some (sym q) in
    record {
      head = h;
      choices = d.writes;
      rules =
          record {
            some_state = rules.some_state;
            states = rules.states;
            choices = omega (arith, d.rules.count);
            most_choices = rules.choices;
            lines = omega (arith, d.rules.lines);
            most_lines = rules.transitions;
            names = d.rules.names;
            each = d.rules.each;
            order = d.rules.order;
            first = none_first d.writes d.rules.first;
          };
      bytes =
          ap₂ (λ (l m : List ℕ). l ++ (0x0A ∷ m)) is_head d.bytes
          ∙ sym (append_assoc (head_of h) (0x0A ∷ []) (choices_bytes d.writes))
          ∙ ap (λ (l : List ℕ). l ++ choices_bytes d.writes) (sym (head-ended h));
      model =
          ap (λ (ts : List Transition). record { actions = length names + 1; labels = replicate h.states 0; transitions = ts }) d.model
          ∙ ap (λ (ns : List (List ℕ)). held_model h ns (map (read_choice ns) d.writes)) (sym d.seen);
    }

-- a text that is read as holding choices is an allowed one, and holds their model
pub read-allowed : (L : Limits) (text : List ℕ) (h : Head) (names : List (List ℕ)) (choices : List Choice) → 0 < L.actions → read_prism L text ≡ holds h names choices → AllowedText L text (held_model h names choices)
unfolding read_prism
read-allowed L text h names choices some e =
    subst (λ (l : List ℕ). AllowedText L l (held_model h names choices)) (joined-pieces 0x0A text) (go (pieces 0x0A text) e)
  where
    never : (place : ℕ) → refused_at 31 place ≡ holds h names choices → ⊥
    never place q = holds_not L h names choices 31 place (sym q)

    headed : (x : ReadHead) (first bytes : List ℕ) (more : List (List ℕ)) → read_head L first ≡ x → read_headed L x (length first + 1) bytes more ≡ holds h names choices → AllowedText L (first ++ (0x0A ∷ joined 0x0A (bytes ∷ more))) (held_model h names choices)
    headed no_head first bytes more p q = absurd (never 0 (unfold read_headed in q))
    headed (head k) first bytes more p q =
        let q' : read_lines L k nothing_read (length first + 1) bytes more ≡ holds h names choices = unfold read_headed in q in
        let one : k ≡ h = lines-head L k h (length first + 1) bytes more names choices q' in
        let g = head-good L first h (p ∙ ap head one) in
        head-allowed L h names choices first bytes more some g.0 g.1 (subst (λ (x : Head). read_lines L x nothing_read (length first + 1) bytes more ≡ holds h names choices) one q')

    go : (ps : List (List ℕ)) → read_pieces L ps ≡ holds h names choices → AllowedText L (joined 0x0A ps) (held_model h names choices)
    go [] q = absurd (never 0 (unfold read_pieces in q))
    go (first ∷ []) q = absurd (never 0 (unfold read_pieces in q))
    go (first ∷ bytes ∷ more) q = unfold read_pieces joined in headed (read_head L first) first bytes more refl q
