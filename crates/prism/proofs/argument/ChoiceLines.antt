-- The lines of a choice in reading: which begin one, which go on with it, and what it is with them.
use Rattle.std.specs.Prelude.{ℕ, ◌+◌, ◌<◌, ◌≡◌, refl, List, [], ◌∷◌, ◌++◌, map, ◌↔◌, ◌⊎◌, length}
use Rattle.std.proofs.Math.Path.{sym}
use Rattle.std.proofs.Common.{◌∙◌, ap, append_assoc, append-nil, inl, inr, arith}
use Rattle.std.proofs.Math.Bool.{true, false}
use Rattle.std.proofs.Math.Decide.{ℕ_discrete}
use Rattle.bisimulation.proofs.argument.ChoiceLaws.{less, same, not_same, is_true, kept_less, kept_same, kept_true, false-not}
use Rattle.rules.specs.definitions.Limits.{Limits}
use Rattle.rules.specs.definitions.Model.{Entry}
use Rattle.rules.specs.definitions.SoundModel.{sum_over}
use Rattle.rules.proofs.argument.MappedLists.{sum-mapped}
use Rattle.prism.specs.definitions.Lines.{Line, Head}
use Rattle.prism.specs.definitions.Reading.{action_of, with_name, Choice, total_of, last_target, Pending, none, begun, Progress, choices_of, follows, fits, begins, extends}
use Rattle.prism.specs.definitions.HeldModel.{transition_over, transition_of}
use Rattle.prism.specs.definitions.AllowedText.{Target, WrittenChoice, parts_of, lines_bytes, line_bytes, read_choice}
use Rattle.prism.proofs.argument.LineLaws.{line_of, line-ended}

-- 'Sources never descend; choices of a source count up from 0'
unfoldable pub Follows : Pending → (source number : ℕ) → Type 0
Follows none s n = n ≡ 0
Follows (begun c) s n = ((s ≡ c.source) × (n ≡ c.number + 1)) ⊎ ((c.source < s) × (n ≡ 0))

true-not : true ≡ false → ⊥
true-not e = false-not (sym e)

follows_so : (p : Pending) (x : Line) → follows p x ≡ true → Follows p x.source x.choice
unfolding follows Follows
follows_so none x e = (kept_same true false x.choice 0 true-not (sym e)).0
follows_so (begun c) x e = go (ℕ_discrete x.source c.source)
  where
    go : Dec (x.source ≡ c.source) → ((x.source ≡ c.source) × (x.choice ≡ c.number + 1)) ⊎ ((c.source < x.source) × (x.choice ≡ 0))
    go (yes p) =
        inl (p, (kept_same true false x.choice (c.number + 1) true-not (sym (same _ p refl ∙ e))).0)
    go (no n) =
        let a = kept_less _ false c.source x.source true-not (sym (not_same _ n refl ∙ e)) in
        inr (a.0, (kept_same true false x.choice 0 true-not a.1).0)

so-follows : (p : Pending) (x : Line) → Follows p x.source x.choice → follows p x ≡ true
unfolding follows Follows
so-follows none x e = sym (same false e refl)
so-follows (begun c) x (inl k) = sym (same _ k.0 (same false k.1 refl))
so-follows (begun c) x (inr k) = sym (not_same _ (λ e. omega (arith, k.0)) (less false k.0 (same false k.1 refl)))

module _ (L : Limits) (h : Head) (r : Progress) (x : Line) where
  pub record Fits : Type 0 where
    pub source : x.source < h.states
    pub target : x.target < h.states
    pub few : r.lines < L.entries

  fits-so : fits L h r x ≡ true → Fits
  unfolding fits
  fits-so e =
      let a = kept_less _ false x.source h.states true-not (sym e) in
      let b = kept_less _ false x.target h.states true-not a.1 in
      let c = kept_less true false r.lines L.entries true-not b.1 in
      record { source = a.0; target = b.0; few = c.0 }

  so-fits : Fits → fits L h r x ≡ true
  unfolding fits
  so-fits k = sym (less false k.source (less false k.target (less false k.few refl)))

  -- a line begins a choice
  pub record Begins : Type 0 where
    pub inside : Fits
    pub next : Follows r.pending x.source x.choice
    pub choices : length (choices_of r) < L.transitions
    pub names : length (with_name r.names x.name) < L.actions

  -- reading tests exactly that
  pub begins-exactly : (begins L h r x ≡ true) ↔ Begins
  unfolding begins
  begins-exactly = (there, back)
    where
      there : begins L h r x ≡ true → Begins
      there e =
          let a = kept_true _ false (fits L h r x) true-not (sym e) in
          let b = kept_true _ false (follows r.pending x) true-not a.1 in
          let c = kept_less _ false (length (choices_of r)) L.transitions true-not b.1 in
          let d = kept_less true false (length (with_name r.names x.name)) L.actions true-not c.1 in
          record { inside = fits-so a.0; next = follows_so r.pending x b.0; choices = c.0; names = d.0 }

      back : Begins → begins L h r x ≡ true
      back k =
          sym (is_true false (so-fits k.inside) (is_true false (so-follows r.pending x k.next) (less false k.choices (less false k.names refl))))

  module _ (c : Choice) where
    -- a line goes on with a choice
    pub record Extends : Type 0 where
      pub inside : Fits
      pub ascends : last_target c.entries < x.target
      pub action : action_of r.names x.name ≡ c.action

    -- reading tests exactly that
    pub extends-exactly : (extends L h r c x ≡ true) ↔ Extends
    unfolding extends
    extends-exactly = (there, back)
      where
        there : extends L h r c x ≡ true → Extends
        there e =
            let a = kept_true _ false (fits L h r x) true-not (sym e) in
            let b = kept_less _ false (last_target c.entries) x.target true-not a.1 in
            let d = kept_same true false (action_of r.names x.name) c.action true-not b.1 in
            record { inside = fits-so a.0; ascends = b.0; action = d.0 }

        back : Extends → extends L h r c x ≡ true
        back k = sym (is_true false (so-fits k.inside) (less false k.ascends (same false k.action refl)))

-- what has been read, with a choice that has begun
abbrev pub at : (lines : ℕ) (names : List (List ℕ)) (ended : List Choice) → Choice → Progress
at lines names ended c = record { lines = lines; names = names; ended = ended; pending = begun c }

abbrev pub entry_for : Target → Entry
entry_for x = record { state = x.state; weight = parts_of x.probability }

-- the choice with one more line, and with more
abbrev pub longer : Choice → Target → Choice
longer c x = record { place = c.place; source = c.source; number = c.number; action = c.action; entries = c.entries ++ (entry_for x ∷ []) }

abbrev pub grown : Choice → List Target → Choice
grown c xs = record { place = c.place; source = c.source; number = c.number; action = c.action; entries = c.entries ++ map entry_for xs }

-- what has been read, with more lines of the choice
unfoldable pub on : (lines : ℕ) (names : List (List ℕ)) (ended : List Choice) → Choice → List Target → Progress
on lines names ended c [] = at lines names ended c
on lines names ended c (x ∷ xs) = on (lines + 1) names ended (longer c x) xs

-- it is what has been read, with the choice grown by them
pub on-grown : (lines : ℕ) (names : List (List ℕ)) (ended : List Choice) (c : Choice) (xs : List Target) → on lines names ended c xs ≡ at (lines + length xs) names ended (grown c xs)
unfolding on
on-grown lines names ended c [] =
    let e : lines ≡ lines + 0 = omega arith in
    λ i. at (e i) names ended (record { place = c.place; source = c.source; number = c.number; action = c.action; entries = sym (append-nil c.entries) i })
on-grown lines names ended c (x ∷ xs) =
    let e : lines + 1 + length xs ≡ lines + length (x ∷ xs) = omega arith in
    on-grown (lines + 1) names ended (longer c x) xs
    ∙ (λ i. at (e i) names ended (record { place = c.place; source = c.source; number = c.number; action = c.action; entries = append_assoc c.entries (entry_for x ∷ []) (map entry_for xs) i }))

-- its last target is that of its last line
pub last-longer : (es : List Entry) (e : Entry) → last_target (es ++ (e ∷ [])) ≡ e.state
unfolding last_target
last-longer [] e = refl
last-longer (a ∷ []) e = refl
last-longer (a ∷ b ∷ es) e = last-longer (b ∷ es) e

abbrev weighed : List Entry → ℕ
weighed = sum_over (λ (e : Entry). e.weight)

sum_both : (xs ys : List Entry) → weighed (xs ++ ys) ≡ weighed xs + weighed ys
unfolding sum_over
sum_both [] ys = omega arith
sum_both (x ∷ xs) ys = omega (arith, sum_both xs ys)

-- the weights of targets are their parts
pub sum-targets : (xs : List Target) → weighed (map entry_for xs) ≡ sum_over (λ (x : Target). parts_of x.probability) xs
sum-targets = sum-mapped entry_for _ _ (λ x. refl)

-- its total grows by their parts
pub total-grown : (c : Choice) (xs : List Target) → total_of (grown c xs) ≡ total_of c + sum_over (λ (x : Target). parts_of x.probability) xs
unfolding total_of
total-grown c xs = omega (arith, sum_both c.entries (map entry_for xs), sum-targets xs)

-- a choice that is written with these lines
abbrev pub written : (source number : ℕ) (name : List ℕ) → List Target → WrittenChoice
written s n name xs = record { source = s; number = n; name = name; targets = xs }

-- and what is read of its first line
abbrev pub begun_by : (place : ℕ) (names : List (List ℕ)) (source number : ℕ) (name : List ℕ) → Target → Choice
begun_by place names s n name x = record { place = place; source = s; number = n; action = action_of names name; entries = entry_for x ∷ [] }

-- a line is of the choice's source, number and name alone
pub lines_same : (s n : ℕ) (name : List ℕ) (ys zs xs : List Target) → lines_bytes (written s n name ys) xs ≡ lines_bytes (written s n name zs) xs
unfolding lines_bytes line_bytes
lines_same s n name ys zs [] = refl
lines_same s n name ys zs (x ∷ xs) = ap (λ (l : List ℕ). line_bytes (written s n name ys) x ++ l) (lines_same s n name ys zs xs)

-- its bytes, in front of others
pub line-then : (c : WrittenChoice) (x : Target) (before after : List ℕ) → line_bytes c x ++ before ++ after ≡ line_of c.source c.number c.name x ++ (0x0A ∷ (before ++ after))
line-then c x before after =
    ap (λ (l : List ℕ). l ++ before ++ after) (line-ended c x) ∙ append_assoc (line_of c.source c.number c.name x ++ (0x0A ∷ [])) before after ∙ append_assoc (line_of c.source c.number c.name x) (0x0A ∷ []) (before ++ after)

-- read or written, it is one transition, where the name keeps its number
pub one-transition : (place : ℕ) (names later : List (List ℕ)) (s n : ℕ) (name : List ℕ) (x : Target) (xs : List Target) → action_of later name ≡ action_of names name → transition_of (grown (begun_by place names s n name x) xs) ≡ transition_of (read_choice later (written s n name (x ∷ xs)))
unfolding transition_of transition_over read_choice
one-transition place names later s n name x xs e =
    λ i. transition_of (record { place = place; source = s; number = n; action = sym e i; entries = entry_for x ∷ map entry_for xs })
