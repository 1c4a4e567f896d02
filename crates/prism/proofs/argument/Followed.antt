-- Choices that follow what has been read, and what has been read with one of them.
use Rattle.std.specs.Prelude.{ℕ, suc, ◌+◌, ◌≤◌, ◌<◌, ◌≡◌, length}
use Rattle.std.proofs.Common.{sym, ◌∙◌, arith}
use Rattle.std.proofs.Math.Path.{ap}
use mathlib.Core.List.{List, [], ◌∷◌, ◌++◌, map, map-append, append_assoc}
use Rattle.std.proofs.Math.ListN.{length-append}
use Rattle.rules.specs.definitions.Limits.{Limits}
use Rattle.rules.specs.definitions.Model.{Transition}
use Rattle.rules.specs.definitions.SoundModel.{Each, Along, sum_over}
use Rattle.rules.proofs.argument.SoundModelLaws.{From, from-along}
use Rattle.prism.specs.definitions.Lines.{Head}
use Rattle.prism.specs.definitions.Reading.{action_of, with_name, Choice, Pending, none, Progress, choices_with, choices_of}
use Rattle.prism.specs.definitions.HeldModel.{transition_of}
use Rattle.prism.specs.definitions.AllowedText.{Target, WrittenChoice, ProbabilityRules, ChoiceRules, NextChoice, FirstChoice, names_from, read_choice}
use Rattle.prism.proofs.argument.LineLaws.{line_value}
use Rattle.prism.proofs.argument.NameLaws.{names-grown, seen-from}
use Rattle.prism.proofs.argument.ChoiceLines.{Follows, Begins, at, grown, written, begun_by, one-transition}

-- the first of the choices follows the pending one
unfoldable pub FollowsFirst : Pending → List WrittenChoice → Type 0
FollowsFirst p [] = Unit
FollowsFirst p (d ∷ ds) = Follows p d.source d.number

-- where none is pending, it is the first of all
pub none_first : (cs : List WrittenChoice) → FollowsFirst none cs → FirstChoice cs
unfolding FollowsFirst Follows FirstChoice
none_first [] f = tt
none_first (c ∷ cs) f = f

-- and the other way round
pub first-none : (cs : List WrittenChoice) → FirstChoice cs → FollowsFirst none cs
unfolding FollowsFirst Follows FirstChoice
first-none [] f = tt
first-none (c ∷ cs) f = f

-- lines of a choice with n states: their targets ascend from a lowest one on
pub record TargetRules (n lowest : ℕ) (xs : List Target) : Type 0 where
  pub states : Each (λ (x : Target). x.state < n) xs
  pub ascend : From (λ (x : Target). x.state) (λ (x : Target). suc x.state) lowest xs
  pub probabilities : Each (λ (x : Target). ProbabilityRules x.probability) xs

-- those of a choice behind its first line
pub later-targets : (n s number : ℕ) (name : List ℕ) (x : Target) (xs : List Target) → ChoiceRules n (written s number name (x ∷ xs)) → TargetRules n (suc x.state) xs
unfolding Each From
later-targets n s number name x xs rules =
    record {
      states = rules.states.1;
      ascend = (from-along (λ (y : Target). y.state) (λ (y : Target). suc y.state) (x ∷ xs) rules.ascend).1;
      probabilities = rules.probabilities.1;
    }

-- choices that follow what has been read, up to the text's end
pub record Follow (L : Limits) (h : Head) (r : Progress) (cs : List WrittenChoice) : Type 0 where
  pub first : FollowsFirst r.pending cs
  pub each : Each (ChoiceRules h.states) cs
  pub order : Along NextChoice cs
  pub lines : r.lines + sum_over (λ (c : WrittenChoice). length c.targets) cs ≡ h.transitions
  pub count : length (choices_of r) + length cs ≡ h.choices
  pub names : length (names_from r.names cs) < L.actions

-- a choice with its first line and more
module _ (r : Progress) (place s n : ℕ) (name : List ℕ) (x : Target) (xs : List Target) where
  abbrev pub reached : Progress
  reached = at (r.lines + 1 + length xs) (with_name r.names name) (choices_of r) (grown (begun_by place r.names s n name x) xs)

  -- held with the choices behind it
  pub held_next : (cs : List WrittenChoice) (names : List (List ℕ)) (choices : List Choice) → names_from (with_name r.names name) cs ≡ names → map transition_of choices ≡ map transition_of (choices_of reached) ++ map transition_of (map (read_choice names) cs) → map transition_of choices ≡ map transition_of (choices_of r) ++ map transition_of (map (read_choice names) (written s n name (x ∷ xs) ∷ cs))
  unfolding choices_of choices_with
  held_next cs names choices e held =
      let others = map transition_of (map (read_choice names) cs) in
      let c = grown (begun_by place r.names s n name x) xs in
      let action : action_of names name ≡ action_of r.names name =
      ap (λ (l : List (List ℕ)). action_of l name) (sym e) ∙ (seen-from r.names name cs).action in
      held
      ∙ ap (λ (l : List Transition). l ++ others) (map-append transition_of (choices_of r) (c ∷ []))
      ∙ append_assoc (map transition_of (choices_of r)) (transition_of c ∷ []) others
      ∙ ap (λ (t : Transition). map transition_of (choices_of r) ++ (t ∷ others)) (one-transition place r.names names s n name x xs action)

  module _ (L : Limits) (h : Head) (cs : List WrittenChoice) where
    abbrev both : List WrittenChoice
    both = written s n name (x ∷ xs) ∷ cs

    -- it begins where it follows
    pub follow-begins : h.transitions ≤ L.entries → h.choices ≤ L.transitions → Follow L h r both → Begins L h r (line_value s n name x)
    unfolding line_value Each FollowsFirst sum_over names_from
    follow-begins most_lines most_choices f =
        let rules = f.each.0 in
        record {
          inside = record { source = rules.source; target = rules.states.0; few = omega (arith, f.lines) };
          next = f.first;
          choices = omega (arith, f.count);
          names = omega (arith, (names-grown (with_name r.names name) cs).most, f.names);
        }

    -- the others follow it
    pub follow-next : Follow L h r both → Follow L h reached cs
    unfolding Each sum_over names_from choices_of choices_with
    follow-next f =
        let order = next cs f.order in
        record {
          first = order.0;
          each = f.each.1;
          order = order.1;
          lines = omega (arith, f.lines);
          count = omega (arith, f.count, length-append (choices_of r) (grown (begun_by place r.names s n name x) xs ∷ []));
          names = f.names;
        }
      where
        next : (ds : List WrittenChoice) → Along NextChoice (written s n name (x ∷ xs) ∷ ds) → FollowsFirst reached.pending ds × Along NextChoice ds
        next [] order = unfold FollowsFirst Along in (tt, tt)
        next (d ∷ ds) order = unfold FollowsFirst Follows NextChoice Along in (order.0, order.1)

    -- and the other way round
    pub next-follow : ChoiceRules h.states (written s n name (x ∷ xs)) → Begins L h r (line_value s n name x) → Follow L h reached cs → Follow L h r both
    unfolding line_value Each FollowsFirst sum_over names_from choices_of choices_with
    next-follow rules k f =
        record {
          first = k.next;
          each = (rules, f.each);
          order = next cs f.first f.order;
          lines = omega (arith, f.lines);
          count = omega (arith, f.count, length-append (choices_of r) (grown (begun_by place r.names s n name x) xs ∷ []));
          names = f.names;
        }
      where
        next : (ds : List WrittenChoice) → FollowsFirst reached.pending ds → Along NextChoice ds → Along NextChoice (written s n name (x ∷ xs) ∷ ds)
        next [] first order = unfold Along in tt
        next (d ∷ ds) first order = unfold FollowsFirst Follows NextChoice Along in (first, order)
