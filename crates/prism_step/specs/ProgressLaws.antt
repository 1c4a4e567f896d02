-- Laws of what the code has read: what the definition makes of a line, by the code's numbers.
use Rattle.std.specs.Prelude.{ℕ, ◌+◌, ◌≤◌, ◌<◌, ◌≡◌, List, [], ◌∷◌, Option, None, Some, IfSome, length}
use Rattle.std.proofs.Math.Path.{refl, sym, ap, ap₂}
use Rattle.std.proofs.Common.{◌∙◌, length-append, arith, rules}
use Rattle.std.proofs.Math.Bool.{Bool, true, false}
use Rattle.std.proofs.Math.Decide.{ℕ_discrete, dec_lt}
use Rattle.bisimulation.specs.definitions.Choice.{if_less, if_same, if_true}
use Rattle.bisimulation.proofs.argument.ChoiceLaws.{less, not_less, same, is_true, is_false, kept_less, kept_same, kept_true, of_same, false-not, either_true, either_same, either_less, not_same}
use Rattle.rules.specs.definitions.Limits.{limits}
use Rattle.prism.specs.definitions.Lines as prism
use Rattle.prism.specs.definitions.Lines.{good, broken, read_line}
use Rattle.prism.specs.definitions.Reading as reading
use Rattle.prism.specs.definitions.Reading.{Choice, Pending, none, begun, goes_on, total_of, unless_total, refused_at, ReadText, choices_of, choices_with, last_target, action_of, with_name, Step, fault, read, step_read, step_by, step_on, step_begins, with_extended, with_begun}
use Rattle.prism_line.specs.declared.Line.{Line}
use Rattle.prism_line.specs.declared.Whole.{Whole}
use Rattle.prism_names.specs.declared.Name.{Name}
use Rattle.prism_choice.specs.declared.Target.{Target}
use Rattle.prism_line.specs.LineRead.{LineRead, WholeRead, line_in, begins_so}
use Rattle.prism_names.specs.Names.{names_in}
use Rattle.prism_names.specs.NamesLaws.{names-length, within-names, past-names}
use Rattle.prism_step.specs.declared.Begun.{Begun}
use Rattle.prism_step.specs.declared.Progress.{Progress}
use Rattle.prism_step.specs.PartLaws.{choice-holds}
use Rattle.prism_step.specs.Progressing.{choice_in, pending_in, progress_in, Holds, count_with, count_by, goes_on_by, short_by, follows_by, fits_by, extends_by, begins_by}

-- the choices, with the one that has begun, and how many they are
abbrev pub all_in : (targets : List Target) (ended : List Choice) → Progress → List Choice
all_in targets ended p = choices_with ended (pending_in targets p.begun)

count-all : (targets : List Target) (ended : List Choice) (o : Option Begun) → length (choices_with ended (pending_in targets o)) ≡ count_with (length ended) o
unfolding choices_with
count-all targets ended None = refl
count-all targets ended (Some c) = length-append ended (choice_in targets c ∷ [])

pub all-count : (targets : List Target) (ended : List Choice) (p : Progress) → p.choices ≡ length ended → length (all_in targets ended p) ≡ count_by p
all-count targets ended p e = count-all targets ended p.begun ∙ ap (λ (n : ℕ). count_with n p.begun) (sym e)

true-not : true ≡ false → ⊥
true-not e = false-not (sym e)

-- what one that begins a choice tells
follows-tells : (n : ℕ) (o : Option Begun) (line : Whole) → IfSome o (λ c. c.number ≤ n) → follows_by o line ≡ true → line.choice ≤ count_with n o
follows-tells n None line few e = omega (arith, (kept_same true false line.choice 0 true-not (sym e)).0)
follows-tells n (Some c) line few e = go (ℕ_discrete line.source c.source)
  where
    go : Dec (line.source ≡ c.source) → line.choice ≤ n + 1
    go (yes z) =
        omega (arith, few, (kept_same true false line.choice (c.number + 1) true-not (sym e ∙ sym (same _ z refl))).0)
    go (no m) =
        let a = kept_less _ false c.source line.source true-not (sym e ∙ sym (not_same _ m refl)) in
        omega (arith, (kept_same true false line.choice 0 true-not a.1).0)

pub record Begins (p : Progress) (line : Whole) (action : ℕ) : Type 0 where
  pub choice : line.choice ≤ count_by p
  pub count : count_by p < limits.transitions
  pub named : action < limits.actions

pub begins-tells : (p : Progress) (line : Whole) (action : ℕ) → IfSome p.begun (λ c. c.number ≤ p.choices) → begins_by p line action ≡ true → Begins p line action
unfolding begins_by
begins-tells p line action few e =
    let a = kept_true _ false (follows_by p.begun line) true-not (sym e) in
    let b = kept_less _ false (count_by p) limits.transitions true-not a.1 in
    let c = kept_less true false action limits.actions true-not b.1 in
    record { choice = follows-tells p.choices p.begun line few a.0; count = b.0; named = c.0 }

-- what one that goes on, and is taken, tells
pub extends-tells : (c : Begun) (line : Whole) (action : ℕ) → extends_by c line action ≡ true → c.last < line.target
unfolding extends_by
extends-tells c line action e = (kept_less _ false c.last line.target true-not (sym e)).0

-- the choice that has begun ends there without adding up, or the line is looked at
abbrev pub unless_short : Option ℕ → ReadText → ReadText
unless_short None next = next
unless_short (Some place) next = refused_at 32 place

-- what the tests of the definition come to
module _ {text : List ℕ} {names : List Name} {targets : List Target} {records : List ℕ} {states : ℕ} {ended : List Choice} {p : Progress} (h : Holds text names targets records states ended p) (most : states ≤ limits.states) where
  few : (c : Begun) → p.begun ≡ Some c → c.number < 65535
  few c e = omega (arith, (choice-holds h most e).number, h.choices, ap (count_with p.choices) e)

  module _ {s : List ℕ} {line : Line} (r : LineRead s line) where
    -- a line goes on, or does not
    goes-on-is : (c : Begun) → p.begun ≡ Some c → goes_on (begun (choice_in targets c)) s ≡ begins_so line c.source c.number
    goes-on-is c e =
        r.prefix (choice_in targets c) (omega (arith, (choice-holds h most e).source)) (omega (arith, few c e))

    goes-by : (o : Option Begun) → p.begun ≡ o → goes_on (pending_in targets o) s ≡ goes_on_by o line
    unfolding goes_on
    goes-by None e = refl
    goes-by (Some c) e = goes-on-is c e

    pub goes-is : goes_on (pending_in targets p.begun) s ≡ goes_on_by p.begun line
    goes-is = goes-by p.begun refl

    short-by : (next : ReadText) (o : Option Begun) → p.begun ≡ o → unless_total (pending_in targets o) s next ≡ unless_short (short_by o line) next
    unfolding unless_total total_of if_true
    short-by next None e = refl
    short-by next (Some c) e =
        ap₂ (λ (t : Bool) (k : ℕ). if_true t next (if_same k 10000 next (refused_at 32 c.place))) (goes-on-is c e) total
        ∙ flip (begins_so line c.source c.number)
      where
        total : total_of (choice_in targets c) ≡ c.total
        total = sym (choice-holds h most e).total

        flip : (t : Bool) → if_true t next (if_same c.total 10000 next (refused_at 32 c.place)) ≡ unless_short (if_true t None (if_same c.total 10000 None (Some c.place))) next
        flip true = refl
        flip false = sym (of_same (λ (o : Option ℕ). unless_short o next) c.total 10000 None (Some c.place))

    pub short-says : (next : ReadText) → unless_total (pending_in targets p.begun) s next ≡ unless_short (short_by p.begun line) next
    short-says next = short-by next p.begun refl

    -- its place stands in the text
    short-within : (o : Option Begun) → p.begun ≡ o → IfSome (short_by o line) (λ k. k ≤ length text)
    short-within None e = search rules
    short-within (Some c) e =
        either_true (λ (z : Option ℕ). IfSome z (λ k. k ≤ length text)) (begins_so line c.source c.number) (search rules)
        (either_same (λ (z : Option ℕ). IfSome z (λ k. k ≤ length text)) c.total 10000 (search rules) (choice-holds h most e).place)

    pub short-inside : IfSome (short_by p.begun line) (λ k. k ≤ length text)
    short-inside = short-within p.begun refl

  -- a line that is at fault
  module _ (head : prism.Head) (place : ℕ) where
    abbrev so-far : reading.Progress
    so-far = progress_in text names targets ended p

    -- it breaks the form
    pub fault-form : (s : List ℕ) → read_line s ≡ broken → reading.step limits head so-far place s ≡ fault
    unfolding reading.step step_read
    fault-form s e = ap (step_read limits head so-far place s) e

    module _ (s : List ℕ) (y : prism.Line) (form : read_line s ≡ good y) where
      -- it does not fit
      unfit-by : reading.fits limits head so-far y ≡ false → (q : Pending) → step_by limits head so-far place s q y ≡ fault
      unfolding step_by step_on step_begins reading.extends reading.begins
      unfit-by unfit none = sym (is_false _ (sym (is_false _ unfit refl)) refl)
      unfit-by unfit (begun c) =
          either_true (λ (z : Step). z ≡ fault) (goes_on (begun c) s) (sym (is_false _ (sym (is_false _ unfit refl)) refl)) (sym (is_false _ (sym (is_false _ unfit refl)) refl))

      pub fault-unfit : reading.fits limits head so-far y ≡ false → reading.step limits head so-far place s ≡ fault
      unfolding reading.step step_read
      fault-unfit unfit =
          ap (step_read limits head so-far place s) form ∙ unfit-by unfit (pending_in targets p.begun)

      -- it begins a choice that does not follow: its number is too high
      module _ (high : 65536 ≤ y.choice) where
        follows-no : (o : Option Begun) → p.begun ≡ o → reading.follows (pending_in targets o) y ≡ false
        unfolding reading.follows
        follows-no None e = sym (not_same true (λ z. omega arith) refl)
        follows-no (Some c) e =
            either_same (λ (z : Bool). z ≡ false) y.source c.source
            (sym (not_same true (λ z. omega (arith, few c e)) refl))
            (either_less (λ (z : Bool). z ≡ false) c.source y.source (sym (not_same true (λ z. omega arith) refl)) refl)

        begins-no : reading.begins limits head so-far y ≡ false
        unfolding reading.begins
        begins-no =
            either_true (λ (z : Bool). z ≡ false) (reading.fits limits head so-far y) (sym (is_false _ (follows-no p.begun refl) refl)) refl

        high-by : (o : Option Begun) → goes_on (pending_in targets o) s ≡ false → step_by limits head so-far place s (pending_in targets o) y ≡ fault
        unfolding step_by step_begins
        high-by None off = sym (is_false _ begins-no refl)
        high-by (Some c) off = sym (is_false _ off (sym (sym (is_false _ begins-no refl))))

        pub fault-high : goes_on (pending_in targets p.begun) s ≡ false → reading.step limits head so-far place s ≡ fault
        unfolding reading.step step_read
        fault-high off = ap (step_read limits head so-far place s) form ∙ high-by p.begun off

  -- what the definition makes of it, where it has the form
  module _ {s : List ℕ} {l : Line} (r : LineRead s l) {line : Whole} (w : WholeRead s line) (head : prism.Head) (same-states : head.states ≡ states) where
    abbrev before : reading.Progress
    before = progress_in text names targets ended p

    abbrev x : prism.Line
    x = line_in s line

    pub fits-says : reading.fits limits head before x ≡ fits_by states p.lines line
    unfolding reading.fits fits_by
    fits-says =
        ap (λ (n : ℕ). if_less line.source n (if_less line.target n (if_less p.lines limits.entries true false) false) false) same-states

    follows-says : (o : Option Begun) → reading.follows (pending_in targets o) x ≡ follows_by o line
    unfolding reading.follows
    follows-says None = refl
    follows-says (Some c) = refl

    abbrev on_with : Begun → Step
    on_with c = read (with_extended before (choice_in targets c) x)

    abbrev begun_with : ℕ → Step
    begun_with place = read (with_begun before place x)

    -- it goes on with the choice that has begun
    pub step-on : (place : ℕ) (c : Begun) → p.begun ≡ Some c → begins_so l c.source c.number ≡ true → reading.step limits head before place s ≡ if_true (reading.extends limits head before (choice_in targets c) x) (on_with c) fault
    unfolding reading.step step_read step_by step_on
    step-on place c e on =
        ap (step_read limits head before place s) w.good
        ∙ ap (λ (o : Option Begun). step_by limits head before place s (pending_in targets o) x) e
        ∙ sym (is_true _ (goes-on-is r c e ∙ on) refl)

    -- or begins one
    off-by : (place : ℕ) (o : Option Begun) → p.begun ≡ o → goes_on_by o l ≡ false → step_by limits head before place s (pending_in targets o) x ≡ if_true (reading.begins limits head before x) (begun_with place) fault
    unfolding step_by step_begins
    off-by place None e off = refl
    off-by place (Some c) e off = sym (is_false _ (goes-on-is r c e ∙ off) refl)

    pub step-off : (place : ℕ) → goes_on_by p.begun l ≡ false → reading.step limits head before place s ≡ if_true (reading.begins limits head before x) (begun_with place) fault
    unfolding reading.step step_read
    step-off place off = ap (step_read limits head before place s) w.good ∙ off-by place p.begun refl off

    -- with the number of its name
    module _ (fit : fits_by states p.lines line ≡ true) {action : ℕ} (named : action ≡ action_of (names_in text names p.names) x.name) where
      pub extends-says : (c : Begun) → p.begun ≡ Some c → reading.extends limits head before (choice_in targets c) x ≡ extends_by c line action
      unfolding reading.extends extends_by
      extends-says c e =
          sym (is_true _ (fits-says ∙ fit) refl)
          ∙ ap₂ (λ (a k : ℕ). if_less a line.target (if_same k c.action true false) false) (sym (choice-holds h most e).last) (sym named)

      name-fits : if_less (length (with_name (names_in text names p.names) x.name)) limits.actions true false ≡ if_less action limits.actions true false
      name-fits = go (dec_lt action limits.actions)
        where
          known : length (names_in text names p.names) < limits.actions
          known = omega (arith, names-length text names p.names, h.known.most)

          go : Dec (action < limits.actions) → if_less (length (with_name (names_in text names p.names) x.name)) limits.actions true false ≡ if_less action limits.actions true false
          go (yes l) =
              sym (less false (within-names (names_in text names p.names) x.name known (omega (arith, named))) refl) ∙ less false l refl
          go (no n) =
              sym (not_less true (past-names (names_in text names p.names) x.name known (omega (arith, named))) refl)
              ∙ not_less true (omega arith) refl

      pub begins-says : reading.begins limits head before x ≡ begins_by p line action
      unfolding reading.begins begins_by choices_of
      begins-says =
          sym (is_true _ (fits-says ∙ fit) refl)
          ∙ ap₂ (λ (f : Bool) (k : ℕ). if_true f (if_less k limits.transitions (if_less (length (with_name (names_in text names p.names) x.name)) limits.actions true false) false) false) (follows-says p.begun) (all-count targets ended p h.count)
          ∙ ap (λ (z : Bool). if_true (follows_by p.begun line) (if_less (count_by p) limits.transitions z false) false) name-fits
