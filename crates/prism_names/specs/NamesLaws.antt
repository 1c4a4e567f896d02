-- Laws of names kept as places in the text, and of their numbers.
use Prim.Native.Nat.{ℕ, zero, suc, ◌+◌, ◌-◌, ◌≤◌, ◌<◌}
use Rattle.std.specs.Prelude.{◌≡◌, true, false, length, take, drop, set}
use Rattle.std.proofs.Math.Path.{refl, sym, ap}
use Rattle.std.proofs.Common.{◌∙◌, subst, length-set, length-drop, length-take-le, add-one, arith}
use mathlib.Core.List.{List, [], ◌∷◌, ◌++◌}
use Rattle.std.proofs.Math.Decide.{ℕ_discrete}
use Rattle.bisimulation.specs.definitions.Choice.{if_true}
use Rattle.bisimulation.proofs.argument.ChoiceLaws.{less, not_less, is_true, is_false}
use Rattle.rules.specs.definitions.Limits.{limits}
use Rattle.prism.specs.definitions.Reading.{same_bytes, place_among, action_of, with_name}
use Rattle.prism.proofs.argument.Table.{each_more, Listed, listed-length, listed-next, listed-more}
use Rattle.prism.proofs.argument.NameLaws.{place-stays, place-behind, action-place, action-most, with-count}
use Rattle.prism_names.specs.Names.{between, placed_at, names_in, KnownNames, NameKept}
use Rattle.prism_names.specs.declared.Name.{Name}

module _ (names : List (List ℕ)) (name : List ℕ) where
  -- the names with one more are within a limit where its action is
  pub within-names : {most : ℕ} → length names < most → action_of names name < most → length (with_name names name) < most
  within-names few low = omega (arith, with-count names name)

  -- and past the limit where its action is
  pub past-names : {most : ℕ} → length names < most → most ≤ action_of names name → most ≤ length (with_name names name)
  past-names few high = omega (arith, with-count names name)

-- the bytes between two places
between-length : (text : List ℕ) (from to : ℕ) → to ≤ length text → length (between text from to) ≡ to - from
between-length text from to h = length-take-le (to - from) (drop from text) (omega (arith, length-drop from text))

-- an empty name has the action 0
pub action-none : (names : List (List ℕ)) (text : List ℕ) (from to : ℕ) → from ≡ to → 0 ≡ action_of names (between text from to)
unfolding action_of
action-none names text from to e =
    let none : 0 ≡ to - from = omega arith in ap (λ (k : ℕ). action_of names (take k (drop from text))) none

-- the names of a table
abbrev pub bytes_of : (text : List ℕ) → Name → List ℕ
bytes_of text n = between text n.from n.to

names-listed : (text : List ℕ) → Listed (record { from = 0; to = 0 }) (bytes_of text) (names_in text)
unfolding names_in
names-listed text = record { none = λ table. refl; next = λ table i. refl }

module _ (text : List ℕ) (table : List Name) where
  -- they are as many as are counted
  pub names-length : (count : ℕ) → length (names_in text table count) ≡ count
  names-length = listed-length (names-listed text) table

  -- one more
  pub names-next : (i : ℕ) → names_in text table (i + 1) ≡ names_in text table i ++ (bytes_of text (placed_at table i) ∷ [])
  names-next = listed-next (names-listed text) table

  -- an action is at most one more than the names
  pub action-few : (count : ℕ) (name : List ℕ) → action_of (names_in text table count) name ≤ count + 1
  action-few count name = omega (arith, action-most (names_in text table count) name, names-length count)

  -- a name is new to the first names of the table
  pub record NewTo (name : List ℕ) (i : ℕ) : Type 0 where
    pub place : place_among (names_in text table i) name ≡ i + 1

  -- each name is new where there is none before it
  pub new_none : (name : List ℕ) → NewTo name 0
  unfolding names_in place_among
  new_none name = record { place = refl }

  module _ {name : List ℕ} {i : ℕ} (h : NewTo name i) where
    after : place_among (names_in text table (i + 1)) name ≡ i + if_true (same_bytes (bytes_of text (placed_at table i)) name) 1 2
    unfolding place_among
    after =
        ap (λ (xs : List (List ℕ)). place_among xs name) (names-next i)
        ∙ place-behind (names_in text table i) _ name (omega (arith, h.place, names-length i))
        ∙ ap (λ (k : ℕ). k + if_true (same_bytes (bytes_of text (placed_at table i)) name) 1 2) (names-length i)

    -- it is new to one more where that is another
    pub new-more : same_bytes (bytes_of text (placed_at table i)) name ≡ false → NewTo name (i + 1)
    new-more e = record { place = after ∙ omega (arith, is_false {X = ℕ} {z = 2} {y = 2} 1 e refl) }

    found : same_bytes (bytes_of text (placed_at table i)) name ≡ true → place_among (names_in text table (i + 1)) name ≡ i + 1
    found e = after ∙ omega (arith, is_true {X = ℕ} {z = 1} {x = 1} 2 e refl)

    -- it has the place of the name that it is the same as
    pub found_at : same_bytes (bytes_of text (placed_at table i)) name ≡ true → (count : ℕ) → i < count → place_among (names_in text table count) name ≡ i + 1
    unfolding names_in
    found_at e zero less = absurd (omega arith)
    found_at e (suc n) less = go (ℕ_discrete i n) (found_at e n)
      where
        go : Dec (i ≡ n) → (i < n → place_among (names_in text table n) name ≡ i + 1) → place_among (names_in text table (suc n)) name ≡ i + 1
        go (yes p) later = ap (λ (k : ℕ). place_among (names_in text table k) name) (ap suc (sym p) ∙ sym (add-one i)) ∙ found e
        go (no p) later =
            let q = later (omega arith) in
            place-stays (names_in text table n) _ name (omega (arith, q, names-length n)) ∙ q

  -- what is told of a name at two places
  module _ (count from to : ℕ) (some : from < to) (inside : to ≤ length text) where
    placed : action_of (names_in text table count) (between text from to) ≡ place_among (names_in text table count) (between text from to)
    placed = action-place _ (between text from to) (omega (arith, between-length text from to inside))

    -- a known name has its place for an action
    pub action-known : {i : ℕ} → NewTo (between text from to) i → i < count → true ≡ same_bytes (bytes_of text (placed_at table i)) (between text from to) → i + 1 ≡ action_of (names_in text table count) (between text from to)
    action-known h less e = sym (placed ∙ found_at h (sym e) count less)

    -- a new one is numbered next
    pub action-new : {i : ℕ} → NewTo (between text from to) i → i ≡ count → count + 1 ≡ action_of (names_in text table count) (between text from to)
    action-new h e =
        sym (placed ∙ ap (λ (k : ℕ). place_among (names_in text table k) (between text from to)) (sym e) ∙ h.place ∙ ap (λ (k : ℕ). k + 1) e)

-- no names yet
pub known-none : {text : List ℕ} {table : List Name} → length table ≡ limits.actions → KnownNames text table 0
known-none e =
    record { size = e; most = omega arith; order = λ i low. absurd (omega arith); inside = λ i low. absurd (omega arith) }

-- one more name in the table
known_more : (text : List ℕ) (table : List Name) (count from to : ℕ) → KnownNames text table count → count + 1 < limits.actions → from ≤ to → to ≤ length text → KnownNames text (set table count (record { from = from; to = to })) (count + 1)
known_more text table count from to h few less inside =
    let room : count < length table = omega (arith, h.size) in
    record {
      size = length-set table count _ ∙ h.size;
      most = few;
      order = each_more _ table count _ room (λ (n : Name). n.from ≤ n.to) h.order less;
      inside = each_more _ table count _ room (λ (n : Name). n.to ≤ length text) h.inside inside;
    }

-- a known name, or none: the table stays
pub name-known : (table : List Name) {count action : ℕ} (from to : ℕ) → action ≤ count → NameKept table table count action from to count
unfolding with_name
name-known table {count} from to h =
    record {
      known = λ text k less inside. k;
      names = λ text k e. not_less _ (omega (arith, e, names-length text table count)) refl;
    }

-- a new one
pub name_new : (table : List Name) (count action from to : ℕ) → count < action → action ≤ count + 1 → action < limits.actions → NameKept table (set table count (record { from = from; to = to })) count action from to action
unfolding with_name
name_new table count action from to new next few =
    subst (λ (n : ℕ). NameKept table (set table count (record { from = from; to = to })) count action from to n) one
    (record {
      known = λ text k less inside. known_more text table count from to k (omega arith) less inside;
      names = λ text k e. less _ (omega (arith, e, names-length text table count)) (listed-more (names-listed text) table count _ (omega (arith, k.size)));
    })
  where
    one : count + 1 ≡ action
    one = omega arith
