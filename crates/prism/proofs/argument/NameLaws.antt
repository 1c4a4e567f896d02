-- Laws of the names by first sight: a name's action stays as it is when more names come, and is no other name's.
use Prim.Native.Nat.{ℕ, suc, ◌+◌, ◌≤◌, ◌<◌, max}
use Rattle.std.specs.Prelude.{◌≡◌, Bool, true, false}
use Rattle.std.proofs.Math.Path.{refl, ap}
use Rattle.std.proofs.Common.{sym, ◌∙◌, ap₂}
use mathlib.Core.List.{List, [], ◌∷◌, ◌++◌}
use Rattle.std.proofs.Math.ListN.{length, length-append}
use Rattle.std.proofs.Math.Decide.{dec_lt}
use native.Mathlib.Omega.{arith}
use Rattle.bisimulation.specs.definitions.Choice.{if_less, if_true}
use Rattle.bisimulation.proofs.argument.ChoiceLaws.{less, not_less, same, is_true, kept_same, either_less, either_true, false-not}
use Rattle.rules.specs.definitions.SoundModel.{Each}
use Rattle.prism.specs.definitions.Reading.{same_bytes, place_among, action_of, with_name}
use Rattle.prism.specs.definitions.AllowedText.{WrittenChoice, names_from}

-- bytes are the same as themselves
same_bytes_lem : (bs : List ℕ) → same_bytes bs bs ≡ true
unfolding same_bytes
same_bytes_lem [] = refl
same_bytes_lem (b ∷ bs) = sym (same false refl (sym (same_bytes_lem bs)))

-- the same bytes are equal
pub bytes_same : (bs cs : List ℕ) → same_bytes bs cs ≡ true → bs ≡ cs
unfolding same_bytes
bytes_same [] [] e = refl
bytes_same [] (c ∷ cs) e = absurd (false-not e)
bytes_same (b ∷ bs) [] e = absurd (false-not e)
bytes_same (b ∷ bs) (c ∷ cs) e =
    let k = kept_same (same_bytes bs cs) false b c (λ f. false-not (sym f)) (sym e) in ap₂ ◌∷◌ k.0 (bytes_same bs cs (sym k.1))

-- a name has a place from 1 to one more than the names
place-bounds : (names : List (List ℕ)) (name : List ℕ) → (1 ≤ place_among names name) × (place_among names name ≤ length names + 1)
unfolding place_among
place-bounds [] name = omega arith
place-bounds (x ∷ xs) name =
    let later = place-bounds xs name in
    either_true (λ (k : ℕ). (1 ≤ k) × (k ≤ suc (length xs) + 1)) (same_bytes x name) (omega arith) (omega arith)

-- names of one place are one name
place-one : (names : List (List ℕ)) (a b : List ℕ) → place_among names a ≤ length names → place_among names a ≡ place_among names b → a ≡ b
unfolding place_among if_true
place-one [] a b h e = absurd (omega arith)
place-one (x ∷ xs) a b h e = go (same_bytes x a) (same_bytes x b) refl refl h e (place-one xs a b)
  where
    go : (s t : Bool) → same_bytes x a ≡ s → same_bytes x b ≡ t → if_true s 1 (1 + place_among xs a) ≤ suc (length xs) → if_true s 1 (1 + place_among xs a) ≡ if_true t 1 (1 + place_among xs b) → (place_among xs a ≤ length xs → place_among xs a ≡ place_among xs b → a ≡ b) → a ≡ b
    go true true p q h e later = sym (bytes_same x a p) ∙ bytes_same x b q
    go true false p q h e later = absurd (omega (arith, place-bounds xs b))
    go false true p q h e later = absurd (omega (arith, place-bounds xs a))
    go false false p q h e later = later (omega arith) (omega arith)

-- one of the names stays at its place when more come
pub place-stays : (names more : List (List ℕ)) (name : List ℕ) → place_among names name ≤ length names → place_among (names ++ more) name ≡ place_among names name
unfolding place_among if_true
place-stays [] more name h = absurd (omega arith)
place-stays (x ∷ xs) more name h = go (same_bytes x name) h (place-stays xs more name)
  where
    go : (t : Bool) → if_true t 1 (1 + place_among xs name) ≤ suc (length xs) → (place_among xs name ≤ length xs → place_among (xs ++ more) name ≡ place_among xs name) → if_true t 1 (1 + place_among (xs ++ more) name) ≡ if_true t 1 (1 + place_among xs name)
    go true h later = refl
    go false h later = ap (λ (k : ℕ). 1 + k) (later (omega arith))

-- a new name has its place among those that come
pub place-behind : (names more : List (List ℕ)) (name : List ℕ) → length names < place_among names name → place_among (names ++ more) name ≡ length names + place_among more name
unfolding place_among if_true
place-behind [] more name h = omega arith
place-behind (x ∷ xs) more name h = go (same_bytes x name) h (place-behind xs more name)
  where
    go : (t : Bool) → suc (length xs) < if_true t 1 (1 + place_among xs name) → (length xs < place_among xs name → place_among (xs ++ more) name ≡ length xs + place_among more name) → if_true t 1 (1 + place_among (xs ++ more) name) ≡ suc (length xs) + place_among more name
    go true h later = absurd (omega arith)
    go false h later = omega (arith, later (omega arith))

-- and last, where it comes next
pub place-next : (names : List (List ℕ)) (name : List ℕ) → length names < place_among names name → place_among (names ++ (name ∷ [])) name ≡ length names + 1
unfolding place_among
place-next names name h =
    place-behind names (name ∷ []) name h ∙ ap (λ (k : ℕ). length names + k) (sym (is_true 2 (same_bytes_lem name) refl))

-- the action of a name that is not empty is its place
pub action-place : (names : List (List ℕ)) (name : List ℕ) → 1 ≤ length name → action_of names name ≡ place_among names name
unfolding action_of
action-place names [] h = absurd (omega arith)
action-place names (b ∷ bs) h = refl

-- an action is at most one more than the names
pub action-most : (names : List (List ℕ)) (name : List ℕ) → action_of names name ≤ length names + 1
unfolding action_of
action-most names [] = omega arith
action-most names (b ∷ bs) = (place-bounds names (b ∷ bs)).1

-- a name that is among the names, or none at all
unfoldable pub Known : List (List ℕ) → List ℕ → Type 0
Known names name = action_of names name ≤ length names

-- a known name, whose action is k
pub record Seen (names : List (List ℕ)) (name : List ℕ) (k : ℕ) : Type 0 where
  pub known : Known names name
  pub action : action_of names name ≡ k

-- no other name has the action of a known one
pub seen_one : (names : List (List ℕ)) (a b : List ℕ) (k : ℕ) → Seen names a k → action_of names b ≡ k → b ≡ a
unfolding Known action_of
seen_one names [] [] k s e = refl
seen_one names [] (c ∷ cs) k s e = absurd (omega (arith, s.action, place-bounds names (c ∷ cs)))
seen_one names (d ∷ ds) [] k s e = absurd (omega (arith, s.action, place-bounds names (d ∷ ds)))
seen_one names (d ∷ ds) (c ∷ cs) k s e = sym (place-one names (d ∷ ds) (c ∷ cs) s.known (s.action ∙ sym e))

-- the names later are those before, and perhaps more: what was known keeps its action
pub record Grown (names later : List (List ℕ)) : Type 0 where
  pub keeps : (name : List ℕ) → Known names name → action_of later name ≡ action_of names name
  pub most : length names ≤ length later

grown-self : (names : List (List ℕ)) → Grown names names
grown-self names = record { keeps = λ name k. refl; most = omega arith }

grown-again : {names later last : List (List ℕ)} → Grown names later → Grown later last → Grown names last
unfolding Known
grown-again g h =
    record {
      keeps = λ name k. h.keeps name (omega (arith, g.keeps name k, g.most)) ∙ g.keeps name k;
      most = omega (arith, g.most, h.most);
    }

grown-with : (names : List (List ℕ)) (name : List ℕ) → Grown names (names ++ (name ∷ []))
unfolding Known action_of
grown-with names name = record { keeps = keep; most = omega (arith, length-append names (name ∷ [])) }
  where
    keep : (old : List ℕ) → action_of names old ≤ length names → action_of (names ++ (name ∷ [])) old ≡ action_of names old
    keep [] k = refl
    keep (b ∷ bs) k = place-stays names (name ∷ []) (b ∷ bs) k

with-grown : (names : List (List ℕ)) (name : List ℕ) → Grown names (with_name names name)
unfolding with_name
with-grown names name = either_less (Grown names) _ _ (grown-with names name) (grown-self names)

-- the names of further choices are more
pub names-grown : (names : List (List ℕ)) (cs : List WrittenChoice) → Grown names (names_from names cs)
unfolding names_from
names-grown names [] = grown-self names
names-grown names (c ∷ cs) = grown-again (with-grown names c.name) (names-grown (with_name names c.name) cs)

module _ (names : List (List ℕ)) (name : List ℕ) where
  -- with one more name they are as many as before, or as its action says
  pub with-count : length (with_name names name) ≡ max (length names) (action_of names name)
  unfolding with_name
  with-count = go (dec_lt (length names) (action_of names name))
    where
      go : Dec (length names < action_of names name) → length (if_less (length names) (action_of names name) (names ++ (name ∷ [])) names) ≡ max (length names) (action_of names name)
      go (yes h) =
          ap length (sym (less names h refl)) ∙ length-append names (name ∷ []) ∙ omega (arith, action-most names name)
      go (no n) = ap length (sym (not_less (names ++ (name ∷ [])) (omega arith) refl)) ∙ omega arith

  -- it is known then, with the action that it has before
  pub with-seen : Seen (with_name names name) name (action_of names name)
  unfolding Known
  with-seen = record { known = omega (arith, kept, with-count); action = kept }
    where
      next : (x : List ℕ) → length names < action_of names x → action_of (names ++ (x ∷ [])) x ≡ action_of names x
      next [] h = unfold action_of in refl
      next (b ∷ bs) h = unfold action_of in place-next names (b ∷ bs) h ∙ omega (arith, place-bounds names (b ∷ bs))

      go : Dec (length names < action_of names name) → action_of (if_less (length names) (action_of names name) (names ++ (name ∷ [])) names) name ≡ action_of names name
      go (yes h) = ap (λ (xs : List (List ℕ)). action_of xs name) (sym (less names h refl)) ∙ next name h
      go (no n) = ap (λ (xs : List (List ℕ)). action_of xs name) (sym (not_less (names ++ (name ∷ [])) (omega arith) refl))

      kept : action_of (with_name names name) name ≡ action_of names name
      kept = unfold with_name in go (dec_lt (length names) (action_of names name))

  -- and so it stays, with the names of further choices
  pub seen-from : (cs : List WrittenChoice) → Seen (names_from (with_name names name) cs) name (action_of names name)
  unfolding Known
  seen-from cs =
      let more = names-grown (with_name names name) cs in
      let kept = more.keeps name with-seen.known ∙ with-seen.action in
      record { known = omega (arith, more.most, with-count); action = kept }

-- all names of a text's choices are known
pub names-known : (names : List (List ℕ)) (cs : List WrittenChoice) → Each (λ (c : WrittenChoice). Known (names_from names cs) c.name) cs
unfolding names_from Each
names-known names [] = tt
names-known names (c ∷ cs) = ((seen-from names c.name cs).known, names-known (with_name names c.name) cs)
