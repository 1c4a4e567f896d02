-- Laws of the table of a set's members, as it is filled.
use Prim.Native.Nat.{ℕ, zero, suc, ◌+◌, ◌≤◌, ◌<◌}
use Rattle.std.specs.Prelude.{◌≡◌, Bool, get_or, set, replicate}
use Rattle.std.proofs.Math.Path.{refl, sym, ap}
use Rattle.std.proofs.Common.{◌∙◌, drop-cons, get_or-set_same, get_or-set_other}
use Rattle.std.proofs.Math.Bool.{true, false}
use mathlib.Core.List.{List, ◌∷◌}
use Rattle.std.proofs.Math.ListN.{length, drop, length-set}
use Rattle.std.proofs.lemmas.List.{length-replicate}
use Rattle.std.proofs.Math.Seq.{drop-length}
use Rattle.std.proofs.Math.Decide.{ℕ_discrete}
use native.Mathlib.Omega.{arith}
use Rattle.bisimulation.specs.definitions.Choice.{if_true}
use Rattle.bisimulation.proofs.argument.ChoiceLaws.{same, not_same, is_true, is_false, either_true}
use Rattle.bisimulation.specs.definitions.Hidden.{hidden_action}
use Rattle.composition.specs.definitions.Hiding.{member_of}
use Rattle.hide.specs.Members.{chosen_in, HoldsMembers}

-- an action is a member where the table says so already, or the bytes from i on do
pub record FillsMembers (chosen : List ℕ) (i : ℕ) (members : List Bool) : Type 0 where
  pub among : i ≤ length chosen
  pub size : length members ≡ 256
  pub held : (a : ℕ) → a < 256 → if_true (chosen_in members a) true (member_of (drop i chosen) a) ≡ member_of chosen a

-- before the first byte no action is one
none-chosen : (n a : ℕ) → chosen_in (replicate n false) a ≡ false
none-chosen zero a = refl
none-chosen (suc n) zero = refl
none-chosen (suc n) (suc a) = none-chosen n a

pub members-start : (chosen : List ℕ) → FillsMembers chosen 0 (replicate 256 false)
members-start chosen =
    record {
      among = omega arith;
      size = length-replicate 256 false;
      held = λ a l. sym (is_false true (none-chosen 256 a) refl);
    }

module _ {chosen : List ℕ} {i : ℕ} {members : List Bool} (h : FillsMembers chosen i members) where
  -- the next byte
  pub members-turn : i < length chosen → {b : ℕ} → b < 256 → b ≡ get_or chosen i 0 → FillsMembers chosen (i + 1) (set members b true)
  unfolding member_of
  members-turn less {b} small e =
      record {
        among = omega arith;
        size = length-set members b true ∙ h.size;
        held = λ a l. go a (ℕ_discrete a b) ∙ h.held a l;
      }
    where
      later : (a : ℕ) → member_of (drop i chosen) a ≡ member_of (b ∷ drop (i + 1) chosen) a
      later a =
          let n : suc i ≡ i + 1 = omega arith in
          ap (λ (l : List ℕ). member_of l a) (drop-cons chosen i 0 less ∙ (λ j. sym e j ∷ drop (n j) chosen))

      go : (a : ℕ) → Dec (a ≡ b) → if_true (chosen_in (set members b true) a) true (member_of (drop (i + 1) chosen) a) ≡ if_true (chosen_in members a) true (member_of (drop i chosen) a)
      go a (yes q) =
          sym (is_true _ (ap (chosen_in (set members b true)) q ∙ get_or-set_same members b true false (omega (arith, h.size, small))) refl)
          ∙ either_true (λ (x : Bool). true ≡ x) (chosen_in members a) refl (sym (later a ∙ sym (same _ (sym q) refl)))
      go a (no n) =
          ap (λ (x : Bool). if_true x true (member_of (drop (i + 1) chosen) a)) (get_or-set_other members b a true false n)
          ∙ ap (if_true (chosen_in members a) true) (sym (later a ∙ sym (not_same true (λ q. n (sym q)) refl)))

  -- after the last the table has them all
  pub members-end : length chosen ≤ i → HoldsMembers chosen members
  unfolding member_of
  members-end past =
      let all : i ≡ length chosen = omega (arith, h.among, past) in
      record {
        size = h.size;
        held = λ a l.
            sym (itself (chosen_in members a))
            ∙ ap (λ (rest : List ℕ). if_true (chosen_in members a) true (member_of rest a)) (sym (ap (λ (k : ℕ). drop k chosen) all ∙ drop-length chosen))
            ∙ h.held a l;
      }
    where
      itself : (b : Bool) → if_true b true false ≡ b
      itself true = sym (is_true false refl refl)
      itself false = sym (is_false true refl refl)

-- the table hides an action as the set does
pub action-hidden : {chosen : List ℕ} {members : List Bool} → HoldsMembers chosen members → (a : ℕ) → a < 256 → hidden_action (chosen_in members) a ≡ hidden_action (member_of chosen) a
unfolding hidden_action
action-hidden h a l = ap (λ (b : Bool). if_true b 0 a) (h.held a l)
