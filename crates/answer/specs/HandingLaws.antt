-- The stretch of an answer as a part of its file.
use Prim.Native.Nat.{ℕ, ◌+◌, ◌-◌, ◌≤◌}
use Rattle.std.specs.Prelude.{◌≡◌, refl, take, drop, get_or, ℤ}
use Rattle.std.proofs.Common.{sym, ◌∙◌, subst, arith}
use Rattle.std.proofs.Math.Path.{ap}
use mathlib.Core.List.{List, [], ◌∷◌, map}
use Rattle.std.proofs.Math.ListN.{length}
use Rattle.std.proofs.Math.Nat.{add-sub_cancel_left}
use Rattle.rules.specs.definitions.Answers as rules
use Rattle.rules.specs.definitions.Answers.{Lent, Outcome, left_in, lengths_of, first_written, file_of, stretch_in, stretch_of}
use Rattle.answer.specs.declared.Answer.{Answer}
use Rattle.answer.specs.Answered.{answered, StretchInside, OutcomeIs, CallAnswered}
use Rattle.answer.specs.Handing.{part_from, slice_of, HandsBack, Handed, CallHandedBack}

-- the file of an answer, of two, and of their slices
module _ {X : Type 0} (a b d : X) (k : ℕ) where
  second-of : k ≡ 2 → get_or (a ∷ b ∷ []) (k - 1) d ≡ b
  second-of e = ap (λ (i : ℕ). get_or (a ∷ b ∷ []) (i - 1) d) e

  pub first_of : k ≤ 1 → get_or (a ∷ b ∷ []) (k - 1) d ≡ a
  first_of h = let z : k - 1 ≡ 0 = omega arith in ap (λ (i : ℕ). get_or (a ∷ b ∷ []) i d) z

abbrev end_of : Answer → ℕ
end_of r = r.stretch_start + r.stretch_length

-- the stretch lies in its file
module _ {a b : List ℕ} {r : Answer} (i : StretchInside (a ∷ b ∷ []) r) where
  pub in-second : r.file ≡ 2 → end_of r ≤ length b
  unfolding file_of
  in-second e = omega (arith, i.fits, ap length (second-of a b [] r.file e))

  pub names-first : (r.file ≡ 2 → ⊥) → r.file ≤ 1
  names-first n = omega (arith, n, i.named)

  pub in-first : r.file ≤ 1 → end_of r ≤ length a
  unfolding file_of
  in-first h = omega (arith, i.fits, ap length (first_of a b [] r.file h))

part_of : (r : Answer) (s : List ℕ) → take (end_of r - r.stretch_start) (drop r.stretch_start s) ≡ stretch_in s (answered r)
unfolding stretch_in
part_of r s = ap (λ (k : ℕ). take k (drop r.stretch_start s)) (add-sub_cancel_left r.stretch_start r.stretch_length)

-- a part of the file that it names is what is handed back
from-file : (files : List (List ℕ)) (slices : List (ℕ × ℕ)) (r : Answer) (s : List ℕ) (slice : ℕ × ℕ) → file_of files r.file ≡ s → slice_of slices r.file ≡ slice → HandsBack files slices r r.number r.file r.place r.state r.remainder (take (end_of r - r.stretch_start) (drop r.stretch_start s)) (part_from slice r.stretch_start)
unfolding stretch_of
from-file files slices r s slice e f =
    record {
      numbered = refl;
      filed = refl;
      placed = refl;
      stated = refl;
      off = refl;
      handed = part_of r s ∙ ap (λ (l : List ℕ). stretch_in l (answered r)) (sym e);
      lies = ap (λ (p : ℕ × ℕ). part_from p r.stretch_start) (sym f);
    }

module _ (a b : List ℕ) (x y : ℕ × ℕ) (r : Answer) where
  abbrev HandsPart : List ℕ → ℕ × ℕ → Type 0
  HandsPart s slice = HandsBack (a ∷ b ∷ []) (x ∷ y ∷ []) r r.number r.file r.place r.state r.remainder (take (end_of r - r.stretch_start) (drop r.stretch_start s)) (part_from slice r.stretch_start)

  pub from_second : r.file ≡ 2 → HandsPart b y
  unfolding file_of
  from_second e = from-file _ _ r b y (second-of a b [] r.file e) (second-of x y (0, 0) r.file e)

  pub from_first : r.file ≤ 1 → HandsPart a x
  unfolding file_of
  from_first h = from-file _ _ r a x (first_of a b [] r.file h) (first_of x y (0, 0) r.file h)

-- a remainder as the machine's number
pub off-as : {files : List (List ℕ)} {slices : List (ℕ × ℕ)} {r : Answer} {number file place state : ℕ} {remainder other : ℤ} {part : List ℕ} {lying : ℕ × ℕ} → HandsBack files slices r number file place state remainder part lying → other ≡ remainder → HandsBack files slices r number file place state other part lying
off-as h e = record { numbered = h.numbered; filed = h.filed; placed = h.placed; stated = h.stated; off = e ∙ h.off; handed = h.handed; lies = h.lies }

-- the lengths of an outcome with no buffer, and with one
lengths_none : (o : Outcome) → [] ≡ left_in o → [] ≡ lengths_of o
lengths_none o e = go o.lent e
  where
    go : (l : List Lent) → [] ≡ map (λ (x : Lent). x.bytes) l → [] ≡ map (λ (x : Lent). x.written) l
    go [] q = refl
    go (x ∷ xs) q = absurd (omega (arith, ap length q))

lengths-one : (o : Outcome) {bytes : List ℕ} → bytes ∷ [] ≡ left_in o → first_written o ∷ [] ≡ lengths_of o
lengths-one o {bytes} e = go o.lent e
  where
    go : (l : List Lent) → bytes ∷ [] ≡ map (λ (x : Lent). x.bytes) l → get_or (map (λ (x : Lent). x.written) l) 0 0 ∷ [] ≡ map (λ (x : Lent). x.written) l
    go [] q = absurd (omega (arith, ap length q))
    go (x ∷ []) q = refl
    go (x ∷ y ∷ xs) q = absurd (omega (arith, ap length q))

-- an outcome whose answer was handed back from these files, among which are the call's own
module _ {o : Outcome} {files : List (List ℕ)} {slices : List (ℕ × ℕ)} {r : Answer} {number file place state : ℕ} {remainder : ℤ} {part : List ℕ} {lying : ℕ × ℕ} (all : List (List ℕ)) (places : List (ℕ × ℕ)) (h : HandsBack all places r number file place state remainder part lying) (e : file_of all r.file ≡ file_of files r.file) (f : slice_of places r.file ≡ slice_of slices r.file) where
  handed : {after : List (List ℕ)} {written : List ℕ} → OutcomeIs o files after r → written ≡ lengths_of o → Handed o files slices after number file place state remainder written part lying
  unfolding stretch_of
  handed is w =
      let a = is.gives.answer in
      record {
        numbered = h.numbered ∙ ap (λ (x : rules.Answer). x.number) a;
        filed = h.filed ∙ ap (λ (x : rules.Answer). x.file) a;
        placed = h.placed ∙ ap (λ (x : rules.Answer). x.place) a;
        stated = h.stated ∙ ap (λ (x : rules.Answer). x.state) a;
        off = h.off ∙ ap (λ (x : rules.Answer). x.remainder) a;
        wrote = w;
        handed = h.handed ∙ ap (λ (l : List ℕ). stretch_in l (answered r)) e ∙ ap (stretch_of files) a;
        lies = h.lies ∙ ap (λ (p : ℕ × ℕ). part_from p r.stretch_start) f ∙ ap (λ (x : rules.Answer). part_from (slice_of slices x.file) x.stretch_start) a;
        buffers = is.gives.buffers;
      }

  -- with its demands; no buffer is lent, or one, whose length stands beside the slice
  pub handed-none : {kept : ℕ → Type 0} → CallAnswered o files [] kept r → CallHandedBack o files slices [] kept number file place state remainder [] part lying
  handed-none {kept} is = record { outcome = handed is.outcome (lengths_none o is.outcome.gives.buffers); demands = subst kept (sym h.numbered) is.demands }

  pub handed-one : {bytes : List ℕ} {written : ℕ} {kept : ℕ → Type 0} → CallAnswered o files (bytes ∷ []) kept r → written ≡ r.written → CallHandedBack o files slices (bytes ∷ []) kept number file place state remainder (written ∷ []) part lying
  handed-one {kept = kept} is w =
      record {
        outcome = handed is.outcome (ap (λ (k : ℕ). k ∷ []) (w ∙ is.outcome.gives.wrote) ∙ lengths-one o is.outcome.gives.buffers);
        demands = subst kept (sym h.numbered) is.demands;
      }
