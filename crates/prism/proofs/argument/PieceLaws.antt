-- Laws of the pieces between parting bytes: bytes and their pieces say the same.
use Rattle.std.specs.Prelude.{ℕ, ◌+◌, ◌-◌, ◌≤◌, ◌<◌, ◌≡◌, true, length, get_or, take, drop}
use Rattle.std.proofs.Math.Path.{refl, sym, ap, ap₂, subst}
use Rattle.std.proofs.Common.{◌∙◌, take-append-drop, length-drop, drop-drop, drop-cons, get_or-drop, get_or-take, length-take-le, take_all, add-one, arith}
use mathlib.Core.List.{List, [], ◌∷◌, ◌++◌}
use Rattle.std.proofs.Math.Decide.{ℕ_discrete}
use Rattle.bisimulation.proofs.argument.ChoiceLaws.{same, not_same, both_true, true-both}
use Rattle.numbers.specs.definitions.Decimal.{is_digit, all_digits, decimal}
use Rattle.numbers.proofs.argument.DecimalLaws.{digit-bounds, bounds-digit, decimal-digits}
use Rattle.rules.specs.definitions.SoundModel.{Each}
use Rattle.rules.proofs.argument.SoundModelLaws.{at_each, each_map}
use Rattle.prism.specs.definitions.Lines.{start_with, pieces}

-- bytes without the parting byte
abbrev pub Without : (parting : ℕ) → List ℕ → Type 0
Without p = Each (λ (b : ℕ). b ≡ p → ⊥)

-- a digit, by its bounds
abbrev pub Digit : ℕ → Type 0
Digit b = (0x30 ≤ b) × (b ≤ 0x39)

-- digits, as a test and as bounds
pub all_digits_lem : (bs : List ℕ) → all_digits bs ≡ true → Each Digit bs
unfolding Each all_digits
all_digits_lem [] e = tt
all_digits_lem (b ∷ bs) e = let d = both_true (is_digit b) (all_digits bs) e in (digit-bounds b d.0, all_digits_lem bs d.1)

pub digits-all : (bs : List ℕ) → Each Digit bs → all_digits bs ≡ true
unfolding Each all_digits
digits-all [] h = refl
digits-all (b ∷ bs) h = true-both (bounds-digit b h.0.0 h.0.1) (digits-all bs h.1)

-- they have no byte below them
pub digits-without : (p : ℕ) → p < 0x30 → (bs : List ℕ) → all_digits bs ≡ true → Without p bs
digits-without p low bs e = each_map Digit _ (λ b h z. omega arith) bs (all_digits_lem bs e)

-- so a number in decimal has none
pub decimal-without : (p : ℕ) → p < 0x30 → (n : ℕ) → Without p (decimal n)
decimal-without p low n = digits-without p low (decimal n) (decimal-digits n)

module _ (p : ℕ) where
  -- the first byte is one of the first piece, or parts it
  piece-goes : (b : ℕ) (bs : List ℕ) → (b ≡ p → ⊥) → pieces p (b ∷ bs) ≡ start_with b (pieces p bs)
  unfolding pieces
  piece-goes b bs n = sym (not_same ([] ∷ pieces p bs) n refl)

  piece-starts : (b : ℕ) (bs : List ℕ) → (b ≡ p → ⊥) → {x : List ℕ} {xs : List (List ℕ)} → pieces p bs ≡ x ∷ xs → pieces p (b ∷ bs) ≡ (b ∷ x) ∷ xs
  unfolding start_with
  piece-starts b bs n e = piece-goes b bs n ∙ ap (start_with b) e

  piece-parts : (b : ℕ) (bs : List ℕ) → b ≡ p → pieces p (b ∷ bs) ≡ [] ∷ pieces p bs
  unfolding pieces
  piece-parts b bs e = sym (same (start_with b (pieces p bs)) e refl)

  -- bytes up to a parting byte are the first piece, and the others those of the bytes behind it
  pub pieces-parted : (a rest : List ℕ) → Without p a → pieces p (a ++ (p ∷ rest)) ≡ a ∷ pieces p rest
  unfolding Each
  pieces-parted [] rest free = piece-parts p rest refl
  pieces-parted (b ∷ a) rest free = piece-starts b (a ++ (p ∷ rest)) free.0 (pieces-parted a rest free.1)

  -- bytes without parting bytes are one piece
  pub pieces-one : (a : List ℕ) → Without p a → pieces p a ≡ a ∷ []
  unfolding Each
  pieces-one [] free = unfold pieces in refl
  pieces-one (b ∷ a) free = piece-starts b a free.0 (pieces-one a free.1)

  -- what the pieces of bytes say of the bytes: they are one piece, or a piece, a parting byte and the bytes of the other pieces
  data Parted : List ℕ → List (List ℕ) → Type 0 where
    alone : {s x : List ℕ} → Without p s → x ≡ s → Parted s (x ∷ [])
    parted : {s x : List ℕ} {xs : List (List ℕ)} (rest : List ℕ) → Without p x → s ≡ x ++ (p ∷ rest) → pieces p rest ≡ xs → Parted s (x ∷ xs)

  pieces-parted-so : (s : List ℕ) → Parted s (pieces p s)
  unfolding Each
  pieces-parted-so [] = unfold pieces in alone tt refl
  pieces-parted-so (b ∷ s) = go (ℕ_discrete b p) (pieces p s) refl (pieces-parted-so s)
    where
      starts : (b ≡ p → ⊥) → (ps : List (List ℕ)) → pieces p s ≡ ps → Parted s ps → Parted (b ∷ s) (pieces p (b ∷ s))
      starts n ps e (alone {x = x} free same) =
          subst (Parted (b ∷ s)) (sym (piece-starts b s n e)) (alone (n, free) (ap (λ (l : List ℕ). b ∷ l) same))
      starts n ps e (parted {x = x} rest free same later) =
          subst (Parted (b ∷ s)) (sym (piece-starts b s n e)) (parted rest (n, free) (ap (λ (l : List ℕ). b ∷ l) same) later)

      go : Dec (b ≡ p) → (ps : List (List ℕ)) → pieces p s ≡ ps → Parted s ps → Parted (b ∷ s) (pieces p (b ∷ s))
      go (yes e) ps q later =
          subst (Parted (b ∷ s)) (sym (piece-parts b s e)) (parted s tt (ap (λ (c : ℕ). c ∷ s) e) refl)
      go (no n) ps q later = starts n ps q later

  -- the pieces, with parting bytes between them
  unfoldable pub joined : List (List ℕ) → List ℕ
  joined [] = []
  joined (x ∷ []) = x
  joined (x ∷ y ∷ ys) = x ++ (p ∷ joined (y ∷ ys))

  joined-starts : (b : ℕ) (ps : List (List ℕ)) → joined (start_with b ps) ≡ b ∷ joined ps
  unfolding joined start_with
  joined-starts b [] = refl
  joined-starts b (x ∷ []) = refl
  joined-starts b (x ∷ y ∷ ys) = refl

  -- there is a piece
  pub pieces-some : (s : List ℕ) → pieces p s ≡ [] → ⊥
  pieces-some s = go (pieces p s) (pieces-parted-so s)
    where
      go : (ps : List (List ℕ)) → Parted s ps → ps ≡ [] → ⊥
      go ps (alone free same) e = let z : ◌≡◌ {A = ℕ} 0 1 = cc in omega arith
      go ps (parted rest free same later) e = let z : ◌≡◌ {A = ℕ} 0 1 = cc in omega arith

  joined-parts : (s : List ℕ) → joined ([] ∷ pieces p s) ≡ p ∷ joined (pieces p s)
  joined-parts s = go (pieces p s) refl
    where
      go : (ps : List (List ℕ)) → pieces p s ≡ ps → joined ([] ∷ ps) ≡ p ∷ joined ps
      go [] e = absurd (pieces-some s e)
      go (x ∷ xs) e = unfold joined in refl

  -- joined, the pieces are the bytes
  pub joined-pieces : (s : List ℕ) → joined (pieces p s) ≡ s
  joined-pieces [] = unfold pieces joined in refl
  joined-pieces (b ∷ s) = go (ℕ_discrete b p) (joined-pieces s)
    where
      go : Dec (b ≡ p) → joined (pieces p s) ≡ s → joined (pieces p (b ∷ s)) ≡ b ∷ s
      go (yes e) later = ap joined (piece-parts b s e) ∙ joined-parts s ∙ ap₂ (λ (c : ℕ) (l : List ℕ). c ∷ l) (sym e) later
      go (no n) later = ap joined (piece-goes b s n) ∙ joined-starts b (pieces p s) ∙ ap (λ (l : List ℕ). b ∷ l) later

  -- no piece has the parting byte in it
  pub pieces-without : (s : List ℕ) → Each (Without p) (pieces p s)
  unfolding Each
  pieces-without [] = unfold pieces in (tt, tt)
  pieces-without (b ∷ s) = go (ℕ_discrete b p) (pieces p s) refl (pieces-without s)
    where
      go : Dec (b ≡ p) → (ps : List (List ℕ)) → pieces p s ≡ ps → Each (Without p) ps → Each (Without p) (pieces p (b ∷ s))
      go (yes e) ps q later = subst (Each (Without p)) (sym (piece-parts b s e ∙ ap (λ (l : List (List ℕ)). [] ∷ l) q)) (tt, later)
      go (no n) [] q later = absurd (pieces-some s q)
      go (no n) (x ∷ xs) q later = subst (Each (Without p)) (sym (piece-starts b s n q)) ((n, later.0), later.1)

  -- bytes of one piece have no parting byte
  pub piece-last : (s x : List ℕ) → pieces p s ≡ x ∷ [] → Without p s × (x ≡ s)
  piece-last s x e = go (pieces p s) (pieces-parted-so s) e
    where
      go : (ps : List (List ℕ)) → Parted s ps → ps ≡ x ∷ [] → Without p s × (x ≡ s)
      go ps (alone free same) q = (free, cc)
      go ps (parted rest free same later) q = absurd (pieces-some rest (later ∙ cc))

  -- bytes of more pieces: the first, a parting byte, and the bytes of the others
  pub piece-next : (s x y : List ℕ) (ys : List (List ℕ)) → pieces p s ≡ x ∷ y ∷ ys → Without p x × ((rest : List ℕ) × (s ≡ x ++ (p ∷ rest)) × (pieces p rest ≡ y ∷ ys))
  piece-next s x y ys e = go (pieces p s) (pieces-parted-so s) e
    where
      go : (ps : List (List ℕ)) → Parted s ps → ps ≡ x ∷ y ∷ ys → Without p x × ((rest : List ℕ) × (s ≡ x ++ (p ∷ rest)) × (pieces p rest ≡ y ∷ ys))
      go ps (alone free same) q = let z : ◌≡◌ {A = ℕ} 0 1 = cc in absurd (omega arith)
      go ps (parted {x = w} rest free same later) q =
          let first : w ≡ x = cc in
          (subst (Without p) first free, (rest, same ∙ ap (λ (l : List ℕ). l ++ (p ∷ rest)) first, later ∙ cc))

  -- by position: no parting byte from a place on, up to another place
  module _ (s : List ℕ) (from end : ℕ) (order : from ≤ end) (none : (i : ℕ) → from ≤ i → i < end → get_or s i 0 ≡ p → ⊥) where
    pub stretch-length : end ≤ length s → length (take (end - from) (drop from s)) ≡ end - from
    stretch-length inside = length-take-le (end - from) (drop from s) (omega (arith, length-drop from s))

    -- no parting byte is in it
    pub stretch-without : end ≤ length s → Without p (take (end - from) (drop from s))
    stretch-without inside =
        at_each (λ (b : ℕ). b ≡ p → ⊥) (take (end - from) (drop from s)) 0
        (λ i less e.
        let size = stretch-length inside in
        none (from + i) (omega arith) (omega arith)
        (sym (get_or-take (end - from) (drop from s) i 0 (omega arith) ∙ get_or-drop from s i 0) ∙ e))

    -- and one there
    pub stretch-parted : end < length s → get_or s end 0 ≡ p → drop from s ≡ take (end - from) (drop from s) ++ (p ∷ drop (end + 1) s)
    stretch-parted inside there =
        let place : from + (end - from) ≡ end = omega arith in
        sym (take-append-drop (end - from) (drop from s))
        ∙ ap (λ (l : List ℕ). take (end - from) (drop from s) ++ l)
        (drop-drop (end - from) from s ∙ ap (λ (k : ℕ). drop k s) place ∙ drop-cons s end 0 inside
        ∙ ap₂ (λ (b k : ℕ). b ∷ drop k s) there (sym (add-one end)))

    -- the first piece from there on, and the others
    pub pieces-at : end < length s → get_or s end 0 ≡ p → pieces p (drop from s) ≡ take (end - from) (drop from s) ∷ pieces p (drop (end + 1) s)
    pieces-at inside there =
        ap (pieces p) (stretch-parted inside there) ∙ pieces-parted (take (end - from) (drop from s)) (drop (end + 1) s) (stretch-without (omega arith))

    -- or the end of the bytes
    pub last-without : end ≡ length s → Without p (drop from s)
    last-without e =
        subst (Without p) (take_all (end - from) (drop from s) (omega (arith, length-drop from s))) (stretch-without (omega arith))

    -- then it is one piece
    pub pieces_end : end ≡ length s → pieces p (drop from s) ≡ drop from s ∷ []
    pieces_end e = pieces-one (drop from s) (last-without e)
