-- A blocks record without fault is the encoding of blocks that keep document 01's rules, and the other way round.
use Prim.Native.Nat.{ℕ, zero, suc, ◌+◌, ◌≤◌, ◌<◌}
use Rattle.std.specs.Prelude.{◌≡◌, ◌↔◌, Bool, true, false, not, cond, List, [], ◌∷◌, eqb, length, drop, get_or}
use Rattle.std.proofs.Math.Path.{refl, sym, ap, subst}
use Rattle.std.proofs.Common.{◌∙◌, length-take, length-drop, ext_get_or, eqb-true, eq-eqb, ne_eqb}
use Rattle.std.proofs.Math.Seq.{get_or-take, get_or-drop}
use Rattle.std.proofs.lemmas.Bool.{eqb-false}
use native.Mathlib.Omega.{arith}
use Rattle.std.proofs.Math.Decide.{ℕ_discrete, dec_lt}
use Rattle.bisimulation.specs.definitions.Choice.{if_same, all_below}
use Rattle.bisimulation.proofs.argument.ChoiceLaws.{not_less, same, not_same, is_true, all-below, below_all, false-not}
use Rattle.bisimulation.specs.definitions.Automaton.{Automaton}
use Rattle.bisimulation.specs.definitions.Pairs.{Pairs}
use Rattle.rules.specs.definitions.Bytes.{byte_at, two_at, two_bytes}
use Rattle.rules.proofs.argument.Standing.{Stands, IsBytes, stands-first, mark-stands, after_two, rest-of-two, two_is}
use Rattle.rules.specs.definitions.Certificate.{blocks_at, numbered_fault, same_block, agree, pairs_fault, blocks_fault}
use Rattle.rules.specs.definitions.Faults.{Passes, certificate_record}
use Rattle.rules.specs.definitions.Encoding.{blocks_bytes}
use Rattle.rules.specs.definitions.Accepted.{GoodBlocks}
use Rattle.rules.proofs.argument.FaultLaws.{none_first, first-none, certificate-refuses, opened, opens, pass_on, pass-if_less, pass-unless_true}

-- b appears among the first k bytes from a place on
pub record Appears (C : List ℕ) (start k b : ℕ) : Type 0 where
  pub u : ℕ
  pub before : u < k
  pub here : byte_at C (start + u) ≡ b

-- how many block numbers are seen after one more
seen_after : ℕ → ℕ → ℕ
seen_after x seen = if_same x seen (seen + 1) seen

module _ (C : List ℕ) (start : ℕ) where
  later : (k b : ℕ) → Appears C start k b → Appears C start (k + 1) b
  later k b a = record { u = a.u; before = omega (arith, a.before); here = a.here }

  all_seen : (k seen : ℕ) → ((b : ℕ) → b < seen → Appears C start k b) → (b : ℕ) → b < seen_after (byte_at C (start + k)) seen → Appears C start (k + 1) b
  unfolding seen_after
  all_seen k seen before b h = go (ℕ_discrete (byte_at C (start + k)) seen)
    where
      go : Dec (byte_at C (start + k) ≡ seen) → Appears C start (k + 1) b
      go (no q) = later k b (before b (subst (λ (n : ℕ). b < n) (sym (not_same (seen + 1) q refl)) h))
      go (yes q) = new (ℕ_discrete b seen)
        where
          new : Dec (b ≡ seen) → Appears C start (k + 1) b
          new (yes e) = record { u = k; before = omega arith; here = q ∙ sym e }
          new (no e) =
              let l : b < seen + 1 = subst (λ (n : ℕ). b < n) (sym (same seen q refl)) h in later k b (before b (omega arith))

  -- without fault, every number below a block's has appeared before it
  pub numbered-appear : (left k seen : ℕ) → ((b : ℕ) → b < seen → Appears C start k b) → Passes (numbered_fault C left (start + k) seen) → (v : ℕ) → k ≤ v → v < k + left → (b : ℕ) → b < byte_at C (start + v) → Appears C start v b
  unfolding numbered_fault seen_after
  numbered-appear zero k seen before e v low high b h = absurd (omega arith)
  numbered-appear (suc left) k seen before e v low high b h =
      let p = pass-if_less _ _ _ _ e (omega arith) in
      go (λ l. numbered-appear left (k + 1) (seen_after (byte_at C (start + k)) seen) (all_seen k seen before) (next p.1) v l (omega arith) b h)
      p.0 (ℕ_discrete v k)
    where
      next : Passes (numbered_fault C left (start + k + 1) (if_same (byte_at C (start + k)) seen (seen + 1) seen)) → Passes (numbered_fault C left (start + (k + 1)) (seen_after (byte_at C (start + k)) seen))
      next q = let e : start + k + 1 ≡ start + (k + 1) = omega arith in pass_on (ap (λ (j : ℕ). numbered_fault C left j (if_same (byte_at C (start + k)) seen (seen + 1) seen)) e) q

      go : (k + 1 ≤ v → Appears C start v b) → byte_at C (start + k) ≤ seen → Dec (v ≡ k) → Appears C start v b
      go rest small (no q) = rest (omega arith)
      go rest small (yes q) =
          let l : byte_at C (start + v) ≡ byte_at C (start + k) = ap (λ (j : ℕ). byte_at C (start + j)) q in
          subst (λ (j : ℕ). Appears C start j b) (sym q) (before b (omega arith))

  seen_more : (k seen : ℕ) → ((u : ℕ) → u < k → byte_at C (start + u) < seen) → byte_at C (start + k) ≤ seen → (u : ℕ) → u < k + 1 → byte_at C (start + u) < seen_after (byte_at C (start + k)) seen
  unfolding seen_after
  seen_more k seen below small u h = go (ℕ_discrete (byte_at C (start + k)) seen) (ℕ_discrete u k)
    where
      go : Dec (byte_at C (start + k) ≡ seen) → Dec (u ≡ k) → byte_at C (start + u) < if_same (byte_at C (start + k)) seen (seen + 1) seen
      go (yes q) (yes e) =
          let l : byte_at C (start + u) ≡ byte_at C (start + k) = ap (λ (j : ℕ). byte_at C (start + j)) e in
          subst (λ (n : ℕ). byte_at C (start + u) < n) (same seen q refl) (omega arith)
      go (yes q) (no e) = subst (λ (n : ℕ). byte_at C (start + u) < n) (same seen q refl) (omega (arith, below u (omega arith)))
      go (no q) (yes e) =
          let l : byte_at C (start + u) ≡ byte_at C (start + k) = ap (λ (j : ℕ). byte_at C (start + j)) e in
          subst (λ (n : ℕ). byte_at C (start + u) < n) (not_same (seen + 1) q refl) (omega arith)
      go (no q) (no e) = subst (λ (n : ℕ). byte_at C (start + u) < n) (not_same (seen + 1) q refl) (below u (omega arith))

  -- and the other way round
  pub appear-numbered : (left k seen : ℕ) → ((u : ℕ) → u < k → byte_at C (start + u) < seen) → ((v : ℕ) → k ≤ v → v < k + left → (b : ℕ) → b < byte_at C (start + v) → Appears C start v b) → Passes (numbered_fault C left (start + k) seen)
  unfolding numbered_fault seen_after
  appear-numbered zero k seen below h = refl
  appear-numbered (suc left) k seen below h = pass_on (not_less _ small refl) (next (appear-numbered left (k + 1) (seen_after (byte_at C (start + k)) seen) (seen_more k seen below small) (λ v l g. h v (omega arith) (omega arith))))
    where
      small : byte_at C (start + k) ≤ seen
      small = go (dec_lt seen (byte_at C (start + k)))
        where
          go : Dec (seen < byte_at C (start + k)) → byte_at C (start + k) ≤ seen
          go (no q) = omega arith
          go (yes q) = let a = h k (omega arith) (omega arith) seen q in absurd (omega (arith, below a.u a.before, a.here))

      next : Passes (numbered_fault C left (start + (k + 1)) (seen_after (byte_at C (start + k)) seen)) → Passes (numbered_fault C left (start + k + 1) (if_same (byte_at C (start + k)) seen (seen + 1) seen))
      next q = let e : start + (k + 1) ≡ start + k + 1 = omega arith in pass_on (ap (λ (j : ℕ). numbered_fault C left j (if_same (byte_at C (start + k)) seen (seen + 1) seen)) e) q

-- 'exactly when' as a test
pub agree-iff : (a b : ℕ) (r : Bool) → agree (eqb a b) r ≡ true → (a ≡ b) ↔ (r ≡ true)
unfolding agree
agree-iff a b r h = go (eqb a b) refl h
  where
    go : (t : Bool) → eqb a b ≡ t → cond t r (not r) ≡ true → (a ≡ b) ↔ (r ≡ true)
    go true q e = (λ p. e, λ p. eqb-true a b q)
    go false q e = (λ p. absurd (eqb-false a b q p), λ p. absurd (false-not (sym (ap not p) ∙ e)))

pub iff-agree : (a b : ℕ) (r : Bool) → (a ≡ b) ↔ (r ≡ true) → agree (eqb a b) r ≡ true
unfolding agree
iff-agree a b r h = go (ℕ_discrete a b) r h
  where
    go : Dec (a ≡ b) → (r : Bool) → (a ≡ b) ↔ (r ≡ true) → cond (eqb a b) r (not r) ≡ true
    go (yes q) r h = ap (λ (t : Bool). cond t r (not r)) (eq-eqb a b q) ∙ h.0 q
    go (no q) true h = absurd (q (h.1 refl))
    go (no q) false h = ap (λ (t : Bool). cond t false (not false)) (ne_eqb a b q)

module _ (A : Automaton) (C : List ℕ) (R : Pairs) (at : ℕ) where
  -- the block of a state
  pub block-byte : (v : ℕ) → v < A.states → get_or (blocks_at A C at) v 0 ≡ byte_at C (at + 2 + v)
  unfolding blocks_at byte_at
  block-byte v h = get_or-take A.states (drop (at + 2) C) v 0 h ∙ get_or-drop (at + 2) C v 0

  pub block-length : at + 2 + A.states ≤ length C → length (blocks_at A C at) ≡ A.states
  unfolding blocks_at
  block-length h = simp (length-take, length-drop) (omega arith)

  record Passed : Type 0 where
    pub mark : two_at C at ≡ 0x424B
    pub whole : at + 2 + A.states ≤ length C
    pub numbered : Passes (numbered_fault C A.states (at + 2) 0)
    pub pairs : all_below A.states (λ v. all_below A.states (λ u. agree (same_block (blocks_at A C at) v u) (R v u))) ≡ true

  passed : Passes (blocks_fault A C R at) → Passed
  unfolding blocks_fault pairs_fault
  passed e =
      let a = none_first _ _ e in
      let b = opened certificate_record 0x424B (2 + A.states) C at certificate-refuses a.0 in
      let d = none_first _ _ a.1 in
      let f = pass-unless_true _ _ _ d.1 (omega arith) in
      record { mark = b.marked; whole = omega (arith, b.whole); numbered = d.0; pairs = f.0 }

  pub blocks-good : Passes (blocks_fault A C R at) → GoodBlocks A R (blocks_at A C at)
  unfolding same_block
  blocks-good e =
      let p = passed e in
      record {
        whole = block-length p.whole;
        first_appearance = λ v h b l.
            let a = numbered-appear C (at + 2) A.states 0 0 (λ c m. absurd (omega arith)) (subst (λ (k : ℕ). Passes (numbered_fault C A.states k 0)) (plus-zero (at + 2)) p.numbered) v (omega arith) (omega arith) b (subst (λ (k : ℕ). b < k) (block-byte v h) l) in
            (a.u, a.before, block-byte a.u (omega (arith, a.before)) ∙ a.here);
        as_related = λ v u h l. agree-iff _ _ (R v u) (all-below A.states _ (all-below A.states _ p.pairs v h) u l);
      }
    where
      plus-zero : (k : ℕ) → k ≡ k + 0
      plus-zero k = omega arith

  pub blocks-stand : Passes (blocks_fault A C R at) → IsBytes C → Stands C at (blocks_bytes (blocks_at A C at))
  unfolding blocks_bytes two_bytes
  blocks-stand e b =
      let p = passed e in
      after_two C at 0x424B _ (mark-stands C at 0x424B b (omega (arith, p.whole)) p.mark)
      (record {
        inside = omega (arith, block-length p.whole, p.whole);
        bytes = λ i h. sym (block-byte i (omega (arith, block-length p.whole)));
      })

  -- where the encoding of good blocks stands, there is no fault, and these blocks are read
  module _ (blocks : List ℕ) (good : GoodBlocks A R blocks) (stands : Stands C at (blocks_bytes blocks)) where
    blocks-there : Stands C (at + 2) blocks
    unfolding blocks_bytes two_bytes
    blocks-there = rest-of-two C at 0x424B _ stands

    pub blocks-whole : at + 2 + A.states ≤ length C
    blocks-whole = omega (arith, blocks-there.inside, good.whole)

    pub blocks-read : blocks_at A C at ≡ blocks
    blocks-read =
        ext_get_or 0 (blocks_at A C at) blocks (block-length blocks-whole ∙ sym good.whole)
        (λ i h.
        let l = block-length blocks-whole in
        block-byte i (omega arith) ∙ blocks-there.bytes i (omega (arith, good.whole)))

    mark-read : two_at C at ≡ 0x424B
    unfolding blocks_bytes two_bytes
    mark-read = two_is C at 0x424B (omega arith) (stands-first C at (0x42 ∷ 0x4B ∷ []) _ stands)

    byte-read : (v : ℕ) → v < A.states → byte_at C (at + 2 + v) ≡ get_or blocks v 0
    byte-read v h = blocks-there.bytes v (omega (arith, good.whole))

    pub blocks-pass : Passes (blocks_fault A C R at)
    unfolding blocks_fault pairs_fault same_block
    blocks-pass =
        pass_on
        (first-none _ _ (opens certificate_record 0x424B (2 + A.states) C at (omega arith) mark-read (omega (arith, blocks-whole)))
        (first-none _ _
        (subst (λ (k : ℕ). Passes (numbered_fault C A.states k 0)) (zero_more (at + 2))
        (appear-numbered C (at + 2) A.states 0 0 (λ u h. absurd (omega arith)) appear))
        (is_true _
        (below_all A.states _ (λ v h. below_all A.states _ (λ u l. iff-agree _ _ (R v u) (shared v u h l))))
        refl)))
        refl
      where
        zero_more : (k : ℕ) → k + 0 ≡ k
        zero_more k = omega arith

        appear : (v : ℕ) → 0 ≤ v → v < 0 + A.states → (b : ℕ) → b < byte_at C (at + 2 + v) → Appears C (at + 2) v b
        appear v low high b h =
            let f = good.first_appearance v (omega arith) b (subst (λ (k : ℕ). b < k) (byte-read v (omega arith)) h) in
            record { u = f.0; before = f.1; here = byte-read f.0 (omega (arith, f.1)) ∙ f.2 }

        shared : (v u : ℕ) → v < A.states → u < A.states → (get_or (blocks_at A C at) v 0 ≡ get_or (blocks_at A C at) u 0) ↔ (R v u ≡ true)
        shared v u h l = subst (λ (bs : List ℕ). (get_or bs v 0 ≡ get_or bs u 0) ↔ (R v u ≡ true)) (sym blocks-read) (good.as_related v u h l)
