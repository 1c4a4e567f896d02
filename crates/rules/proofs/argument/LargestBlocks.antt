-- Demand 3 of the files: the accepted blocks are the largest relation, and two certificates for one automaton name the same blocks.
use Rattle.std.specs.Prelude.{ℕ, zero, suc, ◌≤◌, ◌<◌, ◌≡◌, refl, ◌≢◌, ◌↔◌, Bool, true, false, cond, List, [], ◌∷◌, eqb, length, get_or}
use Rattle.std.proofs.Common.{sym, ◌∙◌, ap, subst₂, ext_get_or, eqb-true, arith}
use Rattle.std.proofs.Math.Decide.{dec_lt}
use Rattle.bisimulation.specs.definitions.Choice.{if_true, both}
use Rattle.bisimulation.proofs.argument.ChoiceLaws.{same, both_true}
use Rattle.bisimulation.specs.definitions.Automaton.{Automaton, SoundAutomaton}
use Rattle.bisimulation.specs.definitions.StepRule.{MetInternal, MetExternal}
use Rattle.bisimulation.specs.definitions.Pairs.{Pairs, equal_labels}
use Rattle.bisimulation.specs.definitions.Largest.{LargestBisimulation}
use Rattle.bisimulation.specs.definitions.Rule.{Rule}
use Rattle.bisimulation.specs.definitions.PairsLeft.{PairsLeft, start, refuted}
use Rattle.bisimulation.specs.definitions.Blocks.{SharedExactlyWhenLeft}
use Rattle.bisimulation.proofs.argument.BlocksLargest.{blocks_largest}
use Rattle.bisimulation.proofs.argument.Plain.{plain}
use Rattle.rules.proofs.argument.AnyRule.{Covers}
use Rattle.rules.specs.definitions.Limits.{Limits}
use Rattle.rules.specs.definitions.Judging.{Question}
use Rattle.rules.specs.definitions.Encoding.{Refutation, KEntry, WEntry, FlowRecord, Certificate, prices_of, k_in, w_in, flow_of}
use Rattle.rules.specs.definitions.SoundModel.{Each}
use Rattle.rules.specs.definitions.Accepted.{RuleSays, Among, here, there, GoodRefutations, GoodK, GoodW, GoodFlow, GoodFlows, KeepsRules}
use Rattle.rules.specs.definitions.PlainSays.{InPlainQuestion, InternalEquations, ExternalEquations, plain_says}
use Rattle.rules.specs.definitions.Demand3.{InOneBlock}

abbrev ask : (q t : ℕ) → Question
ask q t = record { challenger = q; defender = t }

-- the flow of a question
record Answered (says : RuleSays) (A : Automaton) (R : Pairs) (x : Question) : Type 0 where
  pub f : FlowRecord
  pub good : GoodFlow says A R x f

answered : {says : RuleSays} {A : Automaton} {R : Pairs} {xs : List Question} {fs : List FlowRecord} (x : Question) → GoodFlows says A R xs fs → Among x xs → Answered says A R x
answered {says = says} {A = A} {R = R} x Rattle.rules.specs.definitions.Accepted.done x8 = elim x8 [ ]
answered x (GoodFlows.flow {f = f} g gs) Among.here = record { f = f; good = g }
answered x (GoodFlows.flow g gs) (Among.there a) = answered x gs a

module _ (rule : Rule) (says : RuleSays) (theory : Covers rule says) (A : Automaton) (sound : SoundAutomaton A) where
  left_after : (R pairs : Pairs) (xs : List Refutation) → GoodRefutations says A R xs pairs → PairsLeft rule A R → PairsLeft rule A pairs
  left_after R pairs xs GoodRefutations.done l = l
  left_after R pairs xs (GoodRefutations.refute {x = x} {xs = rest} g gs) l =
      left_after _ pairs rest gs
      (refuted l x.challenger x.defender (prices_of x) g.transition g.state g.different g.related (theory.refutes A R x.challenger x.defender (prices_of x) g.refutes))

  -- a certificate that keeps the rules names the largest relation
  pub kept-largest : (L : Limits) (K : Certificate) → KeepsRules L says A K → LargestBisimulation rule.met A (InOneBlock K.blocks)
  kept-largest L K k =
      blocks_largest sound (left_after (equal_labels A) k.left K.refutations k.refutations start) shared
      (record { met = λ s t z n q l e. question s t z n q l e })
    where
      shared : SharedExactlyWhenLeft A k.left (InOneBlock K.blocks)
      shared =
          record {
            on_states = λ s t z. (omega (arith, z.first, k.blocks.whole), omega (arith, z.second, k.blocks.whole));
            related = λ s t z. (k.blocks.as_related s t (omega (arith, z.first, k.blocks.whole)) (omega (arith, z.second, k.blocks.whole))).0 z.same;
            shared = λ s t h l e.
                record {
                  first = omega (arith, k.blocks.whole);
                  second = omega (arith, k.blocks.whole);
                  same = (k.blocks.as_related s t h l).1 e;
                };
          }

      question : (s t : ℕ) → InOneBlock K.blocks s t → s ≢ t → (q : ℕ) → q < A.transitions → A.source q ≡ s → rule.met A (InOneBlock K.blocks) q t
      question s t z n q l e =
          let o = shared.on_states s t z in
          let a = answered (ask q t) k.flows
          (k.is_asked.all (ask q t)
          (record {
            transition = l;
            first = omega (arith, o.0);
            second = o.1;
            different = λ d. n (sym e ∙ d);
            together = ap (λ (x : ℕ). get_or K.blocks x 0) e ∙ z.same;
          })) in
          theory.meets A k.left (InOneBlock K.blocks) (ask q t) a.f a.good shared.shared

-- an entry whose k or w is not 0 is in the record, and so is good
pub k-allowed : (says : RuleSays) (A : Automaton) (q t : ℕ) (es : List KEntry) → Each (GoodK says A q t) es → (layer r : ℕ) → 0 < k_in es layer r → says.in_question A q t layer r
unfolding k_in Each if_true
k-allowed says A q t [] g layer r h = absurd (omega arith)
k-allowed says A q t (e ∷ es) g layer r h = go (k-allowed says A q t es g.1 layer r) (both (eqb e.layer layer) (eqb e.transition r)) refl h
  where
    go : (0 < k_in es layer r → says.in_question A q t layer r) → (b : Bool) → both (eqb e.layer layer) (eqb e.transition r) ≡ b → 0 < cond b e.k (k_in es layer r) → says.in_question A q t layer r
    go rest false z l = rest l
    go rest true z l =
        let p = both_true _ _ z in
        subst₂ (says.in_question A q t) (eqb-true _ _ p.0) (eqb-true _ _ p.1) g.0.allowed

pub w-related : (A : Automaton) (R : Pairs) (es : List WEntry) → Each (GoodW A R) es → (v u : ℕ) → 0 < w_in es v u → R v u ≡ true
unfolding w_in Each if_true
w-related A R [] g v u h = absurd (omega arith)
w-related A R (e ∷ es) g v u h = go (w-related A R es g.1 v u) (both (eqb e.v v) (eqb e.u u)) refl h
  where
    go : (0 < w_in es v u → R v u ≡ true) → (b : Bool) → both (eqb e.v v) (eqb e.u u) ≡ b → 0 < cond b e.w (w_in es v u) → R v u ≡ true
    go rest false z l = rest l
    go rest true z l =
        let p = both_true _ _ z in
        subst₂ (λ (x y : ℕ). R x y ≡ true) (eqb-true _ _ p.0) (eqb-true _ _ p.1) g.0.related

-- document 01's rule
pub in-before : {challenger action : ℕ} → InPlainQuestion challenger 0 action → action ≡ 0
in-before (InPlainQuestion.before a b) = b
in-before (InPlainQuestion.move n a b) = absurd (omega arith)
in-before (InPlainQuestion.after n a b) = absurd (omega arith)

pub in-move : {challenger action : ℕ} → InPlainQuestion challenger 1 action → action ≡ challenger
in-move (InPlainQuestion.before a b) = absurd (omega arith)
in-move (InPlainQuestion.move n a b) = b
in-move (InPlainQuestion.after n a b) = absurd (omega arith)

pub in_after : {challenger action : ℕ} → InPlainQuestion challenger 2 action → action ≡ 0
in_after (InPlainQuestion.before a b) = b
in_after (InPlainQuestion.move n a b) = absurd (omega arith)
in_after (InPlainQuestion.after n a b) = b

-- a flow whose entries are in the question, and whose equations hold, meets it
module _ (says : RuleSays) (A : Automaton) (R : Pairs) (W : ℕ → ℕ → Type 0) (x : Question) (f : FlowRecord) (g : GoodFlow says A R x f) (plainly : (layer r : ℕ) → says.in_question A x.challenger x.defender layer r → InPlainQuestion (A.action x.challenger) layer (A.action r)) (inside : (v u : ℕ) → v < A.states → u < A.states → R v u ≡ true → W v u) where
  pub allowed-plainly : (layer r : ℕ) → 0 < k_in f.ks layer r → InPlainQuestion (A.action x.challenger) layer (A.action r)
  allowed-plainly layer r h = plainly layer r (k-allowed says A x.challenger x.defender f.ks g.ks layer r h)

  unfoldable pub internal-met : InternalEquations A x.challenger x.defender (flow_of f) → MetInternal A W x.challenger x.defender
  unfolding flow_of
  internal-met e =
      record {
        flow = flow_of f;
        at_least_one = g.some;
        layer0 = λ r l h. in-before (allowed-plainly 0 r h);
        related = λ v u l k h. inside v u l k (w-related A R f.ws g.ws v u h);
        move = e.move;
        target = e.target;
      }

  unfoldable pub external-met : ExternalEquations A x.challenger x.defender (flow_of f) → MetExternal A W x.challenger x.defender
  unfolding flow_of
  external-met e =
      record {
        flow = flow_of f;
        at_least_one = g.some;
        layer0 = λ r l h. in-before (allowed-plainly 0 r h);
        layer1 = λ r l h. in-move (allowed-plainly 1 r h);
        layer2 = λ r l h. in_after (allowed-plainly 2 r h);
        related = λ v u l k h. inside v u l k (w-related A R f.ws g.ws v u h);
        before = e.before;
        after = e.after;
        target = e.target;
      }

pub plain-covers : Covers plain plain_says
plain-covers =
    record {
      refutes = λ A R q t p h. h;
      meets = λ A R W x f g inside.
          record {
            internal = λ i. internal-met plain_says A R W x f g (λ layer r h. h) inside (g.equations.internal i);
            external = λ n. external-met plain_says A R W x f g (λ layer r h. h) inside (g.equations.external n);
          };
    }

-- numbering by first appearance is determined by which states share a block
pub record Numbered (n : ℕ) (blocks : List ℕ) : Type 0 where
  pub appears : (v : ℕ) → v < n → (b : ℕ) → b < get_or blocks v 0 → (u : ℕ) × (u < v) × (get_or blocks u 0 ≡ b)

no_lower : (n : ℕ) (b c : List ℕ) → Numbered n b → ((v u : ℕ) → v < n → u < n → get_or c v 0 ≡ get_or c u 0 → get_or b v 0 ≡ get_or b u 0) → (v : ℕ) → v < n → ((u : ℕ) → u < v → get_or b u 0 ≡ get_or c u 0) → get_or b v 0 ≤ get_or c v 0
no_lower n b c numbered same v l before = go (dec_lt (get_or c v 0) (get_or b v 0))
  where
    go : Dec (get_or c v 0 < get_or b v 0) → get_or b v 0 ≤ get_or c v 0
    go (no h) = omega arith
    go (yes h) =
        let a = numbered.appears v l (get_or c v 0) h in
        let e = before a.0 a.1 in
        let f = a.2 in
        let g = same a.0 v (omega (arith, a.1)) l (sym e ∙ f) in
        absurd (omega arith)

same_numbers : (n : ℕ) (b c : List ℕ) → Numbered n b → Numbered n c → ((v u : ℕ) → v < n → u < n → (get_or b v 0 ≡ get_or b u 0) ↔ (get_or c v 0 ≡ get_or c u 0)) → (k v : ℕ) → v < k → v < n → get_or b v 0 ≡ get_or c v 0
same_numbers n b c nb nc same zero v h l = absurd (omega arith)
same_numbers n b c nb nc same (suc k) v h l =
    let x = no_lower n b c nb (λ w u i j. (same w u i j).1) v l (λ u i. same_numbers n b c nb nc same k u (omega arith) (omega arith)) in
    let y = no_lower n c b nc (λ w u i j. (same w u i j).0) v l (λ u i. sym (same_numbers n b c nb nc same k u (omega arith) (omega arith))) in
    omega arith

pub one-numbering : (n : ℕ) (b c : List ℕ) → length b ≡ n → length c ≡ n → Numbered n b → Numbered n c → ((v u : ℕ) → v < n → u < n → (get_or b v 0 ≡ get_or b u 0) ↔ (get_or c v 0 ≡ get_or c u 0)) → b ≡ c
one-numbering n b c lb lc nb nc same =
    ext_get_or 0 b c (omega arith) (λ v l. same_numbers n b c nb nc same (suc v) v (omega arith) (omega arith))
