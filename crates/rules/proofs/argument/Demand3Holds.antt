-- Demand 3 holds, whatever a pair of files is judged by.
use Rattle.std.specs.Prelude.{ℕ, ◌≡◌, refl, ◌↔◌, List, get_or}
use Rattle.std.proofs.Common.{sym, ◌∙◌, ap, arith}
use Rattle.std.proofs.Math.Path.{subst}
use Rattle.std.proofs.Math.ListN.{length}
use Rattle.bisimulation.specs.definitions.Pairs.{Pairs}
use Rattle.bisimulation.specs.definitions.Largest.{LargestBisimulation, Links}
use Rattle.bisimulation.proofs.argument.LargestPairs.{shared, shared-links, largest-pairs}
use Rattle.bisimulation.proofs.argument.Spelling.{one_answer}
use Rattle.rules.proofs.argument.AnyRule.{CertificateRule, PairRules, pairs_of, spelled_by}
use Rattle.rules.specs.definitions.Limits.{any_terms, with_terms}
use Rattle.rules.specs.definitions.Model.{Model, automaton_of, HoldOneAutomaton}
use Rattle.rules.specs.definitions.SoundModel.{Bytes, SoundModel}
use Rattle.rules.proofs.argument.SoundModelLaws.{sound-automaton}
use Rattle.rules.specs.definitions.Reading.{model}
use Rattle.rules.specs.definitions.Judging.{NameSameBlocks}
use Rattle.rules.specs.definitions.JudgedBy.{AcceptedBy, AcceptedSpelled}
use Rattle.rules.proofs.argument.AcceptedExactly.{AcceptedAs, keeps-limit, accepted-exactly}
use Rattle.rules.proofs.argument.LargestBlocks.{kept-largest, Numbered, one-numbering}
use Rattle.rules.specs.definitions.Demand3.{InOneBlock, HoldsModel, Demand3, LargestBlockPairs}
use Rattle.rules.specs.definitions.Demands.{LargestOf}

-- a model holds the automaton that it holds
pub itself : (M : Model) → HoldOneAutomaton M M
unfolding HoldOneAutomaton
itself M =
    record {
      states = refl;
      actions = refl;
      transitions = refl;
      label = λ v l. refl;
      source = λ q l. refl;
      action = λ q l. refl;
      probability = λ q v l k. refl;
    }

-- lying in one block as a set of pairs
abbrev in_one_block : List ℕ → Pairs
in_one_block blocks = shared (length blocks) (λ v. get_or blocks v 0)

in-one-block : (blocks : List ℕ) (s t : ℕ) → Links (in_one_block blocks) s t ↔ InOneBlock blocks s t
in-one-block blocks s t =
    let links = shared-links (length blocks) (λ v. get_or blocks v 0) s t in
    (λ h. let x = links.0 h in record { first = x.0; second = x.1; same = x.2 }, λ h. links.1 (h.first, h.second, h.same))

module _ (by : PairRules) where
  -- an accepted certificate's blocks are numbered and whole, and the largest relation
  pub record AcceptedFacts (bytes : List ℕ) (M : Model) (blocks : List ℕ) : Type 1 where
    pub sound : SoundModel by.limits M
    pub whole : length blocks ≡ length M.labels
    pub numbered : Numbered (length M.labels) blocks
    pub largest : LargestBisimulation (by.rule bytes).theory.met (automaton_of M) (InOneBlock blocks)

  facts : (bytes C blocks : List ℕ) (a : AcceptedAs by bytes C blocks) → AcceptedFacts bytes a.M blocks
  unfolding automaton_of
  facts bytes C blocks a =
      let k = a.kept.keeps in
      let ok = by.models.sound bytes a.M a.file in
      subst (AcceptedFacts bytes a.M) a.kept.named
      (record {
        sound = ok;
        whole = k.blocks.whole;
        numbered = record { appears = k.blocks.first_appearance };
        largest = kept-largest (by.rule bytes).theory (by.rule bytes).says (by.rule bytes).covers (automaton_of a.M) (sound-automaton by.limits a.M ok) by.limits a.kept.certificate k;
      })

  -- the model file holds the model
  pub holds : (bytes C blocks : List ℕ) → Bytes bytes → (a : AcceptedAs by bytes C blocks) → HoldsModel by.models.read bytes a.M
  holds bytes C blocks b a = record { reads = (by.models.exactly bytes a.M b).1 a.file }

  -- what is read is one model
  pub one-model : (bytes : List ℕ) (M N : Model) → HoldsModel by.models.read bytes M → HoldsModel by.models.read bytes N → M ≡ N
  one-model bytes M N h k = let e = sym h.reads ∙ k.reads in cc

  pub holds_read : (bytes : List ℕ) {M : Model} {end : ℕ} → Bytes bytes → by.models.read bytes ≡ model M end → HoldsModel by.models.read bytes M
  holds_read bytes {M} {end} b e = record { reads = e ∙ ap (model M) (by.models.whole bytes M end b e) }

  pub facts-of : (bytes C blocks : List ℕ) → Bytes bytes → Bytes C → AcceptedBy (pairs_of by) bytes C blocks → (M : Model) → HoldsModel by.models.read bytes M → AcceptedFacts bytes M blocks
  facts-of bytes C blocks b c a M h =
      let acc = (accepted-exactly by bytes C blocks b c).0 a in
      subst (λ (N : Model). AcceptedFacts bytes N blocks) (one-model bytes acc.M M (holds bytes C blocks b acc) h) (facts bytes C blocks acc)

module _ (by : PairRules) where
  -- two lists of blocks that are the largest relation of one automaton are one
  same_blocks : (bytes other : List ℕ) (M N : Model) (b c : List ℕ) → AcceptedFacts by bytes M b → AcceptedFacts (spelled_by by) other N c → by.one_automaton bytes other M N → b ≡ c
  unfolding HoldOneAutomaton automaton_of
  same_blocks bytes other M N b c x y together =
      let one : HoldOneAutomaton M N = by.hold_one bytes other M N together in
      let n : length M.labels ≡ length N.labels = one.states in
      let largest = subst (λ (rule : CertificateRule by.numbers). LargestBisimulation rule.theory.met (automaton_of N) (InOneBlock c)) (sym (by.one_rule bytes other M N together)) y.largest in
      one-numbering (length M.labels) b c x.whole (omega (arith, y.whole)) x.numbered (subst (λ (k : ℕ). Numbered k c) (sym n) y.numbered)
      (λ v u h l.
      let e = one_answer (by.rule bytes).theory (sound-automaton by.limits M x.sound) (sound-automaton (with_terms any_terms by.limits) N y.sound) one x.largest largest v u in (
        λ p. (e.0 (record { first = omega (arith, x.whole); second = omega (arith, x.whole); same = p })).same,
        λ p. (e.1 (record { first = omega (arith, y.whole); second = omega (arith, y.whole); same = p })).same,
      ))

  -- demand 3
  pub demand3 : Demand3 (pairs_of by)
  unfolding NameSameBlocks
  demand3 =
      record {
        largest = λ bytes C blocks b c a.
            let acc = (accepted-exactly by bytes C blocks b c).0 a in
            record { M = acc.M; holds = holds by bytes C blocks b acc; largest = (facts by bytes C blocks acc).largest };
        one_answer = λ bytes₁ C₁ blocks₁ bytes₂ C₂ blocks₂ b₁ c₁ b₂ c₂ a₁ a₂ M₁ M₂ h₁ h₂ one.
            same_blocks bytes₁ bytes₂ M₁ M₂ blocks₁ blocks₂ (facts-of by bytes₁ C₁ blocks₁ b₁ c₁ a₁ M₁ h₁) (facts-of (spelled_by by) bytes₂ C₂ blocks₂ b₂ c₂ a₂ M₂ h₂) one;
      }

  -- a pair that is accepted is accepted in whatever terms, and the file holds the same model
  pub accepted-spelled : (bytes C blocks : List ℕ) → Bytes bytes → Bytes C → AcceptedBy (pairs_of by) bytes C blocks → AcceptedSpelled (pairs_of by) bytes C blocks
  accepted-spelled bytes C blocks b c a =
      let k = (accepted-exactly by bytes C blocks b c).0 a in
      (accepted-exactly (spelled_by by) bytes C blocks b c).1
      (record {
        M = k.M;
        file = by.among bytes k.M k.file;
        kept = record { certificate = k.kept.certificate; encoded = k.kept.encoded; keeps = keeps-limit refl k.kept.keeps; named = k.kept.named };
      })

  pub holds_spelled : (bytes : List ℕ) (M : Model) → Bytes bytes → HoldsModel by.models.read bytes M → HoldsModel by.spelled.read bytes M
  holds_spelled bytes M b h = record { reads = (by.spelled.exactly bytes M b).1 (by.among bytes M ((by.models.exactly bytes M b).0 h.reads)) }

  -- so two accepted pairs of one automaton name the same blocks
  pub one_answer_lem : (bytes₁ C₁ blocks₁ bytes₂ C₂ blocks₂ : List ℕ) → Bytes bytes₁ → Bytes C₁ → Bytes bytes₂ → Bytes C₂ → AcceptedBy (pairs_of by) bytes₁ C₁ blocks₁ → AcceptedBy (pairs_of by) bytes₂ C₂ blocks₂ → (M₁ M₂ : Model) → HoldsModel by.models.read bytes₁ M₁ → HoldsModel by.models.read bytes₂ M₂ → by.one_automaton bytes₁ bytes₂ M₁ M₂ → NameSameBlocks blocks₁ blocks₂
  one_answer_lem bytes₁ C₁ blocks₁ bytes₂ C₂ blocks₂ b₁ c₁ b₂ c₂ a₁ a₂ M₁ M₂ h₁ h₂ one =
      demand3.one_answer bytes₁ C₁ blocks₁ bytes₂ C₂ blocks₂ b₁ c₁ b₂ c₂ a₁ (accepted-spelled bytes₂ C₂ blocks₂ b₂ c₂ a₂) M₁ M₂ h₁ (holds_spelled bytes₂ M₂ b₂ h₂) one

  -- its first clause for sets of pairs, as the contracts say it
  pub largest-block-pairs : (bytes C blocks : List ℕ) → Bytes bytes → Bytes C → AcceptedBy (pairs_of by) bytes C blocks → LargestBlockPairs by.models.read (by.rule bytes).theory.met bytes blocks
  largest-block-pairs bytes C blocks b c a =
      let l = demand3.largest bytes C blocks b c a in
      record { M = l.M; holds = l.holds; largest = largest-pairs (by.rule bytes).theory (in_one_block blocks) (in-one-block blocks) l.largest }

  pub largest-of : (bytes C blocks : List ℕ) → Bytes bytes → Bytes C → AcceptedBy (pairs_of by) bytes C blocks → LargestOf (pairs_of by) bytes blocks
  largest-of bytes C blocks b c a =
      record {
        largest = largest-block-pairs bytes C blocks b c a;
        one_answer = λ other C₂ blocks₂ b₂ c₂ a₂ M N h k one. demand3.one_answer bytes C blocks other C₂ blocks₂ b c b₂ c₂ a a₂ M N h k one;
      }
