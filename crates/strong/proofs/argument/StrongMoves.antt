-- The strong step rule says what a movement of one step says.
use Rattle.std.specs.Prelude.{ℕ, ◌*◌, ◌<◌, ◌≡◌, refl, true}
use Rattle.std.proofs.Common.{sym, ◌∙◌, ap, one-mul, arith}
use Rattle.bisimulation.specs.definitions.Choice.{if_same}
use Rattle.bisimulation.specs.definitions.Sum.{sum}
use Rattle.bisimulation.specs.definitions.Automaton.{Automaton, SoundAutomaton, SameProbabilities}
use Rattle.bisimulation.specs.definitions.StepRule.{Flow, Holds, leaving, over_sources, at_target}
use Rattle.bisimulation.specs.definitions.Rule.{MeetsOwn, MetRespelled, MetWider}
use Rattle.bisimulation.proofs.argument.SumLaws.{sum_cong, sum_times}
use Rattle.bisimulation.proofs.argument.Value.{value}
use Rattle.bisimulation.proofs.argument.ValueLaws.{value_same}
use Rattle.bisimulation.proofs.argument.Once.{once}
use Rattle.bisimulation.proofs.argument.Moves.{Movement, one_movement, start, Besides, ByMovement, DoesOnce}
use Rattle.bisimulation.proofs.argument.MovesLaws.{leaving_own, own_layers}
use Rattle.bisimulation.proofs.argument.OneLayer.{moves_one, through_one, once_in_one}
use Rattle.bisimulation.proofs.argument.Wider.{wider_by}
use Rattle.bisimulation.proofs.argument.Own.{own_flow, own_by}
use Rattle.bisimulation.proofs.argument.Respelled.{multiple, respelled_flow, respelled_denominator, respelled_by}
use Rattle.strong.specs.definitions.StrongStepRule.{strong_total, strong_move, StrongMet}

-- one step of t with the challenger's action a
abbrev pub strong_movement : (a t : ℕ) → Movement
strong_movement a t = one_movement (record { allows = λ s b. (s ≡ t) × (b ≡ a); step = true })

-- its only layer is the rule's layer 1
abbrev pub in_layer1 : Flow → Flow
in_layer1 f = record { D = f.D; k = λ i. f.k 0; w = f.w }

-- more is asked of the flow, the D equation: for a state t it is what the step says at t, but of a t that is no state a movement says nothing
abbrev pub KeepsTotal : Besides
KeepsTotal A q t f = Holds (strong_total A (in_layer1 f))

-- all of D leaves t
pub leaves_all : (A : Automaton) (W : ℕ → ℕ → Type 0) (q t : ℕ) (m : StrongMet A W q t) (v : ℕ) → leaving A (m.flow.k 1) v ≡ start t m.flow.D v
unfolding strong_total
leaves_all A W q t m v = leaving_own A t (m.flow.k 1) (λ r l u. (m.layer1 r l u).own) v ∙ ap (λ (D : ℕ). start t D v) (sym m.total.equal)

pub strong_by : ByMovement StrongMet strong_movement KeepsTotal
unfolding strong_total strong_move at_target over_sources
strong_by =
    record {
      to = λ A W q t m. let f = m.flow in record {
        flow = record { D = f.D; k = λ i. f.k 1; w = f.w };
        at_least_one = m.at_least_one;
        moves = moves_one (record {
          uses = λ r l u. let o = m.layer1 r l u in (o.own, o.action);
          balance = λ v l. omega (arith, leaves_all A W q t m v, (m.move v l).equal);
          all = λ s v l. leaves_all A W q t m v;
        });
        couples = record { related = m.related; target = λ u l. (m.target u l).equal };
        more = record { equal = m.total.equal };
      };
      from = λ A W q t o. let step = through_one o.moves in record {
        flow = in_layer1 o.flow;
        at_least_one = o.at_least_one;
        layer1 = λ r l u. let a = step.uses r l u in record { own = a.0; action = a.1 };
        related = o.couples.related;
        total = o.more;
        move = λ v l. record { equal = omega (arith, step.balance v l, step.all refl v l) };
        target = λ u l. record { equal = o.couples.target u l };
      };
    }

pub strong_wider : MetWider StrongMet
strong_wider = wider_by strong_by

pub strong_once : (a s : ℕ) → DoesOnce (strong_movement a s) s a
strong_once a s = once_in_one (refl, refl)

-- the challenger done once, and its denominator
own_total : (A : Automaton) (q : ℕ) → q < A.transitions → KeepsTotal A q (A.source q) (own_flow A q 0)
unfolding strong_total own_layers if_same once value
own_total A q l = record { equal = sym (value_same A.transitions q 1 A.denominator l ∙ one-mul _) }

pub strong_own : MeetsOwn StrongMet
unfolding strong_once once_in_one
strong_own = own_by strong_by strong_once own_total

-- in another spelling the sum of k times d is scaled as D is
respelled_total : (A B : Automaton) → SoundAutomaton A → SoundAutomaton B → SameProbabilities A B → (q t : ℕ) (f : Flow) → q < A.transitions → KeepsTotal A q t f → KeepsTotal B q t (respelled_flow A B f)
unfolding strong_total respelled_flow
respelled_total A B sound_a sound_b e q t f i h =
    record {
      equal = sym
          (sum_cong B.transitions _ _ (respelled_denominator A B sound_a sound_b e (f.k 0))
          ∙ sum_times B.transitions (multiple B) (λ r. f.k 0 r * A.denominator r)
          ∙ ap (λ (n : ℕ). multiple B * sum n (λ r. f.k 0 r * A.denominator r)) (sym e.transitions)
          ∙ ap (λ (z : ℕ). multiple B * z) (sym h.equal));
    }

pub strong_respelled : MetRespelled StrongMet
strong_respelled = respelled_by strong_by respelled_total
