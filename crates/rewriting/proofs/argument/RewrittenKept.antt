-- A certificate that keeps every rule keeps them once it is rewritten, for the automaton of the rewritten model.
use Rattle.std.specs.Prelude.{ℕ, ◌+◌, ◌*◌, ◌^◌, ◌≤◌, ◌<◌, ◌≡◌, refl, Bool, true, false, List, [], ◌∷◌, map, eqb, length, get_or}
use Rattle.std.proofs.Common.{sym, ◌∙◌, ap, eqb-true, arith}
use Rattle.std.proofs.Math.Path.{subst, fun_ext}
use Rattle.std.proofs.Math.ListN.{length-map}
use Rattle.std.proofs.Math.Nat.{mul-pos}
use Rattle.bisimulation.specs.definitions.Choice.{if_true, both}
use Rattle.bisimulation.proofs.argument.ChoiceLaws.{is_true, is_false, both_true, past_less, false-not}
use Rattle.bisimulation.specs.definitions.Automaton.{Automaton, SameProbabilities}
use Rattle.bisimulation.specs.definitions.Pairs.{Pairs, equal_labels, removed}
use Rattle.rules.specs.definitions.Limits.{Limits}
use Rattle.rules.specs.definitions.Model.{Transition, Model, weight_of, no_transition, automaton_of}
use Rattle.rules.specs.definitions.SoundModel.{Each, TransitionRules, SoundModel}
use Rattle.rules.specs.definitions.LowestTerms.{in_lowest}
use Rattle.rules.specs.definitions.Judging.{Question}
use Rattle.rules.specs.definitions.Encoding.{Refutation, KEntry, FlowRecord, Certificate, k_in, flow_of}
use Rattle.rules.specs.definitions.Accepted.{RuleSays, Ascends, end, next, Among, here, there, GoodRefutation, GoodRefutations, done, refute, GoodBlocks, GoodK, GoodW, k_key, GoodFlow, question_key, IsQuestions, GoodFlows, flow, KeepsRules}
use Rattle.rules.proofs.argument.SoundModelLaws.{each_at, each_map}
use Rattle.rules.proofs.argument.MappedLists.{each_both, each-mapped, each-unmapped, get_d-mapped}
use Rattle.rules.proofs.argument.TermsLaws.{lowest-weight, lowest-source, lowest-action, divisor-some, lowest-denominator, lowest-none}
use Rattle.rewriting.specs.definitions.Rewritten.{rewritten_model, divisor_at, rewritten_k, rewritten_flow, rewritten_certificate}
use Rattle.rewriting.specs.definitions.RewriteAnswer.{highest_k, passes_k}
use Rattle.rewriting.proofs.argument.Divided.{Divided, multiplied, KeptDivided, in_place}

-- a transition of the rewritten model
pub rewritten-transition : (M : Model) (q : ℕ) → get_or (rewritten_model M).transitions q no_transition ≡ in_lowest (get_or M.transitions q no_transition)
unfolding rewritten_model
rewritten-transition M q =
    ap (get_or (map in_lowest M.transitions) q) (sym lowest-none) ∙ get_d-mapped in_lowest M.transitions q no_transition

-- its automaton is the model's, divided by the divisors
pub rewritten-divided : (L : Limits) (M : Model) → SoundModel L M → Divided (divisor_at M) (automaton_of M) (automaton_of (rewritten_model M))
unfolding automaton_of divisor_at rewritten_model
rewritten-divided L M ok =
    let n = length M.labels in
    let m = M.actions in
    let t : ℕ → Transition = λ q. get_or M.transitions q no_transition in
    let keeps : (q : ℕ) → q < length M.transitions → TransitionRules n m (t q) = λ q l. each_at (TransitionRules n m) M.transitions q no_transition ok.transitions l in
    let is : (q : ℕ) → in_lowest (t q) ≡ get_or (rewritten_model M).transitions q no_transition = λ q. sym (rewritten-transition M q) in
    record {
      others = λ i.
          record {
            states = length M.labels;
            actions = M.actions;
            transitions = sym (length-map M.transitions in_lowest) i;
            label = λ v. get_or M.labels v 0;
            source = fun_ext (λ q. sym (lowest-source (t q)) ∙ ap (λ (x : Transition). x.source) (is q)) i;
            action = fun_ext (λ q. sym (lowest-action (t q)) ∙ ap (λ (x : Transition). x.action) (is q)) i;
            denominator = (automaton_of (rewritten_model M)).denominator;
            weight = (automaton_of (rewritten_model M)).weight;
          };
      some = λ q l. divisor-some (t q) (keeps q l);
      denominator = λ q l. lowest-denominator (t q) (keeps q l) ∙ ap (λ (x : Transition). x.denominator * divisor_at M q) (is q);
      weight = λ q v l. lowest-weight (t q) v ∙ ap (λ (x : Transition). weight_of x.entries v * divisor_at M q) (is q);
    }

-- what is divided has the same probabilities
pub divided-same : {g : ℕ → ℕ} {A B : Automaton} → Divided g A B → SameProbabilities A B
divided-same {g} {A} {B} divided =
    let e = divided.others in
    record {
      states = ap (λ (X : Automaton). X.states) e;
      actions = ap (λ (X : Automaton). X.actions) e;
      transitions = ap (λ (X : Automaton). X.transitions) e;
      label = λ v l. ap (λ (X : Automaton). X.label v) e;
      source = λ q l. ap (λ (X : Automaton). X.source q) e;
      action = λ q l. ap (λ (X : Automaton). X.action q) e;
      probability = λ q v l k. omega (
        arith,
        ap (λ (z : ℕ). z * B.denominator q) (divided.weight q v l),
        ap (λ (z : ℕ). B.weight q v * z) (divided.denominator q l),
      );
    }

-- the k of a rewritten record are the k multiplied
k-multiplied : (M : Model) (es : List KEntry) (layer r : ℕ) → k_in (map (rewritten_k M) es) layer r ≡ k_in es layer r * divisor_at M r
unfolding k_in rewritten_k
k-multiplied M [] layer r = omega arith
k-multiplied M (e ∷ es) layer r = go (both (eqb e.layer layer) (eqb e.transition r)) refl (k-multiplied M es layer r)
  where
    go : (b : Bool) → both (eqb e.layer layer) (eqb e.transition r) ≡ b → k_in (map (rewritten_k M) es) layer r ≡ k_in es layer r * divisor_at M r → if_true b (e.k * divisor_at M e.transition) (k_in (map (rewritten_k M) es) layer r) ≡ if_true b e.k (k_in es layer r) * divisor_at M r
    go true h ih =
        let here : e.transition ≡ r = eqb-true e.transition r (both_true _ _ h).1 in
        sym (is_true _ refl refl) ∙ ap (λ (q : ℕ). e.k * divisor_at M q) here ∙ ap (λ (z : ℕ). z * divisor_at M r) (is_true _ refl refl)
    go false h ih = sym (is_false _ refl refl) ∙ ih ∙ ap (λ (z : ℕ). z * divisor_at M r) (is_false _ refl refl)

pub flow-multiplied : (M : Model) (f : FlowRecord) → multiplied (divisor_at M) (flow_of f) ≡ flow_of (rewritten_flow M f)
unfolding flow_of rewritten_flow
flow-multiplied M f = λ i. record { D = f.D; k = fun_ext (λ layer. fun_ext (λ r. sym (k-multiplied M f.ks layer r))) i; w = (flow_of f).w }

-- a number that what is made of an element has too
ascends-mapped : {X : Type 0} (number : X → ℕ) (f : X → X) → ((x : X) → number (f x) ≡ number x) → (lowest : ℕ) (xs : List X) → Ascends number lowest xs → Ascends number lowest (map f xs)
ascends-mapped number f same lowest [] a = end
ascends-mapped number f same lowest (x ∷ xs) (next l a) =
    next (subst (λ (k : ℕ). lowest ≤ k) (sym (same x)) l)
    (subst (λ (k : ℕ). Ascends number (k + 1) (map f xs)) (sym (same x)) (ascends-mapped number f same (number x + 1) xs a))

-- every k fits its field
abbrev pub FitKs : List KEntry → Type 0
FitKs es = Each (λ (e : KEntry). e.k < 2 ^ 32) es

-- every k of rewritten flows
abbrev pub FitFlows : Model → List FlowRecord → Type 0
FitFlows M fs = Each (λ (f : FlowRecord). FitKs (rewritten_flow M f).ks) fs

-- no k above the highest
pub passes-fit : (es : List KEntry) → passes_k es ≡ false → FitKs es
unfolding passes_k Each
passes-fit [] h = tt
passes-fit (e ∷ es) h =
    let p = past_less true (passes_k es) highest_k e.k false-not (sym h) in
    (omega (arith, p.0), passes-fit es (sym p.1))

module _ {says : RuleSays} (kept : KeptDivided says) (M : Model) {A B : Automaton} (divided : Divided (divisor_at M) A B) where
  -- B, with what it has of A in its place
  abbrev C : Automaton
  C = in_place divided

  placed : Divided (divisor_at M) A C
  placed = record { others = refl; some = divided.some; denominator = divided.denominator; weight = divided.weight }

  refutation-kept : (R : Pairs) (x : Refutation) → GoodRefutation says A R x → GoodRefutation says C R x
  refutation-kept R x h =
      record {
        transition = h.transition;
        state = h.state;
        different = h.different;
        related = h.related;
        whole = h.whole ∙ kept.price_count placed x.challenger;
        fits = h.fits;
        refutes = kept.refutes placed R x.challenger x.defender _ h.transition h.refutes;
      }

  refutations-kept : (R left : Pairs) (xs : List Refutation) → GoodRefutations says A R xs left → GoodRefutations says C R xs left
  refutations-kept R left xs GoodRefutations.done = GoodRefutations.done
  refutations-kept R left xs (GoodRefutations.refute {x = x} {xs = rest} h hs) =
      GoodRefutations.refute (refutation-kept R x h) (refutations-kept (removed (A.source x.challenger) x.defender R) left rest hs)

  blocks-kept : (R : Pairs) (blocks : List ℕ) → GoodBlocks A R blocks → GoodBlocks C R blocks
  blocks-kept R blocks h = record { whole = h.whole; first_appearance = h.first_appearance; as_related = h.as_related }

  asked-kept : (blocks : List ℕ) (xs : List Question) → IsQuestions A blocks xs → IsQuestions C blocks xs
  unfolding question_key
  asked-kept blocks xs h =
      record {
        only = λ x among.
            let a = h.only x among in
            record { transition = a.transition; first = a.first; second = a.second; different = a.different; together = a.together };
        all = λ x a.
            h.all x (record { transition = a.transition; first = a.first; second = a.second; different = a.different; together = a.together });
        order = h.order;
      }

  k-kept : (q t : ℕ) (e : KEntry) → q < A.transitions → GoodK says A q t e → (rewritten_k M e).k < 2 ^ 32 → GoodK says C q t (rewritten_k M e)
  unfolding rewritten_k
  k-kept q t e l h fits =
      record {
        layer = h.layer;
        transition = h.transition;
        allowed = kept.in_question placed q t e.layer e.transition h.allowed;
        some = mul-pos h.some (divided.some e.transition h.transition);
        fits = fits;
      }

  flow-kept : (R : Pairs) (x : Question) (f : FlowRecord) → x.challenger < A.transitions → GoodFlow says A R x f → FitKs (rewritten_flow M f).ks → GoodFlow says C R x (rewritten_flow M f)
  unfolding rewritten_flow k_key rewritten_k
  flow-kept R x f l h fits =
      let q = x.challenger in
      let t = x.defender in
      record {
        some = h.some;
        fits = h.fits;
        k_few = omega (arith, length-map f.ks (rewritten_k M), h.k_few);
        ks =
            each-mapped (rewritten_k M) _ _ (λ e k. k-kept q t e l k.0 k.1) f.ks
            (each_both _ _ f.ks h.ks (each-unmapped (rewritten_k M) (λ (e : KEntry). e.k < 2 ^ 32) f.ks fits));
        k_order = ascends-mapped k_key (rewritten_k M) (λ e. refl) 0 f.ks h.k_order;
        w_few = h.w_few;
        ws = each_map (GoodW A R) (GoodW C R) (λ e w. record { from = w.from; to = w.to; related = w.related; some = w.some; fits = w.fits }) f.ws h.ws;
        w_order = h.w_order;
        equations = subst (says.equations C q t) (flow-multiplied M f) (kept.equations placed q t (flow_of f) l h.equations);
      }

  flows-kept : (R : Pairs) (xs : List Question) (fs : List FlowRecord) → ((x : Question) → Among x xs → x.challenger < A.transitions) → GoodFlows says A R xs fs → FitFlows M fs → GoodFlows says C R xs (map (rewritten_flow M) fs)
  unfolding Each
  flows-kept R xs fs known GoodFlows.done fit = GoodFlows.done
  flows-kept R xs fs known (GoodFlows.flow {x = x} {f = f} {xs = more} {fs = rest} h hs) fit =
      GoodFlows.flow (flow-kept R x f (known x here) h fit.0) (flows-kept R more rest (λ y among. known y (there among)) hs fit.1)

  -- a certificate keeps every rule once it is rewritten, and its blocks stay
  pub rewritten-keeps : (L : Limits) (K : Certificate) → KeepsRules L says A K → FitFlows M K.flows → KeepsRules L says B (rewritten_certificate M K)
  unfolding rewritten_certificate equal_labels
  rewritten-keeps L K h fit =
      subst (λ (X : Automaton). KeepsRules L says X (rewritten_certificate M K)) divided.others
      (record {
        left = h.left;
        few = h.few;
        refutations = refutations-kept (equal_labels A) h.left K.refutations h.refutations;
        blocks = blocks-kept h.left K.blocks h.blocks;
        asked = h.asked;
        is_asked = asked-kept K.blocks h.asked h.is_asked;
        flows = flows-kept h.left h.asked K.flows (λ x among. (h.is_asked.only x among).transition) h.flows fit;
      })
