-- Laws for who rewrites an accepted certificate: its flows stand to the end of the file, and the file that is written is the rewritten certificate's.
use Rattle.std.specs.Prelude.{ℕ, ◌<◌, ◌≡◌, refl, drop}
use Rattle.std.proofs.Math.Path.{sym, ap, ap₂}
use Rattle.std.proofs.Common.{◌∙◌, subst, arith}
use mathlib.Core.List.{List, [], ◌∷◌, ◌++◌, map, append_assoc}
use Rattle.std.proofs.Math.ListN.{length, length-append, take}
use Rattle.std.proofs.Math.Seq.{take-append_seam}
use Rattle.bisimulation.specs.definitions.Automaton.{Automaton}
use Rattle.bisimulation.specs.definitions.Pairs.{Pairs}
use Rattle.rules.specs.definitions.Limits.{Limits}
use Rattle.rules.specs.definitions.Bytes.{two_bytes}
use Rattle.rules.specs.definitions.Reading.{model_at}
use Rattle.rules.specs.definitions.SoundModel.{Each}
use Rattle.rules.specs.definitions.Faults.{fault}
use Rattle.rules.specs.definitions.Certificate.{FileRule}
use Rattle.rules.specs.definitions.Judging.{Question, questions}
use Rattle.rules.specs.definitions.Encoding.{KEntry, FlowRecord, Certificate, list_bytes, refutation_bytes, blocks_bytes, flow_bytes, certificate_bytes}
use Rattle.rules.specs.definitions.CertificateAt.{flows_place, flows_from, certificate_at}
use Rattle.rules.specs.definitions.Answers.{Outcome, refusal_in, unwritten}
use Rattle.rules.specs.definitions.Accepted.{RuleSays, GoodK, GoodFlows}
use Rattle.rules.proofs.argument.AnyRule.{Decides, Narrow}
use Rattle.rules.proofs.argument.SoundModelLaws.{each_map}
use Rattle.rules.proofs.argument.Standing.{Stands, stands-all, stands-second, stands_at}
use Rattle.rules.proofs.argument.CertificateStands.{FlowsFill}
use Rattle.rules.proofs.argument.CertificateKept.{CertificateStands}
use Rattle.rewriting.specs.definitions.Rewritten.{rewritten_flow, rewritten_certificate}
use Rattle.rewriting.specs.definitions.RewriteAnswer.{refuse_large}
use Rattle.divisors.specs.Table.{HoldsDivisors}
use Rattle.rewritten_flows.specs.Flows.{multiplied_flow, Listed, FlowsLeft, FlowsStand, TableOf, LargeAt, NoneLarge, FlowsFit, flows_file, FlowsWritten}
use Rattle.rewritten_flows.specs.FlowLoops.{flow-rewritten}

-- what stands before the flows of a certificate
abbrev front_of : (mark : ℕ) → Certificate → List ℕ
front_of mark K = two_bytes mark ++ (two_bytes (length K.refutations) ++ (list_bytes refutation_bytes K.refutations ++ blocks_bytes K.blocks))

front-flows : (mark : ℕ) (K : Certificate) → certificate_bytes mark K ≡ front_of mark K ++ list_bytes flow_bytes K.flows
unfolding certificate_bytes
front-flows mark K =
    let count = two_bytes (length K.refutations) in
    let xs = list_bytes refutation_bytes K.refutations in
    let blocks = blocks_bytes K.blocks in
    let flows = list_bytes flow_bytes K.flows in
    sym
    (append_assoc (two_bytes mark) (count ++ (xs ++ blocks)) flows
    ∙ ap (λ (l : List ℕ). two_bytes mark ++ l) (append_assoc count (xs ++ blocks) flows ∙ ap (λ (l : List ℕ). count ++ l) (append_assoc xs blocks flows)))

-- the transitions that good flows name
flows-named : {says : RuleSays} {A : Automaton} {R : Pairs} {xs : List Question} {fs : List FlowRecord} → GoodFlows says A R xs fs → Each (λ (f : FlowRecord). Each (λ (e : KEntry). e.transition < A.transitions) f.ks) fs
unfolding Each
flows-named GoodFlows.done = tt
flows-named {says} {A} (GoodFlows.flow {x = x} {f = f} g gs) =
    (each_map (GoodK says A x.challenger x.defender) (λ (e : KEntry). e.transition < A.transitions) (λ e k. k.transition) f.ks g.ks, flows-named gs)

-- flows that name transitions of the table alone
flows-rewritten : (s table : List ℕ) {count : ℕ} → HoldsDivisors s count table → (fs : List FlowRecord) → Each (λ (f : FlowRecord). Each (λ (e : KEntry). e.transition < count) f.ks) fs → map (multiplied_flow table) fs ≡ map (rewritten_flow (model_at s)) fs
unfolding Each
flows-rewritten s table d [] named = refl
flows-rewritten s table d (f ∷ fs) named = ap₂ ◌∷◌ (flow-rewritten (model_at s) table d.held f named.0) (flows-rewritten s table d fs named.1)

-- an accepted file with the table of its model's divisors
module _ {L : Limits} {rule : FileRule} {says : RuleSays} {decides : Decides rule says} {A : Automaton} {narrow : Narrow A} {C blocks : List ℕ} (c : CertificateStands L rule says decides A narrow C blocks)
    {s table : List ℕ} {count : ℕ} (d : HoldsDivisors s count table) (counted : A.transitions ≡ count) where
  abbrev many : ℕ
  many = length (questions A blocks)

  abbrev start : ℕ
  start = flows_place rule A C

  flows-are : (certificate_at rule A C).flows ≡ flows_from C many start
  unfolding certificate_at
  flows-are = ap (λ (bs : List ℕ). flows_from C (length (questions A bs)) start) c.named

  named-flows : Each (λ (f : FlowRecord). Each (λ (e : KEntry). e.transition < count) f.ks) (flows_from C many start)
  named-flows =
      subst (λ (n : ℕ). Each (λ (f : FlowRecord). Each (λ (e : KEntry). e.transition < n) f.ks) (flows_from C many start)) counted
      (subst (λ (fs : List FlowRecord). Each (λ (f : FlowRecord). Each (λ (e : KEntry). e.transition < A.transitions) f.ks) fs) flows-are (flows-named c.keeps.flows))

  split : C ≡ front_of rule.mark (certificate_at rule A C) ++ list_bytes flow_bytes (flows_from C many start)
  split = c.encoded ∙ front-flows rule.mark (certificate_at rule A C) ∙ ap (λ (fs : List FlowRecord). front_of rule.mark (certificate_at rule A C) ++ list_bytes flow_bytes fs) flows-are

  front_length : length (front_of rule.mark (certificate_at rule A C)) ≡ start
  unfolding FlowsFill
  front_length =
      let front = front_of rule.mark (certificate_at rule A C) in
      let flows = list_bytes flow_bytes (flows_from C many start) in
      omega (arith, ap length split, length-append front flows, c.last)

  -- its flows stand to the end, and name transitions of the table
  pub accepted-left : FlowsLeft C many start
  accepted-left =
      let front = front_of rule.mark (certificate_at rule A C) in
      let flows = list_bytes flow_bytes (flows_from C many start) in
      record {
        fill = c.last;
        stand = stands_at (stands-second C 0 front flows (subst (Stands C 0) split (stands-all C))) (omega (arith, front_length));
        listed = each_map _ (λ (f : FlowRecord). Listed f.ks) (λ f named. each_map _ _ (λ e h. omega (arith, h, d.few)) f.ks named) (flows_from C many start) named-flows;
      }

  pub accepted-flows : FlowsStand C table start
  accepted-flows = record { divisors = record { size = d.size; small = d.small }; left = many; flows = accepted-left }

  pub accepted-table : TableOf (model_at s) C table many start
  accepted-table = record { count = count; held = d.held; named = named-flows }

  -- where no flow has a k too large, each k fits once it is multiplied
  pub accepted-fit : NoneLarge table C start → FlowsFit C table start
  unfolding accepted-flows
  accepted-fit f = record { stand = accepted-flows; fit = f.fit many accepted-left }

  -- the file with its flows multiplied is the file of the rewritten certificate
  pub accepted-file : flows_file table C many start ≡ certificate_bytes rule.mark (rewritten_certificate (model_at s) (certificate_at rule A C))
  unfolding rewritten_certificate
  accepted-file =
      let K = certificate_at rule A C in
      let front = front_of rule.mark K in
      ap₂ (λ (l r : List ℕ). l ++ r)
      (ap₂ (λ (n : ℕ) (l : List ℕ). take n l) (sym front_length) split ∙ take-append_seam front (list_bytes flow_bytes (flows_from C many start)))
      (ap (list_bytes flow_bytes) (flows-rewritten s table d (flows_from C many start) named-flows ∙ ap (map (rewritten_flow (model_at s))) (sym flows-are)))
      ∙ sym (front-flows rule.mark (rewritten_certificate (model_at s) K))

  -- what is answered, by the first flow that has such a k
  module _ (before : List (List ℕ)) (next : Outcome) where
    pub accepted-refused : {r : ℕ} → LargeAt table C start r → refuse_large (model_at s) C before many start next ≡ unwritten (refusal_in (fault 35) 2 r (length C)) before
    accepted-refused f = f.large many accepted-left (model_at s) accepted-table before next

    pub accepted-passed : NoneLarge table C start → refuse_large (model_at s) C before many start next ≡ next
    accepted-passed f = f.none many accepted-left (model_at s) accepted-table before next

  -- and what is written
  pub accepted-written : {before after : List ℕ} → FlowsWritten table C start before after → after ≡ certificate_bytes rule.mark (rewritten_certificate (model_at s) (certificate_at rule A C)) ++ drop (length C) before
  accepted-written {before} w = w.file many accepted-left ∙ ap (λ (l : List ℕ). l ++ drop (length C) before) accepted-file
