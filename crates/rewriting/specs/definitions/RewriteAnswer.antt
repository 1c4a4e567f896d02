-- Document 02, K10: what the calls that rewrite a stored pair answer, and what they keep. 'Stored pairs, costs or none, a call for each kind, are first
-- judged, and refused, by the rules that stand now without 34, where demands 2 and 3 hold as well; an accepted one, once rewritten, is accepted with the
-- same blocks.'
use Rattle.std.specs.Prelude.{ℕ, zero, suc, ◌≡◌, ◌⊎◌, Bool, true, false, List, [], ◌∷◌, length, take, get_or}
use Rattle.bisimulation.specs.definitions.Choice.{if_less, if_true}
use Rattle.rules.specs.definitions.Limits.{any_terms, limits}
use Rattle.rules.specs.definitions.Model.{Model, model_bytes, automaton_of}
use Rattle.rules.specs.definitions.Faults.{fault}
use Rattle.rules.specs.definitions.Certificate.{FileRule, after_flow}
use Rattle.rules.specs.definitions.PlainRule.{plain_rule}
use Rattle.rules.specs.definitions.Judging.{questions}
use Rattle.rules.specs.definitions.Encoding.{KEntry, certificate_bytes}
use Rattle.rules.specs.definitions.CertificateAt.{flow_record_at, flows_place, certificate_at}
use Rattle.rules.specs.definitions.Answers.{Outcome, refusal_in, unwritten, files_outcome, Follows, LateNumber}
use Rattle.rules.specs.definitions.JudgedBy.{JudgedBy, plain_pairs, stored_pairs, AcceptedBy}
use Rattle.rules.specs.definitions.Demands.{PairDemands, KeepsRulesOn, Demands}
use Rattle.cost_files.specs.definitions.CostModel.{cost_model_bytes, costs_in}
use Rattle.cost_files.specs.definitions.CostFile.{cost_file}
use Rattle.cost_files.specs.definitions.CostPairs.{cost_pairs, stored_costs}
use Rattle.cost_files.specs.definitions.CostAnswer.{CostDemands}
use Rattle.rewriting.specs.definitions.Rewritten.{rewritten_model, rewritten_flow, rewritten_certificate}

-- the highest k that fits its four bytes
abbrev pub highest_k : ℕ
highest_k = 4_294_967_295

-- 'a k above 4,294,967,295'
unfoldable pub passes_k : List KEntry → Bool
passes_k [] = false
passes_k (e ∷ es) = if_less highest_k e.k true (passes_k es)

-- '35, .., at its record': the first of the flows left, from a place on, that has such a k once it is rewritten; its place is that in the stored file
unfoldable pub refuse_large : Model → (C : List ℕ) → (before : List (List ℕ)) → (left at : ℕ) → Outcome → Outcome
refuse_large N C before zero at next = next
refuse_large N C before (suc left) at next =
    if_true (passes_k (rewritten_flow N (flow_record_at C at)).ks) (unwritten (refusal_in (fault 35) 2 at (length C)) before)
    (refuse_large N C before left (after_flow C at) next)

-- what follows acceptance: 35; '36, either buffer shorter than its rewritten file, last'; else both files are written. The file of a model is written
-- as its kind asks
abbrev pub rewrites : (file_of : Model → List ℕ) → FileRule → (C : List ℕ) → Follows
rewrites file_of rule C =
    record {
      block_room = λ N. 0;
      outcome = λ N blocks before.
          refuse_large N C before (length (questions (automaton_of N) blocks)) (flows_place rule (automaton_of N) C)
          (files_outcome 36 (file_of (rewritten_model N) ∷ certificate_bytes rule.mark (rewritten_certificate N (certificate_at rule (automaton_of N) C)) ∷ []) before);
      late = 35 ∷ 36 ∷ [];
    }

-- the call for pairs without costs
abbrev pub rewrites_plain : (C : List ℕ) → Follows
rewrites_plain C = rewrites model_bytes plain_rule C

-- and the one for pairs with costs, which stay
abbrev pub rewrites_costs : (M C : List ℕ) → Follows
rewrites_costs M C = rewrites (λ N. cost_model_bytes N (costs_in M)) (cost_file (costs_in M)) C

-- their numbers: those of the rules without 34, 35 and 36; no 10, since no block buffer is lent
abbrev pub RewriteNumber : ℕ → Type 0
RewriteNumber = LateNumber any_terms (35 ∷ 36 ∷ [])

unfoldable pub RewriteCostsNumber : ℕ → Type 0
RewriteCostsNumber k = RewriteNumber k ⊎ ((k ≡ 29) ⊎ (k ≡ 30))

-- what a call that rewrites keeps when it answers this number, by the demands of judging stored pairs, by the rules of these and by those of pairs in
-- lowest terms
pub record RewriteDemands (judging : PairDemands) (stored now : JudgedBy) (model certificate : List ℕ) (before after : List (List ℕ)) (number : ℕ) : Type 0 where
  -- 'first judged, and refused, by the rules that stand now without 34, where demands 2 and 3 hold as well'
  pub judged : judging model certificate before after number
  -- 'an accepted one, once rewritten, is accepted with the same blocks': the bytes that were written, which are as many as were given
  pub accepted : number ≡ 0 → (M : Model) (blocks : List ℕ) → KeepsRulesOn stored model certificate M blocks → AcceptedBy now (take (length model) (get_or after 0 [])) (take (length certificate) (get_or after 1 [])) blocks
  -- they hold the same automaton
  pub holds : number ≡ 0 → (M : Model) → stored.is_file model M → now.is_file (take (length model) (get_or after 0 [])) (rewritten_model M) × stored.one_automaton model (take (length model) (get_or after 0 [])) M (rewritten_model M)

-- the call for pairs without costs
abbrev pub PlainRewriteDemands : PairDemands
PlainRewriteDemands model certificate = RewriteDemands (Demands stored_pairs (rewrites_plain certificate) RewriteNumber) stored_pairs plain_pairs model certificate

-- and for pairs with costs
abbrev pub CostRewriteDemands : PairDemands
CostRewriteDemands model certificate = RewriteDemands (CostDemands limits (rewrites_costs model certificate) RewriteCostsNumber) stored_costs cost_pairs model certificate
