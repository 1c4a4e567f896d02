-- What the calls that rewrite a stored pair promise, in the definitions of document 02, K10.
use Rattle.std.specs.Prelude.{ℕ, ◌+◌, ◌≡◌, false, List, [], ◌∷◌}
use Rattle.rules.specs.definitions.Limits.{limits}
use Rattle.rules.specs.definitions.Model.{model_bytes}
use Rattle.rules.specs.definitions.SoundModel.{Bytes}
use Rattle.rules.specs.definitions.Answers.{Follows}
use Rattle.rules.specs.definitions.Demands.{PairDemands, outcome_by, Demands}
use Rattle.rewriting.specs.definitions.RewriteAnswer.{rewrites, rewrites_plain, rewrites_costs, RewriteNumber, PlainRewriteDemands, CostRewriteDemands}
use Rattle.strong_files.specs.definitions.StrongFile.{strong_file}
use Rattle.strong_files.specs.definitions.StrongPairs.{strong_pairs_at}
use Rattle.limits.specs.declared.Terms.TheVariants.{Any}
use Rattle.rule_kind.specs.Kinds.{is_strong, pairs_by}
use Rattle.rule_kind.specs.declared.Kind.{Kind}
use Rattle.rule_kind.specs.declared.Kind.TheVariants.{Plain, Costs, Strong}
use Rattle.answer.specs.declared.PairAnswer.{PairAnswer}
use Rattle.answer.specs.Answered.{BothAnswered}
use Rattle.judgement.specs.Verdicts.{AcceptedAt}

-- what follows acceptance, by the kind of the pair; no call rewrites strong pairs
abbrev pub rewrites_by : Kind → (model certificate : List ℕ) → Follows
rewrites_by Plain model certificate = rewrites_plain certificate
rewrites_by Costs model certificate = rewrites_costs model certificate
rewrites_by Strong model certificate = rewrites model_bytes strong_file certificate

-- their demands
abbrev pub rewrite_demands : Kind → PairDemands
rewrite_demands Plain = PlainRewriteDemands
rewrite_demands Costs = CostRewriteDemands
rewrite_demands Strong = λ model certificate. Demands (strong_pairs_at limits) (rewrites_by Strong model certificate) RewriteNumber model certificate

-- a pair judged by its step rule in whatever terms, and both files written into the lent buffers
abbrev pub RewriteAnswered : Kind → (model certificate model_before certificate_before model_after certificate_after : List ℕ) → PairAnswer → Type 0
RewriteAnswered kind model certificate model_before certificate_before model_after certificate_after r =
    let before = model_before ∷ certificate_before ∷ [] in
    let after = model_after ∷ certificate_after ∷ [] in
    BothAnswered (outcome_by (pairs_by kind Any) (rewrites_by kind model certificate) model certificate before) (model ∷ certificate ∷ []) after (rewrite_demands kind model certificate before after) r

-- an accepted pair of files, whose flows begin behind the blocks
pub record CanRewrite (kind : Kind) (model : List ℕ) (n count : ℕ) (certificate : List ℕ) (flows : ℕ) : Type 0 where
  pub weak : is_strong kind ≡ false
  pub is_model : Bytes model
  pub is_certificate : Bytes certificate
  pub blocks : ℕ
  pub accepted : AcceptedAt kind Any model certificate limits.states n count blocks
  pub place : flows ≡ blocks + n
