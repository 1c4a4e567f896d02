-- Document 02, K13: 'For n states and T transitions no accepted certificate without costs has more than T times (n-1) flow records.'
use Rattle.std.specs.Prelude.{ℕ, ◌*◌, ◌-◌, ◌≤◌, List, length}
use Rattle.rules.specs.definitions.Model.{Model}
use Rattle.rules.specs.definitions.SoundModel.{Bytes}
use Rattle.rules.specs.definitions.JudgedBy.{JudgedBy, AcceptedBy}
use Rattle.rules.specs.definitions.Demands.{KeepsRulesOn}

-- 'T times (n-1)'
abbrev pub most_flows : (n T : ℕ) → ℕ
most_flows n T = T * (n - 1)

-- how many flow records the certificate has that keeps every rule
abbrev pub flow_records : {by : JudgedBy} {model certificate blocks : List ℕ} {M : Model} → KeepsRulesOn by model certificate M blocks → ℕ
flow_records k = length k.kept.certificate.flows

-- the theorem of files, whatever pairs are judged by: an accepted certificate's file is that of a certificate which keeps every rule on the model in the
-- other, and no such certificate has more flow records
pub record FewFlows (by : JudgedBy) : Type 0 where
  pub keeps : (model certificate blocks : List ℕ) → Bytes model → Bytes certificate → AcceptedBy by model certificate blocks → (M : Model) × KeepsRulesOn by model certificate M blocks
  pub few : (model certificate blocks : List ℕ) (M : Model) (k : KeepsRulesOn by model certificate M blocks) → flow_records k ≤ most_flows (length M.labels) (length M.transitions)
