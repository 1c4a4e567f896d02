-- The demands follow from what a call answers.
use Rattle.std.specs.Prelude.{ℕ, ◌≤◌, ◌<◌, ◌≡◌, refl, ◌⊎◌, List, [], ◌∷◌, ◌++◌, length, take, drop}
use Rattle.std.proofs.Common.{sym, ◌∙◌, ap, subst}
use Rattle.std.proofs.Math.Logic.{inl, inr, ⊎_elim}
use Rattle.std.proofs.Math.Seq.{take-append_seam}
use native.Mathlib.Omega.{arith}
use Rattle.rules.specs.definitions.Limits.{Terms, Limits}
use Rattle.rules.specs.definitions.Model.{Model, automaton_of}
use Rattle.rules.specs.definitions.Bytes.{two_at}
use Rattle.rules.specs.definitions.Faults.{fault}
use Rattle.rules.specs.definitions.Reading.{ReadNumber}
use Rattle.rules.specs.definitions.Accepted.{Among, here, there}
use Rattle.rules.specs.definitions.JudgedBy.{plain_pairs}
use Rattle.rules.specs.definitions.SoundModel.{Bytes, FitsWidths}
use Rattle.rules.proofs.argument.AnyRule.{CertificateRule, PairRules, RefusalOf, pairs_of}
use Rattle.rules.specs.definitions.Answers.{Outcome, left_in, refusal_in, answer_without_place, unwritten, filled, filled_each, filled_with, Follows, first_lent, writes_blocks, writes_file, JudgeNumber, LateNumber}
use Rattle.rules.specs.definitions.Demand3.{HoldsModel, LargestBlocks}
use Rattle.rules.specs.definitions.Demands.{KeepsRulesOn, LargestOf, outcome_by, Accepting, Demands}
use Rattle.rules.proofs.argument.AnyRule.{AnyCertificateNumber}
use Rattle.rules.proofs.argument.FaultLaws.{told-fault}
use Rattle.rules.proofs.argument.ReadingLaws.{read_low, read_number, read-not-ten}
use Rattle.rules.proofs.argument.AnswerLaws.{files-number, files-told, files-unwritten, file-lacks}
use Rattle.rules.proofs.argument.JudgedFirst.{Found, found-outcome}
use Rattle.rules.proofs.argument.AcceptedExactly.{AcceptedAs, accepted-exactly}
use Rattle.rules.proofs.argument.Demand3Holds.{holds, one-model, holds_read, demand3, largest-of}
use Rattle.rules.proofs.argument.PairOutcome.{FollowsLaws, Followed, outcome-cases, outcome-number, outcome-unwritten, outcome-found, outcome-followed, outcome-other-mark}
use Rattle.rules.proofs.argument.PlainRules.{PlainNumber, ModelNumber, whole_rules, plain_certificates, plain_rules_at, plain_rules}

module _ (by : PairRules) (model certificate blocks : List ℕ) (b : Bytes model) where
  -- the two ways to say that the rules are kept
  pub accepted-of : (M : Model) → KeepsRulesOn (pairs_of by) model certificate M blocks → AcceptedAs by model certificate blocks
  accepted-of M k = record { M = M; file = k.file; kept = k.kept }

  pub kept_of : (M : Model) → HoldsModel by.models.read model M → AcceptedAs by model certificate blocks → KeepsRulesOn (pairs_of by) model certificate M blocks
  kept_of M h a =
      subst (λ (N : Model). KeepsRulesOn (pairs_of by) model certificate N blocks) (one-model by model a.M M (holds by model certificate blocks b a) h)
      (record { file = a.file; kept = a.kept })

  pub holds_of : (M : Model) → KeepsRulesOn (pairs_of by) model certificate M blocks → HoldsModel by.models.read model M
  holds_of M k = record { reads = (by.models.exactly model M b).1 k.file }

module _ (by : PairRules) (follows : Follows) (laws : FollowsLaws by follows) (model certificate : List ℕ) (before after : List (List ℕ)) (number : ℕ) (b : Bytes model) (c : Bytes certificate) (e : number ≡ (outcome_by (pairs_of by) follows model certificate before).answer.number) (left : after ≡ left_in (outcome_by (pairs_of by) follows model certificate before)) where
  told : Accepting follows number → Followed by follows laws model certificate before
  told z = outcome-found by follows laws model certificate before (subst (Accepting follows) e z)

  told-kept : (z : Accepting follows number) → KeepsRulesOn (pairs_of by) model certificate (told z).found.N (told z).found.blocks
  told-kept z =
      let f = (told z).found in
      kept_of by model certificate f.blocks b f.N (holds_read by model b f.reads) ((accepted-exactly by model certificate f.blocks b c).0 (record { answers = f.judged }))

  -- where the rules are kept and there is room, the outcome is what follows
  kept-outcome : (M : Model) (blocks : List ℕ) → KeepsRulesOn (pairs_of by) model certificate M blocks → follows.block_room M ≤ length (first_lent before) → follows.outcome M blocks before ≡ outcome_by (pairs_of by) follows model certificate before
  kept-outcome M blocks k room =
      outcome-followed by follows laws model certificate before blocks (holds_of by model certificate blocks b M k).reads ((accepted-exactly by model certificate blocks b c).1 (accepted-of by model certificate blocks b M k)).answers room

  told-room : Accepting follows number → (M : Model) (blocks : List ℕ) → KeepsRulesOn (pairs_of by) model certificate M blocks → follows.block_room M ≤ length (first_lent before)
  told-room z M blocks k =
      let t = told z in
      let one : t.found.N ≡ M = one-model by model t.found.N M (holds_read by model b t.found.reads) (holds_of by model certificate blocks b M k) in
      subst (λ (N : Model). follows.block_room N ≤ length (first_lent before)) one t.room

  pub demands-hold : (numbers : ℕ → Type 0) → numbers number → Demands (pairs_of by) follows numbers model certificate before after number
  demands-hold numbers known =
      record {
        known = known;
        accepts = (
          λ z. ((told z).found.N, (told z).found.blocks, told-kept z, (told z).room),
          λ x.
              let o = kept-outcome x.0 x.1 x.2 x.3 in
              subst (Accepting follows) (ap (λ (y : Outcome). y.answer.number) o ∙ sym e) (laws.numbered x.0 x.1 before),
        );
        numbered = λ z M blocks k. e ∙ ap (λ (o : Outcome). o.answer.number) (sym (kept-outcome M blocks k (told-room z M blocks k)));
        written = λ z M blocks k. left ∙ ap left_in (sym (kept-outcome M blocks k (told-room z M blocks k)));
        unwritten = λ n. left ∙ outcome-unwritten by follows laws model certificate before (λ z. n (e ∙ z));
        largest = λ M blocks k. largest-of by model certificate blocks b c ((accepted-exactly by model certificate blocks b c).1 (accepted-of by model certificate blocks b M k));
      }

-- demand 3 for relations of any kind, where the rules are kept: that a contract speaks of sets of pairs loses nothing
pub any-largest : (by : PairRules) (model certificate blocks : List ℕ) → Bytes model → Bytes certificate → (M : Model) → KeepsRulesOn (pairs_of by) model certificate M blocks → LargestBlocks by.models.read (by.rule model).theory.met model blocks
any-largest by model certificate blocks b c M k = (demand3 by).largest model certificate blocks b c ((accepted-exactly by model certificate blocks b c).1 (accepted-of by model certificate blocks b M k))

-- demand 3 of the bytes in the block buffer, where the call that judges answers 0: from its contract alone
pub judged-largest : (by : PairRules) (numbers : ℕ → Type 0) (model certificate before after : List ℕ) → Bytes model → Demands (pairs_of by) writes_blocks numbers model certificate (before ∷ []) (after ∷ []) 0 → (M : Model) (blocks : List ℕ) → KeepsRulesOn (pairs_of by) model certificate M blocks → LargestOf (pairs_of by) model (take (length M.labels) after)
unfolding Accepting filled filled_each filled_with automaton_of
judged-largest by numbers model certificate before after b d M blocks k =
    let whole : length blocks ≡ length M.labels = ap length (sym k.kept.named) ∙ k.kept.keeps.blocks.whole in
    subst (LargestOf (pairs_of by) model)
    (sym (ap (λ (l : List (List ℕ)). take (length M.labels) (first_lent l)) (d.written (inl refl) M blocks k) ∙ ap (λ (n : ℕ). take n (blocks ++ drop (length blocks) before)) (sym whole) ∙ take-append_seam blocks _))
    (d.largest M blocks k)

-- the late numbers: none, or one
pub none-late : {k : ℕ} → Among k [] → ⊥
none-late = elim [ ]

pub one-late : {k late : ℕ} → Among k (late ∷ []) → k ≡ late
one-late here = refl
one-late (there h) = absurd (none-late h)

-- what follows acceptance in the calls that judge, whatever by
pub blocks-follow : {by : PairRules} → FollowsLaws by writes_blocks
unfolding filled answer_without_place Accepting
blocks-follow =
    record {
      numbered = λ N blocks before. inl refl;
      told = λ N blocks before. told-fault 0 (omega arith);
      unwritten = λ N blocks before n. absurd (n refl);
      late = λ k h n z. none-late z;
      not_ten = none-late;
    }

-- 10 only for a block buffer shorter than the most states, where no refusal of judging is 10
pub blocks-short : (by : PairRules) → (RefusalOf by 10 → ⊥) → (M C : List ℕ) (before : List (List ℕ)) → Bytes M → (outcome_by (pairs_of by) writes_blocks M C before).answer.number ≡ 10 → length (first_lent before) < by.limits.states
unfolding unwritten refusal_in answer_without_place filled
blocks-short by none M C before b =
    outcome-cases by writes_blocks blocks-follow M C before (λ o. o.answer.number ≡ 10 → length (first_lent before) < by.limits.states)
    (λ f file place h j z. absurd (none (subst (RefusalOf by) z h.number)))
    (λ N end e h z. omega (arith, h, (by.models.sound M N ((by.models.exactly M N b).0 (holds_read by M b e).reads)).states))
    (λ N end blocks e room q z. absurd (omega (arith, z)))

-- document 01's model files within limits, and one step rule that answers document 01's numbers
module _ (L : Limits) (widths : FitsWidths L) (few : L.refutations < 65536) (rule : CertificateRule PlainNumber) where
  abbrev by : PairRules
  by = whole_rules L widths few rule

  -- a refusal of judging: one of reading, or 11 to 22
  pub whole-refusal : (k : ℕ) → RefusalOf (whole_rules L widths few rule) k → ReadNumber L.terms k ⊎ ((11 ≤ k) × (k ≤ 22))
  unfolding RefusalOf AnyCertificateNumber PlainNumber ModelNumber
  whole-refusal k h =
      ⊎_elim (λ x. inl x.1)
      (λ y.
      ⊎_elim
      (λ x. ⊎_elim (λ w. inr (w.0, omega (arith, w))) (λ w. ⊎_elim (λ v. inr (omega (arith, v), omega (arith, v))) (λ v. inr (omega (arith, v), omega (arith, v))) w) x)
      (λ x. ⊎_elim (λ w. inr (omega (arith, w), omega (arith, w))) (λ w. inr (omega (arith, w), omega (arith, w))) x)
      y)
      h

  module _ (M C : List ℕ) (before : List (List ℕ)) where
    -- the call that judges answers a number of reading, or one of 10 to 22
    pub whole-numbered : JudgeNumber L.terms (outcome_by (pairs_of (whole_rules L widths few rule)) writes_blocks M C before).answer.number
    unfolding JudgeNumber
    whole-numbered =
        outcome-number by writes_blocks blocks-follow M C before (λ k. ReadNumber L.terms k ⊎ ((10 ≤ k) × (k ≤ 22))) (inl (read_low L.terms 0 (omega arith))) (λ k z. absurd (none-late z))
        (λ k h. ⊎_elim inl (λ x. inr (omega (arith, x), x.1)) (whole-refusal k h)) (λ N h. inr (omega arith, omega arith))

    -- with 10 only for a block buffer shorter than the most states
    pub whole-short : Bytes M → (outcome_by (pairs_of (whole_rules L widths few rule)) writes_blocks M C before).answer.number ≡ 10 → length (first_lent before) < L.states
    whole-short = blocks-short by (λ h. ⊎_elim (λ x. read-not-ten L.terms x) (λ x. omega (arith, x)) (whole-refusal 10 h)) M C before

-- document 01's own
module _ (L : Limits) (widths : FitsWidths L) (few : L.refutations < 65536) where
  pub plain-refusal : (k : ℕ) → RefusalOf (plain_rules_at L widths few) k → ReadNumber L.terms k ⊎ ((11 ≤ k) × (k ≤ 22))
  plain-refusal = whole-refusal L widths few plain_certificates

  -- none of them is a number of a request's own
  pub plain_other : (late : ℕ) → 22 < late → (late ≡ 34 → ⊥) → (k : ℕ) → RefusalOf (plain_rules_at L widths few) k → k ≡ late → ⊥
  plain_other late above other k h z =
      ⊎_elim (λ x. ⊎_elim (λ w. omega (arith, above, z, w)) (λ w. other (sym z ∙ w)) (read_number L.terms k x)) (λ x. omega (arith, above, z, x)) (plain-refusal k h)

  -- a file is written, with a number above all those where there is no room for it
  pub file-follow : (short : ℕ) (file : Model → List ℕ → List ℕ) → 22 < short → (short ≡ 34 → ⊥) → FollowsLaws (plain_rules_at L widths few) (writes_file short file)
  unfolding Accepting
  file-follow short file above other =
      record {
        numbered = λ N blocks before. files-number short (file N blocks ∷ []) before (λ (k : ℕ). (k ≡ 0) ⊎ Among k (short ∷ [])) (inl refl) (inr here);
        told = λ N blocks before. files-told short (file N blocks ∷ []) before (omega arith);
        unwritten = λ N blocks before. files-unwritten short (file N blocks ∷ []) before;
        late = λ k h n z. plain_other short above other k h (one-late z);
        not_ten = λ z. omega (arith, above, one-late z);
      }

-- the answer to a certificate with another mark than the rule's, for every sound model
pub another-mark : (by : PairRules) (s C : List ℕ) (M : Model) → Bytes s → by.models.is_file s M → 2 ≤ length C → (two_at C 0 ≡ (by.rule s).file.mark → ⊥) → (follows : Follows) (before : List (List ℕ)) → follows.block_room M ≤ length (first_lent before) → outcome_by (pairs_of by) follows s C before ≡ unwritten (refusal_in (fault 12) 2 0 (length C)) before
another-mark by s C M b f two other follows before room =
    sym (outcome-other-mark by.limits by.models.read (by.rule s).file follows s C before ((by.models.exactly s M b).1 f) room two other)

-- so to one with this mark, whatever follows acceptance: 12 at 0
abbrev pub MarkRefused : PairRules → (mark : ℕ) → Type 0
MarkRefused by mark =
    (s C : List ℕ) (M : Model) → Bytes s → by.models.is_file s M → 2 ≤ length C → two_at C 0 ≡ mark → (follows : Follows) (before : List (List ℕ)) → follows.block_room M ≤ length (first_lent before)
    → outcome_by (pairs_of by) follows s C before ≡ unwritten (refusal_in (fault 12) 2 0 (length C)) before

pub mark-refused : (by : PairRules) (mark : ℕ) → ((s : List ℕ) → mark ≡ (by.rule s).file.mark → ⊥) → MarkRefused by mark
mark-refused by mark other s C M b f two e = another-mark by s C M b f two (λ z. other s (sym e ∙ z))

-- the number for a short buffer only where it is shorter than the longest file of an accepted pair
pub file-late : (by : PairRules) (short : ℕ) (file : Model → List ℕ → List ℕ) → FollowsLaws by (writes_file short file) → (short ≡ 0 → ⊥) → (M C buffer : List ℕ) (most : ℕ) → ((a : Found by M C) → length (file a.N a.blocks) ≤ most) → (outcome_by (pairs_of by) (writes_file short file) M C (buffer ∷ [])).answer.number ≡ short → length buffer < most
unfolding Accepting
file-late by short file laws some M C buffer most longest z =
    let f = (outcome-found by (writes_file short file) laws M C (buffer ∷ []) (inr (subst (λ (k : ℕ). Among k (short ∷ [])) (sym z) here))).found in
    let o = found-outcome by M C (writes_file short file) (buffer ∷ []) (λ N end e. omega arith) f in
    omega (arith, file-lacks short (file f.N f.blocks) buffer some (ap (λ (x : Outcome). x.answer.number) o ∙ z), longest f)

module _ (M C : List ℕ) (before : List (List ℕ)) where
  abbrev terms : Terms
  terms = plain_pairs.limits.terms

  today : (k : ℕ) → RefusalOf plain_rules k → ReadNumber terms k ⊎ ((11 ≤ k) × (k ≤ 22))
  today = plain-refusal plain_rules.limits plain_rules.widths plain_rules.refutations

  -- the call that judges answers a number of reading, or one of 10 to 22
  pub judge-numbered : JudgeNumber terms (outcome_by plain_pairs writes_blocks M C before).answer.number
  judge-numbered = whole-numbered plain_rules.limits plain_rules.widths plain_rules.refutations plain_certificates M C before

  -- with 10 only for a block buffer of less than 128 bytes
  pub blocks-short-today : Bytes M → (outcome_by plain_pairs writes_blocks M C before).answer.number ≡ 10 → length (first_lent before) < 128
  blocks-short-today = whole-short plain_rules.limits plain_rules.widths plain_rules.refutations plain_certificates M C before

  -- a call of document 02 that lends no block buffer: one of reading, of 11 to 22, and its own
  pub late-numbered : (follows : Follows) → FollowsLaws plain_rules follows → ((N : Model) → follows.block_room N ≡ 0) → LateNumber terms follows.late (outcome_by plain_pairs follows M C before).answer.number
  unfolding LateNumber
  late-numbered follows laws none =
      outcome-number plain_rules follows laws M C before (λ k. ReadNumber terms k ⊎ (((11 ≤ k) × (k ≤ 22)) ⊎ Among k follows.late)) (inl (read_low terms 0 (omega arith))) (λ k z. inr (inr z))
      (λ k h. ⊎_elim inl (λ x. inr (inl x)) (today k h)) (λ N h. absurd (omega (arith, h, none N)))
