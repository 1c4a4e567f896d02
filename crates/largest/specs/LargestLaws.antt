-- The files of the pair, from what is appended, and what the call answers.
use Rattle.std.specs.Prelude.{ℕ, suc, ◌+◌, ◌*◌, ◌-◌, ◌≤◌, ◌<◌, ◌≡◌, refl, true, List, [], ◌∷◌, ◌++◌, length, replicate}
use Rattle.std.proofs.Common.{sym, ◌∙◌, ap, ap₂, subst, mul-le-mul}
use native.Mathlib.Omega.{arith}
use Rattle.rules.specs.definitions.Limits.{current}
use Rattle.rules.specs.definitions.Bytes.{two_bytes}
use Rattle.rules.specs.definitions.Model.{transitions_bytes, head_bytes, labels_bytes, model_bytes}
use Rattle.rules.specs.definitions.Encoding.{list_bytes, blocks_bytes, flow_bytes, certificate_bytes}
use Rattle.rules.specs.definitions.Answers as rules
use Rattle.rules.specs.definitions.Answers.{second_written, answer_without_place, unwritten}
use Rattle.rules.proofs.argument.AnswerLaws.{none-second, first_short, second_short, both-fit}
use Rattle.largest_pair.specs.definitions.LargestPair.{zeros, self_loop, largest_model, stays, flows_against, largest_certificate, largest_model_file, largest_certificate_file}
use Rattle.largest_pair.specs.definitions.FewFlows.{most_flows}
use Rattle.largest_pair.specs.definitions.LargestAnswer.{outside_limits, largest_outcome, WithinLimits}
use Rattle.largest_pair.proofs.argument.LargestLaws.{list-append, bytes-replicate, flow-length, largest-states, largest-transitions, model-length, certificate-length}
use Rattle.largest_pair.proofs.argument.LargestAnswerLaws.{largest-outside, largest-inside, largest-demands}
use Rattle.writer.specs.Appends.{Appends, head_bytes_of}
use Rattle.writer.specs.AppendsLaws.{Ahead, ahead-start, ahead-turn, ahead-end, append-more, appended-as, file-filled}
use Rattle.answer.specs.declared.Answer.{Answer}
use Rattle.answer.specs.declared.PairAnswer.{PairAnswer}
use Rattle.answer.specs.Answered.{Says, OutcomeIs}
use Rattle.answer.specs.AnsweredLaws.{without-as, gives-unwritten, without-stretch}
use Rattle.answer.specs.TwoBuffers.{Unwritten, gives_both, second-both}
use Rattle.largest.specs.Largest.{LargestAnswered}
use Rattle.largest.specs.Repeated.{repeated, loops-repeated, list-repeated}

-- the model's file
pub model-written : (n count : ℕ) {at middle next : ℕ} {a b c d : List ℕ} → Appends (head_bytes_of n 1 count) 0 a b at → Appends (zeros n) at b c middle → Appends (repeated (0x54 ∷ 0x52 ∷ 0 ∷ 0 ∷ 0 ∷ 1 ∷ 1 ∷ 0 ∷ 0 ∷ 1 ∷ []) count) middle c d next → Appends (largest_model_file n count) 0 a d next
unfolding model_bytes head_bytes labels_bytes largest_model two_bytes
model-written n count h l r =
    appended-as
    (ap₂ (λ (x y : ℕ). head_bytes_of x 1 y ++ (zeros n ++ transitions_bytes (replicate count self_loop))) (largest-states n count) (largest-transitions n count))
    (append-more h (append-more l (appended-as (loops-repeated count) r)))

-- the flows against the states from t on
abbrev flows_left : (count left t : ℕ) → List ℕ
flows_left count left t = list_bytes flow_bytes (flows_against count left t)

-- before each state
pub record Against (n count at : ℕ) (before : List ℕ) (t : ℕ) (out : List ℕ) (next : ℕ) : Type 0 where
  pub state : t ≤ n
  pub room : next + 16 * (count * (n - t)) ≤ length out
  pub ahead : Ahead (flows_left count (n - 1) 1) at before (flows_left count (n - t) t) next out

pub against-start : {n count at : ℕ} {out : List ℕ} → 1 ≤ n → at + 16 * most_flows n count ≤ length out → Against n count at out 1 out at
against-start some h = record { state = some; room = h; ahead = ahead-start (omega arith) }

module _ {n count at : ℕ} {before : List ℕ} {t : ℕ} {out : List ℕ} {next : ℕ} (h : Against n count at before t out next) where
  less-left : t < n → n - t ≡ suc (n - (t + 1))
  less-left l = omega arith

  pub against-room : {flow : List ℕ} → t < n → flow ≡ flow_bytes (stays t) → next + length flow * count ≤ length out
  against-room l e =
      omega (arith, h.room, ap (λ (k : ℕ). count * k) (less-left l), ap (λ (k : ℕ). k * count) (ap length e ∙ flow-length t))

  one_state : (left : ℕ) → flows_left count (suc left) t ≡ list_bytes flow_bytes (replicate count (stays t)) ++ flows_left count left (t + 1)
  unfolding flows_against
  one_state left = list-append flow_bytes (replicate count (stays t)) (flows_against count left (t + 1))

  pub against-turn : {flow more : List ℕ} {past : ℕ} → t < n → flow ≡ flow_bytes (stays t) → Appends (repeated flow count) next out more past → Against n count at before (t + 1) more past
  against-turn l e w =
      let a = appended-as (list-repeated flow_bytes (stays t) count ∙ ap (λ (bytes : List ℕ). repeated bytes count) (sym e)) w in
      record {
        state = omega arith;
        room = omega (arith, h.room, ap (λ (k : ℕ). count * k) (less-left l), a.place, a.size, bytes-replicate (stays t) flow_bytes count, ap (λ (k : ℕ). count * k) (flow-length t));
        ahead = ahead-turn h.ahead (ap (λ (k : ℕ). flows_left count k t) (less-left l) ∙ one_state (n - (t + 1))) a;
      }

  pub against-end : n ≤ t → Appends (flows_left count (n - 1) 1) at before out next
  unfolding flows_against list_bytes
  against-end l = let e : n - t ≡ 0 = omega arith in ahead-end h.ahead (ap (λ (k : ℕ). flows_left count k t) e)

-- the certificate's file
pub certificate-written : (n count : ℕ) {at flows next : ℕ} {a b c d : List ℕ} → Appends (0x43 ∷ 0x54 ∷ 0 ∷ 0 ∷ 0x42 ∷ 0x4B ∷ []) 0 a b at → Appends (zeros n) at b c flows → Appends (flows_left count (n - 1) 1) flows c d next → Appends (largest_certificate_file n count) 0 a d next
unfolding certificate_bytes largest_certificate list_bytes blocks_bytes two_bytes
certificate-written n count p q r = append-more p (append-more q r)

-- so many flows fit a word
pub flows-fit : {n count : ℕ} → WithinLimits current n count → most_flows n count ≤ most_flows current.states current.transitions
flows-fit {n} w = mul-le-mul {n₂ = current.transitions} {m₂ = current.states - 1} w.transitions (omega (arith, w.states))

-- what the call answers, of n and so many transitions and with these buffers
module _ (n count : ℕ) (one two : List ℕ) where
  abbrev answer_of : rules.Outcome
  answer_of = largest_outcome current n count one two

  with-demands : {one_after two_after : List ℕ} {r : PairAnswer} → OutcomeIs answer_of [] (one_after ∷ two_after ∷ []) r.answer → r.certificate_written ≡ second_written answer_of → LargestAnswered n count one two one_after two_after r
  with-demands {one_after} {two_after} {r} o e =
      record {
        answers = record { outcome = o; demands = largest-demands n count one two one_after two_after r.answer.number (ap (λ (x : rules.Answer). x.number) o.gives.answer) o.gives.buffers };
        second = e;
      }

  -- nothing is written
  refused : (number : ℕ) {a : Answer} {r : PairAnswer} → unwritten (answer_without_place number) (one ∷ two ∷ []) ≡ answer_of → Says (answer_without_place number) 0 a → Unwritten a r → LargestAnswered n count one two one two r
  refused number {r = r} e s u =
      with-demands
      (subst (OutcomeIs answer_of [] (one ∷ two ∷ [])) (sym u.0) (without-stretch number s.answer (gives-unwritten (one ∷ two ∷ []) _ s e)))
      (u.1 ∙ sym (ap second_written (sym e) ∙ none-second _ (one ∷ two ∷ [])))

  -- 40
  pub outside-refused : {a : Answer} {r : PairAnswer} → true ≡ outside_limits current n count → Says (answer_without_place 40) 0 a → Unwritten a r → LargestAnswered n count one two one two r
  outside-refused e s u = refused 40 (largest-outside n count one two (sym e)) s u

  module _ (w : WithinLimits current n count) where
    -- 41
    pub model-short : {a : Answer} {r : PairAnswer} → length one < 8 + n + 10 * count → Says (answer_without_place 41) 0 a → Unwritten a r → LargestAnswered n count one two one two r
    model-short h s u = refused 41 (first_short 41 _ _ one two (omega (arith, h, model-length n count)) ∙ largest-inside n count one two w) s u

    pub certificate-short : {a : Answer} {r : PairAnswer} → 8 + n + 10 * count ≤ length one → length two < 6 + n + 16 * most_flows n count → Says (answer_without_place 41) 0 a → Unwritten a r → LargestAnswered n count one two one two r
    certificate-short g h s u =
        refused 41 (second_short 41 _ _ one two (omega (arith, g, model-length n count)) (omega (arith, h, certificate-length n count)) ∙ largest-inside n count one two w) s u

    -- both files
    pub pair-written : {one_after two_after : List ℕ} {size long : ℕ} {r : PairAnswer} → Appends (largest_model_file n count) 0 one one_after size → Appends (largest_certificate_file n count) 0 two two_after long → Says (answer_without_place 0) (8 + n + 10 * count) r.answer → r.certificate_written ≡ 6 + n + 16 * most_flows n count → LargestAnswered n count one two one_after two_after r
    pair-written p q s e =
        let f = file-filled p in
        let g = file-filled q in
        let Filled-is =
        both-fit 41 (largest_model_file n count) (largest_certificate_file n count) one two (omega (arith, f.0, p.room)) (omega (arith, g.0, q.room)) ∙ largest-inside n count one two w in
        with-demands
        (without-stretch 0 s.answer (gives_both _ _ one two Filled-is (without-as 0 _ s refl (sym (model-length n count))) f.1 g.1))
        (e ∙ sym (certificate-length n count) ∙ second-both _ _ one two Filled-is)
