-- Reading a cost model agrees with its file: the file is read back, and what is read is the file of a sound model with right costs.
use Prim.Native.Nat.{ℕ, zero, suc, ◌+◌, ◌≤◌, ◌<◌}
use Rattle.std.proofs.Math.Path.{◌≡◌, refl, sym, ap, subst}
use Rattle.std.proofs.Common.{◌∙◌, ⊎_elim, take-append-drop, get_or-take}
use Rattle.std.specs.Prelude.{◌⊎◌}
use Rattle.std.proofs.Math.Logic.{inl, inr}
use mathlib.Core.List.{List, [], ◌∷◌, ◌++◌, append-nil}
use Rattle.std.proofs.Math.ListN.{length, take, drop, length-append, length-drop}
use Rattle.std.proofs.Math.Seq.{get_or-drop, take_all, take-append_seam, length-take-le}
use native.Mathlib.Omega.{arith}
use Rattle.bisimulation.proofs.argument.ChoiceLaws.{less, not_less, either_less}
use Rattle.rules.specs.definitions.Limits.{Terms, Limits, longest_model}
use Rattle.rules.specs.definitions.Bytes.{byte_at, two_at, two_bytes}
use Rattle.rules.proofs.argument.BytesLaws.{past, past_all, first_byte, first_two, byte-then, two_then}
use Rattle.rules.specs.definitions.Model.{Model, model_bytes}
use Rattle.rules.specs.definitions.SoundModel.{Each, Bytes, FitsWidths}
use Rattle.rules.proofs.argument.SoundModelLaws.{each_at}
use Rattle.rules.specs.definitions.Faults.{Fault, fault, no_fault, model_record, open_fault}
use Rattle.rules.proofs.argument.FaultLaws.{Told, told-fault, model-refuses, opened, opens, either-open, pass-if_less}
use Rattle.rules.specs.definitions.Reading.{ReadNumber, count_of, head_fault, Scan, sound, refused, scan_model, refuse_bytes_left, scan_whole, transitions_at, model_at, model, no_model, reading_of, read_model, read_whole, after_transition, place_of}
use Rattle.rules.proofs.argument.ReadingLaws.{read_low, refuse-stops, refuse-passes, refuse-cases, Sound, Tells, scan-tells}
use Rattle.rules.proofs.argument.ReadBack.{ModelBack, model-back}
use Rattle.rules.proofs.argument.ReadSound.{refuse-past, none_left, read-scan, SoundRead, read-sound}
use Rattle.rules.proofs.argument.LengthLaws.{sound-within, longest-file, longer-refused}
use Rattle.rules.proofs.argument.AnyRule.{NoneOr, ModelFiles}
use Rattle.rules.proofs.argument.PlainRules.{ModelNumber}
use Rattle.cost_files.specs.definitions.CostModel.{highest_cost, cost_of, costs_bytes, cost_model_bytes, CostFileOf, transitions_end, costs_in, without_costs}
use Rattle.cost_files.specs.definitions.CostReading.{cost_fault, scan_costs, scan_cost_record, scan_cost_model, read_costs}

-- none of the costs is above the highest
abbrev Low : List ℕ → Type 0
Low costs = Each (λ (c : ℕ). c ≤ highest_cost) costs

-- the costs at a place, where the scan is past them
costs-passed : (s : List ℕ) (left at n m count end : ℕ) (next : Scan) → at + left ≤ length s → sound n m count end ≡ scan_costs s left at next → Low (take left (drop at s)) × (sound n m count end ≡ next)
unfolding scan_costs cost_fault Each
costs-passed s zero at n m count end next inside e = (tt, e)
costs-passed s (suc left) at n m count end next inside e =
    let a = refuse-past n m count end _ at _ e in
    let b = pass-if_less _ _ _ _ a.0 (omega arith) in
    let later = costs-passed s left (at + 1) n m count end next (omega arith) a.1 in
    (rw (byte-then s at (at + 1) refl (omega arith) refl) (b.0, later.0), later.1)

-- the costs that stand at a place
costs-back : (s costs : List ℕ) (at : ℕ) (rest : List ℕ) {z next : Scan} → drop at s ≡ costs ++ rest → Low costs → z ≡ next → z ≡ scan_costs s (length costs) at next
unfolding scan_costs cost_fault Each
costs-back s [] at rest stands low e = e
costs-back s (c ∷ costs) at rest stands low e =
    let here = first_byte s at stands in
    refuse-passes at (not_less _ (omega arith) refl) refl (costs-back s costs (at + 1) rest (past s at 1 stands) low.1 e)

transitions_at-length : (s : List ℕ) (left at : ℕ) → length (transitions_at s left at) ≡ left
unfolding transitions_at
transitions_at-length s zero at = refl
transitions_at-length s (suc left) at = ap suc (transitions_at-length s left (after_transition s at))

-- the cost of a transition is its byte behind the mark
pub cost-at : (s : List ℕ) (r : ℕ) → r < count_of s → cost_of (costs_in s) r ≡ byte_at s (transitions_end s + 2 + r)
unfolding cost_of costs_in byte_at
cost-at s r l = get_or-take (count_of s) _ r 0 l ∙ get_or-drop (transitions_end s + 2) s r 0

-- what a cost scan that passes tells: the scan of the model in front of it, the record's mark, and the costs behind it
pub record CostScan (L : Limits) (s : List ℕ) (n m count last : ℕ) : Type 0 where
  pub end : ℕ
  pub scanned : scan_model L s ≡ sound n m count end
  pub marked : two_at s end ≡ 0x434F
  pub low : Low (take count (drop (end + 2) s))
  pub after : last ≡ end + 2 + count
  pub whole : last ≡ length s

module _ (L : Limits) (s : List ℕ) where
  record-scan : (n m count last : ℕ) (scan : Scan) → scan_model L s ≡ scan → length s ≤ last → sound n m count last ≡ scan_cost_record s scan → CostScan L s n m count last
  unfolding scan_cost_record
  record-scan n m count last (sound n₁ m₁ count₁ end) q left e =
      let a = refuse-past n m count last _ end _ e in
      let o = opened model_record 0x434F (2 + count₁) s end model-refuses a.0 in
      let c = costs-passed s count₁ (end + 2) n m count last _ (omega (arith, o.whole)) a.1 in
      let states : n₁ ≡ n = let z = c.1 in cc in
      let actions : m₁ ≡ m = let z = c.1 in cc in
      let transitions : count₁ ≡ count = let z = c.1 in cc in
      let after : last ≡ end + 2 + count₁ = let z = c.1 in cc in
      record {
        end = end;
        scanned = q ∙ ap (λ (k : ℕ). sound k m₁ count₁ end) states ∙ ap (λ (k : ℕ). sound n k count₁ end) actions ∙ ap (λ (k : ℕ). sound n m k end) transitions;
        marked = o.marked;
        low = subst (λ (k : ℕ). Low (take k (drop (end + 2) s))) transitions c.0;
        after = omega arith;
        whole = omega (arith, o.whole);
      }
  record-scan n m count last (refused f place) q left e = let z : ◌≡◌ {A = ℕ} 0 1 = cc in absurd (omega arith)

  pub cost-scan : (n m count last : ℕ) → sound n m count last ≡ scan_cost_model L s → CostScan L s n m count last
  unfolding scan_cost_model
  cost-scan n m count last e =
      let a = none_left s (scan_cost_record s (scan_model L s)) n m count last e in
      record-scan n m count last (scan_model L s) refl a.1 a.0

  -- the model in front of the costs is sound
  module _ {n m count last : ℕ} (c : CostScan L s n m count last) where
    pub scan-told : Sound L s n m count c.end
    scan-told = subst (Tells L s) c.scanned (scan-tells L s)

    pub scan-sound : Bytes s → SoundRead L s (model_at s) c.end
    unfolding read_model reading_of
    scan-sound bytes = read-sound L s (model_at s) c.end bytes (ap (reading_of s) c.scanned)

    -- each cost is at most the highest
    pub scan-low : (r : ℕ) → r < count → byte_at s (c.end + 2 + r) ≤ highest_cost
    unfolding byte_at
    scan-low r l =
        subst (λ (x : ℕ). x ≤ highest_cost) (get_or-take count _ r 0 l ∙ get_or-drop (c.end + 2) s r 0)
        (each_at _ _ r 0 c.low (omega (arith, length-take-le count (drop (c.end + 2) s) (omega (arith, length-drop (c.end + 2) s, c.after, c.whole)))))

-- a fault of the head is the file's
pub cost-head-stops : (L : Limits) (s : List ℕ) {x : Fault} → x ≡ head_fault L s → (x.number ≡ 0 → ⊥) → refused x 0 ≡ scan_cost_model L s
unfolding scan_model scan_cost_model scan_cost_record refuse_bytes_left
cost-head-stops L s {x} e h = subst (λ (scan : Scan). refused x 0 ≡ refuse_bytes_left s (scan_cost_record s scan)) (refuse-stops _ 0 _ e h) refl

-- what is read is the file of a sound model with costs, those that stand in it, and nothing is left
module _ (L : Limits) (s : List ℕ) (bytes : Bytes s) where
  file-read : (n m count last : ℕ) → CostScan L s n m count last → CostFileOf L s (model_at s)
  unfolding model_at cost_model_bytes costs_bytes two_bytes
  file-read n m count last c =
      let end = c.end in
      let ok = scan-sound L s c bytes in
      let size = length-drop (end + 2) s in
      let rest : take count (drop (end + 2) s) ≡ drop (end + 2) s = take_all count _ (omega (arith, size, c.after, c.whole)) in
      let mark : drop end s ≡ two_bytes (two_at s end) ++ take count (drop (end + 2) s) = two_then s bytes end (end + 2) refl (omega (arith, c.after, c.whole)) (sym rest) in
      record {
        costs = take count (drop (end + 2) s);
        sound = ok.rules;
        right =
            record {
              count = length-take-le count (drop (end + 2) s) (omega (arith, size, c.after, c.whole)) ∙ (scan-told L s c).transitions ∙ sym (transitions_at-length s (count_of s) _);
              most = c.low;
            };
        encoded =
            sym (take-append-drop end s)
            ∙ (λ i. ok.bytes i ++ mark i)
            ∙ ap (λ (k : ℕ). model_bytes (model_at s) ++ (two_bytes k ++ take count (drop (end + 2) s))) c.marked;
      }

  pub cost-read-sound : (M : Model) (end : ℕ) → read_costs L s ≡ model M end → CostFileOf L s M × (end ≡ length s)
  unfolding read_costs
  cost-read-sound M end e =
      let r = read-scan s (scan_cost_model L s) M end e in
      let c = cost-scan L s r.n r.m r.count end r.scanned in
      (subst (CostFileOf L s) r.value (file-read r.n r.m r.count end c), c.whole)

-- the file of a model with costs: where its transitions end, and what stands behind them
module _ (L : Limits) (fits : FitsWidths L) (s : List ℕ) (M : Model) (f : CostFileOf L s M) where
  back : ModelBack L M s
  unfolding cost_model_bytes
  back = model-back L M fits f.sound s (costs_bytes f.costs) f.encoded

  tells : Sound L s (length M.labels) M.actions (length M.transitions) (length (model_bytes M))
  tells = subst (Tells L s) (sym back.scan) (scan-tells L s)

  record-there : drop (length (model_bytes M)) s ≡ costs_bytes f.costs
  unfolding cost_model_bytes
  record-there = let z : 0 + length (model_bytes M) ≡ length (model_bytes M) = omega arith in ap (λ (k : ℕ). drop k s) (sym z) ∙ past_all s 0 (model_bytes M) f.encoded

  costs-there : drop (length (model_bytes M) + 2) s ≡ f.costs
  unfolding costs_bytes
  costs-there = past s (length (model_bytes M)) 2 record-there

  -- the costs that stand in the file are the model's
  pub costs-in : costs_in s ≡ f.costs
  unfolding costs_in transitions_end
  costs-in =
      (λ i. take (sym tells.transitions i) (drop (place_of s (sym tells.transitions i) + 2) s))
      ∙ ap (λ (k : ℕ). take (length M.transitions) (drop (k + 2) s)) (sym tells.last)
      ∙ ap (take (length M.transitions)) costs-there
      ∙ take_all (length M.transitions) f.costs (omega (arith, f.right.count))

  -- the bytes in front of the cost record are those of the model without costs
  pub without-costs : without_costs s ≡ model_bytes M
  unfolding without_costs transitions_end cost_model_bytes
  without-costs =
      (λ i. take (place_of s (sym tells.transitions i)) s)
      ∙ ap (λ (k : ℕ). take k s) (sym tells.last)
      ∙ ap (take (length (model_bytes M))) f.encoded
      ∙ take-append_seam (model_bytes M) (costs_bytes f.costs)

  -- the file is read back
  pub cost-read-back : read_costs L s ≡ model M (length s)
  unfolding read_costs scan_cost_model scan_cost_record refuse_bytes_left reading_of cost_model_bytes costs_bytes
  cost-read-back =
      let end = length (model_bytes M) in
      let count : length f.costs ≡ length M.transitions = f.right.count in
      let size : length s ≡ end + 2 + length M.transitions = ap length f.encoded ∙ length-append (model_bytes M) (costs_bytes f.costs) ∙ omega arith in
      let whole : sound (length M.labels) M.actions (length M.transitions) (length s) ≡ scan_cost_record s (sound (length M.labels) M.actions (length M.transitions) end) =
      refuse-passes end refl
      (opens model_record 0x434F (2 + length M.transitions) s end (omega arith) (first_two s end 0x434F f.costs record-two (omega arith)) (omega arith))
      (subst (λ (k : ℕ). sound (length M.labels) M.actions (length M.transitions) (length s) ≡ scan_costs s k (end + 2) (sound (length M.labels) M.actions (length M.transitions) (end + 2 + length M.transitions))) count
      (costs-back s f.costs (end + 2) [] (costs-there ∙ sym (append-nil f.costs)) f.right.most (ap (sound (length M.labels) M.actions (length M.transitions)) size))) in
      ap (λ (k : Scan). reading_of s (refuse_bytes_left s (scan_cost_record s k))) (sym back.scan)
      ∙ ap (λ (k : Scan). reading_of s (refuse_bytes_left s k)) (sym whole)
      ∙ ap (reading_of s) (sym (not_less (refused (fault 9) (length s)) (omega arith) refl))
      ∙ ap (λ (m : Model). model m (length s)) back.value
    where
      record-two : drop (length (model_bytes M)) s ≡ two_bytes 0x434F ++ f.costs
      record-two = unfold two_bytes in record-there

  -- where the transitions end
  pub transitions-end : length (model_bytes M) ≡ transitions_end s
  unfolding transitions_end
  transitions-end = tells.last ∙ ap (place_of s) tells.transitions

  -- a call that reads models without costs finds bytes left, at the cost record
  pub read-without-costs : read_whole L s ≡ no_model (fault 9) (length (model_bytes M))
  unfolding read_whole scan_whole refuse_bytes_left reading_of cost_model_bytes costs_bytes
  read-without-costs =
      ap (λ (k : Scan). reading_of s (refuse_bytes_left s k)) (sym back.scan)
      ∙ ap (reading_of s) (sym (less _ (omega (arith, ap length f.encoded, length-append (model_bytes M) (costs_bytes f.costs))) refl))

-- the refusals of reading a cost model: those of reading a model, and 29
unfoldable pub CostModelNumber : Terms → ℕ → Type 0
CostModelNumber terms k = ModelNumber terms k ⊎ (k ≡ 29)

module _ (L : Limits) where
  abbrev Listed : Fault → Type 0
  Listed f = NoneOr (CostModelNumber L.terms) f

  listed : (k : ℕ) → 1 ≤ k → k ≤ 9 → Listed (fault k)
  unfolding CostModelNumber ModelNumber
  listed k some few = record { number = inr (inl (some, read_low L.terms k few)); told = told-fault k (omega arith) }

  none-listed : Listed no_fault
  none-listed = record { number = inl refl; told = told-fault 0 (omega arith) }

  cost-listed : (cost : ℕ) → Listed (cost_fault cost)
  unfolding cost_fault CostModelNumber
  cost-listed cost = either_less Listed _ _ (record { number = inr (inr refl); told = told-fault 29 (omega arith) }) none-listed

  open-listed : (mark size : ℕ) (s : List ℕ) (at : ℕ) → Listed (open_fault model_record mark size s at)
  open-listed mark size s at = either-open model_record mark size s at Listed (listed 1 (omega arith) (omega arith)) (listed 2 (omega arith) (omega arith)) none-listed

  module _ (s : List ℕ) where
    -- what a refusal of reading tells, and where a sound scan ends
    abbrev Refusal : Fault → (place : ℕ) → Type 0
    Refusal f place = (f.number ≡ 0 → ⊥) × CostModelNumber L.terms f.number × (place ≤ length s) × Told f

    abbrev CostTells : Scan → Type 0
    CostTells (sound n m count end) = end ≤ length s
    CostTells (refused f place) = Refusal f place

    refused-tells : (f : Fault) (place : ℕ) → Listed f → place ≤ length s → (f.number ≡ 0 → ⊥) → Refusal f place
    refused-tells f place l inside n = (n, ⊎_elim (λ z. absurd (n z)) (λ z. z) l.number, inside, l.told)

    costs-tell : (left at : ℕ) (next : Scan) → at + left ≤ length s → CostTells next → CostTells (scan_costs s left at next)
    unfolding scan_costs
    costs-tell zero at next inside t = t
    costs-tell (suc left) at next inside t =
        refuse-cases CostTells _ at _ (refused-tells _ at (cost-listed _) (omega arith)) (λ p. costs-tell left (at + 1) next (omega arith) t)

    record-tells : (scan : Scan) → Tells L s scan → CostTells (scan_cost_record s scan)
    unfolding scan_cost_record CostModelNumber ModelNumber
    record-tells (sound n m count end) t =
        refuse-cases CostTells _ end _ (refused-tells _ end (open-listed 0x434F (2 + count) s end) t.inside)
        (λ p.
        let o = opened model_record 0x434F (2 + count) s end model-refuses p in
        costs-tell count (end + 2) _ (omega (arith, o.whole)) (omega (arith, o.whole)))
    record-tells (refused f place) t = (λ z. omega (arith, t.some), inl (t.some, t.known), t.inside, t.told)

    left-tells : (scan : Scan) → CostTells scan → CostTells (refuse_bytes_left s scan)
    unfolding refuse_bytes_left
    left-tells (sound n m count end) t = either_less CostTells end (length s) (refused-tells (fault 9) end (listed 9 (omega arith) (omega arith)) t (λ z. omega (arith, z))) t
    left-tells (refused f place) t = t

    pub cost-refusal-told : (f : Fault) (place : ℕ) → read_costs L s ≡ no_model f place → (f.number ≡ 0 → ⊥) × CostModelNumber L.terms f.number × (place ≤ length s) × Told f
    unfolding read_costs scan_cost_model reading_of
    cost-refusal-told f place e = go (scan_cost_model L s) (left-tells _ (record-tells _ (scan-tells L s))) e
      where
        go : (scan : Scan) → CostTells scan → reading_of s scan ≡ no_model f place → Refusal f place
        go (sound n m count end) t q = let z : ◌≡◌ {A = ℕ} 0 1 = cc in absurd (omega arith)
        go (refused g at) t q =
            let same : g ≡ f = cc in
            let there : at ≡ place = cc in
            subst (λ (x : Fault). Refusal x place) same (subst (Refusal g) there t)

-- files of cost models, within the limits
abbrev pub cost_files : (L : Limits) → FitsWidths L → ModelFiles L
cost_files L fits =
    record {
      read = read_costs L;
      is_file = CostFileOf L;
      exactly = λ s M b. (λ r. (cost-read-sound L s b M (length s) r).0, cost-read-back L fits s M);
      whole = λ s M end b r. (cost-read-sound L s b M end r).1;
      sound = λ s M f. f.sound;
      numbers = CostModelNumber L.terms;
      answers = cost-refusal-told L;
    }

-- the longest cost model has a cost record of 2 bytes and one for each transition more; a longer file is not read
pub longer-cost-unread : (L : Limits) (s : List ℕ) → Bytes s → longest_model L + 2 + L.transitions < length s → (f : Fault) × (place : ℕ) × (read_costs L s ≡ no_model f place)
unfolding cost_model_bytes costs_bytes
longer-cost-unread L s b =
    longer-refused (read_costs L) s (longest_model L + 2 + L.transitions)
    (λ M end e.
    let f = (cost-read-sound L s b M end e).0 in
    omega (arith, longest-file L M (sound-within L M f.sound), f.right.count, f.sound.count, ap length f.encoded, length-append (model_bytes M) (costs_bytes f.costs)))
