-- Laws of a line and of the head: their fields are the pieces at the spaces.
use Rattle.std.specs.Prelude.{Option, None, Some, MatchOption, ℕ, ◌+◌, ◌-◌, ◌≤◌, ◌<◌, Bool, true, false, eqb, length, take, drop}
use Rattle.std.proofs.Math.Path.{◌≡◌, refl, ap}
use Rattle.std.proofs.Common.{sym, ◌∙◌, subst, inl, inr, length-drop, drop_of_length-le, take_all, eq-eqb, eqb-true, arith}
use mathlib.Core.List.{List, [], ◌∷◌}
use Rattle.std.proofs.Math.Decide.{ℕ_discrete, dec_lt}
use Rattle.bisimulation.specs.definitions.Choice.{both}
use Rattle.bisimulation.proofs.argument.ChoiceLaws.{less, not_less, same, not_same, is_true, is_false, either_true, past_less, past_same, kept_true, one-test, false-not, both_true, true-both}
use Rattle.numbers.specs.definitions.Decimal.{value_of, is_number}
use Rattle.numbers.proofs.argument.DecimalLaws.{number_digits}
use Rattle.rules.specs.definitions.Limits.{limits}
use Rattle.prism.specs.definitions.Lines as prism
use Rattle.prism.specs.definitions.Lines.{pieces, ten_thousandths, is_name, line_by, fields_line, read_line, ReadHead, head_by, fields_head, read_head}
use Rattle.prism.specs.definitions.Reading.{Choice, begun, goes_on}
use Rattle.prism.proofs.argument.PieceLaws.{digits-without, pieces-one, pieces-some, piece-last}
use Rattle.prism.proofs.argument.LineLaws.{name-shown, shown-without, good-not}
use Rattle.prism.proofs.argument.HeadLaws.{HeadRules, head-not}
use Rattle.prism.proofs.argument.GoesOnLaws.{GoesOn, goes-on-pieces}
use Rattle.text_fields.specs.Fields.{PieceEnds, number_below, IsBelow}
use Rattle.text_fields.specs.FieldLaws.{ends-parted, ends_last, number_small, small-number, parts-most}
use Rattle.prism_line.specs.LineRead.{with_target, FormRead, OnlyLines, WholeRead, are_both, LineRead, NumberTold, SameLine, RestTold, LineTold, HeadIs}
use Rattle.prism_line.specs.LineParts.{TwoFields, RestIs, RestRead}
use Rattle.prism_line.specs.declared.Line.{Line}
use Rattle.prism_line.specs.declared.Rest.{Rest}

-- a number that is none, or too high, is not below 65,536
number-high : (bs : List ℕ) → number_below 65536 bs ≡ 65536 → is_number bs ≡ true → 65536 ≤ value_of bs
number-high bs e n = go (dec_lt (value_of bs) 65536)
  where
    go : Dec (value_of bs < 65536) → 65536 ≤ value_of bs
    go (yes h) = absurd (omega (arith, number_small 65536 bs n h))
    go (no h) = omega arith

-- so is one that is told
told : (bs : List ℕ) (r : Option ℕ) → is_number bs ≡ true → IsBelow 65536 (number_below 65536 bs) r → NumberTold (value_of bs) r
told bs None n e = number-high bs e n
told bs (Some v) n e = let k = small-number 65536 bs e.0 e.1 in (sym k.1, e.1)

-- what the fields of a line tell
record LineOf (a b t p name : List ℕ) (x : prism.Line) : Type 0 where
  source : is_number a ≡ true
  choice : is_number b ≡ true
  target : is_number t ≡ true
  some : ten_thousandths p ≡ 0 → ⊥
  whole : record { source = value_of a; choice = value_of b; target = value_of t; parts = ten_thousandths p; name = name } ≡ x

by-line : (a b t p name : List ℕ) (x : prism.Line) → line_by a b t p name ≡ prism.good x → LineOf a b t p name x
unfolding line_by
by-line a b t p name x g =
    let n1 = kept_true _ prism.broken (is_number a) (good-not x) (sym g) in
    let n2 = kept_true _ prism.broken (is_number b) (good-not x) n1.1 in
    let n3 = kept_true _ prism.broken (is_number t) (good-not x) n2.1 in
    let n4 = past_same prism.broken _ (ten_thousandths p) 0 (good-not x) n3.1 in
    record { source = n1.0; choice = n2.0; target = n3.0; some = n4.0; whole = cc n4.1 }

-- no line begins with two numbers
abbrev pub unread : Line
unread = record { source = None; choice = None; rest = None }

read_none : (s : List ℕ) → read_line s ≡ prism.broken → ((c : Choice) → GoesOn c (pieces 0x20 s) → ⊥) → LineRead s unread
read_none s broken n =
    record {
      prefix = λ c low few. one-test _ _ (λ g. absurd (n c ((goes-on-pieces c s).0 g))) (λ f. absurd (false-not f));
      form = λ x g. absurd (good-not x (sym g ∙ broken));
    }

-- one field, or two
module _ (s : List ℕ) (first : ℕ) (end : PieceEnds s 0 0x20 first) where
  pub one-broken : first ≡ length s → LineTold s unread
  unfolding read_line fields_line
  one-broken e = ap fields_line (ends_last end e)

  pub one_field : first ≡ length s → LineRead s unread
  one_field e =
      read_none s (one-broken e) (λ c g. let whole = ends_last end e in let z : ◌≡◌ {A = ℕ} 0 1 = cc (g.whole, whole) in omega arith)

  module _ (more : first ≡ length s → ⊥) where
    first-parted : pieces 0x20 s ≡ take first s ∷ pieces 0x20 (drop (first + 1) s)
    first-parted =
        let e : first - 0 ≡ first = omega arith in
        ends-parted end more ∙ ap (λ (k : ℕ). take k s ∷ pieces 0x20 (drop (first + 1) s)) e

    module _ (second : ℕ) (next : PieceEnds s (first + 1) 0x20 second) where
      second-last : second ≡ length s → pieces 0x20 s ≡ take first s ∷ take (second - (first + 1)) (drop (first + 1) s) ∷ []
      second-last e = first-parted ∙ ap (λ (l : List (List ℕ)). take first s ∷ l) (ends_last next e)

      pub two-broken : second ≡ length s → LineTold s unread
      unfolding read_line fields_line
      two-broken e = ap fields_line (second-last e)

      pub two_fields : second ≡ length s → LineRead s unread
      two_fields e =
          read_none s (two-broken e) (λ c g. let whole = second-last e in let z : ◌≡◌ {A = ℕ} 0 1 = cc (g.whole, whole) in omega arith)

      pub fields-two : (second ≡ length s → ⊥) → TwoFields s first second
      fields-two n =
          record { order = omega (arith, next.after); within = omega (arith, next.within); fields = first-parted ∙ ap (λ (l : List (List ℕ)). take first s ∷ l) (ends-parted next n) }

-- more of them
module _ {s : List ℕ} {first second : ℕ} (two : TwoFields s first second) where
  abbrev one : List ℕ
  one = take first s

  abbrev other : List ℕ
  other = take (second - (first + 1)) (drop (first + 1) s)

  abbrev behind : List (List ℕ)
  behind = pieces 0x20 (drop (second + 1) s)

  its-fields : read_line s ≡ fields_line (one ∷ other ∷ behind)
  unfolding read_line
  its-fields = ap fields_line two.fields

  -- what a line with a source and a choice begins with
  begins : {c : Choice} → GoesOn c (pieces 0x20 s) → ((is_number one ≡ true) × (value_of one ≡ c.source)) × ((is_number other ≡ true) × (value_of other ≡ c.number))
  begins {c} on =
      let f : on.first ≡ one = cc (on.whole, two.fields) in
      let h : on.second ≡ other = cc (on.whole, two.fields) in
      ((sym (ap is_number f) ∙ on.is_source, sym (ap value_of f) ∙ on.source), (sym (ap is_number h) ∙ on.is_choice, sym (ap value_of h) ∙ on.number))

  -- both are below 65,536
  begins-two : {v w : ℕ} → (v ≡ number_below 65536 one) × (v < 65536) → (w ≡ number_below 65536 other) × (w < 65536) → (c : Choice) → goes_on (begun c) s ≡ both (eqb v c.source) (eqb w c.number)
  begins-two {v} {w} source choice c = one-test _ _ there (back behind refl)
    where
      first-is : (is_number one ≡ true) × (value_of one ≡ v)
      first-is = small-number 65536 one source.0 source.1

      second-is : (is_number other ≡ true) × (value_of other ≡ w)
      second-is = small-number 65536 other choice.0 choice.1

      there : goes_on (begun c) s ≡ true → both (eqb v c.source) (eqb w c.number) ≡ true
      there g =
          let k = begins ((goes-on-pieces c s).0 g) in
          true-both (eq-eqb _ _ (sym first-is.1 ∙ k.0.1)) (eq-eqb _ _ (sym second-is.1 ∙ k.1.1))

      back : (ps : List (List ℕ)) → behind ≡ ps → both (eqb v c.source) (eqb w c.number) ≡ true → goes_on (begun c) s ≡ true
      back [] q t = absurd (pieces-some 0x20 (drop (second + 1) s) q)
      back (x ∷ xs) q t =
          let k = both_true (eqb v c.source) (eqb w c.number) t in
          let f : v ≡ c.source = eqb-true _ _ k.0 in
          let h : w ≡ c.number = eqb-true _ _ k.1 in
          (goes-on-pieces c s).1 (record { first = one; second = other; third = x; more = xs; whole = two.fields ∙ ap (λ (l : List (List ℕ)). one ∷ other ∷ l) q; is_source = first-is.0; source = first-is.1 ∙ f; is_choice = second-is.0; number = second-is.1 ∙ h })

  -- or one is no number, or too high
  begins-with : (a b : Option ℕ) → IsBelow 65536 (number_below 65536 one) a → IsBelow 65536 (number_below 65536 other) b → (c : Choice) → c.source < 65536 → c.number < 65536 → goes_on (begun c) s ≡ are_both a b c.source c.number
  begins-with None b e m c low few =
      one-test _ _ (λ g. let k = (begins ((goes-on-pieces c s).0 g)).0 in absurd (omega (arith, number-high one e k.0))) (λ f. absurd (false-not f))
  begins-with (Some v) None e m c low few =
      one-test _ _ (λ g. let k = (begins ((goes-on-pieces c s).0 g)).1 in absurd (omega (arith, number-high other m k.0))) (λ f. absurd (false-not f))
  begins-with (Some v) (Some w) e m c low few = begins-two e m c

  module _ (l : Line) (source : IsBelow 65536 (number_below 65536 one) l.source) (choice : IsBelow 65536 (number_below 65536 other) l.choice) where
    same-line : {r : Rest} → RestIs behind s r → OnlyLines s (SameLine s l r)
    same-line {r} k x g =
        let line = k.line one other in
        let w = by-line one other k.third k.fourth (drop r.name s) x (sym (its-fields ∙ line) ∙ g) in
        subst (SameLine s l r) w.whole
        (record { source = told one l.source w.source source; choice = told other l.choice w.choice choice; target = told k.third r.target w.target k.target; parts = k.parts; name = refl })

    told-with : (q : Option Rest) → RestRead behind s q → MatchOption q (read_line s ≡ prism.broken) (RestTold s l)
    told-with None k = its-fields ∙ k one other
    told-with (Some r) k =
        record { same = same-line k; some = k.some; most = k.most; inside = k.inside }

    pub line-told : RestRead behind s l.rest → LineTold s l
    line-told = told-with l.rest

  -- the rest of a line that begins with two numbers below 65,536
  module _ {v w : ℕ} (source : (v ≡ number_below 65536 one) × (v < 65536)) (choice : (w ≡ number_below 65536 other) × (w < 65536)) {r : Rest} (k : RestIs behind s r) where
    form-to : (t : Option ℕ) → IsBelow 65536 (number_below 65536 k.third) t → MatchOption (with_target v w r t) (OnlyLines s (λ x. 65536 ≤ x.target)) (WholeRead s)
    unfolding line_by
    form-to None n =
        let line = k.line one other in
        λ x g.
        let m = by-line one other k.third k.fourth (drop r.name s) x (sym (its-fields ∙ line) ∙ g) in
        omega (arith, number-high k.third n m.target, ap (λ (y : prism.Line). y.target) m.whole)
    form-to (Some t) n =
        let a = small-number 65536 one source.0 source.1 in
        let b = small-number 65536 other choice.0 choice.1 in
        let d = small-number 65536 k.third n.0 n.1 in
        let line = k.line one other in
        record {
          good =
              its-fields ∙ line
              ∙ sym (is_true _ a.0 (is_true _ b.0 (is_true _ d.0 (not_same _ (λ z. omega (arith, k.parts, k.some)) refl))))
              ∙ (λ i. prism.good (record { source = a.1 i; choice = b.1 i; target = d.1 i; parts = sym k.parts i; name = drop r.name s }));
          some = k.some;
          most = k.most;
          inside = k.inside;
        }

  form-of : (a b : Option ℕ) → IsBelow 65536 (number_below 65536 one) a → IsBelow 65536 (number_below 65536 other) b → (q : Option Rest) → RestRead behind s q → FormRead s (record { source = a; choice = b; rest = q })
  form-of None b e m None k = λ x g. absurd (good-not x (sym g ∙ its-fields ∙ k one other))
  form-of None b e m (Some r) k =
      λ x g. inl (same-line (record { source = None; choice = b; rest = None }) e m k x g).source
  form-of (Some v) None e m None k = λ x g. absurd (good-not x (sym g ∙ its-fields ∙ k one other))
  form-of (Some v) None e m (Some r) k =
      λ x g. inr (same-line (record { source = Some v; choice = None; rest = None }) e m k x g).choice
  form-of (Some v) (Some w) e m None k = λ x g. absurd (good-not x (sym g ∙ its-fields ∙ k one other))
  form-of (Some v) (Some w) e m (Some r) k = form-to e m k r.target k.target

  -- a line with its first two numbers, by what it is read as
  pub line-by-form : {l : Line} → IsBelow 65536 (number_below 65536 one) l.source → IsBelow 65536 (number_below 65536 other) l.choice → FormRead s l → LineRead s l
  line-by-form {l} source choice form =
      record { prefix = begins-with l.source l.choice source choice; form = form }

  -- or by what its rest is read as
  pub line-read : {l : Line} → IsBelow 65536 (number_below 65536 one) l.source → IsBelow 65536 (number_below 65536 other) l.choice → RestRead behind s l.rest → LineRead s l
  line-read {l} source choice rest =
      line-by-form source choice (form-of l.source l.choice source choice l.rest rest)

-- the part of the bytes from a place on
to_end : (s : List ℕ) (at : ℕ) → take (length s - at) (drop at s) ≡ drop at s
to_end s at = take_all (length s - at) (drop at s) (omega (arith, length-drop at s))

-- what is behind the fourth field is a name, or the line is broken
named-fields : (a b t p rest : List ℕ) → is_name rest ≡ true → fields_line (a ∷ b ∷ t ∷ p ∷ pieces 0x20 rest) ≡ line_by a b t p rest
unfolding fields_line
named-fields a b t p rest e =
    ap (λ (l : List (List ℕ)). fields_line (a ∷ b ∷ t ∷ p ∷ l)) (pieces-one 0x20 rest (shown-without 0x20 (omega arith) rest (name-shown rest e)))
    ∙ sym (is_true prism.broken e refl)

unnamed-fields : (a b t p rest : List ℕ) → is_name rest ≡ false → fields_line (a ∷ b ∷ t ∷ p ∷ pieces 0x20 rest) ≡ prism.broken
unfolding fields_line
unnamed-fields a b t p rest e = go (pieces 0x20 rest) refl
  where
    go : (ps : List (List ℕ)) → pieces 0x20 rest ≡ ps → fields_line (a ∷ b ∷ t ∷ p ∷ ps) ≡ prism.broken
    go [] q = absurd (pieces-some 0x20 rest q)
    go (x ∷ []) q = sym (is_false _ (ap is_name (piece-last 0x20 rest x q).1 ∙ e) refl)
    go (x ∷ y ∷ ys) q = refl

-- what is no probability breaks the line
partless : (a b t p name : List ℕ) → ten_thousandths p ≡ 0 → line_by a b t p name ≡ prism.broken
unfolding line_by
partless a b t p name e =
    let Broken : prism.ReadLine → Type 0 = λ x. x ≡ prism.broken in
    either_true Broken (is_number a) (either_true Broken (is_number b) (either_true Broken (is_number t) (sym (same _ e refl)) refl) refl) refl

partless-fields : (a b t p : List ℕ) (ps : List (List ℕ)) → ten_thousandths p ≡ 0 → fields_line (a ∷ b ∷ t ∷ p ∷ ps) ≡ prism.broken
unfolding fields_line
partless-fields a b t p [] e = partless a b t p [] e
partless-fields a b t p (name ∷ []) e =
    either_true (λ (x : prism.ReadLine). x ≡ prism.broken) (is_name name) (partless a b t p name e) refl
partless-fields a b t p (name ∷ more ∷ ps) e = refl

-- the fields behind the two first
module _ {s : List ℕ} {from third : ℕ} (end : PieceEnds s from 0x20 third) where
  abbrev third-field : List ℕ
  third-field = take (third - from) (drop from s)

  pub three-fields : third ≡ length s → RestRead (pieces 0x20 (drop from s)) s None
  unfolding fields_line
  three-fields e a b = ap (λ (l : List (List ℕ)). fields_line (a ∷ b ∷ l)) (ends_last end e)

  module _ (more : third ≡ length s → ⊥) where
    with-third : pieces 0x20 (drop from s) ≡ third-field ∷ pieces 0x20 (drop (third + 1) s)
    with-third = ends-parted end more

    module _ {fourth : ℕ} (next : PieceEnds s (third + 1) 0x20 fourth) where
      abbrev fourth-field : List ℕ
      fourth-field = take (fourth - (third + 1)) (drop (third + 1) s)

      with-fourth : (ps : List (List ℕ)) → pieces 0x20 (drop (third + 1) s) ≡ fourth-field ∷ ps → pieces 0x20 (drop from s) ≡ third-field ∷ fourth-field ∷ ps
      with-fourth ps e = with-third ∙ ap (λ (l : List (List ℕ)). third-field ∷ l) e

      pub no-parts : ten_thousandths fourth-field ≡ 0 → RestRead (pieces 0x20 (drop from s)) s None
      no-parts e a b =
          ap (λ (l : List (List ℕ)). fields_line (a ∷ b ∷ l)) (with-fourth (more-fields (ℕ_discrete fourth (length s))) (next-fields _))
          ∙ partless-fields a b third-field fourth-field _ e
        where
          more-fields : Dec (fourth ≡ length s) → List (List ℕ)
          more-fields (yes q) = []
          more-fields (no q) = pieces 0x20 (drop (fourth + 1) s)

          next-fields : (d : Dec (fourth ≡ length s)) → pieces 0x20 (drop (third + 1) s) ≡ fourth-field ∷ more-fields d
          next-fields (yes q) = ends_last next q
          next-fields (no q) = ends-parted next q

      module _ {v : Option ℕ} {p : ℕ} (target : IsBelow 65536 (number_below 65536 third-field) v) (parts : (p ≡ ten_thousandths fourth-field) × (1 ≤ p)) where
        its-rest : (name : ℕ) → name ≤ length s → ((a b : List ℕ) → fields_line (a ∷ b ∷ pieces 0x20 (drop from s)) ≡ line_by a b third-field fourth-field (drop name s)) → RestIs (pieces 0x20 (drop from s)) s (record { target = v; parts = p; name = name })
        its-rest name inside e =
            record { third = third-field; fourth = fourth-field; line = e; target = target; parts = parts.0; some = parts.1; most = omega (arith, parts-most fourth-field, parts.0); inside = inside }

        pub four-fields : fourth ≡ length s → RestIs (pieces 0x20 (drop from s)) s (record { target = v; parts = p; name = fourth })
        unfolding fields_line
        four-fields e =
            its-rest fourth (omega arith)
            (λ a b. ap (λ (l : List (List ℕ)). fields_line (a ∷ b ∷ l)) (with-fourth [] (ends_last next e)) ∙ ap (line_by a b third-field fourth-field) (sym (drop_of_length-le s {i = fourth} (omega arith))))

      module _ (n : fourth ≡ length s → ⊥) {shown : Bool} (name : shown ≡ is_name (take (length s - (fourth + 1)) (drop (fourth + 1) s))) where
        last_name : is_name (drop (fourth + 1) s) ≡ shown
        last_name = sym (name ∙ ap is_name (to_end s (fourth + 1)))

        pub five-fields : {v : Option ℕ} {p : ℕ} → IsBelow 65536 (number_below 65536 third-field) v → (p ≡ ten_thousandths fourth-field) × (1 ≤ p) → shown ≡ true → RestIs (pieces 0x20 (drop from s)) s (record { target = v; parts = p; name = fourth + 1 })
        five-fields target parts e =
            its-rest target parts (fourth + 1) (omega (arith, next.within))
            (λ a b. ap (λ (l : List (List ℕ)). fields_line (a ∷ b ∷ l)) (with-fourth _ (ends-parted next n)) ∙ named-fields a b third-field fourth-field (drop (fourth + 1) s) (last_name ∙ e))

        pub no-name : shown ≡ false → RestRead (pieces 0x20 (drop from s)) s None
        no-name e a b =
            ap (λ (l : List (List ℕ)). fields_line (a ∷ b ∷ l)) (with-fourth _ (ends-parted next n))
            ∙ unnamed-fields a b third-field fourth-field (drop (fourth + 1) s) (last_name ∙ e)

-- the head
module _ (s : List ℕ) (first : ℕ) (end : PieceEnds s 0 0x20 first) where
  pub head-one : first ≡ length s → read_head limits s ≡ prism.no_head
  unfolding read_head fields_head
  head-one e = ap (fields_head limits) (ends_last end e)

  pub head-two : (more : first ≡ length s → ⊥) → (second : ℕ) → PieceEnds s (first + 1) 0x20 second → second ≡ length s → read_head limits s ≡ prism.no_head
  unfolding read_head fields_head
  head-two more second next e = ap (fields_head limits) (second-last s first end more second next e)

-- what is behind the second field is the third, or the head is at fault
module _ (a b rest : List ℕ) where
  three-numbers : is_number rest ≡ true → fields_head limits (a ∷ b ∷ pieces 0x20 rest) ≡ head_by limits a b rest
  unfolding fields_head
  three-numbers e =
      ap (λ (l : List (List ℕ)). fields_head limits (a ∷ b ∷ l)) (pieces-one 0x20 rest (digits-without 0x20 (omega arith) rest (number_digits rest e)))

  no-numbers : is_number rest ≡ false → fields_head limits (a ∷ b ∷ pieces 0x20 rest) ≡ prism.no_head
  unfolding fields_head head_by
  no-numbers e = go (pieces 0x20 rest) refl
    where
      go : (ps : List (List ℕ)) → pieces 0x20 rest ≡ ps → fields_head limits (a ∷ b ∷ ps) ≡ prism.no_head
      go [] q = absurd (pieces-some 0x20 rest q)
      go (x ∷ []) q =
          either_true (λ (h : ReadHead). h ≡ prism.no_head) (is_number a) (either_true (λ (h : ReadHead). h ≡ prism.no_head) (is_number b) (sym (is_false _ (ap is_number (piece-last 0x20 rest x q).1 ∙ e) refl)) refl) refl
      go (x ∷ y ∷ ys) q = refl

-- fields that are the numbers of a head
record Numbers (a b t : List ℕ) : Type 0 where
  one : is_number a ≡ true
  other : is_number b ≡ true
  third : is_number t ≡ true
  rules : HeadRules limits (record { states = value_of a; choices = value_of b; transitions = value_of t })

by-numbers : (a b t : List ℕ) → Numbers a b t → head_by limits a b t ≡ prism.head (record { states = value_of a; choices = value_of b; transitions = value_of t })
unfolding head_by
by-numbers a b t w =
    sym (is_true _ w.one (is_true _ w.other (is_true _ w.third (not_same _ (λ e. omega (arith, w.rules.some_state))
    (not_less _ w.rules.states (not_less _ w.rules.choices (not_less _ w.rules.transitions refl)))))))

numbers-by : (a b t : List ℕ) (h : prism.Head) → head_by limits a b t ≡ prism.head h → Numbers a b t
unfolding head_by
numbers-by a b t h e =
    let n1 = kept_true _ prism.no_head (is_number a) (head-not h) (sym e) in
    let n2 = kept_true _ prism.no_head (is_number b) (head-not h) n1.1 in
    let n3 = kept_true _ prism.no_head (is_number t) (head-not h) n2.1 in
    let n4 = past_same prism.no_head _ (value_of a) 0 (head-not h) n3.1 in
    let n5 = past_less prism.no_head _ limits.states (value_of a) (head-not h) n4.1 in
    let n6 = past_less prism.no_head _ limits.transitions (value_of b) (head-not h) n5.1 in
    let n7 = past_less prism.no_head _ limits.entries (value_of t) (head-not h) n6.1 in
    record { one = n1.0; other = n2.0; third = n3.0; rules = record { some_state = omega (arith, n4.0); states = n5.0; choices = n6.0; transitions = n7.0 } }

-- three fields or more
module _ {s : List ℕ} {first second : ℕ} (two : TwoFields s first second) where
  abbrev last : List ℕ
  last = take (length s - (second + 1)) (drop (second + 1) s)

  head-whole : read_head limits s ≡ fields_head limits (one two ∷ other two ∷ pieces 0x20 last)
  unfolding read_head
  head-whole =
      ap (fields_head limits) two.fields
      ∙ ap (λ (l : List ℕ). fields_head limits (one two ∷ other two ∷ pieces 0x20 l)) (sym (to_end s (second + 1)))

  -- its numbers are those of a head, or it is at fault
  pub head-none : ((is_number (one two) ≡ true) → (is_number (other two) ≡ true) → (is_number last ≡ true) → HeadRules limits (record { states = value_of (one two); choices = value_of (other two); transitions = value_of last }) → ⊥) → read_head limits s ≡ prism.no_head
  head-none n = go (is_number last) refl (head_by limits (one two) (other two) last) refl
    where
      go : (b : Bool) → is_number last ≡ b → (h : ReadHead) → head_by limits (one two) (other two) last ≡ h → read_head limits s ≡ prism.no_head
      go false m h g = head-whole ∙ no-numbers (one two) (other two) last m
      go true m prism.no_head g = head-whole ∙ three-numbers (one two) (other two) last m ∙ g
      go true m (prism.head x) g =
          let w = numbers-by (one two) (other two) last x g in absurd (n w.one w.other w.third w.rules)

  pub no-states : number_below 65536 (one two) ≡ 65536 → read_head limits s ≡ prism.no_head
  no-states e = head-none (λ a b c r. omega (arith, number-high (one two) e a, r.states))

  pub no-choices : number_below 65536 (other two) ≡ 65536 → read_head limits s ≡ prism.no_head
  no-choices e = head-none (λ a b c r. omega (arith, number-high (other two) e b, r.choices))

  pub no-transitions : number_below 65536 last ≡ 65536 → read_head limits s ≡ prism.no_head
  no-transitions e = head-none (λ a b c r. omega (arith, number-high last e c, r.transitions))

  module _ {n c t : ℕ} (states : (n ≡ number_below 65536 (one two)) × (n < 65536)) (choices : (c ≡ number_below 65536 (other two)) × (c < 65536)) (transitions : (t ≡ number_below 65536 last) × (t < 65536)) where
    p : (is_number (one two) ≡ true) × (value_of (one two) ≡ n)
    p = small-number 65536 (one two) states.0 states.1

    q : (is_number (other two) ≡ true) × (value_of (other two) ≡ c)
    q = small-number 65536 (other two) choices.0 choices.1

    w : (is_number last ≡ true) × (value_of last ≡ t)
    w = small-number 65536 last transitions.0 transitions.1

    -- they pass a limit, or are those of the head
    pub head-beyond : (HeadRules limits (record { states = n; choices = c; transitions = t }) → ⊥) → read_head limits s ≡ prism.no_head
    head-beyond over = head-none (λ a b d r. over (record { some_state = omega (arith, r.some_state, p.1); states = omega (arith, r.states, p.1); choices = omega (arith, r.choices, q.1); transitions = omega (arith, r.transitions, w.1) }))

    pub head-is : 1 ≤ n → n ≤ limits.states → c ≤ limits.transitions → t ≤ limits.entries → HeadIs s (record { states = n; choices = c; transitions = t })
    head-is some few less low =
        record {
          good =
              head-whole ∙ three-numbers (one two) (other two) last w.0
              ∙ by-numbers (one two) (other two) last (record { one = p.0; other = q.0; third = w.0; rules = record { some_state = omega (arith, p.1); states = omega (arith, p.1); choices = omega (arith, q.1); transitions = omega (arith, w.1) } })
              ∙ (λ i. prism.head (record { states = p.1 i; choices = q.1 i; transitions = w.1 i }));
          some = some;
          states = few;
          choices = less;
          transitions = low;
        }
