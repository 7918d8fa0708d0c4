-- A row of a kind that ends its rule comes from a derivation of that rule, and the rows of its subtree are the rows of that derivation.
use mathlib.Core.Bool.{Bool, true, false, ◌&&◌, false≢true, not, ◌||◌}
use mathlib.Core.List.{List, [], ◌∷◌, ◌++◌, append_assoc, append-nil}
use mathlib.Core.Logic.{⊎_elim}
use mathlib.Core.Path.{◌≡◌, refl, sym, ap, ◌∙◌, subst}
use Prim.Native.Nat.{ℕ, zero, suc, ◌+◌, ◌-◌, ◌≤◌, ◌<◌}
use native.Mathlib.Omega.{arith}
use lib.Dec.{eqb}
use lib.ListN.{length, get_or-append, length-append}
use lib.Seq.{get_or-append_seam, get_or-append-add}
use borrow.Author.Tests.{not-true, eqb-false}
use Rattle.ebnf.specs.Grammar.{Mark, silent, here, node, leaf, Ebnf, none, mark, step, seq, alt, star, fork, nt}
use Rattle.ebnf.specs.Grammar.{Derives, nothing, marked, token, both, left, right, stop, more, label, other, rule, Text}
use Rattle.ebnf.specs.Rows.{Row, stamp_rows, Rows, in_rows}
use Rattle.ebnf.proofs.Sets.{and_split, or_split, lt_or_le}
use Rattle.ebnf.proofs.PostOrder.{no_row, row_at, size_at}

module _ {N : Type 0} (rules : N → Ebnf N) (k : ℕ) where
  abbrev mark_without : Mark → Bool
  mark_without silent = true
  mark_without here = true
  mark_without (node j o) = not (eqb j k)
  mark_without (leaf j o) = not (eqb j k)

  -- the phrase leaves no row of the kind, but for those of its nonterminals
  abbrev without : Ebnf N → Bool
  without none = true
  without (mark m) = mark_without m
  without (step m cs a) = mark_without m && without a
  without (seq a b) = without a && without b
  without (alt a b) = without a && without b
  without (star a) = without a
  without (fork m cs ds a b) = mark_without m && (without a && without b)
  without (nt x) = true

  abbrev mark_ends : Mark → Bool
  mark_ends silent = false
  mark_ends here = false
  mark_ends (node j o) = eqb j k
  mark_ends (leaf j o) = false

  -- it ends with a row of the kind over all of the rule's rows, and leaves no other
  abbrev pub ends_with : Ebnf N → Bool
  ends_with none = false
  ends_with (mark m) = mark_ends m
  ends_with (step m cs a) = false
  ends_with (seq a b) = without a && ends_with b
  ends_with (alt a b) = ends_with a && ends_with b
  ends_with (star a) = false
  ends_with (fork m cs ds a b) = mark_without m && (ends_with a && ends_with b)
  ends_with (nt x) = false

  -- each rule does the one or the other
  abbrev pub without_or_ends : N → Bool
  without_or_ends x = without (rules x) || ends_with (rules x)

  module _ (ts : List ℕ) where
    -- Row n is the last of the rows of a derivation, which stand right before it.
    pub record Origin (rs : List Row) (n : ℕ) : Type 0 where
      pub rule_of : N
      pub from : ℕ
      pub to : ℕ
      pub value : Rows
      pub derived : Derives in_rows rules ts (rules rule_of) from (in_rows.start from) to value
      pub ends : ends_with (rules rule_of) ≡ true
      pub sized : size_at rs n ≡ length value.rows
      pub fits : length value.rows ≤ suc n
      pub same : (m : ℕ) → m < length value.rows → row_at rs ((suc n - length value.rows) + m) ≡ row_at value.rows m

    abbrev Good : List Row → Type 0
    Good rs = (n : ℕ) → n < length rs → (row_at rs n).kind ≡ k → Origin rs n

    origin_left : (rs ss : List Row) (n : ℕ) → n < length rs → Origin rs n → Origin (rs ++ ss) n
    origin_left rs ss n l o =
        let f = o.fits in
        record {
          rule_of = o.rule_of;
          from = o.from;
          to = o.to;
          value = o.value;
          derived = o.derived;
          ends = o.ends;
          sized = ap (λ (r : Row). r.size) (get_or-append rs ss no_row n l) ∙ o.sized;
          fits = f;
          same = λ m u. get_or-append rs ss no_row ((suc n - length o.value.rows) + m) (omega (arith, f, l, u)) ∙ o.same m u;
        }

    origin_right : (rs ss : List Row) (n : ℕ) → Origin ss n → Origin (rs ++ ss) (length rs + n)
    origin_right rs ss n o =
        let f = o.fits in
        record {
          rule_of = o.rule_of;
          from = o.from;
          to = o.to;
          value = o.value;
          derived = o.derived;
          ends = o.ends;
          sized = ap (λ (r : Row). r.size) (get_or-append-add rs ss n no_row) ∙ o.sized;
          fits = omega (arith, f);
          same = λ m u.
              let e : (suc (length rs + n) - length o.value.rows) + m ≡ length rs + ((suc n - length o.value.rows) + m) = omega (arith, f) in
              ap (λ (p : ℕ). row_at (rs ++ ss) p) e ∙ (get_or-append-add rs ss ((suc n - length o.value.rows) + m) no_row ∙ o.same m u);
        }

    good_append : (rs ss : List Row) → Good rs → Good ss → Good (rs ++ ss)
    good_append rs ss g h n l e =
        let z = length-append rs ss in
        ⊎_elim
        (λ (u : n < length rs). origin_left rs ss n u (g n u (sym (ap (λ (r : Row). r.kind) (get_or-append rs ss no_row n u)) ∙ e)))
        (λ (u : length rs ≤ n).
        let q : length rs + (n - length rs) ≡ n = omega arith in
        let w : row_at (rs ++ ss) n ≡ row_at ss (n - length rs) =
        ap (λ (p : ℕ). row_at (rs ++ ss) p) (sym q) ∙ get_or-append-add rs ss (n - length rs) no_row in
        subst (λ (p : ℕ). Origin (rs ++ ss) p) q
        (origin_right rs ss (n - length rs) (h (n - length rs) (omega (arith, z, l, u)) (sym (ap (λ (r : Row). r.kind) w) ∙ e))))
        (lt_or_le n (length rs))

    good_none : Good []
    good_none n l e = absurd (omega arith)

    good_one : (r : Row) → eqb r.kind k ≡ false → Good (r ∷ [])
    good_one r h zero l e = absurd (eqb-false r.kind k h e)
    good_one r h (suc n) l e = absurd (omega arith)

    good_stamp : (m : Mark) (i : ℕ) (r : List Row) → mark_without m ≡ true → Good r → Good (stamp_rows m i r)
    good_stamp silent i r h g = g
    good_stamp here i r h g = g
    good_stamp (node j o) i r h g = good_append r _ g (good_one _ (not-true (eqb j k) h))
    good_stamp (leaf j o) i r h g = good_append r _ g (good_one _ (not-true (eqb j k) h))

    -- all rows but the last are settled
    record Ended (s : List Row) : Type 0 where
      before : List Row
      final : Row
      is : s ≡ before ++ (final ∷ [])
      over : final.size ≡ suc (length before)
      good : Good before

    ended_mark : (m : Mark) (i : ℕ) (r : List Row) → mark_ends m ≡ true → Good r → Ended (stamp_rows m i r)
    ended_mark silent i r h g = absurd (false≢true h)
    ended_mark here i r h g = absurd (false≢true h)
    ended_mark (node j o) i r h g =
        record { before = r; final = record { kind = j; token = i; size = suc (length r); role = o }; is = refl; over = refl; good = g }
    ended_mark (leaf j o) i r h g = absurd (false≢true h)

    good_ended : (x : N) (i j : ℕ) (s : Rows) → Derives in_rows rules ts (rules x) i (in_rows.start i) j s → ends_with (rules x) ≡ true → Ended s.rows → Good s.rows
    good_ended x i j s d h e n l f =
        let z = ap length e.is in
        let y = length-append e.before (e.final ∷ []) in
        ⊎_elim
        (λ (u : n < length e.before).
        let w : row_at s.rows n ≡ row_at e.before n =
        ap (λ (rs : List Row). row_at rs n) e.is ∙ get_or-append e.before (e.final ∷ []) no_row n u in
        subst (λ (rs : List Row). Origin rs n) (sym e.is)
        (origin_left e.before (e.final ∷ []) n u (e.good n u (sym (ap (λ (r : Row). r.kind) w) ∙ f))))
        (λ (u : length e.before ≤ n).
        let v : length s.rows ≡ suc n = omega (arith, z, y, l, u) in
        let a : n ≡ length e.before = omega (arith, z, y, l, u) in
        let b : row_at s.rows n ≡ e.final =
        ap (λ (rs : List Row). row_at rs n) e.is ∙ (ap (λ (p : ℕ). row_at (e.before ++ (e.final ∷ [])) p) a ∙ get_or-append_seam e.before e.final [] no_row) in
        record {
          rule_of = x;
          from = i;
          to = j;
          value = s;
          derived = d;
          ends = h;
          sized = ap (λ (r : Row). r.size) b ∙ (e.over ∙ sym (v ∙ ap suc a));
          fits = omega (arith, v);
          same = λ m t. let q : (suc n - length s.rows) + m ≡ m = omega (arith, v) in ap (λ (p : ℕ). row_at s.rows p) q;
        })
        (lt_or_le n (length e.before))

    module _ (test : (x : N) → without_or_ends x ≡ true) where
      good_rule : (x : N) (i j : ℕ) (s : Rows) → Derives in_rows rules ts (rules x) i (in_rows.start i) j s →
          (without (rules x) ≡ true → Good [] → Good s.rows) × (ends_with (rules x) ≡ true → Good [] → Ended s.rows) → Good s.rows
      good_rule x i j s d f =
          ⊎_elim (λ (h : without (rules x) ≡ true). f.0 h good_none) (λ (h : ends_with (rules x) ≡ true). good_ended x i j s d h (f.1 h good_none))
          (or_split (without (rules x)) _ (test x))

      settled : {e : Ebnf N} {i j : ℕ} {r s : Rows} → Derives in_rows rules ts e i r j s →
          (without e ≡ true → Good r.rows → Good s.rows) × (ends_with e ≡ true → Good r.rows → Ended s.rows)
      settled nothing = (λ h g. g, λ h g. absurd (false≢true h))
      settled (marked {m = m} {r = r}) = (λ h g. good_stamp m r.name r.rows h g, λ h g. ended_mark m r.name r.rows h g)
      settled (token {m = m} {i = i} {s = s} c d) =
          (λ h g. let p = and_split (mark_without m) _ h in good_stamp m i s.rows p.0 ((settled d).0 p.1 g), λ h g. absurd (false≢true h))
      settled (both {a = a} d f) = (
        λ h g. let p = and_split (without a) _ h in (settled f).0 p.1 ((settled d).0 p.0 g),
        λ h g. let p = and_split (without a) _ h in (settled f).1 p.1 ((settled d).0 p.0 g),
      )
      settled (left {a = a} d) = (
        λ h g. let p = and_split (without a) _ h in (settled d).0 p.0 g,
        λ h g. let p = and_split (ends_with a) _ h in (settled d).1 p.0 g,
      )
      settled (right {a = a} d) = (
        λ h g. let p = and_split (without a) _ h in (settled d).0 p.1 g,
        λ h g. let p = and_split (ends_with a) _ h in (settled d).1 p.1 g,
      )
      settled stop = (λ h g. g, λ h g. absurd (false≢true h))
      settled (more d f) = (λ h g. (settled f).0 h ((settled d).0 h g), λ h g. absurd (false≢true h))
      settled (label {m = m} {a = a} {i = i} {r = r} c b d) = (
        λ h g.
            let p = and_split (mark_without m) _ h in
            let q = and_split (without a) _ p.1 in
            (settled d).0 q.0 (good_stamp m i r.rows p.0 g),
        λ h g.
            let p = and_split (mark_without m) _ h in
            let q = and_split (ends_with a) _ p.1 in
            (settled d).1 q.0 (good_stamp m i r.rows p.0 g),
      )
      settled (other {m = m} {a = a} d) = (
        λ h g. let p = and_split (mark_without m) _ h in let q = and_split (without a) _ p.1 in (settled d).0 q.1 g,
        λ h g. let p = and_split (mark_without m) _ h in let q = and_split (ends_with a) _ p.1 in (settled d).1 q.1 g,
      )
      settled (rule {x = x} {i = i} {j = j} {r = r} {s = s} d) =
          (λ h g. good_append r.rows s.rows g (good_rule x i j s d (settled d)), λ h g. absurd (false≢true h))

      -- EACH ROW OF THE KIND in a text has its origin
      pub origin : (x : N) (s : Rows) → Text in_rows rules x ts s → (n : ℕ) → n < length s.rows → (row_at s.rows n).kind ≡ k → Origin s.rows n
      origin x s d = (settled d).0 refl good_none

stamped : (m : Mark) (i : ℕ) (r : List Row) → (new : List Row) × (stamp_rows m i r ≡ r ++ new)
stamped silent i r = ([], sym (append-nil r))
stamped here i r = ([], sym (append-nil r))
stamped (node k o) i r = (record { kind = k; token = i; size = suc (length r); role = o } ∷ [], refl)
stamped (leaf k o) i r = (record { kind = k; token = i; size = 1; role = o } ∷ [], refl)

grown_twice : (r s t : List Row) → (new : List Row) × (s ≡ r ++ new) → (new : List Row) × (t ≡ s ++ new) → (new : List Row) × (t ≡ r ++ new)
grown_twice r s t a b = (a.0 ++ b.0, b.1 ∙ (ap (λ (l : List Row). l ++ b.0) a.1 ∙ append_assoc r a.0 b.0))

-- a derivation leaves the rows that are there, and puts others behind them
pub rows_grow : {N : Type 0} {rules : N → Ebnf N} {ts : List ℕ} {e : Ebnf N} {i j : ℕ} {r s : Rows} → Derives in_rows rules ts e i r j s →
    (new : List Row) × (s.rows ≡ r.rows ++ new)
rows_grow (nothing {r = r}) = ([], sym (append-nil r.rows))
rows_grow (marked {m = m} {r = r}) = stamped m r.name r.rows
rows_grow (token {m = m} {i = i} {r = r} {s = s} c d) = grown_twice r.rows s.rows _ (rows_grow d) (stamped m i s.rows)
rows_grow (both {r = r} {s = s} d f) = grown_twice r.rows s.rows _ (rows_grow d) (rows_grow f)
rows_grow (left d) = rows_grow d
rows_grow (right d) = rows_grow d
rows_grow (stop {r = r}) = ([], sym (append-nil r.rows))
rows_grow (more {r = r} {s = s} d f) = grown_twice r.rows s.rows _ (rows_grow d) (rows_grow f)
rows_grow (label {m = m} {i = i} {r = r} c g d) = grown_twice r.rows (stamp_rows m i r.rows) _ (stamped m i r.rows) (rows_grow d)
rows_grow (other d) = rows_grow d
rows_grow (rule {s = s} d) = (s.rows, refl)
