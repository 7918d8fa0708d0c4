-- What is known at a node, from the last node to the first.
use mathlib.Core.Path.{◌≡◌, refl, sym, ap, ◌∙◌}
use mathlib.Core.Bool.{Bool, true, false, cond}
use mathlib.Core.List.{[], ◌∷◌, ◌++◌}
use Prim.Native.Nat.{ℕ, zero, suc, ◌+◌, ◌-◌, ◌≤◌, ◌<◌}
use native.Mathlib.Omega.{arith}
use native.Mathlib.Numerals.{add-one}
use lib.ListN.{length, length-append}
use Rattle.relations.specs.Select.{span, keep}
use Rattle.relations.proofs.Select.{span_append, keep_append}
use Rattle.express.specs.Syntax.NodeKind.{schema}
use Rattle.express.specs.Syntax.Tree.{Table, count, kind, role, is, is_declaration}
use Rattle.express.specs.Names.Fault.{sort}
use Rattle.express.proofs.Semantics.Backward.{owner_step, schema_step, owner_end, schema_end}
use Rattle.scopes.specs.Entries.{radix, declares_other, vertex, others_before}
use Rattle.scopes.specs.Standing.{sort_by, class_of, entry_count, Stands, Passed, Ended, Counted, MoreBy}
use Rattle.scopes.specs.declared.Here.{Here}
use Rattle.scopes.specs.declared.Counts.{Counts}

span_next : (i : ℕ) → span 0 (i + 1) ≡ span 0 i ++ (i ∷ [])
unfolding span
span_next i = let b : 0 + i ≡ i = omega arith in rw (span_append 0 i 1, b)

pub one_or_none : (b : Bool) → cond b 1 0 ≤ 1
one_or_none true = omega arith
one_or_none false = omega arith

-- how many of the first numbers pass a test
module _ (p : ℕ → Bool) where
  kept_step : (i : ℕ) → length (keep p (span 0 (i + 1))) ≡ length (keep p (span 0 i)) + cond (p i) 1 0
  unfolding keep
  kept_step i = rw (span_next i, keep_append p (span 0 i) (i ∷ []), length-append (keep p (span 0 i)) (keep p (i ∷ []))) (by (p i))
    where
      by : (b : Bool) → length (keep p (span 0 i)) + length (cond b (i ∷ []) []) ≡ length (keep p (span 0 i)) + cond b 1 0
      by true = refl
      by false = refl

  kept_none : length (keep p (span 0 0)) ≡ 0
  unfolding keep span
  kept_none = refl

  kept_small : (i : ℕ) → length (keep p (span 0 i)) ≤ i
  kept_small zero = rw kept_none (omega arith)
  kept_small (suc i) =
      let l : length (keep p (span 0 (i + 1))) ≤ suc i = omega (arith, kept_step i, kept_small i, one_or_none (p i)) in
      rw add-one at l

module _ (t : Table) where
  pub vertex_step : (i : ℕ) → vertex t (i + 1) ≡ vertex t i + cond (is_declaration t i) 1 0
  unfolding vertex
  vertex_step = kept_step (is_declaration t)

  pub vertex_none : vertex t 0 ≡ 0
  unfolding vertex
  vertex_none = kept_none (is_declaration t)

  pub vertex_small : (i : ℕ) → vertex t i ≤ i
  unfolding vertex
  vertex_small = kept_small (is_declaration t)

  pub others_step : (i : ℕ) → others_before t (i + 1) ≡ others_before t i + entry_count (sort t i)
  unfolding others_before
  others_step = kept_step (declares_other t)

  pub others_none : others_before t 0 ≡ 0
  unfolding others_before
  others_none = kept_none (declares_other t)

  pub others_small : (i : ℕ) → others_before t i ≤ i
  unfolding others_before
  others_small = kept_small (declares_other t)

  -- the numbers rise
  vertex_rises : (i d : ℕ) → vertex t i ≤ vertex t (i + d)
  vertex_rises i zero = let e : i + 0 ≡ i = omega arith in rw e (omega arith)
  vertex_rises i (suc d) = let e : i + suc d ≡ i + d + 1 = omega arith in rw (e, vertex_step (i + d)) (omega (arith, vertex_rises i d))

  pub vertex_le : (i j : ℕ) → i ≤ j → vertex t i ≤ vertex t j
  vertex_le i j l = let e : i + (j - i) ≡ j = omega arith in rw e at (vertex_rises i (j - i))

-- ---- in a loop

pub stands_end : {t : Table} {c : Counts} {h : Here} → Counted t (count t) c → Ended (count t) c h → Stands t (count t) h
stands_end {t} C E =
    record {
      owner_is = E.owner_is ∙ sym (owner_end t);
      schema_is = E.schema_is ∙ sym (schema_end t);
      vertex_is = E.vertex_is ∙ C.declarations_is;
      other_is = E.other_is ∙ C.others_is;
    }

pub stands_step :
    {t : Table} {i : ℕ} {after h : Here} → i < count t → Stands t (i + 1) after → Passed (kind t i) (role t i) i after h → Stands t i h
unfolding sort
stands_step {t} {i} {after} {h} l S P =
    record {
      owner_is = P.owner_is ∙ ap (λ (x : ℕ). cond (is_declaration t i) i x) S.owner_is ∙ sym (owner_step t i l);
      schema_is = P.schema_is ∙ ap (λ (x : ℕ). cond (is t schema i) i x) S.schema_is ∙ sym (schema_step t i l);
      vertex_is = omega (arith, P.vertex_is, S.vertex_is, vertex_step t i);
      other_is = omega (arith, P.other_is, S.other_is, others_step t i);
    }

pub counted_step :
    {t : Table} {i class : ℕ} {c c' : Counts} → Counted t i c → class ≡ class_of (sort_by (kind t i) (role t i)) → MoreBy class c c' → Counted t (i + 1) c'
unfolding sort
counted_step {t} {i} C e B =
    let M = B.is (kind t i) (role t i) e in
    record {
      declarations_is = omega (arith, C.declarations_is, M.declarations_is, vertex_step t i);
      others_is = omega (arith, C.others_is, M.others_is, others_step t i);
    }

pub counted_starts : (t : Table) {c : Counts} → c.declarations ≡ 0 → c.others ≡ 0 → Counted t 0 c
counted_starts t d o = record { declarations_is = d ∙ sym (vertex_none t); others_is = o ∙ sym (others_none t) }

pub counted_small : {t : Table} {i : ℕ} {c : Counts} → Counted t i c → i < radix → (c.declarations < radix) × (c.others < radix)
counted_small {t} {i} C l = (omega (arith, C.declarations_is, vertex_small t i), omega (arith, C.others_is, others_small t i))
