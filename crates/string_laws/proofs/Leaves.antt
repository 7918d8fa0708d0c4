-- The leaves of a row of nodes, part by part.
use mathlib.Core.Path.{◌≡◌, refl, sym, ap, ◌∙◌}
use mathlib.Core.List.{List, [], ◌∷◌, ◌++◌, append_assoc, append-nil, flat_map}
use Prim.Native.Nat.{ℕ, ◌+◌}
use Rattle.relations.specs.Select.{span}
use Rattle.relations.proofs.Select.{span_append}
use Rattle.express.specs.Syntax.Tree.{Table}
use Rattle.express.specs.Semantics.Answer.{Answer}
use Rattle.express.specs.Semantics.Shape.{shape_in}
use Rattle.string_laws.specs.Leaves.{leaf_bytes, leaves}

-- what two lists give, one behind the other
pub flat_append : {A B : Type 0} (f : A → List B) (xs ys : List A) → flat_map f (xs ++ ys) ≡ flat_map f xs ++ flat_map f ys
unfolding flat_map
flat_append f [] ys = refl
flat_append f (x ∷ xs) ys = ap (λ (l : List _). f x ++ l) (flat_append f xs ys) ∙ sym (append_assoc (f x) _ _)

module _ (t e : Table) (c : List ℕ) (g : ℕ → Answer) where
  pub leaves_none : (lo : ℕ) → leaves t e c g lo 0 ≡ []
  unfolding flat_map span
  leaves_none lo = refl

  pub leaves_append : (lo j k : ℕ) → leaves t e c g lo (j + k) ≡ leaves t e c g lo j ++ leaves t e c g (lo + j) k
  leaves_append lo j k = rw (span_append lo j k) (flat_append _ (span lo j) (span (lo + j) k))

  pub leaves_one : (n : ℕ) → leaves t e c g n 1 ≡ leaf_bytes g (shape_in t e c n)
  unfolding flat_map span
  leaves_one n = append-nil (leaf_bytes g (shape_in t e c n))

  pub leaves_next : (lo k : ℕ) → leaves t e c g lo (k + 1) ≡ leaves t e c g lo k ++ leaf_bytes g (shape_in t e c (lo + k))
  leaves_next lo k = leaves_append lo k 1 ∙ ap (λ (l : List ℕ). leaves t e c g lo k ++ l) (leaves_one (lo + k))
