-- The rows of a text are those of its one tree, in post-order.
use mathlib.Core.List.{List, ◌++◌, append_assoc}
use mathlib.Core.Path.{◌≡◌, refl, sym, ap, ◌∙◌}
use Prim.Native.Nat.{ℕ}
use Rattle.ebnf.specs.Grammar.{Mark, silent, here, node, leaf, Ebnf, Actions, Derives, nothing, marked, token, both, left, right, stop, more, label, other, rule, Text}
use Rattle.ebnf.specs.Rows.{Row, stamp_rows, stamp_name, Rows, in_rows}
use Rattle.ebnf.specs.Trees.{Forest, empty, add, beside, stamp_trees, Grove, in_trees, flat, laid}
use Rattle.ebnf.specs.Parse.{Tables}
use Rattle.ebnf.proofs.Predictive.{Predictive}
use Rattle.ebnf.proofs.Exact.{unique}

pub flat_beside : (f g : Forest) → flat (beside f g) ≡ flat f ++ flat g
flat_beside empty g = refl
flat_beside (add k o i c f) g = rw (flat_beside f g) (sym (append_assoc (flat c) _ (flat g)))

flat_stamp : (m : Mark) (i : ℕ) (f : Forest) → flat (stamp_trees m i f) ≡ stamp_rows m i (flat f)
flat_stamp silent i f = refl
flat_stamp here i f = refl
flat_stamp (node k o) i f = refl
flat_stamp (leaf k o) i f = flat_beside f (add k o i empty empty)

laid_join : (r s : Grove) → laid (in_trees.join r s) ≡ in_rows.join (laid r) (laid s)
laid_join r s = ap (λ (l : List Row). record { name = r.name; rows = l }) (flat_beside r.trees s.trees)

laid_stamp : (m : Mark) (i : ℕ) (r : Grove) → laid (in_trees.stamp m i r) ≡ in_rows.stamp m i (laid r)
laid_stamp m i r = ap (λ (l : List Row). record { name = stamp_name m i r.name; rows = l }) (flat_stamp m i r.trees)

laid_close : (m : Mark) (r : Grove) → laid (in_trees.close m r) ≡ in_rows.close m (laid r)
laid_close m r = ap (λ (l : List Row). record { name = r.name; rows = l }) (flat_stamp m r.name r.trees)

-- ---- what one kind of value is of another, derivations with the one are of derivations with the other

module _ (A B : Actions) (h : A.Value → B.Value) (h_start : (i : ℕ) → h (A.start i) ≡ B.start i)
    (h_join : (r s : A.Value) → h (A.join r s) ≡ B.join (h r) (h s)) (h_stamp : (m : Mark) (i : ℕ) (r : A.Value) → h (A.stamp m i r) ≡ B.stamp m i (h r))
    (h_close : (m : Mark) (r : A.Value) → h (A.close m r) ≡ B.close m (h r)) where
  pub image : {N : Type 0} {rules : N → Ebnf N} {ts : List ℕ} {e : Ebnf N} {i j : ℕ} {r s : A.Value} → Derives A rules ts e i r j s →
      Derives B rules ts e i (h r) j (h s)
  image nothing = nothing
  image (marked {m = m} {r = r}) = rw (h_close m r) marked
  image (token {m = m} {i = i} {s = s} g d) = rw (h_stamp m i s) (token g (image d))
  image (both d e) = both (image d) (image e)
  image (left d) = left (image d)
  image (right d) = right (image d)
  image stop = stop
  image (more d e) = more (image d) (image e)
  image (rule {i = i} {r = r} {s = s} d) = rw (h_join r s) (rule (rw (h_start i) at (image d)))
  image (label {m = m} {i = i} {r = r} g k d) = label g k (rw (h_stamp m i r) at (image d))
  image (other d) = other (image d)

  pub source : {N : Type 0} {rules : N → Ebnf N} {ts : List ℕ} {e : Ebnf N} {i j : ℕ} {q p : B.Value} → Derives B rules ts e i q j p →
      (r : A.Value) → h r ≡ q → (s : A.Value) × Derives A rules ts e i r j s × (h s ≡ p)
  source nothing r e = (r, nothing, e)
  source (marked {m = m}) r e = (A.close m r, marked, h_close m r ∙ ap (B.close m) e)
  source (token {m = m} {i = i} g d) r e =
      let c = source d r e in
      (A.stamp m i c.0, token g c.1, h_stamp m i c.0 ∙ ap (B.stamp m i) c.2)
  source (both d f) r e = let c = source d r e in let b = source f c.0 c.2 in (b.0, both c.1 b.1, b.2)
  source (left d) r e = let c = source d r e in (c.0, left c.1, c.2)
  source (right d) r e = let c = source d r e in (c.0, right c.1, c.2)
  source stop r e = (r, stop, e)
  source (more d f) r e = let c = source d r e in let b = source f c.0 c.2 in (b.0, more c.1 b.1, b.2)
  source (rule {i = i} d) r e =
      let c = source d (A.start i) (h_start i) in
      (A.join r c.0, rule c.1, h_join r c.0 ∙ (ap (λ (v : B.Value). B.join v (h c.0)) e ∙ ap (B.join _) c.2))
  source (label {m = m} {i = i} g k d) r e =
      let c = source d (A.stamp m i r) (h_stamp m i r ∙ ap (B.stamp m i) e) in (c.0, label g k c.1, c.2)
  source (other d) r e = let c = source d r e in (c.0, other c.1, c.2)

-- ---- so the rows of a text are those of its one tree

module _ {N : Type 0} {rules : N → Ebnf N} {T : Tables N} (G : Predictive rules T) (x : N) where
  pub one_tree : (ts : List ℕ) (f g : Grove) → Text in_trees rules x ts f → Text in_trees rules x ts g → f ≡ g
  one_tree = unique G in_trees x

  pub rows_of_tree : (ts : List ℕ) (f : Grove) → Text in_trees rules x ts f → Text in_rows rules x ts (laid f)
  rows_of_tree ts f d = image in_trees in_rows laid (λ i. refl) laid_join laid_stamp laid_close d

  pub tree_of_rows : (ts : List ℕ) (s : Rows) → Text in_rows rules x ts s → (f : Grove) × Text in_trees rules x ts f × (laid f ≡ s)
  tree_of_rows ts s d = source in_trees in_rows laid (λ i. refl) laid_join laid_stamp laid_close d _ refl
