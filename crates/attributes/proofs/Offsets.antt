-- Which entries lie in the range of a declaration: those from its offset up to the next one. Entries behind the declarations are in the order of their nodes, and so
-- many come before those of the nodes from one on as there are nodes before it that have one.
use mathlib.Core.Path.{◌≡◌, refl, sym, ap, ap₂, ◌∙◌}
use mathlib.Core.Logic.{⊎_elim}
use mathlib.Core.Bool.{Bool, true, false, cond, false≢true}
use mathlib.Core.List.{List, [], ◌∷◌, ◌++◌, map, map-map, map-id, append_assoc}
use Prim.Native.Nat.{ℕ, zero, suc, ◌+◌, ◌-◌, ◌≤◌, ◌<◌}
use native.Mathlib.Omega.{arith}
use borrow.Author.Tests.{eqb-true, eqb-false}
use lib.Dec.{eqb}
use lib.ListN.{length, get_or, length-append, length-map}
use lib.Seq.{get_or-append_seam, get_or-append-add}
use Rattle.relations.specs.Select.{span, keep}
use Rattle.relations.proofs.Select.{le_or, or_left, span_append, keep_append}
use Rattle.express.specs.Syntax.Tree.{Table, count, symbol, is_declaration, is_attribute, owner}
use Rattle.express.specs.Tokens.Scanned.{Scanned}
use Rattle.express.specs.Names.Fault.{sort}
use Rattle.scopes.specs.Entries.{declared, members, key_of, Entry, own_entry, declares_other, declaring, entries, vertex, others_before}
use Rattle.scopes.specs.Preparation.{Prepared}
use Rattle.scopes.specs.Range.{declared_nodes, vertex_count, node_of, range_start}
use Rattle.scopes.proofs.Sorting.{declared_sort, member_sort}
use Rattle.scopes.proofs.Passing.{others_step}
use Rattle.scopes.proofs.Numbering.{Ranked, ranked, entry_declares}
use Rattle.scopes.proofs.Ranges.{node_below, node_declares, range_next, range_rises, range_below, column_node, range_owner}
use Rattle.symbol_tables.proofs.Symbols.{symbol_within}
use Rattle.attributes.specs.Attributes.{offset_of, start_in, Back, Fits, attributes_between, attributes_of}

-- ---- lists

-- a part of a list, read by its places
at_middle : (xs ys zs : List ℕ) → map (λ (e : ℕ). get_or (xs ++ (ys ++ zs)) e 0) (span (length xs) (length ys)) ≡ ys
unfolding span
at_middle xs [] zs = refl
at_middle xs (y ∷ ys) zs =
    let long : length (xs ++ (y ∷ [])) ≡ suc (length xs) = omega (arith, length-append xs (y ∷ [])) in
    let whole : (xs ++ (y ∷ [])) ++ (ys ++ zs) ≡ xs ++ (y ∷ (ys ++ zs)) = append_assoc xs (y ∷ []) (ys ++ zs) in
    let rest : map (λ (e : ℕ). get_or (xs ++ (y ∷ (ys ++ zs))) e 0) (span (suc (length xs)) (length ys)) ≡ ys = rw (long, whole) at (at_middle (xs ++ (y ∷ [])) ys zs) in
    let first : get_or (xs ++ (y ∷ (ys ++ zs))) (length xs) 0 ≡ y = get_or-append_seam xs y (ys ++ zs) 0 in
    rw (first, rest)

-- what passes a test passes a wider one before it
keep_wider : (p q : ℕ → Bool) → ((n : ℕ) → p n ≡ true → q n ≡ true) → (xs : List ℕ) → keep p (keep q xs) ≡ keep p xs
unfolding keep
keep_wider p q h [] = refl
keep_wider p q h (x ∷ xs) = by (p x) (q x) refl refl (keep_wider p q h xs)
  where
    by : (a b : Bool) → p x ≡ a → q x ≡ b → keep p (keep q xs) ≡ keep p xs → keep p (cond b (x ∷ keep q xs) (keep q xs)) ≡ cond a (x ∷ keep p xs) (keep p xs)
    by true true e f r = rw e (ap (λ (l : List ℕ). x ∷ l) r)
    by true false e f r = absurd (false≢true (sym f ∙ h x e))
    by false true e f r = rw e r
    by false false e f r = r

-- numbers of which none passes two tests
keep_apart : (p q : ℕ → Bool) → ((n : ℕ) → p n ≡ true → q n ≡ false) → (xs : List ℕ) → length (keep p xs) + length (keep q xs) ≤ length xs
unfolding keep
keep_apart p q h [] = omega arith
keep_apart p q h (x ∷ xs) = by (p x) (q x) refl refl (keep_apart p q h xs)
  where
    by : (a b : Bool) → p x ≡ a → q x ≡ b → length (keep p xs) + length (keep q xs) ≤ length xs
        → length (cond a (x ∷ keep p xs) (keep p xs)) + length (cond b (x ∷ keep q xs) (keep q xs)) ≤ suc (length xs)
    by true true e f r = absurd (false≢true (sym (h x e) ∙ f))
    by true false e f r = omega (arith, r)
    by false true e f r = omega (arith, r)
    by false false e f r = omega (arith, r)

span_long : (i d : ℕ) → length (span i d) ≡ d
unfolding span
span_long i zero = refl
span_long i (suc d) = ap suc (span_long (suc i) d)

kept_parts : (q : ℕ → Bool) (j i n : ℕ) → j ≤ i → i ≤ n → keep q (span j (n - j)) ≡ keep q (span j (i - j)) ++ keep q (span i (n - i))
kept_parts q j i n a b =
    let e : n - j ≡ (i - j) + (n - i) = omega arith in
    let f : j + (i - j) ≡ i = omega arith in
    ap (λ (d : ℕ). keep q (span j d)) e ∙ ap (keep q) (span_append j (i - j) (n - i)) ∙ keep_append q (span j (i - j)) (span (j + (i - j)) (n - i)) ∙ rw f

-- ---- nodes that have an entry behind the declarations
module _ (t : Table) where
  abbrev before : ℕ → List ℕ
  before r = keep (declares_other t) (span 0 r)

  abbrev between : ℕ → ℕ → List ℕ
  between lo hi = keep (declares_other t) (span lo (hi - lo))

  before_long : (r : ℕ) → length (before r) ≡ others_before t r
  unfolding others_before
  before_long r = refl

  before_parts : (i n : ℕ) → i ≤ n → before n ≡ before i ++ between i n
  before_parts i n l =
      let a : n - 0 ≡ n = omega arith in
      let b : i - 0 ≡ i = omega arith in
      rw (a, b) at (kept_parts (declares_other t) 0 i n (omega arith) l)

  others_le : (i n : ℕ) → i ≤ n → others_before t i ≤ others_before t n
  others_le i n l = omega (arith, before_long i, before_long n, ap length (before_parts i n l), length-append (before i) (between i n))

  -- a declaration has none
  other_undeclared : (n : ℕ) → is_declaration t n ≡ true → declares_other t n ≡ false
  other_undeclared n d = let e : sort t n ≡ declared = eqb-true (sort t n) declared (declared_sort t n ∙ d) in rw e

  other_alone : (n : ℕ) → is_declaration t n ≡ true → others_before t (n + 1) ≡ others_before t n
  other_alone n d = let e : sort t n ≡ declared = eqb-true (sort t n) declared (declared_sort t n ∙ d) in let s = others_step t n in omega (arith, rw e at s)

  -- an attribute has one
  attribute_other : (n : ℕ) → is_attribute t n ≡ true → declares_other t n ≡ true
  attribute_other n a =
      let m : eqb (sort t n) members ≡ true = member_sort t n ∙ or_left (is_attribute t n) _ a in
      let e : sort t n ≡ members = eqb-true (sort t n) members m in rw e

  -- ---- offsets

  offset_next : (v : ℕ) → v < vertex_count t → offset_of t (v + 1) ≡ vertex_count t + others_before t (node_of t v)
  unfolding offset_of
  offset_next v l = ap (λ (r : ℕ). vertex_count t + others_before t r) (range_next t v) ∙ ap (λ (r : ℕ). vertex_count t + r) (other_alone (node_of t v) (node_declares t v l))

  pub offset_rises : (v : ℕ) → v < vertex_count t → offset_of t v ≤ offset_of t (v + 1)
  unfolding offset_of
  offset_rises v l = rw (offset_next v l) (omega (arith, others_le (range_start t v) (node_of t v) (range_rises t v l)))

  -- no more entries than nodes
  all_few : vertex_count t + others_before t (count t) ≤ count t
  unfolding vertex others_before
  all_few = omega (arith, keep_apart (is_declaration t) (declares_other t) other_undeclared (span 0 (count t)), span_long 0 (count t))

  pub offset_few : (v : ℕ) → v ≤ vertex_count t → offset_of t v ≤ count t
  unfolding offset_of
  offset_few v l = omega (arith, all_few, others_le (range_start t v) (count t) (range_below t v l))

-- ---- in the columns of a file's dictionary
module _ {t : Table} {keys nodes heads next : List ℕ} (P : Prepared t keys nodes heads next) where
  nodes_are : nodes ≡ declared_nodes t ++ before t (count t)
  unfolding entries
  nodes_are = P.nodes_is ∙ map-map (λ (e : Entry). e.node) (own_entry t) (declaring t) ∙ map-id (declaring t)

  declared_long : length (declared_nodes t) ≡ vertex_count t
  unfolding vertex
  declared_long = refl

  nodes_long : length nodes ≡ vertex_count t + others_before t (count t)
  nodes_long = omega (arith, ap length nodes_are, length-append (declared_nodes t) (before t (count t)), declared_long, before_long t (count t))

  keys_long : length keys ≡ length nodes
  keys_long = ap length P.keys_is ∙ length-map (entries t) _ ∙ sym (ap length P.nodes_is ∙ length-map (entries t) _)

  other_at : (e : ℕ) → vertex_count t ≤ e → e < length nodes → Ranked (declares_other t) 0 (count t) (e - vertex_count t) (get_or nodes e 0)
  other_at e l h =
      let k : ℕ = e - vertex_count t in
      let q : e ≡ length (declared_nodes t) + k = omega (arith, declared_long) in
      let at : get_or nodes e 0 ≡ get_or (before t (count t)) k 0 =
      ap (λ (ns : List ℕ). get_or ns e 0) nodes_are ∙ ap (λ (i : ℕ). get_or (declared_nodes t ++ before t (count t)) i 0) q
      ∙ get_or-append-add (declared_nodes t) (before t (count t)) k 0 in
      rw at (ranked (declares_other t) 0 (count t) k (omega (arith, nodes_long, before_long t (count t))))

  -- so many others come before its node
  other_rank : (e : ℕ) → vertex_count t ≤ e → e < length nodes → others_before t (get_or nodes e 0) ≡ e - vertex_count t
  unfolding others_before
  other_rank e l h = let z : get_or nodes e 0 - 0 ≡ get_or nodes e 0 = omega arith in rw z at (other_at e l h).rank

  module _ (r e : ℕ) (l : vertex_count t ≤ e) (h : e < length nodes) where
    other_low : e < vertex_count t + others_before t r → get_or nodes e 0 < r
    other_low b =
        ⊎_elim (λ (g : r ≤ get_or nodes e 0). absurd (omega (arith, others_le t r (get_or nodes e 0) g, other_rank e l h))) (λ g. g) (le_or r (get_or nodes e 0))

    other_high : vertex_count t + others_before t r ≤ e → r ≤ get_or nodes e 0
    other_high b =
        ⊎_elim (λ g. g)
        (λ (g : get_or nodes e 0 < r).
        let one : others_before t (get_or nodes e 0 + 1) ≡ others_before t (get_or nodes e 0) + 1 = let p = (other_at e l h).passes in let s = others_step t (get_or nodes e 0) in rw p at s in
        absurd (omega (arith, one, others_le t (get_or nodes e 0 + 1) r (omega arith), other_rank e l h)))
        (le_or r (get_or nodes e 0))

  -- ---- the offset, as it is found
  start_is : (v : ℕ) → v ≤ vertex_count t → start_in nodes v ≡ range_start t v
  start_is v l = by (eqb v 0) refl
    where
      by : (b : Bool) → eqb v 0 ≡ b → cond b 0 (get_or nodes (v - 1) 0 + 1) ≡ cond b 0 (node_of t (v - 1) + 1)
      by true e = refl
      by false e = ap (λ (k : ℕ). k + 1) (column_node P (v - 1) (omega (arith, eqb-false v 0 e)))

  pub back_offset : {v hi r : ℕ} → v ≤ vertex_count t → offset_of t v ≤ hi → hi ≤ length nodes → Back nodes (vertex_count t) hi (start_in nodes v) r → r ≡ offset_of t v
  unfolding offset_of
  back_offset {v} {hi} {r} l a b B =
      ⊎_elim
      (λ (g : offset_of t v ≤ r).
      ⊎_elim (λ (f : r ≤ offset_of t v). omega arith)
      (λ (f : offset_of t v < r).
      let x = other_high (range_start t v) (r - 1) (omega arith) (omega (arith, B.upto)) (omega arith) in
      absurd (omega (arith, x, B.before (omega arith), start_is v l)))
      (le_or r (offset_of t v)))
      (λ (g : r < offset_of t v).
      let x = other_low (range_start t v) r (B.down (omega arith)) (omega arith) (omega arith) in
      absurd (omega (arith, x, B.behind r (omega arith) (omega arith), start_is v l)))
      (le_or (offset_of t v) r)

  -- ---- the entries in a range
  module _ (v : ℕ) (l : v < vertex_count t) where
    abbrev mine : List ℕ
    mine = between t (range_start t v) (node_of t v)

    entries_are : map (λ (e : ℕ). get_or nodes e 0) (span (offset_of t v) (offset_of t (v + 1) - offset_of t v)) ≡ mine
    unfolding offset_of
    entries_are =
        let xs = declared_nodes t ++ before t (range_start t v) in
        let zs = between t (node_of t v) (count t) in
        let parts : before t (count t) ≡ before t (range_start t v) ++ (mine ++ zs) =
        before_parts t (node_of t v) (count t) (omega (arith, node_below t v l))
        ∙ ap (λ (b : List ℕ). b ++ zs) (before_parts t (range_start t v) (node_of t v) (range_rises t v l))
        ∙ append_assoc (before t (range_start t v)) mine zs in
        let whole : nodes ≡ xs ++ (mine ++ zs) =
        nodes_are ∙ ap (λ (b : List ℕ). declared_nodes t ++ b) parts ∙ sym (append_assoc (declared_nodes t) (before t (range_start t v)) (mine ++ zs)) in
        let from : offset_of t v ≡ length xs =
        omega (arith, length-append (declared_nodes t) (before t (range_start t v)), declared_long, before_long t (range_start t v)) in
        let long : offset_of t (v + 1) - offset_of t v ≡ length mine =
        omega (
          arith,
          offset_next t v l,
          before_long t (range_start t v),
          before_long t (node_of t v),
          ap length (before_parts t (range_start t v) (node_of t v) (range_rises t v l)),
          length-append (before t (range_start t v)) mine,
        ) in
        ap (λ (ns : List ℕ). map (λ (e : ℕ). get_or ns e 0) (span (offset_of t v) (offset_of t (v + 1) - offset_of t v))) whole
        ∙ ap₂ (λ (i d : ℕ). map (λ (e : ℕ). get_or (xs ++ (mine ++ zs)) e 0) (span i d)) from long
        ∙ at_middle xs mine zs

    -- THE ATTRIBUTES among them are those of the declaration
    pub range_attributes : attributes_between t.kinds nodes (offset_of t v) (offset_of t (v + 1)) ≡ attributes_of t v
    unfolding attributes_between attributes_of
    range_attributes =
        ap (keep (is_attribute t)) entries_are ∙ keep_wider (is_attribute t) (declares_other t) (attribute_other t) (span (range_start t v) (node_of t v - range_start t v))

    pub entry_fits : Scanned t → (e : ℕ) → offset_of t v ≤ e → e < offset_of t (v + 1) → Fits (symbol t) (length t.symbols) keys nodes e
    unfolding offset_of key_of
    entry_fits S e a b =
        let n = node_below t v l in
        let h : e < length nodes = omega (arith, offset_next t v l, others_le t (node_of t v) (count t) (omega arith), nodes_long) in
        let low = other_low (node_of t v) e (omega arith) h (omega (arith, offset_next t v l)) in
        let m : get_or nodes e 0 < count t = omega arith in
        let k = (entry_declares P e (omega (arith, keys_long))).key_is in
        record {
          node = omega (arith, P.consistent.few);
          key = omega (arith, k, P.consistent.small (get_or nodes e 0) m);
          below = symbol_within S P.consistent (get_or nodes e 0) m;
        }

    -- each stands in its range
    pub entry_owner : (e : ℕ) → offset_of t v ≤ e → e < offset_of t (v + 1) → owner t (get_or nodes e 0) ≡ node_of t v
    unfolding offset_of
    entry_owner e a b =
        let n = node_below t v l in
        let h : e < length nodes = omega (arith, offset_next t v l, others_le t (node_of t v) (count t) (omega arith), nodes_long) in
        let low = other_low (node_of t v) e (omega arith) h (omega (arith, offset_next t v l)) in
        let high = other_high (range_start t v) e (omega arith) h (omega arith) in
        range_owner t v (get_or nodes e 0) l high (omega (arith, low))

  pub offset_within : (v : ℕ) → v ≤ vertex_count t → offset_of t v ≤ length nodes
  unfolding offset_of
  offset_within v l = omega (arith, nodes_long, others_le t (range_start t v) (count t) (range_below t v l))
