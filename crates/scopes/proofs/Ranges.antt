-- The declarations by number, and the nodes of each: each node lies in the range of its owner.
use mathlib.Core.Path.{◌≡◌, refl, sym, ap, ◌∙◌}
use mathlib.Core.Logic.{⊎_elim}
use mathlib.Core.Bool.{Bool, true, false, cond, false≢true}
use mathlib.Core.List.{List}
use Prim.Native.Nat.{ℕ, zero, suc, ◌+◌, ◌-◌, ◌/◌, ◌%◌, ◌≤◌, ◌<◌}
use native.Mathlib.Omega.{arith}
use native.Mathlib.Numerals.{add-one}
use borrow.Author.Tests.{eqb-true, eqb-false, eq-eqb, ne_eqb}
use lib.Dec.{eqb}
use lib.ListN.{length, get_or}
use Rattle.relations.proofs.Select.{le_or, first_is, first_of, untrue, placed}
use Rattle.express.specs.Syntax.Tree.{Table, count, is_declaration, owner, schema_of, symbol}
use Rattle.express.specs.Names.Scope as express
use Rattle.express.specs.Names.Fault.{sort, scope}
use Rattle.scopes.specs.Entries.{declared, radix, key_of, own_key, vertex}
use Rattle.scopes.specs.Preparation.{Prepared}
use Rattle.scopes.specs.LookUp.{Means}
use Rattle.scopes.specs.Range.{vertex_count, node_of, range_start, DeclarationAt}
use Rattle.scopes.specs.declared.Extent.{Extent}
use Rattle.scopes.specs.declared.look_ups.Meaning.{Meaning}
use Rattle.scopes.specs.declared.look_ups.Meaning.TheVariants.{One}
use Rattle.scopes.proofs.Sorting.{declared_sort, schema_below}
use Rattle.scopes.proofs.Passing.{vertex_step, vertex_le, vertex_none}
use Rattle.scopes.proofs.Numbering.{Vertex, ranked, vertex_node, declared_number, declared_some, number_key, declared_entry}

module _ (t : Table) where
  -- ---- nodes and numbers

  pub number_vertex : (v : ℕ) → v < vertex_count t → Vertex t v (node_of t v)
  unfolding vertex
  number_vertex v l =
      let R = ranked (is_declaration t) 0 (count t) v l in
      let z : node_of t v - 0 ≡ node_of t v = omega arith in
      record { node = omega (arith, R.upto); declares = R.passes; number = rw z at R.rank }

  module _ (v : ℕ) (l : v < vertex_count t) where
    pub node_below : node_of t v < count t
    node_below = (number_vertex v l).node

    pub node_declares : is_declaration t (node_of t v) ≡ true
    node_declares = (number_vertex v l).declares

    pub node_number : vertex t (node_of t v) ≡ v
    node_number = (number_vertex v l).number

  -- what declares has a number of its own
  vertex_after : (m : ℕ) → is_declaration t m ≡ true → vertex t (m + 1) ≡ vertex t m + 1
  vertex_after m d = vertex_step t m ∙ rw d

  module _ (m : ℕ) (l : m < count t) (d : is_declaration t m ≡ true) where
    pub number_below : vertex t m < vertex_count t
    number_below = omega (arith, vertex_after m d, vertex_le t (m + 1) (count t) (omega arith))

    pub number_node : node_of t (vertex t m) ≡ m
    unfolding vertex
    number_node = (placed (is_declaration t) (count t) m l d).there

  pub nodes_rise : (v w : ℕ) → v < w → w < vertex_count t → node_of t v < node_of t w
  nodes_rise v w l h =
      ⊎_elim
      (λ (g : node_of t w ≤ node_of t v). absurd (omega (arith, vertex_le t (node_of t w) (node_of t v) g, node_number v (omega arith), node_number w h)))
      (λ g. g) (le_or (node_of t w) (node_of t v))

  -- ---- ranges

  pub range_next : (v : ℕ) → range_start t (v + 1) ≡ node_of t v + 1
  range_next v = let e : v + 1 - 1 ≡ v = omega arith in rw (ne_eqb (v + 1) 0 (λ q. omega (arith, q)), e)

  -- so many declarations stand before a range
  start_vertex : (v : ℕ) → v ≤ vertex_count t → vertex t (range_start t v) ≡ v
  start_vertex zero l = vertex_none t
  start_vertex (suc v) l =
      let n : v < vertex_count t = omega arith in
      let e : vertex t (node_of t v + 1) ≡ suc v = omega (arith, vertex_after (node_of t v) (node_declares v n), node_number v n) in
      let s : range_start t (suc v) ≡ node_of t v + 1 = rw add-one at (range_next v) in
      ap (vertex t) s ∙ e

  pub range_below : (v : ℕ) → v ≤ vertex_count t → range_start t v ≤ count t
  range_below zero l = omega arith
  range_below (suc v) l =
      let s : range_start t (suc v) ≡ node_of t v + 1 = rw add-one at (range_next v) in omega (arith, s, node_below v (omega arith))

  pub range_rises : (v : ℕ) → v < vertex_count t → range_start t v ≤ node_of t v
  range_rises zero l = omega arith
  range_rises (suc v) l =
      let s : range_start t (suc v) ≡ node_of t v + 1 = rw add-one at (range_next v) in omega (arith, s, nodes_rise v (suc v) (omega arith) l)

  -- in a range no declaration stands before its own
  pub range_free : (v k : ℕ) → v ≤ vertex_count t → range_start t v ≤ k → vertex t (k + 1) ≤ v → is_declaration t k ≡ false
  range_free v k l f u =
      untrue (is_declaration t k) (λ d. absurd (omega (arith, start_vertex v l, vertex_le t (range_start t v) k f, vertex_after k d)))

  pub range_owner : (v n : ℕ) → v < vertex_count t → range_start t v ≤ n → n ≤ node_of t v → owner t n ≡ node_of t v
  unfolding owner
  range_owner v n l f u =
      first_of (is_declaration t) (count t) n (node_of t v) u (node_below v l) (node_declares v l)
      (λ j h g.
      range_free v j (omega arith) (omega arith) (omega (arith, vertex_le t (j + 1) (node_of t v) (omega arith), node_number v l)))

  -- behind the last declaration nothing is owned
  pub range_end : (n : ℕ) → n ≤ count t → range_start t (vertex_count t) ≤ n → owner t n ≡ count t
  unfolding owner
  range_end n l f =
      let F = first_is (is_declaration t) n (count t - n) in
      ⊎_elim (λ (h : count t ≤ owner t n). omega (arith, h, F.upto))
      (λ (h : owner t n < count t).
      absurd (false≢true (sym (range_free (vertex_count t) (owner t n) (omega arith) (omega (arith, F.from)) (vertex_le t (owner t n + 1) (count t) (omega arith))) ∙ F.passes (omega arith))))
      (le_or (count t) (owner t n))

-- THE RANGE of a node: that of its owner
pub record InRange (t : Table) (n v : ℕ) : Type 0 where
  pub number : v < vertex_count t
  pub from : range_start t v ≤ n
  pub upto : n ≤ node_of t v
  pub node_is : node_of t v ≡ owner t n

pub owner_range : (t : Table) (n : ℕ) → n < count t → owner t n < count t → InRange t n (vertex t (owner t n))
unfolding owner
owner_range t n l o =
    let F = first_is (is_declaration t) n (count t - n) in
    let d : is_declaration t (owner t n) ≡ true = F.passes (omega arith) in
    let back = number_node t (owner t n) o d in
    let low = number_below t (owner t n) o d in
    record { number = low; from = from (vertex t (owner t n)) low back F.none; upto = omega (arith, F.from, back); node_is = back }
  where
    from : (v : ℕ) → v < vertex_count t → node_of t v ≡ owner t n → ((j : ℕ) → n ≤ j → j < owner t n → is_declaration t j ≡ false) → range_start t v ≤ n
    from zero h e none = omega arith
    from (suc v) h e none =
        let s : range_start t (suc v) ≡ node_of t v + 1 = rw add-one at (range_next t v) in
        ⊎_elim
        (λ (g : n ≤ node_of t v). absurd (false≢true (sym (none (node_of t v) g (omega (arith, e, nodes_rise t v (suc v) (omega arith) h))) ∙ node_declares t v (omega arith))))
        (λ g. omega (arith, s, g)) (le_or n (node_of t v))

-- ---- in the columns of a file's dictionary
module _ {t : Table} {keys nodes heads next : List ℕ} (P : Prepared t keys nodes heads next) where
  pub column_node : (v : ℕ) → v < vertex_count t → get_or nodes v 0 ≡ node_of t v
  column_node v l =
      let D = vertex_node P v l in
      sym (number_node t (get_or nodes v 0) D.node D.declares) ∙ ap (node_of t) D.number

  module _ (v : ℕ) (l : v < vertex_count t) where
    abbrev m : ℕ
    m = node_of t v

    pub column_key : get_or keys v 0 ≡ key_of declared (schema_of t m) (symbol t m)
    unfolding scope
    column_key =
        let d = node_declares t v l in
        let e : sort t m ≡ declared = eqb-true (sort t m) declared (declared_sort t m ∙ d) in
        let k : get_or keys (vertex t m) 0 ≡ own_key t m =
        rw (declared_number t m d) at (number_key P m (node_below t v l) (declared_some t m d)) in
        ap (λ (i : ℕ). get_or keys i 0) (sym (node_number t v l)) ∙ k ∙ rw e

    pub column_schema : get_or keys v 0 / radix % radix ≡ schema_of t m
    unfolding key_of
    column_schema =
        let h = schema_below t m (omega (arith, node_below t v l)) in
        omega (arith, column_key, h, P.consistent.few, P.consistent.small m (node_below t v l))

  pub column_start : (v : ℕ) → v < vertex_count t → cond (eqb v 0) 0 (get_or nodes (v - 1) 0 + 1) ≡ range_start t v
  column_start v l = by (eqb v 0) refl
    where
      by : (b : Bool) → eqb v 0 ≡ b → cond b 0 (get_or nodes (v - 1) 0 + 1) ≡ cond b 0 (node_of t (v - 1) + 1)
      by true e = refl
      by false e = ap (λ (k : ℕ). k + 1) (column_node (v - 1) (omega (arith, eqb-false v 0 e)))

declaration_at :
    {keys nodes : List ℕ} {v : ℕ} {d : Extent} → d.node ≡ get_or nodes v 0 → d.from ≡ cond (eqb v 0) 0 (get_or nodes (v - 1) 0 + 1) →
    d.schema ≡ get_or keys v 0 / radix % radix → DeclarationAt keys nodes v d
declaration_at {v = v} n f s =
    record {
      node_is = λ t h x P l. n ∙ column_node P v l;
      from_is = λ t h x P l. f ∙ column_start P v l;
      schema_is = λ t h x P l. s ∙ column_schema P v l;
    }

-- by what was read: of the first number, and of a later one
module _ {keys nodes : List ℕ} {v key node : ℕ} {d : Extent} (k : key ≡ get_or keys v 0) (s : d.schema ≡ key / radix % radix) (n : node ≡ get_or nodes v 0) (e : d.node ≡ node) where
  pub declaration_first : v ≡ 0 → d.from ≡ 0 → DeclarationAt keys nodes v d
  declaration_first z f = declaration_at (e ∙ n) (f ∙ ap (λ (b : Bool). cond b 0 (get_or nodes (v - 1) 0 + 1)) (sym (eq-eqb v 0 z))) (s ∙ ap (λ (x : ℕ). x / radix % radix) k)

  pub declaration_later : (v ≡ 0 → ⊥) → {before : ℕ} → before ≡ get_or nodes (v - 1) 0 → {b : ℕ} → b ≡ before → d.from ≡ b + 1 → DeclarationAt keys nodes v d
  declaration_later z q p f =
      declaration_at (e ∙ n)
      (f ∙ ap (λ (x : ℕ). x + 1) (p ∙ q) ∙ ap (λ (b : Bool). cond b 0 (get_or nodes (v - 1) 0 + 1)) (sym (ne_eqb v 0 z)))
      (s ∙ ap (λ (x : ℕ). x / radix % radix) k)

-- A LOOK-UP OF A DECLARATION that gives one entry gives its number
pub record Numbered (t : Table) (nodes : List ℕ) (h s e : ℕ) : Type 0 where
  pub number : e < vertex_count t
  pub node_is : get_or nodes e 0 ≡ node_of t e
  pub meant : express.meaning (express.declarations t h s) ≡ express.one (node_of t e)

pub declared_meant :
    {t : Table} {keys nodes heads next : List ℕ} {h s e : ℕ} {r : Meaning} → Prepared t keys nodes heads next →
    Means keys heads next (λ t. express.declarations t h s) r → r ≡ One e → Numbered t nodes h s e
declared_meant {t} {keys} {nodes} {heads} {next} {h} {s} {e} {r} P M q =
    let W : e < length keys = rw q at M.within in
    let m : express.one (get_or nodes e 0) ≡ express.meaning (express.declarations t h s) = rw q at (M.is t nodes P) in
    let D = declared_entry P h s e W m in
    let low : e < vertex_count t = omega (arith, number_below t (get_or nodes e 0) D.node D.declares, D.number) in
    record { number = low; node_is = column_node P e low; meant = sym m ∙ ap express.one (column_node P e low) }
