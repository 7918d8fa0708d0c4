-- What the nodes of each declaration inherit, stored from the last declaration to the first.
use mathlib.Core.Path.{◌≡◌, refl, sym, ap, ◌∙◌}
use mathlib.Core.Bool.{true, false}
use mathlib.Core.List.{List}
use Prim.Native.Nat.{ℕ, ◌+◌, ◌-◌, ◌*◌, ◌≤◌, ◌<◌, min}
use native.Mathlib.Nat.{mul-le-mul}
use native.Mathlib.Omega.{arith}
use lib.ListN.{length, get_or}
use Rattle.express.specs.Syntax.Tree.{Table, count, symbol}
use Rattle.express.specs.Names.Scope.{inherited, meaning}
use Rattle.scopes.specs.Range.{vertex_count, node_of, range_start, DeclarationAt}
use Rattle.scopes.specs.declared.Extent.{Extent}
use Rattle.scopes.proofs.Ranges.{column_node}
use Rattle.symbol_tables.specs.Entry.{code}
use Rattle.symbol_tables.proofs.Symbols.{symbol_within}
use Rattle.attribute_chains.specs.Chains.{offset_limit, FindsAmong}
use Rattle.bit_rows.specs.Bits.{word}
use Rattle.ancestors.specs.Rows.{width_limit}
use Rattle.inheritance.specs.Inheritance.{ColumnsOf, Inheriting}
use Rattle.inheritance.specs.Steps.{inherits_by, StoredFrom}
use Rattle.inheritance.proofs.Doing.{spelling, graph_is, stored_end, stored_skip, stored_each, inherits_entity}
use Rattle.row_inheritance.specs.Ranks.{rank_in}
use Rattle.row_inheritance.specs.Steps.{StoresFound, Ready, StoresInherited}
use Rattle.row_inheritance.proofs.Ranking.{rank_within, before_few}
use Rattle.row_inheritance.proofs.Reached.{Numbered, chosen_inherited}

-- no row begins too far behind
start_near : (a b : ℕ) → a ≤ 65536 → b ≤ 65536 → a * b * word ≤ offset_limit
start_near a b h k = let m : a * b ≤ 65536 * 65536 = mul-le-mul h k in omega (arith, m)

module _ {kinds tokens roles symbols keys nodes first to table rows pairs : List ℕ} {width : ℕ} {t : Table} {was : List ℕ}
    (X : Ready t kinds tokens roles symbols keys nodes first to table rows pairs width was) (v : ℕ) (l : v < vertex_count t)
    {bound bound' : List ℕ} (same : length bound ≡ length was) (D : StoredFrom t was (v + 1) bound)
    (e : inherits_by kinds first (node_of t v) v ≡ true) {base : ℕ} (b : base ≡ get_or table (length symbols + v) 0 * width * word)
    (W : StoresFound kinds tokens roles symbols table rows pairs base (range_start t v) (node_of t v) bound bound') where
  C : ColumnsOf t kinds tokens roles symbols
  C = X.columns

  I : Inheriting t keys nodes first to
  I = X.inheriting

  numbered : Numbered t kinds nodes
  numbered = record { kinds_are = C.kinds_are; node_is = column_node I.prepared }

  row : base ≡ rank_in kinds nodes v * width * word
  row = b ∙ ap (λ (n : ℕ). get_or table (n + v) 0 * width * word) (sym (ap length C.symbols_are)) ∙ ap (λ (r : ℕ). r * width * word) (X.charted.ranks v l)

  near : base ≤ offset_limit
  near =
      let r = rank_within kinds nodes v (vertex_count t) l in
      let f = before_few kinds nodes (vertex_count t) in
      rw row (start_near (rank_in kinds nodes v) width (omega (arith, r, f, X.few)) X.narrow)

  found_inherited : (n x : ℕ) → n < count t → FindsAmong rows pairs base (get_or table (get_or symbols (get_or tokens n 0) 0) 0) x
      → x ≡ code (meaning (inherited t (node_of t v) (symbol t n)))
  found_inherited n x ln F =
      let s = spelling C I n in
      let F' : FindsAmong rows pairs (rank_in kinds nodes v * width * word) (get_or table (symbol t n) 0) x = rw (row, s) at F in
      let near' : rank_in kinds nodes v * width * word ≤ offset_limit = rw row at near in
      F'.is near' _ _ (X.charted.chained.is (symbol t n) (symbol_within I.scanned I.prepared.consistent n ln))
      ∙ ap code (chosen_inherited numbered (graph_is C I) I.read I.right X.rows_are v l (inherits_entity C I v e) (symbol t n))

  stored_more : StoredFrom t was v bound'
  stored_more = stored_each C I v l X.empty D (omega (arith, X.room, same)) found_inherited W

-- ---- the first bit of a row
module _ (width : ℕ) {rank r w : ℕ} (p : r ≡ rank) (q : w ≡ min width 65536) where
  start_low : rank < 4294967296 → r * w ≤ 4294967296 * 65536
  start_low h =
      let a : r ≤ 4294967296 = omega (arith, p) in
      let b : w ≤ 65536 = omega (arith, q) in
      mul-le-mul a b

  pub start_fits : rank < 4294967296 → r * w < 18446744073709551616
  start_fits h = omega (arith, start_low h)

  pub start_fits_bits : rank < 4294967296 → r * w * word < 18446744073709551616
  start_fits_bits h = omega (arith, start_low h)

  pub start_is : width ≤ 65536 → r * w * word ≡ rank * width * word
  start_is h = let e : w ≡ width = omega (arith, q) in rw (p, e)

-- what is found for the head of a symbol
pub found_told : {rows pairs : List ℕ} (heads : List ℕ) {base h i x s r : ℕ} → FindsAmong rows pairs base h r → h ≡ get_or heads i 0 → i ≡ x → x ≡ s
    → FindsAmong rows pairs base (get_or heads s 0) r
found_told heads F p q e = let z = p ∙ ap (λ (n : ℕ). get_or heads n 0) (q ∙ e) in rw z at F

-- ---- the loop of `store_declarations`
pub record Descending (kinds tokens roles symbols keys nodes first table rows pairs : List ℕ) (width : ℕ) (bound₁ bound : List ℕ) (v : ℕ) : Type 0 where
  pub within : v ≤ length first - 1
  pub long : length bound ≡ length bound₁
  pub is : (t : Table) (to : List ℕ) → Ready t kinds tokens roles symbols keys nodes first to table rows pairs width bound₁ → StoredFrom t bound₁ v bound

module _ {kinds tokens roles symbols keys nodes first table rows pairs : List ℕ} {width : ℕ} where
  pub descending_starts : {bound : List ℕ} {v : ℕ} → v ≡ length first - 1 → Descending kinds tokens roles symbols keys nodes first table rows pairs width bound bound v
  descending_starts {bound} {v} e =
      record {
        within = omega (arith, e);
        long = refl;
        is =
            λ t to X.
            let q : v ≡ vertex_count t = omega (arith, e, X.inheriting.graph.long) in
            rw q (stored_end X.columns X.inheriting {was = bound} X.empty);
      }

  module _ {bound₁ bound : List ℕ} {v : ℕ} (s : Descending kinds tokens roles symbols keys nodes first table rows pairs width bound₁ bound v) where
    pub descending_ends : v ≤ 0 → StoresInherited kinds tokens roles symbols keys nodes first table rows pairs width bound₁ bound
    descending_ends l = let z : v ≡ 0 = omega arith in record { is = λ t to X. rw z at (s.is t to X) }

    module _ (l : 0 < v) {d : Extent} (E : DeclarationAt keys nodes (v - 1) d) where
      -- what is stored from the declaration behind on
      stored_next : (t : Table) (to : List ℕ) → Ready t kinds tokens roles symbols keys nodes first to table rows pairs width bound₁ → StoredFrom t bound₁ (v - 1 + 1) bound
      stored_next t to X = let back : v - 1 + 1 ≡ v = omega arith in rw back (s.is t to X)

      pub descending_skip : inherits_by kinds first d.node (v - 1) ≡ false → Descending kinds tokens roles symbols keys nodes first table rows pairs width bound₁ bound (v - 1)
      descending_skip e =
          record {
            within = omega (arith, s.within);
            long = s.long;
            is =
                λ t to X.
                let I = X.inheriting in
                let k : v - 1 < vertex_count t = omega (arith, s.within, I.graph.long) in
                let n = E.node_is t I.entry_heads I.entry_next I.prepared k in
                stored_skip X.columns I (v - 1) k X.empty (stored_next t to X) (rw n at e);
          }

      pub descending_more : {rank base : ℕ} {bound' : List ℕ} → inherits_by kinds first d.node (v - 1) ≡ true → rank ≡ get_or table (length symbols + (v - 1)) 0
          → (width ≤ width_limit → base ≡ rank * width * word) → StoresFound kinds tokens roles symbols table rows pairs base d.from d.node bound bound'
          → length bound' ≡ length bound → Descending kinds tokens roles symbols keys nodes first table rows pairs width bound₁ bound' (v - 1)
      descending_more {rank} {base} {bound'} e p b W q =
          record {
            within = omega (arith, s.within);
            long = q ∙ s.long;
            is =
                λ t to X.
                let I = X.inheriting in
                let k : v - 1 < vertex_count t = omega (arith, s.within, I.graph.long) in
                let n = E.node_is t I.entry_heads I.entry_next I.prepared k in
                let f = E.from_is t I.entry_heads I.entry_next I.prepared k in
                let W' : StoresFound kinds tokens roles symbols table rows pairs base (range_start t (v - 1)) (node_of t (v - 1)) bound bound' = rw (n, f) at W in
                stored_more X (v - 1) k s.long (stored_next t to X) (rw n at e) (b X.narrow ∙ ap (λ (x : ℕ). x * width * word) p) W';
          }
