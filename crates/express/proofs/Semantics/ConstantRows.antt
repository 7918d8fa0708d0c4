-- The rows of the constants: those of a schema stand together, behind those of earlier schemas, and a constant's row is its place among them all.
use mathlib.Core.Path.{◌≡◌}
use mathlib.Core.Bool.{true, ◌&&◌}
use mathlib.Core.List.{List, flat_map}
use Prim.Native.Nat.{ℕ, zero, suc, ◌+◌, ◌≤◌, ◌<◌}
use native.Mathlib.Omega.{arith}
use borrow.Author.Tests.{eqb-true, eq-eqb}
use lib.ListN.{length, get_or}
use Rattle.ebnf.specs.Set.{mem}
use Rattle.relations.specs.Select.{span, keep}
use Rattle.express.specs.Syntax.NodeKind as node
use Rattle.express.specs.Syntax.Tree.{Table, count, kind, nodes, is, schema_of}
use Rattle.express.specs.Syntax.Grammar.{file}
use Rattle.express.specs.Syntax.Syntax.{Read}
use Rattle.express.specs.Names.Scope.{visible}
use Rattle.express.specs.Semantics.Kind.{constants}
use Rattle.relations.proofs.Select.{mem_upto, upto_mem, mem_keep, ascending_span, ascending_keep, Climbs, flat, climb, keep_parts, placed}
use Rattle.express.proofs.Syntax.Within.{schema_over}
use Rattle.express.proofs.Names.Owned.{in_schema}
use Rattle.express.proofs.Semantics.Backward.{schema_rises}

abbrev pub schemas : Table → List ℕ
schemas t = keep (is t node.schema) (nodes t)

abbrev pub constants_of : Table → ℕ → List ℕ
constants_of t h = keep (λ c. is t node.constant c && visible t h c) (nodes t)

climbs : (t : Table) (lo i d : ℕ) → i + d ≤ count t → (i < count t → lo ≤ schema_of t i) → Climbs (is t node.constant) (schema_of t) lo (span i d)
unfolding span
climbs t lo i zero h l = flat
climbs t lo i (suc d) h l = climb (l (omega arith)) (climbs t (schema_of t i) (suc i) d (omega arith) (λ k. schema_rises t i (suc i) (omega arith) (omega arith)))

-- THE CONSTANTS OF A FILE are those of its schemas, one after the other
pub constants_by_schema : {t : Table} → Read file t → constants t ≡ flat_map (constants_of t) (schemas t)
unfolding mem
constants_by_schema {t} d =
    keep_parts (is t node.constant) (schema_of t) (climbs t 0 0 (count t) (omega arith) (λ k. omega arith)) (ascending_keep (is t node.schema) (ascending_span 0 (count t)))
    (λ c m k.
    let l = upto_mem (count t) c m in
    let e = eqb-true (kind t c) node.constant k in
    let s = schema_over d c (in_schema d c l (rw e)).0 in
    mem_keep (is t node.schema) (nodes t) (mem_upto (count t) (schema_of t c) s.0.known) (eq-eqb _ _ s.1))

-- THE ROW OF A CONSTANT: how many stand before it; it is in range, and leads back
abbrev pub row : Table → ℕ → ℕ
row t c = length (keep (is t node.constant) (span 0 c))

pub row_placed : (t : Table) (c : ℕ) → c < count t → is t node.constant c ≡ true → (row t c < length (constants t)) × (get_or (constants t) (row t c) 0 ≡ c)
row_placed t c l h = let P = placed (is t node.constant) (count t) c l h in (P.within, P.there)
