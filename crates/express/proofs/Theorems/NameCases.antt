-- Small tables, run: what `names` says of each, and some bindings.
use mathlib.Core.Path.{◌≡◌, refl}
use mathlib.Core.List.{List, [], ◌∷◌, map, flat_map}
use Prim.Native.Nat.{ℕ}
use lib.ListN.{set, get_or}
use Rattle.relations.specs.Select.{span, first_from, keep, any}
use Rattle.express.specs.Syntax.Tree.{Table, owner, schema_of}
use Rattle.relations.specs.Reach.{added, closure}
use Rattle.express.specs.Names.Scope.{declarations, items, own, super_edges, renaming_edges, type_edges, inherited, candidates, type_meant, items_of, item_meant, means, binding}
use Rattle.express.specs.Names.Fault.{fault, fine, sort, scope, repeated, type_name_fault, cyclic, qualified, expression, constant_edges}
use Rattle.express.specs.Names.Names.{stages, least, first_fault, names}

-- a row: kind, token, size, role
pub data Row : Type 0 where
  row : ℕ → ℕ → ℕ → ℕ → Row

abbrev pub field : ℕ → Row → ℕ
field c (row k n z r) = get_or (k ∷ n ∷ z ∷ r ∷ []) c 0

-- token i starts at byte i, and is spelled like no other, unless a pair says so: a token, and the first that is spelled like it
infixl 70 ◌like◌
pub data Pair : Type 0 where
  ◌like◌ : ℕ → ℕ → Pair

abbrev pub alike : List Pair → List ℕ
alike [] = span 0 48
alike ((i like j) ∷ ps) = set (alike ps) i j

abbrev pub table : List Row → List Pair → Table
table rs ps =
    record {
      bytes = [];
      starts = span 0 48;
      lengths = [];
      terminals = [];
      symbols = alike ps;
      kinds = map (field 0) rs;
      tokens = map (field 1) rs;
      sizes = map (field 2) rs;
      roles = map (field 3) rs;
    }

-- SCHEMA s; CONSTANT a : INTEGER := 1; a : INTEGER := 2; ..
abbrev pub duplicate : Table
duplicate =
    table (row 13 6 1 0 ∷ row 1 8 1 0 ∷ row 17 4 3 0 ∷ row 13 12 1 0 ∷ row 1 14 1 0 ∷ row 17 10 3 0 ∷ row 25 1 7 0 ∷ row 26 0 8 0 ∷ [])
    (10 like 4 ∷ [])

-- CONSTANT red : INTEGER := 1; b : c := c.red; d : INTEGER := red; END_CONSTANT; TYPE c = ENUMERATION OF (red); ..
abbrev pub hidden : Table
hidden =
    table (row 13 6 1 0 ∷ row 1 8 1 0 ∷ row 17 4 3 0 ∷ row 6 12 1 2 ∷ row 7 16 1 0 ∷ row 17 10 3 0 ∷ row 13 20 1 0 ∷ row 6 22 1 1 ∷ row 17 18 3 0
    ∷ row 14 32 1 0 ∷ row 15 29 2 0 ∷ row 18 27 3 0 ∷ row 25 1 13 0 ∷ row 26 0 14 0 ∷ [])
    (14 like 12 ∷ 27 like 12 ∷ 16 like 4 ∷ 22 like 4 ∷ 32 like 4 ∷ [])

-- TYPE c = ENUMERATION OF (red); .. TYPE e = c; .. ENTITY f; WHERE e.red; ..
abbrev pub renaming : Table
renaming =
    table (row 14 8 1 0 ∷ row 15 5 2 0 ∷ row 18 3 3 0 ∷ row 6 15 1 3 ∷ row 18 13 2 0 ∷ row 7 25 1 0 ∷ row 23 23 2 2 ∷ row 24 19 3 0 ∷ row 25 1 9 0
    ∷ row 26 0 10 0 ∷ [])
    (15 like 3 ∷ 23 like 13 ∷ 25 like 8 ∷ [])

-- ENTITY a; x : INTEGER; .. ENTITY b SUBTYPE OF (a); .. ENTITY c SUBTYPE OF (a); .. ENTITY d SUBTYPE OF (b, c); WHERE x > 0; ..
abbrev pub diamond : Table
diamond =
    table (row 19 6 1 0 ∷ row 13 8 1 0 ∷ row 20 6 3 0 ∷ row 24 4 4 0 ∷ row 6 17 1 5 ∷ row 24 13 2 0 ∷ row 6 27 1 5 ∷ row 24 23 2 0 ∷ row 6 37 1 5
    ∷ row 6 39 1 5 ∷ row 6 43 1 1 ∷ row 1 45 1 0 ∷ row 10 44 3 0 ∷ row 23 43 4 2 ∷ row 24 33 7 0 ∷ row 25 1 16 0 ∷ row 26 0 17 0 ∷ [])
    (17 like 4 ∷ 27 like 4 ∷ 37 like 13 ∷ 39 like 23 ∷ 43 like 6 ∷ [])

-- ENTITY a; x : INTEGER; .. ENTITY b SUBTYPE OF (a); WHERE x : SELF; ..
abbrev pub clash : Table
clash =
    table (row 19 6 1 0 ∷ row 13 8 1 0 ∷ row 20 6 3 0 ∷ row 24 4 4 0 ∷ row 6 17 1 5 ∷ row 8 23 1 0 ∷ row 23 21 2 1 ∷ row 24 13 4 0 ∷ row 25 1 9 0
    ∷ row 26 0 10 0 ∷ [])
    (17 like 4 ∷ 21 like 6 ∷ [])

-- TYPE z = a; .. TYPE b = a; .. TYPE a = b; ..
abbrev pub circle : Table
circle =
    table (row 6 6 1 3 ∷ row 18 4 2 0 ∷ row 6 13 1 3 ∷ row 18 11 2 0 ∷ row 6 20 1 3 ∷ row 18 18 2 0 ∷ row 25 1 7 0 ∷ row 26 0 8 0 ∷ [])
    (13 like 6 ∷ 18 like 6 ∷ 20 like 11 ∷ [])

-- CONSTANT a : INTEGER := q; ..
abbrev pub lost : Table
lost = table (row 13 6 1 0 ∷ row 6 8 1 1 ∷ row 17 4 3 0 ∷ row 25 1 4 0 ∷ row 26 0 5 0 ∷ []) []

-- CONSTANT a : INTEGER := SELF; ..
abbrev pub itself : Table
itself = table (row 13 6 1 0 ∷ row 8 8 1 0 ∷ row 17 4 3 0 ∷ row 25 1 4 0 ∷ row 26 0 5 0 ∷ []) []

-- CONSTANT a : INTEGER := b; b : INTEGER := a; ..
abbrev pub mutual_constants : Table
mutual_constants =
    table (row 13 6 1 0 ∷ row 6 8 1 1 ∷ row 17 4 3 0 ∷ row 13 12 1 0 ∷ row 6 14 1 1 ∷ row 17 10 3 0 ∷ row 25 1 7 0 ∷ row 26 0 8 0 ∷ [])
    (10 like 8 ∷ 14 like 4 ∷ [])

-- ENTITY e; x : INTEGER; .. TYPE c = SELECT (e); WHERE x > 0; ..: a select inherits nothing
abbrev pub chosen : Table
chosen =
    table (row 19 6 1 0 ∷ row 13 8 1 0 ∷ row 20 6 3 0 ∷ row 24 4 4 0 ∷ row 6 17 1 4 ∷ row 16 15 2 0 ∷ row 6 22 1 1 ∷ row 1 24 1 0 ∷ row 10 23 3 0
    ∷ row 23 22 4 2 ∷ row 18 13 7 0 ∷ row 25 1 12 0 ∷ row 26 0 13 0 ∷ [])
    (17 like 4 ∷ 22 like 6 ∷ [])

pub said :
    map names (duplicate ∷ hidden ∷ renaming ∷ diamond ∷ clash ∷ circle ∷ lost ∷ itself ∷ mutual_constants ∷ chosen ∷ [])
    ≡ fault 9 10 ∷ fine ∷ fault 11 23 ∷ fine ∷ fault 12 21 ∷ fault 13 11 ∷ fault 10 8 ∷ fault 11 8 ∷ fault 13 4 ∷ fault 10 22 ∷ []
unfolding span first_from keep any flat_map owner schema_of added closure declarations items own super_edges renaming_edges type_edges inherited
    candidates type_meant items_of item_meant means sort scope repeated type_name_fault cyclic qualified expression constant_edges stages least
    first_fault names
said = refl

-- the item of a hidden name is found as `type.item`, the constant by its name; x of the diamond is one declaration
pub bound : binding hidden 4 ∷ binding hidden 7 ∷ binding diamond 10 ∷ [] ≡ 10 ∷ 3 ∷ 1 ∷ []
unfolding span first_from keep any flat_map owner schema_of added closure declarations items own super_edges inherited candidates type_meant items_of item_meant means binding
bound = refl
