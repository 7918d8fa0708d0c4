-- Which nodes ask: a declaration does not, nor is it an attribute.
use mathlib.Core.Path.{◌≡◌, refl, sym, ◌∙◌}
use mathlib.Core.Bool.{Bool, true, false, ◌&&◌, ◌||◌}
use Prim.Native.Nat.{ℕ}
use lib.Dec.{eqb}
use Rattle.express.specs.Syntax.NodeKind.{name, rule, in_expression}
use Rattle.express.specs.Syntax.Tree.{Table, kind, is_declaration, is_attribute}
use Rattle.express.proofs.Names.Owned.{Declaring, a_constant, a_type, an_entity, declaring}
use Rattle.inheritance.specs.Inheritance.{asks}
use Rattle.attributes.specs.Attributes.{attribute_kind}
use Rattle.inheritance.specs.Steps.{asks_by}

-- what goes by the role, put together
asks_joined : (a b r m : Bool) → (((a || b) && r) || m) ≡ ((a && r) || (m || b && r))
asks_joined true b true m = refl
asks_joined true b false true = refl
asks_joined true true false false = refl
asks_joined true false false false = refl
asks_joined false true true true = refl
asks_joined false true true false = refl
asks_joined false true false true = refl
asks_joined false true false false = refl
asks_joined false false r true = refl
asks_joined false false r false = refl

pub asks_told : (kind role : ℕ) {x y z r : Bool} → x ≡ (eqb kind name || eqb kind rule) → y ≡ (x && eqb role in_expression) → z ≡ attribute_kind kind → r ≡ (y || z) → r ≡ asks_by kind role
asks_told kind role a b c d = d ∙ rw (b, a, c) (asks_joined (eqb kind name) (eqb kind rule) (eqb role in_expression) (attribute_kind kind))

-- the same of what the columns hold
pub asks_at : {a b k r : ℕ} {x v : Bool} → k ≡ a → r ≡ b → x ≡ asks_by k r → x ≡ v → asks_by a b ≡ v
asks_at p q h e = rw (← p, ← q) (sym h ∙ e)

pub declaration_silent : (t : Table) (n : ℕ) → is_declaration t n ≡ true → asks t n ≡ false
declaration_silent t n d = by (declaring t n d)
  where
    by : Declaring (kind t n) → asks t n ≡ false
    by (a_constant e) = rw e
    by (a_type e) = rw e
    by (an_entity e) = rw e

pub declaration_other : (t : Table) (n : ℕ) → is_declaration t n ≡ true → is_attribute t n ≡ false
declaration_other t n d = by (declaring t n d)
  where
    by : Declaring (kind t n) → is_attribute t n ≡ false
    by (a_constant e) = rw e
    by (a_type e) = rw e
    by (an_entity e) = rw e
