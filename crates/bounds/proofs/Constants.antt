-- How many constants a file of so many tokens can have: each has six tokens of its own, by the same test of the grammar (`constants_few`).
use mathlib.Core.Path.{◌≡◌, refl}
use mathlib.Core.Bool.{true, cond}
use Prim.Native.Nat.{ℕ, ◌*◌, ◌≤◌}
use native.Mathlib.Omega.{arith}
use lib.Dec.{eqb}
use lib.ListN.{length}
use Rattle.express.specs.Syntax.NodeKind as kind
use Rattle.express.specs.Syntax.Tree.{Table, is}
use Rattle.express.specs.Syntax.Grammar.{Nonterminal, file, schema, constants, constant, base, type_declaration, underlying, where_clause, domain_rule, entity}
use Rattle.express.specs.Syntax.Grammar.{attributes, derived, expression, sum, term, factor, operand, atom, interval, rules}
use Rattle.express.specs.Syntax.Syntax.{Read}
use Rattle.express.specs.Semantics.Kind as kinds
use Rattle.bounds.proofs.Weight.{Scale, pays}
use Rattle.bounds.proofs.Bounds.{kept_few}

-- the phrases that leave a token: what a constant is declared with, and an expression
abbrev leaves : Nonterminal → ℕ
leaves file = 0
leaves schema = 0
leaves constants = 0
leaves constant = 0
leaves base = 1
leaves type_declaration = 0
leaves underlying = 0
leaves where_clause = 0
leaves domain_rule = 0
leaves entity = 0
leaves attributes = 0
leaves derived = 0
leaves expression = 1
leaves sum = 1
leaves term = 1
leaves factor = 1
leaves operand = 1
leaves atom = 1
leaves interval = 1

-- 6 for a constant
abbrev constant_scale : Scale Nonterminal
constant_scale = record { row = λ k o. cond (eqb k kind.constant) 6 0; loan = λ x. 0; gain = leaves }

passes : (x : Nonterminal) → pays constant_scale rules x ≡ true
passes file = refl
passes schema = refl
passes constants = refl
passes constant = refl
passes base = refl
passes type_declaration = refl
passes underlying = refl
passes where_clause = refl
passes domain_rule = refl
passes entity = refl
passes attributes = refl
passes derived = refl
passes expression = refl
passes sum = refl
passes term = refl
passes factor = refl
passes operand = refl
passes atom = refl
passes interval = refl

-- CONSTANTS: each has six tokens
pub constants_few : {t : Table} → Read file t → 6 * length (kinds.constants t) ≤ length t.terminals
constants_few {t} R = kept_few R constant_scale passes refl 6 (is t kind.constant) (λ n e. rw e (omega arith))
