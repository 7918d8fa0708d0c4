-- A phrase of the grammar leaves no more rows than it has tokens.
use mathlib.Core.List.{List}
use mathlib.Core.Path.{refl}
use Prim.Native.Nat.{ℕ, ◌≤◌}
use native.Mathlib.Omega.{arith}
use lib.ListN.{length}
use Rattle.ebnf.specs.Rows.{Rows}
use Rattle.ebnf.specs.Parse.{Result}
use Rattle.ebnf.proofs.Count as count
use Rattle.express.specs.Syntax.Grammar.{Nonterminal, file, schema, constants, constant, base, type_declaration, underlying, where_clause, domain_rule, entity, attributes}
use Rattle.express.specs.Syntax.Grammar.{derived, expression, sum, term, factor, operand, atom, interval, rules}
use Rattle.express.proofs.Syntax.Syntax.{express}
use Rattle.express.proofs.Syntax.Descent.{phrase}

-- the row of the file has no token of its own: a schema has one to spare
abbrev pub gain : Nonterminal → ℕ
gain schema = 1
gain file = 0
gain constants = 0
gain constant = 0
gain base = 0
gain type_declaration = 0
gain underlying = 0
gain where_clause = 0
gain domain_rule = 0
gain entity = 0
gain attributes = 0
gain derived = 0
gain expression = 0
gain sum = 0
gain term = 0
gain factor = 0
gain operand = 0
gain atom = 0
gain interval = 0

pub pays : count.Pays rules gain
pays file = (_, refl, omega arith)
pays schema = (_, refl, omega arith)
pays constants = (_, refl, omega arith)
pays constant = (_, refl, omega arith)
pays base = (_, refl, omega arith)
pays type_declaration = (_, refl, omega arith)
pays underlying = (_, refl, omega arith)
pays where_clause = (_, refl, omega arith)
pays domain_rule = (_, refl, omega arith)
pays entity = (_, refl, omega arith)
pays attributes = (_, refl, omega arith)
pays derived = (_, refl, omega arith)
pays expression = (_, refl, omega arith)
pays sum = (_, refl, omega arith)
pays term = (_, refl, omega arith)
pays factor = (_, refl, omega arith)
pays operand = (_, refl, omega arith)
pays atom = (_, refl, omega arith)
pays interval = (_, refl, omega arith)

abbrev pub Counted : ℕ → List ℕ → Nonterminal → Result Rows → Type 0
Counted i ts x y = count.Counted express pays ts x i y

pub phrase_counted : (ts : List ℕ) (x : Nonterminal) (i : ℕ) → i ≤ length ts → Counted i ts x (phrase ts x i)
phrase_counted ts x i l = count.phrase_counted express pays ts x i l
