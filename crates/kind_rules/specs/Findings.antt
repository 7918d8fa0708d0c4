-- What is found at a node, from the numbers of kinds and of declared types.
use Rattle.std.specs.Prelude.{◌≡◌, cond, ◌&&◌, ℕ, eqb, Result, Ok, Err}
use Rattle.std.proofs.Math.Option.{Option, none, some}
use Rattle.express.specs.Tokens.Terminal.{the}
use Rattle.express.specs.Tokens.Terminal as word
use Rattle.express.specs.Syntax.NodeKind as node
use Rattle.express.specs.Semantics.Declared.{Declared}
use Rattle.express.specs.Semantics.DeclaredColumn.{declared_number}
use Rattle.express.specs.Semantics.Shape.{Operator, plus, arithmetic, relation, connective, Sign, positive, negative, not}
use Rattle.express.specs.Semantics.Operate.{Kind, integers, logicals, binaries, strings, undetermined, untyped, integral, truthful, summable, comparable}
use Rattle.express.specs.Semantics.Kind.{of_number, common, kind_of_type, of_kind, fault, if_fits, if_evaluated}
use Rattle.express.specs.Semantics.Kind as express
use Rattle.kind_rules.specs.declared.Class.{Class}
use Rattle.kind_rules.specs.declared.Class.TheVariants.{Plus, Arithmetic, Relation, Connective, Unevaluated}
use Rattle.kind_rules.specs.declared.Fault.{Fault}
use Rattle.kind_rules.specs.declared.Fault.TheVariants.{NotEvaluated, Misfit}

-- the reply to a fault
abbrev pub reply_of : Fault → ℕ
reply_of NotEvaluated = 14
reply_of Misfit = 15

-- a node's kind by its number, or the reply, as express has it
abbrev pub finding_of : Result ℕ Fault → express.Finding
finding_of (Ok k) = of_kind (of_number k)
finding_of (Err f) = fault (reply_of f)

-- K7, K10: the class of a two-operand operator, and of none, which is `/`
abbrev pub class_of : Option Operator → Class
class_of none = Unevaluated
class_of (some plus) = Plus
class_of (some (arithmetic o)) = Arithmetic
class_of (some (relation o)) = Relation
class_of (some (connective o)) = Connective

-- K7: a sign takes and gives what arithmetic does, NOT what connectives do
abbrev pub class_of_sign : Sign → Class
class_of_sign positive = Arithmetic
class_of_sign negative = Arithmetic
class_of_sign not = Connective

-- K7 to K10: what an operator of a class makes of operands of a kind
abbrev pub applied : Class → Kind → express.Finding
applied Plus k = if_fits (summable k) k
applied Arithmetic k = if_fits (integral k) integers
applied Relation k = if_fits (comparable k) logicals
applied Connective k = if_fits (truthful k) logicals
applied Unevaluated k = fault 14

-- K5, K10: a node that has neither operands nor a name, and is no type, by its kind and its terminal
abbrev pub leaf_found : ℕ → ℕ → express.Finding
leaf_found k w =
    cond (eqb k node.integer_literal) (of_kind integers)
    (cond (eqb k node.binary_literal) (of_kind binaries)
    (cond (eqb k node.logical_literal) (of_kind logicals)
    (cond (eqb k node.other_literal && eqb w (the word.string)) (of_kind strings)
    (cond (eqb k node.question) (of_kind undetermined) (cond (eqb k node.interval_operator) (of_kind untyped) (fault 14))))))

-- K4: the kind of a declared type, by their numbers
pub record KindOfType (number r : ℕ) : Type 0 where
  pub is : (d : Declared) → number ≡ declared_number d → of_number r ≡ kind_of_type d

-- K3: a kind where a declared type of that number is evaluated
pub record Evaluated (number k : ℕ) (r : Result ℕ Fault) : Type 0 where
  pub is : (d : Declared) → number ≡ declared_number d → finding_of r ≡ if_evaluated d (of_number k)

-- K9: a constant that is declared with a type of that number
pub record Held (number value : ℕ) (r : Result ℕ Fault) : Type 0 where
  pub is :
      (d : Declared) → number ≡ declared_number d →
      finding_of r ≡ if_fits (comparable (common (kind_of_type d) (of_number value))) (kind_of_type d)
