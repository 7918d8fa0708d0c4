-- The role of each node of a file that is read is below 256: no rule of the grammar gives a larger one, so a row with one may weigh more than the file has tokens.
use mathlib.Core.Path.{◌≡◌, refl}
use mathlib.Core.Logic.{⊎_elim}
use mathlib.Core.Bool.{true, cond}
use Prim.Native.Nat.{ℕ, suc, ◌≤◌, ◌<◌}
use native.Mathlib.Omega.{arith}
use borrow.Author.Tests.{le-ltb}
use lib.Dec.{ltb}
use lib.ListN.{length}
use Rattle.relations.proofs.Select.{le_or, mem_upto}
use Rattle.express.specs.Syntax.Tree.{Table, count, role, nodes}
use Rattle.express.specs.Syntax.Grammar.{Nonterminal, file, schema, constants, constant, base, type_declaration, underlying, where_clause, domain_rule, entity}
use Rattle.express.specs.Syntax.Grammar.{attributes as explicit, derived, expression, sum, term, factor, operand, atom, interval, rules}
use Rattle.express.specs.Syntax.Syntax.{Read}
use Rattle.bounds.proofs.Weight.{Scale, pays}
use Rattle.bounds.proofs.Total.{total_at}
use Rattle.bounds.proofs.Bounds.{total_few}

-- the number of roles that a byte can hold
abbrev pub byte_values : ℕ
byte_values = 256

-- m for a role that fits no byte
abbrev role_scale : ℕ → Scale Nonterminal
role_scale m = record { row = λ k o. cond (ltb o byte_values) 0 m; loan = λ x. 0; gain = λ x. 0 }

passes : (m : ℕ) (x : Nonterminal) → pays (role_scale m) rules x ≡ true
passes m file = refl
passes m schema = refl
passes m constants = refl
passes m constant = refl
passes m base = refl
passes m type_declaration = refl
passes m underlying = refl
passes m where_clause = refl
passes m domain_rule = refl
passes m entity = refl
passes m explicit = refl
passes m derived = refl
passes m expression = refl
passes m sum = refl
passes m term = refl
passes m factor = refl
passes m operand = refl
passes m atom = refl
passes m interval = refl

pub roles_small : {t : Table} → Read file t → (n : ℕ) → n < count t → role t n < byte_values
roles_small {t} R n l = ⊎_elim (λ h. absurd (large h)) (λ h. h) (le_or byte_values (role t n))
  where
    weighs : ℕ → ℕ
    weighs k = cond (ltb (role t k) byte_values) 0 (suc (length t.terminals))

    large : byte_values ≤ role t n → ⊥
    large h =
        let e : weighs n ≡ suc (length t.terminals) = rw (le-ltb (role t n) byte_values h) in
        let a = total_few R (role_scale (suc (length t.terminals))) (passes (suc (length t.terminals))) refl weighs (λ k. omega arith) in
        omega (arith, e, a, total_at weighs (nodes t) (mem_upto (count t) n l))
