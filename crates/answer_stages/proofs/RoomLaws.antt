-- The bytes of the strings among the answers of a file: no more than 255 for each constant.
use mathlib.Core.Path.{◌≡◌, refl}
use mathlib.Core.List.{List, [], ◌∷◌, map, flat_map, Memᴰ}
use Prim.Native.Nat.{ℕ, ◌*◌, ◌≤◌}
use native.Mathlib.Omega.{arith}
use borrow.Author.Tests.{eqb-true}
use lib.ListN.{length, length-append}
use Rattle.relations.proofs.Select.{keep_mem, upto_mem}
use Rattle.express.specs.Tokens.Lexis.{most_bytes}
use Rattle.express.specs.Tokens.Scanned.{Scanned}
use Rattle.express.specs.Syntax.NodeKind as node
use Rattle.express.specs.Syntax.Grammar.{file}
use Rattle.express.specs.Syntax.Syntax.{Read}
use Rattle.express.specs.Syntax.Tree.{Table, count, kind, is, nodes}
use Rattle.express.specs.Names.Scope.{bindings}
use Rattle.express.specs.Names.Names.{WellNamed}
use Rattle.express.specs.Semantics.Answer.{Answer}
use Rattle.express.specs.Semantics.AnswerRow.{bytes_of, room_of}
use Rattle.express.specs.Semantics.Declared.{Declared}
use Rattle.express.specs.Semantics.Kind.{typed, typing, constants}
use Rattle.express.specs.Semantics.Operate.{Kind}
use Rattle.express.specs.Semantics.Order.{constant_order}
use Rattle.express.specs.Semantics.Rule.{Member, an_integer, is_false, is_true, a_logical, a_binary, a_string, an_item, Holds, no_value, an_end, a_member}
use Rattle.express.proofs.Theorems.File.{file_exact, file_order}
use Rattle.constants.specs.Constants.{answer_of_constant}
use Rattle.stages.specs.Line.{room_needed}

member_few : {t : Table} {d : Declared} {a : Answer} → Member t d a → length (bytes_of a) ≤ most_bytes
member_few (an_integer h) = omega arith
member_few is_false = omega arith
member_few is_true = omega arith
member_few (a_logical) = omega arith
member_few (a_binary h l) = omega arith
member_few (a_string h) = h
member_few (an_item h l) = omega arith

answer_few : {t : Table} {d : Declared} {a : Answer} → Holds t d a → length (bytes_of a) ≤ most_bytes
answer_few no_value = omega arith
answer_few (an_end m) = omega arith
answer_few (a_member m) = member_few m

room_few : (f : ℕ → Answer) (cs : List ℕ) → ((c : ℕ) → Memᴰ c cs → length (bytes_of (f c)) ≤ most_bytes) → length (room_of (map f cs)) ≤ most_bytes * length cs
unfolding flat_map
room_few f [] h = omega arith
room_few f (c ∷ cs) h =
    omega (arith, length-append (bytes_of (f c)) (room_of (map f cs)), h c (Memᴰ.head refl), room_few f cs (λ d m. h d (Memᴰ.tail m)))

pub strings_few : (t : Table) → Scanned t → Read file t → WellNamed t → (ks : List Kind) → typing t (bindings t) ≡ typed ks → room_needed t ≤ most_bytes * length (constants t)
strings_few t scanned read named ks e =
    room_few (answer_of_constant t) (constants t)
    (λ c m. let k = keep_mem (is t node.constant) (nodes t) m in
    answer_few (file_exact t scanned read named ks e (constant_order t) (file_order t scanned read named ks e) c (upto_mem (count t) c k.0)
    (eqb-true (kind t c) node.constant k.1)).holds)
