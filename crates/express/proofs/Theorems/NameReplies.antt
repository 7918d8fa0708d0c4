-- Replies 9 to 13 of a whole check: of a file whose tokens, nodes and tables are in order, it is refused so exactly by the least fault of the first
-- stage of names that has one.
use mathlib.Core.Path.{◌≡◌, refl, sym, ap₂, ◌∙◌}
use mathlib.Core.Logic.{◌↔◌}
use mathlib.Core.Bool.{Bool, true, false, cond}
use mathlib.Core.List.{List, map}
use Prim.Native.Nat.{ℕ, ◌≤◌}
use native.Mathlib.Omega.{arith}
use borrow.Author.Tests.{eqb-false, ne_eqb, le-leb}
use lib.Dec.{eqb, leb}
use lib.ListN.{length, length-map}
use Rattle.ebnf.specs.Rows.{Row}
use Rattle.ebnf.specs.Depth.{Deep, good}
use Rattle.express.specs.Tokens.Lexis.{at, tokens, lexed}
use Rattle.express.specs.Tokens.Scanned.{token_table}
use Rattle.express.specs.Syntax.Grammar.{file}
use Rattle.express.specs.Syntax.Syntax.{Parses, whole, parsed, opening, closing, nesting, with_rows, Read}
use Rattle.express.specs.Syntax.Tree.{Table, count, nodes}
use Rattle.express.specs.Names.Scope.{bindings}
use Rattle.express.specs.Names.Fault.{fault}
use Rattle.express.specs.Names.Names.{stages, names, StageFault}
use Rattle.express.specs.Semantics.Operate.{Kind}
use Rattle.express.specs.Semantics.Shape.{Shape, integer_literal, logical_literal, binary_literal, string_literal, question, item, name}
use Rattle.express.specs.Semantics.Shape.{unary, operator, interval, interval_operator, type, constant, unevaluated, shape}
use Rattle.express.specs.Semantics.Kind.{Finding, of_kind, finding, Typing, typed, ill_typed, constants, typing}
use Rattle.express.specs.Semantics.Kind as kinds
use Rattle.express.specs.Semantics.Order.{constant_order}
use Rattle.express.specs.Semantics.Evaluate.{answers, answer_at}
use Rattle.express.specs.Semantics.AnswerRow.{room_of}
use Rattle.express.specs.Whole.Reply.{Accepted, accepted, refused, after_kinds, after_names, checked}
use Rattle.express.proofs.Syntax.Syntax.{parsed_iff, read_good}
use Rattle.express.proofs.Syntax.FormedRows.{formed_rows}
use Rattle.express.proofs.Syntax.TokenOrder.{starts_rise}
use Rattle.express.proofs.Names.Names.{names_refused}
use Rattle.express.proofs.Names.Untied.{Rising, fault_once}
use Rattle.express.proofs.Semantics.Typed.{typing_fault}

-- The check comes to the names of the table t: the bytes are tokens to the end, these derive from the grammar and nest no deeper than they may, and
-- the three tables are long enough.
pub record Reached (s : List ℕ) (token_rows node_rows answer_rows : ℕ) (t : Table) : Type 0 where
  pub end : ℕ
  pub scanned : (lexed s).stop ≡ at end
  pub token_room : length (lexed s).rows ≤ token_rows
  pub rows : List Row
  pub parses : Parses file (token_table s).terminals rows
  pub shallow : (i : ℕ) → ¬ (Deep opening closing nesting (token_table s).terminals i)
  pub table_is : t ≡ with_rows (token_table s) rows
  pub node_room : count t ≤ node_rows
  pub answer_room : length (constants t) ≤ answer_rows

-- ---- a fault of typing is 14 or 15
data Found : Finding → Type 0 where
  a_kind : {k : Kind} → Found (of_kind k)
  a_fault : {f : ℕ} → 14 ≤ f → f ≤ 15 → Found (kinds.fault f)

either : (p : Bool) {x y : Finding} → Found x → Found y → Found (cond p x y)
either true a b = a
either false a b = b

fourteen : Found (kinds.fault 14)
fourteen = a_fault {f = 14} (omega arith) (omega arith)

fifteen : Found (kinds.fault 15)
fifteen = a_fault {f = 15} (omega arith) (omega arith)

finding_found : (t : Table) (b : List ℕ) (k : ℕ → Kind) (n : ℕ) (s : Shape) → Found (finding t b k n s)
finding_found t b k n (integer_literal v) = a_kind
finding_found t b k n (logical_literal l) = a_kind
finding_found t b k n (binary_literal s) = a_kind
finding_found t b k n (string_literal s) = a_kind
finding_found t b k n question = a_kind
finding_found t b k n (item m) = a_kind
finding_found t b k n (name c) = search (either, a_kind, fourteen)
finding_found t b k n (unary o) = search (either, a_kind, fifteen)
finding_found t b k n (operator o) = search (either, a_kind, fifteen)
finding_found t b k n (interval o p) = search (either, a_kind, fifteen)
finding_found t b k n interval_operator = a_kind
finding_found t b k n (type d) = search (either, a_kind, fourteen)
finding_found t b k n (constant d) = search (either, a_kind, fifteen)
finding_found t b k n unevaluated = fourteen

late : {f : ℕ} → Found (kinds.fault f) → 14 ≤ f
late (a_fault l h) = l

-- nor is acceptance one, or 20
no_room : (b : Bool) (a : Accepted) (room k p : ℕ) → k ≤ 13 → cond b (accepted a) (refused 20 room) ≡ refused k p → ⊥
no_room true a room k p h q = let z : ◌≡◌ {A = ℕ} 0 1 = cc in omega arith
no_room false a room k p h q = let z : 20 ≡ k = cc in omega arith

module _ (s : List ℕ) (tr nr ar room : ℕ) where
  rising_of : (rs : List Row) → Rising (with_rows (token_table s) rs)
  rising_of rs i j l m = (starts_rise s).rise i j l (rw length-map at m)

  module _ (t : Table) (R : Reached s tr nr ar t) where
    parsed_is : parsed file (token_table s).terminals ≡ good (whole R.rows)
    parsed_is = (parsed_iff file _ (good (whole R.rows))).1 (R.parses, R.shallow)

    read : Read file t
    read = rw R.table_is (read_good file (token_table s) (whole R.rows) parsed_is)

    -- the outcome is that of the names
    pub reached_is : checked s tr nr ar room ≡ after_names (lexed s).rows t room (names t)
    unfolding checked tokens
    reached_is =
        let e = R.table_is in
        let nodes : count (with_rows (token_table s) R.rows) ≤ nr = rw e at R.node_room in
        let rows : length (constants (with_rows (token_table s) R.rows)) ≤ ar = rw e at R.answer_room in
        rw (R.scanned, le-leb _ _ R.token_room, parsed_is, le-leb _ _ nodes, le-leb _ _ rows, e)

    -- names without a fault leave no reply up to 13
    no_fault : (k p : ℕ) → k ≤ 13 → (x : Typing) → typing t (bindings t) ≡ x → after_kinds (lexed s).rows t room x ≡ refused k p → ⊥
    no_fault k p h (typed ks) e q =
        no_room (leb (length (room_of (map (answer_at (answers t (bindings t) (constant_order t))) (constants t)))) room) _ room k p h q
    no_fault k p h (ill_typed f n) e q =
        let F = typing_fault t (bindings t) (formed_rows read) f n e in
        let z : f ≡ k = cc in
        let l = late (rw F.is at (finding_found t (bindings t) F.kinds n (shape t (bindings t) n))) in
        omega arith

    -- REPLIES 9 TO 13: by the least fault of the first stage that has one, and by nothing else
    pub names_reply : (k p : ℕ) → 9 ≤ k → k ≤ 13 → (checked s tr nr ar room ≡ refused k p) ↔ StageFault (nodes t) (fault k p) (stages t)
    names_reply k p lo hi = (λ q. out (eqb (names t).number 0) refl (sym reached_is ∙ q), into)
      where
        out :
            (b : Bool) → eqb (names t).number 0 ≡ b →
            cond b (after_kinds (lexed s).rows t room (typing t (bindings t))) (refused (names t).number (names t).place) ≡ refused k p →
            StageFault (nodes t) (fault k p) (stages t)
        out true e q = absurd (no_fault k p hi (typing t (bindings t)) refl q)
        out false e q =
            let i : (names t).number ≡ k = cc in
            let j : (names t).place ≡ p = cc in
            let f : names t ≡ fault k p = ap₂ fault i j in
            rw f at (names_refused t (eqb-false (names t).number 0 e))

        into : StageFault (nodes t) (fault k p) (stages t) → checked s tr nr ar room ≡ refused k p
        into r =
            let rise : Rising t = rw R.table_is (rising_of R.rows) in
            let f : names t ≡ fault k p = sym (fault_once read rise (fault k p) r) in
            reached_is ∙ rw f (rw (ne_eqb k 0 (λ (z : k ≡ 0). omega arith)))
