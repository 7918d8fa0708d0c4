-- The replies of a whole check: a refusal has a number from 1 to 15, or 20, so reply 0 says that the file is accepted.
use mathlib.Core.Path.{◌≡◌, refl, ap, subst}
use mathlib.Core.Logic.{◌↔◌, ◌⊎◌, inl, inr}
use mathlib.Core.Bool.{Bool, true, false, cond}
use mathlib.Core.List.{List, [], ◌∷◌}
use Prim.Native.Nat.{ℕ, ◌≤◌}
use native.Mathlib.Omega.{arith}
use borrow.Author.Tests.{eqb-false}
use lib.Dec.{T, eqb, leb, leb→le}
use lib.ListN.{length, set}
use Rattle.ebnf.specs.Rows as ebnf
use Rattle.ebnf.specs.Depth.{Outcome, good, unexpected, too_deep}
use Rattle.express.specs.Tokens.Lexis.{TokenRow, Reading, at, counted, tokens, lexed}
use Rattle.express.specs.Tokens.Lexis as lexis
use Rattle.express.specs.Tokens.Blank.{Stop, all_read, unfinished, too_large, too_long}
use Rattle.express.specs.Tokens.Scanned.{token_table}
use Rattle.express.specs.Syntax.Grammar.{file}
use Rattle.express.specs.Syntax.Syntax.{parsed, with_rows}
use Rattle.express.specs.Syntax.Tree.{Table, count}
use Rattle.express.specs.Names.Scope.{Meaning, none, one, several, bindings}
use Rattle.express.specs.Names.Fault as names
use Rattle.relations.specs.Reach.{Edge}
use Rattle.express.specs.Names.Fault.{Fault, judged, repeated, type_name_fault, cyclic, qualified, expression}
use Rattle.express.specs.Names.Names.{Stage, sooner, stages, least, first_fault, names}
use Rattle.express.specs.Semantics.Answer.{Answer}
use Rattle.express.specs.Semantics.AnswerRow.{room_of}
use Rattle.express.specs.Semantics.Operate.{Kind}
use Rattle.express.specs.Semantics.Shape.{Shape, integer_literal, logical_literal, binary_literal, string_literal, question, item, name, unary, operator, interval, interval_operator, type, constant}
use Rattle.express.specs.Semantics.Shape.{unevaluated, shape_in}
use Rattle.express.specs.Semantics.Kind.{Finding, of_kind, fault, finding_in, kind_at, Typing, typed, ill_typed, if_found, if_typed, type_nodes_in, type_constants, typing, constants}
use Rattle.express.specs.Whole.Reply.{Accepted, Checked, accepted, refused, after_answers, after_kinds, after_names, after_rows, after_syntax, after_tokens, checked, report}
use Rattle.express.proofs.Tokens.Stops.{lexed_stops}

lit : {m n : ℕ} → T (leb m n) → m ≤ n
lit {m} {n} t = leb→le m n t

-- ---- names: no fault, or a number from 9 to 13

record Named (f : Fault) : Type 0 where
  low : (f.number ≡ 0 → ⊥) → 9 ≤ f.number
  high : f.number ≤ 13

named_cond : (x : Bool) {f g : Fault} → Named f → Named g → Named (cond x f g)
named_cond true a b = a
named_cond false a b = b

fine_named : Named names.fine
fine_named = record { low = λ n. absurd (n refl); high = lit tt }

fault_named : (k p : ℕ) → T (leb 9 k) → T (leb k 13) → Named (names.fault k p)
fault_named k p l h = record { low = λ n. lit l; high = lit h }

nine : (p : ℕ) → Named (names.fault 9 p)
nine p = fault_named 9 p tt tt

ten : (p : ℕ) → Named (names.fault 10 p)
ten p = fault_named 10 p tt tt

eleven : (p : ℕ) → Named (names.fault 11 p)
eleven p = fault_named 11 p tt tt

twelve : (p : ℕ) → Named (names.fault 12 p)
twelve p = fault_named 12 p tt tt

thirteen : (p : ℕ) → Named (names.fault 13 p)
thirteen p = fault_named 13 p tt tt

judged_named : (right : ℕ → Bool) (m : Meaning) (p : ℕ) → Named (judged right m p)
judged_named right none p = ten p
judged_named right several p = twelve p
judged_named right (one k) p = named_cond (right k) fine_named (eleven p)

module _ (t : Table) where
  repeated_named : (n : ℕ) → Named (repeated t n)
  unfolding repeated
  repeated_named n = search (named_cond, fine_named, nine)

  type_name_named : (n : ℕ) → Named (type_name_fault t n)
  unfolding type_name_fault
  type_name_named n = search (named_cond, fine_named, judged_named)

  cyclic_named : (p : ℕ → Bool) (es : List Edge) (n : ℕ) → Named (cyclic t p es n)
  unfolding cyclic
  cyclic_named p es n = search (named_cond, fine_named, thirteen)

  qualified_named : (n : ℕ) → Named (qualified t n)
  unfolding qualified
  qualified_named n = search (named_cond, judged_named)

  expression_named : (n : ℕ) → Named (expression t n)
  unfolding expression
  expression_named n = search (named_cond, judged_named, qualified_named, eleven, twelve, fine_named) depth 8

sooner_named : (f g : Fault) → Named f → Named g → Named (sooner f g)
sooner_named f g a b = named_cond (eqb f.number 0) b (named_cond (eqb g.number 0) a (named_cond (leb f.place g.place) a b))

least_named : (s : Stage) → ((n : ℕ) → Named (s n)) → (ns : List ℕ) → Named (least s ns)
unfolding least
least_named s h [] = fine_named
least_named s h (n ∷ ns) = sooner_named (s n) (least s ns) (h n) (least_named s h ns)

first_named : (s : Stage) (ss : List Stage) → ((n : ℕ) → Named (s n)) → (ns : List ℕ) → Named (first_fault ss ns) → Named (first_fault (s ∷ ss) ns)
unfolding first_fault
first_named s ss h ns more = let here = least_named s h ns in search (named_cond, here, more)

none_named : (ns : List ℕ) → Named (first_fault [] ns)
unfolding first_fault
none_named ns = fine_named

names_named : (t : Table) → Named (names t)
unfolding names stages
names_named t =
    first_named _ _ (repeated_named t) _
    (first_named _ _ (type_name_named t) _
    (first_named _ _ (cyclic_named t _ _) _ (first_named _ _ (expression_named t) _ (first_named _ _ (cyclic_named t _ _) _ (none_named _)))))

-- ---- kinds: 14 or 15

data Judged : Finding → Type 0 where
  has_kind : {k : Kind} → Judged (of_kind k)
  has_fault : {f : ℕ} → 14 ≤ f → f ≤ 15 → Judged (fault f)

judged_cond : (x : Bool) {f g : Finding} → Judged f → Judged g → Judged (cond x f g)
judged_cond true a b = a
judged_cond false a b = b

fourteen : Judged (fault 14)
fourteen = has_fault (lit tt) (lit tt)

fifteen : Judged (fault 15)
fifteen = has_fault (lit tt) (lit tt)

module _ (t : Table) (b : List ℕ) (e : Table) where
  finding_judged : (k : ℕ → Kind) (n : ℕ) (s : Shape) → Judged (finding_in t b e k n s)
  finding_judged k n (integer_literal v) = has_kind
  finding_judged k n (logical_literal l) = has_kind
  finding_judged k n (binary_literal s) = has_kind
  finding_judged k n (string_literal s) = has_kind
  finding_judged k n question = has_kind
  finding_judged k n (item m) = has_kind
  finding_judged k n (name c) = search (judged_cond, has_kind, fifteen, fourteen)
  finding_judged k n (unary o) = search (judged_cond, has_kind, fifteen, fourteen)
  finding_judged k n (operator o) = search (judged_cond, has_kind, fifteen, fourteen)
  finding_judged k n (interval o p) = search (judged_cond, has_kind, fifteen, fourteen)
  finding_judged k n interval_operator = has_kind
  finding_judged k n (type d) = search (judged_cond, has_kind, fifteen, fourteen)
  finding_judged k n (constant d) = search (judged_cond, has_kind, fifteen, fourteen)
  finding_judged k n unevaluated = fourteen

data Types : Typing → Type 0 where
  all_typed : {ks : List Kind} → Types (typed ks)
  at_node : {f n : ℕ} → 14 ≤ f → f ≤ 15 → Types (ill_typed f n)

then_types : (n : ℕ) (more : Kind → Typing) → ((k : Kind) → Types (more k)) → {f : Finding} → Judged f → Types (if_found f n more)
then_types n more h (has_kind {k}) = h k
then_types n more h (has_fault l u) = at_node l u

nodes_types : (t : Table) (b : List ℕ) (e : Table) (c ns : List ℕ) (ks : List Kind) → Types (type_nodes_in t b e c ns ks)
unfolding type_nodes_in
nodes_types t b e c [] ks = all_typed
nodes_types t b e c (n ∷ ns) ks =
    then_types n (λ k. type_nodes_in t b e c ns (set ks n k)) (λ k. nodes_types t b e c ns (set ks n k)) (finding_judged t b e (kind_at ks) n (shape_in t e c n))

more_types : (more : List Kind → Typing) → ((ks : List Kind) → Types (more ks)) → {y : Typing} → Types y → Types (if_typed y more)
more_types more h (all_typed {ks}) = h ks
more_types more h (at_node l u) = at_node l u

constants_types : (t : Table) (b ds : List ℕ) (ks : List Kind) → Types (type_constants t b ds ks)
unfolding type_constants
constants_types t b [] ks = all_typed
constants_types t b (d ∷ ds) ks = more_types (type_constants t b ds) (constants_types t b ds) (nodes_types t b t b _ ks)

typing_types : (t : Table) (b : List ℕ) → Types (typing t b)
unfolding typing
typing_types t b = constants_types t b _ _

-- ---- the whole

data Answered : Checked → Type 0 where
  is_accepted : {a : Accepted} → Answered (accepted a)
  is_refused : {k p : ℕ} → 1 ≤ k → k ≤ 15 → Answered (refused k p)
  no_room : {p : ℕ} → Answered (refused 20 p)

answered_cond : (x : Bool) {a b : Checked} → Answered a → Answered b → Answered (cond x a b)
answered_cond true a b = a
answered_cond false a b = b

module _ (ls : List TokenRow) (t : Table) (room : ℕ) where
  room_answer : (xs : List Answer) → Answered (after_answers ls t room xs)
  room_answer xs = answered_cond (leb (length (room_of xs)) room) is_accepted no_room

  kinds_answer : {y : Typing} → Types y → Answered (after_kinds ls t room y)
  kinds_answer all_typed = room_answer _
  kinds_answer (at_node {f} l h) = is_refused {k = f} (omega arith) (omega arith)

  names_answer : (f : Fault) → Named f → Answered (after_names ls t room f)
  names_answer f h = by (eqb f.number 0) refl
    where
      by : (x : Bool) → eqb f.number 0 ≡ x → Answered (cond x (after_kinds ls t room (typing t (bindings t))) (refused f.number f.place))
      by true e = kinds_answer (typing_types t (bindings t))
      by false e = let l : 9 ≤ f.number = h.low (eqb-false f.number 0 e) in is_refused {k = f.number} (omega arith) (omega (arith, h.high))

  rows_answer : (nr ar : ℕ) → Answered (after_rows ls t room nr ar)
  rows_answer nr ar =
      answered_cond (leb (count t) nr)
      (answered_cond (leb (length (constants t)) ar) (names_answer (names t) (names_named t)) (is_refused (lit tt) (lit tt)))
      (is_refused (lit tt) (lit tt))

module _ (s : List ℕ) (tr nr ar room : ℕ) where
  syntax_answer : (o : Outcome ebnf.Rows) → Answered (after_syntax s (lexed s) nr ar room o)
  syntax_answer (good r) = rows_answer (lexed s).rows (with_rows (token_table s) r.rows) room nr ar
  syntax_answer (unexpected j) = is_refused (lit tt) (lit tt)
  syntax_answer (too_deep k) = is_refused (lit tt) (lit tt)

  counted_answer : {r : Reading} → Stop s r → (n : ℕ) → Answered (after_tokens s (lexed s) nr ar room (counted r n tr))
  counted_answer all_read n = by (leb n tr)
    where
      by : (x : Bool) → Answered (after_tokens s (lexed s) nr ar room (cond x (at n) (lexis.refused 6 n)))
      by true = syntax_answer (parsed file (token_table s).terminals)
      by false = is_refused (lit tt) (lit tt)
  counted_answer (unfinished l) n = is_refused (lit tt) (lit tt)
  counted_answer (too_large l) n = is_refused (lit tt) (lit tt)
  counted_answer (too_long l) n = is_refused (lit tt) (lit tt)

  answered : Answered (checked s tr nr ar room)
  unfolding checked tokens
  answered = counted_answer (lexed_stops s) (length (lexed s).rows)

  -- A REFUSAL HAS ONE OF THE NUMBERS 1 TO 15, OR 20
  pub numbered : (k p : ℕ) → checked s tr nr ar room ≡ refused k p → (1 ≤ k) × ((k ≤ 15) ⊎ (k ≡ 20))
  numbered k p e = by k p (subst Answered e answered)
    where
      by : (k p : ℕ) → Answered (refused k p) → (1 ≤ k) × ((k ≤ 15) ⊎ (k ≡ 20))
      by k p (is_refused l h) = (l, inl h)
      by k p no_room = (lit tt, inr refl)

  -- REPLY 0 says that the file is accepted
  pub reply_zero : ((report (checked s tr nr ar room)).reply ≡ 0) ↔ ((a : Accepted) × (checked s tr nr ar room ≡ accepted a))
  reply_zero = (λ e. by (checked s tr nr ar room) refl answered e, λ a. ap (λ (c : Checked). (report c).reply) a.1)
    where
      by : (c : Checked) → checked s tr nr ar room ≡ c → Answered c → (report c).reply ≡ 0 → (a : Accepted) × (checked s tr nr ar room ≡ accepted a)
      by (accepted a) i h e = (a, i)
      by (refused k p) i (is_refused l h) e = absurd (omega arith)
      by (refused k p) i no_room e = absurd (omega arith)
