-- THE RULES of demand 3 (K28 to K33): which answers the nodes of expressions and constants have. They use no result of typing.
use Rattle.std.specs.Prelude.{◌≡◌, ◌↔◌, Bool, true, ℕ, ◌^◌, ◌≤◌, ◌<◌, length, ℤ, pos}
use mathlib.Core.List.{List, Memᴰ}
use Rattle.std.specs.Int.Signed.{mag}
use Rattle.express.specs.Semantics.Answer.{Logical, FALSE, UNKNOWN, TRUE, Answer, indeterminate, integer, logical, binary, item, string, end, unknown_boolean, ends}
use Rattle.express.specs.Semantics.Relation.{Relation}
use Rattle.express.specs.Tokens.Lexis.{most_bytes}
use Rattle.express.specs.Syntax.NodeKind.{enumeration_item}
use Rattle.express.specs.Syntax.Tree.{Table, kind, owner, last, left, middle, low}
use Rattle.express.specs.Semantics.Declared.{Declared, INTEGER, BOOLEAN, LOGICAL, BINARY, STRING, enumeration, declared_type}
use Rattle.express.specs.Semantics.Shape.{Operator, relation, Sign, integer_literal, logical_literal, binary_literal, string_literal, question, name, unary, operator, interval, constant, shape}
use Rattle.express.specs.Semantics.Shape as shapes
use Rattle.express.specs.Semantics.Operate.{Kind, Of, takes, takes_one, combined, applied, between}

-- K27: the members of a type. `mag z` is below 2 ^ 63 from -(2 ^ 63) to 2 ^ 63 - 1.
pub data Member (t : Table) : Declared → Answer → Type 0 where
  an_integer : {z : ℤ} → mag z < 2 ^ 63 → Member t INTEGER (integer z)
  is_false : Member t BOOLEAN (logical FALSE)
  is_true : Member t BOOLEAN (logical TRUE)
  a_logical : {l : Logical} → Member t LOGICAL (logical l)
  a_binary : {s : List Bool} → 1 ≤ length s → length s ≤ 63 → Member t BINARY (binary s)
  a_string : {s : List ℕ} → length s ≤ most_bytes → Member t STRING (string s)
  an_item : {m y : ℕ} → kind t m ≡ enumeration_item → owner t m ≡ y → Member t (enumeration y) (item m)

-- K32: `?`, what belongs to the declared type (K27), or one of the ends (R4)
pub data Holds (t : Table) (d : Declared) : Answer → Type 0 where
  no_value : Holds t d indeterminate
  an_end : {e : ℕ} → Memᴰ e ends → Holds t d (end e)
  a_member : {a : Answer} → Member t d a → Holds t d a

-- K30, K31: one kind that is taken does for both answers
pub record Fit (t : Table) (takes : Kind → Bool) (x y : Answer) : Type 0 where
  pub one_kind : Kind
  pub taken : takes one_kind ≡ true
  pub first : Of t one_kind x
  pub second : Of t one_kind y

-- K28: node n of the table t, whose names are bound by b, has the answer a.
pub data Gives (t : Table) (b : List ℕ) : ℕ → Answer → Type 0 where
  -- K29: leaves
  an_integer_literal : {n v : ℕ} → shape t b n ≡ integer_literal v → Gives t b n (integer (pos v))
  a_logical_literal : {n : ℕ} {l : Logical} → shape t b n ≡ logical_literal l → Gives t b n (logical l)
  a_binary_literal : {n : ℕ} {s : List Bool} → shape t b n ≡ binary_literal s → Gives t b n (binary s)
  a_string_literal : {n : ℕ} {s : List ℕ} → shape t b n ≡ string_literal s → Gives t b n (string s)
  a_question : {n : ℕ} → shape t b n ≡ question → Gives t b n indeterminate
  an_item : {n m : ℕ} → shape t b n ≡ shapes.item m → Gives t b n (item m)
  a_name : {n c : ℕ} {a : Answer} → shape t b n ≡ name c → Gives t b c a → Gives t b n a
  -- K30, K31: operators
  a_sign :
      {n : ℕ} {o : Sign} {x : Answer} → shape t b n ≡ unary o → Gives t b (last n) x → Fit t (takes_one o) x x → Gives t b n (applied o x)
  an_operator :
      {n : ℕ} {o : Operator} {x y : Answer} → shape t b n ≡ operator o → Gives t b (left t n) x → Gives t b (last n) y →
      Fit t (takes o) x y → Gives t b n (combined o x y)
  an_interval :
      {n : ℕ} {o p : Relation} {x y z : Answer} → shape t b n ≡ interval o p →
      Gives t b (low t n) x → Gives t b (middle t n) y → Gives t b (last n) z →
      Fit t (takes (relation o)) x y → Fit t (takes (relation p)) y z → Gives t b n (between o p x y z)
  -- K32, K33: constants
  a_constant : {n : ℕ} {d : Declared} {a : Answer} → shape t b n ≡ constant d → Gives t b (last n) a → Holds t d a → Gives t b n a
  an_unknown_boolean : {n : ℕ} → shape t b n ≡ constant BOOLEAN → Gives t b (last n) (logical UNKNOWN) → Gives t b n (end unknown_boolean)

-- THE PROMISE (K34): the rules give constant c the answer a and no other, and it is one that a constant of c's type may have.
pub record Exactly (t : Table) (b : List ℕ) (c : ℕ) (a : Answer) : Type 0 where
  pub only : (x : Answer) → Gives t b c x ↔ (x ≡ a)
  pub holds : Holds t (declared_type t b c) a
