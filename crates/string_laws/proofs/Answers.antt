-- The answers of the constants of a file that is read, named and typed: each is one that its declared type allows, so only those declared STRING have
-- bytes, and these are few.
use mathlib.Core.Path.{◌≡◌, refl, subst}
use mathlib.Core.List.{List, [], Memᴰ}
use Prim.Native.Nat.{ℕ, ◌≤◌, ◌<◌}
use native.Mathlib.Omega.{arith}
use lib.ListN.{length}
use Rattle.express.specs.Syntax.NodeKind as node
use Rattle.express.specs.Syntax.Tree.{Table, count, kind}
use Rattle.express.specs.Syntax.Grammar.{file}
use Rattle.express.specs.Syntax.Syntax.{Read}
use Rattle.express.specs.Tokens.Lexis.{most_bytes}
use Rattle.express.specs.Tokens.Scanned.{Scanned}
use Rattle.express.specs.Names.Scope.{bindings}
use Rattle.express.specs.Names.Names.{WellNamed}
use Rattle.express.specs.Semantics.Answer.{Answer, indeterminate, string, end, ends}
use Rattle.express.specs.Semantics.AnswerRow.{bytes_of}
use Rattle.express.specs.Semantics.Declared.{Declared, STRING, declared_type}
use Rattle.express.specs.Semantics.Kind.{WellTyped}
use Rattle.express.specs.Semantics.Rule.{Member, an_integer, is_false, is_true, a_logical, a_binary, an_item, Holds, a_member}
use Rattle.express.specs.Semantics.Rule as rule
use Rattle.express.specs.Semantics.Order.{constant_order}
use Rattle.express.specs.Semantics.Evaluate.{answer_at, answers}
use Rattle.express.proofs.Syntax.FormedRows.{formed_rows}
use Rattle.express.proofs.Semantics.Typed.{typing_accepts}
use Rattle.express.proofs.Theorems.File.{file_exact, file_order}

-- ---- what a type allows
module _ {t : Table} where
  member_no_bytes : {d : Declared} {a : Answer} → Member t d a → (d ≡ STRING → ⊥) → bytes_of a ≡ []
  member_no_bytes (an_integer l) h = refl
  member_no_bytes is_false h = refl
  member_no_bytes is_true h = refl
  member_no_bytes a_logical h = refl
  member_no_bytes (a_binary l m) h = refl
  member_no_bytes (rule.a_string l) h = absurd (h refl)
  member_no_bytes (an_item i o) h = refl

  member_short : {d : Declared} {a : Answer} → Member t d a → length (bytes_of a) ≤ most_bytes
  member_short (an_integer l) = omega arith
  member_short is_false = omega arith
  member_short is_true = omega arith
  member_short a_logical = omega arith
  member_short (a_binary l m) = omega arith
  member_short (rule.a_string l) = l
  member_short (an_item i o) = omega arith

  -- all but STRING allow no bytes
  pub holds_no_bytes : {d : Declared} {a : Answer} → Holds t d a → (d ≡ STRING → ⊥) → bytes_of a ≡ []
  holds_no_bytes rule.no_value h = refl
  holds_no_bytes (rule.an_end e) h = refl
  holds_no_bytes (a_member m) h = member_no_bytes m h

  pub holds_short : {d : Declared} {a : Answer} → Holds t d a → length (bytes_of a) ≤ most_bytes
  holds_short rule.no_value = omega arith
  holds_short (rule.an_end e) = omega arith
  holds_short (a_member m) = member_short m

-- and STRING `?`, an end, or a string
pub data StringAnswer : Answer → Type 0 where
  no_value : StringAnswer indeterminate
  an_end : {e : ℕ} → Memᴰ e ends → StringAnswer (end e)
  a_string : {s : List ℕ} → length s ≤ most_bytes → StringAnswer (string s)

member_string : {t : Table} {a : Answer} → Member t STRING a → StringAnswer a
member_string (rule.a_string l) = a_string l

pub holds_string : {t : Table} {a : Answer} → Holds t STRING a → StringAnswer a
holds_string rule.no_value = no_value
holds_string (rule.an_end e) = an_end e
holds_string (a_member m) = member_string m

-- ---- the answers of a file
abbrev answer : Table → ℕ → Answer
answer t c = answer_at (answers t (bindings t) (constant_order t)) c

module _ (t : Table) (scanned : Scanned t) (read : Read file t) (named : WellNamed t) (well : WellTyped t (bindings t)) (c : ℕ) (l : c < count t) (k : kind t c ≡ node.constant) where
  pub answer_holds : Holds t (declared_type t (bindings t) c) (answer t c)
  answer_holds =
      let a = (typing_accepts t (bindings t) (formed_rows read)).1 well in
      (file_exact t scanned read named a.0 a.1 (constant_order t) (file_order t scanned read named a.0 a.1) c l k).holds

  pub no_bytes : (declared_type t (bindings t) c ≡ STRING → ⊥) → bytes_of (answer t c) ≡ []
  no_bytes = holds_no_bytes answer_holds

  pub short : length (bytes_of (answer t c)) ≤ most_bytes
  short = holds_short answer_holds

  pub string_answer : declared_type t (bindings t) c ≡ STRING → StringAnswer (answer t c)
  string_answer e = holds_string {t = t} (subst (λ (d : Declared). Holds t d (answer t c)) e answer_holds)
