-- In a file that the grammar derives declarations stand in the order of the text; so there are no more of them than tokens.
use mathlib.Core.Path.{◌≡◌, sym, ◌∙◌}
use mathlib.Core.Logic.{⊎_elim}
use mathlib.Core.Bool.{true}
use Prim.Native.Nat.{ℕ, zero, suc, ◌-◌, ◌≤◌, ◌<◌}
use native.Mathlib.Omega.{arith}
use borrow.Author.Tests.{eqb-true}
use lib.ListN.{length}
use Rattle.relations.proofs.Select.{le_or}
use Rattle.express.specs.Syntax.Tree.{Table, token, place, is_declaration}
use Rattle.express.specs.Syntax.Grammar.{file}
use Rattle.express.specs.Syntax.Syntax.{Read}
use Rattle.express.specs.Tokens.Scanned.{Scanned}
use Rattle.express.specs.Names.Fault.{sort}
use Rattle.express.proofs.Syntax.TokenOrder.{scanned_rising}
use Rattle.express.proofs.Syntax.Within.{token_inside}
use Rattle.express.proofs.Names.Later.{later}
use Rattle.scopes.specs.Entries.{declared}
use Rattle.scopes.specs.Range.{vertex_count, node_of}
use Rattle.scopes.proofs.Sorting.{declared_sort}
use Rattle.scopes.proofs.Numbering.{declared_some}
use Rattle.scopes.proofs.Ranges.{node_below, node_declares, nodes_rise}
use Rattle.dependencies.specs.Arrangement.{InTextOrder}
use Rattle.dependencies.proofs.Cycle.{declared_known}

module _ {t : Table} (d : Read file t) (scanned : Scanned t) where
  declares_sort : (n : ℕ) → is_declaration t n ≡ true → sort t n ≡ declared
  declares_sort n h = eqb-true (sort t n) declared (declared_sort t n ∙ h)

  places_rise : (x y : ℕ) → is_declaration t x ≡ true → is_declaration t y ≡ true → x < y → place t x < place t y
  places_rise x y a b h =
      later d (scanned_rising t scanned) x y h (declared_known t y b) (declared_some t y b) (declares_sort x a ∙ sym (declares_sort y b))

  pub in_text_order : InTextOrder t
  in_text_order x y a b h = omega (arith, places_rise x y a b h)

  tokens_rise : (x y : ℕ) → is_declaration t x ≡ true → is_declaration t y ≡ true → x < y → token t x < token t y
  tokens_rise x y a b h =
      let p = places_rise x y a b h in
      ⊎_elim
      (λ (l : token t y ≤ token t x).
      ⊎_elim (λ (m : token t x ≤ token t y). let q : token t x ≡ token t y = omega arith in let z : place t x ≡ place t y = rw q in absurd (omega arith))
      (λ m. let z = scanned_rising t scanned (token t y) (token t x) m (token_inside d x (declared_known t x a)) in absurd (omega (arith, z, p))) (le_or (token t x) (token t y)))
      (λ l. l) (le_or (token t y) (token t x))

  number_token : (v : ℕ) → v < vertex_count t → v ≤ token t (node_of t v)
  number_token zero l = omega arith
  number_token (suc v) l =
      let b : v < vertex_count t = omega arith in
      omega (arith, number_token v b, tokens_rise (node_of t v) (node_of t (suc v)) (node_declares t v b) (node_declares t (suc v) l) (nodes_rise t v (suc v) (omega arith) l))

  pub few_declarations : vertex_count t ≤ length t.terminals
  few_declarations =
      ⊎_elim (λ (z : vertex_count t ≤ 0). omega arith)
      (λ z. let v = vertex_count t - 1 in let l : v < vertex_count t = omega arith in omega (arith, number_token v l, token_inside d (node_of t v) (node_below t v l)))
      (le_or (vertex_count t) 0)
