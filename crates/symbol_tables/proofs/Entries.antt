-- An entry says what it is made of, since a code is less than the number of codes; so with a node more it says the meaning of one node more.
use mathlib.Core.Path.{◌≡◌, refl, ap, ◌∙◌}
use mathlib.Core.Bool.{Bool, true, false, cond}
use mathlib.Core.List.{List, [], ◌∷◌}
use Prim.Native.Nat.{ℕ, ◌+◌, ◌*◌, ◌%◌, ◌<◌}
use native.Mathlib.Omega.{arith}
use borrow.Author.Tests.{eq-eqb, ne_eqb}
use lib.Dec.{eqb}
use lib.ListN.{get_or, set}
use Rattle.express.specs.Names.Scope.{meaning}
use Rattle.symbol_tables.specs.Entry.{several_code, code, code_count, stamp_count, several_held, node_limit, stamp_of, held, joined, widened}
use Rattle.symbol_tables.specs.Table.{Adds}

module _ (stamp c : ℕ) (l : c < code_count) where
  pub made_stamp : stamp_of (stamp * code_count + c) ≡ stamp
  made_stamp = omega arith

  made_code : (stamp * code_count + c) % code_count ≡ c
  made_code = omega arith

  pub held_made : held stamp (stamp * code_count + c) ≡ c
  held_made = rw (eq-eqb (stamp_of (stamp * code_count + c)) stamp made_stamp) made_code

pub joined_small : (c n : ℕ) → n < node_limit → joined c n < code_count
joined_small c n l = by (eqb c 0)
  where
    by : (b : Bool) → cond b (n + 1) several_held < code_count
    by true = omega arith
    by false = omega arith

-- a code is none exactly if what it says is
widened_none : (c : ℕ) → widened c ≡ 0 → c ≡ 0
widened_none c e = by (eqb c several_held) refl
  where
    by : (b : Bool) → eqb c several_held ≡ b → c ≡ 0
    by true q = let z : several_code ≡ 0 = (rw q at e) in absurd (omega arith)
    by false q = rw q at e

widened_one : (n : ℕ) → n < node_limit → widened (n + 1) ≡ n + 1
widened_one n l = rw (ne_eqb (n + 1) several_held (λ q. omega arith))

-- one node more among those that are meant
pub joined_means : (c n : ℕ) (ks : List ℕ) → n < node_limit → widened c ≡ code (meaning ks) → widened (joined c n) ≡ code (meaning (n ∷ ks))
joined_means c n [] l e = let z = widened_none c e in rw z (widened_one n l)
joined_means c n (k ∷ []) l e = rw (ne_eqb c 0 (some k e))
  where
    some : (k : ℕ) → widened c ≡ k + 1 → c ≡ 0 → ⊥
    some k h z = let y : 0 ≡ k + 1 = (rw z at h) in omega arith
joined_means c n (k ∷ m ∷ ks) l e = rw (ne_eqb c 0 some)
  where
    some : c ≡ 0 → ⊥
    some z = let y : 0 ≡ several_code = (rw z at e) in omega arith

-- ---- the calls of `add`
pub stored : {table table' : List ℕ} {stamp symbol node s e c n c' e' : ℕ} → s ≡ symbol → e ≡ get_or table s 0 → c ≡ held stamp e → (node < 4294967296 → n ≡ node)
    → (n < node_limit → c' ≡ joined c n) → (stamp < stamp_count → c' < code_count → e' ≡ stamp * code_count + c') → table' ≡ set table s e' → Adds table stamp symbol node table'
stored {table} {table'} {stamp} {symbol} {node} {s} {e} {c} {n} {c'} {e'} q a b w m f p =
    record {
      is =
          λ k l.
          let n_is : n ≡ node = w (omega arith) in
          let c_is : c' ≡ joined (held stamp (get_or table symbol 0)) node =
          m (omega arith) ∙ ap (joined c) n_is ∙ ap (λ (x : ℕ). joined x node) (b ∙ ap (held stamp) (a ∙ ap (λ (i : ℕ). get_or table i 0) q)) in
          let small : c' < code_count = rw c_is (joined_small (held stamp (get_or table symbol 0)) node l) in
          p ∙ ap (λ (i : ℕ). set table i e') q ∙ ap (set table symbol) (f k small ∙ ap (λ (x : ℕ). stamp * code_count + x) c_is);
    }
