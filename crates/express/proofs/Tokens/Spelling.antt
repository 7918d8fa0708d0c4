-- Symbols of identifiers are equal exactly when their spellings are.
use mathlib.Core.Path.{◌≡◌, refl, sym, ap, ap₂, subst, ◌∙◌}
use mathlib.Core.Logic.{◌↔◌}
use mathlib.Core.Bool.{Bool, true, false, false≢true}
use mathlib.Core.List.{List, [], ◌∷◌}
use Prim.Native.Nat.{ℕ, zero, suc, ◌-◌, ◌≤◌, ◌<◌}
use native.Mathlib.Omega.{arith}
use borrow.Author.Tests.{eqb-true, eq-eqb}
use lib.Dec.{eqb}
use lib.ListN.{length, get_or}
use Rattle.express.specs.Syntax.Tree.{Table, token, terminal}
use Rattle.express.specs.Syntax.Tree as tree
use Rattle.express.specs.Tokens.Bytes.{same}
use Rattle.express.specs.Tokens.Spelling.{spelling, is_identifier, spelled_like, symbol_of, symbols_of}
use Rattle.express.specs.Tokens.Terminal.{the, identifier}
use Rattle.relations.proofs.Select.{and_fst, and_snd, and_both, column_at, First, first_is}

pub same_true : (xs ys : List ℕ) → same xs ys ≡ true → xs ≡ ys
unfolding same
same_true [] [] e = refl
same_true [] (y ∷ ys) e = absurd (false≢true e)
same_true (x ∷ xs) [] e = absurd (false≢true e)
same_true (x ∷ xs) (y ∷ ys) e =
    ap₂ {C = List ℕ} (λ z zs. z ∷ zs) (eqb-true x y (and_fst (eqb x y) (same xs ys) e)) (same_true xs ys (and_snd (eqb x y) (same xs ys) e))

pub same_refl : (xs : List ℕ) → same xs xs ≡ true
unfolding same
same_refl [] = refl
same_refl (x ∷ xs) = and_both (eqb x x) (same xs xs) (eq-eqb x x refl) (same_refl xs)

module _ (bytes starts lengths terminals : List ℕ) where
  abbrev spelt : ℕ → List ℕ
  spelt i = spelling bytes starts lengths i

  abbrev named : ℕ → Bool
  named i = is_identifier terminals i

  abbrev like : ℕ → ℕ → Bool
  like i j = spelled_like bytes starts lengths terminals i j

  abbrev symbol : ℕ → ℕ
  symbol i = symbol_of bytes starts lengths terminals i

  -- a token that is no identifier
  pub symbol_other : (i : ℕ) → is_identifier terminals i ≡ false → symbol i ≡ i
  unfolding symbol_of
  symbol_other i e = rw e

  found : (i : ℕ) → is_identifier terminals i ≡ true → First (like i) 0 i (symbol i)
  unfolding symbol_of
  found i h = rw h (first_is (like i) 0 i)

  pub symbol_le : (i : ℕ) → symbol i ≤ i
  symbol_le i = by (named i) refl
    where
      by : (b : Bool) → named i ≡ b → symbol i ≤ i
      by true h = omega (arith, (found i h).upto)
      by false h = omega (arith, symbol_other i h)

  -- it is an identifier that is spelled like token i, and the least that is
  symbol_like : (i : ℕ) → is_identifier terminals i ≡ true → (is_identifier terminals (symbol i) ≡ true) × (spelt (symbol i) ≡ spelt i)
  symbol_like i h = by (i - symbol i) refl
    where
      by : (d : ℕ) → i - symbol i ≡ d → (named (symbol i) ≡ true) × (spelt (symbol i) ≡ spelt i)
      by zero e = let q : symbol i ≡ i = omega (arith, symbol_le i) in (ap (λ k. named k) q ∙ h, ap (λ k. spelt k) q)
      by (suc d) e =
          let p = (found i h).passes (omega arith) in
          (and_fst (named (symbol i)) (same (spelt (symbol i)) (spelt i)) p, same_true _ _ (and_snd (named (symbol i)) (same (spelt (symbol i)) (spelt i)) p))

  pub symbol_named : (i : ℕ) → is_identifier terminals i ≡ true → is_identifier terminals (symbol i) ≡ true
  symbol_named i h = (symbol_like i h).0

  pub symbol_spelled : (i : ℕ) → is_identifier terminals i ≡ true → spelt (symbol i) ≡ spelt i
  symbol_spelled i h = (symbol_like i h).1

  pub symbol_least : (i j : ℕ) → is_identifier terminals i ≡ true → is_identifier terminals j ≡ true → spelt j ≡ spelt i → symbol i ≤ j
  symbol_least i j h g e = by (symbol i - j) refl
    where
      alike : like i j ≡ true
      alike = and_both (named j) (same (spelt j) (spelt i)) g (subst (λ (x : List ℕ). same (spelt j) x ≡ true) e (same_refl (spelt j)))

      by : (d : ℕ) → symbol i - j ≡ d → symbol i ≤ j
      by zero z = omega arith
      by (suc d) z = absurd (false≢true (sym ((found i h).none j (omega arith) (omega arith)) ∙ alike))

  -- of two identifiers: symbols equal, spellings equal
  pub symbol_iff : (i j : ℕ) → is_identifier terminals i ≡ true → is_identifier terminals j ≡ true → (symbol i ≡ symbol j) ↔ (spelt i ≡ spelt j)
  symbol_iff i j h g = (
    λ e. sym (symbol_spelled i h) ∙ ap (λ k. spelt k) e ∙ symbol_spelled j g,
    λ e.
        let a = symbol_least i (symbol j) h (symbol_named j g) (symbol_spelled j g ∙ sym e) in
        let b = symbol_least j (symbol i) g (symbol_named i h) (symbol_spelled i h ∙ e) in
        omega arith,
  )

  -- the column of them
  pub symbols_at : (i : ℕ) → i < length starts → get_or (symbols_of bytes starts lengths terminals) i 0 ≡ symbol i
  unfolding symbols_of
  symbols_at i h = column_at symbol (length starts) i h

-- In a table with these symbols, names, which are identifiers, are alike exactly when they are spelled alike, letters without case.
pub alike_iff :
    (t : Table) → t.symbols ≡ symbols_of t.bytes t.starts t.lengths t.terminals →
    (n k : ℕ) → token t n < length t.starts → token t k < length t.starts → terminal t n ≡ the identifier → terminal t k ≡ the identifier →
    (tree.symbol t n ≡ tree.symbol t k) ↔ (spelling t.bytes t.starts t.lengths (token t n) ≡ spelling t.bytes t.starts t.lengths (token t k))
alike_iff t e n k a b c d = (λ q. iff.0 (sym (at n a) ∙ q ∙ at k b), λ q. at n a ∙ iff.1 q ∙ sym (at k b))
  where
    iff :
        (symbol_of t.bytes t.starts t.lengths t.terminals (token t n) ≡ symbol_of t.bytes t.starts t.lengths t.terminals (token t k)) ↔
        (spelling t.bytes t.starts t.lengths (token t n) ≡ spelling t.bytes t.starts t.lengths (token t k))
    iff =
        symbol_iff t.bytes t.starts t.lengths t.terminals (token t n) (token t k) (eq-eqb (terminal t n) (the identifier) c)
        (eq-eqb (terminal t k) (the identifier) d)

    at : (m : ℕ) → token t m < length t.starts → tree.symbol t m ≡ symbol_of t.bytes t.starts t.lengths t.terminals (token t m)
    at m l = ap (λ (c : List ℕ). get_or c (token t m) 0) e ∙ symbols_at t.bytes t.starts t.lengths t.terminals (token t m) l
