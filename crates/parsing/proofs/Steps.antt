-- The steps of a reader: a token of one terminal, the place behind it, the row over two operands. Assumes nothing.
use mathlib.Core.Bool.{Bool, true, false, ◌&&◌, ◌||◌, cond}
use mathlib.Core.List.{List, [], ◌∷◌}
use mathlib.Core.Logic.{⊎_elim}
use mathlib.Core.Path.{◌≡◌, refl, sym, ◌∙◌}
use Prim.Native.Nat.{ℕ, ◌+◌, ◌-◌, ◌≤◌, ◌<◌}
use native.Mathlib.Omega.{arith}
use lib.Dec.{eqb, ltb, leb}
use lib.ListN.{length, get_or, set, get_or-eq_default}
use borrow.Author.Tests.{eq-eqb, ne_eqb, lt-ltb, le-ltb, ltb-true, leb-true, le-leb}
use Rattle.ebnf.specs.Set.{mem}
use Rattle.ebnf.specs.Grammar.{silent, here, Ebnf, none, step, seq}
use Rattle.ebnf.specs.Rows.{Rows}
use Rattle.ebnf.specs.Parse.{Result}
use Rattle.ebnf.proofs.Sets.{and_split, lt_or_le}
use Rattle.express.specs.Syntax.Grammar.{Nonterminal}
use Rattle.express.specs.Syntax.NodeKind as kind
use Rattle.parsing.specs.Reading.{Read, At, Refused, word, is_place, expect_at, Expects, Ready, Reads, ReadsAnywhere, Reading, Combines}
use Rattle.parsing.proofs.Terminals.{is_one, not_one, inside}
use Rattle.parsing.proofs.Laws.{expected, token, named, told, same_token, same_row, refused_not_at}

no_zero : (code : ℕ) → 0 < code → mem 0 (code ∷ []) ≡ false
no_zero code h = not_one 0 code (λ e. omega arith)

-- a token that is there is within the list
pub one_inside : (ts : List ℕ) (p t code : ℕ) → t ≡ get_or ts p 0 → t ≡ code → 0 < code → p < length ts
one_inside ts p t code e f h = inside ts (code ∷ []) p (no_zero code h) (is_one (get_or ts p 0) code (sym e ∙ f))

pub onward : {ts : List ℕ} {p n : ℕ} → Ready ts p n → p < length ts → Ready ts (p + 1) n
onward g l = let w = g.behind in record { small = g.small; within = omega arith; behind = omega arith }

pub onward_row : {ts : List ℕ} {p n : ℕ} → Ready ts p n → p < length ts → Ready ts (p + 1) (n + 1)
onward_row g l = let w = g.behind in record { small = g.small; within = omega arith; behind = omega arith }

-- ---- a token of one terminal

or_false : (b : Bool) → (b || false) ≡ b
or_false true = refl
or_false false = refl

mem_one : (c code : ℕ) → mem c (code ∷ []) ≡ eqb c code
unfolding mem
mem_one c code = or_false (eqb c code)

-- past the end there is none
expected_is : (ts : List ℕ) (code p n : ℕ) → 0 < code → expect_at ts code p n ≡ expected ts (code ∷ []) p n
expected_is ts code p n z =
    ⊎_elim
    (λ (l : p < length ts). rw (lt-ltb p (length ts) l, mem_one (get_or ts p 0) code))
    (λ (l : length ts ≤ p). rw (le-ltb p (length ts) l, get_or-eq_default ts 0 l, no_zero code z))
    (lt_or_le p (length ts))

module _ {code : ℕ} {ts : List ℕ} {p n : ℕ} {r : Read} (h : Expects code ts p n r) where
  -- where it leads
  pub expect_goes : {q m : ℕ} → r ≡ At q m → (q ≡ p + 1) × (m ≡ n) × (p < length ts)
  expect_goes {q} {m} e = go (ltb p (length ts) && eqb (get_or ts p 0) code) refl (sym h.is ∙ e)
    where
      go : (b : Bool) → (ltb p (length ts) && eqb (get_or ts p 0) code) ≡ b → cond b (At (p + 1) n) (Refused p) ≡ At q m → (q ≡ p + 1) × (m ≡ n) × (p < length ts)
      go true b z = (sym (same_token z), sym (same_row z), ltb-true p (length ts) (and_split (ltb p (length ts)) _ b).0)
      go false b z = refused_not_at q m p z

  pub expect_ready : {q m : ℕ} → Ready ts p n → r ≡ At q m → Ready ts q m
  expect_ready g e = let w = expect_goes e in rw (w.0, w.1) (onward g w.2)

  module _ {want : Result Rows} {k m : ℕ} {was b : List ℕ} {rest : Ebnf Nonterminal} (z : 0 < code) where
    pub by_token : Reading ts want k was (seq (step silent (code ∷ []) none) rest) m (At p n) b → Reading ts want k was rest m r b
    by_token v = told (sym (h.is ∙ expected_is ts code p n z)) (token v)

    -- a token that names the next row
    pub by_name : Reading ts want k was (seq (step here (code ∷ []) none) rest) m (At p n) b → Reading ts want k was rest p r b
    by_name v = told (sym (h.is ∙ expected_is ts code p n z)) (named v)

-- ---- the row over two operands

module _ {p q n m : ℕ} {a : List ℕ} where
  pub combined_one : q ≡ p → Combines p q n m m a a
  combined_one e = let z = eq-eqb q p e in record { count = rw z refl; rows = rw z refl }

  pub combined_two : {b : List ℕ} → (q ≡ p → ⊥) → b ≡ set a m (word kind.two_operand (q - 1) (m + 1 - n)) → Combines p q n m (m + 1) a b
  combined_two e u = let f = ne_eqb q p e in record { count = rw f refl; rows = rw f u }

-- ---- two tokens

pub two_there : (ts : List ℕ) (p t u c d : ℕ) → t ≡ get_or ts p 0 → t ≡ c → u ≡ get_or ts (p + 1) 0 → eqb u d ≡ (mem (get_or ts p 0) (c ∷ []) && mem (get_or ts (p + 1) 0) (d ∷ []))
two_there ts p t u c d e f g = rw (← e, ← g, is_one t c f, mem_one u d)

pub two_not : (ts : List ℕ) (p t c d : ℕ) → t ≡ get_or ts p 0 → (t ≡ c → ⊥) → false ≡ (mem (get_or ts p 0) (c ∷ []) && mem (get_or ts (p + 1) 0) (d ∷ []))
two_not ts p t c d e f = rw (not_one (get_or ts p 0) c (λ k. f (e ∙ k))) refl

-- ---- a place, by its test

pub place_ready : (ts : List ℕ) (p n : ℕ) → is_place ts p n ≡ true → Ready ts p n
place_ready ts p n h =
    let a = and_split (leb (length ts) 65536) _ h in
    let b = and_split (leb p (length ts)) _ a.1 in
    record { small = leb-true (length ts) 65536 a.0; within = leb-true p (length ts) b.0; behind = leb-true n p b.1 }

ready_place : (ts : List ℕ) (p n : ℕ) → Ready ts p n → is_place ts p n ≡ true
ready_place ts p n g = rw (le-leb (length ts) 65536 g.small, le-leb p (length ts) g.within, le-leb n p g.behind) refl

true_false : {A : Type 0} (b : Bool) → b ≡ true → b ≡ false → A
true_false true e f = let z : ◌≡◌ {A = ℕ} 0 1 = cc in absurd (omega arith)
true_false false e f = let z : ◌≡◌ {A = ℕ} 0 1 = cc in absurd (omega arith)

module _ {x : Nonterminal} {ts : List ℕ} {p n : ℕ} {t : Bool} (e : t ≡ is_place ts p n) {a : List ℕ} where
  pub anywhere_there : {r : Read} {b : List ℕ} → t ≡ true → Reads x ts p n r a b → ReadsAnywhere x ts p n r a b
  anywhere_there h k = record { reads = λ g. k; nowhere = λ z. true_false (is_place ts p n) (sym e ∙ h) z }

  pub anywhere_not : t ≡ false → ReadsAnywhere x ts p n (Refused p) a a
  anywhere_not h = record { reads = λ g. true_false (is_place ts p n) (ready_place ts p n g) (sym e ∙ h); nowhere = λ z. (refl, refl) }
