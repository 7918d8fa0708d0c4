-- Operands with an operator between them: once, or again and again. Assumes nothing.
use mathlib.Core.Bool.{Bool, true, false, cond}
use mathlib.Core.List.{List, [], ◌++◌, append-nil}
use mathlib.Core.Logic.{⊎_elim}
use mathlib.Core.Path.{◌≡◌, refl, ap, subst, ◌∙◌}
use Prim.Native.Nat.{ℕ, ◌+◌, ◌-◌, ◌≤◌, ◌<◌}
use native.Mathlib.Omega.{arith}
use lib.Dec.{eqb}
use lib.ListN.{get_or, set}
use borrow.Author.Tests.{eq-eqb, ne_eqb}
use Rattle.ebnf.specs.Set.{mem}
use Rattle.ebnf.specs.Grammar.{Ebnf, none, seq, star, nt}
use Rattle.ebnf.specs.Rows.{Rows}
use Rattle.ebnf.specs.Parse.{Result}
use Rattle.ebnf.proofs.Sets.{lt_or_le}
use Rattle.ebnf.proofs.Predictive.{Ok}
use Rattle.express.specs.Syntax.Grammar.{Nonterminal, rules, opt, row as row_of}
use Rattle.express.specs.Syntax.NodeKind as kind
use Rattle.express.specs.Syntax.Lookahead.{tables}
use Rattle.express.proofs.Syntax.Descent.{phrase, next_operand}
use Rattle.parsing.specs.Reading.{Read, At, Refused, word, Ready, Reads, Reading, Combines}
use Rattle.parsing.proofs.Terminals.{inside}
use Rattle.parsing.proofs.Laws.{start, finish, last, apart, nothing, refused_found, told, by_row, phrased, left, right, more, stop, operator, reads, reads_at}

-- ---- a second operand

mem_nil : (c : ℕ) (cs : List ℕ) (b : Bool) → mem c cs ≡ b → mem c (cs ++ []) ≡ b
mem_nil c cs b h = ap (λ (l : List ℕ). mem c l) (append-nil cs) ∙ h

module _ {ts cs : List ℕ} {y : Nonterminal} {want : Result Rows} {n : ℕ} {a : List ℕ} {rest : Ebnf Nonterminal} {m : ℕ} {b : List ℕ} {q i : ℕ} {r : Read} {c : List ℕ}
    (t : mem (get_or ts q 0) cs ≡ true) (g : Reads y ts (q + 1) i r b c) (v : Reading ts want n a (seq (next_operand cs y) rest) m (At q i) b) where
  -- an operator and an operand
  operand_behind : Reading ts want n a (seq (row_of kind.two_operand) rest) q r c
  operand_behind = phrased g (apart (operator t (apart v)))

  -- and the row over both operands
  operated : {q₂ m₂ : ℕ} {d : List ℕ} → r ≡ At q₂ m₂ → m₂ ≤ 65536 → q < 1048576 → d ≡ set c m₂ (word kind.two_operand q (m₂ + 1 - n)) → Reading ts want n a rest q (At q₂ (m₂ + 1)) d
  operated {d = d} e k l h = by_row d (omega arith) (omega arith) k l h (told e operand_behind)

-- a first operand, and what is left then
began : (x y : Nonterminal) (begin : Ebnf Nonterminal) → rules x ≡ seq (nt y) begin → {ts : List ℕ} {p n : ℕ} → Ready ts p n → {a b : List ℕ} {r : Read} → Reads y ts p n r a b →
    Reading ts (phrase ts x p) n a begin p r b
began x y begin shape {ts} {p} {n} g {a} h = phrased h (subst (λ (e : Ebnf Nonterminal). Reading ts (phrase ts x p) n a e p (At p n) a) shape (start x p g.within))

-- ---- once: x is y, or y, an operator and y

module _ (x y : Nonterminal) (cs : List ℕ) (shape : rules x ≡ seq (nt y) (opt (next_operand cs y))) {ts : List ℕ} {p n : ℕ} (g : Ready ts p n) {a b : List ℕ} {r : Read}
    (first : Reads y ts p n r a b) where
  once_first : Reading ts (phrase ts x p) n a (opt (next_operand cs y)) p r b
  once_first = began x y (opt (next_operand cs y)) shape g first

  pub once_refused : {k : ℕ} → r ≡ Refused k → Reads x ts p n r a b
  once_refused e = reads x g.within (refused_found e once_first)

  module _ {q m : ℕ} (e : r ≡ At q m) where
    pub once_alone : mem (get_or ts q 0) cs ≡ false → Reads x ts p n (At q m) a b
    once_alone t = reads x g.within (finish (nothing (right (mem_nil _ cs false t) (last (told e once_first)))))

    module _ (t : mem (get_or ts q 0) cs ≡ true) where
      pub once_ready : mem 0 cs ≡ false → Ready ts (q + 1) m
      once_ready z =
          let u = reads_at first e in
          let k = g.behind in
          let l = inside ts cs q z t in
          record { small = g.small; within = omega arith; behind = omega arith }

      once_second : {r₂ : Read} {c : List ℕ} → Reads y ts (q + 1) m r₂ b c → Reading ts (phrase ts x p) n a (seq (row_of kind.two_operand) none) q r₂ c
      once_second second = operand_behind t second (left (mem_nil _ cs true t) (last (told e once_first)))

      pub once_stopped : {r₂ : Read} {c : List ℕ} {k : ℕ} → Reads y ts (q + 1) m r₂ b c → r₂ ≡ Refused k → Reads x ts p n r₂ a c
      once_stopped second z = reads x g.within (refused_found z (once_second second))

      pub once_both : {r₂ : Read} {c d : List ℕ} {q₂ m₂ : ℕ} → Reads y ts (q + 1) m r₂ b c → r₂ ≡ At q₂ m₂ → d ≡ set c m₂ (word kind.two_operand q (m₂ + 1 - n)) →
          Reads x ts p n (At q₂ (m₂ + 1)) a d
      once_both {d = d} second z h =
          let u = reads_at first e in
          let v = reads_at second z in
          let s = g.small in
          let k = g.behind in
          reads x g.within (finish (by_row d (omega arith) (omega arith) (omega arith) (omega arith) h (told z (once_second second))))

-- ---- by turns: each turn of a loop reads an operand and leaves the row over it and what was read before

-- x has been read up to q, but for the rest
pub record Partly (x : Nonterminal) (rest : Ebnf Nonterminal) (ts : List ℕ) (p n : ℕ) (a : List ℕ) (q m : ℕ) (b : List ℕ) : Type 0 where
  pub name : ℕ
  pub reading : Reading ts (phrase ts x p) n a rest name (At q m) b

-- An operand is to be read at q: the first of x, at p; or one whose operator stands before it, and `after` is left then.
pub data Stands (x y : Nonterminal) (cs : List ℕ) (after : Ebnf Nonterminal) (ts : List ℕ) (p n : ℕ) (a : List ℕ) : ℕ → ℕ → List ℕ → Type 0 where
  at_first : Stands x y cs after ts p n a p n a
  behind : {i m : ℕ} {b : List ℕ} → p ≤ i → mem (get_or ts i 0) cs ≡ true → Partly x (seq (next_operand cs y) after) ts p n a i m b → Stands x y cs after ts p n a (i + 1) m b

-- The loop's invariant: the place is one that a reader may be given.
pub record Before (x y : Nonterminal) (cs : List ℕ) (after : Ebnf Nonterminal) (ts : List ℕ) (p n : ℕ) (a : List ℕ) (q m : ℕ) (b : List ℕ) : Type 0 where
  pub from : p ≤ q
  pub ready : Ready ts q m
  pub stands : Stands x y cs after ts p n a q m b

pub before_first : {x y : Nonterminal} {cs : List ℕ} {after : Ebnf Nonterminal} {ts : List ℕ} {p n : ℕ} {a : List ℕ} → Ready ts p n → Before x y cs after ts p n a p n a
before_first g = record { from = omega arith; ready = g; stands = at_first }

combined_first : {p n m r : ℕ} {a b : List ℕ} → Combines p p n m r a b → (r ≡ m) × (b ≡ a)
combined_first {p} {n} {m} {r} {a} {b} k =
    let z = eq-eqb p p refl in
    (rw z at k.count, rw z at k.rows)

combined_later : {p i n m r : ℕ} {a b : List ℕ} → p ≤ i → Combines p (i + 1) n m r a b → (r ≡ m + 1) × (b ≡ set a m (word kind.two_operand i (m + 1 - n)))
combined_later {p} {i} {n} {m} {r} {a} {b} l k =
    let z = ne_eqb (i + 1) p (λ (e : i + 1 ≡ p). omega arith) in
    let e : i + 1 - 1 ≡ i = omega arith in
    (rw z at k.count, rw e at (rw z at k.rows))

module _ (x y : Nonterminal) (cs : List ℕ) (begin after : Ebnf Nonterminal) (shape : rules x ≡ seq (nt y) begin) {ts : List ℕ} {p n : ℕ} (g : Ready ts p n) {a : List ℕ} where
  refused_at : {q m k : ℕ} {b c : List ℕ} {r : Read} → Stands x y cs after ts p n a q m b → Reads y ts q m r b c → r ≡ Refused k → Reads x ts p n r a c
  refused_at at_first h e = reads x g.within (refused_found e (began x y begin shape g h))
  refused_at (behind l t v) h e = reads x g.within (refused_found e (operand_behind t h v.reading))

  first_at : {q m q₂ m₂ m₃ : ℕ} {b c d : List ℕ} {r : Read} → Stands x y cs after ts p n a q m b → q ≤ p → Reads y ts q m r b c → r ≡ At q₂ m₂ → Combines p q n m₂ m₃ c d →
      Partly x begin ts p n a q₂ m₃ d
  first_at at_first z h e k =
      let w = combined_first k in
      record { name = p; reading = rw (w.0, w.1) (told e (began x y begin shape g h)) }
  first_at (behind l t v) z h e k = absurd (omega arith)

  later_at : {q m q₂ m₂ m₃ : ℕ} {b c d : List ℕ} {r : Read} → Stands x y cs after ts p n a q m b → Ready ts q m → p < q → Reads y ts q m r b c → r ≡ At q₂ m₂ →
      Combines p q n m₂ m₃ c d → Partly x after ts p n a q₂ m₃ d
  later_at at_first u z h e k = absurd (omega arith)
  later_at (behind {i} l t v) u z h e k =
      let s = u.small in
      let s₂ = u.within in
      let s₃ = u.behind in
      let f = reads_at h e in
      let w = combined_later l k in
      record { name = i; reading = rw w.0 (operated t h v.reading e (omega arith) (omega arith) w.1) }

  module _ {q m : ℕ} {b : List ℕ} (v : Before x y cs after ts p n a q m b) {r : Read} {c : List ℕ} (h : Reads y ts q m r b c) where
    pub turn_refused : {k : ℕ} → r ≡ Refused k → Reads x ts p n r a c
    turn_refused e = refused_at v.stands h e

    module _ {q₂ m₂ m₃ : ℕ} {d : List ℕ} (e : r ≡ At q₂ m₂) (k : Combines p q n m₂ m₃ c d) where
      pub turn_first : q ≤ p → Partly x begin ts p n a q₂ m₃ d
      turn_first z = first_at v.stands z h e k

      pub turn_later : p < q → Partly x after ts p n a q₂ m₃ d
      turn_later z = later_at v.stands v.ready z h e k

-- ---- an operand more

-- what `combined` may be given
pub combinable : {x y : Nonterminal} {cs : List ℕ} {after : Ebnf Nonterminal} {ts : List ℕ} {p n : ℕ} {a : List ℕ} {q m q₂ m₂ : ℕ} {b c : List ℕ} {r : Read} → Before x y cs after ts p n a q m b →
    Reads y ts q m r b c → r ≡ At q₂ m₂ → (p ≤ q) × (m₂ ≤ 65536)
combinable v h e =
    let u = reads_at h e in
    let s = v.ready.small in
    let s₂ = v.ready.within in
    let s₃ = v.ready.behind in
    (v.from, omega arith)

counted : {p q n m r : ℕ} {a b : List ℕ} → Combines p q n m r a b → r ≤ m + 1
counted {p} {q} {m = m} k = rw k.count (go (eqb q p))
  where
    go : (b : Bool) → cond b m (m + 1) ≤ m + 1
    go true = omega arith
    go false = omega arith

-- an operator stands at q₂: the place behind it is one that a reader may be given
pub turn_ready : {x y : Nonterminal} {cs : List ℕ} {after : Ebnf Nonterminal} {ts : List ℕ} {p n : ℕ} {a : List ℕ} {q m q₂ m₂ m₃ : ℕ} {b c d : List ℕ} {r : Read} → Before x y cs after ts p n a q m b →
    Reads y ts q m r b c → r ≡ At q₂ m₂ → Combines p q n m₂ m₃ c d → mem 0 cs ≡ false → mem (get_or ts q₂ 0) cs ≡ true → Ready ts (q₂ + 1) m₃
turn_ready {cs = cs} {ts = ts} {q₂ = q₂} v h e k z t =
    let u = reads_at h e in
    let s = v.ready.behind in
    let l = inside ts cs q₂ z t in
    let w = counted k in
    record { small = v.ready.small; within = omega arith; behind = omega arith }

-- ---- often: x is y, and then any number of operators, each with a y

abbrev pub again : List ℕ → Nonterminal → Ebnf Nonterminal
again cs y = seq (star (next_operand cs y)) none

module _ (x y : Nonterminal) (cs : List ℕ) (shape : rules x ≡ seq (nt y) (star (next_operand cs y))) (o : Ok tables (star (next_operand cs y))) {ts : List ℕ} {p n : ℕ} (g : Ready ts p n)
    {a : List ℕ} {q m : ℕ} {b : List ℕ} (v : Before x y cs (again cs y) ts p n a q m b) {r : Read} {c : List ℕ} (h : Reads y ts q m r b c) where
  pub often_refused : {k : ℕ} → r ≡ Refused k → Reads x ts p n r a c
  often_refused e = turn_refused x y cs (star (next_operand cs y)) (again cs y) shape g v h e

  module _ {q₂ m₂ m₃ : ℕ} {d : List ℕ} (e : r ≡ At q₂ m₂) (k : Combines p q n m₂ m₃ c d) where
    often_turn : Partly x (again cs y) ts p n a q₂ m₃ d
    often_turn =
        ⊎_elim (λ (l : p < q). turn_later x y cs (star (next_operand cs y)) (again cs y) shape g v h e k l)
        (λ (l : q ≤ p). let w = turn_first x y cs (star (next_operand cs y)) (again cs y) shape g v h e k l in record { name = w.name; reading = last w.reading })
        (lt_or_le p q)

    pub often_ends : mem (get_or ts q₂ 0) cs ≡ false → Reads x ts p n (At q₂ m₃) a d
    often_ends t = reads x g.within (finish (stop o (reads_at h e).1 (mem_nil _ cs false t) often_turn.reading))

    pub often_again : mem 0 cs ≡ false → mem (get_or ts q₂ 0) cs ≡ true → Before x y cs (again cs y) ts p n a (q₂ + 1) m₃ d
    often_again z t =
        let f = v.from in
        let u = reads_at h e in
        let w = often_turn in
        record { from = omega arith; ready = turn_ready v h e k z t; stands = behind {i = q₂} (omega arith) t (record { name = w.name; reading = more o u.1 (mem_nil _ cs true t) w.reading }) }

-- ---- once, by turns

module _ (x y : Nonterminal) (cs : List ℕ) (shape : rules x ≡ seq (nt y) (opt (next_operand cs y))) {ts : List ℕ} {p n : ℕ} (g : Ready ts p n)
    {a : List ℕ} {q m : ℕ} {b : List ℕ} (v : Before x y cs none ts p n a q m b) {r : Read} {c : List ℕ} (h : Reads y ts q m r b c) where
  pub turned_refused : {k : ℕ} → r ≡ Refused k → Reads x ts p n r a c
  turned_refused e = turn_refused x y cs (opt (next_operand cs y)) none shape g v h e

  module _ {q₂ m₂ m₃ : ℕ} {d : List ℕ} (e : r ≡ At q₂ m₂) (k : Combines p q n m₂ m₃ c d) where
    pub turned_both : p < q → Reads x ts p n (At q₂ m₃) a d
    turned_both l = reads x g.within (finish (turn_later x y cs (opt (next_operand cs y)) none shape g v h e k l).reading)

    module _ (l : q ≤ p) where
      pub turned_alone : mem (get_or ts q₂ 0) cs ≡ false → Reads x ts p n (At q₂ m₃) a d
      turned_alone t = reads x g.within (finish (nothing (right (mem_nil _ cs false t) (last (turn_first x y cs (opt (next_operand cs y)) none shape g v h e k l).reading))))

      pub turned_again : mem 0 cs ≡ false → mem (get_or ts q₂ 0) cs ≡ true → Before x y cs none ts p n a (q₂ + 1) m₃ d
      turned_again z t =
          let f = v.from in
          let u = reads_at h e in
          let w = turn_first x y cs (opt (next_operand cs y)) none shape g v h e k l in
          record { from = omega arith; ready = turn_ready v h e k z t; stands = behind {i = q₂} (omega arith) t (record { name = w.name; reading = left (mem_nil _ cs true t) (last w.reading) }) }
