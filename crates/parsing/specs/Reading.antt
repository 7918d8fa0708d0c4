-- What a reading step answers and leaves, in terms of the grammar: the inner contracts of the readers.
use Rattle.std.specs.Prelude.{Bool, true, false, ◌&&◌, cond, List, [], ◌∷◌, map, ◌≡◌, ℕ, ◌+◌, ◌-◌, ◌*◌, ◌%◌, ◌≤◌, ◌<◌, eqb, ltb, leb, length, get_or, set, take, Result as Either, Ok, Err}
use Rattle.std.proofs.lemmas.List.Edits.{sets}
use Rattle.ebnf.specs.Set.{mem}
use Rattle.ebnf.specs.Grammar.{Ebnf, seq, nt}
use Rattle.ebnf.specs.Rows.{Row, Rows, in_rows}
use Rattle.ebnf.specs.Parse.{Result, at, refused, starved, bind}
use Rattle.express.specs.Tokens.Terminal.{identifier, integer, binary, question, SELF}
use Rattle.express.specs.Syntax.Grammar.{Nonterminal, rules, sum, ◌·◌, leaves, comparisons, logicals, others}
use Rattle.express.specs.Syntax.NodeKind as kind
use Rattle.ebnf.specs.Descent as descent
use Rattle.express.specs.Syntax.Lookahead.{tables}
use Rattle.parsing.specs.declared.Position.{Position}
use Rattle.parsing.specs.declared.Unexpected.{Unexpected}

-- ---- answers

-- what a reader answers: where it goes on, or the token that cannot stand
abbrev pub Read : Type 0
Read = Either Position Unexpected

-- the next token and the next row
abbrev pub At : ℕ → ℕ → Read
At p n = Ok (record { token = p; row = n })

abbrev pub Refused : ℕ → Read
Refused k = Err (record { token = k })

-- ---- rows in words

-- R19: kind and role of a row in one number
abbrev pub labelled : ℕ → ℕ → ℕ
labelled kind role = kind + 256 * role

-- a row in one word: its label in 16 bits, then its naming token in 20, then its size in 20
abbrev pub word : ℕ → ℕ → ℕ → ℕ
word label token size = label % 65536 + 65536 * (token % 1048576) + 68719476736 * (size % 1048576)

abbrev pub word_of : Row → ℕ
word_of r = word (labelled r.kind r.role) r.token r.size

-- a row that its word holds
pub record Fits (r : Row) : Type 0 where
  pub kind : r.kind < 256
  pub role : r.role < 256
  pub token : r.token < 1048576
  pub size : r.size < 1048576

abbrev pub All_fit : List Row → Type 0
All_fit [] = Unit {0}
All_fit (r ∷ rs) = Fits r × All_fit rs

-- ---- places

-- a place that a reader is given: within the list, with no more rows before it than tokens
pub record Ready (ts : List ℕ) (p n : ℕ) : Type 0 where
  pub small : length ts ≤ 65536
  pub within : p ≤ length ts
  pub behind : n ≤ p

-- the same as a test
abbrev pub is_place : List ℕ → ℕ → ℕ → Bool
is_place ts p n = leb (length ts) 65536 && (leb p (length ts) && leb n p)

abbrev pub Sound : List ℕ → Read → Type 0
Sound ts (Ok next) = Ready ts next.token next.row
Sound ts (Err e) = Unit {0}

-- an answer to what was read from token p and row n on
abbrev pub Ahead : List ℕ → ℕ → ℕ → Read → Type 0
Ahead ts p n (Ok next) = (p < next.token) × (next.token ≤ length ts) × (n ≤ next.row) × (next.row + p ≤ next.token + n)
Ahead ts p n (Err e) = Unit {0}

-- ---- what is found

-- what the rule of x comes to at p
abbrev pub phrase : List ℕ → Nonterminal → ℕ → Result Rows
phrase ts = descent.phrase in_rows rules tables ts

-- The answer x and the rows b, from a, are what a result says, with its rows from n on. After a refusal, which is reply 4 at a token, the rows
-- before n are as they were.
abbrev pub Found : Result Rows → ℕ → Read → List ℕ → List ℕ → Type 0
Found (at j s) n x a b = (x ≡ At j (n + length s.rows)) × (b ≡ sets a n (map word_of s.rows)) × All_fit s.rows
Found (refused k) n x a b = (x ≡ Refused k) × (take n b ≡ take n a)
Found starved n x a b = ⊥

-- A reader of x, at token p and row n.
pub record Reads (x : Nonterminal) (ts : List ℕ) (p n : ℕ) (r : Read) (a b : List ℕ) : Type 0 where
  pub found : Found (phrase ts x p) n r a b
  pub ahead : Ahead ts p n r

-- A reader of x that may be given any numbers: those that are no place are refused, and nothing is written.
pub record ReadsAnywhere (x : Nonterminal) (ts : List ℕ) (p n : ℕ) (r : Read) (a b : List ℕ) : Type 0 where
  pub reads : Ready ts p n → Reads x ts p n r a b
  pub nowhere : is_place ts p n ≡ false → (r ≡ Refused p) × (b ≡ a)

-- ---- tokens

-- a token of one terminal, within the list
abbrev pub expect_at : List ℕ → ℕ → ℕ → ℕ → Read
expect_at ts code p n = cond (ltb p (length ts) && eqb (get_or ts p 0) code) (At (p + 1) n) (Refused p)

pub record Expects (code : ℕ) (ts : List ℕ) (p n : ℕ) (r : Read) : Type 0 where
  pub is : r ≡ expect_at ts code p n

-- ---- parts of rules

-- the name of a result's rows
abbrev pub Named : Result Rows → ℕ → Type 0
Named (at j s) m = s.name ≡ m
Named (refused k) m = Unit {0}
Named starved m = Unit {0}

abbrev pub run : List ℕ → Ebnf Nonterminal → ℕ → Rows → Result Rows
run ts e i s = descent.run in_rows rules tables ts e i s (λ j t. at j t)

-- PART OF A RULE HAS BEEN READ: what is wanted is what was found so far, the rule's rows from n on and its next row's name m, and then what
-- the rest comes to from there.
pub record Reading (ts : List ℕ) (want : Result Rows) (n : ℕ) (a : List ℕ) (rest : Ebnf Nonterminal) (m : ℕ) (x : Read) (b : List ℕ) : Type 0 where
  pub done : Result Rows
  pub found : Found done n x a b
  pub named : Named done m
  pub is : want ≡ bind done (λ j s. run ts rest j s)

-- Reading e at token p and row n, to the answer r: whatever is wanted, what is left afterwards is the rest.
pub record Continues (e : Ebnf Nonterminal) (ts : List ℕ) (p n : ℕ) (r : Read) (a b : List ℕ) : Type 0 where
  pub on : {want : Result Rows} {k m : ℕ} {was : List ℕ} {rest : Ebnf Nonterminal} →
      Reading ts want k was (seq e rest) m (At p n) a → Reading ts want k was rest m r b

pub record Steps (e : Ebnf Nonterminal) (ts : List ℕ) (p n : ℕ) (r : Read) (a b : List ℕ) : Type 0 where
  pub sound : Sound ts r
  pub goes : Continues e ts p n r a b

-- a comparison and a sum, at token p and row n
pub record Compares (ts : List ℕ) (p n : ℕ) (r : Read) (a b : List ℕ) : Type 0 where
  pub ahead : Ahead ts p n r
  pub goes : Continues (leaves comparisons kind.interval_operator · nt sum) ts p n r a b

-- ---- rows

-- The token at p leaves a row with nothing below it, at n; or it is refused, and nothing is written.
abbrev pub Leaf : Bool → ℕ → ℕ → ℕ → Read → List ℕ → List ℕ → Type 0
Leaf true label p n r a b = (r ≡ At (p + 1) (n + 1)) × (b ≡ set a n (word label p (n + 1 - n)))
Leaf false label p n r a b = (r ≡ Refused p) × (b ≡ a)

-- kind and role of an atom's row, by its token; 0 where the token begins no atom that leaves one
abbrev pub atom_label : ℕ → ℕ
atom_label c =
    cond (mem c integer) kind.integer_literal
    (cond (mem c binary) kind.binary_literal
    (cond (mem c logicals) kind.logical_literal
    (cond (mem c question) kind.question
    (cond (mem c others) kind.other_literal
    (cond (mem c identifier) (labelled kind.name kind.in_expression)
    (cond (mem c SELF) kind.self 0))))))

-- The row over two operands, the second at q behind their operator, where m rows are left: r rows then. A first operand, at p, has no such row.
pub record Combines (p q n m r : ℕ) (a b : List ℕ) : Type 0 where
  pub count : r ≡ cond (eqb q p) m (m + 1)
  pub rows : b ≡ cond (eqb q p) a (set a m (word kind.two_operand (q - 1) (m + 1 - n)))
