-- The literals of a file are within their bounds (T10, T13, T14).
use mathlib.Core.Path.{◌≡◌, refl, sym, ap, ◌∙◌}
use mathlib.Core.Logic.{◌≢◌}
use mathlib.Core.Bool.{Bool, true, false, cond, ◌||◌, false≢true}
use mathlib.Core.List.{List, [], ◌∷◌, map}
use Prim.Native.Nat.{ℕ, ◌^◌, ◌≤◌, ◌<◌}
use native.Mathlib.Decide.{dec_lt}
use native.Mathlib.Omega.{arith}
use borrow.Author.Tests.{eqb-false}
use lib.Dec.{eqb}
use lib.ListN.{length, get_or, get_or-map, get_or-eq_default}
use Rattle.express.specs.Tokens.Bytes.{within, upper, same}
use Rattle.express.specs.Tokens.Lexis.{TokenRow, lexed, integer_value, binary_bits, binary_value, string_value, most_bytes}
use Rattle.express.specs.Tokens.Terminal as word
use Rattle.express.specs.Tokens.Terminal.{Fixed, identifier, the, symbols, reserved, among, terminal_of}
use Rattle.express.specs.Syntax.NodeKind as node
use Rattle.relations.specs.Select.{any}
use Rattle.express.specs.Syntax.Tree.{Table, count, kind, token, terminal}
use Rattle.express.specs.Syntax.Grammar.{Nonterminal}
use Rattle.express.specs.Syntax.Syntax.{Read}
use Rattle.express.specs.Tokens.Scanned.{row_bytes, Scanned}
use Rattle.express.specs.Semantics.Bits.{number}
use Rattle.express.specs.Semantics.Shape.{text, Literals}
use Rattle.express.proofs.Tokens.TokenRows.{no_row, row_at, tokens_of, integer_small, string_few, binary_some, binary_few, binary_number}
use Rattle.express.proofs.Syntax.Within.{integer_named, binary_named}

-- ---- tokens

pub record Sized (s : List ℕ) (r : TokenRow) : Type 0 where
  pub small : r.kind ≡ 2 → integer_value (row_bytes s r) < 2 ^ 63
  pub few_bytes : r.kind ≡ 4 → length (string_value (row_bytes s r)) ≤ most_bytes
  pub some_bits : r.kind ≡ 5 → 1 ≤ length (binary_bits (row_bytes s r))
  pub few_bits : r.kind ≡ 5 → length (binary_bits (row_bytes s r)) ≤ 63
  pub read : r.kind ≡ 5 → binary_value (row_bytes s r) ≡ number (binary_bits (row_bytes s r))

nothing_sized : (s : List ℕ) → Sized s no_row
nothing_sized s =
    record {
      small = λ (i : ◌≡◌ {A = ℕ} 0 2). absurd (omega arith);
      few_bytes = λ (i : ◌≡◌ {A = ℕ} 0 4). absurd (omega arith);
      some_bits = λ (i : ◌≡◌ {A = ℕ} 0 5). absurd (omega arith);
      few_bits = λ (i : ◌≡◌ {A = ℕ} 0 5). absurd (omega arith);
      read = λ (i : ◌≡◌ {A = ℕ} 0 5). absurd (omega arith);
    }

pub lexed_sized : (s : List ℕ) (i : ℕ) → Sized s (get_or (lexed s).rows i no_row)
lexed_sized s i = by (dec_lt i (length (lexed s).rows))
  where
    by : Dec (i < length (lexed s).rows) → Sized s (get_or (lexed s).rows i no_row)
    by (yes l) =
        let t = (tokens_of s).token i l in
        let r = row_at (lexed s).rows i in
        record { small = integer_small s r t; few_bytes = string_few s r t; some_bits = binary_some s r t; few_bits = binary_few s r t; read = binary_number s r t }
    by (no n) = rw (get_or-eq_default (lexed s).rows no_row {n = i} (omega (arith, n))) (nothing_sized s)

-- ---- terminals: the code of a literal is that of no word and no symbol

among_not : (c : ℕ) (fs : List Fixed) (s : List ℕ) (o : ℕ) → any (λ (f : Fixed). eqb f.code c) fs ≡ false → o ≢ c → among fs s o ≢ c
unfolding among any
among_not c [] s o e n = n
among_not c (f ∷ fs) s o e n = by (same f.spelling s) (eqb f.code c) (any (λ (f : Fixed). eqb f.code c) fs) refl refl e (λ h. among_not c fs s o h n)
  where
    by : (a b d : Bool) → eqb f.code c ≡ b → any (λ (f : Fixed). eqb f.code c) fs ≡ d → b || d ≡ false →
        (any (λ (f : Fixed). eqb f.code c) fs ≡ false → among fs s o ≢ c) → cond a f.code (among fs s o) ≢ c
    by a true d i j g more = absurd (false≢true (sym g))
    by true false d i j g more = eqb-false f.code c i
    by false false d i j g more = more (j ∙ g)

abbrev has_code : ℕ → Fixed → Bool
has_code c f = eqb f.code c

literal_kind :
    (c k : ℕ) (s : List ℕ) → any (has_code c) reserved ≡ false → any (has_code c) symbols ≡ false → the identifier ≢ c → 0 ≢ c →
    terminal_of k s ≡ c → k ≡ c
unfolding terminal_of
literal_kind c k s w y i z e = by (eqb k 1) (eqb k 6) (within 2 5 k) e
  where
    by : (p q r : Bool) → cond p (among reserved (map upper s) (the identifier)) (cond q (among symbols s 0) (cond r k 0)) ≡ c → k ≡ c
    by true q r g = absurd (among_not c reserved (map upper s) (the identifier) w i g)
    by false true r g = absurd (among_not c symbols s 0 y z g)
    by false false true g = g
    by false false false g = absurd (z g)

-- ---- nodes

module _ {x : Nonterminal} {t : Table} (R : Read x t) (S : Scanned t) where
  -- the row of the token that names a node
  abbrev row : ℕ → TokenRow
  row n = get_or (lexed t.bytes).rows (token t n) no_row

  text_is : (n : ℕ) → text t n ≡ row_bytes t.bytes (row n)
  text_is n =
      let a : get_or t.lengths (token t n) 0 ≡ (row n).size = ap (λ (c : List ℕ). get_or c (token t n) 0) S.lengths_are ∙
      get_or-map (λ (r : TokenRow). r.size) (lexed t.bytes).rows (token t n) no_row in
      let b : get_or t.starts (token t n) 0 ≡ (row n).start = ap (λ (c : List ℕ). get_or c (token t n) 0) S.starts_are ∙
      get_or-map (λ (r : TokenRow). r.start) (lexed t.bytes).rows (token t n) no_row in
      rw (a, b)

  terminal_is : (n : ℕ) → terminal t n ≡ terminal_of (row n).kind (row_bytes t.bytes (row n))
  unfolding terminal_of
  terminal_is n =
      ap (λ (c : List ℕ). get_or c (token t n) 0) S.terminals_are ∙
      get_or-map (λ (r : TokenRow). terminal_of r.kind (row_bytes t.bytes r)) (lexed t.bytes).rows (token t n) no_row

  inside : (n k : ℕ) → kind t n ≡ k → k ≢ 0 → n < count t
  inside n k e h = by (dec_lt n (count t))
    where
      by : Dec (n < count t) → n < count t
      by (yes l) = l
      by (no l) = absurd (h (sym e ∙ get_or-eq_default t.kinds 0 (omega arith)))

  integer_row : (n : ℕ) → kind t n ≡ node.integer_literal → (row n).kind ≡ 2
  unfolding any
  integer_row n e =
      literal_kind 2 (row n).kind (row_bytes t.bytes (row n)) refl refl (λ (i : ◌≡◌ {A = ℕ} 1 2). omega arith) (λ (i : ◌≡◌ {A = ℕ} 0 2). omega arith)
      (sym (terminal_is n) ∙ integer_named R n (inside n node.integer_literal e (λ (i : ◌≡◌ {A = ℕ} 1 0). omega arith)) e)

  binary_row : (n : ℕ) → kind t n ≡ node.binary_literal → (row n).kind ≡ 5
  unfolding any
  binary_row n e =
      literal_kind 5 (row n).kind (row_bytes t.bytes (row n)) refl refl (λ (i : ◌≡◌ {A = ℕ} 1 5). omega arith) (λ (i : ◌≡◌ {A = ℕ} 0 5). omega arith)
      (sym (terminal_is n) ∙ binary_named R n (inside n node.binary_literal e (λ (i : ◌≡◌ {A = ℕ} 2 0). omega arith)) e)

  string_row : (n : ℕ) → terminal t n ≡ the word.string → (row n).kind ≡ 4
  unfolding any
  string_row n e =
      literal_kind 4 (row n).kind (row_bytes t.bytes (row n)) refl refl (λ (i : ◌≡◌ {A = ℕ} 1 4). omega arith) (λ (i : ◌≡◌ {A = ℕ} 0 4). omega arith)
      (sym (terminal_is n) ∙ e)

  -- THE LITERALS of a text are within their bounds.
  pub literals : Literals t
  literals =
      record {
        small = λ n e. rw (text_is n) ((lexed_sized t.bytes (token t n)).small (integer_row n e));
        some_bits = λ n e. rw (text_is n) ((lexed_sized t.bytes (token t n)).some_bits (binary_row n e));
        few_bits = λ n e. rw (text_is n) ((lexed_sized t.bytes (token t n)).few_bits (binary_row n e));
        few_bytes = λ n e w. rw (text_is n) ((lexed_sized t.bytes (token t n)).few_bytes (string_row n w));
      }

  -- and what is read of a binary is the number of its bits
  pub binary_read : (n : ℕ) → kind t n ≡ node.binary_literal → binary_value (text t n) ≡ number (binary_bits (text t n))
  binary_read n e = rw (text_is n) ((lexed_sized t.bytes (token t n)).read (binary_row n e))
