-- Words: the table of the bytes that one goes on with, a byte a turn, and four.
use mathlib.Core.Path.{◌≡◌, refl, sym, ap, ◌∙◌}
use mathlib.Core.Bool.{Bool, true, false, cond, ◌&&◌}
use mathlib.Core.List.{List}
use Prim.Native.Nat.{ℕ, ◌+◌, ◌%◌, ◌<◌, ◌≤◌}
use native.Mathlib.Omega.{arith}
use lib.ListN.{length, get_or}
use lib.Bits.{bit_and, and_le_l}
use Rattle.express.specs.Tokens.Bytes.{word_byte}
use Rattle.express.specs.Tokens.Lexis.{run}
use Rattle.columns.proofs.Laws.{tabulated_at}
use Rattle.scan.specs.Scan.{zero_mark, mark, word_table, WordBytes}
use Rattle.blanks.proofs.Turns.{run_more, run_stop}

pub table_at : (t : List ℕ) (b i : ℕ) → t ≡ word_table → i ≡ b → b < 256 → get_or t i 0 ≡ mark (word_byte b)
unfolding word_table
table_at t b i is at h = rw (is, at) (tabulated_at (λ x. mark (word_byte x)) 0 256 b h ∙ ap (λ (x : ℕ). mark (word_byte x)) (omega arith))

none : (x : Bool) → mark x ≡ zero_mark → x ≡ false
none true e = absurd (omega (arith, e))
none false e = refl

some : (x : Bool) → (mark x ≡ zero_mark → ⊥) → x ≡ true
some true n = refl
some false n = absurd (n refl)

-- what is known of the byte at i: its mark
module _ (s : List ℕ) (i a : ℕ) (a_is : a ≡ mark (word_byte (get_or s i 0))) (h : i < length s) where
  pub word_stops : a ≡ zero_mark → i ≡ run word_byte s i
  word_stops e = sym (run_stop word_byte s i h (none _ (sym a_is ∙ e)))

  pub word_more : (a ≡ zero_mark → ⊥) → run word_byte s (i + 1) ≡ run word_byte s i
  word_more n = sym (run_more word_byte s i h (some _ (λ e. n (a_is ∙ e))))

-- ---- four bytes

abbrev bit : Bool → ℕ
bit x = cond x 1 0

last_bit : (x : Bool) → mark x % 2 ≡ bit x
last_bit true = refl
last_bit false = refl

joined : (x y : Bool) → bit_and (bit x) (mark y) ≡ bit (x && y)
joined true true = refl
joined true false = refl
joined false true = refl
joined false false = refl

-- by the marks of four bytes: 1 for each that goes on a word and follows only such
module _ (m n o p : ℕ) where
  abbrev first : ℕ
  first = m % 2

  abbrev second : ℕ
  second = bit_and first n

  abbrev third : ℕ
  third = bit_and second o

  abbrev fourth : ℕ
  fourth = bit_and third p

  abbrev count : ℕ
  count = first + second + third + fourth

  pub sum_fits : first + second + third ≤ 3
  sum_fits = omega (arith, and_le_l first n, and_le_l second o)

  count_short : fourth ≡ 0 → count ≡ first + second + third
  count_short e = omega (arith, e)

  count_all : (fourth ≡ 0 → ⊥) → count ≡ 4
  count_all k = omega (arith, k, and_le_l first n, and_le_l second o, and_le_l third p)

abbrev leading : Bool → Bool → Bool → Bool → ℕ
leading w x y z = bit w + bit (w && x) + bit ((w && x) && y) + bit (((w && x) && y) && z)

count_is : (w x y z : Bool) → count (mark w) (mark x) (mark y) (mark z) ≡ leading w x y z
count_is w x y z = rw (last_bit w, joined w x, joined (w && x) y, joined ((w && x) && y) z)

module _ (s : List ℕ) (i : ℕ) (h : i + 3 < length s) where
  abbrev goes_on : ℕ → Bool
  goes_on k = word_byte (get_or s (i + k) 0)

  abbrev Passed : ℕ → Type 0
  Passed k = run word_byte s (i + k) ≡ run word_byte s i

  pass : (k : ℕ) → k < 4 → Passed k → goes_on k ≡ true → Passed (k + 1)
  pass k l e g =
      let next : i + (k + 1) ≡ i + k + 1 = omega arith in
      rw next (sym (run_more word_byte s (i + k) (omega arith) g) ∙ e)

  stop : (k : ℕ) → k < 4 → Passed k → goes_on k ≡ false → WordBytes s i k
  stop k l e g = record { few = omega arith; goes_on = e; ends = λ _. run_stop word_byte s (i + k) (omega arith) g }

  none_passed : Passed 0
  none_passed = ap (run word_byte s) (omega arith)

  one_passed : goes_on 0 ≡ true → Passed 1
  one_passed = pass 0 (omega arith) none_passed

  two_passed : goes_on 0 ≡ true → goes_on 1 ≡ true → Passed 2
  two_passed d = pass 1 (omega arith) (one_passed d)

  three_passed : goes_on 0 ≡ true → goes_on 1 ≡ true → goes_on 2 ≡ true → Passed 3
  three_passed d e = pass 2 (omega arith) (two_passed d e)

  by_bytes : (w x y z : Bool) → goes_on 0 ≡ w → goes_on 1 ≡ x → goes_on 2 ≡ y → goes_on 3 ≡ z → WordBytes s i (leading w x y z)
  by_bytes false x y z d e f g = stop 0 (omega arith) none_passed d
  by_bytes true false y z d e f g = stop 1 (omega arith) (one_passed d) e
  by_bytes true true false z d e f g = stop 2 (omega arith) (two_passed d e) f
  by_bytes true true true false d e f g = stop 3 (omega arith) (three_passed d e f) g
  by_bytes true true true true d e f g =
      record { few = omega arith; goes_on = pass 3 (omega arith) (three_passed d e f) g; ends = λ l. absurd (omega arith) }

  word_bytes : {m n o p : ℕ} → m ≡ mark (word_byte (get_or s i 0)) → n ≡ mark (goes_on 1) → o ≡ mark (goes_on 2) → p ≡ mark (goes_on 3) →
      WordBytes s i (count m n o p)
  word_bytes {m} d e f g =
      let d' : m ≡ mark (goes_on 0) = d ∙ ap (λ (k : ℕ). mark (word_byte (get_or s k 0))) (omega arith) in
      rw (d', e, f, g, count_is) (by_bytes _ _ _ _ refl refl refl refl)

  -- the last of four tells whether all go on
  module _ {m n o p : ℕ} (d : m ≡ mark (word_byte (get_or s i 0))) (e : n ≡ mark (goes_on 1)) (f : o ≡ mark (goes_on 2)) (g : p ≡ mark (goes_on 3)) where
    pub some_go_on : fourth m n o p ≡ 0 → WordBytes s i (first m n o p + second m n o p + third m n o p)
    some_go_on z = rw (← count_short m n o p z) (word_bytes d e f g)

    pub all_go_on : (fourth m n o p ≡ 0 → ⊥) → WordBytes s i 4
    all_go_on z = rw (← count_all m n o p z) (word_bytes d e f g)

module _ {s : List ℕ} {i n : ℕ} (b : WordBytes s i n) where
  pub word_ends : n < 4 → {k : ℕ} → k ≡ n → i + k ≡ run word_byte s i
  word_ends l e = rw e (sym (b.ends l) ∙ b.goes_on)

  pub word_passes : 4 ≤ n → run word_byte s (i + 4) ≡ run word_byte s i
  word_passes l = let all : 4 ≡ n = omega (arith, b.few) in rw all b.goes_on
