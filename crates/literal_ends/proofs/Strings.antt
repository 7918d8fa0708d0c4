-- Strings: what one turn of the loop over a string does to what the definition gives from there on; the bound on the value.
use mathlib.Core.Path.{◌≡◌, sym, ap, ◌∙◌}
use mathlib.Core.Bool.{Bool, true, false, cond}
use mathlib.Core.List.{List}
use Prim.Native.Nat.{ℕ, ◌+◌, ◌-◌, ◌<◌, ◌≤◌}
use native.Mathlib.Omega.{arith}
use lib.Dec.{leb}
use lib.ListN.{length, take, drop, get_or, length-take}
use borrow.Author.Tests.{eq-eqb, ne_eqb, le-leb, lt-leb}
use Rattle.express.specs.Tokens.Bytes.{token_bytes, printable}
use Rattle.express.specs.Tokens.Lexis.{Reading, at, refused, reading_then, string_value, most_bytes, end_of_string, end_of_short_string}
use Rattle.express.proofs.Tokens.Strings.{length_string_value}
use Rattle.blanks.specs.Step.{reading}
use Rattle.std.specs.Prelude.{Result, Ok, Err}
use Rattle.blanks.specs.declared.Refusal.{Refusal}
use Rattle.blanks.proofs.Turns.{at_cons, at_nil}

module _ (s : List ℕ) (i o : ℕ) where
  abbrev within_string : Bool → ℕ → Reading
  within_string q k = end_of_string o q k (drop k s)

  module _ (h : i < length s) where
    pub string_shut : (get_or s i 0 ≡ 39 → ⊥) → within_string true i ≡ at i
    unfolding end_of_string
    string_shut n = rw (at_cons s i h, ne_eqb _ _ n)

    pub string_doubled : get_or s i 0 ≡ 39 → within_string true i ≡ within_string false (i + 1)
    unfolding end_of_string
    string_doubled e = rw (at_cons s i h, eq-eqb _ _ e)

    pub string_quote : get_or s i 0 ≡ 39 → within_string false i ≡ within_string true (i + 1)
    unfolding end_of_string
    string_quote e = rw (at_cons s i h, eq-eqb _ _ e)

    pub string_on : (get_or s i 0 ≡ 39 → ⊥) → printable (get_or s i 0) ≡ true → within_string false i ≡ within_string false (i + 1)
    unfolding end_of_string
    string_on n e = rw (at_cons s i h, ne_eqb _ _ n, e)

    pub string_bad : (get_or s i 0 ≡ 39 → ⊥) → printable (get_or s i 0) ≡ false → within_string false i ≡ refused 2 o
    unfolding end_of_string
    string_bad n e = rw (at_cons s i h, ne_eqb _ _ n, e)

  pub string_end : length s ≤ i → within_string true i ≡ at i
  unfolding end_of_string
  string_end h = rw (at_nil s i h)

  pub string_open : length s ≤ i → within_string false i ≡ refused 2 o
  unfolding end_of_string
  string_open h = rw (at_nil s i h)

-- ---- the bound on the value

module _ (s : List ℕ) (p : ℕ) where
  pub short_over : length s ≤ p → refused 2 p ≡ end_of_short_string s p
  unfolding end_of_short_string
  short_over h = sym (rw (string_open s (p + 1) p (omega (arith, h))))

  -- an end, and whether it is taken
  abbrev taken_to : ℕ → Reading
  taken_to e = cond (leb (length (string_value (token_bytes s p (e - p)))) most_bytes) (at e) (refused 3 p)

  module _ (r : Result ℕ Refusal) (is : reading r ≡ end_of_string p false (p + 1) (drop (p + 1) s)) where
    then_is : reading_then (reading r) taken_to ≡ end_of_short_string s p
    unfolding end_of_short_string
    then_is = ap (λ (x : Reading). reading_then x taken_to) is

    pub short_open : {k : Refusal} → r ≡ Err k → reading (Err k) ≡ end_of_short_string s p
    short_open q = ap (λ (x : Result ℕ Refusal). reading_then (reading x) taken_to) (sym q) ∙ then_is

    short_is : {e : ℕ} → r ≡ Ok e → taken_to e ≡ end_of_short_string s p
    short_is q = ap (λ (x : Result ℕ Refusal). reading_then (reading x) taken_to) (sym q) ∙ then_is

    module _ {e d : ℕ} (q : r ≡ Ok e) (size : d ≡ e - p) where
      pub short_few : d ≤ most_bytes + 2 → at e ≡ end_of_short_string s p
      short_few h =
          let l : length (string_value (token_bytes s p (e - p))) ≤ most_bytes =
          omega (arith, length_string_value (token_bytes s p (e - p)), length-take (e - p) (drop p s), size, h) in
          sym (rw (le-leb _ _ l)) ∙ short_is q

      module _ {n : ℕ} (counted : n ≡ length (string_value (take d (drop p s)))) where
        counted_is : n ≡ length (string_value (token_bytes s p (e - p)))
        counted_is = counted ∙ ap (λ (k : ℕ). length (string_value (token_bytes s p k))) size

        pub short_fits : n ≤ most_bytes → at e ≡ end_of_short_string s p
        short_fits h = let l : length (string_value (token_bytes s p (e - p))) ≤ most_bytes = omega (arith, counted_is, h) in sym (rw (le-leb _ _ l)) ∙ short_is q

        pub short_large : most_bytes < n → refused 3 p ≡ end_of_short_string s p
        short_large h = let l : most_bytes < length (string_value (token_bytes s p (e - p))) = omega (arith, counted_is, h) in sym (rw (lt-leb _ _ l)) ∙ short_is q
