-- The bytes of a token, and comparing them.
use mathlib.Core.Path.{◌≡◌, sym, ap, ◌∙◌}
use mathlib.Core.Bool.{Bool, true, false}
use mathlib.Core.List.{List, [], ◌∷◌}
use Prim.Native.Nat.{ℕ, ◌+◌, ◌-◌, ◌%◌, ◌≤◌, ◌<◌, min}
use native.Mathlib.Omega.{arith}
use native.Mathlib.Decide.{dec_lt}
use native.Mathlib.Nat.{add-zero}
use native.Mathlib.Numerals.{add-one}
use lib.ListN.{length, take, drop, get_or, length-take, length-drop, length-map, drop_of_length-le, get_or-eq_default, get_or-map}
use lib.Seq.{drop-cons, get_or-take, get_or-drop, take_all}
use borrow.Author.Tests.{eq-eqb, ne_eqb, le-leb, lt-leb, lt-ltb, le-ltb}
use Rattle.std.specs.Char.{to_ascii_uppercase}
use Rattle.express.specs.Tokens.Bytes.{upper, same}
use Rattle.terminals.specs.Lookup.{folded, hash}
use Rattle.terminals.specs.Spellings.{mixed, text_size, text, ending_count}
use Rattle.terminals.proofs.Entries.{ending, ending_of}

-- the library's capital letters
pub upper_is : (b : ℕ) → to_ascii_uppercase b ≡ upper b
unfolding upper
upper_is b = go (dec_lt b 97) (dec_lt 122 b)
  where
    go : Dec (b < 97) → Dec (122 < b) → to_ascii_uppercase b ≡ upper b
    go (yes l) _ = rw (lt-ltb _ _ l, lt-leb _ _ l)
    go (no g) (yes l) = let low : 97 ≤ b = omega (arith, g) in let high : 123 ≤ b = omega arith in rw (le-ltb _ _ low, le-ltb _ _ high, le-leb _ _ low, lt-leb _ _ l)
    go (no g) (no f) =
        let low : 97 ≤ b = omega (arith, g) in
        let high : b ≤ 122 = omega (arith, f) in
        let below : b < 123 = omega arith in
        rw (le-ltb _ _ low, lt-ltb _ _ below, le-leb _ _ low, le-leb _ _ high)

-- a letter and its capital are the same to the table of endings
upper_mod : (b : ℕ) → upper b % ending_count ≡ b % ending_count
unfolding upper
upper_mod b = go (dec_lt b 97) (dec_lt 122 b)
  where
    go : Dec (b < 97) → Dec (122 < b) → upper b % ending_count ≡ b % ending_count
    go (yes l) _ = rw (lt-leb _ _ l)
    go (no g) (yes l) = let low : 97 ≤ b = omega (arith, g) in rw (le-leb _ _ low, lt-leb _ _ l)
    go (no g) (no f) =
        let low : 97 ≤ b = omega (arith, g) in
        let high : b ≤ 122 = omega (arith, f) in
        rw (le-leb _ _ low, le-leb _ _ high) (omega (arith, low))

-- n bytes of s from a start on, all of them there
module _ (s : List ℕ) (start n : ℕ) (h : n ≤ length s - start) where
  abbrev pub part : List ℕ
  part = take n (drop start s)

  pub length_part : length part ≡ n
  length_part = omega (arith, length-take n (drop start s), length-drop start s, h)

  pub length_folded : (fold : Bool) → length (folded fold part) ≡ n
  length_folded true = length-map part upper ∙ length_part
  length_folded false = length_part

  part_at : (i : ℕ) → i < n → get_or part i 0 ≡ get_or s (start + i) 0
  part_at i l = get_or-take n (drop start s) i 0 l ∙ get_or-drop start s i 0

  pub letter_over : (fold : Bool) (i : ℕ) → n ≤ i → get_or (folded fold part) i 0 ≡ 0
  letter_over fold i l = get_or-eq_default (folded fold part) 0 (omega (arith, length_folded fold, l))

  pub letter_plain : (i : ℕ) → i < n → get_or (folded false part) i 0 ≡ get_or s (start + i) 0
  letter_plain i l = part_at i l

  pub letter_upper : (i : ℕ) → i < n → get_or (folded true part) i 0 ≡ upper (get_or s (start + i) 0)
  unfolding upper
  letter_upper i l = get_or-map upper part i 0 ∙ ap upper (part_at i l)

  -- the bit of a word in upper case, by its bytes as they are
  pub ending_is : 0 < n → ending_of (folded true part) ≡ ending (get_or s start 0) (get_or s (start + n - 1) 0)
  ending_is l =
      let last : start + (n - 1) ≡ start + n - 1 = omega (arith, l) in
      rw (length_folded true, letter_upper 0 l, add-zero, upper_mod (get_or s start 0), letter_upper (n - 1) (omega (arith, l)), last, upper_mod (get_or s (start + n - 1) 0))

pub part_one : (s : List ℕ) (start n : ℕ) → n ≤ length s - start → n ≡ 1 → take n (drop start s) ≡ get_or s start 0 ∷ []
part_one s start n h e = let l : start < length s = omega (arith, h, e) in rw (e, drop-cons s start 0)

-- the bytes past the end change nothing
pub part_short : (s : List ℕ) (start size n : ℕ) → n ≡ min size (length s - start) → take n (drop start s) ≡ take size (drop start s)
part_short s start size n e = go (dec_lt size (length s - start))
  where
    go : Dec (size < length s - start) → take n (drop start s) ≡ take size (drop start s)
    go (yes l) = let all : n ≡ size = omega (arith, e, l) in ap (λ (k : ℕ). take k (drop start s)) all
    go (no g) = take_all n (drop start s) (omega (arith, e, g, length-drop start s)) ∙ sym (take_all size (drop start s) (omega (arith, g, length-drop start s)))

-- ---- comparing from j on

abbrev pub rest : List ℕ → List ℕ → ℕ → Bool
rest x w k = same (drop k x) (drop k w)

module _ (x w : List ℕ) (j : ℕ) where
  pub same_over : length x ≤ j → length w ≤ j → rest x w j ≡ true
  unfolding same
  same_over h l = rw (drop_of_length-le x h, drop_of_length-le w l)

  module _ (h : j < length x) (l : j < length w) where
    cut : (y : List ℕ) → j < length y → drop j y ≡ get_or y j 0 ∷ drop (j + 1) y
    cut y k = rw (add-one, drop-cons y j 0)

    pub same_more : get_or x j 0 ≡ get_or w j 0 → rest x w j ≡ rest x w (j + 1)
    unfolding same
    same_more e = rw (cut x h, cut w l, eq-eqb _ _ e)

    pub same_stop : (get_or x j 0 ≡ get_or w j 0 → ⊥) → rest x w j ≡ false
    unfolding same
    same_stop e = rw (cut x h, cut w l, ne_eqb _ _ e)

-- the same, by the bytes of the text and of the source
module _ (t s : List ℕ) (start n from j : ℕ) (h : n ≤ length s - start) (ends : from + n ≤ text_size) (is : t ≡ text) where
  abbrev x : List ℕ
  x = take n (drop from t)

  abbrev w : Bool → List ℕ
  w fold = folded fold (take n (drop start s))

  all : n ≤ length t - from
  all = let size : length t ≡ text_size = ap length is in omega (arith, size, ends)

  long : length x ≡ n
  long = length_part t from n all

  here : j < n → get_or x j 0 ≡ get_or t (from + j) 0
  here l = letter_plain t from n all j l

  module _ (fold : Bool) where
    pub compare_over : n ≤ j → rest x (w fold) j ≡ true
    compare_over l = same_over x (w fold) j (omega (arith, long, l)) (omega (arith, length_folded s start n h fold, l))

    module _ (l : j < n) (b : ℕ) (b_is : b ≡ get_or (w fold) j 0) where
      pub compare_more : get_or t (from + j) 0 ≡ b → rest x (w fold) j ≡ rest x (w fold) (j + 1)
      compare_more e = same_more x (w fold) j (omega (arith, long, l)) (omega (arith, length_folded s start n h fold, l)) (here l ∙ e ∙ b_is)

      pub compare_stop : (get_or t (from + j) 0 ≡ b → ⊥) → rest x (w fold) j ≡ false
      compare_stop e = same_stop x (w fold) j (omega (arith, long, l)) (omega (arith, length_folded s start n h fold, l)) (λ q. e (sym (here l) ∙ q ∙ sym b_is))

-- the hash, from the bytes that it goes by
pub hash_is : (s : List ℕ) (start n : ℕ) → n ≤ length s - start → (fold : Bool) (first last before i j : ℕ)
    → first ≡ get_or (folded fold (take n (drop start s))) 0 0
    → last ≡ get_or (folded fold (take n (drop start s))) i 0 → i ≡ n - 1
    → before ≡ get_or (folded fold (take n (drop start s))) j 0 → j ≡ n - 2
    → mixed first n last before ≡ hash (folded fold (take n (drop start s)))
hash_is s start n h fold first last before i j f l i_is b j_is = rw (length_folded s start n h fold, ← i_is, ← j_is, f, l, b)
