-- The value of a string (T13, T19): how many bytes it has, and its bytes one by one.
use mathlib.Core.Path.{◌≡◌, refl, ap, ◌∙◌}
use mathlib.Core.Bool.{Bool, true, false, cond}
use mathlib.Core.List.{List, [], ◌∷◌}
use Prim.Native.Nat.{ℕ, ◌+◌, ◌-◌, ◌≤◌, ◌<◌}
use native.Mathlib.Omega.{arith}
use native.Mathlib.Decide.{dec_lt}
use lib.Dec.{eqb}
use lib.ListN.{length, take, drop, get_or, length-take, length-drop, drop_of_length-le}
use lib.Seq.{get_or-take, get_or-drop}
use Rattle.express.specs.Tokens.Bytes.{token_bytes}
use Rattle.express.specs.Tokens.Lexis.{quote, unpaired, string_value}
use Rattle.express.proofs.Tokens.Places.{one_cut}

pub length_unpaired : (passed : Bool) (w : List ℕ) → length (unpaired passed w) ≤ length w
unfolding unpaired
length_unpaired passed [] = omega arith
length_unpaired true (b ∷ w) = omega (arith, length_unpaired false w)
length_unpaired false (b ∷ w) = omega (arith, length_unpaired (eqb b quote) w)

-- ---- bytes from an index on

-- how far the next byte of the value stands from a byte of it: a quote is the first of a pair
abbrev pub apart : ℕ → ℕ
apart b = cond (eqb b quote) 2 1

module _ (w : List ℕ) (i : ℕ) where
  pub unpaired_none : length w ≤ i → unpaired false (drop i w) ≡ []
  unfolding unpaired
  unpaired_none h = rw (drop_of_length-le w h)

  pub unpaired_more : i < length w → unpaired false (drop i w) ≡ get_or w i 0 ∷ unpaired false (drop (i + apart (get_or w i 0)) w)
  unfolding unpaired
  unpaired_more h = ap (unpaired false) (one_cut w i h) ∙ ap (λ (v : List ℕ). get_or w i 0 ∷ v) (by (eqb (get_or w i 0) quote) (dec_lt (i + 1) (length w)))
    where
      by : (x : Bool) → Dec (i + 1 < length w) → unpaired x (drop (i + 1) w) ≡ unpaired false (drop (i + cond x 2 1) w)
      by false d = refl
      by true (yes l) = let two : i + 1 + 1 ≡ i + 2 = omega arith in ap (unpaired true) (one_cut w (i + 1) l) ∙ ap (λ (j : ℕ). unpaired false (drop j w)) two
      by true (no l) =
          let one : length w ≤ i + 1 = omega arith in
          let two : length w ≤ i + 2 = omega arith in
          rw (drop_of_length-le w one, drop_of_length-le w two)

-- ---- the bytes between the outer quotes of a token

abbrev pub inner : List ℕ → List ℕ
inner t = take (length t - 2) (drop 1 t)

pub length_inner : (t : List ℕ) → length (inner t) ≡ length t - 2
length_inner t = omega (arith, length-take (length t - 2) (drop 1 t), length-drop 1 t)

pub value_inner : (t : List ℕ) → string_value t ≡ unpaired false (inner t)
unfolding string_value
value_inner t = refl

pub length_string_value : (t : List ℕ) → length (string_value t) ≤ length t - 2
length_string_value t = rw (value_inner t) (omega (arith, length_unpaired false (inner t), length_inner t))

-- where they stand in the text
pub inner_byte : (s : List ℕ) (p n i : ℕ) → i < length (inner (token_bytes s p n)) → get_or (inner (token_bytes s p n)) i 0 ≡ get_or s (p + 1 + i) 0
inner_byte s p n i h =
    let t = token_bytes s p n in
    let near : i < length t - 2 = omega (arith, length_inner t) in
    let less : 1 + i < n = omega (arith, length-take n (drop p s)) in
    let same : p + (1 + i) ≡ p + 1 + i = omega arith in
    get_or-take (length t - 2) (drop 1 t) i 0 near ∙ get_or-drop 1 t i 0 ∙ get_or-take n (drop p s) (1 + i) 0 less ∙ get_or-drop p s (1 + i) 0 ∙
    ap (λ (k : ℕ). get_or s k 0) same
