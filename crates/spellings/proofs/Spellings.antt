-- Laws of spellings: the part of the bytes that a token has, its hash, and words that are spelled alike.
use mathlib.Core.Path.{◌≡◌, refl, sym, ap, ◌∙◌}
use mathlib.Core.Bool.{Bool, true, false, cond, ◌&&◌, false≢true}
use mathlib.Core.List.{List, [], ◌∷◌, map}
use mathlib.Core.Logic.{by_cases}
use Prim.Native.Nat.{ℕ, suc, ◌+◌, ◌*◌, ◌-◌, ◌/◌, ◌%◌, ◌≤◌, ◌<◌, min}
use native.Mathlib.Decide.{dec_lt}
use native.Mathlib.Omega.{arith}
use lib.ListN.{length, take, drop, get_or, length-map, length-drop, drop_of_length-le, get_or-map, get_or-eq_default}
use lib.Seq.{ext_get_or, get_or-drop, take_all, take-nil, drop-cons}
use native.Mathlib.Numerals.{add-one}
use native.Mathlib.Nat.{mod-lt, mul-le-mul_right}
use Rattle.express.specs.Tokens.Bytes.{lower, same}
use Rattle.express.specs.Tokens.Spelling.{spelling}
use Rattle.relations.proofs.Select.{untrue}
use Rattle.express.proofs.Tokens.Spelling.{same_true, same_refl}
use lib.Bits.{bit_and, and_block, and_mask}
use lib.Dec.{leb}
use borrow.Author.Tests.{le-leb, lt-leb, lt-ltb, le-ltb}
use Rattle.std.specs.Char.{to_ascii_lowercase}
use Rattle.spellings.specs.Hash.{block, joined, hash_blocks, hash_of, stirred, stirred_all, long_hash_of, Four, IsBlock, Joins, Hashes}

abbrev pub folded : List ℕ → List ℕ
folded xs = map lower xs

-- ---- the part of the bytes from a start on, clipped to the bytes, is what `take` and `drop` leave of it

clip : (bytes : List ℕ) (s l from to : ℕ) → from ≡ min s (length bytes) → to ≡ min (s + l) (length bytes)
    → take (to - from) (drop from bytes) ≡ take l (drop s bytes)
clip bytes s l from to e f =
    by_cases (dec_lt (length bytes) s)
    (λ past.
    let z : to - from ≡ 0 = omega arith in
    let none = drop_of_length-le bytes {i = s} (omega arith) in
    rw (z, none) (sym (take-nil l)))
    (λ n.
    let q : from ≡ s = omega (arith, n) in
    by_cases (dec_lt (length bytes) (s + l))
    (λ past.
    rw q
    (take_all (to - s) (drop s bytes) (simp length-drop (omega arith))
    ∙ sym (take_all l (drop s bytes) (simp length-drop (omega arith)))))
    (λ n'.
    let z : to - from ≡ l = omega (arith, n, n') in
    rw (z, q)))

pub part_spelling : (bytes starts lengths : List ℕ) (i from to : ℕ) → from ≡ min (get_or starts i 0) (length bytes) → to ≡ min (get_or starts i 0 + get_or lengths i 0) (length bytes)
    → map lower (take (to - from) (drop from bytes)) ≡ spelling bytes starts lengths i
part_spelling bytes starts lengths i from to e f = ap (λ (xs : List ℕ). map lower xs) (clip bytes (get_or starts i 0) (get_or lengths i 0) from to e f)

-- ---- words that agree

length_folded : (xs : List ℕ) → length (folded xs) ≡ length xs
length_folded xs = length-map xs lower

folded_at : (xs : List ℕ) (k : ℕ) → get_or (folded xs) k 0 ≡ lower (get_or xs k 0)
unfolding lower
folded_at xs k = get_or-map lower xs k 0

pub same_is : (xs ys : List ℕ) → xs ≡ ys → same xs ys ≡ true
same_is xs ys e = rw (← e) (same_refl xs)

pub same_not : (xs ys : List ℕ) → (xs ≡ ys → ⊥) → same xs ys ≡ false
same_not xs ys n = untrue (same xs ys) (λ t. n (same_true xs ys t))

pub agree : (xs ys : List ℕ) → length xs ≡ length ys → ((k : ℕ) → k < length xs → lower (get_or xs k 0) ≡ lower (get_or ys k 0)) → same (map lower xs) (map lower ys) ≡ true
agree xs ys e h =
    same_is (folded xs) (folded ys)
    (ext_get_or 0 (folded xs) (folded ys) (simp length_folded e) (λ k l. folded_at xs k ∙ h k (rw length_folded at l) ∙ sym (folded_at ys k)))

-- small letters as the library has them
pub lower_is : (b : ℕ) → to_ascii_lowercase b ≡ lower b
unfolding lower
lower_is b = go (dec_lt b 65) (dec_lt 90 b)
  where
    go : Dec (b < 65) → Dec (90 < b) → to_ascii_lowercase b ≡ lower b
    go (yes l) _ = rw (lt-ltb _ _ l, lt-leb _ _ l)
    go (no g) (yes l) = let low : 65 ≤ b = omega (arith, g) in let high : 91 ≤ b = omega arith in rw (le-ltb _ _ low, le-ltb _ _ high, le-leb _ _ low, lt-leb _ _ l)
    go (no g) (no f) =
        let low : 65 ≤ b = omega (arith, g) in
        let high : b ≤ 90 = omega (arith, f) in
        let below : b < 91 = omega arith in
        rw (le-ltb _ _ low, lt-ltb _ _ below, le-leb _ _ low, le-leb _ _ high)

lowered : (xs : List ℕ) → map to_ascii_lowercase xs ≡ folded xs
lowered [] = refl
lowered (b ∷ xs) = rw (lower_is b, lowered xs)

-- two words that are equal but for the case of letters
pub alike_is : (xs ys : List ℕ) {r : Bool} → ((r ≡ true) → map to_ascii_lowercase xs ≡ map to_ascii_lowercase ys) × (map to_ascii_lowercase xs ≡ map to_ascii_lowercase ys → r ≡ true)
    → r ≡ same (map lower xs) (map lower ys)
alike_is xs ys {r = true} h = sym (same_is (folded xs) (folded ys) (sym (lowered xs) ∙ h.0 refl ∙ lowered ys))
alike_is xs ys {r = false} h = sym (same_not (folded xs) (folded ys) (λ e. false≢true (h.1 (lowered xs ∙ e ∙ sym (lowered ys)))))

-- the same for the check's tactics, whatever is done with the answer
pub alike_yes : (xs ys : List ℕ) → map to_ascii_lowercase xs ≡ map to_ascii_lowercase ys → same (map lower xs) (map lower ys) ≡ true
alike_yes xs ys h = same_is (folded xs) (folded ys) (sym (lowered xs) ∙ h ∙ lowered ys)

pub alike_no : (xs ys : List ℕ) → (map to_ascii_lowercase xs ≡ map to_ascii_lowercase ys → false ≡ true) → same (map lower xs) (map lower ys) ≡ false
alike_no xs ys h = same_not (folded xs) (folded ys) (λ e. false≢true (h (lowered xs ∙ e ∙ sym (lowered ys))))

pub ruleset alike = (alike_yes, alike_no)

-- a word that is spelled like a token was compared in its stead
pub heard : (xs : List ℕ) {ys zs : List ℕ} {r t : Bool} → ys ≡ zs → r ≡ same xs ys → r ≡ t → same xs zs ≡ t
heard xs e f g = ap (same xs) (sym e) ∙ sym f ∙ g

-- ---- blocks: of a byte the low five bits, in which the two cases of a letter agree

low_lower : (b : ℕ) → lower b % 32 ≡ b % 32
unfolding lower
low_lower b = by (leb 65 b && leb b 90)
  where
    by : (x : Bool) → cond x (b + 32) b % 32 ≡ b % 32
    by true = omega arith
    by false = omega arith

low_at : (xs : List ℕ) (k : ℕ) → get_or (folded xs) k 0 % 32 ≡ get_or xs k 0 % 32
low_at xs k = ap (λ (b : ℕ). b % 32) (folded_at xs k) ∙ low_lower (get_or xs k 0)

-- a block without case is one of the word as it stands
block_folded : (xs : List ℕ) (k : ℕ) → block (folded xs) k ≡ block xs k
block_folded xs k = rw (low_at xs k, low_at xs (k + 1), low_at xs (k + 2), low_at xs (k + 3))

-- the mask of a block takes the low five bits of each byte
pub mask_more : (x m r : ℕ) → r < 256 → bit_and (x * 256 + r) (m * 256 + 31) ≡ bit_and x m * 256 + r % 32
mask_more x m r h = and_block 8 x m r 31 h (omega arith) ∙ ap (λ (y : ℕ). bit_and x m * 256 + y) (and_mask r 5)

masked : (a b c d : ℕ) → a < 256 → b < 256 → c < 256 → d < 256
    → bit_and (a + b * 256 + c * 65536 + d * 16777216) 522133279 ≡ a % 32 + b % 32 * 256 + c % 32 * 65536 + d % 32 * 16777216
masked a b c d ha hb hc hd =
    let e : a + b * 256 + c * 65536 + d * 16777216 ≡ ((d * 256 + c) * 256 + b) * 256 + a = omega arith in
    let top = and_mask d 5 in
    let one = mask_more d 31 c hc in
    let two = mask_more (d * 256 + c) 7967 b hb in
    let three = mask_more ((d * 256 + c) * 256 + b) 2039583 a ha in
    ap (λ (x : ℕ). bit_and x 522133279) e ∙ omega (arith, top, one, two, three)

module _ (xs : List ℕ) (k : ℕ) (small : (j : ℕ) → get_or xs j 0 < 256) where
  pub is_block : {x : ℕ} → Four xs k x → IsBlock xs k (bit_and x 522133279)
  is_block {x} F =
      let a = small k in
      let b = small (k + 1) in
      let c = small (k + 2) in
      let d = small (k + 3) in
      let e : bit_and x 522133279 ≡ block xs k =
      ap (λ (y : ℕ). bit_and y 522133279) F.is ∙ masked (get_or xs k 0) (get_or xs (k + 1) 0) (get_or xs (k + 2) 0) (get_or xs (k + 3) 0) a b c d in
      record { is = e ∙ sym (block_folded xs k); small = omega (arith, e) }

pub block_is : (xs : List ℕ) (k : ℕ) {r : ℕ} → r ≡ block xs k → IsBlock xs k r
block_is xs k e = record { is = e ∙ sym (block_folded xs k); small = omega (arith, e) }

-- a word that is shorter than a block: what it does not have is 0
past_low : (xs : List ℕ) (k : ℕ) → length xs ≤ k → 0 ≡ get_or xs k 0 % 32
past_low xs k h = ap (λ (b : ℕ). b % 32) (sym (get_or-eq_default xs 0 h))

module _ (xs : List ℕ) (short : length xs < 4) where
  pub short_block_is : {a b c r : ℕ} → a ≡ get_or xs 0 0 % 32 → b ≡ get_or xs 1 0 % 32 → c ≡ get_or xs 2 0 % 32 → r ≡ a + b * 256 + c * 65536 → IsBlock xs 0 r
  short_block_is {a} {b} {c} {r} ea eb ec e =
      let ed = past_low xs 3 (omega arith) in
      let q : r ≡ block xs 0 = omega arith in
      record { is = q ∙ sym (block_folded xs 0); small = omega (arith, q) }

  pub no_byte : length xs ≡ 0 → IsBlock xs 0 0
  no_byte n = short_block_is (past_low xs 0 (omega arith)) (past_low xs 1 (omega arith)) (past_low xs 2 (omega arith)) refl

  pub one_byte : {a : ℕ} → length xs ≡ 1 → a ≡ get_or xs 0 0 % 32 → IsBlock xs 0 a
  one_byte {a} n e = let q : a ≡ a + 0 * 256 + 0 * 65536 = omega arith in short_block_is e (past_low xs 1 (omega arith)) (past_low xs 2 (omega arith)) q

  pub two_bytes : {a b : ℕ} → length xs ≡ 2 → a ≡ get_or xs 0 0 % 32 → b ≡ get_or xs (length xs / 2) 0 % 32 → IsBlock xs 0 (a + b * 256)
  two_bytes {a} {b} n e f =
      let k : length xs / 2 ≡ 1 = omega arith in
      let q : a + b * 256 ≡ a + b * 256 + 0 * 65536 = omega arith in
      short_block_is e (f ∙ ap (λ (j : ℕ). get_or xs j 0 % 32) k) (past_low xs 2 (omega arith)) q

  pub three_bytes : {a b c : ℕ} → length xs ≡ 3 → a ≡ get_or xs 0 0 % 32 → b ≡ get_or xs (length xs / 2) 0 % 32 → c ≡ get_or xs (length xs - 1) 0 % 32 → IsBlock xs 0 (a + b * 256 + c * 65536)
  three_bytes n e f g =
      let k : length xs / 2 ≡ 1 = omega arith in
      let l : length xs - 1 ≡ 2 = omega arith in
      short_block_is e (f ∙ ap (λ (j : ℕ). get_or xs j 0 % 32) k) (g ∙ ap (λ (j : ℕ). get_or xs j 0 % 32) l) refl

-- the block of a word that ends before it, or within it
pub past_block : (xs : List ℕ) (k : ℕ) → length xs ≤ k → IsBlock xs k 0
past_block xs k l =
    let a = past_low xs k (omega arith) in
    let b = past_low xs (k + 1) (omega arith) in
    let c = past_low xs (k + 2) (omega arith) in
    let d = past_low xs (k + 3) (omega arith) in
    let q : 0 ≡ block xs k = omega (arith, a, b, c, d) in
    record { is = q ∙ sym (block_folded xs k); small = omega arith }

pub rest_block : (xs : List ℕ) (k : ℕ) {r : ℕ} → IsBlock (take (length xs - k) (drop k xs)) 0 r → IsBlock xs k r
rest_block xs k B =
    let z : k + 0 ≡ k = omega arith in
    let all : take (length xs - k) (drop k xs) ≡ drop k xs = take_all (length xs - k) (drop k xs) (simp length-drop (omega arith)) in
    let C = rw all at B in
    let e : block (drop k xs) 0 ≡ block xs k = rw (get_or-drop k xs 0 0, get_or-drop k xs 1 0, get_or-drop k xs 2 0, get_or-drop k xs 3 0, z) refl in
    record { is = C.is ∙ block_folded (drop k xs) 0 ∙ e ∙ sym (block_folded xs k); small = C.small }

-- ---- the hash: what is to come makes of the number so far what was wanted

pub record Hashing (xs : List ℕ) (h i : ℕ) : Type 0 where
  pub small : h < 4294967296
  pub left : hash_blocks ((length xs + 3 - i) / 4) h i (map lower xs) ≡ hash_of (map lower xs)

pub hashing_starts : {xs : List ℕ} {x y g h : ℕ} → IsBlock xs 0 x → Joins 0 x g → IsBlock xs 4 y → Joins g y h → Hashing xs h 8
unfolding hash_blocks hash_of
hashing_starts {xs} {x} {y} {g} {h} A J B K =
    let n : length (folded xs) ≡ length xs = length_folded xs in
    let q : (length xs + 3 - 8) / 4 ≡ (length (folded xs) - 5) / 4 = omega (arith, n) in
    let e : g ≡ joined 0 (block (folded xs) 0) = J.is ∙ ap (joined 0) A.is in
    let f : h ≡ joined (joined 0 (block (folded xs) 0)) (block (folded xs) 4) = K.is ∙ ap (joined g) B.is ∙ ap (λ (z : ℕ). joined z (block (folded xs) 4)) e in
    record { small = K.small; left = ap (λ (m : ℕ). hash_blocks m h 8 (folded xs)) q ∙ ap (λ (z : ℕ). hash_blocks ((length (folded xs) - 5) / 4) z 8 (folded xs)) f }

pub hashing_goes_on : {xs : List ℕ} {h i x r : ℕ} → Hashing xs h i → i < length xs → IsBlock xs i x → Joins h x r → Hashing xs r (i + 4)
unfolding hash_blocks
hashing_goes_on {xs} {h} {i} {x} {r} w l B J =
    let q : (length xs + 3 - i) / 4 ≡ suc ((length xs + 3 - (i + 4)) / 4) = omega arith in
    let e : joined h (block (folded xs) i) ≡ r = sym (J.is ∙ ap (joined h) B.is) in
    record {
      small = J.small;
      left =
          ap (λ (y : ℕ). hash_blocks ((length xs + 3 - (i + 4)) / 4) y (i + 4) (folded xs)) (sym e)
          ∙ ap (λ (n : ℕ). hash_blocks n h i (folded xs)) (sym q)
          ∙ w.left;
    }

pub hashing_ends : {xs : List ℕ} {h i : ℕ} → Hashing xs h i → length xs ≤ i → Hashes xs h
unfolding hash_blocks
hashing_ends {xs} {h} {i} w l =
    let q : 0 ≡ (length xs + 3 - i) / 4 = omega arith in record { is = ap (λ (n : ℕ). hash_blocks n h i (folded xs)) q ∙ w.left; small = w.small }

pub clipped_hash : (bytes : List ℕ) (s l : ℕ) {from m to r : ℕ} → from ≡ min s (length bytes) → m ≡ min l (length bytes - from) → to ≡ from + m →
    Hashes (take (to - from) (drop from bytes)) r → Hashes (take l (drop s bytes)) r
clipped_hash bytes s l {from} {m} {to} e f g H = rw (clip bytes s l from to e (omega (arith, e, f, g))) at H

-- ---- the longer hash

pub stirred_is : (h : ℕ) {b x : ℕ} → x ≡ b → (h % 4294967296 + x) * 2654435761 + h / 4294967296 ≡ stirred h b
unfolding stirred
stirred_is h e = ap (λ (y : ℕ). (h % 4294967296 + y) * 2654435761 + h / 4294967296) e

stirred_small : (a x d : ℕ) → a < 4294967296 → x < 256 → d < 4294967296 → (a + x) * 2654435761 + d < 18446744073709551616
stirred_small a x d la lx ld =
    let sum : a + x ≤ 4294967550 = omega (arith, la, lx) in
    let le : (a + x) * 2654435761 ≤ 4294967550 * 2654435761 = mul-le-mul_right 2654435761 sum in
    omega (arith, le, ld)

pub stirred_fits : (h x : ℕ) → h < 18446744073709551616 → x < 256 → (h % 4294967296 + x) * 2654435761 + h / 4294967296 < 18446744073709551616
stirred_fits h x lh lx = stirred_small (h % 4294967296) x (h / 4294967296) (mod-lt h (omega arith)) lx (omega (arith, lh))

-- what is left of the word, stirred into the number at hand, gives what the whole word gives
pub record Stirring (word : List ℕ) (h i : ℕ) : Type 0 where
  pub left : stirred_all h (drop i (map lower word)) ≡ stirred_all 0 (map lower word)

pub stirring_starts : {word : List ℕ} → Stirring word 0 0
stirring_starts = record { left = refl }

pub stirring_goes_on : {word : List ℕ} {h i x r : ℕ} → Stirring word h i → i < length word → x ≡ lower (get_or word i 0) → r ≡ stirred h x → Stirring word r (i + 1)
unfolding stirred_all
stirring_goes_on {word} {h} {i} {x} {r} w l e f =
    let within : i < length (folded word) = omega (arith, length_folded word) in
    let split : drop i (folded word) ≡ get_or (folded word) i 0 ∷ drop (suc i) (folded word) = drop-cons (folded word) i 0 within in
    let is : r ≡ stirred h (get_or (folded word) i 0) = f ∙ ap (stirred h) (e ∙ sym (folded_at word i)) in
    record {
      left =
          ap (λ (k : ℕ). stirred_all r (drop k (folded word))) (add-one i)
          ∙ ap (λ (y : ℕ). stirred_all y (drop (suc i) (folded word))) is
          ∙ ap (stirred_all h) (sym split)
          ∙ w.left;
    }

pub stirring_ends : {word : List ℕ} {h i x r : ℕ} → Stirring word h i → length word ≤ i → x ≡ stirred h 0 → r ≡ stirred x 0 → r ≡ long_hash_of (map lower word)
unfolding stirred_all long_hash_of
stirring_ends {word} {h} {i} w l e f =
    let none = drop_of_length-le (folded word) {i = i} (omega (arith, length_folded word)) in
    let all : h ≡ stirred_all 0 (folded word) = sym (ap (stirred_all h) none) ∙ w.left in
    f ∙ ap (λ (y : ℕ). stirred y 0) (e ∙ ap (λ (y : ℕ). stirred y 0) all)
