-- Two texts side by side: where the last byte of the one and the first of the other belong to no common token, the tokens of both stand one after
-- the other. So a piece of text between two tokens can be read by itself.
use mathlib.Core.Path.{◌≡◌, refl, sym, ap, ap₂, ◌∙◌, subst}
use mathlib.Core.Logic.{◌⊎◌, inl, inr}
use mathlib.Core.Bool.{Bool, true, false, cond, not, ◌&&◌, ◌||◌, false≢true}
use mathlib.Core.List.{List, [], ◌∷◌, ◌++◌}
use Prim.Native.Nat.{ℕ, zero, suc, ◌+◌, ◌-◌, ◌≤◌, ◌<◌}
use native.Mathlib.Omega.{arith}
use lib.ListN.{length, take, drop, get_or, length-take, length-drop, length-append, get_or-append}
use lib.Seq.{get_or-drop, get_or-take, take-append-le, drop-append_seam}
use lib.Dec.{eqb, leb}
use borrow.Author.Tests.{eqb-true, eq-eqb, leb-true, le-leb}
use Rattle.express.specs.Tokens.Bytes.{digit, letter, word_byte, same}
use Rattle.express.specs.Tokens.Bytes as bytes
use Rattle.express.specs.Tokens.Terminal.{Fixed, symbols, among}
use Rattle.express.specs.Tokens.Token.{all_of, some_of, is_word, is_integer, is_exponent, is_fraction, is_decimal, is_real, is_string, is_binary, is_symbol, spelled_kind}
use Rattle.express.specs.Tokens.Lexis.{Lexed, at, dashes, opens, pair, TokenRow, lexed_whole}
use Rattle.express.specs.Tokens.Cut.{Passes, adjacent, number_byte, joins, moved, behind}
use Rattle.relations.specs.Select.{any}
use Rattle.relations.proofs.Select.{and_fst, and_snd, and_both, or_cases, or_left, or_right}
use Rattle.express.proofs.Tokens.Spelling.{same_true}
use Rattle.theorems.proofs.Tokens.Cut.{passes_in, cut_rest}
use Rattle.theorems.proofs.Tokens.Agree.{Uncrossed, passes_agree, passes_none, passes_part}
use Rattle.theorems.proofs.Tokens.Boundary.{text_passes}

-- ---- the bytes of words, numbers and binaries

all_at : (f : ℕ → Bool) (w : List ℕ) (i : ℕ) → all_of f w ≡ true → i < length w → f (get_or w i 0) ≡ true
unfolding all_of
all_at f [] i e l = absurd (omega arith)
all_at f (b ∷ w) zero e l = and_fst (f b) (all_of f w) e
all_at f (b ∷ w) (suc i) e l = all_at f w i (and_snd (f b) (all_of f w) e) (omega arith)

all_weaken : (f g : ℕ → Bool) → ((b : ℕ) → f b ≡ true → g b ≡ true) → (w : List ℕ) → all_of f w ≡ true → all_of g w ≡ true
unfolding all_of
all_weaken f g h [] e = refl
all_weaken f g h (b ∷ w) e = and_both (g b) (all_of g w) (h b (and_fst (f b) (all_of f w) e)) (all_weaken f g h w (and_snd (f b) (all_of f w) e))

all_cons : (f : ℕ → Bool) (b : ℕ) (w : List ℕ) → f b ≡ true → all_of f w ≡ true → all_of f (b ∷ w) ≡ true
unfolding all_of
all_cons f b w i j = and_both (f b) (all_of f w) i j

some_all : (f : ℕ → Bool) (w : List ℕ) → some_of f w ≡ true → all_of f w ≡ true
unfolding all_of
some_all f [] e = refl
some_all f (b ∷ w) e = e

word_number : (b : ℕ) → word_byte b ≡ true → number_byte b ≡ true
word_number b e = or_left (word_byte b) _ e

letter_word : (b : ℕ) → letter b ≡ true → word_byte b ≡ true
unfolding word_byte
letter_word b e = or_left (letter b) _ e

digit_word : (b : ℕ) → digit b ≡ true → word_byte b ≡ true
unfolding word_byte
digit_word b e = or_right (letter b) _ (or_left (digit b) _ e)

digit_number : (b : ℕ) → digit b ≡ true → number_byte b ≡ true
digit_number b e = word_number b (digit_word b e)

is_number : (b k : ℕ) → number_byte k ≡ true → eqb b k ≡ true → number_byte b ≡ true
is_number b k h e = ap number_byte (eqb-true b k e) ∙ h

sign_number : (b : ℕ) → bytes.sign b ≡ true → number_byte b ≡ true
unfolding word_byte
sign_number b e = by (or_cases (eqb b 43) (eqb b 45) e)
  where
    by : (eqb b 43 ≡ true) ⊎ (eqb b 45 ≡ true) → number_byte b ≡ true
    by (inl i) = is_number b 43 refl i
    by (inr i) = is_number b 45 refl i

mark_number : (b : ℕ) → bytes.exponent_mark b ≡ true → number_byte b ≡ true
unfolding word_byte
mark_number b e = by (or_cases (eqb b 101) (eqb b 69) e)
  where
    by : (eqb b 101 ≡ true) ⊎ (eqb b 69 ≡ true) → number_byte b ≡ true
    by (inl i) = is_number b 101 refl i
    by (inr i) = is_number b 69 refl i

digits_number : (w : List ℕ) → some_of digit w ≡ true → all_of number_byte w ≡ true
digits_number w e = all_weaken digit number_byte digit_number w (some_all digit w e)

exponent_number : (w : List ℕ) → is_exponent w ≡ true → all_of number_byte w ≡ true
exponent_number [] e = absurd (false≢true e)
exponent_number (b ∷ w) e = by (bytes.sign b) refl e
  where
    by : (x : Bool) → bytes.sign b ≡ x → cond x (some_of digit w) (some_of digit (b ∷ w)) ≡ true → all_of number_byte (b ∷ w) ≡ true
    by true i h = all_cons number_byte b w (sign_number b i) (digits_number w h)
    by false i h = digits_number (b ∷ w) h

fraction_number : (w : List ℕ) → is_fraction w ≡ true → all_of number_byte w ≡ true
unfolding is_fraction all_of
fraction_number [] e = refl
fraction_number (b ∷ w) e = by (digit b) refl e (λ h. fraction_number w h)
  where
    by : (x : Bool) → digit b ≡ x → cond x (is_fraction w) (bytes.exponent_mark b && is_exponent w) ≡ true → (is_fraction w ≡ true → all_of number_byte w ≡ true) →
        (number_byte b && all_of number_byte w) ≡ true
    by true i h more = and_both (number_byte b) _ (digit_number b i) (more h)
    by false i h more =
        and_both (number_byte b) _ (mark_number b (and_fst (bytes.exponent_mark b) (is_exponent w) h)) (exponent_number w (and_snd (bytes.exponent_mark b) (is_exponent w) h))

decimal_number : (w : List ℕ) → is_decimal w ≡ true → all_of number_byte w ≡ true
unfolding is_decimal all_of word_byte
decimal_number [] e = absurd (false≢true e)
decimal_number (b ∷ w) e = by (digit b) refl e (λ h. decimal_number w h)
  where
    by : (x : Bool) → digit b ≡ x → cond x (is_decimal w) (eqb b 46 && is_fraction w) ≡ true → (is_decimal w ≡ true → all_of number_byte w ≡ true) →
        (number_byte b && all_of number_byte w) ≡ true
    by true i h more = and_both (number_byte b) _ (digit_number b i) (more h)
    by false i h more = and_both (number_byte b) _ (is_number b 46 refl (and_fst (eqb b 46) (is_fraction w) h)) (fraction_number w (and_snd (eqb b 46) (is_fraction w) h))

word_bytes : (w : List ℕ) → is_word w ≡ true → all_of number_byte w ≡ true
word_bytes [] e = absurd (false≢true e)
word_bytes (b ∷ w) e =
    all_cons number_byte b w (word_number b (letter_word b (and_fst (letter b) (all_of word_byte w) e)))
    (all_weaken word_byte number_byte word_number w (and_snd (letter b) (all_of word_byte w) e))

real_bytes : (w : List ℕ) → is_real w ≡ true → all_of number_byte w ≡ true
real_bytes [] e = absurd (false≢true e)
real_bytes (b ∷ w) e = all_cons number_byte b w (digit_number b (and_fst (digit b) (is_decimal w) e)) (decimal_number w (and_snd (digit b) (is_decimal w) e))

bit_digit : (b : ℕ) → bytes.bit b ≡ true → digit b ≡ true
bit_digit b e = and_both (leb 48 b) (leb b 57) (and_fst (leb 48 b) (leb b 49) e) (le-leb b 57 (omega (arith, leb-true b 49 (and_snd (leb 48 b) (leb b 49) e))))

binary_bytes : (w : List ℕ) → is_binary w ≡ true → all_of number_byte w ≡ true
unfolding word_byte
binary_bytes [] e = absurd (false≢true e)
binary_bytes (b ∷ w) e =
    all_cons number_byte b w (is_number b 37 refl (and_fst (eqb b 37) (some_of bytes.bit w) e))
    (all_weaken bytes.bit number_byte (λ c i. digit_number c (bit_digit c i)) w (some_all bytes.bit w (and_snd (eqb b 37) (some_of bytes.bit w) e)))

-- ---- the bytes of symbols

adjacent_at : (w : List ℕ) (i : ℕ) → suc i < length w → adjacent (get_or w i 0) (get_or w (suc i) 0) w ≡ true
unfolding adjacent
adjacent_at [] i l = absurd (omega arith)
adjacent_at (x ∷ []) i l = absurd (omega arith)
adjacent_at (x ∷ y ∷ w) zero l = or_left (eqb x x && eqb y y) _ (and_both (eqb x x) (eqb y y) (eq-eqb x x refl) (eq-eqb y y refl))
adjacent_at (x ∷ y ∷ w) (suc i) l = or_right (eqb (get_or (y ∷ w) i 0) x && eqb (get_or (y ∷ w) (suc i) 0) y) (adjacent (get_or (y ∷ w) i 0) (get_or (y ∷ w) (suc i) 0)
    (y ∷ w)) (adjacent_at (y ∷ w) i (omega arith))

among_adjacent : (b c : ℕ) (w : List ℕ) → adjacent b c w ≡ true → (fs : List Fixed) → (among fs w 0 ≡ 0 → ⊥) → any (λ (f : Fixed). adjacent b c f.spelling) fs ≡ true
unfolding among any
among_adjacent b c w a [] n = absurd (n refl)
among_adjacent b c w a (f ∷ fs) n = by (same f.spelling w) refl n (λ m. among_adjacent b c w a fs m)
  where
    by : (x : Bool) → same f.spelling w ≡ x → (cond x f.code (among fs w 0) ≡ 0 → ⊥) → ((among fs w 0 ≡ 0 → ⊥) → any (λ (f : Fixed). adjacent b c f.spelling) fs ≡ true) →
        adjacent b c f.spelling || any (λ (f : Fixed). adjacent b c f.spelling) fs ≡ true
    by true i m more = or_left (adjacent b c f.spelling) _ (ap (adjacent b c) (same_true f.spelling w i) ∙ a)
    by false i m more = or_right (adjacent b c f.spelling) _ (more m)

-- ---- two bytes side by side in a token that is no string

module _ (w : List ℕ) (i : ℕ) (l : suc i < length w) where
  abbrev b : ℕ
  b = get_or w i 0

  abbrev c : ℕ
  c = get_or w (suc i) 0

  numbers_join : all_of number_byte w ≡ true → joins b c ≡ true
  unfolding joins
  numbers_join e = or_left (number_byte b && number_byte c) _ (and_both (number_byte b) (number_byte c) (all_at number_byte w i e (omega arith)) (all_at number_byte w (suc i) e l))

  symbols_join : is_symbol w ≡ true → joins b c ≡ true
  unfolding joins
  symbols_join e =
      or_right (number_byte b && number_byte c) _
      (or_left (any (λ (f : Fixed). adjacent b c f.spelling) symbols) _ (among_adjacent b c w (adjacent_at w i l) symbols (λ z. false≢true (sym (ap (λ (n : ℕ). not (eqb n 0)) z) ∙ e))))

  -- a spelling that is not one of a string
  inner_joins : is_string w ≡ false → (spelled_kind w ≡ 0 → ⊥) → joins b c ≡ true
  unfolding spelled_kind
  inner_joins q some = by (is_word w) (is_integer w) (is_real w) (is_binary w) (is_symbol w) refl refl refl refl refl (rw q at some)
    where
      by : (x y z u v : Bool) → is_word w ≡ x → is_integer w ≡ y → is_real w ≡ z → is_binary w ≡ u → is_symbol w ≡ v →
          (◌≡◌ {A = ℕ} (cond x 1 (cond y 2 (cond z 3 (cond u 5 (cond v 6 0))))) 0 → ⊥) → joins b c ≡ true
      by true y z u v e₁ e₂ e₃ e₄ e₅ n = numbers_join (word_bytes w e₁)
      by false true z u v e₁ e₂ e₃ e₄ e₅ n = numbers_join (digits_number w e₂)
      by false false true u v e₁ e₂ e₃ e₄ e₅ n = numbers_join (real_bytes w e₃)
      by false false false true v e₁ e₂ e₃ e₄ e₅ n = numbers_join (binary_bytes w e₄)
      by false false false false true e₁ e₂ e₃ e₄ e₅ n = symbols_join e₅
      by false false false false false e₁ e₂ e₃ e₄ e₅ n = absurd (n refl)

or_false : (a d : Bool) → a || d ≡ false → (a ≡ false) × (d ≡ false)
or_false true d e = absurd (false≢true (sym e))
or_false false d e = (refl, e)

-- ---- a place between bytes that do not join

module _ (s : List ℕ) (c : ℕ) (some : 0 < c) (apart : joins (get_or s (c - 1) 0) (get_or s c 0) ≡ false) where
  abbrev l : ℕ
  l = get_or s (c - 1) 0

  abbrev r : ℕ
  r = get_or s c 0

  others : (pair 39 39 l r ≡ false) × ((dashes l r ≡ false) × (opens l r ≡ false))
  unfolding joins
  others =
      let a = or_false (number_byte l && number_byte r) _ apart in
      let d = or_false (any (λ (f : Fixed). adjacent l r f.spelling) symbols) _ a.1 in
      let e = or_false (pair 39 39 l r) _ d.1 in
      (e.0, or_false (dashes l r) (opens l r) e.1)

  no_string : (w : List ℕ) → eqb (get_or w 0 0) 39 ≡ false → is_string w ≡ false
  no_string [] e = refl
  no_string (y ∷ w) e = rw e

  uncrossed : Uncrossed s c
  uncrossed =
      record {
        no_token = no_token;
        no_quote = λ e. sym (rw (eq-eqb l 39 e)) ∙ others.0;
        no_dashes = others.1.0;
        no_remark = others.1.1;
      }
    where
      no_token : (p m : ℕ) → p < c → c < p + m → p + m ≤ length s → eqb (get_or s p 0) 39 ≡ false → spelled_kind (take m (drop p s)) ≡ 0
      no_token p m a d e q = go (spelled_kind (take m (drop p s))) refl
        where
          byte : (i j : ℕ) → i < m → p + i ≡ j → get_or (take m (drop p s)) i 0 ≡ get_or s j 0
          byte i j k h = get_or-take m (drop p s) i 0 k ∙ get_or-drop p s i 0 ∙ ap (λ (n : ℕ). get_or s n 0) h

          plain : is_string (take m (drop p s)) ≡ false
          plain = no_string (take m (drop p s)) (ap (λ (n : ℕ). eqb n 39) (byte 0 p (omega arith) (omega arith)) ∙ q)

          go : (k : ℕ) → spelled_kind (take m (drop p s)) ≡ k → k ≡ 0
          go zero i = refl
          go (suc k) i =
              let size : length (take m (drop p s)) ≡ m = omega (arith, length-take m (drop p s), length-drop p s) in
              let j = inner_joins (take m (drop p s)) (c - 1 - p) (omega arith) plain (λ (z : spelled_kind (take m (drop p s)) ≡ 0). omega arith) in
              absurd (false≢true (sym apart ∙ sym (ap₂ joins (byte (c - 1 - p) (c - 1) (omega arith) (omega arith)) (byte (suc (c - 1 - p)) c (omega arith) (omega arith))) ∙ j))

-- ---- two texts

append_right : (a b : List ℕ) → get_or (a ++ b) (length a) 0 ≡ get_or b 0 0
append_right [] b = refl
append_right (x ∷ a) b = append_right a b

-- the bytes where two texts meet belong to no common token
abbrev pub Apart : List ℕ → List ℕ → Type 0
Apart a b = joins (get_or a (length a - 1) 0) (get_or b 0 0) ≡ false

passes_joined : (a b : List ℕ) (rs : List TokenRow) → Passes a 0 rs (length a) → Apart a b → Passes (a ++ b) 0 rs (length a)
passes_joined [] b rs x e = passes_none [] b rs x
passes_joined (y ∷ a) b rs x e =
    let size = length-append (y ∷ a) b in
    let last : get_or ((y ∷ a) ++ b) (length (y ∷ a) - 1) 0 ≡ get_or (y ∷ a) (length (y ∷ a) - 1) 0 = get_or-append (y ∷ a) b 0 (length (y ∷ a) - 1) (omega arith) in
    passes_agree (y ∷ a) ((y ∷ a) ++ b) (length (y ∷ a)) (sym (take-append-le (length (y ∷ a)) (y ∷ a) b (omega arith))) (omega arith) (omega arith)
    (uncrossed ((y ∷ a) ++ b) (length (y ∷ a)) (omega arith) (ap₂ joins last (append_right (y ∷ a) b) ∙ e)) x (omega arith)

-- TWO TEXTS SIDE BY SIDE: the tokens of the first, and behind them those of the second, moved
pub joined : (a b : List ℕ) (rs : List TokenRow) → Passes a 0 rs (length a) → Apart a b → lexed_whole (a ++ b) ≡ behind rs (moved (length a) (lexed_whole b))
joined a b rs x e = cut_rest (a ++ b) (length a) rs (passes_joined a b rs x e) ∙ ap (λ (w : List ℕ). behind rs (moved (length a) (lexed_whole w))) (drop-append_seam a b)

-- AN EDIT: a piece y between two texts, each read by itself. What stands before it keeps its tokens; what stands behind is moved
pub edited :
    (a y b : List ℕ) (before inside : List TokenRow) → Passes a 0 before (length a) → Passes y 0 inside (length y) → Apart a (y ++ b) → Apart y b →
    lexed_whole (a ++ (y ++ b)) ≡ behind before (moved (length a) (behind inside (moved (length y) (lexed_whole b))))
edited a y b before inside x z e f =
    joined a (y ++ b) before x e ∙ ap (λ (l : Lexed). behind before (moved (length a) l)) (joined y b inside z f)

-- nothing joins a line feed
line_feed_apart : (c : ℕ) → joins 10 c ≡ false
unfolding joins any adjacent word_byte
line_feed_apart c = refl

-- A TEXT WITH ANOTHER PIECE between c and d, where c lies between two of its tokens: the piece, which ends in a line feed, and the text from d on
-- are each read by themselves
pub replaced :
    (s y : List ℕ) (c d e : ℕ) (before : List TokenRow) → Passes s 0 before c → get_or y (length y - 1) 0 ≡ 10 → (lexed_whole y).stop ≡ at e → Apart (take c s) (y ++ drop d s) →
    lexed_whole (take c s ++ (y ++ drop d s)) ≡ behind before (moved c (behind (lexed_whole y).rows (moved (length y) (lexed_whole (drop d s)))))
replaced s y c d e before x fed stop apart =
    let size : length (take c s) ≡ c = omega (arith, length-take c s, (passes_in s x (omega arith)).1) in
    let part : Passes (take c s) 0 before (length (take c s)) = subst (Passes (take c s) 0 before) (sym size) (passes_part s c before x) in
    edited (take c s) y (drop d s) before (lexed_whole y).rows part (text_passes y fed e stop) apart (ap (λ (b : ℕ). joins b (get_or (drop d s) 0 0)) fed ∙ line_feed_apart (get_or (drop d s) 0 0))
    ∙ ap (λ (k : ℕ). behind before (moved k (behind (lexed_whole y).rows (moved (length y) (lexed_whole (drop d s)))))) size
