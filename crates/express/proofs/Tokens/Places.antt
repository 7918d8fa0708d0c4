-- Where the readers of tokens stop: a reading step from inside the text gives a place inside it, and a token has a byte at least.
use mathlib.Core.Path.{◌≡◌, refl, sym, ap, ◌∙◌}
use mathlib.Core.Bool.{Bool, true, false, cond, ◌&&◌}
use mathlib.Core.List.{List, [], ◌∷◌}
use Prim.Native.Nat.{ℕ, zero, suc, ◌+◌, ◌-◌, ◌≤◌, ◌<◌}
use native.Mathlib.Omega.{arith}
use native.Mathlib.Nat.{le_refl, le_trans}
use native.Mathlib.Numerals.{add-one}
use native.Mathlib.Decide.{dec_lt}
use lib.ListN.{length, drop, get_or, length-drop, get_or-eq_default}
use lib.Seq.{drop-cons, drop-drop}
use lib.Dec.{eqb, leb}
use borrow.Author.Rules.{rules}
use borrow.Author.Tests.{eq-eqb, eqb-true}
use Rattle.express.specs.Tokens.Bytes.{token_bytes, within, letter, digit, word_byte, space}
use Rattle.express.specs.Tokens.Lexis.{Reading, at, refused, end_of_run, run, pair, opens, dashes, in_line, end_of_remark, reading_then, skipped_in, skipped, numeral, end_of_integer}
use Rattle.express.specs.Tokens.Lexis.{either, digits_of_exponent, end_of_exponent, end_of_real, string_value, most_bytes, end_of_string, end_of_short_string, end_of_binary}
use Rattle.express.specs.Tokens.Lexis.{size_of_symbol, end_of_symbol, token_kind_at, end_of_token}

-- a step that goes on gives a place from lo to hi
abbrev pub From : ℕ → ℕ → Reading → Type 0
From lo hi (at q) = (lo ≤ q) × (q ≤ hi)
From lo hi (refused n o) = Unit {0}

pub record Inside (lo hi : ℕ) (r : Reading) : Type 0 where
  pub from : From lo hi r

pub inside_at : {lo hi : ℕ} {r : Reading} {q : ℕ} → r ≡ at q → Inside lo hi r → (lo ≤ q) × (q ≤ hi)
inside_at e h = (rw e at h).from

goes : {lo hi q : ℕ} → lo ≤ q → q ≤ hi → Inside lo hi (at q)
goes l h = record { from = (l, h) }

stays : {lo hi n o : ℕ} → Inside lo hi (refused n o)
stays = record { from = tt }

inside_weaken : {lo hi lo' hi' : ℕ} (r : Reading) → lo' ≤ lo → hi ≤ hi' → Inside lo hi r → Inside lo' hi' r
inside_weaken (at q) l h i = goes (le_trans l i.from.0) (le_trans i.from.1 h)
inside_weaken (refused n o) l h i = stays

inside_cond : {lo hi : ℕ} (t : Bool) {a b : Reading} → Inside lo hi a → Inside lo hi b → Inside lo hi (cond t a b)
inside_cond true a b = a
inside_cond false a b = b

then_inside : {lo hi : ℕ} (r : Reading) (more : ℕ → Reading) → ((q : ℕ) → r ≡ at q → Inside lo hi (more q)) → Inside lo hi (reading_then r more)
then_inside (at q) more h = h q refl
then_inside (refused n o) more h = stays

pub cond_le : (t : Bool) {a b n : ℕ} → a ≤ n → b ≤ n → cond t a b ≤ n
cond_le true p q = p
cond_le false p q = q

pub cond_ge : (t : Bool) {a b n : ℕ} → n ≤ a → n ≤ b → n ≤ cond t a b
cond_ge true p q = p
cond_ge false p q = q

pub and_false : (t : Bool) → (t && false) ≡ false
and_false true = refl
and_false false = refl

-- past the end the bytes are 0
pub past : (s : List ℕ) (i : ℕ) → length s ≤ i → get_or s i 0 ≡ 0
past s i h = get_or-eq_default s 0 h

-- a test that 0 fails is passed by a byte of the text only
pub in_text : (f : ℕ → Bool) → f 0 ≡ false → (s : List ℕ) (i : ℕ) → f (get_or s i 0) ≡ true → i < length s
in_text f z s i e = go (dec_lt i (length s))
  where
    never : false ≡ true → ⊥
    never q = mathlib.Core.Bool.false≢true q

    go : Dec (i < length s) → i < length s
    go (yes l) = l
    go (no n) = absurd (never (sym z ∙ ap f (sym (past s i (omega arith))) ∙ e))

-- ---- a text from a place on

pub tail : (s : List ℕ) (p b : ℕ) (t : List ℕ) → drop p s ≡ b ∷ t → drop (p + 1) s ≡ t
tail s p b t e = sym (drop-drop 1 p s) ∙ ap (drop 1) e

pub two_off : (s : List ℕ) (p b c : ℕ) (t : List ℕ) → drop p s ≡ b ∷ c ∷ t → drop (p + 2) s ≡ t
two_off s p b c t e = sym (drop-drop 2 p s) ∙ ap (drop 2) e

pub one_cut : (s : List ℕ) (p : ℕ) → p < length s → drop p s ≡ get_or s p 0 ∷ drop (p + 1) s
one_cut s p h = rw (add-one, drop-cons s p 0)

pub two_cut : (s : List ℕ) (p : ℕ) → p + 1 < length s → drop p s ≡ get_or s p 0 ∷ get_or s (p + 1) 0 ∷ drop (p + 2) s
two_cut s p h =
    let e : p + 1 + 1 ≡ p + 2 = omega arith in
    one_cut s p (omega arith) ∙ ap (λ (t : List ℕ). get_or s p 0 ∷ t) (one_cut s (p + 1) h ∙ ap (λ (k : ℕ). get_or s (p + 1) 0 ∷ drop k s) e)

-- ---- runs

pub run_low_of : (f : ℕ → Bool) (p : ℕ) (t : List ℕ) → p ≤ end_of_run f p t
unfolding end_of_run
run_low_of f p [] = le_refl p
run_low_of f p (b ∷ t) = cond_ge (f b) (le_trans (omega arith) (run_low_of f (p + 1) t)) (le_refl p)

run_high_of : (f : ℕ → Bool) (p : ℕ) (t : List ℕ) → end_of_run f p t ≤ p + length t
unfolding end_of_run
run_high_of f p [] = omega arith
run_high_of f p (b ∷ t) = cond_le (f b) (le_trans (run_high_of f (p + 1) t) (omega arith)) (omega arith)

module _ (f : ℕ → Bool) (s : List ℕ) (p : ℕ) where
  pub run_low : p ≤ run f s p
  run_low = run_low_of f p (drop p s)

  pub run_high : p ≤ length s → run f s p ≤ length s
  run_high h = omega (arith, run_high_of f p (drop p s), length-drop p s)

  -- a run that has its first byte
  pub run_some : p < length s → f (get_or s p 0) ≡ true → p < run f s p
  unfolding end_of_run
  run_some h e =
      let step : run f s p ≡ end_of_run f (p + 1) (drop (p + 1) s) = rw (one_cut s p h, e) in
      rw step (omega (arith, run_low_of f (p + 1) (drop (p + 1) s)))

-- ---- spaces and remarks

remark_inside_of : (o d p : ℕ) (t : List ℕ) → Inside p (p + length t) (end_of_remark o d p t)
unfolding end_of_remark
remark_inside_of o d p [] = stays
remark_inside_of o d p (b ∷ []) = stays
remark_inside_of o d p (b ∷ c ∷ t) =
    inside_cond (pair 40 42 b c)
    (inside_weaken (end_of_remark o (d + 1) (p + 2) t) (omega arith) (omega arith) (remark_inside_of o (d + 1) (p + 2) t))
    (inside_cond (pair 42 41 b c)
    (inside_cond (eqb d 1)
    (goes (omega arith) (omega arith))
    (inside_weaken (end_of_remark o (d - 1) (p + 2) t) (omega arith) (omega arith) (remark_inside_of o (d - 1) (p + 2) t)))
    (inside_weaken (end_of_remark o d (p + 1) (c ∷ t)) (omega arith) (omega arith) (remark_inside_of o d (p + 1) (c ∷ t))))

-- wherever it starts, it does not go back
pub remark_low : (o d p : ℕ) (s : List ℕ) → Inside p (p + length (drop p s)) (end_of_remark o d p (drop p s))
remark_low o d p s = remark_inside_of o d p (drop p s)

pub remark_inside : (o d p : ℕ) (s : List ℕ) → p ≤ length s → Inside p (length s) (end_of_remark o d p (drop p s))
remark_inside o d p s h = inside_weaken (end_of_remark o d p (drop p s)) (le_refl p) (omega (arith, length-drop p s)) (remark_inside_of o d p (drop p s))

-- ---- strings

string_inside_of : (o : ℕ) (q : Bool) (p : ℕ) (t : List ℕ) → Inside p (p + length t) (end_of_string o q p t)
unfolding end_of_string
string_inside_of o true p [] = goes (omega arith) (omega arith)
string_inside_of o false p [] = stays
string_inside_of o true p (b ∷ t) =
    inside_cond (eqb b 39)
    (inside_weaken (end_of_string o false (p + 1) t) (omega arith) (omega arith) (string_inside_of o false (p + 1) t))
    (goes (omega arith) (omega arith))
string_inside_of o false p (b ∷ t) =
    inside_cond (eqb b 39)
    (inside_weaken (end_of_string o true (p + 1) t) (omega arith) (omega arith) (string_inside_of o true (p + 1) t))
    (inside_cond (within 32 126 b)
    (inside_weaken (end_of_string o false (p + 1) t) (omega arith) (omega arith) (string_inside_of o false (p + 1) t))
    stays)

pub string_inside : (o : ℕ) (q : Bool) (p : ℕ) (s : List ℕ) → p ≤ length s → Inside p (length s) (end_of_string o q p (drop p s))
string_inside o q p s h = inside_weaken (end_of_string o q p (drop p s)) (le_refl p) (omega (arith, length-drop p s)) (string_inside_of o q p (drop p s))

pub short_string_inside : (s : List ℕ) (p : ℕ) → p < length s → Inside (p + 1) (length s) (end_of_short_string s p)
unfolding end_of_short_string
short_string_inside s p h =
    then_inside (end_of_string p false (p + 1) (drop (p + 1) s)) (λ e. cond (leb (length (string_value (token_bytes s p (e - p)))) most_bytes) (at e) (refused 3 p))
    (λ e is. let i = inside_at is (string_inside p false (p + 1) s (omega (arith, h))) in
    inside_cond (leb (length (string_value (token_bytes s p (e - p)))) most_bytes) (goes i.0 i.1) stays)

-- ---- numbers

module _ (s : List ℕ) (p : ℕ) where
  pub exponent_low : p ≤ end_of_exponent s p
  unfolding end_of_exponent
  exponent_low =
      cond_ge (either 101 69 (get_or s p 0) && within 48 57 (get_or s (digits_of_exponent s p) 0))
      (le_trans (cond_ge (either 43 45 (get_or s (p + 1) 0)) (omega arith) (omega arith)) (run_low (within 48 57) s (digits_of_exponent s p)))
      (le_refl p)

  pub exponent_high : p ≤ length s → end_of_exponent s p ≤ length s
  unfolding end_of_exponent
  exponent_high h = go (either 101 69 (get_or s p 0) && within 48 57 (get_or s (digits_of_exponent s p) 0)) refl
    where
      right : (a b : Bool) → (a && b) ≡ true → b ≡ true
      right true b e = e
      right false b e = absurd (mathlib.Core.Bool.false≢true e)

      go : (t : Bool) → (either 101 69 (get_or s p 0) && within 48 57 (get_or s (digits_of_exponent s p) 0)) ≡ t → cond t (run (within 48 57) s (digits_of_exponent s p)) p ≤ length s
      go true e =
          let l : digits_of_exponent s p < length s = in_text (within 48 57) refl s (digits_of_exponent s p) (right (either 101 69 (get_or s p 0)) _ e) in
          run_high (within 48 57) s (digits_of_exponent s p) (omega (arith, l))
      go false e = h

module _ (s : List ℕ) (p : ℕ) where
  abbrev points : ℕ
  points = run (within 48 57) s p

  -- a real has its point in the text
  pub real_inside : get_or s points 0 ≡ 46 → (p < end_of_real s p) × (end_of_real s p ≤ length s)
  unfolding end_of_real
  real_inside e =
      let l : points < length s = in_text (λ b. eqb b 46) refl s points (eq-eqb _ _ e) in
      let a : points + 1 ≤ length s = omega (arith, l) in
      let m = run_high (within 48 57) s (points + 1) a in
      let k = run_low (within 48 57) s (points + 1) in
      let b = run_low (within 48 57) s p in
      (omega (arith, b, k, exponent_low s (run (within 48 57) s (points + 1))), exponent_high s (run (within 48 57) s (points + 1)) m)

  pub integer_inside : p < length s → digit (get_or s p 0) ≡ true → Inside (p + 1) (length s) (end_of_integer s p)
  unfolding end_of_integer
  integer_inside h e =
      inside_cond (leb (numeral 10 0 (token_bytes s p (points - p))) 9223372036854775807)
      (goes (omega (arith, run_some (within 48 57) s p h e)) (run_high (within 48 57) s p (omega (arith, h))))
      stays

  pub binary_inside : p < length s → Inside (p + 1) (length s) (end_of_binary s p)
  unfolding end_of_binary
  binary_inside h =
      inside_cond (eqb (run (within 48 49) s (p + 1) - (p + 1)) 0)
      stays
      (inside_cond (leb (run (within 48 49) s (p + 1) - (p + 1)) 63)
      (goes (run_low (within 48 49) s (p + 1)) (run_high (within 48 49) s (p + 1) (omega (arith, h))))
      stays)

-- ---- symbols

size_four : (b c d e : ℕ) → size_of_symbol b c d e ≤ 4
unfolding size_of_symbol
size_four b c d e = search (cond_le, rules) depth 12

size_three : (b c d : ℕ) → size_of_symbol b c d 0 ≤ 3
unfolding size_of_symbol
size_three b c d = rw (and_false (pair 60 62 c d)) (search (cond_le, rules) depth 12)

size_two : (b c e : ℕ) → size_of_symbol b c 0 e ≤ 2
unfolding size_of_symbol
size_two b c e = rw (and_false (eqb c 60)) (search (cond_le, rules) depth 12)

size_one : (b d e : ℕ) → size_of_symbol b 0 d e ≤ 1
unfolding size_of_symbol
size_one b d e = search (cond_le, rules) depth 12

-- the bytes of a symbol lie in the text
module _ (s : List ℕ) (p : ℕ) where
  abbrev size : ℕ
  size = size_of_symbol (get_or s p 0) (get_or s (p + 1) 0) (get_or s (p + 2) 0) (get_or s (p + 3) 0)

  pub size_is : (r c d e : ℕ) → c ≡ get_or s (p + 1) 0 → d ≡ get_or s (p + 2) 0 → e ≡ get_or s (p + 3) 0 → r ≡ size_of_symbol (get_or s p 0) c d e → r ≡ size
  size_is r c d e c_is d_is e_is r_is = rw (← c_is, ← d_is, ← e_is) r_is

  pub size_inside : p < length s → p + size ≤ length s
  size_inside h = go (dec_lt (p + 1) (length s)) (dec_lt (p + 2) (length s)) (dec_lt (p + 3) (length s))
    where
      go : Dec (p + 1 < length s) → Dec (p + 2 < length s) → Dec (p + 3 < length s) → p + size ≤ length s
      go (yes l) (yes m) (yes n) = omega (arith, size_four (get_or s p 0) (get_or s (p + 1) 0) (get_or s (p + 2) 0) (get_or s (p + 3) 0))
      go (yes l) (yes m) (no n) = rw (past s (p + 3) (omega arith)) (omega (arith, size_three (get_or s p 0) (get_or s (p + 1) 0) (get_or s (p + 2) 0)))
      go (yes l) (no m) d = rw (past s (p + 2) (omega arith)) (omega (arith, size_two (get_or s p 0) (get_or s (p + 1) 0) (get_or s (p + 3) 0)))
      go (no l) c d = rw (past s (p + 1) (omega arith)) (omega (arith, size_one (get_or s p 0) (get_or s (p + 2) 0) (get_or s (p + 3) 0)))

  pub symbol_inside : p < length s → Inside (p + 1) (length s) (end_of_symbol s p)
  unfolding end_of_symbol
  symbol_inside h = go (eqb size 0) refl
    where
      go : (t : Bool) → eqb size 0 ≡ t → Inside (p + 1) (length s) (cond t (refused 2 p) (at (p + size)))
      go true e = stays
      go false e =
          let some : size ≡ 0 → ⊥ = borrow.Author.Tests.eqb-false size 0 e in
          goes (omega (arith, some)) (size_inside h)

-- ---- a token has a byte at least, and lies in the text

module _ (s : List ℕ) (p : ℕ) where
  abbrev b : ℕ
  b = get_or s p 0

  abbrev point : ℕ
  point = get_or s (run (within 48 57) s p) 0

  word_some : p < length s → letter b ≡ true → p < run word_byte s p
  unfolding word_byte
  word_some h e = run_some word_byte s p h (rw e)

  pub token_inside : p < length s → Inside (p + 1) (length s) (end_of_token s p (token_kind_at s p))
  unfolding token_kind_at end_of_token
  token_inside h = go (letter b) (digit b) (eqb point 46) (eqb b 39) (eqb b 37) refl refl refl
    where
      go : (l d q x y : Bool) → letter b ≡ l → digit b ≡ d → eqb point 46 ≡ q
          → Inside (p + 1) (length s) (end_of_token s p (cond l 1 (cond d (cond q 3 2) (cond x 4 (cond y 5 6)))))
      go true d q x y l_is d_is q_is = goes (omega (arith, word_some h l_is)) (run_high word_byte s p (omega (arith, h)))
      go false true true x y l_is d_is q_is =
          let r = real_inside s p (eqb-true point 46 q_is) in goes (omega (arith, r.0)) r.1
      go false true false x y l_is d_is q_is = integer_inside s p h d_is
      go false false q true y l_is d_is q_is = short_string_inside s p h
      go false false q false true l_is d_is q_is = binary_inside s p h
      go false false q false false l_is d_is q_is = symbol_inside s p h

-- ---- spaces and remarks

pair_second : (x y b c : ℕ) → pair x y b c ≡ true → eqb c y ≡ true
pair_second x y b c e = right (eqb b x) (eqb c y) e
  where
    right : (l r : Bool) → (l && r) ≡ true → r ≡ true
    right true r q = q
    right false r q = absurd (mathlib.Core.Bool.false≢true q)

-- the second byte of a pair that has no 0 lies in the text
pub pair_in : (x y b : ℕ) (s : List ℕ) (k : ℕ) → eqb 0 y ≡ false → pair x y b (get_or s k 0) ≡ true → k < length s
pair_in x y b s k z e = in_text (λ c. eqb c y) z s k (pair_second x y b (get_or s k 0) e)

module _ (f : ℕ) (s : List ℕ) (p : ℕ) (more : (q : ℕ) → q ≤ length s → Inside q (length s) (skipped_in f s q)) where
  abbrev b₀ : ℕ
  b₀ = get_or s p 0

  abbrev b₁ : ℕ
  b₁ = get_or s (p + 1) 0

  on : (q : ℕ) → p ≤ q → q ≤ length s → Inside p (length s) (skipped_in f s q)
  on q l k = inside_weaken (skipped_in f s q) l (le_refl (length s)) (more q k)

  turn : (t u v : Bool) → p ≤ length s → space b₀ ≡ t → dashes b₀ b₁ ≡ u → opens b₀ b₁ ≡ v
      → Inside p (length s) (cond t (skipped_in f s (p + 1)) (cond u (skipped_in f s (run in_line s (p + 2))) (cond v (reading_then (end_of_remark p 1 (p + 2)
      (drop (p + 2) s)) (λ q. skipped_in f s q)) (at p))))
  unfolding space
  turn true u v h t_is u_is v_is = on (p + 1) (omega arith) (omega (arith, in_text space refl s p t_is))
  turn false true v h t_is u_is v_is =
      let k = pair_in 45 45 b₀ s (p + 1) refl u_is in
      on (run in_line s (p + 2)) (le_trans (omega arith) (run_low in_line s (p + 2))) (run_high in_line s (p + 2) (omega (arith, k)))
  turn false false true h t_is u_is v_is =
      let k = pair_in 40 42 b₀ s (p + 1) refl v_is in
      then_inside (end_of_remark p 1 (p + 2) (drop (p + 2) s)) (λ q. skipped_in f s q)
      (λ q e. let i = inside_at e (remark_inside p 1 (p + 2) s (omega (arith, k))) in on q (omega (arith, i.0)) i.1)
  turn false false false h t_is u_is v_is = goes (le_refl p) h

skip_inside_in : (f : ℕ) (s : List ℕ) (p : ℕ) → p ≤ length s → Inside p (length s) (skipped_in f s p)
unfolding skipped_in
skip_inside_in zero s p h = stays
skip_inside_in (suc f) s p h = turn f s p (λ q k. skip_inside_in f s q k) (space (get_or s p 0)) (dashes (get_or s p 0) (get_or s (p + 1) 0)) (opens (get_or s p 0) (get_or s (p + 1) 0)) h refl refl refl

pub skip_inside : (s : List ℕ) (p : ℕ) → p ≤ length s → Inside p (length s) (skipped s p)
unfolding skipped
skip_inside s p h = skip_inside_in (length s + 1) s p h
