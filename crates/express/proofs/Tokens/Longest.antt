-- The fast reading of a token gives the longest token that stands there: its kind, its end, and its refusals are those of the definition.
use mathlib.Core.Path.{◌≡◌, refl, sym, ap, ◌∙◌}
use mathlib.Core.Logic.{◌⊎◌, inl, inr}
use mathlib.Core.Bool.{Bool, true, false, cond, not, ◌&&◌, ◌||◌, false≢true}
use mathlib.Core.List.{List, [], ◌∷◌}
use Prim.Native.Nat.{ℕ, zero, suc, ◌+◌, ◌-◌, ◌≤◌, ◌<◌}
use native.Mathlib.Omega.{arith}
use native.Mathlib.Decide.{dec_lt}
use lib.Dec.{eqb, leb}
use lib.ListN.{length, take, drop, get_or, length-take, length-drop, drop_of_length-le}
use lib.Seq.{get_or-drop}
use borrow.Author.Tests.{leb-true, leb-false, le-leb, lt-leb, eqb-true, eqb-false, eq-eqb, ne_eqb}
use Rattle.express.specs.Tokens.Bytes.{within, digit, letter, word_byte, printable, same}
use Rattle.express.specs.Tokens.Bytes as bytes
use Rattle.express.specs.Tokens.Terminal.{Fixed, symbols, among, symbol_terminal}
use Rattle.express.specs.Tokens.Token.{all_of, some_of, is_exponent, is_fraction, is_decimal, in_string, is_symbol, spelled_kind, standing_kind, longest, longest_size, longest_kind}
use Rattle.express.specs.Tokens.Lexis.{Reading, at, refused, end_of_run, run, numeral, greatest, end_of_integer, digits_of_exponent, end_of_exponent, end_of_real, end_of_string}
use Rattle.express.specs.Tokens.Lexis.{string_value, most_bytes, end_of_short_string, end_of_binary, size_of_symbol, end_of_symbol, too_large, longest_end, token_kind_at, end_of_token}
use Rattle.relations.specs.Select.{any}
use Rattle.relations.proofs.Select.{and_fst, and_snd, or_cases, untrue}
use Rattle.express.proofs.Tokens.Places.{tail, one_cut, past, in_text, run_low_of, run_low, run_some, and_false, size_inside, cond_ge, exponent_low}
use Rattle.express.proofs.Tokens.Spelling.{same_true}
use Rattle.express.proofs.Tokens.Symbols.{read, longest_wins, read_symbol}

-- ---- the longest of some sizes

module _ (t : List ℕ) where
  pub longest_is :
      (N n : ℕ) → 0 < n → n ≤ N → (standing_kind t n ≡ 0 → ⊥) → ((m : ℕ) → n < m → m ≤ N → standing_kind t m ≡ 0) → longest t N ≡ n
  unfolding longest
  longest_is zero n some le is over = absurd (omega arith)
  longest_is (suc N) n some le is over = go (dec_lt N n) (λ l. longest_is N n some l is (λ m a b. over m a (omega arith)))
    where
      go : Dec (N < n) → (n ≤ N → longest t N ≡ n) → cond (eqb (standing_kind t (suc N)) 0) (longest t N) (suc N) ≡ n
      go (yes l) more = let e : suc N ≡ n = omega arith in rw (e, ne_eqb (standing_kind t n) 0 is)
      go (no l) more = rw (over (suc N) (omega arith) (omega arith)) (more (omega arith))

  longest_none : (N : ℕ) → ((m : ℕ) → 0 < m → m ≤ N → standing_kind t m ≡ 0) → longest t N ≡ 0
  unfolding longest
  longest_none zero over = refl
  longest_none (suc N) over = rw (over (suc N) (omega arith) (omega arith)) (longest_none N (λ m a b. over m a (omega arith)))

-- ---- runs

-- how many bytes of a class stand at the beginning of a text
unfoldable pub run_size : (ℕ → Bool) → List ℕ → ℕ
run_size f [] = 0
run_size f (b ∷ t) = cond (f b) (suc (run_size f t)) 0

pub run_is : (f : ℕ → Bool) (p : ℕ) (t : List ℕ) → end_of_run f p t ≡ p + run_size f t
unfolding end_of_run run_size
run_is f p [] = omega arith
run_is f p (b ∷ t) = by (f b) (run_is f (p + 1) t)
  where
    by : (x : Bool) → end_of_run f (p + 1) t ≡ p + 1 + run_size f t → cond x (end_of_run f (p + 1) t) p ≡ p + cond x (suc (run_size f t)) 0
    by true e = omega arith
    by false e = omega arith

run_size_le : (f : ℕ → Bool) (t : List ℕ) → run_size f t ≤ length t
unfolding run_size
run_size_le f [] = omega arith
run_size_le f (b ∷ t) = by (f b) (run_size_le f t)
  where
    by : (x : Bool) → run_size f t ≤ length t → cond x (suc (run_size f t)) 0 ≤ suc (length t)
    by true e = omega arith
    by false e = omega arith

leb_suc : (m n : ℕ) → leb (suc m) (suc n) ≡ leb m n
leb_suc m n = by (leb m n) refl
  where
    by : (x : Bool) → leb m n ≡ x → leb (suc m) (suc n) ≡ x
    by true e = le-leb (suc m) (suc n) (omega (arith, leb-true m n e))
    by false e = lt-leb (suc m) (suc n) (omega (arith, leb-false m n e))

-- bytes from the beginning of a text are all of a class as far as the run goes
all_take : (f : ℕ → Bool) (t : List ℕ) (m : ℕ) → m ≤ length t → all_of f (take m t) ≡ leb m (run_size f t)
unfolding all_of run_size
all_take f t zero h = sym (le-leb 0 (run_size f t) (omega arith))
all_take f [] (suc m) h = absurd (omega arith)
all_take f (b ∷ t) (suc m) h = by (f b) (all_take f t m (omega arith))
  where
    by : (x : Bool) → all_of f (take m t) ≡ leb m (run_size f t) → (x && all_of f (take m t)) ≡ leb (suc m) (cond x (suc (run_size f t)) 0)
    by true e = e ∙ sym (leb_suc m (run_size f t))
    by false e = sym (lt-leb (suc m) 0 (omega arith))

-- ---- the first byte decides which kinds there can be

-- no symbol begins with a byte of a class
not_among : (g : ℕ → Bool) (fs : List Fixed) (b : ℕ) (w : List ℕ) → any (λ (f : Fixed). g (get_or f.spelling 0 0)) fs ≡ false → g b ≡ true → among fs (b ∷ w) 0 ≡ 0
unfolding among any
not_among g [] b w none h = refl
not_among g (f ∷ fs) b w none h =
    by (same f.spelling (b ∷ w)) refl (g (get_or f.spelling 0 0)) refl none (λ n. not_among g fs b w n h)
  where
    by : (x : Bool) → same f.spelling (b ∷ w) ≡ x → (y : Bool) → g (get_or f.spelling 0 0) ≡ y → y || any (λ (f : Fixed). g (get_or f.spelling 0 0)) fs ≡ false →
        (any (λ (f : Fixed). g (get_or f.spelling 0 0)) fs ≡ false → among fs (b ∷ w) 0 ≡ 0) → cond x f.code (among fs (b ∷ w) 0) ≡ 0
    by x i true j n more = absurd (false≢true (sym n))
    by true i false j n more = absurd (false≢true (sym j ∙ ap (λ (v : List ℕ). g (get_or v 0 0)) (same_true f.spelling (b ∷ w) i) ∙ h))
    by false i false j n more = more n

pub no_symbol : (g : ℕ → Bool) (b : ℕ) (w : List ℕ) → any (λ (f : Fixed). g (get_or f.spelling 0 0)) symbols ≡ false → g b ≡ true → is_symbol (b ∷ w) ≡ false
no_symbol g b w none h = rw (not_among g symbols b w none h)

within_range : (lo hi b : ℕ) → within lo hi b ≡ true → (lo ≤ b) × (b ≤ hi)
within_range lo hi b e = (leb-true lo b (and_fst (leb lo b) (leb b hi) e), leb-true b hi (and_snd (leb lo b) (leb b hi) e))

above : (lo hi b : ℕ) → hi < b → within lo hi b ≡ false
above lo hi b h = rw (lt-leb b hi h) (and_false (leb lo b))

below : (lo hi b : ℕ) → b < lo → within lo hi b ≡ false
below lo hi b h = rw (lt-leb lo b h)

letter_low : (b : ℕ) → letter b ≡ true → 65 ≤ b
letter_low b e = by (or_cases (within 65 90 b) (within 97 122 b) e)
  where
    by : (within 65 90 b ≡ true) ⊎ (within 97 122 b ≡ true) → 65 ≤ b
    by (inl i) = (within_range 65 90 b i).0
    by (inr i) = omega (arith, (within_range 97 122 b i).0)

not_letter : (b : ℕ) → b < 65 → letter b ≡ false
not_letter b h = rw (below 65 90 b h, below 97 122 b (omega arith))

unlike : (b c : ℕ) → (b ≡ c → ⊥) → eqb b c ≡ false
unlike b c h = ne_eqb b c h

module _ (b : ℕ) (w : List ℕ) where
  pub word_kind : letter b ≡ true → spelled_kind (b ∷ w) ≡ cond (all_of word_byte w) 1 0
  unfolding spelled_kind any
  word_kind e =
      let l = letter_low b e in
      rw (e, above 48 57 b (omega arith), unlike b 39 (λ (q : b ≡ 39). omega arith), unlike b 37 (λ (q : b ≡ 37). omega arith), no_symbol letter b w refl e)

  pub number_kind : digit b ≡ true → spelled_kind (b ∷ w) ≡ cond (all_of digit w) 2 (cond (is_decimal w) 3 0)
  unfolding spelled_kind any
  number_kind e =
      let r = within_range 48 57 b e in
      rw (not_letter b (omega (arith, r.1)), e, unlike b 39 (λ (q : b ≡ 39). omega (arith, r.0)), unlike b 37 (λ (q : b ≡ 37). omega (arith, r.0)), no_symbol digit b w refl e)

  pub symbol_kind : letter b ≡ false → digit b ≡ false → eqb b 39 ≡ false → eqb b 37 ≡ false → spelled_kind (b ∷ w) ≡ cond (is_symbol (b ∷ w)) 6 0
  unfolding spelled_kind
  symbol_kind i j k l = rw (i, j, k, l)

pub string_kind : (w : List ℕ) → spelled_kind (39 ∷ w) ≡ cond (in_string false w) 4 0
unfolding spelled_kind any
string_kind w = rw (no_symbol (λ b. eqb b 39) 39 w refl refl)

pub binary_kind : (w : List ℕ) → spelled_kind (37 ∷ w) ≡ cond (some_of bytes.bit w) 5 0
unfolding spelled_kind any
binary_kind w = rw (no_symbol (λ b. eqb b 37) 37 w refl refl)

-- ---- numbers

-- the first n bytes of a text pass a test, and no more of them do; or none do
record Max (g : List ℕ → Bool) (t : List ℕ) (n : ℕ) : Type 0 where
  upto : n ≤ length t
  is : g (take n t) ≡ true
  over : (m : ℕ) → n < m → m ≤ length t → g (take m t) ≡ false

abbrev Never : (List ℕ → Bool) → List ℕ → Type 0
Never g t = (m : ℕ) → m ≤ length t → g (take m t) ≡ false

-- one byte more, behind which another test goes on
module _ (g h : List ℕ → Bool) (b : ℕ) (t : List ℕ) (step : (w : List ℕ) → g (b ∷ w) ≡ h w) where
  max_on : (n : ℕ) → Max h t n → Max g (b ∷ t) (suc n)
  max_on n x = record { upto = omega (arith, x.upto); is = step (take n t) ∙ x.is; over = over }
    where
      over : (m : ℕ) → suc n < m → m ≤ suc (length t) → g (take m (b ∷ t)) ≡ false
      over zero l k = absurd (omega arith)
      over (suc m) l k = step (take m t) ∙ x.over m (omega arith) (omega arith)

  never_on : g [] ≡ false → Never h t → Never g (b ∷ t)
  never_on e x zero l = e
  never_on e x (suc m) l = step (take m t) ∙ x m (omega arith)

  -- nothing of it at all
  max_none : g [] ≡ true → Never h t → Max g (b ∷ t) 0
  max_none e x = record { upto = omega arith; is = e; over = over }
    where
      over : (m : ℕ) → 0 < m → m ≤ suc (length t) → g (take m (b ∷ t)) ≡ false
      over zero l k = absurd (omega arith)
      over (suc m) l k = step (take m t) ∙ x m (omega arith)

never_nothing : (g : List ℕ → Bool) → g [] ≡ false → Never g []
never_nothing g e zero l = e
never_nothing g e (suc m) l = absurd (omega arith)

never_false : (t : List ℕ) → Never (λ w. false) t
never_false t m l = refl

all_max : (f : ℕ → Bool) (t : List ℕ) → Max (all_of f) t (run_size f t)
all_max f t =
    record {
      upto = run_size_le f t;
      is = all_take f t (run_size f t) (run_size_le f t) ∙ le-leb (run_size f t) (run_size f t) (omega arith);
      over = λ m l k. all_take f t m k ∙ lt-leb m (run_size f t) l;
    }

module _ (f : ℕ → Bool) (s : List ℕ) (g : ℕ) where
  -- bytes of a class at g, or none
  some_max : f 0 ≡ false → f (get_or s g 0) ≡ true → Max (some_of f) (drop g s) (run f s g - g)
  unfolding run_size
  some_max z e =
      let l = in_text f z s g e in
      let r : run_size f (get_or s g 0 ∷ drop (g + 1) s) ≡ suc (run_size f (drop (g + 1) s)) = rw e in
      let k : run f s g ≡ g + run_size f (get_or s g 0 ∷ drop (g + 1) s) = ap (end_of_run f g) (one_cut s g l) ∙ run_is f g (get_or s g 0 ∷ drop (g + 1) s) in
      let n : run f s g - g ≡ suc (run_size f (drop (g + 1) s)) = omega arith in
      rw (n, one_cut s g l) (max_on (some_of f) (all_of f) (get_or s g 0) (drop (g + 1) s) (λ w. rw e) _ (all_max f (drop (g + 1) s)))

  some_never : f (get_or s g 0) ≡ false → Never (some_of f) (drop g s)
  some_never e = go (dec_lt g (length s))
    where
      go : Dec (g < length s) → Never (some_of f) (drop g s)
      go (yes l) = rw (one_cut s g l) (never_on (some_of f) (λ w. false) (get_or s g 0) (drop (g + 1) s) (λ w. rw e) refl (never_false (drop (g + 1) s)))
      go (no l) = let h : length s ≤ g = omega arith in rw (drop_of_length-le s h) (never_nothing (some_of f) refl)

-- ---- an exponent, behind its mark at p

max_same : (g h : List ℕ → Bool) (t : List ℕ) (n : ℕ) → ((m : ℕ) → g (take m t) ≡ h (take m t)) → Max h t n → Max g t n
max_same g h t n e x = record { upto = x.upto; is = e n ∙ x.is; over = λ m l k. e m ∙ x.over m l k }

unsigned : (t : List ℕ) → bytes.sign (get_or t 0 0) ≡ false → (m : ℕ) → is_exponent (take m t) ≡ some_of digit (take m t)
unsigned t e zero = refl
unsigned [] e (suc m) = refl
unsigned (b ∷ t) e (suc m) = rw e

module _ (s : List ℕ) (p : ℕ) where
  abbrev start : ℕ
  start = get_or s (p + 1) 0

  start_is : get_or (drop (p + 1) s) 0 0 ≡ start
  start_is = let e : p + 1 + 0 ≡ p + 1 = omega arith in get_or-drop (p + 1) s 0 0 ∙ ap (λ (k : ℕ). get_or s k 0) e

  abbrev digits_from : Bool → ℕ
  digits_from x = cond x (p + 2) (p + 1)

  signed_cut : bytes.sign start ≡ true → drop (p + 1) s ≡ start ∷ drop (p + 2) s
  signed_cut i =
      let e : p + 1 + 1 ≡ p + 2 = omega arith in
      one_cut s (p + 1) (in_text bytes.sign refl s (p + 1) i) ∙ ap (λ (k : ℕ). start ∷ drop k s) e

  exponent_max : (x : Bool) → bytes.sign start ≡ x → digit (get_or s (digits_from x) 0) ≡ true → Max is_exponent (drop (p + 1) s) (run digit s (digits_from x) - (p + 1))
  exponent_max true i e =
      let low = run_low digit s (p + 2) in
      let n : run digit s (p + 2) - (p + 1) ≡ suc (run digit s (p + 2) - (p + 2)) = omega arith in
      rw (n, signed_cut i) (max_on is_exponent (some_of digit) start (drop (p + 2) s) (λ w. rw i) _ (some_max digit s (p + 2) refl e))
  exponent_max false i e =
      max_same is_exponent (some_of digit) (drop (p + 1) s) _ (unsigned (drop (p + 1) s) (ap bytes.sign start_is ∙ i)) (some_max digit s (p + 1) refl e)

  exponent_never : (x : Bool) → bytes.sign start ≡ x → digit (get_or s (digits_from x) 0) ≡ false → Never is_exponent (drop (p + 1) s)
  exponent_never true i e = rw (signed_cut i) (never_on is_exponent (some_of digit) start (drop (p + 2) s) (λ w. rw i) refl (some_never digit s (p + 2) e))
  exponent_never false i e = λ m l. unsigned (drop (p + 1) s) (ap bytes.sign start_is ∙ i) m ∙ some_never digit s (p + 1) e m l

-- ---- behind the point, which is before q

pub first_is : (s : List ℕ) (q b : ℕ) (t : List ℕ) → drop q s ≡ b ∷ t → get_or s q 0 ≡ b
first_is s q b t e = let z : q + 0 ≡ q = omega arith in sym (ap (λ (k : ℕ). get_or s k 0) z) ∙ sym (get_or-drop q s 0 0) ∙ ap (λ (u : List ℕ). get_or u 0 0) e

digits_low : (s : List ℕ) (q : ℕ) → q + 1 ≤ digits_of_exponent s q
digits_low s q = cond_ge (bytes.sign (get_or s (q + 1) 0)) (omega arith) (omega arith)

module _ (s : List ℕ) where
  -- not a digit at q: an exponent, or nothing
  after_digits : (q b : ℕ) (t : List ℕ) → drop q s ≡ b ∷ t → digit b ≡ false → Max is_fraction (b ∷ t) (end_of_exponent s q - q)
  unfolding end_of_exponent is_fraction
  after_digits q b t e d = by (bytes.exponent_mark b) (digit (get_or s (digits_of_exponent s q) 0)) refl refl
    where
      here : get_or s q 0 ≡ b
      here = first_is s q b t e

      there : drop (q + 1) s ≡ t
      there = tail s q b t e

      by : (x y : Bool) → bytes.exponent_mark b ≡ x → digit (get_or s (digits_of_exponent s q) 0) ≡ y →
          Max is_fraction (b ∷ t) (cond (bytes.exponent_mark (get_or s q 0) && digit (get_or s (digits_of_exponent s q) 0)) (run digit s (digits_of_exponent s q)) q - q)
      by true true i j =
          let low = exponent_low s q in
          let run_from = run_low digit s (digits_of_exponent s q) in
          let n : run digit s (digits_of_exponent s q) - q ≡ suc (run digit s (digits_of_exponent s q) - (q + 1)) = omega (arith, digits_low s q) in
          rw (here, i, j, n) (max_on is_fraction is_exponent b t (λ w. rw (d, i)) _ (rw there at (exponent_max s q (bytes.sign (get_or s (q + 1) 0)) refl j)))
      by true false i j =
          let z : q - q ≡ 0 = omega arith in
          rw (here, i, j, z) (max_none is_fraction is_exponent b t (λ w. rw (d, i)) refl (rw there at (exponent_never s q (bytes.sign (get_or s (q + 1) 0)) refl j)))
      by false y i j =
          let z : q - q ≡ 0 = omega arith in
          rw (here, i, z) (max_none is_fraction (λ w. false) b t (λ w. rw (d, i)) refl (never_false t))

  fraction_max : (q : ℕ) (t : List ℕ) → drop q s ≡ t → Max is_fraction t (end_of_exponent s (end_of_run digit q t) - q)
  unfolding end_of_run is_fraction end_of_exponent
  fraction_max q [] e =
      let h : length s ≤ q = omega (arith, length-drop q s, ap length e) in
      let z : q - q ≡ 0 = omega arith in
      rw (past s q h, z) (record { upto = omega arith; is = refl; over = λ m l k. absurd (omega arith) })
  fraction_max q (b ∷ t) e = by (digit b) refl (fraction_max (q + 1) t (tail s q b t e))
    where
      by : (x : Bool) → digit b ≡ x → Max is_fraction t (end_of_exponent s (end_of_run digit (q + 1) t) - (q + 1)) →
          Max is_fraction (b ∷ t) (end_of_exponent s (cond x (end_of_run digit (q + 1) t) q) - q)
      by true i more =
          let low = run_low_of digit (q + 1) t in
          let up = exponent_low s (end_of_run digit (q + 1) t) in
          let n : end_of_exponent s (end_of_run digit (q + 1) t) - q ≡ suc (end_of_exponent s (end_of_run digit (q + 1) t) - (q + 1)) = omega arith in
          rw n (max_on is_fraction is_fraction b t (λ w. rw i) _ more)
      by false i more = after_digits q b t e i

  -- digits if any, and the point: a real, or none
  abbrev end_from : ℕ → ℕ
  end_from d = end_of_exponent s (run digit s (d + 1))

  end_from_low : (d : ℕ) → d + 1 ≤ end_from d
  end_from_low d = omega (arith, run_low digit s (d + 1), exponent_low s (run digit s (d + 1)))

  decimal_max : (q : ℕ) (t : List ℕ) → drop q s ≡ t → get_or s (end_of_run digit q t) 0 ≡ 46 → Max is_decimal t (end_from (end_of_run digit q t) - q)
  unfolding end_of_run is_decimal
  decimal_max q [] e point =
      let h : length s ≤ q = omega (arith, length-drop q s, ap length e) in
      absurd (omega (arith, point, past s q h))
  decimal_max q (b ∷ t) e point = by (digit b) refl point (λ h. decimal_max (q + 1) t (tail s q b t e) h)
    where
      by : (x : Bool) → digit b ≡ x → get_or s (cond x (end_of_run digit (q + 1) t) q) 0 ≡ 46 →
          (get_or s (end_of_run digit (q + 1) t) 0 ≡ 46 → Max is_decimal t (end_from (end_of_run digit (q + 1) t) - (q + 1))) →
          Max is_decimal (b ∷ t) (end_from (cond x (end_of_run digit (q + 1) t) q) - q)
      by true i h more =
          let low = run_low_of digit (q + 1) t in
          let up = end_from_low (end_of_run digit (q + 1) t) in
          let n : end_from (end_of_run digit (q + 1) t) - q ≡ suc (end_from (end_of_run digit (q + 1) t) - (q + 1)) = omega arith in
          rw n (max_on is_decimal is_decimal b t (λ w. rw i) _ (more h))
      by false i h more =
          let up = end_from_low q in
          let n : end_from q - q ≡ suc (end_from q - (q + 1)) = omega arith in
          let point_is : b ≡ 46 = sym (first_is s q b t e) ∙ h in
          rw (n, tail s q b t e) (max_on is_decimal is_fraction b t (λ w. rw (i, eq-eqb b 46 point_is)) _ (fraction_max (q + 1) t (tail s q b t e)))

  decimal_never : (q : ℕ) (t : List ℕ) → drop q s ≡ t → (get_or s (end_of_run digit q t) 0 ≡ 46 → ⊥) → Never is_decimal t
  unfolding end_of_run is_decimal
  decimal_never q [] e point = never_nothing is_decimal refl
  decimal_never q (b ∷ t) e point = by (digit b) refl point (λ h. decimal_never (q + 1) t (tail s q b t e) h)
    where
      by : (x : Bool) → digit b ≡ x → (get_or s (cond x (end_of_run digit (q + 1) t) q) 0 ≡ 46 → ⊥) →
          ((get_or s (end_of_run digit (q + 1) t) 0 ≡ 46 → ⊥) → Never is_decimal t) → Never is_decimal (b ∷ t)
      by true i h more = never_on is_decimal is_decimal b t (λ w. rw i) refl (more h)
      by false i h more =
          let other : eqb b 46 ≡ false = ne_eqb b 46 (λ (z : b ≡ 46). h (first_is s q b t e ∙ z)) in
          never_on is_decimal (λ w. false) b t (λ w. rw (i, other)) refl (never_false t)

-- a real is no integer
pub not_both : (w : List ℕ) → is_decimal w ≡ true → all_of digit w ≡ false
unfolding is_decimal all_of
not_both [] e = absurd (false≢true e)
not_both (b ∷ w) e = by (digit b) refl e (λ h. not_both w h)
  where
    by : (x : Bool) → digit b ≡ x → cond x (is_decimal w) (eqb b 46 && is_fraction w) ≡ true → (is_decimal w ≡ true → all_of digit w ≡ false) → (x && all_of digit w) ≡ false
    by true i h more = more h
    by false i h more = refl

-- ---- strings

-- n bytes behind the first quote end the string
abbrev pub ended : Bool → List ℕ → ℕ → Bool
ended q t n = in_string q (take n t) && not (eqb (get_or t n 0) 39)

-- a string ends at one place alone, which the reading gives, or at none
pub data Strings (o : ℕ) (q : Bool) (p : ℕ) (t : List ℕ) : Reading → Type 0 where
  string_at : {e : ℕ} (n : ℕ) → n ≤ length t → ended q t n ≡ true → ((m : ℕ) → (m ≡ n → ⊥) → m ≤ length t → ended q t m ≡ false) → e ≡ p + n → Strings o q p t (at e)
  string_open : ((m : ℕ) → m ≤ length t → ended q t m ≡ false) → Strings o q p t (refused 2 o)

module _ (o p : ℕ) (q q' : Bool) (b : ℕ) (t : List ℕ) (none : ended q (b ∷ t) 0 ≡ false) (step : (m : ℕ) → ended q (b ∷ t) (suc m) ≡ ended q' t m) where
  string_step : {r : Reading} → Strings o q' (p + 1) t r → Strings o q p (b ∷ t) r
  string_step (string_at {e} n l is only i) = string_at {e = e} (suc n) (omega arith) (step n ∙ is) other (omega arith)
    where
      other : (m : ℕ) → (m ≡ suc n → ⊥) → m ≤ suc (length t) → ended q (b ∷ t) m ≡ false
      other zero d k = none
      other (suc m) d k = step m ∙ only m (λ (z : m ≡ n). d (ap suc z)) (omega arith)
  string_step (string_open never) = string_open other
    where
      other : (m : ℕ) → m ≤ suc (length t) → ended q (b ∷ t) m ≡ false
      other zero k = none
      other (suc m) k = step m ∙ never m (omega arith)

pub strings : (o : ℕ) (q : Bool) (p : ℕ) (t : List ℕ) → Strings o q p t (end_of_string o q p t)
unfolding end_of_string in_string
strings o true p [] = string_at {e = p} 0 (omega arith) refl (λ m d l. absurd (d (omega arith))) (omega arith)
strings o false p [] = string_open other
  where
    other : (m : ℕ) → m ≤ 0 → ended false [] m ≡ false
    other zero l = refl
    other (suc m) l = absurd (omega arith)
strings o true p (b ∷ t) = by (eqb b 39) refl (strings o false (p + 1) t)
  where
    by : (x : Bool) → eqb b 39 ≡ x → Strings o false (p + 1) t (end_of_string o false (p + 1) t) → Strings o true p (b ∷ t) (cond x (end_of_string o false (p + 1) t) (at p))
    by true i more = string_step o p true false b t (rw i) (λ m. rw i) more
    by false i more = string_at {e = p} 0 (omega arith) (rw i) other (omega arith)
      where
        other : (m : ℕ) → (m ≡ 0 → ⊥) → m ≤ suc (length t) → ended true (b ∷ t) m ≡ false
        other zero d l = absurd (d refl)
        other (suc m) d l = rw i
strings o false p (b ∷ t) = by (eqb b 39) (printable b) refl refl (strings o true (p + 1) t) (strings o false (p + 1) t)
  where
    by : (x y : Bool) → eqb b 39 ≡ x → printable b ≡ y → Strings o true (p + 1) t (end_of_string o true (p + 1) t) → Strings o false (p + 1) t (end_of_string o false (p + 1) t) →
        Strings o false p (b ∷ t) (cond x (end_of_string o true (p + 1) t) (cond y (end_of_string o false (p + 1) t) (refused 2 o)))
    by true y i j quote on = string_step o p false true b t refl (λ m. rw i) quote
    by false true i j quote on = string_step o p false false b t refl (λ m. rw (i, j)) on
    by false false i j quote on = string_open other
      where
        other : (m : ℕ) → m ≤ suc (length t) → ended false (b ∷ t) m ≡ false
        other zero l = refl
        other (suc m) l = rw (i, j)

-- ---- the longest token behind a first byte

-- sizes that one test decides
module _ (b : ℕ) (u : List ℕ) (P : ℕ → Bool) (k : ℕ) (some : k ≡ 0 → ⊥) (stand : (m : ℕ) → m ≤ length u → standing_kind (b ∷ u) (suc m) ≡ cond (P m) k 0) where
  tested : (n : ℕ) → n ≤ length u → P n ≡ true → ((m : ℕ) → n < m → m ≤ length u → P m ≡ false) → (longest_size (b ∷ u) ≡ suc n) × (standing_kind (b ∷ u) (suc n) ≡ k)
  tested n l is over =
      let here : standing_kind (b ∷ u) (suc n) ≡ k = stand n l ∙ rw is in
      (longest_is (b ∷ u) (suc (length u)) (suc n) (omega arith) (omega arith) (λ (z : standing_kind (b ∷ u) (suc n) ≡ 0). some (sym here ∙ z)) beyond, here)
    where
      beyond : (m : ℕ) → suc n < m → m ≤ suc (length u) → standing_kind (b ∷ u) m ≡ 0
      beyond zero i j = absurd (omega arith)
      beyond (suc m) i j = stand m (omega arith) ∙ rw (over m (omega arith) (omega arith))

  untested : ((m : ℕ) → m ≤ length u → P m ≡ false) → longest_size (b ∷ u) ≡ 0
  untested over = longest_none (b ∷ u) (suc (length u)) beyond
    where
      beyond : (m : ℕ) → 0 < m → m ≤ suc (length u) → standing_kind (b ∷ u) m ≡ 0
      beyond zero i j = absurd (omega arith)
      beyond (suc m) i j = stand m (omega arith) ∙ rw (over m (omega arith))

-- what is spelled stands there, unless it is a string
pub standing : (t : List ℕ) (n k : ℕ) → (k ≡ 4 → ⊥) → spelled_kind (take n t) ≡ k → standing_kind t n ≡ k
unfolding standing_kind
standing t n k other e = rw (e, ne_eqb k 4 other)

not_four : (x : Bool) (k : ℕ) → (k ≡ 4 → ⊥) → cond x k 0 ≡ 4 → ⊥
not_four true k h e = h e
not_four false k h e = absurd (omega arith)

module _ (b : ℕ) (u : List ℕ) where
  word_longest : letter b ≡ true → (longest_size (b ∷ u) ≡ suc (run_size word_byte u)) × (standing_kind (b ∷ u) (suc (run_size word_byte u)) ≡ 1)
  word_longest e =
      let x = all_max word_byte u in
      tested b u (λ m. all_of word_byte (take m u)) 1 (λ (z : ◌≡◌ {A = ℕ} 1 0). omega arith)
      (λ m l. standing (b ∷ u) (suc m) _ (not_four (all_of word_byte (take m u)) 1 (λ (z : ◌≡◌ {A = ℕ} 1 4). omega arith)) (word_kind b (take m u) e))
      (run_size word_byte u) x.upto x.is x.over

  module _ (e : digit b ≡ true) where
    number_stands : (m : ℕ) → standing_kind (b ∷ u) (suc m) ≡ cond (all_of digit (take m u)) 2 (cond (is_decimal (take m u)) 3 0)
    number_stands m = standing (b ∷ u) (suc m) _ (by (all_of digit (take m u)) (is_decimal (take m u))) (number_kind b (take m u) e)
      where
        by : (x y : Bool) → ◌≡◌ {A = ℕ} (cond x 2 (cond y 3 0)) 4 → ⊥
        by true y z = absurd (omega (arith, z))
        by false true z = absurd (omega (arith, z))
        by false false z = absurd (omega (arith, z))

    integer_longest : Never is_decimal u → (longest_size (b ∷ u) ≡ suc (run_size digit u)) × (standing_kind (b ∷ u) (suc (run_size digit u)) ≡ 2)
    integer_longest never =
        let x = all_max digit u in
        tested b u (λ m. all_of digit (take m u)) 2 (λ (z : ◌≡◌ {A = ℕ} 2 0). omega arith)
        (λ m l. number_stands m ∙ rw (never m l)) (run_size digit u) x.upto x.is x.over

    real_longest : (n : ℕ) → Max is_decimal u n → (longest_size (b ∷ u) ≡ suc n) × (standing_kind (b ∷ u) (suc n) ≡ 3)
    real_longest n x =
        let whole : all_of digit (take n u) ≡ false = not_both (take n u) x.is in
        let here : standing_kind (b ∷ u) (suc n) ≡ 3 = number_stands n ∙ rw (whole, x.is) in
        (longest_is (b ∷ u) (suc (length u)) (suc n) (omega arith) (omega (arith, x.upto)) (λ (z : standing_kind (b ∷ u) (suc n) ≡ 0). omega (arith, here)) (beyond whole), here)
      where
        beyond : all_of digit (take n u) ≡ false → (m : ℕ) → suc n < m → m ≤ suc (length u) → standing_kind (b ∷ u) m ≡ 0
        beyond whole zero i j = absurd (omega arith)
        beyond whole (suc m) i j =
            let short : run_size digit u < n = leb-false n (run_size digit u) (sym (all_take digit u n x.upto) ∙ whole) in
            let all : all_of digit (take m u) ≡ false = all_take digit u m (omega arith) ∙ lt-leb m (run_size digit u) (omega arith) in
            number_stands m ∙ rw (all, x.over m (omega arith) (omega arith))

  module _ (i : letter b ≡ false) (j : digit b ≡ false) (k : eqb b 39 ≡ false) (l : eqb b 37 ≡ false) where
    symbol_stands : (m : ℕ) → standing_kind (b ∷ u) (suc m) ≡ cond (is_symbol (b ∷ take m u)) 6 0
    symbol_stands m =
        standing (b ∷ u) (suc m) _ (not_four (is_symbol (b ∷ take m u)) 6 (λ (z : ◌≡◌ {A = ℕ} 6 4). omega arith)) (symbol_kind b (take m u) i j k l)

pub string_stands : (u : List ℕ) (m : ℕ) → standing_kind (39 ∷ u) (suc m) ≡ cond (ended false u m) 4 0
unfolding standing_kind
string_stands u m = rw (string_kind (take m u)) (by (in_string false (take m u)) (eqb (get_or u m 0) 39))
  where
    by : (x y : Bool) → ◌≡◌ {A = ℕ} (cond (eqb (cond x 4 0) 4 && y) 0 (cond x 4 0)) (cond (x && not y) 4 0)
    by true true = refl
    by true false = refl
    by false y = refl

binary_stands : (u : List ℕ) (m : ℕ) → standing_kind (37 ∷ u) (suc m) ≡ cond (some_of bytes.bit (take m u)) 5 0
binary_stands u m = standing (37 ∷ u) (suc m) _ (not_four (some_of bytes.bit (take m u)) 5 (λ (z : ◌≡◌ {A = ℕ} 5 4). omega arith)) (binary_kind (take m u))

-- ---- the reading of a token of kind k at p, and the longest that stands there

data Agrees (s : List ℕ) (p k : ℕ) : Type 0 where
  nothing_there : longest_size (drop p s) ≡ 0 → end_of_token s p k ≡ refused 2 p → Agrees s p k
  token_there : (n : ℕ) → longest_size (drop p s) ≡ suc n → standing_kind (drop p s) (suc n) ≡ k →
      end_of_token s p k ≡ cond (too_large k (take (suc n) (drop p s))) (refused 3 p) (at (p + suc n)) → Agrees s p k

cond_not : {A : Type 0} (x : Bool) (a c : A) → cond x a c ≡ cond (not x) c a
cond_not true a c = refl
cond_not false a c = refl

pub run_none : (f : ℕ → Bool) (s : List ℕ) (p : ℕ) → f (get_or s p 0) ≡ false → run f s p ≡ p
unfolding end_of_run
run_none f s p e = by (drop p s) refl
  where
    by : (t : List ℕ) → drop p s ≡ t → end_of_run f p t ≡ p
    by [] i = refl
    by (b ∷ t) i = rw (sym (first_is s p b t i), e)

module _ (s : List ℕ) (p : ℕ) (h : p < length s) where
  abbrev b : ℕ
  b = get_or s p 0

  abbrev u : List ℕ
  u = drop (p + 1) s

  cut : drop p s ≡ b ∷ u
  cut = one_cut s p h

  run_first : (f : ℕ → Bool) → f b ≡ true → run f s p ≡ p + suc (run_size f u)
  unfolding run_size
  run_first f e =
      let r : run_size f (b ∷ u) ≡ suc (run_size f u) = rw e in
      ap (end_of_run f p) cut ∙ run_is f p (b ∷ u) ∙ ap (λ (k : ℕ). p + k) r

  word_agrees : letter b ≡ true → Agrees s p 1
  unfolding end_of_token word_byte
  word_agrees e =
      let x = word_longest b u e in
      token_there (run_size word_byte u) (rw cut x.0) (rw cut x.1) (ap at (run_first word_byte (rw e)))

  integer_agrees : digit b ≡ true → (get_or s (run digit s p) 0 ≡ 46 → ⊥) → Agrees s p 2
  unfolding end_of_token end_of_integer end_of_run
  integer_agrees e point =
      let point_of : run digit s p ≡ end_of_run digit (p + 1) u = rw (cut, e) in
      let x = integer_longest b u e (decimal_never s (p + 1) u refl (λ (z : get_or s (end_of_run digit (p + 1) u) 0 ≡ 46). point (ap (λ (k : ℕ). get_or s k 0) point_of ∙ z))) in
      let n = suc (run_size digit u) in
      let size : p + n - p ≡ n = omega arith in
      token_there (run_size digit u) (rw cut x.0) (rw cut x.1)
      (rw (run_first digit e, size) (cond_not (leb (numeral 10 0 (take n (drop p s))) greatest) (at (p + n)) (refused 3 p)))

  real_agrees : digit b ≡ true → get_or s (run digit s p) 0 ≡ 46 → Agrees s p 3
  unfolding end_of_token end_of_real end_of_run
  real_agrees e point =
      let point_of : run digit s p ≡ end_of_run digit (p + 1) u = rw (cut, e) in
      let d = end_of_run digit (p + 1) u in
      let low : p + 1 ≤ d = run_low_of digit (p + 1) u in
      let up : d + 1 ≤ end_from s d = end_from_low s d in
      let m = decimal_max s (p + 1) u refl (sym (ap (λ (k : ℕ). get_or s k 0) point_of) ∙ point) in
      let x = real_longest b u e (end_from s d - (p + 1)) m in
      let there : end_from s d ≡ p + suc (end_from s d - (p + 1)) = omega arith in
      token_there (end_from s d - (p + 1)) (rw cut x.0) (rw cut x.1) (ap (λ (k : ℕ). at (end_from s k)) point_of ∙ ap at there)

  string_agrees : b ≡ 39 → Agrees s p 4
  unfolding end_of_token end_of_short_string
  string_agrees e = by (end_of_string p false (p + 1) u) refl (strings p false (p + 1) u)
    where
      quoted : drop p s ≡ 39 ∷ u
      quoted = cut ∙ ap (λ (c : ℕ). c ∷ u) e

      by : (r : Reading) → end_of_string p false (p + 1) u ≡ r → Strings p false (p + 1) u r → Agrees s p 4
      by (at q) is (string_at n l ends only i) =
          let x = tested 39 u (ended false u) 4 (λ (z : ◌≡◌ {A = ℕ} 4 0). omega arith) (λ m k. string_stands u m) n l ends (λ m a c. only m (λ (z : m ≡ n). omega arith) c) in
          let there : q ≡ p + suc n = omega arith in
          let size : p + suc n - p ≡ suc n = omega arith in
          token_there n (rw quoted x.0) (rw quoted x.1)
          (rw (is ∙ ap at there, size) (cond_not (leb (length (string_value (take (suc n) (drop p s)))) most_bytes) (at (p + suc n)) (refused 3 p)))
      by _ is (string_open never) =
          nothing_there (rw quoted (untested 39 u (ended false u) 4 (λ (z : ◌≡◌ {A = ℕ} 4 0). omega arith) (λ m k. string_stands u m) never)) (rw is)

  binary_agrees : b ≡ 37 → Agrees s p 5
  unfolding end_of_token end_of_binary
  binary_agrees e = by (bytes.bit (get_or s (p + 1) 0)) refl
    where
      marked : drop p s ≡ 37 ∷ u
      marked = cut ∙ ap (λ (c : ℕ). c ∷ u) e

      P : ℕ → Bool
      P m = some_of bytes.bit (take m u)

      five : ◌≡◌ {A = ℕ} 5 0 → ⊥
      five z = absurd (omega arith)

      by : (x : Bool) → bytes.bit (get_or s (p + 1) 0) ≡ x → Agrees s p 5
      by true i =
          let l = in_text bytes.bit refl s (p + 1) i in
          let some = run_some bytes.bit s (p + 1) l i in
          let m = some_max bytes.bit s (p + 1) refl i in
          let n = run bytes.bit s (p + 1) - (p + 1) in
          let x = tested 37 u P 5 five (λ m k. binary_stands u m) n m.upto m.is m.over in
          let there : run bytes.bit s (p + 1) ≡ p + suc n = omega arith in
          let size : length (take (suc n) (drop p s)) ≡ suc n = omega (arith, length-take (suc n) (drop p s), length-drop p s, m.upto, length-drop (p + 1) s) in
          let not_zero : eqb n 0 ≡ false = ne_eqb n 0 (λ (z : n ≡ 0). omega arith) in
          token_there n (rw marked x.0) (rw marked x.1)
          (rw (not_zero, size, leb_suc n 63) (cond_not (leb n 63) (at (run bytes.bit s (p + 1))) (refused 3 p) ∙ ap (λ (k : ℕ). cond (not (leb n 63)) (refused 3 p) (at k)) there))
      by false i =
          let none : run bytes.bit s (p + 1) - (p + 1) ≡ 0 = omega (arith, run_none bytes.bit s (p + 1) i) in
          nothing_there (rw marked (untested 37 u P 5 five (λ m k. binary_stands u m) (some_never bytes.bit s (p + 1) i))) (rw none)

  symbol_agrees : letter b ≡ false → digit b ≡ false → eqb b 39 ≡ false → eqb b 37 ≡ false → Agrees s p 6
  unfolding end_of_token end_of_symbol
  symbol_agrees i j k l = by size refl (read_symbol b u)
    where
      size : ℕ
      size = size_of_symbol (get_or s p 0) (get_or s (p + 1) 0) (get_or s (p + 2) 0) (get_or s (p + 3) 0)

      byte : (n m : ℕ) → p + 1 + n ≡ m → get_or u n 0 ≡ get_or s m 0
      byte n m e = get_or-drop (p + 1) s n 0 ∙ ap (λ (c : ℕ). get_or s c 0) e

      read_is : read (b ∷ u) ≡ size
      read_is =
          ap (λ (x : ℕ). size_of_symbol b x (get_or u 1 0) (get_or u 2 0)) (byte 0 (p + 1) (omega arith))
          ∙ ap (λ (x : ℕ). size_of_symbol b (get_or s (p + 1) 0) x (get_or u 2 0)) (byte 1 (p + 2) (omega arith))
          ∙ ap (λ (x : ℕ). size_of_symbol b (get_or s (p + 1) 0) (get_or s (p + 2) 0) x) (byte 2 (p + 3) (omega arith))

      P : ℕ → Bool
      P m = is_symbol (b ∷ take m u)

      six : ◌≡◌ {A = ℕ} 6 0 → ⊥
      six z = absurd (omega arith)

      known : (w : List ℕ) → is_symbol w ≡ true → symbol_terminal w ≡ 0 → ⊥
      known w e z = absurd (false≢true (sym (ap (λ (x : Bool). not x) (eq-eqb (symbol_terminal w) 0 z)) ∙ e))

      -- no symbol is longer than what is read
      beyond : (m : ℕ) → size < suc m → m ≤ length u → P m ≡ false
      beyond m a c =
          untrue (P m)
          (λ e. let le = longest_wins (b ∷ u) (suc m) (known (b ∷ take m u) e) in omega (arith, le, length-take (suc m) (b ∷ u), read_is))

      by : (n : ℕ) → size ≡ n → (read (b ∷ u) ≡ 0) ⊎ (symbol_terminal (take (read (b ∷ u)) (b ∷ u)) ≡ 0 → ⊥) → Agrees s p 6
      by zero e x =
          nothing_there (rw cut (untested b u P 6 six (λ m q. symbol_stands b u i j k l m) (λ m q. beyond m (omega arith) q))) (rw (eq-eqb size 0 e))
      by (suc n) e (inl z) = absurd (omega (arith, read_is))
      by (suc n) e (inr is) =
          let inside = size_inside s p h in
          let upto : n ≤ length u = omega (arith, length-drop (p + 1) s) in
          let whole : read (b ∷ u) ≡ suc n = read_is ∙ e in
          let here : P n ≡ true = rw (ne_eqb (symbol_terminal (b ∷ take n u)) 0 (rw whole at is)) in
          let x = tested b u P 6 six (λ m q. symbol_stands b u i j k l m) n upto here (λ m a c. beyond m (omega arith) c) in
          token_there n (rw cut x.0) (rw cut x.1) (rw (ne_eqb size 0 (λ (z : size ≡ 0). omega arith)) (ap (λ (c : ℕ). at (p + c)) e))

  agrees : Agrees s p (token_kind_at s p)
  unfolding token_kind_at
  agrees = go (letter b) (digit b) (eqb (get_or s (run digit s p) 0) 46) (eqb b 39) (eqb b 37) refl refl refl refl refl
    where
      go : (l d q x y : Bool) → letter b ≡ l → digit b ≡ d → eqb (get_or s (run digit s p) 0) 46 ≡ q → eqb b 39 ≡ x → eqb b 37 ≡ y →
          Agrees s p (cond l 1 (cond d (cond q 3 2) (cond x 4 (cond y 5 6))))
      go true d q x y i j k m n = word_agrees i
      go false true true x y i j k m n = real_agrees j (eqb-true _ 46 k)
      go false true false x y i j k m n = integer_agrees j (eqb-false _ 46 k)
      go false false q true y i j k m n = string_agrees (eqb-true b 39 m)
      go false false q false true i j k m n = binary_agrees (eqb-true b 37 n)
      go false false q false false i j k m n = symbol_agrees i j m n

  -- THE LONGEST TOKEN: where the reading finds a token it is the longest, of the kind that it spells; and it is refused where that is
  pub token_is_longest : end_of_token s p (token_kind_at s p) ≡ longest_end s p
  unfolding longest_end
  token_is_longest = by agrees
    where
      by : Agrees s p (token_kind_at s p) → end_of_token s p (token_kind_at s p) ≡
          cond (eqb (longest_size (drop p s)) 0) (refused 2 p) (cond (too_large (longest_kind (drop p s)) (take (longest_size (drop p s)) (drop p s))) (refused 3 p) (at (p + longest_size (drop p s))))
      by (nothing_there e is) = rw e is
      by (token_there n e k is) = rw (e, ne_eqb (suc n) 0 (λ (z : suc n ≡ 0). omega arith), k) is

  pub kind_is_longest : (e : ℕ) → longest_end s p ≡ at e → token_kind_at s p ≡ longest_kind (drop p s)
  kind_is_longest e i = by agrees
    where
      by : Agrees s p (token_kind_at s p) → token_kind_at s p ≡ longest_kind (drop p s)
      by (nothing_there z is) = let never : ◌≡◌ {A = ℕ} 0 1 = cc token_is_longest in absurd (omega arith)
      by (token_there n z k is) = rw z (sym k)
