-- The table of spellings, by one test that is computed at each of its entries.
use mathlib.Core.Path.{◌≡◌, refl, sym, ap, ◌∙◌, subst}
use mathlib.Core.Bool.{Bool, true, false, cond, ◌&&◌, ◌||◌}
use mathlib.Core.List.{List, [], ◌∷◌, map}
use Prim.Native.Nat.{ℕ, zero, suc, ◌+◌, ◌-◌, ◌/◌, ◌%◌, ◌^◌, ◌≤◌, ◌<◌}
use native.Mathlib.Omega.{arith}
use native.Mathlib.Numerals.{add-one}
use native.Mathlib.Nat.{le_of_suc-le-suc, not-suc-le-zero, add-zero, zero-add, suc-add, add-suc}
use lib.ListN.{length, take, drop, get_or, get_or-append}
use lib.Seq.{get_or-append-add}
use lib.Dec.{T, eqb, leb, ltb, eqb→eq, leb→le, ltb→lt}
use Rattle.express.specs.Tokens.Bytes.{same}
use Rattle.express.specs.Tokens.Terminal.{Fixed, symbols, reserved, among, word_terminal, symbol_terminal}
use Rattle.express.proofs.Tokens.Spelling.{same_true, same_refl}
use borrow.Author.Tests.{lt-ltb, le-ltb, ne_eqb}
use Rattle.terminals.specs.Lookup.{spellings, spelling, folded, hash, CodeOf, none, one}
use Rattle.terminals.specs.Spellings.{spelling_count, first_code, first_word, longest, slot_count, slots, text_size, text, offsets, ending_count, endings}

left : (a b : Bool) → T (a && b) → T a
left true b t = tt
left false b t = t

right : (a b : Bool) → T (a && b) → T b
right true b t = t
right false b t = absurd t

true_of : (b : Bool) → T b → b ≡ true
true_of true t = refl
true_of false t = absurd t

-- ---- a test of each entry and its number

module _ {A : Type 0} (d : A) where
  abbrev every : (ℕ → A → Bool) → ℕ → List A → Bool
  every f i [] = true
  every f i (x ∷ xs) = f i x && every f (suc i) xs

  from : (f : ℕ → A → Bool) (xs : List A) (i : ℕ) → T (every f i xs) → (k : ℕ) → k < length xs → T (f (i + k) (get_or xs k d))
  from f [] i t k h = absurd (not-suc-le-zero h)
  from f (x ∷ xs) i t zero h = subst (λ (m : ℕ). T (f m x)) (sym (add-zero i)) (left (f i x) (every f (suc i) xs) t)
  from f (x ∷ xs) i t (suc k) h =
      subst (λ (m : ℕ). T (f m (get_or xs k d))) (suc-add i k ∙ sym (add-suc i k))
      (from f xs (suc i) (right (f i x) (every f (suc i) xs) t) k (le_of_suc-le-suc h))

  each : (f : ℕ → A → Bool) (xs : List A) → T (every f 0 xs) → (k : ℕ) → k < length xs → T (f k (get_or xs k d))
  each f xs t k h = subst (λ (m : ℕ). T (f m (get_or xs k d))) (zero-add k) (from f xs 0 t k h)

abbrev of : List Fixed → List (List ℕ)
of fs = map (λ f. f.spelling) fs

abbrev code_of_word : ℕ → ℕ
code_of_word r = cond (ltb r first_word) 1 r

abbrev code_of_symbol : ℕ → ℕ
code_of_symbol r = cond (ltb r first_word) r 0

-- the hash leads to it, the text has it, its length is as said, and its code is by its number
abbrev found : ℕ → List ℕ → Bool
found k w = eqb (get_or slots (hash w) 0) (first_code + k)

abbrev lies : ℕ → List ℕ → Bool
lies k w = same (take (length w) (drop (get_or offsets (first_code + k) 0) text)) w

abbrev bounded : ℕ → List ℕ → Bool
bounded k w = eqb (get_or offsets (suc (first_code + k)) 0) (get_or offsets (first_code + k) 0 + length w)
    && (leb (get_or offsets (suc (first_code + k)) 0) text_size && leb (length w) longest)

abbrev coded : ℕ → List ℕ → Bool
coded k w = eqb (among reserved w 1) (code_of_word (first_code + k)) && eqb (among symbols w 0) (code_of_symbol (first_code + k))

-- the bit of a last byte in the entry of a first one
abbrev pub ending : ℕ → ℕ → ℕ
ending first last = get_or endings (first % ending_count) 0 / 2 ^ (last % ending_count) % 2

abbrev pub ending_of : List ℕ → ℕ
ending_of w = ending (get_or w 0 0) (get_or w (length w - 1) 0)

-- a reserved word has bytes, and the table has the last one for the first one
abbrev ended : ℕ → List ℕ → Bool
ended k w = ltb 0 (length w) && eqb (ending_of w) 1

-- a slot is empty, or has the code of a spelling
abbrev filled : ℕ → ℕ → Bool
filled h c = eqb c 0 || (leb first_code c && ltb c (first_code + spelling_count))

found_all : T (every [] found 0 spellings)
found_all = tt

lies_all : T (every [] lies 0 spellings)
unfolding same
lies_all = tt

bounded_all : T (every [] bounded 0 spellings)
bounded_all = tt

coded_all : T (every [] coded 0 spellings)
unfolding same among
coded_all = tt

ended_all : T (every [] ended 0 (of reserved))
ended_all = tt

filled_all : T (every 0 filled 0 slots)
filled_all = tt

-- ---- what the tests say of each entry

module _ (k : ℕ) (h : k < spelling_count) where
  entry_found : get_or slots (hash (spelling k)) 0 ≡ first_code + k
  entry_found = eqb→eq _ _ (each [] found spellings found_all k h)

  pub entry_text : take (length (spelling k)) (drop (get_or offsets (first_code + k) 0) text) ≡ spelling k
  entry_text = same_true _ _ (true_of _ (each [] lies spellings lies_all k h))

  abbrev start : ℕ
  start = get_or offsets (first_code + k) 0

  abbrev end : ℕ
  end = get_or offsets (suc (first_code + k)) 0

  bounds : T (eqb end (start + length (spelling k)) && (leb end text_size && leb (length (spelling k)) longest))
  bounds = each [] bounded spellings bounded_all k h

  within_bounds : T (leb end text_size && leb (length (spelling k)) longest)
  within_bounds = right (eqb end (start + length (spelling k))) _ bounds

  pub entry_ends : end ≡ start + length (spelling k)
  entry_ends = eqb→eq _ _ (left (eqb end (start + length (spelling k))) _ bounds)

  pub entry_inside : end ≤ text_size
  entry_inside = leb→le _ _ (left (leb end text_size) _ within_bounds)

  entry_short : length (spelling k) ≤ longest
  entry_short = leb→le _ _ (right (leb end text_size) _ within_bounds)

  by_code : T (coded k (spelling k))
  by_code = each [] coded spellings coded_all k h

  entry_word : among reserved (spelling k) 1 ≡ code_of_word (first_code + k)
  entry_word = eqb→eq _ _ (left (eqb (among reserved (spelling k) 1) (code_of_word (first_code + k))) _ by_code)

  entry_symbol : among symbols (spelling k) 0 ≡ code_of_symbol (first_code + k)
  entry_symbol = eqb→eq _ _ (right (eqb (among reserved (spelling k) 1) (code_of_word (first_code + k))) _ by_code)

module _ (k : ℕ) (h : k < length (of reserved)) where
  abbrev word_at : List ℕ
  word_at = get_or (of reserved) k []

  ends_there : T (ltb 0 (length word_at) && eqb (ending_of word_at) 1)
  ends_there = each [] ended (of reserved) ended_all k h

  entry_some : 0 < length word_at
  entry_some = ltb→lt _ _ (left (ltb 0 (length word_at)) _ ends_there)

  entry_ending : ending_of word_at ≡ 1
  entry_ending = eqb→eq _ _ (right (ltb 0 (length word_at)) _ ends_there)

module _ (h : ℕ) (l : h < slot_count) (some : get_or slots h 0 ≡ 0 → ⊥) where
  abbrev code_at : ℕ
  code_at = get_or slots h 0

  tested : T (leb first_code code_at && ltb code_at (first_code + spelling_count))
  tested = rw (ne_eqb code_at 0 some) at (each 0 filled slots filled_all h l)

  pub slot_filled : (first_code ≤ code_at) × (code_at < first_code + spelling_count)
  slot_filled = (leb→le _ _ (left (leb first_code code_at) _ tested), ltb→lt _ _ (right (leb first_code code_at) _ tested))

-- ---- looking up a word

differs : (v w : List ℕ) → (w ≡ v → ⊥) → same v w ≡ false
differs v w never = go (same v w) refl
  where
    go : (t : Bool) → same v w ≡ t → t ≡ false
    go true e = absurd (never (sym (same_true v w e)))
    go false e = refl

module _ (w : List ℕ) where
  miss : ((j : ℕ) → j < spelling_count → w ≡ spelling j → ⊥) → CodeOf w 0
  miss never = none (λ j h. differs (spelling j) w (never j h))

  pub miss_long : longest < length w → CodeOf w 0
  miss_long l = miss (λ j h e. absurd (omega (arith, l, ap length e, entry_short j h)))

  -- k is what the slot of w has
  module _ (k : ℕ) (is : k ≡ get_or slots (hash w) 0) where
    abbrev start_of : ℕ
    start_of = get_or offsets k 0

    abbrev size_of : ℕ
    size_of = get_or offsets (k + 1) 0 - get_or offsets k 0

    slot_of : (j : ℕ) → j < spelling_count → w ≡ spelling j → k ≡ first_code + j
    slot_of j h e = is ∙ ap (λ (v : List ℕ). get_or slots (hash v) 0) e ∙ entry_found j h

    pub miss_slot : k ≡ 0 → CodeOf w 0
    miss_slot z = miss (λ j h e. absurd (omega (arith, z, slot_of j h e)))

    pub miss_length : (size_of ≡ length w → ⊥) → CodeOf w 0
    miss_length never = miss (λ j h e. never (equal j h e))
      where
        equal : (j : ℕ) → j < spelling_count → w ≡ spelling j → size_of ≡ length w
        equal j h e = rw (add-one, slot_of j h e) (omega (arith, entry_ends j h, ap length e))

    pub miss_text : same (take (length w) (drop start_of text)) w ≡ false → CodeOf w 0
    miss_text never = miss (λ j h e. mathlib.Core.Bool.false≢true (sym never ∙ equal j h e))
      where
        equal : (j : ℕ) → j < spelling_count → w ≡ spelling j → same (take (length w) (drop start_of text)) w ≡ true
        equal j h e = rw (slot_of j h e, e, entry_text j h) (same_refl (spelling j))

    module _ (low : first_code ≤ k) (high : k < first_code + spelling_count) where
      abbrev number : ℕ
      number = k - first_code

      number_less : number < spelling_count
      number_less = omega (arith, low, high)

      k_is : first_code + number ≡ k
      k_is = omega (arith, low)

      pub ends : get_or offsets (k + 1) 0 ≡ start_of + length (spelling number)
      ends =
          rw add-one
          (subst (λ (m : ℕ). get_or offsets (suc m) 0 ≡ get_or offsets m 0 + length (spelling number)) k_is (entry_ends number number_less))

      pub text_inside : get_or offsets (k + 1) 0 ≤ text_size
      text_inside = rw add-one (subst (λ (m : ℕ). get_or offsets (suc m) 0 ≤ text_size) k_is (entry_inside number number_less))

      pub hit : size_of ≡ length w → same (take (length w) (drop start_of text)) w ≡ true → CodeOf w k
      hit long e =
          let size : length w ≡ length (spelling number) = omega (arith, long, ends) in
          let there : take (length (spelling number)) (drop start_of text) ≡ spelling number =
          subst (λ (m : ℕ). take (length (spelling number)) (drop (get_or offsets m 0) text) ≡ spelling number) k_is (entry_text number number_less) in
          let w_is : w ≡ spelling number = sym (same_true _ _ e) ∙ ap (λ (n : ℕ). take n (drop start_of text)) size ∙ there in
          subst (CodeOf w) k_is (one number number_less w_is)

-- ---- codes

among_none : (fs : List Fixed) (w : List ℕ) (d : ℕ) → ((j : ℕ) → j < length fs → same (get_or (map (λ f. f.spelling) fs) j []) w ≡ false) → among fs w d ≡ d
unfolding among
among_none [] w d never = refl
among_none (f ∷ fs) w d never = rw (never 0 (omega arith)) (among_none fs w d (λ j h. never (suc j) (omega (arith, h))))

pub word_code : (w : List ℕ) (r : ℕ) → CodeOf w r → among reserved w 1 ≡ code_of_word r
word_code w _ (none never) =
    among_none reserved w 1
    (λ j h. ap (λ (v : List ℕ). same v w) (sym (get_or-append-add (of symbols) (of reserved) j [])) ∙ never (length (of symbols) + j) (omega (arith, h)))
word_code w _ (one j h e) = ap (λ (v : List ℕ). among reserved v 1) e ∙ entry_word j h

pub symbol_code : (w : List ℕ) (r : ℕ) → CodeOf w r → among symbols w 0 ≡ code_of_symbol r
symbol_code w _ (none never) =
    among_none symbols w 0
    (λ j h. ap (λ (v : List ℕ). same v w) (sym (get_or-append (of symbols) (of reserved) [] j h)) ∙ never j (omega (arith, h)))
symbol_code w _ (one j h e) = ap (λ (v : List ℕ). among symbols v 0) e ∙ entry_symbol j h

-- ---- the same, for tables as they are lent

-- w has n bytes, and c is what its slot has
pub record Slot (sl off tx w : List ℕ) (n c : ℕ) : Type 0 where
  pub slots_are : sl ≡ slots
  pub offsets_are : off ≡ offsets
  pub text_is : tx ≡ text
  pub size : length w ≡ n
  pub slot : c ≡ get_or sl (hash w) 0

module _ {sl off tx w : List ℕ} {n c : ℕ} (a : Slot sl off tx w n c) where
  at_slot : c ≡ get_or slots (hash w) 0
  at_slot = rw (← a.slots_are) a.slot

  pub no_slot : c ≡ 0 → CodeOf w 0
  no_slot z = miss_slot w c at_slot z

  module _ (some : c ≡ 0 → ⊥) where
    bounds_of : (first_code ≤ c) × (c < first_code + spelling_count)
    bounds_of =
        let less : hash w < slot_count = omega arith in
        rw at_slot (slot_filled (hash w) less (λ z. some (at_slot ∙ z)))

    pub few : c < first_code + spelling_count
    few = bounds_of.1

    module _ (k : ℕ) (k_is : k ≡ c) where
      abbrev start_at : ℕ
      start_at = get_or off k 0

      abbrev size_at : ℕ
      size_at = get_or off (k + 1) 0 - get_or off k 0

      lies_at : get_or off (k + 1) 0 ≡ get_or off k 0 + length (spelling (c - first_code))
      lies_at = rw (a.offsets_are, k_is) (ends w c at_slot bounds_of.0 bounds_of.1)

      pub rises : get_or off k 0 ≤ get_or off (k + 1) 0
      rises = omega (arith, lies_at)

      pub no_length : (size_at ≡ n → ⊥) → CodeOf w 0
      no_length never = miss_length w c at_slot (λ e. never (rw (a.offsets_are, k_is) (e ∙ a.size)))

      module _ (long : size_at ≡ n) where
        long_is : get_or offsets (c + 1) 0 - get_or offsets c 0 ≡ length w
        long_is = rw (a.offsets_are, k_is) at long ∙ sym a.size

        pub inside : start_at + n ≤ text_size
        inside =
            let last : get_or off (k + 1) 0 ≤ text_size = rw (a.offsets_are, k_is) (text_inside w c at_slot bounds_of.0 bounds_of.1) in
            omega (arith, last, rises, long)

        abbrev there : List ℕ
        there = take n (drop start_at tx)

        there_is : there ≡ take (length w) (drop (get_or offsets c 0) text)
        there_is = rw (a.offsets_are, k_is, a.text_is, a.size)

        pub no_text : same there w ≡ false → CodeOf w 0
        no_text e = miss_text w c at_slot (ap (λ (x : List ℕ). same x w) (sym there_is) ∙ e)

        pub yes_text : same there w ≡ true → CodeOf w c
        yes_text e = hit w c at_slot bounds_of.0 bounds_of.1 long_is (ap (λ (x : List ℕ). same x w) (sym there_is) ∙ e)

-- ---- words and symbols

module _ (t : List ℕ) {r : ℕ} where
  module _ (is : CodeOf (folded true t) r) where
    pub word_low : r < first_word → 1 ≡ word_terminal t
    word_low h = sym (word_code (folded true t) r is ∙ rw (lt-ltb r first_word h))

    pub word_high : first_word ≤ r → r ≡ word_terminal t
    word_high h = sym (word_code (folded true t) r is ∙ rw (le-ltb r first_word h))

  module _ (is : CodeOf (folded false t) r) where
    pub symbol_low : r < first_word → r ≡ symbol_terminal t
    symbol_low h = sym (symbol_code t r is ∙ rw (lt-ltb r first_word h))

    pub symbol_high : first_word ≤ r → 0 ≡ symbol_terminal t
    symbol_high h = sym (symbol_code t r is ∙ rw (le-ltb r first_word h))

-- a word without bytes, or with ends that no reserved word has
pub word_other : (t : List ℕ) → (0 < length (folded true t) → ending_of (folded true t) ≡ 1 → ⊥) → 1 ≡ word_terminal t
word_other t never = sym (among_none reserved (folded true t) 1 (λ j h. differs (word_at j h) (folded true t) (none_at j h)))
  where
    none_at : (j : ℕ) (h : j < length (of reserved)) → folded true t ≡ word_at j h → ⊥
    none_at j h e = never (subst (λ (w : List ℕ). 0 < length w) (sym e) (entry_some j h)) (ap ending_of e ∙ entry_ending j h)
