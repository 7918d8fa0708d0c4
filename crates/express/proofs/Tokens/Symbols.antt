-- What is read as a symbol is one, and no longer symbol stands there.
use mathlib.Core.Path.{◌≡◌, refl, sym, ap, ◌∙◌, subst}
use mathlib.Core.Bool.{Bool, true, false, cond, not, ◌&&◌, ◌||◌, false≢true}
use mathlib.Core.Logic.{◌⊎◌, inl, inr}
use mathlib.Core.List.{List, [], ◌∷◌, ◌++◌}
use Prim.Native.Nat.{ℕ, zero, suc, ◌≤◌, ◌<◌}
use native.Mathlib.Omega.{arith}
use native.Mathlib.Decide.{dec_lt}
use borrow.Author.Tests.{eq-eqb, eqb-true, leb-true}
use lib.ListN.{length, take, drop, get_or, take-append-drop}
use lib.Dec.{T, eqb, leb, leb→le}
use Rattle.express.specs.Tokens.Bytes.{within, same}
use Rattle.express.specs.Tokens.Lexis.{lone, size_of_symbol, pair, either}
use Rattle.express.specs.Tokens.Terminal.{Fixed, symbols, among, symbol_terminal}
use Rattle.express.proofs.Tokens.Places.{cond_ge, and_false}
use Rattle.relations.proofs.Select.{and_fst, and_snd}
use Rattle.express.proofs.Tokens.Spelling.{same_true}

-- how many bytes of a text are read as a symbol
abbrev pub read : List ℕ → ℕ
read t = size_of_symbol (get_or t 0 0) (get_or t 1 0) (get_or t 2 0) (get_or t 3 0)

abbrev All : (Fixed → Type 0) → List Fixed → Type 0
All P [] = Unit {0}
All P (f ∷ fs) = P f × All P fs

-- a text that begins with this symbol is read as far as it goes, or further
abbrev Covers : Fixed → Type 0
Covers f = (rest : List ℕ) → length f.spelling ≤ read (f.spelling ++ rest)

lit : {m n : ℕ} → T (leb m n) → m ≤ n
lit {m} {n} t = leb→le m n t

-- where the symbol begins a longer one, by the bytes behind it
covered : All Covers symbols
unfolding size_of_symbol lone
covered = (
  λ r. lit tt,
  (
    λ r. lit tt,
    (
      λ r. lit tt,
      (
        λ r. lit tt,
        (
          λ r. cond_ge (eqb (get_or r 0 0) 61) (cond_ge (eqb (get_or r 1 0) 58) (lit tt) (lit tt)) (cond_ge (pair 60 62 (get_or r 0 0) (get_or r 1 0) && eqb (get_or r 2 0) 58) (lit tt) (lit tt)),  -- `:`
          (
            λ r. cond_ge (eqb (get_or r 0 0) 42) (lit tt) (lit tt),  -- `*`
            (
              λ r. lit tt,
              (
                λ r. lit tt,
                (
                  λ r. lit tt,
                  (
                    λ r. lit tt,
                    (
                      λ r. lit tt,
                      (
                        λ r. cond_ge (eqb (get_or r 0 0) 61 || either 62 42 (get_or r 0 0)) (lit tt) (lit tt),  -- `<`
                        (
                          λ r. cond_ge (eqb (get_or r 0 0) 61) (lit tt) (lit tt),  -- `>`
                          (
                            λ r. lit tt,
                            (
                              λ r. lit tt,
                              (
                                λ r. lit tt,
                                (
                                  λ r. lit tt,
                                  (
                                    λ r. cond_ge (eqb (get_or r 0 0) 124) (lit tt) (lit tt),  -- `|`
                                    (
                                      λ r. lit tt,
                                      (
                                        λ r. lit tt,
                                        (
                                          λ r. lit tt,
                                          (
                                            λ r. lit tt,
                                            (
                                              λ r. lit tt,
                                              (
                                                λ r. lit tt,
                                                (
                                                  λ r. cond_ge (eqb (get_or r 0 0) 58) (lit tt) (lit tt),  -- `:=`
                                                  (λ r. lit tt, (λ r. lit tt, (λ r. lit tt, (λ r. lit tt, tt)))),
                                                ),
                                              ),
                                            ),
                                          ),
                                        ),
                                      ),
                                    ),
                                  ),
                                ),
                              ),
                            ),
                          ),
                        ),
                      ),
                    ),
                  ),
                ),
              ),
            ),
          ),
        ),
      ),
    ),
  ),
)

-- what is in the table is one of its entries
one_of : (P : Fixed → Type 0) (fs : List Fixed) (w : List ℕ) (Q : Type 0) → All P fs → (among fs w 0 ≡ 0 → ⊥) → ((f : Fixed) → P f → w ≡ f.spelling → Q) → Q
unfolding among
one_of P [] w Q all some with_it = absurd (some refl)
one_of P (f ∷ fs) w Q (p, all) some with_it = go (λ more. one_of P fs w Q all more with_it) (same f.spelling w) refl some
  where
    go : ((among fs w 0 ≡ 0 → ⊥) → Q) → (t : Bool) → same f.spelling w ≡ t → (cond t f.code (among fs w 0) ≡ 0 → ⊥) → Q
    go rest true e l = with_it f p (sym (same_true f.spelling w e))
    go rest false e l = rest l

pub longest_wins : (t : List ℕ) (n : ℕ) → (symbol_terminal (take n t) ≡ 0 → ⊥) → length (take n t) ≤ read t
longest_wins t n some =
    one_of Covers symbols (take n t) (length (take n t) ≤ read t) covered some
    (λ f c e.
    let whole : f.spelling ++ drop n t ≡ t = ap (λ (w : List ℕ). w ++ drop n t) (sym e) ∙ take-append-drop n t in
    rw e (subst (λ (x : List ℕ). length f.spelling ≤ read x) whole (c (drop n t))))

-- ---- and what is read is a symbol

-- a test of every number below n
abbrev upto : (ℕ → Bool) → ℕ → Bool
upto f zero = true
upto f (suc n) = f n && upto f n

below : (f : ℕ → Bool) (n : ℕ) → upto f n ≡ true → (k : ℕ) → k < n → f k ≡ true
below f zero t k h = absurd (omega (arith, h))
below f (suc n) t k h = go (λ l. below f n (and_snd (f n) (upto f n) t) k l) (dec_lt k n)
  where
    go : (k < n → f k ≡ true) → Dec (k < n) → f k ≡ true
    go more (yes l) = more l
    go more (no g) = let e : k ≡ n = omega (arith, g, h) in ap f e ∙ and_fst (f n) (upto f n) t

-- n bytes of a text are a symbol
abbrev pub Symbol : ℕ → List ℕ → Type 0
Symbol n t = symbol_terminal (take n t) ≡ 0 → ⊥

-- a lone symbol is a byte
lone_byte : (b : ℕ) → lone b ≡ true → b < 256
unfolding lone
lone_byte b e =
    or_then _ _ (one_byte 63 tt) (or_then _ _ (some_bytes 40 41 tt) (or_then _ _ (some_bytes 43 47 tt) (or_then _ _ (one_byte 59 tt)
    (or_then _ _ (one_byte 61 tt) (or_then _ _ (some_bytes 91 93 tt) (or_then _ _ (one_byte 123 tt) (one_byte 125 tt))))))) e
  where
    or_then : (x y : Bool) → (x ≡ true → b < 256) → (y ≡ true → b < 256) → x || y ≡ true → b < 256
    or_then true y f g q = f refl
    or_then false y f g q = g q

    one_byte : (k : ℕ) → T (leb (suc k) 256) → eqb b k ≡ true → b < 256
    one_byte k h q = rw (eqb-true b k q) (leb→le (suc k) 256 h)

    some_bytes : (lo hi : ℕ) → T (leb (suc hi) 256) → within lo hi b ≡ true → b < 256
    some_bytes lo hi h q = omega (arith, leb-true b hi (and_snd (leb lo b) (leb b hi) q), leb→le (suc hi) 256 h)

lone_known : (b : ℕ) (u : List ℕ) → lone b ≡ true → Symbol 1 (b ∷ u)
unfolding lone among same
lone_known b u l z = false≢true (sym (rw (l, eq-eqb (symbol_terminal (b ∷ [])) 0 z)) ∙ below (λ c. not (lone c && eqb (symbol_terminal (c ∷ [])) 0)) 256 refl b (lone_byte b l))

coded : (n k : ℕ) (t : List ℕ) → symbol_terminal (take n t) ≡ suc k → Symbol n t
coded n k t e z = absurd (omega (arith, sym e ∙ z))

-- two bytes, or the first of them alone
two : (b c : ℕ) (u : List ℕ) (t : Bool) → 0 < c → eqb (get_or u 0 0) c ≡ t → ((v : List ℕ) → Symbol 2 (b ∷ c ∷ v)) → Symbol 1 (b ∷ u) → Symbol (cond t 2 1) (b ∷ u)
two b c [] true h e both alone = absurd (omega (arith, h, eqb-true 0 c e))
two b c (x ∷ v) true h e both alone = let x_is : x ≡ c = eqb-true x c e in rw x_is (both v)
two b c u false h e both alone = alone

less_known : (u : List ℕ) (t : Bool) → (eqb (get_or u 0 0) 61 || either 62 42 (get_or u 0 0)) ≡ t → Symbol (cond t 2 1) (60 ∷ u)
unfolding among same
less_known [] true e = absurd (false≢true e)
less_known (x ∷ v) true e = go (eqb x 61) (eqb x 62) (eqb x 42) refl refl refl e
  where
    go : (p q r : Bool) → eqb x 61 ≡ p → eqb x 62 ≡ q → eqb x 42 ≡ r → (p || (q || r)) ≡ true → Symbol 2 (60 ∷ x ∷ v)
    go true q r i j k h = rw (eqb-true x 61 i) (coded 2 25 (60 ∷ 61 ∷ v) refl)
    go false true r i j k h = rw (eqb-true x 62 j) (coded 2 26 (60 ∷ 62 ∷ v) refl)
    go false false true i j k h = rw (eqb-true x 42 k) (coded 2 28 (60 ∷ 42 ∷ v) refl)
    go false false false i j k h = absurd (false≢true h)
less_known u false e = coded 1 16 (60 ∷ u) refl

colon_known : (u : List ℕ) (p q r : Bool) → eqb (get_or u 0 0) 61 ≡ p → eqb (get_or u 1 0) 58 ≡ q → (pair 60 62 (get_or u 0 0) (get_or u 1 0) && eqb (get_or u 2 0) 58) ≡ r →
    Symbol (cond p (cond q 3 2) (cond r 4 1)) (58 ∷ u)
unfolding among same
colon_known u false q false i j k = coded 1 9 (58 ∷ u) refl
colon_known [] true q r i j k = absurd (false≢true i)
colon_known (x ∷ v) true false r i j k = rw (eqb-true x 61 i) (coded 2 29 (58 ∷ 61 ∷ v) refl)
colon_known (x ∷ []) true true r i j k = absurd (false≢true j)
colon_known (x ∷ y ∷ v) true true r i j k = rw (eqb-true x 61 i, eqb-true y 58 j) (coded 3 32 (58 ∷ 61 ∷ 58 ∷ v) refl)
colon_known [] false q true i j k = absurd (false≢true k)
colon_known (x ∷ []) false q true i j k = absurd (false≢true (sym (and_false (eqb x 60)) ∙ and_fst (eqb x 60 && false) false k))
colon_known (x ∷ y ∷ []) false q true i j k = absurd (false≢true (and_snd (eqb x 60 && eqb y 62) false k))
colon_known (x ∷ y ∷ z ∷ v) false q true i j k =
    let xy = and_fst (eqb x 60 && eqb y 62) (eqb z 58) k in
    rw (eqb-true x 60 (and_fst (eqb x 60) (eqb y 62) xy), eqb-true y 62 (and_snd (eqb x 60) (eqb y 62) xy), eqb-true z 58 (and_snd (eqb x 60 && eqb y 62) (eqb z 58) k))
    (coded 4 33 (58 ∷ 60 ∷ 62 ∷ 58 ∷ v) refl)

-- what is read is a symbol, or nothing is
pub read_symbol : (b : ℕ) (u : List ℕ) → (read (b ∷ u) ≡ 0) ⊎ Symbol (read (b ∷ u)) (b ∷ u)
unfolding size_of_symbol among same
read_symbol b u = go (lone b) (eqb b 58) (eqb b 60) (eqb b 62) (eqb b 42) (eqb b 124) refl refl refl refl refl refl
  where
    size : Bool → Bool → Bool → Bool → Bool → Bool → ℕ
    size l m n o p q =
        cond l 1
        (cond m (cond (eqb (get_or u 0 0) 61) (cond (eqb (get_or u 1 0) 58) 3 2) (cond (pair 60 62 (get_or u 0 0) (get_or u 1 0) && eqb (get_or u 2 0) 58) 4 1))
        (cond n (cond (eqb (get_or u 0 0) 61 || either 62 42 (get_or u 0 0)) 2 1)
        (cond o (cond (eqb (get_or u 0 0) 61) 2 1)
        (cond p (cond (eqb (get_or u 0 0) 42) 2 1)
        (cond q (cond (eqb (get_or u 0 0) 124) 2 1) 0)))))

    go : (l m n o p q : Bool) → lone b ≡ l → eqb b 58 ≡ m → eqb b 60 ≡ n → eqb b 62 ≡ o → eqb b 42 ≡ p → eqb b 124 ≡ q → (size l m n o p q ≡ 0) ⊎ Symbol (size l m n o p q) (b ∷ u)
    go true m n o p q e f g i j k = inr (lone_known b u e)
    go false true n o p q e f g i j k = inr (rw (eqb-true b 58 f) (colon_known u (eqb (get_or u 0 0) 61) (eqb (get_or u 1 0) 58) (pair 60 62 (get_or u 0 0)
        (get_or u 1 0) && eqb (get_or u 2 0) 58) refl refl refl))
    go false false true o p q e f g i j k = inr (rw (eqb-true b 60 g) (less_known u (eqb (get_or u 0 0) 61 || either 62 42 (get_or u 0 0)) refl))
    go false false false true p q e f g i j k = inr (rw (eqb-true b 62 i) (two 62 61 u (eqb (get_or u 0 0) 61) (omega arith) refl (λ v. coded 2 27 (62 ∷ 61 ∷ v) refl) (coded 1 17 (62 ∷ u) refl)))
    go false false false false true q e f g i j k = inr (rw (eqb-true b 42 j) (two 42 42 u (eqb (get_or u 0 0) 42) (omega arith) refl (λ v. coded 2 31 (42 ∷ 42 ∷ v) refl) (coded 1 10 (42 ∷ u) refl)))
    go false false false false false true e f g i j k =
        inr (rw (eqb-true b 124 k) (two 124 124 u (eqb (get_or u 0 0) 124) (omega arith) refl (λ v. coded 2 30 (124 ∷ 124 ∷ v) refl) (coded 1 22 (124 ∷ u) refl)))
    go false false false false false false e f g i j k = inl refl
