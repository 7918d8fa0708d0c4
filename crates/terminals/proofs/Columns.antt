-- The terminal of a token by its kind, and the loop over the tokens.
use mathlib.Core.Path.{◌≡◌, refl, sym, ap, ◌∙◌}
use mathlib.Core.List.{List, [], ◌∷◌}
use Prim.Native.Nat.{ℕ, ◌+◌, ◌≤◌, ◌<◌, min}
use native.Mathlib.Numerals.{add-one}
use native.Mathlib.Omega.{arith}
use native.Mathlib.Decide.{dec_lt}
use lib.ListN.{length, take, drop, get_or, set, length-set, drop_of_length-le}
use lib.Seq.{sets, drop-cons}
use borrow.Author.Tests.{eq-eqb, ne_eqb, le-leb, lt-leb}
use Rattle.express.specs.Tokens.Terminal.{word_terminal, symbol_terminal, terminal_of, terminals}

module _ (kind : ℕ) (t : List ℕ) where
  pub of_word : kind ≡ 1 → terminal_of kind t ≡ word_terminal t
  unfolding terminal_of
  of_word e = rw (eq-eqb _ _ e)

  module _ (n1 : kind ≡ 1 → ⊥) where
    pub of_symbol : kind ≡ 6 → terminal_of kind t ≡ symbol_terminal t
    unfolding terminal_of
    of_symbol e = rw (ne_eqb _ _ n1, eq-eqb _ _ e)

    module _ (n6 : kind ≡ 6 → ⊥) where
      pub of_none : kind < 2 → terminal_of kind t ≡ 0
      unfolding terminal_of
      of_none h = rw (ne_eqb _ _ n1, ne_eqb _ _ n6, lt-leb _ _ h)

      module _ (h : 2 ≤ kind) where
        pub of_other : 5 < kind → terminal_of kind t ≡ 0
        unfolding terminal_of
        of_other l = rw (ne_eqb _ _ n1, ne_eqb _ _ n6, le-leb _ _ h, lt-leb _ _ l)

        pub of_literal : kind ≤ 5 → terminal_of kind t ≡ kind
        unfolding terminal_of
        of_literal l = rw (ne_eqb _ _ n1, ne_eqb _ _ n6, le-leb _ _ h, le-leb _ _ l)

-- a symbol of one byte, by that byte
pub of_byte : (b x r : ℕ) → b ≡ x → r ≡ symbol_terminal (x ∷ []) → r ≡ symbol_terminal (b ∷ [])
of_byte b x r e is = is ∙ ap (λ (y : ℕ). symbol_terminal (y ∷ [])) (sym e)

-- the terminals from i on, over the column as it is, give what all of them give over the column as it was
pub record Progress (src ks ps ns c₀ c : List ℕ) (i : ℕ) : Type 0 where
  pub kept : length c ≡ length c₀
  pub is : sets c i (terminals src (drop i ks) (drop i ps) (drop i ns)) ≡ sets c₀ 0 (terminals src ks ps ns)

pub progress_first : (src ks ps ns c : List ℕ) → Progress src ks ps ns c c 0
progress_first src ks ps ns c = record { kept = refl; is = refl }

module _ {src ks ps ns c₀ c : List ℕ} {i : ℕ} (p : Progress src ks ps ns c₀ c i) where
  pub no_kind : length ks ≤ i → c ≡ sets c₀ 0 (terminals src ks ps ns)
  unfolding terminals
  no_kind h = let over : sets c i (terminals src (drop i ks) (drop i ps) (drop i ns)) ≡ c = rw (drop_of_length-le ks h) in sym over ∙ p.is

  module _ (k : i < length ks) where
    cut : (y : List ℕ) → i < length y → drop i y ≡ get_or y i 0 ∷ drop (i + 1) y
    cut y h = rw (add-one, drop-cons y i 0)

    pub no_start : length ps ≤ i → c ≡ sets c₀ 0 (terminals src ks ps ns)
    unfolding terminals
    no_start h = let over : sets c i (terminals src (drop i ks) (drop i ps) (drop i ns)) ≡ c = rw (cut ks k, drop_of_length-le ps h) in sym over ∙ p.is

    module _ (s : i < length ps) where
      pub no_size : length ns ≤ i → c ≡ sets c₀ 0 (terminals src ks ps ns)
      unfolding terminals
      no_size h = let over : sets c i (terminals src (drop i ks) (drop i ps) (drop i ns)) ≡ c = rw (cut ks k, cut ps s, drop_of_length-le ns h) in sym over ∙ p.is

      pub one_more : (n : i < length ns) {c' : List ℕ} {start size v : ℕ} → start ≡ get_or ps i 0 → size ≡ get_or ns i 0
          → v ≡ terminal_of (get_or ks i 0) (take size (drop start src)) → c' ≡ set c i v → Progress src ks ps ns c₀ c' (i + 1)
      unfolding terminals
      one_more n {c'} {start} {size} {v} s_is n_is v_is c_is =
          let t : v ≡ terminal_of (get_or ks i 0) (take (get_or ns i 0) (drop (get_or ps i 0) src)) = rw (← s_is, ← n_is) v_is in
          let step : sets c i (terminals src (drop i ks) (drop i ps) (drop i ns)) ≡ sets (set c i v) (i + 1) (terminals src (drop (i + 1) ks) (drop (i + 1) ps) (drop (i + 1) ns)) =
          rw (cut ks k, cut ps s, cut ns n, ← t, add-one) in
          rw c_is (record { kept = length-set c i v ∙ p.kept; is = sym step ∙ p.is })

  -- past the end of a column there is none
  pub no_more : min (length ks) (min (length ps) (length ns)) ≤ i → c ≡ sets c₀ 0 (terminals src ks ps ns)
  no_more h = by (dec_lt i (length ks)) (dec_lt i (length ps))
    where
      by : Dec (i < length ks) → Dec (i < length ps) → c ≡ sets c₀ 0 (terminals src ks ps ns)
      by (no k) _ = no_kind (omega (arith, k))
      by (yes k) (no s) = no_start k (omega (arith, s))
      by (yes k) (yes s) = no_size k s (omega arith)
