-- Symbols: `:=` and `:=:`, told from the rest by their first two bytes.
use mathlib.Core.Path.{◌≡◌, refl}
use mathlib.Core.Bool.{Bool, true, false, cond, ◌&&◌}
use mathlib.Core.List.{List}
use Prim.Native.Nat.{ℕ, ◌+◌}
use lib.Dec.{T, eqb, eqb→eq}
use lib.ListN.{get_or}
use Rattle.express.specs.Tokens.Lexis.{at, refused, pair, lone, size_of_symbol, end_of_symbol}

pair_is : (x y b c : ℕ) → pair x y b c ≡ true → (b ≡ x) × (c ≡ y)
pair_is x y b c e = go (eqb b x) (eqb c y) (eqb→eq b x) (eqb→eq c y) e
  where
    go : (l r : Bool) → (T l → b ≡ x) → (T r → c ≡ y) → (l && r) ≡ true → (b ≡ x) × (c ≡ y)
    go true true f g q = (f tt, g tt)
    go true false f g q = absurd (mathlib.Core.Bool.false≢true q)
    go false r f g q = absurd (mathlib.Core.Bool.false≢true q)

module _ (s : List ℕ) (p c d : ℕ) (c_is : c ≡ get_or s (p + 1) 0) (assigns : pair 58 61 (get_or s p 0) c ≡ true) (d_is : d ≡ get_or s (p + 2) 0) where
  pub assign_is : at (p + cond (eqb d 58) 3 2) ≡ end_of_symbol s p
  unfolding end_of_symbol size_of_symbol lone
  assign_is =
      let both = pair_is 58 61 (get_or s p 0) c assigns in
      rw (← c_is, ← d_is, both.0, both.1) (go (eqb d 58))
    where
      go : (x : Bool) → at (p + cond x 3 2) ≡ cond (eqb (cond x 3 2) 0) (refused 2 p) (at (p + cond x 3 2))
      go true = refl
      go false = refl
