-- A string as a literal (R15): the value of the literal is the string.
use mathlib.Core.Path.{◌≡◌, refl, sym, ap, ap₂, ◌∙◌}
use mathlib.Core.Bool.{Bool, true, false, cond}
use mathlib.Core.List.{List, [], ◌∷◌, ◌++◌, flat_map}
use Prim.Native.Nat.{ℕ, ◌-◌}
use native.Mathlib.Omega.{arith}
use borrow.Author.Tests.{eqb-true}
use lib.Dec.{eqb}
use lib.ListN.{length, length-append}
use lib.Seq.{take_at}
use Rattle.express.specs.Tokens.Lexis.{quote, unpaired, string_value}
use Rattle.express.specs.Whole.Listing.{quoted_byte, literal}

-- the bytes between the outer quotes
unpaired_quoted : (s : List ℕ) → unpaired false (flat_map quoted_byte s) ≡ s
unfolding unpaired flat_map
unpaired_quoted [] = refl
unpaired_quoted (b ∷ s) = by (eqb b quote) refl (unpaired_quoted s)
  where
    by : (x : Bool) → eqb b quote ≡ x → unpaired false (flat_map quoted_byte s) ≡ s →
        unpaired false (cond x (quote ∷ quote ∷ []) (b ∷ []) ++ flat_map quoted_byte s) ≡ b ∷ s
    by true e rest = ap₂ {C = List ℕ} (λ c t. c ∷ t) (sym (eqb-true b quote e)) rest
    by false e rest = rw e (ap (λ (t : List ℕ). b ∷ t) rest)

pub literal_value : (s : List ℕ) → string_value (literal s) ≡ s
unfolding string_value
literal_value s =
    let inside = flat_map quoted_byte s in
    let long : length inside ≡ length (literal s) - 2 = omega (arith, length-append inside (quote ∷ [])) in
    ap (unpaired false) (take_at inside (quote ∷ []) (length (literal s) - 2) long) ∙ unpaired_quoted s
