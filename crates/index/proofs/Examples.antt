-- The definitions at work, by computation.
use mathlib.Core.Path.{◌≡◌, refl}
use mathlib.Core.List.{List, [], ◌∷◌}
use Prim.Native.Nat.{ℕ}
use Rattle.relations.specs.Select.{first_from}
use Rattle.index.specs.Dictionary.{first_with}
use Rattle.std.specs.Prelude.{Some, None}

abbrev keys : List ℕ
keys = 5 ∷ 0 ∷ 7 ∷ 5 ∷ []

-- the least entry with a key, the next one, and none after that
first : first_with keys 5 0 ≡ Some 0
unfolding first_with first_from
first = refl

second : first_with keys 5 1 ≡ Some 3
unfolding first_with first_from
second = refl

third : first_with keys 5 4 ≡ None
unfolding first_with first_from
third = refl

-- an entry without a key is not found by 0
no_key : first_with keys 0 0 ≡ None
unfolding first_with first_from
no_key = refl
