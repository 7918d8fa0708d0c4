-- Comparing two things, and lists of them.
use Rattle.std.specs.Prelude.{◌≡◌, List, [], ◌∷◌}
use Prim.Native.Nat.{Ordering}

-- the first of two orders that tells a difference
abbrev pub then : Ordering → Ordering → Ordering
then Ordering.lt o = Ordering.lt
then Ordering.eq o = o
then Ordering.gt o = Ordering.gt

-- the order of two things exchanged
abbrev pub opposite : Ordering → Ordering
opposite Ordering.lt = Ordering.gt
opposite Ordering.eq = Ordering.eq
opposite Ordering.gt = Ordering.lt

module _ {A : Type 0} where
  -- lists from the left, by an order of their elements; a proper prefix is less
  unfoldable pub compare_lists : (A → A → Ordering) → List A → List A → Ordering
  compare_lists c [] [] = Ordering.eq
  compare_lists c [] (y ∷ ys) = Ordering.lt
  compare_lists c (x ∷ xs) [] = Ordering.gt
  compare_lists c (x ∷ xs) (y ∷ ys) = let rest = compare_lists c xs ys in then (c x y) rest

  -- What makes a comparison one of a total order: exchanged operands have the opposite order, only a thing itself compares as the same, and what is
  -- less than something less is less.
  pub record Total (c : A → A → Ordering) : Type 0 where
    pub exchanged : (x y : A) → opposite (c x y) ≡ c y x
    pub itself : (x : A) → c x x ≡ Ordering.eq
    pub same : (x y : A) → c x y ≡ Ordering.eq → x ≡ y
    pub trans : (x y z : A) → c x y ≡ Ordering.lt → c y z ≡ Ordering.lt → c x z ≡ Ordering.lt
