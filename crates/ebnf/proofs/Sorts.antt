-- Sets of sorts: a sort of node is a kind and a role.
use mathlib.Core.Bool.{Bool, true, false, ◌&&◌, false≢true, ◌||◌}
use mathlib.Core.List.{List, [], ◌∷◌}
use mathlib.Core.Logic.{⊎_elim}
use mathlib.Core.Path.{◌≡◌, refl}
use Prim.Native.Nat.{ℕ}
use lib.Dec.{eqb}
use borrow.Author.Tests.{eqb-true, eq-eqb}
use Rattle.ebnf.proofs.Sets.{and_split, or_split}

pub record Sort : Type 0 where
  pub kind : ℕ
  pub role : ℕ

abbrev pub sort : ℕ → ℕ → Sort
sort k o = record { kind = k; role = o }

-- a node of kind k and role o is of one of the sorts
unfoldable pub of_sorts : ℕ → ℕ → List Sort → Bool
of_sorts k o [] = false
of_sorts k o (s ∷ ss) = (eqb k s.kind && eqb o s.role) || of_sorts k o ss

-- each sort passes the test
unfoldable pub every : (ℕ → ℕ → Bool) → List Sort → Bool
every p [] = true
every p (s ∷ ss) = p s.kind s.role && every p ss

-- each sort of the first is in the second
abbrev pub sorts_within : List Sort → List Sort → Bool
sorts_within ss ts = every (λ k o. of_sorts k o ts) ss

pub of_itself : (k o : ℕ) → of_sorts k o (sort k o ∷ []) ≡ true
unfolding of_sorts
of_itself k o = rw (eq-eqb k k refl, eq-eqb o o refl)

-- what passes for every sort passes for each that is of-sorts them
pub every_of : (p : ℕ → ℕ → Bool) (ss : List Sort) (k o : ℕ) → every p ss ≡ true → of_sorts k o ss ≡ true → p k o ≡ true
unfolding of_sorts every
every_of p [] k o e h = absurd (false≢true h)
every_of p (s ∷ ss) k o e h =
    let q = and_split (p s.kind s.role) _ e in
    ⊎_elim
    (λ (g : (eqb k s.kind && eqb o s.role) ≡ true).
    let a = and_split (eqb k s.kind) _ g in
    rw (eqb-true k _ a.0, eqb-true o _ a.1) q.0)
    (λ g. every_of p ss k o q.1 g)
    (or_split _ _ h)
