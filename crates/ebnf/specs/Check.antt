-- The lookahead check: a test, computed for a given grammar and its tables, under which the parse is exact (proofs/Exact.antt).
use Rattle.std.specs.Prelude.{Bool, true, false, not, ◌&&◌, ◌||◌, ℕ, zero, suc, get_or, ltb, leb}
use Rattle.ebnf.specs.Set.{mem, disjoint, subset}
use Rattle.ebnf.specs.Grammar.{Ebnf, none, mark, step, seq, alt, star, fork, nt}
use Rattle.ebnf.specs.Parse.{nullable, Tables, first, after, second, depth_of}

module _ {N : Type 0} (T : Tables N) where
  -- Lookahead decides in e: what begins a phrase cannot go on with the one before it, alternatives begin apart, and no set has the token 0.
  abbrev pub ok : Ebnf N → Bool
  ok none = true
  ok (mark m) = true
  ok (step m cs a) = ok a && (not (mem 0 cs) && (mem (get_or cs 0 0) cs && leb (depth_of T a) T.bound))
  ok (seq a b) = ok a && (ok b && (disjoint (after T a) (first T b) && leb (depth_of T b) T.bound))
  ok (alt a b) = ok a && (ok b && (not (nullable a) && disjoint (first T a) (first T b)))
  ok (star a) = ok a && (not (nullable a) && (disjoint (after T a) (first T a) && leb (suc (depth_of T a)) T.bound))
  ok (fork m cs ds a b) =
      ok a
      && (ok b
      && (not (mem 0 cs)
      && (not (mem 0 ds)
      && (not (nullable b) && (subset cs (first T b) && (disjoint (second T b) ds && leb (depth_of T a) T.bound))))))
  ok (nt x) = true

module _ {N : Type 0} (rules : N → Ebnf N) where
  -- e derives some phrase, found n steps deep
  unfoldable pub productive : ℕ → Ebnf N → Bool
  productive zero e = false
  productive (suc n) none = true
  productive (suc n) (mark m) = true
  productive (suc n) (step m cs a) = productive n a
  productive (suc n) (seq a b) = productive n a && productive n b
  productive (suc n) (alt a b) = productive n b || productive n a
  productive (suc n) (star a) = true
  productive (suc n) (fork m cs ds a b) = productive n b
  productive (suc n) (nt x) = productive n (rules x)

  -- the test of the rule of x
  unfoldable pub passes : Tables N → ℕ → N → Bool
  passes T n x =
      ok T (rules x)
      && (not (nullable (rules x))
      && (subset (first T (rules x)) (T.begins x)
      && (subset (T.begins x) (first T (rules x))
      && (subset (second T (rules x)) (T.seconds x)
      && (subset (after T (rules x)) (T.goes_on x)
      && (not (mem 0 (T.goes_on x)) && (ltb (depth_of T (rules x)) (T.depth x) && productive n (rules x))))))))
