-- Parsing by recursive descent: one token of lookahead picks the way, or two at a fork.
use Rattle.std.specs.Prelude.{Bool, true, false, ◌&&◌, ◌||◌, cond, List, [], ◌++◌, ℕ, zero, suc, ◌+◌, ◌-◌, ◌*◌, max, length, get_or, eqb}
use Rattle.ebnf.specs.Set.{mem}
use Rattle.ebnf.specs.Grammar.{Actions, Ebnf, none, mark, step, seq, alt, star, fork, nt}

-- The phrase can be empty. A nonterminal never is: what may be missing is written so where it is used.
abbrev pub nullable : {N : Type 0} → Ebnf N → Bool
nullable none = true
nullable (mark m) = true
nullable (step m cs a) = false
nullable (seq a b) = nullable a && nullable b
nullable (alt a b) = nullable a || nullable b
nullable (star a) = true
nullable (fork m cs ds a b) = nullable b
nullable (nt x) = false

-- Tables that go with a grammar: for each nonterminal the tokens that it can begin with, those that can make a phrase of it longer although
-- it is complete, those that can stand second in it, and how deep its parse goes before it reads a token; and a bound on all depths. The
-- check (Check.antt) holds them to the rules.
pub record Tables (N : Type 0) : Type 0 where
  pub begins : N → List ℕ
  pub goes_on : N → List ℕ
  pub seconds : N → List ℕ
  pub depth : N → ℕ
  pub bound : ℕ

module _ {N : Type 0} (T : Tables N) where
  -- the tokens that the phrase can begin with
  abbrev pub first : Ebnf N → List ℕ
  first none = []
  first (mark m) = []
  first (step m cs a) = cs
  first (seq a b) = first a ++ cond (nullable a) (first b) []
  first (alt a b) = first a ++ first b
  first (star a) = first a
  first (fork m cs ds a b) = cs ++ first b
  first (nt x) = T.begins x

  -- the tokens that can make a complete phrase longer
  abbrev pub after : Ebnf N → List ℕ
  after none = []
  after (mark m) = []
  after (step m cs a) = after a
  after (seq a b) = after b ++ cond (nullable b) (after a) []
  after (alt a b) = after a ++ (after b ++ cond (nullable b) (first a) [])
  after (star a) = first a ++ after a
  after (fork m cs ds a b) = after a ++ (after b ++ ds)
  after (nt x) = T.goes_on x

  -- the tokens that can stand second in the phrase
  abbrev pub second : Ebnf N → List ℕ
  second none = []
  second (mark m) = []
  second (step m cs a) = first a
  second (seq a b) = second a ++ (first b ++ cond (nullable a) (second b) [])
  second (alt a b) = second a ++ second b
  second (star a) = second a ++ first a
  second (fork m cs ds a b) = ds ++ second b
  second (nt x) = T.seconds x

  -- how deep the parse goes before it reads a token
  abbrev pub depth_of : Ebnf N → ℕ
  depth_of none = 1
  depth_of (mark m) = 1
  depth_of (step m cs a) = 1
  depth_of (seq a b) = suc (max (depth_of a) (cond (nullable a) (depth_of b) 0))
  depth_of (alt a b) = suc (max (depth_of a) (depth_of b))
  depth_of (star a) = suc (depth_of a)
  depth_of (fork m cs ds a b) = suc (depth_of b)
  depth_of (nt x) = T.depth x

-- What the parse of a phrase comes to: the place after it, with the value; the place of the token that cannot stand; or no fuel.
pub data Result (W : Type 0) : Type 0 where
  at : ℕ → W → Result W
  refused : ℕ → Result W
  starved : Result W

abbrev pub bind : {W : Type 0} → Result W → (ℕ → W → Result W) → Result W
bind (at j s) k = k j s
bind (refused k) f = refused k
bind starved f = starved

module _ (A : Actions) {N : Type 0} (rules : N → Ebnf N) (T : Tables N) (ts : List ℕ) where
  -- Parse by e from i on, where the value of the rule around is r. The first number is fuel: the equations without it are in proofs/Descent.antt.
  unfoldable pub descend : ℕ → Ebnf N → ℕ → A.Value → Result A.Value
  descend zero e i r = starved
  descend (suc n) none i r = at i r
  descend (suc n) (mark m) i r = at i (A.close m r)
  descend (suc n) (step m cs a) i r =
      let x = bind (descend n a (suc i) r) (λ j s. at j (A.stamp m i s)) in cond (mem (get_or ts i 0) cs) x (refused i)
  descend (suc n) (seq a b) i r = bind (descend n a i r) (λ j s. descend n b j s)
  descend (suc n) (alt a b) i r =
      let x = descend n a i r in let y = descend n b i r in cond (mem (get_or ts i 0) (first T a)) x y
  descend (suc n) (star a) i r =
      let x = bind (descend n a i r) (λ j s. descend n (star a) j s) in cond (mem (get_or ts i 0) (first T a)) x (at i r)
  descend (suc n) (fork m cs ds a b) i r =
      let x = descend n a (suc (suc i)) (A.stamp m i r) in
      let y = descend n b i r in
      cond (mem (get_or ts i 0) cs && mem (get_or ts (suc i) 0) ds) x y
  descend (suc n) (nt x) i r = bind (descend n (rules x) i (A.start i)) (λ j s. at j (A.join r s))

-- fuel for the tokens from i on, with B for each
unfoldable pub budget : ℕ → List ℕ → ℕ → ℕ
budget B ts i = (length ts - i) * B

-- The verdict on a whole list: its value, or the first token that cannot stand (the length, where the input stops early).
pub data Verdict (W : Type 0) : Type 0 where
  accepted : W → Verdict W
  refused_at : ℕ → Verdict W

-- the verdict on a list of length l: what is left over cannot stand
abbrev pub verdict : {W : Type 0} → ℕ → Result W → Verdict W
verdict l (at j s) = cond (eqb j l) (accepted s) (refused_at j)
verdict l (refused k) = refused_at k
verdict l starved = refused_at 0

module _ (A : Actions) {N : Type 0} (rules : N → Ebnf N) (T : Tables N) (x : N) where
  -- the parse of a whole list as a text of x
  unfoldable pub parse : List ℕ → Verdict A.Value
  parse ts = verdict (length ts) (descend A rules T ts (budget T.bound ts 0 + T.depth x) (nt x) 0 (A.start 0))
