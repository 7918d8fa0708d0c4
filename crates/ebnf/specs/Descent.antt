-- The parse with fuel that is enough, and as recursive descent: what a rule comes to, token by token, in terms of what its nonterminals and
-- repetitions come to. (proofs/Descent.antt: they are what they come to by this.)
use Rattle.std.specs.Prelude.{◌&&◌, cond, List, ℕ, suc, ◌+◌, get_or}
use Rattle.ebnf.specs.Set.{mem}
use Rattle.ebnf.specs.Grammar.{Ebnf, none, mark, step, seq, alt, star, fork, nt, Actions}
use Rattle.ebnf.specs.Parse.{Tables, first, depth_of, Result, refused, bind, descend, budget}

module _ (A : Actions) {N : Type 0} (rules : N → Ebnf N) (T : Tables N) (ts : List ℕ) where
  -- what e comes to at i, where the value of the rule around is r
  unfoldable pub parsed : Ebnf N → ℕ → A.Value → Result A.Value
  parsed e i r = descend A rules T ts (budget T.bound ts i + depth_of T e) e i r

  -- what the rule of x comes to at i
  unfoldable pub phrase : N → ℕ → Result A.Value
  phrase x i = parsed (rules x) i (A.start i)

  -- what a repetition comes to
  unfoldable pub repeat : Ebnf N → ℕ → A.Value → Result A.Value
  repeat a i r = parsed (star a) i r

  -- what e comes to at i, with what follows it
  abbrev pub run : Ebnf N → ℕ → A.Value → (ℕ → A.Value → Result A.Value) → Result A.Value
  run none i r k = k i r
  run (mark m) i r k = k i (A.close m r)
  run (step m cs a) i r k = cond (mem (get_or ts i 0) cs) (run a (suc i) r (λ j s. k j (A.stamp m i s))) (refused i)
  run (seq a b) i r k = run a i r (λ j s. run b j s k)
  run (alt a b) i r k = cond (mem (get_or ts i 0) (first T a)) (run a i r k) (run b i r k)
  run (star a) i r k = bind (repeat a i r) k
  run (fork m cs ds a b) i r k =
      cond (mem (get_or ts i 0) cs && mem (get_or ts (suc i) 0) ds) (run a (suc (suc i)) (A.stamp m i r) k) (run b i r k)
  run (nt x) i r k = bind (phrase x i) (λ j s. k j (A.join r s))
