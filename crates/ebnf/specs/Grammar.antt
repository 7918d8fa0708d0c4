-- A grammar in extended Backus-Naur form as a value, and what it derives over the tokens of a list. Past the list's end each token is 0.
use Rattle.std.specs.Prelude.{◌≡◌, true, List, ℕ, suc, length, get_or, take}
use Rattle.ebnf.specs.Set.{mem}

-- What a token or a rule leaves in the tree: nothing; its place, as the naming token of the rule's next node; a node of a kind and a role
-- over all that the rule has left so far; or such a node with nothing below it.
pub data Mark : Type 0 where
  silent : Mark
  here : Mark
  node : ℕ → ℕ → Mark
  leaf : ℕ → ℕ → Mark

-- The right side of a rule over nonterminals N; a terminal is a number above 0.
pub data Ebnf (N : Type 0) : Type 0 where
  none : Ebnf N  -- nothing
  mark : Mark → Ebnf N  -- nothing, and a mark
  step : Mark → List ℕ → Ebnf N → Ebnf N  -- a token of the set, then the phrase, then the mark of the token
  seq : Ebnf N → Ebnf N → Ebnf N  -- a b
  alt : Ebnf N → Ebnf N → Ebnf N  -- a | b
  star : Ebnf N → Ebnf N  -- { a }
  fork : Mark → List ℕ → List ℕ → Ebnf N → Ebnf N → Ebnf N  -- c d a | b, where b too may begin with c: the second token decides
  nt : N → Ebnf N

-- What a derivation makes as it goes: the value of a rule that begins at a token; a rule's value behind that of the rule around it; the
-- value after a token with a mark; and after a mark without a token.
pub record Actions : Type 1 where
  pub Value : Type 0
  pub start : ℕ → Value
  pub join : Value → Value → Value
  pub stamp : Mark → ℕ → Value → Value
  pub close : Mark → Value → Value

module _ (A : Actions) {N : Type 0} (rules : N → Ebnf N) where
  -- `Derives ts e i r j s`: e derives the tokens of ts from i up to j; the value of the rule around is r before it and s after it.
  pub data Derives (ts : List ℕ) : Ebnf N → ℕ → A.Value → ℕ → A.Value → Type 0 where
    nothing : {i : ℕ} {r : A.Value} → Derives ts none i r i r
    marked : {m : Mark} {i : ℕ} {r : A.Value} → Derives ts (mark m) i r i (A.close m r)
    token : {m : Mark} {cs : List ℕ} {a : Ebnf N} {i j : ℕ} {r s : A.Value} →
        mem (get_or ts i 0) cs ≡ true → Derives ts a (suc i) r j s → Derives ts (step m cs a) i r j (A.stamp m i s)
    both : {a b : Ebnf N} {i j k : ℕ} {r s t : A.Value} →
        Derives ts a i r j s → Derives ts b j s k t → Derives ts (seq a b) i r k t
    left : {a b : Ebnf N} {i j : ℕ} {r s : A.Value} → Derives ts a i r j s → Derives ts (alt a b) i r j s
    right : {a b : Ebnf N} {i j : ℕ} {r s : A.Value} → Derives ts b i r j s → Derives ts (alt a b) i r j s
    stop : {a : Ebnf N} {i : ℕ} {r : A.Value} → Derives ts (star a) i r i r
    more : {a : Ebnf N} {i j k : ℕ} {r s t : A.Value} →
        Derives ts a i r j s → Derives ts (star a) j s k t → Derives ts (star a) i r k t
    label : {m : Mark} {cs ds : List ℕ} {a b : Ebnf N} {i j : ℕ} {r s : A.Value} →
        mem (get_or ts i 0) cs ≡ true → mem (get_or ts (suc i) 0) ds ≡ true →
        Derives ts a (suc (suc i)) (A.stamp m i r) j s → Derives ts (fork m cs ds a b) i r j s
    other : {m : Mark} {cs ds : List ℕ} {a b : Ebnf N} {i j : ℕ} {r s : A.Value} →
        Derives ts b i r j s → Derives ts (fork m cs ds a b) i r j s
    rule : {x : N} {i j : ℕ} {r s : A.Value} → Derives ts (rules x) i (A.start i) j s → Derives ts (nt x) i r j (A.join r s)

  module _ (x : N) where
    -- The whole list is a text of x, with this value.
    abbrev pub Text : List ℕ → A.Value → Type 0
    Text ts s = Derives ts (nt x) 0 (A.start 0) (length ts) s

    -- The first n tokens begin some text of x. (With n above the length: the list is itself a text.)
    abbrev pub Begins : List ℕ → ℕ → Type 0
    Begins ts n = (us : List ℕ) × (take n us ≡ take n ts) × (s : A.Value) × Text us s

    -- The token at k is the first that cannot stand: the tokens before it begin some text, those up to and including it begin none. (With
    -- k the length: the list begins a text and is none, so the input stops early.)
    abbrev pub Stuck : List ℕ → ℕ → Type 0
    Stuck ts k = Begins ts k × (¬ (Begins ts (suc k)))
