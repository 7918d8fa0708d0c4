-- A limit on nesting (G28, G29): the parse stops at the first bracket that would nest too deep.
use Rattle.std.specs.Prelude.{◌&&◌, cond, true, ◌≡◌, List, [], ◌∷◌, ℕ, zero, suc, ◌-◌, ◌≤◌, ◌<◌, get_or, take, leb}
use Rattle.std.proofs.Math.Option.{Option, some, none as nowhere}
use Rattle.ebnf.specs.Set.{mem}
use Rattle.ebnf.specs.Grammar.{Actions, Ebnf, Text, Begins, Stuck}
use Rattle.ebnf.specs.Parse.{Tables, Verdict, accepted, refused_at, parse}

abbrev pub next : Option ℕ → Option ℕ
next (some k) = some (suc k)
next nowhere = nowhere

module _ (opening closing : List ℕ) where
  -- how many brackets are open after one more token
  abbrev pub opened : ℕ → ℕ → ℕ
  opened d c = cond (mem c opening) (suc d) (cond (mem c closing) (d - 1) d)

  -- how many are open before the token at n, where d are at the start
  abbrev pub open_at : ℕ → List ℕ → ℕ → ℕ
  open_at d ts zero = d
  open_at d [] (suc n) = d
  open_at d (c ∷ ts) (suc n) = open_at (opened d c) ts n

  module _ (limit : ℕ) where
    -- The token at n opens one more than the limit allows.
    abbrev pub DeepFrom : ℕ → List ℕ → ℕ → Type 0
    DeepFrom d ts n = (mem (get_or ts n 0) opening ≡ true) × (limit ≤ open_at d ts n)

    abbrev pub Deep : List ℕ → ℕ → Type 0
    Deep ts n = DeepFrom 0 ts n

    -- the first such token
    unfoldable pub first_deep : ℕ → List ℕ → Option ℕ
    first_deep d [] = nowhere
    first_deep d (c ∷ ts) = let o = next (first_deep (opened d c) ts) in cond (mem c opening && leb limit d) (some 0) o

-- What is said of a list: its value, the first token that cannot stand, or the first that nests too deep.
pub data Outcome (W : Type 0) : Type 0 where
  good : W → Outcome W
  unexpected : ℕ → Outcome W
  too_deep : ℕ → Outcome W

-- of a list that has no token too deep
abbrev pub uncut : {W : Type 0} → Verdict W → Outcome W
uncut (accepted s) = good s
uncut (refused_at j) = unexpected j

-- of a list that was cut behind the first token too deep, at k
abbrev pub cut_at : {W : Type 0} → ℕ → Verdict W → Outcome W
cut_at k (accepted s) = too_deep k
cut_at k (refused_at j) = cond (leb j k) (unexpected j) (too_deep k)

module _ (A : Actions) {N : Type 0} (rules : N → Ebnf N) (T : Tables N) (x : N) where
  -- the outcome of the tokens up to and including the first that is too deep, if there is one
  abbrev pub outcome_to : Option ℕ → List ℕ → Outcome A.Value
  outcome_to nowhere ts = uncut (parse A rules T x ts)
  outcome_to (some k) ts = cut_at k (parse A rules T x (take (suc k) ts))

  abbrev pub outcome : List ℕ → List ℕ → ℕ → List ℕ → Outcome A.Value
  outcome opening closing limit ts = outcome_to (first_deep opening closing limit 0 ts) ts

module _ (A : Actions) {N : Type 0} (rules : N → Ebnf N) (x : N) (opening closing : List ℕ) (limit : ℕ) where
  -- WHAT AN OUTCOME SAYS, without a cut: a text with no token too deep; the first token that cannot stand, and none before it is too
  -- deep; the first token that is too deep, and the tokens up to and including it begin some text.
  abbrev pub Says : List ℕ → Outcome A.Value → Type 0
  Says ts (good s) = Text A rules x ts s × ((m : ℕ) → ¬ (Deep opening closing limit ts m))
  Says ts (unexpected j) = Stuck A rules x ts j × ((m : ℕ) → m < j → ¬ (Deep opening closing limit ts m))
  Says ts (too_deep k) =
      (Begins A rules x ts (suc k) × Deep opening closing limit ts k) × ((m : ℕ) → m < k → ¬ (Deep opening closing limit ts m))
