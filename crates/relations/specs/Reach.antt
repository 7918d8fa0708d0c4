-- What is reached over one or more edges.
use Rattle.std.specs.Prelude.{Bool, cond, ◌&&◌, ℕ, eqb}
use mathlib.Core.List.{List, [], ◌∷◌, map, flat_map, Memᴰ}
use Rattle.relations.specs.Select.{keep, any}

-- for the reader, over any relation; a vertex lies on a cycle when it reaches itself
pub data Reaches (E : ℕ → ℕ → Type 0) : ℕ → ℕ → Type 0 where
  direct : {a b : ℕ} → E a b → Reaches E a b
  onward : {a b c : ℕ} → E a b → Reaches E b c → Reaches E a c

pub record Edge : Type 0 where
  pub from : ℕ
  pub to : ℕ

abbrev pub edge : ℕ → ℕ → Edge
edge a b = record { from = a; to = b }

-- the relation that a list of edges is
abbrev pub Joins : List Edge → ℕ → ℕ → Type 0
Joins es a b = Memᴰ (edge a b) es

abbrev pub has : List Edge → Edge → Bool
has es e = any (λ f. eqb f.from e.from && eqb f.to e.to) es

-- edges and those of a further list that are not among them yet
unfoldable pub added : List Edge → List Edge → List Edge
added es [] = es
added es (e ∷ new) = let rest = added es new in cond (has rest e) rest (e ∷ rest)

-- a vertex and all that reach it; a vertex and all that it reaches
abbrev pub sources : List Edge → ℕ → List ℕ
sources es a = a ∷ map (λ (e : Edge). e.from) (keep (λ e. eqb e.to a) es)

abbrev pub targets : List Edge → ℕ → List ℕ
targets es b = b ∷ map (λ (e : Edge). e.to) (keep (λ e. eqb e.from b) es)

-- computed, an edge at a time: an edge joins all that reach its start to all that its end reaches
unfoldable pub closure : List Edge → List Edge
closure [] = []
closure (e ∷ es) =
    let c = closure es in
    added c (flat_map (λ a. map (edge a) (targets c e.to)) (sources c e.from))

-- the same as `Reaches (Joins es)`: `reaches_iff` of proofs/Reach
abbrev pub reaches : List Edge → ℕ → ℕ → Bool
reaches es a b = has (closure es) (edge a b)
