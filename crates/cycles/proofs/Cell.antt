-- A cell of scratch, stored: its column has it, and the other columns stay. And states that differ in some columns.
use mathlib.Core.Path.{◌≡◌, fun_ext, ◌∙◌}
use mathlib.Core.List.{List}
use Prim.Native.Nat.{ℕ, ◌+◌, ◌*◌, ◌-◌, ◌≤◌, ◌<◌}
use native.Mathlib.Omega.{arith}
use lib.ListN.{length, get_or, length-set}
use lib.Seq.{get_or-set_same, get_or-set_other}
use Rattle.cycles.specs.State.{State, cell, store, state}
use Rattle.cycles.specs.Step.{Enterable, entered, Closed}
use Rattle.cycles.specs.declared.Counts.{Counts}

pub record Put (f f' : ℕ → ℕ) (i a : ℕ) : Type 0 where
  pub at : f' i ≡ a
  pub off : (j : ℕ) → (j ≡ i → ⊥) → f' j ≡ f j

pub cell_put : (s : List ℕ) (k i a : ℕ) → 6 * i + k < length s → Put (cell s k) (cell (store s k i a) k) i a
cell_put s k i a h =
    record { at = get_or-set_same s (6 * i + k) a 0 h; off = λ j n. get_or-set_other s (6 * i + k) (6 * j + k) a 0 (λ e. n (omega arith)) }

pub cell_same : (s : List ℕ) (k i a : ℕ) → k < 6 → (k' : ℕ) → k' < 6 → (k' ≡ k → ⊥) → (j : ℕ) → cell (store s k i a) k' j ≡ cell s k' j
cell_same s k i a l k' l' n j = get_or-set_other s (6 * i + k) (6 * j + k') a 0 (λ e. n (omega arith))

-- a store, and then or before it nothing of the column
pub put_then : {f g h : ℕ → ℕ} {i a : ℕ} → Put f g i a → ((j : ℕ) → h j ≡ g j) → Put f h i a
put_then {i = i} p q = record { at = q i ∙ p.at; off = λ j n. q j ∙ p.off j n }

pub then_put : {f g h : ℕ → ℕ} {i a : ℕ} → ((j : ℕ) → g j ≡ f j) → Put g h i a → Put f h i a
then_put q p = record { at = p.at; off = λ j n. p.off j n ∙ q j }

-- ---- the state with other next arcs, and with other groups and places

abbrev pub with_arcs : State → (ℕ → ℕ) → State
with_arcs σ arcs = record { group = σ.group; place = σ.place; next_arc = arcs; stack = σ.stack; path = σ.path; bound = σ.bound }

abbrev pub closing : State → (ℕ → ℕ) → (ℕ → ℕ) → State
closing σ groups places = record { group = groups; place = places; next_arc = σ.next_arc; stack = σ.stack; path = σ.path; bound = σ.bound }

is_with_arcs : (σ σ' : State) → σ'.group ≡ σ.group → σ'.place ≡ σ.place → σ'.stack ≡ σ.stack → σ'.path ≡ σ.path → σ'.bound ≡ σ.bound → σ' ≡ with_arcs σ σ'.next_arc
is_with_arcs σ σ' g p s l b = rw (← g, ← p, ← s, ← l, ← b)

is_closing : (σ σ' : State) → σ'.next_arc ≡ σ.next_arc → σ'.stack ≡ σ.stack → σ'.path ≡ σ.path → σ'.bound ≡ σ.bound → σ' ≡ closing σ σ'.group σ'.place
is_closing σ σ' a s l b = rw (← a, ← s, ← l, ← b)

pub state_arcs : (s : List ℕ) (v e : ℕ) → state (store s 2 v e) ≡ with_arcs (state s) (cell (store s 2 v e) 2)
state_arcs s v e =
    let same = cell_same s 2 v e (omega arith) in
    is_with_arcs (state s) (state (store s 2 v e)) (fun_ext (same 0 (omega arith) (λ q. omega arith))) (fun_ext (same 1 (omega arith) (λ q. omega arith)))
    (fun_ext (same 3 (omega arith) (λ q. omega arith))) (fun_ext (same 4 (omega arith) (λ q. omega arith))) (fun_ext (same 5 (omega arith) (λ q. omega arith)))

pub state_closing : {s s' : List ℕ} {from height finished : ℕ} → Closed s s' from height finished → state s' ≡ closing (state s) (cell s' 0) (cell s' 1)
state_closing {s} {s'} z =
    is_closing (state s) (state s') (fun_ext (λ i. z.rest 2 i (omega arith) (omega arith))) (fun_ext (λ i. z.rest 3 i (omega arith) (omega arith)))
    (fun_ext (λ i. z.rest 4 i (omega arith) (omega arith))) (fun_ext (λ i. z.rest 5 i (omega arith) (omega arith)))

-- the groups and places of the open vertices from a place on
pub record ClosedBy (σ : State) (group place : ℕ → ℕ) (from height finished : ℕ) : Type 0 where
  pub group_in : (i : ℕ) → from ≤ i → i < height → group (σ.stack i) ≡ finished + 2
  pub place_in : (i : ℕ) → from ≤ i → i < height → place (σ.stack i) ≡ finished + (i - from)
  pub group_out : (v : ℕ) → ((i : ℕ) → from ≤ i → i < height → σ.stack i ≡ v → ⊥) → group v ≡ σ.group v
  pub place_out : (v : ℕ) → ((i : ℕ) → from ≤ i → i < height → σ.stack i ≡ v → ⊥) → place v ≡ σ.place v

pub closed_by : {s s' : List ℕ} {from height finished : ℕ} → Closed s s' from height finished → ClosedBy (state s) (cell s' 0) (cell s' 1) from height finished
closed_by z = record { group_in = z.group_in; place_in = z.place_in; group_out = z.group_out; place_out = z.place_out }

-- ---- a vertex entered: a store in each of the six columns

pub record Puts (σ σ' : State) (arc w : ℕ) (c : Counts) : Type 0 where
  pub in_group : Put σ.group σ'.group w 1
  pub in_place : Put σ.place σ'.place w c.height
  pub in_arcs : Put σ.next_arc σ'.next_arc w arc
  pub in_stack : Put σ.stack σ'.stack c.height w
  pub in_path : Put σ.path σ'.path c.depth c.height
  pub in_bound : Put σ.bound σ'.bound c.groups c.depth

module _ (first s : List ℕ) (w : ℕ) (c : Counts) where
  abbrev s₁ : List ℕ
  s₁ = store s 0 w 1

  abbrev s₂ : List ℕ
  s₂ = store s₁ 1 w c.height

  abbrev s₃ : List ℕ
  s₃ = store s₂ 2 w (get_or first w 0)

  abbrev s₄ : List ℕ
  s₄ = store s₃ 3 c.height w

  abbrev s₅ : List ℕ
  s₅ = store s₄ 4 c.depth c.height

  abbrev s₆ : List ℕ
  s₆ = store s₅ 5 c.groups c.depth

  l₁ : length s₁ ≡ length s
  l₁ = length-set s (6 * w + 0) 1

  l₂ : length s₂ ≡ length s
  l₂ = length-set s₁ (6 * w + 1) c.height ∙ l₁

  l₃ : length s₃ ≡ length s
  l₃ = length-set s₂ (6 * w + 2) (get_or first w 0) ∙ l₂

  l₄ : length s₄ ≡ length s
  l₄ = length-set s₃ (6 * c.height + 3) w ∙ l₃

  l₅ : length s₅ ≡ length s
  l₅ = length-set s₄ (6 * c.depth + 4) c.height ∙ l₄

  pub entered_long : length (entered first s w c) ≡ length s
  entered_long = length-set s₅ (6 * c.groups + 5) c.depth ∙ l₅

  same₁ : (k : ℕ) → k < 6 → (k ≡ 0 → ⊥) → (j : ℕ) → cell s₁ k j ≡ cell s k j
  same₁ = cell_same s 0 w 1 (omega arith)

  same₂ : (k : ℕ) → k < 6 → (k ≡ 1 → ⊥) → (j : ℕ) → cell s₂ k j ≡ cell s₁ k j
  same₂ = cell_same s₁ 1 w c.height (omega arith)

  same₃ : (k : ℕ) → k < 6 → (k ≡ 2 → ⊥) → (j : ℕ) → cell s₃ k j ≡ cell s₂ k j
  same₃ = cell_same s₂ 2 w (get_or first w 0) (omega arith)

  same₄ : (k : ℕ) → k < 6 → (k ≡ 3 → ⊥) → (j : ℕ) → cell s₄ k j ≡ cell s₃ k j
  same₄ = cell_same s₃ 3 c.height w (omega arith)

  same₅ : (k : ℕ) → k < 6 → (k ≡ 4 → ⊥) → (j : ℕ) → cell s₅ k j ≡ cell s₄ k j
  same₅ = cell_same s₄ 4 c.depth c.height (omega arith)

  same₆ : (k : ℕ) → k < 6 → (k ≡ 5 → ⊥) → (j : ℕ) → cell s₆ k j ≡ cell s₅ k j
  same₆ = cell_same s₅ 5 c.groups c.depth (omega arith)

  -- a column that is not stored into by the first stores, or by the last
  before₂ : (k : ℕ) → k < 6 → 1 ≤ k → (j : ℕ) → cell s₁ k j ≡ cell s k j
  before₂ k l h j = same₁ k l (λ e. omega arith) j

  before₃ : (k : ℕ) → k < 6 → 2 ≤ k → (j : ℕ) → cell s₂ k j ≡ cell s k j
  before₃ k l h j = same₂ k l (λ e. omega arith) j ∙ before₂ k l (omega arith) j

  before₄ : (k : ℕ) → k < 6 → 3 ≤ k → (j : ℕ) → cell s₃ k j ≡ cell s k j
  before₄ k l h j = same₃ k l (λ e. omega arith) j ∙ before₃ k l (omega arith) j

  before₅ : (k : ℕ) → k < 6 → 4 ≤ k → (j : ℕ) → cell s₄ k j ≡ cell s k j
  before₅ k l h j = same₄ k l (λ e. omega arith) j ∙ before₄ k l (omega arith) j

  before₆ : (k : ℕ) → k < 6 → 5 ≤ k → (j : ℕ) → cell s₅ k j ≡ cell s k j
  before₆ k l h j = same₅ k l (λ e. omega arith) j ∙ before₅ k l (omega arith) j

  after₅ : (k : ℕ) → k < 5 → (j : ℕ) → cell s₆ k j ≡ cell s₅ k j
  after₅ k l j = same₆ k (omega arith) (λ e. omega arith) j

  after₄ : (k : ℕ) → k < 4 → (j : ℕ) → cell s₆ k j ≡ cell s₄ k j
  after₄ k l j = after₅ k (omega arith) j ∙ same₅ k (omega arith) (λ e. omega arith) j

  after₃ : (k : ℕ) → k < 3 → (j : ℕ) → cell s₆ k j ≡ cell s₃ k j
  after₃ k l j = after₄ k (omega arith) j ∙ same₄ k (omega arith) (λ e. omega arith) j

  after₂ : (k : ℕ) → k < 2 → (j : ℕ) → cell s₆ k j ≡ cell s₂ k j
  after₂ k l j = after₃ k (omega arith) j ∙ same₃ k (omega arith) (λ e. omega arith) j

  after₁ : (k : ℕ) → k < 1 → (j : ℕ) → cell s₆ k j ≡ cell s₁ k j
  after₁ k l j = after₂ k (omega arith) j ∙ same₂ k (omega arith) (λ e. omega arith) j

  pub entered_puts : Enterable first s w c → Puts (state s) (state (entered first s w c)) (get_or first w 0) w c
  entered_puts E =
      record {
        in_group = put_then (cell_put s 0 w 1 (omega (arith, E.room))) (after₁ 0 (omega arith));
        in_place = then_put (before₂ 1 (omega arith) (omega arith)) (put_then (cell_put s₁ 1 w c.height (omega (arith, E.room, l₁))) (after₂ 1 (omega arith)));
        in_arcs = then_put (before₃ 2 (omega arith) (omega arith)) (put_then (cell_put s₂ 2 w (get_or first w 0) (omega (arith, E.room, l₂))) (after₃ 2 (omega arith)));
        in_stack = then_put (before₄ 3 (omega arith) (omega arith)) (put_then (cell_put s₃ 3 c.height w (omega (arith, E.stack_room, l₃))) (after₄ 3 (omega arith)));
        in_path = then_put (before₅ 4 (omega arith) (omega arith)) (put_then (cell_put s₄ 4 c.depth c.height (omega (arith, E.path_room, l₄))) (after₅ 4 (omega arith)));
        in_bound = then_put (before₆ 5 (omega arith) (omega arith)) (cell_put s₅ 5 c.groups c.depth (omega (arith, E.bound_room, l₅)));
      }
