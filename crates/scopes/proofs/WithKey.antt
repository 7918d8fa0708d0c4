-- The entries with a key are what the scope rules look up.
use mathlib.Core.Path.{◌≡◌, refl, sym, ap, ◌∙◌}
use mathlib.Core.Bool.{Bool, true, false, cond, not, ◌&&◌}
use mathlib.Core.List.{List, [], ◌∷◌, ◌++◌, map, append-nil, Memᴰ}
use Prim.Native.Nat.{ℕ, ◌<◌}
use native.Mathlib.Omega.{arith}
use borrow.Author.Tests.{eqb-true, ne_eqb}
use lib.Dec.{eqb}
use Rattle.relations.specs.Select.{keep}
use Rattle.relations.proofs.Select.{upto_mem, keep_append, keep_same, keep_nothing}
use Rattle.express.specs.Syntax.NodeKind.{enumeration_item}
use Rattle.express.specs.Syntax.Tree.{Table, count, nodes, symbol, is, is_declaration, is_scope_member, owner, schema_of}
use Rattle.express.specs.Names.Fault.{sort, scope}
use Rattle.express.specs.Names.Scope.{declarations, own, items_of}
use Rattle.scopes.specs.Entries.{none, declared, items_of_types, members, radix, key_of, Entry, own_key, own_entry, is_other, declares_other, declaring, entries, with_key}
use Rattle.scopes.specs.Preparation.{Consistent}
use Rattle.scopes.proofs.Sorting.{key_parts, key_test, declared_sort, item_sort, member_sort, scope_below}

-- what is kept of what another test kept: it passes both
keep_both : (p q : ℕ → Bool) (ns : List ℕ) → keep p (keep q ns) ≡ keep (λ n. q n && p n) ns
unfolding keep
keep_both p q [] = refl
keep_both p q (n ∷ ns) = by (q n) (keep_both p q ns)
  where
    rest : List ℕ
    rest = keep (λ n. q n && p n) ns

    by : (b : Bool) → keep p (keep q ns) ≡ rest → keep p (cond b (n ∷ keep q ns) (keep q ns)) ≡ cond (b && p n) (n ∷ rest) rest
    by true e = rw e
    by false e = e

-- a second test that what passes the first passes, or fails
and_passing : (q p : Bool) → (p ≡ true → q ≡ true) → (q && p) ≡ p
and_passing true p h = refl
and_passing false true h = h refl
and_passing false false h = refl

and_failing : (q p : Bool) → (p ≡ true → q ≡ false) → (q && p) ≡ false
and_failing true true h = h refl
and_failing true false h = refl
and_failing false p h = refl

-- ---- entries with a key
module _ (k : ℕ) where
  pub with_cons : (e : Entry) (es : List Entry) → with_key k (e ∷ es) ≡ cond (eqb e.key k) (e.node ∷ with_key k es) (with_key k es)
  unfolding with_key keep
  with_cons e es = by (eqb e.key k)
    where
      rest : List Entry
      rest = keep (λ (e : Entry). eqb e.key k) es

      by : (b : Bool) → map (λ (e : Entry). e.node) (cond b (e ∷ rest) rest) ≡ cond b (e.node ∷ map (λ (e : Entry). e.node) rest) (map (λ (e : Entry). e.node) rest)
      by true = refl
      by false = refl

  pub with_nil : with_key k [] ≡ []
  unfolding with_key keep
  with_nil = refl

  with_own : (t : Table) (ns : List ℕ) → with_key k (map (own_entry t) ns) ≡ keep (λ n. eqb (own_key t n) k) ns
  unfolding keep
  with_own t [] = with_nil
  with_own t (n ∷ ns) = with_cons (own_entry t n) (map (own_entry t) ns) ∙ ap (λ (ms : List ℕ). cond (eqb (own_key t n) k) (n ∷ ms) ms) (with_own t ns)

-- ---- of a file
module _ (t : Table) (ok : Consistent t) where
  -- the nodes that declare something of sort a in scope g with symbol s
  abbrev pub matches : ℕ → ℕ → ℕ → ℕ → Bool
  matches a g s n = eqb (sort t n) a && (eqb (scope t n) g && eqb (symbol t n) s)

  module _ (a g s : ℕ) (gs : g < radix) (ss : s < radix) where
    abbrev keyed : ℕ → Bool
    keyed n = eqb (own_key t n) (key_of a g s)

    abbrev wanted : List ℕ
    wanted = keep (matches a g s) (nodes t)

    module _ (n : ℕ) (m : Memᴰ n (nodes t)) where
      low : n < count t
      low = upto_mem (count t) n m

      scope_small : scope t n < radix
      scope_small = let l = low in omega (arith, scope_below t n (omega arith), ok.few)

      keyed_test : keyed n ≡ matches a g s n
      keyed_test = key_test (sort t n) (scope t n) (symbol t n) a g s scope_small (ok.small n low) gs ss

      keyed_sort : keyed n ≡ true → sort t n ≡ a
      keyed_sort e = (key_parts (sort t n) (scope t n) (symbol t n) a g s scope_small (ok.small n low) gs ss (eqb-true _ _ e)).0

    -- of a part of the nodes that has all of the sort, or none
    part : (q : ℕ → Bool) (b : Bool) → ((n : ℕ) → sort t n ≡ a → q n ≡ b) → keep keyed (keep q (nodes t)) ≡ cond b wanted []
    part q true h =
        keep_both keyed q (nodes t)
        ∙ keep_same _ _ (nodes t) (λ n m. and_passing (q n) (keyed n) (λ e. h n (keyed_sort n m e)) ∙ keyed_test n m)
    part q false h = keep_both keyed q (nodes t) ∙ keep_nothing _ (nodes t) (λ n m. and_failing (q n) (keyed n) (λ e. h n (keyed_sort n m e)))

    pub by_sort : (a ≡ 0 → ⊥) → with_key (key_of a g s) (entries t) ≡ wanted
    unfolding entries
    by_sort z =
        with_own (key_of a g s) t (declaring t)
        ∙ keep_append keyed (keep (is_declaration t) (nodes t)) (keep (declares_other t) (nodes t))
        ∙ rw (
          part (is_declaration t) (eqb a declared) (λ n e. sym (declared_sort t n) ∙ ap (λ (x : ℕ). eqb x declared) e),
          part (declares_other t) (not (eqb a declared)) (λ n e. ap is_other e ∙ rw (ne_eqb a none z)),
        )
        (by (eqb a declared))
      where
        by : (b : Bool) → cond b wanted [] ++ cond (not b) wanted [] ≡ wanted
        by true = append-nil wanted
        by false = refl

  -- ---- the look-ups of express
  module _ (g s : ℕ) (gs : g < radix) (ss : s < radix) where
    -- two tests of a sort, a scope and a symbol, in another order
    turned : (p q : Bool) (c d y : ℕ) → p ≡ q → (q ≡ true → c ≡ d) → (p && (eqb c g && eqb y s)) ≡ (eqb y s && (q && eqb d g))
    turned true q c d y e h = rw (← e, h (sym e)) (by (eqb d g) (eqb y s))
      where
        by : (a b : Bool) → a && b ≡ (b && a)
        by true true = refl
        by true false = refl
        by false true = refl
        by false false = refl
    turned false q c d y e h = rw (← e) (by (eqb y s))
      where
        by : (b : Bool) → false ≡ (b && false)
        by true = refl
        by false = refl

    scope_schema : (n : ℕ) → is_declaration t n ≡ true → scope t n ≡ schema_of t n
    unfolding scope
    scope_schema n e = let q = eqb-true (sort t n) declared (declared_sort t n ∙ e) in rw q

    scope_item : (n : ℕ) → is t enumeration_item n ≡ true → scope t n ≡ owner t n
    unfolding scope
    scope_item n e = let q = eqb-true (sort t n) items_of_types (item_sort t n ∙ e) in rw q

    scope_member : (n : ℕ) → is_scope_member t n ≡ true → scope t n ≡ owner t n
    unfolding scope
    scope_member n e = let q = eqb-true (sort t n) members (member_sort t n ∙ e) in rw q

    pub by_declaration : with_key (key_of declared g s) (entries t) ≡ declarations t g s
    unfolding declarations
    by_declaration =
        by_sort declared g s gs ss (λ (q : declared ≡ 0). omega arith)
        ∙ keep_same _ _ (nodes t) (λ n m. turned _ _ (scope t n) (schema_of t n) (symbol t n) (declared_sort t n) (scope_schema n))

    pub by_type : with_key (key_of items_of_types g s) (entries t) ≡ items_of t g s
    unfolding items_of
    by_type =
        by_sort items_of_types g s gs ss (λ (q : items_of_types ≡ 0). omega arith)
        ∙ keep_same _ _ (nodes t) (λ n m. turned _ _ (scope t n) (owner t n) (symbol t n) (item_sort t n) (scope_item n))

    pub by_owner : with_key (key_of members g s) (entries t) ≡ own t g s
    unfolding own
    by_owner =
        by_sort members g s gs ss (λ (q : members ≡ 0). omega arith)
        ∙ keep_same _ _ (nodes t) (λ n m. turned _ _ (scope t n) (owner t n) (symbol t n) (member_sort t n) (scope_member n))
