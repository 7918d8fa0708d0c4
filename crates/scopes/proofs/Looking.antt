-- The look-ups: what is found under a key is what the candidates mean.
use mathlib.Core.Path.{◌≡◌, refl, sym, ap, ◌∙◌}
use mathlib.Core.Logic.{⊎_elim}
use mathlib.Core.Bool.{Bool, true, false, cond, ◌&&◌}
use mathlib.Core.List.{List, []}
use Prim.Native.Nat.{ℕ, ◌+◌, ◌-◌, ◌≤◌, ◌<◌, ◌%◌}
use native.Mathlib.Omega.{arith}
use borrow.Author.Tests.{ne_eqb}
use lib.Dec.{eqb, ltb}
use lib.ListN.{length, get_or}
use Rattle.relations.specs.Select.{span, first_from, keep}
use Rattle.relations.proofs.Select.{le_or, upto_mem, keep_nothing}
use Rattle.express.specs.Syntax.NodeKind.{enumeration_item}
use Rattle.express.specs.Syntax.Tree.{Table, count, nodes, symbol, is, is_declaration, is_scope_member, owner, schema_of}
use Rattle.express.specs.Names.Scope as express
use Rattle.express.specs.Names.Scope.{declarations, own, items_of}
use Rattle.express.proofs.Names.Meaning.{meaning_first}
use Rattle.index.specs.Dictionary.{has, first_with, Indexed, Holds, Finds, Continues}
use Rattle.std.specs.Prelude.{Option, Some, None}
use Rattle.scopes.specs.Entries.{declared, items_of_types, members, sorts, radix, key_of, entries, with_key}
use Rattle.scopes.specs.Preparation.{Consistent, Prepared}
use Rattle.scopes.specs.LookUp.{numbers, node_meant, Meant, Means, UnderKey}
use Rattle.scopes.specs.declared.look_ups.Meaning.{Meaning}
use Rattle.scopes.specs.declared.look_ups.Meaning.TheVariants.{Nothing, One, Several}
use Rattle.scopes.proofs.Sorting.{key_some, key_within, owner_below, schema_below}
use Rattle.scopes.proofs.WithKey.{by_declaration, by_type, by_owner}
use Rattle.scopes.proofs.Numbering.{meant_nodes}

-- ---- the meaning, by the first entry and the next
abbrev after_first : ℕ → Option ℕ → express.Meaning
after_first e None = express.one e
after_first e (Some k) = express.several

module _ (keys : List ℕ) (key : ℕ) where
  abbrev by_first : Option ℕ → express.Meaning
  by_first None = express.none
  by_first (Some e) = after_first e (first_with keys key (e + 1))

  meaning_found : express.meaning (numbers keys key) ≡ by_first (first_with keys key 0)
  unfolding numbers first_with
  meaning_found = ap (λ (m : ℕ). express.meaning (keep (has keys key) (span 0 m))) (sym z) ∙ meaning_first (has keys key) n 0 (omega arith) ∙ first (ltb f n)
    where
      n : ℕ
      n = length keys

      z : n - 0 ≡ n
      z = omega arith

      f : ℕ
      f = first_from (has keys key) 0 (n - 0)

      second : (c : Bool) (j : ℕ) → cond c express.several (express.one f) ≡ after_first f (cond c (Some j) None)
      second true j = refl
      second false j = refl

      first : (b : Bool) →
          cond b (cond (ltb (first_from (has keys key) (f + 1) (n - (f + 1))) n) express.several (express.one f)) express.none ≡ by_first (cond b (Some f) None)
      first true = second (ltb (first_from (has keys key) (f + 1) (n - (f + 1))) n) (first_from (has keys key) (f + 1) (n - (f + 1)))
      first false = refl

module _ {keys heads next : List ℕ} {key : ℕ} {r : Option ℕ} (F : Finds keys heads next key r) where
  pub nothing_meant : r ≡ None → Meant keys heads next key Nothing
  nothing_meant e = record { within = omega arith; is = λ I. sym (meaning_found keys key ∙ ap (by_first keys key) (sym (F.is I) ∙ e)) }

  module _ {k : ℕ} (e : r ≡ Some k) {q : Option ℕ} (C : Continues keys next k q) where
    at : (k < length keys) × (get_or keys k 0 ≡ key)
    at = let h : Holds keys key 0 (Some k) = rw e at F.holds in (h.1, h.2)

    first : Indexed keys heads next → express.meaning (numbers keys key) ≡ after_first k q
    first I =
        meaning_found keys key
        ∙ ap (by_first keys key) (sym (F.is I) ∙ e)
        ∙ ap (λ (x : ℕ). after_first k (first_with keys x (k + 1))) (sym at.1)
        ∙ ap (after_first k) (sym (C.is heads I))

    pub one_meant : q ≡ None → Meant keys heads next key (One k)
    one_meant n = record { within = at.0; is = λ I. sym (first I ∙ ap (after_first k) n) }

    pub several_meant : {j : ℕ} → q ≡ Some j → Meant keys heads next key Several
    several_meant n = record { within = omega arith; is = λ I. sym (first I ∙ ap (after_first k) n) }

-- ---- under a sort, a scope and a symbol
module _ {keys heads next : List ℕ} {a g s : ℕ} where
  pub high_scope : radix ≤ g → UnderKey keys heads next a g s Nothing
  high_scope l = record { within = omega arith; is = λ h k I. absurd (omega arith); high_scope = λ h. refl; high_symbol = λ h. refl }

  pub high_symbol : radix ≤ s → UnderKey keys heads next a g s Nothing
  high_symbol l = record { within = omega arith; is = λ h k I. absurd (omega arith); high_scope = λ h. refl; high_symbol = λ h. refl }

  pub under_key : {k : ℕ} {r : Meaning} → a < sorts → g < radix → s < radix → k ≡ key_of (a % sorts) (g % radix) s → Meant keys heads next k r → UnderKey keys heads next a g s r
  under_key sorted gs ss e M =
      record {
        within = M.within;
        is = λ h k I. M.is I ∙ ap (λ (x : ℕ). express.meaning (numbers keys x)) (key_within a g s e sorted gs);
        high_scope = λ h. absurd (omega arith);
        high_symbol = λ h. absurd (omega arith);
      }

module _ (t : Table) (ok : Consistent t) where
  -- no node has such a scope, or such a symbol
  no_scope : (s : ℕ) (p : ℕ → Bool) (c : ℕ → ℕ) (g : ℕ) → ((n : ℕ) → n ≤ count t → c n ≤ count t) → radix ≤ g → keep (λ k. eqb (symbol t k) s && (p k && eqb (c k) g)) (nodes t) ≡ []
  no_scope s p c g h l =
      keep_nothing _ (nodes t) (λ n m. let i = upto_mem (count t) n m in rw (ne_eqb (c n) g (λ q. omega (arith, q, h n (omega arith), ok.few))) (none (eqb (symbol t n) s) (p n)))
    where
      none : (a b : Bool) → (a && (b && false)) ≡ false
      none true true = refl
      none true false = refl
      none false b = refl

  no_symbol : (s : ℕ) (p : ℕ → Bool) → radix ≤ s → keep (λ k. eqb (symbol t k) s && p k) (nodes t) ≡ []
  no_symbol s p l = keep_nothing _ (nodes t) (λ n m. rw (ne_eqb (symbol t n) s (λ q. omega (arith, q, ok.small n (upto_mem (count t) n m)))))

module _ {keys heads next : List ℕ} {a g s : ℕ} {r : Meaning} (U : UnderKey keys heads next a g s r) where
  -- where the candidates are what has the key, and there are none past the radix
  pub candidates_meant :
      (candidates : Table → List ℕ) → 0 < a →
      ((t : Table) → Consistent t → g < radix → s < radix → with_key (key_of a g s) (entries t) ≡ candidates t) →
      ((t : Table) → Consistent t → radix ≤ g → candidates t ≡ []) →
      ((t : Table) → Consistent t → radix ≤ s → candidates t ≡ []) → Means keys heads next candidates r
  candidates_meant candidates some same scopeless symbolless = record { within = U.within; is = is }
    where
      is : (t : Table) (nodes : List ℕ) → Prepared t keys nodes heads next → node_meant nodes r ≡ express.meaning (candidates t)
      is t nodes P =
          ⊎_elim (λ h. ap (node_meant nodes) (U.high_scope h) ∙ sym (ap express.meaning (scopeless t P.consistent h)))
          (λ h.
          ⊎_elim (λ k. ap (node_meant nodes) (U.high_symbol k) ∙ sym (ap express.meaning (symbolless t P.consistent k)))
          (λ k.
          meant_nodes P (key_of a g s) (key_some a g s some) r (U.is h k P.indexed)
          ∙ ap express.meaning (same t P.consistent h k))
          (le_or radix s))
          (le_or radix g)

module _ {keys heads next : List ℕ} {g s : ℕ} {r : Meaning} where
  pub declaration_meant : UnderKey keys heads next declared g s r → Means keys heads next (λ t. declarations t g s) r
  unfolding declarations
  declaration_meant U =
      candidates_meant U (λ t. declarations t g s) (omega arith) (λ t c h k. by_declaration t c g s h k)
      (λ t c. no_scope t c s (is_declaration t) (schema_of t) g (schema_below t))
      (λ t c. no_symbol t c s (λ k. is_declaration t k && eqb (schema_of t k) g))

  pub own_meant : UnderKey keys heads next members g s r → Means keys heads next (λ t. own t g s) r
  unfolding own
  own_meant U =
      candidates_meant U (λ t. own t g s) (omega arith) (λ t c h k. by_owner t c g s h k)
      (λ t c. no_scope t c s (is_scope_member t) (owner t) g (owner_below t))
      (λ t c. no_symbol t c s (λ k. is_scope_member t k && eqb (owner t k) g))

  pub item_meant : UnderKey keys heads next items_of_types g s r → Means keys heads next (λ t. items_of t g s) r
  unfolding items_of
  item_meant U =
      candidates_meant U (λ t. items_of t g s) (omega arith) (λ t c h k. by_type t c g s h k)
      (λ t c. no_scope t c s (is t enumeration_item) (owner t) g (owner_below t))
      (λ t c. no_symbol t c s (λ k. is t enumeration_item k && eqb (owner t k) g))
