-- 9 is placed at the later of two names: of two names of one sort in one scope, the one of the later node stands later in the text.
use mathlib.Core.Path.{◌≡◌, refl, sym, ap, ◌∙◌}
use mathlib.Core.Logic.{◌↔◌, ◌≢◌, ⊎_elim}
use mathlib.Core.Bool.{Bool, true, false, cond, not, ◌&&◌, false≢true}
use Prim.Native.Nat.{ℕ, ◌≤◌, ◌<◌}
use native.Mathlib.Omega.{arith}
use borrow.Author.Tests.{eqb-true, eqb-false, ne_eqb, not-true}
use lib.Dec.{eqb}
use Rattle.ebnf.specs.Set.{mem, disjoint}
use lib.ListN.{length}
use Rattle.ebnf.proofs.Sorts.{every}
use Rattle.ebnf.proofs.TextOrder.{in_order, Ordered, text_ordered}
use Rattle.express.specs.Syntax.NodeKind as node
use Rattle.relations.specs.Select.{span, any}
use Rattle.express.specs.Syntax.Tree.{Table, count, kind, role, token, symbol, place, first, is, is_name_in, is_declaration, is_attribute, is_scope_member}
use Rattle.express.specs.Syntax.Grammar.{Nonterminal, rules}
use Rattle.express.specs.Syntax.Grammar as grammar
use Rattle.express.specs.Syntax.Syntax.{whole, Read}
use Rattle.express.specs.Names.Fault.{Fault, fault, fine, sort, scope, alike, repeated}
use Rattle.express.proofs.Syntax.Syntax.{express}
use Rattle.express.proofs.Syntax.Nodes.{all_below}
use Rattle.express.proofs.Syntax.FormedRows.{size_is, token_is, count_is, sized, alone}
use Rattle.express.proofs.Syntax.Within.{passes_below}
use Rattle.express.proofs.Syntax.KindSets as set
use Rattle.express.proofs.Names.Owned.{Declaring, a_constant, a_type, an_entity, declaring, declaring_kind, member_kind}
use Rattle.express.proofs.Names.Untied.{Rising}
use Rattle.express.proofs.Names.Once.{is_alike}
use Rattle.relations.proofs.Select.{and_fst, and_snd, or_cases, le_or, mem_upto, upto_mem, any_mem, mem_any}

-- the grammar leaves its nodes in the order of the text
ordered_each : (x : Nonterminal) → in_order (rules x) false ≡ true
ordered_each grammar.file = refl
ordered_each grammar.schema = refl
ordered_each grammar.constants = refl
ordered_each grammar.constant = refl
ordered_each grammar.base = refl
ordered_each grammar.type_declaration = refl
ordered_each grammar.underlying = refl
ordered_each grammar.where_clause = refl
ordered_each grammar.domain_rule = refl
ordered_each grammar.entity = refl
ordered_each grammar.attributes = refl
ordered_each grammar.derived = refl
ordered_each grammar.expression = refl
ordered_each grammar.sum = refl
ordered_each grammar.term = refl
ordered_each grammar.factor = refl
ordered_each grammar.operand = refl
ordered_each grammar.atom = refl
ordered_each grammar.interval = refl

-- what a node of each sort is
pub data Sorted (t : Table) (n : ℕ) : Type 0 where
  a_schema : sort t n ≡ 1 → kind t n ≡ node.schema → Sorted t n
  a_declaration : sort t n ≡ 2 → is_declaration t n ≡ true → Sorted t n
  an_item : sort t n ≡ 3 → kind t n ≡ node.enumeration_item → Sorted t n
  a_member : sort t n ≡ 4 → is_scope_member t n ≡ true → Sorted t n
  a_supertype : sort t n ≡ 5 → kind t n ≡ node.name → Sorted t n
  nothing : sort t n ≡ 0 → Sorted t n

pub sorted : (t : Table) (n : ℕ) → Sorted t n
unfolding sort
sorted t n = by (is t node.schema n) (is_declaration t n) (is t node.enumeration_item n) (is_scope_member t n) (is_name_in t node.supertype_name n) refl refl refl refl refl
  where
    by : (a b c e f : Bool) → is t node.schema n ≡ a → is_declaration t n ≡ b → is t node.enumeration_item n ≡ c → is_scope_member t n ≡ e → is_name_in t node.supertype_name n ≡ f → Sorted t n
    by true b c e f h₁ h₂ h₃ h₄ h₅ = a_schema (rw h₁) (eqb-true (kind t n) node.schema h₁)
    by false true c e f h₁ h₂ h₃ h₄ h₅ = a_declaration (rw (h₁, h₂)) h₂
    by false false true e f h₁ h₂ h₃ h₄ h₅ = an_item (rw (h₁, h₂, h₃)) (eqb-true (kind t n) node.enumeration_item h₃)
    by false false false true f h₁ h₂ h₃ h₄ h₅ = a_member (rw (h₁, h₂, h₃, h₄)) h₄
    by false false false false true h₁ h₂ h₃ h₄ h₅ = a_supertype (rw (h₁, h₂, h₃, h₄, h₅)) (eqb-true (kind t n) node.name (and_fst (is t node.name n) (eqb (role t n) node.supertype_name) h₅))
    by false false false false false h₁ h₂ h₃ h₄ h₅ = nothing (rw (h₁, h₂, h₃, h₄, h₅))

data Member (k : ℕ) : Type 0 where
  an_attribute : k ≡ node.attribute_name → Member k
  a_derived : k ≡ node.derived_attribute → Member k
  a_rule : k ≡ node.rule → Member k

member : (t : Table) (n : ℕ) → is_scope_member t n ≡ true → Member (kind t n)
member t n h =
    ⊎_elim
    (λ a. ⊎_elim (λ b. an_attribute (eqb-true (kind t n) node.attribute_name b)) (λ b. a_derived (eqb-true (kind t n) node.derived_attribute b))
    (or_cases (is t node.attribute_name n) (is t node.derived_attribute n) a))
    (λ a. a_rule (eqb-true (kind t n) node.rule (and_fst (is t node.rule n) (eqb (role t n) node.labelled) a))) (or_cases (is_attribute t n) (is t node.rule n && eqb (role t n) node.labelled) h)

-- and back
module _ {t : Table} {n : ℕ} where
  pub sort_one : Sorted t n → sort t n ≡ 1 → kind t n ≡ node.schema
  sort_one (a_schema s q) e = q
  sort_one (a_declaration s q) e = absurd (omega arith)
  sort_one (an_item s q) e = absurd (omega arith)
  sort_one (a_member s q) e = absurd (omega arith)
  sort_one (a_supertype s q) e = absurd (omega arith)
  sort_one (nothing s) e = absurd (omega arith)

  pub sort_two : Sorted t n → sort t n ≡ 2 → is_declaration t n ≡ true
  sort_two (a_schema s q) e = absurd (omega arith)
  sort_two (a_declaration s q) e = q
  sort_two (an_item s q) e = absurd (omega arith)
  sort_two (a_member s q) e = absurd (omega arith)
  sort_two (a_supertype s q) e = absurd (omega arith)
  sort_two (nothing s) e = absurd (omega arith)

  pub sort_three : Sorted t n → sort t n ≡ 3 → kind t n ≡ node.enumeration_item
  sort_three (a_schema s q) e = absurd (omega arith)
  sort_three (a_declaration s q) e = absurd (omega arith)
  sort_three (an_item s q) e = q
  sort_three (a_member s q) e = absurd (omega arith)
  sort_three (a_supertype s q) e = absurd (omega arith)
  sort_three (nothing s) e = absurd (omega arith)

  pub sort_four : Sorted t n → sort t n ≡ 4 → is_scope_member t n ≡ true
  sort_four (a_schema s q) e = absurd (omega arith)
  sort_four (a_declaration s q) e = absurd (omega arith)
  sort_four (an_item s q) e = absurd (omega arith)
  sort_four (a_member s q) e = q
  sort_four (a_supertype s q) e = absurd (omega arith)
  sort_four (nothing s) e = absurd (omega arith)

module _ {x : Nonterminal} {t : Table} (d : Read x t) where
  -- below a node there is none of its sort
  not_below : (k n : ℕ) → n < count t → sort t n ≢ 0 → sort t k ≡ sort t n → first t n ≤ k → k < n → ⊥
  unfolding all_below every mem disjoint
  not_below k n l nz e u v = by (sorted t n)
    where
      below_declaration : Declaring (kind t n) → mem (kind t k) set.below_declaration ≡ true
      below_declaration (a_constant q) = passes_below d (λ j. mem j set.below_declaration) refl n l (rw q refl) k u v
      below_declaration (a_type q) = passes_below d (λ j. mem j set.below_declaration) refl n l (rw q refl) k u v
      below_declaration (an_entity q) = passes_below d (λ j. mem j set.below_declaration) refl n l (rw q refl) k u v

      below_member : Member (kind t n) → mem (kind t k) set.below_constant ≡ true
      below_member (an_attribute q) = let s = alone d n node.attribute_name l q refl in absurd (omega arith)
      below_member (a_derived q) = passes_below d (λ j. mem j set.below_constant) refl n l (rw q refl) k u v
      below_member (a_rule q) = passes_below d (λ j. mem j set.below_constant) refl n l (rw q refl) k u v

      by : Sorted t n → ⊥
      by (a_schema s q) =
          false≢true (rw (sort_one (sorted t k) (e ∙ s)) at (passes_below d (λ j. mem j set.below_schema) refl n l (rw q refl) k u v))
      by (a_declaration s h) =
          set.not_both (kind t k) set.below_declaration set.declaration_kinds refl (below_declaration (declaring t n h)) (declaring_kind (kind t k) (declaring t k (sort_two (sorted t k) (e ∙ s))))
      by (an_item s q) = let z = alone d n node.enumeration_item l q refl in omega arith
      by (a_member s h) = set.not_both (kind t k) set.below_constant set.member_kinds refl (below_member (member t n h)) (member_kind t k (sort_four (sorted t k) (e ∙ s)))
      by (a_supertype s q) = let z = alone d n node.name l q refl in omega arith
      by (nothing s) = nz s

  module _ (rise : Rising t) where
    pub ordered : Ordered 0 (length t.terminals) d.rows
    ordered = text_ordered express ordered_each t.terminals x (whole d.rows) d.parses

    -- a node before the tree of another stands earlier in the text
    pub stands_before : (k n : ℕ) → n < count t → k < first t n → place t k < place t n
    stands_before k n l h =
        let c = count_is d in
        let s = size_is d n in
        let z = sized d n l in
        let r = ordered.rise k n (omega arith) (omega arith) in
        let a = token_is d k in
        let b = token_is d n in
        rise (token t k) (token t n) (omega arith) (let y = ordered.inside n (omega arith) in omega arith)

    -- THE LATER NAME: of two of one sort
    pub later : (k n : ℕ) → k < n → n < count t → sort t n ≢ 0 → sort t k ≡ sort t n → place t k < place t n
    later k n h l nz e = ⊎_elim (λ u. absurd (not_below k n l nz e u h)) (λ u. stands_before k n l u) (le_or (first t n) k)

    -- 9 is given exactly for the names that an earlier name, in the text, of the same sort and scope is spelled like
    pub record Earlier (n k : ℕ) : Type 0 where
      pub known : k < count t
      pub declares : sort t n ≢ 0
      pub same_sort : sort t k ≡ sort t n
      pub same_scope : scope t k ≡ scope t n
      pub same_name : symbol t k ≡ symbol t n
      pub earlier : place t k < place t n

    alike_is : (n k : ℕ) → alike t n k ≡ true → (symbol t k ≡ symbol t n) × (sort t k ≡ sort t n) × (scope t k ≡ scope t n)
    alike_is n k h =
        let a = and_fst (eqb (symbol t k) (symbol t n) && eqb (sort t k) (sort t n)) (eqb (scope t k) (scope t n)) h in (
          eqb-true _ _ (and_fst (eqb (symbol t k) (symbol t n)) (eqb (sort t k) (sort t n)) a),
          eqb-true _ _ (and_snd (eqb (symbol t k) (symbol t n)) (eqb (sort t k) (sort t n)) a),
          eqb-true _ _ (and_snd (eqb (symbol t k) (symbol t n) && eqb (sort t k) (sort t n)) (eqb (scope t k) (scope t n)) h),
        )

    pub repeated_iff : (n : ℕ) → n < count t → (repeated t n ≡ fault 9 (place t n)) ↔ ((k : ℕ) × Earlier n k)
    unfolding repeated
    repeated_iff n l = (λ e. found (test (not (eqb (sort t n) 0) && any (alike t n) (span 0 n)) refl e), λ r. given r.0 r.1)
      where
        test :
            (b : Bool) → not (eqb (sort t n) 0) && any (alike t n) (span 0 n) ≡ b → cond b (fault 9 (place t n)) fine ≡ fault 9 (place t n) →
            not (eqb (sort t n) 0) && any (alike t n) (span 0 n) ≡ true
        test true q e = q
        test false q e = let z : ◌≡◌ {A = ℕ} 0 9 = ap (λ (f : Fault). f.number) e in absurd (omega arith)

        found : not (eqb (sort t n) 0) && any (alike t n) (span 0 n) ≡ true → (k : ℕ) × Earlier n k
        found h =
            let r = any_mem (alike t n) (span 0 n) (and_snd (not (eqb (sort t n) 0)) (any (alike t n) (span 0 n)) h) in
            let k = r.0 in
            let b = upto_mem n k r.1 in
            let s = alike_is n k r.2 in
            let z = eqb-false (sort t n) 0 (not-true (eqb (sort t n) 0) (and_fst (not (eqb (sort t n) 0)) (any (alike t n) (span 0 n)) h)) in
            (k, record { known = omega arith; declares = z; same_sort = s.1; same_scope = s.2; same_name = s.0; earlier = later k n b l z s.1 })

        given : (k : ℕ) → Earlier n k → cond (not (eqb (sort t n) 0) && any (alike t n) (span 0 n)) (fault 9 (place t n)) fine ≡ fault 9 (place t n)
        given k E =
            let p = E.earlier in
            let b : k < n =
            ⊎_elim
            (λ (u : n ≤ k). ⊎_elim (λ (v : k ≤ n). let q : k ≡ n = omega arith in let z = ap (place t) q in absurd (omega arith))
            (λ (v : n < k). let z = later n k v E.known (λ (y : sort t k ≡ 0). E.declares (sym E.same_sort ∙ y)) (sym E.same_sort) in absurd (omega arith)) (le_or k n))
            (λ u. u) (le_or n k) in
            let a = is_alike t n k E.same_name E.same_sort E.same_scope in
            rw (ne_eqb (sort t n) 0 E.declares, mem_any (alike t n) (span 0 n) (mem_upto n k b) a)
