-- What a type is declared as, its first node tells: the first node of an enumeration is an item, and of nothing else.
use mathlib.Core.Path.{◌≡◌, refl, sym, ap, ◌∙◌}
use mathlib.Core.Logic.{◌↔◌, ◌⊎◌, inl, inr, ⊎_elim}
use mathlib.Core.Bool.{true, false, ◌||◌, false≢true}
use mathlib.Core.List.{[], ◌∷◌}
use Prim.Native.Nat.{ℕ, zero, suc, ◌+◌, ◌-◌, ◌≤◌, ◌<◌}
use native.Mathlib.Omega.{arith}
use borrow.Author.Tests.{eqb-true, eq-eqb}
use lib.Dec.{eqb}
use Rattle.ebnf.specs.Set.{mem, disjoint}
use Rattle.ebnf.proofs.Sorts.{of_sorts, every, every_of}
use Rattle.ebnf.proofs.Parts.{one, many}
use Rattle.ebnf.proofs.PostOrder.{row_at, size_at, Ends}
use Rattle.ebnf.proofs.Children.{last_one, last_many, no_more, children_of}
use Rattle.express.specs.Syntax.NodeKind as node
use Rattle.express.specs.Syntax.Tree.{Table, count, kind, role, size, first, is, is_declaration, owner}
use Rattle.express.specs.Syntax.Grammar.{Nonterminal, file}
use Rattle.express.specs.Syntax.Syntax.{Read}
use Rattle.express.specs.Names.Fault.{is_enumeration}
use Rattle.express.proofs.Syntax.Nodes.{kinds, all_below, underlyings, items, domain_rules}
use Rattle.express.proofs.Syntax.FormedRows.{kind_is, role_is, size_is, node_at, sized, alone}
use Rattle.express.proofs.Syntax.Within.{Over, passes_below}
use Rattle.express.proofs.Syntax.KindSets as set
use Rattle.express.proofs.Names.Owned.{undeclared, in_owner}
use Rattle.relations.proofs.Select.{and_both, and_snd, or_cases, le_or, first_of}

module _ {x : Nonterminal} {t : Table} (d : Read x t) where
  -- node m lies in a rule
  record InRule (m : ℕ) : Type 0 where
    at : ℕ
    known : at < count t
    is_rule : kind t at ≡ node.rule
    from : first t at ≤ m
    to : m ≤ at

  -- the rules of a type's WHERE taken away, from the last to the first
  record Bare (a e : ℕ) : Type 0 where
    end : ℕ
    upto : end ≤ e
    rest : Ends d.rows a end (one underlyings ∷ [])
    rules : (m : ℕ) → end ≤ m → m < e → InRule m

  bare : (f a e : ℕ) → e < f → e ≤ count t → Ends d.rows a e (one underlyings ∷ many domain_rules ∷ []) → Bare a e
  unfolding every
  bare zero a e l b x = absurd (omega arith)
  bare (suc f) a e l b x =
      ⊎_elim (λ y. one_less (last_one d.rows a e (one underlyings ∷ many domain_rules ∷ []) domain_rules y) (λ e' g h z. bare f a e' g h z))
      (λ y. record { end = e; upto = omega arith; rest = y; rules = λ m u v. absurd (omega arith) })
      (last_many d.rows a e (one underlyings ∷ []) domain_rules x)
    where
      one_less :
          (of_sorts (row_at d.rows (e - 1)).kind (row_at d.rows (e - 1)).role domain_rules ≡ true) × (1 ≤ size_at d.rows (e - 1))
          × (a + size_at d.rows (e - 1) ≤ e) × Ends d.rows a (e - size_at d.rows (e - 1)) (one underlyings ∷ many domain_rules ∷ [])
          → ((e' : ℕ) → e' < f → e' ≤ count t → Ends d.rows a e' (one underlyings ∷ many domain_rules ∷ []) → Bare a e') → Bare a e
      one_less r more =
          let s = r.1 in
          let w = r.2 in
          let B = more (e - size_at d.rows (e - 1)) (omega arith) (omega arith) r.3 in
          let q : kind t (e - 1) ≡ node.rule = kind_is d (e - 1) ∙ eqb-true _ node.rule (every_of (λ k o. eqb k node.rule) domain_rules _ _ rule_kinds r.0) in
          let z = size_is d (e - 1) in
          record {
            end = B.end;
            upto = omega (arith, B.upto);
            rest = B.rest;
            rules = λ m u v.
                ⊎_elim (λ g. record { at = e - 1; known = omega arith; is_rule = q; from = omega arith; to = omega arith }) (λ g. B.rules m u g)
                (le_or (e - size_at d.rows (e - 1)) m);
          }
        where
          rule_kinds : every (λ k o. eqb k node.rule) domain_rules ≡ true
          rule_kinds = refl

  -- what lies in a rule is of the kinds of expressions, or the rule
  in_rule : (m : ℕ) → InRule m → mem (kind t m) set.in_rule ≡ true
  unfolding all_below every mem
  in_rule m R =
      ⊎_elim (λ l. let q : m ≡ R.at = omega (arith, R.to) in rw (ap (kind t) q ∙ R.is_rule))
      (λ l. passes_below d (λ k. mem k set.in_rule) refl R.at R.known (rw R.is_rule refl) m R.from l) (le_or R.at m)

  -- A type begins with what it is declared as; the rules of its WHERE follow.
  record Under (y : ℕ) : Type 0 where
    node : ℕ
    below : node < y
    start : first t node ≡ first t y
    sort : of_sorts (kind t node) (role t node) underlyings ≡ true
    rules : (m : ℕ) → node < m → m < y → InRule m

  under : (y : ℕ) → y < count t → kind t y ≡ node.type → Under y
  under y l e =
      let x = children_of kinds t.terminals d.rows y node.type (node_at d y l) (sym (kind_is d y) ∙ e) in
      let B = bare (suc y) (suc y - size_at d.rows y) y (omega arith) (omega arith) x in
      let r = last_one d.rows (suc y - size_at d.rows y) B.end [] underlyings B.rest in
      let n = no_more d.rows _ _ r.3 in
      let s = r.1 in
      let w = r.2 in
      let z = size_is d (B.end - 1) in
      let v = size_is d y in
      record {
        node = B.end - 1;
        below = omega (arith, B.upto);
        start = omega arith;
        sort = rw (kind_is d (B.end - 1), role_is d (B.end - 1)) r.0;
        rules = λ m a b. B.rules m (omega arith) b;
      }

  -- the four things that a type is declared as
  data Form (k : ℕ) : Type 0 where
    simple : k ≡ node.simple_type → Form k
    renamed : k ≡ node.name → Form k
    an_enumeration : k ≡ node.enumeration → Form k
    a_select : k ≡ node.select → Form k

  form_of : (k o : ℕ) → of_sorts k o underlyings ≡ true → Form k
  unfolding every
  form_of k o h =
      let e = every_of (λ k o. eqb k node.simple_type || eqb k node.name || eqb k node.enumeration || eqb k node.select) underlyings k o refl h in
      ⊎_elim
      (λ a. ⊎_elim
      (λ b. ⊎_elim (λ c. simple (eqb-true k node.simple_type c)) (λ c. renamed (eqb-true k node.name c)) (or_cases (eqb k node.simple_type) (eqb k node.name) b))
      (λ b. an_enumeration (eqb-true k node.enumeration b)) (or_cases (eqb k node.simple_type || eqb k node.name) (eqb k node.enumeration) a))
      (λ a. a_select (eqb-true k node.select a)) (or_cases (eqb k node.simple_type || eqb k node.name || eqb k node.enumeration) (eqb k node.select) e)

  -- the nodes of each
  lone : (n k : ℕ) → n < count t → kind t n ≡ k → kinds.children k ≡ [] → (m : ℕ) → first t n ≤ m → m ≤ n → kind t m ≡ k
  lone n k l e c m u v = let s = alone d n k l e c in let q : m ≡ n = omega arith in ap (kind t) q ∙ e

  of_select : (n : ℕ) → n < count t → kind t n ≡ node.select → (m : ℕ) → first t n ≤ m → m ≤ n → (kind t m ≡ node.name) ⊎ (kind t m ≡ node.select)
  unfolding all_below every
  of_select n l e m u v =
      ⊎_elim (λ w. let q : m ≡ n = omega arith in inr (ap (kind t) q ∙ e))
      (λ w. inl (eqb-true (kind t m) node.name (passes_below d (λ k. eqb k node.name) refl n l (rw e refl) m u w))) (le_or n m)

  of_enumeration : (n : ℕ) → n < count t → kind t n ≡ node.enumeration → kind t (first t n) ≡ node.enumeration_item
  unfolding all_below every
  of_enumeration n l e = eqb-true (kind t (first t n)) node.enumeration_item (passes_below d (λ k. eqb k node.enumeration_item) refl n l (rw e refl) (first t n) (omega arith) some)
    where
      parts : Ends d.rows (suc n - size_at d.rows n) n (one items ∷ many items ∷ [])
      parts = children_of kinds t.terminals d.rows n node.enumeration (node_at d n l) (sym (kind_is d n) ∙ e)

      -- an item at least
      some : first t n < n
      some =
          ⊎_elim
          (λ y. let r = last_one d.rows (suc n - size_at d.rows n) n (one items ∷ many items ∷ []) items y in let a = r.1 in let b = r.2 in let z = size_is d n in omega arith)
          (λ y. let r = last_one d.rows (suc n - size_at d.rows n) n [] items y in let a = r.1 in let b = r.2 in let z = size_is d n in omega arith)
          (last_many d.rows (suc n - size_at d.rows n) n (one items ∷ []) items parts)

-- A TYPE IS DECLARED AS AN ENUMERATION: its first node is an item exactly when a node that is an enumeration stands in it.
module _ {t : Table} (d : Read file t) where
  pub record HasEnumeration (y : ℕ) : Type 0 where
    pub enumeration : ℕ
    pub known : enumeration < count t
    pub is_one : kind t enumeration ≡ node.enumeration
    pub in_type : owner t enumeration ≡ y

  item_first : (y : ℕ) → y < count t → kind t y ≡ node.type → kind t (first t y) ≡ node.enumeration_item → HasEnumeration y
  unfolding owner mem disjoint
  item_first y l e h = by (form_of d (kind t u) (role t u) U.sort)
    where
      U : Under d y
      U = under d y l e

      u : ℕ
      u = U.node

      known : u < count t
      known = omega (arith, U.below)

      size_one : 1 ≤ size t u
      size_one = (sized d u known).0

      at_start : kind t (first t u) ≡ node.enumeration_item
      at_start = ap (kind t) U.start ∙ h

      plain : (m : ℕ) → u ≤ m → m < y → kind t u ≡ node.enumeration → is_declaration t m ≡ false
      plain m a b q =
          ⊎_elim (λ (w : m ≤ u). let z : m ≡ u = omega arith in rw (ap (kind t) z ∙ q))
          (λ w. undeclared t m set.in_rule refl (in_rule d m (U.rules m w b))) (le_or m u)

      by : Form d (kind t u) → HasEnumeration y
      by (simple q) = let z = lone d u node.simple_type known q refl (first t u) (omega arith) (omega (arith, size_one)) in absurd (omega (arith, at_start))
      by (renamed q) = let z = lone d u node.name known q refl (first t u) (omega arith) (omega (arith, size_one)) in absurd (omega (arith, at_start))
      by (an_enumeration q) = record {
        enumeration = u;
        known = known;
        is_one = q;
        in_type = first_of (is_declaration t) (count t) u y (omega (arith, U.below)) l (rw e) (λ m a b. plain m a b q);
      }
      by (a_select q) = ⊎_elim (λ z. absurd (omega (arith, at_start))) (λ z. absurd (omega (arith, at_start))) (of_select d u known q (first t u) (omega arith) (omega (arith, size_one)))

  first_item : (y : ℕ) → y < count t → kind t y ≡ node.type → HasEnumeration y → kind t (first t y) ≡ node.enumeration_item
  unfolding mem
  first_item y l e H = by (form_of d (kind t u) (role t u) U.sort)
    where
      U : Under d y
      U = under d y l e

      u : ℕ
      u = U.node

      known : u < count t
      known = omega (arith, U.below)

      k : ℕ
      k = H.enumeration

      over : Over t k y
      over = rw H.in_type at (in_owner d k H.known (rw H.is_one)).0

      not_after : k ≤ u
      not_after =
          ⊎_elim (λ a. a)
          (λ a. ⊎_elim (λ (b : y ≤ k). let z : k ≡ y = omega (arith, over.to) in let w = ap (kind t) z in absurd (omega (arith, H.is_one)))
          (λ b. absurd (false≢true (rw H.is_one at (in_rule d k (U.rules k a b))))) (le_or y k))
          (le_or k u)

      from : first t u ≤ k
      from = omega (arith, U.start, over.from)

      by : Form d (kind t u) → kind t (first t y) ≡ node.enumeration_item
      by (simple q) = let z = lone d u node.simple_type known q refl k from not_after in absurd (omega (arith, H.is_one))
      by (renamed q) = let z = lone d u node.name known q refl k from not_after in absurd (omega (arith, H.is_one))
      by (an_enumeration q) = ap (kind t) (sym U.start) ∙ of_enumeration d u known q
      by (a_select q) = ⊎_elim (λ z. absurd (omega (arith, H.is_one))) (λ z. absurd (omega (arith, H.is_one))) (of_select d u known q k from not_after)

  pub enumeration_iff : (y : ℕ) → y < count t → kind t y ≡ node.type → (is_enumeration t y ≡ true) ↔ HasEnumeration y
  enumeration_iff y l e = (
    λ h. item_first y l e (eqb-true (kind t (first t y)) node.enumeration_item (and_snd (is t node.type y) (is t node.enumeration_item (first t y)) h)),
    λ H. and_both (is t node.type y) (is t node.enumeration_item (first t y)) (eq-eqb (kind t y) node.type e) (eq-eqb (kind t (first t y)) node.enumeration_item (first_item y l e H)),
  )
