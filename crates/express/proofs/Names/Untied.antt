-- No two faults of a stage have one place and two numbers, where names stand at different places, as they do in a file: so the fault that a
-- stage gives is the only one.
use mathlib.Core.Path.{◌≡◌, refl, sym, ap, subst, ◌∙◌}
use mathlib.Core.Logic.{◌≢◌, ◌⊎◌, inl, inr, ⊎_elim}
use mathlib.Core.Bool.{Bool, true, false, cond, not, ◌&&◌, ◌||◌, false≢true}
use mathlib.Core.List.Memᴰ
use mathlib.Core.List.{List, [], ◌∷◌, Memᴰ}
use Prim.Native.Nat.{ℕ, zero, suc, ◌≤◌, ◌<◌}
use native.Mathlib.Omega.{arith}
use borrow.Author.Tests.{eqb-true}
use lib.Dec.{eqb}
use lib.ListN.{length, get_or-eq_default}
use Rattle.express.specs.Syntax.NodeKind.{name, qualified_item, self, constant, attribute_name, derived_attribute, rule, labelled, in_expression}
use Rattle.relations.specs.Select.{span, any}
use Rattle.express.specs.Syntax.Tree.{Table, count, kind, token, role, place, place_at, nodes, is, is_declaration, is_scope_member, in_constant}
use Rattle.relations.specs.Reach.{Edge, reaches}
use Rattle.express.specs.Names.Scope.{Meaning, none, one, several, means, is_use, type_token, type_meant, type_edges}
use Rattle.express.specs.Names.Fault.{Fault, fault, fine, sort, alike, repeated, judged, right, named_fault}
use Rattle.express.specs.Names.Fault.{type_name_fault, cyclic, is_enumeration, qualified, clashes, expression, constant_edges}
use Rattle.express.specs.Names.Names.{Stage, stages, names, StageFault}
use Rattle.relations.proofs.Select.{and_fst, or_left, or_right, le_or}
use Rattle.express.proofs.Names.Names.{Untied, names_only}
use Rattle.ebnf.proofs.Parts.{Behind}
use Rattle.ebnf.proofs.PostOrder.{row_at}
use Rattle.ebnf.proofs.Naming.{claims_once, Claims, named, two_before, Claimed, text_claims}
use Rattle.express.specs.Tokens.Terminal.{dot, identifier}
use Rattle.express.specs.Syntax.Grammar.{Nonterminal, rules}
use Rattle.express.specs.Syntax.Grammar as grammar
use Rattle.express.specs.Syntax.Syntax.{whole, Read}
use Rattle.express.proofs.Syntax.FormedRows.{kind_is, role_is, token_is, count_is}
use Rattle.express.proofs.Syntax.Within.{item_behind}

-- the nodes at which names are declared or used
abbrev pub speaks : Table → ℕ → Bool
speaks t n = is t name n || is t qualified_item n || is t self n || is_scope_member t n

-- each stands at its own place, and so does the type's name of a `type.item`
pub record Apart (t : Table) : Type 0 where
  pub names : (n k : ℕ) → speaks t n ≡ true → speaks t k ≡ true → place t n ≡ place t k → n ≡ k
  pub types : (n k : ℕ) → is t qualified_item n ≡ true → is t qualified_item k ≡ true → place_at t (type_token t n) ≡ place_at t (type_token t k) → n ≡ k
  pub between : (n k : ℕ) → is t qualified_item n ≡ true → speaks t k ≡ true → place_at t (type_token t n) ≡ place t k → ⊥

-- where a fault of a node is placed
data Placed (t : Table) (n : ℕ) (f : Fault) : Type 0 where
  nowhere : f.number ≡ 0 → Placed t n f
  at_name : speaks t n ≡ true → f.place ≡ place t n → Placed t n f
  at_type : is t qualified_item n ≡ true → f.place ≡ place_at t (type_token t n) → Placed t n f

-- a stage whose faults are placed so has no ties
placed_untied : {t : Table} → Apart t → (s : Stage) → ((n : ℕ) → Placed t n (s n)) → (ns : List ℕ) → Untied ns s
placed_untied {t} A s P ns n k m l f g e = by (P n) (P k)
  where
    by : Placed t n (s n) → Placed t k (s k) → (s n).number ≡ (s k).number
    by (nowhere z) q = absurd (f z)
    by (at_name a p) (nowhere z) = absurd (g z)
    by (at_name a p) (at_name b q) = ap (λ x. (s x).number) (A.names n k a b (sym p ∙ e ∙ q))
    by (at_name a p) (at_type b q) = absurd (A.between k n b a (sym q ∙ sym e ∙ p))
    by (at_type a p) (nowhere z) = absurd (g z)
    by (at_type a p) (at_name b q) = absurd (A.between n k a b (sym p ∙ e ∙ q))
    by (at_type a p) (at_type b q) = ap (λ x. (s x).number) (A.types n k a b (sym p ∙ e ∙ q))

-- stages of one number
one_number : (s : Stage) (d : ℕ) → ((n : ℕ) → (s n).number ≢ 0 → (s n).number ≡ d) → (ns : List ℕ) → Untied ns s
one_number s d h ns n k m l f g e = h n f ∙ sym (h k g)

cond_number : (b : Bool) (d p : ℕ) → (cond b (fault d p) fine).number ≢ 0 → (cond b (fault d p) fine).number ≡ d
cond_number true d p h = refl
cond_number false d p h = absurd (h refl)

judged_place : (right : ℕ → Bool) (m : Meaning) (p : ℕ) → ((judged right m p).number ≡ 0) ⊎ ((judged right m p).place ≡ p)
judged_place right none p = inr refl
judged_place right several p = inr refl
judged_place right (one k) p = by (right k)
  where
    by : (b : Bool) → ((cond b fine (fault 11 p)).number ≡ 0) ⊎ ((cond b fine (fault 11 p)).place ≡ p)
    by true = inl refl
    by false = inr refl

module _ (t : Table) (n : ℕ) where
  judged_at : (right : ℕ → Bool) (m : Meaning) → speaks t n ≡ true → Placed t n (judged right m (place t n))
  judged_at right m h = ⊎_elim (λ z. nowhere z) (λ p. at_name h p) (judged_place right m (place t n))

  is_name : is t name n ≡ true → speaks t n ≡ true
  is_name h = rw h

  is_item : is t qualified_item n ≡ true → speaks t n ≡ true
  is_item h = rw (eqb-true (kind t n) qualified_item h)

  is_self : is t self n ≡ true → speaks t n ≡ true
  is_self h = or_left (is t name n || is t qualified_item n || is t self n) (is_scope_member t n) (or_right (is t name n || is t qualified_item n) (is t self n) h)

  type_name_fault_placed : Placed t n (type_name_fault t n)
  unfolding type_name_fault
  type_name_fault_placed = by (is t name n && not (is_use t n)) refl
    where
      by : (b : Bool) → is t name n && not (is_use t n) ≡ b → Placed t n (cond b (named_fault t n) fine)
      by true e = judged_at (right t n) (means t n) (is_name (and_fst (is t name n) (not (is_use t n)) e))
      by false e = nowhere refl

  qualified_placed : is t qualified_item n ≡ true → Placed t n (qualified t n)
  unfolding qualified
  qualified_placed h = by (eqb (judged (is_enumeration t) (type_meant t n) (place_at t (type_token t n))).number 0)
    where
      by : (b : Bool) → Placed t n (cond b (judged (λ k. true) (means t n) (place t n)) (judged (is_enumeration t) (type_meant t n) (place_at t (type_token t n))))
      by true = judged_at (λ k. true) (means t n) (is_item h)
      by false = ⊎_elim (λ z. nowhere z) (λ p. at_type h p) (judged_place (is_enumeration t) (type_meant t n) (place_at t (type_token t n)))

  expression_placed : Placed t n (expression t n)
  unfolding expression
  expression_placed = by (is_use t n) (is t qualified_item n) (is t self n && in_constant t n) (clashes t n) refl refl refl refl
    where
      by : (a b c d : Bool) → is_use t n ≡ a → is t qualified_item n ≡ b → is t self n && in_constant t n ≡ c → clashes t n ≡ d
          → Placed t n (cond a (named_fault t n) (cond b (qualified t n) (cond c (fault 11 (place t n)) (cond d (fault 12 (place t n)) fine))))
      by true b c d e f g h = judged_at (right t n) (means t n) (is_name (and_fst (is t name n) (eqb (role t n) in_expression) e))
      by false true c d e f g h = qualified_placed f
      by false false true d e f g h = at_name (is_self (and_fst (is t self n) (in_constant t n) g)) refl
      by false false false true e f g h =
          at_name (or_right (is t name n || is t qualified_item n || is t self n) (is_scope_member t n) (and_fst (is_scope_member t n) _ h)) refl
      by false false false false e f g h = nowhere refl

repeated_nine : (t : Table) (n : ℕ) → (repeated t n).number ≢ 0 → (repeated t n).number ≡ 9
unfolding repeated
repeated_nine t n h = cond_number (not (eqb (sort t n) 0) && any (alike t n) (span 0 n)) 9 (place t n) h

cyclic_thirteen : (t : Table) (p : ℕ → Bool) (es : List Edge) (n : ℕ) → (cyclic t p es n).number ≢ 0 → (cyclic t p es n).number ≡ 13
unfolding cyclic
cyclic_thirteen t p es n h = cond_number (p n && reaches es n n) 13 (place t n) h

untied : (t : Table) → Apart t → (s : Stage) → Memᴰ s (stages t) → Untied (nodes t) s
unfolding stages
untied t A s m =
    ⊎_elim (λ q. rw q (one_number (repeated t) 9 (repeated_nine t) (nodes t)))
    (λ m₁. ⊎_elim (λ q. rw q (placed_untied A (type_name_fault t) (type_name_fault_placed t) (nodes t)))
    (λ m₂. ⊎_elim (λ q. rw q (one_number (cyclic t (is_declaration t) (type_edges t)) 13 (cyclic_thirteen t (is_declaration t) (type_edges t)) (nodes t)))
    (λ m₃. ⊎_elim (λ q. rw q (placed_untied A (expression t) (expression_placed t) (nodes t)))
    (λ m₄. ⊎_elim (λ q. rw q (one_number (cyclic t (is t constant) (constant_edges t)) 13 (cyclic_thirteen t (is t constant) (constant_edges t)) (nodes t)))
    (λ m₅. absurd (Memᴰ.not-nil m₅)) (Memᴰ.cases_cons m₄)) (Memᴰ.cases_cons m₃)) (Memᴰ.cases_cons m₂)) (Memᴰ.cases_cons m₁)) (Memᴰ.cases_cons m)

-- THE FAULT of a file is one: whatever the least fault of its first stage with one is, it is `names`.
pub refused_once : (t : Table) → Apart t → (f : Fault) → StageFault (nodes t) f (stages t) → f ≡ names t
refused_once t A f r = names_only t (untied t A) f r

-- ---- a file that the grammar derives

-- tokens start one after the other
abbrev pub Rising : Table → Type 0
Rising t = (i j : ℕ) → i < j → j < length t.terminals → place_at t i < place_at t j

-- the sorts of nodes that speak, and those with a type's name two tokens before
abbrev speaking : ℕ → ℕ → Bool
speaking k o = eqb k name || eqb k qualified_item || eqb k self || ((eqb k attribute_name || eqb k derived_attribute) || eqb k rule && eqb o labelled)

abbrev prefixed : ℕ → ℕ → Bool
prefixed k o = eqb k qualified_item

-- the grammar names them by different tokens
once_each : (x : Nonterminal) → claims_once speaking prefixed (rules x) 0 ≡ true
once_each grammar.file = refl
once_each grammar.schema = refl
once_each grammar.constants = refl
once_each grammar.constant = refl
once_each grammar.base = refl
once_each grammar.type_declaration = refl
once_each grammar.underlying = refl
once_each grammar.where_clause = refl
once_each grammar.domain_rule = refl
once_each grammar.entity = refl
once_each grammar.attributes = refl
once_each grammar.derived = refl
once_each grammar.expression = refl
once_each grammar.sum = refl
once_each grammar.term = refl
once_each grammar.factor = refl
once_each grammar.operand = refl
once_each grammar.atom = refl
once_each grammar.interval = refl

behind_two : (ts c e : List ℕ) (i : ℕ) → Behind ts i (c ∷ e ∷ []) → 2 ≤ i
behind_two ts c e zero h = absurd h
behind_two ts c e (suc zero) h = absurd h.1
behind_two ts c e (suc (suc i)) h = omega arith

module _ {x : Nonterminal} {t : Table} (d : Read x t) (rise : Rising t) where
  claimed : Claimed speaking prefixed 0 (length t.terminals) d.rows
  claimed = text_claims speaking prefixed rules once_each t.terminals x (whole d.rows) d.parses

  -- a token at a place is one
  token_one : (i j : ℕ) → i < length t.terminals → j < length t.terminals → place_at t i ≡ place_at t j → i ≡ j
  token_one i j a b e = ⊎_elim (λ l. ⊎_elim (λ m. omega arith) (λ m. let z = rise j i m a in absurd (omega arith)) (le_or i j)) (λ l. let z = rise i j l b in absurd (omega arith)) (le_or j i)

  speaks_within : (n : ℕ) → speaks t n ≡ true → n < count t
  speaks_within n h = ⊎_elim (λ l. let k : kind t n ≡ 0 = get_or-eq_default t.kinds 0 l in absurd (false≢true (rw k at h))) (λ l. l) (le_or (count t) n)

  item_within : (n : ℕ) → is t qualified_item n ≡ true → n < count t
  item_within n h = speaks_within n (is_item t n h)

  known : (n : ℕ) → n < count t → n < length d.rows
  known n l = rw (count_is d) at l

  by_name : (n : ℕ) → speaks t n ≡ true → Claims speaking prefixed (row_at d.rows n) (token t n)
  by_name n h = named (rw (kind_is d n, role_is d n) at h) (sym (token_is d n))

  pub two_back : (n : ℕ) → is t qualified_item n ≡ true → 2 ≤ token t n
  two_back n h = behind_two t.terminals dot identifier (token t n) (item_behind d n (item_within n h) (eqb-true (kind t n) qualified_item h))

  by_type : (n : ℕ) → is t qualified_item n ≡ true → Claims speaking prefixed (row_at d.rows n) (type_token t n)
  by_type n h = two_before (rw (kind_is d n) at h) (let a = two_back n h in let b = token_is d n in omega arith)

  -- NAMES STAND APART
  pub read_apart : Apart t
  read_apart = record {
    names = λ n k a b e.
        let l = known n (speaks_within n a) in
        let m = known k (speaks_within k b) in
        let q = token_one (token t n) (token t k) (claimed.inside n (token t n) l (by_name n a)).1 (claimed.inside k (token t k) m (by_name k b)).1 e in
        claimed.apart n k (token t n) l m (by_name n a) (rw (sym q) at (by_name k b));
    types = λ n k a b e.
        let l = known n (item_within n a) in
        let m = known k (item_within k b) in
        let q = token_one (type_token t n) (type_token t k) (claimed.inside n (type_token t n) l (by_type n a)).1 (claimed.inside k (type_token t k) m (by_type k b)).1 e in
        claimed.apart n k (type_token t n) l m (by_type n a) (subst (λ (y : ℕ). Claims speaking prefixed (row_at d.rows k) y) (sym q) (by_type k b));
    between = λ n k a b e.
        let l = known n (item_within n a) in
        let m = known k (speaks_within k b) in
        let q = token_one (type_token t n) (token t k) (claimed.inside n (type_token t n) l (by_type n a)).1 (claimed.inside k (token t k) m (by_name k b)).1 e in
        let z = claimed.apart n k (type_token t n) l m (by_type n a) (subst (λ (y : ℕ). Claims speaking prefixed (row_at d.rows k) y) (sym q) (by_name k b)) in
        let y = ap (token t) z in
        let u = two_back n a in omega arith;
  }

  -- so in a file that the grammar derives the fault is one
  pub fault_once : (f : Fault) → StageFault (nodes t) f (stages t) → f ≡ names t
  fault_once f r = refused_once t read_apart f r
