-- Keys are equal exactly if their parts are; and what the sort of a node says of its kind.
use mathlib.Core.Path.{◌≡◌, refl, sym, ap, ◌∙◌}
use mathlib.Core.Logic.{◌⊎◌, inl, inr, ⊎_elim}
use mathlib.Core.Bool.{Bool, true, false, cond, ◌&&◌, ◌||◌, false≢true}
use Prim.Native.Nat.{ℕ, ◌+◌, ◌*◌, ◌-◌, ◌%◌, ◌≤◌, ◌<◌}
use native.Mathlib.Omega.{arith}
use borrow.Author.Tests.{eqb-true, eq-eqb}
use lib.Dec.{eqb, leb}
use Rattle.relations.proofs.Select.{and_fst, and_snd, and_both, or_cases, untrue, first_is}
use Rattle.express.specs.Syntax.NodeKind.{name, enumeration_item, constant, type, attribute_name, derived_attribute, rule, entity, schema, labelled, supertype_name}
use Rattle.express.specs.Syntax.Tree.{Table, count, kind, role, is, is_declaration, is_scope_member, owner, schema_of}
use Rattle.express.specs.Names.Fault.{sort, scope}
use Rattle.scopes.specs.Entries.{schemas, declared, items_of_types, members, sorts, radix, key_of}
use Rattle.scopes.specs.Standing.{declares, is_member, sort_by}

pub same_test : (a b : Bool) → (a ≡ true → b ≡ true) → (b ≡ true → a ≡ true) → a ≡ b
same_test true b f g = sym (f refl)
same_test false b f g = sym (untrue b (λ e. false≢true (g e)))

module _ (a h s b g r : ℕ) (hs : h < radix) (ss : s < radix) (gs : g < radix) (rs : r < radix) where
  pub key_parts : key_of a h s ≡ key_of b g r → (a ≡ b) × (h ≡ g) × (s ≡ r)
  unfolding key_of
  key_parts e =
      let p : a * radix + h ≡ b * radix + g = omega arith in
      let q : a ≡ b = omega arith in
      (q, omega arith, omega arith)

  pub key_test : eqb (key_of a h s) (key_of b g r) ≡ (eqb a b && (eqb h g && eqb s r))
  key_test =
      same_test _ _
      (λ e. let p = key_parts (eqb-true _ _ e) in and_both _ _ (eq-eqb a b p.0) (and_both _ _ (eq-eqb h g p.1) (eq-eqb s r p.2)))
      (λ e.
      let p : a ≡ b = eqb-true a b (and_fst (eqb a b) (eqb h g && eqb s r) e) in
      let q = and_snd (eqb a b) (eqb h g && eqb s r) e in
      let h' : h ≡ g = eqb-true h g (and_fst (eqb h g) (eqb s r) q) in
      let s' : s ≡ r = eqb-true s r (and_snd (eqb h g) (eqb s r) q) in
      eq-eqb (key_of a h s) (key_of b g r) (cc))

-- within the bounds nothing is cut off
pub key_within : (a h s : ℕ) {k : ℕ} → k ≡ key_of (a % sorts) (h % radix) s → a < sorts → h < radix → k ≡ key_of a h s
key_within a h s e low small =
    let p : a % sorts ≡ a = omega arith in
    let q : h % radix ≡ h = omega arith in
    e ∙ ap (λ (x : ℕ). key_of x (h % radix) s) p ∙ ap (λ (x : ℕ). key_of a x s) q

-- the key of a sort is not 0
pub key_some : (a h s : ℕ) → 0 < a → 0 < key_of a h s
unfolding key_of
key_some a h s l = omega arith

-- ---- the sort, by tests that exclude each other

abbrev choice : Bool → Bool → Bool → Bool → Bool → ℕ
choice a b c d e = cond a 1 (cond b 2 (cond c 3 (cond d 4 (cond e 5 0))))

choice_one : (a b c d e : Bool) → eqb (choice a b c d e) 1 ≡ a
choice_one true b c d e = refl
choice_one false true c d e = refl
choice_one false false true d e = refl
choice_one false false false true e = refl
choice_one false false false false true = refl
choice_one false false false false false = refl

choice_two : (a b c d e : Bool) → (b ≡ true → a ≡ false) → eqb (choice a b c d e) 2 ≡ b
choice_two true true c d e h = absurd (false≢true (sym (h refl)))
choice_two true false c d e h = refl
choice_two false true c d e h = refl
choice_two false false true d e h = refl
choice_two false false false true e h = refl
choice_two false false false false true h = refl
choice_two false false false false false h = refl

choice_three : (a b c d e : Bool) → (c ≡ true → (a ≡ false) × (b ≡ false)) → eqb (choice a b c d e) 3 ≡ c
choice_three true b true d e h = absurd (false≢true (sym (h refl).0))
choice_three true b false d e h = refl
choice_three false true true d e h = absurd (false≢true (sym (h refl).1))
choice_three false true false d e h = refl
choice_three false false true d e h = refl
choice_three false false false true e h = refl
choice_three false false false false true h = refl
choice_three false false false false false h = refl

choice_four : (a b c d e : Bool) → (d ≡ true → (a ≡ false) × (b ≡ false) × (c ≡ false)) → eqb (choice a b c d e) 4 ≡ d
choice_four true b c true e h = absurd (false≢true (sym (h refl).0))
choice_four true b c false e h = refl
choice_four false true c true e h = absurd (false≢true (sym (h refl).1))
choice_four false true c false e h = refl
choice_four false false true true e h = absurd (false≢true (sym (h refl).2))
choice_four false false true false e h = refl
choice_four false false false true e h = refl
choice_four false false false false true h = refl
choice_four false false false false false h = refl

choice_small : (a b c d e : Bool) → choice a b c d e ≤ 5
choice_small true b c d e = omega arith
choice_small false true c d e = omega arith
choice_small false false true d e = omega arith
choice_small false false false true e = omega arith
choice_small false false false false true = omega arith
choice_small false false false false false = omega arith

module _ (k r : ℕ) where
  declares_kind : declares k ≡ true → (k ≡ constant) ⊎ (k ≡ type) ⊎ (k ≡ entity)
  declares_kind e =
      ⊎_elim
      (λ a. ⊎_elim (λ b. inl (eqb-true k constant b)) (λ b. inr (inl (eqb-true k type b))) (or_cases (eqb k constant) (eqb k type) a))
      (λ a. inr (inr (eqb-true k entity a))) (or_cases (eqb k constant || eqb k type) (eqb k entity) e)

  abbrev is_schema : Bool
  is_schema = eqb k schema

  abbrev is_item : Bool
  is_item = eqb k enumeration_item

  abbrev is_super : Bool
  is_super = eqb k name && eqb r supertype_name

  pub sort_schema : eqb (sort_by k r) schemas ≡ eqb k schema
  sort_schema = choice_one is_schema (declares k) is_item (is_member k r) is_super

  pub sort_declares : eqb (sort_by k r) declared ≡ declares k
  sort_declares =
      choice_two is_schema (declares k) is_item (is_member k r) is_super
      (λ e. ⊎_elim (λ (q : k ≡ constant). rw q) (λ s. ⊎_elim (λ (q : k ≡ type). rw q) (λ (q : k ≡ entity). rw q) s) (declares_kind e))

  pub sort_item : eqb (sort_by k r) items_of_types ≡ eqb k enumeration_item
  sort_item = choice_three is_schema (declares k) is_item (is_member k r) is_super (λ e. let q : k ≡ enumeration_item = eqb-true k enumeration_item e in (rw q, rw q))

  member_kind : is_member k r ≡ true → (k ≡ attribute_name) ⊎ (k ≡ derived_attribute) ⊎ (k ≡ rule)
  member_kind e =
      ⊎_elim
      (λ a. ⊎_elim (λ b. inl (eqb-true k attribute_name b)) (λ b. inr (inl (eqb-true k derived_attribute b))) (or_cases (eqb k attribute_name) (eqb k derived_attribute) a))
      (λ a. inr (inr (eqb-true k rule (and_fst (eqb k rule) (eqb r labelled) a)))) (or_cases (eqb k attribute_name || eqb k derived_attribute) (eqb k rule && eqb r labelled) e)

  pub sort_member : eqb (sort_by k r) members ≡ is_member k r
  sort_member =
      choice_four is_schema (declares k) is_item (is_member k r) is_super
      (λ e.
      ⊎_elim (λ (q : k ≡ attribute_name). (rw q, rw q, rw q))
      (λ s. ⊎_elim (λ (q : k ≡ derived_attribute). (rw q, rw q, rw q)) (λ (q : k ≡ rule). (rw q, rw q, rw q)) s) (member_kind e))

  pub sort_small : sort_by k r ≤ 5
  sort_small = choice_small is_schema (declares k) is_item (is_member k r) is_super

-- ---- of a node

module _ (t : Table) (n : ℕ) where
  pub sort_is : sort t n ≡ sort_by (kind t n) (role t n)
  unfolding sort
  sort_is = refl

  pub declared_sort : eqb (sort t n) declared ≡ is_declaration t n
  unfolding sort
  declared_sort = sort_declares (kind t n) (role t n)

  pub item_sort : eqb (sort t n) items_of_types ≡ is t enumeration_item n
  unfolding sort
  item_sort = sort_item (kind t n) (role t n)

  pub member_sort : eqb (sort t n) members ≡ is_scope_member t n
  unfolding sort
  member_sort = sort_member (kind t n) (role t n)

  pub sort_below : sort t n ≤ 5
  unfolding sort
  sort_below = sort_small (kind t n) (role t n)

  pub owner_below : n ≤ count t → owner t n ≤ count t
  unfolding owner
  owner_below l = let F = first_is (is_declaration t) n (count t - n) in omega (arith, F.upto)

  pub schema_below : n ≤ count t → schema_of t n ≤ count t
  unfolding schema_of
  schema_below l = let F = first_is (is t schema) n (count t - n) in omega (arith, F.upto)

  pub scope_below : n ≤ count t → scope t n ≤ count t
  unfolding scope
  scope_below l = by (leb (sort t n) 1) (eqb (sort t n) 2) (schema_below l) (owner_below l)
    where
      by : (a b : Bool) → schema_of t n ≤ count t → owner t n ≤ count t → cond a 0 (cond b (schema_of t n) (owner t n)) ≤ count t
      by true b g h = omega arith
      by false true g h = g
      by false false g h = h
