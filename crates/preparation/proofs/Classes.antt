-- The table of classes: what its entries say of a kind and a role.
use mathlib.Core.Path.{◌≡◌, refl, ap, ◌∙◌}
use mathlib.Core.Logic.{⊎_elim}
use mathlib.Core.Bool.{Bool, false, cond, ◌&&◌}
use mathlib.Core.List.{List}
use Prim.Native.Nat.{ℕ, ◌+◌, ◌*◌, ◌-◌, ◌/◌, ◌%◌, ◌≤◌, ◌<◌}
use native.Mathlib.Omega.{arith}
use borrow.Author.Tests.{ne_eqb, leb-false}
use lib.Dec.{eqb, leb}
use lib.ListN.{get_or}
use Rattle.columns.proofs.Laws.{tabulated_at}
use Rattle.ebnf.proofs.Sets.{or_none}
use Rattle.relations.proofs.Select.{le_or}
use Rattle.express.specs.Syntax.NodeKind.{name, enumeration_item, constant, type, attribute_name, derived_attribute, rule, entity, schema, labelled, supertype_name}
use Rattle.scopes.specs.Entries.{schemas, declared, sorts}
use Rattle.scopes.specs.Standing.{declares, sort_by, entry_count, class_of, first_letter, class_table, PassedBy, MoreBy}
use Rattle.scopes.specs.declared.Here.{Here}
use Rattle.scopes.specs.declared.Counts.{Counts}
use Rattle.preparation.specs.Declaring.{may_declare}
use Rattle.scopes.proofs.Sorting.{sort_schema, sort_declares, sort_small}

-- ---- the parts of a class
module _ (class k r : ℕ) (e : class ≡ class_of (sort_by k r)) where
  pub class_sort : class % sorts ≡ sort_by k r
  class_sort = omega (arith, e, sort_small k r)

  pub class_entries : class / sorts ≡ entry_count (sort_by k r)
  class_entries = omega (arith, e, sort_small k r)

  class_schema : eqb (class % sorts) schemas ≡ eqb k schema
  class_schema = ap (λ (s : ℕ). eqb s schemas) class_sort ∙ sort_schema k r

  class_declares : eqb (class % sorts) declared ≡ declares k
  class_declares = ap (λ (s : ℕ). eqb s declared) class_sort ∙ sort_declares k r

-- by the sort that was read in the class, and the numbers that the calls gave
module _ {class sort m : ℕ} (q : sort ≡ class % sorts) (w : m ≡ class / sorts) where
  pub passed_by :
      {n p : ℕ} {after h : Here} → h.owner ≡ cond (eqb sort declared) n after.owner → h.schema ≡ cond (eqb sort schemas) n after.schema →
      p ≡ cond (eqb sort declared) 1 0 → h.vertex ≡ after.vertex - p → h.other ≡ after.other - m → PassedBy class n after h
  passed_by {n} {p} {after} {h} o s one v x =
      record {
        is = λ k r e. record {
          owner_is = o ∙ ap (λ (b : Bool). cond b n after.owner) (read k r e);
          schema_is = s ∙ ap (λ (b : Bool). cond b n after.schema) (ap (λ (y : ℕ). eqb y schemas) q ∙ class_schema class k r e);
          vertex_is = v ∙ ap (λ (y : ℕ). after.vertex - y) (one ∙ ap (λ (b : Bool). cond b 1 0) (read k r e));
          other_is = x ∙ ap (λ (y : ℕ). after.other - y) (w ∙ class_entries class k r e);
        };
      }
    where
      read : (k r : ℕ) → class ≡ class_of (sort_by k r) → eqb sort declared ≡ declares k
      read k r e = ap (λ (y : ℕ). eqb y declared) q ∙ class_declares class k r e

  pub more_by :
      {p : ℕ} {before c : Counts} → p ≡ cond (eqb sort declared) 1 0 → c.declarations ≡ before.declarations + p → c.others ≡ before.others + m → MoreBy class before c
  more_by {p} {before} one d o =
      record {
        is = λ k r e. record {
          declarations_is =
              d ∙ ap (λ (y : ℕ). before.declarations + y) (one ∙ ap (λ (b : Bool). cond b 1 0) (ap (λ (y : ℕ). eqb y declared) q ∙ class_declares class k r e));
          others_is = o ∙ ap (λ (y : ℕ). before.others + y) (w ∙ class_entries class k r e);
        };
      }

-- a node of class 0 changes nothing
pub passed_nothing : {class n : ℕ} {after : Here} → class ≡ 0 → PassedBy class n after after
passed_nothing {class} {n} {after} z =
    rw z (passed_by {class = 0} {sort = 0} {m = 0} refl refl {n = n} {p = 0} {after = after} {h = after} refl refl refl (omega arith) (omega arith))

-- ---- the table

-- a role from 7 on is that of no label and no supertype
same_column : (k r : ℕ) → 7 ≤ r → sort_by k 7 ≡ sort_by k r
same_column k r l = rw (ne_eqb r labelled (λ q. omega (arith, q)), ne_eqb r supertype_name (λ q. omega (arith, q)))

pub class_high : (k r : ℕ) → 32 ≤ k → 0 ≡ class_of (sort_by k r)
class_high k r l =
    rw (
      ne_eqb k schema (λ q. omega (arith, q)),
      ne_eqb k constant (λ q. omega (arith, q)),
      ne_eqb k type (λ q. omega (arith, q)),
      ne_eqb k entity (λ q. omega (arith, q)),
      ne_eqb k enumeration_item (λ q. omega (arith, q)),
      ne_eqb k attribute_name (λ q. omega (arith, q)),
      ne_eqb k derived_attribute (λ q. omega (arith, q)),
      ne_eqb k rule (λ q. omega (arith, q)),
      ne_eqb k name (λ q. omega (arith, q)),
    )

-- what may not declare is of class 0
pub class_plain : (k r : ℕ) → may_declare k r ≡ false → 0 ≡ class_of (sort_by k r)
class_plain k r e =
    let o = or_none (eqb k name && eqb r supertype_name) (leb enumeration_item k) e in
    let l = leb-false enumeration_item k o.1 in
    rw (
      ne_eqb k schema (λ q. omega (arith, q, l)),
      ne_eqb k constant (λ q. omega (arith, q, l)),
      ne_eqb k type (λ q. omega (arith, q, l)),
      ne_eqb k entity (λ q. omega (arith, q, l)),
      ne_eqb k enumeration_item (λ q. omega (arith, q, l)),
      ne_eqb k attribute_name (λ q. omega (arith, q, l)),
      ne_eqb k derived_attribute (λ q. omega (arith, q, l)),
      ne_eqb k rule (λ q. omega (arith, q, l)),
      o.0,
    )

module _ (t : List ℕ) (is : t ≡ class_table) (k : ℕ) (l : k < 32) where
  at_column : (c i : ℕ) → c < 8 → i ≡ k * 8 + c → get_or t i 0 ≡ first_letter + class_of (sort_by k c)
  unfolding class_table
  at_column c i h e =
      let q : (0 + i) / 8 ≡ k = omega (arith, e) in
      let p : (0 + i) % 8 ≡ c = omega (arith, e) in
      rw is (tabulated_at (λ j. first_letter + class_of (sort_by (j / 8) (j % 8))) 0 256 i (omega (arith, e, l)) ∙ rw (q, p))

  pub class_at : (r c i : ℕ) → (7 ≤ r → c ≡ 7) → (r < 7 → c ≡ r) → i ≡ k * 8 + c → get_or t i 0 ≡ first_letter + class_of (sort_by k r)
  class_at r c i high low e =
      ⊎_elim
      (λ h. let q = high h in at_column c i (omega (arith, q)) e ∙ ap (λ (x : ℕ). first_letter + class_of (sort_by k x)) q ∙ ap (λ (s : ℕ). first_letter + class_of s) (same_column k r h))
      (λ h. let q = low h in at_column c i (omega (arith, q, h)) e ∙ ap (λ (x : ℕ). first_letter + class_of (sort_by k x)) q) (le_or 7 r)
