-- Entries counted by sums of tests, and the nodes of a block one after the other.
use mathlib.Core.Path.{◌≡◌, refl}
use mathlib.Core.Logic.{◌⊎◌, inl, inr, ⊎_elim}
use mathlib.Core.Bool.{Bool, true, false, cond, ◌&&◌}
use mathlib.Core.List.{List, []}
use Prim.Native.Nat.{ℕ, ◌+◌, ◌≤◌, ◌<◌}
use native.Mathlib.Omega.{arith}
use borrow.Author.Tests.{eqb-true}
use lib.Dec.{eqb}
use lib.ListN.{get_or}
use Rattle.express.specs.Syntax.NodeKind.{name, enumeration_item, constant, type, attribute_name, derived_attribute, rule, entity, schema, labelled, supertype_name}
use Rattle.express.specs.Names.Fault.{sort}
use Rattle.scopes.specs.Entries.{radix, is_other, members, supertypes, none}
use Rattle.scopes.specs.Standing.{table_of, declares, sort_by, entry_count, class_of, MoreBy}
use Rattle.scopes.specs.declared.Counts.{Counts}
use Rattle.scopes.proofs.Passing.{vertex_step, others_step, counted_starts, counted_step, counted_small, one_or_none}
use Rattle.preparation.specs.Counting.{CountedTo}

-- ---- what a node adds, as a sum of tests: a kind passes one of them or none

is_or_not : (k c : ℕ) → (k ≡ c) ⊎ (eqb k c ≡ false)
is_or_not k c = by (eqb k c) refl
  where
    by : (b : Bool) → eqb k c ≡ b → (k ≡ c) ⊎ (eqb k c ≡ false)
    by true e = inl (eqb-true k c e)
    by false e = inr e

abbrev one : Bool → ℕ
one b = cond b 1 0

pub declarations_sum : (k : ℕ) → one (eqb k constant) + one (eqb k type) + one (eqb k entity) ≡ cond (declares k) 1 0
declarations_sum k =
    ⊎_elim (λ (q : k ≡ constant). rw q refl) (λ (a : eqb k constant ≡ false).
    ⊎_elim (λ (q : k ≡ type). rw q refl) (λ (b : eqb k type ≡ false).
    ⊎_elim (λ (q : k ≡ entity). rw q refl) (λ (c : eqb k entity ≡ false). rw (a, b, c) refl)
    (is_or_not k entity)) (is_or_not k type)) (is_or_not k constant)

abbrev sum : ℕ → ℕ → ℕ
sum k r =
    one (eqb k schema) + one (eqb k enumeration_item) + (one (eqb k attribute_name) + one (eqb k derived_attribute)) + one (eqb k rule && eqb r labelled)
    + one (eqb k name && eqb r supertype_name)

labelled_sum : (b : Bool) → 0 + one b + 0 ≡ entry_count (cond b members none)
labelled_sum true = refl
labelled_sum false = refl

supertype_sum : (b : Bool) → 0 + one b ≡ entry_count (cond b supertypes none)
supertype_sum true = refl
supertype_sum false = refl

pub others_sum : (k r : ℕ) → sum k r ≡ entry_count (sort_by k r)
others_sum k r =
    ⊎_elim (λ (q : k ≡ schema). rw q refl) (λ (a : eqb k schema ≡ false).
    ⊎_elim (λ (q : k ≡ constant). rw q refl) (λ (b : eqb k constant ≡ false).
    ⊎_elim (λ (q : k ≡ type). rw q refl) (λ (c : eqb k type ≡ false).
    ⊎_elim (λ (q : k ≡ entity). rw q refl) (λ (d : eqb k entity ≡ false).
    ⊎_elim (λ (q : k ≡ enumeration_item). rw q refl) (λ (e : eqb k enumeration_item ≡ false).
    ⊎_elim (λ (q : k ≡ attribute_name). rw q refl) (λ (f : eqb k attribute_name ≡ false).
    ⊎_elim (λ (q : k ≡ derived_attribute). rw q refl) (λ (g : eqb k derived_attribute ≡ false).
    ⊎_elim (λ (q : k ≡ rule). rw q (labelled_sum (eqb r labelled))) (λ (h : eqb k rule ≡ false).
    ⊎_elim (λ (q : k ≡ name). rw q (supertype_sum (eqb r supertype_name))) (λ (i : eqb k name ≡ false). rw (a, b, c, d, e, f, g, h, i) refl)
    (is_or_not k name)) (is_or_not k rule)) (is_or_not k derived_attribute)) (is_or_not k attribute_name)) (is_or_not k enumeration_item))
    (is_or_not k entity)) (is_or_not k type)) (is_or_not k constant)) (is_or_not k schema)

-- ---- in a block: so many entries are counted since its first node

pub record Adding (kinds roles : List ℕ) (from : ℕ) (before : Counts) (i d o : ℕ) : Type 0 where
  pub few : d + from ≤ i
  pub less : o + from ≤ i
  pub counted : CountedTo kinds roles i (record { declarations = before.declarations + d; others = before.others + o })

module _ {kinds roles : List ℕ} {from : ℕ} {before : Counts} where
  pub adding_starts : CountedTo kinds roles from before → Adding kinds roles from before from 0 0
  adding_starts C =
      record {
        few = omega arith;
        less = omega arith;
        counted = record {
          is = λ k s. record { declarations_is = omega (arith, (C.is k s).declarations_is); others_is = omega (arith, (C.is k s).others_is) };
        };
      }

  pub adding_goes_on :
      {i d o x y : ℕ} → Adding kinds roles from before i d o → x ≡ cond (declares (get_or kinds i 0)) 1 0 →
      y ≡ entry_count (sort_by (get_or kinds i 0) (get_or roles i 0)) → Adding kinds roles from before (i + 1) (d + x) (o + y)
  unfolding sort
  adding_goes_on {i} {d} {o} {x} {y} A e f =
      record {
        few = omega (arith, A.few, e, one_or_none (declares (get_or kinds i 0)));
        less = omega (arith, A.less, f, one_or_none (is_other (sort_by (get_or kinds i 0) (get_or roles i 0))));
        counted = record {
          is = λ k s. record {
            declarations_is = omega (arith, (A.counted.is k s).declarations_is, e, vertex_step (table_of kinds k roles s) i);
            others_is = omega (arith, (A.counted.is k s).others_is, f, others_step (table_of kinds k roles s) i);
          };
        };
      }

  pub adding_ends :
      {i to d o x y : ℕ} {c : Counts} → Adding kinds roles from before i d o → i ≤ to → to ≤ i → x ≡ d → y ≡ o → c.declarations ≡ before.declarations + x →
      c.others ≡ before.others + y → CountedTo kinds roles to c
  adding_ends {i} {to} A l g e f p q =
      let w : i ≡ to = omega arith in
      let C = rw w at A.counted in
      record {
        is = λ k s. record { declarations_is = omega (arith, p, e, (C.is k s).declarations_is); others_is = omega (arith, q, f, (C.is k s).others_is) };
      }

-- ---- the nodes as a whole

pub counting_starts : (kinds roles : List ℕ) {c : Counts} → c.declarations ≡ 0 → c.others ≡ 0 → CountedTo kinds roles 0 c
counting_starts kinds roles d o = record { is = λ k s. counted_starts _ d o }

pub counting_small : {kinds roles : List ℕ} {i : ℕ} {c : Counts} → CountedTo kinds roles i c → i < radix → (c.declarations < radix) × (c.others < radix)
counting_small C l = counted_small (C.is [] []) l

pub counting_class :
    {kinds roles : List ℕ} {i class : ℕ} {c c' : Counts} → CountedTo kinds roles i c → class ≡ class_of (sort_by (get_or kinds i 0) (get_or roles i 0)) →
    MoreBy class c c' → CountedTo kinds roles (i + 1) c'
counting_class C e M = record { is = λ k s. counted_step (C.is k s) e M }
