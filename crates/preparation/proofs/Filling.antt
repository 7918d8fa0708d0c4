-- The columns of keys and nodes, filled from the last node to the first.
use mathlib.Core.Path.{◌≡◌, refl, sym, ap, ◌∙◌}
use mathlib.Core.Bool.{Bool, true, false, cond, not}
use mathlib.Core.List.{List, [], ◌∷◌, ◌++◌, map, map-append}
use Prim.Native.Nat.{ℕ, zero, suc, ◌+◌, ◌*◌, ◌-◌, ◌%◌, ◌≤◌, ◌<◌}
use native.Mathlib.Omega.{arith}
use borrow.Author.Tests.{ne_eqb}
use lib.Dec.{eqb, leb}
use lib.ListN.{length, length-map, set, get_or}
use lib.Seq.{sets, set_comm, length-sets}
use Rattle.columns.proofs.Laws.{sets_append}
use Rattle.relations.specs.Select.{span, keep}
use Rattle.relations.proofs.Select.{span_step, span_end}
use Rattle.express.specs.Syntax.Tree.{Table, count, nodes, kind, role, symbol, is_declaration, owner}
use Rattle.express.specs.Names.Fault.{sort, scope}
use Rattle.scopes.specs.Entries.{none, schemas, declared, sorts, radix, key_of, Entry, own_entry, declares_other, entries, vertex, others_before}
use Rattle.scopes.specs.Standing.{sort_by, class_of, Stands, PassedBy, Ended, Counted}
use Rattle.scopes.specs.Preparation.{Consistent, Enterable, Entered, Filled, scope_by, entry_if, own_by}
use Rattle.scopes.specs.declared.Here.{Here}
use Rattle.scopes.specs.declared.Counts.{Counts}
use Rattle.scopes.proofs.Sorting.{key_within, sort_is, declared_sort, sort_below, owner_below, schema_below}
use Rattle.scopes.specs.NoneFrom.{NoneFrom}
use Rattle.preparation.specs.Declaring.{may_declare}
use Rattle.preparation.proofs.Classes.{class_sort, class_plain, passed_nothing}
use Rattle.scopes.proofs.Passing.{stands_end, stands_step, vertex_step, vertex_le, vertex_small, vertex_none, others_step, others_none, others_small}

-- ---- stores, the later place first
module _ {A : Type 0} where
  sets_set : (c : List A) (i : ℕ) (v : A) (j : ℕ) (b : List A) → i < j → set (sets c j b) i v ≡ sets (set c i v) j b
  sets_set c i v j [] l = refl
  sets_set c i v j (x ∷ b) l =
      sets_set (set c j x) i v (suc j) b (omega arith)
      ∙ ap (λ (d : List A). sets d (suc j) b) (set_comm c j i x v (λ e. omega (arith, e)))

  sets_swap : (c : List A) (i : ℕ) (a : List A) (j : ℕ) (b : List A) → i + length a ≤ j → sets (sets c j b) i a ≡ sets (sets c i a) j b
  sets_swap c i [] j b l = refl
  sets_swap c i (v ∷ a) j b l =
      ap (λ (d : List A). sets d (suc i) a) (sets_set c i v j b (omega arith))
      ∙ sets_swap (set c i v) (suc i) a j b (omega arith)

  sets_before : (c : List A) (i : ℕ) (a b : List A) → sets (sets c (i + length a) b) i a ≡ sets c i (a ++ b)
  sets_before c i a b = sets_swap c i a (i + length a) b (omega arith) ∙ sym (sets_append c i a b)

  -- a node's entries of both parts, before those of the later nodes
  pub sets_both :
      (c : List A) (v v' o o' : ℕ) (d e p q : List A) → v + length d ≡ v' → o + length p ≡ o' → v' ≤ o' →
      sets (sets (sets (sets c v' e) o' q) v d) o p ≡ sets (sets c v (d ++ e)) o (p ++ q)
  sets_both c v v' o o' d e p q l m h =
      ap (λ (x : List A). sets x o p) (sets_swap (sets c v' e) v d o' q (omega arith))
      ∙ rw (← l, ← m) (ap (λ (x : List A). sets (sets x (o + length p) q) o p) (sets_before c v d e) ∙ sets_before (sets c v (d ++ e)) o p q)

-- ---- the entries of the nodes that pass a test
module _ (t : Table) (p : ℕ → Bool) where
  -- of the nodes from i on, and of node i
  abbrev pub entries_from : ℕ → List Entry
  entries_from i = map (own_entry t) (keep p (span i (count t - i)))

  abbrev pub mine : ℕ → List Entry
  mine i = entry_if (p i) (own_entry t i)

  module _ (f : Entry → ℕ) (i : ℕ) where
    mine_long : length (map f (mine i)) ≡ cond (p i) 1 0
    mine_long = by (p i)
      where
        by : (b : Bool) → length (map f (entry_if b (own_entry t i))) ≡ cond b 1 0
        by true = refl
        by false = refl

    from_split : i < count t → map f (entries_from i) ≡ map f (mine i) ++ map f (entries_from (i + 1))
    unfolding keep
    from_split l = rw (span_step (count t) i l) (by (p i))
      where
        rest : List ℕ
        rest = keep p (span (i + 1) (count t - (i + 1)))

        by : (b : Bool) → map f (map (own_entry t) (cond b (i ∷ rest) rest)) ≡ map f (entry_if b (own_entry t i)) ++ map f (map (own_entry t) rest)
        by true = refl
        by false = refl

-- among the declarations, and behind them
module _ (t : Table) where
  abbrev pub declared_from : ℕ → List Entry
  declared_from = entries_from t (is_declaration t)

  abbrev pub others_from : ℕ → List Entry
  others_from = entries_from t (declares_other t)

  abbrev pub place : ℕ → ℕ
  place i = vertex t (count t) + others_before t i

module _ (t : Table) (f : Entry → ℕ) where
  abbrev declared_all : List Entry
  declared_all = map (own_entry t) (keep (is_declaration t) (nodes t))

  abbrev others_all : List Entry
  others_all = map (own_entry t) (keep (declares_other t) (nodes t))

  declared_long : 0 + length (map f declared_all) ≡ vertex t (count t)
  unfolding vertex
  declared_long = omega (arith, length-map declared_all f, length-map (keep (is_declaration t) (nodes t)) (own_entry t))

  entries_map : map f (entries t) ≡ map f declared_all ++ map f others_all
  unfolding entries
  entries_map = ap (map f) (map-append (own_entry t) (keep (is_declaration t) (nodes t)) (keep (declares_other t) (nodes t))) ∙ map-append f declared_all others_all

-- a column after the stores of a node, by its place in the file
abbrev pub stored : (Entry → ℕ) → Table → ℕ → List ℕ → List ℕ
stored f t i column = sets (sets column (vertex t i) (map f (mine t (is_declaration t) i))) (place t i) (map f (mine t (declares_other t) i))

pub record Filling (f : Entry → ℕ) (t : Table) (was column : List ℕ) (i : ℕ) : Type 0 where
  pub is : column ≡ sets (sets was (vertex t i) (map f (declared_from t i))) (place t i) (map f (others_from t i))

-- where a node stands, its store is that of its entry
pub entered_at :
    {f : Entry → ℕ} {t : Table} {i s y at : ℕ} {h : Here} {a b : List ℕ} → Stands t i h → s ≡ sort t i → y ≡ symbol t i → at ≡ place t i →
    Entered f s h.schema h.owner h.vertex at y i a b → b ≡ stored f t i a
unfolding scope
entered_at {f} {t} {i} {s} {y} {at} {h} {a} {b} S e k p E =
    let r : b ≡ sets (sets a (vertex t i) (map f (entry_if (eqb (sort t i) declared) (own_entry t i)))) (place t i) (map f (mine t (declares_other t) i)) =
    rw (e, k, p, S.schema_is, S.owner_is, S.vertex_is) at E.is
    in
    r ∙ ap (λ (d : Bool). sets (sets a (vertex t i) (map f (entry_if d (own_entry t i)))) (place t i) (map f (mine t (declares_other t) i))) (declared_sort t i)

starts : (f : Entry → ℕ) (t : Table) (was : List ℕ) → was ≡ sets (sets was (vertex t (count t)) (map f (declared_from t (count t)))) (place t (count t)) (map f (others_from t (count t)))
unfolding keep
starts f t was = rw (span_end (count t) (count t) (omega arith))

module _ {f : Entry → ℕ} {t : Table} {was : List ℕ} where
  pub filling_starts : Filling f t was was (count t)
  filling_starts = record { is = starts f t was }

  pub filling_goes_on :
      {i : ℕ} {column column' : List ℕ} → i < count t → Filling f t was column (i + 1) → column' ≡ stored f t i column → Filling f t was column' i
  filling_goes_on {i} {column} {column'} l F e =
      record {
        is =
            e
            ∙ ap (stored f t i) F.is
            ∙ sets_both was (vertex t i) (vertex t (i + 1)) (place t i) (place t (i + 1)) (map f (mine t (is_declaration t) i)) (map f (declared_from t (i + 1)))
            (map f (mine t (declares_other t) i)) (map f (others_from t (i + 1)))
            (omega (arith, mine_long t (is_declaration t) f i, vertex_step t i))
            (omega (arith, mine_long t (declares_other t) f i, others_step t i))
            (omega (arith, vertex_le t (i + 1) (count t) (omega arith)))
            ∙ rw (from_split t (is_declaration t) f i l, from_split t (declares_other t) f i l);
      }

  pub filling_ends : {i : ℕ} {column : List ℕ} → Filling f t was column i → i ≤ 0 → Filled f t was column
  filling_ends {i} {column} F l = record { is = whole }
    where
      z : i ≡ 0
      z = omega arith

      first : column ≡ sets (sets was 0 (map f (declared_all t f))) (vertex t (count t)) (map f (others_all t f))
      first =
          let e : count t - 0 ≡ count t = omega arith in
          let p : vertex t (count t) + 0 ≡ vertex t (count t) = omega arith in
          rw (z, vertex_none t, others_none t, e, p) at F.is

      whole : column ≡ sets was 0 (map f (entries t))
      whole = first ∙ rw (← declared_long t f, entries_map t f) (sym (sets_append was 0 (map f (declared_all t f)) (map f (others_all t f))))

-- small enough to be entered
pub enterable : {t : Table} {i s : ℕ} {h : Here} → Consistent t → i < count t → Stands t i h → s ≡ sort t i → Enterable s h.schema h.owner i
enterable {t} {i} ok l S e =
    record {
      sorted = omega (arith, e, sort_below t i);
      schema_small = omega (arith, S.schema_is, schema_below t i (omega arith), ok.few);
      owner_small = omega (arith, S.owner_is, owner_below t i (omega arith), ok.few);
      node_small = omega (arith, ok.few);
    }

-- ---- the stores of one node, by its sort
scope_small : (s schema owner : ℕ) → schema < radix → owner < radix → scope_by s schema owner < radix
scope_small s schema owner h o = by (leb s schemas) (eqb s declared)
  where
    by : (a b : Bool) → cond a 0 (cond b schema owner) < radix
    by true b = omega arith
    by false true = h
    by false false = o

module _ {s schema owner node : ℕ} (symbol : ℕ) where
  pub keyed :
      {k x : ℕ} → Enterable s schema owner node → k ≡ key_of (s % sorts) (x % radix) symbol → x ≡ scope_by s schema owner → k ≡ key_of s (scope_by s schema owner) symbol
  keyed E e h =
      key_within s (scope_by s schema owner) symbol (e ∙ ap (λ (c : ℕ). key_of (s % sorts) (c % radix) symbol) h) E.sorted
      (scope_small s schema owner E.schema_small E.owner_small)

  module _ {f : Entry → ℕ} {vertex at : ℕ} {a : List ℕ} where
    pub entered_none : s ≡ none → Entered f s schema owner vertex at symbol node a a
    entered_none e = record { is = rw e }

    pub entered_one :
        {b : List ℕ} {k v : ℕ} → (s ≡ none → ⊥) → k ≡ cond (eqb s declared) vertex at → v ≡ f (own_by s schema owner symbol node) → b ≡ set a k v →
        Entered f s schema owner vertex at symbol node a b
    entered_one z p e h = record { is = h ∙ rw (p, e, ne_eqb s none z) (by (eqb s declared)) }
      where
        own : Entry
        own = own_by s schema owner symbol node

        by : (d : Bool) → set a (cond d vertex at) (f own) ≡ sets (sets a vertex (map f (entry_if d own))) at (map f (entry_if (not d) own))
        by true = refl
        by false = refl

-- ---- the loop
pub filling_long : {f : Entry → ℕ} {t : Table} {was column : List ℕ} {i : ℕ} → Filling f t was column i → length column ≡ length was
filling_long {f} {t} {was} {column} {i} F =
    ap length F.is ∙ length-sets (sets was (vertex t i) (map f (declared_from t i))) (place t i) (map f (others_from t i)) ∙ length-sets was (vertex t i) (map f (declared_from t i))

pub record Entering (t : Table) (d : ℕ) (keys₀ nodes₀ keys nodes : List ℕ) (h : Here) (i : ℕ) : Type 0 where
  pub within : i ≤ count t
  pub consistent : Consistent t
  pub counted : d ≡ vertex t (count t)
  pub stands : Stands t i h
  pub keys_filling : Filling (λ (e : Entry). e.key) t keys₀ keys i
  pub nodes_filling : Filling (λ (e : Entry). e.node) t nodes₀ nodes i

module _ {t : Table} {keys₀ nodes₀ : List ℕ} where
  pub entering_starts : {c : Counts} {h : Here} → Consistent t → Counted t (count t) c → Ended (count t) c h → Entering t c.declarations keys₀ nodes₀ keys₀ nodes₀ h (count t)
  entering_starts ok C E =
      record { within = omega arith; consistent = ok; counted = C.declarations_is; stands = stands_end C E; keys_filling = filling_starts; nodes_filling = filling_starts }

  module _ {keys nodes : List ℕ} {after h : Here} {class d i s y : ℕ} (E : Entering t d keys₀ nodes₀ keys nodes after i) (l : 0 < i)
      (C : class ≡ class_of (sort_by (kind t (i - 1)) (role t (i - 1)))) (P : PassedBy class (i - 1) after h) (ss : s ≡ class % sorts) (ys : y ≡ symbol t (i - 1)) where
    back : i - 1 + 1 ≡ i
    back = omega arith

    low : i - 1 < count t
    low = omega (arith, E.within)

    now_stands : Stands t (i - 1) h
    now_stands = stands_step low (rw (sym back) at E.stands) (P.is (kind t (i - 1)) (role t (i - 1)) C)

    sorted : s ≡ sort t (i - 1)
    sorted = ss ∙ class_sort class (kind t (i - 1)) (role t (i - 1)) C ∙ sym (sort_is t (i - 1))

    placed : {at : ℕ} → at ≡ d + h.other → at ≡ place t (i - 1)
    placed e = omega (arith, e, E.counted, now_stands.other_is)

    pub entering_small : d + h.other < 2 * radix
    entering_small =
        omega (arith, E.counted, now_stands.other_is, vertex_small t (count t), others_small t (i - 1), E.consistent.few, low)

    pub entering_fits : Enterable s h.schema h.owner (i - 1)
    entering_fits = enterable E.consistent low now_stands sorted

    pub entering_goes_on :
        {keys' nodes' : List ℕ} {at : ℕ} → at ≡ d + h.other →
        Entered (λ (e : Entry). e.key) s h.schema h.owner h.vertex at y (i - 1) keys keys' →
        Entered (λ (e : Entry). e.node) s h.schema h.owner h.vertex at y (i - 1) nodes nodes' →
        Entering t d keys₀ nodes₀ keys' nodes' h (i - 1)
    entering_goes_on e K N =
        record {
          within = omega (arith, E.within);
          consistent = E.consistent;
          counted = E.counted;
          stands = now_stands;
          keys_filling = filling_goes_on low (rw (sym back) at E.keys_filling) (entered_at now_stands sorted ys (placed e) K);
          nodes_filling = filling_goes_on low (rw (sym back) at E.nodes_filling) (entered_at now_stands sorted ys (placed e) N);
        }

  -- a node of class 0 has no entry
  pub entering_skip :
      {keys nodes : List ℕ} {here : Here} {class d i : ℕ} → Entering t d keys₀ nodes₀ keys nodes here i → 0 < i →
      class ≡ class_of (sort_by (kind t (i - 1)) (role t (i - 1))) → class ≡ 0 → Entering t d keys₀ nodes₀ keys nodes here (i - 1)
  entering_skip E l C z =
      let s = ap (λ (x : ℕ). x % sorts) z in
      entering_goes_on E l C (passed_nothing z) refl refl refl (entered_none _ s) (entered_none _ s)

  -- nor have nodes that may not declare
  pub entering_passes :
      {keys nodes : List ℕ} {here : Here} {d i r : ℕ} → Entering t d keys₀ nodes₀ keys nodes here i → NoneFrom (λ n. may_declare (get_or t.kinds n 0) (get_or t.roles n 0)) 0 i r →
      Entering t d keys₀ nodes₀ keys nodes here r
  entering_passes {keys} {nodes} {here} {d} {i} {r} E D = go (i - r) i E D.none (omega (arith, D.low))
    where
      go : (k i : ℕ) → Entering t d keys₀ nodes₀ keys nodes here i → ((n : ℕ) → r ≤ n → n < i → may_declare (get_or t.kinds n 0) (get_or t.roles n 0) ≡ false) → i ≡ k + r
          → Entering t d keys₀ nodes₀ keys nodes here r
      go zero i E h e = let q : i ≡ r = omega (arith, e) in rw q at E
      go (suc k) i E h e =
          go k (i - 1) (entering_skip E (omega (arith, e)) (class_plain (kind t (i - 1)) (role t (i - 1)) (h (i - 1) (omega (arith, e)) (omega (arith, e)))) refl)
          (λ n a b. h n a (omega (arith, b))) (omega (arith, e))
