-- The numbers of entries: what is found under a key, which number a node's entry has, and which declaration has a number.
use mathlib.Core.Path.{◌≡◌, refl, sym, ap, ◌∙◌}
use mathlib.Core.Logic.{⊎_elim}
use mathlib.Core.Bool.{Bool, true, false, cond, ◌&&◌, ◌||◌, not, false≢true}
use mathlib.Core.List.Memᴰ
use mathlib.Core.List.{List, [], ◌∷◌, map, Memᴰ}
use Prim.Native.Nat.{ℕ, zero, suc, ◌+◌, ◌-◌, ◌≤◌, ◌<◌}
use native.Mathlib.Omega.{arith}
use borrow.Author.Tests.{eqb-true, ne_eqb}
use lib.Dec.{eqb}
use lib.ListN.{length, get_or, length-append, length-map, get_or-append}
use lib.Seq.{get_or-append-add}
use Rattle.relations.specs.Select.{span, keep, Ascending}
use Rattle.relations.proofs.Select.{le_or, upto_mem, keep_mem, placed}
use Rattle.express.specs.Syntax.Tree.{Table, count, nodes, is_declaration}
use Rattle.express.specs.Names.Fault.{sort}
use Rattle.express.specs.Names.Scope as express
use Rattle.express.proofs.Names.Meaning.{meaning_one, spelled_ascending, declarations_iff}
use Rattle.index.specs.Dictionary.{has}
use Rattle.scopes.specs.Entries.{none, declared, Entry, own_key, own_entry, declares_other, declaring, entries, with_key, vertex, others_before, entry_number}
use Rattle.scopes.specs.Preparation.{Prepared, keys_of, nodes_of}
use Rattle.scopes.specs.LookUp.{numbers, entry_meant, node_meant}
use Rattle.scopes.specs.declared.look_ups.Meaning.{Meaning}
use Rattle.scopes.specs.declared.look_ups.Meaning.TheVariants.{Nothing, One, Several}
use Rattle.scopes.proofs.Sorting.{declared_sort}
use Rattle.scopes.proofs.WithKey.{with_cons, with_nil}

abbrev all_nodes : Table → List ℕ
all_nodes t = nodes t

-- ---- the nodes of the numbers under a key

keep_shift : (p : ℕ → Bool) (i d : ℕ) → keep p (span (suc i) d) ≡ map suc (keep (λ j. p (suc j)) (span i d))
unfolding keep span
keep_shift p i zero = refl
keep_shift p i (suc d) = by (p (suc i)) (keep_shift p (suc i) d)
  where
    by : (b : Bool) → keep p (span (suc (suc i)) d) ≡ map suc (keep (λ j. p (suc j)) (span (suc i) d))
        → cond b (suc i ∷ keep p (span (suc (suc i)) d)) (keep p (span (suc (suc i)) d)) ≡ map suc (cond b (i ∷ keep (λ j. p (suc j)) (span (suc i) d)) (keep (λ j. p (suc j)) (span (suc i) d)))
    by true e = rw e
    by false e = e

map_shift : (x : ℕ) (xs is : List ℕ) → map (λ (e : ℕ). get_or (x ∷ xs) e 0) (map suc is) ≡ map (λ (e : ℕ). get_or xs e 0) is
map_shift x xs [] = refl
map_shift x xs (i ∷ is) = ap (λ (r : List ℕ). get_or xs i 0 ∷ r) (map_shift x xs is)

pub numbers_nodes : (k : ℕ) → 0 < k → (es : List Entry) → map (λ (e : ℕ). get_or (nodes_of es) e 0) (numbers (keys_of es) k) ≡ with_key k es
unfolding numbers keep span
numbers_nodes k z [] = sym (with_nil k)
numbers_nodes k z (e ∷ es) = by (eqb e.key k) (not_zero) (numbers_nodes k z es) ∙ sym (with_cons k e es)
  where
    not_zero : not (eqb k 0) ≡ true
    not_zero = ap not (ne_eqb k 0 (λ q. omega (arith, q)))

    rest : List ℕ
    rest = keep (has (keys_of (e ∷ es)) k) (span 1 (length (keys_of es)))

    later : rest ≡ map suc (numbers (keys_of es) k)
    later = keep_shift (has (keys_of (e ∷ es)) k) 0 (length (keys_of es))

    by : (b : Bool) → not (eqb k 0) ≡ true → map (λ (e : ℕ). get_or (nodes_of es) e 0) (numbers (keys_of es) k) ≡ with_key k es
        → map (λ (i : ℕ). get_or (nodes_of (e ∷ es)) i 0) (cond (not (eqb k 0) && b) (0 ∷ rest) rest) ≡ cond b (e.node ∷ with_key k es) (with_key k es)
    by true n h = rw (n, later, map_shift e.node (nodes_of es) (numbers (keys_of es) k)) (rw h)
    by false n h = rw (n, later, map_shift e.node (nodes_of es) (numbers (keys_of es) k)) h

-- ---- meanings
abbrev through : List ℕ → express.Meaning → express.Meaning
through nodes express.none = express.none
through nodes express.several = express.several
through nodes (express.one e) = express.one (get_or nodes e 0)

meaning_map : (nodes is : List ℕ) → express.meaning (map (λ (e : ℕ). get_or nodes e 0) is) ≡ through nodes (express.meaning is)
meaning_map nodes [] = refl
meaning_map nodes (i ∷ []) = refl
meaning_map nodes (i ∷ j ∷ is) = refl

node_through : (nodes : List ℕ) (r : Meaning) → node_meant nodes r ≡ through nodes (entry_meant r)
node_through nodes Nothing = refl
node_through nodes (One e) = refl
node_through nodes Several = refl

module _ {t : Table} {keys nodes heads next : List ℕ} (P : Prepared t keys nodes heads next) where
  pub prepared_numbers : (k : ℕ) → 0 < k → map (λ (e : ℕ). get_or nodes e 0) (numbers keys k) ≡ with_key k (entries t)
  prepared_numbers k z = rw (P.keys_is, P.nodes_is) (numbers_nodes k z (entries t))

  pub meant_nodes : (k : ℕ) → 0 < k → (r : Meaning) → entry_meant r ≡ express.meaning (numbers keys k) → node_meant nodes r ≡ express.meaning (with_key k (entries t))
  meant_nodes k z r e =
      node_through nodes r ∙ ap (through nodes) e ∙ sym (meaning_map nodes (numbers keys k)) ∙ ap express.meaning (prepared_numbers k z)

-- ---- the number of a node's entry

at_mem : (ns : List ℕ) (i : ℕ) → i < length ns → Memᴰ (get_or ns i 0) ns
at_mem [] i l = absurd (omega arith)
at_mem (n ∷ ns) zero l = Memᴰ.head refl
at_mem (n ∷ ns) (suc i) l = Memᴰ.tail (at_mem ns i (omega arith))

map_at : (f : ℕ → ℕ) (ns : List ℕ) (i : ℕ) → i < length ns → get_or (map f ns) i 0 ≡ f (get_or ns i 0)
map_at f [] i l = absurd (omega arith)
map_at f (n ∷ ns) zero l = refl
map_at f (n ∷ ns) (suc i) l = map_at f ns i (omega arith)

same_nodes : (t : Table) (ns : List ℕ) → nodes_of (map (own_entry t) ns) ≡ ns
same_nodes t [] = refl
same_nodes t (n ∷ ns) = ap (λ (r : List ℕ). n ∷ r) (same_nodes t ns)

same_keys : (t : Table) (ns : List ℕ) → keys_of (map (own_entry t) ns) ≡ map (own_key t) ns
same_keys t [] = refl
same_keys t (n ∷ ns) = ap (λ (r : List ℕ). own_key t n ∷ r) (same_keys t ns)

module _ (t : Table) where
  abbrev declared_nodes : List ℕ
  declared_nodes = keep (is_declaration t) (nodes t)

  abbrev other_nodes : List ℕ
  other_nodes = keep (declares_other t) (nodes t)

  declared_long : length declared_nodes ≡ vertex t (count t)
  unfolding vertex
  declared_long = refl

  -- a declaration is of no other sort
  other_declares : (n : ℕ) → is_declaration t n ≡ false → (sort t n ≡ 0 → ⊥) → declares_other t n ≡ true
  other_declares n d z = rw (ne_eqb (sort t n) none z, declared_sort t n ∙ d)

  other_sort : (n : ℕ) → declares_other t n ≡ true → (sort t n ≡ 0 → ⊥) × (is_declaration t n ≡ false)
  other_sort n o = (λ (z : sort t n ≡ 0). false≢true (rw z at o), sym (declared_sort t n) ∙ by (eqb (sort t n) none) (eqb (sort t n) declared) o)
    where
      by : (a b : Bool) → not (a || b) ≡ true → b ≡ false
      by true b e = absurd (false≢true e)
      by false true e = absurd (false≢true e)
      by false false e = refl

-- what declares something has an entry
record HasEntry (t : Table) (n : ℕ) : Type 0 where
  below : entry_number t n < length (declaring t)
  there : get_or (declaring t) (entry_number t n) 0 ≡ n

module _ (t : Table) (n : ℕ) (l : n < count t) where
  node_entered : (sort t n ≡ 0 → ⊥) → HasEntry t n
  unfolding entry_number vertex others_before
  node_entered z = by (is_declaration t n) refl
    where
      sum : length (declaring t) ≡ length (declared_nodes t) + length (other_nodes t)
      sum = length-append (declared_nodes t) (other_nodes t)

      by : (b : Bool) → is_declaration t n ≡ b → HasEntry t n
      by true e =
          let A = placed (is_declaration t) (count t) n l e in
          record {
            below = rw e (omega (arith, sum, A.within));
            there = rw e (get_or-append (declared_nodes t) (other_nodes t) 0 (vertex t n) A.within ∙ A.there);
          }
      by false e =
          let A = placed (declares_other t) (count t) n l (other_declares t n e z) in
          record {
            below = rw e (omega (arith, sum, A.within));
            there = rw e (get_or-append-add (declared_nodes t) (other_nodes t) (others_before t n) 0 ∙ A.there);
          }

-- ---- the entries in the columns

-- the node of an entry: it declares something, under the entry's key
pub record Declares (t : Table) (key n : ℕ) : Type 0 where
  pub node : n < count t
  pub declares : sort t n ≡ 0 → ⊥
  pub key_is : key ≡ own_key t n

-- a declaration's entry is its vertex
pub declared_number : (t : Table) (n : ℕ) → is_declaration t n ≡ true → entry_number t n ≡ vertex t n
unfolding entry_number
declared_number t n d = rw d

pub declared_some : (t : Table) (n : ℕ) → is_declaration t n ≡ true → sort t n ≡ 0 → ⊥
declared_some t n d z = let q = eqb-true (sort t n) declared (declared_sort t n ∙ d) in omega (arith, q, z)

module _ {t : Table} {keys nodes heads next : List ℕ} (P : Prepared t keys nodes heads next) where
  nodes_are : nodes ≡ declaring t
  unfolding entries
  nodes_are = P.nodes_is ∙ same_nodes t (declaring t)

  keys_are : keys ≡ map (own_key t) (declaring t)
  unfolding entries
  keys_are = P.keys_is ∙ same_keys t (declaring t)

  keys_long : length keys ≡ length (declaring t)
  keys_long = ap length keys_are ∙ length-map (declaring t) (own_key t)

  key_at : (e : ℕ) → e < length keys → get_or keys e 0 ≡ own_key t (get_or nodes e 0)
  key_at e l = rw (nodes_are, keys_are) (map_at (own_key t) (declaring t) e (omega (arith, l, keys_long)))

  pub entry_declares : (e : ℕ) → e < length keys → Declares t (get_or keys e 0) (get_or nodes e 0)
  entry_declares e l =
      record { node = upto_mem (count t) (get_or nodes e 0) there.0; declares = there.1; key_is = key_at e l }
    where
      there : Memᴰ (get_or nodes e 0) (all_nodes t) × (sort t (get_or nodes e 0) ≡ 0 → ⊥)
      there =
          ⊎_elim (λ m. let k = keep_mem (is_declaration t) (all_nodes t) m in (k.0, declared_some t _ k.1))
          (λ m. let k = keep_mem (declares_other t) (all_nodes t) m in (k.0, (other_sort t _ k.1).0))
          (Memᴰ.append_cases (declared_nodes t) (rw nodes_are (at_mem (declaring t) e (omega (arith, l, keys_long)))))

  module _ (n : ℕ) (l : n < count t) (z : sort t n ≡ 0 → ⊥) where
    pub number_below : entry_number t n < length keys
    number_below = omega (arith, (node_entered t n l z).below, keys_long)

    pub number_node : get_or nodes (entry_number t n) 0 ≡ n
    number_node = rw nodes_are (node_entered t n l z).there

    pub number_key : get_or keys (entry_number t n) 0 ≡ own_key t n
    number_key = key_at (entry_number t n) number_below ∙ ap (own_key t) number_node

-- ---- the declaration of a number

pub record Ranked (p : ℕ → Bool) (i d w k : ℕ) : Type 0 where
  pub from : i ≤ k
  pub upto : k < i + d
  pub passes : p k ≡ true
  pub rank : length (keep p (span i (k - i))) ≡ w

pub ranked : (p : ℕ → Bool) (i d w : ℕ) → w < length (keep p (span i d)) → Ranked p i d w (get_or (keep p (span i d)) w 0)
unfolding keep span
ranked p i zero w l = absurd (omega arith)
ranked p i (suc d) w l = by (p i) refl l (λ w' l'. ranked p (suc i) d w' l')
  where
    rest : List ℕ
    rest = keep p (span (suc i) d)

    before : (b : Bool) (k : ℕ) → p i ≡ b → suc i ≤ k → length (keep p (span i (k - i))) ≡ cond b (suc (length (keep p (span (suc i) (k - suc i))))) (length (keep p (span (suc i) (k - suc i))))
    before b k e h = let q : k - i ≡ suc (k - suc i) = omega arith in rw (q, e) (both b)
      where
        both : (b : Bool) → length (cond b (i ∷ keep p (span (suc i) (k - suc i))) (keep p (span (suc i) (k - suc i))))
            ≡ cond b (suc (length (keep p (span (suc i) (k - suc i))))) (length (keep p (span (suc i) (k - suc i))))
        both true = refl
        both false = refl

    by : (b : Bool) → p i ≡ b → w < length (cond b (i ∷ rest) rest) → ((w' : ℕ) → w' < length rest → Ranked p (suc i) d w' (get_or rest w' 0)) → Ranked p i (suc d) w (get_or (cond b (i ∷ rest) rest) w 0)
    by true e l more = at w l
      where
        at : (w : ℕ) → w < length (i ∷ rest) → Ranked p i (suc d) w (get_or (i ∷ rest) w 0)
        at zero l = record { from = omega arith; upto = omega arith; passes = e; rank = let q : i - i ≡ 0 = omega arith in rw q }
        at (suc w) l =
            let R = more w (omega arith) in
            record {
              from = omega (arith, R.from);
              upto = omega (arith, R.upto);
              passes = R.passes;
              rank = before true (get_or rest w 0) e R.from ∙ ap suc R.rank;
            }
    by false e l more =
        let R = more w l in
        record {
          from = omega (arith, R.from);
          upto = omega (arith, R.upto);
          passes = R.passes;
          rank = before false (get_or rest w 0) e R.from ∙ R.rank;
        }

pub record Vertex (t : Table) (w k : ℕ) : Type 0 where
  pub node : k < count t
  pub declares : is_declaration t k ≡ true
  pub number : vertex t k ≡ w

module _ {t : Table} {keys nodes heads next : List ℕ} (P : Prepared t keys nodes heads next) where
  pub vertex_node : (w : ℕ) → w < vertex t (count t) → Vertex t w (get_or nodes w 0)
  unfolding vertex
  vertex_node w l =
      let e : get_or nodes w 0 ≡ get_or (declared_nodes t) w 0 = rw (nodes_are P) (get_or-append (declared_nodes t) (other_nodes t) 0 w l) in
      let R = ranked (is_declaration t) 0 (count t) w l in
      rw e
      (record {
        node = omega (arith, R.upto);
        declares = R.passes;
        number = let z : get_or (declared_nodes t) w 0 - 0 ≡ get_or (declared_nodes t) w 0 = omega arith in rw z at R.rank;
      })

  -- an entry whose node is a declaration is that declaration's vertex
  pub entry_vertex : (e : ℕ) → e < length keys → is_declaration t (get_or nodes e 0) ≡ true → Vertex t e (get_or nodes e 0)
  entry_vertex e l d =
      ⊎_elim (λ (h : vertex t (count t) ≤ e). absurd (false≢true (sym (late h) ∙ d))) (λ h. vertex_node e h) (le_or (vertex t (count t)) e)
    where
      late : vertex t (count t) ≤ e → is_declaration t (get_or nodes e 0) ≡ false
      late h =
          let k : ℕ = e - length (declared_nodes t) in
          let sum = length-append (declared_nodes t) (other_nodes t) in
          let at : get_or nodes e 0 ≡ get_or (other_nodes t) k 0 =
          let q : e ≡ length (declared_nodes t) + k = omega (arith, h, declared_long t) in
          ap (λ (i : ℕ). get_or nodes i 0) q ∙ rw (nodes_are P) (get_or-append-add (declared_nodes t) (other_nodes t) k 0) in
          let m = at_mem (other_nodes t) k (omega (arith, l, h, keys_long P, sum, declared_long t)) in
          rw at (other_sort t _ (keep_mem (declares_other t) (all_nodes t) m).1).1

declarations_ascending : (t : Table) (h s : ℕ) → Ascending 0 (express.declarations t h s)
unfolding express.declarations
declarations_ascending t h s = spelled_ascending t s (λ k. is_declaration t k && express.visible t h k)

-- a look-up of a declaration that gives one entry gives the declaration's vertex
pub declared_entry :
    {t : Table} {keys nodes heads next : List ℕ} → Prepared t keys nodes heads next → (h s e : ℕ) → e < length keys →
    express.one (get_or nodes e 0) ≡ express.meaning (express.declarations t h s) → Vertex t e (get_or nodes e 0)
declared_entry {t} {nodes = nodes} P h s e l q =
    let m = ((meaning_one (express.declarations t h s) (declarations_ascending t h s) (get_or nodes e 0)).0 (sym q)).member in
    entry_vertex P e l ((declarations_iff t h s (get_or nodes e 0)).0 m).suits.0
