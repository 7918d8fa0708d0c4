-- The rows of a text, row by row: each is a node's, its children's rows stand right before it, and they are of the parts that its kind has.
use mathlib.Core.Bool.{true}
use mathlib.Core.List.{List, ◌∷◌}
use mathlib.Core.Logic.{⊎_elim}
use mathlib.Core.Path.{◌≡◌, sym, ap, ◌∙◌, subst}
use Prim.Native.Nat.{ℕ, suc, ◌+◌, ◌-◌, ◌≤◌, ◌<◌}
use native.Mathlib.Omega.{arith}
use lib.ListN.{length, get_or, get_or-append, length-append}
use lib.Seq.{get_or-append_seam, get_or-append-add}
use Rattle.ebnf.specs.Set.{mem}
use Rattle.ebnf.specs.Grammar.{Ebnf, Text}
use Rattle.ebnf.specs.Rows.{Row, Rows, in_rows}
use Rattle.ebnf.specs.Trees.{Forest, empty, add, beside, flat}
use Rattle.ebnf.specs.Parse.{Tables}
use Rattle.ebnf.proofs.Sets.{lt_or_le}
use Rattle.ebnf.proofs.Predictive.{Predictive}
use Rattle.ebnf.proofs.Trees.{tree_of_rows}
use Rattle.ebnf.proofs.Sorts.{Sort, of_sorts}
use Rattle.ebnf.proofs.Parts.{Part, Match, Behind, Kinds, keeps, All, formed}

abbrev pub no_row : Row
no_row = record { kind = 0; token = 0; size = 0; role = 0 }

abbrev pub row_at : List Row → ℕ → Row
row_at rs n = get_or rs n no_row

abbrev pub size_at : List Row → ℕ → ℕ
size_at rs n = (row_at rs n).size

-- Row n is of one of these sorts.
abbrev pub Root : List Row → ℕ → List Sort → Type 0
Root rs n S = of_sorts (row_at rs n).kind (row_at rs n).role S ≡ true

-- ---- where the rows of trees lie

-- the row of a node
abbrev pub row_of : ℕ → ℕ → ℕ → Forest → Row
row_of k o i c = record { kind = k; token = i; size = suc (length (flat c)); role = o }

-- The rows from a on are those of the trees.
abbrev pub Lies : List Row → ℕ → Forest → Type 0
Lies rs a empty = Unit {0}
Lies rs a (add k o i c f) = Lies rs a c × (get_or rs (a + length (flat c)) no_row ≡ row_of k o i c) × Lies rs (suc (a + length (flat c))) f

agree : (rs : List Row) (a : ℕ) (f : Forest) → ((m : ℕ) → m < length (flat f) → get_or rs (a + m) no_row ≡ get_or (flat f) m no_row) → Lies rs a f
agree rs a empty h = tt
agree rs a (add k o i c f) h =
    let n = length-append (flat c) (row_of k o i c ∷ flat f) in (
      agree rs a c (λ m l. h m (omega (arith, n)) ∙ get_or-append (flat c) (row_of k o i c ∷ flat f) no_row m l),
      h (length (flat c)) (omega (arith, n)) ∙ get_or-append_seam (flat c) (row_of k o i c) (flat f) no_row,
      agree rs (suc (a + length (flat c))) f
          (λ m l.
          let e : suc (a + length (flat c)) + m ≡ a + (length (flat c) + suc m) = omega arith in
          ap (λ (p : ℕ). row_at rs p) e
          ∙ (h (length (flat c) + suc m) (omega (arith, n)) ∙ get_or-append-add (flat c) (row_of k o i c ∷ flat f) (suc m) no_row)),
    )

pub lies_flat : (f : Forest) → Lies (flat f) 0 f
lies_flat f = agree (flat f) 0 f (λ m l. let e : 0 + m ≡ m = omega arith in ap (λ (p : ℕ). get_or (flat f) p no_row) e)

-- the parts of a forest lie one behind the other
pub lies_beside : (rs : List Row) (a : ℕ) (f g : Forest) → Lies rs a (beside f g) → Lies rs a f × Lies rs (a + length (flat f)) g
lies_beside rs a empty g l = (tt, subst (λ (z : ℕ). Lies rs z g) (omega arith) l)
lies_beside rs a (add k o i c f) g l =
    let p = lies_beside rs (suc (a + length (flat c))) f g l.2 in
    let e = length-append (flat c) (row_of k o i c ∷ flat f) in
    ((l.0, l.1, p.0), subst (λ (z : ℕ). Lies rs z g) (omega (arith, e)) p.1)

pub root_at : (rs : List Row) (p k o i : ℕ) (c : Forest) (S : List Sort) → row_at rs p ≡ row_of k o i c → of_sorts k o S ≡ true → Root rs p S × (size_at rs p ≡ suc (length (flat c)))
root_at rs p k o i c S e h = (rw e h, ap (λ (r : Row). r.size) e)

-- ---- each row is a node's

-- The rows from a up to e are those of trees of these parts.
pub record Ends (rs : List Row) (a e : ℕ) (ps : List Part) : Type 0 where
  pub trees : Forest
  pub of : Match ps trees
  pub lie : Lies rs a trees
  pub up_to : a + length (flat trees) ≡ e

module _ {N : Type 0} (K : Kinds N) (ts : List ℕ) where
  -- Row n is that of a node that is named and has children by the table, and its children's rows end right before it.
  pub record Node (rs : List Row) (n : ℕ) : Type 0 where
    pub kind : ℕ
    pub role : ℕ
    pub token : ℕ
    pub children : Forest
    pub named : mem (get_or ts token 0) (K.named_by kind role) ≡ true
    pub behind : Behind ts token (K.behind kind)
    pub match : Match (K.children kind) children
    pub all : All K ts children
    pub row : get_or rs n no_row ≡ row_of kind role token children
    pub inside : length (flat children) ≤ n
    pub below : Lies rs (n - length (flat children)) children

  nodes : (rs : List Row) (a : ℕ) (f : Forest) → Lies rs a f → All K ts f → (n : ℕ) → a ≤ n → n < a + length (flat f) → Node rs n
  nodes rs a empty l h n u v = absurd (omega arith)
  nodes rs a (add k o i c f) l h n u v =
      let e = length-append (flat c) (row_of k o i c ∷ flat f) in
      ⊎_elim (λ (p : n < a + length (flat c)). nodes rs a c l.0 h.2 n u p)
      (λ (p : a + length (flat c) ≤ n).
      ⊎_elim (λ (q : a + length (flat c) < n). nodes rs (suc (a + length (flat c))) f l.2 h.3 n q (omega (arith, e)))
      (λ (q : n ≤ a + length (flat c)).
      let x : a + length (flat c) ≡ n = omega arith in
      let y : a ≡ n - length (flat c) = omega arith in
      record {
        kind = k;
        role = o;
        token = i;
        children = c;
        named = h.0;
        behind = h.4;
        match = h.1;
        all = h.2;
        row = subst (λ (z : ℕ). row_at rs z ≡ row_of k o i c) x l.1;
        inside = omega arith;
        below = subst (λ (z : ℕ). Lies rs z c) y l.0;
      })
      (lt_or_le (a + length (flat c)) n))
      (lt_or_le n (a + length (flat c)))

  -- EACH ROW OF A TEXT; and all its rows together
  module _ {rules : N → Ebnf N} {T : Tables N} (G : Predictive rules T) (test : (x : N) → keeps K rules T x ≡ true) where
    pub post_order : (x : N) (s : Rows) → Text in_rows rules x ts s → (n : ℕ) → n < length s.rows → Node s.rows n
    post_order x s d n l =
        let p = tree_of_rows G x ts s d in
        let w = formed K G test ts x 0 (length ts) p.0 p.1 in
        let e : flat p.0.trees ≡ s.rows = ap (λ (r : Rows). r.rows) p.2 in
        subst (λ (rs : List Row). Node rs n) e
        (nodes (flat p.0.trees) 0 p.0.trees (lies_flat p.0.trees) w.1 n (omega arith)
        (let z = ap length e in omega (arith, z)))

    pub text_ends : (x : N) (s : Rows) → Text in_rows rules x ts s → Ends s.rows 0 (length s.rows) (K.leaves x)
    text_ends x s d =
        let p = tree_of_rows G x ts s d in
        let w = formed K G test ts x 0 (length ts) p.0 p.1 in
        let e : flat p.0.trees ≡ s.rows = ap (λ (r : Rows). r.rows) p.2 in
        subst (λ (rs : List Row). Ends rs 0 (length rs) (K.leaves x)) e
        (record { trees = p.0.trees; of = w.0; lie = lies_flat p.0.trees; up_to = omega arith })

module _ {N : Type 0} (K : Kinds N) (ts : List ℕ) (rs : List Row) (n : ℕ) (d : Node K ts rs n) where
  pub kind_is : (k : ℕ) → (row_at rs n).kind ≡ k → d.kind ≡ k
  kind_is k e = ap (λ (r : Row). r.kind) (sym d.row) ∙ e

  pub size_is : size_at rs n ≡ suc (length (flat d.children))
  size_is = ap (λ (r : Row). r.size) d.row

  pub size_fits : (1 ≤ size_at rs n) × (size_at rs n ≤ suc n)
  size_fits = let s = size_is in let i = d.inside in (omega (arith, s), omega (arith, s, i))

  pub token_named : (k o : ℕ) → (row_at rs n).kind ≡ k → (row_at rs n).role ≡ o → mem (get_or ts (row_at rs n).token 0) (K.named_by k o) ≡ true
  token_named k o e f =
      let a = kind_is k e in
      let b : d.role ≡ o = ap (λ (r : Row). r.role) (sym d.row) ∙ f in
      let c : d.token ≡ (row_at rs n).token = ap (λ (r : Row). r.token) (sym d.row) in
      subst (λ (z : ℕ). mem (get_or ts z 0) (K.named_by k o) ≡ true) c
      (subst (λ (z : ℕ). mem (get_or ts d.token 0) (K.named_by k z) ≡ true) b
      (subst (λ (z : ℕ). mem (get_or ts d.token 0) (K.named_by z d.role) ≡ true) a d.named))

  pub tokens_behind : (k : ℕ) → (row_at rs n).kind ≡ k → Behind ts (row_at rs n).token (K.behind k)
  tokens_behind k e =
      let c : d.token ≡ (row_at rs n).token = ap (λ (r : Row). r.token) (sym d.row) in
      subst (λ (z : ℕ). Behind ts z (K.behind k)) c (subst (λ (z : ℕ). Behind ts d.token (K.behind z)) (kind_is k e) d.behind)
