-- The children of a row, from the last to the first.
use mathlib.Core.Bool.{true}
use mathlib.Core.List.{List, [], ◌∷◌, ◌++◌}
use mathlib.Core.Logic.{◌⊎◌, inl, inr, ⊎_elim}
use mathlib.Core.Path.{◌≡◌, refl, ap, subst}
use Prim.Native.Nat.{ℕ, suc, ◌+◌, ◌-◌, ◌≤◌, ◌<◌}
use native.Mathlib.Omega.{arith}
use lib.ListN.{length, length-append}
use Rattle.ebnf.specs.Rows.{Row}
use Rattle.ebnf.specs.Trees.{Forest, empty, add, beside, flat}
use Rattle.ebnf.proofs.Trees.{flat_beside}
use Rattle.ebnf.proofs.Sorts.{Sort, of_sorts}
use Rattle.ebnf.proofs.Parts.{Part, one, many, Match, m_end, m_one, m_skip, m_more, Kinds}
use Rattle.ebnf.proofs.PostOrder.{row_at, size_at, Root, row_of, Lies, lies_beside, root_at, Ends, Node, kind_is, size_is, size_fits}

-- The last of some trees is of these sorts, and those before it are of these parts.
record Last (S : List Sort) (ps : List Part) (f : Forest) : Type 0 where
  before : Forest
  kind : ℕ
  role : ℕ
  token : ℕ
  children : Forest
  is : f ≡ beside before (add kind role token children empty)
  of : of_sorts kind role S ≡ true
  rest : Match ps before

last_behind : (S : List Sort) (ps qs : List Part) (k o i : ℕ) (c f : Forest) → ((g : Forest) → Match ps g → Match qs (add k o i c g)) → Last S ps f → Last S qs (add k o i c f)
last_behind S ps qs k o i c f h l =
    record {
      before = add k o i c l.before;
      kind = l.kind;
      role = l.role;
      token = l.token;
      children = l.children;
      is = ap (add k o i c) l.is;
      of = l.of;
      rest = h _ l.rest;
    }

last_only : (S : List Sort) (f : Forest) → Match (one S ∷ []) f → Last S [] f
last_only S f (m_one {k = k} {o = o} {i = i} {c = c} h m_end) =
    record { before = empty; kind = k; role = o; token = i; children = c; is = refl; of = h; rest = m_end }

last_past_one : (T S : List Sort) (ps qs : List Part) → ((g : Forest) → Match qs g → Last S ps g) → (f : Forest) → Match (one T ∷ qs) f → Last S (one T ∷ ps) f
last_past_one T S ps qs h w (m_one {k = k} {o = o} {i = i} {c = c} {f = f} e m) = last_behind S ps (one T ∷ ps) k o i c f (λ g p. m_one e p) (h f m)

last_past_many : (T S : List Sort) (ps qs : List Part) → ((g : Forest) → Match qs g → Last S ps g) → (f : Forest) → Match (many T ∷ qs) f → Last S (many T ∷ ps) f
last_past_many T S ps qs h f (m_skip m) =
    let l = h f m in
    record { before = l.before; kind = l.kind; role = l.role; token = l.token; children = l.children; is = l.is; of = l.of; rest = m_skip l.rest }
last_past_many T S ps qs h w (m_more {k = k} {o = o} {i = i} {c = c} {f = f} e m) =
    last_behind S (many T ∷ ps) (many T ∷ ps) k o i c f (λ g p. m_more e p) (last_past_many T S ps qs h f m)

last_of : (ps : List Part) (S : List Sort) (f : Forest) → Match (ps ++ (one S ∷ [])) f → Last S ps f
last_of [] S f m = last_only S f m
last_of (one T ∷ ps) S f m = last_past_one T S ps (ps ++ (one S ∷ [])) (last_of ps S) f m
last_of (many T ∷ ps) S f m = last_past_many T S ps (ps ++ (one S ∷ [])) (last_of ps S) f m

-- of some, either there is a last one, or there are none
last_of_many : (S : List Sort) (f : Forest) → Match (many S ∷ []) f → Match (many S ∷ one S ∷ []) f ⊎ Match [] f
last_of_many S f (m_skip m) = inr m
last_of_many S w (m_more {k = k} {o = o} {i = i} {c = c} {f = f} h m) =
    inl (⊎_elim (λ (p : Match (many S ∷ one S ∷ []) f). m_more h p) (λ (p : Match [] f). m_skip (m_one h p)) (last_of_many S f m))

past_many : (T S : List Sort) (ps qs rs : List Part) → ((g : Forest) → Match rs g → Match qs g ⊎ Match ps g) → (f : Forest) → Match (many T ∷ rs) f →
    Match (many T ∷ qs) f ⊎ Match (many T ∷ ps) f
past_many T S ps qs rs h f (m_skip m) = ⊎_elim (λ p. inl (m_skip p)) (λ p. inr (m_skip p)) (h f m)
past_many T S ps qs rs h w (m_more {f = f} e m) = ⊎_elim (λ p. inl (m_more e p)) (λ p. inr (m_more e p)) (past_many T S ps qs rs h f m)

past_one : (T S : List Sort) (ps qs rs : List Part) → ((g : Forest) → Match rs g → Match qs g ⊎ Match ps g) → (f : Forest) → Match (one T ∷ rs) f →
    Match (one T ∷ qs) f ⊎ Match (one T ∷ ps) f
past_one T S ps qs rs h w (m_one {f = f} e m) = ⊎_elim (λ p. inl (m_one e p)) (λ p. inr (m_one e p)) (h f m)

split_many : (ps : List Part) (S : List Sort) (f : Forest) → Match (ps ++ (many S ∷ [])) f → Match (ps ++ (many S ∷ one S ∷ [])) f ⊎ Match ps f
split_many [] S f m = last_of_many S f m
split_many (one T ∷ ps) S f m = past_one T S ps _ _ (split_many ps S) f m
split_many (many T ∷ ps) S f m = past_many T S ps _ _ (split_many ps S) f m

-- THE LAST CHILD IS ONE: it is the row before e, and the others end where its tree begins.
pub last_one : (rs : List Row) (a e : ℕ) (ps : List Part) (S : List Sort) → Ends rs a e (ps ++ (one S ∷ [])) →
    Root rs (e - 1) S × (1 ≤ size_at rs (e - 1)) × (a + size_at rs (e - 1) ≤ e) × Ends rs a (e - size_at rs (e - 1)) ps
last_one rs a e ps S x =
    let l = last_of ps S x.trees x.of in
    let t = add l.kind l.role l.token l.children empty in
    let y = lies_beside rs a l.before t (subst (λ (f : Forest). Lies rs a f) l.is x.lie) in
    let n₁ = ap (λ (f : Forest). length (flat f)) l.is in
    let n₂ = ap length (flat_beside l.before t) in
    let n₃ = length-append (flat l.before) (flat t) in
    let n₄ = length-append (flat l.children) (row_of l.kind l.role l.token l.children ∷ []) in
    let n₅ = x.up_to in
    let p : (a + length (flat l.before)) + length (flat l.children) ≡ e - 1 = omega (arith, n₁, n₂, n₃, n₄, n₅) in
    let r =
    root_at rs (e - 1) l.kind l.role l.token l.children S
    (subst (λ (z : ℕ). row_at rs z ≡ row_of l.kind l.role l.token l.children) p y.1.1) l.of in
    let s = r.1 in (
      r.0,
      omega (arith, s),
      omega (arith, s, n₁, n₂, n₃, n₄, n₅),
      record { trees = l.before; of = l.rest; lie = y.0; up_to = omega (arith, s, n₁, n₂, n₃, n₄, n₅) },
    )

-- THE LAST CHILDREN ARE ANY NUMBER: there is a last one, or none of them.
pub last_many : (rs : List Row) (a e : ℕ) (ps : List Part) (S : List Sort) → Ends rs a e (ps ++ (many S ∷ [])) →
    Ends rs a e (ps ++ (many S ∷ one S ∷ [])) ⊎ Ends rs a e ps
last_many rs a e ps S x =
    ⊎_elim (λ m. inl (record { trees = x.trees; of = m; lie = x.lie; up_to = x.up_to }))
    (λ m. inr (record { trees = x.trees; of = m; lie = x.lie; up_to = x.up_to })) (split_many ps S x.trees x.of)

pub no_more : (rs : List Row) (a e : ℕ) → Ends rs a e [] → a ≡ e
no_more rs a e x = go x.trees x.of x.up_to
  where
    go : (f : Forest) → Match [] f → a + length (flat f) ≡ e → a ≡ e
    go f m_end u = omega arith

-- the children of row n end right before it
pub children_of : {N : Type 0} (K : Kinds N) (ts : List ℕ) (rs : List Row) (n k : ℕ) → Node K ts rs n → (row_at rs n).kind ≡ k →
    Ends rs (suc n - size_at rs n) n (K.children k)
children_of K ts rs n k d e =
    let s = size_is K ts rs n d in
    let i = d.inside in
    record {
      trees = d.children;
      of = subst (λ (z : ℕ). Match (K.children z) d.children) (kind_is K ts rs n d k e) d.match;
      lie = subst (λ (z : ℕ). Lies rs z d.children) (omega (arith, s, i)) d.below;
      up_to = omega (arith, s, i);
    }

-- ---- a fixed number of children, from the right

-- the parts of the children, given from the right
abbrev pub ones : List Sort → List (List Sort) → List Part
ones S [] = one S ∷ []
ones S (S' ∷ Ss) = ones S' Ss ++ (one S ∷ [])

-- Row p, the row before its tree, and so on are the roots of trees of these sorts, the first of which begins at a.
abbrev pub Chain : List Row → ℕ → ℕ → List Sort → List (List Sort) → Type 0
Chain rs a p S [] = Root rs p S × (suc p ≡ a + size_at rs p)
Chain rs a p S (S' ∷ Ss) = Root rs p S × (a + size_at rs p ≤ p) × Chain rs a (p - size_at rs p) S' Ss

some_end : (rs : List Row) (a e : ℕ) (S : List Sort) (Ss : List (List Sort)) → Ends rs a e (ones S Ss) → a < e
some_end rs a e S [] x = let l = last_one rs a e [] S x in let u = l.1 in let v = l.2 in omega (arith, u, v)
some_end rs a e S (S' ∷ Ss) x = let l = last_one rs a e (ones S' Ss) S x in let u = l.1 in let v = l.2 in omega (arith, u, v)

pub chain : (rs : List Row) (a e : ℕ) (S : List Sort) (Ss : List (List Sort)) → Ends rs a e (ones S Ss) → Chain rs a (e - 1) S Ss
chain rs a e S [] x =
    let l = last_one rs a e [] S x in
    let u = l.1 in
    let v = l.2 in
    let z = no_more rs _ _ l.3 in
    (l.0, omega (arith, u, v, z))
chain rs a e S (S' ∷ Ss) x =
    let l = last_one rs a e (ones S' Ss) S x in
    let u = l.1 in
    let v = l.2 in
    let w = some_end rs a _ S' Ss l.3 in
    let q : (e - size_at rs (e - 1)) - 1 ≡ (e - 1) - size_at rs (e - 1) = omega (arith, u, v) in
    (l.0, omega (arith, u, v, w), subst (λ (p : ℕ). Chain rs a p S' Ss) q (chain rs a (e - size_at rs (e - 1)) S' Ss l.3))

-- THE CHILDREN OF ROW n, where they are a fixed number
pub children_chain : {N : Type 0} (K : Kinds N) (ts : List ℕ) (rs : List Row) (n k : ℕ) (S : List Sort) (Ss : List (List Sort)) → Node K ts rs n → (row_at rs n).kind ≡ k →
    K.children k ≡ ones S Ss → (1 ≤ n) × Chain rs (suc n - size_at rs n) (n - 1) S Ss
children_chain K ts rs n k S Ss d e q =
    let x = subst (λ (ps : List Part). Ends rs (suc n - size_at rs n) n ps) q (children_of K ts rs n k d e) in
    let u = some_end rs _ _ S Ss x in
    (omega (arith, u), chain rs _ n S Ss x)

-- a row without children
pub childless : {N : Type 0} (K : Kinds N) (ts : List ℕ) (rs : List Row) (n k : ℕ) → Node K ts rs n → (row_at rs n).kind ≡ k → K.children k ≡ [] → size_at rs n ≡ 1
childless K ts rs n k d e q =
    let x = subst (λ (ps : List Part). Ends rs (suc n - size_at rs n) n ps) q (children_of K ts rs n k d e) in
    let z = no_more rs _ _ x in
    let s = size_fits K ts rs n d in
    let u = s.0 in
    let v = s.1 in
    omega (arith, z, u, v)
