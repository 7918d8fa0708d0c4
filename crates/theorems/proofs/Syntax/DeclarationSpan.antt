-- The tokens of a declaration: of a text that is read, each constant, type or entity comes from a derivation of its rule, over a span of tokens;
-- the spans of two do not overlap.
use mathlib.Core.Bool.{Bool, true, false, false≢true, cond, not, ◌&&◌, ◌||◌}
use mathlib.Core.List.{List, [], ◌∷◌, ◌++◌}
use mathlib.Core.Logic.{inl, inr, ⊎_elim}
use mathlib.Core.Path.{◌≡◌, refl, sym, ap, ◌∙◌, subst}
use Prim.Native.Nat.{ℕ, zero, suc, ◌+◌, ◌-◌, ◌≤◌, ◌<◌}
use native.Mathlib.Nat.{le_refl}
use native.Mathlib.Decide.{dec_lt}
use native.Mathlib.Omega.{arith}
use lib.Dec.{eqb, ltb}
use lib.ListN.{length, length-append, get_or-append}
use lib.Seq.{get_or-append_seam}
use borrow.Author.Tests.{eqb-true, not-true, lt-ltb, le-ltb}
use Rattle.ebnf.specs.Set.{mem, disjoint}
use Rattle.ebnf.specs.Grammar.{Mark, silent, here, node as a_node, leaf, Ebnf, none, mark, step, seq, alt, star, fork, nt}
use Rattle.ebnf.specs.Grammar.{Derives, nothing, marked, token, both, left, right, stop, more, label, other, rule}
use Rattle.ebnf.specs.Rows.{Row, stamp_rows, Rows, in_rows}
use Rattle.ebnf.proofs.Lookahead.{inside}
use Rattle.ebnf.proofs.Derivations.{mono}
use Rattle.ebnf.proofs.Sorts.{every}
use Rattle.ebnf.proofs.PostOrder.{no_row, row_at}
use Rattle.ebnf.proofs.Naming.{Stands, stands}
use Rattle.ebnf.proofs.Sets.{and_split}
use Rattle.relations.proofs.Select.{or_cases, le_or}
use Rattle.express.specs.Syntax.Tree.{Table, count, kind, size, first, is_declaration, token as naming}
use Rattle.express.specs.Syntax.Grammar.{Nonterminal, file, schema, constants, constant, base, type_declaration, underlying, where_clause}
use Rattle.express.specs.Syntax.Grammar.{domain_rule, entity, attributes, derived as derived_attribute, expression, sum, term, factor, operand, atom, interval, rules}
use Rattle.express.specs.Syntax.Syntax.{Read}
use Rattle.express.proofs.Syntax.Syntax.{express}
use Rattle.express.proofs.Syntax.FormedRows.{kind_is, size_is, token_is, count_is, sized}
use Rattle.express.proofs.Syntax.Nodes.{all_below}
use Rattle.express.proofs.Syntax.Within.{passes_below}
use Rattle.express.proofs.Names.Owned.{Declaring, a_constant, a_type, an_entity, declaring as declares_one, declaring_kind}
use Rattle.express.proofs.Syntax.KindSets as set
use Rattle.express.specs.Syntax.NodeKind as node

-- the rule that leaves a declaration of the kind
abbrev pub declared_by : ℕ → Nonterminal
declared_by k = cond (eqb k node.constant) constant (cond (eqb k node.type) type_declaration entity)

-- ---- the token that names a rule's next node is one of the rule's own

record Between (b i : ℕ) (r : Rows) : Type 0 where
  low : b ≤ r.name
  high : r.name ≤ i

begun : (i : ℕ) → Between i i (in_rows.start i)
begun i = record { low = le_refl i; high = le_refl i }

later : {b i j : ℕ} {r : Rows} → i ≤ j → Between b i r → Between b j r
later l w = record { low = w.low; high = omega (arith, l, w.high) }

stamped : {b i j : ℕ} (m : Mark) (r : Rows) → b ≤ i → i ≤ j → Between b j r → Between b j (in_rows.stamp m i r)
stamped silent r h l w = record { low = w.low; high = w.high }
stamped here r h l w = record { low = h; high = l }
stamped (a_node k o) r h l w = record { low = w.low; high = w.high }
stamped (leaf k o) r h l w = record { low = w.low; high = w.high }

-- the row that stands last
abbrev top : List Row → Row
top s = row_at s (length s - 1)

module _ (ts : List ℕ) where
  between : {b : ℕ} {e : Ebnf Nonterminal} {i j : ℕ} {r s : Rows} → Derives in_rows rules ts e i r j s → Between b i r → Between b j s
  between nothing w = w
  between marked w = record { low = w.low; high = w.high }
  between (token {m = m} {i = i} {s = s} c d) w =
      let l = mono d in
      let u = w.low in
      let v = w.high in
      stamped m s (omega (arith, u, v)) (omega (arith, l)) (between d (later (omega arith) w))
  between (both d f) w = between f (between d w)
  between (left d) w = between d w
  between (right d) w = between d w
  between stop w = w
  between (more d f) w = between f (between d w)
  between (label {m = m} {i = i} {r = r} c g d) w =
      let u = w.low in
      let v = w.high in
      between d (stamped m r (omega (arith, u, v)) (omega arith) (later (omega arith) w))
  between (other d) w = between d w
  between (rule {r = r} d) w = let l = mono d in record { low = w.low; high = omega (arith, l, w.high) }

  -- a rule that began at b and has ended at j, with a token and a node of its own
  record Closed (b j : ℕ) (s : List Row) : Type 0 where
    bounded : j ≤ length ts
    from_name : b ≤ (top s).token
    to_name : (top s).token < j

  last_row : (s : List Row) (a : Row) → top (s ++ (a ∷ [])) ≡ a
  last_row s a =
      let z = length-append s (a ∷ []) in
      let e : length (s ++ (a ∷ [])) - 1 ≡ length s = omega (arith, z) in
      ap (λ (p : ℕ). row_at (s ++ (a ∷ [])) p) e ∙ get_or-append_seam s a [] no_row

  closed : {b i j k o : ℕ} {cs : List ℕ} {r s : Rows} → mem 0 cs ≡ false → Between b i r →
      Derives in_rows rules ts (seq (step silent cs none) (mark (a_node k o))) i r j s → Closed b j s.rows
  closed {i = i} {k = k} {o = o} {cs = cs} {r = r} z w (both (token c nothing) marked) =
      let a : Row = record { kind = k; token = r.name; size = suc (length r.rows); role = o } in
      let e : (top (r.rows ++ (a ∷ []))).token ≡ r.name = ap (λ (q : Row). q.token) (last_row r.rows a) in
      let u = w.low in
      let v = w.high in
      record { bounded = inside express ts cs i z c; from_name = omega (arith, e, u); to_name = omega (arith, e, v) }

  closed_constant : (i j : ℕ) (s : Rows) → Derives in_rows rules ts (rules constant) i (in_rows.start i) j s → Closed i j s.rows
  unfolding mem
  closed_constant i j s (both a (both b (both c (both d (both e f))))) =
      closed refl (between e (between d (between c (between b (between a (begun i)))))) f

  closed_type : (i j : ℕ) (s : Rows) → Derives in_rows rules ts (rules type_declaration) i (in_rows.start i) j s → Closed i j s.rows
  unfolding mem
  closed_type i j s (both a (both b (both c (both d (both e (both f (both g h))))))) =
      closed refl (between g (between f (between e (between d (between c (between b (between a (begun i)))))))) h

  closed_entity : (i j : ℕ) (s : Rows) → Derives in_rows rules ts (rules entity) i (in_rows.start i) j s → Closed i j s.rows
  unfolding mem
  closed_entity i j s (both a (both b (both c (both d (both e (both f (both g (both h k)))))))) =
      closed refl (between h (between g (between f (between e (between d (between c (between b (between a (begun i))))))))) k

-- THE SPAN of a declaration n: the tokens from `from` up to `to`, `to` itself not. Its rule derives them, and leaves as many rows as the subtree of n
-- has nodes; the token that names n is one of them.
pub record DeclarationSpan (t : Table) (n : ℕ) : Type 0 where
  pub rule_of : Nonterminal
  pub rule_is : rule_of ≡ declared_by (kind t n)
  pub from : ℕ
  pub to : ℕ
  pub value : Rows
  pub derived : Derives in_rows rules t.terminals (rules rule_of) from (in_rows.start from) to value
  pub ordered : from < to
  pub bounded : to ≤ length t.terminals
  pub from_name : from ≤ naming t n
  pub to_name : naming t n < to
  pub rows_are : size t n ≡ length value.rows

-- ---- each declaration of a text comes from a derivation of its rule, and those of two that are not nested do not overlap

abbrev declares : ℕ → Bool
declares k = eqb k node.constant || eqb k node.type || eqb k node.entity

abbrev mark_lacks : Mark → Bool
mark_lacks silent = true
mark_lacks here = true
mark_lacks (a_node k o) = not (declares k)
mark_lacks (leaf k o) = not (declares k)

-- the phrase leaves no declaration, but for those of its nonterminals
abbrev lacks : Ebnf Nonterminal → Bool
lacks none = true
lacks (mark m) = mark_lacks m
lacks (step m cs a) = mark_lacks m && lacks a
lacks (seq a b) = lacks a && lacks b
lacks (alt a b) = lacks a && lacks b
lacks (star a) = lacks a
lacks (fork m cs ds a b) = mark_lacks m && (lacks a && lacks b)
lacks (nt x) = true

abbrev mark_ends : ℕ → Mark → Bool
mark_ends k silent = false
mark_ends k here = false
mark_ends k (a_node j o) = eqb j k
mark_ends k (leaf j o) = false

-- it leaves one of the kind k last
abbrev ends : ℕ → Ebnf Nonterminal → Bool
ends k none = false
ends k (mark m) = mark_ends k m
ends k (step m cs a) = false
ends k (seq a b) = lacks a && ends k b
ends k (alt a b) = false
ends k (star a) = false
ends k (fork m cs ds a b) = false
ends k (nt x) = false

data Sort (x : Nonterminal) : Type 0 where
  plain : lacks (rules x) ≡ true → Sort x
  declaring : (k : ℕ) → x ≡ declared_by k → ends k (rules x) ≡ true → Sort x

sort : (x : Nonterminal) → Sort x
sort file = plain refl
sort schema = plain refl
sort constants = plain refl
sort constant = declaring node.constant refl refl
sort base = plain refl
sort type_declaration = declaring node.type refl refl
sort underlying = plain refl
sort where_clause = plain refl
sort domain_rule = plain refl
sort entity = declaring node.entity refl refl
sort attributes = plain refl
sort derived_attribute = plain refl
sort expression = plain refl
sort sum = plain refl
sort term = plain refl
sort factor = plain refl
sort operand = plain refl
sort atom = plain refl
sort interval = plain refl

-- one function below a, another from there on
pick : ℕ → (ℕ → ℕ) → (ℕ → ℕ) → ℕ → ℕ
pick a f g n = cond (ltb n a) (f n) (g (n - a))

pick_left : (a : ℕ) (f g : ℕ → ℕ) (n : ℕ) → n < a → pick a f g n ≡ f n
unfolding pick
pick_left a f g n l = rw (lt-ltb n a l)

pick_right : (a : ℕ) (f g : ℕ → ℕ) (n k : ℕ) → n ≡ a + k → pick a f g n ≡ g k
unfolding pick
pick_right a f g n k e = let z : n - a ≡ k = omega (arith, e) in rw (le-ltb n a (omega (arith, e)), z)

module _ (ts : List ℕ) where
  -- a derivation of the tokens from f up to e, between b and i, that ends with the row
  record Spot (b i f e : ℕ) (r : Row) : Type 0 where
    value : Rows
    derived : Derives in_rows rules ts (rules (declared_by r.kind)) f (in_rows.start f) e value
    low : b ≤ f
    high : e ≤ i
    is_top : top value.rows ≡ r
    covers : r.size ≡ length value.rows

  wider : {b i c j f e : ℕ} (p : Row) → c ≤ b → i ≤ j → Spot b i f e p → Spot c j f e p
  wider p u v s =
      record {
        value = s.value;
        derived = s.derived;
        low = omega (arith, u, s.low);
        high = omega (arith, v, s.high);
        is_top = s.is_top;
        covers = s.covers;
      }

  spot_at : {b i f e g h : ℕ} {p q : Row} → f ≡ g → e ≡ h → p ≡ q → Spot b i g h q → Spot b i f e p
  spot_at {b} {i} {f} {e} {g} {h} {p} {q} u v w s =
      subst (λ (z : Row). Spot b i f e z) (sym w) (subst (λ (z : ℕ). Spot b i f z q) (sym v) (subst (λ (z : ℕ). Spot b i z h q) (sym u) s))

  abbrev declared_at : List Row → ℕ → Type 0
  declared_at rs n = declares (row_at rs n).kind ≡ true

  -- where each declaration among the rows begins and ends; those that are not nested are apart
  record Fine (b i : ℕ) (rs : List Row) : Type 0 where
    begins : ℕ → ℕ
    stops : ℕ → ℕ
    single : (n : ℕ) → n < length rs → declared_at rs n → Spot b i (begins n) (stops n) (row_at rs n)
    pair : (n m : ℕ) → m < length rs → n + (row_at rs m).size < suc m → declared_at rs n → declared_at rs m → stops n ≤ begins m

  moved : {p q : Row} → p ≡ q → declares p.kind ≡ true → declares q.kind ≡ true
  moved e h = ap (λ (r : Row). declares r.kind) (sym e) ∙ h

  joined : {b i c j : ℕ} (r s : List Row) → Fine b i r → Fine c j s → b ≤ c → i ≤ c → i ≤ j → Fine b j (r ++ s)
  unfolding Stands
  joined {b} {i} {c} {j} r s R S bc ic ij =
      record {
        begins = pick (length r) R.begins S.begins;
        stops = pick (length r) R.stops S.stops;
        single = λ n l h. in_one n (stands r s n l) h;
        pair = λ n m l u h g. up n m (stands r s m l) l u h g;
      }
    where
      in_one : (n : ℕ) → Stands r s n → declared_at (r ++ s) n →
          Spot b j (pick (length r) R.begins S.begins n) (pick (length r) R.stops S.stops n) (row_at (r ++ s) n)
      in_one n (inl p) h =
          spot_at (pick_left (length r) _ _ n p.0) (pick_left (length r) _ _ n p.0) p.1
          (wider _ (le_refl b) ij (R.single n p.0 (moved p.1 h)))
      in_one n (inr p) h =
          spot_at (pick_right (length r) _ _ n p.0 p.2) (pick_right (length r) _ _ n p.0 p.2) p.3
          (wider _ bc (le_refl j) (S.single p.0 p.1 (moved p.3 h)))

      behind :
          (n m : ℕ) (p : (k : ℕ) × (k < length s) × (m ≡ length r + k) × (row_at (r ++ s) m ≡ row_at s k)) → n + (row_at (r ++ s) m).size < suc m →
          declared_at (r ++ s) n → declared_at (r ++ s) m → Stands r s n →
          pick (length r) R.stops S.stops n ≤ pick (length r) R.begins S.begins m
      behind n m p u h g (inl q) =
          let x = (R.single n q.0 (moved q.1 h)).high in
          let y = (S.single p.0 p.1 (moved p.3 g)).low in
          let v = pick_left (length r) R.stops S.stops n q.0 in
          let w = pick_right (length r) R.begins S.begins m p.0 p.2 in
          omega (arith, x, y, v, w, ic)
      behind n m p u h g (inr q) =
          let e = ap (λ (z : Row). z.size) p.3 in
          let a = p.2 in
          let f = q.2 in
          let v = pick_right (length r) R.stops S.stops n q.0 f in
          let w = pick_right (length r) R.begins S.begins m p.0 a in
          let x = S.pair q.0 p.0 p.1 (omega (arith, e, a, f, u)) (moved q.3 h) (moved p.3 g) in
          omega (arith, v, w, x)

      up : (n m : ℕ) → Stands r s m → m < length (r ++ s) → n + (row_at (r ++ s) m).size < suc m → declared_at (r ++ s) n → declared_at (r ++ s) m →
          pick (length r) R.stops S.stops n ≤ pick (length r) R.begins S.begins m
      up n m (inl p) l u h g =
          let k = p.0 in
          let e = ap (λ (z : Row). z.size) p.1 in
          let o : n < length r = omega (arith, k, u) in
          let v = pick_left (length r) R.stops S.stops n o in
          let w = pick_left (length r) R.begins S.begins m k in
          let x = R.pair n m k (omega (arith, e, u)) (moved (get_or-append r s no_row n o) h) (moved p.1 g) in
          omega (arith, v, w, x)
      up n m (inr p) l u h g = behind n m p u h g (stands r s n (omega (arith, l, u)))

  empty : (b i : ℕ) → Fine b i []
  empty b i =
      record { begins = λ n. 0; stops = λ n. 0; single = λ n l h. absurd (omega arith); pair = λ n m l u h g. absurd (omega arith) }

  longer : {b i j : ℕ} {rs : List Row} → i ≤ j → Fine b i rs → Fine b j rs
  longer l R =
      record { begins = R.begins; stops = R.stops; single = λ n u h. wider _ (le_refl _) l (R.single n u h); pair = R.pair }

  -- a row more: one that is no declaration, or one over all rows so far
  put :
      {b i : ℕ} (f e : ℕ) (rs : List Row) (a : Row) → Fine b i rs → (declares a.kind ≡ true → Spot b i f e a × (a.size ≡ suc (length rs))) →
      Fine b i (rs ++ (a ∷ []))
  unfolding Stands
  put {b} {i} f e rs a R last =
      record {
        begins = pick (length rs) R.begins (λ k. f);
        stops = pick (length rs) R.stops (λ k. e);
        single = λ n l h. in_one n (stands rs (a ∷ []) n l) h;
        pair = λ n m l u h g. up n m (stands rs (a ∷ []) m l) u h g;
      }
    where
      only : (k : ℕ) → k < 1 → row_at (a ∷ []) k ≡ a
      only zero l = refl
      only (suc k) l = absurd (omega arith)

      in_one : (n : ℕ) → Stands rs (a ∷ []) n → declared_at (rs ++ (a ∷ [])) n →
          Spot b i (pick (length rs) R.begins (λ k. f) n) (pick (length rs) R.stops (λ k. e) n) (row_at (rs ++ (a ∷ [])) n)
      in_one n (inl p) h =
          spot_at (pick_left (length rs) _ _ n p.0) (pick_left (length rs) _ _ n p.0) p.1 (R.single n p.0 (moved p.1 h))
      in_one n (inr p) h =
          let z = p.3 ∙ only p.0 p.1 in
          spot_at (pick_right (length rs) _ (λ k. f) n p.0 p.2) (pick_right (length rs) _ (λ k. e) n p.0 p.2) z (last (moved z h)).0

      up : (n m : ℕ) → Stands rs (a ∷ []) m → n + (row_at (rs ++ (a ∷ [])) m).size < suc m → declared_at (rs ++ (a ∷ [])) n →
          declared_at (rs ++ (a ∷ [])) m → pick (length rs) R.stops (λ k. e) n ≤ pick (length rs) R.begins (λ k. f) m
      up n m (inl p) u h g =
          let k = p.0 in
          let y = ap (λ (z : Row). z.size) p.1 in
          let o : n < length rs = omega (arith, k, u) in
          let v = pick_left (length rs) R.stops (λ q. e) n o in
          let w = pick_left (length rs) R.begins (λ q. f) m k in
          let x = R.pair n m k (omega (arith, y, u)) (moved (get_or-append rs (a ∷ []) no_row n o) h) (moved p.1 g) in
          omega (arith, v, w, x)
      up n m (inr p) u h g =
          let x = p.3 ∙ only p.0 p.1 in
          let z = (last (moved x g)).1 in
          let y = ap (λ (q : Row). q.size) x in
          let v = p.1 in
          let w = p.2 in absurd (omega (arith, z, y, u, v, w))

  unmarked : {b j : ℕ} (m : Mark) (i : ℕ) (rs : List Row) → mark_lacks m ≡ true → Fine b j rs → Fine b j (stamp_rows m i rs)
  unmarked silent i rs h R = R
  unmarked here i rs h R = R
  unmarked (a_node k o) i rs h R = put 0 0 rs _ R (λ g. absurd (false≢true (sym (not-true (declares k) h) ∙ g)))
  unmarked (leaf k o) i rs h R = put 0 0 rs _ R (λ g. absurd (false≢true (sym (not-true (declares k) h) ∙ g)))

  -- rows of which the last is a declaration of the kind k, over all of them
  record Ended (k b j : ℕ) (s : List Row) : Type 0 where
    before : List Row
    final : Row
    is_both : s ≡ before ++ (final ∷ [])
    kind_is_k : final.kind ≡ k
    over : final.size ≡ suc (length before)
    fine_before : Fine b j before

  ended : {b j : ℕ} (k : ℕ) (m : Mark) (i : ℕ) (rs : List Row) → mark_ends k m ≡ true → Fine b j rs → Ended k b j (stamp_rows m i rs)
  ended k silent i rs h R = absurd (false≢true h)
  ended k here i rs h R = absurd (false≢true h)
  ended k (a_node j o) i rs h R =
      record {
        before = rs;
        final = record { kind = j; token = i; size = suc (length rs); role = o };
        is_both = refl;
        kind_is_k = eqb-true j k h;
        over = refl;
        fine_before = R;
      }
  ended k (leaf j o) i rs h R = absurd (false≢true h)

  by_rule : (x : Nonterminal) (i j : ℕ) (s : Rows) → Derives in_rows rules ts (rules x) i (in_rows.start i) j s →
      (lacks (rules x) ≡ true → Fine i j s.rows) × ((k : ℕ) → ends k (rules x) ≡ true → Ended k i j s.rows) → Sort x → Fine i j s.rows
  by_rule x i j s d f (plain h) = f.0 h
  by_rule x i j s d f (declaring k e h) =
      let z = f.1 k h in
      let v = z.over in
      let u = ap length z.is_both in
      let y = length-append z.before (z.final ∷ []) in
      let w : Spot i j i j z.final =
      record {
        value = s;
        derived =
            subst (λ (q : Nonterminal). Derives in_rows rules ts (rules q) i (in_rows.start i) j s) (e ∙ sym (ap declared_by z.kind_is_k)) d;
        low = le_refl i;
        high = le_refl j;
        is_top = ap top z.is_both ∙ last_row ts z.before z.final;
        covers = omega (arith, u, v, y);
      } in
      subst (λ (q : List Row). Fine i j q) (sym z.is_both) (put i j z.before z.final z.fine_before (λ g. (w, v)))

  fine : {e : Ebnf Nonterminal} {i j : ℕ} {r s : Rows} → Derives in_rows rules ts e i r j s → (b : ℕ) → b ≤ i → Fine b i r.rows →
      (lacks e ≡ true → Fine b j s.rows) × ((k : ℕ) → ends k e ≡ true → Ended k b j s.rows)
  fine nothing b l R = (λ h. R, λ k h. absurd (false≢true h))
  fine (marked {m = m} {r = r}) b l R = (λ h. unmarked m r.name r.rows h R, λ k h. ended k m r.name r.rows h R)
  fine (token {m = m} {i = i} {s = s} c d) b l R = (
    λ h. let p = and_split (mark_lacks m) _ h in unmarked m i s.rows p.0 ((fine d b (omega (arith, l)) (longer (omega arith) R)).0 p.1),
    λ k h. absurd (false≢true h),
  )
  fine (both {a = a} d f) b l R =
      let u = mono d in (
        λ h. let p = and_split (lacks a) _ h in (fine f b (omega (arith, l, u)) ((fine d b l R).0 p.0)).0 p.1,
        λ k h. let p = and_split (lacks a) _ h in (fine f b (omega (arith, l, u)) ((fine d b l R).0 p.0)).1 k p.1,
      )
  fine (left {a = a} d) b l R = (λ h. let p = and_split (lacks a) _ h in (fine d b l R).0 p.0, λ k h. absurd (false≢true h))
  fine (right {a = a} d) b l R = (λ h. let p = and_split (lacks a) _ h in (fine d b l R).0 p.1, λ k h. absurd (false≢true h))
  fine stop b l R = (λ h. R, λ k h. absurd (false≢true h))
  fine (more d f) b l R =
      let u = mono d in
      (λ h. (fine f b (omega (arith, l, u)) ((fine d b l R).0 h)).0 h, λ k h. absurd (false≢true h))
  fine (label {m = m} {a = a} {i = i} {r = r} c g d) b l R = (
    λ h.
        let p = and_split (mark_lacks m) _ h in
        let q = and_split (lacks a) _ p.1 in
        (fine d b (omega (arith, l)) (unmarked m i r.rows p.0 (longer (omega arith) R))).0 q.0,
    λ k h. absurd (false≢true h),
  )
  fine (other {m = m} {a = a} d) b l R = (
    λ h. let p = and_split (mark_lacks m) _ h in let q = and_split (lacks a) _ p.1 in (fine d b l R).0 q.1,
    λ k h. absurd (false≢true h),
  )
  fine (rule {x = x} {i = i} {j = j} {r = r} {s = s} d) b l R = (
    λ h. joined r.rows s.rows R (by_rule x i j s d (fine d i (le_refl i) (empty i i)) (sort x)) l (le_refl i) (mono d),
    λ k h. absurd (false≢true h),
  )

  abbrev Closes : ℕ → Type 0
  Closes k = (i j : ℕ) (s : Rows) → Derives in_rows rules ts (rules (declared_by k)) i (in_rows.start i) j s → Closed ts i j s.rows

  closed_kind : (k : ℕ) → declares k ≡ true → Closes k
  closed_kind k h =
      ⊎_elim
      (λ a.
      ⊎_elim (λ (b : eqb k node.constant ≡ true). at_kind node.constant (eqb-true _ _ b) (closed_constant ts))
      (λ (b : eqb k node.type ≡ true). at_kind node.type (eqb-true _ _ b) (closed_type ts)) (or_cases (eqb k node.constant) (eqb k node.type) a))
      (λ (b : eqb k node.entity ≡ true). at_kind node.entity (eqb-true _ _ b) (closed_entity ts))
      (or_cases (eqb k node.constant || eqb k node.type) (eqb k node.entity) h)
    where
      at_kind : (c : ℕ) → k ≡ c → Closes c → Closes k
      at_kind c e f = subst Closes (sym e) f

module _ {x : Nonterminal} {t : Table} (d : Read x t) where
  all_fine : Fine t.terminals 0 (length t.terminals) d.rows
  all_fine = (fine t.terminals d.parses 0 (le_refl 0) (empty t.terminals 0 0)).0 refl

  declared_row : (n : ℕ) → is_declaration t n ≡ true → declared_at t.terminals d.rows n
  declared_row n h = ap declares (sym (kind_is d n)) ∙ h

  -- EACH DECLARATION of a text has its span
  pub declaration_span : (n : ℕ) → n < count t → is_declaration t n ≡ true → DeclarationSpan t n
  declaration_span n l h =
      let w = all_fine.single n (rw (count_is d) at l) (declared_row n h) in
      let c = closed_kind t.terminals (row_at d.rows n).kind (declared_row n h) _ _ w.value w.derived in
      let p : naming t n ≡ (top w.value.rows).token = token_is d n ∙ ap (λ (q : Row). q.token) (sym w.is_top) in
      let u = c.from_name in
      let v = c.to_name in
      record {
        rule_of = declared_by (row_at d.rows n).kind;
        rule_is = ap declared_by (sym (kind_is d n));
        from = all_fine.begins n;
        to = all_fine.stops n;
        value = w.value;
        derived = w.derived;
        ordered = omega (arith, u, v);
        bounded = c.bounded;
        from_name = omega (arith, p, u);
        to_name = omega (arith, p, v);
        rows_are = size_is d n ∙ w.covers;
      }

  -- below a declaration there is none
  not_nested : (n m : ℕ) → m < count t → is_declaration t n ≡ true → is_declaration t m ≡ true → n < m → n < first t m
  unfolding all_below every mem disjoint
  not_nested n m l h g v = ⊎_elim (λ (u : first t m ≤ n). absurd (nested u)) (λ (u : n < first t m). u) (le_or (first t m) n)
    where
      below : first t m ≤ n → Declaring (kind t m) → mem (kind t n) set.below_declaration ≡ true
      below u (a_constant q) = passes_below d (λ j. mem j set.below_declaration) refl m l (rw q refl) n u v
      below u (a_type q) = passes_below d (λ j. mem j set.below_declaration) refl m l (rw q refl) n u v
      below u (an_entity q) = passes_below d (λ j. mem j set.below_declaration) refl m l (rw q refl) n u v

      nested : first t m ≤ n → ⊥
      nested u =
          set.not_both (kind t n) set.below_declaration set.declaration_kinds refl (below u (declares_one t m g)) (declaring_kind (kind t n) (declares_one t n h))

  -- THE SPANS of two declarations do not overlap: that of the earlier node ends where the other begins, or before
  pub spans_apart : (n m : ℕ) → n < m → (k : n < count t) (l : m < count t) (h : is_declaration t n ≡ true) (g : is_declaration t m ≡ true) →
      (declaration_span n k h).to ≤ (declaration_span m l g).from
  unfolding declaration_span
  spans_apart n m v k l h g =
      let f = not_nested n m l h g v in
      let s = size_is d m in
      let z = (sized d m l).1 in
      all_fine.pair n m (rw (count_is d) at l) (omega (arith, f, s, z)) (declared_row n h) (declared_row m g)

  -- a token lies in one declaration at most
  pub one_declaration : (n m : ℕ) (k : n < count t) (l : m < count t) (h : is_declaration t n ≡ true) (g : is_declaration t m ≡ true) (i : ℕ) →
      (declaration_span n k h).from ≤ i → i < (declaration_span n k h).to → (declaration_span m l g).from ≤ i → i < (declaration_span m l g).to → n ≡ m
  one_declaration n m k l h g i a b c e = by (dec_lt n m) (dec_lt m n)
    where
      by : Dec (n < m) → Dec (m < n) → n ≡ m
      by (yes u) v = let z = spans_apart n m u k l h g in absurd (omega (arith, b, c, z))
      by (no u) (yes v) = let z = spans_apart m n v l k g h in absurd (omega (arith, a, e, z))
      by (no u) (no v) = omega (arith, u, v)
