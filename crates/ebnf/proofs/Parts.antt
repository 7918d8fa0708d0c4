-- Which children a node of each kind has: a table, the test of a grammar against it, and that each tree of a grammar that passes keeps it.
use mathlib.Core.Bool.{Bool, true, false, ◌&&◌, false≢true, ◌||◌}
use mathlib.Core.List.{List, [], ◌∷◌, ◌++◌}
use mathlib.Core.Logic.{⊎_elim}
use mathlib.Core.Option.{Option, some, none as nowhere}
use mathlib.Core.Path.{◌≡◌, refl, subst}
use Prim.Native.Nat.{ℕ, zero, suc, ◌+◌}
use native.Mathlib.Omega.{arith}
use lib.ListN.{length, get_or}
use Rattle.ebnf.specs.Set.{mem, subset}
use Rattle.ebnf.specs.Grammar.{Mark, silent, here, node, leaf, Ebnf, none, mark, step, seq, alt, star, fork, nt}
use Rattle.ebnf.specs.Grammar.{Derives, nothing, marked, token, both, left, right, stop, more, label, other, rule}
use Rattle.ebnf.specs.Trees.{Forest, empty, add, beside, Grove, in_trees}
use Rattle.ebnf.specs.Parse.{Tables}
use Rattle.ebnf.proofs.Sets.{and_split, or_split, in_more, mem_itself}
use Rattle.ebnf.proofs.Predictive.{Predictive}
use Rattle.ebnf.proofs.Lookahead.{eats}
use Rattle.ebnf.proofs.Sorts.{Sort, sort, of_sorts, sorts_within, of_itself, every_of}

-- A part of a row of trees: one tree of these sorts, or any number of them.
pub data Part : Type 0 where
  one : List Sort → Part
  many : List Sort → Part

-- The trees are of these parts.
pub data Match : List Part → Forest → Type 0 where
  m_end : Match [] empty
  m_one : {S : List Sort} {ps : List Part} {k o i : ℕ} {c f : Forest} → of_sorts k o S ≡ true → Match ps f → Match (one S ∷ ps) (add k o i c f)
  m_skip : {S : List Sort} {ps : List Part} {f : Forest} → Match ps f → Match (many S ∷ ps) f
  m_more : {S : List Sort} {ps : List Part} {k o i : ℕ} {c f : Forest} → of_sorts k o S ≡ true → Match (many S ∷ ps) f → Match (many S ∷ ps) (add k o i c f)

match_beside : {ps qs : List Part} {f g : Forest} → Match ps f → Match qs g → Match (ps ++ qs) (beside f g)
match_beside m_end q = q
match_beside (m_one h p) q = m_one h (match_beside p q)
match_beside (m_skip p) q = m_skip (match_beside p q)
match_beside (m_more h p) q = m_more h (match_beside p q)

-- ---- what is of some parts is of others

unfoldable pub within : ℕ → List Part → List Part → Bool  -- the first number is fuel
within zero ps qs = false
within (suc n) [] [] = true
within (suc n) [] (one T ∷ qs) = false
within (suc n) [] (many T ∷ qs) = within n [] qs
within (suc n) (one S ∷ ps) [] = false
within (suc n) (one S ∷ ps) (one T ∷ qs) = sorts_within S T && within n ps qs
within (suc n) (one S ∷ ps) (many T ∷ qs) = (sorts_within S T && within n ps (many T ∷ qs)) || within n (one S ∷ ps) qs
within (suc n) (many S ∷ ps) [] = false
within (suc n) (many S ∷ ps) (one T ∷ qs) = false
within (suc n) (many S ∷ ps) (many T ∷ qs) = (sorts_within S T && within n ps (many T ∷ qs)) || within n (many S ∷ ps) qs

climb : {S T : List Sort} {ps qs : List Part} {f : Forest} → sorts_within S T ≡ true → ((g : Forest) → Match ps g → Match (many T ∷ qs) g) → Match (many S ∷ ps) f →
    Match (many T ∷ qs) f
climb s h (m_skip m) = h _ m
climb {S} {T} s h (m_more k m) = m_more (every_of _ S _ _ s k) (climb s h m)

first_one : {S T : List Sort} {ps qs : List Part} {f : Forest} → sorts_within S T ≡ true → ((g : Forest) → Match ps g → Match qs g) → Match (one S ∷ ps) f → Match (one T ∷ qs) f
first_one {S} {T} s h (m_one k m) = m_one (every_of _ S _ _ s k) (h _ m)

first_more : {S T : List Sort} {ps qs : List Part} {f : Forest} → sorts_within S T ≡ true → ((g : Forest) → Match ps g → Match (many T ∷ qs) g) → Match (one S ∷ ps) f →
    Match (many T ∷ qs) f
first_more {S} {T} s h (m_one k m) = m_more (every_of _ S _ _ s k) (h _ m)

is_within : (n : ℕ) (ps qs : List Part) → within n ps qs ≡ true → (f : Forest) → Match ps f → Match qs f
unfolding within
is_within zero ps qs e f m = absurd (false≢true e)
is_within (suc n) [] [] e f m = m
is_within (suc n) [] (one T ∷ qs) e f m = absurd (false≢true e)
is_within (suc n) [] (many T ∷ qs) e f m = m_skip (is_within n [] qs e f m)
is_within (suc n) (one S ∷ ps) [] e f m = absurd (false≢true e)
is_within (suc n) (one S ∷ ps) (one T ∷ qs) e f m = let p = and_split (sorts_within S T) _ e in first_one p.0 (is_within n ps qs p.1) m
is_within (suc n) (one S ∷ ps) (many T ∷ qs) e f m =
    ⊎_elim
    (λ (h : (sorts_within S T && within n ps (many T ∷ qs)) ≡ true). let p = and_split (sorts_within S T) _ h in first_more p.0 (is_within n ps (many T ∷ qs) p.1) m)
    (λ (h : within n (one S ∷ ps) qs ≡ true). m_skip (is_within n (one S ∷ ps) qs h f m))
    (or_split _ _ e)
is_within (suc n) (many S ∷ ps) [] e f m = absurd (false≢true e)
is_within (suc n) (many S ∷ ps) (one T ∷ qs) e f m = absurd (false≢true e)
is_within (suc n) (many S ∷ ps) (many T ∷ qs) e f m =
    ⊎_elim
    (λ (h : (sorts_within S T && within n ps (many T ∷ qs)) ≡ true). let p = and_split (sorts_within S T) _ h in climb p.0 (is_within n ps (many T ∷ qs) p.1) m)
    (λ (h : within n (many S ∷ ps) qs ≡ true). m_skip (is_within n (many S ∷ ps) qs h f m))
    (or_split _ _ e)

unfoldable pub fits : List Part → List Part → Bool
fits ps qs = within (suc (length ps + length qs)) ps qs

is_fit : (ps qs : List Part) → fits ps qs ≡ true → (f : Forest) → Match ps f → Match qs f
unfolding fits
is_fit ps qs e f m = is_within _ ps qs e f m

-- parts that two lists of parts are within, as a guess: it is tested wherever it is used
abbrev loose : Part → Part
loose (one S) = many S
loose (many S) = many S

abbrev blend : Part → Part → Part
blend (one S) (one T) = one (S ++ T)
blend (one S) (many T) = many (S ++ T)
blend (many S) (one T) = many (S ++ T)
blend (many S) (many T) = many (S ++ T)

abbrev widen : List Part → List Part → List Part
widen [] [] = []
widen [] (q ∷ qs) = loose q ∷ widen [] qs
widen (p ∷ ps) [] = loose p ∷ widen ps []
widen (p ∷ ps) (q ∷ qs) = blend p q ∷ widen ps qs

-- ---- the test of a grammar

-- The tokens right before i are of these sets, the last one first.
abbrev pub Behind : List ℕ → ℕ → List (List ℕ) → Type 0
Behind ts i [] = Unit {0}
Behind ts zero (cs ∷ l) = ⊥
Behind ts (suc i) (cs ∷ l) = (mem (get_or ts i 0) cs ≡ true) × Behind ts i l

abbrev covers : List (List ℕ) → List (List ℕ) → Bool
covers l [] = true
covers [] (d ∷ m) = false
covers (c ∷ l) (d ∷ m) = subset c d && covers l m

behind_more : (ts : List ℕ) (i : ℕ) (l m : List (List ℕ)) → covers l m ≡ true → Behind ts i l → Behind ts i m
behind_more ts i l [] e h = tt
behind_more ts i [] (d ∷ m) e h = absurd (false≢true e)
behind_more ts zero (c ∷ l) (d ∷ m) e h = absurd h
behind_more ts (suc i) (c ∷ l) (d ∷ m) e h = let p = and_split (subset c d) _ e in (in_more _ c d p.0 h.0, behind_more ts i l m p.1 h.1)

-- What is known of the trees of a rule so far: the tokens that may name the next node, the parts that the trees are of, and the last tokens.
pub record Known : Type 0 where
  pub names : List ℕ
  pub parts : List Part
  pub last : List (List ℕ)

abbrev read : List ℕ → Known → Known
read cs t = record { names = t.names; parts = t.parts; last = cs ∷ t.last }

abbrev and_then : Option Known → (Known → Option Known) → Option Known
and_then (some t) k = k t
and_then nowhere k = nowhere

abbrev guard : Bool → Known → Option Known
guard true t = some t
guard false t = nowhere

abbrev less_known : Known → Known → Bool
less_known p q = subset p.names q.names && (fits p.parts q.parts && covers p.last q.last)

abbrev mix : Known → Known → Known
mix p q = record { names = p.names ++ q.names; parts = widen p.parts q.parts; last = [] }

abbrev mixed : Known → Known → Option Known
mixed p q = let w = mix p q in guard (less_known p w && less_known q w) w

abbrev steady : Known → Known → Known → Option Known
steady st w v = guard (less_known st w && less_known v w) w

-- The table: for each kind and role the tokens that may name its node, and for each kind the tokens right before that one and the parts of
-- its children; for each nonterminal what it leaves.
pub record Kinds (N : Type 0) : Type 0 where
  pub named_by : ℕ → ℕ → List ℕ
  pub behind : ℕ → List (List ℕ)
  pub children : ℕ → List Part
  pub leaves : N → List Part

module _ {N : Type 0} (K : Kinds N) where
  -- after a mark whose token is of cs, and the tokens before it of l
  abbrev put : Mark → List ℕ → List (List ℕ) → Known → Option Known
  put silent cs l t = some t
  put here cs l t = some (record { names = cs; parts = t.parts; last = t.last })
  put (node k o) cs l t =
      guard (subset cs (K.named_by k o) && (covers l (K.behind k) && fits t.parts (K.children k)))
      (record { names = t.names; parts = one (sort k o ∷ []) ∷ []; last = t.last })
  put (leaf k o) cs l t =
      guard (subset cs (K.named_by k o) && (covers l (K.behind k) && fits [] (K.children k)))
      (record { names = t.names; parts = t.parts ++ (one (sort k o ∷ []) ∷ []); last = t.last })

  -- what is known after e
  unfoldable pub known : Ebnf N → Known → Option Known
  known none t = some t
  known (mark m) t = put m t.names [] t
  known (step m cs a) t = and_then (known a (read cs t)) (λ u. put m cs t.last u)
  known (seq a b) t = and_then (known a t) (λ u. known b u)
  known (alt a b) t = and_then (known a t) (λ p. and_then (known b t) (λ q. mixed p q))
  known (star a) t = and_then (known a t) (λ p. let w = mix t p in and_then (known a w) (λ v. steady t w v))
  known (fork m cs ds a b) t = and_then (put m cs t.last (read ds (read cs t))) (λ u. and_then (known a u) (λ p. and_then (known b t) (λ q. mixed p q)))
  known (nt x) t = some (record { names = t.names; parts = t.parts ++ K.leaves x; last = [] })

  abbrev at_start : Tables N → N → Known
  at_start T x = record { names = T.begins x; parts = []; last = [] }

  abbrev left_within : List Part → Option Known → Bool
  left_within ps (some t) = fits t.parts ps
  left_within ps nowhere = false

  unfoldable pub keeps : (N → Ebnf N) → Tables N → N → Bool
  keeps rules T x = left_within (K.leaves x) (known (rules x) (at_start T x))

  -- Each node of the trees is named and has children by the table.
  abbrev pub All : List ℕ → Forest → Type 0
  All ts empty = Unit {0}
  All ts (add k o i c f) = (mem (get_or ts i 0) (K.named_by k o) ≡ true) × Match (K.children k) c × All ts c × All ts f × Behind ts i (K.behind k)

  all_beside : (ts : List ℕ) (f g : Forest) → All ts f → All ts g → All ts (beside f g)
  all_beside ts empty g a b = b
  all_beside ts (add k o i c f) g a b = (a.0, a.1, a.2, all_beside ts f g a.3 b, a.4)

  -- ---- what is known holds

  abbrev Holds : List ℕ → Known → ℕ → Grove → Type 0
  Holds ts t j r = (mem (get_or ts r.name 0) t.names ≡ true) × Match t.parts r.trees × All ts r.trees × Behind ts j t.last

  holds_less : (ts : List ℕ) (p q : Known) (j : ℕ) (r : Grove) → less_known p q ≡ true → Holds ts p j r → Holds ts q j r
  holds_less ts p q j r e h =
      let a = and_split (subset p.names q.names) _ e in
      let b = and_split (fits p.parts q.parts) _ a.1 in
      (in_more _ p.names q.names a.0 h.0, is_fit _ _ b.0 _ h.1, h.2, behind_more ts j p.last q.last b.1 h.3)

  some_is : {A : Type 0} (a b : A) → ◌≡◌ {A = Option A} (some a) (some b) → a ≡ b
  some_is a b e = cc

  guarded : (b : Bool) (t u : Known) → guard b t ≡ some u → (b ≡ true) × (t ≡ u)
  guarded true t u e = (refl, some_is t u e)
  guarded false t u e = let z : ◌≡◌ {A = ℕ} 0 1 = cc in absurd (omega arith)

  thened : (o : Option Known) (k : Known → Option Known) (u : Known) → and_then o k ≡ some u → (t : Known) × (o ≡ some t) × (k t ≡ some u)
  thened (some t) k u e = (t, refl, e)
  thened nowhere k u e = let z : ◌≡◌ {A = ℕ} 0 1 = cc in absurd (omega arith)

  put_holds : (ts : List ℕ) (m : Mark) (cs : List ℕ) (l : List (List ℕ)) (t u : Known) (i j : ℕ) (r : Grove) → put m cs l t ≡ some u → mem (get_or ts i 0) cs ≡ true →
      Behind ts i l → Holds ts t j r → Holds ts u j (in_trees.stamp m i r)
  put_holds ts silent cs l t u i j r e c b h = subst (λ (v : Known). Holds ts v j r) (some_is t u e) h
  put_holds ts here cs l t u i j r e c b h =
      subst (λ (v : Known). Holds ts v j (in_trees.stamp here i r)) (some_is _ u e) (c, h.1, h.2, h.3)
  put_holds ts (node k o) cs l t u i j r e c b h =
      let p = guarded _ _ u e in
      let q = and_split (subset cs (K.named_by k o)) _ p.0 in
      let a = and_split (covers l (K.behind k)) _ q.1 in
      subst (λ (v : Known). Holds ts v j (in_trees.stamp (node k o) i r)) p.1 (
        h.0,
        m_one (of_itself k o) m_end,
        (in_more _ cs _ q.0 c, is_fit _ _ a.1 _ h.1, h.2, tt, behind_more ts i l (K.behind k) a.0 b),
        h.3,
      )
  put_holds ts (leaf k o) cs l t u i j r e c b h =
      let p = guarded _ _ u e in
      let q = and_split (subset cs (K.named_by k o)) _ p.0 in
      let a = and_split (covers l (K.behind k)) _ q.1 in
      subst (λ (v : Known). Holds ts v j (in_trees.stamp (leaf k o) i r)) p.1 (
        h.0,
        match_beside h.1 (m_one (of_itself k o) m_end),
        all_beside ts r.trees _ h.2 (in_more _ cs _ q.0 c, is_fit _ _ a.1 _ m_end, tt, tt, behind_more ts i l (K.behind k) a.0 b),
        h.3,
      )

  close_holds : (ts : List ℕ) (m : Mark) (t u : Known) (j : ℕ) (r : Grove) → put m t.names [] t ≡ some u → Holds ts t j r → Holds ts u j (in_trees.close m r)
  close_holds ts silent t u j r e h = put_holds ts silent t.names [] t u r.name j r e h.0 tt h
  close_holds ts here t u j r e h = put_holds ts here t.names [] t u r.name j r e h.0 tt h
  close_holds ts (node k o) t u j r e h = put_holds ts (node k o) t.names [] t u r.name j r e h.0 tt h
  close_holds ts (leaf k o) t u j r e h = put_holds ts (leaf k o) t.names [] t u r.name j r e h.0 tt h

  mixed_left : (ts : List ℕ) (p q u : Known) (j : ℕ) (r : Grove) → mixed p q ≡ some u → Holds ts p j r → Holds ts u j r
  mixed_left ts p q u j r e h =
      let g = guarded _ _ u e in
      subst (λ (v : Known). Holds ts v j r) g.1 (holds_less ts p (mix p q) j r (and_split (less_known p (mix p q)) _ g.0).0 h)

  mixed_right : (ts : List ℕ) (p q u : Known) (j : ℕ) (r : Grove) → mixed p q ≡ some u → Holds ts q j r → Holds ts u j r
  mixed_right ts p q u j r e h =
      let g = guarded _ _ u e in
      subst (λ (v : Known). Holds ts v j r) g.1 (holds_less ts q (mix p q) j r (and_split (less_known p (mix p q)) _ g.0).1 h)

  -- What a derivation by e does to what is known; of a repetition: it keeps what its body keeps.
  abbrev Step : List ℕ → Ebnf N → ℕ → Grove → ℕ → Grove → Type 0
  Step ts e i r j s = (t u : Known) → known e t ≡ some u → Holds ts t i r → Holds ts u j s

  abbrev Keeps : List ℕ → Ebnf N → ℕ → Grove → ℕ → Grove → Type 0
  Keeps ts a i r j s = (w v : Known) → known a w ≡ some v → less_known v w ≡ true → Holds ts w i r → Holds ts w j s

  abbrev Does : List ℕ → Ebnf N → ℕ → Grove → ℕ → Grove → Type 0
  Does ts none i r j s = Step ts none i r j s
  Does ts (mark m) i r j s = Step ts (mark m) i r j s
  Does ts (step m cs a) i r j s = Step ts (step m cs a) i r j s
  Does ts (seq a b) i r j s = Step ts (seq a b) i r j s
  Does ts (alt a b) i r j s = Step ts (alt a b) i r j s
  Does ts (star a) i r j s = Keeps ts a i r j s
  Does ts (fork m cs ds a b) i r j s = Step ts (fork m cs ds a b) i r j s
  Does ts (nt x) i r j s = Step ts (nt x) i r j s

  step_of : (ts : List ℕ) (e : Ebnf N) (i : ℕ) (r : Grove) (j : ℕ) (s : Grove) → Does ts e i r j s → Step ts e i r j s
  unfolding known
  step_of ts none i r j s d = d
  step_of ts (mark m) i r j s d = d
  step_of ts (step m cs a) i r j s d = d
  step_of ts (seq a b) i r j s d = d
  step_of ts (alt a b) i r j s d = d
  step_of ts (star a) i r j s d = λ t u e h.
      let p = thened (known a t) _ u e in
      let q = thened (known a (mix t p.0)) _ u p.2 in
      let g = guarded _ _ u q.2 in
      let l = and_split (less_known t (mix t p.0)) _ g.0 in
      subst (λ (v : Known). Holds ts v j s) g.1 (d (mix t p.0) q.0 q.1 l.1 (holds_less ts t (mix t p.0) i r l.0 h))
  step_of ts (fork m cs ds a b) i r j s d = d
  step_of ts (nt x) i r j s d = d

  kept : (rules : N → Ebnf N) (T : Tables N) (x : N) → keeps rules T x ≡ true →
      (u : Known) × (known (rules x) (at_start T x) ≡ some u) × (fits u.parts (K.leaves x) ≡ true)
  unfolding keeps
  kept rules T x h = go (known (rules x) (at_start T x)) refl h
    where
      go : (o : Option Known) → known (rules x) (at_start T x) ≡ o → left_within (K.leaves x) o ≡ true →
          (u : Known) × (known (rules x) (at_start T x) ≡ some u) × (fits u.parts (K.leaves x) ≡ true)
      go (some u) e h = (u, e, h)
      go nowhere e h = absurd (false≢true h)

  module _ {rules : N → Ebnf N} {T : Tables N} (G : Predictive rules T) (test : (x : N) → keeps rules T x ≡ true) (ts : List ℕ) where
    pub does : {e : Ebnf N} {i j : ℕ} {r s : Grove} → Derives in_trees rules ts e i r j s → Does ts e i r j s
    unfolding known
    does (nothing {i = i} {r = r}) = λ t u e h. subst (λ (v : Known). Holds ts v i r) (some_is t u e) h
    does (marked {m = m} {i = i} {r = r}) = λ t u e h. close_holds ts m t u i r e h
    does (token {m = m} {cs = cs} {a = a} {i = i} {j = j} {r = r} {s = s} c d) = λ t u e h.
        let p = thened (known a (read cs t)) _ u e in
        put_holds ts m cs t.last p.0 u i j s p.2 c h.3 (step_of ts a (suc i) r j s (does d) (read cs t) p.0 p.1 (h.0, h.1, h.2, (c, h.3)))
    does (both {a = a} {b = b} {i = i} {j = j} {k = k} {r = r} {s = s} {t = z} d f) = λ t u e h.
        let p = thened (known a t) _ u e in
        step_of ts b j s k z (does f) p.0 u p.2 (step_of ts a i r j s (does d) t p.0 p.1 h)
    does (left {a = a} {b = b} {i = i} {j = j} {r = r} {s = s} d) = λ t u e h.
        let p = thened (known a t) _ u e in
        let q = thened (known b t) _ u p.2 in
        mixed_left ts p.0 q.0 u j s q.2 (step_of ts a i r j s (does d) t p.0 p.1 h)
    does (right {a = a} {b = b} {i = i} {j = j} {r = r} {s = s} d) = λ t u e h.
        let p = thened (known a t) _ u e in
        let q = thened (known b t) _ u p.2 in
        mixed_right ts p.0 q.0 u j s q.2 (step_of ts b i r j s (does d) t q.0 q.1 h)
    does stop = λ w v e l h. h
    does (more {a = a} {i = i} {j = j} {r = r} {s = s} d f) = λ w v e l h.
        does f w v e l (holds_less ts v w j s l (step_of ts a i r j s (does d) w v e h))
    does (label {m = m} {cs = cs} {ds = ds} {a = a} {b = b} {i = i} {j = j} {r = r} {s = s} c g d) = λ t u e h.
        let t₂ = read ds (read cs t) in
        let o = thened (put m cs t.last t₂) _ u e in
        let p = thened (known a o.0) _ u o.2 in
        let q = thened (known b t) _ u p.2 in
        mixed_left ts p.0 q.0 u j s q.2
        (step_of ts a (suc (suc i)) (in_trees.stamp m i r) j s (does d) o.0 p.0 p.1
        (put_holds ts m cs t.last t₂ o.0 i (suc (suc i)) r o.1 c h.3 (h.0, h.1, h.2, (g, (c, h.3)))))
    does (other {m = m} {cs = cs} {ds = ds} {a = a} {b = b} {i = i} {j = j} {r = r} {s = s} d) = λ t u e h.
        let o = thened (put m cs t.last (read ds (read cs t))) _ u e in
        let p = thened (known a o.0) _ u o.2 in
        let q = thened (known b t) _ u p.2 in
        mixed_right ts p.0 q.0 u j s q.2 (step_of ts b i r j s (does d) t q.0 q.1 h)
    does (rule {x = x} {i = i} {j = j} {r = r} {s = s} d) = λ t u e h.
        let k = kept rules T x (test x) in
        let c = in_more _ _ _ (G.begins_all x) (eats G d (G.full x)).0 in
        let q = step_of ts (rules x) i _ j s (does d) (at_start T x) k.0 k.1 (c, m_end, tt, tt) in
        subst (λ (v : Known). Holds ts v j (in_trees.join r s)) (some_is _ u e)
        (h.0, match_beside h.1 (is_fit _ _ k.2 _ q.1), all_beside ts r.trees s.trees h.2 q.2, tt)

    pub formed : (x : N) (i j : ℕ) (s : Grove) → Derives in_trees rules ts (nt x) i (in_trees.start i) j s → Match (K.leaves x) s.trees × All ts s.trees
    unfolding known
    formed x i j s d =
        let h =
        step_of ts (nt x) i _ j s (does d) (record { names = get_or ts i 0 ∷ []; parts = []; last = [] }) _ refl (mem_itself (get_or ts i 0), m_end, tt, tt) in
        (h.1, h.2)
