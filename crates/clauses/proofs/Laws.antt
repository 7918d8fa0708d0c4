-- The laws of the readers of declarations: steps, rows with nothing below them, lists, what may be missing. Assumes nothing.
use mathlib.Core.Bool.{Bool, true, false}
use mathlib.Core.List.{List}
use mathlib.Core.Logic.{◌⊎◌, inl, inr, ⊎_elim}
use mathlib.Core.Path.{◌≡◌, refl, sym, ap, subst, ◌∙◌}
use Rattle.std.specs.Prelude.{Ok as Success, Err}
use Prim.Native.Nat.{ℕ, ◌+◌, ◌-◌, ◌/◌, ◌%◌, ◌≤◌, ◌<◌}
use native.Mathlib.Omega.{arith}
use lib.ListN.{length, get_or, set, get_or-eq_default}
use borrow.Author.Tests.{ne_eqb}
use Rattle.ebnf.specs.Set.{mem, disjoint}
use Rattle.ebnf.specs.Grammar.{Ebnf, seq, star, nt}
use Rattle.ebnf.specs.Rows.{Rows}
use Rattle.ebnf.specs.Parse.{first, Result}
use Rattle.ebnf.proofs.Predictive.{Ok, ok_of}
use Rattle.ebnf.proofs.Sets.{lt_or_le}
use Rattle.express.specs.Tokens.Terminal.{identifier, comma}
use Rattle.express.specs.Syntax.Grammar.{Nonterminal, base, constant, derived, domain_rule, attributes, schema, type_declaration, entity, ◌·◌, ◌∣◌, tok, opt, ids}
use Rattle.express.specs.Syntax.Lookahead.{tables}
use Rattle.express.proofs.Syntax.Descent.{phrase}
use Rattle.parsing.specs.Reading.{Read, At, Refused, labelled, word, Expects, Ready, Sound, Reads, Reading, Continues, Steps, Leaf}
use Rattle.parsing.proofs.Terminals.{is_one, not_one}
use Rattle.parsing.proofs.Laws.{same_token, start, finish, last, apart, nothing, dead, refused_found, told, by_leaf, by_row, phrased, left, right, more, stop, passed, reads, sound_of, rows_few}
use Rattle.expressions.proofs.Operands.{leafs, leafs_last}
use Rattle.parsing.proofs.Steps.{onward_row, one_inside, expect_ready, expect_goes, by_token, by_name}
use Rattle.clauses.specs.Declares.{Closes, Groups, id_of, names_of, Leaves, type_label, Types, assigned_by, Heads}

-- ---- steps

-- where a step has led
pub sound_ready : {ts : List ℕ} {q m : ℕ} (r : Read) → Sound ts r → r ≡ At q m → Ready ts q m
sound_ready {ts} r s e = subst (λ (x : Read). Sound ts x) e s

pub refused_sound : (ts : List ℕ) {k : ℕ} (r : Read) → r ≡ Refused k → Sound ts r
refused_sound ts r e = rw e tt

pub expect_sound : {code : ℕ} {ts : List ℕ} {p n : ℕ} (r : Read) → Ready ts p n → Expects code ts p n r → Sound ts r
expect_sound (Success next) g h = expect_ready h g refl
expect_sound (Err e) g h = tt

module _ {x : Nonterminal} {ts : List ℕ} {p n : ℕ} {r : Read} {a b : List ℕ} (h : Reads x ts p n r a b) where
  pub reads_goes : Continues (nt x) ts p n r a b
  reads_goes = record { on = λ v. phrased h v }

  pub reads_sound : Ready ts p n → Sound ts r
  reads_sound g = sound_of r g h.ahead

-- a reader of x is refused where a part of its rule is
pub stopped : (x : Nonterminal) {ts : List ℕ} {p n : ℕ} {r : Read} {a b : List ℕ} {rest : Ebnf Nonterminal} {m k : ℕ} → Ready ts p n → Reading ts (phrase ts x p) n a rest m r b → r ≡ Refused k →
    Reads x ts p n r a b
stopped x g v e = reads x g.within (refused_found e v)

-- ---- the end of a rule

label_back : (label : ℕ) → labelled (label % 256) (label / 256) ≡ label
label_back label = omega arith

module _ (first : ℕ) {label name : ℕ} {ts : List ℕ} {p n : ℕ} {s : Read} {a : List ℕ} (h : Expects 9 ts p n s) where
  pub closes_refused : {k : ℕ} → s ≡ Refused k → Closes first label name ts p n s a a
  closes_refused e = record { ends = λ v. refused_found e (by_token h (omega arith) v) }

  pub closes_row : {q m : ℕ} {b : List ℕ} → Ready ts p n → label < 65536 → name < 1048576 → s ≡ At q m → b ≡ set a m (word label name (m + 1 - first)) →
      Closes first label name ts p n (At q (m + 1)) a b
  closes_row {q} {m} {b} g l i e u =
      record {
        ends = λ v.
            finish
            (by_row b (omega arith) (omega arith) (rows_few (expect_ready h g e)) i (u ∙ ap (λ (z : ℕ). set a m (word z name (m + 1 - first))) (sym (label_back label)))
            (last (told e (by_token h (omega arith) v))));
      }

-- ---- an identifier that leaves a row

module _ {label : ℕ} {ts : List ℕ} {p n : ℕ} {r : Read} {a b : List ℕ} where
  pub leaf_goes : label < 65536 → Ready ts p n → Leaves label ts p n r a b → Continues (id_of label) ts p n r a b
  leaf_goes l g h =
      record {
        on = λ v.
            by_leaf (mem (get_or ts p 0) identifier) r b (omega arith) (omega arith) g refl
            (subst (λ (y : ℕ). Leaf (mem (get_or ts p 0) identifier) y p n r a b) (sym (label_back label)) h.leaf) v;
      }

  pub leaf_onward : {q m : ℕ} → Leaves label ts p n r a b → r ≡ At q m → p < q
  leaf_onward {q} {m} h e = go (mem (get_or ts p 0) identifier) h.leaf
    where
      go : (t : Bool) → Leaf t label p n r a b → p < q
      go true k = let z : q ≡ p + 1 = same_token (sym e ∙ k.0) in omega arith
      go false k = let z : ◌≡◌ {A = ℕ} 0 1 = cc (k.0, e) in absurd (omega arith)

module _ {label : ℕ} {ts : List ℕ} {p n : ℕ} {a : List ℕ} (t : ℕ) (f : t ≡ get_or ts p 0) where
  pub leaves_there : {b : List ℕ} → Ready ts p n → t ≡ 1 → b ≡ set a n (word label p (n + 1 - n)) → Leaves label ts p n (At (p + 1) (n + 1)) a b
  leaves_there g h u =
      record { sound = onward_row g (one_inside ts p t 1 f h (omega arith)); leaf = rw (is_one (get_or ts p 0) 1 (sym f ∙ h)) (refl, u) }

  pub leaves_not : (t ≡ 1 → ⊥) → Leaves label ts p n (Refused p) a a
  leaves_not h = record { sound = tt; leaf = rw (not_one (get_or ts p 0) 1 (λ k. h (f ∙ k))) (refl, refl) }

-- ---- types

pub base_reads : {ts : List ℕ} {p n : ℕ} {r : Read} {a b : List ℕ} → Ready ts p n → Types 518 ts p n r a b → Reads base ts p n r a b
base_reads {ts} {p} {n} {r} {a} {b} g h =
    reads base g.within
    (leafs ts (phrase ts base p) n a p p g r b _ _ _ _ _ (omega arith) (omega arith) refl
    (leafs_last ts (phrase ts base p) n a p p g r b identifier 6 2 (omega arith) (omega arith) refl) h.leaf (last (start base p g.within)))

-- a token that has a label is within the list
type_inside : (ts : List ℕ) (p label t l : ℕ) → t ≡ get_or ts p 0 → l ≡ type_label t label → (l ≡ 0 → ⊥) → p < length ts
unfolding mem
type_inside ts p label t l f e z =
    ⊎_elim (λ (i : p < length ts). i)
    (λ (i : length ts ≤ p). absurd (z (e ∙ ap (λ (x : ℕ). type_label x label) (f ∙ get_or-eq_default ts 0 i))))
    (lt_or_le p (length ts))

label_at : (ts : List ℕ) (p label t l : ℕ) → t ≡ get_or ts p 0 → l ≡ type_label t label → type_label (get_or ts p 0) label ≡ l
label_at ts p label t l f k = ap (λ (x : ℕ). type_label x label) (sym f) ∙ sym k

module _ {ts : List ℕ} {p n label : ℕ} {a : List ℕ} (t l : ℕ) (f : t ≡ get_or ts p 0) (k : l ≡ type_label t label) where
  pub types_none : l ≡ 0 → Types label ts p n (Refused p) a a
  types_none z = record { sound = tt; leaf = rw (label_at ts p label t l f k ∙ z) (refl, refl) }

  pub types_row : {b : List ℕ} → Ready ts p n → (l ≡ 0 → ⊥) → b ≡ set a n (word l p (n + 1 - n)) → Types label ts p n (At (p + 1) (n + 1)) a b
  types_row g z u = record { sound = onward_row g (type_inside ts p label t l f k z); leaf = rw (label_at ts p label t l f k) (rw (ne_eqb l 0 z) (refl, u)) }

-- base ';', and a row
module _ (first : ℕ) {label name : ℕ} {ts : List ℕ} {p n : ℕ} {s : Read} {a b : List ℕ} (g : Ready ts p n) (h : Types 518 ts p n s a b) where
  pub groups_refused : {k : ℕ} → s ≡ Refused k → Groups first label name ts p n s a b
  groups_refused e = record { ends = λ v. refused_found e (phrased (base_reads g h) v) }

  pub groups_closed : {q m : ℕ} {r : Read} {c : List ℕ} → s ≡ At q m → Closes first label name ts q m r b c → Groups first label name ts p n r a c
  groups_closed e k = record { ends = λ v. k.ends (told e (phrased (base_reads g h) v)) }

-- ---- repetitions

-- what was read when the loop began goes on to here
pub record Loops (e : Ebnf Nonterminal) (ts : List ℕ) (p n : ℕ) (x : Read) (c₀ c : List ℕ) : Type 0 where
  pub on : {want : Result Rows} {k m : ℕ} {was : List ℕ} {rest : Ebnf Nonterminal} →
      Reading ts want k was (seq (star e) rest) m (At p n) c₀ → Reading ts want k was (seq (star e) rest) m x c

pub loops_begin : {e : Ebnf Nonterminal} {ts : List ℕ} {p n : ℕ} {c : List ℕ} → Loops e ts p n (At p n) c c
loops_begin = record { on = λ v. v }

module _ {e : Ebnf Nonterminal} {ts : List ℕ} {p n q m : ℕ} {c₀ c : List ℕ} (L : Loops e ts p n (At q m) c₀ c) (o : Ok tables (star e)) (g : Ready ts q m) where
  -- one turn
  pub loops_turn : {r : Read} {d : List ℕ} → mem (get_or ts q 0) (first tables e) ≡ true → Continues e ts q m r c d → Loops e ts p n r c₀ d
  loops_turn t h = record { on = λ v. h.on (more o g.within t (L.on v)) }

  -- no turn more
  pub many_ends : mem (get_or ts q 0) (first tables e) ≡ false → Steps (star e) ts p n (At q m) c₀ c
  many_ends t = record { sound = g; goes = record { on = λ v. stop o g.within t (L.on v) } }

module _ {e : Ebnf Nonterminal} {ts : List ℕ} {p n : ℕ} {c₀ d : List ℕ} {r : Read} (L : Loops e ts p n r c₀ d) where
  pub loops_at : {q m : ℕ} → r ≡ At q m → Loops e ts p n (At q m) c₀ d
  loops_at h = subst (λ (z : Read). Loops e ts p n z c₀ d) h L

  pub many_refused : {k : ℕ} → r ≡ Refused k → Steps (star e) ts p n r c₀ d
  many_refused h = record { sound = rw h tt; goes = record { on = λ v. dead h (L.on v) } }

-- e and then f
module _ {e f : Ebnf Nonterminal} {ts : List ℕ} {p n : ℕ} {r : Read} {a b : List ℕ} (h : Continues e ts p n r a b) where
  pub list_refused : {k : ℕ} → r ≡ Refused k → Steps (seq e f) ts p n r a b
  list_refused z = record { sound = rw z tt; goes = record { on = λ v. dead z (h.on (apart v)) } }

  pub list_then : {q m : ℕ} {y : Read} {c : List ℕ} → r ≡ At q m → Steps f ts q m y b c → Steps (seq e f) ts p n y a c
  list_then z s = record { sound = s.sound; goes = record { on = λ v. s.goes.on (told z (h.on (apart v))) } }

-- ---- what may be missing

module _ {e : Ebnf Nonterminal} {ts : List ℕ} {p n : ℕ} {a : List ℕ} where
  pub opt_absent : Ready ts p n → mem (get_or ts p 0) (first tables e) ≡ false → Steps (opt e) ts p n (At p n) a a
  opt_absent g t = record { sound = g; goes = record { on = λ v. nothing (right t v) } }

  pub opt_present : {r : Read} {b : List ℕ} → mem (get_or ts p 0) (first tables e) ≡ true → Sound ts r → Continues e ts p n r a b → Steps (opt e) ts p n r a b
  opt_present t s h = record { sound = s; goes = record { on = λ v. h.on (left t v) } }

-- a phrase that may be missing
pub opt_reads : {x : Nonterminal} {ts : List ℕ} {p n : ℕ} {r : Read} {a b : List ℕ} → Ready ts p n → mem (get_or ts p 0) (tables.begins x) ≡ true → Reads x ts p n r a b → Steps
    (opt (nt x)) ts p n r a b
opt_reads g t h = opt_present t (reads_sound h g) (reads_goes h)

-- ---- a word and an identifier

module _ {word : ℕ} {ts : List ℕ} {p n : ℕ} {x : Read} (g : Ready ts p n) (z : 0 < word) (h : Expects word ts p n x) where
  pub heads_refused : {k : ℕ} → x ≡ Refused k → Heads word ts p n x
  heads_refused e = record { sound = rw e tt; goes = λ v. dead e (by_token h z v) }

  pub heads_named : {q m : ℕ} {r : Read} → x ≡ At q m → Expects 1 ts q m r → Heads word ts p n r
  heads_named {q} {m} {r} e k =
      let w = expect_goes h e in
      record { sound = expect_sound r (expect_ready h g e) k; goes = λ v. rw (← w.0) (by_name k (omega arith) (told e (by_token h z v))) }

-- ---- names behind commas

pub comma_goes : {ts : List ℕ} {label q m : ℕ} {r : Read} {b c : List ℕ} → label < 65536 → Ready ts (q + 1) m → mem (get_or ts q 0) comma ≡ true → Leaves label ts (q + 1) m r b c →
    Continues (tok comma · id_of label) ts q m r b c
comma_goes l g t h = record { on = λ v. (leaf_goes l g h).on (passed t (apart v)) }

pub names_ok : (label : ℕ) → Ok tables (star (tok comma · id_of label))
unfolding mem disjoint
names_ok label = ok_of tables (star (tok comma · id_of label)) refl

-- ---- assignments

pub assigned_begins : (label : ℕ) → (label ≡ 17) ⊎ (label ≡ 22) → tables.begins (assigned_by label) ≡ identifier
assigned_begins label (inl e) = rw e refl
assigned_begins label (inr e) = rw e refl

pub assigned_small : (label : ℕ) → (label ≡ 17) ⊎ (label ≡ 22) → label < 65536
assigned_small label (inl e) = omega arith
assigned_small label (inr e) = omega arith

pub assigned_ok : (label : ℕ) → (label ≡ 17) ⊎ (label ≡ 22) → Ok tables (star (nt (assigned_by label)))
unfolding mem disjoint
assigned_ok label (inl e) = rw e (ok_of tables (star (nt constant)) refl)
assigned_ok label (inr e) = rw e (ok_of tables (star (nt derived)) refl)

pub begins_at : (ts : List ℕ) (q label : ℕ) (b : Bool) → (label ≡ 17) ⊎ (label ≡ 22) → mem (get_or ts q 0) identifier ≡ b → mem (get_or ts q 0) (first tables (nt (assigned_by label))) ≡ b
begins_at ts q label b s h = ap (λ (cs : List ℕ). mem (get_or ts q 0) cs) (assigned_begins label s) ∙ h

pub rules_ok : Ok tables (star (nt domain_rule))
unfolding mem disjoint
rules_ok = ok_of tables (star (nt domain_rule)) refl

pub groups_ok : Ok tables (star (nt attributes))
unfolding mem disjoint
groups_ok = ok_of tables (star (nt attributes)) refl

pub schemas_ok : Ok tables (star (nt schema))
unfolding mem disjoint
schemas_ok = ok_of tables (star (nt schema)) refl

pub declarations_ok : Ok tables (star (nt type_declaration ∣ nt entity))
unfolding mem disjoint
declarations_ok = ok_of tables (star (nt type_declaration ∣ nt entity)) refl

-- ---- '(' id { ',' id } ')'

regroup : {ts : List ℕ} {want : Result Rows} {n m : ℕ} {a b : List ℕ} {x : Read} {e f g h : Ebnf Nonterminal} → Reading ts want n a (seq (seq e
    (seq f g)) h) m x b → Reading ts want n a (seq (seq e f) (seq g h)) m x b
regroup r = record { done = r.done; found = r.found; named = r.named; is = r.is }

module _ (label : ℕ) {ts : List ℕ} {p n : ℕ} (g : Ready ts p n) {opened : Read} {a : List ℕ} (x : Expects 24 ts p n opened) where
  pub ids_opened : {k : ℕ} → opened ≡ Refused k → Steps (ids (id_of label)) ts p n opened a a
  ids_opened e = record { sound = rw e tt; goes = record { on = λ v. dead e (by_token x (omega arith) (apart v)) } }

  module _ {q m : ℕ} (e : opened ≡ At q m) {listed : Read} {b : List ℕ} (s : Steps (names_of label) ts q m listed a b) where
    pub ids_listed : {k : ℕ} → listed ≡ Refused k → Steps (ids (id_of label)) ts p n listed a b
    ids_listed e₂ = record { sound = rw e₂ tt; goes = record { on = λ v. dead e₂ (s.goes.on (regroup (told e (by_token x (omega arith) (apart v))))) } }

    pub ids_closed : {q₂ m₂ : ℕ} {r : Read} → listed ≡ At q₂ m₂ → Expects 25 ts q₂ m₂ r → Steps (ids (id_of label)) ts p n r a b
    ids_closed {r = r} e₂ y =
        record {
          sound = expect_sound r (sound_ready listed s.sound e₂) y;
          goes = record { on = λ v. by_token y (omega arith) (told e₂ (s.goes.on (regroup (told e (by_token x (omega arith) (apart v)))))) };
        }
