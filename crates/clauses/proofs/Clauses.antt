-- The rules of declarations, each from what its parts came to: where a part is refused, so is the rule. Assumes nothing.
use mathlib.Core.Bool.{Bool, true, false, ◌&&◌, cond}
use mathlib.Core.List.{List}
use mathlib.Core.Logic.{◌⊎◌, inl, inr}
use mathlib.Core.Path.{◌≡◌, refl, sym, ap, subst, ◌∙◌}
use Prim.Native.Nat.{ℕ, ◌+◌, ◌-◌, ◌/◌, ◌%◌}
use native.Mathlib.Omega.{arith}
use lib.ListN.{get_or, set}
use Rattle.ebnf.specs.Set.{mem}
use Rattle.ebnf.specs.Grammar.{here, node, Ebnf, none, mark, step, seq, star, nt}
use Rattle.ebnf.specs.Rows.{Rows}
use Rattle.ebnf.specs.Parse.{Result}
use Rattle.ebnf.proofs.Sets.{and_split}
use Rattle.express.specs.Tokens.Terminal.{identifier, semicolon, colon, equal, becomes, CONSTANT, DERIVE, END_CONSTANT, END_ENTITY}
use Rattle.express.specs.Tokens.Terminal.{END_SCHEMA, END_TYPE, ENUMERATION, OF, OPTIONAL, SELECT, SUBTYPE, TYPE, WHERE}
use Rattle.express.specs.Syntax.Grammar.{Nonterminal, rules, file, schema, constants, constant, base, type_declaration, underlying, where_clause, domain_rule}
use Rattle.express.specs.Syntax.Grammar.{entity, attributes, derived, expression, ◌·◌, ◌∣◌, tok, opt, ids, row as row_of, simple_types}
use Rattle.express.specs.Syntax.NodeKind as kind
use Rattle.express.proofs.Syntax.Descent.{phrase}
use Rattle.parsing.specs.Reading.{Read, At, Refused, word, Expects, Ready, Reads, Reading, Continues, Steps}
use Rattle.parsing.proofs.Terminals.{not_one, inside}
use Rattle.parsing.proofs.Laws.{start, finish, last, alone, apart, together, dead, told, named, passed}
use Rattle.parsing.proofs.Laws.{by_row, phrased, left, right, ahead_left, ahead_right, operator, reads, rows_few, token_small}
use Rattle.expressions.proofs.Operands.{leafs}
use Rattle.parsing.proofs.Steps.{by_token, by_name}
use Rattle.clauses.specs.Declares.{Closes, Groups, id_of, names_of, Types, assigned_by, declared_by, Heads, members_of}
use Rattle.clauses.proofs.Laws.{sound_ready, stopped, base_reads}

-- ---- constants and derived attributes: id ':' base ':=' expression ';'

abbrev assign_end : ℕ → Ebnf Nonterminal
assign_end label = tok semicolon · mark (node (label % 256) (label / 256))

abbrev assignment : ℕ → Ebnf Nonterminal
assignment label =
    step here identifier none · tok colon · nt base · tok becomes · nt expression · assign_end label

assigned_shape : (label : ℕ) → (label ≡ 17) ⊎ (label ≡ 22) → rules (assigned_by label) ≡ assignment label
assigned_shape label (inl e) = rw e refl
assigned_shape label (inr e) = rw e refl

module _ {ts : List ℕ} {p n : ℕ} (g : Ready ts p n) (label : ℕ) (s : (label ≡ 17) ⊎ (label ≡ 22)) {name : Read} {a : List ℕ} (x₁ : Expects 1 ts p n name) where
  assign_start : Reading ts (phrase ts (assigned_by label) p) n a (assignment label) p (At p n) a
  assign_start = subst (λ (z : Ebnf Nonterminal). Reading ts (phrase ts (assigned_by label) p) n a z p (At p n) a) (assigned_shape label s) (start (assigned_by label) p g.within)

  assign_name : Reading ts (phrase ts (assigned_by label) p) n a (tok colon · nt base · tok becomes · nt expression · assign_end label) p name a
  assign_name = by_name x₁ (omega arith) assign_start

  pub assigned_name : {k : ℕ} → name ≡ Refused k → Reads (assigned_by label) ts p n name a a
  assigned_name e = stopped (assigned_by label) g assign_name e

  module _ {q₁ m₁ : ℕ} (e₁ : name ≡ At q₁ m₁) {colons : Read} (x₂ : Expects 10 ts q₁ m₁ colons) where
    assign_colon : Reading ts (phrase ts (assigned_by label) p) n a (nt base · tok becomes · nt expression · assign_end label) p colons a
    assign_colon = by_token x₂ (omega arith) (told e₁ assign_name)

    pub assigned_colon : {k : ℕ} → colons ≡ Refused k → Reads (assigned_by label) ts p n colons a a
    assigned_colon e = stopped (assigned_by label) g assign_colon e

    module _ {q₂ m₂ : ℕ} (e₂ : colons ≡ At q₂ m₂) (g₂ : Ready ts q₂ m₂) {type : Read} {b : List ℕ} (x₃ : Types 518 ts q₂ m₂ type a b) where
      assign_type : Reading ts (phrase ts (assigned_by label) p) n a (tok becomes · nt expression · assign_end label) p type b
      assign_type = phrased (base_reads g₂ x₃) (told e₂ assign_colon)

      pub assigned_type : {k : ℕ} → type ≡ Refused k → Reads (assigned_by label) ts p n type a b
      assigned_type e = stopped (assigned_by label) g assign_type e

      module _ {q₃ m₃ : ℕ} (e₃ : type ≡ At q₃ m₃) {becomes : Read} (x₄ : Expects 30 ts q₃ m₃ becomes) where
        assign_becomes : Reading ts (phrase ts (assigned_by label) p) n a (nt expression · assign_end label) p becomes b
        assign_becomes = by_token x₄ (omega arith) (told e₃ assign_type)

        pub assigned_becomes : {k : ℕ} → becomes ≡ Refused k → Reads (assigned_by label) ts p n becomes a b
        assigned_becomes e = stopped (assigned_by label) g assign_becomes e

        module _ {q₄ m₄ : ℕ} (e₄ : becomes ≡ At q₄ m₄) {value : Read} {c : List ℕ} (x₅ : Reads expression ts q₄ m₄ value b c) where
          assign_value : Reading ts (phrase ts (assigned_by label) p) n a (assign_end label) p value c
          assign_value = phrased x₅ (told e₄ assign_becomes)

          pub assigned_value : {k : ℕ} → value ≡ Refused k → Reads (assigned_by label) ts p n value a c
          assigned_value e = stopped (assigned_by label) g assign_value e

          pub assigned_reads : {q₅ m₅ : ℕ} {r : Read} {d : List ℕ} → value ≡ At q₅ m₅ → Closes n label p ts q₅ m₅ r c d → Reads (assigned_by label) ts p n r a d
          assigned_reads e₅ x₆ = reads (assigned_by label) g.within (x₆.ends (told e₅ assign_value))

-- CONSTANT constant { constant } END_CONSTANT ';'
module _ {ts : List ℕ} {p n : ℕ} (g : Ready ts p n) (t : mem (get_or ts p 0) CONSTANT ≡ true) {list : Read} {a b : List ℕ} (s : Steps (nt constant · star (nt constant)) ts (p + 1) n list a b) where
  constant_list : Reading ts (phrase ts constants p) n a (tok END_CONSTANT · tok semicolon) p list b
  constant_list = s.goes.on (together (passed t (start constants p g.within)))

  pub constants_list : {k : ℕ} → list ≡ Refused k → Reads constants ts p n list a b
  constants_list e = stopped constants g constant_list e

  module _ {q m : ℕ} (e₁ : list ≡ At q m) {end : Read} (x : Expects 63 ts q m end) where
    constant_end : Reading ts (phrase ts constants p) n a (tok semicolon) p end b
    constant_end = by_token x (omega arith) (told e₁ constant_list)

    pub constants_end : {k : ℕ} → end ≡ Refused k → Reads constants ts p n end a b
    constants_end e = stopped constants g constant_end e

    pub constants_reads : {q₂ m₂ : ℕ} {r : Read} → end ≡ At q₂ m₂ → Expects 9 ts q₂ m₂ r → Reads constants ts p n r a b
    constants_reads e₂ y = reads constants g.within (finish (by_token y (omega arith) (last (told e₂ constant_end))))

pub derivations_go : {ts : List ℕ} {p n : ℕ} → mem (get_or ts p 0) DERIVE ≡ true → {r : Read} {a b : List ℕ} → Steps (nt derived · star (nt derived)) ts (p + 1) n r a b →
    Continues (tok DERIVE · nt derived · star (nt derived)) ts p n r a b
derivations_go t s = record { on = λ v. s.goes.on (passed t (apart v)) }

-- ---- rules

module _ {ts : List ℕ} {p n : ℕ} (g : Ready ts p n) (q : Bool) (e : q ≡ (mem (get_or ts p 0) identifier && mem (get_or ts (p + 1) 0) colon)) where
  module _ (h : q ≡ true) where
    pub label_ready : Ready ts (p + 2) n
    unfolding mem
    label_ready =
        let i = inside ts colon (p + 1) refl (and_split (mem (get_or ts p 0) identifier) _ (sym e ∙ h)).1 in
        let w = g.behind in
        record { small = g.small; within = omega arith; behind = omega arith }

    module _ {r : Read} {a b : List ℕ} (x : Reads expression ts (p + 2) n r a b) where
      rule_named : Reading ts (phrase ts domain_rule p) n a (tok semicolon · mark (node (279 % 256) (279 / 256))) p r b
      rule_named = phrased x (alone (ahead_left (sym e ∙ h) (last (start domain_rule p g.within))))

      pub labelled_refused : {k : ℕ} → r ≡ Refused k → Reads domain_rule ts p n r a b
      labelled_refused z = stopped domain_rule g rule_named z

      pub labelled_reads : {q₂ m₂ : ℕ} {w : Read} {c : List ℕ} → r ≡ At q₂ m₂ → Closes n 279 p ts q₂ m₂ w b c → Reads domain_rule ts p n w a c
      labelled_reads z y = reads domain_rule g.within (y.ends (told z rule_named))

  module _ (h : q ≡ false) {r : Read} {a b : List ℕ} (x : Reads expression ts p n r a b) where
    rule_plain : Reading ts (phrase ts domain_rule p) n a (tok semicolon · mark (node (535 % 256) (535 / 256))) p r b
    rule_plain = phrased x (alone (ahead_right (sym e ∙ h) (last (start domain_rule p g.within))))

    pub plain_refused : {k : ℕ} → r ≡ Refused k → Reads domain_rule ts p n r a b
    plain_refused z = stopped domain_rule g rule_plain z

    pub plain_reads : {q₂ m₂ : ℕ} {w : Read} {c : List ℕ} → r ≡ At q₂ m₂ → Closes n 535 p ts q₂ m₂ w b c → Reads domain_rule ts p n w a c
    plain_reads z y = reads domain_rule g.within (y.ends (told z rule_plain))

pub where_reads : {ts : List ℕ} {p n : ℕ} (g : Ready ts p n) → mem (get_or ts p 0) WHERE ≡ true → {r : Read} {a b : List ℕ} → Steps (nt domain_rule · star (nt domain_rule)) ts (p + 1) n r a b →
    Reads where_clause ts p n r a b
where_reads {p = p} g t s = reads where_clause g.within (finish (s.goes.on (last (passed t (start where_clause p g.within)))))

-- ---- types

module _ {ts : List ℕ} {p n : ℕ} (g : Ready ts p n) where
  in_set : (d : ℕ) (cs : List ℕ) (b : Bool) → get_or ts p 0 ≡ d → mem d cs ≡ b → mem (get_or ts p 0) cs ≡ b
  in_set d cs b h k = ap (λ (x : ℕ). mem x cs) h ∙ k

  -- ENUMERATION OF ids
  module _ (h : get_or ts p 0 ≡ 76) {of : Read} {a : List ℕ} (x : Expects 110 ts (p + 1) n of) where
    enumeration_of : Reading ts (phrase ts underlying p) n a (seq (ids (id_of 14)) (row_of kind.enumeration)) p of a
    unfolding mem
    enumeration_of =
        by_token x (omega arith)
        (operator (in_set 76 ENUMERATION true h refl)
        (alone (left (in_set 76 ENUMERATION true h refl) (right (in_set 76 identifier false h refl) (right (in_set 76 simple_types false h refl) (last (start underlying p g.within)))))))

    pub enumeration_stopped : {k : ℕ} → of ≡ Refused k → Reads underlying ts p n of a a
    enumeration_stopped e = stopped underlying g enumeration_of e

    module _ {q m : ℕ} (e₁ : of ≡ At q m) {items : Read} {b : List ℕ} (s : Steps (ids (id_of 14)) ts q m items a b) where
      enumeration_items : Reading ts (phrase ts underlying p) n a (row_of kind.enumeration) p items b
      enumeration_items = s.goes.on (told e₁ enumeration_of)

      pub enumeration_refused : {k : ℕ} → items ≡ Refused k → Reads underlying ts p n items a b
      enumeration_refused e = stopped underlying g enumeration_items e

      pub enumeration_reads : {q₂ m₂ : ℕ} {c : List ℕ} → items ≡ At q₂ m₂ → c ≡ set b m₂ (word kind.enumeration p (m₂ + 1 - n)) → Reads underlying ts p n (At q₂ (m₂ + 1)) a c
      enumeration_reads {c = c} e₂ u =
          let l = token_small g in
          reads underlying g.within
          (finish (by_row c (omega arith) (omega arith) (rows_few (sound_ready items s.sound e₂)) (omega arith) u (last (told e₂ enumeration_items))))

  -- SELECT ids
  module _ (h : get_or ts p 0 ≡ 126) {names : Read} {a b : List ℕ} (s : Steps (ids (id_of 1030)) ts (p + 1) n names a b) where
    selection_names : Reading ts (phrase ts underlying p) n a (row_of kind.select) p names b
    unfolding mem
    selection_names =
        s.goes.on
        (operator (in_set 126 SELECT true h refl)
        (alone (right (in_set 126 ENUMERATION false h refl) (right (in_set 126 identifier false h refl) (right (in_set 126 simple_types false h refl) (last (start underlying p g.within)))))))

    pub selection_refused : {k : ℕ} → names ≡ Refused k → Reads underlying ts p n names a b
    selection_refused e = stopped underlying g selection_names e

    pub selection_reads : {q m : ℕ} {c : List ℕ} → names ≡ At q m → c ≡ set b m (word kind.select p (m + 1 - n)) → Reads underlying ts p n (At q (m + 1)) a c
    selection_reads {c = c} e₂ u =
        let l = token_small g in
        reads underlying g.within (finish (by_row c (omega arith) (omega arith) (rows_few (sound_ready names s.sound e₂)) (omega arith) u (last (told e₂ selection_names))))

  -- a simple type, or another type's name
  pub renamed_reads : (c : ℕ) → c ≡ get_or ts p 0 → (c ≡ 76 → ⊥) → (c ≡ 126 → ⊥) → {r : Read} {a b : List ℕ} → Types 774 ts p n r a b → Reads underlying ts p n r a b
  renamed_reads c e h k {r} {a} {b} t =
      let L = leafs ts (phrase ts underlying p) n a p p g r b in
      reads underlying g.within
      (L _ _ _ _ _ (omega arith) (omega arith) refl
      (L identifier 6 3 _ 0 (omega arith) (omega arith) refl
      (λ w v.
      let no = told (rw (not_one (get_or ts p 0) 126 (λ z. k (e ∙ z))) refl) (named (alone (right (not_one (get_or ts p 0) 76 (λ z. h (e ∙ z))) v))) in
      rw (w.0, w.1) (finish {m = p} (dead refl no))))
      t.leaf (last (start underlying p g.within)))

abbrev type_end : Ebnf Nonterminal
type_end = tok END_TYPE · tok semicolon · row_of kind.type

-- TYPE id '=' underlying ';' [ where ] END_TYPE ';'
module _ {ts : List ℕ} {p n : ℕ} (g : Ready ts p n) {name : Read} {a : List ℕ} (h : Heads 140 ts p n name) where
  type_head : Reading ts (phrase ts type_declaration p) n a (tok equal · nt underlying · tok semicolon · opt (nt where_clause) · type_end) (p + 1) name a
  type_head = h.goes (start type_declaration p g.within)

  pub type_1 : {k : ℕ} → name ≡ Refused k → Reads type_declaration ts p n name a a
  type_1 e = stopped type_declaration g type_head e

  module _ {q₁ m₁ : ℕ} (e₁ : name ≡ At q₁ m₁) {equals : Read} (x₂ : Expects 14 ts q₁ m₁ equals) where
    type_equal : Reading ts (phrase ts type_declaration p) n a (nt underlying · tok semicolon · opt (nt where_clause) · type_end) (p + 1) equals a
    type_equal = by_token x₂ (omega arith) (told e₁ type_head)

    pub type_2 : {k : ℕ} → equals ≡ Refused k → Reads type_declaration ts p n equals a a
    type_2 e = stopped type_declaration g type_equal e

    module _ {q₂ m₂ : ℕ} (e₂ : equals ≡ At q₂ m₂) {under : Read} {b : List ℕ} (x₃ : Reads underlying ts q₂ m₂ under a b) where
      type_under : Reading ts (phrase ts type_declaration p) n a (tok semicolon · opt (nt where_clause) · type_end) (p + 1) under b
      type_under = phrased x₃ (told e₂ type_equal)

      pub type_3 : {k : ℕ} → under ≡ Refused k → Reads type_declaration ts p n under a b
      type_3 e = stopped type_declaration g type_under e

      module _ {q₃ m₃ : ℕ} (e₃ : under ≡ At q₃ m₃) {semi : Read} (x₄ : Expects 9 ts q₃ m₃ semi) where
        type_semicolon : Reading ts (phrase ts type_declaration p) n a (opt (nt where_clause) · type_end) (p + 1) semi b
        type_semicolon = by_token x₄ (omega arith) (told e₃ type_under)

        pub type_4 : {k : ℕ} → semi ≡ Refused k → Reads type_declaration ts p n semi a b
        type_4 e = stopped type_declaration g type_semicolon e

        module _ {q₄ m₄ : ℕ} (e₄ : semi ≡ At q₄ m₄) {ruled : Read} {c : List ℕ} (x₅ : Steps (opt (nt where_clause)) ts q₄ m₄ ruled b c) where
          type_rules : Reading ts (phrase ts type_declaration p) n a type_end (p + 1) ruled c
          type_rules = x₅.goes.on (told e₄ type_semicolon)

          pub type_5 : {k : ℕ} → ruled ≡ Refused k → Reads type_declaration ts p n ruled a c
          type_5 e = stopped type_declaration g type_rules e

          module _ {q₅ m₅ : ℕ} (e₅ : ruled ≡ At q₅ m₅) {end : Read} (x₆ : Expects 74 ts q₅ m₅ end) where
            type_ended : Reading ts (phrase ts type_declaration p) n a (tok semicolon · row_of kind.type) (p + 1) end c
            type_ended = by_token x₆ (omega arith) (told e₅ type_rules)

            pub type_6 : {k : ℕ} → end ≡ Refused k → Reads type_declaration ts p n end a c
            type_6 e = stopped type_declaration g type_ended e

            pub type_reads : {q₆ m₆ : ℕ} {r : Read} {d : List ℕ} → end ≡ At q₆ m₆ → Closes n 18 (p + 1) ts q₆ m₆ r c d → Reads type_declaration ts p n r a d
            type_reads e₆ y = reads type_declaration g.within (y.ends (told e₆ type_ended))

-- ---- attributes: id { ',' id } ':' [ OPTIONAL ] base ';'

abbrev group : ℕ → Ebnf Nonterminal
group k = nt base · tok semicolon · row_of k

module _ {ts : List ℕ} {p n : ℕ} (g : Ready ts p n) {listed : Read} {a b : List ℕ} (s : Steps (names_of 19) ts p n listed a b) where
  attribute_names : Reading ts (phrase ts attributes p) n a (tok colon · (tok OPTIONAL · group kind.optional_group ∣ group kind.attribute_group)) p listed b
  attribute_names = s.goes.on (together (start attributes p g.within))

  pub attributes_listed : {k : ℕ} → listed ≡ Refused k → Reads attributes ts p n listed a b
  attributes_listed e = stopped attributes g attribute_names e

  module _ {q₁ m₁ : ℕ} (e₁ : listed ≡ At q₁ m₁) {colons : Read} (x : Expects 10 ts q₁ m₁ colons) where
    attribute_colon : Reading ts (phrase ts attributes p) n a (tok OPTIONAL · group kind.optional_group ∣ group kind.attribute_group) p colons b
    attribute_colon = by_token x (omega arith) (told e₁ attribute_names)

    pub attributes_colon : {k : ℕ} → colons ≡ Refused k → Reads attributes ts p n colons a b
    attributes_colon e = stopped attributes g attribute_colon e

    module _ {q m : ℕ} (h : colons ≡ At q m) {r : Read} {c : List ℕ} where
      pub attributes_optional : mem (get_or ts q 0) OPTIONAL ≡ true → Groups n 21 p ts (q + 1) m r b c → Reads attributes ts p n r a c
      attributes_optional t y = reads attributes g.within (y.ends (passed t (alone (left t (last (told h attribute_colon))))))

      pub attributes_plain : mem (get_or ts q 0) OPTIONAL ≡ false → Groups n 20 p ts q m r b c → Reads attributes ts p n r a c
      attributes_plain t y = reads attributes g.within (y.ends (alone (right t (last (told h attribute_colon)))))

-- SUBTYPE OF ids
module _ {ts : List ℕ} {p n : ℕ} (t : mem (get_or ts p 0) SUBTYPE ≡ true) {of : Read} {a : List ℕ} (x : Expects 110 ts (p + 1) n of) where
  pub supertypes_stopped : {k : ℕ} → of ≡ Refused k → Continues (tok SUBTYPE · tok OF · ids (id_of 1286)) ts p n of a a
  supertypes_stopped e = record { on = λ v. dead e (by_token x (omega arith) (apart (passed t (apart v)))) }

  pub supertypes_go : {q m : ℕ} {r : Read} {b : List ℕ} → of ≡ At q m → Steps (ids (id_of 1286)) ts q m r a b → Continues (tok SUBTYPE · tok OF · ids (id_of 1286)) ts p n r a b
  supertypes_go e s = record { on = λ v. s.goes.on (told e (by_token x (omega arith) (apart (passed t (apart v))))) }

-- ---- entities: ENTITY id [ SUBTYPE OF ids ] ';' { attributes } [ DERIVE .. ] [ where ] END_ENTITY ';'

abbrev entity_end : Ebnf Nonterminal
entity_end = tok END_ENTITY · tok semicolon · row_of kind.entity

abbrev supers_of : Ebnf Nonterminal
supers_of = opt (tok SUBTYPE · tok OF · ids (id_of 1286))

abbrev entity_body : Ebnf Nonterminal
entity_body = star (nt attributes) · opt (tok DERIVE · nt derived · star (nt derived)) · opt (nt where_clause) · entity_end

-- parts that stand together
spread : {ts : List ℕ} {want : Result Rows} {n m : ℕ} {a b : List ℕ} {x : Read} {e f g h : Ebnf Nonterminal} → Reading ts want n a (seq e (seq f
    (seq g h))) m x b → Reading ts want n a (seq (seq e (seq f g)) h) m x b
spread r = record { done = r.done; found = r.found; named = r.named; is = r.is }

module _ {ts : List ℕ} {p n : ℕ} (g : Ready ts p n) {name : Read} {a : List ℕ} (h : Heads 75 ts p n name) where
  entity_head : Reading ts (phrase ts entity p) n a (supers_of · tok semicolon · entity_body) (p + 1) name a
  entity_head = h.goes (start entity p g.within)

  pub entity_1 : {k : ℕ} → name ≡ Refused k → Reads entity ts p n name a a
  entity_1 e = stopped entity g entity_head e

  module _ {q₁ m₁ : ℕ} (e₁ : name ≡ At q₁ m₁) {supers : Read} {b : List ℕ} (x₂ : Steps (opt (tok SUBTYPE · tok OF · ids (id_of 1286))) ts q₁ m₁ supers a b) where
    entity_supers : Reading ts (phrase ts entity p) n a (tok semicolon · entity_body) (p + 1) supers b
    entity_supers = x₂.goes.on (told e₁ entity_head)

    pub entity_2 : {k : ℕ} → supers ≡ Refused k → Reads entity ts p n supers a b
    entity_2 e = stopped entity g entity_supers e

    module _ {q₂ m₂ : ℕ} (e₂ : supers ≡ At q₂ m₂) {semi : Read} (x₃ : Expects 9 ts q₂ m₂ semi) where
      entity_semicolon : Reading ts (phrase ts entity p) n a entity_body (p + 1) semi b
      entity_semicolon = by_token x₃ (omega arith) (told e₂ entity_supers)

      pub entity_3 : {k : ℕ} → semi ≡ Refused k → Reads entity ts p n semi a b
      entity_3 e = stopped entity g entity_semicolon e

      module _ {q₃ m₃ : ℕ} (e₃ : semi ≡ At q₃ m₃) {members : Read} {c : List ℕ} (x₄ : Steps members_of ts q₃ m₃ members b c) where
        entity_members : Reading ts (phrase ts entity p) n a entity_end (p + 1) members c
        entity_members = x₄.goes.on (spread (told e₃ entity_semicolon))

        pub entity_4 : {k : ℕ} → members ≡ Refused k → Reads entity ts p n members a c
        entity_4 e = stopped entity g entity_members e

        module _ {q₄ m₄ : ℕ} (e₄ : members ≡ At q₄ m₄) {end : Read} (x₅ : Expects 65 ts q₄ m₄ end) where
          entity_ended : Reading ts (phrase ts entity p) n a (tok semicolon · row_of kind.entity) (p + 1) end c
          entity_ended = by_token x₅ (omega arith) (told e₄ entity_members)

          pub entity_5 : {k : ℕ} → end ≡ Refused k → Reads entity ts p n end a c
          entity_5 e = stopped entity g entity_ended e

          pub entity_reads : {q₅ m₅ : ℕ} {r : Read} {d : List ℕ} → end ≡ At q₅ m₅ → Closes n 24 (p + 1) ts q₅ m₅ r c d → Reads entity ts p n r a d
          entity_reads e₅ y = reads entity g.within (y.ends (told e₅ entity_ended))

-- ---- schemas and files

pub declared_reads : {ts : List ℕ} {p n : ℕ} {r : Read} {a b : List ℕ} → Reads (declared_by (get_or ts p 0)) ts p n r a b → Continues (nt type_declaration ∣ nt entity) ts p n r a b
declared_reads {ts} {p} {n} {r} {a} {b} h = go (mem (get_or ts p 0) TYPE) refl h
  where
    go : (t : Bool) → mem (get_or ts p 0) TYPE ≡ t → Reads (cond t type_declaration entity) ts p n r a b → Continues (nt type_declaration ∣ nt entity) ts p n r a b
    go true t k = record { on = λ v. phrased k (left t v) }
    go false t k = record { on = λ v. phrased k (right t v) }

-- what the token begins
pub declared_type : {ts : List ℕ} {p n : ℕ} {r : Read} {a b : List ℕ} → mem (get_or ts p 0) TYPE ≡ true → Reads type_declaration ts p n r a b → Reads (declared_by (get_or ts p 0)) ts p n r a b
declared_type t h = rw t h

pub declared_entity : {ts : List ℕ} {p n : ℕ} {r : Read} {a b : List ℕ} → mem (get_or ts p 0) TYPE ≡ false → Reads entity ts p n r a b → Reads (declared_by (get_or ts p 0)) ts p n r a b
declared_entity t h = rw t h

abbrev schema_end : Ebnf Nonterminal
schema_end = tok END_SCHEMA · tok semicolon · row_of kind.schema

abbrev declarations_of : Ebnf Nonterminal
declarations_of = star (nt type_declaration ∣ nt entity)

-- SCHEMA id ';' [ constants ] { type | entity } END_SCHEMA ';'
module _ {ts : List ℕ} {p n : ℕ} (g : Ready ts p n) {name : Read} {a : List ℕ} (h : Heads 125 ts p n name) where
  schema_head : Reading ts (phrase ts schema p) n a (tok semicolon · opt (nt constants) · declarations_of · schema_end) (p + 1) name a
  schema_head = h.goes (start schema p g.within)

  pub schema_1 : {k : ℕ} → name ≡ Refused k → Reads schema ts p n name a a
  schema_1 e = stopped schema g schema_head e

  module _ {q₁ m₁ : ℕ} (e₁ : name ≡ At q₁ m₁) {semi : Read} (x₂ : Expects 9 ts q₁ m₁ semi) where
    schema_semicolon : Reading ts (phrase ts schema p) n a (opt (nt constants) · declarations_of · schema_end) (p + 1) semi a
    schema_semicolon = by_token x₂ (omega arith) (told e₁ schema_head)

    pub schema_2 : {k : ℕ} → semi ≡ Refused k → Reads schema ts p n semi a a
    schema_2 e = stopped schema g schema_semicolon e

    module _ {q₂ m₂ : ℕ} (e₂ : semi ≡ At q₂ m₂) {values : Read} {b : List ℕ} (x₃ : Steps (opt (nt constants)) ts q₂ m₂ values a b) where
      schema_constants : Reading ts (phrase ts schema p) n a (declarations_of · schema_end) (p + 1) values b
      schema_constants = x₃.goes.on (told e₂ schema_semicolon)

      pub schema_3 : {k : ℕ} → values ≡ Refused k → Reads schema ts p n values a b
      schema_3 e = stopped schema g schema_constants e

      module _ {q₃ m₃ : ℕ} (e₃ : values ≡ At q₃ m₃) {declared : Read} {c : List ℕ} (x₄ : Steps (star (nt type_declaration ∣ nt entity)) ts q₃ m₃ declared b c) where
        schema_declared : Reading ts (phrase ts schema p) n a schema_end (p + 1) declared c
        schema_declared = x₄.goes.on (told e₃ schema_constants)

        pub schema_4 : {k : ℕ} → declared ≡ Refused k → Reads schema ts p n declared a c
        schema_4 e = stopped schema g schema_declared e

        module _ {q₄ m₄ : ℕ} (e₄ : declared ≡ At q₄ m₄) {end : Read} (x₅ : Expects 73 ts q₄ m₄ end) where
          schema_ended : Reading ts (phrase ts schema p) n a (tok semicolon · row_of kind.schema) (p + 1) end c
          schema_ended = by_token x₅ (omega arith) (told e₄ schema_declared)

          pub schema_5 : {k : ℕ} → end ≡ Refused k → Reads schema ts p n end a c
          schema_5 e = stopped schema g schema_ended e

          pub schema_reads : {q₅ m₅ : ℕ} {r : Read} {d : List ℕ} → end ≡ At q₅ m₅ → Closes n 25 (p + 1) ts q₅ m₅ r c d → Reads schema ts p n r a d
          schema_reads e₅ y = reads schema g.within (y.ends (told e₅ schema_ended))

module _ {ts : List ℕ} (g : Ready ts 0 0) {all : Read} {a b : List ℕ} (s : Steps (nt schema · star (nt schema)) ts 0 0 all a b) where
  file_schemas : Reading ts (phrase ts file 0) 0 a (row_of kind.file) 0 all b
  file_schemas = s.goes.on (together (start file 0 g.within))

  pub file_refused : {k : ℕ} → all ≡ Refused k → Reads file ts 0 0 all a b
  file_refused e = stopped file g file_schemas e

  pub file_reads : {q m : ℕ} {c : List ℕ} → all ≡ At q m → c ≡ set b m (word kind.file 0 (m + 1 - 0)) → Reads file ts 0 0 (At q (m + 1)) a c
  file_reads {c = c} e u = reads file g.within (finish (by_row c (omega arith) (omega arith) (rows_few (sound_ready all s.sound e)) (omega arith) u (last (told e file_schemas))))
