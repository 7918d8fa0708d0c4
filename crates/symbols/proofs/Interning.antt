-- Laws of interning: the rounds of an identifier find its symbol, those of a word the least identifier that is spelled so, and the chains grow
-- token by token.
use mathlib.Core.Path.{◌≡◌, refl, sym, ap, ◌∙◌}
use mathlib.Core.Bool.{Bool, true, false, cond, ◌&&◌, not, false≢true}
use mathlib.Core.List.{List, [], ◌∷◌, ◌++◌, map}
use mathlib.Core.Logic.{by_cases}
use Prim.Native.Nat.{ℕ, zero, suc, ◌+◌, ◌-◌, ◌≤◌, ◌<◌}
use native.Mathlib.Omega.{arith}
use native.Mathlib.Numerals.{add-one}
use native.Mathlib.Decide.{dec_lt}
use lib.Dec.{leb}
use lib.ListN.{length, get_or, set, take, length-set, length-take, length-map}
use lib.Seq.{sets, take-suc, take_all, get_or-set_other}
use borrow.Author.Tests.{leb-true, lt-ltb, le-ltb, not-true, not-false}
use Rattle.columns.specs.Column.{cleared}
use Rattle.columns.proofs.Laws.{sets_snoc, take_rows, length_cleared}
use Rattle.express.specs.Tokens.Bytes.{lower, same}
use Rattle.relations.specs.Select.{span, first_from}
use Rattle.express.specs.Tokens.Spelling.{spelling, is_identifier, symbol_of, symbols_of}
use Rattle.relations.proofs.Select.{and_fst, and_snd, and_both, untrue, first_is, first_of}
use Rattle.express.proofs.Tokens.Spelling.{same_true, symbol_le, symbol_other, symbol_least, symbol_named, symbol_spelled, symbol_iff, symbols_at}
use Rattle.index.specs.Link.{last_index_below}
use Rattle.index.specs.Room.{done, enough}
use Rattle.chains.specs.Rounds.{home}
use Rattle.chains.specs.Chains.{is_first, entries, home_at, chained, Links, ChainedBelow}
use Rattle.chains.specs.Steps.{first_spelled, place_at, place_of, PlacedAlike, Places, PlacesWord}
use Rattle.chains.specs.declared.Place.{Place}
use Rattle.chains.specs.declared.Place.TheVariants.{Known, Free}
use Rattle.symbols.specs.Interning.{Interns, spells, symbol_of_word, SpelledLike, FindsSymbol}
use Rattle.symbols.specs.Steps.{symbol_by, next_by, heads_by, ReadyToEnter, Enters, Fills, ReadyToFill}
use Rattle.index.specs.Dictionary.{among}
use Rattle.std.specs.Prelude.{Option, Some, None, Result, Ok, Err}
use Rattle.index.specs.declared.Short.{Short}
use Rattle.index.proofs.Search.{last_next, last_none_yet, last_le, last_passes, last_none, at_set}
use Rattle.spellings.proofs.Spellings.{same_is}
use Rattle.index.proofs.Entries.{fits_parts, zeros_at}
use Rattle.chains.proofs.Chains.{first_by, first_named, first_itself, symbol_first, on_is, on_first, on_home}

module _ (bytes starts lengths : List ℕ) where
  abbrev spelt : ℕ → List ℕ
  spelt i = spelling bytes starts lengths i

  abbrev alike : List ℕ → ℕ → Bool
  alike word j = spells bytes starts lengths word j

  abbrev named : List ℕ → ℕ → Bool
  named t j = is_identifier t j

  abbrev symbol : List ℕ → ℕ → ℕ
  symbol t i = symbol_of bytes starts lengths t i

  abbrev sought : List ℕ → List ℕ → ℕ → Bool
  sought t xs j = first_spelled bytes starts lengths t xs j

  -- ---- where an identifier is

  -- a token is below the limit, and a bucket one of them
  pub known_low : {heads next xs : List ℕ} {limit k : ℕ} {p : Place} → Places bytes starts lengths heads next xs limit p → p ≡ Known k → k < limit
  known_low P e = (rw e at P).holds.0

  pub free_low : {heads next xs : List ℕ} {limit b : ℕ} {p : Place} → Places bytes starts lengths heads next xs limit p → p ≡ Free b → b < length heads
  free_low P e = (rw e at P).holds

  -- ---- the symbol of a word

  pub no_heads : {heads next word : List ℕ} → length heads ≡ 0 → FindsSymbol bytes starts lengths heads next word None
  no_heads z = record { holds = tt; is = λ t C. absurd (omega (arith, C.some)) }

  module _ (t word : List ℕ) where
    abbrev meant : ℕ → Bool
    meant j = is_identifier t j && alike word j

    -- the first identifier that is spelled so
    first_alike : (k : ℕ) → k < length starts → is_identifier t k ≡ true → symbol t k ≡ k → spelt k ≡ map lower word → symbol_of_word bytes starts lengths t word ≡ Some k
    unfolding symbol_of_word
    first_alike k l h f s =
        let n = length starts in
        let q : first_from meant 0 (n - 0) ≡ k =
        first_of meant n 0 k (omega arith) l (and_both (named t k) (alike word k) h (same_is _ _ s))
        (λ j _ g.
        untrue (meant j)
        (λ y.
        omega (arith, f, symbol_least bytes starts lengths t k j h (and_fst (named t j) (alike word j) y) (same_true _ _ (and_snd (named t j) (alike word j) y) ∙ sym s)))) in
        let z : n ≡ n - 0 = omega arith in
        ap (λ (d : ℕ). among n (first_from meant 0 d)) z ∙ ap (among n) q ∙ ap (λ (y : Bool). cond y (Some k) None) (lt-ltb k n l)

    no_alike : ((j : ℕ) → j < length starts → is_identifier t j ≡ true → spelt j ≡ map lower word → ⊥) → symbol_of_word bytes starts lengths t word ≡ None
    unfolding symbol_of_word
    no_alike none =
        let n = length starts in
        let F = first_is meant 0 n in
        let k = first_from meant 0 n in
        let past : n ≤ k =
        by_cases (dec_lt k n)
        (λ l.
        let y = F.passes (omega (arith, l)) in
        absurd (none k l (and_fst (named t k) (alike word k) y) (same_true _ _ (and_snd (named t k) (alike word k) y))))
        (λ l. omega (arith, l)) in
        ap (λ (z : Bool). cond z (Some k) None) (le-ltb k n past)

  -- the token of a place, if it is one
  abbrev found_by : Place → Option ℕ
  found_by (Known k) = Some k
  found_by (Free b) = None

  holds_found : (word : List ℕ) (limit m : ℕ) (p : Place) → limit ≤ length starts → PlacedAlike bytes starts lengths (map lower word) limit m p
      → SpelledLike bytes starts lengths word (length starts) (found_by p)
  holds_found word limit m (Known k) l h = (omega (arith, h.0), h.1)
  holds_found word limit m (Free b) l h = tt

  -- where no first of a spelling has it, no identifier has
  none_named : (t xs : List ℕ) (n : ℕ) → last_index_below (sought t xs) n ≡ 0 → (j : ℕ) → j < n → is_identifier t j ≡ true → spelt j ≡ xs → ⊥
  none_named t xs n e j l h s =
      let low : symbol t j < n = omega (arith, symbol_le bytes starts lengths t j) in
      let q = symbol_spelled bytes starts lengths t j h ∙ s in
      false≢true (sym (last_none (sought t xs) n (symbol t j) e low) ∙ and_both _ _ (symbol_first bytes starts lengths t j h) (same_is _ _ q))

  module _ (t xs : List ℕ) (n k : ℕ) (e : last_index_below (sought t xs) n ≡ suc k) where
    found_first : is_first bytes starts lengths t k ≡ true
    found_first = and_fst (is_first bytes starts lengths t k) (same (spelt k) xs) (last_passes (sought t xs) n k e)

    found_alike : spelt k ≡ xs
    found_alike = same_true _ _ (and_snd (is_first bytes starts lengths t k) (same (spelt k) xs) (last_passes (sought t xs) n k e))

    found_low : k < n
    found_low = omega (arith, e, last_le (sought t xs) n)

  word_found : (t word : List ℕ) (b l : ℕ) → last_index_below (sought t (map lower word)) (length starts) ≡ l
      → found_by (place_at l b) ≡ symbol_of_word bytes starts lengths t word
  word_found t word b zero e = sym (no_alike t word (λ j l h s. none_named t (map lower word) (length starts) e j l h s))
  word_found t word b (suc k) e =
      let xs = map lower word in
      let f = found_first t xs (length starts) k e in
      sym (first_alike t word k (found_low t xs (length starts) k e) (first_named bytes starts lengths t k f) (first_itself bytes starts lengths t k f)
      (found_alike t xs (length starts) k e))

  finds_symbol : {heads next word : List ℕ} {limit : ℕ} (p : Place) → limit ≤ length starts
      → (length starts ≤ length lengths → length starts ≤ length next → limit ≡ length starts)
      → Places bytes starts lengths heads next (map lower word) limit p → FindsSymbol bytes starts lengths heads next word (found_by p)
  unfolding place_of
  finds_symbol {heads} {next} {word} {limit} p low all P =
      record {
        holds = holds_found word limit (length heads) p low P.holds;
        is = λ t C. all_found t (rw (all C.sized C.room) at (P.is t)) C.chains;
      }
    where
      all_found : (t : List ℕ) → (ChainedBelow bytes starts lengths t heads next (length starts) → p ≡ place_of bytes starts lengths t (length heads) (map lower word) (length starts))
          → ChainedBelow bytes starts lengths t heads next (length starts) → found_by p ≡ symbol_of_word bytes starts lengths t word
      all_found t is C =
          ap found_by (is C)
          ∙ word_found t word (home (entries bytes starts lengths t (length heads) (length starts)) (length heads) (map lower word))
          (last_index_below (sought t (map lower word)) (length starts)) refl

  module _ {heads next word : List ℕ} {p : Place} (some : length heads ≡ 0 → ⊥) (W : PlacesWord bytes starts lengths heads next word p) where
    found : FindsSymbol bytes starts lengths heads next word (found_by p)
    found = finds_symbol p (omega arith) (λ a b. omega (arith, a, b)) (W.is (omega (arith, some)))

    pub finds_known : {k : ℕ} → p ≡ Known k → FindsSymbol bytes starts lengths heads next word (Some k)
    finds_known e = rw (← ap found_by e) found

    pub finds_free : {b : ℕ} → p ≡ Free b → FindsSymbol bytes starts lengths heads next word None
    finds_free e = rw (← ap found_by e) found

-- ---- an identifier is entered

module _ {bytes starts lengths symbols heads next : List ℕ} {i v : ℕ} {p : Place} (P : Places bytes starts lengths heads next (spelling bytes starts lengths i) i p) where
  pub enters_known : {k : ℕ} → p ≡ Known k → v ≡ k → Enters bytes starts lengths i symbols heads next (set symbols i v) heads next
  enters_known {k} e ev =
      record { place = Known k; places = rw e at P; stored = ap (set symbols i) ev; linked = refl; begun = refl }

  pub enters_free : {b x : ℕ} → p ≡ Free b → v ≡ i → x ≡ i + 1 → Enters bytes starts lengths i symbols heads next (set symbols i v) (set heads b x) (set next i (get_or heads b 0))
  enters_free {b} e ev ex =
      record { place = Free b; places = rw e at P; stored = ap (set symbols i) ev; linked = refl; begun = ap (set heads b) ex }

-- ---- the column and the chains before token i

module _ (bytes starts lengths terminals : List ℕ) where
  abbrev all : List ℕ
  all = symbols_of bytes starts lengths terminals

  abbrev linked_on : ℕ → ℕ → ℕ → Bool
  linked_on m b j = chained bytes starts lengths terminals m b j

  abbrev home_in : ℕ → ℕ → ℕ
  home_in m i = home_at bytes starts lengths terminals m i

  abbrev first : ℕ → Bool
  first i = is_first bytes starts lengths terminals i

  pub record Filling (symbols₀ heads₀ next₀ symbols heads next : List ℕ) (i : ℕ) : Type 0 where
    pub within : i ≤ length starts
    pub sized : length starts ≤ length lengths
    pub some : 0 < length heads₀
    pub room : length starts ≤ length next₀
    pub fits : length starts ≤ length symbols₀
    pub small : length starts < 4294967295
    pub symbols_long : length symbols ≡ length symbols₀
    pub heads_long : length heads ≡ length heads₀
    pub next_long : length next ≡ length next₀
    pub stored : symbols ≡ sets symbols₀ 0 (take i (symbols_of bytes starts lengths terminals))
    pub begins : (b : ℕ) → b < length heads₀ → get_or heads b 0 ≡ last_index_below (chained bytes starts lengths terminals (length heads₀) b) i
    pub links : Links bytes starts lengths terminals (length heads₀) next i
    pub rest : (k : ℕ) → i ≤ k → get_or next k 0 ≡ get_or next₀ k 0
    pub others : (k : ℕ) → is_first bytes starts lengths terminals k ≡ false → get_or next k 0 ≡ get_or next₀ k 0

  -- columns that are equal are filled alike
  pub filling_same : {symbols₀ heads₀ next₀ symbols heads next symbols' heads' next' : List ℕ} {i : ℕ} → symbols' ≡ symbols → heads' ≡ heads → next' ≡ next
      → Filling symbols₀ heads₀ next₀ symbols heads next i → Filling symbols₀ heads₀ next₀ symbols' heads' next' i
  filling_same a b c w = rw (a, b, c) w

  pub filling_starts : {symbols heads next : List ℕ} → ReadyToFill starts lengths symbols heads next → Filling symbols heads next symbols heads next 0
  filling_starts {symbols} {heads} {next} R =
      let rest = and_snd (leb (length starts) (length lengths)) _ R.room in
      let p = fits_parts (length starts) (length heads) (length next) (and_snd (leb (length starts) (length symbols)) _ rest) in
      record {
        within = omega arith;
        sized = leb-true (length starts) (length lengths) (and_fst _ _ R.room);
        some = p.0;
        room = p.1;
        fits = leb-true (length starts) (length symbols) (and_fst _ _ rest);
        small = p.2;
        symbols_long = refl;
        heads_long = refl;
        next_long = refl;
        stored = refl;
        begins = λ b h. R.none b ∙ sym (last_none_yet (linked_on (length heads) b));
        links = λ k h _. absurd (omega arith);
        rest = λ k h. refl;
        others = λ k h. refl;
      }

  length_span : (i d : ℕ) → length (span i d) ≡ d
  unfolding span
  length_span i zero = refl
  length_span i (suc d) = ap suc (length_span (suc i) d)

  length_all : length all ≡ length starts
  unfolding symbols_of
  length_all = length-map (span 0 (length starts)) (symbol_of bytes starts lengths terminals) ∙ length_span 0 (length starts)

  module _ {symbols₀ heads₀ next₀ symbols heads next : List ℕ} {i : ℕ} (w : Filling symbols₀ heads₀ next₀ symbols heads next i) where
    abbrev m : ℕ
    m = length heads₀

    pub ready_to_enter : i < length starts → ReadyToEnter bytes starts lengths symbols heads next i
    ready_to_enter h =
        record {
          lined = record { started = omega arith; sized = omega (arith, w.sized); linked = omega (arith, w.room, w.next_long) };
          stored = omega (arith, w.fits, w.symbols_long);
          some = omega (arith, w.some, w.heads_long);
          small = omega (arith, w.small);
        }

    module _ (h : i < length starts) where
      stores : (v : ℕ) → v ≡ symbol_of bytes starts lengths terminals i → set symbols i v ≡ sets symbols₀ 0 (take (i + 1) all)
      stores v ev =
          let l : i < length all = omega (arith, length_all) in
          let more : take (i + 1) all ≡ take i all ++ (get_or all i 0 ∷ []) = ap (λ (x : ℕ). take x all) (add-one i) ∙ take-suc all i 0 l in
          let long : 0 + length (take i all) ≡ i = omega (arith, length-take i all) in
          let val : get_or all i 0 ≡ v = symbols_at bytes starts lengths terminals i h ∙ sym ev in
          sym (ap (sets symbols₀ 0) more
          ∙ sets_snoc symbols₀ 0 (take i all) (get_or all i 0)
          ∙ ap (λ (x : ℕ). set (sets symbols₀ 0 (take i all)) x (get_or all i 0)) long
          ∙ ap (λ (x : ℕ). set (sets symbols₀ 0 (take i all)) i x) val
          ∙ ap (λ (xs : List ℕ). set xs i v) (sym w.stored))

      -- a bucket that token i does not join
      stays : (b : ℕ) → linked_on m b i ≡ false → last_index_below (linked_on m b) i ≡ last_index_below (linked_on m b) (i + 1)
      stays b f = sym (last_next (linked_on m b) i ∙ ap (λ (z : Bool). cond z (i + 1) (last_index_below (linked_on m b) i)) f)

      -- token i is not the first of a spelling
      passed_over : (v : ℕ) → first i ≡ false → v ≡ symbol_of bytes starts lengths terminals i → Filling symbols₀ heads₀ next₀ (set symbols i v) heads next (i + 1)
      passed_over v f e =
          record {
            within = omega arith;
            sized = w.sized;
            some = w.some;
            room = w.room;
            fits = w.fits;
            small = w.small;
            symbols_long = length-set symbols i v ∙ w.symbols_long;
            heads_long = w.heads_long;
            next_long = w.next_long;
            stored = stores v e;
            begins =
                λ b l. w.begins b l ∙ stays b (untrue (linked_on m b i) (λ y. false≢true (sym f ∙ on_first bytes starts lengths terminals m b i y)));
            links =
                λ k l g.
                w.links k (by_cases (dec_lt k i) (λ a. a) (λ a. let q : k ≡ i = omega (arith, a) in absurd (false≢true (sym f ∙ (rw q at g))))) g;
            rest = λ k l. w.rest k (omega arith);
            others = w.others;
          }

      pub filling_passes : (v : ℕ) → is_identifier terminals i ≡ false → v ≡ i → Filling symbols₀ heads₀ next₀ (set symbols i v) heads next (i + 1)
      filling_passes v f e =
          passed_over v (untrue (first i) (λ y. false≢true (sym f ∙ first_named bytes starts lengths terminals i y)))
          (e ∙ sym (symbol_other bytes starts lengths terminals i f))

      -- token i is the first of its spelling, and is entered
      module _ (f : first i ≡ true) {b : ℕ} (is : b ≡ home_in m i) (low : b < m) where
        grows : (k : ℕ) → k < i + 1 → first k ≡ true → get_or (set next i (get_or heads b 0)) k 0 ≡ last_index_below (linked_on m (home_in m k)) k
        grows k a n =
            at_set (λ (x : ℕ). x ≡ last_index_below (linked_on m (home_in m k)) k) next i (get_or heads b 0) k (omega (arith, w.room, w.next_long))
            (λ q.
            w.begins b low
            ∙ ap (λ (x : ℕ). last_index_below (linked_on m x) i) is
            ∙ ap (λ (x : ℕ). last_index_below (linked_on m (home_in m x)) x) (sym q))
            (λ q. w.links k (omega (arith, q)) n)

        elsewhere : (k : ℕ) → (k ≡ i → ⊥) → get_or (set next i (get_or heads b 0)) k 0 ≡ get_or next k 0
        elsewhere k n = get_or-set_other next i k (get_or heads b 0) 0 n

        begins_then : (c : ℕ) → c < m → get_or (set heads b (i + 1)) c 0 ≡ last_index_below (linked_on m c) (i + 1)
        begins_then c l =
            at_set (λ (y : ℕ). y ≡ last_index_below (linked_on m c) (i + 1)) heads b (i + 1) c (omega (arith, low, w.heads_long))
            (λ q.
            sym (last_next (linked_on m c) i
            ∙ ap (λ (z : Bool). cond z (i + 1) (last_index_below (linked_on m c) i)) (on_is bytes starts lengths terminals m c i f (sym is ∙ sym q))))
            (λ q. w.begins c l ∙ stays c (untrue (linked_on m c i) (λ y. q (sym (on_home bytes starts lengths terminals m c i y) ∙ sym is))))

        entered : Filling symbols₀ heads₀ next₀ (set symbols i i) (set heads b (i + 1)) (set next i (get_or heads b 0)) (i + 1)
        entered =
            record {
              within = omega arith;
              sized = w.sized;
              some = w.some;
              room = w.room;
              fits = w.fits;
              small = w.small;
              symbols_long = length-set symbols i i ∙ w.symbols_long;
              heads_long = length-set heads b (i + 1) ∙ w.heads_long;
              next_long = length-set next i (get_or heads b 0) ∙ w.next_long;
              stored = stores i (sym (first_itself bytes starts lengths terminals i f));
              begins = begins_then;
              links = grows;
              rest = λ k l. elsewhere k (λ q. omega arith) ∙ w.rest k (omega arith);
              others = λ k n. elsewhere k (λ q. false≢true (sym n ∙ ap (λ (x : ℕ). is_first bytes starts lengths terminals x) q ∙ f)) ∙ w.others k n;
            }

      -- ---- token i is an identifier

      module _ (g : is_identifier terminals i ≡ true) {symbols' heads' next' : List ℕ} (E : Enters bytes starts lengths i symbols heads next symbols' heads' next') where
        abbrev xs : List ℕ
        xs = spelling bytes starts lengths i

        chains_before : ChainedBelow bytes starts lengths terminals heads next i
        chains_before = record { head = λ b l. rw w.heads_long (w.begins b (omega (arith, w.heads_long))); links = rw w.heads_long w.links }

        place_is : E.place ≡ place_at (last_index_below (sought bytes starts lengths terminals xs) i) (home_in m i)
        unfolding place_of
        place_is =
            E.places.is terminals chains_before
            ∙ ap (λ (n : ℕ). place_at (last_index_below (sought bytes starts lengths terminals xs) i) (home (entries bytes starts lengths terminals n i) n xs)) w.heads_long

        by_place : {p : Place} → E.place ≡ p → Filling symbols₀ heads₀ next₀ (set symbols i (symbol_by i p)) (heads_by i p heads) (next_by i p heads next) (i + 1)
            → Filling symbols₀ heads₀ next₀ symbols' heads' next' (i + 1)
        by_place e F =
            filling_same
            (E.stored ∙ ap (λ (p : Place). set symbols i (symbol_by i p)) e)
            (E.begun ∙ ap (λ (p : Place). heads_by i p heads) e)
            (E.linked ∙ ap (λ (p : Place). next_by i p heads next) e)
            F

        by_link : (l : ℕ) → last_index_below (sought bytes starts lengths terminals xs) i ≡ l → E.place ≡ place_at l (home_in m i)
            → Filling symbols₀ heads₀ next₀ symbols' heads' next' (i + 1)
        by_link zero z e =
            let itself : symbol_of bytes starts lengths terminals i ≡ i =
            by_cases (dec_lt (symbol_of bytes starts lengths terminals i) i)
            (λ l.
            absurd
            (none_named bytes starts lengths terminals xs i z (symbol_of bytes starts lengths terminals i) l
            (symbol_named bytes starts lengths terminals i g) (symbol_spelled bytes starts lengths terminals i g)))
            (λ l. omega (arith, symbol_le bytes starts lengths terminals i, l)) in
            let low : home_in m i < m = omega (arith, w.heads_long, rw e at E.places.holds) in
            by_place e (entered (first_by bytes starts lengths terminals i g itself) refl low)
        by_link (suc k) z e =
            let f = found_first bytes starts lengths terminals xs i k z in
            let is : k ≡ symbol_of bytes starts lengths terminals i =
            sym (first_itself bytes starts lengths terminals k f)
            ∙ (symbol_iff bytes starts lengths terminals k i (first_named bytes starts lengths terminals k f) g).1 (found_alike bytes starts lengths terminals xs i k z) in
            let low = found_low bytes starts lengths terminals xs i k z in
            by_place e
            (passed_over k (untrue (first i) (λ y. omega (arith, low, is, first_itself bytes starts lengths terminals i y))) is)

        pub filling_enters : Filling symbols₀ heads₀ next₀ symbols' heads' next' (i + 1)
        filling_enters = by_link (last_index_below (sought bytes starts lengths terminals xs) i) refl place_is

    pub filling_ends : length starts ≤ i → Fills bytes starts lengths terminals symbols₀ next₀ symbols heads next
    filling_ends h =
        let q : i ≡ length starts = omega (arith, w.within) in
        let e = w.heads_long in
        record {
          is = w.stored ∙ ap (sets symbols₀ 0) (take_all i all (omega (arith, length_all)));
          chains =
              record {
                some = omega (arith, w.some, e);
                sized = w.sized;
                room = omega (arith, w.room, w.next_long);
                chains = record { head = λ b l. rw (e, ← q) (w.begins b (omega (arith, e))); links = rw (e, ← q) w.links };
              };
          rest = λ k l. w.rest k (omega (arith, q));
          others = w.others;
        }

-- ---- the answer of `intern`

module _ {bytes starts lengths terminals symbols heads next : List ℕ} {b : Bool} (e : b ≡ enough (length starts) (length lengths) (length symbols) (length heads) (length next)) where
  pub interns_short : {e : Short} → not b ≡ true → Interns bytes starts lengths terminals symbols heads next (Err e) symbols heads next
  interns_short t =
      record {
        answer = sym (not-true b t) ∙ e;
        stored = refl;
        chains = λ z. absurd (false≢true z);
        rest = λ z. absurd (false≢true z);
        others = λ z. absurd (false≢true z);
        kept = λ _. (refl, refl);
      }

  pub interns_done : {symbols' heads' next' : List ℕ} → not b ≡ false → Fills bytes starts lengths terminals symbols next symbols' heads' next'
      → Interns bytes starts lengths terminals symbols heads next (Ok tt) symbols' heads' next'
  interns_done t F =
      record {
        answer = sym (not-false b t) ∙ e;
        stored = F.is;
        chains = λ _. F.chains;
        rest = λ _. F.rest;
        others = λ _. F.others;
        kept = λ z. absurd (false≢true z);
      }

-- what a caller has of it: the column begins with the symbols
pub interned : {bytes starts lengths terminals symbols heads next symbols' heads' next' : List ℕ} {r : Result (Unit {0}) Short}
    → Interns bytes starts lengths terminals symbols heads next r symbols' heads' next' → done r ≡ true
    → take (length starts) symbols' ≡ symbols_of bytes starts lengths terminals
interned {bytes} {starts} {lengths} {terminals} {symbols} {heads} {next} {symbols'} {r = r} I d =
    let every = symbols_of bytes starts lengths terminals in
    let long : length every ≡ length starts = length_all bytes starts lengths terminals in
    let rest = and_snd (leb (length starts) (length lengths)) _ (sym I.answer ∙ d) in
    let fit : length starts ≤ length symbols = leb-true (length starts) (length symbols) (and_fst _ _ rest) in
    let is : symbols' ≡ sets symbols 0 every = I.stored ∙ ap (λ (b : Bool). cond b (sets symbols 0 every) symbols) d in
    ap (take (length starts)) is ∙ ap (λ (k : ℕ). take k (sets symbols 0 every)) (sym long) ∙ take_rows symbols every (omega arith)

-- cleared heads begin no chain
pub ready_to_fill : {starts lengths symbols heads₀ next : List ℕ} (heads : List ℕ) → enough (length starts) (length lengths) (length symbols) (length heads) (length next) ≡ true
    → heads₀ ≡ cleared 0 0 heads → ReadyToFill starts lengths symbols heads₀ next
ready_to_fill {starts} {lengths} {symbols} {heads₀} {next} heads r e =
    record {
      room = ap (λ (n : ℕ). enough (length starts) (length lengths) (length symbols) n (length next)) (ap length e ∙ length_cleared 0 0 heads) ∙ r;
      none = λ b. ap (λ (l : List ℕ). get_or l b 0) e ∙ zeros_at heads b;
    }
