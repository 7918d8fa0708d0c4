-- Chains of attributes by symbol.
use Rattle.std.specs.Prelude.{◌≡◌, cond, List, [], ◌∷◌, ◌++◌, ℕ, suc, ◌+◌, ◌-◌, ◌*◌, ◌%◌, ◌≤◌, ◌<◌, eqb, length, get_or, set}
use Rattle.relations.specs.Select.{keep}
use Rattle.express.specs.Names.Scope.{meaning}
use Rattle.symbol_tables.specs.Entry.{code, several_code, node_limit}
use Rattle.attributes.specs.Attributes.{Fits, attributes_between}
use Rattle.bit_rows.specs.Bits.{bit}

-- links and ranks are below this number
abbrev pub link_count : ℕ
link_count = 65536

-- the last bit at which a row may begin
abbrev pub offset_limit : ℕ
offset_limit = 281474976710656

-- THE CHAIN that begins with a link: attribute number a stands at 2a, and its link is one more; behind its node stand the rank of its owner and the link to
-- one with a smaller number
pub data Chain (rank : ℕ → ℕ) (pairs : List ℕ) : ℕ → List ℕ → Type 0 where
  end : Chain rank pairs 0 []
  link : {a next n : ℕ} {ns : List ℕ} → a < link_count → next ≤ a → n < node_limit → get_or pairs (2 * a) 0 ≡ n → get_or pairs (2 * a + 1) 0 ≡ rank n * link_count + next
      → Chain rank pairs next ns → Chain rank pairs (suc a) (n ∷ ns)

-- the chains of all symbols below a limit have these nodes; so many are chained
pub record Chained (rank symbol : ℕ → ℕ) (limit count : ℕ) (heads pairs ns : List ℕ) : Type 0 where
  pub known : (s : ℕ) → s < limit → get_or heads s 0 ≤ count
  pub is : (s : ℕ) → s < limit → Chain rank pairs (get_or heads s 0) (keep (λ n. eqb (symbol n) s) ns)

-- ---- `found`

-- a code (N11) with one node more
abbrev pub with_one : ℕ → ℕ → ℕ
with_one code node = cond (eqb code 0) (node + 1) several_code

-- what the attributes of a chain mean whose bits are set
pub record FindsAmong (rows pairs : List ℕ) (base head r : ℕ) : Type 0 where
  pub is : base ≤ offset_limit → (rank : ℕ → ℕ) (ns : List ℕ) → Chain rank pairs head ns → r ≡ code (meaning (keep (λ n. bit rows (base + rank n)) ns))

-- ---- `enter_entries`

abbrev pub entered_pairs : List ℕ → ℕ → ℕ → ℕ → ℕ → List ℕ → List ℕ
entered_pairs heads count rank symbol node pairs = set (set pairs (2 * count) node) (2 * count + 1) (rank * link_count + get_or heads symbol 0 % link_count)

-- the attributes of one owner are chained before those that are; from a limit on the table of heads is as it was
pub record EntersEntries (kinds keys nodes : List ℕ) (lo hi r before : ℕ) (heads pairs : List ℕ) (count : ℕ) (heads' pairs' : List ℕ) : Type 0 where
  pub few : before + (hi - lo) < link_count → (before ≤ count) × (count ≤ before + (hi - lo))
  pub behind : (symbol : ℕ → ℕ) (limit : ℕ) → ((e : ℕ) → lo ≤ e → e < hi → Fits symbol limit keys nodes e) → (k : ℕ) → limit ≤ k → get_or heads' k 0 ≡ get_or heads k 0
  pub is : (rank symbol : ℕ → ℕ) (limit : ℕ) (ns : List ℕ) → before + (hi - lo) < link_count → r < link_count → limit ≤ length heads → 2 * count ≤ length pairs
      → ((e : ℕ) → lo ≤ e → e < hi → Fits symbol limit keys nodes e) → ((e : ℕ) → lo ≤ e → e < hi → rank (get_or nodes e 0) ≡ r)
      → Chained rank symbol limit before heads pairs ns → Chained rank symbol limit count heads' pairs' (attributes_between kinds nodes lo hi ++ ns)
