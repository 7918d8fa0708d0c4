-- Parts of a table that are lent, and what stands in it afterwards.
use mathlib.Core.Path.{◌≡◌, sym, ap, ◌∙◌}
use mathlib.Core.List.{List, ◌++◌}
use Prim.Native.Nat.{ℕ, ◌+◌, ◌-◌, ◌≤◌, ◌<◌}
use native.Mathlib.Omega.{arith}
use lib.ListN.{length, get_or, take, drop, replicate, length-drop, take-append-drop, get_or-append}
use lib.Seq.{length-take-le, get_or-append-add}
use Rattle.columns.specs.Column.{cleared, cleared_before}
use Rattle.row_inheritance.specs.Ranks.{entities_before, RanksEntities}
use Rattle.row_inheritance.specs.Steps.{declaration_limit, RanksDeclarations}

pub at_part : (a : ℕ) (l : List ℕ) (v : ℕ) → a ≤ length l → get_or l (a + v) 0 ≡ get_or (drop a l) v 0
at_part a l v h =
    let n : length (take a l) ≡ a = length-take-le a l h in
    ap (λ (xs : List ℕ). get_or xs (a + v) 0) (sym (take-append-drop a l)) ∙ ap (λ (k : ℕ). get_or (take a l ++ drop a l) (k + v) 0) (sym n)
    ∙ get_or-append-add (take a l) (drop a l) v 0

pub part_long : (a k : ℕ) (l : List ℕ) → a + k ≤ length l → length (take (a + k - a) (drop a l)) ≡ k
part_long a k l h = let e : a + k - a ≡ k = omega arith in rw e (length-take-le k (drop a l) (omega (arith, length-drop a l)))

-- ranks that are stored in a part
pub ranks_in_part : {kinds nodes : List ℕ} (symbols declarations : ℕ) (table rest : List ℕ) {r : ℕ} {ranks : List ℕ} → declarations < declaration_limit
    → symbols + declarations ≤ length table → RanksEntities kinds nodes (take (symbols + declarations - symbols) (drop symbols table)) r ranks
    → length ranks ≡ length (take (symbols + declarations - symbols) (drop symbols table))
    → RanksDeclarations kinds nodes symbols declarations r (take symbols table ++ (ranks ++ rest))
ranks_in_part {kinds} {nodes} symbols declarations table rest {r} {ranks} few room R e =
    let n = part_long symbols declarations table room in
    let m : length (take symbols table) ≡ symbols = length-take-le symbols table (omega arith) in
    record {
      total = R.total ∙ ap (entities_before kinds nodes) n;
      stand =
          record {
            is =
                λ v l.
                ap (λ (k : ℕ). get_or (take symbols table ++ (ranks ++ rest)) (k + v) 0) (sym m)
                ∙ get_or-append-add (take symbols table) (ranks ++ rest) v 0
                ∙ get_or-append ranks rest 0 v (omega (arith, e, n))
                ∙ R.is (omega (arith, n)) v (omega (arith, n));
          };
    }

-- zeros that are stored in a part
pub zeros_in_part : (n : ℕ) (table : List ℕ) {part : List ℕ} → n ≤ length table → part ≡ cleared 0 0 (take n table) → part ++ drop n table ≡ cleared_before 0 n table
zeros_in_part n table h e =
    ap (λ (xs : List ℕ). xs ++ drop n table) e ∙ ap (λ (k : ℕ). replicate (k - 0) 0 ++ drop n table) (length-take-le n table h)
    ∙ (let z : n - 0 ≡ n = omega arith in rw z)
