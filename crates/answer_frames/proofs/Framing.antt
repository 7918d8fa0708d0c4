-- Arrays for a file of so many nodes: the law of all sizes, and of the choice among them.
use mathlib.Core.Path.{◌≡◌, sym, ap}
use mathlib.Core.List.{List}
use Prim.Native.Nat.{ℕ, ◌≤◌}
use native.Mathlib.Omega.{arith}
use lib.IntN.{ℤ, pos}
use lib.ListN.{length, take, replicate, length-replicate}
use Rattle.express.specs.Tokens.Lexis.{most}
use Rattle.express.specs.Syntax.Tree.{Table, count}
use Rattle.scopes.specs.Range.{vertex_count}
use Rattle.constants.specs.Constants.{Room}
use Rattle.stages.specs.Line.{Stage}
use Rattle.answer_stages.specs.AnswerStage.{BoundColumns}
use Rattle.pipeline.specs.Binding.{AnswersNamed}
use Rattle.answer_frames.specs.AnswerFrame.{NamedFile, AnswersWithin}

-- an array that is filled with one value has as many elements as were asked for
pub counted : (n : ℕ) → n ≡ length (replicate {A = ℕ} n 0)
counted n = sym (length-replicate n 0)

pub numbers_counted : (n : ℕ) → n ≡ length (replicate n (pos 0))
numbers_counted n = sym (length-replicate n (pos 0))

module _ {bytes starts lengths terminals kinds tokens sizes bindings types constants aks : List ℕ} {azs : List ℤ} {als : List ℕ} {t : Table}
    (F : NamedFile bytes starts lengths terminals kinds tokens sizes bindings types constants aks azs als t) where
  -- with room for a number and an answer of each node
  bound_columns : {declared row_of vks : List ℕ} {vzs : List ℤ} {vls : List ℕ} → count t ≤ most → count t ≤ length declared → count t ≤ length row_of → Room t vks vzs vls →
      BoundColumns bytes starts lengths terminals kinds tokens sizes bindings t (take (vertex_count t) types) (take (vertex_count t) constants) declared row_of aks azs als vks vzs vls
  bound_columns few a b R =
      record {
        named = record {
          columns = record {
            terminals_are = sym F.terminals_are;
            kinds_are = sym F.kinds_are;
            tokens_are = sym F.tokens_are;
            sizes_are = sym F.sizes_are;
          };
          starts_are = sym F.starts_are;
          accepted = record {
            read = F.read;
            named = F.named;
            bound = F.bound;
            arranged = F.types_arranged;
            few = omega arith;
            room = a;
          };
          room = b;
        };
        scanned = F.scanned;
        few = few;
        bytes_are = sym F.bytes_are;
        lengths_are = sym F.lengths_are;
        arranged = F.constants_arranged;
        value_room = R;
        answer_room = F.answer_room;
      }

module _ {before : Stage} {bytes starts lengths terminals kinds tokens sizes bindings types constants aks : List ℕ} {azs : List ℤ} {als room : List ℕ} {r : Stage}
    {aks' : List ℕ} {azs' : List ℤ} {als' room' : List ℕ} where
  -- an entry for each node: the sizes are compared as numbers, for to count a long array's elements takes a step for each
  pub with_arrays : (n : ℕ) → n ≤ most →
      AnswersNamed before bytes starts lengths terminals kinds tokens sizes bindings types constants (replicate n 0) (replicate n 0) aks azs als (replicate n 0) (replicate n (pos 0)) (replicate n 0)
      room r aks' azs' als' room' → AnswersWithin n before bytes starts lengths terminals kinds tokens sizes bindings types constants aks azs als room r aks' azs' als' room'
  with_arrays n m A =
      let k = counted n in
      let l = numbers_counted n in
      record {
        passed_on = A.passed_on;
        is = λ t F few.
            (A.is t F.kinds_are F.types_room F.constants_room).is t (bound_columns F (omega arith) (omega arith) (omega arith)
            (record { kinds_long = omega arith; numbers_long = omega arith; lengths_long = omega arith }));
      }

  -- so many nodes, whatever is asked of them elsewhere
  pub by_number : (n : ℕ) → length kinds ≤ n →
      AnswersWithin n before bytes starts lengths terminals kinds tokens sizes bindings types constants aks azs als room r aks' azs' als' room' →
      AnswersWithin most before bytes starts lengths terminals kinds tokens sizes bindings types constants aks azs als room r aks' azs' als' room'
  by_number n h A = record { passed_on = A.passed_on; is = λ t F few. A.is t F (omega (arith, ap length F.kinds_are)) }
