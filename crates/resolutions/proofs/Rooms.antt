-- Whether there is room for the stages.
use mathlib.Core.Path.{◌≡◌}
use Prim.Native.Nat.{ℕ, ◌+◌, ◌*◌, ◌-◌, ◌≤◌, ◌<◌, min}
use native.Mathlib.Omega.{arith}
use borrow.Author.Tests.{leb-true, leb-false}
use lib.Dec.{leb}
use Rattle.scopes.specs.Preparation.{Decides}
use Rattle.resolutions.specs.Answer.{StageRoom}

-- the shorter of the columns with an entry for each declaration is compared last
pub stage_room_decided :
    {tokens vertices first to types constants scratch a b : ℕ} → vertices < 32767 → to < 4294967296 → vertices < first → 6 * vertices ≤ scratch → a ≡ min (scratch - vertices) (2 * to + 1) →
    tokens < a → b ≡ min types constants → Decides (StageRoom tokens vertices first to types constants scratch) (leb vertices b)
stage_room_decided {vertices = vertices} {b = b} few small offsets search ea table eb = record {
  yes = λ y.
      let l = leb-true vertices b y in
      record {
        few = few;
        first_room = offsets;
        to_room = omega (arith, table, ea);
        to_small = small;
        types_room = omega (arith, l, eb);
        constants_room = omega (arith, l, eb);
        search_room = search;
        table_room = omega (arith, table, ea);
      };
  no = λ n R. let l = leb-false vertices b n in omega (arith, l, eb, R.types_room, R.constants_room);
}
