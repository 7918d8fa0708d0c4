-- `cycles::next` meets its contract: the end of the path and its next arc decide, by the laws of `Following`. Assumes nothing.
use Rattle.cycles.proofs.Following.{open_count, path_count, bound_count, followable, followed, read_place, read_next, read_leave, read_close}
use mathlib.Core.Path.{sym, ◌∙◌}
use native.Mathlib.Omega.{arith}
use Rattle.cycles.proofs.next.Goals as goal

pub returns-then-get-eq-NEW : goal.returns-then-get-eq-NEW
returns-then-get-eq-NEW c = record {
  low = omega (arith, c.if-first-root.false);
  new = sym c.get.ensures ∙ c.if-get-eq-NEW.true;
  arc = λ h. absurd (omega (
    arith,
    h,
    c.if-depth-eq0.true,
  ));
}

pub returns-then-depth-eq0 : goal.returns-then-depth-eq0
returns-then-depth-eq0 c = record { none = c.if-depth-eq0.true; low = omega (arith, c.if-first-root.false); seen = λ z. c.if-get-eq-NEW.false (c.get.ensures ∙ z) }

pub get-p-requires : goal.get-p-requires
get-p-requires c = omega (
  arith,
  path_count c.requires.search,
  open_count c.requires.search,
  c.requires.room,
  c.if-depth-eq0.false,
)

pub get-v-requires : goal.get-v-requires
get-v-requires c = omega (
  arith,
  read_place c.requires.search c.if-depth-eq0.false c.get-p.ensures,
  open_count
      c.requires.search,
  c.requires.room,
)

pub follow-requires : goal.follow-requires
follow-requires c = followable c.requires.search
    c.requires.room (read_next
    c.requires.search
    c.if-depth-eq0.false c.get-p.ensures
    c.get-v.ensures c.get-e.ensures (omega (arith, c.if-e-index.true, c.index.ensures)))

pub returns-then-e-index : goal.returns-then-e-index
returns-then-e-index c = followed c.requires.search (read_next
    c.requires.search
    c.if-depth-eq0.false c.get-p.ensures
    c.get-v.ensures c.get-e.ensures (omega (
      arith,
      c.if-e-index.true,
      c.index.ensures,
    ))) c.follow.result c.follow.ensures

pub get-requires-2 : goal.get-requires-2
get-requires-2 c = omega (
  arith,
  c.requires.search.line.bound_some (omega (
    arith,
    c.if-depth-eq0.false,
  )),
  bound_count
      c.requires.search,
  path_count
      c.requires.search,
  open_count
      c.requires.search,
  c.requires.room,
)

pub returns-then-get-depth : goal.returns-then-get-depth
returns-then-get-depth c = read_close c.requires.search
    c.if-depth-eq0.false c.get-p.ensures
    c.get-v.ensures (omega (
      arith,
      c.if-e-index.false,
      c.index.ensures,
      c.get-e.ensures,
    )) c.get-2.ensures c.if-get-depth.true

pub returns : goal.returns
returns c = read_leave c.requires.search
    c.if-depth-eq0.false c.get-p.ensures
    c.get-v.ensures (omega (
      arith,
      c.if-e-index.false,
      c.index.ensures,
      c.get-e.ensures,
    )) c.get-2.ensures c.if-get-depth.false
