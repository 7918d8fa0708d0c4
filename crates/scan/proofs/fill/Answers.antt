-- The loop over tokens: what is left to read completes the rows that are written (`Progress`); a text within the limit fits 32 bits, and so do its places.
use mathlib.Core.Path.{refl}
use Rattle.express.specs.Tokens.Bytes.{word_byte}
use Rattle.express.specs.Tokens.Lexis.{lone}
use Rattle.columns.specs.Column.{tabulated}
use Rattle.scan.specs.Scan.{word_table, lone_table}
use Rattle.scan.proofs.Rows.{too_long, progress_first, skip_refused, all_read, token_refused, places, row_read}
use native.Mathlib.Omega.{arith}
use Rattle.std.proofs.lemmas.Result.{err_from_is_err_and}
use Rattle.scan.proofs.fill.Goals as goal

pub returns-then-src-most : goal.returns-then-src-most
returns-then-src-most c = too_long _ _ c.args.src.now _ _ _ c.index-most.ensures c.if-src-most.true

pub loop-p-init : goal.loop-p-init
loop-p-init c = progress_first c.args.limit _ _ _ _ (omega (arith, c.index-most.ensures, c.if-src-most.false))

pub shape_of-kinds-in_err-p : goal.shape_of-kinds-in_err-p
shape_of-kinds-in_err-p c = c.loop-p.invariant.kept_kinds

pub shape_of-starts-in_err-p : goal.shape_of-starts-in_err-p
shape_of-starts-in_err-p c = c.loop-p.invariant.kept_starts

pub shape_of-lengths-in_err-p : goal.shape_of-lengths-in_err-p
shape_of-lengths-in_err-p c = c.loop-p.invariant.kept_lengths

pub returns-in_err-p : goal.returns-in_err-p
returns-in_err-p c =
    let p = err_from_is_err_and c.from_residual.result c.from_residual.ensures.1 in
    rw (p.1, p.2) (skip_refused c.loop-p.invariant _ c.skip.ensures c.in_err-p.was)

pub shape_of-kinds-then-p-src : goal.shape_of-kinds-then-p-src
shape_of-kinds-then-p-src c = c.loop-p.invariant.kept_kinds

pub shape_of-starts-then-p-src : goal.shape_of-starts-then-p-src
shape_of-starts-then-p-src c = c.loop-p.invariant.kept_starts

pub shape_of-lengths-then-p-src : goal.shape_of-lengths-then-p-src
shape_of-lengths-then-p-src c = c.loop-p.invariant.kept_lengths

pub returns-then-p-src : goal.returns-then-p-src
returns-then-p-src c = all_read c.loop-p.invariant _ c.skip.ensures c.in_ok-p.was c.if-p-src.true

pub invariant_of-bytes : goal.invariant_of-bytes
unfolding word_table lone_table lone tabulated word_byte
invariant_of-bytes c = record { words_are = refl; lones_are = refl }

pub shape_of-kinds-in_err-token : goal.shape_of-kinds-in_err-token
shape_of-kinds-in_err-token c = c.loop-p.invariant.kept_kinds

pub shape_of-starts-in_err-token : goal.shape_of-starts-in_err-token
shape_of-starts-in_err-token c = c.loop-p.invariant.kept_starts

pub shape_of-lengths-in_err-token : goal.shape_of-lengths-in_err-token
shape_of-lengths-in_err-token c = c.loop-p.invariant.kept_lengths

pub returns-in_err-token : goal.returns-in_err-token
returns-in_err-token c =
    let p = err_from_is_err_and c.from_residual-in_err-token.result c.from_residual-in_err-token.ensures.1 in
    rw (p.1, p.2) (token_refused c.loop-p.invariant _ c.skip.ensures c.in_ok-p.was c.if-p-src.false c.token.ensures c.in_err-token.was)

pub overflow_cast-p : goal.overflow_cast-p
overflow_cast-p c = let p = places c.loop-p.invariant _ c.skip.ensures c.in_ok-p.was c.if-p-src.false c.token.ensures c.in_ok-token.was in
    omega (arith, p.2, p.3, c.if-src-most.false, c.index-most.ensures, c.ranges.limit)

pub overflow_sub-token : goal.overflow_sub-token
overflow_sub-token c = let p = places c.loop-p.invariant _ c.skip.ensures c.in_ok-p.was c.if-p-src.false c.token.ensures c.in_ok-token.was in
    omega (arith, p.2)

pub overflow_cast-token : goal.overflow_cast-token
overflow_cast-token c = let p = places c.loop-p.invariant _ c.skip.ensures c.in_ok-p.was c.if-p-src.false c.token.ensures c.in_ok-token.was in
    omega (arith, p.3, c.if-src-most.false, c.index-most.ensures, c.ranges.limit)

pub push-requires : goal.push-requires
push-requires c = (
  omega (arith, c.requires.0, c.loop-p.invariant.kept_kinds),
  omega (arith, c.requires.1, c.loop-p.invariant.kept_starts),
  omega (arith, c.requires.2, c.loop-p.invariant.kept_lengths),
)

pub overflow_add-n : goal.overflow_add-n
overflow_add-n c = let p = places c.loop-p.invariant _ c.skip.ensures c.in_ok-p.was c.if-p-src.false c.token.ensures c.in_ok-token.was in
    omega (arith, p.0, p.2, p.3, c.if-src-most.false, c.index-most.ensures, c.ranges.limit)

pub loop-p-smaller : goal.loop-p-smaller
loop-p-smaller c = let p = places c.loop-p.invariant _ c.skip.ensures c.in_ok-p.was c.if-p-src.false c.token.ensures c.in_ok-token.was in
    omega (arith, p.1, p.2, p.3)

pub loop-p-preserved : goal.loop-p-preserved
loop-p-preserved c = row_read c.loop-p.invariant _ c.skip.ensures c.in_ok-p.was c.if-p-src.false c.token.ensures c.in_ok-token.was
    c.push.ensures.0 c.push.ensures.1 c.push.ensures.2
