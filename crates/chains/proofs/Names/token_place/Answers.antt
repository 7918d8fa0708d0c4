-- `chains::Names::token_place` meets its contract: the head of the first chain is spelled alike, or the rounds tell. Assumes nothing.
use borrow.Author.Rules.{rules}
use Rattle.chains.specs.Steps.{Lined, lined_with}
use mathlib.Core.List.{List}
use mathlib.Core.Path.{◌≡◌, ap}
use mathlib.Core.Bool.{Bool, true, not}
use Rattle.chains.proofs.Places.{same_bucket, lined_below, token_lined, token_unlined, place_leads, places_as, places_token}
use Rattle.spellings.proofs.Spellings.{part_spelling}
use Prim.Native.Nat.{ℕ, ◌+◌, ◌<◌}
use lib.ListN.{length}
use native.Mathlib.Omega.{arith}
use Rattle.chains.proofs.Names.token_place.Goals as goal

-- token i has its start, its length and its link, and there is a bucket
ready : (bytes starts lengths heads next : List ℕ) (i : ℕ) {r : Bool} → r ≡ lined_with (length starts) (length lengths) (length heads) (length next) i → r ≡ true
    → Lined bytes starts lengths next (i + 1) × (0 < length heads)
ready bytes starts lengths heads next i e t = token_lined bytes starts lengths heads next i e (ap not t)

pub returns-then-not-lined : goal.returns-then-not-lined
returns-then-not-lined c = let s = c.args in
    token_unlined _ _ _ s.self.now.heads.now s.self.now.next.now s.i c.lined.ensures (ap not c.if-not-lined.true)

pub token_bucket-b-requires : goal.token_bucket-b-requires
token_bucket-b-requires c = let p = (ready c.args.self.now.bytes.now c.args.self.now.starts.now c.args.self.now.lengths.now c.args.self.now.heads.now c.args.self.now.next.now c.args.i c.lined.ensures c.if-not-lined.false) in
    (omega (arith, p.0.started), omega (arith, p.0.sized), p.1)

pub offset_bounds-self-b : goal.offset_bounds-self-b
offset_bounds-self-b c = let y = c.token_bucket-b.ensures.small in search rules

pub bounds-self-b : goal.bounds-self-b
bounds-self-b c = c.token_bucket-b.ensures.small

pub leads-requires : goal.leads-requires
leads-requires c = let p = (ready c.args.self.now.bytes.now c.args.self.now.starts.now c.args.self.now.lengths.now c.args.self.now.heads.now c.args.self.now.next.now c.args.i c.lined.ensures c.if-not-lined.false).0 in
    (omega (arith, p.started), omega (arith, p.sized))

pub returns-then-leads : goal.returns-then-leads
returns-then-leads c = let p = (ready c.args.self.now.bytes.now c.args.self.now.starts.now c.args.self.now.lengths.now c.args.self.now.heads.now c.args.self.now.next.now c.args.i c.lined.ensures c.if-not-lined.false).0 in
    places_token _ _ _ (place_leads _ _ _ (lined_below _ _ _ p) c.token_bucket-b.ensures c.index-first.ensures
    (c.leads.ensures c.if-leads.true))

pub end-to-requires : goal.end-to-requires
end-to-requires c = let p = (ready c.args.self.now.bytes.now c.args.self.now.starts.now c.args.self.now.lengths.now c.args.self.now.heads.now c.args.self.now.next.now c.args.i c.lined.ensures c.if-not-lined.false).0 in
    (omega (arith, p.started), omega (arith, p.sized))

pub place_from-requires : goal.place_from-requires
place_from-requires c = let s = c.args in (
  lined_below _ _ _ (ready c.args.self.now.bytes.now c.args.self.now.starts.now c.args.self.now.lengths.now c.args.self.now.heads.now c.args.self.now.next.now c.args.i c.lined.ensures c.if-not-lined.false).0,
  same_bucket (part_spelling s.self.now.bytes.now s.self.now.starts.now s.self.now.lengths.now s.i _ _ c.begin-from.ensures c.end-to.ensures)
      c.token_bucket-b.ensures,
)

pub returns : goal.returns
returns c = let s = c.args in
    places_token _ _ _ (places_as _ _ _ (part_spelling s.self.now.bytes.now s.self.now.starts.now s.self.now.lengths.now s.i _ _ c.begin-from.ensures
    c.end-to.ensures) c.place_from.ensures)
