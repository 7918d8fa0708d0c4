-- Every spelling lies in the slot of its hash: computed for all of them (`Entries`), so what is not there is none.
use mathlib.Core.Path.{◌≡◌, sym, ◌∙◌, ap}
use mathlib.Core.Bool.{Bool}
use mathlib.Core.List.{List}
use Prim.Native.Nat.{ℕ, ◌-◌, ◌≤◌}
use lib.ListN.{length, take, drop, get_or}
use Rattle.terminals.specs.Lookup.{folded, hash}
use Rattle.terminals.specs.Spellings.{slots, offsets, text}
use Rattle.terminals.proofs.Parts.{length_folded}
use Rattle.terminals.proofs.Entries.{Slot, miss_long, few, no_slot, rises, no_length, inside, no_text, yes_text}
use native.Mathlib.Omega.{arith}
use Rattle.terminals.proofs.Tables.code_of.Goals as goal

-- what is known once the hash is there
slot_here : (s : List ℕ) (start : ℕ) (fold : Bool) {n : ℕ} {table places bytes : List ℕ} {h : ℕ}
    → n ≤ length s - start → table ≡ slots → places ≡ offsets → bytes ≡ text
    → h ≡ hash (folded fold (take n (drop start s)))
    → Slot table places bytes (folded fold (take n (drop start s))) n (get_or table h 0)
slot_here s start fold {n} {table} r sl off tx e = record {
  slots_are = sl;
  offsets_are = off;
  text_is = tx;
  size = length_folded s start n r fold;
  slot = ap (λ (i : ℕ). get_or table i 0) e;
}

pub returns-then-n-gt-LONGEST : goal.returns-then-n-gt-LONGEST
returns-then-n-gt-LONGEST c = let a = c.args in
    miss_long (folded a.fold (take a.n (drop a.start a.s.now))) (omega (arith, length_folded a.s.now a.start a.n c.requires a.fold, c.if-n-gt-LONGEST.true))

pub returns-then-code-eq-NONE : goal.returns-then-code-eq-NONE
returns-then-code-eq-NONE c = no_slot (slot_here c.args.s.now c.args.start c.args.fold c.requires c.args.self.now.slots_are c.args.self.now.offsets_are c.args.self.now.text_is c.hash_of.ensures) c.if-code-eq-NONE.true

pub bounds-self-k : goal.bounds-self-k
bounds-self-k c = omega (arith, few (slot_here c.args.s.now c.args.start c.args.fold c.requires c.args.self.now.slots_are c.args.self.now.offsets_are c.args.self.now.text_is c.hash_of.ensures) c.if-code-eq-NONE.false, c.byte_index-k.ensures.0)

pub bounds-self-k-2 : goal.bounds-self-k-2
bounds-self-k-2 c = omega (arith, few (slot_here c.args.s.now c.args.start c.args.fold c.requires c.args.self.now.slots_are c.args.self.now.offsets_are c.args.self.now.text_is c.hash_of.ensures) c.if-code-eq-NONE.false, c.byte_index-k.ensures.0)

pub overflow_sub-self : goal.overflow_sub-self
overflow_sub-self c = rises (slot_here c.args.s.now c.args.start c.args.fold c.requires c.args.self.now.slots_are c.args.self.now.offsets_are c.args.self.now.text_is c.hash_of.ensures) c.if-code-eq-NONE.false _ c.byte_index-k.ensures.0

pub returns-then-self-k : goal.returns-then-self-k
returns-then-self-k c = no_length (slot_here c.args.s.now c.args.start c.args.fold c.requires c.args.self.now.slots_are c.args.self.now.offsets_are c.args.self.now.text_is c.hash_of.ensures) c.if-code-eq-NONE.false _ c.byte_index-k.ensures.0 c.if-self-k.true

pub matches-requires : goal.matches-requires
matches-requires c = (c.requires, inside (slot_here c.args.s.now c.args.start c.args.fold c.requires c.args.self.now.slots_are c.args.self.now.offsets_are c.args.self.now.text_is c.hash_of.ensures) c.if-code-eq-NONE.false _ c.byte_index-k.ensures.0 c.if-self-k.false)

pub returns-then-not-matches : goal.returns-then-not-matches
returns-then-not-matches c = no_text (slot_here c.args.s.now c.args.start c.args.fold c.requires c.args.self.now.slots_are c.args.self.now.offsets_are c.args.self.now.text_is c.hash_of.ensures) c.if-code-eq-NONE.false _ c.byte_index-k.ensures.0 c.if-self-k.false
    (sym c.matches.ensures ∙ c.if-not-matches.true)

pub returns : goal.returns
returns c = yes_text (slot_here c.args.s.now c.args.start c.args.fold c.requires c.args.self.now.slots_are c.args.self.now.offsets_are c.args.self.now.text_is c.hash_of.ensures) c.if-code-eq-NONE.false _ c.byte_index-k.ensures.0 c.if-self-k.false
    (sym c.matches.ensures ∙ c.if-not-matches.false)
