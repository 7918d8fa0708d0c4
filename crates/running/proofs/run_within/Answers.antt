-- `running::run_within` meets its contract: the stages in a line, with arrays for such a file. Assumes nothing.
use mathlib.Core.Path.{sym, ◌∙◌}
use native.Mathlib.Omega.{arith}
use lib.Seq.{length-take-le}
use Rattle.running.proofs.Running.{counted, runs_sized}
use Rattle.running.proofs.Running.{joined_front, joined_length, starts_fit, lengths_fit, terminals_fit, kinds_fit, tokens_fit, sizes_fit, bindings_fit}
use Rattle.running.proofs.run_within.Goals as goal

pub slice_bounds-read_file-end : goal.slice_bounds-read_file-end
slice_bounds-read_file-end g c = counted _

pub slice_bounds-file-end : goal.slice_bounds-file-end
slice_bounds-file-end g c = starts_fit c.read_file-read.ensures c.read_file-read.auto.token_starts

pub slice_bounds-file-end-2 : goal.slice_bounds-file-end-2
slice_bounds-file-end-2 g c = sym (length-take-le _ _ (starts_fit c.read_file-read.ensures c.read_file-read.auto.token_starts))

pub slice_bounds-file-end-3 : goal.slice_bounds-file-end-3
slice_bounds-file-end-3 g c = lengths_fit c.read_file-read.ensures c.read_file-read.auto.token_lengths

pub slice_bounds-file-end-4 : goal.slice_bounds-file-end-4
slice_bounds-file-end-4 g c = sym (length-take-le _ _ (lengths_fit c.read_file-read.ensures c.read_file-read.auto.token_lengths))

pub slice_bounds-file-end-5 : goal.slice_bounds-file-end-5
slice_bounds-file-end-5 g c = sym (length-take-le _ _ (terminals_fit c.read_file-read.ensures c.read_file-read.auto.terminals))

pub slice_bounds-file-end-6 : goal.slice_bounds-file-end-6
slice_bounds-file-end-6 g c = kinds_fit c.read_file-read.ensures c.read_file-read.auto.node_kinds

pub slice_bounds-file-end-7 : goal.slice_bounds-file-end-7
slice_bounds-file-end-7 g c = sym (length-take-le _ _ (kinds_fit c.read_file-read.ensures c.read_file-read.auto.node_kinds))

pub slice_bounds-file-end-8 : goal.slice_bounds-file-end-8
slice_bounds-file-end-8 g c = tokens_fit c.read_file-read.ensures c.read_file-read.auto.node_tokens

pub slice_bounds-file-end-9 : goal.slice_bounds-file-end-9
slice_bounds-file-end-9 g c = sym (length-take-le _ _ (tokens_fit c.read_file-read.ensures c.read_file-read.auto.node_tokens))

pub slice_bounds-file-end-10 : goal.slice_bounds-file-end-10
slice_bounds-file-end-10 g c = sizes_fit c.read_file-read.ensures c.read_file-read.auto.node_sizes

pub slice_bounds-file-end-11 : goal.slice_bounds-file-end-11
slice_bounds-file-end-11 g c = sym (length-take-le _ _ (sizes_fit c.read_file-read.ensures c.read_file-read.auto.node_sizes))

pub slice_bounds-name_sized-end : goal.slice_bounds-name_sized-end
slice_bounds-name_sized-end g c = bindings_fit c.read_file-read.ensures c.read_file-read.auto.roles

pub slice_bounds-name_sized-end-2 : goal.slice_bounds-name_sized-end-2
slice_bounds-name_sized-end-2 g c = sym (length-take-le _ _ (bindings_fit c.read_file-read.ensures c.read_file-read.auto.roles))

pub slice_bounds-name_sized-end-3 : goal.slice_bounds-name_sized-end-3
slice_bounds-name_sized-end-3 g c = counted _

pub slice_bounds-name_sized-end-4 : goal.slice_bounds-name_sized-end-4
slice_bounds-name_sized-end-4 g c = counted _

pub slice_bounds-answer_sized-end : goal.slice_bounds-answer_sized-end
slice_bounds-answer_sized-end g c = bindings_fit c.read_file-read.ensures
    (joined_length c.read_file-read.result.nodes c.name_sized-named.new.bindings c.read_file-read.new.roles c.name_sized-named.auto.bindings (bindings_fit c.read_file-read.ensures c.read_file-read.auto.roles) ∙ c.read_file-read.auto.roles)

pub slice_bounds-answer_sized-end-2 : goal.slice_bounds-answer_sized-end-2
slice_bounds-answer_sized-end-2 g c = sym (length-take-le _ _ (bindings_fit c.read_file-read.ensures
    (joined_length c.read_file-read.result.nodes c.name_sized-named.new.bindings c.read_file-read.new.roles c.name_sized-named.auto.bindings (bindings_fit c.read_file-read.ensures c.read_file-read.auto.roles) ∙ c.read_file-read.auto.roles)))

pub slice_bounds-answer_sized-end-3 : goal.slice_bounds-answer_sized-end-3
slice_bounds-answer_sized-end-3 g c = counted _ ∙ sym c.name_sized-named.auto.types

pub slice_bounds-answer_sized-end-4 : goal.slice_bounds-answer_sized-end-4
slice_bounds-answer_sized-end-4 g c = counted _ ∙ sym c.name_sized-named.auto.constants

pub shape_of-node_bindings : goal.shape_of-node_bindings
shape_of-node_bindings g c = joined_length c.read_file-read.result.nodes c.name_sized-named.new.bindings c.read_file-read.new.roles c.name_sized-named.auto.bindings (bindings_fit c.read_file-read.ensures c.read_file-read.auto.roles) ∙ c.read_file-read.auto.roles

pub returns : goal.returns
returns g c = runs_sized c.read_file-read.ensures c.min.ensures c.min-answers.ensures c.name_sized-named.ensures (joined_front c.read_file-read.result.nodes c.name_sized-named.new.bindings c.read_file-read.new.roles c.name_sized-named.auto.bindings
    (bindings_fit c.read_file-read.ensures c.read_file-read.auto.roles)) c.answer_sized-last.ensures (record {
      token_kinds = c.read_file-read.auto.token_kinds;
      token_starts = c.read_file-read.auto.token_starts;
      token_lengths = c.read_file-read.auto.token_lengths;
      node_kinds = c.read_file-read.auto.node_kinds;
      node_tokens = c.read_file-read.auto.node_tokens;
      node_sizes = c.read_file-read.auto.node_sizes;
      node_bindings = joined_length c.read_file-read.result.nodes c.name_sized-named.new.bindings c.read_file-read.new.roles c.name_sized-named.auto.bindings (bindings_fit c.read_file-read.ensures c.read_file-read.auto.roles) ∙ c.read_file-read.auto.roles;
      answer_kinds = c.answer_sized-last.auto.answer_kinds;
      answer_numbers = c.answer_sized-last.auto.answer_numbers;
      answer_lengths = c.answer_sized-last.auto.answer_lengths;
      room = c.answer_sized-last.auto.room;
    })
    c.name_sized-named.auto.types c.name_sized-named.auto.constants (counted _) (counted _) (counted _) c.requires
