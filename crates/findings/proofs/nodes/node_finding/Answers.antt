-- `findings::nodes::node_finding` meets its contract: one law for each kind of node. Assumes nothing.
use mathlib.Core.Path.{◌∙◌}
use Rattle.meanings.proofs.NodeLaws.{name_node, item_node, self_node, member_node}
use Rattle.findings.proofs.nodes.node_finding.Goals as goal

pub returns-then-kind-eq-NAME : goal.returns-then-kind-eq-NAME
returns-then-kind-eq-NAME c = name_node
    (record {
      token_at = c.index-token.ensures ∙ c.get_or.ensures;
      symbol_at = c.get_or-symbol.ensures;
      place_at = c.get_or-place.ensures;
    }) c.if-kind-eq-NAME.true c.use_meant-meaning.ensures c.use_finding.ensures

pub returns-then-kind-eq-QUALIFIED_ITEM : goal.returns-then-kind-eq-QUALIFIED_ITEM
returns-then-kind-eq-QUALIFIED_ITEM c = item_node
    (record {
      token_at = c.index-token.ensures ∙ c.get_or.ensures;
      symbol_at = c.get_or-symbol.ensures;
      place_at = c.get_or-place.ensures;
    })
    c.if-kind-eq-QUALIFIED_ITEM.true c.saturating_sub-before.ensures
    c.get_or-qualifier.ensures c.get_or-beginning.ensures c.qualified_finding.ensures

pub returns-then-kind-eq-SELF_REFERENCE : goal.returns-then-kind-eq-SELF_REFERENCE
returns-then-kind-eq-SELF_REFERENCE c = self_node
    (record {
      token_at = c.index-token.ensures ∙ c.get_or.ensures;
      symbol_at = c.get_or-symbol.ensures;
      place_at = c.get_or-place.ensures;
    })
    c.if-kind-eq-SELF_REFERENCE.true c.get_or-outside.ensures c.wrong_sort.ensures
    c.found.ensures

pub returns : goal.returns
returns c = member_node
    (record {
      token_at = c.index-token.ensures ∙ c.get_or.ensures;
      symbol_at = c.get_or-symbol.ensures;
      place_at = c.get_or-place.ensures;
    })
    c.if-kind-eq-NAME.false c.if-kind-eq-QUALIFIED_ITEM.false c.if-kind-eq-SELF_REFERENCE.false
    c.member_fault.ensures c.found-2.ensures
