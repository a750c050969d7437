-- A rule as code holds it. Assumes nothing.
use Rattle.copy_vec.specs.Items.{items}
use Rattle.semantics.specs.Rules.{Rule}
use Rattle.semantics.specs.declared.rule.Rule.{Rule as Held}

abbrev pub rule_of : Held → Rule
rule_of r = record { variables = r.variables; source = items r.source; target = items r.target }
