use Rattle.memory_rules_parts.specs.Parts.{field_parts}
use Rattle.memory_rules_parts.proofs.Ranges.{grown}
use Rattle.memory_rules_parts.proofs.parts.add_fields.Goals as goal

pub loop-field-preserved : goal.loop-field-preserved
loop-field-preserved c =
    grown (field_parts c.args.object) c.loop-field.field c.args.found.now.items c.loop-field.found.items c.add_field.new.found.items c.loop-field.invariant c.in_ok-add_field.ensures
