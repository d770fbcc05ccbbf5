use Rattle.std.proofs.Common.{◌≡◌, drop, map}
use Rattle.std.specs.List.{list_any}
use Rattle.sil_types_declarations.specs.TypeDefinitions.Mentions.{in_field}
use Rattle.sil_types_items.proofs.type_mentions.decls.any_in_fields.Given as goal

abbrev pub invariant-loop-field : goal.invariant-loop-field
invariant-loop-field g l = list_any (g.T.MentionTest.holds l.test) (map in_field (drop l.field-index l.fields)) ≡ list_any (g.T.MentionTest.holds l.test) (map in_field l.fields)
