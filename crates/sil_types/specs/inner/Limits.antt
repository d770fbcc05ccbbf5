-- Which limit a type exceeds.
use Rattle.std.specs.Prelude.{Bool, true, false, not, nat_le, ◌&&◌, ◌||◌}
use Rattle.std.specs.List.{list_any}
use Rattle.sil_ast.specs.declared.module.Module.{Module}
use Rattle.sil_rules.specs.declared.limits.TheConstants.{DEPTH, LEAVES}
use Rattle.sil_types_declarations.specs.TypeDefinitions.Declarations.{Declarations}
use Rattle.sil_types_declarations.specs.TypeDefinitions.Measures.{measure_of}
use Rattle.sil_types_declarations.specs.TypeDefinitions.Mentions.{Mention, mentions_of}
use Rattle.sil_types_declarations.specs.TypeDefinitions.Rules.{is_too_low}
use Rattle.sil_types_declarations.specs.declared.type_definitions.measure.Measure.{Measure}
use Rattle.sil_types.specs.declared.limits.Limit.{Limit}
use Rattle.sil_types.specs.declared.limits.Limit.TheVariants.{Depth, Leaves, Either}

abbrev pub is_past : Limit → Measure → Bool
is_past Depth m = not (nat_le m.depth DEPTH)
is_past Leaves m = not (nat_le m.leaves LEAVES)
is_past Either m = not (nat_le m.depth DEPTH) || not (nat_le m.leaves LEAVES)

-- the type exceeds the limit on depth or on leaves
abbrev pub exceeds : Limit → Declarations → Mention → Bool
exceeds what d t = is_past what (measure_of d t.ty)

abbrev pub counts_classes : Limit → Bool
counts_classes Depth = true
counts_classes Leaves = false
counts_classes Either = true

-- a type that the module mentions, or a chain of classes, exceeds the limit
abbrev pub any_past : Limit → Declarations → Module → Bool
any_past what d m = list_any (exceeds what d) (mentions_of m) || (counts_classes what && list_any (is_too_low d) m.decls)
